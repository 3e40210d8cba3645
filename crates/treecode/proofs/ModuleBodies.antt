-- The bodies of a module, and its procedures.
use Rattle.treecode.proofs.Prelude.{◌≡◌, ℕ, suc, ◌<◌, List, [], ◌∷◌, length, map, None, Some, option_map, slice_get, refl, sym, ap, ◌∙◌, subst, vec_items, length-map, none-some, same_Some, slice_get-map, slice_get_within, Procedure, TypedModule, TypedProcedure, procedure_view, Storage, Expression, Lowering, TreeModule, TreeProcedure, IsProcedure, Nodes, nodes_of, Outside, beside, outside, walk_of, AreComplete, BodiesAreAdded, HasHeading, MainIsComplete, SameHeading, Heading, HeadingsAre, heading_at, heading_of, headings_of, AreSound}
use Rattle.treecode.proofs.AddedExpressions.{leads_on}
use Rattle.treecode.proofs.Bodies.{body_stays}
use Rattle.treecode.proofs.Grown.{nothing_found}

-- no nodes are sound
pub none_sound : (nodes : Nodes) → nodes.expressions ≡ [] → AreSound nodes
none_sound nodes none = record {
  keeps = λ number expression e. absurd (nothing_found (lacking number ∙ e));
  rises = λ number expression e. absurd (nothing_found (lacking number ∙ e));
}
  where
    lacking : (number : ℕ) → None ≡ slice_get nodes.expressions number
    lacking number = sym (ap (λ (all : List Expression). slice_get all number) none)

pub bodies_added : (typed : TypedModule) (storage : Storage) (first second third : Lowering)
    (procedures : List Procedure)
    → typed.procedures ≡ map procedure_view procedures
    → AreComplete storage (walk_of first) (walk_of second) (outside first) (outside second)
    (map procedure_view procedures) (length procedures)
    → MainIsComplete storage (walk_of second) (walk_of third) (outside second) (outside third) typed.main
    → BodiesAreAdded typed storage first.tree third.tree
unfolding beside
bodies_added typed storage first second third procedures same done main = record {
  leads = leads_on done.leads main.leads;
  name = ap (λ (one : Outside). one.name) main.others ∙ ap (λ (one : Outside). one.name) done.others;
  externals =
      ap (λ (one : Outside). one.externals) main.others ∙ ap (λ (one : Outside). one.externals) done.others;
  count = ap length kept ∙ done.count;
  headed = λ number procedure at. done.headed number procedure (found number procedure at);
  complete = λ number procedure tree at heading.
      body_stays storage (nodes_of second.tree) (nodes_of third.tree) procedure tree main.leads
      (done.complete number procedure tree (below number tree heading) (found number procedure at)
      (ap (λ (all : List TypedProcedure). slice_get all number) (sym same) ∙ heading));
  main_heading = subst (λ (one : TreeProcedure). SameHeading one third.tree.main)
      (ap (λ (one : Outside). one.main) done.others) main.heading;
  main = main.has_body;
}
  where
    kept : third.tree.procedures.items ≡ second.tree.procedures.items
    kept = ap (λ (one : Outside). one.procedures) main.others

    found : (number : ℕ) (procedure : TreeProcedure)
        → slice_get third.tree.procedures.items number ≡ Some procedure
        → slice_get second.tree.procedures.items number ≡ Some procedure
    found number procedure at = ap (λ (all : List TreeProcedure). slice_get all number) (sym kept) ∙ at

    below : (number : ℕ) (tree : TypedProcedure) → slice_get typed.procedures number ≡ Some tree
        → number < length procedures
    below number tree heading =
        subst (λ (count : ℕ). number < count) (ap length same ∙ length-map procedures procedure_view)
        (slice_get_within typed.procedures number tree heading)

-- lists have the same length if each has an item at each index of the other
as_long : {A B : Type 0} (f : ℕ → B → A) (xs : List A) (ys : List B)
    → ((number : ℕ) → slice_get xs number ≡ option_map (f number) (slice_get ys number))
    → length xs ≡ length ys
as_long f [] [] same = refl
as_long f [] (y ∷ ys) same = absurd (none-some (f 0 y) (same 0))
as_long f (x ∷ xs) [] same = absurd (none-some x (sym (same 0)))
as_long f (x ∷ xs) (y ∷ ys) same =
    ap suc (as_long (λ (number : ℕ). f (suc number)) xs ys (λ (number : ℕ). same (suc number)))

module _ (typed : TypedModule) (storage : Storage) (before after : TreeModule)
    (headings : HeadingsAre typed (headings_of before))
    (added : BodiesAreAdded typed storage before after) where
  -- there are as many procedures as in the module
  pub procedures_counted : length after.procedures.items ≡ length typed.procedures
  procedures_counted =
      added.count
      ∙ sym (length-map before.procedures.items heading_of)
      ∙ as_long (heading_at typed) (headings_of before) typed.procedures headings

  -- each procedure is that of the module
  pub procedures_are : (number : ℕ) (procedure : TreeProcedure) (heading : TypedProcedure)
      → slice_get after.procedures.items number ≡ Some procedure
      → slice_get typed.procedures number ≡ Some heading
      → IsProcedure typed (nodes_of after) storage number procedure heading
  procedures_are number procedure heading at there = record {
    kind = old.same.kind ∙ ap (λ (one : Heading). one.kind) is;
    result = old.same.result ∙ ap (λ (one : Heading). one.result) is;
    frame = ap vec_items old.same.frame ∙ ap (λ (one : Heading). one.frame) is;
    frame_bytes = old.same.frame_bytes ∙ ap (λ (one : Heading). one.frame_bytes) is;
    has_body = added.complete number procedure heading at there;
  }
    where
      old : HasHeading before.procedures.items number procedure
      old = added.headed number procedure at

      is : heading_of old.old ≡ heading_at typed number heading
      is = same_Some (heading_of old.old) (heading_at typed number heading)
          (sym (slice_get-map heading_of before.procedures.items number ∙ ap (option_map heading_of) old.at)
          ∙ headings number ∙ ap (option_map (heading_at typed number)) there)
