-- The bodies of procedures represent their trees.
use Rattle.treecode.proofs.Prelude.{◌≡◌, ◌⊎◌, ℕ, zero, suc, ◌+◌, ◌<◌, ◌≤◌, min, max, true, List, [], ◌∷◌, length, map, set, get_or, Option, Some, None, option_map, slice_get, inl, inr, refl, sym, ap, ◌∙◌, subst, arith, slice_set, option_map_or, get_or_from_slice_get, slice_get-get_or, slice_get-map, slice_get_within, Procedure, procedure_view, height_of_list, BodyIsSound, TypedProcedure, Storage, Home, TreeProcedure, AddedList, parameters_of, HasBody, labels_numbered_in_list, reaches_end_of_list, Nodes, Outside, AreComplete, BodiesAreSound, HasHeading, IsBody, MainIsComplete, SameHeading, completed, with_body, AreSound, Leads, Walk, begun, list_in, length-set, same_Some}
use Rattle.treecode.specs.declared.procedures.Body.{Body}
use Rattle.treecode.proofs.AddedExpressions.{leads_nowhere, leads_on}
use Rattle.treecode.proofs.AddedStatements.{ListIs, list_added, list_stays}
use Rattle.treecode.proofs.Grown.{nothing_found}
use Rattle.treecode.proofs.LabelNumbers.{Knows}

from_none : (count height : ℕ) → count ≡ max 0 (min height 65535) → count ≡ min height 65535
from_none count height e = omega arith

module _ (storage : Storage) where
  -- at the start of a body no label has a number
  begins : (walk : Walk) → Knows (begun walk).labels (begun walk).label_count [] []
  begins walk = record { counted = refl; found = λ label any. absurd (none any.0 any.2) }
    where
      none : (index : ℕ) → index < 0 → ⊥
      none index below = omega arith

  list_is : (walk after : Walk) (list : AddedList) (tree : TypedProcedure)
      → AreSound walk.nodes → BodyIsSound tree.body → list_in storage (begun walk) tree.body ≡ (after, list)
      → ListIs storage (begun walk) [] [] (after, list) tree.body
  list_is walk after list tree sound jumps e =
      subst (λ (made : Walk × AddedList). ListIs storage (begun walk) [] [] made tree.body) e
      (list_added storage (begun walk) [] [] tree.body sound (begins walk) jumps.closed jumps.stands)

  pub body_leads : (walk after : Walk) (body : Body) (tree : TypedProcedure)
      → AreSound walk.nodes → BodyIsSound tree.body → IsBody storage walk after body tree
      → Leads walk.nodes after.nodes
  body_leads walk after body tree sound jumps is =
      (list_is walk after (record { range = body.range; reaches_its_end = body.reaches_its_end }) tree sound
      jumps
      is.added).leads

  -- a procedure that is completed has its body
  pub body_is : (walk after : Walk) (body : Body) (procedure : TreeProcedure) (tree : TypedProcedure)
      → AreSound walk.nodes → BodyIsSound tree.body → IsBody storage walk after body tree
      → HasBody after.nodes storage (completed procedure body) tree
  body_is walk after body procedure tree sound jumps is = record {
    parameters =
        is.parameters ∙ ap (λ (starts : List Home). parameters_of starts tree) (sym list.leads.homes);
    body = list.is (labels_numbered_in_list tree.body) (λ index x e. e);
    label_count = is.label_count ∙ list.knows.counted;
    reaches_its_end = list.ends
        ∙ ap (λ (starts : List Home). reaches_end_of_list starts storage true tree.body)
        (sym list.leads.homes);
    height = is.height ∙ from_none after.height (height_of_list tree.body) list.height;
  }
    where
      list : ListIs storage (begun walk) [] []
          (after, record { range = body.range; reaches_its_end = body.reaches_its_end }) tree.body
      list = list_is walk after (record { range = body.range; reaches_its_end = body.reaches_its_end }) tree
          sound
          jumps is.added

  pub body_stays : (before after : Nodes) (procedure : TreeProcedure) (tree : TypedProcedure)
      → Leads before after → HasBody before storage procedure tree → HasBody after storage procedure tree
  body_stays before after procedure tree leads has = record {
    parameters = has.parameters ∙ ap (λ (starts : List Home). parameters_of starts tree) (sym leads.homes);
    body = list_stays before after storage leads.grows (labels_numbered_in_list tree.body) _
        leads.statements has.body;
    label_count = has.label_count;
    reaches_its_end = has.reaches_its_end
        ∙ ap (λ (starts : List Home). reaches_end_of_list starts storage true tree.body) (sym leads.homes);
    height = has.height;
  }

  -- the main program
  pub main_is : (walk after : Walk) (before now : Outside) (body : Body) (tree : TypedProcedure)
      → AreSound walk.nodes → BodyIsSound tree.body → IsBody storage walk after body tree
      → now ≡ record before { main = completed before.main body }
      → MainIsComplete storage walk after before now tree
  main_is walk after before now body tree sound jumps is e =
      subst (λ (one : Outside). MainIsComplete storage walk after before one tree) (sym e)
      (record {
        leads = body_leads walk after body tree sound jumps is;
        others = refl;
        heading = record { kind = refl; result = refl; frame = refl; frame_bytes = refl };
        has_body = body_is walk after body before.main tree sound jumps is;
      })

-- the items of a list with one item replaced
set_found : {A : Type 0} (xs : List A) (index other : ℕ) (y z : A) → slice_get (set xs index y) other ≡ Some z
    → ((other ≡ index) × (y ≡ z)) ⊎ (slice_get xs other ≡ Some z)
set_found [] index other y z e = inr e
set_found (x ∷ xs) zero zero y z e = inl (refl, same_Some _ _ e)
set_found (x ∷ xs) zero (suc other) y z e = inr e
set_found (x ∷ xs) (suc index) zero y z e = inr e
set_found (x ∷ xs) (suc index) (suc other) y z e =
    elim (set_found xs index other y z e) [ inl is ↦ inl (ap suc is.0, is.1) | inr found ↦ inr found ]

below_or_at : (number count : ℕ) → number < count + 1 → (number ≡ count) ⊎ (number < count)
below_or_at zero zero below = inl refl
below_or_at zero (suc count) below = inr (omega arith)
below_or_at (suc number) zero below = absurd (omega arith)
below_or_at (suc number) (suc count) below =
    elim (below_or_at number count (omega arith)) [ inl e ↦ inl (ap suc e) | inr less ↦ inr (omega arith) ]

heading_on : (procedures : List TreeProcedure) (number : ℕ) (middle now : TreeProcedure)
    → HasHeading procedures number middle → SameHeading middle now → HasHeading procedures number now
heading_on procedures number middle now has same = record {
  old = has.old;
  at = has.at;
  same = record {
    kind = same.kind ∙ has.same.kind;
    result = same.result ∙ has.same.result;
    frame = same.frame ∙ has.same.frame;
    frame_bytes = same.frame_bytes ∙ has.same.frame_bytes;
  };
}

module _ (storage : Storage) (first now after : Walk) (before middle : Outside)
    (headings : List TypedProcedure)
    (count : ℕ) (done : AreComplete storage first now before middle headings count)
    (body : Body) (tree : TypedProcedure) (jumps : BodyIsSound tree.body)
    (at : slice_get headings count ≡ Some tree)
    (is : IsBody storage now after body tree) where
  leads : Leads now.nodes after.nodes
  leads = body_leads storage now after body tree done.leads.sound jumps is

  -- one more procedure is complete
  pub one_more_complete : (procedure : TreeProcedure) (last : Outside)
      → slice_get middle.procedures count ≡ Some procedure
      → last ≡ record middle { procedures = set middle.procedures count (completed procedure body) }
      → AreComplete storage first after before last headings (count + 1)
  one_more_complete procedure last found e =
      subst (λ (one : Outside). AreComplete storage first after before one headings (count + 1)) (sym e)
      (record {
        leads = leads_on done.leads leads;
        others =
            ap (λ (one : Outside). record one { procedures = set middle.procedures count (completed procedure body) })
            done.others;
        count = length-set middle.procedures count (completed procedure body) ∙ done.count;
        headed = λ number one given.
            elim (set_found middle.procedures count number (completed procedure body) one given) [
              | inl same ↦ heading_on before.procedures number procedure one
                  (done.headed number procedure (ap (λ (index : ℕ). slice_get middle.procedures index) same.0
                  ∙ found))
                  (subst (λ (made : TreeProcedure). SameHeading procedure made) same.1
                  (record { kind = refl; result = refl; frame = refl; frame_bytes = refl }))
              | inr other ↦ done.headed number one other
            ];
        complete = λ number one of below given heading.
            elim (set_found middle.procedures count number (completed procedure body) one given) [
              | inl same ↦ own one of same.1
                  (same_Some _ _ (sym at ∙ ap (λ (index : ℕ). slice_get headings index) (sym same.0)
                  ∙ heading))
              | inr other ↦ elim (below_or_at number count below) [
                | inl same ↦ own_again number one of same heading given
                | inr less ↦ body_stays storage now.nodes after.nodes one of leads
                    (done.complete number one of less other heading)
              ]
            ];
      })
    where
      own : (one : TreeProcedure) (of : TypedProcedure) → completed procedure body ≡ one → tree ≡ of
          → HasBody after.nodes storage one of
      own one of e f =
          subst (λ (made : TreeProcedure). HasBody after.nodes storage made of) e
          (subst (λ (of : TypedProcedure). HasBody after.nodes storage (completed procedure body) of) f
          (body_is storage now after body procedure tree done.leads.sound jumps is))

      found_set : (xs : List TreeProcedure) (index : ℕ) (x y : TreeProcedure) → slice_get xs index ≡ Some x
          → slice_get (set xs index y) index ≡ Some y
      found_set [] index x y e = absurd (nothing_found e)
      found_set (first ∷ xs) zero x y e = refl
      found_set (first ∷ xs) (suc index) x y e = found_set xs index x y e

      own_again : (number : ℕ) (one : TreeProcedure) (of : TypedProcedure) → number ≡ count
          → slice_get headings number ≡ Some of
          → slice_get (set middle.procedures count (completed procedure body)) number ≡ Some one
          → HasBody after.nodes storage one of
      own_again number one of same heading given =
          own one of
          (same_Some _ _ (sym (found_set middle.procedures count procedure (completed procedure body) found)
          ∙ ap (λ (index : ℕ). slice_get (set middle.procedures count (completed procedure body)) index)
          (sym same)
          ∙ given))
          (same_Some _ _ (sym at ∙ ap (λ (index : ℕ). slice_get headings index) (sym same) ∙ heading))

  -- without such a procedure
  pub none_more_complete : slice_get middle.procedures count ≡ None
      → AreComplete storage first after before middle headings (count + 1)
  none_more_complete none = record {
    leads = leads_on done.leads leads;
    others = done.others;
    count = done.count;
    headed = done.headed;
    complete = λ number one of below given heading.
        elim (below_or_at number count below) [
          | inl same ↦ absurd (nothing_found
              (sym none ∙ ap (λ (index : ℕ). slice_get middle.procedures index) (sym same) ∙ given))
          | inr less ↦ body_stays storage now.nodes after.nodes one of leads
              (done.complete number one of less given heading)
        ];
  }

-- at first no procedure is complete
pub none_complete : (storage : Storage) (first : Walk) (before : Outside) (headings : List TypedProcedure)
    → AreSound first.nodes → AreComplete storage first first before before headings 0
none_complete storage first before headings sound = record {
  leads = leads_nowhere first.nodes sound;
  others = refl;
  count = refl;
  headed = λ number procedure at. record {
    old = procedure;
    at = at;
    same = record { kind = refl; result = refl; frame = refl; frame_bytes = refl };
  };
  complete = λ number procedure tree below at heading. absurd (omega arith);
}

-- a property of all holds for the one with this number
sound_body : (trees : List TypedProcedure) (number : ℕ) (tree : TypedProcedure) → BodiesAreSound trees
    → slice_get trees number ≡ Some tree → BodyIsSound tree.body
sound_body trees number tree all at =
    subst (λ (one : TypedProcedure). BodyIsSound one.body) (get_or_from_slice_get trees number tree tree at)
    (all number tree (slice_get_within trees number tree at))

-- one more procedure, if there is one with this number
pub next_complete : (storage : Storage) (first now after : Walk) (before middle last : Outside)
    (headings : List TypedProcedure) (count : ℕ) (body : Body) (tree : TypedProcedure)
    → AreComplete storage first now before middle headings count
    → BodiesAreSound headings → slice_get headings count ≡ Some tree → IsBody storage now after body tree
    → last ≡ with_body middle count body
    → AreComplete storage first after before last headings (count + 1)
next_complete storage first now after before middle last headings count body tree done sound at is e =
    by_place (slice_get middle.procedures count) refl
  where
    by_place : (found : Option TreeProcedure) → slice_get middle.procedures count ≡ found
        → AreComplete storage first after before last headings (count + 1)
    by_place None none =
        subst (λ (one : Outside). AreComplete storage first after before one headings (count + 1))
        (sym (e ∙ ap (λ (found : Option TreeProcedure). record middle {
          procedures = option_map_or
              (λ (procedure : TreeProcedure). slice_set middle.procedures count (completed procedure body))
              found
              middle.procedures;
        }) none))
        (none_more_complete storage first now after before middle headings count done body tree
        (sound_body headings count tree sound at) at is none)
    by_place (Some procedure) found =
        one_more_complete storage first now after before middle headings count done body tree
        (sound_body headings count tree sound at) at is procedure last found
        (e ∙ ap (λ (one : Option TreeProcedure). record middle {
          procedures = option_map_or
              (λ (procedure : TreeProcedure). slice_set middle.procedures count (completed procedure body))
              one
              middle.procedures;
        }) found)

-- the tree with this number, seen from the procedures of the code
pub tree_at : (procedures : List Procedure) (number : ℕ) (procedure : Procedure) → number < length procedures
    → procedure ≡ get_or procedures number procedure
    → slice_get (map procedure_view procedures) number ≡ Some (procedure_view procedure)
tree_at procedures number procedure below is =
    slice_get-map procedure_view procedures number
    ∙ ap (option_map procedure_view)
    (slice_get-get_or procedures number procedure below ∙ ap Some (sym is))

-- a procedure put into its place
pub body_put : (procedures : List TreeProcedure) (number : ℕ) (procedure now : TreeProcedure) (body : Body)
    → slice_get procedures number ≡ Some procedure → now ≡ completed procedure body
    → set procedures number now
    ≡ option_map_or (λ (one : TreeProcedure). slice_set procedures number (completed one body))
    (slice_get procedures number) procedures
body_put procedures number procedure now body found e =
    ap (set procedures number) e
    ∙ ap (λ (one : Option TreeProcedure).
    option_map_or (λ (one : TreeProcedure). slice_set procedures number (completed one body)) one procedures)
    (sym found)

-- all are complete
pub all_complete : {storage : Storage} {first now : Walk} {before after : Outside}
    {headings : List TypedProcedure}
    (procedures : List Procedure) (count : ℕ) → length procedures ≤ count
    → AreComplete storage first now before after headings count
    → AreComplete storage first now before after headings (length procedures)
all_complete procedures count past done = record {
  leads = done.leads;
  others = done.others;
  count = done.count;
  headed = done.headed;
  complete = λ number procedure tree below at heading.
      done.complete number procedure tree (up number (length procedures) past below) at heading;
}
  where
    up : (number total : ℕ) → total ≤ count → number < total → number < count
    up number total within below = omega arith
