-- The labels that a module's own code binds: those of its procedures' entries, and labels after those of the routines; each once.
use Rattle.codegen8080.proofs.Prelude.{◌≡◌, ◌⊎◌, inl, inr, ℕ, zero, suc, ◌+◌, ◌<◌, ◌≤◌, ◌∙◌, ◌==◌, ◌||◌, Hlt, Sp, LoadPair, stack_end_item, LabelNumber, append_assoc, none-some, Bool, true, false, List, [], ◌∷◌, ◌++◌, length, Option, Some, None, slice_get, slice_get_within, same_Some, refl, sym, ap, subst, arith, append-nil, Item, Content, TreeModule, TreeProcedure, ProcedureKind, Body, Here, Facts, AreCarriedOut, AreStepsLabelled, IsListLabelled, IsMainCode, IsMainLabelled, IsOwnCode, IsProcedureCode, IsProcedureLabelled, content_items, contents_items, entry_labels, entry_steps, has_main, label_after, label_of, end_steps, no_facts}
use Rattle.std.proofs.Common.{◌≢◌}
use Rattle.std.specs.Prelude.{AllPairs, flat_map}
use Rattle.std.proofs.lemmas.Bool.{eqb-true}
use Rattle.asm8080.specs.Items.{BoundOnce, is_bound}
use Rattle.asm8080.specs.declared.item.Item.TheVariants as items
use Rattle.layout.specs.Storage.{Storage}
use Rattle.typed_trees.specs.Jumps.{JumpsAreSound, labels_in_list, labels_in_module, labels_in_procedure}
use Rattle.typed_trees.specs.TypedTrees.{TypedModule, TypedProcedure}
use Rattle.treecode.specs.internal.Lowered.{HasBody, IsList, IsLowered, labels_numbered_in_list}
use Rattle.treecode.specs.internal.Nodes.{nodes_of}
use Rattle.treecode.proofs.OwnNames.{item_within}
use Rattle.treecode.specs.internal.Rising.{NumbersRise}
use Rattle.treecode.specs.declared.module.Content.TheVariants as contents
use Rattle.treecode.specs.declared.place.Place.{Place}
use Rattle.treecode.specs.declared.place.Place.TheVariants as places
use Rattle.treecode.specs.declared.procedure.ProcedureKind.TheVariants as kinds
use Rattle.steps8080.proofs.{Binding.{bound_in, once_both, true_of}, Numbered.{false_by, not_both}}
use Rattle.statements8080.specs.internal.Bodies.{body_label}
use Rattle.exprgen8080.specs.internal.Emission.{first_label}
use Rattle.exprgen8080.specs.internal.Marks.{Differ, IsIn}
use Rattle.codegen8080.specs.internal.Modules.{AreCodeOf, AreProceduresLabelled, IsCodeLabelled, IsCodeOf, IsCodeOfMain, IsCodeOfMainLabelled, IsEndCode, IsEndLabelled, IsOwnLabelled}
use Rattle.codegen8080.specs.internal.Sources.{IsOfModule}
use Rattle.codegen8080.proofs.{BoundLabels.{Ground, IsNamed, PlanBound, TreeBound, as_plan, as_tree, body_bound, form_bound, list_rises, part_before, plan_bound, plan_rises}, DifferentNumbers.{differ_alone, differ_first, differ_later, differ_pairs}, EntryLabels.{entry_form}, FormLabels.{NoParts, TakesLabels, bare_plan}, Outlines.{end_is_bare}}

-- items that bind labels from a number on, and below another
pub record BindsFrom (low high : ℕ) (list : List Item) : Type 0 where
  pub once : BoundOnce list
  pub bound : (one : ℕ) → is_bound one list ≡ true → (low ≤ one) × (one < high)

nothing_bound : {low high : ℕ} → BindsFrom low high []
nothing_bound = record { once = tt; bound = λ one found. absurd (not_both false found refl) }

-- the contents of a segment bind nothing
address_unbound : (place : Place) → BindsFrom 0 0 (content_items (contents.Word place))
address_unbound (places.Number number) = record {
  once = (λ one binds. absurd (not_both false binds refl), (λ one binds. absurd (not_both false binds refl), tt));
  bound = λ one found. absurd (not_both false found refl);
}
address_unbound (places.Code offset) = record {
  once = (λ one binds. absurd (not_both false binds refl), tt);
  bound = λ one found. absurd (not_both false found refl);
}
address_unbound (places.Data offset) = record {
  once = (λ one binds. absurd (not_both false binds refl), tt);
  bound = λ one found. absurd (not_both false found refl);
}
address_unbound (places.External offset name) = record {
  once = (λ one binds. absurd (not_both false binds refl), tt);
  bound = λ one found. absurd (not_both false found refl);
}

content_unbound : (content : Content) → BindsFrom 0 0 (content_items content)
content_unbound (contents.Byte value) = record {
  once = (λ one binds. absurd (not_both false binds refl), tt);
  bound = λ one found. absurd (not_both false found refl);
}
content_unbound (contents.Word place) = address_unbound place
content_unbound (contents.Gap count) = record {
  once = (λ one binds. absurd (not_both false binds refl), tt);
  bound = λ one found. absurd (not_both false found refl);
}

pub contents_unbound : (list : List Content) → BindsFrom 0 0 (contents_items list)
contents_unbound [] = nothing_bound
contents_unbound (content ∷ others) =
    let one = content_unbound content in
    let rest = contents_unbound others in
    record {
      once = once_both (content_items content) (contents_items others) one.once rest.once
          (λ label here there. let low = one.bound label here in omega (arith, low.1));
      bound = λ label found. elim (bound_in label (content_items content) (contents_items others) found) [
        | inl here ↦ one.bound label here
        | inr there ↦ rest.bound label there
      ];
    }

-- no number of a label stands in two lists of the module
in_procedures : (number : ℕ) (procedures : List TypedProcedure) (others : List ℕ) (heading : TypedProcedure)
    → slice_get procedures number ≡ Some heading
    → Differ (flat_map labels_in_procedure procedures ++ others)
    → Differ (labels_in_list heading.body)
in_procedures number [] others heading there differ = absurd (none-some heading there)
in_procedures zero (first ∷ procedures) others heading there differ =
    let same : first ≡ heading = same_Some first heading there in
    subst (λ (one : TypedProcedure). Differ (labels_in_list one.body)) same
    (differ_first (labels_in_procedure first) (flat_map labels_in_procedure procedures)
    (differ_first (labels_in_procedure first ++ flat_map labels_in_procedure procedures) others differ))
in_procedures (suc number) (first ∷ procedures) others heading there differ =
    in_procedures number procedures others heading there
    (differ_later (labels_in_procedure first) (flat_map labels_in_procedure procedures ++ others)
    (subst Differ
    (append_assoc (labels_in_procedure first) (flat_map labels_in_procedure procedures) others) differ))

-- a body whose labels are taken from a number on
ground_of :
    (body : Body) (labels : List ℕ) (label base : ℕ)
    → NumbersRise (nodes_of body.tree.now)
    → body.first_label ≡ label_of label
    → label + length labels ≤ base
    → base < 4294967295
    → Ground body labels base
ground_of body labels label base rise named fits few = record {
  rise = rise;
  low = λ place name there.
      let within : place < length labels = slice_get_within labels place name there in
      omega (arith, within, from, fits, few);
  one = λ place other name more there also same.
      let within : place < length labels = slice_get_within labels place name there in
      let also_within : other < length labels = slice_get_within labels other more also in
      let same_place : place ≡ other = omega (arith, within, also_within, from, fits, few, same) in
      same_Some name more (sym there ∙ ap (slice_get labels) same_place ∙ also);
}
  where
    from : body.first_label.index ≡ label
    from = ap (λ (one : LabelNumber). one.index) named

-- labels of the source lie between those
named_within :
    (body : Body) (labels held : List ℕ) (label base : ℕ)
    → Ground body labels base
    → body.first_label ≡ label_of label
    → base < 4294967295
    → (one : ℕ) → IsNamed body labels held one → (label ≤ one) × (one < base)
named_within body labels held label base ground named few one is =
    let from : body.first_label.index ≡ label = ap (λ (one : LabelNumber). one.index) named in
    let low = ground.low is.place is.label is.at in
    (omega (arith, low, from, few, is.is), omega (arith, low, is.is))

tree_within :
    {body : Body} {labels held : List ℕ} {label base first next : ℕ} {list : List Item}
    → Ground body labels base
    → body.first_label ≡ label_of label
    → base < 4294967295
    → label ≤ first
    → base ≤ next
    → TreeBound body labels held first next list
    → BindsFrom label next list
tree_within {body = body} {labels = labels} {held = held} {label = label} {base = base} ground named few less more is = record {
  once = is.once;
  bound = λ one found. elim (is.bound one found) [
    | inl taken ↦ (omega (arith, taken.0, less), taken.1)
    | inr source ↦
        let low = named_within body labels held label base ground named few one source in
        (low.0, omega (arith, low.1, more))
  ];
}

-- a label before items that bind later ones
label_before :
    (label low high : ℕ) {list : List Item}
    → label < low
    → low ≤ high
    → BindsFrom low high list
    → BoundOnce (items.Mark label ∷ list)
    × ((one : ℕ) → is_bound one (items.Mark label ∷ list) ≡ true → (one ≡ label) ⊎ ((low ≤ one) × (one < high)))
label_before label low high {list = list} less more is = (
  (
    λ one binds. false_by (is_bound one list) (λ found.
        let same : one ≡ label = eqb-true one label binds in
        let after = is.bound one found in
        omega (arith, same, after.0, less)),
    is.once,
  ),
  λ one found. elim (true_of (one == label) (is_bound one list) found) [
    | inl here ↦ inl (eqb-true one label here)
    | inr there ↦ inr (is.bound one there)
  ],
)

-- the end of a procedure
end_rises :
    (body : Body) (called : List Bool) (here : Here) (is_reached : Bool) (list : List Item) (label next : ℕ)
    (code : IsEndCode body called here is_reached list)
    → IsEndLabelled body called here is_reached list code label next → next < 4294967295 → label ≤ next
end_rises body called here true list label next code labels few = plan_rises label next code.1 labels few
end_rises body called here false list label next code labels few = omega (arith, labels)

end_bound :
    {body : Body} {labels : List ℕ} {base : ℕ} (ground : Ground body labels base) (storage : Storage)
    (called : List Bool) (here : Here) (is_reached : Bool) (list : List Item) (label next : ℕ)
    (code : IsEndCode body called here is_reached list)
    → IsEndLabelled body called here is_reached list code label next
    → next < 4294967295
    → base ≤ label
    → TreeBound body labels [] label next list
end_bound {body = body} ground storage called here true list label next code are few high =
    form_bound ground {storage = storage} {bound = 0} (end_steps body) label label 0 label next refl (omega arith)
    (plan_rises label next code.1 are few) high
    (TakesLabels (bare_plan (end_is_bare body))) tt
    (λ held parts differ marks low apart.
    plan_bound ground label next code.1 are few high parts differ marks low apart)
end_bound {body = body} {labels = names} ground storage called here false list label next code are few high =
    subst (λ (given : List Item). TreeBound body names [] label next given) (sym code)
    (record { once = tt; bound = λ one found. absurd (not_both false found refl) })

-- labels are taken in the order of the procedures
procedure_rises :
    {tree : TreeModule} {called : List Bool} {number : ℕ} {procedure : TreeProcedure} {list : List Item}
    (label next : ℕ) (code : IsProcedureCode tree called number procedure list)
    → IsProcedureLabelled code label next → next < 4294967295 → label ≤ next
procedure_rises {called = called} {procedure = procedure} label next code are few =
    let ended_fits : are.ended ≤ next =
    end_rises code.body called code.last procedure.reaches_its_end code.ending are.ended next code.ends are.ends few in
    let begun_fits : are.begun ≤ are.ended =
    list_rises are.begun are.ended code.written are.written (omega (arith, ended_fits, few)) in
    let begins_fit : label_after code.first (entry_labels code.body) ≤ are.begun =
    plan_rises (label_after code.first (entry_labels code.body)) are.begun code.begins are.begins
    (omega (arith, begun_fits, ended_fits, few)) in
    omega (arith, are.first, begins_fit, begun_fits, ended_fits, few)

code_rises :
    (tree : TreeModule) (called : List Bool) (number : ℕ) (procedure : TreeProcedure) (kind : ProcedureKind)
    (list : List Item) (label next : ℕ) (code : IsCodeOf tree called number procedure kind list)
    → IsCodeLabelled tree called number procedure kind list code label next → next < 4294967295 → label ≤ next
code_rises tree called number procedure (kinds.External name) list label next code are few = omega (arith, are)
code_rises tree called number procedure kinds.Static list label next code are few =
    procedure_rises label next code are few
code_rises tree called number procedure kinds.Reentrant list label next code are few =
    procedure_rises label next code are few

procedures_rise :
    (tree : TreeModule) (called : List Bool) (number : ℕ) (procedures : List TreeProcedure) (list : List Item)
    (label next : ℕ) (code : AreCodeOf tree called number procedures list)
    → AreProceduresLabelled tree called number procedures list code label next → next < 4294967295 → label ≤ next
procedures_rise tree called number [] list label next code are few = omega (arith, are)
procedures_rise tree called number (procedure ∷ others) list label next code are few =
    let rest : are.0 ≤ next = procedures_rise tree called (suc number) others code.1 are.0 next code.3 are.2 few in
    let this : label ≤ are.0 =
    code_rises tree called number procedure procedure.kind code.0 label are.0 code.2 are.1 (omega (arith, rest, few)) in
    omega (arith, rest, this)

module _ (tree : TreeModule) (typed : TypedModule) (storage : Storage)
    (jumps : JumpsAreSound typed) (lowered : IsLowered typed storage tree)
  where
    all_differ : Differ (labels_in_module typed)
    all_differ = differ_pairs (labels_in_module typed) jumps.labels

    rise_in : (body : Body) → body.tree.now ≡ tree → NumbersRise (nodes_of body.tree.now)
    rise_in body same = subst (λ (one : TreeModule). NumbersRise (nodes_of one)) (sym same) lowered.order

    -- a procedure that is not EXTERNAL
    procedure_bound :
        (called : List Bool) (number : ℕ) (procedure : TreeProcedure) (heading : TypedProcedure) (list : List Item)
        (label next : ℕ)
        (code : IsProcedureCode tree called number procedure list)
        → IsProcedureLabelled code label next
        → next < 4294967295
        → number < label
        → HasBody (nodes_of tree) storage procedure heading
        → Differ (labels_in_list heading.body)
        → BoundOnce list
        × ((one : ℕ) → is_bound one list ≡ true → (one ≡ number) ⊎ ((label ≤ one) × (one < next)))
        × (label ≤ next)
    procedure_bound called number procedure heading list label next code are few less has differ =
        let names : List ℕ = labels_numbered_in_list heading.body in
        let body : Body = code.body in
        let ended_fits : are.ended ≤ next =
        end_rises body called code.last procedure.reaches_its_end code.ending are.ended next code.ends are.ends few in
        let begun_fits : are.begun ≤ are.ended =
        list_rises are.begun are.ended code.written are.written (omega (arith, ended_fits, few)) in
        let begins_fit : label_after code.first (entry_labels body) ≤ are.begun =
        plan_rises (label_after code.first (entry_labels body)) are.begun code.begins are.begins
        (omega (arith, begun_fits, ended_fits, few)) in
        let entry_fits : code.first + entry_labels body ≡ label_after code.first (entry_labels body) =
        omega (arith, begins_fit, begun_fits, ended_fits, few) in
        let first_is : label + procedure.label_count ≡ code.first =
        omega (arith, are.first, begins_fit, begun_fits, ended_fits, few, entry_fits) in
        let count : procedure.label_count ≡ length names = has.label_count in
        let few_here : code.first < 4294967295 =
        omega (arith, entry_fits, begins_fit, begun_fits, ended_fits, few) in
        let ground : Ground body names code.first =
        ground_of body names label code.first (rise_in body code.tree_is) are.named
        (omega (arith, first_is, count)) few_here in
        let entry : TreeBound body names [] code.first are.begun code.beginning =
        form_bound ground {storage = storage} {bound = 0} (entry_steps body code.first) code.first code.first
        (entry_labels body) (label_after code.first (entry_labels body)) are.begun refl entry_fits begins_fit
        (omega arith)
        (entry_form body code.first (omega (arith, entry_fits, begins_fit, begun_fits, ended_fits, few))) tt
        (λ held parts held_differ marks low apart.
        plan_bound ground (label_after code.first (entry_labels body)) are.begun code.begins are.begins
        (omega (arith, begun_fits, ended_fits, few)) (omega (arith, entry_fits)) parts held_differ marks low apart) in
        let statements : TreeBound body names (labels_in_list heading.body) are.begun are.ended code.statements =
        body_bound ground are.begun are.ended code.written are.written (omega (arith, ended_fits, few))
        (omega (arith, entry_fits, begins_fit))
        (subst (λ (one : TreeModule). IsList (nodes_of one) storage names (length (nodes_of one).statements)
        procedure.body heading.body)
        (sym code.tree_is) has.body) differ in
        let ending : TreeBound body names [] are.ended next code.ending =
        end_bound ground storage called code.last procedure.reaches_its_end code.ending are.ended next code.ends
        are.ends few (omega (arith, entry_fits, begins_fit, begun_fits)) in
        let rest : TreeBound body names (labels_in_list heading.body ++ []) are.begun next (code.statements ++ code.ending) =
        as_tree ground
        (part_before ground begun_fits ended_fits (omega (arith, entry_fits, begins_fit))
        (differ_alone (labels_in_list heading.body) differ) (λ one own. absurd own) (λ one own named. own)
        statements (as_plan ground ending)) in
        let all : TreeBound body names (labels_in_list heading.body ++ []) code.first next
        (code.beginning ++ (code.statements ++ code.ending)) =
        as_tree ground
        (part_before ground {tree = []} (omega (arith, entry_fits, begins_fit)) (omega (arith, begun_fits, ended_fits))
        (omega arith)
        (differ_alone (labels_in_list heading.body) differ) (λ one own. absurd own) (λ one own named. own)
        entry (as_plan ground rest)) in
        let fits : code.first ≤ next = omega (arith, entry_fits, begins_fit, begun_fits, ended_fits) in
        let both =
        label_before number label next less (omega (arith, first_is, fits))
        (tree_within ground are.named few_here (omega (arith, first_is)) fits all) in (
          subst BoundOnce (sym code.list_is) both.0,
          λ one found. both.1 one (subst (λ (given : List Item). is_bound one given ≡ true) code.list_is found),
          omega (arith, first_is, fits),
        )

    -- any procedure
    code_bound :
        (called : List Bool) (number : ℕ) (procedure : TreeProcedure) (kind : ProcedureKind) (heading : TypedProcedure)
        (list : List Item) (label next : ℕ)
        (code : IsCodeOf tree called number procedure kind list)
        → IsCodeLabelled tree called number procedure kind list code label next
        → next < 4294967295
        → number < label
        → HasBody (nodes_of tree) storage procedure heading
        → Differ (labels_in_list heading.body)
        → BoundOnce list
        × ((one : ℕ) → is_bound one list ≡ true → (one ≡ number) ⊎ ((label ≤ one) × (one < next)))
        × (label ≤ next)
    code_bound called number procedure (kinds.External name) heading list label next code are few less has differ = (
      subst BoundOnce (sym code) tt,
      λ one found.
          absurd (not_both false (subst (λ (given : List Item). is_bound one given ≡ true) code found) refl),
      omega (arith, are),
    )
    code_bound called number procedure kinds.Static heading list label next code are few less has differ =
        procedure_bound called number procedure heading list label next code are few less has differ
    code_bound called number procedure kinds.Reentrant heading list label next code are few less has differ =
        procedure_bound called number procedure heading list label next code are few less has differ

    -- what is known of a procedure by its number
    record HasHeading (number : ℕ) (procedure : TreeProcedure) : Type 0 where
      heading : TypedProcedure
      has : HasBody (nodes_of tree) storage procedure heading
      differ : Differ (labels_in_list heading.body)

    heading_of : (number : ℕ) (procedure : TreeProcedure)
        → slice_get tree.procedures.items number ≡ Some procedure
        → HasHeading number procedure
    heading_of number procedure there =
        let as_many : length tree.procedures.items ≡ length typed.procedures = lowered.procedure_count in
        let within : number < length tree.procedures.items =
        slice_get_within tree.procedures.items number procedure there in
        let heading = item_within typed.procedures number (omega (arith, as_many, within)) in
        record {
          heading = heading.0;
          has = (lowered.procedures number procedure heading.0 there heading.1).has_body;
          differ =
              in_procedures number typed.procedures (labels_in_procedure typed.main) heading.0 heading.1 all_differ;
        }

    -- procedures one after another, from a number on
    procedures_bound :
        (called : List Bool) (number : ℕ) (procedures : List TreeProcedure) (list : List Item) (label next : ℕ)
        (code : AreCodeOf tree called number procedures list)
        → AreProceduresLabelled tree called number procedures list code label next
        → next < 4294967295
        → ((index : ℕ) (procedure : TreeProcedure) → slice_get procedures index ≡ Some procedure
        → slice_get tree.procedures.items (number + index) ≡ Some procedure)
        → number + length procedures ≤ label
        → BoundOnce list
        × ((one : ℕ) → is_bound one list ≡ true
        → ((number ≤ one) × (one < number + length procedures)) ⊎ ((label ≤ one) × (one < next)))
        × (label ≤ next)
    procedures_bound called number [] list label next code are few there less = (
      subst BoundOnce (sym code) tt,
      λ one found.
          absurd (not_both false (subst (λ (given : List Item). is_bound one given ≡ true) code found) refl),
      omega (arith, are),
    )
    procedures_bound called number (procedure ∷ others) list label next code are few there less =
        let none : number + 0 ≡ number = omega arith in
        let known =
        heading_of number procedure
        (ap (slice_get tree.procedures.items) (sym none) ∙ there 0 procedure refl) in
        let rest_fits : are.0 ≤ next = procedures_rise tree called (suc number) others code.1 are.0 next code.3 are.2 few in
        let first_fits : label ≤ are.0 =
        code_rises tree called number procedure procedure.kind code.0 label are.0 code.2 are.1
        (omega (arith, rest_fits, few)) in
        let rest =
        procedures_bound called (suc number) others code.1 are.0 next code.3 are.2 few
        (λ index one is.
        let further : number + suc index ≡ suc number + index = omega arith in
        ap (slice_get tree.procedures.items) (sym further) ∙ there (suc index) one is)
        (omega (arith, less, first_fits)) in
        let one =
        code_bound called number procedure procedure.kind known.heading code.0 label are.0 code.2 are.1
        (omega (arith, rest.2, few)) (omega (arith, less)) known.has known.differ in
        let joined : BoundOnce (code.0 ++ code.1) =
        once_both code.0 code.1 one.0 rest.0 (λ label_is here there_is.
        elim (one.1 label_is here) [
          | inl own ↦ elim (rest.1 label_is there_is) [
            | inl entry ↦ omega (arith, own, entry.0)
            | inr taken ↦ omega (arith, own, taken.0, less, first_fits)
          ]
          | inr mine ↦ elim (rest.1 label_is there_is) [
            | inl entry ↦ omega (arith, mine.0, entry.1, less)
            | inr taken ↦ omega (arith, mine.1, taken.0)
          ]
        ]) in (
          subst BoundOnce (sym code.4) joined,
          λ label_is found.
              elim (bound_in label_is code.0 code.1
              (subst (λ (given : List Item). is_bound label_is given ≡ true) code.4 found)) [
                | inl here ↦ elim (one.1 label_is here) [
                  | inl own ↦ inl (omega (arith, own), omega (arith, own))
                  | inr mine ↦ inr (mine.0, omega (arith, mine.1, rest.2))
                ]
                | inr later ↦ elim (rest.1 label_is later) [
                  | inl entry ↦ inl (omega (arith, entry.0), omega (arith, entry.1))
                  | inr taken ↦ inr (omega (arith, taken.0, first_fits), taken.1)
                ]
              ],
          omega (arith, first_fits, rest.2),
        )

    -- the main program, if there is one
    main_bound :
        (called : List Bool) (start : ℕ) (list : List Item) (label next : ℕ)
        (code : IsMainCode tree called start list)
        → IsMainLabelled code label next
        → next < 4294967295
        → start < label
        → BoundOnce list
        × ((one : ℕ) → is_bound one list ≡ true → (one ≡ start) ⊎ ((label ≤ one) × (one < next)))
    main_bound called start list label next code are few less =
        let names : List ℕ = labels_numbered_in_list typed.main.body in
        let body : Body = code.body in
        let fits : label_after label tree.main.label_count ≤ next =
        list_rises (label_after label tree.main.label_count) next code.written are.written few in
        let base_is : label + tree.main.label_count ≡ label_after label tree.main.label_count =
        omega (arith, fits, few) in
        let count : tree.main.label_count ≡ length names = lowered.main.label_count in
        let few_here : label_after label tree.main.label_count < 4294967295 = omega (arith, fits, few) in
        let ground : Ground body names (label_after label tree.main.label_count) =
        ground_of body names label (label_after label tree.main.label_count) (rise_in body code.tree_is) are.named
        (omega (arith, base_is, count)) few_here in
        let differ : Differ (labels_in_list typed.main.body) =
        differ_later (flat_map labels_in_procedure typed.procedures) (labels_in_procedure typed.main) all_differ in
        let statements : TreeBound body names (labels_in_list typed.main.body)
        (label_after label tree.main.label_count) next code.statements =
        body_bound ground (label_after label tree.main.label_count) next code.written are.written few (omega arith)
        (subst (λ (one : TreeModule). IsList (nodes_of one) storage names (length (nodes_of one).statements)
        tree.main.body typed.main.body)
        (sym code.tree_is) lowered.main.body) differ in
        let inside : BindsFrom label next code.statements =
        tree_within ground are.named few_here (omega (arith, base_is)) fits statements in
        let halted : BoundOnce (code.statements ++ (items.Plain Hlt ∷ [])) =
        once_both code.statements (items.Plain Hlt ∷ []) inside.once
        (λ one binds. absurd (not_both false binds refl), tt)
        (λ one here there. not_both false there refl) in
        let rest : BindsFrom label next (stack_end_item (LoadPair Sp) ∷ (code.statements ++ (items.Plain Hlt ∷ []))) =
        record {
          once = (λ one binds. absurd (not_both false binds refl), halted);
          bound = λ one found. elim (bound_in one code.statements (items.Plain Hlt ∷ []) found) [
            | inl here ↦ inside.bound one here
            | inr there ↦ absurd (not_both false there refl)
          ];
        } in
        let both = label_before start label next less (omega (arith, base_is, fits)) rest in (
          subst BoundOnce (sym code.list_is) both.0,
          λ one found. both.1 one (subst (λ (given : List Item). is_bound one given ≡ true) code.list_is found),
        )

    any_main_rises :
        (called : List Bool) (start : ℕ) (is_there : Bool) (list : List Item) (label next : ℕ)
        (code : IsCodeOfMain tree called start is_there list)
        → IsCodeOfMainLabelled tree called start is_there list code label next
        → next < 4294967295
        → label ≤ next
    any_main_rises called start true list label next code are few =
        let fits : label_after label tree.main.label_count ≤ next =
        list_rises (label_after label tree.main.label_count) next code.written are.written few in
        omega (arith, fits, few)
    any_main_rises called start false list label next code are few = omega (arith, are)

    any_main_bound :
        (called : List Bool) (start : ℕ) (is_there : Bool) (list : List Item) (label next : ℕ)
        (code : IsCodeOfMain tree called start is_there list)
        → IsCodeOfMainLabelled tree called start is_there list code label next
        → next < 4294967295
        → start < label
        → BoundOnce list
        × ((one : ℕ) → is_bound one list ≡ true → (one ≡ start) ⊎ ((label ≤ one) × (one < next)))
    any_main_bound called start true list label next code are few less =
        main_bound called start list label next code are few less
    any_main_bound called start false list label next code are few less = (
      subst BoundOnce (sym code) tt,
      λ one found.
          absurd (not_both false (subst (λ (given : List Item). is_bound one given ≡ true) code found) refl),
    )

    -- the own code of a module binds entries, and labels from the first one after those of the routines on
    pub own_code_bound :
        (called : List Bool) (start : ℕ) (own : List Item) (next : ℕ) (code : IsOwnCode tree called start own)
        → IsOwnLabelled code next
        → next < 4294967295
        → BoundOnce own
        × ((one : ℕ) → is_bound one own ≡ true
        → (one < length tree.procedures.items) ⊎ (length tree.procedures.items + 9 ≤ one))
        × (length tree.procedures.items + 9 < 4294967295)
    own_code_bound called start own next code are few =
        let count : ℕ = length tree.procedures.items in
        let rest_fits : are.begun ≤ next =
        procedures_rise tree called 0 tree.procedures.items code.procedures are.begun next code.procedures_are
        are.procedures few in
        let main_fits : label_after start 1 ≤ are.begun =
        any_main_rises called start (has_main tree) code.main (label_after start 1) are.begun code.main_is are.main
        (omega (arith, rest_fits, few)) in
        let start_is : count + 9 ≡ start = omega (arith, are.start_is, main_fits, rest_fits, few) in
        let constants : BindsFrom 0 0 (contents_items tree.constants.items) =
        contents_unbound tree.constants.items in
        let main =
        any_main_bound called start (has_main tree) code.main (label_after start 1) are.begun code.main_is are.main
        (omega (arith, rest_fits, few)) (omega (arith, main_fits, rest_fits, few)) in
        let others =
        procedures_bound called 0 tree.procedures.items code.procedures are.begun next code.procedures_are
        are.procedures few
        (λ index procedure there.
        let none : 0 + index ≡ index = omega arith in
        ap (slice_get tree.procedures.items) none ∙ there)
        (omega (arith, start_is, main_fits, rest_fits, few)) in
        let both : BoundOnce (code.main ++ code.procedures) =
        once_both code.main code.procedures main.0 others.0 (λ one here there.
        elim (main.1 one here) [
          | inl own_start ↦ elim (others.1 one there) [
            | inl entry ↦ omega (arith, own_start, entry.1, start_is)
            | inr taken ↦ omega (arith, own_start, taken.0, main_fits, rest_fits, few)
          ]
          | inr mine ↦ elim (others.1 one there) [
            | inl entry ↦ omega (arith, mine.0, entry.1, start_is, main_fits, rest_fits, few)
            | inr taken ↦ omega (arith, mine.1, taken.0)
          ]
        ]) in
        let all : BoundOnce (contents_items tree.constants.items ++ (code.main ++ code.procedures)) =
        once_both (contents_items tree.constants.items) (code.main ++ code.procedures) constants.once both
        (λ one here there. let low = constants.bound one here in omega (arith, low.1)) in (
          subst BoundOnce (sym code.list_is) all,
          λ one found.
              elim (bound_in one (contents_items tree.constants.items) (code.main ++ code.procedures)
              (subst (λ (given : List Item). is_bound one given ≡ true) code.list_is found)) [
                | inl here ↦ let low = constants.bound one here in absurd (omega (arith, low.1))
                | inr there ↦ elim (bound_in one code.main code.procedures there) [
                  | inl mine ↦ elim (main.1 one mine) [
                    | inl own_start ↦ inr (omega (arith, own_start, start_is))
                    | inr taken ↦ inr (omega (arith, taken.0, start_is, main_fits, rest_fits, few))
                  ]
                  | inr theirs ↦ elim (others.1 one theirs) [
                    | inl entry ↦ inl (omega (arith, entry.1))
                    | inr taken ↦ inr (omega (arith, taken.0, start_is, main_fits, rest_fits, few))
                  ]
                ]
              ],
          omega (arith, start_is, main_fits, rest_fits, few),
        )
