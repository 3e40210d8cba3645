-- The code of a module refers to labels that it binds, and to those of routines that are called.
use Rattle.measure_laws.proofs.Prelude.{bound_after, bound_first, ◌≡◌, inl, inr, refl, sym, ap, subst, ℕ, zero, suc, ◌+◌, Bool, List, [], ◌∷◌, ◌++◌, Option, Some, None, arith, slice_get, none-some, same_Some, TypedModule, Storage, Item, TreeModule, ProcedureKind, TreeProcedure, IsLowered, items_of_call, module_call_items, module_label_of_routine, Body, site_of, AreCodeOf, IsCodeOf, IsOwnCode, IsProcedureCode, contents_items, ItemsBind, ItemsGo, HasItsPlace, Knows, LabelsHavePlaces, IsSound}
use Rattle.treecode.specs.declared.procedure.ProcedureKind.TheVariants as kinds
use Rattle.measure_laws.proofs.Bounds.Modules.{own_code_measured}

-- the labels of procedures that are not EXTERNAL are bound by their code
IsNotExternal : ProcedureKind → Type 0
IsNotExternal (kinds.External name) = ⊥
IsNotExternal kinds.Static = Unit {0}
IsNotExternal kinds.Reentrant = Unit {0}

abbrev code_binds :
    (tree : TreeModule) (called : List Bool) (number : ℕ) (procedure : TreeProcedure) (kind : ProcedureKind)
    (list : List Item) → Type 0
code_binds tree called number procedure kind list =
    IsNotExternal kind → IsCodeOf tree called number procedure kind list → ItemsBind number list

own_binds :
    (tree : TreeModule) (called : List Bool) (number : ℕ) (procedure : TreeProcedure) (list : List Item)
    → IsProcedureCode tree called number procedure list
    → ItemsBind number list
own_binds tree called number procedure list is =
    subst (λ given. ItemsBind number given) (sym is.list_is) (inl refl)

kind_binds :
    (tree : TreeModule) (called : List Bool) (number : ℕ) (procedure : TreeProcedure) (kind : ProcedureKind)
    (list : List Item)
    → code_binds tree called number procedure kind list
unfolding IsNotExternal
kind_binds tree called number procedure (kinds.External name) list not_external is = absurd not_external
kind_binds tree called number procedure kinds.Static list not_external is =
    own_binds tree called number procedure list is
kind_binds tree called number procedure kinds.Reentrant list not_external is =
    own_binds tree called number procedure list is

procedures_bind :
    (tree : TreeModule) (called : List Bool) (number : ℕ) (procedures : List TreeProcedure) (list : List Item)
    (index : ℕ) (found : TreeProcedure)
    → AreCodeOf tree called number procedures list
    → slice_get procedures index ≡ Some found
    → IsNotExternal found.kind
    → ItemsBind (number + index) list
procedures_bind tree called number [] list index found are there not_external = absurd (none-some found there)
procedures_bind tree called number (procedure ∷ others) list zero found are there not_external =
    let same : procedure ≡ found = same_Some procedure found there in
    let one =
    kind_binds tree called number procedure procedure.kind are.0
    (subst (λ (given : TreeProcedure). IsNotExternal given.kind) (sym same) not_external) are.2 in
    let none : number + 0 ≡ number = omega arith in
    subst (λ given. ItemsBind (number + 0) given) (sym are.4)
    (bound_first (number + 0) are.0 are.1 (subst (λ n. ItemsBind n are.0) (sym none) one))
procedures_bind tree called number (procedure ∷ others) list (suc index) found are there not_external =
    let further : number + suc index ≡ suc number + index = omega arith in
    let rest = procedures_bind tree called (suc number) others are.1 index found are.3 there not_external in
    subst (λ given. ItemsBind (number + suc index) given) (sym are.4)
    (bound_after (number + suc index) are.0 are.1 (subst (λ n. ItemsBind n are.1) (sym further) rest))

module _
    (typed : TypedModule) (storage : Storage) (tree : TreeModule) (called : List Bool)
    (start : ℕ) (own : List Item)
    (lowered : IsLowered typed storage tree) (sound : IsSound typed) (is : IsOwnCode tree called start own)
  where
    abbrev ok : ℕ → Type 0
    ok label = HasItsPlace tree called own label

    in_procedures : (label : ℕ) → ItemsBind label is.procedures → ok label
    in_procedures label bound =
        inl
        (subst (λ given. ItemsBind label given) (sym is.list_is)
        (bound_after label (contents_items tree.constants.items) (is.main ++ is.procedures)
        (bound_after label is.main is.procedures bound)))

    entry_bound :
        (procedure : ℕ) (found : TreeProcedure)
        → slice_get tree.procedures.items procedure ≡ Some found
        → IsNotExternal found.kind
        → ItemsBind procedure is.procedures
    entry_bound procedure found there not_external =
        let none : 0 + procedure ≡ procedure = omega arith in
        subst (λ n. ItemsBind n is.procedures) none
        (procedures_bind tree called 0 tree.procedures.items is.procedures procedure found
        is.procedures_are there
        not_external)

    -- the labels that calls refer to
    kind_goes :
        (procedure : ℕ) (found : TreeProcedure) (kind : ProcedureKind)
        → found.kind ≡ kind
        → slice_get tree.procedures.items procedure ≡ Some found
        → ItemsGo ok (items_of_call procedure kind)
    unfolding IsNotExternal
    kind_goes procedure found (kinds.External name) same there = (tt, tt)
    kind_goes procedure found kinds.Static same there = (
      in_procedures procedure
          (entry_bound procedure found there (subst (λ given. IsNotExternal given) (sym same) tt)),
      tt,
    )
    kind_goes procedure found kinds.Reentrant same there = (
      in_procedures procedure
          (entry_bound procedure found there (subst (λ given. IsNotExternal given) (sym same) tt)),
      tt,
    )

    call_by :
        (procedure : ℕ) (found : Option TreeProcedure)
        → slice_get tree.procedures.items procedure ≡ found
        → ItemsGo ok (elim found as (λ (given : Option TreeProcedure). List Item) [
          | Some one ↦ items_of_call procedure one.kind
          | None ↦ []
        ])
    call_by procedure (Some found) there = kind_goes procedure found found.kind refl there
    call_by procedure None there = tt

    knows : (body : Body) → body.tree.now ≡ tree → Knows ok (site_of body) called
    knows body tree_is = record {
      routines =
          λ routine has. inr
          (routine, has, ap (λ given. (module_label_of_routine given routine).index) (sym tree_is));
      calls = λ procedure.
          subst (λ given. ItemsGo ok (module_call_items given procedure)) (sym tree_is)
          (call_by procedure (slice_get tree.procedures.items procedure) refl);
    }

    pub own_code_goes : LabelsHavePlaces tree called own
    own_code_goes =
        (own_code_measured typed storage tree called sound lowered ok knows start own is
        (λ label bound. inl bound)).goes
