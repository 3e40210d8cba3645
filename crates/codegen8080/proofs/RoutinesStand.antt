-- The routines that are called are placed with the code of a module.
use Rattle.codegen8080.proofs.Prelude.{◌≡◌, ℕ, ◌+◌, ◌≤◌, ◌⊎◌, inl, inr, Bool, true, List, [], ◌∷◌, Option, unwrap_or, sym, ap, subst, ◌∙◌, arith, append-nil, Item, Layout, Stands, size_of_items, stands_in_parts, Routine, IsRoutine, size_of_routine, TreeModule, Written, has_routine, module_label_of_routine, AreRoutines, IsCodeOfRoutine}
use Rattle.codegen8080.proofs.ItemsByName.{layout_by}

-- a routine is at its label, within code from one address to another
pub record RoutineStands
    (tree : TreeModule) (written : Written) (layout : Layout) (memory : List ℕ)
    (routine : Routine) (from to : ℕ) :
    Type 0 where
  pub listing : List Item
  pub begin : ℕ
  pub past : ℕ
  pub stands : Stands layout memory listing begin past
  pub is_routine : IsRoutine routine listing
  pub size : past ≡ begin + size_of_routine routine
  pub low : from ≤ begin
  pub high : past ≤ to
  pub label : (layout_by layout written).place_of (module_label_of_routine tree routine).index ≡ begin

-- a routine is one of these
abbrev pub IsOneOf : Routine → List Routine → Type 0
IsOneOf routine [] = ⊥
IsOneOf routine (first ∷ others) = (routine ≡ first) ⊎ IsOneOf routine others

-- items end at their start plus their size
end_is : (layout : Layout) (memory : List ℕ) (list : List Item) (from to : ℕ)
    → Stands layout memory list from to → from + size_of_items list ≡ to
end_is layout memory list from to stands =
    (stands_in_parts layout memory list [] from to
    (subst (λ all. Stands layout memory all from to) (sym (append-nil list)) stands)).second

module _ (tree : TreeModule) (called : List Bool) (written : Written) (layout : Layout)
    (memory : List ℕ) where
  first_stands : (routine : Routine) (is_called : Bool) (list : List Item) (from to : ℕ)
      → is_called ≡ true
      → IsCodeOfRoutine tree written routine is_called list
      → Stands layout memory list from to
      → RoutineStands tree written layout memory routine from to
  first_stands routine is_called list from to set code stands =
      let is = subst (λ flag. IsCodeOfRoutine tree written routine flag list) set code in
      let there = subst (λ all. Stands layout memory all from to) is.list_is stands in
      let end = end_is layout memory is.listing from to there.1 in
      let size = is.size in
      record {
        listing = is.listing;
        begin = from;
        past = to;
        stands = there.1;
        is_routine = is.is_routine;
        size = sym end ∙ ap (λ count. from + count) size;
        low = omega arith;
        high = omega arith;
        label = ap (λ (known : Option ℕ). layout.place_of (unwrap_or known 0)) is.known ∙ there.0;
      }

  pub routine_stands : (routines : List Routine) (list : List Item) (from to : ℕ) (routine : Routine)
      → AreRoutines tree called written routines list
      → Stands layout memory list from to
      → IsOneOf routine routines
      → has_routine called routine ≡ true
      → RoutineStands tree written layout memory routine from to
  routine_stands [] list from to routine are stands one set = absurd one
  routine_stands (first ∷ others) list from to routine are stands (inl same) set =
      let parts = stands_in_parts layout memory are.0 are.1 from to
      (subst (λ all. Stands layout memory all from to) are.4 stands) in
      let end = end_is layout memory are.1 (from + size_of_items are.0) to parts.second in
      let there = first_stands first (has_routine called first) are.0 from (from + size_of_items are.0)
      (ap (has_routine called) (sym same) ∙ set) are.2 parts.first in
      let wide : RoutineStands tree written layout memory first from to = record {
        listing = there.listing;
        begin = there.begin;
        past = there.past;
        stands = there.stands;
        is_routine = there.is_routine;
        size = there.size;
        low = there.low;
        high = omega (arith, there.high, end);
        label = there.label;
      } in
      subst (λ one. RoutineStands tree written layout memory one from to) (sym same) wide
  routine_stands (first ∷ others) list from to routine are stands (inr later) set =
      let parts = stands_in_parts layout memory are.0 are.1 from to
      (subst (λ all. Stands layout memory all from to) are.4 stands) in
      let there =
      routine_stands others are.1 (from + size_of_items are.0) to routine are.3 parts.second later set in
      record {
        listing = there.listing;
        begin = there.begin;
        past = there.past;
        stands = there.stands;
        is_routine = there.is_routine;
        size = there.size;
        low = omega (arith, there.low);
        high = there.high;
        label = there.label;
      }
