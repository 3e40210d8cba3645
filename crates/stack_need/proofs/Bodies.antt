-- The body of a procedure stands in the graph under its number.
use Rattle.stack_need.proofs.Prelude.{◌≡◌, ℕ, zero, suc, ◌+◌, List, [], ◌∷◌, ◌++◌, length, map, slice_get, slice_index, Option, Some, None, option_map, arith, refl, ap, sym, subst, ◌∙◌, option_and_then, TypedProcedure, TypedModule, InProgram, procedure_at, bodies_from, body_of, call_graph, first_numbers, main_body, number_of_body}

-- what stands in the first of two lists, and in the second
pub in_first : {A B : Type 0} (f : A → B) (items : List A) (others : List B) (at : ℕ) (item : A)
    → slice_get items at ≡ Some item → slice_get (map f items ++ others) at ≡ Some (f item)
in_first f [] others at item is = let bad : ⊥ = cc in absurd bad
in_first f (first ∷ more) others zero item is = let same : first ≡ item = cc in ap (λ one. Some (f one)) same
in_first f (first ∷ more) others (suc at) item is = in_first f more others at item is

pub in_second : {A B : Type 0} (f : A → B) (items : List A) (others : List B) (at : ℕ)
    → slice_get (map f items ++ others) (length items + at) ≡ slice_get others at
in_second f [] others at =
    let same : 0 + at ≡ at = omega arith in
    ap (slice_get others) same
in_second f (first ∷ more) others at =
    let same : suc (length more) + at ≡ suc (length more + at) = omega arith in
    ap (slice_get (f first ∷ (map f more ++ others))) same ∙ in_second f more others at

module _ (all : List TypedModule) where
  stands_from : (modules : List TypedModule) (count next at number : ℕ) (typed : TypedModule)
      (procedure : TypedProcedure) → slice_get modules at ≡ Some typed
      → slice_get typed.procedures number ≡ Some procedure
      → (place : ℕ)
      × ((slice_index (first_numbers next modules) at ≡ next + place)
      × (slice_get (bodies_from all count modules) (place + number)
      ≡ Some (body_of all (count + at) procedure)))
  stands_from [] count next at number typed procedure one two = let bad : ⊥ = cc in absurd bad
  stands_from (first ∷ others) count next zero number typed procedure one two =
      let same : first ≡ typed = cc in
      let two' : slice_get first.procedures number ≡ Some procedure =
      subst (λ (some : TypedModule). slice_get some.procedures number ≡ Some procedure) (sym same) two in
      let at_number : 0 + number ≡ number = omega arith in
      let at_count : count ≡ count + 0 = omega arith in (
        0,
        (
          omega arith,
          ap (slice_get (bodies_from all count (first ∷ others))) at_number
              ∙ in_first (body_of all count) first.procedures (bodies_from all (count + 1) others)
              number procedure two'
              ∙ ap (λ place. Some (body_of all place procedure)) at_count,
        ),
      )
  stands_from (first ∷ others) count next (suc at) number typed procedure one two =
      let rest =
      stands_from others (count + 1) (next + length first.procedures) at number typed procedure one two in
      let at_number : length first.procedures + rest.0 + number
      ≡ length first.procedures + (rest.0 + number) = omega arith in
      let at_count : count + 1 + at ≡ count + suc at = omega arith in
      let at_place : next + length first.procedures + rest.0 ≡ next + (length first.procedures + rest.0) =
      omega arith in (
        length first.procedures + rest.0,
        (
          rest.1.0 ∙ at_place,
          ap (slice_get (bodies_from all count (first ∷ others))) at_number
              ∙ in_second (body_of all count) first.procedures
              (bodies_from all (count + 1) others) (rest.0 + number)
              ∙ rest.1.1
              ∙ ap (λ place. Some (body_of all place procedure)) at_count,
        ),
      )

  pub stands : (at : InProgram) (found : TypedModule × TypedProcedure) → procedure_at all at ≡ Some found
      → slice_get (call_graph all) (number_of_body all at) ≡ Some (body_of all at.number_of_module found.1)
  unfolding call_graph
  stands at found is = by (slice_get all at.number_of_module) refl is
    where
      in_module : (typed : TypedModule) (procedure : Option TypedProcedure)
          → slice_get all at.number_of_module ≡ Some typed → slice_get typed.procedures at.number ≡ procedure
          → option_map (λ (one : TypedProcedure). (typed, one)) procedure ≡ Some found
          → slice_get (main_body all ∷ bodies_from all 0 all) (number_of_body all at)
          ≡ Some (body_of all at.number_of_module found.1)
      in_module typed None one two same = let bad : ⊥ = cc in absurd bad
      in_module typed (Some procedure) one two same =
          let pair : (typed, procedure) ≡ found = cc in
          let there = stands_from all 0 1 at.number_of_module at.number typed procedure one two in
          let at_number : number_of_body all at ≡ suc (there.0 + at.number) = omega (arith, there.1.0) in
          let same_place : 0 + at.number_of_module ≡ at.number_of_module = omega arith in
          ap (slice_get (main_body all ∷ bodies_from all 0 all)) at_number
          ∙ there.1.1
          ∙ ap (λ place. Some (body_of all place procedure)) same_place
          ∙ ap (λ (pair : TypedModule × TypedProcedure). Some (body_of all at.number_of_module pair.1)) pair

      by : (some : Option TypedModule) → slice_get all at.number_of_module ≡ some
          → option_and_then
          (λ (typed : TypedModule). option_map (λ (procedure : TypedProcedure). (typed, procedure))
          (slice_get typed.procedures at.number)) some ≡ Some found
          → slice_get (main_body all ∷ bodies_from all 0 all) (number_of_body all at)
          ≡ Some (body_of all at.number_of_module found.1)
      by None one same = let bad : ⊥ = cc in absurd bad
      by (Some typed) one same = in_module typed (slice_get typed.procedures at.number) one refl same
