-- The call graph is made body by body.
use Rattle.stack_need.proofs.Prelude.{◌≡◌, ℕ, ◌+◌, Bool, true, false, List, [], ◌∷◌, cond, filter_map, min, find, Option, Some, refl, ap, sym, ◌∙◌, position_from, option_map_or, position_from-zero, charge_of, TypedProcedure, TypedModule, is_main, Surroundings, calls_in_list, body_of, first_numbers, main_body, callee_at, main_from, capped}

-- the body of a procedure
pub body_made : (around : Surroundings) (firsts calls : List ℕ) (charge : ℕ) (callees : List ℕ)
    (procedure : TypedProcedure) → firsts ≡ first_numbers 1 around.program.modules
    → calls ≡ calls_in_list procedure.body → charge ≡ min (charge_of procedure) 4294967295
    → callees ≡ filter_map (callee_at around firsts) calls
    → record { charge = charge; callees = callees }
    ≡ capped (body_of around.program.modules around.number_of_module procedure)
body_made around firsts calls charge callees procedure one two three four =
    ap (λ number. record { charge = number; callees = callees }) three
    ∙ ap (λ all. record { charge = min (charge_of procedure) 4294967295; callees = all })
    (four ∙ ap (λ all. filter_map (callee_at around all) calls) one
    ∙ ap (filter_map (callee_at around (first_numbers 1 around.program.modules))) two)

-- the main module is found from its number on
module _ (all : List TypedModule) where
  main_found : (number : ℕ) (modules : List TypedModule)
      → main_from all number modules
      ≡ option_map_or
      (λ (typed : TypedModule). body_of all
      (option_map_or (λ one. one) (position_from is_main number modules) 0) typed.main)
      (find is_main modules) (record { charge = 0; callees = [] })
  main_found number [] = refl
  main_found number (typed ∷ others) = by (is_main typed) (main_found (number + 1) others)
    where
      by : (test : Bool)
          → main_from all (number + 1) others
          ≡ option_map_or
          (λ (one : TypedModule). body_of all
          (option_map_or (λ one. one) (position_from is_main (number + 1) others) 0) one.main)
          (find is_main others) (record { charge = 0; callees = [] })
          → cond test (body_of all number typed.main) (main_from all (number + 1) others)
          ≡ option_map_or
          (λ (one : TypedModule). body_of all
          (option_map_or (λ one. one) (cond test (Some number)
          (position_from is_main (number + 1) others)) 0) one.main)
          (cond test (Some typed) (find is_main others))
          (record { charge = 0; callees = [] })
      by true rest = refl
      by false rest = rest

pub main_is : (modules : List TypedModule) → main_from modules 0 modules ≡ main_body modules
main_is modules =
    main_found modules 0 modules
    ∙ ap
    (λ (number : Option ℕ).
    option_map_or (λ (typed : TypedModule). body_of modules (option_map_or (λ one. one) number 0) typed.main)
    (find is_main modules) (record { charge = 0; callees = [] }))
    (sym (position_from-zero is_main modules))
