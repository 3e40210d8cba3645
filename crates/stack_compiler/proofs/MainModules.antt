-- The main module: its number, and the code of a program.
use Rattle.stack_compiler.proofs.Prelude.{◌≡◌, ℕ, ◌+◌, ◌<◌, ◌≤◌, Bool, true, false, cond, List, length, map, drop, get_or, None, Some, option_map, Result, ap, subst, sym, ◌∙◌, slice_get, IfOk, position_from, option_map_or, position_from-zero, slice_get-map, Typed, TypedModule, module_view, is_main, Placement, Program, number_of_main, Instruction, StackProgram, program_code, AreTablesOf, drop_item, at_drop_all}
use Rattle.stack_compiler.specs.internal.Compiled.{IsCompiled}
use Rattle.stack_compiler.specs.internal.MainCode.{IsCodeOf}

-- the number of the first main module from a number on, or 0
abbrev pub main_from : (number : ℕ) → List TypedModule → ℕ
main_from number modules = option_map_or (λ one. one) (position_from is_main number modules) 0

pub main_is : (modules : List TypedModule) → main_from 0 modules ≡ number_of_main modules
main_is modules = ap (λ found. option_map_or (λ one. one) found 0) (sym (position_from-zero is_main modules))

module _ (total : ℕ) (modules : List Typed) (i : ℕ)
    (rest : main_from i (map module_view (drop i modules)) ≡ total) where
  main_step : (typed : Typed) (main : Bool) → i < length modules → typed ≡ get_or modules i typed
      → is_main (module_view typed) ≡ main
      → option_map_or (λ one. one)
      (cond main (Some i) (position_from is_main (i + 1) (map module_view (drop (i + 1) modules)))) 0
      ≡ total
  main_step typed main within is given =
      ap (λ one. option_map_or (λ number. number)
      (cond one (Some i) (position_from is_main (i + 1) (map module_view (drop (i + 1) modules)))) 0)
      (sym given)
      ∙ sym (drop_item (λ left. main_from i (map module_view left)) modules i typed within is)
      ∙ rest

  pub main_found : (typed : Typed) → i < length modules → typed ≡ get_or modules i typed
      → is_main (module_view typed) ≡ true → i ≡ total
  main_found typed within is given = main_step typed true within is given

  pub main_passed : (typed : Typed) → i < length modules → typed ≡ get_or modules i typed
      → is_main (module_view typed) ≡ false
      → main_from (i + 1) (map module_view (drop (i + 1) modules)) ≡ total
  main_passed typed within is given = main_step typed false within is given

  pub no_main : length modules ≤ i → 0 ≡ total
  no_main past = sym (at_drop_all (λ left. main_from i (map module_view left)) modules i past) ∙ rest

-- the code where there is a module of the number, and where there is none
module_is : (modules : List Typed) (number : ℕ) (typed : Typed) (main : TypedModule)
    → slice_get modules number ≡ Some typed
    → slice_get (map module_view modules) number ≡ Some main → module_view typed ≡ main
module_is modules number typed main is stands =
    some_is (sym (ap (option_map module_view) is) ∙ sym (slice_get-map module_view modules number) ∙ stands)
  where
    some_is : {a b : TypedModule} → Some a ≡ Some b → a ≡ b
    some_is same = cc

pub code_made : (modules : List Typed) (placement : Placement) (number : ℕ) (typed : Typed)
    (code : List Instruction)
    → number ≡ number_of_main (map module_view modules) → slice_get modules number ≡ Some typed
    → code ≡ program_code (map module_view modules) placement number (module_view typed)
    → IsCodeOf (map module_view modules) placement code
code_made modules placement number typed code numbered found is main stands =
    is
    ∙ ap (λ one. program_code (map module_view modules) placement one (module_view typed)) numbered
    ∙ ap (program_code (map module_view modules) placement (number_of_main (map module_view modules)))
    (module_is modules number typed main found (ap (slice_get (map module_view modules)) numbered ∙ stands))

pub code_of_none : (modules : List Typed) (placement : Placement) (number : ℕ) (code : List Instruction)
    → number ≡ number_of_main (map module_view modules) → slice_get modules number ≡ None
    → IsCodeOf (map module_view modules) placement code
code_of_none modules placement number code numbered none main stands =
    absurd (none_is (sym (ap (option_map module_view) none) ∙ sym (slice_get-map module_view modules number)
    ∙ ap (slice_get (map module_view modules)) numbered ∙ stands))
  where
    none_is : {a : TypedModule} → None ≡ Some a → ⊥
    none_is same = cc

pub program_compiled : (modules : List TypedModule) (placement : Placement) (program : StackProgram)
    → IsCodeOf modules placement program.instructions.items
    → AreTablesOf modules program.instructions.items program.modules.items
    → IsCompiled modules placement program
program_compiled modules placement program code tables main stands =
    record { code = code main stands; tables = tables }

-- what is compiled of a program is compiled of the same program
pub compiled_there : {E : Type 0} (made : Result StackProgram E) (here there : Program) → here ≡ there
    → IfOk made (IsCompiled here.modules here.placement)
    → IfOk made (IsCompiled there.modules there.placement)
compiled_there made here there is compiled = subst (λ (program : Program). IfOk made (IsCompiled program.modules program.placement)) is compiled
