-- The code of parameters, procedures and modules, one by one.
use Rattle.stack_compiler.proofs.Prelude.{◌≡◌, ℕ, ◌+◌, ◌<◌, ◌≤◌, List, [], ◌∷◌, ◌++◌, length, map, drop, get_or, ap, refl, sym, ◌∙◌, arith, append_assoc, append-nil, flat_map, enumerate_from, ScalarType, Typed, CodeProcedure, TypedProcedure, TypedModule, module_view, procedure_view, Placement, home_of, Instruction, Begin, Discard, Push, Return, Site, list_code, main_code, module_code, parameter_code, parameters_code, procedure_code, program_code, site_of, surroundings_at, modules_code_from, procedures_code_from, drop_item, at_drop_all}

-- parameters
module _ (site : Site) (made total : List Instruction) (scalars : List ScalarType) (objects : List ℕ) (i : ℕ)
    (rest : made ++ parameters_code site i (drop i scalars) objects ≡ total) where
  pub parameter_emitted : (scalar : ScalarType) (object : ℕ) (more : List ℕ) (one : Instruction)
      (now : List Instruction) → i < length scalars → scalar ≡ get_or scalars i scalar
      → objects ≡ object ∷ more → one ≡ parameter_code site (home_of (surroundings_at site) object) i scalar
      object → now ≡ made ++ (one ∷ [])
      → now ++ parameters_code site (i + 1) (drop (i + 1) scalars) more ≡ total
  parameter_emitted scalar object more one now within is has given pushed =
      ap (λ code. code ++ parameters_code site (i + 1) (drop (i + 1) scalars) more)
      (pushed ∙ ap (λ instruction. made ++ (instruction ∷ [])) given)
      ∙ append_assoc made (parameter_code site (home_of (surroundings_at site) object) i scalar object ∷ [])
      (parameters_code site (i + 1) (drop (i + 1) scalars) more)
      ∙ sym (drop_item (λ left. made ++ parameters_code site i left (object ∷ more))
      scalars i scalar within is)
      ∙ ap (λ left. made ++ parameters_code site i (drop i scalars) left) (sym has)
      ∙ rest

  none_left : (scalars_left : List ScalarType) → parameters_code site i scalars_left [] ≡ []
  none_left [] = refl
  none_left (scalar ∷ others) = refl

  no_objects : (given : List ℕ) → length given < 1 → given ≡ []
  no_objects [] short = refl
  no_objects (object ∷ others) short = absurd (omega arith)

  pub parameters_short : length objects < 1 → made ≡ total
  parameters_short short =
      sym (append-nil made)
      ∙ ap (λ code. made ++ code) (sym (none_left (drop i scalars)))
      ∙ ap (λ left. made ++ parameters_code site i (drop i scalars) left) (sym (no_objects objects short))
      ∙ rest

  pub parameters_emitted : length scalars ≤ i → made ≡ total
  parameters_emitted past =
      sym (append-nil made)
      ∙ sym (at_drop_all (λ left. made ++ parameters_code site i left objects) scalars i past) ∙ rest

-- a procedure
pub procedure_made : (site : Site) (number : ℕ) (procedure : TypedProcedure)
    (old a b c d new : List Instruction)
    → a ≡ old ++ (Begin site.number_of_module number ∷ [])
    → b ≡ a ++ parameters_code site 0 procedure.parameter_types procedure.parameters
    → c ≡ b ++ (Discard ∷ [])
    → d ≡ c ++ list_code site procedure.body → new ≡ d ++ (Push 0 ∷ Return ∷ [])
    → new ≡ old ++ procedure_code site (number, procedure)
procedure_made site number procedure old a b c d new one two three four five =
    five
    ∙ ap (λ code. code ++ (Push 0 ∷ Return ∷ [])) four
    ∙ append_assoc c (list_code site procedure.body) (Push 0 ∷ Return ∷ [])
    ∙ ap (λ code. code ++ (list_code site procedure.body ++ (Push 0 ∷ Return ∷ []))) three
    ∙ append_assoc b (Discard ∷ []) (list_code site procedure.body ++ (Push 0 ∷ Return ∷ []))
    ∙ ap (λ code. code ++ (Discard ∷ (list_code site procedure.body ++ (Push 0 ∷ Return ∷ [])))) two
    ∙ append_assoc a (parameters_code site 0 procedure.parameter_types procedure.parameters)
    (Discard ∷ (list_code site procedure.body ++ (Push 0 ∷ Return ∷ [])))
    ∙ ap (λ code. code ++ (parameters_code site 0 procedure.parameter_types procedure.parameters
    ++ (Discard ∷ (list_code site procedure.body ++ (Push 0 ∷ Return ∷ []))))) one
    ∙ append_assoc old (Begin site.number_of_module number ∷ [])
    (parameters_code site 0 procedure.parameter_types procedure.parameters
    ++ (Discard ∷ (list_code site procedure.body ++ (Push 0 ∷ Return ∷ []))))

-- the procedures of a module
module _ (site : Site) (made total : List Instruction) (procedures : List CodeProcedure) (i : ℕ)
    (rest : made ++ procedures_code_from site i (map procedure_view (drop i procedures)) ≡ total) where
  pub procedure_emitted : (procedure : CodeProcedure) (now : List Instruction) → i < length procedures
      → procedure ≡ get_or procedures i procedure
      → now ≡ made ++ procedure_code site (i, procedure_view procedure)
      → now ++ procedures_code_from site (i + 1) (map procedure_view (drop (i + 1) procedures)) ≡ total
  procedure_emitted procedure now within is given =
      ap (λ code. code ++ procedures_code_from site (i + 1) (map procedure_view (drop (i + 1) procedures)))
      given
      ∙ append_assoc made (procedure_code site (i, procedure_view procedure))
      (procedures_code_from site (i + 1) (map procedure_view (drop (i + 1) procedures)))
      ∙ sym (drop_item (λ left. made ++ procedures_code_from site i (map procedure_view left)) procedures i
      procedure within is)
      ∙ rest

  pub procedures_emitted : length procedures ≤ i → made ≡ total
  procedures_emitted past =
      sym (append-nil made)
      ∙ sym (at_drop_all (λ left. made ++ procedures_code_from site i (map procedure_view left))
      procedures i past) ∙ rest

-- the modules of a program
module _ (all : List TypedModule) (placement : Placement) (made total : List Instruction)
    (modules : List Typed) (i : ℕ)
    (rest : made ++ modules_code_from all placement i (map module_view (drop i modules)) ≡ total) where
  pub module_emitted : (typed : Typed) (now : List Instruction) → i < length modules
      → typed ≡ get_or modules i typed
      → now ≡ made ++ procedures_code_from (site_of all placement i) 0
      (map procedure_view typed.procedures.items)
      → now ++ modules_code_from all placement (i + 1) (map module_view (drop (i + 1) modules)) ≡ total
  module_emitted typed now within is given =
      ap (λ code. code ++ modules_code_from all placement (i + 1) (map module_view (drop (i + 1) modules)))
      given
      ∙ append_assoc made
      (procedures_code_from (site_of all placement i) 0 (map procedure_view typed.procedures.items))
      (modules_code_from all placement (i + 1) (map module_view (drop (i + 1) modules)))
      ∙ sym (drop_item (λ left. made ++ modules_code_from all placement i (map module_view left))
      modules i typed within is)
      ∙ rest

  pub modules_emitted : length modules ≤ i → made ≡ total
  modules_emitted past =
      sym (append-nil made)
      ∙ sym (at_drop_all (λ left. made ++ modules_code_from all placement i (map module_view left))
      modules i past) ∙ rest

-- they are those of the definition
procedures_are : (site : Site) (number : ℕ) (procedures : List TypedProcedure)
    → procedures_code_from site number procedures
    ≡ flat_map (procedure_code site) (enumerate_from number procedures)
procedures_are site number [] = refl
procedures_are site number (procedure ∷ others) =
    ap (λ code. procedure_code site (number, procedure) ++ code) (procedures_are site (number + 1) others)

modules_are : (all : List TypedModule) (placement : Placement) (number : ℕ) (modules : List TypedModule)
    → modules_code_from all placement number modules
    ≡ flat_map (module_code all placement) (enumerate_from number modules)
modules_are all placement number [] = refl
modules_are all placement number (typed ∷ others) =
    ap (λ code. code ++ modules_code_from all placement (number + 1) others)
    (procedures_are (site_of all placement number) 0 typed.procedures)
    ∙ ap (λ code. module_code all placement (number, typed) ++ code)
    (modules_are all placement (number + 1) others)

pub program_made : (modules : List TypedModule) (placement : Placement) (number : ℕ) (main : TypedModule)
    (old a new : List Instruction) → old ≡ []
    → a ≡ old ++ main_code modules placement (number, main)
    → new ≡ a ++ modules_code_from modules placement 0 modules
    → new ≡ program_code modules placement number main
unfolding program_code
program_made modules placement number main old a new none one two =
    two
    ∙ ap (λ code. code ++ modules_code_from modules placement 0 modules)
    (one ∙ ap (λ code. code ++ main_code modules placement (number, main)) none)
    ∙ ap (λ code. main_code modules placement (number, main) ++ code) (modules_are modules placement 0 modules)
