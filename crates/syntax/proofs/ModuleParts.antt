-- A module is its head, a block and its end.
use Rattle.syntax.proofs.Prelude.{true, ℕ, List, [], ◌∷◌, Option, Result, Ok, Err, ◌≡◌, refl, Identifier, Place, Symbol, DeclarationTrees, StatementTrees, ModuleTree, block_in, Reading, Cause, ◌>>=◌, name, mark, taken, place_of_word, semicolon, at_the_end, ending, module_of, module_head, module_end, whole_module}
use Rattle.words.specs.declared.vocabulary.Mark.TheVariants as marks
use Rattle.words.specs.declared.vocabulary.ReservedWord.TheVariants as words

-- what stands after the head of a module
abbrev pub module_inside : ℕ → (Identifier × Place) × List Symbol → Result ModuleTree Cause
module_inside room head =
    block_in room head.1 >>= λ (i : (DeclarationTrees × StatementTrees) × List Symbol).
    module_end head.0.0 i.1 >>= λ (e : Option Identifier).
    Ok (module_of head.0.0 head.0.1 i.0 e)

-- the same, with the module made before the end of the text is looked at
abbrev inside_at_once : ℕ → Identifier → Place → List Symbol → Result ModuleTree Cause
inside_at_once room own place s =
    block_in room s >>= λ (i : (DeclarationTrees × StatementTrees) × List Symbol).
    ending true own i.1 >>= λ (e : Option Identifier × List Symbol).
    at_the_end (module_of own place i.0 e.0) e.1

ended : (make : Option Identifier → ModuleTree) (e : Option Identifier) (rest : List Symbol)
    → at_the_end (make e) rest ≡ (at_the_end e rest >>= λ (e : Option Identifier). Ok (make e))
ended make e [] = refl
ended make e (x ∷ rest) = refl

after_ending : (make : Option Identifier → ModuleTree) (end : Reading (Option Identifier))
    → (end >>= λ (e : Option Identifier × List Symbol). at_the_end (make e.0) e.1)
    ≡ ((end >>= λ (e : Option Identifier × List Symbol). at_the_end e.0 e.1)
    >>= λ (e : Option Identifier). Ok (make e))
after_ending make (Ok e) = ended make e.0 e.1
after_ending make (Err cause) = refl

after_block : (own : Identifier) (place : Place) (inside : Reading (DeclarationTrees × StatementTrees))
    → (inside >>= λ (i : (DeclarationTrees × StatementTrees) × List Symbol).
    ending true own i.1 >>= λ (e : Option Identifier × List Symbol).
    at_the_end (module_of own place i.0 e.0) e.1)
    ≡ (inside >>= λ (i : (DeclarationTrees × StatementTrees) × List Symbol).
    module_end own i.1 >>= λ (e : Option Identifier). Ok (module_of own place i.0 e))
after_block own place (Ok i) =
    after_ending (λ (e : Option Identifier). module_of own place i.0 e) (ending true own i.1)
after_block own place (Err cause) = refl

after_start : (room : ℕ) (own : Identifier) (place : Place) (start : Reading Place)
    → (start >>= λ (t : Place × List Symbol). inside_at_once room own place t.1)
    ≡ ((start >>= λ (t : Place × List Symbol). Ok ((own, place), t.1)) >>= module_inside room)
after_start room own place (Ok t) = after_block own place (block_in room t.1)
after_start room own place (Err cause) = refl

after_place : (room : ℕ) (own : Identifier) (place : Reading Place)
    → (place >>= λ (p : Place × List Symbol). semicolon p.1 >>= λ (t : Place × List Symbol).
    inside_at_once room own p.0 t.1)
    ≡ ((place >>= λ (p : Place × List Symbol). semicolon p.1 >>= λ (t : Place × List Symbol).
    Ok ((own, p.0), t.1)) >>= module_inside room)
after_place room own (Ok p) = after_start room own p.0 (semicolon p.1)
after_place room own (Err cause) = refl

after_colon : (room : ℕ) (own : Identifier) (colon : Result (List Symbol) Cause)
    → (colon >>= λ (c : List Symbol). taken (place_of_word words.Do c) c >>= λ (p : Place × List Symbol).
    semicolon p.1 >>= λ (t : Place × List Symbol). inside_at_once room own p.0 t.1)
    ≡ ((colon >>= λ (c : List Symbol). taken (place_of_word words.Do c) c >>= λ (p : Place × List Symbol).
    semicolon p.1 >>= λ (t : Place × List Symbol). Ok ((own, p.0), t.1)) >>= module_inside room)
after_colon room own (Ok c) = after_place room own (taken (place_of_word words.Do c) c)
after_colon room own (Err cause) = refl

pub module_is : (room : ℕ) (s : List Symbol)
    → whole_module true room s ≡ (module_head s >>= module_inside room)
unfolding whole_module
module_is room s = go (name s)
  where
    go : (own : Reading Identifier)
        → (own >>= λ (o : Identifier × List Symbol). mark marks.Colon o.1 >>= λ (c : List Symbol).
        taken (place_of_word words.Do c) c >>= λ (p : Place × List Symbol).
        semicolon p.1 >>= λ (t : Place × List Symbol). inside_at_once room o.0 p.0 t.1)
        ≡ ((own >>= λ (o : Identifier × List Symbol). mark marks.Colon o.1 >>= λ (c : List Symbol).
        taken (place_of_word words.Do c) c >>= λ (p : Place × List Symbol).
        semicolon p.1 >>= λ (t : Place × List Symbol). Ok ((o.0, p.0), t.1)) >>= module_inside room)
    go (Ok o) = after_colon room o.0 (mark marks.Colon o.1)
    go (Err cause) = refl
