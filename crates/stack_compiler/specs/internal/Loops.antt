-- The parts of a loop as the code makes them.
use Rattle.std.specs.Prelude.{ℕ, ◌+◌, ◌-◌, List, [], ◌∷◌, ◌++◌, length, slice_set}
use Rattle.typed_trees.specs.TypedTrees.{TypedIteration, TypedHead, CountHead}
use Rattle.stack_code.specs.declared.instruction.Instruction.{Instruction}
use Rattle.stack_code.specs.declared.instruction.Instruction.TheVariants.{Drop, JumpUnless, LoopBack, Step}
use Rattle.stack_code.specs.internal.Code.{Site, ToRead, ToWrite, test_code, value_or, variable_code}
use Rattle.stack_compiler.specs.internal.Openings.{passing}

-- the variable of an iterative DO is changed by the step
abbrev pub stepping_code : Site → TypedIteration → List Instruction
stepping_code site head =
    value_or site 1 head.step
    ++ (variable_code site (ToRead head.scalar) head.variable
    ∷ Step head.scalar
    ∷ variable_code site (ToWrite head.scalar) head.variable
    ∷ Drop
    ∷ [])

-- code that ends in a way back to after an instruction
abbrev pub turned_back : List Instruction → (start : ℕ) → List Instruction
turned_back code start = code ++ (LoopBack (length code - (start + 1)) ∷ [])

-- the code so far, the test to which the jump before the body leads, and the way back
abbrev pub tested : Site → TypedHead → List Instruction → (start : ℕ) → List Instruction
tested site head code start = turned_back (passing code start ++ test_code site head) start

-- the instruction at a place becomes a jump past the end of the code so far, which is taken if the condition does not hold
abbrev pub leaving : List Instruction → (at : ℕ) → List Instruction
leaving code at = slice_set code at (JumpUnless (length code - (at + 1)))

-- after the body of a loop: the step of an iterative DO, which may leave the loop, and the test; of another head the test
-- alone
abbrev pub turn_ended : Site → TypedHead → List Instruction → (start : ℕ) → List Instruction
turn_ended site (CountHead head) code start =
    leaving
    (tested site (CountHead head) ((code ++ stepping_code site head) ++ (JumpUnless 0 ∷ [])) start)
    (length (code ++ stepping_code site head))
turn_ended site head code start = tested site head code start
