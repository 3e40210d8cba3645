-- The number of bytes that code pushes, counted on its items alone.
use Rattle.std.specs.Prelude.{◌≡◌, ℕ, ◌+◌, ◌-◌, ◌*◌, ◌≤◌, Bool, true, false, List, [], ◌∷◌, ◌++◌, length, slice_get}
use Rattle.std.specs.Option.{option_map_or}
use Rattle.typed_trees.specs.declared.limits.TheConstants.{FRAME_LIMIT}
use Rattle.isa8080.specs.declared.instr.Instr.{Instr}
use Rattle.isa8080.specs.declared.instr.Instr.TheVariants as instructions
use Rattle.isa8080.specs.declared.instr.Pair.TheVariants.{Hl, Sp}
use Rattle.isa8080.specs.declared.instr.StackPair.{StackPair}
use Rattle.asm8080.specs.declared.item.Item.{Item}
use Rattle.asm8080.specs.declared.item.Item.TheVariants.{Plain, WithWord, Mark}
use Rattle.asm8080.specs.declared.item.Reference.{Reference}
use Rattle.asm8080.specs.declared.item.WordForm.{WordForm}
use Rattle.asm8080.specs.declared.item.WordForm.TheVariants as forms
use Rattle.isa8080.specs.declared.instr.Condition.{Condition}
use Rattle.runtime8080.specs.declared.routine.Routine.{Routine}
use Rattle.treecode.specs.declared.module.TreeModule.{TreeModule}
use Rattle.treecode.specs.declared.procedure.TreeProcedure.{TreeProcedure}
use Rattle.steps8080.specs.internal.Writer.{jump_item}
use Rattle.exprgen8080.specs.internal.Emission.{module_call_items, module_label_of_routine}

-- an instruction that does not change the stack pointer, and continues with the next instruction
abbrev pub keeps_stack : Instr → Bool
keeps_stack (instructions.Lxi Sp word) = false
keeps_stack (instructions.Inx Sp) = false
keeps_stack (instructions.Dcx Sp) = false
keeps_stack instructions.Hlt = false
keeps_stack (instructions.ReturnIf condition) = false
keeps_stack (instructions.JumpIf condition word) = false
keeps_stack (instructions.CallIf condition word) = false
keeps_stack instructions.Ret = false
keeps_stack (instructions.Jmp word) = false
keeps_stack (instructions.Call word) = false
keeps_stack (instructions.Rst number) = false
keeps_stack (instructions.Pop pair) = false
keeps_stack (instructions.Push pair) = false
keeps_stack instructions.Pchl = false
keeps_stack instructions.Sphl = false
keeps_stack instruction = true

-- the same for an instruction with a word, whatever the word is
abbrev pub keeps_stack_with : WordForm → Bool
keeps_stack_with (forms.LoadPair Sp) = false
keeps_stack_with forms.Jump = false
keeps_stack_with (forms.JumpWhere condition) = false
keeps_stack_with forms.CallTo = false
keeps_stack_with (forms.CallWhere condition) = false
keeps_stack_with form = true

-- the bytes of arguments that a procedure of a module pops: a word for each but the last
abbrev pub taken_by : TreeModule → (procedure : ℕ) → ℕ
taken_by tree procedure =
    option_map_or (λ (found : TreeProcedure). 2 * (length found.parameters.items - 1))
    (slice_get tree.procedures.items procedure) 0

-- Items of a module that find room on the stack, with `free` bytes free before them and `after` bytes after
-- them. PUSH takes two bytes, and a call takes two for its return address while it lasts. Jumps and labels
-- need at least `level` free bytes. After a label, and at code that no instruction continues to, `level`
-- bytes count as free.
pub data FindsRoom (tree : TreeModule) (level : ℕ) :
    (free : ℕ) → List Item → (after : ℕ) → Type 0 where
  NothingThere : {free : ℕ} → FindsRoom tree level free [] free
  PushThere : {free after : ℕ} {pair : StackPair} {others : List Item}
      → 2 ≤ free
      → FindsRoom tree level (free - 2) others after
      → FindsRoom tree level free (Plain (instructions.Push pair) ∷ others) after
  PopThere : {free after : ℕ} {pair : StackPair} {others : List Item}
      → FindsRoom tree level (free + 2) others after
      → FindsRoom tree level free (Plain (instructions.Pop pair) ∷ others) after
  CallThere : {free after : ℕ} {others : List Item} (procedure : ℕ)
      → 2 ≤ free
      → FindsRoom tree level (free + taken_by tree procedure) others after
      → FindsRoom tree level free (module_call_items tree procedure ++ others) after
  RoutineThere : {free after : ℕ} {others : List Item} (routine : Routine)
      → 2 ≤ free
      → FindsRoom tree level free others after
      → FindsRoom tree level free
      (jump_item forms.CallTo (module_label_of_routine tree routine) ∷ others) after
  -- a return drops what its call has on the stack; if it does so by an addition, that is at most the bytes of
  -- a frame and of a parameter
  ByteDropped : {free after : ℕ} {others : List Item}
      → FindsRoom tree level (free + 1) others after
      → FindsRoom tree level free (Plain (instructions.Inx Sp) ∷ others) after
  BytesDropped : {free after bytes : ℕ} {others : List Item}
      → bytes ≤ FRAME_LIMIT + 2
      → FindsRoom tree level (free + bytes) others after
      → FindsRoom tree level free
      (Plain (instructions.Lxi Hl bytes)
      ∷ Plain (instructions.Dad Sp)
      ∷ Plain instructions.Sphl
      ∷ others) after
  InstructionThere : {free after : ℕ} {instruction : Instr} {others : List Item}
      → keeps_stack instruction ≡ true
      → FindsRoom tree level free others after
      → FindsRoom tree level free (Plain instruction ∷ others) after
  WordThere : {free after : ℕ} {form : WordForm} {reference : Reference} {others : List Item}
      → keeps_stack_with form ≡ true
      → FindsRoom tree level free others after
      → FindsRoom tree level free (WithWord form reference ∷ others) after
  JumpThere : {free after : ℕ} {reference : Reference} {others : List Item}
      → level ≤ free
      → FindsRoom tree level level others after
      → FindsRoom tree level free (WithWord forms.Jump reference ∷ others) after
  BranchThere : {free after : ℕ} {condition : Condition} {reference : Reference} {others : List Item}
      → level ≤ free
      → FindsRoom tree level free others after
      → FindsRoom tree level free (WithWord (forms.JumpWhere condition) reference ∷ others) after
  TableJumpThere : {free after : ℕ} {others : List Item}
      → level ≤ free
      → FindsRoom tree level level others after
      → FindsRoom tree level free (Plain instructions.Pchl ∷ others) after
  ReturnThere : {free after : ℕ} {others : List Item}
      → FindsRoom tree level level others after
      → FindsRoom tree level free (Plain instructions.Ret ∷ others) after
  HaltThere : {free after : ℕ} {others : List Item}
      → FindsRoom tree level level others after
      → FindsRoom tree level free (Plain instructions.Hlt ∷ others) after
  LabelThere : {free after label : ℕ} {others : List Item}
      → level ≤ free
      → FindsRoom tree level level others after
      → FindsRoom tree level free (Mark label ∷ others) after

-- Code pushes at most `bytes` bytes: if these are free at its start, it finds room, with all of them free at
-- its jumps, at its labels, and at its end.
abbrev pub PushesAtMost : TreeModule → (bytes : ℕ) → List Item → Type 0
PushesAtMost tree bytes list = FindsRoom tree bytes bytes list bytes
