-- The marks of the parts of the code of a program.
use Rattle.std.specs.Prelude.{ℕ, ◌+◌, ◌-◌, ◌^◌, ◌<◌, min, List, Option, option_map, slice_get}
use Rattle.std.specs.List.{AllByRecursion}
use Rattle.stack_compiler.specs.declared.marking.PartMark.{PartMark}
use Rattle.stack_compiler.specs.declared.marking.ProgramMarks.{ProgramMarks}
use Rattle.stack_compiler.specs.declared.marking.StackMark.{StackMark}
use Rattle.stack_compiler.specs.declared.marking.StackPart.{StackPart}
use Rattle.stack_compiler.specs.declared.marking.StackPart.TheVariants.{Main, Procedure, Statement}

-- a part whose number, if it is a statement, is greater by a count
abbrev pub later_by : (count : ℕ) → StackPart → StackPart
later_by count Main = Main
later_by count (Procedure number) = Procedure number
later_by count (Statement number) = Statement (min (number + count) (2 ^ 64 - 1))

-- the mark of a part of a module, after `before` statements of procedures
abbrev pub stack_mark : (number_of_module before : ℕ) → PartMark → StackMark
stack_mark number_of_module before mark = record {
  part = later_by before mark.part;
  number_of_module = number_of_module;
  place = mark.place;
}

-- that of the main program of a module, with which the code begins
abbrev pub main_mark : (number_of_module : ℕ) → StackMark
main_mark number_of_module = record { part = Main; number_of_module = number_of_module; place = 0 }

-- each mark is of one of `count` modules
abbrev pub AreOfModules : (count : ℕ) → List StackMark → Type 0
AreOfModules count marks = AllByRecursion (λ (mark : StackMark). mark.number_of_module < count) marks

-- the marks of procedures, and that of the main program, are of the `count` modules of a program
pub record AreMarksOf (count : ℕ) (marks : ProgramMarks) : Type 0 where
  pub main : marks.main_module < count
  pub of_modules : AreOfModules count marks.list.items

-- the first instruction of the first part
abbrev pub first_place : List StackMark → Option ℕ
first_place marks = option_map (λ (mark : StackMark). mark.place) (slice_get marks 0)
