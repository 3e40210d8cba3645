-- What the code of one module of a program does on the machine, by what calls do.
use Rattle.std.specs.Prelude.{◌≡◌, ◌≢◌, ℕ, suc, ◌≤◌, true, List, [], Some, slice_get}
use Rattle.typed_trees.specs.declared.parts.Visibility.TheVariants as visibilities
use Rattle.typed_trees.specs.TypedTrees.{TypedModule, TypedProcedure}
use Rattle.layout.specs.Joined.{InProgram, is_main}
use Rattle.meaning.specs.Access.{Surroundings}
use Rattle.meaning.specs.Meaning.{Later, later_by, procedure_at}
use Rattle.meaning.specs.Outcomes.{Program, State as SourceState}
use Rattle.meaning.specs.Run.{main_done}
use Rattle.isa8080.specs.State.{HoldBytes, Registers}
use Rattle.code_meaning.specs.Sharing.{Shares}
use Rattle.code_meaning.specs.Landing.{at_place}
use Rattle.procedure_laws.specs.Calls.{CallsAreKnown, Entries, EntryDoes}
use Rattle.procedure_laws.specs.Main.{EndsAs}

-- a procedure of a module, by its number there
abbrev pub in_module : (number_of_module number : ℕ) → InProgram
in_module number_of_module number = record { number_of_module = number_of_module; number = number }

-- calls of the procedures of one module are known in runs of less than a number
abbrev pub OwnCallsAreKnown :
    Program → (image : List ℕ) → Entries → (number_of_module : ℕ) → TypedModule → Later → (number : ℕ) → Type 0
OwnCallsAreKnown program image entries number_of_module typed later number =
    (index : ℕ) (found : TypedProcedure)
    → slice_get typed.procedures index ≡ Some found
    → found.visibility ≢ visibilities.External
    → EntryDoes program image later number (in_module number_of_module index) typed found
    (entries (in_module number_of_module index))

-- and those of the procedures of all others
abbrev pub OtherCallsAreKnown :
    Program → (image : List ℕ) → Entries → (number_of_module : ℕ) → Later → (number : ℕ) → Type 0
OtherCallsAreKnown program image entries number_of_module later number =
    (at : InProgram) (typed : TypedModule) (found : TypedProcedure)
    → at.number_of_module ≢ number_of_module
    → procedure_at program.modules at ≡ Some (typed, found)
    → found.visibility ≢ visibilities.External
    → EntryDoes program image later number at typed found (entries at)

-- or all of them
abbrev pub AllCallsAreKnown : Program → (image : List ℕ) → Entries → Later → (number : ℕ) → Type 0
AllCallsAreKnown program image entries later number = CallsAreKnown program image later number entries

-- what the statements of a module are carried out in, with so much room on the stack
abbrev pub around_in : Program → (number_of_module room : ℕ) → Surroundings
around_in program number_of_module room =
    record { program = program; number_of_module = number_of_module; room = room }

-- Where calls are known as told in runs of less than a number, calls of the module's own procedures are known in runs of
-- one more.
abbrev pub CallsFollow :
    Program → (image : List ℕ) → Entries → (number_of_module : ℕ) → TypedModule → (bound : ℕ)
    → (AreKnown : Later → (number : ℕ) → Type 0) → Type 0
CallsFollow program image entries number_of_module typed bound AreKnown =
    (number : ℕ)
    → suc number ≤ bound
    → AreKnown (later_by bound) number
    → OwnCallsAreKnown program image entries number_of_module typed (later_by bound) (suc number)

-- What the code of one module does on the machine, where calls are known as told: calls of its own procedures do what they
-- mean with one more of the budget; and from its start, where it is the main module, the machine ends as its main program
-- does with that budget, for each memory that has what is declared as the source has it, and is else as it
-- was loaded but for variables and the stack.
pub record ModuleDoes
    (program : Program) (image : List ℕ) (entries : Entries) (number_of_module : ℕ) (typed : TypedModule)
    (start : ℕ) (AreKnown : Later → (number : ℕ) → Type 0) : Type 0 where
  pub calls : (bound : ℕ) → CallsFollow program image entries number_of_module typed bound AreKnown
  pub main :
      (budget room : ℕ) (s : SourceState) (r : Registers) (memory : List ℕ)
      → is_main typed ≡ true
      → AreKnown (later_by (suc budget)) budget
      → s.budget ≡ budget
      → s.frame ≡ []
      → room ≤ program.placement.stack.len
      → Shares program image s.memory memory
      → HoldBytes r
      → EndsAs (record { program = program; image = image }) budget (at_place start r memory s.events)
      (main_done budget typed (around_in program number_of_module room) s)
