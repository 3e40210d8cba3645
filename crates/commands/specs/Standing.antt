-- Where a run stands at its end, and how that is printed.
use Rattle.std.specs.Prelude.{◌≡◌, ◌⊎◌, ℕ, ◌+◌, Bool, true, false, List, [], ◌∷◌, ◌++◌, Contains, codes, map, Option, Some, None}
use Rattle.std.specs.Fmt.{decimal}
use Rattle.ports.specs.declared.event.Event.{Event}
use Rattle.isa8080.specs.State.{wrap}
use Rattle.cpu8080.specs.Machine.{Machine}
use Rattle.cpu8080.specs.Runs.{FailsAfter, IsRun}
use Rattle.cpu8080.specs.declared.machine.End.{End}
use Rattle.cpu8080.specs.declared.machine.End.TheVariants.{Halted, Illegal, PortFault, Limit}
use Rattle.join.specs.declared.joined.Joined.{Joined}
use Rattle.object_commands.specs.Placing.{address_digits}
use Rattle.sources.specs.Programs.{program_modules}
use Rattle.typed_trees.specs.TypedTrees.{TypedModule}

-- The address at which a machine stands whose run ended so. A machine that HLT halted has its program counter after the
-- HLT, and stands at the HLT, one byte before. Any other stands at its program counter: at the illegal code, at the
-- instruction whose port failed, or at the one that would come next.
abbrev pub stand_of : End → Machine → ℕ
stand_of Halted machine = wrap (machine.state.registers.pc + 65535)
stand_of Illegal machine = machine.state.registers.pc
stand_of PortFault machine = machine.state.registers.pc
stand_of Limit machine = machine.state.registers.pc

-- A run on the machine, of at most `limit` steps, ended so with these events and stands at this address; or it came,
-- with these events, to a read past the input, and stands at the instruction that would have read.
abbrev pub StandsAt :
    (limit : ℕ) → (start : Machine) → Option End → (events : List Event) → (place : ℕ) → Type 0
StandsAt limit start (Some end) events place =
    (machine : Machine) × IsRun limit start end machine × (events ≡ machine.state.events)
    × (place ≡ stand_of end machine)
StandsAt limit start None events place =
    (steps : ℕ) × ((machine : Machine) × FailsAfter start steps machine × (events ≡ machine.state.events)
    × (place ≡ machine.state.registers.pc))

-- the names of the modules of a program; objects are run without any
abbrev pub module_names : Joined → List (List ℕ)
module_names program = map (λ (typed : TypedModule). typed.name) (program_modules program)

abbrev pub no_names : List (List ℕ)
no_names = []

-- A text names a line of a source: the name of one of these modules, a space (32) and a decimal number. Which line a
-- place has comes from the table of the lines of code; no definition says more of that table.
pub record NamesLine (names : List (List ℕ)) (text : List ℕ) : Type 0 where
  pub name : List ℕ
  pub line : ℕ
  pub of_module : Contains names name
  pub text_is : text ≡ name ++ 32 ∷ decimal line

-- a text names a place: a line of a source, or by its digits this address
abbrev pub NamesPlace : (names : List (List ℕ)) → (place : ℕ) → (text : List ℕ) → Type 0
NamesPlace names place text = NamesLine names text ⊎ (text ≡ address_digits place)

-- the word that a run ends with, and in a line after it the text of its place, where that is wanted
abbrev pub with_place : (wanted : Bool) → (word text : List ℕ) → List ℕ
with_place false word text = word
with_place true word text = word ++ 10 ∷ codes "AT " ++ text
