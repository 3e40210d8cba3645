-- An object module of one module of a program, in memory: where its segments lie, what its targets stand for, and where
-- procedures are entered.
use Rattle.std.specs.Prelude.{◌≡◌, ◌≢◌, ℕ, ◌+◌, ◌%◌, ◌≤◌, List, length, Some, slice_get, slice_index}
use Rattle.std.specs.Option.{option_map_or}
use Rattle.mem80.specs.declared.memory.TheConstants.{MEMORY_SIZE}
use Rattle.object_modules.specs.declared.segment.Segment.TheVariants.{Code, Data, Stack}
use Rattle.object_modules.specs.declared.segment.Target.{Target}
use Rattle.object_modules.specs.declared.segment.Target.TheVariants.{InSegment, External}
use Rattle.object_modules.specs.Module.{ObjectModule}
use Rattle.object_modules.specs.Moving.{bytes_resolved}
use Rattle.typed_trees.specs.declared.parts.Visibility.TheVariants as visibilities
use Rattle.typed_trees.specs.TypedTrees.{Elsewhere, Nowhere, TypedModule, TypedObject, TypedProcedure}
use Rattle.typed_trees.specs.Numbers.{NumbersFitInModule}
use Rattle.layout.specs.declared.slot.Segment.TheVariants as slots
use Rattle.layout.specs.Following.{Bases, FollowsBases}
use Rattle.layout.specs.Joined.{InProgram}
use Rattle.layout.specs.Lawful.{IsLawful}
use Rattle.layout.specs.Placement.{ModulePlacement}
use Rattle.layout.specs.Segments.{After, SegmentStart}
use Rattle.layout.specs.StartingMemory.{address_of_object}
use Rattle.layout.specs.Storage.{storage_with}
use Rattle.meaning.specs.Meaning.{callee_in}
use Rattle.meaning.specs.Outcomes.{Program}
use Rattle.isa8080.specs.State.{wrap}
use Rattle.asm8080.specs.Standing.{SetBytesStand}
use Rattle.image_laws.specs.Segments.{HasPublic}
use Rattle.procedure_laws.specs.ProgramTypes.{HasTypes}
use Rattle.procedure_laws.specs.Calls.{Entries}
use Rattle.procedure_laws.specs.OneModule.{AllCallsAreKnown, ModuleDoes, OtherCallsAreKnown, around_in, in_module}

-- where the segments of a module begin, by the addresses of the targets of its fixes
abbrev pub bases_at : (address_of : Target → ℕ) → Bases
bases_at address_of = record {
  code_base = address_of (InSegment Code);
  data_base = address_of (InSegment Data);
}

-- An object module of a module of a program lies in memory, where the targets of its fixes and its EXTERNAL names have
-- these addresses. The program is typed, and its placement is lawful; it has the objects and the constant lists of the
-- module in its segments as these are laid out, and the others where their names lie. The bytes of its code segment stand
-- in CODE, with all fixes done.
pub record LiesInMemory
    (program : Program) (number : ℕ) (typed : TypedModule) (object : ObjectModule)
    (address_of : Target → ℕ) (address_of_name : (name : List ℕ) → ℕ) (memory : List ℕ) : Type 0 where
  pub is_module : slice_get program.modules number ≡ Some typed
  pub types : HasTypes program
  pub lawful : IsLawful program.modules program.placement
  -- its objects and lists
  pub placed : ModulePlacement
  pub is_placed : slice_get program.placement.modules number ≡ Some placed
  pub follows : FollowsBases (bases_at address_of) (storage_with typed) placed
  pub elsewhere : (index : ℕ) (found : TypedObject)
      → slice_get typed.objects index ≡ Some found
      → found.home ≡ Elsewhere
      → address_of_object program.modules program.placement number typed index
      ≡ address_of_name found.name % MEMORY_SIZE
  pub nowhere : (index : ℕ) (found : TypedObject)
      → slice_get typed.objects index ≡ Some found
      → found.home ≡ Nowhere
      → slice_index placed.objects index ≡ 0
  -- what else its fixes refer to: the end of the stack, and names
  pub stack_end :
      wrap (address_of (InSegment Stack)) ≡ wrap (program.placement.stack.start + program.placement.stack.len)
  pub names : (index : ℕ) (name : List ℕ)
      → slice_get object.externals index ≡ Some name
      → address_of (External index) ≡ address_of_name name
  -- its code
  pub low : program.placement.code.start ≤ address_of (InSegment Code)
  pub high :
      address_of (InSegment Code) + length object.code.places
      ≤ program.placement.code.start + program.placement.code.len
  pub stands : SetBytesStand memory (address_of (InSegment Code)) (bytes_resolved address_of object.code.places)

-- Where procedures are entered: those of the module where they begin in its code segment, and those that its EXTERNAL
-- ones stand for where their names lie.
pub record AreEntered
    (program : Program) (number : ℕ) (typed : TypedModule) (begins : (index : ℕ) → ℕ)
    (address_of : Target → ℕ) (address_of_name : (name : List ℕ) → ℕ) (entries : Entries) : Type 0 where
  pub own : (index : ℕ) (found : TypedProcedure)
      → slice_get typed.procedures index ≡ Some found
      → found.visibility ≢ visibilities.External
      → wrap (entries (in_module number index)) ≡ wrap (address_of (InSegment Code) + begins index)
  pub externals : (index : ℕ) (found : TypedProcedure) (at : InProgram)
      → slice_get typed.procedures index ≡ Some found
      → found.visibility ≡ visibilities.External
      → callee_in (around_in program number 0) index ≡ Some at
      → wrap (entries at) ≡ wrap (address_of_name found.name)

-- an object module shows where each PUBLIC procedure of its module begins, by a public of that name
abbrev pub ShowsProcedures : TypedModule → ObjectModule → (begins : (index : ℕ) → ℕ) → Type 0
ShowsProcedures typed object begins =
    (index : ℕ) (found : TypedProcedure)
    → slice_get typed.procedures index ≡ Some found
    → found.visibility ≡ visibilities.Public
    → HasPublic found.name (After (SegmentStart slots.Code) (begins index)) object.publics

-- where a module is started, if it is the main one
abbrev pub start_place : (address_of : Target → ℕ) → ObjectModule → ℕ
start_place address_of object = option_map_or (λ offset. address_of (InSegment Code) + offset) object.start 0

-- What code is generated for. Each procedure of a module begins somewhere in the code segment of its object
-- module, and its numbers are words, as every module of a program asks of the others. In every program that
-- the module is one of, for every lawful placement, and wherever its object module then lies: where calls of
-- all procedures are known in runs of less than a number, those of its own are in runs of one more, and the
-- main program runs as the source does and ends with its memory; and so, for each number, where calls of the
-- procedures of other modules alone are known.
pub record DoesWhereItLies (typed : TypedModule) (object : ObjectModule) : Type 0 where
  pub begins : (index : ℕ) → ℕ
  pub shown : ShowsProcedures typed object begins
  pub numbers : NumbersFitInModule typed
  pub by_calls :
      (program : Program) (number : ℕ) (address_of : Target → ℕ) (address_of_name : (name : List ℕ) → ℕ)
      (memory : List ℕ) (entries : Entries)
      → LiesInMemory program number typed object address_of address_of_name memory
      → AreEntered program number typed begins address_of address_of_name entries
      → ModuleDoes program memory entries number typed (start_place address_of object)
      (AllCallsAreKnown program memory entries)
  pub by_other_calls :
      (program : Program) (number : ℕ) (address_of : Target → ℕ) (address_of_name : (name : List ℕ) → ℕ)
      (memory : List ℕ) (entries : Entries)
      → LiesInMemory program number typed object address_of address_of_name memory
      → AreEntered program number typed begins address_of address_of_name entries
      → ModuleDoes program memory entries number typed (start_place address_of object)
      (OtherCallsAreKnown program memory entries number)
