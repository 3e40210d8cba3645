-- Where labels and targets of the code of one module of a program lie.
use Rattle.std.specs.Prelude.{ℕ, List}
use Rattle.std.specs.Option.{option_map_or}
use Rattle.object_modules.specs.declared.segment.Target.{Target}
use Rattle.object_modules.specs.declared.segment.Target.TheVariants.{InSegment, External}
use Rattle.asm8080.specs.Assembled.{layout_at}
use Rattle.asm8080.specs.Items.{Layout}
use Rattle.layout.specs.Following.{base_of}
use Rattle.layout.specs.Segments.{ExternalName, SegmentStart, Target as ModuleTarget}
use Rattle.treecode.specs.declared.module.ExternalName.{ExternalName as TreeExternal}
use Rattle.treecode_laws.specs.internal.Places.{name_at}
use Rattle.steps8080.specs.internal.Externals.{entry}
use Rattle.steps8080.specs.internal.Writer.{Written}
use Rattle.program_laws.specs.OneModule.{bases_at}

-- what the locations of a module are counted from: its segments, and its EXTERNAL names
abbrev pub address_for :
    (address_of : Target → ℕ) → (address_of_name : (name : List ℕ) → ℕ) → ModuleTarget → ℕ
address_for address_of address_of_name (SegmentStart segment) = base_of (bases_at address_of) segment
address_for address_of address_of_name (ExternalName name) = address_of_name name

-- where labels lie by the numbers of the code, and its targets
abbrev pub written_layout : (address_of : Target → ℕ) → (to : Target → Target) → Written → Layout
written_layout address_of to written = layout_at (λ target. address_of (to target)) written.code

-- where targets lie by the numbers of the module
abbrev pub address_by_module :
    (address_of : Target → ℕ) → (address_of_name : (name : List ℕ) → ℕ) → (to : Target → Target)
    → List TreeExternal → Target → ℕ
address_by_module address_of address_of_name to names (InSegment segment) = address_of (to (InSegment segment))
address_by_module address_of address_of_name to names (External index) = address_of_name (name_at names index)

-- where labels lie by the numbers of the module, and its targets
abbrev pub module_layout :
    (address_of : Target → ℕ) → (address_of_name : (name : List ℕ) → ℕ) → (to : Target → Target) → Written
    → List TreeExternal → Layout
module_layout address_of address_of_name to written names = record {
  place_of = λ label.
      option_map_or (written_layout address_of to written).place_of (entry written.labels label) 0;
  address_of = address_by_module address_of address_of_name to names;
}
