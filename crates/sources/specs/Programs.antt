-- Programs of sources: their modules, their places, and why modules do not make a program.
use Rattle.std.specs.Prelude.{◌≡◌, ℕ, List, [], ◌∷◌, map, slice_index_or, Some, None}
use Rattle.typed_trees.specs.TypedTrees.{TypedModule}
use Rattle.typed_trees.specs.Views.{module_view}
use Rattle.layout.specs.Joined.{IsJoined, join_refusal}
use Rattle.layout.specs.Lawful.{IsLawful}
use Rattle.layout.specs.Placing.{placement_by, placing_refusal}
use Rattle.join.specs.declared.joined.Joined.{Joined}
use Rattle.join.specs.Views as of_joining
use Rattle.mem80.specs.declared.plan.Plan.{Plan}
use Rattle.placing.specs.Views as of_placement
use Rattle.sources.specs.Reading.{IsSourceOf}
use Rattle.sources.specs.declared.fault.ProgramFault.{ProgramFault}
use Rattle.sources.specs.declared.fault.ProgramFault.TheVariants.{Join, Placement}
use Rattle.sources.specs.declared.placed.Placed.{Placed}
use Rattle.sources.specs.declared.sources.Source as declared_source

-- the texts of sources
abbrev pub texts_of : List declared_source.Source → List (List ℕ)
texts_of sources = map (λ (source : declared_source.Source). source.text.now) sources

-- the text of one of them
abbrev pub text_of : List (List ℕ) → ℕ → List ℕ
text_of texts file = slice_index_or texts file []

-- texts are the sources of modules, one by one
abbrev pub AreSourcesOf : List (List ℕ) → List TypedModule → Type 0
AreSourcesOf [] [] = Unit {0}
AreSourcesOf (text ∷ texts) (typed ∷ modules) = IsSourceOf text typed × AreSourcesOf texts modules
AreSourcesOf texts modules = ⊥

-- the texts are the sources of the modules of a program
pub record IsProgramOf (texts : List (List ℕ)) (modules : List TypedModule) : Type 0 where
  pub sources : AreSourcesOf texts modules
  pub joined : IsJoined modules

-- the modules of a program
abbrev pub program_modules : Joined → List TypedModule
program_modules program = map module_view (of_joining.modules_of program)

-- A program of these modules, with these lengths of code segments, lies as planned: the modules make a program, the plan
-- is not refused, and the placement is lawful.
pub record IsPlacedBy (modules : List TypedModule) (lengths : List ℕ) (plan : Plan) (placed : Placed) : Type 0 where
  pub program : program_modules placed.program ≡ modules
  pub joined : IsJoined modules
  pub may_lie : placing_refusal (of_placement.plan_view plan) modules lengths ≡ None
  pub as_planned : of_placement.placement_view placed.placement
      ≡ placement_by (of_placement.plan_view plan) modules lengths
  pub lawful : IsLawful modules (of_placement.placement_view placed.placement)

-- modules do not make a program, or one that can't lie as planned with code segments of these lengths
abbrev pub HasProgramCause : ProgramFault → List TypedModule → (lengths : List ℕ) → Plan → Type 0
HasProgramCause (Join fault) modules lengths plan = join_refusal modules ≡ Some (of_joining.refusal_of fault)
HasProgramCause (Placement fault) modules lengths plan =
    IsJoined modules
    × (placing_refusal (of_placement.plan_view plan) modules lengths ≡ Some (of_placement.refusal_of fault))
