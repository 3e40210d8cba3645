-- What a contract sees of a built program, and what holds of it.
use Rattle.std.specs.Prelude.{◌≡◌, List, All, None, length}
use Rattle.std.specs.List.{AllZip}
use Rattle.typed_trees.specs.Frames.{FramesFit}
use Rattle.typed_trees.specs.Globals.{ListsGlobals}
use Rattle.typed_trees.specs.Jumps.{JumpsAreSound}
use Rattle.typed_trees.specs.Storable.{IsStorable}
use Rattle.typed_trees.specs.TypedTrees.{TypedModule}
use Rattle.typed_trees.specs.WellTyped.{IsWellTyped}
use Rattle.typed_trees.specs.Numbers.{NumbersFitInModule}
use Rattle.layout.specs.Joined.{IsJoined}
use Rattle.layout.specs.Lawful.{IsLawful}
use Rattle.layout.specs.Placement.{Placement}
use Rattle.layout.specs.Placing.{placement_by, placing_refusal}
use Rattle.layout.specs.Sound.{IsSoundlyTyped}
use Rattle.join.specs.declared.joined.Joined.{Joined}
use Rattle.mem80.specs.declared.plan.Plan.{Plan}
use Rattle.placing.specs.Views.{plan_view}
use Rattle.object_modules.specs.Module.{ObjectModule}
use Rattle.locate.specs.Locating.{Absolute}
use Rattle.generation.specs.Kept.{KeepsContract}
use Rattle.sources.specs.Programs.{program_modules}
use Rattle.tool.specs.Headline.{DoesWhatItSays, EndsWithItsMemory}
use Rattle.tool.specs.Made.{IsImageOfFiles, IsImageOfObjects, StartsAsItsSource, code_lengths}

-- the joined program, the plan, the placement, the object modules of the modules, and the image
pub record Construction : Type 0 where
  pub program : Joined
  pub plan : Plan
  pub placement : Placement
  pub objects : List ObjectModule
  pub image : Absolute

-- a module that is well typed, whose numbers have the width of a word, that lists what it shares with other
-- modules, and whose frames have the bytes of their variables
abbrev pub IsTyped : TypedModule → Type 0
IsTyped typed = IsWellTyped typed × NumbersFitInModule typed × ListsGlobals typed × FramesFit typed

-- The image does what the program says, with the stack of the plan, and ends with its memory; where it is
-- loaded each declared byte begins as the program has it; it is the merge of the object modules, placed by
-- the plan, and their files, linked and placed by hand, give it too. The modules make a program: it is
-- well typed, its jumps go to labels that are known, and its storage fits. There is an object module for
-- each, which keeps what `generate` promises: it does what its module says, and is within the code bound. The
-- plan is not refused for their code segments, and the program lies lawfully where it puts it.
pub record IsConstruction (built : Construction) : Type 0 where
  pub headline : DoesWhatItSays (program_modules built.program) built.placement built.plan.stack_size built.image
  pub memory :
      EndsWithItsMemory (program_modules built.program) built.placement built.plan.stack_size built.image
  pub starts : StartsAsItsSource (program_modules built.program) built.placement built.image
  pub linked : IsImageOfObjects built.plan built.objects built.image
  pub files : IsImageOfFiles built.plan built.objects built.image
  pub joined : IsJoined (program_modules built.program)
  pub sound : All IsSoundlyTyped (program_modules built.program)
  pub jumps : All JumpsAreSound (program_modules built.program)
  pub types : All IsTyped (program_modules built.program)
  pub storable : All IsStorable (program_modules built.program)
  pub contracts : AllZip KeepsContract (program_modules built.program) built.objects
  pub objects : length built.objects ≡ length (program_modules built.program)
  pub may_lie :
      placing_refusal (plan_view built.plan) (program_modules built.program) (code_lengths built.objects) ≡ None
  pub lawful : IsLawful (program_modules built.program) built.placement
  pub as_planned : built.placement
      ≡ placement_by (plan_view built.plan) (program_modules built.program) (code_lengths built.objects)
