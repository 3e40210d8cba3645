-- Plans, placed modules and faults.
use Rattle.std.specs.Prelude.{◌≡◌, ℕ, IsTrue, List, [], ◌∷◌, All, Ok}
use Rattle.mem80.specs.Memory.{with_bytes}
use Rattle.mem80.specs.declared.range.Piece.{Piece}
use Rattle.mem80.specs.Pieces.{AreLongestRuns, are_runs, EndsInMemory}
use Rattle.object_modules.specs.Module.{ObjectModule}
use Rattle.object_modules.specs.Image.{Plan, Symbol, Image, PlacementRefusal, ExternalLeft, NoStart, PassesMemory, SegmentsMeet, PageBroken, HighByteBroken, image_of}
use Rattle.mem80.specs.declared.plan.Plan.{Plan as CodePlan}
use Rattle.locate.specs.declared.absolute.Symbol.{Symbol as CodeSymbol}
use Rattle.locate.specs.declared.fault.LocateFault.{LocateFault}
use Rattle.locate.specs.declared.fault.LocateFault.TheVariants as faults

abbrev pub plan_view : CodePlan → Plan
plan_view plan = record {
  code_base = plan.code;
  data_base = plan.data_base;
  stack_base = plan.stack;
  stack_size = plan.stack_size;
}

-- the refusal that a fault stands for
abbrev pub refusal_of : LocateFault → PlacementRefusal
refusal_of faults.ExternalLeft = ExternalLeft
refusal_of faults.NoStart = NoStart
refusal_of faults.PassesMemory = PassesMemory
refusal_of faults.SegmentsMeet = SegmentsMeet
refusal_of faults.PageBroken = PageBroken
refusal_of faults.HighByteBroken = HighByteBroken

-- a placed module as pieces of memory, its start and its symbols
pub record Absolute : Type 0 where
  pub pieces : List Piece
  pub start : ℕ
  pub symbols : List Symbol

-- a module is placed by a plan: it has an image there, and the pieces are the longest runs of that
pub record IsPlaced (plan : Plan) (object : ObjectModule) (absolute : Absolute) : Type 0 where
  pub image : Image
  pub found : image_of plan object ≡ Ok image
  pub pieces : AreLongestRuns absolute.pieces image.byte_at
  pub start : absolute.start ≡ image.start
  pub symbols : absolute.symbols ≡ image.symbols

-- the rules that each placed module follows: its pieces are runs that lie in memory
pub record IsAbsolute (absolute : Absolute) : Type 0 where
  pub runs : IsTrue (are_runs absolute.pieces)
  pub in_memory : All EndsInMemory absolute.pieces

abbrev pub symbol_view : CodeSymbol → Symbol
symbol_view symbol = record { name = symbol.name; address = symbol.address }

-- a memory with pieces put into it
abbrev pub loaded : List Piece → (memory : List ℕ) → List ℕ
loaded [] memory = memory
loaded (piece ∷ others) memory = loaded others (with_bytes piece.bytes piece.start memory)
