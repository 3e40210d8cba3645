-- The listing of a program: the listings of its modules, one after another.
use Rattle.std.specs.Prelude.{ℕ, ◌+◌, List, [], ◌∷◌, ◌++◌}
use Rattle.mem80.specs.declared.range.Piece.{Piece}
use Rattle.object_modules.specs.Image.{Symbol, range_at}
use Rattle.object_modules.specs.Module.{ObjectModule, length_of}
use Rattle.object_modules.specs.Runs.{fixes_in}
use Rattle.object_modules.specs.declared.segment.Segment.TheVariants.{Code, Data}
use Rattle.sources.specs.Programs.{program_modules}
use Rattle.tool.specs.Construction.{Construction}
use Rattle.typed_trees.specs.TypedTrees.{TypedModule}
use Rattle.typed_trees.specs.Weight.{constant_bytes}
use Rattle.listings.specs.Listing.{ListsModule}
use Rattle.listings.specs.Names.{AreNamesOf}

-- modules of these sources, whose segments follow one another from these addresses on, are listed as this text
pub data AreListed (names : List Symbol) (pieces : List Piece) :
    (code_base data_base : ℕ) → (sources : List (List ℕ)) → List TypedModule → List ObjectModule → (text : List ℕ)
    → Type 0 where
  no_module : {code_base data_base : ℕ} → AreListed names pieces code_base data_base [] [] [] []
  next_module : {code_base data_base : ℕ} {source first more : List ℕ} {sources : List (List ℕ)}
      {typed : TypedModule} {modules : List TypedModule} {object : ObjectModule} {objects : List ObjectModule}
      → ListsModule names pieces (range_at code_base (length_of object Code)) (constant_bytes typed)
      (fixes_in object Code) (range_at data_base (length_of object Data)) typed.name source first
      → AreListed names pieces (code_base + length_of object Code) (data_base + length_of object Data)
      sources modules objects more
      → AreListed names pieces code_base data_base (source ∷ sources) (typed ∷ modules) (object ∷ objects)
      (first ++ more)

-- The program of these sources is listed as this text, with its names. Which statement a part of the code belongs to, and so
-- below which line it stands, and where a procedure that is not PUBLIC begins, no definition says: rows of tests try it.
pub record ListsProgram (sources : List (List ℕ)) (built : Construction) (text : List ℕ) : Type 0 where
  pub names : List Symbol
  pub each_name : AreNamesOf built names
  pub listed : AreListed names built.image.pieces built.plan.code built.plan.data_base sources
      (program_modules built.program) built.objects text
