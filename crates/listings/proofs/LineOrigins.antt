-- The lines from which code comes are lines of the modules of the program.
use Rattle.std.specs.Prelude.{set}
use Rattle.mem80.proofs.Lists.{all_weaker}
use Rattle.listings.specs.declared.origins.{CodeLines.{CodeLines}, CodeOrigin.{CodeOrigin}, CodeOrigin.TheVariants.{Line, Outside, Routine}, SourceLine.{SourceLine}}
use Rattle.listings.specs.internal.Origins.{AreLinesOf, AreOriginsIn, IsOriginIn, IsOriginOf, origin_at}
use Rattle.listings.proofs.Prelude.{◌≡◌, ℕ, zero, suc, ◌<◌, List, [], ◌∷◌, length, replicate, slice_get, unwrap_or, sym, subst, ap, ◌∙◌, arith, AllByRecursion, length-map, program_modules, Construction, ModuleView, AreViews, typed_of}

all_set : {A : Type 0} (P : A → Type 0) (items : List A) (index : ℕ) (item : A) → P item
    → AllByRecursion P items → AllByRecursion P (set items index item)
all_set P [] index item one all = tt
all_set P (first ∷ others) zero item one all = (one, all.1)
all_set P (first ∷ others) (suc index) item one all = (all.0, all_set P others index item one all.1)

pub one_set : (count : ℕ) (origins now : List CodeOrigin) (index : ℕ) (origin : CodeOrigin)
    → now ≡ set origins index origin → IsOriginIn count origin → AreOriginsIn count origins
    → AreOriginsIn count now
one_set count origins now index origin is one all =
    subst (AreOriginsIn count) (sym is) (all_set (IsOriginIn count) origins index origin one all)

-- what is of a module is of one of so many
pub origin_in : (count number : ℕ) (origin : CodeOrigin) → number < count → IsOriginOf number origin
    → IsOriginIn count origin
origin_in count number (Line line) below of_module = omega (arith, below, of_module)
origin_in count number Routine below of_module = tt
origin_in count number Outside below of_module = tt

-- no lines
all_outside : (count : ℕ) → AreOriginsIn 0 (replicate count Outside)
all_outside zero = tt
all_outside (suc count) = (tt, all_outside count)

pub no_lines : (count : ℕ) (origins : List CodeOrigin) → origins ≡ replicate count Outside
    → AreOriginsIn 0 origins
no_lines count origins are = subst (AreOriginsIn 0) (sym are) (all_outside count)

none_in : (count : ℕ) (origin : CodeOrigin) → IsOriginIn 0 origin → IsOriginIn count origin
none_in count (Line line) none = absurd (omega (arith, none))
none_in count Routine none = tt
none_in count Outside none = tt

pub no_lines_in : (count : ℕ) (origins : List CodeOrigin) → AreOriginsIn 0 origins
    → AreOriginsIn count origins
no_lines_in count origins all = all_weaker (IsOriginIn 0) (IsOriginIn count) (none_in count) origins all

-- a line from which the code at an address comes is one of so many modules
origin_there : (count : ℕ) (origins : List CodeOrigin) (address : ℕ) → AreOriginsIn count origins
    → IsOriginIn count (unwrap_or (slice_get origins address) Outside)
origin_there count [] address all = tt
origin_there count (origin ∷ others) zero all = all.0
origin_there count (origin ∷ others) (suc address) all = origin_there count others address all.1

pub all_lines : (count : ℕ) (lines : CodeLines) → AreOriginsIn count lines.origins.items
    → AreLinesOf count lines
all_lines count lines all address line is =
    subst (IsOriginIn count) is (origin_there count lines.origins.items address all)

pub line_there : (count : ℕ) (lines : CodeLines) (address : ℕ) (origin : CodeOrigin) (line : SourceLine)
    → AreLinesOf count lines → origin ≡ origin_at lines address → origin ≡ Line line → line.«module» < count
line_there count lines address origin line all is line_is = all address line (sym is ∙ line_is)

-- there are as many modules as are viewed
pub lines_of_modules : (texts : List (List ℕ)) (built : Construction) (views : List ModuleView)
    (lines : CodeLines) → AreViews texts built views
    → AreOriginsIn (length views) lines.origins.items
    → AreLinesOf (length (program_modules built.program)) lines
lines_of_modules texts built views lines are all =
    subst (λ (count : ℕ). AreLinesOf count lines)
    (sym (length-map views typed_of) ∙ ap length are.typed_of_each) (all_lines (length views) lines all)
