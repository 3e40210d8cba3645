-- In modules that have typings PUBLIC objects lie somewhere and INITIAL and DATA locate objects that do, and
-- so does what each object of a program of them stands for.
use Rattle.meaning_laws.proofs.Prelude.{◌≡◌, ℕ, List, Some, Ok, slice_get, sym, subst, All, All-weaker, ModuleTree, Elsewhere, TypedObject, TypedModule, typing_of, Program, HasAddress, IsWhole, IsPlaceable, PublicsLie, StandsForBytes}
use Rattle.meaning_laws.proofs.Places as of_programs
use Rattle.meaning_laws.specs.internal.Publics.{HasTree}
use Rattle.meaning_laws.proofs.PublicsOfTexts.{typing_is_placeable}

-- in a module that has a typing each PUBLIC object has a place, and each value of INITIAL and DATA that
-- locates an object locates one of the module that is not BASED, in a frame or nowhere
pub is_placeable : (tree : ModuleTree) (found : TypedModule) → typing_of tree ≡ Ok found → IsPlaceable found
is_placeable tree found is = (typing_is_placeable tree).holds found is

pub publics_lie : (tree : ModuleTree) (found : TypedModule) → typing_of tree ≡ Ok found → PublicsLie found
publics_lie tree found is = (is_placeable tree found is).publics

pub all_placeable : (modules : List TypedModule) → All HasTree modules → All IsPlaceable modules
all_placeable modules typings =
    All-weaker HasTree IsPlaceable (λ typed has. is_placeable has.tree typed has.is) modules typings

pub all_publics_lie : (modules : List TypedModule) → All HasTree modules → All PublicsLie modules
all_publics_lie modules typings =
    All-weaker HasTree PublicsLie (λ typed has. publics_lie has.tree typed has.is) modules typings

-- In a program of modules that have typings, an object that is not BASED, in a frame or nowhere stands for
-- one that has an address.
pub object_lies :
    (program : Program) → IsWhole program → All HasTree program.modules
    → (number object : ℕ) (typed : TypedModule) (found : TypedObject)
    → slice_get program.modules number ≡ Some typed
    → slice_get typed.objects object ≡ Some found
    → HasAddress found.home
    → StandsForBytes program number typed object
object_lies program whole typings number object typed found its there has =
    of_programs.object_lies program whole (all_publics_lie program.modules typings) number object
    typed found its there
    has

-- So does an EXTERNAL one.
pub external_object_lies :
    (program : Program) → IsWhole program → All HasTree program.modules
    → (number object : ℕ) (typed : TypedModule) (found : TypedObject)
    → slice_get program.modules number ≡ Some typed
    → slice_get typed.objects object ≡ Some found
    → found.home ≡ Elsewhere
    → StandsForBytes program number typed object
external_object_lies program whole typings number object typed found its there elsewhere =
    object_lies program whole typings number object typed found its there
    (subst HasAddress (sym elsewhere) tt)
