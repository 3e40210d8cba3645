-- What is printed where object files are refused: the line of no file that can't be read or written.
use Rattle.object_commands.proofs.Prelude.{◌≡◌, ℕ, true, List, Option, refl, ap, subst, ◌∙◌, Directory, Tells, TellsOther, TellsRefusal, refusal_line, is_other, tells_no_file, tells_other, Fault, Truncated, WrongSum, WrongLength, UnknownType, OutOfOrder, WrongBody, ContentMisplaced, FixMisplaced, WrongAlignment, number_of, LinkRefusal, link_number, PlacementRefusal, placement_number}
use Rattle.object_modules.specs.Merge as merges
use Rattle.object_modules.specs.Image as images

object_other : (fault : Fault) → is_other (number_of fault) ≡ true
object_other Truncated = refl
object_other WrongSum = refl
object_other WrongLength = refl
object_other UnknownType = refl
object_other OutOfOrder = refl
object_other WrongBody = refl
object_other ContentMisplaced = refl
object_other FixMisplaced = refl
object_other WrongAlignment = refl

pub object_told : (fault : Fault) (number name : List ℕ) (line : ℕ) (old new : Option (List ℕ))
    → number ≡ number_of fault → Tells (refusal_line number name line) old new → TellsOther old new
object_told fault number name line old new is told =
    tells_other number name line old new (ap is_other is ∙ object_other fault) told

link_other : (refusal : LinkRefusal) → is_other (link_number refusal) ≡ true
link_other (merges.DuplicatePublic name) = refl
link_other (merges.UnresolvedExternal name) = refl
link_other merges.SegmentTooLong = refl
link_other merges.NotOneMain = refl
link_other merges.HighByteMoves = refl

pub link_told : (refusal : LinkRefusal) (number name : List ℕ) (line : ℕ) (old new : Option (List ℕ))
    → number ≡ link_number refusal → Tells (refusal_line number name line) old new → TellsOther old new
link_told refusal number name line old new is told =
    tells_other number name line old new (ap is_other is ∙ link_other refusal) told

place_other : (refusal : PlacementRefusal) → is_other (placement_number refusal) ≡ true
place_other images.ExternalLeft = refl
place_other images.NoStart = refl
place_other images.PassesMemory = refl
place_other images.SegmentsMeet = refl
place_other images.PageBroken = refl
place_other images.HighByteBroken = refl

pub place_told : (refusal : PlacementRefusal) (number name : List ℕ) (line : ℕ) (old new : Option (List ℕ))
    → number ≡ placement_number refusal → Tells (refusal_line number name line) old new → TellsOther old new
place_told refusal number name line old new is told =
    tells_other number name line old new (ap is_other is ∙ place_other refusal) told

-- another fault, after calls that neither failed nor printed
pub tells_later : (files : Option Directory) (names : List (List ℕ)) (before after : ℕ)
    (old now new : Option (List ℕ)) → now ≡ old → after ≡ before → TellsOther now new
    → TellsRefusal files names before after old new
tells_later files names before after old now new silent same other =
    tells_no_file files names before after old new same
    (subst (λ (b : Option (List ℕ)). TellsOther b new) silent other)

-- another fault, after a call that printed nothing
pub other_later : (old now new : Option (List ℕ)) → now ≡ old → TellsOther now new → TellsOther old new
other_later old now new silent other = subst (λ (b : Option (List ℕ)). TellsOther b new) silent other
