-- What of a file is the source.
use Rattle.std.specs.Prelude.{ℕ, Bool, ◌&&◌, ◌||◌, if◌then◌else◌, None, List, [], ◌∷◌, ◌++◌}
use Rattle.convert.specs.declared.advice.Advice.{Advice}
use Rattle.convert.specs.declared.assembly.PlacedNote.{PlacedNote}
use Rattle.convert.specs.declared.preparing.Medium.{Medium}
use Rattle.convert.specs.Assembly.{line_of_source}
use Rattle.convert.specs.Cards.{carded}
use Rattle.convert.specs.Comments.{comment_notes}
use Rattle.convert.specs.Lines.{is_control, is_unbroken, plain}
use Rattle.convert.specs.Listings.{listing_notes, unlisted}

-- the source of a listing, if it is one
abbrev pub from_listing : Bool → List ℕ → List ℕ
from_listing is_one file = if is_one then unlisted file else file

-- what is told of its lines
abbrev pub notes_of_listing : Advice → Bool → List ℕ → List PlacedNote
notes_of_listing advice is_one file = if is_one then listing_notes advice file else []

-- what is in the columns of cards, if the text is on cards
abbrev pub from_cards : Bool → List ℕ → List ℕ
from_cards is_on text = if is_on then carded text else text

-- the source of a file: that of a listing, and then what is in the columns of cards
abbrev pub prepared : Medium → List ℕ → List ℕ
prepared medium file = from_cards medium.cards (from_listing medium.listing file)

-- whether what a file holds would be lost after its first line: a line with controls, one of a listing, or one on a card
abbrev pub loses_lines : Medium → List ℕ → Bool
loses_lines medium text = is_control text || (medium.listing || medium.cards)

-- what is told of a file without form feeds, zeros and what follows ^Z, if all of it is one line
abbrev pub notes_of_ends : Advice → Medium → List ℕ → List PlacedNote
notes_of_ends advice medium text =
    if is_unbroken text && loses_lines medium text
    then record { place = line_of_source 1; text = advice.no_feed; number = None } ∷ [] else []

-- what is told of the lines of a file, and of comments in its source
abbrev pub prepared_notes : Advice → Medium → List ℕ → List PlacedNote
prepared_notes advice medium file =
    (notes_of_listing advice medium.listing file ++ notes_of_ends advice medium (plain file))
    ++ comment_notes advice 0 (plain (prepared medium file))
