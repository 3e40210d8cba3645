-- Examples of the definitions, each computed.
use Rattle.std.specs.Prelude.{◌≡◌, [], ◌∷◌, ◌++◌, codes, refl}
use Rattle.words.specs.declared.items.Item.TheVariants.{Ending, Blank, Spelled, Wrong}
use Rattle.words.specs.declared.items.Cause.TheVariants.{BadCharacter, NotClosed, BadNumber, LongName}
use Rattle.words.specs.declared.vocabulary.Kind.TheVariants.{Name, Reserved, Number, String, Mark}
use Rattle.words.specs.declared.vocabulary.Mark.TheVariants.{LessEqualSign, LessSign, Slash}
use Rattle.words.specs.declared.vocabulary.ReservedWord.TheVariants.{Declare}
use Rattle.words.specs.Items.{item_at}
use Rattle.words.specs.Marks.{mark_at}
use Rattle.symbols.specs.Names.{name_of}
use Rattle.words.specs.Names.{reserved_of, reserved_words}
use Rattle.words.specs.Strings.{characters_of}

reserved : item_at (codes "DECL$ARE X") ≡ Spelled (Reserved Declare) 8
unfolding reserved_of reserved_words
reserved = refl

small : item_at (codes "declare") ≡ Spelled (Reserved Declare) 7
unfolding reserved_of reserved_words
small = refl

name : item_at (codes "Total$1;") ≡ Spelled Name 7
unfolding reserved_of reserved_words
name = refl

name_characters : name_of (codes "Total$1") ≡ codes "TOTAL1"
name_characters = refl

long_name : item_at (codes "ABCDEFGHIJKLMNOPQRSTUVWXYZ012345") ≡ Wrong LongName
long_name = refl

longest_name : item_at (codes "ABCDEFGHIJKLM$NOPQRSTUVWXYZ01234$") ≡ Spelled Name 33
unfolding reserved_of reserved_words
longest_name = refl

hexadecimal : item_at (codes "10H$") ≡ Spelled (Number 16) 4
hexadecimal = refl

binary_zero : item_at (codes "0B") ≡ Spelled (Number 0) 2
binary_zero = refl

decimal_one : item_at (codes "1D+") ≡ Spelled (Number 1) 2
decimal_one = refl

octal : item_at (codes "177q") ≡ Spelled (Number 127) 4
octal = refl

greatest : item_at (codes "000065535") ≡ Spelled (Number 65535) 9
greatest = refl

too_great : item_at (codes "65536") ≡ Wrong BadNumber
too_great = refl

bad_binary : item_at (codes "0AB") ≡ Wrong BadNumber
bad_binary = refl

string : item_at (codes "'AG')") ≡ Spelled String 4
string = refl

quote : item_at (codes "'it''s'") ≡ Spelled String 7
quote = refl

quote_characters : characters_of (codes "'it''s'") ≡ codes "it's"
quote_characters = refl

no_characters : characters_of (codes "''") ≡ []
no_characters = refl

open_string : item_at (codes "'A") ≡ Wrong NotClosed
open_string = refl

string_over_lines : item_at (codes "'A" ++ 10 ∷ codes "'") ≡ Wrong BadCharacter
string_over_lines = refl

comment : item_at (codes "/* a **/ X") ≡ Blank 8
comment = refl

comment_of_one_star : item_at (codes "/*/") ≡ Wrong NotClosed
comment_of_one_star = refl

slash : item_at (codes "/ 2") ≡ Spelled (Mark Slash) 1
unfolding mark_at
slash = refl

longest_mark : item_at (codes "<=1") ≡ Spelled (Mark LessEqualSign) 2
unfolding mark_at
longest_mark = refl

shorter_mark : item_at (codes "<1") ≡ Spelled (Mark LessSign) 1
unfolding mark_at
shorter_mark = refl

blanks : item_at (32 ∷ 10 ∷ 9 ∷ codes "X") ≡ Blank 3
blanks = refl

dollar : item_at (codes "$A") ≡ Wrong BadCharacter
unfolding mark_at
dollar = refl

ending : item_at [] ≡ Ending
ending = refl
