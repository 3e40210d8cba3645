-- The sides of `=`, where one assigns a name that the other uses. The order in which the two sides of an assignment are
-- evaluated is this compiler's own choice (`docs/definition.md`).
use Rattle.std.specs.Prelude.{ℕ, ◌+◌, Bool, true, false, not, ◌==◌, ◌&&◌, ◌||◌, if◌then◌else◌}
use Rattle.std.specs.Prelude.{List, [], ◌∷◌, drop, take}
use Rattle.symbols.specs.Names.{name_of, is_name as is_valid_name}
use Rattle.words.specs.declared.vocabulary.Mark.TheVariants.{Comma, EqualSign, Period, RightParenthesis, Semicolon}
use Rattle.words.specs.declared.vocabulary.ReservedWord.TheVariants.{Then}
use Rattle.convert.specs.declared.class.Class.{Class}
use Rattle.convert.specs.declared.class.Class.TheVariants as classes
use Rattle.convert.specs.declared.class.Seen.{Seen}
use Rattle.convert.specs.Groups.{depth_after, group_length, is_assign}
use Rattle.convert.specs.Labels.{is_text_of}
use Rattle.convert.specs.Numbers.{is_name}

-- tests of a class
abbrev pub is_period : Class → Bool
is_period (classes.Mark Period) = true
is_period class = false

abbrev pub is_equal_sign : Class → Bool
is_equal_sign (classes.Mark EqualSign) = true
is_equal_sign class = false

-- a word that ends the side on the right, if it is in no further parentheses
abbrev pub is_side_end : Class → Bool
is_side_end (classes.Mark Semicolon) = true
is_side_end (classes.Mark Comma) = true
is_side_end (classes.Mark RightParenthesis) = true
is_side_end (classes.Mark EqualSign) = true
is_side_end (classes.Reserved Then) = true
is_side_end class = false

-- how many words the member at the front has, with its dot and its group, if it has one; 0 without one
abbrev pub member_length : List Seen → ℕ
member_length [] = 0
member_length (dot ∷ []) = 0
member_length (dot ∷ name ∷ words) =
    if is_period dot.class && is_name name.class then 2 + group_length words else 0

-- how many words the reference at the front has: a name, with its group and with a member, if it has these; 0 without one
abbrev pub reference_length : List Seen → ℕ
reference_length [] = 0
reference_length (name ∷ words) =
    if is_name name.class then 1 + (group_length words + member_length (drop (group_length words) words)) else 0

-- how many words come before the end of the side on the right, in this many parentheses
abbrev pub side_end : ℕ → List Seen → ℕ
side_end depth [] = 0
side_end depth (seen ∷ words) =
    if (depth == 0) && is_side_end seen.class then 0 else 1 + side_end (depth_after depth seen.class) words

abbrev pub side_length : List Seen → ℕ
side_length words = side_end 0 words

-- whether words use a name; one right after a dot, as the first here may be, is a member
abbrev pub has_use : List ℕ → Bool → List Seen → Bool
has_use name dotted [] = false
has_use name dotted (seen ∷ words) =
    (not dotted && (is_name seen.class && is_text_of name seen.word.text.now)) || has_use name (is_period seen.class) words

-- whether words use the name that is this text
abbrev pub uses : List ℕ → List Seen → Bool
uses text words = is_valid_name (name_of text) && has_use (name_of text) false words

abbrev pub begins_value : List Seen → Bool
begins_value [] = false
begins_value (seen ∷ words) = is_assign seen.class

-- whether words assign a name that others use; one right after a dot, as the first here may be, is a member
abbrev pub assigns_used : Bool → List Seen → List Seen → Bool
assigns_used dotted others [] = false
assigns_used dotted others (seen ∷ words) =
    (not dotted && (is_name seen.class && (begins_value words && uses seen.word.text.now others)))
    || assigns_used (is_period seen.class) others words

-- whether one of two sides assigns a name that the other uses; the name with which the first begins is not used
abbrev pub do_clash : List Seen → List Seen → Bool
do_clash [] right = false
do_clash (name ∷ left) right = assigns_used false left right || assigns_used false right left

-- how many words two sides with `=` between them have, of which the first has this many, if they clash; else 0
abbrev pub clash_after : List Seen → ℕ → List Seen → ℕ
clash_after words left [] = 0
clash_after words left (sign ∷ after) =
    if is_equal_sign sign.class && do_clash (take left words) (take (side_length after) after)
    then left + (1 + side_length after) else 0

-- how many words the sides at the front have, with `=` between them, if they clash; else 0
abbrev pub clash_length : List Seen → ℕ
clash_length words = clash_after words (reference_length words) (drop (reference_length words) words)
