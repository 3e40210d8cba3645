-- Numbers of classes, by which they are compared, and tests of a class.
use Rattle.std.specs.Prelude.{ℕ, ◌+◌, Bool, true, false, ◌||◌}
use Rattle.words.specs.declared.vocabulary.ReservedWord.TheVariants as words
use Rattle.words.specs.Ordinals.{mark_number, word_number}
use Rattle.convert.specs.declared.class.Class.{Class}
use Rattle.convert.specs.declared.class.Class.TheVariants as classes

-- a number for each class
abbrev pub class_number : Class → ℕ
class_number classes.Name = 0
class_number classes.Number = 1
class_number classes.FirstNumber = 2
class_number classes.String = 3
class_number classes.EndOfDo = 4
class_number classes.EndOfOther = 5
class_number classes.Several = 6
class_number classes.Constant = 7
class_number (classes.Mark mark) = 8 + mark_number mark
class_number (classes.Reserved word) = 25 + word_number word

-- tests of a class
abbrev pub is_name : Class → Bool
is_name classes.Name = true
is_name class = false

abbrev pub is_type : Class → Bool
is_type (classes.Reserved words.Byte) = true
is_type (classes.Reserved words.Address) = true
is_type class = false

abbrev pub is_scope : Class → Bool
is_scope (classes.Reserved words.Public) = true
is_scope (classes.Reserved words.External) = true
is_scope class = false

abbrev pub is_values : Class → Bool
is_values (classes.Reserved words.Initial) = true
is_values (classes.Reserved words.Data) = true
is_values class = false

abbrev pub is_attribute : Class → Bool
is_attribute (classes.Reserved words.At) = true
is_attribute class = is_scope class || is_values class
