-- The characters of a PL/M-80 source text, by their ASCII codes
-- (PL/M-80 Programming Manual, on the character set).
use Rattle.std.specs.Prelude.{ℕ, Bool, ◌&&◌, ◌||◌, ◌==◌, nat_le}
use Rattle.std.specs.Char.{is_ascii_alphabetic, is_ascii_digit}

-- a letter, a digit or `$`: what continues a name or a number
abbrev pub is_word_byte : ℕ → Bool
is_word_byte b = is_ascii_alphabetic b || is_ascii_digit b || (b == 36)

-- space, tab, CR and LF separate words
abbrev pub is_blank : ℕ → Bool
is_blank b = (b == 32) || (b == 9) || (b == 13) || (b == 10)

-- space and the printed characters, 20H to 7EH, which a string may hold
abbrev pub is_printable : ℕ → Bool
is_printable b = nat_le 32 b && nat_le b 126

-- the characters that a comment may hold
abbrev pub is_comment_byte : ℕ → Bool
is_comment_byte b = is_printable b || is_blank b
