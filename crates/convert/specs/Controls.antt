-- Controls on a line: words, each with a group in parentheses or without.
use Rattle.std.specs.Prelude.{ℕ, zero, suc, ◌+◌, ◌-◌, Bool, true, false, not, ◌==◌, ◌&&◌, ◌||◌, if◌then◌else◌, nat_lt}
use Rattle.std.specs.Prelude.{List, [], ◌∷◌, length, take, drop, codes}
use Rattle.std.specs.List.{list_any}
use Rattle.std.specs.Char.{is_ascii_alphabetic}
use Rattle.std.specs.Str.{str_eq_ignore_ascii_case}
use Rattle.convert.specs.declared.controls.ControlKind.{ControlKind}
use Rattle.convert.specs.declared.controls.ControlKind.TheVariants.{Include, If, ElseIf, Else, EndIf, Set, Reset, Other}

-- a blank (32), a tab (9) or a return (13)
abbrev pub is_blank : ℕ → Bool
is_blank c = (c == 32) || ((c == 9) || (c == 13))

-- what follows the blanks at the front
abbrev pub after_blanks : List ℕ → List ℕ
after_blanks [] = []
after_blanks (c ∷ line) = if is_blank c then after_blanks line else c ∷ line

-- how many letters are at the front
abbrev pub word_length : List ℕ → ℕ
word_length [] = 0
word_length (c ∷ line) = if is_ascii_alphabetic c then 1 + word_length line else 0

-- what a word is, where the case of letters does not count
abbrev pub kind_of : List ℕ → ControlKind
kind_of word =
    if str_eq_ignore_ascii_case word (codes "INCLUDE") || str_eq_ignore_ascii_case word (codes "IC") then Include
    else (if str_eq_ignore_ascii_case word (codes "IF") then If
    else (if str_eq_ignore_ascii_case word (codes "ELSEIF") then ElseIf
    else (if str_eq_ignore_ascii_case word (codes "ELSE") then Else
    else (if str_eq_ignore_ascii_case word (codes "ENDIF") then EndIf
    else (if str_eq_ignore_ascii_case word (codes "SET") then Set
    else (if str_eq_ignore_ascii_case word (codes "RESET") then Reset else Other))))))

-- what the word at the front is
abbrev pub kind_at : List ℕ → ControlKind
kind_at line = kind_of (take (word_length line) line)

-- whether a quote (39) follows
abbrev pub has_quote : List ℕ → Bool
has_quote line = list_any (λ c. c == 39) line

-- whether the text after a byte is in quotes: after a quote that another one closes, up to that one
abbrev pub quoted_after : Bool → ℕ → List ℕ → Bool
quoted_after quoted c line = if c == 39 then not quoted && has_quote line else quoted

-- how many bytes come before the next quote, or all
abbrev pub quote_at : List ℕ → ℕ
quote_at [] = 0
quote_at (c ∷ line) = if c == 39 then 0 else 1 + quote_at line

-- how many bytes come before the next `)` (41) that is not in quotes, or all
abbrev pub close_at : Bool → List ℕ → ℕ
close_at quoted [] = 0
close_at quoted (c ∷ line) =
    if (c == 41) && not quoted then 0 else 1 + close_at (quoted_after quoted c line) line

-- whether a group is closed; `line` is the text after its `(` (40)
abbrev pub is_closed : List ℕ → Bool
is_closed line = nat_lt (close_at false line) (length line)

-- how many bytes at the front go together: a word, a group that is closed, a text in quotes, or else one
abbrev pub step_at : List ℕ → ℕ
step_at [] = 1
step_at (c ∷ line) =
    if is_ascii_alphabetic c then word_length (c ∷ line)
    else (if (c == 40) && is_closed line then close_at false line + 2
    else (if (c == 39) && has_quote line then quote_at line + 2 else 1))

-- the text in the group at the front: all that follows, if it is not closed; nothing if there is no group
abbrev pub group_text : List ℕ → List ℕ
group_text [] = []
group_text (c ∷ line) = if c == 40 then take (close_at false line) line else []

-- the text in the group after the word at the front
abbrev pub argument_of : List ℕ → List ℕ
argument_of line = group_text (after_blanks (drop (word_length line) line))

-- the controls that end their line: nothing after their word and its group is another control
abbrev pub is_last : ControlKind → Bool
is_last Include = true
is_last If = true
is_last ElseIf = true
is_last Else = true
is_last EndIf = true
is_last Set = false
is_last Reset = false
is_last Other = false

-- A line from the first control on that ends it, with the first `passed` bytes passed over; nothing if there is no such
-- control. Words in groups and in quotes are not controls.
abbrev pub last_control : ℕ → List ℕ → List ℕ
last_control passed [] = []
last_control (suc passed) (c ∷ line) = last_control passed line
last_control zero (c ∷ line) =
    if is_last (kind_at (c ∷ line)) then c ∷ line else last_control (step_at (c ∷ line) - 1) line
