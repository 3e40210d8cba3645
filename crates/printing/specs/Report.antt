-- The text that a run prints.
use Rattle.std.specs.Prelude.{ℕ, ◌+◌, ◌/◌, ◌%◌, ◌==◌, Bool, List, [], ◌∷◌, ◌++◌, codes, nat_lt, if◌then◌else◌}
use Rattle.std.specs.List.{flat_map, list_any}
use Rattle.ports.specs.declared.event.Event.{Event}

-- the upper-case hexadecimal digit of a number below 16
abbrev pub digit_of : ℕ → ℕ
digit_of number = if nat_lt number 10 then 48 + number else 55 + number

-- a byte as two hexadecimal digits, the high one first
abbrev pub hex_of : ℕ → List ℕ
hex_of byte = digit_of (byte / 16) ∷ digit_of (byte % 16) ∷ []

-- the word that says which way the byte went
abbrev pub word_of : Event → List ℕ
word_of event = if event.write then codes "OUT" else codes "IN"

-- the line of an event: the word, a space (32), the port, a space, the value and a line feed (10)
abbrev pub line_of : Event → List ℕ
line_of event = word_of event ++ 32 ∷ hex_of event.port ++ 32 ∷ hex_of event.value ++ 10 ∷ []

-- whether a port is one of these, whose events are not printed
abbrev pub is_quiet : (quiet : List ℕ) → (port : ℕ) → Bool
is_quiet quiet port = list_any (λ one. one == port) quiet

-- the line of an event, or nothing where its port is quiet
abbrev pub shown_line : (quiet : List ℕ) → Event → List ℕ
shown_line quiet event = if is_quiet quiet event.port then [] else line_of event

-- a line for each event in order, but for those of quiet ports, and then the last line
abbrev pub report_of : (quiet : List ℕ) → List Event → List ℕ → List ℕ
report_of quiet events last = flat_map (shown_line quiet) events ++ last ++ 10 ∷ []
