-- Which changes the rules make, and what they tell.
use Rattle.std.specs.Prelude.{ℕ, zero, suc, ◌+◌, ◌-◌, ◌==◌, Option, None, Some, if◌then◌else◌}
use Rattle.std.specs.Prelude.{List, [], ◌∷◌, ◌++◌, map, take}
use Rattle.words.specs.declared.vocabulary.Kind.{Kind}
use Rattle.words.specs.declared.vocabulary.Kind.TheVariants.{Number}
use Rattle.convert.specs.declared.class.Seen.{Seen}
use Rattle.convert.specs.declared.converting.Note.{Note}
use Rattle.convert.specs.declared.rule.Action.{Action}
use Rattle.convert.specs.declared.rule.Action.TheVariants.{Write, Tell, DeleteNumber}
use Rattle.convert.specs.declared.rule.Rule.{Rule}
use Rattle.convert.specs.Edits.{Change}
use Rattle.convert.specs.Groups.{commas}
use Rattle.convert.specs.Matching.{held, length_of_parts}
use Rattle.convert.specs.Texts.{start_of, end_after}
use Rattle.convert.specs.Writing.{puts_text}

-- how many commas the group at the front has in no further parentheses
abbrev pub first_commas : List Seen → ℕ
first_commas words = commas 0 (held words)

-- how many words at the front a rule fits; 0 if it does not
abbrev pub fit : Rule → List Seen → ℕ
fit rule words = length_of_parts 0 rule.parts.now (first_commas words) words

-- the first rule that fits at the front of words
abbrev pub rule_at : List Rule → List Seen → Option Rule
rule_at [] words = None
rule_at (rule ∷ rules) words = if fit rule words == 0 then rule_at rules words else Some rule

-- the change of what a rule has found at the front of words to a text
abbrev pub replaced : List Seen → Rule → List ℕ → Change
replaced words rule text = record {
  from = start_of (take (fit rule words) words);
  to = end_after 0 (take (fit rule words) words);
  text = text;
}

-- what a rule changes at the front of words
abbrev pub change_by : List ℕ → List Seen → Rule → Action → List Change
change_by source words rule (Write puts) =
    replaced words rule (puts_text source rule.parts.now (first_commas words) words puts.now) ∷ []
change_by source words rule (Tell text) = []
change_by source words rule (DeleteNumber usual text) = replaced words rule [] ∷ []

abbrev pub change_at : List ℕ → List Seen → Option Rule → List Change
change_at source words None = []
change_at source words (Some rule) = change_by source words rule rule.action

-- the number that a word of a kind is, if it is another than the usual one
abbrev pub other_numbers : ℕ → Kind → List ℕ
other_numbers usual (Number value) = if value == usual then [] else value ∷ []
other_numbers usual kind = []

-- the notes of a rule on the words at the front, which begin on `line` with a word of a kind
abbrev pub note_by : ℕ → Kind → Action → List Note
note_by line kind (Write puts) = []
note_by line kind (Tell text) = record { line = line; text = text; number = None } ∷ []
note_by line kind (DeleteNumber usual text) =
    map (λ value. record { line = line; text = text; number = Some value }) (other_numbers usual kind)

abbrev pub note_at : ℕ → Kind → Option Rule → List Note
note_at line kind None = []
note_at line kind (Some rule) = note_by line kind rule.action

-- how many words after the first a rule has found
abbrev pub passed_by : List Seen → Option Rule → ℕ
passed_by words None = 0
passed_by words (Some rule) = fit rule words - 1

-- The changes in words, with the first `passed` words passed over: at each other word the first rule that fits is
-- taken, and the words that it found are passed over.
abbrev pub changes_after : List Rule → List ℕ → ℕ → List Seen → List Change
changes_after rules source passed [] = []
changes_after rules source (suc passed) (seen ∷ words) = changes_after rules source passed words
changes_after rules source zero (seen ∷ words) =
    change_at source (seen ∷ words) (rule_at rules (seen ∷ words))
    ++ changes_after rules source (passed_by (seen ∷ words) (rule_at rules (seen ∷ words))) words

-- what is told of words, with the first `passed` words passed over
abbrev pub notes_after : List Rule → ℕ → List Seen → List Note
notes_after rules passed [] = []
notes_after rules (suc passed) (seen ∷ words) = notes_after rules passed words
notes_after rules zero (seen ∷ words) =
    note_at seen.word.line seen.word.kind (rule_at rules (seen ∷ words))
    ++ notes_after rules (passed_by (seen ∷ words) (rule_at rules (seen ∷ words))) words
