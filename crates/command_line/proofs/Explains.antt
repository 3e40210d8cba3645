-- The word of the command that explains a number: it has no fault, and gives what is wanted.
use Rattle.command_line.proofs.{Prelude.{◌≡◌, [], ◌∷◌, Some, None, false, refl, ap, codes, Kinds, Row, Text, Walk, idle, reading_by, walked, defaults_fault, turn_fault, walk_fault, or_else, CommandLine, IsBare, wants_explain}, Files.{bare_fault, bare_word, files_filled}, Begins.{Ends, found_walk}, Lines.{Line, line_of}, Verbs.{explain, explain_rules, leaf_of}}

abbrev number_row : Text → Row
number_row number = record { id = codes "NUMBER"; values = number ∷ []; count = None; source = Some CommandLine; reading = reading_by files_filled }

-- the walk after the number, which is still pending
abbrev after_number : Text → Walk
after_number number = record {
  held = record { rows = []; pending = Some (codes "NUMBER", number ∷ []); skip = 0 };
  waiting = idle;
  position = 2;
  is_trailing = false;
  stopped = None;
}

number_step : (number : Text) → IsBare number
    → walked explain_rules [] (found_walk []) number ≡ after_number number
unfolding walked
number_step number bare = rw (bare_word explain_rules idle 1 number (found_walk []).held bare) refl

number_turn : (number : Text) → IsBare number → turn_fault (leaf_of explain) [] (found_walk []) number ≡ []
number_turn number bare =
    rw (bare_word explain_rules idle 1 number (found_walk []).held bare, bare_fault (leaf_of explain) idle number (found_walk []).held bare) refl

one_fault : (number : Text) → turn_fault (leaf_of explain) [] (found_walk []) number ≡ []
    → walk_fault (leaf_of explain) [] (found_walk []) (number ∷ []) ≡ []
unfolding walk_fault
one_fault number fine =
    ap (λ (k : Kinds). or_else k (walk_fault (leaf_of explain) []
    (walked explain_rules [] (found_walk []) number) [])) fine

explain_ends : (number : Text) → IsBare number → Ends (leaf_of explain) (number ∷ []) (number_row number ∷ [])
explain_ends number bare = record {
  held = (after_number number).held;
  fine = one_fault number (number_turn number bare);
  is = ap (λ (w : Walk). w.held) (number_step number bare);
  settle = refl;
  settles = refl;
}

pub explain_line : (number : Text) → IsBare number
    → Line explain (number ∷ []) (wants_explain (record { number = number }))
unfolding defaults_fault
explain_line number bare =
    line_of explain (number ∷ []) (number_row number ∷ []) (wants_explain (record { number = number })) (explain_ends number bare) refl refl refl
