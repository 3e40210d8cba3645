-- The words of the command that converts a source: they have no fault, and give what is wanted.
use Rattle.command_line.proofs.{Prelude.{◌≡◌, ◌∙◌, List, [], ◌∷◌, ◌++◌, Some, None, Bool, true, false, if◌then◌else◌, refl, ap, codes, fold, clap_on_literals, Kinds, Row, Text, Walk, idle, reading_by, settle_fault, settled, walked, defaults_fault, turn_fault, walk_fault, or_else, CommandLine, IsBare, medium_words, usual_convert, wants_convert}, Files.{bare_fault, bare_word, files_filled}, Begins.{Ends, flag_row, found_walk}, Lines.{Line, line_of}, Verbs.{convert, convert_rules, leaf_of}}

abbrev file_row : Text → Row
file_row file = record { id = codes "FILE"; values = file ∷ []; count = None; source = Some CommandLine; reading = reading_by files_filled }

-- what the flags give
abbrev medium_rows : (listing cards : Bool) → List Row
medium_rows listing cards = (if listing then flag_row (codes "listing") ∷ [] else []) ++ (if cards then flag_row (codes "cards") ∷ [] else [])

-- the walk after the file, which is still pending
abbrev after_file : List Row → Text → Walk
after_file rows file = record {
  held = record { rows = rows; pending = Some (codes "FILE", file ∷ []); skip = 0 };
  waiting = idle;
  position = 2;
  is_trailing = false;
  stopped = None;
}

file_step : (rows : List Row) (file : Text) → IsBare file
    → walked convert_rules [] (found_walk rows) file ≡ after_file rows file
unfolding walked
file_step rows file bare = rw (bare_word convert_rules idle 1 file (found_walk rows).held bare) refl

file_turn : (rows : List Row) (file : Text) → IsBare file
    → turn_fault (leaf_of convert) [] (found_walk rows) file ≡ []
file_turn rows file bare =
    rw (bare_word convert_rules idle 1 file (found_walk rows).held bare, bare_fault (leaf_of convert) idle file (found_walk rows).held bare) refl

listing_step : walked convert_rules [] (found_walk []) (codes "--listing") ≡ found_walk (medium_rows true false)
unfolding clap_on_literals
listing_step = refl

listing_turn : turn_fault (leaf_of convert) [] (found_walk []) (codes "--listing") ≡ []
unfolding clap_on_literals
listing_turn = refl

cards_step : (listing : Bool) → walked convert_rules [] (found_walk (medium_rows listing false)) (codes "--cards") ≡ found_walk (medium_rows listing true)
unfolding clap_on_literals
cards_step true = refl
cards_step false = refl

cards_turn : (listing : Bool) → turn_fault (leaf_of convert) [] (found_walk (medium_rows listing false)) (codes "--cards") ≡ []
unfolding clap_on_literals
cards_turn true = refl
cards_turn false = refl

-- a word without a fault, and then others
then_fault : (w v : Walk) (word : Text) (rest : List Text) → turn_fault (leaf_of convert) [] w word ≡ []
    → walked convert_rules [] w word ≡ v
    → walk_fault (leaf_of convert) [] w (word ∷ rest) ≡ walk_fault (leaf_of convert) [] v rest
unfolding walk_fault
then_fault w v word rest fine e =
    ap (λ (k : Kinds). or_else k (walk_fault (leaf_of convert) [] (walked convert_rules [] w word) rest)) fine
    ∙ ap (λ (x : Walk). walk_fault (leaf_of convert) [] x rest) e

no_fault_left : (w : Walk) → walk_fault (leaf_of convert) [] w [] ≡ []
unfolding walk_fault
no_fault_left w = refl

then_walk : (w v : Walk) (word : Text) (rest : List Text) → walked convert_rules [] w word ≡ v
    → fold (walked convert_rules []) w (word ∷ rest) ≡ fold (walked convert_rules []) v rest
then_walk w v word rest e = ap (λ (x : Walk). fold (walked convert_rules []) x rest) e

-- the flags, and then others
flags_walk : (listing cards : Bool) (rest : List Text)
    → fold (walked convert_rules []) (found_walk []) (medium_words listing cards ++ rest)
    ≡ fold (walked convert_rules []) (found_walk (medium_rows listing cards)) rest
flags_walk true true rest =
    then_walk (found_walk []) (found_walk (medium_rows true false)) (codes "--listing") (codes "--cards" ∷ rest) listing_step
    ∙ then_walk (found_walk (medium_rows true false)) (found_walk (medium_rows true true)) (codes "--cards") rest (cards_step true)
flags_walk true false rest = then_walk (found_walk []) (found_walk (medium_rows true false)) (codes "--listing") rest listing_step
flags_walk false true rest = then_walk (found_walk []) (found_walk (medium_rows false true)) (codes "--cards") rest (cards_step false)
flags_walk false false rest = refl

flags_fault : (listing cards : Bool) (rest : List Text)
    → walk_fault (leaf_of convert) [] (found_walk []) (medium_words listing cards ++ rest)
    ≡ walk_fault (leaf_of convert) [] (found_walk (medium_rows listing cards)) rest
flags_fault true true rest =
    then_fault (found_walk []) (found_walk (medium_rows true false)) (codes "--listing") (codes "--cards" ∷ rest) listing_turn listing_step
    ∙ then_fault (found_walk (medium_rows true false)) (found_walk (medium_rows true true)) (codes "--cards") rest (cards_turn true) (cards_step true)
flags_fault true false rest = then_fault (found_walk []) (found_walk (medium_rows true false)) (codes "--listing") rest listing_turn listing_step
flags_fault false true rest = then_fault (found_walk []) (found_walk (medium_rows false true)) (codes "--cards") rest (cards_turn false) (cards_step false)
flags_fault false false rest = refl

convert_ends : (listing cards : Bool) (file : Text) → IsBare file
    → Ends (leaf_of convert) (medium_words listing cards ++ file ∷ [])
    (medium_rows listing cards ++ file_row file ∷ [])
convert_ends listing cards file bare = record {
  held = (after_file (medium_rows listing cards) file).held;
  fine = flags_fault listing cards (file ∷ [])
      ∙ then_fault (found_walk (medium_rows listing cards)) (after_file (medium_rows listing cards) file) file
      [] (file_turn (medium_rows listing cards) file bare)
      (file_step (medium_rows listing cards) file bare)
      ∙ no_fault_left (after_file (medium_rows listing cards) file);
  is = ap (λ (w : Walk). w.held)
      (flags_walk listing cards (file ∷ [])
      ∙ then_walk (found_walk (medium_rows listing cards)) (after_file (medium_rows listing cards) file)
      file [] (file_step (medium_rows listing cards) file bare));
  settle = settle listing cards;
  settles = settles listing cards;
}
  where
    settle : (listing cards : Bool) → settle_fault (leaf_of convert).rules false
        (after_file (medium_rows listing cards) file).held ≡ []
    settle true true = refl
    settle true false = refl
    settle false true = refl
    settle false false = refl

    settles : (listing cards : Bool)
        → (settled (leaf_of convert).rules (after_file (medium_rows listing cards) file).held).rows
        ≡ medium_rows listing cards ++ file_row file ∷ []
    settles true true = refl
    settles true false = refl
    settles false true = refl
    settles false false = refl

pub convert_line : (listing cards : Bool) (file : Text) → IsBare file
    → Line convert (medium_words listing cards ++ file ∷ [])
    (wants_convert (usual_convert file listing cards))
unfolding defaults_fault
convert_line true true file bare =
    line_of convert (medium_words true true ++ file ∷ []) (medium_rows true true ++ file_row file ∷ [])
    (wants_convert (usual_convert file true true))
    (convert_ends true true file bare) refl refl refl
convert_line true false file bare =
    line_of convert (medium_words true false ++ file ∷ []) (medium_rows true false ++ file_row file ∷ [])
    (wants_convert (usual_convert file true false))
    (convert_ends true false file bare) refl refl refl
convert_line false true file bare =
    line_of convert (medium_words false true ++ file ∷ []) (medium_rows false true ++ file_row file ∷ [])
    (wants_convert (usual_convert file false true))
    (convert_ends false true file bare) refl refl refl
convert_line false false file bare =
    line_of convert (medium_words false false ++ file ∷ []) (medium_rows false false ++ file_row file ∷ [])
    (wants_convert (usual_convert file false false))
    (convert_ends false false file bare) refl refl refl
