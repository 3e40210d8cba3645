-- The words after a command: bare files, after an option or none. They have no fault, and give the files.
use Rattle.command_line.proofs.{Prelude.{◌≡◌, ◌∙◌, ℕ, List, [], ◌∷◌, ◌++◌, Some, None, Bool, true, false, refl, ap, codes, append_assoc, fold, ◌==◌, ◌||◌, AllByRecursion, bytes_eq, long_of, short_of, strip_byte, Kinds, Row, Rule, Shape, Text, Held, Waiting, Walk, idle, option, positional, has_row, nothing_held, plain_word, reading_by, rows_after, settled, walk, walk_from, walked, with_default, with_values, word_met, filled, with_index, check_fault, defaults_fault, level_fault, settle_fault, turn_fault, walk_fault, word_fault, or_else, CommandLine, IsBare, files_rule}, Verbs.{Executed, Form, Listed, Located, Objects, Placed, Sources, leaf, rules}}

abbrev pub files_filled : Rule
files_filled = with_index 1 (filled files_rule)

abbrev pub files_row : List Text → Row
files_row values = record { id = codes "FILES"; values = values; count = None; source = Some CommandLine; reading = reading_by files_filled }

abbrev pub files_rows : List Text → List Row
files_rows [] = []
files_rows (file ∷ files) = files_row (file ∷ files) ∷ []

-- the walk after files, of which the last is still pending
abbrev pub state : List Row → List Text → Text → Walk
state before done last = record {
  held = record { rows = before ++ files_rows done; pending = Some (codes "FILES", last ∷ []); skip = 0 };
  waiting = positional;
  position = 1;
  is_trailing = false;
  stopped = None;
}

file_word : (file : Text) → strip_byte 45 file ≡ None
    → (bytes_eq file (45 ∷ 45 ∷ []) ≡ false) × (long_of file ≡ None) × (short_of file ≡ None)
file_word [] bare = (refl, refl, refl)
file_word (c ∷ rest) bare = go (c == 45) refl
  where
    go : (t : Bool) → (c == 45) ≡ t → (bytes_eq (c ∷ rest) (45 ∷ 45 ∷ []) ≡ false)
        × (long_of (c ∷ rest) ≡ None) × (short_of (c ∷ rest) ≡ None)
    go false e = (rw e refl, rw e refl, rw e refl)
    go true e = let bad : Some rest ≡ None = rw e at bare in absurd (let worse : Some rest ≡ None = bad in cc)

pub bare_word : (c : List Rule) (waiting : Waiting) (position : ℕ) (word : Text) (h : Held) → IsBare word
    → word_met c [] false waiting position word h ≡ plain_word c waiting word h
bare_word c idle position word h bare =
    let (dashes, long, short) = file_word word bare in rw (dashes, long, short) refl
bare_word c (option id) position word h bare =
    let (dashes, long, short) = file_word word bare in rw (dashes, long, short) refl
bare_word c positional position word h bare =
    let (dashes, long, short) = file_word word bare in rw (dashes, long, short) refl

pub bare_fault : (s : Shape) (waiting : Waiting) (word : Text) (h : Held) → IsBare word
    → word_fault s [] false waiting word h ≡ []
bare_fault s idle word h bare =
    let (dashes, long, short) = file_word word bare in rw (dashes, long, short) refl
bare_fault s (option id) word h bare =
    let (dashes, long, short) = file_word word bare in rw (dashes, long, short) refl
bare_fault s positional word h bare =
    let (dashes, long, short) = file_word word bare in rw (dashes, long, short) refl

pub rows_more : (before : List Row) (done : List Text) (last : Text) → has_row (codes "FILES") before ≡ false
    → with_values (codes "FILES") (reading_by files_filled) CommandLine (last ∷ []) (before ++ files_rows done) ≡ before ++ files_rows (done ++ last ∷ [])
rows_more [] [] last none = refl
rows_more [] (file ∷ files) last none = refl
rows_more (r ∷ rs) done last none = go (bytes_eq r.id (codes "FILES")) refl none (rows_more rs done last)
  where
    go : (t : Bool) → bytes_eq r.id (codes "FILES") ≡ t → (t || has_row (codes "FILES") rs) ≡ false
        → (has_row (codes "FILES") rs ≡ false → with_values (codes "FILES") (reading_by files_filled) CommandLine (last ∷ []) (rs ++ files_rows done) ≡ rs ++ files_rows (done ++ last ∷ []))
        → with_values (codes "FILES") (reading_by files_filled) CommandLine (last ∷ []) (r ∷ (rs ++ files_rows done)) ≡ r ∷ (rs ++ files_rows (done ++ last ∷ []))
    go true e f others = let bad : true ≡ false = f in cc
    go false e f others = rw e (ap (λ (rows : List Row). r ∷ rows) (others f))

pub file_step : (form : Form) (before : List Row) (done : List Text) (last file : Text) → has_row (codes "FILES") before ≡ false → IsBare file
    → walked (rules form) [] (state before done last) file ≡ state before (done ++ last ∷ []) file
unfolding walked
file_step Sources before done last file none bare =
    rw (bare_word (rules Sources) positional 1 file (state before done last).held bare)
    (rw (rows_more before done last none) refl)
file_step Objects before done last file none bare =
    rw (bare_word (rules Objects) positional 1 file (state before done last).held bare)
    (rw (rows_more before done last none) refl)
file_step Placed before done last file none bare =
    rw (bare_word (rules Placed) positional 1 file (state before done last).held bare)
    (rw (rows_more before done last none) refl)
file_step Listed before done last file none bare =
    rw (bare_word (rules Listed) positional 1 file (state before done last).held bare)
    (rw (rows_more before done last none) refl)
file_step Located before done last file none bare =
    rw (bare_word (rules Located) positional 1 file (state before done last).held bare)
    (rw (rows_more before done last none) refl)
file_step Executed before done last file none bare =
    rw (bare_word (rules Executed) positional 1 file (state before done last).held bare)
    (rw (rows_more before done last none) refl)

pub file_turn : (form : Form) (name : Text) (before : List Row) (done : List Text) (last file : Text)
    → IsBare file
    → turn_fault (leaf form name) [] (state before done last) file ≡ []
file_turn Sources name before done last file bare =
    rw (bare_word (rules Sources) positional 1 file (state before done last).held bare, bare_fault (leaf Sources name) positional file (state before done last).held bare) refl
file_turn Objects name before done last file bare =
    rw (bare_word (rules Objects) positional 1 file (state before done last).held bare, bare_fault (leaf Objects name) positional file (state before done last).held bare) refl
file_turn Placed name before done last file bare =
    rw (bare_word (rules Placed) positional 1 file (state before done last).held bare, bare_fault (leaf Placed name) positional file (state before done last).held bare) refl
file_turn Listed name before done last file bare =
    rw (bare_word (rules Listed) positional 1 file (state before done last).held bare, bare_fault (leaf Listed name) positional file (state before done last).held bare) refl
file_turn Located name before done last file bare =
    rw (bare_word (rules Located) positional 1 file (state before done last).held bare, bare_fault (leaf Located name) positional file (state before done last).held bare) refl
file_turn Executed name before done last file bare =
    rw (bare_word (rules Executed) positional 1 file (state before done last).held bare, bare_fault (leaf Executed name) positional file (state before done last).held bare) refl

abbrev pub last_of : Text → List Text → Text
last_of last [] = last
last_of last (file ∷ files) = last_of file files

abbrev pub done_of : List Text → Text → List Text → List Text
done_of done last [] = done
done_of done last (file ∷ files) = done_of (done ++ last ∷ []) file files

pub all_done : (done : List Text) (last : Text) (files : List Text)
    → done_of done last files ++ last_of last files ∷ [] ≡ done ++ last ∷ files
all_done done last [] = refl
all_done done last (file ∷ files) =
    all_done (done ++ last ∷ []) file files ∙ append_assoc done (last ∷ []) (file ∷ files)

pub files_walk : (form : Form) (before : List Row) → has_row (codes "FILES") before ≡ false → (done : List Text) (last : Text) (files : List Text) → AllByRecursion IsBare files
    → fold (walked (rules form) []) (state before done last) files
    ≡ state before (done_of done last files) (last_of last files)
files_walk form before none done last [] bare = refl
files_walk form before none done last (file ∷ files) bare =
    ap (λ (w : Walk). fold (walked (rules form) []) w files)
    (file_step form before done last file none bare.0)
    ∙ files_walk form before none (done ++ last ∷ []) file files bare.1

pub files_fault : (form : Form) (name : Text) (before : List Row) → has_row (codes "FILES") before ≡ false → (done : List Text) (last : Text) (files : List Text) → AllByRecursion IsBare files
    → walk_fault (leaf form name) [] (state before done last) files ≡ []
unfolding walk_fault
files_fault form name before none done last [] bare = refl
files_fault form name before none done last (file ∷ files) bare =
    ap (λ (k : Kinds). or_else k (walk_fault (leaf form name) []
    (walked (rules form) [] (state before done last) file) files))
    (file_turn form name before done last file bare.0)
    ∙ ap (λ (w : Walk). walk_fault (leaf form name) [] w files)
    (file_step form before done last file none bare.0)
    ∙ files_fault form name before none (done ++ last ∷ []) file files bare.1

-- a level has no fault where none of its steps has
pub level_of : (s : Shape) (words : List Text) (h : Held) (rows : List Row)
    → walk_fault s [] (walk_from nothing_held) words ≡ [] → (walk s.rules [] nothing_held words).held ≡ h
    → settle_fault s.rules s.args_override_self h ≡ [] → (settled s.rules h).rows ≡ rows
    → defaults_fault rows s.rules ≡ []
    → check_fault s (fold with_default rows s.rules) false ≡ []
    → level_fault s [] nothing_held words false [] ≡ []
level_of s words h rows fine is settle settles defaults check = rw (fine, is, settle, settles, defaults) check

pub rows_of_level : (c : List Rule) (words : List Text) (h : Held) (rows : List Row)
    → (walk c [] nothing_held words).held ≡ h → (settled c h).rows ≡ rows
    → rows_after c [] words ≡ fold with_default rows c
rows_of_level c words h rows is settles = rw (is, settles) refl
