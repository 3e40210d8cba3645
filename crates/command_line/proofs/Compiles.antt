-- The words of the command that compiles, a source and an object: they have no fault, and give what is wanted.
use Rattle.command_line.proofs.{Prelude.{◌≡◌, ◌∙◌, List, [], ◌∷◌, Some, None, false, refl, ap, codes, Kinds, Row, Text, Walk, idle, reading_by, walked, defaults_fault, turn_fault, walk_fault, or_else, CommandLine, IsBare, wants_compile}, Files.{bare_fault, bare_word, files_filled}, Begins.{Ends, found_walk}, Lines.{Line, line_of}, Verbs.{compile, compile_rules, leaf_of}}

abbrev file_row : Text → Text → Row
file_row name file =
    record { id = name; values = file ∷ []; count = None; source = Some CommandLine; reading = reading_by files_filled }

-- the walk after the source, which is still pending, and after the object
abbrev after_source : Text → Walk
after_source source = record {
  held = record { rows = []; pending = Some (codes "SOURCE", source ∷ []); skip = 0 };
  waiting = idle;
  position = 2;
  is_trailing = false;
  stopped = None;
}

abbrev after_object : Text → Text → Walk
after_object source object = record {
  held = record { rows = file_row (codes "SOURCE") source ∷ []; pending = Some (codes "OBJECT", object ∷ []); skip = 0 };
  waiting = idle;
  position = 3;
  is_trailing = false;
  stopped = None;
}

source_step : (source : Text) → IsBare source
    → walked compile_rules [] (found_walk []) source ≡ after_source source
unfolding walked
source_step source bare = rw (bare_word compile_rules idle 1 source (found_walk []).held bare) refl

source_turn : (source : Text) → IsBare source → turn_fault (leaf_of compile) [] (found_walk []) source ≡ []
source_turn source bare =
    rw (bare_word compile_rules idle 1 source (found_walk []).held bare, bare_fault (leaf_of compile) idle source (found_walk []).held bare) refl

object_step : (source object : Text) → IsBare object
    → walked compile_rules [] (after_source source) object ≡ after_object source object
unfolding walked
object_step source object bare =
    rw (bare_word compile_rules idle 2 object (after_source source).held bare) refl

object_turn : (source object : Text) → IsBare object
    → turn_fault (leaf_of compile) [] (after_source source) object ≡ []
object_turn source object bare =
    rw (bare_word compile_rules idle 2 object (after_source source).held bare, bare_fault (leaf_of compile) idle object (after_source source).held bare) refl

-- a word without a fault, and then others
then_fault : (w v : Walk) (word : Text) (rest : List Text) → turn_fault (leaf_of compile) [] w word ≡ []
    → walked compile_rules [] w word ≡ v
    → walk_fault (leaf_of compile) [] w (word ∷ rest) ≡ walk_fault (leaf_of compile) [] v rest
unfolding walk_fault
then_fault w v word rest fine e =
    ap (λ (k : Kinds). or_else k (walk_fault (leaf_of compile) [] (walked compile_rules [] w word) rest)) fine
    ∙ ap (λ (x : Walk). walk_fault (leaf_of compile) [] x rest) e

no_fault_left : (w : Walk) → walk_fault (leaf_of compile) [] w [] ≡ []
unfolding walk_fault
no_fault_left w = refl

compile_ends : (source object : Text) → IsBare source → IsBare object
    → Ends (leaf_of compile) (source ∷ object ∷ []) (file_row (codes "SOURCE") source ∷ file_row (codes "OBJECT") object ∷ [])
compile_ends source object bare_source bare_object = record {
  held = (after_object source object).held;
  fine = then_fault (found_walk []) (after_source source) source (object ∷ [])
      (source_turn source bare_source) (source_step source bare_source)
      ∙ then_fault (after_source source) (after_object source object) object []
      (object_turn source object bare_object) (object_step source object bare_object)
      ∙ no_fault_left (after_object source object);
  is = ap (λ (w : Walk). w.held)
      (ap (λ (w : Walk). walked compile_rules [] w object) (source_step source bare_source)
      ∙ object_step source object bare_object);
  settle = refl;
  settles = refl;
}

pub compile_line : (source object : Text) → IsBare source → IsBare object
    → Line compile (source ∷ object ∷ []) (wants_compile (record { source = source; object = object }))
unfolding defaults_fault
compile_line source object bare_source bare_object =
    line_of compile (source ∷ object ∷ []) (file_row (codes "SOURCE") source ∷ file_row (codes "OBJECT") object ∷ [])
    (wants_compile (record { source = source; object = object })) (compile_ends source object bare_source bare_object) refl refl refl
