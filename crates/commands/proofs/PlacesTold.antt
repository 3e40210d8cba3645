-- Where runs of images stand: addresses that are told, and lines.
use Rattle.std.proofs.lemmas.Option.{get_or_from_slice_get, slice_get_within}
use Rattle.commands.proofs.Prelude.{◌≡◌, ◌∙◌, ℕ, List, [], ◌∷◌, ◌++◌, length, length-map, map, subst, Option, Some, inl, inr, ap, sym, arith, decimal, Joined, Typed, Values, BeginsImage, PrintsImage, module_view, modules_of, program_modules, slice_get, slice_get-map, TypedModule, Absolute, StopsImage, NamesLine, NamesPlace, module_names, no_names, IfOk, String, address_digits}
use Rattle.std.specs.Prelude.{option_map, Result, Ok, Err}
use Rattle.listings.specs.{declared.origins.CodeLines.{CodeLines}, internal.Origins.{AreLinesOf}}
use Rattle.std.proofs.Common.{Global}

-- an address is told, whatever modules there are
pub any_place : (names : List (List ℕ)) (place : ℕ) (text : List ℕ) → NamesPlace no_names place text → NamesPlace names place text
any_place names place text (inl line) = absurd (omega (arith, line.of_module.1))
any_place names place text (inr digits) = inr digits

module _ (names : List (List ℕ)) (before : List ℕ) (values : Values) (image : Absolute) (old new : Option (List ℕ)) where
  pub any_names : (status : ℕ) (outputs : List (List ℕ)) → PrintsImage no_names before values image status outputs old new → PrintsImage names before values image status outputs old new
  any_names status outputs printed = record {
    end = printed.end;
    events = printed.events;
    steps = printed.steps;
    place = printed.place;
    text = printed.text;
    does = printed.does;
    named = λ wanted. any_place names printed.place printed.text (printed.named wanted);
    ended = printed.ended;
    gathered = printed.gathered;
    printed = printed.printed;
  }

  pub any_begins : BeginsImage no_names before values image old new → BeginsImage names before values image old new
  any_begins begun = record {
    end = begun.end;
    events = begun.events;
    steps = begun.steps;
    place = begun.place;
    text = begun.text;
    does = begun.does;
    named = λ wanted. any_place names begun.place begun.text (begun.named wanted);
    printed = begun.printed;
  }

pub any_stops : (names : List (List ℕ)) (values : Values) (image : Absolute) (old new : Option (List ℕ)) → StopsImage no_names values image old new → StopsImage names values image old new
any_stops names values image old new (inl kept) = inl kept
any_stops names values image old new (inr begun) = inr (any_begins names [] values image old new begun)

-- there are lines of as many modules as a program has
pub its_lines : (built program : Joined) (lines : CodeLines) → program ≡ built → AreLinesOf (length (program_modules built)) lines
    → AreLinesOf (length (modules_of program)) lines
its_lines built program lines same all =
    subst (λ (count : ℕ). AreLinesOf count lines) (length-map (modules_of built) module_view ∙ ap (λ (one : Joined). length (modules_of one)) (sym same)) all

-- a line of a module of a program
pub line_named : (program : Joined) (modules : List Typed) (index : ℕ) (typed : Typed) (line : ℕ) (text : List ℕ) → modules ≡ modules_of program → slice_get modules index ≡ Some typed → text ≡ typed.name ++ 32 ∷ decimal line
    → NamesLine (module_names program) text
line_named program modules index typed line text are found is = record {
  name = typed.name;
  line = line;
  of_module =
      let named : slice_get (module_names program) index ≡ Some typed.name =
      slice_get-map (λ (one : TypedModule). one.name) (map module_view (modules_of program)) index
      ∙ ap (option_map (λ (one : TypedModule). one.name)) (slice_get-map module_view (modules_of program) index
      ∙ ap (option_map module_view) (ap (λ (l : List Typed). slice_get l index) (sym are) ∙ found)) in (
        index,
        slice_get_within (module_names program) index typed.name named,
        get_or_from_slice_get (module_names program) index typed.name typed.name named,
      );
  text_is = is;
}

-- the same of a text that was made, unless memory ran out
pub line_spelled : {E : Type 0} (result : Result (String Global) E) (program : Joined) (modules : List Typed) (index : ℕ) (typed : Typed) (line : ℕ) → modules ≡ modules_of program → slice_get modules index ≡ Some typed → IfOk result (λ text. text.bytes.items ≡ typed.name ++ 32 ∷ decimal line)
    → IfOk result (λ text. NamesLine (module_names program) text.bytes.items)
line_spelled (Ok text) program modules index typed line are found is = line_named program modules index typed line text.bytes.items are found is
line_spelled (Err failure) program modules index typed line are found made = tt

-- a text of a line, or of an address, is one of a place
module _ {E : Type 0} (names : List (List ℕ)) (place : ℕ) where
  pub line_told : (result : Result (String Global) E) → IfOk result (λ text. NamesLine names text.bytes.items) → IfOk result (λ text. NamesPlace names place text.bytes.items)
  line_told (Ok text) named = inl named
  line_told (Err failure) named = tt

  pub address_told : (result : Result (String Global) E) → IfOk result (λ text. text.bytes.items ≡ address_digits place) → IfOk result (λ text. NamesPlace names place text.bytes.items)
  address_told (Ok text) is = inr is
  address_told (Err failure) is = tt
