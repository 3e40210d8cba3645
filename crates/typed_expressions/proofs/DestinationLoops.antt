-- Destinations that are typed one after another.
use Rattle.typed_expressions.proofs.Prelude.{◌≡◌, ℕ, ◌+◌, ◌<◌, ◌≤◌, List, [], ◌∷◌, ◌++◌, length, map, drop, get_or, Option, Ok, refl, ap, sym, ◌∙◌, Reference, reference_tree, Constants, Fault, Checked, ◌>>=◌, Destination, destination_of, destinations, FailsBy, made_goes_on, made_fails, made_ended, fails_more, CodeKnown, after_destinations, given, destination_view, known_view}
use Rattle.typing.specs.internal.Results.{in_front}
use Rattle.typed_expressions.specs.declared.known.Destination.{Destination as CodeDestination}
use Rattle.typed_expressions.proofs.GivenParts.{given_is}

-- one more destination at the end of those that are made
pushed : (made : List CodeDestination) (next : CodeDestination) (rest : List Destination)
    → map destination_view (made ++ next ∷ []) ++ rest
    ≡ map destination_view made ++ destination_view next ∷ rest
pushed [] next rest = refl
pushed (first ∷ others) next rest = ap (λ all. destination_view first ∷ all) (pushed others next rest)

all_made : (made : List CodeDestination) → map destination_view made ++ [] ≡ map destination_view made
all_made [] = refl
all_made (first ∷ others) = ap (λ all. destination_view first ∷ all) (all_made others)

module _ (known : CodeKnown) where
  abbrev first_found : Reference → Constants → Checked (Destination × Constants)
  first_found target constants = destination_of (known_view known) (given known target) constants

  abbrev all_found : List Reference → Constants → Checked (List Destination × Constants)
  all_found targets constants = destinations (known_view known) (map reference_tree targets) constants

  abbrev grown : Destination → List Destination × Constants → List Destination × Constants
  grown first rest = (first ∷ rest.0, rest.1)

  abbrev before : List CodeDestination → List Destination × Constants → List Destination × Constants
  before made = after_destinations (map destination_view made)

  first_of_all : (first : Reference) (others : List Reference) (constants : Constants)
      → all_found (first ∷ others) constants
      ≡ (first_found first constants >>= (λ found. all_found others found.1
      >>= (λ rest. Ok (grown found.0 rest))))
  first_of_all first others constants =
      ap (λ reference. destination_of (known_view known) reference constants
      >>= (λ found. all_found others found.1 >>= (λ rest. Ok (grown found.0 rest))))
      (given_is known first)

  pub begins : (first : Reference) (others : List Reference) (constants after : Constants)
      (next : CodeDestination)
      → first_found first constants ≡ Ok (destination_view next, after)
      → in_front (before (next ∷ [])) (all_found others after) ≡ all_found (first ∷ others) constants
  begins first others constants after next is =
      sym (first_of_all first others constants
      ∙ ap (λ found. found >>= (λ found. all_found others found.1 >>= (λ rest. Ok (grown found.0 rest)))) is)

  pub first_fails : (first : Reference) (others : List Reference) (constants : Constants)
      (fault : Option Fault)
      → FailsBy fault (first_found first constants) → FailsBy fault (all_found (first ∷ others) constants)
  first_fails first others constants fault fails =
      rw (first_of_all first others constants)
      (fails_more fault (first_found first constants)
      (λ found. all_found others found.1 >>= (λ rest. Ok (grown found.0 rest))) fails)

  pub goes_on : (targets : List Reference) (i : ℕ) (target : Reference) (made : List CodeDestination)
      (now : Constants) (total : Checked (List Destination × Constants))
      → i < length targets → target ≡ get_or targets i target
      → in_front (before made) (all_found (drop i targets) now) ≡ total
      → (next : CodeDestination) (after : Constants)
      → first_found target now ≡ Ok (destination_view next, after)
      → in_front (before (made ++ next ∷ [])) (all_found (drop (i + 1) targets) after) ≡ total
  goes_on targets i target made now total within is left next after given =
      made_goes_on first_found all_found grown first_of_all targets i target now after (destination_view next)
      (before made) (before (made ++ next ∷ [])) total
      within is left given (λ rest. ap (λ all. (all, rest.1)) (pushed made next rest.0))

  pub destination_fails : (targets : List Reference) (i : ℕ) (target : Reference)
      (made : List CodeDestination) (now : Constants) (total : Checked (List Destination × Constants))
      (fault : Option Fault)
      → i < length targets → target ≡ get_or targets i target
      → in_front (before made) (all_found (drop i targets) now) ≡ total
      → FailsBy fault (first_found target now) → FailsBy fault total
  destination_fails targets i target made now total fault within is left given =
      made_fails first_found all_found grown first_of_all targets i target now (before made) total fault
      within is left given

  pub destinations_ended : (targets : List Reference) (i : ℕ) (made : List CodeDestination) (now : Constants)
      (total : Checked (List Destination × Constants))
      → length targets ≤ i → in_front (before made) (all_found (drop i targets) now) ≡ total
      → total ≡ Ok (map destination_view made, now)
  destinations_ended targets i made now total past left =
      made_ended first_found all_found grown first_of_all targets i now (before made) total ([], now)
      (map destination_view made, now)
      past left refl (ap (λ all. (all, now)) (all_made made))
