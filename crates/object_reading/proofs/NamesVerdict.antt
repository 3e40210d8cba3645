-- Names of other modules and public names are judged as the rules say.
use Rattle.object_reading.proofs.Prelude.{◌≡◌, ℕ, zero, suc, Bool, true, false, not, ◌&&◌, cond, List, [], ◌∷◌, ◌++◌, length, flat_map, Option, Some, None, option_map, option_and_then, Err, refl, ap, sym, subst, ◌∙◌, arith, list_all, option_map_or, length-append, is_name, WrongBody, Segment, is_empty, may_follow, externals_of, definition_names, are_new, may_have_publics, Definition, Part, ExternalNamesPart, PublicsPart, Front, segment_of, listed_name_in_front, definition_in_front, at_most, all_in, publics_in, are_names, part_fault, definition_name_in_front, names_taken, State, with_externals, with_publics, externals_taken, publics_taken, false≢true}
use Rattle.omf80.specs.declared.kind.RecordKind.TheVariants as kinds
use Rattle.object_reading.proofs.Accepting.{names_judged, names_known_after}
use Rattle.object_reading.proofs.Knowing.{Knows, Accepted, Verdict, wrong_either_way, fault_by, is_early, plain_fault}
use Rattle.object_reading.proofs.KnownAfter.{follows_early, early_below, known_after}

-- some bytes are some items
pub some_items :
    {A : Type 0} (first : A) (others : Option (List A)) (items : List A)
    → option_map (λ (later : List A). first ∷ later) others ≡ Some items → is_empty items ≡ false
some_items first None items e = absurd (let bad : None ≡ Some items = e in cc)
some_items first (Some later) items e = sym (ap (λ o. option_map_or is_empty o false) e)

some_read :
    {A : Type 0} (count : ℕ) (front : List ℕ → Front A) (read : Front A) (items : List A)
    → option_and_then
    (λ (r : A × List ℕ). option_map (λ (later : List A). r.0 ∷ later) (at_most count front r.1)) read
    ≡ Some items
    → is_empty items ≡ false
some_read count front None items e = absurd (let bad : None ≡ Some items = e in cc)
some_read count front (Some (first, rest)) items e = some_items first (at_most count front rest) items e

empty_alike :
    {A : Type 0} (front : List ℕ → Front A) (bytes : List ℕ) (items : List A)
    → all_in front bytes ≡ Some items → is_empty items ≡ is_empty bytes
empty_alike front [] items e = sym (ap (λ o. option_map_or is_empty o true) e)
empty_alike front (byte ∷ others) items e = some_read (length others) front (front (byte ∷ others)) items e

-- names of other modules
externals_fault :
    (before : List Part) (known names : List (List ℕ)) (state : State) → Knows before state
    → (empty fit : Bool) → is_empty names ≡ empty
    → (list_all is_name names && are_new names state.names) ≡ fit
    → part_fault before (ExternalNamesPart names) ≡ fault_by (not empty && fit) true true true
externals_fault before known names state k empty fit a b =
    plain_fault before (ExternalNamesPart names) refl refl (λ own. refl)
    ∙ ap (λ t. fault_by (not t && are_names names before) true true true) a
    ∙ ap (λ t. fault_by (not empty && t) true true true) (names_judged before state.names names k.names ∙ b)

externals_accepted :
    (before : List Part) (state : State) (names : List (List ℕ)) → Knows before state
    → is_early 1 before ≡ true → part_fault before (ExternalNamesPart names) ≡ None
    → Accepted before kinds.ExternalNames (Some (ExternalNamesPart names))
    (record state { names = state.names ++ names; external_count = length (state.names ++ names) })
externals_accepted before state names k early none =
    let part : Part = ExternalNamesPart names in
    let known : length state.names ≡ length (flat_map externals_of before) = k.counted early ∙ k.externals in
    let left = length-append state.names names in
    let right = length-append names (flat_map externals_of before) in
    record {
      part = part;
      of_kind = refl;
      read = refl;
      no_fault = none;
      knows =
          known_after before part state (state.names ++ names) (length (state.names ++ names)) state.content k
          (record { no_entries = refl; unnamed = refl; no_content = refl; no_start = refl })
          (early_below before 1 3 (omega arith) early)
          (record {
            names_known = names_known_after before part state.names k.names;
            externals = omega (arith, known, left, right);
            counted = λ _. refl;
            content_known = λ h. absurd (false≢true h);
          });
    }

externals_judged :
    (before : List Part) (state : State) (names : List (List ℕ)) → Knows before state
    → is_early 1 before ≡ true
    → (empty fit : Bool) → is_empty names ≡ empty
    → (list_all is_name names && are_new names state.names) ≡ fit
    → Verdict before kinds.ExternalNames (Some (ExternalNamesPart names))
    (cond empty (Err WrongBody) (with_externals state (cond fit (Some (state.names ++ names)) None)))
externals_judged before state names k early true fit a b =
    externals_fault before state.names names state k true fit a b
externals_judged before state names k early false false a b =
    externals_fault before state.names names state k false false a b
externals_judged before state names k early false true a b =
    externals_accepted before state names k early
    (externals_fault before state.names names state k false true a b)

externals_read :
    (before : List Part) (state : State) (body : List ℕ) (read : Option (List (List ℕ))) → Knows before state
    → is_early 1 before ≡ true
    → ((names : List (List ℕ)) → read ≡ Some names → is_empty names ≡ is_empty body)
    → Verdict before kinds.ExternalNames (option_map ExternalNamesPart read)
    (cond (is_empty body) (Err WrongBody) (with_externals state (names_taken state.names read)))
externals_read before state body None k early alike =
    wrong_either_way before kinds.ExternalNames (is_empty body)
externals_read before state body (Some names) k early alike =
    externals_judged before state names k early (is_empty body)
    (list_all is_name names && are_new names state.names)
    (alike names refl) refl

pub externals_verdict :
    (before : List Part) (state : State) (body : List ℕ) → Knows before state
    → may_follow before kinds.ExternalNames ≡ true
    → Verdict before kinds.ExternalNames (option_map ExternalNamesPart (all_in listed_name_in_front body))
    (externals_taken state body)
externals_verdict before state body k follows =
    externals_read before state body (all_in listed_name_in_front body) k
    (follows_early before kinds.ExternalNames follows refl refl) (empty_alike listed_name_in_front body)

-- the names of definitions are read as the definitions are
name_first :
    (first : Definition) (read : Option (List Definition))
    → option_map (λ (later : List (List ℕ)). first.name ∷ later) (option_map definition_names read)
    ≡ option_map definition_names (option_map (λ (later : List Definition). first ∷ later) read)
name_first first None = refl
name_first first (Some later) = refl

defined_names :
    (count : ℕ) (bytes : List ℕ)
    → at_most count definition_name_in_front bytes
    ≡ option_map definition_names (at_most count definition_in_front bytes)
defined_names zero [] = refl
defined_names zero (byte ∷ others) = refl
defined_names (suc count) [] = refl
defined_names (suc count) (byte ∷ others) =
    go (λ after. defined_names count after) (definition_in_front (byte ∷ others))
  where
    go : ((after : List ℕ)
        → at_most count definition_name_in_front after
        ≡ option_map definition_names (at_most count definition_in_front after))
        → (read : Front Definition)
        → option_and_then
        (λ (r : List ℕ × List ℕ).
        option_map (λ (later : List (List ℕ)). r.0 ∷ later) (at_most count definition_name_in_front r.1))
        (option_map (λ (defined : Definition × List ℕ). ((defined.0).name, defined.1)) read)
        ≡ option_map definition_names
        (option_and_then
        (λ (r : Definition × List ℕ).
        option_map (λ (later : List Definition). r.0 ∷ later) (at_most count definition_in_front r.1)) read)
    go later None = refl
    go later (Some (first, after)) =
        ap (option_map (λ (names : List (List ℕ)). first.name ∷ names)) (later after)
        ∙ name_first first (at_most count definition_in_front after)

-- public names
publics_fault :
    (before : List Part) (segment : Segment) (definitions : List Definition) (state : State)
    → Knows before state
    → (empty fit : Bool) → is_empty definitions ≡ empty
    → (list_all is_name (definition_names definitions) && are_new (definition_names definitions) state.names)
    ≡ fit
    → part_fault before (PublicsPart segment definitions)
    ≡ fault_by ((may_have_publics segment && not empty) && fit) true true true
publics_fault before segment definitions state k empty fit a b =
    plain_fault before (PublicsPart segment definitions) refl refl (λ own. refl)
    ∙ ap (λ t. fault_by ((may_have_publics segment && not t)
    && are_names (definition_names definitions) before) true true true) a
    ∙ ap (λ t. fault_by ((may_have_publics segment && not empty) && t) true true true)
    (names_judged before state.names (definition_names definitions) k.names ∙ b)

publics_accepted :
    (before : List Part) (state : State) (segment : Segment) (definitions : List Definition)
    → Knows before state
    → is_early 2 before ≡ true → part_fault before (PublicsPart segment definitions) ≡ None
    → Accepted before kinds.Publics (Some (PublicsPart segment definitions))
    (record state { names = state.names ++ definition_names definitions })
publics_accepted before state segment definitions k early none =
    let part : Part = PublicsPart segment definitions in
    record {
      part = part;
      of_kind = refl;
      read = refl;
      no_fault = none;
      knows =
          known_after before part state (state.names ++ definition_names definitions)
          state.external_count state.content k
          (record { no_entries = refl; unnamed = refl; no_content = refl; no_start = refl })
          (early_below before 2 3 (omega arith) early)
          (record {
            names_known = names_known_after before part state.names k.names;
            externals = k.externals;
            counted = λ h. absurd (false≢true h);
            content_known = λ h. absurd (false≢true h);
          });
    }

publics_judged :
    (before : List Part) (state : State) (segment : Segment) (definitions : List Definition)
    → Knows before state
    → is_early 2 before ≡ true
    → (allowed fit : Bool)
    → ((t : Bool) → t ≡ fit → part_fault before (PublicsPart segment definitions)
    ≡ fault_by (allowed && t) true true true)
    → Verdict before kinds.Publics (Some (PublicsPart segment definitions))
    (cond allowed
    (with_publics state (cond fit (Some (state.names ++ definition_names definitions)) None)) (Err WrongBody))
publics_judged before state segment definitions k early false fit fault = fault fit refl
publics_judged before state segment definitions k early true false fault = fault false refl
publics_judged before state segment definitions k early true true fault =
    publics_accepted before state segment definitions k early (fault true refl)

publics_read :
    (before : List Part) (state : State) (segment : Segment) (entries : List ℕ)
    (read : Option (List Definition))
    → Knows before state → is_early 2 before ≡ true
    → ((definitions : List Definition) → read ≡ Some definitions → is_empty definitions ≡ is_empty entries)
    → Verdict before kinds.Publics (option_map (PublicsPart segment) read)
    (cond (may_have_publics segment && not (is_empty entries))
    (with_publics state (names_taken state.names (option_map definition_names read))) (Err WrongBody))
publics_read before state segment entries None k early alike =
    wrong_either_way before kinds.Publics (may_have_publics segment && not (is_empty entries))
publics_read before state segment entries (Some definitions) k early alike =
    let names : List (List ℕ) = definition_names definitions in
    publics_judged before state segment definitions k early
    (may_have_publics segment && not (is_empty entries))
    (list_all is_name names && are_new names state.names)
    (λ t e. publics_fault before segment definitions state k (is_empty entries) t
    (alike definitions refl) (sym e))

publics_in_segment :
    (before : List Part) (state : State) (entries : List ℕ) (found : Option Segment) → Knows before state
    → is_early 2 before ≡ true
    → Verdict before kinds.Publics
    (option_and_then
    (λ (segment : Segment). option_map (PublicsPart segment) (all_in definition_in_front entries)) found)
    (option_map_or
    (λ (segment : Segment).
    cond (may_have_publics segment && not (is_empty entries))
    (with_publics state (names_taken state.names (all_in definition_name_in_front entries))) (Err WrongBody))
    found (Err WrongBody))
publics_in_segment before state entries None k early = refl
publics_in_segment before state entries (Some segment) k early =
    subst (λ (read : Option (List (List ℕ))).
    Verdict before kinds.Publics (option_map (PublicsPart segment) (all_in definition_in_front entries))
    (cond (may_have_publics segment && not (is_empty entries))
    (with_publics state (names_taken state.names read)) (Err WrongBody)))
    (sym (defined_names (length entries) entries))
    (publics_read before state segment entries (all_in definition_in_front entries) k early
    (empty_alike definition_in_front entries))

pub publics_verdict :
    (before : List Part) (state : State) (body : List ℕ) → Knows before state
    → may_follow before kinds.Publics ≡ true
    → Verdict before kinds.Publics (publics_in body) (publics_taken state body)
publics_verdict before state [] k follows = refl
publics_verdict before state (number ∷ entries) k follows =
    publics_in_segment before state entries (segment_of number) k
    (follows_early before kinds.Publics follows refl refl)
