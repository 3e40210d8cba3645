-- The object module of a module, from its parts.
use Rattle.codegen8080.proofs.Prelude.{◌≡◌, ℕ, zero, suc, ◌+◌, ◌<◌, inl, inr, Bool, true, false, nat_lt, if◌then◌else◌, List, [], ◌∷◌, ◌++◌, length, map, Option, Some, None, slice_get, refl, sym, ap, subst, ◌∙◌, arith, append_assoc, lt-ltb, none-some, Segment, Absolute, Code, Data, Stack, Target, InSegment, External, ObjectModule, Places, Public, is_movable, places_stored, Assembled, segment_of, ExternalName, PublicName, PublicPlace, Object, Procedure, TreeModule, Extends, entry, Finishes, NumbersNames, Written, known_label, numbered, place_of_known, place_of_label, use_either, AreTargets, ArePublicsOf, IsCodeWritten, IsGenerated, IsPublicOf, contents_items, has_main, used_names, AreListed, ArePublicsIn, HavePlaces, IsMadeOf, IsPublicIn, Linkage, with_targets, listed_target, retarget, and_from, same_Some, segment_places_in, slice_get_within}

-- the label with this number, from the table of known labels
known_at :
    (count : ℕ) (table : List (Option ℕ)) (number : ℕ)
    → entry (map (known_label count) table) number ≡ known_label count (entry table number)
known_at count [] number = refl
known_at count (first ∷ others) zero = refl
known_at count (first ∷ others) (suc number) = known_at count others number

pub known_by :
    (written : Written) (bytes : Assembled) (labels : List (Option ℕ)) (number : ℕ)
    → labels ≡ map (known_label written.code.labels) written.labels
    → place_of_known bytes (entry labels number) ≡ place_of_label written bytes number
known_by written bytes labels number known =
    ap (λ table. place_of_known bytes (entry table number)) known
    ∙ ap (place_of_known bytes) (known_at written.code.labels written.labels number)

-- publics in code with known labels
public_of :
    (written : Written) (bytes : Assembled) (labels : List (Option ℕ)) (name : List ℕ) (place : PublicPlace)
    (public : Public)
    → labels ≡ map (known_label written.code.labels) written.labels
    → IsPublicIn labels bytes name place public
    → IsPublicOf written bytes name place public
public_of written bytes labels name (Object place) public known is = is
public_of written bytes labels name (Procedure number) public known is =
    is ∙ ap (λ (offset : ℕ). record { segment = Code; offset = offset; name = name })
    (known_by written bytes labels number known)

publics_of :
    (written : Written) (bytes : Assembled) (labels : List (Option ℕ)) (names : List PublicName)
    (publics : List Public)
    → labels ≡ map (known_label written.code.labels) written.labels
    → ArePublicsIn labels bytes names publics
    → ArePublicsOf written bytes names publics
publics_of written bytes labels [] [] known are = tt
publics_of written bytes labels [] (public ∷ publics) known are = absurd are
publics_of written bytes labels (name ∷ names) [] known are = absurd are
publics_of written bytes labels (name ∷ names) (public ∷ publics) known are = (
  public_of written bytes labels name.name name.place public known are.0,
  publics_of written bytes labels names publics known are.1,
)

-- a name for which code has a number, in the list of names and in the table of places
record IsFound
    (externals : List ExternalName) (listed : List (List ℕ)) (places : List ℕ)
    (index number : ℕ) : Type 0 where
  external : ExternalName
  place : ℕ
  name : slice_get externals index ≡ Some external
  at : slice_get places number ≡ Some place
  low : place < 65536
  found : slice_get listed place ≡ Some external.name

item_after : {A : Type 0} (front : List A) (item : A) (others : List A) (place : ℕ)
    → length front ≡ place → slice_get (front ++ item ∷ others) place ≡ Some item
item_after [] item others place same =
    ap (λ number. slice_get (item ∷ others) number) (sym same)
item_after (first ∷ front) item others place same =
    ap (λ number. slice_get ((first ∷ front) ++ item ∷ others) number) (sym same)
    ∙ item_after front item others (length front) refl

one_longer : {A : Type 0} (front : List A) (item : A) (place : ℕ)
    → length front ≡ place → length (front ++ item ∷ []) ≡ place + 1
one_longer [] item place same = omega (arith, same)
one_longer (first ∷ front) item place same =
    let more : length (front ++ item ∷ []) ≡ length front + 1 = one_longer front item (length front) refl in
    omega (arith, same, more)

find_name :
    (places : List ℕ) (listed front : List (List ℕ)) (place : ℕ) (numbers : List (Option ℕ))
    (externals : List ExternalName) (index number : ℕ)
    → listed ≡ front ++ used_names numbers externals
    → length front ≡ place
    → HavePlaces places place numbers externals
    → entry numbers index ≡ Some number
    → IsFound externals listed places index number
find_name places listed front place [] externals index number is size have at = absurd (none-some number at)
find_name places listed front place (known ∷ numbers) [] index number is size have at = absurd have
find_name places listed front place (None ∷ numbers) (external ∷ externals) zero number is size have at =
    absurd (none-some number at)
find_name places listed front place (Some known ∷ numbers) (external ∷ externals) zero
    number is size have at =
    record {
      external = external;
      place = place;
      name = refl;
      at = ap (slice_get places) (sym (same_Some known number at)) ∙ have.1.follows.0;
      low = omega (arith, have.1.follows.1, have.1.follows.2);
      found =
          ap (λ names. slice_get names place) is
          ∙ item_after front external.name (used_names numbers externals) place size;
    }
find_name places listed front place (None ∷ numbers) (external ∷ externals) (suc index)
    number is size have at =
    let there =
    find_name places listed front have.0 numbers externals index number is
    (size ∙ sym have.1.follows) have.2 at in
    record {
      external = there.external;
      place = there.place;
      name = there.name;
      at = there.at;
      low = there.low;
      found = there.found;
    }
find_name places listed front place (Some known ∷ numbers) (external ∷ externals) (suc index)
    number is size have at =
    let there =
    find_name places listed (front ++ external.name ∷ []) have.0 numbers externals index number
    (is ∙ sym (append_assoc front (external.name ∷ []) (used_names numbers externals)))
    (one_longer front external.name place size ∙ sym have.1.follows.1) have.2 at in
    record {
      external = there.external;
      place = there.place;
      name = there.name;
      at = there.at;
      low = there.low;
      found = there.found;
    }

target_is :
    (places : List ℕ) (count number place : ℕ)
    → slice_get places number ≡ Some place
    → place < count
    → place < 65536
    → retarget places count (External number) ≡ External place
target_is places count number place at few low =
    ap (listed_target count) at
    ∙ ap (λ (test : Bool). if test then External place else InSegment Code)
    (and_from (nat_lt place count) (nat_lt place 65536) (lt-ltb place count few) (lt-ltb place 65536 low))

segment_is : (places : List ℕ) (count : ℕ) (segment : Segment) → is_movable segment ≡ true
    → retarget places count (InSegment segment) ≡ InSegment segment
segment_is places count Absolute movable = absurd (let bad : false ≡ true = movable in cc)
segment_is places count Code movable = refl
segment_is places count Data movable = refl
segment_is places count Stack movable = refl

targets_are :
    (externals : List ExternalName) (numbers : List (Option ℕ)) (places : List ℕ) (listed : List (List ℕ))
    → listed ≡ used_names numbers externals
    → HavePlaces places 0 numbers externals
    → AreTargets externals numbers listed (retarget places (length listed))
targets_are externals numbers places listed is have = record {
  starts = segment_is places (length listed);
  names = λ index number at.
      let there = find_name places listed [] 0 numbers externals index number is refl have at in
      record {
        external = there.external;
        place = there.place;
        name = there.name;
        target =
            target_is places (length listed) number there.place there.at
            (slice_get_within listed there.place there.external.name there.found) there.low;
        found = there.found;
      };
}

-- the object module consists of its parts
pub generated :
    (tree : TreeModule) (start_label : ℕ) (code variables : Written) (code_bytes variable_bytes : Assembled)
    (code_labels variable_labels : List (Option ℕ)) (listed names : Linkage)
    (places : List ℕ) (start : Option ℕ)
    (object : ObjectModule)
    → IsCodeWritten tree start_label code
    → Finishes code code_bytes code_labels
    → numbered variables (contents_items tree.variables.items) ≡ Some variables.code.items
    → Extends code.externals variables.externals
    → NumbersNames code.externals variables.externals (contents_items tree.variables.items)
    → Finishes variables variable_bytes variable_labels
    → AreListed tree.externals.items variables.externals places listed
    → names.externals ≡ listed.externals
    → ArePublicsIn code_labels code_bytes tree.publics.items names.publics
    → start ≡ (if has_main tree then Some
    (place_of_known code_bytes (entry code_labels start_label)) else None)
    → IsMadeOf tree.name code_bytes variable_bytes names places start object
    → IsGenerated tree object
generated tree start_label code variables code_bytes variable_bytes code_labels
    variable_labels listed names places
    start object code_is code_ends variables_are grown names_are variables_end are same
    publics start_is made =
    let externals : object.externals ≡ used_names variables.externals tree.externals.items =
    made.externals ∙ same ∙ are.names_are in
    let to : Target → Target = retarget places (length object.externals) in
    let count : length names.externals ≡ length object.externals = sym (ap length made.externals) in
    let code_to : object.code ≡ places_stored Code (segment_of (with_targets to code_bytes)) =
    made.code
    ∙ ap (λ number. places_stored Code (segment_of (with_targets (retarget places number) code_bytes)))
    count in
    let data_to : object.data_places ≡ places_stored Data (segment_of (with_targets to variable_bytes)) =
    made.data_places
    ∙ ap (λ number. places_stored Data (segment_of (with_targets (retarget places number) variable_bytes)))
    count in
    record {
      name = made.name;
      start_label = start_label;
      code = code;
      code_bytes = code_bytes;
      code_is = code_is;
      variables = variables;
      variable_bytes = variable_bytes;
      variables_are = variables_are;
      grown = grown;
      externals = externals;
      used = λ name number given.
          use_either name code_is.own (contents_items tree.variables.items)
          (elim (names_are name number given) [
            | inl known ↦ inl (code_is.names name number known)
            | inr referred ↦ inr referred
          ]);
      to = to;
      targets =
          targets_are tree.externals.items variables.externals places object.externals
          externals are.places_are;
      code_segment = record {
        assembles = code_ends.assembles;
        is_assembly = code_ends.is_assembly;
        same = ap (λ (segment : Places). segment.places) code_to
            ∙ segment_places_in Code (with_targets to code_bytes) refl;
        alignment = ap (λ (segment : Places). segment.alignment) code_to;
      };
      data_segment = record {
        assembles = variables_end.assembles;
        is_assembly = variables_end.is_assembly;
        same =
            ap (λ (segment : Places). segment.places) data_to
            ∙ segment_places_in Data (with_targets to variable_bytes) refl;
        alignment = ap (λ (segment : Places). segment.alignment) data_to;
      };
      stack = made.stack;
      publics =
          subst (ArePublicsOf code code_bytes tree.publics.items) (sym made.publics)
          (publics_of code code_bytes code_labels tree.publics.items names.publics code_ends.known publics);
      start =
          made.start ∙ start_is
          ∙ ap (λ (offset : ℕ). if has_main tree then Some offset else None)
          (known_by code code_bytes code_labels start_label code_ends.known);
    }

-- the same object module, of equal parts
pub made_of_same :
    (name : List ℕ) (code same_code variables same_variables : Assembled) (names same_names : Linkage)
    (places same_places : List ℕ) (start : Option ℕ) (object : ObjectModule)
    → code ≡ same_code
    → variables ≡ same_variables
    → names ≡ same_names
    → places ≡ same_places
    → IsMadeOf name code variables names places start object
    → IsMadeOf name same_code same_variables same_names same_places start object
made_of_same name code same_code variables same_variables names same_names places same_places
    start object one two
    three four made =
    subst (λ (by : List ℕ). IsMadeOf name same_code same_variables same_names by start object) four
    (subst (λ (by : Linkage). IsMadeOf name same_code same_variables by places start object) three
    (subst (λ (by : Assembled). IsMadeOf name same_code by names places start object) two
    (subst (λ (by : Assembled). IsMadeOf name by variables names places start object) one made)))
