-- Scalars filled by one value after another.
use Rattle.typed_expressions.proofs.Prelude.{◌≡◌, ℕ, ◌+◌, ◌-◌, ◌/◌, ◌<◌, ◌≤◌, List, [], ◌∷◌, ◌++◌, length, Ok, Err, Option, Some, refl, ap, sym, ◌∙◌, append_assoc, arith, length-append, map, nat_le, nat_lt, subst, true, tests, rules, drop, get_or, repeat, add-div_right, ScalarType, Byte, Address, Restricted, RestrictedTree, OriginTree, ConstantOrigin, LocationOrigin, OffsetTree, NumberConstant, StringConstant, StringTree, Offset, offset_tree, restricted_tree, InitialValue, ByteValue, WordValue, LocationValue, scalars_of_element, scalars_of_elements, ObjectType, StringNotNumber, ImpliedWithoutValues, NotByte, Checked, ◌>>=◌, require, found, number_of_characters, Filled, RestrictedValue, ANumber, FromObject, OtherModulesToo, AsListed, restricted_value, place_of_origin, filled_with, and_before, fill, fill_characters, fill_scalar, fill_string, fill_value, contents, contents_as_listed, enough_elements, elements_for, Known, FailsBy, Fault, onto, values_filled, elements_listed, fails_more, then_then, state_ended, state_fails, append-nil, Place}
use Rattle.typed_expressions.proofs.LeftScalars.{repeat_empty}

-- values and then more of them
abbrev joined : Filled → Filled → Filled
joined first rest = record { values = first.values ++ rest.values; left = rest.left }

onto_joined : (before : List InitialValue) (first : Filled) (rest : Checked Filled)
    → onto before (rest >>= (λ (more : Filled). Ok (joined first more))) ≡ onto (before ++ first.values) rest
onto_joined before first (Ok rest) =
    ap (λ all. Ok (record { values = all; left = rest.left }))
    (sym (append_assoc before first.values rest.values))
onto_joined before first (Err fault) = refl

onto_then : (before : List InitialValue) (first : Checked Filled) (rest : List ScalarType → Checked Filled)
    → onto before
    (first >>= (λ (filled : Filled). rest filled.left >>= (λ (more : Filled). Ok (joined filled more))))
    ≡ onto before first >>= (λ (state : Filled). onto state.values (rest state.left))
onto_then before (Ok first) rest = onto_joined before first (rest first.left)
onto_then before (Err fault) rest = refl

-- the values of a list one after another
abbrev pub onto_value : Known → Restricted → Filled → Checked Filled
onto_value known restricted state =
    onto state.values
    (fill_value known state.left (restricted_tree restricted).origin (restricted_tree restricted).offsets)

abbrev pub onto_values : Known → List Restricted → Filled → Checked Filled
onto_values known values state = onto state.values (fill known (map restricted_tree values) state.left)

pub values_first : (known : Known) (value : Restricted) (others : List Restricted) (state : Filled)
    → onto_values known (value ∷ others) state ≡ onto_value known value state >>= onto_values known others
values_first known value others state =
    onto_then state.values
    (fill_value known state.left (restricted_tree value).origin (restricted_tree value).offsets)
    (fill known (map restricted_tree others))

abbrev values_of : Checked Filled → Checked (List InitialValue)
values_of checked = checked >>= (λ (filled : Filled). Ok filled.values)

values_onto : (checked : Checked Filled) → values_of checked ≡ values_of (onto [] checked)
values_onto (Ok filled) = refl
values_onto (Err fault) = refl

module _ (known : Known) (values : List Restricted) (i : ℕ) (scalars : List ScalarType) (start now : Filled)
    (empty : start ≡ record { values = []; left = scalars })
    (left : onto_values known (drop i values) now ≡ onto_values known values start) where
  values_started : values_filled known (map restricted_tree values) scalars
      ≡ values_of (onto_values known values start)
  values_started =
      values_onto (fill known (map restricted_tree values) scalars)
      ∙ ap (λ state. values_of (onto_values known values state)) (sym empty)

  pub all_filled : length values ≤ i → values_filled known (map restricted_tree values) scalars
      ≡ Ok now.values
  all_filled past =
      values_started
      ∙ ap values_of
      (state_ended (onto_value known) (onto_values known) (values_first known) values i now
      (onto_values known values start) (Ok (record { values = now.values ++ []; left = now.left })) past
      left refl)
      ∙ ap (λ made. Ok made) (append-nil now.values)

  pub some_fails : (value : Restricted) (fault : Option Fault) → i < length values
      → value ≡ get_or values i value
      → FailsBy fault (onto_value known value now)
      → FailsBy fault (values_filled known (map restricted_tree values) scalars)
  some_fails value fault within is fails =
      subst (FailsBy fault) (sym values_started)
      (fails_more fault (onto_values known values start) (λ (filled : Filled). Ok filled.values)
      (state_fails (onto_value known) (onto_values known) (values_first known) values i value now
      (onto_values known values start) fault within is left fails))

-- a value for each scalar
abbrev Counts : List ScalarType → Checked Filled → Type 0
Counts scalars (Ok filled) = length filled.values + length filled.left ≡ length scalars
Counts scalars (Err fault) = Unit {0}

counts_after : {A : Type 0} (scalars : List ScalarType) (checked : Checked A) (next : A → Checked Filled)
    → ((a : A) → Counts scalars (next a)) → Counts scalars (checked >>= next)
counts_after scalars (Ok a) next counts = counts a
counts_after scalars (Err fault) next counts = tt

counts_one : (value : InitialValue) (scalar : ScalarType) (left : List ScalarType)
    → Counts (scalar ∷ left) (Ok (filled_with value left))
counts_one value scalar left = omega arith

counts_scalar : (place : Place) (scalars : List ScalarType) (value : RestrictedValue)
    → Counts scalars (fill_scalar place scalars value)
counts_scalar place [] value = tt
counts_scalar place (Byte ∷ left) (ANumber number) =
    counts_after (Byte ∷ left) (require (nat_le number 255) NotByte place)
    (λ _. Ok (filled_with (ByteValue number) left)) (λ _. counts_one (ByteValue number) Byte left)
counts_scalar place (Byte ∷ left) (FromObject object offset) = tt
counts_scalar place (Address ∷ left) (ANumber number) = counts_one (WordValue number) Address left
counts_scalar place (Address ∷ left) (FromObject object offset) =
    counts_one (LocationValue object offset) Address left

counts_before : (value : InitialValue) (scalar : ScalarType) (left : List ScalarType)
    (checked : Checked Filled) → Counts left checked
    → Counts (scalar ∷ left) (checked >>= (λ (filled : Filled). Ok (and_before value filled)))
counts_before value scalar left (Ok filled) counts = omega arith
counts_before value scalar left (Err fault) counts = tt

counts_characters : (place : Place) (characters : List ℕ) (scalars : List ScalarType)
    → Counts scalars (fill_characters place characters scalars)
counts_characters place [] scalars = omega arith
counts_characters place (character ∷ others) [] = tt
counts_characters place (character ∷ others) (Byte ∷ left) =
    counts_before (ByteValue character) Byte left (fill_characters place others left)
    (counts_characters place others left)
counts_characters place (character ∷ others) (Address ∷ left) = tt

counts_string : (string : StringTree) (scalars : List ScalarType)
    → Counts scalars (fill_string string scalars)
counts_string string [] = counts_characters string.place string.characters []
counts_string string (Byte ∷ left) = counts_characters string.place string.characters (Byte ∷ left)
counts_string string (Address ∷ left) =
    counts_after (Address ∷ left)
    (found (number_of_characters string.characters) StringNotNumber string.place)
    (λ number. Ok (filled_with (WordValue number) left))
    (λ number. counts_one (WordValue number) Address left)

counts_restricted : (known : Known) (scalars : List ScalarType) (origin : OriginTree)
    (offsets : List OffsetTree)
    → Counts scalars
    (restricted_value OtherModulesToo known origin offsets
    >>= (λ value. fill_scalar (place_of_origin origin) scalars value))
counts_restricted known scalars origin offsets =
    counts_after scalars (restricted_value OtherModulesToo known origin offsets)
    (fill_scalar (place_of_origin origin) scalars) (counts_scalar (place_of_origin origin) scalars)

counts_value : (known : Known) (scalars : List ScalarType) (origin : OriginTree) (offsets : List OffsetTree)
    → Counts scalars (fill_value known scalars origin offsets)
counts_value known scalars (ConstantOrigin (StringConstant string)) [] = counts_string string scalars
counts_value known scalars (ConstantOrigin (StringConstant string)) (offset ∷ others) =
    counts_restricted known scalars (ConstantOrigin (StringConstant string)) (offset ∷ others)
counts_value known scalars (ConstantOrigin (NumberConstant number)) offsets =
    counts_restricted known scalars (ConstantOrigin (NumberConstant number)) offsets
counts_value known scalars (LocationOrigin name) offsets =
    counts_restricted known scalars (LocationOrigin name) offsets

counts_joined : (scalars : List ScalarType) (first : Filled) (rest : Checked Filled)
    → Counts scalars (Ok first) → Counts first.left rest
    → Counts scalars (rest >>= (λ (more : Filled). Ok (joined first more)))
counts_joined scalars first (Ok rest) one other = omega (arith, length-append first.values rest.values)
counts_joined scalars first (Err fault) one other = tt

counts_then : (scalars : List ScalarType) (first : Checked Filled) (rest : List ScalarType → Checked Filled)
    → Counts scalars first → ((left : List ScalarType) → Counts left (rest left))
    → Counts scalars
    (first >>= (λ (filled : Filled). rest filled.left >>= (λ (more : Filled). Ok (joined filled more))))
counts_then scalars (Ok first) rest one others =
    counts_joined scalars first (rest first.left) one (others first.left)
counts_then scalars (Err fault) rest one others = tt

counts_values : (known : Known) (values : List RestrictedTree) (scalars : List ScalarType)
    → Counts scalars (fill known values scalars)
counts_values known [] scalars = omega arith
counts_values known (value ∷ others) scalars =
    counts_then scalars (fill_value known scalars value.origin value.offsets) (fill known others)
    (counts_value known scalars value.origin value.offsets) (counts_values known others)

-- the scalars that a list uses, by the values that it gives
listed_by : (place : Place) (each : ℕ) (scalars : List ScalarType) (checked : Checked Filled)
    → Counts scalars checked
    → checked
    >>= (λ (filled : Filled). contents_as_listed place
    (length scalars - length filled.left) each filled.values)
    ≡ (checked >>= (λ (filled : Filled). Ok filled.values))
    >>= (λ values. contents_as_listed place (length values) each values)
listed_by place each scalars (Ok filled) counts =
    let used : length scalars - length filled.left ≡ length filled.values = omega arith in
    ap (λ n. contents_as_listed place n each filled.values) used
listed_by place each scalars (Err fault) counts = refl

-- an element has a scalar where one is filled
made_at_most : (scalars : List ScalarType) (checked : Checked Filled) (made : List InitialValue)
    → Counts scalars checked → checked >>= (λ (filled : Filled). Ok filled.values) ≡ Ok made
    → length made ≤ length scalars
made_at_most scalars (Ok filled) made counts is =
    let same : filled.values ≡ made = cc in let lengths = ap length same in omega arith
made_at_most scalars (Err fault) made counts is = absurd (cc)

some_element : {A : Type 0} (n count : ℕ) (element : List A) → 0 < count → count ≤ length (repeat n element)
    → 0 < length element
some_element {A = A} n count [] some fits =
    let none : length (repeat {A = A} n []) ≡ 0 = ap length (repeat_empty {A = A} n [] refl) in
    absurd (omega arith)
some_element n count (first ∷ others) some fits = omega arith

some_scalar : (known : Known) (t : ObjectType) (values : List RestrictedTree) (n : ℕ)
    (made : List InitialValue) → values_filled known values (scalars_of_elements n t) ≡ Ok made
    → 0 < length made → 0 < length (scalars_of_element t)
some_scalar known t values n made is some =
    let scalars = scalars_of_elements n t in
    some_element n (length made) (scalars_of_element t) some
    (made_at_most scalars (fill known values scalars) made (counts_values known values scalars) is)

-- the least number of elements
pub elements_at_least : (place : Place) (used each : ℕ) → 0 < used → 0 < each
    → elements_listed place used each ≡ Ok ((used - 1) / each + 1)
elements_at_least place used each some has =
    let test : nat_lt 0 used ≡ true = search (tests, rules) in
    let one : used + each - 1 ≡ used - 1 + each = omega arith in
    ap (λ holds. require holds ImpliedWithoutValues place >>= (λ _. Ok (elements_for used each))) test
    ∙ ap (λ elements. Ok elements) (ap (λ n. n / each) one ∙ add-div_right (used - 1) has)

listed_at : (place : Place) (used each : ℕ) (made : List InitialValue)
    → contents_as_listed place used each made ≡ elements_listed place used each
    >>= (λ dimension. Ok (record { dimension = Some dimension; values = made }))
listed_at place used each made =
    then_then (require (nat_lt 0 used) ImpliedWithoutValues place) (λ _. Ok (elements_for used each))
    (λ dimension. Ok (record { dimension = Some dimension; values = made }))

-- an array that is as long as its list, from what fills it
module _ (known : Known) (place : Place) (t : ObjectType) (values : List RestrictedTree) (n used each : ℕ)
    (made : List InitialValue)
    (enough : n ≡ enough_elements values) (whole : used ≡ length made)
    (element : each ≡ length (scalars_of_element t))
    (is : values_filled known values (scalars_of_elements n t) ≡ Ok made) where
  listed : contents known place t AsListed values ≡ elements_listed place used each
      >>= (λ dimension. Ok (record { dimension = Some dimension; values = made }))
  listed =
      let scalars = scalars_of_elements (enough_elements values) t in
      listed_by place (length (scalars_of_element t)) scalars (fill known values scalars)
      (counts_values known values scalars)
      ∙ ap (λ (filled : Checked (List InitialValue)). filled
      >>= (λ values. contents_as_listed place (length values) (length (scalars_of_element t)) values))
      (ap (λ count. values_filled known values (scalars_of_elements count t)) (sym enough) ∙ is)
      ∙ ap (λ count. contents_as_listed place count (length (scalars_of_element t)) made) (sym whole)
      ∙ ap (λ count. contents_as_listed place used count made) (sym element)
      ∙ listed_at place used each made

  pub listed_ok : (dimension : ℕ) → elements_listed place used each ≡ Ok dimension
      → contents known place t AsListed values ≡ Ok (record { dimension = Some dimension; values = made })
  listed_ok dimension given =
      listed ∙ ap
      (λ (elements : Checked ℕ). elements
      >>= (λ dimension. Ok (record { dimension = Some dimension; values = made }))) given

  pub listed_fails : (fault : Option Fault) → FailsBy fault (elements_listed place used each)
      → FailsBy fault (contents known place t AsListed values)
  listed_fails fault fails =
      subst (FailsBy fault) (sym listed)
      (fails_more fault (elements_listed place used each)
      (λ dimension. Ok (record { dimension = Some dimension; values = made })) fails)

  pub some_each : 0 < used → 0 < each
  some_each some =
      let has = some_scalar known t values n made is (omega arith) in
      omega arith

-- a string with numbers after it is one number
pub string_with_offsets : (known : Known) (scalars : List ScalarType) (string : StringTree)
    (offsets : List Offset) → (length offsets ≡ 0 → ⊥)
    → fill_value known scalars (ConstantOrigin (StringConstant string)) (map offset_tree offsets)
    ≡ restricted_value OtherModulesToo known (ConstantOrigin (StringConstant string))
    (map offset_tree offsets) >>= (λ value. fill_scalar string.place scalars value)
string_with_offsets known scalars string [] some = absurd (some refl)
string_with_offsets known scalars string (offset ∷ others) some = refl
