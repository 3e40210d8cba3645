-- Lowered tree code refers only to EXTERNAL names of its module.
use Rattle.treecode.proofs.Prelude.{result_of, result_of_one, shifted, ◌≡◌, ℕ, zero, suc, ◌+◌, ◌-◌, ◌<◌, ◌==◌, ◌||◌, ◌∙◌, Bool, true, false, min, refl, sym, ap, subst, arith, List, [], ◌∷◌, ◌++◌, length, map, zip, Option, Some, None, is_some, slice_get, slice_index_or, slice_get-map, slice_get_within, none-some, same_Some, option_map, option_map_or, option_and_then, cons_option, enumerate_from, filter_map, ScalarType, Byte, Address, BinaryOperator, UnaryFunction, TypedHome, InConstants, InData, Placed, BasedOn, Elsewhere, Nowhere, InFrame, TypedModule, TypedObject, TypedProcedure, Storage, Expression, ExpressionForm, ExpressionNumber, ExternalName, Home, Place, Code, Data, External, Number, TreeModule, TreeProcedure, Nodes, home_at, nodes_of, KeepTraits, NumbersRise, PartsAreBelow, known_at, known_of, distance_of, number_at, no_traits, traits_of, converted_address, converted_place, function_of_place, place_of_part, result_of_known, shift_of_known, external_from, external_name, external_number, external_place, externals_of, home_of_object, homes_from, homes_of, is_global_object, is_global_procedure, kind_with, latest, parameter_at, parameters_of, place_after, content_of, constants_from, variables_from, with_gap, size_of_value}
use Rattle.std.proofs.lemmas.Bool.{eq-eqb, eqb-true}
use Rattle.std.specs.List.{AllByRecursion, list_any}
use Rattle.std.specs.Prelude.{IfSome, if◌then◌else◌, ◌%◌, ◌&&◌, nat_le, nat_lt, sum_by}
use Rattle.trees.specs.declared.expression.BinaryOperator.TheVariants as operators
use Rattle.typed_trees.specs.Globals.{ListsGlobals, global_procedure, is_global, shared_procedure}
use Rattle.typed_trees.specs.Sizes.{size_of_object}
use Rattle.typed_trees.specs.declared.parts.AtAddress.TheVariants.{AtNumber, AtObject}
use Rattle.typed_trees.specs.declared.parts.ConstantItem.{ConstantItem}
use Rattle.typed_trees.specs.declared.parts.ConstantItem.TheVariants.{ConstantList, ConstantObject}
use Rattle.typed_trees.specs.declared.parts.GlobalItem.{GlobalItem}
use Rattle.typed_trees.specs.declared.parts.GlobalItem.TheVariants.{GlobalObject, GlobalProcedure}
use Rattle.typed_trees.specs.declared.parts.InitialValue.{InitialValue}
use Rattle.typed_trees.specs.declared.parts.InitialValue.TheVariants.{ByteValue, LocationValue, WordValue}
use Rattle.trees.specs.Functions.{type_of_function}
use Rattle.typed_trees.specs.declared.parts.Visibility.{Visibility}
use Rattle.typed_trees.specs.declared.parts.Visibility.TheVariants as visibilities
use Rattle.layout.specs.declared.slot.Segment.TheVariants as segments
use Rattle.layout.specs.declared.slot.Slot.{Slot}
use Rattle.layout.specs.declared.slot.Segment.{Segment}
use Rattle.treecode.specs.declared.expression.ExpressionForm.TheVariants as forms
use Rattle.treecode.specs.declared.module.Content.{Content}
use Rattle.treecode.specs.declared.module.Content.TheVariants as contents
use Rattle.treecode.specs.declared.place.Home.TheVariants as homes
use Rattle.treecode.specs.declared.procedure.Parameter.{Parameter}
use Rattle.treecode.specs.internal.Contents.{constant_object, place_from, static_object, with_constant, with_object}
unfoldable use Rattle.treecode.specs.internal.Contents.{constants_of, variables_of}
use Rattle.treecode.specs.internal.Homes.{external_procedure, home_after, location_of, place_in_segment, place_of_slot}
use Rattle.treecode.specs.internal.Known.{result_of_place, result_of_places}
use Rattle.treecode.specs.internal.Lowered.{IsLowered, IsProcedure}
use Rattle.treecode.specs.declared.traits.Traits.{Traits}
use Rattle.treecode.specs.internal.Named.{ContentIsNamed, HomeIsNamed, HomesAreNamed, KindIsNamed, LocationIsNamed, NamesBelow, NamesItsOwn, ParametersAreNamed, PlaceIsNamed}

-- the index of an item among the names is below their number
abbrev IsIndex : (count : ℕ) → (names : List ExternalName) → ℕ → Type 0
IsIndex count names number = number < count + length names

index_more :
    (count : ℕ) (here : Option ExternalName) (names : List ExternalName) (is : Bool) (next same : Option ℕ)
    → IfSome next (IsIndex (suc count) names)
    → IfSome same (IsIndex count names)
    → IfSome (if is_some here then latest (if is then Some count else None) next else same)
    (IsIndex count (cons_option here names))
index_more count None names is next same after before = before
index_more count (Some name) names is (Some number) same after before = omega (arith, after)
index_more count (Some name) names true None same after before = omega arith
index_more count (Some name) names false None same after before = tt

index_from :
    (typed : TypedModule) (wanted : GlobalItem → Bool) (count : ℕ) (items : List GlobalItem)
    → IfSome (external_from typed wanted count items) (IsIndex count (filter_map (external_name typed) items))
index_from typed wanted count [] = tt
index_from typed wanted count (item ∷ others) =
    index_more count (external_name typed item) (filter_map (external_name typed) others) (wanted item)
    (external_from typed wanted (suc count) others) (external_from typed wanted count others)
    (index_from typed wanted (suc count) others) (index_from typed wanted count others)

-- an item with a name, if it is there, has an index
found_more :
    (is any : Bool) (count : ℕ) (here : Option ExternalName) (next same : Option ℕ)
    → (is ≡ true → is_some here ≡ true)
    → (any ≡ true → is_some next ≡ true)
    → (any ≡ true → is_some same ≡ true)
    → (is || any) ≡ true
    → is_some (if is_some here then latest (if is then Some count else None) next else same) ≡ true
found_more true any count None next same named after before found = let bad : false ≡ true = named refl in cc
found_more false any count None next same named after before found = before found
found_more is any count (Some name) (Some number) same named after before found = refl
found_more true any count (Some name) None same named after before found = refl
found_more false any count (Some name) None same named after before found = after found

found_from :
    (typed : TypedModule) (wanted : GlobalItem → Bool)
    → ((item : GlobalItem) → wanted item ≡ true → is_some (external_name typed item) ≡ true)
    → (count : ℕ) (items : List GlobalItem)
    → list_any wanted items ≡ true
    → is_some (external_from typed wanted count items) ≡ true
found_from typed wanted named count [] found = let bad : false ≡ true = found in cc
found_from typed wanted named count (item ∷ others) found =
    found_more (wanted item) (list_any wanted others) count (external_name typed item)
    (external_from typed wanted (suc count) others) (external_from typed wanted count others)
    (named item) (found_from typed wanted named (suc count) others) (found_from typed wanted named count others)
    found

-- an EXTERNAL procedure is one of the globals
abbrev is_among : (number : ℕ) → List ℕ → Bool
is_among number numbers = list_any (λ (other : ℕ). other == number) numbers

among_globals :
    (number : ℕ) (items : List GlobalItem)
    → list_any (is_global_procedure number) items ≡ is_among number (filter_map shared_procedure items)
among_globals number [] = refl
among_globals number (GlobalProcedure other ∷ items) =
    ap (λ later. (other == number) || later) (among_globals number items)
among_globals number (GlobalObject other ∷ items) = among_globals number items

among_later :
    (number : ℕ) (first : Option ℕ) (numbers : List ℕ)
    → is_among number numbers ≡ true
    → is_among number (cons_option first numbers) ≡ true
among_later number None numbers is = is
among_later number (Some first) numbers is = by (first == number)
  where
    by : (same : Bool) → (same || is_among number numbers) ≡ true
    by true = refl
    by false = is

among_procedures :
    (procedures : List TypedProcedure) (first index number : ℕ) (procedure : TypedProcedure)
    → slice_get procedures index ≡ Some procedure
    → procedure.visibility ≡ visibilities.External
    → number ≡ first + index
    → is_among number (filter_map global_procedure (enumerate_from first procedures)) ≡ true
among_procedures [] first index number procedure found is at = absurd (none-some procedure found)
among_procedures (here ∷ others) first zero number procedure found is at =
    ap (λ (visibility : Visibility).
    is_among number
    (cons_option (if is_global visibility then Some first else None)
    (filter_map global_procedure (enumerate_from (first + 1) others))))
    (ap (λ (one : TypedProcedure). one.visibility) (same_Some here procedure found) ∙ is)
    ∙ ap (λ same. same || is_among number (filter_map global_procedure (enumerate_from (first + 1) others)))
    (eq-eqb first number (omega (arith, at)))
among_procedures (here ∷ others) first (suc index) number procedure found is at =
    among_later number (global_procedure (first, here))
    (filter_map global_procedure (enumerate_from (first + 1) others))
    (among_procedures others (first + 1) index number procedure found is (omega (arith, at)))

wanted_name :
    (typed : TypedModule) (number : ℕ) (procedure : TypedProcedure)
    → slice_get typed.procedures number ≡ Some procedure
    → procedure.visibility ≡ visibilities.External
    → (item : GlobalItem)
    → is_global_procedure number item ≡ true
    → is_some (external_name typed item) ≡ true
wanted_name typed number procedure found is (GlobalProcedure other) same =
    ap (λ (n : ℕ). is_some (external_name typed (GlobalProcedure n))) (eqb-true other number same)
    ∙ ap (λ (found : Option TypedProcedure).
    is_some (option_and_then (λ (one : TypedProcedure). external_procedure one.visibility one.name) found)) found
    ∙ ap (λ (visibility : Visibility). is_some (external_procedure visibility procedure.name)) is
wanted_name typed number procedure found is (GlobalObject other) same = let bad : false ≡ true = same in cc

external_found :
    (typed : TypedModule) (number : ℕ) (procedure : TypedProcedure)
    → ListsGlobals typed
    → slice_get typed.procedures number ≡ Some procedure
    → procedure.visibility ≡ visibilities.External
    → is_some (external_number typed (is_global_procedure number)) ≡ true
external_found typed number procedure lists found is =
    found_from typed (is_global_procedure number) (wanted_name typed number procedure found is) 0 typed.globals
    (among_globals number typed.globals
    ∙ ap (is_among number) lists.procedures
    ∙ among_procedures typed.procedures 0 number number procedure found is (omega arith))

kind_named :
    (count : ℕ) (external : Option ℕ) (visibility : Visibility) (is_reentrant : Bool)
    → IfSome external (λ number. number < count)
    → (visibility ≡ visibilities.External → is_some external ≡ true)
    → KindIsNamed count (kind_with external visibility is_reentrant)
kind_named count (Some number) visibilities.External is_reentrant below there = below
kind_named count None visibilities.External is_reentrant below there =
    let bad : false ≡ true = there refl in cc
kind_named count external visibilities.Private true below there = tt
kind_named count external visibilities.Private false below there = tt
kind_named count external visibilities.Public true below there = tt
kind_named count external visibilities.Public false below there = tt

module _ (count : ℕ) where
  -- places further on, and those of homes
  pub after_named : (place : Place) (distance : ℕ)
      → PlaceIsNamed count place
      → PlaceIsNamed count (place_after place distance)
  after_named (Number number) distance is = tt
  after_named (Code offset) distance is = tt
  after_named (Data offset) distance is = tt
  after_named (External offset name) distance is = is

  slot_named : (slot : Option Slot) → PlaceIsNamed count (place_of_slot slot)
  slot_named None = tt
  slot_named (Some slot) = by slot.segment
    where
      by : (segment : Segment) → PlaceIsNamed count (place_in_segment segment slot.offset)
      by segments.Code = tt
      by segments.Data = tt

  home_after_named : (home : Home) (distance : ℕ)
      → HomeIsNamed count home
      → HomeIsNamed count (home_after home distance)
  home_after_named (homes.Static place) distance is = after_named place distance is
  home_after_named (homes.Based base) distance is = tt
  home_after_named (homes.Frame variable) distance is = tt

  location_named : (home : Home) → HomeIsNamed count home → LocationIsNamed count (location_of home)
  location_named (homes.Static place) is = is
  location_named (homes.Based base) is = is
  location_named (homes.Frame variable) is = tt

  external_named : (external : Option ℕ)
      → IfSome external (λ number. number < count)
      → PlaceIsNamed count (external_place external)
  external_named None below = tt
  external_named (Some number) below = below

  -- one home more
  home_grown : (starts : List Home) (home : Home)
      → HomesAreNamed count starts
      → HomeIsNamed count home
      → HomesAreNamed count (starts ++ home ∷ [])
  home_grown [] home are is zero = is
  home_grown [] home are is (suc object) = tt
  home_grown (first ∷ others) home are is zero = are zero
  home_grown (first ∷ others) home are is (suc object) =
      home_grown others home (λ other. are (suc other)) is object

  -- known values
  part_named : (home : Home) (offset : ℕ) (first second : Option ℕ)
      → HomeIsNamed count home
      → IfSome (place_of_part home offset first second) (PlaceIsNamed count)
  part_named (homes.Static place) offset (Some one) (Some two) is =
      after_named (place_after (place_after place offset) one) two
      (after_named (place_after place offset) one (after_named place offset is))
  part_named (homes.Static place) offset (Some one) None is = tt
  part_named (homes.Static place) offset None second is = tt
  part_named (homes.Based base) offset first second is = tt
  part_named (homes.Frame variable) offset first second is = tt

  address_named : (scalar : ScalarType) (place : Place) → PlaceIsNamed count place
      → IfSome (converted_address scalar place) (PlaceIsNamed count)
  address_named Byte place is = tt
  address_named Address place is = is

  converted_named : (scalar : ScalarType) (known : Option Place)
      → IfSome known (PlaceIsNamed count)
      → IfSome (option_and_then (converted_place scalar) known) (PlaceIsNamed count)
  converted_named scalar None is = tt
  converted_named scalar (Some (Number number)) is = tt
  converted_named scalar (Some place) is = address_named scalar place is

  mapped_named : (of : ℕ → ℕ) (found : Option ℕ)
      → IfSome (option_map (λ number. Number (of number)) found) (PlaceIsNamed count)
  mapped_named of None = tt
  mapped_named of (Some number) = tt

  number_named : (found : Option ℕ) → IfSome (option_map Number found) (PlaceIsNamed count)
  number_named None = tt
  number_named (Some number) = tt

  result_named : (operator : BinaryOperator) (left right : Place)
      → PlaceIsNamed count left
      → PlaceIsNamed count right
      → IfSome (result_of_place operator left right) (PlaceIsNamed count)
  result_named operators.Add left (Number distance) one two = after_named left distance one
  result_named operators.Add (Number distance) right one two = after_named right distance two
  result_named operators.Subtract left (Number distance) one two =
      after_named left ((65536 - distance) % 65536) one
  result_named operator left right one two = tt

  results_named : (operands : ScalarType) (operator : BinaryOperator) (left right : Place)
      → PlaceIsNamed count left
      → PlaceIsNamed count right
      → IfSome (result_of_places operands operator left right) (PlaceIsNamed count)
  results_named operands operator (Number left) (Number right) one two =
      number_named (result_of operands operator left right)
  results_named operands operator left right one two = result_named operator left right one two

  both_named : (operands : ScalarType) (operator : BinaryOperator) (left right : Option Place)
      → IfSome left (PlaceIsNamed count)
      → IfSome right (PlaceIsNamed count)
      → IfSome (result_of_known operands operator left right) (PlaceIsNamed count)
  both_named operands operator (Some left) (Some right) one two = results_named operands operator left right one two
  both_named operands operator (Some left) None one two = tt
  both_named operands operator None right one two = tt

  function_named : (function : UnaryFunction) (known : Option Place)
      → IfSome known (PlaceIsNamed count)
      → IfSome (option_and_then (function_of_place function) known) (PlaceIsNamed count)
  function_named function None is = tt
  function_named function (Some (Number number)) is = tt
  function_named function (Some place) is = address_named (type_of_function function) place is

  shift_named : (shift : ℕ → ℕ → ℕ) (number by : Option ℕ)
      → IfSome (shift_of_known shift number by) (PlaceIsNamed count)
  shift_named shift (Some number) (Some by) = tt
  shift_named shift (Some number) None = tt
  shift_named shift None by = tt

  -- the contents of segments
  abbrev AreNamed : List Content → Type 0
  AreNamed list = AllByRecursion (ContentIsNamed count) list

  contents_both : (first others : List Content)
      → AreNamed first
      → AreNamed others
      → AreNamed (first ++ others)
  contents_both [] others one two = two
  contents_both (content ∷ first) others one two = (one.0, contents_both first others one.1 two)

  bytes_named : (bytes : List ℕ) → AreNamed (map contents.Byte bytes)
  bytes_named [] = tt
  bytes_named (byte ∷ others) = (tt, bytes_named others)

  distance_named : (home : Home) (distance : ℕ)
      → HomeIsNamed count home
      → PlaceIsNamed count (place_from home distance)
  distance_named (homes.Static place) distance is = after_named place distance is
  distance_named (homes.Based base) distance is = tt
  distance_named (homes.Frame variable) distance is = tt

  values_named : (starts : List Home) (values : List InitialValue)
      → HomesAreNamed count starts
      → AreNamed (map (content_of starts) values)
  values_named starts [] are = tt
  values_named starts (ByteValue byte ∷ others) are = (tt, values_named starts others are)
  values_named starts (WordValue word ∷ others) are = (tt, values_named starts others are)
  values_named starts (LocationValue object offset ∷ others) are =
      (distance_named (home_at starts object) offset (are object), values_named starts others are)

  gap_named : (before : List Content) (bytes : ℕ)
      → AreNamed before
      → AreNamed (with_gap before bytes)
  gap_named [] bytes are = (tt, tt)
  gap_named (contents.Gap first ∷ []) bytes are = by (nat_lt 0 first && nat_le (first + bytes) 65535)
    where
      by : (joined : Bool)
          → AreNamed (if joined then contents.Gap (first + bytes) ∷ []
          else contents.Gap first ∷ contents.Gap bytes ∷ [])
      by true = (tt, tt)
      by false = (tt, (tt, tt))
  gap_named (contents.Gap first ∷ second ∷ others) bytes are = (are.0, gap_named (second ∷ others) bytes are.1)
  gap_named (contents.Byte value ∷ others) bytes are = (are.0, gap_named others bytes are.1)
  gap_named (contents.Word place ∷ others) bytes are = (are.0, gap_named others bytes are.1)

  object_named : (starts : List Home) (object : TypedObject) (values : List InitialValue)
      (before : List Content)
      → HomesAreNamed count starts
      → AreNamed before
      → AreNamed (with_object starts object values before)
  object_named starts object values before are named =
      by (left == 0) (contents_both before (map (content_of starts) values) named (values_named starts values are))
    where
      left : ℕ
      left = min (min (size_of_object object) 4294967295 - sum_by size_of_value values) 65535

      by : (none : Bool)
          → AreNamed (before ++ map (content_of starts) values)
          → AreNamed (if none then before ++ map (content_of starts) values
          else with_gap (before ++ map (content_of starts) values) left)
      by true is = is
      by false is = gap_named (before ++ map (content_of starts) values) left is

  constant_named : (typed : TypedModule) (starts : List Home) (item : ConstantItem) (before : List Content)
      → HomesAreNamed count starts
      → AreNamed before
      → AreNamed (with_constant typed starts item before)
  constant_named typed starts (ConstantObject number) before are named =
      by (slice_get typed.objects number)
    where
      of_home : (object : TypedObject) (home : TypedHome) → AreNamed (constant_object starts object home before)
      of_home object (InConstants values) = object_named starts object values before are named
      of_home object home = named

      by : (found : Option TypedObject)
          → AreNamed
          (option_map_or (λ (object : TypedObject). constant_object starts object object.home before) found before)
      by (Some object) = of_home object object.home
      by None = named
  constant_named typed starts (ConstantList number) before are named =
      by (slice_get typed.constants.lists number)
    where
      by : (found : Option (List ℕ))
          → AreNamed (option_map_or (λ (bytes : List ℕ). before ++ map contents.Byte bytes) found before)
      by (Some bytes) = contents_both before (map contents.Byte bytes) named (bytes_named bytes)
      by None = named

  constants_named : (typed : TypedModule) (starts : List Home) (before : List Content)
      (items : List ConstantItem)
      → HomesAreNamed count starts
      → AreNamed before
      → AreNamed (constants_from typed starts before items)
  constants_named typed starts before [] are named = named
  constants_named typed starts before (item ∷ others) are named =
      constants_named typed starts (with_constant typed starts item before) others are
      (constant_named typed starts item before are named)

  variables_named : (starts : List Home) (before : List Content) (objects : List TypedObject)
      → HomesAreNamed count starts
      → AreNamed before
      → AreNamed (variables_from starts before objects)
  variables_named starts before [] are named = named
  variables_named starts before (object ∷ others) are named =
      variables_named starts (static_object starts object object.home before) others are (of_home object.home)
    where
      of_home : (home : TypedHome) → AreNamed (static_object starts object home before)
      of_home (InData values) = object_named starts object values before are named
      of_home home = named

  all_constants_named : (typed : TypedModule) (starts : List Home)
      → HomesAreNamed count starts
      → AreNamed (constants_of typed starts)
  unfolding constants_of
  all_constants_named typed starts are = constants_named typed starts [] typed.constants.items are tt

  all_variables_named : (typed : TypedModule) (starts : List Home)
      → HomesAreNamed count starts
      → AreNamed (variables_of typed starts)
  unfolding variables_of
  all_variables_named typed starts are = variables_named starts [] typed.objects are tt

  -- the parameters of procedures
  parameters_named : (starts : List Home) (heading : TypedProcedure)
      → HomesAreNamed count starts
      → ParametersAreNamed count (parameters_of starts heading)
  parameters_named starts heading are index parameter found =
      by (slice_get (zip heading.parameter_types heading.parameters) index)
      (sym (slice_get-map (parameter_at starts) (zip heading.parameter_types heading.parameters) index) ∙ found)
    where
      by : (pair : Option (ScalarType × ℕ))
          → option_map (parameter_at starts) pair ≡ Some parameter
          → LocationIsNamed count parameter.location
      by (Some pair) same =
          subst (λ (one : Parameter). LocationIsNamed count one.location)
          (same_Some (parameter_at starts pair) parameter same)
          (location_named (home_at starts pair.1) (are pair.1))
      by None same = absurd (none-some parameter same)

module _ (typed : TypedModule) where
  number_below : (wanted : GlobalItem → Bool)
      → IfSome (external_number typed wanted) (λ number. number < length (externals_of typed))
  number_below wanted =
      subst (λ (names : ℕ). IfSome (external_number typed wanted) (λ number. number < names))
      (omega arith) (index_from typed wanted 0 typed.globals)

  home_named :
      (storage : Storage) (before : List Home) (number : ℕ) (home : TypedHome)
      → HomesAreNamed (length (externals_of typed)) before
      → HomeIsNamed (length (externals_of typed)) (home_of_object typed storage before number home)
  home_named storage before number (InData values) are =
      slot_named (length (externals_of typed)) (slice_index_or storage.objects number None)
  home_named storage before number (InConstants values) are =
      slot_named (length (externals_of typed)) (slice_index_or storage.objects number None)
  home_named storage before number (Placed (AtNumber address)) are = tt
  home_named storage before number (Placed (AtObject object offset)) are =
      home_after_named (length (externals_of typed)) (home_at before object) offset (are object)
  home_named storage before number (BasedOn base) are = location_named (length (externals_of typed)) (home_at before base) (are base)
  home_named storage before number Elsewhere are =
      external_named (length (externals_of typed)) (external_number typed (is_global_object number))
      (number_below (is_global_object number))
  home_named storage before number Nowhere are = tt
  home_named storage before number (InFrame procedure) are = tt

  all_homes_named :
      (storage : Storage) (before : List Home) (objects : List TypedObject)
      → HomesAreNamed (length (externals_of typed)) before
      → HomesAreNamed (length (externals_of typed)) (homes_from typed storage before objects)
  all_homes_named storage before [] are = are
  all_homes_named storage before (object ∷ others) are =
      all_homes_named storage (before ++ home_of_object typed storage before (length before) object.home ∷ []) others
      (home_grown (length (externals_of typed)) before (home_of_object typed storage before (length before) object.home) are
      (home_named storage before (length before) object.home are))

  homes_named : (storage : Storage) → HomesAreNamed (length (externals_of typed)) (homes_of typed storage)
  unfolding homes_of
  homes_named storage = all_homes_named storage [] typed.objects (λ object. tt)

module _ (nodes : Nodes) (count : ℕ) (starts : HomesAreNamed count nodes.homes) (rises : NumbersRise nodes)
    (keeps : KeepTraits nodes)
  where
    form_named : (bound : ℕ) (scalar : ScalarType) (form : ExpressionForm)
        → ((part : ExpressionNumber) → part.index < bound → IfSome (known_at nodes part) (PlaceIsNamed count))
        → PartsAreBelow nodes bound form
        → IfSome (known_of nodes scalar form) (PlaceIsNamed count)
    form_named bound scalar (forms.Number number) known parts = tt
    form_named bound scalar (forms.Location reference) known parts =
        part_named count (home_at nodes.homes reference.object) reference.offset
        (distance_of nodes reference.subscript) (distance_of nodes reference.member_subscript)
        (starts reference.object)
    form_named bound scalar (forms.List offset) known parts = tt
    form_named bound scalar (forms.Conversion inner) known parts =
        converted_named count scalar (known_at nodes inner) (known inner parts)
    form_named bound scalar (forms.Unary operator operand) known parts =
        mapped_named count (result_of_one scalar operator) (number_at nodes operand)
    form_named bound scalar (forms.Binary operands operator left right) known parts =
        both_named count operands operator (known_at nodes left) (known_at nodes right)
        (known left parts.0) (known right parts.1)
    form_named bound scalar (forms.Function function operand) known parts =
        function_named count function (known_at nodes operand) (known operand parts)
    form_named bound scalar (forms.Shift function value by) known parts =
        shift_named count (shifted scalar function) (number_at nodes value) (number_at nodes by)
    form_named bound scalar form known parts = tt

    traits_named : (expression : Expression)
        → expression.traits ≡ traits_of nodes expression.traits.scalar expression.form
        → IfSome (known_of nodes expression.traits.scalar expression.form) (PlaceIsNamed count)
        → IfSome expression.traits.known (PlaceIsNamed count)
    unfolding traits_of
    traits_named expression same is =
        subst (λ (found : Option Place). IfSome found (PlaceIsNamed count))
        (sym (ap (λ (traits : Traits). traits.known) same)) is

    known_by : (number : ExpressionNumber) (found : Option Expression)
        → slice_get nodes.expressions number.index ≡ found
        → ((part : ExpressionNumber) → part.index < number.index
        → IfSome (known_at nodes part) (PlaceIsNamed count))
        → IfSome (option_map_or (λ (one : Expression). one.traits) found no_traits).known (PlaceIsNamed count)
    known_by number None there parts = tt
    known_by number (Some expression) there parts =
        traits_named expression (keeps number.index expression there)
        (form_named number.index expression.traits.scalar expression.form parts
        (rises number.index expression there))

    known_below : (bound : ℕ) (number : ExpressionNumber) → number.index < bound
        → IfSome (known_at nodes number) (PlaceIsNamed count)
    known_below zero number low = absurd (omega (arith, low))
    known_below (suc bound) number low =
        known_by number (slice_get nodes.expressions number.index) refl
        (λ part less. known_below bound part (omega (arith, less, low)))

    known_named : (number : ExpressionNumber) → IfSome (known_at nodes number) (PlaceIsNamed count)
    known_named number = known_below (suc number.index) number (omega arith)

-- an item of a list
pub item_within : {A : Type 0} (list : List A) (index : ℕ)
    → index < length list
    → (found : A) × (slice_get list index ≡ Some found)
item_within [] index below = absurd (omega (arith, below))
item_within (first ∷ others) zero below = (first, refl)
item_within (first ∷ others) (suc index) below = item_within others index (omega (arith, below))

module _ (typed : TypedModule) (storage : Storage) (tree : TreeModule) (lists : ListsGlobals typed)
    (lowered : IsLowered typed storage tree)
  where
    starts : HomesAreNamed (length (externals_of typed)) tree.homes.items
    starts = subst (HomesAreNamed (length (externals_of typed))) (sym lowered.homes) (homes_named typed storage)

    -- the heading of a procedure
    heading_of : (number : ℕ) (procedure : TreeProcedure)
        → slice_get tree.procedures.items number ≡ Some procedure
        → (heading : TypedProcedure) × (slice_get typed.procedures number ≡ Some heading)
        × IsProcedure typed (nodes_of tree) storage number procedure heading
    heading_of number procedure there =
        let as_many : length tree.procedures.items ≡ length typed.procedures = lowered.procedure_count in
        let within : number < length tree.procedures.items =
        slice_get_within tree.procedures.items number procedure there in
        let heading = item_within typed.procedures number (omega (arith, as_many, within)) in
        (heading.0, heading.1, lowered.procedures number procedure heading.0 there heading.1)

    names_below : NamesBelow (length (externals_of typed)) tree
    names_below = record {
      homes = starts;
      known = known_named (nodes_of tree) (length (externals_of typed)) starts lowered.order lowered.traits;
      kinds = λ number procedure there.
          let found = heading_of number procedure there in
          subst (KindIsNamed (length (externals_of typed))) (sym found.2.kind)
          (kind_named (length (externals_of typed)) (external_number typed (is_global_procedure number))
          found.0.visibility found.0.is_reentrant (number_below typed (is_global_procedure number))
          (external_found typed number found.0 lists found.1));
      parameters = λ number procedure there.
          let found = heading_of number procedure there in
          subst (ParametersAreNamed (length (externals_of typed))) (sym found.2.has_body.parameters)
          (parameters_named (length (externals_of typed)) tree.homes.items found.0 starts);
      constants =
          subst (AreNamed (length (externals_of typed))) (sym lowered.constants)
          (all_constants_named (length (externals_of typed)) typed tree.homes.items starts);
      variables =
          subst (AreNamed (length (externals_of typed))) (sym lowered.variables)
          (all_variables_named (length (externals_of typed)) typed tree.homes.items starts);
    }

    -- tree code of a module names its own
    pub names_its_own : NamesItsOwn tree
    names_its_own = subst (λ (count : ℕ). NamesBelow count tree) (sym (ap length lowered.externals)) names_below
