-- A typing of an expression by the rules is the one that the typing gives. So there is at most one.
use Rattle.typing_rules.proofs.Prelude.{◌≡◌, ◌∙◌, ℕ, true, Option, Some, Ok, Err, not, refl, sym, ap, subst, le-leb, eq-eqb, Identifier, Place, ConstantTree, ExpressionTree, ReferenceLeaf, ReferenceTree, ReferenceTo, MemberTree, NoMember, ArgumentTrees, NoArguments, MoreArguments, Binding, Declared, Object, FoundMember, Measure, ShiftFunction, ScalarType, member_named, TypedExpression, TypedReference, PartOf, Subscript, TypedArguments, NoTyped, MoreTyped, TypedObject, Constants, MemberMismatch, UnknownName, Checked, ◌>>=◌, found, number_of_characters, number_of_constant, expression, given_reference, arguments, Measured, measured_object, measure_of, number_of_variable, shift_function, built_in_value, Destination, Known, GivenReference, Extent, AnElement, AlsoTheWhole, number_of_arguments, takes_subscripts, subscript_of, members_of, FoundPart, whole_part, part_of, port_of, port_of_character, destination_of, IsNumber, digits, one_character, two_characters, IsPort, port_number, port_character, StandsFor, named_shift, named_measure, IsMember, IsMeasured, a_variable, a_member, IsMeasure, a_length, a_last, a_size, ExpressionTyping, constant, scalar_value, typed_call, input, function_call, shift_call, measure_call, location, constant_list, parenthesized, embedded_assignment, unary, binary, ValuesTyping, no_values, next_value, SubscriptTyping, no_array, element, whole_array, PartTyping, has_no_member, has_member, TargetTyping, scalar_target, output}
use Rattle.typed_trees.specs.declared.parts.Measure.TheVariants as measures
use Rattle.typed_trees.specs.declared.parts.ShiftFunction.TheVariants as shifts
use Rattle.typing_rules.proofs.Judged.{then_ok, passed, got}
use Rattle.typing_rules.proofs.ReferencesJudged.{given_name}
use Rattle.typing.specs.Blocks.{Progress}
use Rattle.typing.specs.Statements.{with_constants}
use Rattle.typing.specs.internal.StatementChecks.{value}

-- constants and ports
pub number_is : {leaf : ConstantTree} {number : ℕ} → IsNumber leaf number
    → number_of_constant leaf ≡ Ok number
number_is digits = refl
number_is (one_character is) = got _ _ (ap number_of_characters is)
number_is (two_characters is) = got _ _ (ap number_of_characters is)

pub port_is : {trees : ArgumentTrees} {port : ℕ} → IsPort trees port → (place : Place)
    → port_of place trees ≡ Ok port
port_is (port_number fits) place = then_ok _ (passed _ _ (le-leb _ _ fits)) refl
port_is (port_character {character = character} is fits) place =
    subst (λ characters. port_of_character place characters ≡ Ok character) (sym is)
    (then_ok _ (passed _ _ (le-leb _ _ fits)) refl)

-- built-in functions
pub shift_is : (known : Known) (given : GivenReference) (before : Constants)
    {result : Checked (TypedExpression × Constants)}
    (function : ShiftFunction)
    → shift_function function given before ≡ result
    → built_in_value known (named_shift function) given before ≡ result
shift_is known given before shifts.ShiftLeft e = e
shift_is known given before shifts.ShiftRight e = e
shift_is known given before shifts.RotateLeft e = e
shift_is known given before shifts.RotateRight e = e

pub measure_function_is : (known : Known) (given : GivenReference) (before : Constants)
    {result : Checked (TypedExpression × Constants)} (measure : Measure)
    → number_of_variable known measure given before ≡ result
    → built_in_value known (named_measure measure) given before ≡ result
measure_function_is known given before measures.Length e = e
measure_function_is known given before measures.Last e = e
measure_function_is known given before measures.Size e = e

pub then_member_ok : {B : Type 0} {object : TypedObject} {name : Identifier} {place : FoundMember}
    {result : Checked B}
    (next : FoundMember → Checked B)
    → IsMember object name place
    → next place ≡ result
    → (found (members_of object.object_type) MemberMismatch name.place
    >>= λ members. found (member_named members name.name) UnknownName name.place >>= next) ≡ result
then_member_ok next is e = then_ok _ (got _ _ (ap members_of is.structure)) (then_ok _ (got _ _ is.there) e)

pub measured_is : {known : Known} {name : Identifier} {part : MemberTree} {measured : Measured}
    → IsMeasured known name part measured
    → (binding : Binding) × StandsFor known name binding
    × (measured_object known binding name part ≡ Ok measured)
measured_is (a_variable {number = number} is) =
    (Declared (Object number), is.named, then_ok _ (got _ _ is.listed) refl)
measured_is (a_member {number = number} is there) =
    (Declared (Object number), is.named, then_ok _ (got _ _ is.listed) (then_member_ok _ there refl))

pub measure_is : {measured : Measured} {measure : Measure} {number : ℕ}
    → IsMeasure measured measure number
    → (place : Place)
    → measure_of measure measured place ≡ Ok number
measure_is (a_length some) place = got _ _ some
measure_is (a_last some) place = then_ok _ (got _ _ some) refl
measure_is a_size place = refl

pub one_fits : (extent : Extent) (count : ℕ) → takes_subscripts extent (Some count) 1 ≡ true
one_fits AnElement count = refl
one_fits AlsoTheWhole count = refl

-- parts by their subscripts
part_is_whole : (number : ℕ) (object : TypedObject) (after : Constants) {one other : Subscript}
    → one ≡ other
    → ◌≡◌ {A = Checked (FoundPart × Constants)} (Ok (whole_part number one object.object_type, after))
    (Ok (whole_part number other object.object_type, after))
part_is_whole number object after is = ap (λ it. Ok (whole_part number it object.object_type, after)) is

abbrev member_part : ℕ → FoundMember → Subscript → Subscript → FoundPart
member_part number place subscript its_subscript = record {
  reference = PartOf number subscript (Some place.position) place.offset its_subscript;
  scalar = Some place.member.scalar;
}

part_is_member : (number : ℕ) (place : FoundMember) (after : Constants) {one other its its_other : Subscript}
    → one ≡ other
    → its ≡ its_other
    → ◌≡◌ {A = Checked (FoundPart × Constants)} (Ok (member_part number place one its, after))
    (Ok (member_part number place other its_other, after))
part_is_member number place after {one = one} {its_other = its_other} is also =
    ap (λ it. Ok (member_part number place one it, after)) also
    ∙ ap (λ it. Ok (member_part number place it its_other, after)) is

mutual
  pub typing_is : {known : Known} {before : Constants} {tree : ExpressionTree}
      {typed : TypedExpression} {after : Constants}
      → ExpressionTyping known before tree typed after
      → expression known tree before ≡ Ok (typed, after)
  typing_is (constant is) = then_ok _ (then_ok _ (number_is is) refl) refl
  typing_is (scalar_value {name = name} is part) =
      then_ok _ (got _ _ is.named)
      (then_ok _ (got _ _ is.listed) (then_ok _ (then_ok _ (part_is part name) refl) refl))
  typing_is (typed_call is typed count values) =
      then_ok _ (got _ _ is.named) (then_ok _ (got _ _ is.listed) (then_ok _ (got _ _ typed)
      (then_ok _ (then_ok _ (passed _ _ (eq-eqb _ _ count)) (then_ok _ (values_is values) refl)) refl)))
  typing_is (input named is) = then_ok _ (got _ _ named) (then_ok _ (port_is is _) refl)
  typing_is (function_call named one) =
      then_ok _ (got _ _ named) (then_ok _ (then_ok _ (typing_is one) refl) refl)
  typing_is {known = known}
      (shift_call {before = before} {name = name} {value = value} {count = count}
      {function = function} named one
      other) =
      then_ok _ (got _ _ named) (shift_is known
      (given_name known name (MoreArguments value (MoreArguments count NoArguments)) NoMember) before function
      (then_ok _ (then_ok _ (typing_is one) (then_ok _ (then_ok _ (typing_is other) refl) refl)) refl))
  typing_is {known = known}
      (measure_call {constants = before} {name = name} {variable = variable} {part = part}
      {measure = measure} named
      measured counts) =
      let m = measured_is measured in
      then_ok _ (got _ _ named) (measure_function_is known
      (given_name known name (MoreArguments (ReferenceLeaf (ReferenceTo variable NoArguments part))
      NoArguments) NoMember) before measure
      (then_ok _ (then_ok _ (got _ _ m.1) (then_ok _ m.2 (then_ok _ (measure_is counts _) refl))) refl))
  typing_is (location {name = name} is has part) =
      then_ok _ (got _ _ is.named)
      (then_ok _ (got _ _ is.listed) (then_ok _ (passed _ _ has) (then_ok _ (part_is part name) refl)))
  typing_is constant_list = refl
  typing_is (parenthesized is) = typing_is is
  typing_is (embedded_assignment target value) =
      then_ok _ (target_is target) (then_ok _ (typing_is value) refl)
  typing_is (unary is) = then_ok _ (typing_is is) refl
  typing_is (binary one other) = then_ok _ (typing_is one) (then_ok _ (typing_is other) refl)

  pub values_is : {known : Known} {before : Constants} {trees : ArgumentTrees}
      {typed : TypedArguments} {after : Constants}
      → ValuesTyping known before trees typed after
      → arguments known trees before ≡ Ok (typed, after)
  values_is no_values = refl
  values_is (next_value one others) = then_ok _ (typing_is one) (then_ok _ (values_is others) refl)

  pub subscript_is : {known : Known} {extent : Extent} {dimension : Option ℕ} {size : ℕ} {before : Constants}
      {trees : ArgumentTrees} {subscript : Subscript} {after : Constants}
      → SubscriptTyping known extent dimension size before trees subscript after
      → (fits : takes_subscripts extent dimension (number_of_arguments trees) ≡ true)
      × (typed : TypedArguments)
      × (arguments known trees before ≡ Ok (typed, after)) × (subscript_of size dimension typed ≡ subscript)
  subscript_is no_array = (refl, NoTyped, refl, refl)
  subscript_is (element {extent = extent} {count = count} {typed = typed} one) =
      (one_fits extent count, MoreTyped typed NoTyped, then_ok _ (typing_is one) refl, refl)
  subscript_is whole_array = (refl, NoTyped, refl, refl)

  pub part_is : {known : Known} {extent : Extent} {number : ℕ} {object : TypedObject} {before : Constants}
      {trees : ArgumentTrees} {part : MemberTree} {reference : TypedReference}
      {scalar : Option ScalarType} {after : Constants}
      → PartTyping known extent number object before trees part reference scalar after
      → (name : Identifier)
      → part_of number object extent (given_name known name trees part) before
      ≡ Ok (record { reference = reference; scalar = scalar }, after)
  part_is (has_no_member {number = number} {object = object} {after = after} is) name =
      let s = subscript_is is in
      then_ok _ (passed _ _ s.0) (then_ok _ s.2 (part_is_whole number object after s.3))
  part_is (has_member {number = number} {after = after} {place = place} is there its) name =
      let s = subscript_is is in
      let t = subscript_is its in
      then_ok _ (passed _ _ s.0) (then_ok _ s.2 (then_member_ok _ there
      (then_ok _ (passed _ _ t.0) (then_ok _ t.2 (part_is_member number place after s.3 t.3)))))

  pub target_is : {known : Known} {before : Constants} {reference : ReferenceTree}
      {destination : Destination} {after : Constants}
      → TargetTyping known before reference destination after
      → destination_of known (given_reference known reference) before ≡ Ok (destination, after)
  target_is (scalar_target {name = name} is plain part) =
      then_ok _ (got _ _ is.named) (then_ok _ (got _ _ is.listed) (then_ok _ (passed _ _ (ap not plain))
      (then_ok _ (then_ok _ (part_is part name) refl) refl)))
  target_is (output named is) = then_ok _ (got _ _ named) (then_ok _ (port_is is _) refl)

-- what a check gives, or something else
abbrev given_or : {A : Type 0} → A → Checked A → A
given_or default (Ok a) = a
given_or default (Err fault) = default

-- an expression has one typing at most
pub one_typing : {known : Known} {before : Constants} {tree : ExpressionTree} {one other : TypedExpression}
    {after later : Constants}
    → ExpressionTyping known before tree one after
    → ExpressionTyping known before tree other later
    → (one ≡ other) × (after ≡ later)
one_typing {one = one} {after = after} first second =
    let same = sym (typing_is first) ∙ typing_is second in
    (ap (λ it. (given_or {A = TypedExpression × Constants} (one, after) it).0) same, ap (λ it. (given_or {A = TypedExpression × Constants} (one, after) it).1) same)

-- in a statement
pub value_is : {tree : ExpressionTree} {typed : TypedExpression} {after : Constants} (progress : Progress)
    → ExpressionTyping progress.known progress.constants tree typed after
    → value tree progress ≡ Ok (typed, with_constants after progress)
value_is progress is = then_ok _ (typing_is is) refl
