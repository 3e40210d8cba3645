-- Operands inside others, parts of memory, and split addresses, that code finds in trees.
use Rattle.measure_laws.proofs.Prelude.{Source, TreeModule, Bool, IfSome, None, Option, Some, arith, false, if◌then◌else◌, option_and_then, option_map, refl, subst, true, ℕ, ◌%◌, ◌*◌, ◌+◌, ◌≡◌, ◌≤◌, ScalarType, height_of_reference, PartOf, TypedReference, TypesHoldInReference, IsPart, IsReference, nodes_of, inside, Expression, ExpressionForm, ExpressionNumber, Reference, form_in_memory, high_of, reference_after, word_of, high_in_memory, keeps_of_address, memory, plain_in_memory, same_low_byte, expression, high_byte_in_memory, operand_in_memory, word_in_memory, beside, indices, byte_taken}
use Rattle.trees.proofs.TakenBytes.{by_byte}
use Rattle.trees.specs.declared.declaration.ScalarType.TheVariants as scalars
use Rattle.treecode.specs.declared.expression.ExpressionForm.TheVariants as forms
use Rattle.measure_laws.specs.internal.Footprints.{Ground, HasParts, IsOperand, IsPlaced, Places}
use Rattle.measure_laws.proofs.{Footprints.Joining.{operand_from_below}, Footprints.Trees.{has_parts}}

-- a property of every value that is found holds for this one
pub of_found :
    {A : Type 0} {found : Option A} {x : A} (P : A → Type 0) → IfSome found P → found ≡ Some x → P x
of_found P holds same = subst (λ entry. IfSome entry P) same holds

-- an expression that weighs no more than another one
pub record IsInside (at : Ground) (free : ℕ) (number other : ExpressionNumber) : Type 0 where
  pub one : IsOperand at free other
  pub small : beside at.site other ≤ beside at.site number

-- a part of memory with subscripts that weigh at most as much as an expression beside 1
pub record IsInMemory (at : Ground) (free : ℕ) (number : ExpressionNumber) (reference : Reference) :
    Type 0 where
  pub place : IsPlaced at free reference
  pub small : indices at.site reference ≤ beside at.site number

inside_form :
    (at : Ground) (free : ℕ) (number : ExpressionNumber) (form : ExpressionForm)
    → IsOperand at free number → HasParts at free number form
    → IsInside at free number (inside number form)
inside_form at free number (forms.Conversion inner) is has =
    record { one = has.one; small = omega (arith, has.same) }
inside_form at free number (forms.Function function operand) is has =
    by_byte (λ one. IsInside at free number one) (byte_taken function) operand number
    (λ _. record { one = operand_from_below has.one; small = omega (arith, has.same) })
    (λ _. record { one = is; small = omega arith })
inside_form at free number form is has = record { one = is; small = omega arith }

pub same_low :
    (at : Ground) (free : ℕ) (number : ExpressionNumber)
    → IsOperand at free number
    → IsInside at free number (same_low_byte at.site number)
unfolding same_low_byte
same_low at free number is = by (expression at.site number) refl
  where
    by : (found : Option Expression) → expression at.site number ≡ found
        → IsInside at free number (elim found [ Some one ↦ inside number one.form | None ↦ number ])
    by (Some one) there = inside_form at free number one.form is (has_parts at is there)
    by None there = record { one = is; small = omega arith }

-- a part of memory further on has the same subscripts
pub placed_after :
    {tree : TreeModule} {source : Source tree} {free : ℕ} {reference : Reference} (distance : ℕ)
    → Places tree source free reference
    → Places tree source free (reference_after reference distance)
placed_after {tree = tree} {source = source} {free = free} distance is = by is.node is.types is.room
  where
    by : {bound : ℕ} {reference : Reference} {part : TypedReference}
        → IsReference (nodes_of tree) source.storage bound reference part
        → TypesHoldInReference source.typed source.within part
        → 2 * height_of_reference part ≤ free
        → Places tree source free (reference_after reference distance)
    by {bound = bound}
        (IsPart {object = object} {offset = offset} {member = member} {subscript = subscript}
        {member_subscript = member_subscript} one two) types room = record {
          bound = bound;
          part = PartOf object subscript member (offset % 65536 + distance) member_subscript;
          node = IsPart one two;
          types = types;
          room = room;
        }

word_form : (at : Ground) (free : ℕ) (number : ExpressionNumber) (form : ExpressionForm) (scalar : ScalarType)
    → HasParts at free number form
    → IfSome (word_of form scalar) (IsInMemory at free number)
word_form at free number (forms.Value reference) scalars.Address has =
    record { place = has.place; small = omega (arith, has.same) }
word_form at free number (forms.Value reference) scalars.Byte has = tt
word_form at free number form scalar has = tt

-- the word of an expression in memory
pub word_is_in_memory :
    (at : Ground) (free : ℕ) (number : ExpressionNumber)
    → IsOperand at free number
    → IfSome (word_in_memory at.site number) (IsInMemory at free number)
unfolding word_in_memory
word_is_in_memory at free number is = by (expression at.site number) refl
  where
    by : (found : Option Expression) → expression at.site number ≡ found
        → IfSome (option_and_then (λ (one : Expression). word_of one.form one.traits.scalar) found)
        (IsInMemory at free number)
    by (Some one) there = word_form at free number one.form one.traits.scalar (has_parts at is there)
    by None there = tt

-- its high byte
pub high_is_in_memory :
    (at : Ground) (free : ℕ) (number : ExpressionNumber)
    → IsOperand at free number
    → IfSome (high_byte_in_memory at.site number) (IsInMemory at free number)
unfolding high_byte_in_memory
high_is_in_memory at free number is = by (word_in_memory at.site number) (word_is_in_memory at free number is)
  where
    by : (found : Option Reference) → IfSome found (IsInMemory at free number)
        → IfSome (option_map (λ reference. reference_after reference 1) found) (IsInMemory at free number)
    by (Some reference) has = record { place = placed_after 1 has.place; small = has.small }
    by None has = tt

high_form : (at : Ground) (free : ℕ) (number : ExpressionNumber) (form : ExpressionForm) (scalar : ScalarType)
    → HasParts at free number form
    → IfSome (high_of form scalar) (IsInMemory at free number)
high_form at free number (forms.Value reference) scalars.Address has =
    record { place = placed_after 1 has.place; small = omega (arith, has.same) }
high_form at free number (forms.Value reference) scalars.Byte has = tt
high_form at free number form scalar has = tt

high_of_operand :
    (at : Ground) (free : ℕ) (number : ExpressionNumber)
    → IsOperand at free number
    → IfSome (high_in_memory at.site number) (IsInMemory at free number)
unfolding high_in_memory
high_of_operand at free number is = by (expression at.site number) refl
  where
    by : (found : Option Expression) → expression at.site number ≡ found
        → IfSome (option_and_then (λ (one : Expression). high_of one.form one.traits.scalar) found)
        (IsInMemory at free number)
    by (Some one) there = high_form at free number one.form one.traits.scalar (has_parts at is there)
    by None there = tt

-- a part of memory of an expression inside another one
pub memory_inside :
    (at : Ground) (free : ℕ) (number other : ExpressionNumber) (found : Option Reference)
    → beside at.site other ≤ beside at.site number
    → IfSome found (IsInMemory at free other)
    → IfSome found (IsInMemory at free number)
memory_inside at free number other (Some reference) small has =
    record { place = has.place; small = omega (arith, has.small, small) }
memory_inside at free number other None small has = tt

plain_form : (at : Ground) (free : ℕ) (number : ExpressionNumber) (form : ExpressionForm)
    → HasParts at free number form
    → IfSome (form_in_memory at.site form) (IsInMemory at free number)
plain_form at free number (forms.Value reference) has =
    record { place = has.place; small = omega (arith, has.same) }
plain_form at free number (forms.Function function operand) has =
    by_byte (λ found. IfSome found (IsInMemory at free number)) (byte_taken function) None
    (high_in_memory at.site operand) (λ _. tt)
    (λ _. memory_inside at free number operand (high_in_memory at.site operand) (omega (arith, has.same))
    (high_of_operand at free operand (operand_from_below has.one)))
plain_form at free number form has = tt

plain_is_in_memory :
    (at : Ground) (free : ℕ) (number : ExpressionNumber)
    → IsOperand at free number
    → IfSome (plain_in_memory at.site number) (IsInMemory at free number)
unfolding plain_in_memory
plain_is_in_memory at free number is = by (expression at.site number) refl
  where
    by : (found : Option Expression) → expression at.site number ≡ found
        → IfSome (option_and_then (λ (one : Expression). form_in_memory at.site one.form) found)
        (IsInMemory at free number)
    by (Some one) there = plain_form at free number one.form (has_parts at is there)
    by None there = tt

-- the low byte of an expression in memory
pub is_in_memory :
    (at : Ground) (free : ℕ) (number : ExpressionNumber)
    → IsOperand at free number
    → IfSome (memory at.site number) (IsInMemory at free number)
unfolding memory
is_in_memory at free number is =
    let once : IsInside at free number (same_low_byte at.site number) = same_low at free number is in
    let twice : IsInside at free (same_low_byte at.site number)
    (same_low_byte at.site (same_low_byte at.site number)) =
    same_low at free (same_low_byte at.site number) once.one in
    memory_inside at free number (same_low_byte at.site (same_low_byte at.site number))
    (plain_in_memory at.site (same_low_byte at.site (same_low_byte at.site number)))
    (omega (arith, once.small, twice.small))
    (plain_is_in_memory at free (same_low_byte at.site (same_low_byte at.site number)) twice.one)

pub operand_is_in_memory :
    (at : Ground) (free : ℕ) (number : ExpressionNumber)
    → IsOperand at free number
    → IfSome (operand_in_memory at.site number) (IsInMemory at free number)
unfolding operand_in_memory
operand_is_in_memory at free number is = by (memory at.site number) (is_in_memory at free number is)
  where
    chosen : (b : Bool) (reference : Reference) → IsInMemory at free number reference
        → IfSome (if b then Some reference else None) (IsInMemory at free number)
    chosen true reference has = has
    chosen false reference has = tt

    by : (found : Option Reference) → IfSome found (IsInMemory at free number)
        → IfSome
        (option_and_then (λ reference. if (keeps_of_address at.site reference).a then Some
        reference else None) found)
        (IsInMemory at free number)
    by (Some reference) has = chosen (keeps_of_address at.site reference).a reference has
    by None has = tt
