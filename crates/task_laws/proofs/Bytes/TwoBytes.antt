-- The low byte of sums, differences, AND, OR and XOR of two values that are not numbers.
use Rattle.task_laws.proofs.Prelude.{◌≡◌, ℕ, ◌+◌, ◌-◌, ◌*◌, ◌%◌, ◌<◌, Bool, true, false, ◌&&◌, List, [], ◌∷◌, ◌++◌, Option, Some, None, option_map, max, bit_and, bit_or, bit_xor, refl, sym, ◌∙◌, subst, arith, if◌then◌else◌, and_parts, false≢true, or_of_8, or_of_16, xor_of_8, xor_of_16, and_comm, and_le_l, and_mod, or_comm, or_mod, xor_comm, xor_mod, ScalarType, height_of, type_of, TypedExpression, TypesHold, SourceState, Gave, values_of, Operation, Add, AddWithCarry, Subtract, SubtractWithBorrow, And, ExclusiveOr, Or, Compare, Flags, operate, Registers, ExpressionNumber, Reference, IsExpression, Facts, Plain, copy, with_register, part, Pop, Push, A, B, Psw, StackBc, Arrives, Does, at_place, Site, is_free, may_exchange, is_byte_in_register, operand_in_memory, in_order, ByteForm, RightInMemory, LeftInMemory, LeftFree, RightFree, Pushed, Operands, commutes, form_after_right, form_from_register, form_of, form_with_left, form_without_memory, in_form_steps, with_e_steps, with_memory_steps, with_stack_steps, knowing, Context, IsSound, nodes_in, StepsStand, ByteIsGiven, Carries, Nothing, PartDoes}
use Rattle.trees.specs.declared.declaration.ScalarType.TheVariants as scalars
use Rattle.steps8080.specs.declared.step.Task.TheVariants as tasks
use Rattle.task_laws.proofs.Bytes.BytesAsked.{BytesAsked}
use Rattle.task_laws.proofs.Bytes.ByteForms.{byte_given}
use Rattle.task_laws.proofs.Bytes.ByteOperations.{IsOperated, IsValueOf, operand_at, operated_with_e, operated_with_first_in_b, operated_with_memory, operated_with_second_in_b}
use Rattle.task_laws.proofs.Machine.SiteNodes.{does_exchanged, free_is, value_in}
use Rattle.task_laws.proofs.Machine.Stages.{Stage, does_same, loaded_in}

-- the operations of operators
abbrev pub IsSimple : Operation → Type 0
IsSimple Add = Unit {0}
IsSimple Subtract = Unit {0}
IsSimple And = Unit {0}
IsSimple Or = Unit {0}
IsSimple ExclusiveOr = Unit {0}
IsSimple operation = ⊥

-- their results for values of a type
abbrev pub result_by : Operation → ScalarType → (v w : ℕ) → ℕ
result_by Add operands v w = (v + w) % values_of operands
result_by Subtract operands v w = (v + (values_of operands - w)) % values_of operands
result_by And operands v w = bit_and v w
result_by Or operands v w = bit_or v w
result_by ExclusiveOr operands v w = bit_xor v w
result_by operation operands v w = 0

pub result_small :
    (operation : Operation) (operands : ScalarType) (v w : ℕ)
    → v < values_of operands → w < values_of operands
    → result_by operation operands v w < values_of operands
result_small Add scalars.Byte v w one two = omega arith
result_small Add scalars.Address v w one two = omega arith
result_small Subtract scalars.Byte v w one two = omega arith
result_small Subtract scalars.Address v w one two = omega arith
result_small And operands v w one two = let less = and_le_l v w in omega (arith, less, one)
result_small Or scalars.Byte v w one two = or_of_8 v w one two
result_small Or scalars.Address v w one two = or_of_16 v w one two
result_small ExclusiveOr scalars.Byte v w one two = xor_of_8 v w one two
result_small ExclusiveOr scalars.Address v w one two = xor_of_16 v w one two
result_small AddWithCarry scalars.Byte v w one two = omega arith
result_small AddWithCarry scalars.Address v w one two = omega arith
result_small SubtractWithBorrow scalars.Byte v w one two = omega arith
result_small SubtractWithBorrow scalars.Address v w one two = omega arith
result_small Compare scalars.Byte v w one two = omega arith
result_small Compare scalars.Address v w one two = omega arith

-- the low bytes give the low byte
pub low_result :
    (operation : Operation) (operands : ScalarType) (v w : ℕ) (f : Flags)
    → IsSimple operation
    → w < values_of operands
    → (operate operation (v % 256) (w % 256) f).value ≡ result_by operation operands v w % 256
low_result Add scalars.Byte v w f is small = omega arith
low_result Add scalars.Address v w f is small = omega arith
low_result Subtract scalars.Byte v w f is small = omega (arith, small)
low_result Subtract scalars.Address v w f is small = omega (arith, small)
low_result And operands v w f is small = sym (and_mod v w 8)
low_result Or operands v w f is small = sym (or_mod v w 8)
low_result ExclusiveOr operands v w f is small = sym (xor_mod v w 8)
low_result AddWithCarry operands v w f is small = absurd is
low_result SubtractWithBorrow operands v w f is small = absurd is
low_result Compare operands v w f is small = absurd is

either_way :
    (operation : Operation) (x y : ℕ) (f : Flags)
    → commutes operation ≡ true
    → (operate operation x y f).value ≡ (operate operation y x f).value
unfolding commutes
either_way Add x y f is = omega arith
either_way And x y f is = and_comm x y
either_way ExclusiveOr x y f is = xor_comm x y
either_way Or x y f is = or_comm x y
either_way Subtract x y f is = absurd (false≢true is)
either_way AddWithCarry x y f is = absurd (false≢true is)
either_way SubtractWithBorrow x y f is = absurd (false≢true is)
either_way Compare x y f is = absurd (false≢true is)

-- the forms in which operands are brought to an operation
data IsFormOf (site : Site) (operation : Operation) (left right : ExpressionNumber) : ByteForm → Type 0 where
  IsRightInMemory : {reference : Reference} → operand_in_memory site right ≡ Some reference
      → IsFormOf site operation left right (RightInMemory reference)
  IsLeftInMemory : {reference : Reference} → commutes operation ≡ true → may_exchange site left right ≡ true
      → operand_in_memory site left ≡ Some reference
      → IsFormOf site operation left right (LeftInMemory reference)
  IsLeftFree : may_exchange site left right ≡ true → is_free site left ≡ true
      → IsFormOf site operation left right LeftFree
  IsRightFree : commutes operation ≡ true → is_free site right ≡ true
      → IsFormOf site operation left right RightFree
  IsPushed : IsFormOf site operation left right Pushed

abbrev Fits : Site → Operation → (left right : ExpressionNumber) → Option ByteForm → Type 0
Fits site operation left right None = Unit {0}
Fits site operation left right (Some form) = IsFormOf site operation left right form

abbrev pub of_both : (left right : ExpressionNumber) → Operands
of_both left right = record { left = left; right = right }

after_right_fits :
    (site : Site) (operation : Operation) (left right : ExpressionNumber)
    → may_exchange site left right ≡ true
    → Fits site operation left right (form_after_right site operation (of_both left right))
unfolding form_after_right
after_right_fits site operation left right may =
    by (commutes operation) refl (operand_in_memory site left) refl (is_free site left) refl
  where
    by : (either : Bool) → commutes operation ≡ either
        → (found : Option Reference) → operand_in_memory site left ≡ found
        → (free : Bool) → is_free site left ≡ free
        → Fits site operation left right
        (if either then option_map LeftInMemory found else if free then Some LeftFree else None)
    by true one None two free three = tt
    by true one (Some reference) two free three = IsLeftInMemory one may two
    by false one found two true three = IsLeftFree may three
    by false one found two false three = tt

from_register_fits :
    (site : Site) (operation : Operation) (left right : ExpressionNumber)
    → Fits site operation left right (form_from_register site operation (of_both left right))
unfolding form_from_register
from_register_fits site operation left right =
    by (is_byte_in_register site right && may_exchange site left right) refl
  where
    by : (both : Bool) → (is_byte_in_register site right && may_exchange site left right) ≡ both
        → Fits site operation left right
        (if both then form_after_right site operation (of_both left right) else None)
    by false is = tt
    by true is =
        after_right_fits site operation left right
        (and_parts (is_byte_in_register site right) (may_exchange site left right) is).1

without_memory_fits :
    (site : Site) (operation : Operation) (left right : ExpressionNumber)
    → IsFormOf site operation left right (form_without_memory site operation (of_both left right))
unfolding form_without_memory
without_memory_fits site operation left right =
    by (may_exchange site left right && is_free site left) refl
    (commutes operation && is_free site right) refl
  where
    by : (one : Bool) → (may_exchange site left right && is_free site left) ≡ one
        → (other : Bool) → (commutes operation && is_free site right) ≡ other
        → IsFormOf site operation left right (if one then LeftFree else if other then RightFree else Pushed)
    by true is other two =
        let parts = and_parts (may_exchange site left right) (is_free site left) is in
        IsLeftFree parts.0 parts.1
    by false is true two =
        let parts = and_parts (commutes operation) (is_free site right) two in IsRightFree parts.0 parts.1
    by false is false two = IsPushed

with_left_fits :
    (site : Site) (operation : Operation) (left right : ExpressionNumber)
    → IsFormOf site operation left right (form_with_left site operation (of_both left right))
unfolding form_with_left
with_left_fits site operation left right =
    by (may_exchange site left right && commutes operation) refl (operand_in_memory site left) refl
  where
    by : (both : Bool) → (may_exchange site left right && commutes operation) ≡ both
        → (found : Option Reference) → operand_in_memory site left ≡ found
        → IsFormOf site operation left right
        (if both
        then elim found [
          | Some reference ↦ LeftInMemory reference
          | None ↦ form_without_memory site operation (of_both left right)
        ]
        else form_without_memory site operation (of_both left right))
    by true is (Some reference) two =
        let parts = and_parts (may_exchange site left right) (commutes operation) is in
        IsLeftInMemory parts.1 parts.0 two
    by true is None two = without_memory_fits site operation left right
    by false is found two = without_memory_fits site operation left right

form_fits :
    (site : Site) (operation : Operation) (left right : ExpressionNumber)
    → IsFormOf site operation left right (form_of site operation (of_both left right))
unfolding form_of
form_fits site operation left right =
    by (form_from_register site operation (of_both left right)) (from_register_fits site operation left right)
    (operand_in_memory site right) refl
  where
    by : (first : Option ByteForm) → Fits site operation left right first
        → (found : Option Reference) → operand_in_memory site right ≡ found
        → IsFormOf site operation left right
        (elim first [
          | Some form ↦ form
          | None ↦ elim found [
            | Some reference ↦ RightInMemory reference
            | None ↦ form_with_left site operation (of_both left right)
          ]
        ])
    by (Some form) fits found is = fits
    by None fits (Some reference) is = IsRightInMemory is
    by None fits None is = with_left_fits site operation left right

module _
    (context : Context) (facts last : Facts) (from to pushed bound : ℕ) (number left right : ExpressionNumber)
    (operands : ScalarType) (first second : TypedExpression) (operation : Operation) (tree : TypedExpression)
    (asked : BytesAsked context) (sound : IsSound context)
    (one : IsExpression (nodes_in context) context.storage bound left.index first)
    (types : TypesHold context.typed context.within first)
    (is_type : type_of first ≡ operands)
    (two : IsExpression (nodes_in context) context.storage bound right.index second)
    (other_types : TypesHold context.typed context.within second)
    (other_is_type : type_of second ≡ operands)
    (simple : IsSimple operation)
    (whole : height_of tree ≡ 1 + max (height_of first) (height_of second))
    (tree_type : type_of tree ≡ operands)
    (means : (t : SourceState) → value_in context tree t
    ≡ in_order (value_in context first) (value_in context second)
    (λ v w u. Gave (result_by operation operands v w) u) t)
    (not_free : is_free context.site number ≡ false) where
  -- the end, where A has the low byte
  operated_end :
      {top need : ℕ} {base : List ℕ} {u : SourceState} {r now : Registers}
      {memory memory_now : List ℕ} (v w : ℕ)
      → IsValueOf context first left v
      → IsValueOf context second right w
      → now.a ≡ result_by operation operands v w % 256
      → Stage context top pushed need base u last now memory_now
      → Does (loaded_in context) u.budget 0 (at_place to now memory_now u.events)
      (Gave (result_by operation operands v w) u)
      (Arrives context.activation top base to (ByteIsGiven context last number (type_of tree) r memory))
  operated_end v w value other_value a stage =
      byte_given to number (result_by operation operands v w) a
      (subst (λ scalar. result_by operation operands v w < values_of scalar) (sym tree_type)
      (result_small operation operands v w (subst (λ scalar. v < values_of scalar) is_type value.small)
      (subst (λ scalar. w < values_of scalar) other_is_type other_value.small)))
      (λ free. absurd (false≢true (sym not_free ∙ free))) stage

  straight : (v w : ℕ) (now : Registers) → IsValueOf context second right w → IsOperated operation v w now
      → now.a ≡ result_by operation operands v w % 256
  straight v w now other_value is =
      is.a ∙ low_result operation operands v w is.before simple
      (subst (λ scalar. w < values_of scalar) other_is_type other_value.small)

  turned : (v w : ℕ) (now : Registers) → commutes operation ≡ true → IsValueOf context second right w
      → IsOperated operation w v now
      → now.a ≡ result_by operation operands v w % 256
  turned v w now either other_value is =
      is.a ∙ either_way operation (w % 256) (v % 256) is.before either
      ∙ low_result operation operands v w is.before simple
      (subst (λ scalar. w < values_of scalar) other_is_type other_value.small)

  -- an operation with two operands in a form
  in_form :
      (form : ByteForm)
      → IsFormOf (knowing context.site facts) operation left right form
      → StepsStand context (PartDoes context) facts from
      (in_form_steps form operation (of_both left right) pushed) last to
      → Carries context facts pushed (2 * height_of tree) 0 from to Nothing (value_in context tree)
      (ByteIsGiven context last number (type_of tree))
  unfolding in_form_steps with_memory_steps with_e_steps with_stack_steps
  in_form _ (IsRightInMemory {reference = reference} there) stand top base s r memory below room
      ready known nothing =
      does_same _ (means s)
      (operated_with_memory facts (λ v w u. Gave (result_by operation operands v w) u) asked sound one
      types two other_types
      (operand_at facts right reference there) stand (omega (arith, whole)) (omega (arith, whole))
      (record { below = below; room = room; ready = ready; known = known })
      (λ v w u now memory_now value other_value is final. operated_end v w value other_value
      (straight v w now other_value is) final))
  in_form _ (IsLeftInMemory {reference = reference} either may there) stand top base s r memory below room
      ready known nothing =
      does_same _ (means s)
      (does_exchanged facts (λ v w u. Gave (result_by operation operands v w) u) s sound one two types may
      (operated_with_memory facts (λ w v u. Gave (result_by operation operands v w) u) asked sound two
      other_types one types
      (operand_at facts left reference there) stand (omega (arith, whole)) (omega (arith, whole))
      (record { below = below; room = room; ready = ready; known = known })
      (λ w v u now memory_now other_value value is final. operated_end v w value other_value
      (turned v w now either other_value is) final)))
  in_form _ (IsLeftFree may free) stand top base s r memory below room ready known nothing =
      does_same _ (means s)
      (does_exchanged facts (λ v w u. Gave (result_by operation operands v w) u) s sound one two types may
      (operated_with_e (λ v w u. Gave (result_by operation operands v w) u) asked sound one
      types two other_types
      (free_is context.site left ∙ sym (free_is (knowing context.site facts) left) ∙ free) stand
      (omega (arith, whole)) (omega (arith, whole))
      (record { below = below; room = room; ready = ready; known = known })
      (λ v w u now memory_now value other_value is final. operated_end v w value other_value
      (straight v w now other_value is) final)))
  in_form _ (IsRightFree either free) stand top base s r memory below room ready known nothing =
      does_same _ (means s)
      (operated_with_e (λ w v u. Gave (result_by operation operands v w) u) asked sound two
      other_types one types
      (free_is context.site right ∙ sym (free_is (knowing context.site facts) right) ∙ free) stand
      (omega (arith, whole)) (omega (arith, whole))
      (record { below = below; room = room; ready = ready; known = known })
      (λ w v u now memory_now other_value value is final. operated_end v w value other_value
      (turned v w now either other_value is) final))
  in_form _ IsPushed stand top base s r memory below room ready known nothing =
      does_same _ (means s) (by (commutes operation) refl stand)
    where
      stage : Stage context top pushed (2 * height_of tree) base s facts r memory
      stage = record { below = below; room = room; ready = ready; known = known }

      by : (either : Bool) → commutes operation ≡ either
          → StepsStand context (PartDoes context) facts from
          (part (tasks.Byte left) pushed ∷ Plain (Push Psw) ∷ part (tasks.Byte right) ((pushed + 2) % 65536)
          ∷ (if either then Plain (Pop StackBc) ∷ [] else Plain (copy B A) ∷ Plain (Pop Psw) ∷ [])
          ++ (Plain (with_register operation B) ∷ [])) last to
          → Does (loaded_in context) s.budget 0 (at_place from r memory s.events)
          (in_order (value_in context first) (value_in context second)
          (λ v w u. Gave (result_by operation operands v w) u) s)
          (Arrives context.activation top base to (ByteIsGiven context last number (type_of tree) r memory))
      by true either stands =
          operated_with_first_in_b (λ v w u. Gave (result_by operation operands v w) u) asked sound one
          types two other_types
          stands (omega (arith, whole)) (omega (arith, whole)) stage
          (λ w v u now memory_now other_value value is final. operated_end v w value other_value
          (turned v w now either other_value is) final)
      by false either stands =
          operated_with_second_in_b (λ v w u. Gave (result_by operation operands v w) u) asked sound one
          types two other_types
          stands (omega (arith, whole)) (omega (arith, whole)) stage
          (λ v w u now memory_now value other_value is final. operated_end v w value other_value
          (straight v w now other_value is) final)

  -- an operation with two operands that are not numbers
  pub two_bytes :
      StepsStand context (PartDoes context) facts from
      (in_form_steps (form_of (knowing context.site facts) operation (of_both left right)) operation
      (of_both left right) pushed) last to
      → Carries context facts pushed (2 * height_of tree) 0 from to Nothing (value_in context tree)
      (ByteIsGiven context last number (type_of tree))
  two_bytes stand =
      in_form (form_of (knowing context.site facts) operation (of_both left right))
      (form_fits (knowing context.site facts) operation left right) stand
