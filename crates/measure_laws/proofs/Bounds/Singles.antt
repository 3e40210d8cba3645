-- One target that gets a value.
use Rattle.measure_laws.proofs.Prelude.{ℕ, ◌+◌, Bool, true, false, List, [], ◌∷◌, Option, Some, None, if◌then◌else◌, refl, arith, Instr, Inx, MovToMemory, Mvi, M, Hl, A, ScalarType, Byte, Address, TypedReference, TypedTarget, SentTo, StoredIn, weight_of_reference, weight_of_storing, ExpressionNumber, Reference, Target, Sent, Stored, IsReference, IsSent, IsStored, IsTarget, nodes_of, high, low, Site, location_of, number, Planned, count_of, from_byte_steps, from_type, from_word_steps, is_address_first, number_steps, other_byte_steps, other_word_steps, single_steps, is_near, part, plain, bytes_for, BodyGround, AimHolds, TypesHoldInReference, IfSome, BinaryOperator, Expression, ExpressionForm, Binary, expression, count_by, count_of_form, is_one, is_value_of, keeps_stack, PlanFootprint, height_of_target, height_of_reference, ◌*◌, ◌≤◌, ◌≡◌, ◌&&◌}
use Rattle.steps8080.specs.declared.step.Task.TheVariants as tasks
use Rattle.statements8080.specs.internal.Assignments.{byte_steps, word_steps}
use Rattle.measure_laws.proofs.{Bounds.ExpressionParts.{weight_beside}, Bounds.Fitting.{either_fit, finding_fits, less_fits, then_fit}, Bounds.Planning.{address_fits, plain_fits, plains_fit, store_fits}}
use Rattle.trees.specs.declared.expression.BinaryOperator.TheVariants.{Add, Subtract}

-- INR M and DCR M keep the stack pointer
counted_keeps :
    (site : Site) (reference : Reference) (value : ExpressionNumber)
    → IfSome (count_of site reference value) (λ (i : Instr). keeps_stack i ≡ true)
counted_keeps site reference value = by (expression site value)
  where
    chosen : (b : Bool) (operator : BinaryOperator)
        → IfSome (if b then count_by operator else None) (λ (i : Instr). keeps_stack i ≡ true)
    chosen true Add = refl
    chosen true Subtract = refl
    chosen true operator = tt
    chosen false operator = tt

    by_form : (form : ExpressionForm)
        → IfSome (count_of_form site reference form) (λ (i : Instr). keeps_stack i ≡ true)
    by_form (Binary Byte operator left right) =
        chosen (is_value_of site left reference && is_one site right) operator
    by_form form = tt

    by : (found : Option Expression)
        → IfSome (elim found as (λ (given : Option Expression). Option Instr) [
          | Some one ↦ count_of_form site reference one.form
          | None ↦ None
        ]) (λ (i : Instr). keeps_stack i ≡ true)
    by (Some one) = by_form one.form
    by None = tt

-- the code that puts the value into its register takes at most `bytes` bytes
pub record ValueFits (at : BodyGround) (value : ExpressionNumber) (bytes : ℕ) : Type 0 where
  pub as_byte : PlanFootprint at (part (tasks.Byte value) 0 ∷ []) bytes
  pub as_word : PlanFootprint at (part (tasks.Word value) 0 ∷ []) bytes

module _ (at : BodyGround) (value : ExpressionNumber) (bytes : ℕ) (fit : ValueFits at value bytes) where
  -- stores the value in a target as a byte, and as a word
  from_byte_fits :
      {bound : ℕ} {tree : TypedTarget} (target : Target)
      → IsTarget (nodes_of at.body.tree.now) at.source.storage bound (from_type target Byte) tree
      → AimHolds at.source.typed at.source.within tree
      → 2 + 2 * height_of_target tree ≤ at.level
      → PlanFootprint at (from_byte_steps target value) (bytes + (64 + bytes_for (weight_beside tree)))
  from_byte_fits target is types room =
      then_fit fit.as_byte (store_fits at (from_type target Byte) false 0 is types room)

  from_word_fits :
      {bound : ℕ} {tree : TypedTarget} (target : Target)
      → IsTarget (nodes_of at.body.tree.now) at.source.storage bound (from_type target Address) tree
      → AimHolds at.source.typed at.source.within tree
      → 2 + 2 * height_of_target tree ≤ at.level
      → PlanFootprint at (from_word_steps target value) (bytes + (64 + bytes_for (weight_beside tree)))
  from_word_fits target is types room =
      then_fit fit.as_word (store_fits at (from_type target Address) false 0 is types room)

  -- stores the value in a part of an object
  module _
      {bound : ℕ} {tree : TypedReference} (site : Site) (reference : Reference)
      (is : IsReference (nodes_of at.body.tree.now) at.source.storage bound reference tree)
      (types : TypesHoldInReference at.source.typed at.source.within tree)
      (room : 2 + 2 * height_of_reference tree ≤ at.level)
    where
      address_first :
          PlanFootprint at (part (tasks.Address reference) 0 ∷ []) (32 + bytes_for (weight_of_reference tree))
      address_first = address_fits at reference 0 is types (omega (arith, room))

      other_byte_fits :
          PlanFootprint at (other_byte_steps site reference value)
          (bytes + (64 + bytes_for (weight_of_reference tree)))
      other_byte_fits =
          either_fit (is_address_first site reference value)
          (less_fits (then_fit address_first
          (then_fit fit.as_byte (plains_fit (plain (MovToMemory A) ∷ []) refl tt)))
          (omega arith))
          (less_fits (from_byte_fits {tree = StoredIn Byte Byte tree} (Stored Byte Byte reference)
          (IsStored is) types (omega (arith, room)))
          (omega arith))

      counted_fits :
          (found : Option Instr)
          → IfSome found (λ (i : Instr). keeps_stack i ≡ true)
          → PlanFootprint at
          (elim found as (λ (given : Option Instr). List Planned) [
            | Some instruction ↦ part (tasks.Address reference) 0 ∷ plain instruction ∷ []
            | None ↦ other_byte_steps site reference value
          ])
          (bytes + (64 + bytes_for (weight_of_reference tree)))
      counted_fits (Some instruction) keeps =
          less_fits (then_fit address_first (plain_fits (plain instruction) keeps tt)) (omega arith)
      counted_fits None keeps = other_byte_fits

      to_byte_fits :
          PlanFootprint at (byte_steps site reference value)
          (bytes + (64 + bytes_for (weight_of_reference tree)))
      to_byte_fits =
          finding_fits (number site value)
          (λ known there. less_fits (then_fit address_first
          (plains_fit (plain (Mvi M (low known)) ∷ []) refl tt)) (omega arith))
          (counted_fits (count_of site reference value) (counted_keeps site reference value))

      number_fits :
          (known : ℕ)
          → PlanFootprint at (number_steps reference known) (64 + bytes_for (weight_of_reference tree))
      number_fits known =
          less_fits
          (then_fit address_first
          (plains_fit (plain (Mvi M (low known)) ∷ plain (Inx Hl) ∷ plain (Mvi M (high known)) ∷ []) refl tt))
          (omega arith)

      as_word_fits :
          (from : ScalarType)
          → PlanFootprint at (from_word_steps (Stored from Address reference) value)
          (bytes + (64 + bytes_for (weight_of_reference tree)))
      as_word_fits from =
          less_fits
          (from_word_fits {tree = StoredIn Address Address tree} (Stored from Address reference) (IsStored is)
          types (omega (arith, room)))
          (omega arith)

      other_word_fits :
          (from : ScalarType)
          → PlanFootprint at (other_word_steps from (Stored from Address reference) value)
          (bytes + (64 + bytes_for (weight_of_storing from Address + weight_of_reference tree)))
      other_word_fits Byte =
          from_byte_fits {tree = StoredIn Byte Address tree}
          (Stored Byte Address reference) (IsStored is) types
          (omega (arith, room))
      other_word_fits Address = less_fits (as_word_fits Address) (omega arith)

      to_word_fits :
          (from : ScalarType)
          → PlanFootprint at (word_steps at.body site (Stored from Address reference) reference value)
          (bytes + (64 + bytes_for (weight_of_storing from Address + weight_of_reference tree)))
      to_word_fits from =
          either_fit (is_near at.body (location_of site reference))
          (less_fits (as_word_fits from) (omega arith))
          (finding_fits (number site value) (λ known there. less_fits (number_fits known) (omega arith))
          (other_word_fits from))

      stored_fits :
          (from to : ScalarType)
          → PlanFootprint at (single_steps at.body site (Stored from to reference) value)
          (bytes + (64 + bytes_for (weight_of_storing from to + weight_of_reference tree)))
      stored_fits from Byte = less_fits to_byte_fits (omega arith)
      stored_fits from Address = to_word_fits from

  -- stores the value in a target
  pub single_fits :
      {bound : ℕ} {target : Target} {tree : TypedTarget} (site : Site)
      → IsTarget (nodes_of at.body.tree.now) at.source.storage bound target tree
      → AimHolds at.source.typed at.source.within tree
      → 2 + 2 * height_of_target tree ≤ at.level
      → PlanFootprint at (single_steps at.body site target value)
      (bytes + (64 + bytes_for (weight_beside tree)))
  single_fits site (IsStored {from = from} {to = to} {reference = reference} is) types room =
      stored_fits site reference is types (omega (arith, room)) from to
  single_fits site (IsSent {port = port} {from = from}) types room =
      less_fits
      (from_byte_fits {bound = 0} {tree = SentTo Byte port} (Sent from port) IsSent tt
      (omega (arith, room))) (omega arith)
