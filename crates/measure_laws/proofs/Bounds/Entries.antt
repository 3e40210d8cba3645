-- The entries of procedures. They make room on the stack for what a call has there: so their pushes do not
-- count.
use Rattle.measure_laws.proofs.Prelude.{ℕ, zero, suc, ◌+◌, ◌-◌, ◌*◌, ◌/◌, ◌%◌, inl, inr, nat_eq, nat_le, List, [], ◌∷◌, length, slice_get, take, refl, arith, length-take, leb-true, NotZero, Dcr, Inx, Lxi, Mvi, Pop, Push, Xthl, Of, De, Sp, B, StackDe, StackHl, JumpWhere, ScalarType, Byte, Address, Location, Parameter, ProcedureKind, LabelNumber, no_facts, label_of, argument_step, below_return_steps, entry_steps, entry_steps_by, exchanged_steps, frame_entry_steps, is_address, known_from, last_argument_facts, odd_byte_steps, pair_of, popped_at, popped_from, push_loop_steps, pushed_arguments_steps, pushes_steps, static_entry_steps, store_argument, stores_steps, with_argument, zeros_steps, BodyGround, PlanFootprint}
use Rattle.treecode.specs.declared.procedure.ProcedureKind.TheVariants as kinds
use Rattle.codegen8080.specs.internal.Procedures.{last_argument_steps}
use Rattle.steps8080.specs.declared.step.Step.TheVariants as steps
use Rattle.measure_laws.proofs.{Bounds.Fitting.{asking_fits, both_fit, closed_fit, either_fit, finding_fits, less_fits, none_fit, then_fit}, Bounds.Pieces.{bare_fits, repeated_fit}}

module _ {at : BodyGround} (none : at.pushes → ⊥) where
  -- an argument is stored in its parameter
  argument_by_fits : (scalar : ScalarType) (location : Location)
      → PlanFootprint at (store_argument scalar location ∷ []) 3
  argument_by_fits Byte location = bare_fits none _ refl tt
  argument_by_fits Address location = bare_fits none _ refl tt

  argument_fits : (parameter : Parameter) → PlanFootprint at (argument_step parameter ∷ []) 3
  argument_fits parameter = argument_by_fits parameter.scalar parameter.location

  popped_at_fits : (parameters : List Parameter) (index : ℕ) → PlanFootprint at (popped_at parameters index) 6
  unfolding popped_at
  popped_at_fits parameters index =
      finding_fits (slice_get parameters index)
      (λ parameter there. then_fit (bare_fits none (steps.Plain (Pop (pair_of parameter.scalar))) refl tt)
      (argument_fits parameter))
      none_fit

  popped_from_fits : (parameters : List Parameter) (count : ℕ)
      → PlanFootprint at (popped_from parameters count) (6 * count)
  unfolding popped_from
  popped_from_fits parameters zero = none_fit
  popped_from_fits parameters (suc others) =
      less_fits (both_fit (popped_at_fits parameters others) (popped_from_fits parameters others))
      (omega arith)

  pushed_arguments_fit :
      (parameters : List Parameter) → PlanFootprint at (pushed_arguments_steps parameters)
      (6 + 6 * length parameters)
  unfolding pushed_arguments_steps
  pushed_arguments_fit parameters =
      less_fits
      (then_fit (bare_fits none (steps.Plain (Pop StackDe)) refl tt)
      (both_fit (popped_from_fits parameters (length parameters))
      (bare_fits none (steps.Plain (Push StackDe)) refl tt)))
      (omega arith)

  exchanged_fit : (parameter : Parameter) → PlanFootprint at (exchanged_steps parameter) 9
  unfolding exchanged_steps
  exchanged_fit parameter =
      then_fit (bare_fits none (steps.Plain (Pop StackHl)) refl tt)
      (then_fit (bare_fits none (steps.Plain Xthl) refl tt) (argument_fits parameter))

  below_return_fits :
      (parameters : List Parameter) → PlanFootprint at (below_return_steps parameters)
      (6 + 6 * length parameters)
  unfolding below_return_steps
  below_return_fits [] = none_fit
  below_return_fits (parameter ∷ []) =
      either_fit (is_address parameter.scalar) (less_fits (exchanged_fit parameter) (omega arith))
      (pushed_arguments_fit (parameter ∷ []))
  below_return_fits (first ∷ next ∷ others) = pushed_arguments_fit (first ∷ next ∷ others)

  stores_fit :
      (last : Parameter) (others : List Parameter)
      → PlanFootprint at (stores_steps last others) (9 + 6 * length others)
  unfolding stores_steps
  stores_fit last others =
      less_fits
      (then_fit (argument_fits last)
      (both_fit (below_return_fits others)
      (bare_fits none (steps.Holds (known_from (with_argument no_facts last) others (length others))) refl
      tt)))
      (omega arith)

  static_entry_fits :
      (parameters : List Parameter) → PlanFootprint at (static_entry_steps parameters)
      (9 + 6 * length parameters)
  unfolding static_entry_steps
  static_entry_fits parameters =
      finding_fits (slice_get parameters (length parameters - 1))
      (λ last there. less_fits (stores_fit last (take (length parameters - 1) parameters))
      (omega (arith, length-take (length parameters - 1) parameters)))
      (less_fits (bare_fits none (steps.Holds no_facts) refl tt) (omega arith))

  -- the frame of a REENTRANT procedure is made
  push_loop_fits : (turns : ℕ) (again : LabelNumber) → PlanFootprint at (push_loop_steps turns again) 21
  unfolding push_loop_steps
  push_loop_fits turns again =
      closed_fit (λ own. less_fits
      (then_fit (bare_fits none (steps.Plain (Mvi (Of B) turns)) refl tt)
      (then_fit (bare_fits none (steps.Mark again) refl tt)
      (both_fit (repeated_fit none (Push StackDe) 4)
      (then_fit (bare_fits none (steps.Plain (Dcr (Of B))) refl tt)
      (bare_fits none (steps.Jump (JumpWhere NotZero) again) refl (own again.index (inr (inl refl))))))))
      (omega arith))

  pushes_fit : (words first : ℕ) → PlanFootprint at (pushes_steps words first) 36
  unfolding pushes_steps
  pushes_fit words first =
      asking_fits (nat_le words 12)
      (λ few. less_fits (repeated_fit none (Push StackDe) words) (omega (arith, leb-true words 12 few)))
      (λ many. less_fits
      (both_fit (push_loop_fits (words / 4 % 256) (label_of first))
      (repeated_fit none (Push StackDe) (words % 4)))
      (omega arith))

  odd_byte_fits : (bytes : ℕ) → PlanFootprint at (odd_byte_steps bytes) 6
  unfolding odd_byte_steps
  odd_byte_fits bytes =
      either_fit (nat_eq (bytes % 2) 1)
      (then_fit (bare_fits none (steps.Plain (Push StackDe)) refl tt)
      (bare_fits none (steps.Plain (Inx Sp)) refl tt))
      none_fit

  zeros_fit : (bytes first : ℕ) → PlanFootprint at (zeros_steps bytes first) 45
  unfolding zeros_steps
  zeros_fit bytes first =
      either_fit (nat_eq bytes 0) none_fit
      (then_fit (bare_fits none (steps.Plain (Lxi De 0)) refl tt)
      (both_fit (pushes_fit (bytes / 2) first) (odd_byte_fits bytes)))

  last_argument_fits : (parameters : List Parameter) → PlanFootprint at (last_argument_steps parameters) 3
  unfolding last_argument_steps
  last_argument_fits parameters =
      finding_fits (slice_get parameters (length parameters - 1))
      (λ last there. bare_fits none (steps.Plain (Push (pair_of last.scalar))) refl tt) none_fit

  frame_entry_fits :
      (parameters : List Parameter) (bytes first : ℕ)
      → PlanFootprint at (frame_entry_steps parameters bytes first) 48
  unfolding frame_entry_steps
  frame_entry_fits parameters bytes first =
      both_fit (last_argument_fits parameters)
      (both_fit (zeros_fit bytes first) (bare_fits none
      (steps.Holds (last_argument_facts parameters)) refl tt))

  -- the entry of a procedure
  entry_by_fits :
      (kind : ProcedureKind) (first : ℕ)
      → PlanFootprint at (entry_steps_by kind at.body first)
      (48 + 6 * length at.body.procedure.now.parameters.items)
  unfolding entry_steps_by
  entry_by_fits kinds.Reentrant first =
      less_fits
      (frame_entry_fits at.body.procedure.now.parameters.items at.body.frame.now.variable_bytes first)
      (omega arith)
  entry_by_fits kinds.Static first =
      less_fits (static_entry_fits at.body.procedure.now.parameters.items) (omega arith)
  entry_by_fits (kinds.External name) first =
      less_fits (static_entry_fits at.body.procedure.now.parameters.items) (omega arith)

  pub entry_fits :
      (first : ℕ) → PlanFootprint at (entry_steps at.body first)
      (48 + 6 * length at.body.procedure.now.parameters.items)
  entry_fits first = entry_by_fits at.body.procedure.now.kind first
