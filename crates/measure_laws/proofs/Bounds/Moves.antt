-- CALL MOVE.
use Rattle.measure_laws.proofs.Prelude.{ℕ, ◌+◌, ◌-◌, ◌*◌, ◌≤◌, min, [], ◌∷◌, refl, arith, Pop, Push, Xchg, Bc, De, StackBc, StackDe, StackHl, LoadPair, Move, TypedExpression, height_of, weight_of_expression, ExpressionNumber, Site, keeps, known, ends_steps, move_steps, part, bytes_for, BodyGround, IsWithinLevel, PlanMeasured, PlanFootprint}
use Rattle.steps8080.specs.declared.step.Step.TheVariants as steps
use Rattle.steps8080.specs.declared.step.Task.TheVariants as tasks
use Rattle.statements8080.specs.declared.plan.Planned.TheVariants.{Code}
use Rattle.measure_laws.proofs.{Bounds.Fitting.{both_fit, either_fit, finding_fits, less_fits, then_fit}, Bounds.Planning.{code_fits, word_at}}
use Rattle.measure_laws.specs.internal.Footprints.{IsTyped}

-- the operands leave four bytes free beside those that they need
module _
    (at : BodyGround) {counted from to : TypedExpression} (site : Site)
    (count source destination : ExpressionNumber)
    (count_is : IsWithinLevel at count counted)
    (source_is : IsTyped at.body.tree.now at.source source from)
    (source_room : 4 + 2 * height_of from ≤ at.level)
    (destination_is : IsTyped at.body.tree.now at.source destination to)
    (destination_room : 4 + 2 * height_of to ≤ at.level)
  where
    source_fits :
        (free pushed : ℕ) → at.level ≤ free + 4
        → PlanMeasured at free (part (tasks.Word source) pushed ∷ []) free
        (bytes_for (weight_of_expression from))
    source_fits free pushed near =
        word_at at free source pushed (record { typed = source_is; room = omega (arith, source_room, near) })

    destination_fits :
        (free pushed : ℕ) → at.level ≤ free + 4
        → PlanMeasured at free (part (tasks.Word destination) pushed ∷ []) free
        (bytes_for (weight_of_expression to))
    destination_fits free pushed near =
        word_at at free destination pushed
        (record { typed = destination_is; room = omega (arith, destination_room, near) })

    ends_fit :
        (free : ℕ) → at.level ≤ free + 2 → 2 ≤ free → (pushed : ℕ)
        → PlanMeasured at free (ends_steps site source destination pushed) free
        (bytes_for (weight_of_expression from) + bytes_for (weight_of_expression to) + 6)
    ends_fit free near enough pushed =
        finding_fits (known site source)
        (λ place there. less_fits
        (then_fit (destination_fits free pushed (omega (arith, near)))
        (code_fits (steps.Word (LoadPair De) place) refl refl))
        (omega arith))
        (either_fit (keeps site destination).de
        (less_fits
        (then_fit (source_fits free pushed (omega (arith, near)))
        (then_fit (code_fits (steps.Plain Xchg) refl refl)
        (destination_fits free pushed (omega (arith, near)))))
        (omega arith))
        (less_fits
        (then_fit (source_fits free pushed (omega (arith, near)))
        (then_fit (code_fits (steps.Plain (Push StackHl)) refl (enough, refl))
        (then_fit (destination_fits (free - 2) (min (pushed + 2) 65535) (omega (arith, near, enough)))
        (code_fits (steps.Plain (Pop StackDe)) refl (omega (arith, enough))))))
        (omega arith)))

    called_fits : PlanFootprint at (Code (steps.CallRoutine Move) ∷ []) 3
    called_fits = code_fits (steps.CallRoutine Move) refl (omega (arith, source_room), refl)

    pub move_fits :
        PlanFootprint at (move_steps site count source destination)
        (bytes_for (weight_of_expression counted + weight_of_expression from + weight_of_expression to) + 15)
    move_fits =
        finding_fits (known site count)
        (λ place there. less_fits
        (both_fit (ends_fit at.level (omega arith) (omega (arith, source_room)) 0)
        (then_fit (code_fits (steps.Word (LoadPair Bc) place) refl refl) called_fits))
        (omega arith))
        (less_fits
        (then_fit (word_at at at.level count 0 count_is)
        (then_fit (code_fits (steps.Plain (Push StackHl)) refl (omega (arith, source_room), refl))
        (both_fit (ends_fit (at.level - 2) (omega (arith, source_room)) (omega (arith, source_room)) 2)
        (then_fit (code_fits (steps.Plain (Pop StackBc)) refl (omega (arith, source_room))) called_fits))))
        (omega arith))
