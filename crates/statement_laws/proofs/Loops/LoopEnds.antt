-- The ends of loops, and entering them.
use Rattle.statement_laws.proofs.Prelude.{◌≡◌, ℕ, ◌+◌, ◌*◌, ◌≤◌, Bool, true, false, [], ◌∷◌, ◌++◌, Option, sym, ap, subst, ◌∙◌, IfSome, height_of, height_of_list, height_of_optional, ListStands, TypesHold, TypesHoldInList, Gave, Onward, Range, Iteration, IsIteration, IsList, Facts, LabelNumber, no_facts, asked_mark, Here, Does, at_place, nodes_in, loaded_in, BodyContext, IsSoundBody}
use Rattle.steps8080.specs.declared.step.Step.TheVariants as steps
use Rattle.statements8080.specs.declared.plan.Planned.TheVariants as planned
use Rattle.statement_laws.proofs.Loops.CountedBytes.{Goes}
use Rattle.statement_laws.proofs.Loops.CountedVariables.{IsCounted}
use Rattle.statement_laws.proofs.Loops.LoopCode.{knowing_nothing, mark_then, steps_over}
use Rattle.statement_laws.proofs.Loops.LoopTurns.{Loop, Out, StageAt, loop_ends}
use Rattle.statement_laws.proofs.FirstSteps.{Stand, steps_ended, reaches_first}
use Rattle.statement_laws.proofs.Loops.PlannedParts.{code_parted}

-- what is true of an iterative DO of a body: its variable, its values and its list
pub record Iterates (at : BodyContext) (loop : Loop at) (head : Iteration) (list : Range) : Type 0 where
  pub sound : IsSoundBody at
  pub is : IsIteration (nodes_in at.context) at.context.storage head loop.head
  pub first_types : TypesHold at.context.typed at.context.within (loop.head).first
  pub last_types : TypesHold at.context.typed at.context.within (loop.head).last
  pub step_types : IfSome (loop.head).step (TypesHold at.context.typed at.context.within)
  pub first_fits : 2 * height_of (loop.head).first ≤ loop.need
  pub last_fits : 2 * height_of (loop.head).last ≤ loop.need
  pub step_fits : 2 * height_of_optional (loop.head).step ≤ loop.need
  pub counted : IsCounted at.context (loop.head).variable (loop.head).scalar
  pub enough : 4 ≤ loop.need
  pub bound : ℕ
  pub list_is : IsList (nodes_in at.context) at.context.storage at.labels bound list loop.list
  pub list_types : TypesHoldInList at.context.typed at.context.within loop.list
  pub list_stands : ListStands loop.list
  pub list_fits : 2 + 2 * height_of_list loop.list ≤ loop.need

-- where the code goes on at the end of the loop
pub goes_at_end :
    {at : BodyContext} (loop : Loop at) (limit : ℕ) (facts : Facts) (place : ℕ)
    → record { facts = facts; goes_on = true } ≡ loop.after
    → place ≡ loop.to
    → Goes loop limit facts place
goes_at_end {at = at} loop limit facts place same there = λ u now memory_now less stage.
    subst (λ (n : ℕ). Does (loaded_in at.context) u.budget 0 (at_place n now memory_now u.events)
    (Gave Onward u) (Out loop)) (sym there)
    (loop_ends loop u now memory_now (ap (λ (here : Here). here.goes_on) (sym same))
    (subst (λ (here : Here). StageAt at loop.need loop.base u here.facts now memory_now) same stage))

-- the end of a loop that counts to a known value
pub record EndsKnown {at : BodyContext} (loop : Loop at) (is_tested : Bool) (end : LabelNumber)
    (known : Facts) (place : ℕ) : Type 0 where
  pub goes : (limit : ℕ) → Goes loop limit known place
  pub label : is_tested ≡ true → at.context.activation.layout.place_of end.index ≡ loop.to
  pub after : is_tested ≡ true → record { facts = no_facts; goes_on = true } ≡ loop.after

pub ends_known :
    {at : BodyContext} {waiting : Option Facts} (loop : Loop at) (is_tested : Bool) (end : LabelNumber)
    (here : Here) (place : ℕ)
    → Stand at here waiting place (asked_mark is_tested end ++ (planned.Reaches true ∷ [])) loop.after loop.to
    → EndsKnown loop is_tested end here.facts place
ends_known {at = at} loop true end here place stand =
    let parts = code_parted (steps.Mark end ∷ []) (planned.Reaches true ∷ []) here place stand in
    let marked = mark_then parts.first in
    let after_mark = steps_over marked.1 in
    let ends = steps_ended (reaches_first parts.rest) in
    let is_after : record { facts = no_facts; goes_on = true } ≡ loop.after =
    ap (λ (facts : Facts). record { facts = facts; goes_on = true }) after_mark.0 ∙ (sym ends.same) in
    let is_to : place ≡ loop.to = after_mark.1 ∙ (sym ends.place) in
    record {
      goes = λ limit u now memory_now less stage.
          goes_at_end loop limit no_facts place is_after is_to u now memory_now less (knowing_nothing stage);
      label = λ tested. marked.0 ∙ is_to;
      after = λ tested. is_after;
    }
ends_known loop false end here place stand =
    let ends = steps_ended (reaches_first stand) in
    record {
      goes = λ limit. goes_at_end loop limit here.facts place (sym ends.same) (sym ends.place);
      label = λ tested. absurd cc;
      after = λ tested. absurd cc;
    }
