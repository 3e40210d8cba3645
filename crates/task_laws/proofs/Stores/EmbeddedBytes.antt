-- The low byte of an assignment within an expression.
use Rattle.task_laws.proofs.Prelude.{◌≡◌, ℕ, ◌*◌, ◌/◌, ◌%◌, ◌<◌, true, false, List, [], ◌∷◌, refl, sym, ◌∙◌, subst, arith, false≢true, height_of, type_of, type_of_target, TypedExpression, TypedTarget, AssignmentNode, TypesHold, TypesHoldInTarget, stored, SourceState, Ended, More, Outside, Outcome, Gave, Stopped, values_of, A, L, State, ExpressionNumber, Target, IsExpression, IsTarget, Facts, Plain, copy, part, Does, Loaded, Lands, is_free, Context, InRegister, IsSound, nodes_in, StepsStand, PartThere, PlainThere, ByteIsGiven, Carries, Nothing, PartDoes, low_of_byte}
use Rattle.trees.specs.declared.declaration.ScalarType.TheVariants as scalars
use Rattle.steps8080.specs.declared.step.Task.TheVariants as tasks
use Rattle.task_laws.specs.internal.Tasks.{IsStored}
use Rattle.task_laws.proofs.Bytes.ByteForms.{byte_given}
use Rattle.task_laws.proofs.Machine.SiteNodes.{value_in}
use Rattle.task_laws.proofs.Machine.Stages.{stage_with_a, at_byte, at_carried, at_end, at_word}

fewer_steps :
    {script : List (List ℕ)} {budget left : ℕ} {from : State} {Good : State → Type 0}
    → Lands script budget 1 from left Good → Lands script budget 0 from left Good
fewer_steps lands =
    let paid = lands.paid in
    record { count = lands.count; end = lands.end; run = lands.run; paid = omega (arith, paid); spent = lands.spent; is_good = lands.is_good }

-- a step to spare that is not wanted
pub does_less :
    {A : Type 0} {loaded : Loaded} {budget : ℕ} {from : State} (outcome : Outcome A)
    {Good : A → SourceState → State → Type 0}
    → Does loaded budget 1 from outcome Good
    → Does loaded budget 0 from outcome Good
does_less (Gave found t) does = record { told = fewer_steps does.told }
does_less (Stopped Ended t) does = record { told = does.told }
does_less (Stopped More t) does = record { told = does.told }
does_less (Stopped (Outside reason) t) does = record { told = tt }

module _
    (context : Context) (facts last : Facts) (from to pushed bound : ℕ)
    (number inner : ExpressionNumber) (target : Target)
    (inside : TypedExpression) (place : TypedTarget) (sound : IsSound context)
    (node : IsExpression (nodes_in context) context.storage bound inner.index inside)
    (types : TypesHold context.typed context.within inside)
    (is_target : IsTarget (nodes_in context) context.storage bound target place)
    (target_types : TypesHoldInTarget context.typed context.within (type_of inside) place)
    (same_type : type_of_target place ≡ type_of inside)
    (not_free : is_free context.site number ≡ false) where
  -- a BYTE is assigned
  pub embedded_byte :
      type_of inside ≡ scalars.Byte
      → StepsStand context (PartDoes context) facts from
      (part (tasks.Byte inner) pushed ∷ part (tasks.Store target true) pushed ∷ []) last to
      → Carries context facts pushed (2 * height_of (AssignmentNode place inside)) 0 from to Nothing
      (value_in context (AssignmentNode place inside))
      (ByteIsGiven context last number (type_of (AssignmentNode place inside)))
  embedded_byte is_byte (PartThere does (PartThere stores ends)) top base s r memory below room
      ready known nothing =
      at_byte _ _ _ does node types (omega arith)
      (record { below = below; room = room; ready = ready; known = known })
      (λ v u now memory_now is given next.
      let small : v < 256 = subst (λ scalar. v < values_of scalar) is_byte given.small in
      at_carried {top = top} {need = 2 * height_of (AssignmentNode place inside)} {base = base} _ _ _
      (λ top_there base_there u_there r_there memory_there below_there room_there ready_there known_there in_a.
      does_less (stored context.later context.activation.around place v u_there)
      (stores bound v (type_of inside) place is_target target_types given.small top_there base_there u_there
      r_there memory_there below_there room_there ready_there known_there in_a))
      (omega arith)
      (subst (λ scalar. InRegister scalar v now) (sym is_byte) (given.a ∙ low_of_byte v small))
      (λ found late memory_late (kept : IsStored context _ (type_of inside) true v now memory_now found late memory_late). kept.known) next
      (λ found t late memory_late stored_is kept final_stage. at_end ends final_stage
      (λ final.
      let a : late.a ≡ v = subst (λ scalar. InRegister scalar v late) is_byte (kept.wanted refl) in
      byte_given to number v (a ∙ sym (low_of_byte v small))
      (subst (λ scalar. v < values_of scalar) (sym same_type) given.small)
      (λ free. absurd (false≢true (sym not_free ∙ free))) final)))

  -- an ADDRESS is assigned
  pub embedded_low_byte :
      type_of inside ≡ scalars.Address
      → StepsStand context (PartDoes context) facts from
      (part (tasks.Word inner) pushed ∷ part (tasks.Store target true) pushed ∷ Plain (copy A L) ∷ []) last to
      → Carries context facts pushed (2 * height_of (AssignmentNode place inside)) 0 from to Nothing
      (value_in context (AssignmentNode place inside))
      (ByteIsGiven context last number (type_of (AssignmentNode place inside)))
  embedded_low_byte is_address (PartThere does (PartThere stores (PlainThere there ends))) top base s r memory
      below room ready known nothing =
      at_word _ _ _ does node types (omega arith)
      (record { below = below; room = room; ready = ready; known = known })
      (λ v u now memory_now is given next.
      at_carried {top = top} {need = 2 * height_of (AssignmentNode place inside)} {base = base} _ _ _
      (λ top_there base_there u_there r_there memory_there below_there room_there ready_there known_there in_hl.
      does_less (stored context.later context.activation.around place v u_there)
      (stores bound v (type_of inside) place is_target target_types given.small top_there base_there u_there
      r_there memory_there below_there room_there ready_there known_there in_hl))
      (omega arith)
      (subst (λ scalar. InRegister scalar v now) (sym is_address) (given.h, given.l))
      (λ found late memory_late (kept : IsStored context _ (type_of inside) true v now memory_now found late memory_late). kept.known) next
      (λ found t late memory_late stored_is kept final_stage.
      let hl : (late.h ≡ v / 256) × (late.l ≡ v % 256) =
      subst (λ scalar. InRegister scalar v late) is_address (kept.wanted refl) in
      stage_with_a late.l late.flags sound final_stage there refl final_stage.ready.registers.l tt
      (λ moved. at_end ends moved
      (λ final.
      byte_given to number v hl.1 (subst (λ scalar. v < values_of scalar) (sym same_type) given.small)
      (λ free. absurd (false≢true (sym not_free ∙ free))) final))))
