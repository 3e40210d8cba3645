-- RETURN.
use Rattle.statement_laws.proofs.Prelude.{◌≡◌, ℕ, zero, suc, ◌+◌, ◌-◌, ◌*◌, ◌/◌, ◌%◌, ◌≤◌, Bool, true, false, if◌then◌else◌, nat_eq, List, [], ◌∷◌, ◌++◌, replicate, Option, Some, None, refl, sym, ap, subst, ◌∙◌, arith, ScalarType, height_of_optional, TypedExpression, IsReturned, TypesHold, Within, WithinMain, WithinProcedure, returned, SourceState, Gave, Returned, Instr, Registers, Item, size_of_instruction, ExpressionNumber, ProcedureKind, IsNoValue, IsOptional, IsReturn, IsSomeValue, IsThere, Does, at_place, does_without_step, Facts, value_task, NoneWritten, PlainWritten, Body, Planned, all, part, Here, AreCarriedOut, NoneCarriedOut, StepCarriedOut, carried_steps, here_after, waiting_after, drop_steps, kept_steps, pops_steps, return_of_frame_steps, return_over_any_steps, return_over_steps, return_steps, return_steps_by, return_of_steps, returned_value_steps, statement_steps, ResultLies, nodes_in, at_value, loaded_in, BodyContext, IsSoundBody, IsWithin, Leaves, StatementStands, at_most_more}
use Rattle.trees.specs.declared.declaration.ScalarType.TheVariants as scalars
use Rattle.asm8080.specs.declared.item.Item.TheVariants as items
use Rattle.treecode.specs.declared.procedure.ProcedureKind.TheVariants as kinds
use Rattle.treecode.specs.declared.statement.Statement.TheVariants as statements
use Rattle.statements8080.specs.declared.plan.Planned.TheVariants as planned
use Rattle.statements8080.specs.internal.Plans.{plain}
use Rattle.statement_laws.proofs.FirstSteps.{Stand, going, part_first, plain_first}
use Rattle.statement_laws.proofs.Outcomes.{Between}
use Rattle.statement_laws.proofs.Simple.{FormDoes}

-- planned steps that are instructions alone
pub data AreInstructions : List Planned → Type 0 where
  NoInstruction : AreInstructions []
  MoreInstructions : {i : Instr} {others : List Planned} → AreInstructions others
      → AreInstructions (plain i ∷ others)

-- at least one step
abbrev pub HasOne : List Planned → Type 0
HasOne [] = ⊥
HasOne (first ∷ others) = Unit {0}

both_are : {one other : List Planned} → AreInstructions one → AreInstructions other
    → AreInstructions (one ++ other)
both_are NoInstruction second = second
both_are (MoreInstructions first) second = MoreInstructions (both_are first second)

all_are : (instructions : List Instr) → AreInstructions (all instructions)
all_are [] = NoInstruction
all_are (i ∷ others) = MoreInstructions (all_are others)

repeated_are : (count : ℕ) (i : Instr) → AreInstructions (replicate count (plain i))
repeated_are zero i = NoInstruction
repeated_are (suc count) i = MoreInstructions (repeated_are count i)

either_are : (test : Bool) (one other : List Planned) → AreInstructions one → AreInstructions other
    → AreInstructions (if test then one else other)
either_are true one other first second = first
either_are false one other first second = second

one_is_there : (one other : List Planned) → HasOne other → HasOne (one ++ other)
one_is_there [] other has = has
one_is_there (first ∷ one) other has = tt

pops_are : (words : ℕ) → AreInstructions (pops_steps words)
unfolding pops_steps
pops_are words = repeated_are words _

kept_are : (result : Option ScalarType) (instructions : List Instr)
    → AreInstructions (kept_steps result instructions)
unfolding kept_steps
kept_are (Some scalars.Address) instructions =
    MoreInstructions (both_are (all_are instructions) (MoreInstructions NoInstruction))
kept_are (Some scalars.Byte) instructions = all_are instructions
kept_are None instructions = all_are instructions

drops_are : (bytes : ℕ) (result : Option ScalarType) → AreInstructions (drop_steps bytes result)
unfolding drop_steps
drops_are bytes result =
    either_are _ _ _ (both_are (pops_are (bytes / 2)) (repeated_are (bytes % 2) _)) (kept_are result _)

over_are : (words : ℕ) (result : Option ScalarType) → AreInstructions (return_over_steps words result)
unfolding return_over_steps
over_are words (Some scalars.Address) =
    MoreInstructions (both_are (pops_are words) (MoreInstructions (MoreInstructions NoInstruction)))
over_are words (Some scalars.Byte) =
    MoreInstructions (both_are (pops_are words) (MoreInstructions NoInstruction))
over_are words None = MoreInstructions (both_are (pops_are words) (MoreInstructions NoInstruction))

over_has_one : (words : ℕ) (result : Option ScalarType) → HasOne (return_over_steps words result)
unfolding return_over_steps
over_has_one words (Some scalars.Address) = tt
over_has_one words (Some scalars.Byte) = tt
over_has_one words None = tt

over_any_are : (words : ℕ) (result : Option ScalarType) → AreInstructions (return_over_any_steps words result)
unfolding return_over_any_steps
over_any_are words result = either_are _ _ _ (MoreInstructions NoInstruction) (over_are words result)

over_any_has_one : (words : ℕ) (result : Option ScalarType) → HasOne (return_over_any_steps words result)
unfolding return_over_any_steps
over_any_has_one words result = by (nat_eq words 0)
  where
    by : (test : Bool)
        → HasOne
        (if test then plain Rattle.isa8080.specs.declared.instr.Instr.TheVariants.Ret
        ∷ [] else return_over_steps words result)
    by true = tt
    by false = over_has_one words result

frame_are : (body : Body) → AreInstructions (return_of_frame_steps body)
unfolding return_of_frame_steps
frame_are body =
    both_are (drops_are _ body.procedure.now.result)
    (over_any_are (body.frame.now.parameter_count - 1) body.procedure.now.result)

frame_has_one : (body : Body) → HasOne (return_of_frame_steps body)
unfolding return_of_frame_steps
frame_has_one body =
    one_is_there _ _ (over_any_has_one (body.frame.now.parameter_count - 1) body.procedure.now.result)

-- the code of a return is instructions
return_are : (kind : ProcedureKind) (body : Body) → AreInstructions (return_steps_by kind body)
unfolding return_steps_by
return_are kinds.Reentrant body = frame_are body
return_are kind body = MoreInstructions NoInstruction

return_has_one : (kind : ProcedureKind) (body : Body) → HasOne (return_steps_by kind body)
unfolding return_steps_by
return_has_one kinds.Reentrant body = frame_has_one body
return_has_one kind body = tt

-- instructions that stand are those that are written for them
pub record AreItems (at : BodyContext) (here : Here) (from : ℕ) (steps : List Planned) : Type 0 where
  pub last : Here
  pub list : List Item
  pub to : ℕ
  pub written : AreCarriedOut at.body at.context.called here None steps list last
  pub there : IsThere at.context.activation list from to

instructions_there :
    (at : BodyContext) (others : List Planned) {steps : List Planned} (are : AreInstructions steps)
    {here last : Here} {from to : ℕ}
    → at.context.activation.around.program.placement.code.start ≤ from
    → from ≤ at.context.activation.around.program.placement.code.start
    + at.context.activation.around.program.placement.code.len
    → Stand at here None from (steps ++ others) last to
    → AreItems at here from steps
unfolding carried_steps here_after waiting_after
instructions_there at others NoInstruction {here = here} {from = from} low high stand =
    record { last = here; list = []; to = from; written = NoneCarriedOut; there = record { stands = refl; low = low; high = high } }
instructions_there at others (MoreInstructions {i = i} {others = more} are) {here = here}
    {from = from} low high stand =
    let first = plain_first stand in
    let rest = instructions_there at others are
    (at_most_more at.context.activation.around.program.placement.code.start from (size_of_instruction i) low)
    first.there.high first.rest in
    record {
      last = rest.last;
      list = items.Plain i ∷ rest.list;
      to = rest.to;
      written = StepCarriedOut tt (PlainWritten NoneWritten) rest.written;
      there = record { stands = (first.there.stands.0, rest.there.stands); low = low; high = rest.there.high };
    }

within_code : (start from size len : ℕ) → from + size ≤ start + len → from ≤ start + len
within_code start from size len high = omega (arith, high)

pub some_instructions_there :
    (at : BodyContext) {here last : Here} {from to : ℕ} {steps : List Planned} (others : List Planned)
    → AreInstructions steps
    → HasOne steps
    → Stand at here None from (steps ++ others) last to
    → AreItems at here from steps
some_instructions_there at others NoInstruction has stand = absurd has
some_instructions_there at {from = from} others (MoreInstructions {i = i} are) has stand =
    let first = plain_first stand in
    instructions_there at others (MoreInstructions are) first.there.low
    (within_code at.context.activation.around.program.placement.code.start from (size_of_instruction i)
    at.context.activation.around.program.placement.code.len first.there.high) stand

-- a machine at the code of the return
returns :
    {at : BodyContext} {base : List ℕ} {from to before need : ℕ} {here last : Here} {t : SourceState}
    {known : Facts} {r : Registers}
    {memory : List ℕ} (others : List Planned) (found : ℕ)
    → Stand at here None from (return_steps at.body ++ others) last to
    → ResultLies at.body.procedure.now.result found r memory
    → Between at need base t known r memory
    → Does (loaded_in at.context) t.budget 0 (at_place from r memory t.events) (Gave (Returned found) t)
    (Leaves at base to last before)
returns {at = at} {from = from} {here = here} {r = r} {memory = memory} others found stand lies stage =
    let are = some_instructions_there at others (return_are at.body.procedure.now.kind at.body)
    (return_has_one at.body.procedure.now.kind at.body) stand in
    does_without_step (record {
      place = from;
      stands =
          record { here = here; last = are.last; list = are.list; to = are.to; written = are.written; there = are.there };
      comes = record { r = r; memory = memory; is_at = refl; ready = stage.ready; holds = lies };
    })

returned_steps : (result : ScalarType) (of : ExpressionNumber)
    → returned_value_steps (Some of) (Some result) ≡ part (value_task result of) 0 ∷ []
unfolding value_task
returned_steps scalars.Byte of = refl
returned_steps scalars.Address of = refl

pub return_does :
    (at : BodyContext) (before : Facts) (given : Option ExpressionNumber) (label from : ℕ)
    (after : Here) (to : ℕ)
    → IsSoundBody at
    → StatementStands at before (statements.Return given) label from after to
    → FormDoes at before (statements.Return given) from after to
unfolding statement_steps return_of_steps
return_does at before given label from after to sound stands bound _ (IsReturn {tree = tree} optional) types
    lists base s r memory below room ready known =
    by at.context.within given tree refl optional
    (subst (λ (within : Within). IsWithin within at.body) refl sound.within) types
    (omega arith) stands
  where
    by : (within : Within) (of : Option ExpressionNumber) (one : Option TypedExpression)
        → at.context.within ≡ within
        → IsOptional (nodes_in at.context) at.context.storage of one
        → IsWithin within at.body
        → IsReturned at.context.typed within one
        → 2 * height_of_optional one ≤ 2 + 2 * height_of_optional tree
        → Stand at (going true before) None from
        (returned_value_steps of at.body.procedure.now.result
        ++ (return_steps at.body ++ (planned.Reaches false ∷ []))) after to
        → Does (loaded_in at.context) s.budget 0 (at_place from r memory s.events)
        (returned at.context.later at.context.activation.around one s) (Leaves at base to after s.budget)
    by (WithinProcedure number None) None None same IsNoValue is types fits stand =
        returns (planned.Reaches false ∷ []) 0
        (subst (λ (result : Option ScalarType). Stand at (going true before) None from
        (returned_value_steps None result ++ (return_steps at.body ++ (planned.Reaches false ∷ []))) after to)
        is stand)
        (subst (λ (result : Option ScalarType). ResultLies result 0 r memory) (sym is) tt)
        (record { below = below; room = room; ready = ready; known = known })
    by (WithinProcedure number (Some scalar)) (Some of) (Some one) same (IsSomeValue node)
        is types fits stand =
        let first = part_first
        (subst (λ (steps : List Planned). Stand at (going true before) None from
        (steps ++ (return_steps at.body ++ (planned.Reaches false ∷ []))) after to)
        (ap (λ (result : Option ScalarType). returned_value_steps (Some of) result) is
        ∙ returned_steps scalar of) stand) in
        at_value scalar from first.middle of first.does node
        (subst (λ (within : Within). TypesHold at.context.typed within one) (sym same) types.0) types.1 fits
        (record { below = below; room = room; ready = ready; known = known })
        (λ found u now memory_now there small next.
        returns (planned.Reaches false ∷ []) found first.rest
        (subst (λ (result : Option ScalarType). ResultLies result found now memory_now) (sym is) there) next)
    by (WithinProcedure number (Some scalar)) None None same IsNoValue is types fits stand = absurd types
    by (WithinProcedure number None) (Some of) (Some one) same (IsSomeValue node) is types fits stand =
        absurd types
    by WithinMain None None same IsNoValue is types fits stand = absurd types
    by WithinMain (Some of) (Some one) same (IsSomeValue node) is types fits stand = absurd types
    by (WithinProcedure number None) None (Some one) same node is types fits stand = elim node [ ]
    by (WithinProcedure number None) (Some of) None same node is types fits stand = elim node [ ]
    by (WithinProcedure number (Some scalar)) None (Some one) same node is types fits stand = elim node [ ]
    by (WithinProcedure number (Some scalar)) (Some of) None same node is types fits stand = elim node [ ]
    by WithinMain None (Some one) same node is types fits stand = elim node [ ]
    by WithinMain (Some of) None same node is types fits stand = elim node [ ]
