-- Code that jumps on a condition.
use Rattle.task_laws.proofs.Prelude.{◌≡◌, ℕ, ◌*◌, ◌%◌, ◌≤◌, ◌==◌, Bool, true, false, not, List, ◌++◌, refl, sym, ap, ◌∙◌, arith, height_of, TypedExpression, TypesHold, SourceState, Outcome, Gave, Stopped, then_do, is_true, truth, Condition, NotZero, NoCarry, rotate_right_of, Registers, ExpressionNumber, IsExpression, Facts, Does, at_place, Relation, Shown, Known, Where, branch_setting, by_bit_steps, outcome_branch_steps, relation_outcome, relation_steps, knowing, Context, IsSound, nodes_in, StepsStand, PartThere, PlainThere, Parts, PartDoes, not-not}
use Rattle.isa8080.specs.declared.instr.Condition.TheVariants.{Zero, Carry}
use Rattle.operands8080.specs.declared.answers.Purpose.TheVariants as purposes
use Rattle.operands8080.specs.declared.branches.Branch.{Branch}
use Rattle.task_laws.proofs.Bytes.BytesAsked.{BytesAsked}
use Rattle.task_laws.proofs.Branches.Jumps.{jumps_known, jumps_where}
use Rattle.task_laws.proofs.Relations.Relations.{IsRelation, OutcomeShows, relation_shown}
use Rattle.task_laws.proofs.Machine.Rules.{steps_split}
use Rattle.task_laws.proofs.Machine.SiteNodes.{value_in}
use Rattle.task_laws.proofs.Machine.Stages.{Stage, stage_with_a, at_byte, does_same, loaded_in}

-- a value that is passed on
pub given_itself : {A : Type 0} (outcome : Outcome A) → outcome ≡ then_do outcome (λ found u. Gave found u)
given_itself (Gave found u) = refl
given_itself (Stopped why u) = refl

pub truth_is_true : (holds : Bool) → is_true (truth holds) ≡ holds
truth_is_true true = refl
truth_is_true false = refl

-- the end of a jump by an outcome
outcome_jumps :
    {context : Context} {top pushed need : ℕ} {base : List ℕ} {u : SourceState} {facts last : Facts}
    {r : Registers} {memory : List ℕ} {from to : ℕ} {tree : TypedExpression} (branch : Branch) (shown : Shown)
    (answer : Bool)
    → IsSound context
    → OutcomeShows purposes.Branch shown answer r
    → StepsStand context (PartDoes context) facts from (outcome_branch_steps branch shown) last to
    → Stage context top pushed need base u facts r memory
    → Does (loaded_in context) u.budget 0 (at_place from r memory u.events) (Gave (truth answer) u)
    (Parts context last tree branch.label branch.sense top base to)
outcome_jumps branch (Known known) answer sound shows stand stage =
    jumps_known branch known (truth answer) sound (truth_is_true answer ∙ shows) stand stage
outcome_jumps branch (Where Carry) answer sound shows stand stage =
    jumps_where branch Carry (truth answer) sound (shows ∙ sym (truth_is_true answer)) stand stage
outcome_jumps {r = r} branch (Where NoCarry) answer sound shows stand stage =
    jumps_where branch NoCarry (truth answer) sound
    (ap not shows ∙ not-not answer ∙ sym (truth_is_true answer)) stand stage
outcome_jumps branch (Where Zero) answer sound shows stand stage =
    jumps_where branch Zero (truth answer) sound (shows ∙ sym (truth_is_true answer)) stand stage
outcome_jumps {r = r} branch (Where NotZero) answer sound shows stand stage =
    jumps_where branch NotZero (truth answer) sound
    (ap not shows ∙ not-not answer ∙ sym (truth_is_true answer)) stand stage
outcome_jumps branch (Where Rattle.isa8080.specs.declared.instr.Condition.TheVariants.ParityOdd) answer sound
    shows stand stage = absurd shows
outcome_jumps branch (Where Rattle.isa8080.specs.declared.instr.Condition.TheVariants.ParityEven) answer sound
    shows stand stage = absurd shows
outcome_jumps branch (Where Rattle.isa8080.specs.declared.instr.Condition.TheVariants.Plus) answer sound shows
    stand stage = absurd shows
outcome_jumps branch (Where Rattle.isa8080.specs.declared.instr.Condition.TheVariants.Minus) answer sound
    shows stand stage = absurd shows

-- a jump by a relation; the flags show its answer
pub relation_jumps :
    {context : Context} {top need : ℕ} {base : List ℕ} {s : SourceState} {facts last : Facts}
    {r : Registers} {memory : List ℕ} {from to bound : ℕ} {tree : TypedExpression} (branch : Branch)
    (relation : Relation)
    → BytesAsked context
    → IsSound context
    → IsRelation context facts bound tree relation
    → TypesHold context.typed context.within tree
    → 2 * height_of tree ≤ need
    → StepsStand context (PartDoes context) facts from
    (relation_steps (knowing context.site facts) relation (branch_setting branch.pushed)
    ++ outcome_branch_steps branch (relation_outcome (knowing context.site facts) relation)) last to
    → Stage context top branch.pushed need base s facts r memory
    → Does (loaded_in context) s.budget 0 (at_place from r memory s.events) (value_in context tree s)
    (Parts context last tree branch.label branch.sense top base to)
relation_jumps {context = context} {top = top} {need = need} {base = base} {s = s} {facts = facts}
    {last = last} {r = r} {memory = memory} {from = from} {to = to} {bound = bound} {tree = tree} branch
    relation asked sound is types fewer stand stage =
    let parts =
    steps_split (relation_steps (knowing context.site facts) relation (branch_setting branch.pushed))
    (outcome_branch_steps branch (relation_outcome (knowing context.site facts) relation)) stand in
    does_same _ (given_itself (value_in context tree s))
    (relation_shown ℕ context top need base facts parts.found memory parts.middle 0
    (Parts context last tree branch.label branch.sense top base to) asked sound (branch_setting branch.pushed)
    s r from bound tree relation (λ found u. Gave found u) is types fewer parts.first stage
    (λ answer u now memory_now shows next.
    outcome_jumps branch (relation_outcome (knowing context.site facts) relation) answer sound
    shows parts.second next))

low_bit : (v : ℕ) → (v % 256 % 2 == 1) ≡ (v % 2 == 1)
low_bit v = ap (λ n. n == 1) (omega arith)

-- a jump by the lowest bit of a value
pub bit_jumps :
    {context : Context} {top need : ℕ} {base : List ℕ} {s : SourceState} {facts last : Facts}
    {r : Registers} {memory : List ℕ} {from to bound : ℕ} {tree : TypedExpression}
    (condition : ExpressionNumber)
    (branch : Branch)
    → IsSound context
    → IsExpression (nodes_in context) context.storage bound condition.index tree
    → TypesHold context.typed context.within tree
    → 2 * height_of tree ≤ need
    → StepsStand context (PartDoes context) facts from (by_bit_steps condition branch) last to
    → Stage context top branch.pushed need base s facts r memory
    → Does (loaded_in context) s.budget 0 (at_place from r memory s.events) (value_in context tree s)
    (Parts context last tree branch.label branch.sense top base to)
bit_jumps {context = context} {s = s} {tree = tree} condition branch sound node types fewer
    (PartThere does (PlainThere turned stand)) stage =
    does_same _ (given_itself (value_in context tree s))
    (at_byte _ _ _ does node types fewer stage
    (λ v u now memory_now is given next.
    let a_small = next.ready.registers.a in
    stage_with_a (rotate_right_of now.a now.flags).value (rotate_right_of now.a now.flags).flags
    sound next turned refl
    (omega (arith, a_small)) tt
    (λ then_stage.
    jumps_where branch Carry v sound (ap (λ n. n % 2 == 1) given.a ∙ low_bit v) stand then_stage)))
