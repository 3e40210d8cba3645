-- Jumps by flags, and without them.
use Rattle.task_laws.proofs.Prelude.{◌≡◌, ℕ, ◌+◌, Bool, true, false, not, List, [], ◌∷◌, refl, sym, ap, ◌∙◌, if◌then◌else◌, TypedExpression, SourceState, Gave, is_true, Condition, NotZero, NoCarry, ParityOdd, ParityEven, Plus, Minus, Flags, Registers, holds, AtLabel, Facts, LabelNumber, Jump, Does, at_place, jump_passed, word_step, does_without_step, no_facts_hold, known_branch_steps, opposite_condition, where_flags_steps, agree, Context, IsSound, StepsStand, JumpThere, NoneThere, Parts, Goes, Passes, PartDoes, not-not}
use Rattle.isa8080.specs.declared.instr.Condition.TheVariants.{Zero, Carry}
use Rattle.asm8080.specs.declared.item.WordForm.TheVariants as forms
use Rattle.operands8080.specs.declared.branches.Branch.{Branch}
use Rattle.task_laws.proofs.Machine.Stages.{Stage, at_end, loaded_in, script_of}
use Rattle.task_laws.proofs.Agreement.{agreeing, disagreeing}

-- a machine at the end of code that jumps
pub passes :
    {context : Context} {top pushed need : ℕ} {base : List ℕ} {u : SourceState} {last : Facts}
    {r : Registers} {memory : List ℕ} {tree : TypedExpression} {label : LabelNumber}
    {sense : Bool} (to found : ℕ)
    → is_true found ≡ not sense
    → Stage context top pushed need base u last r memory
    → Does (loaded_in context) u.budget 0 (at_place to r memory u.events) (Gave found u)
    (Parts context last tree label sense top base to)
passes {r = r} {memory = memory} to found is stage =
    does_without_step
    (Passes is
    (record { r = r; memory = memory; is_at = refl; ready = stage.ready; holds = stage.known }))

opposite_holds : (c : Condition) (f : Flags) → holds (opposite_condition c) f ≡ not (holds c f)
opposite_holds NotZero f = sym (not-not f.z)
opposite_holds Zero f = refl
opposite_holds NoCarry f = sym (not-not f.cy)
opposite_holds Carry f = refl
opposite_holds ParityOdd f = sym (not-not f.p)
opposite_holds ParityEven f = refl
opposite_holds Plus f = sym (not-not f.s)
opposite_holds Minus f = refl

wanted_holds :
    (sense : Bool) (c : Condition) (f : Flags)
    → holds (if sense then c else opposite_condition c) f ≡ agree sense (holds c f)
wanted_holds true c f = refl
wanted_holds false c f = opposite_holds c f

agreed : (sense answer : Bool) → agree sense answer ≡ true → answer ≡ sense
agreed true true is = refl
agreed false false is = refl
agreed true false is = is
agreed false true is = sym is

not_agreed : (sense answer : Bool) → agree sense answer ≡ false → answer ≡ not sense
not_agreed true true is = is
not_agreed true false is = refl
not_agreed false true is = refl
not_agreed false false is = sym is

-- a jump where a condition of the flags holds
pub jumps_where :
    {context : Context} {top pushed need : ℕ} {base : List ℕ} {u : SourceState} {facts last : Facts}
    {r : Registers} {memory : List ℕ} {from to : ℕ} {tree : TypedExpression} (branch : Branch) (c : Condition)
    (found : ℕ)
    → IsSound context
    → holds c r.flags ≡ is_true found
    → StepsStand context (PartDoes context) facts from (where_flags_steps branch c) last to
    → Stage context top pushed need base u facts r memory
    → Does (loaded_in context) u.budget 0 (at_place from r memory u.events) (Gave found u)
    (Parts context last tree branch.label branch.sense top base to)
jumps_where {context = context} {top = top} {base = base} {u = u} {facts = facts} {r = r} {memory = memory}
    {from = from} {tree = tree} branch c found sound is (JumpThere there NoneThere) stage =
    by (holds wanted r.flags) refl
  where
    wanted : Condition
    wanted = if branch.sense then c else opposite_condition c

    shown : agree branch.sense (is_true found) ≡ holds wanted r.flags
    shown = ap (agree branch.sense) (sym is) ∙ sym (wanted_holds branch.sense c r.flags)

    by : (taken : Bool) → holds wanted r.flags ≡ taken
        → Does (loaded_in context) u.budget 0 (at_place from r memory u.events) (Gave found u)
        (Parts context facts tree branch.label branch.sense top base (from + 3))
    by true here =
        does_without_step
        (Goes (at_place (context.activation.layout.place_of branch.label.index) r memory u.events)
        (agreed branch.sense (is_true found) (shown ∙ here))
        (word_step (script_of context) context.activation (forms.JumpWhere wanted)
        (AtLabel branch.label.index) [] from (from + 3) r
        memory u.events sound.lies stage.ready.shares.code there
        ∙ ap (λ b. if b then at_place (context.activation.layout.place_of branch.label.index) r memory
        u.events
        else at_place (from + 3) r memory u.events) here)
        (record { r = r; memory = memory; is_at = refl; ready = stage.ready; holds = λ once. stage.known }))
    by false here =
        jump_passed r sound.lies stage.ready.shares.code there here
        (passes (from + 3) found (not_agreed branch.sense (is_true found) (shown ∙ here)) stage)

-- a jump
jumps_always :
    {context : Context} {top pushed need : ℕ} {base : List ℕ} {u : SourceState} {facts last : Facts}
    {r : Registers} {memory : List ℕ} {from to : ℕ} {tree : TypedExpression}
    {label : LabelNumber} {sense : Bool}
    (found : ℕ)
    → IsSound context
    → is_true found ≡ sense
    → StepsStand context (PartDoes context) facts from (Jump forms.Jump label ∷ []) last to
    → Stage context top pushed need base u facts r memory
    → Does (loaded_in context) u.budget 0 (at_place from r memory u.events) (Gave found u)
    (Parts context last tree label sense top base to)
jumps_always {context = context} {u = u} {r = r} {memory = memory} {from = from} {label = label} found sound
    is (JumpThere there NoneThere) stage =
    does_without_step (Goes (at_place (context.activation.layout.place_of label.index) r memory u.events) is
    (word_step (script_of context) context.activation forms.Jump (AtLabel label.index) [] from (from + 3) r
    memory u.events sound.lies stage.ready.shares.code there)
    (record { r = r; memory = memory; is_at = refl; ready = stage.ready; holds = λ once. no_facts_hold }))

-- a jump where the answer is known
pub jumps_known :
    {context : Context} {top pushed need : ℕ} {base : List ℕ} {u : SourceState} {facts last : Facts}
    {r : Registers} {memory : List ℕ} {from to : ℕ} {tree : TypedExpression} (branch : Branch) (answer : Bool)
    (found : ℕ)
    → IsSound context
    → is_true found ≡ answer
    → StepsStand context (PartDoes context) facts from (known_branch_steps branch answer) last to
    → Stage context top pushed need base u facts r memory
    → Does (loaded_in context) u.budget 0 (at_place from r memory u.events) (Gave found u)
    (Parts context last tree branch.label branch.sense top base to)
jumps_known {context = context} {top = top} {base = base} {u = u} {facts = facts} {last = last} {r = r}
    {memory = memory} {from = from} {to = to} {tree = tree} branch answer found sound is stand stage =
    by (agree answer branch.sense) refl stand
  where
    goes : StepsStand context (PartDoes context) facts from (Jump forms.Jump branch.label ∷ []) last to
        → is_true found ≡ branch.sense
        → Does (loaded_in context) u.budget 0 (at_place from r memory u.events) (Gave found u)
        (Parts context last tree branch.label branch.sense top base to)
    goes stand same = jumps_always found sound same stand stage

    by : (jumps : Bool) → agree answer branch.sense ≡ jumps
        → StepsStand context (PartDoes context) facts from
        (if jumps then Jump forms.Jump branch.label ∷ [] else []) last to
        → Does (loaded_in context) u.budget 0 (at_place from r memory u.events) (Gave found u)
        (Parts context last tree branch.label branch.sense top base to)
    by true same stand = goes stand (is ∙ agreeing answer branch.sense same)
    by false same ends =
        at_end ends stage (λ final. passes to found (is ∙ disagreeing answer branch.sense same) final)
