-- The first of planned steps that stand, and what follows it.
use Rattle.statement_laws.proofs.Prelude.{◌≡◌, ℕ, ◌+◌, Bool, if◌then◌else◌, List, [], ◌∷◌, ◌++◌, Option, Some, None, refl, Instr, WordForm, size_of_instruction, Range, StatementNumber, IsThere, Facts, LabelNumber, Step, Task, after, after_form, no_facts, jump_item, Planned, jump, mark, part, Here, arriving, carried_steps, here_after, jump_on_steps, known_here, met, waiting_after, StepsStand, JumpThere, MarkThere, NoneThere, PartThere, PlainThere, PartDoes, TaskDoes, BodyContext, ListDoes, ListPlanned, NonePlanned, PlannedStand, StatementDoes, StatementPlanned, StepPlanned}
use Rattle.asm8080.specs.declared.item.Item.TheVariants as items
use Rattle.steps8080.specs.declared.step.Step.TheVariants as steps
use Rattle.statements8080.specs.declared.plan.Planned.TheVariants as planned
use Rattle.statements8080.specs.internal.Plans.{plain}

-- planned steps stand, where the statements and lists in them do what they say
abbrev pub Stand : BodyContext → Here → (waiting : Option Facts) → (from : ℕ) → List Planned
    → Here → (to : ℕ) → Type 0
Stand at here waiting from steps last to =
    PlannedStand at (StatementDoes at) (ListDoes at) here waiting from steps last to

-- code that goes on where this is known
abbrev pub going : (goes_on : Bool) → Facts → Here
going goes_on facts = record { facts = facts; goes_on = goes_on }

-- no more steps
pub record Ends (here : Here) (from : ℕ) (last : Here) (to : ℕ) : Type 0 where
  pub same : last ≡ here
  pub place : to ≡ from

pub steps_ended :
    {at : BodyContext} {here last : Here} {waiting : Option Facts} {from to : ℕ}
    → Stand at here waiting from [] last to
    → Ends here from last to
steps_ended NonePlanned = record { same = refl; place = refl }

-- steps of expressions
pub record CarriedFirst
    (at : BodyContext) (here : Here) (waiting : Option Facts) (from : ℕ) (carried : List Step)
    (next : (known : Facts) → Here) (waits : Option Facts) (others : List Planned) (last : Here)
    (to : ℕ) : Type 0 where
  pub known : Facts
  pub middle : ℕ
  pub first : StepsStand at.context (PartDoes at.context) here.facts from carried known middle
  pub rest : Stand at (next known) waits middle others last to

-- one step
pub code_first :
    {at : BodyContext} {here last : Here} {waiting : Option Facts} {from to : ℕ} (step : Step)
    {others : List Planned}
    → Stand at here waiting from (planned.Code step ∷ others) last to
    → CarriedFirst at here waiting from (step ∷ []) (going here.goes_on) waiting others last to
unfolding carried_steps here_after waiting_after
code_first step (StepPlanned {known = known} {middle = middle} ok first rest) =
    record { known = known; middle = middle; first = first; rest = rest }

-- a part
pub record PartFirst
    (at : BodyContext) (here : Here) (waiting : Option Facts) (from : ℕ) (task : Task) (others : List Planned)
    (last : Here) (to : ℕ) : Type 0 where
  pub known : Facts
  pub middle : ℕ
  pub does : TaskDoes at.context here.facts task 0 from known middle
  pub rest : Stand at (going here.goes_on known) waiting middle others last to

pub part_first :
    {at : BodyContext} {here last : Here} {waiting : Option Facts} {from to : ℕ} {task : Task}
    {others : List Planned}
    → Stand at here waiting from (part task 0 ∷ others) last to
    → PartFirst at here waiting from task others last to
part_first {at = at} {here = here} {last = last} {waiting = waiting} {from = from} {to = to} {task = task}
    {others = others} stand =
    let code = code_first (steps.Part (record { task = task; pushed = 0 })) stand in
    by code.known code.middle code.first code.rest
  where
    by : (known : Facts) (middle : ℕ)
        → StepsStand at.context (PartDoes at.context) here.facts from
        (steps.Part (record { task = task; pushed = 0 }) ∷ []) known middle
        → Stand at (going here.goes_on known) waiting middle others last to
        → PartFirst at here waiting from task others last to
    by known middle (PartThere does NoneThere) rest =
        record { known = known; middle = middle; does = does; rest = rest }

-- an instruction
pub record PlainFirst
    (at : BodyContext) (here : Here) (waiting : Option Facts) (from : ℕ) (i : Instr) (others : List Planned)
    (last : Here) (to : ℕ) : Type 0 where
  pub there : IsThere at.context.activation (items.Plain i ∷ []) from (from + size_of_instruction i)
  pub rest : Stand at (going here.goes_on (after here.facts i)) waiting
      (from + size_of_instruction i) others last to

pub plain_first :
    {at : BodyContext} {here last : Here} {waiting : Option Facts} {from to : ℕ} {i : Instr}
    {others : List Planned}
    → Stand at here waiting from (plain i ∷ others) last to
    → PlainFirst at here waiting from i others last to
plain_first {at = at} {here = here} {last = last} {waiting = waiting} {from = from} {to = to} {i = i}
    {others = others} stand =
    let code = code_first (steps.Plain i) stand in
    by code.known code.middle code.first code.rest
  where
    by : (known : Facts) (middle : ℕ)
        → StepsStand at.context (PartDoes at.context) here.facts from (steps.Plain i ∷ []) known middle
        → Stand at (going here.goes_on known) waiting middle others last to
        → PlainFirst at here waiting from i others last to
    by known middle (PlainThere there NoneThere) rest = record { there = there; rest = rest }

-- a jump, or another instruction with the place of a label
pub record JumpFirst
    (at : BodyContext) (here : Here) (waiting : Option Facts) (from : ℕ) (form : WordForm)
    (label : LabelNumber)
    (others : List Planned) (last : Here) (to : ℕ) : Type 0 where
  pub there : IsThere at.context.activation (jump_item form label ∷ []) from (from + 3)
  pub rest : Stand at (going here.goes_on (after_form here.facts form)) waiting (from + 3) others last to

pub jump_first :
    {at : BodyContext} {here last : Here} {waiting : Option Facts} {from to : ℕ} {form : WordForm}
    {label : LabelNumber}
    {others : List Planned}
    → Stand at here waiting from (jump form label ∷ others) last to
    → JumpFirst at here waiting from form label others last to
jump_first {at = at} {here = here} {last = last} {waiting = waiting} {from = from} {to = to} {form = form}
    {label = label} {others = others} stand =
    let code = code_first (steps.Jump form label) stand in
    by code.known code.middle code.first code.rest
  where
    by : (known : Facts) (middle : ℕ)
        → StepsStand at.context (PartDoes at.context) here.facts from
        (steps.Jump form label ∷ []) known middle
        → Stand at (going here.goes_on known) waiting middle others last to
        → JumpFirst at here waiting from form label others last to
    by known middle (JumpThere there NoneThere) rest = record { there = there; rest = rest }

-- the place of a label
pub record MarkFirst
    (at : BodyContext) (next : Here) (waits : Option Facts) (from : ℕ) (label : LabelNumber)
    (others : List Planned)
    (last : Here) (to : ℕ) : Type 0 where
  pub lies : at.context.activation.layout.place_of label.index ≡ from
  pub rest : Stand at next waits from others last to

marked :
    {at : BodyContext} {last : Here} {waits : Option Facts} {from to : ℕ} {label : LabelNumber}
    {others : List Planned} (here : Here) (next : (known : Facts) → Here) (known : Facts) (middle : ℕ)
    → StepsStand at.context (PartDoes at.context) here.facts from (steps.Mark label ∷ []) known middle
    → Stand at (next known) waits middle others last to
    → MarkFirst at (next no_facts) waits from label others last to
marked here next known middle (MarkThere lies NoneThere) rest = record { lies = lies; rest = rest }

pub mark_first :
    {at : BodyContext} {here last : Here} {waiting : Option Facts} {from to : ℕ} {label : LabelNumber}
    {others : List Planned}
    → Stand at here waiting from (mark label ∷ others) last to
    → MarkFirst at (going here.goes_on no_facts) waiting from label others last to
mark_first {here = here} {label = label} stand =
    let code = code_first (steps.Mark label) stand in
    marked here (λ known. going here.goes_on known) code.known code.middle code.first code.rest

-- the place of a label where two ways meet
pub meet_first :
    {at : BodyContext} {here last : Here} {waiting : Option Facts} {from to : ℕ} {label : LabelNumber}
    {others : List Planned}
    → Stand at here waiting from (planned.Meet label ∷ others) last to
    → MarkFirst at (arriving (met (known_here here) waiting)) waiting from label others last to
unfolding carried_steps here_after waiting_after
meet_first {here = here} {waiting = waiting} (StepPlanned {known = known} {middle = middle} ok first rest) =
    marked here (λ facts. arriving (met (known_here here) waiting)) known middle first rest

-- the place of a label that later code jumps back to
pub again_first :
    {at : BodyContext} {here last : Here} {waiting : Option Facts} {from to : ℕ}
    {label : LabelNumber} {facts : Facts}
    {is_entered : Bool} {others : List Planned}
    → Stand at here waiting from (planned.Again label facts is_entered ∷ others) last to
    → MarkFirst at (arriving (met (if is_entered then known_here here else None) (Some facts))) waiting from
    label
    others last to
unfolding carried_steps here_after waiting_after
again_first {here = here} {facts = facts} {is_entered = is_entered}
    (StepPlanned {known = known} {middle = middle} ok first rest) =
    marked here (λ given. arriving (met (if is_entered then known_here here else None) (Some facts))) known
    middle
    first rest

-- a jump that waits for a label
pub jumped_first :
    {at : BodyContext} {here last : Here} {waiting : Option Facts} {from to : ℕ} {is_the_only_one : Bool}
    {others : List Planned}
    → Stand at here waiting from (planned.Jumped is_the_only_one ∷ others) last to
    → Stand at (going here.goes_on here.facts)
    (Some (if is_the_only_one then here.facts else no_facts)) from others
    last to
unfolding carried_steps here_after waiting_after
jumped_first (StepPlanned ok NoneThere rest) = rest

-- whether the code goes on
pub reaches_first :
    {at : BodyContext} {here last : Here} {waiting : Option Facts} {from to : ℕ} {goes_on : Bool}
    {others : List Planned}
    → Stand at here waiting from (planned.Reaches goes_on ∷ others) last to
    → Stand at (going goes_on here.facts) waiting from others last to
unfolding carried_steps here_after waiting_after
reaches_first (StepPlanned ok NoneThere rest) = rest

-- a jump to a label, where the code goes on to here
pub jump_on_first :
    {at : BodyContext} {here last : Here} {waiting : Option Facts} {from to : ℕ} {label : LabelNumber}
    {others : List Planned}
    → Stand at here waiting from (planned.JumpOn label ∷ others) last to
    → CarriedFirst at here waiting from (jump_on_steps here.goes_on label) (going here.goes_on)
    waiting others last to
unfolding carried_steps here_after waiting_after
jump_on_first (StepPlanned {known = known} {middle = middle} ok first rest) =
    record { known = known; middle = middle; first = first; rest = rest }

-- the end of one way and the begin of another
pub turn_first :
    {at : BodyContext} {here last : Here} {waiting : Option Facts} {from to : ℕ} {other end : LabelNumber}
    {others : List Planned}
    → Stand at here waiting from (planned.Turn other end ∷ others) last to
    → CarriedFirst at here waiting from (jump_on_steps here.goes_on end ++ (steps.Mark other ∷ []))
    (λ known. arriving waiting) (known_here here) others last to
unfolding carried_steps here_after waiting_after
turn_first (StepPlanned {known = known} {middle = middle} ok first rest) =
    record { known = known; middle = middle; first = first; rest = rest }

-- a statement
pub record StatementFirst
    (at : BodyContext) (here : Here) (waiting : Option Facts) (from : ℕ) (number : StatementNumber)
    (others : List Planned) (last : Here) (to : ℕ) : Type 0 where
  pub after : Here
  pub middle : ℕ
  pub does : StatementDoes at here.facts number from after middle
  pub rest : Stand at after waiting middle others last to

no_step : {A : Type 0} → ⊥ → A
no_step none = absurd none

pub statement_first :
    {at : BodyContext} {here last : Here} {waiting : Option Facts} {from to : ℕ} {number : StatementNumber}
    {others : List Planned}
    → Stand at here waiting from (planned.Statement number ∷ others) last to
    → StatementFirst at here waiting from number others last to
statement_first (StepPlanned ok first rest) = no_step ok
statement_first (StatementPlanned {after = after} {middle = middle} does rest) =
    record { after = after; middle = middle; does = does; rest = rest }

-- a list
pub record ListFirst
    (at : BodyContext) (here : Here) (waiting : Option Facts) (from : ℕ) (list : Range)
    (others : List Planned) (last : Here) (to : ℕ) : Type 0 where
  pub after : Here
  pub middle : ℕ
  pub does : ListDoes at here.facts list from after middle
  pub rest : Stand at after waiting middle others last to

pub list_first :
    {at : BodyContext} {here last : Here} {waiting : Option Facts} {from to : ℕ} {list : Range}
    {others : List Planned}
    → Stand at here waiting from (planned.List list ∷ others) last to
    → ListFirst at here waiting from list others last to
list_first (StepPlanned ok first rest) = no_step ok
list_first (ListPlanned {after = after} {middle = middle} does rest) =
    record { after = after; middle = middle; does = does; rest = rest }
