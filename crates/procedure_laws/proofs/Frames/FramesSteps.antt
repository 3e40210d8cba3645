-- Planned steps that stand in the code, taken one by one.
use Rattle.procedure_laws.proofs.Prelude.{◌≡◌, ℕ, ◌+◌, Bool, true, false, List, [], ◌∷◌, ◌++◌, None, refl, subst, Event, SourceState, Outcome, Condition, Instr, Registers, State, holds_of, act, Item, AtLabel, JumpWhere, AgreesIn, size_of_instruction, IsThere, LiesWell, Does, loaded_of, at_place, jump_passed, jump_taken, plain_first, after_mark, after_plain, mark_lies, Facts, LabelNumber, after, no_facts, with_facts, HoldsWritten, JumpWritten, MarkWritten, NoneWritten, PlainWritten, Planned, holds, jump, mark, plain, Here, AreCarriedOut, NoneCarriedOut, StepCarriedOut, carried_steps, here_after, waiting_after, BodyContext}
use Rattle.asm8080.specs.declared.item.Item.TheVariants as items
use Rattle.code_meaning.proofs.Standing.{after_word}

-- planned steps whose code stands from one place to another, where the code is here before them and there
-- after them
pub record StepsLie (at : BodyContext) (here last : Here) (planned : List Planned)
    (from to : ℕ) : Type 0 where
  pub list : List Item
  pub written : AreCarriedOut at.body at.context.called here None planned list last
  pub there : IsThere at.context.activation list from to

-- the first one, by its items, and the others
record Taken (at : BodyContext) (known : Facts) (goes_on : Bool) (first : List Item)
    (others : List Planned) (last : Here)
    (list : List Item) : Type 0 where
  more : List Item
  is : list ≡ first ++ more
  written : AreCarriedOut at.body at.context.called (record { facts = known; goes_on = goes_on })
      None others more last

take_plain :
    (at : BodyContext) {here last : Here} (i : Instr) (others : List Planned) {list : List Item}
    → AreCarriedOut at.body at.context.called here None (plain i ∷ others) list last
    → Taken at (after here.facts i) here.goes_on (items.Plain i ∷ []) others last list
unfolding carried_steps here_after waiting_after
take_plain at i others (StepCarriedOut {more = more} holds (PlainWritten NoneWritten) rest) =
    record { more = more; is = refl; written = rest }

take_jump :
    (at : BodyContext) {here last : Here} (c : Condition) (label : LabelNumber) (others : List Planned)
    {list : List Item}
    → AreCarriedOut at.body at.context.called here None (jump (JumpWhere c) label ∷ others) list last
    → Taken at here.facts here.goes_on (items.WithWord (JumpWhere c) (AtLabel label.index) ∷ []) others last
    list
unfolding carried_steps here_after waiting_after
take_jump at c label others (StepCarriedOut {more = more} holds (JumpWritten NoneWritten) rest) =
    record { more = more; is = refl; written = rest }

take_mark :
    (at : BodyContext) {here last : Here} (label : LabelNumber) (others : List Planned) {list : List Item}
    → AreCarriedOut at.body at.context.called here None (mark label ∷ others) list last
    → Taken at no_facts here.goes_on (items.Mark label.index ∷ []) others last list
unfolding carried_steps here_after waiting_after
take_mark at label others (StepCarriedOut {more = more} holds (MarkWritten NoneWritten) rest) =
    record { more = more; is = refl; written = rest }

take_holds :
    (at : BodyContext) {here last : Here} (held : Facts) (others : List Planned) {list : List Item}
    → AreCarriedOut at.body at.context.called here None (holds held ∷ others) list last
    → Taken at (with_facts here.facts held) here.goes_on [] others last list
unfolding carried_steps here_after waiting_after
take_holds at held others (StepCarriedOut {more = more} holds (HoldsWritten NoneWritten) rest) =
    record { more = more; is = refl; written = rest }

-- an instruction is carried out, and the others lie after it
pub plain_goes :
    {A : Type 0} {budget : ℕ} {outcome : Outcome A} {Good : A → SourceState → State → Type 0}
    {here last : Here} {from to : ℕ} {memory : List ℕ} {events : List Event}
    (at : BodyContext) (i : Instr) (others : List Planned) (r : Registers)
    → LiesWell at.context.activation
    → AgreesIn at.context.activation.around.program.placement.code at.context.activation.image memory
    → StepsLie at here last (plain i ∷ others) from to
    → (StepsLie at (record { facts = after here.facts i; goes_on = here.goes_on }) last others
    (from + size_of_instruction i) to
    → Does (loaded_of at.context.activation) budget 0
    (act at.context.activation.around.program.script i
    (at_place (from + size_of_instruction i) r memory events)) outcome
    Good)
    → Does (loaded_of at.context.activation) budget 0 (at_place from r memory events) outcome Good
plain_goes {A = A} {budget = budget} {outcome = outcome} {Good = Good} {here = here} {last = last}
    {from = from} {to = to} {memory = memory} {events = events} at i others r lies agrees stand rest =
    let taken = take_plain at i others stand.written in
    let there : IsThere at.context.activation (items.Plain i ∷ taken.more) from to
    = subst (λ (list : List Item). IsThere at.context.activation list from to) taken.is stand.there in
    plain_first r lies agrees there
    (rest (record { list = taken.more; written = taken.written; there = after_plain there }))

-- a label stands there, and the others
pub record MarkLies (at : BodyContext) (last : Here) (goes_on : Bool) (label : LabelNumber)
    (others : List Planned)
    (from to : ℕ) : Type 0 where
  pub place : at.context.activation.layout.place_of label.index ≡ from
  pub lie : StepsLie at (record { facts = no_facts; goes_on = goes_on }) last others from to

pub mark_goes :
    {here last : Here} {from to : ℕ} (at : BodyContext) (label : LabelNumber) (others : List Planned)
    → StepsLie at here last (mark label ∷ others) from to
    → MarkLies at last here.goes_on label others from to
mark_goes {here = here} {last = last} {from = from} {to = to} at label others stand =
    let taken = take_mark at label others stand.written in
    let there : IsThere at.context.activation (items.Mark label.index ∷ taken.more) from to
    = subst (λ (list : List Item). IsThere at.context.activation list from to) taken.is stand.there in
    record {
      place = mark_lies there;
      lie = record { list = taken.more; written = taken.written; there = after_mark there };
    }

-- what holds is said without an instruction
pub holds_goes :
    {here last : Here} {from to : ℕ} (at : BodyContext) (held : Facts) (others : List Planned)
    → StepsLie at here last (holds held ∷ others) from to
    → StepsLie at (record { facts = with_facts here.facts held; goes_on = here.goes_on }) last others from to
holds_goes {here = here} {last = last} {from = from} {to = to} at held others stand =
    let taken = take_holds at held others stand.written in
    record {
      list = taken.more;
      written = taken.written;
      there = subst (λ (list : List Item). IsThere at.context.activation list from to) taken.is stand.there;
    }

-- at the end nothing stands
pub record IsEnd (here last : Here) (from to : ℕ) : Type 0 where
  pub is : last ≡ here
  pub place : from ≡ to

none_left :
    (at : BodyContext) {here last : Here} {list : List Item}
    → AreCarriedOut at.body at.context.called here None [] list last
    → (list ≡ []) × (last ≡ here)
none_left at NoneCarriedOut = (refl, refl)

pub end_goes :
    {here last : Here} {from to : ℕ} (at : BodyContext) → StepsLie at here last [] from to
    → IsEnd here last from to
end_goes {here = here} {last = last} {from = from} {to = to} at stand =
    let none = none_left at stand.written in
    let there : IsThere at.context.activation [] from to
    = subst (λ (list : List Item). IsThere at.context.activation list from to) none.0 stand.there in
    record { is = none.1; place = there.stands }

-- a conditional jump that is made, and one that is not
pub jump_goes :
    {A : Type 0} {budget : ℕ} {outcome : Outcome A} {Good : A → SourceState → State → Type 0}
    {here last : Here} {from to : ℕ} {memory : List ℕ} {events : List Event}
    (at : BodyContext) (c : Condition) (label : LabelNumber) (others : List Planned) (r : Registers)
    → LiesWell at.context.activation
    → AgreesIn at.context.activation.around.program.placement.code at.context.activation.image memory
    → StepsLie at here last (jump (JumpWhere c) label ∷ others) from to
    → holds_of c r.flags ≡ true
    → Does (loaded_of at.context.activation) budget 0
    (at_place (at.context.activation.layout.place_of label.index) r memory events) outcome Good
    → Does (loaded_of at.context.activation) budget 0 (at_place from r memory events) outcome Good
jump_goes {from = from} {to = to} at c label others r lies agrees stand is rest =
    let taken = take_jump at c label others stand.written in
    let there : IsThere at.context.activation
    (items.WithWord (JumpWhere c) (AtLabel label.index) ∷ taken.more) from to
    = subst (λ (list : List Item). IsThere at.context.activation list from to) taken.is stand.there in
    jump_taken r lies agrees there is rest

pub jump_stays :
    {A : Type 0} {budget : ℕ} {outcome : Outcome A} {Good : A → SourceState → State → Type 0}
    {here last : Here} {from to : ℕ} {memory : List ℕ} {events : List Event}
    (at : BodyContext) (c : Condition) (label : LabelNumber) (others : List Planned) (r : Registers)
    → LiesWell at.context.activation
    → AgreesIn at.context.activation.around.program.placement.code at.context.activation.image memory
    → StepsLie at here last (jump (JumpWhere c) label ∷ others) from to
    → holds_of c r.flags ≡ false
    → (StepsLie at here last others (from + 3) to
    → Does (loaded_of at.context.activation) budget 0
    (at_place (from + 3) r memory events) outcome Good)
    → Does (loaded_of at.context.activation) budget 0 (at_place from r memory events) outcome Good
jump_stays {here = here} {last = last} {from = from} {to = to} at c label others r lies agrees stand is rest =
    let taken = take_jump at c label others stand.written in
    let there : IsThere at.context.activation
    (items.WithWord (JumpWhere c) (AtLabel label.index) ∷ taken.more) from to
    = subst (λ (list : List Item). IsThere at.context.activation list from to) taken.is stand.there in
    jump_passed r lies agrees there is
    (rest (record { list = taken.more; written = taken.written; there = after_word there }))
