-- A call from three parts: how its procedure begins, its statements, and how it returns.
use Rattle.procedure_laws.proofs.Prelude.{◌≡◌, ℕ, ◌+◌, ◌-◌, ◌*◌, ◌<◌, ◌≤◌, ◌⊎◌, inl, inr, Bool, true, false, List, [], length, Option, refl, sym, ap, subst, ◌∙◌, arith, ScalarType, height_of_list, ListStands, TypedProcedure, TypesHoldInList, done_list, entered, value_of_flow, Flow, Gave, Jumped, Onward, Outcome, Returned, SourceState, then_do, Registers, State, wrap, Item, Keeps, Range, IsList, Activation, IsReady, IsThere, LiesWell, Owns, Arrives, Does, loaded_of, at_place, then_does, keeps_both, keeps_wider, Facts, Here, ResultLies, bytes_pushed, nodes_in, then_does_where, BodyContext, ComesToReturn, GoesOn, Leaves, ReturnStands, ListDoes, ComesBack, IsEntered, IsOfCall, ReturnLies, IsEndCode, BeginDoes, HasReturned, ReturnDoes, no_jump}
use Rattle.procedure_laws.proofs.Ends.{end_does}
use Rattle.procedure_laws.proofs.Ways.{IsLeftBy, LeavesBy, Ways}

-- the bytes of an activation are those of its call
pub owned_by_call :
    (activation : Activation) (address : ℕ)
    → LiesWell activation
    → Owns activation activation.level address
    → IsOfCall activation.around.program activation.floor (activation.level + activation.whole) address
owned_by_call activation address lies (inl variable) = inl variable
owned_by_call activation address lies (inr (inl mine)) =
    let low : activation.floor ≤ address = mine.0 in
    let high : address < activation.level = mine.1 in
    inr (low, omega (arith, high))
owned_by_call activation address lies (inr (inr mine)) =
    let level : activation.level ≤ address = mine.0 in
    let high : address < activation.level + activation.whole = mine.1 in
    let start = lies.low in
    inr (omega (arith, level, start), high)

-- the return address stays while an activation runs
not_owned :
    (activation : Activation) (top address : ℕ)
    → LiesWell activation
    → activation.back + 2 ≤ activation.whole
    → top ≤ activation.level
    → (address ≡ activation.level + activation.back) ⊎ (address ≡ activation.level + activation.back + 1)
    → Owns activation top address
    → ⊥
not_owned activation top address lies within low is (inl variable) = by_place is
  where
    start : activation.around.program.placement.stack.start ≤ activation.level
    start = let bottom = lies.bottom in let low = lies.low in omega (arith, bottom, low)

    above : activation.level + activation.whole
        ≤ activation.around.program.placement.stack.start + activation.around.program.placement.stack.len
    above = lies.above

    by_place : (address ≡ activation.level + activation.back)
        ⊎ (address ≡ activation.level + activation.back + 1) → ⊥
    by_place (inl same) =
        lies.placed.stack_free address variable.0 (omega (arith, same, start))
        (omega (arith, same, within, above))
    by_place (inr same) =
        lies.placed.stack_free address variable.0 (omega (arith, same, start))
        (omega (arith, same, within, above))
not_owned activation top address lies within low is (inr (inl mine)) = by_place is
  where
    less : address < top
    less = mine.1

    by_place : (address ≡ activation.level + activation.back)
        ⊎ (address ≡ activation.level + activation.back + 1) → ⊥
    by_place (inl same) = omega (arith, same, less, low)
    by_place (inr same) = omega (arith, same, less, low)
not_owned activation top address lies within low is (inr (inr mine)) = by_place is
  where
    by_place : (address ≡ activation.level + activation.back)
        ⊎ (address ≡ activation.level + activation.back + 1) → ⊥
    by_place (inl same) = mine.2 same
    by_place (inr same) = mine.3 same

return_stays :
    (activation : Activation) (back : ℕ) (before memory : List ℕ)
    → LiesWell activation
    → activation.back + 2 ≤ activation.whole
    → Keeps (Owns activation activation.level) before memory
    → ReturnLies (activation.level + activation.back) back before
    → ReturnLies (activation.level + activation.back) back memory
return_stays activation back before memory lies within kept return_lies = record {
  low =
      kept.bytes (activation.level + activation.back)
      (not_owned activation activation.level (activation.level + activation.back) lies within
      (omega arith) (inl refl))
      ∙ return_lies.low;
  high =
      kept.bytes (activation.level + activation.back + 1)
      (not_owned activation activation.level (activation.level + activation.back + 1) lies within
      (omega arith) (inr refl))
      ∙ return_lies.high;
}

-- Where a procedure begins, its list does what it says and its return returns, its code from the entry on
-- does what the call means.
pub entered_does :
    (at : BodyContext) (number : ℕ) (found : TypedProcedure) (range : Range)
    (room entry middle end_place to top bound : ℕ) (facts : Facts) (last : Here)
    (reaches : Bool) (ends : List Item)
    → LiesWell at.context.activation
    → at.context.activation.back + 2 ≤ at.context.activation.whole
    → at.context.activation.level + at.context.activation.whole
    ≡ top + 2 + 2 * (length found.parameter_types - 1)
    → at.context.activation.floor + at.context.activation.around.room
    + (2 + 2 * height_of_list found.body) ≤ at.context.activation.level
    → at.body.procedure.now.result ≡ found.result
    → BeginDoes at number found room entry middle top facts
    → ListDoes at facts range middle last end_place
    → IsList (nodes_in at.context) at.context.storage at.labels bound range found.body
    → TypesHoldInList at.context.typed at.context.within found.body
    → ListStands found.body
    → ((s : SourceState) → IsLeftBy (record { reaches = reaches; returns = true; labels = [] })
    (done_list at.context.later at.context.activation.around found.body s))
    → IsEndCode at.body at.context.called last reaches ends
    → IsThere at.context.activation ends end_place to
    → ReturnDoes at (at.context.activation.level + at.context.activation.whole)
    → (back : ℕ) (values : List ℕ) (s : SourceState) (r : Registers) (memory : List ℕ)
    → s.budget < at.context.number
    → bytes_pushed values ≡ 2 * (length found.parameter_types - 1)
    → IsEntered at.context.activation.around.program at.context.activation.image room
    found.parameter_types values
    top back s r memory
    → Does (loaded_of at.context.activation) s.budget 0 (at_place entry r memory s.events)
    (entered at.context.later at.context.typed number found values at.context.activation.around s)
    (ComesBack at.context.activation.around.program at.context.activation.image found.result
    at.context.activation.floor
    (top + 2 + bytes_pushed values) back s memory)
entered_does at number found range room entry middle end_place to top bound facts last reaches ends lies
    within_whole ends_above has_room result_is begins does is types stands left end_is there returns back
    values s r memory below as_many enters =
    then_does (begins back values s r memory enters)
    (λ given t end begun spent.
    subst (λ (state : State).
    Does (loaded_of activation) t.budget 0 state
    (then_do (done_list at.context.later activation.around found.body t)
    (λ flow u. Gave (value_of_flow flow) (record u { frame = s.frame }))) Good)
    (sym begun.is_at)
    (then_does_where (done_list at.context.later activation.around found.body t)
    (does bound found.body is types stands begun.memory t begun.r begun.memory (omega (arith, spent, below))
    (record { depth = omega arith; enough = has_room; even = refl }) begun.ready begun.known)
    (λ flow u state gave leaves spent_too.
    by_flow flow t u state (subst (λ (outcome : Outcome Flow). IsLeftBy ways outcome) gave (left t))
    begun.r begun.memory begun.kept begun.return_lies leaves)))
  where
    activation : Activation
    activation = at.context.activation

    ways : Ways
    ways = record { reaches = reaches; returns = true; labels = [] }

    Good : ℕ → SourceState → State → Type 0
    Good =
        ComesBack activation.around.program activation.image found.result activation.floor
        (top + 2 + bytes_pushed values) back s memory

    above_is : activation.level + activation.whole ≡ top + 2 + bytes_pushed values
    above_is = omega (arith, ends_above, as_many)

    -- the return comes back to the caller
    comes_back : (before : List ℕ) (value : ℕ) (u : SourceState) (place : ℕ)
        (now : Registers) (ended : List ℕ)
        → Keeps (IsOfCall activation.around.program activation.floor (top + 2 + bytes_pushed values)) memory
        before
        → ReturnStands at place
        → ReturnLies (activation.level + activation.back) back before
        → IsReady activation activation.level before u.memory u.frame now ended
        → ResultLies at.body.procedure.now.result value now ended
        → Does (loaded_of activation) u.budget 0 (at_place place now ended u.events)
        (Gave value (record u { frame = s.frame })) Good
    comes_back before value u place now ended kept stands_there return_lies ready lie =
        let came =
        returns place back value before u now ended stands_there ready lie
        (return_stays activation back before ended lies within_whole ready.kept return_lies) in
        record {
          told = record {
            count = came.count;
            end = came.end;
            run = came.run;
            paid = came.paid;
            spent = came.spent;
            is_good = good before value u now ended kept ready.kept came.end came.is_good;
          };
        }
      where
        good : (before : List ℕ) (value : ℕ) (u : SourceState) (now : Registers) (ended : List ℕ)
            → Keeps (IsOfCall activation.around.program activation.floor (top + 2 + bytes_pushed values))
            memory before
            → Keeps (Owns activation activation.level) before ended
            → (end : State)
            → HasReturned at at.body.procedure.now.result (activation.level + activation.whole)
            back ended value u end
            → ComesBack activation.around.program activation.image found.result activation.floor
            (top + 2 + bytes_pushed values) back s
            memory value (record u { frame = s.frame }) end
        good before value u now ended kept own end has = record {
          r = has.r;
          memory = has.memory;
          is_at = has.is_at;
          shares = has.shares;
          frame = refl;
          registers = has.registers;
          pointer = has.pointer ∙ ap wrap above_is;
          kept =
              keeps_both (IsOfCall activation.around.program activation.floor (top + 2 + bytes_pushed values))
              memory before has.memory kept
              (keeps_both (IsOfCall activation.around.program activation.floor
              (top + 2 + bytes_pushed values)) before ended has.memory
              (subst (λ (above : ℕ). Keeps (IsOfCall activation.around.program activation.floor above)
              before ended) above_is
              (keeps_wider (Owns activation activation.level)
              (IsOfCall activation.around.program activation.floor (activation.level + activation.whole))
              before ended
              (λ address own. owned_by_call activation address lies own) own))
              (subst (λ (above : ℕ). Keeps (IsOfCall activation.around.program activation.floor above) ended
              has.memory) above_is has.kept));
          lies =
              subst (λ (result : Option ScalarType). ResultLies result value has.r has.memory) result_is
              has.lies;
        }

    by_reaches : (reaches_end : Bool) (before : List ℕ) (u : SourceState) (state : State)
        → reaches_end ≡ true
        → IsEndCode at.body at.context.called last reaches_end ends
        → Keeps (IsOfCall activation.around.program activation.floor (top + 2 + bytes_pushed values)) memory
        before
        → ReturnLies (activation.level + activation.back) back before
        → GoesOn at before end_place last u state
        → Does (loaded_of activation) u.budget 0 state (Gave 0 (record u { frame = s.frame })) Good
    by_reaches false before u state is_reached is_end kept return_lies goes = let bad : ⊥ = cc in absurd bad
    by_reaches true before u state is_reached is_end kept return_lies goes =
        let comes = goes.comes in
        subst (λ (state : State).
        Does (loaded_of activation) u.budget 0 state (Gave 0 (record u { frame = s.frame })) Good)
        (sym comes.is_at)
        (end_does at last is_end.0 ends end_place to comes.r lies is_end.1 there comes.ready
        (λ place now stands_there ready lie.
        comes_back before 0 u place now comes.memory kept stands_there return_lies ready lie))

    by_flow : (flow : Flow) (t u : SourceState) (state : State)
        → LeavesBy ways flow
        → (begun_registers : Registers) (before : List ℕ)
        → Keeps (IsOfCall activation.around.program activation.floor (top + 2 + bytes_pushed values)) memory
        before
        → ReturnLies (activation.level + activation.back) back before
        → Leaves at before end_place last t.budget flow u state
        → Does (loaded_of activation) u.budget 0 state
        (Gave (value_of_flow flow) (record u { frame = s.frame })) Good
    by_flow Onward t u state by_way begun_registers before kept return_lies leaves =
        by_reaches reaches before u state by_way end_is kept return_lies leaves
    by_flow (Returned value) t u state by_way begun_registers before kept return_lies leaves =
        subst (λ (state : State).
        Does (loaded_of activation) u.budget 0 state
        (Gave value (record u { frame = s.frame })) Good)
        (sym comes_of.is_at)
        (comes_back before value u returning.place comes_of.r comes_of.memory kept
        returning.stands return_lies
        comes_of.ready comes_of.holds)
      where
        returning : ComesToReturn at before value u state
        returning = leaves

        comes_of : Arrives activation activation.level before returning.place
            (λ (given : Unit {0}) (r : Registers) (memory : List ℕ).
            ResultLies at.body.procedure.now.result value r memory) tt u state
        comes_of = returning.comes
    by_flow (Jumped label) t u state by_way begun_registers before kept return_lies leaves =
        absurd (no_jump label by_way)
