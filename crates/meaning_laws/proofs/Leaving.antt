-- No procedure is left by a jump, and a main program is left at its end alone.
use Rattle.meaning_laws.proofs.Prelude.{◌≡◌, ℕ, [], slice_get, Option, Some, None, recursion_from_All, BodyIsSound, JumpsAreSound, TypedExpression, TypedModule, TypedProcedure, IsReturned, IsWellTyped, TypesHoldIn, TypesHoldInElse, TypesHoldInList, TypesHoldInStatements, WithinMain, Surroundings, done_list, later_by, State, Outcome, Gave, Stopped, Flow, Onward, Returned, Jumped, Stays, body_stays, no_jump, Leaves, LeavesMain, LeavesProcedure, at_place}
use Rattle.meaning.proofs.Flows.{GoodWays, LeftBy, list_is_left}
use Rattle.meaning.proofs.Preserves.{Condition}

not_jumped : (outcome : Outcome Flow) → Stays [] outcome → Leaves LeavesProcedure outcome
not_jumped (Gave Onward t) stays = tt
not_jumped (Gave (Returned found) t) stays = tt
not_jumped (Gave (Jumped label) t) stays = absurd (no_jump label stays)
not_jumped (Stopped why t) stays = tt

-- The body of a procedure is not left by a jump, with any budget.
pub procedure_is_left : (typed : TypedModule) (number : ℕ) (procedure : TypedProcedure) (count : ℕ)
    (around : Surroundings) (s : State)
    → JumpsAreSound typed → slice_get typed.procedures number ≡ Some procedure
    → Leaves LeavesProcedure (done_list (later_by count) around procedure.body s)
procedure_is_left typed number procedure count around s sound is =
    let body : BodyIsSound procedure.body =
    at_place (λ (one : TypedProcedure). BodyIsSound one.body) typed.procedures number procedure
    (recursion_from_All _ typed.procedures sound.procedures) is in
    not_jumped (done_list (later_by count) around procedure.body s)
    (body_stays count procedure.body around s body.closed)

-- what does not return
abbrev StaysIn : Flow → Type 0
StaysIn Onward = Unit {0}
StaysIn (Returned found) = ⊥
StaysIn (Jumped label) = Unit {0}

module _ (typed : TypedModule) where
  -- the types hold in a main program
  abbrev main_types : Condition (Unit {0})
  main_types = record {
    Holds = λ c statement. TypesHoldIn typed WithinMain statement;
    HoldsElse = λ c otherwise. TypesHoldInElse typed WithinMain otherwise;
    HoldsCase = λ c statements. TypesHoldInStatements typed WithinMain statements;
    HoldsAll = λ c statements. TypesHoldInStatements typed WithinMain statements;
    HoldsList = λ c list. TypesHoldInList typed WithinMain list;
    inside = λ c list. tt;
    of_branches = λ c condition body otherwise fits. (fits.1, fits.2);
    of_else = λ c statement fits. fits;
    of_group = λ c body fits. fits;
    of_loop = λ c head body fits. fits.1;
    of_choices = λ c choice body fits. fits.1;
    of_choice = λ c first others fits. fits;
    of_each = λ c first others fits. fits;
    of_items = λ c first places statements fits. fits;
  }

  -- so it has no RETURN
  no_return : (expression : Option TypedExpression) → IsReturned typed WithinMain expression → ⊥
  no_return None fits = fits
  no_return (Some expression) fits = fits

  no_returns : GoodWays main_types (λ c. StaysIn)
  no_returns = record {
    onward = λ c. tt;
    returned = λ c expression found fits. no_return expression fits;
    jumped = λ c label fits. tt;
    returned_out = λ c list found stays. stays;
    jumped_out = λ c first label places statements none stays. tt;
  }

at_its_end : (outcome : Outcome Flow) → Stays [] outcome → LeftBy StaysIn outcome → Leaves LeavesMain outcome
at_its_end (Gave Onward t) stays returned = tt
at_its_end (Gave (Returned found) t) stays returned = absurd returned
at_its_end (Gave (Jumped label) t) stays returned = absurd (no_jump label stays)
at_its_end (Stopped why t) stays returned = tt

-- A main program is left at its end alone, with any budget.
pub main_is_left : (typed : TypedModule) (count : ℕ) (around : Surroundings) (s : State)
    → JumpsAreSound typed → IsWellTyped typed
    → Leaves LeavesMain (done_list (later_by count) around typed.main.body s)
main_is_left typed count around s sound types =
    at_its_end (done_list (later_by count) around typed.main.body s)
    (body_stays count typed.main.body around s (sound.main).closed)
    (list_is_left (main_types typed) (λ c. StaysIn) (no_returns typed) count tt typed.main.body around s
    types.main)
