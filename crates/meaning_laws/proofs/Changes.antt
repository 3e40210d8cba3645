-- Only bytes that may be written change: along a call, and along the run of a main program.
use Rattle.meaning_laws.proofs.Prelude.{◌≡◌, ℕ, suc, ◌-◌, ◌<◌, ◌≤◌, Bool, true, false, List, cond, nat_lt, refl, arith, charge_of, TypedModule, InProgram, IsWritable, writable_told, Stack, Surroundings, is_constant, done_list, later_by, Program, State, Outside, Outcome, Gave, Stopped, main_done, Extra, Follows, Keeps, jump_took, nothing_else, follows_itself, later_keeps, list_keeps, ChangesWritable, OnlyWritableDiffer}
use Rattle.meaning.specs.Access.{is_declared}

differ_writable : (program : Program) (s t : State) → Follows program s t → OnlyWritableDiffer program s t
differ_writable program s t follows address differs =
    by (is_declared program address) (is_constant program address) refl refl
  where
    by : (declared constant : Bool) → is_declared program address ≡ declared
        → is_constant program address ≡ constant
        → IsWritable program.modules program.placement address
    by false constant is told = absurd (differs (follows.undeclared address is))
    by true true is told = absurd (differs (follows.constants address told))
    by true false is told = writable_told program.modules program.placement address is told

changes_writable : {A : Type 0} (program : Program) (extra : Extra A) (s : State) (outcome : Outcome A)
    → Keeps program extra s outcome → ChangesWritable program s outcome
changes_writable program extra s (Gave found t) kept = differ_writable program s t kept.0.follows
changes_writable program extra s (Stopped why t) kept = differ_writable program s t kept.0

-- a call
pub call_changes_writable : (number : ℕ) (at : InProgram) (arguments : List ℕ)
    (around : Surroundings) (s : State)
    → s.budget < number
    → ChangesWritable around.program s ((later_by number).call at arguments around s)
call_changes_writable number at arguments around s below =
    changes_writable around.program nothing_else s ((later_by number).call at arguments around s)
    ((later_keeps number).call at arguments around s below)

-- the run of a main program, with any budget
pub main_changes_writable : (budget : ℕ) (typed : TypedModule) (around : Surroundings) (s : State)
    → s.budget ≤ budget
    → ChangesWritable around.program s (main_done budget typed around s)
main_changes_writable budget typed around s below =
    changes_writable around.program jump_took s (main_done budget typed around s)
    (by (nat_lt around.room (charge_of typed.main)))
  where
    by : (test : Bool)
        → Keeps around.program jump_took s
        (cond test (Stopped (Outside Stack) s)
        (done_list (later_by (suc budget)) (record around { room = around.room - charge_of typed.main })
        typed.main.body s))
    by true = (follows_itself around.program s, tt)
    by false =
        list_keeps (suc budget) (later_by (suc budget)) (later_keeps (suc budget)) typed.main.body
        (record around { room = around.room - charge_of typed.main }) s (omega (arith, below))
