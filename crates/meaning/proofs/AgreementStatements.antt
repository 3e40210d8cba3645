-- What is given from outside matters only as far as the budget lasts: an instance of `Preserves`.
use Rattle.meaning.proofs.Prelude.{Agrees, Bool, Continues, Extra, Flow, Gave, InProgram, IsMeantBelow, Jumped, Keeps, Later, LaterKeeps, List, More, None, Onward, Option, Outcome, Program, Returned, Some, State, Stopped, Surroundings, Turn, TypedList, TypedStatements, ap, arith, called, caught_in, common_steps, cond, false, going_on, jump_took, landed, later_by, nothing_else, procedure_at, refl, rest_from, rest_of, suc, taking_one, then_do, true, turn_of, value_of_flow, zero, ℕ, ◌-◌, ◌<◌, ◌==◌, ◌∙◌, ◌≡◌, ◌≤◌}
use Rattle.meaning.proofs.Kept.{less_budget}
use Rattle.meaning.proofs.KeptParts.{FlowKeeps, KeepsBelow, ValueKeeps, keeps_all}
use Rattle.meaning.proofs.KeptCalls.{later_keeps}
use Rattle.meaning.proofs.Preserves.{Preserves, in_frame_of_its_own, no_condition, of_found, of_rest, of_turn, one_after}

-- equal parts after the same part, and after equal parts
equal_after : {A B : Type 0} (program : Program) (extra : Extra A) (s : State) (outcome : Outcome A)
    (go else_go : A → State → Outcome B) → Keeps program extra s outcome
    → ((found : A) (t : State) → Continues program s t → extra s.budget found t.budget
    → go found t ≡ else_go found t) → then_do outcome go ≡ then_do outcome else_go
equal_after program extra s (Gave found t) go else_go kept rest = rest found t kept.0 kept.1
equal_after program extra s (Stopped why t) go else_go kept rest = refl

equal_then : {A B : Type 0} (program : Program) (extra : Extra A) (s : State) (outcome other : Outcome A)
    (go else_go : A → State → Outcome B) → outcome ≡ other → Keeps program extra s outcome
    → ((found : A) (t : State) → Continues program s t → extra s.budget found t.budget
    → go found t ≡ else_go found t) → then_do outcome go ≡ then_do other else_go
equal_then program extra s outcome other go else_go same kept rest =
    equal_after program extra s outcome go else_go kept rest ∙ ap (λ one. then_do one else_go) same

same_if : {A : Type 0} (test : Bool) (one other else_one else_other : A) → (test ≡ true → one ≡ other)
    → (test ≡ false → else_one ≡ else_other) → cond test one else_one ≡ cond test other else_other
same_if true one other else_one else_other on off = on refl
same_if false one other else_one else_other on off = off refl

same_taking : {A : Type 0} (program : Program) (s : State) (go other : State → Outcome A)
    → ((t : State) → Continues program s t → suc t.budget ≤ s.budget → go t ≡ other t)
    → taking_one s go ≡ taking_one s other
same_taking program s go other rest =
    same_if (s.budget == 0) (Stopped More s) (Stopped More s) (go (record s { budget = s.budget - 1 }))
    (other (record s { budget = s.budget - 1 }))
    (λ on. refl)
    (λ off. rest (record s { budget = s.budget - 1 }) (less_budget program s)
    (grind (arith, common_steps, off)))

same_going : (flow : Flow) (go other : State → Outcome Flow) (t : State) → go t ≡ other t
    → going_on flow go t ≡ going_on flow other t
same_going Onward go other t same = same
same_going (Returned found) go other t same = refl
same_going (Jumped label) go other t same = refl

-- two meanings do the same from each state on whose budget is below a number
abbrev SameBelow : {A : Type 0} → ℕ → (State → Outcome A) → (State → Outcome A) → Type 0
SameBelow number f g = (s : State) → s.budget < number → f s ≡ g s

abbrev ValueAgrees : Program → ℕ → (A : Type 0) → (State → Outcome A) → (State → Outcome A) → Type 0
ValueAgrees program number A f g = ValueKeeps program number A f g × SameBelow number f g

abbrev FlowAgrees : Program → ℕ → (State → Outcome Flow) → (State → Outcome Flow) → Type 0
FlowAgrees program number f g = FlowKeeps program number f g × SameBelow number f g

module _ (program : Program) (number : ℕ) where
  same_then : {A B : Type 0} (f g : State → Outcome A) (p q : A → State → Outcome B)
      → KeepsBelow program number nothing_else f → SameBelow number f g
      → ((found : A) → SameBelow number (p found) (q found))
      → SameBelow number (λ s. then_do (f s) p) (λ s. then_do (g s) q)
  same_then f g p q kept same rest s below =
      equal_then program nothing_else s (f s) (g s) p q (same s below) (kept s below)
      (λ found t first more. rest found t (omega (arith, first.follows.budget, below)))

  same_after : (f g p q : State → Outcome Flow) → KeepsBelow program number jump_took f
      → SameBelow number f g → SameBelow number p q → SameBelow number (one_after f p) (one_after g q)
  same_after f g p q kept same rest s below =
      equal_then program jump_took s (f s) (g s) _ _ (same s below) (kept s below)
      (λ flow t first took. same_going flow p q t (rest t (omega (arith, first.follows.budget, below))))

  same_in_frame : (frame : List (List ℕ)) (sets : State → Outcome (Unit {0})) (f g : State → Outcome Flow)
      → KeepsBelow program number nothing_else sets → SameBelow number f g
      → SameBelow number (in_frame_of_its_own frame sets f) (in_frame_of_its_own frame sets g)
  same_in_frame frame sets f g kept same s below =
      let entry : State = record s { frame = frame } in
      equal_then program nothing_else entry (sets entry) (sets entry) _ _ refl (kept entry below)
      (λ done t first more.
      ap (λ (outcome : Outcome Flow).
      then_do outcome (λ flow u. Gave (value_of_flow flow) (record u { frame = s.frame })))
      (same t (omega (arith, first.follows.budget, below))))

same_turning : (program : Program) (number : ℕ) (f g p q : State → Outcome Flow)
    → KeepsBelow program number jump_took f → SameBelow number f g → SameBelow (number - 1) p q
    → SameBelow number (λ s. taking_one s (one_after f p)) (λ s. taking_one s (one_after g q))
same_turning program number f g p q kept same rest s below =
    same_taking program s (one_after f p) (one_after g q)
    (λ t first less.
    same_after program (number - 1) f g p q (λ u under. kept u (omega (arith, under)))
    (λ u under. same u (omega (arith, under))) rest t (omega (arith, less, below)))

module _ (number : ℕ) (one other : Later) (kept : LaterKeeps number one)
    (same : Agrees number one other) (around : Surroundings) where
  same_landed : (list : TypedList) (label : ℕ) (rest : Option TypedStatements) (t : State)
      → suc t.budget < number → landed one around list label rest t ≡ landed other around list label rest t
  same_landed list label (Some rest) t below = same.onto list rest around t below
  same_landed list label None t below = refl

  same_caught : (list : TypedList) (flow : Flow) (before : ℕ) (t : State) → jump_took before flow t.budget
      → before < number → caught_in one around list flow t ≡ caught_in other around list flow t
  same_caught list Onward before t took below = refl
  same_caught list (Returned found) before t took below = refl
  same_caught list (Jumped label) before t took below =
      same_landed list label (rest_from label list) t (omega (arith, took, below))

  agrees_all : Preserves one other around no_condition (ValueAgrees around.program number)
      (λ c. FlowAgrees around.program number) (λ c. FlowAgrees around.program (number - 1))
  agrees_all =
      let keeps = keeps_all number one kept around in
      record {
        gives = λ A found. (keeps.gives A found, λ s below. refl);
        goes_outside = λ reason. (keeps.goes_outside reason, λ s below. refl);
        reads = λ place. (keeps.reads place, λ s below. refl);
        writes = λ place byte. (keeps.writes place byte, λ s below. refl);
        takes_in = λ port. (keeps.takes_in port, λ s below. refl);
        puts_out = λ from port sent. (keeps.puts_out from port sent, λ s below. refl);
        calls = λ at arguments.
            (keeps.calls at arguments, λ s below. same.call at arguments around s below);
        enters = λ c frame sets f g first second. (
          keeps.enters c frame sets f f first.0 second.0,
          same_in_frame around.program number frame sets f g first.0 second.1,
        );
        then_gives = λ A B f g p q first rest. (
          keeps.then_gives A B f f p p first.0 (λ found. (rest found).0),
          same_then around.program number f g p q first.0 first.1 (λ found. (rest found).1),
        );
        goes_on = λ c. (keeps.goes_on c, λ s below. refl);
        returns = λ c expression found holds. (keeps.returns c expression found holds, λ s below. refl);
        ends = λ c. (keeps.ends c, λ s below. refl);
        jumps = λ c label holds. (keeps.jumps c label holds, λ s below. refl);
        then_does = λ c A f g p q first rest. (
          keeps.then_does c A f f p p first.0 (λ found. (rest found).0),
          same_then around.program number f g p q first.0 first.1 (λ found. (rest found).1),
        );
        follows = λ c f g p q first rest. (
          keeps.follows c f f p p first.0 rest.0,
          same_after around.program number f g p q first.0 first.1 rest.1,
        );
        lists = λ c list f g holds first. (
          keeps.lists c list f f holds first.0,
          λ s below. equal_then around.program jump_took s (f s) (g s) _ _ (first.1 s below)
              (first.0 s below) (λ flow t so_far took. same_caught list flow s.budget t took below),
        );
        turns = λ c f g p q first rest. (
          keeps.turns c f f p p first.0 rest.0,
          same_turning around.program number f g p q first.0 first.1 rest.1,
        );
        taken_on = λ c. (keeps.taken_on c, λ s below. refl);
        taken_again = λ c turn holds.
            (keeps.taken_again c turn holds, λ s below. same.again turn around s (omega (arith, below)));
        then_taken = λ c A f g p q first rest. (
          keeps.then_taken c A f f p p first.0 (λ found. (rest found).0),
          same_then around.program (number - 1) f g p q (λ s under. first.0 s (omega (arith, under)))
              (λ s under. first.1 s (omega (arith, under))) (λ found. (rest found).1),
        );
      }

same_called : (number : ℕ) (one other : Later) → LaterKeeps number one → Agrees number one other
    → (at : InProgram) (arguments : List ℕ) (around : Surroundings) (s : State) → s.budget < suc number
    → called one at arguments around s ≡ called other at arguments around s
same_called number one other kept same at arguments around s below =
    same_taking around.program s _ _
    (λ t first less.
    (of_found one other around (ValueAgrees around.program number) (λ c. FlowAgrees around.program number)
    (λ c. FlowAgrees around.program (number - 1))
    (λ module_is room. agrees_all number one other kept same
    (record around { number_of_module = module_is; room = room }))
    (procedure_at around.program.modules at) at arguments).1 t (omega (arith, less, below)))

-- where the budget is below a number, a greater number changes nothing
agrees_next : (number : ℕ) → Agrees number (later_by number) (later_by (suc number))
agrees_next zero = record {
  call = λ at arguments around s below. absurd (omega (arith, below));
  again = λ turn around s below. absurd (omega (arith, below));
  onto = λ list rest around s below. absurd (omega (arith, below));
}
agrees_next (suc number) =
    let one : Later = later_by number in
    let other : Later = later_by (suc number) in
    let kept = later_keeps number in
    let same = agrees_next number in
    record {
      call = λ at arguments around s below. same_called number one other kept same at arguments around
          s below;
      again = λ turn around s below.
          (of_turn one other around no_condition _ _ _ (agrees_all number one other kept same around) tt
          turn tt).1 s (omega (arith, below));
      onto = λ list rest around s below.
          (of_rest one other around no_condition _ _ _ (agrees_all number one other kept same around) tt
          list rest tt tt).1 s (omega (arith, below));
    }

-- so calls, turns and what follows jumps are what they are defined as, with the same number
pub call_is : (number : ℕ) (at : InProgram) (arguments : List ℕ) (around : Surroundings) (s : State)
    → s.budget < number → (later_by number).call at arguments around s
    ≡ called (later_by number) at arguments around s
call_is number at arguments around s below = (agrees_next number).call at arguments around s below

pub again_is : (number : ℕ) (turn : Turn) (around : Surroundings) (s : State) → suc s.budget < number
    → (later_by number).again turn around s ≡ turn_of (later_by number) turn around s
again_is number turn around s below = (agrees_next number).again turn around s below

pub onto_is : (number : ℕ) (list : TypedList) (rest : TypedStatements) (around : Surroundings) (s : State)
    → suc s.budget < number → (later_by number).onto list rest around s
    ≡ rest_of (later_by number) list rest around s
onto_is number list rest around s below = (agrees_next number).onto list rest around s below

pub later_is_meant : (number : ℕ) → IsMeantBelow number (later_by number)
later_is_meant number = record {
  call = λ at arguments around s below. call_is number at arguments around s below;
  again = λ turn around s below. again_is number turn around s below;
  onto = λ list rest around s below. onto_is number list rest around s below;
}
