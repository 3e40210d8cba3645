-- A run with more budget comes to the same, or goes on where the other wanted more: an instance of
-- `Preserves`.
use Rattle.meaning.proofs.Prelude.{Bool, ComesAfter, Continues, Ended, Extra, Flow, Gave, InMemory, InProgram, InTheFrame, Jumped, Keeps, Lasts, Later, LaterAdds, LaterKeeps, LaterLasts, List, More, None, Onward, Option, Outcome, Outside, Place, Program, Returned, Some, State, Stopped, Surroundings, Turn, TypedList, TypedStatements, ap, arith, called, caught_in, common_steps, cond, done_list, false, going_on, is_constant, is_declared, jump_took, landed, later_by, nothing_else, procedure_at, read_byte, refl, rest_from, rest_of, subst, suc, sym, taking_one, then_do, true, turn_of, with_more, write_byte, zero, ℕ, ◌+◌, ◌-◌, ◌<◌, ◌==◌, ◌≡◌, ◌≤◌}
use Rattle.meaning.proofs.Kept.{less_budget}
use Rattle.meaning.proofs.KeptParts.{FlowKeeps, KeepsBelow, ValueKeeps, keeps_all}
use Rattle.meaning.proofs.KeptCalls.{later_keeps}
use Rattle.meaning.proofs.Added.{Adds, adds_after, adds_all, adds_caught, adds_found, adds_going, adds_then, after_beginning, begins_itself, later_adds}
use Rattle.meaning.proofs.Preserves.{Preserves, in_frame_of_its_own, no_condition, of_found, of_list, of_rest, of_turn, one_after}

module _ (more : ℕ) where
  -- one part after another
  lasts_then : {A B : Type 0} (program : Program) (extra : Extra A) (s : State)
      (outcome other : Outcome A) (go else_go : A → State → Outcome B) → Lasts more outcome other
      → Keeps program extra s outcome
      → ((found : A) (t : State) → Continues program s t → extra s.budget found t.budget
      → Lasts more (go found t) (else_go found (with_more more t)))
      → ((found : A) (t : State) → ComesAfter t (else_go found t))
      → Lasts more (then_do outcome go) (then_do other else_go)
  lasts_then program extra s (Gave found t) other go else_go same kept rest adds =
      subst (λ one. Lasts more (go found t) (then_do one else_go)) (sym same) (rest found t kept.0 kept.1)
  lasts_then program extra s (Stopped Ended t) other go else_go same kept rest adds =
      ap (λ one. then_do one else_go) same
  lasts_then program extra s (Stopped (Outside reason) t) other go else_go same kept rest adds =
      ap (λ one. then_do one else_go) same
  lasts_then program extra s (Stopped More t) other go else_go same kept rest adds =
      adds_then t other else_go same adds

  pub lasts_if : {A : Type 0} (test : Bool) (one else_one other else_other : Outcome A)
      → (test ≡ true → Lasts more one other) → (test ≡ false → Lasts more else_one else_other)
      → Lasts more (cond test one else_one) (cond test other else_other)
  lasts_if true one else_one other else_other on off = on refl
  lasts_if false one else_one other else_other on off = off refl

  -- taking one of the budget
  taken_by : {A : Type 0} (program : Program) (s : State) (go other : State → Outcome A) (test second : Bool)
      → (s.budget == 0) ≡ test → (s.budget + more == 0) ≡ second → ((t : State) → ComesAfter t (other t))
      → ((t : State) → Continues program s t → suc t.budget ≤ s.budget
      → Lasts more (go t) (other (with_more more t)))
      → Lasts more (cond test (Stopped More s) (go (record s { budget = s.budget - 1 })))
      (cond second (Stopped More (with_more more s)) (other (record s { budget = s.budget + more - 1 })))
  taken_by program s go other true true one two adds rest = begins_itself s
  taken_by program s go other true false one two adds rest =
      after_beginning s (record s { budget = s.budget + more - 1 })
      (other (record s { budget = s.budget + more - 1 })) (begins_itself s)
      (adds (record s { budget = s.budget + more - 1 }))
  taken_by program s go other false true one two adds rest = absurd (grind (arith, common_steps, one, two))
  taken_by program s go other false false one two adds rest =
      let at_least : 1 ≤ s.budget = grind (arith, common_steps, one) in
      let same : (s.budget - 1) + more ≡ s.budget + more - 1 = omega (arith, at_least) in
      subst (λ budget. Lasts more (go (record s { budget = s.budget - 1 }))
      (other (record s { budget = budget }))) same
      (rest (record s { budget = s.budget - 1 }) (less_budget program s) (omega (arith, at_least)))

  lasts_taking : {A : Type 0} (program : Program) (s : State) (go other : State → Outcome A)
      → ((t : State) → ComesAfter t (other t))
      → ((t : State) → Continues program s t → suc t.budget ≤ s.budget
      → Lasts more (go t) (other (with_more more t)))
      → Lasts more (taking_one s go) (taking_one (with_more more s) other)
  lasts_taking program s go other adds rest =
      taken_by program s go other (s.budget == 0) (s.budget + more == 0) refl refl adds rest

  module _ (program : Program) where
    lasts_read : (place : Place) (s : State)
        → Lasts more (read_byte program place s) (read_byte program place (with_more more s))
    lasts_read (InMemory address) s =
        lasts_if (is_declared program address) _ _ _ _ (λ on. refl) (λ off. refl)
    lasts_read (InTheFrame object offset is_inside) s = lasts_if is_inside _ _ _ _ (λ on. refl) (λ off. refl)

    lasts_write : (place : Place) (byte : ℕ) (s : State)
        → Lasts more (write_byte program place byte s) (write_byte program place byte (with_more more s))
    lasts_write (InMemory address) byte s =
        lasts_if (is_declared program address) _ _ _ _
        (λ on. lasts_if (is_constant program address) _ _ _ _ (λ is. refl) (λ no. refl)) (λ off. refl)
    lasts_write (InTheFrame object offset is_inside) byte s =
        lasts_if is_inside _ _ _ _ (λ on. refl) (λ off. refl)

  lasts_going : (flow : Flow) (go other : State → Outcome Flow) (t : State)
      → Lasts more (go t) (other (with_more more t))
      → Lasts more (going_on flow go t) (going_on flow other (with_more more t))
  lasts_going Onward go other t rest = rest
  lasts_going (Returned found) go other t rest = refl
  lasts_going (Jumped label) go other t rest = refl

  -- of two meanings, from each state on whose budget is below a number
  abbrev LastsBelow : {A : Type 0} → ℕ → (State → Outcome A) → (State → Outcome A) → Type 0
  LastsBelow number f g = (s : State) → s.budget < number → Lasts more (f s) (g (with_more more s))

  abbrev ValueLasts : Program → ℕ → (A : Type 0) → (State → Outcome A) → (State → Outcome A) → Type 0
  ValueLasts program number A f g = ValueKeeps program number A f g × (Adds g × LastsBelow number f g)

  abbrev FlowLasts : Program → ℕ → (State → Outcome Flow) → (State → Outcome Flow) → Type 0
  FlowLasts program number f g = FlowKeeps program number f g × (Adds g × LastsBelow number f g)

  module _ (program : Program) (number : ℕ) where
    below_then : {A B : Type 0} (f g : State → Outcome A) (p q : A → State → Outcome B)
        → KeepsBelow program number nothing_else f → LastsBelow number f g
        → ((found : A) → Adds (q found)) → ((found : A) → LastsBelow number (p found) (q found))
        → LastsBelow number (λ s. then_do (f s) p) (λ s. then_do (g s) q)
    below_then f g p q kept lasts adds rest s below =
        lasts_then program nothing_else s (f s) (g (with_more more s)) p q (lasts s below) (kept s below)
        (λ found t first end. rest found t (omega (arith, first.follows.budget, below)))
        (λ found t. adds found t)

    below_after : (f g p q : State → Outcome Flow) → KeepsBelow program number jump_took f
        → LastsBelow number f g → Adds q → LastsBelow number p q
        → LastsBelow number (one_after f p) (one_after g q)
    below_after f g p q kept lasts adds rest s below =
        lasts_then program jump_took s (f s) (g (with_more more s)) _ _ (lasts s below) (kept s below)
        (λ flow t first took. lasts_going flow p q t (rest t (omega (arith, first.follows.budget, below))))
        (λ flow t. adds_going flow q t (adds t))

    below_in_frame : (frame : List (List ℕ)) (sets : State → Outcome (Unit {0}))
        (f g : State → Outcome Flow) → ValueLasts program number _ sets sets → FlowLasts program number f g
        → LastsBelow number (in_frame_of_its_own frame sets f) (in_frame_of_its_own frame sets g)
    below_in_frame frame sets f g first second s below =
        let entry : State = record s { frame = frame } in
        lasts_then program nothing_else entry (sets entry) (sets (with_more more entry)) _ _
        (first.1.1 entry below) (first.0 entry below)
        (λ done t so_far end.
        let under : t.budget < number = omega (arith, so_far.follows.budget, below) in
        lasts_then program jump_took t (f t) (g (with_more more t)) _ _ (second.1.1 t under)
        (second.0 t under) (λ flow u then_so took. refl) (λ flow u. begins_itself u))
        (λ done t. adds_then t (g t) _ (second.1.0 t) (λ flow u. begins_itself u))

  below_turns : (program : Program) (number : ℕ) (f g p q : State → Outcome Flow)
      → FlowLasts program number f g → FlowLasts program (number - 1) p q
      → LastsBelow number (λ s. taking_one s (one_after f p)) (λ s. taking_one s (one_after g q))
  below_turns program number f g p q first rest s below =
      lasts_taking program s (one_after f p) (one_after g q) (adds_after g q first.1.0 rest.1.0)
      (λ t so_far less.
      below_after program (number - 1) f g p q (λ u under. first.0 u (omega (arith, under)))
      (λ u under. first.1.1 u (omega (arith, under))) rest.1.0 rest.1.1 t (omega (arith, less, below)))

module _ (more number : ℕ) (one other : Later) (kept : LaterKeeps number one) (adds : LaterAdds other)
    (lasts : LaterLasts number more one other) where
  module _ (around : Surroundings) where
    lasts_landed : (list : TypedList) (label : ℕ) (rest : Option TypedStatements) (t : State)
        → suc t.budget < number
        → Lasts more (landed one around list label rest t)
        (landed other around list label rest (with_more more t))
    lasts_landed list label (Some rest) t below = lasts.onto list rest around t below
    lasts_landed list label None t below = refl

    lasts_caught : (list : TypedList) (flow : Flow) (before : ℕ) (t : State)
        → jump_took before flow t.budget → before < number
        → Lasts more (caught_in one around list flow t) (caught_in other around list flow (with_more more t))
    lasts_caught list Onward before t took below = refl
    lasts_caught list (Returned found) before t took below = refl
    lasts_caught list (Jumped label) before t took below =
        lasts_landed list label (rest_from label list) t (omega (arith, took, below))

    lasts_all : Preserves one other around no_condition (ValueLasts more around.program number)
        (λ c. FlowLasts more around.program number) (λ c. FlowLasts more around.program (number - 1))
    lasts_all =
        let keeps = keeps_all number one kept around in
        let added = adds_all other adds around in
        record {
          gives = λ A found. (keeps.gives A found, (added.gives A found, λ s below. refl));
          goes_outside = λ reason.
              (keeps.goes_outside reason, (added.goes_outside reason, λ s below. refl));
          reads = λ place.
              (keeps.reads place, (added.reads place, λ s below. lasts_read more around.program place s));
          writes = λ place byte. (
            keeps.writes place byte,
            (added.writes place byte, λ s below. lasts_write more around.program place byte s),
          );
          takes_in = λ port. (keeps.takes_in port, (added.takes_in port, λ s below. refl));
          puts_out = λ from port sent.
              (keeps.puts_out from port sent, (added.puts_out from port sent, λ s below. refl));
          calls = λ at arguments. (
            keeps.calls at arguments,
            (added.calls at arguments, λ s below. lasts.call at arguments around s below),
          );
          enters = λ c frame sets f g first second. (
            keeps.enters c frame sets f f first.0 second.0,
            (
              added.enters c frame sets g g first.1.0 second.1.0,
              below_in_frame more around.program number frame sets f g first second,
            ),
          );
          then_gives = λ A B f g p q first rest. (
            keeps.then_gives A B f f p p first.0 (λ found. (rest found).0),
            (
              added.then_gives A B g g q q first.1.0 (λ found. (rest found).1.0),
              below_then more around.program number f g p q first.0 first.1.1 (λ found. (rest found).1.0)
                  (λ found. (rest found).1.1),
            ),
          );
          goes_on = λ c. (keeps.goes_on c, (added.goes_on c, λ s below. refl));
          returns = λ c expression found holds. (
            keeps.returns c expression found holds,
            (added.returns c expression found holds, λ s below. refl),
          );
          ends = λ c. (keeps.ends c, (added.ends c, λ s below. refl));
          jumps = λ c label holds. (
            keeps.jumps c label holds,
            (
              added.jumps c label holds,
              λ s below. lasts_taking more around.program s (λ t. Gave (Jumped label) t)
                  (λ t. Gave (Jumped label) t) (λ t. begins_itself t) (λ t so_far less. refl),
            ),
          );
          then_does = λ c A f g p q first rest. (
            keeps.then_does c A f f p p first.0 (λ found. (rest found).0),
            (
              added.then_does c A g g q q first.1.0 (λ found. (rest found).1.0),
              below_then more around.program number f g p q first.0 first.1.1 (λ found. (rest found).1.0)
                  (λ found. (rest found).1.1),
            ),
          );
          follows = λ c f g p q first rest. (
            keeps.follows c f f p p first.0 rest.0,
            (
              added.follows c g g q q first.1.0 rest.1.0,
              below_after more around.program number f g p q first.0 first.1.1 rest.1.0 rest.1.1,
            ),
          );
          lists = λ c list f g holds first. (
            keeps.lists c list f f holds first.0,
            (
              added.lists c list g g holds first.1.0,
              λ s below. lasts_then more around.program jump_took s (f s) (g (with_more more s)) _ _
                  (first.1.1 s below) (first.0 s below)
                  (λ flow t so_far took. lasts_caught list flow s.budget t took below)
                  (λ flow t. adds_caught other adds around list flow t),
            ),
          );
          turns = λ c f g p q first rest. (
            keeps.turns c f f p p first.0 rest.0,
            (
              added.turns c g g q q first.1.0 rest.1.0,
              below_turns more around.program number f g p q first rest,
            ),
          );
          taken_on = λ c. (keeps.taken_on c, (added.taken_on c, λ s below. refl));
          taken_again = λ c turn holds. (
            keeps.taken_again c turn holds,
            (added.taken_again c turn holds, λ s below. lasts.again turn around s (omega (arith, below))),
          );
          then_taken = λ c A f g p q first rest. (
            keeps.then_taken c A f f p p first.0 (λ found. (rest found).0),
            (
              added.then_taken c A g g q q first.1.0 (λ found. (rest found).1.0),
              below_then more around.program (number - 1) f g p q
                  (λ s under. first.0 s (omega (arith, under))) (λ s under. first.1.1 s (omega (arith, under)))
                  (λ found. (rest found).1.0) (λ found. (rest found).1.1),
            ),
          );
        }

  pub lasts_list : (list : TypedList) (around : Surroundings) (s : State) → s.budget < number
      → Lasts more (done_list one around list s) (done_list other around list (with_more more s))
  lasts_list list around s below =
      (of_list one other around no_condition _ _ _ (lasts_all around) tt list tt).1.1 s below

  lasts_turn : (turn : Turn) (around : Surroundings) (s : State) → s.budget < number
      → Lasts more (turn_of one turn around s) (turn_of other turn around (with_more more s))
  lasts_turn turn around s below =
      (of_turn one other around no_condition _ _ _ (lasts_all around) tt turn tt).1.1 s below

  lasts_rest : (list : TypedList) (rest : TypedStatements) (around : Surroundings) (s : State)
      → s.budget < number → Lasts more (rest_of one list rest around s)
      (rest_of other list rest around (with_more more s))
  lasts_rest list rest around s below =
      (of_rest one other around no_condition _ _ _ (lasts_all around) tt list rest tt tt).1.1 s below

  lasts_called : (at : InProgram) (arguments : List ℕ) (around : Surroundings) (s : State)
      → s.budget < suc number → Lasts more (called one at arguments around s)
      (called other at arguments around (with_more more s))
  lasts_called at arguments around s below =
      lasts_taking more around.program s _ _
      (λ t. adds_found other adds (procedure_at around.program.modules at) at arguments around t)
      (λ t so_far less.
      (of_found one other around (ValueLasts more around.program number)
      (λ c. FlowLasts more around.program number) (λ c. FlowLasts more around.program (number - 1))
      (λ module_is room. lasts_all (record around { number_of_module = module_is; room = room }))
      (procedure_at around.program.modules at) at arguments).1.1 t (omega (arith, less, below)))

pub later_lasts : (number more : ℕ) → LaterLasts number more (later_by number) (later_by (number + more))
later_lasts zero more = record {
  call = λ at arguments around s below. absurd (omega (arith, below));
  again = λ turn around s below. absurd (omega (arith, below));
  onto = λ list rest around s below. absurd (omega (arith, below));
}
later_lasts (suc number) more =
    let kept = later_keeps number in
    let adds = later_adds (number + more) in
    let lasts = later_lasts number more in
    let same : suc (number + more) ≡ suc number + more = omega arith in
    subst (λ count. LaterLasts (suc number) more (later_by (suc number)) (later_by count)) same
    (record {
      call = λ at arguments around s below. lasts_called more number (later_by number)
          (later_by (number + more)) kept adds lasts at arguments around s below;
      again = λ turn around s below. lasts_turn more number (later_by number) (later_by (number + more)) kept
          adds lasts turn around s (omega (arith, below));
      onto = λ list rest around s below. lasts_rest more number (later_by number) (later_by (number + more))
          kept adds lasts list rest around s (omega (arith, below));
    })
