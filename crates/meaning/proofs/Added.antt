-- Events are only added, with any budget: an instance of `Preserves`.
use Rattle.meaning.proofs.Prelude.{Bool, ComesAfter, Flow, Gave, InMemory, InProgram, InTheFrame, IsBeginning, Jumped, Later, LaterAdds, List, None, Onward, Option, Outcome, Place, Program, Returned, ScalarType, Some, State, Stopped, Surroundings, TypedList, TypedModule, TypedProcedure, TypedStatements, [], ap, append-nil, append_assoc, called, caught_in, computed, cond, false, going_on, input_value, is_constant, is_declared, landed, later_by, moved, nothing_later, procedure_at, read_byte, read_event, read_scalar, refl, rest_from, rest_of, suc, sym, taking_one, then_do, true, write_byte, write_event, write_scalar, zero, ℕ, ◌%◌, ◌++◌, ◌-◌, ◌==◌, ◌∙◌, ◌∷◌}
use Rattle.meaning.proofs.Preserves.{Preserves, entered_if_found, in_frame_of_its_own, no_condition, of_found, of_moved, of_rest, of_turn, one_after, scalar_read, scalar_written}

pub begins_itself : (s : State) → IsBeginning s.events s.events
begins_itself s = ([], sym (append-nil s.events))

pub after_beginning : {A : Type 0} (s t : State) (outcome : Outcome A) → IsBeginning s.events t.events
    → ComesAfter t outcome → ComesAfter s outcome
after_beginning s t (Gave found u) first second =
    (first.0 ++ second.0, second.1 ∙ ap (λ es. es ++ second.0) first.1 ∙ append_assoc s.events first.0 second.0)
after_beginning s t (Stopped why u) first second =
    (first.0 ++ second.0, second.1 ∙ ap (λ es. es ++ second.0) first.1 ∙ append_assoc s.events first.0 second.0)

pub adds_then : {A B : Type 0} (s : State) (outcome : Outcome A) (go : A → State → Outcome B)
    → ComesAfter s outcome → ((found : A) (t : State) → ComesAfter t (go found t))
    → ComesAfter s (then_do outcome go)
adds_then s (Gave found t) go first rest = after_beginning s t (go found t) first (rest found t)
adds_then s (Stopped why t) go first rest = first

pub adds_if : {A : Type 0} (s : State) (test : Bool) (one other : Outcome A) → ComesAfter s one
    → ComesAfter s other → ComesAfter s (cond test one other)
adds_if s true one other first second = first
adds_if s false one other first second = second

-- taking one of the budget adds no event
pub adds_taking : {A : Type 0} (s : State) (go : State → Outcome A) → ((t : State) → ComesAfter t (go t))
    → ComesAfter s (taking_one s go)
adds_taking s go rest =
    adds_if s (s.budget == 0) _ _ (begins_itself s)
    (after_beginning s (record s { budget = s.budget - 1 }) (go (record s { budget = s.budget - 1 }))
    (begins_itself s) (rest (record s { budget = s.budget - 1 })))

pub adds_computed : (found : Option ℕ) (s : State) → ComesAfter s (computed found s)
adds_computed (Some found) s = begins_itself s
adds_computed None s = begins_itself s

module _ (program : Program) where
  pub adds_read : (place : Place) (s : State) → ComesAfter s (read_byte program place s)
  adds_read (InMemory address) s =
      adds_if s (is_declared program address) _ _ (begins_itself s) (begins_itself s)
  adds_read (InTheFrame object offset is_inside) s =
      adds_if s is_inside _ _ (begins_itself s) (begins_itself s)

  pub adds_write : (place : Place) (byte : ℕ) (s : State) → ComesAfter s (write_byte program place byte s)
  adds_write (InMemory address) byte s =
      adds_if s (is_declared program address) _ _
      (adds_if s (is_constant program address) _ _ (begins_itself s) (begins_itself s)) (begins_itself s)
  adds_write (InTheFrame object offset is_inside) byte s =
      adds_if s is_inside _ _ (begins_itself s) (begins_itself s)

pub adds_going : (flow : Flow) (go : State → Outcome Flow) (t : State) → ComesAfter t (go t)
    → ComesAfter t (going_on flow go t)
adds_going Onward go t rest = rest
adds_going (Returned found) go t rest = begins_itself t
adds_going (Jumped label) go t rest = begins_itself t

-- from each state on
abbrev pub Adds : {A : Type 0} → (State → Outcome A) → Type 0
Adds f = (s : State) → ComesAfter s (f s)

pub adds_after : (f p : State → Outcome Flow) → Adds f → Adds p → Adds (one_after f p)
adds_after f p first rest s = adds_then s (f s) _ (first s) (λ flow t. adds_going flow p t (rest t))

adds_in_frame : (frame : List (List ℕ)) (sets : State → Outcome (Unit {0})) (body : State → Outcome Flow)
    → Adds sets → Adds body → Adds (in_frame_of_its_own frame sets body)
adds_in_frame frame sets body first second s =
    let entry : State = record s { frame = frame } in
    after_beginning s entry _ (begins_itself s)
    (adds_then entry (sets entry) _ (first entry)
    (λ done t. adds_then t (body t) _ (second t) (λ flow u. begins_itself u)))

module _ (later : Later) (adds : LaterAdds later) (around : Surroundings) where
  adds_landed : (list : TypedList) (label : ℕ) (rest : Option TypedStatements) (t : State)
      → ComesAfter t (landed later around list label rest t)
  adds_landed list label (Some rest) t = adds.onto list rest around t
  adds_landed list label None t = begins_itself t

  pub adds_caught : (list : TypedList) (flow : Flow) (t : State)
      → ComesAfter t (caught_in later around list flow t)
  adds_caught list Onward t = begins_itself t
  adds_caught list (Returned found) t = begins_itself t
  adds_caught list (Jumped label) t = adds_landed list label (rest_from label list) t

  pub adds_all :
      Preserves later later around no_condition (λ A f g. Adds f) (λ c f g. Adds f) (λ c f g. Adds f)
  adds_all = record {
    gives = λ A found s. begins_itself s;
    goes_outside = λ reason s. begins_itself s;
    reads = λ place s. adds_read around.program place s;
    writes = λ place byte s. adds_write around.program place byte s;
    takes_in = λ port s. (read_event port (input_value around.program.script s.events port) ∷ [], refl);
    puts_out = λ from port number s. (write_event port (number % 256) ∷ [], refl);
    calls = λ at arguments s. adds.call at arguments around s;
    enters = λ c frame sets f g first second. adds_in_frame frame sets f first second;
    then_gives = λ A B f g p q first rest s. adds_then s (f s) p (first s) (λ found t. rest found t);
    goes_on = λ c s. begins_itself s;
    returns = λ c expression found holds s. begins_itself s;
    ends = λ c s. begins_itself s;
    jumps = λ c label holds s. adds_taking s (λ t. Gave (Jumped label) t) (λ t. begins_itself t);
    then_does = λ c A f g p q first rest s. adds_then s (f s) p (first s) (λ found t. rest found t);
    follows = λ c f g p q first rest. adds_after f p first rest;
    lists = λ c list f g holds first s. adds_then s (f s) _ (first s) (λ flow t. adds_caught list flow t);
    turns = λ c f g p q first rest s. adds_taking s (one_after f p) (adds_after f p first rest);
    taken_on = λ c s. begins_itself s;
    taken_again = λ c turn holds s. adds.again turn around s;
    then_taken = λ c A f g p q first rest s. adds_then s (f s) p (first s) (λ found t. rest found t);
  }

module _ (later : Later) (adds : LaterAdds later) where
  pub adds_rest : (list : TypedList) (rest : TypedStatements) (around : Surroundings) (s : State)
      → ComesAfter s (rest_of later list rest around s)
  adds_rest list rest around s =
      of_rest later later around no_condition _ _ _ (adds_all later adds around) tt list rest tt tt s

  pub adds_found : (found : Option (TypedModule × TypedProcedure)) (at : InProgram) (arguments : List ℕ)
      (around : Surroundings) (s : State) → ComesAfter s (entered_if_found later found at arguments around s)
  adds_found found at arguments around s =
      of_found later later around (λ A f g. Adds f) (λ c f g. Adds f) (λ c f g. Adds f)
      (λ number room. adds_all later adds (record around { number_of_module = number; room = room }))
      found at arguments s

  adds_called : (at : InProgram) (arguments : List ℕ) (around : Surroundings) (s : State)
      → ComesAfter s (called later at arguments around s)
  adds_called at arguments around s =
      adds_taking s _ (λ t. adds_found (procedure_at around.program.modules at) at arguments around t)

pub later_adds : (number : ℕ) → LaterAdds (later_by number)
later_adds zero = record {
  call = λ at arguments around s. begins_itself s;
  again = λ turn around s. begins_itself s;
  onto = λ list rest around s. begins_itself s;
}
later_adds (suc number) = record {
  call = λ at arguments around s. adds_called (later_by number) (later_adds number) at arguments around s;
  again = λ turn around s. of_turn (later_by number) (later_by number) around no_condition _ _ _
      (adds_all (later_by number) (later_adds number) around) tt turn tt s;
  onto = λ list rest around s. adds_rest (later_by number) (later_adds number) list rest around s;
}

-- what a program does with its bytes, with no call
module _ (program : Program) where
  abbrev nowhere : Surroundings
  nowhere = record { program = program; number_of_module = 0; room = 0 }

  adds_any : Preserves nothing_later nothing_later nowhere no_condition (λ A f g. Adds f)
      (λ c f g. Adds f) (λ c f g. Adds f)
  adds_any = adds_all nothing_later (later_adds 0) nowhere

  pub adds_read_scalar : (scalar : ScalarType) (place : Place) (s : State)
      → ComesAfter s (read_scalar program scalar place s)
  adds_read_scalar scalar place s = scalar_read _ _ nowhere no_condition _ _ _ adds_any scalar place s

  pub adds_write_scalar : (scalar : ScalarType) (place : Place) (number : ℕ) (s : State)
      → ComesAfter s (write_scalar program scalar place number s)
  adds_write_scalar scalar place number s =
      scalar_written _ _ nowhere no_condition _ _ _ adds_any scalar place number s

  pub adds_moved : (count source destination : ℕ) (s : State)
      → ComesAfter s (moved program count source destination s)
  adds_moved count source destination s =
      of_moved _ _ nowhere no_condition _ _ _ adds_any count source destination s
