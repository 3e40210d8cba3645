-- What holds along each run: an instance of `Preserves`, and what it says of expressions.
use Rattle.meaning.proofs.Prelude.{Continues, Extra, Flow, Follows, Gave, Jumped, Keeps, Later, LaterKeeps, List, None, Onward, Option, Outcome, Program, Returned, Some, State, Stopped, Subscript, Surroundings, TypedArguments, TypedExpression, TypedList, TypedReference, TypedStatements, TypedTarget, arith, caught_in, displacement, input_value, jump_took, landed, located, nothing_else, read_event, refl, rest_from, stored, taking_one, then_do, value, value_of_flow, values, write_event, ℕ, ◌%◌, ◌-◌, ◌<◌}
use Rattle.meaning.proofs.Kept.{adds_event, changes_byte, continues_itself, flow_before, follows_itself, follows_then, goes_on, jump_weakens, keeps_after, keeps_then, nothing_weakens, reads_byte, takes_one, Weakens}
use Rattle.meaning.proofs.Preserves.{Preserves, in_frame_of_its_own, no_condition, of_place, of_subscript, of_target, of_value, of_values, one_after}

-- what a frame holds does not matter to what follows
same_but_frame : (program : Program) (s t : State) (frame : List (List ℕ))
    → Follows program (record s { frame = frame }) t → Follows program s t
same_but_frame program s t frame first = record {
  budget = first.budget;
  events = first.events;
  size = first.size;
  constants = first.constants;
  undeclared = first.undeclared;
}

frame_back : (program : Program) (s t : State) → Follows program s t
    → Continues program s (record t { frame = s.frame })
frame_back program s t first = record {
  follows = record {
    budget = first.budget;
    events = first.events;
    size = first.size;
    constants = first.constants;
    undeclared = first.undeclared;
  };
  frame = refl;
}

-- the body of a call, after which the frame of the caller comes back
body_done : (program : Program) (s t : State) (outcome : Outcome Flow) → Follows program s t
    → Keeps program jump_took t outcome
    → Keeps program nothing_else s
    (then_do outcome (λ flow u. Gave (value_of_flow flow) (record u { frame = s.frame })))
body_done program s t (Gave flow u) first kept =
    (frame_back program s u (follows_then program s t u first kept.0.follows), tt)
body_done program s t (Stopped why u) first kept = (follows_then program s t u first kept.0, kept.1)

-- what follows in a frame of its own
in_frame : (program : Program) (s : State) (frame : List (List ℕ)) (outcome : Outcome (Unit {0}))
    (go : Unit {0} → State → Outcome ℕ) → Keeps program nothing_else (record s { frame = frame }) outcome
    → ((t : State) → Follows program s t → Keeps program nothing_else s (go tt t))
    → Keeps program nothing_else s (then_do outcome go)
in_frame program s frame (Gave found t) go kept rest =
    rest t (same_but_frame program s t frame kept.0.follows)
in_frame program s frame (Stopped why t) go kept rest = (same_but_frame program s t frame kept.0, kept.1)

-- from each state on whose budget is below a number
abbrev pub KeepsBelow : {A : Type 0} → Program → ℕ → Extra A → (State → Outcome A) → Type 0
KeepsBelow program number extra f = (s : State) → s.budget < number → Keeps program extra s (f s)

abbrev pub ValueKeeps :
    Program → ℕ → (A : Type 0) → (State → Outcome A) → (State → Outcome A) → Type 0
ValueKeeps program number A f g = KeepsBelow program number nothing_else f

abbrev pub FlowKeeps : Program → ℕ → (State → Outcome Flow) → (State → Outcome Flow) → Type 0
FlowKeeps program number f g = KeepsBelow program number jump_took f

module _ (program : Program) (number : ℕ) where
  then_below : {A B : Type 0} (two : Extra B) → Weakens program two → (f : State → Outcome A)
      (p : A → State → Outcome B) → KeepsBelow program number nothing_else f
      → ((found : A) → KeepsBelow program number two (p found))
      → KeepsBelow program number two (λ s. then_do (f s) p)
  then_below two weakens f p first rest s below =
      keeps_then program nothing_else two weakens s (f s) p (first s below)
      (λ found t so_far more. rest found t (omega (arith, so_far.follows.budget, below)))

  follows_below : (f p : State → Outcome Flow) → KeepsBelow program number jump_took f
      → KeepsBelow program number jump_took p → KeepsBelow program number jump_took (one_after f p)
  follows_below f p first rest s below =
      keeps_after program jump_took jump_took s (f s) _ (first s below)
      (λ flow t so_far took. goes_on program flow p s t so_far took
      (rest t (omega (arith, so_far.follows.budget, below))))

  enters_below : (frame : List (List ℕ)) (sets : State → Outcome (Unit {0})) (body : State → Outcome Flow)
      → KeepsBelow program number nothing_else sets → KeepsBelow program number jump_took body
      → KeepsBelow program number nothing_else (in_frame_of_its_own frame sets body)
  enters_below frame sets body first second s below =
      let entry : State = record s { frame = frame } in
      in_frame program s frame (sets entry) _ (first entry below)
      (λ t so_far. body_done program s t (body t) so_far
      (second t (omega (arith, so_far.budget, below))))

turns_below : (program : Program) (number : ℕ) (f p : State → Outcome Flow)
    → KeepsBelow program number jump_took f → KeepsBelow program (number - 1) jump_took p
    → KeepsBelow program number jump_took (λ s. taking_one s (one_after f p))
turns_below program number f p first rest s below =
    takes_one program jump_took s (one_after f p)
    (λ t so_far less.
    flow_before program s t (one_after f p t) so_far
    (follows_below program (number - 1) f p (λ u under. first u (omega (arith, under))) rest t
    (omega (arith, less, below))))

module _ (number : ℕ) (later : Later) (kept : LaterKeeps number later) (around : Surroundings) where
  lands : (list : TypedList) (label : ℕ) (rest : Option TypedStatements) (s t : State)
      → Continues around.program s t → t.budget < s.budget → s.budget < number
      → Keeps around.program jump_took s (landed later around list label rest t)
  lands list label (Some rest) s t first took below =
      flow_before around.program s t (later.onto list rest around t) first
      (kept.onto list rest around t (omega (arith, took, below)))
  lands list label None s t first took below = (first, took)

  catches : (list : TypedList) (flow : Flow) (s t : State)
      → Continues around.program s t → jump_took s.budget flow t.budget → s.budget < number
      → Keeps around.program jump_took s (caught_in later around list flow t)
  catches list Onward s t first took below = (first, tt)
  catches list (Returned found) s t first took below = (first, tt)
  catches list (Jumped label) s t first took below =
      lands list label (rest_from label list) s t first took below

  pub keeps_all : Preserves later later around no_condition (ValueKeeps around.program number)
      (λ c. FlowKeeps around.program number) (λ c. FlowKeeps around.program (number - 1))
  keeps_all = record {
    gives = λ A found s below. (continues_itself around.program s, tt);
    goes_outside = λ reason s below. (follows_itself around.program s, tt);
    reads = λ place s below. reads_byte around.program place s;
    writes = λ place byte s below. changes_byte around.program place byte s;
    takes_in = λ port s below.
        (adds_event around.program s (read_event port (input_value around.program.script s.events port)), tt);
    puts_out = λ from port sent s below.
        (adds_event around.program s (write_event port (sent % 256)), tt);
    calls = λ at arguments s below. kept.call at arguments around s below;
    enters = λ c frame sets f g first second. enters_below around.program number frame sets f first second;
    then_gives = λ A B f g p q first rest.
        then_below around.program number nothing_else (nothing_weakens around.program) f p first rest;
    goes_on = λ c s below. (continues_itself around.program s, tt);
    returns = λ c expression found holds s below. (continues_itself around.program s, tt);
    ends = λ c s below. (follows_itself around.program s, tt);
    jumps = λ c label holds s below.
        takes_one around.program jump_took s (λ t. Gave (Jumped label) t)
        (λ t so_far less. (so_far, omega (arith, less)));
    then_does = λ c A f g p q first rest.
        then_below around.program number jump_took (jump_weakens around.program) f p first rest;
    follows = λ c f g p q first rest. follows_below around.program number f p first rest;
    lists = λ c list f g holds first s below.
        keeps_after around.program jump_took jump_took s (f s) (caught_in later around list) (first s below)
        (λ flow t so_far took. catches list flow s t so_far took below);
    turns = λ c f g p q first rest. turns_below around.program number f p first rest;
    taken_on = λ c s below. (continues_itself around.program s, tt);
    taken_again = λ c turn holds s below. kept.again turn around s (omega (arith, below));
    then_taken = λ c A f g p q first rest.
        then_below around.program (number - 1) jump_took (jump_weakens around.program) f p
        (λ s below. first s (omega (arith, below))) rest;
  }

module _ (number : ℕ) (later : Later) (kept : LaterKeeps number later) where
  pub value_keeps : (expression : TypedExpression) (around : Surroundings) (s : State) → s.budget < number
      → Keeps around.program nothing_else s (value later around expression s)
  value_keeps expression around s below =
      of_value later later around no_condition _ _ _ (keeps_all number later kept around) expression s below

  pub values_keep : (arguments : TypedArguments) (around : Surroundings) (s : State) → s.budget < number
      → Keeps around.program nothing_else s (values later around arguments s)
  values_keep arguments around s below =
      of_values later later around no_condition _ _ _ (keeps_all number later kept around) arguments s below

  pub located_keeps : (reference : TypedReference) (around : Surroundings) (s : State) → s.budget < number
      → Keeps around.program nothing_else s (located later around reference s)
  located_keeps reference around s below =
      of_place later later around no_condition _ _ _ (keeps_all number later kept around) reference s below

  pub displacement_keeps : (subscript : Subscript) (around : Surroundings) (s : State) → s.budget < number
      → Keeps around.program nothing_else s (displacement later around subscript s)
  displacement_keeps subscript around s below =
      of_subscript later later around no_condition _ _ _ (keeps_all number later kept around) subscript s
      below

  pub stored_keeps : (target : TypedTarget) (found : ℕ) (around : Surroundings) (s : State)
      → s.budget < number → Keeps around.program nothing_else s (stored later around target found s)
  stored_keeps target found around s below =
      of_target later later around no_condition _ _ _ (keeps_all number later kept around) target found s
      below
