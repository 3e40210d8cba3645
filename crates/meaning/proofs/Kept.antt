-- What holds along each run.
use Rattle.meaning.proofs.Prelude.{Address, Bool, Byte, Continues, Event, Extra, Flow, Follows, Gave, InMemory, InTheFrame, IsBeginning, Jumped, Keeps, List, More, Onward, Outcome, Place, Program, Returned, ScalarType, State, Stopped, [], ap, append-nil, append_assoc, arith, common_steps, cond, false, frame_bytes, get_or-set_other, going_on, is_constant, is_declared, jump_took, length, length-set, map-set_same, next_place, nothing_else, read_byte, read_scalar, refl, slice_set, subst, suc, sym, taking_one, then_do, true, write_byte, write_scalar, ℕ, ◌%◌, ◌++◌, ◌-◌, ◌/◌, ◌==◌, ◌∙◌, ◌∷◌, ◌≡◌, ◌≢◌, ◌≤◌}

module _ (program : Program) where
  pub follows_itself : (s : State) → Follows program s s
  follows_itself s =
      record { budget = omega arith; events = ([], sym (append-nil s.events)); size = refl; constants = λ address is. refl; undeclared = λ address is. refl }

  pub continues_itself : (s : State) → Continues program s s
  continues_itself s = record { follows = follows_itself s; frame = refl }

  beginning_of_beginning : (one two three : List Event) → IsBeginning one two → IsBeginning two three
      → IsBeginning one three
  beginning_of_beginning one two three first second =
      (first.0 ++ second.0, second.1 ∙ ap (λ es. es ++ second.0) first.1 ∙ append_assoc one first.0 second.0)

  pub follows_then : (s t u : State) → Follows program s t → Follows program t u → Follows program s u
  follows_then s t u first second = record {
    budget = omega (arith, first.budget, second.budget);
    events = beginning_of_beginning s.events t.events u.events first.events second.events;
    size = second.size ∙ first.size;
    constants = λ address is. second.constants address is ∙ first.constants address is;
    undeclared = λ address is. second.undeclared address is ∙ first.undeclared address is;
  }

  pub continues_then : (s t u : State) → Continues program s t → Continues program t u → Continues program s u
  continues_then s t u first second =
      record { follows = follows_then s t u first.follows second.follows; frame = second.frame ∙ first.frame }

  -- what else holds after a smaller budget holds after a greater one
  abbrev pub Weakens : {A : Type 0} → Extra A → Type 0
  Weakens {A = A} extra =
      (before less : ℕ) (found : A) (after : ℕ) → less ≤ before → extra less found after
      → extra before found after

  pub nothing_weakens : {A : Type 0} → Weakens {A = A} nothing_else
  nothing_weakens before less found after le is = tt

  pub jump_weakens : Weakens jump_took
  jump_weakens before less Onward after le is = tt
  jump_weakens before less (Returned number) after le is = tt
  jump_weakens before less (Jumped label) after le is = omega (arith, le, is)

  -- an outcome from a later state on is one from an earlier one on
  pub from_before : {A : Type 0} (extra : Extra A) → Weakens extra → (s t : State) (outcome : Outcome A)
      → Continues program s t → Keeps program extra t outcome → Keeps program extra s outcome
  from_before extra weakens s t (Gave found u) first kept =
      (continues_then s t u first kept.0, weakens s.budget t.budget found u.budget first.follows.budget kept.1)
  from_before extra weakens s t (Stopped why u) first kept = (follows_then s t u first.follows kept.0, kept.1)

  -- one part after another
  pub keeps_then : {A B : Type 0} (one : Extra A) (two : Extra B) → Weakens two
      → (s : State) (outcome : Outcome A) (go : A → State → Outcome B) → Keeps program one s outcome
      → ((found : A) (t : State) → Continues program s t → one s.budget found t.budget
      → Keeps program two t (go found t)) → Keeps program two s (then_do outcome go)
  keeps_then one two weakens s (Gave found t) go kept next =
      from_before two weakens s t (go found t) kept.0 (next found t kept.0 kept.1)
  keeps_then one two weakens s (Stopped why t) go kept next = kept

  -- where a test decides
  pub keeps_if : {A : Type 0} (extra : Extra A) (s : State) (test : Bool) (one other : Outcome A)
      → (test ≡ true → Keeps program extra s one) → (test ≡ false → Keeps program extra s other)
      → Keeps program extra s (cond test one other)
  keeps_if extra s true one other on off = on refl
  keeps_if extra s false one other on off = off refl

  -- one more event
  pub adds_event : (s : State) (event : Event)
      → Continues program s (record s { events = s.events ++ event ∷ [] })
  adds_event s event = record {
    follows =
        record { budget = omega arith; events = (event ∷ [], refl); size = refl; constants = λ address is. refl; undeclared = λ address is. refl };
    frame = refl;
  }

  -- a declared byte that is no constant is written
  other_address : (address written : ℕ) → is_constant program written ≡ false
      → is_constant program address ≡ true → address ≢ written
  other_address address written off on same =
      let both : is_constant program written ≡ true = subst (λ a. is_constant program a ≡ true) same on in
      let bad : true ≡ false = sym both ∙ off in cc

  undeclared_address : (address written : ℕ) → is_declared program written ≡ true
      → is_declared program address ≡ false → address ≢ written
  undeclared_address address written on off same =
      let both : is_declared program written ≡ false = subst (λ a. is_declared program a ≡ false) same off in
      let bad : true ≡ false = sym on ∙ both in cc

  pub writes_byte : (s : State) (written byte : ℕ) → is_declared program written ≡ true
      → is_constant program written ≡ false
      → Continues program s (record s { memory = slice_set s.memory written byte })
  writes_byte s written byte declared off = record {
    follows = record {
      budget = omega arith;
      events = ([], sym (append-nil s.events));
      size = length-set s.memory written byte;
      constants =
          λ address on. get_or-set_other s.memory written address byte 0
          (other_address address written off on);
      undeclared =
          λ address is. get_or-set_other s.memory written address byte 0
          (undeclared_address address written declared is);
    };
    frame = refl;
  }

  pub writes_in_frame : (s : State) (object offset byte : ℕ)
      → Continues program s
      (record s { frame = slice_set s.frame object (slice_set (frame_bytes s.frame object) offset byte) })
  writes_in_frame s object offset byte = record {
    follows =
        record { budget = omega arith; events = ([], sym (append-nil s.events)); size = refl; constants = λ address is. refl; undeclared = λ address is. refl };
    frame = map-set_same length s.frame object (slice_set (frame_bytes s.frame object) offset byte) []
        (length-set (frame_bytes s.frame object) offset byte);
  }

  pub reads_byte : (place : Place) (s : State) → Keeps program nothing_else s (read_byte program place s)
  reads_byte (InMemory address) s =
      keeps_if nothing_else s (is_declared program address) _ _ (λ on. (continues_itself s, tt))
      (λ off. (follows_itself s, tt))
  reads_byte (InTheFrame object offset is_inside) s =
      keeps_if nothing_else s is_inside _ _ (λ on. (continues_itself s, tt)) (λ off. (follows_itself s, tt))

  pub changes_byte : (place : Place) (byte : ℕ) (s : State)
      → Keeps program nothing_else s (write_byte program place byte s)
  changes_byte (InMemory address) byte s =
      keeps_if nothing_else s (is_declared program address) _ _
      (λ on. keeps_if nothing_else s (is_constant program address) _ _ (λ is. (follows_itself s, tt))
      (λ no. (writes_byte s address byte on no, tt)))
      (λ off. (follows_itself s, tt))
  changes_byte (InTheFrame object offset is_inside) byte s =
      keeps_if nothing_else s is_inside _ _ (λ on. (writes_in_frame s object offset byte, tt))
      (λ off. (follows_itself s, tt))

  pub reads_scalar : (scalar : ScalarType) (place : Place) (s : State)
      → Keeps program nothing_else s (read_scalar program scalar place s)
  reads_scalar Byte place s = reads_byte place s
  reads_scalar Address place s =
      keeps_then nothing_else nothing_else nothing_weakens s (read_byte program place s) _
      (reads_byte place s)
      (λ low t first more.
      keeps_then nothing_else nothing_else nothing_weakens t (read_byte program (next_place place) t) _
      (reads_byte (next_place place) t)
      (λ high u second last. (continues_itself u, tt)))

  pub changes_scalar : (scalar : ScalarType) (place : Place) (number : ℕ) (s : State)
      → Keeps program nothing_else s (write_scalar program scalar place number s)
  changes_scalar Byte place number s = changes_byte place (number % 256) s
  changes_scalar Address place number s =
      keeps_then nothing_else nothing_else nothing_weakens s (write_byte program place (number % 256) s) _
      (changes_byte place (number % 256) s)
      (λ done t first more. changes_byte (next_place place) (number / 256) t)

-- one part after another, judged from where the first began
pub keeps_after : {A B : Type 0} (program : Program) (one : Extra A) (two : Extra B) (s : State)
    (outcome : Outcome A) (go : A → State → Outcome B) → Keeps program one s outcome
    → ((found : A) (t : State) → Continues program s t → one s.budget found t.budget
    → Keeps program two s (go found t)) → Keeps program two s (then_do outcome go)
keeps_after program one two s (Gave found t) go kept rest = rest found t kept.0 kept.1
keeps_after program one two s (Stopped why t) go kept rest = kept

-- a flow from a later state on
pub flow_before : (program : Program) (s t : State) (outcome : Outcome Flow) → Continues program s t
    → Keeps program jump_took t outcome → Keeps program jump_took s outcome
flow_before program s t outcome first kept =
    from_before program jump_took (jump_weakens program) s t outcome first kept

-- one is taken of the budget
pub less_budget : (program : Program) (s : State) → Continues program s (record s { budget = s.budget - 1 })
less_budget program s = record {
  follows =
      record { budget = omega arith; events = (follows_itself program s).events; size = refl; constants = λ address is. refl; undeclared = λ address is. refl };
  frame = refl;
}

takes_by : {A : Type 0} (program : Program) (extra : Extra A) (s : State) (go : State → Outcome A)
    (test : Bool) → (s.budget == 0) ≡ test
    → ((t : State) → Continues program s t → suc t.budget ≤ s.budget → Keeps program extra s (go t))
    → Keeps program extra s (cond test (Stopped More s) (go (record s { budget = s.budget - 1 })))
takes_by program extra s go true is rest = (follows_itself program s, grind (arith, common_steps, is))
takes_by program extra s go false is rest =
    rest (record s { budget = s.budget - 1 }) (less_budget program s) (grind (arith, common_steps, is))

pub takes_one : {A : Type 0} (program : Program) (extra : Extra A) (s : State) (go : State → Outcome A)
    → ((t : State) → Continues program s t → suc t.budget ≤ s.budget → Keeps program extra s (go t))
    → Keeps program extra s (taking_one s go)
takes_one program extra s go rest = takes_by program extra s go (s.budget == 0) refl rest

pub goes_on : (program : Program) (flow : Flow) (go : State → Outcome Flow) (s t : State)
    → Continues program s t → jump_took s.budget flow t.budget → Keeps program jump_took t (go t)
    → Keeps program jump_took s (going_on flow go t)
goes_on program Onward go s t first took rest = flow_before program s t (go t) first rest
goes_on program (Returned found) go s t first took rest = (first, tt)
goes_on program (Jumped label) go s t first took rest = (first, took)
