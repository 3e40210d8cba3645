-- A file is judged whole, record by record.
use Rattle.object_reading.proofs.Prelude.{◌≡◌, ℕ, suc, ◌<◌, ◌≤◌, ◌==◌, true, false, List, [], ◌∷◌, length, drop, reverse, slice_index, Some, None, Result, Ok, Err, refl, ap, sym, subst, ◌∙◌, arith, eqb-true, length-drop, RecordFault, Truncated, RecordKind, Record, BeginsWith, kind_of_type, record_end, record_fault, first_body, IsBytes, Fault, OutOfOrder, Code, Data, Stack, is_ended, length_in, ObjectModule, Part, part_in, fault_from_record, fault_of_record, Spells, HasFirstFault, IsFileOf, alignment_in, start_in, judged_after, parts_of, JudgesFile, parts_law, no_fault, Extents, Header, IsJudged, is_over, State, beginning, record_taken, Tells, false≢true}
use Rattle.failure.specs.{Failure.{IfFault}, declared.Failure.{Failure}}
use Rattle.failure.specs.declared.Failure.TheVariants as failures
use Rattle.object_reading.proofs.JudgeSteps.{no_record, broken_rule, goes_on, at_the_end, past_the_end}
use Rattle.object_reading.proofs.Knowing.{SaysHeader}
use Rattle.object_reading.proofs.ExtentsSaid.{code_length_said, code_alignment_said, data_length_said, data_alignment_said, stack_length_said}
use Rattle.object_reading.proofs.RecordVerdict.{StateAfter, at_beginning, ended_alike, Passed, Outcome, record_verdict}

-- records of a file were passed, and the judgement of it goes on with what is left
pub record HasPassed (bytes rest : List ℕ) (state : State) : Type 0 where
  pub before : List Part
  pub after : StateAfter before state
  pub judged : parts_of bytes ≡ judged_after (suc (length rest)) before rest

nothing_passed : (bytes : List ℕ) → HasPassed bytes bytes beginning
unfolding parts_of
nothing_passed bytes = record { before = []; after = at_beginning; judged = refl }

pub passed_at_beginning :
    (bytes rest : List ℕ) (state : State) → rest ≡ bytes → state ≡ beginning → HasPassed bytes rest state
passed_at_beginning bytes rest state all first =
    subst (λ left. HasPassed bytes left state) (sym all)
    (subst (HasPassed bytes bytes) (sym first) (nothing_passed bytes))

not_ended :
    (bytes rest : List ℕ) (state : State) (passed : HasPassed bytes rest state) → is_over state.latest ≡ false
    → is_ended passed.before ≡ false
not_ended bytes rest state passed e = sym (ended_alike passed.before state passed.after) ∙ e

-- a record has bytes
shorter : (rest : List ℕ) → record_fault rest ≡ None → length (drop (record_end rest) rest) < length rest
unfolding record_fault
shorter [] none = absurd (let bad : Some Truncated ≡ None = none in cc)
shorter (byte ∷ others) none = omega (arith, length-drop (record_end (byte ∷ others)) (byte ∷ others))

-- the record in front of what is left, as it was read
pub record InFront (rest : List ℕ) (kind : RecordKind) (body after : List ℕ) : Type 0 where
  pub sound : record_fault rest ≡ None
  pub of_type : kind_of_type (slice_index rest 0) ≡ Some kind
  pub body_is : body ≡ first_body rest
  pub after_is : after ≡ drop (record_end rest) rest
  pub short : length body ≤ 1027

-- it has bytes
pub fewer_left :
    (rest after : List ℕ) → record_fault rest ≡ None → after ≡ drop (record_end rest) rest
    → length after < length rest
fewer_left rest after sound e = subst (λ left. length left < length rest) (sym e) (shorter rest sound)

pub in_front :
    (rest after : List ℕ) (read : Record) → BeginsWith rest read after → record_fault rest ≡ None
    → kind_of_type (slice_index rest 0) ≡ Some read.kind → read.body ≡ first_body rest
    → after ≡ drop (record_end rest) rest → InFront rest read.kind read.body after
in_front rest after read begins sound of_type body_is after_is = record {
  sound = sound;
  of_type = of_type;
  body_is = body_is;
  after_is = after_is;
  short = begins.limit;
}

pub record_passed :
    (bytes rest : List ℕ) (state new : State) (kind : RecordKind) (body after : List ℕ)
    → HasPassed bytes rest state
    → is_over state.latest ≡ false → InFront rest kind body after → record_taken state kind body ≡ Ok new
    → HasPassed bytes after new
record_passed bytes rest state new kind body after passed over front taken =
    let p : Passed passed.before kind body new =
    subst (Outcome passed.before kind body) taken
    (record_verdict passed.before state kind body passed.after front.short) in
    subst (λ left. HasPassed bytes left new) (sym front.after_is)
    (record {
      before = p.part ∷ passed.before;
      after = p.after;
      judged =
          passed.judged
          ∙ goes_on passed.before rest kind p.part (not_ended bytes rest state passed over)
          front.sound front.of_type
          (ap (fault_of_record passed.before kind) (sym front.body_is) ∙ p.no_fault)
          (ap (part_in kind) (sym front.body_is) ∙ p.read) (shorter rest front.sound);
    })

-- a fault of the file: its first one, and the file spells nothing
pub record IsFaulty (bytes : List ℕ) (fault : Fault) : Type 0 where
  pub first : HasFirstFault bytes fault
  pub spells_none : (object : ObjectModule) → Spells bytes object → ⊥

faulty : (bytes : List ℕ) (fault : Fault) → IsBytes bytes → parts_of bytes ≡ Err fault → IsFaulty bytes fault
faulty bytes fault all e =
    let first : HasFirstFault bytes fault = subst (JudgesFile bytes) e (parts_law bytes all) in
    record { first = first; spells_none = λ object spells. no_fault bytes object fault spells first }

pub record_refused :
    (bytes rest : List ℕ) (state : State) (kind : RecordKind) (body after : List ℕ) (fault : Fault)
    → IsBytes bytes
    → HasPassed bytes rest state → is_over state.latest ≡ false → InFront rest kind body after
    → record_taken state kind body ≡ Err fault → IsFaulty bytes fault
record_refused bytes rest state kind body after fault all passed over front refused =
    let broken : fault_of_record passed.before kind body ≡ Some fault =
    subst (Outcome passed.before kind body) refused
    (record_verdict passed.before state kind body passed.after front.short) in
    faulty bytes fault all
    (passed.judged
    ∙ broken_rule (length rest) passed.before rest kind fault
    (not_ended bytes rest state passed over) front.sound
    front.of_type (ap (fault_of_record passed.before kind) (sym front.body_is) ∙ broken))

pub no_record_left :
    (bytes rest : List ℕ) (state : State) (own : RecordFault) (fault : Fault) → IsBytes bytes
    → HasPassed bytes rest state → is_over state.latest ≡ false → record_fault rest ≡ Some own
    → fault ≡ fault_from_record own → IsFaulty bytes fault
no_record_left bytes rest state own fault all passed over found is =
    subst (IsFaulty bytes) (sym is)
    (faulty bytes (fault_from_record own) all
    (passed.judged ∙ no_record (length rest) passed.before rest own
    (not_ended bytes rest state passed over) found))

-- the file has ended
has_ended :
    (bytes rest : List ℕ) (state : State) (passed : HasPassed bytes rest state) → is_over state.latest ≡ true
    → is_ended passed.before ≡ true
has_ended bytes rest state passed e = sym (ended_alike passed.before state passed.after) ∙ e

some_left : (rest : List ℕ) → (length rest == 0) ≡ false → rest ≡ [] → ⊥
some_left [] h e = absurd (false≢true (sym h))
some_left (byte ∷ others) h e = absurd (let bad : byte ∷ others ≡ [] = e in cc)

none_left : (rest : List ℕ) → (length rest == 0) ≡ true → rest ≡ []
none_left [] h = refl
none_left (byte ∷ others) h =
    let same : length (byte ∷ others) ≡ 0 = eqb-true (length (byte ∷ others)) 0 h in
    absurd (omega (arith, same))

past_end :
    (bytes rest : List ℕ) (state : State) → IsBytes bytes → HasPassed bytes rest state
    → is_over state.latest ≡ true
    → (rest ≡ [] → ⊥) → IsFaulty bytes OutOfOrder
past_end bytes [] state all passed over more = absurd (more refl)
past_end bytes (byte ∷ others) state all passed over more =
    faulty bytes OutOfOrder all
    (passed.judged
    ∙ past_the_end (length (byte ∷ others)) passed.before byte others
    (has_ended bytes (byte ∷ others) state passed over))

pub too_much :
    (bytes rest left : List ℕ) (state : State) → IsBytes bytes → HasPassed bytes rest state
    → is_over state.latest ≡ true → left ≡ rest → (length left == 0) ≡ false → IsFaulty bytes OutOfOrder
too_much bytes rest left state all passed over same some =
    past_end bytes rest state all passed over (λ e. some_left left some (same ∙ e))

header_told :
    (bytes : List ℕ) (before : List Part) (state : State) (header : Header) → IsFileOf bytes (reverse before)
    → SaysHeader before state.name state.extents → start_in (reverse before) ≡ state.start
    → Tells header state
    → IsJudged bytes header
header_told bytes before state header file h start tells = record {
  parts = reverse before;
  file = file;
  name = tells.name ∙ sym h.named;
  code_length =
      tells.code_length ∙ ap (λ (x : Extents). x.code_length) h.said ∙ code_length_said h.entries h.ascending
      ∙ ap (λ l. length_in l Code) (sym h.in_order);
  code_alignment =
      tells.code_alignment ∙ ap (λ (x : Extents). x.code_alignment) h.said
      ∙ code_alignment_said h.entries h.ascending ∙ ap (λ l. alignment_in l Code) (sym h.in_order);
  data_length =
      tells.data_length ∙ ap (λ (x : Extents). x.data_length) h.said ∙ data_length_said h.entries h.ascending
      ∙ ap (λ l. length_in l Data) (sym h.in_order);
  data_alignment =
      tells.data_alignment ∙ ap (λ (x : Extents). x.data_alignment) h.said
      ∙ data_alignment_said h.entries h.ascending ∙ ap (λ l. alignment_in l Data) (sym h.in_order);
  stack_length =
      tells.stack_length ∙ ap (λ (x : Extents). x.stack_length) h.said
      ∙ stack_length_said h.entries h.ascending
      ∙ ap (λ l. length_in l Stack) (sym h.in_order);
  start = tells.start ∙ sym start;
}

pub judged_whole :
    (bytes rest left : List ℕ) (state : State) (header : Header) → IsBytes bytes → HasPassed bytes rest state
    → is_over state.latest ≡ true → left ≡ rest → (length left == 0) ≡ true → Tells header state
    → IsJudged bytes header
judged_whole bytes rest left state header all passed over same none tells =
    let before : List Part = passed.before in
    let judged : parts_of bytes ≡ Ok (reverse before) =
    passed.judged ∙ ap (λ r. judged_after (suc (length r)) before r) (sym same ∙ none_left left none)
    ∙ at_the_end 0 before (has_ended bytes rest state passed over) in
    header_told bytes before state header (subst (JudgesFile bytes) judged (parts_law bytes all))
    ((passed.after).knows).header ((passed.after).knows).start tells

-- what is true of a failure's fault is true of the result that hands it on
pub handed_on :
    {A : Type 0} (result : Result A (Failure Fault)) (failure : Failure Fault) (P Q : Fault → Type 0)
    → result ≡ Err failure → IfFault {A = Unit {0}} (Err failure) P
    → ((fault : Fault) → P fault → Q fault) → IfFault result Q
handed_on {A} result failure P Q is given each = subst (λ r. IfFault r Q) (sym is) (go failure given)
  where
    go : (failed : Failure Fault) → IfFault {A = Unit {0}} (Err failed) P → IfFault {A = A} (Err failed) Q
    go (failures.Fault fault) p = each fault p
    go failures.Memory p = tt
