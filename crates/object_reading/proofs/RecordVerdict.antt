-- Each record is judged as the rules say.
use Rattle.object_reading.proofs.Prelude.{◌≡◌, ℕ, ◌≤◌, Bool, true, false, cond, List, [], ◌∷◌, length, Option, Some, None, Result, Ok, Err, refl, ap, sym, ◌∙◌, option_map_or, RecordKind, Fault, WrongBody, OutOfOrder, may_follow, is_ended, Part, kind_of_part, part_in, part_fault, fault_of_record, may_come, is_over, State, beginning, body_taken, then_latest, record_taken, false≢true}
use Rattle.omf80.specs.declared.kind.RecordKind.TheVariants as kinds
use Rattle.object_reading.proofs.Knowing.{Knows, Verdict}
use Rattle.object_reading.proofs.HeaderVerdict.{header_verdict}
use Rattle.object_reading.proofs.NamesVerdict.{externals_verdict, publics_verdict}
use Rattle.object_reading.proofs.ContentVerdict.{content_verdict}
use Rattle.object_reading.proofs.FixesVerdict.{references_verdict, relocation_verdict, intersegment_verdict}
use Rattle.object_reading.proofs.EndVerdict.{end_verdict, last_verdict}

body_verdict :
    (before : List Part) (state : State) (kind : RecordKind) (body : List ℕ) → Knows before state
    → may_follow before kind ≡ true → length body ≤ 1027
    → Verdict before kind (part_in kind body) (body_taken state kind body)
unfolding part_in
body_verdict before state kinds.Header body k follows short = header_verdict before state body k follows
body_verdict before state kinds.ExternalNames body k follows short =
    externals_verdict before state body k follows
body_verdict before state kinds.Publics body k follows short = publics_verdict before state body k follows
body_verdict before state kinds.Content body k follows short =
    content_verdict before state body k follows short
body_verdict before state kinds.ExternalReferences body k follows short =
    references_verdict before state body k follows
body_verdict before state kinds.Relocation body k follows short =
    relocation_verdict before state body k follows
body_verdict before state kinds.IntersegmentReferences body k follows short =
    intersegment_verdict before state body k follows
body_verdict before state kinds.ModuleEnd body k follows short = end_verdict before state body k follows
body_verdict before state kinds.EndOfFile body k follows short = last_verdict before state body k

-- the kind of the latest record
abbrev pub latest_kind : (before : List Part) → Option RecordKind
latest_kind [] = None
latest_kind (latest ∷ others) = Some (kind_of_part latest)

-- the state after records
pub record StateAfter (before : List Part) (state : State) : Type 0 where
  pub knows : Knows before state
  pub latest : state.latest ≡ latest_kind before

pub at_beginning : StateAfter [] beginning
at_beginning = record {
  knows = record {
    header =
        record { entries = []; ascending = refl; said = refl; stated = refl; in_order = refl; named = refl };
    names = λ name. refl;
    externals = refl;
    counted = λ _. refl;
    code_end = refl;
    data_end = refl;
    content = λ h. absurd (false≢true h);
    start = refl;
    no_start = λ _. refl;
  };
  latest = refl;
}

order_alike : (before : List Part) (kind : RecordKind)
    → may_come (latest_kind before) kind ≡ may_follow before kind
order_alike [] kind = refl
order_alike (latest ∷ others) kind = refl

over_alike : (before : List Part) → is_over (latest_kind before) ≡ is_ended before
over_alike [] = refl
over_alike (latest ∷ others) = refl

pub ended_alike :
    (before : List Part) (state : State) → StateAfter before state → is_over state.latest ≡ is_ended before
ended_alike before state after = ap is_over after.latest ∙ over_alike before

-- a record that was accepted, and the state after it
pub record Passed (before : List Part) (kind : RecordKind) (body : List ℕ) (state : State) : Type 0 where
  pub part : Part
  pub read : part_in kind body ≡ Some part
  pub no_fault : fault_of_record before kind body ≡ None
  pub after : StateAfter (part ∷ before) state

abbrev pub Outcome : (before : List Part) → RecordKind → (body : List ℕ) → Result State Fault → Type 0
Outcome before kind body (Ok state) = Passed before kind body state
Outcome before kind body (Err fault) = fault_of_record before kind body ≡ Some fault

-- what is known doesn't rest on the kind of the latest record
latest_aside :
    (before : List Part) (state : State) (latest : Option RecordKind) → Knows before state
    → Knows before (record state { latest = latest })
latest_aside before state latest k = record {
  header = k.header;
  names = k.names;
  externals = k.externals;
  counted = k.counted;
  code_end = k.code_end;
  data_end = k.data_end;
  content = k.content;
  start = k.start;
  no_start = k.no_start;
}

in_order :
    (before : List Part) (kind : RecordKind) (body : List ℕ) (result : Result State Fault)
    → may_follow before kind ≡ true → Verdict before kind (part_in kind body) result
    → Outcome before kind body (then_latest kind result)
in_order before kind body (Ok state) follows v = record {
  part = v.part;
  read = v.read;
  no_fault =
      ap (λ b. cond b (option_map_or (part_fault before) (part_in kind body) (Some WrongBody))
      (Some OutOfOrder)) follows
      ∙ ap (λ found. option_map_or (part_fault before) found (Some WrongBody)) v.read
      ∙ v.no_fault;
  after = record { knows = latest_aside (v.part ∷ before) state (Some kind) v.knows; latest = ap Some (sym v.of_kind) };
}
in_order before kind body (Err fault) follows v =
    ap (λ b. cond b (option_map_or (part_fault before) (part_in kind body) (Some WrongBody))
    (Some OutOfOrder)) follows ∙ v

by_order :
    (before : List Part) (state : State) (kind : RecordKind) (body : List ℕ) → Knows before state
    → length body ≤ 1027 → (follows : Bool) → may_follow before kind ≡ follows
    → Outcome before kind body (cond follows (then_latest kind (body_taken state kind body)) (Err OutOfOrder))
by_order before state kind body k short true e =
    in_order before kind body (body_taken state kind body) e (body_verdict before state kind body k e short)
by_order before state kind body k short false e =
    ap (λ b. cond b (option_map_or (part_fault before) (part_in kind body) (Some WrongBody))
    (Some OutOfOrder)) e

pub record_verdict :
    (before : List Part) (state : State) (kind : RecordKind) (body : List ℕ) → StateAfter before state
    → length body ≤ 1027 → Outcome before kind body (record_taken state kind body)
record_verdict before state kind body after short =
    by_order before state kind body after.knows short (may_come state.latest kind)
    (sym (ap (λ latest. may_come latest kind) after.latest ∙ order_alike before kind))
