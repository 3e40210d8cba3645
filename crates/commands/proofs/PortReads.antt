-- Reads of ports: how many there are, and where they pass the input.
use Rattle.commands.proofs.Prelude.{◌≡◌, ℕ, zero, ◌+◌, ◌-◌, ◌<◌, ◌≤◌, Bool, true, false, cond, List, [], ◌∷◌, ◌++◌, length, get_or, set, drop, refl, sym, ap, subst, ◌∙◌, arith, suc, eq-eqb, eqb-true, eqb-false, common_steps, get_or-set_at, get_or-set_other, length-map, length-set, sum_by-append, sum_by-cons, length-filter, count_by-le-length, count_by, filter, Event, read_event, write_event, is_read_of, queue_of, reads_of, InputByte, GivesInput, bytes_to, IsWithinInput, PassesInput, IsLeft, left_at}
use Rattle.std.proofs.Common.{replicate}
use Rattle.std.specs.Prelude.{◌==◌}

-- reads of events, and of others after them
pub reads_append : (one other : List Event) (port : ℕ) → reads_of (one ++ other) port ≡ reads_of one port + reads_of other port
reads_append one other port = sum_by-append (λ event. cond (is_read_of port event) 1 0) one other

-- the bytes that were counted, and then those that are left to be counted, are all
pub record CountedSoFar (input rest : List InputByte) (left : List ℕ) : Type 0 where
  pub size : length left ≡ 256
  pub counts : (port : ℕ) → left_at left port + length (bytes_to port rest) ≡ length (bytes_to port input)

at_zeros : (count port : ℕ) → ◌≡◌ {A = ℕ} (get_or (replicate count 0) port 0) 0
at_zeros count port = grind (arith, common_steps)

pub none_counted : (input : List InputByte) (left : List ℕ) → left ≡ replicate 256 0 → CountedSoFar input input left
none_counted input left zeros = record {
  size = ap length zeros;
  counts = λ port.
      let none : left_at left port ≡ 0 = ap (λ (l : List ℕ). left_at l port) zeros ∙ at_zeros 256 port in
      omega (arith, none);
}

module _ (input more : List InputByte) (one : InputByte) (old : List ℕ) (so_far : CountedSoFar input (one ∷ more) old) where
  -- there is room for one more
  room_for_one : get_or old one.port 0 + 1 ≤ length input
  room_for_one =
      let same : (one.port == one.port) ≡ true = eq-eqb one.port one.port refl in
      let first : bytes_to one.port (one ∷ more) ≡ one.byte ∷ bytes_to one.port more = rw same refl in
      let all : get_or old one.port 0 + suc (length (bytes_to one.port more)) ≡ length (bytes_to one.port input) =
      ap (λ (l : List ℕ). get_or old one.port 0 + length l) (sym first) ∙ so_far.counts one.port in
      let few : length (bytes_to one.port input) ≤ length input = bytes_fit one.port input in
      omega (arith, all, few)
    where
      bytes_fit : (port : ℕ) (bytes : List InputByte) → length (bytes_to port bytes) ≤ length bytes
      bytes_fit port bytes =
          let kept : length (filter (λ (b : InputByte). port == b.port) bytes) ≡ count_by (λ (b : InputByte). port == b.port) bytes = length-filter (λ (b : InputByte). port == b.port) bytes in
          let seen : length (bytes_to port bytes) ≡ length (filter (λ (b : InputByte). port == b.port) bytes) = rw length-map refl in
          omega (arith, kept, seen, count_by-le-length (λ (b : InputByte). port == b.port) bytes)

  counted_at : one.port < 256 → (port : ℕ) (here : Bool) → (port == one.port) ≡ here
      → left_at (set old one.port (get_or old one.port 0 + 1)) port + length (bytes_to port more) ≡ length (bytes_to port input)
  counted_at inside port true e =
      let is : port ≡ one.port = eqb-true port one.port e in
      let first : bytes_to port (one ∷ more) ≡ one.byte ∷ bytes_to port more = rw e refl in
      let all : get_or old port 0 + suc (length (bytes_to port more)) ≡ length (bytes_to port input) = ap (λ (l : List ℕ). get_or old port 0 + length l) (sym first) ∙ so_far.counts port in
      let now : get_or (set old one.port (get_or old one.port 0 + 1)) port 0 ≡ get_or old one.port 0 + 1 = get_or-set_at old one.port port (get_or old one.port 0 + 1) 0 is (omega (arith, so_far.size, inside)) in
      let was : get_or old one.port 0 ≡ get_or old port 0 = ap (λ n. get_or old n 0) (sym is) in
      omega (arith, all, now, was)
  counted_at inside port false e =
      let first : bytes_to port (one ∷ more) ≡ bytes_to port more = rw e refl in
      let now : get_or (set old one.port (get_or old one.port 0 + 1)) port 0 ≡ get_or old port 0 = get_or-set_other old one.port port (get_or old one.port 0 + 1) 0 (eqb-false port one.port e) in
      ap (λ n. n + length (bytes_to port more)) now ∙ ap (λ (l : List ℕ). get_or old port 0 + length l) (sym first) ∙ so_far.counts port

  one_more : one.port < 256 → CountedSoFar input more (set old one.port (get_or old one.port 0 + 1))
  one_more inside = record {
    size = length-set old one.port (get_or old one.port 0 + 1) ∙ so_far.size;
    counts = λ port. counted_at inside port (port == one.port) refl;
  }

-- one byte more is counted
pub one_counted : (input rest : List InputByte) (one : InputByte) (old new : List ℕ) → 1 ≤ length rest → one ≡ get_or rest 0 one → one.port < 256 → CountedSoFar input rest old
    → new ≡ set old one.port (get_or old one.port 0 + 1) → CountedSoFar input (drop 1 rest) new
one_counted input [] one old new some is inside so_far added = absurd (omega arith)
one_counted input (first ∷ more) one old new some is inside so_far added =
    rw added (one_more input more one old (subst (λ (b : InputByte). CountedSoFar input (b ∷ more) old) (sym is) so_far) inside)

-- there is room for it
pub room_for_first : (input rest : List InputByte) (other : InputByte) (old : List ℕ) → 1 ≤ length rest → CountedSoFar input rest old → get_or old (get_or rest 0 other).port 0 + 1 ≤ length input
room_for_first input [] other old some so_far = absurd (omega arith)
room_for_first input (first ∷ more) other old some so_far = room_for_one input more first old so_far

-- where none is left to be counted, all are counted
pub all_counted : (input rest : List InputByte) (left : List ℕ) → length rest < 1 → CountedSoFar input rest left → (port : ℕ) → left_at left port ≡ length (bytes_to port input)
all_counted input [] left none so_far port = let e = so_far.counts port in omega (arith, e)
all_counted input (one ∷ rest) left none so_far port = absurd (omega arith)

-- before any event all bytes of the input are left
pub all_left : (input : List InputByte) (script : List (List ℕ)) (events : List Event) (left : List ℕ) → GivesInput input script → events ≡ [] → ((port : ℕ) → left_at left port ≡ length (bytes_to port input)) → IsLeft script events left
all_left input script events left gives none counts port =
    let reads : reads_of events port ≡ 0 = ap (λ (es : List Event). reads_of es port) none in
    let size : length (queue_of script port) ≡ length (bytes_to port input) = ap (λ (q : List ℕ). length q) (gives port) in
    omega (arith, reads, size, counts port)

-- what is left says that the events are within the input
pub left_within : (script : List (List ℕ)) (events : List Event) (left : List ℕ) → IsLeft script events left → IsWithinInput script events
left_within script events left is_left port = omega (arith, is_left port)

pub none_left : (script : List (List ℕ)) (events : List Event) (left : List ℕ) (port : ℕ) → IsLeft script events left → left_at left port ≡ 0 → reads_of events port ≡ length (queue_of script port)
none_left script events left port is_left none = omega (arith, is_left port, none)

pub some_left : (script : List (List ℕ)) (events : List Event) (left : List ℕ) (port : ℕ) → IsLeft script events left → (left_at left port == 0) ≡ false → reads_of events port < length (queue_of script port)
some_left script events left port is_left some = by (left_at left port) refl
  where
    by : (count : ℕ) → left_at left port ≡ count → reads_of events port < length (queue_of script port)
    by zero none = absurd (eqb-false (left_at left port) 0 some none)
    by (suc count) more = omega (arith, is_left port, more)

-- an event more
reads_more : (old new : List Event) (event : Event) (port : ℕ) → new ≡ old ++ event ∷ [] → reads_of new port ≡ reads_of old port + cond (is_read_of port event) 1 0
reads_more old new event port adds =
    let one : reads_of (event ∷ []) port ≡ cond (is_read_of port event) 1 0 + reads_of [] port = sum_by-cons (λ (e : Event). cond (is_read_of port e) 1 0) event [] in
    let all : reads_of new port ≡ reads_of old port + reads_of (event ∷ []) port = ap (λ (es : List Event). reads_of es port) adds ∙ reads_append old (event ∷ []) port in
    omega (arith, one, all)

module _ (script : List (List ℕ)) (old new : List Event) (left : List ℕ) (before : IsLeft script old left) where
  -- a write takes nothing
  pub write_left : (port value : ℕ) → new ≡ old ++ write_event port value ∷ [] → IsLeft script new left
  write_left port value adds other = let more = reads_more old new (write_event port value) other adds in omega (arith, more, before other)

  -- a read takes one byte
  pub read_left : (port value : ℕ) (rest : List ℕ) → new ≡ old ++ read_event port value ∷ [] → port < length left → 1 ≤ left_at left port → rest ≡ set left port (left_at left port - 1) → IsLeft script new rest
  read_left port value rest adds known some is other = by (port == other) refl
    where
      more : reads_of new other ≡ reads_of old other + cond (is_read_of other (read_event port value)) 1 0
      more = reads_more old new (read_event port value) other adds

      now : left_at rest other ≡ left_at (set left port (left_at left port - 1)) other
      now = ap (λ (l : List ℕ). left_at l other) is

      by : (here : Bool) → (port == other) ≡ here → left_at rest other + reads_of new other ≡ length (queue_of script other)
      by true e =
          let same : port ≡ other = eqb-true port other e in
          let found : is_read_of other (read_event port value) ≡ true = rw e refl in
          let read : ◌≡◌ {A = ℕ} (cond (is_read_of other (read_event port value)) 1 0) 1 = ap (λ b. cond b 1 0) found in
          let there : get_or (set left port (left_at left port - 1)) other 0 ≡ left_at left port - 1 = get_or-set_at left port other (left_at left port - 1) 0 (sym same) known in
          let was : left_at left port ≡ left_at left other = ap (λ n. left_at left n) same in
          omega (arith, more, now, read, there, was, some, before other)
      by false e =
          let found : is_read_of other (read_event port value) ≡ false = rw e refl in
          let read : ◌≡◌ {A = ℕ} (cond (is_read_of other (read_event port value)) 1 0) 0 = ap (λ b. cond b 1 0) found in
          let there : get_or (set left port (left_at left port - 1)) other 0 ≡ get_or left other 0 = get_or-set_other left port other (left_at left port - 1) 0 (λ h. eqb-false port other e (sym h)) in
          omega (arith, more, now, read, there, before other)

-- reads that are within the input, and one of a port all of whose bytes were read
pub passes : (script : List (List ℕ)) (events : List Event) (next : Event) (port : ℕ) → IsWithinInput script events → reads_of events port ≡ length (queue_of script port) → next.write ≡ false → next.port ≡ port
    → PassesInput script events next
passes script events next port within all read same = record {
  within = within;
  past = λ after.
      let more : reads_of (events ++ next ∷ []) port ≡ reads_of events port + cond (is_read_of port next) 1 0 = reads_more events (events ++ next ∷ []) next port refl in
      let is_read : is_read_of port next ≡ true = rw (read, eq-eqb next.port port same) refl in
      let one : ◌≡◌ {A = ℕ} (cond (is_read_of port next) 1 0) 1 = ap (λ b. cond b 1 0) is_read in
      omega (arith, more, one, all, after port);
}

-- ---- events that stay within the input

at_most_one : (test : Bool) → cond test 1 0 ≤ 1
at_most_one true = omega arith
at_most_one false = omega arith

module _ (script : List (List ℕ)) (events : List Event) (next : Event) (within : IsWithinInput script events) where
  -- a write
  pub write_within : next.write ≡ true → IsWithinInput script (events ++ next ∷ [])
  write_within write port =
      let more : reads_of (events ++ next ∷ []) port ≡ reads_of events port + cond (is_read_of port next) 1 0 = reads_more events (events ++ next ∷ []) next port refl in
      let other : is_read_of port next ≡ false = rw write refl in
      let none : ◌≡◌ {A = ℕ} (cond (is_read_of port next) 1 0) 0 = ap (λ b. cond b 1 0) other in
      omega (arith, more, none, within port)

  -- a read of a port that has more
  pub read_within : (port : ℕ) → reads_of events port < length (queue_of script port) → next.write ≡ false → next.port ≡ port → IsWithinInput script (events ++ next ∷ [])
  read_within port some read same other = by (next.port == other) refl
    where
      more : reads_of (events ++ next ∷ []) other ≡ reads_of events other + cond (is_read_of other next) 1 0
      more = reads_more events (events ++ next ∷ []) next other refl

      by : (here : Bool) → (next.port == other) ≡ here → reads_of (events ++ next ∷ []) other ≤ length (queue_of script other)
      by true e =
          let there : port ≡ other = sym same ∙ eqb-true next.port other e in
          let room : reads_of events other < length (queue_of script other) = subst (λ n. reads_of events n < length (queue_of script n)) there some in
          omega (arith, more, at_most_one (is_read_of other next), room)
      by false e =
          let none : is_read_of other next ≡ false = rw (read, e) refl in
          let nothing : ◌≡◌ {A = ℕ} (cond (is_read_of other next) 1 0) 0 = ap (λ b. cond b 1 0) none in
          omega (arith, more, nothing, within other)
