-- MOVE: a loop that copies a byte, with C counting the bytes of a page and B the pages.
use Rattle.runtime8080.proofs.Prelude.{◌≡◌, ℕ, zero, suc, ◌+◌, ◌-◌, ◌*◌, ◌/◌, ◌%◌, ◌<◌, ◌≤◌, ◌==◌, true, false, not, List, [], ◌∷◌, refl, sym, ap, subst, ◌∙◌, arith, slice_set, eq-eqb, MEMORY_SIZE, IsMemory, byte_at, byte_small, IsIn, Event, A, B, C, Of, De, Hl, IndexDe, NotZero, Instr, Dcr, Inr, Inx, Ldax, MovToMemory, Ret, HoldBytes, Registers, State, word, wrap, JumpWhere, AtLabel, Item, Plain, WithWord, Mark, Layout, Stands, Comes, at, runs_from_instruction, goes_past, jumps_where, returned, returns, effect, straight, not_zero, word_is, byte_kept, memory_put, stands_size, stands_still, BlockMisses, copied, high_of_wrapped, word_of_halves, wrapped_next}
use Rattle.runtime8080.proofs.Copies.{first_missed, others_missed}

abbrev pub whole : (first : ℕ) → List Item
whole first =
    Mark (first + 1) ∷ Plain (Inr (Of B)) ∷ Plain (Dcr (Of B))
    ∷ WithWord (JumpWhere NotZero) (AtLabel first) ∷ Plain Ret ∷ []

abbrev pub on_pages : (first : ℕ) → List Item
on_pages first =
    Plain (Dcr (Of B)) ∷ WithWord (JumpWhere NotZero) (AtLabel first) ∷ Plain Ret ∷ whole first

abbrev pub after_byte : (first : ℕ) → List Item
after_byte first = WithWord (JumpWhere NotZero) (AtLabel first) ∷ on_pages first

abbrev pub forward : List Instr
forward = Inx De ∷ Inx Hl ∷ Dcr (Of C) ∷ []

abbrev pub one_byte : (first : ℕ) → List Item
one_byte first =
    Plain (Ldax IndexDe) ∷ Plain (MovToMemory A) ∷ Plain (Inx De) ∷ Plain (Inx Hl) ∷ Plain (Dcr (Of C))
    ∷ after_byte first

-- a run that copies a block and returns
pub record Moved
    (script : List (List ℕ)) (top : ℕ) (r : Registers) (memory : List ℕ) (events : List Event)
    (count source destination most : ℕ) : Type 0 where
  pub steps : ℕ
  pub after : Registers
  pub run :
      Comes script steps (at top r memory events)
      (returned after (copied count source destination memory) events)
  pub few : steps ≤ most
  pub bytes : HoldBytes after
  pub sp : after.sp ≡ r.sp

-- the registers once A has the byte
abbrev pub loaded : Registers → (memory : List ℕ) → Registers
loaded r memory = record r { a = byte_at memory (word r.d r.e) }

-- the memory once it is put
abbrev pub put : Registers → (memory : List ℕ) → List ℕ
put r memory = slice_set memory (word r.h r.l) (byte_at memory (word r.d r.e))

abbrev pub next : Registers → (memory : List ℕ) → Registers
next r memory = effect forward (loaded r memory)

next_bytes : (r : Registers) (memory : List ℕ) → IsMemory memory → HoldBytes r → HoldBytes (next r memory)
next_bytes r memory is are = record {
  a = byte_small memory (word r.d r.e) is;
  b = are.b;
  c = low_small (r.c + 254 + 1);
  d = high_of_wrapped (word r.d r.e + 1);
  e = low_small (wrap (word r.d r.e + 1));
  h = high_of_wrapped (word r.h r.l + 1);
  l = low_small (wrap (word r.h r.l + 1));
}
  where
    low_small : (n : ℕ) → n % 256 < 256
    low_small n = omega arith

-- the address in a pair counts on
counts_on : (high low place : ℕ) → word high low ≡ wrap place
    → word (wrap (word high low + 1) / 256) (wrap (word high low + 1) % 256) ≡ wrap (place + 1)
counts_on high low place h =
    word_of_halves (wrap (word high low + 1)) ∙ (ap (λ n. wrap (n + 1)) h ∙ wrapped_next place)

is_in : (start to address : ℕ) → start ≤ address → address < to
    → IsIn address (record { start = start; len = to - start })
is_in start to address low high = (omega arith, omega arith)

-- the code stands once the byte is put
code_stands :
    (layout : Layout) (first top to : ℕ) (r : Registers) (memory : List ℕ) (count destination : ℕ)
    → to ≤ MEMORY_SIZE
    → word r.h r.l ≡ wrap destination
    → BlockMisses (suc count) destination (record { start = top; len = to - top })
    → Stands layout memory (one_byte first) top to
    → Stands layout (put r memory) (one_byte first) top to
code_stands layout first top to r memory count destination limit hl misses stands =
    stands_still layout memory (put r memory) (one_byte first) top to limit
    (λ address low high.
    byte_kept memory (word r.h r.l) address (byte_at memory (word r.d r.e))
    (λ e. first_missed count destination (record { start = top; len = to - top }) misses
    (subst (λ a. IsIn a (record { start = top; len = to - top })) (e ∙ hl) (is_in top to address low high))))
    stands

-- one byte is copied, and the loop goes on after it
copies_one :
    (script : List (List ℕ)) (layout : Layout) (first top to : ℕ) (r : Registers) (memory : List ℕ)
    (events : List Event) (k : ℕ) (u : State)
    → to ≤ MEMORY_SIZE
    → Stands layout memory (one_byte first) top to
    → Stands layout (put r memory) (one_byte first) top to
    → Comes script k (at (top + 1 + 1 + 1 + 1 + 1) (next r memory) (put r memory) events) u
    → Comes script (suc (suc (suc (suc (suc k))))) (at top r memory events) u
copies_one script layout first top to r memory events k u limit before stands more =
    let size = stands_size layout memory (one_byte first) top to before in
    runs_from_instruction script (suc (suc (suc (suc k)))) (Ldax IndexDe) top r memory events u
    before.0 (omega arith)
    (runs_from_instruction script (suc (suc (suc k))) (MovToMemory A) (top + 1) (loaded r memory) memory
    events u before.1.0 (omega arith)
    (straight script layout forward (after_byte first) (top + 1 + 1) to (loaded r memory) (put r memory)
    events k u refl stands.1.1 (omega arith) more))

byte_of : (n c : ℕ) → c ≡ suc n % 256 → n < 256 → (c + 254 + 1) % 256 ≡ n
byte_of n c h small = omega arith

is_zero : (n : ℕ) → n ≡ 0 → not (n == 0) ≡ false
is_zero n h = ap not (eq-eqb n 0 h)

not_zero_not : (n k : ℕ) → n ≡ suc k → not (n == 0) ≡ true
not_zero_not n k h = ap not (not_zero n k h)

same_copies :
    (count source destination : ℕ) (r : Registers) (memory : List ℕ)
    → word r.d r.e ≡ wrap source
    → word r.h r.l ≡ wrap destination
    → copied count (source + 1) (destination + 1) (put r memory)
    ≡ copied (suc count) source destination memory
same_copies count source destination r memory de hl =
    ap (λ n. copied count (source + 1) (destination + 1) (slice_set memory n (byte_at memory (word r.d r.e))))
    hl
    ∙ ap (λ n. copied count (source + 1) (destination + 1)
    (slice_set memory (wrap destination) (byte_at memory n))) de

none : (page left : ℕ) → 0 ≡ 256 * page + left → page ≡ 0
none page left h = omega arith

none_left : (page left : ℕ) → 0 ≡ 256 * page + left → left ≡ 0
none_left page left h = omega arith

abbrev pub Loop :
    (script : List (List ℕ)) (layout : Layout) (first top to : ℕ) (events : List Event)
    (count page left : ℕ) → Type 0
Loop script layout first top to events count page left =
    (source destination : ℕ) (r : Registers) (memory : List ℕ)
    → count ≡ 256 * page + left
    → page < 256
    → left < 256
    → r.b ≡ suc page % 256
    → r.c ≡ suc left % 256
    → word r.d r.e ≡ wrap source
    → word r.h r.l ≡ wrap destination
    → IsMemory memory
    → HoldBytes r
    → BlockMisses (suc count) destination (record { start = top; len = to - top })
    → Stands layout memory (one_byte first) top to
    → Moved script top r memory events (suc count) source destination (6 * suc count + 2 * page + 3)

last_byte :
    (script : List (List ℕ)) (layout : Layout) (first top to : ℕ) (events : List Event)
    → to ≤ MEMORY_SIZE
    → (page left : ℕ)
    → Loop script layout first top to events zero page left
last_byte script layout first top to events limit page left source destination r memory all few_pages few_left
    b c de hl is are misses stands =
    let still = code_stands layout first top to r memory 0 destination limit hl misses stands in
    let size = stands_size layout memory (one_byte first) top to stands in
    let r1 = next r memory in
    let r2 = effect (Dcr (Of B) ∷ []) r1 in
    let m1 = put r memory in
    let same = same_copies 0 source destination r memory de hl in
    let u = returned r2 (copied 1 source destination memory) events in
    let bytes = next_bytes r memory is are in
    let place = top + 1 + 1 + 1 + 1 + 1 in
    record {
      steps = 9;
      after = r2;
      run =
          copies_one script layout first top to r memory events 4 u limit stands still
          (goes_past script 3 NotZero (wrap (layout.place_of first)) place r1 m1 events u
          still.1.1.1.1.1.0 (omega arith)
          (is_zero ((r.c + 254 + 1) % 256) (byte_of left r.c c few_left ∙ none_left page left all))
          (straight script layout (Dcr (Of B) ∷ [])
          (WithWord (JumpWhere NotZero) (AtLabel first) ∷ Plain Ret ∷ whole first) (place + 3) to r1 m1
          events 2 u refl still.1.1.1.1.1.1 (omega arith)
          (goes_past script 1 NotZero (wrap (layout.place_of first)) (place + 3 + 1) r2 m1 events u
          still.1.1.1.1.1.1.1.0 (omega arith)
          (is_zero ((r.b + 254 + 1) % 256) (byte_of page r.b b few_pages ∙ none page left all))
          (ap (λ m. returned r2 m events) (sym same)
          ∙ returns script (place + 3 + 1 + 3) r2 m1 events still.1.1.1.1.1.1.1.1.0 (omega arith)))));
      few = omega arith;
      bytes = record { a = bytes.a; b = omega arith; c = bytes.c; d = bytes.d; e = bytes.e; h = bytes.h; l = bytes.l };
      sp = refl;
    }

few_more : (steps count page : ℕ) → steps ≤ 6 * suc count + 2 * page + 3
    → suc (suc (suc (suc (suc (suc steps))))) ≤ 6 * suc (suc count) + 2 * page + 3
few_more steps count page h = omega arith

few_more_page : (steps count page : ℕ) → steps ≤ 6 * suc count + 2 * page + 3
    → suc (suc (suc (suc (suc (suc (suc (suc steps))))))) ≤ 6 * suc (suc count) + 2 * suc page + 3
few_more_page steps count page h = omega arith

byte_same : (n : ℕ) → n < 255 → suc n ≡ suc n % 256
byte_same n h = omega arith

wraps_to_zero : 0 ≡ 256 % 256
wraps_to_zero = refl

no_count : (count : ℕ) → suc count ≡ 256 * 0 + 0 → ⊥
no_count count h = omega arith

pub move_loop :
    (script : List (List ℕ)) (layout : Layout) (first top to : ℕ) (events : List Event)
    → to ≤ MEMORY_SIZE
    → layout.place_of first ≡ top
    → (count page left : ℕ)
    → Loop script layout first top to events count page left
move_loop script layout first top to events limit bound zero page left source destination r memory all
    few_pages few_left b c de hl is are misses stands =
    last_byte script layout first top to events limit page left source destination r memory all few_pages
    few_left b c de hl is are misses stands
move_loop script layout first top to events limit bound (suc count) zero zero source destination r memory all
    few_pages few_left b c de hl is are misses stands =
    absurd (no_count count all)
move_loop script layout first top to events limit bound (suc count) (suc page) zero source destination r
    memory all few_pages few_left b c de hl is are misses stands =
    let still = code_stands layout first top to r memory (suc count) destination limit hl misses stands in
    let size = stands_size layout memory (one_byte first) top to stands in
    let r1 = next r memory in
    let r2 = effect (Dcr (Of B) ∷ []) r1 in
    let m1 = put r memory in
    let bytes = next_bytes r memory is are in
    let place = top + 1 + 1 + 1 + 1 + 1 in
    let counted = byte_of 0 r.c c few_left in
    let pages = byte_of (suc page) r.b b few_pages in
    let m1_is = memory_put memory (word r.h r.l) (byte_at memory (word r.d r.e)) is bytes.a in
    let are2 : HoldBytes r2 =
    record { a = bytes.a; b = omega arith; c = bytes.c; d = bytes.d; e = bytes.e; h = bytes.h; l = bytes.l } in
    let more =
    move_loop script layout first top to events limit bound count page 255 (source + 1)
    (destination + 1) r2 m1
    (omega arith) (omega arith) (omega arith) (omega arith) (counted ∙ wraps_to_zero)
    (counts_on r.d r.e source de) (counts_on r.h r.l destination hl) m1_is are2
    (others_missed (suc count) destination (record { start = top; len = to - top }) misses) still in
    let u = returned more.after (copied (suc (suc count)) source destination memory) events in
    record {
      steps = suc (suc (suc (suc (suc (suc (suc (suc more.steps)))))));
      after = more.after;
      run =
          copies_one script layout first top to r memory events (suc (suc (suc more.steps)))
          u limit stands still
          (goes_past script (suc (suc more.steps)) NotZero (wrap (layout.place_of first)) place r1 m1 events u
          still.1.1.1.1.1.0 (omega arith)
          (is_zero ((r.c + 254 + 1) % 256) counted)
          (straight script layout (Dcr (Of B) ∷ [])
          (WithWord (JumpWhere NotZero) (AtLabel first) ∷ Plain Ret ∷ whole first) (place + 3) to r1 m1
          events (suc more.steps) u refl still.1.1.1.1.1.1 (omega arith)
          (jumps_where script more.steps NotZero (wrap (layout.place_of first)) (place + 3 + 1) top r2 m1
          events u still.1.1.1.1.1.1.1.0 (omega arith)
          (not_zero_not ((r.b + 254 + 1) % 256) page pages)
          (word_is (layout.place_of first) top bound (omega arith))
          (ap (λ m. returned more.after m events)
          (sym (same_copies (suc count) source destination r memory de hl)) ∙ more.run))));
      few = few_more_page more.steps count page more.few;
      bytes = more.bytes;
      sp = more.sp;
    }
move_loop script layout first top to events limit bound (suc count) page (suc left) source destination r
    memory all few_pages few_left b c de hl is are misses stands =
    let still = code_stands layout first top to r memory (suc count) destination limit hl misses stands in
    let size = stands_size layout memory (one_byte first) top to stands in
    let r1 = next r memory in
    let m1 = put r memory in
    let bytes = next_bytes r memory is are in
    let place = top + 1 + 1 + 1 + 1 + 1 in
    let counted = byte_of (suc left) r.c c few_left in
    let m1_is = memory_put memory (word r.h r.l) (byte_at memory (word r.d r.e)) is bytes.a in
    let more =
    move_loop script layout first top to events limit bound count page left (source + 1)
    (destination + 1) r1 m1
    (omega arith) few_pages (omega arith) b (counted ∙ byte_same left (omega arith))
    (counts_on r.d r.e source de) (counts_on r.h r.l destination hl) m1_is bytes
    (others_missed (suc count) destination (record { start = top; len = to - top }) misses) still in
    let u = returned more.after (copied (suc (suc count)) source destination memory) events in
    record {
      steps = suc (suc (suc (suc (suc (suc more.steps)))));
      after = more.after;
      run =
          copies_one script layout first top to r memory events (suc more.steps) u limit stands still
          (jumps_where script more.steps NotZero (wrap (layout.place_of first)) place top r1 m1 events u
          still.1.1.1.1.1.0 (omega arith)
          (not_zero_not ((r.c + 254 + 1) % 256) left counted)
          (word_is (layout.place_of first) top bound (omega arith))
          (ap (λ m. returned more.after m events)
          (sym (same_copies (suc count) source destination r memory de hl)) ∙ more.run));
      few = few_more more.steps count page more.few;
      bytes = more.bytes;
      sp = more.sp;
    }
