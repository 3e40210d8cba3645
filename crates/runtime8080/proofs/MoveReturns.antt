-- MOVE returns, with the block copied.
use Rattle.runtime8080.proofs.Prelude.{◌≡◌, ℕ, zero, suc, ◌+◌, ◌-◌, ◌*◌, ◌%◌, ◌<◌, ◌≤◌, not, List, [], ◌∷◌, length, refl, sym, ap, subst, ◌∙◌, arith, eq-eqb, MEMORY_SIZE, IsMemory, byte_at, IsIn, Event, B, C, Of, NotZero, Zero, Instr, Dcr, Inr, Ret, HoldBytes, Registers, word, wrap, JumpWhere, AtLabel, Item, Plain, WithWord, Mark, Layout, Stands, Comes, below, at, goes_past, jumps_where, returned, returns, step_then, effect, straight, not_zero, word_is, stands_size, stands_still, IsPushed, called, pushed, pushed_is_memory, pushed_is_pushed, returned_is, BlockMisses, IsRoutine, CALL_BYTES, copied, move_bytes, equals_wrapped, word_in_memory, wrapped_small}
use Rattle.runtime8080.specs.declared.routine.Routine.TheVariants as routines
use Rattle.runtime8080.proofs.Bodies.{bytes_where, code_stays, bytes_with_sp, in_spare, pushed_elsewhere, two_fit}
use Rattle.runtime8080.proofs.Copies.{copied_differ, copied_is_memory, copied_keeps}
use Rattle.runtime8080.proofs.MoveLoop.{move_loop, one_byte, whole}

-- C is tested
abbrev testing : List Instr
testing = Inr (Of C) ∷ Dcr (Of C) ∷ []

-- B is tested
abbrev pages : List Instr
pages = Inr (Of B) ∷ Dcr (Of B) ∷ []

abbrev entered : (first : ℕ) → List Item
entered first =
    WithWord (JumpWhere Zero) (AtLabel (first + 1)) ∷ Plain (Inr (Of B)) ∷ Mark first ∷ one_byte first

byte_again : (n : ℕ) → n < 256 → ((n + 1) % 256 + 254 + 1) % 256 ≡ n
byte_again n h = omega arith

next_byte : (n : ℕ) → (n + 1) % 256 ≡ suc n % 256
next_byte n = omega arith

-- a block that misses the code misses the end of it
narrowed :
    (count count' start from top to : ℕ)
    → count ≡ count'
    → from ≤ top
    → top ≤ to
    → BlockMisses count start (record { start = from; len = to - from })
    → BlockMisses count' start (record { start = top; len = to - top })
narrowed count count' start from top to same low high misses address block inside =
    let above = inside.0 in
    let under = inside.1 in
    misses address (block.0, omega (arith, block.1, same), block.2) (omega arith, omega arith)

-- what a routine does that copies a block
record Copied
    (script : List (List ℕ)) (from : ℕ) (r : Registers) (memory : List ℕ) (events : List Event) : Type 0 where
  steps : ℕ
  after : Registers
  run :
      Comes script steps (at from r memory events)
      (returned after (copied (word r.b r.c) (word r.d r.e) (word r.h r.l) memory) events)
  few : suc steps ≤ 8 + 7 * word r.b r.c
  bytes : HoldBytes after
  sp : after.sp ≡ r.sp

few_with_rest : (steps b left : ℕ) → steps ≤ 6 * suc (256 * b + left) + 2 * b + 3
    → suc (suc (suc (suc (suc steps)))) ≤ 8 + 7 * word b (suc left)
few_with_rest steps b left h = omega arith

few_whole : (steps b : ℕ) → steps ≤ 6 * suc (256 * b + 255) + 2 * b + 3
    → suc (suc (suc (suc (suc (suc (suc steps)))))) ≤ 8 + 7 * word (suc b) 0
few_whole steps b h = omega arith

count_with_rest : (b left : ℕ) → word b (suc left) ≡ suc (256 * b + left)
count_with_rest b left = omega arith

count_whole : (b : ℕ) → word (suc b) 0 ≡ suc (256 * b + 255)
count_whole b = omega arith

abbrev Copies :
    (script : List (List ℕ)) (layout : Layout) (first from to : ℕ) (memory : List ℕ) (events : List Event)
    (r : Registers) → Type 0
Copies script layout first from to memory events r =
    to ≤ MEMORY_SIZE
    → layout.place_of first ≡ from + 1 + 1 + 3 + 1
    → Stands layout memory (move_bytes first) from to
    → IsMemory memory
    → HoldBytes r
    → BlockMisses (word r.b r.c) (word r.h r.l) (record { start = from; len = to - from })
    → Copied script from r memory events

-- C is not 0
with_rest :
    (script : List (List ℕ)) (layout : Layout) (first from to : ℕ) (memory : List ℕ) (events : List Event)
    (r : Registers) (left : ℕ)
    → r.c ≡ suc left
    → Copies script layout first from to memory events r
with_rest script layout first from to memory events r left c limit bound stands is are misses =
    let size = stands_size layout memory (move_bytes first) from to stands in
    let more : Stands layout memory (entered first) (from + 1 + 1) to = stands.1.1 in
    let top = from + 1 + 1 + 3 + 1 in
    let r1 = effect testing r in
    let r2 = effect (Inr (Of B) ∷ []) r1 in
    let same = byte_again r.c are.c in
    let hl = word r.h r.l in
    let de = word r.d r.e in
    let count : word r.b r.c ≡ suc (256 * r.b + left) = ap (word r.b) c ∙ count_with_rest r.b left in
    let are2 : HoldBytes r2 =
    record { a = are.a; b = omega arith; c = omega arith; d = are.d; e = are.e; h = are.h; l = are.l } in
    let moved =
    move_loop script layout first top to events limit bound (256 * r.b + left) r.b left de hl r2 memory
    refl are.b (omega arith) (next_byte r.b) (same ∙ omega arith)
    (equals_wrapped de (word_in_memory r.d r.e are.d are.e))
    (equals_wrapped hl (word_in_memory r.h r.l are.h are.l)) is are2
    (narrowed (word r.b r.c) (suc (256 * r.b + left)) hl from top to count (omega arith) (omega arith) misses)
    more.1.1.1 in
    let u = returned moved.after (copied (word r.b r.c) de hl memory) events in
    record {
      steps = suc (suc (suc (suc moved.steps)));
      after = moved.after;
      run =
          straight script layout testing (entered first) from to r memory events (suc (suc moved.steps)) u
          refl stands (omega arith)
          (goes_past script (suc moved.steps) Zero (wrap (layout.place_of (first + 1))) (from + 1 + 1) r1
          memory events u more.0 (omega arith)
          (not_zero (((r.c + 1) % 256 + 254 + 1) % 256) left (same ∙ c))
          (straight script layout (Inr (Of B) ∷ []) (Mark first ∷ one_byte first) (from + 1 + 1 + 3) to r1
          memory events moved.steps u refl more.1 (omega arith)
          (ap (λ n. returned moved.after (copied n de hl memory) events) count ∙ moved.run)));
      few = subst (λ n. suc (suc (suc (suc (suc moved.steps)))) ≤ 8 + 7 * word r.b n) (sym c)
          (few_with_rest moved.steps r.b left moved.few);
      bytes = moved.bytes;
      sp = moved.sp;
    }

-- C is 0, and B is not
with_pages :
    (script : List (List ℕ)) (layout : Layout) (first from to : ℕ) (memory : List ℕ) (events : List Event)
    (r : Registers) (page : ℕ)
    → r.c ≡ 0
    → r.b ≡ suc page
    → Copies script layout first from to memory events r
with_pages script layout first from to memory events r page c b limit bound stands is are misses =
    let size = stands_size layout memory (move_bytes first) from to stands in
    let more : Stands layout memory (entered first) (from + 1 + 1) to = stands.1.1 in
    let top = from + 1 + 1 + 3 + 1 in
    let place = top + 1 + 1 + 1 + 1 + 1 + 3 + 1 + 3 + 1 in
    let last : Stands layout memory (whole first) place to = more.1.1.1.1.1.1.1.1.1.1.1.1 in
    let r1 = effect testing r in
    let r2 = effect pages r1 in
    let same = byte_again r.c are.c in
    let same_b = byte_again r.b are.b in
    let hl = word r.h r.l in
    let de = word r.d r.e in
    let count : word r.b r.c ≡ suc (256 * page + 255) =
    ap (word r.b) c ∙ (ap (λ n. word n 0) b ∙ count_whole page) in
    let are2 : HoldBytes r2 =
    record { a = are.a; b = omega arith; c = omega arith; d = are.d; e = are.e; h = are.h; l = are.l } in
    let moved =
    move_loop script layout first top to events limit bound (256 * page + 255) page 255 de hl r2 memory
    refl (omega arith) (omega arith) (same_b ∙ omega arith) (same ∙ omega arith)
    (equals_wrapped de (word_in_memory r.d r.e are.d are.e))
    (equals_wrapped hl (word_in_memory r.h r.l are.h are.l)) is are2
    (narrowed (word r.b r.c) (suc (256 * page + 255)) hl from top to count (omega arith) (omega arith) misses)
    more.1.1.1 in
    let u = returned moved.after (copied (word r.b r.c) de hl memory) events in
    record {
      steps = suc (suc (suc (suc (suc (suc moved.steps)))));
      after = moved.after;
      run =
          straight script layout testing (entered first) from to r memory events
          (suc (suc (suc (suc moved.steps)))) u refl stands (omega arith)
          (jumps_where script (suc (suc (suc moved.steps))) Zero (wrap (layout.place_of (first + 1)))
          (from + 1 + 1) place r1 memory events u more.0 (omega arith)
          (eq-eqb (((r.c + 1) % 256 + 254 + 1) % 256) 0 (same ∙ c))
          (word_is (layout.place_of (first + 1)) place last.0 (omega arith))
          (straight script layout pages (WithWord (JumpWhere NotZero) (AtLabel first) ∷ Plain Ret ∷ []) place
          to r1 memory events (suc moved.steps) u refl last.1 (omega arith)
          (jumps_where script moved.steps NotZero (wrap (layout.place_of first)) (place + 1 + 1) top r2 memory
          events u last.1.1.1.0 (omega arith)
          (ap not (not_zero (((r.b + 1) % 256 + 254 + 1) % 256) page (same_b ∙ b)))
          (word_is (layout.place_of first) top bound (omega arith))
          (ap (λ n. returned moved.after (copied n de hl memory) events) count ∙ moved.run))));
      few = subst (λ n. suc (suc (suc (suc (suc (suc (suc moved.steps)))))) ≤ 8 + 7 * n)
          (sym (ap (word r.b) c ∙ ap (λ n. word n 0) b))
          (few_whole moved.steps page moved.few);
      bytes = moved.bytes;
      sp = moved.sp;
    }

-- B and C are 0
with_none :
    (script : List (List ℕ)) (layout : Layout) (first from to : ℕ) (memory : List ℕ) (events : List Event)
    (r : Registers)
    → r.c ≡ 0
    → r.b ≡ 0
    → Copies script layout first from to memory events r
with_none script layout first from to memory events r c b limit bound stands is are misses =
    let size = stands_size layout memory (move_bytes first) from to stands in
    let more : Stands layout memory (entered first) (from + 1 + 1) to = stands.1.1 in
    let top = from + 1 + 1 + 3 + 1 in
    let place = top + 1 + 1 + 1 + 1 + 1 + 3 + 1 + 3 + 1 in
    let last : Stands layout memory (whole first) place to = more.1.1.1.1.1.1.1.1.1.1.1.1 in
    let r1 = effect testing r in
    let r2 = effect pages r1 in
    let same = byte_again r.c are.c in
    let same_b = byte_again r.b are.b in
    let hl = word r.h r.l in
    let de = word r.d r.e in
    let count : word r.b r.c ≡ 0 = ap (word r.b) c ∙ ap (λ n. word n 0) b in
    let u = returned r2 (copied (word r.b r.c) de hl memory) events in
    record {
      steps = 7;
      after = r2;
      run =
          straight script layout testing (entered first) from to r memory events 5 u refl stands (omega arith)
          (jumps_where script 4 Zero (wrap (layout.place_of (first + 1))) (from + 1 + 1) place r1 memory
          events u more.0 (omega arith)
          (eq-eqb (((r.c + 1) % 256 + 254 + 1) % 256) 0 (same ∙ c))
          (word_is (layout.place_of (first + 1)) place last.0 (omega arith))
          (straight script layout pages (WithWord (JumpWhere NotZero) (AtLabel first) ∷ Plain Ret ∷ []) place
          to r1 memory events 2 u refl last.1 (omega arith)
          (goes_past script 1 NotZero (wrap (layout.place_of first)) (place + 1 + 1) r2 memory events u
          last.1.1.1.0 (omega arith)
          (ap not (eq-eqb (((r.b + 1) % 256 + 254 + 1) % 256) 0 (same_b ∙ b)))
          (ap (λ n. returned r2 (copied n de hl memory) events) count
          ∙ returns script (place + 1 + 1 + 3) r2 memory events last.1.1.1.1.0 (omega arith)))));
      few = omega arith;
      bytes = record { a = are.a; b = omega arith; c = omega arith; d = are.d; e = are.e; h = are.h; l = are.l };
      sp = refl;
    }

copies :
    (script : List (List ℕ)) (layout : Layout) (first from to : ℕ) (memory : List ℕ) (events : List Event)
    (r : Registers) (c b : ℕ)
    → r.c ≡ c
    → r.b ≡ b
    → Copies script layout first from to memory events r
copies script layout first from to memory events r zero zero c b =
    with_none script layout first from to memory events r c b
copies script layout first from to memory events r zero (suc page) c b =
    with_pages script layout first from to memory events r page c b
copies script layout first from to memory events r (suc left) b c h =
    with_rest script layout first from to memory events r left c

returned_on_top :
    (level word : ℕ) (memory left : List ℕ)
    → CALL_BYTES ≤ level
    → level ≤ MEMORY_SIZE
    → ((address : ℕ) → IsIn address (below level CALL_BYTES) → byte_at left address ≡ byte_at memory address)
    → IsPushed level word memory
    → IsPushed level word left
returned_on_top level word memory left room limit same is = record {
  high = same (level - 1) (omega arith, omega arith) ∙ is.high;
  low = same (level - 2) (omega arith, omega arith) ∙ is.low;
}

copied_size :
    (count source destination : ℕ) (memory other : List ℕ)
    → IsMemory memory
    → IsMemory other
    → length (copied count source destination other) ≡ length (copied count source destination memory)
copied_size count source destination memory other is other_is =
    (copied_is_memory count source destination other other_is).size
    ∙ sym (copied_is_memory count source destination memory is).size

pub moves_bytes : (first : ℕ) → IsRoutine routines.Move (move_bytes first)
moves_bytes first layout from to script level s limit stands may =
    let r = s.registers in
    let there = wrap (r.pc + 3) in
    let memory = pushed level there s.memory in
    let memory_is = pushed_is_memory level there s.memory (wrapped_small (r.pc + 3)) may.memory in
    let two = two_fit level may.room in
    let count = word r.b r.c in
    let source = word r.d r.e in
    let destination = word r.h r.l in
    let left = copied count source destination memory in
    let still = stands_still layout s.memory memory (move_bytes first) from to limit
    (code_stays routines.Move from to level there s may) stands in
    let done =
    copies script layout first from to memory s.events (record r { sp = level - 2 }) r.c r.b refl refl limit
    still.1.1.1.1.0 still memory_is
    (bytes_with_sp r (level - 2) may.registers) may.copy_misses_code in
    let after = at there (record done.after { sp = wrap level }) left s.events in
    let on_top =
    returned_on_top level there memory left may.room may.stack.limit
    (copied_keeps count source destination memory (below level CALL_BYTES) may.blocks_miss_stack.1)
    (pushed_is_pushed level there s.memory two may.stack.limit may.memory.size) in
    record {
      count = suc done.steps;
      after = after;
      run =
          step_then script done.steps s (at from (record r { sp = level - 2 }) memory s.events) after
          (called script from level s may.running may.place may.stack two may.call)
          (sym (returned_is level there done.after left s.events done.sp two may.stack.limit on_top)
          ∙ done.run);
      some_steps = omega arith;
      few_steps = done.few;
      returned = record {
        running = refl;
        place = refl;
        stack = sym may.stack.pointer;
        events = refl;
        registers = bytes_where done.after (wrap level) there done.bytes;
        computes = tt;
        leaves = tt;
        memory_is = copied_is_memory count source destination memory memory_is;
        memory = record {
          size = copied_size count source destination s.memory memory may.memory memory_is;
          bytes = copied_differ (below level CALL_BYTES) count source destination s.memory memory
              may.memory.size memory_is.size
              may.blocks_miss_stack.0
              (λ address out.
              pushed_elsewhere level there s.memory address may.room
              (λ low high. out (in_spare level address may.room may.stack.limit low high)));
        };
      };
    }
