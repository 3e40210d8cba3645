-- Words that are pushed, and are still there after other code has run.
use Rattle.code_meaning.proofs.Prelude.{◌≡◌, ℕ, ◌+◌, ◌-◌, ◌<◌, ◌≤◌, inl, inr, List, length, slice_set, refl, ◌∙◌, arith, MEMORY_SIZE, HoldBytes, Registers, high_byte, low_byte, wrap, Keeps, IsPushed, pushed, pushed_is_memory, pushed_is_pushed, pushed_keeps, Activation, FrameLies, IsReady, LiesWell, MayChange, Owns, Shares}
use Rattle.code_meaning.proofs.Owning.{keeps_all, keeps_both, keeps_wider, owns_more, pushed_is_not_owned}

-- a word that is pushed changes two bytes
pub keeps_pushed :
    (Own : ℕ → Type 0) (top word : ℕ) (base memory : List ℕ)
    → Own (top - 1)
    → Own (top - 2)
    → Keeps Own base memory
    → Keeps Own base (pushed top word memory)
keeps_pushed Own top word base memory high low kept = record {
  size =
      Rattle.std.proofs.lemmas.List.length-set (slice_set memory (top - 1) (high_byte word)) (top - 2)
      (low_byte word)
      ∙ Rattle.std.proofs.lemmas.List.length-set memory (top - 1) (high_byte word) ∙ kept.size;
  bytes = λ address outside.
      pushed_keeps top word memory address (λ same. outside (rw same high)) (λ same. outside (rw same low))
      ∙ kept.bytes address outside;
}

-- bytes of the stack below a level may be written
pushed_shares :
    (activation : Activation) (top word : ℕ) (source memory : List ℕ)
    → LiesWell activation
    → activation.floor + 2 ≤ top
    → top ≤ activation.level
    → word < MEMORY_SIZE
    → Shares activation.around.program activation.image source memory
    → Shares activation.around.program activation.image source (pushed top word memory)
pushed_shares activation top word source memory lies room below small shares =
    let above = lies.above in
    let stack = lies.placed.stack_in_memory in
    let free = lies.placed.stack_free in
    let apart = lies.placed.apart in
    let bottom = lies.bottom in
    record {
      is_memory = pushed_is_memory top word memory small shares.is_memory;
      size = shares.size;
      declared = λ address there.
          pushed_keeps top word memory address
          (λ same. free address there (omega (arith, same, room, bottom))
          (omega (arith, same, room, below, above)))
          (λ same. free address there (omega (arith, same, room, bottom))
          (omega (arith, same, room, below, above)))
          ∙ shares.declared address there;
      code = λ address there.
          pushed_keeps top word memory address
          (λ same. apart address there.0 there.1 (omega (arith, same, room, bottom))
          (omega (arith, same, room, below, above)))
          (λ same. apart address there.0 there.1 (omega (arith, same, room, bottom))
          (omega (arith, same, room, below, above)))
          ∙ shares.code address there;
      others = keeps_pushed (MayChange activation.around.program) top word activation.image memory
          (inr (omega (arith, room, bottom), omega (arith, room, below, above)))
          (inr (omega (arith, room, bottom), omega (arith, room, below, above))) shares.others;
    }

pushed_frame :
    (activation : Activation) (top word : ℕ) (frame : List (List ℕ)) (memory : List ℕ)
    → 2 ≤ top
    → top ≤ activation.level
    → FrameLies activation frame memory
    → FrameLies activation frame (pushed top word memory)
pushed_frame activation top word frame memory room below lies = record {
  sizes = lies.sizes;
  bytes = λ object offset within.
      pushed_keeps top word memory (activation.level + activation.distance object + offset)
      (λ same. omega (arith, same, room, below)) (λ same. omega (arith, same, room, below))
      ∙ lies.bytes object offset within;
}

-- after a PUSH code may continue, with the memory after it as the earlier one
pub ready_after_push :
    (activation : Activation) (top word : ℕ) (base source : List ℕ) (frame : List (List ℕ)) (r : Registers)
    (memory : List ℕ)
    → LiesWell activation
    → activation.floor + 2 ≤ top
    → top ≤ activation.level
    → word < MEMORY_SIZE
    → IsReady activation top base source frame r memory
    → IsReady activation (top - 2) (pushed top word memory) source frame (record r { sp = wrap (top - 2) })
    (pushed top word memory)
ready_after_push activation top word base source frame r memory lies room below small ready =
    let bytes = ready.registers in
    record {
      pointer = refl;
      registers =
          record { a = bytes.a; b = bytes.b; c = bytes.c; d = bytes.d; e = bytes.e; h = bytes.h; l = bytes.l };
      shares = pushed_shares activation top word source memory lies room below small ready.shares;
      frame_lies = pushed_frame activation top word frame memory (omega (arith, room)) below ready.frame_lies;
      kept = keeps_all (Owns activation (top - 2)) (pushed top word memory);
    }

-- a push changes only bytes that the activation owns
pub push_keeps :
    (activation : Activation) (top word : ℕ) (memory : List ℕ)
    → activation.floor + 2 ≤ top
    → Keeps (Owns activation top) memory (pushed top word memory)
push_keeps activation top word memory room = record {
  size = Rattle.std.proofs.lemmas.List.length-set (slice_set memory (top - 1) (high_byte word))
      (top - 2) (low_byte word)
      ∙ Rattle.std.proofs.lemmas.List.length-set memory (top - 1) (high_byte word);
  bytes = λ address outside.
      pushed_keeps top word memory address
      (λ same. outside (inr (inl (omega (arith, same, room), omega (arith, same, room)))))
      (λ same. outside (inr (inl (omega (arith, same, room), omega (arith, same, room)))));
}

-- other code has run with a word pushed, and the stack pointer is as before it
pub ready_after_pop :
    (activation : Activation) (top word : ℕ) (base source other : List ℕ) (frame others : List (List ℕ))
    (r after last : Registers) (memory ended : List ℕ)
    → LiesWell activation
    → activation.floor + 2 ≤ top
    → IsReady activation top base source frame r memory
    → IsReady activation (top - 2) (pushed top word memory) other others after ended
    → last.sp ≡ wrap top
    → HoldBytes last
    → IsReady activation top base other others last ended
ready_after_pop activation top word base source other frame others r after last memory ended lies room before
    ready pointer bytes = record {
      pointer = pointer;
      registers = bytes;
      shares = ready.shares;
      frame_lies = ready.frame_lies;
      kept =
          keeps_both (Owns activation top) base memory ended before.kept
          (keeps_both (Owns activation top) memory (pushed top word memory) ended
          (push_keeps activation top word memory room)
          (keeps_wider (Owns activation (top - 2)) (Owns activation top) (pushed top word memory) ended
          (owns_more activation (top - 2) top (omega arith)) ready.kept));
    }

-- the word is still there
pub still_pushed :
    (activation : Activation) (top word : ℕ) (other : List ℕ) (others : List (List ℕ)) (after : Registers)
    (memory ended : List ℕ)
    → LiesWell activation
    → activation.floor + 2 ≤ top
    → top ≤ activation.level
    → length memory ≡ MEMORY_SIZE
    → IsReady activation (top - 2) (pushed top word memory) other others after ended
    → IsPushed top word ended
still_pushed activation top word other others after memory ended lies room below size ready =
    let above = lies.above in
    let stack = lies.placed.stack_in_memory in
    let is =
    pushed_is_pushed top word memory (omega (arith, room)) (omega (arith, below, above, stack)) size in
    record {
      high =
          ready.kept.bytes (top - 1)
          (pushed_is_not_owned activation (top - 2) (top - 1) lies (omega (arith, room)) (omega arith)
          (omega (arith, room, below)))
          ∙ is.high;
      low =
          ready.kept.bytes (top - 2)
          (pushed_is_not_owned activation (top - 2) (top - 2) lies (omega (arith, room)) (omega arith)
          (omega (arith, room, below)))
          ∙ is.low;
    }
