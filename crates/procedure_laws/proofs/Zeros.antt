-- Zeros are pushed for the variables of a frame; A and HL stay as they are.
use Rattle.procedure_laws.proofs.Prelude.{◌≡◌, ◌≢◌, ℕ, zero, suc, ◌+◌, ◌-◌, ◌*◌, ◌/◌, ◌%◌, ◌<◌, ◌≤◌, ◌==◌, nat_le, nat_eq, Bool, true, false, if◌then◌else◌, List, [], ◌∷◌, ◌++◌, replicate, refl, sym, ap, subst, ◌∙◌, arith, eqb-true, eqb-false, leb-false, append_assoc, MEMORY_SIZE, IsMemory, byte_at, Event, SourceState, Outcome, NotZero, Dcr, Inx, Lxi, Mvi, Push, Of, De, Sp, B, StackDe, act, decrement_of, HoldBytes, Registers, State, word, wrap, JumpWhere, AgreesIn, pushed, pushed_is_memory, pushed_is_pushed, pushed_keeps, counted_out, counts_on, one_less_is, push_does, LiesWell, Does, loaded_of, at_place, LabelNumber, Planned, jump, mark, plain, Here, label_of, odd_byte_steps, push_loop_steps, pushes_steps, zeros_steps, BodyContext, at_start}
use Rattle.procedure_laws.proofs.Frames.FramesSteps.{StepsLie, jump_goes, jump_stays, mark_goes, plain_goes}

-- The bytes from one address to another are zeros, and the stack pointer is at the lower one; A and HL are as
-- before, DE is 0, B counts, and no other byte changed but the one below.
pub record AreZeros
    (count low high : ℕ) (r : Registers) (memory : List ℕ) (now : Registers) (ended : List ℕ) : Type 0 where
  pub b : now.b ≡ count
  pub a : now.a ≡ r.a
  pub h : now.h ≡ r.h
  pub l : now.l ≡ r.l
  pub d : now.d ≡ 0
  pub e : now.e ≡ 0
  pub registers : HoldBytes now
  pub pointer : now.sp ≡ wrap low
  pub is_memory : IsMemory ended
  pub zeros : (address : ℕ) → low ≤ address → address < high → byte_at ended address ≡ 0
  pub kept : (address : ℕ) → ((low ≤ address + 1) → (address < high) → ⊥)
      → byte_at ended address ≡ byte_at memory address

-- where that is within the stack, the code stays
pub code_stays :
    {count low high : ℕ} {r now : Registers} {memory ended : List ℕ} (at : BodyContext)
    → LiesWell at.context.activation
    → at.context.activation.floor + 1 ≤ low
    → high ≤ at.context.activation.around.program.placement.stack.start
    + at.context.activation.around.program.placement.stack.len
    → AreZeros count low high r memory now ended
    → AgreesIn at.context.activation.around.program.placement.code at.context.activation.image memory
    → AgreesIn at.context.activation.around.program.placement.code at.context.activation.image ended
code_stays {count = count} {low = low} {high = high} at lies enough limit are agrees address within =
    are.kept address
    (λ from below.
    let bottom = lies.bottom in
    lies.placed.apart address within.0 within.1 (omega (arith, from, enough, bottom))
    (omega (arith, below, limit)))
    ∙ agrees address within

-- none yet
pub no_zeros :
    (high : ℕ) (r now : Registers) (memory : List ℕ)
    → now.a ≡ r.a → now.h ≡ r.h → now.l ≡ r.l → now.d ≡ 0 → now.e ≡ 0
    → HoldBytes now
    → now.sp ≡ wrap high
    → IsMemory memory
    → AreZeros now.b high high r memory now memory
no_zeros high r now memory a h l d e bytes pointer is = record {
  b = refl;
  a = a;
  h = h;
  l = l;
  d = d;
  e = e;
  registers = bytes;
  pointer = pointer;
  is_memory = is;
  zeros = λ address from below. absurd (omega (arith, from, below));
  kept = λ address outside. refl;
}

zero_word : (d e : ℕ) → d ≡ 0 → e ≡ 0 → word d e ≡ 0
zero_word d e one other = omega (arith, one, other)

-- another word of zeros
one_word :
    {count high : ℕ} {r now : Registers} {memory ended : List ℕ} (low : ℕ)
    → 2 ≤ low
    → low ≤ MEMORY_SIZE
    → low ≤ high
    → AreZeros count low high r memory now ended
    → AreZeros count (low - 2) high r memory (record now { sp = wrap (low - 2) }) (pushed low 0 ended)
one_word {high = high} {r = r} {now = now} {memory = memory} {ended = ended} low room limit below are =
    record {
      b = are.b;
      a = are.a;
      h = are.h;
      l = are.l;
      d = are.d;
      e = are.e;
      registers = record {
        a = are.registers.a;
        b = are.registers.b;
        c = are.registers.c;
        d = are.registers.d;
        e = are.registers.e;
        h = are.registers.h;
        l = are.registers.l;
      };
      pointer = refl;
      is_memory = pushed_is_memory low 0 ended (omega arith) are.is_memory;
      zeros = λ address from within. by_address address from within (address == (low - 1)) refl;
      kept = λ address outside.
          pushed_keeps low 0 ended address
          (λ same. outside (omega (arith, same, room)) (omega (arith, same, room, below)))
          (λ same. outside (omega (arith, same, room)) (omega (arith, same, room, below)))
          ∙ are.kept address (λ from within. outside (omega (arith, from)) within);
    }
  where
    other_byte : (address : ℕ) → low - 2 ≤ address → address < high → address ≢ low - 1
        → (test : Bool) → (address == (low - 2)) ≡ test → byte_at (pushed low 0 ended) address ≡ 0
    other_byte address from within not_high true same =
        ap (byte_at (pushed low 0 ended)) (eqb-true address (low - 2) same)
        ∙ (pushed_is_pushed low 0 ended room limit are.is_memory.size).low
    other_byte address from within not_high false same =
        let not_low = eqb-false address (low - 2) same in
        pushed_keeps low 0 ended address not_high not_low
        ∙ are.zeros address (omega (arith, from, not_high, not_low)) within

    by_address : (address : ℕ) → low - 2 ≤ address → address < high
        → (test : Bool) → (address == (low - 1)) ≡ test → byte_at (pushed low 0 ended) address ≡ 0
    by_address address from within true same =
        ap (byte_at (pushed low 0 ended)) (eqb-true address (low - 1) same)
        ∙ (pushed_is_pushed low 0 ended room limit are.is_memory.size).high
    by_address address from within false same =
        other_byte address from within (eqb-false address (low - 1) same) (address == (low - 2)) refl

-- one byte more of the stack is given back
one_back :
    {count high : ℕ} {r now : Registers} {memory ended : List ℕ} (low : ℕ)
    → 2 ≤ low
    → low ≤ MEMORY_SIZE
    → low ≤ high
    → AreZeros count low high r memory now ended
    → AreZeros count (low - 1) high r memory (record now { sp = wrap (low - 1) }) (pushed low 0 ended)
one_back {high = high} {r = r} {now = now} {memory = memory} {ended = ended} low room limit below are =
    let more = one_word low room limit below are in
    record {
      b = are.b;
      a = are.a;
      h = are.h;
      l = are.l;
      d = are.d;
      e = are.e;
      registers = record {
        a = are.registers.a;
        b = are.registers.b;
        c = are.registers.c;
        d = are.registers.d;
        e = are.registers.e;
        h = are.registers.h;
        l = are.registers.l;
      };
      pointer = refl;
      is_memory = more.is_memory;
      zeros = λ address from within. more.zeros address (omega (arith, from)) within;
      kept = λ address outside.
          pushed_keeps low 0 ended address
          (λ same. outside (omega (arith, same, room)) (omega (arith, same, room, below)))
          (λ same. outside (omega (arith, same, room)) (omega (arith, same, room, below)))
          ∙ are.kept address (λ from within. outside (omega (arith, from)) within);
    }

-- where code goes on after zeros
abbrev pub GoesOnAfter :
    {A : Type 0} → BodyContext → (last : Here) → List Planned → (budget : ℕ) → Outcome A
    → (Good : A → SourceState → State → Type 0) → List Event → (count low high to : ℕ)
    → Registers → List ℕ → Type 0
GoesOnAfter at last others budget outcome Good events count low high to r memory =
    (place : ℕ) (now : Registers) (ended : List ℕ)
    → StepsLie at at_start last others place to
    → AreZeros count low high r memory now ended
    → Does (loaded_of at.context.activation) budget 0 (at_place place now ended events) outcome Good

-- another number in B
renumbered :
    {count low high : ℕ} {r now : Registers} {memory ended : List ℕ} (number : ℕ)
    → number < 256
    → AreZeros count low high r memory now ended
    → AreZeros number low high r memory (record now { b = number }) ended
renumbered number small are = record {
  b = refl;
  a = are.a;
  h = are.h;
  l = are.l;
  d = are.d;
  e = are.e;
  registers = record {
    a = are.registers.a;
    b = small;
    c = are.registers.c;
    d = are.registers.d;
    e = are.registers.e;
    h = are.registers.h;
    l = are.registers.l;
  };
  pointer = are.pointer;
  is_memory = are.is_memory;
  zeros = are.zeros;
  kept = are.kept;
}

-- steps that are others lie where these do
pub same_steps :
    {here last : Here} {one other : List Planned} {from to : ℕ} (at : BodyContext)
    → one ≡ other
    → StepsLie at here last one from to
    → StepsLie at here last other from to
same_steps {here = here} {last = last} {from = from} {to = to} at same stand =
    subst (λ (planned : List Planned). StepsLie at here last planned from to) same stand

-- The bytes from one address to another are zeros, and the stack pointer is at the lower one; A and HL are as
-- before, and no other byte changed but the one below.
pub record IsFilled
    (low high : ℕ) (r : Registers) (memory : List ℕ) (now : Registers) (ended : List ℕ) : Type 0 where
  pub a : now.a ≡ r.a
  pub h : now.h ≡ r.h
  pub l : now.l ≡ r.l
  pub registers : HoldBytes now
  pub pointer : now.sp ≡ wrap low
  pub is_memory : IsMemory ended
  pub zeros : (address : ℕ) → low ≤ address → address < high → byte_at ended address ≡ 0
  pub kept : (address : ℕ) → ((low ≤ address + 1) → (address < high) → ⊥)
      → byte_at ended address ≡ byte_at memory address

filled :
    {count low high : ℕ} {r now : Registers} {memory ended : List ℕ}
    → AreZeros count low high r memory now ended
    → IsFilled low high r memory now ended
filled are = record {
  a = are.a;
  h = are.h;
  l = are.l;
  registers = are.registers;
  pointer = are.pointer;
  is_memory = are.is_memory;
  zeros = are.zeros;
  kept = are.kept;
}

-- the lowest byte of the stack that may change
abbrev floor_of : BodyContext → ℕ
floor_of at = at.context.activation.floor

in_memory_below :
    (at : BodyContext) (high low : ℕ)
    → LiesWell at.context.activation
    → high ≤ at.context.activation.around.program.placement.stack.start
    + at.context.activation.around.program.placement.stack.len
    → low ≤ high
    → low ≤ MEMORY_SIZE
in_memory_below at high low lies limit below =
    let whole = lies.placed.stack_in_memory in
    omega (arith, below, limit, whole)

-- B is counted down
counted :
    {turns low high : ℕ} {r now : Registers} {memory ended : List ℕ}
    → suc turns < 256
    → AreZeros (suc turns) low high r memory now ended
    → AreZeros turns low high r memory
    (record now { b = (now.b + 254 + 1) % 256; flags = (decrement_of now.b now.flags).flags }) ended
counted {turns = turns} {now = now} few are = record {
  b = one_less_is now.b turns are.b (omega (arith, few));
  a = are.a;
  h = are.h;
  l = are.l;
  d = are.d;
  e = are.e;
  registers = record {
    a = are.registers.a;
    b = omega arith;
    c = are.registers.c;
    d = are.registers.d;
    e = are.registers.e;
    h = are.registers.h;
    l = are.registers.l;
  };
  pointer = are.pointer;
  is_memory = are.is_memory;
  zeros = are.zeros;
  kept = are.kept;
}

-- the turns of the loop of four words each, as many as B says, from its label on
abbrev turn_steps : LabelNumber → List Planned → List Planned
turn_steps again others =
    replicate 4 (plain (Push StackDe)) ++ (plain (Dcr (Of B)) ∷ jump (JumpWhere NotZero) again ∷ others)

module _ {A : Type 0} {budget : ℕ} {outcome : Outcome A}
    {Good : A → SourceState → State → Type 0} {last : Here}
    {high to : ℕ} {r : Registers} {memory : List ℕ} {events : List Event} (at : BodyContext)
    (lies : LiesWell at.context.activation)
    (agrees : AgreesIn at.context.activation.around.program.placement.code at.context.activation.image memory)
    (limit : high ≤ at.context.activation.around.program.placement.stack.start
    + at.context.activation.around.program.placement.stack.len) where
  -- PUSH D
  pub word_pushed :
      (count low from : ℕ) (now : Registers) (ended : List ℕ) (others : List Planned)
      → floor_of at + 3 ≤ low
      → low ≤ high
      → StepsLie at at_start last (plain (Push StackDe) ∷ others) from to
      → AreZeros count low high r memory now ended
      → GoesOnAfter at last others budget outcome Good events count (low - 2) high to r memory
      → Does (loaded_of at.context.activation) budget 0
      (at_place from now ended events) outcome Good
  word_pushed count low from now ended others room below stand are rest =
      plain_goes at (Push StackDe) others now lies
      (code_stays at lies (omega (arith, room)) limit are agrees) stand
      (λ more.
      subst (λ (state : State). Does (loaded_of at.context.activation) budget 0 state outcome Good)
      (sym (does (from + 1)))
      (rest (from + 1) (record now { sp = wrap (low - 2) }) (pushed low 0 ended) more
      (one_word low (omega (arith, room)) in_memory below are)))
    where
      in_memory : low ≤ MEMORY_SIZE
      in_memory = in_memory_below at high low lies limit below

      does : (place : ℕ)
          → act at.context.activation.around.program.script (Push StackDe) (at_place place now ended events)
          ≡ at_place place (record now { sp = wrap (low - 2) }) (pushed low 0 ended) events
      does place =
          push_does at.context.activation.around.program.script StackDe place low now ended events
          are.pointer in_memory
          (omega (arith, room))
          ∙ ap (λ (n : ℕ). at_place place (record now { sp = wrap (low - 2) }) (pushed low n ended) events)
          (zero_word now.d now.e are.d are.e)

  -- so many of them
  pub words_pushed :
      (words count low from : ℕ) (now : Registers) (ended : List ℕ) (others : List Planned)
      → floor_of at + 1 + 2 * words ≤ low
      → low ≤ high
      → StepsLie at at_start last (replicate words (plain (Push StackDe)) ++ others) from to
      → AreZeros count low high r memory now ended
      → GoesOnAfter at last others budget outcome Good events count (low - 2 * words) high to r memory
      → Does (loaded_of at.context.activation) budget 0
      (at_place from now ended events) outcome Good
  words_pushed zero count low from now ended others room below stand are rest =
      rest from now ended stand
      (subst (λ (end : ℕ). AreZeros count end high r memory now ended) (none low) are)
    where
      none : (low : ℕ) → low ≡ low - 2 * 0
      none low = omega arith
  words_pushed (suc words) count low from now ended others room below stand are rest =
      word_pushed count low from now ended (replicate words (plain (Push StackDe)) ++ others)
      (omega (arith, room)) below stand
      are
      (λ place after last_memory stand_after are_after.
      words_pushed words count (low - 2) place after last_memory others (omega (arith, room))
      (omega (arith, below)) stand_after
      are_after
      (subst (λ (end : ℕ). GoesOnAfter at last others budget outcome Good events count end high to r memory)
      (down words low) rest))
    where
      down : (words low : ℕ) → low - 2 * suc words ≡ low - 2 - 2 * words
      down words low = omega arith

  -- an odd byte: PUSH D, INX SP
  pub odd_pushed :
      (count low from : ℕ) (now : Registers) (ended : List ℕ) (others : List Planned)
      → floor_of at + 3 ≤ low
      → low ≤ high
      → StepsLie at at_start last (plain (Push StackDe) ∷ plain (Inx Sp) ∷ others) from to
      → AreZeros count low high r memory now ended
      → GoesOnAfter at last others budget outcome Good events count (low - 1) high to r memory
      → Does (loaded_of at.context.activation) budget 0
      (at_place from now ended events) outcome Good
  odd_pushed count low from now ended others room below stand are rest =
      pushed_there
    where
      in_memory : low ≤ MEMORY_SIZE
      in_memory = in_memory_below at high low lies limit below

      up : (low : ℕ) → 2 ≤ low → low ≤ MEMORY_SIZE → wrap (wrap (low - 2) + 1) ≡ wrap (low - 1)
      up low room limit = omega arith

      does : (place : ℕ)
          → act at.context.activation.around.program.script (Push StackDe) (at_place place now ended events)
          ≡ at_place place (record now { sp = wrap (low - 2) }) (pushed low 0 ended) events
      does place =
          push_does at.context.activation.around.program.script StackDe place low now ended events
          are.pointer in_memory
          (omega (arith, room))
          ∙ ap (λ (n : ℕ). at_place place (record now { sp = wrap (low - 2) }) (pushed low n ended) events)
          (zero_word now.d now.e are.d are.e)

      pushed_there : Does (loaded_of at.context.activation) budget 0
          (at_place from now ended events) outcome Good
      pushed_there =
          plain_goes at (Push StackDe) (plain (Inx Sp) ∷ others) now lies
          (code_stays at lies (omega (arith, room)) limit are agrees) stand
          (λ more.
          subst (λ (state : State). Does (loaded_of at.context.activation) budget
          0 state outcome Good)
          (sym (does (from + 1)))
          (plain_goes at (Inx Sp) others (record now { sp = wrap (low - 2) }) lies
          (code_stays at lies (omega (arith, room)) limit
          (one_word low (omega (arith, room)) in_memory below are) agrees) more
          (λ last_one.
          subst (λ (n : ℕ). Does (loaded_of at.context.activation) budget 0
          (at_place (from + 1 + 1) (record now { sp = n }) (pushed low 0 ended) events) outcome Good)
          (sym (up low (omega (arith, room)) in_memory))
          (rest (from + 1 + 1) (record now { sp = wrap (low - 1) }) (pushed low 0 ended) last_one
          (one_back low (omega (arith, room)) in_memory below are)))))

  turns_pushed :
      (turns low from : ℕ) (now : Registers) (ended : List ℕ) (again : LabelNumber) (others : List Planned)
      → at.context.activation.layout.place_of again.index ≡ from
      → suc turns < 256
      → floor_of at + 1 + 8 * suc turns ≤ low
      → low ≤ high
      → StepsLie at at_start last (turn_steps again others) from to
      → AreZeros (suc turns) low high r memory now ended
      → GoesOnAfter at last others budget outcome Good events 0 (low - 8 * suc turns) high to r memory
      → Does (loaded_of at.context.activation) budget 0
      (at_place from now ended events) outcome Good
  turns_pushed zero low from now ended again others place few room below stand are rest =
      words_pushed 4 1 low from now ended (plain (Dcr (Of B)) ∷ jump (JumpWhere NotZero) again ∷ others)
      (omega (arith, room)) below stand are
      (λ count_place after last_memory stand_after are_after.
      plain_goes at (Dcr (Of B)) (jump (JumpWhere NotZero) again ∷ others) after lies
      (code_stays at lies (omega (arith, room)) limit are_after agrees) stand_after
      (λ more.
      jump_stays at NotZero again others
      (record after { b = (after.b + 254 + 1) % 256; flags = (decrement_of after.b after.flags).flags }) lies
      (code_stays at lies (omega (arith, room)) limit are_after agrees) more (counted_out after.b are_after.b)
      (λ last_one.
      rest (count_place + 1 + 3)
      (record after { b = (after.b + 254 + 1) % 256; flags = (decrement_of after.b after.flags).flags })
      last_memory
      last_one (counted few are_after))))
  turns_pushed (suc turns) low from now ended again others place few room below stand are rest =
      words_pushed 4 (suc (suc turns)) low from now ended
      (plain (Dcr (Of B)) ∷ jump (JumpWhere NotZero) again ∷ others)
      (omega (arith, room)) below stand are
      (λ count_place after last_memory stand_after are_after.
      plain_goes at (Dcr (Of B)) (jump (JumpWhere NotZero) again ∷ others) after lies
      (code_stays at lies (omega (arith, room)) limit are_after agrees) stand_after
      (λ more.
      jump_goes at NotZero again others
      (record after { b = (after.b + 254 + 1) % 256; flags = (decrement_of after.b after.flags).flags }) lies
      (code_stays at lies (omega (arith, room)) limit are_after agrees) more
      (counts_on after.b turns are_after.b (omega (arith, few)))
      (subst (λ (n : ℕ). Does (loaded_of at.context.activation) budget 0
      (at_place n
      (record after { b = (after.b + 254 + 1) % 256; flags = (decrement_of after.b after.flags).flags })
      last_memory events) outcome Good)
      (sym place)
      (turns_pushed turns (low - 8) from
      (record after { b = (after.b + 254 + 1) % 256; flags = (decrement_of after.b after.flags).flags })
      last_memory again
      others place (omega (arith, few)) (omega (arith, room)) (omega (arith, below)) stand
      (counted few are_after)
      (subst (λ (end : ℕ). GoesOnAfter at last others budget outcome Good events 0 end high to r memory)
      (down turns low) rest)))))
    where
      down : (turns low : ℕ) → low - 8 * suc (suc turns) ≡ low - 8 - 8 * suc turns
      down turns low = omega arith

  -- the words of zeros, by a loop where there are many
  pushes_go :
      (words first count low from : ℕ) (now : Registers) (ended : List ℕ) (others : List Planned)
      → words ≤ 512
      → floor_of at + 1 + 2 * words ≤ low
      → low ≤ high
      → StepsLie at at_start last (pushes_steps words first ++ others) from to
      → AreZeros count low high r memory now ended
      → ((count : ℕ) → GoesOnAfter at last others budget outcome Good events count
      (low - 2 * words) high to r memory)
      → Does (loaded_of at.context.activation) budget 0
      (at_place from now ended events) outcome Good
  unfolding pushes_steps push_loop_steps
  pushes_go words first count low from now ended others few room below stand are rest =
      by_test (nat_le words 12) refl stand
    where
      whole : words ≤ 512 → 12 < words → words / 4 % 256 ≡ suc (words / 4 - 1)
      whole few many = omega (arith, few, many)

      end_is : words ≤ 512 → 12 < words
          → low - 8 * suc (words / 4 - 1) - 2 * (words % 4) ≡ low - 2 * words
      end_is few many = omega (arith, few, many)

      by_test : (test : Bool) → nat_le words 12 ≡ test
          → StepsLie at at_start last
          ((if test then replicate words (plain (Push StackDe))
          else push_loop_steps (words / 4 % 256) (label_of first)
          ++ replicate (words % 4) (plain (Push StackDe)))
          ++ others) from to
          → Does (loaded_of at.context.activation) budget 0
          (at_place from now ended events) outcome Good
      by_test true at_most stand =
          words_pushed words count low from now ended others room below stand are (rest count)
      by_test false more_than stand =
          let many : 12 < words = leb-false words 12 more_than in
          let loop : StepsLie at at_start last
          (push_loop_steps (words / 4 % 256) (label_of first)
          ++ (replicate (words % 4) (plain (Push StackDe)) ++ others)) from to
          = same_steps at (append_assoc (push_loop_steps (words / 4 % 256) (label_of first))
          (replicate (words % 4) (plain (Push StackDe))) others) stand in
          plain_goes at (Mvi (Of B) (words / 4 % 256))
          (mark (label_of first) ∷ turn_steps (label_of first)
          (replicate (words % 4) (plain (Push StackDe)) ++ others)) now
          lies (code_stays at lies (omega (arith, room, many)) limit are agrees) loop
          (λ more.
          let marked = mark_goes at (label_of first)
          (turn_steps (label_of first) (replicate (words % 4) (plain (Push StackDe)) ++ others)) more in
          turns_pushed (words / 4 - 1) low (from + 2) (record now { b = words / 4 % 256 })
          ended (label_of first)
          (replicate (words % 4) (plain (Push StackDe)) ++ others) marked.place (omega (arith, few, many))
          (omega (arith, room, many)) below marked.lie
          (subst (λ (number : ℕ). AreZeros number low high r memory
          (record now { b = words / 4 % 256 }) ended)
          (whole few many) (renumbered (words / 4 % 256) (omega arith) are))
          (λ place after last_memory stand_after are_after.
          words_pushed (words % 4) 0 (low - 8 * suc (words / 4 - 1)) place after last_memory others
          (omega (arith, room, many)) (omega (arith, below)) stand_after are_after
          (subst (λ (end : ℕ). GoesOnAfter at last others budget outcome Good events 0 end high to r memory)
          (sym (end_is few many)) (rest 0))))

  -- a last odd byte
  odd_goes :
      (bytes count low from : ℕ) (now : Registers) (ended : List ℕ) (others : List Planned)
      → floor_of at + 3 ≤ low + (1 - bytes % 2)
      → low ≤ high
      → floor_of at + 1 ≤ low
      → StepsLie at at_start last (odd_byte_steps bytes ++ others) from to
      → AreZeros count low high r memory now ended
      → GoesOnAfter at last others budget outcome Good events count (low - bytes % 2) high to r memory
      → Does (loaded_of at.context.activation) budget 0
      (at_place from now ended events) outcome Good
  unfolding odd_byte_steps
  odd_goes bytes count low from now ended others room below least stand are rest =
      by_test (nat_eq (bytes % 2) 1) refl stand
    where
      by_test : (test : Bool) → nat_eq (bytes % 2) 1 ≡ test
          → StepsLie at at_start last
          ((if test then plain (Push StackDe) ∷ plain (Inx Sp) ∷ [] else []) ++ others) from to
          → Does (loaded_of at.context.activation) budget 0
          (at_place from now ended events) outcome Good
      by_test true same stand =
          let odd : bytes % 2 ≡ 1 = eqb-true (bytes % 2) 1 same in
          odd_pushed count low from now ended others (omega (arith, room, odd)) below stand are
          (subst (λ (odd : ℕ). GoesOnAfter at last others budget outcome Good events count (low - odd)
          high to r memory) odd
          rest)
      by_test false other stand =
          let even : bytes % 2 ≢ 1 = eqb-false (bytes % 2) 1 other in
          rest from now ended stand
          (subst (λ (end : ℕ). AreZeros count end high r memory now ended) (omega (arith, even)) are)

  -- zeros for so many bytes of variables, from the stack pointer downwards
  pub zeros_go :
      (bytes first from : ℕ) (others : List Planned)
      → bytes ≤ 1024
      → floor_of at + 3 + bytes ≤ high
      → HoldBytes r
      → r.sp ≡ wrap high
      → IsMemory memory
      → StepsLie at at_start last (zeros_steps bytes first ++ others) from to
      → ((place : ℕ) (now : Registers) (ended : List ℕ)
      → StepsLie at at_start last others place to
      → IsFilled (high - bytes) high r memory now ended
      → Does (loaded_of at.context.activation) budget 0
      (at_place place now ended events) outcome Good)
      → Does (loaded_of at.context.activation) budget 0 (at_place from r memory events) outcome Good
  unfolding zeros_steps
  zeros_go bytes first from others few room bytes_held pointer is_memory stand rest =
      by_test (nat_eq bytes 0) refl stand
    where
      none : bytes ≡ 0 → high - bytes ≡ high
      none nothing = omega (arith, nothing)

      end_is : high - 2 * (bytes / 2) - bytes % 2 ≡ high - bytes
      end_is = omega arith

      by_test : (test : Bool) → nat_eq bytes 0 ≡ test
          → StepsLie at at_start last
          ((if test then [] else plain (Lxi De 0) ∷ (pushes_steps (bytes / 2) first ++ odd_byte_steps bytes))
          ++ others)
          from to
          → Does (loaded_of at.context.activation) budget 0
          (at_place from r memory events) outcome Good
      by_test true same stand =
          rest from r memory stand (record {
            a = refl;
            h = refl;
            l = refl;
            registers = bytes_held;
            is_memory = is_memory;
            pointer = pointer ∙ ap wrap (sym (none (eqb-true bytes 0 same)));
            zeros = λ address low below. absurd (omega (arith, low, below, none (eqb-true bytes 0 same)));
            kept = λ address outside. refl;
          })
      by_test false other stand =
          let some : bytes ≢ 0 = eqb-false bytes 0 other in
          plain_goes at (Lxi De 0) ((pushes_steps (bytes / 2) first ++ odd_byte_steps bytes) ++ others) r lies
          agrees stand
          (λ more.
          pushes_go (bytes / 2) first r.b high (from + 3) (record r { d = 0; e = 0 }) memory
          (odd_byte_steps bytes ++ others) (omega (arith, few)) (omega (arith, room)) (omega arith)
          (same_steps at (append_assoc (pushes_steps (bytes / 2) first) (odd_byte_steps bytes) others) more)
          (no_zeros high r (record r { d = 0; e = 0 }) memory refl refl refl refl refl
          (record {
            a = bytes_held.a;
            b = bytes_held.b;
            c = bytes_held.c;
            d = omega arith;
            e = omega arith;
            h = bytes_held.h;
            l = bytes_held.l;
          }) pointer is_memory)
          (λ count place after last_memory stand_after are_after.
          odd_goes bytes count (high - 2 * (bytes / 2)) place after last_memory others (omega (arith, room))
          (omega arith) (omega (arith, room)) stand_after are_after
          (λ last_place last_registers ended last_stand last_are.
          rest last_place last_registers ended last_stand
          (subst (λ (end : ℕ). IsFilled end high r memory last_registers ended) end_is (filled last_are)))))
