-- The code of stores, for each target.
use Rattle.task_laws.proofs.Prelude.{◌≡◌, ℕ, ◌+◌, ◌*◌, ◌/◌, ◌%◌, ◌<◌, ◌==◌, Bool, true, false, ◌&&◌, not, if◌then◌else◌, List, [], ◌∷◌, ◌++◌, Option, Some, None, slice_set, refl, sym, ap, subst, ◌∙◌, arith, eqb-true, append_assoc, MEMORY_SIZE, ScalarType, Byte, Address, height_of_reference, TypedReference, RefersToScalar, TypesHoldInReference, SourcePlace, write_byte, write_scalar, SourceState, Outcome, Gave, then_do, as_type, values_of, Inx, MovToMemory, Mvi, M, Hl, Registers, State, word, wrap, StoreA, StoreHl, Location, Place, Reference, Target, Sent, Stored, IsReference, IsStoredIn, Does, loaded_of, at_place, Arrives, HasRoom, does_without_step, location_at, address_asks, Facts, Step, Holds, MemoryChanged, Plain, Word, after, no_facts, copy, set, extension_steps, keeps_of_address, location_of, distance, Goal, Near, First, Second, address_beside_de_steps, byte_is_here_steps, exchange_near, goal_of, goal_steps, store_a_at_steps, store_a_steps, store_extended_steps, store_hl_at_steps, store_low_byte_at_steps, store_low_byte_steps, store_near_steps, store_steps, store_word_steps, value_back_steps, word_is_here_steps, word_near, knowing, Context, InRegister, IsSound, distances_in, nodes_in, HoldsThere, PlainThere, StepsStand, Carries, PartDoes, StoreDoes, address_on_machine, given_again}
use Rattle.isa8080.specs.declared.instr.Register.TheVariants as registers
use Rattle.treecode.specs.declared.place.Location.TheVariants as locations
use Rattle.operands8080.specs.internal.Stores.{high_byte_steps}
use Rattle.task_laws.specs.internal.Tasks.{IsStored}
use Rattle.task_laws.proofs.Machine.Addresses.{nothing_goes}
use Rattle.task_laws.proofs.Places.Fitting.{located_fits, refers_is_referred}
use Rattle.task_laws.proofs.Loads.Loads.{LiesThere, lies_there}
use Rattle.task_laws.proofs.Places.Located.{located_in}
use Rattle.task_laws.proofs.Places.LocationWords.{frame_away}
use Rattle.task_laws.proofs.Stores.NearStores.{near_address, near_stored}
use Rattle.task_laws.proofs.Machine.Rules.{GoesOn, holds_go, registers_go}
use Rattle.task_laws.proofs.Stores.Sends.{send_law}
use Rattle.task_laws.proofs.Machine.Stages.{does_same}
use Rattle.task_laws.proofs.Stores.StaticStores.{sta_stores}
use Rattle.task_laws.proofs.Stores.StoreRules.{ByteLiesAt, PlaceLies, WordLiesAt, beside_a_then, beside_de_then, byte_known_at, further, one_stored, place_lies, shld_then, two_stored, word_known_at}

byte_low : (n : ℕ) → n < 256 → n ≡ n % 65536 % 256
byte_low n small = omega (arith, small)

byte_high : (n : ℕ) → n < 256 → 0 ≡ n % 65536 / 256
byte_high n small = omega (arith, small)

byte_twice : (n : ℕ) → n < 256 → n ≡ n % 256 % 256
byte_twice n small = omega (arith, small)

low_twice : (n : ℕ) → n % 256 ≡ n % 256 % 256
low_twice n = omega arith

whole : (n : ℕ) → n < 65536 → n ≡ n % 65536
whole n small = omega (arith, small)

never : true ≡ false → ⊥
never same = cc

-- where the value is not wanted, and where it is
kept_only : (kept wanted : Bool) → (kept && not wanted) ≡ true → wanted ≡ false
kept_only kept false same = refl
kept_only true true same = absurd (never (sym same))
kept_only false true same = absurd (never (sym same))

near_here : (away sp address : ℕ) → away ≡ 0 → sp < MEMORY_SIZE → wrap (away + sp) ≡ address → address ≡ sp
near_here away sp address none small is = omega (arith, none, small, is)

near_above : (away sp address : ℕ) → away ≡ 2 → wrap (away + sp) ≡ address → address ≡ wrap (sp + 2)
near_above away sp address two is = omega (arith, two, is)

same_near : {one other : Near} → Some one ≡ Some other → one ≡ other
same_near same = cc

no_near : {one : Near} → None ≡ Some one → ⊥
no_near same = cc

-- a word next to the stack pointer is at its location
near_is :
    (context : Context) (facts : Facts) (top pushed need variable offset sp : ℕ) (near : Near)
    → HasRoom context.activation top pushed need
    → sp ≡ wrap top
    → word_near (knowing context.site facts) (locations.Frame variable offset) pushed ≡ Some near
    → location_at context.activation (distances_in context) (locations.Frame variable offset) ≡ near_address
    near sp
unfolding distance
near_is context facts top pushed need variable offset sp near room pointer told =
    by (distance context.site variable offset pushed == 0)
    (distance context.site variable offset pushed == 2) refl refl told
  where
    by : (none two : Bool)
        → (distance context.site variable offset pushed == 0) ≡ none
        → (distance context.site variable offset pushed == 2) ≡ two
        → (if none then Some First else if two then Some Second else None) ≡ Some near
        → location_at context.activation (distances_in context) (locations.Frame variable offset)
        ≡ near_address near sp
    by true two none_is two_is same =
        subst (λ (of : Near). location_at context.activation (distances_in context)
        (locations.Frame variable offset) ≡ near_address of sp)
        (same_near same)
        (near_here (distance context.site variable offset pushed) sp
        (location_at context.activation (distances_in context) (locations.Frame variable offset))
        (eqb-true (distance context.site variable offset pushed) 0 none_is) (omega (arith, pointer))
        (frame_away context top pushed need variable offset sp room pointer))
    by false true none_is two_is same =
        subst (λ (of : Near). location_at context.activation (distances_in context)
        (locations.Frame variable offset) ≡ near_address of sp)
        (same_near same)
        (near_above (distance context.site variable offset pushed) sp
        (location_at context.activation (distances_in context) (locations.Frame variable offset))
        (eqb-true (distance context.site variable offset pushed) 2 two_is)
        (frame_away context top pushed need variable offset sp room pointer))
    by false false none_is two_is same = absurd (no_near same)

module _
    (context : Context) (facts last : Facts) (reference : Reference) (pushed from to bound number : ℕ)
    (tree : TypedReference)
    (is_wanted : Bool) (sound : IsSound context)
    (is : IsReference (nodes_in context) context.storage bound reference tree)
    (types : TypesHoldInReference context.typed context.within tree) where
  -- a value of a type is stored in a scalar of a type
  abbrev Goes : (of scalar : ScalarType) → Type 0
  Goes of scalar =
      Carries context facts pushed (2 + 2 * height_of_reference tree) 1 from to (InRegister of number)
      (λ s. then_do (located_in context tree s)
      (λ place t. write_scalar context.activation.around.program scalar place (as_type scalar number) t))
      (IsStored context last of is_wanted number)

  abbrev the_goal : ScalarType → Goal
  the_goal scalar = goal_of (knowing context.site facts) scalar reference

  abbrev the_location : Option Location
  the_location = location_of (knowing context.site facts) reference

  -- where the value was stored
  stored_ends :
      {top : ℕ} {base : List ℕ} (of : ScalarType) (r : Registers) (memory : List ℕ) (u : SourceState)
      (now : Registers) (left : List ℕ)
      → (is_wanted ≡ true → InRegister of number now)
      → GoesOn context last top base u.memory u.frame now left
      → Does (loaded_of context.activation) u.budget 0 (at_place to now left u.events) (Gave tt u)
      (Arrives context.activation top base to (IsStored context last of is_wanted number r memory))
  stored_ends of r memory u now left wanted on =
      does_without_step (record {
        r = now;
        memory = left;
        is_at = refl;
        ready = on.ready;
        holds = record { known = on.known; wanted = wanted };
      })

  -- A or HL is known to hold the value at the location
  byte_here_ends :
      {top middle : ℕ} {base : List ℕ} {found : Facts} (of : ScalarType) (r : Registers) (memory : List ℕ)
      (place : SourcePlace)
      (u : SourceState) (now : Registers) (left : List ℕ)
      → (is_wanted ≡ true → InRegister of number now)
      → PlaceLies context the_location place
      → ByteLiesAt context.activation left (address_on_machine context.activation place) now.a
      → StepsStand context (PartDoes context) found middle (byte_is_here_steps the_location) last to
      → GoesOn context found top base u.memory u.frame now left
      → Does (loaded_of context.activation) u.budget 0 (at_place middle now left u.events)
      (Gave tt u)
      (Arrives context.activation top base to (IsStored context last of is_wanted number r memory))
  byte_here_ends of r memory place u now left wanted lies byte (HoldsThere ends) on =
      nothing_goes now ends (holds_go on (byte_known_at context the_location place left now lies byte))
      (λ final. stored_ends of r memory u now left wanted final)

  word_here_ends :
      {top middle : ℕ} {base : List ℕ} {found : Facts} (of : ScalarType) (r : Registers) (memory : List ℕ)
      (place : SourcePlace)
      (stored : ℕ) (u : SourceState) (now : Registers) (left : List ℕ)
      → (is_wanted ≡ true → InRegister of number now)
      → PlaceLies context the_location place
      → now.h ≡ stored / 256
      → now.l ≡ stored % 256
      → WordLiesAt context.activation left (address_on_machine context.activation place) stored
      → StepsStand context (PartDoes context) found middle (word_is_here_steps the_location) last to
      → GoesOn context found top base u.memory u.frame now left
      → Does (loaded_of context.activation) u.budget 0 (at_place middle now left u.events)
      (Gave tt u)
      (Arrives context.activation top base to (IsStored context last of is_wanted number r memory))
  word_here_ends of r memory place stored u now left wanted lies h l word_is (HoldsThere ends) on =
      nothing_goes now ends
      (holds_go on (word_known_at context the_location place stored left now lies h l word_is))
      (λ final. stored_ends of r memory u now left wanted final)

  -- a BYTE in A is stored in a BYTE at a computed address
  byte_at_computed :
      RefersToScalar context.typed context.within Byte tree
      → number < 256
      → StepsStand context (PartDoes context) facts from (store_a_at_steps (the_goal Byte) pushed) last to
      → Goes Byte Byte
  byte_at_computed refers small stand top base s r memory less room ready known asked =
      let program = context.activation.around.program in
      beside_a_then facts Byte (Plain (MovToMemory registers.A) ∷ [])
      (λ place t. write_byte program place (number % 256 % 256) t) from s r memory sound stand is
      (refers_is_referred context Byte tree refers)
      types less room (omega arith) (record { ready = ready; known = known })
      (λ place t now ended middle found same a hl stands on.
      does_same _ (sym (given_again (write_byte program place (number % 256 % 256) t)))
      (one_stored (MovToMemory registers.A) [] (λ done u. Gave done u) place (number % 256 % 256) t
      now ended sound (omega arith) hl (located_fits context Byte tree place s t sound refers same)
      (λ n memory. ap (λ (b : ℕ). at_place n now (slice_set memory (word now.h now.l) b) t.events)
      (a ∙ asked ∙ byte_twice number small))
      (λ steady. address_asks context.activation (distances_in context) found.address_in_hl now.h now.l
      on.known.address_holds steady)
      stands on
      (λ u left then_middle then_found lies ends final.
      nothing_goes now ends final
      (λ done. stored_ends Byte r memory u now left (λ wanted. a ∙ asked) done))))

  -- a BYTE in A is stored in an ADDRESS at a computed address
  byte_to_word_at :
      RefersToScalar context.typed context.within Address tree
      → number < 256
      → StepsStand context (PartDoes context) facts from (store_a_at_steps (the_goal Address) pushed) last to
      → Goes Byte Address
  byte_to_word_at refers small stand top base s r memory less room ready known asked =
      let program = context.activation.around.program in
      let referred = refers_is_referred context Address tree refers in
      beside_a_then facts Address
      (Plain (MovToMemory registers.A) ∷ Plain (Inx Hl) ∷ Plain (Mvi M 0) ∷ byte_is_here_steps the_location)
      (λ place t. write_scalar program Address place (number % 65536) t) from s r memory sound stand is
      referred types less room
      (omega arith) (record { ready = ready; known = known })
      (λ place t now ended middle found same a hl stands on.
      does_same _ (sym (given_again (write_scalar program Address place (number % 65536) t)))
      (two_stored (MovToMemory registers.A) (Mvi M 0) (byte_is_here_steps the_location)
      (λ done u. Gave done u) place (number % 65536) t
      now ended sound (omega arith) hl (located_fits context Address tree place s t sound refers same)
      (λ n memory. ap (λ (b : ℕ). at_place n now (slice_set memory (word now.h now.l) b) t.events)
      (a ∙ asked ∙ byte_low number small))
      (λ n memory. ap (λ (b : ℕ). at_place n (further now)
      (slice_set memory (word (further now).h (further now).l) b) t.events) (byte_high number small))
      (λ steady. address_asks context.activation (distances_in context) found.address_in_hl now.h now.l
      on.known.address_holds steady)
      (λ f q. tt) stands on
      (λ u left then_middle then_found lies ends final.
      byte_here_ends Byte r memory place u (further now) left (λ wanted. a ∙ asked)
      (place_lies facts place s t sound is referred types same)
      (record { is = lies.low ∙ sym (a ∙ asked ∙ byte_low number small); steady = lies.steady }) ends final)))

  -- the low byte of HL is stored in a BYTE at a computed address
  low_byte_at :
      RefersToScalar context.typed context.within Byte tree
      → StepsStand context (PartDoes context) facts from (store_hl_at_steps (the_goal Byte) is_wanted pushed)
      last to
      → Goes Address Byte
  low_byte_at refers stand top base s r memory less room ready known asked =
      let program = context.activation.around.program in
      let referred = refers_is_referred context Byte tree refers in
      beside_de_then facts Byte (Plain (MovToMemory registers.E) ∷ value_back_steps (the_goal Byte) is_wanted)
      (λ place t. write_byte program place (number % 256 % 256) t) from s r memory sound
      (subst (λ (steps : List Step). StepsStand context (PartDoes context) facts from steps last to)
      (append_assoc (address_beside_de_steps (the_goal Byte) pushed)
      (Plain (MovToMemory registers.E) ∷ high_byte_steps (the_goal Byte))
      (value_back_steps (the_goal Byte) is_wanted)) stand)
      is referred types less room (omega arith) (record { ready = ready; known = known })
      (λ place t now ended middle found same d e hl stands on.
      does_same _ (sym (given_again (write_byte program place (number % 256 % 256) t)))
      (one_stored (MovToMemory registers.E) (value_back_steps (the_goal Byte) is_wanted)
      (λ done u. Gave done u) place (number % 256 % 256) t
      now ended sound (omega arith) hl (located_fits context Byte tree place s t sound refers same)
      (λ n memory. ap (λ (b : ℕ). at_place n now (slice_set memory (word now.h now.l) b) t.events)
      (e ∙ asked.1 ∙ low_twice number))
      (λ steady. tt) stands on
      (λ u left then_middle then_found lies ends final.
      ends_by is_wanted refl r memory u now left (d ∙ asked.0) (e ∙ asked.1) ends final)))
    where
      ends_by : {top middle : ℕ} {base : List ℕ} {found : Facts} (wanted : Bool) → is_wanted ≡ wanted
          → (r : Registers) (memory : List ℕ) (u : SourceState) (now : Registers) (left : List ℕ)
          → now.d ≡ number / 256
          → now.e ≡ number % 256
          → StepsStand context (PartDoes context) found middle (value_back_steps (the_goal Byte) wanted) last
          to
          → GoesOn context found top base u.memory u.frame now left
          → Does (loaded_of context.activation) u.budget 0 (at_place middle now left u.events)
          (Gave tt u)
          (Arrives context.activation top base to (IsStored context last Address is_wanted number r memory))
      ends_by false none r memory u now left d e ends on =
          nothing_goes now ends on
          (λ final. stored_ends Address r memory u now left
          (λ wanted. absurd (never (sym wanted ∙ none))) final)
      ends_by true wanted r memory u now left d e (PlainThere there ends) on =
          let bytes = on.ready.registers in
          let turned : Registers = record now { h = now.d; l = now.e; d = now.h; e = now.l } in
          registers_go now turned sound there on tt refl refl
          (record { a = bytes.a; b = bytes.b; c = bytes.c; d = bytes.h; e = bytes.l; h = bytes.d; l = bytes.e })
          (λ on_turned.
          nothing_goes turned ends on_turned
          (λ final. stored_ends Address r memory u turned left (λ wanted. (d, e)) final))

  -- a word at an address that is computed
  word_at :
      RefersToScalar context.typed context.within Address tree
      → number < 65536
      → StepsStand context (PartDoes context) facts from
      (store_hl_at_steps (the_goal Address) is_wanted pushed) last to
      → Goes Address Address
  word_at refers small stand top base s r memory less room ready known asked =
      let program = context.activation.around.program in
      let referred = refers_is_referred context Address tree refers in
      beside_de_then facts Address
      (Plain (MovToMemory registers.E) ∷ Plain (Inx Hl) ∷ Plain (MovToMemory registers.D)
      ∷ value_back_steps (the_goal Address) is_wanted)
      (λ place t. write_scalar program Address place (number % 65536) t) from s r memory sound
      (subst (λ (steps : List Step). StepsStand context (PartDoes context) facts from steps last to)
      (append_assoc (address_beside_de_steps (the_goal Address) pushed)
      (Plain (MovToMemory registers.E) ∷ high_byte_steps (the_goal Address))
      (value_back_steps (the_goal Address) is_wanted)) stand)
      is referred types less room (omega arith) (record { ready = ready; known = known })
      (λ place t now ended middle found same d e hl stands on.
      let high : now.d ≡ number % 65536 / 256 = d ∙ asked.0 ∙ ap (λ (n : ℕ). n / 256) (whole number small) in
      let low : now.e ≡ number % 65536 % 256 = e ∙ asked.1 ∙ ap (λ (n : ℕ). n % 256) (whole number small) in
      does_same _ (sym (given_again (write_scalar program Address place (number % 65536) t)))
      (two_stored (MovToMemory registers.E) (MovToMemory registers.D)
      (value_back_steps (the_goal Address) is_wanted)
      (λ done u. Gave done u) place (number % 65536) t now ended sound (omega arith) hl
      (located_fits context Address tree place s t sound refers same)
      (λ n memory. ap (λ (b : ℕ). at_place n now (slice_set memory (word now.h now.l) b) t.events) low)
      (λ n memory. ap (λ (b : ℕ). at_place n (further now)
      (slice_set memory (word (further now).h (further now).l) b) t.events) high)
      (λ steady. tt) (λ f q. tt) stands on
      (λ u left then_middle then_found lies ends final.
      ends_by is_wanted refl r memory place u (further now) left (d ∙ asked.0) (e ∙ asked.1) high low
      (place_lies facts place s t sound is referred types same) lies ends final)))
    where
      ends_by : {top middle : ℕ} {base : List ℕ} {found : Facts} (wanted : Bool) → is_wanted ≡ wanted
          → (r : Registers) (memory : List ℕ) (place : SourcePlace) (u : SourceState) (now : Registers)
          (left : List ℕ)
          → now.d ≡ number / 256
          → now.e ≡ number % 256
          → now.d ≡ number % 65536 / 256
          → now.e ≡ number % 65536 % 256
          → PlaceLies context the_location place
          → WordLiesAt context.activation left (address_on_machine context.activation place) (number % 65536)
          → StepsStand context (PartDoes context) found middle (value_back_steps (the_goal Address) wanted)
          last to
          → GoesOn context found top base u.memory u.frame now left
          → Does (loaded_of context.activation) u.budget 0 (at_place middle now left u.events)
          (Gave tt u)
          (Arrives context.activation top base to (IsStored context last Address is_wanted number r memory))
      ends_by false none r memory place u now left d e high low there lies ends on =
          nothing_goes now ends on
          (λ final. stored_ends Address r memory u now left
          (λ wanted. absurd (never (sym wanted ∙ none))) final)
      ends_by true wanted r memory place u now left d e high low there lies (PlainThere step ends) on =
          let bytes = on.ready.registers in
          let turned : Registers = record now { h = now.d; l = now.e; d = now.h; e = now.l } in
          registers_go now turned sound step on tt refl refl
          (record { a = bytes.a; b = bytes.b; c = bytes.c; d = bytes.h; e = bytes.l; h = bytes.d; l = bytes.e })
          (λ on_turned.
          word_here_ends Address r memory place (number % 65536) u turned left (λ wanted. (d, e)) there high
          low lies ends on_turned)

  -- through A if that is shorter
  low_byte_by_a :
      RefersToScalar context.typed context.within Byte tree
      → is_wanted ≡ false
      → StepsStand context (PartDoes context) facts from
      (Plain (copy registers.A registers.L) ∷ store_a_at_steps (the_goal Byte) pushed) last to
      → Goes Address Byte
  low_byte_by_a refers none (PlainThere first stand) top base s r memory less room ready known asked =
      let program = context.activation.around.program in
      let bytes = ready.registers in
      let low : Registers = record r { a = r.l } in
      registers_go r low sound first (record { ready = ready; known = known }) tt refl refl
      (record { a = bytes.l; b = bytes.b; c = bytes.c; d = bytes.d; e = bytes.e; h = bytes.h; l = bytes.l })
      (λ on_low.
      beside_a_then facts Byte (Plain (MovToMemory registers.A) ∷ [])
      (λ place t. write_byte program place (number % 256 % 256) t) _ s low memory sound stand is
      (refers_is_referred context Byte tree refers)
      types less room (omega arith) on_low
      (λ place t now ended middle found same a hl stands on.
      does_same _ (sym (given_again (write_byte program place (number % 256 % 256) t)))
      (one_stored (MovToMemory registers.A) [] (λ done u. Gave done u) place (number % 256 % 256) t
      now ended sound (omega arith) hl (located_fits context Byte tree place s t sound refers same)
      (λ n memory. ap (λ (b : ℕ). at_place n now (slice_set memory (word now.h now.l) b) t.events)
      (a ∙ asked.1 ∙ low_twice number))
      (λ steady. address_asks context.activation (distances_in context) found.address_in_hl now.h now.l
      on.known.address_holds steady)
      stands on
      (λ u left then_middle then_found lies ends final.
      nothing_goes now ends final
      (λ done. stored_ends Address r memory u now left
      (λ wanted. absurd (never (sym wanted ∙ none))) done)))))

  -- at a place that is known
  at_known_place :
      {more : ℕ} {start : State} {Good : Unit {0} → SourceState → State → Type 0} (scalar : ScalarType)
      (n : ℕ) (s : SourceState)
      (location : Location) (lies : LiesThere context tree location)
      → Does (loaded_of context.activation) s.budget more start
      (then_do (write_scalar context.activation.around.program scalar lies.place n s) (λ done u. Gave done u))
      Good
      → Does (loaded_of context.activation) s.budget more start
      (then_do (located_in context tree s)
      (λ place t. write_scalar context.activation.around.program scalar place n t)) Good
  at_known_place scalar n s location lies does =
      does_same _ (ap (λ (outcome : Outcome SourcePlace). then_do outcome
      (λ place t. write_scalar context.activation.around.program scalar place n t)) (lies.means s))
      (does_same _ (sym (given_again (write_scalar context.activation.around.program scalar lies.place n s)))
      does)

  byte_at_static :
      (static : Place)
      → RefersToScalar context.typed context.within Byte tree
      → number < 256
      → the_location ≡ Some (locations.Static static)
      → StepsStand context (PartDoes context) facts from (Word StoreA static ∷ []) last to
      → Goes Byte Byte
  byte_at_static static refers small told stand top base s r memory less room ready known asked =
      let lies =
      lies_there facts (locations.Static static) sound is
      (refers_is_referred context Byte tree refers) types told in
      at_known_place Byte (number % 256) s (locations.Static static) lies
      (sta_stores (λ done u. Gave done u) static lies.place (number % 256 % 256) s r
      memory sound (omega arith)
      (asked ∙ byte_twice number small) lies.is_at
      (located_fits context Byte tree lies.place s s sound refers (lies.means s)) stand
      (record { ready = ready; known = known })
      (λ u left final. stored_ends Byte r memory u r left (λ wanted. asked) final))

  -- a BYTE in A is stored in a BYTE
  byte_goes :
      RefersToScalar context.typed context.within Byte tree
      → number < 256
      → StepsStand context (PartDoes context) facts from
      (store_a_steps (knowing context.site facts) (the_goal Byte) pushed) last to
      → Goes Byte Byte
  byte_goes refers small stand = by the_location refl stand
    where
      by : (location : Option Location) → the_location ≡ location
          → StepsStand context (PartDoes context) facts from
          (elim location [
            | None ↦ store_a_at_steps (the_goal Byte) pushed
            | Some location ↦ elim location [
              | locations.Static place ↦ Word StoreA place ∷ []
              | locations.Frame variable offset ↦ store_a_at_steps (the_goal Byte) pushed
            ]
          ]) last to
          → Goes Byte Byte
      by None told stands = byte_at_computed refers small stands
      by (Some (locations.Frame variable offset)) told stands = byte_at_computed refers small stands
      by (Some (locations.Static place)) told stands = byte_at_static place refers small told stands

  word_at_static :
      (static : Place)
      → RefersToScalar context.typed context.within Address tree
      → number < 65536
      → the_location ≡ Some (locations.Static static)
      → StepsStand context (PartDoes context) facts from (Word StoreHl static ∷ []) last to
      → Goes Address Address
  word_at_static static refers small told stand top base s r memory less room ready known asked =
      let lies =
      lies_there facts (locations.Static static) sound is
      (refers_is_referred context Address tree refers) types told in
      at_known_place Address (number % 65536) s (locations.Static static) lies
      (shld_then [] (λ done u. Gave done u) static lies.place (number % 65536) s r memory sound (omega arith)
      (asked.0 ∙ ap (λ (n : ℕ). n / 256) (whole number small))
      (asked.1 ∙ ap (λ (n : ℕ). n % 256) (whole number small)) lies.is_at
      (located_fits context Address tree lies.place s s sound refers (lies.means s)) stand
      (record { ready = ready; known = known })
      (λ u left middle found word_is ends on.
      nothing_goes r ends on
      (λ final. stored_ends Address r memory u r left (λ wanted. asked) final)))

  low_byte_at_static :
      (static : Place)
      → RefersToScalar context.typed context.within Byte tree
      → the_location ≡ Some (locations.Static static)
      → StepsStand context (PartDoes context) facts from
      (Plain (copy registers.A registers.L) ∷ Word StoreA static ∷ []) last to
      → Goes Address Byte
  low_byte_at_static static refers told (PlainThere first stand) top base s r memory less
      room ready known asked =
      let lies =
      lies_there facts (locations.Static static) sound is
      (refers_is_referred context Byte tree refers) types told in
      let bytes = ready.registers in
      let low : Registers = record r { a = r.l } in
      registers_go r low sound first (record { ready = ready; known = known }) tt refl refl
      (record { a = bytes.l; b = bytes.b; c = bytes.c; d = bytes.d; e = bytes.e; h = bytes.h; l = bytes.l })
      (λ on_low.
      at_known_place Byte (number % 256) s (locations.Static static) lies
      (sta_stores (λ done u. Gave done u) static lies.place (number % 256 % 256) s low
      memory sound (omega arith)
      (asked.1 ∙ low_twice number) lies.is_at
      (located_fits context Byte tree lies.place s s sound refers (lies.means s)) stand on_low
      (λ u left final. stored_ends Address r memory u low left (λ wanted. asked) final)))

  -- the low byte of HL is stored in a BYTE
  low_byte_goes :
      RefersToScalar context.typed context.within Byte tree
      → StepsStand context (PartDoes context) facts from
      (store_low_byte_steps (the_goal Byte) is_wanted pushed) last to
      → Goes Address Byte
  low_byte_goes refers stand = by the_location refl stand
    where
      at_computed : (by_a : Bool)
          → ((keeps_of_address (knowing context.site facts) reference).a && not is_wanted) ≡ by_a
          → StepsStand context (PartDoes context) facts from
          (if by_a then Plain (copy registers.A registers.L) ∷ store_a_at_steps (the_goal Byte) pushed
          else store_hl_at_steps (the_goal Byte) is_wanted pushed) last to
          → Goes Address Byte
      at_computed true told stands =
          low_byte_by_a refers
          (kept_only (keeps_of_address (knowing context.site facts) reference).a is_wanted told) stands
      at_computed false told stands = low_byte_at refers stands

      by : (location : Option Location) → the_location ≡ location
          → StepsStand context (PartDoes context) facts from
          (elim location [
            | None ↦ store_low_byte_at_steps (the_goal Byte) is_wanted pushed
            | Some location ↦ elim location [
              | locations.Static place ↦ Plain (copy registers.A registers.L) ∷ Word StoreA place ∷ []
              | locations.Frame variable offset ↦ store_low_byte_at_steps (the_goal Byte) is_wanted pushed
            ]
          ]) last to
          → Goes Address Byte
      by None told stands =
          at_computed ((keeps_of_address (knowing context.site facts) reference).a && not is_wanted) refl
          stands
      by (Some (locations.Frame variable offset)) told stands =
          at_computed ((keeps_of_address (knowing context.site facts) reference).a && not is_wanted) refl
          stands
      by (Some (locations.Static place)) told stands = low_byte_at_static place refers told stands

  -- a word next to the stack pointer
  near_goes :
      {top middle : ℕ} {base : List ℕ} {found : Facts} (of : ScalarType) (near : Near)
      (variable offset stored : ℕ) (others : List Step)
      (s : SourceState) (r : Registers) (memory : List ℕ) (now : Registers) (need : ℕ)
      → RefersToScalar context.typed context.within Address tree
      → the_location ≡ Some (locations.Frame variable offset)
      → word_near (knowing context.site facts) (locations.Frame variable offset) pushed ≡ Some near
      → HasRoom context.activation top pushed need
      → stored < 65536
      → now.h ≡ stored / 256
      → now.l ≡ stored % 256
      → StepsStand context (PartDoes context) found middle
      (exchange_near near ++ (MemoryChanged ∷ Holds
      (record no_facts { word_in_hl = Some (locations.Frame variable offset) }) ∷ others)) last to
      → GoesOn context found top base s.memory s.frame now memory
      → ((lies : LiesThere context tree (locations.Frame variable offset)) (u : SourceState)
      (final : Registers) (left : List ℕ) (then_middle : ℕ) (then_found : Facts)
      → final.a ≡ now.a
      → final.h ≡ now.h
      → final.l ≡ now.l
      → WordLiesAt context.activation left (address_on_machine context.activation lies.place) stored
      → StepsStand context (PartDoes context) then_found then_middle others last to
      → GoesOn context then_found top base u.memory u.frame final left
      → Does (loaded_of context.activation) u.budget 0 (at_place then_middle final left u.events)
      (Gave tt u)
      (Arrives context.activation top base to (IsStored context last of is_wanted number r memory)))
      → Does (loaded_of context.activation) s.budget 1 (at_place middle now memory s.events)
      (then_do (located_in context tree s)
      (λ place t. write_scalar context.activation.around.program Address place stored t))
      (Arrives context.activation top base to (IsStored context last of is_wanted number r memory))
  near_goes {top = top} {base = base} of near variable offset stored others s r memory now need refers told
      near_told room small h l stand on rest =
      let location : Location = locations.Frame variable offset in
      let lies =
      lies_there facts location sound is (refers_is_referred context Address tree refers) types told in
      at_known_place Address stored s location lies
      (near_stored near (Holds (record no_facts { word_in_hl = Some location }) ∷ others)
      (λ done u. Gave done u) lies.place stored s now memory
      sound small h l
      (lies.is_at ∙ near_is context facts top pushed need variable offset now.sp near room
      on.ready.pointer near_told)
      (located_fits context Address tree lies.place s s sound refers (lies.means s)) stand on
      (λ u final left then_middle then_found a high low word_is stands on_left.
      held lies u final left a high low word_is stands on_left))
    where
      held : {then_middle : ℕ} {then_found : Facts}
          (lies : LiesThere context tree (locations.Frame variable offset)) (u : SourceState)
          (final : Registers) (left : List ℕ)
          → final.a ≡ now.a
          → final.h ≡ now.h
          → final.l ≡ now.l
          → WordLiesAt context.activation left (address_on_machine context.activation lies.place) stored
          → StepsStand context (PartDoes context) then_found then_middle
          (Holds (record no_facts { word_in_hl = Some (locations.Frame variable offset) }) ∷ others) last to
          → GoesOn context then_found top base u.memory u.frame final left
          → Does (loaded_of context.activation) u.budget 0
          (at_place then_middle final left u.events) (Gave tt u)
          (Arrives context.activation top base to (IsStored context last of is_wanted number r memory))
      held {then_middle = then_middle} lies u final left a high low word_is (HoldsThere stands) on_left =
          rest lies u final left then_middle _ a high low word_is stands
          (holds_go on_left (word_known_at context (Some (locations.Frame variable offset)) lies.place stored
          left final lies.is_at
          (high ∙ h) (low ∙ l) word_is))

  -- a word is stored in an ADDRESS
  word_goes_to :
      RefersToScalar context.typed context.within Address tree
      → number < 65536
      → StepsStand context (PartDoes context) facts from
      (store_word_steps (knowing context.site facts) (the_goal Address) is_wanted pushed) last to
      → Goes Address Address
  word_goes_to refers small stand = by the_location refl stand
    where
      by_near : (variable offset : ℕ) → the_location ≡ Some (locations.Frame variable offset)
          → (near : Option Near) → word_near (knowing context.site facts) (locations.Frame variable offset)
          pushed ≡ near
          → StepsStand context (PartDoes context) facts from
          (elim near [
            | Some near ↦ store_near_steps near (locations.Frame variable offset)
            | None ↦ store_hl_at_steps (the_goal Address) is_wanted pushed
          ]) last to
          → Goes Address Address
      by_near variable offset told None near_told stands = word_at refers small stands
      by_near variable offset told (Some near) near_told stands =
          λ top base s r memory less room ready known asked.
          near_goes Address near variable offset (number % 65536) [] s r memory r _ refers told
          near_told room (omega arith)
          (asked.0 ∙ ap (λ (n : ℕ). n / 256) (whole number small))
          (asked.1 ∙ ap (λ (n : ℕ). n % 256) (whole number small))
          stands (record { ready = ready; known = known })
          (λ lies u final left then_middle then_found a high low word_is ends on_left.
          nothing_goes final ends on_left
          (λ done. stored_ends Address r memory u final left
          (λ wanted. (high ∙ asked.0, low ∙ asked.1)) done))

      by : (location : Option Location) → the_location ≡ location
          → StepsStand context (PartDoes context) facts from
          (elim location [
            | None ↦ store_hl_at_steps (the_goal Address) is_wanted pushed
            | Some location ↦ elim location [
              | locations.Static place ↦ Word StoreHl place ∷ []
              | locations.Frame variable offset ↦ elim
                  (word_near (knowing context.site facts) (locations.Frame variable offset) pushed) [
                    | Some near ↦ store_near_steps near (locations.Frame variable offset)
                    | None ↦ store_hl_at_steps (the_goal Address) is_wanted pushed
                  ]
            ]
          ]) last to
          → Goes Address Address
      by None told stands = word_at refers small stands
      by (Some (locations.Static place)) told stands = word_at_static place refers small told stands
      by (Some (locations.Frame variable offset)) told stands =
          by_near variable offset told
          (word_near (knowing context.site facts) (locations.Frame variable offset) pushed) refl stands

  -- a BYTE in A is stored in an ADDRESS
  byte_to_word_goes :
      RefersToScalar context.typed context.within Address tree
      → number < 256
      → StepsStand context (PartDoes context) facts from
      (store_a_steps (knowing context.site facts) (the_goal Address) pushed) last to
      → Goes Byte Address
  byte_to_word_goes refers small stand = by the_location refl stand
    where
      at_static : (place : Place) → the_location ≡ Some (locations.Static place)
          → StepsStand context (PartDoes context) facts from
          (extension_steps ++ (Word StoreHl place ∷ byte_is_here_steps (Some (locations.Static place)))) last
          to
          → Goes Byte Address
      at_static place told (PlainThere first (PlainThere second stands)) top base s r memory less
          room ready known asked =
          let lies =
          lies_there facts (locations.Static place) sound is
          (refers_is_referred context Address tree refers) types told in
          let bytes = ready.registers in
          let low : Registers = record r { l = r.a } in
          let both : Registers = record r { l = r.a; h = 0 } in
          registers_go r low sound first (record { ready = ready; known = known }) tt refl refl
          (record { a = bytes.a; b = bytes.b; c = bytes.c; d = bytes.d; e = bytes.e; h = bytes.h; l = bytes.a })
          (λ on_low.
          registers_go low both sound second on_low tt refl refl
          (record { a = bytes.a; b = bytes.b; c = bytes.c; d = bytes.d; e = bytes.e; h = omega arith; l = bytes.a })
          (λ on_both.
          at_known_place Address (number % 65536) s (locations.Static place) lies
          (shld_then (byte_is_here_steps (Some (locations.Static place))) (λ done u. Gave done u) place
          lies.place (number % 65536) s both memory
          sound (omega arith) (byte_high number small) (asked ∙ byte_low number small) lies.is_at
          (located_fits context Address tree lies.place s s sound refers (lies.means s)) stands on_both
          (λ u left then_middle then_found word_is ends on_left.
          ends_at place told lies r memory u both left asked
          (record { is = word_is.low ∙ sym (asked ∙ byte_low number small); steady = word_is.steady }) ends
          on_left))))
        where
          ends_at : {top middle : ℕ} {base : List ℕ} {found : Facts} (place : Place) → the_location ≡ Some
              (locations.Static place)
              → (lies : LiesThere context tree (locations.Static place))
              → (r : Registers) (memory : List ℕ) (u : SourceState) (now : Registers) (left : List ℕ)
              → now.a ≡ number
              → ByteLiesAt context.activation left (address_on_machine context.activation lies.place) now.a
              → StepsStand context (PartDoes context) found middle
              (byte_is_here_steps (Some (locations.Static place))) last to
              → GoesOn context found top base u.memory u.frame now left
              → Does (loaded_of context.activation) u.budget 0 (at_place middle now left u.events)
              (Gave tt u)
              (Arrives context.activation top base to (IsStored context last Byte is_wanted number r memory))
          ends_at place told lies r memory u now left a byte (HoldsThere ends) on =
              nothing_goes now ends
              (holds_go on (byte_known_at context (Some (locations.Static place)) lies.place left
              now lies.is_at byte))
              (λ final. stored_ends Byte r memory u now left (λ wanted. a) final)

      at_near : (variable offset : ℕ) → the_location ≡ Some (locations.Frame variable offset)
          → (near : Near) → word_near (knowing context.site facts) (locations.Frame variable offset) pushed
          ≡ Some near
          → StepsStand context (PartDoes context) facts from
          (extension_steps ++ store_near_steps near (locations.Frame variable offset) ++ byte_is_here_steps
          (Some (locations.Frame variable offset))) last to
          → Goes Byte Address
      at_near variable offset told near near_told (PlainThere first (PlainThere second stands)) top base s r
          memory less room ready known asked =
          let bytes = ready.registers in
          let low : Registers = record r { l = r.a } in
          let both : Registers = record r { l = r.a; h = 0 } in
          registers_go r low sound first (record { ready = ready; known = known }) tt refl refl
          (record { a = bytes.a; b = bytes.b; c = bytes.c; d = bytes.d; e = bytes.e; h = bytes.h; l = bytes.a })
          (λ on_low.
          registers_go low both sound second on_low tt refl refl
          (record { a = bytes.a; b = bytes.b; c = bytes.c; d = bytes.d; e = bytes.e; h = omega arith; l = bytes.a })
          (λ on_both.
          near_goes Byte near variable offset (number % 65536)
          (byte_is_here_steps (Some (locations.Frame variable offset))) s r memory both _
          refers told near_told room
          (omega arith) (byte_high number small) (asked ∙ byte_low number small)
          (subst (λ (steps : List Step). StepsStand context (PartDoes context)
          (after (after facts (copy registers.L registers.A)) (set registers.H 0))
          (from + 1 + 2) steps last to)
          (append_assoc (exchange_near near)
          (MemoryChanged ∷ word_is_here_steps (Some (locations.Frame variable offset)))
          (byte_is_here_steps (Some (locations.Frame variable offset)))) stands)
          on_both
          (λ lies u final left then_middle then_found a high lower word_is ends on_left.
          ends_at lies r memory u final left (a ∙ asked)
          (record { is = word_is.low ∙ sym (a ∙ asked ∙ byte_low number small); steady = word_is.steady })
          ends on_left)))
        where
          ends_at : {top middle : ℕ} {base : List ℕ} {found : Facts}
              (lies : LiesThere context tree (locations.Frame variable offset))
              → (r : Registers) (memory : List ℕ) (u : SourceState) (now : Registers) (left : List ℕ)
              → now.a ≡ number
              → ByteLiesAt context.activation left (address_on_machine context.activation lies.place) now.a
              → StepsStand context (PartDoes context) found middle
              (byte_is_here_steps (Some (locations.Frame variable offset))) last to
              → GoesOn context found top base u.memory u.frame now left
              → Does (loaded_of context.activation) u.budget 0 (at_place middle now left u.events)
              (Gave tt u)
              (Arrives context.activation top base to (IsStored context last Byte is_wanted number r memory))
          ends_at lies r memory u now left a byte (HoldsThere ends) on =
              nothing_goes now ends
              (holds_go on (byte_known_at context (Some (locations.Frame variable offset)) lies.place left
              now lies.is_at byte))
              (λ final. stored_ends Byte r memory u now left (λ wanted. a) final)

      by_near : (variable offset : ℕ) → the_location ≡ Some (locations.Frame variable offset)
          → (near : Option Near) → word_near (knowing context.site facts) (locations.Frame variable offset)
          pushed ≡ near
          → StepsStand context (PartDoes context) facts from
          (elim near [
            | Some near ↦ extension_steps ++ store_near_steps near (locations.Frame variable offset)
                ++ byte_is_here_steps (Some (locations.Frame variable offset))
            | None ↦ store_a_at_steps (the_goal Address) pushed
          ]) last to
          → Goes Byte Address
      by_near variable offset told None near_told stands = byte_to_word_at refers small stands
      by_near variable offset told (Some near) near_told stands =
          at_near variable offset told near near_told stands

      by : (location : Option Location) → the_location ≡ location
          → StepsStand context (PartDoes context) facts from
          (elim location [
            | None ↦ store_a_at_steps (the_goal Address) pushed
            | Some location ↦ store_extended_steps (knowing context.site facts) (the_goal Address) location
                pushed
          ]) last to
          → Goes Byte Address
      by None told stands = byte_to_word_at refers small stands
      by (Some (locations.Static place)) told stands = at_static place told stands
      by (Some (locations.Frame variable offset)) told stands =
          by_near variable offset told
          (word_near (knowing context.site facts) (locations.Frame variable offset) pushed) refl stands

-- The law of stores, for each target.
pub store_does :
    (context : Context) {facts last : Facts} {pushed from to : ℕ} (target : Target) (is_wanted : Bool)
    → IsSound context
    → StepsStand context (PartDoes context) facts from
    (store_steps (knowing context.site facts) target is_wanted pushed) last to
    → StoreDoes context facts target is_wanted pushed from last to
store_does context (Sent of port) is_wanted sound stand bound number value tree node types small =
    send_law is_wanted sound stand bound number value tree node types small
store_does context {facts = facts} {last = last} {pushed = pushed} {from = from} {to = to}
    (Stored of scalar reference) is_wanted sound stand bound number value tree
    (IsStoredIn {part = part} is) types small =
    subst (λ (given : ScalarType). Carries context facts pushed (2 + 2 * height_of_reference part) 1 from to
    (InRegister given number)
    (λ s. then_do (located_in context part s)
    (λ place t. write_scalar context.activation.around.program scalar place (as_type scalar number) t))
    (IsStored context last given is_wanted number)) types.0
    (by of scalar (subst (λ (given : ScalarType). number < values_of given) (sym types.0) small) types.1
    stand)
  where
    by : (of scalar : ScalarType)
        → number < values_of of
        → RefersToScalar context.typed context.within scalar part
        → StepsStand context (PartDoes context) facts from
        (goal_steps (knowing context.site facts) of (goal_of (knowing context.site facts) scalar reference)
        is_wanted pushed) last to
        → Carries context facts pushed (2 + 2 * height_of_reference part) 1 from to (InRegister of number)
        (λ s. then_do (located_in context part s)
        (λ place t. write_scalar context.activation.around.program scalar place (as_type scalar number) t))
        (IsStored context last of is_wanted number)
    by Byte Byte less refers stands =
        byte_goes context facts last reference pushed from to bound number part is_wanted sound is
        types.2 refers less stands
    by Byte Address less refers stands =
        byte_to_word_goes context facts last reference pushed from to bound number part is_wanted sound is
        types.2 refers less stands
    by Address Byte less refers stands =
        low_byte_goes context facts last reference pushed from to bound number part is_wanted sound is
        types.2 refers stands
    by Address Address less refers stands =
        word_goes_to context facts last reference pushed from to bound number part is_wanted sound is
        types.2 refers less stands
