-- The CALL instruction: where the code from entries on does what calls mean, so does code from a CALL on.
use Rattle.procedure_laws.proofs.Prelude.{◌≡◌, ℕ, suc, ◌+◌, ◌-◌, ◌*◌, ◌<◌, ◌≤◌, ◌==◌, inl, inr, Bool, true, false, if◌then◌else◌, List, [], ◌∷◌, length, slice_set, nat_lt, Option, refl, sym, ap, subst, ◌∙◌, arith, ltb-false, option_map_or, eqb-true, eqb-false, MEMORY_SIZE, byte_at, Event, ScalarType, Byte, Address, charge_of, TypedModule, TypedProcedure, Within, InProgram, Stack, Surroundings, called, called_for, callee_in, charged, entered, later_by, procedure_at, SourceState, More, Outside, Outcome, Gave, Stopped, taking_one, Call, Running, act, Registers, State, high_byte, low_byte, two_less, wrap, running, step_of, CallTo, word_of, Keeps, one_below, pushed, pushed_is_pushed, pushed_keeps, two_below, Bor, FramePlan, Activation, Arrives, IsReady, IsThere, LiesWell, Owns, FrameLies, Does, Loaded, IsLeft, Lands, at_place, word_step, after_paid_step, does_without_step, landed, keeps_both, keeps_wider, owns_more, ready_after_push, ArgumentsLie, CallsDo, InRegister, InWord, ResultLies, bytes_pushed, does_same, gives_then, CallsAreKnown, ComesBack, Entries, IsOfCall, ReturnLies, Shape, activation_in, context_in, ModuleCode, loaded_by, ModuleLies, surroundings_in, push_keeps}
use Rattle.meaning.proofs.AgreementStatements.{call_is}
use Rattle.asm8080.specs.declared.item.Item.TheVariants as items
use Rattle.procedure_laws.proofs.Callees.{IsCallee, callee_of}
use Rattle.procedure_laws.proofs.Numbers.{after_one_less, two_less_one}

-- arguments lie where they do while the bytes above the stack pointer, A and HL stay
pub register_kept : (scalar : ScalarType) (value : ℕ) (r now : Registers)
    → now.a ≡ r.a → now.h ≡ r.h → now.l ≡ r.l → InRegister scalar value r → InRegister scalar value now
register_kept Byte value r now a h l is = a ∙ is
register_kept Address value r now a h l is = (h ∙ is.0, l ∙ is.1)

pub word_kept : (scalar : ScalarType) (value address : ℕ) (memory ended : List ℕ)
    → byte_at ended address ≡ byte_at memory address
    → byte_at ended (address + 1) ≡ byte_at memory (address + 1)
    → InWord scalar value memory address → InWord scalar value ended address
word_kept Byte value address memory ended low high is = high ∙ is
word_kept Address value address memory ended low high is = (low ∙ is.0, high ∙ is.1)

pub arguments_kept :
    (types : List ScalarType) (values : List ℕ) (top : ℕ) (r now : Registers) (memory ended : List ℕ)
    → now.a ≡ r.a → now.h ≡ r.h → now.l ≡ r.l
    → ((address : ℕ) → top ≤ address → byte_at ended address ≡ byte_at memory address)
    → ArgumentsLie types values top r memory
    → ArgumentsLie types values top now ended
arguments_kept [] [] top r now memory ended a h l stays lie = tt
arguments_kept [] (value ∷ values) top r now memory ended a h l stays lie = absurd lie
arguments_kept (scalar ∷ []) [] top r now memory ended a h l stays lie = absurd lie
arguments_kept (scalar ∷ []) (value ∷ []) top r now memory ended a h l stays lie =
    register_kept scalar value r now a h l lie
arguments_kept (scalar ∷ []) (value ∷ next ∷ values) top r now memory ended a h l stays lie = absurd lie
arguments_kept (scalar ∷ next ∷ scalars) [] top r now memory ended a h l stays lie = absurd lie
arguments_kept (scalar ∷ next ∷ scalars) (value ∷ values) top r now memory ended a h l stays lie = (
  word_kept scalar value (top + 2 * length scalars) memory ended
      (stays (top + 2 * length scalars) (omega arith))
      (stays (top + 2 * length scalars + 1) (omega arith)) lie.0,
  arguments_kept (next ∷ scalars) values top r now memory ended a h l stays lie.1,
)

entry_same : (entry word : ℕ) → word ≡ wrap entry → wrap (wrap entry) ≡ wrap entry
entry_same entry word same = omega arith

lower : (top : ℕ) → top ≤ MEMORY_SIZE → 2 ≤ top → top - 2 ≡ wrap (top - 2)
lower top limit room = omega arith

-- what CALL does at a logical stack pointer
call_does :
    (script : List (List ℕ)) (word entry place top : ℕ) (r : Registers) (memory : List ℕ)
    (events : List Event)
    → word ≡ wrap entry
    → r.sp ≡ wrap top
    → top ≤ MEMORY_SIZE
    → 2 ≤ top
    → act script (Call word) (at_place place r memory events)
    ≡ at_place entry (record r { sp = wrap (top - 2) }) (pushed top (wrap place) memory) events
call_does script word entry place top r memory events same pointer limit room =
    let back = wrap place in
    ap (λ n. running (record r { sp = two_less r.sp; pc = word })
    (slice_set (slice_set memory n (high_byte back)) (two_less r.sp) (low_byte back)) events)
    (one_below r.sp top pointer limit room)
    ∙ (ap (λ n. running (record r { sp = n; pc = word })
    (slice_set (slice_set memory (top - 1) (high_byte back)) n (low_byte back)) events)
    (two_below r.sp top pointer limit room)
    ∙ (ap (λ n. running (record r { sp = n; pc = word }) (pushed top back memory) events)
    (lower top limit room)
    ∙ ap (λ n. running (record r { sp = wrap (top - 2); pc = n }) (pushed top back memory) events) same))

-- a part that takes one of the budget: what follows may be paid by a step
taking_does :
    {A : Type 0} {loaded : Loaded} {Good : A → SourceState → State → Type 0} (from : ℕ) (r : Registers)
    (memory : List ℕ) (s : SourceState) (go : SourceState → Outcome A)
    → ((b : ℕ) → suc b ≡ s.budget
    → Does loaded (suc b) 0 (at_place from r memory s.events) (go (record s { budget = b })) Good)
    → Does loaded s.budget 0 (at_place from r memory s.events) (taking_one s go) Good
taking_does {A = A} {loaded = loaded} {Good = Good} from r memory s go rest =
    by_test (s.budget == 0) refl
  where
    by_test : (test : Bool) → (s.budget == 0) ≡ test
        → Does loaded s.budget 0 (at_place from r memory s.events)
        (if test then Stopped More s else go (record s { budget = s.budget - 1 })) Good
    by_test true none =
        let zero : s.budget ≡ 0 = eqb-true s.budget 0 none in
        record {
          told =
              subst (λ (budget : ℕ).
              Lands loaded.program.script budget 0 (at_place from r memory s.events) 0
              (IsLeft Running s.events))
              (sym zero)
              (landed loaded.program.script 0 (at_place from r memory s.events)
              (IsLeft Running s.events)
              (record { status_is = refl; events_are = refl }));
        }
    by_test false some =
        let paid = after_one_less s.budget (eqb-false s.budget 0 some) in
        subst (λ (budget : ℕ).
        Does loaded budget 0 (at_place from r memory s.events) (go (record s { budget = s.budget - 1 })) Good)
        paid (rest (s.budget - 1) paid)

-- where a charge finds room
pub charged_does :
    {A : Type 0} {loaded : Loaded} {budget : ℕ} {from : State}
    {Good : A → SourceState → State → Type 0}
    (charge : ℕ) (around : Surroundings) (s : SourceState) (go : Surroundings → SourceState → Outcome A)
    → (charge ≤ around.room → Does loaded budget 0 from
    (go (record around { room = around.room - charge }) s) Good)
    → Does loaded budget 0 from (charged charge around s go) Good
charged_does {A = A} {loaded = loaded} {budget = budget} {from = from} {Good = Good} charge around s go rest =
    by_test (nat_lt around.room charge) refl
  where
    by_test : (test : Bool) → nat_lt around.room charge ≡ test
        → Does loaded budget 0 from
        (if test then Stopped (Outside Stack) s else go (record around { room = around.room - charge }) s)
        Good
    by_test true less = record { told = tt }
    by_test false less =
        let enough = ltb-false around.room charge less in
        rest (omega (arith, enough))

least_charge : (found : TypedProcedure) → 10 ≤ charge_of found
unfolding charge_of
least_charge found = omega arith

-- what was pushed for a return
return_pushed : (top back : ℕ) (memory : List ℕ) → 2 ≤ top → top ≤ MEMORY_SIZE → length memory ≡ MEMORY_SIZE
    → ReturnLies (top - 2) back (pushed top (wrap back) memory)
return_pushed top back memory room limit size =
    let is = pushed_is_pushed top (wrap back) memory room limit size in
    record {
      low = is.low;
      high = ap (byte_at (pushed top (wrap back) memory)) (two_less_one top room) ∙ is.high;
    }

-- the bytes of a call below an activation are its own
call_owned :
    (activation : Activation) (floor above address : ℕ)
    → activation.floor ≤ floor
    → IsOfCall activation.around.program floor above address
    → Owns activation above address
call_owned activation floor above address low (inl variable) = inl variable
call_owned activation floor above address low (inr mine) =
    let from : floor ≤ address = mine.0 in inr (inl (omega (arith, low, from), mine.1))

-- a frame stays in a call below it
frame_stays :
    (activation : Activation) (floor above : ℕ) (frame : List (List ℕ)) (memory ended : List ℕ)
    → LiesWell activation
    → above ≤ activation.level
    → Keeps (IsOfCall activation.around.program floor above) memory ended
    → FrameLies activation frame memory
    → FrameLies activation frame ended
frame_stays activation floor above frame memory ended lies below kept frame_lies = record {
  sizes = frame_lies.sizes;
  bytes = λ object offset within.
      kept.bytes (activation.level + activation.distance object + offset)
      (λ mine. not_mine object offset within mine)
      ∙ frame_lies.bytes object offset within;
}
  where
    not_mine : (object offset : ℕ) → offset < activation.size object
        → IsOfCall activation.around.program floor above
        (activation.level + activation.distance object + offset)
        → ⊥
    not_mine object offset within (inl variable) =
        let inside = lies.inside object offset within in
        let low = lies.low in
        let bottom = lies.bottom in
        let high = lies.above in
        lies.placed.stack_free (activation.level + activation.distance object + offset) variable.0
        (omega (arith, low, bottom)) (omega (arith, inside, high))
    not_mine object offset within (inr mine) =
        let less : activation.level + activation.distance object + offset < above = mine.1 in
        omega (arith, less, below)

pub calls_do :
    (code : ModuleCode) (entries : Entries) (within : Within) (frame : Bor FramePlan) (bound number room : ℕ)
    (shape : Shape)
    → ModuleLies code entries
    → CallsAreKnown code.program code.image (later_by bound) number entries
    → suc number ≤ bound
    → LiesWell (activation_in code room shape)
    → CallsDo (context_in code within frame bound (suc number) room shape)
calls_do code entries within frame bound number room shape lies known bounded well procedure from top bytes
    heading values base s r memory is below there has few ready lie =
    does_same (called (later_by bound) callee.at values (surroundings_in code room) s) meant
    (taking_does from r memory s
    (λ t.
    option_map_or
    (λ (found : TypedModule × TypedProcedure).
    charged (charge_of found.1)
    (record (surroundings_in code room) { number_of_module = (callee.at).number_of_module }) t
    (λ around u. entered (later_by bound) found.0 (callee.at).number found.1 values around u))
    (procedure_at code.program.modules callee.at) (Gave 0 t))
    (λ b paid.
    does_same (charged (charge_of callee.found)
    (record (surroundings_in code room) { number_of_module = (callee.at).number_of_module })
    (record s { budget = b })
    (λ around u. entered (later_by bound) callee.typed (callee.at).number callee.found values around u))
    (found_is (record s { budget = b }))
    (charged_does (charge_of callee.found)
    (record (surroundings_in code room) { number_of_module = (callee.at).number_of_module })
    (record s { budget = b })
    (λ around u. entered (later_by bound) callee.typed (callee.at).number callee.found values around u)
    (λ fits.
    after_paid_step (step fits)
    (gives_then _ (entry b (omega (arith, paid, below)) fits)
    (λ found t end comes spent. does_without_step (arrives b found t end fits comes)))))))
  where
    callee : IsCallee code entries procedure heading
    callee = callee_of code entries procedure heading lies is

    activation : Activation
    activation = activation_in code room shape

    meant : called_for (later_by bound) (callee_in (surroundings_in code room) procedure) values
        (surroundings_in code room) s
        ≡ called (later_by bound) callee.at values (surroundings_in code room) s
    meant =
        ap (λ (at : Option InProgram). called_for (later_by bound) at values (surroundings_in code room) s)
        callee.meant
        ∙ call_is bound callee.at values (surroundings_in code room) s (omega (arith, below, bounded))

    found_is : (t : SourceState)
        → option_map_or
        (λ (found : TypedModule × TypedProcedure).
        charged (charge_of found.1)
        (record (surroundings_in code room) { number_of_module = (callee.at).number_of_module }) t
        (λ around u. entered (later_by bound) found.0 (callee.at).number found.1 values around u))
        (procedure_at code.program.modules callee.at) (Gave 0 t)
        ≡ charged (charge_of callee.found)
        (record (surroundings_in code room) { number_of_module = (callee.at).number_of_module }) t
        (λ around u. entered (later_by bound) callee.typed (callee.at).number callee.found values around u)
    found_is t =
        ap (λ (found : Option (TypedModule × TypedProcedure)).
        option_map_or
        (λ (found : TypedModule × TypedProcedure).
        charged (charge_of found.1)
        (record (surroundings_in code room) { number_of_module = (callee.at).number_of_module }) t
        (λ around u. entered (later_by bound) found.0 (callee.at).number found.1 values around u))
        found (Gave 0 t)) callee.there

    top_low : charge_of callee.found ≤ room → shape.floor + 10 ≤ top
    top_low fits =
        let least = least_charge callee.found in
        let enough = has.enough in
        omega (arith, least, enough, fits)

    top_high : top ≤ shape.level
    top_high = let depth = has.depth in omega (arith, depth)

    limit : top ≤ MEMORY_SIZE
    limit =
        let high = well.above in
        let stack = well.placed.stack_in_memory in
        omega (arith, top_high, high, stack)

    entry_place : ℕ
    entry_place = entries callee.at

    there_call : IsThere activation (items.WithWord CallTo callee.reference ∷ []) from (from + 3)
    there_call = subst (λ list. IsThere activation list from (from + 3)) callee.are there

    step : charge_of callee.found ≤ room
        → step_of code.program.script (at_place from r memory s.events)
        ≡ at_place (entries callee.at) (record r { sp = wrap (top - 2) })
        (pushed top (wrap (from + 3)) memory) s.events
    step fits =
        let low = top_low fits in
        word_step code.program.script activation CallTo callee.reference [] from (from + 3) r
        memory s.events well
        ready.shares.code there_call
        ∙ call_does code.program.script (word_of code.layout callee.reference) (entries callee.at)
        (from + 3) top r memory
        s.events callee.word ready.pointer limit (omega (arith, low))

    small : wrap (from + 3) < MEMORY_SIZE
    small = omega arith

    after_push : charge_of callee.found ≤ room
        → IsReady activation (top - 2) (pushed top (wrap (from + 3)) memory) s.memory s.frame
        (record r { sp = wrap (top - 2) }) (pushed top (wrap (from + 3)) memory)
    after_push fits =
        let low = top_low fits in
        ready_after_push activation top (wrap (from + 3)) base s.memory s.frame r memory well
        (omega (arith, low)) top_high
        small ready

    same_top : charge_of callee.found ≤ room → top - 2 + 2 ≡ top
    same_top fits = let low = top_low fits in omega (arith, low)

    entry : (b : ℕ) → b < number → charge_of callee.found ≤ room
        → Does (loaded_by code) b 0
        (at_place (entries callee.at) (record r { sp = wrap (top - 2) })
        (pushed top (wrap (from + 3)) memory) s.events)
        (entered (later_by bound) callee.typed (callee.at).number callee.found values
        (record { program = code.program; number_of_module = (callee.at).number_of_module; room = room - charge_of callee.found })
        (record s { budget = b }))
        (ComesBack code.program code.image (callee.found).result (top - 2 + 2 - room)
        (top - 2 + 2 + bytes_pushed values) (from + 3)
        (record s { budget = b }) (pushed top (wrap (from + 3)) memory))
    entry b less fits =
        known callee.at callee.typed callee.found callee.there callee.here room (top - 2) (from + 3) values
        (record s { budget = b }) (record r { sp = wrap (top - 2) })
        (pushed top (wrap (from + 3)) memory) less fits
        (record {
          shares = (after_push fits).shares;
          registers = (after_push fits).registers;
          pointer = refl;
          return_lies =
              return_pushed top (from + 3) memory (omega (arith, low)) limit ready.shares.is_memory.size;
          arguments =
              subst (λ (at : ℕ).
              ArgumentsLie (callee.found).parameter_types values at (record r { sp = wrap (top - 2) })
              (pushed top (wrap (from + 3)) memory)) (sym (same_top fits))
              (subst (λ (types : List ScalarType).
              ArgumentsLie types values top (record r { sp = wrap (top - 2) })
              (pushed top (wrap (from + 3)) memory))
              (sym callee.types)
              (arguments_kept heading.parameter_types values top r (record r { sp = wrap (top - 2) }) memory
              (pushed top (wrap (from + 3)) memory) refl refl refl
              (λ address above.
              pushed_keeps top (wrap (from + 3)) memory address (λ same. omega (arith, same, above, low))
              (λ same. omega (arith, same, above, low)))
              lie));
          low = (let bottom = well.bottom in omega (arith, enough, low, bottom));
          high = omega (arith, depth, few, high, low);
        })
      where
        low : shape.floor + 10 ≤ top
        low = top_low fits

        enough : shape.floor + room + 0 ≤ top
        enough = has.enough

        depth : top + bytes ≡ shape.level
        depth = has.depth

        high : shape.level + shape.whole ≤ code.program.placement.stack.start
            + code.program.placement.stack.len
        high = well.above

    arrives : (b found : ℕ) (t : SourceState) (end : State)
        → charge_of callee.found ≤ room
        → ComesBack code.program code.image (callee.found).result (top - 2 + 2 - room)
        (top - 2 + 2 + bytes_pushed values) (from + 3)
        (record s { budget = b }) (pushed top (wrap (from + 3)) memory) found t end
        → Arrives activation (top + bytes_pushed values) base (from + 3)
        (ResultLies heading.result) found t end
    arrives b found t end fits comes = record {
      r = comes.r;
      memory = comes.memory;
      is_at = comes.is_at;
      ready = record {
        pointer = comes.pointer ∙ ap wrap above_is;
        registers = comes.registers;
        shares = comes.shares;
        frame_lies =
            subst (λ (frame : List (List ℕ)). FrameLies activation frame comes.memory) (sym comes.frame)
            (frame_stays activation (top - 2 + 2 - room) (top + bytes_pushed values) s.frame
            (pushed top (wrap (from + 3)) memory) comes.memory
            well (omega (arith, depth, few)) kept (after_push fits).frame_lies);
        kept =
            keeps_both (Owns activation (top + bytes_pushed values)) base memory comes.memory
            (keeps_wider (Owns activation top) (Owns activation (top + bytes_pushed values)) base memory
            (owns_more activation top (top + bytes_pushed values) (omega arith)) ready.kept)
            (keeps_both (Owns activation (top + bytes_pushed values)) memory
            (pushed top (wrap (from + 3)) memory)
            comes.memory
            (keeps_wider (Owns activation top) (Owns activation (top + bytes_pushed values)) memory
            (pushed top (wrap (from + 3)) memory)
            (owns_more activation top (top + bytes_pushed values) (omega arith))
            (push_keeps activation top (wrap (from + 3)) memory (omega (arith, low))))
            (keeps_wider (IsOfCall code.program (top - 2 + 2 - room) (top + bytes_pushed values))
            (Owns activation (top + bytes_pushed values)) (pushed top (wrap (from + 3)) memory) comes.memory
            (λ address. call_owned activation (top - 2 + 2 - room) (top + bytes_pushed values) address
            (omega (arith, enough, low))) kept));
      };
      holds = subst (λ (result : Option ScalarType). ResultLies result found comes.r comes.memory)
          callee.result comes.lies;
    }
      where
        low : shape.floor + 10 ≤ top
        low = top_low fits

        depth : top + bytes ≡ shape.level
        depth = has.depth

        above_is : top - 2 + 2 + bytes_pushed values ≡ top + bytes_pushed values
        above_is = omega (arith, low)

        enough : shape.floor + room + 0 ≤ top
        enough = has.enough

        kept : Keeps (IsOfCall code.program (top - 2 + 2 - room) (top + bytes_pushed values))
            (pushed top (wrap (from + 3)) memory) comes.memory
        kept =
            subst (λ (above : ℕ).
            Keeps (IsOfCall code.program (top - 2 + 2 - room) above) (pushed top (wrap (from + 3)) memory)
            comes.memory) above_is comes.kept
