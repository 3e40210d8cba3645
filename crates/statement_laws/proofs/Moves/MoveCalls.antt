-- The call of the routine of MOVE.
use Rattle.statement_laws.proofs.Prelude.{◌≡◌, ℕ, ◌+◌, ◌-◌, ◌<◌, ◌≤◌, true, List, [], ◌∷◌, refl, sym, ap, subst, ◌∙◌, arith, MEMORY_SIZE, IsIn, is_declared, SourceState, Outcome, Gave, then_do, Call, bytes_of, Registers, State, word, wrap, CallTo, InstructionStands, Keeps, below, Move, BlockMisses, HasReturned, IsInBlock, Returns, copied, moved, IsReady, IsVariable, Does, Loaded, loaded_of, Lands, Told, at_place, told_on, stands_now, no_facts_hold, bytes_alike, stands_in, Facts, CallRoutine, no_facts, jump_item, label_of_routine, Context, IsSound, RoutineIsAt, RoutineThere, NoneThere, in_memory, machine_is, ready_after_routine, twice_wrapped, bytes_at_place, Stage, does_same, loaded_in, wrapped_once, wrapped_small}
use Rattle.mem80.specs.declared.range.Range.{Range}
use Rattle.statement_laws.proofs.Loops.LoopCode.{Steps}
use Rattle.statement_laws.proofs.Moves.MovedBlocks.{Moved, MovesAll, MovesOutside, copied_ready, declared_in_block, moved_is, variable_in_block}

-- what is told of what goes outside
outside_told :
    {A : Type 0} {loaded : Loaded} {budget : ℕ} {from : State}
    {Good : A → SourceState → State → Type 0}
    (reason : Rattle.meaning.specs.declared.reason.Reason.Reason) (t : SourceState) (outcome : Outcome A)
    → outcome ≡ Rattle.meaning.specs.Outcomes.Stopped (Rattle.meaning.specs.Outcomes.Outside reason) t
    → Does loaded budget 0 from outcome Good
outside_told reason t outcome same = does_same _ same (record { told = tt })

-- BC is the count, DE the source and HL the destination: all is copied
pub move_then :
    {A : Type 0} {context : Context} {top pushed need from to : ℕ} {base : List ℕ} {t : SourceState}
    {facts last : Facts}
    {r : Registers} {memory : List ℕ} {Good : A → SourceState → State → Type 0}
    (count source destination : ℕ) (go : Unit {0} → SourceState → Outcome A)
    → IsSound context
    → 2 ≤ need
    → word r.b r.c ≡ count
    → word r.d r.e ≡ source
    → word r.h r.l ≡ destination
    → Steps context facts from (CallRoutine Move ∷ []) last to
    → Stage context top pushed need base t facts r memory
    → ((u : SourceState) (now : Registers) (memory_now : List ℕ)
    → Stage context top pushed need base u last now memory_now
    → Does (loaded_in context) u.budget 0 (at_place to now memory_now u.events) (go tt u) Good)
    → Does (loaded_in context) t.budget 0 (at_place from r memory t.events)
    (then_do (moved context.activation.around.program count source destination t) go) Good
move_then {context = context} {top = top} {pushed = pushed} {need = need} {from = from} {base = base} {t = t}
    {r = r} {memory = memory} {Good = Good} count source destination go sound two bc de hl
    (RoutineThere has there NoneThere) stage next =
    by (moved_is context.activation.around.program count source destination t)
  where
    by : Moved context.activation.around.program count source destination t
        → Does (loaded_in context) t.budget 0 (at_place from r memory t.events)
        (then_do (moved context.activation.around.program count source destination t) go) Good
    by (MovesOutside reason u same) =
        outside_told reason u
        (then_do (moved context.activation.around.program count source destination t) go)
        (ap (λ (one : Outcome (Unit {0})). then_do one go) same)
    by (MovesAll same declared variables) =
        let activation = context.activation in
        let script = activation.around.program.script in
        let loaded = loaded_of activation in
        let lies = sound.lies in
        let ready = stage.ready in
        let depth = stage.room.depth in
        let enough = stage.room.enough in
        let bottom = lies.bottom in
        let above = lies.above in
        let stack = lies.placed.stack_in_memory in
        let fits = lies.placed.code_in_memory in
        let start : activation.floor + 2 ≤ top = omega (arith, enough, two) in
        let under : top ≤ activation.level = omega (arith, depth) in
        let limit : top ≤ MEMORY_SIZE = omega (arith, under, above, stack) in
        let entry = activation.layout.place_of (label_of_routine context.site Move).index in
        let found : RoutineIsAt activation Move entry = sound.routines Move has in
        let here = found.high in
        let least = found.low in
        let ends : found.to ≤ MEMORY_SIZE = omega (arith, here, fits) in
        let s : State = at_place from r memory t.events in
        let code : Range = record { start = entry; len = found.to - entry } in
        let some = found.has_bytes in
        let call : InstructionStands memory (wrap from) (Call entry) =
        subst (λ (target : ℕ). InstructionStands memory (wrap from) (Call target))
        (in_memory entry found.to (activation.around.program.placement.code.start
        + activation.around.program.placement.code.len) some here fits)
        (bytes_alike memory (bytes_of (Call (wrap entry))) from (wrap from) (wrapped_once from)
        (stands_now activation memory (jump_item CallTo (label_of_routine context.site Move) ∷ [])
        from (from + 3) lies
        ready.shares.code there).0) in
        let stack_missed : (address : ℕ) → is_declared activation.around.program address ≡ true
        → IsIn address (below top 2) → ⊥ =
        λ address is_there inside.
        let low : top - 2 ≤ address = inside.0 in
        let high : address < top - 2 + 2 = inside.1 in
        lies.placed.stack_free address is_there (omega (arith, start, low, bottom))
        (omega (arith, start, high, under, above)) in
        let source_misses : BlockMisses (word r.b r.c) (word r.d r.e) (below top 2) =
        λ address block inside.
        stack_missed address
        (subst (λ (n : ℕ). is_declared activation.around.program n ≡ true)
        (ap (λ (n : ℕ). wrap (n + block.0)) (sym de) ∙ sym block.2)
        (declared_in_block activation.around.program count source block.0
        (subst (λ (n : ℕ). block.0 < n) bc block.1) declared)) inside in
        let copy_variable : (address : ℕ) → IsInBlock (word r.b r.c) (word r.h r.l) address
        → IsVariable activation.around.program address =
        λ address block.
        subst (λ (n : ℕ). IsVariable activation.around.program n)
        (ap (λ (n : ℕ). wrap (n + block.0)) (sym hl) ∙ sym block.2)
        (variable_in_block activation.around.program count destination block.0
        (subst (λ (n : ℕ). block.0 < n) bc block.1) variables) in
        let returns : Returns script Move top s =
        found.is_routine found.layout entry found.to script top s ends
        (stands_in found.layout activation.around.program.placement.code activation.image memory
        found.items entry found.to
        fits least here ready.shares.code found.stands)
        (record {
          running = refl;
          place = wrapped_small from;
          registers = bytes_at_place (wrap from) r ready.registers;
          memory = ready.shares.is_memory;
          call = call;
          stack = record { limit = limit; pointer = ready.pointer };
          room = omega (arith, start);
          apart = λ meet.
              let address = meet.0 in
              let in_code : IsIn address code = meet.1 in
              let in_stack : IsIn address (below top 2) = meet.2 in
              let one : entry ≤ address = in_code.0 in
              let other : address < entry + (found.to - entry) = in_code.1 in
              let low : top - 2 ≤ address = in_stack.0 in
              let high : address < top - 2 + 2 = in_stack.1 in
              lies.placed.apart address (omega (arith, one, least)) (omega (arith, other, here, some))
              (omega (arith, start, low, bottom)) (omega (arith, start, high, under, above));
          blocks_miss_stack = (
            source_misses,
            λ address block inside. stack_missed address (copy_variable address block).0 inside,
          );
          copy_misses_code = λ address block inside.
              let in_code : IsIn address code = inside in
              let one : entry ≤ address = in_code.0 in
              let other : address < entry + (found.to - entry) = in_code.1 in
              lies.placed.code_free address (copy_variable address block) (omega (arith, one, least))
              (omega (arith, other, here, some));
        }) in
        let after = returns.after in
        let back : HasReturned Move top s after = returns.returned in
        let is_at : after ≡ at_place (from + 3) after.registers after.memory t.events =
        machine_is after (from + 3) t.events back.running (back.place ∙ twice_wrapped from) back.events in
        let u : SourceState = record t { memory = copied count source destination t.memory } in
        let ready_copied : IsReady activation top base u.memory t.frame r
        (copied count source destination memory) =
        copied_ready activation top base t.frame r count source destination t.memory memory lies
        declared variables ready in
        let kept : Keeps (λ address. IsIn address (below top 2))
        (copied count source destination memory) after.memory =
        subst (λ (bytes : List ℕ). Keeps (λ address. IsIn address (below top 2)) bytes after.memory)
        (ap (λ (n : ℕ). copied n (word r.d r.e) (word r.h r.l) memory) bc
        ∙ ap (λ (n : ℕ). copied count n (word r.h r.l) memory) de
        ∙ ap (λ (n : ℕ). copied count source n memory) hl) back.memory in
        let going_on : Stage context top pushed need base u no_facts after.registers after.memory = record {
          below = stage.below;
          room = stage.room;
          ready =
              ready_after_routine activation top pushed need base u.memory
              (copied count source destination memory) after.memory t.frame r
              after.registers lies stage.room two ready_copied back.stack back.registers back.memory_is kept;
          known = no_facts_hold;
        } in
        let does = next u after.registers after.memory going_on in
        let run : Lands script t.budget 0 s t.budget (λ (end : State). end ≡ after) = record {
          count = returns.count;
          end = after;
          run = returns.run;
          paid = omega arith;
          spent = omega arith;
          is_good = refl;
        } in
        does_same (go tt u) (ap (λ (one : Outcome (Unit {0})). then_do one go) same)
        (record {
          told =
              told_on loaded run t.budget 0 (go tt u) Good (omega arith) (omega arith)
              (subst (λ (end : State). Told loaded t.budget 0 end (go tt u) Good) (sym is_at) does.told);
        })
