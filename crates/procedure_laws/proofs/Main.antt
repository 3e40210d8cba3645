-- The main program, from its start on.
use Rattle.procedure_laws.proofs.Prelude.{◌≡◌, ℕ, suc, ◌+◌, ◌-◌, ◌*◌, ◌≤◌, Bool, true, false, List, [], ◌∷◌, ◌++◌, length, refl, sym, ap, subst, arith, frame_bytes, InSegment, charge_of, height_of_list, TypedProcedure, WithinMain, done_list, later_by, Ended, Flow, Gave, Jumped, More, Onward, Outcome, Outside, Returned, SourceState, Stopped, main_done, Hlt, Sp, Running, HoldBytes, Registers, State, wrap, AtTarget, LoadPair, word_of, TreeModule, HasBody, reaches_end_of_list, nodes_of, IsReady, IsThere, LiesWell, Loaded, Owns, Shares, Does, IsHalted, IsLeft, Lands, at_place, plain_first, word_first, does_without_step, keeps_all, AreThere, both_there, place_at, no_facts_hold, no_facts, IsListCarriedOut, then_does_where, BodyContext, IsSoundBody, Leaves, CallsAreKnown, Entries, activation_in, body_in, main_shape, MainStands, ModuleCode, ModuleLies, loaded_by, surroundings_in, with_tree, CallsOfModuleFit, ListsAreDone, no_jump, given_again}
use Rattle.object_modules.specs.declared.segment.Segment.TheVariants.{Stack}
use Rattle.asm8080.specs.declared.item.Item.TheVariants as items
use Rattle.code_meaning.proofs.Standing.{after_word}
use Rattle.procedure_laws.specs.Main.{EndsAs}
use Rattle.procedure_laws.proofs.Trees.{lies_anywhere}
use Rattle.procedure_laws.proofs.CallInstructions.{charged_does}
use Rattle.treecode_laws.proofs.Labels.{main_labels_differ}
use Rattle.procedure_laws.proofs.ProcedureCalls.{charge_is}
use Rattle.procedure_laws.proofs.Soundness.{body_sound, context_sound, main_planned, static_lies, there_in}
use Rattle.procedure_laws.proofs.Ways.{IsLeftBy, LeavesBy, body_left}

-- the machine halted where the source ended
abbrev pub HasHalted : (loaded : Loaded) → Flow → SourceState → State → Type 0
HasHalted loaded flow t end = IsHalted loaded t end

-- what follows a part knows what the part gave
gives_where :
    {A : Type 0} {loaded : Loaded} {budget : ℕ} {from : State} (outcome : Outcome A)
    {Middle Good : A → SourceState → State → Type 0}
    → Does loaded budget 0 from outcome Middle
    → ((found : A) (t : SourceState) (end : State) → outcome ≡ Gave found t
    → Middle found t end → t.budget ≤ budget
    → Does loaded t.budget 0 end (Gave found t) Good)
    → Does loaded budget 0 from outcome Good
gives_where {A = A} {loaded = loaded} {budget = budget} {from = from} outcome {Middle = Middle}
    {Good = Good} one rest =
    subst (λ (given : Outcome A). Does loaded budget 0 from given Good) (given_again outcome)
    (then_does_where outcome {go = λ found t. Gave found t} one rest)

end_word : (address level : ℕ) → wrap address ≡ wrap level → wrap (0 + address) ≡ wrap level
end_word address level same = omega (arith, same)

main_goes :
    (code : ModuleCode) (entries : Entries) (start budget room : ℕ) (s : SourceState)
    (r : Registers) (memory : List ℕ)
    → ModuleLies code entries
    → CallsAreKnown code.program code.image (later_by (suc budget)) budget entries
    → ListsAreDone
    → CallsOfModuleFit code (suc budget)
    → (stands : MainStands code start)
    → stands.body.tree ≡ code.tree
    → s.budget ≤ budget
    → s.frame ≡ []
    → room ≤ code.program.placement.stack.len
    → Shares code.program code.image s.memory memory
    → HoldBytes r
    → Does (loaded_by code) s.budget 0 (at_place start r memory s.events)
    (main_done budget code.typed (surroundings_in code room) s) (HasHalted (loaded_by code))
main_goes code entries start budget room s r memory lies known lists fit stands one_tree below no_frame
    enough shares bytes =
    charged_does (charge_of code.typed.main) (surroundings_in code room) s
    (λ within t. done_list (later_by (suc budget)) within code.typed.main.body t) (λ fits. runs fits)
  where
    module_main : TypedProcedure
    module_main = code.typed.main

    level : ℕ
    level = code.program.placement.stack.start + code.program.placement.stack.len

    runs : charge_of code.typed.main ≤ room
        → Does (loaded_by code) s.budget 0 (at_place start r memory s.events)
        (done_list (later_by (suc budget)) (surroundings_in code (room - charge_of code.typed.main))
        code.typed.main.body s)
        (HasHalted (loaded_by code))
    runs fits =
        word_first r well shares.code at_start
        (subst (λ (word : ℕ).
        Does (loaded_by code) s.budget 0 (at_place (start + 3) (record r { sp = word }) memory s.events)
        (done_list (later_by (suc budget)) (surroundings_in code (room - charge_of code.typed.main))
        code.typed.main.body s) (HasHalted (loaded_by code))) (sym word_is)
        (gives_where
        (done_list (later_by (suc budget)) (surroundings_in code (room - charge_of code.typed.main))
        code.typed.main.body s)
        (lists at no_facts code.tree.now.main.body stands.statements stands.last
        (start + 3) parts.middle sound
        stands.list_written parts.first (length (nodes_of code.tree.now).statements) code.typed.main.body
        lowered.body lies.types.main lies.jumps.main.stands memory s
        (record r { sp = wrap (code.program.placement.stack.start + code.program.placement.stack.len) })
        memory
        (omega (arith, below))
        (record { depth = omega arith; enough = omega (arith, fits, charge, enough); even = refl }) ready
        no_facts_hold)
        (λ flow t end gave leaves spent.
        by_flow flow t end
        (subst (λ (outcome : Outcome Flow).
        IsLeftBy (record { reaches = reaches_end; returns = false; labels = [] }) outcome) gave left)
        leaves)))
      where
        inner : ℕ
        inner = room - charge_of code.typed.main

        well : LiesWell (activation_in code (room - charge_of code.typed.main)
            (main_shape code.program.placement.stack.start
            (code.program.placement.stack.start + code.program.placement.stack.len)))
        well =
            static_lies code entries (room - charge_of code.typed.main) code.program.placement.stack.start
            (code.program.placement.stack.start + code.program.placement.stack.len) 0 lies (omega arith)
            (omega arith) (omega arith)

        at : BodyContext
        at =
            body_in code WithinMain stands.body code.typed.main (suc budget) (suc budget)
            (room - charge_of code.typed.main)
            (main_shape code.program.placement.stack.start
            (code.program.placement.stack.start + code.program.placement.stack.len))

        lowered : HasBody (nodes_of code.tree.now) code.storage code.tree.now.main code.typed.main
        lowered = lies.lowered.main

        charge : charge_of code.typed.main
            ≡ 10 + 2 * length code.typed.main.parameters + code.typed.main.frame_bytes
            + 2 * height_of_list code.typed.main.body
        charge = charge_is code.typed.main

        at_start : IsThere (activation_in code (room - charge_of code.typed.main)
            (main_shape code.program.placement.stack.start
            (code.program.placement.stack.start + code.program.placement.stack.len)))
            (items.WithWord (LoadPair Sp) (AtTarget (InSegment Stack) 0)
            ∷ (stands.statements ++ (items.Plain Hlt ∷ []))) start stands.to
        at_start =
            there_in code (room - charge_of code.typed.main)
            (main_shape code.program.placement.stack.start
            (code.program.placement.stack.start + code.program.placement.stack.len)) stands.there

        parts : AreThere (activation_in code (room - charge_of code.typed.main)
            (main_shape code.program.placement.stack.start
            (code.program.placement.stack.start + code.program.placement.stack.len)))
            stands.statements (items.Plain Hlt ∷ []) (start + 3) stands.to
        parts = both_there stands.statements (items.Plain Hlt ∷ []) (after_word at_start)

        word_is : word_of code.layout (AtTarget (InSegment Stack) 0)
            ≡ wrap (code.program.placement.stack.start + code.program.placement.stack.len)
        word_is =
            end_word (code.layout.address_of (InSegment Stack))
            (code.program.placement.stack.start + code.program.placement.stack.len) lies.stack_end

        ready : IsReady (activation_in code (room - charge_of code.typed.main)
            (main_shape code.program.placement.stack.start
            (code.program.placement.stack.start + code.program.placement.stack.len)))
            (code.program.placement.stack.start + code.program.placement.stack.len) memory s.memory s.frame
            (record r { sp = wrap (code.program.placement.stack.start + code.program.placement.stack.len) })
            memory
        ready = record {
          pointer = refl;
          registers =
              record { a = bytes.a; b = bytes.b; c = bytes.c; d = bytes.d; e = bytes.e; h = bytes.h; l = bytes.l };
          shares = shares;
          frame_lies = record {
            sizes = λ object.
                ap (λ (frame : List (List ℕ)). length (frame_bytes frame object)) no_frame;
            bytes = λ object offset within. absurd (omega (arith, within));
          };
          kept = keeps_all (Owns (activation_in code (room - charge_of code.typed.main)
              (main_shape code.program.placement.stack.start
              (code.program.placement.stack.start + code.program.placement.stack.len)))
              (code.program.placement.stack.start + code.program.placement.stack.len)) memory;
        }

        sound : IsSoundBody (body_in code WithinMain stands.body code.typed.main (suc budget) (suc budget)
            (room - charge_of code.typed.main)
            (main_shape code.program.placement.stack.start
            (code.program.placement.stack.start + code.program.placement.stack.len)))
        sound =
            body_sound code WithinMain stands.body code.typed.main (suc budget) (suc budget)
            (room - charge_of code.typed.main)
            (main_shape code.program.placement.stack.start
            (code.program.placement.stack.start + code.program.placement.stack.len)) one_tree tt
            (omega arith) (main_labels_differ code.typed lies.jumps)
            (context_sound code entries WithinMain stands.body.frame (suc budget) budget
            (room - charge_of code.typed.main)
            (main_shape code.program.placement.stack.start
            (code.program.placement.stack.start + code.program.placement.stack.len)) lies known
            (omega arith) well
            (main_planned code stands.body.frame (suc budget) (suc budget) (room - charge_of code.typed.main)
            code.program.placement.stack.start
            (code.program.placement.stack.start + code.program.placement.stack.len))
            (fit WithinMain stands.body.frame (suc budget) (room - charge_of code.typed.main)
            (main_shape code.program.placement.stack.start
            (code.program.placement.stack.start + code.program.placement.stack.len))))

        reaches_end : Bool
        reaches_end =
            reaches_end_of_list (nodes_of code.tree.now).homes code.storage true
            code.typed.main.body

        left : IsLeftBy (record { reaches = reaches_end; returns = false; labels = [] })
            (done_list (later_by (suc budget)) (surroundings_in code (room - charge_of code.typed.main))
            code.typed.main.body s)
        left =
            body_left code.typed WithinMain (nodes_of code.tree.now) code.storage (place_at code.layout)
            (surroundings_in code (room - charge_of code.typed.main))
            (lies.resolves (room - charge_of code.typed.main)) lies.lists (suc budget) code.typed.main.body s
            lies.jumps.main.closed lies.jumps.main.stands lies.types.main

        by_flow : (flow : Flow) (t : SourceState) (end : State)
            → LeavesBy (record { reaches = reaches_end; returns = false; labels = [] }) flow
            → Leaves (body_in code WithinMain stands.body code.typed.main (suc budget) (suc budget)
            (room - charge_of code.typed.main)
            (main_shape code.program.placement.stack.start
            (code.program.placement.stack.start + code.program.placement.stack.len)))
            memory parts.middle stands.last s.budget flow t end
            → Does (loaded_by code) t.budget 0 end (Gave flow t) (HasHalted (loaded_by code))
        by_flow Onward t end by_way leaves =
            let comes = leaves.comes in
            subst (λ (state : State).
            Does (loaded_by code) t.budget 0 state (Gave Onward t) (HasHalted (loaded_by code)))
            (sym comes.is_at)
            (plain_first comes.r well comes.ready.shares.code parts.second
            (does_without_step (record {
              left = record { status_is = refl; events_are = refl };
              shares = comes.ready.shares;
            })))
        by_flow (Returned value) t end by_way leaves = let bad : false ≡ true = by_way in absurd cc
        by_flow (Jumped label) t end by_way leaves = absurd (no_jump label by_way)

-- wherever its tree code lies
pub main_does :
    (code : ModuleCode) (entries : Entries) (start budget room : ℕ) (s : SourceState)
    (r : Registers) (memory : List ℕ)
    → ModuleLies code entries
    → CallsAreKnown code.program code.image (later_by (suc budget)) budget entries
    → ListsAreDone
    → CallsOfModuleFit code (suc budget)
    → MainStands code start
    → s.budget ≤ budget
    → s.frame ≡ []
    → room ≤ code.program.placement.stack.len
    → Shares code.program code.image s.memory memory
    → HoldBytes r
    → Does (loaded_by code) s.budget 0 (at_place start r memory s.events)
    (main_done budget code.typed (surroundings_in code room) s) (HasHalted (loaded_by code))
main_does code entries start budget room s r memory lies known lists fit stands below no_frame
    enough shares bytes =
    main_goes (with_tree code stands.body.tree) entries start budget room s r memory
    (lies_anywhere code entries stands.body.tree stands.tree lies) known lists fit
    (record {
      body = stands.body;
      tree = refl;
      is_main =
          subst (λ (one : TreeModule). stands.body.procedure.now ≡ one.main) (sym stands.tree) stands.is_main;
      frame = stands.frame;
      statements = stands.statements;
      last = stands.last;
      list_written =
          subst (λ (one : TreeModule). IsListCarriedOut stands.body code.called no_facts one.main.body
          stands.statements stands.last)
          (sym stands.tree) stands.list_written;
      to = stands.to;
      there = stands.there;
    })
    refl below no_frame enough shares bytes

-- the machine ends as the source does, by what is done
pub ends_as :
    (loaded : Loaded) (budget : ℕ) (from : State) (outcome : Outcome Flow)
    → Does loaded budget 0 from outcome (HasHalted loaded)
    → EndsAs loaded budget from outcome
ends_as loaded budget from (Gave flow t) does =
    let told : Lands loaded.program.script budget 0 from t.budget (IsHalted loaded t) = does.told in
    record { count = told.count; end = told.end; run = told.run; enough = omega arith; is_good = told.is_good }
ends_as loaded budget from (Stopped Ended t) does =
    let told : Lands loaded.program.script budget 0 from t.budget (IsHalted loaded t) = does.told in
    record { count = told.count; end = told.end; run = told.run; enough = omega arith; is_good = told.is_good }
ends_as loaded budget from (Stopped More t) does =
    let told : Lands loaded.program.script budget 0 from 0 (IsLeft Running t.events) = does.told in
    let paid = told.paid in
    record { count = told.count; end = told.end; run = told.run; enough = omega (arith, paid); is_good = told.is_good }
ends_as loaded budget from (Stopped (Outside reason) t) does = tt

-- For each budget the machine ends as the source does.
pub main_runs :
    (code : ModuleCode) (entries : Entries) (start budget room : ℕ) (s : SourceState)
    (r : Registers) (memory : List ℕ)
    → ModuleLies code entries
    → CallsAreKnown code.program code.image (later_by (suc budget)) budget entries
    → ListsAreDone
    → CallsOfModuleFit code (suc budget)
    → MainStands code start
    → s.budget ≡ budget
    → s.frame ≡ []
    → room ≤ code.program.placement.stack.len
    → Shares code.program code.image s.memory memory
    → HoldBytes r
    → EndsAs (loaded_by code) budget (at_place start r memory s.events)
    (main_done budget code.typed (surroundings_in code room) s)
main_runs code entries start budget room s r memory lies known lists fit stands is no_frame
    enough shares bytes =
    ends_as (loaded_by code) budget (at_place start r memory s.events)
    (main_done budget code.typed (surroundings_in code room) s)
    (subst (λ (left : ℕ).
    Does (loaded_by code) left 0 (at_place start r memory s.events)
    (main_done budget code.typed (surroundings_in code room) s) (HasHalted (loaded_by code))) is
    (main_does code entries start budget room s r memory lies known lists fit stands
    (omega (arith, is)) no_frame enough
    shares bytes))
