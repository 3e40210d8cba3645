-- A program on the machine does what its source does.
use Rattle.program_laws.proofs.Prelude.{◌≡◌, ℕ, suc, ◌+◌, ◌%◌, ◌<◌, ◌≤◌, Bool, true, false, not, cond, List, [], ◌∷◌, length, Option, Some, None, refl, sym, ap, subst, ◌∙◌, arith, All, IfSome, slice_get, find, count_by, if◌then◌else◌, position_or_len, option_map_or, lt-ltb, find_at, sum_by-cons, same_Some, recursion_from_All, IsMemory, MEMORY_SIZE, Image, ObjectModule, Event, IsScript, TypedModule, is_main, linked_modules, StartsAt, piece_base, main_starts, starting_memory, Decides-declared, of_all, starts_as, plan_of, IsInMemory, placement_of, starts_as_its_source, Program, Loaded, MayChange, Shares, HoldBytes, Registers, wrap, HasTypes, IsTypedCode, has_types, Surroundings, later_by, AllCallsAreKnown, CallsFollow, ModuleDoes, around_in, calls_known, start_place, ModulesAre, entries_of, ModuleIs, made_of, public_address, targets_of, PlacingPlan, Flow, Gave, Onward, Outcome, Stopped, Ended, More, Outside, SourceState, NeverOutside, main_done, number_of_main, source_outcome, source_run, running, state_after, Status, State, Arrived, EndsAs, IsHalted, IsLeft, Agrees, EndsAlike, ComesTo, ComesToHalt, Performs, zero-add, main_counted}
use Rattle.code_meaning.proofs.Owning.{keeps_all}
use Rattle.object_modules.specs.declared.segment.Segment.TheVariants as segments
use Rattle.program_laws.proofs.OneModule.{object_does, started}
use Rattle.program_laws.proofs.Linked.{are_entered, lies_in_memory, program_of}
use Rattle.program_laws.proofs.Agreeing.{agrees, ends_alike}

-- the first of a list that passes a test
record FirstThat {X : Type 0} (passes : X → Bool) (all : List X) : Type 0 where
  one : X
  found : find passes all ≡ Some one
  within : position_or_len passes all < length all
  holds : passes one ≡ true

first_that : {X : Type 0} (passes : X → Bool) (all : List X) → 1 ≤ count_by passes all → FirstThat passes all
first_that passes [] some = absurd (omega (arith, some))
first_that {X} passes (first ∷ others) some = by (passes first) refl (λ more. first_that passes others more)
  where
    by : (test : Bool) → passes first ≡ test → (1 ≤ count_by passes others → FirstThat passes others)
        → FirstThat passes (first ∷ others)
    by true is later = record {
      one = first;
      found = ap (λ (test : Bool). cond test (Some first) (find passes others)) is;
      within =
          subst (λ (test : Bool). cond (not test) (1 + position_or_len passes others) 0 < suc (length others))
          (sym is)
          (omega arith);
      holds = is;
    }
    by false is later =
        let counted : count_by passes (first ∷ others) ≡ count_by passes others =
        sum_by-cons (λ x. cond (passes x) 1 0) first others
        ∙ ap (λ (test : Bool). cond test 1 0 + count_by passes others) is
        ∙ zero-add (count_by passes others) in
        let rest = later (omega (arith, some, counted)) in
        let less = rest.within in
        record {
          one = rest.one;
          found = ap (λ (test : Bool). cond test (Some first) (find passes others)) is ∙ rest.found;
          within =
              subst (λ (test : Bool). cond (not test) (1 + position_or_len passes others) 0
              < suc (length others)) (sym is)
              (omega (arith, less));
          holds = rest.holds;
        }

-- what the machine comes to beside a run of the source
came :
    (script : List (List ℕ)) (least : ℕ) (start : State) (status : Status) (events : List Event)
    → Arrived script least start (IsLeft status events)
    → ComesTo script start least status events
came script least start status events arrived = record {
  count = arrived.count;
  enough = arrived.enough;
  status_is = ap (λ (state : State). state.status) (sym arrived.run) ∙ arrived.is_good.status_is;
  events_are = ap (λ (state : State). state.events) (sym arrived.run) ∙ arrived.is_good.events_are;
}

halts :
    (loaded : Loaded) (start : State) (t : SourceState)
    → Arrived loaded.program.script 0 start (IsHalted loaded t)
    → ComesToHalt loaded start t
halts loaded start t arrived = record {
  count = arrived.count;
  is_halted = subst (IsHalted loaded t) arrived.run arrived.is_good;
}

halts_in :
    (loaded : Loaded) (start : State) (s t : SourceState)
    → Arrived loaded.program.script 0 start (IsHalted loaded s)
    → s ≡ t
    → ComesToHalt loaded start t
halts_in loaded start s t arrived is = subst (ComesToHalt loaded start) is (halts loaded start s arrived)

performs :
    (loaded : Loaded) (start : State) (budget : ℕ) (outcome : Outcome Flow)
    → EndsAs loaded budget start outcome
    → Performs loaded start budget outcome
performs loaded start budget (Gave flow s) ends = record {
  ended = λ t is. halts_in loaded start s t ends is;
  more = λ is. let bad : Ended ≡ More = is in absurd cc;
}
performs loaded start budget (Stopped Ended s) ends = record {
  ended = λ t is. halts_in loaded start s t ends is;
  more = λ is. let bad : Ended ≡ More = is in absurd cc;
}
performs loaded start budget (Stopped More s) ends = record {
  ended = λ t is. absurd is;
  more = λ is. came loaded.program.script budget start _ s.events ends;
}
performs loaded start budget (Stopped (Outside reason) s) ends = record {
  ended = λ t is. absurd is;
  more = λ is. let bad : Outside reason ≡ More = is in absurd cc;
}

module _
    (plan : PlacingPlan) (modules : List TypedModule) (objects : List ObjectModule) (merged : ObjectModule)
    (image : Image) (before after : List ℕ) (is : IsInMemory plan modules objects merged image before after)
    (script : List (List ℕ)) (bytes : IsScript script) (is_memory : IsMemory after)
    (modules_are : ModulesAre plan modules objects merged before after)
    (events : List Event) (r : Registers) (registers : HoldBytes r)
  where
    abbrev program : Program
    program = program_of plan modules objects merged image before after is script

    abbrev loaded : Loaded
    loaded = record { program = program; image = after }

    -- each module is typed, and it is tree code
    typed_code : (number : ℕ) (typed : TypedModule)
        → slice_get modules number ≡ Some typed → IsTypedCode typed
    typed_code number typed there =
        let module_is = (modules_are.all number typed there).0 in
        subst IsTypedCode (same_Some module_is.typed typed (sym module_is.found ∙ there)) (record {
          types = module_is.sound.facts.types;
          storage = (made_of module_is).storage;
          tree = (made_of module_is).tree;
          lowered = (made_of module_is).lowered;
          numbers = module_is.sound.words.numbers;
        })

    types : HasTypes program
    types = has_types program is.joined is.globals bytes typed_code

    -- each module does what it says, by what calls do
    does_at : (number : ℕ) (module_is : ModuleIs plan modules objects merged before after number)
        → modules_are.at number ≡ Some module_is
        → ModuleDoes program after (entries_of modules_are) number module_is.typed
        (start_place (targets_of module_is) module_is.at.linked.object)
        (AllCallsAreKnown program after (entries_of modules_are))
    does_at number module_is at_is =
        object_does program number module_is.typed module_is.at.linked.object (targets_of module_is)
        (public_address plan merged) after module_is.sound
        (lies_in_memory plan modules objects merged image before after is number module_is script types)
        (entries_of modules_are)
        (are_entered plan modules objects merged image before after is modules_are number
        module_is script at_is)

    -- so all calls are known
    all_known : (bound number : ℕ) → number ≤ bound
        → AllCallsAreKnown program after (entries_of modules_are) (later_by bound) number
    all_known bound =
        calls_known program after (entries_of modules_are) bound
        (λ number typed there.
        let one = modules_are.all number typed there in
        subst (λ (typed : TypedModule).
        CallsFollow program after (entries_of modules_are) number typed bound
        (AllCallsAreKnown program after (entries_of modules_are)))
        (same_Some (one.0).typed typed (sym (one.0).found ∙ there))
        ((does_at number one.0 one.1).calls bound))

    shares : Shares program after (starting_memory modules (placement_of plan modules objects) before) after
    shares = record {
      is_memory = is_memory;
      size = (starts_as modules (placement_of plan modules objects) before is.lawful is.storable is.size).size
          ∙ is.size;
      declared = λ address declared.
          starts_as_its_source plan modules objects merged image before after is address
          ((Decides-declared modules (placement_of plan modules objects) address).0 declared);
      code = λ address inside. refl;
      others = keeps_all (MayChange program) after;
    }

    -- where the image starts
    starts : (number : ℕ) (module_is : ModuleIs plan modules objects merged before after number)
        → is_main module_is.typed ≡ true
        → image.start ≡ wrap (start_place (targets_of module_is) module_is.at.linked.object)
    starts number module_is main =
        let all : All (StartsAt (plan_of plan) image) (linked_modules objects) =
        main_starts objects merged (plan_of plan) image is.placed.merge is.placed.placed in
        let one : StartsAt (plan_of plan) image module_is.at.linked =
        of_all (StartsAt (plan_of plan) image) (linked_modules objects) number module_is.at.linked
        (recursion_from_All (StartsAt (plan_of plan) image) (linked_modules objects) all)
        module_is.at.found in
        let start_is = started module_is.typed module_is.at.linked.object module_is.sound main in
        subst (λ (start : Option ℕ). IfSome start (λ offset.
        image.start ≡ (piece_base (plan_of plan) module_is.at.linked.start segments.Code + offset)
        % MEMORY_SIZE)) start_is one
        ∙ ap (λ (start : Option ℕ).
        wrap (option_map_or (λ offset. piece_base (plan_of plan) module_is.at.linked.start segments.Code
        + offset) start 0))
        (sym start_is)

    main : FirstThat is_main modules
    main = first_that is_main modules (omega (arith, main_counted modules is.joined))

    main_at : slice_get modules (position_or_len is_main modules) ≡ Some main.one
    main_at = sym (find_at is_main modules) ∙ main.found

    number_is : number_of_main modules ≡ position_or_len is_main modules
    number_is =
        ap (λ (test : Bool). option_map_or (λ at. at)
        (if test then Some (position_or_len is_main modules) else None) 0)
        (lt-ltb (position_or_len is_main modules) (length modules) main.within)

    start_state : (budget : ℕ) → SourceState
    start_state budget = record {
      memory = starting_memory modules (placement_of plan modules objects) before;
      frame = [];
      events = events;
      budget = budget;
    }

    -- what the source comes to, for each budget
    abbrev outcomes : (budget : ℕ) → Outcome Flow
    outcomes budget =
        source_outcome modules (placement_of plan modules objects)
        (placement_of plan modules objects).stack.len
        before script events
        budget

    abbrev start : State
    start = running (record r { pc = image.start }) after events

    -- what the main program is carried out in, by a number of its module
    abbrev around : (number : ℕ) → Surroundings
    around number = around_in program number (placement_of plan modules objects).stack.len

    -- for each budget
    each_run : (budget : ℕ) → Performs loaded start budget (outcomes budget)
    unfolding start_state
    each_run budget =
        let number : ℕ = position_or_len is_main modules in
        let one = modules_are.all number main.one main_at in
        let module_is = one.0 in
        let same : main.one ≡ module_is.typed =
        same_Some main.one module_is.typed (sym main_at ∙ module_is.found) in
        let is_main_module : is_main module_is.typed ≡ true =
        subst (λ (typed : TypedModule). is_main typed ≡ true) same main.holds in
        let ends = (does_at number module_is one.1).main budget (placement_of plan modules objects).stack.len
        (start_state budget) r after is_main_module (all_known (suc budget) budget (omega arith)) refl refl
        (omega arith) shares registers in
        let outcome_is : outcomes budget
        ≡ main_done budget module_is.typed (around number) (start_state budget) =
        ap (λ (found : Option TypedModule).
        option_map_or (λ (typed : TypedModule). main_done budget typed
        (around (number_of_main modules)) (start_state budget))
        found (Gave Onward (start_state budget)))
        (main.found ∙ ap (λ (typed : TypedModule). Some typed) same)
        ∙ ap (λ (at : ℕ). main_done budget module_is.typed (around at) (start_state budget))
        number_is in
        performs loaded start budget (outcomes budget)
        (subst (EndsAs loaded budget start) (sym outcome_is)
        (subst (λ (pc : ℕ).
        EndsAs loaded budget (running (record r { pc = pc }) after events)
        (main_done budget module_is.typed (around number) (start_state budget)))
        (sym (starts number module_is is_main_module)) ends))

    module _
        (never : NeverOutside
        (λ (budget : ℕ).
        source_run modules (placement_of plan modules objects) (placement_of plan modules objects).stack.len
        before script events
        budget))
      where
        -- The image on the machine performs exactly the source's port reads and writes, and halts exactly if
        -- the source ends.
        pub program_does :
            Agrees
            (λ (budget : ℕ).
            source_run modules (placement_of plan modules objects)
            (placement_of plan modules objects).stack.len
            before script events
            budget)
            (λ (steps : ℕ). state_after script steps start)
        unfolding source_run
        program_does = agrees loaded start outcomes each_run never

        -- And it ends with the memory of the source.
        pub program_ends :
            EndsAlike modules (placement_of plan modules objects) outcomes
            (λ (steps : ℕ). state_after script steps start)
        unfolding source_run
        program_ends = ends_alike loaded start outcomes each_run never refl
