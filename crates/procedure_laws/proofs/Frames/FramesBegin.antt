-- A REENTRANT procedure begins: its last argument is pushed, and zeros for its variables.
use Rattle.procedure_laws.proofs.Prelude.{◌≡◌, ℕ, zero, suc, ◌+◌, ◌-◌, ◌*◌, ◌<◌, ◌≤◌, ◌⊎◌, inl, inr, true, List, [], ◌∷◌, ◌++◌, length, zip, slice_get, Option, Some, None, refl, sym, ap, subst, ◌∙◌, arith, option_map, slice_get-map, MEMORY_SIZE, IsMemory, byte_at, ScalarType, Byte, Address, charge_of, AreParameters, HasParameters, home_of_parameters, size_of_scalar, Home, InFrame, TypedProcedure, frame_of, parameters_set, Gave, SourceState, Push, HoldBytes, Registers, State, wrap, AgreesIn, size_of_instruction, pushed, pushed_is_memory, pushed_keeps, TreeHome, Parameter, ProcedureKind, TreeProcedure, frame_number, location_of, parameter_at, parameters_of, IsProcedure, home_at, nodes_of, distance_of, parameter_distance, return_distance, return_of, parameter_count, home_in_frame, frame_fits, has_parameters, LiesWell, MayChange, Owns, Does, at_place, does_without_step, keeps_all, no_facts_hold, Facts, no_facts, with_facts, Body, Planned, holds, plain, Here, argument_facts, entry_steps, entry_steps_by, frame_entry_steps, last_argument_facts, last_argument_steps, pair_of, zeros_steps, InRegister, InWord, bytes_pushed, Know, does_same, BodyContext, Entries, IsEntered, IsOfCall, ModuleCode, loaded_by, ModuleLies, at_start, surroundings_in, IsBodyOf, ReentrantBegins, frame_level, reentrant_body, HasBegun}
use Rattle.treecode.specs.declared.place.Home.TheVariants as homes
use Rattle.treecode.specs.declared.place.Location.TheVariants as locations
use Rattle.treecode.specs.declared.procedure.ProcedureKind.TheVariants as kinds
use Rattle.procedure_laws.proofs.CallInstructions.{register_kept, word_kept}
use Rattle.procedure_laws.proofs.Frames.FramesLast.{LastIs, NoneAre, facts_of_last, facts_of_none, last_in_word, last_is, last_pushed, pushed_word, pushed_word_small, steps_of_last, steps_of_none}
use Rattle.procedure_laws.proofs.Frames.FramesNew.{IsObjectOf, home_reentrant, new_lies, object_of, parameters_in_words, size_in_frame_is}
use Rattle.procedure_laws.proofs.Frames.FramesPlanned.{parameter_lies}
use Rattle.procedure_laws.proofs.Frames.FramesSet.{LieInWords, all_set}
use Rattle.procedure_laws.proofs.Frames.FramesSteps.{StepsLie, end_goes, holds_goes, plain_goes}
use Rattle.procedure_laws.proofs.ProcedureCalls.{as_many_parameters, charge_is}
use Rattle.procedure_laws.proofs.Zeros.{IsFilled, same_steps, zeros_go}

-- where the return address is above the level
start_of :
    (bytes count parameters : ℕ) → parameters ≡ count
    → (count ≡ 0 → return_distance bytes parameters ≡ bytes)
    × (1 ≤ count → return_distance bytes parameters ≡ bytes + 2)
start_of bytes count zero same = ((λ none. refl), (λ some. absurd (omega (arith, same, some))))
start_of bytes count (suc others) same = ((λ none. absurd (omega (arith, same, none))), (λ some. refl))

-- The frame of a call is made: the machine has zeros for the variables and the arguments in their words; A
-- and HL are as before, and no other byte changed but those from one below the level up to the return
-- address.
record IsMade
    (level bytes top : ℕ) (types : List ScalarType) (values : List ℕ) (r : Registers) (memory : List ℕ)
    (now : Registers) (ended : List ℕ) : Type 0 where
  a : now.a ≡ r.a
  h : now.h ≡ r.h
  l : now.l ≡ r.l
  registers : HoldBytes now
  pointer : now.sp ≡ wrap level
  is_memory : IsMemory ended
  zeros : (address : ℕ) → level ≤ address → address < level + bytes → byte_at ended address ≡ 0
  words : LieInWords level bytes types values ended
  kept : (address : ℕ) → ((level ≤ address + 1) → (address < top) → ⊥)
      → byte_at ended address ≡ byte_at memory address

-- where things lie in the stack of a call
record IsPlaced (code : ModuleCode) (found : TypedProcedure) (body : Body) (room top : ℕ) : Type 0 where
  bytes : body.frame.now.variable_bytes ≡ found.frame_bytes
  few : found.frame_bytes ≤ 1024
  level : frame_level body.frame.now top + (return_of body.frame.now).start ≡ top
  none : length found.parameters ≡ 0 → (return_of body.frame.now).start ≡ found.frame_bytes
  some : 1 ≤ length found.parameters → (return_of body.frame.now).start ≡ found.frame_bytes + 2
  bottom : code.program.placement.stack.start ≤ top + 2 - room
  low : top + 2 - room + 3 ≤ frame_level body.frame.now top
  high : top + 2 ≤ code.program.placement.stack.start + code.program.placement.stack.len
  in_memory : code.program.placement.stack.start + code.program.placement.stack.len ≤ MEMORY_SIZE

level_of : (top start low room count bytes : ℕ)
    → (count ≡ 0 → start ≡ bytes) → (1 ≤ count → start ≡ bytes + 2)
    → 10 + 2 * count + bytes ≤ room → low + room ≤ top + 2
    → (top - start + start ≡ top) × (low + 3 ≤ top - start)
level_of top start low room zero bytes none some charge enough =
    let is = none refl in (omega (arith, is, charge, enough), omega (arith, is, charge, enough))
level_of top start low room (suc count) bytes none some charge enough =
    let is = some (omega arith) in (omega (arith, is, charge, enough), omega (arith, is, charge, enough))

module _ (code : ModuleCode) (entries : Entries) (bound : ℕ) (lies : ModuleLies code entries)
    (index number room top : ℕ) (procedure : TreeProcedure) (found : TypedProcedure) (body : Body)
    (is : IsBodyOf code index procedure found body) (kind : procedure.kind ≡ kinds.Reentrant)
    (charge_fits : charge_of found ≤ room)
    (well : LiesWell (reentrant_body code index found body bound number room top).context.activation)
    (back : ℕ) (values : List ℕ) (s : SourceState) (r : Registers) (memory : List ℕ)
    (enters : IsEntered code.program code.image room found.parameter_types values top back s r memory) where
  abbrev at : BodyContext
  at = reentrant_body code index found body bound number room top

  abbrev level : ℕ
  level = frame_level body.frame.now top

  abbrev lowered : IsProcedure code.typed (nodes_of code.tree.now) code.storage index procedure found
  lowered = lies.lowered.procedures index procedure found is.there is.is

  abbrev has : HasParameters code.typed index found
  has = has_parameters code.typed index found lies.parameters is.is

  placed : IsPlaced code found body room top
  placed =
      let bytes = (is.frame kind).variable_bytes ∙ lowered.frame_bytes in
      let count = (is.frame kind).parameter_count
      ∙ parameter_count code.typed index found (nodes_of code.tree.now).homes procedure.parameters.items has
      lowered.has_body.parameters in
      let starts =
      start_of body.frame.now.variable_bytes (length found.parameters)
      body.frame.now.parameter_count count in
      let low = enters.low in
      let high = enters.high in
      let charge = charge_is found in
      let none : (length found.parameters ≡ 0 → (return_of body.frame.now).start ≡ found.frame_bytes)
      = λ zero. starts.0 zero ∙ bytes in
      let some : (1 ≤ length found.parameters → (return_of body.frame.now).start ≡ found.frame_bytes + 2)
      = λ one. starts.1 one ∙ ap (λ (n : ℕ). n + 2) bytes in
      let levels = level_of top (return_of body.frame.now).start (top + 2 - room) room
      (length found.parameters) found.frame_bytes none some (omega (arith, charge, charge_fits))
      (omega (arith, low)) in
      record {
        bytes = bytes;
        few = (frame_fits code.typed index found lies.frames is.is).bytes;
        level = levels.0;
        none = none;
        some = some;
        bottom = omega (arith, low);
        low = levels.1;
        high = omega (arith, high);
        in_memory = lies.placed.stack_in_memory;
      }

  -- with the frame made, the parameters are set
  made_does :
      (to place : ℕ) (facts : Facts) (now : Registers) (ended : List ℕ)
      → place ≡ to
      → IsMade level found.frame_bytes top found.parameter_types values r memory now ended
      → Know at.context facts now ended
      → Does (loaded_by code) s.budget 0 (at_place place now ended s.events)
      (parameters_set (surroundings_in code (room - charge_of found)) found.parameter_types
      found.parameters values
      (record s { frame = frame_of index code.typed }))
      (λ given t end. HasBegun at to (top + 2 + bytes_pushed values) back facts memory t end)
  made_does to place facts now ended same made known =
      let set =
      all_set (surroundings_in code (room - charge_of found)) at.context.activation
      found.frame_bytes ended
      made.is_memory found.parameter_types found.parameters values
      (record s { frame = frame_of index code.typed })
      (parameters_in_words code entries index procedure found body.frame.now (room - charge_of found)
      (top + 2 - room) level lies is.there
      is.is (is.frame kind) kind)
      made.words
      (new_lies code entries index procedure found body.frame.now (room - charge_of found) (top + 2 - room)
      level lies is.there is.is (is.frame kind)
      ended made.zeros) in
      does_same (Gave tt (record s { frame = set.frame })) set.is
      (does_without_step (record {
        r = now;
        memory = ended;
        is_at = ap (λ (place : ℕ). at_place place now ended s.events) same;
        ready = record {
          pointer = made.pointer;
          registers = made.registers;
          shares = record {
            is_memory = made.is_memory;
            size = enters.shares.size;
            declared = λ address declared.
                made.kept address (λ from below. not_declared address declared from below)
                ∙ enters.shares.declared address declared;
            code = λ address within.
                made.kept address (λ from below. not_code address within from below)
                ∙ enters.shares.code address within;
            others = record {
              size = made.is_memory.size ∙ sym enters.shares.is_memory.size ∙ enters.shares.others.size;
              bytes = λ address outside.
                  made.kept address (λ from below. outside (of_stack address from below))
                  ∙ enters.shares.others.bytes address outside;
            };
          };
          frame_lies = set.lies;
          kept = keeps_all (Owns at.context.activation level) ended;
        };
        known = known;
        return_lies = record {
          low =
              ap (byte_at ended) placed.level
              ∙ made.kept top (λ from below. omega (arith, below)) ∙ enters.return_lies.low;
          high =
              ap (λ (n : ℕ). byte_at ended (n + 1)) placed.level
              ∙ made.kept (top + 1) (λ from below. omega (arith, below)) ∙ enters.return_lies.high;
        };
        kept = record {
          size = made.is_memory.size ∙ sym enters.shares.is_memory.size;
          bytes = λ address outside. made.kept address (λ from below. outside (of_call address from below));
        };
      }))
    where
      bottom : code.program.placement.stack.start ≤ top + 2 - room
      bottom = placed.bottom

      low : top + 2 - room + 3 ≤ frame_level body.frame.now top
      low = placed.low

      high : top + 2 ≤ code.program.placement.stack.start + code.program.placement.stack.len
      high = placed.high

      not_declared : (address : ℕ) → Rattle.meaning.specs.Access.is_declared code.program address ≡ true
          → frame_level body.frame.now top ≤ address + 1 → address < top → ⊥
      not_declared address declared from below =
          lies.placed.stack_free address declared (omega (arith, bottom, low, from))
          (omega (arith, below, high))

      not_code : (address : ℕ) → Rattle.mem80.specs.Range.IsIn address code.program.placement.code
          → frame_level body.frame.now top ≤ address + 1 → address < top → ⊥
      not_code address within from below =
          lies.placed.apart address within.0 within.1 (omega (arith, bottom, low, from))
          (omega (arith, below, high))

      of_stack : (address : ℕ) → frame_level body.frame.now top ≤ address + 1 → address < top
          → MayChange code.program address
      of_stack address from below = inr (omega (arith, bottom, low, from), omega (arith, below, high))

      of_call : (address : ℕ) → frame_level body.frame.now top ≤ address + 1 → address < top
          → IsOfCall code.program (top + 2 - room) (top + 2 + bytes_pushed values) address
      of_call address from below = inr (omega (arith, low, from), omega (arith, below))

  -- the parameters of the body
  parameters_are : body.procedure.now.parameters.items ≡ parameters_of code.tree.now.homes.items found
  parameters_are =
      ap (λ (one : TreeProcedure). one.parameters.items) is.is_procedure ∙ lowered.has_body.parameters

  kind_is : body.procedure.now.kind ≡ kinds.Reentrant
  kind_is = ap (λ (one : TreeProcedure). one.kind) is.is_procedure ∙ kind

  as_many : length found.parameters ≡ length found.parameter_types
  as_many =
      as_many_parameters code.typed (home_of_parameters index found.is_reentrant found.visibility)
      found.parameter_types
      found.parameters has.objects

  count_is : length body.procedure.now.parameters.items ≡ length found.parameter_types
  count_is =
      ap (λ (one : TreeProcedure). length one.parameters.items) is.is_procedure
      ∙ parameter_count code.typed index found (nodes_of code.tree.now).homes procedure.parameters.items has
      lowered.has_body.parameters
      ∙ as_many

  last_there :
      (entry : Option (ScalarType × ℕ))
      → slice_get (zip found.parameter_types found.parameters) (length found.parameter_types - 1) ≡ entry
      → slice_get body.procedure.now.parameters.items (length body.procedure.now.parameters.items - 1)
      ≡ option_map (parameter_at code.tree.now.homes.items) entry
  last_there entry same =
      ap (λ (count : ℕ). slice_get body.procedure.now.parameters.items (count - 1)) count_is
      ∙ ap (λ (parameters : List Parameter). slice_get parameters (length found.parameter_types - 1))
      parameters_are
      ∙ slice_get-map (parameter_at code.tree.now.homes.items) (zip found.parameter_types found.parameters)
      (length found.parameter_types - 1)
      ∙ ap (λ (entry : Option (ScalarType × ℕ)). option_map (parameter_at code.tree.now.homes.items) entry)
      same

  -- the steps of the entry, with what they are of the last argument
  entry_is :
      (first : ℕ) (front : List Planned)
      → last_argument_steps body.procedure.now.parameters.items ≡ front
      → entry_steps body first
      ≡ front
      ++ (zeros_steps found.frame_bytes first
      ++ (holds (last_argument_facts body.procedure.now.parameters.items) ∷ []))
  unfolding entry_steps_by frame_entry_steps
  entry_is first front same =
      ap (λ (kind : ProcedureKind). entry_steps_by kind body first) kind_is
      ∙ ap (λ (bytes : ℕ).
      last_argument_steps body.procedure.now.parameters.items
      ++ (zeros_steps bytes first ++ (holds (last_argument_facts body.procedure.now.parameters.items) ∷ [])))
      placed.bytes
      ∙ ap (λ (front : List Planned).
      front
      ++ (zeros_steps found.frame_bytes first
      ++ (holds (last_argument_facts body.procedure.now.parameters.items) ∷ []))) same

  -- what is known at the end
  known_last :
      (scalar : ScalarType) (value parameter : ℕ) (now : Registers) (ended : List ℕ)
      → at.context.activation.distance parameter
      ≡ parameter_distance found.frame_bytes 0 (size_of_scalar scalar)
      → at.context.activation.size parameter ≡ size_of_scalar scalar
      → InRegister scalar value now
      → InWord scalar value ended (level + found.frame_bytes)
      → level + found.frame_bytes + 2 ≤ MEMORY_SIZE
      → Know at.context
      (with_facts no_facts
      (argument_facts scalar (locations.Frame (frame_number code.typed index parameter) 0) no_facts)) now
      ended
  known_last Byte value parameter now ended distance size register lie limit = record {
    byte_holds = (
      register ∙ sym lie
          ∙ ap (byte_at ended) (omega (arith, distance, limit)),
      record { apart = λ low below. omega (arith, distance, limit, below) },
    );
    word_holds = tt;
    address_holds = tt;
    zero_holds = tt;
  }
  known_last Address value parameter now ended distance size register lie limit = record {
    byte_holds = tt;
    word_holds = record {
      low_is = (
        register.1 ∙ sym lie.0 ∙ ap (byte_at ended) (omega (arith, distance, limit)),
        record { apart = λ low below. omega (arith, distance, limit, below) },
      );
      high_is = (
        register.0 ∙ sym lie.1 ∙ ap (byte_at ended) (omega (arith, distance, limit)),
        record { apart = λ low below. omega (arith, distance, limit, below) },
      );
    };
    address_holds = tt;
    zero_holds = tt;
  }

  home_of_last :
      (scalar : ScalarType) (parameter : ℕ)
      → (object : IsObjectOf code.typed index scalar parameter)
      → home_at code.tree.now.homes.items parameter ≡ homes.Frame (frame_number code.typed index parameter)
  home_of_last scalar parameter object =
      ap (λ (list : List TreeHome). home_at list parameter) lies.lowered.homes
      ∙ home_in_frame code.typed code.storage index parameter object.found object.there object.home

  -- the registers and the memory with the last argument pushed
  abbrev pushed_registers : Registers
  pushed_registers = record r { sp = wrap (top - 2) }

  abbrev pushed_memory : ScalarType → List ℕ
  pushed_memory scalar = pushed top (pushed_word scalar r) memory

  word_place :
      1 ≤ length found.parameters
      → (level + found.frame_bytes ≡ top - 2) × (2 ≤ top)
  word_place some =
      let is_level = placed.level in
      let start = placed.some some in
      (omega (arith, is_level, start), omega (arith, is_level, start))

  made_with_last :
      (now : Registers) (ended : List ℕ)
      → (last : LastIs code.typed (InFrame index) found.parameter_types found.parameters values (top
      + 2) r memory)
      → IsFilled level (top - 2) pushed_registers (pushed_memory last.scalar) now ended
      → IsMade level found.frame_bytes top found.parameter_types values r memory now ended
      × InWord last.scalar last.value ended (level + found.frame_bytes)
  made_with_last now ended last are = (
    record {
      a = are.a;
      h = are.h;
      l = are.l;
      registers = are.registers;
      pointer = are.pointer;
      is_memory = are.is_memory;
      zeros = λ address from below. are.zeros address from (omega (arith, below, place));
      words =
          last.words level found.frame_bytes ended (omega (arith, place, some)) in_word
          (λ address above. kept address (λ from below. omega (arith, above, below)));
      kept = kept;
    },
    in_word,
  )
    where
      place : level + found.frame_bytes ≡ top - 2
      place = (word_place (let one = last.some in let many = as_many in omega (arith, one, many))).0

      some : 2 ≤ top
      some = (word_place (let one = last.some in let many = as_many in omega (arith, one, many))).1

      limit : top ≤ MEMORY_SIZE
      limit =
          let high = placed.high in
          let whole = placed.in_memory in
          omega (arith, high, whole)

      kept : (address : ℕ) → ((level ≤ address + 1) → (address < top) → ⊥)
          → byte_at ended address ≡ byte_at memory address
      kept address outside =
          are.kept address (λ from below. outside from (omega (arith, below)))
          ∙ pushed_keeps top (pushed_word last.scalar r) memory address
          (λ same. outside (omega (arith, same, place)) (omega (arith, same, some)))
          (λ same. outside (omega (arith, same, place)) (omega (arith, same, some)))

      in_word : InWord last.scalar last.value ended (level + found.frame_bytes)
      in_word =
          subst (λ (address : ℕ). InWord last.scalar last.value ended address) (sym place)
          (word_kept last.scalar last.value (top - 2) (pushed_memory last.scalar) ended
          (are.kept (top - 2) (λ from below. omega (arith, below)))
          (are.kept (top - 2 + 1) (λ from below. omega (arith, below)))
          (last_in_word last.scalar last.value top r memory some limit
          enters.shares.is_memory.size enters.registers
          last.in_register))

  -- the code of a procedure with parameters
  with_last :
      (first from to : ℕ) (begun : Here)
      → StepsLie at at_start begun (entry_steps body first) from to
      → LastIs code.typed (InFrame index) found.parameter_types found.parameters values (top + 2) r memory
      → Does (loaded_by code) s.budget 0 (at_place from r memory s.events)
      (parameters_set (surroundings_in code (room - charge_of found)) found.parameter_types
      found.parameters values
      (record s { frame = frame_of index code.typed }))
      (λ given t end. HasBegun at to (top + 2 + bytes_pushed values) back begun.facts memory t end)
  with_last first from to begun stand last =
      plain_goes at (Push (pair_of last.scalar))
      (zeros_steps found.frame_bytes first
      ++ (holds (last_argument_facts body.procedure.now.parameters.items) ∷ [])) r
      well enters.shares.code
      (same_steps at
      (entry_is first (plain (Push (pair_of last.scalar)) ∷ [])
      (steps_of_last body.procedure.now.parameters.items
      (parameter_at code.tree.now.homes.items (last.scalar, last.parameter)) last_listed)) stand)
      (λ more.
      subst (λ (state : State).
      Does (loaded_by code) s.budget 0 state
      (parameters_set (surroundings_in code (room - charge_of found)) found.parameter_types
      found.parameters values
      (record s { frame = frame_of index code.typed }))
      (λ given t end. HasBegun at to (top + 2 + bytes_pushed values) back begun.facts memory t end))
      (sym (last_pushed code.program.script last.scalar
      (from + size_of_instruction (Push (pair_of last.scalar))) top r
      memory s.events enters.pointer limit some))
      (zeros_go {high = top - 2} {r = pushed_registers} {memory = pushed_memory last.scalar} at well agrees
      (omega (arith, high)) found.frame_bytes first (from + size_of_instruction (Push (pair_of last.scalar)))
      (holds (last_argument_facts body.procedure.now.parameters.items) ∷ []) placed.few
      (omega (arith, low, place))
      (record {
        a = enters.registers.a;
        b = enters.registers.b;
        c = enters.registers.c;
        d = enters.registers.d;
        e = enters.registers.e;
        h = enters.registers.h;
        l = enters.registers.l;
      }) refl
      (pushed_is_memory top (pushed_word last.scalar r) memory
      (pushed_word_small last.scalar r enters.registers)
      enters.shares.is_memory) more
      (λ after now ended stand_after filled.
      let end =
      end_goes at
      (holds_goes at (last_argument_facts body.procedure.now.parameters.items) [] stand_after) in
      let made = made_with_last now ended last
      (subst (λ (address : ℕ).
      IsFilled address (top - 2) pushed_registers (pushed_memory last.scalar) now ended) level_is filled) in
      made_does to after begun.facts now ended end.place made.0
      (subst (λ (facts : Facts). Know at.context facts now ended)
      (sym (ap (λ (here : Here). here.facts) end.is
      ∙ ap (λ (facts : Facts). with_facts no_facts facts) facts_are))
      (known_last last.scalar last.value last.parameter now ended distance
      (size_in_frame_is code.typed index last.scalar last.parameter object)
      (register_kept last.scalar last.value r now made.0.a made.0.h made.0.l last.in_register) made.1
      (omega (arith, place, some, limit)))))))
    where
      object : IsObjectOf code.typed index last.scalar last.parameter
      object = object_of code.typed index last.scalar last.parameter last.object

      last_listed : slice_get body.procedure.now.parameters.items
          (length body.procedure.now.parameters.items - 1)
          ≡ Some (parameter_at code.tree.now.homes.items (last.scalar, last.parameter))
      last_listed = last_there (Some (last.scalar, last.parameter)) last.pair

      there_are : 1 ≤ length found.parameters
      there_are =
          let one = last.some in
          let many = as_many in
          omega (arith, one, many)

      place : level + found.frame_bytes ≡ top - 2
      place = (word_place there_are).0

      some : 2 ≤ top
      some = (word_place there_are).1

      bottom : code.program.placement.stack.start ≤ top + 2 - room
      bottom = placed.bottom

      low : top + 2 - room + 3 ≤ frame_level body.frame.now top
      low = placed.low

      high : top + 2 ≤ code.program.placement.stack.start + code.program.placement.stack.len
      high = placed.high

      limit : top ≤ MEMORY_SIZE
      limit =
          let whole = placed.in_memory in
          omega (arith, high, whole)

      level_is : top - 2 - found.frame_bytes ≡ level
      level_is = omega (arith, place)

      agrees : AgreesIn code.program.placement.code code.image (pushed_memory last.scalar)
      agrees address within =
          pushed_keeps top (pushed_word last.scalar r) memory address
          (λ same. lies.placed.apart address within.0 within.1 (omega (arith, same, bottom, low, place))
          (omega (arith, same, high)))
          (λ same. lies.placed.apart address within.0 within.1 (omega (arith, same, bottom, low, place))
          (omega (arith, same, high)))
          ∙ enters.shares.code address within

      facts_are : last_argument_facts body.procedure.now.parameters.items
          ≡ argument_facts last.scalar (locations.Frame (frame_number code.typed index last.parameter) 0)
          no_facts
      facts_are =
          facts_of_last body.procedure.now.parameters.items
          (parameter_at code.tree.now.homes.items (last.scalar, last.parameter)) last_listed
          ∙ ap (λ (home : TreeHome). argument_facts last.scalar (location_of home) no_facts)
          (home_of_last last.scalar last.parameter object)

      followers : length found.parameters - (length found.parameter_types - 1) - 1 ≡ 0
      followers =
          let many = as_many in
          omega (arith, many)

      distance : distance_of body.frame.now (frame_number code.typed index last.parameter)
          ≡ parameter_distance found.frame_bytes 0 (size_of_scalar last.scalar)
      distance =
          parameter_lies code.typed (nodes_of code.tree.now) code.storage index procedure found
          body.frame.now lies.sized
          lies.parameters lies.frames is.is lowered (is.frame kind) last.parameter
          (length found.parameter_types - 1) last.scalar
          object.found object.there object.home object.scalar_is last.stands
          ∙ ap (λ (count : ℕ). parameter_distance found.frame_bytes count (size_of_scalar last.scalar))
          followers

  -- and of one without
  without_last :
      (first from to : ℕ) (begun : Here)
      → StepsLie at at_start begun (entry_steps body first) from to
      → NoneAre found.parameter_types found.parameters values
      → Does (loaded_by code) s.budget 0 (at_place from r memory s.events)
      (parameters_set (surroundings_in code (room - charge_of found)) found.parameter_types
      found.parameters values
      (record s { frame = frame_of index code.typed }))
      (λ given t end. HasBegun at to (top + 2 + bytes_pushed values) back begun.facts memory t end)
  without_last first from to begun stand none =
      zeros_go {high = top} {r = r} {memory = memory} at well enters.shares.code
      (omega (arith, high)) found.frame_bytes
      first from (holds (last_argument_facts body.procedure.now.parameters.items) ∷ []) placed.few
      (omega (arith, low, place)) enters.registers enters.pointer enters.shares.is_memory
      (same_steps at (entry_is first [] (steps_of_none body.procedure.now.parameters.items none_listed))
      stand)
      (λ after now ended stand_after filled.
      let end =
      end_goes at
      (holds_goes at (last_argument_facts body.procedure.now.parameters.items) [] stand_after) in
      let are = subst (λ (address : ℕ). IsFilled address top r memory now ended) level_is filled in
      made_does to after begun.facts now ended end.place
      (record {
        a = are.a;
        h = are.h;
        l = are.l;
        registers = are.registers;
        pointer = are.pointer;
        is_memory = are.is_memory;
        zeros = λ address from below. are.zeros address from (omega (arith, below, place));
        words = no_words ended;
        kept = are.kept;
      })
      (subst (λ (facts : Facts). Know at.context facts now ended)
      (sym (ap (λ (here : Here). here.facts) end.is
      ∙ ap (λ (facts : Facts). with_facts no_facts facts)
      (facts_of_none body.procedure.now.parameters.items none_listed)))
      no_facts_hold))
    where
      none_listed : slice_get body.procedure.now.parameters.items
          (length body.procedure.now.parameters.items - 1) ≡ None
      none_listed =
          last_there None
          (ap (λ (types : List ScalarType). slice_get (zip types found.parameters)
          (length found.parameter_types - 1))
          none.types)

      bottom : code.program.placement.stack.start ≤ top + 2 - room
      bottom = placed.bottom

      low : top + 2 - room + 3 ≤ frame_level body.frame.now top
      low = placed.low

      high : top + 2 ≤ code.program.placement.stack.start + code.program.placement.stack.len
      high = placed.high

      place : level + found.frame_bytes ≡ top
      place =
          let is_level = placed.level in
          let start = placed.none (ap (λ (list : List ℕ). length list) none.parameters_are) in
          omega (arith, is_level, start)

      level_is : top - found.frame_bytes ≡ level
      level_is = omega (arith, place)

      no_words : (ended : List ℕ) → LieInWords level found.frame_bytes found.parameter_types values ended
      no_words ended =
          subst (λ (types : List ScalarType). LieInWords level found.frame_bytes types values ended)
          (sym none.types)
          (subst (λ (values : List ℕ). LieInWords level found.frame_bytes [] values ended)
          (sym none.values_are) tt)

  -- both
  pub entry_begins :
      (first from to : ℕ) (begun : Here)
      → StepsLie at at_start begun (entry_steps body first) from to
      → Does (loaded_by code) s.budget 0 (at_place from r memory s.events)
      (parameters_set (surroundings_in code (room - charge_of found)) found.parameter_types
      found.parameters values
      (record s { frame = frame_of index code.typed }))
      (λ given t end. HasBegun at to (top + 2 + bytes_pushed values) back begun.facts memory t end)
  entry_begins first from to begun stand =
      by_last (last_is code.typed (InFrame index) found.parameter_types found.parameters
      values (top + 2) r memory
      (subst (λ (home : Home). AreParameters code.typed home found.parameter_types found.parameters)
      (home_reentrant code.typed index found (sym lowered.kind ∙ kind)) has.objects) enters.arguments)
    where
      by_last : NoneAre found.parameter_types found.parameters values
          ⊎ LastIs code.typed (InFrame index) found.parameter_types found.parameters values (top + 2) r memory
          → Does (loaded_by code) s.budget 0 (at_place from r memory s.events)
          (parameters_set (surroundings_in code (room - charge_of found)) found.parameter_types
          found.parameters values
          (record s { frame = frame_of index code.typed }))
          (λ given t end. HasBegun at to (top + 2 + bytes_pushed values) back begun.facts memory t end)
      by_last (inl none) = without_last first from to begun stand none
      by_last (inr last) = with_last first from to begun stand last

-- REENTRANT procedures of a module begin
pub reentrant_begins :
    (code : ModuleCode) (entries : Entries) (bound : ℕ) → ModuleLies code entries → ReentrantBegins code bound
reentrant_begins code entries bound lies index number room from to top first procedure found body list begun
    is kind charge_fits sound written there back values s r memory enters =
    entry_begins code entries bound lies index number room top procedure found body is kind charge_fits
    sound.sound.lies back
    values s r memory enters first from to begun (record { list = list; written = written; there = there })
