-- The high byte of an ADDRESS is put into A; the word that an ADDRESS expression reads is in memory.
use Rattle.task_laws.proofs.Prelude.{◌≡◌, ℕ, ◌+◌, ◌*◌, ◌/◌, ◌≤◌, ◌⊎◌, inl, inr, Bool, true, false, if◌then◌else◌, List, [], ◌∷◌, Option, Some, None, option_map, refl, sym, ap, subst, ◌∙◌, arith, option_and_then, byte_at, ScalarType, height_of, height_of_reference, type_of, TypedExpression, TypedReference, ValueNode, TypesHold, SourcePlace, next_place, read_scalar, SourceState, Outcome, Gave, then_do, Registers, State, word, wrap, Expression, ExpressionForm, ExpressionNumber, Location, Place, Reference, place_after, IsExpression, IsForm, IsReference, IsValue, Does, loaded_of, at_place, Arrives, does_without_step, IsSteady, place_at, location_after_is, Facts, Plain, load, part, GoesOutside, direct, location_of, place_in_memory, reference_after, direct_word, high_byte_in_memory, is_word_in_hl, word_in_memory, word_of, high_by_hl_steps, load_a_steps, knowing, Context, IsSound, distances_in, nodes_in, PartThere, PlainThere, StepsStand, WordThere, PartDoes, address_on_machine, same_Some, same_given, given_again}
use Rattle.trees.specs.declared.declaration.ScalarType.TheVariants as scalars
use Rattle.isa8080.specs.declared.instr.Register.TheVariants as registers
use Rattle.treecode.specs.declared.place.Location.TheVariants as locations
use Rattle.steps8080.specs.declared.step.Task.TheVariants as tasks
use Rattle.operands8080.specs.internal.WordRelations.{high_byte_steps}
use Rattle.task_laws.proofs.Bytes.BytesAsked.{HighBytesGiven, HighIsGiven, WordAtPlace, WordsAtPlaces}
use Rattle.task_laws.proofs.Places.Fitting.{located_fits, refers_is_referred}
use Rattle.task_laws.proofs.Loads.Loads.{lies_there}
use Rattle.task_laws.proofs.Bytes.LocatedBytes.{high_found, high_stops, next_lies, where_located}
use Rattle.task_laws.proofs.Places.Located.{located_in}
use Rattle.task_laws.proofs.Places.LocationBytes.{load_a_goes}
use Rattle.task_laws.proofs.Stores.NextBytes.{next_part}
use Rattle.task_laws.proofs.Machine.Nodes.{node_of}
use Rattle.task_laws.proofs.Places.ReadPlaces.{HighIsAt, WordIsAt, does_outside, word_found}
use Rattle.task_laws.proofs.Machine.Rules.{GoesOn, room_for}
use Rattle.task_laws.proofs.Machine.SiteNodes.{value_in}
use Rattle.task_laws.proofs.Machine.Stages.{Stage, stage_with_a, at_end, at_load_a, at_word, does_same}
use Rattle.task_laws.proofs.Stores.WordWriting.{next_address}

-- an ADDRESS expression is the value of a part of an object
pub record WordPart (context : Context) (reference : Reference) (tree : TypedExpression) : Type 0 where
  pub bound : ℕ
  pub part : TypedReference
  pub same : tree ≡ ValueNode scalars.Address part
  pub is : IsReference (nodes_in context) context.storage bound reference part
  pub types : TypesHold context.typed context.within (ValueNode scalars.Address part)

-- a form that is one
word_form :
    (context : Context) (reference : Reference) (bound : ℕ) (form : ExpressionForm) (scalar : ScalarType)
    (tree : TypedExpression)
    → TypesHold context.typed context.within tree
    → scalar ≡ type_of tree
    → IsForm (nodes_in context) context.storage bound form tree
    → word_of form scalar ≡ Some reference
    → WordPart context reference tree
word_form context reference bound _ scalars.Address _ types same
    (IsValue {scalar = scalars.Address} {part = part} is) told = record {
      bound = bound;
      part = part;
      same = refl;
      is = subst (λ (given : Reference). IsReference (nodes_in context) context.storage bound given part)
          (same_Some _ _ told) is;
      types = types;
    }
word_form context reference bound _ scalars.Address _ types same (IsValue {scalar = scalars.Byte} is) told =
    absurd cc
word_form context reference bound _ scalars.Address tree types same other told = absurd cc
word_form context reference bound _ scalars.Byte tree types same (IsValue is) told = absurd cc
word_form context reference bound _ scalars.Byte tree types same other told = absurd cc

pub word_part :
    {context : Context} {bound : ℕ} {number : ExpressionNumber} {tree : TypedExpression} (facts : Facts)
    (reference : Reference)
    → IsSound context
    → IsExpression (nodes_in context) context.storage bound number.index tree
    → TypesHold context.typed context.within tree
    → word_in_memory (knowing context.site facts) number ≡ Some reference
    → WordPart context reference tree
unfolding word_in_memory
word_part {context = context} {number = number} {tree = tree} facts reference sound is types told =
    let node = node_of {context = context} {number = number} sound is in
    word_form context reference number.index node.found.form node.found.traits.scalar tree types
    node.scalar node.form
    (sym (ap (λ (found : Option Expression). option_and_then
    (λ (one : Expression). word_of one.form one.traits.scalar) found) (node.at_site facts)) ∙ told)

-- a reference with a known place in memory has its location there
static_location : (found : Option Location) (place : Place) → place_in_memory found ≡ Some place → found
    ≡ Some (locations.Static place)
static_location (Some (locations.Static found)) place same = cc
static_location (Some (locations.Frame variable offset)) place same = absurd cc
static_location None place same = absurd cc

pub direct_is :
    (context : Context) (facts : Facts) (reference : Reference) (place : Place)
    → direct (knowing context.site facts) reference ≡ Some place
    → location_of (knowing context.site facts) reference ≡ Some (locations.Static place)
unfolding direct
direct_is context facts reference place told =
    static_location (location_of (knowing context.site facts) reference) place told

-- the word of an ADDRESS at a place in memory
pub words_at_places : (context : Context) → IsSound context → WordsAtPlaces context
unfolding direct_word
words_at_places context sound known_there number place bound top tree base s r memory node types told ready =
    by_word (word_in_memory (knowing context.site known_there) number) refl told
  where
    at_part : (reference : Reference) → WordPart context reference tree
        → direct (knowing context.site known_there) reference ≡ Some place
        → WordAtPlace context place memory s (value_in context tree s) ⊎ GoesOutside (value_in context tree s)
    at_part reference of_part told =
        let part = of_part.part in
        let refers = (of_part.types).0 in
        let lies = lies_there known_there (locations.Static place) sound of_part.is
        (refers_is_referred context scalars.Address part refers) (of_part.types).1
        (direct_is context known_there reference place told) in
        subst (λ (of : TypedExpression). WordAtPlace context place memory s (value_in context of s)
        ⊎ GoesOutside (value_in context of s))
        (sym of_part.same)
        (subst (λ (outcome : Outcome ℕ). WordAtPlace context place memory s outcome ⊎ GoesOutside outcome)
        (sym (ap (λ (outcome : Outcome SourcePlace). then_do outcome
        (λ place t. read_scalar context.activation.around.program scalars.Address place t))
        (lies.means s)))
        (read lies.place lies.is_at
        (word_found lies.place s sound ready
        (located_fits context scalars.Address part lies.place s s sound refers (lies.means s)))))
      where
        read : (there : SourcePlace) → address_on_machine context.activation there ≡ place_at
            context.activation.layout place
            → WordIsAt context there memory s
            (read_scalar context.activation.around.program scalars.Address there s)
            ⊎ GoesOutside (read_scalar context.activation.around.program scalars.Address there s)
            → WordAtPlace context place memory s
            (read_scalar context.activation.around.program scalars.Address there s)
            ⊎ GoesOutside (read_scalar context.activation.around.program scalars.Address there s)
        read there is_at (inr outside) = inr outside
        read there is_at (inl found) =
            let next : address_on_machine context.activation (next_place there)
            ≡ place_at context.activation.layout (place_after place 1)
            = next_address context.activation there ∙ ap (λ (n : ℕ). wrap (n + 1)) is_at
            ∙ sym (location_after_is context.activation (distances_in context) (locations.Static place) 1) in
            inl (record {
              found = (found.low_is).found;
              is = (found.low_is).is;
              low = sym (found.low_is).low ∙ ap (byte_at memory) is_at;
              high = ap (λ (n : ℕ). n / 256) (same_given (sym (found.low_is).is ∙ (found.high_is).is))
                  ∙ sym (found.high_is).high ∙ ap (byte_at memory) next;
              low_steady = subst (λ (n : ℕ). IsSteady context.activation n) is_at (found.low_is).steady;
              high_steady = subst (λ (n : ℕ). IsSteady context.activation n) next (found.high_is).steady;
            })

    by_word : (found : Option Reference) → word_in_memory (knowing context.site known_there) number ≡ found
        → option_and_then (direct (knowing context.site known_there)) found ≡ Some place
        → WordAtPlace context place memory s (value_in context tree s) ⊎ GoesOutside (value_in context tree s)
    by_word (Some reference) is told =
        at_part reference (word_part known_there reference sound node types is) told
    by_word None is told = absurd cc

-- the high byte is there
high_given :
    {context : Context} {last : Facts} {top : ℕ} {base : List ℕ} {r : Registers} {memory : List ℕ} {to : ℕ}
    (outcome : Outcome ℕ) (address : ℕ) (t : SourceState) (now : Registers) (ended : List ℕ)
    → now.a ≡ byte_at ended address
    → HighIsAt context address ended t outcome
    → GoesOn context last top base t.memory t.frame now ended
    → Does (loaded_of context.activation) t.budget 0 (at_place to now ended t.events) outcome
    (Arrives context.activation top base to (HighIsGiven context last r memory))
high_given outcome address t now ended a high on =
    does_same (Gave high.found t) high.is
    (does_without_step (record {
      r = now;
      memory = ended;
      is_at = refl;
      ready = on.ready;
      holds = record { a = a ∙ high.high; known = on.known };
    }))

reference_again : (found : Option Reference) (reference : Reference)
    → option_map (λ (inner : Reference). reference_after inner 1) found ≡ Some reference
    → (inner : Reference) × (found ≡ Some inner) × (reference_after inner 1 ≡ reference)
reference_again (Some inner) reference same = (inner, refl, same_Some _ _ same)
reference_again None reference same = absurd cc

-- the high byte of an ADDRESS
pub high_bytes_given : (context : Context) → IsSound context → HighBytesGiven context
unfolding high_byte_steps high_byte_in_memory
high_bytes_given context sound facts last number pushed from to bound tree node types type stand top base s r
    memory below room ready known asked =
    by (high_byte_in_memory (knowing context.site facts) number) refl stand
  where
    Comes : Type 0
    Comes = Does (loaded_of context.activation) s.budget 0 (at_place from r memory s.events)
        (value_in context tree s)
        (Arrives context.activation top base to (HighIsGiven context last r memory))

    stage : Stage context top pushed (2 * height_of tree) base s facts r memory
    stage = record { below = below; room = room; ready = ready; known = known }

    by_hl : StepsStand context (PartDoes context) facts from (high_by_hl_steps number pushed) last to → Comes
    by_hl (PartThere {middle = middle} does (PlainThere there ends)) =
        does_same (then_do (value_in context tree s) (λ n t. Gave n t))
        (sym (given_again (value_in context tree s)))
        (at_word from middle number does node types (omega arith) stage
        (λ n t now ended is given next.
        let held = next.ready.registers in
        stage_with_a now.h now.flags sound next there refl held.h tt
        (λ moved. at_end ends moved
        (λ final. does_without_step (record {
          r = record now { a = now.h };
          memory = ended;
          is_at = refl;
          ready = final.ready;
          holds = record { a = given.h; known = final.known };
        })))))

    by_reference : (inner reference : Reference) → reference_after inner 1 ≡ reference
        → WordPart context inner tree
        → (found : Option Place) → direct (knowing context.site facts) reference ≡ found
        → StepsStand context (PartDoes context) facts from
        (elim found [
          | Some place ↦ load_a_steps place
          | None ↦ part (tasks.Address reference) pushed ∷ Plain (load registers.A) ∷ []
        ]) last to
        → Comes
    by_reference inner reference after_is of_part (Some place) told (WordThere there ends) =
        let part = of_part.part in
        let refers = (of_part.types).0 in
        let next = next_lies context of_part.bound inner part of_part.is refers (of_part.types).1 in
        let lies = lies_there facts (locations.Static place) sound next.is next.referred next.types
        (direct_is context facts (reference_after inner 1) place
        (ap (direct (knowing context.site facts)) after_is ∙ told)) in
        subst (λ (of : TypedExpression). Does (loaded_of context.activation) s.budget 0
        (at_place from r memory s.events) (value_in context of s)
        (Arrives context.activation top base to (HighIsGiven context last r memory))) (sym of_part.same)
        (loaded part lies.place lies.is_at
        (high_found part lies.place s s top base memory r sound refers (lies.means s) ready))
      where
        loaded : (part : TypedReference) (there_is : SourcePlace)
            → address_on_machine context.activation there_is ≡ place_at context.activation.layout place
            → HighIsAt context (address_on_machine context.activation there_is) memory s
            (value_in context (ValueNode scalars.Address part) s)
            ⊎ GoesOutside (value_in context (ValueNode scalars.Address part) s)
            → Does (loaded_of context.activation) s.budget 0 (at_place from r memory s.events)
            (value_in context (ValueNode scalars.Address part) s)
            (Arrives context.activation top base to (HighIsGiven context last r memory))
        loaded part there_is is_at (inr outside) =
            does_outside (value_in context (ValueNode scalars.Address part) s) outside
        loaded part there_is is_at (inl high) =
            at_load_a sound there (subst (λ (n : ℕ). IsSteady context.activation n) is_at high.steady) stage
            (λ in_a. at_end ends in_a
            (λ final.
            high_given (value_in context (ValueNode scalars.Address part) s)
            (address_on_machine context.activation there_is) s
            (record r { a = byte_at memory (place_at context.activation.layout place) }) memory
            (ap (byte_at memory) (sym is_at)) high (record { ready = final.ready; known = final.known })))
    by_reference inner reference after_is of_part None told (PartThere {middle = middle} does stand) =
        let part = of_part.part in
        let refers = (of_part.types).0 in
        let next = next_lies context of_part.bound inner part of_part.is refers (of_part.types).1 in
        let height : 2 * height_of_reference (next_part part) ≤ 2 * height_of tree
        = at_most (height_of_reference (next_part part)) (height_of_reference part) (height_of tree)
        next.height (ap height_of of_part.same) in
        let is : IsReference (nodes_in context) context.storage of_part.bound reference (next_part part)
        = subst (λ (given : Reference). IsReference (nodes_in context) context.storage of_part.bound given
        (next_part part)) after_is next.is in
        subst (λ (of : TypedExpression). Does (loaded_of context.activation) s.budget 0
        (at_place from r memory s.events) (value_in context of s)
        (Arrives context.activation top base to (HighIsGiven context last r memory))) (sym of_part.same)
        (where_located (located_in context (next_part part) s)
        (value_in context (ValueNode scalars.Address part) s)
        (does of_part.bound (next_part part) is next.referred next.types top base s r memory below
        (room_for (2 * height_of_reference (next_part part)) height room) ready known tt)
        (λ place t end same given fewer.
        let there : Registers = given.r in
        subst (λ (state : State). Does (loaded_of context.activation) t.budget 0 state
        (value_in context (ValueNode scalars.Address part) s)
        (Arrives context.activation top base to (HighIsGiven context last r memory))) (sym given.is_at)
        (loaded part place t there given.memory middle _ (given.holds).hl stand
        (record { ready = given.ready; known = (given.holds).known })
        (high_found part place s t top base given.memory there sound refers same given.ready)))
        (λ why t same. high_stops context part why s t same))
      where
        at_most : (next part whole : ℕ) → next ≡ part → whole ≡ part → 2 * next ≤ 2 * whole
        at_most next part whole one two = omega (arith, one, two)

        loaded : (part : TypedReference) (place : SourcePlace) (t : SourceState) (there : Registers)
            (ended : List ℕ) (middle : ℕ) (found : Facts)
            → word there.h there.l ≡ address_on_machine context.activation place
            → StepsStand context (PartDoes context) found middle (Plain (load registers.A) ∷ []) last to
            → GoesOn context found top base t.memory t.frame there ended
            → HighIsAt context (address_on_machine context.activation place) ended t
            (value_in context (ValueNode scalars.Address part) s)
            ⊎ GoesOutside (value_in context (ValueNode scalars.Address part) s)
            → Does (loaded_of context.activation) t.budget 0 (at_place middle there ended t.events)
            (value_in context (ValueNode scalars.Address part) s)
            (Arrives context.activation top base to (HighIsGiven context last r memory))
        loaded part place t there ended middle found hl stand on (inr outside) =
            does_outside (value_in context (ValueNode scalars.Address part) s) outside
        loaded part place t there ended middle found hl stand on (inl high) =
            load_a_goes (address_on_machine context.activation place) there sound high.steady hl stand on
            (λ now byte final.
            high_given (value_in context (ValueNode scalars.Address part) s)
            (address_on_machine context.activation place) t now ended
            byte.a high final)

    by_test : (inner reference : Reference) → reference_after inner 1 ≡ reference
        → WordPart context inner tree
        → (in_hl : Bool)
        → StepsStand context (PartDoes context) facts from
        (if in_hl then high_by_hl_steps number pushed
        else elim (direct (knowing context.site facts) reference) [
          | Some place ↦ load_a_steps place
          | None ↦ part (tasks.Address reference) pushed ∷ Plain (load registers.A) ∷ []
        ]) last to
        → Comes
    by_test inner reference after_is of_part true stands = by_hl stands
    by_test inner reference after_is of_part false stands =
        by_reference inner reference after_is of_part
        (direct (knowing context.site facts) reference) refl stands

    by : (found : Option Reference) → high_byte_in_memory (knowing context.site facts) number ≡ found
        → StepsStand context (PartDoes context) facts from
        (elim found [
          | Some reference ↦
              if is_word_in_hl (knowing context.site facts) number then high_by_hl_steps number pushed
              else elim (direct (knowing context.site facts) reference) [
                | Some place ↦ load_a_steps place
                | None ↦ part (tasks.Address reference) pushed ∷ Plain (load registers.A) ∷ []
              ]
          | None ↦ high_by_hl_steps number pushed
        ]) last to
        → Comes
    by None is stands = by_hl stands
    by (Some reference) is stands =
        let again = reference_again (word_in_memory (knowing context.site facts) number) reference is in
        by_test again.0 reference again.2 (word_part facts again.0 sound node types again.1)
        (is_word_in_hl (knowing context.site facts) number) stands
