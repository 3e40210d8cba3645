-- The code of the high byte of a value.
use Rattle.task_laws.proofs.Prelude.{◌≡◌, ℕ, ◌*◌, ◌/◌, ◌==◌, Bool, true, false, List, [], ◌∷◌, Option, Some, None, option_map, option_and_then, refl, sym, ap, ◌∙◌, subst, arith, if◌then◌else◌, eqb-true, none-some, same_Some, ScalarType, Byte, Address, height_of, type_of, TypedExpression, TypedReference, ValueNode, TypesHold, SourceState, Gave, A, H, Registers, Expression, ExpressionForm, ExpressionNumber, Reference, IsExpression, IsReference, IsForm, IsNumber, IsValue, IsLocation, IsConstantList, IsConversion, IsEmbedded, IsUnary, IsBinary, IsCallOf, IsFunction, IsShift, IsInput, Arrives, HasRoom, Does, loaded_of, at_place, does_without_step, Facts, Plain, clear_a, copy, high, set, part, number_of, reference_after, fits_byte, high_byte_in_memory, word_in_memory, word_of, byte_in_memory_steps, knowing, byte_number_steps, high_byte_steps, Context, IsSound, nodes_in, StepsStand, PartThere, Carries, Nothing, PartDoes}
use Rattle.steps8080.specs.declared.step.Task.TheVariants as tasks
use Rattle.task_laws.proofs.Branches.Branches.{given_itself}
use Rattle.task_laws.proofs.Bytes.ByteCode.{CodeOfA, at_last_instructions, beside_a, with_outcome}
use Rattle.task_laws.proofs.Bytes.ByteNumbers.{cleared}
use Rattle.task_laws.proofs.Bytes.BytesAsked.{HighIsGiven}
use Rattle.task_laws.proofs.Bytes.HighBytes.{high_in_memory_law}
use Rattle.task_laws.proofs.Machine.Nodes.{NodeOf, node_of}
use Rattle.task_laws.proofs.Ranges.Ranges.{fits_means, ready_fits}
use Rattle.task_laws.proofs.Machine.SiteNodes.{number_means, value_in}
use Rattle.task_laws.proofs.Machine.Stages.{Stage, at_effects, at_word, does_same, loaded_in}
use Rattle.task_laws.proofs.Numbers.{no_high_byte}

-- a number into A
pub byte_number_code : (k : ℕ) → CodeOfA (byte_number_steps k) (λ x. k)
unfolding byte_number_steps
byte_number_code k = by (k == 0) refl
  where
    by : (none : Bool) → (k == 0) ≡ none
        → CodeOfA (if none then Plain clear_a ∷ [] else Plain (set A k) ∷ []) (λ x. k)
    by true here = record {
      instructions = clear_a ∷ [];
      same = refl;
      on = (tt, tt);
      makes = λ r small. cleared r ∙ sym (eqb-true k 0 here);
      beside = λ r. beside_a _ _ r;
    }
    by false here = record {
      instructions = set A k ∷ [];
      same = refl;
      on = (tt, tt);
      makes = λ r small. refl;
      beside = λ r. beside_a _ _ r;
    }

-- the high byte is there
high_given :
    {context : Context} {top pushed need : ℕ} {base : List ℕ} {u : SourceState} {last : Facts}
    {r now : Registers} {memory memory_now : List ℕ} (to found : ℕ)
    → now.a ≡ found / 256
    → Stage context top pushed need base u last now memory_now
    → Does (loaded_in context) u.budget 0 (at_place to now memory_now u.events) (Gave found u)
    (Arrives context.activation top base to (HighIsGiven context last r memory))
high_given {now = now} {memory_now = memory_now} to found a stage =
    does_without_step (record {
      r = now;
      memory = memory_now;
      is_at = refl;
      ready = stage.ready;
      holds = record { a = a; known = stage.known };
    })

-- a reference to an ADDRESS
abbrev IsWordOf : Context → TypedExpression → Reference → Type 0
IsWordOf context tree reference =
    (bound : ℕ) × (part : TypedReference)
    × IsReference (nodes_in context) context.storage bound reference part
    × (tree ≡ ValueNode Address part)

word_form :
    (context : Context) {bound : ℕ} {form : ExpressionForm} {tree : TypedExpression} {reference : Reference}
    → IsForm (nodes_in context) context.storage bound form tree
    → word_of form (type_of tree) ≡ Some reference
    → IsWordOf context tree reference
word_form context {bound = bound} (IsValue {scalar = Address} {reference = found} {part = part_of} is) same =
    subst (λ (one : Reference). IsWordOf context (ValueNode Address part_of) one)
    (same_Some found _ same) (bound, part_of, is, refl)
word_form context (IsValue {scalar = Byte} is) same = absurd (none-some _ same)
word_form context IsNumber same = absurd (none-some _ same)
word_form context (IsLocation is) same = absurd (none-some _ same)
word_form context IsConstantList same = absurd (none-some _ same)
word_form context (IsConversion is) same = absurd (none-some _ same)
word_form context (IsEmbedded target is) same = absurd (none-some _ same)
word_form context (IsUnary is) same = absurd (none-some _ same)
word_form context (IsBinary one two) same = absurd (none-some _ same)
word_form context (IsCallOf given) same = absurd (none-some _ same)
word_form context (IsFunction is) same = absurd (none-some _ same)
word_form context (IsShift one two) same = absurd (none-some _ same)
word_form context IsInput same = absurd (none-some _ same)

-- the code of the high byte
pub high_byte_law :
    {context : Context} {facts last : Facts} {inner : ExpressionNumber} {pushed from to bound : ℕ}
    {inside : TypedExpression}
    → IsSound context
    → IsExpression (nodes_in context) context.storage bound inner.index inside
    → TypesHold context.typed context.within inside
    → StepsStand context (PartDoes context) facts from
    (high_byte_steps (knowing context.site facts) inner pushed) last to
    → Carries context facts pushed (2 * height_of inside) 0 from to Nothing (value_in context inside)
    (HighIsGiven context last)
unfolding high_byte_steps high_byte_in_memory word_in_memory
high_byte_law {context = context} {facts = facts} {last = last} {inner = inner} {pushed = pushed}
    {from = from} {to = to} {inside = inside} sound is types stand top base s r memory below room
    ready known nothing =
    by_number (number_of (knowing context.site facts) inner) refl stand
  where
    stage : Stage context top pushed (2 * height_of inside) base s facts r memory
    stage = record { below = below; room = room; ready = ready; known = known }

    node : NodeOf context inner inside
    node = node_of sound is

    DoesIt : Type 0
    DoesIt =
        Does (loaded_of context.activation) s.budget 0 (at_place from r memory s.events)
        (value_in context inside s)
        (Arrives context.activation top base to (HighIsGiven context last r memory))

    by_memory : (found : Option Reference)
        → word_of node.found.form (type_of inside) ≡ found
        → StepsStand context (PartDoes context) facts from
        (elim (option_map (λ reference. reference_after reference 1) found) [
          | Some reference ↦ byte_in_memory_steps (knowing context.site facts) reference pushed
          | None ↦ part (tasks.Word inner) pushed ∷ Plain (copy A H) ∷ []
        ]) last to
        → DoesIt
    by_memory (Some reference) here given =
        let word = word_form context node.form here in
        by_word word.0 word.1 word.2 word.3
      where
        by_word : (bound_of : ℕ) (part_of : TypedReference)
            → IsReference (nodes_in context) context.storage bound_of reference part_of
            → inside ≡ ValueNode Address part_of
            → DoesIt
        by_word bound_of part_of is_part same =
            let types_there =
            subst (λ (tree : TypedExpression). TypesHold context.typed context.within tree) same types in
            subst (λ (tree : TypedExpression).
            HasRoom context.activation top pushed (2 * height_of tree)
            → Does (loaded_of context.activation) s.budget 0 (at_place from r memory s.events)
            (value_in context tree s)
            (Arrives context.activation top base to (HighIsGiven context last r memory))) (sym same)
            (λ room_there.
            with_outcome (value_in context (ValueNode Address part_of) s)
            (high_in_memory_law sound given is_part types_there.0 types_there.1 top base s r memory below
            room_there ready known tt)
            (λ found t end equal arrives. record {
              r = arrives.r;
              memory = arrives.memory;
              is_at = arrives.is_at;
              ready = arrives.ready;
              holds = record { a = (arrives.holds).a; known = (arrives.holds).known };
            }))
            room
    by_memory None here (PartThere does stands) =
        does_same _ (given_itself (value_in context inside s))
        (at_word _ _ _ does is types (omega arith) stage
        (λ v u now memory_now equal given next.
        at_last_instructions (copy A H ∷ []) sound (tt, tt) stands next
        (λ final. high_given to v given.h final)))

    by_fits : (fits : Bool) → fits_byte (knowing context.site facts) inner ≡ fits
        → StepsStand context (PartDoes context) facts from
        (if fits then part (tasks.Effects inner) pushed ∷ Plain clear_a ∷ []
        else elim (high_byte_in_memory (knowing context.site facts) inner) [
          | Some reference ↦ byte_in_memory_steps (knowing context.site facts) reference pushed
          | None ↦ part (tasks.Word inner) pushed ∷ Plain (copy A H) ∷ []
        ]) last to
        → DoesIt
    by_fits true here (PartThere does stands) =
        does_same _ (given_itself (value_in context inside s))
        (at_effects _ _ _ does is types (omega arith) stage
        (λ v u now memory_now equal next.
        let small = fits_means context sound facts s is types here (ready_fits context s ready) equal in
        at_last_instructions (clear_a ∷ []) sound (tt, tt) stands next
        (λ final. high_given to v (cleared now ∙ no_high_byte v small) final)))
    by_fits false here given =
        by_memory (word_of node.found.form (type_of inside)) refl
        (subst (λ (found : Option Reference). StepsStand context (PartDoes context) facts from
        (elim (option_map (λ reference. reference_after reference 1) found) [
          | Some reference ↦ byte_in_memory_steps (knowing context.site facts) reference pushed
          | None ↦ part (tasks.Word inner) pushed ∷ Plain (copy A H) ∷ []
        ]) last to)
        (ap (λ (found : Option Expression). option_and_then
        (λ (one : Expression). word_of one.form one.traits.scalar) found) (node.at_site facts)
        ∙ ap (λ (scalar : ScalarType). word_of node.found.form scalar) node.scalar) given)

    by_number : (found : Option ℕ) → number_of (knowing context.site facts) inner ≡ found
        → StepsStand context (PartDoes context) facts from
        (elim found [
          | Some number ↦ byte_number_steps (high number)
          | None ↦
              if fits_byte (knowing context.site facts) inner then part (tasks.Effects inner) pushed
              ∷ Plain clear_a ∷ []
              else elim (high_byte_in_memory (knowing context.site facts) inner) [
                | Some reference ↦ byte_in_memory_steps (knowing context.site facts) reference pushed
                | None ↦ part (tasks.Word inner) pushed ∷ Plain (copy A H) ∷ []
              ]
        ]) last to
        → DoesIt
    by_number (Some n) here given =
        let code = byte_number_code (n / 256) in
        does_same _ (number_means facts n sound is types here s)
        (at_last_instructions code.instructions sound code.on
        (subst (λ steps. StepsStand context (PartDoes context) facts from steps last to) code.same given)
        stage
        (λ final. high_given to n (code.makes r ready.registers.a) final))
    by_number None here given = by_fits (fits_byte (knowing context.site facts) inner) refl given
