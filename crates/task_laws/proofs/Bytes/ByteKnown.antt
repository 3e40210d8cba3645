-- The low byte of a value that is known as a number or a relocatable address.
use Rattle.task_laws.proofs.Prelude.{◌≡◌, ℕ, ◌/◌, ◌%◌, ◌<◌, true, false, [], ◌∷◌, Option, Some, None, is_some, refl, sym, ap, ◌∙◌, subst, arith, false≢true, option_map_or, Byte, type_of, TypedExpression, TypesHold, values_of, A, L, Registers, LoadPair, Hl, Expression, ExpressionNumber, Place, Number, Code, Data, External, number_of_place, IsExpression, place_number, is_free_of, known_of, no_traits, traits_of, known_kept, place_at, Facts, Plain, Word, copy, low, is_free, known, known_byte_steps, knowing, byte_number_steps, Context, IsSound, nodes_in, StepsStand, WordThere, PartDoes}
use Rattle.task_laws.proofs.Bytes.ByteCode.{ByteCarried, at_last_instructions, changes_on}
use Rattle.task_laws.proofs.Bytes.ByteForms.{byte_given}
use Rattle.task_laws.proofs.Bytes.HighHalves.{byte_number_code}
use Rattle.task_laws.proofs.Machine.KnownOperands.{KnownFits, bytes_differ, known_fits, known_small, word_fits}
use Rattle.task_laws.proofs.Machine.Nodes.{NodeOf, node_of}
use Rattle.task_laws.proofs.Machine.Rules.{ready_with_registers, word_goes}
use Rattle.steps8080.proofs.SiteTraits.{known_is}
use Rattle.task_laws.proofs.Machine.SiteNodes.{free_is, known_means}
use Rattle.task_laws.proofs.Machine.Stages.{does_same}

-- a value is known at a site if its form says so
pub known_by_form :
    {context : Context} {number : ExpressionNumber} {tree : TypedExpression} (facts : Facts)
    (node : NodeOf context number tree)
    → known (knowing context.site facts) number ≡ known_of (nodes_in context) (type_of tree) node.found.form
unfolding known traits_of
known_by_form facts node =
    ap (λ (found : Option Expression). elim found [
      | Some expression ↦ expression.traits.known
      | None ↦ None
    ]) (node.at_site facts)
    ∙ ap (λ traits. traits.known) node.traits

-- a node is free according to its form and its known value
pub free_by_known :
    {context : Context} {number : ExpressionNumber} {tree : TypedExpression} (found : Option Place)
    (node : NodeOf context number tree)
    → known_of (nodes_in context) (type_of tree) node.found.form ≡ found
    → is_free context.site number ≡ is_free_of (nodes_in context) (type_of tree) found node.found.form
unfolding traits_of
free_by_known {context = context} {number = number} {tree = tree} found node same =
    free_is context.site number
    ∙ (ap (λ (one : Option Expression). (option_map_or (λ (given : Expression). given.traits) one
    no_traits).is_free) node.is_there
    ∙ (ap (λ traits. traits.is_free) node.traits
    ∙ ap (λ (known : Option Place). is_free_of (nodes_in context) (type_of tree) known node.found.form) same))

fits_place :
    {context : Context} {bound : ℕ} {number : ExpressionNumber} {tree : TypedExpression}
    (facts : Facts) (place : Place)
    → IsSound context
    → IsExpression (nodes_in context) context.storage bound number.index tree
    → TypesHold context.typed context.within tree
    → known (knowing context.site facts) number ≡ Some place
    → KnownFits (Some place) (type_of tree)
fits_place {context = context} {number = number} {tree = tree} facts place sound is types here =
    subst (λ (one : Option Place). KnownFits one (type_of tree))
    (sym (known_kept (nodes_in context) context.storage sound.lowered.traits is) ∙ sym
    (known_is (knowing context.site facts) number) ∙ here)
    (known_fits context sound.numbers is types)

-- a BYTE that is known is a number, and free
pub known_byte_free :
    {context : Context} {bound : ℕ} {number : ExpressionNumber} {tree : TypedExpression}
    (facts : Facts) (place : Place)
    → IsSound context
    → IsExpression (nodes_in context) context.storage bound number.index tree
    → TypesHold context.typed context.within tree
    → type_of tree ≡ Byte
    → known (knowing context.site facts) number ≡ Some place
    → is_free context.site number ≡ true
known_byte_free {context = context} {number = number} {tree = tree} facts place sound is types byte here =
    let node : NodeOf context number tree = node_of sound is in
    free_by_known (Some place) node (sym (known_by_form facts node) ∙ here)
    ∙ by place (fits_place facts place sound is types here)
  where
    by : (place : Place) → KnownFits (Some place) (type_of tree)
        → is_some (number_of_place place) ≡ true
    by (Number n) fits = refl
    by (Code offset) fits = bytes_differ (sym byte ∙ fits)
    by (Data offset) fits = bytes_differ (sym byte ∙ fits)
    by (External offset name) fits = bytes_differ (sym byte ∙ fits)

-- the code of a known value
pub known_law :
    {context : Context} {facts last : Facts} {from to bound : ℕ} {tree : TypedExpression}
    (number : ExpressionNumber)
    (place : Place) (pushed : ℕ)
    → IsSound context
    → IsExpression (nodes_in context) context.storage bound number.index tree
    → TypesHold context.typed context.within tree
    → known (knowing context.site facts) number ≡ Some place
    → StepsStand context (PartDoes context) facts from (known_byte_steps place) last to
    → ByteCarried context facts number tree pushed from last to
unfolding known_byte_steps
known_law {context = context} {facts = facts} {last = last} {from = from} {to = to} {tree = tree} number place
    pushed sound is types here stand =
    by place refl stand
  where
    node : NodeOf context number tree
    node = node_of sound is

    free_here : is_free context.site number ≡ is_some (number_of_place place)
    free_here = free_by_known (Some place) node (sym (known_by_form facts node) ∙ here)

    -- a value that is not a number, through HL
    by_word : (there : Place) → place ≡ there → is_some (number_of_place there) ≡ false
        → StepsStand context (PartDoes context) facts from
        (Word (LoadPair Hl) there ∷ Plain (copy A L) ∷ []) last to
        → ByteCarried context facts number tree pushed from last to
    by_word there same symbolic (WordThere stands rest) top base s r memory below room ready
        known_before nothing =
        let word : ℕ = place_at context.activation.layout there in
        let small_here : place_at context.activation.layout place < values_of (type_of tree)
        = known_small facts place sound is types here in
        let small : word < values_of (type_of tree)
        = subst (λ (one : Place). place_at context.activation.layout one < values_of (type_of tree)) same
        small_here in
        let wide : word < 65536 = word_fits word (type_of tree) small in
        let bytes = ready.registers in
        let loaded : Registers = record r { h = word / 256; l = word % 256 } in
        does_same _ (known_means facts there sound is types (here ∙ ap Some same) s)
        (word_goes (LoadPair Hl) there r loaded memory sound stands
        (record { ready = ready; known = known_before }) tt refl
        (λ known_now.
        at_last_instructions (copy A L ∷ []) sound (tt, tt) rest
        (record {
          below = below;
          room = room;
          ready = ready_with_registers {now = loaded} refl
              (record {
                a = bytes.a;
                b = bytes.b;
                c = bytes.c;
                d = bytes.d;
                e = bytes.e;
                h = omega (arith, wide);
                l = omega arith;
              }) ready;
          known = known_now;
        })
        (λ final.
        byte_given to number word refl small
        (λ free. absurd (false≢true (sym symbolic
        ∙ ap (λ (one : Place). is_some (number_of_place one)) (sym same) ∙ sym free_here ∙ free)))
        final)))

    by : (there : Place) → place ≡ there
        → StepsStand context (PartDoes context) facts from
        (elim (place_number there) [
          | Some n ↦ byte_number_steps (low n)
          | None ↦ Word (LoadPair Hl) there ∷ Plain (copy A L) ∷ []
        ]) last to
        → ByteCarried context facts number tree pushed from last to
    by (Number n) same given = λ top base s r memory below room ready known_before nothing.
        let code = byte_number_code (n % 256) in
        let small : n < values_of (type_of tree)
        = subst (λ (one : Place). place_at context.activation.layout one < values_of (type_of tree)) same
        (known_small facts place sound is types here) in
        does_same _ (known_means facts (Number n) sound is types (here ∙ ap Some same) s)
        (at_last_instructions code.instructions sound code.on
        (subst (λ steps. StepsStand context (PartDoes context) facts from steps last to) code.same given)
        (record { below = below; room = room; ready = ready; known = known_before })
        (λ final.
        byte_given to number n (code.makes r ready.registers.a) small
        (λ free. changes_on
        (record { b = refl; c = refl; d = refl; e = refl; h = refl; l = refl; same_memory = refl })
        (code.beside r)) final))
    by (Code offset) same given = by_word (Code offset) same refl given
    by (Data offset) same given = by_word (Data offset) same refl given
    by (External offset name) same given = by_word (External offset name) same refl given
