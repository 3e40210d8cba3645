-- The step of an iterative DO whose variable is an ADDRESS, where it is added: it comes into DE, and is added
-- to the variable in memory.
use Rattle.statement_laws.proofs.Prelude.{◌≡◌, ℕ, ◌+◌, ◌*◌, ◌/◌, ◌%◌, ◌<◌, ◌≤◌, List, [], ◌∷◌, Option, Some, None, refl, ap, ◌∙◌, arith, byte_at, Address, type_of, TypedExpression, next_turn, value, write_scalar, SourceState, Outcome, then_do, Flow, as_type, Carry, Dad, Xchg, De, Registers, carries, high_byte, low_byte, word, wrap, JumpWhere, LoadPair, StoreHl, ExpressionNumber, Place, location_at, place_at, Does, at_place, Facts, LabelNumber, Step, known, knowing, load_word_steps, whole, distances_in, NoneThere, WordThere, known_small, effect, ready_with_registers, word_goes, known_means, at_end, at_instructions, does_same, loaded_in, BodyContext, IsSoundBody, high_is_byte, value_is_word}
use Rattle.treecode.specs.declared.place.Location.TheVariants as locations
use Rattle.steps8080.specs.declared.step.Step.TheVariants as steps
use Rattle.statement_laws.proofs.Loops.CountedBytes.{within_limit}
use Rattle.statement_laws.proofs.Loops.CountedVariables.{variable_address, variable_place}
use Rattle.statement_laws.proofs.Loops.LoadedVariables.{word_loaded}
use Rattle.statement_laws.proofs.Loops.LoopCode.{Steps}
use Rattle.statement_laws.proofs.Loops.LoopMeaning.{scalar_at, stepped_by, stepped_with}
use Rattle.statement_laws.proofs.Loops.LoopRules.{Checks, checks_at, sum_jumps, word_comes}
use Rattle.statement_laws.proofs.Loops.LoopSteps.{HasStep}
use Rattle.statement_laws.proofs.Loops.LoopSums.{HasAdded}
use Rattle.statement_laws.proofs.Loops.LoopTests.{word_step}
use Rattle.statement_laws.proofs.Loops.LoopTurns.{Loop, Out, StageAt}
use Rattle.statement_laws.proofs.Loops.SteadyReads.{steady_read}
use Rattle.statement_laws.proofs.Loops.WordCode.{shld_then, with_word}

-- the value of the step is in DE
pub record ComesToDe (n : ℕ) (now : Registers) : Type 0 where
  pub small : n < 65536
  pub d : now.d ≡ n / 256
  pub e : now.e ≡ n % 256

-- the code with which it comes there
abbrev pub to_de : (found : Option Place) → (step : ExpressionNumber) → List Step
to_de (Some place) step = steps.Word (LoadPair De) place ∷ []
to_de None step = word_step step ∷ steps.Plain Xchg ∷ []

low_small : (n : ℕ) → n % 256 < 256
low_small n = omega arith

pub comes_to_de :
    {at : BodyContext} (loop : Loop at) (facts_of_site : Facts) (found : Option Place)
    (step : ExpressionNumber) (tree : TypedExpression)
    {facts last : Facts} {from to : ℕ} (go : ℕ → SourceState → Outcome Flow) (s : SourceState)
    (r : Registers) (memory : List ℕ)
    → IsSoundBody at
    → HasAdded loop step tree
    → known (knowing at.context.site facts_of_site) step ≡ found
    → Steps at.context facts from (to_de found step) last to
    → StageAt at loop.need loop.base s facts r memory
    → ((n : ℕ) (u : SourceState) (now : Registers) (memory_now : List ℕ)
    → ComesToDe n now
    → u.budget ≤ s.budget
    → StageAt at loop.need loop.base u last now memory_now
    → Does (loaded_in at.context) u.budget 0 (at_place to now memory_now u.events) (go n u) (Out loop))
    → Does (loaded_in at.context) s.budget 0 (at_place from r memory s.events)
    (then_do (value at.context.later at.context.activation.around tree s) go) (Out loop)
comes_to_de {at = at} loop facts_of_site (Some place) step tree go s r memory sound has is
    (WordThere there NoneThere) stage next =
    let number : ℕ = place_at at.context.activation.layout place in
    let small =
    value_is_word (type_of tree) number
    (known_small facts_of_site place sound.sound has.is has.types is) in
    let held = stage.ready.registers in
    let now : Registers = record r { d = high_byte number; e = low_byte number } in
    does_same _
    (ap (λ (one : Outcome ℕ). then_do one go)
    (known_means facts_of_site place sound.sound has.is has.types is s))
    (word_goes (LoadPair De) place r now memory sound.sound there
    (record { ready = stage.ready; known = stage.known }) tt refl
    (λ known.
    next number s now memory (record { small = small; d = refl; e = refl }) (omega arith)
    (record {
      below = stage.below;
      room = stage.room;
      ready = ready_with_registers refl
          (record {
            a = held.a;
            b = held.b;
            c = held.c;
            d = high_is_byte number small;
            e = low_small number;
            h = held.h;
            l = held.l;
          }) stage.ready;
      known = known;
    })))
comes_to_de {at = at} loop facts_of_site None step tree go s r memory sound has is stand stage next =
    word_comes step go s r memory has.is has.types has.fits stand stage
    (λ n u now memory_now known middle comes spent rest there.
    at_instructions (Xchg ∷ []) [] sound.sound (tt, tt) rest there
    (λ place found over exchanged.
    at_end over exchanged
    (λ final.
    next n u (effect (Xchg ∷ []) now) memory_now
    (record { small = comes.small; d = comes.h; e = comes.l }) spent final)))

number_of_halves : (h l low high : ℕ) → l ≡ low → h ≡ high → l + 256 * h ≡ low + 256 * high
number_of_halves h l low high one two = omega (arith, one, two)

words_sum : (h l d e number n : ℕ) → l + 256 * h ≡ number → d ≡ n / 256 → e ≡ n % 256
    → word h l + word d e ≡ number + n
words_sum h l d e number n own high low = omega (arith, own, high, low)

-- DE is added to the ADDRESS in memory
pub add_de_in_memory :
    {at : BodyContext} (loop : Loop at) (limit n : ℕ) (end : LabelNumber) (place : Place)
    {facts loaded found : Facts} {from middle to : ℕ} (t : SourceState) (r : Registers) (memory : List ℕ)
    → (has : HasStep loop Address limit end)
    → (has.counted).location ≡ locations.Static place
    → ComesToDe n r
    → Steps at.context facts from
    (load_word_steps (knowing at.context.site facts) (whole (loop.head).variable)) loaded middle
    → Steps at.context loaded middle
    (steps.Plain (Dad De) ∷ steps.Word StoreHl place ∷ steps.Jump (JumpWhere Carry) end ∷ []) found to
    → t.budget ≤ limit
    → StageAt at loop.need loop.base t facts r memory
    → Checks loop limit found to
    → Does (loaded_in at.context) t.budget 0 (at_place from r memory t.events)
    (stepped_with loop Address n t) (Out loop)
add_de_in_memory {at = at} loop limit n end place t r memory has lies de loads stand fewer stage checks =
    let sound = has.sound.sound in
    let counted = has.counted in
    let variable : ℕ = (loop.head).variable in
    let address : ℕ = variable_address at.context variable in
    steady_read (variable_place at.context variable) t
    (λ number v. then_do
    (write_scalar at.context.activation.around.program Address (variable_place at.context variable)
    (as_type Address (number + n)) v)
    (λ _ w. next_turn at.context.later at.context.activation.around loop.head loop.list (number + n) w))
    sound counted.fits
    (λ steady.
    word_loaded sound counted has.enough loads stage steady.0 steady.1
    (λ in_hl memory_then holds here.
    let number : ℕ = scalar_at Address memory_then address in
    let new : ℕ = (number + n) % 65536 in
    let sum_is : word in_hl.h in_hl.l + word in_hl.d in_hl.e ≡ number + n =
    words_sum in_hl.h in_hl.l in_hl.d in_hl.e number n
    (number_of_halves in_hl.h in_hl.l (byte_at memory_then address) (byte_at memory_then (wrap (address + 1)))
    holds.low holds.high)
    (holds.d ∙ de.d) (holds.e ∙ de.e) in
    stepped_by loop Address n t has.sound counted here.ready
    (λ steady_again.
    at_instructions (Dad De ∷ []) (steps.Word StoreHl place ∷ steps.Jump (JumpWhere Carry) end ∷ [])
    sound (tt, tt) stand here
    (λ place_added known_added at_store added.
    let after : Registers = effect (Dad De ∷ []) in_hl in
    shld_then place (variable_place at.context variable) new
    (λ _ v. next_turn at.context.later at.context.activation.around loop.head loop.list (number + n) v)
    sound (omega arith)
    (ap (λ (m : ℕ). high_byte (wrap m)) sum_is) (ap (λ (m : ℕ). low_byte (wrap m)) sum_is)
    (counted.is_there ∙ ap (location_at at.context.activation (distances_in at.context)) lies)
    counted.fits at_store added
    (λ v budget_is there there_too jump ready_now.
    let left : List ℕ = with_word memory_then address new in
    let fewer_now = within_limit v.budget t.budget limit budget_is fewer in
    sum_jumps loop Address limit (number + n) end Carry v after left has.sound has.scalar_is has.less
    (ap carries sum_is) jump fewer_now ready_now has.ends
    (λ of_type over. checks_at loop limit v after left checks over fewer_now ready_now))))))
