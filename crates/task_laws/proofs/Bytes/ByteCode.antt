-- The low byte of a value with one part that counts: code on registers follows that of the part.
use Rattle.task_laws.proofs.Prelude.{◌≡◌, ℕ, zero, suc, ◌*◌, ◌/◌, ◌%◌, ◌<◌, ◌≤◌, Bool, true, false, List, [], ◌∷◌, replicate, refl, sym, ap, ◌∙◌, subst, arith, false≢true, height_of, type_of, TypedExpression, TypesHold, SourceState, Ended, More, Outside, Outcome, Gave, Stopped, then_do, values_of, Instr, Dcr, Inr, Of, A, Flags, decrement_of, increment_of, Registers, State, times, ExpressionNumber, IsExpression, Facts, Part, Step, part, plain, Arrives, Does, Loaded, Lands, at_place, does_without_step, is_free, Context, IsSound, SourceFits, nodes_in, StepsStand, PartThere, PlainThere, ByteIsGiven, Carries, ChangesAOnly, EffectsDo, Know, Nothing, PartDoes}
use Rattle.steps8080.specs.declared.step.Task.TheVariants as tasks
use Rattle.task_laws.proofs.Bytes.ByteForms.{byte_given}
use Rattle.task_laws.proofs.Ranges.Ranges.{ready_fits}
use Rattle.task_laws.proofs.Machine.RegisterCode.{AreOnRegisters, IsOnRegisters, does_to, effect}
use Rattle.task_laws.proofs.Machine.SiteNodes.{value_in}
use Rattle.task_laws.proofs.Machine.Stages.{Stage, stage_with_a, at_byte, at_carried, at_effects, at_end, at_instructions, at_word, does_same, gives_then, loaded_in}

-- B, C, D, E, H and L are the same
pub record IsBeside (r now : Registers) : Type 0 where
  pub b : now.b ≡ r.b
  pub c : now.c ≡ r.c
  pub d : now.d ≡ r.d
  pub e : now.e ≡ r.e
  pub h : now.h ≡ r.h
  pub l : now.l ≡ r.l

pub beside_itself : (r : Registers) → IsBeside r r
beside_itself r = record { b = refl; c = refl; d = refl; e = refl; h = refl; l = refl }

-- other flags and another byte in A
pub beside_a : (a : ℕ) (flags : Flags) (r : Registers) → IsBeside r (record r { a = a; flags = flags })
beside_a a flags r = record { b = refl; c = refl; d = refl; e = refl; h = refl; l = refl }

pub beside_on : {r now after : Registers} → IsBeside r now → IsBeside now after → IsBeside r after
beside_on one other = record {
  b = other.b ∙ one.b;
  c = other.c ∙ one.c;
  d = other.d ∙ one.d;
  e = other.e ∙ one.e;
  h = other.h ∙ one.h;
  l = other.l ∙ one.l;
}

-- after code that changes A alone, other code that does so
pub changes_on :
    {r now after : Registers} {memory memory_now : List ℕ}
    → ChangesAOnly r memory now memory_now
    → IsBeside now after
    → ChangesAOnly r memory after memory_now
changes_on one other = record {
  b = other.b ∙ one.b;
  c = other.c ∙ one.c;
  d = other.d ∙ one.d;
  e = other.e ∙ one.e;
  h = other.h ∙ one.h;
  l = other.l ∙ one.l;
  same_memory = one.same_memory;
}

-- an instruction that changes only A, `count` times
pub repeats_on_a :
    (i : Instr) (f : ℕ → ℕ) (count : ℕ) (r : Registers)
    → ((now : Registers) → ((does_to i now).a ≡ f now.a) × IsBeside now (does_to i now))
    → ((effect (replicate count i) r).a ≡ times f count r.a) × IsBeside r (effect (replicate count i) r)
repeats_on_a i f zero r does = (refl, beside_itself r)
repeats_on_a i f (suc count) r does =
    let first = does r in
    let rest = repeats_on_a i f count (does_to i r) does in
    (rest.0 ∙ ap (λ byte. times f count byte) first.0, beside_on first.1 rest.1)

-- an instruction on registers alone, one more or one less in A among them
abbrev pub IsStraight : Instr → Type 0
IsStraight (Inr (Of A)) = Unit {0}
IsStraight (Dcr (Of A)) = Unit {0}
IsStraight i = IsOnRegisters i

abbrev pub AreStraight : List Instr → Type 0
AreStraight [] = Unit {0}
AreStraight (i ∷ others) = IsStraight i × AreStraight others

pub straight_so : (i : Instr) → IsOnRegisters i → IsStraight i
straight_so (Inr operand) on = absurd on
straight_so (Dcr operand) on = absurd on
straight_so i on = on

pub all_straight : (instructions : List Instr) → AreOnRegisters instructions → AreStraight instructions
all_straight [] on = tt
all_straight (i ∷ others) on = (straight_so i on.0, all_straight others on.1)

-- the last instructions of code
pub at_last_instructions :
    {A : Type 0} {context : Context}
    {PartIs : (before : Facts) → Part → (from : ℕ) → (after : Facts) → (to : ℕ) → Type 0}
    {top pushed need : ℕ} {base : List ℕ} {t : SourceState} {last : Facts}
    {memory : List ℕ} {to budget more : ℕ} {outcome : Outcome A}
    {Good : A → SourceState → State → Type 0} (instructions : List Instr)
    {facts : Facts} {r : Registers} {from : ℕ}
    → IsSound context
    → AreStraight instructions
    → StepsStand context PartIs facts from (plain instructions) last to
    → Stage context top pushed need base t facts r memory
    → (Stage context top pushed need base t last (effect instructions r) memory
    → Does (loaded_in context) budget more (at_place to (effect instructions r) memory t.events) outcome Good)
    → Does (loaded_in context) budget more (at_place from r memory t.events) outcome Good
at_last_instructions [] sound on stand stage rest = at_end stand stage rest
at_last_instructions (Inr (Of A) ∷ others) {r = r} sound on (PlainThere there stand) stage rest =
    stage_with_a (increment_of r.a r.flags).value (increment_of r.a r.flags).flags sound stage there
    refl (omega arith) tt
    (λ next. at_last_instructions others sound on.1 stand next rest)
at_last_instructions (Dcr (Of A) ∷ others) {r = r} sound on (PlainThere there stand) stage rest =
    stage_with_a (decrement_of r.a r.flags).value (decrement_of r.a r.flags).flags sound stage there
    refl (omega arith) tt
    (λ next. at_last_instructions others sound on.1 stand next rest)
at_last_instructions (i ∷ others) sound on stand stage rest =
    at_instructions (i ∷ []) (plain others) sound (on.0, tt) stand stage
    (λ middle found ends next. at_last_instructions others sound on.1 ends next rest)

-- at the end of a run, the equation for its outcome may be used
pub with_outcome :
    {A : Type 0} {loaded : Loaded} {budget more : ℕ} {from : State} (outcome : Outcome A)
    {Good Better : A → SourceState → State → Type 0}
    → Does loaded budget more from outcome Good
    → ((found : A) (t : SourceState) (end : State) → outcome ≡ Gave found t → Good found t end → Better found
    t end)
    → Does loaded budget more from outcome Better
with_outcome {loaded = loaded} {budget = budget} {more = more} {from = from} (Gave found t)
    {Good = Good} does better =
    let lands : Lands loaded.program.script budget more from t.budget (Good found t) = does.told in
    record {
      told = record {
        count = lands.count;
        end = lands.end;
        run = lands.run;
        paid = lands.paid;
        spent = lands.spent;
        is_good = better found t lands.end refl lands.is_good;
      };
    }
with_outcome (Stopped Ended t) does better = record { told = does.told }
with_outcome (Stopped More t) does better = record { told = does.told }
with_outcome (Stopped (Outside reason) t) does better = record { told = tt }

-- the effects of an expression are carried out, by code that changes A alone
pub record FreeEffectsAreGiven
    (context : Context) (after : Facts) (r : Registers) (memory : List ℕ) (found : ℕ) (now : Registers)
    (memory_now : List ℕ) : Type 0 where
  pub known : Know context after now memory_now
  pub free : ChangesAOnly r memory now memory_now

-- Code of the effects of an expression that is free changes A alone.
abbrev pub FreeEffects : Context → Type 0
FreeEffects context =
    (facts last : Facts) (number : ExpressionNumber) (pushed from to bound : ℕ) (tree : TypedExpression)
    → EffectsDo context facts number pushed from last to
    → is_free context.site number ≡ true
    → IsExpression (nodes_in context) context.storage bound number.index tree
    → TypesHold context.typed context.within tree
    → Carries context facts pushed (2 * height_of tree) 0 from to Nothing (value_in context tree)
    (FreeEffectsAreGiven context last)

pub free_effects : (context : Context) → FreeEffects context
free_effects context facts last number pushed from to bound tree does free is types top base s r memory below
    room ready known asked =
    gives_then (value_in context tree s)
    (does bound tree is types top base s r memory below room ready known tt)
    (λ found t end arrives spent. does_without_step (record {
      r = arrives.r;
      memory = arrives.memory;
      is_at = arrives.is_at;
      ready = arrives.ready;
      holds = record { known = (arrives.holds).known; free = (arrives.holds).free free };
    }))

-- the low byte of a tree is put into A
abbrev pub ByteCarried :
    Context → (facts : Facts) → (number : ExpressionNumber) → TypedExpression
    → (pushed from : ℕ) → (last : Facts)
    → (to : ℕ) → Type 0
ByteCarried context facts number tree pushed from last to =
    Carries context facts pushed (2 * height_of tree) 0 from to Nothing (value_in context tree)
    (ByteIsGiven context last number (type_of tree))

-- a tree with a value that is a function of that of one part, which is below a limit; nothing else is done
pub record OfOne
    (context : Context) (number inner : ExpressionNumber) (tree inside : TypedExpression) (g : ℕ → ℕ)
    (limit : ℕ) : Type 0 where
  pub bound : ℕ
  pub node : IsExpression (nodes_in context) context.storage bound inner.index inside
  pub types : TypesHold context.typed context.within inside
  pub fewer : 2 * height_of inside ≤ 2 * height_of tree
  pub means :
      (t : SourceState) → value_in context tree t ≡ then_do (value_in context inside t) (λ v u. Gave (g v) u)
  pub fits :
      (s u : SourceState) (v : ℕ) → SourceFits context.activation.around s → value_in context inside s ≡ Gave
      v u
      → v < limit
  pub small : (v : ℕ) → v < limit → g v < values_of (type_of tree)
  pub free : is_free context.site number ≡ true → is_free context.site inner ≡ true

-- code on registers that makes a byte of A, and leaves the others alone
pub record CodeOfA (steps : List Step) (f : ℕ → ℕ) : Type 0 where
  pub instructions : List Instr
  pub same : steps ≡ plain instructions
  pub on : AreStraight instructions
  pub makes : (r : Registers) → r.a < 256 → (effect instructions r).a ≡ f r.a
  pub beside : (r : Registers) → IsBeside r (effect instructions r)

module _
    (context : Context) {facts last : Facts} {from to pushed : ℕ} {number inner : ExpressionNumber}
    {tree inside : TypedExpression} {g : ℕ → ℕ} {limit : ℕ} (sound : IsSound context)
    (one : OfOne context number inner tree inside g limit) where
  -- by the low byte of the part
  pub byte_makes :
      (instructions : List Instr) (f : ℕ → ℕ)
      → AreStraight instructions
      → ((r : Registers) → r.a < 256 → (effect instructions r).a ≡ f r.a)
      → (is_free context.site number ≡ true → (r : Registers) → IsBeside r (effect instructions r))
      → ((v : ℕ) → v < limit → f (v % 256) ≡ g v % 256)
      → StepsStand context (PartDoes context) facts from (part (tasks.Byte inner) pushed ∷ plain instructions)
      last to
      → ByteCarried context facts number tree pushed from last to
  byte_makes instructions f on makes beside bytes (PartThere does stand) top base s r memory below room
      ready known nothing =
      does_same _ (one.means s)
      (at_byte _ _ _ does one.node one.types one.fewer
      (record { below = below; room = room; ready = ready; known = known })
      (λ v u now memory_now is given next.
      let fits = one.fits s u v (ready_fits context s ready) is in
      at_last_instructions instructions sound on stand next
      (λ final.
      byte_given to number (g v) (makes now next.ready.registers.a ∙ ap f given.a ∙ bytes v fits)
      (one.small v fits)
      (λ free. changes_on (given.free (one.free free)) (beside free now)) final)))

  -- by the word that it is
  pub byte_of_word :
      (instructions : List Instr) (f : (h l : ℕ) → ℕ)
      → AreStraight instructions
      → ((r : Registers) → r.h < 256 → r.l < 256 → (effect instructions r).a ≡ f r.h r.l)
      → (is_free context.site number ≡ true → ⊥)
      → ((v : ℕ) → v < limit → f (v / 256) (v % 256) ≡ g v % 256)
      → StepsStand context (PartDoes context) facts from (part (tasks.Word inner) pushed ∷ plain instructions)
      last to
      → ByteCarried context facts number tree pushed from last to
  byte_of_word instructions f on makes not_free bytes (PartThere does stand) top base s r memory below room
      ready known nothing =
      does_same _ (one.means s)
      (at_word _ _ _ does one.node one.types one.fewer
      (record { below = below; room = room; ready = ready; known = known })
      (λ v u now memory_now is given next.
      let fits = one.fits s u v (ready_fits context s ready) is in
      at_last_instructions instructions sound on stand next
      (λ final.
      byte_given to number (g v)
      (makes now next.ready.registers.h next.ready.registers.l
      ∙ ap (λ h. f h now.l) given.h ∙ ap (λ l. f (v / 256) l) given.l ∙ bytes v fits)
      (one.small v fits) (λ free. absurd (not_free free)) final)))

  -- any value, after its effects
  pub byte_alone :
      (instructions : List Instr) (k : ℕ)
      → AreStraight instructions
      → ((r : Registers) → (effect instructions r).a ≡ k)
      → (is_free context.site number ≡ true → (r : Registers) → IsBeside r (effect instructions r))
      → ((v : ℕ) → v < limit → k ≡ g v % 256)
      → StepsStand context (PartDoes context) facts from
      (part (tasks.Effects inner) pushed ∷ plain instructions) last to
      → ByteCarried context facts number tree pushed from last to
  byte_alone instructions k on makes beside bytes (PartThere {found = found} {middle = middle} does stand) top
      base s r memory below room ready known nothing =
      does_same _ (one.means s) (by (is_free context.site number) refl)
    where
      stage : Stage context top pushed (2 * height_of tree) base s facts r memory
      stage = record { below = below; room = room; ready = ready; known = known }

      ends :
          (v : ℕ) (u : SourceState) (now : Registers) (memory_now : List ℕ)
          → value_in context inside s ≡ Gave v u
          → (is_free context.site number ≡ true → ChangesAOnly r memory now memory_now)
          → Stage context top pushed (2 * height_of tree) base u found now memory_now
          → Does (loaded_in context) u.budget 0 (at_place middle now memory_now u.events) (Gave (g v) u)
          (Arrives context.activation top base to (ByteIsGiven context last number (type_of tree) r memory))
      ends v u now memory_now is free next =
          let fits = one.fits s u v (ready_fits context s ready) is in
          at_last_instructions instructions sound on stand next
          (λ final.
          byte_given to number (g v) (makes now ∙ bytes v fits) (one.small v fits)
          (λ is_free_now. changes_on (free is_free_now) (beside is_free_now now)) final)

      by : (free : Bool) → is_free context.site number ≡ free
          → Does (loaded_in context) s.budget 0 (at_place from r memory s.events)
          (then_do (value_in context inside s) (λ v u. Gave (g v) u))
          (Arrives context.activation top base to (ByteIsGiven context last number (type_of tree) r memory))
      by true is =
          at_carried _ _ _
          (free_effects context facts found inner pushed from middle one.bound inside does
          (one.free is) one.node one.types)
          one.fewer tt
          (λ v now memory_now (given : FreeEffectsAreGiven context found r memory v now memory_now). given.known) stage
          (λ v u now memory_now same given next. ends v u now memory_now same (λ free. given.free) next)
      by false is =
          at_effects _ _ _ does one.node one.types one.fewer stage
          (λ v u now memory_now same next. ends v u now memory_now same
          (λ free. absurd (false≢true (sym is ∙ free))) next)

  -- the same, from the result of the code
  pub byte_by_code :
      {steps : List Step} {f : ℕ → ℕ}
      → CodeOfA steps f
      → ((v : ℕ) → v < limit → f (v % 256) ≡ g v % 256)
      → StepsStand context (PartDoes context) facts from (part (tasks.Byte inner) pushed ∷ steps) last to
      → ByteCarried context facts number tree pushed from last to
  byte_by_code {f = f} code bytes stand =
      byte_makes code.instructions f code.on code.makes (λ free. code.beside) bytes
      (subst (λ (steps : List Step). StepsStand context (PartDoes context) facts from
      (part (tasks.Byte inner) pushed ∷ steps) last to) code.same stand)
