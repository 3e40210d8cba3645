-- Code of CALL MOVE does what it says.
use Rattle.statement_laws.proofs.Prelude.{◌≡◌, ℕ, ◌+◌, ◌-◌, ◌*◌, ◌/◌, ◌%◌, ◌<◌, ◌≤◌, min, max, Bool, true, false, if◌then◌else◌, List, [], ◌∷◌, ◌++◌, map, slice_get, Option, Some, None, refl, sym, ap, subst, ◌∙◌, arith, same_Some, ScalarType, Address, height_of, height_of_statement, type_of, TypedExpression, TypedStatement, MoveStatement, HasType, TypesHoldIn, done, moved, SourceState, Outcome, Gave, then_do, Flow, Onward, values_of, Pop, Push, Xchg, Bc, De, StackBc, StackDe, StackHl, Registers, State, high_byte, low_byte, with_popped, word, wrap, LoadPair, Move, ExpressionNumber, Place, Statement, StatementNumber, IsExpressionIn, IsMove, IsStatementForm, IsStatementNode, pushed_word, Does, at_place, does_without_step, place_at, Facts, Step, Site, keeps, known, expression, knowing, Planned, ends_steps, move_steps, Here, statement_steps, Context, IsSound, nodes_in, PartThere, PlainThere, WordThere, NoneThere, WordIsGiven, known_small, ready_with_registers, word_goes, known_means, value_in, Stage, at_instructions, at_pop, at_push, at_word, does_same, loaded_in, BodyContext, IsSoundBody, Leaves, StatementDoes, StatementStands, word_from_halves, low_byte_small}
use Rattle.treecode.specs.declared.statement.Statement.TheVariants as statements
use Rattle.steps8080.specs.declared.step.Step.TheVariants as steps
use Rattle.steps8080.specs.declared.step.Task.TheVariants as tasks
use Rattle.statements8080.specs.declared.plan.Planned.TheVariants as planned
use Rattle.statement_laws.proofs.Loops.LoopCode.{Steps}
use Rattle.statement_laws.proofs.Moves.MoveCalls.{move_then}
use Rattle.statement_laws.proofs.FirstSteps.{Stand, steps_ended}
use Rattle.statement_laws.proofs.Loops.PlannedParts.{code_parted}

-- the word of a part comes into HL
abbrev pub word_part : ExpressionNumber → (pushed : ℕ) → Step
word_part number pushed = steps.Part (record { task = tasks.Word number; pushed = pushed })

-- the steps of source and destination, by whether the source is known, and whether DE is kept
abbrev pub ends_by : Option Place → (keeps_de : Bool) → (source destination : ExpressionNumber)
    → (pushed : ℕ) → List Step
ends_by (Some place) keeps_de source destination pushed =
    word_part destination pushed ∷ steps.Word (LoadPair De) place ∷ []
ends_by None true source destination pushed =
    word_part source pushed ∷ steps.Plain Xchg ∷ word_part destination pushed ∷ []
ends_by None false source destination pushed =
    word_part source pushed ∷ steps.Plain (Push StackHl) ∷ word_part destination (min (pushed + 2) 65535)
    ∷ steps.Plain (Pop StackDe) ∷ []

ends_are : (found : Option Place) (keeps_de : Bool) (source destination : ExpressionNumber) (pushed : ℕ)
    → (elim found [
      | Some place ↦ Rattle.statements8080.specs.internal.Plans.part (tasks.Word destination) pushed
          ∷ Rattle.statements8080.specs.internal.Plans.word (LoadPair De) place ∷ []
      | None ↦
          if keeps_de
          then Rattle.statements8080.specs.internal.Plans.part (tasks.Word source) pushed
          ∷ Rattle.statements8080.specs.internal.Plans.plain Xchg
          ∷ Rattle.statements8080.specs.internal.Plans.part (tasks.Word destination) pushed ∷ []
          else Rattle.statements8080.specs.internal.Plans.part (tasks.Word source) pushed
          ∷ Rattle.statements8080.specs.internal.Plans.plain (Push StackHl)
          ∷ Rattle.statements8080.specs.internal.Plans.part (tasks.Word destination) (min (pushed + 2) 65535)
          ∷ Rattle.statements8080.specs.internal.Plans.plain (Pop StackDe)
          ∷ []
    ])
    ≡ map planned.Code (ends_by found keeps_de source destination pushed)
ends_are (Some place) keeps_de source destination pushed = refl
ends_are None true source destination pushed = refl
ends_are None false source destination pushed = refl

-- what the code of an expression keeps does not depend on what is known
keeps_anywhere : (site : Site) (facts : Facts) (number : ExpressionNumber)
    → keeps (knowing site facts) number ≡ keeps site number
unfolding keeps expression
keeps_anywhere site facts number = refl

-- a word in two registers
pub record IsIn (value high low : ℕ) : Type 0 where
  pub high_is : high ≡ value / 256
  pub low_is : low ≡ value % 256

is_word : (tree : TypedExpression) (found : ℕ) → type_of tree ≡ Address
    → found < values_of (type_of tree) → found < 65536
is_word tree found same small = subst (λ (scalar : ScalarType). found < values_of scalar) same small

-- an ADDRESS comes into HL, of which nothing is known
pub address_in_hl :
    {B : Type 0} {context : Context} {top pushed need from to : ℕ} {base : List ℕ} {t : SourceState}
    {facts last : Facts}
    {r : Registers} {memory : List ℕ} {tree : TypedExpression} {others : List Step}
    {Good : B → SourceState → State → Type 0} (number : ExpressionNumber) (go : ℕ → SourceState → Outcome B)
    → IsExpressionIn (nodes_in context) context.storage number tree
    → HasType context.typed context.within Address tree
    → 2 * height_of tree ≤ need
    → Steps context facts from (word_part number pushed ∷ others) last to
    → Stage context top pushed need base t facts r memory
    → ((value : ℕ) (u : SourceState) (now : Registers) (memory_now : List ℕ) (found : Facts) (middle : ℕ)
    → value < 65536
    → IsIn value now.h now.l
    → ((keeps context.site number).de ≡ true → (now.d ≡ r.d) × (now.e ≡ r.e))
    → Steps context found middle others last to
    → Stage context top pushed need base u found now memory_now
    → Does (loaded_in context) u.budget 0 (at_place middle now memory_now u.events) (go value u) Good)
    → Does (loaded_in context) t.budget 0 (at_place from r memory t.events)
    (then_do (value_in context tree t) go) Good
address_in_hl {context = context} {r = r} {memory = memory} {tree = tree} number go is types fits
    (PartThere {found = found} {middle = middle} does rest) stage next =
    at_word {go = go} _ middle number does is types.0 fits stage
    (λ value u now memory_now gave (given : WordIsGiven context found number (type_of tree) r memory value now memory_now) there.
    next value u now memory_now found middle (is_word tree value types.1 given.small)
    (record { high_is = given.h; low_is = given.l })
    (λ kept. (given.d kept, given.e kept)) rest there)

-- HL is pushed
push_hl :
    {A : Type 0} {context : Context} {top pushed need from to : ℕ} {base : List ℕ} {t : SourceState}
    {facts last : Facts}
    {r : Registers} {memory : List ℕ} {others : List Step} {outcome : Outcome A}
    {Good : A → SourceState → State → Type 0}
    (value : ℕ)
    → IsSound context
    → IsIn value r.h r.l
    → 3 ≤ need
    → Steps context facts from (steps.Plain (Push StackHl) ∷ others) last to
    → Stage context top pushed need base t facts r memory
    → (Steps context facts (from + 1) others last to
    → Stage context (top - 2) ((pushed + 2) % 65536) (need - 2) (pushed_word top value memory) t facts
    (record r { sp = wrap (top - 2) }) (pushed_word top value memory)
    → Does (loaded_in context) t.budget 0
    (at_place (from + 1) (record r { sp = wrap (top - 2) }) (pushed_word top value memory) t.events) outcome
    Good)
    → Does (loaded_in context) t.budget 0 (at_place from r memory t.events) outcome Good
push_hl {r = r} value sound in_hl enough (PlainThere there rest) stage next =
    at_push value (word_from_halves value r.h r.l in_hl.high_is in_hl.low_is) sound enough stage there
    (λ pushed_stage. next rest pushed_stage)

-- what was pushed comes into DE
pop_de :
    {A : Type 0} {context : Context} {top pushed need other_pushed other_need from to : ℕ}
    {base : List ℕ} {s t : SourceState}
    {first facts last : Facts} {before r : Registers} {began memory : List ℕ} {others : List Step}
    {outcome : Outcome A}
    {Good : A → SourceState → State → Type 0} (value : ℕ)
    → IsSound context
    → value < 65536
    → 3 ≤ need
    → Stage context top pushed need base s first before began
    → Steps context facts from (steps.Plain (Pop StackDe) ∷ others) last to
    → Stage context (top - 2) other_pushed other_need (pushed_word top value began) t facts r memory
    → ((found : Facts) → Steps context found (from + 1) others last to
    → Stage context top pushed need base t found
    (record (with_popped StackDe value r) { sp = wrap top }) memory
    → Does (loaded_in context) t.budget 0
    (at_place (from + 1) (record (with_popped StackDe value r) { sp = wrap top }) memory t.events) outcome
    Good)
    → Does (loaded_in context) t.budget 0 (at_place from r memory t.events) outcome Good
pop_de value sound small enough start (PlainThere there rest) stage next =
    at_pop sound enough small start stage there (λ done. next _ rest done)

-- and into BC
pop_bc :
    {A : Type 0} {context : Context} {top pushed need other_pushed other_need from to : ℕ}
    {base : List ℕ} {s t : SourceState}
    {first facts last : Facts} {before r : Registers} {began memory : List ℕ} {others : List Step}
    {outcome : Outcome A}
    {Good : A → SourceState → State → Type 0} (value : ℕ)
    → IsSound context
    → value < 65536
    → 3 ≤ need
    → Stage context top pushed need base s first before began
    → Steps context facts from (steps.Plain (Pop StackBc) ∷ others) last to
    → Stage context (top - 2) other_pushed other_need (pushed_word top value began) t facts r memory
    → ((found : Facts) → Steps context found (from + 1) others last to
    → Stage context top pushed need base t found
    (record (with_popped StackBc value r) { sp = wrap top }) memory
    → Does (loaded_in context) t.budget 0
    (at_place (from + 1) (record (with_popped StackBc value r) { sp = wrap top }) memory t.events) outcome
    Good)
    → Does (loaded_in context) t.budget 0 (at_place from r memory t.events) outcome Good
pop_bc value sound small enough start (PlainThere there rest) stage next =
    at_pop sound enough small start stage there (λ done. next _ rest done)

known_word : (n : ℕ) → n < 65536 → high_byte n < 256
known_word n small = omega (arith, small)

-- a known word comes into DE
de_loaded :
    {A : Type 0} {context : Context} {top pushed need from to : ℕ} {base : List ℕ} {t : SourceState}
    {facts last : Facts}
    {r : Registers} {memory : List ℕ} {outcome : Outcome A}
    {Good : A → SourceState → State → Type 0} (place : Place)
    → IsSound context
    → place_at context.activation.layout place < 65536
    → Steps context facts from (steps.Word (LoadPair De) place ∷ []) last to
    → Stage context top pushed need base t facts r memory
    → ((now : Registers)
    → now ≡ record r { d = high_byte (place_at context.activation.layout place); e = low_byte (place_at context.activation.layout place) }
    → Stage context top pushed need base t last now memory
    → Does (loaded_in context) t.budget 0 (at_place to now memory t.events) outcome Good)
    → Does (loaded_in context) t.budget 0 (at_place from r memory t.events) outcome Good
de_loaded {context = context} {r = r} {memory = memory} place sound small
    (WordThere there NoneThere) stage next =
    let number : ℕ = place_at context.activation.layout place in
    let held = stage.ready.registers in
    let now : Registers = record r { d = high_byte number; e = low_byte number } in
    word_goes (LoadPair De) place r now memory sound there
    (record { ready = stage.ready; known = stage.known }) tt refl
    (λ known. next now refl (record {
      below = stage.below;
      room = stage.room;
      ready = ready_with_registers refl
          (record { a = held.a; b = held.b; c = held.c; d = known_word number small; e = low_byte_small number; h = held.h; l = held.l }) stage.ready;
      known = known;
    }))

-- and into BC, before others
bc_loaded :
    {A : Type 0} {context : Context} {top pushed need from to : ℕ} {base : List ℕ} {t : SourceState}
    {facts last : Facts}
    {r : Registers} {memory : List ℕ} {others : List Step} {outcome : Outcome A}
    {Good : A → SourceState → State → Type 0} (place : Place)
    → IsSound context
    → place_at context.activation.layout place < 65536
    → Steps context facts from (steps.Word (LoadPair Bc) place ∷ others) last to
    → Stage context top pushed need base t facts r memory
    → ((now : Registers) (found : Facts)
    → now ≡ record r { b = high_byte (place_at context.activation.layout place); c = low_byte (place_at context.activation.layout place) }
    → Steps context found (from + 3) others last to
    → Stage context top pushed need base t found now memory
    → Does (loaded_in context) t.budget 0 (at_place (from + 3) now memory t.events) outcome Good)
    → Does (loaded_in context) t.budget 0 (at_place from r memory t.events) outcome Good
bc_loaded {context = context} {r = r} {memory = memory} place sound small (WordThere there rest) stage next =
    let number : ℕ = place_at context.activation.layout place in
    let held = stage.ready.registers in
    let now : Registers = record r { b = high_byte number; c = low_byte number } in
    word_goes (LoadPair Bc) place r now memory sound there
    (record { ready = stage.ready; known = stage.known }) tt refl
    (λ known. next now _ refl rest (record {
      below = stage.below;
      room = stage.room;
      ready = ready_with_registers refl
          (record { a = held.a; b = known_word number small; c = low_byte_small number; d = held.d; e = held.e; h = held.h; l = held.l }) stage.ready;
      known = known;
    }))

-- what is known of a source that is a place
abbrev pub KnownSource : Context → TypedExpression → Option Place → Type 0
KnownSource context tree found =
    (place : Place) → found ≡ Some place
    → ((s : SourceState) → value_in context tree s ≡ Gave (place_at context.activation.layout place) s)
    × (place_at context.activation.layout place < 65536)

-- source and destination come into DE and HL
pub ends_then :
    {A : Type 0} {context : Context} {top pushed need from to : ℕ} {base : List ℕ} {t : SourceState}
    {facts last : Facts}
    {r : Registers} {memory : List ℕ} {from_tree to_tree : TypedExpression}
    {Good : A → SourceState → State → Type 0}
    (found : Option Place) (keeps_de : Bool) (source destination : ExpressionNumber)
    (go : ℕ → ℕ → SourceState → Outcome A)
    → IsSound context
    → KnownSource context from_tree found
    → (keeps_de ≡ true → (keeps context.site destination).de ≡ true)
    → IsExpressionIn (nodes_in context) context.storage source from_tree
    → HasType context.typed context.within Address from_tree
    → IsExpressionIn (nodes_in context) context.storage destination to_tree
    → HasType context.typed context.within Address to_tree
    → min (pushed + 2) 65535 ≡ (pushed + 2) % 65536
    → 5 + 2 * height_of from_tree ≤ need
    → 5 + 2 * height_of to_tree ≤ need
    → Steps context facts from (ends_by found keeps_de source destination pushed) last to
    → Stage context top pushed need base t facts r memory
    → ((a b : ℕ) (v : SourceState) (now : Registers) (memory_now : List ℕ)
    → IsIn a now.d now.e
    → IsIn b now.h now.l
    → Stage context top pushed need base v last now memory_now
    → Does (loaded_in context) v.budget 0 (at_place to now memory_now v.events) (go a b v) Good)
    → Does (loaded_in context) t.budget 0 (at_place from r memory t.events)
    (then_do (value_in context from_tree t) (λ a u. then_do (value_in context to_tree u) (λ b v. go a b v)))
    Good
ends_then {context = context} {need = need} {to_tree = to_tree} (Some place) keeps_de source destination go
    sound known_source kept source_is source_types is types pushed_is source_fits fits stand stage next =
    let its = known_source place refl in
    let number : ℕ = place_at context.activation.layout place in
    does_same (then_do (value_in context to_tree _) (λ b v. go number b v))
    (ap (λ (one : Outcome ℕ). then_do one (λ a u. then_do (value_in context to_tree u) (λ b v. go a b v)))
    (its.0 _))
    (address_in_hl {need = need} destination (λ b v. go number b v) is types (omega (arith, fits)) stand stage
    (λ b v now memory_now known middle small in_hl keeps_them rest there.
    de_loaded place sound its.1 rest there
    (λ last_one same done.
    next number b v last_one memory_now
    (record { high_is = ap (λ (r : Registers). r.d) same; low_is = ap (λ (r : Registers). r.e) same })
    (record { high_is = ap (λ (r : Registers). r.h) same ∙ in_hl.high_is; low_is = ap (λ (r : Registers). r.l) same ∙ in_hl.low_is })
    done)))
ends_then {context = context} {top = top} {pushed = pushed} {need = need} {base = base} {to_tree = to_tree}
    {Good = Good} None true source destination go sound known_source kept source_is source_types is types
    pushed_is source_fits fits stand stage next =
    address_in_hl {need = need} source (λ a u. then_do (value_in context to_tree u) (λ b v. go a b v))
    source_is source_types (omega (arith, source_fits)) stand stage
    (λ a u now memory_now known middle small in_hl keeps_them rest there.
    at_instructions (Xchg ∷ []) (word_part destination _ ∷ []) sound (tt, tt) rest there
    (λ middle_two known_two rest_two there_two.
    address_in_hl {need = need} destination (λ b v. go a b v) is types
    (omega (arith, fits)) rest_two there_two
    (λ b v last_one memory_last known_last middle_last small_too in_hl_too keeps_now rest_last there_last.
    let over = Rattle.statement_laws.proofs.Loops.LoopCode.steps_over rest_last in
    let de = keeps_now (kept refl) in
    subst (λ (place : ℕ). Does (loaded_in context) v.budget 0 (at_place place last_one memory_last v.events)
    (go a b v) Good) (sym over.1)
    (next a b v last_one memory_last
    (record { high_is = de.0 ∙ in_hl.high_is; low_is = de.1 ∙ in_hl.low_is }) in_hl_too
    (subst (λ (facts : Facts). Stage context top pushed need base v facts last_one memory_last)
    over.0 there_last)))))
ends_then {A = A} {context = context} {top = top} {pushed = pushed} {need = need} {to = to} {base = base}
    {last = last} {to_tree = to_tree} {Good = Good} None false source destination go sound known_source kept
    source_is source_types is types pushed_is source_fits fits stand stage next =
    address_in_hl {need = need} source (λ a u. then_do (value_in context to_tree u) (λ b v. go a b v))
    source_is source_types (omega (arith, source_fits)) stand stage
    (λ a u now memory_now known middle small in_hl keeps_them rest there.
    push_hl a sound in_hl (omega (arith, fits)) rest there
    (λ rest_two pushed_stage.
    address_in_hl {need = need - 2} destination (λ b v. go a b v) is types (omega (arith, fits))
    (subst (λ (n : ℕ). Steps context known (middle + 1)
    (word_part destination n ∷ steps.Plain (Pop StackDe) ∷ []) last to) pushed_is rest_two)
    pushed_stage
    (λ b v last_one memory_last known_last middle_last small_too in_hl_too keeps_now rest_last there_last.
    pop_de a sound small (omega (arith, fits)) there rest_last there_last
    (λ found ends done.
    let over = Rattle.statement_laws.proofs.Loops.LoopCode.steps_over ends in
    let now_last : Registers = record (with_popped StackDe a last_one) { sp = wrap top } in
    subst (λ (place : ℕ). Does (loaded_in context) v.budget 0 (at_place place now_last memory_last v.events)
    (go a b v) Good) (sym over.1)
    (next a b v now_last memory_last
    (record { high_is = refl; low_is = refl })
    (record { high_is = in_hl_too.high_is; low_is = in_hl_too.low_is })
    (subst (λ (facts : Facts). Stage context top pushed need base v facts now_last memory_last) over.0
    done))))))

-- what the code of MOVE asks of its parts
pub record MoveParts (at : BodyContext) (count source destination : ExpressionNumber)
    (bytes from to : TypedExpression) : Type 0 where
  pub sound : IsSoundBody at
  pub count_is : IsExpressionIn (nodes_in at.context) at.context.storage count bytes
  pub source_is : IsExpressionIn (nodes_in at.context) at.context.storage source from
  pub destination_is : IsExpressionIn (nodes_in at.context) at.context.storage destination to
  pub count_types : HasType at.context.typed at.context.within Address bytes
  pub source_types : HasType at.context.typed at.context.within Address from
  pub destination_types : HasType at.context.typed at.context.within Address to

-- the meaning of MOVE
abbrev pub moves : BodyContext → (bytes from to : TypedExpression) → SourceState → Outcome Flow
moves at bytes from to s = done at.context.later at.context.activation.around (MoveStatement bytes from to) s

-- what is copied, and then the code goes on
abbrev pub copies : BodyContext → (bytes a b : ℕ) → SourceState → Outcome Flow
copies at bytes a b v =
    then_do (moved at.context.activation.around.program bytes a b v) (λ _ w. Gave Onward w)

-- the end of the statement
move_ends :
    {at : BodyContext} {base : List ℕ} {to need : ℕ} {after : Here} {before : ℕ} {facts : Facts}
    {waiting : Option Facts} {place : ℕ}
    (u : SourceState) (now : Registers) (memory_now : List ℕ)
    → Stand at (record { facts = facts; goes_on = true }) waiting place [] after to
    → Stage at.context at.context.activation.level 0 need base u facts now memory_now
    → Does (loaded_in at.context) u.budget 0 (at_place place now memory_now u.events) (Gave Onward u)
    (Leaves at base to after before)
move_ends {at = at} {base = base} {to = to} {need = need} {after = after} {before = before} {place = place} u
    now memory_now stand stage =
    let ends = steps_ended stand in
    subst (λ (n : ℕ). Does (loaded_in at.context) u.budget 0 (at_place n now memory_now u.events)
    (Gave Onward u) (Leaves at base to after before)) (ends.place)
    (does_without_step (record {
      goes_on = ap (λ (here : Here). here.goes_on) (ends.same);
      comes = record {
        r = now;
        memory = memory_now;
        is_at = refl;
        ready = stage.ready;
        holds = subst
            (λ (here : Here). Rattle.task_laws.specs.internal.Tasks.Know at.context here.facts now memory_now)
            (sym ends.same) stage.known;
      };
    }))

-- the code of MOVE, by whether its count is known
move_by :
    {at : BodyContext} {base : List ℕ} {to need : ℕ} {after : Here} {before : Facts} {place budget : ℕ}
    {bytes from_tree to_tree : TypedExpression}
    (found : Option Place) (count source destination : ExpressionNumber) (s : SourceState)
    (r : Registers) (memory : List ℕ)
    → MoveParts at count source destination bytes from_tree to_tree
    → known (knowing at.context.site before) count ≡ found
    → 7 + 2 * height_of bytes ≤ need → 7 + 2 * height_of from_tree ≤ need → 7 + 2 * height_of to_tree ≤ need
    → Stand at (record { facts = before; goes_on = true }) None place
    (elim found [
      | Some here ↦ Rattle.statements8080.specs.internal.Moves.known_move_steps
          (knowing at.context.site before) here source destination
      | None ↦
          Rattle.statements8080.specs.internal.Plans.part (tasks.Word count) 0
          ∷ Rattle.statements8080.specs.internal.Plans.plain (Push StackHl)
          ∷ (ends_steps (knowing at.context.site before) source destination 2
          ++ (Rattle.statements8080.specs.internal.Plans.plain (Pop StackBc)
          ∷ planned.Code (steps.CallRoutine Move) ∷ []))
    ]) after to
    → Stage at.context at.context.activation.level 0 need base s before r memory
    → Does (loaded_in at.context) s.budget 0 (at_place place r memory s.events)
    (moves at bytes from_tree to_tree s) (Leaves at base to after budget)
move_by {at = at} {base = base} {to = to} {need = need} {after = after} {before = before} {place = place}
    {budget = budget} {bytes = bytes} {from_tree = from_tree} {to_tree = to_tree} found count source
    destination s r memory parts count_is count_fits source_fits destination_fits stand stage =
    by found count_is stand
  where
    context : Context
    context = at.context

    sound : IsSound at.context
    sound = parts.sound.sound

    site : Site
    site = knowing at.context.site before

    the_source : Option Place
    the_source = known site source

    keeps_de : Bool
    keeps_de = (keeps site destination).de

    source_known : KnownSource at.context from_tree the_source
    source_known place is = (
      known_means before place sound parts.source_is parts.source_types.0 is,
      is_word from_tree (place_at at.context.activation.layout place) parts.source_types.1
          (known_small before place sound parts.source_is parts.source_types.0 is),
    )

    kept : keeps_de ≡ true → (keeps at.context.site destination).de ≡ true
    kept is =
        sym (ap (λ (keeps : Rattle.treecode.specs.declared.traits.Keeps.Keeps). keeps.de)
        (keeps_anywhere at.context.site before destination)) ∙ is

    by : (found : Option Place) → known site count ≡ found
        → Stand at (record { facts = before; goes_on = true }) None place
        (elim found [
          | Some here ↦ Rattle.statements8080.specs.internal.Moves.known_move_steps site
              here source destination
          | None ↦
              Rattle.statements8080.specs.internal.Plans.part (tasks.Word count) 0
              ∷ Rattle.statements8080.specs.internal.Plans.plain (Push StackHl)
              ∷ (ends_steps site source destination 2
              ++ (Rattle.statements8080.specs.internal.Plans.plain (Pop StackBc)
              ∷ planned.Code (steps.CallRoutine Move) ∷ []))
        ]) after to
        → Does (loaded_in at.context) s.budget 0 (at_place place r memory s.events)
        (moves at bytes from_tree to_tree s) (Leaves at base to after budget)
    by (Some here) is stand =
        let number : ℕ = place_at at.context.activation.layout here in
        let ends = code_parted (ends_by the_source keeps_de source destination 0)
        (Rattle.statements8080.specs.internal.Plans.word (LoadPair Bc) here
        ∷ planned.Code (steps.CallRoutine Move) ∷ [])
        (record { facts = before; goes_on = true }) place
        (subst (λ (list : List Planned). Stand at (record { facts = before; goes_on = true }) None place
        (list ++ (Rattle.statements8080.specs.internal.Plans.word (LoadPair Bc) here
        ∷ planned.Code (steps.CallRoutine Move) ∷ [])) after to)
        (ends_are the_source keeps_de source destination 0) stand) in
        let call = code_parted (steps.Word (LoadPair Bc) here ∷ steps.CallRoutine Move ∷ []) []
        (record { facts = ends.known; goes_on = true }) ends.middle ends.rest in
        does_same _
        (ap (λ (one : Outcome ℕ). then_do one
        (λ n t. then_do (value_in at.context from_tree t)
        (λ a u. then_do (value_in at.context to_tree u) (λ b v. copies at n a b v))))
        (known_means before here sound parts.count_is parts.count_types.0 is s))
        (ends_then the_source keeps_de source destination (λ a b v. copies at number a b v) sound source_known
        kept parts.source_is parts.source_types
        parts.destination_is parts.destination_types refl (omega (arith, source_fits))
        (omega (arith, destination_fits)) ends.first stage
        (λ a b v now memory_now in_de in_hl there.
        bc_loaded here sound
        (is_word bytes number parts.count_types.1
        (known_small before here sound parts.count_is parts.count_types.0 is)) call.first there
        (λ last_one known same rest loaded.
        move_then number a b (λ _ w. Gave Onward w) sound (omega (arith, destination_fits))
        (word_from_halves number last_one.b last_one.c (ap (λ (r : Registers). r.b) same)
        (ap (λ (r : Registers). r.c) same))
        (word_from_halves a last_one.d last_one.e (ap (λ (r : Registers). r.d) same ∙ in_de.high_is)
        (ap (λ (r : Registers). r.e) same ∙ in_de.low_is))
        (word_from_halves b last_one.h last_one.l (ap (λ (r : Registers). r.h) same ∙ in_hl.high_is)
        (ap (λ (r : Registers). r.l) same ∙ in_hl.low_is))
        rest loaded
        (λ u ended memory_ended done. move_ends u ended memory_ended call.rest done))))
    by None is stand =
        let first = code_parted (word_part count 0 ∷ steps.Plain (Push StackHl) ∷ [])
        (ends_steps site source destination 2
        ++ (Rattle.statements8080.specs.internal.Plans.plain (Pop StackBc)
        ∷ planned.Code (steps.CallRoutine Move) ∷ []))
        (record { facts = before; goes_on = true }) place stand in
        let ends = code_parted (ends_by the_source keeps_de source destination 2)
        (Rattle.statements8080.specs.internal.Plans.plain (Pop StackBc) ∷ planned.Code (steps.CallRoutine Move) ∷ [])
        (record { facts = first.known; goes_on = true }) first.middle
        (subst (λ (list : List Planned). Stand at
        (record { facts = first.known; goes_on = true }) None first.middle
        (list ++ (Rattle.statements8080.specs.internal.Plans.plain (Pop StackBc)
        ∷ planned.Code (steps.CallRoutine Move) ∷ [])) after to)
        (ends_are the_source keeps_de source destination 2) first.rest) in
        let call = code_parted (steps.Plain (Pop StackBc) ∷ steps.CallRoutine Move ∷ []) []
        (record { facts = ends.known; goes_on = true }) ends.middle ends.rest in
        address_in_hl {need = need} count
        (λ n t. then_do (value_in at.context from_tree t)
        (λ a u. then_do (value_in at.context to_tree u) (λ b v. copies at n a b v)))
        parts.count_is parts.count_types (omega (arith, count_fits)) first.first stage
        (λ n t now memory_now known middle small in_hl keeps_them rest there.
        push_hl n sound in_hl (omega (arith, count_fits)) rest there
        (λ rest_two pushed_stage.
        let over_push = Rattle.statement_laws.proofs.Loops.LoopCode.steps_over rest_two in
        ends_then the_source keeps_de source destination (λ a b v. copies at n a b v) sound source_known kept
        parts.source_is parts.source_types
        parts.destination_is parts.destination_types refl (omega (arith, source_fits))
        (omega (arith, destination_fits))
        (subst (λ (place : ℕ). Steps at.context known place (ends_by the_source keeps_de source destination 2)
        ends.known ends.middle) (sym over_push.1)
        (subst (λ (facts : Facts). Steps at.context facts first.middle
        (ends_by the_source keeps_de source destination 2) ends.known ends.middle) (sym over_push.0)
        ends.first))
        pushed_stage
        (λ a b v last_one memory_last in_de in_hl_too there_last.
        pop_bc n sound small (omega (arith, count_fits)) there call.first there_last
        (λ found rest_last done.
        let now_last : Registers =
        record (with_popped StackBc n last_one) { sp = wrap at.context.activation.level } in
        move_then n a b (λ _ w. Gave Onward w) sound (omega (arith, count_fits))
        (word_from_halves n now_last.b now_last.c refl refl)
        (word_from_halves a now_last.d now_last.e in_de.high_is in_de.low_is)
        (word_from_halves b now_last.h now_last.l in_hl_too.high_is in_hl_too.low_is)
        rest_last done
        (λ u ended memory_ended finished. move_ends u ended memory_ended call.rest finished)))))

-- MOVE
pub move_does :
    (at : BodyContext) (before : Facts) (number : StatementNumber)
    (count source destination : ExpressionNumber) (label from : ℕ)
    (after : Here) (to : ℕ)
    → IsSoundBody at
    → slice_get (nodes_in at.context).statements number.index
    ≡ Some (statements.Move count source destination)
    → StatementStands at before (statements.Move count source destination) label from after to
    → StatementDoes at before number from after to
unfolding statement_steps
move_does at before number count source destination label from after to sound found stand bound tree
    (IsStatementNode {statement = statement} less is form) types lists base s r memory
    below room ready known =
    by_form tree
    (subst (λ (one : Statement). IsStatementForm (nodes_in at.context) at.context.storage at.labels
    number.index one tree)
    (same_Some statement (statements.Move count source destination) (sym is ∙ found)) form) types room
  where
    by_form : (tree : TypedStatement)
        → IsStatementForm (nodes_in at.context) at.context.storage at.labels number.index
        (statements.Move count source destination) tree
        → TypesHoldIn at.context.typed at.context.within tree
        → Rattle.code_meaning.specs.internal.Activations.HasRoom at.context.activation at.context.activation.level 0
        (2 + 2 * height_of_statement tree)
        → Does (loaded_in at.context) s.budget 0 (at_place from r memory s.events)
        (done at.context.later at.context.activation.around tree s) (Leaves at base to after s.budget)
    by_form _ (IsMove {bytes = bytes} {from = from_tree} {to = to_tree} count_is source_is destination_is)
        types room =
        move_by (Rattle.steps8080.specs.internal.Queries.known (knowing at.context.site before) count) count source
        destination s r memory
        (record {
          sound = sound;
          count_is = count_is;
          source_is = source_is;
          destination_is = destination_is;
          count_types = types.0;
          source_types = types.1;
          destination_types = types.2;
        })
        refl
        (high_enough (height_of bytes) (height_of from_tree) (height_of to_tree)).0
        (high_enough (height_of bytes) (height_of from_tree) (height_of to_tree)).1
        (high_enough (height_of bytes) (height_of from_tree) (height_of to_tree)).2
        (subst (λ (site : Site). Stand at (record { facts = before; goes_on = true }) None from
        (move_steps (knowing site before) count source destination) after to)
        (sym sound.site) stand)
        (record { below = below; room = room; ready = ready; known = known })
      where
        high_enough : (a b c : ℕ)
            → (7 + 2 * a ≤ 2 + 2 * (4 + max a (max b c))) × (7 + 2 * b ≤ 2 + 2 * (4 + max a (max b c)))
            × (7 + 2 * c ≤ 2 + 2 * (4 + max a (max b c)))
        high_enough a b c = (omega arith, omega arith, omega arith)
