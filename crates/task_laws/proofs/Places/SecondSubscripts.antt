-- The code that adds a second subscript to a first one, which is kept in DE or on the stack meanwhile.
use Rattle.task_laws.proofs.Prelude.{◌≡◌, ℕ, ◌+◌, ◌-◌, ◌*◌, ◌%◌, ◌<◌, ◌≤◌, Bool, true, false, if◌then◌else◌, List, [], ◌∷◌, ◌++◌, refl, sym, ap, ◌∙◌, arith, Address, height_of, type_of, TypedExpression, TypesHold, value, SourceState, Outcome, then_do, Dad, Pop, Push, Xchg, De, StackDe, StackHl, Registers, State, high_byte, low_byte, pushed_of, word, wrap, pushed_memory, ExpressionNumber, IndexNode, IsExpression, Does, loaded_of, at_place, HasRoom, Facts, Plain, plain, keeps, expression, second_steps, product_steps, knowing, Context, IsSound, nodes_in, StepsStand, PlainThere, Left, PartDoes, word_of_bytes}
use Rattle.task_laws.proofs.Machine.Rules.{GoesOn, more_pushed, pop_goes, push_goes, pushed_word_small, steps_split}
use Rattle.task_laws.proofs.Machine.RegisterCode.{registers_then}
use Rattle.task_laws.proofs.Machine.Addresses.{back_together, registers_end}
use Rattle.task_laws.proofs.Places.Products.{ProductIsGiven, ProductsDo, product_then}
use Rattle.task_laws.proofs.Heights.{some_height}

-- the facts about the registers do not change which registers code keeps
pub keeps_anywhere : (context : Context) (used : Facts) (of : ExpressionNumber)
    → keeps (knowing context.site used) of ≡ keeps context.site of
unfolding keeps expression
keeps_anywhere context used of = refl

sum_in_hl : (h l d e first second : ℕ) → word h l ≡ second % 65536 → word d e ≡ first
    → wrap (word h l + word d e) ≡ wrap (first + second)
sum_in_hl h l d e first second one two = omega (arith, one, two)

both_bytes : (h l d e : ℕ) → d ≡ h → e ≡ l → word d e ≡ word h l
both_bytes h l d e one two = omega (arith, one, two)

high_enough : (height need : ℕ) → 2 + 2 * height ≤ need → 2 * height ≤ need
high_enough height need is = omega (arith, is)

pub second_then :
    {B : Type 0} {more : ℕ} {go : ℕ → SourceState → Outcome B} {Good : B → SourceState → State → Type 0}
    {context : Context} {facts last : Facts} {to pushed bound top need : ℕ} {base : List ℕ}
    {tree : TypedExpression}
    (used : Facts) (second : IndexNode) (from : ℕ) (s : SourceState) (r : Registers) (memory : List ℕ)
    → ProductsDo context
    → second.stride < 65536
    → IsSound context
    → IsExpression (nodes_in context) context.storage bound (second.index).index tree
    → TypesHold context.typed context.within tree
    → type_of tree ≡ Address
    → s.budget < context.number
    → HasRoom context.activation top pushed need
    → 2 + 2 * height_of tree ≤ need
    → StepsStand context (PartDoes context) facts from
    (second_steps (knowing context.site used) second pushed) last to
    → GoesOn context facts top base s.memory s.frame r memory
    → ((n : ℕ) (t : SourceState) (now : Registers) (ended : List ℕ)
    → t.budget ≤ s.budget
    → GoesOn context last top base t.memory t.frame now ended
    → word now.h now.l ≡ wrap (word r.h r.l + n * second.stride)
    → Left (keeps context.site second.index).a r.a now.a
    → Does (loaded_of context.activation) t.budget more
    (at_place to now ended t.events) (go n t) Good)
    → Does (loaded_of context.activation) s.budget more (at_place from r memory s.events)
    (then_do (value context.later context.activation.around tree s) go) Good
second_then {more = more} {go = go} {Good = Good} {context = context} {facts = facts} {last = last} {to = to}
    {pushed = pushed} {bound = bound} {top = top} {need = need} {base = base} {tree = tree} used second from s
    r memory products small sound is types address less room high stand on rest =
    by_test (keeps (knowing context.site used) second.index).de refl stand
  where
    by_test : (kept : Bool) → (keeps (knowing context.site used) second.index).de ≡ kept
        → StepsStand context (PartDoes context) facts from
        (if kept
        then Plain Xchg ∷ product_steps second.index second.stride pushed ++ (Plain (Dad De) ∷ [])
        else Plain (Push StackHl) ∷ product_steps second.index second.stride ((pushed + 2) % 65536)
        ++ plain (Pop StackDe ∷ Dad De ∷ [])) last to
        → Does (loaded_of context.activation) s.budget more (at_place from r memory s.events)
        (then_do (value context.later context.activation.around tree s) go) Good
    by_test true kept stand =
        let kept_here : (keeps context.site second.index).de ≡ true
        = ap (λ (of : Rattle.treecode.specs.declared.traits.Keeps.Keeps). of.de)
        (sym (keeps_anywhere context used second.index)) ∙ kept in
        let one : Registers = record r { h = r.d; l = r.e; d = r.h; e = r.l } in
        registers_then (Xchg ∷ []) (product_steps second.index second.stride pushed ++ (Plain (Dad De) ∷ []))
        r sound (tt, tt) stand on
        (λ middle found stand on_one.
        let parts =
        steps_split (product_steps second.index second.stride pushed) (Plain (Dad De) ∷ []) stand in
        product_then middle s one memory
        (products found parts.found second.index second.stride pushed middle parts.middle small parts.first)
        is types address less room (high_enough (height_of tree) need high) on_one
        (λ n t now ended fewer on_now given.
        registers_end (Dad De ∷ []) now sound (tt, tt) parts.second on_now
        (λ on_sum. rest n t _ ended fewer on_sum
        (back_together (word now.h now.l + word now.d now.e)
        ∙ sum_in_hl now.h now.l now.d now.e (word r.h r.l) (n * second.stride) given.hl
        (both_bytes r.h r.l now.d now.e (given.d kept_here) (given.e kept_here)))
        given.a)))
    by_test false kept (PlainThere there stand) =
        let some = some_height tree in
        let number : ℕ = pushed_of StackHl r in
        let lower : Registers = record r { sp = wrap (top - 2) } in
        let after : List ℕ = pushed_memory top number memory in
        let parts =
        steps_split (product_steps second.index second.stride ((pushed + 2) % 65536))
        (plain (Pop StackDe ∷ Dad De ∷ [])) stand in
        let two : 2 ≤ need = omega (arith, high) in
        push_goes StackHl r sound there on two room
        (λ on_lower.
        product_then (from + 1) s lower after
        (products facts parts.found second.index second.stride ((pushed + 2) % 65536) (from + 1)
        parts.middle small parts.first)
        is types address less
        (more_pushed (2 * height_of tree) sound.lies (omega (arith, some)) high room) (omega arith) on_lower
        (λ n t now ended fewer on_now given.
        popped n t now ended fewer on_now given parts.second))
      where
        popped : {found : Facts} {middle : ℕ} (n : ℕ) (t : SourceState) (now : Registers) (ended : List ℕ)
            → t.budget ≤ s.budget
            → GoesOn context found (top - 2) (pushed_memory top (pushed_of StackHl r) memory)
            t.memory t.frame now ended
            → ProductIsGiven context found second.index second.stride (record r { sp = wrap (top - 2) })
            (pushed_memory top (pushed_of StackHl r) memory) n now ended
            → StepsStand context (PartDoes context) found middle (plain (Pop StackDe ∷ Dad De ∷ [])) last to
            → Does (loaded_of context.activation) t.budget more
            (at_place middle now ended t.events) (go n t) Good
        popped {found = found} {middle = middle} n t now ended fewer on_now given (PlainThere there stand) =
            let two : 2 ≤ need = omega (arith, high) in
            let number : ℕ = pushed_of StackHl r in
            let back : Registers = record now { d = high_byte number; e = low_byte number; sp = wrap top } in
            pop_goes StackDe now sound there two room on.ready
            (pushed_word_small StackHl r on.ready.registers) on_now
            (λ on_back.
            registers_end (Dad De ∷ []) back sound (tt, tt) stand on_back
            (λ on_sum. rest n t _ ended fewer on_sum
            (back_together (word now.h now.l + word (high_byte number) (low_byte number))
            ∙ sum_in_hl now.h now.l (high_byte number) (low_byte number) (word r.h r.l)
            (n * second.stride) given.hl
            (word_of_bytes number))
            given.a))
