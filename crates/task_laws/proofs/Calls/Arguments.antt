-- Code of the arguments of a call: all but the last are pushed.
use Rattle.task_laws.proofs.Prelude.{◌≡◌, ℕ, zero, suc, ◌+◌, ◌-◌, ◌*◌, ◌%◌, ◌<◌, ◌≤◌, inl, inr, nat_lt, true, List, [], ◌∷◌, ◌++◌, length, slice_get, Some, None, refl, sym, ap, subst, ◌∙◌, arith, lt-ltb, length-set, MEMORY_SIZE, byte_at, ScalarType, Byte, Address, count_of_arguments, height_of_arguments, type_of, MoreArguments, NoArguments, TypedArguments, TypedExpression, TypesHoldInArguments, types_of, value, values, SourceState, Outcome, Gave, then_do, flag_byte, Registers, State, word, wrap, pushed_word, pushed_keeps, IsPushed, pushed_is_pushed, ExpressionNumber, Range, AreArguments, AreMore, AreNone, IsExpression, argument, Facts, Step, scalar, Activation, IsReady, LiesWell, Owns, Does, at_place, keeps_all, keeps_both, keeps_wider, owns_more, pushed_is_not_owned, argument_steps, arguments_steps, last_argument_steps, push_of, pushed_argument_steps, value_task, knowing, ArgumentsLie, Context, InRegister, InWord, IsSound, bytes_pushed, nodes_in, NoneThere, PartThere, PlainThere, StepsStand, PartDoes, TaskDoes, word_high_byte, flag_byte_small}
use Rattle.asm8080.specs.Standing.{Keeps}
use Rattle.task_laws.proofs.Machine.Nodes.{node_of}
use Rattle.task_laws.proofs.Machine.Rules.{Parted, steps_split}
use Rattle.task_laws.proofs.Machine.Stages.{Stage, at_push, does_same, loaded_in}
use Rattle.task_laws.proofs.Machine.Effects.{then_again}
use Rattle.task_laws.proofs.Machine.StoredValues.{at_value}

-- Arguments that are passed: all but the last one are on the stack, down to a level, and only bytes that the
-- activation may change have changed.
pub record ArePassed
    (context : Context) (types : List ScalarType) (top : ℕ) (base : List ℕ) (given : List ℕ)
    (low : ℕ) (u : SourceState)
    (now : Registers) (memory : List ℕ) : Type 0 where
  pub below : u.budget < context.number
  pub room :
      context.activation.floor + context.activation.around.room ≤ low
  pub ready : IsReady context.activation low memory u.memory u.frame now memory
  pub kept : Keeps (Owns context.activation top) base memory
  pub count : length given ≡ length types
  pub lie : ArgumentsLie types given low now memory
  pub height : low + bytes_pushed given ≡ top

-- ready beside the memory as it is
pub ready_now :
    {activation : Activation} {top : ℕ} {base source : List ℕ} {frame : List (List ℕ)}
    {r : Registers} {memory : List ℕ}
    → IsReady activation top base source frame r memory
    → IsReady activation top memory source frame r memory
ready_now {activation = activation} {top = top} {memory = memory} ready = record {
  pointer = ready.pointer;
  registers = ready.registers;
  shares = ready.shares;
  frame_lies = ready.frame_lies;
  kept = keeps_all (Owns activation top) memory;
}

-- a push changes only bytes that the activation may change
push_keeps :
    (activation : Activation) (top number : ℕ) (memory : List ℕ)
    → activation.floor + 2 ≤ top
    → Keeps (Owns activation top) memory (pushed_word top number memory)
push_keeps activation top number memory room = record {
  size =
      length-set
      (Rattle.std.specs.Prelude.slice_set memory (top - 1) (Rattle.isa8080.specs.State.high_byte number))
      (top - 2)
      (Rattle.isa8080.specs.State.low_byte number)
      ∙ length-set memory (top - 1) (Rattle.isa8080.specs.State.high_byte number);
  bytes = λ address outside.
      pushed_keeps top number memory address
      (λ same. outside (inr (inl (omega (arith, same, room), omega (arith, same, room)))))
      (λ same. outside (inr (inl (omega (arith, same, room), omega (arith, same, room)))));
}

-- the type of an argument as code sees it
pub scalar_is :
    {context : Context} {bound : ℕ} {number : ExpressionNumber} {tree : TypedExpression} (facts : Facts)
    → IsSound context
    → IsExpression (nodes_in context) context.storage bound number.index tree
    → scalar (knowing context.site facts) number ≡ type_of tree
unfolding scalar
scalar_is {number = number} facts sound node =
    let is = node_of {number = number} sound node in
    ap (λ entry. elim (entry) [ Some found ↦ found.traits.scalar | None ↦ Byte ]) (is.at_site facts)
    ∙ is.scalar

-- the argument at an index is in the table
argument_is :
    (context : Context) (arguments : Range) (facts : Facts) (first others : ℕ) (number : ExpressionNumber)
    → first ≡ arguments.first + (arguments.count - suc others)
    → suc others ≤ arguments.count
    → slice_get (nodes_in context).arguments first ≡ Some number
    → argument (knowing context.site facts).tree.now arguments (arguments.count - suc others) ≡ Some number
argument_is context arguments facts first others number place within there =
    let less : nat_lt (arguments.count - suc others) arguments.count ≡ true =
    lt-ltb (arguments.count - suc others) arguments.count (omega (arith, within)) in
    rw less (rw (sym place) there)

-- the word that a value in its register is pushed as
abbrev pushed_value : ScalarType → Registers → ℕ
pushed_value Byte r = word r.a (flag_byte r.flags)
pushed_value Address r = word r.h r.l

-- a value that was pushed is in its word while bytes below may change
lies_in_word :
    (activation : Activation) (scalar : ScalarType) (found top low : ℕ) (r : Registers)
    (memory ended : List ℕ)
    → LiesWell activation
    → activation.floor + 2 ≤ top
    → top ≤ activation.level
    → length memory ≡ MEMORY_SIZE
    → flag_byte r.flags < 256
    → r.l < 256
    → InRegister scalar found r
    → Keeps (Owns activation (top - 2)) (pushed_word top (pushed_value scalar r) memory) ended
    → low ≡ top - 2
    → InWord scalar found ended low
lies_in_word activation Byte found top low r memory ended lies room below size flags small is kept place =
    let above = lies.above in
    let stack = lies.placed.stack_in_memory in
    let pushed : IsPushed top (word r.a (flag_byte r.flags))
    (pushed_word top (word r.a (flag_byte r.flags)) memory)
    = pushed_is_pushed top (word r.a (flag_byte r.flags)) memory (omega (arith, room))
    (omega (arith, below, above, stack)) size in
    ap (byte_at ended) (one_more low top place room)
    ∙ kept.bytes (top - 1)
    (pushed_is_not_owned activation (top - 2) (top - 1) lies (omega (arith, room)) (omega arith)
    (omega (arith, room, below)))
    ∙ pushed.high ∙ word_high_byte r.a (flag_byte r.flags) flags ∙ is
  where
    one_more : (low top : ℕ) → low ≡ top - 2 → activation.floor + 2 ≤ top → low + 1 ≡ top - 1
    one_more low top place room = omega (arith, place, room)
lies_in_word activation Address found top low r memory ended lies room below size flags small is kept place =
    let above = lies.above in
    let stack = lies.placed.stack_in_memory in
    let pushed : IsPushed top (word r.h r.l) (pushed_word top (word r.h r.l) memory)
    = pushed_is_pushed top (word r.h r.l) memory (omega (arith, room))
    (omega (arith, below, above, stack)) size in (
      ap (byte_at ended) place
          ∙ kept.bytes (top - 2)
          (pushed_is_not_owned activation (top - 2) (top - 2) lies (omega (arith, room)) (omega arith)
          (omega (arith, room, below)))
          ∙ pushed.low ∙ low_of r.h r.l small ∙ is.1,
      ap (byte_at ended) (one_more low top place room)
          ∙ kept.bytes (top - 1)
          (pushed_is_not_owned activation (top - 2) (top - 1) lies (omega (arith, room)) (omega arith)
          (omega (arith, room, below)))
          ∙ pushed.high ∙ word_high_byte r.h r.l small ∙ is.0,
    )
  where
    one_more : (low top : ℕ) → low ≡ top - 2 → activation.floor + 2 ≤ top → low + 1 ≡ top - 1
    one_more low top place room = omega (arith, place, room)

    low_of : (high low : ℕ) → low < 256 → Rattle.isa8080.specs.State.low_byte (word high low) ≡ low
    low_of high low small = omega (arith, small)

-- the value of an argument, which is pushed
at_pushed_value :
    {A : Type 0} {context : Context} {top pushed need : ℕ} {base : List ℕ} {t : SourceState}
    {facts last : Facts}
    {r : Registers} {memory : List ℕ} {from to more : ℕ} {outcome : Outcome A}
    {Good : A → SourceState → State → Type 0} (scalar : ScalarType)
    → IsSound context
    → 3 ≤ need
    → StepsStand context (PartDoes context) facts from
    (Rattle.steps8080.specs.declared.step.Step.TheVariants.Plain (push_of scalar) ∷ []) last to
    → Stage context top pushed need base t facts r memory
    → (Stage context (top - 2) ((pushed + 2) % 65536) (need - 2)
    (pushed_word top (pushed_value scalar r) memory) t last
    (record r { sp = wrap (top - 2) }) (pushed_word top (pushed_value scalar r) memory)
    → Does (loaded_in context) t.budget more
    (at_place to (record r { sp = wrap (top - 2) }) (pushed_word top (pushed_value scalar r) memory) t.events)
    outcome Good)
    → Does (loaded_in context) t.budget more (at_place from r memory t.events) outcome Good
unfolding push_of
at_pushed_value {r = r} Byte sound enough (PlainThere there NoneThere) stage rest =
    at_push (word r.a (flag_byte r.flags)) refl sound enough stage there rest
at_pushed_value {r = r} Address sound enough (PlainThere there NoneThere) stage rest =
    at_push (word r.h r.l) refl sound enough stage there rest

-- the steps of an argument and those after it
argument_split :
    {context : Context} {facts last : Facts} {from to : ℕ} (known : Facts) (arguments : Range)
    (first others pushed : ℕ)
    (number : ExpressionNumber)
    → first ≡ arguments.first + (arguments.count - suc others)
    → suc others ≤ arguments.count
    → slice_get (nodes_in context).arguments first ≡ Some number
    → StepsStand context (PartDoes context) facts from
    (arguments_steps (knowing context.site known) arguments (suc others) pushed) last to
    → StepsStand context (PartDoes context) facts from
    (argument_steps (knowing context.site known) number others pushed
    ++ arguments_steps (knowing context.site known) arguments others ((pushed + 2) % 65536)) last to
unfolding arguments_steps
argument_split {context = context} {facts = facts} {last = last} {from = from} {to = to} known arguments first
    others pushed number place within there stand =
    subst
    (λ entry. StepsStand context (PartDoes context) facts from
    (elim (entry) [
      | Some expression ↦
          argument_steps (knowing context.site known) expression others pushed
          ++ arguments_steps (knowing context.site known) arguments others ((pushed + 2) % 65536)
      | None ↦ arguments_steps (knowing context.site known) arguments others pushed
    ]) last to)
    (argument_is context arguments known first others number place within there) stand

-- the arguments from one on, wherever their code is placed
abbrev ArgumentsDo :
    {B : Type 0} → Context → (Good : B → SourceState → State → Type 0) → (known : Facts) → Range → (count : ℕ)
    → TypedArguments → (top pushed need to : ℕ) → (last : Facts) → Type 0
ArgumentsDo {B = B} context Good known arguments count trees top pushed need to last =
    (from : ℕ) (facts : Facts) (base : List ℕ) (t : SourceState) (r : Registers) (memory : List ℕ)
    (go : List ℕ → SourceState → Outcome B)
    → StepsStand context (PartDoes context) facts from
    (arguments_steps (knowing context.site known) arguments count pushed) last to
    → Stage context top pushed need base t facts r memory
    → ((given : List ℕ) (low : ℕ) (u : SourceState) (now : Registers) (memory_now : List ℕ)
    → ArePassed context (types_of trees) top base given low u now memory_now
    → Does (loaded_in context) u.budget 0 (at_place to now memory_now u.events) (go given u) Good)
    → Does (loaded_in context) t.budget 0 (at_place from r memory t.events)
    (then_do (values context.later context.activation.around trees t) go) Good

pub at_arguments :
    {B : Type 0} {context : Context} {top pushed need : ℕ} {base : List ℕ} {t : SourceState}
    {facts last : Facts}
    {r : Registers} {memory : List ℕ} {bound first others : ℕ} {trees : TypedArguments}
    {Good : B → SourceState → State → Type 0} (known : Facts) (arguments : Range) (from to : ℕ)
    (go : List ℕ → SourceState → Outcome B)
    → IsSound context
    → first ≡ arguments.first + (arguments.count - suc others)
    → suc others ≤ arguments.count
    → AreArguments (nodes_in context) context.storage bound first (suc others) trees
    → TypesHoldInArguments context.typed context.within trees
    → StepsStand context (PartDoes context) facts from
    (arguments_steps (knowing context.site known) arguments (suc others) pushed) last to
    → 2 * (count_of_arguments trees + height_of_arguments trees) ≤ need
    → Stage context top pushed need base t facts r memory
    → ((given : List ℕ) (low : ℕ) (u : SourceState) (now : Registers) (memory_now : List ℕ)
    → ArePassed context (types_of trees) top base given low u now memory_now
    → Does (loaded_in context) u.budget 0 (at_place to now memory_now u.events) (go given u) Good)
    → Does (loaded_in context) t.budget 0 (at_place from r memory t.events)
    (then_do (values context.later context.activation.around trees t) go) Good
unfolding argument_steps last_argument_steps pushed_argument_steps arguments_steps
at_arguments {context = context} {top = top} {pushed = pushed} {need = need} {base = base} {t = t}
    {facts = facts} {last = last} {r = r} {memory = memory} {first = first} {others = zero} {Good = Good}
    known arguments from to go sound place within (AreMore {number = number} {tree = tree} there node AreNone)
    types stand fewer stage rest =
    let around = context.activation.around in
    let parts =
    steps_split _ _ (argument_split known arguments first 0 pushed number place within there stand) in
    single parts.first parts.second
  where
    single : {middle : ℕ} {found : Facts}
        → StepsStand context (PartDoes context) facts from
        (argument_steps (knowing context.site known) number 0 pushed) found middle
        → StepsStand context (PartDoes context) found middle
        (arguments_steps (knowing context.site known) arguments 0 ((pushed + 2) % 65536)) last to
        → Does (loaded_in context) t.budget 0 (at_place from r memory t.events)
        (then_do (values context.later context.activation.around (MoreArguments tree NoArguments) t) go) Good
    single (PartThere does NoneThere) NoneThere =
        does_same _ (then_again (value context.later context.activation.around tree t) _ go)
        (at_value (type_of tree) from to number
        (subst (λ scalar. TaskDoes context facts (value_task scalar number) pushed from last to)
        (scalar_is known sound node) does) node types.0 refl (omega (arith, fewer)) stage
        (λ found u now memory_now there small next.
        rest (found ∷ []) top u now memory_now (record {
          below = next.below;
          room = let enough = next.room.enough in omega (arith, enough);
          ready = ready_now next.ready;
          kept = next.ready.kept;
          count = refl;
          lie = there;
          height = omega arith;
        })))
at_arguments {context = context} {top = top} {pushed = pushed} {need = need} {base = base} {t = t}
    {facts = facts} {last = last} {r = r} {memory = memory} {first = first} {others = suc more} {Good = Good}
    known arguments from to go sound place within
    (AreMore {number = number} {tree = tree} there node
    (AreMore {number = second} {tree = next} {others = nexts} there_next node_next more_are)) types
    stand fewer stage rest =
    let parts =
    steps_split _ _
    (argument_split known arguments first (suc more) pushed number place within there stand) in
    several (λ place_now facts_now base_now u now memory_now go_on stand_now stage_now rest_now.
    at_arguments {top = top - 2} {pushed = (pushed + 2) % 65536} {need = need - 2} {base = base_now} {t = u}
    {facts = facts_now} {r = now} {memory = memory_now} {first = suc first} {others = more}
    {trees = MoreArguments next nexts} known arguments place_now to go_on sound
    (omega (arith, place, within)) (omega (arith, within))
    (AreMore there_next node_next more_are) types.1 stand_now (omega (arith, fewer)) stage_now rest_now)
    parts.first parts.second
  where
    after_value : {middle : ℕ} {found : Facts}
        → StepsStand context (PartDoes context) facts from
        (argument_steps (knowing context.site known) number (suc more) pushed) found middle
        → Parted context (PartDoes context) facts from
        (last_argument_steps (knowing context.site known) number pushed)
        (Rattle.steps8080.specs.declared.step.Step.TheVariants.Plain
        (push_of (scalar (knowing context.site known) number)) ∷ []) found middle
    after_value stand = steps_split _ _ stand

    several : {middle : ℕ} {found : Facts}
        → ArgumentsDo context Good known arguments (suc more) (MoreArguments next nexts) (top - 2)
        ((pushed + 2) % 65536) (need - 2) to last
        → StepsStand context (PartDoes context) facts from
        (argument_steps (knowing context.site known) number (suc more) pushed) found middle
        → StepsStand context (PartDoes context) found middle
        (arguments_steps (knowing context.site known) arguments (suc more) ((pushed + 2) % 65536)) last to
        → Does (loaded_in context) t.budget 0 (at_place from r memory t.events)
        (then_do (values context.later context.activation.around
        (MoreArguments tree (MoreArguments next nexts)) t) go) Good
    several {middle = middle} {found = found_facts} recurse own others =
        let pieces = after_value own in
        pushed_first pieces.first pieces.second others
      where
        pushed_first : {between : ℕ} {one : Facts}
            → StepsStand context (PartDoes context) facts from
            (last_argument_steps (knowing context.site known) number pushed) one between
            → StepsStand context (PartDoes context) one between
            (Rattle.steps8080.specs.declared.step.Step.TheVariants.Plain
            (push_of (scalar (knowing context.site known) number)) ∷ []) found_facts middle
            → StepsStand context (PartDoes context) found_facts middle
            (arguments_steps (knowing context.site known) arguments (suc more) ((pushed + 2) % 65536)) last to
            → Does (loaded_in context) t.budget 0 (at_place from r memory t.events)
            (then_do (values context.later context.activation.around
            (MoreArguments tree (MoreArguments next nexts)) t) go) Good
        pushed_first {between = between} {one = one} (PartThere does NoneThere) push others =
            let type = scalar_is known sound node in
            does_same _ (then_again (value context.later context.activation.around tree t) _ go)
            (at_value (type_of tree) from between number
            (subst (λ scalar. TaskDoes context facts (value_task scalar number) pushed from one between) type
            does) node types.0 refl (omega (arith, fewer)) stage
            (λ found u now memory_now is_there small after.
            at_pushed_value (type_of tree) sound (omega (arith, fewer))
            (subst (λ scalar. StepsStand context (PartDoes context) one between
            (Rattle.steps8080.specs.declared.step.Step.TheVariants.Plain (push_of scalar) ∷ [])
            found_facts middle) type push)
            after
            (λ below.
            does_same _
            (then_again (values context.later context.activation.around (MoreArguments next nexts) u)
            (λ numbers v. Gave (found ∷ numbers) v) go)
            (recurse middle found_facts _ u _ _ (λ numbers v. go (found ∷ numbers) v) others below
            (λ given low v later_r ended passed.
            let lies = sound.lies in
            let depth = after.room.depth in
            let enough = after.room.enough in
            let start : context.activation.floor + 2 ≤ top = omega (arith, enough, fewer) in
            let highest : top ≤ context.activation.level = omega (arith, depth) in
            let count = passed.count in
            let height = passed.height in
            let registers = after.ready.registers in
            rest (found ∷ given) low v later_r ended (record {
              below = passed.below;
              room = passed.room;
              ready = passed.ready;
              kept =
                  keeps_both (Owns context.activation top) base memory_now ended after.ready.kept
                  (keeps_both (Owns context.activation top) memory_now
                  (pushed_word top (pushed_value (type_of tree) now) memory_now) ended
                  (push_keeps context.activation top (pushed_value (type_of tree) now) memory_now start)
                  (keeps_wider (Owns context.activation (top - 2)) (Owns context.activation top)
                  (pushed_word top (pushed_value (type_of tree) now) memory_now) ended
                  (owns_more context.activation (top - 2) top (omega arith)) passed.kept));
              count = ap (λ n. suc n) count;
              lie = (
                lies_in_word context.activation (type_of tree) found top (low + 2 * length (types_of nexts))
                    now memory_now ended lies start highest
                    after.ready.shares.is_memory.size (flag_byte_small now.flags) registers.l
                    is_there passed.kept
                    (omega (arith, count, height, start)),
                passed.lie,
              );
              height = omega (arith, count, height, start);
            }))))))
