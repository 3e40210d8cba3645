-- Code of a call of a procedure.
use Rattle.task_laws.proofs.Prelude.{◌≡◌, ℕ, suc, ◌+◌, ◌%◌, ◌-◌, ◌*◌, ◌<◌, ◌≤◌, ◌⊎◌, inl, inr, get_or, List, [], ◌∷◌, ◌++◌, length, slice_get, Option, Some, None, refl, sym, ap, subst, ◌∙◌, arith, slice_get_cases, slice_get_within, IsSomeAnd, ScalarType, count_of_arguments, height_of_arguments, MoreArguments, NoArguments, TypedArguments, TypedProcedure, Takes, TypesHoldInArguments, types_of, called_for, callee_in, values, SourceState, then_do, Registers, Range, ProcedureKind, TreeProcedure, AreArguments, AreMore, AreNone, Facts, no_facts, Arrives, IsReady, IsThere, Owns, Does, at_place, does_without_step, keeps_both, no_facts_hold, arguments_steps, call_steps, call_items, items_of_call, knowing, ArgumentsLie, Context, IsSound, ResultLies, bytes_pushed, nodes_in, CallThere, NoneThere, StepsStand, CallDoes, PartDoes, ResultIsGiven}
use Rattle.asm8080.specs.Standing.{Keeps}
use Rattle.treecode.specs.declared.procedure.ProcedureKind.TheVariants as kinds
use Rattle.steps8080.specs.declared.step.Step.TheVariants as steps
use Rattle.task_laws.proofs.Machine.Rules.{steps_split}
use Rattle.task_laws.proofs.Machine.Stages.{Stage, gives_then, loaded_in}
use Rattle.task_laws.proofs.Calls.Arguments.{ArePassed, at_arguments, ready_now}

-- the heading of a procedure that is called
pub record HeadingOf
    (context : Context) (procedure : ℕ) (result : Option ScalarType) (types : List ScalarType) : Type 0 where
  pub heading : TypedProcedure
  pub is_there : slice_get context.typed.procedures procedure ≡ Some heading
  pub result_is : heading.result ≡ result
  pub types_are : heading.parameter_types ≡ types

pub heading_of :
    (context : Context) (procedure : ℕ) (result : Option ScalarType) (trees : TypedArguments)
    → Takes context.typed procedure result trees
    → HeadingOf context procedure result (types_of trees)
heading_of context procedure result trees takes =
    by_entry (slice_get context.typed.procedures procedure) refl takes
  where
    by_entry : (entry : Option TypedProcedure)
        → slice_get context.typed.procedures procedure ≡ entry
        → IsSomeAnd entry
        (λ (found : TypedProcedure). (found.result ≡ result) × (found.parameter_types ≡ types_of trees))
        → HeadingOf context procedure result (types_of trees)
    by_entry (Some found) there is =
        record { heading = found; is_there = there; result_is = is.0; types_are = is.1 }
    by_entry None there is = absurd is

-- a CALL has three bytes
call_size :
    {context : Context} {procedure : ℕ} {result : Option ScalarType} {types : List ScalarType} {from to : ℕ}
    → IsSound context
    → HeadingOf context procedure result types
    → IsThere context.activation (call_items context.site procedure) from to
    → to ≡ from + 3
call_size {context = context} {procedure = procedure} {from = from} {to = to} sound of there =
    let within = slice_get_within context.typed.procedures procedure of.heading of.is_there in
    by_case ((slice_get_cases context.site.tree.now.procedures.items procedure).1)
    (subst (λ count. procedure < count) (sym sound.lowered.procedure_count) within)
  where
    by_kind : (kind : ProcedureKind)
        → IsThere context.activation (items_of_call procedure kind) from to
        → to ≡ from + 3
    by_kind (kinds.External name) there = sym there.stands.1
    by_kind kinds.Static there = sym there.stands.1
    by_kind kinds.Reentrant there = sym there.stands.1

    by_case : ((x : TreeProcedure) × (procedure < length context.site.tree.now.procedures.items)
        × (slice_get context.site.tree.now.procedures.items procedure ≡ Some x)
        × (get_or context.site.tree.now.procedures.items procedure x ≡ x))
        ⊎ ((length context.site.tree.now.procedures.items ≤ procedure)
        × (slice_get context.site.tree.now.procedures.items procedure ≡ None))
        → procedure < length context.site.tree.now.procedures.items → to ≡ from + 3
    by_case (inl found) less =
        by_kind (found.0).kind (subst (λ entry. IsThere context.activation (elim (entry) [
          | Some callee ↦ items_of_call procedure callee.kind
          | None ↦ []
        ]) from to) found.2 there)
    by_case (inr past) less = let most = past.0 in absurd (omega (arith, less, most))

-- arguments that are passed, and then the call
at_call :
    {context : Context} {result : Option ScalarType} {top low from to procedure : ℕ} {base given : List ℕ}
    {u : SourceState} {r now : Registers} {memory memory_now : List ℕ} (trees : TypedArguments)
    → IsSound context
    → HeadingOf context procedure result (types_of trees)
    → IsThere context.activation (call_items context.site procedure) from to
    → top ≤ context.activation.level
    → (context.activation.level - top) % 2 ≡ 0
    → ArePassed context (types_of trees) top base given low u now memory_now
    → Does (loaded_in context) u.budget 0 (at_place from now memory_now u.events)
    (called_for context.later (callee_in context.activation.around procedure) given
    context.activation.around u)
    (Arrives context.activation top base to (ResultIsGiven context no_facts result r memory))
at_call {context = context} {result = result} {top = top} {low = low} {from = from} {to = to}
    {procedure = procedure} {base = base} {given = given} {u = u} {r = r} {now = now} {memory = memory}
    {memory_now = memory_now} trees sound of there below words passed =
    let place = call_size sound of there in
    let height = passed.height in
    let room = passed.room in
    gives_then _
    (sound.calls procedure from low (context.activation.level - low) of.heading given
    memory_now u now memory_now
    of.is_there passed.below
    (subst (λ n. IsThere context.activation (call_items context.site procedure) from n) place there)
    (record { depth = omega (arith, height, below); even = omega (arith, height, below, words); enough = omega (arith, room) })
    (omega (arith, height, below)) passed.ready
    (subst (λ types. ArgumentsLie types given low now memory_now) (sym of.types_are) passed.lie))
    (λ found t end arrives spent.
    does_without_step (record {
      r = arrives.r;
      memory = arrives.memory;
      is_at = arrives.is_at ∙ ap (λ n. at_place n arrives.r arrives.memory t.events) (sym place);
      ready =
          subst (λ level. IsReady context.activation level base t.memory t.frame arrives.r arrives.memory)
          height
          (record {
            pointer = arrives.ready.pointer;
            registers = arrives.ready.registers;
            shares = arrives.ready.shares;
            frame_lies = arrives.ready.frame_lies;
            kept =
                keeps_both (Owns context.activation (low + bytes_pushed given)) base memory_now arrives.memory
                (subst (λ level. Keeps (Owns context.activation level) base memory_now)
                (sym height) passed.kept)
                arrives.ready.kept;
          });
      holds = record {
        lies = subst (λ kind. ResultLies kind found arrives.r arrives.memory) of.result_is arrives.holds;
        known = no_facts_hold;
      };
    }))

-- a call with its arguments
pub call_goes :
    {context : Context} {facts last : Facts} {bound first count pushed from to : ℕ}
    {result : Option ScalarType} {trees : TypedArguments} (procedure : ℕ) (arguments : Range)
    → IsSound context
    → first ≡ arguments.first
    → arguments.count ≡ count
    → AreArguments (nodes_in context) context.storage bound first count trees
    → Takes context.typed procedure result trees
    → TypesHoldInArguments context.typed context.within trees
    → StepsStand context (PartDoes context) facts from
    (arguments_steps (knowing context.site facts) arguments count pushed
    ++ (steps.CallProcedure procedure ∷ [])) last to
    → (top : ℕ) (base : List ℕ) (s : SourceState) (r : Registers) (memory : List ℕ)
    → Stage context top pushed (2 * (1 + count_of_arguments trees + height_of_arguments trees))
    base s facts r memory
    → Does (loaded_in context) s.budget 0 (at_place from r memory s.events)
    (then_do (values context.later context.activation.around trees s)
    (λ given t.
    called_for context.later (callee_in context.activation.around procedure) given
    context.activation.around t))
    (Arrives context.activation top base to (ResultIsGiven context last result r memory))
unfolding arguments_steps
call_goes {context = context} procedure arguments sound same_first same_count AreNone takes types
    (CallThere there NoneThere) top base s r memory stage =
    let depth = stage.room.depth in
    let even = stage.room.even in
    let enough = stage.room.enough in
    at_call NoArguments sound (heading_of context procedure _ NoArguments takes) there (omega (arith, depth))
    (omega (arith, depth, even))
    (record {
      below = stage.below;
      room = omega (arith, enough);
      ready = ready_now stage.ready;
      kept = stage.ready.kept;
      count = refl;
      lie = tt;
      height = omega arith;
    })
call_goes {context = context} {facts = facts} {last = last} {pushed = pushed} {from = from} {to = to}
    {result = result} procedure arguments sound same_first same_count
    (AreMore {first = first} {count = others} {number = number} {tree = tree} {others = more} at node are)
    takes types stand top base s r memory stage =
    let depth = stage.room.depth in
    let even = stage.room.even in
    let parts =
    steps_split (arguments_steps (knowing context.site facts) arguments (suc others) pushed)
    (steps.CallProcedure procedure ∷ []) stand in
    finishes parts.first parts.second (omega (arith, depth)) (omega (arith, depth, even))
  where
    finishes : {found final : Facts} {middle finish : ℕ}
        → StepsStand context (PartDoes context) facts from
        (arguments_steps (knowing context.site facts) arguments (suc others) pushed) found middle
        → StepsStand context (PartDoes context) found middle (steps.CallProcedure procedure ∷ []) final finish
        → top ≤ context.activation.level
        → (context.activation.level - top) % 2 ≡ 0
        → Does (loaded_in context) s.budget 0 (at_place from r memory s.events)
        (then_do (values context.later context.activation.around (MoreArguments tree more) s)
        (λ given t.
        called_for context.later (callee_in context.activation.around procedure) given
        context.activation.around t))
        (Arrives context.activation top base finish (ResultIsGiven context final result r memory))
    finishes {middle = middle} before (CallThere there NoneThere) below words =
        at_arguments facts arguments from middle _ sound (omega (arith, same_first, same_count))
        (omega (arith, same_count)) (AreMore at node are) types before (omega arith) stage
        (λ given low u now memory_now passed.
        at_call (MoreArguments tree more) sound
        (heading_of context procedure result (MoreArguments tree more) takes) there below words passed)

-- the task of a call
pub call_does :
    {context : Context} {facts last : Facts} {pushed from to : ℕ} (procedure : ℕ) (arguments : Range)
    → IsSound context
    → StepsStand context (PartDoes context) facts from
    (call_steps (knowing context.site facts) procedure arguments pushed) last to
    → CallDoes context facts procedure arguments pushed from last to
unfolding call_steps
call_does procedure arguments sound stand bound result trees are takes types top base s r memory below
    room ready known asked =
    call_goes procedure arguments sound refl refl are takes types stand top base s r memory
    (record { below = below; room = room; ready = ready; known = known })
