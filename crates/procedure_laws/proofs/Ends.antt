-- The end of a procedure that is reached: its result is 0, and it returns.
use Rattle.procedure_laws.proofs.Prelude.{◌≡◌, ℕ, ◌+◌, List, [], ◌∷◌, ◌++◌, Option, Some, None, bit_xor, refl, sym, ap, subst, arith, xor_self, Event, ScalarType, Byte, Address, SourceState, Outcome, Instr, Lxi, ExclusiveOr, Hl, operate, Registers, State, Item, size_of_instruction, IsReady, IsThere, LiesWell, Does, loaded_of, at_place, plain_first, after_plain, Facts, clear_a, AreWritten, NoneWritten, PlainWritten, Planned, plain, Here, AreCarriedOut, StepCarriedOut, carried_steps, here_after, site_of, waiting_after, end_steps, return_steps, zero_result_steps, ResultLies, ready_with_registers, BodyContext, ReturnStands}
use Rattle.asm8080.specs.declared.item.Item.TheVariants as items
use Rattle.steps8080.specs.declared.step.Step.TheVariants as steps

-- a planned instruction, and what follows it
pub record IsPlainFirst
    (at : BodyContext) (i : Instr) (others : List Planned) (list : List Item) : Type 0 where
  pub more : List Item
  pub is : list ≡ items.Plain i ∷ more
  pub here : Here
  pub last : Here
  pub written : AreCarriedOut at.body at.context.called here None others more last

instruction_written :
    (at : BodyContext) {facts known : Facts} (i : Instr) {list : List Item}
    → AreWritten (site_of at.body) at.context.called facts (steps.Plain i ∷ []) list known
    → list ≡ items.Plain i ∷ []
instruction_written at i (PlainWritten NoneWritten) = refl

pub plain_planned :
    (at : BodyContext) {here last : Here} (i : Instr) (others : List Planned) {list : List Item}
    → AreCarriedOut at.body at.context.called here None (plain i ∷ others) list last
    → IsPlainFirst at i others list
unfolding carried_steps here_after waiting_after
plain_planned at {here = here} {last = last} i others
    (StepCarriedOut {known = known} {first = first} {more = more} holds written rest) = record {
      more = more;
      is = ap (λ (one : List Item). one ++ more) (instruction_written at i written);
      here = record { facts = known; goes_on = here.goes_on };
      last = last;
      written = rest;
    }

-- The end does: where the code of the return stands after it, with 0 in the register of a result.
pub end_does :
    {A : Type 0} {outcome : Outcome A} {Good : A → SourceState → State → Type 0} {budget : ℕ}
    {base source : List ℕ} {frame : List (List ℕ)} {memory : List ℕ} {events : List Event}
    (at : BodyContext) (here last : Here) (list : List Item) (from to : ℕ) (r : Registers)
    → LiesWell at.context.activation
    → AreCarriedOut at.body at.context.called here None (end_steps at.body) list last
    → IsThere at.context.activation list from to
    → IsReady at.context.activation at.context.activation.level base source frame r memory
    → ((place : ℕ) (now : Registers) → ReturnStands at place
    → IsReady at.context.activation at.context.activation.level base source frame now memory
    → ResultLies at.body.procedure.now.result 0 now memory
    → Does (loaded_of at.context.activation) budget 0
    (at_place place now memory events) outcome Good)
    → Does (loaded_of at.context.activation) budget 0 (at_place from r memory events) outcome Good
unfolding end_steps zero_result_steps
end_does {A = A} {outcome = outcome} {Good = Good} {budget = budget} {base = base} {source = source}
    {frame = frame} {memory = memory} {events = events} at here last list from to r lies written
    there ready return =
    by_result at.body.procedure.now.result refl written
  where
    by_result : (result : Option ScalarType) → at.body.procedure.now.result ≡ result
        → AreCarriedOut at.body at.context.called here None
        (zero_result_steps result ++ return_steps at.body) list last
        → Does (loaded_of at.context.activation) budget 0
        (at_place from r memory events) outcome Good
    by_result None same written =
        return from r
        (record { here = here; last = last; list = list; to = to; written = written; there = there }) ready
        (subst (λ (result : Option ScalarType). ResultLies result 0 r memory) (sym same) tt)
    by_result (Some Byte) same written =
        let parts = plain_planned at clear_a (return_steps at.body) written in
        let here_there =
        subst (λ (list : List Item). IsThere at.context.activation list from to) parts.is there in
        let now : Registers =
        record r { a = bit_xor r.a r.a; flags = (operate ExclusiveOr r.a r.a r.flags).flags } in
        let bytes = ready.registers in
        let zero : bit_xor r.a r.a ≡ 0 = xor_self r.a in
        plain_first r lies ready.shares.code here_there
        (return (from + size_of_instruction clear_a) now
        (record {
          here = parts.here;
          last = parts.last;
          list = parts.more;
          to = to;
          written = parts.written;
          there = after_plain here_there;
        })
        (ready_with_registers refl
        (record { a = omega (arith, zero); b = bytes.b; c = bytes.c; d = bytes.d; e = bytes.e; h = bytes.h; l = bytes.l })
        ready)
        (subst (λ (result : Option ScalarType). ResultLies result 0 now memory) (sym same) zero))
    by_result (Some Address) same written =
        let parts = plain_planned at (Lxi Hl 0) (return_steps at.body) written in
        let here_there =
        subst (λ (list : List Item). IsThere at.context.activation list from to) parts.is there in
        let now : Registers = record r { h = 0; l = 0 } in
        let bytes = ready.registers in
        plain_first r lies ready.shares.code here_there
        (return (from + size_of_instruction (Lxi Hl 0)) now
        (record {
          here = parts.here;
          last = parts.last;
          list = parts.more;
          to = to;
          written = parts.written;
          there = after_plain here_there;
        })
        (ready_with_registers refl
        (record { a = bytes.a; b = bytes.b; c = bytes.c; d = bytes.d; e = bytes.e; h = omega arith; l = omega arith })
        ready)
        (subst (λ (result : Option ScalarType). ResultLies result 0 now memory) (sym same) (refl, refl)))
