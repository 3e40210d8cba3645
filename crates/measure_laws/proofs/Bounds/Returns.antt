-- The returns of procedures.
use Rattle.measure_laws.proofs.Prelude.{◌≡◌, ℕ, zero, suc, ◌+◌, ◌-◌, ◌*◌, ◌/◌, ◌%◌, ◌≤◌, nat_eq, nat_le, min, Bool, true, false, if◌then◌else◌, List, [], ◌∷◌, ◌++◌, replicate, Option, Some, None, refl, sym, ap, subst, ◌∙◌, arith, leb-true, Instr, Dad, Inx, Lxi, Pchl, Pop, Push, Ret, Sphl, Xchg, Hl, Sp, StackBc, StackDe, StackHl, Item, ScalarType, Byte, Address, FRAME_LIMIT, ProcedureKind, Facts, clear_a, Site, AreWritten, NoneWritten, PlainWritten, Body, Planned, plain, Here, AreCarriedOut, StepCarriedOut, carried_steps, drop_steps, end_steps, kept_steps, pops_steps, return_of_frame_steps, return_over_any_steps, return_over_steps, return_steps, return_steps_by, zero_result_steps, BytesDropped, FindsRoom, BodyGround, ItemsMeasured, PlanMeasured, PlanFootprint}
use Rattle.asm8080.specs.declared.item.Item.TheVariants as items
use Rattle.treecode.specs.declared.procedure.ProcedureKind.TheVariants as kinds
use Rattle.steps8080.specs.declared.step.Step.TheVariants as steps
use Rattle.measure_laws.proofs.{Bounds.Fitting.{both_fit, either_fit, less_fits, none_fit, none_measured, then_fit}, Bounds.Pieces.{bare_fits}, Bounds.Planning.{code_fits, plains_fit}}

-- an instruction with others after it
record Followed
    (body : Body) (called : List Bool) (i : Instr) (others : List Planned) (list : List Item) (last : Here) :
    Type 0 where
  pub here : Here
  pub waiting : Option Facts
  pub more : List Item
  pub rest : AreCarriedOut body called here waiting others more last
  pub same : list ≡ items.Plain i ∷ more

none_written :
    {site : Site} {called : List Bool} {facts last : Facts} {list : List Item}
    → AreWritten site called facts [] list last
    → list ≡ []
none_written NoneWritten = refl

plain_written :
    {site : Site} {called : List Bool} {facts last : Facts} {list : List Item} (i : Instr)
    → AreWritten site called facts (steps.Plain i ∷ []) list last
    → list ≡ items.Plain i ∷ []
plain_written i (PlainWritten rest) = ap (λ (list : List Item). items.Plain i ∷ list) (none_written rest)

plain_first :
    {body : Body} {called : List Bool} {here last : Here} {waiting : Option Facts} {list : List Item}
    (i : Instr)
    (others : List Planned)
    → AreCarriedOut body called here waiting (plain i ∷ others) list last
    → Followed body called i others list last
unfolding carried_steps
plain_first i others (StepCarriedOut {more = more} ok written rest) = record {
  here = _;
  waiting = _;
  more = more;
  rest = rest;
  same = ap (λ (list : List Item). list ++ more) (plain_written i written);
}

-- steps that drop bytes
record Drops (at : BodyGround) (free : ℕ) (planned : List Planned) (most : ℕ) : Type 0 where
  pub after : ℕ
  pub more : free ≤ after
  pub fit : PlanMeasured at free planned after most

module _ (at : BodyGround) where
  repeated_drops :
      (i : Instr) (bytes : ℕ)
      → ((free : ℕ) → PlanMeasured at free (plain i ∷ []) (free + bytes) 3)
      → (count free : ℕ)
      → Drops at free (replicate count (plain i)) (3 * count)
  repeated_drops i bytes one zero free =
      record { after = free; more = omega arith; fit = none_fit }
  repeated_drops i bytes one (suc count) free =
      let rest = repeated_drops i bytes one count (free + bytes) in
      record {
        after = rest.after;
        more = omega (arith, rest.more);
        fit = less_fits (then_fit (one free) rest.fit) (omega arith);
      }

  -- drops words from the stack
  pops_drop : (words free : ℕ) → Drops at free (pops_steps words) (3 * words)
  unfolding pops_steps
  pops_drop words free =
      repeated_drops (Pop StackBc) 2 (λ free. code_fits (steps.Plain (Pop StackBc)) refl refl) words free

  -- by setting the stack pointer
  sphl_room :
      {here last : Here} {waiting : Option Facts} {list : List Item} (free bytes : ℕ)
      → bytes ≤ FRAME_LIMIT + 2
      → at.pushes
      → AreCarriedOut at.body at.called here waiting
      (plain (Lxi Hl bytes) ∷ plain (Dad Sp) ∷ plain Sphl ∷ []) list last
      → FindsRoom at.body.tree.now at.level free list (free + bytes)
  sphl_room free bytes small p done =
      let first = plain_first (Lxi Hl bytes) (plain (Dad Sp) ∷ plain Sphl ∷ []) done in
      let second = plain_first (Dad Sp) (plain Sphl ∷ []) first.rest in
      let third = plain_first Sphl [] second.rest in
      subst (λ (list : List Item). FindsRoom at.body.tree.now at.level free list (free + bytes))
      (sym
      (first.same
      ∙ ap (λ (list : List Item). items.Plain (Lxi Hl bytes) ∷ list)
      (second.same ∙ ap (λ (list : List Item). items.Plain (Dad Sp) ∷ list) third.same)))
      (BytesDropped small ((none_measured {at = at} {most = 0} third.rest).room p))

  sphl_fits :
      (free bytes : ℕ) → bytes ≤ FRAME_LIMIT + 2
      → PlanMeasured at free (plain (Lxi Hl bytes) ∷ plain (Dad Sp) ∷ plain Sphl ∷ []) (free + bytes) 9
  sphl_fits free bytes small = record {
    fits = λ done own.
        let bare : ItemsMeasured (record at { pushes = ⊥ }) free _ free 9 =
        (then_fit (bare_fits (λ p. p) (steps.Plain (Lxi Hl bytes)) refl tt)
        (then_fit (bare_fits (λ p. p) (steps.Plain (Dad Sp)) refl tt)
        (bare_fits (λ p. p) (steps.Plain Sphl) refl tt))).fits
        done own in
        record { room = λ p. sphl_room free bytes small p done; small = bare.small; goes = bare.goes };
  }

  kept_fits :
      (free bytes : ℕ) (result : Option ScalarType) → bytes ≤ FRAME_LIMIT + 2
      → PlanMeasured at free (kept_steps result (Lxi Hl bytes ∷ Dad Sp ∷ Sphl ∷ [])) (free + bytes) 15
  unfolding kept_steps
  kept_fits free bytes (Some Address) small =
      then_fit (code_fits (steps.Plain Xchg) refl refl)
      (both_fit (sphl_fits free bytes small) (code_fits (steps.Plain Xchg) refl refl))
  kept_fits free bytes (Some Byte) small = less_fits (sphl_fits free bytes small) (omega arith)
  kept_fits free bytes None small = less_fits (sphl_fits free bytes small) (omega arith)

  -- drops bytes from the stack
  drop_by_drops :
      (free bytes : ℕ) (result : Option ScalarType) (few : Bool) → nat_le bytes 12 ≡ few
      → bytes ≤ FRAME_LIMIT + 2
      → Drops at free
      (if few then pops_steps (bytes / 2) ++ replicate (bytes % 2) (plain (Inx Sp))
      else kept_steps result (Lxi Hl bytes ∷ Dad Sp ∷ Sphl ∷ [])) 21
  drop_by_drops free bytes result true is small =
      let words = pops_drop (bytes / 2) free in
      let odd =
      repeated_drops (Inx Sp) 1 (λ free. code_fits (steps.Plain (Inx Sp)) refl refl)
      (bytes % 2) words.after in
      let few = leb-true bytes 12 is in
      record {
        after = odd.after;
        more = omega (arith, words.more, odd.more);
        fit = less_fits (both_fit words.fit odd.fit) (omega (arith, few));
      }
  drop_by_drops free bytes result false is small = record {
    after = free + bytes;
    more = omega arith;
    fit = less_fits (kept_fits free bytes result small) (omega arith);
  }

  drop_drops :
      (free bytes : ℕ) (result : Option ScalarType) → bytes ≤ FRAME_LIMIT + 2
      → Drops at free (drop_steps bytes result) 21
  unfolding drop_steps
  drop_drops free bytes result small = drop_by_drops free bytes result (nat_le bytes 12) refl small

  -- a return over words, if at least as many bytes are free as at the level
  elsewhere_fits :
      (words free : ℕ) → at.level ≤ free
      → PlanMeasured at free (plain (Pop StackHl) ∷ (pops_steps words ++ (plain Pchl ∷ [])))
      at.level (9 + 3 * words)
  elsewhere_fits words free enough =
      let dropped = pops_drop words (free + 2) in
      less_fits
      (then_fit (code_fits (steps.Plain (Pop StackHl)) refl refl)
      (both_fit dropped.fit (code_fits (steps.Plain Pchl) refl (omega (arith, enough, dropped.more), refl))))
      (omega arith)

  return_over_fits :
      (words free : ℕ) (result : Option ScalarType) → at.level ≤ free
      → PlanMeasured at free (return_over_steps words result) at.level (9 + 3 * words)
  unfolding return_over_steps
  return_over_fits words free (Some Address) enough =
      let dropped = pops_drop words (free + 2) in
      less_fits
      (then_fit (code_fits (steps.Plain (Pop StackDe)) refl refl)
      (both_fit dropped.fit
      (then_fit (code_fits (steps.Plain (Push StackDe)) refl (omega (arith, dropped.more), refl))
      (code_fits (steps.Plain Ret) refl refl))))
      (omega arith)
  return_over_fits words free (Some Byte) enough = elsewhere_fits words free enough
  return_over_fits words free None enough = elsewhere_fits words free enough

  return_over_any_fits :
      (words free : ℕ) (result : Option ScalarType) → at.level ≤ free
      → PlanMeasured at free (return_over_any_steps words result) at.level (9 + 3 * words)
  unfolding return_over_any_steps
  return_over_any_fits words free result enough =
      either_fit (nat_eq words 0) (less_fits (code_fits (steps.Plain Ret) refl refl) (omega arith))
      (return_over_fits words free result enough)

  -- a return
  frame_fits :
      (bytes : ℕ) (none : Bool) → bytes ≤ FRAME_LIMIT
      → min (bytes + (if none then 0 else 2)) 65535 ≤ FRAME_LIMIT + 2
  frame_fits bytes true small = omega (arith, small)
  frame_fits bytes false small = omega (arith, small)

  module _ (small : at.body.frame.now.variable_bytes ≤ FRAME_LIMIT) where
    return_by_fits :
        (kind : ProcedureKind)
        → PlanFootprint at (return_steps_by kind at.body)
        (30 + 3 * at.body.frame.now.parameter_count)
    unfolding return_steps_by return_of_frame_steps
    return_by_fits kinds.Reentrant =
        let count = at.body.frame.now.parameter_count in
        let dropped =
        drop_drops at.level (min (at.body.frame.now.variable_bytes + (if nat_eq count 0 then 0 else 2)) 65535)
        at.body.procedure.now.result (frame_fits at.body.frame.now.variable_bytes (nat_eq count 0) small) in
        less_fits
        (both_fit dropped.fit
        (return_over_any_fits (count - 1) dropped.after at.body.procedure.now.result dropped.more))
        (omega arith)
    return_by_fits other = less_fits (code_fits (steps.Plain Ret) refl refl) (omega arith)

    pub return_fits :
        PlanFootprint at (return_steps at.body)
        (30 + 3 * at.body.frame.now.parameter_count)
    return_fits = return_by_fits at.body.procedure.now.kind

    -- the end
    zero_fits :
        (result : Option ScalarType) → PlanFootprint at (zero_result_steps result) 3
    unfolding zero_result_steps
    zero_fits (Some Byte) = plains_fit (plain clear_a ∷ []) refl tt
    zero_fits (Some Address) = plains_fit (plain (Lxi Hl 0) ∷ []) refl tt
    zero_fits None = none_fit

    pub end_fits :
        PlanFootprint at (end_steps at.body)
        (33 + 3 * at.body.frame.now.parameter_count)
    unfolding end_steps
    end_fits = less_fits (both_fit (zero_fits at.body.procedure.now.result) return_fits) (omega arith)
