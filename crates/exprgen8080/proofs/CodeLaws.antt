-- Items with labels counted in their order are the code that the function gives, so that the code is unique.
use Rattle.exprgen8080.proofs.Prelude.{◌≡◌, ℕ, suc, ◌+◌, Bool, List, [], ◌++◌, Option, Some, option_and_then, option_map, sym, ap, subst, ◌∙◌, arith, Item, Facts, Part, Step, label_after, Site, AreWritten, IsWritten, NoneWritten, PlainWritten, WordWritten, JumpWritten, MarkWritten, RoutineWritten, CallWritten, TestWritten, HoldsWritten, ChangeWritten, PartWritten, Planned, knowing, after_step, step_items, task_labels, task_steps, AreLabelled, IsLabelled, same_Some}
use Rattle.steps8080.specs.declared.step.Step.TheVariants as steps
use Rattle.exprgen8080.specs.internal.Code.{Code, IsCodeOfPart, IsCodeOfSteps, IsFoundDeep, code_of_part, code_of_steps, in_front}

-- A value found by a function of another found value, looked up one level deeper.
pub found_then : {A B : Type 0} (first_at : (depth : ℕ) → Option A) (then_at : (depth : ℕ) → A → Option B)
    (first : A) (found : B)
    → IsFoundDeep first_at first
    → IsFoundDeep (λ depth. then_at depth first) found
    → IsFoundDeep (λ depth. option_and_then (then_at depth) (first_at depth)) found
found_then first_at then_at first found is then =
    let same_first : (extra : ℕ) → is.0 + (then.0 + extra) ≡ is.0 + then.0 + extra = λ extra. omega arith in
    let same_then : (extra : ℕ) → then.0 + (is.0 + extra) ≡ is.0 + then.0 + extra = λ extra. omega arith in (
      is.0 + then.0,
      λ extra.
          ap (option_and_then (then_at (is.0 + then.0 + extra)))
          (subst (λ depth. first_at depth ≡ Some first) (same_first extra) (is.1 (then.0 + extra)))
          ∙ subst (λ depth. then_at depth first ≡ Some found) (same_then extra) (then.1 (is.0 + extra)),
    )

pub found_map : {A B : Type 0} (made : A → B) (first_at : (depth : ℕ) → Option A) (first : A)
    → IsFoundDeep first_at first
    → IsFoundDeep (λ depth. option_map made (first_at depth)) (made first)
found_map made first_at first is = (is.0, λ extra. ap (option_map made) (is.1 extra))

pub found_deeper : {A : Type 0} (found_at : (depth : ℕ) → Option A) (found : A)
    → IsFoundDeep (λ depth. found_at (suc depth)) found
    → IsFoundDeep found_at found
found_deeper found_at found is =
    let deeper : (extra : ℕ) → suc (is.0 + extra) ≡ suc is.0 + extra = λ extra. omega arith in
    (suc is.0, λ extra. subst (λ depth. found_at depth ≡ Some found) (deeper extra) (is.1 extra))

-- At most one value is found.
pub one_is_found : {A : Type 0} (found_at : (depth : ℕ) → Option A) (one other : A)
    → IsFoundDeep found_at one → IsFoundDeep found_at other → one ≡ other
one_is_found found_at one other is also =
    let deep : (first second : ℕ) → first + second ≡ second + first = λ first second. omega arith in
    same_Some one other
    (sym (is.1 also.0) ∙ subst (λ depth. found_at depth ≡ Some other) (deep also.0 is.0) (also.1 is.0))

-- the code of a step before that of others
grown : (site : Site) (step : Step) (facts last : Facts) (others : List Step)
    (more : List Item) (label next : ℕ)
    → IsCodeOfSteps site (after_step facts step) others label
    (record { items = more; facts = last; label = next })
    → IsFoundDeep
    (λ depth. option_map (in_front (step_items site.tree.now facts step))
    (code_of_steps site.tree.now (code_of_part site depth) (after_step facts step) others label))
    (record { items = step_items site.tree.now facts step ++ more; facts = last; label = next })
grown site step facts last others more label next is =
    found_map (in_front (step_items site.tree.now facts step))
    (λ depth. code_of_steps site.tree.now (code_of_part site depth) (after_step facts step) others label)
    (record { items = more; facts = last; label = next }) is

mutual
  unfolding code_of_steps code_of_part

  pub steps_are_code :
      {site : Site} {called : List Bool} {facts last : Facts} {list : List Step}
      {items : List Item} (label next : ℕ)
      → (written : AreWritten site called facts list items last)
      → AreLabelled written label next
      → IsCodeOfSteps site facts list label (record { items = items; facts = last; label = next })
  steps_are_code {facts = facts} label next NoneWritten labels =
      (0, λ extra. ap (λ at. Some (record { items = []; facts = facts; label = at })) (sym labels))
  steps_are_code {site = site} {facts = facts} {last = last} label next
      (PlainWritten {i = i} {others = list} {more = more} others) labels =
      grown site (steps.Plain i) facts last list more label next (steps_are_code label next others labels)
  steps_are_code {site = site} {facts = facts} {last = last} label next
      (WordWritten {form = form} {place = place} {others = list} {more = more} others) labels =
      grown site (steps.Word form place) facts last list more label next
      (steps_are_code label next others labels)
  steps_are_code {site = site} {facts = facts} {last = last} label next
      (JumpWritten {form = form} {label = to} {others = list} {more = more} others) labels =
      grown site (steps.Jump form to) facts last list more label next
      (steps_are_code label next others labels)
  steps_are_code {site = site} {facts = facts} {last = last} label next
      (MarkWritten {label = at} {others = list} {more = more} others) labels =
      grown site (steps.Mark at) facts last list more label next (steps_are_code label next others labels)
  steps_are_code {site = site} {facts = facts} {last = last} label next
      (RoutineWritten {routine = routine} {others = list} {more = more} is_called others) labels =
      grown site (steps.CallRoutine routine) facts last list more label next
      (steps_are_code label next others labels)
  steps_are_code {site = site} {facts = facts} {last = last} label next
      (CallWritten {procedure = procedure} {others = list} {more = more} others) labels =
      grown site (steps.CallProcedure procedure) facts last list more label next
      (steps_are_code label next others labels)
  steps_are_code {site = site} {facts = facts} {last = last} label next
      (TestWritten {others = list} {more = more} others) labels =
      grown site steps.TestA facts last list more label next (steps_are_code label next others labels)
  steps_are_code {site = site} {facts = facts} {last = last} label next
      (HoldsWritten {held = held} {others = list} {more = more} others) labels =
      grown site (steps.Holds held) facts last list more label next (steps_are_code label next others labels)
  steps_are_code {site = site} {facts = facts} {last = last} label next
      (ChangeWritten {others = list} {more = more} others) labels =
      grown site steps.MemoryChanged facts last list more label next (steps_are_code label next others labels)
  steps_are_code {site = site} {facts = facts} label next
      (PartWritten {middle = middle} {last = last} {part = part} {others = list} {first = items}
      {more = more} first others)
      labels =
      let here : Code = record { items = items; facts = middle; label = labels.0 } in
      let there : Code = record { items = more; facts = last; label = next } in
      found_then (λ depth. code_of_part site depth facts part label)
      (λ depth found.
      option_map (in_front found.items)
      (code_of_steps site.tree.now (code_of_part site depth) found.facts list found.label))
      here (in_front items there) (part_is_code label labels.0 first labels.1)
      (found_map (in_front items)
      (λ depth. code_of_steps site.tree.now (code_of_part site depth) middle list labels.0)
      there (steps_are_code labels.0 next others labels.2))

  pub part_is_code :
      {site : Site} {called : List Bool} {facts last : Facts} {part : Part}
      {items : List Item} (label next : ℕ)
      → (written : IsWritten site called facts part items last)
      → IsLabelled written label next
      → IsCodeOfPart site facts part label (record { items = items; facts = last; label = next })
  part_is_code {site = site} {facts = facts} {last = last} {part = part} {items = items} label next
      (Planned at steps) labels =
      let after : ℕ = label_after label (task_labels (knowing site facts) part) in
      let code : Code = record { items = items; facts = last; label = next } in
      found_deeper (λ depth. code_of_part site depth facts part label) code
      (subst
      (λ first.
      IsFoundDeep
      (λ depth.
      code_of_steps site.tree.now (code_of_part site depth) facts
      (task_steps (knowing site facts) part first) after)
      code)
      labels.0 (steps_are_code after next steps labels.1))
