-- The table of DO CASE and the statements after it.
use Rattle.statement_laws.proofs.Prelude.{◌≡◌, ℕ, zero, suc, ◌+◌, ◌-◌, ◌*◌, ◌<◌, Bool, true, false, nat_lt, nat_eq, if◌then◌else◌, List, [], ◌∷◌, ◌++◌, Option, Some, None, refl, sym, ap, subst, ◌∙◌, arith, ltb-false, same_Some, SourceState, Gave, Onward, Registers, AtLabel, Jump, Range, StatementNumber, item, IsThere, Does, at_place, word_step, after_step, does_without_step, Facts, LabelNumber, after_form, no_facts, jump_item, Planned, cases_end_steps, entry_of, statement_at, jump, label_at, mark, steps_from, Here, jump_on_steps, JumpThere, Know, Stage, loaded_in, script_of, BodyContext, IsSoundBody, Leaves, StatementDoes, add-zero, suc_moved}
use Rattle.steps8080.specs.declared.step.Step.TheVariants as steps
use Rattle.statements8080.specs.declared.plan.Planned.TheVariants as planned
use Rattle.statement_laws.proofs.Loops.LoopCode.{Steps}
use Rattle.statement_laws.proofs.FirstSteps.{Stand, steps_ended, going, jump_first, jump_on_first, mark_first, reaches_first, statement_first}

-- jumps one after another
pub record TableStands
    (at : BodyContext) (entry : ℕ → LabelNumber) (here : Here) (waiting : Option Facts) (from index left : ℕ)
    (others : List Planned) (last : Here) (to : ℕ) : Type 0 where
  pub jumps : (k : ℕ) → k < left
      → IsThere at.context.activation (jump_item Jump (entry (index + k)) ∷ [])
      (from + 3 * k) (from + 3 * k + 3)
  pub known : Facts
  pub rest : Stand at (going here.goes_on known) waiting (from + 3 * left) others last to

no_more : (from : ℕ) → from ≡ from + 3 * 0
no_more from = omega arith

one_more : (from left : ℕ) → from + 3 + 3 * left ≡ from + 3 * suc left
one_more from left = omega arith

pub table_parted :
    {at : BodyContext} {last : Here} {waiting : Option Facts} {to : ℕ} {others : List Planned}
    (entry : ℕ → LabelNumber) (here : Here) (from index left : ℕ)
    → Stand at here waiting from (steps_from (λ (n : ℕ). jump Jump (entry n) ∷ []) index left ++ others) last
    to
    → TableStands at entry here waiting from index left others last to
table_parted {at = at} {last = last} {waiting = waiting} {to = to} {others = others} entry here from index
    zero stand = record {
      jumps = λ k less. absurd (omega (arith, less));
      known = here.facts;
      rest = subst (λ (place : ℕ). Stand at here waiting place others last to) (no_more from) stand;
    }
table_parted {at = at} {last = last} {waiting = waiting} {to = to} {others = others} entry here from
    index (suc left) stand =
    let parts = jump_first stand in
    let more =
    table_parted entry (going here.goes_on (after_form here.facts Jump)) (from + 3)
    (suc index) left parts.rest in
    record {
      jumps = λ k less. nth k less parts.there more.jumps;
      known = more.known;
      rest = subst (λ (place : ℕ). Stand at (going here.goes_on more.known) waiting place others last to)
          (one_more from left) more.rest;
    }
  where
    nth : (k : ℕ) → k < suc left
        → IsThere at.context.activation (jump_item Jump (entry index) ∷ []) from (from + 3)
        → ((k : ℕ) → k < left
        → IsThere at.context.activation (jump_item Jump (entry (suc index + k)) ∷ []) (from + 3 + 3 * k)
        (from + 3 + 3 * k + 3))
        → IsThere at.context.activation (jump_item Jump (entry (index + k)) ∷ [])
        (from + 3 * k) (from + 3 * k + 3)
    nth zero less first others =
        subst (λ (n : ℕ). IsThere at.context.activation (jump_item Jump (entry n) ∷ []) (from + 3 * 0)
        (from + 3 * 0 + 3)) (same_index index)
        (subst (λ (place : ℕ). IsThere at.context.activation (jump_item Jump (entry index) ∷ []) place
        (place + 3)) (no_more from) first)
      where
        same_index : (n : ℕ) → n ≡ n + 0
        same_index n = omega arith
    nth (suc k) less first others =
        subst (λ (n : ℕ). IsThere at.context.activation (jump_item Jump (entry n) ∷ []) (from + 3 * suc k)
        (from + 3 * suc k + 3)) (suc_moved index k)
        (subst (λ (place : ℕ). IsThere at.context.activation (jump_item Jump (entry (suc index + k)) ∷ [])
        place (place + 3)) (one_more from k)
        (others k (omega (arith, less))))

-- a statement of the list after the table: where it is entered, and that it goes on to the end
pub record EntryStands (at : BodyContext) (own : LabelNumber) (found : StatementNumber) (after : Here)
    (to : ℕ) : Type 0 where
  pub place : ℕ
  pub here : Here
  pub middle : ℕ
  pub is_at : at.context.activation.layout.place_of own.index ≡ place
  pub does : StatementDoes at no_facts found place here middle
  pub ends : (base : List ℕ) (need budget : ℕ) (u : SourceState) (now : Registers) (memory_now : List ℕ)
      → here.goes_on ≡ true
      → Stage at.context at.context.activation.level 0 need base u here.facts now memory_now
      → Does (loaded_in at.context) u.budget 0 (at_place middle now memory_now u.events) (Gave Onward u)
      (Leaves at base to after budget)

-- statements after the table
pub record EntriesStand
    (at : BodyContext) (list : Range) (own end : LabelNumber) (from index left : ℕ) (after : Here)
    (to : ℕ) : Type 0 where
  pub end_is : at.context.activation.layout.place_of end.index ≡ to
  pub after_is : record { facts = no_facts; goes_on = true } ≡ after
  pub over : left ≡ 0 → from ≡ to
  pub entries : (k : ℕ) (found : StatementNumber) → k < left
      → item at.body.tree.now list (index + k) ≡ Some found
      → nat_eq (entry_of at.body list (index + k) (label_at own (index + k)) end).index
      (label_at own (index + k)).index ≡ true
      → EntryStands at (label_at own (index + k)) found after to

-- the end of the statement is reached
pub reaches_end :
    {at : BodyContext} {base : List ℕ} {to need : ℕ} {after : Here} {budget : ℕ} {facts : Facts}
    (u : SourceState) (now : Registers) (memory_now : List ℕ)
    → record { facts = no_facts; goes_on = true } ≡ after
    → Stage at.context at.context.activation.level 0 need base u facts now memory_now
    → Does (loaded_in at.context) u.budget 0 (at_place to now memory_now u.events) (Gave Onward u)
    (Leaves at base to after budget)
reaches_end {at = at} {base = base} {to = to} {need = need} {after = after} {budget = budget} u now
    memory_now is stage =
    does_without_step (record {
      goes_on = ap (λ (here : Here). here.goes_on) (sym is);
      comes = record {
        r = now;
        memory = memory_now;
        is_at = refl;
        ready = stage.ready;
        holds = subst (λ (here : Here). Know at.context here.facts now memory_now) is
            Rattle.code_meaning.proofs.Facts.Changes.no_facts_hold;
      };
    })

-- the code of the statements from an index on, and the end
abbrev pub behind_table : BodyContext → Range → (own end : LabelNumber) → (index left : ℕ) → List Planned
behind_table at list own end index left =
    steps_from (λ (n : ℕ). statement_at at.body list own end n) index left ++ cases_end_steps end

-- a statement before others
joined :
    {at : BodyContext} {after : Here} {to : ℕ} (list : Range) (own end : LabelNumber)
    (from middle index left : ℕ)
    → EntriesStand at list own end middle (suc index) left after to
    → ((found : StatementNumber)
    → item at.body.tree.now list index ≡ Some found
    → nat_eq (entry_of at.body list index (label_at own index) end).index (label_at own index).index ≡ true
    → EntryStands at (label_at own index) found after to)
    → EntriesStand at list own end from index (suc left) after to
joined {at = at} {after = after} {to = to} list own end from middle index left more first = record {
  end_is = more.end_is;
  after_is = more.after_is;
  over = λ none. absurd (omega (arith, none));
  entries = nth;
}
  where
    nth : (k : ℕ) (found : StatementNumber) → k < suc left
        → item at.body.tree.now list (index + k) ≡ Some found
        → nat_eq (entry_of at.body list (index + k) (label_at own (index + k)) end).index
        (label_at own (index + k)).index ≡ true
        → EntryStands at (label_at own (index + k)) found after to
    nth zero found less is own_is =
        subst (λ (n : ℕ). item at.body.tree.now list n ≡ Some found
        → nat_eq (entry_of at.body list n (label_at own n) end).index (label_at own n).index ≡ true
        → EntryStands at (label_at own n) found after to) (sym (add-zero index)) (first found) is own_is
    nth (suc k) found less is own_is =
        subst (λ (n : ℕ). item at.body.tree.now list n ≡ Some found
        → nat_eq (entry_of at.body list n (label_at own n) end).index (label_at own n).index ≡ true
        → EntryStands at (label_at own n) found after to) (suc_moved index k)
        (more.entries k found (omega (arith, less))) is own_is

no_statement : {A : Type 0} {one : Option StatementNumber} {found : StatementNumber} → one ≡ None
    → one ≡ Some found → A
no_statement none some = absurd cc

not_both : {A : Type 0} {one : Bool} → one ≡ false → one ≡ true → A
not_both untrue holds = absurd cc

-- the statements after the table stand
pub behind_parted :
    {at : BodyContext} {waiting : Option Facts} {after : Here} {to : ℕ} (list : Range)
    (own end : LabelNumber) (left index : ℕ)
    (here : Here) (from : ℕ)
    → IsSoundBody at
    → index + left ≡ list.count
    → Stand at here waiting from (behind_table at list own end index left) after to
    → EntriesStand at list own end from index left after to
unfolding cases_end_steps
behind_parted {at = at} {after = after} {to = to} list own end zero index here from sound count stand =
    let marked = mark_first stand in
    let ends = steps_ended (reaches_first marked.rest) in
    record {
      end_is = marked.lies ∙ (sym ends.place);
      after_is = (sym ends.same);
      over = λ none. (sym ends.place);
      entries = λ k found less. absurd (omega (arith, less));
    }
behind_parted {at = at} {waiting = waiting} {after = after} {to = to} list own end (suc left) index here
    from sound count stand =
    by_item (λ here place stand. behind_parted list own end left (suc index) here place sound
    (omega (arith, count)) stand)
    (item at.body.tree.now list index) refl stand
  where
    More : Type 0
    More = (here : Here) (place : ℕ) → Stand at here waiting place
        (behind_table at list own end (suc index) left) after to
        → EntriesStand at list own end place (suc index) left after to

    others : List Planned
    others = behind_table at list own end (suc index) left

    after_it : More → (found : StatementNumber) (next : Here) (place middle : ℕ)
        → at.context.activation.layout.place_of (label_at own index).index ≡ place
        → StatementDoes at no_facts found place next middle
        → item at.body.tree.now list index ≡ Some found
        → (jumps : Bool) → nat_lt index (list.count - 1) ≡ jumps
        → Stand at next waiting middle ((if jumps then planned.JumpOn end ∷ [] else []) ++ others) after to
        → EntriesStand at list own end from index (suc left) after to
    after_it more found next place middle is_at does is true less stand =
        let parts = jump_on_first stand in
        let rest = more (going next.goes_on parts.known) parts.middle parts.rest in
        joined list own end from parts.middle index left rest
        (λ other other_is own_is. record {
          place = place;
          here = next;
          middle = middle;
          is_at = is_at;
          does = subst (λ (one : StatementNumber). StatementDoes at no_facts one place next middle)
              (same_Some found other (sym is ∙ other_is)) does;
          ends = λ base need budget u now memory_now goes_on stage.
              jumps_to_end rest.end_is rest.after_is u now memory_now goes_on parts.first stage;
        })
      where
        jumps_to_end : {base : List ℕ} {need budget over_there : ℕ} {known : Facts}
            → at.context.activation.layout.place_of end.index ≡ to
            → record { facts = no_facts; goes_on = true } ≡ after
            → (u : SourceState) (now : Registers) (memory_now : List ℕ)
            → next.goes_on ≡ true
            → Steps at.context next.facts middle (jump_on_steps next.goes_on end) known over_there
            → Stage at.context at.context.activation.level 0 need base u next.facts now memory_now
            → Does (loaded_in at.context) u.budget 0 (at_place middle now memory_now u.events) (Gave Onward u)
            (Leaves at base to after budget)
        jumps_to_end {over_there = over_there} {known = known} end_is after_is u now memory_now
            goes_on stand stage =
            jump_goes end_is after_is u now memory_now
            (subst (λ (goes_on : Bool). Steps at.context next.facts middle (jump_on_steps goes_on end) known
            over_there) goes_on stand) stage
          where
            jump_goes : {base : List ℕ} {need budget over_there : ℕ} {known : Facts}
                → at.context.activation.layout.place_of end.index ≡ to
                → record { facts = no_facts; goes_on = true } ≡ after
                → (u : SourceState) (now : Registers) (memory_now : List ℕ)
                → Steps at.context next.facts middle (steps.Jump Jump end ∷ []) known over_there
                → Stage at.context at.context.activation.level 0 need base u next.facts now memory_now
                → Does (loaded_in at.context) u.budget 0 (at_place middle now memory_now u.events)
                (Gave Onward u) (Leaves at base to after budget)
            jump_goes end_is after_is u now memory_now (JumpThere there rest) stage =
                after_step
                (word_step (script_of at.context) at.context.activation Jump (AtLabel end.index) [] middle
                (middle + 3) now memory_now u.events
                sound.sound.lies stage.ready.shares.code there
                ∙ ap (λ (place : ℕ). at_place place now memory_now u.events) end_is)
                (reaches_end u now memory_now after_is stage)
    after_it more found next place middle is_at does is false less stand =
        let rest = more next middle stand in
        let last = ltb-false index (list.count - 1) less in
        let none : left ≡ 0 = omega (arith, last, count) in
        joined list own end from middle index left rest
        (λ other other_is own_is. record {
          place = place;
          here = next;
          middle = middle;
          is_at = is_at;
          does = subst (λ (one : StatementNumber). StatementDoes at no_facts one place next middle)
              (same_Some found other (sym is ∙ other_is)) does;
          ends = λ base need budget u now memory_now goes_on stage.
              subst (λ (n : ℕ). Does (loaded_in at.context) u.budget 0 (at_place n now memory_now u.events)
              (Gave Onward u) (Leaves at base to after budget))
              (sym (rest.over none)) (reaches_end u now memory_now rest.after_is stage);
        })

    by_entry : More → (found : StatementNumber) → item at.body.tree.now list index ≡ Some found
        → (own_is : Bool)
        → nat_eq (entry_of at.body list index (label_at own index) end).index (label_at own index).index
        ≡ own_is
        → (jumps : Bool) → nat_lt index (list.count - 1) ≡ jumps
        → Stand at here waiting from
        (((if own_is then mark (label_at own index) ∷ planned.Statement found
        ∷ (if jumps then planned.JumpOn end ∷ [] else []) else [])
        ++ steps_from (λ (n : ℕ). statement_at at.body list own end n) (suc index) left)
        ++ cases_end_steps end) after to
        → EntriesStand at list own end from index (suc left) after to
    by_entry more found is false own_is jumps less stand =
        joined list own end from from index left (more here from stand)
        (λ other other_is holds. not_both own_is holds)
    by_entry more found is true own_is true less stand =
        let marked = mark_first stand in
        let parts = statement_first marked.rest in
        after_it more found parts.after from parts.middle marked.lies parts.does is true less parts.rest
    by_entry more found is true own_is false less stand =
        let marked = mark_first stand in
        let parts = statement_first marked.rest in
        after_it more found parts.after from parts.middle marked.lies parts.does is false less parts.rest

    by_item : More → (found : Option StatementNumber) → item at.body.tree.now list index ≡ found
        → Stand at here waiting from
        ((elim found as (λ (one : Option StatementNumber). List Planned) [
          | Some found ↦
              if nat_eq (entry_of at.body list index (label_at own index) end).index
              (label_at own index).index
              then mark (label_at own index)
              ∷ planned.Statement found
              ∷ (if nat_lt index (list.count - 1) then planned.JumpOn end ∷ [] else [])
              else []
          | None ↦ []
        ]
        ++ steps_from (λ (n : ℕ). statement_at at.body list own end n) (suc index) left)
        ++ cases_end_steps end) after to
        → EntriesStand at list own end from index (suc left) after to
    by_item more (Some found) is stand =
        by_entry more found is
        (nat_eq (entry_of at.body list index (label_at own index) end).index (label_at own index).index) refl
        (nat_lt index (list.count - 1)) refl stand
    by_item more None is stand =
        joined list own end from from index left (more here from stand)
        (λ other other_is holds. no_statement is other_is)
