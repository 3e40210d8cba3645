-- DO CASE.
use Rattle.measure_laws.proofs.Prelude.{◌≡◌, ℕ, zero, suc, ◌+◌, ◌-◌, ◌*◌, ◌%◌, ◌<◌, ◌≤◌, inl, inr, Bool, true, false, if◌then◌else◌, nat_eq, nat_lt, List, [], ◌∷◌, slice_get, Option, Some, None, refl, sym, ap, subst, ◌∙◌, arith, option_and_then, eq-eqb, same_Some, NoCarry, AccumulateImmediate, Dad, Pchl, Xchg, Compare, De, Hl, A, D, E, Jump, JumpWhere, LoadPair, ScalarType, Byte, Address, ListsStandInCases, TypedExpression, TypedStatement, TypedStatements, weight_of_expression, weight_of_statement, weight_of_statements, ExpressionNumber, Range, TreeStatement, StatementNumber, item, statement, LabelNumber, copy, set, label_of, Site, scalar, number, Planned, JumpOn, Reaches, Statement, body_label, goto_label_of, case_steps, cases_end_steps, choice_at_steps, entry_of, entry_of_statement, into_table_steps, number_in_de_steps, statement_at, statements_steps, table_at, table_steps, all, jump, label_at, mark, nth_label, plain, steps_from, bytes_for, at_or_after, BodyGround, IsWithinLevel, MayGo, PlanBinds, PlanFootprint, StatementFootprint}
use Rattle.treecode.specs.declared.statement.Statement.TheVariants as statements
use Rattle.steps8080.specs.declared.step.Step.TheVariants as steps
use Rattle.measure_laws.proofs.{Bounds.Fitting.{both_fit, closed_fit, either_fit, finding_fits, less_fits, less_if, none_fit, then_fit}, Bounds.Iterations.{less_steps_fit}, Bounds.Lists.{AllFit, MoreFit, NoneFit, case_step_fits, no_label_weighs, statement_step_fits}, Bounds.Planning.{byte_fits, code_fits, effects_fit, plain_fits, plains_fit, word_fits}, Bounds.Ranges.{item_there, stands_at}, Labels.Binding.{plan_at, plan_first, plan_later}}

-- one of the statements
one_of :
    {at : BodyGround} {first count : ℕ} {trees : TypedStatements}
    → AllFit at first count trees
    → (place : ℕ) (found : StatementNumber)
    → first ≤ place
    → place < first + count
    → slice_get at.body.tree.now.lists.items place ≡ Some found
    → (tree : TypedStatement) × StatementFootprint at found tree
    × (weight_of_statement tree ≤ weight_of_statements trees)
one_of NoneFit place found low high is = absurd (omega (arith, low, high))
one_of {at = at} (MoreFit {first = first} {number = number} {tree = tree} there fit others)
    place found low high is =
    elim (at_or_after first place low) [
      | inl same ↦
          let number_is : number ≡ found =
          same_Some number found
          (sym there ∙ ap (λ (n : ℕ). slice_get at.body.tree.now.lists.items n) same ∙ is) in
          (tree, subst (λ (n : StatementNumber). StatementFootprint at n tree) number_is fit, omega arith)
      | inr past ↦
          let rest = one_of others place found (omega (arith, past)) (omega (arith, high)) is in
          (rest.0, rest.1, omega (arith, rest.2))
    ]

-- as many statements of a DO CASE as `count` leave five bytes free each
record CasesFit (at : BodyGround) (steps : List Planned) (count : ℕ) (trees : TypedStatements) : Type 0 where
  pub most : ℕ
  pub fit : PlanFootprint at steps most
  pub enough : at.counts → most + 5 * count ≤ bytes_for (weight_of_statements trees)

module _
    (at : BodyGround) {trees : TypedStatements} (list : Range)
    (all_fit : AllFit at list.first list.count trees)
    (stand : at.counts → ListsStandInCases trees)
  where
    case_found :
        (index : ℕ) (one : StatementNumber)
        → item at.body.tree.now list index ≡ Some one
        → (tree : TypedStatement) × StatementFootprint at one tree
        × (weight_of_statement tree ≤ weight_of_statements trees)
    case_found index one there =
        let stands = stands_at at.body.tree.now.lists.items list index one there in
        one_of all_fit (list.first + index) one (omega arith) (omega (arith, stands.below)) stands.there

    module _ (first end : LabelNumber) (to_end : MayGo at end.index)
        (own : (label : ℕ) → PlanBinds label (statements_steps at.body list first end) → MayGo at label)
      where
        -- the label of a statement that has its own
        at_bound :
            (index : ℕ) (one : StatementNumber) (test : Bool)
            → test ≡ true
            → PlanBinds (label_at first index).index
            (if test
            then mark (label_at first index)
            ∷ Statement one
            ∷ (if nat_lt index (list.count - 1) then JumpOn end ∷ [] else [])
            else [])
        at_bound index one true is = inl refl
        at_bound index one false is = let never : ⊥ = cc in absurd never

        own_bound :
            (index : ℕ) (one : StatementNumber)
            → item at.body.tree.now list index ≡ Some one
            → entry_of at.body list index (label_at first index) end ≡ label_at first index
            → PlanBinds (label_at first index).index (statement_at at.body list first end index)
        own_bound index one there entry =
            subst (λ (given : Option StatementNumber). PlanBinds (label_at first index).index
            (elim given as (λ (any : Option StatementNumber). List Planned) [
              | Some found ↦
                  if nat_eq (entry_of at.body list index (label_at first index) end).index
                  (label_at first index).index
                  then mark (label_at first index)
                  ∷ Statement found
                  ∷ (if nat_lt index (list.count - 1) then JumpOn end ∷ [] else [])
                  else []
              | None ↦ []
            ])) (sym there)
            (at_bound index one
            (nat_eq (entry_of at.body list index (label_at first index) end).index
            (label_at first index).index)
            (ap (λ (given : LabelNumber). nat_eq given.index (label_at first index).index) entry
            ∙ eq-eqb (label_at first index).index (label_at first index).index refl))

        own_ok :
            (index : ℕ) (one : StatementNumber) (found : TreeStatement)
            → item at.body.tree.now list index ≡ Some one
            → statement at.body.tree.now one ≡ Some found
            → entry_of_statement at.body found (label_at first index) end ≡ label_at first index
            → MayGo at (label_at first index).index
        unfolding statements_steps
        own_ok index one found there is same =
            let entry : entry_of at.body list index (label_at first index) end ≡ label_at first index =
            ap (λ (given : Option TreeStatement). elim given as (λ (any : Option TreeStatement). LabelNumber) [
              | Some other ↦ entry_of_statement at.body other (label_at first index) end
              | None ↦ end
            ]) (ap (λ (given : Option StatementNumber). option_and_then (statement at.body.tree.now) given)
            there ∙ is)
            ∙ same in
            own (label_at first index).index
            (plan_at (label_at first index).index (statement_at at.body list first end) 0
            list.count index (omega arith)
            (omega (arith, (stands_at at.body.tree.now.lists.items list index one there).below))
            (own_bound index one there entry))

        -- the label at which a statement is entered
        goto_ok :
            (index : ℕ) (one : StatementNumber) (label : ℕ)
            → item at.body.tree.now list index ≡ Some one
            → statement at.body.tree.now one ≡ Some (statements.Goto label)
            → MayGo at (body_label at.body label).index
        goto_ok index one label there is =
            (case_found index one there).1.goto (body_label at.body label)
            (ap (λ (given : Option TreeStatement). elim given as (λ (any : Option TreeStatement). Option
            LabelNumber) [
              | Some found ↦ goto_label_of at.body found
              | None ↦ None
            ]) is)

        statement_ok :
            (index : ℕ) (one : StatementNumber) (found : TreeStatement)
            → item at.body.tree.now list index ≡ Some one
            → statement at.body.tree.now one ≡ Some found
            → MayGo at (entry_of_statement at.body found (label_at first index) end).index
        statement_ok index one (statements.Goto label) there is = goto_ok index one label there is
        statement_ok index one statements.Null there is = to_end
        statement_ok index one found there is = own_ok index one found there is refl

        found_ok :
            (index : ℕ) (one : StatementNumber) (found : Option TreeStatement)
            → item at.body.tree.now list index ≡ Some one
            → statement at.body.tree.now one ≡ found
            → MayGo at (elim found as (λ (any : Option TreeStatement). LabelNumber) [
              | Some other ↦ entry_of_statement at.body other (label_at first index) end
              | None ↦ end
            ]).index
        found_ok index one (Some found) there is = statement_ok index one found there is
        found_ok index one None there is = to_end

        entry_by :
            (index : ℕ) (given : Option StatementNumber)
            → item at.body.tree.now list index ≡ given
            → MayGo at
            (elim (option_and_then (statement at.body.tree.now)
            given) as (λ (any : Option TreeStatement). LabelNumber) [
              | Some other ↦ entry_of_statement at.body other (label_at first index) end
              | None ↦ end
            ]).index
        entry_by index (Some one) there = found_ok index one (statement at.body.tree.now one) there refl
        entry_by index None there = to_end

        -- the jumps of a table, three bytes each
        table_from_fits : (index left : ℕ)
            → PlanFootprint at (steps_from (table_at at.body list first end) index left) (3 * left)
        unfolding table_at
        table_from_fits index zero = none_fit
        table_from_fits index (suc left) =
            less_fits
            (then_fit
            (plain_fits (jump Jump (entry_of at.body list index (label_at first index) end)) refl
            (entry_by index (item at.body.tree.now list index) refl))
            (table_from_fits (suc index) left))
            (omega arith)

        table_fits : PlanFootprint at (table_steps at.body list first end) (3 * list.count)
        unfolding table_steps
        table_fits = table_from_fits 0 list.count

        -- a statement at its label, and the jump after it
        statement_at_fits :
            (index : ℕ) (found : StatementNumber) (most : ℕ)
            → item at.body.tree.now list index ≡ Some found
            → PlanFootprint at (Statement found ∷ []) most
            → PlanFootprint at (statement_at at.body list first end index) (most + 3)
        statement_at_fits index found most is fit =
            subst (λ (given : Option StatementNumber). PlanFootprint at
            (elim given as (λ (one : Option StatementNumber). List Planned) [
              | Some there ↦
                  if nat_eq (entry_of at.body list index (label_at first index) end).index
                  (label_at first index).index
                  then mark (label_at first index)
                  ∷ Statement there
                  ∷ (if nat_lt index (list.count - 1) then JumpOn end ∷ [] else [])
                  else []
              | None ↦ []
            ]) (most + 3)) (sym is)
            (either_fit (nat_eq (entry_of at.body list index (label_at first index) end).index
            (label_at first index).index)
            (less_fits
            (then_fit (plain_fits (mark (label_at first index)) refl tt)
            (then_fit fit
            (either_fit (nat_lt index (list.count - 1))
            (plains_fit (JumpOn end ∷ []) refl (to_end, tt)) none_fit)))
            (omega arith))
            none_fit)

        statements_from_fit :
            {place left : ℕ} {others : TypedStatements} (index : ℕ)
            → place ≡ list.first + index
            → index + left ≡ list.count
            → (at.counts → ListsStandInCases others)
            → AllFit at place left others
            → CasesFit at (steps_from (statement_at at.body list first end) index left) left others
        statements_from_fit index same count stand NoneFit =
            record { most = 0; fit = none_fit; enough = λ c. omega arith }
        statements_from_fit index same count stand
            (MoreFit {first = place} {count = left} {number = number} {tree = tree} there fit others) =
            let rest =
            statements_from_fit (suc index) (omega (arith, same)) (omega (arith, count))
            (λ c. (stand c).2) others in
            let is : item at.body.tree.now list index ≡ Some number =
            item_there at.body.tree.now.lists.items list index place number same
            (omega (arith, count)) there in
            record {
              most = bytes_for (weight_of_statement tree) - 8 + 3 + rest.most;
              fit =
                  both_fit
                  (statement_at_fits index number (bytes_for (weight_of_statement tree) - 8) is
                  (case_step_fits (λ c. (stand c).0) fit))
                  rest.fit;
              enough = λ c. omega (arith, no_label_weighs tree (stand c).0, rest.enough c);
            }

        statements_fit : CasesFit at (statements_steps at.body list first end) list.count trees
        unfolding statements_steps
        statements_fit = statements_from_fit 0 (omega arith) (omega arith) stand all_fit

    module _ {tree : TypedExpression} (site : Site) (choice : ExpressionNumber)
        (is : IsWithinLevel at choice tree) where
      -- puts the number into DE
      number_in_de_fits :
          (kind : ScalarType) (count : ℕ) (end : LabelNumber)
          → MayGo at end.index
          → PlanFootprint at (number_in_de_steps kind choice count end)
          (bytes_for (weight_of_expression tree) + 18)
      unfolding number_in_de_steps
      number_in_de_fits Byte count end to =
          less_fits
          (then_fit (byte_fits at choice 0 is)
          (both_fit
          (either_fit (nat_lt count 256)
          (plains_fit (plain (AccumulateImmediate Compare (count % 256)) ∷ jump (JumpWhere NoCarry) end ∷ [])
          refl (to, tt))
          none_fit)
          (plains_fit (all (copy E A ∷ set D 0 ∷ [])) refl tt)))
          (omega arith)
      number_in_de_fits Address count end to =
          less_fits
          (then_fit (word_fits at choice 0 is)
          (both_fit
          (either_fit (nat_lt count 65536)
          (both_fit (less_steps_fit count) (plains_fit (jump (JumpWhere NoCarry) end ∷ []) refl (to, tt)))
          none_fit)
          (plains_fit (plain Xchg ∷ []) refl tt)))
          (omega arith)

      into_table_fits : (table : LabelNumber) → MayGo at table.index
          → PlanFootprint at (into_table_steps table) 15
      unfolding into_table_steps
      into_table_fits table to =
          less_fits
          (then_fit (plain_fits (jump (LoadPair Hl) table) refl to)
          (both_fit
          (both_fit (plains_fit (all (Dad De ∷ Dad De ∷ Dad De ∷ [])) refl tt)
          (code_fits (steps.Plain Pchl) refl (omega arith, refl)))
          (plains_fit (mark table ∷ []) refl tt)))
          (omega arith)

      table_bound : (table : LabelNumber) → PlanBinds table.index (into_table_steps table)
      unfolding into_table_steps
      table_bound table = inr (inr (inr (inr (inr (inl refl)))))

      end_fits : (end : LabelNumber) → PlanFootprint at (cases_end_steps end) 0
      unfolding cases_end_steps
      end_fits end = plains_fit (mark end ∷ Reaches true ∷ []) refl tt

      end_bound : (end : LabelNumber) → PlanBinds end.index (cases_end_steps end)
      unfolding cases_end_steps
      end_bound end = inl refl

      choice_at_fits :
          (table end first : LabelNumber)
          → PlanFootprint at (choice_at_steps at.body site choice list table end first)
          (bytes_for (weight_of_expression tree) + bytes_for (weight_of_statements trees) + 33)
      unfolding choice_at_steps
      choice_at_fits table end first =
          let number_steps = number_in_de_steps (scalar site choice) choice list.count end in
          let table_is = table_steps at.body list first end in
          let ending = cases_end_steps end in
          let cases = statements_steps at.body list first end in
          closed_fit (λ own.
          let to_end : MayGo at end.index =
          own end.index
          (plan_later end.index number_steps _
          (plan_later end.index (into_table_steps table) _
          (plan_later end.index table_is _ (plan_later end.index cases ending (end_bound end))))) in
          let to_table : MayGo at table.index =
          own table.index
          (plan_later table.index number_steps _
          (plan_first table.index (into_table_steps table) _ (table_bound table))) in
          let in_cases : (label : ℕ) → PlanBinds label cases → MayGo at label =
          λ label bound. own label
          (plan_later label number_steps _
          (plan_later label (into_table_steps table) _
          (plan_later label table_is _ (plan_first label cases ending bound)))) in
          let statements = statements_fit first end to_end in_cases in
          less_if
          (both_fit (number_in_de_fits (scalar site choice) list.count end to_end)
          (both_fit (into_table_fits table to_table)
          (both_fit (table_fits first end to_end in_cases) (both_fit statements.fit (end_fits end)))))
          (λ c. omega (arith, statements.enough c)))

      pub case_fits :
          (first : ℕ)
          → PlanFootprint at (case_steps at.body site choice list first)
          (bytes_for (weight_of_expression tree) + bytes_for (weight_of_statements trees) + 33)
      case_fits first =
          finding_fits (number site choice)
          (λ known there. less_fits
          (finding_fits {most = bytes_for (weight_of_statements trees)} (item at.body.tree.now list known)
          (λ one stands.
          let has = case_found known one stands in
          less_fits (statement_step_fits has.1) (omega (arith, has.2)))
          none_fit)
          (omega arith))
          (either_fit (nat_eq list.count 0) (less_fits (effects_fit at choice 0 is) (omega arith))
          (choice_at_fits (label_of first) (nth_label first 1) (nth_label first 2)))
