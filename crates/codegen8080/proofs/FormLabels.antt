-- The labels and the parts of the steps of each statement: a statement marks some of the labels that it takes, each once, and
-- holds parts of its tree, each once.
use Rattle.codegen8080.proofs.Prelude.{◌≡◌, inl, inr, ℕ, zero, suc, ◌+◌, ◌-◌, ◌<◌, ◌≤◌, ◌∙◌, Bool, true, false, not, ◌&&◌, if◌then◌else◌, nat_lt, List, [], ◌∷◌, ◌++◌, Option, Some, None, option_and_then, none-some, same_Some, slice_get, refl, sym, ap, subst, arith, lt-ltb, append-nil, append_assoc, Range, Statement, StatementNumber, Site, LabelNumber, Body, Planned, HoldsNoStatement, label_of}
use Rattle.std.specs.Prelude.{◌%◌, ◌||◌, is_some, nat_eq, nat_le}
use Rattle.std.proofs.lemmas.Bool.{ltb-true}
use Rattle.trees.specs.declared.declaration.ScalarType.{ScalarType}
use Rattle.trees.specs.declared.declaration.ScalarType.TheVariants.{Byte, Address}
use Rattle.typed_trees.specs.TypedTrees.{MoreStatements, TypedElse, TypedStatement, TypedStatements}
use Rattle.typed_trees.specs.Jumps.{labels_in, labels_in_else, labels_in_statements}
use Rattle.layout.specs.Storage.{Storage}
use Rattle.treecode.specs.declared.expression.ExpressionNumber.{ExpressionNumber}
use Rattle.treecode.specs.declared.reference.Target.TheVariants.{Stored}
use Rattle.treecode.specs.declared.statement.Iteration.{Iteration}
use Rattle.treecode.specs.internal.Lowered.{AreMoreStatements, AreNoStatements, AreStatements, IsElse, IsNoElse, IsSomeElse, IsStatement}
use Rattle.treecode.specs.internal.Nodes.{Nodes, nodes_of}
use Rattle.treecode.specs.internal.Queries.{item}
unfoldable use Rattle.steps8080.specs.internal.Queries.{number}
use Rattle.steps8080.specs.internal.Site.{scalar}
use Rattle.steps8080.specs.declared.step.Step.TheVariants as steps
use Rattle.statements8080.specs.declared.plan.Planned.TheVariants as planned
use Rattle.statements8080.specs.declared.bound.Test.{Test}
use Rattle.statements8080.specs.declared.iteration.Counter.{Counter}
use Rattle.statements8080.specs.internal.Bodies.{body_label}
use Rattle.statements8080.specs.internal.Counters.{counter_of, counts_by_one, has_a_turn}
use Rattle.statements8080.specs.internal.Plans.{label_at, mark, nth_label, steps_from}
use Rattle.statements8080.specs.internal.Branches.{computed_if_labels, computed_if_steps, either_labels, either_steps, goto_label, if_labels, if_steps, statement_if_any, tested_if_labels, tested_if_steps}
use Rattle.statements8080.specs.internal.Cases.{case_labels, case_steps, choice_labels, entry_of, statement_at}
unfoldable use Rattle.statements8080.specs.internal.Cases.{cases_end_steps, choice_at_steps, into_table_steps, number_in_de_steps, statements_steps, table_at, table_steps}
use Rattle.statements8080.specs.internal.Iterations.{counts_in_place, is_byte_type, iteration_labels, iteration_steps, labels_if_any, loop_labels, turns_if_any, turns_labels, turns_steps}
unfoldable use Rattle.statements8080.specs.internal.Iterations.{facts_of_turn, first_steps, general_begin_steps, general_end_steps, general_steps, test_label_steps, to_known_steps}
unfoldable use Rattle.statements8080.specs.internal.Tests.{test_of}
use Rattle.statements8080.specs.internal.Tests.{facts_of_test}
use Rattle.exprgen8080.specs.internal.Marks.{Differ, IsIn}
use Rattle.codegen8080.specs.internal.Outlines.{is_outlined, marks_of_plan, marks_of_step}
use Rattle.codegen8080.proofs.{DifferentNumbers.{Rising, differ_alone, differ_apart, differ_both, differ_first, differ_later, in_alone, in_either, in_first, in_later, rising_differ, rising_in, rising_lower}, Outlines.{Bare, Shows, asked_test_is_bare, bare, bare_both, bare_each, bare_either, bare_then, less_is_bare, next_turn_is_bare, shows_after, shows_both, shows_either, shows_put, single_is_bare, step_is_bare, test_is_bare}}

-- the statements and lists that planned steps hold are of trees with these labels, in their order
pub data PartsAre (nodes : Nodes) (storage : Storage) (labels : List ℕ) (bound : ℕ) :
    List Planned → (held : List ℕ) → Type 0 where
  NoParts : PartsAre nodes storage labels bound [] []
  NoPartFirst : {step : Planned} {others : List Planned} {held : List ℕ}
      → HoldsNoStatement step
      → PartsAre nodes storage labels bound others held
      → PartsAre nodes storage labels bound (step ∷ others) held
  StatementFirst : {part : StatementNumber} {others : List Planned} {held : List ℕ} {tree : TypedStatement}
      → IsStatement nodes storage labels bound part.index tree
      → PartsAre nodes storage labels bound others held
      → PartsAre nodes storage labels bound (planned.Statement part ∷ others) (labels_in tree ++ held)
  ListFirst : {range : Range} {others : List Planned} {held : List ℕ} {trees : TypedStatements}
      → AreStatements nodes storage labels bound range.first range.count trees
      → PartsAre nodes storage labels bound others held
      → PartsAre nodes storage labels bound (planned.List range ∷ others) (labels_in_statements trees ++ held)

-- The steps of a statement with these labels in its tree, which takes `count` labels from a first one on.
pub record FormPlan
    (nodes : Nodes) (storage : Storage) (labels : List ℕ) (bound : ℕ)
    (plan : List Planned) (first count : ℕ) (numbers : List ℕ) : Type 0 where
  pub shown : List Planned
  pub shows : Shows plan shown
  pub differ : Differ (marks_of_plan shown)
  pub within : (one : ℕ) → IsIn one (marks_of_plan shown) → (first ≤ one) × (one < first + count)
  pub held : List ℕ
  pub parts : PartsAre nodes storage labels bound shown held
  pub some : (one : ℕ) → IsIn one held → IsIn one numbers
  pub apart : Differ numbers → Differ held

-- the same, with the plan and its number of labels last
abbrev pub PlanOf :
    Nodes → Storage → (labels : List ℕ) → (bound first : ℕ) → (numbers : List ℕ) → List Planned → (count : ℕ) → Type 0
PlanOf nodes storage labels bound first numbers plan count =
    FormPlan nodes storage labels bound plan first count numbers

-- the label of the test of a general loop, and the outline of the loop
abbrev tests_shown : (first : ℕ) → (is_marked is_entered : Bool) → List Planned
tests_shown first is_marked is_entered =
    if is_marked then mark (nth_label first 1) ∷ []
    else if is_entered then planned.Meet (nth_label first 1) ∷ [] else []

test_shows : (first : ℕ) (is_marked is_entered : Bool)
    → Shows (tests_shown first is_marked is_entered) (tests_shown first is_marked is_entered)
test_shows first true is_entered = record { is = refl }
test_shows first false true = record { is = refl }
test_shows first false false = record { is = refl }

abbrev general_shown : Range → (first : ℕ) → Counter → Test → (is_tested is_marked is_entered : Bool) → List Planned
general_shown list first counter test is_tested is_marked is_entered =
    planned.Again (label_of first) (facts_of_test counter test) (not is_tested)
    ∷ planned.List list
    ∷ (tests_shown first is_marked is_entered ++ (mark (nth_label first 2) ∷ []))

module _ {nodes : Nodes} {storage : Storage} {labels : List ℕ} {bound : ℕ} {numbers : List ℕ} {first : ℕ} where
  pub rising_plan :
      {plan shown : List Planned} {held : List ℕ} {count : ℕ}
      → Shows plan shown
      → Rising first (marks_of_plan shown) (first + count)
      → PartsAre nodes storage labels bound shown held
      → ((one : ℕ) → IsIn one held → IsIn one numbers)
      → (Differ numbers → Differ held)
      → PlanOf nodes storage labels bound first numbers plan count
  rising_plan {shown = shown} {held = held} {count = count} shows rising parts some apart = record {
    shown = shown;
    shows = shows;
    differ = rising_differ first (marks_of_plan shown) (first + count) rising;
    within = λ one is. rising_in first (marks_of_plan shown) (first + count) one rising is;
    held = held;
    parts = parts;
    some = some;
    apart = apart;
  }

  -- steps that mark and hold nothing
  pub bare_plan : {plan : List Planned} {count : ℕ} → Bare plan → PlanOf nodes storage labels bound first numbers plan count
  bare_plan shows = rising_plan shows (omega arith) NoParts (λ one is. absurd is) (λ differ. tt)

  pub after_bare : {begun plan : List Planned} {count : ℕ} → Bare begun → PlanOf nodes storage labels bound first numbers plan count
      → PlanOf nodes storage labels bound first numbers (begun ++ plan) count
  after_bare begun is = record {
    shown = is.shown;
    shows = bare_then begun is.shows;
    differ = is.differ;
    within = is.within;
    held = is.held;
    parts = is.parts;
    some = is.some;
    apart = is.apart;
  }

  pub after_step : {step : Planned} {plan : List Planned} {count : ℕ}
      → is_outlined step ≡ false → PlanOf nodes storage labels bound first numbers plan count → PlanOf nodes storage labels bound first numbers (step ∷ plan) count
  after_step out is = record {
    shown = is.shown;
    shows = shows_after out is.shows;
    differ = is.differ;
    within = is.within;
    held = is.held;
    parts = is.parts;
    some = is.some;
    apart = is.apart;
  }

  pub either_plan :
      {one other : List Planned} {count more : ℕ} (b : Bool)
      → (first + count < 4294967295 → PlanOf nodes storage labels bound first numbers one count)
      → (first + more < 4294967295 → PlanOf nodes storage labels bound first numbers other more)
      → first + (if b then count else more) < 4294967295
      → PlanOf nodes storage labels bound first numbers (if b then one else other) (if b then count else more)
  either_plan true one other few = one few
  either_plan false one other few = other few

  same_plan :
      {one other : List Planned} {count : ℕ} (b : Bool)
      → PlanOf nodes storage labels bound first numbers one count
      → PlanOf nodes storage labels bound first numbers other count
      → PlanOf nodes storage labels bound first numbers (if b then one else other) count
  same_plan true one other = one
  same_plan false one other = other

  pub finding_plan :
      {A : Type 0} {some : A → List Planned} {labels_at : A → ℕ} {none : List Planned} {count : ℕ}
      (found : Option A)
      → ((x : A) → found ≡ Some x → first + labels_at x < 4294967295 → PlanOf nodes storage labels bound first numbers (some x) (labels_at x))
      → (first + count < 4294967295 → PlanOf nodes storage labels bound first numbers none count)
      → first + (elim found [ Some x ↦ labels_at x | None ↦ count ]) < 4294967295
      → PlanOf nodes storage labels bound first numbers (elim found [ Some x ↦ some x | None ↦ none ]) (elim found [ Some x ↦ labels_at x | None ↦ count ])
  finding_plan (Some x) one other few = one x refl few
  finding_plan None one other few = other few

  -- IF
  module _ (then_part : StatementNumber) (then_tree : TypedStatement)
      (then_is : IsStatement nodes storage labels bound then_part.index then_tree)
    where
      -- the first statement alone
      only_then : {plan shown : List Planned} {count : ℕ} (else_labels : List ℕ)
          → numbers ≡ labels_in then_tree ++ else_labels
          → Shows plan shown
          → Rising first (marks_of_plan shown) (first + count)
          → PartsAre nodes storage labels bound shown (labels_in then_tree ++ [])
          → PlanOf nodes storage labels bound first numbers plan count
      only_then else_labels same shows rising parts =
          rising_plan shows rising parts
          (λ one is. subst (IsIn one) (sym same)
          (in_first one (labels_in then_tree) else_labels (in_alone one (labels_in then_tree) is)))
          (λ differ. differ_alone (labels_in then_tree)
          (differ_first (labels_in then_tree) else_labels (subst Differ same differ)))

      only_else : {count : ℕ} {part : Option StatementNumber} {tree : TypedElse}
          → numbers ≡ labels_in then_tree ++ labels_in_else tree
          → IsElse nodes storage labels bound part tree
          → PlanOf nodes storage labels bound first numbers (statement_if_any part) count
      only_else same IsNoElse = bare_plan (bare refl)
      only_else same (IsSomeElse {tree = tree} is) =
          rising_plan (record { is = refl }) (omega arith) (StatementFirst is NoParts)
          (λ one in_it. subst (IsIn one) (sym same)
          (in_later one (labels_in then_tree) (labels_in tree) (in_alone one (labels_in tree) in_it)))
          (λ differ. differ_alone (labels_in tree)
          (differ_later (labels_in then_tree) (labels_in tree) (subst Differ same differ)))

      both_plan :
          {tree : TypedStatement} {plan : List Planned} (else_part : StatementNumber)
          → numbers ≡ labels_in then_tree ++ labels_in tree
          → IsStatement nodes storage labels bound else_part.index tree
          → Shows plan
          (planned.Statement then_part
          ∷ planned.Turn (label_of first) (nth_label first 1)
          ∷ planned.Statement else_part
          ∷ planned.Meet (nth_label first 1)
          ∷ [])
          → first + 2 < 4294967295
          → PlanOf nodes storage labels bound first numbers plan 2
      both_plan {tree = tree} else_part same else_is shows few =
          let held : List ℕ = labels_in then_tree ++ (labels_in tree ++ []) in
          let is : held ≡ numbers =
          ap (λ (list : List ℕ). labels_in then_tree ++ list) (append-nil (labels_in tree)) ∙ sym same in
          rising_plan shows (omega arith, (omega (arith, few), omega (arith, few)))
          (StatementFirst then_is (NoPartFirst tt (StatementFirst else_is (NoPartFirst tt NoParts))))
          (λ one in_it. subst (IsIn one) is in_it)
          (λ differ. subst Differ (sym is) differ)

      computed_if_plan :
          {part : Option StatementNumber} {tree : TypedElse} (body : Body) (site : Site) (condition : ExpressionNumber)
          → numbers ≡ labels_in then_tree ++ labels_in_else tree
          → IsElse nodes storage labels bound part tree
          → first + computed_if_labels body part < 4294967295
          → PlanOf nodes storage labels bound first numbers (computed_if_steps body site condition then_part part first) (computed_if_labels body part)
      computed_if_plan body site condition same IsNoElse few =
          only_then [] same (record { is = refl }) (omega arith, omega arith)
          (StatementFirst then_is (NoPartFirst tt NoParts))
      computed_if_plan body site condition same (IsSomeElse {number = else_part} {tree = tree} is) few =
          finding_plan (goto_label body else_part)
          (λ label there less. only_then (labels_in tree) same (record { is = refl }) (omega arith)
          (StatementFirst then_is NoParts))
          (λ less. both_plan else_part same is (record { is = refl }) less)
          few

      pub if_plan :
          {part : Option StatementNumber} {tree : TypedElse} (body : Body) (site : Site) (condition : ExpressionNumber)
          → numbers ≡ labels_in then_tree ++ labels_in_else tree
          → IsElse nodes storage labels bound part tree
          → first + if_labels body site condition then_part part < 4294967295
          → PlanOf nodes storage labels bound first numbers (if_steps body site condition then_part part first) (if_labels body site condition then_part part)
      if_plan {part = part} {tree = tree} body site condition same is few =
          finding_plan (number site condition)
          (λ known there less. same_plan (nat_eq (known % 2) 1)
          (only_then (labels_in_else tree) same (record { is = refl }) (omega arith) (StatementFirst then_is NoParts))
          (only_else same is))
          (λ less. finding_plan (goto_label body then_part)
          (λ label there also. after_step refl (only_else same is))
          (λ also. computed_if_plan body site condition same is also)
          less)
          few

  -- a list that is carried out once or again and again
  module _ (list : Range) (trees : TypedStatements)
      (are : AreStatements nodes storage labels bound list.first list.count trees)
      (same : numbers ≡ labels_in_statements trees)
    where
      pub holding :
          {plan shown : List Planned} {count : ℕ}
          → Shows plan shown
          → Rising first (marks_of_plan shown) (first + count)
          → PartsAre nodes storage labels bound shown (labels_in_statements trees ++ [])
          → PlanOf nodes storage labels bound first numbers plan count
      holding shows rising parts =
          rising_plan shows rising parts
          (λ one is. subst (IsIn one) (sym same) (in_alone one (labels_in_statements trees) is))
          (λ differ. differ_alone (labels_in_statements trees) (subst Differ same differ))

      pub do_plan : {count : ℕ} → PlanOf nodes storage labels bound first numbers (planned.List list ∷ []) count
      do_plan = holding (record { is = refl }) (omega arith) (ListFirst are NoParts)

      -- iterative DO
      to_known_plan :
          (counter : Counter) (last : ℕ) (is_tested : Bool)
          → first + 2 < 4294967295
          → PlanOf nodes storage labels bound first numbers (to_known_steps counter last is_tested list first) 2
      unfolding to_known_steps
      to_known_plan counter last true few =
          holding
          (bare_then (asked_test_is_bare counter last true (nth_label first 1))
          (shows_put refl (shows_put refl
          (bare_then (next_turn_is_bare counter last (label_of first)) (record { is = refl })))))
          (omega arith, (omega (arith, few), omega (arith, few)))
          (NoPartFirst tt (ListFirst are (NoPartFirst tt NoParts)))
      to_known_plan counter last false few =
          holding
          (bare_then (asked_test_is_bare counter last false (nth_label first 1))
          (shows_put refl (shows_put refl
          (bare_then (next_turn_is_bare counter last (label_of first)) (record { is = refl })))))
          (omega arith, omega arith)
          (NoPartFirst tt (ListFirst are NoParts))

      general_by :
          {plan : List Planned} (counter : Counter) (test : Test) (is_tested is_marked is_entered : Bool)
          → first + 3 < 4294967295
          → Shows plan (general_shown list first counter test is_tested is_marked is_entered)
          → PlanOf nodes storage labels bound first numbers plan 3
      general_by counter test is_tested true is_entered few shows =
          holding shows (omega arith, (omega (arith, few), (omega (arith, few), omega (arith, few))))
          (NoPartFirst tt (ListFirst are (NoPartFirst tt (NoPartFirst tt NoParts))))
      general_by counter test is_tested false true few shows =
          holding shows (omega arith, (omega (arith, few), (omega (arith, few), omega (arith, few))))
          (NoPartFirst tt (ListFirst are (NoPartFirst tt (NoPartFirst tt NoParts))))
      general_by counter test is_tested false false few shows =
          holding shows (omega arith, (omega (arith, few), omega (arith, few)))
          (NoPartFirst tt (ListFirst are (NoPartFirst tt NoParts)))

      general_plan :
          (site : Site) (counter : Counter) (head : Iteration) (is_tested : Bool)
          → first + 3 < 4294967295
          → PlanOf nodes storage labels bound first numbers (general_steps site counter head is_tested list first) 3
      unfolding general_steps general_begin_steps general_end_steps test_label_steps
      general_plan site counter head is_tested few =
          let test : Test = test_of site counter head.last in
          let is_marked : Bool = counts_by_one site head.step && not (is_byte_type counter.scalar) in
          general_by counter test is_tested is_marked is_tested few
          (shows_both
          (bare_then (bare_either is_tested (bare refl) (bare refl)) (record { is = refl }))
          (bare_then (step_is_bare site counter head.step first)
          (shows_both (test_shows first is_marked is_tested)
          (bare_then (test_is_bare counter test (label_of first)) (record { is = refl })))))

      turns_plan :
          (site : Site) (counter : Counter) (head : Iteration) (is_tested : Bool)
          → first + turns_labels site counter head < 4294967295
          → PlanOf nodes storage labels bound first numbers (turns_steps site counter head is_tested list first) (turns_labels site counter head)
      turns_plan site counter head is_tested few =
          finding_plan (number site head.last)
          (λ last there less. either_plan (counts_in_place site counter head)
          (λ also. to_known_plan counter last is_tested also)
          (λ also. general_plan site counter head is_tested also)
          less)
          (λ less. general_plan site counter head is_tested less)
          few

      turns_if_any_plan :
          (turn : Option Bool) (site : Site) (counter : Counter) (head : Iteration)
          → first + labels_if_any turn site counter head < 4294967295
          → PlanOf nodes storage labels bound first numbers (turns_if_any turn site counter head list first) (labels_if_any turn site counter head)
      turns_if_any_plan (Some false) site counter head few = bare_plan (bare refl)
      turns_if_any_plan (Some true) site counter head few = turns_plan site counter head false few
      turns_if_any_plan None site counter head few = turns_plan site counter head true few

      pub iteration_plan :
          (body : Body) (site : Site) (head : Iteration)
          → first + iteration_labels site head < 4294967295
          → PlanOf nodes storage labels bound first numbers (iteration_steps body site head list first) (iteration_labels site head)
      unfolding first_steps
      iteration_plan body site head few =
          after_bare
          (single_is_bare body site
          (Stored (scalar site head.first) (counter_of site head).scalar (counter_of site head).reference) head.first)
          (turns_if_any_plan (has_a_turn site (counter_of site head) head) site (counter_of site head) head few)

-- DO CASE
number_in_de_is_bare : (kind : ScalarType) (choice : ExpressionNumber) (count : ℕ) (end : LabelNumber)
    → Bare (number_in_de_steps kind choice count end)
unfolding number_in_de_steps
number_in_de_is_bare Byte choice count end =
    shows_after refl (bare_both (bare_either (nat_lt count 256) (bare refl) (bare refl)) (bare refl))
number_in_de_is_bare Address choice count end =
    shows_after refl
    (bare_both
    (bare_either (nat_lt count 65536) (bare_both (less_is_bare count) (bare refl)) (bare refl)) (bare refl))

table_is_bare : (body : Body) (range : Range) (own end : LabelNumber) → Bare (table_steps body range own end)
unfolding table_steps table_at
table_is_bare body range own end = bare_each (table_at body range own end) (λ index. bare refl) 0 range.count

-- the item at an index
item_is : (body : Body) (range : Range) (index : ℕ) (entry : StatementNumber)
    → index < range.count
    → slice_get body.tree.now.lists.items (range.first + index) ≡ Some entry
    → item body.tree.now range index ≡ Some entry
item_is body range index entry below there =
    ap (λ (found : Bool). option_and_then (slice_get body.tree.now.lists.items)
    (if found then Some (range.first + index) else None))
    (lt-ltb index range.count below)
    ∙ there

marks_both : (one other : List Planned) → marks_of_plan (one ++ other) ≡ marks_of_plan one ++ marks_of_plan other
marks_both [] other = refl
marks_both (step ∷ one) other =
    ap (λ (list : List ℕ). marks_of_step step ++ list) (marks_both one other)
    ∙ sym (append_assoc (marks_of_step step) (marks_of_plan one) (marks_of_plan other))

-- the parts of the code of DO CASE
into_table_shows : (table : LabelNumber) → Shows (into_table_steps table) (mark table ∷ [])
unfolding into_table_steps
into_table_shows table = record { is = refl }

cases_end_shows : (end : LabelNumber) → Shows (cases_end_steps end) (mark end ∷ [])
unfolding cases_end_steps
cases_end_shows end = record { is = refl }

statements_show : (body : Body) (range : Range) (own end : LabelNumber) (shown : List Planned)
    → Shows (steps_from (statement_at body range own end) 0 range.count) shown
    → Shows (statements_steps body range own end) shown
unfolding statements_steps
statements_show body range own end shown shows = shows

module _ (storage : Storage) (labels : List ℕ) (bound : ℕ) (body : Body) (range : Range) (first : ℕ) where
  -- what the statement at an index shows: its label, and itself
  record CasesPlan (end : LabelNumber) (index left : ℕ) (trees : TypedStatements) : Type 0 where
    shown : List Planned
    shows : Shows (steps_from (statement_at body range (nth_label first 2) end) index left) shown
    rising : Rising (first + 2 + index) (marks_of_plan shown) (first + 2 + index + left)
    held : List ℕ
    parts : PartsAre (nodes_of body.tree.now) storage labels bound shown held
    some : (one : ℕ) → IsIn one held → IsIn one (labels_in_statements trees)
    apart : Differ (labels_in_statements trees) → Differ held

  -- one statement before others
  module _ (end : LabelNumber) (index left : ℕ) (tree : TypedStatement) (others : TypedStatements)
      (entry : StatementNumber)
      (is : IsStatement (nodes_of body.tree.now) storage labels bound entry.index tree)
      (few : first + 2 + index + suc left < 4294967295)
      (rest : CasesPlan end (suc index) left others)
    where
      abbrev own : LabelNumber
      own = label_at (nth_label first 2) index

      abbrev statement_steps_by : (is_own : Bool) → List Planned
      statement_steps_by is_own =
          if is_own
          then mark own
          ∷ planned.Statement entry
          ∷ (if nat_lt index (range.count - 1) then planned.JumpOn end ∷ [] else [])
          else []

      case_by : (is_own : Bool)
          → Shows (statement_at body range (nth_label first 2) end index) (if is_own then mark own ∷ planned.Statement entry ∷ [] else [])
          → CasesPlan end index (suc left) (MoreStatements tree others)
      case_by true shows =
          let low : first + 2 + suc index ≡ suc (first + 2 + index) = omega arith in
          let high : first + 2 + suc index + left ≡ first + 2 + index + suc left = omega arith in
          let own_is : own.index ≡ first + 2 + index = omega (arith, few) in
          record {
            shown = mark own ∷ planned.Statement entry ∷ rest.shown;
            shows = shows_both shows rest.shows;
            rising = (
              omega (arith, own_is),
              subst (λ (from : ℕ). Rising from (marks_of_plan rest.shown) (first + 2 + index + suc left))
                  (low ∙ ap suc (sym own_is))
                  (subst (λ (to : ℕ). Rising (first + 2 + suc index) (marks_of_plan rest.shown) to) high rest.rising),
            );
            held = labels_in tree ++ rest.held;
            parts = NoPartFirst tt (StatementFirst is rest.parts);
            some = λ one is_in. elim (in_either one (labels_in tree) rest.held is_in) [
              | inl here ↦ in_first one (labels_in tree) (labels_in_statements others) here
              | inr later ↦ in_later one (labels_in tree) (labels_in_statements others) (rest.some one later)
            ];
            apart = λ differ. differ_both (labels_in tree) rest.held
                (differ_first (labels_in tree) (labels_in_statements others) differ)
                (rest.apart (differ_later (labels_in tree) (labels_in_statements others) differ))
                (λ one here later. differ_apart one (labels_in tree) (labels_in_statements others) differ here
                (rest.some one later));
          }
      case_by false shows =
          let high : first + 2 + suc index + left ≡ first + 2 + index + suc left = omega arith in
          record {
            shown = rest.shown;
            shows = shows_both shows rest.shows;
            rising = rising_lower (first + 2 + index) (first + 2 + suc index) (marks_of_plan rest.shown)
                (first + 2 + index + suc left) (omega arith)
                (subst (λ (to : ℕ). Rising (first + 2 + suc index) (marks_of_plan rest.shown) to) high rest.rising);
            held = rest.held;
            parts = rest.parts;
            some = λ one is_in. in_later one (labels_in tree) (labels_in_statements others) (rest.some one is_in);
            apart = λ differ. rest.apart (differ_later (labels_in tree) (labels_in_statements others) differ);
          }

      own_by : (is_own : Bool)
          → Shows (statement_steps_by is_own) (if is_own then mark own ∷ planned.Statement entry ∷ [] else [])
      own_by true = shows_put refl (shows_put refl (bare_either (nat_lt index (range.count - 1)) (bare refl) (bare refl)))
      own_by false = bare refl

      case_before :
          item body.tree.now range index ≡ Some entry → CasesPlan end index (suc left) (MoreStatements tree others)
      case_before there =
          let is_own : Bool =
          nat_eq (entry_of body range index own end).index own.index in
          case_by is_own
          (subst (λ (found : Option StatementNumber). Shows
          (elim found [
            | Some one ↦
                if is_own
                then mark own
                ∷ planned.Statement one
                ∷ (if nat_lt index (range.count - 1) then planned.JumpOn end ∷ [] else [])
                else []
            | None ↦ []
          ])
          (if is_own then mark own ∷ planned.Statement entry ∷ [] else []))
          (sym there) (own_by is_own))

  cases_plan :
      (end : LabelNumber) (index left at : ℕ) {trees : TypedStatements}
      → AreStatements (nodes_of body.tree.now) storage labels bound at left trees
      → at ≡ range.first + index
      → index + left ≡ range.count
      → first + 2 + index + left < 4294967295
      → CasesPlan end index left trees
  cases_plan end index zero at AreNoStatements place all few = record {
    shown = [];
    shows = bare refl;
    rising = omega arith;
    held = [];
    parts = NoParts;
    some = λ one is. absurd is;
    apart = λ differ. tt;
  }
  cases_plan end index (suc left) at (AreMoreStatements {number = entry} {tree = tree} {others = others} there is are)
      place all few =
      case_before end index left tree others entry is few
      (cases_plan end (suc index) left (suc at) are (omega (arith, place)) (omega (arith, all)) (omega (arith, few)))
      (item_is body range index entry (omega (arith, all))
      (subst (λ (n : ℕ). slice_get body.tree.now.lists.items n ≡ Some entry) place there))

  parts_then_mark : {shown : List Planned} {held : List ℕ} (end : LabelNumber)
      → PartsAre (nodes_of body.tree.now) storage labels bound shown held
      → PartsAre (nodes_of body.tree.now) storage labels bound (shown ++ (mark end ∷ [])) held
  parts_then_mark end NoParts = NoPartFirst tt NoParts
  parts_then_mark end (NoPartFirst alone rest) = NoPartFirst alone (parts_then_mark end rest)
  parts_then_mark end (StatementFirst is rest) = StatementFirst is (parts_then_mark end rest)
  parts_then_mark end (ListFirst are rest) = ListFirst are (parts_then_mark end rest)

  module _ (trees : TypedStatements)
      (are : AreStatements (nodes_of body.tree.now) storage labels bound range.first range.count trees)
    where
      abbrev CasePlan : List Planned → (count : ℕ) → Type 0
      CasePlan plan count =
          FormPlan (nodes_of body.tree.now) storage labels bound plan first count (labels_in_statements trees)

      -- the choice is not known
      choice_plan :
          (site : Site) (choice : ExpressionNumber)
          → first + choice_labels range < 4294967295
          → CasePlan
          (choice_at_steps body site choice range (label_of first) (nth_label first 1) (nth_label first 2))
          (choice_labels range)
      unfolding choice_at_steps
      choice_plan site choice few =
          let end : LabelNumber = nth_label first 1 in
          let end_is : end.index ≡ first + 1 = omega (arith, few) in
          let cases : CasesPlan end 0 range.count trees =
          cases_plan end 0 range.count range.first are (omega arith) (omega arith) (omega (arith, few)) in
          let marks : List ℕ = marks_of_plan cases.shown in
          let marks_are : marks_of_plan (cases.shown ++ (mark end ∷ [])) ≡ marks ++ (end.index ∷ []) =
          marks_both cases.shown (mark end ∷ []) in
          let in_cases : (one : ℕ) → IsIn one marks → (first + 2 + 0 ≤ one) × (one < first + 2 + 0 + range.count) =
          λ one is. rising_in (first + 2 + 0) marks (first + 2 + 0 + range.count) one cases.rising is in
          record {
            shown = mark (label_of first) ∷ (cases.shown ++ (mark end ∷ []));
            shows =
                bare_then (number_in_de_is_bare (scalar site choice) choice range.count end)
                (shows_both (into_table_shows (label_of first))
                (bare_then (table_is_bare body range (nth_label first 2) end)
                (shows_both (statements_show body range (nth_label first 2) end cases.shown cases.shows)
                (cases_end_shows end))));
            differ = (
              λ is. elim (in_either first marks (end.index ∷ []) (subst (IsIn first) marks_are is)) [
                | inl here ↦ let low = in_cases first here in omega (arith, low.0)
                | inr later ↦ elim later [ inl same ↦ omega (arith, same, end_is) | inr none ↦ none ]
              ],
              subst Differ (sym marks_are)
                  (differ_both marks (end.index ∷ [])
                  (rising_differ (first + 2 + 0) marks (first + 2 + 0 + range.count) cases.rising)
                  ((λ none. none), tt)
                  (λ one here later. elim later [
                    | inl same ↦ let low = in_cases one here in omega (arith, low.0, same, end_is)
                    | inr none ↦ none
                  ])),
            );
            within = λ one is. elim is [
              | inl same ↦ (omega (arith, same), omega (arith, same, few))
              | inr later ↦ elim (in_either one marks (end.index ∷ []) (subst (IsIn one) marks_are later)) [
                | inl here ↦
                    let low = in_cases one here in (omega (arith, low.0), omega (arith, low.1, few))
                | inr last ↦ elim last [
                  | inl same ↦ (omega (arith, same, end_is), omega (arith, same, end_is, few))
                  | inr none ↦ absurd none
                ]
              ]
            ];
            held = cases.held;
            parts = NoPartFirst tt (parts_then_mark end cases.parts);
            some = cases.some;
            apart = cases.apart;
          }

  -- the statement at an index is one of the tree
  record IsRow (trees : TypedStatements) (entry : StatementNumber) : Type 0 where
    tree : TypedStatement
    is : IsStatement (nodes_of body.tree.now) storage labels bound entry.index tree
    some : (one : ℕ) → IsIn one (labels_in tree) → IsIn one (labels_in_statements trees)
    apart : Differ (labels_in_statements trees) → Differ (labels_in tree)

  row_at :
      (index at count : ℕ) (entry : StatementNumber) {trees : TypedStatements}
      → AreStatements (nodes_of body.tree.now) storage labels bound at count trees
      → index < count
      → slice_get body.tree.now.lists.items (at + index) ≡ Some entry
      → IsRow trees entry
  row_at index at zero entry AreNoStatements below there = absurd (omega (arith, below))
  row_at zero at (suc count) entry (AreMoreStatements {number = number} {tree = tree} {others = others} found is are) below there =
      let none : at + 0 ≡ at = omega arith in
      let same : number ≡ entry =
      same_Some number entry
      (sym found ∙ sym (ap (slice_get body.tree.now.lists.items) none) ∙ there) in
      record {
        tree = tree;
        is = subst (λ (one : StatementNumber). IsStatement (nodes_of body.tree.now) storage labels bound one.index tree) same is;
        some = λ one in_it. in_first one (labels_in tree) (labels_in_statements others) in_it;
        apart = λ differ. differ_first (labels_in tree) (labels_in_statements others) differ;
      }
  row_at (suc index) at (suc count) entry (AreMoreStatements {tree = tree} {others = others} found is are) below there =
      let further : at + suc index ≡ suc at + index = omega arith in
      let rest =
      row_at index (suc at) count entry are (omega (arith, below))
      (sym (ap (slice_get body.tree.now.lists.items) further) ∙ there) in
      record {
        tree = rest.tree;
        is = rest.is;
        some = λ one in_it. in_later one (labels_in tree) (labels_in_statements others) (rest.some one in_it);
        apart = λ differ. rest.apart (differ_later (labels_in tree) (labels_in_statements others) differ);
      }

  module _ (trees : TypedStatements)
      (are : AreStatements (nodes_of body.tree.now) storage labels bound range.first range.count trees)
    where
      row_of : (index : ℕ) (entry : StatementNumber) (within : Bool)
          → nat_lt index range.count ≡ within
          → option_and_then (slice_get body.tree.now.lists.items) (if within then Some (range.first + index) else None)
          ≡ Some entry
          → IsRow trees entry
      row_of index entry true is there =
          row_at index range.first range.count entry are (ltb-true index range.count is) there
      row_of index entry false is there = absurd (none-some entry there)

      pub case_plan :
          (site : Site) (choice : ExpressionNumber)
          → first + case_labels site choice range < 4294967295
          → FormPlan (nodes_of body.tree.now) storage labels bound (case_steps body site choice range first) first
          (case_labels site choice range) (labels_in_statements trees)
      case_plan site choice few =
          finding_plan (number site choice)
          (λ known there less. known_plan known (item body.tree.now range known) refl)
          (λ less. either_plan (nat_eq range.count 0) (λ also. bare_plan (bare refl))
          (λ also. choice_plan trees are site choice also) less)
          few
        where
          known_plan : (known : ℕ) (found : Option StatementNumber)
              → item body.tree.now range known ≡ found
              → FormPlan (nodes_of body.tree.now) storage labels bound
              (elim found [ Some one ↦ planned.Statement one ∷ [] | None ↦ [] ]) first 0
              (labels_in_statements trees)
          known_plan known None there = bare_plan (bare refl)
          known_plan known (Some entry) there =
              let row = row_of known entry (nat_lt known range.count) refl there in
              rising_plan (record { is = refl }) (omega arith) (StatementFirst row.is NoParts)
              (λ one is. row.some one (in_alone one (labels_in row.tree) is))
              (λ differ. differ_alone (labels_in row.tree) (row.apart differ))

-- the steps of a statement take labels, or mark the label of the source that it is
pub data FormLabels (body : Body) (storage : Storage) (labels : List ℕ) (bound : ℕ)
    (plan : List Planned) (first count : ℕ) (numbers : List ℕ) : Type 0 where
  TakesLabels : FormPlan (nodes_of body.tree.now) storage labels bound plan first count numbers
      → FormLabels body storage labels bound plan first count numbers
  IsSourceLabel : (place label : ℕ)
      → plan ≡ mark (body_label body place) ∷ []
      → slice_get labels place ≡ Some label
      → numbers ≡ label ∷ []
      → FormLabels body storage labels bound plan first count numbers
