-- The arguments of a call one by one.
use Rattle.exprgen8080.proofs.Prelude.{◌≡◌, ℕ, suc, ◌+◌, ◌-◌, ◌%◌, ◌<◌, ◌≤◌, List, [], ◌∷◌, ◌++◌, Option, Some, None, Result, Ok, Err, OnOk, arith, ap, sym, ◌∙◌, append_assoc, refl, append-nil, ExpressionNumber, Range, argument, Step, CallProcedure, Steps, Adds, Site}
use Rattle.exprgen8080.specs.internal.Calls.{argument_steps, arguments_steps, call_steps, last_argument_steps, pushed_argument_steps}

-- the steps of a call up to the arguments from this index on are planned, and no label is taken
pub record IsBefore
    (site : Site) (arguments : Range) (pushed : ℕ) (before steps : Steps) (index depth : ℕ) : Type 0 where
  pub added : steps.list.items ++ arguments_steps site arguments (arguments.count - index) depth
      ≡ before.list.items ++ arguments_steps site arguments arguments.count pushed
  pub labels : steps.labels ≡ before.labels

-- the next argument, and those after it
abbrev with_next : Site → Range → Option ExpressionNumber → (others depth : ℕ) → List Step
with_next site arguments found others depth = elim found [
  | Some expression ↦
      argument_steps site expression others depth
      ++ arguments_steps site arguments others ((depth + 2) % 65536)
  | None ↦ arguments_steps site arguments others depth
]

next_is : (site : Site) (arguments : Range) (index depth : ℕ) (found : Option ExpressionNumber)
    → index < arguments.count
    → argument site.tree.now arguments index ≡ found
    → arguments_steps site arguments (arguments.count - index) depth
    ≡ with_next site arguments found (arguments.count - (index + 1)) depth
unfolding arguments_steps
next_is site arguments index depth found below is =
    let others : ℕ = arguments.count - (index + 1) in
    let left : arguments.count - index ≡ suc others = omega arith in
    let back : arguments.count - suc others ≡ index = omega arith in
    ap (λ count. arguments_steps site arguments count depth) left
    ∙ ap (λ at. with_next site arguments (argument site.tree.now arguments at) others depth) back
    ∙ ap (λ argument. with_next site arguments argument others depth) is

-- no argument is planned yet
pub none_planned : (site : Site) (arguments : Range) (pushed : ℕ) (before : Steps)
    → IsBefore site arguments pushed before before 0 pushed
none_planned site arguments pushed before =
    let all : arguments.count - 0 ≡ arguments.count = omega arith in
    record {
      added = ap (λ count. before.list.items ++ arguments_steps site arguments count pushed) all;
      labels = refl;
    }

module _ (site : Site) (arguments : Range) (pushed : ℕ) (before steps : Steps) (index depth : ℕ) where
  -- an argument with others after it is planned
  pub pushed_planned : (after : Steps) (expression : ExpressionNumber)
      → index < arguments.count - 1
      → argument site.tree.now arguments index ≡ Some expression
      → Adds steps after (pushed_argument_steps site expression depth)
      → IsBefore site arguments pushed before steps index depth
      → IsBefore site arguments pushed before after (index + 1) ((depth + 2) % 65536)
  unfolding argument_steps
  pushed_planned after expression follows is adds so_far =
      let others : ℕ = arguments.count - (index + 1) in
      let planned : List Step = pushed_argument_steps site expression depth in
      let rest : List Step = arguments_steps site arguments others ((depth + 2) % 65536) in
      let some : others ≡ suc (arguments.count - (index + 2)) = omega arith in
      record {
        added =
            ap (λ list. list ++ rest) adds.added
            ∙ append_assoc steps.list.items planned rest
            ∙ sym (ap (λ list. steps.list.items ++ list) (
            next_is site arguments index depth (Some expression) (omega arith) is
            ∙ ap (λ count. argument_steps site expression count depth ++ rest) some))
            ∙ so_far.added;
        labels = adds.labels ∙ so_far.labels;
      }

  -- the last one is planned
  pub last_planned : (after : Steps) (expression : ExpressionNumber)
      → index < arguments.count
      → arguments.count - 1 ≤ index
      → argument site.tree.now arguments index ≡ Some expression
      → Adds steps after (last_argument_steps site expression depth)
      → IsBefore site arguments pushed before steps index depth
      → IsBefore site arguments pushed before after (index + 1) depth
  unfolding argument_steps arguments_steps
  last_planned after expression below ends is adds so_far =
      let others : ℕ = arguments.count - (index + 1) in
      let planned : List Step = last_argument_steps site expression depth in
      let none : others ≡ 0 = omega arith in
      record {
        added =
            ap (λ list. list ++ arguments_steps site arguments others depth) adds.added
            ∙ ap (λ count. steps.list.items ++ planned ++ arguments_steps site arguments count depth) none
            ∙ append_assoc steps.list.items planned []
            ∙ sym (ap (λ list. steps.list.items ++ list) (
            next_is site arguments index depth (Some expression) below is
            ∙ ap (λ count. with_next site arguments (Some expression) count depth) none))
            ∙ so_far.added;
        labels = adds.labels ∙ so_far.labels;
      }

  -- an argument that is absent is passed over
  pub none_passed : index < arguments.count
      → argument site.tree.now arguments index ≡ None
      → IsBefore site arguments pushed before steps index depth
      → IsBefore site arguments pushed before steps (index + 1) depth
  none_passed below is so_far = record {
    added =
        sym (ap (λ list. steps.list.items ++ list) (next_is site arguments index depth None below is))
        ∙ so_far.added;
    labels = so_far.labels;
  }

  call_added : (after : Steps) (procedure : ℕ)
      → arguments.count ≤ index
      → IsBefore site arguments pushed before steps index depth
      → Adds steps after (CallProcedure procedure ∷ [])
      → Adds before after (call_steps site procedure arguments pushed)
  unfolding arguments_steps call_steps
  call_added after procedure ends so_far adds =
      let none : arguments.count - index ≡ 0 = omega arith in
      let call : List Step = CallProcedure procedure ∷ [] in
      let planned : List Step = arguments_steps site arguments arguments.count pushed in
      let are_planned : steps.list.items ≡ before.list.items ++ planned =
      sym (append-nil steps.list.items)
      ∙ sym (ap (λ count. steps.list.items ++ arguments_steps site arguments count depth) none)
      ∙ so_far.added in
      record {
        added =
            adds.added
            ∙ ap (λ list. list ++ call) are_planned
            ∙ append_assoc before.list.items planned call;
        labels = adds.labels ∙ so_far.labels;
      }

  -- all arguments are planned, and the call
  pub call_planned : (after : Steps) (procedure : ℕ) {E : Type 0} (result : Result (Unit {0}) E)
      → arguments.count ≤ index
      → IsBefore site arguments pushed before steps index depth
      → OnOk result (Adds steps after (CallProcedure procedure ∷ []))
      → OnOk result (Adds before after (call_steps site procedure arguments pushed))
  call_planned after procedure (Ok done) ends so_far adds = call_added after procedure ends so_far adds
  call_planned after procedure (Err fault) ends so_far adds = adds
