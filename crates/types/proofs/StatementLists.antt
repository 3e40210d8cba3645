-- Lists of statements, statement by statement.
use Rattle.types.proofs.Prelude.{◌≡◌, ℕ, ◌+◌, ◌<◌, ◌≤◌, List, [], ◌∷◌, ◌++◌, length, drop, get_or, Option, Ok, Err, refl, ap, sym, ◌∙◌, Identifier, Tree, statement_tree, statement_trees, Statement, TypedStatement, TypedStatements, NoStatements, MoreStatements, statement_view, statements_view, Checked, ◌>>=◌, Block, Progress, after_labels, declare_labels, places_from, with_here, alone, cases, labelled, statements, Listing, with_statement, statements_after, Fault, FailsBy, in_front, statement_with_labels, made_goes_on, made_fails, made_ended, drop_item}
use Rattle.types.proofs.Listings.{before_more, before_none, label_after, statement_in_front, places_on}

-- the statements of a DO CASE
module _ (block : Block) where
  abbrev case_first : Tree → Progress → Checked (TypedStatement × Progress)
  case_first tree progress = alone block (statement_tree tree) progress

  abbrev case_all : List Tree → Progress → Checked (TypedStatements × Progress)
  case_all trees progress = cases block (statement_trees trees) progress

  abbrev case_grown : TypedStatement → TypedStatements × Progress → TypedStatements × Progress
  case_grown typed rest = (MoreStatements typed rest.0, rest.1)

  after_one : (made items : List Statement) (statement : Statement) (rest : TypedStatements × Progress)
      → items ≡ made ++ statement ∷ []
      → statements_after items rest ≡ statements_after made (case_grown (statement_view statement) rest)
  after_one made items statement rest is =
      ap (λ all. statements_after all rest) is ∙ ap (λ l. (l, rest.1)) (before_more made statement rest.0)

  pub cases_go_on : (trees : List Tree) (i : ℕ) (tree : Tree) (made items : List Statement)
      (statement : Statement) (progress now : Progress) (total : Checked (TypedStatements × Progress))
      → i < length trees → tree ≡ get_or trees i tree
      → in_front (statements_after made) (cases block (statement_trees (drop i trees)) progress) ≡ total
      → alone block (statement_tree tree) progress ≡ Ok (statement_view statement, now)
      → items ≡ made ++ statement ∷ []
      → in_front (statements_after items) (cases block (statement_trees (drop (i + 1) trees)) now) ≡ total
  cases_go_on trees i tree made items statement progress now total within is left given after =
      made_goes_on case_first case_all case_grown (λ first others state. refl) trees i tree progress now
      (statement_view statement) (statements_after made) (statements_after items) total
      within is left given (λ rest. after_one made items statement rest after)

  pub cases_fail : (trees : List Tree) (i : ℕ) (tree : Tree) (made : List Statement) (progress : Progress)
      (total : Checked (TypedStatements × Progress)) (fault : Option Fault)
      → i < length trees → tree ≡ get_or trees i tree
      → in_front (statements_after made) (cases block (statement_trees (drop i trees)) progress) ≡ total
      → FailsBy fault (alone block (statement_tree tree) progress) → FailsBy fault total
  cases_fail trees i tree made progress total fault within is left fails =
      made_fails case_first case_all case_grown (λ first others state. refl) trees i tree progress
      (statements_after made) total fault within is left fails

  pub cases_ended : (trees : List Tree) (i : ℕ) (made : List Statement) (progress : Progress)
      (total : Checked (TypedStatements × Progress))
      → length trees ≤ i → in_front (statements_after made)
      (cases block (statement_trees (drop i trees)) progress) ≡ total
      → total ≡ Ok (statements_view made, progress)
  cases_ended trees i made progress total past left =
      made_ended case_first case_all case_grown (λ first others state. refl) trees i progress
      (statements_after made) total (NoStatements, progress) (statements_view made, progress)
      past left refl (ap (λ l. (l, progress)) (before_none made))

-- one check after another, and then what is made of both
steps_joined : {A B C Q : Type 0} (first : Checked A) (second : A → Checked B) (make : B → C)
    (next : C → Checked Q)
    → (first >>= (λ a. second a >>= (λ b. next (make b))))
    ≡ (((first >>= second) >>= (λ b. Ok (make b))) >>= next)
steps_joined (Ok a) second make next = then (second a) make next
  where
    then : {B C Q : Type 0} (given : Checked B) (make : B → C) (next : C → Checked Q)
        → (given >>= (λ b. next (make b))) ≡ ((given >>= (λ b. Ok (make b))) >>= next)
    then (Ok b) make next = refl
    then (Err fault) make next = refl
steps_joined (Err fault) second make next = refl

-- the statements of a list, with the number of the next label
module _ (block : Block) where
  abbrev Made : Type 0
  Made = ℕ × List Identifier × TypedStatement

  abbrev made_of : Tree → ℕ → TypedStatement × Progress → Made × (ℕ × Progress)
  made_of tree label given =
      ((label, tree.labels.items, given.0), (label + length tree.labels.items, given.1))

  abbrev list_first : Tree → ℕ × Progress → Checked (Made × (ℕ × Progress))
  list_first tree state =
      statement_with_labels block (statement_tree tree) state.1 >>= (λ given. Ok (made_of tree state.0 given))

  abbrev list_all : List Tree → ℕ × Progress → Checked (TypedStatements × Progress)
  list_all trees state = statements block (statement_trees trees) state.0 state.1

  abbrev list_grown : Made → TypedStatements × Progress → TypedStatements × Progress
  list_grown made rest = (after_labels made.0 made.1 (MoreStatements made.2 rest.0), rest.1)

  list_more : (first : Tree) (others : List Tree) (state : ℕ × Progress)
      → list_all (first ∷ others) state
      ≡ (list_first first state >>= (λ made. list_all others made.1
      >>= (λ rest. Ok (list_grown made.0 rest))))
  list_more first others state =
      steps_joined (declare_labels first.labels.items state.1.known.here)
      (λ here. labelled block (statement_tree first) (with_here here state.1))
      (made_of first state.0) (λ made. list_all others made.1 >>= (λ rest. Ok (list_grown made.0 rest)))

  module _ (trees : List Tree) (i : ℕ) (tree : Tree) (within : i < length trees)
      (is : tree ≡ get_or trees i tree) (statement : Statement) (before after : Listing)
      (labels : List Identifier) (same : labels ≡ tree.labels.items)
      (is_pushed : after ≡ with_statement labels statement before) where
    pushed : after ≡ with_statement tree.labels.items statement before
    pushed = is_pushed ∙ ap (λ all. with_statement all statement before) same

    statement_grown : (rest : TypedStatements × Progress)
        → statements_after after.statements rest
        ≡ statements_after before.statements
        (list_grown (before.label, tree.labels.items, statement_view statement) rest)
    statement_grown rest =
        ap (λ (listing : Listing). statements_after listing.statements rest) pushed
        ∙ ap (λ l. (l, rest.1)) (statement_in_front tree.labels.items statement before rest.0)

    next_label_is : after.label ≡ before.label + length tree.labels.items
    next_label_is = ap (λ (listing : Listing). listing.label) pushed ∙ label_after tree.labels.items before

    pub statements_go_on : (progress now : Progress) (total : Checked (TypedStatements × Progress))
        → in_front (statements_after before.statements)
        (statements block (statement_trees (drop i trees)) before.label progress) ≡ total
        → statement_with_labels block (statement_tree tree) progress ≡ Ok (statement_view statement, now)
        → in_front (statements_after after.statements)
        (statements block (statement_trees (drop (i + 1) trees)) after.label now) ≡ total
    statements_go_on progress now total left given =
        ap (λ label. in_front (statements_after after.statements)
        (statements block (statement_trees (drop (i + 1) trees)) label now)) next_label_is
        ∙ made_goes_on list_first list_all list_grown list_more trees i tree (before.label, progress)
        (before.label + length tree.labels.items, now)
        (before.label, tree.labels.items, statement_view statement) (statements_after before.statements)
        (statements_after after.statements) total within is left
        (ap (λ result. result >>= (λ made. Ok (made_of tree before.label made))) given) statement_grown

    pub places_go_on : (all : List ℕ) → before.places
        ++ places_from (length before.statements) (statement_trees (drop i trees)) ≡ all
        → after.places ++ places_from (length after.statements) (statement_trees (drop (i + 1) trees)) ≡ all
    places_go_on all left =
        ap (λ (listing : Listing). listing.places
        ++ places_from (length listing.statements) (statement_trees (drop (i + 1) trees))) pushed
        ∙ places_on (statement_tree tree) (statement_trees (drop (i + 1) trees)) statement before
        ∙ sym (drop_item (λ rest. before.places
        ++ places_from (length before.statements) (statement_trees rest)) trees i tree within is)
        ∙ left

  pub statements_ended : (trees : List Tree) (i : ℕ) (made : List Statement) (label : ℕ) (progress : Progress)
      (total : Checked (TypedStatements × Progress))
      → length trees ≤ i → in_front (statements_after made)
      (statements block (statement_trees (drop i trees)) label progress) ≡ total
      → total ≡ Ok (statements_view made, progress)
  statements_ended trees i made label progress total past left =
      made_ended list_first list_all list_grown list_more trees i (label, progress) (statements_after made)
      total (NoStatements, progress) (statements_view made, progress)
      past left refl (ap (λ l. (l, progress)) (before_none made))

-- The end of `Walks`.
