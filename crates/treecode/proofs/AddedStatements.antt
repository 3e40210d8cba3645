-- Lowering a statement adds nodes that represent it, and keeps the nodes before.
use Rattle.treecode.proofs.Prelude.{◌≡◌, ℕ, suc, ◌+◌, ◌<◌, ◌≤◌, min, max, Bool, true, false, ◌||◌, List, [], ◌∷◌, ◌++◌, length, Option, Some, None, slice_get, unwrap_or, refl, sym, ap, ◌∙◌, subst, arith, Any, append_assoc, append-nil, height_of, height_of_else, height_of_head, height_of_list, height_of_optional, height_of_statement, height_of_statements, height_of_targets, IsAmongLabels, JumpsStay, JumpsStayInElse, JumpsStayInList, JumpsStayInStatements, LabelsOf, ListStands, ListsStand, ListsStandInElse, labels_of_list, TypedExpression, TypedTarget, TypedArguments, TypedHead, TypedStatement, LabelStatement, NullStatement, AssignmentStatement, CallStatement, MoveStatement, ReturnStatement, HaltStatement, GotoStatement, IfStatement, DoStatement, LoopStatement, CaseStatement, TypedElse, NoElse, ElseStatement, TypedStatements, NoStatements, MoreStatements, TypedList, ListOf, Storage, ExpressionNumber, Range, Home, LoopHead, Statement, StatementNumber, AddedList, AddedStatement, IsStatement, IsStatementNode, IsStatementForm, IsLabel, IsNull, IsAssignment, IsCall, IsMove, IsReturn, IsHalt, IsGoto, IsIf, IsDo, IsLoop, IsCase, IsExpressionIn, IsElse, IsNoElse, IsSomeElse, AreStatements, AreNoStatements, AreMoreStatements, IsList, IsListOf, labels_numbered, labels_numbered_in_else, labels_numbered_in_list, labels_numbered_in_statements, numbers_from, reaches_end, reaches_end_of_else, reaches_end_of_list, reaches_end_of_statements, Nodes, KeepTraits, Grows, height_at, Holds, Items, Walk, assigned_in, call_in, either_ends, else_in, height_of_move, items_after, items_in, head_in, label_in, list_in, loop_ends, moved_in, noted, number_of_added, numbered, optional_in, put_case, put_do, put_if, put_list, put_loop, put_statement, returned_in, statement_in, targets_in, value_in, got_first}
use Rattle.treecode.specs.declared.statement.Statement.TheVariants as statements
use Rattle.treecode.proofs.AddedExpressions.{AreSound, AsExpression, Leads, found_after, leads_nowhere, leads_on, one_more, sound_after}
use Rattle.treecode.proofs.AddedValues.{AsOptional, AsTargets, Noted, Steps, call_added, optional_added, same_steps, steps_nowhere, steps_on, targets_added, value_added}
use Rattle.treecode.proofs.Grown.{arguments_stay, expression_in_stays, holds_with_more, optional_stays, targets_stay}
use Rattle.treecode.proofs.Heads.{AsHead, ends_as_tree, head_added, head_stays}
use Rattle.treecode.proofs.KeptValues.{height_kept}
use Rattle.treecode.proofs.LabelNumbers.{AreNumbered, HasNumber, Knows, LabelIsAround, StandAround, cases_stand, knows_after, knows_list, labels_numbered_from, labels_stand, no_label_around}
use Rattle.treecode.proofs.Maxima.{nothing_higher, two_heights}

module _ (before after : Nodes) (storage : Storage) (grows : Grows before after) (labels : List ℕ) where
  value_stays : {number : ExpressionNumber} {tree : TypedExpression}
      → IsExpressionIn before storage number tree → IsExpressionIn after storage number tree
  value_stays is = expression_in_stays before after storage grows is

  mutual
    -- a statement remains the same tree
    pub statement_stays : {bound number : ℕ} {tree : TypedStatement} (greater : ℕ) → bound ≤ greater
        → IsStatement before storage labels bound number tree
        → IsStatement after storage labels greater number tree
    statement_stays greater up (IsStatementNode {number = number} {statement = statement} below at form) =
        IsStatementNode (omega arith) (grows.statements number statement at)
        (statement_form_stays number (omega arith) form)

    pub statement_form_stays : {bound : ℕ} {form : Statement} {tree : TypedStatement} (greater : ℕ)
        → bound ≤ greater
        → IsStatementForm before storage labels bound form tree
        → IsStatementForm after storage labels greater form tree
    statement_form_stays greater up (IsLabel at) = IsLabel at
    statement_form_stays greater up IsNull = IsNull
    statement_form_stays greater up (IsAssignment targets value) =
        IsAssignment (targets_stay before after storage grows targets) (value_stays value)
    statement_form_stays greater up (IsCall given) =
        IsCall (arguments_stay before after storage grows (length after.expressions) grows.count given)
    statement_form_stays greater up (IsMove count source destination) =
        IsMove (value_stays count) (value_stays source) (value_stays destination)
    statement_form_stays greater up (IsReturn value) = IsReturn (optional_stays before after storage grows value)
    statement_form_stays greater up IsHalt = IsHalt
    statement_form_stays greater up (IsGoto at) = IsGoto at
    statement_form_stays greater up (IsIf condition body otherwise) =
        IsIf (value_stays condition) (statement_stays greater up body)
        (else_stays greater up otherwise)
    statement_form_stays greater up (IsDo list) = IsDo (list_stays greater up list)
    statement_form_stays greater up (IsLoop head list) =
        IsLoop (head_stays before after storage grows head) (list_stays greater up list)
    statement_form_stays greater up (IsCase choice statements) =
        IsCase (value_stays choice) (statements_stay greater up statements)

    pub else_stays : {bound : ℕ} {number : Option StatementNumber} {tree : TypedElse} (greater : ℕ)
        → bound ≤ greater
        → IsElse before storage labels bound number tree → IsElse after storage labels greater number tree
    else_stays greater up IsNoElse = IsNoElse
    else_stays greater up (IsSomeElse statement) = IsSomeElse (statement_stays greater up statement)

    pub statements_stay : {bound first count : ℕ} {trees : TypedStatements} (greater : ℕ) → bound ≤ greater
        → AreStatements before storage labels bound first count trees
        → AreStatements after storage labels greater first count trees
    statements_stay greater up AreNoStatements = AreNoStatements
    statements_stay greater up (AreMoreStatements {first = first} {number = number} at statement others) =
        AreMoreStatements (grows.lists first number at) (statement_stays greater up statement)
        (statements_stay greater up others)

    pub list_stays : {bound : ℕ} {range : Range} {list : TypedList} (greater : ℕ) → bound ≤ greater
        → IsList before storage labels bound range list → IsList after storage labels greater range list
    list_stays greater up (IsListOf statements) = IsListOf (statements_stay greater up statements)

-- the numbers of labels that are known stay known
knows_steps : {walk after : Walk} {height : ℕ} {known : List ℕ} {around : List LabelsOf}
    → Steps walk after height
    → Knows walk.labels walk.label_count known around → Knows after.labels after.label_count known around
knows_steps {walk = walk} {after = after} {known = known} {around = around} steps knows =
    subst (λ (labels : List (Option ℕ)). Knows labels after.label_count known around) (sym steps.labels)
    (subst (λ (count : ℕ). Knows walk.labels count known around) (sym steps.count) knows)

knows_none : {labels : List (Option ℕ)} {count : ℕ} {known : List ℕ} {around : List LabelsOf}
    → Knows labels count known around → Knows labels count (known ++ []) around
knows_none {labels = labels} {count = count} {known = known} {around = around} knows =
    subst (λ (all : List ℕ). Knows labels count all around) (sym (append-nil known)) knows

-- a table with the items of a list has those of its front
holds_front : (known more total : List ℕ) → Holds (known ++ more) total → Holds known total
holds_front known more total holds index x e = holds index x (holds_with_more known more index x e)

holds_grouped : (known one two total : List ℕ) → Holds (known ++ (one ++ two)) total
    → Holds ((known ++ one) ++ two) total
holds_grouped known one two total holds =
    subst (λ (all : List ℕ). Holds all total) (sym (append_assoc known one two)) holds

knows_grouped : {labels : List (Option ℕ)} {count : ℕ} {around : List LabelsOf} (known one two : List ℕ)
    → Knows labels count ((known ++ one) ++ two) around → Knows labels count (known ++ (one ++ two)) around
knows_grouped {labels = labels} {count = count} {around = around} known one two knows =
    subst (λ (all : List ℕ). Knows labels count all around) (append_assoc known one two) knows

always : (ends : Bool) → ends || true ≡ true
always true = refl
always false = refl

exchanged : (one two : ℕ) → max one two ≡ max two one
exchanged one two = omega arith

higher_two : (one two first second : ℕ) → one ≡ min first 65535 → two ≡ min second 65535
    → max one two ≡ min (max first second) 65535
higher_two one two first second e f = omega arith

four_more : (start before kept height : ℕ) → before ≡ max start (min height 65535) → kept ≡ min height 65535
    → max before (min (4 + kept) 65535) ≡ max start (min (4 + height) 65535)
four_more start before kept height e f = omega arith

grouped_max : (one two three : ℕ) → max (max one two) three ≡ max one (max two three)
grouped_max one two three = omega arith

move_height : (start before count source destination one two three : ℕ)
    → before ≡ max start (min (max (max count source) destination) 65535)
    → one ≡ min count 65535 → two ≡ min source 65535 → three ≡ min destination 65535
    → max before (min (4 + max (max one two) three) 65535)
    ≡ max start (min (4 + max count (max source destination)) 65535)
move_height start before count source destination one two three e f g h =
    four_more start before (max (max one two) three) (max (max count source) destination) e
    (higher_two (max one two) three (max count source) destination (higher_two one two count source f g) h)
    ∙ ap (λ (height : ℕ). max start (min (4 + height) 65535)) (grouped_max count source destination)

three_heights : (start one two three middle other last : ℕ) → middle ≡ max start (min one 65535)
    → other ≡ max middle (min two 65535) → last ≡ max other (min three 65535)
    → last ≡ max start (min (max one (max two three)) 65535)
three_heights start one two three middle other last e f g = omega arith

-- a statement that was added
pub record StatementIs (storage : Storage) (walk : Walk) (known : List ℕ) (around : List LabelsOf)
    (made : Walk × AddedStatement) (tree : TypedStatement) : Type 0 where
  pub leads : Leads walk.nodes (made.0).nodes
  pub knows : Knows (made.0).labels (made.0).label_count (known ++ labels_numbered tree) around
  pub height : (made.0).height ≡ max walk.height (min (height_of_statement tree) 65535)
  pub ends : (made.1).reaches_its_end ≡ reaches_end (walk.nodes).homes storage tree
  pub is : (total : List ℕ) → Holds (known ++ labels_numbered tree) total
      → IsStatement (made.0).nodes storage total (length ((made.0).nodes).statements)
      ((made.1).number).index tree

pub record ElseIs (storage : Storage) (walk : Walk) (known : List ℕ) (around : List LabelsOf)
    (made : Walk × Option AddedStatement) (tree : TypedElse) : Type 0 where
  pub leads : Leads walk.nodes (made.0).nodes
  pub knows : Knows (made.0).labels (made.0).label_count (known ++ labels_numbered_in_else tree) around
  pub height : (made.0).height ≡ max walk.height (min (height_of_else tree) 65535)
  pub ends : (first : Bool) → either_ends first made.1
      ≡ (first || reaches_end_of_else (walk.nodes).homes storage tree)
  pub is : (total : List ℕ) → Holds (known ++ labels_numbered_in_else tree) total
      → IsElse (made.0).nodes storage total (length ((made.0).nodes).statements) (number_of_added made.1) tree

pub record ListIs (storage : Storage) (walk : Walk) (known : List ℕ) (around : List LabelsOf)
    (made : Walk × AddedList) (tree : TypedList) : Type 0 where
  pub leads : Leads walk.nodes (made.0).nodes
  pub knows : Knows (made.0).labels (made.0).label_count (known ++ labels_numbered_in_list tree) around
  pub height : (made.0).height ≡ max walk.height (min (height_of_list tree) 65535)
  pub ends : (made.1).reaches_its_end ≡ reaches_end_of_list (walk.nodes).homes storage true tree
  pub is : (total : List ℕ) → Holds (known ++ labels_numbered_in_list tree) total
      → IsList (made.0).nodes storage total (length ((made.0).nodes).statements) (made.1).range tree

-- the numbers of statements in a row
data AreItems (nodes : Nodes) (storage : Storage) (total : List ℕ) : List StatementNumber → TypedStatements → Type 0 where
  NoItems : AreItems nodes storage total [] NoStatements
  MoreItems : {number : StatementNumber} {numbers : List StatementNumber} {tree : TypedStatement}
      {others : TypedStatements}
      → IsStatement nodes storage total (length nodes.statements) number.index tree
      → AreItems nodes storage total numbers others
      → AreItems nodes storage total (number ∷ numbers) (MoreStatements tree others)

record ItemsAre (storage : Storage) (walk : Walk) (known : List ℕ) (around : List LabelsOf) (ends : Bool)
    (made : Walk × Items) (trees : TypedStatements) : Type 0 where
  leads : Leads walk.nodes (made.0).nodes
  knows : Knows (made.0).labels (made.0).label_count (known ++ labels_numbered_in_statements trees) around
  height : (made.0).height ≡ max walk.height (min (height_of_statements trees) 65535)
  ends_so : (made.1).reaches_its_end ≡ reaches_end_of_statements (walk.nodes).homes storage ends trees
  are : (total : List ℕ) → Holds (known ++ labels_numbered_in_statements trees) total
      → AreItems (made.0).nodes storage total (made.1).numbers trees

-- a row of statements in the table
record RowIs (storage : Storage) (walk : Walk) (known : List ℕ) (around : List LabelsOf) (ends : Bool)
    (made : Walk × AddedList) (trees : TypedStatements) : Type 0 where
  leads : Leads walk.nodes (made.0).nodes
  knows : Knows (made.0).labels (made.0).label_count (known ++ labels_numbered_in_statements trees) around
  height : (made.0).height ≡ max walk.height (min (height_of_statements trees) 65535)
  ends_so : (made.1).reaches_its_end ≡ reaches_end_of_statements (walk.nodes).homes storage ends trees
  are : (total : List ℕ) → Holds (known ++ labels_numbered_in_statements trees) total
      → AreStatements (made.0).nodes storage total (length ((made.0).nodes).statements) ((made.1).range).first
      ((made.1).range).count trees

module _ (storage : Storage) where
  -- puts a statement with the form of a tree into the table
  put_is : (walk now : Walk) (known : List ℕ) (around : List LabelsOf) (statement : Statement) (ends : Bool)
      (tree : TypedStatement)
      → Leads walk.nodes now.nodes
      → Knows now.labels now.label_count (known ++ labels_numbered tree) around
      → now.height ≡ max walk.height (min (height_of_statement tree) 65535)
      → ends ≡ reaches_end (walk.nodes).homes storage tree
      → ((total : List ℕ) → Holds (known ++ labels_numbered tree) total
      → IsStatementForm now.nodes storage total (length (now.nodes).statements) statement tree)
      → StatementIs storage walk known around (put_statement now statement ends) tree
  put_is walk now known around statement ends tree leads knows height ends_so form = record {
    leads = leads_on leads put;
    knows = knows;
    height = height;
    ends = ends_so;
    is = λ total holds. IsStatementNode below (got_first xs statement [])
        (statement_form_stays now.nodes after storage put.grows total (length xs) (omega arith)
        (form total holds));
  }
    where
      xs : List Statement
      xs = (now.nodes).statements

      after : Nodes
      after = record (now.nodes) { statements = xs ++ statement ∷ [] }

      below : length xs < length (xs ++ statement ∷ [])
      below = let e : _ = one_more xs statement in omega arith

      put : Leads now.nodes after
      put = record {
        grows = record {
          expressions = λ index x e. e;
          statements = holds_with_more xs (statement ∷ []);
          arguments = λ index x e. e;
          targets = λ index x e. e;
          lists = λ index x e. e;
          count = omega arith;
        };
        statements = let e : _ = one_more xs statement in omega arith;
        homes = refl;
        sound = sound_after now.nodes after refl refl (λ index x e. e) leads.sound;
      }

  -- the number of a label
  label_at : (walk : Walk) (known : List ℕ) (around : List LabelsOf) (label : ℕ) (total : List ℕ)
      → Knows walk.labels walk.label_count known around → Any (IsAmongLabels label) around
      → Holds (known ++ []) total → slice_get total (label_in walk label) ≡ Some label
  label_at walk known around label total knows any holds =
      ap (λ (found : Option ℕ). slice_get total (unwrap_or found 0)) has.is
      ∙ holds has.number label (holds_with_more known [] has.number label has.at)
    where
      has : HasNumber walk.labels known label
      has = knows.found label any

  -- a statement without lists
  plain : (walk now : Walk) (known : List ℕ) (around : List LabelsOf) (statement : Statement) (ends : Bool)
      (tree : TypedStatement)
      → labels_numbered tree ≡ []
      → Knows walk.labels walk.label_count known around
      → Steps walk now (height_of_statement tree)
      → ends ≡ reaches_end (walk.nodes).homes storage tree
      → ((total : List ℕ) → Holds (known ++ []) total
      → IsStatementForm now.nodes storage total (length (now.nodes).statements) statement tree)
      → StatementIs storage walk known around (put_statement now statement ends) tree
  plain walk now known around statement ends tree none knows steps ends_so form =
      put_is walk now known around statement ends tree steps.leads
      (subst (λ (more : List ℕ). Knows now.labels now.label_count (known ++ more) around) (sym none)
      (knows_none (knows_steps steps knows)))
      steps.height ends_so
      (λ total holds. form total (subst (λ (more : List ℕ). Holds (known ++ more) total) none holds))

  assigned : (walk : Walk) (known : List ℕ) (around : List LabelsOf) (trees : List TypedTarget)
      (tree : TypedExpression)
      → AreSound walk.nodes → Knows walk.labels walk.label_count known around
      → StatementIs storage walk known around (assigned_in storage walk trees tree)
      (AssignmentStatement trees tree)
  assigned walk known around trees tree sound knows =
      plain walk (targets_in storage given trees).0 known around
      (statements.Assignment (targets_in storage given trees).1 (value_in storage walk tree).1) true
      (AssignmentStatement trees tree) refl knows
      (same_steps (exchanged (height_of tree) (height_of_targets trees)) (steps_on value.steps range.steps))
      refl
      (λ total holds. IsAssignment range.is
      (expression_in_stays given.nodes _ storage range.steps.leads.grows value.is))
    where
      value : Noted (AsExpression storage tree) walk (value_in storage walk tree) (height_of tree)
      value = value_added storage walk tree sound

      given : Walk
      given = (value_in storage walk tree).0

      range : Noted (AsTargets storage trees) given (targets_in storage given trees) (height_of_targets trees)
      range = targets_added storage given trees value.steps.leads.sound

  called : (walk : Walk) (known : List ℕ) (around : List LabelsOf) (procedure : ℕ) (trees : TypedArguments)
      → AreSound walk.nodes → Knows walk.labels walk.label_count known around
      → StatementIs storage walk known around (call_in storage walk procedure trees)
      (CallStatement procedure trees)
  called walk known around procedure trees sound knows =
      let added : _ = call_added storage walk trees sound in
      plain walk _ known around (statements.Call procedure _) true
      (CallStatement procedure trees) refl knows added.steps refl (λ total holds. IsCall added.is)

  moved : (walk : Walk) (known : List ℕ) (around : List LabelsOf) (bytes from to : TypedExpression)
      → AreSound walk.nodes → Knows walk.labels walk.label_count known around
      → StatementIs storage walk known around (moved_in storage walk bytes from to)
      (MoveStatement bytes from to)
  moved walk known around bytes from to sound knows =
      plain walk (noted last.0 (height_of_move (last.0).nodes count.1 source.1 last.1)) known around
      (statements.Move count.1 source.1 last.1) true (MoveStatement bytes from to) refl knows
      (record {
        leads = steps.leads;
        labels = steps.labels;
        count = steps.count;
        height = move_height walk.height (last.0).height (height_of bytes) (height_of from) (height_of to)
            (height_at (last.0).nodes count.1) (height_at (last.0).nodes source.1)
            (height_at (last.0).nodes last.1)
            steps.height
            (height_kept (last.0).nodes storage keeps one_is)
            (height_kept (last.0).nodes storage keeps two_is)
            (height_kept (last.0).nodes storage keeps three.is);
      })
      refl
      (λ total holds. IsMove one_is two_is three.is)
    where
      count : Walk × ExpressionNumber
      count = value_in storage walk bytes

      source : Walk × ExpressionNumber
      source = value_in storage count.0 from

      last : Walk × ExpressionNumber
      last = value_in storage source.0 to

      one : Noted (AsExpression storage bytes) walk count (height_of bytes)
      one = value_added storage walk bytes sound

      two : Noted (AsExpression storage from) count.0 source (height_of from)
      two = value_added storage count.0 from one.steps.leads.sound

      three : Noted (AsExpression storage to) source.0 last (height_of to)
      three = value_added storage source.0 to two.steps.leads.sound

      steps : Steps walk last.0 (max (max (height_of bytes) (height_of from)) (height_of to))
      steps = steps_on (steps_on one.steps two.steps) three.steps

      keeps : KeepTraits (last.0).nodes
      keeps = steps.leads.sound.keeps

      two_is : AsExpression storage from (last.0).nodes source.1
      two_is = expression_in_stays (source.0).nodes (last.0).nodes storage three.steps.leads.grows two.is

      one_is : AsExpression storage bytes (last.0).nodes count.1
      one_is =
          expression_in_stays (source.0).nodes (last.0).nodes storage three.steps.leads.grows
          (expression_in_stays (count.0).nodes (source.0).nodes storage two.steps.leads.grows one.is)

  pub returned : (walk : Walk) (known : List ℕ) (around : List LabelsOf) (tree : Option TypedExpression)
      → AreSound walk.nodes → Knows walk.labels walk.label_count known around
      → StatementIs storage walk known around (returned_in storage walk tree) (ReturnStatement tree)
  returned walk known around tree sound knows =
      let added : Noted (AsOptional storage tree) walk (optional_in storage walk tree)
      (height_of_optional tree)
      = optional_added storage walk tree sound in
      plain walk (optional_in storage walk tree).0 known around
      (statements.Return (optional_in storage walk tree).1)
      false (ReturnStatement tree) refl knows added.steps refl (λ total holds. IsReturn added.is)

  chosen : (walk : Walk) (known : List ℕ) (around : List LabelsOf) (test : TypedExpression)
      (then_tree : TypedStatement)
      (else_tree : TypedElse) (condition : Walk × ExpressionNumber) (body : Walk × AddedStatement)
      (other : Walk × Option AddedStatement)
      → Noted (AsExpression storage test) walk condition (height_of test)
      → StatementIs storage condition.0 known around body then_tree
      → ElseIs storage body.0 (known ++ labels_numbered then_tree) around other else_tree
      → StatementIs storage walk known around (put_if condition.1 body.1 other)
      (IfStatement test then_tree else_tree)
  chosen walk known around test then_tree else_tree condition body other value first second =
      put_is walk other.0 known around (statements.If condition.1 (body.1).number (number_of_added other.1))
      (either_ends (body.1).reaches_its_end other.1) (IfStatement test then_tree else_tree)
      (leads_on value.steps.leads (leads_on first.leads second.leads))
      (knows_grouped known (labels_numbered then_tree) (labels_numbered_in_else else_tree) second.knows)
      (three_heights walk.height (height_of test) (height_of_statement then_tree) (height_of_else else_tree)
      (condition.0).height (body.0).height (other.0).height value.steps.height first.height second.height)
      (second.ends (body.1).reaches_its_end
      ∙ ap (λ (ends : Bool). ends || reaches_end_of_else ((body.0).nodes).homes storage else_tree)
      (first.ends ∙ ap (λ (starts : List Home). reaches_end starts storage then_tree) value.steps.leads.homes)
      ∙ ap (λ (starts : List Home). reaches_end (walk.nodes).homes storage then_tree
      || reaches_end_of_else starts storage else_tree) (first.leads.homes ∙ value.steps.leads.homes))
      (λ total holds.
      let grouped : _ =
      holds_grouped known (labels_numbered then_tree) (labels_numbered_in_else else_tree) total holds in
      IsIf
      (expression_in_stays (body.0).nodes (other.0).nodes storage second.leads.grows
      (expression_in_stays (condition.0).nodes (body.0).nodes storage first.leads.grows value.is))
      (statement_stays (body.0).nodes (other.0).nodes storage second.leads.grows total _
      second.leads.statements
      (first.is total
      (holds_front (known ++ labels_numbered then_tree) (labels_numbered_in_else else_tree) total grouped)))
      (second.is total grouped))

  no_else : (walk : Walk) (known : List ℕ) (around : List LabelsOf) → AreSound walk.nodes
      → Knows walk.labels walk.label_count known around → ElseIs storage walk known around (walk, None) NoElse
  no_else walk known around sound knows = record {
    leads = leads_nowhere walk.nodes sound;
    knows = knows_none knows;
    height = nothing_higher walk.height;
    ends = λ first. sym (always first);
    is = λ total holds. IsNoElse;
  }

  some_else : (walk : Walk) (known : List ℕ) (around : List LabelsOf) (made : Walk × AddedStatement)
      (tree : TypedStatement)
      → StatementIs storage walk known around made tree
      → ElseIs storage walk known around (made.0, Some made.1) (ElseStatement tree)
  some_else walk known around made tree is = record {
    leads = is.leads;
    knows = is.knows;
    height = is.height;
    ends = λ first. ap (λ (ends : Bool). first || ends) is.ends;
    is = λ total holds. IsSomeElse (is.is total holds);
  }

  done : (walk : Walk) (known : List ℕ) (around : List LabelsOf) (made : Walk × AddedList) (list : TypedList)
      → ListIs storage walk known around made list
      → StatementIs storage walk known around (put_do made) (DoStatement list)
  done walk known around made list is =
      put_is walk made.0 known around (statements.Do (made.1).range)
      (made.1).reaches_its_end (DoStatement list)
      is.leads is.knows is.height is.ends (λ total holds. IsDo (is.is total holds))

  repeated : (walk : Walk) (known : List ℕ) (around : List LabelsOf) (tree : TypedHead) (list : TypedList)
      (head : Walk × LoopHead) (made : Walk × AddedList)
      → Noted (AsHead storage tree) walk head (height_of_head tree)
      → ListIs storage head.0 known around made list
      → StatementIs storage walk known around (put_loop head.1 made) (LoopStatement tree list)
  repeated walk known around tree list head made value is =
      let here : AsHead storage tree (made.0).nodes head.1
      = head_stays (head.0).nodes (made.0).nodes storage is.leads.grows value.is in
      put_is walk made.0 known around (statements.Loop head.1 (made.1).range)
      (loop_ends (made.0).nodes head.1) (LoopStatement tree list)
      (leads_on value.steps.leads is.leads) is.knows
      (two_heights walk.height (height_of_head tree) (height_of_list list) (head.0).height (made.0).height
      value.steps.height is.height)
      (ends_as_tree storage (made.0).nodes (walk.nodes).homes head.1 tree is.leads.sound
      (is.leads.homes ∙ value.steps.leads.homes) here)
      (λ total holds. IsLoop here (is.is total holds))

  cased : (walk : Walk) (known : List ℕ) (around : List LabelsOf) (tree : TypedExpression)
      (trees : TypedStatements)
      (choice : Walk × ExpressionNumber) (made : Walk × AddedList)
      → Noted (AsExpression storage tree) walk choice (height_of tree)
      → RowIs storage choice.0 known around true made trees
      → StatementIs storage walk known around (put_case choice.1 made) (CaseStatement tree trees)
  cased walk known around tree trees choice made value is =
      put_is walk made.0 known around (statements.Case choice.1 (made.1).range) true
      (CaseStatement tree trees)
      (leads_on value.steps.leads is.leads) is.knows
      (two_heights walk.height (height_of tree) (height_of_statements trees) (choice.0).height (made.0).height
      value.steps.height is.height)
      refl
      (λ total holds. IsCase (expression_in_stays (choice.0).nodes (made.0).nodes storage
      is.leads.grows value.is)
      (is.are total holds))

  no_items : (walk : Walk) (known : List ℕ) (around : List LabelsOf) (ends : Bool) → AreSound walk.nodes
      → Knows walk.labels walk.label_count known around
      → ItemsAre storage walk known around ends
      (walk, record { numbers = []; reaches_its_end = ends }) NoStatements
  no_items walk known around ends sound knows = record {
    leads = leads_nowhere walk.nodes sound;
    knows = knows_none knows;
    height = nothing_higher walk.height;
    ends_so = refl;
    are = λ total holds. NoItems;
  }

  items_stay : (before after : Nodes) (total : List ℕ) (numbers : List StatementNumber)
      (trees : TypedStatements)
      → Leads before after → AreItems before storage total numbers trees
      → AreItems after storage total numbers trees
  items_stay before after total [] trees leads NoItems = NoItems
  items_stay before after total (number ∷ numbers) trees leads (MoreItems is others) =
      MoreItems (statement_stays before after storage leads.grows total _ leads.statements is)
      (items_stay before after total numbers _ leads others)

  more_items : (walk : Walk) (known : List ℕ) (around : List LabelsOf) (ends : Bool) (first : TypedStatement)
      (others : TypedStatements) (one : Walk × AddedStatement) (rest : Walk × Items)
      → StatementIs storage walk known around one first
      → ItemsAre storage one.0 (known ++ labels_numbered first) around (one.1).reaches_its_end rest others
      → ItemsAre storage walk known around ends (rest.0, items_after ((one.1).number ∷ []) rest.1)
      (MoreStatements first others)
  more_items walk known around ends first others one rest is more = record {
    leads = leads_on is.leads more.leads;
    knows = knows_grouped known (labels_numbered first) (labels_numbered_in_statements others) more.knows;
    height = two_heights walk.height (height_of_statement first) (height_of_statements others) (one.0).height
        (rest.0).height is.height more.height;
    ends_so =
        more.ends_so
        ∙ ap (λ (starts : List Home). reaches_end_of_statements starts storage (one.1).reaches_its_end others)
        is.leads.homes
        ∙ ap (λ (ends : Bool). reaches_end_of_statements (walk.nodes).homes storage ends others) is.ends;
    are = λ total holds.
        let grouped : _ =
        holds_grouped known (labels_numbered first) (labels_numbered_in_statements others) total holds in
        MoreItems
        (statement_stays (one.0).nodes (rest.0).nodes storage more.leads.grows total _ more.leads.statements
        (is.is total
        (holds_front (known ++ labels_numbered first) (labels_numbered_in_statements others) total grouped)))
        (more.are total grouped);
  }

  -- statements are in the table of lists from a place on
  row_stands : (nodes after : Nodes) (total : List ℕ) (numbers : List StatementNumber)
      (trees : TypedStatements)
      (first : ℕ)
      → Leads nodes after
      → ((index : ℕ) (number : StatementNumber) → slice_get numbers index ≡ Some number
      → slice_get after.lists (first + index) ≡ Some number)
      → AreItems nodes storage total numbers trees
      → AreStatements after storage total (length after.statements) first (length numbers) trees
  row_stands nodes after total [] trees first leads stand NoItems = AreNoStatements
  row_stands nodes after total (number ∷ numbers) trees first leads stand (MoreItems is others) =
      AreMoreStatements
      (subst (λ (place : ℕ). slice_get after.lists place ≡ Some number) (omega arith) (stand 0 number refl))
      (statement_stays nodes after storage leads.grows total _ leads.statements is)
      (row_stands nodes after total numbers _ (suc first) leads
      (λ index one e. subst (λ (place : ℕ). slice_get after.lists place ≡ Some one) (omega arith)
      (stand (suc index) one e)) others)

  row_put : (walk : Walk) (known : List ℕ) (around : List LabelsOf) (ends : Bool) (made : Walk × Items)
      (trees : TypedStatements)
      → ItemsAre storage walk known around ends made trees
      → RowIs storage walk known around ends (put_list made) trees
  row_put walk known around ends made trees is = record {
    leads = leads_on is.leads put;
    knows = is.knows;
    height = is.height;
    ends_so = is.ends_so;
    are = λ total holds. row_stands (made.0).nodes after total (made.1).numbers trees
        (length ((made.0).nodes).lists) put (found_after ((made.0).nodes).lists (made.1).numbers)
        (is.are total holds);
  }
    where
      after : Nodes
      after = ((put_list made).0).nodes

      put : Leads (made.0).nodes after
      put = record {
        grows = record {
          expressions = λ index x e. e;
          statements = λ index x e. e;
          arguments = λ index x e. e;
          targets = λ index x e. e;
          lists = holds_with_more ((made.0).nodes).lists (made.1).numbers;
          count = omega arith;
        };
        statements = omega arith;
        homes = refl;
        sound = sound_after (made.0).nodes after refl refl (λ index x e. e) is.leads.sound;
      }

  -- a list; its labels are numbered before its statements are added
  list_put : (walk : Walk) (known : List ℕ) (around : List LabelsOf) (first : ℕ) (places : List ℕ)
      (trees : TypedStatements) (made : Walk × AddedList)
      → AreSound walk.nodes → Knows walk.labels walk.label_count known around
      → RowIs storage (numbered walk first (length places)) (known ++ numbers_from first places)
      (labels_of_list first places ∷ around) true made trees
      → ListIs storage walk known around made (ListOf first places trees)
  list_put walk known around first places trees made sound knows is = record {
    leads = subst (λ (nodes : Nodes). Leads nodes (made.0).nodes) numbers.nodes is.leads;
    knows = knows_after _ _ _ (labels_of_list first places) around
        (knows_grouped known (numbers_from first places) (labels_numbered_in_statements trees) is.knows);
    height =
        is.height ∙ ap (λ (start : ℕ). max start (min (height_of_statements trees) 65535)) numbers.height;
    ends = is.ends_so
        ∙ ap (λ (nodes : Nodes). reaches_end_of_statements nodes.homes storage true trees) numbers.nodes;
    is = λ total holds. IsListOf (is.are total
        (holds_grouped known (numbers_from first places) (labels_numbered_in_statements trees) total holds));
  }
    where
      numbers : AreNumbered walk (numbered walk first (length places)) known
          (known ++ numbers_from first places) first
          (length places)
      numbers = labels_numbered_from walk known first places knows.counted

  sound_numbered : (walk : Walk) (known : List ℕ) (first : ℕ) (places : List ℕ)
      → walk.label_count ≡ length known
      → AreSound walk.nodes → AreSound (numbered walk first (length places)).nodes
  sound_numbered walk known first places counted sound =
      subst AreSound (sym (labels_numbered_from walk known first places counted).nodes) sound

  mutual
    pub statement_added : (walk : Walk) (known : List ℕ) (around : List LabelsOf) (tree : TypedStatement)
        → AreSound walk.nodes → Knows walk.labels walk.label_count known around
        → JumpsStay around tree → LabelIsAround around tree → ListsStand tree
        → StatementIs storage walk known around (statement_in storage walk tree) tree
    statement_added walk known around (LabelStatement label) sound knows jumps is_around stand =
        plain walk walk known around (statements.Label (label_in walk label)) true
        (LabelStatement label) refl knows
        (steps_nowhere walk sound) refl
        (λ total holds. IsLabel (label_at walk known around label total knows is_around holds))
    statement_added walk known around NullStatement sound knows jumps is_around stand =
        plain walk walk known around statements.Null true NullStatement refl knows
        (steps_nowhere walk sound) refl
        (λ total holds. IsNull)
    statement_added walk known around (AssignmentStatement trees tree) sound knows jumps is_around stand =
        assigned walk known around trees tree sound knows
    statement_added walk known around (CallStatement procedure trees) sound knows jumps is_around stand =
        called walk known around procedure trees sound knows
    statement_added walk known around (MoveStatement bytes from to) sound knows jumps is_around stand =
        moved walk known around bytes from to sound knows
    statement_added walk known around (ReturnStatement tree) sound knows jumps is_around stand =
        returned walk known around tree sound knows
    statement_added walk known around HaltStatement sound knows jumps is_around stand =
        plain walk walk known around statements.Halt false HaltStatement refl knows
        (steps_nowhere walk sound) refl
        (λ total holds. IsHalt)
    statement_added walk known around (GotoStatement label) sound knows jumps is_around stand =
        plain walk walk known around (statements.Goto (label_in walk label)) false
        (GotoStatement label) refl knows
        (steps_nowhere walk sound) refl
        (λ total holds. IsGoto (label_at walk known around label total knows jumps holds))
    statement_added walk known around (IfStatement test then_tree else_tree) sound knows
        jumps is_around stand =
        let value : _ = value_added storage walk test sound in
        let given : Walk = (value_in storage walk test).0 in
        let body : StatementIs storage given known around (statement_in storage given then_tree) then_tree
        = statement_added given known around then_tree value.steps.leads.sound knows jumps.0
        (no_label_around around then_tree stand.0) stand.1 in
        chosen walk known around test then_tree else_tree (value_in storage walk test)
        (statement_in storage given then_tree)
        (else_in storage (statement_in storage given then_tree).0 else_tree) value body
        (else_added (statement_in storage given then_tree).0
        (known ++ labels_numbered then_tree) around else_tree
        body.leads.sound body.knows jumps.1 stand.2)
    statement_added walk known around (DoStatement list) sound knows jumps is_around stand =
        done walk known around (list_in storage walk list) list
        (list_added walk known around list sound knows jumps stand)
    statement_added walk known around (LoopStatement tree list) sound knows jumps is_around stand =
        let value : _ = head_added storage walk tree sound in
        let given : Walk = (head_in storage walk tree).0 in
        repeated walk known around tree list (head_in storage walk tree) (list_in storage given list) value
        (list_added given known around list value.steps.leads.sound
        (knows_steps value.steps knows) jumps stand)
    statement_added walk known around (CaseStatement tree trees) sound knows jumps is_around stand =
        let value : _ = value_added storage walk tree sound in
        let given : Walk = (value_in storage walk tree).0 in
        cased walk known around tree trees (value_in storage walk tree)
        (put_list (items_in storage given true trees)) value
        (row_put given known around true (items_in storage given true trees) trees
        (items_added given known around true trees value.steps.leads.sound knows jumps
        (cases_stand around trees stand)))

    else_added : (walk : Walk) (known : List ℕ) (around : List LabelsOf) (tree : TypedElse)
        → AreSound walk.nodes → Knows walk.labels walk.label_count known around
        → JumpsStayInElse around tree → ListsStandInElse tree
        → ElseIs storage walk known around (else_in storage walk tree) tree
    else_added walk known around NoElse sound knows jumps stand = no_else walk known around sound knows
    else_added walk known around (ElseStatement tree) sound knows jumps stand =
        some_else walk known around (statement_in storage walk tree) tree
        (statement_added walk known around tree sound knows jumps
        (no_label_around around tree stand.0) stand.1)

    items_added : (walk : Walk) (known : List ℕ) (around : List LabelsOf) (ends : Bool)
        (trees : TypedStatements)
        → AreSound walk.nodes → Knows walk.labels walk.label_count known around
        → JumpsStayInStatements around trees → StandAround around trees
        → ItemsAre storage walk known around ends (items_in storage walk ends trees) trees
    items_added walk known around ends NoStatements sound knows jumps stand =
        no_items walk known around ends sound knows
    items_added walk known around ends (MoreStatements first others) sound knows jumps stand =
        let one : StatementIs storage walk known around (statement_in storage walk first) first
        = statement_added walk known around first sound knows jumps.0 stand.0 stand.1 in
        more_items walk known around ends first others (statement_in storage walk first)
        (items_in storage (statement_in storage walk first).0
        (statement_in storage walk first).1.reaches_its_end others)
        one
        (items_added (statement_in storage walk first).0 (known ++ labels_numbered first) around
        (statement_in storage walk first).1.reaches_its_end others one.leads.sound one.knows jumps.1 stand.2)

    -- a list of statements that is added is that list
    pub list_added : (walk : Walk) (known : List ℕ) (around : List LabelsOf) (tree : TypedList)
        → AreSound walk.nodes → Knows walk.labels walk.label_count known around
        → JumpsStayInList around tree → ListStands tree
        → ListIs storage walk known around (list_in storage walk tree) tree
    list_added walk known around (ListOf first places trees) sound knows jumps stand =
        let begun : Walk = numbered walk first (length places) in
        let all : List ℕ = known ++ numbers_from first places in
        let inside : List LabelsOf = labels_of_list first places ∷ around in
        list_put walk known around first places trees
        (put_list (items_in storage begun true trees)) sound knows
        (row_put begun all inside true (items_in storage begun true trees) trees
        (items_added begun all inside true trees (sound_numbered walk known first places knows.counted sound)
        (knows_list walk known around first places knows) jumps
        (labels_stand around first places first 0 places trees stand.0 stand.1 (omega arith) refl)))
