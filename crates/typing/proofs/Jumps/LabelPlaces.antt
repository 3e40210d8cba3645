-- The labels of a list stand where its places say, and no two labels of a module have the same number.
use Rattle.typing.proofs.Prelude.{◌≡◌, ◌≢◌, ℕ, zero, suc, ◌+◌, ◌-◌, ◌≤◌, min, List, [], ◌∷◌, ◌++◌, length, take, drop, flat_map, slice_set, Option, None, Some, Ok, Err, refl, ap, sym, subst, ◌∙◌, append-nil, arith, length-append, IfOk, AllPairs, is_none, nat_le, not, ◌||◌, ◌==◌, AllByRecursion, flat_map-append, All-from_recursion, AllPairs-cons, ScalarType, Identifier, Place, ExpressionTree, ReferenceTree, LoopHeadTree, StatementTree, LabelledStatement, StatementKindTree, NullStatement, AssignmentStatement, CallStatement, ReturnStatement, HaltStatement, GotoStatement, IfStatement, DoStatement, LoopStatement, CaseStatement, ElseTree, NoElse, ElseStatement, StatementTrees, NoStatements, MoreStatements, ItemTree, ElementTree, LiterallyElement, ItemElement, HeadingTree, DeclarationTree, DeclareTree, ProcedureTree, DeclarationTrees, NoDeclarations, MoreDeclarations, ModuleTree, Binding, Declared, BuiltInName, Move, Procedure, Label, jump_of, Here, Body, into_list, into_body, after_body, with_object, with_procedure, with_parameter, with_label, is_declared_again, is_parameter_again, is_label_again, labels_of, declared_by, OBJECT_LIMIT, FRAME_LIMIT, PARAMETER_LIMIT, TypedArguments, NoTyped, TypedStatement, LabelStatement, TypedStatements, TypedList, TypedProcedure, TypedModule, Constants, LabelsOf, JumpsStayInStatements, LabelsStand, IsNoLabel, ListsStandInStatements, labels_in, labels_in_else, labels_in_statements, labels_in_list, labels_in_procedure, labels_in_module, DeclaredTwice, ArgumentCount, CallOfTyped, NestedProcedure, ExternalContents, TooLarge, Checked, require, Known, Given, place_of, count_of_given, bound, procedure_of, call_arguments, expression, arguments, Owner, TheModule, OfProcedure, Block, Progress, is_external, is_reentrant, declares_parameter, TypedItem, declare_names, place_of_item, object_named, with_typed_object, with_objects, typed_item, size_of_item, declare_item, declare_definition, declare_element, declare_elements, with_here, with_constants, value, destinations, assignment, moved, call_bound, call, return_with, return_from, goto_bound, goto, loop_head, declare_labels, without_label, places_of, places_from, after_labels, list_of, declare_parameters, no_more_parameters, check_visibility, check_reentrant, parameter_types, procedure_with, empty_list, open_procedure, own_block, parameter_objects, check_body, close_procedure, inner_block, entered, kind, labelled, alone, else_part, cases, statements, declaration, declarations, module_block, at_the_beginning, typing_of}
use Rattle.typed_trees.specs.TypedTrees.{MoreArguments, MoreStatements as MoreTyped}
use Rattle.typing.proofs.Steps.{then_checks, then_any}
use Rattle.typing.proofs.Heads.{head_keeps}

stand_after : (label place : ℕ) (places : List ℕ) (statement : TypedStatement) (others : TypedStatements)
    → IsNoLabel statement → LabelsStand label (place + 1) places others
    → LabelsStand label place places (MoreTyped statement others)
stand_after label place places (LabelStatement number) others is_none stand = absurd is_none
stand_after label place [] statement others is_none stand = stand
stand_after label place (first ∷ places) statement others is_none stand = stand

-- labels before a statement, and then others
pub labels_stand : (labels : List Identifier) (label place next_label next_place : ℕ) (places : List ℕ)
    (statement : TypedStatement) (others : TypedStatements)
    → next_label ≡ label + length labels → next_place ≡ place + length labels + 1 → IsNoLabel statement
    → LabelsStand next_label next_place places others
    → LabelsStand label place (places_of place labels ++ places)
    (after_labels label labels (MoreTyped statement others))
labels_stand [] label place next_label next_place places statement others one two is_none stand =
    stand_after label place places statement others is_none
    (subst (λ (number : ℕ). LabelsStand number (place + 1) places others) (one ∙ omega arith)
    (subst (λ (number : ℕ). LabelsStand next_label number places others) (two ∙ omega arith) stand))
labels_stand (first ∷ labels) label place next_label next_place places statement others one
    two is_none stand = (
      refl,
      refl,
      labels_stand labels (label + 1) (place + 1) next_label next_place places statement others
          (omega arith) (omega arith) is_none stand,
    )

-- a list has as many places as labels
places_count : (place : ℕ) (labels : List Identifier) → length (places_of place labels) ≡ length labels
places_count place [] = refl
places_count place (label ∷ labels) = ap (λ (n : ℕ). suc n) (places_count (place + 1) labels)

pub list_count : (place : ℕ) (trees : StatementTrees)
    → length (places_from place trees) ≡ length (labels_of trees)
list_count place NoStatements = refl
list_count place (MoreStatements (LabelledStatement labels kind) others) =
    let next : ℕ = place + length labels + 1 in
    length-append (places_of place labels) (places_from next others)
    ∙ (ap (λ (n : ℕ). n + length (places_from next others)) (places_count place labels)
    ∙ (ap (λ (n : ℕ). length labels + n) (list_count next others)
    ∙ sym (length-append labels (labels_of others))))

-- what holds of each statement holds with labels before
pub jumps_after_labels : (around : List LabelsOf) (label : ℕ) (labels : List Identifier)
    (statements : TypedStatements)
    → JumpsStayInStatements around statements
    → JumpsStayInStatements around (after_labels label labels statements)
jumps_after_labels around label [] typed stay = stay
jumps_after_labels around label (first ∷ labels) typed stay =
    (tt, jumps_after_labels around (label + 1) labels typed stay)

pub lists_after_labels : (label : ℕ) (labels : List Identifier) (statements : TypedStatements)
    → ListsStandInStatements statements → ListsStandInStatements (after_labels label labels statements)
lists_after_labels label [] typed stand = stand
lists_after_labels label (first ∷ labels) typed stand =
    (tt, lists_after_labels (label + 1) labels typed stand)

-- one where a number is below a limit, and nothing else
unfoldable below : (limit n : ℕ) → ℕ
below limit n = min 1 (limit - n)

-- one where a number is another, and nothing else
unfoldable once : (n other : ℕ) → ℕ
once n other = below (other + 1) n - below other n

-- how often a number is among numbers
abbrev times : ℕ → List ℕ → ℕ
times n [] = 0
times n (first ∷ others) = once n first + times n others

once_itself : (n : ℕ) → once n n ≡ 1
unfolding below once
once_itself n = omega arith

once_below : (n other : ℕ) → once n other + below other n ≤ below (other + 1) n
unfolding below once
once_below n other = omega arith

below_most : (limit n : ℕ) → below limit n ≤ 1
unfolding below
below_most limit n = omega arith

none_below : (n : ℕ) → below 0 n ≡ 0
unfolding below
none_below n = omega arith

times_append : (n : ℕ) (first others : List ℕ) → times n (first ++ others) ≡ times n first + times n others
times_append n [] others = omega arith
times_append n (label ∷ first) others = omega (arith, times_append n first others)

-- numbers of which none is there twice differ
others_differ : (n : ℕ) (others : List ℕ) → times n others ≡ 0
    → AllByRecursion (λ (other : ℕ). n ≢ other) others
others_differ n [] none = tt
others_differ n (other ∷ others) none = (
  λ same.
      let is : once n other ≡ 1 = subst (λ (m : ℕ). once n m ≡ 1) same (once_itself n) in
      omega (arith, is, none),
  others_differ n others (omega (arith, none)),
)

all_differ : (numbers : List ℕ) → ((n : ℕ) → times n numbers ≤ 1)
    → AllPairs (λ (one other : ℕ). one ≢ other) numbers
all_differ [] most = λ i j d before within. absurd (omega arith)
all_differ (n ∷ others) most =
    AllPairs-cons (λ (one other : ℕ). one ≢ other) n others
    (All-from_recursion (λ (other : ℕ). n ≢ other) others
    (others_differ n others (omega (arith, most n, once_itself n))))
    (all_differ others (λ m. omega (arith, most m)))

module _ (n : ℕ) where
  -- how often the number is that of a label in procedures
  abbrev in_procedures : List TypedProcedure → ℕ
  in_procedures procedures = times n (flat_map labels_in_procedure procedures)

  -- From one place to another, each number that is counted in the labels that are made is one that the
  -- counter of labels has passed.
  abbrev Adds : Known → List ℕ → Known → Type 0
  Adds before labels after =
      times n labels + in_procedures after.procedures + below before.here.labels n
      ≤ in_procedures before.procedures + below after.here.labels n

  abbrev AddsNone : Progress → Progress → Type 0
  AddsNone before after = Adds before.known [] after.known

  abbrev AddsStatement : Progress → TypedStatement × Progress → Type 0
  AddsStatement before typed = Adds before.known (labels_in typed.0) typed.1.known

  stays : (known : Known) → Adds known [] known
  stays known = omega arith

  without : (labels : List ℕ) (known : Known) → labels ≡ [] → Adds known labels known
  without labels known none = subst (λ (made : List ℕ). Adds known made known) (sym none) (stays known)

  -- what comes after a place at which nothing was made
  goes_on : (before between : Progress) (given : Checked Progress)
      → AddsNone before between → IfOk given (AddsNone between) → IfOk given (AddsNone before)
  goes_on before between (Ok after) first second = omega (arith, first, second)
  goes_on before between (Err fault) first second = tt

  then_adds : (before between after : Known) (labels : List ℕ)
      → Adds before [] between → Adds between labels after → Adds before labels after
  then_adds before between after labels first second = omega (arith, first, second)

  both_add : (before between after : Known) (one other : List ℕ)
      → Adds before one between → Adds between other after → Adds before (one ++ other) after
  both_add before between after one other first second =
      omega (arith, first, second, times_append n one other)

  same_adds : (before after : Known) → after.procedures ≡ before.procedures
      → after.here.labels ≡ before.here.labels
      → Adds before [] after
  same_adds before after procedures labels =
      let same_procedures : in_procedures after.procedures ≡ in_procedures before.procedures =
      ap in_procedures procedures in
      let same_labels : below after.here.labels n ≡ below before.here.labels n =
      ap (λ (limit : ℕ). below limit n) labels in
      omega (arith, same_procedures, same_labels)

  -- the parts that have no statements in them
  value_adds : (tree : ExpressionTree) (progress : Progress)
      → IfOk (value tree progress) (λ typed. AddsNone progress typed.1)
  value_adds tree progress =
      then_any _ (expression progress.known tree progress.constants) _ (λ typed. stays progress.known)

  assignment_adds : (targets : List ReferenceTree) (source : ExpressionTree) (progress : Progress)
      → IfOk (assignment targets source progress) (AddsStatement progress)
  assignment_adds targets source progress =
      then_any _ (destinations progress.known targets progress.constants) _ (λ places.
      then_checks _ _ (value source (with_constants places.1 progress)) _
      (value_adds source (with_constants places.1 progress))
      (λ typed adds. adds))

  moved_has_none : (place : Place) (values : TypedArguments)
      → IfOk (moved place values) (λ typed. labels_in typed ≡ [])
  moved_has_none place (MoreArguments count (MoreArguments source (MoreArguments destination NoTyped))) = refl
  moved_has_none place values = tt

  call_bound_has_none : (known : Known) (binding : Binding) (name : Identifier) (given : Given)
      (constants : Constants)
      → IfOk (call_bound known binding name given constants) (λ typed. labels_in typed.0 ≡ [])
  call_bound_has_none known (Declared (Procedure number)) name given constants =
      then_any _ (procedure_of known name number) _ (λ procedure.
      then_any _ (require (is_none procedure.result) CallOfTyped (place_of name)) _ (λ is_untyped.
      then_any _ (call_arguments procedure (place_of name) given constants) _ (λ typed. refl)))
  call_bound_has_none known (BuiltInName Move) name given constants =
      then_any _ (require (count_of_given given == 3) ArgumentCount (place_of name)) _ (λ are_three.
      then_any _ (given.typed constants) _ (λ typed.
      then_checks _ _ (moved (place_of name) typed.0) _ (moved_has_none (place_of name) typed.0)
      (λ moving none. none)))
  call_bound_has_none known binding name given constants = tt

  call_adds : (name : Identifier) (given : Given) (progress : Progress)
      → IfOk (call name given progress) (AddsStatement progress)
  call_adds name given progress =
      then_any _ (bound progress.known name) _ (λ binding.
      then_checks _ _ (call_bound progress.known binding name given progress.constants) _
      (call_bound_has_none progress.known binding name given progress.constants)
      (λ typed none. without (labels_in typed.0) progress.known none))

  return_with_adds : (place : Place) (result : Option ScalarType) (tree : Option ExpressionTree)
      (progress : Progress)
      → IfOk (return_with place result tree progress) (AddsStatement progress)
  return_with_adds place None None progress = stays progress.known
  return_with_adds place (Some scalar) (Some tree) progress =
      then_checks _ _ (value tree progress) _ (value_adds tree progress) (λ typed adds. adds)
  return_with_adds place result tree progress = tt

  return_adds : (place : Place) (owner : Owner) (tree : Option ExpressionTree) (progress : Progress)
      → IfOk (return_from place owner tree progress) (AddsStatement progress)
  return_adds place TheModule tree progress = tt
  return_adds place (OfProcedure number heading) tree progress =
      return_with_adds place heading.result tree progress

  goto_has_none : (place : Place) (binding : Binding)
      → IfOk (goto_bound place binding) (λ typed. labels_in typed ≡ [])
  goto_has_none place (Declared (Label label)) = refl
  goto_has_none place binding = tt

  goto_adds : (label : Identifier) (progress : Progress) → IfOk (goto label progress) (AddsStatement progress)
  goto_adds label progress =
      then_checks _ _ (goto_bound (place_of label) (jump_of progress.known.here label.name)) _
      (goto_has_none (place_of label) (jump_of progress.known.here label.name))
      (λ typed none. without (labels_in typed) progress.known none)

  head_adds : (head : LoopHeadTree) (progress : Progress)
      → IfOk (loop_head head progress) (λ typed. AddsNone progress typed.1)
  head_adds head progress =
      head_keeps (AddsNone progress)
      (λ tree before so_far. then_any _ (expression before.known tree before.constants) _ (λ typed. so_far))
      head progress (stays progress.known)

  -- names and labels that are declared leave the counter of labels as it was
  declare_labels_keeps : (labels : List Identifier) (here : Here)
      → IfOk (declare_labels labels here) (λ after. after.labels ≡ here.labels)
  declare_labels_keeps [] here = refl
  declare_labels_keeps (label ∷ others) here =
      then_any _ (require (not (is_label_again here label.name)) DeclaredTwice (place_of label)) _ (λ is_new.
      declare_labels_keeps others (with_label label.name here))

  declare_parameters_keeps : (parameters : List Identifier) (here : Here)
      → IfOk (declare_parameters parameters here) (λ after. after.labels ≡ here.labels)
  declare_parameters_keeps [] here = refl
  declare_parameters_keeps (parameter ∷ others) here =
      then_any _ (require (not (is_parameter_again here parameter.name)) DeclaredTwice (place_of parameter)) _
      (λ is_new. declare_parameters_keeps others (with_parameter parameter.name here))

  declare_names_keeps : (block : Block) (names : List Identifier) (here : Here)
      → IfOk (declare_names block names here) (λ after. after.labels ≡ here.labels)
  declare_names_keeps block [] here = refl
  declare_names_keeps block (name ∷ others) here =
      then_any _ (require (not (is_declared_again here name.name)) DeclaredTwice (place_of name)) _ (λ is_new.
      then_any _
      (require (not (is_external block.owner) || declares_parameter block name.name) ExternalContents
      (place_of name)) _ (λ may_stand.
      declare_names_keeps block others (with_object name.name here)))

  -- objects that are declared
  with_objects_keeps : (block : Block) (item : TypedItem) (names : List Identifier) (progress : Progress)
      → IfOk (with_objects block item names progress)
      (λ after. after.known.procedures ≡ progress.known.procedures)
  with_objects_keeps block item [] progress = refl
  with_objects_keeps block item (name ∷ others) progress =
      let after : Progress = with_typed_object item.linkage (object_named block item name.name) progress in
      then_any _ (require (nat_le after.frame FRAME_LIMIT) TooLarge (place_of name)) _ (λ fits.
      with_objects_keeps block item others after)

  declare_item_adds : (block : Block) (item : ItemTree) (progress : Progress)
      → IfOk (declare_item block item progress) (AddsNone progress)
  declare_item_adds block item progress =
      then_checks _ _ (declare_names block (declared_by item.subject) progress.known.here) _
      (declare_names_keeps block (declared_by item.subject) progress.known.here) (λ here labels.
      then_any _ (typed_item progress.known block item) _ (λ typed.
      then_any _ (require (nat_le (size_of_item typed) OBJECT_LIMIT) TooLarge (place_of_item item)) _ (λ fits.
      then_checks _ _ (with_objects block typed (declared_by item.subject) progress) _
      (with_objects_keeps block typed (declared_by item.subject) progress) (λ declared procedures.
      same_adds progress.known (record declared.known { here = here }) procedures labels))))

  declare_definition_adds : (block : Block) (name : Identifier) (progress : Progress)
      → IfOk (declare_definition block name progress) (AddsNone progress)
  declare_definition_adds block name progress =
      then_any _
      (require (not (is_declared_again progress.known.here name.name)) DeclaredTwice (place_of name)) _
      (λ is_new.
      then_any _ (require (not (is_external block.owner)) ExternalContents (place_of name)) _ (λ may_stand.
      stays progress.known))

  declare_element_adds : (block : Block) (element : ElementTree) (progress : Progress)
      → IfOk (declare_element block element progress) (AddsNone progress)
  declare_element_adds block (LiterallyElement name text) progress =
      declare_definition_adds block name progress
  declare_element_adds block (ItemElement item) progress = declare_item_adds block item progress

  declare_elements_add : (block : Block) (elements : List ElementTree) (progress : Progress)
      → IfOk (declare_elements block elements progress) (AddsNone progress)
  declare_elements_add block [] progress = stays progress.known
  declare_elements_add block (element ∷ others) progress =
      then_checks _ _ (declare_element block element progress) _
      (declare_element_adds block element progress) (λ between one.
      goes_on progress between (declare_elements block others between) one
      (declare_elements_add block others between))

  -- into a procedure, whose body is still to come, and out of it
  one_more : (procedures : List TypedProcedure) (procedure : TypedProcedure)
      → labels_in_procedure procedure ≡ []
      → in_procedures (procedures ++ procedure ∷ []) ≡ in_procedures procedures
  one_more procedures procedure none =
      ap (times n) (flat_map-append labels_in_procedure procedures (procedure ∷ [])
      ∙ ap (λ (labels : List ℕ). flat_map labels_in_procedure procedures ++ (labels ++ [])) none
      ∙ append-nil (flat_map labels_in_procedure procedures))

  open_procedure_adds : (block : Block) (heading : HeadingTree) (declared : DeclarationTrees)
      (progress : Progress)
      → IfOk (open_procedure block heading declared progress) (AddsNone progress)
  open_procedure_adds block heading declared progress =
      let named : Here = with_procedure heading.name.name progress.known.here in
      let new : TypedProcedure =
      procedure_with heading (parameter_types declared heading.parameters) [] 0 empty_list in
      then_any _ (require (not (is_declared_again progress.known.here heading.name.name)) DeclaredTwice
      (place_of heading.name)) _ (λ is_new.
      then_any _ (require (not (is_reentrant block.owner || is_external block.owner)) NestedProcedure
      (place_of heading.name)) _ (λ may_stand.
      then_checks _ _ (declare_parameters (take PARAMETER_LIMIT heading.parameters) (into_body named)) _
      (declare_parameters_keeps (take PARAMETER_LIMIT heading.parameters) (into_body named)) (λ here labels.
      then_any _ (no_more_parameters (drop PARAMETER_LIMIT heading.parameters)) _ (λ are_all.
      then_any _ (check_visibility block heading.linkage) _ (λ is_visible.
      then_any _ (check_reentrant heading.linkage heading.reentrant) _ (λ is_reentrant.
      let same : below here.labels n ≡ below progress.known.here.labels n =
      ap (λ (limit : ℕ). below limit n) labels in
      omega (arith, same, one_more progress.known.procedures new refl)))))))

  put_in : (procedures : List TypedProcedure) (number : ℕ) (procedure : TypedProcedure)
      → in_procedures (slice_set procedures number procedure)
      ≤ in_procedures procedures + times n (labels_in_procedure procedure)
  put_in [] number procedure = omega arith
  put_in (first ∷ others) zero procedure =
      omega (
        arith,
        times_append n (labels_in_procedure procedure) (flat_map labels_in_procedure others),
        times_append n (labels_in_procedure first) (flat_map labels_in_procedure others),
      )
  put_in (first ∷ others) (suc number) procedure =
      omega (
        arith,
        put_in others number procedure,
        times_append n (labels_in_procedure first)
            (flat_map labels_in_procedure (slice_set others number procedure)),
        times_append n (labels_in_procedure first) (flat_map labels_in_procedure others),
      )

  labels_after_body : (bodies : List Body) (here : Here) → (after_body bodies here).labels ≡ here.labels
  labels_after_body [] here = refl
  labels_after_body (body ∷ bodies) here = refl

  close_procedure_adds : (before : Known) (heading : HeadingTree) (declared : DeclarationTrees) (number : ℕ)
      (parameters : List ℕ) (typed : TypedList) (progress : Progress)
      → Adds before (labels_in_list typed) progress.known
      → Adds before [] (close_procedure heading declared number parameters typed progress).known
  close_procedure_adds before heading declared number parameters typed progress adds =
      let new : TypedProcedure =
      procedure_with heading (parameter_types declared heading.parameters) parameters progress.frame typed in
      let same : below (after_body progress.known.here.outer_bodies progress.known.here).labels n
      ≡ below progress.known.here.labels n =
      ap (λ (limit : ℕ). below limit n)
      (labels_after_body progress.known.here.outer_bodies progress.known.here) in
      omega (arith, adds, same, put_in progress.known.procedures number new)

  -- the statements of a list from one on, whose next label has this number
  abbrev FromLabel : StatementTrees → (label : ℕ) → Progress → TypedStatements × Progress → Type 0
  FromLabel trees label before typed =
      times n (labels_in_statements typed.0) + in_procedures typed.1.known.procedures
      + below before.known.here.labels n + below label n
      ≤ in_procedures before.known.procedures + below typed.1.known.here.labels n
      + below (label + length (labels_of trees)) n

  with_labels : (labels : List Identifier) (label next : ℕ) (typed : TypedStatements)
      → next ≡ label + length labels
      → times n (labels_in_statements (after_labels label labels typed)) + below label n
      ≤ times n (labels_in_statements typed) + below next n
  with_labels [] label next typed is =
      let same : below next n ≡ below label n = ap (λ (limit : ℕ). below limit n) (omega (arith, is)) in
      omega (arith, same)
  with_labels (first ∷ labels) label next typed is =
      omega (arith, once_below n label, with_labels labels (label + 1) next typed (omega (arith, is)))

  list_adds : (trees : StatementTrees) (typed_from : ℕ → Progress → Checked (TypedStatements × Progress))
      (progress : Progress)
      → ((label : ℕ) (start : Progress) → IfOk (typed_from label start) (FromLabel trees label start))
      → IfOk (list_of trees typed_from progress)
      (λ typed. Adds progress.known (labels_in_list typed.0) typed.1.known)
  list_adds trees typed_from progress each =
      let first : ℕ = progress.known.here.labels in
      let inside : Progress = with_here (into_list (labels_of trees) progress.known.here) progress in
      then_checks _ _ (typed_from first inside) _ (each first inside) (λ typed adds. omega (arith, adds))

  mutual
    kind_adds : (block : Block) (tree : StatementKindTree) (progress : Progress)
        → IfOk (kind block tree progress) (AddsStatement progress)
    kind_adds block (NullStatement place) progress = stays progress.known
    kind_adds block (AssignmentStatement targets source) progress = assignment_adds targets source progress
    kind_adds block (CallStatement place name trees) progress =
        call_adds name (record { trees = trees; typed = arguments progress.known trees }) progress
    kind_adds block (ReturnStatement place result) progress = return_adds place block.owner result progress
    kind_adds block (HaltStatement place) progress = stays progress.known
    kind_adds block (GotoStatement place label) progress = goto_adds label progress
    kind_adds block (IfStatement place condition body otherwise) progress =
        then_checks _ _ (value condition progress) _ (value_adds condition progress) (λ tested first.
        then_checks _ _ (alone block body tested.1) _ (alone_adds block body tested.1) (λ chosen one.
        then_checks _ _ (else_part block otherwise chosen.1) _
        (else_part_adds block otherwise chosen.1) (λ other two.
        then_adds progress.known tested.1.known other.1.known
        (labels_in chosen.0 ++ labels_in_else other.0) first
        (both_add tested.1.known chosen.1.known other.1.known (labels_in chosen.0)
        (labels_in_else other.0) one two))))
    kind_adds block (DoStatement place declared body) progress =
        then_checks _ _ (declarations (inner_block block) declared (entered progress)) _
        (declarations_add (inner_block block) declared (entered progress)) (λ opened first.
        then_checks _ _ (list_of body (λ label. statements (inner_block block) body label) opened) _
        (list_adds body (λ label. statements (inner_block block) body label) opened
        (λ label start. statements_add (inner_block block) body label start)) (λ typed one.
        then_adds progress.known opened.known typed.1.known (labels_in_list typed.0) first one))
    kind_adds block (LoopStatement place head body) progress =
        then_checks _ _ (loop_head head progress) _ (head_adds head progress) (λ headed first.
        then_checks _ _ (list_of body (λ label. statements block body label) headed.1) _
        (list_adds body (λ label. statements block body label) headed.1
        (λ label start. statements_add block body label start)) (λ typed one.
        then_adds progress.known headed.1.known typed.1.known (labels_in_list typed.0) first one))
    kind_adds block (CaseStatement place choice body) progress =
        then_checks _ _ (value choice progress) _ (value_adds choice progress) (λ chosen first.
        then_checks _ _ (cases block body chosen.1) _ (cases_add block body chosen.1) (λ typed one.
        then_adds progress.known chosen.1.known typed.1.known (labels_in_statements typed.0) first one))

    labelled_adds : (block : Block) (tree : StatementTree) (progress : Progress)
        → IfOk (labelled block tree progress) (AddsStatement progress)
    labelled_adds block (LabelledStatement labels done) progress = kind_adds block done progress

    alone_adds : (block : Block) (tree : StatementTree) (progress : Progress)
        → IfOk (alone block tree progress) (AddsStatement progress)
    alone_adds block (LabelledStatement labels done) progress =
        then_any _ (without_label labels) _ (λ has_none. kind_adds block done progress)

    else_part_adds : (block : Block) (tree : ElseTree) (progress : Progress)
        → IfOk (else_part block tree progress)
        (λ typed. Adds progress.known (labels_in_else typed.0) typed.1.known)
    else_part_adds block NoElse progress = stays progress.known
    else_part_adds block (ElseStatement body) progress =
        then_checks _ _ (alone block body progress) _ (alone_adds block body progress) (λ typed adds. adds)

    cases_add : (block : Block) (trees : StatementTrees) (progress : Progress)
        → IfOk (cases block trees progress)
        (λ typed. Adds progress.known (labels_in_statements typed.0) typed.1.known)
    cases_add block NoStatements progress = stays progress.known
    cases_add block (MoreStatements first others) progress =
        then_checks _ _ (alone block first progress) _ (alone_adds block first progress) (λ typed one.
        then_checks _ _ (cases block others typed.1) _ (cases_add block others typed.1) (λ rest more.
        both_add progress.known typed.1.known rest.1.known (labels_in typed.0)
        (labels_in_statements rest.0) one more))

    statements_add : (block : Block) (trees : StatementTrees) (label : ℕ) (progress : Progress)
        → IfOk (statements block trees label progress) (FromLabel trees label progress)
    statements_add block NoStatements label progress =
        let same : below (label + 0) n ≡ below label n = ap (λ (limit : ℕ). below limit n) (omega arith) in
        omega (arith, same)
    statements_add block (MoreStatements (LabelledStatement names done) others) label progress =
        let next : ℕ = label + length names in
        let same : below (label + length (names ++ labels_of others)) n
        ≡ below (next + length (labels_of others)) n =
        ap (λ (limit : ℕ). below limit n) (omega (arith, length-append names (labels_of others))) in
        then_checks _ _ (declare_labels names progress.known.here) _
        (declare_labels_keeps names progress.known.here)
        (λ here keeps.
        then_checks _ _ (labelled block (LabelledStatement names done) (with_here here progress)) _
        (labelled_adds block (LabelledStatement names done) (with_here here progress)) (λ typed one.
        then_checks _ _ (statements block others next typed.1) _
        (statements_add block others next typed.1) (λ rest more.
        let kept : below here.labels n ≡ below progress.known.here.labels n =
        ap (λ (limit : ℕ). below limit n) keeps in
        omega (
          arith,
          same,
          kept,
          one,
          more,
          with_labels names label next (MoreTyped typed.0 rest.0) refl,
          times_append n (labels_in typed.0) (labels_in_statements rest.0),
        ))))

    declaration_adds : (block : Block) (tree : DeclarationTree) (progress : Progress)
        → IfOk (declaration block tree progress) (AddsNone progress)
    declaration_adds block (DeclareTree elements) progress = declare_elements_add block elements progress
    declaration_adds block (ProcedureTree heading declared body end_name) progress =
        let own : Block = own_block heading progress in
        then_checks _ _ (open_procedure block heading declared progress) _
        (open_procedure_adds block heading declared progress)
        (λ opened first.
        then_checks _ _ (declarations own declared opened) _
        (declarations_add own declared opened) (λ within second.
        then_any _ (parameter_objects within.known.here heading.parameters) _ (λ parameters.
        then_any _ (check_body heading body) _ (λ may_stand.
        then_checks _ _ (list_of body (λ label. statements own body label) within) _
        (list_adds body (λ label. statements own body label) within
        (λ label start. statements_add own body label start)) (λ typed third.
        close_procedure_adds progress.known heading declared (length progress.known.procedures)
        parameters typed.0 typed.1
        (omega (arith, first, second, third)))))))

    declarations_add : (block : Block) (trees : DeclarationTrees) (progress : Progress)
        → IfOk (declarations block trees progress) (AddsNone progress)
    declarations_add block NoDeclarations progress = stays progress.known
    declarations_add block (MoreDeclarations first others) progress =
        then_checks _ _ (declaration block first progress) _
        (declaration_adds block first progress) (λ between one.
        goes_on progress between (declarations block others between) one
        (declarations_add block others between))

  at_most_once : (tree : ModuleTree) → IfOk (typing_of tree) (λ typed. times n (labels_in_module typed) ≤ 1)
  unfolding typing_of
  at_most_once tree =
      then_checks _ _ (declarations module_block tree.declarations at_the_beginning) _
      (declarations_add module_block tree.declarations at_the_beginning) (λ declared first.
      then_checks _ _
      (list_of tree.statements (λ label. statements module_block tree.statements label) declared) _
      (list_adds tree.statements (λ label. statements module_block tree.statements label) declared
      (λ label start. statements_add module_block tree.statements label start)) (λ typed second.
      omega (
        arith,
        first,
        second,
        none_below n,
        below_most typed.1.known.here.labels n,
        times_append n (flat_map labels_in_procedure typed.1.known.procedures) (labels_in_list typed.0),
      )))

-- no two labels of a typed module have the same number
pub labels_differ : (tree : ModuleTree) (found : TypedModule) → typing_of tree ≡ Ok found
    → AllPairs (λ (one other : ℕ). one ≢ other) (labels_in_module found)
labels_differ tree found is =
    all_differ (labels_in_module found) (λ n.
    subst (λ (given : Checked TypedModule). IfOk given (λ typed. times n (labels_in_module typed) ≤ 1))
    is (at_most_once n tree))
