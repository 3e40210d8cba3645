-- The typing of a module goes through its text as its binding does: where it is given no name has a fault,
-- and where it is refused for one that is none of a member, that is the first fault.
use Rattle.typing.proofs.Prelude.{◌≡◌, ℕ, ◌+◌, List, [], ◌∷◌, ◌++◌, Option, None, Some, Ok, Err, length, take, drop, refl, sym, ap, subst, ◌∙◌, append_assoc, inl, inr, ◌⊎◌, Contains, not, ◌||◌, nat_le, flat_map, take-append-drop, Identifier, ItemTree, ElementTree, LiterallyElement, ItemElement, HeadingTree, StatementTree, LabelledStatement, StatementKindTree, ElseTree, StatementTrees, DeclarationTree, DeclareTree, ProcedureTree, DeclarationTrees, NoDeclarations, MoreDeclarations, ModuleTree, Here, at_the_start, into_block, out_of_block, into_body, out_of_body, into_list, out_of_list, with_object, with_procedure, with_definition, with_parameter, with_label, is_declared_again, is_parameter_again, is_label_again, Event, Seen, in_turn, see_all, uses_at, see_item, see_element, see_kind, see_statements, see_alone, see_else, see_cases, see_declaration, see_declarations, in_list, moves, declares_object, declares_procedure, declares_label, labels_of, events_of, declared_by, names_in_item, IsFirstFault, TypedStatements, TypedModule, OBJECT_LIMIT, PARAMETER_LIMIT, NestedProcedure, ExternalContents, TooManyParameters, MisplacedLabel, TooLarge, Checked, place_of, Block, Progress, is_external, is_reentrant, declares_its_parameter, declare_names, declare_item, declare_element, declare_elements, size_of_item, place_of_item, with_here, declare_labels, list_of, declare_parameters, no_more_parameters, open_procedure, own_block, inner_block, entered, kind, alone, else_part, cases, statements, declaration, declarations, module_block, at_the_beginning, typing_of, Fault, ◌>>=◌, members_in_kind, members_in_statement, members_in_else, members_in_statements, members_in_element, members_in_type, members_in_declaration, members_in_declarations, members_in_module, IsFaultOfNames, IsOfNames, IsRefusedBeside, NamesAreBound, as_refusal}
use Rattle.trees.specs.Trees as trees
use Rattle.names.specs.internal.Events.{declares_parameter}
use Rattle.names.specs.declared.fault.Fault as name_fault
use Rattle.typing.proofs.Names.Meeting.{Meets, Never, meets_ok, meets_fault, meets_then, after_other, before_other, other_required}
use Rattle.typing.proofs.Names.ChecksWithoutNames.{not_of_names, objects-other, visibility-other, reentrant-other, parameters-other, body-other}
use Rattle.typing.proofs.Names.Bound.{Alike, IsWrong, NoFault, Walks, events_join, first_blamed, no_first, see_all_append, after_walks, declared-alone, declared-once, declared-walks, walks_as, walks_assoc, walks_in, walks_nothing, walks_ok, walks_on, walks_out, walks_then}
use Rattle.typing.proofs.Names.KnownItems.{item-finds}
use Rattle.typing.proofs.Names.Statements.{uses_walk, value-uses, assignment-uses, call-uses, return_from-uses, goto-walks, head-uses}

-- how far a text is
abbrev here_in : Progress → Here
here_in progress = progress.known.here

abbrev here_after : {A : Type 0} → A × Progress → Here
here_after done = done.1.known.here

-- names that are declared one after another
labels-walk : (labels : List Identifier) (here : Here)
    → Walks (see_all declares_label labels) here [] (λ (after : Here). after) (declare_labels labels here)
labels-walk [] here = walks_nothing here refl
labels-walk (label ∷ others) here =
    declared-walks is_label_again with_label label here (declared-once label _) λ _.
    labels-walk others (with_label label.name here)

parameters-walk : (parameters : List Identifier) (here : Here)
    → Walks (see_all declares_parameter parameters) here [] (λ (after : Here). after)
    (declare_parameters parameters here)
parameters-walk [] here = walks_nothing here refl
parameters-walk (parameter ∷ others) here =
    declared-walks is_parameter_again with_parameter parameter here (declared-once parameter _) λ _.
    parameters-walk others (with_parameter parameter.name here)

names-walk : (block : Block) (names : List Identifier) (here : Here)
    → Walks (see_all declares_object names) here [] (λ (after : Here). after) (declare_names block names here)
names-walk block [] here = walks_nothing here refl
names-walk block (name ∷ others) here =
    declared-walks is_declared_again with_object name here (declared-once name _) λ _.
    after_walks
    (other_required (not (is_external block.owner) || declares_its_parameter block name.name) ExternalContents
    (place_of name) not_of_names) λ _ _.
    names-walk block others (with_object name.name here)

-- a DECLARE
item-walks : (block : Block) (item : ItemTree) (progress : Progress)
    → Walks (see_item (declared_by item.subject) (names_in_item item)) (here_in progress)
    (members_in_type item.item_type)
    here_in (declare_item block item progress)
unfolding see_item
item-walks block item progress = record {
  meets = meets_then
      (events_join (see_all declares_object (declared_by item.subject) (here_in progress)).events
      (uses_at (here_in progress) (names_in_item item)) [] (members_in_type item.item_type))
      (names-walk block (declared_by item.subject) (here_in progress)).meets λ here is.
      before_other (item-finds progress.known block item) λ typed _.
      after_other
      (other_required (nat_le (size_of_item typed) OBJECT_LIMIT) TooLarge (place_of_item item) not_of_names)
      λ _ _.
      after_other (objects-other block typed (declared_by item.subject) progress) λ declared _.
      meets_ok tt is;
}

element-walks : (block : Block) (element : ElementTree) (progress : Progress)
    → Walks (see_element element) (here_in progress) (members_in_element element) here_in
    (declare_element block element progress)
element-walks block (LiterallyElement name text) progress =
    declared-alone is_declared_again with_definition name (here_in progress) (declared-once name _) λ _.
    after_other (other_required (not (is_external block.owner)) ExternalContents (place_of name) not_of_names)
    λ _ _.
    meets_ok tt refl
element-walks block (ItemElement item) progress = item-walks block item progress

elements-walk : (block : Block) (elements : List ElementTree) (progress : Progress)
    → Walks (see_all see_element elements) (here_in progress) (flat_map members_in_element elements) here_in
    (declare_elements block elements progress)
elements-walk block [] progress = walks_nothing (here_in progress) refl
elements-walk block (element ∷ others) progress =
    walks_then (element-walks block element progress) λ between.
    elements-walk block others between

-- the parameters of a heading, of which there are not too many
no_more-walks : (parameters : List Identifier) (here : Here)
    → Walks (see_all declares_parameter parameters) here [] (λ (a : Unit {0}). here)
    (no_more_parameters parameters)
no_more-walks [] here = walks_nothing here refl
no_more-walks (parameter ∷ others) here =
    record { meets = meets_fault TooManyParameters (place_of parameter) not_of_names }

all-walk : {A : Type 0} {there_of : A → Here} (parameters : List Identifier) (here : Here)
    {next : Here → Checked A}
    → ((after : Here) → Meets (Unit {0}) Never (λ (a : A). there_of a ≡ after) (next after))
    → Walks (see_all declares_parameter parameters) here [] there_of
    (declare_parameters (take PARAMETER_LIMIT parameters) here
    >>= (λ after. no_more_parameters (drop PARAMETER_LIMIT parameters) >>= (λ _. next after)))
all-walk {A} {there_of} parameters here {next} rest =
    let some : List Identifier = take PARAMETER_LIMIT parameters in
    let others : List Identifier = drop PARAMETER_LIMIT parameters in
    let same = see_all_append declares_parameter some others here in
    subst
    (λ (all : List Identifier). Walks (see_all declares_parameter all) here [] there_of
    (declare_parameters some here >>= (λ after. no_more_parameters others >>= (λ _. next after))))
    (take-append-drop PARAMETER_LIMIT parameters)
    (walks_as (see_all declares_parameter (some ++ others)) same.0 same.1
    (walks_then (parameters-walk some here) λ after.
    walks_on (no_more-walks others after) λ _. rest after))

heading-walks : (block : Block) (heading : HeadingTree) (declared : DeclarationTrees) (progress : Progress)
    → Walks
    (in_turn (declares_procedure heading.name)
    (in_turn (moves into_body) (see_all declares_parameter heading.parameters)))
    (here_in progress) [] here_in (open_procedure block heading declared progress)
heading-walks block heading declared progress =
    declared-walks is_declared_again with_procedure heading.name (here_in progress)
    (declared-once heading.name _) λ _.
    after_walks
    (other_required (not (is_reentrant block.owner || is_external block.owner)) NestedProcedure
    (place_of heading.name)
    not_of_names) λ _ _.
    walks_in into_body (with_procedure heading.name.name (here_in progress))
    (all-walk heading.parameters (into_body (with_procedure heading.name.name (here_in progress))) λ after.
    after_other (visibility-other block heading.linkage) λ _ _.
    after_other (reentrant-other heading.linkage heading.reentrant) λ _ _.
    meets_ok tt refl)

-- a list of statements
list-walks : (list : StatementTrees) (typed_from : ℕ → Progress → Checked (TypedStatements × Progress))
    (progress : Progress)
    → ((label : ℕ) (inside : Progress)
    → Walks (see_statements list) (here_in inside) (members_in_statements list) here_after
    (typed_from label inside))
    → Walks (in_list list (see_statements list)) (here_in progress) (members_in_statements list) here_after
    (list_of list typed_from progress)
list-walks list typed_from progress each =
    walks_in (into_list (labels_of list)) (here_in progress)
    (walks_out out_of_list _ (λ done. refl)
    (each progress.known.here.labels (with_here (into_list (labels_of list) progress.known.here) progress)))

-- the parts of a procedure, one after another
parts_in_turn : (d m p c l x : List Event)
    → (d ++ (m ++ p)) ++ (c ++ (l ++ x)) ≡ d ++ (m ++ ((p ++ (c ++ l)) ++ x))
parts_in_turn d m p c l x =
    append_assoc d (m ++ p) (c ++ (l ++ x))
    ∙ ap (λ (events : List Event). d ++ events)
    (append_assoc m p (c ++ (l ++ x))
    ∙ ap (λ (events : List Event). m ++ events)
    (ap (λ (events : List Event). p ++ events) (sym (append_assoc c l x)) ∙ sym (append_assoc p (c ++ l) x)))

procedure_alike : (declare enter parameters declared body leave : Here → Seen) (before : Here)
    → Alike (in_turn (in_turn declare (in_turn enter parameters)) (in_turn declared (in_turn body leave)))
    (in_turn declare (in_turn enter (in_turn (in_turn parameters (in_turn declared body)) leave))) before
unfolding in_turn
procedure_alike declare enter parameters declared body leave before =
    let one : Here = (declare before).here in
    let two : Here = (enter one).here in
    let three : Here = (parameters two).here in
    let four : Here = (declared three).here in
    let five : Here = (body four).here in
    record {
      events =
          parts_in_turn (declare before).events (enter one).events (parameters two).events
          (declared three).events
          (body four).events (leave five).events;
      comes = refl;
    }

procedure_walks : {A : Type 0} (declare enter parameters declared body leave : Here → Seen) {before : Here}
    {members : List Fault} {here_of : A → Here} {result : Checked A}
    → Walks (in_turn (in_turn declare (in_turn enter parameters)) (in_turn declared (in_turn body leave)))
    before
    members here_of result
    → Walks (in_turn declare (in_turn enter (in_turn (in_turn parameters (in_turn declared body)) leave)))
    before
    members here_of result
procedure_walks declare enter parameters declared body leave {before = before} walks =
    let alike = procedure_alike declare enter parameters declared body leave before in
    walks_as (in_turn declare (in_turn enter (in_turn (in_turn parameters (in_turn declared body)) leave)))
    alike.events
    alike.comes walks

mutual
  kind-walks : (block : Block) (tree : StatementKindTree) (progress : Progress)
      → Walks (see_kind tree) (here_in progress) (members_in_kind tree) here_after (kind block tree progress)
  kind-walks block (trees.NullStatement place) progress = walks_nothing (here_in progress) refl
  kind-walks block (trees.AssignmentStatement targets source) progress =
      uses_walk progress _ _ _ (assignment-uses targets source progress)
  kind-walks block (trees.CallStatement place name values) progress =
      uses_walk progress _ _ _ (call-uses name values progress)
  kind-walks block (trees.ReturnStatement place result) progress =
      uses_walk progress _ _ _ (return_from-uses place block.owner result progress)
  kind-walks block (trees.HaltStatement place) progress = walks_nothing (here_in progress) refl
  kind-walks block (trees.GotoStatement place label) progress = goto-walks label progress
  kind-walks block (trees.IfStatement place condition body otherwise) progress =
      walks_then (uses_walk progress _ _ _ (value-uses condition progress)) λ tested.
      walks_then (alone-walks block body tested.1) λ chosen.
      walks_ok _ (λ other. refl) (else-walks block otherwise chosen.1)
  kind-walks block (trees.DoStatement place declared body) progress =
      walks_in into_block (here_in progress)
      (walks_assoc (see_declarations declared) (in_list body (see_statements body)) (moves out_of_block)
      (walks_then (declarations-walk (inner_block block) declared (entered progress)) λ opened.
      walks_out out_of_block _ (λ done. refl)
      (list-walks body (λ label. statements (inner_block block) body label) opened
      (λ label inside. statements-walk (inner_block block) body label inside))))
  kind-walks block (trees.LoopStatement place head body) progress =
      walks_then (uses_walk progress _ _ _ (head-uses head progress)) λ headed.
      walks_ok _ (λ done. refl)
      (list-walks body (λ label. statements block body label) headed.1
      (λ label inside. statements-walk block body label inside))
  kind-walks block (trees.CaseStatement place choice body) progress =
      walks_then (uses_walk progress _ _ _ (value-uses choice progress)) λ chosen.
      walks_ok _ (λ done. refl) (cases-walk block body chosen.1)

  alone-walks : (block : Block) (tree : StatementTree) (progress : Progress)
      → Walks (see_alone tree) (here_in progress) (members_in_statement tree) here_after
      (alone block tree progress)
  alone-walks block (LabelledStatement [] tree) progress = kind-walks block tree progress
  alone-walks block (LabelledStatement (label ∷ labels) tree) progress =
      record { meets = meets_fault MisplacedLabel (place_of label) not_of_names }

  else-walks : (block : Block) (tree : ElseTree) (progress : Progress)
      → Walks (see_else tree) (here_in progress) (members_in_else tree) here_after
      (else_part block tree progress)
  else-walks block trees.NoElse progress = walks_nothing (here_in progress) refl
  else-walks block (trees.ElseStatement body) progress =
      walks_ok _ (λ done. refl) (alone-walks block body progress)

  cases-walk : (block : Block) (list : StatementTrees) (progress : Progress)
      → Walks (see_cases list) (here_in progress) (members_in_statements list) here_after
      (cases block list progress)
  cases-walk block trees.NoStatements progress = walks_nothing (here_in progress) refl
  cases-walk block (trees.MoreStatements first others) progress =
      walks_then (alone-walks block first progress) λ done.
      walks_ok _ (λ rest. refl) (cases-walk block others done.1)

  statements-walk : (block : Block) (list : StatementTrees) (label : ℕ) (progress : Progress)
      → Walks (see_statements list) (here_in progress) (members_in_statements list) here_after
      (statements block list label progress)
  statements-walk block trees.NoStatements label progress = walks_nothing (here_in progress) refl
  statements-walk block (trees.MoreStatements (LabelledStatement labels tree) others) label progress =
      walks_assoc (see_all declares_label labels) (see_kind tree) (see_statements others)
      (walks_then (labels-walk labels (here_in progress)) λ here.
      walks_then (kind-walks block tree (with_here here progress)) λ done.
      walks_ok _ (λ rest. refl) (statements-walk block others (label + length labels) done.1))

  declaration-walks : (block : Block) (tree : DeclarationTree) (progress : Progress)
      → Walks (see_declaration tree) (here_in progress) (members_in_declaration tree) here_in
      (declaration block tree progress)
  declaration-walks block (DeclareTree elements) progress = elements-walk block elements progress
  declaration-walks block (ProcedureTree heading declared body end_name) progress =
      procedure_walks (declares_procedure heading.name) (moves into_body)
      (see_all declares_parameter heading.parameters)
      (see_declarations declared) (in_list body (see_statements body)) (moves out_of_body)
      (walks_then (heading-walks block heading declared progress) λ opened.
      walks_then (declarations-walk (own_block heading progress) declared opened) λ within.
      after_walks (parameters-other within.known.here heading.parameters) λ parameters _.
      after_walks (body-other heading body) λ _ _.
      walks_out out_of_body _ (λ done. refl)
      (list-walks body (λ label. statements (own_block heading progress) body label) within
      (λ label inside. statements-walk (own_block heading progress) body label inside)))

  declarations-walk : (block : Block) (list : DeclarationTrees) (progress : Progress)
      → Walks (see_declarations list) (here_in progress) (members_in_declarations list) here_in
      (declarations block list progress)
  declarations-walk block NoDeclarations progress = walks_nothing (here_in progress) refl
  declarations-walk block (MoreDeclarations first others) progress =
      walks_then (declaration-walks block first progress) λ between.
      declarations-walk block others between

-- all of a module
module-meets : (tree : ModuleTree)
    → Meets (NoFault (events_of tree)) (IsWrong (events_of tree) (members_in_module tree))
    (λ (a : TypedModule). Unit {0}) (typing_of tree)
unfolding typing_of in_turn
module-meets tree =
    let declared : Here → Seen = see_declarations tree.declarations in
    let listed : Here → Seen = in_list tree.statements (see_statements tree.statements) in
    meets_then
    (events_join (declared at_the_start).events (listed (declared at_the_start).here).events
    (members_in_declarations tree.declarations) (members_in_statements tree.statements))
    (declarations-walk module_block tree.declarations at_the_beginning).meets λ progress is.
    before_other
    (subst
    (λ (here : Here). Walks listed here (members_in_statements tree.statements) here_after
    (list_of tree.statements (λ label. statements module_block tree.statements label) progress)) is
    (list-walks tree.statements (λ label. statements module_block tree.statements label) progress
    (λ label inside. statements-walk module_block tree.statements label inside))).meets λ done _.
    meets_ok tt tt

-- a module with a typing has no fault of names, so its names are bound
pub typed_is_bound : (tree : ModuleTree) (found : TypedModule) → typing_of tree ≡ Ok found
    → NamesAreBound tree
typed_is_bound tree found is =
    record { faultless = no_first (events_of tree) ((module-meets tree).given found is).0; bound = refl }

-- a typing that is refused for a name is refused for the first fault of the binding, or for one that the name
-- of a member may have
pub refused_for_a_name : (tree : ModuleTree) (refusal : Fault) → typing_of tree ≡ Err refusal
    → IsOfNames refusal.cause
    → IsFaultOfNames tree refusal ⊎ Contains (members_in_module tree) refusal
refused_for_a_name tree refusal is names = by ((module-meets tree).refused refusal is names)
  where
    by : IsWrong (events_of tree) (members_in_module tree) refusal
        → IsFaultOfNames tree refusal ⊎ Contains (members_in_module tree) refusal
    by (inl blamed) =
        let first = first_blamed (events_of tree) refusal blamed in
        inl (record { fault = first.fault; first = first.first; same = first.same })
    by (inr member) = inr member

-- one with a fault of names has no typing: it is refused for that, or for another cause, or for a fault of
-- a member's name
pub name_fault_is_refused : (tree : ModuleTree) (fault : name_fault.Fault) → IsFirstFault tree fault
    → IsRefusedBeside tree fault
name_fault_is_refused tree fault first = by (typing_of tree) refl
  where
    some_is_none : {A : Type 0} {a : A} {option : Option A} → option ≡ None → option ≡ Some a → ⊥
    some_is_none none some = cc

    same_fault : (refusal : Fault) → IsFaultOfNames tree refusal ⊎ Contains (members_in_module tree) refusal
        → (refusal ≡ as_refusal fault) ⊎ Contains (members_in_module tree) refusal
    same_fault refusal (inl found) =
        let same : found.fault ≡ fault = (let one = found.first in cc) in
        inl (sym found.same ∙ ap as_refusal same)
    same_fault refusal (inr member) = inr member

    by : (checked : Checked TypedModule) → typing_of tree ≡ checked → IsRefusedBeside tree fault
    by (Ok found) is = absurd (some_is_none (typed_is_bound tree found is).faultless first)
    by (Err refusal) is = record {
      refusal = refusal;
      refused = is;
      same = λ names. same_fault refusal (refused_for_a_name tree refusal is names);
    }
