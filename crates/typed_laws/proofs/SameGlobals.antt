-- What is inside of procedures, of simple DOs and of statements changes none of the globals of a text, nor the names of
-- its objects and procedures so far.
use Rattle.typed_laws.proofs.Prelude.{◌≡◌, ℕ, zero, suc, ◌+◌, Bool, true, false, List, [], ◌∷◌, ◌++◌, length, Option, Some, None, nat_le, refl, sym, ap, ◌∙◌, subst, slice_get, slice_set, is_none, not, ◌&&◌, map-append, got_first, Identifier, AssignmentStatement, CallStatement, DeclarationTree, DeclarationTrees, DeclareTree, ElementTree, ElseTree, ExpressionTree, HeadingTree, ItemElement, ItemTree, LiterallyElement, LoopHeadTree, MoreDeclarations, NoDeclarations, ProcedureTree, ReferenceTree, ScalarType, StatementKindTree, StatementTree, StatementTrees, TypedList, TypedObject, TypedProcedure, TypedStatements, FRAME_LIMIT, OBJECT_LIMIT, Gives, gives_after, gives_fault, gives_ok, in_turn, required, then_more, Opened, opens_procedure, Keeps, keeps_append, heading_procedure, Block, OfProcedure, Owner, Progress, TheModule, is_external, TypedItem, base_of, object_named, place_of_item, size_of_item, with_typed_object, entered, inner_block, close_procedure, own_block, parameter_types, procedure_with, Known, place_of, labels_before, with_here, DeclaredTwice, ExternalContents, TooLarge, Checked, require, arguments, bound, check_linkage, declare_element, declare_elements, declare_item, declare_names, extents_of, typed_at, typed_base, typed_contents, typed_item, typed_type, with_objects, check_body, parameter_objects, declare_labels, list_of, without_label, alone, cases, declaration, declarations, else_part, kind, statements}
use Rattle.std.proofs.lemmas.Bool.{and_parts}
use Rattle.trees.specs.Trees as trees
use Rattle.trees.specs.declared.declaration.Linkage.{Linkage}
use Rattle.trees.specs.declared.identifier.Place.{Place}
use Rattle.typed_trees.specs.declared.limits.TheConstants.{PARAMETER_LIMIT}
use Rattle.typed_trees.specs.declared.parts.GlobalItem.TheVariants.{GlobalObject, GlobalProcedure}
use Rattle.names.specs.{BuiltIns.{jump_of}, Environment.{Body, Here, after_body, into_body, into_list, is_declared_again, is_label_again, out_of_body, out_of_list, with_label, with_object, with_procedure}, DeclaredNames.{labels_of}, DeclaredNames.{declared_by}}
use Rattle.typing.proofs.Heads.{head_follows}
use Rattle.typing.proofs.Walked.{object_names, procedure_names}
use Rattle.typing.specs.Blocks.{declares_parameter, is_module, is_module_level, is_reentrant, with_global}
use Rattle.typing.specs.Statements.{with_constants}
use Rattle.typing.specs.declared.fault.Cause.TheVariants.{NestedProcedure}
use Rattle.typing.specs.internal.Expressions.{expression}
use Rattle.typing.specs.internal.ProcedureChecks.{check_reentrant, check_visibility, declare_parameters, no_more_parameters, open_procedure}
use Rattle.typing.specs.internal.ReferenceChecks.{Given}
use Rattle.typing.specs.internal.StatementChecks.{assignment, call, call_bound, destinations, goto, goto_bound, loop_head, return_from, return_with, value}
use Rattle.typing.specs.internal.Typing.{labelled}
use Rattle.std.specs.Prelude.{drop, take, ◌||◌}

-- a part of a text that has no global goes from one place to another
pub record Stays (before after : Progress) : Type 0 where
  pub globals : after.globals ≡ before.globals
  pub objects : Keeps (object_names before.known.objects) (object_names after.known.objects)
  pub procedures : Keeps (procedure_names before.known.procedures) (procedure_names after.known.procedures)
  pub around : after.known.here.outer_bodies ≡ before.known.here.outer_bodies

stays_nowhere : (progress : Progress) → Stays progress progress
stays_nowhere progress = record {
  globals = refl;
  objects = λ number name is. is;
  procedures = λ number name is. is;
  around = refl;
}

pub stays_then : {before between after : Progress} → Stays before between → Stays between after
    → Stays before after
stays_then one other = record {
  globals = other.globals ∙ one.globals;
  objects = λ number name is. other.objects number name (one.objects number name is);
  procedures = λ number name is. other.procedures number name (one.procedures number name is);
  around = other.around ∙ one.around;
}

-- what names stand for changes before a part, or after it
stays_from : {before after : Progress} (here : Here) → here.outer_bodies ≡ before.known.here.outer_bodies
    → Stays (with_here here before) after → Stays before after
stays_from here same stays = record {
  globals = stays.globals;
  objects = stays.objects;
  procedures = stays.procedures;
  around = stays.around ∙ same;
}

stays_to : {before after : Progress} (here : Here) → here.outer_bodies ≡ after.known.here.outer_bodies
    → Stays before after → Stays before (with_here here after)
stays_to here same stays = record {
  globals = stays.globals;
  objects = stays.objects;
  procedures = stays.procedures;
  around = same ∙ stays.around;
}

-- parts that change constants alone
abbrev Same : Progress → Progress → Type 0
Same before after = (after.known ≡ before.known) × (after.globals ≡ before.globals)

same_stays : (before after : Progress) → Same before after → Stays before after
same_stays before after same = record {
  globals = same.1;
  objects = λ number name is.
      subst (λ (known : Known). slice_get (object_names known.objects) number ≡ Some name) (sym same.0) is;
  procedures = λ number name is.
      subst (λ (known : Known). slice_get (procedure_names known.procedures) number ≡ Some name)
      (sym same.0) is;
  around = ap (λ (known : Known). known.here.outer_bodies) same.0;
}

-- what a statement gives
abbrev StaysBy : {A : Type 0} → Progress → Checked (A × Progress) → Type 0
StaysBy {A} progress result = Gives (λ (found : A × Progress). Stays progress found.1) result

value_stays : (tree : ExpressionTree) (progress : Progress) → StaysBy progress (value tree progress)
value_stays tree progress =
    gives_after (expression progress.known tree progress.constants) λ typed.
    gives_ok (same_stays progress (with_constants typed.1 progress) (refl, refl))

assignment_stays : (targets : List ReferenceTree) (source : ExpressionTree) (progress : Progress)
    → StaysBy progress (assignment targets source progress)
assignment_stays targets source progress =
    gives_after (destinations progress.known targets progress.constants) λ places.
    in_turn (value_stays source (with_constants places.1 progress)) λ found stays.
    gives_ok (stays_then (same_stays progress (with_constants places.1 progress) (refl, refl)) stays)

call_stays : (name : Identifier) (given : Given) (progress : Progress)
    → StaysBy progress (call name given progress)
call_stays name given progress =
    gives_after (bound progress.known name) λ binding.
    gives_after (call_bound progress.known binding name given progress.constants) λ typed.
    gives_ok (same_stays progress (with_constants typed.1 progress) (refl, refl))

return_with_stays : (place : Place) (result : Option ScalarType) (tree : Option ExpressionTree)
    (progress : Progress)
    → StaysBy progress (return_with place result tree progress)
return_with_stays place None None progress = gives_ok (stays_nowhere progress)
return_with_stays place (Some scalar) (Some tree) progress =
    in_turn (value_stays tree progress) λ found stays. gives_ok stays
return_with_stays place (Some scalar) None progress = gives_fault
return_with_stays place None (Some tree) progress = gives_fault

return_stays : (place : Place) (owner : Owner) (tree : Option ExpressionTree) (progress : Progress)
    → StaysBy progress (return_from place owner tree progress)
return_stays place TheModule tree progress = gives_fault
return_stays place (OfProcedure number heading) tree progress =
    return_with_stays place heading.result tree progress

goto_stays : (label : Identifier) (progress : Progress) → StaysBy progress (goto label progress)
goto_stays label progress =
    gives_after (goto_bound (place_of label) (jump_of progress.known.here label.name)) λ typed.
    gives_ok (stays_nowhere progress)

head_stays : (head : LoopHeadTree) (progress : Progress) → StaysBy progress (loop_head head progress)
head_stays head progress =
    head_follows Stays stays_nowhere (λ before between after. stays_then) value_stays head progress

-- PUBLIC and EXTERNAL stand at the level of the module alone
linkage_is_none : (block : Block) (item : ItemTree) (linkage : Option Linkage)
    → is_module_level block ≡ false
    → Gives (λ _. linkage ≡ None) (check_linkage block item linkage)
linkage_is_none block item None inside = gives_ok refl
linkage_is_none block item (Some linkage) inside =
    then_more (required (is_module_level block && is_none (base_of item.subject)) _ _) λ _ is.
    let level : is_module_level block ≡ true =
    (and_parts (is_module_level block) (is_none (base_of item.subject)) is).0 in
    absurd (let bad : true ≡ false = sym level ∙ inside in cc)

visibility_is_none : (block : Block) (linkage : Option Linkage)
    → Gives (λ _. is_module_level block ≡ false → linkage ≡ None) (check_visibility block linkage)
visibility_is_none block None = gives_ok (λ inside. refl)
visibility_is_none block (Some linkage) =
    then_more (required (is_module_level block) _ _) λ _ level inside.
    absurd (let bad : true ≡ false = sym level ∙ inside in cc)

item_linkage : (known : Known) (block : Block) (item : ItemTree) → is_module_level block ≡ false
    → Gives (λ (typed : TypedItem). typed.linkage ≡ None) (typed_item known block item)
item_linkage known block item inside =
    gives_after (typed_base known block item.subject (base_of item.subject)) λ base.
    gives_after (extents_of block item item.dimension) λ extents.
    gives_after (typed_type block item item.item_type) λ object_type.
    in_turn (linkage_is_none block item item.linkage inside) λ _ none.
    gives_after (typed_at known block item item.at) λ at.
    gives_after (typed_contents known block item object_type extents item.value_list) λ filled.
    gives_ok none

-- objects that are no globals
pub names_longer : (objects : List TypedObject) (object : TypedObject)
    → Keeps (object_names objects) (object_names (objects ++ object ∷ []))
names_longer objects object =
    subst (λ (names : List (List ℕ)). Keeps (object_names objects) names)
    (sym (map-append (λ (each : TypedObject). each.name) objects (object ∷ [])))
    (keeps_append (object_names objects) (object.name ∷ []))

objects_stay : (block : Block) (item : TypedItem) (names : List Identifier) (progress : Progress)
    → item.linkage ≡ None
    → Gives (λ after. Stays progress after) (with_objects block item names progress)
objects_stay block item [] progress none = gives_ok (stays_nowhere progress)
objects_stay block item (name ∷ others) progress none =
    let object : TypedObject = object_named block item name.name in
    let after : Progress = with_typed_object item.linkage object progress in
    let one : Stays progress after = record {
      globals = ap (λ (linkage : Option Linkage).
          with_global linkage (GlobalObject (length progress.known.objects)) progress.globals) none;
      objects = names_longer progress.known.objects object;
      procedures = λ number each is. is;
      around = refl;
    } in
    gives_after (require (nat_le after.frame FRAME_LIMIT) TooLarge (place_of name)) λ small.
    then_more (objects_stay block item others after none) λ last stays. stays_then one stays

names_around : (block : Block) (names : List Identifier) (here : Here)
    → Gives (λ (after : Here). after.outer_bodies ≡ here.outer_bodies) (declare_names block names here)
names_around block [] here = gives_ok refl
names_around block (name ∷ others) here =
    gives_after (require (not (is_declared_again here name.name)) DeclaredTwice (place_of name)) λ once.
    gives_after
    (require (not (is_external block.owner) || declares_parameter block name.name) ExternalContents
    (place_of name)) λ placed.
    names_around block others (with_object name.name here)

item_stays : (block : Block) (item : ItemTree) (progress : Progress) → is_module_level block ≡ false
    → Gives (λ after. Stays progress after) (declare_item block item progress)
item_stays block item progress inside =
    in_turn (names_around block (declared_by item.subject) progress.known.here) λ here around.
    in_turn (item_linkage progress.known block item inside) λ typed none.
    gives_after (require (nat_le (size_of_item typed) OBJECT_LIMIT) TooLarge (place_of_item item)) λ small.
    in_turn (objects_stay block typed (declared_by item.subject) progress none) λ after stays.
    gives_ok (record {
      globals = stays.globals;
      objects = stays.objects;
      procedures = stays.procedures;
      around = around;
    })

element_stays : (block : Block) (element : ElementTree) (progress : Progress) → is_module_level block ≡ false
    → Gives (λ after. Stays progress after) (declare_element block element progress)
element_stays block (LiterallyElement name text) progress inside =
    gives_after
    (require (not (is_declared_again progress.known.here name.name)) DeclaredTwice (place_of name))
    λ once.
    gives_after (require (not (is_external block.owner)) ExternalContents (place_of name)) λ placed.
    gives_ok (record {
      globals = refl;
      objects = λ number each is. is;
      procedures = λ number each is. is;
      around = refl;
    })
element_stays block (ItemElement item) progress inside = item_stays block item progress inside

elements_stay : (block : Block) (elements : List ElementTree) (progress : Progress)
    → is_module_level block ≡ false
    → Gives (λ after. Stays progress after) (declare_elements block elements progress)
elements_stay block [] progress inside = gives_ok (stays_nowhere progress)
elements_stay block (element ∷ others) progress inside =
    in_turn (element_stays block element progress inside) λ between one.
    then_more (elements_stay block others between inside) λ after two. stays_then one two

-- the heading of a procedure, which may be a global
record IsHeaded (block : Block) (heading : HeadingTree) (before after : Progress) : Type 0 where
  globals : after.globals
      ≡ with_global heading.linkage (GlobalProcedure (length before.known.procedures)) before.globals
  level : is_module_level block ≡ false → heading.linkage ≡ None

headed : (block : Block) (heading : HeadingTree) (declared : DeclarationTrees) (progress : Progress)
    → Gives (IsHeaded block heading progress) (open_procedure block heading declared progress)
headed block heading declared progress =
    gives_after (require (not (is_declared_again progress.known.here heading.name.name)) DeclaredTwice
    (place_of heading.name)) λ once.
    gives_after (require (not (is_reentrant block.owner || is_external block.owner)) NestedProcedure
    (place_of heading.name)) λ plain.
    gives_after
    (declare_parameters (take PARAMETER_LIMIT heading.parameters)
    (into_body (with_procedure heading.name.name progress.known.here))) λ here.
    gives_after (no_more_parameters (drop PARAMETER_LIMIT heading.parameters)) λ all.
    in_turn (visibility_is_none block heading.linkage) λ _ level.
    gives_after (check_reentrant heading.linkage heading.reentrant) λ reentrant.
    gives_ok (record { globals = refl; level = level })

-- two things that a check gives
both_give : {A : Type 0} {P Q : A → Type 0} {result : Checked A} → Gives P result → Gives Q result
    → Gives (λ a. P a × Q a) result
both_give one other = record { holds = λ a is. (one.holds a is, other.holds a is) }

-- A procedure goes from its heading to its end: it may be a global, and nothing in it is.
pub record Closes (block : Block) (heading : HeadingTree) (before after : Progress) : Type 0 where
  pub new : not (is_declared_again before.known.here heading.name.name) ≡ true
  pub globals : after.globals
      ≡ with_global heading.linkage (GlobalProcedure (length before.known.procedures)) before.globals
  pub level : is_module_level block ≡ false → heading.linkage ≡ None
  pub objects : Keeps (object_names before.known.objects) (object_names after.known.objects)
  pub procedures : Keeps (procedure_names before.known.procedures) (procedure_names after.known.procedures)
  pub named : slice_get (procedure_names after.known.procedures) (length before.known.procedures)
      ≡ Some heading.name.name
  pub body : after.known.here.body ≡ (with_procedure heading.name.name before.known.here).body
  pub around : after.known.here.outer_bodies ≡ before.known.here.outer_bodies

closes_stays : (block : Block) (heading : HeadingTree) (before after : Progress)
    → is_module_level block ≡ false → Closes block heading before after → Stays before after
closes_stays block heading before after inside closes = record {
  globals = closes.globals
      ∙ ap (λ (linkage : Option Linkage).
      with_global linkage (GlobalProcedure (length before.known.procedures)) before.globals)
      (closes.level inside);
  objects = closes.objects;
  procedures = closes.procedures;
  around = closes.around;
}

-- a declaration goes from its start to its end
abbrev pub GoesBy : Block → DeclarationTree → Progress → Progress → Type 0
GoesBy block (DeclareTree elements) before after = is_module_level block ≡ false → Stays before after
GoesBy block (ProcedureTree heading declared body end_name) before after = Closes block heading before after

stays_by : (block : Block) (tree : DeclarationTree) (before after : Progress) → is_module_level block ≡ false
    → GoesBy block tree before after → Stays before after
stays_by block (DeclareTree elements) before after inside goes = goes inside
stays_by block (ProcedureTree heading declared body end_name) before after inside closes =
    closes_stays block heading before after inside closes

elements_go : (block : Block) (elements : List ElementTree) (progress : Progress)
    → Gives (λ after. is_module_level block ≡ false → Stays progress after)
    (declare_elements block elements progress)
elements_go block elements progress =
    record { holds = λ after is inside. (elements_stay block elements progress inside).holds after is }

-- its entry in the table has the name that it had
same_names : (procedures : List TypedProcedure) (number : ℕ) (last : TypedProcedure)
    → slice_get (procedure_names procedures) number ≡ Some last.name
    → procedure_names (slice_set procedures number last) ≡ procedure_names procedures
same_names [] number last is = refl
same_names (first ∷ procedures) zero last is =
    let same : first.name ≡ last.name = cc in
    ap (λ (name : List ℕ). name ∷ procedure_names procedures) (sym same)
same_names (first ∷ procedures) (suc number) last is =
    ap (λ (names : List (List ℕ)). first.name ∷ names) (same_names procedures number last is)

names_count : (procedures : List TypedProcedure) → length (procedure_names procedures) ≡ length procedures
names_count [] = refl
names_count (first ∷ procedures) = ap (λ (count : ℕ). suc count) (names_count procedures)

leaves_body : (here : Here) (body : Body) (bodies : List Body) → here.outer_bodies ≡ body ∷ bodies
    → ((out_of_body here).body ≡ body) × ((out_of_body here).outer_bodies ≡ bodies)
leaves_body here body bodies are =
    subst
    (λ (around : List Body).
    ((after_body around here).body ≡ body) × ((after_body around here).outer_bodies ≡ bodies))
    (sym are) (refl, refl)

closed : (block : Block) (heading : HeadingTree) (declared : DeclarationTrees) (parameters : List ℕ)
    (body : TypedList) (before opened within : Progress)
    → Opened heading declared before opened → IsHeaded block heading before opened → Stays opened within
    → Closes block heading before
    (close_procedure heading declared (length before.known.procedures) parameters body within)
closed block heading declared parameters body before opened within opens head stays =
    let number : ℕ = length before.known.procedures in
    let name : List ℕ = heading.name.name in
    let last : TypedProcedure =
    procedure_with heading (parameter_types declared heading.parameters) parameters within.frame body in
    let longer : procedure_names opened.known.procedures
    ≡ procedure_names before.known.procedures ++ name ∷ [] =
    ap procedure_names opens.procedures
    ∙ map-append (λ (each : TypedProcedure). each.name) before.known.procedures
    (heading_procedure heading declared ∷ []) in
    let there : slice_get (procedure_names before.known.procedures ++ name ∷ []) number ≡ Some name =
    subst
    (λ (at : ℕ). slice_get (procedure_names before.known.procedures ++ name ∷ []) at ≡ Some name)
    (names_count before.known.procedures) (got_first (procedure_names before.known.procedures) name []) in
    let named : slice_get (procedure_names within.known.procedures) number ≡ Some name =
    stays.procedures number name
    (subst (λ (names : List (List ℕ)). slice_get names number ≡ Some name) (sym longer) there) in
    let same : procedure_names (slice_set within.known.procedures number last)
    ≡ procedure_names within.known.procedures =
    same_names within.known.procedures number last named in
    let out = leaves_body within.known.here (with_procedure name before.known.here).body
    before.known.here.outer_bodies (stays.around ∙ opens.around) in
    record {
      new = opens.new;
      globals = stays.globals ∙ head.globals;
      level = head.level;
      objects = λ at each is.
          stays.objects at each
          (subst (λ (objects : List TypedObject). slice_get (object_names objects) at ≡ Some each)
          (sym opens.objects) is);
      procedures = λ at each is.
          subst (λ (names : List (List ℕ)). slice_get names at ≡ Some each) (sym same)
          (stays.procedures at each
          (subst (λ (names : List (List ℕ)). slice_get names at ≡ Some each) (sym longer)
          (keeps_append (procedure_names before.known.procedures) (name ∷ []) at each is)));
      named = subst (λ (names : List (List ℕ)). slice_get names number ≡ Some name) (sym same) named;
      body = out.0;
      around = out.1;
    }

-- a simple DO is not at the level of the module
inner_is_inside : (block : Block) → is_module_level (inner_block block) ≡ false
inner_is_inside block = by (is_module block.owner)
  where
    by : (is : Bool) → (is && false) ≡ false
    by true = refl
    by false = refl

labels_around : (labels : List Identifier) (here : Here)
    → Gives (λ (after : Here). after.outer_bodies ≡ here.outer_bodies) (declare_labels labels here)
labels_around [] here = gives_ok refl
labels_around (label ∷ others) here =
    gives_after (require (not (is_label_again here label.name)) DeclaredTwice (place_of label)) λ once.
    labels_around others (with_label label.name here)

pub list_stays : (trees : StatementTrees) (typed_from : ℕ → Progress → Checked (TypedStatements × Progress))
    (progress : Progress)
    → ((label : ℕ) (inside : Progress) → StaysBy inside (typed_from label inside))
    → StaysBy progress (list_of trees typed_from progress)
list_stays trees typed_from progress each =
    let first : Here = into_list (labels_of trees) progress.known.here in
    in_turn (each progress.known.here.labels (with_here first progress)) λ done stays.
    gives_ok (stays_to (out_of_list done.1.known.here) refl (stays_from first refl stays))

mutual
  kind_stays : (block : Block) (tree : StatementKindTree) (progress : Progress)
      → StaysBy progress (kind block tree progress)
  kind_stays block (trees.NullStatement place) progress = gives_ok (stays_nowhere progress)
  kind_stays block (trees.AssignmentStatement targets source) progress =
      assignment_stays targets source progress
  kind_stays block (trees.CallStatement place name values) progress =
      call_stays name (record { trees = values; typed = arguments progress.known values }) progress
  kind_stays block (trees.ReturnStatement place result) progress =
      return_stays place block.owner result progress
  kind_stays block (trees.HaltStatement place) progress = gives_ok (stays_nowhere progress)
  kind_stays block (trees.GotoStatement place label) progress = goto_stays label progress
  kind_stays block (trees.IfStatement place condition body otherwise) progress =
      in_turn (value_stays condition progress) λ tested one.
      in_turn (alone_stays block body tested.1) λ chosen two.
      in_turn (else_stays block otherwise chosen.1) λ other three.
      gives_ok (stays_then one (stays_then two three))
  kind_stays block (trees.DoStatement place declared body) progress =
      in_turn (declarations_stay (inner_block block) declared (entered progress) (inner_is_inside block))
      λ opened one.
      in_turn
      (list_stays body (λ label. statements (inner_block block) body label) opened
      (λ label inside. statements_stay (inner_block block) body label inside)) λ done two.
      let all : Stays (entered progress) done.1 = stays_then one two in
      gives_ok (record {
        globals = all.globals;
        objects = all.objects;
        procedures = all.procedures;
        around = all.around;
      })
  kind_stays block (trees.LoopStatement place head body) progress =
      in_turn (head_stays head progress) λ headed one.
      in_turn
      (list_stays body (λ label. statements block body label) headed.1
      (λ label inside. statements_stay block body label inside)) λ done two.
      gives_ok (stays_then one two)
  kind_stays block (trees.CaseStatement place choice body) progress =
      in_turn (value_stays choice progress) λ chosen one.
      in_turn (cases_stay block body chosen.1) λ done two.
      gives_ok (stays_then one two)

  labelled_stays : (block : Block) (tree : StatementTree) (progress : Progress)
      → StaysBy progress (labelled block tree progress)
  labelled_stays block (trees.LabelledStatement labels done) progress = kind_stays block done progress

  alone_stays : (block : Block) (tree : StatementTree) (progress : Progress)
      → StaysBy progress (alone block tree progress)
  alone_stays block (trees.LabelledStatement labels done) progress =
      gives_after (without_label labels) λ _. kind_stays block done progress

  else_stays : (block : Block) (tree : ElseTree) (progress : Progress)
      → StaysBy progress (else_part block tree progress)
  else_stays block trees.NoElse progress = gives_ok (stays_nowhere progress)
  else_stays block (trees.ElseStatement body) progress =
      in_turn (alone_stays block body progress) λ done one. gives_ok one

  cases_stay : (block : Block) (trees : StatementTrees) (progress : Progress)
      → StaysBy progress (cases block trees progress)
  cases_stay block trees.NoStatements progress = gives_ok (stays_nowhere progress)
  cases_stay block (trees.MoreStatements first others) progress =
      in_turn (alone_stays block first progress) λ done one.
      in_turn (cases_stay block others done.1) λ rest two.
      gives_ok (stays_then one two)

  pub statements_stay : (block : Block) (trees : StatementTrees) (label : ℕ) (progress : Progress)
      → StaysBy progress (statements block trees label progress)
  statements_stay block trees.NoStatements label progress = gives_ok (stays_nowhere progress)
  statements_stay block (trees.MoreStatements first others) label progress =
      in_turn (labels_around (labels_before first) progress.known.here) λ here around.
      in_turn (labelled_stays block first (with_here here progress)) λ done one.
      in_turn (statements_stay block others (label + length (labels_before first)) done.1) λ rest two.
      gives_ok (stays_then (stays_from here around one) two)

  pub declaration_goes : (block : Block) (tree : DeclarationTree) (progress : Progress)
      → Gives (GoesBy block tree progress) (declaration block tree progress)
  declaration_goes block (DeclareTree elements) progress = elements_go block elements progress
  declaration_goes block (ProcedureTree heading declared body end_name) progress =
      in_turn
      (both_give (opens_procedure block heading declared progress) (headed block heading declared progress))
      λ opened heads.
      in_turn (declarations_stay (own_block heading progress) declared opened refl) λ within one.
      gives_after (parameter_objects within.known.here heading.parameters) λ parameters.
      gives_after (check_body heading body) λ _.
      in_turn
      (list_stays body (λ label. statements (own_block heading progress) body label) within
      (λ label inside. statements_stay (own_block heading progress) body label inside)) λ done two.
      gives_ok
      (closed block heading declared parameters done.0 progress opened done.1 heads.0 heads.1
      (stays_then one two))

  declarations_stay : (block : Block) (trees : DeclarationTrees) (progress : Progress)
      → is_module_level block ≡ false
      → Gives (λ after. Stays progress after) (declarations block trees progress)
  declarations_stay block NoDeclarations progress inside = gives_ok (stays_nowhere progress)
  declarations_stay block (MoreDeclarations first others) progress inside =
      in_turn (declaration_goes block first progress) λ between one.
      then_more (declarations_stay block others between inside) λ after two.
      stays_then (stays_by block first progress between inside one) two
