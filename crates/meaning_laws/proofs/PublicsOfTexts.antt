-- In each part of a text the PUBLIC objects that are declared so far have a place, and INITIAL and DATA
-- locate objects that have one or are of another module.
use Rattle.meaning_laws.proofs.Prelude.{ℕ, ◌+◌, List, [], ◌∷◌, ◌++◌, length, nat_le, subst, sym, All, not, All-append, All-cons, All-nil, All-weaker, Identifier, DeclarationTree, DeclarationTrees, DeclareTree, ElementTree, ElseTree, ItemElement, ItemTree, LiterallyElement, ModuleTree, MoreDeclarations, NoDeclarations, ProcedureTree, StatementKindTree, StatementTree, StatementTrees, is_declared_again, into_list, labels_of, declared_by, FRAME_LIMIT, OBJECT_LIMIT, TypedObject, TypedStatements, DeclaredTwice, ExternalContents, TooLarge, Block, Progress, is_external, Checked, require, TypedItem, declare_element, declare_elements, declare_item, declare_names, place_of_item, object_named, size_of_item, typed_item, with_objects, with_typed_object, arguments, check_body, own_block, parameter_objects, Known, place_of_word, declare_labels, labels_before, list_of, with_here, without_label, alone, at_the_beginning, cases, declaration, declarations, else_part, inner_block, kind, labelled, module_block, statements, typing_of, values_in, Gives, gives_after, gives_ok, in_turn, then_more, keeps_append, opens_procedure, Same, assignment_same, call_same, goto_same, head_same, return_same, value_same, ArePlaceable, IsPlaceable, LiesIfPublic, LocatesObjects}
use Rattle.trees.specs.Trees as trees
use Rattle.typing.specs.Modules.{entered}
use Rattle.typing.proofs.Tables.{Keeps}
use Rattle.meaning_laws.proofs.PublicItems.{ItemLies, typed_item_lies}
use Rattle.meaning_laws.proofs.Locations.{ItemLocates, typed_item_locates, values_later}

-- the objects at a place of a text
abbrev Lie : Progress → Type 0
Lie progress = ArePlaceable progress.known.objects

-- none
none_lie : ArePlaceable []
none_lie = record { publics = All-nil LiesIfPublic; locations = All-nil (LocatesObjects []) }

-- one more
one_more : (objects : List TypedObject) (object : TypedObject) → ArePlaceable objects → LiesIfPublic object
    → LocatesObjects objects object
    → ArePlaceable (objects ++ object ∷ [])
one_more objects object lie lies locates =
    let after : List TypedObject = objects ++ object ∷ [] in
    let keeps : Keeps objects after = keeps_append objects (object ∷ []) in
    let old : All (LocatesObjects after) objects =
    All-weaker (LocatesObjects objects) (LocatesObjects after)
    (λ each. values_later objects after keeps (values_in each.home)) objects lie.locations in
    let new : LocatesObjects after object =
    values_later objects after keeps (values_in object.home) locates in
    record {
      publics = All-append LiesIfPublic objects (object ∷ []) lie.publics
          (All-cons LiesIfPublic object [] lies (All-nil LiesIfPublic));
      locations = All-append (LocatesObjects after) objects (object ∷ []) old
          (All-cons (LocatesObjects after) object [] new (All-nil (LocatesObjects after)));
    }

-- those of an item
objects_lie : (block : Block) (item : TypedItem) (names : List Identifier) (progress : Progress)
    → ItemLies item → ItemLocates progress.known.objects item → Lie progress
    → Gives Lie (with_objects block item names progress)
objects_lie block item [] progress lies locates lie = gives_ok lie
objects_lie block item (name ∷ others) progress lies locates lie =
    let objects : List TypedObject = progress.known.objects in
    let object : TypedObject = object_named block item name.name in
    let after : Progress = with_typed_object item.linkage object progress in
    gives_after (require (nat_le after.frame FRAME_LIMIT) TooLarge (place_of_word name)) λ small.
    objects_lie block item others after lies
    (values_later objects (objects ++ object ∷ []) (keeps_append objects (object ∷ []))
    (values_in item.home) locates)
    (one_more objects object lie lies locates)

-- an item, with both
both_give : (known : Known) (block : Block) (item : ItemTree)
    → Gives (λ (typed : TypedItem). ItemLies typed × ItemLocates known.objects typed)
    (typed_item known block item)
both_give known block item = record {
  holds = λ typed is.
      ((typed_item_lies known block item).holds typed is, (typed_item_locates known block item).holds typed is);
}

-- what DECLARE declares
item_lies : (block : Block) (item : ItemTree) (progress : Progress) → Lie progress
    → Gives Lie (declare_item block item progress)
item_lies block item progress lie =
    gives_after (declare_names block (declared_by item.subject) progress.known.here) λ here.
    in_turn (both_give progress.known block item) λ typed both.
    gives_after (require (nat_le (size_of_item typed) OBJECT_LIMIT) TooLarge (place_of_item item)) λ small.
    in_turn (objects_lie block typed (declared_by item.subject) progress both.0 both.1 lie) λ after all.
    gives_ok all

element_lies : (block : Block) (element : ElementTree) (progress : Progress) → Lie progress
    → Gives Lie (declare_element block element progress)
element_lies block (LiterallyElement name text) progress lie =
    gives_after
    (require (not (is_declared_again progress.known.here name.name)) DeclaredTwice (place_of_word name))
    λ once.
    gives_after (require (not (is_external block.owner)) ExternalContents (place_of_word name)) λ placed.
    gives_ok lie
element_lies block (ItemElement item) progress lie = item_lies block item progress lie

elements_lie : (block : Block) (elements : List ElementTree) (progress : Progress) → Lie progress
    → Gives Lie (declare_elements block elements progress)
elements_lie block [] progress lie = gives_ok lie
elements_lie block (element ∷ others) progress lie =
    in_turn (element_lies block element progress lie) λ between one.
    elements_lie block others between one

-- what a statement gives
abbrev LeavesLying : {A : Type 0} → Checked (A × Progress) → Type 0
LeavesLying {A} result = Gives (λ (found : A × Progress). Lie found.1) result

from_same : {A : Type 0} (progress : Progress) {result : Checked (A × Progress)}
    → Lie progress → Gives (λ (found : A × Progress). Same progress found.1) result
    → LeavesLying result
from_same {A} progress {result} lie is =
    then_more is (λ found same. subst (λ (known : Known). ArePlaceable known.objects) (sym same) lie)

list_lies : (trees : StatementTrees) (typed_from : ℕ → Progress → Checked (TypedStatements × Progress))
    (progress : Progress)
    → Lie progress
    → ((label : ℕ) (inside : Progress) → Lie inside → LeavesLying (typed_from label inside))
    → LeavesLying (list_of trees typed_from progress)
list_lies trees typed_from progress lie each =
    in_turn
    (each progress.known.here.labels (with_here (into_list (labels_of trees) progress.known.here) progress)
    lie)
    λ done all.
    gives_ok all

mutual
  kind_lies : (block : Block) (tree : StatementKindTree) (progress : Progress) → Lie progress
      → LeavesLying (kind block tree progress)
  kind_lies block (trees.NullStatement place) progress lie = gives_ok lie
  kind_lies block (trees.AssignmentStatement targets source) progress lie =
      from_same progress lie (assignment_same targets source progress)
  kind_lies block (trees.CallStatement place name values) progress lie =
      from_same progress lie
      (call_same name (record { trees = values; typed = arguments progress.known values }) progress)
  kind_lies block (trees.ReturnStatement place result) progress lie =
      from_same progress lie (return_same place block.owner result progress)
  kind_lies block (trees.HaltStatement place) progress lie = gives_ok lie
  kind_lies block (trees.GotoStatement place label) progress lie =
      from_same progress lie (goto_same label progress)
  kind_lies block (trees.IfStatement place condition body otherwise) progress lie =
      in_turn (from_same progress lie (value_same condition progress)) λ tested one.
      in_turn (alone_lies block body tested.1 one) λ chosen two.
      in_turn (else_lies block otherwise chosen.1 two) λ other three.
      gives_ok three
  kind_lies block (trees.DoStatement place declared body) progress lie =
      in_turn (declarations_lie (inner_block block) declared (entered progress) lie) λ opened one.
      in_turn
      (list_lies body (λ label. statements (inner_block block) body label) opened one
      (λ label inside all. statements_lie (inner_block block) body label inside all)) λ done two.
      gives_ok two
  kind_lies block (trees.LoopStatement place head body) progress lie =
      in_turn (from_same progress lie (head_same head progress)) λ headed one.
      in_turn
      (list_lies body (λ label. statements block body label) headed.1 one
      (λ label inside all. statements_lie block body label inside all)) λ done two.
      gives_ok two
  kind_lies block (trees.CaseStatement place choice body) progress lie =
      in_turn (from_same progress lie (value_same choice progress)) λ chosen one.
      in_turn (cases_lie block body chosen.1 one) λ done two.
      gives_ok two

  labelled_lies : (block : Block) (tree : StatementTree) (progress : Progress) → Lie progress
      → LeavesLying (labelled block tree progress)
  labelled_lies block (trees.LabelledStatement labels done) progress lie = kind_lies block done progress lie

  alone_lies : (block : Block) (tree : StatementTree) (progress : Progress) → Lie progress
      → LeavesLying (alone block tree progress)
  alone_lies block (trees.LabelledStatement labels done) progress lie =
      gives_after (without_label labels) λ _. kind_lies block done progress lie

  else_lies : (block : Block) (tree : ElseTree) (progress : Progress) → Lie progress
      → LeavesLying (else_part block tree progress)
  else_lies block trees.NoElse progress lie = gives_ok lie
  else_lies block (trees.ElseStatement body) progress lie =
      in_turn (alone_lies block body progress lie) λ done one. gives_ok one

  cases_lie : (block : Block) (trees : StatementTrees) (progress : Progress) → Lie progress
      → LeavesLying (cases block trees progress)
  cases_lie block trees.NoStatements progress lie = gives_ok lie
  cases_lie block (trees.MoreStatements first others) progress lie =
      in_turn (alone_lies block first progress lie) λ done one.
      in_turn (cases_lie block others done.1 one) λ rest two.
      gives_ok two

  statements_lie : (block : Block) (trees : StatementTrees) (label : ℕ) (progress : Progress) → Lie progress
      → LeavesLying (statements block trees label progress)
  statements_lie block trees.NoStatements label progress lie = gives_ok lie
  statements_lie block (trees.MoreStatements first others) label progress lie =
      gives_after (declare_labels (labels_before first) progress.known.here) λ here.
      in_turn (labelled_lies block first (with_here here progress) lie) λ done one.
      in_turn (statements_lie block others (label + length (labels_before first)) done.1 one) λ rest two.
      gives_ok two

  declaration_lies : (block : Block) (tree : DeclarationTree) (progress : Progress) → Lie progress
      → Gives Lie (declaration block tree progress)
  declaration_lies block (DeclareTree elements) progress lie = elements_lie block elements progress lie
  declaration_lies block (ProcedureTree heading declared body end_name) progress lie =
      in_turn (opens_procedure block heading declared progress) λ opened heads.
      in_turn
      (declarations_lie (own_block heading progress) declared opened
      (subst ArePlaceable (sym heads.objects) lie)) λ within one.
      gives_after (parameter_objects within.known.here heading.parameters) λ parameters.
      gives_after (check_body heading body) λ _.
      in_turn
      (list_lies body (λ label. statements (own_block heading progress) body label) within one
      (λ label inside all. statements_lie (own_block heading progress) body label inside all)) λ done two.
      gives_ok two

  declarations_lie : (block : Block) (trees : DeclarationTrees) (progress : Progress) → Lie progress
      → Gives Lie (declarations block trees progress)
  declarations_lie block NoDeclarations progress lie = gives_ok lie
  declarations_lie block (MoreDeclarations first others) progress lie =
      in_turn (declaration_lies block first progress lie) λ between one.
      declarations_lie block others between one

-- so they have in a whole module
pub typing_is_placeable : (tree : ModuleTree) → Gives IsPlaceable (typing_of tree)
unfolding typing_of
typing_is_placeable tree =
    in_turn (declarations_lie module_block tree.declarations at_the_beginning none_lie) λ declared one.
    in_turn
    (list_lies tree.statements (λ label. statements module_block tree.statements label) declared one
    (λ label inside all. statements_lie module_block tree.statements label inside all)) λ done two.
    gives_ok two
