-- The parameters of every typed module fit: along the typing of a text.
use Rattle.typing.proofs.Prelude.{◌≡◌, ℕ, ◌+◌, ◌<◌, true, false, List, [], ◌∷◌, length, Option, Some, None, Ok, refl, ap, sym, subst, ◌∙◌, append-nil, All, not, enumerate_from, option_or, All-from_recursion, ScalarType, Identifier, Place, DeclarationTree, DeclarationTrees, DeclareTree, ElseTree, ExpressionTree, LoopHeadTree, ModuleTree, MoreDeclarations, NoDeclarations, ProcedureTree, ReferenceTree, StatementKindTree, StatementTree, StatementTrees, Here, Names, into_list, is_label_again, out_of_list, with_label, jump_of, labels_of, HasParameters, ParametersFit, TypedList, TypedModule, TypedObject, TypedProcedure, TypedStatements, DeclaredTwice, Block, OfProcedure, Owner, Progress, TheModule, Checked, require, arguments, expression, check_body, own_block, scalar_in_block, scalar_in_declaration, Given, Known, bound, place_of, assignment, call, call_bound, declare_labels, destinations, goto, goto_bound, labels_before, list_of, loop_head, return_from, return_with, value, with_constants, with_here, without_label, alone, at_the_beginning, cases, declaration, declarations, else_part, entered, inner_block, kind, labelled, left, module_block, module_with, statements, typing_of}
use Rattle.trees.specs.Trees as trees
use Rattle.typing.proofs.Kept.{Gives, gives_after, gives_fault, gives_ok, in_turn, then_more}
use Rattle.typing.proofs.Heads.{head_follows}
use Rattle.typing.proofs.Parameters.Closing.{closed_goes, nothing, own_begins, own_stands}
use Rattle.typing.proofs.Parameters.Elements.{GoesOn, both_more, declare_elements-go, goes_then, may_below, owned_as}
use Rattle.typing.proofs.Parameters.Grown.{Grown, NoMore, Numbered, Standing, grown_between, grown_more, grown_same, grown_then, standing_after}
use Rattle.typing.proofs.Parameters.ParameterItems.{Owned, owned_by}
use Rattle.typing.proofs.Parameters.Opening.{opens_procedure}
use Rattle.typing.proofs.Parameters.OwnBlock.{Scan}
use Rattle.typing.proofs.Parameters.Parameters.{objects_are}
use Rattle.typing.proofs.Options.{nothing_more}

-- parts that change constants alone
abbrev pub Same : Progress → Progress → Type 0
Same before after = after.known ≡ before.known

grown_known : {may : ℕ → Type 0} (before after : Progress) → Same before after → Grown may before after
grown_known before after same =
    grown_same before after (ap (λ (known : Known). known.objects) same)
    (ap (λ (known : Known). known.procedures) same) (ap (λ (known : Known). known.here.outer_bodies) same)
    (ap (λ (known : Known). known.here.objects) same)

none_below : (progress : Progress) (number : ℕ) → NoMore number → number < length progress.known.procedures
none_below progress number none = absurd none

pub value_same : (tree : ExpressionTree) (progress : Progress)
    → Gives (λ found. Same progress found.1) (value tree progress)
value_same tree progress =
    gives_after (expression progress.known tree progress.constants) λ typed. gives_ok refl

pub assignment_same : (targets : List ReferenceTree) (source : ExpressionTree) (progress : Progress)
    → Gives (λ found. Same progress found.1) (assignment targets source progress)
assignment_same targets source progress =
    gives_after (destinations progress.known targets progress.constants) λ places.
    in_turn (value_same source (with_constants places.1 progress)) λ found same.
    gives_ok same

pub call_same : (name : Identifier) (given : Given) (progress : Progress)
    → Gives (λ found. Same progress found.1) (call name given progress)
call_same name given progress =
    gives_after (bound progress.known name) λ binding.
    gives_after (call_bound progress.known binding name given progress.constants) λ typed.
    gives_ok refl

return_with_same : (place : Place) (result : Option ScalarType) (tree : Option ExpressionTree)
    (progress : Progress)
    → Gives (λ found. Same progress found.1) (return_with place result tree progress)
return_with_same place None None progress = gives_ok refl
return_with_same place (Some scalar) (Some tree) progress =
    in_turn (value_same tree progress) λ found same. gives_ok same
return_with_same place (Some scalar) None progress = gives_fault
return_with_same place None (Some tree) progress = gives_fault

pub return_same : (place : Place) (owner : Owner) (tree : Option ExpressionTree) (progress : Progress)
    → Gives (λ found. Same progress found.1) (return_from place owner tree progress)
return_same place TheModule tree progress = gives_fault
return_same place (OfProcedure number heading) tree progress =
    return_with_same place heading.result tree progress

pub goto_same : (label : Identifier) (progress : Progress)
    → Gives (λ found. Same progress found.1) (goto label progress)
goto_same label progress =
    gives_after (goto_bound (place_of label) (jump_of progress.known.here label.name)) λ typed. gives_ok refl

pub head_same : (head : LoopHeadTree) (progress : Progress)
    → Gives (λ found. Same progress found.1) (loop_head head progress)
head_same head progress =
    head_follows Same (λ progress. refl) (λ before between after one other. other ∙ one) value_same
    head progress

-- what a statement gives
abbrev Grows : {A : Type 0} → Progress → Checked (A × Progress) → Type 0
Grows progress result = Gives (λ found. Grown NoMore progress found.1) result

from_same : {A : Type 0} {progress : Progress} {result : Checked (A × Progress)}
    → Gives (λ found. Same progress found.1) result
    → Grows progress result
from_same {A} {progress} {result} is = then_more is (λ found same. grown_known progress found.1 same)

after_none : {before after : Progress} (owner : Owner) → Standing owner before → Grown NoMore before after
    → Standing owner after
after_none {before} {after} owner stands grown = standing_after (none_below before) stands grown

labels_same : (labels : List Identifier) (here : Here)
    → Gives (λ (after : Here). (after.outer_bodies ≡ here.outer_bodies) × (after.objects ≡ here.objects))
    (declare_labels labels here)
labels_same [] here = gives_ok (refl, refl)
labels_same (label ∷ others) here =
    gives_after (require (not (is_label_again here label.name)) DeclaredTwice (place_of label)) λ once.
    labels_same others (with_label label.name here)

-- a block that is no procedure's own has nothing to keep
none_owned : (owner : Owner) (scan : Scan) (objects : List TypedObject) (names : Names)
    → owned_by owner false scan objects names
none_owned TheModule scan objects names = tt
none_owned (OfProcedure number heading) scan objects names = tt

entered_stands : (owner : Owner) (progress : Progress) → Standing owner progress
    → Standing owner (entered progress)
entered_stands owner progress stands = record { count = stands.count; below = stands.below; own = stands.own }

here_stands : (owner : Owner) (here : Here) (progress : Progress) → here.objects ≡ progress.known.here.objects
    → Standing owner progress → Standing owner (with_here here progress)
here_stands owner here progress same stands =
    record { count = same ∙ stands.count; below = stands.below; own = stands.own }

list_grows : (owner : Owner) (trees : StatementTrees)
    (typed_from : ℕ → Progress → Checked (TypedStatements × Progress)) (progress : Progress)
    → Standing owner progress
    → ((label : ℕ) (inside : Progress) → Standing owner inside → Grows inside (typed_from label inside))
    → Grows progress (list_of trees typed_from progress)
list_grows owner trees typed_from progress stands each =
    let inside : Progress = with_here (into_list (labels_of trees) progress.known.here) progress in
    in_turn
    (each progress.known.here.labels inside
    (here_stands owner (into_list (labels_of trees) progress.known.here) progress refl stands)) λ done grown.
    gives_ok
    (grown_between progress (with_here (out_of_list done.1.known.here) done.1) refl refl refl
    refl refl refl refl refl
    (none_below inside) grown)

mutual
  kind_grows : (block : Block) (tree : StatementKindTree) (progress : Progress)
      → Standing block.owner progress → Grows progress (kind block tree progress)
  kind_grows block (trees.NullStatement place) progress stands = gives_ok (grown_known progress progress refl)
  kind_grows block (trees.AssignmentStatement targets source) progress stands =
      from_same (assignment_same targets source progress)
  kind_grows block (trees.CallStatement place name values) progress stands =
      from_same (call_same name (record { trees = values; typed = arguments progress.known values }) progress)
  kind_grows block (trees.ReturnStatement place result) progress stands =
      from_same (return_same place block.owner result progress)
  kind_grows block (trees.HaltStatement place) progress stands = gives_ok (grown_known progress progress refl)
  kind_grows block (trees.GotoStatement place label) progress stands = from_same (goto_same label progress)
  kind_grows block (trees.IfStatement place condition body otherwise) progress stands =
      in_turn (from_same (value_same condition progress)) λ tested one.
      in_turn (alone_grows block body tested.1 (after_none block.owner stands one)) λ chosen two.
      in_turn (else_grows block otherwise chosen.1
      (after_none block.owner (after_none block.owner stands one) two)) λ other three.
      gives_ok (grown_then (none_below progress) one (grown_then (none_below tested.1) two three))
  kind_grows block (trees.DoStatement place declared body) progress stands =
      in_turn
      (declarations_grow (inner_block block) declared (entered progress) nothing
      (entered_stands block.owner progress stands)
      (none_owned block.owner nothing progress.known.objects (entered progress).known.here.body.block))
      λ opened one.
      let first : Grown NoMore (entered progress) opened =
      grown_more (λ number may. absurd (let bad : false ≡ true = may.0 in cc)) one.0 in
      in_turn
      (list_grows block.owner body (λ label. statements (inner_block block) body label) opened
      (after_none block.owner (entered_stands block.owner progress stands) first)
      (λ label inside s. statements_grow (inner_block block) body label inside s)) λ done two.
      gives_ok
      (grown_between progress (left done.1) refl refl refl refl refl refl refl refl
      (none_below (entered progress))
      (grown_then (none_below (entered progress)) first two))
  kind_grows block (trees.LoopStatement place head body) progress stands =
      in_turn (from_same (head_same head progress)) λ headed one.
      in_turn
      (list_grows block.owner body (λ label. statements block body label) headed.1
      (after_none block.owner stands one)
      (λ label inside s. statements_grow block body label inside s)) λ done two.
      gives_ok (grown_then (none_below progress) one two)
  kind_grows block (trees.CaseStatement place choice body) progress stands =
      in_turn (from_same (value_same choice progress)) λ chosen one.
      in_turn (cases_grow block body chosen.1 (after_none block.owner stands one)) λ done two.
      gives_ok (grown_then (none_below progress) one two)

  labelled_grows : (block : Block) (tree : StatementTree) (progress : Progress)
      → Standing block.owner progress → Grows progress (labelled block tree progress)
  labelled_grows block (trees.LabelledStatement labels done) progress stands =
      kind_grows block done progress stands

  alone_grows : (block : Block) (tree : StatementTree) (progress : Progress)
      → Standing block.owner progress → Grows progress (alone block tree progress)
  alone_grows block (trees.LabelledStatement labels done) progress stands =
      gives_after (without_label labels) λ _. kind_grows block done progress stands

  else_grows : (block : Block) (tree : ElseTree) (progress : Progress)
      → Standing block.owner progress → Grows progress (else_part block tree progress)
  else_grows block trees.NoElse progress stands = gives_ok (grown_known progress progress refl)
  else_grows block (trees.ElseStatement body) progress stands =
      in_turn (alone_grows block body progress stands) λ done one. gives_ok one

  cases_grow : (block : Block) (trees : StatementTrees) (progress : Progress)
      → Standing block.owner progress → Grows progress (cases block trees progress)
  cases_grow block trees.NoStatements progress stands = gives_ok (grown_known progress progress refl)
  cases_grow block (trees.MoreStatements first others) progress stands =
      in_turn (alone_grows block first progress stands) λ done one.
      in_turn (cases_grow block others done.1 (after_none block.owner stands one)) λ rest two.
      gives_ok (grown_then (none_below progress) one two)

  statements_grow : (block : Block) (trees : StatementTrees) (label : ℕ) (progress : Progress)
      → Standing block.owner progress → Grows progress (statements block trees label progress)
  statements_grow block trees.NoStatements label progress stands =
      gives_ok (grown_known progress progress refl)
  statements_grow block (trees.MoreStatements first others) label progress stands =
      in_turn (labels_same (labels_before first) progress.known.here) λ here same.
      let there : Standing block.owner (with_here here progress) =
      here_stands block.owner here progress same.1 stands in
      in_turn (labelled_grows block first (with_here here progress) there) λ done one.
      in_turn (statements_grow block others (label + length (labels_before first)) done.1
      (after_none block.owner there one)) λ rest two.
      gives_ok
      (grown_then (none_below progress) (grown_same progress (with_here here progress)
      refl refl same.0 same.1)
      (grown_then (none_below (with_here here progress)) one two))

  declaration_grows : (block : Block) (tree : DeclarationTree) (progress : Progress) (scan : Scan)
      → Standing block.owner progress
      → Owned block scan progress.known.objects progress.known.here.body.block
      → Gives (GoesOn block progress (λ name. option_or (scan name) (scalar_in_declaration tree name)))
      (declaration block tree progress)
  declaration_grows block (DeclareTree elements) progress scan stands owned =
      declare_elements-go block elements progress scan stands owned
  declaration_grows block (ProcedureTree heading declared body end_name) progress scan stands owned =
      let own : Block = own_block heading progress in
      in_turn (opens_procedure block heading declared progress) λ opened heads.
      let at : Standing own.owner opened = own_stands heading declared block progress opened stands heads in
      in_turn
      (declarations_grow own declared opened nothing at
      (own_begins heading declared block progress opened stands heads)) λ within goes.
      in_turn (objects_are within.known.here heading.parameters) λ places named.
      gives_after (check_body heading body) λ _.
      in_turn
      (list_grows own.owner body (λ label. statements own body label) within
      (standing_after (may_below own opened at) at goes.0)
      (λ label inside s. statements_grow own body label inside s)) λ done grown.
      gives_ok
      (owned_as block scan (λ name. option_or (scan name) None) progress _ (λ name. nothing_more (scan name))
      (closed_goes block heading declared scan progress opened within done.1 places done.0 stands
      owned heads goes named
      grown))

  declarations_grow : (block : Block) (trees : DeclarationTrees) (progress : Progress) (scan : Scan)
      → Standing block.owner progress
      → Owned block scan progress.known.objects progress.known.here.body.block
      → Gives (GoesOn block progress (λ name. option_or (scan name) (scalar_in_block trees name)))
      (declarations block trees progress)
  declarations_grow block NoDeclarations progress scan stands owned =
      gives_ok
      (owned_as block scan (λ name. option_or (scan name) None) progress progress
      (λ name. nothing_more (scan name))
      (grown_known progress progress refl, owned))
  declarations_grow block (MoreDeclarations first others) progress scan stands owned =
      in_turn (declaration_grows block first progress scan stands owned) λ between one.
      then_more
      (declarations_grow block others between
      (λ name. option_or (scan name) (scalar_in_declaration first name))
      (standing_after (may_below block progress stands) stands one.0) one.1) λ after two.
      owned_as block
      (λ name. option_or (option_or (scan name) (scalar_in_declaration first name))
      (scalar_in_block others name))
      (λ name. option_or (scan name) (option_or (scalar_in_declaration first name)
      (scalar_in_block others name)))
      progress after
      (λ name. both_more (scan name) (scalar_in_declaration first name) (scalar_in_block others name))
      (goes_then block progress between after
      (λ name. option_or (scan name) (scalar_in_declaration first name))
      (λ name. option_or (option_or (scan name) (scalar_in_declaration first name))
      (scalar_in_block others name))
      stands one two)

-- at the end of a text
module_fits : (name : List ℕ) (body : TypedList) (progress : Progress)
    → Grown NoMore at_the_beginning progress
    → ParametersFit (module_with name body progress)
module_fits name body progress grown =
    let tables : TypedModule = module_with name body progress in
    record {
      procedures = subst
          (λ (procedures : List TypedProcedure).
          All (λ (numbered : ℕ × TypedProcedure). HasParameters tables numbered.0 numbered.1)
          (enumerate_from 0 procedures))
          (sym grown.adds)
          (All-from_recursion (Numbered tables) (enumerate_from 0 grown.procedures)
          (grown.fit tables [] (sym (append-nil progress.known.objects)) tt));
      main = (refl, refl);
    }

fits : (tree : ModuleTree) → Gives ParametersFit (typing_of tree)
unfolding typing_of
fits tree =
    let at_start : Standing TheModule at_the_beginning = record { count = refl; below = tt; own = tt } in
    in_turn (declarations_grow module_block tree.declarations at_the_beginning nothing at_start tt)
    λ declared one.
    let first : Grown NoMore at_the_beginning declared = grown_more (λ number may. may.1) one.0 in
    in_turn
    (list_grows TheModule tree.statements (λ label. statements module_block tree.statements label) declared
    (after_none TheModule at_start first)
    (λ label inside s. statements_grow module_block tree.statements label inside s)) λ done two.
    gives_ok (module_fits tree.name.name done.0 done.1 (grown_then (none_below at_the_beginning) first two))

-- Each procedure of a typed module has its parameters.
pub parameters_fit : (tree : ModuleTree) (found : TypedModule) → typing_of tree ≡ Ok found
    → ParametersFit found
parameters_fit tree found is = (fits tree).holds found is
