-- The tables of a typing have what the text of a module declares.
use Rattle.types.proofs.Prelude.{◌≡◌, ℕ, ◌+◌, List, [], ◌++◌, length, Ok, filter_map, refl, sym, ap, ◌∙◌, subst, AllZip, Gives, gives_ok, gives_after, in_turn, then_more, Fits, Holds, Keeps, Same, objects_are, object_names, procedure_names, HeadingTree, ItemTree, ModuleTree, StatementTree, StatementTrees, DeclarationTrees, Here, Checked, Block, Progress, TypedList, TypedModule, TypedProcedure, TypedStatement, TypedStatements, labels_before, list_of, with_here, parameter_objects, alone, at_the_beginning, cases, declarations, labelled, module_block, module_with, statements, typing_of, declare_elements, Declares, Entry, HasHeading, IsDeclared, declared_object, declared_procedure, entries_in, entries_in_declaration, entries_in_else, entries_in_kind, entries_in_statement, entries_in_statements, entries_of, declare_labels-fit}
use Rattle.trees.specs.Trees as trees
use Rattle.trees.specs.Trees.{DeclarationTree, DeclareTree, ElseTree, LabelledStatement, MoreDeclarations, NoDeclarations, ProcedureTree, StatementKindTree}
use Rattle.names.specs.{Environment.{into_block, into_list, out_of_block, out_of_list}, DeclaredNames.{labels_of}}
use Rattle.typed_trees.specs.TypedTrees.{TypedElse, TypedObject}
use Rattle.typing.specs.{Modules.{entered, inner_block}, Procedures.{own_block}, References.{Known}, internal.Expressions.{arguments}, internal.ProcedureChecks.{check_body}, internal.StatementChecks.{without_label}, internal.Typing.{declaration, else_part, kind}}
use Rattle.typing.proofs.DeclarationsBack.{declare_elements-walk, open_procedure-opens}
use Rattle.typing.proofs.Parameters.{Opening.{opens_procedure}, ParametersOfTexts.{assignment_same, call_same, goto_same, head_same, return_same, value_same}}
use Rattle.typing.proofs.Tables.{at_the_start-fits, into_block-fits, into_list-fits, out_of_block-fits, out_of_list-fits}
use Rattle.types.proofs.Declares.Entries.{Adds, adds_from_here, adds_here, adds_none, adds_then, closed_holds, elements_add, procedure_adds}

both : {A : Type 0} {P Q : A → Type 0} {result : Checked A} → Gives P result → Gives Q result
    → Gives (λ (a : A). P a × Q a) result
both one other = record { holds = λ a e. (one.holds a e, other.holds a e) }

-- a place of a text after a part that declares these entries
abbrev Walks : Progress → List Entry → Progress → Type 0
Walks before entries after = Holds after × Adds before after entries

abbrev WalksOn : {A : Type 0} → Progress → List Entry → Checked (A × Progress) → Type 0
WalksOn {A} progress entries result = Gives (λ (found : A × Progress). Walks progress entries found.1) result

from_same : {A : Type 0} {progress : Progress} {result : Checked (A × Progress)}
    → Holds progress
    → Gives (λ (found : A × Progress). Same progress found.1) result
    → WalksOn progress [] result
from_same {A} {progress} {result} holds is =
    then_more is (λ found same. (
      subst
          (λ (known : Known). Fits (object_names known.objects) (procedure_names known.procedures) known.here)
          (sym same) holds,
      adds_none progress found.1 (ap (λ (known : Known). known.objects) same)
          (ap (λ (known : Known). known.procedures) same),
    ))

list_walks : (trees : StatementTrees) (entries : List Entry)
    (typed_from : ℕ → Progress → Checked (TypedStatements × Progress)) (progress : Progress)
    → Holds progress
    → ((label : ℕ) (inside : Progress) → Holds inside → WalksOn inside entries (typed_from label inside))
    → WalksOn progress entries (list_of trees typed_from progress)
list_walks trees entries typed_from progress holds each =
    let first : Here = into_list (labels_of trees) progress.known.here in
    in_turn
    (each progress.known.here.labels (with_here first progress) (into_list-fits (labels_of trees) holds))
    λ done is.
    gives_ok (out_of_list-fits is.0, adds_here first (out_of_list done.1.known.here) is.1)

mutual
  kind_walks : (block : Block) (tree : StatementKindTree) (progress : Progress) → Holds progress
      → WalksOn progress (entries_in_kind tree) (kind block tree progress)
  kind_walks block (trees.NullStatement place) progress holds =
      gives_ok (holds, adds_none progress progress refl refl)
  kind_walks block (trees.AssignmentStatement targets source) progress holds =
      from_same holds (assignment_same targets source progress)
  kind_walks block (trees.CallStatement place name values) progress holds =
      from_same holds
      (call_same name (record { trees = values; typed = arguments progress.known values }) progress)
  kind_walks block (trees.ReturnStatement place result) progress holds =
      from_same holds (return_same place block.owner result progress)
  kind_walks block (trees.HaltStatement place) progress holds =
      gives_ok (holds, adds_none progress progress refl refl)
  kind_walks block (trees.GotoStatement place label) progress holds =
      from_same holds (goto_same label progress)
  kind_walks block (trees.IfStatement place condition body otherwise) progress holds =
      in_turn (from_same holds (value_same condition progress)) λ tested one.
      in_turn (alone_walks block body tested.1 one.0) λ chosen two.
      in_turn (else_walks block otherwise chosen.1 two.0) λ other three.
      gives_ok (three.0, adds_then one.1 (adds_then two.1 three.1))
  kind_walks block (trees.DoStatement place declared body) progress holds =
      in_turn (declarations_walk (inner_block block) declared (entered progress) (into_block-fits holds))
      λ opened one.
      in_turn
      (list_walks body (entries_in_statements body)
      (λ label. statements (inner_block block) body label) opened one.0
      (λ label inside h. statements_walk (inner_block block) body label inside h)) λ done two.
      gives_ok (
        out_of_block-fits two.0,
        adds_here (into_block progress.known.here) (out_of_block done.1.known.here) (adds_then one.1 two.1),
      )
  kind_walks block (trees.LoopStatement place head body) progress holds =
      in_turn (from_same holds (head_same head progress)) λ headed one.
      in_turn
      (list_walks body (entries_in_statements body) (λ label. statements block body label) headed.1 one.0
      (λ label inside h. statements_walk block body label inside h)) λ done two.
      gives_ok (two.0, adds_then one.1 two.1)
  kind_walks block (trees.CaseStatement place choice body) progress holds =
      in_turn (from_same holds (value_same choice progress)) λ chosen one.
      in_turn (cases_walk block body chosen.1 one.0) λ done two.
      gives_ok (two.0, adds_then one.1 two.1)

  labelled_walks : (block : Block) (tree : StatementTree) (progress : Progress) → Holds progress
      → WalksOn progress (entries_in_statement tree) (labelled block tree progress)
  labelled_walks block (LabelledStatement labels done) progress holds = kind_walks block done progress holds

  alone_walks : (block : Block) (tree : StatementTree) (progress : Progress) → Holds progress
      → WalksOn progress (entries_in_statement tree) (alone block tree progress)
  alone_walks block (LabelledStatement labels done) progress holds =
      gives_after (without_label labels) λ none. kind_walks block done progress holds

  else_walks : (block : Block) (tree : ElseTree) (progress : Progress) → Holds progress
      → WalksOn progress (entries_in_else tree) (else_part block tree progress)
  else_walks block trees.NoElse progress holds = gives_ok (holds, adds_none progress progress refl refl)
  else_walks block (trees.ElseStatement body) progress holds =
      in_turn (alone_walks block body progress holds) λ done one. gives_ok one

  cases_walk : (block : Block) (trees : StatementTrees) (progress : Progress) → Holds progress
      → WalksOn progress (entries_in_statements trees) (cases block trees progress)
  cases_walk block trees.NoStatements progress holds = gives_ok (holds, adds_none progress progress refl refl)
  cases_walk block (trees.MoreStatements first others) progress holds =
      in_turn (alone_walks block first progress holds) λ done one.
      in_turn (cases_walk block others done.1 one.0) λ rest two.
      gives_ok (two.0, adds_then one.1 two.1)

  statements_walk : (block : Block) (trees : StatementTrees) (label : ℕ) (progress : Progress)
      → Holds progress
      → WalksOn progress (entries_in_statements trees) (statements block trees label progress)
  statements_walk block trees.NoStatements label progress holds =
      gives_ok (holds, adds_none progress progress refl refl)
  statements_walk block (trees.MoreStatements first others) label progress holds =
      in_turn (declare_labels-fit _ _ (labels_before first) progress.known.here holds) λ here fits.
      in_turn (labelled_walks block first (with_here here progress) fits) λ done one.
      in_turn (statements_walk block others (label + length (labels_before first)) done.1 one.0) λ rest two.
      gives_ok (two.0, adds_then (adds_from_here here one.1) two.1)

  declaration_walks : (block : Block) (tree : DeclarationTree) (progress : Progress) → Holds progress
      → Gives (λ after. Walks progress (entries_in_declaration tree) after) (declaration block tree progress)
  declaration_walks block (DeclareTree elements) progress holds =
      then_more
      (both (declare_elements-walk block elements progress holds) (elements_add block elements progress))
      λ after is.
      (is.0.holds, is.1)
  declaration_walks block (ProcedureTree heading declared body end_name) progress holds =
      let own : Block = own_block heading progress in
      in_turn
      (both (open_procedure-opens block heading declared progress holds)
      (opens_procedure block heading declared progress))
      λ opened heads.
      in_turn (declarations_walk own declared opened heads.0.holds) λ within one.
      in_turn (objects_are within.known.here heading.parameters) λ places named.
      gives_after (check_body heading body) λ placed.
      in_turn
      (list_walks body (entries_in_statements body) (λ label. statements own body label) within one.0
      (λ label inside h. statements_walk own body label inside h)) λ done two.
      gives_ok (
        closed_holds heading declared places done.0 progress opened done.1 heads.1
            (adds_then one.1 two.1) two.0,
        procedure_adds heading declared places done.0 progress opened within done.1 (entries_in declared)
            (entries_in_statements body) heads.1 one.1 two.1 one.0 named,
      )

  declarations_walk : (block : Block) (trees : DeclarationTrees) (progress : Progress) → Holds progress
      → Gives (λ after. Walks progress (entries_in trees) after) (declarations block trees progress)
  declarations_walk block NoDeclarations progress holds =
      gives_ok (holds, adds_none progress progress refl refl)
  declarations_walk block (MoreDeclarations first others) progress holds =
      in_turn (declaration_walks block first progress holds) λ between one.
      then_more (declarations_walk block others between one.0) λ after two.
      (two.0, adds_then one.1 two.1)

-- all of a module
module_declares : (tree : ModuleTree) (body : TypedList) (progress : Progress)
    → Adds at_the_beginning progress (entries_of tree)
    → Declares tree (module_with tree.name.name body progress)
module_declares tree body progress adds = record {
  name = refl;
  objects =
      subst
      (λ (objects : List TypedObject). AllZip IsDeclared
      (filter_map declared_object (entries_of tree)) objects)
      (sym adds.objects_added) adds.objects_are;
  procedures =
      subst
      (λ (procedures : List TypedProcedure).
      AllZip (HasHeading progress.known.objects) (filter_map declared_procedure (entries_of tree)) procedures)
      (sym adds.procedures_added) (adds.procedures_are progress.known.objects (λ number object is. is));
}

typing_declares : (tree : ModuleTree) → Gives (Declares tree) (typing_of tree)
unfolding typing_of
typing_declares tree =
    in_turn (declarations_walk module_block tree.declarations at_the_beginning at_the_start-fits)
    λ declared one.
    in_turn
    (list_walks tree.statements (entries_in_statements tree.statements)
    (λ label. statements module_block tree.statements label) declared one.0
    (λ label inside h. statements_walk module_block tree.statements label inside h)) λ done two.
    gives_ok (module_declares tree done.0 done.1 (adds_then one.1 two.1))

-- a typing has what its module declares
pub declares : (tree : ModuleTree) (found : TypedModule) → typing_of tree ≡ Ok found → Declares tree found
declares tree found is = (typing_declares tree).holds found is
