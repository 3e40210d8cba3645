-- Statements, declarations and modules are given back by taking the conversions away from their typing.
use Rattle.typing.proofs.Prelude.{◌≡◌, ℕ, ◌+◌, not, List, [], ◌∷◌, ◌++◌, length, Ok, refl, ap, ap₂, ◌∙◌, append-nil, Identifier, StatementTree, LabelledStatement, StatementKindTree, ElseTree, StatementTrees, DeclarationTree, DeclareTree, ProcedureTree, DeclarationTrees, NoDeclarations, MoreDeclarations, ModuleTree, Here, out_of_block, into_list, out_of_list, with_label, is_label_again, labels_of, DeclaredTwice, TypedStatement, LabelStatement, TypedElse, TypedStatements, TypedList, TypedModule, Checked, require, place_of, Block, Progress, with_here, labels_before, declare_labels, after_labels, list_of, own_block, parameter_objects, check_body, inner_block, entered, kind, labelled, alone, else_part, cases, statements, declaration, declarations, module_block, at_the_beginning, module_with, typing_of, nowhere, nameless, without_names, plain_statement, plain_else, plain_statements, bodies_in_statement, bodies_in_kind, bodies_in_else, bodies_in_statements, bodies_in_declaration, bodies_in, untyped_kind, untyped_else, untyped_statements, untyped_list, GivesBack}
use Rattle.trees.specs.Trees as trees
use Rattle.typed_trees.specs.TypedTrees as typed
use Rattle.typed_trees.specs.TypedTrees.{MoreStatements as MoreTyped}
use Rattle.typing.proofs.Kept.{Gives, gives_ok, gives_fault, in_turn, gives_after, then_more}
use Rattle.typing.proofs.Tables.{Fits, at_the_start-fits, into_block-fits, out_of_block-fits, into_list-fits, out_of_list-fits, with_label-fits}
use Rattle.typing.proofs.Walked.{Holds, Reaches, bodies_back, Walked, walked_nothing, walked_then, walked_as, walked_from, walked_to}
use Rattle.typing.proofs.DeclarationsBack.{Nothing, declare_elements-walk, open_procedure-opens, walked_procedure}
use Rattle.typing.proofs.SimpleStatementsBack.{IsNoLabel, KindWalks, value-walks, assignment-walks, call-walks, return_from-walks, goto-walks, head-walks}

-- what is given back of a statement with its labels, of one without, and of others
abbrev StatementBack : StatementTree → TypedStatement → TypedModule → Type 0
StatementBack tree statement tables =
    IsNoLabel statement
    × (LabelledStatement (without_names (labels_before tree)) (untyped_kind tables statement)
    ≡ plain_statement tree)

abbrev AloneBack : StatementTree → TypedStatement → TypedModule → Type 0
AloneBack tree statement tables =
    IsNoLabel statement × (LabelledStatement [] (untyped_kind tables statement) ≡ plain_statement tree)

abbrev StatementsBack : StatementTrees → TypedStatements → TypedModule → Type 0
StatementsBack trees statements tables = untyped_statements tables statements [] ≡ plain_statements trees

abbrev StatementsWalk : StatementTrees → Progress → List StatementTrees
    → Checked (TypedStatements × Progress) → Type 0
StatementsWalk trees before texts checked =
    Gives (λ (done : TypedStatements × Progress). Walked before done.1 texts (StatementsBack trees done.0))
    checked

-- a statement that is no label takes the labels before it
takes_labels : (tables : TypedModule) (statement : TypedStatement) (others : TypedStatements)
    (labels : List Identifier)
    → IsNoLabel statement
    → untyped_statements tables (MoreTyped statement others) labels
    ≡ trees.MoreStatements (LabelledStatement labels (untyped_kind tables statement))
    (untyped_statements tables others [])
takes_labels tables (LabelStatement label) others labels proper = absurd proper
takes_labels tables typed.NullStatement others labels proper = refl
takes_labels tables statement others labels proper = refl

-- labels have no names, so their order does not matter
nameless_last : (labels : List Identifier) (label : Identifier) (others : List Identifier)
    → without_names (labels ++ label ∷ others) ≡ nameless ∷ without_names (labels ++ others)
nameless_last [] label others = refl
nameless_last (first ∷ labels) label others = ap (λ k. nameless ∷ k) (nameless_last labels label others)

labels_collected : (tables : TypedModule) (number : ℕ) (labels before : List Identifier)
    (rest : TypedStatements)
    → untyped_statements tables (after_labels number labels rest) (without_names before)
    ≡ untyped_statements tables rest (without_names (labels ++ before))
labels_collected tables number [] before rest = refl
labels_collected tables number (label ∷ labels) before rest =
    labels_collected tables (number + 1) labels (label ∷ before) rest
    ∙ ap (untyped_statements tables rest) (nameless_last labels label before)

labelled_first : (tables : TypedModule) (number : ℕ) (labels : List Identifier) (statement : TypedStatement)
    (others : TypedStatements)
    → IsNoLabel statement
    → untyped_statements tables (after_labels number labels (MoreTyped statement others)) []
    ≡ trees.MoreStatements (LabelledStatement (without_names labels) (untyped_kind tables statement))
    (untyped_statements tables others [])
labelled_first tables number labels statement others proper =
    labels_collected tables number labels [] (MoreTyped statement others)
    ∙ ap (λ k. untyped_statements tables (MoreTyped statement others) (without_names k)) (append-nil labels)
    ∙ takes_labels tables statement others (without_names labels) proper

-- labels before a statement
pub declare_labels-fit : (objects procedures : List (List ℕ)) (labels : List Identifier) (here : Here)
    → Fits objects procedures here
    → Gives (Fits objects procedures) (declare_labels labels here)
declare_labels-fit objects procedures [] here fits = gives_ok fits
declare_labels-fit objects procedures (label ∷ others) here fits =
    gives_after (require (not (is_label_again here label.name)) DeclaredTwice (place_of label)) λ once.
    declare_labels-fit objects procedures others (with_label label.name here)
    (with_label-fits label.name fits)

-- a list of statements
list-walks : (trees : StatementTrees) (texts : List StatementTrees)
    (typed_from : ℕ → Progress → Checked (TypedStatements × Progress)) (progress : Progress)
    → Holds progress
    → ((label : ℕ) (inside : Progress) → Holds inside
    → StatementsWalk trees inside texts (typed_from label inside))
    → Gives
    (λ (done : TypedList × Progress).
    Walked progress done.1 texts (λ tables. untyped_list tables done.0 ≡ plain_statements trees))
    (list_of trees typed_from progress)
list-walks trees texts typed_from progress holds each =
    let inside : Progress = with_here (into_list (labels_of trees) progress.known.here) progress in
    in_turn (each progress.known.here.labels inside (into_list-fits (labels_of trees) holds)) λ done w.
    gives_ok (walked_to (out_of_list done.1.known.here) out_of_list-fits (walked_from w))

mutual
  kind-walks : (block : Block) (tree : StatementKindTree) (progress : Progress) → Holds progress
      → KindWalks tree progress (bodies_in_kind tree) (kind block tree progress)
  kind-walks block (trees.NullStatement place) progress holds =
      gives_ok (walked_nothing progress holds (λ tables reaches. (tt, refl)))
  kind-walks block (trees.AssignmentStatement targets source) progress holds =
      assignment-walks targets source progress holds
  kind-walks block (trees.CallStatement place name values) progress holds =
      call-walks place name values progress holds
  kind-walks block (trees.ReturnStatement place result) progress holds =
      return_from-walks place block.owner result progress holds
  kind-walks block (trees.HaltStatement place) progress holds =
      gives_ok (walked_nothing progress holds (λ tables reaches. (tt, refl)))
  kind-walks block (trees.GotoStatement place label) progress holds = goto-walks place label progress holds
  kind-walks block (trees.IfStatement place condition body otherwise) progress holds =
      in_turn (value-walks condition progress holds) λ tested w₁.
      in_turn (alone-walks block body tested.1 w₁.holds) λ chosen w₂.
      in_turn (else-walks block otherwise chosen.1 w₂.holds) λ other w₃.
      gives_ok (walked_as (walked_then w₁ (walked_then w₂ w₃)) (λ tables back. (tt, cc)))
  kind-walks block (trees.DoStatement place declared body) progress holds =
      in_turn
      (declarations-walk (inner_block block) declared (entered progress) (into_block-fits holds)) λ opened w₁.
      in_turn
      (list-walks body (bodies_in_statements body) (λ label. statements (inner_block block) body label) opened
      w₁.holds (λ label inside h. statements-walk (inner_block block) body label inside h)) λ done w₂.
      gives_ok
      (walked_as
      (walked_to (out_of_block done.1.known.here) out_of_block-fits (walked_from (walked_then w₁ w₂)))
      (λ tables back. (tt, ap (λ k. trees.DoStatement nowhere NoDeclarations k) back.1)))
  kind-walks block (trees.LoopStatement place head body) progress holds =
      in_turn (head-walks head progress holds) λ headed w₁.
      in_turn
      (list-walks body (bodies_in_statements body) (λ label. statements block body label) headed.1 w₁.holds
      (λ label inside h. statements-walk block body label inside h)) λ done w₂.
      gives_ok (walked_as (walked_then w₁ w₂) (λ tables back. (tt, cc)))
  kind-walks block (trees.CaseStatement place choice body) progress holds =
      in_turn (value-walks choice progress holds) λ chosen w₁.
      in_turn (cases-walk block body chosen.1 w₁.holds) λ done w₂.
      gives_ok (walked_as (walked_then w₁ w₂) (λ tables back. (tt, cc)))

  labelled-walks : (block : Block) (tree : StatementTree) (progress : Progress) → Holds progress
      → Gives
      (λ (done : TypedStatement × Progress).
      Walked progress done.1 (bodies_in_statement tree) (StatementBack tree done.0))
      (labelled block tree progress)
  labelled-walks block (LabelledStatement labels tree) progress holds =
      then_more (kind-walks block tree progress holds) λ done w.
      walked_as w (λ tables back. (back.0, ap (LabelledStatement (without_names labels)) back.1))

  alone-walks : (block : Block) (tree : StatementTree) (progress : Progress) → Holds progress
      → Gives
      (λ (done : TypedStatement × Progress).
      Walked progress done.1 (bodies_in_statement tree) (AloneBack tree done.0))
      (alone block tree progress)
  alone-walks block (LabelledStatement [] tree) progress holds =
      then_more (kind-walks block tree progress holds) λ done w.
      walked_as w (λ tables back. (back.0, ap (LabelledStatement []) back.1))
  alone-walks block (LabelledStatement (label ∷ labels) tree) progress holds = gives_fault

  else-walks : (block : Block) (tree : ElseTree) (progress : Progress) → Holds progress
      → Gives
      (λ (done : TypedElse × Progress).
      Walked progress done.1 (bodies_in_else tree) (λ tables. untyped_else tables done.0 ≡ plain_else tree))
      (else_part block tree progress)
  else-walks block trees.NoElse progress holds =
      gives_ok (walked_nothing progress holds (λ tables reaches. refl))
  else-walks block (trees.ElseStatement body) progress holds =
      in_turn (alone-walks block body progress holds) λ done w.
      gives_ok (walked_as w (λ tables back. ap trees.ElseStatement back.1))

  cases-walk : (block : Block) (trees : StatementTrees) (progress : Progress) → Holds progress
      → StatementsWalk trees progress (bodies_in_statements trees) (cases block trees progress)
  cases-walk block trees.NoStatements progress holds =
      gives_ok (walked_nothing progress holds (λ tables reaches. refl))
  cases-walk block (trees.MoreStatements first others) progress holds =
      in_turn (alone-walks block first progress holds) λ done w₁.
      in_turn (cases-walk block others done.1 w₁.holds) λ rest w₂.
      gives_ok
      (walked_as (walked_then w₁ w₂)
      (λ tables back.
      takes_labels tables done.0 rest.0 [] back.0.0 ∙ ap₂ trees.MoreStatements back.0.1 back.1))

  statements-walk : (block : Block) (trees : StatementTrees) (label : ℕ) (progress : Progress)
      → Holds progress
      → StatementsWalk trees progress (bodies_in_statements trees) (statements block trees label progress)
  statements-walk block trees.NoStatements label progress holds =
      gives_ok (walked_nothing progress holds (λ tables reaches. refl))
  statements-walk block (trees.MoreStatements first others) label progress holds =
      in_turn (declare_labels-fit _ _ (labels_before first) progress.known.here holds) λ here fits.
      in_turn (labelled-walks block first (with_here here progress) fits) λ done w₁.
      in_turn (statements-walk block others (label + length (labels_before first)) done.1 w₁.holds) λ rest w₂.
      gives_ok
      (walked_as (walked_then (walked_from w₁) w₂)
      (λ tables back.
      labelled_first tables label (labels_before first) done.0 rest.0 back.0.0
      ∙ ap₂ trees.MoreStatements back.0.1 back.1))

  declaration-walks : (block : Block) (tree : DeclarationTree) (progress : Progress) → Holds progress
      → Gives (λ after. Walked progress after (bodies_in_declaration tree) Nothing)
      (declaration block tree progress)
  declaration-walks block (DeclareTree elements) progress holds =
      declare_elements-walk block elements progress holds
  declaration-walks block (ProcedureTree heading declared body end_name) progress holds =
      in_turn (open_procedure-opens block heading declared progress holds) λ opened heads.
      in_turn (declarations-walk (own_block heading progress) declared opened heads.holds) λ within w₁.
      gives_after (parameter_objects within.known.here heading.parameters) λ parameters.
      gives_after (check_body heading body) λ placed.
      in_turn
      (list-walks body (bodies_in_statements body)
      (λ label. statements (own_block heading progress) body label) within w₁.holds
      (λ label inside h. statements-walk (own_block heading progress) body label inside h)) λ done w₂.
      gives_ok
      (walked_procedure heading declared parameters done.0 body
      (bodies_in declared ++ bodies_in_statements body)
      progress opened done.1 heads (walked_as (walked_then w₁ w₂) (λ tables back. back.1)))

  declarations-walk : (block : Block) (trees : DeclarationTrees) (progress : Progress) → Holds progress
      → Gives (λ after. Walked progress after (bodies_in trees) Nothing) (declarations block trees progress)
  declarations-walk block NoDeclarations progress holds =
      gives_ok (walked_nothing progress holds (λ tables reaches. tt))
  declarations-walk block (MoreDeclarations first others) progress holds =
      in_turn (declaration-walks block first progress holds) λ between w₁.
      then_more (declarations-walk block others between w₁.holds) λ after w₂.
      walked_as (walked_then w₁ w₂) (λ tables back. tt)

-- all bodies of a module, from its tables
bodies-back : (tree : ModuleTree) (body : TypedList) (progress : Progress)
    → Walked at_the_beginning progress (bodies_in tree.declarations ++ bodies_in_statements tree.statements)
    (λ tables. untyped_list tables body ≡ plain_statements tree.statements)
    → GivesBack tree (module_with tree.name.name body progress)
bodies-back tree body progress walked =
    let tables : TypedModule = module_with tree.name.name body progress in
    let reaches : Reaches tables progress =
    ((λ number x e. e), (λ number x e. e), (λ number x e. e)) in
    ap₂ (λ (first : StatementTrees) (others : List StatementTrees). first ∷ others)
    (walked.back tables reaches)
    (ap (bodies_back tables) walked.appended ∙ walked.bodies tables reaches)

typing-back : (tree : ModuleTree) → Gives (GivesBack tree) (typing_of tree)
unfolding typing_of
typing-back tree =
    in_turn (declarations-walk module_block tree.declarations at_the_beginning at_the_start-fits)
    λ declared w₁.
    in_turn
    (list-walks tree.statements (bodies_in_statements tree.statements)
    (λ label. statements module_block tree.statements label) declared w₁.holds
    (λ label inside h. statements-walk module_block tree.statements label inside h)) λ done w₂.
    gives_ok
    (bodies-back tree done.0 done.1 (walked_as (walked_then w₁ w₂) (λ tables back. back.1)))

-- a typing without its conversions is its tree
pub gives_back : (tree : ModuleTree) (found : TypedModule) → typing_of tree ≡ Ok found → GivesBack tree found
gives_back tree found is = (typing-back tree).holds found is
