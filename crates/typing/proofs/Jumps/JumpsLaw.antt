-- In a typed module each GOTO goes to a label of a list around it, labels stand where their places say, and
-- no two labels have the same number.
use Rattle.typing.proofs.Prelude.{◌≡◌, ℕ, ◌+◌, List, [], ◌∷◌, length, drop, Ok, refl, ap, subst, IfOk, All-nil, Identifier, StatementTree, LabelledStatement, StatementKindTree, NullStatement, AssignmentStatement, CallStatement, ReturnStatement, HaltStatement, GotoStatement, IfStatement, DoStatement, LoopStatement, CaseStatement, ElseTree, NoElse, ElseStatement, StatementTrees, NoStatements, MoreStatements, DeclarationTree, DeclareTree, ProcedureTree, DeclarationTrees, NoDeclarations, MoreDeclarations, ModuleTree, Body, Names, numbered_from, into_list, body_after_block, with_procedure, labels_of, TypedStatements, TypedList, TypedModule, LabelsOf, JumpsStayInElse, JumpsStayInStatements, JumpsStayInList, LabelsStand, ListsStandInElse, ListsStandInStatements, ListsStandInCases, ListStands, BodyIsSound, JumpsAreSound, Checked, arguments, Block, Progress, with_here, value, loop_head, labels_before, declare_labels, without_label, places_from, list_of, open_procedure, own_block, parameter_objects, check_body, close_procedure, inner_block, entered, left, kind, labelled, alone, else_part, cases, statements, declaration, declarations, module_block, at_the_beginning, typing_of}
use Rattle.typing.proofs.Steps.{then_checks, then_any}
use Rattle.typing.proofs.Jumps.KnownLabels.{AreAround, none_around, around_entered}
use Rattle.typing.proofs.Jumps.LabelPlaces.{labels_stand, list_count, jumps_after_labels, lists_after_labels, labels_differ}
use Rattle.typing.proofs.PartsWithoutStatements.{AreSound, IsAt, IsDone, value_is, assignment_is, call_is, return_is, goto_is, head_is}
use Rattle.typing.proofs.Declarations.{declare_labels_is, declare_elements_is, open_procedure_is, close_procedure_is}

-- the statements of a list from one on, whose next label has this number
record AreDone (around : List LabelsOf) (lists : List Names) (outer : List Body)
    (trees : StatementTrees) (label : ℕ)
    (typed : TypedStatements × Progress) : Type 0 where
  jumps : JumpsStayInStatements around typed.0
  stand : ListsStandInStatements typed.0
  labels : (place : ℕ) → LabelsStand label place (places_from place trees) typed.0
  after : IsAt lists outer typed.1.known

-- a list
record ListIsDone (around : List LabelsOf) (lists : List Names) (outer : List Body)
    (typed : TypedList × Progress) :
    Type 0 where
  jumps : JumpsStayInList around typed.0
  stands : ListStands typed.0
  after : IsAt lists outer typed.1.known

-- a list, whose labels are known in the whole of it
list_is : {around : List LabelsOf} {lists : List Names} {outer : List Body} (trees : StatementTrees)
    (typed_from : ℕ → Progress → Checked (TypedStatements × Progress)) (progress : Progress)
    → AreAround around lists → IsAt lists outer progress.known
    → ((inside : List LabelsOf) (tables : List Names) (label : ℕ) (start : Progress)
    → AreAround inside tables → IsAt tables outer start.known
    → IfOk (typed_from label start) (AreDone inside tables outer trees label))
    → IfOk (list_of trees typed_from progress) (ListIsDone around lists outer)
list_is {around = around} {lists = lists} trees typed_from progress are at each =
    let first : ℕ = progress.known.here.labels in
    let table : Names = numbered_from first (labels_of trees) [] in
    let inside : Progress = with_here (into_list (labels_of trees) progress.known.here) progress in
    then_checks _ _ (typed_from first inside) _
    (each _ _ first inside
    (around_entered first (length (places_from 0 trees)) (labels_of trees) around lists
    (list_count 0 trees) are)
    (record {
      here = record {
        lists_are = ap (λ (tables : List Names). table ∷ tables) at.here.lists_are;
        outer_are = at.here.outer_are;
      };
      procedures = at.procedures;
    }))
    (λ typed done. record {
      jumps = done.jumps;
      stands = (done.labels 0, done.stand);
      after = record {
        here = record {
          lists_are = ap (λ (tables : List Names). drop 1 tables) done.after.here.lists_are;
          outer_are = done.after.here.outer_are;
        };
        procedures = done.after.procedures;
      };
    })

-- out of a simple DO
after_block : {lists : List Names} (blocks : List Names) (body : Body)
    → body.lists ≡ lists → (body_after_block blocks body).lists ≡ lists
after_block [] body are = are
after_block (block ∷ blocks) body are = are

left_is : {lists : List Names} {outer : List Body} (progress : Progress)
    → IsAt lists outer progress.known → IsAt lists outer (left progress).known
left_is progress at = record {
  here = record {
    lists_are = after_block progress.known.here.body.outer_blocks progress.known.here.body at.here.lists_are;
    outer_are = at.here.outer_are;
  };
  procedures = at.procedures;
}

mutual
  kind_is : {around : List LabelsOf} {lists : List Names} {outer : List Body} (block : Block)
      (tree : StatementKindTree) (progress : Progress)
      → AreAround around lists → IsAt lists outer progress.known
      → IfOk (kind block tree progress) (IsDone around lists outer)
  kind_is block (NullStatement place) progress are at =
      (record { jumps = tt; stands = tt; is_no_label = tt }, at)
  kind_is {around = around} block (AssignmentStatement targets source) progress are at =
      assignment_is around targets source progress at
  kind_is {around = around} block (CallStatement place name trees) progress are at =
      call_is around name (record { trees = trees; typed = arguments progress.known trees }) progress at
  kind_is {around = around} block (ReturnStatement place result) progress are at =
      return_is around place block.owner result progress at
  kind_is block (HaltStatement place) progress are at =
      (record { jumps = tt; stands = tt; is_no_label = tt }, at)
  kind_is block (GotoStatement place label) progress are at = goto_is label progress are at
  kind_is block (IfStatement place condition body otherwise) progress are at =
      then_checks _ _ (value condition progress) _ (value_is condition progress at) (λ tested at_body.
      then_checks _ _ (alone block body tested.1) _ (alone_is block body tested.1 are at_body) (λ chosen one.
      then_checks _ _ (else_part block otherwise chosen.1) _
      (else_part_is block otherwise chosen.1 are one.1) (λ other two. (
        record {
          jumps = (one.0.jumps, two.0);
          stands = (one.0.is_no_label, one.0.stands, two.1);
          is_no_label = tt;
        },
        two.2,
      ))))
  kind_is block (DoStatement place declared body) progress are at =
      then_checks _ _ (declarations (inner_block block) declared (entered progress)) _
      (declarations_is (inner_block block) declared (entered progress)
      (record {
        here = record { lists_are = at.here.lists_are; outer_are = at.here.outer_are };
        procedures = at.procedures;
      })) (λ opened at_body.
      then_checks _ _ (list_of body (λ label. statements (inner_block block) body label) opened) _
      (list_is body (λ label. statements (inner_block block) body label) opened are at_body
      (λ inside tables label start known at_start. statements_is (inner_block block) body label
      start known at_start))
      (λ typed done.
      (record { jumps = done.jumps; stands = done.stands; is_no_label = tt }, left_is typed.1 done.after)))
  kind_is block (LoopStatement place head body) progress are at =
      then_checks _ _ (loop_head head progress) _ (head_is head progress at) (λ headed at_body.
      then_checks _ _ (list_of body (λ label. statements block body label) headed.1) _
      (list_is body (λ label. statements block body label) headed.1 are at_body
      (λ inside tables label start known at_start. statements_is block body label start known at_start))
      (λ typed done. (record { jumps = done.jumps; stands = done.stands; is_no_label = tt }, done.after)))
  kind_is block (CaseStatement place choice body) progress are at =
      then_checks _ _ (value choice progress) _ (value_is choice progress at) (λ chosen at_body.
      then_checks _ _ (cases block body chosen.1) _ (cases_is block body chosen.1 are at_body) (λ typed done.
      (record { jumps = done.0; stands = done.1; is_no_label = tt }, done.2)))

  labelled_is : {around : List LabelsOf} {lists : List Names} {outer : List Body} (block : Block)
      (tree : StatementTree) (progress : Progress)
      → AreAround around lists → IsAt lists outer progress.known
      → IfOk (labelled block tree progress) (IsDone around lists outer)
  labelled_is block (LabelledStatement labels done) progress are at = kind_is block done progress are at

  alone_is : {around : List LabelsOf} {lists : List Names} {outer : List Body} (block : Block)
      (tree : StatementTree) (progress : Progress)
      → AreAround around lists → IsAt lists outer progress.known
      → IfOk (alone block tree progress) (IsDone around lists outer)
  alone_is block (LabelledStatement labels done) progress are at =
      then_any _ (without_label labels) _ (λ has_none. kind_is block done progress are at)

  else_part_is : {around : List LabelsOf} {lists : List Names} {outer : List Body} (block : Block)
      (tree : ElseTree) (progress : Progress)
      → AreAround around lists → IsAt lists outer progress.known
      → IfOk (else_part block tree progress)
      (λ typed. JumpsStayInElse around typed.0 × ListsStandInElse typed.0 × IsAt lists outer typed.1.known)
  else_part_is block NoElse progress are at = (tt, tt, at)
  else_part_is block (ElseStatement body) progress are at =
      then_checks _ _ (alone block body progress) _ (alone_is block body progress are at) (λ typed done.
      (done.0.jumps, (done.0.is_no_label, done.0.stands), done.1))

  cases_is : {around : List LabelsOf} {lists : List Names} {outer : List Body} (block : Block)
      (trees : StatementTrees) (progress : Progress)
      → AreAround around lists → IsAt lists outer progress.known
      → IfOk (cases block trees progress)
      (λ typed. JumpsStayInStatements around typed.0 × ListsStandInCases typed.0
      × IsAt lists outer typed.1.known)
  cases_is block NoStatements progress are at = (tt, tt, at)
  cases_is block (MoreStatements first others) progress are at =
      then_checks _ _ (alone block first progress) _ (alone_is block first progress are at) (λ typed one.
      then_checks _ _ (cases block others typed.1) _ (cases_is block others typed.1 are one.1) (λ rest more.
      ((one.0.jumps, more.0), (one.0.is_no_label, one.0.stands, more.1), more.2)))

  statements_is : {around : List LabelsOf} {lists : List Names} {outer : List Body} (block : Block)
      (trees : StatementTrees) (label : ℕ) (progress : Progress)
      → AreAround around lists → IsAt lists outer progress.known
      → IfOk (statements block trees label progress) (AreDone around lists outer trees label)
  statements_is block NoStatements label progress are at =
      record { jumps = tt; stand = tt; labels = λ place. refl; after = at }
  statements_is {around = around} block (MoreStatements first others) label progress are at =
      let names : List Identifier = labels_before first in
      then_checks _ _ (declare_labels names progress.known.here) _
      (declare_labels_is names progress.known.here at.here)
      (λ here is.
      then_checks _ _ (labelled block first (with_here here progress)) _
      (labelled_is block first (with_here here progress) are
      (record { here = is; procedures = at.procedures }))
      (λ typed one.
      then_checks _ _ (statements block others (label + length names) typed.1) _
      (statements_is block others (label + length names) typed.1 are one.1) (λ rest more.
      record {
        jumps = jumps_after_labels around label names _ (one.0.jumps, more.jumps);
        stand = lists_after_labels label names _ (one.0.stands, more.stand);
        labels = λ place. labels_stand names label place (label + length names) (place + length names + 1)
            (places_from (place + length names + 1) others) typed.0 rest.0 refl refl one.0.is_no_label
            (more.labels (place + length names + 1));
        after = more.after;
      })))

  declaration_is : {lists : List Names} {outer : List Body} (block : Block) (tree : DeclarationTree)
      (progress : Progress)
      → IsAt lists outer progress.known
      → IfOk (declaration block tree progress) (λ after. IsAt lists outer after.known)
  declaration_is block (DeclareTree elements) progress at = declare_elements_is block elements progress at
  declaration_is {lists = lists} {outer = outer} block
      (ProcedureTree heading declared body end_name) progress at =
      let own : Block = own_block heading progress in
      let around : Body = (with_procedure heading.name.name progress.known.here).body in
      then_checks _ _ (open_procedure block heading declared progress) _
      (open_procedure_is block heading declared progress at)
      (λ opened at_opened.
      then_checks _ _ (declarations own declared opened) _
      (declarations_is own declared opened at_opened) (λ within at_body.
      then_any _ (parameter_objects within.known.here heading.parameters) _ (λ parameters.
      then_any _ (check_body heading body) _ (λ may_stand.
      then_checks _ _ (list_of body (λ label. statements own body label) within) _
      (list_is body (λ label. statements own body label) within (none_around []) at_body
      (λ inside tables label start known at_start. statements_is own body label start known at_start))
      (λ typed done.
      subst (λ (tables : List Names). IsAt tables outer
      (close_procedure heading declared (length progress.known.procedures) parameters typed.0 typed.1).known)
      at.here.lists_are
      (close_procedure_is [] around heading declared (length progress.known.procedures)
      parameters typed.0 typed.1
      (record { closed = done.jumps; stands = done.stands }) done.after))))))

  declarations_is : {lists : List Names} {outer : List Body} (block : Block) (trees : DeclarationTrees)
      (progress : Progress)
      → IsAt lists outer progress.known
      → IfOk (declarations block trees progress) (λ after. IsAt lists outer after.known)
  declarations_is block NoDeclarations progress at = at
  declarations_is block (MoreDeclarations first others) progress at =
      then_checks _ _ (declaration block first progress) _
      (declaration_is block first progress at) (λ after at_rest.
      declarations_is block others after at_rest)

typing_is : (tree : ModuleTree)
    → IfOk (typing_of tree) (λ typed. AreSound typed.procedures × BodyIsSound typed.main.body)
unfolding typing_of
typing_is tree =
    then_checks _ _ (declarations module_block tree.declarations at_the_beginning) _
    (declarations_is module_block tree.declarations at_the_beginning
    (record { here = record { lists_are = refl; outer_are = refl }; procedures = All-nil _ }))
    (λ declared at_body.
    then_checks _ _
    (list_of tree.statements (λ label. statements module_block tree.statements label) declared) _
    (list_is tree.statements (λ label. statements module_block tree.statements label) declared
    (none_around []) at_body
    (λ inside tables label start known at_start. statements_is module_block tree.statements label
    start known at_start))
    (λ typed done.
    (done.after.procedures, record { closed = done.jumps; stands = done.stands })))

-- In every typed module each GOTO goes to a label of a list around it in the same body, the labels of each
-- list stand where its places say, and no two labels have the same number.
pub jumps_are_sound : (tree : ModuleTree) (found : TypedModule) → typing_of tree ≡ Ok found
    → JumpsAreSound found
jumps_are_sound tree found is =
    let are : AreSound found.procedures × BodyIsSound found.main.body =
    subst (λ (given : Checked TypedModule). IfOk given
    (λ typed. AreSound typed.procedures × BodyIsSound typed.main.body))
    is (typing_is tree) in
    record { procedures = are.0; main = are.1; labels = labels_differ tree found is }
