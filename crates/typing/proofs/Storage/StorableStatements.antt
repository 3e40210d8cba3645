-- In a typed module the objects with DATA and the constant lists stand among the constants in their order, AT
-- looks back at objects that have a place, and values have room in their objects.
use Rattle.typing.proofs.Prelude.{◌≡◌, ℕ, ◌+◌, List, [], ◌∷◌, length, Option, None, Some, Ok, subst, IfOk, is_none, ◌==◌, ScalarType, Identifier, Place, ExpressionTree, ReferenceTree, StatementTree, LabelledStatement, StatementKindTree, NullStatement, AssignmentStatement, CallStatement, ReturnStatement, HaltStatement, GotoStatement, IfStatement, DoStatement, LoopStatement, CaseStatement, ElseTree, NoElse, ElseStatement, StatementTrees, NoStatements, MoreStatements, DeclarationTree, DeclareTree, ProcedureTree, DeclarationTrees, NoDeclarations, MoreDeclarations, ModuleTree, Binding, Declared, BuiltInName, Move, Procedure, jump_of, into_list, labels_of, TypedObject, TypedStatements, TypedModule, Constants, IsStorable, ArgumentCount, CallOfTyped, Checked, require, Known, Given, place_of, count_of_given, bound, procedure_of, destination_of, call_arguments, expression, given_reference, arguments, Owner, TheModule, OfProcedure, Block, Progress, with_here, with_constants, value, destinations, assignment, moved, call_bound, call, return_with, return_from, goto_bound, goto, loop_head, labels_before, declare_labels, without_label, list_of, open_procedure, own_block, parameter_objects, check_body, inner_block, entered, kind, labelled, alone, else_part, cases, statements, declaration, declarations, module_block, at_the_beginning, typing_of}
use Rattle.typing.proofs.Steps.{then_checks, then_any}
use Rattle.typing.proofs.Heads.{head_keeps}
use Rattle.typing.proofs.Storage.Storable.{AreStorable, none_yet}
use Rattle.typing.proofs.Storage.StorableExpressions.{GivenKeeps, call_arguments_is, expression_is, arguments_is, destination_is}
use Rattle.typing.proofs.Storage.StorableObjects.{StandsSoFar, declare_elements_is, open_procedure_is}

-- simple statements
value_is : (tree : ExpressionTree) (progress : Progress)
    → StandsSoFar progress → IfOk (value tree progress) (λ typed. StandsSoFar typed.1)
value_is tree progress so_far =
    then_checks _ _ (expression progress.known tree progress.constants) _
    (expression_is progress.known tree progress.constants so_far) (λ typed is. is)

destinations_is : {objects : List TypedObject} (known : Known) (targets : List ReferenceTree)
    (constants : Constants)
    → AreStorable objects constants
    → IfOk (destinations known targets constants) (λ typed. AreStorable objects typed.1)
destinations_is known [] constants are = are
destinations_is known (first ∷ others) constants are =
    then_checks _ _ (destination_of known (given_reference known first) constants) _
    (destination_is known first constants are)
    (λ destination is.
    then_checks _ _ (destinations known others destination.1) _
    (destinations_is known others destination.1 is)
    (λ rest after. after))

assignment_is : (targets : List ReferenceTree) (source : ExpressionTree) (progress : Progress)
    → StandsSoFar progress → IfOk (assignment targets source progress) (λ typed. StandsSoFar typed.1)
assignment_is targets source progress so_far =
    then_checks _ _ (destinations progress.known targets progress.constants) _
    (destinations_is progress.known targets progress.constants so_far) (λ places is.
    then_checks _ _ (value source (with_constants places.1 progress)) _
    (value_is source (with_constants places.1 progress) is)
    (λ typed after. after))

call_bound_is : {objects : List TypedObject} (known : Known) (binding : Binding)
    (name : Identifier) (given : Given)
    (constants : Constants)
    → GivenKeeps objects given → AreStorable objects constants
    → IfOk (call_bound known binding name given constants) (λ typed. AreStorable objects typed.1)
call_bound_is known (Declared (Procedure number)) name given constants keeps are =
    then_any _ (procedure_of known name number) _ (λ procedure.
    then_any _ (require (is_none procedure.result) CallOfTyped (place_of name)) _ (λ is_untyped.
    then_checks _ _ (call_arguments procedure (place_of name) given constants) _
    (call_arguments_is procedure (place_of name) given constants keeps are) (λ typed is. is)))
call_bound_is known (BuiltInName Move) name given constants keeps are =
    then_any _ (require (count_of_given given == 3) ArgumentCount (place_of name)) _ (λ are_three.
    then_checks _ _ (given.typed constants) _ (keeps constants are) (λ typed is.
    then_any _ (moved (place_of name) typed.0) _ (λ moving. is)))
call_bound_is known binding name given constants keeps are = tt

call_is : (name : Identifier) (given : Given) (progress : Progress)
    → GivenKeeps progress.known.objects given → StandsSoFar progress
    → IfOk (call name given progress) (λ typed. StandsSoFar typed.1)
call_is name given progress keeps so_far =
    then_any _ (bound progress.known name) _ (λ binding.
    then_checks _ _ (call_bound progress.known binding name given progress.constants) _
    (call_bound_is progress.known binding name given progress.constants keeps so_far) (λ typed is. is))

return_with_is : (place : Place) (result : Option ScalarType) (tree : Option ExpressionTree)
    (progress : Progress)
    → StandsSoFar progress → IfOk (return_with place result tree progress) (λ typed. StandsSoFar typed.1)
return_with_is place None None progress so_far = so_far
return_with_is place (Some scalar) (Some tree) progress so_far =
    then_checks _ _ (value tree progress) _ (value_is tree progress so_far) (λ typed after. after)
return_with_is place result tree progress so_far = tt

return_is : (place : Place) (owner : Owner) (tree : Option ExpressionTree) (progress : Progress)
    → StandsSoFar progress → IfOk (return_from place owner tree progress) (λ typed. StandsSoFar typed.1)
return_is place TheModule tree progress so_far = tt
return_is place (OfProcedure number heading) tree progress so_far =
    return_with_is place heading.result tree progress so_far

goto_is : (label : Identifier) (progress : Progress)
    → StandsSoFar progress → IfOk (goto label progress) (λ typed. StandsSoFar typed.1)
goto_is label progress so_far =
    then_any _ (goto_bound (place_of label) (jump_of progress.known.here label.name)) _ (λ typed. so_far)

-- a list, whose labels have no place among objects and constants
list_is : (trees : StatementTrees) (typed_from : ℕ → Progress → Checked (TypedStatements × Progress))
    (progress : Progress)
    → StandsSoFar progress
    → ((label : ℕ) (start : Progress) → StandsSoFar start
    → IfOk (typed_from label start) (λ typed. StandsSoFar typed.1))
    → IfOk (list_of trees typed_from progress) (λ typed. StandsSoFar typed.1)
list_is trees typed_from progress so_far each =
    let inside : Progress = with_here (into_list (labels_of trees) progress.known.here) progress in
    then_checks _ _ (typed_from progress.known.here.labels inside) _
    (each progress.known.here.labels inside so_far)
    (λ typed after. after)

mutual
  kind_is : (block : Block) (tree : StatementKindTree) (progress : Progress)
      → StandsSoFar progress → IfOk (kind block tree progress) (λ typed. StandsSoFar typed.1)
  kind_is block (NullStatement place) progress so_far = so_far
  kind_is block (AssignmentStatement targets source) progress so_far =
      assignment_is targets source progress so_far
  kind_is block (CallStatement place name trees) progress so_far =
      call_is name (record { trees = trees; typed = arguments progress.known trees }) progress
      (λ constants are. arguments_is progress.known trees constants are) so_far
  kind_is block (ReturnStatement place result) progress so_far =
      return_is place block.owner result progress so_far
  kind_is block (HaltStatement place) progress so_far = so_far
  kind_is block (GotoStatement place label) progress so_far = goto_is label progress so_far
  kind_is block (IfStatement place condition body otherwise) progress so_far =
      then_checks _ _ (value condition progress) _ (value_is condition progress so_far) (λ tested at_body.
      then_checks _ _ (alone block body tested.1) _ (alone_is block body tested.1 at_body) (λ chosen at_other.
      then_checks _ _ (else_part block otherwise chosen.1) _
      (else_part_is block otherwise chosen.1 at_other) (λ other after.
      after)))
  kind_is block (DoStatement place declared body) progress so_far =
      then_checks _ _ (declarations (inner_block block) declared (entered progress)) _
      (declarations_is (inner_block block) declared (entered progress) so_far) (λ opened at_body.
      then_checks _ _ (list_of body (λ label. statements (inner_block block) body label) opened) _
      (list_is body (λ label. statements (inner_block block) body label) opened at_body
      (λ label start at_start. statements_is (inner_block block) body label start at_start))
      (λ typed after. after))
  kind_is block (LoopStatement place head body) progress so_far =
      then_checks _ _ (loop_head head progress) _ (head_keeps StandsSoFar value_is head progress so_far)
      (λ headed at_body.
      then_checks _ _ (list_of body (λ label. statements block body label) headed.1) _
      (list_is body (λ label. statements block body label) headed.1 at_body
      (λ label start at_start. statements_is block body label start at_start)) (λ typed after. after))
  kind_is block (CaseStatement place choice body) progress so_far =
      then_checks _ _ (value choice progress) _ (value_is choice progress so_far) (λ chosen at_body.
      then_checks _ _ (cases block body chosen.1) _ (cases_is block body chosen.1 at_body)
      (λ typed after. after))

  labelled_is : (block : Block) (tree : StatementTree) (progress : Progress)
      → StandsSoFar progress → IfOk (labelled block tree progress) (λ typed. StandsSoFar typed.1)
  labelled_is block (LabelledStatement labels done) progress so_far = kind_is block done progress so_far

  alone_is : (block : Block) (tree : StatementTree) (progress : Progress)
      → StandsSoFar progress → IfOk (alone block tree progress) (λ typed. StandsSoFar typed.1)
  alone_is block (LabelledStatement labels done) progress so_far =
      then_any _ (without_label labels) _ (λ has_none. kind_is block done progress so_far)

  else_part_is : (block : Block) (tree : ElseTree) (progress : Progress)
      → StandsSoFar progress → IfOk (else_part block tree progress) (λ typed. StandsSoFar typed.1)
  else_part_is block NoElse progress so_far = so_far
  else_part_is block (ElseStatement body) progress so_far =
      then_checks _ _ (alone block body progress) _ (alone_is block body progress so_far)
      (λ typed after. after)

  cases_is : (block : Block) (trees : StatementTrees) (progress : Progress)
      → StandsSoFar progress → IfOk (cases block trees progress) (λ typed. StandsSoFar typed.1)
  cases_is block NoStatements progress so_far = so_far
  cases_is block (MoreStatements first others) progress so_far =
      then_checks _ _ (alone block first progress) _ (alone_is block first progress so_far) (λ typed at_rest.
      then_checks _ _ (cases block others typed.1) _ (cases_is block others typed.1 at_rest)
      (λ rest after. after))

  statements_is : (block : Block) (trees : StatementTrees) (label : ℕ) (progress : Progress)
      → StandsSoFar progress → IfOk (statements block trees label progress) (λ typed. StandsSoFar typed.1)
  statements_is block NoStatements label progress so_far = so_far
  statements_is block (MoreStatements first others) label progress so_far =
      let next : ℕ = label + length (labels_before first) in
      then_any _ (declare_labels (labels_before first) progress.known.here) _ (λ here.
      then_checks _ _ (labelled block first (with_here here progress)) _
      (labelled_is block first (with_here here progress) so_far) (λ typed at_rest.
      then_checks _ _ (statements block others next typed.1) _
      (statements_is block others next typed.1 at_rest)
      (λ rest after. after)))

  declaration_is : (block : Block) (tree : DeclarationTree) (progress : Progress)
      → StandsSoFar progress → IfOk (declaration block tree progress) StandsSoFar
  declaration_is block (DeclareTree elements) progress so_far =
      declare_elements_is block elements progress so_far
  declaration_is block (ProcedureTree heading declared body end_name) progress so_far =
      let own : Block = own_block heading progress in
      then_checks _ _ (open_procedure block heading declared progress) _
      (open_procedure_is block heading declared progress so_far)
      (λ opened at_declarations.
      then_checks _ _ (declarations own declared opened) _
      (declarations_is own declared opened at_declarations)
      (λ within at_body.
      then_any _ (parameter_objects within.known.here heading.parameters) _ (λ parameters.
      then_any _ (check_body heading body) _ (λ may_stand.
      then_checks _ _ (list_of body (λ label. statements own body label) within) _
      (list_is body (λ label. statements own body label) within at_body
      (λ label start at_start. statements_is own body label start at_start)) (λ typed after. after)))))

  declarations_is : (block : Block) (trees : DeclarationTrees) (progress : Progress)
      → StandsSoFar progress → IfOk (declarations block trees progress) StandsSoFar
  declarations_is block NoDeclarations progress so_far = so_far
  declarations_is block (MoreDeclarations first others) progress so_far =
      then_checks _ _ (declaration block first progress) _
      (declaration_is block first progress so_far) (λ after at_rest.
      declarations_is block others after at_rest)

-- Every typed module is storable.
pub typing_is_storable : (tree : ModuleTree) → IfOk (typing_of tree) IsStorable
unfolding typing_of
typing_is_storable tree =
    then_checks _ _ (declarations module_block tree.declarations at_the_beginning) _
    (declarations_is module_block tree.declarations at_the_beginning none_yet) (λ declared at_body.
    then_checks _ _
    (list_of tree.statements (λ label. statements module_block tree.statements label) declared) _
    (list_is tree.statements (λ label. statements module_block tree.statements label) declared at_body
    (λ label start at_start. statements_is module_block tree.statements label start at_start)) (λ typed after.
    record {
      objects = after.objects_stand;
      lists = after.lists_stand;
      at = after.look_back;
      places = after.at_places;
      filled = after.have_room;
    }))

pub is_storable : (tree : ModuleTree) (found : TypedModule) → typing_of tree ≡ Ok found → IsStorable found
is_storable tree found is =
    subst (λ (given : Checked TypedModule). IfOk given IsStorable) is (typing_is_storable tree)
