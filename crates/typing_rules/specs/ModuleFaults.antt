-- Which fault a statement, a declaration or a module has: a rule for each cause, with its place, and one for each part that
-- a construct may have a fault in. What comes before that part is well typed, so the fault is the first one of the text.
use Rattle.std.specs.Prelude.{◌≡◌, ℕ, List, [], ◌∷◌, length, Option, Some, None}
use Rattle.trees.specs.declared.declaration.ScalarType.{ScalarType}
use Rattle.trees.specs.declared.identifier.Identifier.{Identifier}
use Rattle.trees.specs.declared.identifier.Place.{Place}
use Rattle.trees.specs.Trees.{ExpressionTree, ReferenceTree, ArgumentTrees, ElementTree, HeadingTree, LoopHeadTree, StatementTree, LabelledStatement, StatementKindTree, AssignmentStatement, CallStatement, ReturnStatement, GotoStatement, IfStatement, DoStatement, LoopStatement, CaseStatement, ElseTree, ElseStatement, StatementTrees, MoreStatements, DeclarationTree, DeclareTree, ProcedureTree, DeclarationTrees, MoreDeclarations, ModuleTree}
use Rattle.names.specs.declared.entity.BuiltIn.TheVariants.{Move}
use Rattle.names.specs.declared.entity.Binding.TheVariants.{Declared}
use Rattle.names.specs.declared.entity.Entity.TheVariants.{Label}
use Rattle.names.specs.BuiltIns.{jump_of}
use Rattle.names.specs.Environment.{Here, into_list}
use Rattle.names.specs.DeclaredNames.{labels_of}
use Rattle.typed_trees.specs.TypedTrees.{TypedExpression, TypedHead, TypedStatement, TypedProcedure, Constants}
use Rattle.typing.specs.declared.fault.Cause.TheVariants.{UnknownName, ArgumentCount, CallOfTyped, CallOfNoProcedure, ReturnMismatch, ReturnOutside, MisplacedLabel, UnknownLabel}
use Rattle.typing.specs.declared.fault.Fault.{Fault}
use Rattle.typing.specs.Nodes.{Destination}
use Rattle.typing.specs.References.{number_of_arguments}
use Rattle.typing.specs.Blocks.{TheModule, OfProcedure, Block, Progress}
use Rattle.typing.specs.Statements.{with_here, with_constants}
use Rattle.typing.specs.Procedures.{own_block}
use Rattle.typing.specs.Modules.{inner_block, entered, module_block, at_the_beginning}
use Rattle.typing_rules.specs.Expressions.{ExpressionTyping}
use Rattle.typing_rules.specs.ExpressionFaults.{ExpressionFault, ValuesFault}
use Rattle.typing_rules.specs.ItemFaults.{ElementsFault}
use Rattle.typing_rules.specs.Modules.{StatementTyping, AloneTyping, DeclarationTyping, DeclarationsTyping}
use Rattle.typing_rules.specs.Names.{IsUnknown, IsProcedure, IsBuiltIn, IsNoProcedure, at_name}
use Rattle.typing_rules.specs.Procedures.{HeadingTyping, AreParameters, BodyStands}
use Rattle.typing_rules.specs.ProcedureFaults.{HeadingFault, ParameterFault, BodyFault}
use Rattle.typing_rules.specs.StatementFaults.{TargetsFault, HeadFault, LabelsFault}
use Rattle.typing_rules.specs.Statements.{TargetsTyping, HeadTyping, AreNewLabels}

mutual
  -- a statement, its labels aside
  pub data StatementFault : Block → Progress → StatementKindTree → Fault → Type 0 where
    in_targets : {block : Block} {progress : Progress} {targets : List ReferenceTree} {source : ExpressionTree}
        {fault : Fault}
        → TargetsFault progress.known progress.constants targets fault
        → StatementFault block progress (AssignmentStatement targets source) fault
    in_source : {block : Block} {progress : Progress} {targets : List ReferenceTree} {source : ExpressionTree}
        {destinations : List Destination} {middle : Constants} {fault : Fault}
        → TargetsTyping progress.known progress.constants targets destinations middle
        → ExpressionFault progress.known middle source fault
        → StatementFault block progress (AssignmentStatement targets source) fault
    -- C11
    call_of_unknown : {block : Block} {progress : Progress} {place : Place} {name : Identifier}
        {trees : ArgumentTrees}
        → IsUnknown progress.known name
        → StatementFault block progress (CallStatement place name trees) (at_name UnknownName name)
    -- C13: CALL of what is neither a procedure that is declared nor MOVE
    call_of_no_procedure : {block : Block} {progress : Progress} {place : Place} {name : Identifier}
        {trees : ArgumentTrees}
        → IsNoProcedure progress.known name
        → ¬ IsBuiltIn progress.known name Move
        → StatementFault block progress (CallStatement place name trees) (at_name CallOfNoProcedure name)
    -- C13: CALL of a procedure with a type
    call_of_typed : {block : Block} {progress : Progress} {place : Place} {name : Identifier}
        {trees : ArgumentTrees} {number : ℕ} {procedure : TypedProcedure} {result : ScalarType}
        → IsProcedure progress.known name number procedure
        → procedure.result ≡ Some result
        → StatementFault block progress (CallStatement place name trees) (at_name CallOfTyped name)
    -- C13: not as many arguments as parameters
    call_with_wrong_count : {block : Block} {progress : Progress} {place : Place} {name : Identifier}
        {trees : ArgumentTrees} {number : ℕ} {procedure : TypedProcedure}
        → IsProcedure progress.known name number procedure
        → procedure.result ≡ None
        → ¬ (number_of_arguments trees ≡ length procedure.parameter_types)
        → StatementFault block progress (CallStatement place name trees) (at_name ArgumentCount name)
    in_argument_of_call : {block : Block} {progress : Progress} {place : Place} {name : Identifier}
        {trees : ArgumentTrees} {number : ℕ} {procedure : TypedProcedure} {fault : Fault}
        → IsProcedure progress.known name number procedure
        → procedure.result ≡ None
        → number_of_arguments trees ≡ length procedure.parameter_types
        → ValuesFault progress.known progress.constants trees fault
        → StatementFault block progress (CallStatement place name trees) fault
    -- C13: MOVE takes three arguments
    move_with_wrong_count : {block : Block} {progress : Progress} {place : Place} {name : Identifier}
        {trees : ArgumentTrees}
        → IsBuiltIn progress.known name Move
        → ¬ (number_of_arguments trees ≡ 3)
        → StatementFault block progress (CallStatement place name trees) (at_name ArgumentCount name)
    in_argument_of_move : {block : Block} {progress : Progress} {place : Place} {name : Identifier}
        {trees : ArgumentTrees} {fault : Fault}
        → IsBuiltIn progress.known name Move
        → number_of_arguments trees ≡ 3
        → ValuesFault progress.known progress.constants trees fault
        → StatementFault block progress (CallStatement place name trees) fault
    -- C13: RETURN at the level of the module
    return_outside : {block : Block} {progress : Progress} {place : Place} {value : Option ExpressionTree}
        → block.owner ≡ TheModule
        → StatementFault block progress (ReturnStatement place value) (record { cause = ReturnOutside; place = place })
    -- C13: RETURN with a value in a procedure without a type, and without one in a procedure with a type
    value_for_no_type : {block : Block} {progress : Progress} {place : Place} {value : ExpressionTree}
        {number : ℕ} {heading : HeadingTree}
        → block.owner ≡ OfProcedure number heading
        → heading.result ≡ None
        → StatementFault block progress (ReturnStatement place (Some value)) (record { cause = ReturnMismatch; place = place })
    no_value_for_type : {block : Block} {progress : Progress} {place : Place} {number : ℕ}
        {heading : HeadingTree} {scalar : ScalarType}
        → block.owner ≡ OfProcedure number heading
        → heading.result ≡ Some scalar
        → StatementFault block progress (ReturnStatement place None) (record { cause = ReturnMismatch; place = place })
    in_returned_value : {block : Block} {progress : Progress} {place : Place} {value : ExpressionTree}
        {number : ℕ} {heading : HeadingTree} {scalar : ScalarType} {fault : Fault}
        → block.owner ≡ OfProcedure number heading
        → heading.result ≡ Some scalar
        → ExpressionFault progress.known progress.constants value fault
        → StatementFault block progress (ReturnStatement place (Some value)) fault
    -- C20
    unknown_label : {block : Block} {progress : Progress} {place : Place} {label : Identifier}
        → ((number : ℕ) → ¬ (jump_of progress.known.here label.name ≡ Declared (Label number)))
        → StatementFault block progress (GotoStatement place label) (at_name UnknownLabel label)
    in_condition : {block : Block} {progress : Progress} {place : Place} {condition : ExpressionTree}
        {body : StatementTree} {otherwise : ElseTree} {fault : Fault}
        → ExpressionFault progress.known progress.constants condition fault
        → StatementFault block progress (IfStatement place condition body otherwise) fault
    in_then : {block : Block} {progress : Progress} {place : Place} {condition : ExpressionTree}
        {body : StatementTree} {otherwise : ElseTree} {tested : TypedExpression} {constants : Constants}
        {fault : Fault}
        → ExpressionTyping progress.known progress.constants condition tested constants
        → AloneFault block (with_constants constants progress) body fault
        → StatementFault block progress (IfStatement place condition body otherwise) fault
    in_else : {block : Block} {progress middle : Progress} {place : Place} {condition : ExpressionTree}
        {body : StatementTree} {otherwise : ElseTree} {tested : TypedExpression} {constants : Constants}
        {chosen : TypedStatement} {fault : Fault}
        → ExpressionTyping progress.known progress.constants condition tested constants
        → AloneTyping block (with_constants constants progress) body chosen middle
        → ElseFault block middle otherwise fault
        → StatementFault block progress (IfStatement place condition body otherwise) fault
    in_declarations_of_do : {block : Block} {progress : Progress} {place : Place} {declared : DeclarationTrees}
        {body : StatementTrees} {fault : Fault}
        → DeclarationsFault (inner_block block) (entered progress) declared fault
        → StatementFault block progress (DoStatement place declared body) fault
    in_do : {block : Block} {progress opened : Progress} {place : Place} {declared : DeclarationTrees}
        {body : StatementTrees} {fault : Fault}
        → DeclarationsTyping (inner_block block) (entered progress) declared opened
        → ListFault (inner_block block) opened body fault
        → StatementFault block progress (DoStatement place declared body) fault
    in_head : {block : Block} {progress : Progress} {place : Place} {head : LoopHeadTree}
        {body : StatementTrees} {fault : Fault}
        → HeadFault progress.known progress.constants head fault
        → StatementFault block progress (LoopStatement place head body) fault
    in_loop : {block : Block} {progress : Progress} {place : Place} {head : LoopHeadTree}
        {body : StatementTrees} {headed : TypedHead} {constants : Constants} {fault : Fault}
        → HeadTyping progress.known progress.constants head headed constants
        → ListFault block (with_constants constants progress) body fault
        → StatementFault block progress (LoopStatement place head body) fault
    in_choice : {block : Block} {progress : Progress} {place : Place} {choice : ExpressionTree}
        {body : StatementTrees} {fault : Fault}
        → ExpressionFault progress.known progress.constants choice fault
        → StatementFault block progress (CaseStatement place choice body) fault
    in_cases : {block : Block} {progress : Progress} {place : Place} {choice : ExpressionTree}
        {body : StatementTrees} {chosen : TypedExpression} {constants : Constants} {fault : Fault}
        → ExpressionTyping progress.known progress.constants choice chosen constants
        → CasesFault block (with_constants constants progress) body fault
        → StatementFault block progress (CaseStatement place choice body) fault

  pub data AloneFault : Block → Progress → StatementTree → Fault → Type 0 where
    -- C19
    misplaced_label : {block : Block} {progress : Progress} {label : Identifier} {others : List Identifier}
        {kind : StatementKindTree}
        → AloneFault block progress (LabelledStatement (label ∷ others) kind) (at_name MisplacedLabel label)
    in_alone : {block : Block} {progress : Progress} {kind : StatementKindTree} {fault : Fault}
        → StatementFault block progress kind fault
        → AloneFault block progress (LabelledStatement [] kind) fault

  pub data ElseFault : Block → Progress → ElseTree → Fault → Type 0 where
    after_else : {block : Block} {progress : Progress} {body : StatementTree} {fault : Fault}
        → AloneFault block progress body fault
        → ElseFault block progress (ElseStatement body) fault

  pub data CasesFault : Block → Progress → StatementTrees → Fault → Type 0 where
    in_first_case : {block : Block} {progress : Progress} {first : StatementTree} {others : StatementTrees}
        {fault : Fault}
        → AloneFault block progress first fault
        → CasesFault block progress (MoreStatements first others) fault
    in_other_cases : {block : Block} {progress middle : Progress} {first : StatementTree}
        {others : StatementTrees} {typed : TypedStatement} {fault : Fault}
        → AloneTyping block progress first typed middle
        → CasesFault block middle others fault
        → CasesFault block progress (MoreStatements first others) fault

  pub data StatementsFault : Block → Progress → StatementTrees → Fault → Type 0 where
    in_labels : {block : Block} {progress : Progress} {labels : List Identifier} {kind : StatementKindTree}
        {others : StatementTrees} {fault : Fault}
        → LabelsFault progress.known.here labels fault
        → StatementsFault block progress (MoreStatements (LabelledStatement labels kind) others) fault
    in_first_statement : {block : Block} {progress : Progress} {here : Here} {labels : List Identifier}
        {kind : StatementKindTree} {others : StatementTrees} {fault : Fault}
        → AreNewLabels progress.known.here labels here
        → StatementFault block (with_here here progress) kind fault
        → StatementsFault block progress (MoreStatements (LabelledStatement labels kind) others) fault
    in_other_statements : {block : Block} {progress middle : Progress} {here : Here} {labels : List Identifier}
        {kind : StatementKindTree} {others : StatementTrees} {typed : TypedStatement} {fault : Fault}
        → AreNewLabels progress.known.here labels here
        → StatementTyping block (with_here here progress) kind typed middle
        → StatementsFault block middle others fault
        → StatementsFault block progress (MoreStatements (LabelledStatement labels kind) others) fault

  pub data ListFault : Block → Progress → StatementTrees → Fault → Type 0 where
    in_list : {block : Block} {progress : Progress} {trees : StatementTrees} {fault : Fault}
        → StatementsFault block (with_here (into_list (labels_of trees) progress.known.here) progress) trees fault
        → ListFault block progress trees fault

  pub data DeclarationFault : Block → Progress → DeclarationTree → Fault → Type 0 where
    in_declare : {block : Block} {progress : Progress} {elements : List ElementTree} {fault : Fault}
        → ElementsFault block progress elements fault
        → DeclarationFault block progress (DeclareTree elements) fault
    in_heading : {block : Block} {progress : Progress} {heading : HeadingTree} {declared : DeclarationTrees}
        {body : StatementTrees} {end_name : Option Identifier} {fault : Fault}
        → HeadingFault block heading progress fault
        → DeclarationFault block progress (ProcedureTree heading declared body end_name) fault
    in_own_declarations : {block : Block} {progress opened : Progress} {heading : HeadingTree}
        {declared : DeclarationTrees} {body : StatementTrees} {end_name : Option Identifier} {fault : Fault}
        → HeadingTyping block heading declared progress opened
        → DeclarationsFault (own_block heading progress) opened declared fault
        → DeclarationFault block progress (ProcedureTree heading declared body end_name) fault
    in_parameters : {block : Block} {progress opened within : Progress} {heading : HeadingTree}
        {declared : DeclarationTrees} {body : StatementTrees} {end_name : Option Identifier} {fault : Fault}
        → HeadingTyping block heading declared progress opened
        → DeclarationsTyping (own_block heading progress) opened declared within
        → ParameterFault within.known.here heading.parameters fault
        → DeclarationFault block progress (ProcedureTree heading declared body end_name) fault
    with_body : {block : Block} {progress opened within : Progress} {heading : HeadingTree}
        {declared : DeclarationTrees} {body : StatementTrees} {end_name : Option Identifier}
        {parameters : List ℕ} {fault : Fault}
        → HeadingTyping block heading declared progress opened
        → DeclarationsTyping (own_block heading progress) opened declared within
        → AreParameters within.known.here heading.parameters parameters
        → BodyFault heading body fault
        → DeclarationFault block progress (ProcedureTree heading declared body end_name) fault
    in_body : {block : Block} {progress opened within : Progress} {heading : HeadingTree}
        {declared : DeclarationTrees} {body : StatementTrees} {end_name : Option Identifier}
        {parameters : List ℕ} {fault : Fault}
        → HeadingTyping block heading declared progress opened
        → DeclarationsTyping (own_block heading progress) opened declared within
        → AreParameters within.known.here heading.parameters parameters
        → BodyStands heading body
        → ListFault (own_block heading progress) within body fault
        → DeclarationFault block progress (ProcedureTree heading declared body end_name) fault

  pub data DeclarationsFault : Block → Progress → DeclarationTrees → Fault → Type 0 where
    in_first_declaration : {block : Block} {progress : Progress} {first : DeclarationTree}
        {others : DeclarationTrees} {fault : Fault}
        → DeclarationFault block progress first fault
        → DeclarationsFault block progress (MoreDeclarations first others) fault
    in_other_declarations : {block : Block} {progress middle : Progress} {first : DeclarationTree}
        {others : DeclarationTrees} {fault : Fault}
        → DeclarationTyping block progress first middle
        → DeclarationsFault block middle others fault
        → DeclarationsFault block progress (MoreDeclarations first others) fault

-- a module: its declarations come first
pub data ModuleFault (tree : ModuleTree) : Fault → Type 0 where
  in_declarations : {fault : Fault}
      → DeclarationsFault module_block at_the_beginning tree.declarations fault
      → ModuleFault tree fault
  in_statements : {declared : Progress} {fault : Fault}
      → DeclarationsTyping module_block at_the_beginning tree.declarations declared
      → ListFault module_block declared tree.statements fault
      → ModuleFault tree fault
