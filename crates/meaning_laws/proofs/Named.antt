-- What the statements and expressions of a soundly typed module name is there.
use Rattle.meaning_laws.proofs.Prelude.{◌≡◌, List, [], ◌∷◌, Option, Some, None, slice_get, IfSome, enumerate_from, All-weaker, recursion_from_All, ScalarType, type_of, TypedExpression, NumberNode, ValueNode, LocationNode, ListNode, ConversionNode, AssignmentNode, UnaryNode, BinaryNode, CallNode, FunctionNode, ShiftNode, InputNode, TypedReference, PartOf, Subscript, NoSubscript, At, TypedTarget, StoredIn, SentTo, TypedArguments, NoArguments, MoreArguments, TypedIteration, TypedHead, TypedStatement, LabelStatement, NullStatement, AssignmentStatement, CallStatement, MoveStatement, ReturnStatement, HaltStatement, GotoStatement, IfStatement, DoStatement, LoopStatement, CaseStatement, TypedElse, NoElse, ElseStatement, TypedStatements, NoStatements, MoreStatements, TypedList, ListOf, TypedModule, Within, WithinProcedure, WithinMain, IsReturned, TypesHold, TypesHoldIn, TypesHoldInArguments, TypesHoldInElse, TypesHoldInHead, TypesHoldInIteration, TypesHoldInList, TypesHoldInProcedure, TypesHoldInReference, TypesHoldInStatements, TypesHoldInSubscript, TypesHoldInTarget, TypesHoldInTargets, IsSoundlyTyped, Surroundings, IsWhole, ReferenceIsMeant, at_place}
use Rattle.typed_trees.proofs.Heads.{head_gives}
use Rattle.meaning_laws.specs.internal.Named.{AreNamed, AreNamedIn, AreNamedInArguments, AreNamedInElse, AreNamedInHead, AreNamedInIteration, AreNamedInList, AreNamedInProcedure, AreNamedInReference, AreNamedInStatements, AreNamedInSubscript, AreNamedInTarget, AreNamedInTargets, NamesAreMeant}
use Rattle.meaning_laws.proofs.Calls.{call_is_meant}
use Rattle.meaning_laws.proofs.Names.{list_is_placed}
use Rattle.meaning_laws.proofs.References.{counter_is_meant, location_is_meant, scalar_is_meant}

module _ (around : Surroundings) (whole : IsWhole around.program) (typed : TypedModule) (within : Within)
    (here : slice_get around.program.modules around.number_of_module ≡ Some typed) where
  mutual
    in_expression : (expression : TypedExpression) → TypesHold typed within expression
        → AreNamed around typed within expression
    in_expression (NumberNode scalar number origin) fits = tt
    in_expression (ValueNode scalar reference) (refers, parts) =
        in_reference reference
        (scalar_is_meant around.program whole around.number_of_module typed within here scalar
        reference refers) parts
    in_expression (LocationNode reference) (refers, parts) =
        in_reference reference
        (location_is_meant around.program whole around.number_of_module typed within here reference refers)
        parts
    in_expression (ListNode list) below =
        list_is_placed around.program whole around.number_of_module list typed here below
    in_expression (ConversionNode scalar inner) fits = in_expression inner fits
    in_expression (AssignmentNode target inner) (fits, into) =
        (in_expression inner fits, in_target (type_of inner) target into)
    in_expression (UnaryNode scalar operator operand) (fits, its_type) = in_expression operand fits
    in_expression (BinaryNode operands operator left right) (works, (first, one), (second, other)) =
        (in_expression left first, in_expression right second)
    in_expression (CallNode procedure scalar arguments) (takes, fits) =
        (call_is_meant around whole typed procedure (Some scalar) arguments here takes, in_arguments arguments fits)
    in_expression (FunctionNode function operand) fits = in_expression operand fits
    in_expression (ShiftNode scalar function shifted count) (shifts, (first, one), (second, other)) =
        (in_expression shifted first, in_expression count second)
    in_expression (InputNode port) fits = tt

    in_reference : (reference : TypedReference)
        → ReferenceIsMeant around.program around.number_of_module typed within reference
        → TypesHoldInReference typed within reference → AreNamedInReference around typed within reference
    in_reference (PartOf object subscript member offset member_subscript) meant (one, other) =
        (meant, in_subscript subscript one, in_subscript member_subscript other)

    in_subscript : (subscript : Subscript) → TypesHoldInSubscript typed within subscript
        → AreNamedInSubscript around typed within subscript
    in_subscript NoSubscript fits = tt
    in_subscript (At stride count index) (fits, its_type) = in_expression index fits

    in_target : (scalar : ScalarType) (target : TypedTarget) → TypesHoldInTarget typed within scalar target
        → AreNamedInTarget around typed within target
    in_target scalar (StoredIn from to reference) (same, refers, parts) =
        in_reference reference
        (scalar_is_meant around.program whole around.number_of_module typed within here to reference refers)
        parts
    in_target scalar (SentTo from port) same = tt

    in_arguments : (arguments : TypedArguments) → TypesHoldInArguments typed within arguments
        → AreNamedInArguments around typed within arguments
    in_arguments NoArguments fits = tt
    in_arguments (MoreArguments first others) (fits, rest) =
        (in_expression first fits, in_arguments others rest)

  in_targets : (scalar : ScalarType) (targets : List TypedTarget)
      → TypesHoldInTargets typed within scalar targets
      → AreNamedInTargets around typed within targets
  in_targets scalar [] fits = tt
  in_targets scalar (first ∷ others) (fits, rest) =
      (in_target scalar first fits, in_targets scalar others rest)

  in_some : (expression : Option TypedExpression) → IfSome expression (TypesHold typed within)
      → IfSome expression (AreNamed around typed within)
  in_some None fits = tt
  in_some (Some expression) fits = in_expression expression fits

  in_iteration : (head : TypedIteration) → TypesHoldInIteration typed within head
      → AreNamedInIteration around typed within head
  in_iteration head (counts, first, last, step) = (
    counter_is_meant around.program whole around.number_of_module typed within here head counts,
    in_expression head.first first,
    in_expression head.last last,
    in_some head.step step,
  )

  in_head : (head : TypedHead) → TypesHoldInHead typed within head
      → AreNamedInHead around typed within head
  in_head head fits = head_gives in_expression in_iteration head fits

module _ (around : Surroundings) (whole : IsWhole around.program) (typed : TypedModule)
    (here : slice_get around.program.modules around.number_of_module ≡ Some typed) where
  in_returned : (within : Within) (expression : Option TypedExpression) → IsReturned typed within expression
      → IfSome expression (AreNamed around typed within)
  in_returned within None fits = tt
  in_returned (WithinProcedure number None) (Some expression) fits = absurd fits
  in_returned (WithinProcedure number (Some scalar)) (Some expression) (fits, its_type) =
      in_expression around whole typed (WithinProcedure number (Some scalar)) here expression fits
  in_returned WithinMain (Some expression) fits = absurd fits

  module _ (within : Within) where
    mutual
      in_statement : (statement : TypedStatement) → TypesHoldIn typed within statement
          → AreNamedIn around typed within statement
      in_statement (LabelStatement label) fits = tt
      in_statement NullStatement fits = tt
      in_statement (AssignmentStatement targets expression) (fits, into) = (
        in_expression around whole typed within here expression fits,
        in_targets around whole typed within here (type_of expression) targets into,
      )
      in_statement (CallStatement procedure arguments) (takes, fits) = (
        call_is_meant around whole typed procedure None arguments here takes,
        in_arguments around whole typed within here arguments fits,
      )
      in_statement (MoveStatement count source destination) ((first, one), (second, two), (third, three)) = (
        in_expression around whole typed within here count first,
        in_expression around whole typed within here source second,
        in_expression around whole typed within here destination third,
      )
      in_statement (ReturnStatement expression) fits = in_returned within expression fits
      in_statement HaltStatement fits = tt
      in_statement (GotoStatement label) fits = tt
      in_statement (IfStatement condition body otherwise) (fits, first, second) = (
        in_expression around whole typed within here condition fits,
        in_statement body first,
        in_else otherwise second,
      )
      in_statement (DoStatement body) fits = in_list body fits
      in_statement (LoopStatement head body) (fits, rest) =
          (in_head around whole typed within here head fits, in_list body rest)
      in_statement (CaseStatement choice statements) (fits, rest) =
          (in_expression around whole typed within here choice fits, in_statements statements rest)

      in_else : (otherwise : TypedElse) → TypesHoldInElse typed within otherwise
          → AreNamedInElse around typed within otherwise
      in_else NoElse fits = tt
      in_else (ElseStatement statement) fits = in_statement statement fits

      in_statements : (statements : TypedStatements) → TypesHoldInStatements typed within statements
          → AreNamedInStatements around typed within statements
      in_statements NoStatements fits = tt
      in_statements (MoreStatements first others) (fits, rest) =
          (in_statement first fits, in_statements others rest)

      in_list : (list : TypedList) → TypesHoldInList typed within list
          → AreNamedInList around typed within list
      in_list (ListOf first places statements) fits = in_statements statements fits

  -- all that the bodies of a module of a whole program name
  pub names_are_meant : NamesAreMeant around typed
  names_are_meant =
      let sound : IsSoundlyTyped typed =
      at_place IsSoundlyTyped around.program.modules around.number_of_module typed
      (recursion_from_All IsSoundlyTyped around.program.modules whole.sound) here in
      record {
        procedures = All-weaker (TypesHoldInProcedure typed) (AreNamedInProcedure around typed)
            (λ numbered fits.
            in_list (WithinProcedure numbered.0 (numbered.1).result) (numbered.1).body fits)
            (enumerate_from 0 typed.procedures) (sound.types).procedures;
        main = in_list WithinMain typed.main.body (sound.types).main;
      }
