-- Taking the conversions away from a typed expression gives back the tree that it was typed from.
use Rattle.typing.proofs.Prelude.{◌≡◌, List, [], ◌∷◌, length, refl, sym, ap, ◌∙◌, unwrap_or, ◌&&◌, is_none, Identifier, Place, ConstantTree, NumberConstant, StringConstant, ExpressionTree, ConstantLeaf, ReferenceLeaf, LocationLeaf, ListLeaf, ParenthesizedNode, AssignmentNode, UnaryNode, BinaryNode, ReferenceTree, ReferenceTo, MemberTree, NoMember, MemberOf, ArgumentTrees, NoArguments, MoreArguments, Binding, Declared, Object, ListNode, TypedProcedure, TypedModule, Constants, type_of, type_of_operands, NoCounter, Known, Given, place_of, scalar_of, is_writable, destination_of, call_arguments, require, is_not_based, Counter, counter_bound, Agrees, number_of_characters, bytes_of_constants, number_node, with_list, expression, given_reference, given_member, arguments, untyped_expression, untyped_arguments, plain_expression, plain_arguments, plain_member, plain_reference, byte_list, named, number_in, number_leaf, object_name, got_first}
use Rattle.typing.proofs.Kept.{Gives, then_more, anything, gives_ok, gives_fault, in_turn, is_found, kept_at, kept_more, kept_both}
use Rattle.typing.proofs.ReferencesBack.{as_type_back, plain_given, plain_given_member, GivesTree, MemberBack, ReferenceBack, GivesTarget, call_arguments_kept, value_back, location_back, target_back}
use Rattle.typing.proofs.Tables.{keeps_append}
use Rattle.typing.proofs.NamesBack.{Binds, is_object}

-- a reference of the text, as it is given
plain_member_given : (known : Known) (part : MemberTree)
    → plain_given_member (given_member known part) ≡ plain_member part
plain_member_given known NoMember = refl
plain_member_given known (MemberOf name trees) = refl

plain_reference_given : (known : Known) (reference : ReferenceTree)
    → plain_given (given_reference known reference) ≡ plain_reference reference
plain_reference_given known (ReferenceTo name trees part) =
    ap (λ found. ReferenceTo (named name.name) (plain_arguments trees) found) (plain_member_given known part)

target_given : (known : Known) (reference : ReferenceTree) (constants : Constants)
    → ReferenceBack known (given_reference known reference)
    → Gives (GivesTarget known (plain_reference reference) constants)
    (destination_of known (given_reference known reference) constants)
target_given known reference constants back =
    then_more (target_back known (given_reference known reference) constants back) (λ found kept.
    kept_more kept (λ tables agrees is from. is from ∙ plain_reference_given known reference))

-- constants and constant lists
constant_back : (constant : ConstantTree)
    → Gives (λ node. (tables : TypedModule)
    → untyped_expression tables node ≡ number_leaf (number_in constant))
    (number_node constant)
constant_back (NumberConstant number) = gives_ok (λ tables. refl)
constant_back (StringConstant string) =
    in_turn (is_found (number_of_characters string.characters) _ _) (λ number e.
    gives_ok (λ tables. ap (λ found. number_leaf (unwrap_or found 0)) (sym e)))

list_kept : (known : Known) (list : List ConstantTree) (constants : Constants)
    → GivesTree known untyped_expression (plain_expression (ListLeaf list)) constants
    (ListNode (length constants.lists), with_list list constants)
list_kept known list constants = record {
  grows = λ number bytes e. keeps_append constants.lists (bytes_of_constants list ∷ []) number bytes e;
  says = λ tables agrees has.
      ap (λ found. byte_list (unwrap_or found []))
      (has (length constants.lists) (bytes_of_constants list)
      (got_first constants.lists (bytes_of_constants list) []));
}

mutual
  pub expression_kept : (known : Known) (tree : ExpressionTree) (constants : Constants)
      → Gives (GivesTree known untyped_expression (plain_expression tree) constants)
      (expression known tree constants)
  expression_kept known (ConstantLeaf constant) constants =
      in_turn (constant_back constant) (λ node is.
      gives_ok (kept_at (λ tables agrees. is tables)))
  expression_kept known (ReferenceLeaf reference) constants =
      then_more
      (value_back known (given_reference known reference) constants (reference_kept known reference))
      (λ found kept.
      kept_more kept (λ tables agrees is. is ∙ ap ReferenceLeaf (plain_reference_given known reference)))
  expression_kept known (LocationLeaf reference) constants =
      then_more
      (location_back known (given_reference known reference) constants (reference_kept known reference))
      (λ found kept.
      kept_more kept (λ tables agrees is. is ∙ ap LocationLeaf (plain_reference_given known reference)))
  expression_kept known (ListLeaf list) constants = gives_ok (list_kept known list constants)
  expression_kept known (ParenthesizedNode inner) constants = expression_kept known inner constants
  expression_kept known (AssignmentNode target value) constants =
      in_turn (target_given known target constants (reference_kept known target)) (λ destination kept.
      in_turn (expression_kept known value destination.1) (λ typed more.
      gives_ok (kept_both kept more (λ tables agrees to is.
      let there = to (type_of typed.0) in
      cc))))
  expression_kept known (UnaryNode operator operand) constants =
      in_turn (expression_kept known operand constants) (λ typed kept.
      gives_ok (kept_more kept (λ tables agrees is. ap (UnaryNode operator) is)))
  expression_kept known (BinaryNode operator left right) constants =
      in_turn (expression_kept known left constants) (λ first kept.
      in_turn (expression_kept known right first.1) (λ second more.
      gives_ok (kept_both kept more (λ tables agrees one other.
      let scalar = type_of_operands operator (type_of first.0) (type_of second.0) in
      let one_more = as_type_back tables scalar first.0 in
      let other_more = as_type_back tables scalar second.0 in
      cc))))

  pub reference_kept : (known : Known) (reference : ReferenceTree)
      → ReferenceBack known (given_reference known reference)
  reference_kept known (ReferenceTo name trees part) = (arguments_kept known trees, member_kept known part)

  member_kept : (known : Known) (part : MemberTree) → MemberBack known (given_member known part)
  member_kept known NoMember = tt
  member_kept known (MemberOf name trees) = arguments_kept known trees

  pub arguments_kept : (known : Known) (trees : ArgumentTrees) (constants : Constants)
      → Gives (GivesTree known untyped_arguments (plain_arguments trees) constants)
      (arguments known trees constants)
  arguments_kept known NoArguments constants = gives_ok (kept_at (λ tables agrees. refl))
  arguments_kept known (MoreArguments first others) constants =
      in_turn (expression_kept known first constants) (λ typed kept.
      in_turn (arguments_kept known others typed.1) (λ rest more.
      gives_ok (kept_both kept more (λ tables agrees one other. cc))))

-- what a value goes to
pub target_kept : (known : Known) (reference : ReferenceTree) (constants : Constants)
    → Gives (GivesTarget known (plain_reference reference) constants)
    (destination_of known (given_reference known reference) constants)
target_kept known reference constants =
    target_given known reference constants (reference_kept known reference)

-- the arguments of a call
abbrev pub given_arguments : Known → ArgumentTrees → Given
given_arguments known trees = record { trees = trees; typed = arguments known trees }

pub call_kept : (known : Known) (procedure : TypedProcedure) (place : Place) (trees : ArgumentTrees)
    (constants : Constants)
    → Gives (GivesTree known untyped_arguments (plain_arguments trees) constants)
    (call_arguments procedure place (given_arguments known trees) constants)
call_kept known procedure place trees constants =
    call_arguments_kept known procedure place (given_arguments known trees) constants
    (arguments_kept known trees)

-- the variable of an iterative DO
pub counter_named : (known : Known) (binding : Binding) (name : Identifier)
    → Binds known name binding
    → Gives (λ (counter : Counter). (tables : TypedModule) → Agrees tables known
    → object_name tables counter.object ≡ name.name) (counter_bound known binding name)
counter_named known (Declared (Object number)) name bound_to =
    in_turn (is_object known name number bound_to) (λ object stands.
    in_turn (anything (is_writable object name)) (λ _ _.
    in_turn (anything (require (is_none object.dimension && is_not_based object.home) NoCounter
    (place_of name))) (λ _ _.
    in_turn (is_found (scalar_of object.object_type) _ _) (λ scalar _.
    gives_ok (λ tables agrees. (stands.in_tables tables agrees).0)))))
counter_named known binding name bound_to = gives_fault
