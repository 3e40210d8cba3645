-- Expressions have the types that are asked of their parts.
use Rattle.typing.proofs.Prelude.{List, [], ◌∷◌, length, refl, length-append, arith, ScalarType, BinaryOperator, Multiply, Divide, Modulo, ConstantTree, NumberConstant, StringConstant, ExpressionTree, ConstantLeaf, ReferenceLeaf, LocationLeaf, ListLeaf, ParenthesizedNode, AssignmentNode, UnaryNode, BinaryNode, ReferenceTree, ReferenceTo, MemberTree, NoMember, MemberOf, ArgumentTrees, NoArguments, MoreArguments, TypedExpression, ListNode, TypedModule, Constants, type_of, Within, WorksOn, TypesHold, number_of_characters, bytes_of_constants, type_of_operands, binary_node, Known, destination_of, number_node, with_list, expression, given_reference, given_member, arguments}
use Rattle.typing.proofs.Kept.{Gives, gives_ok, in_turn, is_found}
use Rattle.typing.proofs.Types.TypesKept.{holding_at, holding_more, holding_both}
use Rattle.typing.proofs.Types.TypesOfReferences.{as_type_holds, number_holds, Sees, GivenHolds, MemberHolds, ReferenceHolds, ValueHolds, TargetHolds, value_holds, location_holds, target_holds}

constant_holds : (within : Within) (constant : ConstantTree)
    → Gives (λ node. (tables : TypedModule) → TypesHold tables within node) (number_node constant)
constant_holds within (NumberConstant number) = gives_ok (λ tables. number_holds number.value)
constant_holds within (StringConstant string) =
    in_turn (is_found (number_of_characters string.characters) _ _) (λ number e.
    gives_ok (λ tables. number_holds number))

works_on : (operator : BinaryOperator) (left right : ScalarType)
    → WorksOn operator (type_of_operands operator left right)
works_on Multiply left right = refl
works_on Divide left right = refl
works_on Modulo left right = refl
works_on operator left right = tt

binary_holds : (tables : TypedModule) (within : Within) (operator : BinaryOperator)
    (left right : TypedExpression)
    → TypesHold tables within left → TypesHold tables within right
    → TypesHold tables within (binary_node operator left right)
binary_holds tables within operator left right one other =
    let operands : ScalarType = type_of_operands operator (type_of left) (type_of right) in (
      works_on operator (type_of left) (type_of right),
      as_type_holds tables within operands left one,
      as_type_holds tables within operands right other,
    )

list_holds : (within : Within) (known : Known) (list : List ConstantTree) (constants : Constants)
    → ValueHolds within known constants (ListNode (length constants.lists), with_list list constants)
list_holds within known list constants =
    let longer = length-append constants.lists (bytes_of_constants list ∷ []) in
    record {
      grows = omega (arith, longer);
      says = λ tables has lists. omega (arith, lists, longer);
    }

module _ (within : Within) (known : Known) (sees : Sees within known) where
  mutual
    pub expression_holds : (tree : ExpressionTree) (constants : Constants)
        → Gives (ValueHolds within known constants) (expression known tree constants)
    expression_holds (ConstantLeaf constant) constants =
        in_turn (constant_holds within constant) (λ node is.
        gives_ok (holding_at (λ tables has. is tables)))
    expression_holds (ReferenceLeaf reference) constants =
        value_holds within known sees (given_reference known reference) constants (reference_holds reference)
    expression_holds (LocationLeaf reference) constants =
        location_holds within known sees (given_reference known reference) constants
        (reference_holds reference)
    expression_holds (ListLeaf list) constants = gives_ok (list_holds within known list constants)
    expression_holds (ParenthesizedNode inner) constants = expression_holds inner constants
    expression_holds (AssignmentNode target value) constants =
        in_turn (target_holds within known sees (given_reference known target) constants
        (reference_holds target))
        (λ destination to.
        in_turn (expression_holds value destination.1) (λ typed is.
        gives_ok (holding_both to is (λ tables has there holds. (holds, there (type_of typed.0))))))
    expression_holds (UnaryNode operator operand) constants =
        in_turn (expression_holds operand constants) (λ typed is.
        gives_ok (holding_more is (λ tables has holds. (holds, refl))))
    expression_holds (BinaryNode operator left right) constants =
        in_turn (expression_holds left constants) (λ first one.
        in_turn (expression_holds right first.1) (λ second other.
        gives_ok (holding_both one other (λ tables has holds more.
        binary_holds tables within operator first.0 second.0 holds more))))

    pub reference_holds : (reference : ReferenceTree)
        → ReferenceHolds within known (given_reference known reference)
    reference_holds (ReferenceTo name trees part) = (arguments_hold trees, member_holds part)

    member_holds : (part : MemberTree) → MemberHolds within known (given_member known part)
    member_holds NoMember = tt
    member_holds (MemberOf name trees) = arguments_hold trees

    pub arguments_hold : (trees : ArgumentTrees)
        → GivenHolds within known (record { trees = trees; typed = arguments known trees })
    arguments_hold NoArguments constants = gives_ok (holding_at (λ tables has. (refl, tt)))
    arguments_hold (MoreArguments first others) constants =
        in_turn (expression_holds first constants) (λ typed is.
        in_turn (arguments_hold others typed.1) (λ rest more.
        gives_ok (holding_both is more (λ tables has one are.
        (omega (arith, are.0), (one, are.1))))))

  -- what a value goes to
  pub destination_holds : (reference : ReferenceTree) (constants : Constants)
      → Gives (TargetHolds within known constants)
      (destination_of known (given_reference known reference) constants)
  destination_holds reference constants =
      target_holds within known sees (given_reference known reference) constants (reference_holds reference)
