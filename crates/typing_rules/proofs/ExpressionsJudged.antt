-- Expressions: what the typing gives of one has a typing by the rules, and the fault that it gives is one of
-- the rules.
use Rattle.typing_rules.proofs.Prelude.{◌≡◌, ℕ, ◌+◌, ◌*◌, List, [], ◌∷◌, Some, None, refl, ap, subst, ConstantTree, NumberConstant, StringConstant, StringTree, ExpressionTree, ConstantLeaf, ReferenceLeaf, LocationLeaf, ListLeaf, ParenthesizedNode, AssignmentNode, UnaryNode, BinaryNode, ReferenceTo, MemberTree, NoMember, MemberOf, ArgumentTrees, NoArguments, MoreArguments, Constants, StringNotNumber, number_of_characters, number_node, expression, Known, IsNumber, digits, one_character, two_characters, ExpressionTyping, constant, constant_list, parenthesized, embedded_assignment, unary, binary, no_values, next_value, IsNoNumber, ExpressionFault, no_number, in_value, in_location, in_parentheses, in_target, in_assigned_value, in_operand, in_left, in_right, in_first, in_others}
use Rattle.typing_rules.proofs.Judged.{Judged, judged_ok, then_judged, judged_more, then_found}
use Rattle.typing_rules.proofs.ReferencesJudged.{ValuesJudged, MemberJudged, value_judged, location_judged, target_judged}

-- strings as numbers
pub string_is_number : (string : StringTree) (number : ℕ) (characters : List ℕ)
    → string.characters ≡ characters
    → number_of_characters characters ≡ Some number
    → IsNumber (StringConstant string) number
string_is_number string number [] is e = absurd cc
string_is_number string number (character ∷ []) is e =
    let same : character ≡ number = cc in
    subst (λ it. IsNumber (StringConstant string) it) same (one_character is)
string_is_number string number (high ∷ low ∷ []) is e =
    let same : 256 * high + low ≡ number = cc in
    subst (λ it. IsNumber (StringConstant string) it) same (two_characters is)
string_is_number string number (first ∷ second ∷ third ∷ others) is e = absurd cc

pub string_is_none : (string : StringTree) → number_of_characters string.characters ≡ None → IsNoNumber string
string_is_none string none = record {
  not_one = λ character is.
      let some : number_of_characters string.characters ≡ Some character = ap number_of_characters is in
      absurd cc;
  not_two = λ high low is.
      let some : number_of_characters string.characters ≡ Some (256 * high + low) =
      ap number_of_characters is in
      absurd cc;
}

node_judged : (known : Known) (leaf : ConstantTree) (before : Constants)
    → Judged (λ node. ExpressionTyping known before (ConstantLeaf leaf) node before)
    (ExpressionFault known before (ConstantLeaf leaf))
    (number_node leaf)
node_judged known (NumberConstant number) before = judged_ok (constant digits)
node_judged known (StringConstant string) before =
    then_found (number_of_characters string.characters) StringNotNumber string.place
    (λ none. no_number (string_is_none string none))
    (λ number some. judged_ok (constant (string_is_number string number string.characters refl some)))

mutual
  pub expression_judged : (known : Known) (tree : ExpressionTree) (before : Constants)
      → Judged (λ found. ExpressionTyping known before tree found.0 found.1)
      (ExpressionFault known before tree)
      (expression known tree before)
  expression_judged known (ConstantLeaf leaf) before =
      then_judged (node_judged known leaf before) (λ fault is. is) (λ node is. judged_ok is)
  expression_judged known (ReferenceLeaf (ReferenceTo name trees part)) before =
      judged_more
      (value_judged known name trees part before (values_judged known trees)
      (its_values_judged known part))
      (λ fault is. in_value is) (λ found is. is)
  expression_judged known (LocationLeaf (ReferenceTo name trees part)) before =
      judged_more
      (location_judged known name trees part before (values_judged known trees)
      (its_values_judged known part))
      (λ fault is. in_location is) (λ found is. is)
  expression_judged known (ListLeaf list) before = judged_ok constant_list
  expression_judged known (ParenthesizedNode inner) before =
      judged_more (expression_judged known inner before) (λ fault is. in_parentheses is)
      (λ found is. parenthesized is)
  expression_judged known (AssignmentNode (ReferenceTo name trees part) value) before =
      then_judged
      (target_judged known name trees part before (values_judged known trees)
      (its_values_judged known part))
      (λ fault is. in_target is) (λ destination target.
      then_judged (expression_judged known value destination.1)
      (λ fault is. in_assigned_value target is) (λ typed is.
      judged_ok (embedded_assignment target is)))
  expression_judged known (UnaryNode operator operand) before =
      then_judged (expression_judged known operand before) (λ fault is. in_operand is)
      (λ typed is. judged_ok (unary is))
  expression_judged known (BinaryNode operator left right) before =
      then_judged (expression_judged known left before) (λ fault is. in_left is) (λ first one.
      then_judged (expression_judged known right first.1) (λ fault is. in_right one is) (λ second other.
      judged_ok (binary one other)))

  pub values_judged : (known : Known) (trees : ArgumentTrees) → ValuesJudged known trees
  values_judged known NoArguments before = judged_ok no_values
  values_judged known (MoreArguments first others) before =
      then_judged (expression_judged known first before) (λ fault is. in_first is) (λ typed one.
      then_judged (values_judged known others typed.1) (λ fault is. in_others one is) (λ rest more.
      judged_ok (next_value one more)))

  pub its_values_judged : (known : Known) (part : MemberTree) → MemberJudged known part
  its_values_judged known NoMember = tt
  its_values_judged known (MemberOf name trees) = values_judged known trees
