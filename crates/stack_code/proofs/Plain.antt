-- What marks no place: the code of expressions.
use Rattle.stack_code.proofs.Prelude.{◌≡◌, ℕ, zero, suc, true, List, [], ◌∷◌, ◌++◌, replicate, Option, Some, None, refl, ScalarType, Address, BinaryOperator, TypedExpression, NumberNode, ValueNode, LocationNode, ListNode, ConversionNode, AssignmentNode, UnaryNode, BinaryNode, CallNode, FunctionNode, ShiftNode, InputNode, TypedReference, PartOf, Subscript, NoSubscript, At, TypedTarget, StoredIn, SentTo, TypedArguments, NoArguments, MoreArguments, Home, BasedOn, InFrame, InProgram, home_of, callee_in, FramePart, Instruction, Purpose, ToRead, ToWrite, ToLocate, Site, added_to_bytes, arguments_code, called_code, count_of_arguments, expression_code, index_code, instruction_at, instruction_after, instruction_of_frame, number_in, operator_code, part_at, part_code, reference_code, scalar_code, scaled_code, summed, surroundings_at, target_code, targets_code, value_or, variable_code, AllPlain, is_plain}
use Rattle.stack_code.specs.declared.instruction.Instruction.TheVariants as instructions

pub plain_append : (one other : List Instruction) → AllPlain one → AllPlain other → AllPlain (one ++ other)
plain_append [] other first second = second
plain_append (instruction ∷ one) other first second = (first.0, plain_append one other first.1 second)

module _ (site : Site) where
  plain_at : (purpose : Purpose) (address : ℕ) → is_plain (instruction_at purpose address) ≡ true
  plain_at (ToRead scalar) address = refl
  plain_at (ToWrite scalar) address = refl
  plain_at ToLocate address = refl

  plain_after : (purpose : Purpose) (number : ℕ) → is_plain (instruction_after purpose number) ≡ true
  plain_after (ToRead scalar) number = refl
  plain_after (ToWrite scalar) number = refl
  plain_after ToLocate number = refl

  plain_frame : (purpose : Purpose) (part : FramePart) → is_plain (instruction_of_frame purpose part) ≡ true
  plain_frame (ToRead scalar) part = refl
  plain_frame (ToWrite scalar) part = refl
  plain_frame ToLocate part = refl

  plain_scalar : (home : Home) (purpose : Purpose) (object : ℕ)
      → is_plain (scalar_code site purpose home object) ≡ true
  plain_scalar (InFrame procedure) purpose object = plain_frame purpose _
  plain_scalar home purpose object = plain_at purpose _

  pub plain_variable : (purpose : Purpose) (object : ℕ)
      → is_plain (variable_code site purpose object) ≡ true
  plain_variable purpose object = plain_scalar (home_of (surroundings_at site) object) purpose object

  plain_summed : (first second : Subscript) → AllPlain (summed first second)
  plain_summed NoSubscript NoSubscript = tt
  plain_summed NoSubscript (At stride count index) = tt
  plain_summed (At stride count index) NoSubscript = tt
  plain_summed (At stride count index) (At other_stride other_count other_index) = (refl, tt)

  plain_added : (first second : Subscript) → AllPlain (added_to_bytes first second)
  plain_added NoSubscript NoSubscript = tt
  plain_added NoSubscript (At stride count index) = (refl, tt)
  plain_added (At stride count index) NoSubscript = (refl, tt)
  plain_added (At stride count index) (At other_stride other_count other_index) = (refl, tt)

  plain_part_at : (purpose : Purpose) (address : ℕ) (first second : Subscript) (bytes : List Instruction)
      → AllPlain bytes → AllPlain (part_at purpose address first second bytes)
  plain_part_at purpose address NoSubscript NoSubscript bytes plain = (plain_at purpose address, tt)
  plain_part_at purpose address NoSubscript (At stride count index) bytes plain =
      plain_append bytes _ plain (plain_after purpose address, tt)
  plain_part_at purpose address (At stride count index) NoSubscript bytes plain =
      plain_append bytes _ plain (plain_after purpose address, tt)
  plain_part_at purpose address (At stride count index) (At other_stride other_count other_index) bytes
      plain = plain_append bytes _ plain (plain_after purpose address, tt)

  plain_part : (home : Home) (purpose : Purpose) (object offset : ℕ) (first second : Subscript)
      (indices bytes : List Instruction) → AllPlain indices → AllPlain bytes
      → AllPlain (part_code site purpose home object offset first second indices bytes)
  plain_part (InFrame procedure) purpose object offset first second indices bytes one two =
      plain_append indices _ one (plain_frame purpose _, tt)
  plain_part (BasedOn base) purpose object offset first second indices bytes one two =
      plain_append bytes _ two
      (plain_variable (ToRead Address) base, plain_append (added_to_bytes first second) _ (plain_added first second) (plain_after purpose _, tt))
  plain_part home purpose object offset first second indices bytes one two =
      plain_part_at purpose _ first second bytes two

  plain_drops : (count : ℕ) → AllPlain (replicate count instructions.Drop)
  plain_drops zero = tt
  plain_drops (suc count) = (refl, plain_drops count)

  pub plain_called : (callee : Option InProgram) (count : ℕ) → AllPlain (called_code callee count)
  plain_called (Some callee) count = (refl, tt)
  plain_called None count = plain_append (replicate count instructions.Drop) _ (plain_drops count) (refl, tt)

  plain_operator : (operands : ScalarType) (operator : BinaryOperator) (number : Option ℕ)
      (right : List Instruction) → AllPlain right → AllPlain (operator_code operands operator number right)
  plain_operator operands operator (Some number) right plain = (refl, tt)
  plain_operator operands operator None right plain = plain_append right _ plain (refl, tt)

  mutual
    pub plain_expression : (expression : TypedExpression) → AllPlain (expression_code site expression)
    plain_expression (NumberNode scalar number origin) = (refl, tt)
    plain_expression (ValueNode scalar reference) = plain_reference reference (ToRead scalar)
    plain_expression (LocationNode reference) = plain_reference reference ToLocate
    plain_expression (ListNode list) = (refl, tt)
    plain_expression (ConversionNode scalar inner) =
        plain_append (expression_code site inner) _ (plain_expression inner) (refl, tt)
    plain_expression (AssignmentNode target inner) =
        plain_append (expression_code site inner) _ (plain_expression inner) (plain_target target)
    plain_expression (UnaryNode scalar operator operand) =
        plain_append (expression_code site operand) _ (plain_expression operand) (refl, tt)
    plain_expression (BinaryNode operands operator left right) =
        plain_append (expression_code site left) _ (plain_expression left)
        (plain_operator operands operator (number_in right) (expression_code site right)
        (plain_expression right))
    plain_expression (CallNode procedure scalar arguments) =
        plain_append (arguments_code site arguments) _ (plain_arguments arguments)
        (plain_called (callee_in (surroundings_at site) procedure) (count_of_arguments arguments))
    plain_expression (FunctionNode function operand) =
        plain_append (expression_code site operand) _ (plain_expression operand) (refl, tt)
    plain_expression (ShiftNode scalar function shift_of count) =
        plain_append (expression_code site shift_of) _ (plain_expression shift_of)
        (plain_append (expression_code site count) _ (plain_expression count) (refl, tt))
    plain_expression (InputNode port) = (refl, tt)

    pub plain_arguments : (arguments : TypedArguments) → AllPlain (arguments_code site arguments)
    plain_arguments NoArguments = tt
    plain_arguments (MoreArguments argument others) =
        plain_append (expression_code site argument) _ (plain_expression argument) (plain_arguments others)

    plain_reference : (reference : TypedReference) (purpose : Purpose)
        → AllPlain (reference_code site purpose reference)
    plain_reference (PartOf object one member offset two) purpose =
        plain_part (home_of (surroundings_at site) object) purpose object offset one two _ _
        (plain_append (index_code site one) _ (plain_index one) (plain_index two))
        (plain_append (scaled_code site one) _ (plain_scaled one)
        (plain_append (scaled_code site two) _ (plain_scaled two) (plain_summed one two)))

    plain_index : (subscript : Subscript) → AllPlain (index_code site subscript)
    plain_index NoSubscript = tt
    plain_index (At stride count index) = plain_expression index

    plain_scaled : (subscript : Subscript) → AllPlain (scaled_code site subscript)
    plain_scaled NoSubscript = tt
    plain_scaled (At stride count index) =
        plain_append (expression_code site index) _ (plain_expression index) (refl, tt)

    plain_target : (target : TypedTarget) → AllPlain (target_code site target)
    plain_target (StoredIn was scalar reference) = plain_reference reference (ToWrite scalar)
    plain_target (SentTo was port) = (refl, tt)

  pub plain_targets : (targets : List TypedTarget) → AllPlain (targets_code site targets)
  plain_targets [] = tt
  plain_targets (target ∷ others) =
      plain_append (target_code site target) _ (plain_target target) (plain_targets others)

  pub plain_value_or : (number : ℕ) (expression : Option TypedExpression)
      → AllPlain (value_or site number expression)
  plain_value_or number None = (refl, tt)
  plain_value_or number (Some expression) = plain_expression expression
