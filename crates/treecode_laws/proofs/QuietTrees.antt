-- Quiet expressions change nothing, and their values depend only on memory and frame.
use Rattle.treecode_laws.proofs.Prelude.{◌≡◌, ◌+◌, ◌&&◌, true, and_parts, false≢true, TypedExpression, NumberNode, ValueNode, LocationNode, ListNode, ConversionNode, AssignmentNode, UnaryNode, BinaryNode, CallNode, FunctionNode, ShiftNode, InputNode, TypedReference, PartOf, Subscript, NoSubscript, At, Surroundings, home_of, read_scalar, Later, address_in_memory, address_of_list, based_place, computed, displaced, displacement, located, no_displacement, value, State, Gave, then_do, as_type, function_of, result_of, result_of_one, shifted, IsQuiet, is_quiet, part_is_quiet, index_is_quiet}
use Rattle.treecode_laws.proofs.Evaluating.{quiet_base, quiet_computed, quiet_gave, quiet_scalar, quiet_then}

module _ (later : Later) (around : Surroundings) where
  mutual
    -- the value of a quiet expression
    pub quiet_value : (tree : TypedExpression) → is_quiet tree ≡ true
        → IsQuiet (λ (s : State). value later around tree s)
    quiet_value (NumberNode scalar number origin) quiet = quiet_gave number
    quiet_value (ValueNode scalar reference) quiet =
        quiet_then (λ s. located later around reference s)
        (λ place t. read_scalar around.program scalar place t)
        (quiet_location reference quiet) (λ place. quiet_scalar around.program scalar place)
    quiet_value (LocationNode reference) quiet =
        quiet_then (λ s. located later around reference s) (λ place t. Gave (address_in_memory place) t)
        (quiet_location reference quiet) (λ place. quiet_gave (address_in_memory place))
    quiet_value (ListNode list) quiet = quiet_gave (address_of_list around list)
    quiet_value (ConversionNode scalar inner) quiet =
        quiet_then (λ s. value later around inner s) (λ number t. Gave (as_type scalar number) t)
        (quiet_value inner quiet) (λ number. quiet_gave (as_type scalar number))
    quiet_value (AssignmentNode target inner) quiet = absurd (false≢true quiet)
    quiet_value (UnaryNode scalar operator operand) quiet =
        quiet_then (λ s. value later around operand s)
        (λ number t. Gave (result_of_one scalar operator number) t)
        (quiet_value operand quiet) (λ number. quiet_gave (result_of_one scalar operator number))
    quiet_value (BinaryNode operands operator left right) quiet =
        let both : _ = and_parts (is_quiet left) (is_quiet right) quiet in
        quiet_then (λ s. value later around left s)
        (λ one t.
        then_do (value later around right t) (λ two u. computed (result_of operands operator one two) u))
        (quiet_value left both.0)
        (λ one.
        quiet_then (λ t. value later around right t)
        (λ two u. computed (result_of operands operator one two) u)
        (quiet_value right both.1) (λ two. quiet_computed (result_of operands operator one two)))
    quiet_value (CallNode procedure scalar given) quiet = absurd (false≢true quiet)
    quiet_value (FunctionNode function operand) quiet =
        quiet_then (λ s. value later around operand s) (λ number t. Gave (function_of function number) t)
        (quiet_value operand quiet) (λ number. quiet_gave (function_of function number))
    quiet_value (ShiftNode scalar function moved count) quiet =
        let both : _ = and_parts (is_quiet moved) (is_quiet count) quiet in
        quiet_then (λ s. value later around moved s)
        (λ number t.
        then_do (value later around count t) (λ by u. Gave (shifted scalar function number by) u))
        (quiet_value moved both.0)
        (λ number.
        quiet_then (λ t. value later around count t) (λ by u. Gave (shifted scalar function number by) u)
        (quiet_value count both.1) (λ by. quiet_gave (shifted scalar function number by)))
    quiet_value (InputNode port) quiet = absurd (false≢true quiet)

    -- the location of a part of an object with quiet subscripts
    pub quiet_location : (reference : TypedReference) → part_is_quiet reference ≡ true
        → IsQuiet (λ (s : State). located later around reference s)
    quiet_location (PartOf object subscript member offset member_subscript) quiet =
        let both : _ = and_parts (index_is_quiet subscript) (index_is_quiet member_subscript) quiet in
        quiet_then (λ s. displacement later around subscript s)
        (λ one t.
        then_do (displacement later around member_subscript t)
        (λ two u.
        based_place (home_of around object) around object (one.bytes + offset + two.bytes)
        (one.is_inside && two.is_inside) u))
        (quiet_displacement subscript both.0)
        (λ one.
        quiet_then (λ t. displacement later around member_subscript t)
        (λ two u.
        based_place (home_of around object) around object (one.bytes + offset + two.bytes)
        (one.is_inside && two.is_inside) u)
        (quiet_displacement member_subscript both.1)
        (λ two.
        quiet_base (home_of around object) around object (one.bytes + offset + two.bytes)
        (one.is_inside && two.is_inside)))

    pub quiet_displacement : (subscript : Subscript) → index_is_quiet subscript ≡ true
        → IsQuiet (λ (s : State). displacement later around subscript s)
    quiet_displacement NoSubscript quiet = quiet_gave no_displacement
    quiet_displacement (At stride count index) quiet =
        quiet_then (λ s. value later around index s) (λ number t. Gave (displaced stride count number) t)
        (quiet_value index quiet) (λ number. quiet_gave (displaced stride count number))
