-- Expressions that store nothing at most add events.
use Rattle.treecode_laws.proofs.Prelude.{◌≡◌, ◌+◌, ◌&&◌, true, and_parts, TypedExpression, NumberNode, ValueNode, LocationNode, ListNode, ConversionNode, AssignmentNode, UnaryNode, BinaryNode, CallNode, FunctionNode, ShiftNode, InputNode, TypedReference, PartOf, Subscript, NoSubscript, At, Surroundings, home_of, read_scalar, Later, address_in_memory, based_place, computed, displaced, displacement, located, value, State, Gave, then_do, as_type, function_of, result_of, result_of_one, shifted, StoresNothing, stores_nothing, part_stores_nothing, index_stores_nothing, false≢true}
use Rattle.treecode_laws.proofs.Evaluating.{adds_nothing, quiet_adds_nothing, quiet_base, quiet_computed, quiet_scalar, storing_nothing_then, takes_in}

module _ (later : Later) (around : Surroundings) where
  mutual
    -- the value of an expression that stores nothing
    pub value_adds : (tree : TypedExpression) → stores_nothing tree ≡ true
        → StoresNothing (λ (s : State). value later around tree s)
    value_adds (NumberNode scalar number origin) nothing = adds_nothing
    value_adds (ValueNode scalar reference) nothing =
        storing_nothing_then (λ s. located later around reference s)
        (λ place t. read_scalar around.program scalar place t) (location_adds reference nothing)
        (λ place. quiet_adds_nothing _ (quiet_scalar around.program scalar place))
    value_adds (LocationNode reference) nothing =
        storing_nothing_then (λ s. located later around reference s)
        (λ place t. Gave (address_in_memory place) t) (location_adds reference nothing)
        (λ place. adds_nothing)
    value_adds (ListNode list) nothing = adds_nothing
    value_adds (ConversionNode scalar inner) nothing =
        storing_nothing_then (λ s. value later around inner s) (λ number t. Gave (as_type scalar number) t)
        (value_adds inner nothing) (λ number. adds_nothing)
    value_adds (AssignmentNode target inner) nothing = absurd (false≢true nothing)
    value_adds (UnaryNode scalar operator operand) nothing =
        storing_nothing_then (λ s. value later around operand s)
        (λ number t. Gave (result_of_one scalar operator number) t) (value_adds operand nothing)
        (λ number. adds_nothing)
    value_adds (BinaryNode operands operator left right) nothing =
        let both : _ = and_parts (stores_nothing left) (stores_nothing right) nothing in
        storing_nothing_then (λ s. value later around left s)
        (λ one t.
        then_do (value later around right t) (λ two u. computed (result_of operands operator one two) u))
        (value_adds left both.0)
        (λ one.
        storing_nothing_then (λ t. value later around right t)
        (λ two u. computed (result_of operands operator one two) u) (value_adds right both.1)
        (λ two. quiet_adds_nothing _ (quiet_computed (result_of operands operator one two))))
    value_adds (CallNode procedure scalar given) nothing = absurd (false≢true nothing)
    value_adds (FunctionNode function operand) nothing =
        storing_nothing_then (λ s. value later around operand s)
        (λ number t. Gave (function_of function number) t) (value_adds operand nothing)
        (λ number. adds_nothing)
    value_adds (ShiftNode scalar function moved count) nothing =
        let both : _ = and_parts (stores_nothing moved) (stores_nothing count) nothing in
        storing_nothing_then (λ s. value later around moved s)
        (λ number t.
        then_do (value later around count t) (λ by u. Gave (shifted scalar function number by) u))
        (value_adds moved both.0)
        (λ number.
        storing_nothing_then (λ t. value later around count t)
        (λ by u. Gave (shifted scalar function number by) u) (value_adds count both.1) (λ by. adds_nothing))
    value_adds (InputNode port) nothing = takes_in around port

    -- the location of a part of an object with subscripts that store nothing
    pub location_adds : (reference : TypedReference) → part_stores_nothing reference ≡ true
        → StoresNothing (λ (s : State). located later around reference s)
    location_adds (PartOf object subscript member offset member_subscript) nothing =
        let both : _ = and_parts (index_stores_nothing subscript) (index_stores_nothing member_subscript)
        nothing in
        storing_nothing_then (λ s. displacement later around subscript s)
        (λ one t.
        then_do (displacement later around member_subscript t)
        (λ two u.
        based_place (home_of around object) around object (one.bytes + offset + two.bytes)
        (one.is_inside && two.is_inside) u))
        (displacement_adds subscript both.0)
        (λ one.
        storing_nothing_then (λ t. displacement later around member_subscript t)
        (λ two u.
        based_place (home_of around object) around object (one.bytes + offset + two.bytes)
        (one.is_inside && two.is_inside) u)
        (displacement_adds member_subscript both.1)
        (λ two.
        quiet_adds_nothing _
        (quiet_base (home_of around object) around object (one.bytes + offset + two.bytes)
        (one.is_inside && two.is_inside))))

    pub displacement_adds : (subscript : Subscript) → index_stores_nothing subscript ≡ true
        → StoresNothing (λ (s : State). displacement later around subscript s)
    displacement_adds NoSubscript nothing = adds_nothing
    displacement_adds (At stride count index) nothing =
        storing_nothing_then (λ s. value later around index s)
        (λ number t. Gave (displaced stride count number) t) (value_adds index nothing)
        (λ number. adds_nothing)
