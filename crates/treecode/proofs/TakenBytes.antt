-- The low byte of the result of a function of one value, in tree code, by the byte that the function takes.
use Rattle.treecode.proofs.Prelude.{◌≡◌, ◌∙◌, None, ap, ScalarType, UnaryFunction, LowByte, HighByte, byte_taken, for_byte, ExpressionForm, ExpressionNumber, Nodes, form_at, high_in_memory, is_direct, is_free_form, memory_of_form, memory_of_inner, same_low_byte}
use Rattle.trees.specs.declared.functions.ByteOfValue.{ByteOfValue}
use Rattle.treecode.specs.internal.Traits.{free_at}
use Rattle.treecode.specs.declared.expression.ExpressionForm.TheVariants as forms

-- the low byte of a function that takes the low byte is that of its operand
pub low_byte_of_operand : (nodes : Nodes) (function : UnaryFunction) (operand : ExpressionNumber)
    → byte_taken function ≡ LowByte
    → same_low_byte nodes (forms.Function function operand)
    ≡ form_at nodes operand (forms.Function function operand)
low_byte_of_operand nodes function operand is =
    ap
    (λ (byte : ByteOfValue).
    for_byte byte (form_at nodes operand (forms.Function function operand)) (forms.Function function operand))
    is

-- that of a function that takes the high byte is not
pub low_byte_of_itself : (nodes : Nodes) (function : UnaryFunction) (operand : ExpressionNumber)
    → byte_taken function ≡ HighByte
    → same_low_byte nodes (forms.Function function operand) ≡ forms.Function function operand
low_byte_of_itself nodes function operand is =
    ap
    (λ (byte : ByteOfValue).
    for_byte byte (form_at nodes operand (forms.Function function operand)) (forms.Function function operand))
    is

-- it is the high byte of its operand
pub memory_of_high : (nodes : Nodes) (function : UnaryFunction) (operand : ExpressionNumber)
    → byte_taken function ≡ HighByte
    → memory_of_form nodes (forms.Function function operand) ≡ high_in_memory nodes operand
memory_of_high nodes function operand is =
    ap (λ (form : ExpressionForm). memory_of_inner nodes (same_low_byte nodes form))
    (low_byte_of_itself nodes function operand is)
    ∙ ap (λ (form : ExpressionForm). memory_of_inner nodes form)
    (low_byte_of_itself nodes function operand is)
    ∙ ap (λ (byte : ByteOfValue). for_byte byte None (high_in_memory nodes operand)) is

-- so a function that takes the low byte is free where its operand is
pub free_of_operand : (nodes : Nodes) (scalar : ScalarType) (function : UnaryFunction)
    (operand : ExpressionNumber)
    → byte_taken function ≡ LowByte
    → is_free_form nodes scalar (forms.Function function operand) ≡ free_at nodes operand
free_of_operand nodes scalar function operand is =
    ap
    (λ (byte : ByteOfValue).
    for_byte byte (free_at nodes operand) (is_direct nodes (forms.Function function operand))) is

-- and one that takes the high byte where that is in memory at a known place
pub free_if_direct : (nodes : Nodes) (scalar : ScalarType) (function : UnaryFunction)
    (operand : ExpressionNumber)
    → byte_taken function ≡ HighByte
    → is_free_form nodes scalar (forms.Function function operand)
    ≡ is_direct nodes (forms.Function function operand)
free_if_direct nodes scalar function operand is =
    ap
    (λ (byte : ByteOfValue).
    for_byte byte (free_at nodes operand) (is_direct nodes (forms.Function function operand))) is

-- a function that takes the low byte is itself in no part of memory
pub not_in_memory : (nodes : Nodes) (function : UnaryFunction) (operand : ExpressionNumber)
    → byte_taken function ≡ LowByte
    → memory_of_inner nodes (forms.Function function operand) ≡ None
not_in_memory nodes function operand is =
    ap (λ (byte : ByteOfValue). for_byte byte None (high_in_memory nodes operand)) is
