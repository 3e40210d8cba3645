-- Operators are read without a count.
use Rattle.syntax.proofs.Prelude.{◌≡◌, ℕ, zero, suc, ◌≤◌, nat_lt, List, [], ◌∷◌, drop, length, Option, Some, None, Err, if◌then◌else◌, refl, ap, arith, BinaryOperator, level_of, expression_height, Symbol, ExpressionTree, BinaryNode, ExpressionParser, operator_of, next_operator, top_level, goes_on, operator_then, operators, all_operators, Keeps, Parser, TooDeep}
use Rattle.syntax.proofs.ReaderLemmas.{bind_same, read}

-- what goes on matters only after what is read
operator_then-same : (inner : ExpressionParser) (again other : ExpressionTree → Parser ExpressionTree)
    (room level : ℕ) (left : ExpressionTree) (found : Option BinaryOperator) (s : List Symbol)
    → ((at : ℕ) (right : ExpressionTree) (r : List Symbol) → inner at (drop 1 s) ≡ read right r
    → (tree : ExpressionTree) → again tree r ≡ other tree r)
    → operator_then inner again room level left found s ≡ operator_then inner other room level left found s
operator_then-same inner again other room level left None s same = refl
operator_then-same inner again other room level left (Some o) s same =
    ap (λ t. if goes_on level (top_level left) o then
    (if nat_lt (expression_height left) room then t else Err TooDeep) else read left s)
    (bind_same (inner (suc (level_of o)) (drop 1 s)) _ _
    (λ right e. same (suc (level_of o)) right.0 right.1 e (BinaryNode o left right.0)))

-- any count that is enough gives the same
pub operators-enough : (inner : ExpressionParser)
    → ((level : ℕ) → Keeps (inner level))
    → (room level : ℕ) (count more : ℕ) (left : ExpressionTree) (s : List Symbol)
    → length s ≤ count
    → length s ≤ more
    → operators inner room level count left s ≡ operators inner room level more left s
operators-enough inner keeps room level zero zero left s l h = refl
operators-enough inner keeps room level zero (suc more) left [] l h = refl
operators-enough inner keeps room level zero (suc more) left (x ∷ s) l h = absurd (omega arith)
operators-enough inner keeps room level (suc count) zero left [] l h = refl
operators-enough inner keeps room level (suc count) zero left (x ∷ s) l h = absurd (omega arith)
operators-enough inner keeps room level (suc count) (suc more) left [] l h = refl
operators-enough inner keeps room level (suc count) (suc more) left (x ∷ s) l h =
    operator_then-same inner (operators inner room level count)
    (operators inner room level more) room level left (operator_of x) (x ∷ s)
    (λ at right r e tree.
    let short : length r ≤ length s = keeps at s r right e in
    operators-enough inner keeps room level count more tree r (omega arith) (omega arith))

-- an operator with what stands after it, and what goes on
pub all_operators-step : (inner : ExpressionParser)
    → ((level : ℕ) → Keeps (inner level))
    → (room level : ℕ) (left : ExpressionTree) (s : List Symbol)
    → all_operators inner room level left s
    ≡ operator_then inner (all_operators inner room level) room level left (next_operator s) s
unfolding all_operators
all_operators-step inner keeps room level left [] = refl
all_operators-step inner keeps room level left (x ∷ s) =
    operator_then-same inner (operators inner room level (length s))
    (all_operators inner room level) room level left (operator_of x) (x ∷ s)
    (λ at right r e tree.
    let short : length r ≤ length s = keeps at s r right e in
    operators-enough inner keeps room level (length s) (length r) tree r (omega arith) (omega arith))
