-- The parts of an expression rank below a limit, if its number is low enough.
use Rattle.exprgen8080.proofs.Prelude.{◌≡◌, ◌+◌, ◌*◌, ◌<◌, ◌≤◌, ◌∙◌, if◌then◌else◌, ArgumentsAreBelow, Bool, Expression, ExpressionForm, ExpressionNumber, None, NumbersRise, Option, PartsAreBelow, Range, Reference, ReferenceIsBelow, Site, Some, Subscript, SubscriptIsBelow, Target, TargetIsBelow, TreeModule, argument, arith, expression, false, index_bound, low, ltb-true, nat_lt, nodes_of, none-some, option_and_then, reference_bound, refl, same_Some, slice_get, subst, sym, target_bound, true, ℕ}
use Rattle.treecode.specs.declared.expression.ExpressionForm.TheVariants as forms
use Rattle.treecode.specs.declared.reference.Target.TheVariants as targets
use Rattle.exprgen8080.proofs.Ranks.{Joining.{HasLowParts, IsAimed, IsPlaced, IsUnder}}

-- each argument of a call
abbrev pub AreGiven : (tree : TreeModule) → (limit : ℕ) → Range → Type 0
AreGiven tree limit arguments =
    (index : ℕ) (number : ExpressionNumber) → argument tree arguments index ≡ Some number
    → IsUnder tree limit number

-- the parts of a form
abbrev pub HasParts : (tree : TreeModule) → (limit : ℕ) → ExpressionForm → Type 0
HasParts tree limit (forms.Number value) = Unit {0}
HasParts tree limit (forms.Value reference) = IsPlaced tree limit reference
HasParts tree limit (forms.Location reference) = IsPlaced tree limit reference
HasParts tree limit (forms.List offset) = Unit {0}
HasParts tree limit (forms.Conversion inner) = IsUnder tree limit inner
HasParts tree limit (forms.Assignment target value) = IsAimed tree limit target × IsUnder tree limit value
HasParts tree limit (forms.Unary operator operand) = IsUnder tree limit operand
HasParts tree limit (forms.Binary operands operator left right) =
    IsUnder tree limit left × IsUnder tree limit right
HasParts tree limit (forms.Call procedure arguments) = AreGiven tree limit arguments
HasParts tree limit (forms.Function function operand) = IsUnder tree limit operand
HasParts tree limit (forms.Shift function value count) = IsUnder tree limit value × IsUnder tree limit count
HasParts tree limit (forms.Input port) = Unit {0}

index_small : (bound : ℕ) (index : Option Subscript) → SubscriptIsBelow bound index
    → index_bound index ≤ bound
index_small bound None is = omega arith
index_small bound (Some subscript) is = omega (arith, is)

reference_small : (bound : ℕ) (reference : Reference) → ReferenceIsBelow bound reference
    → reference_bound reference ≤ bound
reference_small bound reference is =
    omega (arith, index_small bound reference.subscript is.0, index_small bound reference.member_subscript is.1)

target_small : (bound : ℕ) (target : Target) → TargetIsBelow bound target → target_bound target ≤ bound
target_small bound (targets.Stored from to reference) is = reference_small bound reference is
target_small bound (targets.Sent from port) is = omega arith

under : {tree : TreeModule} {limit : ℕ} {whole : ExpressionNumber} (number : ExpressionNumber)
    → HasLowParts tree limit whole → number.index < whole.index → IsUnder tree limit number
under number low less = record { rises = low.rises; small = omega (arith, low.small, less) }

placed : {tree : TreeModule} {limit : ℕ} {whole : ExpressionNumber} (reference : Reference)
    → HasLowParts tree limit whole → ReferenceIsBelow whole.index reference → IsPlaced tree limit reference
placed {whole = whole} reference low is =
    record { rises = low.rises; small = omega (arith, low.small, reference_small whole.index reference is) }

aimed : {tree : TreeModule} {limit : ℕ} {whole : ExpressionNumber} (target : Target)
    → HasLowParts tree limit whole → TargetIsBelow whole.index target → IsAimed tree limit target
aimed {whole = whole} target low is =
    record { rises = low.rises; small = omega (arith, low.small, target_small whole.index target is) }

given : (tree : TreeModule) (limit : ℕ) (whole : ExpressionNumber) (arguments : Range)
    → HasLowParts tree limit whole → ArgumentsAreBelow (nodes_of tree) whole.index arguments
    → AreGiven tree limit arguments
given tree limit whole arguments low are index number there = by (nat_lt index arguments.count) refl there
  where
    by : (test : Bool) → nat_lt index arguments.count ≡ test
        → option_and_then (slice_get tree.arguments.items)
        (if test then Some (arguments.first + index) else None) ≡ Some number
        → IsUnder tree limit number
    by true less found =
        let at = are index (ltb-true index arguments.count less) in
        under number low
        (subst (λ (other : ExpressionNumber). other.index < whole.index)
        (same_Some at.0 number (sym at.1 ∙ found)) at.2)
    by false less found = absurd (none-some number found)

parts_of_form : (tree : TreeModule) (limit : ℕ) (whole : ExpressionNumber) (form : ExpressionForm)
    → HasLowParts tree limit whole → PartsAreBelow (nodes_of tree) whole.index form
    → HasParts tree limit form
parts_of_form tree limit whole (forms.Number value) low are = tt
parts_of_form tree limit whole (forms.Value reference) low are = placed reference low are
parts_of_form tree limit whole (forms.Location reference) low are = placed reference low are
parts_of_form tree limit whole (forms.List offset) low are = tt
parts_of_form tree limit whole (forms.Conversion inner) low are = under inner low are
parts_of_form tree limit whole (forms.Assignment target value) low are =
    (aimed target low are.0, under value low are.1)
parts_of_form tree limit whole (forms.Unary operator operand) low are = under operand low are
parts_of_form tree limit whole (forms.Binary operands operator left right) low are =
    (under left low are.0, under right low are.1)
parts_of_form tree limit whole (forms.Call procedure arguments) low are =
    given tree limit whole arguments low are
parts_of_form tree limit whole (forms.Function function operand) low are = under operand low are
parts_of_form tree limit whole (forms.Shift function value count) low are =
    (under value low are.0, under count low are.1)
parts_of_form tree limit whole (forms.Input port) low are = tt

-- the parts by the form that is found
pub has_parts : (site : Site) {limit : ℕ} {number : ExpressionNumber} {found : Expression}
    → HasLowParts site.tree.now limit number
    → expression site number ≡ Some found
    → HasParts site.tree.now limit found.form
unfolding expression
has_parts site {limit = limit} {number = number} {found = found} low there =
    parts_of_form site.tree.now limit number found.form low (low.rises number.index found there)

-- the indices of a part of an object
abbrev pub IndexIs : (tree : TreeModule) → (limit : ℕ) → Option Subscript → Type 0
IndexIs tree limit None = Unit {0}
IndexIs tree limit (Some subscript) = IsUnder tree limit subscript.index

index_is : (tree : TreeModule) (limit bound : ℕ) (index : Option Subscript)
    → NumbersRise (nodes_of tree) → index_bound index ≤ bound → bound * 16 + 4 < limit
    → IndexIs tree limit index
index_is tree limit bound None rises less small = tt
index_is tree limit bound (Some subscript) rises less small =
    record { rises = rises; small = omega (arith, less, small) }

pub subscripts_are : (tree : TreeModule) {limit : ℕ} (reference : Reference)
    → NumbersRise (nodes_of tree) → reference_bound reference * 16 + 4 < limit
    → IndexIs tree limit reference.subscript × IndexIs tree limit reference.member_subscript
subscripts_are tree {limit = limit} reference rises small = (
  index_is tree limit (reference_bound reference) reference.subscript rises (omega arith) small,
  index_is tree limit (reference_bound reference) reference.member_subscript rises (omega arith) small,
)
