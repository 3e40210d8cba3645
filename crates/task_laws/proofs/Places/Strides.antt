-- The strides of computed subscripts are below the size of memory, also for split subscripts.
use Rattle.task_laws.proofs.Prelude.{ℕ, ◌*◌, ◌%◌, ◌<◌, Option, Some, None, unwrap_or, arith, option_and_then, BinaryOperator, Subscript, Storage, Expression, ExpressionForm, ExpressionNumber, IndexNode, IsSubscript, IsAbsent, IsIndex, Nodes, Split, Site, number_of, split, split_computed, split_form, split_sum, split_whole, expression}
use Rattle.trees.specs.declared.declaration.ScalarType.TheVariants as scalars
use Rattle.trees.specs.declared.expression.BinaryOperator.TheVariants as operators
use Rattle.treecode.specs.declared.expression.ExpressionForm.TheVariants as forms

-- the stride of a subscript that is computed, if it is, is below the size of memory
abbrev pub HasStride : Option IndexNode → Type 0
HasStride None = Unit {0}
HasStride (Some subscript) = subscript.stride < 65536

sum_stride :
    (subscript : IndexNode) (operator : BinaryOperator) (left : ExpressionNumber) (found : Option ℕ)
    → subscript.stride < 65536
    → HasStride (unwrap_or
    (option_and_then (λ value. split_sum subscript operator value left) found)
    (split_whole subscript)).computed
sum_stride subscript operator left None small = small
sum_stride subscript operators.Add left (Some n) small = small
sum_stride subscript operators.Subtract left (Some n) small = small
sum_stride subscript operator left (Some n) small = small

form_stride :
    (site : Site) (subscript : IndexNode) (form : ExpressionForm) → subscript.stride < 65536
    → HasStride (split_form site subscript form).computed
form_stride site subscript (forms.Binary scalars.Address operator left right) small =
    sum_stride subscript operator left (number_of site right) small
form_stride site subscript form small = small

computed_stride :
    (site : Site) (subscript : IndexNode) → subscript.stride < 65536
    → HasStride (split_computed site subscript).computed
unfolding split_computed
computed_stride site subscript small = by (expression site subscript.index)
  where
    by : (found : Option Expression)
        → HasStride (elim (found) as (λ (one : Option Expression). Split) [
          | Some one ↦ split_form site subscript one.form
          | None ↦ split_whole subscript
        ]).computed
    by (Some one) = form_stride site subscript one.form small
    by None = small

pub has_stride :
    {nodes : Nodes} {storage : Storage} {bound : ℕ} {given : Option IndexNode}
    {subscript : Subscript} (site : Site)
    → IsSubscript nodes storage bound given subscript
    → HasStride (split site given).computed
unfolding split
has_stride site IsAbsent = tt
has_stride site (IsIndex {stride = stride} {number = of} index) = by (number_of site of)
  where
    node : IndexNode
    node = record { index = of; stride = stride % 65536 }

    by : (found : Option ℕ)
        → HasStride (elim (found) as (λ (one : Option ℕ). Split) [
          | Some n ↦ record { computed = None; offset = (n * (stride % 65536)) % 65536 }
          | None ↦ split_computed site node
        ]).computed
    by (Some n) = tt
    by None = computed_stride site node (omega arith)
