-- Sums over what is left of the lengths and of the layouts.
use Rattle.placing.proofs.Prelude.{◌≡◌, ℕ, ◌+◌, ◌<◌, ◌≤◌, List, length, drop, get_or, map, min, ap, ◌∙◌, arith, sum, drop_of_length-le, sum_by-cons, Layout, Storage, layout_view, left_first, layout_sizes, capped_end}

pub code_first :
    (lengths : List ℕ) (i : ℕ) (first : ℕ)
    → i < length lengths
    → first ≡ get_or lengths i first
    → sum (drop i lengths) ≡ first + sum (drop (i + 1) lengths)
code_first lengths i first within is =
    ap sum (left_first lengths i first within is)
    ∙ sum_by-cons (λ (n : ℕ). n) first (drop (i + 1) lengths)

pub data_first :
    (layouts : List Layout) (i : ℕ) (first : Layout)
    → i < length layouts
    → first ≡ get_or layouts i first
    → layout_sizes (drop i layouts) ≡ first.data_size + layout_sizes (drop (i + 1) layouts)
data_first layouts i first within is =
    ap layout_sizes (left_first layouts i first within is)
    ∙ sum_by-cons (λ (storage : Storage). storage.data_size) (layout_view first)
    (map layout_view (drop (i + 1) layouts))

-- a sum that stops at the greatest of 32 bits
capped_more :
    (total one rest left all : ℕ)
    → left ≡ one + rest
    → min (total + left) 4294967295 ≡ all
    → min (min (total + one) 4294967295 + rest) 4294967295 ≡ all
capped_more total one rest left all split is = omega arith

pub code_more :
    (lengths : List ℕ) (i first total all : ℕ)
    → i < length lengths
    → first ≡ get_or lengths i first
    → min (total + sum (drop i lengths)) 4294967295 ≡ all
    → min (min (total + first) 4294967295 + sum (drop (i + 1) lengths)) 4294967295 ≡ all
code_more lengths i first total all within is left =
    capped_more total first (sum (drop (i + 1) lengths)) (sum (drop i lengths)) all
    (code_first lengths i first within is) left

pub data_more :
    (layouts : List Layout) (i : ℕ) (first : Layout) (total all : ℕ)
    → i < length layouts
    → first ≡ get_or layouts i first
    → min (total + layout_sizes (drop i layouts)) 4294967295 ≡ all
    → min (min (total + first.data_size) 4294967295 + layout_sizes (drop (i + 1) layouts)) 4294967295 ≡ all
data_more layouts i first total all within is left =
    capped_more total first.data_size (layout_sizes (drop (i + 1) layouts))
    (layout_sizes (drop i layouts)) all
    (data_first layouts i first within is) left

pub code_end :
    (lengths : List ℕ) (i total all : ℕ)
    → length lengths ≤ i
    → total ≤ 4294967295
    → min (total + sum (drop i lengths)) 4294967295 ≡ all
    → total ≡ all
code_end lengths i total all past capped left =
    capped_end total (sum (drop i lengths)) all (ap sum (drop_of_length-le lengths past)) capped left

pub data_end :
    (layouts : List Layout) (i total all : ℕ)
    → length layouts ≤ i
    → total ≤ 4294967295
    → min (total + layout_sizes (drop i layouts)) 4294967295 ≡ all
    → total ≡ all
data_end layouts i total all past capped left =
    capped_end total (layout_sizes (drop i layouts)) all
    (ap layout_sizes (drop_of_length-le layouts past)) capped left
