-- Items of ranges of tables.
use Rattle.measure_laws.proofs.Prelude.{◌≡◌, refl, ℕ, ◌+◌, ◌<◌, nat_lt, Bool, true, false, if◌then◌else◌, List, slice_get, Some, None, sym, ap, ◌∙◌, option_and_then, none-some, lt-ltb, ltb-true, Range, item_of}

-- the item at an index is the entry of the table there
pub item_there :
    {A : Type 0} (table : List A) (range : Range) (index place : ℕ) (found : A)
    → place ≡ range.first + index
    → index < range.count
    → slice_get table place ≡ Some found
    → item_of table range index ≡ Some found
item_there {A = A} table range index place found same less is =
    ap (λ (there : Bool). option_and_then (slice_get table)
    (if there then Some (range.first + index) else None))
    (lt-ltb index range.count less)
    ∙ ap (λ (n : ℕ). slice_get table n) (sym same) ∙ is

-- the item at an index is in the table, below the count
pub record StandsAt {A : Type 0} (table : List A) (range : Range) (index : ℕ) (one : A) : Type 0 where
  pub below : index < range.count
  pub there : slice_get table (range.first + index) ≡ Some one

stands_by :
    {A : Type 0} (table : List A) (range : Range) (index : ℕ) (one : A) (found : Bool)
    → nat_lt index range.count ≡ found
    → option_and_then (slice_get table) (if found then Some (range.first + index) else None) ≡ Some one
    → StandsAt table range index one
stands_by table range index one true is there =
    record { below = ltb-true index range.count is; there = there }
stands_by table range index one false is there = absurd (none-some one there)

pub stands_at :
    {A : Type 0} (table : List A) (range : Range) (index : ℕ) (one : A)
    → item_of table range index ≡ Some one
    → StandsAt table range index one
stands_at table range index one is = stands_by table range index one (nat_lt index range.count) refl is
