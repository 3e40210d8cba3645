-- Loops over lists whose items are bound one by one.
use Rattle.names.proofs.Prelude.{◌≡◌, ℕ, ◌+◌, ◌<◌, List, length, drop, get_or, ◌∷◌, ap, sym, subst, Option, Result, Ok, Err, ◌≤◌, [], ◌∙◌, drop_of_length-le, Failure, Fault, FailsBy, Does, fault_in, bind_more, drop_item}
use Rattle.names.proofs.BindingWalks.{fails_more}

-- A loop over a list, each of whose items gives a state from the one before, where all items together give
-- `total`.
module _ {T S : Type 0} (step : T → S → Result S Fault) (all : List T → S → Result S Fault)
    (cons : (first : T) (others : List T) (state : S)
    → all (first ∷ others) state ≡ bind_more (step first state) (all others)) where
  item_first : (items : List T) (i : ℕ) (item : T) (state : S) (total : Result S Fault) → i < length items
      → item ≡ get_or items i item → all (drop i items) state ≡ total
      → bind_more (step item state) (all (drop (i + 1) items)) ≡ total
  item_first items i item state total within is left =
      sym (cons item (drop (i + 1) items) state)
      ∙ sym (drop_item (λ items. all items state) items i item within is) ∙ left

  pub goes_on : (items : List T) (i : ℕ) (item : T) (state now : S) (total : Result S Fault)
      → i < length items → item ≡ get_or items i item → all (drop i items) state ≡ total
      → step item state ≡ Ok now → all (drop (i + 1) items) now ≡ total
  goes_on items i item state now total within is left given =
      sym (ap (λ result. bind_more result (all (drop (i + 1) items))) given)
      ∙ item_first items i item state total within is left

  pub fails_within : (items : List T) (i : ℕ) (item : T) (state : S) (total : Result S Fault)
      (fault : Option Fault) → i < length items → item ≡ get_or items i item
      → all (drop i items) state ≡ total
      → FailsBy fault (step item state) → FailsBy fault total
  fails_within items i item state total fault within is left fails =
      subst (FailsBy fault) (item_first items i item state total within is left)
      (fails_more fault (step item state) (all (drop (i + 1) items)) fails)

  pub loop_ended : (items : List T) (i : ℕ) (state : S) (total given : Result S Fault) → length items ≤ i
      → all (drop i items) state ≡ total → all [] state ≡ given → total ≡ given
  loop_ended items i state total given past left end =
      sym left ∙ ap (λ rest. all rest state) (drop_of_length-le items past) ∙ end

-- how a call ends that hands on the failure of another
pub hands_on : {A B : Type 0} (result : Result A (Failure Fault)) (failure : Failure Fault) (now : B)
    (given : Result B Fault) → result ≡ Err failure → FailsBy (fault_in failure) given → Does result now given
hands_on result failure now given is fails = rw is fails
