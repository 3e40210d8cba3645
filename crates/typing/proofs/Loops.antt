-- Loops over lists: what is given for all items is what is given for those that are left, with what was made
-- in front.
use Rattle.typing.proofs.Prelude.{◌≡◌, ℕ, ◌+◌, ◌<◌, ◌≤◌, List, [], ◌∷◌, length, drop, get_or, Option, None, Some, Result, Ok, Err, refl, ap, sym, subst, ◌∙◌, drop_of_length-le, Failure, Fault, Checked, ◌>>=◌, FailsBy, Answers, Gives, Leaves, fault_in, in_front, drop_item}

pub fails_more : {A B : Type 0} (fault : Option Fault) (first : Result A Fault) (next : A → Result B Fault)
    → FailsBy fault first → FailsBy fault (first >>= next)
fails_more None first next fails = tt
fails_more (Some fault) first next fails = ap (λ result. result >>= next) fails

-- how a call ends that hands on the failure of another
pub answers_fault : {X Y : Type 0} (view : X → Y) (result : Result X (Failure Fault))
    (failure : Failure Fault) (checked : Checked Y) → result ≡ Err failure
    → FailsBy (fault_in failure) checked → Answers view result checked
answers_fault view result failure checked is fails = rw is fails

pub gives_fault : {X Y S : Type 0} (view : X → Y) (result : Result X (Failure Fault))
    (failure : Failure Fault) (after : S) (checked : Checked (Y × S)) → result ≡ Err failure
    → FailsBy (fault_in failure) checked → Gives view result after checked
gives_fault view result failure after checked is fails = rw is fails

pub leaves_fault : {X S : Type 0} (result : Result X (Failure Fault)) (failure : Failure Fault) (after : S)
    (checked : Checked S) → result ≡ Err failure → FailsBy (fault_in failure) checked
    → Leaves result after checked
leaves_fault result failure after checked is fails = rw is fails

-- checks in turn
pub then_then : {A B C : Type 0} (first : Checked A) (second : A → Checked B) (third : B → Checked C)
    → first >>= (λ a. second a >>= third) ≡ (first >>= second) >>= third
then_then (Ok a) second third = refl
then_then (Err fault) second third = refl

-- A loop whose items give a state from the one before.
module _ {T S Y : Type 0} (step : T → S → Checked S) (all : List T → S → Checked Y)
    (cons : (first : T) (others : List T) (state : S)
    → all (first ∷ others) state ≡ (step first state >>= all others)) where
  state_first : (items : List T) (i : ℕ) (item : T) (state : S) (total : Checked Y) → i < length items
      → item ≡ get_or items i item → all (drop i items) state ≡ total
      → (step item state >>= all (drop (i + 1) items)) ≡ total
  state_first items i item state total within is left =
      sym (cons item (drop (i + 1) items) state)
      ∙ sym (drop_item (λ items. all items state) items i item within is) ∙ left

  pub state_goes_on : (items : List T) (i : ℕ) (item : T) (state now : S) (total : Checked Y)
      → i < length items → item ≡ get_or items i item → all (drop i items) state ≡ total
      → step item state ≡ Ok now → all (drop (i + 1) items) now ≡ total
  state_goes_on items i item state now total within is left given =
      sym (ap (λ result. result >>= all (drop (i + 1) items)) given)
      ∙ state_first items i item state total within is left

  pub state_fails : (items : List T) (i : ℕ) (item : T) (state : S) (total : Checked Y) (fault : Option Fault)
      → i < length items → item ≡ get_or items i item → all (drop i items) state ≡ total
      → FailsBy fault (step item state) → FailsBy fault total
  state_fails items i item state total fault within is left fails =
      subst (FailsBy fault) (state_first items i item state total within is left)
      (fails_more fault (step item state) (all (drop (i + 1) items)) fails)

  pub state_ended : (items : List T) (i : ℕ) (state : S) (total given : Checked Y) → length items ≤ i
      → all (drop i items) state ≡ total → all [] state ≡ given → total ≡ given
  state_ended items i state total given past left end =
      sym left ∙ ap (λ rest. all rest state) (drop_of_length-le items past) ∙ end

-- A loop that makes a part of what is given from each item.
module _ {T S A Q : Type 0} (step : T → S → Checked (A × S)) (all : List T → S → Checked Q) (grow : A → Q → Q)
    (cons : (first : T) (others : List T) (state : S)
    → all (first ∷ others) state
    ≡ (step first state >>= (λ made. all others made.1 >>= (λ rest. Ok (grow made.0 rest))))) where
  made_first : (items : List T) (i : ℕ) (item : T) (state : S) (front : Q → Q) (total : Checked Q)
      → i < length items → item ≡ get_or items i item → in_front front (all (drop i items) state) ≡ total
      → in_front front
      (step item state >>= (λ made. all (drop (i + 1) items) made.1 >>= (λ rest. Ok (grow made.0 rest))))
      ≡ total
  made_first items i item state front total within is left =
      sym (ap (in_front front) (cons item (drop (i + 1) items) state))
      ∙ sym (drop_item (λ items. in_front front (all items state)) items i item within is) ∙ left

  grown : (front after : Q → Q) (a : A) (given : Checked Q) → ((rest : Q) → after rest ≡ front (grow a rest))
      → in_front after given ≡ in_front front (given >>= (λ rest. Ok (grow a rest)))
  grown front after a (Ok rest) is = ap (λ q. Ok q) (is rest)
  grown front after a (Err fault) is = refl

  pub made_goes_on : (items : List T) (i : ℕ) (item : T) (state now : S) (a : A) (front after : Q → Q)
      (total : Checked Q) → i < length items → item ≡ get_or items i item
      → in_front front (all (drop i items) state) ≡ total → step item state ≡ Ok (a, now)
      → ((rest : Q) → after rest ≡ front (grow a rest))
      → in_front after (all (drop (i + 1) items) now) ≡ total
  made_goes_on items i item state now a front after total within is left given same =
      grown front after a (all (drop (i + 1) items) now) same
      ∙ sym (ap (λ result. in_front front
      (result >>= (λ made. all (drop (i + 1) items) made.1 >>= (λ rest. Ok (grow made.0 rest))))) given)
      ∙ made_first items i item state front total within is left

  pub made_fails : (items : List T) (i : ℕ) (item : T) (state : S) (front : Q → Q) (total : Checked Q)
      (fault : Option Fault) → i < length items → item ≡ get_or items i item
      → in_front front (all (drop i items) state) ≡ total → FailsBy fault (step item state)
      → FailsBy fault total
  made_fails items i item state front total fault within is left fails =
      subst (FailsBy fault) (made_first items i item state front total within is left)
      (fails_more fault (step item state
      >>= (λ made. all (drop (i + 1) items) made.1 >>= (λ rest. Ok (grow made.0 rest))))
      (λ rest. Ok (front rest))
      (fails_more fault (step item state)
      (λ made. all (drop (i + 1) items) made.1 >>= (λ rest. Ok (grow made.0 rest))) fails))

  pub made_ended : (items : List T) (i : ℕ) (state : S) (front : Q → Q) (total : Checked Q) (end given : Q)
      → length items ≤ i → in_front front (all (drop i items) state) ≡ total → all [] state ≡ Ok end
      → front end ≡ given → total ≡ Ok given
  made_ended items i state front total end given past left empty is =
      sym left ∙ ap (λ rest. in_front front (all rest state)) (drop_of_length-le items past)
      ∙ ap (in_front front) empty ∙ ap (λ q. Ok q) is
