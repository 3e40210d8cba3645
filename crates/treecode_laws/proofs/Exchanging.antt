-- Two parts of a run that may be exchanged.
use Rattle.treecode_laws.proofs.Prelude.{◌≡◌, inl, inr, refl, sym, ap, ◌∙◌, subst, State, Ended, More, Outside, Outcome, Gave, Stopped, then_do, Answer, Found, Fails, outcome_of, IsQuiet, OnlyAdds, AddsAtMost, StoresNothing, GoesOutside, AreAlike, AreSame, BothOutside, MayStandFor}
use Rattle.treecode_laws.proofs.Evaluating.{quiet_same}

-- each of two outcomes that are alike may replace the other
pub alike_stands : {A : Type 0} (one other : Outcome A) → AreAlike one other → MayStandFor other one
alike_stands one other (AreSame same) = inr same
alike_stands one other (BothOutside first second) = inl first

pub alike_turned : {A : Type 0} (one other : Outcome A) → AreAlike one other → AreAlike other one
alike_turned one other (AreSame same) = AreSame (sym same)
alike_turned one other (BothOutside first second) = BothOutside second first

module _ {A B C : Type 0} (first : State → Outcome A) (second : State → Outcome B)
    (go : A → B → State → Outcome C) where
  -- the first and then the second
  abbrev pub in_order : State → Outcome C
  in_order s = then_do (first s) (λ one t. then_do (second t) (λ two u. go one two u))

  -- the second and then the first
  abbrev pub exchanged : State → Outcome C
  exchanged s = then_do (second s) (λ two t. then_do (first t) (λ one u. go one two u))

  in_order_found : (found : A) (s : State) → first s ≡ Gave found s
      → in_order s ≡ then_do (second s) (λ two u. go found two u)
  in_order_found found s is =
      ap (λ (outcome : Outcome A). then_do outcome (λ one t. then_do (second t) (λ two u. go one two u))) is

  exchanged_by : (s : State) (outcome : Outcome B) → second s ≡ outcome
      → exchanged s ≡ then_do outcome (λ two t. then_do (first t) (λ one u. go one two u))
  exchanged_by s outcome is =
      ap (λ (of : Outcome B). then_do of (λ two t. then_do (first t) (λ one u. go one two u))) is

  -- if the first changes nothing and the second stores nothing, their order makes no observable difference
  pub quiet_exchanged : IsQuiet first → StoresNothing second
      → (s : State) → AreAlike (in_order s) (exchanged s)
  quiet_exchanged quiet adds s =
      by (quiet.answer s.memory s.frame) (second s) (quiet.gives s) refl (adds s)
      (λ t added. quiet_same first quiet s t added.memory added.frame)
    where
      outside : {one other : Outcome C} → one ≡ other → GoesOutside other → GoesOutside one
      outside same is = subst (λ (outcome : Outcome C). GoesOutside outcome) (sym same) is

      first_fails : (reason : _) → first s ≡ Stopped (Outside reason) s → GoesOutside (in_order s)
      first_fails reason is =
          outside
          (ap (λ (outcome : Outcome A). then_do outcome (λ one t. then_do (second t) (λ two u. go one two u)))
          is) tt

      by : (answer : Answer A) (outcome : Outcome B)
          → first s ≡ outcome_of answer s → second s ≡ outcome → AddsAtMost s outcome
          → ((t : State) → OnlyAdds s t → first t ≡ outcome_of answer t)
          → AreAlike (in_order s) (exchanged s)
      by (Found one) (Gave two t) is then added at =
          AreSame
          (in_order_found one s is
          ∙ ap (λ (outcome : Outcome B). then_do outcome (λ b u. go one b u)) then
          ∙ sym
          (exchanged_by s (Gave two t) then
          ∙ ap (λ (outcome : Outcome A). then_do outcome (λ a u. go a two u)) (at t added)))
      by (Fails reason) (Gave two t) is then added at =
          BothOutside (first_fails reason is)
          (outside
          (exchanged_by s (Gave two t) then
          ∙ ap (λ (outcome : Outcome A). then_do outcome (λ a u. go a two u)) (at t added)) tt)
      by (Found one) (Stopped (Outside reason) t) is then added at =
          AreSame
          (in_order_found one s is
          ∙ ap (λ (outcome : Outcome B). then_do outcome (λ b u. go one b u)) then
          ∙ sym (exchanged_by s (Stopped (Outside reason) t) then))
      by (Fails reason) (Stopped (Outside other) t) is then added at =
          BothOutside (first_fails reason is) (outside (exchanged_by s (Stopped (Outside other) t) then) tt)
      by answer (Stopped Ended t) is then added at = absurd added
      by answer (Stopped More t) is then added at = absurd added

  -- if the first gives the same value in every state, both orders are the same, whatever the second does
  pub known_exchanged : (found : A) → ((s : State) → first s ≡ Gave found s)
      → (s : State) → in_order s ≡ exchanged s
  known_exchanged found is s = in_order_found found s (is s) ∙ by (second s) refl
    where
      by : (outcome : Outcome B) → second s ≡ outcome
          → then_do (second s) (λ two u. go found two u) ≡ exchanged s
      by (Gave two t) then =
          ap (λ (outcome : Outcome B). then_do outcome (λ b u. go found b u)) then
          ∙ sym
          (exchanged_by s (Gave two t) then
          ∙ ap (λ (outcome : Outcome A). then_do outcome (λ a u. go a two u)) (is t))
      by (Stopped why t) then =
          ap (λ (outcome : Outcome B). then_do outcome (λ b u. go found b u)) then
          ∙ sym (exchanged_by s (Stopped why t) then)

-- the same, if the second gives the same value in every state
pub known_second : {A B C : Type 0} (first : State → Outcome A) (second : State → Outcome B)
    (go : A → B → State → Outcome C) (found : B)
    → ((s : State) → second s ≡ Gave found s)
    → (s : State) → in_order first second go s ≡ exchanged first second go s
known_second first second go found is s = sym (known_exchanged second first (λ b a u. go a b u) found is s)

-- an evaluation that changes nothing, with a value that is not used, may be left out
pub left_out : {A B : Type 0} (go : State → Outcome A) (rest : A → State → Outcome B)
    (done : State → Outcome B)
    → IsQuiet go → ((found : A) (s : State) → rest found s ≡ done s)
    → (s : State) → MayStandFor (done s) (then_do (go s) rest)
left_out {A = A} {B = B} go rest done quiet unused s = by (quiet.answer s.memory s.frame) (quiet.gives s)
  where
    by : (answer : Answer A) → go s ≡ outcome_of answer s → MayStandFor (done s) (then_do (go s) rest)
    by (Found found) is = inr (ap (λ (outcome : Outcome A). then_do outcome rest) is ∙ unused found s)
    by (Fails reason) is =
        inl
        (subst (λ (outcome : Outcome B). GoesOutside outcome)
        (sym (ap (λ (outcome : Outcome A). then_do outcome rest) is)) tt)
