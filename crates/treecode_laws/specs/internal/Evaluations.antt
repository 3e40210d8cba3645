-- The effects of an evaluation on the state, and outcomes that may replace others.
use Rattle.std.specs.Prelude.{◌≡◌, ◌⊎◌, ℕ, Bool, ◌&&◌, ◌||◌, List, is_some}
use Rattle.ports.specs.Events.{IsBeginning}
use Rattle.meaning.specs.declared.reason.Reason.{Reason}
use Rattle.meaning.specs.Outcomes.{State, Ended, More, Outside, Outcome, Gave, Stopped}
use Rattle.treecode.specs.declared.expression.ExpressionNumber.{ExpressionNumber}
use Rattle.treecode.specs.internal.Nodes.{Nodes}
use Rattle.treecode.specs.internal.Traits.{known_at, quiet_at, storing_nothing_at}

-- a value found without a change of the state, or the reason for going outside
pub data Answer (A : Type 0) : Type 0 where
  Found : A → Answer A
  Fails : (reason : Reason) → Answer A

-- the outcome of an answer in a state, which does not change
abbrev pub outcome_of : {A : Type 0} → Answer A → State → Outcome A
outcome_of (Found found) s = Gave found s
outcome_of (Fails reason) s = Stopped (Outside reason) s

-- An evaluation that changes nothing, and depends only on memory and frame: its answer is a function of
-- these.
pub record IsQuiet {A : Type 0} (go : State → Outcome A) : Type 0 where
  pub answer : (memory : List ℕ) → (frame : List (List ℕ)) → Answer A
  pub gives : (s : State) → go s ≡ outcome_of (answer s.memory s.frame) s

-- from one state to another, nothing changes except that events are added
pub record OnlyAdds (s t : State) : Type 0 where
  pub memory : t.memory ≡ s.memory
  pub frame : t.frame ≡ s.frame
  pub budget : t.budget ≡ s.budget
  pub events : IsBeginning s.events t.events

-- an outcome from a state that at most adds events, and stops only by going outside
abbrev pub AddsAtMost : {A : Type 0} → State → Outcome A → Type 0
AddsAtMost s (Gave found t) = OnlyAdds s t
AddsAtMost s (Stopped (Outside reason) t) = OnlyAdds s t
AddsAtMost s (Stopped Ended t) = ⊥
AddsAtMost s (Stopped More t) = ⊥

-- an evaluation that at most adds events, from each state
abbrev pub StoresNothing : {A : Type 0} → (State → Outcome A) → Type 0
StoresNothing go = (s : State) → AddsAtMost s (go s)

-- an outcome that goes outside the language, for which nothing is promised
abbrev pub GoesOutside : {A : Type 0} → Outcome A → Type 0
GoesOutside (Gave found t) = ⊥
GoesOutside (Stopped (Outside reason) t) = Unit {0}
GoesOutside (Stopped Ended t) = ⊥
GoesOutside (Stopped More t) = ⊥

-- two outcomes without an observable difference: they are the same, or both go outside
pub data AreAlike {A : Type 0} (one other : Outcome A) : Type 0 where
  AreSame : one ≡ other → AreAlike one other
  BothOutside : GoesOutside one → GoesOutside other → AreAlike one other

-- an outcome that may replace the one that is meant: it is the same, or the one that is meant goes outside
abbrev pub MayStandFor : {A : Type 0} → (other meant : Outcome A) → Type 0
MayStandFor other meant = GoesOutside meant ⊎ (meant ≡ other)

-- whether the second of two nodes may be evaluated first: the first is known, or it changes nothing and the
-- second stores nothing
abbrev pub may_exchange : Nodes → (left right : ExpressionNumber) → Bool
may_exchange nodes left right =
    is_some (known_at nodes left) || (quiet_at nodes left && storing_nothing_at nodes right)
