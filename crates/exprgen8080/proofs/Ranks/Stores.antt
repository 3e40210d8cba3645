-- Stores of a value in A or HL.
use Rattle.exprgen8080.proofs.Prelude.{◌&&◌, ◌∷◌, ◌++◌, [], A, Address, Bool, Byte, D, First, Frame, Goal, Hl, IfSome, Inx, L, Location, M, MovToMemory, Mvi, Near, None, Option, ScalarType, Second, Sent, Site, Some, Static, StoreA, StoreHl, Stored, Target, TreeModule, address_beside_a_steps, address_beside_de_steps, byte_is_here_steps, copy, extension_steps, false, goal_of, goal_steps, not, store_a_at_steps, store_a_steps, store_extended_steps, store_hl_at_steps, store_low_byte_at_steps, store_low_byte_steps, store_near_steps, store_steps, store_word_steps, true, value_back_steps, word_is_here_steps, word_near, ℕ}
use Rattle.steps8080.specs.declared.step.Step.TheVariants as steps
use Rattle.steps8080.specs.internal.Step.{plain}
use Rattle.steps8080.proofs.SiteNames.{IsOwnLocation, location_is_own, place_is_own}
use Rattle.exprgen8080.proofs.Ranks.{Joining.{Falls, IsPlaced, after_plain, by_test, falls, joined}}

near_fall :
    {site : Site} {limit : ℕ} (near : Near) (location : Location)
    → Falls site limit (store_near_steps near location)
near_fall First location = falls tt
near_fall Second location = falls tt

beside_a_fall :
    {site : Site} {limit : ℕ} (goal : Goal) (pushed : ℕ)
    → IsPlaced site.tree.now limit goal.reference
    → Falls site limit (address_beside_a_steps goal pushed)
beside_a_fall goal pushed is = by_test goal.keeps.a (falls (is, tt)) (falls (is, tt))

beside_de_fall :
    {site : Site} {limit : ℕ} (goal : Goal) (pushed : ℕ)
    → IsPlaced site.tree.now limit goal.reference
    → Falls site limit (address_beside_de_steps goal pushed)
beside_de_fall goal pushed is = by_test goal.keeps.de (falls (is, tt)) (falls (is, tt))

zero_by :
    {site : Site} {limit : ℕ} (goal : Goal) (to : ScalarType)
    → Falls site limit (elim to [
      | Byte ↦ []
      | Address ↦ plain (Inx Hl ∷ Mvi M 0 ∷ []) ++ byte_is_here_steps goal.location
    ])
zero_by goal Byte = falls tt
zero_by goal Address = falls tt

a_at_fall :
    {site : Site} {limit : ℕ} (goal : Goal) (pushed : ℕ)
    → IsPlaced site.tree.now limit goal.reference
    → Falls site limit (store_a_at_steps goal pushed)
a_at_fall goal pushed is =
    joined (beside_a_fall goal pushed is) (after_plain (zero_by goal goal.to))

extended_near :
    {site : Site} {limit : ℕ} (goal : Goal) (location : Location)
    (pushed : ℕ) (found : Option Near)
    → IsPlaced site.tree.now limit goal.reference
    → Falls site limit (elim found [
      | Some near ↦ extension_steps ++ store_near_steps near location ++ byte_is_here_steps (Some location)
      | None ↦ store_a_at_steps goal pushed
    ])
extended_near goal location pushed (Some near) is =
    after_plain (after_plain (joined (near_fall near location) (falls tt)))
extended_near goal location pushed None is = a_at_fall goal pushed is

extended_fall :
    {site : Site} {limit : ℕ} (goal : Goal) (location : Location)
    (pushed : ℕ)
    → IsPlaced site.tree.now limit goal.reference
    → IsOwnLocation site.tree.now location
    → Falls site limit (store_extended_steps site goal location pushed)
extended_fall goal (Static place) pushed is own = falls (place_is_own own, tt)
extended_fall {site = site} goal (Frame variable offset) pushed is own =
    extended_near goal (Frame variable offset) pushed (word_near site (Frame variable offset) pushed) is

byte_at_location :
    {site : Site} {limit : ℕ} (goal : Goal) (location : Location)
    (pushed : ℕ)
    → IsPlaced site.tree.now limit goal.reference
    → IsOwnLocation site.tree.now location
    → Falls site limit (elim location [
      | Static place ↦ steps.Word StoreA place ∷ []
      | Frame variable offset ↦ store_a_at_steps goal pushed
    ])
byte_at_location goal (Static place) pushed is own = falls (place_is_own own, tt)
byte_at_location goal (Frame variable offset) pushed is own = a_at_fall goal pushed is

a_at_location :
    {site : Site} {limit : ℕ} (goal : Goal) (location : Location)
    (to : ScalarType) (pushed : ℕ)
    → IsPlaced site.tree.now limit goal.reference
    → IsOwnLocation site.tree.now location
    → Falls site limit (elim to [
      | Address ↦ store_extended_steps site goal location pushed
      | Byte ↦ elim location [
        | Static place ↦ steps.Word StoreA place ∷ []
        | Frame variable offset ↦ store_a_at_steps goal pushed
      ]
    ])
a_at_location goal location Address pushed is own = extended_fall goal location pushed is own
a_at_location goal location Byte pushed is own = byte_at_location goal location pushed is own

a_fall :
    {site : Site} {limit : ℕ} (goal : Goal) (pushed : ℕ)
    → IsPlaced site.tree.now limit goal.reference
    → IfSome goal.location (IsOwnLocation site.tree.now)
    → Falls site limit (store_a_steps site goal pushed)
a_fall {site = site} {limit = limit} goal pushed is own = by goal.location own
  where
    by : (found : Option Location) → IfSome found (IsOwnLocation site.tree.now)
        → Falls site limit (elim found [
          | None ↦ store_a_at_steps goal pushed
          | Some location ↦ elim goal.to [
            | Address ↦ store_extended_steps site goal location pushed
            | Byte ↦ elim location [
              | Static place ↦ steps.Word StoreA place ∷ []
              | Frame variable offset ↦ store_a_at_steps goal pushed
            ]
          ]
        ])
    by (Some location) has = a_at_location goal location goal.to pushed is has
    by None has = a_at_fall goal pushed is

high_by :
    {site : Site} {limit : ℕ} (to : ScalarType)
    → Falls site limit (elim to [ Byte ↦ [] | Address ↦ plain (Inx Hl ∷ MovToMemory D ∷ []) ])
high_by Byte = falls tt
high_by Address = falls tt

back_by :
    {site : Site} {limit : ℕ} (goal : Goal) (to : ScalarType)
    → Falls site limit (elim to [ Byte ↦ [] | Address ↦ word_is_here_steps goal.location ])
back_by goal Byte = falls tt
back_by goal Address = falls tt

back_fall :
    {site : Site} {limit : ℕ} (goal : Goal) (is_wanted : Bool)
    → Falls site limit (value_back_steps goal is_wanted)
back_fall goal false = falls tt
back_fall goal true = after_plain (back_by goal goal.to)

hl_at_fall :
    {site : Site} {limit : ℕ} (goal : Goal) (is_wanted : Bool) (pushed : ℕ)
    → IsPlaced site.tree.now limit goal.reference
    → Falls site limit (store_hl_at_steps goal is_wanted pushed)
hl_at_fall goal is_wanted pushed is =
    joined (joined (beside_de_fall goal pushed is) (after_plain (high_by goal.to))) (back_fall goal is_wanted)

low_at_fall :
    {site : Site} {limit : ℕ} (goal : Goal) (is_wanted : Bool) (pushed : ℕ)
    → IsPlaced site.tree.now limit goal.reference
    → Falls site limit (store_low_byte_at_steps goal is_wanted pushed)
low_at_fall goal is_wanted pushed is =
    by_test (goal.keeps.a && not is_wanted)
    (after_plain (a_at_fall goal pushed is))
    (hl_at_fall goal is_wanted pushed is)

low_fall :
    {site : Site} {limit : ℕ} (goal : Goal) (is_wanted : Bool) (pushed : ℕ)
    → IsPlaced site.tree.now limit goal.reference
    → IfSome goal.location (IsOwnLocation site.tree.now)
    → Falls site limit (store_low_byte_steps goal is_wanted pushed)
low_fall {site = site} {limit = limit} goal is_wanted pushed is own = by goal.location own
  where
    by : (found : Option Location) → IfSome found (IsOwnLocation site.tree.now)
        → Falls site limit (elim found [
          | None ↦ store_low_byte_at_steps goal is_wanted pushed
          | Some location ↦ elim location [
            | Static place ↦ steps.Plain (copy A L) ∷ steps.Word StoreA place ∷ []
            | Frame variable offset ↦ store_low_byte_at_steps goal is_wanted pushed
          ]
        ])
    by None has = low_at_fall goal is_wanted pushed is
    by (Some (Static place)) has = falls (place_is_own has, tt)
    by (Some (Frame variable offset)) has = low_at_fall goal is_wanted pushed is

word_fall :
    {site : Site} {limit : ℕ} (goal : Goal) (is_wanted : Bool) (pushed : ℕ)
    → IsPlaced site.tree.now limit goal.reference
    → IfSome goal.location (IsOwnLocation site.tree.now)
    → Falls site limit (store_word_steps site goal is_wanted pushed)
word_fall {site = site} {limit = limit} goal is_wanted pushed is own = by goal.location own
  where
    nearby : (location : Location) (found : Option Near)
        → Falls site limit (elim found [
          | Some near ↦ store_near_steps near location
          | None ↦ store_hl_at_steps goal is_wanted pushed
        ])
    nearby location (Some near) = near_fall near location
    nearby location None =
        hl_at_fall goal is_wanted pushed is

    by : (found : Option Location) → IfSome found (IsOwnLocation site.tree.now)
        → Falls site limit (elim found [
          | None ↦ store_hl_at_steps goal is_wanted pushed
          | Some location ↦ elim location [
            | Static place ↦ steps.Word StoreHl place ∷ []
            | Frame variable offset ↦ elim (word_near site (Frame variable offset) pushed) [
              | Some near ↦ store_near_steps near (Frame variable offset)
              | None ↦ store_hl_at_steps goal is_wanted pushed
            ]
          ]
        ])
    by None has = hl_at_fall goal is_wanted pushed is
    by (Some (Static place)) has = falls (place_is_own has, tt)
    by (Some (Frame variable offset)) has =
        nearby (Frame variable offset) (word_near site (Frame variable offset) pushed)

goal_fall :
    {site : Site} {limit : ℕ} (from : ScalarType) (goal : Goal)
    (is_wanted : Bool) (pushed : ℕ)
    → IsPlaced site.tree.now limit goal.reference
    → IfSome goal.location (IsOwnLocation site.tree.now)
    → Falls site limit (goal_steps site from goal is_wanted pushed)
goal_fall {site = site} Byte goal is_wanted pushed is own =
    a_fall goal pushed is own
goal_fall {site = site} {limit = limit} Address goal is_wanted pushed is own = by goal.to
  where
    by : (to : ScalarType)
        → Falls site limit (elim to [
          | Byte ↦ store_low_byte_steps goal is_wanted pushed
          | Address ↦ store_word_steps site goal is_wanted pushed
        ])
    by Byte = low_fall goal is_wanted pushed is own
    by Address = word_fall goal is_wanted pushed is own

-- the part of an object that a value is stored in
abbrev pub IsGoal : (tree : TreeModule) → (limit : ℕ) → Target → Type 0
IsGoal tree limit (Stored from to reference) = IsPlaced tree limit reference
IsGoal tree limit (Sent from port) = Unit {0}

-- stores a value in a target
pub store_fall :
    {site : Site} {limit : ℕ} (target : Target) (is_wanted : Bool)
    (pushed : ℕ)
    → IsGoal site.tree.now limit target
    → Falls site limit (store_steps site target is_wanted pushed)
store_fall (Sent Byte port) is_wanted pushed is = falls tt
store_fall (Sent Address port) is_wanted pushed is = falls tt
store_fall {site = site} {limit = limit} (Stored from to reference) is_wanted pushed is =
    goal_fall from (goal_of site to reference) is_wanted pushed is (location_is_own site reference)
