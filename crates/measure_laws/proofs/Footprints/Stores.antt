-- Stores of a value in A or HL.
use Rattle.measure_laws.proofs.Prelude.{Bool, None, Option, Some, [], arith, false, not, refl, true, ℕ, ◌&&◌, ◌*◌, ◌++◌, ◌+◌, ◌-◌, ◌∷◌, ◌≤◌, ScalarType, Address, Byte, height_of_target, TypedTarget, Inx, MovToMemory, Mvi, M, Hl, A, D, L, StoreA, StoreHl, IsStored, IsTarget, nodes_of, Location, Frame, Static, Reference, Target, Sent, Stored, copy, extension_steps, address_beside_a_steps, address_beside_de_steps, byte_is_here_steps, goal_of, goal_steps, store_a_at_steps, store_a_steps, store_extended_steps, store_hl_at_steps, store_low_byte_at_steps, store_low_byte_steps, store_near_steps, store_steps, store_word_steps, value_back_steps, word_is_here_steps, word_near, Goal, Near, First, Second, weight_in_target, beside_at, AimHolds, indices}
use Rattle.steps8080.specs.declared.step.Step.TheVariants as steps
use Rattle.steps8080.specs.internal.Step.{plain}
use Rattle.measure_laws.specs.internal.Footprints.{Footprint, Ground, IsAimed, IsPlaced}
use Rattle.measure_laws.proofs.{Footprints.Joining.{after_plain, by_test, counted, joined, within}}

-- a scalar to store in, with a word that may be pushed before its address is computed
pub record IsGoal (at : Ground) (free : ℕ) (reference : Reference) : Type 0 where
  pub near : IsPlaced at free reference
  pub far : IsPlaced at (free - 2) reference
  pub room : 2 ≤ free

near_footprint :
    {at : Ground} {free : ℕ} (near : Near) (location : Location)
    → Footprint at free (store_near_steps near location) free 4
near_footprint First location = counted (omega arith, omega arith) (omega arith)
near_footprint Second location = counted (omega arith, (omega arith, omega arith)) (omega arith)

beside_a_footprint :
    {at : Ground} {free : ℕ} (goal : Goal) (pushed : ℕ)
    → IsGoal at free goal.reference
    → Footprint at free (address_beside_a_steps goal pushed) free (34 + 128 * indices at.site goal.reference)
beside_a_footprint goal pushed is =
    by_test goal.keeps.a (counted (is.near, refl) (omega arith))
    (counted (is.room, (is.far, omega (arith, is.room))) (omega arith))

beside_de_footprint :
    {at : Ground} {free : ℕ} (goal : Goal) (pushed : ℕ)
    → IsGoal at free goal.reference
    → Footprint at free (address_beside_de_steps goal pushed) free (34 + 128 * indices at.site goal.reference)
beside_de_footprint goal pushed is =
    by_test goal.keeps.de (counted (is.near, refl) (omega arith))
    (counted (is.room, (is.far, omega (arith, is.room))) (omega arith))

zero_by :
    {at : Ground} {free : ℕ} (goal : Goal) (to : ScalarType)
    → Footprint at free (elim to [
      | Byte ↦ []
      | Address ↦ plain (Inx Hl ∷ Mvi M 0 ∷ []) ++ byte_is_here_steps goal.location
    ]) free 3
zero_by goal Byte = counted refl (omega arith)
zero_by goal Address = counted refl (omega arith)

a_at_footprint :
    {at : Ground} {free : ℕ} (goal : Goal) (pushed : ℕ)
    → IsGoal at free goal.reference
    → Footprint at free (store_a_at_steps goal pushed) free (38 + 128 * indices at.site goal.reference)
a_at_footprint {at = at} goal pushed is =
    joined (34 + 128 * indices at.site goal.reference) 4 (beside_a_footprint goal pushed is)
    (after_plain 3 refl (zero_by goal goal.to) (omega arith)) (omega arith)

extended_near :
    {at : Ground} {free : ℕ} (goal : Goal) (location : Location) (pushed : ℕ) (found : Option Near)
    → IsGoal at free goal.reference
    → Footprint at free (elim found [
      | Some near ↦ extension_steps ++ store_near_steps near location ++ byte_is_here_steps (Some location)
      | None ↦ store_a_at_steps goal pushed
    ]) free (38 + 128 * indices at.site goal.reference)
extended_near goal location pushed (Some near) is =
    after_plain 6 refl
    (after_plain 4 refl (joined 4 0 (near_footprint near location) (counted refl (omega arith)) (omega arith))
    (omega arith)) (omega arith)
extended_near goal location pushed None is = a_at_footprint goal pushed is

extended_footprint :
    {at : Ground} {free : ℕ} (goal : Goal) (location : Location) (pushed : ℕ)
    → IsGoal at free goal.reference
    → Footprint at free (store_extended_steps at.site goal location pushed) free
    (38 + 128 * indices at.site goal.reference)
extended_footprint goal (Static place) pushed is = counted refl (omega arith)
extended_footprint {at = at} goal (Frame variable offset) pushed is =
    extended_near goal (Frame variable offset) pushed (word_near at.site (Frame variable offset) pushed) is

byte_at_location :
    {at : Ground} {free : ℕ} (goal : Goal) (location : Location) (pushed : ℕ)
    → IsGoal at free goal.reference
    → Footprint at free (elim location [
      | Static place ↦ steps.Word StoreA place ∷ []
      | Frame variable offset ↦ store_a_at_steps goal pushed
    ]) free (38 + 128 * indices at.site goal.reference)
byte_at_location goal (Static place) pushed is = counted refl (omega arith)
byte_at_location goal (Frame variable offset) pushed is = a_at_footprint goal pushed is

a_at_location :
    {at : Ground} {free : ℕ} (goal : Goal) (location : Location) (to : ScalarType) (pushed : ℕ)
    → IsGoal at free goal.reference
    → Footprint at free (elim to [
      | Address ↦ store_extended_steps at.site goal location pushed
      | Byte ↦ elim location [
        | Static place ↦ steps.Word StoreA place ∷ []
        | Frame variable offset ↦ store_a_at_steps goal pushed
      ]
    ]) free (38 + 128 * indices at.site goal.reference)
a_at_location goal location Address pushed is = extended_footprint goal location pushed is
a_at_location goal location Byte pushed is = byte_at_location goal location pushed is

a_footprint :
    {at : Ground} {free : ℕ} (goal : Goal) (pushed : ℕ)
    → IsGoal at free goal.reference
    → Footprint at free (store_a_steps at.site goal pushed) free (38 + 128 * indices at.site goal.reference)
a_footprint {at = at} {free = free} goal pushed is = by goal.location
  where
    by : (found : Option Location)
        → Footprint at free (elim found [
          | None ↦ store_a_at_steps goal pushed
          | Some location ↦ elim goal.to [
            | Address ↦ store_extended_steps at.site goal location pushed
            | Byte ↦ elim location [
              | Static place ↦ steps.Word StoreA place ∷ []
              | Frame variable offset ↦ store_a_at_steps goal pushed
            ]
          ]
        ]) free (38 + 128 * indices at.site goal.reference)
    by (Some location) = a_at_location goal location goal.to pushed is
    by None = a_at_footprint goal pushed is

high_by :
    {at : Ground} {free : ℕ} (to : ScalarType)
    → Footprint at free (elim to [ Byte ↦ [] | Address ↦ plain (Inx Hl ∷ MovToMemory D ∷ []) ]) free 2
high_by Byte = counted refl (omega arith)
high_by Address = counted refl (omega arith)

back_by :
    {at : Ground} {free : ℕ} (goal : Goal) (to : ScalarType)
    → Footprint at free (elim to [ Byte ↦ [] | Address ↦ word_is_here_steps goal.location ]) free 0
back_by goal Byte = counted refl (omega arith)
back_by goal Address = counted refl (omega arith)

back_footprint :
    {at : Ground} {free : ℕ} (goal : Goal) (is_wanted : Bool)
    → Footprint at free (value_back_steps goal is_wanted) free 1
back_footprint goal false = counted refl (omega arith)
back_footprint goal true = after_plain 0 refl (back_by goal goal.to) (omega arith)

hl_at_footprint :
    {at : Ground} {free : ℕ} (goal : Goal) (is_wanted : Bool) (pushed : ℕ)
    → IsGoal at free goal.reference
    → Footprint at free (store_hl_at_steps goal is_wanted pushed) free
    (38 + 128 * indices at.site goal.reference)
hl_at_footprint {at = at} goal is_wanted pushed is =
    joined (37 + 128 * indices at.site goal.reference) 1
    (joined (34 + 128 * indices at.site goal.reference) 3 (beside_de_footprint goal pushed is)
    (after_plain 2 refl (high_by goal.to) (omega arith)) (omega arith)) (back_footprint goal is_wanted)
    (omega arith)

low_at_footprint :
    {at : Ground} {free : ℕ} (goal : Goal) (is_wanted : Bool) (pushed : ℕ)
    → IsGoal at free goal.reference
    → Footprint at free (store_low_byte_at_steps goal is_wanted pushed) free
    (39 + 128 * indices at.site goal.reference)
low_at_footprint {at = at} goal is_wanted pushed is =
    by_test (goal.keeps.a && not is_wanted)
    (after_plain (38 + 128 * indices at.site goal.reference) refl (a_at_footprint goal pushed is)
    (omega arith))
    (within (38 + 128 * indices at.site goal.reference) (hl_at_footprint goal is_wanted pushed is)
    (omega arith))

low_footprint :
    {at : Ground} {free : ℕ} (goal : Goal) (is_wanted : Bool) (pushed : ℕ)
    → IsGoal at free goal.reference
    → Footprint at free (store_low_byte_steps goal is_wanted pushed) free
    (39 + 128 * indices at.site goal.reference)
low_footprint {at = at} {free = free} goal is_wanted pushed is = by goal.location
  where
    by : (found : Option Location)
        → Footprint at free (elim found [
          | None ↦ store_low_byte_at_steps goal is_wanted pushed
          | Some location ↦ elim location [
            | Static place ↦ steps.Plain (copy A L) ∷ steps.Word StoreA place ∷ []
            | Frame variable offset ↦ store_low_byte_at_steps goal is_wanted pushed
          ]
        ]) free (39 + 128 * indices at.site goal.reference)
    by None = low_at_footprint goal is_wanted pushed is
    by (Some (Static place)) = counted refl (omega arith)
    by (Some (Frame variable offset)) = low_at_footprint goal is_wanted pushed is

word_footprint :
    {at : Ground} {free : ℕ} (goal : Goal) (is_wanted : Bool) (pushed : ℕ)
    → IsGoal at free goal.reference
    → Footprint at free (store_word_steps at.site goal is_wanted pushed) free
    (39 + 128 * indices at.site goal.reference)
word_footprint {at = at} {free = free} goal is_wanted pushed is = by goal.location
  where
    nearby : (location : Location) (found : Option Near)
        → Footprint at free (elim found [
          | Some near ↦ store_near_steps near location
          | None ↦ store_hl_at_steps goal is_wanted pushed
        ]) free (39 + 128 * indices at.site goal.reference)
    nearby location (Some near) = within 4 (near_footprint near location) (omega arith)
    nearby location None =
        within (38 + 128 * indices at.site goal.reference) (hl_at_footprint goal is_wanted pushed is)
        (omega arith)

    by : (found : Option Location)
        → Footprint at free (elim found [
          | None ↦ store_hl_at_steps goal is_wanted pushed
          | Some location ↦ elim location [
            | Static place ↦ steps.Word StoreHl place ∷ []
            | Frame variable offset ↦ elim (word_near at.site (Frame variable offset) pushed) [
              | Some near ↦ store_near_steps near (Frame variable offset)
              | None ↦ store_hl_at_steps goal is_wanted pushed
            ]
          ]
        ]) free (39 + 128 * indices at.site goal.reference)
    by None =
        within (38 + 128 * indices at.site goal.reference) (hl_at_footprint goal is_wanted pushed is)
        (omega arith)
    by (Some (Static place)) = counted refl (omega arith)
    by (Some (Frame variable offset)) =
        nearby (Frame variable offset) (word_near at.site (Frame variable offset) pushed)

goal_footprint :
    {at : Ground} {free : ℕ} (from : ScalarType) (goal : Goal) (is_wanted : Bool) (pushed : ℕ)
    → IsGoal at free goal.reference
    → Footprint at free (goal_steps at.site from goal is_wanted pushed) free
    (39 + 128 * indices at.site goal.reference)
goal_footprint {at = at} {free = free} Byte goal is_wanted pushed is =
    within (38 + 128 * indices at.site goal.reference) (a_footprint goal pushed is) (omega arith)
goal_footprint {at = at} {free = free} Address goal is_wanted pushed is = by goal.to
  where
    by : (to : ScalarType)
        → Footprint at free (elim to [
          | Byte ↦ store_low_byte_steps goal is_wanted pushed
          | Address ↦ store_word_steps at.site goal is_wanted pushed
        ]) free (39 + 128 * indices at.site goal.reference)
    by Byte = low_footprint goal is_wanted pushed is
    by Address = word_footprint goal is_wanted pushed is

pub placed_target :
    (at : Ground) (free : ℕ) (from to : ScalarType) (reference : Reference) {bound : ℕ} {aim : TypedTarget}
    → IsTarget (nodes_of at.site.tree.now) at.source.storage bound (Stored from to reference) aim
    → AimHolds at.source.typed at.source.within aim
    → 2 + 2 * height_of_target aim ≤ free
    → IsGoal at free reference
placed_target at free from to reference {bound = bound} (IsStored {part = part} one) types room = record {
  near = record { bound = bound; part = part; node = one; types = types; room = omega (arith, room) };
  far = record { bound = bound; part = part; node = one; types = types; room = omega (arith, room) };
  room = omega (arith, room);
}

-- stores a value in a target
pub store_footprint :
    {at : Ground} {free : ℕ} (target : Target) (is_wanted : Bool) (pushed : ℕ)
    → IsAimed at free target
    → Footprint at free (store_steps at.site target is_wanted pushed) free
    (64 + 128 * weight_in_target (beside_at (nodes_of at.site.tree.now)) target)
store_footprint (Sent Byte port) is_wanted pushed is = counted refl (omega arith)
store_footprint (Sent Address port) is_wanted pushed is = counted refl (omega arith)
store_footprint {at = at} {free = free} (Stored from to reference) is_wanted pushed is =
    within (39 + 128 * indices at.site reference)
    (goal_footprint from (goal_of at.site to reference) is_wanted pushed
    (placed_target at free from to reference is.node is.types is.room)) (omega arith)
