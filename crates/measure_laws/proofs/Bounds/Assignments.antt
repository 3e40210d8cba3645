-- Assignments.
use Rattle.measure_laws.proofs.Prelude.{◌≡◌, ℕ, ◌+◌, ◌-◌, ◌<◌, ◌≤◌, Bool, true, false, if◌then◌else◌, is_some, nat_eq, nat_lt, List, [], ◌∷◌, sum_by, Option, Some, None, refl, sym, ap, subst, ◌∙◌, arith, eqb-true, sum_by-cons, ScalarType, Byte, Address, SentTo, StoredIn, TypedExpression, TypedModule, TypedTarget, TypesHoldInTarget, TypesHoldInTargets, Within, weight_of_expression, weight_of_storing, weight_of_target, Storage, ExpressionNumber, Range, Target, AreTargets, IsSent, IsStored, IsTarget, MoreTargets, NoTargets, nodes_of, target_at, Facts, Site, known, number, expression, scalar, knowing, Body, Planned, any_target, assignment_steps, each_at, each_steps, from_type, several_by, single_steps, store_at, takes_byte, takes_word, together_steps, types_by, value_steps, part, steps_from, site_of, bytes_for, none_passes, BodyGround, IsWithinLevel, AimHolds, ◌*◌, PlanFootprint, height_of_target, height_of_targets}
use Rattle.steps8080.specs.declared.step.Task.TheVariants as tasks
use Rattle.statements8080.specs.internal.Assignments.{stores_steps}
use Rattle.measure_laws.proofs.{Bounds.KnownValues.{known_byte_small, known_word_small}, Bounds.ExpressionParts.{target_weighs, weight_beside}, Bounds.Singles.{ValueFits, single_fits}, Bounds.Targets.{EachFits, targets_fit}, Bounds.Ranges.{item_there}}
use Rattle.measure_laws.proofs.Footprints.Trees.{aim_holds}
use Rattle.measure_laws.proofs.{Bounds.Fitting.{asking_fits, both_fit, less_fits, none_fit}, Bounds.Planning.{byte_fits, store_fits, word_fits}}

-- a number is known at every site
pub number_anywhere :
    (site : Site) (facts : Facts) (value : ExpressionNumber)
    → number (knowing site facts) value ≡ number site value
unfolding number known expression
number_anywhere site facts value = refl

-- the target for a value of this type
abbrev pub retyped : TypedTarget → ScalarType → TypedTarget
retyped (StoredIn from to reference) there = StoredIn there to reference
retyped (SentTo from port) there = SentTo there port

retyped_is :
    (body : Body) (storage : Storage) (bound : ℕ) (target : Target) (tree : TypedTarget) (there : ScalarType)
    → IsTarget (nodes_of body.tree.now) storage bound target tree
    → IsTarget (nodes_of body.tree.now) storage bound (from_type target there) (retyped tree there)
retyped_is body storage bound _ _ there (IsStored is) = IsStored is
retyped_is body storage bound _ _ there IsSent = IsSent

-- no target weighs more with the type of the stored value: a BYTE if all take bytes, an ADDRESS if all take
-- words, or the type of the value
byte_lighter :
    (body : Body) (storage : Storage) (bound : ℕ) (target : Target) (tree : TypedTarget)
    → IsTarget (nodes_of body.tree.now) storage bound target tree
    → takes_word target ≡ false
    → weight_beside (retyped tree Byte) ≤ weight_beside tree
byte_lighter body storage bound _ _ (IsStored {to = Byte} is) no_word = omega arith
byte_lighter body storage bound _ _ (IsStored {to = Address} is) no_word = let never : ⊥ = cc in absurd never
byte_lighter body storage bound _ _ IsSent no_word = omega arith

word_lighter :
    (body : Body) (storage : Storage) (bound : ℕ) (target : Target) (tree : TypedTarget)
    → IsTarget (nodes_of body.tree.now) storage bound target tree
    → takes_byte target ≡ false
    → weight_beside (retyped tree Address) ≤ weight_beside tree
word_lighter body storage bound _ _ (IsStored {to = Byte} is) no_byte = let never : ⊥ = cc in absurd never
word_lighter body storage bound _ _ (IsStored {to = Address} is) no_byte = omega arith
word_lighter body storage bound _ _ IsSent no_byte = let never : ⊥ = cc in absurd never

same_weighs :
    (typed : TypedModule) (within : Within) (of there : ScalarType) (tree : TypedTarget)
    → there ≡ of
    → TypesHoldInTarget typed within of tree
    → weight_beside (retyped tree there) ≤ weight_beside tree
same_weighs typed within of there (StoredIn from to reference) same types =
    let weighs = ap (λ (scalar : ScalarType). weight_of_storing scalar to) (same ∙ sym types.0) in
    omega (arith, weighs)
same_weighs typed within of there (SentTo from port) same types =
    let weighs = ap (λ (scalar : ScalarType). weight_of_storing scalar Byte) (same ∙ sym types.0) in
    omega (arith, weighs)

retyped_holds :
    (typed : TypedModule) (within : Within) (tree : TypedTarget) (there : ScalarType)
    → AimHolds typed within tree
    → AimHolds typed within (retyped tree there)
retyped_holds typed within (StoredIn from to reference) there types = types
retyped_holds typed within (SentTo from port) there types = tt

retyped_room :
    (tree : TypedTarget) (there : ScalarType) (level : ℕ)
    → 2 + 2 * height_of_target tree ≤ level
    → 2 + 2 * height_of_target (retyped tree there) ≤ level
retyped_room (StoredIn from to reference) there level room = omega (arith, room)
retyped_room (SentTo from port) there level room = omega (arith, room)

module _ (at : BodyGround) where
  pub value_fits :
      {tree : TypedExpression} (value : ExpressionNumber)
      → IsWithinLevel at value tree
      → ValueFits at value (bytes_for (weight_of_expression tree))
  value_fits value is = record {
    as_byte = byte_fits at value 0 is;
    as_word = word_fits at value 0 is;
  }

  pub known_value_fits :
      {tree : TypedExpression} (value : ExpressionNumber) (given : ℕ)
      → number (site_of at.body) value ≡ Some given
      → IsWithinLevel at value tree
      → ValueFits at value 3
  known_value_fits value given same is = record {
    as_byte = record {
      fits = λ done own.
          let as_weighed = (byte_fits at value 0 is).fits done own in
          record { room = as_weighed.room; small = λ c. known_byte_small value given 0 same done; goes = as_weighed.goes };
    };
    as_word = record {
      fits = λ done own.
          let as_weighed = (word_fits at value 0 is).fits done own in
          record { room = as_weighed.room; small = λ c. known_word_small value given 0 same done; goes = as_weighed.goes };
    };
  }

  module _ (of : ScalarType) where
    -- each target gets a value as if it were the only one
    each_fits :
        (site : Site) (targets : Range) (value : ExpressionNumber)
        → ValueFits at value 3
        → EachFits at of targets (each_at at.body site targets value)
    each_fits site targets value fit bound index target tree less found is types room =
        let weighs = target_weighs tree in
        subst (λ (given : Option Target). PlanFootprint at
        (elim given as (λ (one : Option Target). List Planned) [
          | Some there ↦ single_steps at.body site there value
          | None ↦ []
        ]) (bytes_for (weight_of_target tree))) (sym found)
        (less_fits (single_fits at value 3 fit site is
        (aim_holds at.source.typed at.source.within of tree types) room) (omega (arith, weighs)))

    -- a value in a register is stored in each target, which weighs no more with its type
    store_each_fits :
        (targets : Range) (from : ScalarType)
        → ((bound index : ℕ) (target : Target) (tree : TypedTarget)
        → index < targets.count
        → target_at at.body.tree.now targets index ≡ Some target
        → IsTarget (nodes_of at.body.tree.now) at.source.storage bound target tree
        → TypesHoldInTarget at.source.typed at.source.within of tree
        → weight_beside (retyped tree from) ≤ weight_beside tree)
        → EachFits at of targets (store_at at.body targets from)
    store_each_fits targets from lighter bound index target tree less found is types room =
        let weighs = target_weighs tree in
        let light = lighter bound index target tree less found is types in
        subst (λ (given : Option Target). PlanFootprint at
        (elim given as (λ (one : Option Target). List Planned) [
          | Some there ↦ part (tasks.Store (from_type there from) (nat_lt index (targets.count - 1))) 0 ∷ []
          | None ↦ []
        ]) (bytes_for (weight_of_target tree))) (sym found)
        (less_fits
        (store_fits at (from_type target from) (nat_lt index (targets.count - 1)) 0
        (retyped_is at.body at.source.storage bound target tree from is)
        (retyped_holds at.source.typed at.source.within tree from
        (aim_holds at.source.typed at.source.within of tree types))
        (retyped_room tree from at.level room))
        (omega (arith, weighs, light)))

    module _
        {trees : List TypedTarget} {tree : TypedExpression} (facts : Facts) (targets : Range)
        (value : ExpressionNumber) (is : IsWithinLevel at value tree)
        (are : AreTargets (nodes_of at.body.tree.now) at.source.storage targets.first targets.count trees)
        (types : TypesHoldInTargets at.source.typed at.source.within of trees)
        (room : 2 + 2 * height_of_targets trees ≤ at.level)
      where
        abbrev site : Site
        site = knowing (site_of at.body) facts

        abbrev most : ℕ
        most = bytes_for (sum_by weight_of_target trees + weight_of_expression tree)

        together_fits :
            (from : ScalarType)
            → ((bound index : ℕ) (target : Target) (one : TypedTarget)
            → index < targets.count
            → target_at at.body.tree.now targets index ≡ Some target
            → IsTarget (nodes_of at.body.tree.now) at.source.storage bound target one
            → TypesHoldInTarget at.source.typed at.source.within of one
            → weight_beside (retyped one from) ≤ weight_beside one)
            → PlanFootprint at (together_steps at.body targets value from) most
        together_fits from lighter = less_fits (both_fit (first from) stores) (omega arith)
          where
            first :
                (there : ScalarType)
                → PlanFootprint at (value_steps value there) (bytes_for (weight_of_expression tree))
            first Byte = byte_fits at value 0 is
            first Address = word_fits at value 0 is

            stores : PlanFootprint at (stores_steps at.body targets from)
                (bytes_for (sum_by weight_of_target trees))
            stores =
                targets_fit of targets (store_at at.body targets from)
                (store_each_fits targets from lighter) 0
                (omega arith) (omega arith) are types room

        several_fits :
            (bytes words : Bool)
            → any_target takes_byte at.body targets 0 targets.count ≡ bytes
            → any_target takes_word at.body targets 0 targets.count ≡ words
            → scalar site value ≡ of
            → PlanFootprint at (several_by (types_by bytes words) at.body site targets value) most
        several_fits bytes false has_bytes has_words type_is =
            together_fits Byte
            (λ bound index target one less found target_is held.
            byte_lighter at.body at.source.storage bound target one target_is
            (none_passes takes_word at.body targets 0 targets.count index target has_words (omega arith)
            (omega (arith, less)) found))
        several_fits false true has_bytes has_words type_is =
            together_fits Address
            (λ bound index target one less found target_is held.
            word_lighter at.body at.source.storage bound target one target_is
            (none_passes takes_byte at.body targets 0 targets.count index target has_bytes (omega arith)
            (omega (arith, less)) found))
        several_fits true true has_bytes has_words type_is = by (number site value) refl
          where
            each :
                (given : ℕ) → number site value ≡ Some given
                → PlanFootprint at (each_steps at.body site targets value) most
            each given is_number =
                less_fits
                (targets_fit of targets (each_at at.body site targets value)
                (each_fits site targets value
                (known_value_fits value given (sym (number_anywhere (site_of at.body) facts value)
                ∙ is_number) is))
                0 (omega arith) (omega arith) are types room)
                (omega arith)

            by :
                (found : Option ℕ) → number site value ≡ found
                → PlanFootprint at
                (if is_some found then each_steps at.body site targets value
                else together_steps at.body targets value (scalar site value))
                most
            by (Some given) is_number = each given is_number
            by None is_number =
                together_fits (scalar site value)
                (λ bound index target one less found target_is held.
                same_weighs at.source.typed at.source.within of (scalar site value) one type_is held)

        only_fits :
            targets.count ≡ 1
            → PlanFootprint at (each_steps at.body site targets value) most
        only_fits one = by targets.count trees are types room one refl
          where
            by :
                (count : ℕ) (some : List TypedTarget)
                → AreTargets (nodes_of at.body.tree.now) at.source.storage targets.first count some
                → TypesHoldInTargets at.source.typed at.source.within of some
                → 2 + 2 * height_of_targets some ≤ at.level
                → count ≡ 1
                → targets.count ≡ count
                → PlanFootprint at (steps_from (each_at at.body site targets value) 0 count)
                (bytes_for (sum_by weight_of_target some + weight_of_expression tree))
            by _ _ NoTargets held room_is is_one same = absurd (omega (arith, is_one))
            by _ _ (MoreTargets there target_is (MoreTargets more_there more_is more)) held
                room_is is_one same =
                absurd (omega (arith, is_one))
            by _ _ (MoreTargets {target = target} {tree = one_tree} there target_is NoTargets) held
                room_is is_one same =
                let weighs = target_weighs one_tree in
                let sum = sum_by-cons weight_of_target one_tree [] in
                less_fits
                (both_fit
                (subst (λ (given : Option Target). PlanFootprint at
                (elim given as (λ (g : Option Target). List Planned) [
                  | Some found ↦ single_steps at.body site found value
                  | None ↦ []
                ]) (bytes_for (weight_of_expression tree) + (64 + bytes_for (weight_beside one_tree))))
                (sym (item_there at.body.tree.now.targets.items targets 0 targets.first target (omega arith)
                (omega (arith, same)) there))
                (single_fits at value (bytes_for (weight_of_expression tree))
                (value_fits value is) site target_is
                (aim_holds at.source.typed at.source.within of one_tree held.0) (omega (arith, room_is))))
                (none_fit {most = 0}))
                (omega (arith, weighs, sum))

        pub assignment_fits :
            scalar site value ≡ of
            → PlanFootprint at (assignment_steps at.body site targets value) most
        assignment_fits type_is =
            asking_fits (nat_eq targets.count 1) (λ one. only_fits (eqb-true targets.count 1 one))
            (λ several. several_fits (any_target takes_byte at.body targets 0 targets.count)
            (any_target takes_word at.body targets 0 targets.count) refl refl type_is)
