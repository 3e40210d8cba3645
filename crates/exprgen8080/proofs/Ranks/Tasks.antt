-- The parts of a task rank below it.
use Rattle.exprgen8080.proofs.Prelude.{◌≡◌, ◌+◌, ◌*◌, ◌<◌, ◌≤◌, ◌∷◌, [], AreBelow, Bool, ExpressionNumber, List, None, NumbersRise, Option, Part, ScalarType, Site, Some, Step, Target, Task, TreeModule, ap, arguments_bound, arith, drop, drop_found, entry_of, expression, labels_from, marks_of, nodes_of, none-some, option_and_then, part_measure, rank, rank_of_byte, rank_of_word, same_Some, scalar, slice_get, step_measure, subst, suc, task_labels, task_steps, type_in, zero, ℕ}
use Rattle.trees.specs.declared.declaration.ScalarType.TheVariants as scalars
use Rattle.treecode.specs.declared.reference.Target.TheVariants as targets
use Rattle.treecode.specs.internal.Named.{NamesItsOwn}
use Rattle.steps8080.specs.declared.step.Step.TheVariants as steps
use Rattle.steps8080.specs.declared.step.Task.TheVariants as tasks
use Rattle.exprgen8080.specs.internal.Forms.{labels_of, steps_of}
use Rattle.exprgen8080.specs.internal.Named.{PlacesAreNamed}
use Rattle.exprgen8080.proofs.Ranks.{Joining.{FallsMarking, taking_none}, Addresses.{address_fall}, Stores.{IsGoal, store_fall}, Relations.{branch_fall}, Calls.{call_fall, effects_fall}, Values.{byte_fall, word_fall}}

low_in_byte : (number : ExpressionNumber) (scalar : ScalarType)
    → number.index * 16 + 6 < rank_of_byte (suc number.index) scalar
low_in_byte number scalars.Byte = omega arith
low_in_byte number scalars.Address = omega arith

low_in_word : (number : ExpressionNumber) (scalar : ScalarType)
    → number.index * 16 + 6 < rank_of_word (suc number.index) scalar
low_in_word number scalars.Byte = omega arith
low_in_word number scalars.Address = omega arith

word_in_byte : (bound : ℕ) (scalar : ScalarType) → scalar ≡ scalars.Address
    → rank_of_word bound scalar < rank_of_byte bound scalar
word_in_byte bound scalars.Byte same = let bad : scalars.Byte ≡ scalars.Address = same in cc
word_in_byte bound scalars.Address same = omega arith

byte_in_word : (bound : ℕ) (scalar : ScalarType) → scalar ≡ scalars.Byte
    → rank_of_byte bound scalar < rank_of_word bound scalar
byte_in_word bound scalars.Byte same = omega arith
byte_in_word bound scalars.Address same = let bad : scalars.Address ≡ scalars.Byte = same in cc

byte_in_branch : (bound : ℕ) (scalar : ScalarType) → rank_of_byte bound scalar < bound * 16 + 4
byte_in_branch bound scalars.Byte = omega arith
byte_in_branch bound scalars.Address = omega arith

-- the numbers of arguments are in the table of arguments
in_table : (table : List ExpressionNumber) (index : ℕ) (number : ExpressionNumber)
    → slice_get table index ≡ Some number → suc number.index ≤ arguments_bound table
in_table [] index number found = absurd (none-some number found)
in_table (first ∷ others) zero number found =
    let same : first.index ≡ number.index =
    ap (λ (of : ExpressionNumber). of.index) (same_Some first number found) in
    omega (arith, same)
in_table (first ∷ others) (suc index) number found = omega (arith, in_table others index number found)

in_range : (table : List ExpressionNumber) (entry : Option ℕ) (number : ExpressionNumber)
    → option_and_then (slice_get table) entry ≡ Some number → suc number.index ≤ arguments_bound table
in_range table (Some index) number found = in_table table index number found
in_range table None number found = absurd (none-some number found)

goal_is : (site : Site) (target : Target) (is_wanted : Bool) → NumbersRise (nodes_of site.tree.now)
    → IsGoal site.tree.now (rank site.tree.now (tasks.Store target is_wanted)) target
goal_is site (targets.Stored from to reference) is_wanted rises =
    record { rises = rises; small = omega arith }
goal_is site (targets.Sent from port) is_wanted rises = tt

steps_fall : (site : Site) (task : Task) (pushed first : ℕ) → NumbersRise (nodes_of site.tree.now)
    → FallsMarking site (rank site.tree.now task) first (labels_of site task pushed)
    (steps_of site task pushed first)
unfolding steps_of labels_of scalar expression
steps_fall site (tasks.Byte number) pushed first rises =
    taking_none {limit = rank site.tree.now (tasks.Byte number)}
    (byte_fall number pushed
    (record { rises = rises; small = low_in_byte number (type_in site.tree.now number) })
    (word_in_byte (suc number.index) (type_in site.tree.now number)))
steps_fall site (tasks.Word number) pushed first rises =
    taking_none {limit = rank site.tree.now (tasks.Word number)}
    (word_fall number pushed
    (record { rises = rises; small = low_in_word number (type_in site.tree.now number) })
    (byte_in_word (suc number.index) (type_in site.tree.now number)))
steps_fall site (tasks.Effects number) pushed first rises =
    taking_none {limit = rank site.tree.now (tasks.Effects number)}
    (effects_fall number pushed (record { rises = rises; small = omega arith }))
steps_fall site (tasks.Address reference) pushed first rises =
    taking_none {limit = rank site.tree.now (tasks.Address reference)}
    (address_fall reference pushed rises (omega arith))
steps_fall site (tasks.Branch condition label sense) pushed first rises =
    branch_fall condition label sense pushed first (record { rises = rises; small = omega arith })
    (byte_in_branch (suc condition.index) (type_in site.tree.now condition))
steps_fall site (tasks.Store target is_wanted) pushed first rises =
    taking_none {limit = rank site.tree.now (tasks.Store target is_wanted)}
    (store_fall target is_wanted pushed (goal_is site target is_wanted rises))
steps_fall site (tasks.Call procedure arguments) pushed first rises =
    taking_none {limit = rank site.tree.now (tasks.Call procedure arguments)}
    (call_fall procedure arguments pushed
    (λ index number found. record {
      rises = rises;
      small = omega (arith, in_range site.tree.now.arguments.items (entry_of arguments index) number found);
    }))

-- the parts of the steps of a part
pub parts_below : (site : Site) (part : Part) (first : ℕ) → NumbersRise (nodes_of site.tree.now)
    → AreBelow site.tree.now (rank site.tree.now part.task) (task_steps site part first)
unfolding task_steps
parts_below site part first rises = (steps_fall site part.task part.pushed first rises).below

-- the steps of a part mark each of the labels that they take
pub part_marks : (site : Site) (part : Part) (first : ℕ) → NumbersRise (nodes_of site.tree.now)
    → marks_of (task_steps site part first) ≡ labels_from first (task_labels site part)
unfolding task_steps task_labels
part_marks site part first rises = (steps_fall site part.task part.pushed first rises).marked

-- each place in them is named by the module, if all that it refers to is
pub parts_named : (site : Site) (part : Part) (first : ℕ) → NumbersRise (nodes_of site.tree.now)
    → NamesItsOwn site.tree.now
    → PlacesAreNamed site.tree.now (task_steps site part first)
unfolding task_steps
parts_named site part first rises own = (steps_fall site part.task part.pushed first rises).named own

-- a step of these that is found
found_below : (tree : TreeModule) (limit : ℕ) (list : List Step) (index : ℕ) (step : Step)
    → AreBelow tree limit (drop index list) → slice_get list index ≡ Some step
    → AreBelow tree limit (step ∷ drop (index + 1) list)
found_below tree limit list index step are there =
    subst (AreBelow tree limit) (drop_found list index step there) are

rest_below : (tree : TreeModule) (limit : ℕ) (step : Step) (others : List Step)
    → AreBelow tree limit (step ∷ others) → AreBelow tree limit others
rest_below tree limit (steps.Part part) others are = are.1
rest_below tree limit (steps.Plain i) others are = are
rest_below tree limit (steps.Word form place) others are = are
rest_below tree limit (steps.Jump form label) others are = are
rest_below tree limit (steps.Mark label) others are = are
rest_below tree limit (steps.CallRoutine routine) others are = are
rest_below tree limit (steps.CallProcedure procedure) others are = are
rest_below tree limit steps.TestA others are = are
rest_below tree limit (steps.Holds held) others are = are
rest_below tree limit steps.MemoryChanged others are = are

-- those after it
pub next_below : (tree : TreeModule) (limit : ℕ) (list : List Step) (index : ℕ) (step : Step)
    → AreBelow tree limit (drop index list) → slice_get list index ≡ Some step
    → AreBelow tree limit (drop (index + 1) list)
next_below tree limit list index step are there =
    rest_below tree limit step (drop (index + 1) list) (found_below tree limit list index step are there)

rank_of_byte_some : (bound : ℕ) (scalar : ScalarType) → 0 < rank_of_byte bound scalar
rank_of_byte_some bound scalars.Byte = omega arith
rank_of_byte_some bound scalars.Address = omega arith

rank_of_word_some : (bound : ℕ) (scalar : ScalarType) → 0 < rank_of_word bound scalar
rank_of_word_some bound scalars.Byte = omega arith
rank_of_word_some bound scalars.Address = omega arith

rank_some : (tree : TreeModule) (task : Task) → 0 < rank tree task
rank_some tree (tasks.Byte number) = rank_of_byte_some (suc number.index) (type_in tree number)
rank_some tree (tasks.Word number) = rank_of_word_some (suc number.index) (type_in tree number)
rank_some tree (tasks.Effects number) = omega arith
rank_some tree (tasks.Branch condition label sense) = omega arith
rank_some tree (tasks.Address reference) = omega arith
rank_some tree (tasks.Store target is_wanted) = omega arith
rank_some tree (tasks.Call procedure arguments) = omega arith

measure_by : (tree : TreeModule) (task : Task) (step : Step) (others : List Step)
    → AreBelow tree (rank tree task) (step ∷ others)
    → step_measure tree step < rank tree task + rank tree task
measure_by tree task (steps.Part part) others are = omega (arith, are.0)
measure_by tree task (steps.Plain i) others are = omega (arith, rank_some tree task)
measure_by tree task (steps.Word form place) others are = omega (arith, rank_some tree task)
measure_by tree task (steps.Jump form label) others are = omega (arith, rank_some tree task)
measure_by tree task (steps.Mark label) others are = omega (arith, rank_some tree task)
measure_by tree task (steps.CallRoutine routine) others are = omega (arith, rank_some tree task)
measure_by tree task (steps.CallProcedure procedure) others are = omega (arith, rank_some tree task)
measure_by tree task steps.TestA others are = omega (arith, rank_some tree task)
measure_by tree task (steps.Holds held) others are = omega (arith, rank_some tree task)
measure_by tree task steps.MemoryChanged others are = omega (arith, rank_some tree task)

-- the recursion over the steps of a part ends
pub measure_falls : (tree : TreeModule) (part : Part) (list : List Step) (index : ℕ) (step : Step)
    → AreBelow tree (rank tree part.task) (drop index list) → slice_get list index ≡ Some step
    → step_measure tree step < part_measure tree part
measure_falls tree part list index step are there =
    measure_by tree part.task step (drop (index + 1) list)
    (found_below tree (rank tree part.task) list index step are there)
