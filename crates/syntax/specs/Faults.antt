-- Faults: their numbers, their places, their lines, and what each of them says.
use Rattle.std.specs.Prelude.{ℕ, ◌<◌, List, Result, Ok, Err, codes}
use Rattle.failure.specs.declared.Failure.{Failure}
use Rattle.failure.specs.declared.Failure.TheVariants as failures
use Rattle.grammar.specs.declared.TheConstants.{NESTING_LIMIT}
use Rattle.grammar.specs.Nesting.{module_height, ModuleEndsMatch}
use Rattle.trees.specs.Trees.{ModuleTree}
use Rattle.trees.specs.declared.identifier.Place.{Place}
use Rattle.syntax.specs.declared.fault.Fault.{Fault}
use Rattle.syntax.specs.declared.fault.Fault.TheVariants.{Word, End, Depth, EndName}

-- the number of a fault
abbrev pub number_of : Fault → List ℕ
number_of (Word place) = codes "C7"
number_of (End place) = codes "C7"
number_of (Depth place) = codes "C8"
number_of (EndName place) = codes "C9"

-- the place of the word at which a fault is found
abbrev pub place_of : Fault → Place
place_of (Word place) = place
place_of (End place) = place
place_of (Depth place) = place
place_of (EndName place) = place

-- the line of a fault
abbrev pub line_of : Fault → ℕ
line_of fault = (place_of fault).line

-- the fault of the depth
abbrev pub IsOfDepth : Fault → Type 0
IsOfDepth (Depth place) = Unit {0}
IsOfDepth fault = ⊥

-- the fault of a name after END
abbrev pub IsOfEndName : Fault → Type 0
IsOfEndName (EndName place) = Unit {0}
IsOfEndName fault = ⊥

-- a call failed: with a fault that this holds of, or because memory ran out
abbrev pub IsRefused : {A : Type 0} → Result A (Failure Fault) → (Fault → Type 0) → Type 0
IsRefused (Ok value) P = ⊥
IsRefused (Err (failures.Fault fault)) P = P fault
IsRefused (Err failures.Memory) P = Unit {0}

-- what a fault says is wrong with the tree that the grammar derives from the words; if it derives one, no word of
-- them is out of place, and none is missing at their end
abbrev pub IsWrongWith : Fault → ModuleTree → Type 0
IsWrongWith (Word place) tree = ⊥
IsWrongWith (End place) tree = ⊥
IsWrongWith (Depth place) tree = NESTING_LIMIT < module_height tree
IsWrongWith (EndName place) tree = ¬ ModuleEndsMatch tree
