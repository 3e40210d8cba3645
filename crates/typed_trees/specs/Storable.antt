-- The rules for the tables of a module by which each of its objects and constants has a place.
use Rattle.std.specs.Prelude.{◌≡◌, ℕ, zero, suc, ◌+◌, ◌<◌, ◌≤◌, List, [], ◌∷◌, length, filter_map, sum_by, All, Option, Some, None, IsSomeAnd, slice_get}
use Rattle.std.specs.List.{enumerate_from}
use Rattle.typed_trees.specs.declared.parts.AtAddress.TheVariants.{AtObject}
use Rattle.typed_trees.specs.declared.parts.ConstantItem.TheVariants.{ConstantObject, ConstantList}
use Rattle.typed_trees.specs.declared.parts.ConstantItem.{ConstantItem}
use Rattle.typed_trees.specs.declared.parts.InitialValue.TheVariants.{ByteValue, WordValue, LocationValue}
use Rattle.typed_trees.specs.declared.parts.InitialValue.{InitialValue}
use Rattle.typed_trees.specs.TypedTrees.{Home, InData, InConstants, Placed, TypedObject, TypedModule}
use Rattle.typed_trees.specs.Sizes.{size_of_object}

-- the object, or the constant list, that is one of the constants
abbrev pub object_in : ConstantItem → Option ℕ
object_in (ConstantObject object) = Some object
object_in (ConstantList list) = None

abbrev pub list_in : ConstantItem → Option ℕ
list_in (ConstantObject object) = None
list_in (ConstantList list) = Some list

-- the number of an object, if it has DATA
abbrev pub constant_number : (number : ℕ) → Home → Option ℕ
constant_number number (InConstants values) = Some number
constant_number number home = None

abbrev pub numbered_constant : ℕ × TypedObject → Option ℕ
numbered_constant numbered = constant_number numbered.0 (numbered.1).home

-- `count` numbers from one on
abbrev pub numbers_from : (first count : ℕ) → List ℕ
numbers_from first zero = []
numbers_from first (suc count) = first ∷ numbers_from (first + 1) count

-- an object that AT puts after another is after that one in the table
abbrev pub LooksBack : (number : ℕ) → Home → Type 0
LooksBack number (Placed (AtObject other offset)) = other < number
LooksBack number home = Unit {0}

-- an object that has a place of its own: in the data segment, among the constants, or where AT puts it; it is
-- neither BASED, nor in a frame, nor in another module
abbrev pub HasPlace : Home → Type 0
HasPlace (InData values) = Unit {0}
HasPlace (InConstants values) = Unit {0}
HasPlace (Placed address) = Unit {0}
HasPlace home = ⊥

-- if AT puts an object after another, that one has a place
abbrev pub LooksAtPlace : List TypedObject → Home → Type 0
LooksAtPlace objects (Placed (AtObject other offset)) =
    IsSomeAnd (slice_get objects other) (λ (object : TypedObject). HasPlace object.home)
LooksAtPlace objects home = Unit {0}

-- how many bytes a value takes
abbrev pub size_of_value : InitialValue → ℕ
size_of_value (ByteValue byte) = 1
size_of_value (WordValue word) = 2
size_of_value (LocationValue object offset) = 2

-- how many bytes INITIAL or DATA fills
abbrev pub bytes_filled : Home → ℕ
bytes_filled (InData values) = sum_by size_of_value values
bytes_filled (InConstants values) = sum_by size_of_value values
bytes_filled home = 0

-- The objects with DATA are among the constants in the order of their numbers, each once, and so are the
-- constant lists; nothing else is. AT looks back, at objects that have a place. INITIAL and DATA fill no
-- more bytes than the object has.
pub record IsStorable (typed : TypedModule) : Type 0 where
  pub objects : filter_map object_in typed.constants.items
      ≡ filter_map numbered_constant (enumerate_from 0 typed.objects)
  pub lists : filter_map list_in typed.constants.items ≡ numbers_from 0 (length typed.constants.lists)
  pub at : All (λ (numbered : ℕ × TypedObject). LooksBack numbered.0 (numbered.1).home)
      (enumerate_from 0 typed.objects)
  pub places : All (λ (object : TypedObject). LooksAtPlace typed.objects object.home) typed.objects
  pub filled : All (λ (object : TypedObject). bytes_filled object.home ≤ size_of_object object) typed.objects
