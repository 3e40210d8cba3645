-- The segments of tree code are those of its module before it is placed.
use Rattle.treecode_laws.proofs.Prelude.{◌≡◌, ℕ, ◌+◌, ◌%◌, ◌<◌, length, Some, None, ap, sym, subst, List, ◌∙◌, arith, slice_get, none-some, MEMORY_SIZE, TypedObject, TypedModule, constant_bytes, Code, Data, Places, Target, address_of_location, location_of, places_in, Storage, data_bytes, further, constants_length, data_length, ExternalName, TreeModule, Home, Place, constants_of, variables_of, externals_of, homes_of, number_of_place, place_after, IsLowered, home_at, nodes_of, location_of_place, places_of_contents, KeepWords, IsLaidOut}
use Rattle.treecode.specs.declared.place.Place.TheVariants as places
use Rattle.treecode_laws.proofs.Contents.{constants_agree, data_agrees}
use Rattle.treecode_laws.proofs.Homes.{LiesAt, object_lies, place_further}

-- the homes and names of tree code are those that its module gives
as_module :
    {A : Type 0} (typed : TypedModule) (storage : Storage) (tree : TreeModule)
    (f : List ExternalName → List Home → A)
    → IsLowered typed storage tree
    → f tree.externals.items tree.homes.items ≡ f (externals_of typed) (homes_of typed storage)
as_module typed storage tree f lowered =
    ap (λ (names : List ExternalName). f names tree.homes.items) lowered.externals
    ∙ ap (f (externals_of typed)) lowered.homes

-- The code segment begins with the same bytes as the module's.
pub code_is :
    (typed : TypedModule) (storage : Storage) (tree : TreeModule)
    → IsLaidOut typed storage
    → KeepWords tree.constants.items
    → IsLowered typed storage tree
    → places_of_contents tree.externals.items tree.constants.items ≡ places_in typed Code
code_is typed storage tree laid keep lowered =
    ap (places_of_contents tree.externals.items) lowered.constants
    ∙ as_module typed storage tree
    (λ names starts. places_of_contents names (constants_of typed starts)) lowered
    ∙ constants_agree typed storage laid
    (subst KeepWords (lowered.constants ∙ ap (constants_of typed) lowered.homes) keep)

-- The data segment has the same bytes as the module's.
pub data_is :
    (typed : TypedModule) (storage : Storage) (tree : TreeModule)
    → IsLaidOut typed storage
    → KeepWords tree.variables.items
    → IsLowered typed storage tree
    → places_of_contents tree.externals.items tree.variables.items ≡ places_in typed Data
data_is typed storage tree laid keep lowered =
    ap (places_of_contents tree.externals.items) lowered.variables
    ∙ as_module typed storage tree
    (λ names starts. places_of_contents names (variables_of typed starts)) lowered
    ∙ data_agrees typed storage laid
    (subst KeepWords (lowered.variables ∙ ap (variables_of typed) lowered.homes) keep)

-- So both segments have the sizes of their contents.
pub code_length :
    (typed : TypedModule) (storage : Storage) (tree : TreeModule)
    → IsLaidOut typed storage
    → KeepWords tree.constants.items
    → IsLowered typed storage tree
    → length (places_of_contents tree.externals.items tree.constants.items) ≡ constant_bytes typed
code_length typed storage tree laid keep lowered =
    ap (λ (bytes : Places). length bytes) (code_is typed storage tree laid keep lowered)
    ∙ constants_length typed laid.storable

pub data_length_is :
    (typed : TypedModule) (storage : Storage) (tree : TreeModule)
    → IsLaidOut typed storage
    → KeepWords tree.variables.items
    → IsLowered typed storage tree
    → length (places_of_contents tree.externals.items tree.variables.items) ≡ data_bytes typed.objects
data_length_is typed storage tree laid keep lowered =
    ap (λ (bytes : Places). length bytes) (data_is typed storage tree laid keep lowered)
    ∙ data_length typed laid.storable

-- Each object is at the location that tree code has.
pub home_is :
    (typed : TypedModule) (storage : Storage) (tree : TreeModule) (number : ℕ) (object : TypedObject)
    → IsLaidOut typed storage
    → IsLowered typed storage tree
    → slice_get typed.objects number ≡ Some object
    → LiesAt tree.externals.items object.home (home_at (nodes_of tree).homes number)
    (location_of typed number)
home_is typed storage tree number object laid lowered found =
    subst (λ (names : List ExternalName).
    LiesAt names object.home (home_at tree.homes.items number) (location_of typed number))
    (sym lowered.externals)
    (subst (λ (starts : List Home).
    LiesAt (externals_of typed) object.home (home_at starts number) (location_of typed number))
    (sym lowered.homes) (object_lies typed storage number object laid found))

-- If targets have their addresses, a place `distance` bytes further on has the address `distance` further on,
-- modulo the size of memory, and a place that is not a number has an address in memory.
pub address_after :
    (address_of : Target → ℕ) (names : List ExternalName) (place : Place) (distance : ℕ)
    → address_of_location address_of (location_of_place names (place_after place distance))
    ≡ (address_of_location address_of (location_of_place names place) + distance) % MEMORY_SIZE
address_after address_of names place distance =
    ap (address_of_location address_of) (place_further names place distance)
    ∙ further address_of (location_of_place names place) distance

pub address_below :
    (address_of : Target → ℕ) (names : List ExternalName) (place : Place)
    → number_of_place place ≡ None
    → address_of_location address_of (location_of_place names place) < MEMORY_SIZE
address_below address_of names (places.Number number) none = absurd (none-some number (sym none))
address_below address_of names (places.Code offset) none = omega arith
address_below address_of names (places.Data offset) none = omega arith
address_below address_of names (places.External offset name) none = omega arith
