-- The first PUBLIC of each name, as the code finds it.
use Rattle.std.specs.Prelude.{ℕ, ◌+◌, List, [], ◌∷◌, ◌++◌, Bool, is_some, if◌then◌else◌}
use Rattle.std.specs.Map.{lookup}
use Rattle.std.specs.Str.{bytes_eq}
use Rattle.typed_trees.specs.TypedTrees.{TypedObject, TypedProcedure, TypedModule}
use Rattle.layout.specs.Joined.{is_public_procedure}
use Rattle.resolving.specs.declared.publics.Found.{Found}

-- names with the first PUBLIC of each
abbrev pub Table : Type 0
Table = List (List ℕ × Found)

-- an object or a procedure in a module, by its number
abbrev pub found_at : (number_of_module number : ℕ) → Found
found_at number_of_module number = record { number_of_module = number_of_module; number = number }

-- a table with one more name, if it is new
abbrev pub with_found : Table → List ℕ → Found → Table
with_found table name found =
    if is_some (lookup (bytes_eq name) table) then table else table ++ (name, found) ∷ []

-- a table with one more name, if it is PUBLIC
abbrev pub with_public : Table → (is_public : Bool) → List ℕ → Found → Table
with_public table is_public name found = if is_public then with_found table name found else table

-- a table with the PUBLICs among the items of a module from a number on
abbrev pub with_items :
    {A : Type 0} → (is_public : A → Bool) → (name_of : A → List ℕ) → Table → (number_of_module number : ℕ)
    → List A → Table
with_items is_public name_of table number_of_module number [] = table
with_items is_public name_of table number_of_module number (item ∷ others) =
    with_items is_public name_of
    (with_public table (is_public item) (name_of item) (found_at number_of_module number)) number_of_module
    (number + 1) others

-- a table with those of modules from a number on
abbrev pub with_modules :
    {A : Type 0} → (is_public : A → Bool) → (name_of : A → List ℕ) → (items_of : TypedModule → List A) → Table
    → (number_of_module : ℕ) → List TypedModule → Table
with_modules is_public name_of items_of table number_of_module [] = table
with_modules is_public name_of items_of table number_of_module (typed ∷ others) =
    with_modules is_public name_of items_of
    (with_items is_public name_of table number_of_module 0 (items_of typed)) (number_of_module + 1) others

-- whether an object is PUBLIC, its name, and likewise of a procedure
abbrev pub is_public_object : TypedObject → Bool
is_public_object object = object.is_public

abbrev pub name_of_object : TypedObject → List ℕ
name_of_object object = object.name

abbrev pub is_shown_procedure : TypedProcedure → Bool
is_shown_procedure procedure = is_public_procedure procedure.visibility

abbrev pub name_of_procedure : TypedProcedure → List ℕ
name_of_procedure procedure = procedure.name

-- the objects of a module, and its procedures
abbrev pub objects_of : TypedModule → List TypedObject
objects_of typed = typed.objects

abbrev pub procedures_of : TypedModule → List TypedProcedure
procedures_of typed = typed.procedures

-- a table with the PUBLIC objects of a module from a number on, and with the PUBLIC procedures
unfoldable pub with_objects : Table → (number_of_module number : ℕ) → List TypedObject → Table
with_objects table number_of_module number objects =
    with_items is_public_object name_of_object table number_of_module number objects

unfoldable pub with_procedures : Table → (number_of_module number : ℕ) → List TypedProcedure → Table
with_procedures table number_of_module number procedures =
    with_items is_shown_procedure name_of_procedure table number_of_module number procedures

-- a table with those of all modules from a number on
unfoldable pub with_all_objects : Table → (number_of_module : ℕ) → List TypedModule → Table
with_all_objects table number_of_module modules =
    with_modules is_public_object name_of_object objects_of table number_of_module modules

unfoldable pub with_all_procedures : Table → (number_of_module : ℕ) → List TypedModule → Table
with_all_procedures table number_of_module modules =
    with_modules is_shown_procedure name_of_procedure procedures_of table number_of_module modules

-- the first PUBLIC object of each name, and the first PUBLIC procedure
abbrev pub public_objects : List TypedModule → Table
public_objects modules = with_all_objects [] 0 modules

abbrev pub public_procedures : List TypedModule → Table
public_procedures modules = with_all_procedures [] 0 modules
