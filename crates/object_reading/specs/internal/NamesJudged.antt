-- Names of a record, judged by those that are known.
use Rattle.std.specs.Prelude.{ℕ, ◌&&◌, if◌then◌else◌, List, ◌++◌, Option, Some, None, option_map}
use Rattle.std.specs.List.{list_all}
use Rattle.symbols.specs.Names.{is_name}
use Rattle.object_modules.specs.Module.{are_new}
use Rattle.object_modules.specs.Parts.{Definition}
use Rattle.object_modules.specs.Reading.{Front, listed_name_in_front, definition_in_front, all_in}
use Rattle.object_reading.specs.declared.rules.names.NameList.{NameList}
use Rattle.object_reading.specs.declared.rules.names.NameList.TheVariants.{Externals, Publics}

-- the name of the definition that bytes begin with
abbrev pub definition_name_in_front : List ℕ → Front (List ℕ)
definition_name_in_front bytes =
    option_map (λ (defined : Definition × List ℕ). ((defined.0).name, defined.1)) (definition_in_front bytes)

-- the name that the entry in front of bytes has
abbrev pub entry_name : NameList → List ℕ → Front (List ℕ)
entry_name Externals = listed_name_in_front
entry_name Publics = definition_name_in_front

-- the names of entries to the end of the bytes
abbrev pub names_in : NameList → List ℕ → Option (List (List ℕ))
names_in list bytes = all_in (entry_name list) bytes

-- the names that are known once those that were read are, where each is a name and new
abbrev pub names_taken : (known : List (List ℕ)) → Option (List (List ℕ)) → Option (List (List ℕ))
names_taken known None = None
names_taken known (Some names) =
    if list_all is_name names && are_new names known then Some (known ++ names) else None
