-- One pass over modules: the table of their public names, and where their pieces end.
use Rattle.std.specs.Prelude.{ℕ, Bool, true, false, not, is_some, if◌then◌else◌, List, [], ◌∷◌, ◌++◌, flat_map, find, Option, Result, Ok, Err}
use Rattle.object_modules.specs.declared.public.OwnedPublic.{OwnedPublic}
use Rattle.object_modules.specs.Displacements.{code_end, data_end, linked_after}
use Rattle.object_modules.specs.Merge.{LinkRefusal, DuplicatePublic}
use Rattle.object_modules.specs.Module.{ObjectModule, is_among}

-- the names that are known after some more, each of them new
abbrev pub gathered : (known names : List (List ℕ)) → Result (List (List ℕ)) LinkRefusal
gathered known [] = Ok known
gathered known (name ∷ others) =
    if is_among name known then Err (DuplicatePublic name) else gathered (known ++ name ∷ []) others

abbrev pub name_of : OwnedPublic → List ℕ
name_of public = public.name

-- where the pieces of code end, and where those of data do, after modules
abbrev pub code_after : (code_before data_before : ℕ) → List ObjectModule → ℕ
code_after code_before data_before [] = code_before
code_after code_before data_before (object ∷ others) =
    code_after (code_end (linked_after code_before data_before object))
    (data_end (linked_after code_before data_before object)) others

abbrev pub data_after : (code_before data_before : ℕ) → List ObjectModule → ℕ
data_after code_before data_before [] = data_before
data_after code_before data_before (object ∷ others) =
    data_after (code_end (linked_after code_before data_before object))
    (data_end (linked_after code_before data_before object)) others

-- the external names of modules, module by module
abbrev pub externals_of : List ObjectModule → List (List ℕ)
externals_of modules = flat_map (λ (object : ObjectModule). object.externals) modules

-- the first name that is not known
abbrev pub missing_in : (known names : List (List ℕ)) → Option (List ℕ)
missing_in known names = find (λ name. not (is_among name known)) names

-- one of the modules has a start, or one was found before them, and no other
abbrev pub one_main : (found : Bool) → List ObjectModule → Bool
one_main found [] = found
one_main found (object ∷ others) =
    if is_some object.start then (if found then false else one_main true others) else one_main found others
