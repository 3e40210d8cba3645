-- The files that INCLUDE names.
use Rattle.std.specs.Prelude.{ℕ, ◌+◌, ◌-◌, Bool, ◌==◌, ◌||◌, if◌then◌else◌, Option, None, Some}
use Rattle.std.specs.Prelude.{List, [], ◌∷◌, ◌++◌, length, map, take, get_or}
use Rattle.std.specs.List.{flat_map}
use Rattle.std.specs.Char.{to_ascii_uppercase, to_ascii_lowercase}
use Rattle.std.specs.Str.{bytes_eq}
use Rattle.convert.specs.declared.includes.Entry.{Entry}
use Rattle.convert.specs.declared.includes.Found.{Found}
use Rattle.convert.specs.Controls.{after_blanks, is_blank}

-- what follows the last colon (58), as in `:F0:NAME.EXT`, where what follows the last one so far is this
abbrev pub after_device : (name line : List ℕ) → List ℕ
after_device name [] = name
after_device name (c ∷ line) = after_device (if c == 58 then line else name) line

-- how many bytes come before the first blank, or all
abbrev pub blank_at : List ℕ → ℕ
blank_at [] = 0
blank_at (c ∷ line) = if is_blank c then 0 else 1 + blank_at line

-- the name of a file in the group of an INCLUDE: without a device, and up to a blank after it
abbrev pub file_name : List ℕ → List ℕ
file_name argument =
    let name = after_blanks (after_device argument argument) in
    take (blank_at name) name

-- whether a slash (47) ends the name of a folder, or it has none
abbrev pub ends_folder : List ℕ → Bool
ends_folder folder = (length folder == 0) || (get_or folder (length folder - 1) 0 == 47)

-- a folder with a slash at its end
abbrev pub with_slash : List ℕ → List ℕ
with_slash folder = if ends_folder folder then folder else folder ++ 47 ∷ []

-- how many bytes of a file's name are its folder's: those up to the last slash. Of those before, this many are, and this
-- many were looked at
abbrev pub folder_length : (found seen : ℕ) → List ℕ → ℕ
folder_length found seen [] = found
folder_length found seen (c ∷ name) = folder_length (if c == 47 then seen + 1 else found) (seen + 1) name

-- the folder of a file, with its slash
abbrev pub folder_of : List ℕ → List ℕ
folder_of name = take (folder_length 0 0 name) name

-- the names under which a file is looked for in a folder: as written, in capital letters and in small letters
abbrev pub forms_in : (name folder : List ℕ) → List (List ℕ)
forms_in name folder =
    (folder ++ name) ∷ (folder ++ map to_ascii_uppercase name) ∷ (folder ++ map to_ascii_lowercase name) ∷ []

-- all names under which a file is looked for that a source in this file includes, in their order: in the folders, and then
-- beside the source
abbrev pub candidates : (folders : List (List ℕ)) → (file name : List ℕ) → List (List ℕ)
candidates folders file name =
    flat_map (forms_in name) (map with_slash folders) ++ forms_in name (folder_of file)

-- what is known of the file of a name: the name is empty; it was not looked for; no such file; or its number and text
pub data Answer : Type 0 where
  no_name : Answer
  unknown : Answer
  absent : Answer
  present : ℕ → List ℕ → Answer

abbrev pub answer_in : ℕ → Option Found → Answer
answer_in file None = absent
answer_in file (Some found) = present file found.text.items

-- what is known of a file by the names that were looked for, numbered from `file`
abbrev pub answer_from : ℕ → List ℕ → List Entry → Answer
answer_from file name [] = unknown
answer_from file name (entry ∷ entries) =
    if bytes_eq entry.name.items name then answer_in file entry.found else answer_from (file + 1) name entries

-- what is known of a file; those that were looked for have the numbers from 1
abbrev pub answer_of : List Entry → List ℕ → Answer
answer_of entries name = if length name == 0 then no_name else answer_from 1 name entries

abbrev pub opened_in : Option Found → List ℕ
opened_in None = []
opened_in (Some found) = found.opened.items

-- the name under which the file was opened that comes after this many of those that were looked for
abbrev pub opened_after : ℕ → List Entry → List ℕ
opened_after passed [] = []
opened_after passed (entry ∷ entries) =
    if passed == 0 then opened_in entry.found else opened_after (passed - 1) entries

-- the name of the file of a number; 0 is the source
abbrev pub name_of_file : (name : List ℕ) → List Entry → ℕ → List ℕ
name_of_file name entries file = if file == 0 then name else opened_after (file - 1) entries
