-- What names stand for at a place of a text (PL/M-80 Programming Manual, "Scope").
use Rattle.std.specs.Prelude.{ℕ, ◌+◌, Bool, ◌||◌, List, [], ◌∷◌, length, drop, Option, None, is_some}
use Rattle.std.specs.List.{list_any}
use Rattle.std.specs.Map.{lookup}
use Rattle.std.specs.Option.{option_or}
use Rattle.std.specs.Str.{bytes_eq}
use Rattle.indexmap.specs.IndexMap.{insert_entry}
use Rattle.indexmap.specs.IndexSet.{insert_key}
use Rattle.trees.specs.declared.identifier.Identifier.{Identifier}
use Rattle.names.specs.declared.entity.Entity.{Entity}
use Rattle.names.specs.declared.entity.Entity.TheVariants.{Object, Procedure, Label, Definition}

-- names with their entities
abbrev pub Names : Type 0
Names = List (List ℕ × Entity)

-- the entity of a name in the first of these that has it
abbrev pub known_in : List Names → List ℕ → Option Entity
known_in [] name = None
known_in (names ∷ others) name = option_or (lookup (bytes_eq name) names) (known_in others name)

-- whether a name is among names
abbrev pub is_among : List (List ℕ) → List ℕ → Bool
is_among names name = list_any (bytes_eq name) names

-- What a text has declared so far in one body, that of a module or of a procedure. The blocks around a place are the
-- body itself and its simple DOs.
pub record Body : Type 0 where
  -- the names that the innermost block around the place declares
  pub block : Names
  -- the names that the blocks around that one declare, the innermost first
  pub outer_blocks : List Names
  -- the labels of the lists of statements around the place, the innermost list first
  pub lists : List Names
  -- all names that the body declares so far, its parameters and the names of its simple DOs among them
  pub declared : List (List ℕ)
  -- all labels of the body so far
  pub labelled : List (List ℕ)

-- a body in which nothing is declared yet
abbrev pub empty_body : Body
empty_body = record { block = []; outer_blocks = []; lists = []; declared = []; labelled = [] }

-- How far a text has come: the body that the place is in, the bodies around that one, the innermost first, and how many
-- objects, procedures and labels have been declared.
pub record Here : Type 0 where
  pub body : Body
  pub outer_bodies : List Body
  pub objects : ℕ
  pub procedures : ℕ
  pub labels : ℕ

-- The start of a module. Its own name is in no scope.
abbrev pub at_the_start : Here
at_the_start = record { body = empty_body; outer_bodies = []; objects = 0; procedures = 0; labels = 0 }

-- the label of a name: in the innermost list of its body that has it
abbrev pub label_of : Here → List ℕ → Option Entity
label_of here name = known_in here.body.lists name

-- the entity that a body declares for a name: in the innermost block that has it
abbrev pub declared_in : Body → List ℕ → Option Entity
declared_in body name = known_in (body.block ∷ body.outer_blocks) name

-- the entity that bodies declare for a name: in the innermost that has it
abbrev pub declared_around : List Body → List ℕ → Option Entity
declared_around [] name = None
declared_around (body ∷ outer) name = option_or (declared_in body name) (declared_around outer name)

-- What a name stands for: what its body declares so far, or else a label of the body, or else what the bodies around it
-- declare. Labels are known in their own body alone. Where a body declares a name that is one of its labels too, the
-- later of the two is refused.
abbrev pub entity_of : Here → List ℕ → Option Entity
entity_of here name =
    option_or (declared_in here.body name)
    (option_or (label_of here name) (declared_around here.outer_bodies name))

-- into a simple DO, and out of it
abbrev pub into_block : Here → Here
into_block here = record here {
  body = record here.body { block = []; outer_blocks = here.body.block ∷ here.body.outer_blocks };
}

abbrev pub body_after_block : List Names → Body → Body
body_after_block [] body = body
body_after_block (block ∷ outer) body = record body { block = block; outer_blocks = outer }

abbrev pub out_of_block : Here → Here
out_of_block here = record here { body = body_after_block here.body.outer_blocks here.body }

-- into the body of a procedure, and out of it
abbrev pub into_body : Here → Here
into_body here = record here { body = empty_body; outer_bodies = here.body ∷ here.outer_bodies }

abbrev pub after_body : List Body → Here → Here
after_body [] here = here
after_body (body ∷ outer) here = record here { body = body; outer_bodies = outer }

abbrev pub out_of_body : Here → Here
out_of_body here = after_body here.outer_bodies here

-- labels with their numbers, from one on
abbrev pub numbered_from : ℕ → List Identifier → Names → Names
numbered_from number [] names = names
numbered_from number (label ∷ others) names =
    numbered_from (number + 1) others (insert_entry bytes_eq names label.name (Label number))

-- into a list of statements with these labels, which are known in the whole of it, and out of it
abbrev pub into_list : List Identifier → Here → Here
into_list labels here = record here {
  body = record here.body { lists = numbered_from here.labels labels [] ∷ here.body.lists };
  labels = here.labels + length labels;
}

abbrev pub out_of_list : Here → Here
out_of_list here = record here { body = record here.body { lists = drop 1 here.body.lists } }

-- one more name in the innermost block of a body
abbrev pub body_with_name : List ℕ → Entity → Body → Body
body_with_name name entity body = record body {
  block = insert_entry bytes_eq body.block name entity;
  declared = insert_key bytes_eq body.declared name;
}

abbrev pub with_name : List ℕ → Entity → Here → Here
with_name name entity here = record here { body = body_with_name name entity here.body }

-- an object, a procedure, a LITERALLY definition
abbrev pub with_object : List ℕ → Here → Here
with_object name here =
    with_name name (Object here.objects) (record here { objects = here.objects + 1 })

abbrev pub with_procedure : List ℕ → Here → Here
with_procedure name here =
    with_name name (Procedure here.procedures) (record here { procedures = here.procedures + 1 })

abbrev pub with_definition : List ℕ → Here → Here
with_definition name here = with_name name Definition here

-- a parameter in the heading of the body's procedure: DECLARE will say what it stands for
abbrev pub with_parameter : List ℕ → Here → Here
with_parameter name here =
    record here { body = record here.body { declared = insert_key bytes_eq here.body.declared name } }

-- a label before a statement
abbrev pub with_label : List ℕ → Here → Here
with_label name here =
    record here { body = record here.body { labelled = insert_key bytes_eq here.body.labelled name } }

-- Whether a name may not be declared here: it is in the same block already, or a label of the same body.
abbrev pub is_declared_in : Body → List ℕ → Bool
is_declared_in body name = is_some (lookup (bytes_eq name) body.block) || is_among body.labelled name

abbrev pub is_declared_again : Here → List ℕ → Bool
is_declared_again here name = is_declared_in here.body name

-- whether a parameter stands twice in its heading
abbrev pub is_parameter_again : Here → List ℕ → Bool
is_parameter_again here name = is_among here.body.declared name

-- whether a label may not stand here: its body declares the name, or has such a label already
abbrev pub is_label_again : Here → List ℕ → Bool
is_label_again here name = is_among here.body.declared name || is_among here.body.labelled name
