-- The table of the PUBLICs of modules: the first of each name, and the first name that stood before.
use Rattle.std.specs.Prelude.{ℕ, List, [], ◌∷◌, ◌++◌, map, not, Bool, false, Option, None, Some, is_some, if◌then◌else◌}
use Rattle.std.specs.Map.{lookup}
use Rattle.std.specs.Option.{option_or, option_map_or}
use Rattle.std.specs.Str.{bytes_eq}
use Rattle.layout.specs.Joined.{Global, agree}
use Rattle.join.specs.declared.shared.Shared.{Shared}
use Rattle.join.specs.declared.publics.Publics.{Publics}
use Rattle.join.specs.internal.Shared.{global_view}

pub record PublicTable : Type 0 where
  pub table : List (List ℕ × Global)
  pub repeated : Option (List ℕ)

abbrev pub entry_view : List ℕ × Shared → List ℕ × Global
entry_view entry = (entry.0, global_view entry.1)

abbrev pub publics_view : Publics → PublicTable
publics_view publics =
    record { table = map entry_view publics.table.entries; repeated = publics.repeated }

abbrev pub no_publics : PublicTable
no_publics = record { table = []; repeated = None }

-- the PUBLIC that the table has for a name
abbrev pub named_in : PublicTable → List ℕ → Option Global
named_in publics name = lookup (bytes_eq name) publics.table

-- with one more PUBLIC
unfoldable pub with_public : PublicTable → Global → PublicTable
with_public publics global =
    if is_some (named_in publics global.name)
    then record { table = publics.table; repeated = option_or publics.repeated (Some global.name) }
    else record { table = publics.table ++ (global.name, global) ∷ []; repeated = publics.repeated }

-- with the PUBLICs among more globals
abbrev pub with_publics : PublicTable → List Global → PublicTable
with_publics publics [] = publics
with_publics publics (global ∷ others) =
    with_publics (if global.is_public then with_public publics global else publics) others

-- an EXTERNAL without PUBLIC, or that its PUBLIC does not agree with
abbrev pub lacks_in : PublicTable → Global → Bool
lacks_in publics external = not (is_some (named_in publics external.name))

abbrev pub differs_in : PublicTable → Global → Bool
differs_in publics external =
    option_map_or (λ (public : Global). not (agree external.declared public.declared))
    (named_in publics external.name) false
