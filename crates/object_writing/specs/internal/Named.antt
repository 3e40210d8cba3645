-- The entries of names.
use Rattle.std.specs.Prelude.{ℕ, if◌then◌else◌, List, Option, Some, None}
use Rattle.object_modules.specs.declared.public.OwnedPublic.{OwnedPublic}
use Rattle.object_modules.specs.declared.segment.Segment.{Segment}
use Rattle.object_modules.specs.Module.{Public}
use Rattle.object_modules.specs.Parts.{listed_name_bytes, definition_bytes}
use Rattle.object_modules.specs.Before.{same_segment}
use Rattle.object_modules.specs.Text.{definition_of}
use Rattle.object_modules.specs.internal.Views.{owned_public_view}

abbrev pub name_entry : (name : List ℕ) → Option (List ℕ)
name_entry name = Some (listed_name_bytes name)

-- the entry of a public name among those of a segment
abbrev pub public_entry : Segment → Public → Option (List ℕ)
public_entry segment public =
    if same_segment public.segment segment then Some (definition_bytes (definition_of public)) else None

abbrev pub owned_entry : Segment → OwnedPublic → Option (List ℕ)
owned_entry segment public = public_entry segment (owned_public_view public)
