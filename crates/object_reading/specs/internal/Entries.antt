-- Bytes that are parts of a file, and bytes that are entries of a record.
use Rattle.std.specs.Prelude.{◌≡◌, ℕ, ◌+◌, ◌*◌, ◌≤◌, Bool, true, false, List, [], ◌∷◌, length, flat_map, Option, None, Some, option_map, unwrap_or}
use Rattle.std.specs.List.{AllByRecursion}
use Rattle.omf80.specs.declared.kind.RecordKind.{RecordKind}
use Rattle.omf80.specs.declared.kind.RecordKind.TheVariants as kinds
use Rattle.object_modules.specs.declared.segment.Segment.{Segment}
use Rattle.object_modules.specs.declared.segment.Segment.TheVariants.{Absolute}
use Rattle.object_modules.specs.Before.{leading_fixes}
use Rattle.object_modules.specs.Parts.{Definition, Content, Part, body_of, part_bytes}
use Rattle.object_modules.specs.Reading.{segment_of}
use Rattle.object_modules.specs.Spelling.{FixedContent}
use Rattle.object_modules.specs.internal.Walks.{parts_from, contents_left}

-- bytes that are parts of a file, one after another
pub record AreParts (bytes : List ℕ) : Type 0 where
  pub parts : List Part
  pub spelled : bytes ≡ flat_map part_bytes parts
  pub limits : AllByRecursion (λ part. length (body_of part) ≤ 1027) parts

-- bytes that are entries of a record, one after another
pub record AreEntries {A : Type 0} (spell : A → List ℕ) (bytes : List ℕ) : Type 0 where
  pub items : List A
  pub spelled : bytes ≡ flat_map spell items

-- a body, if it is that of such a record
abbrev pub body_where : Bool → List ℕ → List ℕ
body_where true body = body
body_where false body = []

abbrev pub is_external_names : RecordKind → Bool
is_external_names kinds.ExternalNames = true
is_external_names kind = false

abbrev pub is_publics : RecordKind → Bool
is_publics kinds.Publics = true
is_publics kind = false

abbrev pub is_content : RecordKind → Bool
is_content kinds.Content = true
is_content kind = false

-- the segment of public names and the bytes of their entries, if a body is that of such a record
abbrev pub publics_where : Bool → List ℕ → Segment × List ℕ
publics_where true (number ∷ entries) = (unwrap_or (segment_of number) Absolute, entries)
publics_where true [] = (Absolute, [])
publics_where false body = (Absolute, [])

abbrev pub definition_at : (offset : ℕ) → (name : List ℕ) → Definition
definition_at offset name = record { offset = offset; name = name }

abbrev pub content_at : Segment → (offset : ℕ) → (bytes : List ℕ) → Content
content_at segment offset bytes = record { segment = segment; offset = offset; bytes = bytes }

-- a content, if a body is that of such a record
abbrev pub content_where : Bool → List ℕ → Option Content
content_where true (number ∷ low ∷ high ∷ bytes) =
    option_map (λ (segment : Segment). content_at segment (low + 256 * high) bytes) (segment_of number)
content_where true body = None
content_where false body = None

-- the contents that are left from a record on, if it is this content or none, where these bytes follow
abbrev pub contents_after : Option Content → (after : List ℕ) → List FixedContent
contents_after None after = contents_left after
contents_after (Some content) after =
    record { content = content; fixes = leading_fixes content.segment (parts_from after) } ∷ contents_left after
