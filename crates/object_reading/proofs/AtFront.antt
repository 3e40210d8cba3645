-- Before anything is handed out, a walk tells what the parts of its file say.
use Rattle.object_reading.proofs.Prelude.{◌≡◌, ℕ, ◌≤◌, true, List, [], ◌∷◌, length, flat_map, refl, ap, AllByRecursion, Fix, Absolute, externals_of, leading_fixes, Part, body_of, is_accepted, are_accepted, fixed_contents, publics_of, Walking, WalksOver, walk_over, parts_from, externals_left, publics_left, contents_left, limit_of, parts_from_is, AreParts, Header, IsJudged, and_parts}
use Rattle.object_reading.proofs.NextParts.{nothing_from}

limits_of :
    (before later : List Part) → are_accepted before later ≡ true
    → AllByRecursion (λ part. length (body_of part) ≤ 1027) later
limits_of before [] accepted = tt
limits_of before (part ∷ later) accepted =
    let t = and_parts (is_accepted before part) (are_accepted (part ∷ before) later) accepted in
    (limit_of before part t.0, limits_of (part ∷ before) later t.1)

-- a file is parts, one after another
pub parts_at_front : (bytes : List ℕ) (header : Header) → IsJudged bytes header → AreParts bytes
parts_at_front bytes header j = record {
  parts = j.parts;
  spelled = (j.file).spelled;
  limits = limits_of [] j.parts (j.file).accepted;
}

-- so are no bytes
pub no_parts : AreParts []
no_parts = record { parts = []; spelled = refl; limits = tt }

-- what a walk tells once a file is judged, where these fixes are left
abbrev pub told : (bytes : List ℕ) → Header → List Fix → Walking
told bytes header fixes = record {
  name = (header.name).now;
  code_length = header.code_length;
  code_alignment = header.code_alignment;
  data_length = header.data_length;
  data_alignment = header.data_alignment;
  stack_length = header.stack_length;
  start = header.start;
  externals = externals_left [] bytes;
  publics = publics_left Absolute [] bytes;
  contents = contents_left bytes;
  fixes = fixes;
}

told_is :
    (bytes : List ℕ) (header : Header) (j : IsJudged bytes header) (fixes : List Fix) → fixes ≡ []
    → told bytes header fixes ≡ walk_over j.parts
unfolding walk_over
told_is bytes header j fixes none =
    let parts : parts_from bytes ≡ j.parts = parts_from_is bytes j.parts j.file in
    let a : flat_map externals_of (parts_from bytes) ≡ flat_map externals_of j.parts =
    ap (flat_map externals_of) parts in
    let b : flat_map publics_of (parts_from bytes) ≡ flat_map publics_of j.parts =
    ap (flat_map publics_of) parts in
    let c : fixed_contents (parts_from bytes) ≡ fixed_contents j.parts = ap fixed_contents parts in
    let name = j.name in
    let code_length = j.code_length in
    let code_alignment = j.code_alignment in
    let data_length = j.data_length in
    let data_alignment = j.data_alignment in
    let stack_length = j.stack_length in
    let start = j.start in
    cc

-- no fixes are left before a content is handed out
no_fixes : leading_fixes Absolute (parts_from []) ≡ []
no_fixes = ap (leading_fixes Absolute) nothing_from

pub walks_over :
    (bytes : List ℕ) (header : Header) → IsJudged bytes header
    → WalksOver bytes (told bytes header (leading_fixes Absolute (parts_from [])))
walks_over bytes header j = record {
  parts = j.parts;
  file = j.file;
  from_the_front = told_is bytes header j (leading_fixes Absolute (parts_from [])) no_fixes;
}
