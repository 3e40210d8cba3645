-- The next record of the parts of a file, and the next entry of a record.
use Rattle.object_reading.proofs.Prelude.{◌≡◌, ℕ, ◌+◌, ◌*◌, ◌/◌, ◌%◌, ◌<◌, ◌≤◌, true, List, [], ◌∷◌, ◌++◌, length, drop, flat_map, slice_index, Option, Some, None, option_map, unwrap_or, refl, ap, sym, subst, ◌∙◌, arith, AllByRecursion, length-drop, none-some, some_pair_parts, RecordFault, Truncated, RecordKind, kind_of_type, record_end, record_fault, first_body, read_again, Segment, Absolute, externals_of, Definition, Content, Part, HeaderPart, ExternalNamesPart, PublicsPart, ContentPart, ExternalReferencesPart, RelocationPart, IntersegmentPart, ModuleEndPart, EndOfFilePart, kind_of_part, body_of, part_bytes, listed_name_bytes, definition_bytes, Front, listed_name_in_front, definition_in_front, fixed_contents, publics_of, parts_from, entries_left, externals_left, publics_left, contents_left, ReadsAgain, all_again, listed_name_again, definition_again, segment_again, word_of, part_first, AreParts, AreEntries, body_where, publics_where, content_where, content_at, definition_at, contents_after, is_external_names, is_publics, is_content, same_Some}

-- what is known of the record that parts begin with
pub record NextPart (rest : List ℕ) (part : Part) : Type 0 where
  pub of_type : kind_of_type (slice_index rest 0) ≡ Some (kind_of_part part)
  pub body_is : first_body rest ≡ body_of part
  pub parts_are : parts_from rest ≡ part ∷ parts_from (drop (record_end rest) rest)
  pub after : AreParts (drop (record_end rest) rest)

nothing_truncated : (rest : List ℕ) → rest ≡ [] → record_fault rest ≡ Some Truncated
unfolding record_fault
nothing_truncated rest e = ap record_fault e

pub next_part : (rest : List ℕ) → AreParts rest → record_fault rest ≡ None
    → (part : Part) × NextPart rest part
next_part rest are none = go are.parts are.spelled are.limits
  where
    go : (parts : List Part) → rest ≡ flat_map part_bytes parts
        → AllByRecursion (λ part. length (body_of part) ≤ 1027) parts → (part : Part) × NextPart rest part
    go [] e limits = absurd (none-some Truncated (sym none ∙ nothing_truncated rest e))
    go (part ∷ more) e limits =
        let later : List ℕ = flat_map part_bytes more in
        let r = read_again (kind_of_part part) (body_of part) later limits.0 in
        let next : NextPart (part_bytes part ++ later) part = record {
          of_type = r.of_type;
          body_is = r.body_is;
          parts_are = part_first part later limits.0 ∙ ap (λ b. part ∷ parts_from b) (sym r.rest_is);
          after = record { parts = more; spelled = r.rest_is; limits = limits.1 };
        } in
        (part, subst (λ b. NextPart b part) (sym e) next)

pub no_part : (rest : List ℕ) (fault : RecordFault) → AreParts rest
    → record_fault rest ≡ Some fault → rest ≡ []
no_part rest fault are some = go are.parts are.spelled are.limits
  where
    go : (parts : List Part) → rest ≡ flat_map part_bytes parts
        → AllByRecursion (λ part. length (body_of part) ≤ 1027) parts → rest ≡ []
    go [] e limits = e
    go (part ∷ more) e limits =
        let r = read_again (kind_of_part part) (body_of part) (flat_map part_bytes more) limits.0 in
        absurd (none-some fault (sym r.no_fault ∙ ap record_fault (sym e) ∙ some))

-- what is known of the entry that entries begin with
pub record NextEntry {A : Type 0} (spell : A → List ℕ) (front : List ℕ → Front A) (entries : List ℕ)
    (item : A) (after : List ℕ) : Type 0 where
  pub left : entries_left front entries ≡ item ∷ entries_left front after
  pub are : AreEntries spell after

entries_are :
    {A : Type 0} (spell : A → List ℕ) (front : List ℕ → Front A) → ReadsAgain spell front
    → (bytes : List ℕ) (items : List A) → bytes ≡ flat_map spell items → entries_left front bytes ≡ items
entries_are spell front r bytes items e =
    ap (entries_left front) e ∙ ap (λ o. unwrap_or o []) (all_again spell front r items)

pub next_entry :
    {A : Type 0} (spell : A → List ℕ) (front : List ℕ → Front A) → ReadsAgain spell front → front [] ≡ None
    → (entries : List ℕ) (item : A) (after : List ℕ) → AreEntries spell entries
    → front entries ≡ Some (item, after)
    → NextEntry spell front entries item after
next_entry {A} spell front r nothing entries item after are found = go are.items are.spelled
  where
    go : (items : List A) → entries ≡ flat_map spell items → NextEntry spell front entries item after
    go [] e = absurd (none-some (item, after) (sym nothing ∙ ap front (sym e) ∙ found))
    go (first ∷ more) e =
        let later : List ℕ = flat_map spell more in
        let p : (first ≡ item) × (later ≡ after) =
        some_pair_parts first item later after (sym (r.again first later) ∙ ap front (sym e) ∙ found) in
        record {
          left =
              entries_are spell front r entries (first ∷ more) e
              ∙ ap (λ x. x ∷ more) p.0
              ∙ ap (λ l. item ∷ l) (sym (entries_are spell front r after more (sym p.1)));
          are = record { items = more; spelled = sym p.1 };
        }

pub no_entry :
    {A : Type 0} (spell : A → List ℕ) (front : List ℕ → Front A) → ReadsAgain spell front
    → (entries : List ℕ) → AreEntries spell entries → front entries ≡ None → entries ≡ []
no_entry {A} spell front r entries are none = go are.items are.spelled
  where
    go : (items : List A) → entries ≡ flat_map spell items → entries ≡ []
    go [] e = e
    go (first ∷ more) e =
        let later : List ℕ = flat_map spell more in
        absurd (none-some (first, later) (sym none ∙ ap front e ∙ r.again first later))

-- a record is passed: its entries are those to be handed out, if it has external names
pub record ExternalsPassed (rest : List ℕ) (kind : RecordKind) : Type 0 where
  pub left : externals_left [] rest ≡ externals_left (body_where (is_external_names kind) (first_body rest))
      (drop (record_end rest) rest)
  pub entries : AreEntries listed_name_bytes (body_where (is_external_names kind) (first_body rest))
  pub after : AreParts (drop (record_end rest) rest)

-- no entries
pub no_names : AreEntries listed_name_bytes []
no_names = record { items = []; spelled = refl }

externals_by :
    (rest : List ℕ) (part : Part) → NextPart rest part
    → (flat_map externals_of (parts_from rest)
    ≡ externals_left (body_where (is_external_names (kind_of_part part)) (first_body rest))
    (drop (record_end rest) rest))
    × AreEntries listed_name_bytes (body_where (is_external_names (kind_of_part part)) (first_body rest))
externals_by rest (HeaderPart name translator version entries) n =
    (ap (flat_map externals_of) n.parts_are, no_names)
externals_by rest (ExternalNamesPart names) n =
    let after : List ℕ = drop (record_end rest) rest in (
      ap (flat_map externals_of) n.parts_are
          ∙ ap (λ l. l ++ flat_map externals_of (parts_from after))
          (sym (entries_are listed_name_bytes listed_name_in_front listed_name_again
          (first_body rest) names n.body_is)),
      record { items = names; spelled = n.body_is },
    )
externals_by rest (PublicsPart segment definitions) n = (ap (flat_map externals_of) n.parts_are, no_names)
externals_by rest (ContentPart content) n = (ap (flat_map externals_of) n.parts_are, no_names)
externals_by rest (ExternalReferencesPart kind references) n =
    (ap (flat_map externals_of) n.parts_are, no_names)
externals_by rest (RelocationPart kind offsets) n = (ap (flat_map externals_of) n.parts_are, no_names)
externals_by rest (IntersegmentPart target kind offsets) n =
    (ap (flat_map externals_of) n.parts_are, no_names)
externals_by rest (ModuleEndPart start) n = (ap (flat_map externals_of) n.parts_are, no_names)
externals_by rest EndOfFilePart n = (ap (flat_map externals_of) n.parts_are, no_names)

pub externals_passed :
    (rest : List ℕ) (kind : RecordKind) → AreParts rest → record_fault rest ≡ None
    → kind_of_type (slice_index rest 0) ≡ Some kind → ExternalsPassed rest kind
externals_passed rest kind are none known =
    let n = next_part rest are none in
    let same : kind_of_part n.0 ≡ kind = same_Some (kind_of_part n.0) kind (sym (n.1).of_type ∙ known) in
    let e = externals_by rest n.0 n.1 in
    subst (ExternalsPassed rest) same (record { left = e.0; entries = e.1; after = (n.1).after })

-- a record is passed: its entries are those to be handed out, if it has public names
pub record PublicsPassed (segment : Segment) (rest : List ℕ) (kind : RecordKind) : Type 0 where
  pub left :
      publics_left segment [] rest
      ≡ publics_left (publics_where (is_publics kind) (first_body rest)).0
      (publics_where (is_publics kind) (first_body rest)).1 (drop (record_end rest) rest)
  pub entries : AreEntries definition_bytes (publics_where (is_publics kind) (first_body rest)).1
  pub after : AreParts (drop (record_end rest) rest)

-- no entries
pub no_definitions : AreEntries definition_bytes []
no_definitions = record { items = []; spelled = refl }

publics_by :
    (rest : List ℕ) (part : Part) → NextPart rest part
    → (flat_map publics_of (parts_from rest)
    ≡ publics_left (publics_where (is_publics (kind_of_part part)) (first_body rest)).0
    (publics_where (is_publics (kind_of_part part)) (first_body rest)).1 (drop (record_end rest) rest))
    × AreEntries definition_bytes (publics_where (is_publics (kind_of_part part)) (first_body rest)).1
publics_by rest (HeaderPart name translator version entries) n =
    (ap (flat_map publics_of) n.parts_are, no_definitions)
publics_by rest (ExternalNamesPart names) n = (ap (flat_map publics_of) n.parts_are, no_definitions)
publics_by rest (PublicsPart segment definitions) n =
    let after : List ℕ = drop (record_end rest) rest in
    let entries : List ℕ = flat_map definition_bytes definitions in
    let split : publics_where true (first_body rest) ≡ (segment, entries) =
    ap (publics_where true) n.body_is ∙ ap (λ s. (unwrap_or s Absolute, entries)) (segment_again segment) in
    let first : (publics_where true (first_body rest)).0 ≡ segment = ap (λ p. p.0) split in
    let second : (publics_where true (first_body rest)).1 ≡ entries = ap (λ p. p.1) split in (
      ap (flat_map publics_of) n.parts_are
          ∙ ap (λ (d : List Definition). publics_of (PublicsPart segment d)
          ++ flat_map publics_of (parts_from after))
          (sym (entries_are definition_bytes definition_in_front definition_again
          (publics_where true (first_body rest)).1 definitions second))
          ∙ ap (λ s. publics_left s (publics_where true (first_body rest)).1 after) (sym first),
      record { items = definitions; spelled = second },
    )
publics_by rest (ContentPart content) n = (ap (flat_map publics_of) n.parts_are, no_definitions)
publics_by rest (ExternalReferencesPart kind references) n =
    (ap (flat_map publics_of) n.parts_are, no_definitions)
publics_by rest (RelocationPart kind offsets) n = (ap (flat_map publics_of) n.parts_are, no_definitions)
publics_by rest (IntersegmentPart target kind offsets) n =
    (ap (flat_map publics_of) n.parts_are, no_definitions)
publics_by rest (ModuleEndPart start) n = (ap (flat_map publics_of) n.parts_are, no_definitions)
publics_by rest EndOfFilePart n = (ap (flat_map publics_of) n.parts_are, no_definitions)

pub publics_passed :
    (segment : Segment) (rest : List ℕ) (kind : RecordKind) → AreParts rest → record_fault rest ≡ None
    → kind_of_type (slice_index rest 0) ≡ Some kind → PublicsPassed segment rest kind
publics_passed segment rest kind are none known =
    let n = next_part rest are none in
    let same : kind_of_part n.0 ≡ kind = same_Some (kind_of_part n.0) kind (sym (n.1).of_type ∙ known) in
    let e = publics_by rest n.0 n.1 in
    subst (PublicsPassed segment rest) same (record { left = e.0; entries = e.1; after = (n.1).after })

-- a record is passed: it is the content that is handed out, or none
pub record ContentPassed (rest : List ℕ) (kind : RecordKind) : Type 0 where
  pub left :
      contents_left rest
      ≡ contents_after (content_where (is_content kind) (first_body rest)) (drop (record_end rest) rest)
  pub after : AreParts (drop (record_end rest) rest)

contents_by :
    (rest : List ℕ) (part : Part) → NextPart rest part
    → contents_left rest
    ≡ contents_after (content_where (is_content (kind_of_part part)) (first_body rest))
    (drop (record_end rest) rest)
contents_by rest (HeaderPart name translator version entries) n = ap fixed_contents n.parts_are
contents_by rest (ExternalNamesPart names) n = ap fixed_contents n.parts_are
contents_by rest (PublicsPart segment definitions) n = ap fixed_contents n.parts_are
contents_by rest (ContentPart content) n =
    let after : List ℕ = drop (record_end rest) rest in
    let found : content_where true (first_body rest) ≡ Some content =
    ap (content_where true) n.body_is
    ∙ ap (option_map
    (λ (s : Segment). content_at s (content.offset % 256 + 256 * (content.offset / 256)) content.bytes))
    (segment_again content.segment)
    ∙ ap (λ o. Some (content_at content.segment o content.bytes)) (word_of content.offset) in
    ap fixed_contents n.parts_are ∙ ap (λ c. contents_after c after) (sym found)
contents_by rest (ExternalReferencesPart kind references) n = ap fixed_contents n.parts_are
contents_by rest (RelocationPart kind offsets) n = ap fixed_contents n.parts_are
contents_by rest (IntersegmentPart target kind offsets) n = ap fixed_contents n.parts_are
contents_by rest (ModuleEndPart start) n = ap fixed_contents n.parts_are
contents_by rest EndOfFilePart n = ap fixed_contents n.parts_are

pub content_passed :
    (rest : List ℕ) (kind : RecordKind) → AreParts rest → record_fault rest ≡ None
    → kind_of_type (slice_index rest 0) ≡ Some kind → ContentPassed rest kind
content_passed rest kind are none known =
    let n = next_part rest are none in
    let same : kind_of_part n.0 ≡ kind = same_Some (kind_of_part n.0) kind (sym (n.1).of_type ∙ known) in
    subst (ContentPassed rest) same (record { left = contents_by rest n.0 n.1; after = (n.1).after })

pub nothing_from : parts_from [] ≡ []
unfolding parts_from
nothing_from = refl

-- the same facts one by one, as the code has them
pub parts_after :
    (rest after : List ℕ) → AreParts rest → record_fault rest ≡ None
    → after ≡ drop (record_end rest) rest → AreParts after
parts_after rest after are none e = subst AreParts (sym e) ((next_part rest are none).1).after

pub fewer_after :
    (rest after : List ℕ) → AreParts rest → record_fault rest ≡ None → after ≡ drop (record_end rest) rest
    → length after < length rest
fewer_after [] after are none e = absurd (none-some Truncated (sym none ∙ nothing_truncated [] refl))
fewer_after (byte ∷ others) after are none e =
    let cut = length-drop (record_end (byte ∷ others)) (byte ∷ others) in
    let same : length after ≡ length (drop (record_end (byte ∷ others)) (byte ∷ others)) = ap length e in
    omega (arith, cut, same)

pub names_left :
    (rest entries after : List ℕ) (kind : RecordKind) → AreParts rest → record_fault rest ≡ None
    → kind_of_type (slice_index rest 0) ≡ Some kind
    → entries ≡ body_where (is_external_names kind) (first_body rest) → after ≡ drop (record_end rest) rest
    → externals_left [] rest ≡ externals_left entries after
names_left rest entries after kind are none known e f =
    (externals_passed rest kind are none known).left
    ∙ ap (λ b. externals_left b (drop (record_end rest) rest)) (sym e) ∙ ap (externals_left entries) (sym f)

pub names_entries :
    (rest entries : List ℕ) (kind : RecordKind) → AreParts rest → record_fault rest ≡ None
    → kind_of_type (slice_index rest 0) ≡ Some kind
    → entries ≡ body_where (is_external_names kind) (first_body rest) → AreEntries listed_name_bytes entries
names_entries rest entries kind are none known e =
    subst (AreEntries listed_name_bytes) (sym e) (externals_passed rest kind are none known).entries

abbrev Split : Type 0
Split = Segment × List ℕ

pub publics_follow :
    (segment next : Segment) (rest entries after : List ℕ) (kind : RecordKind) → AreParts rest
    → record_fault rest ≡ None
    → kind_of_type (slice_index rest 0) ≡ Some kind
    → ◌≡◌ {A = Split} (next, entries) (publics_where (is_publics kind) (first_body rest))
    → after ≡ drop (record_end rest) rest
    → publics_left segment [] rest ≡ publics_left next entries after
publics_follow segment next rest entries after kind are none known e f =
    (publics_passed segment rest kind are none known).left
    ∙ ap (λ (p : Split). publics_left p.0 p.1 (drop (record_end rest) rest)) (sym e)
    ∙ ap (publics_left next entries) (sym f)

pub publics_entries :
    (next : Segment) (rest entries : List ℕ) (kind : RecordKind) → AreParts rest → record_fault rest ≡ None
    → kind_of_type (slice_index rest 0) ≡ Some kind
    → ◌≡◌ {A = Split} (next, entries) (publics_where (is_publics kind) (first_body rest))
    → AreEntries definition_bytes entries
publics_entries next rest entries kind are none known e =
    subst (λ (p : Split). AreEntries definition_bytes p.1) (sym e)
    (publics_passed next rest kind are none known).entries

pub contents_follow :
    (rest after : List ℕ) (found : Option Content) (kind : RecordKind) → AreParts rest
    → record_fault rest ≡ None
    → kind_of_type (slice_index rest 0) ≡ Some kind
    → found ≡ content_where (is_content kind) (first_body rest) → after ≡ drop (record_end rest) rest
    → contents_left rest ≡ contents_after found after
contents_follow rest after found kind are none known e f =
    (content_passed rest kind are none known).left
    ∙ ap (λ c. contents_after c (drop (record_end rest) rest)) (sym e) ∙ ap (contents_after found) (sym f)

pub no_contents : (rest : List ℕ) → rest ≡ [] → contents_left rest ≡ []
no_contents rest e = ap contents_left e ∙ ap fixed_contents nothing_from

-- a name is handed out, or none is left
pub names_then :
    (entries name after rest : List ℕ) → AreEntries listed_name_bytes entries
    → listed_name_in_front entries ≡ Some (name, after)
    → externals_left entries rest ≡ name ∷ externals_left after rest
names_then entries name after rest are found =
    ap (λ l. l ++ flat_map externals_of (parts_from rest))
    (next_entry listed_name_bytes listed_name_in_front listed_name_again refl entries name
    after are found).left

pub names_are_after :
    (entries name after : List ℕ) → AreEntries listed_name_bytes entries
    → listed_name_in_front entries ≡ Some (name, after) → AreEntries listed_name_bytes after
names_are_after entries name after are found =
    (next_entry listed_name_bytes listed_name_in_front listed_name_again refl entries name
    after are found).are

pub names_over :
    (entries rest : List ℕ) → AreEntries listed_name_bytes entries → listed_name_in_front entries ≡ None
    → (entries ≡ [] → rest ≡ []) → externals_left entries rest ≡ []
names_over entries rest are none end =
    let empty : entries ≡ [] =
    no_entry listed_name_bytes listed_name_in_front listed_name_again entries are none in
    ap (λ e. externals_left e rest) empty
    ∙ ap (λ r. flat_map externals_of (parts_from r)) (end empty)
    ∙ ap (flat_map externals_of) nothing_from

-- a public name is handed out, or none is left
pub publics_then :
    (segment : Segment) (offset : ℕ) (entries name after rest : List ℕ) → AreEntries definition_bytes entries
    → ◌≡◌ {A = Option (Definition × List ℕ)} (Some (definition_at offset name, after))
    (definition_in_front entries)
    → publics_left segment entries rest
    ≡ record { segment = segment; offset = offset; name = name } ∷ publics_left segment after rest
publics_then segment offset entries name after rest are found =
    ap (λ (d : List Definition). publics_of (PublicsPart segment d) ++ flat_map publics_of (parts_from rest))
    (next_entry definition_bytes definition_in_front definition_again refl entries
    (definition_at offset name) after are (sym found)).left

pub definitions_are_after :
    (offset : ℕ) (entries name after : List ℕ) → AreEntries definition_bytes entries
    → ◌≡◌ {A = Option (Definition × List ℕ)} (Some (definition_at offset name, after))
    (definition_in_front entries)
    → AreEntries definition_bytes after
definitions_are_after offset entries name after are found =
    (next_entry definition_bytes definition_in_front definition_again refl entries
    (definition_at offset name) after are (sym found)).are

pub publics_over :
    (segment : Segment) (entries rest : List ℕ) → AreEntries definition_bytes entries
    → definition_in_front entries ≡ None
    → (entries ≡ [] → rest ≡ []) → publics_left segment entries rest ≡ []
publics_over segment entries rest are none end =
    let empty : entries ≡ [] =
    no_entry definition_bytes definition_in_front definition_again entries are none in
    ap (λ e. publics_left segment e rest) empty
    ∙ ap (λ r. flat_map publics_of (parts_from r)) (end empty)
    ∙ ap (flat_map publics_of) nothing_from
