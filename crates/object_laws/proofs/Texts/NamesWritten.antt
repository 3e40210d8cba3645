-- The records of names that are written: what they tell, and that they may stand where they stand.
use Rattle.object_laws.proofs.Prelude.{◌≡◌, ℕ, ◌+◌, ◌-◌, ◌≤◌, Bool, true, false, cond, List, [], ◌∷◌, ◌++◌, length, map, flat_map, None, refl, ap, sym, subst, ◌∙◌, arith, AllByRecursion, bytes_eq, eqb-true, map-append, same_Some, BODY_LIMIT, Segment, Absolute, Code, Data, Stack, Public, may_have_publics, Definition, Part, ExternalNamesPart, PublicsPart, kind_of_part, segment_number, listed_name_bytes, definition_bytes, segment_of, same_segment, rank_of, entries_of, externals_of, definition_names, names_of, content_of, latest_content, are_accepted, publics_of, name_of_header, start_of_end, packed, external_parts, publics_in_segment, definition_of, public_parts, all_weaker}
use Rattle.object_laws.proofs.Files.FrontsAgain.{segment_again}
use Rattle.object_laws.proofs.Texts.Groups.{joined, packed_fit, packed_joined, all_in_groups}
use Rattle.object_laws.proofs.Texts.Counted.{times}
use Rattle.object_laws.proofs.Texts.Accepting.{UpTo}
use Rattle.object_laws.proofs.Texts.NamesAccepted.{IsName, IsNamed, listed_short, definition_short, externals_accepted, publics_accepted}

-- a record of names
pub record IsNamesPart (rank : ℕ) (part : Part) : Type 0 where
  pub up : rank_of (kind_of_part part) ≤ rank
  pub no_entries : entries_of part ≡ []
  pub no_content : content_of part ≡ None
  pub no_name : name_of_header part ≡ None
  pub no_start : start_of_end part ≡ None

mapped_are : {X A : Type 0} (P : A → Type 0) (f : X → A) → ((x : X) → P (f x)) → (xs : List X)
    → AllByRecursion P (map f xs)
mapped_are P f h [] = tt
mapped_are P f h (x ∷ xs) = (h x, mapped_are P f h xs)

-- external names
pub external_parts_are : (names : List (List ℕ)) → AllByRecursion (IsNamesPart 1) (external_parts names)
external_parts_are names =
    mapped_are (IsNamesPart 1) ExternalNamesPart
    (λ group. record { up = (let u : 1 ≤ 1 = omega arith in u); no_entries = refl; no_content = refl; no_name = refl; no_start = refl })
    (packed (λ name. length (listed_name_bytes name)) BODY_LIMIT names)

pub no_publics_there : (names : List (List ℕ))
    → AllByRecursion (λ part. publics_of part ≡ []) (external_parts names)
no_publics_there names =
    mapped_are (λ part. publics_of part ≡ []) ExternalNamesPart (λ group. refl)
    (packed (λ name. length (listed_name_bytes name)) BODY_LIMIT names)

names_in_groups : (groups : List (List (List ℕ)))
    → flat_map names_of (map ExternalNamesPart groups) ≡ joined groups
names_in_groups [] = refl
names_in_groups (group ∷ groups) = ap (λ r. group ++ r) (names_in_groups groups)

pub names_of_externals : (names : List (List ℕ)) → flat_map names_of (external_parts names) ≡ names
names_of_externals names =
    names_in_groups (packed (λ name. length (listed_name_bytes name)) BODY_LIMIT names)
    ∙ packed_joined (λ name. length (listed_name_bytes name)) BODY_LIMIT names

externals_in_groups : (groups : List (List (List ℕ)))
    → flat_map externals_of (map ExternalNamesPart groups) ≡ joined groups
externals_in_groups [] = refl
externals_in_groups (group ∷ groups) = ap (λ r. group ++ r) (externals_in_groups groups)

pub externals_again : (names : List (List ℕ)) → flat_map externals_of (external_parts names) ≡ names
externals_again names =
    externals_in_groups (packed (λ name. length (listed_name_bytes name)) BODY_LIMIT names)
    ∙ packed_joined (λ name. length (listed_name_bytes name)) BODY_LIMIT names

short_names : (names : List (List ℕ)) → AllByRecursion IsName names
    → AllByRecursion (λ name. length (listed_name_bytes name) ≤ BODY_LIMIT) names
short_names names valid =
    all_weaker IsName (λ name. length (listed_name_bytes name) ≤ BODY_LIMIT)
    (λ name h. let short : length (listed_name_bytes name) ≤ 33 = listed_short name h in omega (arith, short))
    names valid

pub externals_stage :
    (names : List (List ℕ)) (before : List Part) → AllByRecursion IsName names → UpTo 1 before
    → latest_content before ≡ None
    → ((name : List ℕ) → times (bytes_eq name) names + times (bytes_eq name) (flat_map names_of before) ≤ 1)
    → are_accepted before (external_parts names) ≡ true
externals_stage names before valid up latest once =
    let size : List ℕ → ℕ = λ name. length (listed_name_bytes name) in
    let groups : List (List (List ℕ)) = packed size BODY_LIMIT names in
    let all : joined groups ≡ names = packed_joined size BODY_LIMIT names in
    externals_accepted groups before up latest (packed_fit size BODY_LIMIT names (short_names names valid))
    (all_in_groups IsName groups (subst (AllByRecursion IsName) (sym all) valid))
    (λ name.
    subst (λ ns. times (bytes_eq name) ns + times (bytes_eq name) (flat_map names_of before) ≤ 1)
    (sym all) (once name))

-- publics of a segment
abbrev pub names_in : List Public → Segment → List (List ℕ)
names_in publics segment = definition_names (map definition_of (publics_in_segment segment publics))

abbrev pub HasName : Public → Type 0
HasName public = IsName public.name

named_in : (publics : List Public) (segment : Segment) → AllByRecursion HasName publics
    → AllByRecursion IsNamed (map definition_of (publics_in_segment segment publics))
named_in [] segment all = tt
named_in (public ∷ publics) segment all =
    go (same_segment public.segment segment) (named_in publics segment all.1)
  where
    go : (b : Bool) → AllByRecursion IsNamed (map definition_of (publics_in_segment segment publics))
        → AllByRecursion IsNamed
        (map definition_of (cond b (public ∷ publics_in_segment segment publics)
        (publics_in_segment segment publics)))
    go true later = (all.0, later)
    go false later = later

pub public_parts_are :
    (publics : List Public) (segment : Segment)
    → AllByRecursion (IsNamesPart 2) (public_parts publics segment)
public_parts_are publics segment =
    mapped_are (IsNamesPart 2) (PublicsPart segment)
    (λ group. record { up = (let u : 2 ≤ 2 = omega arith in u); no_entries = refl; no_content = refl; no_name = refl; no_start = refl })
    (packed (λ definition. length (definition_bytes definition)) (BODY_LIMIT - 1)
    (map definition_of (publics_in_segment segment publics)))

pub no_externals_there :
    (publics : List Public) (segment : Segment)
    → AllByRecursion (λ part. externals_of part ≡ []) (public_parts publics segment)
no_externals_there publics segment =
    mapped_are (λ part. externals_of part ≡ []) (PublicsPart segment) (λ group. refl)
    (packed (λ definition. length (definition_bytes definition)) (BODY_LIMIT - 1)
    (map definition_of (publics_in_segment segment publics)))

definitions_in_groups :
    (segment : Segment) (groups : List (List Definition))
    → flat_map names_of (map (PublicsPart segment) groups) ≡ definition_names (joined groups)
definitions_in_groups segment [] = refl
definitions_in_groups segment (group ∷ groups) =
    ap (λ r. definition_names group ++ r) (definitions_in_groups segment groups)
    ∙ sym (map-append (λ (definition : Definition). definition.name) group (joined groups))

pub names_of_publics :
    (publics : List Public) (segment : Segment)
    → flat_map names_of (public_parts publics segment) ≡ names_in publics segment
names_of_publics publics segment =
    definitions_in_groups segment
    (packed (λ definition. length (definition_bytes definition)) (BODY_LIMIT - 1)
    (map definition_of (publics_in_segment segment publics)))
    ∙ ap definition_names
    (packed_joined (λ definition. length (definition_bytes definition)) (BODY_LIMIT - 1)
    (map definition_of (publics_in_segment segment publics)))

short_definitions :
    (definitions : List Definition) → AllByRecursion IsNamed definitions
    → AllByRecursion (λ definition. length (definition_bytes definition) ≤ 1026) definitions
short_definitions definitions valid =
    all_weaker IsNamed (λ definition. length (definition_bytes definition) ≤ 1026)
    (λ definition h.
    let short : length (definition_bytes definition) ≤ 35 = definition_short definition h in
    omega (arith, short))
    definitions valid

pub publics_stage :
    (publics : List Public) (segment : Segment) (before : List Part) → may_have_publics segment ≡ true
    → AllByRecursion HasName publics → UpTo 2 before → latest_content before ≡ None
    → ((name : List ℕ)
    → times (bytes_eq name) (names_in publics segment) + times (bytes_eq name) (flat_map names_of before) ≤ 1)
    → are_accepted before (public_parts publics segment) ≡ true
publics_stage publics segment before may valid up latest once =
    let size : Definition → ℕ = λ definition. length (definition_bytes definition) in
    let definitions : List Definition = map definition_of (publics_in_segment segment publics) in
    let groups : List (List Definition) = packed size (BODY_LIMIT - 1) definitions in
    let all : joined groups ≡ definitions = packed_joined size (BODY_LIMIT - 1) definitions in
    publics_accepted segment may groups before up latest
    (packed_fit size (BODY_LIMIT - 1) definitions
    (short_definitions definitions (named_in publics segment valid)))
    (all_in_groups IsNamed groups (subst (AllByRecursion IsNamed) (sym all) (named_in publics segment valid)))
    (λ name.
    subst
    (λ ds. times (bytes_eq name) (definition_names ds) + times (bytes_eq name) (flat_map names_of before) ≤ 1)
    (sym all) (once name))

-- the names of all publics, segment by segment
names_split :
    (test : List ℕ → Bool) (segment : Segment) (offset : ℕ) (name : List ℕ) (publics : List Public)
    → times test (names_in publics Absolute) + times test (names_in publics Code)
    + times test (names_in publics Data)
    ≤ times test (map (λ (public : Public). public.name) publics)
    → times test (names_in (record { segment = segment; offset = offset; name = name } ∷ publics) Absolute)
    + times test (names_in (record { segment = segment; offset = offset; name = name } ∷ publics) Code)
    + times test (names_in (record { segment = segment; offset = offset; name = name } ∷ publics) Data)
    ≤ cond (test name) 1 0 + times test (map (λ (public : Public). public.name) publics)
names_split test Absolute offset name publics h =
    let k : ℕ = cond (test name) 1 0 in
    let a : ℕ = times test (names_in publics Absolute) in
    let b : ℕ = times test (names_in publics Code) in
    let c : ℕ = times test (names_in publics Data) in
    let bound : (k + a) + b + c ≤ k + times test (map (λ (public : Public). public.name) publics) =
    omega (arith, h) in
    bound
names_split test Code offset name publics h =
    let k : ℕ = cond (test name) 1 0 in
    let a : ℕ = times test (names_in publics Absolute) in
    let b : ℕ = times test (names_in publics Code) in
    let c : ℕ = times test (names_in publics Data) in
    let bound : a + (k + b) + c ≤ k + times test (map (λ (public : Public). public.name) publics) =
    omega (arith, h) in
    bound
names_split test Data offset name publics h =
    let k : ℕ = cond (test name) 1 0 in
    let a : ℕ = times test (names_in publics Absolute) in
    let b : ℕ = times test (names_in publics Code) in
    let c : ℕ = times test (names_in publics Data) in
    let bound : a + b + (k + c) ≤ k + times test (map (λ (public : Public). public.name) publics) =
    omega (arith, h) in
    bound
names_split test Stack offset name publics h =
    let k : ℕ = cond (test name) 1 0 in
    let a : ℕ = times test (names_in publics Absolute) in
    let b : ℕ = times test (names_in publics Code) in
    let c : ℕ = times test (names_in publics Data) in
    let bound : a + b + c ≤ k + times test (map (λ (public : Public). public.name) publics) =
    omega (arith, h) in
    bound

pub publics_counted :
    (test : List ℕ → Bool) (publics : List Public)
    → times test (names_in publics Absolute) + times test (names_in publics Code)
    + times test (names_in publics Data)
    ≤ times test (map (λ (public : Public). public.name) publics)
publics_counted test [] = omega arith
publics_counted test (public ∷ publics) =
    names_split test public.segment public.offset public.name publics (publics_counted test publics)

-- publics are read again as they were
abbrev as_public : Segment → Definition → Public
as_public segment definition =
    record { segment = segment; offset = definition.offset; name = definition.name }

publics_in_groups :
    (segment : Segment) (groups : List (List Definition))
    → flat_map publics_of (map (PublicsPart segment) groups) ≡ map (as_public segment) (joined groups)
publics_in_groups segment [] = refl
publics_in_groups segment (group ∷ groups) =
    ap (λ r. map (as_public segment) group ++ r) (publics_in_groups segment groups)
    ∙ sym (map-append (as_public segment) group (joined groups))

same_segment_is : (left right : Segment) → same_segment left right ≡ true → right ≡ left
same_segment_is left right h =
    same_Some right left
    (sym (segment_again right) ∙ ap segment_of (sym (eqb-true (segment_number left) (segment_number right) h))
    ∙ segment_again left)

public_again :
    (segment : Segment) (publics : List Public)
    → map (as_public segment) (map definition_of (publics_in_segment segment publics))
    ≡ publics_in_segment segment publics
public_again segment [] = refl
public_again segment (public ∷ publics) =
    go (same_segment public.segment segment) refl (public_again segment publics)
  where
    go : (b : Bool) → same_segment public.segment segment ≡ b
        → map (as_public segment) (map definition_of (publics_in_segment segment publics))
        ≡ publics_in_segment segment publics
        → map (as_public segment)
        (map definition_of (cond b (public ∷ publics_in_segment segment publics)
        (publics_in_segment segment publics)))
        ≡ cond b (public ∷ publics_in_segment segment publics) (publics_in_segment segment publics)
    go true e later =
        ap (λ s.
        as_public s (definition_of public)
        ∷ map (as_public segment) (map definition_of (publics_in_segment segment publics)))
        (same_segment_is public.segment segment e)
        ∙ ap (λ r. public ∷ r) later
    go false e later = later

pub publics_again :
    (publics : List Public) (segment : Segment)
    → flat_map publics_of (public_parts publics segment) ≡ publics_in_segment segment publics
publics_again publics segment =
    publics_in_groups segment
    (packed (λ definition. length (definition_bytes definition)) (BODY_LIMIT - 1)
    (map definition_of (publics_in_segment segment publics)))
    ∙ ap (map (as_public segment))
    (packed_joined (λ definition. length (definition_bytes definition)) (BODY_LIMIT - 1)
    (map definition_of (publics_in_segment segment publics)))
    ∙ public_again segment publics
