-- The records of names that are written may stand where they stand.
use Rattle.object_laws.proofs.Prelude.{◌≡◌, ℕ, suc, ◌+◌, ◌≤◌, true, not, ◌&&◌, nat_le, List, [], ◌∷◌, ◌++◌, length, map, flat_map, None, refl, ap, ◌∙◌, arith, AllByRecursion, list_all, bytes_eq, and_parts, and_from, leb-true, length-append, map-append, is_name, is_name_character, is_ascii_uppercase, BODY_LIMIT, Segment, may_have_publics, are_new, Definition, Part, ExternalNamesPart, PublicsPart, listed_name_bytes, definition_bytes, is_empty, definition_names, names_of, latest_content, are_names, is_accepted, are_accepted}
use Rattle.object_laws.proofs.Texts.Groups.{joined, total, Fits, length_total}
use Rattle.object_laws.proofs.Texts.Counted.{times, times_append, once_new}
use Rattle.object_laws.proofs.Texts.Accepting.{accepted_by, fit_nothing, UpTo, follows_externals, follows_publics, some_items, all_pass}

abbrev pub IsName : List ℕ → Type 0
IsName name = is_name name ≡ true

-- a name has 31 characters at most
pub short_name : (name : List ℕ) → IsName name → length name ≤ 31
short_name [] h = omega arith
short_name (first ∷ rest) h =
    let t = and_parts (is_ascii_uppercase first && list_all is_name_character rest)
    (nat_le (length rest) 30) h in
    let short : length rest ≤ 30 = leb-true (length rest) 30 t.1 in
    omega (arith, short)

pub listed_short : (name : List ℕ) → IsName name → length (listed_name_bytes name) ≤ 33
listed_short name h =
    let short : length name ≤ 31 = short_name name h in
    let longer : length (name ++ 0 ∷ []) ≡ length name + 1 = length-append name (0 ∷ []) in
    let whole : suc (length (name ++ 0 ∷ [])) ≤ 33 = omega (arith, longer, short) in
    whole

pub definition_short : (definition : Definition) → IsName definition.name
    → length (definition_bytes definition) ≤ 35
definition_short definition h =
    let short : length (listed_name_bytes definition.name) ≤ 33 = listed_short definition.name h in
    let whole : suc (suc (length (listed_name_bytes definition.name))) ≤ 35 = omega (arith, short) in
    whole

-- names that are valid, and none counted twice with those before
names_are :
    (names : List (List ℕ)) (before : List Part) → AllByRecursion IsName names
    → ((name : List ℕ) → times (bytes_eq name) names + times (bytes_eq name) (flat_map names_of before) ≤ 1)
    → are_names names before ≡ true
names_are names before valid once =
    and_from (list_all is_name names) (are_new names (flat_map names_of before))
    (all_pass is_name names valid)
    (once_new names (flat_map names_of before) once)

-- external names
pub externals_accepted :
    (groups : List (List (List ℕ))) (before : List Part) → UpTo 1 before → latest_content before ≡ None
    → AllByRecursion (Fits (λ name. length (listed_name_bytes name)) BODY_LIMIT) groups
    → AllByRecursion (AllByRecursion IsName) groups
    → ((name : List ℕ) → times (bytes_eq name) (joined groups)
    + times (bytes_eq name) (flat_map names_of before) ≤ 1)
    → are_accepted before (map ExternalNamesPart groups) ≡ true
externals_accepted [] before up latest fit valid once = refl
externals_accepted (group ∷ groups) before up latest fit valid once =
    let part : Part = ExternalNamesPart group in
    let long : length (flat_map listed_name_bytes group)
    ≡ total (λ name. length (listed_name_bytes name)) group =
    length_total listed_name_bytes group in
    let limit : total (λ name. length (listed_name_bytes name)) group ≤ BODY_LIMIT = fit.0.1 in
    let split : (name : List ℕ)
    → times (bytes_eq name) (group ++ joined groups)
    ≡ times (bytes_eq name) group + times (bytes_eq name) (joined groups) =
    λ name. times_append (bytes_eq name) group (joined groups) in
    and_from (is_accepted before part) (are_accepted (part ∷ before) (map ExternalNamesPart groups))
    (accepted_by before part (record {
      limit = (let l : length (flat_map listed_name_bytes
          group) ≤ BODY_LIMIT = omega (arith, long, limit) in l);
      follows = follows_externals before up;
      body = and_from (not (is_empty group)) (are_names group before) (some_items group fit.0.0)
          (names_are group before valid.0
          (λ name.
          let s : times (bytes_eq name) (group ++ joined groups)
          ≡ times (bytes_eq name) group + times (bytes_eq name) (joined groups) = split name in
          let o : times (bytes_eq name) (group ++ joined groups)
          + times (bytes_eq name) (flat_map names_of before) ≤ 1 =
          once name in
          omega (arith, s, o)));
      served = refl;
      content = refl;
      fixes = fit_nothing before part (latest_content before) (λ own. refl);
    }))
    (externals_accepted groups (part ∷ before) (let u : 1 ≤ 1 = omega arith in u) latest fit.1 valid.1
    (λ name.
    let s : times (bytes_eq name) (group ++ joined groups)
    ≡ times (bytes_eq name) group + times (bytes_eq name) (joined groups) = split name in
    let o : times (bytes_eq name) (group ++ joined groups) + times (bytes_eq name) (flat_map names_of before)
    ≤ 1 =
    once name in
    let m : times (bytes_eq name) (group ++ flat_map names_of before)
    ≡ times (bytes_eq name) group + times (bytes_eq name) (flat_map names_of before) =
    times_append (bytes_eq name) group (flat_map names_of before) in
    omega (arith, s, o, m)))

-- the names of groups of definitions
abbrev pub IsNamed : Definition → Type 0
IsNamed definition = IsName definition.name

valid_names : (definitions : List Definition) → AllByRecursion IsNamed definitions
    → AllByRecursion IsName (definition_names definitions)
valid_names [] all = tt
valid_names (definition ∷ definitions) all = (all.0, valid_names definitions all.1)

-- publics of a segment
pub publics_accepted :
    (segment : Segment) → may_have_publics segment ≡ true
    → (groups : List (List Definition)) (before : List Part)
    → UpTo 2 before → latest_content before ≡ None
    → AllByRecursion (Fits (λ definition. length (definition_bytes definition)) 1026) groups
    → AllByRecursion (AllByRecursion IsNamed) groups
    → ((name : List ℕ)
    → times (bytes_eq name) (definition_names (joined groups))
    + times (bytes_eq name) (flat_map names_of before) ≤ 1)
    → are_accepted before (map (PublicsPart segment) groups) ≡ true
publics_accepted segment may [] before up latest fit valid once = refl
publics_accepted segment may (group ∷ groups) before up latest fit valid once =
    let part : Part = PublicsPart segment group in
    let own : List (List ℕ) = definition_names group in
    let others : List (List ℕ) = definition_names (joined groups) in
    let long : length (flat_map definition_bytes group)
    ≡ total (λ definition. length (definition_bytes definition)) group =
    length_total definition_bytes group in
    let limit : total (λ definition. length (definition_bytes definition)) group ≤ 1026 = fit.0.1 in
    let split : (name : List ℕ)
    → times (bytes_eq name) (definition_names (group ++ joined groups))
    ≡ times (bytes_eq name) own + times (bytes_eq name) others =
    λ name.
    ap (times (bytes_eq name))
    (map-append (λ (definition : Definition). definition.name) group (joined groups))
    ∙ times_append (bytes_eq name) own others in
    and_from (is_accepted before part) (are_accepted (part ∷ before) (map (PublicsPart segment) groups))
    (accepted_by before part (record {
      limit = (let l : suc (length (flat_map definition_bytes
          group)) ≤ BODY_LIMIT = omega (arith, long, limit) in l);
      follows = follows_publics before up;
      body = and_from (may_have_publics segment && not (is_empty group)) (are_names own before)
          (and_from (may_have_publics segment) (not (is_empty group)) may (some_items group fit.0.0))
          (names_are own before (valid_names group valid.0)
          (λ name.
          let s : times (bytes_eq name) (definition_names (group ++ joined groups))
          ≡ times (bytes_eq name) own + times (bytes_eq name) others = split name in
          let o : times (bytes_eq name) (definition_names (group ++ joined groups))
          + times (bytes_eq name) (flat_map names_of before) ≤ 1 = once name in
          omega (arith, s, o)));
      served = refl;
      content = refl;
      fixes = fit_nothing before part (latest_content before) (λ own. refl);
    }))
    (publics_accepted segment may groups (part ∷ before) (let u : 2 ≤ 2 = omega arith in u)
    latest fit.1 valid.1
    (λ name.
    let s : times (bytes_eq name) (definition_names (group ++ joined groups))
    ≡ times (bytes_eq name) own + times (bytes_eq name) others = split name in
    let o : times (bytes_eq name) (definition_names (group ++ joined groups))
    + times (bytes_eq name) (flat_map names_of before) ≤ 1 = once name in
    let m : times (bytes_eq name) (own ++ flat_map names_of before)
    ≡ times (bytes_eq name) own + times (bytes_eq name) (flat_map names_of before) =
    times_append (bytes_eq name) own (flat_map names_of before) in
    omega (arith, s, o, m)))
