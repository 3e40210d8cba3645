-- The table of the members of a structure.
use Rattle.typed_trees.proofs.Prelude.{◌≡◌, ℕ, suc, ◌+◌, min, Bool, true, false, cond, ◌||◌, List, [], ◌∷◌, ◌++◌, length, sum_by, is_some, Option, None, Some, if◌then◌else◌, refl, sym, ap, ◌∙◌, subst, true≢false, lookup, option_map, bytes_eq, sum_by-cons, sum_by_push, TypedMember, after_member, capped, has_member, member_named, size_of_member}
use Rattle.std.proofs.lemmas.Slice.Eq.{bytes_eq-Decides}
use Rattle.trees.specs.NameEquality.TheImpl.{eq-value}
use Rattle.trees.proofs.Keys.{same_keys}
use Rattle.typed_trees.proofs.Capped.{capped_sum}
use Rattle.typed_trees.specs.declared.members.FoundMember.{FoundMember}

-- a member that is found among those before another, or else that one
abbrev or_else : Option FoundMember → Option FoundMember → Option FoundMember
or_else None other = other
or_else (Some place) other = Some place

-- what is found of a member that stands last
abbrev last_of : List TypedMember → TypedMember → List ℕ → Option FoundMember
last_of members member name =
    if bytes_eq member.name name then Some (record {
      position = length members;
      offset = sum_by size_of_member members;
      member = member;
    }) else None

map_or_else : (f : FoundMember → FoundMember) (one other : Option FoundMember)
    → option_map f (or_else one other) ≡ or_else (option_map f one) (option_map f other)
map_or_else f None other = refl
map_or_else f (Some place) other = refl

after_last : (first : TypedMember) (members : List TypedMember) (member : TypedMember) (name : List ℕ)
    → option_map (after_member first) (last_of members member name) ≡ last_of (first ∷ members) member name
after_last first members member name = by (bytes_eq member.name name)
  where
    by : (same : Bool)
        → option_map (after_member first) (if same then Some (record {
          position = length members;
          offset = sum_by size_of_member members;
          member = member;
        }) else None) ≡ (if same then Some (record {
          position = length (first ∷ members);
          offset = sum_by size_of_member (first ∷ members);
          member = member;
        }) else None)
    by true = ap (λ (offset : ℕ). Some (record { position = suc (length members); offset = offset; member = member }))
        (sym (sum_by-cons size_of_member first members))
    by false = refl

-- what is found where one more member stands last
named_pushed : (members : List TypedMember) (member : TypedMember) (name : List ℕ)
    → member_named (members ++ member ∷ []) name ≡ or_else (member_named members name) (last_of members member name)
named_pushed [] member name = by (bytes_eq member.name name)
  where
    by : (same : Bool) → (let only : Option FoundMember = Some (record { position = 0; offset = 0; member = member }) in
        (if same then only else None) ≡ (if same then only else None))
    by same = refl
named_pushed (first ∷ others) member name = by (bytes_eq first.name name) (named_pushed others member name)
  where
    by : (same : Bool)
        → member_named (others ++ member ∷ []) name ≡ or_else (member_named others name) (last_of others member name)
        → (let only : Option FoundMember = Some (record { position = 0; offset = 0; member = first }) in
        (if same then only else option_map (after_member first) (member_named (others ++ member ∷ []) name))
        ≡ or_else (if same then only else option_map (after_member first) (member_named others name))
        (last_of (first ∷ others) member name))
    by true is = refl
    by false is =
        ap (option_map (after_member first)) is
        ∙ map_or_else (after_member first) (member_named others name) (last_of others member name)
        ∙ ap (or_else (option_map (after_member first) (member_named others name))) (after_last first others member name)

some_mapped : (f : FoundMember → FoundMember) (found : Option FoundMember)
    → is_some (option_map f found) ≡ is_some found
some_mapped f None = refl
some_mapped f (Some place) = refl

some_named : (members : List TypedMember) (name : List ℕ)
    → is_some (member_named members name) ≡ has_member members name
some_named [] name = refl
some_named (first ∷ others) name = by (bytes_eq first.name name) (some_named others name)
  where
    by : (same : Bool) → is_some (member_named others name) ≡ has_member others name
        → is_some (if same then Some (record { position = 0; offset = 0; member = first })
        else option_map (after_member first) (member_named others name))
        ≡ (same || has_member others name)
    by true is = refl
    by false is = some_mapped (after_member first) (member_named others name) ∙ is

-- the table of names tells what is found of each name
abbrev pub Finds : List TypedMember → List (List ℕ × FoundMember) → Type 0
Finds members entries =
    (name : List ℕ) → lookup (bytes_eq name) entries ≡ option_map capped (member_named members name)

-- what the table has under a name, as its keys are compared
pub found_in : (members : List TypedMember) (entries : List (List ℕ × FoundMember)) (name : List ℕ)
    → Finds members entries
    → lookup (eq-value.it name) entries ≡ option_map capped (member_named members name)
found_in members entries name finds = ap (λ test. lookup (test name) entries) same_keys ∙ finds name

-- a name is in the table where it is that of a member
pub has_name : (members : List TypedMember) (entries : List (List ℕ × FoundMember)) (name : List ℕ)
    → Finds members entries
    → is_some (lookup (eq-value.it name) entries) ≡ has_member members name
has_name members entries name finds =
    ap (λ found. is_some found) (found_in members entries name finds)
    ∙ some_mapped capped (member_named members name) ∙ some_named members name

no_member : (members : List TypedMember) (name : List ℕ) → has_member members name ≡ false
    → member_named members name ≡ None
no_member members name absent = by (member_named members name) (some_named members name ∙ absent)
  where
    by : (found : Option FoundMember) → is_some found ≡ false → found ≡ None
    by None is = refl
    by (Some place) is = absurd (true≢false is)

unchanged : (found : Option FoundMember) → option_map capped found ≡ option_map capped (or_else found None)
unchanged None = refl
unchanged (Some place) = refl

-- the table after a new member
pub found_pushed : (members : List TypedMember) (before now : List (List ℕ × FoundMember)) (member : TypedMember)
    (size : ℕ)
    → Finds members before → size ≡ min (sum_by size_of_member members) 4294967295
    → has_member members member.name ≡ false
    → ((name : List ℕ) → lookup (eq-value.it name) now
    ≡ cond (eq-value.it member.name name)
    (Some (record { position = length members; offset = size; member = member }))
    (lookup (eq-value.it name) before))
    → Finds (members ++ member ∷ []) now
found_pushed members before now member size finds whole absent updates name =
    sym (ap (λ test. lookup (test name) now) same_keys)
    ∙ updates name
    ∙ ap (λ test. cond (test member.name name) here (lookup (eq-value.it name) before)) same_keys
    ∙ ap (cond (bytes_eq member.name name) here) (found_in members before name finds)
    ∙ by (bytes_eq member.name name) refl
    ∙ sym (ap (option_map capped) (named_pushed members member name))
  where
    here : Option FoundMember
    here = Some (record { position = length members; offset = size; member = member })

    by : (same : Bool) → bytes_eq member.name name ≡ same
        → cond same here (option_map capped (member_named members name))
        ≡ option_map capped (or_else (member_named members name) (if same then Some (record {
          position = length members;
          offset = sum_by size_of_member members;
          member = member;
        }) else None))
    by true is =
        ap (λ (offset : ℕ). Some (record { position = length members; offset = offset; member = member })) whole
        ∙ ap (λ found. option_map capped (or_else found (Some (record {
          position = length members;
          offset = sum_by size_of_member members;
          member = member;
        })))) (sym (no_member members name
        (ap (has_member members) (sym ((bytes_eq-Decides member.name name).0 is)) ∙ absent)))
    by false is = unchanged (member_named members name)

-- the same of the lists that the steps of the code give
pub pushed_finds : (members kept after : List TypedMember) (before now : List (List ℕ × FoundMember))
    (member : TypedMember) (size position : ℕ)
    → Finds members before → size ≡ min (sum_by size_of_member members) 4294967295
    → is_some (lookup (eq-value.it member.name) before) ≡ false
    → kept ≡ members → position ≡ length kept → after ≡ kept ++ member ∷ []
    → ((name : List ℕ) → lookup (eq-value.it name) now
    ≡ cond (eq-value.it member.name name)
    (Some (record { position = position; offset = size; member = member }))
    (lookup (eq-value.it name) before))
    → Finds after now
pushed_finds members kept after before now member size position finds whole absent same place is updates =
    subst (λ all. Finds all now) (sym (is ∙ ap (λ all. all ++ member ∷ []) same))
    (found_pushed members before now member size finds whole
    (sym (has_name members before member.name finds) ∙ absent)
    (λ name. updates name
    ∙ ap (λ at. cond (eq-value.it member.name name)
    (Some (record { position = at; offset = size; member = member }))
    (lookup (eq-value.it name) before)) (place ∙ ap length same)))

pub size_pushed : (members : List TypedMember) (member : TypedMember) (size one grown : ℕ)
    → size ≡ min (sum_by size_of_member members) 4294967295
    → one ≡ size_of_member member → grown ≡ min (size + one) 4294967295
    → grown ≡ min (sum_by size_of_member (members ++ member ∷ [])) 4294967295
size_pushed members member size one grown whole its sum =
    sum ∙ ap (λ more. min (size + more) 4294967295) its
    ∙ ap (λ now. min (now + size_of_member member) 4294967295) whole
    ∙ capped_sum (sum_by size_of_member members) (size_of_member member)
    ∙ ap (λ all. min all 4294967295) (sym (sum_by_push size_of_member members member))
