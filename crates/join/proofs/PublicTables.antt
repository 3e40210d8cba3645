-- The table of the PUBLICs of modules: what it holds, and what is found by it.
use Rattle.join.proofs.Prelude.{◌≡◌, ℕ, Bool, true, false, not, ◌||◌, cond, List, [], ◌∷◌, ◌++◌, map, is_some, Option, None, Some, option_map, if◌then◌else◌, refl, ap, sym, subst, ◌∙◌, true≢false, filter, list_any, lookup, option_or, option_map_or, bytes_eq, nat_list_eq_equiv, bytes_eq-Decides, Global, agree, public_named, first_repeated, lacks_public, differs_from_public, Publics, Shared, global_view, PublicTable, entry_view, publics_view, no_publics, named_in, with_public, with_publics, lacks_in, differs_in}
use Rattle.indexmap.specs.IndexMap.{insert_entry}
use Rattle.symbols.specs.contracts.name.NamePartialEq.TheImpl.{eq-value}
use Rattle.symbols.proofs.Keys.{same_keys}

-- what the code's table has for a name
viewed_lookup : (test : List ℕ → Bool) (entries : List (List ℕ × Shared))
    → lookup test (map entry_view entries) ≡ option_map global_view (lookup test entries)
viewed_lookup test [] = refl
viewed_lookup test (entry ∷ others) = by (test entry.0) (viewed_lookup test others)
  where
    by : (passes : Bool) → lookup test (map entry_view others) ≡ option_map global_view (lookup test others)
        → cond passes (Some (global_view entry.1)) (lookup test (map entry_view others))
        ≡ option_map global_view (cond passes (Some entry.1) (lookup test others))
    by true is = refl
    by false is = is

named_is : (publics : Publics) (name : List ℕ)
    → named_in (publics_view publics) name
    ≡ option_map global_view (lookup (eq-value.it name) publics.table.entries)
named_is publics name =
    viewed_lookup (bytes_eq name) publics.table.entries
    ∙ ap (λ (same : List ℕ → List ℕ → Bool). option_map global_view
    (lookup (same name) publics.table.entries)) (sym same_keys)

pub found_some : (publics : Publics) (name : List ℕ) (global : Shared)
    → Some global ≡ lookup (eq-value.it name) publics.table.entries
    → Some (global_view global) ≡ named_in (publics_view publics) name
found_some publics name global is = ap (option_map global_view) is ∙ sym (named_is publics name)

pub found_none : (publics : Publics) (name : List ℕ) → None ≡ lookup (eq-value.it name) publics.table.entries
    → None ≡ named_in (publics_view publics) name
found_none publics name is = ap (option_map global_view) is ∙ sym (named_is publics name)

-- a name is among the keys or not
by_found : (found : Option Shared) (named : Option Global) → option_map global_view found ≡ named
    → is_some found ≡ is_some named
by_found None named is = ap is_some is
by_found (Some global) named is = ap is_some is

-- the table with one more PUBLIC, whose name stood before or is new
abbrev again_in : PublicTable → Global → PublicTable
again_in publics global =
    record { table = publics.table; repeated = option_or publics.repeated (Some global.name) }

abbrev new_in : PublicTable → Global → PublicTable
new_in publics global =
    record { table = publics.table ++ (global.name, global) ∷ []; repeated = publics.repeated }

with_found : (publics : PublicTable) (global : Global) (name : List ℕ) (found : Option Shared) (again : Bool)
    → name ≡ global.name → option_map global_view found ≡ named_in publics name → again ≡ is_some found
    → (if again then again_in publics global else new_in publics global) ≡ with_public publics global
unfolding with_public
with_found publics global name found again is given same =
    ap (λ (known : Bool). if known then again_in publics global else new_in publics global)
    (same ∙ by_found found (named_in publics name) given ∙ ap (λ other. is_some (named_in publics other)) is)

pub put_again : (old : Publics) (global : Shared) (name : List ℕ) (found : Option Shared)
    (repeated : Option (List ℕ)) → name ≡ (global_view global).name
    → option_map global_view found ≡ named_in (publics_view old) name
    → true ≡ is_some found → repeated ≡ option_or old.repeated (Some name)
    → publics_view (record { table = old.table; repeated = repeated })
    ≡ with_public (publics_view old) (global_view global)
put_again old global name found repeated is given some noted =
    (λ i. record { table = map entry_view old.table.entries; repeated = (noted ∙ ap (λ other. option_or old.repeated (Some other)) is) i })
    ∙ with_found (publics_view old) (global_view global) name found true is given some

-- a PUBLIC of a new name goes last
inserted : (entries : List (List ℕ × Global)) (name : List ℕ) (global : Global)
    → is_some (lookup (bytes_eq name) entries) ≡ false
    → insert_entry bytes_eq entries name global ≡ entries ++ (name, global) ∷ []
inserted [] name global absent = refl
inserted (first ∷ others) name global absent = by (bytes_eq name first.0) absent (inserted others name global)
  where
    by : (same : Bool) → is_some (cond same (Some first.1) (lookup (bytes_eq name) others)) ≡ false
        → (is_some (lookup (bytes_eq name) others) ≡ false
        → insert_entry bytes_eq others name global ≡ others ++ (name, global) ∷ [])
        → (if same then (first.0, global) ∷ others else first ∷ insert_entry bytes_eq others name global)
        ≡ first ∷ (others ++ (name, global) ∷ [])
    by true absent later = absurd (true≢false absent)
    by false absent later = ap (λ entries. first ∷ entries) (later absent)

viewed_insert : (entries : List (List ℕ × Shared)) (name : List ℕ) (global : Shared)
    → map entry_view (insert_entry bytes_eq entries name global)
    ≡ insert_entry bytes_eq (map entry_view entries) name (global_view global)
viewed_insert [] name global = refl
viewed_insert (first ∷ others) name global = by (bytes_eq name first.0) (viewed_insert others name global)
  where
    by : (same : Bool) → map entry_view (insert_entry bytes_eq others name global)
        ≡ insert_entry bytes_eq (map entry_view others) name (global_view global)
        → map entry_view
        (if same then (first.0, global) ∷ others else first ∷ insert_entry bytes_eq others name global)
        ≡ (if same then (first.0, global_view global) ∷ map entry_view others else entry_view first
        ∷ insert_entry bytes_eq (map entry_view others) name (global_view global))
    by true is = refl
    by false is = ap (λ entries. entry_view first ∷ entries) is

pub put_new : (old new : Publics) (global : Shared) (name : List ℕ) (found : Option Shared)
    → name ≡ (global_view global).name → option_map global_view found ≡ named_in (publics_view old) name
    → false ≡ is_some found → new.table.entries ≡ insert_entry bytes_eq old.table.entries name global
    → new.repeated ≡ old.repeated
    → publics_view new ≡ with_public (publics_view old) (global_view global)
put_new old new global name found is given none entries repeated =
    (λ i. record {
      table = (ap (map entry_view) entries ∙ viewed_insert old.table.entries name global
          ∙ inserted (map entry_view old.table.entries) name (global_view global)
          (sym (none ∙ by_found found (named_in (publics_view old) name) given))
          ∙ ap (λ other. map entry_view old.table.entries ++ (other, global_view global) ∷ []) is) i;
      repeated = repeated i;
    })
    ∙ with_found (publics_view old) (global_view global) name found false is given none

-- what is found in a table with one more entry
looked_last : (test : List ℕ → Bool) (entries : List (List ℕ × Global)) (name : List ℕ) (global : Global)
    → lookup test (entries ++ (name, global) ∷ [])
    ≡ option_or (lookup test entries) (cond (test name) (Some global) None)
looked_last test [] name global = refl
looked_last test (first ∷ others) name global = by (test first.0) (looked_last test others name global)
  where
    by : (passes : Bool) → lookup test (others ++ (name, global) ∷ [])
        ≡ option_or (lookup test others) (cond (test name) (Some global) None)
        → cond passes (Some first.1) (lookup test (others ++ (name, global) ∷ []))
        ≡ option_or (cond passes (Some first.1) (lookup test others))
        (cond (test name) (Some global) None)
    by true is = refl
    by false is = is

abbrev publics_among : List Global → List Global
publics_among globals = filter (λ (global : Global). global.is_public) globals

-- a name by the table, and else by the PUBLICs that are left
after_again : (found first others : Option Global) → is_some found ≡ true
    → option_or found others ≡ option_or found first
after_again (Some global) first others some = refl
after_again None first others some = absurd (true≢false (sym some))

or_or : (a b c : Option Global) → option_or (option_or a b) c ≡ option_or a (option_or b c)
or_or None b c = refl
or_or (Some global) b c = refl

cond_or : (same : Bool) (global : Global) (others : Option Global)
    → option_or (cond same (Some global) None) others ≡ cond same (Some global) others
cond_or true global others = refl
cond_or false global others = refl

-- where a name stood before, no later PUBLIC counts
again_named : (publics : PublicTable) (global : Global) (name : List ℕ) (others : Option Global) (same : Bool)
    → bytes_eq global.name name ≡ same → is_some (named_in publics global.name) ≡ true
    → option_or (named_in publics name) others
    ≡ option_or (named_in publics name) (cond same (Some global) others)
again_named publics global name others false is some = refl
again_named publics global name others true is some =
    after_again (named_in publics name) (Some global) others
    (subst (λ other. is_some (named_in publics other) ≡ true) ((bytes_eq-Decides global.name name).0 is) some)

public_step : (publics : PublicTable) (global : Global) (name : List ℕ) (others : Option Global)
    → option_or (named_in (with_public publics global) name) others
    ≡ option_or (named_in publics name) (cond (bytes_eq global.name name) (Some global) others)
unfolding with_public
public_step publics global name others = by (is_some (named_in publics global.name)) refl
  where
    by : (again : Bool) → is_some (named_in publics global.name) ≡ again
        → option_or
        (named_in
        (if again then record { table = publics.table; repeated = option_or publics.repeated (Some global.name) } else record { table = publics.table ++ (global.name, global) ∷ []; repeated = publics.repeated }) name) others
        ≡ option_or (named_in publics name) (cond (bytes_eq global.name name) (Some global) others)
    by true some = again_named publics global name others (bytes_eq global.name name) refl some
    by false none =
        ap (λ found. option_or found others)
        (looked_last (bytes_eq name) publics.table global.name global
        ∙ ap (λ same. option_or (named_in publics name) (cond same (Some global) None))
        (nat_list_eq_equiv.symm name global.name))
        ∙ or_or (named_in publics name) (cond (bytes_eq global.name name) (Some global) None) others
        ∙ ap (option_or (named_in publics name)) (cond_or (bytes_eq global.name name) global others)

-- the table says what the PUBLICs say
named_after : (publics : PublicTable) (globals : List Global) (name : List ℕ)
    → named_in (with_publics publics globals) name
    ≡ option_or (named_in publics name) (public_named (publics_among globals) name)
named_after publics [] name = alone (named_in publics name)
  where
    alone : (found : Option Global) → found ≡ option_or found None
    alone None = refl
    alone (Some global) = refl
named_after publics (global ∷ others) name =
    by global.is_public
    (named_after (with_public publics global) others name
    ∙ public_step publics global name (public_named (publics_among others) name))
    (named_after publics others name)
  where
    by : (public : Bool)
        → named_in (with_publics (with_public publics global) others) name
        ≡ option_or (named_in publics name)
        (cond (bytes_eq global.name name) (Some global) (public_named (publics_among others) name))
        → named_in (with_publics publics others) name
        ≡ option_or (named_in publics name) (public_named (publics_among others) name)
        → named_in (with_publics (if public then with_public publics global else publics) others) name
        ≡ option_or (named_in publics name)
        (public_named (cond public (global ∷ publics_among others) (publics_among others)) name)
    by true taken left = taken
    by false taken left = left

pub table_names : (globals : List Global) (name : List ℕ)
    → named_in (with_publics no_publics globals) name ≡ public_named (publics_among globals) name
table_names globals name = named_after no_publics globals name

-- a name stood before where the table has it
abbrev Stood : PublicTable → List (List ℕ) → Type 0
Stood publics before = (name : List ℕ) → list_any (bytes_eq name) before ≡ is_some (named_in publics name)

some_or : (a b : Option Global) → is_some (option_or a b) ≡ (is_some b || is_some a)
some_or None None = refl
some_or None (Some b) = refl
some_or (Some a) None = refl
some_or (Some a) (Some b) = refl

some_cond : (same : Bool) (global : Global) → is_some (cond same (Some global) None) ≡ same
some_cond true global = refl
some_cond false global = refl

stood_more : (publics : PublicTable) (before : List (List ℕ)) (global : Global) → Stood publics before
    → Stood (record { table = publics.table ++ (global.name, global) ∷ []; repeated = publics.repeated })
    (global.name ∷ before)
stood_more publics before global stood name =
    sym (ap is_some (looked_last (bytes_eq name) publics.table global.name global)
    ∙ some_or (named_in publics name) (cond (bytes_eq name global.name) (Some global) None)
    ∙ ap (λ same. same || is_some (named_in publics name)) (some_cond (bytes_eq name global.name) global)
    ∙ ap (λ had. bytes_eq name global.name || had) (sym (stood name)))

-- the first name that stood before
abbrev name_of_first : Option Global → Option (List ℕ)
name_of_first found = option_map (λ (global : Global). global.name) found

noted_first : (noted : Option (List ℕ)) (name : List ℕ) (later : Option (List ℕ))
    → option_or (option_or noted (Some name)) later ≡ option_or noted (Some name)
noted_first None name later = refl
noted_first (Some first) name later = refl

abbrev RepeatedAfter : PublicTable → List (List ℕ) → List Global → Type 0
RepeatedAfter publics before globals =
    (with_publics publics globals).repeated
    ≡ option_or publics.repeated (name_of_first (first_repeated before (publics_among globals)))

repeated_taken : (publics : PublicTable) (before : List (List ℕ)) (global : Global)
    (others : List Global) (again : Bool)
    → RepeatedAfter (again_in publics global) before others
    → RepeatedAfter (new_in publics global) (global.name ∷ before) others
    → (with_publics (if again then again_in publics global else new_in publics global) others).repeated
    ≡ option_or publics.repeated
    (name_of_first (if again then Some global else first_repeated (global.name ∷ before)
    (publics_among others)))
repeated_taken publics before global others true later new =
    later ∙ noted_first publics.repeated global.name
    (name_of_first (first_repeated before (publics_among others)))
repeated_taken publics before global others false later new = new

repeated_step : (publics : PublicTable) (before : List (List ℕ)) (global : Global) (others : List Global)
    → Stood publics before → (public : Bool)
    → RepeatedAfter (again_in publics global) before others
    → RepeatedAfter (new_in publics global) (global.name ∷ before) others
    → RepeatedAfter publics before others
    → (with_publics (if public then with_public publics global else publics) others).repeated
    ≡ option_or publics.repeated
    (name_of_first (first_repeated before
    (cond public (global ∷ publics_among others) (publics_among others))))
unfolding with_public
repeated_step publics before global others stood true later new left =
    subst (λ (again : Bool). (with_publics
    (if again then again_in publics global else new_in publics global) others).repeated
    ≡ option_or publics.repeated
    (name_of_first (if list_any (bytes_eq global.name) before then Some global else first_repeated
    (global.name ∷ before) (publics_among others))))
    (stood global.name)
    (repeated_taken publics before global others (list_any (bytes_eq global.name) before) later new)
repeated_step publics before global others stood false later new left = left

repeated_after : (publics : PublicTable) (before : List (List ℕ)) (globals : List Global)
    → Stood publics before → RepeatedAfter publics before globals
repeated_after publics before [] stood = alone publics.repeated
  where
    alone : (found : Option (List ℕ)) → found ≡ option_or found None
    alone None = refl
    alone (Some name) = refl
repeated_after publics before (global ∷ others) stood =
    repeated_step publics before global others stood global.is_public
    (repeated_after (again_in publics global) before others stood)
    (repeated_after (new_in publics global) (global.name ∷ before) others
    (stood_more publics before global stood))
    (repeated_after publics before others stood)

pub table_repeats : (globals : List Global)
    → (with_publics no_publics globals).repeated ≡ name_of_first (first_repeated [] (publics_among globals))
table_repeats globals = repeated_after no_publics [] globals (λ name. refl)

-- EXTERNALs by the table
not_named : (found : Option Global) → not (is_some found)
    ≡ option_map_or (λ (public : Global). false) found true
not_named None = refl
not_named (Some global) = refl

pub lacks_is : (globals : List Global)
    → lacks_in (with_publics no_publics globals) ≡ lacks_public (publics_among globals)
lacks_is globals = λ i external.
    (not_named (named_in (with_publics no_publics globals) external.name)
    ∙ ap (λ found. option_map_or (λ (public : Global). false) found true)
    (table_names globals external.name)) i

pub differs_is : (globals : List Global)
    → differs_in (with_publics no_publics globals) ≡ differs_from_public (publics_among globals)
differs_is globals = λ i external.
    option_map_or (λ (public : Global). not (agree external.declared public.declared)) (table_names globals external.name i) false
