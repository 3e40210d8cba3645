-- Names that are judged one after another.
use Rattle.object_reading.proofs.Prelude.{◌≡◌, ℕ, ◌<◌, Bool, true, false, not, ◌&&◌, ◌||◌, cond, List, [], ◌∷◌, ◌++◌, length, Option, Some, None, option_map, option_and_then, refl, ap, sym, ◌∙◌, arith, list_all, bytes_eq, append_assoc, append-nil, list_any-append, some_pair_parts, is_name, is_among, are_new, Definition, definition_in_front, at_most, Shortens, all_unfolds, listed_name_shortens, definition_shortens, definition_name_in_front, entry_name, names_in, names_taken, none_either_way, option_map_some, and_right}
use Rattle.object_reading.specs.declared.rules.names.NameList.{NameList}
use Rattle.object_reading.specs.declared.rules.names.NameList.TheVariants.{Externals, Publics}

-- names are new by which names are known, and not by their order
pub are_new_alike :
    (names known other : List (List ℕ)) → ((name : List ℕ) → is_among name known ≡ is_among name other)
    → are_new names known ≡ are_new names other
are_new_alike [] known other same = refl
are_new_alike (name ∷ names) known other same =
    ap (λ b. not b && are_new names (name ∷ known)) (same name)
    ∙ ap (λ b. not (is_among name other) && b)
    (are_new_alike names (name ∷ known) (name ∷ other) (λ n. ap (λ b. bytes_eq n name || b) (same n)))

either_way : (a b : Bool) → (a || (b || false)) ≡ (b || a)
either_way true true = refl
either_way true false = refl
either_way false true = refl
either_way false false = refl

at_the_end :
    (known : List (List ℕ)) (name other : List ℕ)
    → is_among other (known ++ name ∷ []) ≡ is_among other (name ∷ known)
at_the_end known name other =
    list_any-append (bytes_eq other) known (name ∷ [])
    ∙ either_way (is_among other known) (bytes_eq other name)

regrouped : (a b c d : Bool) → ((a && b) && (not c && d)) ≡ ((a && not c) && (b && d))
regrouped true true true d = refl
regrouped true true false d = refl
regrouped true false true d = refl
regrouped true false false d = refl
regrouped false b c d = refl

in_turn : {A : Type 0} (a b : Bool) (x : Option A) → cond (a && b) x None ≡ cond a (cond b x None) None
in_turn true b x = refl
in_turn false b x = refl

-- the names that are known once a name and those that are read after it are, where the name fits
abbrev taken_after :
    (fits : Bool) (known : List (List ℕ)) (name : List ℕ) → Option (List (List ℕ)) → Option (List (List ℕ))
taken_after fits known name read = cond fits (names_taken (known ++ name ∷ []) read) None

taken_first :
    (read : Option (List (List ℕ))) (known : List (List ℕ)) (name : List ℕ)
    → names_taken known (option_map (λ (later : List (List ℕ)). name ∷ later) read)
    ≡ taken_after (is_name name && not (is_among name known)) known name read
taken_first None known name = sym (none_either_way (is_name name && not (is_among name known)))
taken_first (Some later) known name =
    let all : Option (List (List ℕ)) = Some (known ++ name ∷ later) in
    let fits : Bool = is_name name && not (is_among name known) in
    let valid : Bool = list_all is_name later in
    ap (λ b. cond b all None)
    (regrouped (is_name name) valid (is_among name known) (are_new later (name ∷ known)))
    ∙ in_turn fits (valid && are_new later (name ∷ known)) all
    ∙ ap (λ b. cond fits (cond (valid && b) all None) None)
    (sym (are_new_alike later (known ++ name ∷ []) (name ∷ known) (at_the_end known name)))
    ∙ ap (λ l. cond fits (cond (valid && are_new later (known ++ name ∷ [])) (Some l) None) None)
    (sym (append_assoc known (name ∷ []) later))

definition_name_shortens : Shortens definition_name_in_front
definition_name_shortens bytes name rest h =
    option_map_some _ (definition_in_front bytes) (name, rest) h
    (λ (found : Definition × List ℕ) first is.
    let d : length found.1 < length bytes = definition_shortens bytes found.0 found.1 first in
    let p : ((found.0).name ≡ name) × (found.1 ≡ rest) =
    some_pair_parts (found.0).name name found.1 rest (ap Some is) in
    let same : length found.1 ≡ length rest = ap length p.1 in
    omega (arith, d, same))

shortens : (list : NameList) → Shortens (entry_name list)
shortens Externals = listed_name_shortens
shortens Publics = definition_name_shortens

-- the first name is judged, and then all others, once it is known
taken_by_first :
    (list : NameList) (entries name after : List ℕ) (known : List (List ℕ))
    → entry_name list entries ≡ Some (name, after) → 0 < length entries
    → names_taken known (names_in list entries)
    ≡ taken_after (is_name name && not (is_among name known)) known name (names_in list after)
taken_by_first list [] name after known e some = absurd (omega arith)
taken_by_first list (byte ∷ others) name after known e some =
    ap (names_taken known) (all_unfolds (entry_name list) (shortens list) byte others name after e)
    ∙ taken_first (names_in list after) known name

pub taken_more :
    (list : NameList) (entries name after : List ℕ) (known new : List (List ℕ)) (is_new : Bool)
    → entry_name list entries ≡ Some (name, after) → 0 < length entries → is_name name ≡ true
    → is_new ≡ not (is_among name known) → new ≡ cond is_new (known ++ name ∷ []) known → is_new ≡ true
    → names_taken new (names_in list after) ≡ names_taken known (names_in list entries)
taken_more list entries name after known new is_new e some valid fresh added is =
    ap (λ l. names_taken l (names_in list after)) (added ∙ ap (λ b. cond b (known ++ name ∷ []) known) is)
    ∙ sym (taken_by_first list entries name after known e some
    ∙ ap (λ b. taken_after (b && not (is_among name known)) known name (names_in list after)) valid
    ∙ ap (λ b. taken_after b known name (names_in list after)) (sym fresh ∙ is))

-- bytes that are no name, and a name that is known already
pub taken_wrong :
    (list : NameList) (entries name after : List ℕ) (known : List (List ℕ))
    → entry_name list entries ≡ Some (name, after) → 0 < length entries → is_name name ≡ false
    → names_taken known (names_in list entries) ≡ None
taken_wrong list entries name after known e some wrong =
    taken_by_first list entries name after known e some
    ∙ ap (λ b. taken_after (b && not (is_among name known)) known name (names_in list after)) wrong

pub taken_again :
    (list : NameList) (entries name after : List ℕ) (known : List (List ℕ)) (is_new : Bool)
    → entry_name list entries ≡ Some (name, after) → 0 < length entries
    → is_new ≡ not (is_among name known) → is_new ≡ false
    → names_taken known (names_in list entries) ≡ None
taken_again list entries name after known is_new e some fresh is =
    taken_by_first list entries name after known e some
    ∙ ap (λ b. taken_after b known name (names_in list after))
    (and_right (is_name name) (not (is_among name known)) (sym fresh ∙ is))

-- bytes that begin with no name are no names
pub taken_none :
    (list : NameList) (entries : List ℕ) (known : List (List ℕ))
    → entry_name list entries ≡ None → 0 < length entries
    → names_taken known (names_in list entries) ≡ None
taken_none list [] known e some = absurd (omega arith)
taken_none list (byte ∷ others) known e some =
    ap (λ (read : Option (List ℕ × List ℕ)).
    names_taken known (option_and_then
    (λ (r : List ℕ × List ℕ).
    option_map (λ (later : List (List ℕ)). r.0 ∷ later)
    (at_most (length others) (entry_name list) r.1)) read)) e

pub taken_end :
    (list : NameList) (entries : List ℕ) (known : List (List ℕ)) → entries ≡ []
    → names_taken known (names_in list entries) ≡ Some known
taken_end list entries known e =
    ap (λ b. names_taken known (names_in list b)) e ∙ ap (λ n. Some n) (append-nil known)

pub name_shorter :
    (list : NameList) (entries name after : List ℕ)
    → entry_name list entries ≡ Some (name, after) → length after < length entries
name_shorter list entries name after e = shortens list entries name after e
