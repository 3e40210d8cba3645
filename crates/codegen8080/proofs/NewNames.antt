-- Distinct names, and one more.
use Rattle.codegen8080.proofs.Prelude.{◌≡◌, ℕ, Bool, true, false, not, List, [], ◌∷◌, ◌++◌, map, Option, Some, None, refl, sym, ap, ◌∙◌, list_all, bytes_eq, is_name, Public, are_new, is_among, is_valid_public, ExternalName, TreeModule, used_names, IsLinkable, IsLinkage, Linkage, names_of, names_of_externals, names_of_publics, and_from, and_parts, append-nil, or_from, or_parts}
use Rattle.std.proofs.lemmas.Bool.{not-true}

new_after :
    (names known : List (List ℕ)) (name : List ℕ)
    → are_new names known ≡ true → is_among name names ≡ false → is_among name known ≡ false
    → are_new (names ++ name ∷ []) known ≡ true
new_after [] known name new other fresh = and_from (not (is_among name known)) true (ap not fresh) refl
new_after (first ∷ others) known name new other fresh =
    and_from (not (is_among first known)) (are_new (others ++ name ∷ []) (first ∷ known))
    (and_parts (not (is_among first known)) (are_new others (first ∷ known)) new).0
    (new_after others (first ∷ known) name
    (and_parts (not (is_among first known)) (are_new others (first ∷ known)) new).1
    (or_parts (bytes_eq name first) (is_among name others) other).1
    (or_from (bytes_eq name first) (is_among name known)
    (or_parts (bytes_eq name first) (is_among name others) other).0 fresh))

-- distinct names, and another one
pub one_more :
    (names : List (List ℕ)) (name : List ℕ)
    → are_new names [] ≡ true → is_among name names ≡ false → are_new (names ++ name ∷ []) [] ≡ true
one_more names name new other = new_after names [] name new other refl

-- a property of all, and of one more
pub all_and_one :
    {A : Type 0} (test : A → Bool) (items : List A) (item : A)
    → list_all test items ≡ true → test item ≡ true → list_all test (items ++ item ∷ []) ≡ true
all_and_one test [] item all one = and_from (test item) true one refl
all_and_one test (first ∷ others) item all one =
    and_from (test first) (list_all test (others ++ item ∷ []))
    (and_parts (test first) (list_all test others) all).0
    (all_and_one test others item (and_parts (test first) (list_all test others) all).1 one)

append_again : {A : Type 0} (items more : List A) (item : A)
    → items ++ (more ++ item ∷ []) ≡ (items ++ more) ++ item ∷ []
append_again [] more item = refl
append_again {A = A} (first ∷ others) more item =
    ap (λ (rest : List A). first ∷ rest) (append_again others more item)

pub map_more : {A B : Type 0} (f : A → B) (items : List A) (item : A)
    → map f (items ++ item ∷ []) ≡ map f items ++ f item ∷ []
map_more f [] item = refl
map_more {A = A} {B = B} f (first ∷ others) item =
    ap (λ (rest : List B). f first ∷ rest) (map_more f others item)

-- one more external name, before any public one
pub external_names :
    (externals : List (List ℕ)) (publics : List Public) (name : List ℕ)
    → publics ≡ []
    → names_of (record { externals = externals ++ name ∷ []; publics = publics })
    ≡ names_of (record { externals = externals; publics = publics }) ++ name ∷ []
external_names externals publics name none =
    ap (λ (p : List Public). names_of (record { externals = externals ++ name ∷ []; publics = p })) none
    ∙ append-nil (externals ++ name ∷ [])
    ∙ ap (λ (e : List (List ℕ)). e ++ name ∷ []) (sym (append-nil externals))
    ∙ ap (λ (p : List Public). names_of (record { externals = externals; publics = p }) ++ name ∷ [])
    (sym none)

-- one more public name
pub public_names :
    (externals : List (List ℕ)) (publics : List Public) (public : Public)
    → names_of (record { externals = externals; publics = publics ++ public ∷ [] })
    ≡ names_of (record { externals = externals; publics = publics }) ++ public.name ∷ []
public_names externals publics public =
    ap (λ (names : List (List ℕ)). externals ++ names) (map_more (λ (p : Public). p.name) publics public)
    ∙ append_again externals (map (λ (p : Public). p.name) publics) public.name

-- with one more name, they are still names that a module may have
pub linkage_with_name :
    (before after : Linkage) (name : List ℕ)
    → names_of after ≡ names_of before ++ name ∷ []
    → IsLinkage before → is_name name ≡ true → is_among name (names_of before) ≡ false
    → list_all is_valid_public after.publics ≡ true
    → IsLinkage after
linkage_with_name before after name more is valid absent publics = record {
  names = ap (list_all is_name) more ∙ all_and_one is_name (names_of before) name is.names valid;
  different = ap (λ names. are_new names []) more ∙ one_more (names_of before) name is.different absent;
  publics = publics;
}

-- Names that are new stay new where fewer are known.
pub new_to_fewer :
    (names known fewer : List (List ℕ))
    → ((name : List ℕ) → is_among name known ≡ false → is_among name fewer ≡ false)
    → are_new names known ≡ true → are_new names fewer ≡ true
new_to_fewer [] known fewer less new = refl
new_to_fewer (name ∷ names) known fewer less new =
    let parts = and_parts (not (is_among name known)) (are_new names (name ∷ known)) new in
    and_from (not (is_among name fewer)) (are_new names (name ∷ fewer))
    (ap not (less name (not-true (is_among name known) parts.0)))
    (new_to_fewer names (name ∷ known) (name ∷ fewer)
    (λ other absent.
    let both = or_parts (bytes_eq other name) (is_among other known) absent in
    or_from (bytes_eq other name) (is_among other fewer) both.0 (less other both.1))
    parts.1)

-- the first of them
pub first_is_new : (name : List ℕ) (names known : List (List ℕ)) → are_new (name ∷ names) known ≡ true
    → is_among name known ≡ false
first_is_new name names known new =
    not-true (is_among name known)
    (and_parts (not (is_among name known)) (are_new names (name ∷ known)) new).0

-- the others, whether the first is known or not
pub others_are_new : (name : List ℕ) (names known : List (List ℕ)) → are_new (name ∷ names) known ≡ true
    → are_new names known ≡ true
others_are_new name names known new =
    new_to_fewer names (name ∷ known) known
    (λ other absent. (or_parts (bytes_eq other name) (is_among other known) absent).1)
    (and_parts (not (is_among name known)) (are_new names (name ∷ known)) new).1

known_at_end : (names : List (List ℕ)) (name other : List ℕ) → is_among other (name ∷ names) ≡ false
    → is_among other (names ++ name ∷ []) ≡ false
known_at_end [] name other absent = absent
known_at_end (first ∷ names) name other absent =
    let both = or_parts (bytes_eq other name) (is_among other (first ∷ names)) absent in
    let rest = or_parts (bytes_eq other first) (is_among other names) both.1 in
    or_from (bytes_eq other first) (is_among other (names ++ name ∷ [])) rest.0
    (known_at_end names name other (or_from (bytes_eq other name) (is_among other names) both.0 rest.1))

pub others_are_newer : (name : List ℕ) (names known : List (List ℕ)) → are_new (name ∷ names) known ≡ true
    → are_new names (known ++ name ∷ []) ≡ true
others_are_newer name names known new =
    new_to_fewer names (name ∷ known) (known ++ name ∷ []) (known_at_end known name)
    (and_parts (not (is_among name known)) (are_new names (name ∷ known)) new).1

-- Of new names the last are new to what is known and to the first.
pub new_in_parts :
    (names more known : List (List ℕ)) → are_new (names ++ more) known ≡ true
    → (are_new names known ≡ true)
    × ((fewer : List (List ℕ))
    → ((name : List ℕ) → is_among name names ≡ false → is_among name known ≡ false
    → is_among name fewer ≡ false)
    → are_new more fewer ≡ true)
new_in_parts [] more known new =
    (refl, (λ fewer less. new_to_fewer more known fewer (λ name absent. less name refl absent) new))
new_in_parts (first ∷ names) more known new =
    let parts = and_parts (not (is_among first known)) (are_new (names ++ more) (first ∷ known)) new in
    let rest = new_in_parts names more (first ∷ known) parts.1 in (
      and_from (not (is_among first known)) (are_new names (first ∷ known)) parts.0 rest.0,
      λ fewer less.
          rest.1 fewer
          (λ name absent unknown.
          let both = or_parts (bytes_eq name first) (is_among name known) unknown in
          less name (or_from (bytes_eq name first) (is_among name names) both.0 absent) both.1),
    )

-- what is no EXTERNAL name is none that code refers to
none_used :
    (numbers : List (Option ℕ)) (externals : List ExternalName) (name : List ℕ)
    → is_among name (names_of_externals externals) ≡ false
    → is_among name (used_names numbers externals) ≡ false
none_used [] externals name absent = refl
none_used (None ∷ numbers) [] name absent = refl
none_used (Some number ∷ numbers) [] name absent = refl
none_used (None ∷ numbers) (external ∷ externals) name absent =
    none_used numbers externals name
    (or_parts (bytes_eq name external.name) (is_among name (names_of_externals externals)) absent).1
none_used (Some number ∷ numbers) (external ∷ externals) name absent =
    let both = or_parts (bytes_eq name external.name) (is_among name (names_of_externals externals)) absent in
    or_from (bytes_eq name external.name) (is_among name (used_names numbers externals)) both.0
    (none_used numbers externals name both.1)

-- The PUBLIC names of tree code are new to the EXTERNAL ones that are listed.
pub publics_are_new :
    (tree : TreeModule) (numbers : List (Option ℕ)) (names : Linkage)
    → IsLinkable tree
    → names.externals ≡ used_names numbers tree.externals.items
    → names.publics ≡ []
    → are_new (names_of_publics tree.publics.items) (names_of names) ≡ true
publics_are_new tree numbers names linkable are none =
    (new_in_parts (names_of_externals tree.externals.items) (names_of_publics tree.publics.items) []
    linkable.different).1
    (names_of names)
    (λ name absent _.
    ap (λ (publics : List Public). is_among name (names.externals ++ map (λ (p : Public). p.name) publics)) none
    ∙ ap (is_among name) (append-nil names.externals ∙ are)
    ∙ none_used numbers tree.externals.items name absent)

pub externals_are_new :
    (tree : TreeModule) → IsLinkable tree → are_new (names_of_externals tree.externals.items) [] ≡ true
externals_are_new tree linkable =
    (new_in_parts (names_of_externals tree.externals.items) (names_of_publics tree.publics.items) []
    linkable.different).0
