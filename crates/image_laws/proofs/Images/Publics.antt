-- Where the publics of the modules of a merge lie.
use Rattle.image_laws.proofs.Prelude.{◌≡◌, ℕ, ◌+◌, ◌%◌, true, false, cond, not, List, [], ◌∷◌, All, map, Some, slice_get, Option, option_and_then, refl, ap, sym, subst, ◌∙◌, arith, AllByRecursion, bytes_eq, and_parts, or_parts, All-from_recursion, bytes_eq-Decides, External, Linked, all_publics, displacement_in, linked_modules, public_moved, public_named, publics_moved, Plan, base_of, public_names, Public, ObjectModule, are_new, is_among, public_name, merge_is, names_from, none_repeated, PublicLies, PublicsLie, address_of_public, address_of_target, piece_base, all_halves, not-true}

among_fewer :
    (name : List ℕ) (known : List (List ℕ)) (publics : List Public)
    → AllByRecursion (λ (public : Public). is_among public.name (name ∷ known) ≡ false) publics
    → AllByRecursion (λ (public : Public). is_among public.name known ≡ false) publics
among_fewer name known [] all = tt
among_fewer name known (public ∷ others) all = (
  (or_parts (bytes_eq public.name name) (is_among public.name known) all.0).1,
  among_fewer name known others all.1,
)

-- names that are new are not among those that are known
new_names :
    (known : List (List ℕ)) (publics : List Public) → are_new (map public_name publics) known ≡ true
    → AllByRecursion (λ (public : Public). is_among public.name known ≡ false) publics
new_names known [] h = tt
new_names known (public ∷ others) h =
    let cut =
    and_parts (not (is_among public.name known))
    (are_new (map public_name others) (public.name ∷ known)) h in (
      not-true (is_among public.name known) cut.0,
      among_fewer public.name known others (new_names (public.name ∷ known) others cut.1),
    )

-- each of publics with different names is the one that its name finds
abbrev FindsItself : List Public → Public → Type 0
FindsItself publics public = public_named publics public.name ≡ Some public

name_differs :
    (first : Public) (known : List (List ℕ)) (others : List Public)
    → AllByRecursion (λ (other : Public). is_among other.name (first.name ∷ known) ≡ false) others
    → AllByRecursion (λ (other : Public). bytes_eq other.name first.name ≡ false) others
name_differs first known [] all = tt
name_differs first known (other ∷ others) all = (
  (or_parts (bytes_eq other.name first.name) (is_among other.name known) all.0).0,
  name_differs first known others all.1,
)

found_after :
    (first : Public) (publics others : List Public)
    → AllByRecursion (λ (other : Public). bytes_eq other.name first.name ≡ false) others
    → AllByRecursion (FindsItself publics) others
    → AllByRecursion (FindsItself (first ∷ publics)) others
found_after first publics [] differ all = tt
found_after first publics (other ∷ others) differ all = (
  ap (λ b. cond b (Some first) (public_named publics other.name)) differ.0 ∙ all.0,
  found_after first publics others differ.1 all.1,
)

each_found :
    (known : List (List ℕ)) (publics : List Public) → are_new (map public_name publics) known ≡ true
    → AllByRecursion (FindsItself publics) publics
each_found known [] h = tt
each_found known (first ∷ others) h =
    let cut =
    and_parts (not (is_among first.name known)) (are_new (map public_name others) (first.name ∷ known)) h in (
      ap (λ b. cond b (Some first) (public_named others first.name))
          ((bytes_eq-Decides first.name first.name).1 refl),
      found_after first others others
          (name_differs first known others (new_names (first.name ∷ known) others cut.1))
          (each_found (first.name ∷ known) others cut.1),
    )

module _ (plan : Plan) (merged : ObjectModule) where
  public_lies :
      (linked : Linked) (public : Public) → FindsItself merged.publics (public_moved linked public)
      → PublicLies plan merged linked public
  public_lies linked public found =
      let same :
      (((public.offset + displacement_in linked public.segment) % 65536) + base_of plan public.segment)
      % 65536
      ≡ (piece_base plan linked.start public.segment + public.offset) % 65536 = omega arith in
      record { named = found; address = ap (address_of_public plan) found ∙ same }

  module_lies :
      (linked : Linked) (publics : List Public)
      → AllByRecursion (FindsItself merged.publics) (map (public_moved linked) publics)
      → AllByRecursion (PublicLies plan merged linked) publics
  module_lies linked [] all = tt
  module_lies linked (public ∷ others) all =
      (public_lies linked public all.0, module_lies linked others all.1)

  modules_lie :
      (linked : List Linked) → AllByRecursion (FindsItself merged.publics) (all_publics linked)
      → AllByRecursion (λ (one : Linked). All (PublicLies plan merged one) (one.object).publics) linked
  modules_lie [] all = tt
  modules_lie (one ∷ others) all =
      let cut = all_halves (FindsItself merged.publics) (publics_moved one) (all_publics others) all in (
        All-from_recursion (PublicLies plan merged one) (one.object).publics
            (module_lies one (one.object).publics cut.0),
        modules_lie others cut.1,
      )

pub publics_lie : PublicsLie
publics_lie objects merged plan made =
    let merge = merge_is objects merged made in
    let linked : List Linked = linked_modules objects in
    let same : merged.publics ≡ all_publics linked =
    ap (λ (object : ObjectModule). object.publics) merge.said in
    let new : are_new (map public_name (all_publics linked)) [] ≡ true =
    ap (λ names. are_new names []) (names_from 0 0 objects)
    ∙ none_repeated [] (public_names objects) merge.repeated in
    All-from_recursion (λ (one : Linked). All (PublicLies plan merged one) (one.object).publics) linked
    (modules_lie plan merged linked
    (subst (λ publics. AllByRecursion (FindsItself publics) (all_publics linked)) (sym same)
    (each_found [] (all_publics linked) new)))

-- so an external name of a module lies where the public of that name does, which another module has
pub external_lies :
    (plan : Plan) (merged : ObjectModule) (linked other : Linked) (number : ℕ) (public : Public)
    → PublicLies plan merged other public
    → slice_get (linked.object).externals number ≡ Some public.name
    → address_of_target plan merged linked (External number)
    ≡ (piece_base plan other.start public.segment + public.offset) % 65536
external_lies plan merged linked other number public lies h =
    ap (λ (name : Option (List ℕ)).
    address_of_public plan (option_and_then (public_named merged.publics) name)) h
    ∙ lies.address
