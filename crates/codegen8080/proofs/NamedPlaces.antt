-- The PUBLIC names of procedures stand for the places where they begin.
use Rattle.codegen8080.proofs.Prelude.{◌≡◌, inl, inr, ℕ, zero, suc, ◌+◌, ◌∙◌, true, not, List, [], ◌∷◌, Option, Some, None, IfSome, slice_get, same_Some, none-some, refl, sym, ap, subst, arith, and_parts, Public, is_among, are_new, Assembled, PublicName, PublicPlace, Object, Procedure, TreeModule, TreeProcedure, entry, place_of_known, ArePublicsIn, IsPublicIn, IsLinkable, names_of_externals, names_of_publics}
use Rattle.std.specs.List.{AllByRecursion}
use Rattle.std.specs.Str.{bytes_eq}
use Rattle.std.proofs.lemmas.Slice.Eq.{bytes_eq-Decides}
use Rattle.treecode.specs.declared.place.Place.TheVariants as places
use Rattle.steps8080.proofs.{Numbered.{either_true, not_both}}
use Rattle.codegen8080.specs.Marks.{IsNamedAt, NamesBegin, StandFor}
use Rattle.codegen8080.specs.internal.Marks.{places_from}
use Rattle.codegen8080.proofs.NewNames.{new_in_parts}

-- no name is this one
abbrev Apart : (name : List ℕ) → List PublicName → Type 0
Apart name names = AllByRecursion (λ (one : PublicName). one.name ≡ name → ⊥) names

-- a name that is new is none of those that are known
new_apart : (name : List ℕ) (names : List PublicName) (known : List (List ℕ))
    → are_new (names_of_publics names) known ≡ true → is_among name known ≡ true → Apart name names
new_apart name [] known new among = tt
new_apart name (first ∷ others) known new among =
    let parts = and_parts (not (is_among first.name known)) (are_new (names_of_publics others) (first.name ∷ known)) new in
    let later : is_among name (first.name ∷ known) ≡ true =
    either_true (bytes_eq name first.name) (is_among name known) (inr among) in (
      λ same. not_both (not (is_among first.name known)) parts.0
          (ap not (ap (λ (one : List ℕ). is_among one known) same ∙ among)),
      new_apart name others (first.name ∷ known) parts.1 later,
    )

-- the name of a public
named_so : (labels : List (Option ℕ)) (bytes : Assembled) (name : List ℕ) (place : PublicPlace) (public : Public)
    → IsPublicIn labels bytes name place public → public.name ≡ name
named_so labels bytes name (Object (places.Number number)) public is = ap (λ (one : Public). one.name) is
named_so labels bytes name (Object (places.Code offset)) public is = ap (λ (one : Public). one.name) is
named_so labels bytes name (Object (places.Data offset)) public is = ap (λ (one : Public). one.name) is
named_so labels bytes name (Object (places.External offset index)) public is = absurd is
named_so labels bytes name (Procedure number) public is = ap (λ (one : Public). one.name) is

module _ (labels : List (Option ℕ)) (bytes : Assembled) where
  -- publics of other names
  stand_apart : (names : List PublicName) (publics : List Public) (name : List ℕ) (place : ℕ)
      → ArePublicsIn labels bytes names publics → Apart name names → StandFor publics name place
  stand_apart [] [] name place are apart = tt
  stand_apart [] (public ∷ publics) name place are apart = absurd are
  stand_apart (first ∷ names) [] name place are apart = absurd are
  stand_apart (first ∷ names) (public ∷ publics) name place are apart = (
    λ same. absurd (apart.0 (sym (named_so labels bytes first.name first.place public are.0) ∙ same)),
    stand_apart names publics name place are.1 apart.1,
  )

  -- one more public in front, of another name
  one_more : (public : Public) (publics : List Public) (list : List ℕ) (name : List ℕ) (place : PublicPlace)
      → (public.name ≡ name → ⊥) → IsNamedAt publics list name place → IsNamedAt (public ∷ publics) list name place
  one_more public publics list name (Object place) other is = tt
  one_more public publics list name (Procedure number) other is = by (slice_get list number) is
    where
      by : (found : Option ℕ) → IfSome found (StandFor publics name) → IfSome found (StandFor (public ∷ publics) name)
      by None is = tt
      by (Some place) is = (λ same. absurd (other same), is)

  more_in_front : (public : Public) (publics : List Public) (list : List ℕ) (names : List PublicName)
      → Apart public.name names
      → AllByRecursion (λ (name : PublicName). IsNamedAt publics list name.name name.place) names
      → AllByRecursion (λ (name : PublicName). IsNamedAt (public ∷ publics) list name.name name.place) names
  more_in_front public publics list [] apart are = tt
  more_in_front public publics list (name ∷ names) apart are = (
    one_more public publics list name.name name.place (λ same. apart.0 (sym same)) are.0,
    more_in_front public publics list names apart.1 are.1,
  )

  -- the places of procedures, by their numbers
  place_at : (number index place : ℕ) (procedures : List TreeProcedure)
      → slice_get (places_from bytes labels number procedures) index ≡ Some place
      → place_of_known bytes (entry labels (number + index)) ≡ place
  place_at number index place [] there = absurd (none-some place there)
  place_at number zero place (procedure ∷ procedures) there =
      let same : number + 0 ≡ number = omega arith in
      ap (λ (n : ℕ). place_of_known bytes (entry labels n)) same
      ∙ same_Some (place_of_known bytes (entry labels number)) place there
  place_at number (suc index) place (procedure ∷ procedures) there =
      let same : number + suc index ≡ suc number + index = omega arith in
      ap (λ (n : ℕ). place_of_known bytes (entry labels n)) same
      ∙ place_at (suc number) index place procedures there

  -- the first public, among others of other names
  first_named : (public : Public) (publics : List Public) (procedures : List TreeProcedure) (name : List ℕ)
      (place : PublicPlace)
      → IsPublicIn labels bytes name place public
      → ((at : ℕ) → StandFor publics name at)
      → IsNamedAt (public ∷ publics) (places_from bytes labels 0 procedures) name place
  first_named public publics procedures name (Object place) is others = tt
  first_named public publics procedures name (Procedure number) is others =
      by (slice_get (places_from bytes labels 0 procedures) number) refl
    where
      by : (found : Option ℕ) → slice_get (places_from bytes labels 0 procedures) number ≡ found
          → IfSome found (StandFor (public ∷ publics) name)
      by None there = tt
      by (Some at) there =
          let zero_more : number ≡ 0 + number = omega arith in (
            λ same. ap (λ (one : Public). one.offset) is
                ∙ ap (λ (n : ℕ). place_of_known bytes (entry labels n)) zero_more
                ∙ place_at 0 number at procedures there,
            others at,
          )

  names_begin : (procedures : List TreeProcedure) (names : List PublicName) (publics : List Public)
      (known : List (List ℕ))
      → are_new (names_of_publics names) known ≡ true
      → ArePublicsIn labels bytes names publics
      → AllByRecursion
      (λ (name : PublicName). IsNamedAt publics (places_from bytes labels 0 procedures) name.name name.place) names
  names_begin procedures [] publics known new are = tt
  names_begin procedures (first ∷ names) [] known new are = absurd are
  names_begin procedures (first ∷ names) (public ∷ publics) known new are =
      let parts = and_parts (not (is_among first.name known)) (are_new (names_of_publics names) (first.name ∷ known)) new in
      let own : is_among first.name (first.name ∷ known) ≡ true =
      either_true (bytes_eq first.name first.name) (is_among first.name known) (inl ((bytes_eq-Decides first.name first.name).1 refl)) in
      let apart : Apart first.name names = new_apart first.name names (first.name ∷ known) parts.1 own in
      let same : first.name ≡ public.name = sym (named_so labels bytes first.name first.place public are.0) in (
        first_named public publics procedures first.name first.place are.0
            (λ at. stand_apart names publics first.name at are.1 apart),
        more_in_front public publics (places_from bytes labels 0 procedures) names
            (subst (λ (name : List ℕ). Apart name names) same apart)
            (names_begin procedures names publics (first.name ∷ known) parts.1 are.1),
      )

pub names_of_tree :
    (tree : TreeModule) (labels : List (Option ℕ)) (bytes : Assembled) (publics given : List Public) (list : List ℕ)
    → IsLinkable tree
    → ArePublicsIn labels bytes tree.publics.items publics
    → given ≡ publics
    → list ≡ places_from bytes labels 0 tree.procedures.items
    → NamesBegin given list tree.publics.items
names_of_tree tree labels bytes publics given list linkable are same list_is =
    subst (λ (all : List Public). NamesBegin all list tree.publics.items) (sym same)
    (subst (λ (all : List ℕ). NamesBegin publics all tree.publics.items) (sym list_is)
    (names_begin labels bytes tree.procedures.items tree.publics.items publics []
    ((new_in_parts (names_of_externals tree.externals.items) (names_of_publics tree.publics.items) []
    linkable.different).1 [] (λ name absent unknown. refl))
    are))
