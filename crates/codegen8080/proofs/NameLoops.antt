-- Names that are listed one by one.
use Rattle.codegen8080.proofs.Prelude.{◌≡◌, ℕ, zero, suc, ◌+◌, ◌-◌, ◌<◌, ◌≤◌, List, [], ◌∷◌, ◌++◌, Option, Some, None, length, take, drop, slice_get, set, length-set, IfNone, IfSome, refl, sym, ap, subst, ◌∙◌, arith, append_assoc, append-nil, none-some, map, true, false, Public, are_new, is_among, Assembled, ExternalName, Object, Procedure, PublicName, PublicPlace, AreDifferent, IsNumbering, entries, entry, used_names, AreListed, ArePublicsIn, FollowPlaces, HavePlaces, IsPublicIn, used_name, IsPublicHere, Linkage, names_of, names_of_externals, names_of_publics, same_Some}
use Rattle.std.specs.List.{AllByRecursion}
use Rattle.treecode.specs.declared.place.Place.TheVariants as places
use Rattle.codegen8080.proofs.ModuleParts.{take_all}
use Rattle.codegen8080.proofs.NewNames.{first_is_new, others_are_new, others_are_newer, public_names}

-- a table agrees with another but for numbers that remain
abbrev KeepPlaces : (left : List (Option ℕ)) → (places final : List ℕ) → Type 0
KeepPlaces left places final =
    (number : ℕ)
    → ((name : ℕ) → entry left name ≡ Some number → ⊥)
    → slice_get final number ≡ slice_get places number

-- Places are being set by numbers; some numbers remain.
pub record IsPlacing
    (count : ℕ) (numbers : List (Option ℕ)) (places : List ℕ) (place : ℕ)
    (left : List (Option ℕ)) : Type 0 where
  pub few : count < 65536
  pub below : (name number : ℕ) → entry left name ≡ Some number → number < count
  pub different : AreDifferent left
  pub counted : place + entries left ≡ count
  pub long : length places ≡ count
  pub places_are : (final : List ℕ)
      → KeepPlaces left places final
      → FollowPlaces final place left
      → FollowPlaces final 0 numbers

pub placing_begins : (count : ℕ) (numbers : List (Option ℕ)) (places : List ℕ)
    → count < 65536
    → IsNumbering count numbers
    → length places ≡ count
    → IsPlacing count numbers places 0 numbers
placing_begins count numbers places few numbering long = record {
  few = few;
  below = numbering.below;
  different = numbering.different;
  counted = let counted : entries numbers ≡ count = numbering.counted in omega (arith, counted);
  long = long;
  places_are = λ final keep follow. follow;
}

-- there is room for the number that is next
pub placing_known : (count : ℕ) (numbers : List (Option ℕ)) (places : List ℕ) (place : ℕ)
    (left : List (Option ℕ)) (number : Option ℕ)
    → slice_get left 0 ≡ Some number
    → IsPlacing count numbers places place left
    → IfSome number (λ one. one < length places)
placing_known count numbers places place left None at placing = tt
placing_known count numbers places place [] (Some number) at placing = absurd (none-some (Some number) at)
placing_known count numbers places place (first ∷ others) (Some number) at placing =
    let low : number < count = placing.below 0 number (same_Some first (Some number) at) in
    let long : length places ≡ count = placing.long in
    omega (arith, low, long)

pub placing_more : (count : ℕ) (numbers : List (Option ℕ)) (places : List ℕ) (place : ℕ)
    (left : List (Option ℕ)) (number : Option ℕ)
    → slice_get left 0 ≡ Some number
    → IsPlacing count numbers places place left
    → IfSome number (λ one. place + 1 < 65536)
placing_more count numbers places place left None at placing = tt
placing_more count numbers places place [] (Some number) at placing = absurd (none-some (Some number) at)
placing_more count numbers places place (first ∷ others) (Some number) at placing =
    let counted : place + entries (Some number ∷ others) ≡ count =
    subst (λ one. place + entries (one ∷ others) ≡ count)
    (same_Some first (Some number) at) placing.counted in
    let few : count < 65536 = placing.few in
    omega (arith, counted, few)

-- entries of a table that is set at one index
set_here : (places : List ℕ) (number place : ℕ) → number < length places
    → slice_get (set places number place) number ≡ Some place
set_here [] number place low = absurd (omega (arith, low))
set_here (first ∷ others) zero place low = refl
set_here (first ∷ others) (suc number) place low = set_here others number place (omega (arith, low))

set_elsewhere : (places : List ℕ) (number place other : ℕ) → (other ≡ number → ⊥)
    → slice_get (set places number place) other ≡ slice_get places other
set_elsewhere [] number place other apart = refl
set_elsewhere (first ∷ others) zero place zero apart = absurd (apart refl)
set_elsewhere (first ∷ others) zero place (suc other) apart = refl
set_elsewhere (first ∷ others) (suc number) place zero apart = refl
set_elsewhere (first ∷ others) (suc number) place (suc other) apart =
    set_elsewhere others number place other (λ same. apart (ap suc same))

-- the next number is none
none_placed : (count : ℕ) (numbers : List (Option ℕ)) (places : List ℕ) (place : ℕ) (others : List (Option ℕ))
    → IsPlacing count numbers places place (None ∷ others)
    → IsPlacing count numbers places place others
none_placed count numbers places place others placing = record {
  few = placing.few;
  below = λ name number given. placing.below (suc name) number given;
  different = λ name other number given also.
      let same : suc name ≡ suc other = placing.different (suc name) (suc other) number given also in
      omega (arith, same);
  counted = placing.counted;
  long = placing.long;
  places_are = λ final keep follow.
      placing.places_are final (λ number none. keep number (λ name given. none (suc name) given))
      (place, record { follows = refl }, follow);
}

-- its place is set
one_placed : (count : ℕ) (numbers : List (Option ℕ)) (places : List ℕ) (place number : ℕ)
    (others : List (Option ℕ))
    → IsPlacing count numbers places place (Some number ∷ others)
    → IsPlacing count numbers (set places number place) (place + 1) others
one_placed count numbers places place number others placing = record {
  few = placing.few;
  below = λ name found given. placing.below (suc name) found given;
  different = λ name other found given also.
      let same : suc name ≡ suc other = placing.different (suc name) (suc other) found given also in
      omega (arith, same);
  counted = omega (arith, counted);
  long = length-set places number place ∙ placing.long;
  places_are = λ final keep follow.
      placing.places_are final
      (λ other none.
      keep other (λ name given. none (suc name) given)
      ∙ set_elsewhere places number place other (λ same. none 0 (ap (λ one. Some one) (sym same)))) (
        place + 1,
        record { follows = (keep number absent ∙ set_here places number place low, refl, omega (arith, counted, few)) },
        follow,
      );
}
  where
    counted : place + suc (entries others) ≡ count
    counted = placing.counted

    few : count < 65536
    few = placing.few

    low : number < length places
    low =
        let below : number < count = placing.below 0 number refl in
        let long : length places ≡ count = placing.long in omega (arith, below, long)

    absent : (name : ℕ) → entry others name ≡ Some number → ⊥
    absent name given =
        let same : 0 ≡ suc name = placing.different 0 (suc name) number refl given in omega (arith, same)

one_step : (count : ℕ) (numbers : List (Option ℕ)) (places after : List ℕ)
    (place next : ℕ) (number : Option ℕ)
    (others : List (Option ℕ))
    → IsPlacing count numbers places place (number ∷ others)
    → IfNone number (after ≡ places)
    → IfNone number (next ≡ place)
    → IfSome number (λ one. after ≡ set places one place)
    → IfSome number (λ one. next ≡ place + 1)
    → IsPlacing count numbers after next others
one_step count numbers places after place next None others placing kept same set_is more =
    subst (λ table. IsPlacing count numbers table next others) (sym kept)
    (subst (λ at. IsPlacing count numbers places at others) (sym same)
    (none_placed count numbers places place others placing))
one_step count numbers places after place next (Some number) others placing kept same set_is more =
    subst (λ table. IsPlacing count numbers table next others) (sym set_is)
    (subst (λ at. IsPlacing count numbers (set places number place) at others) (sym more)
    (one_placed count numbers places place number others placing))

pub placing_step : (count : ℕ) (numbers : List (Option ℕ)) (places after : List ℕ) (place next : ℕ)
    (left : List (Option ℕ)) (number : Option ℕ)
    → slice_get left 0 ≡ Some number
    → IsPlacing count numbers places place left
    → IfNone number (after ≡ places)
    → IfNone number (next ≡ place)
    → IfSome number (λ one. after ≡ set places one place)
    → IfSome number (λ one. next ≡ place + 1)
    → IsPlacing count numbers after next (take (length left - 1) (drop 1 left))
placing_step count numbers places after place next [] number at placing kept same set_is more =
    absurd (none-some number at)
placing_step count numbers places after place next (first ∷ others) number at placing kept same set_is more =
    subst (IsPlacing count numbers after next)
    (sym (take_all others (length (first ∷ others) - 1) (omega arith)))
    (one_step count numbers places after place next number others
    (subst (λ one. IsPlacing count numbers places place (one ∷ others)) (same_Some first number at) placing)
    kept same set_is more)

pub placing_ends : (count : ℕ) (numbers : List (Option ℕ)) (places : List ℕ) (place : ℕ)
    (left : List (Option ℕ))
    → length left < 1
    → IsPlacing count numbers places place left
    → FollowPlaces places 0 numbers
placing_ends count numbers places place [] none placing = placing.places_are places (λ number absent. refl) tt
placing_ends count numbers places place (first ∷ others) none placing = absurd (omega (arith, none))

-- the places of the names that a table has an entry for
pub places_of_names : (places : List ℕ) (place : ℕ) (numbers : List (Option ℕ))
    (externals : List ExternalName)
    → length numbers ≤ length externals
    → FollowPlaces places place numbers
    → HavePlaces places place numbers externals
places_of_names places place [] externals within follow = tt
places_of_names places place (number ∷ numbers) [] within follow = absurd (omega (arith, within))
places_of_names places place (number ∷ numbers) (external ∷ externals) within follow =
    (follow.0, follow.1, places_of_names places follow.0 numbers externals (omega (arith, within)) follow.2)

used_first :
    (number : Option ℕ) (numbers : List (Option ℕ)) (external : ExternalName) (externals : List ExternalName)
    → used_names (number ∷ numbers) (external ∷ externals)
    ≡ used_name number external ++ used_names numbers externals
used_first None numbers external externals = refl
used_first (Some number) numbers external externals = refl

-- Names are being listed; some numbers and no fewer names remain.
pub record IsListingNames
    (externals : List ExternalName) (numbers : List (Option ℕ)) (rest : List ExternalName)
    (left : List (Option ℕ)) (names : Linkage) : Type 0 where
  pub names_are : names.externals ++ used_names left rest ≡ used_names numbers externals
  pub within : length left ≤ length rest
  pub publics : names.publics ≡ []
  pub new : are_new (names_of_externals rest) names.externals ≡ true

pub listing_names_begins : (externals : List ExternalName) (numbers : List (Option ℕ)) (names : Linkage)
    → length numbers ≤ length externals
    → are_new (names_of_externals externals) [] ≡ true
    → names ≡ record { externals = []; publics = [] }
    → IsListingNames externals numbers externals numbers names
listing_names_begins externals numbers names within new none = record {
  names_are = ap (λ (linkage : Linkage). linkage.externals ++ used_names numbers externals) none;
  within = within;
  publics = ap (λ (linkage : Linkage). linkage.publics) none;
  new = ap (λ (linkage : Linkage). are_new (names_of_externals externals) linkage.externals) none ∙ new;
}

-- the next name is new, and the others are after it
pub next_name_is_new :
    (externals : List ExternalName) (numbers : List (Option ℕ)) (rest : List ExternalName)
    (left : List (Option ℕ)) (names : Linkage) (external : ExternalName)
    → slice_get rest 0 ≡ Some external
    → IsListingNames externals numbers rest left names
    → is_among external.name (names_of names) ≡ false
next_name_is_new externals numbers [] left names external at listing = absurd (none-some external at)
next_name_is_new externals numbers (first ∷ rest) left names external at listing =
    let here : external ≡ first = same_Some external first (sym at) in
    ap (λ (one : ExternalName). is_among one.name (names_of names)) here
    ∙ ap
    (λ (publics : List Public).
    is_among first.name (names.externals ++ map (λ (public : Public). public.name) publics))
    listing.publics
    ∙ ap (is_among first.name) (append-nil names.externals)
    ∙ first_is_new first.name (names_of_externals rest) names.externals listing.new

new_after_used :
    (number : Option ℕ) (external : ExternalName) (rest : List ExternalName) (known : List (List ℕ))
    → are_new (names_of_externals (external ∷ rest)) known ≡ true
    → are_new (names_of_externals rest) (known ++ used_name number external) ≡ true
new_after_used None external rest known new =
    ap (are_new (names_of_externals rest)) (append-nil known)
    ∙ others_are_new external.name (names_of_externals rest) known new
new_after_used (Some number) external rest known new =
    others_are_newer external.name (names_of_externals rest) known new

pub listing_names_step :
    (externals : List ExternalName) (numbers : List (Option ℕ)) (rest : List ExternalName)
    (left : List (Option ℕ)) (names after : Linkage) (number : Option ℕ) (external : ExternalName)
    → slice_get left 0 ≡ Some number
    → slice_get rest 0 ≡ Some external
    → IsListingNames externals numbers rest left names
    → after.publics ≡ []
    → after.externals ≡ names.externals ++ used_name number external
    → IsListingNames externals numbers (take (length rest - 1) (drop 1 rest))
    (take (length left - 1) (drop 1 left))
    after
listing_names_step externals numbers rest [] names after number external left_is rest_is
    listing publics more =
    absurd (none-some number left_is)
listing_names_step externals numbers [] (known ∷ left) names after number external left_is
    rest_is listing publics
    more = absurd (none-some external rest_is)
listing_names_step externals numbers (first ∷ rest) (known ∷ left) names after number external left_is rest_is
    listing publics more =
    let here : number ≡ known = same_Some number known (sym left_is) in
    let there : external ≡ first = same_Some external first (sym rest_is) in
    let front : used_name number external ≡ used_name known first =
    ap (λ one. used_name one external) here ∙ ap (used_name known) there in
    let within : suc (length left) ≤ suc (length rest) = listing.within in
    let stepped : IsListingNames externals numbers rest left after = record {
      names_are =
          ap (λ list. list ++ used_names left rest) (more ∙ ap (λ list. names.externals ++ list) front)
          ∙ append_assoc names.externals (used_name known first) (used_names left rest)
          ∙ ap (λ list. names.externals ++ list) (sym (used_first known left first rest))
          ∙ listing.names_are;
      within = omega (arith, within);
      publics = publics;
      new = ap (are_new (names_of_externals rest)) (more ∙ ap (λ list. names.externals ++ list) front)
          ∙ new_after_used known first rest names.externals listing.new;
    } in
    subst (λ list. IsListingNames externals numbers list (take (length (known ∷ left) - 1) left) after)
    (sym (take_all rest (length (first ∷ rest) - 1) (omega arith)))
    (subst (λ list. IsListingNames externals numbers rest list after)
    (sym (take_all left (length (known ∷ left) - 1) (omega arith))) stepped)

pub listing_names_ends :
    (externals : List ExternalName) (numbers : List (Option ℕ)) (rest : List ExternalName)
    (left : List (Option ℕ)) (names : Linkage)
    → length left < 1
    → IsListingNames externals numbers rest left names
    → names.externals ≡ used_names numbers externals
listing_names_ends externals numbers rest [] names none listing =
    sym (append-nil names.externals) ∙ listing.names_are
listing_names_ends externals numbers rest (known ∷ left) names none listing = absurd (omega (arith, none))

-- the names are listed at these places
pub names_listed :
    (externals : List ExternalName) (table numbers : List (Option ℕ)) (places : List ℕ) (names : Linkage)
    → numbers ≡ table
    → length table ≤ length externals
    → FollowPlaces places 0 numbers
    → names.externals ≡ used_names numbers externals
    → names.publics ≡ []
    → AreListed externals table places names
names_listed externals table numbers places names same within follow listed publics = record {
  names_are = listed ∙ ap (λ one. used_names one externals) same;
  places_are =
      places_of_names places 0 table externals within (subst (λ one. FollowPlaces places 0 one) same follow);
  publics = publics;
}

-- PUBLIC names are being added; some remain.
pub record IsAddingPublics
    (labels : List (Option ℕ)) (bytes : Assembled) (publics : List PublicName) (before now : Linkage)
    (left : List PublicName) : Type 0 where
  pub externals : now.externals ≡ before.externals
  pub left_is : (more : List Public)
      → ArePublicsIn labels bytes left more
      → ArePublicsIn labels bytes publics (now.publics ++ more)
  pub new : are_new (names_of_publics left) (names_of now) ≡ true
  pub here : AllByRecursion IsPublicHere left

pub publics_begin :
    (labels : List (Option ℕ)) (bytes : Assembled) (publics : List PublicName) (before : Linkage)
    → before.publics ≡ []
    → are_new (names_of_publics publics) (names_of before) ≡ true
    → AllByRecursion IsPublicHere publics
    → IsAddingPublics labels bytes publics before before publics
publics_begin labels bytes publics before none new here = record {
  externals = refl;
  left_is =
      λ more are. subst (λ (list : List Public). ArePublicsIn labels bytes publics (list ++ more)) (sym none)
      are;
  new = new;
  here = here;
}

-- the next one is new and has its place here
pub next_public_is_new :
    (labels : List (Option ℕ)) (bytes : Assembled) (publics : List PublicName) (before now : Linkage)
    (left : List PublicName) (name : PublicName)
    → slice_get left 0 ≡ Some name
    → IsAddingPublics labels bytes publics before now left
    → is_among name.name (names_of now) ≡ false
next_public_is_new labels bytes publics before now [] name at adding = absurd (none-some name at)
next_public_is_new labels bytes publics before now (first ∷ left) name at adding =
    ap (λ (one : PublicName). is_among one.name (names_of now)) (same_Some name first (sym at))
    ∙ first_is_new first.name (names_of_publics left) (names_of now) adding.new

pub next_public_is_here :
    (labels : List (Option ℕ)) (bytes : Assembled) (publics : List PublicName) (before now : Linkage)
    (left : List PublicName) (name : PublicName)
    → slice_get left 0 ≡ Some name
    → IsAddingPublics labels bytes publics before now left
    → IsPublicHere name
next_public_is_here labels bytes publics before now [] name at adding = absurd (none-some name at)
next_public_is_here labels bytes publics before now (first ∷ left) name at adding =
    subst IsPublicHere (same_Some first name at) adding.here.0

-- a public has the name of its PUBLIC name
pub public_is_named :
    (labels : List (Option ℕ)) (bytes : Assembled) (name : List ℕ) (place : PublicPlace) (public : Public)
    → IsPublicIn labels bytes name place public
    → public.name ≡ name
public_is_named labels bytes name (Object (places.Number number)) public is = ap (λ (one : Public). one.name) is
public_is_named labels bytes name (Object (places.Code offset)) public is = ap (λ (one : Public). one.name) is
public_is_named labels bytes name (Object (places.Data offset)) public is = ap (λ (one : Public). one.name) is
public_is_named labels bytes name (Object (places.External offset index)) public is = absurd is
public_is_named labels bytes name (Procedure number) public is = ap (λ (one : Public). one.name) is

-- the names after one more public
names_after :
    (now next : Linkage) (public : Public)
    → next.externals ≡ now.externals
    → next.publics ≡ now.publics ++ public ∷ []
    → names_of next ≡ names_of now ++ public.name ∷ []
names_after now next public externals more =
    ap (λ (list : List (List ℕ)). names_of (record { externals = list; publics = next.publics })) externals
    ∙ ap (λ (list : List Public). names_of (record { externals = now.externals; publics = list })) more
    ∙ public_names now.externals now.publics public

pub publics_step :
    (labels : List (Option ℕ)) (bytes : Assembled) (publics : List PublicName) (before now next : Linkage)
    (left : List PublicName) (name : PublicName) (public : Public)
    → slice_get left 0 ≡ Some name
    → IsAddingPublics labels bytes publics before now left
    → IsPublicIn labels bytes name.name name.place public
    → next.externals ≡ now.externals
    → next.publics ≡ now.publics ++ public ∷ []
    → IsAddingPublics labels bytes publics before next (take (length left - 1) (drop 1 left))
publics_step labels bytes publics before now next [] name public at adding is externals more =
    absurd (none-some name at)
publics_step labels bytes publics before now next (first ∷ left) name public at adding is externals more =
    let here : name ≡ first = same_Some name first (sym at) in
    let is_here : IsPublicIn labels bytes first.name first.place public =
    subst (λ (one : PublicName). IsPublicIn labels bytes one.name one.place public) here is in
    let stepped : IsAddingPublics labels bytes publics before next left = record {
      externals = externals ∙ adding.externals;
      left_is = λ others are.
          subst (ArePublicsIn labels bytes publics)
          (sym (append_assoc now.publics (public ∷ []) others)
          ∙ ap (λ (list : List Public). list ++ others) (sym more))
          (adding.left_is (public ∷ others) (is_here, are));
      new = ap (are_new (names_of_publics left))
          (names_after now next public externals more
          ∙ ap (λ (list : List ℕ). names_of now ++ list ∷ [])
          (public_is_named labels bytes first.name first.place public is_here))
          ∙ others_are_newer first.name (names_of_publics left) (names_of now) adding.new;
      here = adding.here.1;
    } in
    subst (IsAddingPublics labels bytes publics before next)
    (sym (take_all left (length (first ∷ left) - 1) (omega arith))) stepped

pub publics_end :
    (labels : List (Option ℕ)) (bytes : Assembled) (publics : List PublicName) (before now : Linkage)
    (left : List PublicName)
    → length left < 1
    → IsAddingPublics labels bytes publics before now left
    → ArePublicsIn labels bytes publics now.publics
publics_end labels bytes publics before now [] none adding =
    subst (ArePublicsIn labels bytes publics) (append-nil now.publics) (adding.left_is [] tt)
publics_end labels bytes publics before now (first ∷ left) none adding = absurd (omega (arith, none))
