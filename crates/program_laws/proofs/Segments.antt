-- The object module of a module has its segments: the code begins with the constants, the data are the
-- variables, and each PUBLIC object is a public where it lies.
use Rattle.program_laws.proofs.Prelude.{◌≡◌, ℕ, zero, suc, true, List, [], ◌∷◌, ◌++◌, length, map, Some, refl, sym, ap, subst, ◌∙◌, append-nil, slice_get, AllByRecursion, recursion_from_All, none-some, same_Some, IsObjectModule, ObjectModule, Public, GlobalItem, GlobalObject, IsHereIfPublic, is_shared, TypedHome, InData, InConstants, Placed, BasedOn, Elsewhere, Nowhere, InFrame, TypedObject, TypedModule, of_all, Location, Places, constant_places, data_places, location_of, Storage, Item, Assembled, layout_at, set_of_items, ExternalName, PublicName, TreeModule, Home, Place, public_item, publics_of, externals_of, homes_of, IsLowered, Written, numbered, ArePublicsOf, IsAtPlace, IsGenerated, IsOwnCode, IsPublicOf, contents_items, KeepWords, location_of_place, places_of_contents, IsLaidOut, code_is, data_is, BeginWith, HasPublic, HasSegments, IsPublicAt}
use Rattle.treecode.specs.declared.module.PublicPlace.TheVariants as public_places
use Rattle.treecode.specs.declared.place.Place.TheVariants as places
use Rattle.treecode_laws.specs.internal.Places.{IsHere}
use Rattle.treecode_laws.proofs.Publics.{public_lies}
use Rattle.program_laws.proofs.Cells.{HasByte, at_zero}
use Rattle.program_laws.proofs.Contents.{IsWordContent, contents_begin, contents_keep}
use Rattle.program_laws.proofs.Listed.{InList, kept_in, object_listed}
use Rattle.program_laws.proofs.Placed.{place_to, segment_bytes, segment_is}
use Rattle.program_laws.proofs.ContentWords.{constants_are_words, variables_are_words}

-- Each segment: its places are those of what was written, whose items begin with those of its contents.
module _
    (typed : TypedModule) (storage : Storage) (tree : TreeModule) (object : ObjectModule)
    (laid : IsLaidOut typed storage) (lowered : IsLowered typed storage tree) (valid : IsObjectModule object)
    (is : IsGenerated tree object) where
  own : IsOwnCode tree is.code_is.called is.start_label is.code_is.own
  own = is.code_is.own_is

  code_same : object.code.places
      ≡ map (place_to is.to)
      (set_of_items (layout_at at_zero is.code.code) (is.code_is.made ++ is.code_is.listed))
  code_same =
      segment_is is.code is.code_bytes is.to object.code (length object.externals) is.code_segment valid.code
      ∙ ap (λ (items : List Item). map (place_to is.to) (set_of_items (layout_at at_zero is.code.code) items))
      is.code_is.items_are

  code_numbered : numbered is.code (contents_items tree.constants.items ++ (own.main ++ own.procedures))
      ≡ Some is.code_is.made
  code_numbered = ap (numbered is.code) (sym own.list_is) ∙ is.code_is.same

  code_keeps : KeepWords tree.constants.items
  code_keeps =
      contents_keep object is.code is.code.code tree.externals.items is.variables.externals is.to
      (own.main ++ own.procedures) is.code_is.listed is.targets is.grown tree.constants.items is.code_is.made
      code_numbered
      (subst (AllByRecursion HasByte) code_same
      (segment_bytes (length object.externals) object.code valid.code))

  -- the code begins with the constants
  code_begins : BeginWith object (constant_places typed) object.code.places
  code_begins =
      subst (λ (bytes : Places). BeginWith object bytes object.code.places)
      (code_is typed storage tree laid code_keeps lowered)
      (subst (BeginWith object (places_of_contents tree.externals.items tree.constants.items)) (sym code_same)
      (contents_begin object is.code is.code.code tree.externals.items is.variables.externals is.to
      (own.main ++ own.procedures) is.code_is.listed is.targets is.grown tree.constants.items is.code_is.made
      (subst (AllByRecursion IsWordContent) (sym lowered.constants)
      (constants_are_words typed tree.homes.items))
      code_numbered))

  data_same : object.data_places.places
      ≡ map (place_to is.to)
      (set_of_items (layout_at at_zero is.variables.code) (is.variables.code.items ++ []))
  data_same =
      segment_is is.variables is.variable_bytes is.to object.data_places
      (length object.externals) is.data_segment
      valid.data_places
      ∙ ap (λ (items : List Item). map (place_to is.to)
      (set_of_items (layout_at at_zero is.variables.code) items))
      (sym (append-nil is.variables.code.items))

  data_numbered : numbered is.variables (contents_items tree.variables.items ++ [])
      ≡ Some is.variables.code.items
  data_numbered =
      ap (numbered is.variables) (append-nil (contents_items tree.variables.items)) ∙ is.variables_are

  pub data_keep : KeepWords tree.variables.items
  data_keep =
      contents_keep object is.variables is.variables.code tree.externals.items
      is.variables.externals is.to [] []
      is.targets (λ number found at. at) tree.variables.items is.variables.code.items data_numbered
      (subst (AllByRecursion HasByte) data_same
      (segment_bytes (length object.externals) object.data_places valid.data_places))

  -- the data are the variables
  data_begin : BeginWith object (data_places typed) object.data_places.places
  data_begin =
      subst (λ (bytes : Places). BeginWith object bytes object.data_places.places)
      (data_is typed storage tree laid data_keep lowered)
      (subst (BeginWith object (places_of_contents tree.externals.items tree.variables.items)) (sym data_same)
      (contents_begin object is.variables is.variables.code tree.externals.items
      is.variables.externals is.to [] []
      is.targets (λ number found at. at) tree.variables.items is.variables.code.items
      (subst (AllByRecursion IsWordContent) (sym lowered.variables)
      (variables_are_words typed tree.homes.items))
      data_numbered))

-- a public of a name
record PublicAt (written : Written) (bytes : Assembled) (name : PublicName) (index : ℕ)
    (publics : List Public) :
    Type 0 where
  public : Public
  found : slice_get publics index ≡ Some public
  is : IsPublicOf written bytes name.name name.place public

public_at :
    (written : Written) (bytes : Assembled) (names : List PublicName) (publics : List Public) (index : ℕ)
    (name : PublicName)
    → ArePublicsOf written bytes names publics
    → slice_get names index ≡ Some name
    → PublicAt written bytes name index publics
public_at written bytes [] publics index name are found = absurd (none-some name found)
public_at written bytes (first ∷ names) [] index name are found = absurd are
public_at written bytes (first ∷ names) (public ∷ publics) zero name are found = record {
  public = public;
  found = refl;
  is =
      subst (λ (name : PublicName). IsPublicOf written bytes name.name name.place public)
      (same_Some first name found) are.0;
}
public_at written bytes (first ∷ names) (public ∷ publics) (suc index) name are found =
    let there = public_at written bytes names publics index name are.1 found in
    record { public = there.public; found = there.found; is = there.is }

-- it lies where the place of its object is
at_location :
    (names : List ExternalName) (name : List ℕ) (place : Place) (public : Public)
    → IsAtPlace name place public
    → IsPublicAt name (location_of_place names place) public
at_location names name (places.Number number) public is = is
at_location names name (places.Code offset) public is = is
at_location names name (places.Data offset) public is = is
at_location names name (places.External offset index) public is = absurd is

-- a PUBLIC object is shared, and one of this module
public_is_shared : (home : TypedHome) → is_shared home true ≡ true
public_is_shared (InData values) = refl
public_is_shared (InConstants values) = refl
public_is_shared (Placed at) = refl
public_is_shared (BasedOn base) = refl
public_is_shared Elsewhere = refl
public_is_shared Nowhere = refl
public_is_shared (InFrame procedure) = refl

public_is_here : (home : TypedHome) → IsHereIfPublic home true → IsHere home
public_is_here (InData values) is = tt
public_is_here (InConstants values) is = tt
public_is_here (Placed at) is = tt
public_is_here (BasedOn base) is = tt
public_is_here Elsewhere is = is
public_is_here Nowhere is = tt
public_is_here (InFrame procedure) is = tt

in_publics :
    (typed : TypedModule) (starts : List Home) (index : ℕ) (item : GlobalItem) (name : PublicName)
    → slice_get typed.globals index ≡ Some item
    → public_item typed starts item ≡ Some name
    → InList (publics_of typed starts) name
unfolding publics_of
in_publics typed starts index item name found is =
    kept_in (public_item typed starts) typed.globals index item name found is

has_public :
    (typed : TypedModule) (storage : Storage) (tree : TreeModule) (object : ObjectModule) (number : ℕ)
    (each : TypedObject)
    → IsLaidOut typed storage
    → IsLowered typed storage tree
    → IsGenerated tree object
    → slice_get typed.objects number ≡ Some each
    → each.is_public ≡ true
    → HasPublic each.name (location_of typed number) object.publics
has_public typed storage tree object number each laid lowered is found public =
    let named = public_lies typed storage number each laid found
    (public_is_here each.home
    (subst (IsHereIfPublic each.home) public
    (of_all (λ (object : TypedObject). IsHereIfPublic object.home object.is_public) typed.objects number each
    (recursion_from_All (λ (object : TypedObject). IsHereIfPublic object.home object.is_public) typed.objects
    laid.globals.here) found))) in
    let global = object_listed typed number each laid.globals found
    (ap (is_shared each.home) public ∙ public_is_shared each.home) in
    let listed = in_publics typed (homes_of typed storage) global.index (GlobalObject number)
    (record { name = each.name; place = public_places.Object named.place }) global.found named.public_is in
    let there = public_at is.code is.code_bytes tree.publics.items object.publics listed.index
    (record { name = each.name; place = public_places.Object named.place }) is.publics
    (ap (λ (names : List PublicName). slice_get names listed.index)
    (lowered.publics ∙ ap (publics_of typed) lowered.homes) ∙ listed.found) in record {
      place = listed.index;
      public = there.public;
      found = there.found;
      is =
          subst (λ (location : Location). IsPublicAt each.name location there.public) named.lies
          (at_location (externals_of typed) each.name named.place there.public there.is);
    }

-- The object module of a module has its segments.
pub has_segments :
    (typed : TypedModule) (storage : Storage) (tree : TreeModule) (object : ObjectModule)
    → IsLaidOut typed storage
    → IsLowered typed storage tree
    → IsObjectModule object
    → IsGenerated tree object
    → HasSegments typed object
has_segments typed storage tree object laid lowered valid is = record {
  code = code_begins typed storage tree object laid lowered valid is;
  data_places = data_begin typed storage tree object laid lowered valid is;
  publics = λ number each found public.
      has_public typed storage tree object number each laid lowered is found public;
}
