-- The names of a module, as its object module lists them.
use Rattle.std.specs.Prelude.{◌≡◌, ℕ, ◌+◌, ◌<◌, List, [], ◌∷◌, length, Option, Some, None, slice_get, if◌then◌else◌}
use Rattle.object_modules.specs.declared.segment.Segment.TheVariants.{Code, Data}
use Rattle.object_modules.specs.Module.{ObjectModule, Public}
use Rattle.object_modules.specs.Stored.{places_stored}
use Rattle.asm8080.specs.Assembled.{Assembled, segment_of}
use Rattle.treecode.specs.declared.module.ExternalName.{ExternalName}
use Rattle.treecode.specs.declared.module.PublicName.{PublicName}
use Rattle.treecode.specs.declared.module.PublicPlace.{PublicPlace}
use Rattle.treecode.specs.declared.module.PublicPlace.TheVariants.{Object, Procedure}
use Rattle.treecode.specs.declared.module.TreeModule.{TreeModule}
use Rattle.steps8080.specs.internal.Externals.{entry}
use Rattle.steps8080.specs.internal.Writer.{place_of_known}
use Rattle.codegen8080.specs.internal.Modules.{IsAtPlace, has_main, used_names}
use Rattle.codegen8080.specs.internal.Names.{Linkage}
use Rattle.codegen8080.specs.internal.Targets.{with_targets}
use Rattle.codegen8080.specs.internal.Segments.{retarget}

-- a name, if code has a number for it
abbrev pub used_name : (number : Option ℕ) → ExternalName → List (List ℕ)
used_name None external = []
used_name (Some number) external = external.name ∷ []

-- the place after that of a name, if code has a number for it: the table has its place for that number
abbrev pub FollowsPlace : (places : List ℕ) → (number : Option ℕ) → (place next : ℕ) → Type 0
FollowsPlace places None place next = next ≡ place
FollowsPlace places (Some number) place next =
    (slice_get places number ≡ Some place) × (next ≡ place + 1) × (next < 65536)

pub record IsPlaceAfter (places : List ℕ) (number : Option ℕ) (place next : ℕ) : Type 0 where
  pub follows : FollowsPlace places number place next

-- a table has the place of each number, from this place on
abbrev pub FollowPlaces : (places : List ℕ) → (place : ℕ) → (numbers : List (Option ℕ)) → Type 0
FollowPlaces places place [] = Unit {0}
FollowPlaces places place (number ∷ numbers) =
    (next : ℕ) × IsPlaceAfter places number place next × FollowPlaces places next numbers

-- a table has the place of each name for which code has a number, from this place on
abbrev pub HavePlaces :
    (places : List ℕ) → (place : ℕ) → (numbers : List (Option ℕ)) → List ExternalName → Type 0
HavePlaces places place [] externals = Unit {0}
HavePlaces places place (number ∷ numbers) [] = ⊥
HavePlaces places place (number ∷ numbers) (external ∷ externals) =
    (next : ℕ) × IsPlaceAfter places number place next × HavePlaces places next numbers externals

-- the names for which code has numbers are listed, at their places in a table
pub record AreListed
    (externals : List ExternalName) (numbers : List (Option ℕ)) (places : List ℕ) (names : Linkage) : Type 0
  where
    pub names_are : names.externals ≡ used_names numbers externals
    pub places_are : HavePlaces places 0 numbers externals
    pub publics : names.publics ≡ []

-- a public is a PUBLIC name, in code with these numbers of labels
abbrev pub IsPublicIn :
    (labels : List (Option ℕ)) → Assembled → (name : List ℕ) → PublicPlace → Public → Type 0
IsPublicIn labels bytes name (Object place) public = IsAtPlace name place public
IsPublicIn labels bytes name (Procedure number) public =
    public
    ≡ record { segment = Code; offset = place_of_known bytes (entry labels number); name = name }

-- publics are PUBLIC names, one by one
abbrev pub ArePublicsIn : (labels : List (Option ℕ)) → Assembled → List PublicName → List Public → Type 0
ArePublicsIn labels bytes [] [] = Unit {0}
ArePublicsIn labels bytes (name ∷ names) (public ∷ publics) =
    IsPublicIn labels bytes name.name name.place public × ArePublicsIn labels bytes names publics
ArePublicsIn labels bytes names publics = ⊥

-- the names of a module are listed
pub record AreNamesOf
    (tree : TreeModule) (numbers : List (Option ℕ)) (bytes : Assembled) (labels : List (Option ℕ))
    (places : List ℕ) (names : Linkage) : Type 0 where
  pub listed : Linkage
  pub externals : AreListed tree.externals.items numbers places listed
  pub same : names.externals ≡ listed.externals
  pub publics : ArePublicsIn labels bytes tree.publics.items names.publics

-- the start of code with these labels, if it is that of a main program
abbrev pub start_in :
    TreeModule → (bytes : Assembled) → (labels : List (Option ℕ)) → (label : ℕ) → Option ℕ
start_in tree bytes labels label =
    if has_main tree then Some (place_of_known bytes (entry labels label)) else None

-- An object module consists of code and variables, with the listed names and the places that fixes have among
-- them.
pub record IsMadeOf
    (own_name : List ℕ) (code_bytes variable_bytes : Assembled) (names : Linkage) (places : List ℕ) (offset : Option ℕ)
    (object : ObjectModule) : Type 0 where
  pub name : object.name ≡ own_name
  pub code :
      object.code
      ≡ places_stored Code (segment_of (with_targets (retarget places (length names.externals)) code_bytes))
  pub data_places :
      object.data_places
      ≡ places_stored Data (segment_of (with_targets (retarget places (length names.externals)) variable_bytes))
  pub stack : object.stack_length ≡ 0
  pub externals : object.externals ≡ names.externals
  pub publics : object.publics ≡ names.publics
  pub start : object.start ≡ offset
