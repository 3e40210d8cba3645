-- Items of a DECLARE.
use Rattle.types.proofs.Prelude.{◌≡◌, ℕ, ◌<◌, ◌≤◌, min, nat_le, true, arith, le-leb, leb-true, sym, ◌∙◌, List, [], ◌∷◌, ◌++◌, ◌||◌, not, Option, Ok, Err, refl, ap, subst, lt-leb, dec_le, Here, with_object, is_declared_again, Member, Identifier, ItemTree, declared_by, FRAME_LIMIT, OBJECT_LIMIT, TypedMember, has_member, DeclaredTwice, ExternalContents, TooLarge, Block, Progress, is_external, declares_parameter, Checked, ◌>>=◌, require, TypedItem, declare_names, declare_item, place_of_item, member_dimension, object_named, size_of_item, typed_item, typed_members, with_objects, with_typed_object, place_of, with_here, Fault, FailsBy, fails_more, fitted_in_turn, fitting_item, item_in_turn, with_names}

-- one name, and then the others
names_then : {A B : Type 0} (first : Checked A) (second : Checked B) (block : Block)
    (others : List Identifier) (here : Here) (progress : Progress)
    → (first >>= λ _. second >>= λ _. declare_names block others here)
    >>= (λ after. Ok (with_here after progress))
    ≡ ((first >>= λ _. second >>= λ _. Ok here) >>= (λ after. Ok (with_here after progress)))
    >>= with_names block others
names_then (Ok a) (Ok b) block others here progress = refl
names_then (Ok a) (Err fault) block others here progress = refl
names_then (Err fault) second block others here progress = refl

pub first_name : (block : Block) (name : Identifier) (others : List Identifier) (progress : Progress)
    → with_names block (name ∷ others) progress ≡ with_names block (name ∷ []) progress
    >>= with_names block others
first_name block name others progress =
    names_then (require (not (is_declared_again progress.known.here name.name)) DeclaredTwice (place_of name))
    (require (not (is_external block.owner) || declares_parameter block name.name)
    ExternalContents (place_of name))
    block others (with_object name.name progress.known.here) progress

-- one member, and then the others
members_then : {A B : Type 0} (first : Checked A) (second : Checked B) (made : B → List TypedMember)
    (others : List Member)
    → (first >>= λ _. second >>= λ b. typed_members (made b) others)
    ≡ (first >>= λ _. second >>= λ b. Ok (made b)) >>= (λ after. typed_members after others)
members_then (Ok a) (Ok b) made others = refl
members_then (Ok a) (Err fault) made others = refl
members_then (Err fault) second made others = refl

abbrev pub members_from : List Member → List TypedMember → Checked (List TypedMember)
members_from members before = typed_members before members

abbrev pub member_added : Member → List TypedMember → Checked (List TypedMember)
member_added member before = typed_members before (member ∷ [])

pub first_member : (member : Member) (others : List Member) (before : List TypedMember)
    → members_from (member ∷ others) before ≡ member_added member before >>= members_from others
first_member member others before =
    members_then (require (not (has_member before member.name.name)) DeclaredTwice (place_of member.name))
    (member_dimension member.dimension)
    (λ dimension. before ++ record { name = member.name.name; dimension = dimension; scalar = member.scalar }
    ∷ []) others

-- a number that stops at the greatest of 32 bits, against a limit below that
pub capped_within : (all limit : ℕ) → limit < 4294967295
    → nat_le (min all 4294967295) limit ≡ nat_le all limit
capped_within all limit small =
    elim (dec_le all limit) [
      | yes within ↦ le-leb (min all 4294967295) limit (omega (arith, within)) ∙ sym (le-leb all limit within)
      | no beyond ↦ lt-leb (min all 4294967295) limit (omega (arith, small, beyond))
          ∙ sym (lt-leb all limit (omega (arith, beyond)))
    ]

pub capped_exact : (all limit : ℕ) → limit < 4294967295 → nat_le all limit ≡ true → min all 4294967295 ≡ all
capped_exact all limit small within =
    let is : all ≤ limit = leb-true all limit within in omega (arith, small, is)

-- what one name of an item makes of a text, and whether there is room for it
abbrev object_of_name : Block → TypedItem → Identifier → Progress → Progress
object_of_name block item name progress =
    with_typed_object item.linkage (object_named block item name.name) progress

abbrev room_for : Block → TypedItem → Identifier → Progress → Checked (Unit {0})
room_for block item name progress =
    require (nat_le (object_of_name block item name progress).frame FRAME_LIMIT) TooLarge (place_of name)

-- one object of an item, and then the others
objects_then : (block : Block) (item : TypedItem) (others : List Identifier)
    (room : Checked (Unit {0})) (made : Progress)
    → (room >>= λ _. with_objects block item others made) ≡ (room >>= λ _. Ok made)
    >>= with_objects block item others
objects_then block item others (Ok fits) made = refl
objects_then block item others (Err fault) made = refl

pub first_object : (block : Block) (item : TypedItem) (name : Identifier) (others : List Identifier)
    (progress : Progress) → with_objects block item (name ∷ others) progress
    ≡ with_objects block item (name ∷ []) progress >>= with_objects block item others
first_object block item name others progress =
    objects_then block item others (room_for block item name progress)
    (object_of_name block item name progress)

-- objects have nothing to do with what names stand for
abbrev objects_with : Block → TypedItem → List Identifier → Here → Progress → Checked Progress
objects_with block item names here progress =
    with_objects block item names progress >>= (λ declared. Ok (with_here here declared))

aside : {A : Type 0} (first : Checked A) (next second : Checked Progress) (here : Here)
    → next ≡ second >>= (λ declared. Ok (with_here here declared))
    → first >>= (λ _. next) ≡ (first >>= λ _. second) >>= (λ declared. Ok (with_here here declared))
aside (Ok a) next second here is = is
aside (Err fault) next second here is = refl

objects_aside : (block : Block) (item : TypedItem) (names : List Identifier) (here : Here)
    (progress : Progress) → objects_with block item names here progress
    ≡ with_objects block item names (with_here here progress)
objects_aside block item [] here progress = refl
objects_aside block item (name ∷ others) here progress =
    sym (aside (room_for block item name progress) _
    (with_objects block item others (object_of_name block item name progress)) here
    (sym (objects_aside block item others here (object_of_name block item name progress))))

-- the names of an item may be declared before its objects are made
module _ (block : Block) (item : ItemTree) (progress : Progress) where
  abbrev fits : TypedItem → Checked (Unit {0})
  fits typed = require (nat_le (size_of_item typed) OBJECT_LIMIT) TooLarge (place_of_item item)

  abbrev made_from : TypedItem → Progress → Checked Progress
  made_from typed from = with_objects block typed (declared_by item.subject) from

  abbrev made_with : TypedItem → Here → Checked Progress
  made_with typed here = objects_with block typed (declared_by item.subject) here progress

  fitting_in_turn : (here : Here) (typed : TypedItem) (fitting : Checked (Unit {0}))
      → fitting >>= (λ _. made_with typed here) ≡ fitting >>= (λ _. made_from typed (with_here here progress))
  fitting_in_turn here typed (Ok fitting) = objects_aside block typed (declared_by item.subject) here progress
  fitting_in_turn here typed (Err fault) = refl

  typed_in_turn : (here : Here) (typed : Checked TypedItem)
      → typed >>= (λ typed. fits typed >>= λ _. made_with typed here) ≡ typed
      >>= (λ typed. fits typed >>= λ _. made_from typed (with_here here progress))
  typed_in_turn here (Ok typed) = fitting_in_turn here typed (fits typed)
  typed_in_turn here (Err fault) = refl

  named_in_turn : (names : Checked Here)
      → names >>= (λ here. typed_item progress.known block item >>= λ typed. fits typed
      >>= λ _. made_with typed here)
      ≡ (names >>= λ here. Ok (with_here here progress))
      >>= (λ named. typed_item progress.known block item >>= λ typed. fits typed
      >>= λ _. made_from typed named)
  named_in_turn (Ok here) = typed_in_turn here (typed_item progress.known block item)
  named_in_turn (Err fault) = refl

  in_turn : declare_item block item progress ≡ item_in_turn block item progress
  in_turn = named_in_turn (declare_names block (declared_by item.subject) progress.known.here)

  -- what an item is, and that it fits, as one check
  fitting_first : (typed : TypedItem) (fitting : Checked (Unit {0})) (next : TypedItem → Checked Progress)
      → fitting >>= (λ _. next typed) ≡ (fitting >>= λ _. Ok typed) >>= next
  fitting_first typed (Ok fitting) next = refl
  fitting_first typed (Err fault) next = refl

  typed_first : (typed : Checked TypedItem) (next : TypedItem → Checked Progress)
      → typed >>= (λ typed. fits typed >>= λ _. next typed)
      ≡ (typed >>= λ typed. fits typed >>= λ _. Ok typed) >>= next
  typed_first (Ok typed) next = fitting_first typed (fits typed) next
  typed_first (Err fault) next = refl

  named_first : (named : Checked Progress)
      → named >>= (λ named. typed_item progress.known block item >>= λ typed. fits typed
      >>= λ _. made_from typed named)
      ≡ named >>= (λ named. fitting_item progress.known block item >>= λ typed. made_from typed named)
  named_first (Ok named) = typed_first (typed_item progress.known block item) (λ typed. made_from typed named)
  named_first (Err fault) = refl

  fitted_turn : declare_item block item progress ≡ fitted_in_turn block item progress
  fitted_turn = in_turn ∙ named_first (with_names block (declared_by item.subject) progress)

  declared_next : (named : Progress) → with_names block (declared_by item.subject) progress ≡ Ok named
      → declare_item block item progress
      ≡ (fitting_item progress.known block item >>= λ typed. made_from typed named)
  declared_next named names =
      fitted_turn
      ∙ ap (λ result. result >>= λ named. fitting_item progress.known block item
      >>= λ typed. made_from typed named) names

  pub names_fail : (fault : Option Fault)
      → FailsBy fault (with_names block (declared_by item.subject) progress)
      → FailsBy fault (declare_item block item progress)
  names_fail fault fails =
      subst (FailsBy fault) (sym fitted_turn)
      (fails_more fault (with_names block (declared_by item.subject) progress)
      (λ named. fitting_item progress.known block item >>= λ typed. made_from typed named) fails)

  pub item_fails : (fault : Option Fault) (named : Progress)
      → with_names block (declared_by item.subject) progress ≡ Ok named
      → FailsBy fault (fitting_item progress.known block item)
      → FailsBy fault (declare_item block item progress)
  item_fails fault named names fails =
      subst (FailsBy fault) (sym (declared_next named names))
      (fails_more fault (fitting_item progress.known block item) (λ typed. made_from typed named) fails)

  pub declared_with : (typed : TypedItem) (named : Progress)
      → with_names block (declared_by item.subject) progress ≡ Ok named
      → fitting_item progress.known block item ≡ Ok typed
      → declare_item block item progress ≡ with_objects block typed (declared_by item.subject) named
  declared_with typed named names fitted = declared_next named names ∙ ap (λ result. result >>= λ typed. made_from typed named) fitted
