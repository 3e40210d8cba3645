-- The block of a procedure as far as it is declared: its parameters are objects of the types that the text
-- says, and no other object is a parameter in its frames.
use Rattle.typing.proofs.Prelude.{◌≡◌, ℕ, zero, suc, ◌+◌, Bool, true, false, List, [], ◌∷◌, ◌++◌, length, map, Option, Some, None, if◌then◌else◌, unwrap_or, refl, ap, sym, subst, ◌∙◌, arith, slice_get, is_some, lookup, option_or, bytes_eq, none-some, bytes_eq-Decides, ScalarType, Identifier, HeadingTree, insert_entry, Entity, Object, Procedure, Label, Definition, Names, is_among, home_of_parameters, IsScalar, TypedObject, visibility_of}
use Rattle.typing.proofs.Parameters.Grown.{IsParameterOf}

-- the type that a text so far declares a name with
abbrev pub Scan : Type 0
Scan = List ℕ → Option ScalarType

abbrev pub is_parameter : HeadingTree → List ℕ → Bool
is_parameter heading name =
    is_among (map (λ (parameter : Identifier). parameter.name) heading.parameters) name

-- the object of a parameter
pub record IsDescribed
    (number : ℕ) (heading : HeadingTree) (scan : Scan) (objects : List TypedObject)
    (name : List ℕ) (place : ℕ) :
    Type 0 where
  pub object : TypedObject
  pub found : slice_get objects place ≡ Some object
  pub name_is : object.name ≡ name
  pub scalar : ScalarType
  pub type_is : scan name ≡ Some scalar
  pub is : IsScalar scalar object
  pub home : object.home ≡ home_of_parameters number (is_some heading.reentrant)
      (visibility_of heading.linkage)
  pub parameter : object.is_parameter ≡ true

pub record OwnBlock
    (number : ℕ) (heading : HeadingTree) (scan : Scan) (objects : List TypedObject)
    (block : Names) : Type 0 where
  pub named : (name : List ℕ) (place : ℕ) → lookup (bytes_eq name) block ≡ Some (Object place)
      → is_parameter heading name ≡ true
      → IsDescribed number heading scan objects name place
  pub kept : (place : ℕ) (object : TypedObject) → slice_get objects place ≡ Some object
      → IsParameterOf number object
      → (lookup (bytes_eq object.name) block ≡ Some (Object place))
      × (is_parameter heading object.name ≡ true)
  pub unseen : (name : List ℕ) → lookup (bytes_eq name) block ≡ None → scan name ≡ None

pub found_new :
    (block : Names) (name : List ℕ) (entity : Entity) (wanted : List ℕ)
    → lookup (bytes_eq name) block ≡ None
    → bytes_eq wanted name ≡ true
    → lookup (bytes_eq wanted) (insert_entry bytes_eq block name entity) ≡ Some entity
found_new [] name entity wanted none same =
    ap (λ (test : Bool). if test then Some entity else None) same
found_new (entry ∷ others) name entity wanted none same =
    by (bytes_eq name entry.0) refl none (found_new others name entity wanted)
  where
    by : (here : Bool)
        → bytes_eq name entry.0 ≡ here
        → (if here then Some entry.1 else lookup (bytes_eq name) others) ≡ None
        → (lookup (bytes_eq name) others ≡ None
        → bytes_eq wanted name ≡ true
        → lookup (bytes_eq wanted) (insert_entry bytes_eq others name entity) ≡ Some entity)
        → lookup (bytes_eq wanted)
        (if here then (entry.0, entity) ∷ others else entry ∷ insert_entry bytes_eq others name entity)
        ≡ Some entity
    by true e none rest = absurd (none-some entry.1 (sym none))
    by false e none rest =
        let other : bytes_eq wanted entry.0 ≡ false =
        ap (λ (one : List ℕ). bytes_eq one entry.0) ((bytes_eq-Decides wanted name).0 same) ∙ e in
        ap (λ (test : Bool).
        if test then Some entry.1 else lookup (bytes_eq wanted)
        (insert_entry bytes_eq others name entity)) other
        ∙ rest none same

pub found_other :
    (block : Names) (name : List ℕ) (entity : Entity) (wanted : List ℕ)
    → bytes_eq wanted name ≡ false
    → lookup (bytes_eq wanted) (insert_entry bytes_eq block name entity) ≡ lookup (bytes_eq wanted) block
found_other [] name entity wanted differ =
    ap (λ (test : Bool). if test then Some entity else None) differ
found_other (entry ∷ others) name entity wanted differ =
    by (bytes_eq name entry.0) refl (found_other others name entity wanted differ)
  where
    by : (here : Bool)
        → bytes_eq name entry.0 ≡ here
        → lookup (bytes_eq wanted) (insert_entry bytes_eq others name entity)
        ≡ lookup (bytes_eq wanted) others
        → lookup (bytes_eq wanted)
        (if here then (entry.0, entity) ∷ others else entry ∷ insert_entry bytes_eq others name entity)
        ≡ (if bytes_eq wanted entry.0 then Some entry.1 else lookup (bytes_eq wanted) others)
    by true e rest =
        let other : bytes_eq wanted entry.0 ≡ false =
        ap (bytes_eq wanted) (sym ((bytes_eq-Decides name entry.0).0 e)) ∙ differ in
        ap (λ (test : Bool). if test then Some entity else lookup (bytes_eq wanted) others) other
        ∙ sym (ap (λ (test : Bool). if test then Some entry.1 else lookup (bytes_eq wanted) others) other)
    by false e rest =
        ap (λ (found : Option Entity). if bytes_eq wanted entry.0 then Some entry.1 else found) rest

-- one name or another
pub same_or_not : {A : Type 0} (one other : List ℕ)
    → (bytes_eq one other ≡ true → A)
    → (bytes_eq one other ≡ false → A)
    → A
same_or_not {A} one other same differ = by (bytes_eq one other) refl
  where
    by : (is : Bool) → bytes_eq one other ≡ is → A
    by true e = same e
    by false e = differ e

-- an item in front of others, or one of them
pub front_or_back : {X : Type 0} {A : Type 0} (before after : List X) (place : ℕ) (item : X)
    → slice_get (before ++ after) place ≡ Some item
    → (slice_get before place ≡ Some item → A)
    → ((number : ℕ) → place ≡ length before + number → slice_get after number ≡ Some item → A)
    → A
front_or_back [] after place item found front back = back place (omega arith) found
front_or_back (first ∷ before) after zero item found front back = front found
front_or_back (first ∷ before) after (suc place) item found front back =
    front_or_back before after place item found front
    (λ number same there. back number (omega (arith, same)) there)

pub kept_front : {X : Type 0} (before after : List X) (place : ℕ) (item : X)
    → slice_get before place ≡ Some item
    → slice_get (before ++ after) place ≡ Some item
kept_front [] after place item found = absurd (none-some item found)
kept_front (first ∷ before) after zero item found = found
kept_front (first ∷ before) after (suc place) item found = kept_front before after place item found

last_item : {X : Type 0} (before : List X) (item : X)
    → slice_get (before ++ (item ∷ [])) (length before) ≡ Some item
last_item [] item = refl
last_item (first ∷ before) item = last_item before item

-- a name that is no object
pub with_other :
    (number : ℕ) (heading : HeadingTree) (scan : Scan) (objects : List TypedObject) (block : Names)
    (name : List ℕ) (entity : Entity)
    → ((place : ℕ) → entity ≡ Object place → ⊥)
    → lookup (bytes_eq name) block ≡ None
    → OwnBlock number heading scan objects block
    → OwnBlock number heading scan objects (insert_entry bytes_eq block name entity)
with_other number heading scan objects block name entity other none own = record {
  named = λ wanted place found parameter.
      same_or_not wanted name
      (λ same.
      absurd (other place
      (ap (λ (one : Option Entity). unwrap_or one entity)
      (sym (found_new block name entity wanted none same) ∙ found))))
      (λ differ. own.named wanted place (sym (found_other block name entity wanted differ) ∙ found)
      parameter);
  kept = λ place object found parameter.
      let is = own.kept place object found parameter in
      same_or_not object.name name
      (λ same.
      absurd (none-some (Object place)
      (sym (ap (λ (one : List ℕ). lookup (bytes_eq one) block) ((bytes_eq-Decides object.name name).0 same)
      ∙ none) ∙ is.0)))
      (λ differ. (found_other block name entity object.name differ ∙ is.0, is.1));
  unseen = λ wanted found.
      same_or_not wanted name
      (λ same. absurd (none-some entity (sym found ∙ found_new block name entity wanted none same)))
      (λ differ. own.unseen wanted (sym (found_other block name entity wanted differ) ∙ found));
}

-- objects that are no parameters in its frames
pub with_rest :
    (number : ℕ) (heading : HeadingTree) (scan : Scan) (objects rest : List TypedObject) (block : Names)
    → ((place : ℕ) (object : TypedObject) → slice_get rest place ≡ Some object
    → IsParameterOf number object → ⊥)
    → OwnBlock number heading scan objects block
    → OwnBlock number heading scan (objects ++ rest) block
with_rest number heading scan objects rest block none own = record {
  named = λ name place found parameter.
      let is = own.named name place found parameter in
      record {
        object = is.object;
        found = kept_front objects rest place is.object is.found;
        name_is = is.name_is;
        scalar = is.scalar;
        type_is = is.type_is;
        is = is.is;
        home = is.home;
        parameter = is.parameter;
      };
  kept = λ place object found parameter.
      front_or_back objects rest place object found (λ front. own.kept place object front parameter)
      (λ at same there. absurd (none at object there parameter));
  unseen = own.unseen;
}

-- the scan of a name and others
abbrev pub with_type : Scan → List ℕ → ScalarType → Scan
with_type scan name scalar wanted =
    option_or (scan wanted) (if bytes_eq wanted name then Some scalar else None)

-- what is told of a new object: where it is a parameter, it is as the text says
pub record IsFitting
    (number : ℕ) (heading : HeadingTree) (name : List ℕ) (scalar : ScalarType)
    (object : TypedObject) : Type 0 where
  pub name_is : object.name ≡ name
  pub parameter : is_parameter heading name ≡ true
      → IsScalar scalar object
      × (object.home ≡ home_of_parameters number (is_some heading.reentrant) (visibility_of heading.linkage))
      × (object.is_parameter ≡ true)
  pub other : object.is_parameter ≡ true → is_parameter heading name ≡ true

pub with_own :
    (number : ℕ) (heading : HeadingTree) (scan : Scan) (objects : List TypedObject) (block : Names)
    (name : List ℕ) (scalar : ScalarType) (object : TypedObject)
    → lookup (bytes_eq name) block ≡ None
    → IsFitting number heading name scalar object
    → OwnBlock number heading scan objects block
    → OwnBlock number heading (with_type scan name scalar) (objects ++ (object ∷ []))
    (insert_entry bytes_eq block name (Object (length objects)))
with_own number heading scan objects block name scalar object none fits own = record {
  named = λ wanted place found parameter.
      same_or_not wanted name
      (λ same.
      let place_is : length objects ≡ place =
      number_of (Object (length objects)) (Object place) (length objects) refl
      (ap (λ (one : Option Entity). unwrap_or one (Object (length objects)))
      (sym (found_new block name (Object (length objects)) wanted none same) ∙ found)) in
      let name_same : wanted ≡ name = (bytes_eq-Decides wanted name).0 same in
      let is =
      fits.parameter (subst (λ (one : List ℕ). is_parameter heading one ≡ true) name_same parameter) in
      record {
        object = object;
        found = ap (slice_get (objects ++ (object ∷ []))) (sym place_is) ∙ last_item objects object;
        name_is = fits.name_is ∙ sym name_same;
        scalar = scalar;
        type_is = ap (λ (one : Option ScalarType).
            option_or one (if bytes_eq wanted name then Some scalar else None))
            (ap scan name_same ∙ own.unseen name none)
            ∙ ap (λ (test : Bool). if test then Some scalar else None) same;
        is = is.0;
        home = is.1;
        parameter = is.2;
      })
      (λ differ.
      let is =
      own.named wanted place (sym (found_other block name (Object (length objects)) wanted differ) ∙ found)
      parameter in
      record {
        object = is.object;
        found = kept_front objects (object ∷ []) place is.object is.found;
        name_is = is.name_is;
        scalar = is.scalar;
        type_is = ap (λ (one : Option ScalarType).
            option_or one (if bytes_eq wanted name then Some scalar else None)) is.type_is;
        is = is.is;
        home = is.home;
        parameter = is.parameter;
      });
  kept = λ place each found parameter.
      front_or_back objects (object ∷ []) place each found
      (λ front.
      let is = own.kept place each front parameter in
      same_or_not each.name name
      (λ same.
      absurd (none-some (Object place)
      (sym (ap (λ (one : List ℕ). lookup (bytes_eq one) block) ((bytes_eq-Decides each.name name).0 same)
      ∙ none) ∙ is.0)))
      (λ differ. (found_other block name (Object (length objects)) each.name differ ∙ is.0, is.1)))
      (λ at same there.
      let one = only at object each there in
      let each_name : each.name ≡ name = sym (ap (λ (one : TypedObject). one.name) one.1) ∙ fits.name_is in
      let place_is : length objects ≡ place = here place at same one.0 in (
        ap (λ (one : List ℕ).
            lookup (bytes_eq one) (insert_entry bytes_eq block name (Object (length objects)))) each_name
            ∙ found_new block name (Object (length objects)) name none ((bytes_eq-Decides name name).1 refl)
            ∙ ap (λ (place : ℕ). Some (Object place)) place_is,
        ap (is_parameter heading) each_name
            ∙ fits.other (ap (λ (one : TypedObject). one.is_parameter) one.1 ∙ parameter.1),
      ));
  unseen = λ wanted found.
      same_or_not wanted name
      (λ same.
      absurd (none-some (Object (length objects))
      (sym found ∙ found_new block name (Object (length objects)) wanted none same)))
      (λ differ.
      ap (λ (one : Option ScalarType). option_or one (if bytes_eq wanted name then Some scalar else None))
      (own.unseen wanted (sym (found_other block name (Object (length objects)) wanted differ) ∙ found))
      ∙ ap (λ (test : Bool). if test then Some scalar else None) differ);
}
  where
    number_in : Entity → ℕ → ℕ
    number_in (Object place) other = place
    number_in (Procedure place) other = other
    number_in (Label place) other = other
    number_in Definition other = other

    number_of : (one other : Entity) (place : ℕ) → one ≡ Object place → one ≡ other
        → number_in (Object place) 0 ≡ number_in other 0
    number_of one other place is same = ap (λ (entity : Entity). number_in entity 0) (sym is ∙ same)

    only : (at : ℕ) (one other : TypedObject) → slice_get (one ∷ []) at ≡ Some other
        → (at ≡ 0) × (one ≡ other)
    only zero one other found = (refl, ap (λ (each : Option TypedObject). unwrap_or each one) found)
    only (suc at) one other found = absurd (none-some other found)

    here : (place at : ℕ) → place ≡ length objects + at → at ≡ 0 → length objects ≡ place
    here place at same zero_is = omega (arith, same, zero_is)

-- the same with a scan that says the same
pub with_scan :
    (number : ℕ) (heading : HeadingTree) (one other : Scan) (objects : List TypedObject) (block : Names)
    → ((name : List ℕ) → one name ≡ other name)
    → OwnBlock number heading one objects block
    → OwnBlock number heading other objects block
with_scan number heading one other objects block same own = record {
  named = λ name place found parameter.
      let is = own.named name place found parameter in
      record {
        object = is.object;
        found = is.found;
        name_is = is.name_is;
        scalar = is.scalar;
        type_is = sym (same name) ∙ is.type_is;
        is = is.is;
        home = is.home;
        parameter = is.parameter;
      };
  kept = own.kept;
  unseen = λ name found. sym (same name) ∙ own.unseen name found;
}
