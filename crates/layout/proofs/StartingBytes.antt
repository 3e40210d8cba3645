-- The contents of a lawful placement lie apart, each within what it fills.
use Rattle.layout.proofs.Prelude.{◌≡◌, ◌≢◌, ℕ, zero, suc, ◌+◌, ◌-◌, ◌<◌, ◌≤◌, ◌⊎◌, inl, inr, Bool, true, false, ◌||◌, List, [], ◌∷◌, ◌++◌, length, Option, Some, None, option_map, refl, sym, ap, ap₂, ◌∙◌, subst, arith, if◌then◌else◌, All, AllPairs, map, zip, filter, filter_map, flat_map, sum_by, enumerate_from, list_any, flat_map-cons, length-flat_map, All-append, All-cons, All-filter, filter_map-append, filter-append, sum_by-cons, MEMORY_SIZE, Range, IsIn, InitialValue, size_of_object, IsStorable, bytes_filled, size_of_value, Home, InData, InConstants, Placed, BasedOn, Elsewhere, Nowhere, InFrame, TypedObject, TypedModule, StaticPiece, ConstantPiece, ModulePlacement, Placement, PlacedPiece, EndsInMemory, has_own_place, holds_byte, kind_of, list_piece, object_piece, own_pieces, piece_of, pieces_of, pieces_of_module, AreDisjoint, IsLawful, Contents, Covers, IsAmong, StartsAs, address_of_object, bytes_of_value, contents_of, contents_of_list, contents_of_module, contents_of_object, starting_memory, values_in, or_kept, or_right}
use Rattle.layout.proofs.WrittenBytes.{AreApart, EachApart, all_elsewhere, all_here, all_size}
use Rattle.layout.proofs.Declared.{Decides-holds}
use Rattle.layout.proofs.Sums.{value_bytes}

-- contents with the piece that they fill, if that has a place of its own
abbrev Filling : Type 0
Filling = Contents × Option PlacedPiece

abbrev filled_piece : Filling → Option PlacedPiece
filled_piece filling = filling.1

abbrev contents_in : Filling → Contents
contents_in filling = filling.0

-- contents fill their piece from its start on, and without one they have no bytes
abbrev Fills : Contents → Option PlacedPiece → Type 0
Fills contents None = length contents.1 ≡ 0
Fills contents (Some piece) =
    (contents.0 ≡ piece.range.start) × (length contents.1 ≤ piece.range.len)

abbrev own_one : Option PlacedPiece → Option PlacedPiece
own_one None = None
own_one (Some piece) = if has_own_place piece then Some piece else None

abbrev object_filling : (ℕ → ℕ) → TypedObject × ℕ → Filling
object_filling address_of placed = (contents_of_object address_of placed, own_one (object_piece placed))

abbrev list_filling : List ℕ × ℕ → Filling
list_filling placed = (contents_of_list placed, Some (list_piece placed))

abbrev module_fillings : List TypedModule → Placement → ℕ × (TypedModule × ModulePlacement) → List Filling
module_fillings modules placement numbered =
    map (object_filling (address_of_object modules placement numbered.0 (numbered.1).0))
    (zip ((numbered.1).0).objects ((numbered.1).1).objects)
    ++ map list_filling (zip ((numbered.1).0).constants.lists ((numbered.1).1).lists)

abbrev fillings : List TypedModule → Placement → List (ℕ × (TypedModule × ModulePlacement)) → List Filling
fillings modules placement numbered = flat_map (module_fillings modules placement) numbered

map-map : {A B C : Type 0} (f : B → C) (g : A → B) (h : A → C) (xs : List A) → ((x : A) → f (g x) ≡ h x)
    → map f (map g xs) ≡ map h xs
map-map f g h [] same = refl
map-map f g h (x ∷ xs) same = ap₂ (λ first others. first ∷ others) (same x) (map-map f g h xs same)

map-both : {A B : Type 0} (f : A → B) (xs ys : List A) → map f (xs ++ ys) ≡ map f xs ++ map f ys
map-both f [] ys = refl
map-both f (x ∷ xs) ys = ap (λ others. f x ∷ others) (map-both f xs ys)

-- the contents are those of the fillings
module_contents :
    (modules : List TypedModule) (placement : Placement) (numbered : ℕ × (TypedModule × ModulePlacement))
    → map contents_in (module_fillings modules placement numbered)
    ≡ contents_of_module modules placement numbered.0 (numbered.1).0 (numbered.1).1
module_contents modules placement numbered =
    let address_of = address_of_object modules placement numbered.0 (numbered.1).0 in
    let objects = zip ((numbered.1).0).objects ((numbered.1).1).objects in
    let lists = zip ((numbered.1).0).constants.lists ((numbered.1).1).lists in
    map-both contents_in (map (object_filling address_of) objects) (map list_filling lists)
    ∙ ap₂ (λ one other. one ++ other)
    (map-map contents_in (object_filling address_of) (contents_of_object address_of) objects (λ x. refl))
    (map-map contents_in list_filling contents_of_list lists (λ x. refl))

all_contents :
    (modules : List TypedModule) (placement : Placement)
    (numbered : List (ℕ × (TypedModule × ModulePlacement)))
    → map contents_in (fillings modules placement numbered)
    ≡ flat_map
    (λ (one : ℕ × (TypedModule × ModulePlacement)).
    contents_of_module modules placement one.0 (one.1).0 (one.1).1) numbered
all_contents modules placement [] = refl
all_contents modules placement (first ∷ others) =
    ap (map contents_in) (flat_map-cons (module_fillings modules placement) first others)
    ∙ map-both contents_in (module_fillings modules placement first) (fillings modules placement others)
    ∙ ap₂ (λ one other. one ++ other) (module_contents modules placement first)
    (all_contents modules placement others)
    ∙ sym (flat_map-cons
    (λ (one : ℕ × (TypedModule × ModulePlacement)).
    contents_of_module modules placement one.0 (one.1).0 (one.1).1) first others)

-- the pieces that are filled are those with a place of their own
own_objects :
    (address_of : ℕ → ℕ) (objects : List (TypedObject × ℕ))
    → filter_map filled_piece (map (object_filling address_of) objects)
    ≡ filter has_own_place (filter_map object_piece objects)
own_objects address_of [] = refl
own_objects address_of (placed ∷ others) = by_home (placed.0).home refl (own_objects address_of others)
  where
    by_home :
        (home : Home) → (placed.0).home ≡ home
        → filter_map filled_piece (map (object_filling address_of) others)
        ≡ filter has_own_place (filter_map object_piece others)
        → filter_map filled_piece (map (object_filling address_of) (placed ∷ others))
        ≡ filter has_own_place (filter_map object_piece (placed ∷ others))
    by_home (InData values) same rest =
        rw same (ap (λ pieces. piece_of placed.1 placed.0 StaticPiece ∷ pieces) rest)
    by_home (InConstants values) same rest =
        rw same (ap (λ pieces. piece_of placed.1 placed.0 ConstantPiece ∷ pieces) rest)
    by_home (Placed at) same rest = rw same rest
    by_home (BasedOn base) same rest = rw same rest
    by_home Elsewhere same rest = rw same rest
    by_home Nowhere same rest = rw same rest
    by_home (InFrame procedure) same rest = rw same rest

own_lists :
    (lists : List (List ℕ × ℕ))
    → filter_map filled_piece (map list_filling lists) ≡ filter has_own_place (map list_piece lists)
own_lists [] = refl
own_lists (placed ∷ others) = ap (λ pieces. list_piece placed ∷ pieces) (own_lists others)

module_pieces :
    (modules : List TypedModule) (placement : Placement) (numbered : ℕ × (TypedModule × ModulePlacement))
    → filter_map filled_piece (module_fillings modules placement numbered)
    ≡ filter has_own_place (pieces_of_module numbered.1)
module_pieces modules placement numbered =
    let address_of = address_of_object modules placement numbered.0 (numbered.1).0 in
    let objects = zip ((numbered.1).0).objects ((numbered.1).1).objects in
    let lists = zip ((numbered.1).0).constants.lists ((numbered.1).1).lists in
    filter_map-append filled_piece (map (object_filling address_of) objects) (map list_filling lists)
    ∙ ap₂ (λ one other. one ++ other) (own_objects address_of objects) (own_lists lists)
    ∙ sym (filter-append has_own_place (filter_map object_piece objects) (map list_piece lists))

all_pieces :
    (modules : List TypedModule) (placement : Placement) (number : ℕ)
    (placed : List (TypedModule × ModulePlacement))
    → filter_map filled_piece (fillings modules placement (enumerate_from number placed))
    ≡ filter has_own_place (flat_map pieces_of_module placed)
all_pieces modules placement number [] = refl
all_pieces modules placement number (first ∷ others) =
    ap (filter_map filled_piece)
    (flat_map-cons (module_fillings modules placement) (number, first)
    (enumerate_from (number + 1) others))
    ∙ filter_map-append filled_piece (module_fillings modules placement (number, first))
    (fillings modules placement (enumerate_from (number + 1) others))
    ∙ ap₂ (λ one other. one ++ other) (module_pieces modules placement (number, first))
    (all_pieces modules placement (number + 1) others)
    ∙ sym (filter-append has_own_place (pieces_of_module first) (flat_map pieces_of_module others))
    ∙ ap (filter has_own_place) (sym (flat_map-cons pieces_of_module first others))

values_size :
    (address_of : ℕ → ℕ) (values : List InitialValue)
    → length (flat_map (bytes_of_value address_of) values) ≡ sum_by size_of_value values
values_size address_of values =
    length-flat_map (bytes_of_value address_of) values ∙ each values
  where
    each : (some : List InitialValue) → sum_by (λ value. length (bytes_of_value address_of value)) some
        ≡ sum_by size_of_value some
    each [] = refl
    each (value ∷ others) =
        sum_by-cons (λ value. length (bytes_of_value address_of value)) value others
        ∙ ap₂ (λ one other. one + other) (value_bytes address_of value) (each others)
        ∙ sym (sum_by-cons size_of_value value others)

object_fills :
    (address_of : ℕ → ℕ) (placed : TypedObject × ℕ)
    → bytes_filled (placed.0).home ≤ size_of_object placed.0
    → Fills (contents_of_object address_of placed) (own_one (object_piece placed))
object_fills address_of placed filled = by_home (placed.0).home refl filled
  where
    by_home :
        (home : Home) → (placed.0).home ≡ home
        → bytes_filled (placed.0).home ≤ size_of_object placed.0
        → Fills (contents_of_object address_of placed) (own_one (object_piece placed))
    by_home (InData values) same fits =
        rw same (refl, omega (arith, values_size address_of values, subst (λ (home : Home). bytes_filled home ≤ size_of_object placed.0) same fits))
    by_home (InConstants values) same fits =
        rw same (refl, omega (arith, values_size address_of values, subst (λ (home : Home). bytes_filled home ≤ size_of_object placed.0) same fits))
    by_home (Placed at) same fits = rw same refl
    by_home (BasedOn base) same fits = rw same refl
    by_home Elsewhere same fits = rw same refl
    by_home Nowhere same fits = rw same refl
    by_home (InFrame procedure) same fits = rw same refl

abbrev FillsOne : Filling → Type 0
FillsOne filling = Fills filling.0 filling.1

objects_fill :
    (address_of : ℕ → ℕ) (objects : List TypedObject) (addresses : List ℕ)
    → All (λ (object : TypedObject). bytes_filled object.home ≤ size_of_object object) objects
    → All FillsOne (map (object_filling address_of) (zip objects addresses))
objects_fill address_of [] addresses filled = λ k d within. absurd (omega (arith, within))
objects_fill address_of (object ∷ objects) [] filled = λ k d within. absurd (omega (arith, within))
objects_fill address_of (object ∷ objects) (address ∷ addresses) filled =
    All-cons FillsOne (object_filling address_of (object, address))
    (map (object_filling address_of) (zip objects addresses))
    (object_fills address_of (object, address) (filled 0 object (omega arith)))
    (objects_fill address_of objects addresses (λ k d within. filled (suc k) d (omega (arith, within))))

lists_fill :
    (lists : List (List ℕ × ℕ)) → All FillsOne (map list_filling lists)
lists_fill [] = λ k d within. absurd (omega (arith, within))
lists_fill (placed ∷ others) =
    All-cons FillsOne (list_filling placed) (map list_filling others) (refl, omega arith) (lists_fill others)

all_fill :
    (modules : List TypedModule) (placement : Placement) (number : ℕ) (some : List TypedModule)
    (placed : List ModulePlacement)
    → All IsStorable some
    → All FillsOne (fillings modules placement (enumerate_from number (zip some placed)))
all_fill modules placement number [] placed storable = λ k d within. absurd (omega (arith, within))
all_fill modules placement number (typed ∷ some) [] storable = λ k d within. absurd (omega (arith, within))
all_fill modules placement number (typed ∷ some) (first ∷ placed) storable =
    let address_of = address_of_object modules placement number typed in
    rw (flat_map-cons (module_fillings modules placement) (number, (typed, first))
    (enumerate_from (number + 1) (zip some placed)))
    (All-append FillsOne (module_fillings modules placement (number, (typed, first)))
    (fillings modules placement (enumerate_from (number + 1) (zip some placed)))
    (All-append FillsOne (map (object_filling address_of) (zip typed.objects first.objects))
    (map list_filling (zip typed.constants.lists first.lists))
    (objects_fill address_of typed.objects first.objects (storable 0 typed (omega arith)).filled)
    (lists_fill (zip typed.constants.lists first.lists)))
    (all_fill modules placement (number + 1) some placed
    (λ k d within. storable (suc k) d (omega (arith, within)))))

-- contents without bytes cover nothing, and those of a piece only its addresses
covers_piece :
    (contents : Contents) (piece : PlacedPiece) (address : ℕ)
    → Fills contents (Some piece) → Covers contents address → IsIn address piece.range
covers_piece contents piece address fills covers =
    let start = fills.0 in
    let many = fills.1 in
    (omega (arith, start, covers.0), omega (arith, start, many, covers.1))

covers_nothing : (contents : Contents) (address : ℕ) → length contents.1 ≡ 0 → Covers contents address → ⊥
covers_nothing contents address none covers = omega (arith, none, covers.0, covers.1)

-- one is apart from those whose pieces are apart from its own
apart_from :
    (contents : Contents) (piece : PlacedPiece) (others : List Filling)
    → Fills contents (Some piece)
    → All FillsOne others
    → All (AreDisjoint piece) (filter_map filled_piece others)
    → All (AreApart contents) (map contents_in others)
apart_from contents piece [] fills all disjoint = λ k d within. absurd (omega (arith, within))
apart_from contents piece ((other, None) ∷ others) fills all disjoint =
    All-cons (AreApart contents) other (map contents_in others)
    (λ address one two. covers_nothing other address (all 0 (other, None) (omega arith)) two)
    (apart_from contents piece others fills (λ k d within. all (suc k) d (omega (arith, within))) disjoint)
apart_from contents piece ((other, Some its) ∷ others) fills all disjoint =
    All-cons (AreApart contents) other (map contents_in others)
    (λ address one two.
    disjoint 0 its (omega arith)
    (address, covers_piece contents piece address fills one, covers_piece other its address (all 0 (other, Some its) (omega arith)) two))
    (apart_from contents piece others fills (λ k d within. all (suc k) d (omega (arith, within)))
    (λ k d within. disjoint (suc k) d (omega (arith, within))))

none_apart :
    (contents : Contents) (others : List Filling) → length contents.1 ≡ 0
    → All (AreApart contents) (map contents_in others)
none_apart contents [] none = λ k d within. absurd (omega (arith, within))
none_apart contents (other ∷ others) none =
    All-cons (AreApart contents) (contents_in other) (map contents_in others)
    (λ address one two. covers_nothing contents address none one) (none_apart contents others none)

each_apart :
    (some : List Filling) → All FillsOne some → AllPairs AreDisjoint (filter_map filled_piece some)
    → EachApart (map contents_in some)
each_apart [] all disjoint = tt
each_apart ((contents, None) ∷ others) all disjoint = (
  none_apart contents others (all 0 (contents, None) (omega arith)),
  each_apart others (λ k d within. all (suc k) d (omega (arith, within))) disjoint,
)
each_apart ((contents, Some piece) ∷ others) all disjoint = (
  apart_from contents piece others (all 0 (contents, Some piece) (omega arith))
      (λ k d within. all (suc k) d (omega (arith, within)))
      (λ k d within. disjoint 0 (suc k) d (omega arith) (omega (arith, within))),
  each_apart others (λ k d within. all (suc k) d (omega (arith, within)))
      (λ i j d less within. disjoint (suc i) (suc j) d (omega (arith, less)) (omega (arith, within))),
)

-- contents that have bytes lie in memory, and what they cover is declared
pub record LiesInPieces (pieces : List PlacedPiece) (contents : Contents) : Type 0 where
  pub ends : 0 < length contents.1 → contents.0 + length contents.1 ≤ MEMORY_SIZE
  pub declared : (address : ℕ) → Covers contents address → list_any (holds_byte address) pieces ≡ true

in_own :
    (some : List Filling) (wanted : Contents)
    → All FillsOne some
    → All (λ (piece : PlacedPiece). EndsInMemory piece.range) (filter_map filled_piece some)
    → IsAmong wanted (map contents_in some)
    → LiesInPieces (filter_map filled_piece some) wanted
in_own [] wanted all ends among = absurd among
in_own ((contents, None) ∷ others) wanted all ends (inl same) =
    let none : length wanted.1 ≡ 0 =
    subst (λ (each : Contents). length each.1 ≡ 0) (sym same) (all 0 (contents, None) (omega arith)) in
    record {
      ends = λ some. absurd (omega (arith, none, some));
      declared = λ address covers. absurd (covers_nothing wanted address none covers);
    }
in_own ((contents, None) ∷ others) wanted all ends (inr further) =
    in_own others wanted (λ k d within. all (suc k) d (omega (arith, within))) ends further
in_own ((contents, Some piece) ∷ others) wanted all ends (inl same) =
    let fills : Fills wanted (Some piece) =
    subst (λ (each : Contents). Fills each (Some piece)) (sym same)
    (all 0 (contents, Some piece) (omega arith)) in
    let limit = ends 0 piece (omega arith) in
    record {
      ends = λ some. omega (arith, fills.0, fills.1, limit);
      declared = λ address covers.
          rw ((Decides-holds address piece).1 (covers_piece wanted piece address fills covers)) refl;
    }
in_own ((contents, Some piece) ∷ others) wanted all ends (inr further) =
    let rest = in_own others wanted (λ k d within. all (suc k) d (omega (arith, within)))
    (λ k d within. ends (suc k) d (omega (arith, within))) further in
    record {
      ends = rest.ends;
      declared = λ address covers. or_right (holds_byte address piece) _ (rest.declared address covers);
    }

-- what a filter leaves out does not undo a test
any_kept : (p q : PlacedPiece → Bool) (pieces : List PlacedPiece) → list_any p (filter q pieces) ≡ true
    → list_any p pieces ≡ true
any_kept p q [] is = is
any_kept p q (piece ∷ others) is = by_test (q piece) (any_kept p q others) is
  where
    by_test :
        (passes : Bool)
        → (list_any p (filter q others) ≡ true → list_any p others ≡ true)
        → list_any p (if passes then piece ∷ filter q others else filter q others) ≡ true
        → (p piece || list_any p others) ≡ true
    by_test true next found = or_kept (p piece) (list_any p (filter q others)) (list_any p others) next found
    by_test false next found = or_right (p piece) (list_any p others) (next found)

-- the memory that a run starts with, at a lawful placement
pub starts_as :
    (modules : List TypedModule) (placement : Placement) (given : List ℕ)
    → IsLawful modules placement
    → All IsStorable modules
    → length given ≡ MEMORY_SIZE
    → StartsAs modules placement given (starting_memory modules placement given)
unfolding starting_memory
starts_as modules placement given lawful storable size =
    let numbered = enumerate_from 0 (zip modules placement.modules) in
    let some = fillings modules placement numbered in
    let all = all_fill modules placement 0 modules placement.modules storable in
    let contents : map contents_in some ≡ contents_of modules placement =
    all_contents modules placement numbered in
    let pieces : filter_map filled_piece some ≡ own_pieces modules placement =
    all_pieces modules placement 0 (zip modules placement.modules) in
    let apart : EachApart (contents_of modules placement) =
    subst EachApart contents
    (each_apart some all (subst (AllPairs AreDisjoint) (sym pieces) lawful.disjoint)) in
    let ends : All (λ (piece : PlacedPiece). EndsInMemory piece.range) (filter_map filled_piece some) =
    subst (All (λ (piece : PlacedPiece). EndsInMemory piece.range)) (sym pieces)
    (All-filter has_own_place (λ (piece : PlacedPiece). EndsInMemory piece.range)
    (pieces_of modules placement) lawful.in_memory) in
    let lies : (wanted : Contents) → IsAmong wanted (contents_of modules placement)
    → LiesInPieces (own_pieces modules placement) wanted =
    λ wanted among.
    subst (λ list. LiesInPieces list wanted) pieces
    (in_own some wanted all ends (subst (IsAmong wanted) (sym contents) among)) in
    record {
      size = all_size given (contents_of modules placement);
      covered = λ wanted among index within.
          all_here given (contents_of modules placement) wanted index apart
          (rw size ((lies wanted among).ends (omega (arith, within)))) among within;
      others = λ address none. all_elsewhere given (contents_of modules placement) address none;
      declared = λ wanted among address covers.
          any_kept (holds_byte address) has_own_place (pieces_of modules placement)
          ((lies wanted among).declared address covers);
    }
