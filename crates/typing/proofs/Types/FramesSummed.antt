-- The frame bytes of the procedures of a text so far are those of their variables, and go on to be as its
-- tables grow.
use Rattle.typing.proofs.Prelude.{◌≡◌, ℕ, zero, suc, ◌+◌, ◌<◌, ◌≤◌, ◌==◌, Bool, true, false, List, [], ◌∷◌, ◌++◌, length, sum_by, slice_get, Option, None, Some, if◌then◌else◌, cond, nat_le, refl, sym, ap, ◌∙◌, subst, length-append, zero-le, arith, All, not, is_some, ◌&&◌, AllByRecursion, enumerate_from, option_map_or, eqb-true, eqb-false, eq-eqb, ne_eqb, leb-true, All-append, All-cons, All-nil, All-weaker, All-from_recursion, recursion_from_All, sum_by-append, sum_by-cons, Identifier, ItemTree, HeadingTree, FRAME_LIMIT, AtAddress, InitialValue, Home, InData, InConstants, Placed, BasedOn, Elsewhere, Nowhere, InFrame, TypedObject, TypedProcedure, TypedModule, size_of_object, is_in_frame, variable_bytes, FrameFits, FramesFit, Known, Owner, TheModule, OfProcedure, Block, Progress, is_external_linkage, is_reentrant, TypedItem, base_of, typed_base, extents_of, typed_type, check_linkage, typed_at, typed_contents, is_data, home_in, home_with_values, home_of, object_named, bytes_in_frame, with_typed_object, with_objects, typed_item, got_first}
use Rattle.typing.proofs.Kept.{Gives, gives_ok, gives_after, in_turn, required}
use Rattle.typing.proofs.Tables.{keeps_append}

-- whose frame a block adds to, and any other
abbrev pub IsOwn : Owner → (procedure : ℕ) → Type 0
IsOwn TheModule procedure = ⊥
IsOwn (OfProcedure number heading) procedure = (procedure ≡ number) × (is_some heading.reentrant ≡ true)

abbrev pub IsOther : Owner → (procedure : ℕ) → Type 0
IsOther TheModule procedure = Unit {0}
IsOther (OfProcedure number heading) procedure = procedure ≡ number → ⊥

-- objects of a block live in its own frame or in none
abbrev pub HomeFits : Owner → Home → Type 0
HomeFits owner (InFrame procedure) = IsOwn owner procedure
HomeFits owner home = Unit {0}

-- frames are those of procedures so far
abbrev HomeBelow : (count : ℕ) → Home → Type 0
HomeBelow count (InFrame procedure) = procedure < count
HomeBelow count home = Unit {0}

abbrev IsBelow : (count : ℕ) → TypedObject → Type 0
IsBelow count object = HomeBelow count object.home

-- the frame of the procedure that the place is in; one that is not REENTRANT has none
pub record OwnFrame (number : ℕ) (heading : HeadingTree) (objects : List TypedObject)
    (procedures : List TypedProcedure)
    (frame : ℕ) : Type 0 where
  pub stands : number < length procedures
  pub sum : frame ≡ sum_by (variable_bytes number) objects
  pub bytes : frame ≤ FRAME_LIMIT
  pub none : is_some heading.reentrant ≡ false → frame ≡ 0
  pub entry : (procedure : TypedProcedure) → slice_get procedures number ≡ Some procedure
      → procedure.frame_bytes ≡ 0

abbrev pub OwnFits : Owner → List TypedObject → List TypedProcedure → ℕ → Type 0
OwnFits TheModule objects procedures frame = Unit {0}
OwnFits (OfProcedure number heading) objects procedures frame =
    OwnFrame number heading objects procedures frame

-- the frames so far
pub record Summed (owner : Owner) (objects : List TypedObject)
    (procedures : List TypedProcedure) (frame : ℕ) :
    Type 0 where
  pub below : All (IsBelow (length procedures)) objects
  pub others : (number : ℕ) (procedure : TypedProcedure) → slice_get procedures number ≡ Some procedure
      → IsOther owner number → FrameFits objects number procedure
  pub own : OwnFits owner objects procedures frame

pub none_summed : Summed TheModule [] [] 0
none_summed = record { below = All-nil _; others = λ number procedure e. absurd cc; own = tt }

-- an object adds nothing to another's frame
sum_more : (number : ℕ) (objects : List TypedObject) (object : TypedObject)
    → sum_by (variable_bytes number) (objects ++ object ∷ [])
    ≡ sum_by (variable_bytes number) objects + variable_bytes number object
sum_more number objects object =
    omega (
      arith,
      sum_by-append (variable_bytes number) objects (object ∷ []),
      sum_by-cons (variable_bytes number) object [],
    )

not_in_frame : (number : ℕ) (home : Home) (object : TypedObject) → is_in_frame number home ≡ false
    → (if is_in_frame number home && not object.is_parameter then size_of_object object else 0) ≡ 0
not_in_frame number home object is =
    ap (λ (in_frame : Bool). if in_frame && not object.is_parameter then size_of_object object else 0) is

other_frame : (owner : Owner) (number : ℕ) (home : Home) → HomeFits owner home → IsOther owner number
    → is_in_frame number home ≡ false
other_frame owner number (InData values) fits other = refl
other_frame owner number (InConstants values) fits other = refl
other_frame owner number (Placed at) fits other = refl
other_frame owner number (BasedOn base) fits other = refl
other_frame owner number Elsewhere fits other = refl
other_frame owner number Nowhere fits other = refl
other_frame TheModule number (InFrame procedure) fits other = absurd fits
other_frame (OfProcedure own heading) number (InFrame procedure) fits other =
    ne_eqb number procedure (λ same. other (same ∙ fits.0))

-- and to its own what the text counts
own_bytes : (number : ℕ) (heading : HeadingTree) (home : Home) (object : TypedObject)
    → HomeFits (OfProcedure number heading) home
    → bytes_in_frame home object
    ≡ (if is_in_frame number home && not object.is_parameter then size_of_object object else 0)
own_bytes number heading (InData values) object fits = refl
own_bytes number heading (InConstants values) object fits = refl
own_bytes number heading (Placed at) object fits = refl
own_bytes number heading (BasedOn base) object fits = refl
own_bytes number heading Elsewhere object fits = refl
own_bytes number heading Nowhere object fits = refl
own_bytes number heading (InFrame procedure) object fits =
    by object.is_parameter
    ∙ ap (λ (same : Bool). if same && not object.is_parameter then size_of_object object else 0)
    (sym (eq-eqb number procedure (sym fits.0)))
  where
    by : (is_parameter : Bool)
        → (if is_parameter then 0 else size_of_object object)
        ≡ (if true && not is_parameter then size_of_object object else 0)
    by true = refl
    by false = refl

no_own_bytes : (number : ℕ) (heading : HeadingTree) (home : Home) (object : TypedObject)
    → HomeFits (OfProcedure number heading) home → is_some heading.reentrant ≡ false
    → bytes_in_frame home object ≡ 0
no_own_bytes number heading (InData values) object fits none = refl
no_own_bytes number heading (InConstants values) object fits none = refl
no_own_bytes number heading (Placed at) object fits none = refl
no_own_bytes number heading (BasedOn base) object fits none = refl
no_own_bytes number heading Elsewhere object fits none = refl
no_own_bytes number heading Nowhere object fits none = refl
no_own_bytes number heading (InFrame procedure) object fits none = let is = fits.1 in absurd cc

-- one more object
home_below : (owner : Owner) (objects : List TypedObject) (procedures : List TypedProcedure)
    (frame : ℕ) (home : Home)
    → HomeFits owner home → OwnFits owner objects procedures frame → HomeBelow (length procedures) home
home_below owner objects procedures frame (InData values) fits own = tt
home_below owner objects procedures frame (InConstants values) fits own = tt
home_below owner objects procedures frame (Placed at) fits own = tt
home_below owner objects procedures frame (BasedOn base) fits own = tt
home_below owner objects procedures frame Elsewhere fits own = tt
home_below owner objects procedures frame Nowhere fits own = tt
home_below TheModule objects procedures frame (InFrame procedure) fits own = absurd fits
home_below (OfProcedure number heading) objects procedures frame (InFrame procedure) fits own =
    omega (arith, fits.0, own.stands)

own_more : (owner : Owner) (objects : List TypedObject) (procedures : List TypedProcedure) (frame : ℕ)
    (object : TypedObject)
    → HomeFits owner object.home → frame + bytes_in_frame object.home object ≤ FRAME_LIMIT
    → OwnFits owner objects procedures frame
    → OwnFits owner (objects ++ object ∷ []) procedures (frame + bytes_in_frame object.home object)
own_more TheModule objects procedures frame object fits small own = tt
own_more (OfProcedure number heading) objects procedures frame object fits small own = record {
  stands = own.stands;
  sum = omega
      (arith, own.sum, own_bytes number heading object.home object fits, sum_more number objects object);
  bytes = small;
  none = λ plain. omega (arith, own.none plain, no_own_bytes number heading object.home object fits plain);
  entry = own.entry;
}

pub object_summed : {owner : Owner} {objects : List TypedObject}
    {procedures : List TypedProcedure} {frame : ℕ}
    (object : TypedObject)
    → HomeFits owner object.home → frame + bytes_in_frame object.home object ≤ FRAME_LIMIT
    → Summed owner objects procedures frame
    → Summed owner (objects ++ object ∷ []) procedures (frame + bytes_in_frame object.home object)
object_summed {owner} {objects} {procedures} {frame} object fits small summed =
    let Below : TypedObject → Type 0 = IsBelow (length procedures) in
    record {
      below = All-append Below objects (object ∷ []) summed.below
          (All-cons Below object []
          (home_below owner objects procedures frame object.home fits summed.own) (All-nil Below));
      others = λ number procedure e other.
          let before = summed.others number procedure e other in
          record {
            variables = omega (
              arith,
              before.variables,
              sum_more number objects object,
              not_in_frame number object.home object (other_frame owner number object.home fits other),
            );
            bytes = before.bytes;
          };
      own = own_more owner objects procedures frame object fits small summed.own;
    }

-- into a procedure, of which nothing is in a frame yet
none_in_frame : (number : ℕ) (objects : List TypedObject) → AllByRecursion (IsBelow number) objects
    → sum_by (variable_bytes number) objects ≡ 0
none_in_frame number [] below = refl
none_in_frame number (object ∷ objects) below =
    omega (
      arith,
      sum_by-cons (variable_bytes number) object objects,
      none_in_frame number objects below.1,
      not_in_frame number object.home object (before_it object.home below.0),
    )
  where
    before_it : (home : Home) → HomeBelow number home → is_in_frame number home ≡ false
    before_it (InData values) is = refl
    before_it (InConstants values) is = refl
    before_it (Placed at) is = refl
    before_it (BasedOn base) is = refl
    before_it Elsewhere is = refl
    before_it Nowhere is = refl
    before_it (InFrame procedure) is = ne_eqb number procedure (λ same. absurd (omega (arith, same, is)))

-- one number or another
same_or_other : {A : Type 0} (one other : ℕ) → (one ≡ other → A) → ((one ≡ other → ⊥) → A) → A
same_or_other {A} one other same differ = go (one == other) refl
  where
    go : (is : Bool) → (one == other) ≡ is → A
    go true e = same (eqb-true one other e)
    go false e = differ (eqb-false one other e)

get_before : {X : Type 0} (before : List X) (last : X) (number : ℕ) (x : X)
    → slice_get (before ++ last ∷ []) number ≡ Some x → (number ≡ length before → ⊥)
    → slice_get before number ≡ Some x
get_before [] last zero x e differ = absurd (differ refl)
get_before [] last (suc number) x e differ = absurd cc
get_before (first ∷ before) last zero x e differ = e
get_before (first ∷ before) last (suc number) x e differ =
    get_before before last number x e (λ same. differ (ap suc same))

opened_others : (owner : Owner) (objects : List TypedObject) (procedures : List TypedProcedure) (frame : ℕ)
    → is_reentrant owner ≡ false → Summed owner objects procedures frame
    → (number : ℕ) (procedure : TypedProcedure) → slice_get procedures number ≡ Some procedure
    → FrameFits objects number procedure
opened_others TheModule objects procedures frame plain summed number procedure e =
    summed.others number procedure e tt
opened_others (OfProcedure own heading) objects procedures frame plain summed number procedure e =
    same_or_other number own
    (λ same.
    let entry =
    summed.own.entry procedure (subst (λ (at : ℕ). slice_get procedures at ≡ Some procedure) same e) in
    subst (λ (at : ℕ). FrameFits objects at procedure) (sym same) (record {
      variables = omega (arith, entry, summed.own.none plain, summed.own.sum);
      bytes = omega (arith, entry);
    }))
    (λ differ. summed.others number procedure e differ)

pub procedure_summed : {owner : Owner} {objects : List TypedObject}
    {procedures : List TypedProcedure} {frame : ℕ}
    (heading : HeadingTree) (procedure : TypedProcedure)
    → is_reentrant owner ≡ false → procedure.frame_bytes ≡ 0
    → Summed owner objects procedures frame
    → Summed (OfProcedure (length procedures) heading) objects (procedures ++ procedure ∷ []) 0
procedure_summed {owner} {objects} {procedures} {frame} heading procedure plain none summed =
    let count : ℕ = length procedures in
    let longer : length (procedures ++ procedure ∷ []) ≡ count + 1 =
    length-append procedures (procedure ∷ []) in
    record {
      below = All-weaker (IsBelow count) (IsBelow (length (procedures ++ procedure ∷ [])))
          (λ object is.
          still_below count (length (procedures ++ procedure ∷ [])) object.home longer is)
          objects summed.below;
      others = λ number each e differ.
          opened_others owner objects procedures frame plain summed number each
          (get_before procedures procedure number each e differ);
      own = record {
        stands = omega (arith, longer);
        sum = sym (none_in_frame count objects (recursion_from_All (IsBelow count) objects summed.below));
        bytes = zero-le;
        none = λ is. refl;
        entry = λ each e.
            let same : Some procedure ≡ Some each = sym (got_first procedures procedure []) ∙ e in
            let is : procedure ≡ each = cc in
            sym (ap (λ (one : TypedProcedure). one.frame_bytes) is) ∙ none;
      };
    }
  where
    still_below : (count more : ℕ) (home : Home) → more ≡ count + 1 → HomeBelow count home
        → HomeBelow more home
    still_below count more (InData values) e is = tt
    still_below count more (InConstants values) e is = tt
    still_below count more (Placed at) e is = tt
    still_below count more (BasedOn base) e is = tt
    still_below count more Elsewhere e is = tt
    still_below count more Nowhere e is = tt
    still_below count more (InFrame procedure) e is = omega (arith, is, e)

-- out of a procedure
get_in_place : {X : Type 0} (before : List X) (first last : X) (added : List X) (number : ℕ) (x : X)
    → slice_get (before ++ last ∷ added) number ≡ Some x → (number ≡ length before → ⊥)
    → slice_get (before ++ first ∷ added) number ≡ Some x
get_in_place [] first last added zero x e differ = absurd (differ refl)
get_in_place [] first last added (suc number) x e differ = e
get_in_place (one ∷ before) first last added zero x e differ = e
get_in_place (one ∷ before) first last added (suc number) x e differ =
    get_in_place before first last added number x e (λ same. differ (ap suc same))

get_in_front : {X : Type 0} (before rest : List X) (number : ℕ) (x : X)
    → slice_get (before ++ rest) number ≡ Some x → number < length before → slice_get before number ≡ Some x
get_in_front [] rest number x e small = absurd (omega (arith, small))
get_in_front (one ∷ before) rest zero x e small = e
get_in_front (one ∷ before) rest (suc number) x e small =
    get_in_front before rest number x e (omega (arith, small))

some_at : {X : Type 0} {A : Type 0} (all : List X) (number : ℕ) → number < length all
    → ((x : X) → slice_get all number ≡ Some x → A) → A
some_at [] number small then_is = absurd (omega (arith, small))
some_at (one ∷ all) zero small then_is = then_is one refl
some_at (one ∷ all) (suc number) small then_is = some_at all number (omega (arith, small)) then_is

module _ (objects : List TypedObject) (before added : List TypedProcedure)
    (first last : TypedProcedure) (frame : ℕ)
    (heading : HeadingTree) (is : last.frame_bytes ≡ frame)
    (inside : Summed (OfProcedure (length before) heading) objects (before ++ first ∷ added) frame) where
  closed_others : (number : ℕ) (procedure : TypedProcedure)
      → slice_get (before ++ last ∷ added) number ≡ Some procedure → FrameFits objects number procedure
  closed_others number procedure e =
      same_or_other number (length before)
      (λ same.
      let there : Some last ≡ Some procedure =
      sym (got_first before last added)
      ∙ subst (λ (at : ℕ). slice_get (before ++ last ∷ added) at ≡ Some procedure) same e in
      let it : last ≡ procedure = cc in
      let bytes : procedure.frame_bytes ≡ frame =
      ap (λ (one : TypedProcedure). one.frame_bytes) (sym it) ∙ is in
      subst (λ (at : ℕ). FrameFits objects at procedure) (sym same) (record {
        variables = bytes ∙ inside.own.sum;
        bytes = omega (arith, bytes, inside.own.bytes);
      }))
      (λ differ. inside.others number procedure
      (get_in_place before first last added number procedure e differ) differ)

  closed_own : (owner : Owner) (frame_before : ℕ) (objects_before : List TypedObject)
      → OwnFits owner objects_before before frame_before
      → OwnFits owner objects (before ++ last ∷ added) 0
  closed_own TheModule frame_before objects_before own = tt
  closed_own (OfProcedure number its) frame_before objects_before own = record {
    stands = omega (arith, own.stands, length-append before (last ∷ added));
    sum = some_at before number own.stands (λ procedure e.
        let kept = keeps_append before (last ∷ added) number procedure e in
        let fits = closed_others number procedure kept in
        omega (arith, fits.variables, own.entry procedure e));
    bytes = zero-le;
    none = λ plain. refl;
    entry = λ procedure e. own.entry procedure
        (get_in_front before (last ∷ added) number procedure e own.stands);
  }

  pub closed_summed : (owner : Owner) (frame_before : ℕ) (objects_before : List TypedObject)
      → OwnFits owner objects_before before frame_before
      → Summed owner objects (before ++ last ∷ added) 0
  closed_summed owner frame_before objects_before own = record {
    below = subst (λ (count : ℕ). All (IsBelow count) objects) same_length inside.below;
    others = λ number procedure e other. closed_others number procedure e;
    own = closed_own owner frame_before objects_before own;
  }
    where
      same_length : length (before ++ first ∷ added) ≡ length (before ++ last ∷ added)
      same_length = length-append before (first ∷ added) ∙ sym (length-append before (last ∷ added))

-- where an item lives
home_fits : (owner : Owner) (item : ItemTree) (base : Option ℕ) (at : Option AtAddress)
    (values : List InitialValue)
    → HomeFits owner (home_of owner item base at values)
home_fits owner item (Some base) at values = tt
home_fits owner item None at values = placed (is_external_linkage item.linkage) at (is_data item.value_list)
  where
    of_procedure : (number : ℕ) (heading : HeadingTree) (outside in_frame : Bool)
        → is_some heading.reentrant ≡ in_frame
        → HomeFits (OfProcedure number heading)
        (cond outside Nowhere (cond in_frame (InFrame number) (InData values)))
    of_procedure number heading true in_frame e = tt
    of_procedure number heading false true e = (refl, e)
    of_procedure number heading false false e = tt

    in_owner : (owner : Owner) → HomeFits owner (home_in owner values)
    in_owner TheModule = tt
    in_owner (OfProcedure number heading) =
        of_procedure number heading (is_external_linkage heading.linkage) (is_some heading.reentrant) refl

    with_values : (has_data : Bool) → HomeFits owner (home_with_values owner has_data values)
    with_values true = tt
    with_values false = in_owner owner

    placed : (outside : Bool) (at : Option AtAddress) (has_data : Bool)
        → HomeFits owner
        (cond outside Elsewhere (option_map_or Placed at (home_with_values owner has_data values)))
    placed true at has_data = tt
    placed false (Some address) has_data = tt
    placed false None has_data = with_values has_data

pub typed_item_home : (known : Known) (block : Block) (item : ItemTree)
    → Gives (λ (typed : TypedItem). HomeFits block.owner typed.home) (typed_item known block item)
typed_item_home known block item =
    gives_after (typed_base known block item.subject (base_of item.subject)) λ base.
    gives_after (extents_of block item item.dimension) λ extents.
    gives_after (typed_type block item item.item_type) λ object_type.
    gives_after (check_linkage block item item.linkage) λ may_stand.
    gives_after (typed_at known block item item.at) λ at.
    gives_after (typed_contents known block item object_type extents item.value_list) λ filled.
    gives_ok (home_fits block.owner item base at filled.values)

-- the objects of an item
abbrev pub SummedAt : Owner → Progress → Type 0
SummedAt owner progress = Summed owner progress.known.objects progress.known.procedures progress.frame

pub with_objects-summed : (block : Block) (item : TypedItem) (names : List Identifier) (progress : Progress)
    → HomeFits block.owner item.home → SummedAt block.owner progress
    → Gives (SummedAt block.owner) (with_objects block item names progress)
with_objects-summed block item [] progress fits summed = gives_ok summed
with_objects-summed block item (name ∷ others) progress fits summed =
    let object : TypedObject = object_named block item name.name in
    in_turn (required (nat_le (with_typed_object item.linkage object progress).frame FRAME_LIMIT) _ _)
    λ _ small.
    with_objects-summed block item others (with_typed_object item.linkage object progress) fits
    (object_summed object fits (leb-true _ _ small) summed)

-- so it is at the end of a module
all_fit : (objects : List TypedObject) (number : ℕ) (procedures : List TypedProcedure)
    → ((at : ℕ) (procedure : TypedProcedure) → slice_get procedures at ≡ Some procedure
    → FrameFits objects (number + at) procedure)
    → AllByRecursion (λ (numbered : ℕ × TypedProcedure). FrameFits objects numbered.0 numbered.1)
    (enumerate_from number procedures)
all_fit objects number [] fits = tt
all_fit objects number (procedure ∷ procedures) fits = (
  subst (λ (at : ℕ). FrameFits objects at procedure) (omega arith) (fits 0 procedure refl),
  all_fit objects (number + 1) procedures (λ at each e.
      subst (λ (place : ℕ). FrameFits objects place each) (omega arith) (fits (suc at) each e)),
)

pub frames_fit : (typed : TypedModule) (frame : ℕ)
    → Summed TheModule typed.objects typed.procedures frame → typed.main.frame_bytes ≡ 0 → FramesFit typed
frames_fit typed frame summed none = record {
  procedures =
      All-from_recursion (λ (numbered : ℕ × TypedProcedure). FrameFits typed.objects numbered.0 numbered.1)
      (enumerate_from 0 typed.procedures)
      (all_fit typed.objects 0 typed.procedures (λ at procedure e.
      subst (λ (place : ℕ). FrameFits typed.objects place procedure) (omega arith)
      (summed.others at procedure e tt)));
  main = none;
}
