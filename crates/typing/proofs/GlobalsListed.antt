-- The globals of a text so far are listed, and go on to be as its tables grow.
use Rattle.typing.proofs.Prelude.{◌≡◌, ℕ, ◌+◌, Bool, true, false, List, [], ◌∷◌, ◌++◌, length, Option, None, Some, if◌then◌else◌, cond, nat_le, refl, sym, ap, ◌∙◌, append-nil, arith, filter_map, All, is_none, is_some, ◌&&◌, cons_option, enumerate_from, option_map_or, All-append, All-cons, All-nil, filter_map-append, Linkage, Public, External, Identifier, SubjectTree, ItemTree, HeadingTree, AtAddress, GlobalItem, GlobalObject, GlobalProcedure, InitialValue, Home, InData, InConstants, Placed, BasedOn, Elsewhere, Nowhere, InFrame, TypedObject, TypedProcedure, TypedModule, shared_object, shared_procedure, is_shared, is_global, global_object, global_procedure, IsHereIfPublic, ListsGlobals, FRAME_LIMIT, TooLarge, require, Known, place_of, Owner, TheModule, OfProcedure, Block, Progress, with_global, is_public_linkage, is_external_linkage, is_module_level, TypedItem, base_of, typed_base, extents_of, typed_type, check_linkage, typed_at, typed_contents, is_data, home_with_values, object_named, with_typed_object, with_objects, typed_item, visibility_of, and_parts}
use Rattle.typing.proofs.Kept.{Gives, then_more, gives_ok, gives_after, in_turn, required}
use Rattle.typing.proofs.Storage.Storable.{enumerate_more}
use Rattle.typing.proofs.Types.TypesKept.{Heading, headings}

-- the number of a procedure that is PUBLIC or EXTERNAL, by its heading
abbrev pub global_heading : ℕ × Heading → Option ℕ
global_heading numbered = if is_global (numbered.1).2 then Some numbered.0 else None

-- the globals so far
pub record Listed (objects : List TypedObject) (heads : List Heading)
    (globals : List GlobalItem) : Type 0 where
  pub objects_stand : filter_map shared_object globals ≡ filter_map global_object (enumerate_from 0 objects)
  pub procedures_stand : filter_map shared_procedure globals
      ≡ filter_map global_heading (enumerate_from 0 heads)
  pub here : All (λ (object : TypedObject). IsHereIfPublic object.home object.is_public) objects

pub none_listed : Listed [] [] []
none_listed = record { objects_stand = refl; procedures_stand = refl; here = All-nil _ }

abbrev listed_if : Bool → ℕ → List ℕ
listed_if is number = if is then number ∷ [] else []

-- one more global in the list, and one more in a table
shared_more : (share : GlobalItem → Option ℕ) (linkage : Option Linkage) (item : GlobalItem)
    (globals : List GlobalItem)
    (number : ℕ)
    → share item ≡ Some number
    → filter_map share (with_global linkage item globals)
    ≡ filter_map share globals ++ listed_if (is_some linkage) number
shared_more share None item globals number is = sym (append-nil (filter_map share globals))
shared_more share (Some linkage) item globals number is =
    filter_map-append share globals (item ∷ [])
    ∙ ap (λ (found : Option ℕ). filter_map share globals ++ cons_option found []) is

shared_same : (share : GlobalItem → Option ℕ) (linkage : Option Linkage) (item : GlobalItem)
    (globals : List GlobalItem)
    → share item ≡ None
    → filter_map share (with_global linkage item globals) ≡ filter_map share globals
shared_same share None item globals is = refl
shared_same share (Some linkage) item globals is =
    filter_map-append share globals (item ∷ [])
    ∙ ap (λ (found : Option ℕ). filter_map share globals ++ cons_option found []) is
    ∙ append-nil (filter_map share globals)

global_more : {X : Type 0} (numbered : ℕ × X → Option ℕ) (before : List X) (x : X) (is : Bool)
    → numbered (length before, x) ≡ (if is then Some (length before) else None)
    → filter_map numbered (enumerate_from 0 (before ++ x ∷ []))
    ≡ filter_map numbered (enumerate_from 0 before) ++ listed_if is (length before)
global_more numbered before x is e =
    ap (filter_map numbered) (enumerate_more 0 before x (length before) (omega arith))
    ∙ filter_map-append numbered (enumerate_from 0 before) ((length before, x) ∷ [])
    ∙ ap (λ (found : Option ℕ). filter_map numbered (enumerate_from 0 before) ++ cons_option found []) e
    ∙ by is
  where
    by : (is : Bool)
        → filter_map numbered (enumerate_from 0 before)
        ++ cons_option (if is then Some (length before) else None) []
        ≡ filter_map numbered (enumerate_from 0 before) ++ listed_if is (length before)
    by true = refl
    by false = refl

-- whether an object or a procedure is shared is what its linkage says
abbrev pub LinkageFits : Option Linkage → Home → Type 0
LinkageFits linkage home =
    (is_shared home (is_public_linkage linkage) ≡ is_some linkage)
    × IsHereIfPublic home (is_public_linkage linkage)

pub object_listed : {objects : List TypedObject} {heads : List Heading}
    {globals : List GlobalItem} (block : Block)
    (item : TypedItem) (name : List ℕ)
    → LinkageFits item.linkage item.home
    → Listed objects heads globals
    → Listed (objects ++ object_named block item name ∷ []) heads
    (with_global item.linkage (GlobalObject (length objects)) globals)
object_listed {objects} {heads} {globals} block item name fits listed =
    let object : TypedObject = object_named block item name in
    let IsHere : TypedObject → Type 0 = λ each. IsHereIfPublic each.home each.is_public in
    let number : ℕ = length objects in
    record {
      objects_stand = shared_more shared_object item.linkage (GlobalObject number) globals number refl
          ∙ ap (λ (numbers : List ℕ). numbers ++ listed_if (is_some item.linkage) number) listed.objects_stand
          ∙ sym (global_more global_object objects object (is_some item.linkage)
          (ap (λ (is : Bool). if is then Some number else None) fits.0));
      procedures_stand = shared_same shared_procedure item.linkage (GlobalObject number) globals refl
          ∙ listed.procedures_stand;
      here = All-append IsHere objects (object ∷ []) listed.here
          (All-cons IsHere object [] fits.1 (All-nil IsHere));
    }

visible : (linkage : Option Linkage) → is_global (visibility_of linkage) ≡ is_some linkage
visible None = refl
visible (Some (Public place)) = refl
visible (Some (External place)) = refl

pub procedure_listed : {objects : List TypedObject} {heads : List Heading} {globals : List GlobalItem}
    (heading : HeadingTree) (head : Heading) (number : ℕ)
    → head.2 ≡ visibility_of heading.linkage → number ≡ length heads
    → Listed objects heads globals
    → Listed objects (heads ++ head ∷ []) (with_global heading.linkage (GlobalProcedure number) globals)
procedure_listed {objects} {heads} {globals} heading head number seen is listed = record {
  objects_stand = shared_same shared_object heading.linkage (GlobalProcedure number) globals refl
      ∙ listed.objects_stand;
  procedures_stand = shared_more shared_procedure heading.linkage (GlobalProcedure number) globals number refl
      ∙ ap (λ (numbers : List ℕ). numbers ++ listed_if (is_some heading.linkage) number)
      listed.procedures_stand
      ∙ ap (λ (at : ℕ). filter_map global_heading (enumerate_from 0 heads)
      ++ listed_if (is_some heading.linkage) at) is
      ∙ sym (global_more global_heading heads head (is_some heading.linkage)
      (ap (λ (is : Bool). if is then Some (length heads) else None)
      (ap is_global seen ∙ visible heading.linkage)));
  here = listed.here;
}

-- an item lives elsewhere just where it is EXTERNAL
abbrev IsNotElsewhere : Home → Type 0
IsNotElsewhere Elsewhere = ⊥
IsNotElsewhere home = Unit {0}

shared_here : (home : Home) (is_public : Bool) → IsNotElsewhere home
    → (is_shared home is_public ≡ is_public) × IsHereIfPublic home is_public
shared_here Elsewhere is_public is = absurd is
shared_here (InData values) is_public is = (refl, tt)
shared_here (InConstants values) is_public is = (refl, tt)
shared_here (Placed at) is_public is = (refl, tt)
shared_here (BasedOn base) is_public is = (refl, tt)
shared_here Nowhere is_public is = (refl, tt)
shared_here (InFrame procedure) is_public is = (refl, tt)

linkage_fits : (linkage : Option Linkage) (base : Option ℕ) (rest : Home)
    → IsNotElsewhere rest → (is_some linkage ≡ true → is_none base ≡ true)
    → LinkageFits linkage (option_map_or BasedOn base (cond (is_external_linkage linkage) Elsewhere rest))
linkage_fits None None rest here free = shared_here rest false here
linkage_fits None (Some base) rest here free = (refl, tt)
linkage_fits (Some (Public place)) None rest here free = shared_here rest true here
linkage_fits (Some (External place)) None rest here free = (refl, tt)
linkage_fits (Some linkage) (Some base) rest here free = let is = free refl in absurd cc

rest_is_here : (owner : Owner) (at : Option AtAddress) (has_data : Bool) (values : List InitialValue)
    → IsNotElsewhere (option_map_or Placed at (home_with_values owner has_data values))
rest_is_here owner (Some address) has_data values = tt
rest_is_here owner None true values = tt
rest_is_here TheModule None false values = tt
rest_is_here (OfProcedure number heading) None false values =
    by (is_external_linkage heading.linkage) (is_some heading.reentrant)
  where
    by : (outside in_frame : Bool)
        → IsNotElsewhere (cond outside Nowhere (cond in_frame (InFrame number) (InData values)))
    by true in_frame = tt
    by false true = tt
    by false false = tt

typed_base_is : (known : Known) (block : Block) (subject : SubjectTree) (base : Option Identifier)
    → Gives (λ (found : Option ℕ). is_none base ≡ true → is_none found ≡ true)
    (typed_base known block subject base)
typed_base_is known block subject None = gives_ok (λ is. refl)
typed_base_is known block subject (Some name) = record { holds = λ found e is. absurd cc }

linkage_is_free : (block : Block) (item : ItemTree) (linkage : Option Linkage)
    → Gives (λ _. is_some linkage ≡ true → is_none (base_of item.subject) ≡ true)
    (check_linkage block item linkage)
linkage_is_free block item None = gives_ok (λ is. absurd cc)
linkage_is_free block item (Some linkage) =
    then_more (required (is_module_level block && is_none (base_of item.subject)) _ _) λ _ is some.
    (and_parts (is_module_level block) (is_none (base_of item.subject)) is).1

pub typed_item_fits : (known : Known) (block : Block) (item : ItemTree)
    → Gives (λ (typed : TypedItem). LinkageFits typed.linkage typed.home) (typed_item known block item)
typed_item_fits known block item =
    in_turn (typed_base_is known block item.subject (base_of item.subject)) λ base same.
    gives_after (extents_of block item item.dimension) λ extents.
    gives_after (typed_type block item item.item_type) λ object_type.
    in_turn (linkage_is_free block item item.linkage) λ _ free.
    gives_after (typed_at known block item item.at) λ at.
    gives_after (typed_contents known block item object_type extents item.value_list) λ filled.
    gives_ok (linkage_fits item.linkage base
    (option_map_or Placed at (home_with_values block.owner (is_data item.value_list) filled.values))
    (rest_is_here block.owner at (is_data item.value_list) filled.values) (λ is. same (free is)))

-- the objects of an item
abbrev pub ListedAt : Progress → Type 0
ListedAt progress = Listed progress.known.objects (headings progress.known.procedures) progress.globals

pub with_objects-listed : (block : Block) (item : TypedItem) (names : List Identifier) (progress : Progress)
    → LinkageFits item.linkage item.home → ListedAt progress
    → Gives ListedAt (with_objects block item names progress)
with_objects-listed block item [] progress fits listed = gives_ok listed
with_objects-listed block item (name ∷ others) progress fits listed =
    let object : TypedObject = object_named block item name.name in
    gives_after (require (nat_le (with_typed_object item.linkage object progress).frame FRAME_LIMIT) TooLarge
    (place_of name)) λ small.
    with_objects-listed block item others (with_typed_object item.linkage object progress) fits
    (object_listed block item name.name fits listed)

-- by their headings, procedures are listed as by themselves
procedures_by_headings : (number : ℕ) (procedures : List TypedProcedure)
    → filter_map global_heading (enumerate_from number (headings procedures))
    ≡ filter_map global_procedure (enumerate_from number procedures)
procedures_by_headings number [] = refl
procedures_by_headings number (procedure ∷ procedures) =
    ap (λ (numbers : List ℕ). cons_option (global_procedure (number, procedure)) numbers)
    (procedures_by_headings (number + 1) procedures)

pub lists_globals : (typed : TypedModule) → Listed typed.objects (headings typed.procedures) typed.globals
    → ListsGlobals typed
lists_globals typed listed = record {
  objects = listed.objects_stand;
  procedures = listed.procedures_stand ∙ procedures_by_headings 0 typed.procedures;
  here = listed.here;
}
