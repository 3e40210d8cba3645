-- The symbols of a program.
use Rattle.listings.proofs.{Prelude.{◌≡◌, inl, inr, ℕ, ◌+◌, ◌-◌, ◌<◌, ◌≤◌, Bool, true, false, cond, List, [], ◌∷◌, ◌++◌, drop, flat_map, get_or, length, nil_from_length, map, slice_get, take, zip, codes, min, Option, Some, None, refl, ap, sym, subst, ◌∙◌, arith, append-nil, append_assoc, All-from_recursion, AllPairs-cons, none-some, AllByRecursion, AllPairs, IfSome, ModulePlacement, PieceKind, kind_of, address_digits, range_line, ObjectModule, Construction, program_modules, size_of_object, TypedModule, TypedObject, TypedProcedure, object_view, procedure_view, constant_bytes, CodeObject, CodeProcedure, code_address, AreCodeOf, AreOwnersOf, HasSymbols, HaveSymbols, IsCodeOf, IsOwnerBy, IsOwnerOf, SymbolsOfProgram, is_own, line_if, next_symbols, no_symbols, object_line, procedure_line, procedure_with, source_line, ModuleView, Adds, IsBegun, AreViews, Follow, code_size, data_size, object_of, placed_of, text_of, typed_of, HasLine, HasObjectLines, HasProcedureLines, HasSourceLines, HasSymbolsOf, HaveSymbolsOf, IsPlaceIn, Rises, has_kind, line_of, lines_of, own_of, owner_text, procedure_names}, Adding.{text_ended, gone_on, split_first}, NamesAdded.{name_contained}}
use Rattle.std.specs.Prelude.{replicate, zero, suc}
use Rattle.std.proofs.Common.{set}
use Rattle.listings.proofs.ProcedureCodes.{none_left}
use Rattle.listings.specs.internal.Marks.{begin_in}
use Rattle.listings.specs.internal.Symbols.{ArePlacesIn, KeepsPlaces, no_view}
use Rattle.listings.specs.internal.Symbols.{next_view}
use Rattle.std.specs.Fmt.{decimal}

-- procedures
no_procedure : (view : ModuleView) (procedure : TypedProcedure) → is_own procedure.visibility ≡ false
    → HasProcedureLines view (procedure ∷ []) []
no_procedure view procedure external = record {
  places = [];
  each = subst
      (λ (own : Bool). AreCodeOf (constant_bytes (typed_of view)) (object_of view)
      (cond own (procedure ∷ []) []) []) (sym external) tt;
  text_is =
      ap (λ (own : Bool). flat_map (procedure_line (typed_of view).name view.code_base)
      (zip (cond own (procedure ∷ []) []) [])) (sym external);
}

one_procedure : (view : ModuleView) (procedure : TypedProcedure) (place size : ℕ)
    → is_own procedure.visibility ≡ true
    → IsCodeOf (constant_bytes (typed_of view)) (object_of view) procedure place size
    → HasProcedureLines view (procedure ∷ [])
    (procedure_line (typed_of view).name view.code_base (procedure, (place, size)))
one_procedure view procedure place size own is = record {
  places = (place, size) ∷ [];
  each = subst
      (λ (t : Bool). AreCodeOf (constant_bytes (typed_of view)) (object_of view) (cond t (procedure ∷ []) [])
      ((place, size) ∷ [])) (sym own) (is, tt);
  text_is =
      sym (append-nil (procedure_line (typed_of view).name view.code_base (procedure, (place, size))))
      ∙ ap (λ (t : Bool). flat_map (procedure_line (typed_of view).name view.code_base)
      (zip (cond t (procedure ∷ []) []) ((place, size) ∷ []))) (sym own);
}

pub external_left_out : (view : ModuleView) (procedure : TypedProcedure) (own : Bool) (lines : List ℕ)
    → own ≡ is_own procedure.visibility → own ≡ false
    → Adds (HasProcedureLines view (procedure ∷ [])) lines lines
external_left_out view procedure own lines is external =
    record { text = []; holds = no_procedure view procedure (sym is ∙ external); added = sym (append-nil lines) }

pub procedure_added : (view : ModuleView) (procedure : TypedProcedure) (own : Bool) (place size address : ℕ)
    (old new : List ℕ) → own ≡ is_own procedure.visibility → own ≡ true
    → IsCodeOf (constant_bytes (typed_of view)) (object_of view) procedure place size
    → address ≡ code_address view.code_base place
    → new ≡ old ++ range_line (codes "PROC " ++ (typed_of view).name ++ 32 ∷ procedure.name) address size → Adds (HasProcedureLines view (procedure ∷ [])) old new
procedure_added view procedure own place size address old new is known code at added = record {
  text = procedure_line (typed_of view).name view.code_base (procedure, (place, size));
  holds = one_procedure view procedure place size (sym is ∙ known) code;
  added = added ∙ ap (λ (a : ℕ). old ++ range_line (codes "PROC " ++ (typed_of view).name ++ 32 ∷ procedure.name) a size) at;
}

-- the lines of a first procedure and of others
all_joined : (constants : ℕ) (object : ObjectModule) (procedures others : List TypedProcedure)
    (places more : List (ℕ × ℕ)) → AreCodeOf constants object procedures places
    → AreCodeOf constants object others more
    → AreCodeOf constants object (procedures ++ others) (places ++ more)
all_joined constants object [] others [] more each rest = rest
all_joined constants object [] others (place ∷ places) more each rest = absurd each
all_joined constants object (procedure ∷ procedures) others [] more each rest = absurd each
all_joined constants object (procedure ∷ procedures) others (place ∷ places) more each rest =
    (each.0, all_joined constants object procedures others places more each.1 rest)

zipped : (of_module : List ℕ) (code_base constants : ℕ) (object : ObjectModule)
    (procedures others : List TypedProcedure) (places more : List (ℕ × ℕ))
    → AreCodeOf constants object procedures places
    → flat_map (procedure_line of_module code_base) (zip (procedures ++ others) (places ++ more))
    ≡ flat_map (procedure_line of_module code_base) (zip procedures places)
    ++ flat_map (procedure_line of_module code_base) (zip others more)
zipped of_module code_base constants object [] others [] more each = refl
zipped of_module code_base constants object [] others (place ∷ places) more each = absurd each
zipped of_module code_base constants object (procedure ∷ procedures) others [] more each = absurd each
zipped of_module code_base constants object (procedure ∷ procedures) others (place ∷ places) more each =
    ap (λ (text : List ℕ). procedure_line of_module code_base (procedure, place) ++ text)
    (zipped of_module code_base constants object procedures others places more each.1)
    ∙ sym (append_assoc (procedure_line of_module code_base (procedure, place))
    (flat_map (procedure_line of_module code_base) (zip procedures places))
    (flat_map (procedure_line of_module code_base) (zip others more)))

own_first : (procedure : TypedProcedure) (others : List TypedProcedure)
    → own_of (procedure ∷ []) ++ own_of others ≡ own_of (procedure ∷ others)
own_first procedure others = go (is_own procedure.visibility)
  where
    go : (own : Bool) → cond own (procedure ∷ []) [] ++ own_of others
        ≡ cond own (procedure ∷ own_of others) (own_of others)
    go true = refl
    go false = refl

procedures_joined : (view : ModuleView) (procedure : TypedProcedure) (others : List TypedProcedure)
    (first more : List ℕ) → HasProcedureLines view (procedure ∷ []) first
    → HasProcedureLines view others more → HasProcedureLines view (procedure ∷ others) (first ++ more)
procedures_joined view procedure others first more one rest =
    let name : List ℕ = (typed_of view).name in
    let constants : ℕ = constant_bytes (typed_of view) in
    record {
      places = one.places ++ rest.places;
      each = subst
          (λ (own : List TypedProcedure). AreCodeOf constants (object_of view) own
          (one.places ++ rest.places)) (own_first procedure others)
          (all_joined constants (object_of view) (own_of (procedure ∷ [])) (own_of others) one.places
          rest.places one.each rest.each);
      text_is =
          ap (λ (text : List ℕ). text ++ more) one.text_is
          ∙ ap (λ (text : List ℕ). flat_map (procedure_line name view.code_base)
          (zip (own_of (procedure ∷ [])) one.places) ++ text) rest.text_is
          ∙ sym (zipped name view.code_base constants (object_of view) (own_of (procedure ∷ []))
          (own_of others) one.places rest.places one.each)
          ∙ ap (λ (own : List TypedProcedure). flat_map (procedure_line name view.code_base)
          (zip own (one.places ++ rest.places))) (own_first procedure others);
    }

pub procedure_next : (view : ModuleView) (all : List TypedProcedure) (left : List CodeProcedure)
    (procedure d : CodeProcedure) (old now new : List ℕ) → 1 ≤ length left → procedure ≡ get_or left 0 d
    → IsBegun (HasProcedureLines view) all (map procedure_view left) old now
    → Adds (HasProcedureLines view (procedure_view procedure ∷ [])) now new
    → IsBegun (HasProcedureLines view) all (map procedure_view (take (length left - 1) (drop 1 left))) old new
procedure_next view all left procedure d old now new some is so_far adds =
    let more : List CodeProcedure = take (length left - 1) (drop 1 left) in
    gone_on (HasProcedureLines view) all (map procedure_view left) (map procedure_view more) old now new
    adds.text so_far adds.added
    (λ (text : List ℕ) others. subst (λ (procedures : List CodeProcedure). HasProcedureLines view
    (map procedure_view procedures) (adds.text ++ text))
    (sym (split_first left procedure d some is))
    (procedures_joined view (procedure_view procedure) (map procedure_view more) adds.text
    text adds.holds others))

pub procedures_ended : (view : ModuleView) (all : List TypedProcedure) (left : List CodeProcedure)
    (old now : List ℕ) → IsBegun (HasProcedureLines view) all (map procedure_view left) old now
    → length left < 1 → Adds (HasProcedureLines view all) old now
procedures_ended view all left old now so_far none =
    text_ended (HasProcedureLines view) all (map procedure_view left) old now so_far
    (subst (λ (procedures : List CodeProcedure). HasProcedureLines view (map procedure_view procedures) [])
    (sym (nil_from_length left (omega (arith, none))))
    (record { places = []; each = tt; text_is = refl }))

pub procedures_cut : (view : ModuleView) (all : List TypedProcedure) (left : List CodeProcedure) (places : List ℕ)
    (old now : List ℕ) → IsBegun (HasProcedureLines view) all (map procedure_view left) old now
    → begin_in (constant_bytes (typed_of view)) (object_of view) (map procedure_view left) places ≡ true
    → length places < 1 → Adds (HasProcedureLines view all) old now
procedures_cut view all left places old now so_far begin none =
    procedures_ended view all left old now so_far
    (none_left (constant_bytes (typed_of view)) (object_of view) left places none begin)

-- owners
pub no_owner : (typed : TypedModule) (owner : Option (List ℕ)) → owner ≡ None
    → IsOwnerBy false None (procedure_names typed) (owner_text owner)
no_owner typed None is = inl refl
no_owner typed (Some name) is = absurd (none-some name (sym is))

pub owner_found : (typed : TypedModule) (procedure : TypedProcedure) (number : ℕ)
    → slice_get typed.procedures number ≡ Some procedure
    → IsOwnerBy false None (procedure_names typed) procedure.name
owner_found typed procedure number e = inr (name_contained typed.procedures procedure number e)

pub public_unowned : (typed : TypedModule) (number : ℕ) (object : TypedObject) (owner : Option (List ℕ))
    → object.is_public ≡ true → owner ≡ None → IsOwnerOf typed number object (owner_text owner)
public_unowned typed number object None known is =
    subst (λ (t : Bool). IsOwnerBy t (procedure_with number typed.procedures) (procedure_names typed) (codes "-")) (sym known) refl
public_unowned typed number object (Some name) known is = absurd (none-some name (sym is))

pub parameter_owned : (typed : TypedModule) (number : ℕ) (object : TypedObject) (procedure : TypedProcedure)
    → object.is_public ≡ false → Some procedure ≡ procedure_with number typed.procedures
    → IsOwnerOf typed number object procedure.name
parameter_owned typed number object procedure known found =
    subst (λ (t : Bool). IsOwnerBy t (procedure_with number typed.procedures) (procedure_names typed)
    procedure.name) (sym known)
    (subst (λ (p : Option TypedProcedure). IsOwnerBy false p (procedure_names typed) procedure.name) found
    refl)

pub source_owned : (typed : TypedModule) (number : ℕ) (object : TypedObject) (owner : Option (List ℕ))
    → object.is_public ≡ false → None ≡ procedure_with number typed.procedures
    → IsOwnerBy false None (procedure_names typed) (owner_text owner)
    → IsOwnerOf typed number object (owner_text owner)
source_owned typed number object owner known found is =
    subst (λ (t : Bool). IsOwnerBy t (procedure_with number typed.procedures) (procedure_names typed)
    (owner_text owner)) (sym known)
    (subst (λ (p : Option TypedProcedure). IsOwnerBy false p (procedure_names typed) (owner_text owner)) found
    is)

-- words, and then an address and a size
pub line_joined : (old words new named : List ℕ) (address size : ℕ) → words ≡ old ++ named
    → new ≡ words ++ 32 ∷ address_digits address ++ 32 ∷ decimal size ++ 10 ∷ []
    → new ≡ old ++ range_line named address size
line_joined old words new named address size begun added =
    let digits : List ℕ = 32 ∷ address_digits address in
    let count : List ℕ = 32 ∷ decimal size in
    added
    ∙ ap (λ (l : List ℕ). ((l ++ digits) ++ count) ++ 10 ∷ []) begun
    ∙ ap (λ (l : List ℕ). (l ++ count) ++ 10 ∷ []) (append_assoc old named digits)
    ∙ ap (λ (l : List ℕ). l ++ 10 ∷ []) (append_assoc old (named ++ digits) count)
    ∙ append_assoc old ((named ++ digits) ++ count) (10 ∷ [])

-- objects
line_by : (kind : Option PieceKind) (line : List ℕ) → has_kind kind ≡ true → line_if kind line ≡ line
line_by None line e = cc
line_by (Some kind) line e = refl

no_line_by : (kind : Option PieceKind) (line : List ℕ) → has_kind kind ≡ false → line_if kind line ≡ []
no_line_by None line e = refl
no_line_by (Some kind) line e = cc

pub object_placed : (of_module : List ℕ) (object : TypedObject) (address : ℕ) (owner old words new : List ℕ)
    (placed : Bool) (size : ℕ) → placed ≡ has_kind (kind_of object.home) → placed ≡ true
    → size ≡ min (size_of_object object) 4294967295 → words ≡ old ++ (codes "VAR " ++ of_module ++ 32 ∷ owner ++ 32 ∷ object.name)
    → new ≡ words ++ 32 ∷ address_digits address ++ 32 ∷ decimal size ++ 10 ∷ []
    → new ≡ old ++ object_line of_module ((object, address), owner)
object_placed of_module object address owner old words new placed size is known sized begun added =
    let named : List ℕ = codes "VAR " ++ of_module ++ 32 ∷ owner ++ 32 ∷ object.name in
    line_joined old words new named address size begun added
    ∙ ap (λ (n : ℕ). old ++ range_line named address n) sized
    ∙ ap (λ (line : List ℕ). old ++ line)
    (sym (line_by (kind_of object.home)
    (range_line named address (min (size_of_object object) 4294967295)) (sym is ∙ known)))

pub object_without_place : (of_module : List ℕ) (object : TypedObject) (address : ℕ) (owner lines : List ℕ)
    (placed : Bool) → placed ≡ has_kind (kind_of object.home) → placed ≡ false
    → lines ≡ lines ++ object_line of_module ((object, address), owner)
object_without_place of_module object address owner lines placed is known =
    sym (append-nil lines)
    ∙ ap (λ (line : List ℕ). lines ++ line) (sym (no_line_by (kind_of object.home)
    (range_line (codes "VAR " ++ of_module ++ 32 ∷ owner ++ 32 ∷ object.name) address (min (size_of_object object) 4294967295)) (sym is ∙ known)))

object_before : (typed : TypedModule) (number next : ℕ) (object : TypedObject) (objects : List TypedObject)
    (address : ℕ) (addresses : List ℕ) (owner text : List ℕ) → next ≡ number + 1
    → IsOwnerOf typed number object owner → HasObjectLines typed (next, (objects, addresses)) text
    → HasObjectLines typed (number, (object ∷ objects, address ∷ addresses))
    (object_line typed.name ((object, address), owner) ++ text)
object_before typed number next object objects address addresses owner text after owned others = record {
  owners = owner ∷ others.owners;
  each = (owned, subst (λ (n : ℕ). AreOwnersOf typed n objects others.owners) after others.each);
  text_is = ap (λ (more : List ℕ). object_line typed.name ((object, address), owner) ++ more) others.text_is;
}

pub object_next : (typed : TypedModule) (all : ℕ × (List TypedObject × List ℕ)) (number next : ℕ)
    (objects : List CodeObject) (addresses : List ℕ) (object d : CodeObject) (address e : ℕ)
    (owner old now new : List ℕ)
    → 1 ≤ length objects → object ≡ get_or objects 0 d → 1 ≤ length addresses
    → address ≡ get_or addresses 0 e → next ≡ number + 1
    → IsBegun (HasObjectLines typed) all (number, (map object_view objects, addresses)) old now
    → IsOwnerOf typed number (object_view object) owner
    → new ≡ now ++ object_line typed.name ((object_view object, address), owner)
    → IsBegun (HasObjectLines typed) all
    (next, (map object_view (take (length objects - 1) (drop 1 objects)), take (length addresses - 1) (drop 1 addresses))) old new
object_next typed all number next objects addresses object d address e owner old now new some is some_address
    address_is after so_far owned added =
    let more : List CodeObject = take (length objects - 1) (drop 1 objects) in
    let more_addresses : List ℕ = take (length addresses - 1) (drop 1 addresses) in
    gone_on (HasObjectLines typed) all (number, (map object_view objects, addresses))
    (next, (map object_view more, more_addresses)) old now new
    (object_line typed.name ((object_view object, address), owner)) so_far added
    (λ (text : List ℕ) others.
    subst (λ (left : List ℕ). HasObjectLines typed (number, (map object_view objects, left))
    (object_line typed.name ((object_view object, address), owner) ++ text))
    (sym (split_first addresses address e some_address address_is))
    (subst (λ (left : List CodeObject). HasObjectLines typed
    (number, (map object_view left, address ∷ more_addresses))
    (object_line typed.name ((object_view object, address), owner) ++ text))
    (sym (split_first objects object d some is))
    (object_before typed number next (object_view object) (map object_view more) address more_addresses owner
    text after owned others)))

-- Objects without addresses have no lines, and an owner each: none, or the procedure of a parameter.
owner_by : (is_public : Bool) (procedure : Option TypedProcedure) (names : List (List ℕ))
    → (owner : List ℕ) × IsOwnerBy is_public procedure names owner
owner_by true procedure names = (codes "-", refl)
owner_by false (Some procedure) names = (procedure.name, refl)
owner_by false None names = (codes "-", inl refl)

all_owners : (typed : TypedModule) (number : ℕ) (objects : List TypedObject)
    → (owners : List (List ℕ)) × AreOwnersOf typed number objects owners
all_owners typed number [] = ([], tt)
all_owners typed number (object ∷ objects) =
    let first = owner_by object.is_public (procedure_with number typed.procedures) (procedure_names typed) in
    let others = all_owners typed (number + 1) objects in (first.0 ∷ others.0, (first.1, others.1))

no_lines : (typed : TypedModule) (objects : List TypedObject) (owners : List (List ℕ))
    → [] ≡ flat_map (object_line typed.name) (zip (zip objects []) owners)
no_lines typed [] owners = refl
no_lines typed (object ∷ objects) owners = refl

no_addresses : (typed : TypedModule) (number : ℕ) (objects : List TypedObject)
    → HasObjectLines typed (number, (objects, [])) []
no_addresses typed number objects =
    let owners = all_owners typed number objects in
    record { owners = owners.0; each = owners.1; text_is = no_lines typed objects owners.0 }

pub objects_ended : (typed : TypedModule) (all : ℕ × (List TypedObject × List ℕ)) (number : ℕ)
    (objects : List CodeObject) (addresses old now : List ℕ)
    → IsBegun (HasObjectLines typed) all (number, (map object_view objects, addresses)) old now
    → length objects < 1 → Adds (HasObjectLines typed all) old now
objects_ended typed all number objects addresses old now so_far none =
    text_ended (HasObjectLines typed) all (number, (map object_view objects, addresses)) old now so_far
    (subst (λ (left : List CodeObject). HasObjectLines typed (number, (map object_view left, addresses)) [])
    (sym (nil_from_length objects (omega (arith, none)))) (record { owners = []; each = tt; text_is = refl }))

pub addresses_ended : (typed : TypedModule) (all : ℕ × (List TypedObject × List ℕ)) (number : ℕ)
    (objects : List CodeObject) (addresses old now : List ℕ)
    → IsBegun (HasObjectLines typed) all (number, (map object_view objects, addresses)) old now
    → length addresses < 1 → Adds (HasObjectLines typed all) old now
addresses_ended typed all number objects addresses old now so_far none =
    text_ended (HasObjectLines typed) all (number, (map object_view objects, addresses)) old now so_far
    (subst (λ (left : List ℕ). HasObjectLines typed (number, (map object_view objects, left)) [])
    (sym (nil_from_length addresses (omega (arith, none))))
    (no_addresses typed number (map object_view objects)))

-- lines of the source
pub line_added : (view : ModuleView) (number place : ℕ) (old new : List ℕ) → IsPlaceIn view place
    → new ≡ old ++ source_line (typed_of view).name view.code_base (number, place)
    → Adds (HasLine view number) old new
line_added view number place old new in_code added = record {
  text = source_line (typed_of view).name view.code_base (number, place);
  holds = record { place = Some place; in_code = in_code; text_is = refl };
  added = added;
}

-- places of lines
pub no_places : (view : ModuleView) (count : ℕ) → ArePlacesIn view (replicate count None)
no_places view zero = tt
no_places view (suc count) = (tt, no_places view count)

pub place_kept : (place index : ℕ) (old new : List (Option ℕ)) → new ≡ set old index (Some place)
    → KeepsPlaces place old new
place_kept place index old new is view here are =
    subst (ArePlacesIn view) (sym is) (kept old index are)
  where
    kept : (list : List (Option ℕ)) (at : ℕ) → ArePlacesIn view list → ArePlacesIn view (set list at (Some place))
    kept [] at these = these
    kept (one ∷ others) zero these = (here, these.1)
    kept (one ∷ others) (suc at) these = (these.0, kept others at these.1)

pub same_places : (place : ℕ) (list : List (Option ℕ)) → KeepsPlaces place list list
same_places place list view here are = are

pub place_there : (view : ModuleView) (list : List (Option ℕ)) (index : ℕ) (d : Option ℕ) → ArePlacesIn view list
    → index < length list → IfSome (get_or list index d) (IsPlaceIn view)
place_there view [] index d are below = absurd (omega (arith, below))
place_there view (one ∷ others) zero d are below = are.0
place_there view (one ∷ others) (suc index) d are below = place_there view others index d are.1 (omega (arith, below))

pub no_line_added : (view : ModuleView) (number : ℕ) (lines : List ℕ) → Adds (HasLine view number) lines lines
no_line_added view number lines =
    record { text = []; holds = record { place = None; in_code = tt; text_is = refl }; added = sym (append-nil lines) }

rises_later : (number next : ℕ) (lines : List (ℕ × ℕ)) → number ≤ next → Rises next lines → Rises number lines
rises_later number next [] up rising = tt
rises_later number next (line ∷ lines) up rising = (omega (arith, up, rising.0), rising.1)

line_before : (view : ModuleView) (end number : ℕ) (place : Option ℕ) (more : List ℕ) → number < end
    → IfSome place (IsPlaceIn view) → HasSourceLines view end (number + 1) more
    → HasSourceLines view end number (line_of view number place ++ more)
line_before view end number None more below in_code others = record {
  lines = others.lines;
  rising = rises_later number (number + 1) others.lines (omega arith) others.rising;
  below = others.below;
  each = others.each;
  text_is = others.text_is;
}
line_before view end number (Some place) more below in_code others = record {
  lines = (number, place) ∷ others.lines;
  rising = (omega arith, others.rising);
  below = (below, others.below);
  each = (in_code, others.each);
  text_is =
      ap (λ (text : List ℕ). source_line (typed_of view).name view.code_base (number, place) ++ text)
      others.text_is;
}

pub line_next : (view : ModuleView) (end number next : ℕ) (old now new : List ℕ) → number < end
    → IsBegun (HasSourceLines view end) 1 number old now → Adds (HasLine view number) now new
    → next ≡ number + 1 → IsBegun (HasSourceLines view end) 1 next old new
line_next view end number next old now new below so_far adds is =
    gone_on (HasSourceLines view end) 1 number next old now new adds.text so_far adds.added
    (λ (text : List ℕ) others. subst (λ (line : List ℕ). HasSourceLines view end number (line ++ text))
    (sym (adds.holds).text_is)
    (line_before view end number (adds.holds).place text below (adds.holds).in_code
    (subst (λ (n : ℕ). HasSourceLines view end n text) is others)))

pub lines_ended : (view : ModuleView) (end number : ℕ) (old now : List ℕ)
    → IsBegun (HasSourceLines view end) 1 number old now → Adds (HasSourceLines view end 1) old now
lines_ended view end number old now so_far =
    text_ended (HasSourceLines view end) 1 number old now so_far
    (record { lines = []; rising = tt; below = tt; each = tt; text_is = refl })

-- rising numbers
above : (number : ℕ) (address : ℕ) (lines : List (ℕ × ℕ)) → Rises (number + 1) lines
    → AllByRecursion (λ (other : ℕ × ℕ). number < other.0) lines
above number address [] rising = tt
above number address (line ∷ lines) rising =
    (omega (arith, rising.0), above number address lines (rises_later (number + 1) (line.0 + 1) lines (omega (arith, rising.0)) rising.1))

rising_pairs : (number : ℕ) (lines : List (ℕ × ℕ)) → Rises number lines
    → AllPairs (λ (one other : ℕ × ℕ). one.0 < other.0) lines
rising_pairs number [] rising =
    λ (i j : ℕ) (d : ℕ × ℕ) (lt : i < j) (within : j < 0). absurd (omega (arith, within))
rising_pairs number (line ∷ lines) rising =
    AllPairs-cons (λ (one other : ℕ × ℕ). one.0 < other.0) line lines
    (All-from_recursion (λ (other : ℕ × ℕ). line.0 < other.0) lines (above line.0 0 lines rising.1))
    (rising_pairs (line.0 + 1) lines rising.1)

-- lines below the number after the last one are lines of the source
of_source : (end count : ℕ) (lines : List (ℕ × ℕ)) → end ≡ count + 1
    → AllByRecursion (λ (line : ℕ × ℕ). line.0 < end) lines
    → AllByRecursion (λ (line : ℕ × ℕ). line.0 ≤ count) lines
of_source end count [] is below = tt
of_source end count (line ∷ lines) is below =
    (omega (arith, is, below.0), of_source end count lines is below.1)

-- a module, of which each line has an entry
pub symbols_joined : (view : ModuleView) (count : ℕ) (entries first : List (Option ℕ))
    (old procedures objects new : List ℕ)
    → count ≡ length (lines_of (text_of view)) → length entries ≡ count + 1 → first ≡ entries
    → Adds (HasProcedureLines view (typed_of view).procedures) old procedures
    → Adds (HasObjectLines (typed_of view) (0, ((typed_of view).objects, view.placed.now.objects.items)))
    procedures objects → Adds (HasSourceLines view (length first) 1) objects new
    → Adds (HasSymbolsOf view) old new
symbols_joined view count entries first old procedures objects new counted each same begun second third = record {
  text = begun.text ++ second.text ++ third.text;
  holds = record {
    places = (begun.holds).places;
    owners = (second.holds).owners;
    lines = (third.holds).lines;
    each_procedure = (begun.holds).each;
    each_object = (second.holds).each;
    from_one =
        All-from_recursion (λ (line : ℕ × ℕ). 0 < line.0) (third.holds).lines
        (above 0 0 (third.holds).lines (third.holds).rising);
    of_source =
        All-from_recursion (λ (line : ℕ × ℕ). line.0 ≤ length (lines_of (text_of view))) (third.holds).lines
        (of_source (length first) (length (lines_of (text_of view))) (third.holds).lines
        (ap length same ∙ each ∙ ap (λ (n : ℕ). n + 1) counted) (third.holds).below);
    rising = rising_pairs 1 (third.holds).lines (third.holds).rising;
    each_line =
        All-from_recursion (λ (line : ℕ × ℕ). IsPlaceIn view line.1) (third.holds).lines (third.holds).each;
    text_is = cc ((begun.holds).text_is, (second.holds).text_is, (third.holds).text_is);
  };
  added =
      third.added
      ∙ ap (λ (l : List ℕ). l ++ third.text)
      (second.added ∙ ap (λ (l : List ℕ). l ++ second.text) begun.added
      ∙ append_assoc old begun.text second.text)
      ∙ append_assoc old (begun.text ++ second.text) third.text;
}

pub module_next : (all left : List ModuleView) (view d : ModuleView) (old now new : List ℕ) → 1 ≤ length left
    → view ≡ get_or left 0 d
    → IsBegun HaveSymbolsOf all left old now → Adds (HasSymbolsOf view) now new
    → IsBegun HaveSymbolsOf all (take (length left - 1) (drop 1 left)) old new
module_next all left view d old now new some is so_far adds =
    let more : List ModuleView = take (length left - 1) (drop 1 left) in
    gone_on HaveSymbolsOf all left more old now new adds.text so_far adds.added
    (λ (text : List ℕ) others. subst (λ (views : List ModuleView). HaveSymbolsOf views (adds.text ++ text))
    (sym (split_first left view d some is))
    (next_view view more adds.text text adds.holds others))

pub modules_ended : (views left : List ModuleView) (lines : List ℕ)
    → IsBegun HaveSymbolsOf views left [] lines → length left < 1 → HaveSymbolsOf views lines
modules_ended views left lines so_far none =
    let whole = text_ended HaveSymbolsOf views left [] lines so_far
    (subst (λ (rest : List ModuleView). HaveSymbolsOf rest [])
    (sym (nil_from_length left (omega (arith, none)))) no_view) in
    subst (HaveSymbolsOf views) (sym whole.added) whole.holds

-- the program
all_symbols : (code_base data_base code_end data_end : ℕ) (views : List ModuleView) (text : List ℕ)
    → Follow code_base data_base views code_end data_end → HaveSymbolsOf views text
    → HaveSymbols code_base (map text_of views) (map typed_of views) (map object_of views)
    (map placed_of views) text
all_symbols code_base data_base code_end data_end views text follow no_view = no_symbols
all_symbols code_base data_base code_end data_end views text follow
    (next_view view others first more here later) =
    next_symbols
    (subst (λ (a : ℕ). HasSymbols a (text_of view) (typed_of view) (object_of view) (placed_of view) first)
    follow.0 here)
    (all_symbols (code_base + code_size view) (data_base + data_size view) code_end data_end others
    more follow.2 later)

pub program_symbols : (texts : List (List ℕ)) (built : Construction) (views : List ModuleView) (text : List ℕ)
    → AreViews texts built views → HaveSymbolsOf views text → SymbolsOfProgram texts built text
program_symbols texts built views text are have =
    subst (λ (sources : List (List ℕ)). HaveSymbols built.plan.code sources (program_modules built.program)
    built.objects built.placement.modules text) are.text_of_each
    (subst (λ (modules : List TypedModule). HaveSymbols built.plan.code (map text_of views) modules
    built.objects built.placement.modules text) are.typed_of_each
    (subst (λ (objects : List ObjectModule). HaveSymbols built.plan.code (map text_of views)
    (map typed_of views) objects built.placement.modules text) are.object_of_each
    (subst (λ (placed : List ModulePlacement). HaveSymbols built.plan.code (map text_of views)
    (map typed_of views) (map object_of views) placed text) are.placed_of_each
    (all_symbols built.plan.code built.plan.data_base are.code_end are.data_end views text are.follow have))))
