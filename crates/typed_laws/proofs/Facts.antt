-- Every module that a text of the grammar is typed as is soundly typed.
use Rattle.typed_laws.proofs.Prelude.{◌≡◌, ℕ, zero, suc, Bool, true, List, [], ◌∷◌, Some, Ok, refl, sym, ap, subst, ◌∙◌, All, slice_get, All-cons, All-nil, none-some, ModuleTree, AtNumber, AtObject, Home, InData, InConstants, Placed, BasedOn, Elsewhere, Nowhere, InFrame, TypedModule, TypedObject, TypedProcedure, values_in, TheModule, at_the_beginning, module_block, statements, typing_of, Gives, gives_ok, in_turn, jumps_are_sound, is_storable, is_well_typed, globals_are_listed, frames_are_summed, parameters_fit, AddsWord, AtAddsWord, BasesStandBefore, FramesAreReentrant, IsSoundlyTyped, ModuleIsFormed}
use Rattle.typed_laws.proofs.DeclaredObjects.{HomeStands}
use Rattle.typed_laws.proofs.TextParts.{ObjectsStand, StandsAt, declarations_go, flags_of, list_goes, stands_after, statements_go}

-- the objects of a module stand
abbrev ModuleStands : TypedModule → Type 0
ModuleStands typed = ObjectsStand typed.objects (flags_of typed.procedures)

typing_stands : (tree : ModuleTree) → ModuleIsFormed tree → Gives ModuleStands (typing_of tree)
unfolding typing_of
typing_stands tree formed =
    let start : StandsAt TheModule at_the_beginning =
    record { own = tt; objects = λ number object is. absurd (none-some object is) } in
    in_turn (declarations_go module_block tree.declarations at_the_beginning formed.0 start) λ declared one.
    in_turn
    (list_goes TheModule tree.statements (λ label. statements module_block tree.statements label) declared
    (stands_after start one)
    (λ label inside s. statements_go module_block tree.statements label inside formed.1 s)) λ done two.
    gives_ok two.objects

-- so it is at the end of a text
flag_at : (procedures : List TypedProcedure) (number : ℕ) (heading : TypedProcedure)
    → slice_get procedures number ≡ Some heading
    → slice_get (flags_of procedures) number ≡ Some heading.is_reentrant
flag_at [] number heading is = absurd (none-some heading is)
flag_at (first ∷ procedures) zero heading is =
    let same : first ≡ heading = cc in ap (λ (one : TypedProcedure). Some one.is_reentrant) same
flag_at (first ∷ procedures) (suc number) heading is = flag_at procedures number heading is

bases_stand : (typed : TypedModule) → ModuleStands typed → BasesStandBefore typed
bases_stand typed stands object base found is home =
    subst (HomeStands (flags_of typed.procedures) object) home (stands object found is).home

frames_stand : (typed : TypedModule) → ModuleStands typed → FramesAreReentrant typed
frames_stand typed stands object number found heading is its home =
    let flag : slice_get (flags_of typed.procedures) number ≡ Some true =
    subst (HomeStands (flags_of typed.procedures) object) home (stands object found is).home in
    let same : Some heading.is_reentrant ≡ Some true =
    sym (flag_at typed.procedures number heading its) ∙ flag in
    cc

-- what holds of each object
all_of : (P : TypedObject → Type 0) (objects : List TypedObject)
    → ((number : ℕ) (object : TypedObject) → slice_get objects number ≡ Some object → P object)
    → All P objects
all_of P [] each = All-nil P
all_of P (first ∷ objects) each =
    All-cons P first objects (each 0 first refl)
    (all_of P objects (λ number object is. each (suc number) object is))

values_add : (flags : List Bool) (number : ℕ) (home : Home) → HomeStands flags number home
    → All AddsWord (values_in home)
values_add flags number (InData values) stands = stands
values_add flags number (InConstants values) stands = stands
values_add flags number (Placed at) stands = All-nil AddsWord
values_add flags number (BasedOn base) stands = All-nil AddsWord
values_add flags number Elsewhere stands = All-nil AddsWord
values_add flags number Nowhere stands = All-nil AddsWord
values_add flags number (InFrame procedure) stands = All-nil AddsWord

at_adds : (flags : List Bool) (number : ℕ) (home : Home) → HomeStands flags number home → AtAddsWord home
at_adds flags number (Placed (AtObject other offset)) stands = stands
at_adds flags number (Placed (AtNumber address)) stands = tt
at_adds flags number (InData values) stands = tt
at_adds flags number (InConstants values) stands = tt
at_adds flags number (BasedOn base) stands = tt
at_adds flags number Elsewhere stands = tt
at_adds flags number Nowhere stands = tt
at_adds flags number (InFrame procedure) stands = tt

-- A module of trees that have the form of the grammar is soundly typed.
pub is_soundly_typed : (tree : ModuleTree) (found : TypedModule) → ModuleIsFormed tree
    → typing_of tree ≡ Ok found
    → IsSoundlyTyped found
is_soundly_typed tree found formed is =
    let stands : ModuleStands found = (typing_stands tree formed).holds found is in
    let flags : List Bool = flags_of found.procedures in
    record {
      types = is_well_typed tree found is;
      jumps = jumps_are_sound tree found is;
      storable = is_storable tree found is;
      globals = globals_are_listed tree found is;
      frames = frames_are_summed tree found is;
      parameters = parameters_fit tree found is;
      bases = bases_stand found stands;
      reentrant = frames_stand found stands;
      sized = all_of _ found.objects (λ number object at. (stands number object at).size);
      added = all_of _ found.objects
          (λ number object at. values_add flags number object.home (stands number object at).home);
      places = all_of _ found.objects
          (λ number object at. at_adds flags number object.home (stands number object at).home);
    }
