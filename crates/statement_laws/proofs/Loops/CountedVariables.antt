-- The variable of an iterative DO: where the source has it, and where the machine does.
use Rattle.statement_laws.proofs.Prelude.{◌≡◌, ℕ, ◌+◌, ◌%◌, ◌<◌, ◌≤◌, true, false, List, Option, Some, None, refl, sym, ap, subst, ◌∙◌, arith, IsSomeAnd, slice_get, ScalarType, IsScalar, IsScalarOf, size_of_scalar, TypedHome, InData, InConstants, Placed, BasedOn, Elsewhere, Nowhere, InFrame, ObjectType, ScalarObject, PartOf, NoSubscript, TypedIteration, TypedModule, TypedObject, TypedReference, Counts, IsSeen, LiesFor, RefersToScalar, TypesHoldInReference, Within, SourcePlace, place_in, place_of, based_place, SourceState, Gave, Home, Location, home_at, keeps_both, keeps_of_part, no_facts, Begins, BeginsAtBase, BeginsInFrame, BeginsInMemory, IsReference, IsPart, IsAbsent, location_at, Facts, base_after, base_of, keeps_of_address, base_location, location_of, split, knowing, whole, Context, IsSound, distances_in, nodes_in, IsReferred, address_on_machine, begins_there, has_some, home_there, located_fits, refers_is_referred, lies_there, located_in, FitsIn, not_based, same_given}
use Rattle.layout.specs.Storage.{Storage}
use Rattle.treecode.specs.declared.place.Home.TheVariants as homes
use Rattle.treecode.specs.declared.traits.Keeps.{Keeps}
use Rattle.steps8080.specs.internal.Queries.{located}

-- a whole object, as the source refers to it
abbrev pub whole_tree : (object : ℕ) → TypedReference
whole_tree object = PartOf object NoSubscript None 0 NoSubscript

-- where the source has a variable
abbrev pub variable_place : Context → (variable : ℕ) → SourcePlace
variable_place context variable = place_of context.activation.around variable

-- and its address
abbrev pub variable_address : Context → (variable : ℕ) → ℕ
variable_address context variable = address_on_machine context.activation (variable_place context variable)

-- a variable that is counted
pub record IsCounted (context : Context) (variable : ℕ) (scalar : ScalarType) : Type 0 where
  pub refers : RefersToScalar context.typed context.within scalar (whole_tree variable)
  pub referred : IsReferred context (whole_tree variable)
  pub means : (s : SourceState) → located_in context (whole_tree variable) s
      ≡ Gave (variable_place context variable) s
  pub fits : FitsIn context.activation (size_of_scalar scalar) (variable_place context variable)
  pub location : Location
  pub located : (facts : Facts) → location_of (knowing context.site facts) (whole variable) ≡ Some location
  pub is_there : variable_address context variable
      ≡ location_at context.activation (distances_in context) location
  pub keeps_a : (keeps_of_address context.site (whole variable)).a ≡ true
  pub keeps_de : (keeps_of_address context.site (whole variable)).de ≡ true

-- tree code refers to a whole object
pub whole_is : (context : Context) (bound object : ℕ)
    → IsReference (nodes_in context) context.storage bound (whole object) (whole_tree object)
whole_is context bound object = IsPart IsAbsent IsAbsent

pub whole_types : (context : Context) (object : ℕ)
    → TypesHoldInReference context.typed context.within (whole_tree object)
whole_types context object = (tt, tt)

-- an object that lies for a body is seen in it
seen : (context : Context) (kind : TypedHome) → LiesFor context.within kind
    → IsSeen context.typed context.within kind
seen context (BasedOn base) lies = absurd lies
seen context (InData values) lies = lies
seen context (InConstants values) lies = lies
seen context (Placed at) lies = lies
seen context Elsewhere lies = lies
seen context Nowhere lies = lies
seen context (InFrame procedure) lies = lies

nothing_yet : SourceState
nothing_yet =
    record { memory = Rattle.std.proofs.Common.[]; frame = Rattle.std.proofs.Common.[]; events = Rattle.std.proofs.Common.[]; budget = 0 }

-- where tree code knows the location of an object, it has the address of its place
address_is :
    (context : Context) (variable : ℕ) (facts : Facts) (location : Location)
    → IsSound context
    → IsReferred context (whole_tree variable)
    → ((s : SourceState) → located_in context (whole_tree variable) s
    ≡ Gave (variable_place context variable) s)
    → location_of (knowing context.site facts) (whole variable) ≡ Some location
    → variable_address context variable ≡ location_at context.activation (distances_in context) location
address_is context variable facts location sound referred means same =
    let lies =
    lies_there facts location sound (whole_is context 0 variable) referred
    (whole_types context variable) same in
    ap (address_on_machine context.activation)
    (same_given (sym (means nothing_yet) ∙ lies.means nothing_yet))
    ∙ lies.is_at

-- a home that has a location, whose address leaves A and DE alone
pub record HasLocation (start : Home) : Type 0 where
  pub location : Location
  pub is : base_location (base_after (base_after (base_after (base_of start) 0) 0) 0) ≡ Some location
  pub keeps : keeps_of_part start None None ≡ keeps_both

has_location :
    {typed : TypedModule} {storage : Storage} {number : ℕ} (within : Within) (kind : TypedHome) (start : Home)
    → LiesFor within kind
    → Begins typed storage number kind start
    → HasLocation start
has_location within _ _ lies BeginsAtBase = absurd lies
has_location within _ (homes.Frame variable) lies BeginsInFrame =
    record { location = _; is = refl; keeps = refl }
has_location within _ (homes.Static place) lies BeginsInMemory =
    record { location = _; is = refl; keeps = refl }

location_by :
    (context : Context) (variable : ℕ) (facts : Facts)
    (its : HasLocation (home_at context.site.tree.now.homes.items variable))
    → location_of (knowing context.site facts) (whole variable) ≡ Some its.location
unfolding location_of located split
location_by context variable facts its = its.is

keeps_by :
    (context : Context) (variable : ℕ) → HasLocation (home_at context.site.tree.now.homes.items variable)
    → keeps_of_address context.site (whole variable) ≡ keeps_both
unfolding keeps_of_address
keeps_by context variable its = its.keeps

-- the variable of an iterative DO is counted
pub is_counted :
    (context : Context) (head : TypedIteration)
    → IsSound context
    → Counts context.typed context.within head
    → IsCounted context head.variable head.scalar
is_counted context head sound counts =
    let its = has_some (slice_get context.typed.objects head.variable) counts in
    let scalar : IsScalar head.scalar its.found = its.holds.0 in
    let lies : LiesFor context.within (its.found).home = its.holds.1 in
    let around = context.activation.around in
    let home_is = home_there context head.variable its.found sound its.is in
    let refers : RefersToScalar context.typed context.within head.scalar (whole_tree head.variable) =
    subst (λ (option : Option TypedObject). IsSomeAnd option
    (λ (object : TypedObject). IsSeen context.typed context.within object.home
    × IsScalarOf object head.scalar (whole_tree head.variable))) (sym its.is)
    (seen context (its.found).home lies, is_scalar its.found scalar) in
    let means : (s : SourceState) → located_in context (whole_tree head.variable) s
    ≡ Gave (variable_place context head.variable) s = λ s.
    ap (λ (kind : TypedHome). based_place kind around head.variable 0 true s) home_is
    ∙ not_based context.within (its.found).home around head.variable 0 true s lies
    ∙ ap (λ (kind : TypedHome). Gave (place_in kind around head.variable 0 true) s) (sym home_is) in
    let there =
    has_location context.within (its.found).home
    (home_at context.site.tree.now.homes.items head.variable) lies
    (begins_there context head.variable its.found sound its.is) in
    let referred = refers_is_referred context head.scalar (whole_tree head.variable) refers in
    record {
      refers = refers;
      referred = referred;
      means = means;
      fits =
          located_fits context head.scalar (whole_tree head.variable)
          (variable_place context head.variable) nothing_yet
          nothing_yet sound refers (means nothing_yet);
      location = there.location;
      located = λ facts. location_by context head.variable facts there;
      is_there =
          address_is context head.variable no_facts there.location sound referred means
          (location_by context head.variable no_facts there);
      keeps_a = ap (λ (keeps : Keeps). keeps.a) (keeps_by context head.variable there);
      keeps_de = ap (λ (keeps : Keeps). keeps.de) (keeps_by context head.variable there);
    }
  where
    own_scalar : (kind : ObjectType) → kind ≡ ScalarObject head.scalar
        → Rattle.typed_trees.specs.ObjectParts.IsScalarIn kind None NoSubscript head.scalar
    own_scalar (ScalarObject own) same = ap given same
      where
        given : ObjectType → ScalarType
        given (ScalarObject one) = one
        given other = head.scalar
    own_scalar other same = absurd cc

    is_scalar : (object : TypedObject) → IsScalar head.scalar object
        → IsScalarOf object head.scalar (whole_tree head.variable)
    is_scalar object is = ((tt, (refl, refl)), is.0, own_scalar object.object_type is.1)

-- where tree code knows the location of the variable, it has the address of its place
pub location_is :
    {context : Context} {variable : ℕ} {scalar : ScalarType} (facts : Facts) (location : Location)
    → IsSound context
    → IsCounted context variable scalar
    → location_of (knowing context.site facts) (whole variable) ≡ Some location
    → variable_address context variable ≡ location_at context.activation (distances_in context) location
location_is {context = context} {variable = variable} facts location sound counted same =
    address_is context variable facts location sound counted.referred counted.means same
