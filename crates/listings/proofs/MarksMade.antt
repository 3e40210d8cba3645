-- The marks of the sources of a program lie in the code of their modules, and their procedures begin there.
use Rattle.std.specs.Prelude.{nat_le, nat_lt}
use Rattle.std.specs.List.{AllByRecursion, AllZip, list_all}
use Rattle.std.proofs.lemmas.Bool.{and_from, eq-eqb, le-leb, lt-ltb}
use Rattle.codegen8080.specs.Marks.{IsBefore, LiesWithin, StandFor}
use Rattle.codegen8080.specs.declared.marking.CodePart.{CodePart}
use Rattle.codegen8080.specs.declared.marking.CodePart.TheVariants as parts
use Rattle.codegen8080.specs.declared.module.CodeMarks.{CodeMarks}
use Rattle.tool.specs.ModuleMarks.{IsNamedBy, LieInModule, OwnBeginsWithin}
use Rattle.typed_trees.specs.declared.parts.Visibility.{Visibility}
use Rattle.typed_trees.specs.declared.parts.Visibility.TheVariants as visibilities
use Rattle.tool.specs.Marks.{LieInEach, mark_of}
use Rattle.tool.specs.declared.marking.{SourceMark.{SourceMark}, SourceMarks.{SourceMarks}}
use Rattle.listings.proofs.Prelude.{◌≡◌, ◌&&◌, ◌∙◌, true, false, cond, Bool, ℕ, zero, suc, ◌+◌, ◌<◌, ◌≤◌, List, [], ◌∷◌, ◌++◌, length, map, get_or, take, Some, refl, ap, sym, subst, arith, take_all, ObjectModule, length_of, Code, Public, TypedModule, TypedProcedure, constant_bytes}
use Rattle.std.specs.Prelude.{slice_get}
use Rattle.std.specs.Str.{bytes_eq}
use Rattle.std.proofs.lemmas.Option.{get_or_from_slice_get}
use Rattle.std.proofs.lemmas.Slice.Eq.{bytes_eq-Decides}
use Rattle.listings.specs.Names.{code_place, is_code, place_by}
use Rattle.listings.specs.internal.Marks.{AreMarksOf, BeginIn, LieInCode, LieWithin, begin_in, begins_by, begins_in, is_before, is_place_of, lies_within}

-- there are as many as modules, and as object modules
pub as_many_marks : (modules : List TypedModule) (objects : List ObjectModule) (all : List SourceMarks)
    → AreMarksOf modules objects all → length objects ≡ length all
as_many_marks [] [] [] are = refl
as_many_marks [] [] (marks ∷ all) are = absurd are
as_many_marks [] (object ∷ objects) all are = absurd are
as_many_marks (typed ∷ modules) [] all are = absurd are
as_many_marks (typed ∷ modules) (object ∷ objects) [] are = absurd are
as_many_marks (typed ∷ modules) (object ∷ objects) (marks ∷ all) are =
    let rest = as_many_marks modules objects all are.1 in omega (arith, rest)

pub as_many_lists : (modules : List TypedModule) (objects : List ObjectModule) (all : List CodeMarks)
    → LieInEach modules objects all → (length objects ≡ length all) × (length modules ≡ length all)
as_many_lists [] [] [] are = (refl, refl)
as_many_lists [] [] (marks ∷ all) are = absurd are
as_many_lists [] (object ∷ objects) all are = absurd are
as_many_lists (typed ∷ modules) [] all are = absurd are
as_many_lists (typed ∷ modules) (object ∷ objects) [] are = absurd are
as_many_lists (typed ∷ modules) (object ∷ objects) (marks ∷ all) are =
    let rest = as_many_lists modules objects all are.1 in (omega (arith, rest.0), omega (arith, rest.1))

-- those of a module
marks_there : (modules : List TypedModule) (objects : List ObjectModule) (all : List SourceMarks) (n : ℕ)
    (c : TypedModule) (d : ObjectModule) (e : SourceMarks) → AreMarksOf modules objects all → n < length objects
    → LieInCode (get_or modules n c) (get_or objects n d) (get_or all n e)
marks_there modules [] all n c d e are below = absurd (omega (arith, below))
marks_there [] (object ∷ objects) all n c d e are below = absurd are
marks_there (typed ∷ modules) (object ∷ objects) [] n c d e are below = absurd are
marks_there (typed ∷ modules) (object ∷ objects) (marks ∷ all) zero c d e are below = are.0
marks_there (typed ∷ modules) (object ∷ objects) (marks ∷ all) (suc n) c d e are below =
    marks_there modules objects all n c d e are.1 (omega (arith, below))

pub given_there : (modules : List TypedModule) (objects : List ObjectModule) (all : List CodeMarks) (n : ℕ)
    (c : TypedModule) (d : ObjectModule) (e : CodeMarks) → LieInEach modules objects all → n < length objects
    → LieInModule (get_or all n e) (get_or modules n c) (get_or objects n d)
given_there modules [] all n c d e are below = absurd (omega (arith, below))
given_there [] (object ∷ objects) all n c d e are below = absurd are
given_there (typed ∷ modules) (object ∷ objects) [] n c d e are below = absurd are
given_there (typed ∷ modules) (object ∷ objects) (marks ∷ all) zero c d e are below = are.0
given_there (typed ∷ modules) (object ∷ objects) (marks ∷ all) (suc n) c d e are below =
    given_there modules objects all n c d e are.1 (omega (arith, below))

pub marks_at : (modules : List TypedModule) (objects list : List ObjectModule) (all : List SourceMarks) (number : ℕ)
    (typed : TypedModule) (object : ObjectModule) (marks : SourceMarks)
    → AreMarksOf modules objects all → number < length objects → list ≡ objects
    → slice_get modules number ≡ Some typed
    → object ≡ get_or list number object → marks ≡ get_or all number marks → LieInCode typed object marks
marks_at modules objects list all number typed object marks are below same typed_is object_is marks_are =
    subst (λ (it : TypedModule). LieInCode it object marks) (get_or_from_slice_get modules number typed typed typed_is)
    (subst (λ (it : ObjectModule). LieInCode (get_or modules number typed) it marks)
    (sym (object_is ∙ ap (λ (it : List ObjectModule). get_or it number object) same))
    (subst (λ (it : SourceMarks). LieInCode (get_or modules number typed) (get_or objects number object) it) (sym marks_are)
    (marks_there modules objects all number typed object marks are below)))

-- marks with lines lie where the marks of code do
before : (end : ℕ) (part : CodePart) (place : ℕ) → IsBefore end part place → is_before end part place ≡ true
before end (parts.Routine routine) place is = lt-ltb place end is
before end parts.Main place is = le-leb place end is
before end (parts.Procedure number) place is = le-leb place end is
before end (parts.Statement number) place is = le-leb place end is

places_within : (constants end : ℕ) (lined : List SourceMark)
    → AllByRecursion (LiesWithin constants end) (map mark_of lined) → LieWithin constants end lined
places_within constants end [] are = refl
places_within constants end (mark ∷ lined) are =
    and_from (lies_within constants end mark) (list_all (lies_within constants end) lined)
    (and_from (nat_le constants mark.place) (is_before end mark.part mark.place)
    (le-leb constants mark.place (are.0).0) (before end mark.part mark.place (are.0).1))
    (places_within constants end lined are.1)

pub no_marks : (modules : List TypedModule) (objects : List ObjectModule) (all : List SourceMarks) → all ≡ []
    → AreMarksOf (take 0 modules) (take 0 objects) all
no_marks modules objects all none = subst (AreMarksOf (take 0 modules) (take 0 objects)) (sym none) (nothing modules objects)
  where
    nothing : (ms : List TypedModule) (os : List ObjectModule) → AreMarksOf (take 0 ms) (take 0 os) []
    nothing [] [] = tt
    nothing [] (object ∷ os) = tt
    nothing (typed ∷ ms) [] = tt
    nothing (typed ∷ ms) (object ∷ os) = tt

marks_taken : (modules : List TypedModule) (objects : List ObjectModule) (given : List CodeMarks)
    (all : List SourceMarks) (n : ℕ) (e : CodeMarks) (one : SourceMarks)
    → n < length modules → n < length objects
    → LieInEach modules objects given
    → AreMarksOf (take n modules) (take n objects) all
    → map mark_of one.marks.items ≡ (get_or given n e).parts.items
    → AreMarksOf (take (suc n) modules) (take (suc n) objects) (all ++ one ∷ [])
marks_taken [] objects given all n e one below also each are same = absurd (omega (arith, below))
marks_taken (typed ∷ modules) [] given all n e one below also each are same = absurd (omega (arith, also))
marks_taken (typed ∷ modules) (object ∷ objects) [] all n e one below also each are same = absurd each
marks_taken (typed ∷ modules) (object ∷ objects) (marks ∷ given) [] zero e one below also each are same = (
  places_within (constant_bytes typed) (length_of object Code) one.marks.items
      (subst (AllByRecursion (LiesWithin (constant_bytes typed) (length_of object Code))) (sym same) (each.0).parts),
  tt,
)
marks_taken (typed ∷ modules) (object ∷ objects) (marks ∷ given) (first ∷ all) zero e one below also each are same =
    absurd are
marks_taken (typed ∷ modules) (object ∷ objects) (marks ∷ given) [] (suc n) e one below also each are same = absurd are
marks_taken (typed ∷ modules) (object ∷ objects) (marks ∷ given) (first ∷ all) (suc n) e one below also each are same =
    (are.0, marks_taken modules objects given all n e one (omega (arith, below)) (omega (arith, also)) each.1 are.1 same)

pub marks_added : (modules : List TypedModule) (objects : List ObjectModule) (given : List CodeMarks)
    (all next : List SourceMarks) (number after : ℕ) (e : CodeMarks) (one : SourceMarks)
    → number < length modules → number < length objects → LieInEach modules objects given
    → AreMarksOf (take number modules) (take number objects) all
    → map mark_of one.marks.items ≡ (get_or given number e).parts.items
    → next ≡ all ++ one ∷ [] → after ≡ number + 1
    → AreMarksOf (take after modules) (take after objects) next
marks_added modules objects given all next number after e one below also each are same is counted =
    let up : after ≡ suc number = omega (arith, counted) in
    rw (is, up) (marks_taken modules objects given all number e one below also each are same)

pub all_marked : (modules : List TypedModule) (objects : List ObjectModule) (all : List SourceMarks) (number : ℕ)
    → AreMarksOf (take number modules) (take number objects) all
    → length modules ≤ number → length objects ≤ number → AreMarksOf modules objects all
all_marked modules objects all number are past also =
    subst (λ (list : List TypedModule). AreMarksOf list objects all) (take_all number modules past)
    (subst (λ (list : List ObjectModule). AreMarksOf (take number modules) list all) (take_all number objects also) are)

-- where a PUBLIC procedure has its name
named_at : (publics : List Public) (name : List ℕ) (place : ℕ) → StandFor publics name place
    → is_place_of (code_place publics name) place ≡ true
named_at [] name place stands = refl
named_at (public ∷ publics) name place stands =
    by (is_code public.segment) (bytes_eq public.name name) refl (named_at publics name place stands.1)
  where
    by : (here same : Bool) → bytes_eq public.name name ≡ same
        → is_place_of (code_place publics name) place ≡ true
        → is_place_of (cond (here && same) (Some public.offset) (code_place publics name)) place ≡ true
    by true true is rest = eq-eqb public.offset place (stands.0 ((bytes_eq-Decides public.name name).0 is))
    by true false is rest = rest
    by false same is rest = rest

begins_one : (constants end : ℕ) (publics : List Public) (visibility : Visibility) (name : List ℕ) (place : ℕ)
    → OwnBeginsWithin constants end visibility place → IsNamedBy publics visibility name place
    → begins_by constants end (place_by visibility (code_place publics name)) visibility place ≡ true
begins_one constants end publics visibilities.External name place within named = refl
begins_one constants end publics visibilities.Private name place within named =
    and_from (nat_le constants place) (nat_lt place end && true) (le-leb constants place within.0)
    (and_from (nat_lt place end) true (lt-ltb place end within.1) refl)
begins_one constants end publics visibilities.Public name place within named =
    and_from (nat_le constants place) (nat_lt place end && is_place_of (code_place publics name) place)
    (le-leb constants place within.0)
    (and_from (nat_lt place end) (is_place_of (code_place publics name) place) (lt-ltb place end within.1)
    (named_at publics name place named))

begin_each : (constants : ℕ) (object : ObjectModule) (procedures : List TypedProcedure) (places : List ℕ)
    → AllZip (λ (procedure : TypedProcedure) (place : ℕ).
    OwnBeginsWithin constants (length_of object Code) procedure.visibility place) procedures places
    → AllZip (λ (procedure : TypedProcedure) (place : ℕ).
    IsNamedBy object.publics procedure.visibility procedure.name place) procedures places
    → begin_in constants object procedures places ≡ true
begin_each constants object [] [] within named = refl
begin_each constants object [] (place ∷ places) within named = absurd within
begin_each constants object (procedure ∷ procedures) [] within named = absurd within
begin_each constants object (procedure ∷ procedures) (place ∷ places) within named =
    and_from (begins_in constants object procedure place) (begin_in constants object procedures places)
    (begins_one constants (length_of object Code) object.publics procedure.visibility procedure.name place
    within.0 named.0)
    (begin_each constants object procedures places within.1 named.1)

-- the procedures of a module
pub begin_at : (modules : List TypedModule) (objects list : List ObjectModule) (given : List CodeMarks) (number : ℕ)
    (typed : TypedModule) (object : ObjectModule) (marks : CodeMarks)
    → LieInEach modules objects given → number < length objects → list ≡ objects
    → slice_get modules number ≡ Some typed
    → object ≡ get_or list number object → marks ≡ get_or given number marks
    → BeginIn typed object marks.procedures.items
begin_at modules objects list given number typed object marks are below same typed_is object_is marks_are =
    let there = given_there modules objects given number typed object marks are below in
    let here : LieInModule marks typed object =
    subst (λ (it : TypedModule). LieInModule marks it object) (get_or_from_slice_get modules number typed typed typed_is)
    (subst (λ (it : ObjectModule). LieInModule marks (get_or modules number typed) it)
    (sym (object_is ∙ ap (λ (it : List ObjectModule). get_or it number object) same))
    (subst (λ (it : CodeMarks). LieInModule it (get_or modules number typed) (get_or objects number object)) (sym marks_are)
    there)) in
    begin_each (constant_bytes typed) object typed.procedures marks.procedures.items here.begin here.named
