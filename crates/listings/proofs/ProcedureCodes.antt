-- Where the code of procedures is.
use Rattle.listings.proofs.{Prelude.{◌≡◌, ℕ, [], ◌∷◌, ◌-◌, ◌<◌, ◌≤◌, ◌==◌, and_parts, Bool, true, false, cond, List, drop, get_or, length, list_any, map, take, take_all, Option, Some, None, ap, sym, subst, ◌∙◌, arith, IfSome, ObjectModule, length_of, Code, TypedProcedure, CodeProcedure, procedure_view, BeginsInCode, IsInCode, is_private, public_place, IsCodeOf, procedure_with}, Adding.{split_first}}
use Rattle.tool.specs.declared.marking.SourceMark.{SourceMark}
use Rattle.listings.specs.internal.Marks.{LieWithin, begin_in, begins_by, begins_in, is_before, is_place_of, lies_within}
use Rattle.listings.specs.Symbols.{is_own}
use Rattle.std.proofs.lemmas.Bool.{eqb-true, leb-true, ltb-true}
use Rattle.std.specs.{List.{list_all}, Prelude.{nat_le, nat_lt, refl, suc, zero, ◌&&◌}}
use Rattle.codegen8080.specs.declared.marking.CodePart.{CodePart}
use Rattle.codegen8080.specs.declared.marking.CodePart.TheVariants as parts
use Rattle.runtime8080.specs.declared.routine.Routine.{Routine}
use Rattle.typed_trees.specs.declared.parts.Visibility.{Visibility}
use Rattle.typed_trees.specs.declared.parts.Visibility.TheVariants as visibilities
pub use Rattle.trees.proofs.Keys.{names_equal}

-- where a procedure that is not EXTERNAL begins
own_begins : (constants end : ℕ) (named : Option ℕ) (visibility : Visibility) (place : ℕ)
    → is_own visibility ≡ true → begins_by constants end named visibility place ≡ true
    → (constants ≤ place) × (place < end) × (is_place_of named place ≡ true)
own_begins constants end named visibilities.External place own is = let bad : false ≡ true = own in cc
own_begins constants end named visibilities.Public place own is =
    let one = and_parts (nat_le constants place) (nat_lt place end && is_place_of named place) is in
    let two = and_parts (nat_lt place end) (is_place_of named place) one.1 in
    (leb-true constants place one.0, ltb-true place end two.0, two.1)
own_begins constants end named visibilities.Private place own is =
    let one = and_parts (nat_le constants place) (nat_lt place end && is_place_of named place) is in
    let two = and_parts (nat_lt place end) (is_place_of named place) one.1 in
    (leb-true constants place one.0, ltb-true place end two.0, two.1)

place_named : (named : Option ℕ) (place : ℕ) → is_place_of named place ≡ true → IfSome named (λ begun. begun ≡ place)
place_named None place is = tt
place_named (Some begun) place is = eqb-true begun place is

-- a procedure that is private begins in code
own_by : (visibility : Visibility) → is_private visibility ≡ true → is_own visibility ≡ true
own_by visibilities.Private private = refl
own_by visibilities.Public private = let bad : false ≡ true = private in cc
own_by visibilities.External private = let bad : false ≡ true = private in cc

pub private_begins : (constants : ℕ) (object : ObjectModule) (procedure : TypedProcedure) (place : ℕ)
    → is_private procedure.visibility ≡ true → begins_in constants object procedure place ≡ true
    → BeginsInCode constants (length_of object Code) place
private_begins constants object procedure place private is =
    let parts = own_begins constants (length_of object Code) (public_place object.publics procedure) procedure.visibility
    place (own_by procedure.visibility private) is in
    record { past = parts.0; within = parts.1 }

-- the code of a procedure, from where it begins up to where it ends
pub code_between : (constants : ℕ) (object : ObjectModule) (procedure : TypedProcedure)
    (place end size : ℕ)
    → is_own procedure.visibility ≡ true
    → begins_in constants object procedure place ≡ true
    → (place < length_of object Code → place < end) → end ≤ length_of object Code → size ≡ end - place
    → IsCodeOf constants object procedure place size
code_between constants object procedure place end size own begins later within sized =
    let parts = own_begins constants (length_of object Code) (public_place object.publics procedure) procedure.visibility
    place own begins in
    let up : place < end = later parts.1 in
    record {
      past = parts.0;
      some = omega (arith, up, sized);
      within = omega (arith, up, within, sized);
      named = place_named (public_place object.publics procedure) place parts.2;
    }

-- the first procedure of those that are left, and the others
begins_parted : (constants : ℕ) (object : ObjectModule) (first : TypedProcedure) (others : List TypedProcedure)
    (place : ℕ) (places : List ℕ)
    → begin_in constants object (first ∷ others) (place ∷ places) ≡ true
    → (begins_in constants object first place ≡ true) × (begin_in constants object others places ≡ true)
begins_parted constants object first others place places are =
    and_parts (begins_in constants object first place) (begin_in constants object others places) are

pub begins_first : (constants : ℕ) (object : ObjectModule) (left : List CodeProcedure) (places : List ℕ)
    (procedure d : CodeProcedure) (place e : ℕ)
    → 1 ≤ length left → procedure ≡ get_or left 0 d → 1 ≤ length places → place ≡ get_or places 0 e
    → begin_in constants object (map procedure_view left) places ≡ true
    → begins_in constants object (procedure_view procedure) place ≡ true
begins_first constants object [] places procedure d place e some is some_place place_is are = absurd (omega (arith, some))
begins_first constants object (first ∷ others) [] procedure d place e some is some_place place_is are =
    absurd (omega (arith, some_place))
begins_first constants object (first ∷ others) (begun ∷ places) procedure d place e some is some_place place_is are =
    subst (λ (one : CodeProcedure). begins_in constants object (procedure_view one) place ≡ true) (sym is)
    (subst (λ (n : ℕ). begins_in constants object (procedure_view first) n ≡ true) (sym place_is)
    (begins_parted constants object (procedure_view first) (map procedure_view others) begun places are).0)

pub begin_later : (constants : ℕ) (object : ObjectModule) (left : List CodeProcedure) (places : List ℕ)
    → 1 ≤ length left → 1 ≤ length places
    → begin_in constants object (map procedure_view left) places ≡ true
    → begin_in constants object (map procedure_view (take (length left - 1) (drop 1 left)))
    (take (length places - 1) (drop 1 places)) ≡ true
begin_later constants object [] places some some_place are = absurd (omega (arith, some))
begin_later constants object (first ∷ others) [] some some_place are = absurd (omega (arith, some_place))
begin_later constants object (first ∷ others) (begun ∷ places) some some_place are =
    let one : length others ≤ length (first ∷ others) - 1 = omega arith in
    let two : length places ≤ length (begun ∷ places) - 1 = omega arith in
    subst (λ (procedures : List CodeProcedure). begin_in constants object (map procedure_view procedures)
    (take (length (begun ∷ places) - 1) places) ≡ true) (sym (take_all (length (first ∷ others) - 1) others one))
    (subst (λ (list : List ℕ). begin_in constants object (map procedure_view others) list ≡ true)
    (sym (take_all (length (begun ∷ places) - 1) places two))
    (begins_parted constants object (procedure_view first) (map procedure_view others) begun places are).1)

-- where no place is left, no procedure is
pub none_left : (constants : ℕ) (object : ObjectModule) (left : List CodeProcedure) (places : List ℕ)
    → length places < 1 → begin_in constants object (map procedure_view left) places ≡ true → length left < 1
none_left constants object [] places none are = omega arith
none_left constants object (first ∷ others) [] none are = let bad : false ≡ true = are in cc
none_left constants object (first ∷ others) (place ∷ places) none are = absurd (omega (arith, none))

-- marks that lie within code: the first of those that are left, and the others
at_most : (end : ℕ) (part : CodePart) (place : ℕ) → is_before end part place ≡ true → place ≤ end
at_most end (parts.Routine routine) place is = let below : place < end = ltb-true place end is in omega (arith, below)
at_most end parts.Main place is = leb-true place end is
at_most end (parts.Procedure number) place is = leb-true place end is
at_most end (parts.Statement number) place is = leb-true place end is

parts_within : (constants end : ℕ) (first : SourceMark) (others : List SourceMark)
    → LieWithin constants end (first ∷ others)
    → (constants ≤ first.place) × (is_before end first.part first.place ≡ true) × LieWithin constants end others
parts_within constants end first others within =
    let both = and_parts (lies_within constants end first) (list_all (lies_within constants end) others) within in
    let one = and_parts (nat_le constants first.place) (is_before end first.part first.place) both.0 in
    (leb-true constants first.place one.0, one.1, both.1)

pub first_within : (constants end : ℕ) (left : List SourceMark) (mark d : SourceMark) → 1 ≤ length left
    → mark ≡ get_or left 0 d → LieWithin constants end left → mark.place ≤ end
first_within constants end [] mark d some is within = absurd (omega (arith, some))
first_within constants end (first ∷ others) mark d some is within =
    let parts = parts_within constants end first others within in
    subst (λ (one : SourceMark). one.place ≤ end) (sym is) (at_most end first.part first.place parts.1)

pub others_within : (constants end : ℕ) (left : List SourceMark) → 1 ≤ length left → LieWithin constants end left
    → LieWithin constants end (take (length left - 1) (drop 1 left))
others_within constants end [] some within = absurd (omega (arith, some))
others_within constants end (first ∷ others) some within =
    let count : length others ≤ length (first ∷ others) - 1 = omega arith in
    subst (LieWithin constants end) (sym (take_all (length (first ∷ others) - 1) others count))
    (parts_within constants end first others within).2

-- and a mark by its index
pub mark_within : (constants end : ℕ) (marks : List SourceMark) (index : ℕ) (d : SourceMark)
    → LieWithin constants end marks → index < length marks → lies_within constants end (get_or marks index d) ≡ true
mark_within constants end [] index d within below = absurd (omega (arith, below))
mark_within constants end (first ∷ others) zero d within below =
    (and_parts (lies_within constants end first) (list_all (lies_within constants end) others) within).0
mark_within constants end (first ∷ others) (suc index) d within below =
    mark_within constants end others index d
    (and_parts (lies_within constants end first) (list_all (lies_within constants end) others) within).1
    (omega (arith, below))

-- a mark lies in the code of its module
pub mark_in_code : (constants end : ℕ) (mark : SourceMark) → lies_within constants end mark ≡ true
    → IsInCode constants end mark.place
mark_in_code constants end mark is =
    let both = and_parts (nat_le constants mark.place) (is_before end mark.part mark.place) is in
    record { past = leb-true constants mark.place both.0; within = at_most end mark.part mark.place both.1 }

pub routine_in_code : (constants end : ℕ) (mark : SourceMark) (routine : Routine) → mark.part ≡ parts.Routine routine
    → lies_within constants end mark ≡ true → BeginsInCode constants end mark.place
routine_in_code constants end mark routine part is =
    let both = and_parts (nat_le constants mark.place) (is_before end mark.part mark.place) is in
    let below : nat_lt mark.place end ≡ true =
    subst (λ (one : CodePart). is_before end one mark.place ≡ true) part both.1 in
    record { past = leb-true constants mark.place both.0; within = ltb-true mark.place end below }

-- the first procedure of those that are left has an object as a parameter, or it has not
abbrev with_first : CodeProcedure → (left : List CodeProcedure) → (has : Bool) → (object : ℕ)
    → Option TypedProcedure
with_first procedure left has object =
    cond has (Some (procedure_view procedure)) (procedure_with object (map procedure_view left))

pub parameter_here : (object : ℕ) (left : List CodeProcedure) (procedure d : CodeProcedure) (has : Bool)
    (all : Option TypedProcedure) → 1 ≤ length left → procedure ≡ get_or left 0 d
    → has ≡ list_any (λ number. number == object) (procedure_view procedure).parameters → has ≡ true
    → procedure_with object (map procedure_view left) ≡ all → Some (procedure_view procedure) ≡ all
parameter_here object left procedure d has all some is tested holds so_far =
    let more : List CodeProcedure = take (length left - 1) (drop 1 left) in
    ap (λ (t : Bool). with_first procedure more t object) (sym holds ∙ tested)
    ∙ subst (λ (procedures : List CodeProcedure). procedure_with object (map procedure_view procedures) ≡ all)
    (split_first left procedure d some is) so_far

pub parameter_later : (object : ℕ) (left : List CodeProcedure) (procedure d : CodeProcedure) (has : Bool)
    (all : Option TypedProcedure) → 1 ≤ length left → procedure ≡ get_or left 0 d
    → has ≡ list_any (λ number. number == object) (procedure_view procedure).parameters → has ≡ false
    → procedure_with object (map procedure_view left) ≡ all
    → procedure_with object (map procedure_view (take (length left - 1) (drop 1 left))) ≡ all
parameter_later object left procedure d has all some is tested holds so_far =
    let more : List CodeProcedure = take (length left - 1) (drop 1 left) in
    ap (λ (t : Bool). with_first procedure more t object) (sym holds ∙ tested)
    ∙ subst (λ (procedures : List CodeProcedure). procedure_with object (map procedure_view procedures) ≡ all)
    (split_first left procedure d some is) so_far
