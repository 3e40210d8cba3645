-- Names that are added.
use Rattle.listings.proofs.{Prelude.{◌≡◌, inl, inr, ℕ, zero, suc, ◌-◌, ◌<◌, ◌≤◌, Bool, true, false, cond, List, [], ◌∷◌, ◌++◌, Contains, drop, filter, flat_map, get_or, length, take, map, filter_map, zip, slice_get, Option, Some, None, option_map, refl, ap, sym, subst, ◌∙◌, arith, append-nil, append_assoc, map-append, Contains-append_left, Contains-append_right, none-some, same_Some, slice_get-map, AllByRecursion, cons_option, option_to_list, Symbol, Public, Routine, TypedModule, TypedProcedure, object_view, procedure_view, constant_bytes, CodeObject, CodeProcedure, BeginsInCode, code_address, is_private, names_in_code, object_symbol, procedure_symbol, public_place, routine_names, symbol_of, NameText, Declared, Named, ModuleView, AddsNames, AddsNamesSoFar, HasNames, IsNameAmong, IsNameIn, code_size, object_names, public_names, typed_of, named_view, named_with, routine_name, text_of_name}, Adding.{split_first}}
use Rattle.listings.proofs.{Prelude.{object_of, take_all}, ProcedureCodes.{private_begins, routine_in_code}}
use Rattle.std.proofs.lemmas.Option.{get_or_from_slice_get, slice_get_within}
use Rattle.std.specs.Prelude.{◌+◌}
use Rattle.codegen8080.specs.declared.marking.CodePart.TheVariants as parts
use Rattle.tool.specs.declared.marking.SourceMark.{SourceMark}
use Rattle.listings.specs.declared.named.NameText.TheVariants.{Routine as of_routine}
use Rattle.listings.specs.internal.Marks.{begins_in, lies_within}
use Rattle.runtime8080.specs.declared.routine.Routine.TheVariants as routines

-- the name of a procedure
pub name_contained : (procedures : List TypedProcedure) (procedure : TypedProcedure) (number : ℕ)
    → slice_get procedures number ≡ Some procedure
    → Contains (map (λ (p : TypedProcedure). p.name) procedures) procedure.name
name_contained procedures procedure number e =
    let found : slice_get (map (λ (p : TypedProcedure). p.name) procedures) number ≡ Some procedure.name =
    slice_get-map (λ (p : TypedProcedure). p.name) procedures number
    ∙ ap (option_map (λ (p : TypedProcedure). p.name)) e in (
      number,
      slice_get_within (map (λ (p : TypedProcedure). p.name) procedures) number procedure.name found,
      get_or_from_slice_get (map (λ (p : TypedProcedure). p.name) procedures) number procedure.name procedure.name found,
    )

-- that of a private one
kept_first : (p : TypedProcedure) (others : List TypedProcedure) (t : Bool) → t ≡ true
    → Contains (cond t (p ∷ others) others) p
kept_first p others true e = (zero, omega arith, refl)
kept_first p others false e = cc

kept_later : (first p : TypedProcedure) (others : List TypedProcedure) (t : Bool) → Contains others p
    → Contains (cond t (first ∷ others) others) p
kept_later first p others true found = Contains-append_right (first ∷ []) others p found
kept_later first p others false found = found

private_at : (procedures : List TypedProcedure) (procedure : TypedProcedure) (number : ℕ)
    → slice_get procedures number ≡ Some procedure → is_private procedure.visibility ≡ true
    → Contains (filter (λ (p : TypedProcedure). is_private p.visibility) procedures) procedure
private_at [] procedure number e known = absurd (none-some procedure e)
private_at (first ∷ others) procedure zero e known =
    let same : first ≡ procedure = same_Some first procedure e in
    let others_kept : List TypedProcedure = filter (λ (p : TypedProcedure). is_private p.visibility) others in
    subst (λ (p : TypedProcedure). Contains
    (cond (is_private first.visibility) (first ∷ others_kept) others_kept) p) same
    (kept_first first others_kept (is_private first.visibility)
    (ap (λ (p : TypedProcedure). is_private p.visibility) same ∙ known))
private_at (first ∷ others) procedure (suc number) e known =
    kept_later first procedure (filter (λ (p : TypedProcedure). is_private p.visibility) others)
    (is_private first.visibility) (private_at others procedure number e known)

contains_map : {A B : Type 0} (f : A → B) (xs : List A) (x : A) → Contains xs x → Contains (map f xs) (f x)
contains_map f [] x (n, within, is) = absurd (omega (arith, within))
contains_map f (y ∷ xs) x (zero, within, is) = (zero, omega arith, ap f is)
contains_map f (y ∷ xs) x (suc n, within, is) =
    let later = contains_map f xs x (n, omega (arith, within), is) in
    (suc later.0, omega (arith, later.1), later.2)

pub private_named : (typed : TypedModule) (procedure : TypedProcedure) (number : ℕ) (known : Bool)
    → slice_get typed.procedures number ≡ Some procedure
    → known ≡ is_private procedure.visibility → known ≡ true
    → Contains (names_in_code typed) procedure.name
private_named typed procedure number known e is holds =
    let kept : List TypedProcedure =
    filter (λ (p : TypedProcedure). is_private p.visibility) typed.procedures in
    Contains-append_left (map (λ (p : TypedProcedure). p.name) kept) routine_names procedure.name
    (contains_map (λ (p : TypedProcedure). p.name) kept procedure
    (private_at typed.procedures procedure number e (sym is ∙ holds)))

-- the name of a routine
routine_found : (routine : Routine) → Contains routine_names (routine_name routine)
routine_found routines.Multiply = (0, omega arith, refl)
routine_found routines.Divide = (1, omega arith, refl)
routine_found routines.ShiftLeftByte = (2, omega arith, refl)
routine_found routines.ShiftRightByte = (3, omega arith, refl)
routine_found routines.ShiftLeftAddress = (4, omega arith, refl)
routine_found routines.ShiftRightAddress = (5, omega arith, refl)
routine_found routines.RotateLeft = (6, omega arith, refl)
routine_found routines.RotateRight = (7, omega arith, refl)
routine_found routines.Move = (8, omega arith, refl)

pub routine_named : (typed : TypedModule) (routine : Routine)
    → Contains (names_in_code typed) (routine_name routine)
routine_named typed routine =
    Contains-append_right
    (map (λ (p : TypedProcedure). p.name)
    (filter (λ (p : TypedProcedure). is_private p.visibility) typed.procedures)) routine_names
    (routine_name routine) (routine_found routine)

-- names that the tables tell
pub name_pushed : (old new : List Named) (address : ℕ) (name : List ℕ)
    → new ≡ old ++ named_with address (Declared name) ∷ []
    → map named_view new ≡ map named_view old ++ symbol_of name address ∷ []
name_pushed old new address name added =
    ap (map named_view) added ∙ map-append named_view old (named_with address (Declared name) ∷ [])

pub nothing_named : (names : List Symbol) (symbol : Option Symbol) → symbol ≡ None
    → names ≡ names ++ option_to_list symbol
nothing_named names symbol none =
    sym (append-nil names) ∙ ap (λ (found : Option Symbol). names ++ option_to_list found) (sym none)

pub procedure_named : (code_base place address : ℕ) (publics : List Public) (procedure : TypedProcedure)
    (old new : List Symbol) → Some place ≡ public_place publics procedure
    → address ≡ code_address code_base place → new ≡ old ++ symbol_of procedure.name address ∷ []
    → new ≡ old ++ option_to_list (procedure_symbol code_base publics procedure)
procedure_named code_base place address publics procedure old new found is added =
    added
    ∙ ap (λ (a : ℕ). old ++ symbol_of procedure.name a ∷ []) is
    ∙ ap (λ (p : Option ℕ). old ++ option_to_list
    (option_map (λ (n : ℕ). symbol_of procedure.name (code_address code_base n)) p)) found

-- one more, in front of others
symbol_more : (old new others all : List Symbol) (symbol : Option Symbol) → new ≡ old ++ option_to_list symbol
    → old ++ cons_option symbol others ≡ all → new ++ others ≡ all
symbol_more old new others all None added so_far =
    ap (λ (l : List Symbol). l ++ others) (added ∙ append-nil old) ∙ so_far
symbol_more old new others all (Some symbol) added so_far =
    ap (λ (l : List Symbol). l ++ others) added ∙ append_assoc old (symbol ∷ []) others ∙ so_far

pub objects_more : (objects : List CodeObject) (addresses : List ℕ) (object d : CodeObject) (address e : ℕ)
    (old new all : List Symbol) → 1 ≤ length objects → object ≡ get_or objects 0 d
    → 1 ≤ length addresses → address ≡ get_or addresses 0 e
    → new ≡ old ++ option_to_list (object_symbol (object_view object, address))
    → old ++ filter_map object_symbol (zip (map object_view objects) addresses) ≡ all
    → new ++ filter_map object_symbol
    (zip (map object_view (take (length objects - 1) (drop 1 objects)))
    (take (length addresses - 1) (drop 1 addresses))) ≡ all
objects_more objects addresses object d address e old new all some is some_address address_is added so_far =
    let more : List CodeObject = take (length objects - 1) (drop 1 objects) in
    let more_addresses : List ℕ = take (length addresses - 1) (drop 1 addresses) in
    symbol_more old new (filter_map object_symbol (zip (map object_view more) more_addresses)) all
    (object_symbol (object_view object, address)) added
    (subst (λ (left : List ℕ). old ++ filter_map object_symbol
    (zip (object_view object ∷ map object_view more) left)
    ≡ all) (split_first addresses address e some_address address_is)
    (subst (λ (left : List CodeObject). old ++ filter_map object_symbol (zip (map object_view left) addresses)
    ≡ all) (split_first objects object d some is) so_far))

pub objects_done : (objects : List CodeObject) (addresses : List ℕ) (old all : List Symbol)
    → length objects < 1 → old ++ filter_map object_symbol (zip (map object_view objects) addresses) ≡ all
    → old ≡ all
objects_done [] addresses old all none so_far = sym (append-nil old) ∙ so_far
objects_done (object ∷ objects) addresses old all none so_far = absurd (omega (arith, none))

pub addresses_done : (objects : List CodeObject) (addresses : List ℕ) (old all : List Symbol)
    → length addresses < 1 → old ++ filter_map object_symbol (zip (map object_view objects) addresses) ≡ all
    → old ≡ all
addresses_done objects (address ∷ addresses) old all none so_far = absurd (omega (arith, none))
addresses_done [] [] old all none so_far = sym (append-nil old) ∙ so_far
addresses_done (object ∷ objects) [] old all none so_far = sym (append-nil old) ∙ so_far

pub procedures_more : (code_base : ℕ) (publics : List Public) (left : List CodeProcedure)
    (procedure d : CodeProcedure) (old new all : List Symbol) → 1 ≤ length left → procedure ≡ get_or left 0 d
    → new ≡ old ++ option_to_list (procedure_symbol code_base publics (procedure_view procedure))
    → old ++ filter_map (procedure_symbol code_base publics) (map procedure_view left) ≡ all
    → new ++ filter_map (procedure_symbol code_base publics)
    (map procedure_view (take (length left - 1) (drop 1 left))) ≡ all
procedures_more code_base publics left procedure d old new all some is added so_far =
    let more : List CodeProcedure = take (length left - 1) (drop 1 left) in
    symbol_more old new (filter_map (procedure_symbol code_base publics) (map procedure_view more)) all
    (procedure_symbol code_base publics (procedure_view procedure)) added
    (subst (λ (procedures : List CodeProcedure). old
    ++ filter_map (procedure_symbol code_base publics) (map procedure_view procedures)
    ≡ all) (split_first left procedure d some is) so_far)

pub procedures_done : (code_base : ℕ) (publics : List Public) (left : List CodeProcedure)
    (old all : List Symbol) → length left < 1
    → old ++ filter_map (procedure_symbol code_base publics) (map procedure_view left) ≡ all → old ≡ all
procedures_done code_base publics [] old all none so_far = sym (append-nil old) ∙ so_far
procedures_done code_base publics (procedure ∷ left) old all none so_far = absurd (omega (arith, none))

-- those of modules, one after another
pub more_of : (names : ModuleView → List Symbol) (left : List ModuleView) (view d : ModuleView)
    (old new all : List Symbol) → 1 ≤ length left → view ≡ get_or left 0 d → new ≡ old ++ names view
    → old ++ flat_map names left ≡ all → new ++ flat_map names (take (length left - 1) (drop 1 left)) ≡ all
more_of names left view d old new all some is added so_far =
    let more : List ModuleView = take (length left - 1) (drop 1 left) in
    ap (λ (l : List Symbol). l ++ flat_map names more) added
    ∙ append_assoc old (names view) (flat_map names more)
    ∙ subst (λ (views : List ModuleView). old ++ flat_map names views ≡ all)
    (split_first left view d some is) so_far

pub none_of : (names : ModuleView → List Symbol) (left : List ModuleView) (old all : List Symbol)
    → length left < 1 → old ++ flat_map names left ≡ all → old ≡ all
none_of names [] old all none so_far = sym (append-nil old) ∙ so_far
none_of names (view ∷ left) old all none so_far = absurd (omega (arith, none))

-- names in code
all_named : (P : Symbol → Type 0) (xs ys : List Named) → AllByRecursion P (map named_view xs)
    → AllByRecursion P (map named_view ys) → AllByRecursion P (map named_view (xs ++ ys))
all_named P [] ys each others = others
all_named P (x ∷ xs) ys each others = (each.0, all_named P xs ys each.1 others)

pub no_names : (P : Symbol → Type 0) (old : List Named) → AddsNames P old old
no_names P old = record { added = []; new_is = sym (append-nil old); each = tt }

pub names_joined : (P : Symbol → Type 0) (old now new : List Named) → AddsNames P old now
    → AddsNames P now new → AddsNames P old new
names_joined P old now new so_far more = record {
  added = so_far.added ++ more.added;
  new_is =
      more.new_is ∙ ap (λ (names : List Named). names ++ more.added) so_far.new_is
      ∙ append_assoc old so_far.added more.added;
  each = all_named P so_far.added more.added so_far.each more.each;
}

pub part_named : (view : ModuleView) (text : NameText) (place address : ℕ) (old new : List Named)
    → Contains (names_in_code (typed_of view)) (text_of_name text)
    → BeginsInCode (constant_bytes (typed_of view)) (code_size view) place
    → address ≡ code_address view.code_base place → new ≡ old ++ named_with address text ∷ []
    → AddsNames (IsNameIn view) old new
part_named view text place address old new name in_code is added = record {
  added = named_with address text ∷ [];
  new_is = added;
  each = (record { name = name; place = place; in_code = in_code; address = is }, tt);
}

-- the name of a routine, and that of a private procedure
pub routine_added : (view : ModuleView) (mark : SourceMark) (routine : Routine) (address : ℕ) (old new : List Named)
    → mark.part ≡ parts.Routine routine
    → lies_within (constant_bytes (typed_of view)) (code_size view) mark ≡ true
    → address ≡ code_address view.code_base mark.place → new ≡ old ++ named_with address (of_routine routine) ∷ []
    → AddsNames (IsNameIn view) old new
routine_added view mark routine address old new part within is added =
    part_named view (of_routine routine) mark.place address old new (routine_named (typed_of view) routine)
    (routine_in_code (constant_bytes (typed_of view)) (code_size view) mark routine part within) is added

pub private_added : (view : ModuleView) (procedure : TypedProcedure) (place address : ℕ) (private : Bool)
    (old new : List Named)
    → private ≡ is_private procedure.visibility → private ≡ true
    → Contains (names_in_code (typed_of view)) procedure.name
    → begins_in (constant_bytes (typed_of view)) (object_of view) procedure place ≡ true
    → address ≡ code_address view.code_base place → new ≡ old ++ named_with address (Declared procedure.name) ∷ []
    → AddsNames (IsNameIn view) old new
private_added view procedure place address private old new is holds name begins at added =
    part_named view (Declared procedure.name) place address old new name
    (private_begins (constant_bytes (typed_of view)) (object_of view) procedure place (sym is ∙ holds) begins) at added

-- the private procedures among those that are left
abbrev pub PrivatesAre : (typed : TypedModule) → List TypedProcedure → Type 0
PrivatesAre typed [] = Unit {0}
PrivatesAre typed (procedure ∷ procedures) =
    (is_private procedure.visibility ≡ true → Contains (names_in_code typed) procedure.name)
    × PrivatesAre typed procedures

privates_from : (typed : TypedModule) (number : ℕ) (left : List TypedProcedure)
    → ((index : ℕ) (procedure : TypedProcedure) → slice_get left index ≡ Some procedure
    → slice_get typed.procedures (number + index) ≡ Some procedure)
    → PrivatesAre typed left
privates_from typed number [] there = tt
privates_from typed number (procedure ∷ procedures) there = (
  λ private. private_named typed procedure (number + 0) true (there 0 procedure refl) (sym private) refl,
  privates_from typed (suc number) procedures
      (λ index one at.
      let same : number + suc index ≡ suc number + index = omega arith in
      subst (λ (n : ℕ). slice_get typed.procedures n ≡ Some one) same (there (suc index) one at)),
)

pub all_privates : (typed : TypedModule) → PrivatesAre typed typed.procedures
all_privates typed =
    privates_from typed 0 typed.procedures
    (λ index procedure at.
    let same : index ≡ 0 + index = omega arith in
    subst (λ (n : ℕ). slice_get typed.procedures n ≡ Some procedure) same at)

pub privates_first : (typed : TypedModule) (left : List CodeProcedure) (procedure d : CodeProcedure)
    → 1 ≤ length left → procedure ≡ get_or left 0 d → PrivatesAre typed (map procedure_view left)
    → is_private (procedure_view procedure).visibility ≡ true
    → Contains (names_in_code typed) (procedure_view procedure).name
privates_first typed [] procedure d some is are = absurd (omega (arith, some))
privates_first typed (first ∷ others) procedure d some is are =
    subst (λ (one : CodeProcedure). is_private (procedure_view one).visibility ≡ true
    → Contains (names_in_code typed) (procedure_view one).name) (sym is) are.0

pub privates_later : (typed : TypedModule) (left : List CodeProcedure) → 1 ≤ length left
    → PrivatesAre typed (map procedure_view left)
    → PrivatesAre typed (map procedure_view (take (length left - 1) (drop 1 left)))
privates_later typed [] some are = absurd (omega (arith, some))
privates_later typed (first ∷ others) some are =
    let one : length others ≤ length (first ∷ others) - 1 = omega arith in
    subst (λ (procedures : List CodeProcedure). PrivatesAre typed (map procedure_view procedures))
    (sym (take_all (length (first ∷ others) - 1) others one)) are.1

weaker : (P Q : Symbol → Type 0) (names : List Symbol) → ((symbol : Symbol) → P symbol → Q symbol)
    → AllByRecursion P names → AllByRecursion Q names
weaker P Q [] so each = tt
weaker P Q (name ∷ names) so each = (so name each.0, weaker P Q names so each.1)

pub parts_begun : (views : List ModuleView) (names : List Named) → AddsNamesSoFar views views names names
parts_begun views names =
    record { fits = λ (symbol : Symbol) is. is; adds = no_names (IsNameAmong views) names }

pub parts_more : (all left : List ModuleView) (view d : ModuleView) (old now new : List Named)
    → 1 ≤ length left → view ≡ get_or left 0 d → AddsNamesSoFar all left old now
    → AddsNames (IsNameIn view) now new → AddsNamesSoFar all (take (length left - 1) (drop 1 left)) old new
parts_more all left view d old now new some is so_far adds =
    let more : List ModuleView = take (length left - 1) (drop 1 left) in
    let among : (symbol : Symbol) → IsNameAmong (view ∷ more) symbol → IsNameAmong all symbol =
    subst (λ (views : List ModuleView). (symbol : Symbol) → IsNameAmong views symbol → IsNameAmong all symbol)
    (split_first left view d some is) so_far.fits in
    let here : (symbol : Symbol) → IsNameIn view symbol → IsNameAmong all symbol =
    λ (symbol : Symbol) in_view. among symbol (inl in_view) in
    record {
      fits = λ (symbol : Symbol) later. among symbol (inr later);
      adds = names_joined (IsNameAmong all) old now new so_far.adds (record {
        added = adds.added;
        new_is = adds.new_is;
        each = weaker (IsNameIn view) (IsNameAmong all) (map named_view adds.added) here adds.each;
      });
    }

pub parts_done : (all left : List ModuleView) (old new : List Named) → AddsNamesSoFar all left old new
    → AddsNames (IsNameAmong all) old new
parts_done all left old new so_far = so_far.adds

-- all names
pub names_whole : (views : List ModuleView) (none objects procedures new : List Named) → none ≡ []
    → map named_view objects ≡ map named_view none ++ object_names views
    → map named_view procedures ≡ map named_view objects ++ public_names views
    → AddsNames (IsNameAmong views) procedures new → HasNames views (map named_view new)
names_whole views none objects procedures new empty first second third = record {
  others = map named_view third.added;
  names_are =
      ap (map named_view) third.new_is
      ∙ map-append named_view procedures third.added
      ∙ ap (λ (l : List Symbol). l ++ map named_view third.added)
      (second ∙ ap (λ (l : List Symbol). l ++ public_names views)
      (first ∙ ap (λ (l : List Named). map named_view l ++ object_names views) empty));
  each = third.each;
}
