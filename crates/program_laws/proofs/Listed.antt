-- The globals of a module are its PUBLIC and EXTERNAL objects and procedures, and no others.
use Rattle.program_laws.proofs.Prelude.{◌≡◌, ℕ, zero, suc, ◌+◌, Bool, true, false, List, [], ◌∷◌, Option, Some, None, refl, ap, sym, ◌∙◌, subst, arith, filter_map, slice_get, if◌then◌else◌, AllByRecursion, cons_option, enumerate_from, none-some, same_Some, GlobalItem, GlobalObject, GlobalProcedure, ListsGlobals, global_procedure, is_global, is_shared, shared_object, shared_procedure, TypedObject, TypedProcedure, TypedModule}
use Rattle.typed_trees.specs.Globals.{global_object}

-- an item stands in a list
pub record InList {A : Type 0} (list : List A) (item : A) : Type 0 where
  pub index : ℕ
  pub found : slice_get list index ≡ Some item

later : {A : Type 0} (first : A) (list : List A) (item : A) → InList list item → InList (first ∷ list) item
later first list item in_list = record { index = suc in_list.index; found = in_list.found }

-- what holds wherever an item stands holds of each
pub of_each :
    {A : Type 0} (P : A → Type 0) (list : List A)
    → ((item : A) → InList list item → P item)
    → AllByRecursion P list
of_each P [] holds = tt
of_each P (first ∷ others) holds = (
  holds first (record { index = 0; found = refl }),
  of_each P others (λ item at. holds item (later first others item at)),
)

-- what a function keeps of items
after_option :
    {A : Type 0} (first : Option A) (list : List A) (item : A)
    → InList list item → InList (cons_option first list) item
after_option None list item in_list = in_list
after_option (Some first) list item in_list = later first list item in_list

in_front :
    {A : Type 0} (first : Option A) (list : List A) (item : A)
    → first ≡ Some item → InList (cons_option first list) item
in_front None list item is = absurd (none-some item is)
in_front (Some first) list item is = record { index = 0; found = is }

pub kept_in :
    {A B : Type 0} (f : A → Option B) (list : List A) (index : ℕ) (item : A) (made : B)
    → slice_get list index ≡ Some item → f item ≡ Some made → InList (filter_map f list) made
kept_in f [] index item made found is = absurd (none-some item found)
kept_in f (first ∷ others) zero item made found is =
    in_front (f first) (filter_map f others) made (ap f (same_Some first item found) ∙ is)
kept_in f (first ∷ others) (suc index) item made found is =
    after_option (f first) (filter_map f others) made (kept_in f others index item made found is)

-- and what it was kept of
pub record CameFrom {A B : Type 0} (f : A → Option B) (list : List A) (made : B) : Type 0 where
  pub item : A
  pub at : InList list item
  pub is : f item ≡ Some made

came_later :
    {A B : Type 0} (f : A → Option B) (first : A) (list : List A) (made : B)
    → CameFrom f list made → CameFrom f (first ∷ list) made
came_later f first list made came =
    record { item = came.item; at = later first list came.item came.at; is = came.is }

pub came_from :
    {A B : Type 0} (f : A → Option B) (list : List A) (index : ℕ) (made : B)
    → slice_get (filter_map f list) index ≡ Some made → CameFrom f list made
came_from f [] index made found = absurd (none-some made found)
came_from f (first ∷ others) index made found =
    by (f first) refl index found (λ at there. came_from f others at made there)
  where
    by : (one : Option _)
        → f first ≡ one
        → (at : ℕ)
        → slice_get (cons_option one (filter_map f others)) at ≡ Some made
        → ((at : ℕ) → slice_get (filter_map f others) at ≡ Some made → CameFrom f others made)
        → CameFrom f (first ∷ others) made
    by None e at there rest = came_later f first others made (rest at there)
    by (Some one) e zero there rest = record {
      item = first;
      at = record { index = 0; found = refl };
      is = e ∙ there;
    }
    by (Some one) e (suc at) there rest = came_later f first others made (rest at there)

-- items by their numbers
pub numbered_in :
    {A : Type 0} (first : ℕ) (list : List A) (index : ℕ) (item : A)
    → slice_get list index ≡ Some item
    → InList (enumerate_from first list) (first + index, item)
numbered_in first [] index item found = absurd (none-some item found)
numbered_in first (one ∷ others) zero item found = record {
  index = 0;
  found = ap (λ given. Some (first, given)) (same_Some one item found)
      ∙ ap (λ number. Some (number, item)) nothing;
}
  where
    nothing : first ≡ first + 0
    nothing = omega arith
numbered_in first (one ∷ others) (suc index) item found =
    let rest = numbered_in (first + 1) others index item found in
    let more : first + 1 + index ≡ first + suc index = omega arith in
    record { index = suc rest.index; found = rest.found ∙ ap (λ number. Some (number, item)) more }

numbers_are :
    {A : Type 0} (first : ℕ) (list : List A) (index : ℕ) (given : ℕ × A)
    → slice_get (enumerate_from first list) index ≡ Some given
    → (given.0 ≡ first + index) × (slice_get list index ≡ Some given.1)
numbers_are first [] index given found = absurd (none-some given found)
numbers_are first (one ∷ others) zero given found =
    let same = same_Some (first, one) given found in (
      (let nothing : first ≡ first + 0 = omega arith in ap (λ (one : _). one.0) (sym same) ∙ nothing),
      ap (λ (one : _). Some one.1) same,
    )
numbers_are first (one ∷ others) (suc index) given found =
    let rest = numbers_are (first + 1) others index given found in
    (let more : first + 1 + index ≡ first + suc index = omega arith in rest.0 ∙ more, rest.1)

-- a shared object, or a procedure, is one of the globals
object_is : (item : GlobalItem) (number : ℕ) → shared_object item ≡ Some number → item ≡ GlobalObject number
object_is (GlobalObject other) number is = ap GlobalObject (same_Some other number is)
object_is (GlobalProcedure other) number is = absurd (none-some number is)

pub object_listed :
    (typed : TypedModule) (number : ℕ) (object : TypedObject)
    → ListsGlobals typed
    → slice_get typed.objects number ≡ Some object
    → is_shared object.home object.is_public ≡ true
    → InList typed.globals (GlobalObject number)
object_listed typed number object lists found shared =
    let at = numbered_in 0 typed.objects number object found in
    let same : 0 + number ≡ number = omega arith in
    let kept =
    kept_in global_object (enumerate_from 0 typed.objects) at.index (0 + number, object) number at.found
    (ap (λ (is : Bool). if is then Some (0 + number) else None) shared ∙ ap Some same) in
    let came = came_from shared_object typed.globals kept.index number
    (ap (λ (numbers : List ℕ). slice_get numbers kept.index) lists.objects ∙ kept.found) in
    subst (InList typed.globals) (object_is came.item number came.is) came.at

-- and an object of the globals is shared
pub record SharedObject (typed : TypedModule) (number : ℕ) : Type 0 where
  pub object : TypedObject
  pub found : slice_get typed.objects number ≡ Some object
  pub shared : is_shared object.home object.is_public ≡ true

-- what a test keeps has passed it
passed :
    (test : Bool) (number kept : ℕ)
    → (if test then Some number else None) ≡ Some kept
    → (test ≡ true) × (number ≡ kept)
passed true number kept is = (refl, same_Some number kept is)
passed false number kept is = absurd (none-some kept is)

pub object_shared :
    (typed : TypedModule) (number : ℕ)
    → ListsGlobals typed
    → InList typed.globals (GlobalObject number)
    → SharedObject typed number
object_shared typed number lists at =
    let kept = kept_in shared_object typed.globals at.index (GlobalObject number) number at.found refl in
    let came = came_from global_object (enumerate_from 0 typed.objects) kept.index number
    (ap (λ (numbers : List ℕ). slice_get numbers kept.index) (sym lists.objects) ∙ kept.found) in
    let is = passed (is_shared (came.item.1).home (came.item.1).is_public) came.item.0 number came.is in
    let there = numbers_are 0 typed.objects came.at.index came.item came.at.found in
    let first = there.0 in
    let second = is.1 in
    let same : came.at.index ≡ number = omega (arith, first, second) in record {
      object = came.item.1;
      found = ap (slice_get typed.objects) (sym same) ∙ there.1;
      shared = is.0;
    }

-- and so is a procedure
pub record SharedProcedure (typed : TypedModule) (number : ℕ) : Type 0 where
  pub procedure : TypedProcedure
  pub found : slice_get typed.procedures number ≡ Some procedure
  pub shared : is_global procedure.visibility ≡ true

pub procedure_shared :
    (typed : TypedModule) (number : ℕ)
    → ListsGlobals typed
    → InList typed.globals (GlobalProcedure number)
    → SharedProcedure typed number
procedure_shared typed number lists at =
    let kept =
    kept_in shared_procedure typed.globals at.index (GlobalProcedure number) number at.found refl in
    let came = came_from global_procedure (enumerate_from 0 typed.procedures) kept.index number
    (ap (λ (numbers : List ℕ). slice_get numbers kept.index) (sym lists.procedures) ∙ kept.found) in
    let is = passed (is_global (came.item.1).visibility) came.item.0 number came.is in
    let there = numbers_are 0 typed.procedures came.at.index came.item came.at.found in
    let first = there.0 in
    let second = is.1 in
    let same : came.at.index ≡ number = omega (arith, first, second) in record {
      procedure = came.item.1;
      found = ap (slice_get typed.procedures) (sym same) ∙ there.1;
      shared = is.0;
    }
