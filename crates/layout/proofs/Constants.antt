-- Where each object with DATA and each list stands among the constants, these fit into a segment just where all
-- together do.
use Rattle.layout.proofs.Prelude.{◌≡◌, ℕ, ◌≤◌, Bool, true, false, List, length, get_or, Some, ap, subst, refl, ◌∙◌, arith, nat_le, ◌&&◌, slice_get, Contains, list_all, option_map_or, le-leb, leb-true, slice_get-get_or, get_or-le-sum_by, list_all-from_AllPass, ConstantObject, ConstantList, ConstantItem, InitialValue, Home, InData, InConstants, Placed, BasedOn, Elsewhere, Nowhere, InFrame, TypedObject, TypedModule, size_of_object, size_of_constant, constant_bytes, bytes_in_constants, fits_as_object, fits_as_list, constants_fit, HasItsConstants}

-- what stands among the constants has no more bytes than all of them
within_all :
    (typed : TypedModule) (item : ConstantItem)
    → Contains typed.constants.items item
    → size_of_constant typed item ≤ constant_bytes typed
within_all typed item stands =
    subst (λ (item : ConstantItem). size_of_constant typed item ≤ constant_bytes typed) stands.2
    (get_or-le-sum_by (size_of_constant typed) typed.constants.items stands.0 item stands.1)

fits_by_home :
    (object : TypedObject) (home : Home)
    → ((values : List InitialValue) → home ≡ InConstants values → size_of_object object ≤ 65535)
    → nat_le (bytes_in_constants home object) 65535 ≡ true
fits_by_home object (InConstants values) small = le-leb (size_of_object object) 65535 (small values refl)
fits_by_home object (InData values) small = refl
fits_by_home object (Placed at) small = refl
fits_by_home object (BasedOn base) small = refl
fits_by_home object Elsewhere small = refl
fits_by_home object Nowhere small = refl
fits_by_home object (InFrame procedure) small = refl

object_size :
    (typed : TypedModule) (number : ℕ) (object : TypedObject)
    → slice_get typed.objects number ≡ Some object
    → size_of_constant typed (ConstantObject number) ≡ size_of_object object
object_size typed number object is = ap (λ found. option_map_or size_of_object found 0) is

list_size :
    (typed : TypedModule) (number : ℕ) (bytes : List ℕ)
    → slice_get typed.constants.lists number ≡ Some bytes
    → size_of_constant typed (ConstantList number) ≡ length bytes
list_size typed number bytes is = ap (λ found. option_map_or length found 0) is

bounded : (size one all : ℕ) → one ≡ size → one ≤ all → all ≤ 65535 → size ≤ 65535
bounded size one all is within small = omega arith

objects_fit :
    (typed : TypedModule)
    → HasItsConstants typed
    → constant_bytes typed ≤ 65535
    → list_all fits_as_object typed.objects ≡ true
objects_fit typed has small =
    list_all-from_AllPass fits_as_object typed.objects (λ number d within.
    let object : TypedObject = get_or typed.objects number d in
    let is : slice_get typed.objects number ≡ Some object =
    slice_get-get_or typed.objects number d within in
    fits_by_home object object.home (λ values home.
    bounded (size_of_object object) (size_of_constant typed (ConstantObject number)) (constant_bytes typed)
    (object_size typed number object is)
    (within_all typed (ConstantObject number) (has.objects number object values is home)) small))

lists_fit :
    (typed : TypedModule)
    → HasItsConstants typed
    → constant_bytes typed ≤ 65535
    → list_all fits_as_list typed.constants.lists ≡ true
lists_fit typed has small =
    list_all-from_AllPass fits_as_list typed.constants.lists (λ number d within.
    le-leb (length (get_or typed.constants.lists number d)) 65535
    (bounded (length (get_or typed.constants.lists number d)) (size_of_constant typed (ConstantList number))
    (constant_bytes typed)
    (list_size typed number (get_or typed.constants.lists number d)
    (slice_get-get_or typed.constants.lists number d within))
    (within_all typed (ConstantList number) (has.lists number within)) small))

by_all : (all objects lists : Bool) → (all ≡ true → objects ≡ true) → (all ≡ true → lists ≡ true)
    → (all && objects && lists) ≡ all
by_all true objects lists then_objects then_lists =
    ap (λ fit. fit && lists) (then_objects refl) ∙ then_lists refl
by_all false objects lists then_objects then_lists = refl

pub constants_fit_together :
    (typed : TypedModule) → HasItsConstants typed → constants_fit typed ≡ nat_le (constant_bytes typed) 65535
constants_fit_together typed has =
    by_all (nat_le (constant_bytes typed) 65535) (list_all fits_as_object typed.objects)
    (list_all fits_as_list typed.constants.lists)
    (λ fit. objects_fit typed has (leb-true (constant_bytes typed) 65535 fit))
    (λ fit. lists_fit typed has (leb-true (constant_bytes typed) 65535 fit))
