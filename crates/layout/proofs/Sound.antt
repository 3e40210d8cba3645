-- What is true of a soundly typed module, by the numbers of its objects.
use Rattle.layout.proofs.Prelude.{◌≡◌, ℕ, ◌<◌, Some, slice_get, subst, All-get_or, get_or_from_slice_get, slice_get_within, size_of_object, TypedModule, TypedObject}
use Rattle.layout.specs.Sound.{TakeBytes}

-- the object of a number takes a byte
pub takes_byte :
    (typed : TypedModule) (number : ℕ) (object : TypedObject)
    → TakeBytes typed
    → slice_get typed.objects number ≡ Some object
    → 0 < size_of_object object
takes_byte typed number object sized found =
    subst (λ (object : TypedObject). 0 < size_of_object object)
    (get_or_from_slice_get typed.objects number object object found)
    (All-get_or (λ (object : TypedObject). 0 < size_of_object object) typed.objects number object
    (slice_get_within typed.objects number object found) sized)
