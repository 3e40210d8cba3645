-- The code of an address does what the reference means.
use Rattle.task_laws.proofs.Prelude.{ℕ, Reference, Facts, address_steps, knowing, Context, IsSound, StepsStand, AddressDoes, PartDoes}
use Rattle.task_laws.proofs.Places.Located.{address_law}
use Rattle.task_laws.proofs.Words.Multiples.{products_always_do}

pub addresses_do :
    (context : Context) → IsSound context
    → (facts last : Facts) (reference : Reference) (pushed from to : ℕ)
    → StepsStand context (PartDoes context) facts from
    (address_steps (knowing context.site facts) reference pushed) last to
    → AddressDoes context facts reference pushed from last to
addresses_do context sound facts last reference pushed from to stand =
    address_law (products_always_do context sound) sound stand
