-- The failure of a step of reading as one of the whole.
use Rattle.failure.specs.declared.Failure.{Failure}
use Rattle.failure.specs.declared.Failure.TheVariants.{Fault, Memory}

abbrev pub failure_as : {F G : Type 0} → (F → G) → Failure F → Failure G
failure_as make (Fault fault) = Fault (make fault)
failure_as make Memory = Memory
