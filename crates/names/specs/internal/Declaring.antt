-- What the scopes of a text promise of a declaration.
use Rattle.std.specs.Prelude.{◌≡◌, Bool, true, false, Result, Ok, Err}
use Rattle.failure.specs.declared.Failure.{Failure}
use Rattle.failure.specs.declared.Failure.TheVariants as failures
use Rattle.trees.specs.declared.identifier.Identifier.{Identifier}
use Rattle.names.specs.declared.fault.Fault.{Fault}
use Rattle.names.specs.declared.fault.Fault.TheVariants.{DeclaredTwice}

-- A name that may be declared is declared: what was before is now as `after`. One that may not be declared again is
-- refused.
abbrev pub Declares : {A B : Type 0} → Result A (Failure Fault) → Identifier → Bool → B → B → Type 0
Declares (Ok done) name again now after = (again ≡ false) × (now ≡ after)
Declares (Err (failures.Fault fault)) name again now after =
    (again ≡ true) × (fault ≡ DeclaredTwice name.place)
Declares (Err failures.Memory) name again now after = Unit {0}
