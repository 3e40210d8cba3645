-- Faults of the code in the words of programs.
use Rattle.std.specs.Prelude.{ℕ, List, codes, map}
use Rattle.join.specs.declared.fault.Fault.{Fault}
use Rattle.join.specs.declared.fault.Fault.TheVariants as faults
use Rattle.join.specs.declared.joined.Joined.{Joined}
use Rattle.typed_trees.specs.TypedTrees.{TypedModule}
use Rattle.typed_trees.specs.Views.{module_view}
use Rattle.typed_trees.specs.declared.module.Typed.{Typed}
use Rattle.layout.specs.Joined.{JoinRefusal, NoPublic, PublicTwice, DeclarationsDiffer, NotOneMain}

-- the number of a fault
abbrev pub number_of : Fault → List ℕ
number_of (faults.NoPublic name) = codes "J1"
number_of (faults.PublicTwice name) = codes "J2"
number_of (faults.DeclarationsDiffer name) = codes "J3"
number_of faults.NotOneMain = codes "J4"

-- why modules make no program, as a fault tells it
abbrev pub refusal_of : Fault → JoinRefusal
refusal_of (faults.NoPublic name) = NoPublic name
refusal_of (faults.PublicTwice name) = PublicTwice name
refusal_of (faults.DeclarationsDiffer name) = DeclarationsDiffer name
refusal_of faults.NotOneMain = NotOneMain

-- the modules of a program
abbrev pub modules_of : Joined → List Typed
modules_of joined = joined.modules.items

abbrev pub modules_in : Joined → List TypedModule
modules_in joined = map module_view (modules_of joined)
