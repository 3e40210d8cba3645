-- How objects are found.
use Rattle.typed_trees.specs.TypedTrees.{Home, BasedOn, InFrame}
use Rattle.resolving.specs.declared.site.Storage.{Storage}
use Rattle.resolving.specs.declared.site.Storage.TheVariants.{Frame, Base, Memory}

-- an object of a REENTRANT procedure lies in a frame, one that is BASED where its base says, and any other at
-- an address
abbrev pub storage_by : Home → Storage
storage_by (InFrame procedure) = Frame
storage_by (BasedOn base) = Base base
storage_by home = Memory
