-- What the image of object modules gives a memory.
use Rattle.std.specs.Prelude.{◌≡◌, List, Ok}
use Rattle.object_modules.specs.Merge.{merge_of}
use Rattle.object_modules.specs.Module.{ObjectModule}
use Rattle.mem80.specs.declared.plan.Plan.{Plan}
use Rattle.locate.specs.Loading.{GivesItsImage}
use Rattle.locate.specs.Locating.{Absolute, plan_view}

-- each memory into which it is put has the image of their merge
abbrev pub GivesImageOfObjects : Plan → List ObjectModule → Absolute → Type 0
GivesImageOfObjects plan objects image =
    (merged : ObjectModule) → merge_of objects ≡ Ok merged → GivesItsImage (plan_view plan) merged image
