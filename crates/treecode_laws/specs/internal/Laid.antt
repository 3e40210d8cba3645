-- A module that can be laid out, with its storage.
use Rattle.std.specs.Prelude.{◌≡◌, ◌≤◌, true}
use Rattle.std.specs.List.{list_all}
use Rattle.typed_trees.specs.Globals.{ListsGlobals}
use Rattle.typed_trees.specs.Storable.{IsStorable}
use Rattle.typed_trees.specs.TypedTrees.{TypedModule}
use Rattle.typed_trees.specs.Weight.{constant_bytes}
use Rattle.layout.specs.Storage.{Storage, data_bytes, fits_as_object, storage_with}

-- the properties of a module with this storage
pub record IsStored (typed : TypedModule) (storage : Storage) : Type 0 where
  pub storage_is : storage ≡ storage_with typed
  pub data_fits : data_bytes typed.objects ≤ 65535
  pub constants_fit : constant_bytes typed ≤ 65535
  pub objects_fit : list_all fits_as_object typed.objects ≡ true

-- a storable module that lists its globals, with its storage
pub record IsLaidOut (typed : TypedModule) (storage : Storage) : Type 0 where
  pub storable : IsStorable typed
  pub globals : ListsGlobals typed
  pub stored : IsStored typed storage
