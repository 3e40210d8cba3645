-- The labels that the code of a soundly typed module refers to have their places.
use Rattle.measure_laws.proofs.Prelude.{TypedModule, Storage, TreeModule, IsLowered, IsSound, PlacesLabels}
use Rattle.measure_laws.proofs.Labels.Modules.{own_code_goes}

-- each label that its own code refers to is bound there, or is that of a routine that it calls
pub labels_have_places :
    (typed : TypedModule) (storage : Storage) (tree : TreeModule)
    → IsSound typed
    → IsLowered typed storage tree
    → PlacesLabels tree
labels_have_places typed storage tree sound lowered called start own is =
    own_code_goes typed storage tree called start own lowered sound is
