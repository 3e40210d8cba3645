-- A PUBLIC procedure is not EXTERNAL.
use Rattle.layout.proofs.Prelude.{Visibility, true, ◌≡◌, ◌≢◌}
use Rattle.typed_trees.specs.declared.parts.Visibility.TheVariants as visibilities
use Rattle.layout.specs.Joined.{is_public_procedure}

pub not_external : (visibility : Visibility) → is_public_procedure visibility ≡ true
    → visibility ≢ visibilities.External
not_external visibilities.Public is same = cc
not_external visibilities.External is same = let bad : ⊥ = cc in absurd bad
not_external visibilities.Private is same = cc
