use Rattle.literally.proofs.Prelude.{◌≡◌, drop, flat_map, fold, name_of}
use Rattle.std.specs.Hash as fed
use Rattle.literally.proofs.names.NameHash.hash.Given as goal

-- what is left to write completes the hash
abbrev pub invariant-loop-b : goal.invariant-loop-b
invariant-loop-b g l =
    fold g.H.Hasher.write l.state (flat_map fed.u8 (name_of (drop l.b-index l.self.text.now)))
    ≡ fold g.H.Hasher.write l.initial.state (flat_map fed.u8 (name_of l.self.text.now))
