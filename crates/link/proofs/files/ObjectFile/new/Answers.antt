use Rattle.link.proofs.Prelude.{externals_told, name_told, publics_told}
use Rattle.link.proofs.files.ObjectFile.new.Goals as goal

pub invariant_of-result : goal.invariant_of-result
invariant_of-result c = record {
  named = name_told _ c.requires.valid;
  externals = externals_told _ c.requires.valid;
  publics = publics_told _ c.requires.valid;
  fits = c.requires.fits;
}
