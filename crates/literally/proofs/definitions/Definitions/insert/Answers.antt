use Rattle.literally.proofs.Prelude.{◌∙◌, ap, bytes_eq, lookup, name_of}
use Rattle.literally.proofs.DefinitionsHeld.{words_for_inserted}
use Rattle.literally.proofs.definitions.Definitions.insert.Goals as goal

pub returns : goal.returns
returns c other =
    ap (lookup (λ key. bytes_eq other (name_of key.text.now))) c.in_ok-insert.ensures.entries
    ∙ words_for_inserted _ c.args.name c.args.words other
