use Rattle.std.proofs.lemmas.Option.{slice_get_read}
use Rattle.commands.proofs.Prelude.{◌<◌, length, refl, subst, sym}
use Rattle.commands.proofs.PlacesTold.{line_spelled}
use Rattle.commands.proofs.places.line_text.Goals as goal

pub returns : goal.returns
returns c =
    line_spelled c.spelled_line.result c.args.program.now c.modules.result.now c.args.number_of_module
    c.index-modules-number_of_module.result c.args.line c.modules.ensures
    (slice_get_read c.modules.result.now (length c.modules.result.now) c.args.number_of_module
    c.index-modules-number_of_module.result refl
    (subst (λ list. c.args.number_of_module < length list) (sym c.modules.ensures) c.requires.within)
    c.index-modules-number_of_module.is)
    c.spelled_line.ensures
