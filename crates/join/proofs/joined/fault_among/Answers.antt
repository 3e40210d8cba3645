use Rattle.join.proofs.Prelude.{map, module_view}
use Rattle.join.proofs.Refusals.{otherwise_found}
use Rattle.join.proofs.joined.fault_among.Goals as goal

pub returns-in-Some-first_different : goal.returns-in-Some-first_different
returns-in-Some-first_different c =
    otherwise_found (map module_view c.args.modules.now) c.args.globals.now c.args.publics.now
    c.requires.globals c.requires.publics
    c.in-Some-first_different.name c.first_without.result c.first_different.result
    c.first_without.ensures c.in_default.is c.in_default-repeated.is c.first_different.ensures
    c.in-Some-first_different.is
