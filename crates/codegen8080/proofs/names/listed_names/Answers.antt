use Rattle.codegen8080.proofs.Prelude.{sym, subst, IsNumbering}
use Rattle.codegen8080.proofs.NameLoops.{names_listed}
use Rattle.codegen8080.proofs.names.listed_names.Goals as goal

pub places_of-requires : goal.places_of-requires
places_of-requires c = subst (IsNumbering c.in-Some.count) (sym c.numbers-numbers.ensures) c.in-Some.ensures

pub returns : goal.returns
returns c =
    names_listed c.args.externals.now c.args.numbered.now c.numbers-numbers.result.now
    c.in_ok-places.places.items
    c.in_ok-names.names c.numbers-numbers.ensures c.requires.within c.in_ok-places.ensures
    c.in_ok-names.ensures.names
    c.in_ok-names.ensures.publics
