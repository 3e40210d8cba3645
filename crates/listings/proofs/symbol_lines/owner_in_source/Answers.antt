use Rattle.listings.proofs.{Prelude.{procedure_view, typed_of}, SymbolTexts.{owner_found}}
use Rattle.listings.proofs.symbol_lines.owner_in_source.Goals as goal

pub returns : goal.returns
returns c =
    owner_found (typed_of c.args.view.now) (procedure_view c.in_ok-procedure.procedure.now) _
    c.in_ok-procedure.ensures
