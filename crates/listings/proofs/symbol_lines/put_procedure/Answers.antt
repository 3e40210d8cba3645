use Rattle.listings.proofs.{Prelude.{procedure_view}, Adding.{weaken_on_ok}, SymbolTexts.{procedure_added}}
use Rattle.listings.proofs.symbol_lines.put_procedure.Goals as goal

pub returns : goal.returns
returns c =
    weaken_on_ok c.put_named.result _ _
    (procedure_added c.args.view.now (procedure_view c.args.procedure.now) c.is_own.result
    c.code_of-code.result.place c.code_of-code.result.size c.address_of-address.result c.args.lines.now.items
    c.put_named.new.lines.items c.is_own.ensures c.if-not-is_own.false c.code_of-code.ensures
    c.address_of-address.ensures) c.put_named.ensures
