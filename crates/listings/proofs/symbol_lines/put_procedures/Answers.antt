use Rattle.std.proofs.Common.{rules}
use Rattle.listings.proofs.Prelude.{◌≡◌, true, List, map, subst, sym, constant_bytes, object_of, procedure_view, typed_of, CodeProcedure, HasProcedureLines, IsBegun}
use Rattle.listings.proofs.Adding.{text_begun}
use Rattle.listings.proofs.SymbolTexts.{procedures_ended}
use Rattle.listings.specs.internal.Marks.{begin_in}
use Rattle.listings.proofs.symbol_lines.put_procedures.Goals as goal

pub loop-rest-init : goal.loop-rest-init
loop-rest-init c = record {
  begun =
      subst (λ (procedures : List CodeProcedure). IsBegun (HasProcedureLines c.args.view.now)
      (typed_of c.args.view.now).procedures (map procedure_view procedures)
      c.args.lines.now.items c.args.lines.now.items)
      (sym c.as_slice-rest.ensures.value)
      (text_begun (HasProcedureLines c.args.view.now) (typed_of c.args.view.now).procedures c.args.lines.now.items);
  begin =
      subst (λ (procedures : List CodeProcedure). begin_in (constant_bytes (typed_of c.args.view.now))
      (object_of c.args.view.now) (map procedure_view procedures) c.args.view.now.procedures.now ≡ true)
      (sym c.as_slice-rest.ensures.value) (search rules);
}

pub returns : goal.returns
returns c =
    procedures_ended c.args.view.now _ c.loop-rest.rest.now c.args.lines.now.items c.loop-rest.lines.items
    c.loop-rest.invariant.begun c.in_default.len_below
