use Rattle.listings.proofs.{Prelude.{◌++◌, ap, map, ◌∙◌, lines_of, parts_in, parts_text, code_text, lined, text_of, name_at}, Adding.{weaken_on_ok}, ModuleLists.{module_listed}}
use Rattle.listings.proofs.modules.put_module.Goals as goal

pub returns : goal.returns
returns c =
    let names = c.args.shared.names.now in
    weaken_on_ok c.put_sizes.result _ _
    (module_listed names c.args.shared.pieces.now c.args.view.now c.args.lines.now.items
    c.put_code.new.lines.items c.put_parts_in.new.lines.items c.put_sizes.new.lines.items
    c.in_ok-parts.parts.items c.in_ok-parts-2.parts.items c.in_ok-parts.ensures
    (c.in_ok-put_code.ensures ∙ ap (λ parts. c.args.lines.now.items
    ++ code_text (name_at names) (lines_of (text_of c.args.view.now)) (map (lined (name_at names)) parts))
    c.as_slice.ensures.value)
    c.in_ok-parts-2.ensures
    (c.in_ok-put_parts_in.ensures ∙ ap (λ parts. c.put_code.new.lines.items
    ++ parts_text (name_at names) (parts_in 0 (map (lined (name_at names)) parts)))
    c.as_slice-2.ensures.value))
    c.put_sizes.ensures
