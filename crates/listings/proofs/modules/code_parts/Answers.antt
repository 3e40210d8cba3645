use Rattle.listings.proofs.{Prelude.{refl, CodeSegment}, Shown.{code_of_module}}
use Rattle.listings.proofs.modules.code_parts.Goals as goal

pub returns : goal.returns
returns c =
    let segment : CodeSegment =
    record { start = c.args.view.now.code_base; length = c.length.result; constants = c.constant_size.result; fixes = c.fixes.result } in
    code_of_module c.args.pieces.now c.args.view.now segment c.new-parts.result.items
    c.push_code.new.parts.items c.new-parts.ensures.items refl c.constant_size.ensures c.length.ensures
    c.fixes.ensures.fixes c.in_ok-push_code.ensures
