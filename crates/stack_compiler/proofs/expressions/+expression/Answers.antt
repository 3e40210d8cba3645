use Rattle.stack_compiler.proofs.Prelude.{sym, ◌∙◌, arith, on_ok_weaker, subscript_view, site_view}
use Rattle.stack_compiler.specs.internal.Purposes.{purpose_view}
use Rattle.stack_compiler.proofs.Arguments.{argument_emitted, arguments_emitted}
use Rattle.stack_compiler.proofs.Storages.{reference_in_frame, reference_in_memory, reference_with_base}
use Rattle.stack_compiler.proofs.expressions.+expression.Goals as goal

pub emit_arguments-loop-argument-preserved : goal.emit_arguments-loop-argument-preserved
emit_arguments-loop-argument-preserved t c =
    argument_emitted (site_view c.args.site.now) c.loop-argument.code.items _ c.args.arguments.now
    c.loop-argument.argument-index c.loop-argument.invariant
    c.argument-item.result c.emit_expression.new.code.items (omega arith) c.argument-item.is
    c.in_ok-emit_expression.ensures

pub emit_arguments-returns : goal.emit_arguments-returns
emit_arguments-returns t c =
    arguments_emitted (site_view c.args.site.now) c.loop-argument.code.items _ c.args.arguments.now
    c.loop-argument.argument-index c.loop-argument.invariant (omega arith)

pub emit_reference-returns-in-Frame : goal.emit_reference-returns-in-Frame
emit_reference-returns-in-Frame t c =
    let r = c.args.reference.now in
    on_ok_weaker c.emit_framed.result
    (reference_in_frame (site_view c.args.site.now) (purpose_view c.args.purpose) r.object r.member r.offset
    (subscript_view r.subscript) (subscript_view r.member_subscript)
    c.args.code.now.items c.emit_framed.new.code.items (sym c.in-Frame.is ∙ c.storage_of.ensures))
    c.emit_framed.ensures

pub emit_reference-returns-in-Base : goal.emit_reference-returns-in-Base
emit_reference-returns-in-Base t c =
    let r = c.args.reference.now in
    on_ok_weaker c.emit_based.result
    (reference_with_base (site_view c.args.site.now) (purpose_view c.args.purpose) r.object r.member r.offset
    (subscript_view r.subscript) (subscript_view r.member_subscript)
    c.args.code.now.items c.emit_based.new.code.items c.in-Base.base
    (sym c.in-Base.is ∙ c.storage_of.ensures))
    c.emit_based.ensures

pub emit_reference-returns-in-Memory : goal.emit_reference-returns-in-Memory
emit_reference-returns-in-Memory t c =
    let r = c.args.reference.now in
    on_ok_weaker c.emit_placed.result
    (reference_in_memory (site_view c.args.site.now) (purpose_view c.args.purpose) r.object r.member r.offset
    (subscript_view r.subscript) (subscript_view r.member_subscript)
    c.args.code.now.items c.emit_placed.new.code.items (sym c.in-Memory.is ∙ c.storage_of.ensures))
    c.emit_placed.ensures
