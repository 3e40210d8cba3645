use Rattle.link_modules.proofs.Prelude.{◌∙◌, ap, arith, start_after, code_too_long, data_too_long, stack_too_long, one_more, all_placed, all_valid, all_stacks, all_fit}
use Rattle.link_modules.proofs.pieces.pieces_of.Goals as goal

pub returns-then-code-gt-SEGMENT_LIMIT-clause-too_long : goal.returns-then-code-gt-SEGMENT_LIMIT-clause-too_long
returns-then-code-gt-SEGMENT_LIMIT-clause-too_long g c =
    code_too_long c.loop-input.code c.loop-input.data_end c.loop-input.stack
    c.loop-input.placed.items c.args.inputs.now
    c.loop-input.input-index c.loop-input.invariant c.input-item.result (omega arith) c.input-item.is
    c.start_at-code_start.result c.length.result
    (c.start_at-code_start.ensures ∙ ap (start_after c.loop-input.code) c.alignment.ensures) c.length.ensures
    c.if-code-gt-SEGMENT_LIMIT.true

pub returns-then-data_end-gt-SEGMENT_LIMIT-clause-too_long : goal.returns-then-data_end-gt-SEGMENT_LIMIT-clause-too_long
returns-then-data_end-gt-SEGMENT_LIMIT-clause-too_long g c =
    data_too_long c.loop-input.code c.loop-input.data_end c.loop-input.stack
    c.loop-input.placed.items c.args.inputs.now
    c.loop-input.input-index c.loop-input.invariant c.input-item.result (omega arith) c.input-item.is
    c.start_at-data_start.result c.length-in-loop-input.result
    (c.start_at-data_start.ensures ∙ ap (start_after c.loop-input.data_end) c.alignment-in-loop-input.ensures)
    c.length-in-loop-input.ensures c.if-data_end-gt-SEGMENT_LIMIT.true

pub returns-then-stack-gt-SEGMENT_LIMIT-clause-too_long : goal.returns-then-stack-gt-SEGMENT_LIMIT-clause-too_long
returns-then-stack-gt-SEGMENT_LIMIT-clause-too_long g c =
    stack_too_long c.loop-input.code c.loop-input.data_end c.loop-input.stack
    c.loop-input.placed.items c.args.inputs.now
    c.loop-input.input-index c.loop-input.invariant c.input-item.result (omega arith) c.input-item.is
    c.length-stack_more.result c.length-stack_more.ensures c.if-stack-gt-SEGMENT_LIMIT.true

pub loop-input-preserved : goal.loop-input-preserved
loop-input-preserved g c =
    one_more c.loop-input.code c.loop-input.data_end c.loop-input.stack
    c.loop-input.placed.items c.args.inputs.now
    c.loop-input.input-index c.loop-input.invariant c.input-item.result (omega arith) c.input-item.is
    c.start_at-code_start.result c.start_at-data_start.result c.length.result c.length-in-loop-input.result
    c.length-stack_more.result c.push.new.self.items c.new.result
    (c.start_at-code_start.ensures ∙ ap (start_after c.loop-input.code) c.alignment.ensures)
    (c.start_at-data_start.ensures ∙ ap (start_after c.loop-input.data_end) c.alignment-in-loop-input.ensures)
    c.length.ensures c.length-in-loop-input.ensures c.length-stack_more.ensures
    c.if-code-gt-SEGMENT_LIMIT.false
    c.if-data_end-gt-SEGMENT_LIMIT.false c.if-stack-gt-SEGMENT_LIMIT.false
    c.new.ensures.object c.new.ensures.start
    c.new.ensures.valid c.in_ok-push.ensures.items

pub returns-clause-placed : goal.returns-clause-placed
returns-clause-placed g c =
    all_placed c.loop-input.code c.loop-input.data_end c.loop-input.stack
    c.loop-input.placed.items c.args.inputs.now
    c.loop-input.input-index c.loop-input.invariant (omega arith)

pub returns-clause-stack : goal.returns-clause-stack
returns-clause-stack g c =
    all_stacks c.loop-input.code c.loop-input.data_end c.loop-input.stack
    c.loop-input.placed.items c.args.inputs.now
    c.loop-input.input-index c.loop-input.invariant (omega arith)

pub returns-clause-valid : goal.returns-clause-valid
returns-clause-valid g c =
    all_valid c.loop-input.code c.loop-input.data_end c.loop-input.stack
    c.loop-input.placed.items c.args.inputs.now
    c.loop-input.input-index c.loop-input.invariant (omega arith)

pub returns-clause-fits : goal.returns-clause-fits
returns-clause-fits g c =
    all_fit c.loop-input.code c.loop-input.data_end c.loop-input.stack
    c.loop-input.placed.items c.args.inputs.now
    c.loop-input.input-index c.loop-input.invariant (omega arith)
