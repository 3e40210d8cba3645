use Rattle.tool.proofs.Prelude.{rules, ◌<◌, length, texts_of}
use Rattle.tool.proofs.CompiledLemmas.{all_compiled, cause_of_all, goes_on, none_without_fault, one_more_without_fault, order_of_all, passed, past_texts, text_at, within_texts}
use Rattle.tool.proofs.compiled.compile_all.Goals as goal

pub loop-file-init : goal.loop-file-init
loop-file-init c =
    record { made = λ rest are. rw c.new-compiled.ensures.items are; read = none_without_fault (texts_of c.args.sources.now) }

pub loop-file-preserved : goal.loop-file-preserved
loop-file-preserved c =
    let texts = texts_of c.args.sources.now in
    let file = c.loop-file.file in
    let at = text_at c.args.sources.now file _ c.loop-file-test.true in
    let below : file < length texts = within_texts c.args.sources.now file c.loop-file-test.true in
    let is = c.in_ok-one.ensures.compiled in
    record {
      made = rw c.in_ok-push.ensures.items
          (goes_on texts file _ c.loop-file.compiled.items c.in_ok-one.one
          c.loop-file.invariant.made below at is);
      read = one_more_without_fault texts file _ c.in_ok-one.one c.loop-file.invariant.read at is;
    }

pub returns-clause-compiled : goal.returns-clause-compiled
returns-clause-compiled c =
    all_compiled (texts_of c.args.sources.now) c.loop-file.file c.loop-file.compiled.items
    c.loop-file.invariant.made
    (past_texts c.args.sources.now c.loop-file.file c.loop-file-test.false)

pub returns-in_err-one-clause-refused : goal.returns-in_err-one-clause-refused
returns-in_err-one-clause-refused c plan =
    let texts = texts_of c.args.sources.now in
    let below : c.loop-file.file < length texts =
    within_texts c.args.sources.now c.loop-file.file c.loop-file-test.true in
    cause_of_all texts plan c.loop-file.file _ c.from_residual.result c.in_err-one.field-0.0
    (passed c.from_residual.result c.in_err-one.field-0.0 c.from_residual.ensures.1) below
    (text_at c.args.sources.now c.loop-file.file _ c.loop-file-test.true) c.in_err-one.ensures.refused

pub returns-in_err-one-clause-order : goal.returns-in_err-one-clause-order
returns-in_err-one-clause-order c =
    order_of_all (texts_of c.args.sources.now) c.loop-file.file _ c.from_residual.result
    c.in_err-one.field-0.0
    (passed c.from_residual.result c.in_err-one.field-0.0 c.from_residual.ensures.1)
    c.in_err-one.ensures.refused c.loop-file.invariant.read

pub returns-in_err-push-clause-refused : goal.returns-in_err-push-clause-refused
returns-in_err-push-clause-refused c plan = search rules
