use Rattle.commands.proofs.{Prelude.{◌<◌, length, texts_of, passed, past_texts, text_at, within_texts}, NeedLemmas.{all_read, first_of_all, none_read, one_more_read, views_go_on}}
use Rattle.commands.proofs.needs.need.read_all.Goals as goal

pub loop-file-init : goal.loop-file-init
loop-file-init c = record { made = λ rest are. rw c.new-modules.ensures.items are; read = none_read (texts_of c.args.sources.now) }

pub loop-file-preserved : goal.loop-file-preserved
loop-file-preserved c =
    let texts = texts_of c.args.sources.now in
    let file = c.loop-file.file in
    let at = text_at c.args.sources.now file _ c.loop-file-test.true in
    let below : file < length texts = within_texts c.args.sources.now file c.loop-file-test.true in
    let is = c.in_ok-typed.ensures.source in
    record {
      made = rw c.in_ok-push.ensures.items (views_go_on texts file _ c.loop-file.modules.items c.in_ok-typed.typed c.loop-file.invariant.made below at is);
      read = one_more_read texts file _ _ c.loop-file.invariant.read at is;
    }

pub returns-clause-modules : goal.returns-clause-modules
returns-clause-modules c =
    all_read (texts_of c.args.sources.now) c.loop-file.file _ c.loop-file.invariant.made (past_texts c.args.sources.now c.loop-file.file c.loop-file-test.false)

pub returns-in_err-typed-clause-refused : goal.returns-in_err-typed-clause-refused
returns-in_err-typed-clause-refused c =
    let texts = texts_of c.args.sources.now in
    let below : c.loop-file.file < length texts = within_texts c.args.sources.now c.loop-file.file c.loop-file-test.true in
    first_of_all texts c.loop-file.file _ c.from_residual.result c.in_err-typed.field-0.0 (passed c.from_residual.result c.in_err-typed.field-0.0 c.from_residual.ensures.1) below
    (text_at c.args.sources.now c.loop-file.file _ c.loop-file-test.true) c.in_err-typed.ensures.refused c.loop-file.invariant.read
