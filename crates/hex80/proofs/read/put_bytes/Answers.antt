use Rattle.hex80.proofs.Prelude.{sym, ◌∙◌, arith}
use Rattle.hex80.proofs.ReadLemmas.{byte_more, odd_digits}
use Rattle.hex80.proofs.read.put_bytes.Goals as goal

pub returns-then-digits-ne0-clause-bytes : goal.returns-then-digits-ne0-clause-bytes
returns-then-digits-ne0-clause-bytes c = odd_digits c.args.digits.now c.if-digits-ne0.true

pub loop-i-preserved : goal.loop-i-preserved
loop-i-preserved c =
    c.loop-i.invariant
    ∙ byte_more c.args.digits.now c.loop-i.buffer c.loop-i.i c.in_ok-buffer.field-0 (omega arith)
    (omega (arith, c.loop-i.auto.buffer, c.requires)) (sym c.in_ok-buffer.ensures)
