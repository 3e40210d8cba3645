use Rattle.host.proofs.LinesPrinted.{line_told}
use Rattle.host.proofs.endings.refuse_name.Goals as goal

pub returns-clause-told : goal.returns-clause-told
returns-clause-told g c =
    line_told _ _ _ _ _ _ _ _ c.as_bytes.ensures.value c.as_bytes-2.ensures.value c.format-line.ensures.text
    c.write_pieces.ensures
