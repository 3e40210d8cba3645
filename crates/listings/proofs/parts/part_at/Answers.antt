use Rattle.listings.proofs.{Prelude.{refl}, Stepping.{code_part}}
use Rattle.listings.proofs.parts.part_at.Goals as goal

pub returns-in-Some-clause-part : goal.returns-in-Some-clause-part
returns-in-Some-clause-part c =
    code_part c.args.pieces.now c.args.segment c.args.offset _ _ c.in-Some.code c.instruction_part.result
    c.in-Some.ensures.some refl refl
    c.instruction_part.ensures.address c.instruction_part.ensures.size c.instruction_part.ensures.bytes
    c.instruction_part.ensures.instr
    c.instruction_part.ensures.named
