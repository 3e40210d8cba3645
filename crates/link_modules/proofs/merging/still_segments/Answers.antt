use Rattle.link_modules.proofs.Prelude.{sym, ◌∙◌, high_grown}
use Rattle.link_modules.proofs.merging.still_segments.Goals as goal

pub returns-then-high_byte_moves-clause-moves : goal.returns-then-high_byte_moves-clause-moves
returns-then-high_byte_moves-clause-moves g c =
    sym
    (c.high_byte_moves.ensures
    ∙ high_grown c.args.publics.now c.args.placed.now c.in_ok-code.code c.in_ok-code.data_bytes
    c.in_ok-code.ensures.code c.in_ok-code.ensures.data_bytes)
    ∙ c.if-high_byte_moves.true

pub returns-clause-still : goal.returns-clause-still
returns-clause-still g c =
    sym
    (c.high_byte_moves.ensures
    ∙ high_grown c.args.publics.now c.args.placed.now c.in_ok-code.code c.in_ok-code.data_bytes
    c.in_ok-code.ensures.code c.in_ok-code.ensures.data_bytes)
    ∙ c.if-high_byte_moves.false
