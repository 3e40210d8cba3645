use Rattle.commands.proofs.programs.standing.marked_line.Goals as goal

pub line_of-requires : goal.line_of-requires
line_of-requires c = record { within = c.requires.part c.in_ok-lines.lines c.in_ok-lines.ensures.each }
