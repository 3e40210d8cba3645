use Rattle.runtime8080.proofs.Labels.{mark_is_new}
use Rattle.runtime8080.proofs.parts.emit_part.Goals as goal

-- src/parts.rt:32:30
pub bind-requires-clause-once : goal.bind-requires-clause-once
bind-requires-clause-once c =
    mark_is_new c.args.part c.in-Here.label c.args.code.now.items c.requires.new c.in-Here.is
