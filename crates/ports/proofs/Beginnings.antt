-- Events begin with themselves.
use Rattle.ports.specs.declared.event.Event.{Event}
use Rattle.ports.specs.Events.{IsBeginning}
use Rattle.std.proofs.Common.{List, [], append-nil, sym}

pub begins_itself : (events : List Event) → IsBeginning events events
begins_itself events = ([], sym (append-nil events))
