-- Bodies of the code as those of the definitions.
use Rattle.call_graphs.specs.declared.body.Body.{Body as CodeBody}
use Rattle.call_graphs.specs.Chains.{Body}

-- a body of the code's graph
abbrev pub body_view : CodeBody → Body
body_view body = record { charge = body.charge; callees = body.callees.items }
