use Rattle.names.proofs.Prelude.{◌∙◌, arith, declares_object, nothing}
use Rattle.names.proofs.BindingWalks.{gives_then, gives_nothing, fails_then}
use Rattle.names.proofs.binder.Binder.subject.Goals as goal

pub returns-in_ok-object-in-Single : goal.returns-in_ok-object-in-Single
returns-in_ok-object-in-Single c =
    rw c.in-Single.is
    (gives_then (declares_object c.in-Single.name) nothing c.args.self.now c.object.new.self
    c.in_ok-object-in-Single.ensures ∙ gives_nothing c.object.new.self)

pub returns-in_err-object-in-Single : goal.returns-in_err-object-in-Single
returns-in_err-object-in-Single c = grind (arith, fails_then)
