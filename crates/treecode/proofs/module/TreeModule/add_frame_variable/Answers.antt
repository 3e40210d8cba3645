use Rattle.treecode.proofs.Prelude.{◌≡◌, min, length, sym, ◌∙◌, ltb-false, ltb-true, on_ok_weaker, heading_of, headings_of, variable_number, if_ok_then}
use Rattle.treecode.proofs.FrameVariables.{none_numbered, variable_numbered, variable_put}
use Rattle.treecode.proofs.module.TreeModule.add_frame_variable.Goals as goal

pub returns-in-Some-clause-headings : goal.returns-in-Some-clause-headings
returns-in-Some-clause-headings c =
    on_ok_weaker c.add_variable.result
    (variable_put c.args.self.now.procedures.items c.args.procedure c.in-Some.procedure.now
    c.add_variable.new.self
    c.args.variable (ltb-true _ _ (sym c.in-Some.ensures.item.0)) c.in-Some.ensures.value)
    c.add_variable.ensures.heading

pub returns-in-Some-clause-number : goal.returns-in-Some-clause-number
returns-in-Some-clause-number c =
    if_ok_then (λ number. number ≡ min (length (heading_of c.in-Some.procedure.now).frame) 65535)
    (λ number. number ≡ variable_number (headings_of c.args.self.now) c.args.procedure)
    c.add_variable.result
    (λ number is. is ∙ variable_numbered c.args.self.now.procedures.items c.args.procedure
    c.in-Some.procedure.now
    (ltb-true _ _ (sym c.in-Some.ensures.item.0)) c.in-Some.ensures.value)
    c.add_variable.ensures.number

pub returns-in-None-clause-number : goal.returns-in-None-clause-number
returns-in-None-clause-number c =
    none_numbered c.args.self.now.procedures.items c.args.procedure
    (ltb-false _ _ (sym c.in-None.ensures.item.0))
