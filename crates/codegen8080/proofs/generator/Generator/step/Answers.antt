use Rattle.codegen8080.proofs.Prelude.{ap, subst, ◌∙◌, EmitsSteps, Here, carried_steps, here_after, site_of, waiting_after}
use Rattle.codegen8080.proofs.Driving.{step_added}
use Rattle.codegen8080.proofs.generator.Generator.step.Goals as goal

pub returns : goal.returns
returns c =
    step_added c.args.body.now c.args.step c.args.waiting c.waiting_after.result
    c.args.self.now c.arrive.new.self
    c.carry.new.emission c.here_after.result
    (subst
    (λ (here : Here). EmitsSteps (site_of c.args.body.now)
    (carried_steps (site_of c.args.body.now)
    (record { facts = c.args.self.now.emission.facts; goes_on = here.goes_on }) c.args.step)
    c.args.self.now.emission c.carry.new.emission)
    c.here-here.ensures c.in_ok-carry.ensures)
    (c.here_after.ensures
    ∙ ap (λ (here : Here). here_after here c.args.waiting c.carry.new.emission.facts c.args.step)
    c.here-here.ensures)
    c.arrive.ensures
    (c.waiting_after.ensures
    ∙ ap (λ (here : Here). waiting_after here c.args.waiting c.args.step) c.here-here.ensures)
