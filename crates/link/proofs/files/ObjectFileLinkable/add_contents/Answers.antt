use Rattle.link.proofs.Prelude.{ap, sym, subst, ◌∙◌, ◌+◌, ◌≤◌, Code, Data, length_of, start_of, module_by, AllFitAt, grown_from, grown_in, code_fits, data_fits, code_grown, data_grown}
use Rattle.link.proofs.files.ObjectFileLinkable.add_contents.Goals as goal

pub add_contents-requires-clause-code : goal.add_contents-requires-clause-code
add_contents-requires-clause-code c =
    subst (λ w. AllFitAt c.args.resolved.now Code w.contents) (sym c.again-walk.ensures)
    (code_fits c.args.resolved.now c.self.inside.walk c.self.invariant.fits
    (subst (λ w. start_of c.args.resolved.now.start Code + length_of (module_by w) Code ≤ 65535)
    (sym c.self.view_is)
    c.requires.code))

pub add_contents-requires-clause-data_bytes : goal.add_contents-requires-clause-data_bytes
add_contents-requires-clause-data_bytes c =
    subst (λ w. AllFitAt c.args.resolved.now Data w.contents) (sym c.again-walk.ensures)
    (data_fits c.args.resolved.now c.self.inside.walk c.self.invariant.fits
    (subst (λ w. start_of c.args.resolved.now.start Data + length_of (module_by w) Data ≤ 65535)
    (sym c.self.view_is)
    c.requires.data_bytes))

pub returns-clause-code : goal.returns-clause-code
returns-clause-code c =
    c.in_ok-add_contents.ensures.code
    ∙ ap (λ w. grown_in c.args.resolved.now Code c.args.code.now w.contents) c.again-walk.ensures
    ∙ code_grown c.args.resolved.now c.self.inside.walk c.self.invariant.fits c.args.code.now
    ∙ ap (λ w. grown_from c.args.resolved.now Code c.args.code.now (module_by w)) c.self.view_is

pub returns-clause-data_bytes : goal.returns-clause-data_bytes
returns-clause-data_bytes c =
    c.in_ok-add_contents.ensures.data_bytes
    ∙ ap (λ w. grown_in c.args.resolved.now Data c.args.data_bytes.now w.contents) c.again-walk.ensures
    ∙ data_grown c.args.resolved.now c.self.inside.walk c.self.invariant.fits c.args.data_bytes.now
    ∙ ap (λ w. grown_from c.args.resolved.now Data c.args.data_bytes.now (module_by w)) c.self.view_is
