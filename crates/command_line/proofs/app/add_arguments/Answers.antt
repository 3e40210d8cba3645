use Rattle.command_line.proofs.{Prelude.{◌∙◌, ap, app_of, refl, with_argument, with_rule}, Building.{fold_end, fold_step}}
use Rattle.command_line.proofs.app.add_arguments.Goals as goal

pub loop-rest-preserved : goal.loop-rest-preserved
loop-rest-preserved c =
    let adds = c.in_ok-built.ensures in
    let before = app_of c.loop-rest.built in
    record {
      app =
          fold_step with_argument before (app_of c.in_ok-built.built) _ c.loop-rest.rest.now
          c.in-len1-up.len_at_least
          (adds.shape c.arg_of.ensures.local ∙ ap (with_rule before) c.arg_of.ensures.rule)
          ∙ c.loop-rest.invariant.app;
      local = adds.globals ∙ rw (c.loop-rest.invariant.local, c.arg_of.ensures.local) refl;
    }

pub returns : goal.returns
returns c =
    (fold_end with_argument (app_of c.loop-rest.built) c.loop-rest.rest.now c.in_default.len_below ∙ c.loop-rest.invariant.app, c.loop-rest.invariant.local)
