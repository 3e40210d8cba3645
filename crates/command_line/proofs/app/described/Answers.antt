use Rattle.command_line.proofs.{Prelude.{◌∙◌, App, ap, app_of, with_arguments, with_groups}, Building.{fold_end, fold_step}}
use Rattle.clap.specs.Words.{new_app}
use Rattle.command_line.proofs.app.described.Goals as goal

pub loop-rest-preserved : goal.loop-rest-preserved
loop-rest-preserved c = record {
  app =
      fold_step (λ before group. with_arguments before group.now) (app_of c.loop-rest.built)
      (app_of c.in_ok-built.built) _ c.loop-rest.rest.now
      c.in-len1-up.len_at_least c.in_ok-built.ensures.0 ∙ c.loop-rest.invariant.app;
  local = c.in_ok-built.ensures.1;
}

pub returns : goal.returns
returns c = (
  fold_end (λ before group. with_arguments before group.now) (app_of c.loop-rest.built) c.loop-rest.rest.now
      c.in_default.len_below ∙ c.loop-rest.invariant.app
      ∙ ap (λ (bare : App). with_groups bare c.args.command.now.groups.now)
      (c.named-built.ensures.0 ∙ ap new_app c.word.ensures),
  c.loop-rest.invariant.local,
)
