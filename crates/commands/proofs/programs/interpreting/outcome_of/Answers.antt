use Rattle.commands.proofs.SourceRuns.{source_does, source_uses}
use Rattle.commands.proofs.programs.interpreting.outcome_of.Goals as goal

pub returns : goal.returns
returns g c = record {
  end = _;
  does = rw c.requires.dry
      (source_does g.P.RunPorts.until_dry _ _ _ _ _ _ _ c.in_ok-run.ensures.does _ c.dry_end.ensures.same
      (λ none. rw c.interpret_built.ensures.script at (c.dry_end.ensures.dry none))
      (rw c.interpret_built.ensures.script at c.dry_end.ensures.within) c.dry_end.ensures.ending
      (rw c.interpret_built.ensures.script at c.dry_end.ensures.more));
  counted =
      source_uses g.P.RunPorts.until_dry (g.P.Ports.script c.args.ports.now) _ _ _ _ _ _ c.in_ok-run.ensures.does _ c.dry_end.ensures.same
      (λ none. rw c.interpret_built.ensures.script at (c.dry_end.ensures.dry none));
  named = c.in_ok-text.ensures;
  word = c.word_of-ending.ensures.word;
  status = c.word_of-ending.ensures.status;
  ended = c.word_of-ending.ensures.ended;
}
