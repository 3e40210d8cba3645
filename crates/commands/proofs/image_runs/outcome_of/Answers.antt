use Rattle.commands.proofs.Steps.{dry_counted, dry_does, dry_stands}
use Rattle.commands.proofs.image_runs.outcome_of.Goals as goal

pub returns : goal.returns
returns g c = record {
  end = c.dry_end.result;
  place = c.stand_of-address.result;
  does = rw c.requires.dry
      (dry_does g.P.RunPorts.until_dry c.args.values.now.limit c.args.machine.now c.run_watched-end.new.machine
      c.run_watched-end.result.0 c.run_watched-end.ensures.run c.run_watched-end.ensures.script c.dry_end.ensures.within
      c.dry_end.result c.dry_end.ensures.same c.dry_end.ensures.ending c.dry_end.ensures.dry c.dry_end.ensures.failed);
  counted = λ counts.
      dry_counted g.P.RunPorts.until_dry c.args.values.now.limit c.args.machine.now c.run_watched-end.new.machine
      c.run_watched-end.result.0 c.run_watched-end.ensures.run c.run_watched-end.ensures.script c.dry_end.ensures.within
      c.dry_end.result c.run_watched-end.result.1 c.dry_end.ensures.same c.dry_end.ensures.dry
      (c.run_watched-end.ensures.counted counts);
  stands =
      dry_stands g.P.RunPorts.until_dry c.args.values.now.limit c.args.machine.now c.run_watched-end.new.machine
      c.run_watched-end.result.0 c.run_watched-end.ensures.run c.run_watched-end.ensures.script c.dry_end.ensures.within
      c.dry_end.result c.stand_of-address.result c.dry_end.ensures.same c.dry_end.ensures.dry
      c.stand_of-address.ensures;
  named = c.in_ok-text.ensures;
  word = c.word_of-ending.ensures.word;
  status = c.word_of-ending.ensures.status;
  ended = c.word_of-ending.ensures.ended;
}
