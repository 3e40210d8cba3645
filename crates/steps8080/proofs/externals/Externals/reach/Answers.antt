use Rattle.steps8080.proofs.Prelude.{◌+◌, ◌≤◌, length, arith}
use Rattle.steps8080.proofs.Reached.{numbering_longer}
use Rattle.steps8080.proofs.externals.Externals.reach.Goals as goal

pub invariant_of-self-2 : goal.invariant_of-self-2
invariant_of-self-2 c =
    let least : length c.self.inside.numbers.items ≤ c.args.name + 1 =
    omega (arith, c.if-index-len.false, c.len.ensures, c.self.inside.numbers.ok.0) in
    numbering_longer c.self.inside.numbers.items c.resize.new.self.items c.self.inside.used (c.args.name + 1) _
    c.self.invariant least c.in_ok-resize.ensures.items
