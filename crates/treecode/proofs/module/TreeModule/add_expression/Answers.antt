use Rattle.std.proofs.Common.{is_ok}
use Rattle.treecode.proofs.Prelude.{rules, FormIsWord}
use Rattle.treecode.proofs.TableNumbers.{expression_pushed}
use Rattle.treecode.proofs.module.TreeModule.add_expression.Goals as goal

pub invariant_of-self-clause-numbers_are_words : goal.invariant_of-self-clause-numbers_are_words
invariant_of-self-clause-numbers_are_words c =
    let word : FormIsWord c.args.form = search rules in
    expression_pushed c.args.self.now.expressions.items c.push.new.self.items c.of.result c.args.form
    c.traits_of-traits.result (is_ok c.push.result) c.push.ensures.items c.of.ensures word
    c.args.self.now.numbers_are_words
