use Rattle.std.proofs.Common.{◌≡◌, length, map}
use Rattle.convert.specs.Switches.{no_words, switch_view, with_words}
use Rattle.convert.proofs.switches.with_words.Given as goal

abbrev pub invariant-loop-rest : goal.invariant-loop-rest
invariant-loop-rest l =
    with_words (map switch_view l.switches) (map (λ word. word.now) l.rest) l.condition
    ≡ with_words (map switch_view l.switches) (map (λ word. word.now) l.words) no_words

abbrev pub decreases-loop-rest : goal.decreases-loop-rest
decreases-loop-rest l = length l.rest
