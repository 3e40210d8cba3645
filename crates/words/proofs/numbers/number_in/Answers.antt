use Rattle.words.proofs.Prelude.{◌≡◌, ◌<◌, ◌+◌, ◌*◌, drop, fold, sym, arith, common_steps, GREATEST_NUMBER, name_of, digit_value, value_of}
use Rattle.words.proofs.NumbersLemmas.{value_grows, number_in_too_great}
use Rattle.words.proofs.numbers.number_in.Goals as goal

pub returns-then-value-gt-GREATEST_NUMBER : goal.returns-then-value-gt-GREATEST_NUMBER
returns-then-value-gt-GREATEST_NUMBER c =
    let base = c.args.base in
    let text = c.args.text.now in
    let i = c.loop-b.b-index in
    let value = c.loop-b.value * base + c.digit_value-digit.result in
    let whole : fold (λ value digit. value * base + digit_value digit) value (name_of (drop (i + 1) text))
    ≡ value_of base (name_of text) = grind (arith, common_steps) in
    let great : GREATEST_NUMBER < value_of base (name_of text) =
    omega (arith, value_grows base value (name_of (drop (i + 1) text)) c.requires.positive) in
    sym (number_in_too_great base (name_of text) great)
