use Rattle.words.proofs.Prelude.{◌≡◌, ◌<◌, ◌-◌, length, get_or, Some, None, arith, rules, to_ascii_uppercase, base_of}
use Rattle.words.proofs.NumbersLemmas.{number_of-based, number_of-decimal}
use Rattle.words.proofs.numbers.number_of.Goals as goal

pub returns-in-Some : goal.returns-in-Some
returns-in-Some c =
    let text = c.up_to_last_character-text.result.now in
    let some : 0 < length text = omega arith in
    let is : base_of (to_ascii_uppercase (get_or text (length text - 1) 0)) ≡ Some c.in-Some.base =
    search rules in
    let value = number_of-based text some (c.up_to_last_character-text.ensures.last some) c.in-Some.base is in
    search rules

pub returns-in-None : goal.returns-in-None
returns-in-None c =
    let text = c.up_to_last_character-text.result.now in
    let some : 0 < length text = omega arith in
    let is : base_of (to_ascii_uppercase (get_or text (length text - 1) 0)) ≡ None = search rules in
    let value = number_of-decimal text some (c.up_to_last_character-text.ensures.last some) is in
    search rules
