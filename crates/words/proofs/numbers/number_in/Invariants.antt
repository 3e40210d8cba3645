use Rattle.words.proofs.Prelude.{◌≡◌, ◌≤◌, ◌+◌, ◌*◌, drop, fold, list_all, nat_lt, GREATEST_NUMBER, name_of, digit_value, value_of}
use Rattle.words.proofs.numbers.number_in.Given as goal

-- each character so far is a digit of the base, and what is left gives the value
abbrev pub invariant-loop-b : goal.invariant-loop-b
invariant-loop-b l = record {
  in_range : l.value ≤ GREATEST_NUMBER;
  digits : list_all (λ digit. nat_lt (digit_value digit) l.base) (name_of (drop l.b-index l.text))
      ≡ list_all (λ digit. nat_lt (digit_value digit) l.base) (name_of l.text);
  value : fold (λ value digit. value * l.base + digit_value digit) l.value (name_of (drop l.b-index l.text))
      ≡ value_of l.base (name_of l.text);
}
