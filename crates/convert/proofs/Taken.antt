-- What is taken of a list that is short: all, and nothing after it.
use Rattle.std.proofs.Common.{◌≡◌, ◌≤◌, ℕ, List, [], length, take, drop, sym}
use Rattle.std.proofs.lemmas.List.{drop_all, take_all}
use Rattle.convert.specs.declared.class.Seen.{Seen}

pub all_taken : (count : ℕ) (line : List ℕ) → length line ≤ count → line ≡ take count line
all_taken count line short = sym (take_all count line short)

pub all_words : (count : ℕ) (words : List Seen) → length words ≤ count → words ≡ take count words
all_words count words short = sym (take_all count words short)

pub all_dropped : (count : ℕ) (line : List ℕ) → length line ≤ count → [] ≡ drop count line
all_dropped count line short = sym (drop_all count line short)
