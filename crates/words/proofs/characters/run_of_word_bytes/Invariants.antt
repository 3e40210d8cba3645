use Rattle.words.proofs.Prelude.{◌≡◌, ◌+◌, drop, prefix_len, is_word_byte}
use Rattle.words.proofs.characters.run_of_word_bytes.Given as goal

-- each byte so far is one of the word
abbrev pub invariant-loop-i : goal.invariant-loop-i
invariant-loop-i l = l.i + prefix_len is_word_byte (drop l.i l.text) ≡ prefix_len is_word_byte l.text
