use Rattle.words.proofs.Prelude.{◌≡◌, drop, map, name_of, word_in}
use Rattle.words.proofs.names.find_word.Given as goal

-- no entry so far has the characters, and what is left decides
abbrev pub invariant-loop-characters : goal.invariant-loop-characters
invariant-loop-characters l =
    word_in (map (λ entry. (entry.0.now, entry.1)) (drop l.characters-index l.table)) (name_of l.text)
    ≡ word_in (map (λ entry. (entry.0.now, entry.1)) l.table) (name_of l.text)
