use Rattle.words.proofs.Prelude.{◌≡◌, ◌≤◌, drop, length, bytes_eq, name_of}
use Rattle.words.proofs.names.has_characters.Given as goal

-- the characters so far agree, and what is left decides
abbrev pub invariant-loop-b : goal.invariant-loop-b
invariant-loop-b l = record {
  in_range : l.place ≤ length l.characters;
  agree : bytes_eq (drop l.place l.characters) (name_of (drop l.b-index l.text))
      ≡ bytes_eq l.characters (name_of l.text);
}
