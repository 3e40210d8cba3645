use Rattle.literally.proofs.Prelude.{◌≡◌, ◌≤◌, drop, length, bytes_eq, name_of}
use Rattle.literally.proofs.names.have_equal_characters.Given as goal

-- the characters so far agree, and what is left decides
abbrev pub invariant-loop-b : goal.invariant-loop-b
invariant-loop-b l = record {
  in_range : l.place ≤ length l.other;
  agree : bytes_eq (name_of (drop l.b-index l.text)) (name_of (drop l.place l.other))
      ≡ bytes_eq (name_of l.text) (name_of l.other);
}
