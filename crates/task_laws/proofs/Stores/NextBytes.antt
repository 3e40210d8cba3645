-- The part of memory one byte further on, in tree code and in the typed tree.
use Rattle.task_laws.proofs.Prelude.{◌≡◌, ℕ, ◌+◌, ◌%◌, sym, subst, arith, PartOf, TypedReference, Storage, Reference, IsReference, IsPart, Nodes, reference_after}

-- a part of an object one byte further on
abbrev pub next_part : TypedReference → TypedReference
next_part (PartOf object subscript member offset member_subscript) =
    PartOf object subscript member (offset + 1) member_subscript

moved : (offset : ℕ) → (offset % 65536 + 1) % 65536 ≡ (offset + 1) % 65536
moved offset = omega arith

pub reference_next :
    (nodes : Nodes) (storage : Storage) (bound : ℕ) (reference : Reference) (tree : TypedReference)
    → IsReference nodes storage bound reference tree
    → IsReference nodes storage bound (reference_after reference 1) (next_part tree)
reference_next nodes storage bound reference tree
    (IsPart {object = object} {offset = offset} {member = member} {first = first} {second = second} one two) =
    subst (λ (n : ℕ). IsReference nodes storage bound
    (record { object = object; subscript = first; offset = n; member_subscript = second }) (next_part tree))
    (sym (moved offset)) (IsPart one two)
