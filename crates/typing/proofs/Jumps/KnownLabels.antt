-- Which labels are known at a place: those of the lists around it.
use Rattle.typing.proofs.Prelude.{◌≡◌, ℕ, ◌+◌, ◌<◌, ◌≤◌, List, [], ◌∷◌, length, Option, None, Some, Bool, true, false, cond, refl, arith, IfSome, Any, AllByRecursion, lookup, option_or, bytes_eq, Identifier, Entity, Object, Procedure, Label, Definition, Names, known_in, numbered_from, LabelsOf, IsAmongLabels, any_later}

-- what a name after GOTO may stand for: if it is a label, then one of a list around it
abbrev pub IsLabelAround : List LabelsOf → Entity → Type 0
IsLabelAround around (Label label) = Any (IsAmongLabels label) around
IsLabelAround around entity = Unit {0}

-- the labels of the lists around a place, and the tables that they are looked up in
pub record AreAround (around : List LabelsOf) (lists : List Names) : Type 0 where
  pub known : (name : List ℕ) → IfSome (known_in lists name) (IsLabelAround around)

-- what holds of all that a table has
abbrev pub EachIs : (Entity → Type 0) → Names → Type 0
EachIs P names = AllByRecursion (λ (entry : List ℕ × Entity). P entry.1) names

pub none_around : (around : List LabelsOf) → AreAround around []
none_around around = record { known = λ name. tt }

Any-first : {X : Type 0} (P : X → Type 0) (x : X) (xs : List X) → P x → Any P (x ∷ xs)
Any-first P x xs holds = (0, x, omega arith, refl, holds)

around_more : (labels : LabelsOf) (around : List LabelsOf) (entity : Entity)
    → IsLabelAround around entity → IsLabelAround (labels ∷ around) entity
around_more labels around (Label label) is = any_later labels around is
around_more labels around (Object number) is = tt
around_more labels around (Procedure number) is = tt
around_more labels around Definition is = tt

of_either : {A : Type 0} (P : A → Type 0) (test : Bool) (one other : A) → P one → P other
    → P (cond test one other)
of_either P true one other holds others = holds
of_either P false one other holds others = others

more_found : (labels : LabelsOf) (around : List LabelsOf) (found : Option Entity)
    → IfSome found (IsLabelAround around) → IfSome found (IsLabelAround (labels ∷ around))
more_found labels around None is = tt
more_found labels around (Some entity) is = around_more labels around entity is

-- of a look-up in a table, and of one in tables
looked_up : (P : Entity → Type 0) (test : List ℕ → Bool) (names : Names)
    → EachIs P names → IfSome (lookup test names) P
looked_up P test [] each = tt
looked_up P test (entry ∷ names) each =
    of_either (λ (found : Option Entity). IfSome found P) (test entry.0) (Some entry.1) (lookup test names)
    each.0 (looked_up P test names each.1)

-- a table of labels from one number on, made label by label
inserted : (P : Entity → Type 0) (number : ℕ) (label : Identifier) (names : Names)
    → P (Label number) → EachIs P names → EachIs P (numbered_from number (label ∷ []) names)
inserted P number label [] is each = (is, tt)
inserted P number label (entry ∷ names) is each =
    of_either (EachIs P) (bytes_eq label.name entry.0)
    ((entry.0, Label number) ∷ names) (entry ∷ numbered_from number (label ∷ []) names)
    (is, each.1) (each.0, inserted P number label names is each.1)

numbered : (P : Entity → Type 0) (number : ℕ) (labels : List Identifier) (names : Names)
    → ((label : ℕ) → number ≤ label → label < number + length labels → P (Label label))
    → EachIs P names → EachIs P (numbered_from number labels names)
numbered P number [] names is each = each
numbered P number (label ∷ labels) names is each =
    numbered P (number + 1) labels (numbered_from number (label ∷ []) names)
    (λ later from to. is later (omega arith) (omega arith))
    (inserted P number label names (is number (omega arith) (omega arith)) each)

either : (P : Entity → Type 0) (first second : Option Entity)
    → IfSome first P → IfSome second P → IfSome (option_or first second) P
either P None second in_first in_second = in_second
either P (Some entity) second in_first in_second = in_first

-- into a list with so many labels, which are numbered from one on
pub around_entered : (number count : ℕ) (labels : List Identifier) (around : List LabelsOf)
    (lists : List Names)
    → count ≡ length labels → AreAround around lists
    → AreAround (record { first = number; count = count } ∷ around) (numbered_from number labels [] ∷ lists)
around_entered number count labels around lists counted are =
    let own : LabelsOf = record { first = number; count = count } in
    let table : Names = numbered_from number labels [] in
    let each : EachIs (IsLabelAround (own ∷ around)) table =
    numbered (IsLabelAround (own ∷ around)) number labels []
    (λ label from to. Any-first (IsAmongLabels label) own around (from, omega arith)) tt in
    record {
      known = λ name.
          either (IsLabelAround (own ∷ around)) (lookup (bytes_eq name) table) (known_in lists name)
          (looked_up (IsLabelAround (own ∷ around)) (bytes_eq name) table each)
          (more_found own around (known_in lists name) (are.known name));
    }
