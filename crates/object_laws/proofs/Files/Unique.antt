-- A file spells one module at most, and only where it has no fault; and it has one first fault at most.
use Rattle.object_laws.proofs.Prelude.{◌≡◌, ℕ, List, Result, Ok, Err, refl, sym, ap, ◌∙◌, Fault, ObjectModule, Part, module_of, IsFileOf, Spells, HasFirstFault, parts_of, module_from, judgement_of, IsBytes, same_Err, same_Ok}
use Rattle.object_laws.proofs.Files.Judged.{JudgesFile, parts_law}
use Rattle.object_laws.proofs.Files.FilesAgain.{parts_are, fault_is}

pub same_parts : (bytes : List ℕ) (left right : List Part) → IsFileOf bytes left
    → IsFileOf bytes right → left ≡ right
same_parts bytes left right l r =
    same_Ok {E = Fault} left right (sym (parts_are bytes left l) ∙ parts_are bytes right r)

pub spells_one : (bytes : List ℕ) (left right : ObjectModule) → Spells bytes left
    → Spells bytes right → left ≡ right
spells_one bytes left right l r =
    l.said ∙ ap module_of (same_parts bytes l.parts r.parts l.file r.file) ∙ sym r.said

pub no_fault : (bytes : List ℕ) (object : ObjectModule) (fault : Fault) → Spells bytes object → HasFirstFault bytes fault → ⊥
no_fault bytes object fault s h =
    let bad : ◌≡◌ {A = Result (List Part) Fault} (Ok s.parts) (Err fault) =
    sym (parts_are bytes s.parts s.file) ∙ fault_is bytes fault h in
    cc

pub one_fault : (bytes : List ℕ) (left right : Fault) → HasFirstFault bytes left
    → HasFirstFault bytes right → left ≡ right
one_fault bytes left right l r =
    same_Err {A = List Part} left right (sym (fault_is bytes left l) ∙ fault_is bytes right r)

-- each file of bytes spells a module or has a fault, as it is judged
abbrev pub Judged : List ℕ → Result ObjectModule Fault → Type 0
Judged bytes (Ok object) = Spells bytes object
Judged bytes (Err fault) = HasFirstFault bytes fault

pub judged : (bytes : List ℕ) → IsBytes bytes → Judged bytes (judgement_of bytes)
judged bytes all = go (parts_of bytes) (parts_law bytes all)
  where
    go : (parts : Result (List Part) Fault) → JudgesFile bytes parts → Judged bytes (module_from parts)
    go (Ok parts) file = record { parts = parts; file = file; said = refl }
    go (Err fault) h = h
