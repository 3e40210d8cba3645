-- Inputs, and the scripts that give them.
use Rattle.commands.proofs.Prelude.{◌≡◌, ℕ, zero, suc, ◌==◌, ◌<◌, ◌≤◌, Bool, true, false, List, [], ◌∷◌, ◌++◌, length, get_or, drop, refl, sym, ap, ◌∙◌, append_assoc, append-nil, arith, AddsByte, queue_of, InputByte, GivesInput, bytes_to}

-- what the queues of a script give, and then what is left of the input, is the input
pub record PutSoFar (input left : List InputByte) (script : List (List ℕ)) : Type 0 where
  pub gives : (port : ℕ) → queue_of script port ++ bytes_to port left ≡ bytes_to port input

no_queue : (port : ℕ) → queue_of [] port ≡ []
no_queue zero = refl
no_queue (suc port) = refl

pub none_put : (input : List InputByte) (script : List (List ℕ)) → script ≡ [] → PutSoFar input input script
none_put input script none = record { gives = λ port. ap (λ (s : List (List ℕ)). queue_of s port ++ bytes_to port input) none ∙ ap (λ (q : List ℕ). q ++ bytes_to port input) (no_queue port) }

module _ (input more : List InputByte) (one : InputByte) (old new : List (List ℕ)) (so_far : PutSoFar input (one ∷ more) old) (adds : AddsByte old new one.port one.byte) (port : ℕ) where
  one_put : (here : Bool) → (port == one.port) ≡ here → queue_of new port ++ bytes_to port more ≡ bytes_to port input
  one_put true e =
      let added : queue_of new port ≡ queue_of old port ++ one.byte ∷ [] = adds port ∙ rw e refl in
      let first : bytes_to port (one ∷ more) ≡ one.byte ∷ bytes_to port more = rw e refl in
      ap (λ (q : List ℕ). q ++ bytes_to port more) added ∙ append_assoc (queue_of old port) (one.byte ∷ []) (bytes_to port more)
      ∙ ap (λ (l : List ℕ). queue_of old port ++ l) (sym first) ∙ so_far.gives port
  one_put false e =
      let added : queue_of new port ≡ queue_of old port = adds port ∙ rw e refl in
      let first : bytes_to port (one ∷ more) ≡ bytes_to port more = rw e refl in
      ap (λ (q : List ℕ). q ++ bytes_to port more) added ∙ ap (λ (l : List ℕ). queue_of old port ++ l) (sym first) ∙ so_far.gives port

-- one byte more
pub byte_put : (input left : List InputByte) (one : InputByte) (old new : List (List ℕ)) → 1 ≤ length left → one ≡ get_or left 0 one → PutSoFar input left old
    → AddsByte old new one.port one.byte → PutSoFar input (drop 1 left) new
byte_put input [] one old new some is so_far adds = absurd (omega arith)
byte_put input (first ∷ more) one old new some is so_far adds =
    record { gives = λ port. one_put input more first old new so_far (rw (sym is) adds) port (port == first.port) refl }

-- where nothing is left, the script gives the input
pub all_put : (input left : List InputByte) (script : List (List ℕ)) → length left < 1 → PutSoFar input left script → GivesInput input script
all_put input [] script none so_far = λ port. sym (append-nil (queue_of script port)) ∙ so_far.gives port
all_put input (one ∷ left) script none so_far = absurd (omega arith)
