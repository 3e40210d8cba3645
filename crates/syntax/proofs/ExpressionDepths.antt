-- When a tree is too deep for the room, and what goes on after it.
use Rattle.syntax.proofs.Prelude.{◌≡◌, ◌⊎◌, inl, inr, ⊎_elim, ℕ, suc, ◌≤◌, ◌<◌, max, nat_le, List, Option, Some, None, Result, Err, if◌then◌else◌, refl, sym, ◌∙◌, ap, arith, le-leb, cases_lt, lt-leb, Symbol, Reading, Cause, TooDeep, ◌>>=◌}
use Rattle.syntax.proofs.ListLaws.{gave, earlier}
use Rattle.syntax.proofs.ReaderLemmas.{if_true, if_false, read}

-- the fault of so many levels in a room
abbrev pub depth_fault : ℕ → ℕ → Option Cause
depth_fault height room = if nat_le height room then None else Some TooDeep

pub depth_fault-within : (height room : ℕ) → height ≤ room → depth_fault height room ≡ None
depth_fault-within height room h = if_true (nat_le height room) None (Some TooDeep) (le-leb height room h)

pub depth_fault-over : (height room : ℕ) → room < height → depth_fault height room ≡ Some TooDeep
depth_fault-over height room h = if_false (nat_le height room) None (Some TooDeep) (lt-leb height room h)

pub depth_fault-cases : (height room : ℕ)
    → ((height ≤ room) × (depth_fault height room ≡ None))
    ⊎ ((room < height) × (depth_fault height room ≡ Some TooDeep))
depth_fault-cases height room =
    ⊎_elim
    (λ (h : room < height). inr (h, depth_fault-over height room h))
    (λ (h : height ≤ room). inl (h, depth_fault-within height room h))
    (cases_lt room height)

-- the fault is that of any other height that is over its room at the same time
pub depth_fault-same : (height room other space : ℕ)
    → (height ≤ room → other ≤ space)
    → (room < height → space < other)
    → depth_fault height room ≡ depth_fault other space
depth_fault-same height room other space within over =
    ⊎_elim
    (λ h. h.1 ∙ sym (depth_fault-within other space (within h.0)))
    (λ h. h.1 ∙ sym (depth_fault-over other space (over h.0)))
    (depth_fault-cases height room)

-- one level more in a room for one level more
pub depth_fault-suc : (height room : ℕ) → depth_fault (suc height) (suc room) ≡ depth_fault height room
depth_fault-suc height room =
    depth_fault-same (suc height) (suc room) height room (λ h. omega arith) (λ h. omega arith)

-- the first of two faults is that of the higher
pub depth_fault-max : (height other room : ℕ)
    → earlier (depth_fault height room) (depth_fault other room) ≡ depth_fault (max height other) room
depth_fault-max height other room =
    ⊎_elim
    (λ h. ap (λ f. earlier f (depth_fault other room)) h.1
    ∙ (let small : height ≤ room = h.0 in
    depth_fault-same other room (max height other) room (λ k. omega arith) (λ k. omega arith)))
    (λ h. ap (λ f. earlier f (depth_fault other room)) h.1
    ∙ (let large : room < height = h.0 in sym (depth_fault-over (max height other) room (omega arith))))
    (depth_fault-cases height room)

-- what comes unless there was a fault
abbrev pub after : {A : Type 0} → Option Cause → Result A Cause → Result A Cause
after None next = next
after (Some cause) next = Err cause

-- what goes on after what is read or not
pub bind_gave : {A B : Type 0} (r : Reading A) (next : A × List Symbol → Result B Cause)
    (fault : Option Cause) (a : A) (rest : List Symbol)
    → r ≡ gave fault a rest → (r >>= next) ≡ after fault (next (a, rest))
bind_gave r next None a rest e = ap (λ t. t >>= next) e
bind_gave r next (Some cause) a rest e = ap (λ t. t >>= next) e

pub after-gave : {A : Type 0} (fault other : Option Cause) (a : A) (rest : List Symbol)
    → after fault (gave other a rest) ≡ gave (earlier fault other) a rest
after-gave None other a rest = refl
after-gave (Some cause) other a rest = refl

pub after-read : {A : Type 0} (fault : Option Cause) (a : A) (rest : List Symbol)
    → after fault (read a rest) ≡ gave fault a rest
after-read None a rest = refl
after-read (Some cause) a rest = refl

pub after-after : {A : Type 0} (fault other : Option Cause) (next : Result A Cause)
    → after fault (after other next) ≡ after (earlier fault other) next
after-after None other next = refl
after-after (Some cause) other next = refl

-- what is too deep anyway
pub after-deep : {A : Type 0} (height room : ℕ) (next : Result A Cause)
    → next ≡ Err TooDeep
    → after (depth_fault height room) next ≡ Err TooDeep
after-deep height room next e =
    ⊎_elim
    (λ h. ap (λ f. after f next) h.1 ∙ e)
    (λ h. ap (λ f. after f next) h.1)
    (depth_fault-cases height room)
