-- The bytes that an activation may change, and those that stay.
use Rattle.code_meaning.proofs.Prelude.{◌≡◌, ◌≢◌, ℕ, ◌+◌, ◌-◌, ◌<◌, ◌≤◌, ◌⊎◌, inl, inr, Bool, true, false, List, length, refl, sym, ◌∙◌, arith, MEMORY_SIZE, byte_at, is_declared, is_constant, Keeps, Activation, IsMine, IsVariable, LiesWell, Owns}

-- nothing has changed
pub keeps_all : (Own : ℕ → Type 0) (memory : List ℕ) → Keeps Own memory memory
keeps_all Own memory = record { size = refl; bytes = λ address outside. refl }

-- one change after another
pub keeps_both :
    (Own : ℕ → Type 0) (one other last : List ℕ) → Keeps Own one other → Keeps Own other last
    → Keeps Own one last
keeps_both Own one other last first second = record {
  size = second.size ∙ first.size;
  bytes = λ address outside. second.bytes address outside ∙ first.bytes address outside;
}

-- a wider set of bytes that may change
pub keeps_wider :
    (Less More : ℕ → Type 0) (one other : List ℕ)
    → ((address : ℕ) → Less address → More address)
    → Keeps Less one other
    → Keeps More one other
keeps_wider Less More one other wider kept = record {
  size = kept.size;
  bytes = λ address outside. kept.bytes address (λ mine. outside (wider address mine));
}

-- with fewer bytes pushed an activation may change more
pub owns_more :
    (activation : Activation) (low high : ℕ) → low ≤ high → (address : ℕ)
    → Owns activation low address
    → Owns activation high address
owns_more activation low high less address (inl variable) = inl variable
owns_more activation low high less address (inr (inl mine)) =
    let above = mine.0 in
    let below : address < low = mine.1 in
    inr (inl (above, omega (arith, below, less)))
owns_more activation low high less address (inr (inr mine)) = inr (inr mine)

-- bytes that are pushed may not be changed
pub pushed_is_not_owned :
    (activation : Activation) (top address : ℕ)
    → LiesWell activation
    → activation.floor ≤ top
    → top ≤ address
    → address < activation.level
    → Owns activation top address
    → ⊥
pushed_is_not_owned activation top address lies low above below (inl variable) =
    let whole = lies.above in
    let bottom = lies.bottom in
    lies.placed.stack_free address variable.0 (omega (arith, low, above, bottom))
    (omega (arith, below, whole))
pushed_is_not_owned activation top address lies low above below (inr (inl mine)) =
    let less : address < top = mine.1 in omega (arith, less, above)
pushed_is_not_owned activation top address lies low above below (inr (inr mine)) =
    let past : activation.level ≤ address = mine.0 in omega (arith, past, below)
