-- The runs of places as pieces: what they have at an address, where they begin and end.
use Rattle.locate.proofs.Prelude.{◌≡◌, ℕ, suc, ◌+◌, ◌-◌, ◌≤◌, ◌==◌, inl, inr, Bool, true, false, cond, nat_lt, List, [], ◌∷◌, length, map, slice_get, slice_index, Option, Some, None, refl, ap, sym, ◌∙◌, arith, option_or, option_flatten, eqb-true, eqb-false, eq-eqb, ne_eqb, lt-ltb, le-ltb, cases_order, Piece, byte_in, are_runs, at_address, Run, before_runs, runs_from, piece_at, none_either_way, or_none_same}
use Rattle.locate.proofs.Pieces.{byte_of_piece, piece_end, one_more, byte_in_one_piece, or_assoc, within, no_byte_below, no_byte_above, touching, Begins, Begins-less, Ends, Ends-more, runs_cons, runs_parts}

abbrev pub pieces_at : (base : ℕ) → List (Run ℕ) → List Piece
pieces_at base runs = map (piece_at base) runs

-- one byte at an address
abbrev one : (start value : ℕ) → Piece
one start value = record { start = start; bytes = value ∷ [] }

one_byte : (start value address : ℕ)
    → byte_of_piece (one start value) address ≡ cond (address == start) (Some value) None
one_byte start value address = elim (cases_order address start) [
  | inl same ↦
      let zero_in : address - start ≡ 0 = omega arith in
      within (one start value) address (omega arith) (omega arith)
      ∙ ap (λ i. Some (slice_index (value ∷ []) i)) zero_in
      ∙ sym (ap (λ b. cond b (Some value) None) (eq-eqb address start same))
  | inr other ↦ elim other [
    | inl under ↦
        let differ : (address ≡ start → ⊥) = λ (e : address ≡ start). omega (arith, e) in
        no_byte_below (one start value) address under
        ∙ sym (ap (λ b. cond b (Some value) None) (ne_eqb address start differ))
    | inr over ↦
        let differ : (address ≡ start → ⊥) = λ (e : address ≡ start). omega (arith, e) in
        no_byte_above (one start value) address (omega arith)
        ∙ sym (ap (λ b. cond b (Some value) None) (ne_eqb address start differ))
  ]
]

-- an item before runs gives one byte more
before_is :
    (base n value : ℕ) (runs : List (Run ℕ)) (address : ℕ)
    → byte_in (pieces_at base (before_runs n value runs)) address
    ≡ option_or (byte_of_piece (one (base + n) value) address) (byte_in (pieces_at base runs) address)
before_is base n value [] address =
    byte_in_one_piece (one (base + n) value) address
    ∙ sym (or_none_same (byte_of_piece (one (base + n) value) address))
before_is base n value (next ∷ others) address = go (next.offset == n + 1) refl
  where
    go : (b : Bool) → (next.offset == n + 1) ≡ b
        → byte_in (pieces_at base
        (cond b (record { offset = n; items = value ∷ next.items } ∷ others)
        (record { offset = n; items = value ∷ [] } ∷ next ∷ others))) address
        ≡ option_or (byte_of_piece (one (base + n) value) address)
        (byte_in (pieces_at base (next ∷ others)) address)
    go true e =
        let same : next.offset ≡ n + 1 = eqb-true next.offset (n + 1) e in
        let first : Piece = one (base + n) value in
        let second : Piece = piece_at base next in
        let whole : Piece = record { start = base + n; bytes = value ∷ next.items } in
        one_more whole (pieces_at base others) address
        ∙ ap (λ x. option_or x (byte_in (pieces_at base others) address))
        (touching first second address (omega arith))
        ∙ or_assoc (byte_of_piece first address) (byte_of_piece second address)
        (byte_in (pieces_at base others) address)
        ∙ ap (option_or (byte_of_piece first address)) (sym (one_more second (pieces_at base others) address))
    go false e = one_more (one (base + n) value) (pieces_at base (next ∷ others)) address

-- bytes at addresses, from the first on
at_front :
    (start : ℕ) (first : Option ℕ) (others : List (Option ℕ)) (address : ℕ)
    → at_address start (first ∷ others) address
    ≡ cond (address == start) first (at_address (start + 1) others address)
at_front start first others address = elim (cases_order address start) [
  | inl same ↦
      let zero_in : address - start ≡ 0 = omega arith in
      ap (λ b. cond b None (option_flatten (slice_get (first ∷ others) (address - start))))
      (le-ltb address start (omega arith))
      ∙ ap (λ i. option_flatten (slice_get (first ∷ others) i)) zero_in
      ∙ sym (ap (λ b. cond b first (at_address (start + 1) others address)) (eq-eqb address start same))
  | inr other ↦ elim other [
    | inl under ↦
        let differ : (address ≡ start → ⊥) = λ (e : address ≡ start). omega (arith, e) in
        ap (λ b. cond b None (option_flatten (slice_get (first ∷ others) (address - start))))
        (lt-ltb address start under)
        ∙ sym (ap (λ b. cond b None (option_flatten (slice_get others (address - (start + 1)))))
        (lt-ltb address (start + 1) (omega arith)))
        ∙ sym (ap (λ b. cond b first (at_address (start + 1) others address)) (ne_eqb address start differ))
    | inr over ↦
        let differ : (address ≡ start → ⊥) = λ (e : address ≡ start). omega (arith, e) in
        let next : address - start ≡ suc (address - (start + 1)) = omega arith in
        ap (λ b. cond b None (option_flatten (slice_get (first ∷ others) (address - start))))
        (le-ltb address start (omega arith))
        ∙ ap (λ i. option_flatten (slice_get (first ∷ others) i)) next
        ∙ sym (ap (λ b. cond b None (option_flatten (slice_get others (address - (start + 1)))))
        (le-ltb address (start + 1) (omega arith)))
        ∙ sym (ap (λ b. cond b first (at_address (start + 1) others address)) (ne_eqb address start differ))
  ]
]

at_nothing : (start address : ℕ) → at_address start [] address ≡ None
at_nothing start address = none_either_way (nat_lt address start)

skipped :
    (start : ℕ) (others : List (Option ℕ)) (address : ℕ)
    → at_address (start + 1) others address
    ≡ cond (address == start) None (at_address (start + 1) others address)
skipped start others address = go (address == start) refl
  where
    go : (b : Bool) → (address == start) ≡ b
        → at_address (start + 1) others address ≡ cond b None (at_address (start + 1) others address)
    go true e =
        let same : address ≡ start = eqb-true address start e in
        ap (λ b. cond b None (option_flatten (slice_get others (address - (start + 1)))))
        (lt-ltb address (start + 1) (omega arith))
    go false e = refl

chosen : (b : Bool) (value : ℕ) (rest : Option ℕ)
    → option_or (cond b (Some value) None) rest ≡ cond b (Some value) rest
chosen true value rest = refl
chosen false value rest = refl

-- the runs of places have the bytes of the places
pub bytes_are :
    (base n : ℕ) (places : List (Option ℕ)) (address : ℕ)
    → byte_in (pieces_at base (runs_from n places)) address ≡ at_address (base + n) places address
bytes_are base n [] address = sym (at_nothing (base + n) address)
bytes_are base n (None ∷ others) address =
    let same : base + (n + 1) ≡ base + n + 1 = omega arith in
    bytes_are base (n + 1) others address
    ∙ ap (λ start. at_address start others address) same
    ∙ skipped (base + n) others address
    ∙ sym (at_front (base + n) None others address)
bytes_are base n (Some value ∷ others) address =
    let same : base + (n + 1) ≡ base + n + 1 = omega arith in
    before_is base n value (runs_from (n + 1) others) address
    ∙ ap (λ x. option_or x (byte_in (pieces_at base (runs_from (n + 1) others)) address))
    (one_byte (base + n) value address)
    ∙ chosen (address == base + n) value (byte_in (pieces_at base (runs_from (n + 1) others)) address)
    ∙ ap (cond (address == base + n) (Some value))
    (bytes_are base (n + 1) others address ∙ ap (λ start. at_address start others address) same)
    ∙ sym (at_front (base + n) (Some value) others address)

before_begins :
    (base n value : ℕ) (runs : List (Run ℕ)) → Begins (base + n) (pieces_at base (before_runs n value runs))
before_begins base n value [] = omega arith
before_begins base n value (next ∷ others) = go (next.offset == n + 1)
  where
    go : (b : Bool)
        → Begins (base + n) (pieces_at base
        (cond b (record { offset = n; items = value ∷ next.items } ∷ others)
        (record { offset = n; items = value ∷ [] } ∷ next ∷ others)))
    go true = omega arith
    go false = omega arith

-- they begin at their base
pub begins_at : (base n : ℕ) (places : List (Option ℕ))
    → Begins (base + n) (pieces_at base (runs_from n places))
begins_at base n [] = tt
begins_at base n (None ∷ others) =
    Begins-less (base + n) (base + (n + 1)) (pieces_at base (runs_from (n + 1) others)) (omega arith)
    (begins_at base (n + 1) others)
begins_at base n (Some value ∷ others) = before_begins base n value (runs_from (n + 1) others)

before_ends :
    (base n value end : ℕ) (runs : List (Run ℕ)) → base + n + 1 ≤ end → Ends end (pieces_at base runs)
    → Ends end (pieces_at base (before_runs n value runs))
before_ends base n value end [] h ends = (omega arith, tt)
before_ends base n value end (next ∷ others) h ends = go (next.offset == n + 1) refl
  where
    go : (b : Bool) → (next.offset == n + 1) ≡ b
        → Ends end (pieces_at base
        (cond b (record { offset = n; items = value ∷ next.items } ∷ others)
        (record { offset = n; items = value ∷ [] } ∷ next ∷ others)))
    go true e =
        let same : next.offset ≡ n + 1 = eqb-true next.offset (n + 1) e in
        let k : base + next.offset + length next.items ≤ end = ends.0 in
        (omega arith, ends.1)
    go false e = (omega arith, ends)

-- and end where the places end, or before
pub ends_at :
    (base n : ℕ) (places : List (Option ℕ))
    → Ends (base + n + length places) (pieces_at base (runs_from n places))
ends_at base n [] = tt
ends_at base n (None ∷ others) =
    Ends-more (base + (n + 1) + length others) (base + n + suc (length others))
    (pieces_at base (runs_from (n + 1) others)) (omega arith) (ends_at base (n + 1) others)
ends_at base n (Some value ∷ others) =
    before_ends base n value (base + n + length (Some value ∷ others))
    (runs_from (n + 1) others) (omega arith)
    (Ends-more (base + (n + 1) + length others) (base + n + length (Some value ∷ others))
    (pieces_at base (runs_from (n + 1) others)) (omega arith) (ends_at base (n + 1) others))

before_are_runs :
    (base n value : ℕ) (runs : List (Run ℕ)) → are_runs (pieces_at base runs) ≡ true
    → Begins (base + (n + 1)) (pieces_at base runs)
    → are_runs (pieces_at base (before_runs n value runs)) ≡ true
before_are_runs base n value [] runs begins = lt-ltb 0 (length (value ∷ [])) (omega arith)
before_are_runs base n value (next ∷ others) runs begins = go (next.offset == n + 1) refl
  where
    go : (b : Bool) → (next.offset == n + 1) ≡ b
        → are_runs (pieces_at base
        (cond b (record { offset = n; items = value ∷ next.items } ∷ others)
        (record { offset = n; items = value ∷ [] } ∷ next ∷ others))) ≡ true
    go true e =
        let same : next.offset ≡ n + 1 = eqb-true next.offset (n + 1) e in
        let p = runs_parts (piece_at base next) (pieces_at base others) runs in
        runs_cons (record { start = base + n; bytes = value ∷ next.items }) (pieces_at base others)
        (lt-ltb 0 (length (value ∷ next.items)) (omega arith))
        (Begins-less (base + n + length (value ∷ next.items) + 1) (piece_end (piece_at base next) + 1)
        (pieces_at base others) (omega arith) p.1)
        p.2
    go false e =
        let apart : (next.offset ≡ n + 1 → ⊥) = eqb-false next.offset (n + 1) e in
        let k : base + (n + 1) ≤ base + next.offset = begins in
        runs_cons (one (base + n) value) (pieces_at base (next ∷ others))
        (lt-ltb 0 (length (value ∷ [])) (omega arith))
        (omega arith) runs

-- and are runs
pub are_runs_at : (base n : ℕ) (places : List (Option ℕ))
    → are_runs (pieces_at base (runs_from n places)) ≡ true
are_runs_at base n [] = refl
are_runs_at base n (None ∷ others) = are_runs_at base (n + 1) others
are_runs_at base n (Some value ∷ others) =
    before_are_runs base n value (runs_from (n + 1) others) (are_runs_at base (n + 1) others) (begins_at base (n + 1) others)
