-- What a memory has at the addresses of the segments of a placed module.
use Rattle.image_laws.proofs.Prelude.{◌≡◌, ℕ, suc, ◌+◌, ◌-◌, ◌<◌, ◌≤◌, inl, inr, cond, List, [], ◌∷◌, length, slice_get, Option, Some, None, unwrap_or, ap, subst, ◌∙◌, arith, option_flatten, option_or, lt-ltb, le-ltb, cases_lt, slice_get_past, byte_at, IsLoaded, Segment, Code, Data, Plan, gain_at, placed_bytes, at_address, image_at, ObjectModule, places_of, IsAllowed, SetBytesStand, BytesAreLoaded, RunsAreLoaded, or_none_same}
use Rattle.isa8080.specs.State.{wrap}
use Rattle.image_laws.proofs.Images.Pieces.{resolved_length}

-- bytes that are loaded where they are set, each by its place
from_each :
    (before after : List ℕ) (address : ℕ) (bytes : List (Option ℕ))
    → ((k : ℕ) → k < length bytes
    → byte_at after (address + k)
    ≡ unwrap_or (option_flatten (slice_get bytes k)) (byte_at before (address + k)))
    → BytesAreLoaded before after address bytes
from_each before after address [] each = tt
from_each before after address (byte ∷ others) each =
    let same : address + 0 ≡ address = omega arith in
    let P : ℕ → Type 0 = λ n. byte_at after n ≡ unwrap_or byte (byte_at before n) in (
      subst P same (each 0 (omega arith)),
      from_each before after (address + 1) others
          (λ k h.
          let next : address + suc k ≡ (address + 1) + k = omega arith in
          let Q : ℕ → Type 0 = λ n.
          byte_at after n ≡ unwrap_or (option_flatten (slice_get others k)) (byte_at before n) in
          subst Q next (each (suc k) (omega (arith, h)))),
    )

-- bytes that are loaded stand where they are set
pub loaded_stand :
    (before after : List ℕ) (address : ℕ) (bytes : List (Option ℕ)) → address + length bytes ≤ 65536
    → BytesAreLoaded before after address bytes → SetBytesStand after address bytes
loaded_stand before after address [] h loaded = tt
loaded_stand before after address (None ∷ others) h loaded =
    loaded_stand before after (address + 1) others (omega (arith, h)) loaded.1
loaded_stand before after address (Some byte ∷ others) h loaded =
    let same : wrap address ≡ address = omega (arith, h) in (
      ap (byte_at after) same ∙ loaded.0,
      loaded_stand before after (address + 1) others (omega (arith, h)) loaded.1,
    )

-- what bytes from a base on have within them, and elsewhere
at_within :
    (base k : ℕ) (bytes : List (Option ℕ))
    → at_address base bytes (base + k) ≡ option_flatten (slice_get bytes k)
at_within base k bytes =
    let past : base ≤ base + k = omega arith in
    let same : base + k - base ≡ k = omega arith in
    ap (λ b. cond b None (option_flatten (slice_get bytes (base + k - base)))) (le-ltb (base + k) base past)
    ∙ ap (λ n. option_flatten (slice_get bytes n)) same

pub at_below :
    (base address : ℕ) (bytes : List (Option ℕ)) → address < base → at_address base bytes address ≡ None
at_below base address bytes h =
    ap (λ b. cond b None (option_flatten (slice_get bytes (address - base)))) (lt-ltb address base h)

pub at_past :
    (base address : ℕ) (bytes : List (Option ℕ)) → base + length bytes ≤ address
    → at_address base bytes address ≡ None
at_past base address bytes h =
    let past : base ≤ address = omega (arith, h) in
    let few : length bytes ≤ address - base = omega (arith, h) in
    ap (λ b. cond b None (option_flatten (slice_get bytes (address - base)))) (le-ltb address base past)
    ∙ ap option_flatten (slice_get_past bytes (address - base) few)

pub at_elsewhere :
    (base address : ℕ) (bytes : List (Option ℕ))
    → ((base ≤ address) → (address < base + length bytes) → ⊥)
    → at_address base bytes address ≡ None
at_elsewhere base address bytes h =
    elim (cases_lt address base) [
      | inl under ↦ at_below base address bytes under
      | inr over ↦
          elim (cases_lt address (base + length bytes)) [
            | inl within ↦ absurd (h over within)
            | inr past ↦ at_past base address bytes past
          ]
    ]

-- the length of what is placed
pub placed_length :
    (plan : Plan) (object : ObjectModule) (segment : Segment)
    → length (placed_bytes plan object segment) ≡ length (places_of object segment)
placed_length plan object segment = resolved_length (gain_at plan) (places_of object segment)

-- no address is in both segments
both_segments :
    (plan : Plan) (object : ObjectModule) → IsAllowed plan object → (address : ℕ)
    → plan.code_base ≤ address → address < plan.code_base + length (placed_bytes plan object Code)
    → plan.data_base ≤ address → address < plan.data_base + length (placed_bytes plan object Data) → ⊥
both_segments plan object is address a b c d =
    let m = placed_length plan object Code in
    let n = placed_length plan object Data in
    let apart = is.apart in
    omega (arith, m, n, a, b, c, d, apart)

code_byte :
    (plan : Plan) (object : ObjectModule) (k : ℕ) → IsAllowed plan object
    → k < length (placed_bytes plan object Code)
    → image_at plan object (plan.code_base + k) ≡ option_flatten (slice_get (placed_bytes plan object Code) k)
unfolding image_at
code_byte plan object k is h =
    let address : ℕ = plan.code_base + k in
    let other : at_address plan.data_base (placed_bytes plan object Data) (plan.code_base + k) ≡ None =
    at_elsewhere plan.data_base (plan.code_base + k) (placed_bytes plan object Data)
    (λ a b. both_segments plan object is (plan.code_base + k) (omega arith) (omega (arith, h)) a b) in
    ap (option_or (at_address plan.code_base (placed_bytes plan object Code) (plan.code_base + k))) other
    ∙ or_none_same (at_address plan.code_base (placed_bytes plan object Code) (plan.code_base + k))
    ∙ at_within plan.code_base k (placed_bytes plan object Code)

data_byte :
    (plan : Plan) (object : ObjectModule) (k : ℕ) → IsAllowed plan object
    → k < length (placed_bytes plan object Data)
    → image_at plan object (plan.data_base + k) ≡ option_flatten (slice_get (placed_bytes plan object Data) k)
unfolding image_at
data_byte plan object k is h =
    let other : at_address plan.code_base (placed_bytes plan object Code) (plan.data_base + k) ≡ None =
    at_elsewhere plan.code_base (plan.data_base + k) (placed_bytes plan object Code)
    (λ a b. both_segments plan object is (plan.data_base + k) a b (omega arith) (omega (arith, h))) in
    ap (λ x. option_or x (at_address plan.data_base (placed_bytes plan object Data) (plan.data_base + k)))
    other
    ∙ at_within plan.data_base k (placed_bytes plan object Data)

module _
    (plan : Plan) (object : ObjectModule) (before after : List ℕ) (is : IsAllowed plan object)
    (loaded : IsLoaded (image_at plan object) before after) where
  -- so both segments are loaded
  pub code_loaded : BytesAreLoaded before after plan.code_base (placed_bytes plan object Code)
  code_loaded =
      from_each before after plan.code_base (placed_bytes plan object Code)
      (λ k h.
      let size = placed_length plan object Code in
      let room = is.code in
      loaded.bytes (plan.code_base + k) (omega (arith, size, room, h))
      ∙ ap (λ x. unwrap_or x (byte_at before (plan.code_base + k))) (code_byte plan object k is h))

  pub data_loaded : BytesAreLoaded before after plan.data_base (placed_bytes plan object Data)
  data_loaded =
      from_each before after plan.data_base (placed_bytes plan object Data)
      (λ k h.
      let size = placed_length plan object Data in
      let room = is.data_places in
      loaded.bytes (plan.data_base + k) (omega (arith, size, room, h))
      ∙ ap (λ x. unwrap_or x (byte_at before (plan.data_base + k))) (data_byte plan object k is h))

pub runs_are_loaded : RunsAreLoaded
runs_are_loaded pieces bytes_at before after runs loaded = record {
  size = loaded.size;
  bytes = λ address low.
      loaded.bytes address low ∙ ap (λ x. unwrap_or x (byte_at before address)) (runs.bytes address);
}
