-- The loops over bytes and over values.
use Rattle.interpreter.proofs.Prelude.{◌≡◌, ℕ, ◌+◌, ◌<◌, ◌≤◌, List, [], ◌∷◌, ◌++◌, length, set, drop, get_or, refl, ap, sym, ◌∙◌, arith, flat_map, at_drop_more, InitialValue, written, bytes_of_value, at_drop_all, drop_item}
use Rattle.mem80.specs.{declared.memory.TheConstants.{MEMORY_SIZE}, Memory.{IsMemory}}
use Rattle.interpreter.proofs.WrittenContents.{written_past, written_after}

-- one part of what is written, and then the others
module _ (memory total first others new : List ℕ) (address : ℕ)
    (rest : written memory address (first ++ others) ≡ total)
    (given : new ≡ written memory address first) where
  goes_on : (next : ℕ) → next ≡ address + length first → written new next others ≡ total
  goes_on next is =
      ap (λ one. written one next others) given
      ∙ sym (written_after memory first others address next is)
      ∙ rest

  ends : IsMemory new → MEMORY_SIZE ≤ address + length first → new ≡ total
  ends memory past =
      sym (written_past new others (address + length first)
      (let e : length new ≤ address + length first = omega (arith, memory.size) in e))
      ∙ goes_on (address + length first) refl

module _ (memory total : List ℕ) (address : ℕ) (bytes : List ℕ) (i : ℕ)
    (rest : written memory address (drop i bytes) ≡ total) where
  left : (byte : ℕ) → i < length bytes → byte ≡ get_or bytes i byte
      → written memory address ((byte ∷ []) ++ drop (i + 1) bytes) ≡ total
  left byte within is =
      sym (drop_item (λ others. written memory address others) bytes i byte within is) ∙ rest

  pub byte_put :
      (byte next : ℕ) (new : List ℕ)
      → i < length bytes
      → byte ≡ get_or bytes i byte
      → new ≡ set memory address byte
      → next ≡ address + 1
      → written new next (drop (i + 1) bytes) ≡ total
  byte_put byte next new within is given after =
      goes_on memory total (byte ∷ []) (drop (i + 1) bytes) new address (left byte within is) given next after

  pub byte_put_last :
      (new : List ℕ)
      → i < length bytes
      → new ≡ set memory address (get_or bytes i 0)
      → IsMemory new
      → MEMORY_SIZE ≤ address + 1
      → new ≡ total
  byte_put_last new within given is_memory past =
      ends memory total (get_or bytes i 0 ∷ []) (drop (i + 1) bytes) new address
      (sym (at_drop_more (written memory address) bytes i 0 within) ∙ rest) given is_memory past

  pub bytes_put : length bytes ≤ i → memory ≡ total
  bytes_put past = sym (at_drop_all (λ others. written memory address others) bytes i past) ∙ rest

module _ (memory total : List ℕ) (address : ℕ) (address_of : ℕ → ℕ) (values : List InitialValue) (i : ℕ)
    (rest : written memory address (flat_map (bytes_of_value address_of) (drop i values)) ≡ total) where
  left_values : (value : InitialValue) → i < length values → value ≡ get_or values i value
      → written memory address
      (bytes_of_value address_of value ++ flat_map (bytes_of_value address_of) (drop (i + 1) values))
      ≡ total
  left_values value within is =
      sym (drop_item (λ others. written memory address (flat_map (bytes_of_value address_of) others))
      values i value within is)
      ∙ rest

  pub value_put :
      (value : InitialValue) (next : ℕ) (new : List ℕ)
      → i < length values
      → value ≡ get_or values i value
      → new ≡ written memory address (bytes_of_value address_of value)
      → next ≡ address + length (bytes_of_value address_of value)
      → written new next (flat_map (bytes_of_value address_of) (drop (i + 1) values)) ≡ total
  value_put value next new within is given after =
      goes_on memory total (bytes_of_value address_of value)
      (flat_map (bytes_of_value address_of) (drop (i + 1) values)) new address
      (left_values value within is) given next after

  pub value_put_last :
      (default : InitialValue) (new : List ℕ)
      → i < length values
      → new ≡ written memory address (bytes_of_value address_of (get_or values i default))
      → IsMemory new
      → MEMORY_SIZE ≤ address + length (bytes_of_value address_of (get_or values i default))
      → new ≡ total
  value_put_last default new within given is_memory past =
      ends memory total (bytes_of_value address_of (get_or values i default))
      (flat_map (bytes_of_value address_of) (drop (i + 1) values)) new address
      (sym (at_drop_more (λ others. written memory address (flat_map (bytes_of_value address_of) others))
      values i default within) ∙ rest)
      given is_memory past

  pub values_put : length values ≤ i → memory ≡ total
  values_put past =
      sym (at_drop_all (λ others. written memory address (flat_map (bytes_of_value address_of) others))
      values i past) ∙ rest
