-- Items one after another.
use Rattle.code_meaning.proofs.Prelude.{◌≡◌, ℕ, ◌+◌, ◌<◌, ◌≤◌, List, [], ◌∷◌, ◌++◌, refl, sym, ap, ◌∙◌, arith, Item, Plain, WithWord, Byte, Address, Gap, Mark, Layout, Stands, size_of, size_of_items, stands_size, Activation, IsThere}

-- the end of the first items
pub record Parted (layout : Layout) (memory : List ℕ) (one other : List Item) (from to : ℕ) : Type 0 where
  pub middle : ℕ
  pub first : Stands layout memory one from middle
  pub second : Stands layout memory other middle to

pub parted :
    (layout : Layout) (memory : List ℕ) (one other : List Item) (from to : ℕ)
    → Stands layout memory (one ++ other) from to
    → Parted layout memory one other from to
parted layout memory [] other from to stands = record { middle = from; first = refl; second = stands }
parted layout memory (Mark label ∷ one) other from to stands =
    let rest = parted layout memory one other from to stands.1 in
    record { middle = rest.middle; first = (stands.0, rest.first); second = rest.second }
parted layout memory (Gap count ∷ one) other from to stands =
    let rest = parted layout memory one other (from + count) to stands in
    record { middle = rest.middle; first = rest.first; second = rest.second }
parted layout memory (Plain i ∷ one) other from to stands =
    let rest = parted layout memory one other (from + size_of (Plain i)) to stands.1 in
    record { middle = rest.middle; first = (stands.0, rest.first); second = rest.second }
parted layout memory (WithWord form reference ∷ one) other from to stands =
    let rest = parted layout memory one other (from + 3) to stands.1 in
    record { middle = rest.middle; first = (stands.0, rest.first); second = rest.second }
parted layout memory (Byte value ∷ one) other from to stands =
    let rest = parted layout memory one other (from + 1) to stands.1 in
    record { middle = rest.middle; first = (stands.0, rest.first); second = rest.second }
parted layout memory (Address reference ∷ one) other from to stands =
    let rest = parted layout memory one other (from + 2) to stands.1 in
    record { middle = rest.middle; first = (stands.0, rest.first); second = rest.second }

-- items of the code in two parts
pub record AreThere (activation : Activation) (one other : List Item) (from to : ℕ) : Type 0 where
  pub middle : ℕ
  pub first : IsThere activation one from middle
  pub second : IsThere activation other middle to

pub both_there :
    {activation : Activation} {from to : ℕ} (one other : List Item)
    → IsThere activation (one ++ other) from to
    → AreThere activation one other from to
both_there {activation = activation} {from = from} {to = to} one other there =
    let parts = parted activation.layout activation.image one other from to there.stands in
    let low = there.low in
    let high = there.high in
    let first = stands_size activation.layout activation.image one from parts.middle parts.first in
    let second = stands_size activation.layout activation.image other parts.middle to parts.second in
    record {
      middle = parts.middle;
      first = record { stands = parts.first; low = low; high = omega (arith, high, second) };
      second = record { stands = parts.second; low = omega (arith, low, first); high = high };
    }
