-- Tables of names that are made longer, so that they have an entry for a name.
use Rattle.steps8080.proofs.Prelude.{◌≡◌, ℕ, zero, suc, ◌+◌, ◌<◌, ◌≤◌, inl, inr, List, [], ◌∷◌, ◌++◌, length, replicate, take, arith, refl, ap, sym, ◌∙◌, Option, Some, None}
use Rattle.steps8080.specs.internal.Externals.{AddsOnly, Extends, IsNumbering, entries, entry}
use Rattle.steps8080.proofs.Labels.{entry_of_longer}

-- entries without a number count as none
none_counted : (count : ℕ) → entries (replicate count None) ≡ 0
none_counted zero = refl
none_counted (suc count) = none_counted count

entries_longer : (table : List (Option ℕ)) (size count : ℕ)
    → length table ≤ size
    → entries (take size table ++ replicate count None) ≡ entries table
entries_longer [] zero count least = none_counted count
entries_longer [] (suc size) count least = none_counted count
entries_longer (first ∷ others) zero count least = absurd (omega (arith, least))
entries_longer (None ∷ others) (suc size) count least = entries_longer others size count (omega (arith, least))
entries_longer (Some number ∷ others) (suc size) count least =
    ap suc (entries_longer others size count (omega (arith, least)))

-- the same names have numbers
pub numbering_longer : (table more : List (Option ℕ)) (used size count : ℕ)
    → (used < 65536 → IsNumbering used table)
    → length table ≤ size
    → more ≡ take size table ++ replicate count None
    → used < 65536
    → IsNumbering used more
numbering_longer table more used size count numbering least same few = record {
  counted = ap entries same ∙ entries_longer table size count least ∙ old.counted;
  below = λ name number given. old.below name number (back name number given);
  different = λ name other number given also.
      old.different name other number (back name number given) (back other number also);
}
  where
    old : IsNumbering used table
    old = numbering few

    back : (name number : ℕ) → entry more name ≡ Some number → entry table name ≡ Some number
    back name number given =
        entry_of_longer table size count name number least
        (ap (λ list. entry list name) (sym same) ∙ given)

-- no name gets a number by that
pub name_reached : (name : ℕ) (before after : List (Option ℕ)) → Extends after before → AddsOnly name before after
name_reached name before after back = λ other found given. inl (back other found given)

-- one name gets a number after that
pub name_added : (name : ℕ) (before between after : List (Option ℕ))
    → Extends between before
    → AddsOnly name between after
    → AddsOnly name before after
name_added name before between after back only = λ other found given.
    elim (only other found given) [ inl old ↦ inl (back other found old) | inr same ↦ inr same ]
