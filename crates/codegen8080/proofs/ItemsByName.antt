-- Items of a module that stand with the code's numbers for labels and names stand with the module's own.
use Rattle.codegen8080.proofs.Prelude.{◌≡◌, ℕ, ◌+◌, List, [], ◌∷◌, Option, Some, None, option_map, unwrap_or, refl, sym, ap, subst, ◌∙◌, none-some, high_byte, low_byte, wrap, bytes_of, Target, InSegment, External, Item, Plain, WithWord, Byte, Address, Gap, Mark, Reference, AtLabel, AtTarget, AtNumber, Layout, Stands, instruction_with, word_of, BytesStand, entry, Written, in_front, numbered, numbered_item, numbered_reference, same_Some}

-- a target with the code's number for its name
abbrev pub target_by : Written → Target → Target
target_by written (External name) = External (unwrap_or (entry written.externals name) 0)
target_by written (InSegment segment) = InSegment segment

-- the addresses of labels and targets, by the module's own numbers
abbrev pub layout_by : Layout → Written → Layout
layout_by layout written = record {
  place_of = λ label. layout.place_of (unwrap_or (entry written.labels label) 0);
  address_of = λ target. layout.address_of (target_by written target);
}

module _ (layout : Layout) (written : Written) (memory : List ℕ) where
  -- the word of a reference is the same
  same_word : (reference known : Reference)
      → numbered_reference written reference ≡ Some known
      → word_of (layout_by layout written) reference ≡ word_of layout known
  same_word (AtLabel label) known given = by (entry written.labels label) refl given
    where
      by : (number : Option ℕ) → entry written.labels label ≡ number
          → option_map AtLabel number ≡ Some known
          → wrap (layout.place_of (unwrap_or (entry written.labels label) 0)) ≡ word_of layout known
      by None is none = absurd (none-some known none)
      by (Some number) is some =
          ap (λ (found : Option ℕ). wrap (layout.place_of (unwrap_or found 0))) is
          ∙ ap (word_of layout) (same_Some (AtLabel number) known some)
  same_word (AtTarget (InSegment segment) offset) known given =
      ap (word_of layout) (same_Some (AtTarget (InSegment segment) offset) known given)
  same_word (AtTarget (External name) offset) known given = by (entry written.externals name) refl given
    where
      by : (number : Option ℕ) → entry written.externals name ≡ number
          → option_map (λ (found : ℕ). AtTarget (External found) offset) number ≡ Some known
          → wrap (offset + layout.address_of (External (unwrap_or (entry written.externals name) 0)))
          ≡ word_of layout known
      by None is none = absurd (none-some known none)
      by (Some number) is some =
          ap (λ (found : Option ℕ). wrap (offset + layout.address_of (External (unwrap_or found 0)))) is
          ∙ ap (word_of layout) (same_Some (AtTarget (External number) offset) known some)
  same_word (AtNumber number) known given = ap (word_of layout) (same_Some (AtNumber number) known given)

  -- an item, and others after it
  item_stands : (item found : Item) (others made : List Item) (from to : ℕ)
      → numbered_item written item ≡ Some found
      → ((at : ℕ) → Stands layout memory made at to → Stands (layout_by layout written) memory others at to)
      → Stands layout memory (found ∷ made) from to
      → Stands (layout_by layout written) memory (item ∷ others) from to
  item_stands (Plain i) found others made from to given rest stands =
      let here = subst (λ one. Stands layout memory (one ∷ made) from to)
      (sym (same_Some (Plain i) found given)) stands in
      (here.0, rest _ here.1)
  item_stands (Byte value) found others made from to given rest stands =
      let here = subst (λ one. Stands layout memory (one ∷ made) from to)
      (sym (same_Some (Byte value) found given)) stands in
      (here.0, rest _ here.1)
  item_stands (Gap count) found others made from to given rest stands =
      rest _ (subst (λ one. Stands layout memory (one ∷ made) from to)
      (sym (same_Some (Gap count) found given)) stands)
  item_stands (Mark label) found others made from to given rest stands =
      by (entry written.labels label) refl given
    where
      by : (number : Option ℕ) → entry written.labels label ≡ number
          → option_map Mark number ≡ Some found
          → (layout.place_of (unwrap_or (entry written.labels label) 0) ≡ from)
          × Stands (layout_by layout written) memory others from to
      by None is none = absurd (none-some found none)
      by (Some number) is some =
          let here = subst (λ one. Stands layout memory (one ∷ made) from to)
          (sym (same_Some (Mark number) found some)) stands in
          (ap (λ (known : Option ℕ). layout.place_of (unwrap_or known 0)) is ∙ here.0, rest from here.1)
  item_stands (WithWord form reference) found others made from to given rest stands =
      by (numbered_reference written reference) refl given
    where
      by : (known : Option Reference) → numbered_reference written reference ≡ known
          → option_map (WithWord form) known ≡ Some found
          → BytesStand memory from
          (bytes_of (instruction_with form (word_of (layout_by layout written) reference)))
          × Stands (layout_by layout written) memory others (from + 3) to
      by None is none = absurd (none-some found none)
      by (Some known) is some =
          let here = subst (λ one. Stands layout memory (one ∷ made) from to)
          (sym (same_Some (WithWord form known) found some)) stands in (
            subst (λ word. BytesStand memory from (bytes_of (instruction_with form word)))
                (sym (same_word reference known is)) here.0,
            rest _ here.1,
          )
  item_stands (Address reference) found others made from to given rest stands =
      by (numbered_reference written reference) refl given
    where
      by : (known : Option Reference) → numbered_reference written reference ≡ known
          → option_map Address known ≡ Some found
          → BytesStand memory from
          (low_byte (word_of (layout_by layout written) reference)
          ∷ high_byte (word_of (layout_by layout written) reference)
          ∷ [])
          × Stands (layout_by layout written) memory others (from + 2) to
      by None is none = absurd (none-some found none)
      by (Some known) is some =
          let here = subst (λ one. Stands layout memory (one ∷ made) from to)
          (sym (same_Some (Address known) found some)) stands in (
            subst (λ word. BytesStand memory from (low_byte word ∷ high_byte word ∷ []))
                (sym (same_word reference known is)) here.0,
            rest _ here.1,
          )

  -- items that stand with the numbers of the code stand with those of the module
  pub items_by_name : (items made : List Item) (from to : ℕ)
      → numbered written items ≡ Some made
      → Stands layout memory made from to
      → Stands (layout_by layout written) memory items from to
  items_by_name [] made from to given stands =
      subst (λ list. Stands layout memory list from to) (sym (same_Some [] made given)) stands
  items_by_name (item ∷ others) made from to given stands =
      by (numbered_item written item) (numbered written others) refl refl given
      (λ rest at is there. items_by_name others rest at to is there)
    where
      by : (first : Option Item) (rest : Option (List Item))
          → numbered_item written item ≡ first
          → numbered written others ≡ rest
          → in_front first rest ≡ Some made
          → ((left : List Item) (at : ℕ) → numbered written others ≡ Some left
          → Stands layout memory left at to
          → Stands (layout_by layout written) memory others at to)
          → Stands (layout_by layout written) memory (item ∷ others) from to
      by None None first_is rest_is none later = absurd (none-some made none)
      by None (Some rest) first_is rest_is none later = absurd (none-some made none)
      by (Some first) None first_is rest_is none later = absurd (none-some made none)
      by (Some first) (Some rest) first_is rest_is some later =
          item_stands item first others rest from to first_is
          (λ at there. later rest at rest_is there)
          (subst (λ list. Stands layout memory list from to) (sym (same_Some (first ∷ rest) made some)) stands)
