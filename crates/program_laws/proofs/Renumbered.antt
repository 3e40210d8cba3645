-- Code that was written by numbers of its own stands as the items of its module, by the module's numbers.
use Rattle.program_laws.proofs.Prelude.{◌≡◌, ℕ, ◌+◌, List, [], ◌∷◌, Option, Some, None, option_map, refl, sym, ap, ◌∙◌, subst, arith, Segment, InSegment, External, bytes_of, high_byte, low_byte, wrap, Item, Plain, WithWord, Byte, Address, Gap, Mark, Reference, AtLabel, AtTarget, AtNumber, Layout, Stands, instruction_with, word_of, BytesStand, entry, Written, in_front, numbered, numbered_reference}

-- a layout by the module's numbers is one by the numbers of code
pub record LaysOut (written : Written) (own layout : Layout) : Type 0 where
  pub labels : (label number : ℕ) → entry written.labels label ≡ Some number
      → own.place_of label ≡ layout.place_of number
  pub names : (name number : ℕ) → entry written.externals name ≡ Some number
      → wrap (own.address_of (External name)) ≡ wrap (layout.address_of (External number))
  pub starts : (segment : Segment) → own.address_of (InSegment segment)
      ≡ layout.address_of (InSegment segment)

-- what a list that begins with an item begins with
pub record InFront (item : Option Item) (others : Option (List Item)) (made : List Item) : Type 0 where
  pub first : Item
  pub more : List Item
  pub item_is : item ≡ Some first
  pub others_are : others ≡ Some more
  pub made_is : made ≡ first ∷ more

pub front_of : (item : Option Item) (others : Option (List Item)) (made : List Item)
    → in_front item others ≡ Some made
    → InFront item others made
front_of (Some item) (Some others) made is =
    record { first = item; more = others; item_is = refl; others_are = refl; made_is = cc }
front_of (Some item) None made is = absurd (cc)
front_of None others made is = absurd (cc)

pub record Mapped {A B : Type 0} (f : A → B) (found : Option A) (made : B) : Type 0 where
  pub given : A
  pub found_is : found ≡ Some given
  pub made_is : made ≡ f given

pub mapped : {A B : Type 0} (f : A → B) (found : Option A) (made : B) → option_map f found ≡ Some made
    → Mapped f found made
mapped f (Some given) made is = record { given = given; found_is = refl; made_is = cc }
mapped f None made is = absurd (cc)

-- sums modulo the size of memory depend on their parts modulo that
same_sum : (offset one other : ℕ) → wrap one ≡ wrap other → wrap (offset + one) ≡ wrap (offset + other)
same_sum offset one other same = omega (arith, same)

module _ (written : Written) (own layout : Layout) (lays : LaysOut written own layout) where
  same_word : (reference : Reference) (made : Reference) → numbered_reference written reference ≡ Some made
      → word_of own reference ≡ word_of layout made
  same_word (AtLabel label) made is =
      let m = mapped AtLabel (entry written.labels label) made is in
      rw m.made_is (ap wrap (lays.labels label m.given m.found_is))
  same_word (AtTarget (External name) offset) made is =
      let m = mapped (λ number. AtTarget (External number) offset) (entry written.externals name) made is in
      rw m.made_is (same_sum offset (own.address_of (External name)) (layout.address_of (External m.given))
      (lays.names name m.given m.found_is))
  same_word (AtTarget (InSegment segment) offset) made is =
      let same : made ≡ AtTarget (InSegment segment) offset = cc in
      rw same (ap (λ address. wrap (offset + address)) (lays.starts segment))
  same_word (AtNumber number) made is = let same : made ≡ AtNumber number = cc in rw same refl

  -- so the items stand where those by the code's numbers do
  pub stands_so :
      (memory : List ℕ) (items made : List Item) (from to : ℕ)
      → numbered written items ≡ Some made
      → Stands layout memory made from to
      → Stands own memory items from to
  stands_so memory [] made from to is stands =
      let none : made ≡ [] = cc in
      subst (λ list. Stands layout memory list from to) none stands
  stands_so memory (Plain instruction ∷ others) made from to is stands =
      let front = front_of (Some (Plain instruction)) (numbered written others) made is in
      let first : front.first ≡ Plain instruction = let same = front.item_is in cc in
      let here =
      subst (λ list. Stands layout memory list from to)
      (front.made_is ∙ ap (λ one. one ∷ front.more) first) stands in
      (here.0, stands_so memory others front.more (from + _) to front.others_are here.1)
  stands_so memory (WithWord form reference ∷ others) made from to is stands =
      let front =
      front_of (option_map (WithWord form) (numbered_reference written reference))
      (numbered written others) made is in
      let word = mapped (WithWord form) (numbered_reference written reference) front.first front.item_is in
      let here =
      subst (λ list. Stands layout memory list from to)
      (front.made_is ∙ ap (λ one. one ∷ front.more) word.made_is) stands in (
        subst (λ number. BytesStand memory from (bytes_of (instruction_with form number)))
            (sym (same_word reference word.given word.found_is)) here.0,
        stands_so memory others front.more (from + 3) to front.others_are here.1,
      )
  stands_so memory (Byte value ∷ others) made from to is stands =
      let front = front_of (Some (Byte value)) (numbered written others) made is in
      let first : front.first ≡ Byte value = let same = front.item_is in cc in
      let here =
      subst (λ list. Stands layout memory list from to)
      (front.made_is ∙ ap (λ one. one ∷ front.more) first) stands in
      (here.0, stands_so memory others front.more (from + 1) to front.others_are here.1)
  stands_so memory (Address reference ∷ others) made from to is stands =
      let front =
      front_of (option_map Address (numbered_reference written reference))
      (numbered written others) made is in
      let word = mapped Address (numbered_reference written reference) front.first front.item_is in
      let here =
      subst (λ list. Stands layout memory list from to)
      (front.made_is ∙ ap (λ one. one ∷ front.more) word.made_is) stands in (
        subst (λ number. BytesStand memory from (low_byte number ∷ high_byte number ∷ []))
            (sym (same_word reference word.given word.found_is)) here.0,
        stands_so memory others front.more (from + 2) to front.others_are here.1,
      )
  stands_so memory (Gap count ∷ others) made from to is stands =
      let front = front_of (Some (Gap count)) (numbered written others) made is in
      let first : front.first ≡ Gap count = let same = front.item_is in cc in
      let here =
      subst (λ list. Stands layout memory list from to)
      (front.made_is ∙ ap (λ one. one ∷ front.more) first) stands in
      stands_so memory others front.more (from + count) to front.others_are here
  stands_so memory (Mark label ∷ others) made from to is stands =
      let front = front_of (option_map Mark (entry written.labels label)) (numbered written others) made is in
      let mark = mapped Mark (entry written.labels label) front.first front.item_is in
      let here =
      subst (λ list. Stands layout memory list from to)
      (front.made_is ∙ ap (λ one. one ∷ front.more) mark.made_is) stands in (
        lays.labels label mark.given mark.found_is ∙ here.0,
        stands_so memory others front.more from to front.others_are here.1,
      )
