-- Items of a list, each of which adds an entry or none.
use Rattle.object_writing.proofs.Prelude.{◌≡◌, ℕ, ◌+◌, ◌<◌, ◌≤◌, List, ◌∷◌, ◌++◌, length, map, drop, get_or, Option, ap, sym, subst, ◌∙◌, drop_more, drop_all, Appends, AppendsBeginning, Group, flushed_by, last_record, records_of, with_item}
use Rattle.object_writing.proofs.Sequences.{HasWritten, part_written, part_begun}

module _ {X : Type 0} (entry : X → Option (List ℕ)) (group : Group) (items : List X)
    (index : ℕ) (item d : X) where
  left_here :
      index < length items → item ≡ get_or items index d
      → records_of group (map entry (drop index items))
      ≡ flushed_by group (entry item) ++ records_of (with_item group (entry item))
      (map entry (drop (index + 1) items))
  left_here within is =
      ap (λ xs. records_of group (map entry xs))
      (drop_more items index d within ∙ ap (λ x. x ∷ drop (index + 1) items) (sym is))

  pub item_written :
      (a b c : Option (List ℕ)) (next : Group) (all : List ℕ) → index < length items
      → item ≡ get_or items index d
      → HasWritten a b (records_of group (map entry (drop index items))) all
      → Appends b c (flushed_by group (entry item)) → next ≡ with_item group (entry item)
      → HasWritten a c (records_of next (map entry (drop (index + 1) items))) all
  item_written a b c next all within is h written same =
      subst (λ g. HasWritten a c (records_of g (map entry (drop (index + 1) items))) all) (sym same)
      (part_written a b c (flushed_by group (entry item)) (records_of group (map entry (drop index items)))
      (records_of (with_item group (entry item)) (map entry (drop (index + 1) items))) all h
      (left_here within is) written)

  pub item_begun :
      (a b c : Option (List ℕ)) (all : List ℕ) → index < length items → item ≡ get_or items index d
      → HasWritten a b (records_of group (map entry (drop index items))) all
      → AppendsBeginning b c (flushed_by group (entry item)) → AppendsBeginning a c all
  item_begun a b c all within is h written =
      part_begun a b c (flushed_by group (entry item)) (records_of group (map entry (drop index items)))
      (records_of (with_item group (entry item)) (map entry (drop (index + 1) items))) all h
      (left_here within is) written

pub items_ended :
    {X : Type 0} (entry : X → Option (List ℕ)) (group : Group) (items : List X) (index : ℕ)
    (a b : Option (List ℕ))
    → (all : List ℕ) → length items ≤ index
    → HasWritten a b (records_of group (map entry (drop index items))) all
    → HasWritten a b (last_record group) all
items_ended entry group items index a b all past h =
    subst (λ xs. HasWritten a b (records_of group (map entry xs)) all) (drop_all index items past) h
