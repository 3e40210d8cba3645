-- What an assembly is to which a routine was added.
use Rattle.runtime8080.proofs.Prelude.{◌≡◌, ℕ, ◌+◌, ◌<◌, ◌≤◌, List, ◌++◌, refl, sym, ap, subst, ◌∙◌, arith, Item, Assembly, IsAssembly, is_bound, size_of_items, Routine, AddsRoutine, IsRoutine, size_of_routine, divide_with, labels_of, listing, move_bytes_with, multiply_with, shift_right_address_with, shift_left_address, rotate_left, rotate_right, shift_left_byte, shift_right_byte, Fits, with_routine, unbound_from}
use Rattle.runtime8080.specs.declared.routine.Routine.TheVariants.{Divide, Multiply, Move, RotateLeft, RotateRight, ShiftLeftAddress, ShiftRightAddress, ShiftLeftByte, ShiftRightByte}
use Rattle.runtime8080.proofs.Labels.{AllDiffer, AllFrom, AllKnown, AllOwn, Differs, all_own, bound_by, fit_items, none_bound, not_bound, not_true, true_unless, unbound_differs}
use Rattle.runtime8080.proofs.Rotations.{rotates_left, rotates_right}
use Rattle.runtime8080.proofs.LeftShift.{shifts_address_left}
use Rattle.runtime8080.proofs.RightShift.{shifts_address_right}
use Rattle.runtime8080.proofs.DivideBody.{divides}
use Rattle.runtime8080.proofs.Products.{multiplies}
use Rattle.runtime8080.proofs.MoveReturns.{moves_bytes}
use Rattle.runtime8080.proofs.ByteShifts.{shifts_left, shifts_right}

-- what a routine's labels are, wherever they begin
record HasLabels (routine : Routine) (first : ℕ) : Type 0 where
  known : AllKnown (first + labels_of routine) (listing routine first)
  differ : AllDiffer (bound_by (listing routine first))
  from : AllFrom first (bound_by (listing routine first))
  all : (label : ℕ) → first ≤ label → label < first + labels_of routine
      → Differs label (bound_by (listing routine first)) → ⊥
  new : (label : ℕ) → label < first → Differs label (bound_by (listing routine first))
  own : AllOwn first (first + labels_of routine) (listing routine first)

adds :
    (routine : Routine) (before after : Assembly)
    → HasLabels routine before.labels
    → size_of_items (listing routine before.labels) ≡ size_of_routine routine
    → IsRoutine routine (listing routine before.labels)
    → after ≡ with_routine routine before
    → AddsRoutine routine before after
adds routine before after has size is same =
    subst (λ (a : Assembly). AddsRoutine routine before a) (sym same)
    (record {
      items = listing routine before.labels;
      added = refl;
      more = omega arith;
      bound = λ label low high.
          true_unless (is_bound label (listing routine before.labels))
          (λ none. has.all label low high (unbound_differs label (listing routine before.labels) none));
      new = λ label low.
          not_true (is_bound label (listing routine before.labels))
          (not_bound label (listing routine before.labels) (has.new label low));
      own = all_own before.labels (before.labels + labels_of routine) (listing routine before.labels) has.own;
      size = size;
      is_routine = is;
    })

-- the items of a routine may be added to an assembly that has its labels
fits :
    (routine : Routine) (before with_labels : Assembly)
    → HasLabels routine before.labels
    → IsAssembly before
    → with_labels ≡ record before { labels = before.labels + labels_of routine }
    → Fits with_labels (listing routine before.labels)
unfolding Fits
fits routine before with_labels has fresh labels =
    subst (λ (a : Assembly). Fits a (listing routine before.labels)) (sym labels)
    (fit_items (before.labels + labels_of routine) before.items (listing routine before.labels)
    has.known has.differ
    (none_bound before.items before.labels (bound_by (listing routine before.labels))
    (λ label from. unbound_from before label fresh from) has.from))

-- with one label
fits_one :
    (routine : Routine) (before with_label : Assembly) (label : ℕ)
    → HasLabels routine before.labels
    → labels_of routine ≡ 1
    → IsAssembly before
    → label ≡ before.labels
    → with_label ≡ record before { labels = before.labels + 1 }
    → Fits with_label (listing routine label)
fits_one routine before with_label label has one fresh same labels =
    subst (λ n. Fits with_label (listing routine n)) (sym same)
    (fits routine before with_label has fresh
    (labels ∙ ap (λ n. record before { labels = before.labels + n }) (sym one)))

done_one :
    (routine : Routine) (before with_label after : Assembly) (label : ℕ)
    → labels_of routine ≡ 1
    → label ≡ before.labels
    → with_label ≡ record before { labels = before.labels + 1 }
    → after ≡ record with_label { items = with_label.items ++ listing routine label }
    → after ≡ with_routine routine before
done_one routine before with_label after label one same labels is =
    is
    ∙ (ap (λ (a : Assembly). record a { items = a.items ++ listing routine label }) labels
    ∙ (ap (λ n. record before { items = before.items ++ listing routine n; labels = before.labels + 1 }) same
    ∙ ap (λ n. record before { items = before.items ++ listing routine before.labels; labels = before.labels + n }) (sym one)))

labels_of_rotate_left : (first : ℕ) → HasLabels RotateLeft first
labels_of_rotate_left first =
    record { known = omega arith; differ = (tt, tt); from = omega arith; all = omega arith; new = omega arith; own = omega arith }

pub adds_rotate_left :
    (before after : Assembly) → after ≡ with_routine RotateLeft before → AddsRoutine RotateLeft before after
adds_rotate_left before after same =
    adds RotateLeft before after (labels_of_rotate_left before.labels) refl (rotates_left before.labels) same

pub fits_rotate_left :
    (before with_label : Assembly) (label : ℕ)
    → IsAssembly before
    → label ≡ before.labels
    → with_label ≡ record before { labels = before.labels + 1 }
    → Fits with_label (rotate_left label)
fits_rotate_left before with_label label fresh same labels =
    fits_one RotateLeft before with_label label (labels_of_rotate_left before.labels) refl fresh same labels

pub done_rotate_left :
    (before with_label after : Assembly) (label : ℕ)
    → label ≡ before.labels
    → with_label ≡ record before { labels = before.labels + 1 }
    → after ≡ record with_label { items = with_label.items ++ rotate_left label }
    → after ≡ with_routine RotateLeft before
done_rotate_left before with_label after label same labels is =
    done_one RotateLeft before with_label after label refl same labels is

labels_of_rotate_right : (first : ℕ) → HasLabels RotateRight first
labels_of_rotate_right first =
    record { known = omega arith; differ = (tt, tt); from = omega arith; all = omega arith; new = omega arith; own = omega arith }

pub adds_rotate_right :
    (before after : Assembly) → after ≡ with_routine RotateRight before → AddsRoutine RotateRight before after
adds_rotate_right before after same =
    adds RotateRight before after (labels_of_rotate_right before.labels) refl
    (rotates_right before.labels) same

pub fits_rotate_right :
    (before with_label : Assembly) (label : ℕ)
    → IsAssembly before
    → label ≡ before.labels
    → with_label ≡ record before { labels = before.labels + 1 }
    → Fits with_label (rotate_right label)
fits_rotate_right before with_label label fresh same labels =
    fits_one RotateRight before with_label label (labels_of_rotate_right before.labels) refl fresh same labels

pub done_rotate_right :
    (before with_label after : Assembly) (label : ℕ)
    → label ≡ before.labels
    → with_label ≡ record before { labels = before.labels + 1 }
    → after ≡ record with_label { items = with_label.items ++ rotate_right label }
    → after ≡ with_routine RotateRight before
done_rotate_right before with_label after label same labels is =
    done_one RotateRight before with_label after label refl same labels is

labels_of_shift_left_byte : (first : ℕ) → HasLabels ShiftLeftByte first
labels_of_shift_left_byte first =
    record { known = omega arith; differ = (tt, tt); from = omega arith; all = omega arith; new = omega arith; own = omega arith }

pub adds_shift_left_byte :
    (before after : Assembly) → after ≡ with_routine ShiftLeftByte before
    → AddsRoutine ShiftLeftByte before after
adds_shift_left_byte before after same =
    adds ShiftLeftByte before after (labels_of_shift_left_byte before.labels) refl
    (shifts_left before.labels) same

pub fits_shift_left_byte :
    (before with_label : Assembly) (label : ℕ)
    → IsAssembly before
    → label ≡ before.labels
    → with_label ≡ record before { labels = before.labels + 1 }
    → Fits with_label (shift_left_byte label)
fits_shift_left_byte before with_label label fresh same labels =
    fits_one ShiftLeftByte before with_label label (labels_of_shift_left_byte before.labels)
    refl fresh same labels

pub done_shift_left_byte :
    (before with_label after : Assembly) (label : ℕ)
    → label ≡ before.labels
    → with_label ≡ record before { labels = before.labels + 1 }
    → after ≡ record with_label { items = with_label.items ++ shift_left_byte label }
    → after ≡ with_routine ShiftLeftByte before
done_shift_left_byte before with_label after label same labels is =
    done_one ShiftLeftByte before with_label after label refl same labels is

labels_of_shift_right_byte : (first : ℕ) → HasLabels ShiftRightByte first
labels_of_shift_right_byte first =
    record { known = omega arith; differ = (tt, tt); from = omega arith; all = omega arith; new = omega arith; own = omega arith }

pub adds_shift_right_byte :
    (before after : Assembly) → after ≡ with_routine ShiftRightByte before
    → AddsRoutine ShiftRightByte before after
adds_shift_right_byte before after same =
    adds ShiftRightByte before after (labels_of_shift_right_byte before.labels) refl
    (shifts_right before.labels) same

pub fits_shift_right_byte :
    (before with_label : Assembly) (label : ℕ)
    → IsAssembly before
    → label ≡ before.labels
    → with_label ≡ record before { labels = before.labels + 1 }
    → Fits with_label (shift_right_byte label)
fits_shift_right_byte before with_label label fresh same labels =
    fits_one ShiftRightByte before with_label label (labels_of_shift_right_byte before.labels)
    refl fresh same labels

pub done_shift_right_byte :
    (before with_label after : Assembly) (label : ℕ)
    → label ≡ before.labels
    → with_label ≡ record before { labels = before.labels + 1 }
    → after ≡ record with_label { items = with_label.items ++ shift_right_byte label }
    → after ≡ with_routine ShiftRightByte before
done_shift_right_byte before with_label after label same labels is =
    done_one ShiftRightByte before with_label after label refl same labels is

labels_of_shift_left_address : (first : ℕ) → HasLabels ShiftLeftAddress first
labels_of_shift_left_address first =
    record { known = omega arith; differ = (tt, tt); from = omega arith; all = omega arith; new = omega arith; own = omega arith }

pub adds_shift_left_address :
    (before after : Assembly) → after ≡ with_routine ShiftLeftAddress before
    → AddsRoutine ShiftLeftAddress before after
adds_shift_left_address before after same =
    adds ShiftLeftAddress before after (labels_of_shift_left_address before.labels) refl
    (shifts_address_left before.labels) same

pub fits_shift_left_address :
    (before with_label : Assembly) (label : ℕ)
    → IsAssembly before
    → label ≡ before.labels
    → with_label ≡ record before { labels = before.labels + 1 }
    → Fits with_label (shift_left_address label)
fits_shift_left_address before with_label label fresh same labels =
    fits_one ShiftLeftAddress before with_label label (labels_of_shift_left_address before.labels)
    refl fresh same labels

pub done_shift_left_address :
    (before with_label after : Assembly) (label : ℕ)
    → label ≡ before.labels
    → with_label ≡ record before { labels = before.labels + 1 }
    → after ≡ record with_label { items = with_label.items ++ shift_left_address label }
    → after ≡ with_routine ShiftLeftAddress before
done_shift_left_address before with_label after label same labels is =
    done_one ShiftLeftAddress before with_label after label refl same labels is

labels_of_multiply : (first : ℕ) → HasLabels Multiply first
labels_of_multiply first =
    record { known = omega arith; differ = omega arith; from = omega arith; all = omega arith; new = omega arith; own = omega arith }

pub adds_multiply :
    (before after : Assembly) → after ≡ with_routine Multiply before → AddsRoutine Multiply before after
adds_multiply before after same =
    adds Multiply before after (labels_of_multiply before.labels) refl (multiplies before.labels) same

items_of_multiply :
    (before : Assembly) (first second third fourth fifth : ℕ)
    → first ≡ before.labels
    → second ≡ before.labels + 1
    → third ≡ before.labels + 2
    → fourth ≡ before.labels + 3
    → fifth ≡ before.labels + 4
    → multiply_with first second third fourth fifth ≡ listing Multiply before.labels
items_of_multiply before first second third fourth fifth is_first is_second is_third is_fourth is_fifth =
    ap (λ n. multiply_with n second third fourth fifth) is_first
    ∙ (ap (λ n. multiply_with before.labels n third fourth fifth) is_second
    ∙ (ap (λ n. multiply_with before.labels (before.labels + 1) n fourth fifth) is_third
    ∙ (ap (λ n. multiply_with before.labels (before.labels + 1) (before.labels + 2) n fifth) is_fourth
    ∙ (ap (λ n. multiply_with before.labels (before.labels + 1) (before.labels + 2) (before.labels + 3) n)
    is_fifth))))

pub fits_multiply :
    (before with_labels : Assembly) (first second third fourth fifth : ℕ)
    → IsAssembly before
    → first ≡ before.labels
    → second ≡ before.labels + 1
    → third ≡ before.labels + 2
    → fourth ≡ before.labels + 3
    → fifth ≡ before.labels + 4
    → with_labels ≡ record before { labels = before.labels + 5 }
    → Fits with_labels (multiply_with first second third fourth fifth)
fits_multiply before with_labels first second third fourth fifth fresh is_first is_second is_third
    is_fourth is_fifth labels =
    subst (λ (items : List Item). Fits with_labels items)
    (sym (items_of_multiply before first second third fourth fifth is_first is_second is_third
    is_fourth is_fifth))
    (fits Multiply before with_labels (labels_of_multiply before.labels) fresh labels)

pub done_multiply :
    (before with_labels after : Assembly) (first second third fourth fifth : ℕ)
    → first ≡ before.labels
    → second ≡ before.labels + 1
    → third ≡ before.labels + 2
    → fourth ≡ before.labels + 3
    → fifth ≡ before.labels + 4
    → with_labels ≡ record before { labels = before.labels + 5 }
    → after ≡ record with_labels { items = with_labels.items ++ multiply_with first second third fourth fifth }
    → after ≡ with_routine Multiply before
done_multiply before with_labels after first second third fourth fifth is_first is_second is_third is_fourth
    is_fifth labels is =
    is
    ∙ (ap (λ (a : Assembly). record a { items = a.items ++ multiply_with first second third fourth fifth })
    labels
    ∙ ap (λ (items : List Item). record before { items = before.items ++ items; labels = before.labels + 5 })
    (items_of_multiply before first second third fourth fifth is_first is_second is_third is_fourth is_fifth))

labels_of_move : (first : ℕ) → HasLabels Move first
labels_of_move first =
    record { known = omega arith; differ = omega arith; from = omega arith; all = omega arith; new = omega arith; own = omega arith }

pub adds_move :
    (before after : Assembly) → after ≡ with_routine Move before → AddsRoutine Move before after
adds_move before after same =
    adds Move before after (labels_of_move before.labels) refl (moves_bytes before.labels) same

items_of_move :
    (before : Assembly) (first second : ℕ)
    → first ≡ before.labels
    → second ≡ before.labels + 1
    → move_bytes_with first second ≡ listing Move before.labels
items_of_move before first second is_first is_second =
    ap (λ n. move_bytes_with n second) is_first
    ∙ (ap (λ n. move_bytes_with before.labels n) is_second)

pub fits_move :
    (before with_labels : Assembly) (first second : ℕ)
    → IsAssembly before
    → first ≡ before.labels
    → second ≡ before.labels + 1
    → with_labels ≡ record before { labels = before.labels + 2 }
    → Fits with_labels (move_bytes_with first second)
fits_move before with_labels first second fresh is_first is_second labels =
    subst (λ (items : List Item). Fits with_labels items)
    (sym (items_of_move before first second is_first is_second))
    (fits Move before with_labels (labels_of_move before.labels) fresh labels)

pub done_move :
    (before with_labels after : Assembly) (first second : ℕ)
    → first ≡ before.labels
    → second ≡ before.labels + 1
    → with_labels ≡ record before { labels = before.labels + 2 }
    → after ≡ record with_labels { items = with_labels.items ++ move_bytes_with first second }
    → after ≡ with_routine Move before
done_move before with_labels after first second is_first is_second labels is =
    is
    ∙ (ap (λ (a : Assembly). record a { items = a.items ++ move_bytes_with first second }) labels
    ∙ ap (λ (items : List Item). record before { items = before.items ++ items; labels = before.labels + 2 })
    (items_of_move before first second is_first is_second))

labels_of_shift_right_address : (first : ℕ) → HasLabels ShiftRightAddress first
labels_of_shift_right_address first =
    record { known = omega arith; differ = omega arith; from = omega arith; all = omega arith; new = omega arith; own = omega arith }

pub adds_shift_right_address :
    (before after : Assembly) → after ≡ with_routine ShiftRightAddress before
    → AddsRoutine ShiftRightAddress before after
adds_shift_right_address before after same =
    adds ShiftRightAddress before after (labels_of_shift_right_address before.labels) refl
    (shifts_address_right before.labels) same

items_of_shift_right_address :
    (before : Assembly) (first second third fourth fifth sixth seventh eighth : ℕ)
    → first ≡ before.labels
    → second ≡ before.labels + 1
    → third ≡ before.labels + 2
    → fourth ≡ before.labels + 3
    → fifth ≡ before.labels + 4
    → sixth ≡ before.labels + 5
    → seventh ≡ before.labels + 6
    → eighth ≡ before.labels + 7
    → shift_right_address_with first second third fourth fifth sixth seventh eighth
    ≡ listing ShiftRightAddress before.labels
items_of_shift_right_address before first second third fourth fifth sixth seventh eighth is_first is_second
    is_third is_fourth is_fifth is_sixth is_seventh is_eighth =
    ap (λ n. shift_right_address_with n second third fourth fifth sixth seventh eighth) is_first
    ∙ (ap (λ n. shift_right_address_with before.labels n third fourth fifth sixth seventh eighth) is_second
    ∙ (ap (λ n. shift_right_address_with before.labels (before.labels + 1) n fourth fifth sixth
    seventh eighth) is_third
    ∙ (ap (λ n. shift_right_address_with before.labels (before.labels + 1) (before.labels + 2) n fifth sixth
    seventh eighth) is_fourth
    ∙ (ap (λ n. shift_right_address_with before.labels (before.labels + 1) (before.labels + 2)
    (before.labels + 3) n sixth seventh eighth) is_fifth
    ∙ (ap (λ n. shift_right_address_with before.labels (before.labels + 1) (before.labels + 2)
    (before.labels + 3) (before.labels + 4) n seventh eighth) is_sixth
    ∙ (ap (λ n. shift_right_address_with before.labels (before.labels + 1) (before.labels + 2)
    (before.labels + 3) (before.labels + 4) (before.labels + 5) n eighth) is_seventh
    ∙ (ap (λ n. shift_right_address_with before.labels (before.labels + 1) (before.labels + 2)
    (before.labels + 3) (before.labels + 4) (before.labels + 5) (before.labels + 6) n) is_eighth)))))))

pub fits_shift_right_address :
    (before with_labels : Assembly) (first second third fourth fifth sixth seventh eighth : ℕ)
    → IsAssembly before
    → first ≡ before.labels
    → second ≡ before.labels + 1
    → third ≡ before.labels + 2
    → fourth ≡ before.labels + 3
    → fifth ≡ before.labels + 4
    → sixth ≡ before.labels + 5
    → seventh ≡ before.labels + 6
    → eighth ≡ before.labels + 7
    → with_labels ≡ record before { labels = before.labels + 8 }
    → Fits with_labels (shift_right_address_with first second third fourth fifth sixth seventh eighth)
fits_shift_right_address before with_labels first second third fourth fifth sixth seventh eighth fresh
    is_first is_second is_third is_fourth is_fifth is_sixth is_seventh is_eighth labels =
    subst (λ (items : List Item). Fits with_labels items)
    (sym (items_of_shift_right_address before first second third fourth fifth sixth seventh eighth is_first
    is_second is_third is_fourth is_fifth is_sixth is_seventh is_eighth))
    (fits ShiftRightAddress before with_labels (labels_of_shift_right_address before.labels) fresh labels)

pub done_shift_right_address :
    (before with_labels after : Assembly) (first second third fourth fifth sixth seventh eighth : ℕ)
    → first ≡ before.labels
    → second ≡ before.labels + 1
    → third ≡ before.labels + 2
    → fourth ≡ before.labels + 3
    → fifth ≡ before.labels + 4
    → sixth ≡ before.labels + 5
    → seventh ≡ before.labels + 6
    → eighth ≡ before.labels + 7
    → with_labels ≡ record before { labels = before.labels + 8 }
    → after ≡ record with_labels { items = with_labels.items ++ shift_right_address_with first second third fourth fifth sixth seventh eighth }
    → after ≡ with_routine ShiftRightAddress before
done_shift_right_address before with_labels after first second third fourth fifth sixth seventh eighth
    is_first is_second is_third is_fourth is_fifth is_sixth is_seventh is_eighth labels is =
    is
    ∙ (ap (λ (a : Assembly). record a { items = a.items ++ shift_right_address_with first second third fourth fifth sixth seventh eighth }) labels
    ∙ ap (λ (items : List Item). record before { items = before.items ++ items; labels = before.labels + 8 })
    (items_of_shift_right_address before first second third fourth fifth sixth seventh eighth is_first
    is_second is_third is_fourth is_fifth is_sixth is_seventh is_eighth))

one_more : (labels count : ℕ) → labels + count + 1 ≡ labels + (count + 1)
one_more labels count = omega arith

-- an assembly with two labels more, one after the other
pub two_more :
    (before one two : Assembly)
    → one ≡ record before { labels = before.labels + 1 }
    → two ≡ record one { labels = one.labels + 1 }
    → two ≡ record before { labels = before.labels + 2 }
two_more before one two is more =
    more ∙ (ap (λ (a : Assembly). record a { labels = a.labels + 1 }) is
    ∙ ap (λ n. record before { labels = n }) (one_more before.labels 1))

-- and with five
pub five_more :
    (before one two three four five : Assembly)
    → one ≡ record before { labels = before.labels + 1 }
    → two ≡ record one { labels = one.labels + 1 }
    → three ≡ record two { labels = two.labels + 1 }
    → four ≡ record three { labels = three.labels + 1 }
    → five ≡ record four { labels = four.labels + 1 }
    → five ≡ record before { labels = before.labels + 5 }
five_more before one two three four five a b c d e =
    let next = λ (x : Assembly). record x { labels = x.labels + 1 } in
    e ∙ (ap next d ∙ (ap next (ap next c)
    ∙ (ap next (ap next (ap next b)) ∙ (ap next (ap next (ap next (ap next a)))
    ∙ ap (λ n. record before { labels = n }) (five_ones before.labels)))))
  where
    five_ones : (labels : ℕ) → labels + 1 + 1 + 1 + 1 + 1 ≡ labels + 5
    five_ones labels = omega arith

labels_of_divide : (first : ℕ) → HasLabels Divide first
labels_of_divide first =
    record { known = omega arith; differ = omega arith; from = omega arith; all = omega arith; new = omega arith; own = omega arith }

pub adds_divide :
    (before after : Assembly) → after ≡ with_routine Divide before → AddsRoutine Divide before after
adds_divide before after same =
    adds Divide before after (labels_of_divide before.labels) refl (divides before.labels) same

items_of_divide :
    (before : Assembly) (first second third fourth fifth sixth seventh : ℕ)
    → first ≡ before.labels
    → second ≡ before.labels + 1
    → third ≡ before.labels + 2
    → fourth ≡ before.labels + 3
    → fifth ≡ before.labels + 4
    → sixth ≡ before.labels + 5
    → seventh ≡ before.labels + 6
    → divide_with first second third fourth fifth sixth seventh ≡ listing Divide before.labels
items_of_divide before first second third fourth fifth sixth seventh is_first is_second is_third is_fourth
    is_fifth is_sixth is_seventh =
    ap (λ n. divide_with n second third fourth fifth sixth seventh) is_first
    ∙ (ap (λ n. divide_with before.labels n third fourth fifth sixth seventh) is_second
    ∙ (ap (λ n. divide_with before.labels (before.labels + 1) n fourth fifth sixth seventh) is_third
    ∙ (ap (λ n. divide_with before.labels (before.labels + 1) (before.labels + 2) n fifth sixth seventh)
    is_fourth
    ∙ (ap (λ n. divide_with before.labels (before.labels + 1) (before.labels + 2) (before.labels + 3) n
    sixth seventh) is_fifth
    ∙ (ap (λ n. divide_with before.labels (before.labels + 1) (before.labels + 2) (before.labels + 3)
    (before.labels + 4) n seventh) is_sixth
    ∙ (ap (λ n. divide_with before.labels (before.labels + 1) (before.labels + 2) (before.labels + 3)
    (before.labels + 4) (before.labels + 5) n) is_seventh))))))

seven_labels : (labels : ℕ) → labels + 5 + 2 ≡ labels + 7
seven_labels labels = omega arith

pub sixth_label : (before with_five : Assembly) (label : ℕ)
    → with_five ≡ record before { labels = before.labels + 5 } → label ≡ with_five.labels
    → label ≡ before.labels + 5
sixth_label before with_five label five is = is ∙ ap (λ (a : Assembly). a.labels) five

pub seventh_label : (before with_five : Assembly) (label : ℕ)
    → with_five ≡ record before { labels = before.labels + 5 } → label ≡ with_five.labels + 1
    → label ≡ before.labels + 6
seventh_label before with_five label five is =
    let same : with_five.labels ≡ before.labels + 5 = ap (λ (a : Assembly). a.labels) five in omega arith

with_seven :
    (before with_five with_labels : Assembly)
    → with_five ≡ record before { labels = before.labels + 5 }
    → with_labels ≡ record with_five { labels = with_five.labels + 2 }
    → with_labels ≡ record before { labels = before.labels + 7 }
with_seven before with_five with_labels five two =
    two ∙ (ap (λ (a : Assembly). record a { labels = a.labels + 2 }) five
    ∙ ap (λ n. record before { labels = n }) (seven_labels before.labels))

-- and with one more
pub eighth_label :
    (before with_five seven : Assembly) (label : ℕ)
    → with_five ≡ record before { labels = before.labels + 5 }
    → seven ≡ record with_five { labels = with_five.labels + 2 }
    → label ≡ seven.labels
    → label ≡ before.labels + 7
eighth_label before with_five seven label five two is =
    is ∙ ap (λ (a : Assembly). a.labels) (with_seven before with_five seven five two)

pub eight_more :
    (before with_five seven eight : Assembly)
    → with_five ≡ record before { labels = before.labels + 5 }
    → seven ≡ record with_five { labels = with_five.labels + 2 }
    → eight ≡ record seven { labels = seven.labels + 1 }
    → eight ≡ record before { labels = before.labels + 8 }
eight_more before with_five seven eight five two one =
    one ∙ (ap (λ (a : Assembly). record a { labels = a.labels + 1 })
    (with_seven before with_five seven five two)
    ∙ ap (λ n. record before { labels = n }) (one_more before.labels 7))

pub fits_divide :
    (before with_five with_labels : Assembly) (first second third fourth fifth sixth seventh : ℕ)
    → IsAssembly before
    → first ≡ before.labels
    → second ≡ before.labels + 1
    → third ≡ before.labels + 2
    → fourth ≡ before.labels + 3
    → fifth ≡ before.labels + 4
    → with_five ≡ record before { labels = before.labels + 5 }
    → sixth ≡ with_five.labels
    → seventh ≡ with_five.labels + 1
    → with_labels ≡ record with_five { labels = with_five.labels + 2 }
    → Fits with_labels (divide_with first second third fourth fifth sixth seventh)
fits_divide before with_five with_labels first second third fourth fifth sixth seventh fresh is_first
    is_second is_third is_fourth is_fifth five is_sixth is_seventh two =
    subst (λ (items : List Item). Fits with_labels items)
    (sym (items_of_divide before first second third fourth fifth sixth seventh is_first is_second
    is_third is_fourth is_fifth
    (sixth_label before with_five sixth five is_sixth)
    (seventh_label before with_five seventh five is_seventh)))
    (fits Divide before with_labels (labels_of_divide before.labels) fresh (with_seven before with_five with_labels five two))

pub done_divide :
    (before with_five with_labels after : Assembly) (first second third fourth fifth sixth seventh : ℕ)
    → first ≡ before.labels
    → second ≡ before.labels + 1
    → third ≡ before.labels + 2
    → fourth ≡ before.labels + 3
    → fifth ≡ before.labels + 4
    → with_five ≡ record before { labels = before.labels + 5 }
    → sixth ≡ with_five.labels
    → seventh ≡ with_five.labels + 1
    → with_labels ≡ record with_five { labels = with_five.labels + 2 }
    → after ≡ record with_labels { items = with_labels.items ++ divide_with first second third fourth fifth sixth seventh }
    → after ≡ with_routine Divide before
done_divide before with_five with_labels after first second third fourth fifth sixth seventh is_first
    is_second is_third is_fourth is_fifth five is_sixth is_seventh two is =
    is
    ∙ (ap (λ (a : Assembly). record a { items = a.items ++ divide_with first second third fourth fifth sixth seventh }) (with_seven before with_five with_labels five two)
    ∙ ap (λ (items : List Item). record before { items = before.items ++ items; labels = before.labels + 7 })
    (items_of_divide before first second third fourth fifth sixth seventh is_first is_second
    is_third is_fourth is_fifth
    (sixth_label before with_five sixth five is_sixth)
    (seventh_label before with_five seventh five is_seventh)))
