-- The slots of objects in frames, one more after another.
use Rattle.declared.proofs.Prelude.{◌≡◌, ◌≢◌, inl, inr, ℕ, zero, suc, ◌+◌, ◌<◌, ◌≤◌, ◌==◌, eqb, true, false, cond, List, [], ◌∷◌, ◌++◌, length, take, get_or, set, map, Option, Some, None, refl, ap, sym, subst, ◌∙◌, arith, option_eq, length-append, length-set, get_or_append_left, get_or_push, get_or-set_same, get_or-set_other, nat_tests, cases_eq, dec_le, ModuleFrames, is_procedure, size_in, sizes_in, total}
use Rattle.declared.specs.declared.slots.ObjectSlot.{ObjectSlot}
use Rattle.declared.specs.internal.Slots.{slot_view, slot_sizes, AreSlots}

-- one more object
total_pushed :
    (procedure : ℕ) (slots : List ObjectSlot) (slot : ObjectSlot)
    → total (slot_sizes procedure (slots ++ slot ∷ []))
    ≡ total (slot_sizes procedure slots) + size_in procedure (slot_view slot)
total_pushed procedure [] slot = omega arith
total_pushed procedure (first ∷ slots) slot =
    let others : total (slot_sizes procedure (slots ++ slot ∷ []))
    ≡ total (slot_sizes procedure slots) + size_in procedure (slot_view slot) =
    total_pushed procedure slots slot in
    omega arith

taken_pushed :
    (procedure : ℕ) (slots : List ObjectSlot) (slot : ObjectSlot) (k : ℕ)
    → k ≤ length slots
    → take k (slot_sizes procedure (slots ++ slot ∷ [])) ≡ take k (slot_sizes procedure slots)
taken_pushed procedure slots slot zero within = refl
taken_pushed procedure [] slot (suc k) within = absurd (omega arith)
taken_pushed procedure (first ∷ slots) slot (suc k) within =
    ap (λ others. size_in procedure (slot_view first) ∷ others)
    (taken_pushed procedure slots slot k (omega arith))

taken_whole :
    (procedure : ℕ) (slots : List ObjectSlot) (k : ℕ)
    → k ≡ length slots
    → take k (slot_sizes procedure slots) ≡ slot_sizes procedure slots
taken_whole procedure [] zero is = refl
taken_whole procedure [] (suc k) is = refl
taken_whole procedure (first ∷ slots) zero is = absurd (omega arith)
taken_whole procedure (first ∷ slots) (suc k) is =
    ap (λ others. size_in procedure (slot_view first) ∷ others) (taken_whole procedure slots k (omega arith))

pub slot_added :
    (slots : List ObjectSlot) (sizes more : List ℕ) (slot : ObjectSlot)
    → AreSlots slots sizes
    → length more ≡ length sizes
    → ((p : ℕ) → p < length sizes → get_or more p 0 ≡ get_or sizes p 0 + size_in p (slot_view slot))
    → ((p : ℕ) → slot.procedure ≡ Some p → p < length sizes → slot.start ≡ get_or sizes p 0)
    → AreSlots (slots ++ slot ∷ []) more
slot_added slots sizes more slot are same_length grown begins = record {
  sizes = λ p within.
      let within_before : p < length sizes = omega arith in
      grown p within_before
      ∙ ap (λ n. n + size_in p (slot_view slot)) (are.sizes p within_before)
      ∙ sym (total_pushed p slots slot);
  starts = λ k p found within is of_procedure within_sizes.
      elim (dec_le (suc k) (length slots)) [
        | yes before ↦
            are.starts k p found (omega (arith, before))
            (is ∙ get_or_append_left slots (slot ∷ []) found k (omega (arith, before))) of_procedure
            (omega arith)
            ∙ ap total (sym (taken_pushed p slots slot k (omega (arith, before))))
        | no after ↦
            let last : k ≡ length slots =
            omega (arith, length-append slots (slot ∷ []), within, after) in
            let same : found ≡ slot = is ∙ get_or_push slots slot found k (sym last) in
            ap (λ (one : ObjectSlot). one.start) same
            ∙ begins p (ap (λ (one : ObjectSlot). one.procedure) (sym same) ∙ of_procedure) (omega arith)
            ∙ are.sizes p (omega arith)
            ∙ ap total
            (sym (taken_pushed p slots slot k (omega (arith, last)) ∙ taken_whole p slots k last))
      ];
}

-- an object in no frame
pub outside_added :
    (slots : List ObjectSlot) (sizes : List ℕ)
    → AreSlots slots sizes
    → AreSlots (slots ++ record { procedure = None; start = 0; size = 0 } ∷ []) sizes
outside_added slots sizes are =
    slot_added slots sizes sizes (record { procedure = None; start = 0; size = 0 }) are refl
    (λ p within. omega arith) (λ p is within. absurd (cc))

other_procedure :
    (p procedure size : ℕ)
    → p ≢ procedure
    → size_in p (record { procedure = Some procedure; size = size }) ≡ 0
other_procedure p procedure size different = grind (arith, nat_tests)

same_procedure :
    (p size : ℕ) (procedure : Option ℕ)
    → procedure ≡ Some p
    → size_in p (record { procedure = procedure; size = size }) ≡ size
same_procedure p size procedure is =
    ap (λ (one : Option ℕ). cond (is_procedure p one) size 0) is ∙ itself p size
  where
    itself : (p size : ℕ) → cond (p == p) size 0 ≡ size
    itself p size = grind (arith, nat_tests)

-- an object in the frame of a procedure that there is not
pub unknown_added :
    (slots : List ObjectSlot) (sizes : List ℕ) (procedure size : ℕ)
    → AreSlots slots sizes
    → length sizes ≤ procedure
    → AreSlots (slots ++ record { procedure = Some procedure; start = 0; size = size } ∷ []) sizes
unknown_added slots sizes procedure size are past =
    slot_added slots sizes sizes (record { procedure = Some procedure; start = 0; size = size }) are refl
    (λ p within.
    let none : size_in p (record { procedure = Some procedure; size = size }) ≡ 0 =
    other_procedure p procedure size (omega arith) in
    omega arith)
    (λ p is within. let same : procedure ≡ p = cc in absurd (omega arith))

-- and of one that there is
pub inside_added :
    (slots : List ObjectSlot) (sizes : List ℕ) (procedure start size end : ℕ)
    → AreSlots slots sizes
    → procedure < length sizes
    → start ≡ get_or sizes procedure 0
    → end ≡ start + size
    → AreSlots (slots ++ record { procedure = Some procedure; start = start; size = size } ∷ [])
    (set sizes procedure end)
inside_added slots sizes procedure start size end are within is_start is_end =
    slot_added slots sizes (set sizes procedure end)
    (record { procedure = Some procedure; start = start; size = size }) are (length-set sizes procedure end)
    (λ p p_within. grown p p_within)
    (λ p is p_within. let same : procedure ≡ p = cc in is_start ∙ ap (λ k. get_or sizes k 0) same)
  where
    grown :
        (p : ℕ)
        → p < length sizes
        → get_or (set sizes procedure end) p 0
        ≡ get_or sizes p 0 + size_in p (record { procedure = Some procedure; size = size })
    grown p p_within =
        elim (cases_eq p procedure) [
          | inl same ↦
              ap (λ k. get_or (set sizes procedure end) k 0) same
              ∙ get_or-set_same sizes procedure end 0 within
              ∙ (let whole : size_in p (record { procedure = Some procedure; size = size }) ≡ size =
              same_procedure p size (Some procedure) (ap Some (sym same)) in
              let here : get_or sizes p 0 ≡ get_or sizes procedure 0 = ap (λ k. get_or sizes k 0) same in
              omega arith)
          | inr different ↦
              let none : size_in p (record { procedure = Some procedure; size = size }) ≡ 0 =
              other_procedure p procedure size different in
              get_or-set_other sizes procedure p end 0 different ∙ omega arith
        ]

-- the bytes of an object in a frame
size_at :
    (slots : List ObjectSlot) (k p : ℕ) (slot : ObjectSlot)
    → k < length slots
    → slot ≡ get_or slots k slot
    → get_or (slot_sizes p slots) k 0 ≡ size_in p (slot_view slot)
size_at [] k p slot within is = absurd (omega arith)
size_at (first ∷ slots) zero p slot within is = ap (λ one. size_in p (slot_view one)) (sym is)
size_at (first ∷ slots) (suc k) p slot within is = size_at slots k p slot (omega arith) is

-- the test of the code
same_option : (p : ℕ) (procedure : Option ℕ) → option_eq eqb procedure (Some p) ≡ true → procedure ≡ Some p
same_option p None is = absurd (cc)
same_option p (Some other) is = ap Some (same_number other p is)
  where
    same_number : (other p : ℕ) → eqb other p ≡ true → other ≡ p
    same_number other p is = grind (arith, nat_tests)

size_of_other :
    (p size : ℕ) (procedure : Option ℕ)
    → option_eq eqb procedure (Some p) ≡ false
    → size_in p (record { procedure = procedure; size = size }) ≡ 0
size_of_other p size None is = refl
size_of_other p size (Some other) is = another other p size is
  where
    another : (other p size : ℕ) → eqb other p ≡ false → cond (p == other) size 0 ≡ 0
    another other p size is = grind (arith, nat_tests)

-- what a look-up finds: the object is in the frame of the procedure
pub part_there :
    (slots found : List ObjectSlot) (sizes : List ℕ) (frames : ModuleFrames) (k p : ℕ) (slot : ObjectSlot)
    → AreSlots slots sizes
    → record { objects = map slot_view slots; procedures = length sizes } ≡ frames
    → found ≡ slots
    → k < length found
    → slot ≡ get_or found k slot
    → option_eq eqb slot.procedure (Some p) ≡ true
    → p < frames.procedures
    → (slot.size ≡ get_or (sizes_in p frames.objects) k 0)
    × (slot.start ≡ total (take k (sizes_in p frames.objects)))
part_there slots found sizes frames k p slot are is_view is_found within is tested p_within =
    let of_procedure : slot.procedure ≡ Some p = same_option p slot.procedure tested in
    let here : k < length slots = subst (λ now. k < length now) is_found within in
    let at : slot ≡ get_or slots k slot = is ∙ ap (λ now. get_or now k slot) is_found in
    let known : p < length sizes =
    subst (λ (now : ModuleFrames). p < now.procedures) (sym is_view) p_within in
    subst
    (λ (now : ModuleFrames).
    (slot.size ≡ get_or (sizes_in p now.objects) k 0)
    × (slot.start ≡ total (take k (sizes_in p now.objects))))
    is_view (
      sym (size_at slots k p slot here at ∙ same_procedure p slot.size slot.procedure of_procedure),
      are.starts k p slot here at of_procedure known,
    )

-- and where the object is not in it
pub part_not_there :
    (slots found : List ObjectSlot) (frames : ModuleFrames) (procedures k p : ℕ) (slot : ObjectSlot)
    → record { objects = map slot_view slots; procedures = procedures } ≡ frames
    → found ≡ slots
    → k < length found
    → slot ≡ get_or found k slot
    → option_eq eqb slot.procedure (Some p) ≡ false
    → 0 ≡ get_or (sizes_in p frames.objects) k 0
part_not_there slots found frames procedures k p slot is_view is_found within is tested =
    sym
    (ap (λ (now : ModuleFrames). get_or (sizes_in p now.objects) k 0) (sym is_view)
    ∙ size_at slots k p slot (subst (λ now. k < length now) is_found within)
    (is ∙ ap (λ now. get_or now k slot) is_found)
    ∙ size_of_other p slot.size slot.procedure tested)
