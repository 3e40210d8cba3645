-- Where no module fixes a high byte alone, or asks for a page, their merge does not.
use Rattle.image_laws.proofs.Prelude.{◌≡◌, ℕ, zero, suc, ◌+◌, ◌-◌, false, cond, ◌||◌, List, [], ◌∷◌, ◌++◌, length, map, filter_map, replicate, Option, Some, None, option_map, option_and_then, refl, ap, sym, ◌∙◌, list_any, cons_option, AllByRecursion, filter_map-append, TypedModule, Alignment, Page, FixKind, Low, High, Both, Code, Data, Target, Linked, all_publics, code_end, data_end, linked_after, linked_from, linked_modules, gain_in, target_kept, code_piece, data_piece, joined, joined_after, joined_alignment, Fixup, SetByte, Public, ObjectModule, is_page, places_of, byte_moved, fixup_moved, high_target, high_targets, moved_after, high_at, AreObjectsOf}
use Rattle.object_modules.specs.{declared.segment.Alignment.TheVariants.{Byte}, Module.{Places}}
use Rattle.image_laws.proofs.Images.NoHighs.{NoHighs, highs_append}

kind_stays :
    (kept : Target → Option Target) (kind : FixKind) (target : Target)
    → high_target (record { kind = kind; target = target }) ≡ None
    → option_and_then high_target (fixup_moved kept (record { kind = kind; target = target })) ≡ None
kind_stays kept Low target h = go (kept target)
  where
    go : (other : Option Target)
        → option_and_then high_target (option_map (λ (t : Target). record { kind = Low; target = t }) other)
        ≡ None
    go None = refl
    go (Some t) = refl
kind_stays kept High target h = absurd (let bad : Some target ≡ None = h in cc)
kind_stays kept Both target h = go (kept target)
  where
    go : (other : Option Target)
        → option_and_then high_target
        (option_map (λ (t : Target). record { kind = Both; target = t }) other) ≡ None
    go None = refl
    go (Some t) = refl

fixup_stays :
    (kept : Target → Option Target) (fixup : Option Fixup) → option_and_then high_target fixup ≡ None
    → option_and_then high_target (option_and_then (fixup_moved kept) fixup) ≡ None
fixup_stays kept None h = refl
fixup_stays kept (Some fixup) h = kind_stays kept fixup.kind fixup.target h

place_stays :
    (gain_of : Target → ℕ) (kept : Target → Option Target) (before here : Option SetByte)
    → high_at here ≡ None
    → high_at (option_map (byte_moved gain_of kept before) here) ≡ None
place_stays gain_of kept before None h = refl
place_stays gain_of kept before (Some here) h = fixup_stays kept here.fixup h

nothing_first :
    {A : Type 0} (found : Option A) (others : List A) → cons_option found others ≡ []
    → (found ≡ None) × (others ≡ [])
nothing_first None others h = (refl, h)
nothing_first (Some x) others h = absurd (let bad : x ∷ others ≡ [] = h in cc)

moved_highs :
    (gain_of : Target → ℕ) (kept : Target → Option Target) (before : Option SetByte)
    (places : List (Option SetByte))
    → NoHighs places → NoHighs (moved_after gain_of kept before places)
moved_highs gain_of kept before [] h = refl
moved_highs gain_of kept before (here ∷ others) h =
    let cut = nothing_first (high_at here) (filter_map high_at others) h in
    ap (λ found. cons_option found (filter_map high_at (moved_after gain_of kept here others)))
    (place_stays gain_of kept before here cut.0)
    ∙ moved_highs gain_of kept here others cut.1

nothing_high : (count : ℕ) → NoHighs (replicate count None)
nothing_high zero = refl
nothing_high (suc count) = nothing_high count

abbrev HighlessPiece : ℕ × List (Option SetByte) → Type 0
HighlessPiece piece = NoHighs piece.1

joined_highs :
    (end : ℕ) (pieces : List (ℕ × List (Option SetByte))) → AllByRecursion HighlessPiece pieces
    → NoHighs (joined_after end pieces)
joined_highs end [] all = refl
joined_highs end (piece ∷ others) all =
    let gap : List (Option SetByte) = replicate (piece.0 - end) None in
    highs_append (gap ++ piece.1) (joined_after (piece.0 + length piece.1) others)
    (highs_append gap piece.1 (nothing_high (piece.0 - end)) all.0)
    (joined_highs (piece.0 + length piece.1) others all.1)

nothing_both : {A : Type 0} (xs ys : List A) → xs ++ ys ≡ [] → (xs ≡ []) × (ys ≡ [])
nothing_both [] ys h = (refl, h)
nothing_both (x ∷ xs) ys h = absurd (let bad : x ∷ (xs ++ ys) ≡ [] = h in cc)

module_highs :
    (object : ObjectModule) → high_targets object ≡ []
    → NoHighs object.code.places × NoHighs object.data_places.places
module_highs object h =
    nothing_both (filter_map high_at object.code.places) (filter_map high_at object.data_places.places)
    (sym (filter_map-append high_at (places_of object Code) (places_of object Data)) ∙ h)

pieces_highs :
    (publics : List Public) (code data_before : ℕ) (modules : List TypedModule) (objects : List ObjectModule)
    → AreObjectsOf modules objects
    → AllByRecursion HighlessPiece (map (code_piece publics) (linked_from code data_before objects))
    × AllByRecursion HighlessPiece (map (data_piece publics) (linked_from code data_before objects))
pieces_highs publics code data_before [] [] all = (tt, tt)
pieces_highs publics code data_before [] (object ∷ objects) all = absurd all
pieces_highs publics code data_before (typed ∷ modules) [] all = absurd all
pieces_highs publics code data_before (typed ∷ modules) (object ∷ objects) all =
    let one : Linked = linked_after code data_before object in
    let highs = module_highs object all.0.highs in
    let later = pieces_highs publics (code_end one) (data_end one) modules objects all.1 in (
      (moved_highs (gain_in publics one) (target_kept publics one) None object.code.places highs.0, later.0),
      (
        moved_highs (gain_in publics one) (target_kept publics one) None object.data_places.places highs.1,
        later.1,
      ),
    )

pub merge_highs :
    (modules : List TypedModule) (objects : List ObjectModule) → AreObjectsOf modules objects
    → high_targets (joined objects (linked_modules objects)) ≡ []
merge_highs modules objects all =
    let linked : List Linked = linked_modules objects in
    let publics : List Public = all_publics linked in
    let highs = pieces_highs publics 0 0 modules objects all in
    highs_append (joined_after 0 (map (code_piece publics) linked))
    (joined_after 0 (map (data_piece publics) linked))
    (joined_highs 0 (map (code_piece publics) linked) highs.0)
    (joined_highs 0 (map (data_piece publics) linked) highs.1)

-- no segment of the merge asks for a page
code_pages :
    (modules : List TypedModule) (objects : List ObjectModule) → AreObjectsOf modules objects
    → list_any (λ (segment : Places). is_page segment.alignment)
    (map (λ (object : ObjectModule). object.code) objects)
    ≡ false
code_pages [] [] all = refl
code_pages [] (object ∷ objects) all = absurd all
code_pages (typed ∷ modules) [] all = absurd all
code_pages (typed ∷ modules) (object ∷ objects) all =
    ap (λ (alignment : Alignment).
    is_page alignment
    || list_any (λ (segment : Places). is_page segment.alignment)
    (map (λ (one : ObjectModule). one.code) objects))
    all.0.code_alignment
    ∙ code_pages modules objects all.1

data_pages :
    (modules : List TypedModule) (objects : List ObjectModule) → AreObjectsOf modules objects
    → list_any (λ (segment : Places). is_page segment.alignment)
    (map (λ (object : ObjectModule). object.data_places) objects) ≡ false
data_pages [] [] all = refl
data_pages [] (object ∷ objects) all = absurd all
data_pages (typed ∷ modules) [] all = absurd all
data_pages (typed ∷ modules) (object ∷ objects) all =
    ap (λ (alignment : Alignment).
    is_page alignment
    || list_any (λ (segment : Places). is_page segment.alignment)
    (map (λ (one : ObjectModule). one.data_places) objects))
    all.0.data_alignment
    ∙ data_pages modules objects all.1

pub merge_alignments :
    (modules : List TypedModule) (objects : List ObjectModule) → AreObjectsOf modules objects
    → (joined_alignment (map (λ (object : ObjectModule). object.code) objects) ≡ Byte)
    × (joined_alignment (map (λ (object : ObjectModule). object.data_places) objects) ≡ Byte)
merge_alignments modules objects all = (
  ap (λ b. cond b Page Byte) (code_pages modules objects all),
  ap (λ b. cond b Page Byte) (data_pages modules objects all),
)
