-- Places that are moved in two parts, where no word is cut.
use Rattle.object_laws.proofs.Prelude.{◌≡◌, ℕ, true, false, List, [], ◌∷◌, ◌++◌, Option, Some, None, option_map, refl, ap, ◌∙◌, option_map_or, FixKind, Low, High, Both, Target, Fixup, SetByte, is_both, begins_word, after_fixup, value_after, value_moved, byte_moved, moved_after, moved}

-- the last of places, or the one before them
abbrev pub last_place : Option SetByte → List (Option SetByte) → Option SetByte
last_place before [] = before
last_place before (here ∷ others) = last_place here others

pub moved_append :
    (gain_of : Target → ℕ) (kept : Target → Option Target) (before : Option SetByte)
    (xs ys : List (Option SetByte))
    → moved_after gain_of kept before (xs ++ ys)
    ≡ moved_after gain_of kept before xs ++ moved_after gain_of kept (last_place before xs) ys
moved_append gain_of kept before [] ys = refl
moved_append gain_of kept before (here ∷ xs) ys =
    ap (λ r. option_map (byte_moved gain_of kept before) here ∷ r) (moved_append gain_of kept here xs ys)

-- only a word reaches the next place
kind_stays :
    (gain_of : Target → ℕ) (first value : ℕ) (kind : FixKind) (target : Target) → is_both kind ≡ false
    → after_fixup gain_of first value (Some (record { kind = kind; target = target })) ≡ value
kind_stays gain_of first value Low target h = refl
kind_stays gain_of first value High target h = refl
kind_stays gain_of first value Both target h = absurd (let bad : true ≡ false = h in cc)

fixup_stays :
    (gain_of : Target → ℕ) (first value : ℕ) (fixup : Option Fixup)
    → option_map_or (λ (f : Fixup). is_both f.kind) fixup false ≡ false
    → after_fixup gain_of first value fixup ≡ value
fixup_stays gain_of first value None h = refl
fixup_stays gain_of first value (Some fixup) h = kind_stays gain_of first value fixup.kind fixup.target h

pub value_stays :
    (gain_of : Target → ℕ) (before : Option SetByte) (value : ℕ) → begins_word before ≡ false
    → value_after gain_of before value ≡ value
value_stays gain_of None value h = refl
value_stays gain_of (Some before) value h = fixup_stays gain_of before.value value before.fixup h

value_alone :
    (gain_of : Target → ℕ) (before : Option SetByte) (value : ℕ) (fixup : Option Fixup)
    → begins_word before ≡ false
    → value_moved gain_of before (record { value = value; fixup = fixup })
    ≡ value_moved gain_of None (record { value = value; fixup = fixup })
value_alone gain_of before value None h = value_stays gain_of before value h
value_alone gain_of before value (Some fixup) h = refl

place_alone :
    (gain_of : Target → ℕ) (kept : Target → Option Target) (before here : Option SetByte)
    → begins_word before ≡ false
    → option_map (byte_moved gain_of kept before) here ≡ option_map (byte_moved gain_of kept None) here
place_alone gain_of kept before None h = refl
place_alone gain_of kept before (Some here) h =
    ap (λ v. Some (record { value = v; fixup = (byte_moved gain_of kept None here).fixup }))
    (value_alone gain_of before here.value here.fixup h)

rest_alone :
    (gain_of : Target → ℕ) (kept : Target → Option Target) (before : Option SetByte)
    (ys : List (Option SetByte))
    → begins_word before ≡ false → moved_after gain_of kept before ys ≡ moved gain_of kept ys
rest_alone gain_of kept before [] h = refl
rest_alone gain_of kept before (here ∷ ys) h =
    ap (λ p. p ∷ moved_after gain_of kept here ys) (place_alone gain_of kept before here h)

-- where the first part ends in no word, each is moved by itself
pub moved_in_parts :
    (gain_of : Target → ℕ) (kept : Target → Option Target) (xs ys : List (Option SetByte))
    → begins_word (last_place None xs) ≡ false
    → moved gain_of kept (xs ++ ys) ≡ moved gain_of kept xs ++ moved gain_of kept ys
moved_in_parts gain_of kept xs ys h =
    moved_append gain_of kept None xs ys
    ∙ ap (λ r. moved gain_of kept xs ++ r) (rest_alone gain_of kept (last_place None xs) ys h)
