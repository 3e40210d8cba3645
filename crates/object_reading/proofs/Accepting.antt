-- What the rules say of fixes and names, by the marks and the names that a judge keeps.
use Rattle.object_reading.proofs.Prelude.{◌≡◌, ℕ, ◌+◌, Bool, true, false, ◌&&◌, ◌||◌, List, [], ◌∷◌, ◌++◌, flat_map, take_while, cond, Option, Some, None, refl, ap, sym, subst, ◌∙◌, list_all, list_any, bytes_eq, list_any-append, take_while-cons, is_name, Fix, is_fix_record, names_of, fixes_of, leading_fixes, is_among, are_new, Content, Part, kind_of_part, are_names, fit_content, covers, AreMarked, marks_after, onto, or_swap}
use Rattle.object_reading.proofs.FixMarks.{placed_is, Placed, placed_by}
use Rattle.object_reading.proofs.NewNames.{are_new_alike}

-- the order of the fixes doesn't matter
any_onto : (p : Fix → Bool) (xs ys : List Fix) → list_any p (onto xs ys) ≡ list_any p (xs ++ ys)
any_onto p [] ys = refl
any_onto p (x ∷ xs) ys =
    any_onto p xs (x ∷ ys)
    ∙ list_any-append p xs (x ∷ ys)
    ∙ or_swap (list_any p xs) (p x) (list_any p ys)
    ∙ ap (λ b. p x || b) (sym (list_any-append p xs ys))

-- marks of fixes before others are marks of all of them
marks_of_all :
    (marks : List Bool) (content : Content) (fixes others : List Fix)
    → AreMarked marks content (onto fixes others) → AreMarked marks content (fixes ++ others)
marks_of_all marks content fixes others m = record {
  long = m.long;
  marked = λ k h. m.marked k h ∙ any_onto (covers (content.offset + k)) fixes others;
}

leading_more :
    (content : Content) (before : List Part) (part : Part) → is_fix_record (kind_of_part part) ≡ true
    → leading_fixes content.segment (part ∷ before)
    ≡ fixes_of content.segment part ++ leading_fixes content.segment before
leading_more content before part is =
    ap (flat_map (fixes_of content.segment))
    (take_while-cons (λ p. is_fix_record (kind_of_part p)) part before)
    ∙ ap (λ b. flat_map (fixes_of content.segment)
    (cond b (part ∷ take_while (λ p. is_fix_record (kind_of_part p)) before) [])) is

-- what is known once the fixes of a part are placed
abbrev pub FixesJudged : (before : List Part) → Part → Content → Option (List Bool) → Type 0
FixesJudged before part content None = fit_content before part (Some content) ≡ false
FixesJudged before part content (Some marks) =
    (fit_content before part (Some content) ≡ true)
    × AreMarked marks content (leading_fixes content.segment (part ∷ before))

judged_as :
    (before : List Part) (part : Part) (content : Content) (found : Option (List Bool))
    → is_fix_record (kind_of_part part) ≡ true
    → Placed content (fixes_of content.segment part) (leading_fixes content.segment before) found
    → FixesJudged before part content found
judged_as before part content None is placed =
    sym (placed_is content (fixes_of content.segment part) (leading_fixes content.segment before)) ∙ placed
judged_as before part content (Some marks) is placed = (
  sym (placed_is content (fixes_of content.segment part) (leading_fixes content.segment before)) ∙ placed.0,
  subst (AreMarked marks content) (sym (leading_more content before part is))
      (marks_of_all marks content (fixes_of content.segment part)
      (leading_fixes content.segment before) placed.1),
)

-- the fixes of a part fit the latest content where they can be placed by its marks
pub fixes_judged :
    (before : List Part) (part : Part) (content : Content) (marks : List Bool)
    → is_fix_record (kind_of_part part) ≡ true
    → AreMarked marks content (leading_fixes content.segment before)
    → FixesJudged before part content (marks_after content (fixes_of content.segment part) marks)
fixes_judged before part content marks is m =
    judged_as before part content (marks_after content (fixes_of content.segment part) marks) is
    (placed_by content (fixes_of content.segment part) (leading_fixes content.segment before) marks m)

-- the names that a judge knows are those of the records before
abbrev pub KnowsNames : List Part → List (List ℕ) → Type 0
KnowsNames before known = (name : List ℕ) → is_among name (flat_map names_of before) ≡ is_among name known

pub names_judged :
    (before : List Part) (known names : List (List ℕ)) → KnowsNames before known
    → are_names names before ≡ (list_all is_name names && are_new names known)
names_judged before known names knows =
    ap (λ b. list_all is_name names && b) (are_new_alike names (flat_map names_of before) known knows)

swapped : (a b : Bool) → (a || b) ≡ (b || a)
swapped true true = refl
swapped true false = refl
swapped false true = refl
swapped false false = refl

pub names_known_after :
    (before : List Part) (part : Part) (known : List (List ℕ)) → KnowsNames before known
    → KnowsNames (part ∷ before) (known ++ names_of part)
names_known_after before part known knows name =
    list_any-append (bytes_eq name) (names_of part) (flat_map names_of before)
    ∙ ap (λ b. is_among name (names_of part) || b) (knows name)
    ∙ swapped (is_among name (names_of part)) (is_among name known)
    ∙ sym (list_any-append (bytes_eq name) known (names_of part))
