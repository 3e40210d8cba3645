-- The lines of a source, one after another.
use Rattle.listings.proofs.{Prelude.{◌≡◌, ℕ, suc, ◌+◌, ◌<◌, ◌≤◌, ◌==◌, Bool, true, false, cond, if◌then◌else◌, List, [], ◌∷◌, ◌++◌, Option, get_or, ◌-◌, drop, length, nil_from_length, take, refl, ap, sym, subst, ◌∙◌, arith, eqb-true, append-nil, append_assoc, drop_all, length-drop, length-take, Symbol, before_lines, lines_of, listed_from, numbered_line, parts_in, parts_text, first_length}, Adding.{split_first}}
use Rattle.listings.specs.Listing.{Part}

-- after the last byte nothing is left
pub none_left : (text : List ℕ) (n : ℕ) → length text ≤ n → [] ≡ drop (n + 1) text
none_left text n past = sym (drop_all (n + 1) text (omega (arith, past)))

-- what is not empty begins with its first line
abbrev size_by : Bool → (text : List ℕ) → ℕ
size_by t text = if t then 0 else suc (first_length text)

last_first : (t : Bool) (c : ℕ) → cond t ([] ∷ lines_of []) (before_lines c (lines_of []))
    ≡ take (size_by t []) (c ∷ []) ∷ lines_of (drop (size_by t [] + 1) (c ∷ []))
last_first true c = refl
last_first false c = refl

more_first : (t : Bool) (c d : ℕ) (text : List ℕ)
    → lines_of (d ∷ text) ≡ take (first_length (d ∷ text)) (d ∷ text)
    ∷ lines_of (drop (first_length (d ∷ text) + 1) (d ∷ text))
    → cond t ([] ∷ lines_of (d ∷ text)) (before_lines c (lines_of (d ∷ text)))
    ≡ take (size_by t (d ∷ text)) (c ∷ d ∷ text) ∷ lines_of (drop (size_by t (d ∷ text) + 1) (c ∷ d ∷ text))
more_first true c d text later = refl
more_first false c d text later =
    let size : ℕ = first_length (d ∷ text) in
    let after : suc (size + 1) ≡ suc size + 1 = omega arith in
    ap (before_lines c) later ∙ ap (λ (n : ℕ). (c ∷ take size (d ∷ text)) ∷ lines_of (drop n (c ∷ d ∷ text)))
    after

pub lines_first : (c : ℕ) (text : List ℕ)
    → lines_of (c ∷ text) ≡ take (first_length (c ∷ text)) (c ∷ text)
    ∷ lines_of (drop (first_length (c ∷ text) + 1) (c ∷ text))
lines_first c [] = last_first (c == 10) c
lines_first c (d ∷ text) = more_first (c == 10) c d text (lines_first d text)

-- how many bytes come before the first line feed
size_more : (t : Bool) (c : ℕ) (text : List ℕ) (count total : ℕ) → (c == 10) ≡ t → (c ≡ 10 → ⊥)
    → count + size_by t text ≡ total → count + 1 + first_length text ≡ total
size_more true c text count total e other so_far = absurd (other (eqb-true c 10 e))
size_more false c text count total e other so_far = omega (arith, so_far)

pub length_more : (text : List ℕ) (byte d count total : ℕ) → 1 ≤ length text → byte ≡ get_or text 0 d
    → (byte ≡ 10 → ⊥) → count + first_length text ≡ total
    → count + 1 + first_length (take (length text - 1) (drop 1 text)) ≡ total
length_more text byte d count total some is other so_far =
    size_more (byte == 10) byte (take (length text - 1) (drop 1 text)) count total refl other
    (subst (λ (left : List ℕ). count + first_length left ≡ total) (split_first text byte d some is) so_far)

pub within_more : (text : List ℕ) (count total : ℕ) → 1 ≤ length text → count + length text ≡ total
    → count + 1 + length (take (length text - 1) (drop 1 text)) ≡ total
within_more text count total some so_far =
    let less : length (take (length text - 1) (drop 1 text)) ≡ length text - 1 =
    omega (arith, length-take (length text - 1) (drop 1 text), length-drop 1 text) in
    omega (arith, less, some, so_far)

pub length_here : (text : List ℕ) (byte d count total : ℕ) → 1 ≤ length text → byte ≡ get_or text 0 d
    → byte ≡ 10 → count + first_length text ≡ total → count ≡ total
length_here text byte d count total some is feed so_far =
    let whole =
    subst (λ (left : List ℕ). count + first_length left ≡ total)
    (split_first text byte d some is) so_far in
    let none : count + size_by true (take (length text - 1) (drop 1 text)) ≡ total =
    subst (λ (n : ℕ). count + size_by (n == 10) (take (length text - 1) (drop 1 text)) ≡ total) feed whole in
    omega (arith, none)

pub length_done : (text : List ℕ) (count total : ℕ) → length text < 1
    → count + first_length text ≡ total → count ≡ total
length_done text count total none so_far =
    let left : first_length text ≡ 0 = ap first_length (nil_from_length text (omega (arith, none))) in
    omega (arith, left, so_far)

-- a line more
next_by : (name_at : ℕ → Option Symbol) (number c : ℕ) (text : List ℕ) (parts : List (ℕ × Part))
    (before numbered new all : List ℕ)
    → numbered ≡ before ++ numbered_line number (take (first_length (c ∷ text)) (c ∷ text))
    → new ≡ numbered ++ parts_text name_at (parts_in number parts)
    → before ++ listed_from number name_at (lines_of (c ∷ text)) parts ≡ all
    → new ++ listed_from (number + 1) name_at (lines_of (drop (first_length (c ∷ text) + 1) (c ∷ text))) parts
    ≡ all
next_by name_at number c text parts before numbered new all first second so_far =
    let line : List ℕ = numbered_line number (take (first_length (c ∷ text)) (c ∷ text)) in
    let below : List ℕ = parts_text name_at (parts_in number parts) in
    let later : List ℕ =
    listed_from (number + 1) name_at (lines_of (drop (first_length (c ∷ text) + 1) (c ∷ text))) parts in
    ap (λ (l : List ℕ). l ++ later) (second ∙ ap (λ (l : List ℕ). l ++ below) first)
    ∙ ap (λ (l : List ℕ). l ++ later) (append_assoc before line below)
    ∙ append_assoc before (line ++ below) later
    ∙ ap (λ (lines : List (List ℕ)). before ++ listed_from number name_at lines parts)
    (sym (lines_first c text))
    ∙ so_far

pub next_line : (name_at : ℕ → Option Symbol) (number next size : ℕ) (text line : List ℕ)
    (parts : List (ℕ × Part)) (before numbered new all : List ℕ) → 1 ≤ length text → next ≡ number + 1
    → size ≡ first_length text → line ≡ take size text → numbered ≡ before ++ numbered_line next line
    → new ≡ numbered ++ parts_text name_at (parts_in next parts)
    → before ++ listed_from (number + 1) name_at (lines_of text) parts ≡ all
    → new ++ listed_from (next + 1) name_at (lines_of (drop (size + 1) text)) parts ≡ all
next_line name_at number next size [] line parts before numbered new all some next_is size_is line_is first
    second so_far = absurd (omega (arith, some))
next_line name_at number next size (c ∷ text) line parts before numbered new all some next_is size_is line_is
    first second so_far =
    let whole : line ≡ take (first_length (c ∷ text)) (c ∷ text) =
    line_is ∙ ap (λ (n : ℕ). take n (c ∷ text)) size_is in
    ap (λ (n : ℕ). new ++ listed_from (next + 1) name_at (lines_of (drop (n + 1) (c ∷ text))) parts) size_is
    ∙ next_by name_at next c text parts before numbered new all
    (first ∙ ap (λ (l : List ℕ). before ++ numbered_line next l) whole) second
    (subst (λ (n : ℕ). before ++ listed_from n name_at (lines_of (c ∷ text)) parts ≡ all)
    (sym next_is) so_far)

pub next_count : (number next size total : ℕ) (text : List ℕ) → 1 ≤ length text → next ≡ number + 1
    → size ≡ first_length text → number + length (lines_of text) ≡ total
    → next + length (lines_of (drop (size + 1) text)) ≡ total
next_count number next size total [] some next_is size_is so_far = absurd (omega (arith, some))
next_count number next size total (c ∷ text) some next_is size_is so_far =
    let whole : length (lines_of (c ∷ text))
    ≡ suc (length (lines_of (drop (first_length (c ∷ text) + 1) (c ∷ text)))) =
    ap length (lines_first c text) in
    let same : length (lines_of (drop (size + 1) (c ∷ text)))
    ≡ length (lines_of (drop (first_length (c ∷ text) + 1) (c ∷ text))) =
    ap (λ (n : ℕ). length (lines_of (drop (n + 1) (c ∷ text)))) size_is in
    omega (arith, whole, same, next_is, so_far)

pub line_counted : (number next size total : ℕ) (text after : List ℕ) → 1 ≤ length text → next ≡ number + 1 → size ≡ first_length text → after ≡ drop (size + 1) text
    → number + length (lines_of text) ≡ total → next + length (lines_of after) ≡ total
line_counted number next size total text after some next_is size_is left so_far =
    ap (λ (l : List ℕ). next + length (lines_of l)) left ∙ next_count number next size total text some next_is size_is so_far

-- no line is left
pub lines_done : (name_at : ℕ → Option Symbol) (number : ℕ) (text : List ℕ) (parts : List (ℕ × Part))
    (now all : List ℕ) → length text < 1
    → now ++ listed_from number name_at (lines_of text) parts ≡ all → now ≡ all
lines_done name_at number text parts now all none so_far =
    sym (append-nil now)
    ∙ subst (λ (left : List ℕ). now ++ listed_from number name_at (lines_of left) parts ≡ all)
    (nil_from_length text (omega (arith, none))) so_far

pub count_done : (number total : ℕ) (text : List ℕ) → length text < 1
    → number + length (lines_of text) ≡ total → number ≡ total
count_done number total text none so_far =
    let left : length (lines_of text) ≡ 0 =
    ap (λ (l : List ℕ). length (lines_of l)) (nil_from_length text (omega (arith, none))) in
    omega (arith, left, so_far)
