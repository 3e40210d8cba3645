-- How many lines a text has that was made of another, and from which they come.
use Rattle.std.proofs.Common.{◌≡◌, ◌≤◌, ◌<◌, ◌+◌, ◌-◌, ◌∙◌, ◌==◌, ◌&&◌, ℕ, zero, suc, min, Bool, true, false, if◌then◌else◌, List, [], ◌∷◌, ◌++◌, length, take, drop, refl, sym, ap, arith, Result, Ok, Err, IfOk, length-take, length-append, take-append-drop}
use Rattle.words.specs.Characters.{is_word_byte}
use Rattle.convert.specs.declared.includes.Entry.{Entry}
use Rattle.convert.specs.Assembly.{Parts}
use Rattle.convert.specs.Edits.{Change, apart, gap, joined, last_after, pieces, spliced}
use Rattle.convert.specs.Origins.{AreLinesOf, ends_a_line, line_at, line_count, line_feeds, line_table, lines_after, lines_for, lines_from, lines_in}
use Rattle.convert.specs.Texts.{between}
use Rattle.convert.proofs.LinesOfPlaces.{feeds_append}
unfoldable use Rattle.convert.specs.Origins.{HasOneRowEachOf}

-- a piece has a line after each of its line feeds
one_if : (is : Bool) (line n : ℕ) (more less : List ℕ) → length more ≡ n → length less ≡ n
    → length (if is then line ∷ more else less) ≡ (if is then 1 + n else n)
one_if true line n more less more_are less_are = omega (arith, more_are)
one_if false line n more less more_are less_are = less_are

in_count : (line last : ℕ) (piece : List ℕ) → length (lines_in line last piece) ≡ line_feeds piece
in_count line last [] = refl
in_count line last (c ∷ piece) =
    one_if (c == 10) (min (line + 1) last) (line_feeds piece) (lines_in (min (line + 1) last) last piece)
    (lines_in line last piece) (in_count (min (line + 1) last) last piece)
    (in_count line last piece)

-- no line feed comes between pieces
blank_feeds : (is : Bool) → line_feeds (if is then 32 ∷ [] else []) ≡ 0
blank_feeds true = refl
blank_feeds false = refl

apart_feeds : (last : ℕ) (piece : List ℕ) → line_feeds (apart last piece) ≡ line_feeds piece
apart_feeds last [] = refl
apart_feeds last (c ∷ piece) =
    omega (arith, feeds_append (gap last c) (c ∷ piece), blank_feeds (is_word_byte last && is_word_byte c))

abbrev all_feeds : List (List ℕ) → ℕ
all_feeds [] = 0
all_feeds (piece ∷ more) = line_feeds piece + all_feeds more

both_sums : (a b x y whole : ℕ) → whole ≡ a + b → a ≡ x → b ≡ y → whole ≡ x + y
both_sums a b x y whole whole_is a_is b_is = omega (arith, whole_is, a_is, b_is)

nothing_more : (n : ℕ) → n ≡ n + 0
nothing_more n = omega arith

joined_feeds : (last : ℕ) (all : List (List ℕ)) → line_feeds (joined last all) ≡ all_feeds all
joined_feeds last [] = refl
joined_feeds last (piece ∷ more) =
    let rest : List ℕ = joined (last_after last piece) more in
    both_sums (line_feeds (apart last piece)) (line_feeds rest) (line_feeds piece) (all_feeds more)
    (line_feeds (apart last piece ++ rest)) (feeds_append (apart last piece) rest)
    (apart_feeds last piece) (joined_feeds (last_after last piece) more)

after_count : (place : ℕ) (source : List ℕ) (changes : List Change)
    → length (lines_after place source changes) ≡ all_feeds (pieces place source changes)
after_count place source [] =
    in_count (line_at source place) (line_at source (length source)) (between source place (length source))
    ∙ nothing_more (line_feeds (between source place (length source)))
after_count place source (change ∷ changes) =
    let stays : List ℕ = between source place change.from in
    let kept : List ℕ = lines_for source place change.from stays in
    let put : List ℕ = lines_for source change.from change.to change.text in
    let more : List ℕ = lines_after change.to source changes in
    let others : List (List ℕ) = pieces change.to source changes in
    both_sums (length kept) (length (put ++ more)) (line_feeds stays)
    (line_feeds change.text + all_feeds others) (length (kept ++ (put ++ more)))
    (length-append kept (put ++ more))
    (in_count (line_at source place) (line_at source change.from) stays)
    (both_sums (length put) (length more) (line_feeds change.text) (all_feeds others) (length (put ++ more))
    (length-append put more)
    (in_count (line_at source change.from) (line_at source change.to) change.text)
    (after_count change.to source changes))

one_before : (n m : ℕ) → n ≡ m → suc n ≡ 1 + m
one_before n m is = omega (arith, is)

counted_count : (is : Bool) (n : ℕ) (lines : List ℕ) → length lines ≡ 1 + n
    → length (if is then take (length lines - 1) lines else lines) ≡ (if is then n else 1 + n)
counted_count true n lines are = omega (arith, are, length-take (length lines - 1) lines)
counted_count false n lines are = are

from_count : (source text : List ℕ) (changes : List Change) → text ≡ spliced source changes
    → length (lines_from source changes text) ≡ line_count text
from_count source text changes is =
    counted_count (ends_a_line text) (line_feeds text) (1 ∷ lines_after 0 source changes)
    (one_before (length (lines_after 0 source changes)) (line_feeds text)
    (after_count 0 source changes ∙ sym (joined_feeds 32 (pieces 0 source changes)) ∙ sym (ap line_feeds is)))

-- each place is on a line of its text
at_least_one : (source : List ℕ) (place : ℕ) → 0 < line_at source place
at_least_one source place = omega arith

at_most_all : (source : List ℕ) (place : ℕ) → line_at source place ≤ 1 + line_feeds source
at_most_all source place =
    omega (arith, feeds_append (take place source) (drop place source), ap line_feeds (take-append-drop place source))

-- so are the lines that come after a piece
are_if : (source : List ℕ) (is : Bool) (line : ℕ) (more less : List ℕ) → 0 < line
    → line ≤ 1 + line_feeds source → AreLinesOf source more → AreLinesOf source less
    → AreLinesOf source (if is then line ∷ more else less)
are_if source true line more less some few more_are less_are = (some, few, more_are)
are_if source false line more less some few more_are less_are = less_are

next_some : (line last : ℕ) → 0 < last → 0 < min (line + 1) last
next_some line last some = omega (arith, some)

next_few : (line last most : ℕ) → last ≤ most → min (line + 1) last ≤ most
next_few line last most few = omega (arith, few)

are_in : (source : List ℕ) (line last : ℕ) (piece : List ℕ) → 0 < last → last ≤ 1 + line_feeds source
    → AreLinesOf source (lines_in line last piece)
are_in source line last [] some few = tt
are_in source line last (c ∷ piece) some few =
    are_if source (c == 10) (min (line + 1) last) (lines_in (min (line + 1) last) last piece)
    (lines_in line last piece) (next_some line last some)
    (next_few line last (1 + line_feeds source) few) (are_in source (min (line + 1) last) last piece some few)
    (are_in source line last piece some few)

are_both : (source first second : List ℕ) → AreLinesOf source first → AreLinesOf source second
    → AreLinesOf source (first ++ second)
are_both source [] second first_are second_are = second_are
are_both source (line ∷ first) second (some, few, more) second_are =
    (some, few, are_both source first second more second_are)

are_for : (source : List ℕ) (from to : ℕ) (piece : List ℕ)
    → AreLinesOf source (lines_for source from to piece)
are_for source from to piece =
    are_in source (line_at source from) (line_at source to) piece (at_least_one source to)
    (at_most_all source to)

are_after : (place : ℕ) (source : List ℕ) (changes : List Change)
    → AreLinesOf source (lines_after place source changes)
are_after place source [] = are_for source place (length source) (between source place (length source))
are_after place source (change ∷ changes) =
    are_both source (lines_for source place change.from (between source place change.from))
    (lines_for source change.from change.to change.text ++ lines_after change.to source changes)
    (are_for source place change.from (between source place change.from))
    (are_both source (lines_for source change.from change.to change.text)
    (lines_after change.to source changes) (are_for source change.from change.to change.text)
    (are_after change.to source changes))

are_taken : (source : List ℕ) (n : ℕ) (lines : List ℕ) → AreLinesOf source lines
    → AreLinesOf source (take n lines)
are_taken source zero lines are = tt
are_taken source (suc n) [] are = tt
are_taken source (suc n) (line ∷ lines) (some, few, more) = (some, few, are_taken source n lines more)

are_counted : (source : List ℕ) (is : Bool) (lines : List ℕ) → AreLinesOf source lines
    → AreLinesOf source (if is then take (length lines - 1) lines else lines)
are_counted source true lines are = are_taken source (length lines - 1) lines are
are_counted source false lines are = are

are_from : (source text : List ℕ) (changes : List Change) → AreLinesOf source (lines_from source changes text)
are_from source text changes =
    are_counted source (ends_a_line text) (1 ∷ lines_after 0 source changes)
    (omega arith, omega arith, are_after 0 source changes)

has_rows : (name : List ℕ) (entries : List Entry) (parts : Parts) (changes : List Change)
    (text table : List ℕ) → table ≡ line_table name entries parts changes text
    → HasOneRowEachOf name entries parts changes text table
unfolding HasOneRowEachOf
has_rows name entries parts changes text table table_is made = record {
  lines = lines_from parts.text changes text;
  table_is = table_is;
  one_each = from_count parts.text text changes made;
  of_source = are_from parts.text text changes;
}

-- the table of lines has one row for each, if there is memory for it
pub one_row_each : {A E : Type 0} (items : A → List ℕ) (name : List ℕ) (entries : List Entry) (parts : Parts)
    (changes : List Change) (text : List ℕ) (result : Result A E)
    → IfOk result (λ table. items table ≡ line_table name entries parts changes text)
    → IfOk result (λ table. HasOneRowEachOf name entries parts changes text (items table))
one_row_each items name entries parts changes text (Ok table) is =
    has_rows name entries parts changes text (items table) is
one_row_each items name entries parts changes text (Err failure) none = none
