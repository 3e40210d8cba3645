-- Items of a group, each that assigns in parentheses of its own.
use Rattle.std.specs.Prelude.{ℕ, ◌+◌, Bool, true, false, ◌==◌, ◌&&◌, if◌then◌else◌}
use Rattle.std.specs.Prelude.{List, [], ◌∷◌, ◌++◌, length, take}
use Rattle.convert.specs.declared.class.Seen.{Seen}
use Rattle.convert.specs.Groups.{depth_after, has_outside, is_assign, is_comma, item_length}
use Rattle.convert.specs.Lists.{end_of_word}
use Rattle.convert.specs.Texts.{between}

-- whether the item at the front assigns
abbrev pub assigns : List Seen → Bool
assigns words = has_outside is_assign 0 (take (item_length words) words)

-- a parenthesis, where there is to be one
abbrev pub left : Bool → List ℕ
left marked = if marked then 40 ∷ [] else []

abbrev pub right : Bool → List ℕ
right marked = if marked then 41 ∷ [] else []

-- The words of a group. The item that is begun has come from a place to an end; it is in this many parentheses there.
-- `fresh` says that none of its words was there yet, and `marked` that it assigns.
abbrev pub wrapped_text : List ℕ → Bool → Bool → ℕ → ℕ → ℕ → List Seen → List ℕ
wrapped_text source fresh marked place end depth [] = between source place end ++ right marked
wrapped_text source fresh marked place end depth (seen ∷ words) =
    if (depth == 0) && is_comma seen.class then
    between source place end ++ (right marked ++ (44 ∷
    wrapped_text source true false (seen.word.start + 1) (seen.word.start + 1) 0 words))
    else (if fresh then
    between source place seen.word.start ++ (left (assigns (seen ∷ words)) ++
    wrapped_text source false (assigns (seen ∷ words)) seen.word.start (end_of_word seen)
    (depth_after depth seen.class) words)
    else wrapped_text source false marked place (end_of_word seen) (depth_after depth seen.class) words)
