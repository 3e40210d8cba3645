-- The marks of code with their lines, one by one.
use Rattle.tool.proofs.Prelude.{◌≡◌, ℕ, ◌+◌, ◌<◌, ◌≤◌, List, [], ◌∷◌, ◌++◌, length, drop, get_or, map, refl, sym, ap, ◌∙◌, add-one, append-nil, append_assoc, drop_of_length-le, drop-cons}
use Rattle.codegen8080.specs.declared.marking.Mark.{Mark}
use Rattle.codegen8080.proofs.NewNames.{map_more}
use Rattle.tool.specs.Marks.{mark_of}
use Rattle.tool.specs.declared.marking.SourceMark.{SourceMark}

pub lined_next : (lined next : List SourceMark) (marks : List Mark) (index after : ℕ) (d : Mark) (one : SourceMark)
    → next ≡ lined ++ one ∷ [] → index < length marks → mark_of one ≡ get_or marks index d
    → after ≡ index + 1
    → map mark_of lined ++ drop index marks ≡ marks
    → map mark_of next ++ drop after marks ≡ marks
lined_next lined next marks index after d one is below same counted so_far =
    let rest : List Mark = drop after marks in
    let split : drop index marks ≡ get_or marks index d ∷ drop after marks =
    drop-cons marks index d below
    ∙ ap (λ n. get_or marks index d ∷ drop n marks) (sym (add-one index) ∙ sym counted) in
    ap (λ list. map mark_of list ++ rest) is
    ∙ ap (λ list. list ++ rest) (map_more mark_of lined one)
    ∙ append_assoc (map mark_of lined) (mark_of one ∷ []) rest
    ∙ ap (λ mark. map mark_of lined ++ mark ∷ rest) same
    ∙ ap (λ list. map mark_of lined ++ list) (sym split)
    ∙ so_far

pub all_lined : (lined : List SourceMark) (marks : List Mark) (index : ℕ)
    → map mark_of lined ++ drop index marks ≡ marks
    → length marks ≤ index
    → map mark_of lined ≡ marks
all_lined lined marks index so_far past =
    sym (append-nil (map mark_of lined))
    ∙ ap (λ list. map mark_of lined ++ list) (sym (drop_of_length-le marks past))
    ∙ so_far
