-- How the loop over the targets of an assignment goes on.
use Rattle.syntax.proofs.Prelude.{◌≡◌, ℕ, ◌<◌, true, false, List, [], ◌∷◌, ◌++◌, drop, length, map, Option, Some, None, Ok, Err, refl, sym, ◌∙◌, ap, arith, map-append, Comma, Reference, Symbol, ReferenceTree, reference_tree, expression, reference, FailsBy, all_more_items, after_items, Cause, Reading, at_mark}
use Rattle.syntax.proofs.ExpressionLaws.{reference-shrinks}
use Rattle.syntax.proofs.ListLoops.{more-step, more-fails, more-ends}
use Rattle.syntax.proofs.ExpressionSound.{reference-keeps}

-- a target
pub targets-more : (room : ℕ) (made : List Reference) (x : Reference) (s r : List Symbol)
    → at_mark Comma s ≡ true
    → reference (expression room) (drop 1 s) ≡ Ok (reference_tree x, r)
    → after_items (map reference_tree made) (all_more_items (reference (expression room)) s) ≡ after_items
    (map reference_tree (made ++ x ∷ [])) (all_more_items (reference (expression room)) r)
targets-more room made x s r comma e =
    more-step (reference (expression room)) (reference-keeps room) (map reference_tree made)
    (reference_tree x) s r comma e
    ∙ ap (λ before. after_items before (all_more_items (reference (expression room)) r))
    (sym (map-append reference_tree made (x ∷ [])))

-- what fails where a target must be, fails as a whole
pub targets-fails : (cause : Option Cause) (room : ℕ) (made : List Reference) (start s t : List Symbol)
    → all_more_items (reference (expression room)) start ≡ after_items (map reference_tree made)
    (all_more_items (reference (expression room)) s)
    → true ≡ at_mark Comma s
    → t ≡ drop 1 s
    → FailsBy cause (reference (expression room) t)
    → FailsBy cause (all_more_items (reference (expression room)) start)
targets-fails None room made start s t so_far comma dropped fails = tt
targets-fails (Some cause) room made start s t so_far comma dropped fails =
    so_far ∙ more-fails (reference (expression room)) (reference-keeps room) (map reference_tree made) s
    cause (sym comma) (ap (reference (expression room)) (sym dropped) ∙ fails)

-- no comma
pub targets-end : (room : ℕ) (made : List Reference) (s : List Symbol) → at_mark Comma s ≡ false
    → after_items (map reference_tree made) (all_more_items (reference (expression room)) s) ≡ Ok
    (map reference_tree made, s)
targets-end room made s stops =
    more-ends (reference (expression room)) (reference-keeps room) (map reference_tree made) s stops

pub target-smaller : (room : ℕ) (s r : List Symbol) (t : ReferenceTree)
    → at_mark Comma s ≡ true
    → reference (expression room) (drop 1 s) ≡ Ok (t, r)
    → length r < length s
target-smaller room [] r t comma e = absurd cc
target-smaller room (x ∷ s) r t comma e =
    let smaller : length r < length s = reference-shrinks room s r t e in omega arith

-- The end of `StatementTargets`.
