-- The contents of a segment, added piece by piece.
use Rattle.treecode.proofs.Prelude.{◌≡◌, ℕ, List, [], ◌∷◌, ◌++◌, refl, ap, ◌∙◌, with_gap}
use Rattle.treecode.specs.declared.module.Content.{Content}
use Rattle.treecode.specs.declared.module.Content.TheVariants as contents

gap_after : (first second : Content) (others : List Content) (count : ℕ)
    → with_gap (first ∷ second ∷ others) count ≡ first ∷ with_gap (second ∷ others) count
gap_after (contents.Byte byte) second others count = refl
gap_after (contents.Word place) second others count = refl
gap_after (contents.Gap before) second others count = refl

-- unset bytes, after contents with a known last piece
pub gap_added : (front : List Content) (last : Content) (count : ℕ)
    → with_gap (front ++ last ∷ []) count ≡ front ++ with_gap (last ∷ []) count
gap_added [] last count = refl
gap_added (first ∷ []) last count = gap_after first last [] count
gap_added (first ∷ second ∷ front) last count =
    gap_after first second (front ++ last ∷ []) count
    ∙ ap (λ more. first ∷ more) (gap_added (second ∷ front) last count)
