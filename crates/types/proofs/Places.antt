-- Where statements begin.
use Rattle.types.proofs.Prelude.{◌≡◌, List, [], ◌∷◌, refl, arith, Reference, Reference', out-Reference, None', Some', the_lemmas, ReferenceTree, ReferenceTo, reference_tree, place_of_targets}

pub place_of_parts : (reference : Reference)
    → place_of_targets (reference_tree reference ∷ []) ≡ (out-Reference reference).name.place
place_of_parts (Reference' name shape arguments None') = grind (arith, the_lemmas)
place_of_parts (Reference' name shape arguments (Some' p member count rows)) = grind (arith, the_lemmas)

pub place_of_first : (first : ReferenceTree) (others : List ReferenceTree)
    → place_of_targets (first ∷ others) ≡ place_of_targets (first ∷ [])
place_of_first (ReferenceTo name subscripts part) others = refl
