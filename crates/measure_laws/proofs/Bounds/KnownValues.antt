-- Known values take few bytes, whatever their weight.
use Rattle.measure_laws.proofs.Prelude.{◌≡◌, ℕ, ◌≤◌, ◌==◌, Bool, true, false, List, [], ◌∷◌, Option, Some, None, if◌then◌else◌, refl, ◌∙◌, arith, Item, LoadPair, size_of_items, Hl, A, clear_a, low, set, Dcx, Inx, ExpressionNumber, Static, Place, location_after, place_number, Facts, before, is_at, Site, known, number, expression, note_address_steps, byte_steps, known_byte_steps, AreWritten, IsWritten, PartPlanned, knowing, steps_of, task_steps, byte_number_steps, word_steps, Body, part, Here, AreCarriedOut, site_of}
use Rattle.steps8080.specs.declared.step.Step.TheVariants as steps
use Rattle.steps8080.specs.declared.step.Task.TheVariants as tasks
use Rattle.measure_laws.proofs.{Bounds.ExpressionParts.{task_small}, Bounds.Pieces.{steps_within}}

-- if an expression is known as a number, its value is that number
pub record IsKnown (site : Site) (value : ExpressionNumber) (number : ℕ) : Type 0 where
  pub place : Place
  pub known_is : known site value ≡ Some place
  pub number_is : place_number place ≡ Some number

pub number_known :
    (site : Site) (value : ExpressionNumber) (given : ℕ) → number site value ≡ Some given
    → IsKnown site value given
unfolding number
number_known site value given is = by (known site value) refl is
  where
    by :
        (found : Option Place) → known site value ≡ found
        → (elim found as (λ (one : Option Place). Option ℕ) [ Some place ↦ place_number place | None ↦ None ])
        ≡ Some given
        → IsKnown site value given
    by (Some place) known_is number_is = record { place = place; known_is = known_is; number_is = number_is }
    by None known_is number_is = let never : ⊥ = cc in absurd never

-- the code of the address of a place
address_if_within :
    {site : Site} {called : List Bool} {facts last : Facts} {list : List Item} (place : Place) (pushed : ℕ)
    (here earlier later : Bool)
    → AreWritten site called facts
    (if here then []
    else if earlier then steps.Plain (Inx Hl) ∷ note_address_steps (Static place)
    else if later then steps.Plain (Dcx Hl) ∷ note_address_steps (Static place)
    else steps.Word (LoadPair Hl) place ∷ note_address_steps (Static place)) list last
    → size_of_items list ≤ 3
address_if_within place pushed true earlier later written =
    let small = steps_within [] tt written in omega (arith, small)
address_if_within place pushed false true later written =
    let small =
    steps_within (steps.Plain (Inx Hl) ∷ note_address_steps (Static place)) (tt, (tt, tt)) written in
    omega (arith, small)
address_if_within place pushed false false true written =
    let small =
    steps_within (steps.Plain (Dcx Hl) ∷ note_address_steps (Static place)) (tt, (tt, tt)) written in
    omega (arith, small)
address_if_within place pushed false false false written =
    let small =
    steps_within (steps.Word (LoadPair Hl) place ∷ note_address_steps (Static place))
    (tt, (tt, tt)) written in
    omega (arith, small)

-- a known word
known_word_within :
    {site : Site} {called : List Bool} {facts last : Facts} {list : List Item} (at : Site)
    (value : ExpressionNumber)
    (place : Place) (pushed : ℕ)
    → known at value ≡ Some place
    → AreWritten site called facts (word_steps at value pushed) list last
    → size_of_items list ≤ 3
unfolding word_steps
known_word_within at value place pushed is written =
    address_if_within place pushed (is_at at.facts.address_in_hl (Static place))
    (is_at at.facts.address_in_hl (before (Static place)))
    (is_at at.facts.address_in_hl (location_after (Static place) 1))
    (rw (is, word_steps) at written)

-- a known low byte
number_within :
    {site : Site} {called : List Bool} {facts last : Facts} {list : List Item} (number : ℕ) (is_zero : Bool)
    → AreWritten site called facts
    (if is_zero then steps.Plain clear_a ∷ [] else steps.Plain (set A number) ∷ []) list last
    → size_of_items list ≤ 3
number_within number true written =
    let small = steps_within (steps.Plain clear_a ∷ []) (tt, tt) written in omega (arith, small)
number_within number false written =
    let small = steps_within (steps.Plain (set A number) ∷ []) (tt, tt) written in omega (arith, small)

known_byte_within :
    {site : Site} {called : List Bool} {facts last : Facts} {list : List Item} (at : Site)
    (value : ExpressionNumber)
    (place : Place) (number pushed : ℕ)
    → known at value ≡ Some place
    → place_number place ≡ Some number
    → AreWritten site called facts (byte_steps at value pushed) list last
    → size_of_items list ≤ 3
unfolding byte_steps known_byte_steps byte_number_steps
known_byte_within at value place number pushed is number_is written =
    number_within (low number) (low number == 0)
    (rw (number_is, known_byte_steps) at (rw (is, byte_steps) at written))

-- with other facts, a value is known by the same number
known_anywhere :
    (site : Site) (facts : Facts) (value : ExpressionNumber)
    → known (knowing site facts) value ≡ known site value
unfolding known expression
known_anywhere site facts value = refl

module _
    {body : Body} {called : List Bool} {here last : Here} {waiting : Option Facts} {list : List Item}
    (value : ExpressionNumber) (given pushed : ℕ) (is : number (site_of body) value ≡ Some given)
  where
    pub known_word_small : AreCarriedOut body called here waiting (part (tasks.Word value) pushed ∷ []) list
        last → size_of_items list ≤ 3
    unfolding task_steps steps_of
    known_word_small done =
        task_small (tasks.Word value) pushed 3 (λ facts known first written. by facts written) done
      where
        by :
            (facts : Facts) {known : Facts} {first : List Item}
            → IsWritten (site_of body) called facts
            (record { task = tasks.Word value; pushed = pushed }) first known
            → size_of_items first ≤ 3
        by facts (PartPlanned label written) =
            let there = number_known (site_of body) value given is in
            known_word_within (knowing (site_of body) facts) value there.place pushed
            (known_anywhere (site_of body) facts value ∙ there.known_is) written

    pub known_byte_small : AreCarriedOut body called here waiting (part (tasks.Byte value) pushed ∷ []) list
        last → size_of_items list ≤ 3
    unfolding task_steps steps_of
    known_byte_small done =
        task_small (tasks.Byte value) pushed 3 (λ facts known first written. by facts written) done
      where
        by :
            (facts : Facts) {known : Facts} {first : List Item}
            → IsWritten (site_of body) called facts
            (record { task = tasks.Byte value; pushed = pushed }) first known
            → size_of_items first ≤ 3
        by facts (PartPlanned label written) =
            let there = number_known (site_of body) value given is in
            known_byte_within (knowing (site_of body) facts) value there.place given pushed
            (known_anywhere (site_of body) facts value ∙ there.known_is) there.number_is written
