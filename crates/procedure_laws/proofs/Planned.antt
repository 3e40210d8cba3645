-- Planned steps whose items are written, one by one.
use Rattle.procedure_laws.proofs.Prelude.{◌≡◌, List, [], ◌∷◌, ◌++◌, None, refl, ap, ◌∙◌, Instr, Item, WordForm, Place, Facts, after, after_word, with_facts, word_item, AreWritten, HoldsWritten, NoneWritten, PlainWritten, WordWritten, Planned, holds, plain, Here, AreCarriedOut, NoneCarriedOut, StepCarriedOut, carried_steps, here_after, site_of, waiting_after, BodyContext}
use Rattle.asm8080.specs.declared.item.Item.TheVariants as items
use Rattle.steps8080.specs.declared.step.Step.TheVariants as steps
use Rattle.statements8080.specs.internal.Plans.{word}

-- what is written after the first items, where this is known then
pub record IsBehind
    (at : BodyContext) (first : List Item) (known : Facts) (others : List Planned)
    (list : List Item) (last : Here) :
    Type 0 where
  pub more : List Item
  pub is : list ≡ first ++ more
  pub here : Here
  pub facts : here.facts ≡ known
  pub written : AreCarriedOut at.body at.context.called here None others more last

record IsStep (at : BodyContext) (first : List Item) (after : Facts) (list : List Item)
    (known : Facts) : Type 0 where
  items_are : list ≡ first
  facts_are : known ≡ after

plain_written :
    (at : BodyContext) {facts known : Facts} (i : Instr) {list : List Item}
    → AreWritten (site_of at.body) at.context.called facts (steps.Plain i ∷ []) list known
    → IsStep at (items.Plain i ∷ []) (after facts i) list known
plain_written at i (PlainWritten NoneWritten) = record { items_are = refl; facts_are = refl }

word_written :
    (at : BodyContext) {facts known : Facts} (form : WordForm) (place : Place) {list : List Item}
    → AreWritten (site_of at.body) at.context.called facts (steps.Word form place ∷ []) list known
    → IsStep at (word_item form place ∷ []) (after_word facts form place) list known
word_written at form place (WordWritten NoneWritten) = record { items_are = refl; facts_are = refl }

holds_written :
    (at : BodyContext) {facts known : Facts} (held : Facts) {list : List Item}
    → AreWritten (site_of at.body) at.context.called facts (steps.Holds held ∷ []) list known
    → IsStep at [] (with_facts facts held) list known
holds_written at held (HoldsWritten NoneWritten) = record { items_are = refl; facts_are = refl }

pub plain_behind :
    (at : BodyContext) {here last : Here} (i : Instr) (others : List Planned) {list : List Item}
    → AreCarriedOut at.body at.context.called here None (plain i ∷ others) list last
    → IsBehind at (items.Plain i ∷ []) (after here.facts i) others list last
unfolding carried_steps here_after waiting_after
plain_behind at {here = here} i others (StepCarriedOut {known = known} {more = more} holds written rest) =
    let step = plain_written at i written in
    record {
      more = more;
      is = ap (λ (one : List Item). one ++ more) step.items_are;
      here = record { facts = known; goes_on = here.goes_on };
      facts = step.facts_are;
      written = rest;
    }

pub word_behind :
    (at : BodyContext) {here last : Here} (form : WordForm) (place : Place)
    (others : List Planned) {list : List Item}
    → AreCarriedOut at.body at.context.called here None (word form place ∷ others) list last
    → IsBehind at (word_item form place ∷ []) (after_word here.facts form place) others list last
unfolding carried_steps here_after waiting_after
word_behind at {here = here} form place others
    (StepCarriedOut {known = known} {more = more} holds written rest) =
    let step = word_written at form place written in
    record {
      more = more;
      is = ap (λ (one : List Item). one ++ more) step.items_are;
      here = record { facts = known; goes_on = here.goes_on };
      facts = step.facts_are;
      written = rest;
    }

-- facts at the end
pub record EndsKnowing (held : Facts) (before : Facts) (list : List Item) (last : Here) : Type 0 where
  pub none : list ≡ []
  pub facts : last.facts ≡ with_facts before held

none_written : (at : BodyContext) {here last : Here} {list : List Item}
    → AreCarriedOut at.body at.context.called here None [] list last
    → (list ≡ []) × (last ≡ here)
none_written at NoneCarriedOut = (refl, refl)

pub holds_last :
    (at : BodyContext) {here last : Here} (held : Facts) {list : List Item}
    → AreCarriedOut at.body at.context.called here None (holds held ∷ []) list last
    → EndsKnowing held here.facts list last
unfolding carried_steps here_after waiting_after
holds_last at held (StepCarriedOut {first = first} {more = more} holds written rest) =
    let step = holds_written at held written in
    let end = none_written at rest in
    record {
      none = ap (λ (one : List Item). one ++ more) step.items_are ∙ end.0;
      facts = ap (λ (one : Here). one.facts) end.1 ∙ step.facts_are;
    }
