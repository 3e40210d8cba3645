-- What is read as a list of elements or as the head of a procedure is spelled so, and what is spelled so is
-- read.
use Rattle.syntax.proofs.Prelude.{◌≡◌, inl, inr, false, List, [], ◌∷◌, drop, length, Option, Some, None, Ok, refl, sym, ◌∙◌, ap, arith, AllByRecursion, Linkage, Public, External, ScalarType, Byte, Address, Identifier, Place, IsNotEmpty, IsElement, optional, between_commas, scalar_symbols, linkage_symbols, names_symbols, element_symbols, parameters_symbols, reentrant_symbols, heading_symbols, Symbol, NameSymbol, ReservedSymbol, MarkSymbol, SemicolonSymbol, ElementTree, HeadingTree, next_scalar, result_type, next_linkage, linkage, element, parameters, reentrant_of, reentrant, heading, Keeps, Shrinks, items, at_mark, place_of_word, mark, word, name}
use Rattle.words.specs.declared.vocabulary.Mark.TheVariants as marks
use Rattle.words.specs.declared.vocabulary.ReservedWord.TheVariants as words
use Rattle.syntax.proofs.ListLaws.{items-sound}
use Rattle.syntax.proofs.ReaderLemmas.{if_false, if_cases, bind_ok, bind_at, place_of_word-is, mark-ok, word-ok, name-ok}
use Rattle.syntax.proofs.DeclarationItems.{list-reads, optional-lengthens, between_commas-lengthens, scalar-lengthens, names-sound, names-reads, linkage-spelled, linkage-reads, EndsItem, element-sound, element-reads, names-lengthens, linkage-lengthens, element-lengthens, element-keeps}
use Rattle.syntax.proofs.DeclarationParts.{Spelled, respelled, Lengthens, result_type-spelled, result_type-reads}

-- the elements that DECLARE declares are spelled so
pub elements-sound : (s r : List Symbol) (es : List ElementTree) → items element s ≡ Ok (es, r)
    → (s ≡ between_commas element_symbols es r) × IsNotEmpty es × AllByRecursion IsElement es
elements-sound s r es e = items-sound element element_symbols IsElement element-sound s r es e

pub elements-reads : (es : List ElementTree) (p : Place) (r : List Symbol)
    → IsNotEmpty es
    → AllByRecursion IsElement es
    → items element (between_commas element_symbols es (SemicolonSymbol p ∷ r))
    ≡ Ok (es, SemicolonSymbol p ∷ r)
elements-reads es p r some all =
    list-reads element element_symbols IsElement EndsItem element-keeps element-reads
    (λ rest. (refl, refl, refl))
    es (SemicolonSymbol p ∷ r) some all (refl, refl, refl) refl

pub elements-keeps : Keeps (items element)
elements-keeps s r es e =
    omega (
      arith,
      ap length (elements-sound s r es e).0,
      between_commas-lengthens element_symbols element-lengthens es r,
    )

parameters-some : (ps : List Identifier) (r : List Symbol)
    → IsNotEmpty ps
    → parameters_symbols ps r ≡ names_symbols ps r
parameters-some [] r some = absurd some
parameters-some (p ∷ ps) r some = refl

pub parameters-spelled : Spelled parameters parameters_symbols
parameters-spelled s r ps e = elim (if_cases (at_mark marks.LeftParenthesis s) _ _ _ e) [
  | inl h ↦
      let found = names-sound s r ps h.1 in
      found.0 ∙ sym (parameters-some ps r found.1)
  | inr h ↦ respelled parameters_symbols s [] ps s r h.1 refl
]

pub parameters-reads : (ps : List Identifier) (r : List Symbol)
    → at_mark marks.LeftParenthesis r ≡ false
    → parameters (parameters_symbols ps r) ≡ Ok (ps, r)
parameters-reads [] r ends = if_false (at_mark marks.LeftParenthesis r) _ _ ends
parameters-reads (p ∷ ps) r ends = names-reads (p ∷ ps) r tt

reentrant_of-spelled : (found : Option Place) (s : List Symbol)
    → place_of_word words.Reentrant s ≡ found
    → (r : List Symbol) (p : Option Place)
    → reentrant_of found s ≡ Ok (p, r)
    → s ≡ optional reentrant_symbols p r
reentrant_of-spelled None s is r p e = respelled (optional reentrant_symbols) s None p s r e refl
reentrant_of-spelled (Some q) s is r p e =
    respelled (optional reentrant_symbols) s (Some q) p (drop 1 s) r e
    (place_of_word-is words.Reentrant s q is)

pub reentrant-spelled : Spelled reentrant (optional reentrant_symbols)
reentrant-spelled s r p e = reentrant_of-spelled (place_of_word words.Reentrant s) s refl r p e

pub reentrant-reads : (p : Option Place) (r : List Symbol)
    → place_of_word words.Reentrant r ≡ None
    → reentrant (optional reentrant_symbols p r) ≡ Ok (p, r)
reentrant-reads None r ends = ap (λ g. reentrant_of g r) ends
reentrant-reads (Some p) r ends = refl

-- the symbols of the head of a procedure, from those of its parts
heading-parts : (h : HeadingTree) (s colon procedure later type link again r : List Symbol)
    → s ≡ NameSymbol h.name ∷ colon
    → colon ≡ MarkSymbol marks.Colon ∷ procedure
    → procedure ≡ ReservedSymbol words.Procedure ∷ later
    → later ≡ parameters_symbols h.parameters type
    → type ≡ optional scalar_symbols h.result link
    → link ≡ optional linkage_symbols h.linkage again
    → again ≡ optional reentrant_symbols h.reentrant r → s ≡ heading_symbols h r
heading-parts h s colon procedure later type link again r first second third fourth fifth sixth seventh =
    first
    ∙ ap (λ k. NameSymbol h.name ∷ k) (second
    ∙ ap (λ k. MarkSymbol marks.Colon ∷ k) (third
    ∙ ap (λ k. ReservedSymbol words.Procedure ∷ k) (fourth
    ∙ ap (parameters_symbols h.parameters) (fifth
    ∙ ap (optional scalar_symbols h.result) (sixth
    ∙ ap (optional linkage_symbols h.linkage) seventh)))))

-- the head of a procedure is spelled so
pub heading-sound : (s r : List Symbol) (h : HeadingTree) → heading s ≡ Ok (h, r) → s ≡ heading_symbols h r
unfolding heading
heading-sound s r h e =
    let a = bind_ok (name s) _ _ e in
    let b = bind_ok (mark marks.Colon a.0.1) _ _ a.2 in
    let c = bind_ok (word words.Procedure b.0) _ _ b.2 in
    let d = bind_ok (parameters c.0) _ _ c.2 in
    let f = bind_ok (result_type d.0.1) _ _ d.2 in
    let g = bind_ok (linkage f.0.1) _ _ f.2 in
    let i = bind_ok (reentrant g.0.1) _ _ g.2 in
    let own : HeadingTree =
    record { name = a.0.0; parameters = d.0.0; result = f.0.0; linkage = g.0.0; reentrant = i.0.0 } in
    respelled heading_symbols s own h i.0.1 r i.2
    (heading-parts own s a.0.1 b.0 c.0 d.0.1 f.0.1 g.0.1 i.0.1 (name-ok s a.0.1 a.0.0 a.1)
    (mark-ok marks.Colon a.0.1 b.0 b.1)
    (word-ok words.Procedure b.0 c.0 c.1) (parameters-spelled c.0 d.0.1 d.0.0 d.1)
    (result_type-spelled d.0.1 f.0.1 f.0.0 f.1)
    (linkage-spelled f.0.1 g.0.1 g.0.0 g.1) (reentrant-spelled g.0.1 i.0.1 i.0.0 i.1))

-- what may stand after the parameters, the result and the linkage of a procedure
after_parameters : (t : Option ScalarType) (l : Option Linkage) (p : Option Place) (q : Place)
    (r : List Symbol)
    → at_mark marks.LeftParenthesis
    (optional scalar_symbols t
    (optional linkage_symbols l (optional reentrant_symbols p (SemicolonSymbol q ∷ r)))) ≡ false
after_parameters (Some Byte) l p q r = refl
after_parameters (Some Address) l p q r = refl
after_parameters None (Some (Public at)) p q r = refl
after_parameters None (Some (External at)) p q r = refl
after_parameters None None (Some at) q r = refl
after_parameters None None None q r = refl

after_result : (l : Option Linkage) (p : Option Place) (q : Place) (r : List Symbol)
    → next_scalar (optional linkage_symbols l (optional reentrant_symbols p (SemicolonSymbol q ∷ r))) ≡ None
after_result (Some (Public at)) p q r = refl
after_result (Some (External at)) p q r = refl
after_result None (Some at) q r = refl
after_result None None q r = refl

after_linkage : (p : Option Place) (q : Place) (r : List Symbol)
    → next_linkage (optional reentrant_symbols p (SemicolonSymbol q ∷ r)) ≡ None
after_linkage (Some at) q r = refl
after_linkage None q r = refl

pub heading-reads : (h : HeadingTree) (q : Place) (r : List Symbol)
    → heading (heading_symbols h (SemicolonSymbol q ∷ r)) ≡ Ok (h, SemicolonSymbol q ∷ r)
unfolding heading
heading-reads h q r =
    let end : List Symbol = SemicolonSymbol q ∷ r in
    let again : List Symbol = optional reentrant_symbols h.reentrant end in
    let link : List Symbol = optional linkage_symbols h.linkage again in
    let type : List Symbol = optional scalar_symbols h.result link in
    bind_at (parameters (parameters_symbols h.parameters type)) _ _
    (parameters-reads h.parameters type (after_parameters h.result h.linkage h.reentrant q r))
    ∙ bind_at (result_type type) _ _
    (result_type-reads h.result link (after_result h.linkage h.reentrant q r))
    ∙ bind_at (linkage link) _ _ (linkage-reads h.linkage again (after_linkage h.reentrant q r))
    ∙ bind_at (reentrant again) _ _ (reentrant-reads h.reentrant end refl)

parameters-lengthens : Lengthens parameters_symbols
parameters-lengthens [] r = omega arith
parameters-lengthens (p ∷ ps) r = names-lengthens (p ∷ ps) r

reentrant-lengthens : Lengthens reentrant_symbols
reentrant-lengthens p r = omega arith

pub heading-shrinks : Shrinks heading
heading-shrinks s r h e =
    let again : List Symbol = optional reentrant_symbols h.reentrant r in
    let link : List Symbol = optional linkage_symbols h.linkage again in
    let type : List Symbol = optional scalar_symbols h.result link in
    omega (
      arith,
      ap length (heading-sound s r h e),
      parameters-lengthens h.parameters type,
      optional-lengthens scalar_symbols scalar-lengthens h.result link,
      optional-lengthens linkage_symbols linkage-lengthens h.linkage again,
      optional-lengthens reentrant_symbols reentrant-lengthens h.reentrant r,
    )
