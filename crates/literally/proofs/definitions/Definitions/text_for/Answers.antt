use Rattle.literally.proofs.Prelude.{◌≡◌, Some, refl, reverse, sym, subst, ap, ◌∙◌, option_copied, name_of, lexeme_of, lexemes_of, text_in, words_for, Agree, StandsFor}
use Rattle.literally.proofs.DefinitionsHeld.{stands}
use Rattle.literally.proofs.definitions.Definitions.text_for.Goals as goal

pub returns-in-Some : goal.returns-in-Some
returns-in-Some c output held =
    let word = lexeme_of c.args.word.now in
    let name = name_of word.text in
    let there : words_for c.args.self.now.texts name ≡ Some c.in-Some.text.now =
    sym c.get.ensures.value ∙ ap option_copied c.in-Some.is in
    let agree : Agree (text_in name (reverse output)) (Some c.in-Some.text.now) =
    subst (Agree (text_in name (reverse output))) there (held name) in
    subst (λ words. StandsFor output word (lexemes_of words)) (sym c.as_slice.ensures.value)
    (stands output word c.in-Some.text.now c.in-Name.is (text_in name (reverse output)) refl agree)
