use Rattle.literally.proofs.Prelude.{◌≡◌, false, true, ◌∷◌, reverse, sym, ◌∙◌, ap, subst, name_of, lexeme_of, lexemes_of, Spells, IsFirstFault, has_quote, text_of, Text, FaultFrom, quote_in_text, bad_text, at_string}
use Rattle.literally.proofs.Failures.{of_fault}
use Rattle.literally.proofs.DefinitionsHeld.{definition_is, held_then, sound_by}
use Rattle.literally.proofs.definitions.Definitions.define.Goals as goal

pub returns-then-has_quote-clause-fault : goal.returns-then-has_quote-clause-fault
returns-then-has_quote-clause-fault c processed words =
    let word = lexeme_of c.args.word in
    let output = lexemes_of c.args.output.now in
    let is = definition_is (λ n. name_of n.text.now) c.in-Some.name word (reverse output) c.in-Some.ensures in
    let holds : has_quote (text_of word) ≡ true =
    ap has_quote (sym c.text_of-text.ensures) ∙ sym c.if-has_quote.ensures in
    quote_in_text is holds

pub returns-in_ok-insert-in-Ok : goal.returns-in_ok-insert-in-Ok
returns-in_ok-insert-in-Ok c =
    let word = lexeme_of c.args.word in
    let output = lexemes_of c.args.output.now in
    let is = definition_is (λ n. name_of n.text.now) c.in-Some.name word (reverse output) c.in-Some.ensures in
    let free : has_quote (text_of word) ≡ false =
    ap has_quote (sym c.text_of-text.ensures) ∙ sym c.if-has_quote.ensures in
    let spelled : Spells (text_of word) (lexemes_of c.in-Ok.words.items) =
    subst (λ t. Spells t (lexemes_of c.in-Ok.words.items)) c.text_of-text.ensures
    c.in-Ok.ensures.spells in
    record {
      sound = sound_by output word (name_of c.in-Some.name.text.now)
          (lexemes_of c.in-Ok.words.items) is (free, spelled);
      held = held_then output word (name_of c.in-Some.name.text.now) c.in-Ok.words c.args.self.now.texts
          c.insert.new.self.texts is (free, spelled) c.in_ok-insert-in-Ok.ensures c.requires;
      fault = tt;
    }

pub returns-in-Err-Fault-clause-fault : goal.returns-in-Err-Fault-clause-fault
returns-in-Err-Fault-clause-fault c processed words =
    let word = lexeme_of c.args.word in
    let output = lexemes_of c.args.output.now in
    let is = definition_is (λ n. name_of n.text.now) c.in-Some.name word (reverse output) c.in-Some.ensures in
    let free : has_quote (text_of word) ≡ false =
    ap has_quote (sym c.text_of-text.ensures) ∙ sym c.if-has_quote.ensures in
    let first : IsFirstFault (text_of word) c.in-Err-Fault.fault =
    subst (λ t. IsFirstFault t c.in-Err-Fault.fault) c.text_of-text.ensures
    (of_fault (IsFirstFault c.text_of-text.result.now) c.in-Err-Fault.field-0 c.in-Err-Fault.fault
    c.in-Err-Fault.field-0-is c.in-Err-Fault.ensures.fault) in
    subst (λ fault. FaultFrom output processed (word ∷ words) (Text fault))
    (sym (c.at_string.ensures ∙ ap (at_string word) c.in-Err-Fault.fault-is)) (bad_text is free first)
