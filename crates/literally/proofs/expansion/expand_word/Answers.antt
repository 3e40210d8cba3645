use Rattle.literally.proofs.Prelude.{[], ◌∷◌, sym, err_from_is_err_and, IfOk-weaker, lexeme_of, lexemes_of, Count, FaultFrom, defined_again, stays, no_words, word_then, none_yet, AreHeld, Adds}
use Rattle.literally.proofs.Failures.{if_fault}
use Rattle.literally.proofs.DefinitionsHeld.{held_after, is_again}
use Rattle.literally.proofs.ExpansionTexts.{count_here}
use Rattle.literally.proofs.expansion.expand_word.Goals as goal

pub returns-in_err-processed-in-None-clause-fault : goal.returns-in_err-processed-in-None-clause-fault
returns-in_err-processed-in-None-clause-fault c =
    let p = err_from_is_err_and c.from_residual.result c.from_residual.ensures.1 in
    let output = lexemes_of c.args.output.now.items in
    let word = lexeme_of c.args.word in
    let after = lexemes_of c.args.after.now in
    rw (p.1, p.2)
    (if_fault (FaultFrom output c.args.processed (word ∷ after)) c.in_err-processed-in-None.field-0.0
    (Count word.start word.line) c.in_err-processed-in-None.ensures.err.0
    (count_here output c.args.processed word 1 (word_then none_yet)
    c.in_err-processed-in-None.ensures.err.1 after))

pub returns-in-Some-clause-fault : goal.returns-in-Some-clause-fault
returns-in-Some-clause-fault c =
    let output = lexemes_of c.args.output.now.items in
    defined_again
    (is_again output (lexeme_of c.args.word) _ (lexemes_of c.args.after.now)
    (c.in-Some.ensures output c.requires.held) (sym c.if-begins_with_literally.ensures))

pub returns-in-Some-2-clause-held : goal.returns-in-Some-2-clause-held
returns-in-Some-2-clause-held c =
    let output = lexemes_of c.args.output.now.items in
    let word = lexeme_of c.args.word in
    let whole = lexemes_of c.replace.new.output.items in
    IfOk-weaker c.replace.result (Adds output c.args.processed word whole)
    (λ _. AreHeld whole c.args.definitions.now.texts)
    (λ count processed. held_after output c.args.processed word _ whole count c.args.definitions.now.texts
    (c.in-Some.ensures output c.requires.held) c.requires.held processed) c.replace.ensures.added

pub returns-in_ok-push_word-in-None-clause-added : goal.returns-in_ok-push_word-in-None-clause-added
returns-in_ok-push_word-in-None-clause-added c =
    let output = lexemes_of c.args.output.now.items in
    (lexeme_of c.args.word ∷ [], 1, stays (c.in-None.ensures output c.requires.held) no_words, c.in_ok-push_word-in-None.ensures, c.in_ok-processed-in-None.ensures.ok.0, c.in_ok-processed-in-None.ensures.ok.1)
