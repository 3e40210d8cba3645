use Rattle.literally.proofs.Prelude.{◌∷◌, ◌+◌, length, take, drop, ◌-◌, sym, subst, err_from_is_err_and, lexeme_of, lexemes_of, ExpandsFrom, FaultFrom, IsFault, at_end}
use Rattle.literally.proofs.ExpansionWords.{expands_on, fault_on, words_at, words_end, words_after}
use Rattle.literally.proofs.Failures.{passed_on}
use Rattle.literally.proofs.expansion.expand.Goals as goal

pub returns-in_err-processed-clause-fault : goal.returns-in_err-processed-clause-fault
returns-in_err-processed-clause-fault c =
    let p = err_from_is_err_and c.from_residual.result c.from_residual.ensures.1 in
    let here =
    words_at c.args.words.now c.loop-i.i c.index-words-i.result c.loop-i-test.true c.index-words-i.is in
    let output = lexemes_of c.loop-i.output.items in
    let after =
    lexemes_of
    (take (length c.args.words.now - (c.loop-i.i + 1)) (drop (c.loop-i.i + 1) c.args.words.now)) in
    rw (p.1, p.2)
    (passed_on (FaultFrom output c.loop-i.processed (lexeme_of c.index-words-i.result ∷ after))
    (IsFault (lexemes_of c.args.words.now)) c.in_err-processed.field-0.0
    (λ fault found. c.loop-i.invariant.fault fault
    (subst (λ words. FaultFrom output c.loop-i.processed words fault) (sym here) found))
    c.in_err-processed.ensures.fault)

pub loop-i-preserved : goal.loop-i-preserved
loop-i-preserved c =
    let output = lexemes_of c.loop-i.output.items in
    let here =
    words_at c.args.words.now c.loop-i.i c.index-words-i.result c.loop-i-test.true c.index-words-i.is in
    let word = lexeme_of c.index-words-i.result in
    let after =
    lexemes_of
    (take (length c.args.words.now - (c.loop-i.i + 1)) (drop (c.loop-i.i + 1) c.args.words.now)) in
    let same = words_after c.args.words.now c.loop-i.i in
    let longer = lexemes_of c.expand_word.new.output.items in
    record {
      in_range = c.in_ok-processed.ensures.added.5;
      held = c.in_ok-processed.ensures.held;
      expansion =
          λ whole rest. c.loop-i.invariant.expansion whole
          (subst (λ words. ExpandsFrom output c.loop-i.processed words whole) (sym here)
          (expands_on output c.loop-i.processed word after longer c.in_ok-processed.processed
          c.in_ok-processed.ensures.added c.in_ok-processed.ensures.sound c.in_ok-processed.ensures.once whole
          (subst (λ words. ExpandsFrom longer c.in_ok-processed.processed words whole) same rest)));
      fault = λ fault rest. c.loop-i.invariant.fault fault
          (subst (λ words. FaultFrom output c.loop-i.processed words fault) (sym here)
          (fault_on output c.loop-i.processed word after longer c.in_ok-processed.processed
          c.in_ok-processed.ensures.added c.in_ok-processed.ensures.sound c.in_ok-processed.ensures.once fault
          (subst (λ words. FaultFrom longer c.in_ok-processed.processed words fault) same rest)));
    }

pub returns-clause-expansion : goal.returns-clause-expansion
returns-clause-expansion c =
    c.loop-i.invariant.expansion _
    (subst (λ words. ExpandsFrom (lexemes_of c.loop-i.output.items) c.loop-i.processed words
    (lexemes_of c.loop-i.output.items))
    (sym (words_end c.args.words.now c.loop-i.i c.loop-i-test.false)) at_end)
