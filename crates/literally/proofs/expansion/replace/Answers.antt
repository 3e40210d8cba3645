use Rattle.literally.proofs.Prelude.{refl, ◌≢◌, ◌-◌, ◌<◌, ◌≤◌, List, [], ◌∷◌, ◌++◌, length, get_or, take, drop, map, reverse, sym, ◌∙◌, ap, arith, false≢true, err_from_is_err_and, Word, lexeme_of, lexemes_of, DEEPEST, Count, IsFaultAt, at_use, depth_passed, word_then, none_yet}
use Rattle.literally.proofs.Failures.{if_fault}
use Rattle.literally.proofs.ExpansionTexts.{waits_first, waits_empty, waits_stays, waits_replaced, waits_along, too_deep_here, processed_here, stack_push, no_element, first_of, first_is, frame, waits_opened, count_here, length-stack, depth_kept, depth_popped, depth_pushed}
use Rattle.literally.proofs.expansion.replace.Goals as goal

-- the words after the first
abbrev rest : List Word → List Word
rest words = take (length words - 1) (drop 1 words)

pub returns-in_err-processed-clause-fault : goal.returns-in_err-processed-clause-fault
returns-in_err-processed-clause-fault c =
    let p = err_from_is_err_and c.from_residual.result c.from_residual.ensures.1 in
    rw (p.1, p.2)
    (if_fault (IsFaultAt (lexemes_of c.args.output.now.items) c.args.processed (lexeme_of c.args.used))
    c.in_err-processed.field-0.0 (Count c.args.used.start c.args.used.line)
    c.in_err-processed.ensures.err.0
    (count_here (lexemes_of c.args.output.now.items) c.args.processed (lexeme_of c.args.used) 1
    (word_then none_yet) c.in_err-processed.ensures.err.1))

pub loop-words-init : goal.loop-words-init
loop-words-init c =
    let output = lexemes_of c.args.output.now.items in
    let used = lexeme_of c.args.used in
    let text = c.requires.text in
    let alone =
    c.in_ok-push_text.ensures ∙ ap (λ items. items ++ c.args.text ∷ []) c.new-pending.ensures.items in
    let stack =
    stack_push (λ text. map (at_use used) (lexemes_of text.now)) [] c.push_text.new.pending.items
    c.args.text alone in
    record {
      in_range = c.in_ok-processed.ensures.ok.1;
      depth = depth_pushed (λ text. text.now) output c.args.processed used [] c.push_text.new.pending.items
          c.args.text alone (omega arith);
      waits = waits_along output c.args.processed used (sym stack) refl (sym c.in_ok-processed.ensures.ok.0)
          (waits_first output c.args.processed used text.0 (lexemes_of c.args.text.now) text.1 text.2.1);
    }

pub loop-words-preserved-in_default-words : goal.loop-words-preserved-in_default-words
loop-words-preserved-in_default-words c =
    let output = lexemes_of c.args.output.now.items in
    let used = lexeme_of c.args.used in
    let stack =
    stack_push (λ text. map (at_use used) (lexemes_of text.now)) c.pop.new.self.items
    c.loop-words.pending.items c.in-Some.words c.in-Some.ensures.items in
    let none =
    ap (λ words. map (at_use used) (lexemes_of words)
    ∷ reverse (map (λ text. map (at_use used) (lexemes_of text.now)) c.pop.new.self.items))
    (no_element c.in-Some.words.now c.in_default-words.len_below) in
    record {
      in_range = c.loop-words.invariant.in_range;
      depth = depth_popped (λ text. text.now) output c.args.processed used c.loop-words.pending.items
          c.pop.new.self.items c.in-Some.words c.in-Some.ensures.items c.loop-words.invariant.depth;
      waits = waits_empty output c.args.processed used _ _ _
          (waits_along output c.args.processed used (stack ∙ none) refl refl c.loop-words.invariant.waits);
    }

pub returns-in_err-processed-2-clause-fault : goal.returns-in_err-processed-2-clause-fault
returns-in_err-processed-2-clause-fault c =
    let p = err_from_is_err_and c.from_residual-in_err-processed-2.result
    c.from_residual-in_err-processed-2.ensures.1 in
    let output = lexemes_of c.args.output.now.items in
    let used = lexeme_of c.args.used in
    let opened =
    waits_opened (λ text. text.now) output c.args.processed used c.loop-words.pending.items
    c.pop.new.self.items c.in-Some.words (get_or c.in-Some.words.now 0 c.args.used)
    (rest c.in-Some.words.now) _ _ c.in-Some.ensures.items
    (first_of c.in-Some.words.now c.args.used c.in-len1-up.len_at_least) c.loop-words.invariant.waits in
    let processed = processed_here output c.args.processed used _ _ _ _ _ opened in
    rw (p.1, p.2)
    (if_fault (IsFaultAt output c.args.processed used) c.in_err-processed-2.field-0.0
    (Count c.args.used.start c.args.used.line) c.in_err-processed-2.ensures.err.0
    (count_here output c.args.processed used processed.0 processed.1
    (omega (arith, processed.2, c.in_err-processed-2.ensures.err.1))))

pub loop-words-preserved-in_default-text_for : goal.loop-words-preserved-in_default-text_for
loop-words-preserved-in_default-text_for c =
    let output = lexemes_of c.args.output.now.items in
    let used = lexeme_of c.args.used in
    let words = c.in-Some.words.now in
    let opened =
    waits_opened (λ text. text.now) output c.args.processed used c.loop-words.pending.items
    c.pop.new.self.items c.in-Some.words c.word-item.result (rest words) _ _ c.in-Some.ensures.items
    (first_is words c.word-item.result c.in-len1-up.len_at_least c.word-item.is)
    c.loop-words.invariant.waits in
    let stayed =
    waits_stays output c.args.processed used _ _ _ _ _ opened
    (c.in_default-text_for.ensures output c.requires.held) in
    let pushed =
    stack_push (frame (λ text. text.now) output c.args.processed used) c.pop.new.self.items
    c.push_text-in-Some.new.pending.items _ c.in_ok-push_text-2.ensures in
    let longer =
    c.in_ok-push_word.ensures ∙ ap (λ word. lexemes_of c.loop-words.output.items ++ word ∷ [])
    c.at_use.ensures in
    record {
      in_range = c.in_ok-processed-2.ensures.ok.1;
      depth = depth_kept (λ text. text.now) output c.args.processed used c.loop-words.pending.items
          c.pop.new.self.items c.push_text-in-Some.new.pending.items c.in-Some.words _ c.in-Some.ensures.items
          c.in_ok-push_text-2.ensures c.loop-words.invariant.depth;
      waits = waits_along output c.args.processed used (sym pushed) (sym longer)
          (sym c.in_ok-processed-2.ensures.ok.0) stayed;
    }

pub returns-then-is_deepest-clause-fault : goal.returns-then-is_deepest-clause-fault
returns-then-is_deepest-clause-fault c after =
    let output = lexemes_of c.args.output.now.items in
    let used = lexeme_of c.args.used in
    let words = c.in-Some.words.now in
    let opened =
    waits_opened (λ text. text.now) output c.args.processed used c.loop-words.pending.items
    c.pop.new.self.items c.in-Some.words c.word-item.result (rest words) _ _ c.in-Some.ensures.items
    (first_is words c.word-item.result c.in-len1-up.len_at_least c.word-item.is)
    c.loop-words.invariant.waits in
    let found = c.in-Some-text_for.ensures output c.requires.held in
    let full =
    sym (length-stack (λ text. text.now) output c.args.processed used c.pop.new.self.items
    c.push_text-in-Some.new.pending.items _ c.in_ok-push_text-2.ensures)
    ∙ sym c.push_text-in-Some.new.pending.ok.0 ∙ sym c.len.ensures
    ∙ c.is_deepest.ensures.0 c.if-is_deepest.true in
    depth_passed (too_deep_here output c.args.processed used _ _ _ _ _ opened found.0 found.1 full)

pub loop-words-preserved : goal.loop-words-preserved
loop-words-preserved c =
    let output = lexemes_of c.args.output.now.items in
    let used = lexeme_of c.args.used in
    let words = c.in-Some.words.now in
    let opened =
    waits_opened (λ text. text.now) output c.args.processed used c.loop-words.pending.items
    c.pop.new.self.items c.in-Some.words c.word-item.result (rest words) _ _ c.in-Some.ensures.items
    (first_is words c.word-item.result c.in-len1-up.len_at_least c.word-item.is)
    c.loop-words.invariant.waits in
    let found = c.in-Some-text_for.ensures output c.requires.held in
    let pushed =
    stack_push (frame (λ text. text.now) output c.args.processed used) c.pop.new.self.items
    c.push_text-in-Some.new.pending.items _ c.in_ok-push_text-2.ensures in
    let both =
    stack_push (frame (λ text. text.now) output c.args.processed used)
    c.push_text-in-Some.new.pending.items c.push_text-in-Some-2.new.pending.items _
    c.in_ok-push_text-3.ensures in
    let is_full =
    length-stack (λ text. text.now) output c.args.processed used c.pop.new.self.items
    c.push_text-in-Some.new.pending.items _ c.in_ok-push_text-2.ensures in
    let room : length c.push_text-in-Some.new.pending.items ≤ DEEPEST =
    depth_kept (λ text. text.now) output c.args.processed used c.loop-words.pending.items
    c.pop.new.self.items c.push_text-in-Some.new.pending.items c.in-Some.words _ c.in-Some.ensures.items
    c.in_ok-push_text-2.ensures c.loop-words.invariant.depth in
    let differ : c.len.result ≢ DEEPEST =
    λ same. false≢true (sym c.if-is_deepest.false ∙ c.is_deepest.ensures.1 same) in
    let below : length c.push_text-in-Some.new.pending.items < DEEPEST =
    omega (arith, c.push_text-in-Some.new.pending.ok.0, c.len.ensures, differ) in
    let replaced =
    waits_replaced output c.args.processed used _ _ _ _ _ opened found.0 _ found.1 found.2.1
    (omega (arith, is_full, below)) in
    record {
      in_range = c.in_ok-processed-2.ensures.ok.1;
      depth = depth_pushed (λ text. text.now) output c.args.processed used
          c.push_text-in-Some.new.pending.items c.push_text-in-Some-2.new.pending.items _
          c.in_ok-push_text-3.ensures below;
      waits = waits_along output c.args.processed used
          (sym (both ∙ ap (λ below. map (at_use used) (lexemes_of c.in-Some-text_for.inner.now) ∷ below)
          pushed)) refl (sym c.in_ok-processed-2.ensures.ok.0) replaced;
    }
