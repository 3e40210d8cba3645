use Rattle.words.proofs.Prelude.{◌≡◌, [], ◌∷◌, ◌++◌, sym, ap, ◌∙◌, subst, rules, append-nil, append_assoc, Ending, Blank, Spelled, Wrong, lexemes_of, lexeme_at, line_at, fault_of, IsFirstFault, Spells, SpellsFrom, at_end, after_blank, word_then, fault_here, fault_after_blank, fault_after_word}
use Rattle.words.proofs.ScannerLemmas.{lexemes_of-push, line_after, item_here, word_here, slices, rising}
use Rattle.words.proofs.scanner.scan.Goals as goal

pub returns-in-Ending : goal.returns-in-Ending
returns-in-Ending c =
    let source = c.args.source.now in
    let words = lexemes_of c.loop-words.words.items in
    let is = item_here source c.loop-words.start Ending c.in-Ending.ensures.item in
    let spelled : Spells source words =
    subst (SpellsFrom source 0) (append-nil words) (c.loop-words.invariant.words [] (at_end is)) in
    record { spells = spelled; slices = slices source words spelled; rising = rising source words spelled; fault = tt }

pub returns-in-Wrong-clause-fault : goal.returns-in-Wrong-clause-fault
returns-in-Wrong-clause-fault c =
    let source = c.args.source.now in
    let is = item_here source c.loop-words.start (Wrong c.in-Wrong.cause) c.in-Wrong.ensures.item in
    let start = c.loop-words.start in
    let same : fault_of c.in-Wrong.cause start (line_at source start) ≡ c.fault_of.result =
    ap (fault_of c.in-Wrong.cause start) (sym c.loop-words.invariant.line) ∙ sym c.fault_of.ensures in
    subst (IsFirstFault source) same (c.loop-words.invariant.fault _ (fault_here is))

pub loop-words-preserved-in-Blank : goal.loop-words-preserved-in-Blank
loop-words-preserved-in-Blank c =
    let source = c.args.source.now in
    let start = c.loop-words.start in
    let taken = c.in-Blank.length in
    let is = item_here source start (Blank taken) c.in-Blank.ensures.item in
    record {
      in_range = search rules;
      line = line_after source start taken _ _ c.loop-words.invariant.line c.count_of_line_feeds.ensures;
      words = λ rest spells. c.loop-words.invariant.words rest (after_blank is spells);
      fault = λ fault found. c.loop-words.invariant.fault fault (fault_after_blank is found);
    }

pub loop-words-preserved : goal.loop-words-preserved
loop-words-preserved c =
    let source = c.args.source.now in
    let start = c.loop-words.start in
    let kind = c.in-Spelled.kind in
    let taken = c.in-Spelled.length in
    let is = item_here source start (Spelled kind taken) c.in-Spelled.ensures.item in
    let longer : lexemes_of c.push.new.self.items
    ≡ lexemes_of c.loop-words.words.items ++ lexeme_at source start kind taken ∷ [] =
    lexemes_of-push c.loop-words.words.items c.push.new.self.items _ c.in_ok-push-in-Spelled.ensures.items
    ∙ ap (λ w. lexemes_of c.loop-words.words.items ++ w ∷ [])
    (word_here source start taken c.loop-words.line kind c.loop-words.invariant.line) in
    record {
      in_range = search rules;
      line = line_after source start taken _ _ c.loop-words.invariant.line
          c.count_of_line_feeds-in-Spelled.ensures;
      words = λ rest spells. subst (SpellsFrom source 0)
          (sym (append_assoc (lexemes_of c.loop-words.words.items) (lexeme_at source start kind taken ∷ [])
          rest) ∙ ap (λ words. words ++ rest) (sym longer))
          (c.loop-words.invariant.words (lexeme_at source start kind taken ∷ rest) (word_then is spells));
      fault = λ fault found. c.loop-words.invariant.fault fault (fault_after_word is found);
    }
