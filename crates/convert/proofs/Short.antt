-- How many words an expansion has.
use Rattle.std.proofs.Common.{◌≡◌, ℕ, ◌+◌, ◌≤◌, List, [], ◌∷◌, ◌++◌, length, arith, length-append}
use Rattle.std.proofs.lemmas.List.{length-map}
use Rattle.words.specs.Spelling.{Lexeme, lexeme_of, lexemes_of}
use Rattle.words.specs.declared.word.Word.{Word}
use Rattle.literally.specs.Expansion.{Becomes, Expands, no_words, stays, replaced, ExpandsFrom, at_end, after_word}
use Rattle.literally.specs.declared.limits.TheConstants.{MOST_WORDS}

-- each word that is put out was processed
pub becomes_short : {output words now : List Lexeme} {depth count : ℕ}
    → Becomes output depth words now count
    → length now ≤ count
becomes_short no_words = omega arith
becomes_short (stays none rest) = omega (arith, becomes_short rest)
becomes_short (replaced {front = front} {back = back} there spells room inside rest) =
    omega (arith, length-append front back, becomes_short inside, becomes_short rest)

-- so was each word that was there
pub becomes_some : {output words now : List Lexeme} {depth count : ℕ}
    → Becomes output depth words now count
    → length words ≤ count
becomes_some no_words = omega arith
becomes_some (stays none rest) = omega (arith, becomes_some rest)
becomes_some (replaced there spells room inside rest) = omega (arith, becomes_some rest)

pub record AreFew (words whole : List Lexeme) (processed : ℕ) : Type 0 where
  pub output_few : length whole ≤ MOST_WORDS
  pub words_few : length words + processed ≤ MOST_WORDS

pub expands_few : {output words whole : List Lexeme} {processed : ℕ}
    → ExpandsFrom output processed words whole
    → length output ≤ processed
    → processed ≤ MOST_WORDS
    → AreFew words whole processed
expands_few at_end short room = record { output_few = omega arith; words_few = omega arith }
expands_few
    (after_word {output = output} {now = now} {processed = processed} {count = count} once sound becomes
    fits rest) short room =
    let joined : length (output ++ now) ≤ processed + count =
    omega (arith, length-append output now, becomes_short becomes) in
    let few = expands_few rest joined fits in
    record { output_few = few.output_few; words_few = omega (arith, becomes_some becomes, few.words_few) }

pub few_words : (words output : List Word)
    → Expands (lexemes_of words) (lexemes_of output)
    → length words ≤ 4294967296
few_words words output expansion =
    let few = expands_few expansion (omega arith) (omega arith) in
    omega (arith, length-map words lexeme_of, few.words_few)

pub few_output : (words output : List Word)
    → Expands (lexemes_of words) (lexemes_of output)
    → length output ≤ 4294967296
few_output words output expansion =
    let few = expands_few expansion (omega arith) (omega arith) in
    omega (arith, length-map output lexeme_of, few.output_few)
