-- The laws of reading modules: what words derive is read, and what is read is derived.
use Rattle.syntax.proofs.Prelude.{◌≡◌, ℕ, max, ◌<◌, ◌≤◌, Bool, true, false, List, [], ◌∷◌, Result, Ok, Err, refl, sym, ◌∙◌, ap, subst, arith, Lexeme, NESTING_LIMIT, DerivesModule, module_line, Derives, DerivesButForDepth, DerivesButForEndName, DerivesAtMostOne, module_height, ModuleEndsMatch, optional, name_symbols, ending_symbols, Symbol, NameSymbol, PlacedSymbol, MarkSymbol, SemicolonSymbol, symbols_of, ModuleTree, Cause, Unexpected, TooDeep, OtherEndName, place_of_word, taken, at_the_end, module_of, whole_module}
use Rattle.words.specs.declared.vocabulary.Mark.TheVariants as marks
use Rattle.words.specs.declared.vocabulary.ReservedWord.TheVariants as words
use Rattle.syntax.proofs.ReaderLemmas.{taken-ok, place_of_word-is}
use Rattle.syntax.proofs.StatementLaws.{body-gets, body-verdict}
use Rattle.syntax.proofs.StatementSoundness.{ending-gets, statements-left}
use Rattle.syntax.proofs.StatementVerdicts.{ending-verdict, ends_of_block, block_of_ends}
use Rattle.syntax.proofs.StatementVerdictRules.{Gets, gets_ok, gets_nothing, gets_bind, Verdict, fits, too_deep, other_name, verdict_bind, verdict_last, verdict_as, verdict_given, verdict_reads, verdict_deep, verdict_other_name, mark-gets, semicolon-gets, name-gets}

place-gets : (s : List Symbol)
    → Gets (λ found. s ≡ PlacedSymbol words.Do found.0 ∷ found.1) (taken (place_of_word words.Do s) s)
place-gets s = record {
  holds = λ found e.
      let parts = taken-ok (place_of_word words.Do s) s found.1 found.0 e in
      place_of_word-is words.Do s found.0 parts.0 ∙ ap (λ k. PlacedSymbol words.Do found.0 ∷ k) parts.1;
}

at_the_end-gets : (t : ModuleTree) (s r : List Symbol)
    → (r ≡ [] → DerivesModule s t)
    → Gets (DerivesModule s) (at_the_end t r)
at_the_end-gets t s [] derived = gets_ok (derived refl)
at_the_end-gets t s (symbol ∷ rest) derived = gets_nothing

-- what is read as a module is derived
whole_module-gets : (strict : Bool) (room : ℕ) (s : List Symbol)
    → Gets (DerivesModule s) (whole_module strict room s)
unfolding whole_module
whole_module-gets strict room s =
    gets_bind (name-gets s) λ own e₁.
    gets_bind (mark-gets marks.Colon own.1) λ colon e₂.
    gets_bind (place-gets colon) λ its_place e₃.
    gets_bind (semicolon-gets its_place.1) λ start e₄.
    gets_bind (body-gets strict room start.1) λ inside h.
    gets_bind (ending-gets strict own.0 inside.1) λ its_end e₅.
    at_the_end-gets _ s its_end.1 λ none.
    let e : s ≡ NameSymbol own.0 ∷ MarkSymbol marks.Colon ∷ PlacedSymbol words.Do its_place.0 ∷
    SemicolonSymbol start.0 ∷ start.1 = cc in
    subst (λ (k : List Symbol). DerivesModule k (module_of own.0 its_place.0 inside.0 its_end.0)) (sym e)
    (module_line e₅.0 h.1
    (statements-left (e₅.1 ∙ ap (λ k. ending_symbols its_end.0 (SemicolonSymbol e₅.0 ∷ k)) none) h.2))

-- a module that is derived is read again, unless depth or a name after END is in the way
derived-verdict : (strict : Bool) (room : ℕ) (s : List Symbol) (t : ModuleTree) → DerivesModule s t
    → Verdict (whole_module strict room s) t strict room (module_height t) (ModuleEndsMatch t)
unfolding whole_module
derived-verdict strict room s t
    (module_line end {name} {symbols = symbols} {middle = middle} {declared = declared} {body = body}
    {end_name = end_name} d₁ d₂) =
    verdict_as
    (verdict_bind _ (body-verdict strict room symbols middle declared body
    (optional name_symbols end_name (SemicolonSymbol end ∷ [])) d₁ d₂)
    (verdict_last _ (ending-verdict strict room name end_name end []) refl))
    (omega arith) ends_of_block block_of_ends

-- what is read is derived
pub module_read-derives : (words : List Lexeme) (t : ModuleTree)
    → whole_module true NESTING_LIMIT (symbols_of words) ≡ Ok t
    → Derives words t
module_read-derives words t e =
    let d = (whole_module-gets true NESTING_LIMIT (symbols_of words)).holds t e in
    let given = verdict_given (derived-verdict true NESTING_LIMIT (symbols_of words) t d) e in
    record { grammar = d; nested = given.0; ends = given.1 refl }

-- what is derived is read
pub module_derives-reads : (words : List Lexeme) (t : ModuleTree) → Derives words t
    → whole_module true NESTING_LIMIT (symbols_of words) ≡ Ok t
module_derives-reads words t d =
    verdict_reads (derived-verdict true NESTING_LIMIT (symbols_of words) t d.grammar) d.nested (λ _. d.ends)

pub module_deep-reads : (words : List Lexeme) → DerivesButForDepth words
    → whole_module true NESTING_LIMIT (symbols_of words) ≡ Err TooDeep
module_deep-reads words d =
    verdict_deep (derived-verdict true NESTING_LIMIT (symbols_of words) d.tree d.grammar) d.too_deep
    (λ _. d.ends)

pub module_end_name-reads : (words : List Lexeme) → DerivesButForEndName words
    → whole_module true NESTING_LIMIT (symbols_of words) ≡ Err OtherEndName
module_end_name-reads words d =
    verdict_other_name (derived-verdict true NESTING_LIMIT (symbols_of words) d.tree d.grammar) d.nested refl
    d.other

-- what a cause is in a tree that is derived
abbrev pub IsCauseIn : Cause → ModuleTree → Type 0
IsCauseIn Unexpected tree = ⊥
IsCauseIn TooDeep tree = NESTING_LIMIT < module_height tree
IsCauseIn OtherEndName tree = ¬ ModuleEndsMatch tree

cause_of_verdict : {read : Result ModuleTree Cause} (t : ModuleTree) (cause : Cause)
    → Verdict read t true NESTING_LIMIT (module_height t) (ModuleEndsMatch t)
    → read ≡ Err cause
    → IsCauseIn cause t
cause_of_verdict t cause (fits e l ends) e' = absurd cc
cause_of_verdict t Unexpected (too_deep e l) e' = absurd cc
cause_of_verdict t TooDeep (too_deep e l) e' = l
cause_of_verdict t OtherEndName (too_deep e l) e' = absurd cc
cause_of_verdict t Unexpected (other_name e s not) e' = absurd cc
cause_of_verdict t TooDeep (other_name e s not) e' = absurd cc
cause_of_verdict t OtherEndName (other_name e s not) e' = not

-- where words derive a tree and reading fails, the cause is in that tree
pub module_fails-cause : (words : List Lexeme) (t : ModuleTree) (cause : Cause)
    → DerivesModule (symbols_of words) t
    → whole_module true NESTING_LIMIT (symbols_of words) ≡ Err cause
    → IsCauseIn cause t
module_fails-cause words t cause d e =
    cause_of_verdict t cause (derived-verdict true NESTING_LIMIT (symbols_of words) t d) e

-- words derive one module at most
pub derives_at_most_one : (words : List Lexeme) → DerivesAtMostOne words
derives_at_most_one words first second d d' =
    let room : ℕ = max (module_height first) (module_height second) in
    let one : whole_module false room (symbols_of words) ≡ Ok first =
    verdict_reads (derived-verdict false room (symbols_of words) first d) (omega arith) (λ s. absurd cc) in
    let other : whole_module false room (symbols_of words) ≡ Ok second =
    verdict_reads (derived-verdict false room (symbols_of words) second d') (omega arith) (λ s. absurd cc) in
    cc
