-- A text is the source of one module at most, and a source has no fault.
use Rattle.sources.proofs.Prelude.{◌≡◌, ℕ, ◌≤◌, List, length, Result, Ok, Err, subst, ap, TypedModule, storage_of, storage_with, IsText, HasTyping}
use Rattle.std.proofs.Common.{arith}
use Rattle.failure.specs.{Failure.{IfFault}, declared.Failure.{Failure}}
use Rattle.failure.specs.declared.Failure.TheVariants as failures
use Rattle.words.proofs.LawsReadings.{one_reading}
use Rattle.words.specs.{Spelling.{Lexeme}, declared.limits.TheConstants.{LONGEST_SOURCE}}
use Rattle.literally.proofs.LawsOneExpansion.{not_both, one_whole}
use Rattle.literally.specs.Expansion.{Expands, IsFault}
use Rattle.grammar.specs.Derivation.{Derives}
use Rattle.syntax.proofs.ParserLaws.{derives_at_most_one}
use Rattle.trees.specs.Trees.{ModuleTree}
use Rattle.typing_rules.specs.Modules.{ModuleTyping}
use Rattle.typing_rules.proofs.Laws.{judged_once}
use Rattle.sources.specs.{Causes.{HasReadCause}, Reading.{IsExpansionOf, IsSource, IsSpellingOf}}
use Rattle.sources.specs.declared.read.ReadFault.{ReadFault, TheVariants.{TooLong, Words, Expansion, Syntax, Typing, Storage}}

not_both_ways : {A E : Type 0} (result other : Result A E) (one : A) (fault : E)
    → result ≡ Ok one → other ≡ Err fault → result ≡ other → ⊥
not_both_ways result other one fault first second same = cc

-- its words, what they expand to, the module that this derives, and its typing
same_words : (text : List ℕ) (one other : List Lexeme) → IsSpellingOf text one
    → IsSpellingOf text other → one ≡ other
same_words text one other first second =
    (one_reading text).one_spelling one other first.spelled second.spelled

same_expansion : (text : List ℕ) (one other : List Lexeme) → IsExpansionOf text one
    → IsExpansionOf text other → one ≡ other
same_expansion text one other first second =
    let same : first.words ≡ second.words =
    same_words text first.words second.words first.spelling second.spelling in
    let expanded : Expands second.words one =
    subst (λ (words : List Lexeme). Expands words one) same first.expanded in
    one_whole expanded second.expanded

pub same_tree : (text : List ℕ) (one other : ModuleTree) → IsText text one → IsText text other → one ≡ other
same_tree text one other first second =
    let same : first.output ≡ second.output =
    same_expansion text first.output second.output first.expansion second.expansion in
    let derived : Derives second.output one =
    subst (λ (words : List Lexeme). Derives words one) same first.derived in
    derives_at_most_one second.output one other derived.grammar (second.derived).grammar

same_typing : (text : List ℕ) (one other : TypedModule) → HasTyping text one
    → HasTyping text other → one ≡ other
same_typing text one other first second =
    (judged_once second.tree).one_typing one other
    (subst (λ (tree : ModuleTree). ModuleTyping tree one)
    (same_tree text first.tree second.tree first.read second.read) first.typing)
    second.typing

-- no fault of a source has a cause
pub no_cause : (text : List ℕ) (fault : ReadFault) → HasReadCause fault text → IsSource text → ⊥
no_cause text TooLong cause source =
    omega (arith, cause, source.source.typing.read.expansion.spelling.short)
no_cause text (Words fault) cause source =
    let spelling = source.source.typing.read.expansion.spelling in
    (one_reading text).not_both _ fault spelling.spelled cause.first
no_cause text (Expansion fault) cause source =
    let expansion = source.source.typing.read.expansion in
    let same : cause.words ≡ expansion.words =
    same_words text cause.words expansion.words cause.spelling expansion.spelling in
    not_both (subst (λ (words : List Lexeme). IsFault words fault) same cause.wrong) expansion.expanded
no_cause text (Syntax fault) cause source =
    let read = source.source.typing.read in
    let same : read.output ≡ cause.output =
    same_expansion text read.output cause.output read.expansion cause.expansion in
    cause.wrong.wrong _
    (subst (λ (words : List Lexeme). Derives words source.source.typing.tree) same read.derived)
no_cause text (Typing fault) cause source =
    let typing = source.source.typing in
    (judged_once cause.tree).never_both source.typed fault
    (subst (λ (tree : ModuleTree). ModuleTyping tree source.typed)
    (same_tree text typing.tree cause.tree typing.read cause.read) typing.typing)
    cause.wrong
no_cause text (Storage fault) cause source =
    not_both_ways (storage_of source.typed) (storage_of cause.typed) (storage_with source.typed) fault
    source.source.storage cause.wrong
    (ap storage_of (same_typing text source.typed cause.typed source.source.typing cause.typing))

-- so a source is not refused
pub source_accepted : {A : Type 0} (text : List ℕ) (result : Result A (Failure ReadFault))
    → IfFault result (λ fault. HasReadCause fault text) → IfFault result (λ fault. IsSource text → ⊥)
source_accepted text (Ok value) refused = tt
source_accepted text (Err (failures.Fault fault)) refused = no_cause text fault refused
source_accepted text (Err failures.Memory) refused = tt

pub is_short : (text : List ℕ) → IsSource text → length text ≤ LONGEST_SOURCE
is_short text source = source.source.typing.read.expansion.spelling.short
