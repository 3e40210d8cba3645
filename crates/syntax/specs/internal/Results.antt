-- What a function of the parser returned is what reading the symbols gives, unless memory ran out.
use Rattle.std.specs.Prelude.{◌≡◌, List, [], ◌∷◌, Option, None, Some, Result, Ok, Err}
use Rattle.words.specs.declared.word.Word as scanned
use Rattle.words.specs.Spelling.{lexemes_of}
use Rattle.trees.specs.declared.identifier.Place.{Place}
use Rattle.grammar.specs.Symbols.{Symbol, symbols_of}
use Rattle.failure.specs.declared.Failure.{Failure}
use Rattle.failure.specs.declared.Failure.TheVariants as failures
use Rattle.syntax.specs.declared.fault.Fault.{Fault}
use Rattle.syntax.specs.declared.fault.Fault.TheVariants.{Word, End, Depth, EndName}
use Rattle.syntax.specs.internal.Reader.{Cause, Unexpected, TooDeep, OtherEndName, Reading}

-- the symbols of words
abbrev pub left_of : List scanned.Word → List Symbol
left_of words = symbols_of (lexemes_of words)

-- the place of a word
abbrev pub word_place : scanned.Word → Place
word_place word = record { start = word.start; line = word.line }

-- the place of the next of the words that are left, or that of the last word if none is left
abbrev pub next_place : List scanned.Word → Place → Place
next_place (word ∷ rest) last = word_place word
next_place [] last = last

-- the fault of the next of the words that are left, which can't stand there, or of the end of the words
abbrev pub unexpected_of : List scanned.Word → Place → Fault
unexpected_of (word ∷ rest) last = Word (word_place word)
unexpected_of [] last = End last

-- the cause that a failure gives; out of memory gives none
abbrev pub cause_of : Failure Fault → Option Cause
cause_of (failures.Fault (Word place)) = Some Unexpected
cause_of (failures.Fault (End place)) = Some Unexpected
cause_of (failures.Fault (Depth place)) = Some TooDeep
cause_of (failures.Fault (EndName place)) = Some OtherEndName
cause_of failures.Memory = None

-- a cause is the cause of a failed reading; without one nothing is said
abbrev pub FailsBy : {Y : Type 0} → Option Cause → Result Y Cause → Type 0
FailsBy None read = Unit {0}
FailsBy (Some cause) read = read ≡ Err cause

-- the cause of a failure is the cause of a failed reading
abbrev pub Fails : {Y : Type 0} → Failure Fault → Result Y Cause → Type 0
Fails failure read = FailsBy (cause_of failure) read

-- a returned value, with the symbols that are left, is the reading
abbrev pub Gives : {X Y : Type 0} → (X → Y) → Result X (Failure Fault) → List Symbol → Reading Y → Type 0
Gives view (Ok x) rest read = read ≡ Ok (view x, rest)
Gives view (Err failure) rest read = Fails failure read

-- the same for a result that is the symbols left alone
abbrev pub Leaves : {X : Type 0}
    → Result X (Failure Fault)
    → List Symbol
    → Result (List Symbol) Cause
    → Type 0
Leaves (Ok x) rest read = read ≡ Ok rest
Leaves (Err failure) rest read = Fails failure read

-- the value that was made is returned, or memory ran out
abbrev pub OrMemory : {X E : Type 0} → Result X E → Result X (Failure Fault) → Type 0
OrMemory (Ok x) result = result ≡ Ok x
OrMemory (Err error) result = result ≡ Err failures.Memory
