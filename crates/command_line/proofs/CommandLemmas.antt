-- From the matches of the subcommand to the order, and from an error to a failure.
use Rattle.command_line.proofs.{Prelude.{◌≡◌, List, [], ◌∷◌, Option, Some, None, inl, inr, refl, sym, ap, subst, ◌∙◌, Ok, Err, IfOk, IsErrAnd, Result, option_map, IsAmong, Kinds, Row, Text, kind_of, subcommand_name_of, subcommand_rows_of, ArgMatches, HasKind, Error, ErrorKind, DisplayHelp, DisplayVersion, OutOfMemory, Failure, Fault, Memory, LineFault, IfFault, IsFaultOf, IsOrderOf, Wanted, Order, IsFailureFor, Version, Wrong, Bool, true, false, if◌then◌else◌, bytes_eq, wanted_of_match, command_in, wanted_of_command, word_of, CommandName, COMMANDS}, Levels.{kinds_not_empty}}
use Rattle.command_line.specs.declared.reading.LineFault.TheVariants.{Help}

mapped_twice : {A B C : Type 0} (f : B → C) (g : A → B) (o : Option A)
    → option_map f (option_map g o) ≡ option_map (λ x. f (g x)) o
mapped_twice f g None = refl
mapped_twice f g (Some x) = refl

name_of_rows : (m : ArgMatches) → option_map (λ p. p.0) (subcommand_rows_of m) ≡ subcommand_name_of m
name_of_rows m = mapped_twice _ _ _

both_found : (found : Option (Text × List Row)) (name : Text) (rows : List Row)
    → Some name ≡ option_map (λ p. p.0) found
    → Some rows ≡ option_map (λ p. p.1) found → found ≡ Some (name, rows)
both_found None name rows e f = cc
both_found (Some (n, r)) name rows e f =
    let is_name : n ≡ name = cc in
    let is_rows : r ≡ rows = cc in
    rw (is_name, is_rows) refl

none_found : (found : Option (Text × List Row)) → None ≡ option_map (λ p. p.0) found → found ≡ None
none_found None e = refl
none_found (Some p) e = cc

-- the subcommand of a parse, by the name and the matches that it hands out
pub match_found : (m : ArgMatches) (name : Text) (rows : List Row) → Some name ≡ subcommand_name_of m
    → Some rows ≡ option_map (λ p. p.1) (subcommand_rows_of m)
    → subcommand_rows_of m ≡ Some (name, rows)
match_found m name rows e f = both_found (subcommand_rows_of m) name rows (e ∙ sym (name_of_rows m)) f

-- or that there is none
pub no_match_found : (m : ArgMatches) → None ≡ subcommand_name_of m → subcommand_rows_of m ≡ None
no_match_found m e = none_found (subcommand_rows_of m) (e ∙ sym (name_of_rows m))

-- what the first of these commands that the word calls wants
abbrev first_wanted : List CommandName → Text → List Row → Option Wanted
first_wanted [] word rows = None
first_wanted (command ∷ more) word rows =
    if bytes_eq word (word_of command) then Some
    (wanted_of_command command rows) else first_wanted more word rows

first_is : (commands : List CommandName) (word : Text) (rows : List Row)
    → option_map (λ command. wanted_of_command command rows) (command_in commands word)
    ≡ first_wanted commands word rows
first_is [] word rows = refl
first_is (command ∷ more) word rows = go (first_is more word rows) (bytes_eq word (word_of command))
  where
    go : option_map (λ one. wanted_of_command one rows) (command_in more word) ≡ first_wanted more word rows
        → (t : Bool)
        → option_map (λ one. wanted_of_command one rows) (if t then Some command else command_in more word)
        ≡ (if t then Some (wanted_of_command command rows) else first_wanted more word rows)
    go others true = refl
    go others false = others

-- what the command wants that a word calls
pub wanted_is : (word : Text) (rows : List Row)
    → option_map (λ command. wanted_of_command command rows) (command_in COMMANDS word)
    ≡ wanted_of_match (word, rows)
wanted_is word rows = first_is COMMANDS word rows

-- where the words have no fault, a call fails only for memory
pub only_memory : (error : Error) (failure : Failure LineFault) (kinds : Kinds) → kinds ≡ []
    → HasKind kinds error → IsFailureFor error failure → failure ≡ Memory
only_memory error (Fault (Help held)) kinds e (inl out) (same, is_help) =
    let bad : OutOfMemory ≡ DisplayHelp = sym out ∙ is_help in cc
only_memory error (Fault (Version held)) kinds e (inl out) (same, is_version) =
    let bad : OutOfMemory ≡ DisplayVersion = sym out ∙ is_version in cc
only_memory error (Fault (Wrong held)) kinds e (inl out) (same, no_help, no_version, no_want) =
    absurd (no_want out)
only_memory error Memory kinds e (inl out) is = refl
only_memory error failure [] e (inr among) is = absurd among
only_memory error failure (k ∷ ks) e (inr among) is = absurd (kinds_not_empty k ks e)

-- a failure of a parse is one of the faults of its words
pub fault_among : (A : Type 0) (error : Error) (failure : Failure LineFault) (kinds : Kinds)
    → HasKind kinds error → IsFailureFor error failure
    → IfFault {A = A} (Err failure) (IsFaultOf kinds)
fault_among A error (Fault (Help held)) kinds (inl out) (same, is_help) =
    let bad : OutOfMemory ≡ DisplayHelp = sym out ∙ is_help in cc
fault_among A error (Fault (Help held)) kinds (inr among) (same, is_help) =
    (ap kind_of same ∙ is_help, subst (λ (k : ErrorKind). IsAmong k kinds) is_help among)
fault_among A error (Fault (Version held)) kinds (inl out) (same, is_version) =
    let bad : OutOfMemory ≡ DisplayVersion = sym out ∙ is_version in cc
fault_among A error (Fault (Version held)) kinds (inr among) (same, is_version) =
    (ap kind_of same ∙ is_version, subst (λ (k : ErrorKind). IsAmong k kinds) is_version among)
fault_among A error (Fault (Wrong held)) kinds (inl out) (same, no_help, no_version, no_want) =
    absurd (no_want out)
fault_among A error (Fault (Wrong held)) kinds (inr among) (same, no_help, no_version, no_want) =
    (λ e. no_help (sym (ap kind_of same) ∙ e), λ e. no_version (sym (ap kind_of same) ∙ e), subst (λ (k : ErrorKind). IsAmong k kinds) (sym (ap kind_of same)) among)
fault_among A error Memory kinds has is = tt

-- an answer that only memory failed gives any order that is wanted, for it gives none, and tells no fault
pub out_of_memory : (answer : Result Order (Failure LineFault))
    → IsErrAnd answer (λ failure. failure ≡ Memory) → answer ≡ Err Memory
out_of_memory (Ok order) is = absurd is
out_of_memory (Err failure) is = ap Err is

pub wants_any : (wanted : Wanted) (answer : Result Order (Failure LineFault)) → answer ≡ Err Memory
    → IsOrderOf wanted answer
wants_any wanted answer is =
    subst (λ (a : Result Order (Failure LineFault)). IsOrderOf wanted a) (sym is) refl

pub gives_none : (P : Order → Type 0) (answer : Result Order (Failure LineFault))
    → answer ≡ Err Memory → IfOk answer P
gives_none P answer is = subst (λ (a : Result Order (Failure LineFault)). IfOk a P) (sym is) tt

pub tells_none : (P : LineFault → Type 0) (answer : Result Order (Failure LineFault))
    → answer ≡ Err Memory → IfFault answer P
tells_none P answer is = subst (λ (a : Result Order (Failure LineFault)). IfFault a P) (sym is) tt
