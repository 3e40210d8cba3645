-- What is read where there is room.
use Rattle.syntax.proofs.Prelude.{◌≡◌, ℕ, zero, suc, ◌<◌, ◌-◌, true, false, List, [], ◌∷◌, drop, Option, Some, Err, refl, ◌∙◌, ap, arith, Declare, Symbol, NameSymbol, NumberSymbol, StringSymbol, ReservedSymbol, PlacedSymbol, MarkSymbol, SemicolonSymbol, UnknownSymbol, expression, reference, FailsBy, block_in, kind_inside, statement_inside, Cause, Unexpected, TooDeep, at_word, assignment, beginning_of, labels_before, after_labels, statement, kind_by, declaration, declare, declare_or, procedure}
use Rattle.syntax.specs.internal.Statements.{labelled}

-- a symbol that the grammar doesn't have is no target of an assignment
unknown_target : (room : ℕ) (rest : List Symbol)
    → Err Unexpected ≡ assignment (expression room) (UnknownSymbol ∷ rest)
unfolding assignment reference
unknown_target room rest = refl

-- what a statement begins with, where a symbol that the grammar doesn't have is taken for a name
by_beginning : (room : ℕ) (symbols : List Symbol)
    → kind_by (expression room) (statement true room) (block_in room) (beginning_of symbols) symbols ≡
    kind_inside room symbols
by_beginning room [] = refl
by_beginning room (NameSymbol name ∷ rest) = refl
by_beginning room (NumberSymbol number ∷ rest) = refl
by_beginning room (StringSymbol string ∷ rest) = refl
by_beginning room (ReservedSymbol word ∷ rest) = refl
by_beginning room (PlacedSymbol word place ∷ rest) = refl
by_beginning room (MarkSymbol mark ∷ rest) = refl
by_beginning room (SemicolonSymbol place ∷ rest) = refl
by_beginning room (UnknownSymbol ∷ rest) = unknown_target room rest

pub statement_in : (room : ℕ) (symbols : List Symbol)
    → 0 < room
    → statement true room symbols ≡ statement_inside (room - 1) symbols
unfolding statement
statement_in zero symbols more = absurd (omega arith)
statement_in (suc room) symbols more =
    let same : room ≡ suc room - 1 = omega arith in
    ap (labelled (labels_before symbols)) (by_beginning room (after_labels symbols))
    ∙ ap (λ inner. statement_inside inner symbols) same

pub declaration_in : (room : ℕ) (symbols : List Symbol)
    → 0 < room
    → declaration true room symbols ≡ declare_or (procedure true (block_in (room - 1))) symbols
unfolding declaration
declaration_in zero symbols more = absurd (omega arith)
declaration_in (suc room) symbols more =
    let same : room ≡ suc room - 1 = omega arith in
    ap (λ inner. declare_or (procedure true (block_in inner)) symbols) same

-- no room
pub statement-deep : (cause : Option Cause) (room : ℕ) (s : List Symbol)
    → room ≡ 0
    → cause ≡ Some TooDeep
    → FailsBy cause (statement true room s)
unfolding statement
statement-deep cause room s none deep = rw (deep, none) refl

pub declaration-deep : (cause : Option Cause) (room : ℕ) (s : List Symbol)
    → room ≡ 0
    → false ≡ at_word Declare s
    → cause ≡ Some TooDeep
    → FailsBy cause (declaration true room s)
unfolding declaration declare_or
declaration-deep cause room s none other deep = rw (deep, none, ← other) refl

-- DECLARE, with its elements
pub declaration-declares : (room : ℕ) (s t : List Symbol) → true ≡ at_word Declare s → t ≡ drop 1 s
    → declaration true room s ≡ declare t
unfolding declaration declare_or
declaration-declares zero s t declared dropped = rw (← declared, dropped) refl
declaration-declares (suc room) s t declared dropped = rw (← declared, dropped) refl
