-- How the loops over statements and declarations go on.
use Rattle.syntax.proofs.Prelude.{◌≡◌, ℕ, zero, suc, ◌≤◌, ◌<◌, Bool, true, false, List, [], ◌∷◌, ◌++◌, length, Option, Some, None, Ok, Err, if◌then◌else◌, refl, sym, ◌∙◌, ap, arith, End, Declaration, Statement, Symbol, StatementTree, StatementTrees, MoreStatements, DeclarationTree, DeclarationTrees, MoreDeclarations, statement_tree, statement_trees, declaration_tree, declaration_trees, FailsBy, statements_before, after_statements, declarations_before, after_declarations, many, many_items, Shrinks, Parser, Cause, Unexpected, Reading, ◌>>=◌, at_word, statement, declaration, statements, declarations, statements_of, declarations_of, ends_declarations}
use Rattle.syntax.proofs.ListLaws.{item_then, many-step, many-end, many-nothing, Starts, item_then-same}
use Rattle.syntax.proofs.StatementLaws.{statement-shrinks, declaration-shrinks}
use Rattle.syntax.proofs.ReaderLemmas.{read, if_true, if_false}

-- a statement is read only where there is room
statement-starts : (room : ℕ) → Starts (statement true room)
unfolding statement
statement-starts zero s r t e = absurd cc
statement-starts (suc room) s r t e = refl

-- statements, with one more
statements_before-push : (made : List Statement) (x : Statement) (others : StatementTrees)
    → statements_before (made ++ x ∷ []) others ≡ statements_before made
    (MoreStatements (statement_tree x) others)
statements_before-push [] x others = refl
statements_before-push (m ∷ made) x others =
    ap (MoreStatements (statement_tree m)) (statements_before-push made x others)

statements_before-none : (made : List Statement)
    → statements_before made (statements_of []) ≡ statement_trees made
statements_before-none [] = refl
statements_before-none (m ∷ made) = ap (MoreStatements (statement_tree m)) (statements_before-none made)

-- what is read as a list, with a first statement, and as trees
abbrev after_statement : StatementTree → Reading (List StatementTree) → Reading (List StatementTree)
after_statement first found = do
  others ← found
  Ok (first ∷ others.0, others.1)

abbrev as_statements : Reading (List StatementTree) → Reading StatementTrees
as_statements found = do
  all ← found
  Ok (statements_of all.0, all.1)

more_statements : (made : List Statement) (x : Statement) (others : Reading (List StatementTree))
    → after_statements made (as_statements (after_statement (statement_tree x) others)) ≡ after_statements
    (made ++ x ∷ []) (as_statements others)
more_statements made x (Ok o) = ap (λ t. read t o.1) (sym (statements_before-push made x (statements_of o.0)))
more_statements made x (Err cause) = refl

-- a statement
pub statements-more : (room : ℕ) (made : List Statement) (x : Statement) (s r : List Symbol)
    → 0 < length s
    → at_word End s ≡ false
    → statement true room s ≡ Ok (statement_tree x, r)
    → after_statements made (statements (statement true room) s) ≡ after_statements (made ++ x ∷ [])
    (statements (statement true room) r)
statements-more room made x s r long goes e =
    rw (
      many-step (at_word End) (statement true room) (statement-shrinks true room) (statement-starts room) s
          long,
      goes,
      e,
    )
    (more_statements made x (many (at_word End) (statement true room) r))

-- no statement where one must be
pub statements-fail : (room : ℕ) (made : List Statement) (s : List Symbol) (cause : Cause)
    → 0 < length s
    → at_word End s ≡ false
    → statement true room s ≡ Err cause
    → after_statements made (statements (statement true room) s) ≡ Err cause
statements-fail room made s cause long goes e =
    rw (
      many-step (at_word End) (statement true room) (statement-shrinks true room) (statement-starts room) s
          long,
      goes,
      e,
    ) refl

-- nothing where END must be
pub statements-nothing : (room : ℕ) (made : List Statement)
    → after_statements made (statements (statement true room) []) ≡ Err Unexpected
statements-nothing room made = rw (many-nothing (at_word End) (statement true room)) refl

-- END
pub statements-end : (room : ℕ) (made : List Statement) (s : List Symbol) → at_word End s ≡ true
    → after_statements made (statements (statement true room) s) ≡ Ok (statement_trees made, s)
statements-end room made s end =
    rw (many-end (at_word End) (statement true room) s end) (ap (λ t. read t s) (statements_before-none made))

-- any count that is enough gives the same, where the list ends with the symbols
many_items-ended : {A : Type 0} (ends : List Symbol → Bool) (item : Parser A) → Shrinks item → ends [] ≡ true
    → (count more : ℕ) (s : List Symbol)
    → length s ≤ count
    → length s ≤ more
    → many_items ends item count s ≡ many_items ends item more s
many_items-ended ends item shrinks ended count more [] l h =
    ended_at ends item ended count ∙ sym (ended_at ends item ended more)
  where
    ended_at : {A : Type 0} (ends : List Symbol → Bool) (item : Parser A)
        → ends [] ≡ true
        → (count : ℕ)
        → many_items ends item count [] ≡ read [] []
    ended_at ends item ended zero = if_true (ends []) _ _ ended
    ended_at ends item ended (suc count) = if_true (ends []) _ _ ended
many_items-ended ends item shrinks ended zero more (x ∷ s) l h = absurd (omega arith)
many_items-ended ends item shrinks ended (suc count) zero (x ∷ s) l h = absurd (omega arith)
many_items-ended ends item shrinks ended (suc count) (suc more) (x ∷ s) l h =
    ap (λ t. if ends (x ∷ s) then read [] (x ∷ s) else t)
    (item_then-same item (many_items ends item count) (many_items ends item more) (x ∷ s)
    (λ a r e. let short : length r < length (x ∷ s) = shrinks (x ∷ s) r a e in many_items-ended ends item
    shrinks ended count more r (omega arith) (omega arith)))

-- {item}, where the list ends with the symbols
many-ended : {A : Type 0} (ends : List Symbol → Bool) (item : Parser A)
    → Shrinks item
    → ends [] ≡ true
    → (s : List Symbol)
    → ends s ≡ false
    → many ends item s ≡ item_then item (many ends item) s
unfolding many
many-ended ends item shrinks ended [] goes = absurd cc
many-ended ends item shrinks ended (x ∷ s) goes =
    if_false (ends (x ∷ s)) _ _ goes
    ∙ item_then-same item (many_items ends item (length s)) (many ends item) (x ∷ s)
    (λ a r e. let short : length r < length (x ∷ s) = shrinks (x ∷ s) r a e in many_items-ended ends item
    shrinks ended (length s) (length r) r (omega arith) (omega arith))

-- declarations, with one more
declarations_before-push : (made : List Declaration) (x : Declaration) (others : DeclarationTrees)
    → declarations_before (made ++ x ∷ []) others ≡ declarations_before made
    (MoreDeclarations (declaration_tree x) others)
declarations_before-push [] x others = refl
declarations_before-push (m ∷ made) x others =
    ap (MoreDeclarations (declaration_tree m)) (declarations_before-push made x others)

declarations_before-none : (made : List Declaration)
    → declarations_before made (declarations_of []) ≡ declaration_trees made
declarations_before-none [] = refl
declarations_before-none (m ∷ made) =
    ap (MoreDeclarations (declaration_tree m)) (declarations_before-none made)

-- what is read as a list, with a first declaration, and as trees
abbrev after_declaration : DeclarationTree → Reading (List DeclarationTree) → Reading (List DeclarationTree)
after_declaration first found = do
  others ← found
  Ok (first ∷ others.0, others.1)

abbrev as_declarations : Reading (List DeclarationTree) → Reading DeclarationTrees
as_declarations found = do
  all ← found
  Ok (declarations_of all.0, all.1)

more_declarations : (made : List Declaration) (x : Declaration) (others : Reading (List DeclarationTree))
    → after_declarations made (as_declarations (after_declaration (declaration_tree x) others)) ≡
    after_declarations (made ++ x ∷ []) (as_declarations others)
more_declarations made x (Ok o) =
    ap (λ t. read t o.1) (sym (declarations_before-push made x (declarations_of o.0)))
more_declarations made x (Err cause) = refl

-- a declaration
pub declarations-more : (room : ℕ) (made : List Declaration) (x : Declaration) (s r : List Symbol)
    → ends_declarations s ≡ false
    → declaration true room s ≡ Ok (declaration_tree x, r)
    → after_declarations made (declarations (declaration true room) s) ≡ after_declarations (made ++ x ∷ [])
    (declarations (declaration true room) r)
declarations-more room made x s r goes e =
    rw (many-ended ends_declarations (declaration true room) (declaration-shrinks true room) refl s goes, e)
    (more_declarations made x (many ends_declarations (declaration true room) r))

-- no declaration where one must be
pub declarations-fail : (room : ℕ) (made : List Declaration) (s : List Symbol) (cause : Cause)
    → ends_declarations s ≡ false
    → declaration true room s ≡ Err cause
    → after_declarations made (declarations (declaration true room) s) ≡ Err cause
declarations-fail room made s cause goes e =
    rw (many-ended ends_declarations (declaration true room) (declaration-shrinks true room) refl s goes, e)
    refl

-- the end of the declarations
pub declarations-end : (room : ℕ) (made : List Declaration) (s : List Symbol) → ends_declarations s ≡ true
    → after_declarations made (declarations (declaration true room) s) ≡ Ok (declaration_trees made, s)
declarations-end room made s end =
    rw (many-end ends_declarations (declaration true room) s end)
    (ap (λ t. read t s) (declarations_before-none made))

-- what fails where a statement must be, fails as a whole
pub statements-fails : (cause : Option Cause) (room : ℕ) (made : List Statement) (start s : List Symbol)
    → statements (statement true room) start ≡ after_statements made (statements (statement true room) s)
    → 0 < length s
    → false ≡ at_word End s
    → FailsBy cause (statement true room s) → FailsBy cause (statements (statement true room) start)
statements-fails None room made start s so_far long goes fails = tt
statements-fails (Some cause) room made start s so_far long goes fails =
    so_far ∙ statements-fail room made s cause long (sym goes) fails

pub statements-fails_at_end : (cause : Option Cause) (room : ℕ) (made : List Statement)
    (start s : List Symbol)
    → statements (statement true room) start ≡ after_statements made (statements (statement true room) s)
    → s ≡ []
    → cause ≡ Some Unexpected
    → FailsBy cause (statements (statement true room) start)
statements-fails_at_end cause room made start s so_far none unexpected =
    rw (unexpected, so_far, none) (statements-nothing room made)

-- the same for declarations
pub declarations-fails : (cause : Option Cause) (room : ℕ) (made : List Declaration) (start s : List Symbol)
    → declarations (declaration true room) start ≡ after_declarations made
    (declarations (declaration true room) s)
    → false ≡ ends_declarations s
    → FailsBy cause (declaration true room s) → FailsBy cause (declarations (declaration true room) start)
declarations-fails None room made start s so_far goes fails = tt
declarations-fails (Some cause) room made start s so_far goes fails =
    so_far ∙ declarations-fail room made s cause (sym goes) fails

pub statement-smaller : (room : ℕ) (s r : List Symbol) (t : StatementTree)
    → statement true room s ≡ Ok (t, r)
    → length r < length s
statement-smaller room s r t e = statement-shrinks true room s r t e

pub declaration-smaller : (room : ℕ) (s r : List Symbol) (t : DeclarationTree)
    → declaration true room s ≡ Ok (t, r)
    → length r < length s
declaration-smaller room s r t e = declaration-shrinks true room s r t e
