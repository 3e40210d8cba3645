-- What is read of statements and declarations is derived from the symbols.
use Rattle.syntax.proofs.Prelude.{◌≡◌, ℕ, zero, suc, Bool, true, false, List, [], ◌∷◌, drop, length, Option, Some, None, Err, if◌then◌else◌, refl, sym, ◌∙◌, ap, subst, AllByRecursion, ReservedWord, Identifier, Place, DerivesExpression, DerivesArguments, DerivesTargets, DerivesStatement, labelled, unlabelled, DerivesKind, null, assignment_line, call_line, return, return_value_line, halt_line, goto_line, if_then, if_then_else, simple_do_line, do_loop, do_case, DerivesStatements, no_statement, next_statement, DerivesDeclaration, declare_line, procedure_line, DerivesDeclarations, no_declaration, next_declaration, expression_level, IsNotEmpty, ends_in_open_if, is_open_if, IsReference, reference_symbols, between_commas, optional, name_symbols, element_symbols, heading_symbols, ending_symbols, Symbol, NameSymbol, NumberSymbol, StringSymbol, ReservedSymbol, PlacedSymbol, MarkSymbol, SemicolonSymbol, UnknownSymbol, ExpressionTree, ArgumentTrees, ReferenceTree, StatementTree, LabelledStatement, StatementKindTree, IfStatement, ElseTree, NoElse, ElseStatement, StatementTrees, DeclarationTree, DeclareTree, ProcedureTree, DeclarationTrees, arguments-derived, targets-derived, expression, reference, arguments, items, many, many_items, Parser, TooDeep, Reading, at_mark, at_word, next_name, BlockParser, at_semicolon, labels_before, after_labels, statements_of, declarations_of, ends_declarations, statements, declarations, block, end_of_do, body_of_do, end_name, ending, assignment, call, return_value, otherwise, conditional, simple_do, case_do, loop_do, do_statement, goto, beginning_of, kind_by, statement_by, procedure, declare, declare_or, statement, declaration}
use Rattle.words.specs.declared.vocabulary.Mark.TheVariants as marks
use Rattle.words.specs.declared.vocabulary.ReservedWord.TheVariants as words
use Rattle.syntax.specs.internal.Statements.{halt}
use Rattle.syntax.proofs.ExpressionVerdicts.{reference-gets, arguments-gets, elements-gets, heading-gets, expression-derives, expression-left}
use Rattle.syntax.proofs.ReaderLemmas.{at_mark-is, at_word-is, next_name-is}
use Rattle.syntax.proofs.StatementVerdictLists.{items-gets}
use Rattle.syntax.proofs.StatementVerdictRules.{Gets, gets_ok, gets_nothing, gets_bind, gets_if, gets_more, mark-gets, semicolon-gets, word-gets, name-gets}
use Rattle.syntax.proofs.Heads.{head-left, loop_head-gets}

at_semicolon-is : (s : List Symbol)
    → at_semicolon s ≡ true
    → (place : Place) × (s ≡ SemicolonSymbol place ∷ drop 1 s)
at_semicolon-is (SemicolonSymbol place ∷ rest) e = (place, refl)
at_semicolon-is [] e = absurd cc
at_semicolon-is (x ∷ rest) e = absurd cc

-- what is read of arguments and targets
arguments-derives : (room : ℕ) (s : List Symbol)
    → Gets (λ found. DerivesArguments s found.0 found.1) (arguments (expression room) s)
arguments-derives room s =
    gets_more (arguments-gets room s) λ found h.
    subst (λ (k : List Symbol). DerivesArguments k found.0 found.1) (sym h.0)
    (arguments-derived found.0 found.1 h.1)

all_targets-derived : (targets : List ReferenceTree) (rest : List Symbol)
    → IsNotEmpty targets
    → AllByRecursion IsReference targets
    → DerivesTargets (between_commas reference_symbols targets rest) targets rest
all_targets-derived [] rest some h = absurd some
all_targets-derived (first ∷ others) rest some h = targets-derived first others rest h.0 h.1

targets-derives : (room : ℕ) (s : List Symbol)
    → Gets (λ found. DerivesTargets s found.0 found.1) (items (reference (expression room)) s)
targets-derives room s =
    gets_more (items-gets reference_symbols IsReference (reference (expression room)) (reference-gets room)
    s) λ found h.
    subst (λ (k : List Symbol). DerivesTargets k found.0 found.1) (sym h.0)
    (all_targets-derived found.0 found.1 h.1.0 h.1.1)

-- the same, where what is left is known
arguments-left : {s rest left : List Symbol} {t : ArgumentTrees} → rest ≡ left
    → DerivesArguments s t rest → DerivesArguments s t left
arguments-left {s} {rest} {left} {t} e d = subst (λ (k : List Symbol). DerivesArguments s t k) e d

targets-left : {s rest left : List Symbol} {t : List ReferenceTree} → rest ≡ left
    → DerivesTargets s t rest → DerivesTargets s t left
targets-left {s} {rest} {left} {t} e d = subst (λ (k : List Symbol). DerivesTargets s t k) e d

statement-left : {s rest left : List Symbol} {t : StatementTree} → rest ≡ left
    → DerivesStatement s t rest → DerivesStatement s t left
statement-left {s} {rest} {left} {t} e d = subst (λ (k : List Symbol). DerivesStatement s t k) e d

pub statements-left : {s rest left : List Symbol} {t : StatementTrees} → rest ≡ left
    → DerivesStatements s t rest → DerivesStatements s t left
statements-left {s} {rest} {left} {t} e d = subst (λ (k : List Symbol). DerivesStatements s t k) e d

-- the same, where the first symbols are known
kind-from : {s other rest : List Symbol} {t : StatementKindTree}
    → s ≡ other
    → DerivesKind other t rest
    → DerivesKind s t rest
kind-from {s} {other} {rest} {t} e d = subst (λ (k : List Symbol). DerivesKind k t rest) (sym e) d

-- what is read of a statement: no ELSE stands after an IF without one
abbrev pub IsStatementRead : List Symbol → StatementTree × List Symbol → Type 0
IsStatementRead s found =
    DerivesStatement s found.0 found.1
    × (ends_in_open_if found.0 ≡ true → at_word words.Else found.1 ≡ false)

abbrev pub IsKindRead : List Symbol → StatementKindTree × List Symbol → Type 0
IsKindRead s found =
    DerivesKind s found.0 found.1
    × (is_open_if found.0 ≡ true → at_word words.Else found.1 ≡ false)

abbrev pub GetsStatements : Parser StatementTree → Type 0
GetsStatements inner = (s : List Symbol) → Gets (IsStatementRead s) (inner s)

abbrev pub GetsDeclarations : Parser DeclarationTree → Type 0
GetsDeclarations inner = (s : List Symbol) → Gets (λ found. DerivesDeclaration s found.0 found.1) (inner s)

-- what is read of declarations and statements
abbrev pub IsBlockRead : List Symbol → (DeclarationTrees × StatementTrees) × List Symbol → Type 0
IsBlockRead s found =
    (middle : List Symbol)
    × DerivesDeclarations s found.0.0 middle
    × DerivesStatements middle found.0.1 found.1

abbrev pub GetsBlocks : BlockParser → Type 0
GetsBlocks inside = (s : List Symbol) → Gets (IsBlockRead s) (inside s)

-- lists
many_statements-gets : (inner : Parser StatementTree) → GetsStatements inner → (count : ℕ) (s : List Symbol)
    → Gets (λ found. DerivesStatements s (statements_of found.0) found.1)
    (many_items (at_word words.End) inner count s)
many_statements-gets inner sound zero s = gets_if (λ e. gets_ok no_statement) (λ _. gets_nothing)
many_statements-gets inner sound (suc count) s =
    gets_if (λ e. gets_ok no_statement) λ _.
    gets_bind (sound s) λ first h.
    gets_bind (many_statements-gets inner sound count first.1) λ others hs.
    gets_ok (next_statement h.0 hs)

statements-gets : (inner : Parser StatementTree) → GetsStatements inner → (s : List Symbol)
    → Gets (λ found. DerivesStatements s found.0 found.1) (statements inner s)
unfolding many
statements-gets inner sound s = gets_bind (many_statements-gets inner sound (length s) s) λ found h. gets_ok h

many_declarations-gets : (inner : Parser DeclarationTree)
    → GetsDeclarations inner
    → (count : ℕ) (s : List Symbol)
    → Gets (λ found. DerivesDeclarations s (declarations_of found.0) found.1)
    (many_items ends_declarations inner count s)
many_declarations-gets inner sound zero s = gets_if (λ e. gets_ok no_declaration) (λ _. gets_nothing)
many_declarations-gets inner sound (suc count) s =
    gets_if (λ e. gets_ok no_declaration) λ _.
    gets_bind (sound s) λ first h.
    gets_bind (many_declarations-gets inner sound count first.1) λ others hs.
    gets_ok (next_declaration h hs)

declarations-gets : (inner : Parser DeclarationTree) → GetsDeclarations inner → (s : List Symbol)
    → Gets (λ found. DerivesDeclarations s found.0 found.1) (declarations inner s)
unfolding many
declarations-gets inner sound s =
    gets_bind (many_declarations-gets inner sound (length s) s) λ found h. gets_ok h

pub block-gets : (declared : Parser DeclarationTree) (inner : Parser StatementTree)
    → GetsDeclarations declared
    → GetsStatements inner
    → GetsBlocks (block declared inner)
unfolding block
block-gets declared inner sound also s =
    gets_bind (declarations-gets declared sound s) λ first h.
    gets_bind (statements-gets inner also first.1) λ body hs.
    gets_ok (first.1, h, hs)

-- what stands after the statements of a DO
end_of_do-gets : (s : List Symbol)
    → Gets (λ r. (end : Place) × (s ≡ ReservedSymbol words.End ∷ SemicolonSymbol end ∷ r)) (end_of_do s)
end_of_do-gets s =
    gets_bind (word-gets words.End s) λ after e₁.
    gets_bind (semicolon-gets after) λ end e₂.
    gets_ok (end.0, cc)

-- statements, and END and a semicolon after them
abbrev IsBodyRead : List Symbol → StatementTrees × List Symbol → Type 0
IsBodyRead s found =
    (end : Place) × DerivesStatements s found.0 (ReservedSymbol words.End ∷ SemicolonSymbol end ∷ found.1)

body_of_do-gets : (inner : Parser StatementTree) → GetsStatements inner → (s : List Symbol)
    → Gets (IsBodyRead s) (body_of_do inner s)
unfolding body_of_do
body_of_do-gets inner sound s =
    gets_bind (statements-gets inner sound s) λ body h.
    gets_bind (end_of_do-gets body.1) λ rest e.
    gets_ok (e.0, statements-left e.1 h)

-- the name after END
abbrev IsEndRead : List Symbol → Option Identifier × List Symbol → Type 0
IsEndRead s got = (end : Place) × (s ≡ optional name_symbols got.0 (SemicolonSymbol end ∷ got.1))

end_name-gets : (strict : Bool) (own : Identifier) (found : Option Identifier) (s : List Symbol)
    → next_name s ≡ found
    → Gets (IsEndRead s) (end_name strict own found s)
end_name-gets strict own None s e = gets_bind (semicolon-gets s) λ end e₁. gets_ok (end.0, e₁)
end_name-gets strict own (Some found) s e =
    gets_if (λ _. gets_nothing) λ _.
    gets_bind (semicolon-gets (drop 1 s)) λ end e₁.
    let e₂ = next_name-is s found e in
    gets_ok {a = (Some found, end.1)} (end.0, cc)

pub ending-gets : (strict : Bool) (own : Identifier) (s : List Symbol)
    → Gets (λ got. (end : Place) × (s ≡ ending_symbols got.0 (SemicolonSymbol end ∷ got.1)))
    (ending strict own s)
unfolding ending
ending-gets strict own s =
    gets_bind (word-gets words.End s) λ after e₁.
    gets_more (end_name-gets strict own (next_name after) after refl) (λ got e₂. let e = e₂.1 in (e₂.0, cc))

-- each statement, after what it begins with
assignment-gets : (room : ℕ) (s : List Symbol) → Gets (IsKindRead s) (assignment (expression room) s)
unfolding assignment
assignment-gets room s =
    gets_bind (targets-derives room s) λ targets h.
    gets_bind (mark-gets marks.EqualSign targets.1) λ after e₁.
    gets_bind (expression-derives room after) λ value hs.
    gets_bind (semicolon-gets value.1) λ end e₂.
    gets_ok (assignment_line (targets-left e₁ h) (expression-left e₂ hs), λ open_if. absurd cc)

-- a statement after its first word
abbrev IsReadAfter : ReservedWord → Place → List Symbol → StatementKindTree × List Symbol → Type 0
IsReadAfter w place s found = IsKindRead (PlacedSymbol w place ∷ s) found

after-same : {w : ReservedWord} {place : Place} {s other rest : List Symbol} {t : StatementKindTree}
    → s ≡ other
    → DerivesKind (PlacedSymbol w place ∷ other) t rest → DerivesKind (PlacedSymbol w place ∷ s) t rest
after-same {w} {place} e d = kind-from (ap (λ k. PlacedSymbol w place ∷ k) e) d

call-gets : (room : ℕ) (place : Place) (s : List Symbol)
    → Gets (IsReadAfter words.Call place s) (call (expression room) place s)
unfolding call
call-gets room place s =
    gets_bind (name-gets s) λ procedure e₁.
    gets_bind (arguments-derives room procedure.1) λ found h.
    gets_bind (semicolon-gets found.1) λ end e₂.
    gets_ok (after-same e₁ (call_line (arguments-left e₂ h)), λ open_if. absurd cc)

return_value-gets : (room : ℕ) (place : Place) (s : List Symbol)
    → Gets (IsReadAfter words.Return place s) (return_value (expression room) place s)
unfolding return_value
return_value-gets room place s =
    gets_if
    (λ e. let found = at_semicolon-is s e in gets_ok (after-same found.1 return, λ open_if. absurd cc))
    λ _.
    gets_bind (expression-derives room s) λ value h.
    gets_bind (semicolon-gets value.1) λ end e₂.
    gets_ok (return_value_line (expression-left e₂ h), λ open_if. absurd cc)

halt-gets : (place : Place) (s : List Symbol) → Gets (IsReadAfter words.Halt place s) (halt place s)
halt-gets place s =
    gets_bind (semicolon-gets s) λ end e.
    gets_ok (after-same e halt_line, λ open_if. absurd cc)

goto-gets : (place : Place) (s : List Symbol) → Gets (IsReadAfter words.Goto place s) (goto place s)
unfolding goto
goto-gets place s =
    gets_bind (name-gets s) λ label e₁.
    gets_bind (semicolon-gets label.1) λ end e₂.
    gets_ok (after-same (e₁ ∙ ap (λ k. NameSymbol label.0 ∷ k) e₂) goto_line, λ open_if. absurd cc)

-- what is read of ELSE and its statement
data ElseRead (s : List Symbol) : ElseTree × List Symbol → Type 0 where
  no_else : at_word words.Else s ≡ false → ElseRead s (NoElse, s)
  some_else : {after rest : List Symbol} {t : StatementTree}
      → s ≡ ReservedSymbol words.Else ∷ after
      → at_word words.Else s ≡ true
      → DerivesStatement after t rest
      → (ends_in_open_if t ≡ true → at_word words.Else rest ≡ false)
      → ElseRead s (ElseStatement t, rest)

otherwise-gets : (inner : Parser StatementTree) → GetsStatements inner → (s : List Symbol)
    → Gets (ElseRead s) (otherwise inner s)
otherwise-gets inner sound s =
    gets_if
    (λ more.
    gets_bind (sound (drop 1 s)) λ other h.
    gets_ok (some_else (at_word-is words.Else s more) more h.0 h.1))
    (λ none. gets_ok (no_else none))

if-read : {place : Place} {s middle left : List Symbol} {condition : ExpressionTree} {body : StatementTree}
    → (found : ElseTree × List Symbol)
    → DerivesExpression expression_level s condition (ReservedSymbol words.Then ∷ middle)
    → DerivesStatement middle body left
    → (ends_in_open_if body ≡ true → at_word words.Else left ≡ false)
    → ElseRead left found
    → IsReadAfter words.If place s (IfStatement place condition body found.0, found.1)
if-read found d₁ d₂ open_if (no_else none) = (if_then d₁ d₂, λ _. none)
if-read {left = left} {body = body} found d₁ d₂ open_if (some_else e more d₃ later) =
    (if_then_else d₁ (statement-left e d₂) (closed (ends_in_open_if body) open_if) d₃, later)
  where
    closed : (b : Bool) → (b ≡ true → at_word words.Else left ≡ false) → b ≡ false
    closed true h = let none = h refl in absurd cc
    closed false h = refl

conditional-gets : (room : ℕ) (inner : Parser StatementTree)
    → GetsStatements inner
    → (place : Place) (s : List Symbol)
    → Gets (IsReadAfter words.If place s) (conditional (expression room) inner place s)
unfolding conditional
conditional-gets room inner sound place s =
    gets_bind (expression-derives room s) λ condition h.
    gets_bind (word-gets words.Then condition.1) λ after e₁.
    gets_bind (sound after) λ body hs.
    gets_bind (otherwise-gets inner sound body.1) λ other ho.
    gets_ok (if-read other (expression-left e₁ h) hs.0 hs.1 ho)

simple_do-gets : (inside : BlockParser) → GetsBlocks inside
    → (place start : Place) (s : List Symbol)
    → Gets (IsReadAfter words.Do place (SemicolonSymbol start ∷ s)) (simple_do inside place s)
unfolding simple_do
simple_do-gets inside sound place start s =
    gets_bind (sound s) λ found h.
    gets_bind (end_of_do-gets found.1) λ rest e.
    gets_ok (simple_do_line h.1 (statements-left e.1 h.2), λ open_if. absurd cc)

case_do-gets : (room : ℕ) (inner : Parser StatementTree)
    → GetsStatements inner
    → (place : Place) (s : List Symbol)
    → Gets (IsReadAfter words.Do place (ReservedSymbol words.Case ∷ s))
    (case_do (expression room) inner place s)
unfolding case_do
case_do-gets room inner sound place s =
    gets_bind (expression-derives room s) λ choice h.
    gets_bind (semicolon-gets choice.1) λ start e₁.
    gets_bind (body_of_do-gets inner sound start.1) λ body hs.
    gets_ok (do_case (expression-left e₁ h) hs.1, λ open_if. absurd cc)

loop_do-gets : (room : ℕ) (inner : Parser StatementTree)
    → GetsStatements inner
    → (place : Place) (s : List Symbol)
    → Gets (IsReadAfter words.Do place s) (loop_do (expression room) inner place s)
unfolding loop_do
loop_do-gets room inner sound place s =
    gets_bind (loop_head-gets room s) λ head h.
    gets_bind (semicolon-gets head.1) λ start e₁.
    gets_bind (body_of_do-gets inner sound start.1) λ body hs.
    gets_ok (do_loop (head-left e₁ h) hs.1, λ open_if. absurd cc)

-- what was read after symbols that are the same
after_same : {w : ReservedWord} {place : Place} {r : Reading StatementKindTree} (s other : List Symbol)
    → s ≡ other
    → Gets (IsReadAfter w place other) r → Gets (IsReadAfter w place s) r
after_same {w} {place} {r} s other e h = subst (λ (k : List Symbol). Gets (IsReadAfter w place k) r) (sym e) h

do_statement-gets : (room : ℕ) (inner : Parser StatementTree) (inside : BlockParser)
    → GetsStatements inner
    → GetsBlocks inside
    → (place : Place) (s : List Symbol)
    → Gets (IsReadAfter words.Do place s) (do_statement (expression room) inner inside place s)
unfolding do_statement
do_statement-gets room inner inside sound also place s =
    gets_if
    (λ e. let found = at_semicolon-is s e in after_same s _ found.1
    (simple_do-gets inside also place found.0 (drop 1 s)))
    λ _. gets_if
    (λ e. after_same s _ (at_word-is words.Case s e) (case_do-gets room inner sound place (drop 1 s)))
    (λ _. loop_do-gets room inner sound place s)

-- a statement without labels, by its first symbol
kind_by-gets : (room : ℕ) (inner : Parser StatementTree) (inside : BlockParser)
    → GetsStatements inner
    → GetsBlocks inside
    → (s : List Symbol)
    → Gets (IsKindRead s) (kind_by (expression room) inner inside (beginning_of s) s)
kind_by-gets room inner inside sound also [] = gets_nothing
kind_by-gets room inner inside sound also (NameSymbol n ∷ s) = assignment-gets room (NameSymbol n ∷ s)
kind_by-gets room inner inside sound also (NumberSymbol n ∷ s) = gets_nothing
kind_by-gets room inner inside sound also (StringSymbol t ∷ s) = gets_nothing
kind_by-gets room inner inside sound also (ReservedSymbol w ∷ s) = gets_nothing
kind_by-gets room inner inside sound also (UnknownSymbol ∷ s) = gets_nothing
kind_by-gets room inner inside sound also (MarkSymbol m ∷ s) = gets_nothing
kind_by-gets room inner inside sound also (SemicolonSymbol place ∷ s) = gets_ok (null, λ open_if. absurd cc)
kind_by-gets room inner inside sound also (PlacedSymbol words.Call place ∷ s) = call-gets room place s
kind_by-gets room inner inside sound also (PlacedSymbol words.Return place ∷ s) =
    return_value-gets room place s
kind_by-gets room inner inside sound also (PlacedSymbol words.Halt place ∷ s) = halt-gets place s
kind_by-gets room inner inside sound also (PlacedSymbol words.Goto place ∷ s) = goto-gets place s
kind_by-gets room inner inside sound also (PlacedSymbol words.If place ∷ s) =
    conditional-gets room inner sound place s
kind_by-gets room inner inside sound also (PlacedSymbol words.Do place ∷ s) =
    do_statement-gets room inner inside sound also place s
kind_by-gets room inner inside sound also (PlacedSymbol w place ∷ s) = gets_nothing

-- labels
labels-derive : (s : List Symbol) {t : StatementKindTree} {rest : List Symbol}
    → DerivesKind (after_labels s) t rest
    → DerivesStatement s (LabelledStatement (labels_before s) t) rest
labels-derive (NameSymbol n ∷ second ∷ more) {t} {rest} d =
    go (at_mark marks.Colon (second ∷ more)) refl (λ later. labels-derive more later) d
  where
    colon : at_mark marks.Colon (second ∷ more) ≡ true
        → NameSymbol n ∷ MarkSymbol marks.Colon ∷ more ≡ NameSymbol n ∷ second ∷ more
    colon e = ap (λ k. NameSymbol n ∷ k) (sym (at_mark-is marks.Colon (second ∷ more) e))

    go : (b : Bool) → at_mark marks.Colon (second ∷ more) ≡ b
        → (DerivesKind (after_labels more) t rest → DerivesStatement more
        (LabelledStatement (labels_before more) t) rest)
        → DerivesKind (if b then after_labels more else NameSymbol n ∷ second ∷ more) t rest
        → DerivesStatement (NameSymbol n ∷ second ∷ more)
        (LabelledStatement (if b then n ∷ labels_before more else []) t) rest
    go true e others d =
        subst (λ (k : List Symbol). DerivesStatement k (LabelledStatement (n ∷ labels_before more) t) rest)
        (colon e)
        (labelled (others d))
    go false e others d = unlabelled d
labels-derive (NameSymbol n ∷ []) d = unlabelled d
labels-derive [] d = unlabelled d
labels-derive (x ∷ more) d = unlabelled d

-- a statement with its labels
statement_by-gets : (room : ℕ) (inner : Parser StatementTree) (inside : BlockParser)
    → GetsStatements inner
    → GetsBlocks inside
    → (s : List Symbol)
    → Gets (IsStatementRead s) (statement_by (expression room) inner inside s)
statement_by-gets room inner inside sound also s =
    gets_bind (kind_by-gets room inner inside sound also (after_labels s)) λ found h.
    gets_ok (labels-derive s h.0, h.1)

procedure-gets : (strict : Bool) (inside : BlockParser) → GetsBlocks inside
    → GetsDeclarations (procedure strict inside)
unfolding procedure
procedure-gets strict inside sound s =
    gets_bind (heading-gets s) λ head h.
    gets_bind (semicolon-gets head.1) λ start e₁.
    gets_bind (sound start.1) λ found hs.
    gets_bind (ending-gets strict head.0.name found.1) λ its_end e₂.
    gets_ok
    (subst (λ (k : List Symbol). DerivesDeclaration k (ProcedureTree head.0 found.0.0 found.0.1 its_end.0)
    its_end.1)
    (sym (h.0 ∙ ap (heading_symbols head.0) e₁))
    (procedure_line start.0 e₂.0 hs.1 (statements-left e₂.1 hs.2)))

declare-gets : (s : List Symbol)
    → Gets (λ found. DerivesDeclaration (ReservedSymbol words.Declare ∷ s) found.0 found.1) (declare s)
unfolding declare
declare-gets s =
    gets_bind (elements-gets s) λ found h.
    gets_bind (semicolon-gets found.1) λ end e.
    gets_ok
    (subst (λ (k : List Symbol). DerivesDeclaration (ReservedSymbol words.Declare ∷ k) (DeclareTree found.0)
    end.1)
    (sym (h.0 ∙ ap (between_commas element_symbols found.0) e))
    (declare_line end.0 h.1.0 h.1.1))

declare_or-gets : (procedures : Parser DeclarationTree) → GetsDeclarations procedures
    → GetsDeclarations (declare_or procedures)
unfolding declare_or
declare_or-gets procedures sound s =
    gets_if
    (λ e.
    gets_more (declare-gets (drop 1 s)) λ found d.
    subst (λ (k : List Symbol). DerivesDeclaration k found.0 found.1) (sym (at_word-is words.Declare s e)) d)
    (λ _. sound s)

mutual
  unfolding statement declaration

  pub statement-gets : (strict : Bool) (room : ℕ) → GetsStatements (statement strict room)
  statement-gets strict zero s = gets_nothing
  statement-gets strict (suc room) s =
      statement_by-gets room (statement strict room)
      (block (declaration strict room) (statement strict room)) (statement-gets strict room)
      (block-gets (declaration strict room) (statement strict room) (declaration-gets strict room)
      (statement-gets strict room)) s

  pub declaration-gets : (strict : Bool) (room : ℕ) → GetsDeclarations (declaration strict room)
  declaration-gets strict zero s = declare_or-gets (λ others. Err TooDeep) (λ q. gets_nothing) s
  declaration-gets strict (suc room) s =
      declare_or-gets (procedure strict (block (declaration strict room) (statement strict room)))
      (procedure-gets strict (block (declaration strict room) (statement strict room))
      (block-gets (declaration strict room) (statement strict room) (declaration-gets strict room)
      (statement-gets strict room))) s
