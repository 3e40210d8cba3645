-- The head of a loop: it has a symbol at least, what is read of it is derived, and if it is derived, it is
-- read again.
use Rattle.syntax.proofs.Prelude.{◌≡◌, ℕ, Bool, List, ◌∷◌, drop, length, Option, Some, None, refl, sym, ◌∙◌, ap, subst, Identifier, Place, DerivesExpression, DerivesHead, while_head, count_head, count_by_head, expression_level, Symbol, NameSymbol, ReservedSymbol, MarkSymbol, SemicolonSymbol, ExpressionTree, LoopHeadTree, CountHead, StatementTree, expression, Parser, BlockParser, step, iteration, loop_head, loop_do, do_statement, ◌<◌, arith, iteration_height, head_height, IterationTree}
use Rattle.words.specs.declared.vocabulary.Mark.TheVariants as marks
use Rattle.words.specs.declared.vocabulary.ReservedWord.TheVariants as words
use Rattle.syntax.proofs.ReaderLemmas.{at_word-is}
use Rattle.syntax.proofs.StatementVerdictRules.{Gets, gets_ok, gets_bind, gets_if, Verdict, verdict_ok, verdict_bind, verdict_last, verdict_as, mark-gets, word-gets, name-gets}
use Rattle.syntax.proofs.ExpressionVerdicts.{expression-shorter, expression-derives, expression-left, derived_expression}

pub head-shorter : {s r : List Symbol} {t : LoopHeadTree} → DerivesHead s t r → length r < length s
head-shorter (while_head d) = omega (arith, expression-shorter d)
head-shorter (count_head d₁ d₂) = omega (arith, expression-shorter d₁, expression-shorter d₂)
head-shorter (count_by_head d₁ d₂ d₃) =
    omega (arith, expression-shorter d₁, expression-shorter d₂, expression-shorter d₃)

-- where what is left, or the first symbols, are known
pub head-left : {s rest left : List Symbol} {t : LoopHeadTree} → rest ≡ left
    → DerivesHead s t rest → DerivesHead s t left
head-left {s} {rest} {left} {t} e d = subst (λ (k : List Symbol). DerivesHead s t k) e d

head-from : {s other rest : List Symbol} {t : LoopHeadTree}
    → s ≡ other
    → DerivesHead other t rest
    → DerivesHead s t rest
head-from {s} {other} {rest} {t} e d = subst (λ (k : List Symbol). DerivesHead k t rest) (sym e) d

-- BY and a step, or none
data StepRead (s : List Symbol) : Option ExpressionTree × List Symbol → Type 0 where
  no_step : StepRead s (None, s)
  some_step : {after rest : List Symbol} {t : ExpressionTree}
      → s ≡ ReservedSymbol words.By ∷ after
      → DerivesExpression expression_level after t rest
      → StepRead s (Some t, rest)

step-gets : (room : ℕ) (s : List Symbol) → Gets (StepRead s) (step (expression room) s)
step-gets room s =
    gets_if
    (λ more.
    gets_bind (expression-derives room (drop 1 s)) λ found h.
    gets_ok (some_step (at_word-is words.By s more) h))
    (λ _. gets_ok no_step)

-- what is read
abbrev pub IsHeadRead : List Symbol → LoopHeadTree × List Symbol → Type 0
IsHeadRead s found = DerivesHead s found.0 found.1

head-read : {variable : Identifier} {first last : ExpressionTree} {s symbols to left : List Symbol}
    → (found : Option ExpressionTree × List Symbol)
    → s ≡ NameSymbol variable ∷ MarkSymbol marks.EqualSign ∷ symbols
    → DerivesExpression expression_level symbols first (ReservedSymbol words.To ∷ to)
    → DerivesExpression expression_level to last left
    → StepRead left found
    → IsHeadRead s
    (CountHead (record { variable = variable; first = first; last = last; step = found.0 }), found.1)
head-read found e d₁ d₂ no_step = head-from e (count_head d₁ d₂)
head-read found e d₁ d₂ (some_step e₁ d₃) = head-from e (count_by_head d₁ (expression-left e₁ d₂) d₃)

iteration-gets : (room : ℕ) (s : List Symbol)
    → Gets (λ found. IsHeadRead s (CountHead found.0, found.1)) (iteration (expression room) s)
unfolding iteration
iteration-gets room s =
    gets_bind (name-gets s) λ its_variable e₁.
    gets_bind (mark-gets marks.EqualSign its_variable.1) λ after e₂.
    gets_bind (expression-derives room after) λ its_first h₁.
    gets_bind (word-gets words.To its_first.1) λ to e₃.
    gets_bind (expression-derives room to) λ its_last h₂.
    gets_bind (step-gets room its_last.1) λ its_step h₃.
    gets_ok (head-read its_step (e₁ ∙ ap (λ k. NameSymbol its_variable.0 ∷ k) e₂) (expression-left e₃ h₁) h₂
    h₃)

pub loop_head-gets : (room : ℕ) (s : List Symbol) → Gets (IsHeadRead s) (loop_head (expression room) s)
unfolding loop_head
loop_head-gets room s =
    gets_if
    (λ e.
    gets_bind (expression-derives room (drop 1 s)) λ condition h.
    gets_ok (head-from (at_word-is words.While s e) (while_head h)))
    λ _.
    gets_bind (iteration-gets room s) λ found h.
    gets_ok h

-- how it ends
iteration-verdict : (strict : Bool) (room : ℕ) (counted : IterationTree) (start : Place) (s r : List Symbol)
    → DerivesHead s (CountHead counted) (SemicolonSymbol start ∷ r)
    → Verdict (iteration (expression room) s) (counted, SemicolonSymbol start ∷ r) strict room
    (iteration_height counted) (Unit {0})
unfolding iteration
iteration-verdict strict room counted start s r (count_head d₁ d₂) =
    verdict_as
    (verdict_bind _ (derived_expression strict room d₁ (refl, refl, refl))
    (verdict_bind _ (derived_expression strict room d₂ (refl, refl, refl)) verdict_ok))
    refl (λ _. tt) (λ _. (tt, (tt, tt)))
iteration-verdict strict room counted start s r (count_by_head d₁ d₂ d₃) =
    verdict_as
    (verdict_bind _ (derived_expression strict room d₁ (refl, refl, refl))
    (verdict_bind _ (derived_expression strict room d₂ (refl, refl, refl))
    (verdict_last _ (verdict_last _ (derived_expression strict room d₃ (refl, refl, refl)) refl) refl)))
    refl (λ _. tt) (λ _. (tt, (tt, tt)))

pub head-verdict : (strict : Bool) (room : ℕ) (head : LoopHeadTree) (start : Place) (s r : List Symbol)
    → DerivesHead s head (SemicolonSymbol start ∷ r)
    → Verdict (loop_head (expression room) s) (head, SemicolonSymbol start ∷ r) strict room
    (head_height head) (Unit {0})
unfolding loop_head
head-verdict strict room head start s r (while_head d) =
    verdict_last _ (derived_expression strict room d (refl, refl, refl)) refl
head-verdict strict room head start s r (count_head d₁ d₂) =
    verdict_last _ (iteration-verdict strict room _ start _ r (count_head d₁ d₂)) refl
head-verdict strict room head start s r (count_by_head d₁ d₂ d₃) =
    verdict_last _ (iteration-verdict strict room _ start _ r (count_by_head d₁ d₂ d₃)) refl

-- it begins neither with a semicolon nor with CASE
pub does_loop : (room : ℕ) (inner : Parser StatementTree) (inside : BlockParser) (place : Place)
    {s r : List Symbol} {head : LoopHeadTree}
    → DerivesHead s head r
    → do_statement (expression room) inner inside place s ≡ loop_do (expression room) inner place s
unfolding do_statement
does_loop room inner inside place (while_head d) = refl
does_loop room inner inside place (count_head d₁ d₂) = refl
does_loop room inner inside place (count_by_head d₁ d₂ d₃) = refl
