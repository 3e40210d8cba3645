-- What reading expressions, and what is declared, gives, and how it ends.
use Rattle.syntax.proofs.Prelude.{◌≡◌, ℕ, Bool, true, false, nat_le, List, Some, None, if◌then◌else◌, refl, ◌∙◌, ap, arith, leb-true, leb-false, AllByRecursion, LeftParenthesis, expression_level, IsNotEmpty, IsElement, IsExpression, IsReference, AreArguments, expression_height, reference_height, arguments_height, between_commas, element_symbols, heading_symbols, expression_symbols, reference_symbols, arguments_symbols, Symbol, ExpressionTree, ReferenceTree, ArgumentTrees, ElementTree, element, heading, items, expression, reference, arguments, TooDeep, Reading, at_mark, ◌<◌, length, sym, subst, DerivesExpression, expression-spelled, expression-derived}
use Rattle.syntax.proofs.DeclarationLaws.{elements-sound, heading-sound}
use Rattle.syntax.proofs.ExpressionLaws.{depth_fault, EndsReference, EndsExpression, expression-sound, reference-sound, arguments-sound, expression-reads, reference-reads, arguments-reads, expression-long}
use Rattle.syntax.proofs.ListLaws.{gave}
use Rattle.syntax.proofs.StatementVerdictLists.{GetsSpelled}
use Rattle.syntax.proofs.StatementVerdictRules.{Verdict, fits, too_deep, Gets, gets_more, verdict_same}

pub expression-gets : (room : ℕ)
    → GetsSpelled expression_symbols (IsExpression expression_level) (expression room expression_level)
expression-gets room s =
    record { holds = λ a e. let h = expression-sound room expression_level (omega arith) s a.0 a.1 e in (h.0, h.1) }

pub reference-gets : (room : ℕ) → GetsSpelled reference_symbols IsReference (reference (expression room))
reference-gets room s = record { holds = λ a e. let h = reference-sound room s a.0 a.1 e in (h.0, h.1) }

pub arguments-gets : (room : ℕ) → GetsSpelled arguments_symbols AreArguments (arguments (expression room))
arguments-gets room s = record { holds = λ a e. let h = arguments-sound room s a.0 a.1 e in (h.0, h.1) }

-- the elements that DECLARE declares
abbrev pub elements_symbols : List ElementTree → List Symbol → List Symbol
elements_symbols elements rest = between_commas element_symbols elements rest

pub elements-gets : GetsSpelled elements_symbols (λ all. IsNotEmpty all × AllByRecursion IsElement all)
    (items element)
elements-gets s = record { holds = λ a e. let h = elements-sound s a.1 a.0 e in (h.0, (h.1, h.2)) }

pub heading-gets : GetsSpelled heading_symbols (λ h. Unit {0}) heading
heading-gets s = record { holds = λ a e. (heading-sound s a.1 a.0 e, tt) }

-- what fails only for the depth
depth-verdict : {A : Type 0} {r : Reading A} {a : A} {rest : List Symbol} {height room : ℕ} {strict : Bool}
    → r ≡ gave (depth_fault height room) a rest
    → Verdict r (a, rest) strict room height (Unit {0})
depth-verdict {r = r} {a = a} {rest = rest} {height = height} {room = room} {strict = strict} e =
    go (nat_le height room) refl
  where
    go : (b : Bool) → nat_le height room ≡ b → Verdict r (a, rest) strict room height (Unit {0})
    go true h =
        fits (e ∙ ap (λ t. gave (if t then None else Some TooDeep) a rest) h) (leb-true height room h)
        (λ _. tt)
    go false h =
        too_deep (e ∙ ap (λ t. gave (if t then None else Some TooDeep) a rest) h) (leb-false height room h)

pub expression-verdict : (strict : Bool) (room level : ℕ) (t : ExpressionTree) (r : List Symbol)
    → IsExpression level t
    → EndsExpression r
    → Verdict (expression room level (expression_symbols t r)) (t, r) strict room (expression_height t)
    (Unit {0})
expression-verdict strict room level t r h ends = depth-verdict (expression-reads room level t r h ends)

pub reference-verdict : (strict : Bool) (room : ℕ) (t : ReferenceTree) (r : List Symbol)
    → IsReference t
    → EndsReference r
    → Verdict (reference (expression room) (reference_symbols t r)) (t, r) strict room (reference_height t)
    (Unit {0})
reference-verdict strict room t r h ends = depth-verdict (reference-reads room t r h ends)

pub arguments-verdict : (strict : Bool) (room : ℕ) (t : ArgumentTrees) (r : List Symbol)
    → AreArguments t
    → at_mark LeftParenthesis r ≡ false
    → Verdict (arguments (expression room) (arguments_symbols t r)) (t, r) strict room (arguments_height t)
    (Unit {0})
arguments-verdict strict room t r h ends = depth-verdict (arguments-reads room t r h ends)

-- an expression that is derived: its length, what is read, and how that ends
pub expression-shorter : {level : ℕ} {s r : List Symbol} {t : ExpressionTree}
    → DerivesExpression level s t r
    → length r < length s
expression-shorter {level} {s} {r} {t} d =
    omega (arith, expression-long t r, ap length (expression-spelled d).0)

pub expression-derives : (room : ℕ) (s : List Symbol)
    → Gets (λ found. DerivesExpression expression_level s found.0 found.1)
    (expression room expression_level s)
expression-derives room s =
    gets_more (expression-gets room s) λ found h.
    subst (λ (k : List Symbol). DerivesExpression expression_level k found.0 found.1) (sym h.0)
    (expression-derived expression_level found.0 found.1 h.1)

pub expression-left : {level : ℕ} {s rest left : List Symbol} {t : ExpressionTree} → rest ≡ left
    → DerivesExpression level s t rest → DerivesExpression level s t left
expression-left {level} {s} {rest} {left} {t} e d =
    subst (λ (k : List Symbol). DerivesExpression level s t k) e d

pub derived_expression : (strict : Bool) (room : ℕ) {s r : List Symbol} {t : ExpressionTree}
    → DerivesExpression expression_level s t r
    → EndsExpression r
    → Verdict (expression room expression_level s) (t, r) strict room (expression_height t) (Unit {0})
derived_expression strict room {s} {r} {t} d ends =
    let h = expression-spelled d in
    verdict_same (ap (expression room expression_level) h.0)
    (expression-verdict strict room expression_level t r h.1 ends)
