-- Each statement and each declaration is derived from a symbol at least.
use Rattle.syntax.proofs.Prelude.{◌≤◌, ◌<◌, List, ◌∷◌, length, Option, Some, None, ap, arith, Identifier, DerivesReference, DerivesArguments, DerivesTargets, last_target, next_target, DerivesStatement, labelled, unlabelled, DerivesKind, null, return, halt, if_then, if_then_else, do_loop, do_case, DerivesStatements, no_statement, next_statement, DerivesDeclaration, DerivesDeclarations, no_declaration, next_declaration, element_symbols, ending_symbols, Symbol, SemicolonSymbol, ReferenceTree, ArgumentTrees, StatementTree, StatementKindTree, StatementTrees, DeclarationTree, DeclarationTrees, reference-spelled, arguments-spelled}
use Rattle.grammar.specs.Derivation.{assignment, call, return_value, goto, simple_do, declare, procedure}
use Rattle.syntax.proofs.DeclarationLaws.{heading-reads, heading-shrinks}
use Rattle.syntax.proofs.ExpressionLaws.{reference-long, arguments-long}
use Rattle.syntax.proofs.DeclarationItems.{between_commas-lengthens, element-lengthens}
use Rattle.syntax.proofs.ExpressionVerdicts.{expression-shorter}
use Rattle.syntax.proofs.Heads.{head-shorter}

ending_symbols-long : (n : Option Identifier) (r : List Symbol) → length r < length (ending_symbols n r)
ending_symbols-long None r = omega arith
ending_symbols-long (Some n) r = omega arith

reference-shorter : {s r : List Symbol} {t : ReferenceTree} → DerivesReference s t r → length r < length s
reference-shorter {s} {r} {t} d = omega (arith, reference-long t r, ap length (reference-spelled d).0)

arguments-shorter : {s r : List Symbol} {t : ArgumentTrees} → DerivesArguments s t r → length r ≤ length s
arguments-shorter {s} {r} {t} d = omega (arith, arguments-long t r, ap length (arguments-spelled d).0)

targets-shorter : {s r : List Symbol} {t : List ReferenceTree} → DerivesTargets s t r → length r < length s
targets-shorter (last_target d) = reference-shorter d
targets-shorter (next_target d ds) = omega (arith, reference-shorter d, targets-shorter ds)

mutual
  pub statement-shorter : {s r : List Symbol} {t : StatementTree}
      → DerivesStatement s t r
      → length r < length s
  statement-shorter (labelled d) = omega (arith, statement-shorter d)
  statement-shorter (unlabelled d) = kind-shorter d

  kind-shorter : {s r : List Symbol} {t : StatementKindTree} → DerivesKind s t r → length r < length s
  kind-shorter null = omega arith
  kind-shorter (assignment d₁ d₂) = omega (arith, targets-shorter d₁, expression-shorter d₂)
  kind-shorter (call d) = omega (arith, arguments-shorter d)
  kind-shorter return = omega arith
  kind-shorter (return_value d) = omega (arith, expression-shorter d)
  kind-shorter halt = omega arith
  kind-shorter goto = omega arith
  kind-shorter (if_then d₁ d₂) = omega (arith, expression-shorter d₁, statement-shorter d₂)
  kind-shorter (if_then_else d₁ d₂ e d₃) =
      omega (arith, expression-shorter d₁, statement-shorter d₂, statement-shorter d₃)
  kind-shorter (simple_do d₁ d₂) = omega (arith, declarations-shorter d₁, statements-shorter d₂)
  kind-shorter (do_loop d₁ d₂) = omega (arith, head-shorter d₁, statements-shorter d₂)
  kind-shorter (do_case d₁ d₂) = omega (arith, expression-shorter d₁, statements-shorter d₂)

  statements-shorter : {s r : List Symbol} {t : StatementTrees}
      → DerivesStatements s t r
      → length r ≤ length s
  statements-shorter no_statement = omega arith
  statements-shorter (next_statement d ds) = omega (arith, statement-shorter d, statements-shorter ds)

  pub declaration-shorter : {s r : List Symbol} {t : DeclarationTree}
      → DerivesDeclaration s t r
      → length r < length s
  declaration-shorter {s} {r} (declare end {elements} some all) =
      omega (
        arith,
        between_commas-lengthens element_symbols element-lengthens elements
            (SemicolonSymbol end ∷ r),
      )
  declaration-shorter {s} {r} (procedure start end {heading} {symbols} {middle} {rest} {declared} {body}
      {end_name} d₁ d₂) =
      omega (
        arith,
        declarations-shorter d₁,
        statements-shorter d₂,
        ending_symbols-long end_name (SemicolonSymbol end ∷ r),
        heading-shrinks _ _ heading (heading-reads heading start symbols),
      )

  declarations-shorter : {s r : List Symbol} {t : DeclarationTrees}
      → DerivesDeclarations s t r
      → length r ≤ length s
  declarations-shorter no_declaration = omega arith
  declarations-shorter (next_declaration d ds) = omega (arith, declaration-shorter d, declarations-shorter ds)
