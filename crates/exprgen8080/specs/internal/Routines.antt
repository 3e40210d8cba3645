-- Products and quotients by the routines.
use Rattle.std.specs.Prelude.{ℕ, Bool, true, false, List, [], ◌∷◌, ◌++◌, Option, Some, None}
use Rattle.runtime8080.specs.declared.routine.Routine.TheVariants as routines
use Rattle.steps8080.specs.declared.step.Step.{Step}
use Rattle.steps8080.specs.declared.step.Step.TheVariants.{CallRoutine}
use Rattle.steps8080.specs.declared.sites.site.Site.{Site}
use Rattle.steps8080.specs.internal.Widths.{fits_byte}
use Rattle.operands8080.specs.declared.pairs.PairOrder.{PairOrder}
use Rattle.operands8080.specs.declared.pairs.PairOrder.TheVariants.{LeftInHl, RightInHl}
use Rattle.operands8080.specs.internal.Pairs.{pair_in_order_steps, pair_steps}
use Rattle.exprgen8080.specs.declared.byte_operators.Operands.{Operands}

-- the wanted order of the operands of a product: the routine is faster if DE is below 256
unfoldable pub product_order : (left_fits right_fits : Bool) → Option PairOrder
product_order false true = Some LeftInHl
product_order true false = Some RightInHl
product_order left_fits right_fits = None

-- puts the product of two operands that are not numbers into HL
unfoldable pub computed_product_steps : Site → Operands → (pushed : ℕ) → List Step
computed_product_steps site operands pushed =
    pair_in_order_steps site operands.left operands.right
    (product_order (fits_byte site operands.left) (fits_byte site operands.right)) pushed
    ++ (CallRoutine routines.Multiply ∷ [])

-- divides one operand by the other one: puts the quotient into HL, and the remainder into DE
unfoldable pub division_steps : Site → Operands → (pushed : ℕ) → List Step
division_steps site operands pushed =
    pair_steps site operands.left operands.right true pushed ++ (CallRoutine routines.Divide ∷ [])
