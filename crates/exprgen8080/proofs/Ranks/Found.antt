-- Operands inside others, and parts of memory, that code finds in trees.
use Rattle.exprgen8080.proofs.Prelude.{◌≡◌, if◌then◌else◌, Bool, Expression, ExpressionForm, ExpressionNumber, IfSome, None, Option, Reference, ScalarType, Site, Some, TreeModule, byte_taken, expression, false, form_in_memory, high_byte_in_memory, high_in_memory, high_of, inside, keeps_of_address, memory, operand_in_memory, option_and_then, option_map, plain_in_memory, reference_after, refl, same_low_byte, true, word_in_memory, word_of, ℕ}
use Rattle.trees.specs.declared.declaration.ScalarType.TheVariants as scalars
use Rattle.trees.proofs.TakenBytes.{by_byte}
use Rattle.treecode.specs.declared.expression.ExpressionForm.TheVariants as forms
use Rattle.exprgen8080.proofs.Ranks.{Joining.{HasLowParts, IsPlaced, IsUnder, weak}, Trees.{HasParts, has_parts}}

inside_form :
    (site : Site) (limit : ℕ) (number : ExpressionNumber) (form : ExpressionForm)
    → HasLowParts site.tree.now limit number → HasParts site.tree.now limit form
    → HasLowParts site.tree.now limit (inside number form)
inside_form site limit number (forms.Conversion inner) is has = weak has
inside_form site limit number (forms.Function function operand) is has =
    by_byte (λ one. HasLowParts site.tree.now limit one) (byte_taken function) operand number (λ _. weak has)
    (λ _. is)
inside_form site limit number form is has = is

same_low :
    (site : Site) (limit : ℕ) (number : ExpressionNumber)
    → HasLowParts site.tree.now limit number
    → HasLowParts site.tree.now limit (same_low_byte site number)
unfolding same_low_byte
same_low site limit number is = by (expression site number) refl
  where
    by : (found : Option Expression) → expression site number ≡ found
        → HasLowParts site.tree.now limit (elim found [ Some one ↦ inside number one.form | None ↦ number ])
    by (Some one) there = inside_form site limit number one.form is (has_parts site is there)
    by None there = is

-- a part of memory further on has the same subscripts
placed_after :
    {tree : TreeModule} {limit : ℕ} {reference : Reference} (distance : ℕ)
    → IsPlaced tree limit reference
    → IsPlaced tree limit (reference_after reference distance)
placed_after distance is = record { rises = is.rises; small = is.small }

word_form :
    (tree : TreeModule) (limit : ℕ) (form : ExpressionForm) (scalar : ScalarType)
    → HasParts tree limit form
    → IfSome (word_of form scalar) (IsPlaced tree limit)
word_form tree limit (forms.Value reference) scalars.Address has = has
word_form tree limit (forms.Value reference) scalars.Byte has = tt
word_form tree limit form scalar has = tt

-- the word of an expression in memory
word_is_in_memory :
    (site : Site) (limit : ℕ) (number : ExpressionNumber)
    → HasLowParts site.tree.now limit number
    → IfSome (word_in_memory site number) (IsPlaced site.tree.now limit)
unfolding word_in_memory
word_is_in_memory site limit number is = by (expression site number) refl
  where
    by : (found : Option Expression) → expression site number ≡ found
        → IfSome (option_and_then (λ (one : Expression). word_of one.form one.traits.scalar) found)
        (IsPlaced site.tree.now limit)
    by (Some one) there = word_form site.tree.now limit one.form one.traits.scalar (has_parts site is there)
    by None there = tt

-- its high byte
pub high_is_in_memory :
    (site : Site) (limit : ℕ) (number : ExpressionNumber)
    → IsUnder site.tree.now limit number
    → IfSome (high_byte_in_memory site number) (IsPlaced site.tree.now limit)
unfolding high_byte_in_memory
high_is_in_memory site limit number is =
    by (word_in_memory site number) (word_is_in_memory site limit number (weak is))
  where
    by : (found : Option Reference) → IfSome found (IsPlaced site.tree.now limit)
        → IfSome (option_map (λ reference. reference_after reference 1) found) (IsPlaced site.tree.now limit)
    by (Some reference) has = placed_after 1 has
    by None has = tt

high_form :
    (tree : TreeModule) (limit : ℕ) (form : ExpressionForm) (scalar : ScalarType)
    → HasParts tree limit form
    → IfSome (high_of form scalar) (IsPlaced tree limit)
high_form tree limit (forms.Value reference) scalars.Address has = placed_after 1 has
high_form tree limit (forms.Value reference) scalars.Byte has = tt
high_form tree limit form scalar has = tt

high_of_operand :
    (site : Site) (limit : ℕ) (number : ExpressionNumber)
    → HasLowParts site.tree.now limit number
    → IfSome (high_in_memory site number) (IsPlaced site.tree.now limit)
unfolding high_in_memory
high_of_operand site limit number is = by (expression site number) refl
  where
    by : (found : Option Expression) → expression site number ≡ found
        → IfSome (option_and_then (λ (one : Expression). high_of one.form one.traits.scalar) found)
        (IsPlaced site.tree.now limit)
    by (Some one) there = high_form site.tree.now limit one.form one.traits.scalar (has_parts site is there)
    by None there = tt

plain_form :
    (site : Site) (limit : ℕ) (form : ExpressionForm)
    → HasParts site.tree.now limit form
    → IfSome (form_in_memory site form) (IsPlaced site.tree.now limit)
plain_form site limit (forms.Value reference) has = has
plain_form site limit (forms.Function function operand) has =
    by_byte (λ found. IfSome found (IsPlaced site.tree.now limit)) (byte_taken function) None
    (high_in_memory site operand) (λ _. tt) (λ _. high_of_operand site limit operand (weak has))
plain_form site limit form has = tt

plain_is_in_memory :
    (site : Site) (limit : ℕ) (number : ExpressionNumber)
    → HasLowParts site.tree.now limit number
    → IfSome (plain_in_memory site number) (IsPlaced site.tree.now limit)
unfolding plain_in_memory
plain_is_in_memory site limit number is = by (expression site number) refl
  where
    by : (found : Option Expression) → expression site number ≡ found
        → IfSome (option_and_then (λ (one : Expression). form_in_memory site one.form) found)
        (IsPlaced site.tree.now limit)
    by (Some one) there = plain_form site limit one.form (has_parts site is there)
    by None there = tt

-- the low byte of an expression in memory
pub is_in_memory :
    (site : Site) (limit : ℕ) (number : ExpressionNumber)
    → HasLowParts site.tree.now limit number
    → IfSome (memory site number) (IsPlaced site.tree.now limit)
unfolding memory
is_in_memory site limit number is =
    plain_is_in_memory site limit (same_low_byte site (same_low_byte site number))
    (same_low site limit (same_low_byte site number) (same_low site limit number is))

pub operand_is_in_memory :
    (site : Site) (limit : ℕ) (number : ExpressionNumber)
    → IsUnder site.tree.now limit number
    → IfSome (operand_in_memory site number) (IsPlaced site.tree.now limit)
unfolding operand_in_memory
operand_is_in_memory site limit number is = by (memory site number) (is_in_memory site limit number (weak is))
  where
    chosen : (b : Bool) (reference : Reference) → IsPlaced site.tree.now limit reference
        → IfSome (if b then Some reference else None) (IsPlaced site.tree.now limit)
    chosen true reference has = has
    chosen false reference has = tt

    by : (found : Option Reference) → IfSome found (IsPlaced site.tree.now limit)
        → IfSome
        (option_and_then (λ reference. if (keeps_of_address site reference).a then Some
        reference else None) found)
        (IsPlaced site.tree.now limit)
    by (Some reference) has = chosen (keeps_of_address site reference).a reference has
    by None has = tt
