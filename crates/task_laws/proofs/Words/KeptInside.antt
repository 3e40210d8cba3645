-- The registers that the code of a conversion to ADDRESS, or of a function that gives one, keeps are kept by the code of
-- its operand.
use Rattle.task_laws.proofs.Prelude.{◌≡◌, true, Option, Some, None, refl, sym, subst, option_map_or, false≢true, Byte, ExpressionForm, Place, Reference, Keeps, Nodes, form_at, keeps_none, keeps_of, keeps_of_byte, keeps_of_form, memory_of_inner, same_low_byte, inl, inr}
use Rattle.trees.proofs.TakenBytes.{taken}
use Rattle.treecode.proofs.TakenBytes.{low_byte_of_itself, not_in_memory}
use Rattle.treecode.specs.declared.expression.ExpressionForm.TheVariants as forms
use Rattle.treecode.specs.internal.Traits.{keeps_of_address}

-- the registers that one keeps are kept by the other
pub record IsKeptBy (less more : Keeps) : Type 0 where
  pub a : less.a ≡ true → more.a ≡ true
  pub de : less.de ≡ true → more.de ≡ true

pub kept_same : (keeps : Keeps) → IsKeptBy keeps keeps
kept_same keeps = record { a = λ is. is; de = λ is. is }

pub kept_nothing : (more : Keeps) → IsKeptBy keeps_none more
kept_nothing more = record { a = λ is. absurd (false≢true is); de = λ is. absurd (false≢true is) }

abbrev in_memory : Nodes → Option Reference → Keeps
in_memory nodes found = option_map_or (keeps_of_address nodes) found keeps_none

-- a form in memory is not looked through
same_twice : (nodes : Nodes) (form : ExpressionForm)
    → IsKeptBy (in_memory nodes (memory_of_inner nodes form))
    (in_memory nodes (memory_of_inner nodes (same_low_byte nodes form)))
same_twice nodes (forms.Number n) = kept_nothing _
same_twice nodes (forms.Value reference) = kept_same _
same_twice nodes (forms.Location reference) = kept_nothing _
same_twice nodes (forms.List offset) = kept_nothing _
same_twice nodes (forms.Conversion inner) = kept_nothing _
same_twice nodes (forms.Assignment target value) = kept_nothing _
same_twice nodes (forms.Unary operator operand) = kept_nothing _
same_twice nodes (forms.Binary operands operator left right) = kept_nothing _
same_twice nodes (forms.Call procedure given) = kept_nothing _
same_twice nodes (forms.Function function operand) =
    elim (taken function) [
      | inl low ↦
          subst
          (λ (found : Option Reference). IsKeptBy (in_memory nodes found)
          (in_memory nodes (memory_of_inner nodes (same_low_byte nodes (forms.Function function operand)))))
          (sym (not_in_memory nodes function operand low)) (kept_nothing _)
      | inr high ↦
          subst
          (λ (form : ExpressionForm).
          IsKeptBy (in_memory nodes (memory_of_inner nodes (forms.Function function operand)))
          (in_memory nodes (memory_of_inner nodes form)))
          (sym (low_byte_of_itself nodes function operand high)) (kept_same _)
    ]
same_twice nodes (forms.Shift function value count) = kept_nothing _
same_twice nodes (forms.Input port) = kept_nothing _

-- a byte inside
inside_kept : (nodes : Nodes) (form : ExpressionForm)
    → IsKeptBy (in_memory nodes (memory_of_inner nodes (same_low_byte nodes form)))
    (keeps_of_form nodes Byte form)
inside_kept nodes (forms.Number n) = kept_nothing _
inside_kept nodes (forms.Value reference) = kept_same _
inside_kept nodes (forms.Location reference) = kept_nothing _
inside_kept nodes (forms.List offset) = kept_nothing _
inside_kept nodes (forms.Conversion inner) = same_twice nodes (form_at nodes inner (forms.Conversion inner))
inside_kept nodes (forms.Assignment target value) = kept_nothing _
inside_kept nodes (forms.Unary operator operand) = kept_nothing _
inside_kept nodes (forms.Binary operands operator left right) = kept_nothing _
inside_kept nodes (forms.Call procedure given) = kept_nothing _
inside_kept nodes (forms.Function function operand) =
    same_twice nodes (same_low_byte nodes (forms.Function function operand))
inside_kept nodes (forms.Shift function value count) = kept_nothing _
inside_kept nodes (forms.Input port) = kept_nothing _

known_kept : (nodes : Nodes) (less : Keeps) (place : Option Place) (form : ExpressionForm)
    → IsKeptBy less (keeps_of_form nodes Byte form)
    → IsKeptBy less (keeps_of nodes Byte place form)
known_kept nodes less None form kept = kept
known_kept nodes less (Some place) form kept = record { a = λ is. refl; de = λ is. refl }

-- of a form that looks through to a node
pub byte_inside_kept :
    (nodes : Nodes) (outer form : ExpressionForm) (place : Option Place)
    → same_low_byte nodes outer ≡ form
    → IsKeptBy (keeps_of_byte nodes outer) (keeps_of nodes Byte place form)
byte_inside_kept nodes outer form place same =
    known_kept nodes (keeps_of_byte nodes outer) place form
    (subst (λ (one : ExpressionForm). IsKeptBy
    (in_memory nodes (memory_of_inner nodes (same_low_byte nodes one))) (keeps_of_form nodes Byte form))
    (sym same) (inside_kept nodes form))
