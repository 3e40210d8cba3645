-- The compact form in which a module stores expressions.
use Rattle.std.specs.Prelude.{true, false, if◌then◌else◌, Option, Some, None}
use Rattle.treecode.specs.declared.expression.ExpressionForm.{ExpressionForm}
use Rattle.treecode.specs.declared.expression.ExpressionForm.TheVariants as forms
use Rattle.treecode.specs.declared.reference.Reference.{Reference}
use Rattle.treecode.specs.declared.reference.Subscript.{Subscript}
use Rattle.treecode.specs.declared.reference.Target.TheVariants.{Stored, Sent}
use Rattle.treecode.specs.declared.stored.StoredKeeps.{StoredKeeps}
use Rattle.treecode.specs.declared.stored.StoredKeeps.TheVariants as kept
use Rattle.treecode.specs.declared.stored.StoredForm.{StoredForm}
use Rattle.treecode.specs.declared.stored.StoredForm.TheVariants as stored
use Rattle.treecode.specs.declared.stored.StoredReference.{StoredReference}
use Rattle.treecode.specs.declared.stored.StoredSubscript.{StoredSubscript}
use Rattle.treecode.specs.declared.stored.StoredSubscript.TheVariants.{Whole, Element}
use Rattle.treecode.specs.declared.stored.StoredTraits.{StoredTraits}
use Rattle.treecode.specs.declared.traits.Keeps.{Keeps}
use Rattle.treecode.specs.declared.traits.Traits.{Traits}

-- a subscript, if there is one
abbrev pub subscript_of : StoredSubscript → Option Subscript
subscript_of Whole = None
subscript_of (Element stride index) = Some (record { index = index; stride = stride })

abbrev pub reference_of : StoredReference → Reference
reference_of reference = record {
  object = reference.object;
  subscript = subscript_of reference.subscript;
  offset = reference.offset;
  member_subscript = subscript_of reference.member_subscript;
}

-- the form of an expression
abbrev pub form_of : StoredForm → ExpressionForm
form_of (stored.Number number) = forms.Number number
form_of (stored.Value reference) = forms.Value (reference_of reference)
form_of (stored.Location reference) = forms.Location (reference_of reference)
form_of (stored.List offset) = forms.List offset
form_of (stored.Conversion inner) = forms.Conversion inner
form_of (stored.Store from to reference value) = forms.Assignment (Stored from to (reference_of reference)) value
form_of (stored.Send from port value) = forms.Assignment (Sent from port) value
form_of (stored.Unary operator operand) = forms.Unary operator operand
form_of (stored.Binary operands operator left right) = forms.Binary operands operator left right
form_of (stored.Call procedure arguments) = forms.Call procedure arguments
form_of (stored.Function function operand) = forms.Function function operand
form_of (stored.Shift function value count) = forms.Shift function value count
form_of (stored.Input port) = forms.Input port

-- the registers that are kept
abbrev pub keeps_in : StoredKeeps → Keeps
keeps_in kept.Neither = record { a = false; de = false }
keeps_in kept.OnlyA = record { a = true; de = false }
keeps_in kept.OnlyDe = record { a = false; de = true }
keeps_in kept.Both = record { a = true; de = true }

-- the traits of an expression
abbrev pub traits_in : StoredTraits → Traits
traits_in traits = record {
  known = if traits.is_known then Some traits.known else None;
  height = traits.height;
  scalar = traits.scalar;
  is_quiet = traits.is_quiet;
  stores_nothing = traits.stores_nothing;
  is_free = traits.is_free;
  keeps = keeps_in traits.keeps;
}
