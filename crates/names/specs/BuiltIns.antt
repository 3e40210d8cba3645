-- What a use of a name is bound to: a declaration that is known there, or else a built-in procedure.
use Rattle.std.specs.Prelude.{ℕ, List, [], ◌∷◌, Option, codes}
use Rattle.std.specs.Map.{lookup}
use Rattle.std.specs.Option.{option_or, option_map, option_map_or}
use Rattle.std.specs.Str.{bytes_eq}
use Rattle.trees.specs.declared.functions.UnaryFunction.TheVariants.{Low, High, Double}
use Rattle.names.specs.declared.entity.Binding.{Binding}
use Rattle.names.specs.declared.entity.Binding.TheVariants.{Declared, BuiltInName, UnknownLabel}
use Rattle.names.specs.declared.entity.BuiltIn.{BuiltIn}
use Rattle.names.specs.declared.entity.BuiltIn.TheVariants.{Input, Output, Unary, Length, Last, Size, ShiftLeft, ShiftRight, RotateLeft, RotateRight, Move}
use Rattle.names.specs.Environment.{Here, entity_of, label_of}

-- the built-in procedures by their names
abbrev pub built_ins : List (List ℕ × BuiltIn)
built_ins =
    (codes "INPUT", Input) ∷ (codes "OUTPUT", Output) ∷ (codes "LOW", Unary Low) ∷ (codes "HIGH", Unary High)
    ∷ (codes "DOUBLE", Unary Double) ∷ (codes "LENGTH", Length) ∷ (codes "LAST", Last) ∷ (codes "SIZE", Size)
    ∷ (codes "SHL", ShiftLeft) ∷ (codes "SHR", ShiftRight) ∷ (codes "ROL", RotateLeft) ∷ (codes "ROR", RotateRight)
    ∷ (codes "MOVE", Move) ∷ []

unfoldable pub built_in_of : List ℕ → Option BuiltIn
built_in_of name = lookup (bytes_eq name) built_ins

-- What a use of a name is bound to, if the name is known. A declaration hides a built-in procedure of its name.
abbrev pub binding_of : Here → List ℕ → Option Binding
binding_of here name =
    option_or (option_map Declared (entity_of here name)) (option_map BuiltInName (built_in_of name))

-- the binding of the name after GOTO
abbrev pub jump_of : Here → List ℕ → Binding
jump_of here name = option_map_or Declared (label_of here name) UnknownLabel
