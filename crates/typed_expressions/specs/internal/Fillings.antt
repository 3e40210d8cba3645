-- The scalars of an object that the code has still to fill, and the values so far.
use Rattle.std.specs.Prelude.{ℕ, List, [], ◌∷◌, ◌++◌, map, replicate, drop, flat_map, Option, Some, None, Ok, ◌≡◌, nat_lt}
use Rattle.trees.specs.declared.declaration.ScalarType.{ScalarType}
use Rattle.typed_trees.specs.declared.parts.InitialValue.{InitialValue}
use Rattle.typed_trees.specs.declared.parts.TypedMember.{TypedMember}
use Rattle.typed_trees.specs.TypedTrees.{ObjectType, ScalarObject, StructureObject}
use Rattle.typed_trees.specs.Sizes.{count_of, scalars_of_elements}
use Rattle.typed_expressions.specs.declared.filling.Filling.{Filling}
use Rattle.typed_expressions.specs.declared.filling.Reach.{Reach as CodeReach}
use Rattle.typed_expressions.specs.declared.filling.Reach.TheVariants as reaches
use Rattle.typed_expressions.specs.declared.filling.RestrictedValue.{RestrictedValue as CodeValue}
use Rattle.typed_expressions.specs.declared.filling.RestrictedValue.TheVariants as code_values
use Rattle.typed_expressions.specs.declared.scalars.Run.{Run}
use Rattle.typed_expressions.specs.declared.scalars.Scalars.{Scalars}
use Rattle.typing.specs.declared.fault.Cause.TheVariants.{ImpliedWithoutValues}
use Rattle.typing.specs.References.{Known}
use Rattle.trees.specs.declared.identifier.Place.{Place}
use Rattle.trees.specs.Trees.{RestrictedTree}
use Rattle.typing.specs.internal.Checks.{Checked, ◌>>=◌, require}
use Rattle.typing.specs.Filling.{Reach, ThisModule, OtherModulesToo, RestrictedValue, ANumber, FromObject, Filled, elements_for}
use Rattle.typing.specs.internal.FillingChecks.{fill}

abbrev pub reach_view : CodeReach → Reach
reach_view reaches.ThisModule = ThisModule
reach_view reaches.OtherModulesToo = OtherModulesToo

abbrev pub value_view : CodeValue → RestrictedValue
value_view (code_values.Number number) = ANumber number
value_view (code_values.FromObject object offset) = FromObject object offset

-- the scalars of a run
abbrev pub scalars_of_run : Run → List ScalarType
scalars_of_run run = replicate run.count run.scalar

-- an element as runs: one of a scalar, or one for each member
abbrev pub run_of_member : TypedMember → Run
run_of_member member = record { scalar = member.scalar; count = count_of member.dimension }

abbrev pub runs_of : ObjectType → List Run
runs_of (ScalarObject scalar) = record { scalar = scalar; count = 1 } ∷ []
runs_of (StructureObject members) = map run_of_member members

-- the scalars of the runs from a position on
abbrev pub runs_from : ObjectType → ℕ → List ScalarType
runs_from object_type position = flat_map scalars_of_run (drop position (runs_of object_type))

-- the scalars that are left: of a run, of the runs after it in its element, and of the elements after that
unfoldable pub left_of : ObjectType → Scalars → List ScalarType
left_of object_type scalars =
    scalars_of_run scalars.run ++ (runs_from object_type scalars.position
    ++ scalars_of_elements scalars.elements object_type)

-- one scalar was taken from these, or there was none
abbrev pub Takes : (before : List ScalarType) → Option ScalarType → (after : List ScalarType) → Type 0
Takes before None after = (before ≡ []) × (after ≡ [])
Takes before (Some scalar) after = before ≡ scalar ∷ after

abbrev pub first_of : List ScalarType → Option ScalarType
first_of [] = None
first_of (scalar ∷ others) = Some scalar

-- the values so far, and the scalars that are left to fill
abbrev pub filled_view : ObjectType → Filling → Filled
filled_view object_type filling = record {
  values = filling.values.items;
  left = left_of object_type filling.scalars;
}

-- the values that are filled, after those that were there before
abbrev pub onto : List InitialValue → Checked Filled → Checked Filled
onto before checked =
    checked >>= (λ (filled : Filled). Ok (record filled { values = before ++ filled.values }))

-- the values alone that fill scalars
abbrev pub values_filled : Known → List RestrictedTree → List ScalarType → Checked (List InitialValue)
values_filled known values scalars = fill known values scalars >>= (λ (filled : Filled). Ok filled.values)

-- the dimension of an array that is as long as its list
abbrev pub elements_listed : (place : Place) → (used each : ℕ) → Checked ℕ
elements_listed place used each =
    require (nat_lt 0 used) ImpliedWithoutValues place >>= (λ holds. Ok (elements_for used each))
