-- How much of the stack the procedures of a module that a text is are charged at most.
use Rattle.std.specs.Prelude.{◌≡◌, ℕ, ◌≤◌, length, All, Some, slice_get}
use Rattle.typed_trees.specs.declared.limits.TheConstants.{PARAMETER_LIMIT}
use Rattle.typed_trees.specs.Charge.{charge_of}
use Rattle.typed_trees.specs.TypedTrees.{TypedProcedure, TypedModule}

-- the parameters of each procedure are not more than may be
abbrev pub HasFewParameters : TypedModule → Type 0
HasFewParameters typed =
    (number : ℕ) (found : TypedProcedure) → slice_get typed.procedures number ≡ Some found
    → length found.parameter_types ≤ PARAMETER_LIMIT

-- A limit of charges, which no source passes: 10 bytes, 16 parameters of two bytes, 1024 bytes of variables in a frame, and two bytes
-- for each of 17 * 64 levels, since a level of a text makes an expression at most 17 higher: a call of 16
-- arguments does.
abbrev pub charge_limit : ℕ
charge_limit = 3242

-- neither a procedure nor the main program of a module is charged more
pub record ChargesFit (typed : TypedModule) : Type 0 where
  pub procedures :
      All (λ (procedure : TypedProcedure). charge_of procedure ≤ charge_limit) typed.procedures
  pub main : charge_of typed.main ≤ charge_limit
