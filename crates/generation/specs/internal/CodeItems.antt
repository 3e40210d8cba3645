-- The items of the code of an object module, and how many bytes those of its bodies push.
use Rattle.std.specs.Prelude.{ℕ, suc, ◌-◌, Bool, true, false, List, [], ◌∷◌, ◌++◌}
use Rattle.object_modules.specs.declared.segment.Target.{Target}
use Rattle.object_modules.specs.Module.{ObjectModule}
use Rattle.typed_trees.specs.Charge.{charge_of}
use Rattle.typed_trees.specs.TypedTrees.{TypedModule, TypedProcedure}
use Rattle.asm8080.specs.Assembled.{Assembled}
use Rattle.asm8080.specs.declared.item.Item.{Item}
use Rattle.treecode.specs.declared.module.TreeModule.{TreeModule}
use Rattle.treecode.specs.declared.procedure.ProcedureKind.{ProcedureKind}
use Rattle.treecode.specs.declared.procedure.ProcedureKind.TheVariants as kinds
use Rattle.treecode.specs.declared.procedure.TreeProcedure.{TreeProcedure}
use Rattle.frames.specs.internal.Calls.{call_bytes}
use Rattle.steps8080.specs.internal.Writer.{Written}
use Rattle.codegen8080.specs.internal.Modules.{AreCodeOf, IsCodeOf, IsCodeOfMain, IsCodeWritten, IsSegmentOf, has_main}
use Rattle.measure_laws.specs.internal.Heights.{PushesAtMost}

-- The items whose bytes the code segment of an object module has: they were written for tree code.
pub record HasItems (tree : TreeModule) (object : ObjectModule) : Type 0 where
  pub start : ℕ
  pub code : Written
  pub bytes : Assembled
  pub to : Target → Target
  pub written : IsCodeWritten tree start code
  pub segment : IsSegmentOf code bytes to object.code

-- The statements and the end of a procedure push at most what is left of its charge after what its call has on the
-- stack. That is at most the return address, a word for each parameter, and the variables of a frame. An EXTERNAL
-- procedure has no code.
abbrev pub ProcedurePushes :
    (tree : TreeModule) (called : List Bool) (number : ℕ) (procedure : TreeProcedure) (heading : TypedProcedure)
    (kind : ProcedureKind) (list : List Item)
    → IsCodeOf tree called number procedure kind list → Type 0
ProcedurePushes tree called number procedure heading (kinds.External name) list code = Unit {0}
ProcedurePushes tree called number procedure heading kinds.Static list code =
    PushesAtMost tree (charge_of heading - call_bytes heading) (code.statements ++ code.ending)
ProcedurePushes tree called number procedure heading kinds.Reentrant list code =
    PushesAtMost tree (charge_of heading - call_bytes heading) (code.statements ++ code.ending)

-- each procedure, by its heading, in their order
abbrev pub ProceduresPush :
    (tree : TreeModule) (called : List Bool) (number : ℕ) (procedures : List TreeProcedure)
    (headings : List TypedProcedure) (list : List Item)
    → AreCodeOf tree called number procedures list → Type 0
ProceduresPush tree called number [] [] list code = Unit {0}
ProceduresPush tree called number (procedure ∷ procedures) (heading ∷ headings) list code =
    ProcedurePushes tree called number procedure heading procedure.kind code.0 code.2
    × ProceduresPush tree called (suc number) procedures headings code.1 code.3
ProceduresPush tree called number procedures headings list code = ⊥

-- the main program, if there is one, pushes at most its charge
abbrev pub MainPushes :
    (tree : TreeModule) (called : List Bool) (start : ℕ) (main : TypedProcedure) (is_there : Bool)
    (list : List Item)
    → IsCodeOfMain tree called start is_there list → Type 0
MainPushes tree called start main true list code = PushesAtMost tree (charge_of main) code.statements
MainPushes tree called start main false list code = Unit {0}

-- The bodies of an object module push no more than the charges of its module leave, by these items of its code.
pub record BodiesPushWithinCharges
    (tree : TreeModule) (typed : TypedModule) (object : ObjectModule) (items : HasItems tree object) : Type 0 where
  pub procedures :
      ProceduresPush tree items.written.called 0 tree.procedures.items typed.procedures
      items.written.own_is.procedures items.written.own_is.procedures_are
  pub main :
      MainPushes tree items.written.called items.start typed.main (has_main tree) items.written.own_is.main
      items.written.own_is.main_is
