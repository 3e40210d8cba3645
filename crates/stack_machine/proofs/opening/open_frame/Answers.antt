-- The module and its procedure are there.
use Rattle.stack_machine.proofs.Prelude.{modules_in}
use Rattle.stack_machine.proofs.ModuleSlots.{module_stands, procedure_stands}
use Rattle.stack_machine.proofs.opening.open_frame.Goals as goal

pub bounds-slots-number_of_module : goal.bounds-slots-number_of_module
bounds-slots-number_of_module c =
    module_stands (modules_in c.args.joined.now) c.args.number_of_module c.args.procedure c.args.slots.now
    c.requires.slots c.requires.found

pub open-requires : goal.open-requires
open-requires c =
    procedure_stands (modules_in c.args.joined.now) c.args.number_of_module c.args.procedure c.args.slots.now
    c.index-slots-number_of_module.result c.requires.slots c.index-slots-number_of_module.is c.requires.found
