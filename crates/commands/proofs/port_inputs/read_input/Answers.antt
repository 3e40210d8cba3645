use Rattle.commands.proofs.{Prelude.{values_in}, InputFiles.{has_input, input_stops, same_texts}}
use Rattle.commands.proofs.port_inputs.read_input.Goals as goal

pub returns-in-Ok-add_texts-clause-input : goal.returns-in-Ok-add_texts-clause-input
returns-in-Ok-add_texts-clause-input g c =
    has_input _ (values_in c.args.values.now) _ _ c.as_slice-2.ensures.value (rw c.as_slice.ensures.value at c.in-Ok.ensures) _ _ _ c.in-Ok-read_files.ensures.texts (same_texts _ _ _ c.as_slice-in-Ok-read_files.ensures.value)
    c.in-Ok-add_texts.ensures

pub returns-clause-stops : goal.returns-clause-stops
returns-clause-stops g c = input_stops _ (values_in c.args.values.now) _ _ c.as_slice-2.ensures.value (rw c.as_slice.ensures.value at c.in-Ok.ensures) _ c.in-Err.ensures.stops
