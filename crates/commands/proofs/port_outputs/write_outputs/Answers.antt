use Rattle.commands.proofs.{Prelude.{◌∙◌, refl, port_file_in}, OutputFiles.{others_left, output_left, output_stops, written_on}}
use Rattle.commands.proofs.port_outputs.write_outputs.Goals as goal

pub loop-rest-preserved : goal.loop-rest-preserved
loop-rest-preserved g c = record {
  count = c.in-Ok.ensures.count ∙ c.loop-rest.invariant.count;
  written = written_on port_file_in (λ output. output.items) _ _ _ _ _ c.loop-rest.rest.now c.loop-rest.outputs.now _ _ c.bytes-item.result _ c.in-len1-up.len_at_least c.in-len1-up-outputs.len_at_least refl c.bytes-item.is
      (rw c.as_slice.ensures.value at c.in-Ok.ensures.ok) c.write_output.ensures.others c.loop-rest.invariant.written;
}

pub returns-in-Err-Fault-clause-others : goal.returns-in-Err-Fault-clause-others
returns-in-Err-Fault-clause-others g c = others_left port_file_in (λ output. output.items) _ _ _ _ _ c.loop-rest.rest.now c.loop-rest.outputs.now _ _ c.in-len1-up.len_at_least refl
    c.write_output.ensures.others c.loop-rest.invariant.written

pub returns-in-Err-Memory-clause-others : goal.returns-in-Err-Memory-clause-others
returns-in-Err-Memory-clause-others g c = others_left port_file_in (λ output. output.items) _ _ _ _ _ c.loop-rest.rest.now c.loop-rest.outputs.now _ _ c.in-len1-up.len_at_least refl
    c.write_output.ensures.others c.loop-rest.invariant.written

pub returns-in-Err-Fault-clause-stopped : goal.returns-in-Err-Fault-clause-stopped
returns-in-Err-Fault-clause-stopped g c = output_stops port_file_in (λ output. output.items) _ _ _ _ _ c.loop-rest.rest.now c.loop-rest.outputs.now _ _ c.bytes-item.result _ c.in-len1-up.len_at_least c.in-len1-up-outputs.len_at_least refl c.bytes-item.is
    (rw c.as_slice.ensures.value at c.in-Err-Fault.ensures.stopped) c.loop-rest.invariant.written

pub returns-in-Err-Fault-clause-left : goal.returns-in-Err-Fault-clause-left
returns-in-Err-Fault-clause-left g c = output_left port_file_in (λ output. output.items) _ _ _ _ _ c.loop-rest.rest.now c.loop-rest.outputs.now _ _ c.bytes-item.result _ c.in-len1-up.len_at_least c.in-len1-up-outputs.len_at_least refl c.bytes-item.is
    (rw c.as_slice.ensures.value at c.in-Err-Fault.ensures.stopped) c.loop-rest.invariant.written

pub returns-in-Err-Memory-clause-left : goal.returns-in-Err-Memory-clause-left
returns-in-Err-Memory-clause-left g c = output_left port_file_in (λ output. output.items) _ _ _ _ _ c.loop-rest.rest.now c.loop-rest.outputs.now _ _ c.bytes-item.result _ c.in-len1-up.len_at_least c.in-len1-up-outputs.len_at_least refl c.bytes-item.is
    (rw c.as_slice.ensures.value at c.in-Err-Memory.ensures.stopped) c.loop-rest.invariant.written
