use Rattle.commands.proofs.Converted.{are_put, if_old_converted, if_old_refused}
use Rattle.commands.proofs.Prelude.{refl}
use Rattle.commands.proofs.converting.converted_old.Goals as goal

pub returns-clause-converted : goal.returns-clause-converted
returns-clause-converted g c = if_old_converted _ _ _ _ _ _ _ _ _
    (are_put _ _ _ _ _ c.in-Ok.entries.items _ c.in_ok-source.source.items _ c.in_ok-source.ensures.plain refl c.requires (rw c.as_slice.ensures.value at c.in-Ok.ensures.included)
    (rw (c.as_slice-2.ensures.value, c.as_slice-3.ensures.value, c.as_slice-sets.ensures.value) at c.in_ok-assembly.ensures))
    (rw c.as_slice-4.ensures.value at c.converted_assembly.ensures.made)

pub returns-clause-refused : goal.returns-clause-refused
returns-clause-refused g c = if_old_refused _ _ _ _ _ _ _ _ _ _
    (are_put _ _ _ _ _ c.in-Ok.entries.items _ c.in_ok-source.source.items _ c.in_ok-source.ensures.plain refl c.requires (rw c.as_slice.ensures.value at c.in-Ok.ensures.included)
    (rw (c.as_slice-2.ensures.value, c.as_slice-3.ensures.value, c.as_slice-sets.ensures.value) at c.in_ok-assembly.ensures))
    c.in-Ok.ensures.count (rw c.as_slice-4.ensures.value at c.converted_assembly.ensures.refused)
