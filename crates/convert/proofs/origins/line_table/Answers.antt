use Rattle.convert.specs.{Assembly.{parts_of}, Edits.{changes_of}}
use Rattle.convert.proofs.LinesCounted.{one_row_each}
use Rattle.convert.proofs.origins.line_table.Goals as goal

pub returns-clause-rows : goal.returns-clause-rows
returns-clause-rows c =
    one_row_each (λ t. t.items) _ _ (parts_of c.args.assembly.now) (changes_of c.args.edits.now) _ _
    (rw (c.as_slice-places.ensures.value, c.counted.ensures, c.as_slice-2.ensures.value, c.in_ok-lines.ensures, c.as_slice.ensures.value) at c.rows.ensures)
