use Rattle.explained_commands.proofs.Prelude.{◌≡◌, ◌+◌, length, texts, table_count, tables_after}
use Rattle.explained_commands.proofs.asking.table_names.Given as goal

-- what was added, with what the words that are left name, is what all name
abbrev pub invariant-loop-rest : goal.invariant-loop-rest
invariant-loop-rest l = length l.tables.items + tables_after (texts l.rest) ≡ table_count (texts l.words)

abbrev pub decreases-loop-rest : goal.decreases-loop-rest
decreases-loop-rest l = length l.rest
