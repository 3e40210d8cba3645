use Rattle.stack_compiler.proofs.Prelude.{◌≡◌, ◌++◌, drop, length, map, procedure_view, procedures_code_from, site_view}
use Rattle.stack_compiler.specs.internal.Counted.{SoFar, numbered_bodies}
use Rattle.stack_compiler.proofs.procedures.emit_procedures.Given as goal

abbrev pub invariant-loop-number : goal.invariant-loop-number
invariant-loop-number l =
    (l.code.items ++ procedures_code_from (site_view l.site) l.number
    (map procedure_view (drop l.number l.procedures))
    ≡ l.fn.code.items ++ procedures_code_from (site_view l.site) 0 (map procedure_view l.procedures))
    × SoFar (length (map procedure_view l.procedures)) (numbered_bodies (map procedure_view l.procedures))
    (numbered_bodies (map procedure_view (drop l.number l.procedures))) l.fn.marks l.marks
