use Rattle.object_reading.proofs.NextFixes.{fix_entries, nothing_follows, on_none}
use Rattle.object_reading.proofs.walks.cursor_fixes.fixes_after.Goals as goal

pub returns-in_err-read-clause-none : goal.returns-in_err-read-clause-none
returns-in_err-read-clause-none c =
    on_none c.from_residual.result _ (nothing_follows c.args.own c.args.rest.now c.in_err-read.ensures.none)

pub returns-clause-entries : goal.returns-clause-entries
returns-clause-entries c =
    fix_entries c.args.own c.in_ok-target.target c.in_ok-target.kind c.args.rest.now
    c.in_ok-read.read.body.now
    c.in_ok-target.entries.now c.in_ok-read.read.kind c.requires c.in_ok-read.ensures.no_fault
    c.in_ok-read.ensures.of_type c.in_ok-read.ensures.body c.in_ok-target.ensures
