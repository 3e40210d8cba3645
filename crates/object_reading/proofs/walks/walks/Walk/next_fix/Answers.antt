use Rattle.object_reading.proofs.Prelude.{sym, ap, ◌∙◌, Walking}
use Rattle.object_reading.proofs.FixEntries.{entries_then}
use Rattle.object_reading.proofs.NextFixes.{fix_handed}
use Rattle.object_reading.proofs.walks.walks.Walk.next_fix.Goals as goal

pub invariant_of-self : goal.invariant_of-self
invariant_of-self c =
    let cursor = c.fixes_from-cursor.result in
    record {
      names = c.self.invariant.names;
      after_names = c.self.invariant.after_names;
      definitions = c.self.invariant.definitions;
      after_definitions = c.self.invariant.after_definitions;
      contents = c.self.invariant.contents;
      fixes =
          entries_then cursor.target cursor.kind cursor.entries.now c.in-Some.fix c.in-Some.entries.now
          c.fixes_from-cursor.ensures.entries (sym c.in-Some.ensures);
      after_fixes = c.fixes_from-cursor.ensures.rest;
    }

pub returns-in-Some-clause-next : goal.returns-in-Some-clause-next
returns-in-Some-clause-next c =
    let cursor = c.fixes_from-cursor.result in
    sym (ap (λ (w : Walking). w.fixes) c.self.view_is)
    ∙ sym c.fixes_from-cursor.ensures.left
    ∙ fix_handed cursor.own cursor.target cursor.kind cursor.entries.now c.in-Some.fix c.in-Some.entries.now
    cursor.rest.now c.fixes_from-cursor.ensures.entries (sym c.in-Some.ensures)
