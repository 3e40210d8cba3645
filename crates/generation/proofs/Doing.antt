-- Code that is added for one expression or location does what that means.
use Rattle.generation.proofs.Prelude.{sym, subst}
use Rattle.steps8080.specs.{declared.step.Part.{Part}, declared.sites.site.Site.{Site}}
use Rattle.exprgen8080.specs.{declared.emission.Emission.{Emission}, internal.Emission.{IsWritten}, internal.Emitted.{Emits, NotesCalled}, internal.Labelled.{IsLabelled}}
use Rattle.exprgen8080.proofs.CodeLaws.{part_is_code}
use Rattle.program_laws.proofs.CarriedOut.{emitted_does}
use Rattle.generation.specs.internal.Doing.{CodeDoes}

-- in each body with the site of the code
pub code_does :
    (site : Site) (part : Part) (before after : Emission)
    → Emits site part before after
    → CodeDoes site part before after
code_does site part before after emits = record {
  code = record {
    emits = emits;
    is_code = part_is_code before.steps.labels after.steps.labels emits.written emits.labels;
  };
  does = λ context from to same sound called there.
      let code :
      (written : IsWritten context.site after.is_called.items before.facts part emits.list after.facts)
      × IsLabelled written before.steps.labels after.steps.labels =
      subst
      (λ (one : Site).
      (written : IsWritten one after.is_called.items before.facts part emits.list after.facts)
      × IsLabelled written before.steps.labels after.steps.labels)
      (sym same) (emits.written, emits.labels) in
      emitted_does context {part = part} {before = before} {after = after} from to sound
      (record {
        list = emits.list;
        writes = emits.writes;
        written = code.0;
        called = emits.called;
        notes =
            subst
            (λ (one : Site).
            NotesCalled one.tree.now before.is_called.items after.is_called.items emits.list)
            (sym same) emits.notes;
        steps = emits.steps;
        labels = code.1;
      })
      called there;
}
