-- The labels to which calls refer.
use Rattle.std.specs.Prelude.{◌≡◌, ℕ, Bool, true, List}
use Rattle.runtime8080.specs.declared.routine.Routine.{Routine}
use Rattle.steps8080.specs.declared.sites.site.Site.{Site}
use Rattle.exprgen8080.specs.internal.Emission.{call_items, has_routine, label_of_routine}
use Rattle.codegen8080.specs.internal.ItemLabels.{ItemsGo}

-- the routines that are called, and procedures, are among the labels
pub record Knows (ok : ℕ → Type 0) (site : Site) (called : List Bool) : Type 0 where
  pub routines : (routine : Routine) → has_routine called routine ≡ true → ok (label_of_routine site routine).index
  pub calls : (procedure : ℕ) → ItemsGo ok (call_items site procedure)
