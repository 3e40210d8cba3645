-- What code that is added for one expression or location does on the machine.
use Rattle.std.specs.Prelude.{◌≡◌, ℕ}
use Rattle.code_meaning.specs.internal.Activations.{IsThere}
use Rattle.steps8080.specs.declared.step.Part.{Part}
use Rattle.steps8080.specs.declared.sites.site.Site.{Site}
use Rattle.exprgen8080.specs.declared.emission.Emission.{Emission}
use Rattle.exprgen8080.specs.internal.Code.{AddsCodeOfPart}
use Rattle.exprgen8080.specs.internal.Emitted.{HasAll}
use Rattle.program_laws.specs.internal.CodeContexts.{Context, IsSound}
use Rattle.program_laws.specs.internal.Tasks.{PartDoes}

-- The items added to code are the code of a part, and from the first of them to the last the machine does what the part
-- says. They may stand anywhere in a body with this site, of a module whose code calls the routines that they and the
-- code before them call. What is known at their start is what was known at the end of the code before.
pub record CodeDoes (site : Site) (part : Part) (before after : Emission) : Type 0 where
  pub code : AddsCodeOfPart site part before after
  pub does :
      (context : Context) (from to : ℕ)
      → context.site ≡ site
      → IsSound context
      → HasAll after.is_called.items context.called
      → IsThere context.activation code.emits.list from to
      → PartDoes context before.facts part from after.facts to
