-- Code with other targets of its fixes.
use Rattle.std.specs.Prelude.{map}
use Rattle.object_modules.specs.declared.segment.Fix.{Fix}
use Rattle.object_modules.specs.declared.segment.Target.{Target}
use Rattle.asm8080.specs.Assembled.{Assembled}

-- a fix with another target
abbrev pub retargeted : (Target → Target) → Fix → Fix
retargeted to fix = record { kind = fix.kind; target = to fix.target; offset = fix.offset }

-- code with other targets of its fixes
abbrev pub with_targets : (Target → Target) → Assembled → Assembled
with_targets to code = record code { fixes = map (retargeted to) code.fixes }
