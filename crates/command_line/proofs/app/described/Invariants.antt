use Rattle.command_line.proofs.Prelude.{◌≡◌, length, app_of, IsLocal, with_groups}
use Rattle.command_line.proofs.app.described.Given as goal

-- what is built, with what is left, is what all of it makes of the beginning
abbrev pub invariant-loop-rest : goal.invariant-loop-rest
invariant-loop-rest l = record {
  app : with_groups (app_of l.built) l.rest ≡ with_groups (app_of l.initial.built) l.initial.rest;
  local : IsLocal l.built;
}

abbrev pub decreases-loop-rest : goal.decreases-loop-rest
decreases-loop-rest l = length l.rest
