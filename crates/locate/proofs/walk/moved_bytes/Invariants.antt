use Rattle.locate.proofs.Prelude.{◌≡◌, ◌+◌, ◌≤◌, ◌++◌, length, gain_at, plan_view, values_from, fixes_after}
use Rattle.locate.specs.internal.Views.{walk_view}
use Rattle.locate.proofs.walk.moved_bytes.Given as goal

abbrev pub invariant-loop-rest : goal.invariant-loop-rest
invariant-loop-rest l = record {
  room : l.walk.offset + length l.rest ≤ 65536;
  bytes :
      l.bytes.items ++ values_from (gain_at (plan_view l.plan)) (walk_view l.walk) l.rest
      ≡ values_from (gain_at (plan_view l.plan)) (walk_view l.initial.walk) l.initial.rest;
  fixes :
      fixes_after (gain_at (plan_view l.plan)) (walk_view l.walk) l.rest
      ≡ fixes_after (gain_at (plan_view l.plan)) (walk_view l.initial.walk) l.initial.rest;
}

abbrev pub decreases-loop-rest : goal.decreases-loop-rest
decreases-loop-rest l = length l.rest
