use Rattle.typed_expressions.proofs.Prelude.{◌≡◌, type_view, runs_from}
use Rattle.typed_expressions.proofs.scalars.Scalars.goes_on.Given as goal

-- the members so far have no scalars
abbrev pub invariant-loop-position : goal.invariant-loop-position
invariant-loop-position l = record {
  left : runs_from (type_view l.object_type) l.position
      ≡ runs_from (type_view l.object_type) l.fn.self.position;
  kept : l.self ≡ l.fn.self;
}
