-- The names that the proofs of this crate cite, passed on from one place. Declares nothing.
pub use Rattle.std.proofs.{Common.{Bool, List, None, Option, Some, [], add-one, ap, arith, false, length, nat_lt, not, refl, replicate, suc, sym, true, zero, ℕ, ◌++◌, ◌+◌, ◌-◌, ◌<◌, ◌||◌, ◌∙◌, ◌≡◌}, lemmas.Bool.{lt-ltb}, lemmas.List.{append-nil, append_assoc}}
pub use Rattle.treecode.specs.{internal.Queries.{target as target_at}, declared.expression.ExpressionNumber.{ExpressionNumber}, declared.lists.Range.{Range}, declared.reference.Target.{Target}}
pub use Rattle.statements8080.specs.internal.Assignments.{any_target, each_at, each_steps, store_at, stores_steps}
pub use Rattle.statements8080.specs.internal.Plans.{PlanAdds, all, plain, steps_from}
pub use Rattle.statements8080.specs.internal.Adding.{IsAdding}
