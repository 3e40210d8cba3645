-- The laws of reading expressions, passed on from one place. Declares nothing.
pub use Rattle.syntax.proofs.ExpressionDepths.{
  depth_fault,
  depth_fault-within,
  depth_fault-over,
  depth_fault-cases,
  depth_fault-same,
  depth_fault-suc,
  depth_fault-max,
  after,
  bind_gave,
  after-gave,
  after-read,
  after-after,
  after-deep,
}
pub use Rattle.syntax.proofs.ExpressionReads.{
  EndsReference,
  EndsExpression,
  expression_fault,
  expression-positive,
  expression-reads,
  reference-reads,
  arguments-reads,
  targets-reads,
}
pub use Rattle.syntax.proofs.ExpressionSound.{
  expression-long,
  reference-long,
  arguments-long,
  expression-sound,
  reference-sound,
  arguments-sound,
  targets-sound,
  expression-shrinks,
  expression-keeps,
  reference-shrinks,
  reference-keeps,
  arguments-keeps,
}
pub use Rattle.syntax.proofs.ExpressionOperators.{operators-enough, all_operators-step}
