-- Planners that take no label, as a special case of those that may take some.
use Rattle.exprgen8080.proofs.Prelude.{List, ap, Step, Steps, Adds, AddsWithLabels, label_after}

pub none_taken : (before after : Steps) (list : List Step)
    → Adds before after list
    → AddsWithLabels before after 0 (λ first. list)
none_taken before after list adds = record {
  added = adds.added;
  labels = ap (λ label. label_after label 0) adds.labels;
}
