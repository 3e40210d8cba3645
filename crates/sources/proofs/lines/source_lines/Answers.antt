use Rattle.trees.specs.internal.Views.{module_tree}
use Rattle.sources.proofs.lines.source_lines.Goals as goal

pub returns : goal.returns
returns c = record {
  each = record {
    tree = module_tree c.in_ok-parsed.parsed;
    read = c.in_ok-parsed.ensures;
    each = c.in_ok-lines.ensures;
  };
}
