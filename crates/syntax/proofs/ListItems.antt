-- What the lists of items need.
use Rattle.syntax.proofs.DeclarationItems.{name-keeps, member-keeps, restricted-keeps, element-keeps}
use Rattle.syntax.proofs.ListLoops.{constant-keeps, map_same}

-- no item adds symbols
pub ruleset listed = (constant-keeps, name-keeps, member-keeps, restricted-keeps, element-keeps, map_same)
