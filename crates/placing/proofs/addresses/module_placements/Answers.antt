-- The placements, and the segments that are left, after one module more.
use Rattle.placing.proofs.Prelude.{ap, Bases, bases_view, code_placements}
use Rattle.placing.proofs.Passes.{module_placed, code_within, code_left, data_within, data_left}
use Rattle.placing.proofs.addresses.module_placements.Goals as goal

pub bases_after-bases-requires-clause-code : goal.bases_after-bases-requires-clause-code
bases_after-bases-requires-clause-code c =
    code_within c.loop-rest.lengths.now c.loop-rest.bases.code_base c.in-len1-up-lengths.len_at_least
    c.loop-rest.invariant.1

pub bases_after-bases-requires-clause-variables : goal.bases_after-bases-requires-clause-variables
bases_after-bases-requires-clause-variables c =
    data_within c.loop-rest.storages.now c.layout-item.result c.loop-rest.bases.data_base
    c.in-len1-up-storages.len_at_least c.layout-item.is c.loop-rest.invariant.2

pub loop-rest-preserved : goal.loop-rest-preserved
loop-rest-preserved c = (
  module_placed (bases_view c.loop-rest.bases) (bases_view c.bases_after-bases.result)
      c.loop-rest.placements.items
      c.push.new.self.items
      (code_placements c.args.first c.args.modules.now c.args.layouts.now c.args.code_lengths.now)
      c.loop-rest.rest.now c.loop-rest.storages.now c.loop-rest.lengths.now c.typed-item.result
      c.layout-item.result
      c.in_ok-placed.placed c.loop-rest.invariant.0 c.in-len1-up.len_at_least c.typed-item.is
      c.in-len1-up-storages.len_at_least c.layout-item.is c.in-len1-up-lengths.len_at_least
      c.in_ok-placed.ensures.ok
      c.in_ok-push.ensures.items c.bases_after-bases.ensures,
  code_left c.loop-rest.lengths.now c.loop-rest.bases.code_base c.bases_after-bases.result.code_base
      c.in-len1-up-lengths.len_at_least c.loop-rest.invariant.1
      (ap (λ (bases : Bases). bases.code_base) c.bases_after-bases.ensures),
  data_left c.loop-rest.storages.now c.layout-item.result c.loop-rest.bases.data_base
      c.bases_after-bases.result.data_base
      c.in-len1-up-storages.len_at_least c.layout-item.is c.loop-rest.invariant.2
      (ap (λ (bases : Bases). bases.data_base) c.bases_after-bases.ensures),
)
