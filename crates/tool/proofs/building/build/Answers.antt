use Rattle.tool.proofs.Prelude.{texts_of}
use Rattle.tool.proofs.{CompiledLemmas.{within_texts}, SourcesLemmas.{too_long}}
use Rattle.tool.proofs.building.build.Goals as goal

pub returns-clause-too_long : goal.returns-clause-too_long
returns-clause-too_long c file below long =
    too_long c.build_few.result (texts_of c.args.sources.now) c.args.plan.now file c.build_few.ensures.program
    c.build_few.ensures.refused c.build_few.ensures.order (within_texts c.args.sources.now file below) long
