use Rattle.exprgen8080.proofs.Prelude.{refl}
use Rattle.steps8080.specs.declared.step.Step.TheVariants.{Holds, MemoryChanged}
use Rattle.exprgen8080.proofs.Emitting.{facts_alone_change}
use Rattle.exprgen8080.proofs.emission.Emission.step.Goals as goal

pub returns-in-Holds-clause-items : goal.returns-in-Holds-clause-items
returns-in-Holds-clause-items c =
    facts_alone_change c.args.tree.now c.args.self.now c.with-self.result c.args.step (Holds c.in-Holds.facts)
    c.in-Holds.is refl c.with-self.ensures

pub returns-in-MemoryChanged-clause-items : goal.returns-in-MemoryChanged-clause-items
returns-in-MemoryChanged-clause-items c =
    facts_alone_change c.args.tree.now c.args.self.now c.without_memory-self.result c.args.step MemoryChanged
    c.in-MemoryChanged.is refl c.without_memory-self.ensures
