use Rattle.tool.proofs.Prelude.{length, map, rules, length-map, module_view, texts_of, ToolFault, AreWithoutFault, HasCause, IsInOrder, HasBuildCause}
use Rattle.tool.proofs.{CompiledLemmas.{handed_on, passed}, SourcesLemmas.{build_cause, build_order, lengths_fit, made_all, marked_all, program_built, storages_fit}}
use Rattle.tool.proofs.building.build_few.Goals as goal

pub build_program-requires-clause-storages : goal.build_program-requires-clause-storages
build_program-requires-clause-storages c =
    storages_fit (texts_of c.args.sources.now) c.in_ok-compiled.compiled.items
    c.in_ok-parts.parts.modules.items c.in_ok-parts.parts.storages.items c.in_ok-compiled.ensures.compiled
    c.in_ok-parts.ensures.modules c.in_ok-parts.ensures.storages

pub build_program-requires-clause-lengths : goal.build_program-requires-clause-lengths
build_program-requires-clause-lengths c =
    lengths_fit c.in_ok-compiled.compiled.items c.in_ok-parts.parts.objects.items
    c.in_ok-parts.parts.lengths.items c.in_ok-parts.ensures.objects c.in_ok-parts.ensures.lengths

pub build_program-requires-clause-made : goal.build_program-requires-clause-made
build_program-requires-clause-made c =
    made_all (texts_of c.args.sources.now) c.in_ok-compiled.compiled.items c.in_ok-parts.parts.modules.items
    c.in_ok-parts.parts.objects.items c.in_ok-compiled.ensures.compiled
    c.in_ok-parts.ensures.modules c.in_ok-parts.ensures.objects

pub build_program-requires-clause-marked : goal.build_program-requires-clause-marked
build_program-requires-clause-marked c =
    marked_all (texts_of c.args.sources.now) c.in_ok-compiled.compiled.items
    c.in_ok-parts.parts.modules.items c.in_ok-parts.parts.objects.items c.in_ok-parts.parts.marks.items
    c.in_ok-compiled.ensures.compiled c.in_ok-parts.ensures.modules c.in_ok-parts.ensures.objects c.in_ok-parts.ensures.marks

pub returns-in_err-built-clause-refused : goal.returns-in_err-built-clause-refused
returns-in_err-built-clause-refused c =
    let cause : (fault : ToolFault) → HasBuildCause fault (map module_view c.in_ok-parts.parts.modules.items)
    c.in_ok-parts.parts.lengths.items c.args.plan.now
    → HasCause fault (texts_of c.args.sources.now) c.args.plan.now =
    λ fault given. build_cause fault (texts_of c.args.sources.now) c.in_ok-compiled.compiled.items
    c.in_ok-parts.parts.modules.items c.in_ok-parts.parts.objects.items
    c.in_ok-parts.parts.lengths.items c.args.plan.now
    c.in_ok-compiled.ensures.compiled c.in_ok-parts.ensures.modules c.in_ok-parts.ensures.objects
    c.in_ok-parts.ensures.lengths given in
    search (rules, cause)

pub returns-in_err-built-clause-order : goal.returns-in_err-built-clause-order
returns-in_err-built-clause-order c =
    let before : AreWithoutFault (length (texts_of c.args.sources.now)) (texts_of c.args.sources.now) =
    simp length-map c.in_ok-compiled.ensures.well in
    let first : (fault : ToolFault) → HasBuildCause fault (map module_view c.in_ok-parts.parts.modules.items)
    c.in_ok-parts.parts.lengths.items c.args.plan.now → IsInOrder fault (texts_of c.args.sources.now) =
    λ fault given. build_order fault (texts_of c.args.sources.now)
    (map module_view c.in_ok-parts.parts.modules.items) c.in_ok-parts.parts.lengths.items
    c.args.plan.now given before in
    search (rules, first)

pub returns-clause-program : goal.returns-clause-program
returns-clause-program c =
    program_built (texts_of c.args.sources.now) c.in_ok-compiled.compiled.items
    c.in_ok-parts.parts.modules.items c.args.plan.now c.in_ok-built.built
    c.in_ok-compiled.ensures.compiled c.in_ok-parts.ensures.modules c.in_ok-built.ensures.program

pub returns-in_err-compiled-clause-refused : goal.returns-in_err-compiled-clause-refused
returns-in_err-compiled-clause-refused c =
    handed_on (λ fault. HasCause fault (texts_of c.args.sources.now) c.args.plan.now)
    c.in_err-compiled.field-0.0 c.from_residual.result
    (passed c.from_residual.result c.in_err-compiled.field-0.0 c.from_residual.ensures.1)
    (c.in_err-compiled.ensures.refused c.args.plan.now)
