use Rattle.codegen8080.proofs.Prelude.{ap, ◌∙◌, Code, Data, ObjectModule, places_stored, segment_of, with_targets, retarget}
use Rattle.codegen8080.proofs.object.object_of.Goals as goal

pub returns : goal.returns
returns c = record {
  name = ap (λ (object : ObjectModule). object.name) c.from_parts.ensures;
  code =
      ap (λ (object : ObjectModule). object.code) c.from_parts.ensures
      ∙ ap (places_stored Code)
      (c.in_ok-code.ensures.same
      ∙ ap (λ count. segment_of (with_targets (retarget c.args.numbers.now count) c.args.code))
      c.external_count-count.ensures);
  data_places =
      ap (λ (object : ObjectModule). object.data_places) c.from_parts.ensures
      ∙ ap (places_stored Data)
      (c.in_ok-variables.ensures.same
      ∙ ap (λ count. segment_of (with_targets (retarget c.args.numbers.now count) c.args.variables))
      c.external_count-count.ensures);
  stack = ap (λ (object : ObjectModule). object.stack_length) c.from_parts.ensures;
  externals =
      ap (λ (object : ObjectModule). object.externals) c.from_parts.ensures
      ∙ c.into_parts-externals.ensures.externals;
  publics =
      ap (λ (object : ObjectModule). object.publics) c.from_parts.ensures
      ∙ c.into_parts-externals.ensures.publics;
  start = ap (λ (object : ObjectModule). object.start) c.from_parts.ensures;
}
