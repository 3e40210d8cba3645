use Rattle.link_modules.proofs.Prelude.{refl, ap, ◌∙◌, Code, Data, alignment_joined, end_in, end_joined, segment_grown}
use Rattle.link_modules.proofs.merging.parts_of.Goals as goal

pub returns : goal.returns
returns g c = record {
  name = refl;
  code =
      segment_grown c.args.publics Code c.args.pieces.now.placed.items c.args.code
      c.merged_end-code_end.result
      c.merged_alignment.result c.into_segment.result c.requires.code c.into_segment.ensures
      (c.merged_end-code_end.ensures ∙ ap (end_joined (end_in Code) 0) c.as_slice-placed.ensures.value)
      (c.merged_alignment.ensures ∙ ap (alignment_joined Code) c.as_slice-placed.ensures.value);
  data_bytes =
      segment_grown c.args.publics Data c.args.pieces.now.placed.items c.args.data_bytes
      c.merged_end-data_end.result
      c.merged_alignment-2.result c.into_segment-2.result c.requires.data_bytes c.into_segment-2.ensures
      (c.merged_end-data_end.ensures ∙ ap (end_joined (end_in Data) 0) c.as_slice-placed.ensures.value)
      (c.merged_alignment-2.ensures ∙ ap (alignment_joined Data) c.as_slice-placed.ensures.value);
  stack_length = refl;
  publics = c.into_publics.ensures;
  externals = c.new.ensures.items;
  start = refl;
}
