use Rattle.tool.proofs.Prelude.{◌≡◌, map, length_of, Compiled}
use Rattle.object_modules.specs.declared.segment.Segment.TheVariants as segments
use Rattle.tool.proofs.compiled.parts_of.Given as goal

-- what was taken apart
abbrev pub invariant-loop-one : goal.invariant-loop-one
invariant-loop-one l = record {
  modules : l.parts.modules.items ≡ map (λ (one : Compiled). one.source.typed) l.yielded;
  storages : l.parts.storages.items ≡ map (λ (one : Compiled). one.source.storage) l.yielded;
  objects : l.parts.objects.items ≡ map (λ (one : Compiled). one.object) l.yielded;
  lengths : l.parts.lengths.items ≡ map (λ (one : Compiled). length_of one.object segments.Code) l.yielded;
  marks : l.parts.marks.items ≡ map (λ (one : Compiled). one.marks) l.yielded;
}
