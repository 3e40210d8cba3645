use Rattle.tool.proofs.Prelude.{◌≡◌, ℕ, List, length, map, subst, sym, ◌∙◌, length-map, module_view, HaveStorage, plan_view, HaveImage, IsPlacedBy, ObjectModule, IsImageOfObjects, GivesImageOfObjects}
use Rattle.tool.proofs.SourcesLemmas.{count_fits, have_storage, is_construction, placed_has_image}
use Rattle.tool.specs.Marks.{LieInEach}
use Rattle.tool.proofs.building.build_program.Goals as goal

pub place_program-requires-clause-lengths : goal.place_program-requires-clause-lengths
place_program-requires-clause-lengths c =
    subst (λ (lengths : List ℕ). length lengths ≡ length c.args.parts.modules.items)
    (sym c.as_slice-2.ensures.value)
    (count_fits (map module_view c.args.parts.modules.items) c.args.parts.objects.items
    c.args.parts.lengths.items c.requires.made c.requires.lengths
    ∙ length-map c.args.parts.modules.items module_view)

pub place_program-requires-clause-storage : goal.place_program-requires-clause-storage
place_program-requires-clause-storage c =
    subst (HaveStorage (map module_view c.args.parts.modules.items)) (sym c.as_slice-2.ensures.value)
    (have_storage (map module_view c.args.parts.modules.items) c.args.parts.objects.items
    c.args.parts.lengths.items c.requires.made c.requires.lengths)

pub image_of-requires : goal.image_of-requires
image_of-requires c = record {
  have_image = subst (HaveImage (plan_view c.args.plan.now)) (sym c.as_slice-3.ensures.value)
      (placed_has_image c.args.plan.now (map module_view c.args.parts.modules.items)
      c.args.parts.objects.items c.args.parts.lengths.items c.in-Ok.placed
      c.requires.made c.requires.lengths
      (subst (λ (lengths : List ℕ). IsPlacedBy (map module_view c.args.parts.modules.items) lengths
      c.args.plan.now c.in-Ok.placed) c.as_slice-2.ensures.value c.in-Ok.ensures.placed));
}

pub new-requires-clause-made : goal.new-requires-clause-made
new-requires-clause-made c =
    is_construction c.args.plan.now (map module_view c.args.parts.modules.items) c.args.parts.lengths.items
    c.in-Ok.placed c.args.parts.objects.items c.in_ok-image.image
    (subst (λ (lengths : List ℕ). IsPlacedBy (map module_view c.args.parts.modules.items) lengths
    c.args.plan.now c.in-Ok.placed) c.as_slice-2.ensures.value c.in-Ok.ensures.placed)
    c.requires.lengths c.requires.made
    (subst (λ (objects : List ObjectModule). IsImageOfObjects c.args.plan.now objects c.in_ok-image.image)
    c.as_slice-3.ensures.value c.in_ok-image.ensures.linked)
    (subst (λ (objects : List ObjectModule). GivesImageOfObjects c.args.plan.now objects c.in_ok-image.image)
    c.as_slice-3.ensures.value c.in_ok-image.ensures.gives)

pub new-requires-clause-marked : goal.new-requires-clause-marked
new-requires-clause-marked c =
    subst (λ modules. LieInEach modules c.args.parts.objects.items c.args.parts.marks.items)
    (sym c.in-Ok.ensures.placed.program) c.requires.marked
