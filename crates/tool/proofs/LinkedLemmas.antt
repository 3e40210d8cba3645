-- Object modules that have a merge and an image are linked and placed.
use Rattle.tool.proofs.Prelude.{◌≡◌, List, Result, Ok, Err, sym, subst, ◌∙◌, Image, PlacementRefusal, image_of, LinkRefusal, merge_of, ObjectModule, Plan, GivesItsImage, Absolute, IsPlaced, HaveImage, IsImageOfObjects, GivesImageOfObjects, same_Ok}
use Rattle.placing.specs.Views as of_placement
use Rattle.locate.specs.Locating.{plan_view}

pub is_linked : (plan : Plan) (objects : List ObjectModule) (merged : ObjectModule) (image : Absolute)
    → merge_of objects ≡ Ok merged → IsPlaced (plan_view plan) merged image
    → IsImageOfObjects plan objects image
is_linked plan objects merged image merge placed = record { merged = merged; merge = merge; placed = placed }

module _ (plan : Plan) (objects : List ObjectModule)
    (have : HaveImage (of_placement.plan_view plan) objects) where
  -- none of them is refused
  pub not_refused_to_link : (refusal : LinkRefusal) → merge_of objects ≡ Err refusal → ⊥
  not_refused_to_link refusal is =
      let bad : ◌≡◌ {A = Result ObjectModule LinkRefusal} (Ok have.merged) (Err refusal) =
      sym have.merge ∙ is in cc

  pub not_refused_to_locate : (merged : ObjectModule) (refusal : PlacementRefusal)
      → merge_of objects ≡ Ok merged
      → image_of (plan_view plan) merged ≡ Err refusal → ⊥
  not_refused_to_locate merged refusal merge is =
      let same : have.merged ≡ merged = same_Ok have.merged merged (sym have.merge ∙ merge) in
      let bad : ◌≡◌ {A = Result Image PlacementRefusal} (Ok have.image) (Err refusal) =
      sym have.placed ∙ subst (λ (object : ObjectModule). image_of (plan_view plan) object ≡ Err refusal)
      (sym same) is in cc

-- what gives memories the image of one merge does so for the merge, since there is one
pub gives_image : (plan : Plan) (objects : List ObjectModule) (merged : ObjectModule) (image : Absolute)
    → merge_of objects ≡ Ok merged → GivesItsImage (plan_view plan) merged image
    → GivesImageOfObjects plan objects image
gives_image plan objects merged image merge given other other_merge =
    subst (λ (object : ObjectModule). GivesItsImage (plan_view plan) object image)
    (same_Ok merged other (sym merge ∙ other_merge)) given
