-- Programs that lie as planned.
use Rattle.sources.proofs.Prelude.{◌≡◌, ℕ, List, None, sym, ap, ◌∙◌, subst, TypedModule, IsJoined, IsLawful, placement_by, placing_refusal, IsPlacedBy, program_modules}
use Rattle.mem80.specs.declared.plan.Plan.{Plan}
use Rattle.placing.specs.{Segments.{HaveStorage}, Views.{placement_view, plan_view}}
use Rattle.sources.specs.declared.placed.Placed.{Placed}

pub is_placed : (modules : List TypedModule) (plan : Plan) (lengths : List ℕ) (placed : Placed)
    → program_modules placed.program ≡ modules → IsJoined modules → HaveStorage modules lengths
    → placing_refusal (plan_view plan) (program_modules placed.program) lengths ≡ None
    → placement_view placed.placement ≡ placement_by (plan_view plan) (program_modules placed.program) lengths
    → (HaveStorage (program_modules placed.program) lengths
    → IsLawful (program_modules placed.program) (placement_view placed.placement))
    → IsPlacedBy modules lengths plan placed
is_placed modules plan lengths placed is joined storage unrefused planned lawful =
    let here : HaveStorage (program_modules placed.program) lengths =
    subst (λ ms. HaveStorage ms lengths) (sym is) storage in
    record {
      program = is;
      joined = joined;
      may_lie = sym (ap (λ ms. placing_refusal (plan_view plan) ms lengths) is) ∙ unrefused;
      as_planned = planned ∙ ap (λ ms. placement_by (plan_view plan) ms lengths) is;
      lawful = subst (λ ms. IsLawful ms (placement_view placed.placement)) is (lawful here);
    }
