-- The refusal of a plan, by the answers of its tests.
use Rattle.locate.proofs.Prelude.{◌≡◌, ℕ, ◌%◌, ◌==◌, Bool, true, false, not, ◌||◌, List, [], ◌∷◌, length, refl, ap, arith, list_any, is_none, ne_eqb, ranges_meet, Code, Data, is_empty, Plan, ExternalLeft, NoStart, PassesMemory, SegmentsMeet, PageBroken, HighByteBroken, gain_at, code_range, data_range, stack_range, passes_memory, breaks_page, placement_refusal, ObjectModule, high_targets}
use Rattle.omf80.specs.Records.{first_that_holds}
use Rattle.locate.specs.internal.Refusing.{refusal_by}

first_is :
    (external no_start passes meets page high : Bool)
    → first_that_holds
    ((external, ExternalLeft) ∷ (no_start, NoStart) ∷ (passes, PassesMemory) ∷ (meets, SegmentsMeet)
    ∷ (page, PageBroken) ∷ (high, HighByteBroken) ∷ [])
    ≡ refusal_by external no_start passes meets page high
first_is true no_start passes meets page high = refl
first_is false true passes meets page high = refl
first_is false false true meets page high = refl
first_is false false false true page high = refl
first_is false false false false true high = refl
first_is false false false false false true = refl
first_is false false false false false false = refl

pub refusal_is :
    (plan : Plan) (object : ObjectModule)
    → placement_refusal plan object
    ≡ refusal_by (not (is_empty object.externals)) (is_none object.start)
    (passes_memory (code_range plan object) || passes_memory (data_range plan object)
    || passes_memory (stack_range plan))
    (ranges_meet (code_range plan object) (data_range plan object)
    || ranges_meet (code_range plan object) (stack_range plan)
    || ranges_meet (data_range plan object) (stack_range plan))
    (breaks_page plan object Code || breaks_page plan object Data)
    (list_any (λ target. not (gain_at plan target % 256 == 0)) (high_targets object))
unfolding placement_refusal
refusal_is plan object =
    first_is (not (is_empty object.externals)) (is_none object.start)
    (passes_memory (code_range plan object) || passes_memory (data_range plan object)
    || passes_memory (stack_range plan))
    (ranges_meet (code_range plan object) (data_range plan object)
    || ranges_meet (code_range plan object) (stack_range plan)
    || ranges_meet (data_range plan object) (stack_range plan))
    (breaks_page plan object Code || breaks_page plan object Data)
    (list_any (λ target. not (gain_at plan target % 256 == 0)) (high_targets object))

pub some_names : (names : List (List ℕ)) → not (length names == 0) ≡ not (is_empty names)
some_names [] = refl
some_names (name ∷ others) =
    let differ : (length (name ∷ others) ≡ 0 → ⊥) = λ (e : length (name ∷ others) ≡ 0). omega (arith, e) in
    ap not (ne_eqb (length (name ∷ others)) 0 differ)
