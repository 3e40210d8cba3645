-- A merge is refused at a plan as its program is.
use Rattle.image_laws.proofs.Prelude.{◌≡◌, ℕ, ◌%◌, ◌==◌, Bool, true, false, cond, not, ◌&&◌, ◌||◌, List, [], ◌∷◌, length, slice_get, Option, Some, None, option_map, option_and_then, refl, ap, sym, subst, ◌∙◌, sum, list_any, option_or, is_none, ranges_meet, first_that_holds, TypedModule, PlacingPlan, RangesOverlap, SegmentTooLarge, ObjectMisplaced, placing_refusal, PlacingPassesMemory, Alignment, Code, Data, Target, is_empty, linked_modules, Plan, ExternalLeft, NoStart, SegmentsMeet, PageBroken, HighByteBroken, base_of, breaks_page, gain_at, placement_refusal, range_at, joined, main_modules, ObjectModule, is_page, length_of, high_targets, IsMerge, merge_is, AreObjectsOf, RangesRefused, code_lengths_of, plan_of, refusal_of_merge}
use Rattle.object_modules.specs.Image.{PassesMemory, passes_memory, stack_range}
use Rattle.image_laws.proofs.Programs.Highs.{merge_alignments, merge_highs}
use Rattle.image_laws.proofs.Programs.Judged.{is_large, meets, misplaced_name, passes, program_refusal}
use Rattle.image_laws.proofs.Programs.Lengths.{code_length_is, data_length_is, same_lengths}

-- Of causes that are judged in turn, which one is told.
merge_tells :
    (left start past meet page high : Bool) → left ≡ false → start ≡ false → page ≡ false → high ≡ false
    → first_that_holds
    ((left, ExternalLeft) ∷ (start, NoStart) ∷ (past, PassesMemory) ∷ (meet, SegmentsMeet)
    ∷ (page, PageBroken)
    ∷ (high, HighByteBroken) ∷ [])
    ≡ cond past (Some PassesMemory) (cond meet (Some SegmentsMeet) None)
merge_tells true start past meet page high a b c d = absurd (let bad : true ≡ false = a in cc)
merge_tells false true past meet page high a b c d = absurd (let bad : true ≡ false = b in cc)
merge_tells false false true meet page high a b c d = refl
merge_tells false false false true page high a b c d = refl
merge_tells false false false false true high a b c d = absurd (let bad : true ≡ false = c in cc)
merge_tells false false false false false true a b c d = absurd (let bad : true ≡ false = d in cc)
merge_tells false false false false false false a b c d = refl

program_tells :
    (large past meet : Bool) (misplaced : Option (List ℕ)) → large ≡ false
    → option_and_then refusal_of_merge
    (option_or (cond large (Some SegmentTooLarge) None)
    (option_or (cond past (Some PlacingPassesMemory) None)
    (option_or (cond meet (Some RangesOverlap) None) (option_map ObjectMisplaced misplaced))))
    ≡ cond past (Some PassesMemory) (cond meet (Some SegmentsMeet) None)
program_tells true past meet misplaced h = absurd (let bad : true ≡ false = h in cc)
program_tells false true meet misplaced h = refl
program_tells false false true misplaced h = refl
program_tells false false false None h = refl
program_tells false false false (Some name) h = refl

-- segments of so many bytes that pass the end of memory, or meet, at a plan
abbrev passes_at : Plan → (code_size data_size : ℕ) → Bool
passes_at plan code_size data_size =
    passes_memory (range_at plan.code_base code_size) || passes_memory (range_at plan.data_base data_size)
    || passes_memory (stack_range plan)

abbrev meets_at : Plan → (code_size data_size : ℕ) → Bool
meets_at plan code_size data_size =
    ranges_meet (range_at plan.code_base code_size) (range_at plan.data_base data_size)
    || ranges_meet (range_at plan.code_base code_size) (stack_range plan)
    || ranges_meet (range_at plan.data_base data_size) (stack_range plan)

-- one main module is the start
one_start :
    (mains : List (List ℕ × ℕ)) → not (length mains == 1) ≡ false
    → is_none (option_map (λ (main : List ℕ × ℕ). main.1) (slice_get mains 0)) ≡ false
one_start [] h = absurd (let bad : true ≡ false = h in cc)
one_start (main ∷ others) h = refl

merge_refused :
    (plan : PlacingPlan) (modules : List TypedModule) (objects : List ObjectModule)
    → AreObjectsOf modules objects
    → IsMerge objects (joined objects (linked_modules objects))
    → placement_refusal (plan_of plan) (joined objects (linked_modules objects))
    ≡ option_and_then refusal_of_merge (placing_refusal plan modules (code_lengths_of objects))
unfolding placement_refusal
merge_refused plan modules objects all merge =
    let merged : ObjectModule = joined objects (linked_modules objects) in
    let lengths : List ℕ = code_lengths_of objects in
    let at : Plan = plan_of plan in
    let code_size = code_length_is modules objects all in
    let data_size = data_length_is modules objects all in
    let alignments = merge_alignments modules objects all in
    let past : passes_at at (length_of merged Code) (length_of merged Data) ≡ passes plan modules lengths =
    ap (λ n. passes_at at n (length_of merged Data)) code_size
    ∙ ap (λ n. passes_at at (sum lengths) n) data_size in
    let meet : meets_at at (length_of merged Code) (length_of merged Data) ≡ meets plan modules lengths =
    ap (λ n. meets_at at n (length_of merged Data)) code_size
    ∙ ap (λ n. meets_at at (sum lengths) n) data_size in
    let code_page : breaks_page at merged Code ≡ false =
    ap (λ (alignment : Alignment). is_page alignment && not (base_of at Code % 256 == 0)) alignments.0 in
    let data_page : breaks_page at merged Data ≡ false =
    ap (λ (alignment : Alignment). is_page alignment && not (base_of at Data % 256 == 0)) alignments.1 in
    let page : (breaks_page at merged Code || breaks_page at merged Data) ≡ false =
    ap (λ b. b || breaks_page at merged Data) code_page ∙ data_page in
    let high : list_any (λ target. not (gain_at at target % 256 == 0)) (high_targets merged) ≡ false =
    ap (λ (targets : List Target). list_any (λ target. not (gain_at at target % 256 == 0)) targets)
    (merge_highs modules objects all) in
    let large : is_large plan modules lengths ≡ false =
    sym (same_lengths plan modules objects all) ∙ merge.fits in
    merge_tells (not (is_empty merged.externals)) (is_none merged.start)
    (passes_at at (length_of merged Code) (length_of merged Data))
    (meets_at at (length_of merged Code) (length_of merged Data))
    (breaks_page at merged Code || breaks_page at merged Data)
    (list_any (λ target. not (gain_at at target % 256 == 0)) (high_targets merged))
    refl (one_start (main_modules (linked_modules objects)) merge.main) page high
    ∙ ap (λ b.
    cond b (Some PassesMemory)
    (cond (meets_at at (length_of merged Code) (length_of merged Data)) (Some SegmentsMeet) None)) past
    ∙ ap (λ b. cond (passes plan modules lengths) (Some PassesMemory) (cond b (Some SegmentsMeet) None)) meet
    ∙ sym (program_tells (is_large plan modules lengths) (passes plan modules lengths)
    (meets plan modules lengths) (misplaced_name plan modules lengths) large)
    ∙ sym (ap (option_and_then refusal_of_merge) (program_refusal plan modules lengths))

pub ranges_refused : RangesRefused
ranges_refused plan modules objects merged all made =
    let merge = merge_is objects merged made in
    let P : ObjectModule → Type 0 = λ object.
    IsMerge objects object
    → placement_refusal (plan_of plan) object
    ≡ option_and_then refusal_of_merge (placing_refusal plan modules (code_lengths_of objects)) in
    subst P (sym merge.said) (merge_refused plan modules objects all) merge
