-- A merge is refused for its lengths just where its program is.
use Rattle.image_laws.proofs.Prelude.{◌≡◌, ℕ, ◌==◌, Bool, true, false, cond, not, ◌||◌, nat_lt, List, [], ◌∷◌, length, find, Option, Some, None, option_map, refl, ap, sym, ◌∙◌, list_any, option_or, first_that_holds, TypedObject, TypedModule, PlacingPlan, PassesMemory, RangesOverlap, SegmentTooLarge, ObjectMisplaced, code_range, data_range, is_misplaced, overlaps, passes_memory, placed_objects, placement_by, placing_refusal, stack_range, Linked, all_publics, linked_modules, DuplicatePublic, HighByteMoves, NotOneMain, SegmentTooLong, UnresolvedExternal, link_refusal, main_modules, public_names, repeated_after, some_high_byte_moves, some_segment_is_too_long, unresolved, LengthsAgree, LengthsRefused, code_lengths_of, misplaced_by_name}
use Rattle.image_laws.proofs.Programs.Lengths.{same_lengths}

-- Of causes that are judged in turn, which one is told.
lengths_of_merge :
    (repeated missing : Option (List ℕ)) (long mains high : Bool)
    → option_or (option_map DuplicatePublic repeated)
    (option_or (option_map UnresolvedExternal missing)
    (first_that_holds ((long, SegmentTooLong) ∷ (mains, NotOneMain) ∷ (high, HighByteMoves) ∷ [])))
    ≡ Some SegmentTooLong
    → long ≡ true
lengths_of_merge (Some name) missing long mains high h =
    absurd (let bad : Some (DuplicatePublic name) ≡ Some SegmentTooLong = h in cc)
lengths_of_merge None (Some name) long mains high h =
    absurd (let bad : Some (UnresolvedExternal name) ≡ Some SegmentTooLong = h in cc)
lengths_of_merge None None true mains high h = refl
lengths_of_merge None None false true high h =
    absurd (let bad : Some NotOneMain ≡ Some SegmentTooLong = h in cc)
lengths_of_merge None None false false true h =
    absurd (let bad : Some HighByteMoves ≡ Some SegmentTooLong = h in cc)
lengths_of_merge None None false false false h =
    absurd (let bad : None ≡ Some SegmentTooLong = h in cc)

lengths_of_program :
    (large past meet : Bool) (misplaced : Option (List ℕ))
    → option_or (cond large (Some SegmentTooLarge) None)
    (option_or (cond past (Some PassesMemory) None)
    (option_or (cond meet (Some RangesOverlap) None) (option_map ObjectMisplaced misplaced)))
    ≡ Some SegmentTooLarge
    → large ≡ true
lengths_of_program true past meet misplaced h = refl
lengths_of_program false true meet misplaced h =
    absurd (let bad : Some PassesMemory ≡ Some SegmentTooLarge = h in cc)
lengths_of_program false false true misplaced h =
    absurd (let bad : Some RangesOverlap ≡ Some SegmentTooLarge = h in cc)
lengths_of_program false false false (Some name) h =
    absurd (let bad : Some (ObjectMisplaced name) ≡ Some SegmentTooLarge = h in cc)
lengths_of_program false false false None h =
    absurd (let bad : None ≡ Some SegmentTooLarge = h in cc)

-- the name of an object that AT places wrongly
abbrev pub misplaced_name : PlacingPlan → List TypedModule → (code_lengths : List ℕ) → Option (List ℕ)
misplaced_name plan modules code_lengths =
    option_map (λ (placed : TypedObject × ℕ). (placed.0).name)
    (find (is_misplaced (placement_by plan modules code_lengths).code
    (placement_by plan modules code_lengths).stack)
    (placed_objects modules (placement_by plan modules code_lengths).modules))

-- whether a segment of a program is too large, passes the end of memory, or meets another
abbrev pub is_large : PlacingPlan → List TypedModule → (code_lengths : List ℕ) → Bool
is_large plan modules code_lengths =
    nat_lt 65535 (code_range plan code_lengths).len || nat_lt 65535 (data_range plan modules).len

abbrev pub passes : PlacingPlan → List TypedModule → (code_lengths : List ℕ) → Bool
passes plan modules code_lengths =
    passes_memory (code_range plan code_lengths) || passes_memory (data_range plan modules)
    || passes_memory (stack_range plan)

abbrev pub meets : PlacingPlan → List TypedModule → (code_lengths : List ℕ) → Bool
meets plan modules code_lengths =
    overlaps (code_range plan code_lengths) (data_range plan modules)
    || overlaps (code_range plan code_lengths) (stack_range plan)
    || overlaps (data_range plan modules) (stack_range plan)

-- the refusal of a program, by these
pub program_refusal :
    (plan : PlacingPlan) (modules : List TypedModule) (code_lengths : List ℕ)
    → placing_refusal plan modules code_lengths
    ≡ option_or (cond (is_large plan modules code_lengths) (Some SegmentTooLarge) None)
    (option_or (cond (passes plan modules code_lengths) (Some PassesMemory) None)
    (option_or (cond (meets plan modules code_lengths) (Some RangesOverlap) None)
    (option_map ObjectMisplaced (misplaced_name plan modules code_lengths))))
unfolding placing_refusal
program_refusal plan modules code_lengths =
    ap (λ last.
    option_or (cond (is_large plan modules code_lengths) (Some SegmentTooLarge) None)
    (option_or (cond (passes plan modules code_lengths) (Some PassesMemory) None)
    (option_or (cond (meets plan modules code_lengths) (Some RangesOverlap) None) last)))
    (misplaced_by_name
    (find (is_misplaced (placement_by plan modules code_lengths).code
    (placement_by plan modules code_lengths).stack)
    (placed_objects modules (placement_by plan modules code_lengths).modules)))

pub lengths_refused : LengthsRefused
unfolding link_refusal
lengths_refused plan modules objects all h =
    let linked : List Linked = linked_modules objects in
    let lengths : List ℕ = code_lengths_of objects in
    let long : some_segment_is_too_long objects linked ≡ true =
    lengths_of_merge (repeated_after [] (public_names objects)) (unresolved objects)
    (some_segment_is_too_long objects linked) (not (length (main_modules linked) == 1))
    (list_any (some_high_byte_moves (all_publics linked)) linked) h in
    let large : is_large plan modules lengths ≡ true = sym (same_lengths plan modules objects all) ∙ long in
    program_refusal plan modules lengths
    ∙ ap (λ b.
    option_or (cond b (Some SegmentTooLarge) None)
    (option_or (cond (passes plan modules lengths) (Some PassesMemory) None)
    (option_or (cond (meets plan modules lengths) (Some RangesOverlap) None)
    (option_map ObjectMisplaced (misplaced_name plan modules lengths))))) large

pub lengths_agree : LengthsAgree
unfolding link_refusal
lengths_agree plan modules objects all known resolved h =
    let linked : List Linked = linked_modules objects in
    let lengths : List ℕ = code_lengths_of objects in
    let large : is_large plan modules lengths ≡ true =
    lengths_of_program (is_large plan modules lengths) (passes plan modules lengths)
    (meets plan modules lengths)
    (misplaced_name plan modules lengths) (sym (program_refusal plan modules lengths) ∙ h) in
    let long : some_segment_is_too_long objects linked ≡ true =
    same_lengths plan modules objects all ∙ large in
    let mains : Bool = not (length (main_modules linked) == 1) in
    let high : Bool = list_any (some_high_byte_moves (all_publics linked)) linked in
    ap (λ repeated.
    option_or (option_map DuplicatePublic repeated)
    (option_or (option_map UnresolvedExternal (unresolved objects))
    (first_that_holds
    ((some_segment_is_too_long objects linked, SegmentTooLong) ∷ (mains, NotOneMain)
    ∷ (high, HighByteMoves) ∷ []))))
    known
    ∙ ap (λ missing.
    option_or (option_map UnresolvedExternal missing)
    (first_that_holds
    ((some_segment_is_too_long objects linked, SegmentTooLong) ∷ (mains, NotOneMain)
    ∷ (high, HighByteMoves) ∷ [])))
    resolved
    ∙ ap (λ b. first_that_holds ((b, SegmentTooLong) ∷ (mains, NotOneMain) ∷ (high, HighByteMoves) ∷ [])) long
