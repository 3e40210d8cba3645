-- Object modules of a program have a merge where none of their names are wrong, one of them is the main
-- module, and no segment of the program is too large.
use Rattle.image_laws.proofs.Prelude.{◌≡◌, ℕ, ◌%◌, ◌==◌, Bool, true, false, cond, not, ◌||◌, List, [], ◌∷◌, length, Option, Some, None, option_map, refl, ap, ◌∙◌, list_any, option_or, first_that_holds, TypedModule, PlacingPlan, PassesMemory, RangesOverlap, SegmentTooLarge, ObjectMisplaced, placing_refusal, Target, Linked, all_publics, code_end, data_end, gain_in, linked_after, linked_from, linked_modules, DuplicatePublic, HighByteMoves, NotOneMain, SegmentTooLong, UnresolvedExternal, joined, link_refusal, main_modules, merge_of, public_names, repeated_after, some_high_byte_moves, some_segment_is_too_long, unless_refused, unresolved, Public, ObjectModule, AreObjectsOf, MergeMade, code_lengths_of}
use Rattle.image_laws.proofs.Programs.Judged.{is_large, meets, misplaced_name, passes, program_refusal}
use Rattle.image_laws.proofs.Programs.Lengths.{same_lengths}

-- no high byte of a module without one moves
none_moves :
    (publics : List Public) (code data_before : ℕ) (modules : List TypedModule) (objects : List ObjectModule)
    → AreObjectsOf modules objects
    → list_any (some_high_byte_moves publics) (linked_from code data_before objects) ≡ false
none_moves publics code data_before [] [] all = refl
none_moves publics code data_before [] (object ∷ objects) all = absurd all
none_moves publics code data_before (typed ∷ modules) [] all = absurd all
none_moves publics code data_before (typed ∷ modules) (object ∷ objects) all =
    let one : Linked = linked_after code data_before object in
    ap (λ (targets : List Target).
    list_any (λ target. not (gain_in publics one target % 256 == 0)) targets
    || list_any (some_high_byte_moves publics) (linked_from (code_end one) (data_end one) objects))
    all.0.highs
    ∙ none_moves publics (code_end one) (data_end one) modules objects all.1

not_large :
    (plan : PlacingPlan) (modules : List TypedModule) (code_lengths : List ℕ)
    → (placing_refusal plan modules code_lengths ≡ Some SegmentTooLarge → ⊥)
    → is_large plan modules code_lengths ≡ false
not_large plan modules code_lengths h = go (is_large plan modules code_lengths) refl
  where
    go : (b : Bool) → is_large plan modules code_lengths ≡ b → is_large plan modules code_lengths ≡ false
    go false e = e
    go true e =
        absurd (h
        (program_refusal plan modules code_lengths
        ∙ ap (λ b.
        option_or (cond b (Some SegmentTooLarge) None)
        (option_or (cond (passes plan modules code_lengths) (Some PassesMemory) None)
        (option_or (cond (meets plan modules code_lengths) (Some RangesOverlap) None)
        (option_map ObjectMisplaced (misplaced_name plan modules code_lengths))))) e))

-- of causes of which none holds, none is told
nothing_told :
    (repeated missing : Option (List ℕ)) (long mains high : Bool) → repeated ≡ None → missing ≡ None
    → long ≡ false → mains ≡ false → high ≡ false
    → option_or (option_map DuplicatePublic repeated)
    (option_or (option_map UnresolvedExternal missing)
    (first_that_holds ((long, SegmentTooLong) ∷ (mains, NotOneMain) ∷ (high, HighByteMoves) ∷ [])))
    ≡ None
nothing_told (Some name) missing long mains high a b c d e = absurd (let bad : Some name ≡ None = a in cc)
nothing_told None (Some name) long mains high a b c d e = absurd (let bad : Some name ≡ None = b in cc)
nothing_told None None true mains high a b c d e = absurd (let bad : true ≡ false = c in cc)
nothing_told None None false true high a b c d e = absurd (let bad : true ≡ false = d in cc)
nothing_told None None false false true a b c d e = absurd (let bad : true ≡ false = e in cc)
nothing_told None None false false false a b c d e = refl

pub merge_made : MergeMade
unfolding link_refusal merge_of
merge_made plan modules objects all known resolved main large =
    let linked : List Linked = linked_modules objects in
    let long : some_segment_is_too_long objects linked ≡ false =
    same_lengths plan modules objects all ∙ not_large plan modules (code_lengths_of objects) large in
    let none =
    nothing_told (repeated_after [] (public_names objects)) (unresolved objects)
    (some_segment_is_too_long objects linked) (not (length (main_modules linked) == 1))
    (list_any (some_high_byte_moves (all_publics linked)) linked) known resolved long
    (ap (λ n. not (n == 1)) main) (none_moves (all_publics linked) 0 0 modules objects all) in
    (joined objects linked, ap (unless_refused (joined objects linked)) none)
