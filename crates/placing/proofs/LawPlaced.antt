-- The placement that a plan gives is lawful where the plan is not refused.
use Rattle.placing.proofs.Prelude.{◌≡◌, ℕ, zero, suc, ◌+◌, ◌<◌, Bool, true, false, List, [], ◌∷◌, length, map, if◌then◌else◌, refl, sym, ap, subst, ◌∙◌, cond, arith, Some, None, ◌||◌, zip, filter, flat_map, find, slice_index_or, All, Any, AllByRecursion, option_or, true≢false, none-some, length-map, recursion_from_All, All-from_recursion, Range, IsIn, Meets, Typed, module_view, TypedObject, TypedModule, IsStorable, data_bytes, ModulePlacement, Placement, PieceKind, StaticPiece, ConstantPiece, AtPiece, PlacedPiece, EndsInMemory, pieces_of_module, is_constant_piece, has_own_place, HasAddresses, LiesWhereAtSays, LiesIn, AreDisjoint, IsLawful, Plan, PassesMemory, RangesOverlap, ObjectMisplaced, code_range, data_range, stack_range, bases_from, placement_by, passes_memory, overlaps, segment_too_large, past_memory, overlapping, is_misplaced, placed_objects, first_misplaced, placing_refusal, CodePlan, HoldsConstants, HaveStorage, plan_view, both_are_none, none_before_map, range_in_memory}
use Rattle.placing.proofs.LawLists.{each_filter, none_found, pairs_all}
use Rattle.placing.proofs.LawPieces.{LiesWithin, LiesByKind, InPlace}
use Rattle.placing.proofs.LawAt.{no_overlap, three_false}
use Rattle.placing.proofs.LawPlacement.{NotMisplaced}
use Rattle.placing.proofs.LawPrograms.{AllLie, module_by, modules_lie}

no_answer :
    {A : Type 0} (value : A) (test : Bool) → (if test then Some value else None) ≡ None → test ≡ false
no_answer value false none = refl
no_answer value true none = absurd (none-some value (sym none))

-- what holds of the ranges of a plan that is not refused, and of its objects
record NotRefused (plan : Plan) (modules : List TypedModule) (code_lengths : List ℕ) : Type 0 where
  code_ends : EndsInMemory (code_range plan code_lengths)
  data_ends : EndsInMemory (data_range plan modules)
  stack_ends : EndsInMemory (stack_range plan)
  code_data : ¬ Meets (code_range plan code_lengths) (data_range plan modules)
  code_stack : ¬ Meets (code_range plan code_lengths) (stack_range plan)
  data_stack : ¬ Meets (data_range plan modules) (stack_range plan)
  objects :
      AllByRecursion (NotMisplaced (code_range plan code_lengths) (stack_range plan))
      (placed_objects modules
      (map module_by (zip modules (bases_from plan.code_base plan.data_base modules code_lengths))))

not_refused :
    (plan : Plan) (modules : List TypedModule) (code_lengths : List ℕ)
    → placing_refusal plan modules code_lengths ≡ None
    → NotRefused plan modules code_lengths
unfolding placing_refusal placement_by
not_refused plan modules code_lengths none =
    let code : Range = code_range plan code_lengths in
    let variables : Range = data_range plan modules in
    let stack : Range = stack_range plan in
    let after_size :
    option_or (past_memory code variables stack)
    (option_or (overlapping code variables stack)
    (first_misplaced modules (placement_by plan modules code_lengths)))
    ≡ None =
    (both_are_none (segment_too_large code variables)
    (option_or (past_memory code variables stack)
    (option_or (overlapping code variables stack)
    (first_misplaced modules (placement_by plan modules code_lengths))))
    none).1 in
    let past :
    (past_memory code variables stack ≡ None)
    × (option_or (overlapping code variables stack)
    (first_misplaced modules (placement_by plan modules code_lengths))
    ≡ None) =
    both_are_none (past_memory code variables stack)
    (option_or (overlapping code variables stack)
    (first_misplaced modules (placement_by plan modules code_lengths)))
    after_size in
    let last :
    (overlapping code variables stack ≡ None)
    × (first_misplaced modules (placement_by plan modules code_lengths) ≡ None) =
    both_are_none (overlapping code variables stack)
    (first_misplaced modules (placement_by plan modules code_lengths))
    past.1 in
    let passes : (passes_memory code ≡ false) × (passes_memory variables ≡ false)
    × (passes_memory stack ≡ false) =
    three_false (passes_memory code) (passes_memory variables) (passes_memory stack)
    (no_answer PassesMemory (passes_memory code || passes_memory variables || passes_memory stack) past.0) in
    let overlap : (overlaps code variables ≡ false) × (overlaps code stack ≡ false)
    × (overlaps variables stack ≡ false) =
    three_false (overlaps code variables) (overlaps code stack) (overlaps variables stack)
    (no_answer RangesOverlap (overlaps code variables || overlaps code stack || overlaps variables stack)
    last.0) in
    record {
      code_ends = range_in_memory code passes.0;
      data_ends = range_in_memory variables passes.1;
      stack_ends = range_in_memory stack passes.2;
      code_data = no_overlap code variables overlap.0;
      code_stack = no_overlap code stack overlap.1;
      data_stack = no_overlap variables stack overlap.2;
      objects =
          none_found (is_misplaced code stack)
          (placed_objects modules
          (map module_by (zip modules (bases_from plan.code_base plan.data_base modules code_lengths))))
          (none_before_map (λ (placed : TypedObject × ℕ). ObjectMisplaced (placed.0).name)
          (find (is_misplaced code stack)
          (placed_objects modules
          (map module_by (zip modules (bases_from plan.code_base plan.data_base modules code_lengths)))))
          last.1);
    }

all_lie :
    (plan : Plan) (modules : List TypedModule) (code_lengths : List ℕ)
    → All IsStorable modules
    → All HoldsConstants (zip modules code_lengths)
    → NotRefused plan modules code_lengths
    → AllLie (code_range plan code_lengths) (data_range plan modules) (code_range plan code_lengths)
    (stack_range plan)
    (zip modules (map module_by (zip modules
    (bases_from plan.code_base plan.data_base modules code_lengths))))
all_lie plan modules code_lengths storable hold fine =
    modules_lie (code_range plan code_lengths) (stack_range plan) plan.code_base plan.data_base
    modules code_lengths
    (recursion_from_All IsStorable modules storable)
    (recursion_from_All HoldsConstants (zip modules code_lengths) hold) fine.code_ends fine.data_ends
    (λ x after before after' before'. fine.code_data (x, (after, before), (after', before'))) fine.objects

-- each module has a place
same_count :
    (code_base data_base : ℕ) (modules : List TypedModule) (code_lengths : List ℕ)
    → length code_lengths ≡ length modules
    → length (map module_by (zip modules (bases_from code_base data_base modules code_lengths)))
    ≡ length modules
same_count code_base data_base [] code_lengths same = refl
same_count code_base data_base (typed ∷ others) [] same = absurd (omega arith)
same_count code_base data_base (typed ∷ others) (length ∷ lengths) same =
    ap suc (same_count (code_base + length) (data_base + data_bytes typed.objects) others
    lengths (omega arith))

-- a constant lies in CODE
constant_by_kind :
    (code variables stack range : Range) (kind : PieceKind)
    → is_constant_piece (record { kind = kind; range = range }) ≡ true
    → LiesByKind code variables code stack range kind
    → LiesWithin code range
constant_by_kind code variables stack range ConstantPiece is lies = lies
constant_by_kind code variables stack range StaticPiece is lies = absurd (true≢false (sym is))
constant_by_kind code variables stack range AtPiece is lies = absurd (true≢false (sym is))

-- a byte that may be written lies in DATA, or in what has AT
kept_at :
    {X : Type 0} (P : X → Type 0) (test : X → Bool) (xs : List X) (k : ℕ) (x : X)
    → k < length xs
    → slice_index_or xs k x ≡ x
    → P x
    → test x ≡ true
    → Any P (filter test xs)
kept_at P test [] k x within is holds passes = absurd (omega arith)
kept_at P test (first ∷ others) zero x within is holds passes =
    subst (λ (kept : Bool). Any P (cond kept (first ∷ filter test others) (filter test others)))
    (sym (ap test is ∙ passes)) (0, x, omega arith, is, holds)
kept_at P test (first ∷ others) (suc k) x within is holds passes =
    by_test (test first) (kept_at P test others k x (omega arith) is holds passes)
  where
    by_test : (kept : Bool) → Any P (filter test others)
        → Any P (cond kept (first ∷ filter test others) (filter test others))
    by_test true found = (suc found.0, found.1, omega arith, found.3, found.4)
    by_test false found = found

apart_by_kind :
    (code variables stack range : Range) (address : ℕ) (kind : PieceKind)
    → ¬ Meets code variables
    → ¬ Meets variables stack
    → LiesByKind code variables code stack range kind
    → IsIn address range
    → (is_constant_piece (record { kind = kind; range = range }) ≡ true → ⊥)
    → ¬ IsIn address code × ¬ IsIn address stack
apart_by_kind code variables stack range address StaticPiece code_data data_stack lies is_in variable =
    (λ in_code. code_data (address, in_code, lies address is_in), λ in_stack. data_stack (address, lies address is_in, in_stack))
apart_by_kind code variables stack range address AtPiece code_data data_stack lies is_in variable =
    (λ in_code. lies.0 (address, is_in, in_code), λ in_stack. lies.1 (address, is_in, in_stack))
apart_by_kind code variables stack range address ConstantPiece code_data data_stack lies is_in variable =
    absurd (variable refl)

writable_apart :
    (code variables stack : Range) (pieces : List PlacedPiece) (address : ℕ)
    → ¬ Meets code variables
    → ¬ Meets variables stack
    → All (InPlace code variables code stack) pieces
    → Any (λ (piece : PlacedPiece). IsIn address piece.range) pieces
    → ¬ Any (λ (piece : PlacedPiece). IsIn address piece.range) (filter is_constant_piece pieces)
    → ¬ IsIn address code × ¬ IsIn address stack
writable_apart code variables stack pieces address code_data data_stack lie found variable =
    let piece : PlacedPiece = found.1 in
    let lies : InPlace code variables code stack piece =
    subst (InPlace code variables code stack) found.3 (lie found.0 piece found.2) in
    apart_by_kind code variables stack piece.range address piece.kind code_data data_stack lies.lies found.4
    (λ constant.
    variable
    (kept_at (λ (piece : PlacedPiece). IsIn address piece.range) is_constant_piece pieces
    found.0 piece found.2
    found.3 found.4 constant))

-- Where the plan is not refused, and each code segment holds the constants of its module, the placement is
-- lawful.
pub placed_is_lawful :
    (plan : Plan) (modules : List TypedModule) (code_lengths : List ℕ)
    → length code_lengths ≡ length modules
    → All IsStorable modules
    → All HoldsConstants (zip modules code_lengths)
    → placing_refusal plan modules code_lengths ≡ None
    → IsLawful modules (placement_by plan modules code_lengths)
unfolding placement_by
placed_is_lawful plan modules code_lengths same storable hold none =
    let code : Range = code_range plan code_lengths in
    let variables : Range = data_range plan modules in
    let stack : Range = stack_range plan in
    let placed : List (TypedModule × ModulePlacement) =
    zip modules
    (map module_by (zip modules (bases_from plan.code_base plan.data_base modules code_lengths))) in
    let pieces : List PlacedPiece = flat_map pieces_of_module placed in
    let fine : NotRefused plan modules code_lengths = not_refused plan modules code_lengths none in
    let lie : AllLie code variables code stack placed =
    all_lie plan modules code_lengths storable hold fine in
    let all : All (InPlace code variables code stack) pieces =
    All-from_recursion (InPlace code variables code stack) pieces lie.in_place in
    record {
      for_each_module = same_count plan.code_base plan.data_base modules code_lengths same;
      complete = All-from_recursion HasAddresses placed lie.complete;
      in_memory = λ k d within. (all k d within).ends;
      code_in_memory = fine.code_ends;
      stack_in_memory = fine.stack_ends;
      disjoint = pairs_all AreDisjoint (filter has_own_place pieces) lie.disjoint;
      where_at_says = All-from_recursion LiesWhereAtSays placed lie.where_at_says;
      constants_in_code =
          All-from_recursion (LiesIn code) (filter is_constant_piece pieces)
          (each_filter (InPlace code variables code stack) (LiesIn code) is_constant_piece
          (λ piece constant lies.
          constant_by_kind code variables stack piece.range piece.kind constant lies.lies)
          pieces lie.in_place);
      code_apart_from_stack = fine.code_stack;
      not_in_code = λ address writable.
          (writable_apart code variables stack pieces address fine.code_data fine.data_stack
          all writable.declared
          writable.variable).0;
      not_in_stack = λ address writable.
          (writable_apart code variables stack pieces address fine.code_data fine.data_stack
          all writable.declared
          writable.variable).1;
    }

-- the placement of the code, by what is known of it
pub lawful_placement :
    (plan : CodePlan) (modules : List Typed) (code_lengths : List ℕ) (placement : Placement)
    → length code_lengths ≡ length modules
    → placing_refusal (plan_view plan) (map module_view modules) code_lengths ≡ None
    → placement ≡ placement_by (plan_view plan) (map module_view modules) code_lengths
    → HaveStorage (map module_view modules) code_lengths
    → IsLawful (map module_view modules) placement
lawful_placement plan modules code_lengths placement same none is have =
    subst (IsLawful (map module_view modules)) (sym is)
    (placed_is_lawful (plan_view plan) (map module_view modules) code_lengths
    (same ∙ sym (length-map modules module_view)) have.storable have.constants none)
