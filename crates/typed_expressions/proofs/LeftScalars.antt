-- The scalars that are left of an object.
use Rattle.typed_expressions.proofs.Prelude.{◌≡◌, ℕ, suc, zero, ◌+◌, ◌-◌, ◌<◌, ◌≤◌, List, [], ◌∷◌, ◌++◌, length, replicate, Some, None, refl, ap, sym, ◌∙◌, add-one, arith, length-append, append_assoc, slice_get, flat_map, repeat, drop_of_length-le, length-replicate, flat_map-map, slice_get-get_or, Byte, ObjectType, ScalarObject, StructureObject, scalars_of_element, scalars_of_elements, runs_of, run_of_member, scalars_of_run, runs_from, left_of, drop_found}
use Rattle.typed_expressions.specs.declared.scalars.Run.{Run}
use Rattle.typed_expressions.specs.declared.scalars.Scalars.{Scalars}

-- an element as its runs
pub element_runs : (t : ObjectType) → runs_from t 0 ≡ scalars_of_element t
element_runs (ScalarObject scalar) = refl
element_runs (StructureObject members) = flat_map-map scalars_of_run run_of_member members

pub run_found : (t : ObjectType) (i : ℕ) (run : Run) → slice_get (runs_of t) i ≡ Some run
    → runs_from t i ≡ scalars_of_run run ++ runs_from t (i + 1)
run_found t i run is = ap (λ runs. flat_map scalars_of_run runs) (drop_found (runs_of t) i run is)

pub runs_past : (t : ObjectType) (i : ℕ) → length (runs_of t) ≤ i → runs_from t i ≡ []
runs_past t i past = ap (λ runs. flat_map scalars_of_run runs) (drop_of_length-le (runs_of t) past)

run_none : {A : Type 0} (n : ℕ) (a : A) (others : List A) → n ≡ 0 → replicate n a ++ others ≡ others
run_none n a others is = ap (λ count. replicate count a ++ others) is

run_first : {A : Type 0} (count n : ℕ) (a : A) (others : List A) → count ≡ n + 1
    → replicate count a ++ others ≡ a ∷ (replicate n a ++ others)
run_first count n a others is = ap (λ count. replicate count a ++ others) (is ∙ add-one n)

-- runs one after another, and those without scalars
pub run_empty : (t : ObjectType) (i : ℕ) (run : Run) → slice_get (runs_of t) i ≡ Some run → run.count ≤ 0
    → runs_from t (i + 1) ≡ runs_from t i
run_empty t i run is none =
    let no : run.count ≡ 0 = omega arith in
    sym (run_found t i run is ∙ run_none run.count run.scalar (runs_from t (i + 1)) no)

pub run_absent : (t : ObjectType) (i : ℕ) → i < length (runs_of t) → slice_get (runs_of t) i ≡ None
    → runs_from t (i + 1) ≡ runs_from t i
run_absent t i within none =
    let is = slice_get-get_or (runs_of t) i (record { scalar = Byte; count = 0 }) within in
    absurd (cc)

pub run_length : (t : ObjectType) (i : ℕ) (run : Run) → slice_get (runs_of t) i ≡ Some run
    → length (runs_from t i) ≡ run.count + length (runs_from t (i + 1))
run_length t i run is = ap length (run_found t i run is) ∙ simp (length-append, length-replicate)

pub left_found : (t : ObjectType) (s : Scalars) (i : ℕ) (run : Run) → s.run.count ≡ 0
    → runs_from t i ≡ runs_from t s.position → slice_get (runs_of t) i ≡ Some run
    → left_of t (record { run = run; position = i + 1; elements = s.elements }) ≡ left_of t s
unfolding left_of
left_found t s i run none same is =
    let elements = scalars_of_elements s.elements t in
    sym (append_assoc (scalars_of_run run) (runs_from t (i + 1)) elements)
    ∙ ap (λ all. all ++ elements) (sym (run_found t i run is) ∙ same)
    ∙ sym (run_none s.run.count s.run.scalar (runs_from t s.position ++ elements) none)

-- the end of an element
pub left_ended : (t : ObjectType) (s : Scalars) → s.run.count ≡ 0 → runs_from t s.position ≡ []
    → left_of t s ≡ scalars_of_elements s.elements t
unfolding left_of
left_ended t s none past =
    let elements = scalars_of_elements s.elements t in
    run_none s.run.count s.run.scalar (runs_from t s.position ++ elements) none
    ∙ ap (λ all. all ++ elements) past

pub left_none : (t : ObjectType) (s : Scalars) → s.run.count ≡ 0 → runs_from t s.position ≡ []
    → s.elements ≡ 0 → left_of t s ≡ []
left_none t s none past last = left_ended t s none past ∙ ap (λ elements. scalars_of_elements elements t) last

repeat_one : {A : Type 0} (n : ℕ) (items : List A) → 0 < n → repeat n items ≡ items ++ repeat (n - 1) items
repeat_one n items some =
    let is : n ≡ suc (n - 1) = omega arith in
    ap (λ count. repeat count items) is

pub repeat_empty : {A : Type 0} (n : ℕ) (items : List A) → items ≡ [] → repeat n items ≡ []
repeat_empty zero items is = refl
repeat_empty (suc n) items is = ap (λ first. first ++ repeat n items) is ∙ repeat_empty n items is

-- the next element
pub left_next : (t : ObjectType) (s : Scalars) → s.run.count ≡ 0
    → runs_from t s.position ≡ [] → 0 < s.elements
    → left_of t (record { run = s.run; position = 0; elements = s.elements - 1 }) ≡ left_of t s
unfolding left_of
left_next t s none past some =
    let rest = scalars_of_elements (s.elements - 1) t in
    run_none s.run.count s.run.scalar (runs_from t 0 ++ rest) none
    ∙ ap (λ first. first ++ rest) (element_runs t)
    ∙ sym (left_ended t s none past ∙ repeat_one s.elements (scalars_of_element t) some)

-- elements without scalars
pub left_empty : (t : ObjectType) (s : Scalars) → s.run.count ≡ 0 → runs_from t s.position ≡ []
    → runs_from t 0 ≡ [] → left_of t s ≡ []
left_empty t s none past empty =
    left_ended t s none past ∙ repeat_empty s.elements (scalars_of_element t) (sym (element_runs t) ∙ empty)

-- the next scalar of a run
pub left_taken : (t : ObjectType) (s : Scalars) (n : ℕ) → s.run.count ≡ n + 1
    → left_of t s ≡ s.run.scalar ∷ left_of t (record s { run = record s.run { count = n } })
unfolding left_of
left_taken t s n is =
    run_first s.run.count n s.run.scalar (runs_from t s.position ++ scalars_of_elements s.elements t) is
