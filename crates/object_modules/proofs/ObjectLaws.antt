-- What the parts of an object module tell: its runs, its fixes and its lengths.
use Rattle.object_modules.proofs.Prelude.{◌≡◌, IsTrue, [], map, refl, ap, sym, subst, ◌∙◌, list_all, length-map-range_with_len, Absolute, Code, Data, Stack, ObjectModule, length_of, places_of, set_in, are_longest, is_in_a_run, runs_from}
use Rattle.object_modules.specs.declared.object.ModuleParts.{ModuleParts}
use Rattle.object_modules.specs.Runs.{runs_of, fixes_in, fixed_run}
use Rattle.object_modules.specs.internal.Views.{AreKept, module_of_parts}
use Rattle.object_modules.proofs.StoredRuns.{contents_kept, stored_bytes, stored_fixes, stored_runs}

pub code_length : (parts : ModuleParts) → (parts.code).size ≡ length_of (module_of_parts parts) Code
code_length parts =
    sym (length-map-range_with_len (set_in (contents_kept Code parts.code) Code) 0 (parts.code).size)

pub data_length : (parts : ModuleParts) → (parts.data_bytes).size ≡ length_of (module_of_parts parts) Data
data_length parts =
    sym (length-map-range_with_len (set_in (contents_kept Data parts.data_bytes) Data) 0
    (parts.data_bytes).size)

pub code_runs : (parts : ModuleParts) → AreKept parts
    → (parts.code).runs ≡ runs_of (module_of_parts parts) Code
unfolding runs_of
code_runs parts kept = sym (stored_bytes Code parts.code refl kept.code)

pub data_runs : (parts : ModuleParts) → AreKept parts
    → (parts.data_bytes).runs ≡ runs_of (module_of_parts parts) Data
unfolding runs_of
data_runs parts kept = sym (stored_bytes Data parts.data_bytes refl kept.data_places)

pub absolute_runs : (object : ObjectModule) → runs_of object Absolute ≡ []
unfolding runs_of
absolute_runs object = refl

pub stack_runs : (object : ObjectModule) → runs_of object Stack ≡ []
unfolding runs_of
stack_runs object = refl

pub code_fixes : (parts : ModuleParts) → AreKept parts
    → (parts.code).fixes ≡ fixes_in (module_of_parts parts) Code
unfolding fixes_in
code_fixes parts kept = sym (stored_fixes Code parts.code refl kept.code)

pub data_fixes : (parts : ModuleParts) → AreKept parts
    → (parts.data_bytes).fixes ≡ fixes_in (module_of_parts parts) Data
unfolding fixes_in
data_fixes parts kept = sym (stored_fixes Data parts.data_bytes refl kept.data_places)

pub absolute_fixes : (object : ObjectModule) → fixes_in object Absolute ≡ []
unfolding fixes_in
absolute_fixes object = refl

pub stack_fixes : (object : ObjectModule) → fixes_in object Stack ≡ []
unfolding fixes_in
stack_fixes object = refl

-- with their fixes, they are the runs of the places of the segment
pub code_fixed :
    (parts : ModuleParts) → AreKept parts
    → runs_from 0 (places_of (module_of_parts parts) Code)
    ≡ map (fixed_run (fixes_in (module_of_parts parts) Code)) (parts.code).runs
code_fixed parts kept =
    stored_runs Code parts.code refl kept.code
    ∙ ap (λ fixes. map (fixed_run fixes) (parts.code).runs) (code_fixes parts kept)

pub code_longest :
    (parts : ModuleParts) → AreKept parts
    → IsTrue (are_longest (length_of (module_of_parts parts) Code) (parts.code).runs)
code_longest parts kept =
    subst (λ size. IsTrue (are_longest size (parts.code).runs)) (code_length parts) (kept.code).runs

pub code_within :
    (parts : ModuleParts) → AreKept parts
    → IsTrue (list_all (is_in_a_run Code (runs_of (module_of_parts parts) Code)) (parts.code).fixes)
code_within parts kept =
    subst (λ runs. IsTrue (list_all (is_in_a_run Code runs) (parts.code).fixes)) (code_runs parts kept)
    (kept.code).fixes

-- with their fixes, they are the runs of the places of the segment
pub data_fixed :
    (parts : ModuleParts) → AreKept parts
    → runs_from 0 (places_of (module_of_parts parts) Data)
    ≡ map (fixed_run (fixes_in (module_of_parts parts) Data)) (parts.data_bytes).runs
data_fixed parts kept =
    stored_runs Data parts.data_bytes refl kept.data_places
    ∙ ap (λ fixes. map (fixed_run fixes) (parts.data_bytes).runs) (data_fixes parts kept)

pub data_longest :
    (parts : ModuleParts) → AreKept parts
    → IsTrue (are_longest (length_of (module_of_parts parts) Data) (parts.data_bytes).runs)
data_longest parts kept =
    subst (λ size. IsTrue (are_longest size (parts.data_bytes).runs)) (data_length parts)
    (kept.data_places).runs

pub data_within :
    (parts : ModuleParts) → AreKept parts
    → IsTrue (list_all (is_in_a_run Data (runs_of (module_of_parts parts) Data)) (parts.data_bytes).fixes)
data_within parts kept =
    subst (λ runs. IsTrue (list_all (is_in_a_run Data runs) (parts.data_bytes).fixes)) (data_runs parts kept)
    (kept.data_places).fixes

pub absolute_fixed :
    (object : ObjectModule)
    → runs_from 0 (places_of object Absolute) ≡ map (fixed_run (fixes_in object Absolute)) []
absolute_fixed object = refl

pub stack_fixed :
    (object : ObjectModule)
    → runs_from 0 (places_of object Stack) ≡ map (fixed_run (fixes_in object Stack)) []
stack_fixed object = refl
