-- The tables that are kept while objects and procedures are placed: the parameter index of each object, and
-- its index among the EXTERNAL names.
use Rattle.treecode.proofs.Prelude.{◌≡◌, ℕ, suc, List, [], ◌∷◌, length, Option, Some, None, ◌==◌, cond, is_some, refl, sym, ap, ◌∙◌, GlobalItem, GlobalObject, GlobalProcedure, TypedModule, TypedProcedure, ExternalName, external_from, external_name, external_number, is_global_object, is_global_procedure, latest, parameter_from, parameter_number, Gathered, all_gathered, none_gathered, with_external_object, with_external_procedure, number_in, with_number, with_all_parameters, with_parameters}
use Rattle.treecode.proofs.AddedExpressions.{one_more}
use Rattle.treecode.proofs.GatheredLaws.{found_with, latest_group}

nothing_before : (later : Option ℕ) → latest None later ≡ later
nothing_before None = refl
nothing_before (Some later) = refl

-- the entries with more numbers after a number that was put
found_later : (entries : List (Option ℕ)) (index number other : ℕ) (later : Option ℕ)
    → latest (number_in (with_number entries index number) other) later
    ≡ latest (number_in entries other) (latest (cond (index == other) (Some number) None) later)
found_later entries index number other later =
    ap (λ (one : Option ℕ). latest one later) (found_with entries index number other)
    ∙ latest_group (number_in entries other) (cond (index == other) (Some number) None) later

parameters_found : (entries : List (Option ℕ)) (index object : ℕ) (objects : List ℕ)
    → number_in (with_parameters entries index objects) object
    ≡ latest (number_in entries object) (parameter_from object index objects)
parameters_found entries index object [] = refl
parameters_found entries index object (first ∷ others) =
    parameters_found (with_number entries first index) (suc index) object others
    ∙ found_later entries first index object (parameter_from object (suc index) others)

all_parameters_found : (entries : List (Option ℕ)) (object : ℕ) (procedures : List TypedProcedure)
    → number_in (with_all_parameters entries procedures) object
    ≡ latest (number_in entries object) (parameter_number procedures object)
all_parameters_found entries object [] = refl
all_parameters_found entries object (procedure ∷ others) =
    all_parameters_found (with_parameters entries 0 procedure.parameters) object others
    ∙ ap (λ (one : Option ℕ). latest one (parameter_number others object))
    (parameters_found entries 0 object procedure.parameters)
    ∙ latest_group (number_in entries object) (parameter_from object 0 procedure.parameters)
    (parameter_number others object)

-- the parameter index of an object
pub parameters_known : (procedures : List TypedProcedure) (object : ℕ)
    → number_in (with_all_parameters [] procedures) object ≡ parameter_number procedures object
parameters_known procedures object =
    all_parameters_found [] object procedures ∙ nothing_before (parameter_number procedures object)

objects_found : (typed : TypedModule) (before : Gathered) (items : List GlobalItem) (number : ℕ)
    → number_in (all_gathered typed before items).objects number
    ≡ latest (number_in before.objects number)
    (external_from typed (is_global_object number) (length before.names) items)
objects_found typed before [] number = refl
objects_found typed before (GlobalObject other ∷ others) number =
    by (external_name typed (GlobalObject other))
    (λ (next : Gathered). objects_found typed next others number)
  where
    later : ℕ → Option ℕ
    later count = external_from typed (is_global_object number) count others

    by : (name : Option ExternalName)
        → ((next : Gathered) → number_in (all_gathered typed next others).objects number
        ≡ latest (number_in next.objects number) (later (length next.names)))
        → number_in (all_gathered typed (with_external_object before other name) others).objects number
        ≡ latest (number_in before.objects number) (cond (is_some name)
        (latest (cond (other == number) (Some (length before.names)) None)
        (later (suc (length before.names))))
        (later (length before.names)))
    by None after = after before
    by (Some name) after =
        after (with_external_object before other (Some name))
        ∙ ap (λ (count : ℕ). latest (number_in
        (with_number before.objects other (length before.names)) number)
        (later count)) (one_more before.names name)
        ∙ found_later before.objects other (length before.names) number (later (suc (length before.names)))
objects_found typed before (GlobalProcedure other ∷ others) number =
    by (external_name typed (GlobalProcedure other))
    (λ (next : Gathered). objects_found typed next others number)
  where
    later : ℕ → Option ℕ
    later count = external_from typed (is_global_object number) count others

    by : (name : Option ExternalName)
        → ((next : Gathered) → number_in (all_gathered typed next others).objects number
        ≡ latest (number_in next.objects number) (later (length next.names)))
        → number_in (all_gathered typed (with_external_procedure before other name) others).objects number
        ≡ latest (number_in before.objects number) (cond (is_some name)
        (latest None (later (suc (length before.names))))
        (later (length before.names)))
    by None after = after before
    by (Some name) after =
        after (with_external_procedure before other (Some name))
        ∙ ap (λ (count : ℕ). latest (number_in before.objects number) (later count))
        (one_more before.names name)
        ∙ ap (latest (number_in before.objects number))
        (sym (nothing_before (later (suc (length before.names)))))

procedures_found : (typed : TypedModule) (before : Gathered) (items : List GlobalItem) (number : ℕ)
    → number_in (all_gathered typed before items).procedures number
    ≡ latest (number_in before.procedures number)
    (external_from typed (is_global_procedure number) (length before.names) items)
procedures_found typed before [] number = refl
procedures_found typed before (GlobalProcedure other ∷ others) number =
    by (external_name typed (GlobalProcedure other))
    (λ (next : Gathered). procedures_found typed next others number)
  where
    later : ℕ → Option ℕ
    later count = external_from typed (is_global_procedure number) count others

    by : (name : Option ExternalName)
        → ((next : Gathered) → number_in (all_gathered typed next others).procedures number
        ≡ latest (number_in next.procedures number) (later (length next.names)))
        → number_in (all_gathered typed (with_external_procedure before other name) others).procedures number
        ≡ latest (number_in before.procedures number) (cond (is_some name)
        (latest (cond (other == number) (Some (length before.names)) None)
        (later (suc (length before.names))))
        (later (length before.names)))
    by None after = after before
    by (Some name) after =
        after (with_external_procedure before other (Some name))
        ∙ ap (λ (count : ℕ). latest (number_in
        (with_number before.procedures other (length before.names)) number)
        (later count)) (one_more before.names name)
        ∙ found_later before.procedures other (length before.names) number (later (suc (length before.names)))
procedures_found typed before (GlobalObject other ∷ others) number =
    by (external_name typed (GlobalObject other))
    (λ (next : Gathered). procedures_found typed next others number)
  where
    later : ℕ → Option ℕ
    later count = external_from typed (is_global_procedure number) count others

    by : (name : Option ExternalName)
        → ((next : Gathered) → number_in (all_gathered typed next others).procedures number
        ≡ latest (number_in next.procedures number) (later (length next.names)))
        → number_in (all_gathered typed (with_external_object before other name) others).procedures number
        ≡ latest (number_in before.procedures number) (cond (is_some name)
        (latest None (later (suc (length before.names))))
        (later (length before.names)))
    by None after = after before
    by (Some name) after =
        after (with_external_object before other (Some name))
        ∙ ap (λ (count : ℕ). latest (number_in before.procedures number) (later count))
        (one_more before.names name)
        ∙ ap (latest (number_in before.procedures number))
        (sym (nothing_before (later (suc (length before.names)))))

-- the index of an object, or a procedure, among the EXTERNAL names
pub objects_known : (typed : TypedModule) (number : ℕ)
    → number_in (all_gathered typed none_gathered typed.globals).objects number
    ≡ external_number typed (is_global_object number)
objects_known typed number =
    objects_found typed none_gathered typed.globals number
    ∙ nothing_before (external_number typed (is_global_object number))

pub procedures_known : (typed : TypedModule) (number : ℕ)
    → number_in (all_gathered typed none_gathered typed.globals).procedures number
    ≡ external_number typed (is_global_procedure number)
procedures_known typed number =
    procedures_found typed none_gathered typed.globals number
    ∙ nothing_before (external_number typed (is_global_procedure number))
