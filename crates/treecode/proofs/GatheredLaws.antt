-- The EXTERNAL names that are gathered are those of the module, and each is found by its number.
use Rattle.treecode.proofs.Prelude.{◌≡◌, ◌⊎◌, ℕ, Bool, true, false, List, [], ◌∷◌, ◌++◌, Option, Some, None, filter_map, ◌==◌, ◌≢◌, cond, inl, inr, refl, sym, ap, ◌∙◌, cons_option, eqb_tells, append_assoc, append-nil, GlobalItem, GlobalObject, GlobalProcedure, TypedModule, ExternalName, external_name, externals_of, latest, Gathered, all_gathered, none_gathered, with_external, with_external_object, with_external_procedure, number_in, with_number}
use Rattle.treecode.proofs.LabelNumbers.{same_number, same_or_other}

-- a name, if there is one
abbrev named : Option ExternalName → List ExternalName
named None = []
named (Some name) = name ∷ []

named_first : (name : Option ExternalName) (rest : List ExternalName)
    → named name ++ rest ≡ cons_option name rest
named_first None rest = refl
named_first (Some name) rest = refl

object_names : (before : Gathered) (number : ℕ) (name : Option ExternalName)
    → (with_external_object before number name).names ≡ before.names ++ named name
object_names before number None = sym (append-nil before.names)
object_names before number (Some name) = refl

procedure_names : (before : Gathered) (number : ℕ) (name : Option ExternalName)
    → (with_external_procedure before number name).names ≡ before.names ++ named name
procedure_names before number None = sym (append-nil before.names)
procedure_names before number (Some name) = refl

item_names : (typed : TypedModule) (before : Gathered) (item : GlobalItem)
    → (with_external typed before item).names ≡ before.names ++ named (external_name typed item)
item_names typed before (GlobalObject number) =
    object_names before number (external_name typed (GlobalObject number))
item_names typed before (GlobalProcedure number) =
    procedure_names before number (external_name typed (GlobalProcedure number))

names_from : (typed : TypedModule) (before : Gathered) (items : List GlobalItem)
    → (all_gathered typed before items).names ≡ before.names ++ filter_map (external_name typed) items
names_from typed before [] = sym (append-nil before.names)
names_from typed before (item ∷ others) =
    names_from typed (with_external typed before item) others
    ∙ ap (λ (names : List ExternalName). names ++ filter_map (external_name typed) others)
    (item_names typed before item)
    ∙ append_assoc before.names (named (external_name typed item)) (filter_map (external_name typed) others)
    ∙ ap (λ (names : List ExternalName). before.names ++ names)
    (named_first (external_name typed item) (filter_map (external_name typed) others))

-- the names that are gathered are those of the module
pub names_gathered : (typed : TypedModule)
    → (all_gathered typed none_gathered typed.globals).names ≡ externals_of typed
names_gathered typed = names_from typed none_gathered typed.globals

pub latest_group : (one two three : Option ℕ) → latest (latest one two) three ≡ latest one (latest two three)
latest_group one two None = refl
latest_group one two (Some three) = refl

-- the entries with one more number
pub found_with : (entries : List (Option ℕ)) (index number other : ℕ)
    → number_in (with_number entries index number) other
    ≡ latest (number_in entries other) (cond (index == other) (Some number) None)
found_with entries index number other = by_test (eqb_tells index other)
  where
    by_test : ((index == other) ≡ true) × (index ≡ other) ⊎ ((index == other) ≡ false) × (index ≢ other)
        → number_in (with_number entries index number) other
        ≡ latest (number_in entries other) (cond (index == other) (Some number) None)
    by_test (inl same) =
        ap (λ (one : ℕ). number_in (with_number entries index number) one) (sym same.1)
        ∙ same_number entries index number
        ∙ sym (ap (λ (test : Bool). latest (number_in entries other) (cond test (Some number) None)) same.0)
    by_test (inr differs) =
        elim (same_or_other entries index number other) [
          | inl same ↦ absurd (differs.1 same)
          | inr found ↦ found
              ∙ sym (ap (λ (test : Bool). latest (number_in entries other) (cond test (Some number) None))
              differs.0)
        ]
