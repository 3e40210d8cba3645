-- The tables of PUBLICs: how they are filled, and that they have the first one of each name.
use Rattle.resolving.proofs.Prelude.{◌≡◌, ℕ, ◌+◌, ◌<◌, ◌≤◌, Bool, true, false, ◌&&◌, cond, List, [], ◌∷◌, ◌++◌, map, length, drop, get_or, is_some, Option, None, Some, option_map, if◌then◌else◌, refl, ap, sym, subst, ◌∙◌, true≢false, position, position_from, lookup, option_or, bytes_eq, nat_list_eq_equiv, position_from-zero, bytes_eq-Decides, Typed, CodeObject, CodeProcedure, TypedModule, module_view, object_view, procedure_view, InProgram, in_module, first_found, is_public_procedure, public_object_in, public_procedure_in, Table, found_at, with_found, with_public, with_items, with_modules, is_public_object, name_of_object, is_shown_procedure, name_of_procedure, objects_of, procedures_of, with_objects, with_procedures, with_all_objects, with_all_procedures, public_objects, public_procedures, drop_item, at_drop_all}
use Rattle.indexmap.specs.IndexMap.{insert_entry}
use Rattle.symbols.specs.contracts.name.NamePartialEq.TheImpl.{eq-value}
use Rattle.symbols.proofs.Keys.{same_keys}
use Rattle.resolving.specs.declared.publics.Found.{Found}
use Rattle.resolving.specs.internal.Views.{found_view}

pub found_some : (table : Table) (name : List ℕ) (found : Found)
    → Some found ≡ lookup (eq-value.it name) table → Some found ≡ lookup (bytes_eq name) table
found_some table name found is =
    is ∙ ap (λ (same : List ℕ → List ℕ → Bool). lookup (same name) table) same_keys

pub found_none : (table : Table) (name : List ℕ) → None ≡ lookup (eq-value.it name) table
    → None ≡ lookup (bytes_eq name) table
found_none table name is = is ∙ ap (λ (same : List ℕ → List ℕ → Bool). lookup (same name) table) same_keys

-- a new name goes last
inserted : (entries : Table) (name : List ℕ) (found : Found)
    → is_some (lookup (bytes_eq name) entries) ≡ false
    → insert_entry bytes_eq entries name found ≡ entries ++ (name, found) ∷ []
inserted [] name found absent = refl
inserted (first ∷ others) name found absent = by (bytes_eq name first.0) absent (inserted others name found)
  where
    by : (same : Bool) → is_some (cond same (Some first.1) (lookup (bytes_eq name) others)) ≡ false
        → (is_some (lookup (bytes_eq name) others) ≡ false
        → insert_entry bytes_eq others name found ≡ others ++ (name, found) ∷ [])
        → (if same then (first.0, found) ∷ others else first ∷ insert_entry bytes_eq others name found)
        ≡ first ∷ (others ++ (name, found) ∷ [])
    by true absent later = absurd (true≢false absent)
    by false absent later = ap (λ entries. first ∷ entries) (later absent)

pub put_again : (table : Table) (name : List ℕ) (found : Found)
    → true ≡ is_some (lookup (bytes_eq name) table) → table ≡ with_found table name found
put_again table name found some = ap (λ known. if known then table else table ++ (name, found) ∷ []) some

pub put_new : (old new : Table) (name : List ℕ) (found : Found) → false ≡ is_some (lookup (bytes_eq name) old)
    → new ≡ insert_entry bytes_eq old name found → new ≡ with_found old name found
put_new old new name found none is =
    is ∙ inserted old name found (sym none)
    ∙ ap (λ known. if known then old else old ++ (name, found) ∷ []) none

-- the loops over objects, procedures and modules
module _ (table total : Table) (number_of_module : ℕ) (objects : List CodeObject) (i : ℕ)
    (rest : with_objects table number_of_module i (map object_view (drop i objects)) ≡ total) where
  pub object_put : (object : CodeObject) (after : Table) → i < length objects
      → object ≡ get_or objects i object
      → after ≡ with_public table object.is_public object.name (found_at number_of_module i)
      → with_objects after number_of_module (i + 1) (map object_view (drop (i + 1) objects)) ≡ total
  unfolding with_objects
  object_put object after within is given =
      ap (λ left. with_objects left number_of_module (i + 1) (map object_view (drop (i + 1) objects))) given
      ∙ sym (drop_item (λ left. with_objects table number_of_module i (map object_view left))
      objects i object within is)
      ∙ rest

  pub objects_put : length objects ≤ i → table ≡ total
  unfolding with_objects
  objects_put past =
      sym (at_drop_all (λ left. with_objects table number_of_module i (map object_view left)) objects i past)
      ∙ rest

module _ (table total : Table) (number_of_module : ℕ) (procedures : List CodeProcedure) (i : ℕ)
    (rest : with_procedures table number_of_module i (map procedure_view (drop i procedures)) ≡ total) where
  pub procedure_put : (procedure : CodeProcedure) (after : Table) → i < length procedures
      → procedure ≡ get_or procedures i procedure
      → after ≡ with_public table (is_public_procedure procedure.visibility) procedure.name
      (found_at number_of_module i)
      → with_procedures after number_of_module (i + 1) (map procedure_view (drop (i + 1) procedures)) ≡ total
  unfolding with_procedures
  procedure_put procedure after within is given =
      ap (λ left. with_procedures left number_of_module (i + 1)
      (map procedure_view (drop (i + 1) procedures))) given
      ∙ sym (drop_item (λ left. with_procedures table number_of_module i (map procedure_view left)) procedures
      i procedure within is)
      ∙ rest

  pub procedures_put : length procedures ≤ i → table ≡ total
  unfolding with_procedures
  procedures_put past =
      sym (at_drop_all (λ left. with_procedures table number_of_module i (map procedure_view left))
      procedures i past) ∙ rest

module _ (table total : Table) (modules : List Typed) (i : ℕ)
    (rest : with_all_objects table i (map module_view (drop i modules)) ≡ total) where
  pub objects_of_module_put : (typed : Typed) (after : Table) → i < length modules
      → typed ≡ get_or modules i typed
      → after ≡ with_objects table i 0 (map object_view typed.objects.items)
      → with_all_objects after (i + 1) (map module_view (drop (i + 1) modules)) ≡ total
  unfolding with_objects with_all_objects
  objects_of_module_put typed after within is given =
      ap (λ left. with_all_objects left (i + 1) (map module_view (drop (i + 1) modules))) given
      ∙ sym (drop_item (λ left. with_all_objects table i (map module_view left)) modules i typed within is)
      ∙ rest

  pub all_objects_put : length modules ≤ i → table ≡ total
  unfolding with_all_objects
  all_objects_put past =
      sym (at_drop_all (λ left. with_all_objects table i (map module_view left)) modules i past) ∙ rest

module _ (table total : Table) (modules : List Typed) (i : ℕ)
    (rest : with_all_procedures table i (map module_view (drop i modules)) ≡ total) where
  pub procedures_of_module_put : (typed : Typed) (after : Table) → i < length modules
      → typed ≡ get_or modules i typed
      → after ≡ with_procedures table i 0 (map procedure_view typed.procedures.items)
      → with_all_procedures after (i + 1) (map module_view (drop (i + 1) modules)) ≡ total
  unfolding with_procedures with_all_procedures
  procedures_of_module_put typed after within is given =
      ap (λ left. with_all_procedures left (i + 1) (map module_view (drop (i + 1) modules))) given
      ∙ sym (drop_item (λ left. with_all_procedures table i (map module_view left)) modules i typed within is)
      ∙ rest

  pub all_procedures_put : length modules ≤ i → table ≡ total
  unfolding with_all_procedures
  all_procedures_put past =
      sym (at_drop_all (λ left. with_all_procedures table i (map module_view left)) modules i past) ∙ rest

-- what is found in a table with one more entry
looked_last : (test : List ℕ → Bool) (entries : Table) (name : List ℕ) (found : Found)
    → lookup test (entries ++ (name, found) ∷ [])
    ≡ option_or (lookup test entries) (cond (test name) (Some found) None)
looked_last test [] name found = refl
looked_last test (first ∷ others) name found = by (test first.0) (looked_last test others name found)
  where
    by : (passes : Bool) → lookup test (others ++ (name, found) ∷ [])
        ≡ option_or (lookup test others) (cond (test name) (Some found) None)
        → cond passes (Some first.1) (lookup test (others ++ (name, found) ∷ []))
        ≡ option_or (cond passes (Some first.1) (lookup test others)) (cond (test name) (Some found) None)
    by true is = refl
    by false is = is

or_none : {A : Type 0} (found : Option A) → found ≡ option_or found None
or_none None = refl
or_none (Some found) = refl

or_or : {A : Type 0} (a b c : Option A) → option_or (option_or a b) c ≡ option_or a (option_or b c)
or_or None b c = refl
or_or (Some found) b c = refl

after_again : {A : Type 0} (found first others : Option A) → is_some found ≡ true
    → option_or found others ≡ option_or found first
after_again (Some found) first others some = refl
after_again None first others some = absurd (true≢false (sym some))

cond_or : {A : Type 0} (same : Bool) (found : A) (others : Option A)
    → option_or (cond same (Some found) None) others ≡ cond same (Some found) others
cond_or true found others = refl
cond_or false found others = refl

-- where a name stood before, no later one counts
again_named : (table : Table) (other : List ℕ) (found : Found) (name : List ℕ) (others : Option Found)
    (same : Bool) → bytes_eq other name ≡ same → is_some (lookup (bytes_eq other) table) ≡ true
    → option_or (lookup (bytes_eq name) table) others
    ≡ option_or (lookup (bytes_eq name) table) (cond same (Some found) others)
again_named table other found name others false is some = refl
again_named table other found name others true is some =
    after_again (lookup (bytes_eq name) table) (Some found) others
    (subst (λ one. is_some (lookup (bytes_eq one) table) ≡ true) ((bytes_eq-Decides other name).0 is) some)

found_step : (table : Table) (other : List ℕ) (found : Found) (name : List ℕ) (others : Option Found)
    → option_or (lookup (bytes_eq name) (with_found table other found)) others
    ≡ option_or (lookup (bytes_eq name) table) (cond (bytes_eq other name) (Some found) others)
found_step table other found name others = by (is_some (lookup (bytes_eq other) table)) refl
  where
    by : (again : Bool) → is_some (lookup (bytes_eq other) table) ≡ again
        → option_or (lookup (bytes_eq name) (if again then table else table ++ (other, found) ∷ [])) others
        ≡ option_or (lookup (bytes_eq name) table) (cond (bytes_eq other name) (Some found) others)
    by true some = again_named table other found name others (bytes_eq other name) refl some
    by false none =
        ap (λ one. option_or one others)
        (looked_last (bytes_eq name) table other found
        ∙ ap (λ same. option_or (lookup (bytes_eq name) table) (cond same (Some found) None))
        (nat_list_eq_equiv.symm name other))
        ∙ or_or (lookup (bytes_eq name) table) (cond (bytes_eq other name) (Some found) None) others
        ∙ ap (option_or (lookup (bytes_eq name) table)) (cond_or (bytes_eq other name) found others)

public_step : (table : Table) (public : Bool) (other : List ℕ) (found : Found) (name : List ℕ)
    (others : Option Found)
    → option_or (lookup (bytes_eq name) (with_public table public other found)) others
    ≡ option_or (lookup (bytes_eq name) table) (cond (public && bytes_eq other name) (Some found) others)
public_step table true other found name others = found_step table other found name others
public_step table false other found name others = refl

-- the tables say what the definitions do
module _ {A : Type 0} (is_public : A → Bool) (name_of : A → List ℕ) (name : List ℕ) where
  abbrev is_named : A → Bool
  is_named item = is_public item && bytes_eq (name_of item) name

  abbrev found_from : (number_of_module number : ℕ) → List A → Option Found
  found_from number_of_module number [] = None
  found_from number_of_module number (item ∷ others) =
      cond (is_named item) (Some (found_at number_of_module number))
      (found_from number_of_module (number + 1) others)

  items_found : (table : Table) (number_of_module number : ℕ) (items : List A)
      → lookup (bytes_eq name) (with_items is_public name_of table number_of_module number items)
      ≡ option_or (lookup (bytes_eq name) table) (found_from number_of_module number items)
  items_found table number_of_module number [] = or_none (lookup (bytes_eq name) table)
  items_found table number_of_module number (item ∷ others) =
      items_found (with_public table (is_public item) (name_of item) (found_at number_of_module number))
      number_of_module (number + 1) others
      ∙ public_step table (is_public item) (name_of item) (found_at number_of_module number) name
      (found_from number_of_module (number + 1) others)

  from_position : (number_of_module number : ℕ) (items : List A)
      → option_map found_view (found_from number_of_module number items)
      ≡ in_module number_of_module (position_from is_named number items)
  from_position number_of_module number [] = refl
  from_position number_of_module number (item ∷ others) =
      by (is_named item) (from_position number_of_module (number + 1) others)
    where
      by : (passes : Bool) → option_map found_view (found_from number_of_module (number + 1) others)
          ≡ in_module number_of_module (position_from is_named (number + 1) others)
          → option_map found_view
          (cond passes (Some (found_at number_of_module number))
          (found_from number_of_module (number + 1) others))
          ≡ in_module number_of_module
          (cond passes (Some number) (position_from is_named (number + 1) others))
      by true is = refl
      by false is = is

  map_or : (a b : Option Found) → option_map found_view (option_or a b)
      ≡ option_or (option_map found_view a) (option_map found_view b)
  map_or None b = refl
  map_or (Some found) b = refl

  module_step : (table : Table) (number_of_module : ℕ) (items : List A) (rest : Option InProgram)
      → option_or
      (option_map found_view (lookup (bytes_eq name)
      (with_items is_public name_of table number_of_module 0 items))) rest
      ≡ option_or (option_map found_view (lookup (bytes_eq name) table))
      (option_or (in_module number_of_module (position is_named items)) rest)
  module_step table number_of_module items rest =
      ap (λ found. option_or (option_map found_view found) rest) (items_found table number_of_module 0 items)
      ∙ ap (λ found. option_or found rest)
      (map_or (lookup (bytes_eq name) table) (found_from number_of_module 0 items))
      ∙ or_or (option_map found_view (lookup (bytes_eq name) table))
      (option_map found_view (found_from number_of_module 0 items)) rest
      ∙ ap (λ found. option_or (option_map found_view (lookup (bytes_eq name) table)) (option_or found rest))
      (from_position number_of_module 0 items
      ∙ ap (in_module number_of_module) (sym (position_from-zero is_named items)))

  modules_found : (items_of : TypedModule → List A) (table : Table) (number_of_module : ℕ)
      (modules : List TypedModule)
      → option_map found_view
      (lookup (bytes_eq name) (with_modules is_public name_of items_of table number_of_module modules))
      ≡ option_or (option_map found_view (lookup (bytes_eq name) table))
      (first_found number_of_module (λ typed. position is_named (items_of typed)) modules)
  modules_found items_of table number_of_module [] =
      or_none (option_map found_view (lookup (bytes_eq name) table))
  modules_found items_of table number_of_module (typed ∷ others) =
      modules_found items_of (with_items is_public name_of table number_of_module 0 (items_of typed))
      (number_of_module + 1) others
      ∙ module_step table number_of_module (items_of typed)
      (first_found (number_of_module + 1) (λ typed. position is_named (items_of typed)) others)

pub object_named : (entries : Table) (modules : List TypedModule) (name : List ℕ)
    → entries ≡ public_objects modules
    → option_map found_view (lookup (bytes_eq name) entries) ≡ first_found 0 (public_object_in name) modules
unfolding with_all_objects
object_named entries modules name is =
    ap (λ table. option_map found_view (lookup (bytes_eq name) table)) is
    ∙ modules_found is_public_object name_of_object name objects_of [] 0 modules

pub procedure_named : (entries : Table) (modules : List TypedModule) (name : List ℕ)
    → entries ≡ public_procedures modules
    → option_map found_view (lookup (bytes_eq name) entries)
    ≡ first_found 0 (public_procedure_in name) modules
unfolding with_all_procedures
procedure_named entries modules name is =
    ap (λ table. option_map found_view (lookup (bytes_eq name) table)) is
    ∙ modules_found is_shown_procedure name_of_procedure name procedures_of [] 0 modules
