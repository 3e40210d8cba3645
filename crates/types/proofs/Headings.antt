-- Procedures in the table: as their headings say, and whole.
use Rattle.types.proofs.Prelude.{◌≡◌, ℕ, ◌+◌, ◌<◌, List, [], ◌∷◌, ◌++◌, length, map, take, drop, get_or, not, ◌||◌, Option, Ok, Err, refl, ap, sym, subst, ◌∙◌, slice_set, append_assoc, unwrap_or, map-set, map-append, length-map, ScalarType, Byte, Identifier, HeadingTree, DeclarationTrees, Entity, Here, into_body, is_declared_again, with_procedure, PARAMETER_LIMIT, Procedure, GlobalItem, GlobalProcedure, TypedProcedure, procedure_view, DeclaredTwice, NestedProcedure, Fault, Checked, ◌>>=◌, require, place_of, Block, Progress, is_reentrant, is_external, with_global, check_reentrant, check_visibility, declare_parameters, no_more_parameters, empty_list, open_procedure, parameter_object, parameter_objects, parameter_types, procedure_with, scalar_in_block, with_heading, FailsBy, in_front, heading_opened, fails_more, drop_item}
use Rattle.std.specs.{Map.{lookup}, Str.{bytes_eq}}

pub procedure_replaced : (procedures : List Procedure) (number : ℕ) (procedure : Procedure)
    → map procedure_view (slice_set procedures number procedure)
    ≡ slice_set (map procedure_view procedures) number (procedure_view procedure)
procedure_replaced procedures number procedure = map-set procedure_view procedures number procedure

-- the types of the parameters that are left, after those before them
pub types_go_on : (declared : DeclarationTrees) (parameters : List Identifier) (i : ℕ)
    (parameter : Identifier) (made after : List ScalarType) (scalar : ScalarType)
    → i < length parameters → parameter ≡ get_or parameters i parameter
    → made ++ parameter_types declared (drop i parameters) ≡ parameter_types declared parameters
    → scalar ≡ unwrap_or (scalar_in_block declared parameter.name) Byte → after ≡ made ++ scalar ∷ []
    → after ++ parameter_types declared (drop (i + 1) parameters) ≡ parameter_types declared parameters
types_go_on declared parameters i parameter made after scalar within is left typed pushed =
    ap (λ all. all ++ parameter_types declared (drop (i + 1) parameters))
    (pushed ∙ ap (λ one. made ++ one ∷ []) typed)
    ∙ append_assoc made (unwrap_or (scalar_in_block declared parameter.name) Byte ∷ [])
    (parameter_types declared (drop (i + 1) parameters))
    ∙ sym (ap (λ rest. made ++ rest) (drop_item (parameter_types declared) parameters i parameter within is))
    ∙ left

-- the objects of the parameters that are left, after those before them
objects_in_front : (made : List ℕ) (object : ℕ) (rest : Checked (List ℕ))
    → in_front (λ others. (made ++ object ∷ []) ++ others) rest
    ≡ in_front (λ others. made ++ others) (rest >>= λ others. Ok (object ∷ others))
objects_in_front made object (Ok others) = ap (λ all. Ok all) (append_assoc made (object ∷ []) others)
objects_in_front made object (Err fault) = refl

module _ (here : Here) (parameters : List Identifier) (i : ℕ) (parameter : Identifier)
    (within : i < length parameters) (is : parameter ≡ get_or parameters i parameter) (made : List ℕ)
    (left : in_front (λ rest. made ++ rest) (parameter_objects here (drop i parameters))
    ≡ parameter_objects here parameters) (declared : Option Entity)
    (found : declared ≡ lookup (bytes_eq parameter.name) here.body.block) where
  abbrev after_object : ℕ → Checked (List ℕ)
  after_object object = parameter_objects here (drop (i + 1) parameters) >>= λ rest. Ok (object ∷ rest)

  object_first : in_front (λ rest. made ++ rest) (parameter_object parameter declared >>= after_object)
      ≡ parameter_objects here parameters
  object_first =
      ap (λ entity. in_front (λ rest. made ++ rest) (parameter_object parameter entity >>= after_object))
      found
      ∙ sym (drop_item (λ all. in_front (λ rest. made ++ rest) (parameter_objects here all)) parameters i
      parameter within is)
      ∙ left

  pub objects_go_on : (object : ℕ) (after : List ℕ) → parameter_object parameter declared ≡ Ok object
      → after ≡ made ++ object ∷ []
      → in_front (λ rest. after ++ rest) (parameter_objects here (drop (i + 1) parameters))
      ≡ parameter_objects here parameters
  objects_go_on object after given pushed =
      ap (λ all. in_front (λ rest. all ++ rest) (parameter_objects here (drop (i + 1) parameters))) pushed
      ∙ objects_in_front made object (parameter_objects here (drop (i + 1) parameters))
      ∙ sym (ap (λ result. in_front (λ rest. made ++ rest) (result >>= after_object)) given)
      ∙ object_first

  pub objects_fail : (fault : Option Fault) → FailsBy fault (parameter_object parameter declared)
      → FailsBy fault (parameter_objects here parameters)
  objects_fail fault fails =
      subst (FailsBy fault) object_first
      (fails_more fault (parameter_object parameter declared >>= after_object) (λ rest. Ok (made ++ rest))
      (fails_more fault (parameter_object parameter declared) after_object fails))

-- six checks, the third of which gives something
in_seven : {H Q : Type 0} (a b : Checked (Unit {0})) (c : Checked H) (d e f : Checked (Unit {0}))
    (next : H → Checked Q)
    → (a >>= (λ _. b >>= (λ _. c >>= (λ h. d >>= (λ _. e >>= (λ _. f >>= (λ _. next h)))))))
    ≡ ((a >>= (λ _. b >>= (λ _. c >>= (λ h. d >>= (λ _. e >>= (λ _. f >>= (λ _. Ok h))))))) >>= next)
in_seven (Err x) b c d e f next = refl
in_seven (Ok _) (Err x) c d e f next = refl
in_seven (Ok _) (Ok _) (Err x) d e f next = refl
in_seven (Ok _) (Ok _) (Ok h) (Err x) e f next = refl
in_seven (Ok _) (Ok _) (Ok h) (Ok _) (Err x) f next = refl
in_seven (Ok _) (Ok _) (Ok h) (Ok _) (Ok _) (Err x) next = refl
in_seven (Ok _) (Ok _) (Ok h) (Ok _) (Ok _) (Ok _) next = refl

module _ (block : Block) (heading : HeadingTree) (declared : DeclarationTrees) (progress : Progress) where
  abbrev headed : Here → Checked Progress
  headed here = Ok (with_heading heading (parameter_types declared heading.parameters) here progress)

  opening_is : open_procedure block heading declared progress
      ≡ (heading_opened block heading progress.known.here >>= headed)
  opening_is =
      in_seven
      (require (not (is_declared_again progress.known.here heading.name.name)) DeclaredTwice
      (place_of heading.name))
      (require (not (is_reentrant block.owner || is_external block.owner)) NestedProcedure
      (place_of heading.name))
      (declare_parameters (take PARAMETER_LIMIT heading.parameters)
      (into_body (with_procedure heading.name.name progress.known.here)))
      (no_more_parameters (drop PARAMETER_LIMIT heading.parameters)) (check_visibility block heading.linkage)
      (check_reentrant heading.linkage heading.reentrant) headed

  pub opening_fails : (fault : Option Fault)
      → FailsBy fault (heading_opened block heading progress.known.here)
      → FailsBy fault (open_procedure block heading declared progress)
  opening_fails fault fails =
      subst (FailsBy fault) (sym opening_is)
      (fails_more fault (heading_opened block heading progress.known.here) headed fails)

  -- the table with one more procedure, of which the heading is known, and the globals
  abbrev progress_with : Here → List TypedProcedure → List GlobalItem → Progress
  progress_with here procedures globals =
      record progress { known = record progress.known { here = here; procedures = procedures }; globals = globals; frame = 0 }

  pub opening_gives : (types : List ScalarType) (here : Here) (before after : List Procedure)
      (procedure : Procedure) (number : ℕ) (globals : List GlobalItem)
      → types ≡ parameter_types declared heading.parameters
      → heading_opened block heading progress.known.here ≡ Ok here
      → progress.known.procedures ≡ map procedure_view before
      → after ≡ before ++ procedure ∷ []
      → procedure_view procedure ≡ procedure_with heading types [] 0 empty_list
      → number ≡ length before → globals
      ≡ with_global heading.linkage (GlobalProcedure number) progress.globals
      → open_procedure block heading declared progress
      ≡ Ok (progress_with here (map procedure_view after) globals)
  opening_gives types here before after procedure number globals typed opened table pushed
      viewed counted listed =
      opening_is ∙ ap (λ result. result >>= headed) opened
      ∙ ap (λ all. Ok (with_heading heading all here progress)) (sym typed)
      ∙ ap (λ procedures. Ok (progress_with here procedures
      (with_global heading.linkage (GlobalProcedure (length progress.known.procedures))
      progress.globals))) procedures_are
      ∙ ap (λ items. Ok (progress_with here (map procedure_view after) items)) (sym globals_are)
    where
      procedures_are : progress.known.procedures ++ procedure_with heading types [] 0 empty_list ∷ []
          ≡ map procedure_view after
      procedures_are =
          ap (λ table. table ++ procedure_with heading types [] 0 empty_list ∷ []) table
          ∙ ap (λ one. map procedure_view before ++ one ∷ []) (sym viewed)
          ∙ sym (map-append procedure_view before (procedure ∷ []))
          ∙ ap (map procedure_view) (sym pushed)

      globals_are : globals ≡ with_global heading.linkage
          (GlobalProcedure (length progress.known.procedures)) progress.globals
      globals_are =
          listed
          ∙ ap (λ n. with_global heading.linkage (GlobalProcedure n) progress.globals) (counted ∙ sym (ap length table ∙ length-map before procedure_view))
