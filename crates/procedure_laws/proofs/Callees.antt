-- What a call in a module calls: the procedure that it stands for, and the items of its CALL.
use Rattle.procedure_laws.proofs.Prelude.{◌≡◌, ◌≢◌, ℕ, ◌+◌, ◌<◌, ◌≤◌, ◌⊎◌, inl, inr, get_or, Bool, true, false, [], ◌∷◌, length, slice_get, Option, Some, None, option_map, refl, sym, ap, subst, ◌∙◌, arith, IsSomeAnd, option_and_then, unwrap_or, slice_get_cases, slice_get_within, ExternalTarget, Visibility, TypedModule, TypedProcedure, DeclaredProcedure, InProgram, agree, is_public_procedure, procedure_meant, callee_in, procedure_at, wrap, Reference, AtLabel, AtTarget, CallTo, word_of, ProcedureKind, TreeProcedure, external_number, is_global_procedure, kind_of, items_of_call, module_call_items, Entries, ModuleCode, ModuleLies, surroundings_in, not_external}
use Rattle.typed_trees.specs.declared.parts.Visibility.TheVariants as visibilities
use Rattle.layout.proofs.Meant.{MeansProcedure, external_procedure_meant, procedures_agree}
use Rattle.asm8080.specs.declared.item.Item.TheVariants as items
use Rattle.treecode.specs.declared.procedure.ProcedureKind.TheVariants as kinds

-- what a call of a procedure calls
pub record IsCallee (code : ModuleCode) (entries : Entries) (procedure : ℕ)
    (heading : TypedProcedure) : Type 0 where
  pub at : InProgram
  pub meant : callee_in (surroundings_in code 0) procedure ≡ Some at
  pub typed : TypedModule
  pub found : TypedProcedure
  pub there : procedure_at code.program.modules at ≡ Some (typed, found)
  pub here : found.visibility ≢ visibilities.External
  pub types : found.parameter_types ≡ heading.parameter_types
  pub result : found.result ≡ heading.result
  pub reference : Reference
  pub are : module_call_items code.tree.now procedure ≡ items.WithWord CallTo reference ∷ []
  pub word : word_of code.layout reference ≡ wrap (entries at)

-- a procedure of tree code for each typed one
pub record IsTree (code : ModuleCode) (number : ℕ) (heading : TypedProcedure) : Type 0 where
  pub procedure : TreeProcedure
  pub there : slice_get code.tree.now.procedures.items number ≡ Some procedure
  pub kind : procedure.kind ≡ kind_of code.typed number heading

pub tree_of :
    (code : ModuleCode) (entries : Entries) (number : ℕ) (heading : TypedProcedure)
    → ModuleLies code entries
    → slice_get code.typed.procedures number ≡ Some heading
    → IsTree code number heading
tree_of code entries number heading lies is =
    by_case (slice_get_cases code.tree.now.procedures.items number).1
    (subst (λ (count : ℕ). number < count) (sym lies.lowered.procedure_count)
    (slice_get_within code.typed.procedures number heading is))
  where
    by_case : ((x : TreeProcedure) × (number < length code.tree.now.procedures.items)
        × (slice_get code.tree.now.procedures.items number ≡ Some x)
        × (get_or code.tree.now.procedures.items number x ≡ x))
        ⊎ ((length code.tree.now.procedures.items ≤ number)
        × (slice_get code.tree.now.procedures.items number ≡ None))
        → number < length code.tree.now.procedures.items
        → IsTree code number heading
    by_case (inl found) less = record {
      procedure = found.0;
      there = found.2;
      kind = (lies.lowered.procedures number found.0 heading found.2 is).kind;
    }
    by_case (inr past) less = let most = past.0 in absurd (omega (arith, less, most))

-- the procedure that is meant, where it is found
record IsMeant (code : ModuleCode) (heading : TypedProcedure) (at : InProgram) : Type 0 where
  typed : TypedModule
  found : TypedProcedure
  there : procedure_at code.program.modules at ≡ Some (typed, found)
  here : found.visibility ≢ visibilities.External
  types : found.parameter_types ≡ heading.parameter_types
  result : found.result ≡ heading.result

meant_there :
    (code : ModuleCode) (heading : TypedProcedure) (at : InProgram)
    → MeansProcedure code.program.modules heading at
    → IsMeant code heading at
meant_there code heading at means =
    by_module (slice_get code.program.modules at.number_of_module) refl means
  where
    by_found : (typed : TypedModule) (entry : Option TypedProcedure)
        → slice_get code.program.modules at.number_of_module ≡ Some typed
        → slice_get typed.procedures at.number ≡ entry
        → IsSomeAnd entry
        (λ (public : TypedProcedure). (is_public_procedure public.visibility ≡ true)
        × (agree (DeclaredProcedure heading) (DeclaredProcedure public) ≡ true))
        → IsMeant code heading at
    by_found typed None is there holds = absurd holds
    by_found typed (Some found) is there holds = record {
      typed = typed;
      found = found;
      there =
          ap (λ (module_found : Option TypedModule).
          option_and_then
          (λ (typed : TypedModule).
          option_map (λ (procedure : TypedProcedure). (typed, procedure))
          (slice_get typed.procedures at.number))
          module_found) is
          ∙ ap (λ (entry : Option TypedProcedure).
          option_map (λ (procedure : TypedProcedure). (typed, procedure)) entry) there;
      here = not_external found.visibility holds.0;
      types = sym (procedures_agree heading found holds.1).1;
      result = sym (procedures_agree heading found holds.1).0;
    }

    by_module : (entry : Option TypedModule)
        → slice_get code.program.modules at.number_of_module ≡ entry
        → IsSomeAnd entry
        (λ (its : TypedModule). IsSomeAnd (slice_get its.procedures at.number)
        (λ (public : TypedProcedure). (is_public_procedure public.visibility ≡ true)
        × (agree (DeclaredProcedure heading) (DeclaredProcedure public) ≡ true)))
        → IsMeant code heading at
    by_module None is holds = absurd holds
    by_module (Some typed) is holds =
        by_found typed (slice_get typed.procedures at.number) is refl holds

from_zero : (address : ℕ) → wrap (0 + address) ≡ wrap address
from_zero address = omega arith

pub callee_of :
    (code : ModuleCode) (entries : Entries) (number : ℕ) (heading : TypedProcedure)
    → ModuleLies code entries
    → slice_get code.typed.procedures number ≡ Some heading
    → IsCallee code entries number heading
callee_of code entries number heading lies is =
    by_visibility heading.visibility refl (tree_of code entries number heading lies is)
  where
    callee_is : callee_in (surroundings_in code 0) number
        ≡ procedure_meant code.program.modules
        (record { number_of_module = code.number; number = number }) heading
        heading.visibility
    callee_is =
        ap (λ (entry : Option TypedModule).
        option_and_then
        (λ (typed : TypedModule).
        option_and_then
        (λ (found : TypedProcedure).
        procedure_meant code.program.modules
        (record { number_of_module = code.number; number = number }) found
        found.visibility)
        (slice_get typed.procedures number)) entry) lies.is_module
        ∙ ap (λ (entry : Option TypedProcedure).
        option_and_then
        (λ (found : TypedProcedure).
        procedure_meant code.program.modules
        (record { number_of_module = code.number; number = number }) found
        found.visibility) entry) is

    here_there : procedure_at code.program.modules
        (record { number_of_module = code.number; number = number })
        ≡ Some (code.typed, heading)
    here_there =
        ap (λ (module_found : Option TypedModule).
        option_and_then
        (λ (typed : TypedModule).
        option_map (λ (procedure : TypedProcedure). (typed, procedure)) (slice_get typed.procedures number))
        module_found) lies.is_module
        ∙ ap (λ (entry : Option TypedProcedure).
        option_map (λ (procedure : TypedProcedure). (code.typed, procedure)) entry) is

    items_are : (procedure : TreeProcedure) → slice_get code.tree.now.procedures.items number ≡ Some procedure
        → module_call_items code.tree.now number ≡ items_of_call number procedure.kind
    items_are procedure there =
        ap (λ (entry : Option TreeProcedure). elim (entry) [
          | Some found ↦ items_of_call number found.kind
          | None ↦ []
        ]) there

    -- a procedure of the module itself
    own : (tree : IsTree code number heading) (kind : ProcedureKind)
        → kind_of code.typed number heading ≡ kind
        → ((name : ℕ) → kind ≢ kinds.External name)
        → items_of_call number kind ≡ items.WithWord CallTo (AtLabel number) ∷ []
        → heading.visibility ≢ visibilities.External
        → procedure_meant code.program.modules
        (record { number_of_module = code.number; number = number }) heading
        heading.visibility
        ≡ Some (record { number_of_module = code.number; number = number })
        → IsCallee code entries number heading
    own tree kind kind_is no_external items_is here itself = record {
      at = record { number_of_module = code.number; number = number };
      meant = callee_is ∙ itself;
      typed = code.typed;
      found = heading;
      there = here_there;
      here = here;
      types = refl;
      result = refl;
      reference = AtLabel number;
      are =
          items_are tree.procedure tree.there
          ∙ ap (λ (kind : ProcedureKind). items_of_call number kind) (tree.kind ∙ kind_is)
          ∙ items_is;
      word =
          sym (lies.own number tree.procedure tree.there
          (λ name same. no_external name (sym kind_is ∙ sym tree.kind ∙ same)));
    }

    -- one of another module
    foreign : (tree : IsTree code number heading) (name : ℕ)
        → kind_of code.typed number heading ≡ kinds.External name
        → (meant : Option InProgram)
        → procedure_meant code.program.modules
        (record { number_of_module = code.number; number = number }) heading
        heading.visibility ≡ meant
        → IsSomeAnd meant (MeansProcedure code.program.modules heading)
        → IsCallee code entries number heading
    foreign tree name kind_is None meant means = absurd means
    foreign tree name kind_is (Some at) meant means =
        let found = meant_there code heading at means in
        record {
          at = at;
          meant = callee_is ∙ meant;
          typed = found.typed;
          found = found.found;
          there = found.there;
          here = found.here;
          types = found.types;
          result = found.result;
          reference = AtTarget (ExternalTarget name) 0;
          are =
              items_are tree.procedure tree.there
              ∙ ap (λ (kind : ProcedureKind). items_of_call number kind) (tree.kind ∙ kind_is);
          word =
              from_zero (code.layout.address_of (ExternalTarget name))
              ∙ sym (lies.externals number name tree.procedure at tree.there (tree.kind ∙ kind_is)
              (callee_is ∙ meant));
        }

    by_visibility : (visibility : Visibility) → heading.visibility ≡ visibility → IsTree code number heading
        → IsCallee code entries number heading
    by_visibility visibilities.External is_external tree =
        foreign tree (unwrap_or (external_number code.typed (is_global_procedure number)) 0)
        (kind_outside is_external)
        (procedure_meant code.program.modules
        (record { number_of_module = code.number; number = number }) heading
        heading.visibility) refl
        (external_procedure_meant code.program.modules lies.joined lies.globals code.number
        number code.typed heading
        lies.is_module is is_external)
      where
        kind_outside : heading.visibility ≡ visibilities.External
            → kind_of code.typed number heading
            ≡ kinds.External (unwrap_or (external_number code.typed (is_global_procedure number)) 0)
        kind_outside same =
            ap (λ (visibility : Visibility). kind_of code.typed number
            (record heading { visibility = visibility })) same
    by_visibility visibilities.Public is_public tree = by_kind heading.is_reentrant refl
      where
        by_kind : (is_reentrant : Bool) → heading.is_reentrant ≡ is_reentrant
            → IsCallee code entries number heading
        by_kind true same =
            own tree kinds.Reentrant
            (ap (λ (visibility : Visibility). kind_of code.typed number
            (record heading { visibility = visibility })) is_public
            ∙ ap (λ (test : Bool). kind_of code.typed number
            (record heading { visibility = visibilities.Public; is_reentrant = test })) same)
            (λ name same. cc) refl
            (λ outside. let bad : visibilities.Public ≡ visibilities.External = sym is_public ∙ outside in cc)
            (ap (λ (visibility : Visibility). procedure_meant code.program.modules
            (record { number_of_module = code.number; number = number }) heading visibility) is_public)
        by_kind false same =
            own tree kinds.Static
            (ap (λ (visibility : Visibility). kind_of code.typed number
            (record heading { visibility = visibility })) is_public
            ∙ ap (λ (test : Bool). kind_of code.typed number
            (record heading { visibility = visibilities.Public; is_reentrant = test })) same)
            (λ name same. cc) refl
            (λ outside. let bad : visibilities.Public ≡ visibilities.External = sym is_public ∙ outside in cc)
            (ap (λ (visibility : Visibility). procedure_meant code.program.modules
            (record { number_of_module = code.number; number = number }) heading visibility) is_public)
    by_visibility visibilities.Private is_private tree = by_kind heading.is_reentrant refl
      where
        by_kind : (is_reentrant : Bool) → heading.is_reentrant ≡ is_reentrant
            → IsCallee code entries number heading
        by_kind true same =
            own tree kinds.Reentrant
            (ap (λ (visibility : Visibility). kind_of code.typed number
            (record heading { visibility = visibility })) is_private
            ∙ ap (λ (test : Bool). kind_of code.typed number
            (record heading { visibility = visibilities.Private; is_reentrant = test })) same)
            (λ name same. cc) refl
            (λ outside. let bad : visibilities.Private ≡ visibilities.External = sym is_private ∙ outside in cc)
            (ap (λ (visibility : Visibility). procedure_meant code.program.modules
            (record { number_of_module = code.number; number = number }) heading visibility) is_private)
        by_kind false same =
            own tree kinds.Static
            (ap (λ (visibility : Visibility). kind_of code.typed number
            (record heading { visibility = visibility })) is_private
            ∙ ap (λ (test : Bool). kind_of code.typed number
            (record heading { visibility = visibilities.Private; is_reentrant = test })) same)
            (λ name same. cc) refl
            (λ outside. let bad : visibilities.Private ≡ visibilities.External = sym is_private ∙ outside in cc)
            (ap (λ (visibility : Visibility). procedure_meant code.program.modules
            (record { number_of_module = code.number; number = number }) heading visibility) is_private)
