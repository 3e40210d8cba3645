-- Declarations leave the labels that are known as they were, and procedures sound.
use Rattle.typing.proofs.Prelude.{◌≡◌, ℕ, List, [], ◌∷◌, ◌++◌, take, drop, refl, ap, subst, sym, IfOk, nat_le, not, ◌||◌, All-append, All-cons, All-nil, All-set, Identifier, ItemTree, ElementTree, LiterallyElement, ItemElement, HeadingTree, DeclarationTrees, Here, Body, Names, into_body, after_body, with_object, with_procedure, with_parameter, with_label, is_declared_again, is_parameter_again, is_label_again, declared_by, OBJECT_LIMIT, FRAME_LIMIT, PARAMETER_LIMIT, TypedList, TypedProcedure, BodyIsSound, DeclaredTwice, NestedProcedure, ExternalContents, TooLarge, require, place_of, Block, Progress, is_external, is_reentrant, declares_parameter, TypedItem, declare_names, place_of_item, object_named, with_typed_object, with_objects, typed_item, size_of_item, declare_item, declare_definition, declare_element, declare_elements, declare_labels, declare_parameters, no_more_parameters, check_visibility, check_reentrant, parameter_types, procedure_with, empty_list, open_procedure, close_procedure}
use Rattle.typing.proofs.Steps.{then_checks, then_any}
use Rattle.typing.proofs.PartsWithoutStatements.{IsIn, AreSound, IsAt}

-- one procedure more; one whose body is still to come does nothing
sound_with : (procedures : List TypedProcedure) (procedure : TypedProcedure)
    → AreSound procedures → BodyIsSound procedure.body → AreSound (procedures ++ procedure ∷ [])
sound_with procedures procedure are is =
    let IsProcedureSound : TypedProcedure → Type 0 = λ each. BodyIsSound each.body in
    All-append IsProcedureSound procedures (procedure ∷ []) are
    (All-cons IsProcedureSound procedure [] is (All-nil IsProcedureSound))

empty_is_sound : BodyIsSound empty_list
empty_is_sound = record { closed = tt; stands = (refl, tt) }

module _ {lists : List Names} {outer : List Body} where
  -- names and labels that are declared
  pub declare_labels_is : (labels : List Identifier) (here : Here)
      → IsIn lists outer here → IfOk (declare_labels labels here) (IsIn lists outer)
  declare_labels_is [] here is = is
  declare_labels_is (label ∷ others) here is =
      then_any _ (require (not (is_label_again here label.name)) DeclaredTwice (place_of label)) _ (λ is_new.
      declare_labels_is others (with_label label.name here)
      (record { lists_are = is.lists_are; outer_are = is.outer_are }))

  declare_parameters_is : (parameters : List Identifier) (here : Here)
      → IsIn lists outer here → IfOk (declare_parameters parameters here) (IsIn lists outer)
  declare_parameters_is [] here is = is
  declare_parameters_is (parameter ∷ others) here is =
      then_any _ (require (not (is_parameter_again here parameter.name)) DeclaredTwice (place_of parameter)) _
      (λ is_new.
      declare_parameters_is others (with_parameter parameter.name here)
      (record { lists_are = is.lists_are; outer_are = is.outer_are }))

  declare_names_is : (block : Block) (names : List Identifier) (here : Here)
      → IsIn lists outer here → IfOk (declare_names block names here) (IsIn lists outer)
  declare_names_is block [] here is = is
  declare_names_is block (name ∷ others) here is =
      then_any _ (require (not (is_declared_again here name.name)) DeclaredTwice (place_of name)) _ (λ is_new.
      then_any _
      (require (not (is_external block.owner) || declares_parameter block name.name) ExternalContents
      (place_of name)) _ (λ may_stand.
      declare_names_is block others (with_object name.name here)
      (record { lists_are = is.lists_are; outer_are = is.outer_are })))

  -- objects that are declared
  with_objects_is : (block : Block) (item : TypedItem) (names : List Identifier)
      (progress : Progress)
      → IsAt lists outer progress.known
      → IfOk (with_objects block item names progress) (λ after. IsAt lists outer after.known)
  with_objects_is block item [] progress at = at
  with_objects_is block item (name ∷ others) progress at =
      let after : Progress = with_typed_object item.linkage (object_named block item name.name) progress in
      then_any _ (require (nat_le after.frame FRAME_LIMIT) TooLarge (place_of name)) _ (λ fits.
      with_objects_is block item others after (record { here = at.here; procedures = at.procedures }))

  declare_item_is : (block : Block) (item : ItemTree) (progress : Progress)
      → IsAt lists outer progress.known
      → IfOk (declare_item block item progress) (λ after. IsAt lists outer after.known)
  declare_item_is block item progress at =
      then_checks _ _ (declare_names block (declared_by item.subject) progress.known.here) _
      (declare_names_is block (declared_by item.subject) progress.known.here at.here) (λ here is.
      then_any _ (typed_item progress.known block item) _ (λ typed.
      then_any _ (require (nat_le (size_of_item typed) OBJECT_LIMIT) TooLarge (place_of_item item)) _ (λ fits.
      then_checks _ _ (with_objects block typed (declared_by item.subject) progress) _
      (with_objects_is block typed (declared_by item.subject) progress at) (λ declared after.
      record { here = is; procedures = after.procedures }))))

  declare_definition_is : (block : Block) (name : Identifier) (progress : Progress)
      → IsAt lists outer progress.known
      → IfOk (declare_definition block name progress) (λ after. IsAt lists outer after.known)
  declare_definition_is block name progress at =
      then_any _
      (require (not (is_declared_again progress.known.here name.name)) DeclaredTwice (place_of name)) _
      (λ is_new.
      then_any _ (require (not (is_external block.owner)) ExternalContents (place_of name)) _ (λ may_stand.
      record {
        here = record { lists_are = at.here.lists_are; outer_are = at.here.outer_are };
        procedures = at.procedures;
      }))

  declare_element_is : (block : Block) (element : ElementTree) (progress : Progress)
      → IsAt lists outer progress.known
      → IfOk (declare_element block element progress) (λ after. IsAt lists outer after.known)
  declare_element_is block (LiterallyElement name text) progress at =
      declare_definition_is block name progress at
  declare_element_is block (ItemElement item) progress at = declare_item_is block item progress at

  pub declare_elements_is : (block : Block) (elements : List ElementTree) (progress : Progress)
      → IsAt lists outer progress.known
      → IfOk (declare_elements block elements progress) (λ after. IsAt lists outer after.known)
  declare_elements_is block [] progress at = at
  declare_elements_is block (element ∷ others) progress at =
      then_checks _ _ (declare_element block element progress) _
      (declare_element_is block element progress at)
      (λ after at_after.
      declare_elements_is block others after at_after)

-- into a procedure
pub open_procedure_is : {lists : List Names} {outer : List Body} (block : Block) (heading : HeadingTree)
    (declared : DeclarationTrees) (progress : Progress)
    → IsAt lists outer progress.known
    → IfOk (open_procedure block heading declared progress)
    (λ opened. IsAt [] ((with_procedure heading.name.name progress.known.here).body ∷ outer) opened.known)
open_procedure_is block heading declared progress at =
    let named : Here = with_procedure heading.name.name progress.known.here in
    then_any _ (require (not (is_declared_again progress.known.here heading.name.name)) DeclaredTwice
    (place_of heading.name)) _ (λ is_new.
    then_any _ (require (not (is_reentrant block.owner || is_external block.owner)) NestedProcedure
    (place_of heading.name)) _ (λ may_stand.
    then_checks _ _ (declare_parameters (take PARAMETER_LIMIT heading.parameters) (into_body named)) _
    (declare_parameters_is (take PARAMETER_LIMIT heading.parameters) (into_body named)
    (record { lists_are = refl; outer_are = ap (λ (bodies : List Body). named.body ∷ bodies) at.here.outer_are }))
    (λ here is.
    then_any _ (no_more_parameters (drop PARAMETER_LIMIT heading.parameters)) _ (λ are_all.
    then_any _ (check_visibility block heading.linkage) _ (λ is_visible.
    then_any _ (check_reentrant heading.linkage heading.reentrant) _ (λ is_reentrant.
    record {
      here = is;
      procedures = sound_with progress.known.procedures
          (procedure_with heading (parameter_types declared heading.parameters) [] 0 empty_list)
          at.procedures empty_is_sound;
    }))))))

-- out of a procedure
out_of_body_is : {outer : List Body} (body : Body) (here : Here) (bodies : List Body)
    → bodies ≡ body ∷ outer → IsIn body.lists outer (after_body bodies here)
out_of_body_is {outer = outer} body here bodies are =
    subst (λ (around : List Body). IsIn body.lists outer (after_body around here)) (sym are)
    (record { lists_are = refl; outer_are = refl })

pub close_procedure_is : {outer : List Body} (own : List Names) (body : Body) (heading : HeadingTree)
    (declared : DeclarationTrees) (number : ℕ) (parameters : List ℕ) (typed : TypedList) (progress : Progress)
    → BodyIsSound typed → IsAt own (body ∷ outer) progress.known
    → IsAt body.lists outer (close_procedure heading declared number parameters typed progress).known
close_procedure_is own body heading declared number parameters typed progress is at = record {
  here = out_of_body_is body progress.known.here progress.known.here.outer_bodies at.here.outer_are;
  procedures =
      All-set (λ (procedure : TypedProcedure). BodyIsSound procedure.body) progress.known.procedures number
      (procedure_with heading (parameter_types declared heading.parameters) parameters progress.frame typed)
      is at.procedures;
}
