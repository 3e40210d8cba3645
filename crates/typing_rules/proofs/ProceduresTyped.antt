-- Headings, parameters and bodies: what the typing gives of them is what the rules give, and so is the fault.
use Rattle.typing_rules.proofs.Prelude.{not-false, not-true, ◌≡◌, ◌∙◌, ℕ, Bool, true, false, not, List, [], ◌∷◌, Option, Some, None, Ok, Err, refl, sym, ap, subst, Identifier, Object, Procedure, Label, Definition, Fault, require}
use Rattle.std.specs.Prelude.{◌||◌, take, drop}
use Rattle.std.specs.Map.{lookup}
use Rattle.std.specs.Str.{bytes_eq}
use Rattle.trees.specs.declared.declaration.Linkage.{Linkage}
use Rattle.trees.specs.declared.identifier.Place.{Place}
use Rattle.trees.specs.Trees.{HeadingTree, StatementTrees, NoStatements, MoreStatements, DeclarationTrees}
use Rattle.names.specs.declared.entity.Entity.{Entity}
use Rattle.names.specs.Environment.{Here, into_body, with_procedure, with_parameter, is_declared_again, is_parameter_again}
use Rattle.typed_trees.specs.declared.limits.TheConstants.{PARAMETER_LIMIT}
use Rattle.typing.specs.declared.fault.Cause.TheVariants.{DeclaredTwice, ParameterNotDeclared, MisplacedLinkage, NestedProcedure, ReentrantExternal, ExternalContents, TooManyParameters}
use Rattle.typing.specs.Blocks.{Block, Progress, is_external_linkage, place_of_linkage, is_reentrant, is_external, is_module_level}
use Rattle.typing.specs.internal.ProcedureChecks.{declare_parameters, no_more_parameters, check_visibility, check_reentrant, open_procedure, parameter_object, parameter_objects, check_body}
use Rattle.typing.specs.Statements.{place_of_statement}
use Rattle.typing_rules.specs.Procedures.{AreNewParameters, no_parameters, next_parameter, LinkageStands, no_linkage, at_module_level, ReentrantStands, not_reentrant, not_external, HeadingTyping, heading_stands, AreParameters, none_declared, next_declared, BodyStands, no_body, own_body}
use Rattle.typing_rules.specs.ProcedureFaults.{ParametersFault, parameter_again, in_other_parameters, HeadingFault, procedure_again, nested, in_heading_parameters, too_many_parameters, misplaced_linkage, reentrant_external, ParameterFault, not_declared, later_parameter, BodyFault, external_body}
use Rattle.typing_rules.specs.Names.{at_name}
use Rattle.typing_rules.proofs.Judged.{Judged, judged_ok, judged_fault, then_judged, judged_more, then_when, fault_of, then_ok, then_fault, passed, failed}

-- parameters of a heading
parameters_judged : (parameters : List Identifier) (here : Here)
    → Judged (AreNewParameters here parameters) (ParametersFault here parameters)
    (declare_parameters parameters here)
parameters_judged [] here = judged_ok no_parameters
parameters_judged (parameter ∷ others) here =
    then_when (not (is_parameter_again here parameter.name)) DeclaredTwice parameter.place
    (λ again. parameter_again (not-false _ again)) (λ _ new.
    judged_more (parameters_judged others (with_parameter parameter.name here))
    (λ fault is. in_other_parameters (not-true _ new) is)
    (λ after are. next_parameter (not-true _ new) are))

parameters_are_new : {here after : Here} {parameters : List Identifier}
    → AreNewParameters here parameters after
    → declare_parameters parameters here ≡ Ok after
parameters_are_new no_parameters = refl
parameters_are_new (next_parameter new others) =
    then_ok _ (passed _ _ (ap not new)) (parameters_are_new others)

parameters_fault : {here : Here} {parameters : List Identifier} {fault : Fault}
    → ParametersFault here parameters fault
    → declare_parameters parameters here ≡ Err fault
parameters_fault (parameter_again again) = then_fault _ (failed _ _ (ap not again))
parameters_fault (in_other_parameters new is) = then_ok _ (passed _ _ (ap not new)) (parameters_fault is)

-- attributes of a heading
no_more_judged : (parameters more : List Identifier)
    → parameters ≡ more
    → Judged (λ _. parameters ≡ [])
    (λ fault. (parameter : Identifier) × (others : List Identifier) × (parameters ≡ parameter ∷ others)
    × (fault ≡ at_name TooManyParameters parameter)) (no_more_parameters more)
no_more_judged parameters [] is = judged_ok is
no_more_judged parameters (parameter ∷ others) is = judged_fault (parameter, others, is, refl)

linkage_judged : (block : Block) (linkage : Option Linkage)
    → Judged (λ _. LinkageStands block linkage)
    (λ fault. (found : Linkage) × (linkage ≡ Some found) × (is_module_level block ≡ false)
    × (fault ≡ fault_of MisplacedLinkage (place_of_linkage found))) (check_visibility block linkage)
linkage_judged block None = judged_ok no_linkage
linkage_judged block (Some linkage) = by (is_module_level block) refl
  where
    by : (test : Bool) → is_module_level block ≡ test
        → Judged (λ _. LinkageStands block (Some linkage))
        (λ fault. (found : Linkage) × (Some linkage ≡ Some found)
        × (is_module_level block ≡ false) × (fault ≡ fault_of MisplacedLinkage (place_of_linkage found)))
        (require test MisplacedLinkage (place_of_linkage linkage))
    by true is = judged_ok (at_module_level is)
    by false is = judged_fault (linkage, refl, is, refl)

reentrant_judged : (linkage : Option Linkage) (reentrant : Option Place)
    → Judged (λ _. ReentrantStands linkage reentrant) (λ fault. (place : Place) × (reentrant ≡ Some place)
    × (is_external_linkage linkage ≡ true)
    × (fault ≡ fault_of ReentrantExternal place)) (check_reentrant linkage reentrant)
reentrant_judged linkage None = judged_ok not_reentrant
reentrant_judged linkage (Some place) = by (is_external_linkage linkage) refl
  where
    by : (test : Bool) → is_external_linkage linkage ≡ test
        → Judged (λ _. ReentrantStands linkage (Some place))
        (λ fault. (found : Place) × (Some place ≡ Some found)
        × (is_external_linkage linkage ≡ true) × (fault ≡ fault_of ReentrantExternal found))
        (require (not test) ReentrantExternal place)
    by false is = judged_ok (not_external is)
    by true is = judged_fault (place, refl, is, refl)

pub heading_judged : (block : Block) (tree : HeadingTree) (declared : DeclarationTrees) (progress : Progress)
    → Judged (HeadingTyping block tree declared progress) (HeadingFault block tree progress)
    (open_procedure block tree declared progress)
heading_judged block tree declared progress =
    then_when (not (is_declared_again progress.known.here tree.name.name)) DeclaredTwice tree.name.place
    (λ again. procedure_again (not-false _ again)) (λ _ new.
    then_when (not (is_reentrant block.owner || is_external block.owner)) NestedProcedure tree.name.place
    (λ within. nested (not-true _ new) (not-false _ within)) (λ _ apart.
    then_judged (parameters_judged (take PARAMETER_LIMIT tree.parameters)
    (into_body (with_procedure tree.name.name progress.known.here)))
    (λ fault is. in_heading_parameters (not-true _ new) (not-true _ apart) is) (λ here are.
    then_judged
    (no_more_judged (drop PARAMETER_LIMIT tree.parameters) (drop PARAMETER_LIMIT tree.parameters) refl)
    (λ fault more. subst (HeadingFault block tree progress) (sym more.3)
    (too_many_parameters (not-true _ new) (not-true _ apart) are more.2)) (λ _ few.
    then_judged (linkage_judged block tree.linkage)
    (λ fault wrong. subst (HeadingFault block tree progress) (sym wrong.3)
    (misplaced_linkage (not-true _ new) (not-true _ apart) are few wrong.1 wrong.2)) (λ _ stands.
    then_judged (reentrant_judged tree.linkage tree.reentrant)
    (λ fault wrong. subst (HeadingFault block tree progress) (sym wrong.3)
    (reentrant_external (not-true _ new) (not-true _ apart) are few stands wrong.1 wrong.2)) (λ _ also.
    judged_ok (heading_stands (not-true _ new) (not-true _ apart) are few stands also)))))))

linkage_is : {block : Block} {linkage : Option Linkage} → LinkageStands block linkage
    → check_visibility block linkage ≡ Ok tt
linkage_is no_linkage = refl
linkage_is (at_module_level is) = passed _ _ is

reentrant_is : {linkage : Option Linkage} {reentrant : Option Place}
    → ReentrantStands linkage reentrant
    → check_reentrant linkage reentrant ≡ Ok tt
reentrant_is not_reentrant = refl
reentrant_is (not_external is) = passed _ _ (ap not is)

pub heading_is : {block : Block} {tree : HeadingTree} {declared : DeclarationTrees}
    {progress opened : Progress}
    → HeadingTyping block tree declared progress opened
    → open_procedure block tree declared progress ≡ Ok opened
heading_is (heading_stands new apart parameters few linkage reentrant) =
    then_ok _ (passed _ _ (ap not new))
    (then_ok _ (passed _ _ (ap not apart)) (then_ok _ (parameters_are_new parameters)
    (then_ok _ (ap no_more_parameters few)
    (then_ok _ (linkage_is linkage) (then_ok _ (reentrant_is reentrant) refl)))))

misplaced_is : (block : Block) (linkage : Option Linkage) (found : Linkage)
    → linkage ≡ Some found
    → is_module_level block ≡ false
    → check_visibility block linkage ≡ Err (fault_of MisplacedLinkage (place_of_linkage found))
misplaced_is block linkage found is below = ap (check_visibility block) is ∙ failed _ _ below

external_is : (linkage : Option Linkage) (reentrant : Option Place) (place : Place)
    → reentrant ≡ Some place
    → is_external_linkage linkage ≡ true
    → check_reentrant linkage reentrant ≡ Err (fault_of ReentrantExternal place)
external_is linkage reentrant place is external =
    ap (check_reentrant linkage) is ∙ failed _ _ (ap not external)

pub heading_fault : {block : Block} {tree : HeadingTree} {progress : Progress} {fault : Fault}
    (declared : DeclarationTrees)
    → HeadingFault block tree progress fault
    → open_procedure block tree declared progress ≡ Err fault
heading_fault declared (procedure_again again) = then_fault _ (failed _ _ (ap not again))
heading_fault declared (nested new within) =
    then_ok _ (passed _ _ (ap not new)) (then_fault _ (failed _ _ (ap not within)))
heading_fault declared (in_heading_parameters new apart is) =
    then_ok _ (passed _ _ (ap not new))
    (then_ok _ (passed _ _ (ap not apart)) (then_fault _ (parameters_fault is)))
heading_fault declared (too_many_parameters new apart parameters more) =
    then_ok _ (passed _ _ (ap not new))
    (then_ok _ (passed _ _ (ap not apart)) (then_ok _ (parameters_are_new parameters)
    (then_fault _ (ap no_more_parameters more))))
heading_fault declared
    (misplaced_linkage {block = block} {heading = tree} new apart parameters few is below) =
    then_ok _ (passed _ _ (ap not new))
    (then_ok _ (passed _ _ (ap not apart)) (then_ok _ (parameters_are_new parameters)
    (then_ok _ (ap no_more_parameters few) (then_fault _ (misplaced_is block tree.linkage _ is below)))))
heading_fault declared (reentrant_external {heading = tree} new apart parameters few linkage is external) =
    then_ok _ (passed _ _ (ap not new))
    (then_ok _ (passed _ _ (ap not apart)) (then_ok _ (parameters_are_new parameters)
    (then_ok _ (ap no_more_parameters few) (then_ok _ (linkage_is linkage)
    (then_fault _ (external_is tree.linkage tree.reentrant _ is external))))))

-- the objects of parameters
one_parameter_judged : (here : Here) (parameter : Identifier) (entity : Option Entity)
    → lookup (bytes_eq parameter.name) here.body.block ≡ entity
    → Judged (λ number. lookup (bytes_eq parameter.name) here.body.block ≡ Some (Object number))
    (λ fault. ((number : ℕ) → ¬ (lookup (bytes_eq parameter.name) here.body.block ≡ Some (Object number)))
    × (fault ≡ at_name ParameterNotDeclared parameter)) (parameter_object parameter entity)
one_parameter_judged here parameter (Some (Object number)) is = judged_ok is
one_parameter_judged here parameter (Some (Procedure number)) is = judged_fault ((λ other e. absurd cc), refl)
one_parameter_judged here parameter (Some (Label number)) is = judged_fault ((λ other e. absurd cc), refl)
one_parameter_judged here parameter (Some Definition) is = judged_fault ((λ other e. absurd cc), refl)
one_parameter_judged here parameter None is = judged_fault ((λ other e. absurd cc), refl)

pub objects_judged : (here : Here) (parameters : List Identifier)
    → Judged (AreParameters here parameters) (ParameterFault here parameters)
    (parameter_objects here parameters)
objects_judged here [] = judged_ok none_declared
objects_judged here (parameter ∷ others) =
    then_judged (one_parameter_judged here parameter (lookup (bytes_eq parameter.name) here.body.block) refl)
    (λ fault is. subst (ParameterFault here (parameter ∷ others)) (sym is.1) (not_declared is.0))
    (λ number is.
    then_judged (objects_judged here others) (λ fault its. later_parameter is its) (λ numbers are.
    judged_ok (next_declared is are)))

pub objects_are : {here : Here} {parameters : List Identifier} {numbers : List ℕ}
    → AreParameters here parameters numbers
    → parameter_objects here parameters ≡ Ok numbers
objects_are none_declared = refl
objects_are (next_declared {parameter = parameter} is others) =
    then_ok _ (ap (parameter_object parameter) is) (then_ok _ (objects_are others) refl)

not_declared_is : (parameter : Identifier) (entity : Option Entity)
    → ((number : ℕ) → ¬ (entity ≡ Some (Object number)))
    → parameter_object parameter entity ≡ Err (at_name ParameterNotDeclared parameter)
not_declared_is parameter (Some (Object number)) none = absurd (none number refl)
not_declared_is parameter (Some (Procedure number)) none = refl
not_declared_is parameter (Some (Label number)) none = refl
not_declared_is parameter (Some Definition) none = refl
not_declared_is parameter None none = refl

pub objects_fault : {here : Here} {parameters : List Identifier} {fault : Fault}
    → ParameterFault here parameters fault
    → parameter_objects here parameters ≡ Err fault
objects_fault (not_declared {parameter = parameter} none) = then_fault _ (not_declared_is parameter _ none)
objects_fault (later_parameter {parameter = parameter} is others) =
    then_ok _ (ap (parameter_object parameter) is) (then_fault _ (objects_fault others))

-- bodies
pub body_judged : (tree : HeadingTree) (trees : StatementTrees)
    → Judged (λ _. BodyStands tree trees) (BodyFault tree trees) (check_body tree trees)
body_judged tree NoStatements = judged_ok no_body
body_judged tree (MoreStatements first others) = by (is_external_linkage tree.linkage) refl
  where
    by : (test : Bool) → is_external_linkage tree.linkage ≡ test
        → Judged (λ _. BodyStands tree (MoreStatements first others))
        (BodyFault tree (MoreStatements first others))
        (require (not test) ExternalContents (place_of_statement first))
    by false is = judged_ok (own_body is)
    by true is = judged_fault (external_body is)

pub body_is : {tree : HeadingTree} {trees : StatementTrees} → BodyStands tree trees
    → check_body tree trees ≡ Ok tt
body_is no_body = refl
body_is (own_body is) = passed _ _ (ap not is)

pub body_fault : {tree : HeadingTree} {trees : StatementTrees} {fault : Fault}
    → BodyFault tree trees fault
    → check_body tree trees ≡ Err fault
body_fault (external_body is) = failed _ _ (ap not is)
