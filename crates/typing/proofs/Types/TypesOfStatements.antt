-- Every typed module is well typed and lists its globals, and its frames fit.
use Rattle.typing.proofs.Prelude.{◌≡◌, ℕ, ◌+◌, true, false, List, [], ◌∷◌, ◌++◌, length, map, Option, None, Some, Ok, slice_get, slice_set, refl, sym, ap, ◌∙◌, subst, length-append, arith, append_assoc, IfSome, IsSomeAnd, is_none, not, ◌&&◌, ◌==◌, enumerate_from, All-from_recursion, ScalarType, Address, Identifier, Place, ExpressionTree, ReferenceTree, IterationTree, LoopHeadTree, ArgumentTrees, StatementTree, LabelledStatement, StatementKindTree, ElseTree, StatementTrees, HeadingTree, DeclarationTree, DeclareTree, ProcedureTree, DeclarationTrees, NoDeclarations, MoreDeclarations, ModuleTree, Binding, Declared, BuiltInName, Move, Object, Procedure, Label, jump_of, out_of_block, into_list, out_of_list, labels_of, TypedArguments, NoTyped, MoreTyped, TypedHead, TypedObject, TypedStatement, TypedStatements, TypedList, TypedProcedure, TypedModule, Constants, IsScalar, type_of, Within, WithinProcedure, WithinMain, LiesFor, TypesHold, TypesHoldInArguments, TypesHoldInTargets, TypesHoldInHead, TypesHoldIn, TypesHoldInElse, TypesHoldInStatements, TypesHoldInList, TypesHoldInProcedure, IsWellTyped, ArgumentCount, ListsGlobals, FramesFit, Destination, target_of, Known, Given, place_of, count_of_given, bound, is_writable, scalar_of, arguments, Owner, TheModule, OfProcedure, Block, Progress, is_external, is_external_linkage, is_not_based, with_here, with_constants, value, destinations, assignment, moved, call_bound, call, return_with, return_from, goto_bound, goto, Counter, counter_bound, step, iteration, loop_head, labels_before, after_labels, list_of, parameter_types, procedure_with, parameter_objects, own_block, check_body, close_procedure, inner_block, entered, kind, labelled, alone, else_part, cases, statements, declaration, declarations, module_block, at_the_beginning, module_with, typing_of, Checked, require, and_parts, not-true, some_and}
use Rattle.trees.specs.Trees as trees
use Rattle.typed_trees.specs.TypedTrees.{CountHead}
use Rattle.typing.proofs.Kept.{Gives, then_more, gives_ok, gives_fault, gives_after, in_turn, required, is_found}
use Rattle.typing.proofs.Heads.{head_gives}
use Rattle.typing.proofs.NamesBack.{is_bound, Binds}
use Rattle.typing.proofs.Tables.{Keeps}
use Rattle.typing.proofs.Types.TypesKept.{Holding, holding_at, holding_more, holding_both, headings}
use Rattle.typing.proofs.Types.TypesOfReferences.{as_type_holds, Sees, SeenObject, seen_object, GivenHolds, call_arguments_hold, scalar_is}
use Rattle.typing.proofs.Types.TypesOfExpressions.{expression_holds, arguments_hold, destination_holds}
use Rattle.typing.proofs.SeenNames.{within_of, sees_within, into_block-stands, out_of_block-stands, into_list-stands, out_of_list-stands, out_of_body-stands, declare_labels-stand}
use Rattle.typing.proofs.GlobalsListed.{Listed, none_listed, lists_globals}
use Rattle.typing.proofs.Types.FramesSummed.{Summed, none_summed, closed_summed, frames_fit}
use Rattle.typing.proofs.Types.TypesWalked.{StandsAt, Reaches, AllHold, Goes, goes_nowhere, goes_holding, goes_then, goes_as, goes_from, goes_to, closed_table, same_headings}
use Rattle.typing.proofs.Types.TypesOfDeclarations.{Nothing, not_based_lies, declare_elements-go, heading_procedure, Opened, open_procedure-opens}
use Rattle.typing.proofs.Options.{equals_none}

-- what a typed part goes on to and says
abbrev GoesOn : {A : Type 0} → Owner → Progress → (TypedModule → A → Type 0) → Checked (A × Progress) → Type 0
GoesOn {A} owner before Says checked =
    Gives (λ (done : A × Progress). Goes owner before done.1 (λ tables. Says tables done.0)) checked

-- targets
destinations_hold : (within : Within) (known : Known) → Sees within known
    → (targets : List ReferenceTree) (constants : Constants)
    → Gives
    (λ (found : List Destination × Constants). Holding known constants found.1
    (λ tables. (from : ScalarType)
    → TypesHoldInTargets tables within from (map (λ (place : Destination). target_of place from) found.0)))
    (destinations known targets constants)
destinations_hold within known sees [] constants = gives_ok (holding_at (λ tables has from. tt))
destinations_hold within known sees (first ∷ others) constants =
    in_turn (destination_holds within known sees first constants) λ destination to.
    in_turn (destinations_hold within known sees others destination.1) λ rest more.
    gives_ok (holding_both to more (λ tables has one others from. (one from, others from)))

-- calls
moved_holds : (within : Within) (place : Place) (values : TypedArguments)
    → Gives (λ statement. (tables : TypedModule) → TypesHoldInArguments tables within values
    → TypesHoldIn tables within statement) (moved place values)
moved_holds within place (MoreTyped count (MoreTyped source (MoreTyped destination NoTyped))) =
    gives_ok (λ tables hold. (
      as_type_holds tables within Address count hold.0,
      as_type_holds tables within Address source hold.1.0,
      as_type_holds tables within Address destination hold.1.1.0,
    ))
moved_holds within place values = gives_fault

no_result : (result : Option ScalarType) → is_none result ≡ true → result ≡ None
no_result None is = refl
no_result (Some scalar) is = absurd cc

call_bound_holds : (within : Within) (known : Known) (binding : Binding) (name : Identifier) (given : Given)
    (constants : Constants)
    → GivenHolds within known given
    → Gives
    (λ (done : TypedStatement × Constants). Holding known constants done.1
    (λ tables. TypesHoldIn tables within done.0)) (call_bound known binding name given constants)
call_bound_holds within known (Declared (Procedure number)) name given constants holds =
    in_turn (is_found (slice_get known.procedures number) _ _) λ procedure entry.
    in_turn (required (is_none procedure.result) _ _) λ _ none.
    in_turn (call_arguments_hold within known number procedure None (place_of name) given constants entry
    (no_result procedure.result none) holds) λ values says.
    gives_ok says
call_bound_holds within known (BuiltInName Move) name given constants holds =
    gives_after (require (count_of_given given == 3) ArgumentCount (place_of name)) λ three.
    in_turn (holds constants) λ values so.
    in_turn (moved_holds within (place_of name) values.0) λ moving is.
    gives_ok (holding_more so (λ tables has are_so. is tables are_so.1))
call_bound_holds within known binding name given constants holds = gives_fault

-- the variable of an iterative DO
abbrev CountsIn : Within → Counter → TypedModule → Type 0
CountsIn within counter tables =
    IsSomeAnd (slice_get tables.objects counter.object)
    (λ (object : TypedObject). IsScalar counter.scalar object × LiesFor within object.home)

counter_holds : (within : Within) (known : Known) (binding : Binding) (name : Identifier)
    (constants : Constants)
    → Sees within known → Binds known name binding
    → Gives (λ counter. Holding known constants constants (CountsIn within counter))
    (counter_bound known binding name)
counter_holds within known (Declared (Object number)) name constants sees bound_to =
    in_turn (is_found (slice_get known.objects number) _ _) λ object entry.
    gives_after (is_writable object name) λ writable.
    in_turn (required (is_none object.dimension && is_not_based object.home) _ _) λ _ plain.
    in_turn (is_found (scalar_of object.object_type) _ _) λ scalar is.
    let seen : SeenObject within known number object = seen_object name sees bound_to entry in
    let two = and_parts _ _ plain in
    gives_ok (holding_at (λ tables has.
    some_and _ (slice_get tables.objects number) object (seen.at tables has) (
      (equals_none object.dimension two.0, scalar_is object.object_type scalar is),
      not_based_lies tables within object.home two.1 (seen.seen tables has),
    )))
counter_holds within known binding name constants sees bound_to = gives_fault

-- Simple statements and heads of loops of a block that is none of an EXTERNAL procedure.
module _ (owner : Owner) (is_here : is_external owner ≡ false) where
  abbrev within : Within
  within = within_of owner

  abbrev names : (progress : Progress) → StandsAt owner progress → Sees within progress.known
  names progress stands = sees_within owner progress.known stands.0 is_here

  value_goes : (tree : ExpressionTree) (progress : Progress) → StandsAt owner progress
      → GoesOn owner progress (λ tables. TypesHold tables within) (value tree progress)
  value_goes tree progress stands =
      in_turn (expression_holds within progress.known (names progress stands) tree progress.constants)
      λ found is.
      gives_ok (goes_holding progress stands is)

  assignment_goes : (targets : List ReferenceTree) (source : ExpressionTree) (progress : Progress)
      → StandsAt owner progress
      → GoesOn owner progress (λ tables. TypesHoldIn tables within) (assignment targets source progress)
  assignment_goes targets source progress stands =
      in_turn (destinations_hold within progress.known (names progress stands) targets progress.constants)
      λ places to.
      let there = goes_holding progress stands to in
      in_turn (value_goes source (with_constants places.1 progress) there.stands) λ found is.
      gives_ok (goes_as (goes_then there is) (λ tables says. (says.1, says.0 (type_of found.0))))

  call_goes : (name : Identifier) (values : ArgumentTrees) (progress : Progress) → StandsAt owner progress
      → GoesOn owner progress (λ tables. TypesHoldIn tables within)
      (call name (record { trees = values; typed = arguments progress.known values }) progress)
  call_goes name values progress stands =
      gives_after (bound progress.known name) λ binding.
      in_turn (call_bound_holds within progress.known binding name
      (record { trees = values; typed = arguments progress.known values }) progress.constants
      (arguments_hold within progress.known (names progress stands) values)) λ found is.
      gives_ok (goes_holding progress stands is)

  step_goes : (tree : Option ExpressionTree) (progress : Progress) → StandsAt owner progress
      → GoesOn owner progress (λ tables by. IfSome by (TypesHold tables within)) (step tree progress)
  step_goes None progress stands = gives_ok (goes_nowhere progress stands (λ tables reaches. tt))
  step_goes (Some tree) progress stands =
      in_turn (value_goes tree progress stands) λ found is.
      gives_ok is

  iteration_goes : (tree : IterationTree) (progress : Progress) → StandsAt owner progress
      → GoesOn owner progress (λ tables counted. TypesHoldInHead tables within (CountHead counted))
      (iteration tree progress)
  iteration_goes tree progress stands =
      in_turn (is_bound progress.known tree.variable) λ binding bound_to.
      in_turn (counter_holds within progress.known binding tree.variable progress.constants
      (names progress stands) bound_to)
      λ counter counts.
      let w₀ = goes_holding progress stands counts in
      in_turn (value_goes tree.first progress stands) λ first w₁.
      in_turn (value_goes tree.last first.1 w₁.stands) λ last w₂.
      in_turn (step_goes tree.step last.1 w₂.stands) λ by w₃.
      gives_ok (goes_as (goes_then w₀ (goes_then w₁ (goes_then w₂ w₃)))
      (λ tables says. (says.0, says.1.0, says.1.1.0, says.1.1.1)))

  head_goes : (head : LoopHeadTree) (progress : Progress) → StandsAt owner progress
      → GoesOn owner progress (λ tables. TypesHoldInHead tables within) (loop_head head progress)
  head_goes head progress stands =
      head_gives
      (λ head (done : TypedHead × Progress).
      Goes owner progress done.1 (λ tables. TypesHoldInHead tables within done.0))
      progress (λ tree. value_goes tree progress stands) (λ tree. iteration_goes tree progress stands) head

return_goes : (place : Place) (owner : Owner) (tree : Option ExpressionTree) (progress : Progress)
    → is_external owner ≡ false → StandsAt owner progress
    → GoesOn owner progress (λ tables. TypesHoldIn tables (within_of owner))
    (return_from place owner tree progress)
return_goes place TheModule tree progress is_here stands = gives_fault
return_goes place (OfProcedure number heading) tree progress is_here stands =
    go heading.result tree refl
  where
    own : Owner
    own = OfProcedure number heading

    go : (result : Option ScalarType) (tree : Option ExpressionTree) → heading.result ≡ result
        → GoesOn own progress (λ tables. TypesHoldIn tables (WithinProcedure number result))
        (return_with place result tree progress)
    go None None e = gives_ok (goes_nowhere progress stands (λ tables reaches. tt))
    go (Some scalar) (Some tree) e =
        in_turn (value_goes own is_here tree progress stands) λ found is.
        gives_ok (goes_as is (λ tables holds.
        as_type_holds tables (WithinProcedure number (Some scalar)) scalar found.0
        (subst (λ its. TypesHold tables (WithinProcedure number its) found.0) e holds)))
    go (Some scalar) None e = gives_fault
    go None (Some tree) e = gives_fault

goto_bound_holds : (place : Place) (binding : Binding)
    → Gives (λ statement. (tables : TypedModule) (within : Within) → TypesHoldIn tables within statement)
    (goto_bound place binding)
goto_bound_holds place (Declared (Label label)) = gives_ok (λ tables within. tt)
goto_bound_holds place binding = gives_fault

goto_goes : (label : Identifier) (owner : Owner) (progress : Progress) → StandsAt owner progress
    → GoesOn owner progress (λ tables. TypesHoldIn tables (within_of owner)) (goto label progress)
goto_goes label owner progress stands =
    in_turn (goto_bound_holds (place_of label) (jump_of progress.known.here label.name)) λ statement is.
    gives_ok (goes_nowhere progress stands (λ tables reaches. is tables (within_of owner)))

-- labels before a statement
after_labels_hold : (tables : TypedModule) (within : Within) (label : ℕ) (labels : List Identifier)
    (rest : TypedStatements)
    → TypesHoldInStatements tables within rest
    → TypesHoldInStatements tables within (after_labels label labels rest)
after_labels_hold tables place label [] rest hold = hold
after_labels_hold tables place label (first ∷ others) rest hold =
    (tt, after_labels_hold tables place (label + 1) others rest hold)

-- statements stand in no EXTERNAL procedure
abbrev MayStand : Owner → StatementTrees → Type 0
MayStand owner trees.NoStatements = Unit {0}
MayStand owner (trees.MoreStatements first others) = is_external owner ≡ false

may_stand : (owner : Owner) (trees : StatementTrees) → is_external owner ≡ false → MayStand owner trees
may_stand owner trees.NoStatements is = tt
may_stand owner (trees.MoreStatements first others) is = is

body_may_stand : (number : ℕ) (heading : HeadingTree) (body : StatementTrees)
    → Gives (λ _. MayStand (OfProcedure number heading) body) (check_body heading body)
body_may_stand number heading trees.NoStatements = gives_ok tt
body_may_stand number heading (trees.MoreStatements first others) =
    then_more (required (not (is_external_linkage heading.linkage)) _ _) λ _ is.
    not-true (is_external_linkage heading.linkage) is

-- a list, whose labels are known in the whole of it
list_goes : (owner : Owner) (trees : StatementTrees)
    (typed_from : ℕ → Progress → Checked (TypedStatements × Progress)) (progress : Progress)
    → StandsAt owner progress
    → ((label : ℕ) (inside : Progress) → StandsAt owner inside
    → GoesOn owner inside (λ tables. TypesHoldInStatements tables (within_of owner))
    (typed_from label inside))
    → GoesOn owner progress (λ tables. TypesHoldInList tables (within_of owner))
    (list_of trees typed_from progress)
list_goes owner trees typed_from progress stands each =
    let inside : Progress = with_here (into_list (labels_of trees) progress.known.here) progress in
    in_turn (each progress.known.here.labels inside
    (into_list-stands stands.0 (labels_of trees), stands.1, stands.2)) λ done w.
    gives_ok (goes_to (out_of_list done.1.known.here) refl (out_of_list-stands w.stands.0) (goes_from refl w))

-- out of a procedure: its entry has the heading that it had
closed_goes : (owner : Owner) (heading : HeadingTree) (declared : DeclarationTrees)
    (parameters : List ℕ) (body : TypedList)
    (before opened within : Progress)
    → Opened owner heading declared before opened
    → Goes (OfProcedure (length before.known.procedures) heading) opened within
    (λ tables. TypesHoldInList tables (within_of (OfProcedure (length before.known.procedures) heading)) body)
    → Goes owner before
    (close_procedure heading declared (length before.known.procedures) parameters body within) Nothing
closed_goes owner heading declared parameters body before opened within heads inside =
    let number : ℕ = length before.known.procedures in
    let first : TypedProcedure = heading_procedure heading declared in
    let last : TypedProcedure =
    procedure_with heading (parameter_types declared heading.parameters) parameters within.frame body in
    let procedures : List TypedProcedure = before.known.procedures in
    let is : within.known.procedures ≡ (procedures ++ first ∷ []) ++ inside.added =
    inside.appended ∙ ap (λ (k : List TypedProcedure). k ++ inside.added) heads.appended in
    let same : headings (slice_set within.known.procedures number last) ≡ headings within.known.procedures =
    same_headings procedures first last inside.added within.known.procedures refl is in
    let left = out_of_body-stands {outer = owner} heads.body before.known.here.outer_bodies
    (inside.around ∙ heads.around) inside.stands.0 in
    let next : length opened.known.procedures ≡ number + 1 =
    ap length heads.appended ∙ length-append procedures (first ∷ []) in
    let reaches_inside : (tables : TypedModule)
    → Reaches tables (close_procedure heading declared number parameters body within)
    → Reaches tables within =
    λ tables reaches. (
      (reaches.0.0, subst (λ k. Keeps k (headings tables.procedures)) same reaches.0.1),
      reaches.1,
    ) in
    record {
      stands = (
        left.0,
        subst (λ heads. Listed within.known.objects heads within.globals) (sym same) inside.stands.1,
        subst (λ (table : List TypedProcedure). Summed owner within.known.objects table 0)
            (sym (closed_table procedures first last inside.added within.known.procedures is))
            (closed_summed within.known.objects procedures inside.added first last within.frame heading refl
            (subst (λ (table : List TypedProcedure).
            Summed (OfProcedure number heading) within.known.objects table within.frame)
            (is ∙ append_assoc procedures (first ∷ []) inside.added) inside.stands.2)
            owner before.frame before.known.objects heads.own),
      );
      around = left.1;
      objects =
          λ at object e. inside.objects at object
          (subst (λ all. slice_get all at ≡ Some object) (sym heads.objects) e);
      added = last ∷ inside.added;
      appended = closed_table procedures first last inside.added within.known.procedures is;
      lists = omega (arith, inside.lists, ap (λ (constants : Constants). length constants.lists) heads.lists);
      bodies = λ tables reaches. (
        inside.says tables (reaches_inside tables reaches),
        subst (λ (at : ℕ). AllHold tables at inside.added) next
            (inside.bodies tables (reaches_inside tables reaches)),
      );
      says = λ tables reaches. tt;
    }

mutual
  kind_goes : (block : Block) (tree : StatementKindTree) (progress : Progress)
      → is_external block.owner ≡ false → StandsAt block.owner progress
      → GoesOn block.owner progress (λ tables. TypesHoldIn tables (within_of block.owner))
      (kind block tree progress)
  kind_goes block (trees.NullStatement place) progress is stands =
      gives_ok (goes_nowhere progress stands (λ tables reaches. tt))
  kind_goes block (trees.AssignmentStatement targets source) progress is stands =
      assignment_goes block.owner is targets source progress stands
  kind_goes block (trees.CallStatement place name values) progress is stands =
      call_goes block.owner is name values progress stands
  kind_goes block (trees.ReturnStatement place result) progress is stands =
      return_goes place block.owner result progress is stands
  kind_goes block (trees.HaltStatement place) progress is stands =
      gives_ok (goes_nowhere progress stands (λ tables reaches. tt))
  kind_goes block (trees.GotoStatement place label) progress is stands =
      goto_goes label block.owner progress stands
  kind_goes block (trees.IfStatement place condition body otherwise) progress is stands =
      in_turn (value_goes block.owner is condition progress stands) λ tested w₁.
      in_turn (alone_goes block body tested.1 is w₁.stands) λ chosen w₂.
      in_turn (else_goes block otherwise chosen.1 is w₂.stands) λ other w₃.
      gives_ok (goes_as (goes_then w₁ (goes_then w₂ w₃)) (λ tables says. (says.0, says.1.0, says.1.1)))
  kind_goes block (trees.DoStatement place declared body) progress is stands =
      in_turn (declarations_go (inner_block block) declared (entered progress)
      (into_block-stands stands.0, stands.1, stands.2)) λ opened w₁.
      in_turn
      (list_goes block.owner body (λ label. statements (inner_block block) body label) opened w₁.stands
      (λ label inside s. statements_go (inner_block block) body label inside
      (may_stand block.owner body is) s))
      λ done w₂.
      gives_ok
      (goes_as (goes_to (out_of_block done.1.known.here) refl (out_of_block-stands w₂.stands.0)
      (goes_from refl (goes_then w₁ w₂))) (λ tables says. says.1))
  kind_goes block (trees.LoopStatement place head body) progress is stands =
      in_turn (head_goes block.owner is head progress stands) λ headed w₁.
      in_turn
      (list_goes block.owner body (λ label. statements block body label) headed.1 w₁.stands
      (λ label inside s. statements_go block body label inside (may_stand block.owner body is) s)) λ done w₂.
      gives_ok (goes_as (goes_then w₁ w₂) (λ tables says. says))
  kind_goes block (trees.CaseStatement place choice body) progress is stands =
      in_turn (value_goes block.owner is choice progress stands) λ chosen w₁.
      in_turn (cases_go block body chosen.1 is w₁.stands) λ done w₂.
      gives_ok (goes_as (goes_then w₁ w₂) (λ tables says. says))

  labelled_goes : (block : Block) (tree : StatementTree) (progress : Progress)
      → is_external block.owner ≡ false → StandsAt block.owner progress
      → GoesOn block.owner progress (λ tables. TypesHoldIn tables (within_of block.owner))
      (labelled block tree progress)
  labelled_goes block (LabelledStatement labels tree) progress is stands =
      kind_goes block tree progress is stands

  alone_goes : (block : Block) (tree : StatementTree) (progress : Progress)
      → is_external block.owner ≡ false → StandsAt block.owner progress
      → GoesOn block.owner progress (λ tables. TypesHoldIn tables (within_of block.owner))
      (alone block tree progress)
  alone_goes block (LabelledStatement [] tree) progress is stands = kind_goes block tree progress is stands
  alone_goes block (LabelledStatement (label ∷ labels) tree) progress is stands = gives_fault

  else_goes : (block : Block) (tree : ElseTree) (progress : Progress)
      → is_external block.owner ≡ false → StandsAt block.owner progress
      → GoesOn block.owner progress (λ tables. TypesHoldInElse tables (within_of block.owner))
      (else_part block tree progress)
  else_goes block trees.NoElse progress is stands =
      gives_ok (goes_nowhere progress stands (λ tables reaches. tt))
  else_goes block (trees.ElseStatement body) progress is stands =
      in_turn (alone_goes block body progress is stands) λ done w.
      gives_ok w

  cases_go : (block : Block) (trees : StatementTrees) (progress : Progress)
      → is_external block.owner ≡ false → StandsAt block.owner progress
      → GoesOn block.owner progress (λ tables. TypesHoldInStatements tables (within_of block.owner))
      (cases block trees progress)
  cases_go block trees.NoStatements progress is stands =
      gives_ok (goes_nowhere progress stands (λ tables reaches. tt))
  cases_go block (trees.MoreStatements first others) progress is stands =
      in_turn (alone_goes block first progress is stands) λ done w₁.
      in_turn (cases_go block others done.1 is w₁.stands) λ rest w₂.
      gives_ok (goes_then w₁ w₂)

  statements_go : (block : Block) (trees : StatementTrees) (label : ℕ) (progress : Progress)
      → MayStand block.owner trees → StandsAt block.owner progress
      → GoesOn block.owner progress (λ tables. TypesHoldInStatements tables (within_of block.owner))
      (statements block trees label progress)
  statements_go block trees.NoStatements label progress may stands =
      gives_ok (goes_nowhere progress stands (λ tables reaches. tt))
  statements_go block (trees.MoreStatements first others) label progress is stands =
      in_turn (declare_labels-stand (labels_before first) progress.known.here stands.0) λ here there.
      in_turn (labelled_goes block first (with_here here progress) is (there.0, stands.1, stands.2))
      λ done w₁.
      in_turn (statements_go block others (label + length (labels_before first)) done.1
      (may_stand block.owner others is) w₁.stands) λ rest w₂.
      gives_ok (goes_as (goes_then (goes_from there.1 w₁) w₂)
      (λ tables says. after_labels_hold tables (within_of block.owner) label (labels_before first) _ says))

  declaration_goes : (block : Block) (tree : DeclarationTree) (progress : Progress)
      → StandsAt block.owner progress
      → Gives (λ after. Goes block.owner progress after Nothing) (declaration block tree progress)
  declaration_goes block (DeclareTree elements) progress stands =
      declare_elements-go block elements progress stands
  declaration_goes block (ProcedureTree heading declared body end_name) progress stands =
      let own : Block = own_block heading progress in
      in_turn (open_procedure-opens block heading declared progress stands) λ opened heads.
      in_turn (declarations_go own declared opened heads.stands) λ within w₁.
      gives_after (parameter_objects within.known.here heading.parameters) λ parameters.
      in_turn (body_may_stand (length progress.known.procedures) heading body) λ _ may.
      in_turn
      (list_goes own.owner body (λ label. statements own body label) within w₁.stands
      (λ label inside s. statements_go own body label inside may s)) λ done w₂.
      gives_ok
      (closed_goes block.owner heading declared parameters done.0 progress opened done.1 heads
      (goes_as (goes_then w₁ w₂) (λ tables says. says.1)))

  declarations_go : (block : Block) (trees : DeclarationTrees) (progress : Progress)
      → StandsAt block.owner progress
      → Gives (λ after. Goes block.owner progress after Nothing) (declarations block trees progress)
  declarations_go block NoDeclarations progress stands =
      gives_ok (goes_nowhere progress stands (λ tables reaches. tt))
  declarations_go block (MoreDeclarations first others) progress stands =
      in_turn (declaration_goes block first progress stands) λ between w₁.
      then_more (declarations_go block others between w₁.stands) λ after w₂.
      goes_as (goes_then w₁ w₂) (λ tables says. tt)

-- what holds of a typed module
abbrev Fits : TypedModule → Type 0
Fits found = IsWellTyped found × ListsGlobals found × FramesFit found

-- all bodies of a module, from its tables
module_holds : (name : List ℕ) (body : TypedList) (progress : Progress)
    → Goes TheModule at_the_beginning progress (λ tables. TypesHoldInList tables WithinMain body)
    → Fits (module_with name body progress)
module_holds name body progress goes =
    let tables : TypedModule = module_with name body progress in
    let reaches : Reaches tables progress = (((λ number x e. e), (λ number x e. e)), omega arith) in
    let bodies : AllHold tables 0 progress.known.procedures =
    subst (λ procedures. AllHold tables 0 procedures) (sym goes.appended) (goes.bodies tables reaches) in (
      record {
        procedures =
            All-from_recursion (TypesHoldInProcedure tables) (enumerate_from 0 progress.known.procedures)
            bodies;
        main = goes.says tables reaches;
      },
      lists_globals tables goes.stands.1,
      frames_fit tables progress.frame goes.stands.2 refl,
    )

typing_holds : (tree : ModuleTree) → Gives Fits (typing_of tree)
unfolding typing_of
typing_holds tree =
    in_turn (declarations_go module_block tree.declarations at_the_beginning
    (record { count = refl; inside = λ _. (tt, tt, tt); outside = tt }, none_listed, none_summed))
    λ declared w₁.
    in_turn
    (list_goes TheModule tree.statements
    (λ label. statements module_block tree.statements label) declared w₁.stands
    (λ label inside s. statements_go module_block tree.statements label inside
    (may_stand TheModule tree.statements refl) s)) λ done w₂.
    gives_ok
    (module_holds tree.name.name done.0 done.1 (goes_as (goes_then w₁ w₂) (λ tables says. says.1)))

-- Every typed module is well typed and lists its globals, and its frames fit.
pub is_well_typed : (tree : ModuleTree) (found : TypedModule) → typing_of tree ≡ Ok found → IsWellTyped found
is_well_typed tree found is = ((typing_holds tree).holds found is).0

pub globals_are_listed : (tree : ModuleTree) (found : TypedModule) → typing_of tree ≡ Ok found
    → ListsGlobals found
globals_are_listed tree found is = ((typing_holds tree).holds found is).1

pub frames_are_summed : (tree : ModuleTree) (found : TypedModule)
    → typing_of tree ≡ Ok found → FramesFit found
frames_are_summed tree found is = ((typing_holds tree).holds found is).2
