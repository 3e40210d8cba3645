-- The objects and the procedures of a text stand, from part to part.
use Rattle.typed_laws.proofs.Prelude.{◌≡◌, ℕ, zero, suc, ◌+◌, ◌<◌, Bool, true, List, [], ◌∷◌, ◌++◌, length, map, Some, nat_le, refl, sym, ap, ◌∙◌, subst, length-append, arith, slice_get, slice_set, is_some, not, AllByRecursion, map-append, none-some, Identifier, DeclarationTree, DeclarationTrees, DeclareTree, ElementTree, ElseTree, HeadingTree, ItemElement, ItemTree, LiterallyElement, MoreDeclarations, NoDeclarations, ProcedureTree, StatementKindTree, StatementTree, StatementTrees, IsElement, IsItem, FRAME_LIMIT, OBJECT_LIMIT, size_of_object, Home, InData, InConstants, Placed, BasedOn, Elsewhere, Nowhere, InFrame, TypedList, TypedObject, TypedProcedure, TypedStatements, AtNumber, AtObject, DeclaredTwice, ExternalContents, TooLarge, Block, OfProcedure, Owner, Progress, TheModule, is_external, Checked, require, TypedItem, declare_element, declare_elements, declare_item, declare_names, place_of_item, object_named, size_of_item, with_objects, with_typed_object, arguments, check_body, close_procedure, own_block, parameter_objects, parameter_types, procedure_with, Known, place_of, declare_labels, labels_before, list_of, with_here, without_label, alone, cases, declaration, declarations, else_part, entered, inner_block, kind, statements, Gives, gives_after, gives_ok, in_turn, then_more, Keeps, keeps_append, heading_procedure, Opened, opens_procedure, front_or_back, Same, assignment_same, call_same, goto_same, head_same, return_same, value_same, AreFormed, ElseIsFormed, IsFormed, KindIsFormed, StatementIsFormed, StatementsAreFormed, got_first}
use Rattle.trees.specs.Trees as trees
use Rattle.names.specs.{Environment.{Here, is_declared_again, into_list}, DeclaredNames.{labels_of}, DeclaredNames.{declared_by}}
use Rattle.typing.specs.internal.Typing.{labelled}
use Rattle.typed_laws.proofs.DeclaredObjects.{HomeStands, OwnerFlag, typed_item_stands}

-- which procedures are REENTRANT
abbrev pub flag_of : TypedProcedure → Bool
flag_of procedure = procedure.is_reentrant

abbrev pub flags_of : List TypedProcedure → List Bool
flags_of procedures = map flag_of procedures

-- an object of a number: where it lives stands, and it takes a byte
pub record ObjectStands (flags : List Bool) (number : ℕ) (object : TypedObject) : Type 0 where
  pub home : HomeStands flags number object.home
  pub size : 0 < size_of_object object

abbrev pub ObjectsStand : List TypedObject → (flags : List Bool) → Type 0
ObjectsStand objects flags =
    (number : ℕ) (object : TypedObject) → slice_get objects number ≡ Some object
    → ObjectStands flags number object

-- a place of a text
pub record StandsAt (owner : Owner) (progress : Progress) : Type 0 where
  pub own : OwnerFlag owner (flags_of progress.known.procedures)
  pub objects : ObjectsStand progress.known.objects (flags_of progress.known.procedures)

-- a part of a text goes from one place to another
pub record Goes (before after : Progress) : Type 0 where
  pub flags : Keeps (flags_of before.known.procedures) (flags_of after.known.procedures)
  pub objects : ObjectsStand after.known.objects (flags_of after.known.procedures)

own_later : (owner : Owner) (flags more : List Bool) → Keeps flags more → OwnerFlag owner flags
    → OwnerFlag owner more
own_later TheModule flags more keeps own = tt
own_later (OfProcedure number heading) flags more keeps own = keeps number (is_some heading.reentrant) own

pub stands_after : {owner : Owner} {before after : Progress} → StandsAt owner before → Goes before after
    → StandsAt owner after
stands_after {owner} {before} {after} stands goes = record {
  own = own_later owner (flags_of before.known.procedures) (flags_of after.known.procedures)
      goes.flags stands.own;
  objects = goes.objects;
}

pub goes_then : {before between after : Progress} → Goes before between
    → Goes between after → Goes before after
goes_then one other = record {
  flags = λ number flag is. other.flags number flag (one.flags number flag is);
  objects = other.objects;
}

goes_known : {owner : Owner} (before after : Progress) → StandsAt owner before
    → Same before after → Goes before after
goes_known before after stands same = record {
  flags = λ number flag is.
      subst (λ (known : Known). slice_get (flags_of known.procedures) number ≡ Some flag) (sym same) is;
  objects =
      subst (λ (known : Known). ObjectsStand known.objects (flags_of known.procedures))
      (sym same) stands.objects;
}

goes_nowhere : {owner : Owner} (progress : Progress) → StandsAt owner progress → Goes progress progress
goes_nowhere progress stands = goes_known progress progress stands refl

-- what names stand for changes
here_stands : {owner : Owner} (here : Here) {progress : Progress} → StandsAt owner progress
    → StandsAt owner (with_here here progress)
here_stands here stands = record { own = stands.own; objects = stands.objects }

goes_here : {before after : Progress} (first last : Here) → Goes (with_here first before) after
    → Goes before (with_here last after)
goes_here first last goes = record { flags = goes.flags; objects = goes.objects }

goes_from_here : {before after : Progress} (first : Here)
    → Goes (with_here first before) after → Goes before after
goes_from_here first goes = record { flags = goes.flags; objects = goes.objects }

-- one more object
home_later : (flags : List Bool) (number : ℕ) (home : Home)
    → HomeStands flags number home → HomeStands flags (number + 1) home
home_later flags number (BasedOn base) stands = omega (arith, stands)
home_later flags number (InFrame procedure) stands = stands
home_later flags number (InData values) stands = stands
home_later flags number (InConstants values) stands = stands
home_later flags number (Placed (AtObject other offset)) stands = stands
home_later flags number (Placed (AtNumber address)) stands = tt
home_later flags number Elsewhere stands = tt
home_later flags number Nowhere stands = tt

object_more : (objects : List TypedObject) (flags : List Bool) (object : TypedObject)
    → ObjectsStand objects flags → ObjectStands flags (length objects) object
    → ObjectsStand (objects ++ object ∷ []) flags
object_more objects flags object stand new number found is =
    front_or_back objects (object ∷ []) number found is
    (λ front. stand number found front)
    (λ at same there. last at same there)
  where
    last : (at : ℕ) → number ≡ length objects + at → slice_get (object ∷ []) at ≡ Some found
        → ObjectStands flags number found
    last zero same there =
        let it : object ≡ found = cc in
        let place : number ≡ length objects = omega (arith, same) in
        subst (λ (each : TypedObject). ObjectStands flags number each) it
        (subst (λ (each : ℕ). ObjectStands flags each object) (sym place) new)
    last (suc at) same there = absurd (none-some found there)

objects_more : (block : Block) (item : TypedItem) (names : List Identifier) (progress : Progress)
    → HomeStands (flags_of progress.known.procedures) (length progress.known.objects) item.home
    → 0 < size_of_item item
    → StandsAt block.owner progress
    → Gives (λ after. Goes progress after) (with_objects block item names progress)
objects_more block item [] progress home size stands = gives_ok (goes_nowhere progress stands)
objects_more block item (name ∷ others) progress home size stands =
    let object : TypedObject = object_named block item name.name in
    let objects : List TypedObject = progress.known.objects in
    let flags : List Bool = flags_of progress.known.procedures in
    let after : Progress = with_typed_object item.linkage object progress in
    let there : StandsAt block.owner after = record {
      own = stands.own;
      objects = object_more objects flags object stands.objects (record { home = home; size = size });
    } in
    let longer : length objects + 1 ≡ length (objects ++ object ∷ []) =
    omega (arith, length-append objects (object ∷ [])) in
    gives_after (require (nat_le after.frame FRAME_LIMIT) TooLarge (place_of name)) λ small.
    then_more
    (objects_more block item others after
    (subst (λ (number : ℕ). HomeStands flags number item.home) longer
    (home_later flags (length objects) item.home home)) size there) λ last goes.
    record { flags = goes.flags; objects = goes.objects }

-- what DECLARE declares
item_goes : (block : Block) (item : ItemTree) (progress : Progress) → IsItem item
    → StandsAt block.owner progress
    → Gives (λ after. Goes progress after) (declare_item block item progress)
item_goes block item progress formed stands =
    gives_after (declare_names block (declared_by item.subject) progress.known.here) λ here.
    in_turn (typed_item_stands progress.known block item (flags_of progress.known.procedures)
    stands.own formed.1)
    λ typed is.
    gives_after (require (nat_le (size_of_item typed) OBJECT_LIMIT) TooLarge (place_of_item item)) λ small.
    in_turn (objects_more block typed (declared_by item.subject) progress is.home is.size stands)
    λ after goes.
    gives_ok (record { flags = goes.flags; objects = goes.objects })

element_goes : (block : Block) (element : ElementTree) (progress : Progress) → IsElement element
    → StandsAt block.owner progress
    → Gives (λ after. Goes progress after) (declare_element block element progress)
element_goes block (LiterallyElement name text) progress formed stands =
    gives_after
    (require (not (is_declared_again progress.known.here name.name)) DeclaredTwice (place_of name))
    λ once.
    gives_after (require (not (is_external block.owner)) ExternalContents (place_of name)) λ placed.
    gives_ok (record { flags = λ number flag is. is; objects = stands.objects })
element_goes block (ItemElement item) progress formed stands = item_goes block item progress formed stands

elements_go : (block : Block) (elements : List ElementTree) (progress : Progress)
    → AllByRecursion IsElement elements → StandsAt block.owner progress
    → Gives (λ after. Goes progress after) (declare_elements block elements progress)
elements_go block [] progress formed stands = gives_ok (goes_nowhere progress stands)
elements_go block (element ∷ others) progress formed stands =
    in_turn (element_goes block element progress formed.0 stands) λ between one.
    then_more (elements_go block others between formed.1 (stands_after stands one)) λ after two.
    goes_then one two

-- into a procedure
flags_later : (flags more : List Bool) (number : ℕ) (home : Home) → Keeps flags more
    → HomeStands flags number home → HomeStands more number home
flags_later flags more number (BasedOn base) keeps stands = stands
flags_later flags more number (InFrame procedure) keeps stands = keeps procedure true stands
flags_later flags more number (InData values) keeps stands = stands
flags_later flags more number (InConstants values) keeps stands = stands
flags_later flags more number (Placed (AtObject other offset)) keeps stands = stands
flags_later flags more number (Placed (AtNumber address)) keeps stands = tt
flags_later flags more number Elsewhere keeps stands = tt
flags_later flags more number Nowhere keeps stands = tt

module _ (heading : HeadingTree) (declared : DeclarationTrees) (block : Block) (progress opened : Progress)
    (stands : StandsAt block.owner progress) (heads : Opened heading declared progress opened) where
  abbrev its_number : ℕ
  its_number = length progress.known.procedures

  abbrev its_flags : List Bool
  its_flags = flags_of progress.known.procedures

  opened_flags : flags_of opened.known.procedures ≡ its_flags ++ is_some heading.reentrant ∷ []
  opened_flags =
      ap flags_of heads.procedures
      ∙ map-append flag_of progress.known.procedures (heading_procedure heading declared ∷ [])

  opened_keeps : Keeps its_flags (flags_of opened.known.procedures)
  opened_keeps =
      subst (λ (flags : List Bool). Keeps its_flags flags) (sym opened_flags)
      (keeps_append its_flags (is_some heading.reentrant ∷ []))

  pub opened_goes : Goes progress opened
  opened_goes = record {
    flags = opened_keeps;
    objects = λ number object is.
        let before = stands.objects number object
        (subst (λ (objects : List TypedObject). slice_get objects number ≡ Some object) heads.objects is) in
        record {
          home = flags_later its_flags (flags_of opened.known.procedures) number object.home
              opened_keeps before.home;
          size = before.size;
        };
  }

  pub opened_stands : StandsAt (OfProcedure its_number heading) opened
  opened_stands = record {
    own = subst (λ (flags : List Bool). slice_get flags its_number ≡ Some (is_some heading.reentrant))
        (sym opened_flags) there;
    objects = opened_goes.objects;
  }
    where
      there : slice_get (its_flags ++ is_some heading.reentrant ∷ []) its_number
          ≡ Some (is_some heading.reentrant)
      there =
          subst
          (λ (at : ℕ).
          slice_get (its_flags ++ is_some heading.reentrant ∷ []) at ≡ Some (is_some heading.reentrant))
          (length_flags progress.known.procedures) (got_first its_flags (is_some heading.reentrant) [])
        where
          length_flags : (procedures : List TypedProcedure) → length (flags_of procedures) ≡ length procedures
          length_flags [] = refl
          length_flags (first ∷ procedures) = ap (λ (count : ℕ). suc count) (length_flags procedures)

-- out of it: its entry in the table has the flag that it had
same_flags : (procedures : List TypedProcedure) (number : ℕ) (last : TypedProcedure)
    → slice_get (flags_of procedures) number ≡ Some last.is_reentrant
    → flags_of (slice_set procedures number last) ≡ flags_of procedures
same_flags [] number last is = refl
same_flags (first ∷ procedures) zero last is =
    let same : first.is_reentrant ≡ last.is_reentrant = cc in
    ap (λ (flag : Bool). flag ∷ flags_of procedures) (sym same)
same_flags (first ∷ procedures) (suc number) last is =
    ap (λ (flags : List Bool). first.is_reentrant ∷ flags) (same_flags procedures number last is)

closed_goes : (heading : HeadingTree) (declared : DeclarationTrees) (number : ℕ) (parameters : List ℕ)
    (body : TypedList) (before within : Progress)
    → StandsAt (OfProcedure number heading) within → Goes before within
    → Goes before (close_procedure heading declared number parameters body within)
closed_goes heading declared number parameters body before within stands goes =
    let last : TypedProcedure =
    procedure_with heading (parameter_types declared heading.parameters) parameters within.frame body in
    let same : flags_of (slice_set within.known.procedures number last) ≡ flags_of within.known.procedures =
    same_flags within.known.procedures number last stands.own in
    record {
      flags = subst (λ (flags : List Bool). Keeps (flags_of before.known.procedures) flags)
          (sym same) goes.flags;
      objects =
          subst (λ (flags : List Bool). ObjectsStand within.known.objects flags) (sym same) goes.objects;
    }

-- what a statement gives
abbrev GoesOn : {A : Type 0} → Progress → Checked (A × Progress) → Type 0
GoesOn {A} progress result = Gives (λ (found : A × Progress). Goes progress found.1) result

from_same : {A : Type 0} {owner : Owner} {progress : Progress} {result : Checked (A × Progress)}
    → StandsAt owner progress → Gives (λ (found : A × Progress). Same progress found.1) result
    → GoesOn progress result
from_same {A} {owner} {progress} {result} stands is =
    then_more is (λ found same. goes_known progress found.1 stands same)

pub list_goes : (owner : Owner) (trees : StatementTrees)
    (typed_from : ℕ → Progress → Checked (TypedStatements × Progress)) (progress : Progress)
    → StandsAt owner progress
    → ((label : ℕ) (inside : Progress) → StandsAt owner inside → GoesOn inside (typed_from label inside))
    → GoesOn progress (list_of trees typed_from progress)
list_goes owner trees typed_from progress stands each =
    let first : Here = into_list (labels_of trees) progress.known.here in
    in_turn (each progress.known.here.labels (with_here first progress) (here_stands first stands))
    λ done goes.
    gives_ok (record { flags = goes.flags; objects = goes.objects })

mutual
  kind_goes : (block : Block) (tree : StatementKindTree) (progress : Progress)
      → KindIsFormed tree → StandsAt block.owner progress → GoesOn progress (kind block tree progress)
  kind_goes block (trees.NullStatement place) progress formed stands = gives_ok (goes_nowhere progress stands)
  kind_goes block (trees.AssignmentStatement targets source) progress formed stands =
      from_same stands (assignment_same targets source progress)
  kind_goes block (trees.CallStatement place name values) progress formed stands =
      from_same stands
      (call_same name (record { trees = values; typed = arguments progress.known values }) progress)
  kind_goes block (trees.ReturnStatement place result) progress formed stands =
      from_same stands (return_same place block.owner result progress)
  kind_goes block (trees.HaltStatement place) progress formed stands = gives_ok (goes_nowhere progress stands)
  kind_goes block (trees.GotoStatement place label) progress formed stands =
      from_same stands (goto_same label progress)
  kind_goes block (trees.IfStatement place condition body otherwise) progress formed stands =
      in_turn (from_same stands (value_same condition progress)) λ tested one.
      in_turn (alone_goes block body tested.1 formed.0 (stands_after stands one)) λ chosen two.
      in_turn (else_goes block otherwise chosen.1 formed.1 (stands_after (stands_after stands one) two))
      λ other three.
      gives_ok (goes_then one (goes_then two three))
  kind_goes block (trees.DoStatement place declared body) progress formed stands =
      let at : StandsAt block.owner (entered progress) =
      record { own = stands.own; objects = stands.objects } in
      in_turn (declarations_go (inner_block block) declared (entered progress) formed.0 at) λ opened one.
      in_turn
      (list_goes block.owner body (λ label. statements (inner_block block) body label) opened
      (stands_after at one)
      (λ label inside s. statements_go (inner_block block) body label inside formed.1 s)) λ done two.
      let both : Goes (entered progress) done.1 = goes_then one two in
      gives_ok (record { flags = both.flags; objects = both.objects })
  kind_goes block (trees.LoopStatement place head body) progress formed stands =
      in_turn (from_same stands (head_same head progress)) λ headed one.
      in_turn
      (list_goes block.owner body (λ label. statements block body label) headed.1 (stands_after stands one)
      (λ label inside s. statements_go block body label inside formed s)) λ done two.
      gives_ok (goes_then one two)
  kind_goes block (trees.CaseStatement place choice body) progress formed stands =
      in_turn (from_same stands (value_same choice progress)) λ chosen one.
      in_turn (cases_go block body chosen.1 formed (stands_after stands one)) λ done two.
      gives_ok (goes_then one two)

  labelled_goes : (block : Block) (tree : StatementTree) (progress : Progress)
      → StatementIsFormed tree → StandsAt block.owner progress
      → GoesOn progress (labelled block tree progress)
  labelled_goes block (trees.LabelledStatement labels done) progress formed stands =
      kind_goes block done progress formed stands

  alone_goes : (block : Block) (tree : StatementTree) (progress : Progress)
      → StatementIsFormed tree → StandsAt block.owner progress → GoesOn progress (alone block tree progress)
  alone_goes block (trees.LabelledStatement labels done) progress formed stands =
      gives_after (without_label labels) λ _. kind_goes block done progress formed stands

  else_goes : (block : Block) (tree : ElseTree) (progress : Progress)
      → ElseIsFormed tree → StandsAt block.owner progress → GoesOn progress (else_part block tree progress)
  else_goes block trees.NoElse progress formed stands = gives_ok (goes_nowhere progress stands)
  else_goes block (trees.ElseStatement body) progress formed stands =
      in_turn (alone_goes block body progress formed stands) λ done one. gives_ok one

  cases_go : (block : Block) (trees : StatementTrees) (progress : Progress)
      → StatementsAreFormed trees → StandsAt block.owner progress
      → GoesOn progress (cases block trees progress)
  cases_go block trees.NoStatements progress formed stands = gives_ok (goes_nowhere progress stands)
  cases_go block (trees.MoreStatements first others) progress formed stands =
      in_turn (alone_goes block first progress formed.0 stands) λ done one.
      in_turn (cases_go block others done.1 formed.1 (stands_after stands one)) λ rest two.
      gives_ok (goes_then one two)

  pub statements_go : (block : Block) (trees : StatementTrees) (label : ℕ) (progress : Progress)
      → StatementsAreFormed trees → StandsAt block.owner progress
      → GoesOn progress (statements block trees label progress)
  statements_go block trees.NoStatements label progress formed stands =
      gives_ok (goes_nowhere progress stands)
  statements_go block (trees.MoreStatements first others) label progress formed stands =
      gives_after (declare_labels (labels_before first) progress.known.here) λ here.
      in_turn (labelled_goes block first (with_here here progress) formed.0 (here_stands here stands))
      λ done one.
      let after : Goes progress done.1 = goes_from_here here one in
      in_turn (statements_go block others (label + length (labels_before first)) done.1 formed.1
      (stands_after stands after)) λ rest two.
      gives_ok (goes_then after two)

  declaration_goes : (block : Block) (tree : DeclarationTree) (progress : Progress)
      → IsFormed tree → StandsAt block.owner progress
      → Gives (λ after. Goes progress after) (declaration block tree progress)
  declaration_goes block (DeclareTree elements) progress formed stands =
      elements_go block elements progress formed stands
  declaration_goes block (ProcedureTree heading declared body end_name) progress formed stands =
      let own : Block = own_block heading progress in
      in_turn (opens_procedure block heading declared progress) λ opened heads.
      let at : StandsAt own.owner opened =
      opened_stands heading declared block progress opened stands heads in
      let first : Goes progress opened = opened_goes heading declared block progress opened stands heads in
      in_turn (declarations_go own declared opened formed.0 at) λ within one.
      gives_after (parameter_objects within.known.here heading.parameters) λ parameters.
      gives_after (check_body heading body) λ _.
      in_turn
      (list_goes own.owner body (λ label. statements own body label) within (stands_after at one)
      (λ label inside s. statements_go own body label inside formed.1 s)) λ done two.
      gives_ok
      (closed_goes heading declared (length progress.known.procedures) parameters done.0 progress done.1
      (stands_after (stands_after at one) two) (goes_then first (goes_then one two)))

  pub declarations_go : (block : Block) (trees : DeclarationTrees) (progress : Progress)
      → AreFormed trees → StandsAt block.owner progress
      → Gives (λ after. Goes progress after) (declarations block trees progress)
  declarations_go block NoDeclarations progress formed stands = gives_ok (goes_nowhere progress stands)
  declarations_go block (MoreDeclarations first others) progress formed stands =
      in_turn (declaration_goes block first progress formed.0 stands) λ between one.
      then_more (declarations_go block others between formed.1 (stands_after stands one)) λ after two.
      goes_then one two
