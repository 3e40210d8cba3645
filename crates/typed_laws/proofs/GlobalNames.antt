-- No two of the PUBLIC and EXTERNAL names of a text are the same: each is a name of the block of the module, which has
-- no name twice.
use Rattle.typed_laws.proofs.Prelude.{◌≡◌, ℕ, Bool, true, false, List, [], ◌∷◌, ◌++◌, length, map, Option, Some, None, Ok, nat_le, refl, sym, ap, ◌∙◌, subst, slice_get, is_some, not, option_map, AllByRecursion, none-some, got_first, Identifier, DeclarationTree, DeclarationTrees, DeclareTree, ElementTree, HeadingTree, ItemElement, ItemTree, LiterallyElement, ModuleTree, MoreDeclarations, NoDeclarations, ProcedureTree, TypedList, TypedModule, TypedObject, TypedProcedure, FRAME_LIMIT, OBJECT_LIMIT, Gives, gives_after, gives_ok, in_turn, required, then_more, Keeps, Block, Progress, is_external, TypedItem, object_named, place_of_item, size_of_item, with_typed_object, at_the_beginning, module_block, place_of, DeclaredTwice, ExternalContents, TooLarge, require, declare_element, declare_elements, declare_item, declare_names, typed_item, with_objects, declaration, declarations, statements, typing_of}
use Rattle.std.specs.{List.{cons_option, list_any}, Map.{lookup}, Prelude.{filter_map, if◌then◌else◌, ◌||◌}, Str.{bytes_eq}}
use Rattle.std.proofs.{Common.{append-nil}, lemmas.Option.{slice_get-map}, lemmas.Slice.Eq.{bytes_eq-Decides}}
use Rattle.trees.specs.declared.declaration.Linkage.{Linkage}
use Rattle.typed_trees.specs.declared.parts.GlobalItem.{GlobalItem}
use Rattle.typed_trees.specs.declared.parts.GlobalItem.TheVariants.{GlobalObject, GlobalProcedure}
use Rattle.names.specs.{Environment.{Here, Names, is_declared_again, with_object}, DeclaredNames.{declared_by}, declared.entity.Entity.{Entity}}
use Rattle.typing.proofs.{Parameters.Grown.{all_append, all_more}, Parameters.ParameterItems.{not_again}, Tables.{names_with}, Walked.{object_names, procedure_names}}
use Rattle.typing.specs.{Blocks.{declares_parameter, with_global}, Modules.{module_with}}
use Rattle.layout.specs.Joined.{Global, first_repeated, global_object, global_of, global_procedure}
use Rattle.typed_laws.specs.GlobalNames.{GlobalNamesDiffer}
use Rattle.typed_laws.proofs.SameGlobals.{Closes, Stays, declaration_goes, list_stays, names_longer, statements_stay}

-- names that differ from each other
abbrev DifferFrom : List ℕ → List (List ℕ) → Type 0
DifferFrom name names = AllByRecursion (λ (other : List ℕ). other ≡ name → ⊥) names

abbrev Differ : List (List ℕ) → Type 0
Differ [] = Unit {0}
Differ (name ∷ names) = DifferFrom name names × Differ names

differ_more : (names : List (List ℕ)) (name : List ℕ) → Differ names → DifferFrom name names
    → Differ (names ++ name ∷ [])
differ_more [] name differ apart = (tt, tt)
differ_more (first ∷ names) name differ apart = (
  all_append (λ (other : List ℕ). other ≡ first → ⊥) names (name ∷ []) differ.0
      ((λ same. apart.0 (sym same)), tt),
  differ_more names name differ.1 apart.1,
)

abbrev names_in : List Identifier → List (List ℕ)
names_in names = map (λ (each : Identifier). each.name) names

-- whether a block has a name
abbrev IsKnown : Names → List ℕ → Type 0
IsKnown block name = is_some (lookup (bytes_eq name) block) ≡ true

known_by_itself : (block : Names) (name : List ℕ) (entity : Entity)
    → IsKnown (names_with name entity block) name
known_by_itself [] name entity = by (bytes_eq name name) ((bytes_eq-Decides name name).1 refl)
  where
    by : (same : Bool) → same ≡ true
        → is_some (if same then Some entity else lookup (bytes_eq name) []) ≡ true
    by true is = refl
    by false is = absurd cc
known_by_itself (first ∷ block) name entity = by (bytes_eq name first.0) refl (known_by_itself block name entity)
  where
    found : (same : Bool) (here : Entity) (rest : Option Entity) → same ≡ true
        → is_some (if same then Some here else rest) ≡ true
    found true here rest is = refl
    found false here rest is = absurd cc

    past : (same : Bool) (here : Entity) (rest : Option Entity) → is_some rest ≡ true
        → is_some (if same then Some here else rest) ≡ true
    past true here rest is = refl
    past false here rest is = is

    by : (same : Bool) → bytes_eq name first.0 ≡ same
        → IsKnown (names_with name entity block) name
        → IsKnown (if same then (first.0, entity) ∷ block else first ∷ names_with name entity block)
        name
    by true is rest = found (bytes_eq name first.0) entity (lookup (bytes_eq name) block) is
    by false is rest =
        past (bytes_eq name first.0) first.1
        (lookup (bytes_eq name) (names_with name entity block)) rest

known_later : (block : Names) (name : List ℕ) (entity : Entity) (other : List ℕ) → IsKnown block other
    → IsKnown (names_with name entity block) other
known_later [] name entity other is = absurd (let bad : false ≡ true = is in cc)
known_later (first ∷ block) name entity other is =
    by (bytes_eq name first.0) (bytes_eq other first.0) refl is (known_later block name entity other)
  where
    by : (replaced same : Bool) → bytes_eq other first.0 ≡ same
        → is_some (if same then Some first.1 else lookup (bytes_eq other) block) ≡ true
        → (IsKnown block other → IsKnown (names_with name entity block) other)
        → IsKnown
        (if replaced then (first.0, entity) ∷ block else first ∷ names_with name entity block)
        other
    by true true at is rest =
        ap (λ (test : Bool). is_some (if test then Some entity else lookup (bytes_eq other) block)) at
    by true false at is rest =
        ap (λ (test : Bool). is_some (if test then Some entity else lookup (bytes_eq other) block)) at ∙ is
    by false true at is rest =
        ap
        (λ (test : Bool).
        is_some (if test then Some first.1
        else lookup (bytes_eq other) (names_with name entity block)))
        at
    by false false at is rest =
        ap
        (λ (test : Bool).
        is_some (if test then Some first.1
        else lookup (bytes_eq other) (names_with name entity block)))
        at
        ∙ rest is

-- a name that is not declared again is new in its block
is_new_name : (here : Here) (name : List ℕ) → not (is_declared_again here name) ≡ true
    → IsKnown here.body.block name → ⊥
is_new_name here name once is =
    let none : lookup (bytes_eq name) here.body.block ≡ None = not_again here name once in
    let bad : false ≡ true = sym (ap (λ (found : Option Entity). is_some found) none) ∙ is in
    cc

-- names that are declared: they are new, they differ, and the block has them
record AreAdded (here after : Here) (names : List Identifier) : Type 0 where
  new : AllByRecursion (λ (name : Identifier). IsKnown here.body.block name.name → ⊥) names
  differ : Differ (names_in names)
  known : AllByRecursion (λ (name : Identifier). IsKnown after.body.block name.name) names
  kept : (name : List ℕ) → IsKnown here.body.block name → IsKnown after.body.block name

differ_from_new : (block : Names) (name : List ℕ) (names : List Identifier) (entity : Entity)
    → AllByRecursion
    (λ (each : Identifier). IsKnown (names_with name entity block) each.name → ⊥) names
    → DifferFrom name (names_in names)
differ_from_new block name [] entity new = tt
differ_from_new block name (first ∷ names) entity new = (
  λ same. new.0 (subst (λ (each : List ℕ). IsKnown (names_with name entity block) each) (sym same)
      (known_by_itself block name entity)),
  differ_from_new block name names entity new.1,
)

names_are_added : (block : Block) (names : List Identifier) (here : Here)
    → Gives (λ after. AreAdded here after names) (declare_names block names here)
names_are_added block [] here =
    gives_ok (record { new = tt; differ = tt; known = tt; kept = λ name is. is })
names_are_added block (name ∷ others) here =
    in_turn (required (not (is_declared_again here name.name)) DeclaredTwice (place_of name)) λ _ once.
    gives_after
    (require (not (is_external block.owner) || declares_parameter block name.name) ExternalContents
    (place_of name)) λ placed.
    then_more (names_are_added block others (with_object name.name here)) λ after is.
    let grown : Names = (with_object name.name here).body.block in
    record {
      new = (
        is_new_name here name.name once,
        all_more (λ (each : Identifier). IsKnown grown each.name → ⊥)
            (λ (each : Identifier). IsKnown here.body.block each.name → ⊥) others
            (λ each new before. new (known_later here.body.block name.name _ each.name before)) is.new,
      );
      differ = (differ_from_new here.body.block name.name others _ is.new, is.differ);
      known = (is.kept name.name (known_by_itself here.body.block name.name _), is.known);
      kept = λ each before. is.kept each (known_later here.body.block name.name _ each before);
    }

-- the name of a global, in tables of names
abbrev IsCalled : (objects procedures : List (List ℕ)) → GlobalItem → List ℕ → Type 0
IsCalled objects procedures (GlobalObject number) name = slice_get objects number ≡ Some name
IsCalled objects procedures (GlobalProcedure number) name = slice_get procedures number ≡ Some name

abbrev AreCalled : (objects procedures : List (List ℕ)) → List GlobalItem → List (List ℕ) → Type 0
AreCalled objects procedures [] [] = Unit {0}
AreCalled objects procedures (item ∷ items) (name ∷ names) =
    IsCalled objects procedures item name × AreCalled objects procedures items names
AreCalled objects procedures items names = ⊥

called_later : (objects procedures more others : List (List ℕ)) → Keeps objects more → Keeps procedures others
    → (item : GlobalItem) (name : List ℕ)
    → IsCalled objects procedures item name → IsCalled more others item name
called_later objects procedures more others keeps kept (GlobalObject number) name is = keeps number name is
called_later objects procedures more others keeps kept (GlobalProcedure number) name is = kept number name is

all_called_later : (objects procedures more others : List (List ℕ))
    → Keeps objects more → Keeps procedures others
    → (items : List GlobalItem) (names : List (List ℕ))
    → AreCalled objects procedures items names → AreCalled more others items names
all_called_later objects procedures more others keeps kept [] [] are = tt
all_called_later objects procedures more others keeps kept [] (name ∷ names) are = absurd are
all_called_later objects procedures more others keeps kept (item ∷ items) [] are = absurd are
all_called_later objects procedures more others keeps kept (item ∷ items) (name ∷ names) are = (
  called_later objects procedures more others keeps kept item name are.0,
  all_called_later objects procedures more others keeps kept items names are.1,
)

called_more : (objects procedures : List (List ℕ)) (items : List GlobalItem) (names : List (List ℕ))
    (item : GlobalItem) (name : List ℕ)
    → AreCalled objects procedures items names → IsCalled objects procedures item name
    → AreCalled objects procedures (items ++ item ∷ []) (names ++ name ∷ [])
called_more objects procedures [] [] item name are is = (is, tt)
called_more objects procedures [] (first ∷ names) item name are is = absurd are
called_more objects procedures (first ∷ items) [] item name are is = absurd are
called_more objects procedures (first ∷ items) (its ∷ names) item name are is =
    (are.0, called_more objects procedures items names item name are.1 is)

-- The globals so far have these names, which differ, and which a block has.
record HaveNames
    (block : Names) (objects procedures : List (List ℕ)) (globals : List GlobalItem) (names : List (List ℕ)) :
    Type 0 where
  called : AreCalled objects procedures globals names
  differ : Differ names
  known : AllByRecursion (IsKnown block) names

-- the globals at a place of a text, with a block that has their names
record GlobalsAt (block : Names) (progress : Progress) : Type 0 where
  names : List (List ℕ)
  have : HaveNames block (object_names progress.known.objects) (procedure_names progress.known.procedures)
      progress.globals names

have_later : (block grown : Names) (objects procedures more others : List (List ℕ)) (globals : List GlobalItem)
    (names : List (List ℕ))
    → Keeps objects more → Keeps procedures others
    → ((name : List ℕ) → IsKnown block name → IsKnown grown name)
    → HaveNames block objects procedures globals names → HaveNames grown more others globals names
have_later block grown objects procedures more others globals names keeps kept longer have = record {
  called = all_called_later objects procedures more others keeps kept globals names have.called;
  differ = have.differ;
  known = all_more (IsKnown block) (IsKnown grown) names longer have.known;
}

-- what a new name is apart from
apart_from : (block : Names) (name : List ℕ) (names : List (List ℕ)) → (IsKnown block name → ⊥)
    → AllByRecursion (IsKnown block) names → DifferFrom name names
apart_from block name names new known =
    all_more (IsKnown block) (λ (other : List ℕ). other ≡ name → ⊥) names
    (λ other is same. new (subst (IsKnown block) same is)) known

-- one more item, which is a global if it has a linkage
global_more : (block : Names) (objects procedures : List (List ℕ)) (globals : List GlobalItem)
    (names : List (List ℕ)) (linkage : Option Linkage) (item : GlobalItem) (name : List ℕ)
    → HaveNames block objects procedures globals names
    → IsCalled objects procedures item name
    → DifferFrom name names
    → IsKnown block name
    → (found : List (List ℕ))
    × HaveNames block objects procedures (with_global linkage item globals) found
    × ((others : List Identifier)
    → AllByRecursion (λ (each : Identifier). DifferFrom each.name names) others
    → DifferFrom name (names_in others)
    → AllByRecursion (λ (each : Identifier). DifferFrom each.name found) others)
global_more block objects procedures globals names None item name have is apart known =
    (names, have, (λ others from differ. from))
global_more block objects procedures globals names (Some linkage) item name have is apart known = (
  names ++ name ∷ [],
  record {
    called = called_more objects procedures globals names item name have.called is;
    differ = differ_more names name have.differ apart;
    known = all_append (IsKnown block) names (name ∷ []) have.known (known, tt);
  },
  all_apart,
)
  where
    all_apart : (others : List Identifier)
        → AllByRecursion (λ (each : Identifier). DifferFrom each.name names) others
        → DifferFrom name (names_in others)
        → AllByRecursion (λ (each : Identifier). DifferFrom each.name (names ++ name ∷ [])) others
    all_apart [] from differ = tt
    all_apart (first ∷ others) from differ = (
      all_append (λ (other : List ℕ). other ≡ first.name → ⊥) names (name ∷ []) from.0
          ((λ same. differ.0 (sym same)), tt),
      all_apart others from.1 differ.1,
    )

-- the number of an object that is added, by its name
object_called : (objects : List TypedObject) (object : TypedObject)
    → slice_get (object_names (objects ++ object ∷ [])) (length objects) ≡ Some object.name
object_called objects object =
    slice_get-map (λ (each : TypedObject). each.name) (objects ++ object ∷ []) (length objects)
    ∙ ap (λ (found : Option TypedObject). option_map (λ (each : TypedObject). each.name) found)
    (got_first objects object [])

-- the objects of an item
objects_have : (block : Names) (own : Block) (item : TypedItem) (names : List Identifier) (progress : Progress)
    (at : GlobalsAt block progress)
    → AllByRecursion (λ (name : Identifier). DifferFrom name.name at.names) names
    → Differ (names_in names)
    → AllByRecursion (λ (name : Identifier). IsKnown block name.name) names
    → Gives (GlobalsAt block) (with_objects own item names progress)
objects_have block own item [] progress at apart differ known = gives_ok at
objects_have block own item (name ∷ others) progress at apart differ known =
    let object : TypedObject = object_named own item name.name in
    let objects : List TypedObject = progress.known.objects in
    let procedures : List (List ℕ) = procedure_names progress.known.procedures in
    let after : Progress = with_typed_object item.linkage object progress in
    let before : HaveNames block (object_names (objects ++ object ∷ [])) procedures progress.globals at.names =
    have_later block block (object_names objects) procedures (object_names (objects ++ object ∷ [])) procedures
    progress.globals at.names (names_longer objects object) (λ number each is. is) (λ each is. is) at.have in
    let more = global_more block (object_names (objects ++ object ∷ [])) procedures progress.globals at.names
    item.linkage (GlobalObject (length objects)) name.name before (object_called objects object) apart.0
    known.0 in
    gives_after (require (nat_le after.frame FRAME_LIMIT) TooLarge (place_of name)) λ small.
    objects_have block own item others after (record { names = more.0; have = more.1 })
    (more.2 others apart.1 differ.0) differ.1 known.1

-- what DECLARE declares
abbrev GlobalsHere : Progress → Type 0
GlobalsHere progress = GlobalsAt progress.known.here.body.block progress

item_has : (block : Block) (item : ItemTree) (progress : Progress) → GlobalsHere progress
    → Gives GlobalsHere (declare_item block item progress)
item_has block item progress at =
    in_turn (names_are_added block (declared_by item.subject) progress.known.here) λ here added.
    gives_after (typed_item progress.known block item) λ typed.
    gives_after (require (nat_le (size_of_item typed) OBJECT_LIMIT) TooLarge (place_of_item item)) λ small.
    let names : List Identifier = declared_by item.subject in
    let before : Names = progress.known.here.body.block in
    let there : GlobalsAt here.body.block progress = record {
      names = at.names;
      have = have_later before here.body.block (object_names progress.known.objects)
          (procedure_names progress.known.procedures) (object_names progress.known.objects)
          (procedure_names progress.known.procedures) progress.globals at.names
          (λ number each is. is) (λ number each is. is) added.kept at.have;
    } in
    in_turn
    (objects_have here.body.block block typed names progress there
    (all_more (λ (name : Identifier). IsKnown before name.name → ⊥)
    (λ (name : Identifier). DifferFrom name.name at.names) names
    (λ name new. apart_from before name.name at.names new at.have.known) added.new)
    added.differ added.known) λ after have.
    gives_ok (record { names = have.names; have = have.have })

element_has : (block : Block) (element : ElementTree) (progress : Progress) → GlobalsHere progress
    → Gives GlobalsHere (declare_element block element progress)
element_has block (LiterallyElement name text) progress at =
    gives_after
    (require (not (is_declared_again progress.known.here name.name)) DeclaredTwice (place_of name))
    λ once.
    gives_after (require (not (is_external block.owner)) ExternalContents (place_of name)) λ placed.
    gives_ok (record {
      names = at.names;
      have = have_later progress.known.here.body.block _ (object_names progress.known.objects)
          (procedure_names progress.known.procedures) (object_names progress.known.objects)
          (procedure_names progress.known.procedures) progress.globals at.names
          (λ number each is. is) (λ number each is. is)
          (λ each is. known_later progress.known.here.body.block name.name _ each is) at.have;
    })
element_has block (ItemElement item) progress at = item_has block item progress at

elements_have : (block : Block) (elements : List ElementTree) (progress : Progress) → GlobalsHere progress
    → Gives GlobalsHere (declare_elements block elements progress)
elements_have block [] progress at = gives_ok at
elements_have block (element ∷ others) progress at =
    in_turn (element_has block element progress at) λ between one.
    elements_have block others between one

-- a procedure
closed_has : (block : Block) (heading : HeadingTree) (before after : Progress) → GlobalsHere before
    → Closes block heading before after → GlobalsHere after
closed_has block heading before after at closes =
    let name : List ℕ = heading.name.name in
    let old : Names = before.known.here.body.block in
    let grown : Names = names_with name _ old in
    let objects : List (List ℕ) = object_names after.known.objects in
    let procedures : List (List ℕ) = procedure_names after.known.procedures in
    let block_is : after.known.here.body.block ≡ grown = ap (λ body. body.block) closes.body in
    let kept : HaveNames grown objects procedures before.globals at.names =
    have_later old grown (object_names before.known.objects) (procedure_names before.known.procedures)
    objects procedures before.globals at.names closes.objects closes.procedures
    (λ each is. known_later old name _ each is) at.have in
    let more = global_more grown objects procedures before.globals at.names heading.linkage
    (GlobalProcedure (length before.known.procedures)) name kept closes.named
    (apart_from old name at.names (is_new_name before.known.here name closes.new) at.have.known)
    (known_by_itself old name _) in
    record {
      names = more.0;
      have = subst (λ (globals : List GlobalItem).
          HaveNames after.known.here.body.block objects procedures globals more.0) (sym closes.globals)
          (subst (λ (names : Names).
          HaveNames names objects procedures
          (with_global heading.linkage (GlobalProcedure (length before.known.procedures)) before.globals)
          more.0) (sym block_is) more.1);
    }

declaration_has : (block : Block) (tree : DeclarationTree) (progress : Progress) → GlobalsHere progress
    → Gives GlobalsHere (declaration block tree progress)
declaration_has block (DeclareTree elements) progress at = elements_have block elements progress at
declaration_has block (ProcedureTree heading declared body end_name) progress at =
    then_more (declaration_goes block (ProcedureTree heading declared body end_name) progress) λ after closes.
    closed_has block heading progress after at closes

declarations_have : (block : Block) (trees : DeclarationTrees) (progress : Progress) → GlobalsHere progress
    → Gives GlobalsHere (declarations block trees progress)
declarations_have block NoDeclarations progress at = gives_ok at
declarations_have block (MoreDeclarations first others) progress at =
    in_turn (declaration_has block first progress at) λ between one.
    declarations_have block others between one

-- so no name is repeated
abbrev global_names : List Global → List (List ℕ)
global_names globals = map (λ (global : Global). global.name) globals

differ_tells : (one other : List ℕ) → (one ≡ other → ⊥) → bytes_eq one other ≡ false
differ_tells one other apart = by (bytes_eq one other) refl
  where
    by : (same : Bool) → bytes_eq one other ≡ same → bytes_eq one other ≡ false
    by true is = absurd (apart ((bytes_eq-Decides one other).0 is))
    by false is = is

none_repeated : (before : List (List ℕ)) (globals : List Global)
    → AllByRecursion (λ (name : List ℕ). list_any (bytes_eq name) before ≡ false) (global_names globals)
    → Differ (global_names globals)
    → first_repeated before globals ≡ None
none_repeated before [] new differ = refl
none_repeated before (global ∷ globals) new differ =
    ap (λ (test : Bool). if test then Some global else first_repeated (global.name ∷ before) globals) new.0
    ∙ none_repeated (global.name ∷ before) globals (later (global_names globals) new.1 differ.0) differ.1
  where
    later : (names : List (List ℕ))
        → AllByRecursion (λ (name : List ℕ). list_any (bytes_eq name) before ≡ false) names
        → DifferFrom global.name names
        → AllByRecursion (λ (name : List ℕ). list_any (bytes_eq name) (global.name ∷ before) ≡ false) names
    later [] new apart = tt
    later (first ∷ names) new apart = (
      ap (λ (test : Bool). test || list_any (bytes_eq first) before)
          (differ_tells first global.name apart.0)
          ∙ new.0,
      later names new.1 apart.1,
    )

-- the globals of a module by its list have the names that its tables have
named_in : {X : Type 0} (name_of : X → List ℕ) (global : X → Global)
    (same : (x : X) → (global x).name ≡ name_of x) (found : Option X) (name : List ℕ)
    (rest : List Global)
    → option_map name_of found ≡ Some name
    → global_names (cons_option (option_map global found) rest) ≡ name ∷ global_names rest
named_in name_of global same None name rest is = absurd (none-some name is)
named_in name_of global same (Some x) name rest is =
    let its : name_of x ≡ name = cc in
    ap (λ (each : List ℕ). each ∷ global_names rest) (same x ∙ its)

names_of_globals : (typed : TypedModule) (items : List GlobalItem) (names : List (List ℕ))
    → AreCalled (object_names typed.objects) (procedure_names typed.procedures) items names
    → global_names (filter_map (global_of typed) items) ≡ names
names_of_globals typed [] [] are = refl
names_of_globals typed [] (name ∷ names) are = absurd are
names_of_globals typed (item ∷ items) [] are = absurd are
names_of_globals typed (GlobalObject number ∷ items) (name ∷ names) are =
    named_in (λ (object : TypedObject). object.name) global_object (λ object. refl)
    (slice_get typed.objects number) name (filter_map (global_of typed) items)
    (sym (slice_get-map (λ (object : TypedObject). object.name) typed.objects number) ∙ are.0)
    ∙ ap (λ (rest : List (List ℕ)). name ∷ rest) (names_of_globals typed items names are.1)
names_of_globals typed (GlobalProcedure number ∷ items) (name ∷ names) are =
    named_in (λ (procedure : TypedProcedure). procedure.name) global_procedure (λ procedure. refl)
    (slice_get typed.procedures number) name (filter_map (global_of typed) items)
    (sym (slice_get-map (λ (procedure : TypedProcedure). procedure.name) typed.procedures number) ∙ are.0)
    ∙ ap (λ (rest : List (List ℕ)). name ∷ rest) (names_of_globals typed items names are.1)

none_before : (names : List (List ℕ))
    → AllByRecursion (λ (name : List ℕ). list_any (bytes_eq name) [] ≡ false) names
none_before [] = tt
none_before (first ∷ names) = (refl, none_before names)

module_differs : (name : List ℕ) (body : TypedList) (block : Names) (progress : Progress)
    → GlobalsAt block progress → GlobalNamesDiffer (module_with name body progress)
module_differs name body block progress at =
    let typed : TypedModule = module_with name body progress in
    let globals : List Global = filter_map (global_of typed) typed.globals in
    let are : global_names globals ≡ at.names = names_of_globals typed typed.globals at.names at.have.called in
    ap (first_repeated []) (append-nil globals)
    ∙ none_repeated [] globals (none_before (global_names globals)) (subst Differ (sym are) at.have.differ)

stays_at : (block : Names) (before after : Progress) → GlobalsAt block before → Stays before after
    → GlobalsAt block after
stays_at block before after at stays = record {
  names = at.names;
  have = subst (λ (globals : List GlobalItem).
      HaveNames block (object_names after.known.objects) (procedure_names after.known.procedures) globals
      at.names) (sym stays.globals)
      (have_later block block (object_names before.known.objects) (procedure_names before.known.procedures)
      (object_names after.known.objects) (procedure_names after.known.procedures) before.globals at.names
      stays.objects stays.procedures (λ name is. is) at.have);
}

typing_differs : (tree : ModuleTree) → Gives GlobalNamesDiffer (typing_of tree)
unfolding typing_of
typing_differs tree =
    in_turn (declarations_have module_block tree.declarations at_the_beginning
    (record { names = []; have = record { called = tt; differ = tt; known = tt } }))
    λ declared at.
    in_turn
    (list_stays tree.statements (λ label. statements module_block tree.statements label) declared
    (λ label inside. statements_stay module_block tree.statements label inside)) λ done stays.
    gives_ok
    (module_differs tree.name.name done.0 declared.known.here.body.block done.1
    (stays_at declared.known.here.body.block declared done.1 at stays))

-- The PUBLIC and EXTERNAL names of every module that is typed differ from one another.
pub global_names_differ : (tree : ModuleTree) (found : TypedModule) → typing_of tree ≡ Ok found
    → GlobalNamesDiffer found
global_names_differ tree found is = (typing_differs tree).holds found is
