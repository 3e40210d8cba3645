-- The EXTERNAL names that the code of a module refers to are those of the module.
use Rattle.codegen8080.proofs.Prelude.{◌≡◌, ◌∙◌, ℕ, suc, ◌+◌, Hlt, Bool, true, false, if◌then◌else◌, List, [], ◌∷◌, ◌++◌, Option, Some, None, slice_get, refl, sym, ap, subst, arith, Item, Content, TreeModule, TreeProcedure, ProcedureKind, Range, Statement, StatementNumber, Site, Facts, LabelNumber, Body, Planned, Here, AreAllCarriedOut, AreCarriedOut, IsCarriedOut, IsListCarriedOut, ListCarriedOut, ListPlanned, MoreStatements, NoStatements, NoneCarriedOut, StatementCarriedOut, StatementPlanned, StepCarriedOut, carried_steps, site_of, knowing, statement_steps, IsOwnCode, IsProcedureCode, content_items, contents_items, has_main}
use Rattle.std.specs.List.{AllByRecursion}
use Rattle.std.specs.Prelude.{IfSome}
use Rattle.std.proofs.lemmas.Bool.{eqb-true}
use Rattle.asm8080.specs.declared.item.Item.TheVariants as items
use Rattle.treecode.specs.declared.module.Content.TheVariants as contents
use Rattle.treecode.specs.declared.place.Location.{Location}
use Rattle.treecode.specs.declared.place.Location.TheVariants.{Frame, Static}
use Rattle.treecode.specs.declared.place.Place.{Place}
use Rattle.asm8080.specs.declared.item.WordForm.TheVariants.{LoadA}
use Rattle.treecode.specs.declared.place.Place.TheVariants as places
use Rattle.treecode.specs.declared.procedure.ProcedureKind.TheVariants as kinds
use Rattle.treecode.specs.declared.reference.Reference.{Reference}
use Rattle.treecode.specs.declared.statement.Statement.TheVariants as statements
use Rattle.treecode.specs.internal.Named.{ContentIsNamed, LocationIsNamed, NamesItsOwn, PlaceIsNamed, name_count}
use Rattle.treecode.specs.internal.Nodes.{nodes_of}
use Rattle.treecode.proofs.OwnNames.{names_its_own}
use Rattle.treecode.specs.internal.Rising.{NumbersRise}
unfoldable use Rattle.steps8080.specs.internal.Queries.{location_of}
use Rattle.steps8080.specs.internal.Facts.{is_at}
use Rattle.steps8080.specs.internal.Writer.{AreNamed, address_items}
use Rattle.steps8080.specs.declared.step.Step.TheVariants as steps
use Rattle.steps8080.proofs.{Binding.{named_both}, SiteNames.{IsOwnLocation, location_is_own}}
use Rattle.exprgen8080.specs.internal.Named.{PlacesAreNamed}
use Rattle.exprgen8080.proofs.Named.{item_first, no_name_first, nothing_named, steps_named}
use Rattle.statements8080.specs.declared.plan.Planned.TheVariants as planned
use Rattle.codegen8080.specs.internal.Generated.{byte_at_address_steps, byte_at_steps, byte_in_a, jump_on_steps, word_at_steps, word_in_hl}
unfoldable use Rattle.codegen8080.specs.internal.Generated.{load_byte_steps, load_word_steps}
use Rattle.codegen8080.specs.internal.Sources.{IsOfModule}
use Rattle.codegen8080.specs.internal.Modules.{AreCodeOf, IsCodeOf, IsCodeOfMain, IsEndCode}
use Rattle.codegen8080.proofs.{Heads.{loop_own}, NamedPlans.{OwnPlan, ParametersAreOwn, StepIsOwn, assignment_own, case_own, end_own, entry_own, if_own, move_own, return_of_own, wordless}}

-- the words of the steps of any statement
statement_own : (site : Site) (body : Body) (statement : Statement) (first : ℕ)
    → OwnPlan site.tree.now (statement_steps body site statement first)
unfolding statement_steps
statement_own site body (statements.Label label) first = wordless refl
statement_own site body statements.Null first = wordless refl
statement_own site body (statements.Assignment targets value) first = assignment_own body site targets value
statement_own site body (statements.Call procedure arguments) first = wordless refl
statement_own site body (statements.Move count from to) first = move_own site count from to
statement_own site body (statements.Return value) first = return_of_own body value
statement_own site body statements.Halt first = wordless refl
statement_own site body (statements.Goto label) first = wordless refl
statement_own site body (statements.If condition then_part else_part) first =
    if_own site body condition then_part else_part first
statement_own site body (statements.Do list) first = wordless refl
statement_own site body (statements.Loop head list) first = loop_own site body head list first
statement_own site body (statements.Case choice list) first = case_own site body choice list first

-- the words that load a variable
load_byte_named : (tree : TreeModule) (site : Site) (facts : Facts) (reference : Reference) (location : Location)
    (is_there is_at_hl : Bool)
    → NamesItsOwn tree
    → IsOwnLocation tree location
    → PlacesAreNamed tree
    (if is_there then []
    else byte_at_steps facts reference location ++ (steps.Holds (byte_in_a location) ∷ []))
load_byte_named tree site facts reference location true is_at_hl names own = tt
load_byte_named tree site facts reference (Frame variable offset) false is_at_hl names own = tt
load_byte_named tree site facts reference (Static place) false is_at_hl names own =
    by (is_at facts.address_in_hl (Static place))
  where
    by : (b : Bool)
        → PlacesAreNamed tree
        ((if b then byte_at_address_steps reference else steps.Word LoadA place ∷ [])
        ++ (steps.Holds (byte_in_a (Static place)) ∷ []))
    by true = tt
    by false = (own.named names, tt)

load_byte_is : (site : Site) (reference : Reference) → NamesItsOwn site.tree.now
    → PlacesAreNamed site.tree.now (load_byte_steps site reference)
unfolding load_byte_steps
load_byte_is site reference names = by (location_of site reference) (location_is_own site reference)
  where
    by : (found : Option Location) → IfSome found (IsOwnLocation site.tree.now)
        → PlacesAreNamed site.tree.now (elim found [
          | Some location ↦
              if is_at site.facts.byte_in_a location then []
              else byte_at_steps site.facts reference location ++ (steps.Holds (byte_in_a location) ∷ [])
          | None ↦ []
        ])
    by (Some location) own =
        load_byte_named site.tree.now site site.facts reference location (is_at site.facts.byte_in_a location) true
        names own
    by None own = tt

load_word_named : (tree : TreeModule) (reference : Reference) (location : Location) (is_there : Bool)
    → NamesItsOwn tree
    → IsOwnLocation tree location
    → PlacesAreNamed tree
    (if is_there then [] else word_at_steps reference location ++ (steps.Holds (word_in_hl location) ∷ []))
load_word_named tree reference location true names own = tt
load_word_named tree reference (Frame variable offset) false names own = tt
load_word_named tree reference (Static place) false names own = (own.named names, tt)

load_word_is : (site : Site) (reference : Reference) → NamesItsOwn site.tree.now
    → PlacesAreNamed site.tree.now (load_word_steps site reference)
unfolding load_word_steps
load_word_is site reference names = by (location_of site reference) (location_is_own site reference)
  where
    by : (found : Option Location) → IfSome found (IsOwnLocation site.tree.now)
        → PlacesAreNamed site.tree.now (elim found [
          | Some location ↦
              if is_at site.facts.word_in_hl location then []
              else word_at_steps reference location ++ (steps.Holds (word_in_hl location) ∷ [])
          | None ↦ []
        ])
    by (Some location) own =
        load_word_named site.tree.now reference location (is_at site.facts.word_in_hl location) names own
    by None own = tt

jump_on_named : (tree : TreeModule) (goes_on : Bool) (label : LabelNumber)
    → PlacesAreNamed tree (jump_on_steps goes_on label)
jump_on_named tree true label = tt
jump_on_named tree false label = tt

turn_named : (tree : TreeModule) (goes_on : Bool) (other end : LabelNumber)
    → PlacesAreNamed tree (jump_on_steps goes_on end ++ (steps.Mark other ∷ []))
turn_named tree true other end = tt
turn_named tree false other end = tt

-- the steps of a planned step
carried_named : (site : Site) (here : Here) (step : Planned) → NamesItsOwn site.tree.now
    → StepIsOwn site.tree.now step
    → PlacesAreNamed site.tree.now (carried_steps site here step)
unfolding carried_steps
carried_named site here (planned.Code (steps.Word form place)) names own = (own.named names, tt)
carried_named site here (planned.Code step) names own = tt
carried_named site here (planned.LoadByte reference) names own = load_byte_is (knowing site here.facts) reference names
carried_named site here (planned.LoadWord reference) names own = load_word_is (knowing site here.facts) reference names
carried_named site here (planned.JumpOn label) names own = jump_on_named site.tree.now here.goes_on label
carried_named site here (planned.Turn other end) names own = turn_named site.tree.now here.goes_on other end
carried_named site here step names own = tt

mutual
  pub plan_named :
      {body : Body} {called : List Bool} {here last : Here} {waiting : Option Facts} {plan : List Planned}
      {list : List Item} (carried : AreCarriedOut body called here waiting plan list last)
      → NumbersRise (nodes_of body.tree.now)
      → NamesItsOwn body.tree.now
      → AllByRecursion (StepIsOwn body.tree.now) plan
      → AreNamed (name_count body.tree.now) list
  plan_named {body = body} NoneCarriedOut rise names own = nothing_named (name_count body.tree.now)
  plan_named {body = body} {here = here} (StepCarriedOut {step = step} {first = first} {more = more} alone written others)
      rise names own =
      named_both (name_count body.tree.now) first more
      (steps_named written rise names (carried_named (site_of body) here step names own.0))
      (plan_named others rise names own.1)
  plan_named {body = body} (StatementCarriedOut {first = first} {more = more} part others) rise names own =
      named_both (name_count body.tree.now) first more (statement_named part rise names)
      (plan_named others rise names own.1)
  plan_named {body = body} (ListCarriedOut {first = first} {more = more} part others) rise names own =
      named_both (name_count body.tree.now) first more (list_named part rise names)
      (plan_named others rise names own.1)

  pub statement_named :
      {body : Body} {called : List Bool} {facts : Facts} {number : StatementNumber} {list : List Item} {last : Here}
      (carried : IsCarriedOut body called facts number list last)
      → NumbersRise (nodes_of body.tree.now)
      → NamesItsOwn body.tree.now
      → AreNamed (name_count body.tree.now) list
  statement_named {body = body} {facts = facts} (StatementPlanned {statement = statement} label found steps) rise names =
      plan_named steps rise names (statement_own (knowing (site_of body) facts) body statement label).are

  pub list_named :
      {body : Body} {called : List Bool} {facts : Facts} {range : Range} {list : List Item} {last : Here}
      (carried : IsListCarriedOut body called facts range list last)
      → NumbersRise (nodes_of body.tree.now)
      → NamesItsOwn body.tree.now
      → AreNamed (name_count body.tree.now) list
  list_named (ListPlanned all) rise names = all_named all rise names

  all_named :
      {body : Body} {called : List Bool} {here last : Here} {first count : ℕ} {list : List Item}
      (carried : AreAllCarriedOut body called here first count list last)
      → NumbersRise (nodes_of body.tree.now)
      → NamesItsOwn body.tree.now
      → AreNamed (name_count body.tree.now) list
  all_named {body = body} NoStatements rise names = nothing_named (name_count body.tree.now)
  all_named {body = body} (MoreStatements {list = list} {more = more} found first others) rise names =
      named_both (name_count body.tree.now) list more (statement_named first rise names) (all_named others rise names)

-- the contents of a segment
address_named : (count : ℕ) (place : Place) → PlaceIsNamed count place → AreNamed count (address_items place)
address_named count (places.Number number) is =
    no_name_first count _ _ (λ name. refl) (no_name_first count _ [] (λ name. refl) (nothing_named count))
address_named count (places.Code offset) is = no_name_first count _ [] (λ name. refl) (nothing_named count)
address_named count (places.Data offset) is = no_name_first count _ [] (λ name. refl) (nothing_named count)
address_named count (places.External offset other) is =
    item_first count _ [] (λ name used. let same : name ≡ other = eqb-true name other used in omega (arith, same, is))
    (nothing_named count)

content_named : (count : ℕ) (content : Content) → ContentIsNamed count content → AreNamed count (content_items content)
content_named count (contents.Byte value) is = no_name_first count _ [] (λ name. refl) (nothing_named count)
content_named count (contents.Word place) is = address_named count place is
content_named count (contents.Gap bytes) is = no_name_first count _ [] (λ name. refl) (nothing_named count)

pub contents_named : (count : ℕ) (list : List Content) → AllByRecursion (ContentIsNamed count) list
    → AreNamed count (contents_items list)
contents_named count [] are = nothing_named count
contents_named count (content ∷ others) are =
    named_both count (content_items content) (contents_items others) (content_named count content are.0)
    (contents_named count others are.1)

-- tree code of a module names its own
pub own_names : (tree : TreeModule) → IsOfModule tree → NamesItsOwn tree
own_names tree made = names_its_own made.typed made.storage tree made.globals made.lowered

-- the code of a module
module _ (tree : TreeModule) (rise : NumbersRise (nodes_of tree)) (names : NamesItsOwn tree) (called : List Bool) where
  rise_in : (body : Body) → body.tree.now ≡ tree → NumbersRise (nodes_of body.tree.now)
  rise_in body same = subst (λ (one : TreeModule). NumbersRise (nodes_of one)) (sym same) rise

  names_in : (body : Body) → body.tree.now ≡ tree → NamesItsOwn body.tree.now
  names_in body same = subst NamesItsOwn (sym same) names

  counted : (body : Body) (list : List Item) → body.tree.now ≡ tree → AreNamed (name_count body.tree.now) list
      → AreNamed (name_count tree) list
  counted body list same are = subst (λ (one : TreeModule). AreNamed (name_count one) list) same are

  end_named : (body : Body) (here : Here) (is_reached : Bool) (list : List Item)
      → body.tree.now ≡ tree
      → IsEndCode body called here is_reached list
      → AreNamed (name_count tree) list
  end_named body here true list same code =
      counted body list same
      (plan_named code.1 (rise_in body same) (names_in body same) (end_own {tree = body.tree.now} body).are)
  end_named body here false list same code =
      subst (AreNamed (name_count tree)) (sym code) (nothing_named (name_count tree))

  procedure_named : (number : ℕ) (procedure : TreeProcedure) (list : List Item)
      → slice_get tree.procedures.items number ≡ Some procedure
      → IsProcedureCode tree called number procedure list
      → AreNamed (name_count tree) list
  procedure_named number procedure list there code =
      let body : Body = code.body in
      let parameters : ParametersAreOwn body.tree.now body.procedure.now.parameters.items =
      λ index parameter found. record {
        named = λ own.
            subst (λ (one : TreeModule). NamesItsOwn one → LocationIsNamed (name_count one) parameter.location)
            (sym code.tree_is)
            (λ names. names.parameters number procedure there index parameter
            (subst (λ (one : TreeProcedure). slice_get one.parameters.items index ≡ Some parameter)
            code.procedure_is found))
            own;
      } in
      let begun : AreNamed (name_count tree) code.beginning =
      counted body code.beginning code.tree_is
      (plan_named code.begins (rise_in body code.tree_is) (names_in body code.tree_is)
      (entry_own {tree = body.tree.now} body.procedure.now.kind body code.first parameters).are) in
      let done : AreNamed (name_count tree) code.statements =
      counted body code.statements code.tree_is
      (list_named code.written (rise_in body code.tree_is) (names_in body code.tree_is)) in
      let ended : AreNamed (name_count tree) code.ending =
      end_named body code.last procedure.reaches_its_end code.ending code.tree_is code.ends in
      subst (AreNamed (name_count tree)) (sym code.list_is)
      (no_name_first (name_count tree) _ _ (λ name. refl)
      (named_both (name_count tree) code.beginning (code.statements ++ code.ending) begun
      (named_both (name_count tree) code.statements code.ending done ended)))

  code_named : (number : ℕ) (procedure : TreeProcedure) (kind : ProcedureKind) (list : List Item)
      → slice_get tree.procedures.items number ≡ Some procedure
      → IsCodeOf tree called number procedure kind list
      → AreNamed (name_count tree) list
  code_named number procedure (kinds.External name) list there code =
      subst (AreNamed (name_count tree)) (sym code) (nothing_named (name_count tree))
  code_named number procedure kinds.Static list there code = procedure_named number procedure list there code
  code_named number procedure kinds.Reentrant list there code = procedure_named number procedure list there code

  procedures_named : (number : ℕ) (procedures : List TreeProcedure) (list : List Item)
      → ((index : ℕ) (procedure : TreeProcedure) → slice_get procedures index ≡ Some procedure
      → slice_get tree.procedures.items (number + index) ≡ Some procedure)
      → AreCodeOf tree called number procedures list
      → AreNamed (name_count tree) list
  procedures_named number [] list there code =
      subst (AreNamed (name_count tree)) (sym code) (nothing_named (name_count tree))
  procedures_named number (procedure ∷ others) list there code =
      let none : number + 0 ≡ number = omega arith in
      subst (AreNamed (name_count tree)) (sym code.4)
      (named_both (name_count tree) code.0 code.1
      (code_named number procedure procedure.kind code.0
      (ap (slice_get tree.procedures.items) (sym none) ∙ there 0 procedure refl) code.2)
      (procedures_named (suc number) others code.1
      (λ index one is.
      let further : number + suc index ≡ suc number + index = omega arith in
      ap (slice_get tree.procedures.items) (sym further) ∙ there (suc index) one is)
      code.3))

  main_named : (start : ℕ) (is_there : Bool) (list : List Item)
      → IsCodeOfMain tree called start is_there list
      → AreNamed (name_count tree) list
  main_named start true list code =
      let body : Body = code.body in
      let done : AreNamed (name_count tree) code.statements =
      counted body code.statements code.tree_is
      (list_named code.written (rise_in body code.tree_is) (names_in body code.tree_is)) in
      subst (AreNamed (name_count tree)) (sym code.list_is)
      (no_name_first (name_count tree) _ _ (λ name. refl)
      (no_name_first (name_count tree) _ _ (λ name. refl)
      (named_both (name_count tree) code.statements (items.Plain Hlt ∷ []) done
      (no_name_first (name_count tree) _ [] (λ name. refl) (nothing_named (name_count tree))))))
  main_named start false list code =
      subst (AreNamed (name_count tree)) (sym code) (nothing_named (name_count tree))

  pub own_code_named : (start : ℕ) (list : List Item) → IsOwnCode tree called start list
      → AreNamed (name_count tree) list
  own_code_named start list code =
      subst (AreNamed (name_count tree)) (sym code.list_is)
      (named_both (name_count tree) (contents_items tree.constants.items) (code.main ++ code.procedures)
      (contents_named (name_count tree) tree.constants.items names.constants)
      (named_both (name_count tree) code.main code.procedures (main_named start (has_main tree) code.main code.main_is)
      (procedures_named 0 tree.procedures.items code.procedures
      (λ index procedure there.
      let none : 0 + index ≡ index = omega arith in
      ap (slice_get tree.procedures.items) none ∙ there)
      code.procedures_are)))
