-- The labels that the code of statements binds: those that they take, and those of the source in them; each once.
use Rattle.codegen8080.proofs.Prelude.{◌≡◌, ◌⊎◌, inl, inr, ℕ, zero, suc, ◌+◌, ◌<◌, ◌≤◌, ◌∙◌, Bool, true, false, if◌then◌else◌, List, [], ◌∷◌, ◌++◌, Option, Some, None, slice_get, same_Some, refl, sym, ap, subst, arith, Item, Range, Statement, StatementNumber, Facts, LabelNumber, Site, Body, Planned, Here, AreAllCarriedOut, AreCarriedOut, HoldsNoStatement, IsCarriedOut, IsListCarriedOut, ListCarriedOut, ListPlanned, MoreStatements, NoStatements, NoneCarriedOut, StatementCarriedOut, StatementPlanned, StepCarriedOut, site_of, carried_steps, AreAllLabelled, AreStepsLabelled, IsListLabelled, IsStatementLabelled, knowing, label_after, statement_labels, statement_steps}
use Rattle.typed_trees.specs.TypedTrees.{TypedList, TypedStatement, TypedStatements}
use Rattle.typed_trees.specs.Jumps.{labels_in, labels_in_list, labels_in_statements}
use Rattle.layout.specs.Storage.{Storage}
use Rattle.asm8080.specs.Items.{BoundOnce, is_bound}
use Rattle.treecode.specs.internal.Lowered.{AreMoreStatements, AreNoStatements, AreStatements, IsAssignment, IsCall, IsCase, IsDo, IsGoto, IsHalt, IsIf, IsLabel, IsList, IsListOf, IsLoop, IsMove, IsNull, IsReturn, IsStatement, IsStatementNode, IsStatementForm}
use Rattle.treecode.specs.internal.Nodes.{Nodes, nodes_of}
use Rattle.treecode.specs.internal.Rising.{NumbersRise}
use Rattle.treecode.specs.declared.place.Location.{Location}
use Rattle.treecode.specs.declared.place.Location.TheVariants.{Static, Frame}
use Rattle.treecode.specs.declared.reference.Reference.{Reference}
use Rattle.steps8080.proofs.{Binding.{bound_in, once_both}, Numbered.{not_both}}
use Rattle.asm8080.specs.declared.item.WordForm.TheVariants.{LoadA, LoadHl}
use Rattle.treecode.specs.declared.place.Place.{Place}
use Rattle.steps8080.specs.internal.Facts.{is_at}
unfoldable use Rattle.steps8080.specs.internal.Queries.{location_of}
use Rattle.steps8080.specs.declared.step.Step.{Step}
use Rattle.steps8080.specs.declared.step.Step.TheVariants as steps
use Rattle.statements8080.specs.internal.Bodies.{body_label}
use Rattle.statements8080.specs.internal.Plans.{mark}
use Rattle.statements8080.specs.declared.plan.Planned.TheVariants as planned
use Rattle.exprgen8080.proofs.Marked.{StepsBound, steps_bound, steps_rise}
use Rattle.exprgen8080.specs.internal.Marks.{Differ, IsIn, marks_of}
use Rattle.codegen8080.specs.internal.Generated.{byte_at_address_steps, byte_at_steps, byte_in_a, jump_on_steps, word_at_steps, word_in_hl}
unfoldable use Rattle.codegen8080.specs.internal.Generated.{load_byte_steps, load_word_steps}
use Rattle.codegen8080.specs.internal.Outlines.{is_outlined, marks_of_plan, marks_of_step, outline}
use Rattle.codegen8080.proofs.{DifferentNumbers.{differ_apart, differ_first, differ_later, in_first, in_later}, FormLabels.{FormLabels, FormPlan, IsSourceLabel, ListFirst, NoPartFirst, NoParts, PartsAre, StatementFirst, TakesLabels, bare_plan, case_plan, do_plan, if_plan}, Heads.{loop_plan}, Outlines.{Shows, assignment_is_bare, bare, move_is_bare, return_of_is_bare}}

-- the labels and the parts of the steps of a statement of each form
module _ {storage : Storage} {labels : List ℕ} {bound : ℕ} (body : Body) (site : Site) (first : ℕ) where
  list_plan : {tree : TypedList} (range : Range)
      → IsList (nodes_of body.tree.now) storage labels bound range tree
      → FormPlan (nodes_of body.tree.now) storage labels bound (planned.List range ∷ []) first 0 (labels_in_list tree)
  list_plan range (IsListOf {trees = trees} are) = do_plan range trees are refl

  form_labels :
      {statement : Statement} {tree : TypedStatement}
      → IsStatementForm (nodes_of body.tree.now) storage labels bound statement tree
      → first + statement_labels body site statement < 4294967295
      → FormLabels body storage labels bound (statement_steps body site statement first) first
      (statement_labels body site statement) (labels_in tree)
  unfolding statement_steps statement_labels
  form_labels (IsLabel {number = place} {label = label} is) few = IsSourceLabel place label refl is refl
  form_labels IsNull few = TakesLabels (bare_plan (bare refl))
  form_labels (IsAssignment {range = targets} {value = value} are is) few =
      TakesLabels (bare_plan (assignment_is_bare body site targets value))
  form_labels (IsCall are) few = TakesLabels (bare_plan (bare refl))
  form_labels (IsMove {count = count} {source = from} {destination = to} one other another) few =
      TakesLabels (bare_plan (move_is_bare site count from to))
  form_labels (IsReturn {value = value} is) few = TakesLabels (bare_plan (return_of_is_bare body value))
  form_labels IsHalt few = TakesLabels (bare_plan (bare refl))
  form_labels (IsGoto is) few = TakesLabels (bare_plan (bare refl))
  form_labels (IsIf {condition = condition} {body = then_part} {then_tree = then_tree} is then_is else_is) few =
      TakesLabels (if_plan then_part then_tree then_is body site condition refl else_is few)
  form_labels (IsDo {range = range} is) few = TakesLabels (list_plan range is)
  form_labels (IsLoop {head = head} {range = range} is list_is) few =
      TakesLabels (loop_plan body site first head range list_is few)
  form_labels (IsCase {choice = choice} {range = range} {trees = trees} is are) few =
      TakesLabels (case_plan storage labels bound body range first trees are site choice few)

-- the labels that a planned step marks are those of its expression steps
byte_unmarked :
    (reference : Reference) (place : Place) (held : Facts) (is_there is_addressed : Bool)
    → marks_of
    (if is_there then [] else (if is_addressed then byte_at_address_steps reference
    else steps.Word LoadA place ∷ []) ++ (steps.Holds held ∷ []))
    ≡ []
byte_unmarked reference place held true is_addressed = refl
byte_unmarked reference place held false true = refl
byte_unmarked reference place held false false = refl

frame_byte_unmarked :
    (reference : Reference) (held : Facts) (is_there : Bool)
    → marks_of (if is_there then [] else byte_at_address_steps reference ++ (steps.Holds held ∷ [])) ≡ []
frame_byte_unmarked reference held true = refl
frame_byte_unmarked reference held false = refl

load_byte_unmarked : (site : Site) (reference : Reference) → marks_of (load_byte_steps site reference) ≡ []
unfolding load_byte_steps
load_byte_unmarked site reference = by (location_of site reference)
  where
    by : (found : Option Location)
        → marks_of (elim found [
          | Some location ↦
              if is_at site.facts.byte_in_a location then []
              else byte_at_steps site.facts reference location ++ (steps.Holds (byte_in_a location) ∷ [])
          | None ↦ []
        ])
        ≡ []
    by (Some (Static place)) =
        byte_unmarked reference place (byte_in_a (Static place)) (is_at site.facts.byte_in_a (Static place))
        (is_at site.facts.address_in_hl (Static place))
    by (Some (Frame variable offset)) =
        frame_byte_unmarked reference (byte_in_a (Frame variable offset))
        (is_at site.facts.byte_in_a (Frame variable offset))
    by None = refl

word_unmarked :
    (list : List Step) (is_there : Bool) → marks_of list ≡ [] → marks_of (if is_there then [] else list) ≡ []
word_unmarked list true none = refl
word_unmarked list false none = none

load_word_unmarked : (site : Site) (reference : Reference) → marks_of (load_word_steps site reference) ≡ []
unfolding load_word_steps
load_word_unmarked site reference = by (location_of site reference)
  where
    by : (found : Option Location)
        → marks_of (elim found [
          | Some location ↦
              if is_at site.facts.word_in_hl location then []
              else word_at_steps reference location ++ (steps.Holds (word_in_hl location) ∷ [])
          | None ↦ []
        ])
        ≡ []
    by (Some (Static place)) = word_unmarked _ (is_at site.facts.word_in_hl (Static place)) refl
    by (Some (Frame variable offset)) =
        word_unmarked _ (is_at site.facts.word_in_hl (Frame variable offset)) refl
    by None = refl

jump_on_unmarked : (goes_on : Bool) (label : LabelNumber) → marks_of (jump_on_steps goes_on label) ≡ []
jump_on_unmarked true label = refl
jump_on_unmarked false label = refl

turn_marks : (goes_on : Bool) (other end : LabelNumber)
    → marks_of (jump_on_steps goes_on end ++ (steps.Mark other ∷ [])) ≡ other.index ∷ []
turn_marks true other end = refl
turn_marks false other end = refl

carried_marks : (site : Site) (here : Here) (step : Planned)
    → HoldsNoStatement step
    → marks_of (carried_steps site here step) ≡ marks_of_step step
unfolding carried_steps
carried_marks site here (planned.Code (steps.Mark label)) alone = refl
carried_marks site here (planned.Code step) alone = refl
carried_marks site here (planned.LoadByte reference) alone = load_byte_unmarked (knowing site here.facts) reference
carried_marks site here (planned.LoadWord reference) alone = load_word_unmarked (knowing site here.facts) reference
carried_marks site here (planned.JumpOn label) alone = jump_on_unmarked here.goes_on label
carried_marks site here (planned.Turn other end) alone = turn_marks here.goes_on other end
carried_marks site here (planned.Statement number) alone = absurd alone
carried_marks site here (planned.List list) alone = absurd alone
carried_marks site here step alone = refl

-- what an outline leaves out marks and holds nothing
left_out_marks : (step : Planned) → is_outlined step ≡ false → marks_of_step step ≡ []
left_out_marks (planned.Code (steps.Mark label)) out = let bad : true ≡ false = out in cc
left_out_marks (planned.Turn other end) out = let bad : true ≡ false = out in cc
left_out_marks (planned.Meet label) out = let bad : true ≡ false = out in cc
left_out_marks (planned.Again label facts is_entered) out = let bad : true ≡ false = out in cc
left_out_marks step out = refl

left_out_alone : (step : Planned) → is_outlined step ≡ false → HoldsNoStatement step
left_out_alone (planned.Statement number) out = let bad : true ≡ false = out in cc
left_out_alone (planned.List list) out = let bad : true ≡ false = out in cc
left_out_alone step out = tt

marks_by :
    (step : Planned) (others : List Planned) (b : Bool)
    → is_outlined step ≡ b
    → marks_of_plan (outline others) ≡ marks_of_plan others
    → marks_of_plan (if b then step ∷ outline others else outline others)
    ≡ marks_of_step step ++ marks_of_plan others
marks_by step others true is rest = ap (λ (list : List ℕ). marks_of_step step ++ list) rest
marks_by step others false out rest =
    rest ∙ sym (ap (λ (list : List ℕ). list ++ marks_of_plan others) (left_out_marks step out))

marks_outlined : (list : List Planned) → marks_of_plan (outline list) ≡ marks_of_plan list
marks_outlined [] = refl
marks_outlined (step ∷ others) =
    marks_by step others (is_outlined step) refl (marks_outlined others)

module _ {nodes : Nodes} {storage : Storage} {labels : List ℕ} {bound : ℕ} where
  after_first :
      {step : Planned} {others shown : List Planned} {held : List ℕ}
      → ((less : List ℕ) → PartsAre nodes storage labels bound shown less → PartsAre nodes storage labels bound others less)
      → PartsAre nodes storage labels bound (step ∷ shown) held
      → PartsAre nodes storage labels bound (step ∷ others) held
  after_first go (NoPartFirst alone rest) = NoPartFirst alone (go _ rest)
  after_first go (StatementFirst is rest) = StatementFirst is (go _ rest)
  after_first go (ListFirst are rest) = ListFirst are (go _ rest)

  parts_by :
      (step : Planned) (others : List Planned) {held : List ℕ} (b : Bool)
      → is_outlined step ≡ b
      → ((less : List ℕ) → PartsAre nodes storage labels bound (outline others) less
      → PartsAre nodes storage labels bound others less)
      → PartsAre nodes storage labels bound (if b then step ∷ outline others else outline others) held
      → PartsAre nodes storage labels bound (step ∷ others) held
  parts_by step others true is go parts = after_first go parts
  parts_by step others false out go parts = NoPartFirst (left_out_alone step out) (go _ parts)

  parts_outlined :
      (list : List Planned) {held : List ℕ}
      → PartsAre nodes storage labels bound (outline list) held
      → PartsAre nodes storage labels bound list held
  parts_outlined [] parts = parts
  parts_outlined (step ∷ others) parts =
      parts_by step others (is_outlined step) refl (λ less rest. parts_outlined others rest) parts

-- labels are taken in their order
mutual
  pub plan_rises :
      {body : Body} {called : List Bool} {here last : Here} {waiting : Option Facts} {plan : List Planned}
      {list : List Item} (label next : ℕ)
      (carried : AreCarriedOut body called here waiting plan list last)
      → AreStepsLabelled carried label next → next < 4294967295 → label ≤ next
  plan_rises label next NoneCarriedOut labels few = omega (arith, labels)
  plan_rises label next (StepCarriedOut alone written others) labels few =
      let rest : labels.0 ≤ next = plan_rises labels.0 next others labels.2 few in
      let this : label ≤ labels.0 = steps_rise label labels.0 written labels.1 (omega (arith, rest, few)) in
      omega (arith, rest, this)
  plan_rises label next (StatementCarriedOut first others) labels few =
      let rest : labels.0 ≤ next = plan_rises labels.0 next others labels.2 few in
      let this : label ≤ labels.0 = statement_rises label labels.0 first labels.1 (omega (arith, rest, few)) in
      omega (arith, rest, this)
  plan_rises label next (ListCarriedOut first others) labels few =
      let rest : labels.0 ≤ next = plan_rises labels.0 next others labels.2 few in
      let this : label ≤ labels.0 = list_rises label labels.0 first labels.1 (omega (arith, rest, few)) in
      omega (arith, rest, this)

  pub statement_rises :
      {body : Body} {called : List Bool} {facts : Facts} {number : StatementNumber} {list : List Item} {last : Here}
      (label next : ℕ) (carried : IsCarriedOut body called facts number list last)
      → IsStatementLabelled carried label next → next < 4294967295 → label ≤ next
  statement_rises label next (StatementPlanned at found steps) labels few =
      let rest = plan_rises _ next steps labels.1 few in omega (arith, rest, few)

  pub list_rises :
      {body : Body} {called : List Bool} {facts : Facts} {range : Range} {list : List Item} {last : Here}
      (label next : ℕ) (carried : IsListCarriedOut body called facts range list last)
      → IsListLabelled carried label next → next < 4294967295 → label ≤ next
  list_rises label next (ListPlanned all) labels few = all_rise label next all labels few

  all_rise :
      {body : Body} {called : List Bool} {here last : Here} {first count : ℕ} {list : List Item}
      (label next : ℕ) (carried : AreAllCarriedOut body called here first count list last)
      → AreAllLabelled carried label next → next < 4294967295 → label ≤ next
  all_rise label next NoStatements labels few = omega (arith, labels)
  all_rise label next (MoreStatements found first others) labels few =
      let rest : labels.0 ≤ next = all_rise labels.0 next others labels.2 few in
      let this : label ≤ labels.0 = statement_rises label labels.0 first labels.1 (omega (arith, rest, few)) in
      omega (arith, rest, this)

-- A body of which the labels of the source are taken before a number. Its labels are those of its tree, by their
-- numbers in the body.
pub record Ground (body : Body) (labels : List ℕ) (base : ℕ) : Type 0 where
  pub rise : NumbersRise (nodes_of body.tree.now)
  pub low : (place label : ℕ) → slice_get labels place ≡ Some label → (body_label body place).index < base
  pub one :
      (place other label more : ℕ)
      → slice_get labels place ≡ Some label
      → slice_get labels other ≡ Some more
      → (body_label body place).index ≡ (body_label body other).index
      → label ≡ more

-- a label of the code is one of the source, of these
pub record IsNamed (body : Body) (labels : List ℕ) (held : List ℕ) (one : ℕ) : Type 0 where
  pub place : ℕ
  pub label : ℕ
  pub is : one ≡ (body_label body place).index
  pub at : slice_get labels place ≡ Some label
  pub among : IsIn label held

-- the labels that items bind: those from a first one on up to another, and those of the source
abbrev pub AreBound : (body : Body) (labels held : List ℕ) (label next : ℕ) → List Item → Type 0
AreBound body labels held label next list =
    (one : ℕ) → is_bound one list ≡ true → ((label ≤ one) × (one < next)) ⊎ IsNamed body labels held one

pub record TreeBound (body : Body) (labels held : List ℕ) (label next : ℕ) (list : List Item) : Type 0 where
  pub once : BoundOnce list
  pub bound : AreBound body labels held label next list

-- those of planned steps: their own marks too
pub record PlanBound (body : Body) (labels held : List ℕ) (plan : List Planned) (label next : ℕ) (list : List Item) :
    Type 0 where
  pub once : BoundOnce list
  pub bound :
      (one : ℕ) → is_bound one list ≡ true
      → IsIn one (marks_of_plan plan) ⊎ (((label ≤ one) × (one < next)) ⊎ IsNamed body labels held one)

module _ {body : Body} {labels : List ℕ} {base : ℕ} (ground : Ground body labels base) where
  named_low : {held : List ℕ} (one : ℕ) → IsNamed body labels held one → one < base
  named_low one is = let low = ground.low is.place is.label is.at in omega (arith, low, is.is)

  named_more :
      {held more : List ℕ} (one : ℕ) → ((n : ℕ) → IsIn n held → IsIn n more)
      → IsNamed body labels held one → IsNamed body labels more one
  named_more one some is =
      record { place = is.place; label = is.label; is = is.is; at = is.at; among = some is.label is.among }

  -- a label of the source is of one part
  named_apart :
      (one : ℕ) (first others : List ℕ) → Differ (first ++ others)
      → IsNamed body labels first one → IsNamed body labels others one → ⊥
  named_apart one first others differ here later =
      let same : here.label ≡ later.label =
      ground.one here.place later.place here.label later.label here.at later.at (sym here.is ∙ later.is) in
      differ_apart here.label first others differ here.among
      (subst (λ (n : ℕ). IsIn n others) (sym same) later.among)

  -- code of a step before others
  step_before :
      {step : Planned} {others : List Planned} {planned_steps : List Step} {first more : List Item}
      {held : List ℕ} {label middle next : ℕ}
      → label ≤ middle
      → middle ≤ next
      → base ≤ label
      → marks_of planned_steps ≡ marks_of_step step
      → Differ (marks_of_step step ++ marks_of_plan others)
      → ((one : ℕ) → IsIn one (marks_of_step step ++ marks_of_plan others) → one < label)
      → ((one : ℕ) → IsIn one (marks_of_step step ++ marks_of_plan others) → IsNamed body labels held one → ⊥)
      → StepsBound planned_steps first label middle
      → PlanBound body labels held others middle next more
      → PlanBound body labels held (step ∷ others) label next (first ++ more)
  step_before {step = step} {others = others} {first = first} {more = more} {held = held} {label = label} {middle = middle} {next = next}
      less further high same differ low apart this rest = record {
        once = once_both first more this.once rest.once (λ one here there.
            elim (this.bound one here) [
              | inl own ↦
                  let mine = subst (IsIn one) same own in
                  elim (rest.bound one there) [
                    | inl other ↦ differ_apart one (marks_of_step step) (marks_of_plan others) differ mine other
                    | inr more_is ↦ elim more_is [
                      | inl taken ↦
                          let below = low one (in_first one (marks_of_step step) (marks_of_plan others) mine) in
                          omega (arith, below, taken.0, less)
                      | inr named ↦ apart one (in_first one (marks_of_step step) (marks_of_plan others) mine) named
                    ]
                  ]
              | inr taken ↦ elim (rest.bound one there) [
                | inl other ↦
                    let below = low one (in_later one (marks_of_step step) (marks_of_plan others) other) in
                    omega (arith, below, taken.0)
                | inr more_is ↦ elim more_is [
                  | inl also ↦ omega (arith, taken.1, also.0)
                  | inr named ↦ let below = named_low one named in omega (arith, below, high, taken.0)
                ]
              ]
            ]);
        bound = λ one found. elim (bound_in one first more found) [
          | inl here ↦ elim (this.bound one here) [
            | inl own ↦ inl (in_first one (marks_of_step step) (marks_of_plan others) (subst (IsIn one) same own))
            | inr taken ↦ inr (inl (taken.0, omega (arith, taken.1, further)))
          ]
          | inr there ↦ elim (rest.bound one there) [
            | inl other ↦ inl (in_later one (marks_of_step step) (marks_of_plan others) other)
            | inr more_is ↦ elim more_is [
              | inl taken ↦ inr (inl (omega (arith, taken.0, less), taken.1))
              | inr named ↦ inr (inr named)
            ]
          ]
        ];
      }

  -- code of a part before others; a statement and a list mark nothing themselves
  pub part_before :
      {others : List Planned} {first more : List Item} {tree held : List ℕ} {label middle next : ℕ}
      → label ≤ middle
      → middle ≤ next
      → base ≤ label
      → Differ (tree ++ held)
      → ((one : ℕ) → IsIn one (marks_of_plan others) → one < label)
      → ((one : ℕ) → IsIn one (marks_of_plan others) → IsNamed body labels (tree ++ held) one → ⊥)
      → TreeBound body labels tree label middle first
      → PlanBound body labels held others middle next more
      → PlanBound body labels (tree ++ held) others label next (first ++ more)
  part_before {others = others} {first = first} {more = more} {tree = tree} {held = held}
      less further high differ low apart this rest = record {
        once = once_both first more this.once rest.once (λ one here there.
            elim (this.bound one here) [
              | inl taken ↦ elim (rest.bound one there) [
                | inl own ↦ let below = low one own in omega (arith, below, taken.0)
                | inr more_is ↦ elim more_is [
                  | inl also ↦ omega (arith, taken.1, also.0)
                  | inr named ↦ let below = named_low one named in omega (arith, below, high, taken.0)
                ]
              ]
              | inr named ↦ elim (rest.bound one there) [
                | inl own ↦ apart one own (named_more one (λ n is. in_first n tree held is) named)
                | inr more_is ↦ elim more_is [
                  | inl also ↦ let below = named_low one named in omega (arith, below, high, also.0, less)
                  | inr other ↦ named_apart one tree held differ named other
                ]
              ]
            ]);
        bound = λ one found. elim (bound_in one first more found) [
          | inl here ↦ elim (this.bound one here) [
            | inl taken ↦ inr (inl (taken.0, omega (arith, taken.1, further)))
            | inr named ↦ inr (inr (named_more one (λ n is. in_first n tree held is) named))
          ]
          | inr there ↦ elim (rest.bound one there) [
            | inl own ↦ inl own
            | inr more_is ↦ elim more_is [
              | inl taken ↦ inr (inl (omega (arith, taken.0, less), taken.1))
              | inr named ↦ inr (inr (named_more one (λ n is. in_later n tree held is) named))
            ]
          ]
        ];
      }

  pub as_plan :
      {held : List ℕ} {label next : ℕ} {list : List Item}
      → TreeBound body labels held label next list
      → PlanBound body labels held [] label next list
  as_plan is = record { once = is.once; bound = λ one found. inr (is.bound one found) }

  pub as_tree :
      {held : List ℕ} {label next : ℕ} {list : List Item}
      → PlanBound body labels held [] label next list
      → TreeBound body labels held label next list
  as_tree is = record {
    once = is.once;
    bound = λ one found. elim (is.bound one found) [ inl own ↦ absurd own | inr more_is ↦ more_is ];
  }

  -- the steps of a statement, by what their form says
  pub form_bound :
      {storage : Storage} {bound : ℕ} {numbers : List ℕ} {list : List Item}
      (plan : List Planned) (label at count free next : ℕ)
      → at ≡ label
      → label + count ≡ free
      → free ≤ next
      → base ≤ label
      → FormLabels body storage labels bound plan at count numbers
      → Differ numbers
      → ((held : List ℕ)
      → PartsAre (nodes_of body.tree.now) storage labels bound plan held
      → Differ held
      → Differ (marks_of_plan plan)
      → ((one : ℕ) → IsIn one (marks_of_plan plan) → one < free)
      → ((one : ℕ) → IsIn one (marks_of_plan plan) → IsNamed body labels held one → ⊥)
      → PlanBound body labels held plan free next list)
      → TreeBound body labels numbers label next list
  form_bound {storage = storage} {bound = bound} plan label at count free next here taken more high (TakesLabels is) differ go =
      let same : marks_of_plan is.shown ≡ marks_of_plan plan =
      sym (ap (λ (list : List Planned). marks_of_plan list) is.shows.is) ∙ marks_outlined plan in
      let own : (one : ℕ) → IsIn one (marks_of_plan plan) → (at ≤ one) × (one < at + count) =
      λ one in_it. is.within one (subst (IsIn one) (sym same) in_it) in
      let all =
      go is.held
      (parts_outlined plan
      (subst (λ (list : List Planned). PartsAre (nodes_of body.tree.now) storage labels bound list is.held)
      (sym is.shows.is) is.parts))
      (is.apart differ)
      (subst Differ same is.differ)
      (λ one in_it. let low = own one in_it in omega (arith, low.1, here, taken))
      (λ one in_it named.
      let low = own one in_it in
      let below = named_low one named in
      omega (arith, low.0, below, here, high)) in
      record {
        once = all.once;
        bound = λ one found. elim (all.bound one found) [
          | inl in_it ↦
              let low = own one in_it in
              inl (omega (arith, low.0, here), omega (arith, low.1, here, taken, more))
          | inr more_is ↦ elim more_is [
            | inl further ↦ inl (omega (arith, further.0, taken), further.1)
            | inr named ↦ inr (named_more one is.some named)
          ]
        ];
      }
  form_bound {storage = storage} {bound = bound} {numbers = numbers} plan label at count free next here taken more high
      (IsSourceLabel place name plan_is there numbers_are) differ go =
      let marked : marks_of_plan plan ≡ (body_label body place).index ∷ [] =
      ap (λ (list : List Planned). marks_of_plan list) plan_is in
      let own : (one : ℕ) → IsIn one (marks_of_plan plan) → one ≡ (body_label body place).index =
      λ one in_it. elim (subst (IsIn one) marked in_it) [ inl same ↦ same | inr none ↦ absurd none ] in
      let low = ground.low place name there in
      let all =
      go []
      (subst (λ (list : List Planned). PartsAre (nodes_of body.tree.now) storage labels bound list []) (sym plan_is)
      (NoPartFirst tt NoParts))
      tt
      (subst Differ (sym marked) ((λ none. none), tt))
      (λ one in_it. let same = own one in_it in omega (arith, same, low, high, taken))
      (λ one in_it named. named.among) in
      record {
        once = all.once;
        bound = λ one found. elim (all.bound one found) [
          | inl in_it ↦ inr (record {
            place = place;
            label = name;
            is = own one in_it;
            at = there;
            among = subst (IsIn name) (sym numbers_are) (inl refl);
          })
          | inr more_is ↦ elim more_is [
            | inl further ↦ inl (omega (arith, further.0, taken), further.1)
            | inr named ↦ absurd named.among
          ]
        ];
      }

  mutual
    pub plan_bound :
        {storage : Storage} {bound : ℕ} {called : List Bool} {here last : Here} {waiting : Option Facts}
        {plan : List Planned} {list : List Item} {held : List ℕ} (label next : ℕ)
        (carried : AreCarriedOut body called here waiting plan list last)
        → AreStepsLabelled carried label next
        → next < 4294967295
        → base ≤ label
        → PartsAre (nodes_of body.tree.now) storage labels bound plan held
        → Differ held
        → Differ (marks_of_plan plan)
        → ((one : ℕ) → IsIn one (marks_of_plan plan) → one < label)
        → ((one : ℕ) → IsIn one (marks_of_plan plan) → IsNamed body labels held one → ⊥)
        → PlanBound body labels held plan label next list
    plan_bound label next NoneCarriedOut are few high parts differ marks low apart =
        record { once = tt; bound = λ one found. absurd (not_both false found refl) }
    plan_bound {here = here} label next (StepCarriedOut {step = step} {others = others} alone written rest) are few high
        (NoPartFirst also parts) differ marks low apart =
        let more : are.0 ≤ next = plan_rises are.0 next rest are.2 few in
        let few_here : are.0 < 4294967295 = omega (arith, more, few) in
        let less : label ≤ are.0 = steps_rise label are.0 written are.1 few_here in
        let same : marks_of (carried_steps (site_of body) here step) ≡ marks_of_step step =
        carried_marks (site_of body) here step alone in
        step_before less more high same marks low apart
        (steps_bound label are.0 written are.1 ground.rise few_here
        (subst Differ (sym same) (differ_first (marks_of_step step) (marks_of_plan others) marks))
        (λ one is. low one (in_first one (marks_of_step step) (marks_of_plan others) (subst (IsIn one) same is))))
        (plan_bound are.0 next rest are.2 few (omega (arith, high, less)) parts differ
        (differ_later (marks_of_step step) (marks_of_plan others) marks)
        (λ one is.
        let below = low one (in_later one (marks_of_step step) (marks_of_plan others) is) in
        omega (arith, below, less))
        (λ one is named. apart one (in_later one (marks_of_step step) (marks_of_plan others) is) named))
    plan_bound label next (StepCarriedOut alone written rest) are few high (StatementFirst is parts) differ marks low
        apart =
        absurd alone
    plan_bound label next (StepCarriedOut alone written rest) are few high (ListFirst is parts) differ marks low
        apart =
        absurd alone
    plan_bound label next (StatementCarriedOut first rest) are few high (NoPartFirst also parts) differ marks low
        apart =
        absurd also
    plan_bound label next (StatementCarriedOut first rest) are few high
        (StatementFirst {held = held} {tree = tree} is parts) differ marks low apart =
        let more : are.0 ≤ next = plan_rises are.0 next rest are.2 few in
        let few_here : are.0 < 4294967295 = omega (arith, more, few) in
        let less : label ≤ are.0 = statement_rises label are.0 first are.1 few_here in
        let all =
        part_before less more high differ low apart
        (statement_bound label are.0 first are.1 few_here high is (differ_first (labels_in tree) held differ))
        (plan_bound are.0 next rest are.2 few (omega (arith, high, less)) parts
        (differ_later (labels_in tree) held differ) marks
        (λ one own. let below = low one own in omega (arith, below, less))
        (λ one own named. apart one own (named_more one (λ n in_it. in_later n (labels_in tree) held in_it) named))) in
        record { once = all.once; bound = all.bound }
    plan_bound label next (ListCarriedOut first rest) are few high (NoPartFirst also parts) differ marks low apart =
        absurd also
    plan_bound label next (ListCarriedOut first rest) are few high
        (ListFirst {held = held} {trees = trees} is parts) differ marks low apart =
        let more : are.0 ≤ next = plan_rises are.0 next rest are.2 few in
        let few_here : are.0 < 4294967295 = omega (arith, more, few) in
        let less : label ≤ are.0 = list_rises label are.0 first are.1 few_here in
        let all =
        part_before less more high differ low apart
        (list_bound label are.0 first are.1 few_here high is (differ_first (labels_in_statements trees) held differ))
        (plan_bound are.0 next rest are.2 few (omega (arith, high, less)) parts
        (differ_later (labels_in_statements trees) held differ) marks
        (λ one own. let below = low one own in omega (arith, below, less))
        (λ one own named.
        apart one own (named_more one (λ n in_it. in_later n (labels_in_statements trees) held in_it) named))) in
        record { once = all.once; bound = all.bound }

    statement_bound :
        {storage : Storage} {bound : ℕ} {called : List Bool} {facts : Facts} {number : StatementNumber}
        {list : List Item} {last : Here} {tree : TypedStatement} (label next : ℕ)
        (carried : IsCarriedOut body called facts number list last)
        → IsStatementLabelled carried label next
        → next < 4294967295
        → base ≤ label
        → IsStatement (nodes_of body.tree.now) storage labels bound number.index tree
        → Differ (labels_in tree)
        → TreeBound body labels (labels_in tree) label next list
    statement_bound {storage = storage} {facts = facts} {number = number} {tree = tree} label next
        (StatementPlanned {statement = statement} at found steps) are few high
        (IsStatementNode {statement = other} below there form) differ =
        let site : Site = knowing (site_of body) facts in
        let count : ℕ = statement_labels body site statement in
        let rest : label_after label count ≤ next = plan_rises (label_after label count) next steps are.1 few in
        let free : label + count ≡ label_after label count = omega (arith, rest, few) in
        let fits : at + count < 4294967295 = omega (arith, are.0, free, rest, few) in
        let same : other ≡ statement = same_Some other statement (sym there ∙ found) in
        let is : IsStatementForm (nodes_of body.tree.now) storage labels number.index statement tree =
        subst (λ (one : Statement). IsStatementForm (nodes_of body.tree.now) storage labels number.index one tree)
        same form in
        form_bound (statement_steps body site statement at) label at count (label_after label count) next are.0
        free rest high
        (form_labels body site at is fits)
        differ
        (λ held parts held_differ marks low apart.
        plan_bound (label_after label count) next steps are.1 few (omega (arith, high, free)) parts held_differ marks
        low apart)

    list_bound :
        {storage : Storage} {bound : ℕ} {called : List Bool} {facts : Facts} {range : Range} {list : List Item}
        {last : Here} {trees : TypedStatements} (label next : ℕ)
        (carried : IsListCarriedOut body called facts range list last)
        → IsListLabelled carried label next
        → next < 4294967295
        → base ≤ label
        → AreStatements (nodes_of body.tree.now) storage labels bound range.first range.count trees
        → Differ (labels_in_statements trees)
        → TreeBound body labels (labels_in_statements trees) label next list
    list_bound label next (ListPlanned all) are few high is differ = all_bound label next all are few high is differ

    all_bound :
        {storage : Storage} {bound : ℕ} {called : List Bool} {here last : Here} {first count : ℕ} {list : List Item}
        {trees : TypedStatements} (label next : ℕ)
        (carried : AreAllCarriedOut body called here first count list last)
        → AreAllLabelled carried label next
        → next < 4294967295
        → base ≤ label
        → AreStatements (nodes_of body.tree.now) storage labels bound first count trees
        → Differ (labels_in_statements trees)
        → TreeBound body labels (labels_in_statements trees) label next list
    all_bound label next NoStatements are few high AreNoStatements differ =
        record { once = tt; bound = λ one found. absurd (not_both false found refl) }
    all_bound {storage = storage} {bound = bound} label next
        (MoreStatements {number = number} found first others) are few high
        (AreMoreStatements {number = entry} {tree = tree} {others = trees} there is rest) differ =
        let more : are.0 ≤ next = all_rise are.0 next others are.2 few in
        let few_here : are.0 < 4294967295 = omega (arith, more, few) in
        let less : label ≤ are.0 = statement_rises label are.0 first are.1 few_here in
        let same : entry ≡ number = same_Some entry number (sym there ∙ found) in
        let this : IsStatement (nodes_of body.tree.now) storage labels bound number.index tree =
        subst (λ (one : StatementNumber). IsStatement (nodes_of body.tree.now) storage labels bound one.index tree)
        same is in
        as_tree
        (part_before less more high differ (λ one own. absurd own) (λ one own named. own)
        (statement_bound label are.0 first are.1 few_here high this
        (differ_first (labels_in tree) (labels_in_statements trees) differ))
        (as_plan
        (all_bound are.0 next others are.2 few (omega (arith, high, less)) rest
        (differ_later (labels_in tree) (labels_in_statements trees) differ))))

  -- the list of a body
  pub body_bound :
      {storage : Storage} {bound : ℕ} {called : List Bool} {facts : Facts} {range : Range} {list : List Item}
      {last : Here} {tree : TypedList} (label next : ℕ)
      (carried : IsListCarriedOut body called facts range list last)
      → IsListLabelled carried label next
      → next < 4294967295
      → base ≤ label
      → IsList (nodes_of body.tree.now) storage labels bound range tree
      → Differ (labels_in_list tree)
      → TreeBound body labels (labels_in_list tree) label next list
  body_bound label next carried are few high (IsListOf is) differ = list_bound label next carried are few high is differ
