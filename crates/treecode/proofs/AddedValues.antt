-- Lowering the expressions, targets and calls of a statement.
use Rattle.treecode.proofs.Prelude.{◌≡◌, ℕ, suc, ◌+◌, min, max, List, [], ◌∷◌, length, Option, Some, None, slice_get, refl, ap, ◌∙◌, subst, arith, Byte, count_of_arguments, height_of, height_of_iteration, height_of_optional, height_of_targets, TypedExpression, TypedTarget, TypedArguments, TypedIteration, Storage, ExpressionNumber, Range, Target, Iteration, IsCallOf, IsOptional, IsNoValue, IsSomeValue, AreTargets, NoTargets, MoreTargets, IsIteration, Nodes, height_of_call, arguments_in, expression_in, target_in, Grows, Walk, goal_with, goals_in, iteration_in, noted, optional_in, put_targets, targets_in, value_in}
use Rattle.typed_trees.specs.Charge.{height_of_arguments}
use Rattle.treecode.proofs.AddedExpressions.{Added, AreSound, AsArguments, AsExpression, AsTarget, Leads, arguments_added, expression_added, found_after, leads_nowhere, leads_on, sound_after, target_added}
use Rattle.treecode.proofs.Grown.{expression_in_stays, holds_with_more, target_stays}
use Rattle.treecode.proofs.KeptValues.{form_height, height_kept, target_height}
use Rattle.treecode.proofs.Maxima.{nothing_higher, two_heights}

-- nodes are added, and a height is noted
pub record Steps (walk after : Walk) (level : ℕ) : Type 0 where
  pub leads : Leads walk.nodes after.nodes
  pub labels : after.labels ≡ walk.labels
  pub count : after.label_count ≡ walk.label_count
  pub height : after.height ≡ max walk.height (min level 65535)

pub steps_on : {walk middle after : Walk} {one two : ℕ} → Steps walk middle one → Steps middle after two
    → Steps walk after (max one two)
steps_on {walk = walk} {middle = middle} {after = after} {one = one} {two = two} first second = record {
  leads = leads_on first.leads second.leads;
  labels = second.labels ∙ first.labels;
  count = second.count ∙ first.count;
  height = two_heights walk.height one two middle.height after.height first.height second.height;
}

pub steps_nowhere : (walk : Walk) → AreSound walk.nodes → Steps walk walk 0
steps_nowhere walk sound =
    record { leads = leads_nowhere walk.nodes sound; labels = refl; count = refl; height = nothing_higher walk.height }

-- one height is another
pub same_steps : {walk after : Walk} {one two : ℕ} → one ≡ two → Steps walk after one → Steps walk after two
same_steps {walk = walk} {after = after} e steps = subst (λ (height : ℕ). Steps walk after height) e steps

-- a value that was added has the property that it must have, and its height is noted
pub record Noted {A : Type 0} (P : Nodes → A → Type 0) (walk : Walk) (made : Walk × A)
    (height : ℕ) : Type 0 where
  pub steps : Steps walk made.0 height
  pub is : P (made.0).nodes made.1

module _ (storage : Storage) where
  pub value_added : (walk : Walk) (tree : TypedExpression) → AreSound walk.nodes
      → Noted (AsExpression storage tree) walk (value_in storage walk tree) (height_of tree)
  value_added walk tree sound = record {
    steps = record {
      leads = added.leads;
      labels = refl;
      count = refl;
      height = ap (λ (height : ℕ). max walk.height height)
          (height_kept made.0 storage added.leads.sound.keeps added.is);
    };
    is = added.is;
  }
    where
      made : Nodes × ExpressionNumber
      made = expression_in storage walk.nodes tree

      added : Added (AsExpression storage tree) walk.nodes made
      added = expression_added storage walk.nodes tree sound

  abbrev pub AsOptional : Option TypedExpression → Nodes → Option ExpressionNumber → Type 0
  AsOptional tree nodes number = IsOptional nodes storage number tree

  pub optional_added : (walk : Walk) (tree : Option TypedExpression) → AreSound walk.nodes
      → Noted (AsOptional tree) walk (optional_in storage walk tree) (height_of_optional tree)
  optional_added walk None sound = record { steps = steps_nowhere walk sound; is = IsNoValue }
  optional_added walk (Some tree) sound =
      let added : Noted (AsExpression storage tree) walk (value_in storage walk tree) (height_of tree)
      = value_added walk tree sound in
      record { steps = added.steps; is = IsSomeValue added.is }

  -- targets in a row, before they are put into the table
  data AreGoals (nodes : Nodes) : List Target → List TypedTarget → Type 0 where
    NoGoals : AreGoals nodes [] []
    MoreGoals : {target : Target} {targets : List Target} {tree : TypedTarget} {trees : List TypedTarget}
        → AsTarget storage tree nodes target → AreGoals nodes targets trees
        → AreGoals nodes (target ∷ targets) (tree ∷ trees)

  abbrev AsGoals : List TypedTarget → Nodes → List Target → Type 0
  AsGoals trees nodes targets = AreGoals nodes targets trees

  goals_added : (walk : Walk) (trees : List TypedTarget) → AreSound walk.nodes
      → Noted (AsGoals trees) walk (goals_in storage walk trees) (height_of_targets trees)
  goals_added walk [] sound = record { steps = steps_nowhere walk sound; is = NoGoals }
  goals_added walk (tree ∷ trees) sound =
      let added : Added (AsTarget storage tree) walk.nodes (target_in storage walk.nodes tree)
      = target_added storage walk.nodes tree sound in
      let given : Walk × Target = goal_with walk (target_in storage walk.nodes tree) in
      let step : Steps walk given.0 _ = record {
        leads = added.leads;
        labels = refl;
        count = refl;
        height = ap (λ (height : ℕ). max walk.height height)
            (target_height (target_in storage walk.nodes tree).0 storage added.leads.sound.keeps added.is);
      } in
      let rest : Noted (AsGoals trees) given.0 (goals_in storage given.0 trees) (height_of_targets trees)
      = goals_added given.0 trees added.leads.sound in
      record {
        steps = steps_on step rest.steps;
        is = MoreGoals (target_stays (given.0).nodes ((goals_in storage given.0 trees).0).nodes storage
            rest.steps.leads.grows _ rest.steps.leads.grows.count added.is) rest.is;
      }

  -- targets are in the table from a place on
  targets_stand : (nodes after : Nodes) (targets : List Target) (trees : List TypedTarget) (first : ℕ)
      → Grows nodes after
      → ((index : ℕ) (target : Target) → slice_get targets index ≡ Some target
      → slice_get after.targets (first + index) ≡ Some target)
      → AreGoals nodes targets trees → AreTargets after storage first (length targets) trees
  targets_stand nodes after [] trees first grows stand NoGoals = NoTargets
  targets_stand nodes after (target ∷ targets) trees first grows stand (MoreGoals is others) =
      MoreTargets
      (subst (λ (place : ℕ). slice_get after.targets place ≡ Some target) (omega arith) (stand 0 target refl))
      (target_stays nodes after storage grows _ grows.count is)
      (targets_stand nodes after targets _ (suc first) grows
      (λ index one e. subst (λ (place : ℕ). slice_get after.targets place ≡ Some one) (omega arith)
      (stand (suc index) one e)) others)

  abbrev pub AsTargets : List TypedTarget → Nodes → Range → Type 0
  AsTargets trees nodes range = AreTargets nodes storage range.first range.count trees

  pub targets_added : (walk : Walk) (trees : List TypedTarget) → AreSound walk.nodes
      → Noted (AsTargets trees) walk (targets_in storage walk trees) (height_of_targets trees)
  targets_added walk trees sound = record {
    steps = record {
      leads = leads_on added.steps.leads leads;
      labels = added.steps.labels;
      count = added.steps.count;
      height = added.steps.height;
    };
    is = targets_stand (made.0).nodes after made.1 trees (length ((made.0).nodes).targets) leads.grows
        (found_after ((made.0).nodes).targets made.1) added.is;
  }
    where
      made : Walk × List Target
      made = goals_in storage walk trees

      added : Noted (AsGoals trees) walk made (height_of_targets trees)
      added = goals_added walk trees sound

      after : Nodes
      after = ((put_targets made).0).nodes

      leads : Leads (made.0).nodes after
      leads = record {
        grows = record {
          expressions = λ index x e. e;
          statements = λ index x e. e;
          arguments = λ index x e. e;
          targets = holds_with_more ((made.0).nodes).targets made.1;
          lists = λ index x e. e;
          count = omega arith;
        };
        statements = omega arith;
        homes = refl;
        sound = sound_after (made.0).nodes after refl refl (λ index x e. e) added.steps.leads.sound;
      }

  -- the arguments of a call, with its height
  pub call_added : (walk : Walk) (trees : TypedArguments) → AreSound walk.nodes
      → Noted (AsArguments storage trees) walk (
        noted (record walk { nodes = (arguments_in storage walk.nodes trees).0 })
            (height_of_call (arguments_in storage walk.nodes trees).0
            (arguments_in storage walk.nodes trees).1),
        (arguments_in storage walk.nodes trees).1,
      )
      (1 + count_of_arguments trees + height_of_arguments trees)
  call_added walk trees sound = record {
    steps = record {
      leads = added.leads;
      labels = refl;
      count = refl;
      height = ap (λ (height : ℕ). max walk.height height)
          (form_height made.0 storage added.leads.sound.keeps
          (IsCallOf {procedure = 0} {scalar = Byte} {range = made.1} {trees = trees} added.is));
    };
    is = added.is;
  }
    where
      made : Nodes × Range
      made = arguments_in storage walk.nodes trees

      added : Added (AsArguments storage trees) walk.nodes made
      added = arguments_added storage walk.nodes trees sound

  abbrev pub AsIteration : TypedIteration → Nodes → Iteration → Type 0
  AsIteration tree nodes head = IsIteration nodes storage head tree

  one_noted : (start : ℕ) → max start 1 ≡ max start (min 1 65535)
  one_noted start = omega arith

  sum_is : (first last step : ℕ) → max 1 (max (max first last) step) ≡ max 1 (max first (max last step))
  sum_is first last step = omega arith

  pub iteration_added : (walk : Walk) (head : TypedIteration) → AreSound walk.nodes
      → Noted (AsIteration head) walk (iteration_in storage walk head) (height_of_iteration head)
  iteration_added walk head sound = record {
    steps = same_steps
        (sum_is (height_of head.first) (height_of head.last) (height_of_optional head.step))
        (steps_on begun (steps_on (steps_on first.steps last.steps) step.steps));
    is = record {
      variable = refl;
      scalar = refl;
      first = expression_in_stays _ _ storage step.steps.leads.grows
          (expression_in_stays _ _ storage last.steps.leads.grows first.is);
      last = expression_in_stays _ _ storage step.steps.leads.grows last.is;
      step = step.is;
    };
  }
    where
      start : Walk
      start = noted walk 1

      begun : Steps walk start 1
      begun = record {
        leads = leads_nowhere walk.nodes sound;
        labels = refl;
        count = refl;
        height = one_noted walk.height;
      }

      first : Noted (AsExpression storage head.first) start (value_in storage start head.first)
          (height_of head.first)
      first = value_added start head.first sound

      given : Walk
      given = (value_in storage start head.first).0

      last : Noted (AsExpression storage head.last) given (value_in storage given head.last)
          (height_of head.last)
      last = value_added given head.last first.steps.leads.sound

      passed : Walk
      passed = (value_in storage given head.last).0

      step : Noted (AsOptional head.step) passed (optional_in storage passed head.step)
          (height_of_optional head.step)
      step = optional_added passed head.step last.steps.leads.sound
