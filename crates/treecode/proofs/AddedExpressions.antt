-- Lowering an expression adds nodes that represent it, and keeps the nodes before.
use Rattle.treecode.proofs.Prelude.{◌≡◌, ℕ, zero, suc, ◌+◌, ◌<◌, ◌≤◌, List, [], ◌∷◌, ◌++◌, length, Option, Some, slice_get, refl, sym, ap, ◌∙◌, subst, arith, type_of, TypedExpression, NumberNode, ValueNode, LocationNode, ListNode, ConversionNode, AssignmentNode, UnaryNode, BinaryNode, CallNode, FunctionNode, ShiftNode, InputNode, TypedReference, PartOf, Subscript, NoSubscript, At, TypedTarget, StoredIn, SentTo, TypedArguments, NoArguments, MoreArguments, Storage, Expression, ExpressionForm, ExpressionNumber, Range, Reference, IndexNode, Target, IsExpression, IsNode, IsForm, IsNumber, IsValue, IsLocation, IsConstantList, IsConversion, IsEmbedded, IsUnary, IsBinary, IsCallOf, IsFunction, IsShift, IsInput, IsReference, IsPart, IsSubscript, IsAbsent, IsIndex, IsTarget, IsStored, IsSent, AreArguments, AreNone, AreMore, Nodes, KeepTraits, expression_of, element_of, expression_in, form_in, numbers_in, part_of, put_arguments, put_expression, reference_in, subscript_in, target_in, with_both, with_item, Grows, Holds, NumbersRise, PartsAreBelow, ReferenceIsBelow, SubscriptIsBelow, TargetIsBelow, got_first}
use Rattle.treecode.specs.declared.expression.ExpressionForm.TheVariants as forms
use Rattle.treecode.specs.declared.reference.Target.TheVariants as targets
pub use Rattle.treecode.specs.internal.Sound.{AreSound, Leads}
use Rattle.treecode.proofs.Grown.{expression_stays, form_stays, holds_with_more, subscript_stays}
use Rattle.treecode.proofs.SameMemory.{all_same}
use Rattle.treecode.proofs.TraitsKept.{numbers_rise, own_scalar, traits_kept}

pub grows_not : (nodes : Nodes) → Grows nodes nodes
grows_not nodes = record {
  expressions = λ index x e. e;
  statements = λ index x e. e;
  arguments = λ index x e. e;
  targets = λ index x e. e;
  lists = λ index x e. e;
  count = omega arith;
}

pub leads_nowhere : (nodes : Nodes) → AreSound nodes → Leads nodes nodes
leads_nowhere nodes sound =
    record { grows = grows_not nodes; statements = omega arith; homes = refl; sound = sound }

pub at_most_in_turn : (one two three : ℕ) → one ≤ two → two ≤ three → one ≤ three
at_most_in_turn one two three first second = omega arith

pub leads_on : {one two three : Nodes} → Leads one two → Leads two three → Leads one three
leads_on {one = one} {two = two} {three = three} first second = record {
  grows = record {
    expressions = λ index x e. second.grows.expressions index x (first.grows.expressions index x e);
    statements = λ index x e. second.grows.statements index x (first.grows.statements index x e);
    arguments = λ index x e. second.grows.arguments index x (first.grows.arguments index x e);
    targets = λ index x e. second.grows.targets index x (first.grows.targets index x e);
    lists = λ index x e. second.grows.lists index x (first.grows.lists index x e);
    count = at_most_in_turn (length one.expressions) (length two.expressions) (length three.expressions)
        first.grows.count second.grows.count;
  };
  statements =
      at_most_in_turn (length one.statements) (length two.statements) (length three.statements)
      first.statements second.statements;
  homes = second.homes ∙ first.homes;
  sound = second.sound;
}

-- the arguments of a call are also below a bound with others after them
given_below : (before after : Nodes) → Holds before.arguments after.arguments
    → (bound : ℕ) (form : ExpressionForm)
    → PartsAreBelow before bound form → PartsAreBelow after bound form
given_below before after holds bound (forms.Number number) below = tt
given_below before after holds bound (forms.Value reference) below = below
given_below before after holds bound (forms.Location reference) below = below
given_below before after holds bound (forms.List offset) below = tt
given_below before after holds bound (forms.Conversion inner) below = below
given_below before after holds bound (forms.Assignment target value) below = below
given_below before after holds bound (forms.Unary operator operand) below = below
given_below before after holds bound (forms.Binary operands operator left right) below = below
given_below before after holds bound (forms.Call procedure range) below =
    λ index less. (
      (below index less).0,
      holds (range.first + index) (below index less).0 (below index less).1,
      (below index less).2,
    )
given_below before after holds bound (forms.Function function operand) below = below
given_below before after holds bound (forms.Shift function value count) below = below
given_below before after holds bound (forms.Input port) below = tt

-- nodes are also sound with more entries in the tables other than that of expressions
pub sound_after : (before after : Nodes) → after.homes ≡ before.homes → after.expressions ≡ before.expressions
    → Holds before.arguments after.arguments → AreSound before → AreSound after
sound_after before after homes expressions holds sound = record { keeps = keeps; rises = rises }
  where
    found : (number : ℕ) → slice_get after.expressions number ≡ slice_get before.expressions number
    found number = ap (λ (all : List Expression). slice_get all number) expressions

    rises : NumbersRise after
    rises number expression e =
        given_below before after holds number expression.form
        (sound.rises number expression (sym (found number) ∙ e))

    keeps : KeepTraits after
    keeps number expression e =
        sound.keeps number expression (sym (found number) ∙ e)
        ∙ sym
        (all_same before after number homes (λ (one : ℕ) less. found one) holds sound.rises
        expression.traits.scalar expression.form
        (sound.rises number expression (sym (found number) ∙ e)))

-- a value that was added has the property that it must have
pub record Added {A : Type 0} (P : Nodes → A → Type 0) (nodes : Nodes) (made : Nodes × A) : Type 0 where
  pub leads : Leads nodes made.0
  pub is : P made.0 made.1

pub item_added : {A B : Type 0} {P : Nodes → A → Type 0} (Q : Nodes → B → Type 0) (of : A → B)
    (nodes : Nodes) (made : Nodes × A)
    → Added P nodes made → (P made.0 made.1 → Q made.0 (of made.1)) → Added Q nodes (with_item of made)
item_added Q of nodes made added then = record { leads = added.leads; is = then added.is }

pub both_added : {A B C : Type 0} {P : Nodes → A → Type 0} {Q : Nodes → B → Type 0} (R : Nodes → C → Type 0)
    (of : A → B → C) (nodes : Nodes) (first : Nodes × A) (second : Nodes → Nodes × B)
    → Added P nodes first → Added Q first.0 (second first.0)
    → (Leads first.0 (second first.0).0 → P first.0 first.1 → Q (second first.0).0 (second first.0).1
    → R (second first.0).0 (of first.1 (second first.0).1))
    → Added R nodes (with_both of first second)
both_added R of nodes first second one two then = record {
  leads = leads_on one.leads two.leads;
  is = then two.leads one.is two.is;
}

pub one_more : {A : Type 0} (xs : List A) (last : A) → length (xs ++ last ∷ []) ≡ suc (length xs)
one_more [] last = refl
one_more (first ∷ xs) last = ap suc (one_more xs last)

-- an item of a list is also in the list after another one
pub found_after : {A : Type 0} (before xs : List A) (index : ℕ) (x : A) → slice_get xs index ≡ Some x
    → slice_get (before ++ xs) (length before + index) ≡ Some x
found_after [] xs index x e = subst (λ (at : ℕ). slice_get xs at ≡ Some x) (omega arith) e
found_after (first ∷ before) xs index x e =
    subst (λ (at : ℕ). slice_get (first ∷ (before ++ xs)) at ≡ Some x) (shifted (length before) index)
    (found_after before xs index x e)
  where
    shifted : (count index : ℕ) → suc (count + index) ≡ suc count + index
    shifted count index = omega arith

mutual
  -- the parts of a form that is a tree have numbers below the bound
  pub parts_below : {nodes : Nodes} {storage : Storage} {bound : ℕ} {form : ExpressionForm}
      {tree : TypedExpression}
      → IsForm nodes storage bound form tree → PartsAreBelow nodes bound form
  parts_below IsNumber = tt
  parts_below (IsValue reference) = reference_below reference
  parts_below (IsLocation reference) = reference_below reference
  parts_below IsConstantList = tt
  parts_below (IsConversion inner) = number_below inner
  parts_below (IsEmbedded target value) = (target_below target, number_below value)
  parts_below (IsUnary operand) = number_below operand
  parts_below (IsBinary left right) = (number_below left, number_below right)
  parts_below (IsCallOf given) = arguments_below given
  parts_below (IsFunction operand) = number_below operand
  parts_below (IsShift value count) = (number_below value, number_below count)
  parts_below IsInput = tt

  number_below : {nodes : Nodes} {storage : Storage} {bound number : ℕ} {tree : TypedExpression}
      → IsExpression nodes storage bound number tree → number < bound
  number_below (IsNode below at scalar form) = below

  reference_below : {nodes : Nodes} {storage : Storage} {bound : ℕ} {reference : Reference}
      {part : TypedReference}
      → IsReference nodes storage bound reference part → ReferenceIsBelow bound reference
  reference_below (IsPart first second) = (subscript_below first, subscript_below second)

  subscript_below : {nodes : Nodes} {storage : Storage} {bound : ℕ} {index : Option IndexNode}
      {subscript : Subscript}
      → IsSubscript nodes storage bound index subscript → SubscriptIsBelow bound index
  subscript_below IsAbsent = tt
  subscript_below (IsIndex index) = number_below index

  target_below : {nodes : Nodes} {storage : Storage} {bound : ℕ} {target : Target} {tree : TypedTarget}
      → IsTarget nodes storage bound target tree → TargetIsBelow bound target
  target_below (IsStored reference) = reference_below reference
  target_below IsSent = tt

  arguments_below : {nodes : Nodes} {storage : Storage} {bound first count : ℕ} {trees : TypedArguments}
      → AreArguments nodes storage bound first count trees
      → (index : ℕ) → index < count
      → (number : ExpressionNumber) × (slice_get nodes.arguments (first + index) ≡ Some number)
      × (number.index < bound)
  arguments_below AreNone index less = absurd (omega arith)
  arguments_below {nodes = nodes} (AreMore {first = first} {number = number} at argument others) zero less = (
    number,
    subst (λ (place : ℕ). slice_get nodes.arguments place ≡ Some number) (omega arith) at,
    number_below argument,
  )
  arguments_below {nodes = nodes} (AreMore {first = first} at argument others) (suc index) less =
      let found : _ = arguments_below others index (omega arith) in (
        found.0,
        subst (λ (place : ℕ). slice_get nodes.arguments place ≡ Some found.0) (omega arith) found.1,
        found.2,
      )

module _ (storage : Storage) where
  abbrev AsForm : TypedExpression → Nodes → ExpressionForm → Type 0
  AsForm tree nodes form = IsForm nodes storage (length nodes.expressions) form tree

  abbrev pub AsExpression : TypedExpression → Nodes → ExpressionNumber → Type 0
  AsExpression tree nodes number = IsExpression nodes storage (length nodes.expressions) number.index tree

  abbrev AsReference : TypedReference → Nodes → Reference → Type 0
  AsReference part nodes reference = IsReference nodes storage (length nodes.expressions) reference part

  abbrev AsSubscript : Subscript → Nodes → Option IndexNode → Type 0
  AsSubscript subscript nodes index = IsSubscript nodes storage (length nodes.expressions) index subscript

  abbrev pub AsTarget : TypedTarget → Nodes → Target → Type 0
  AsTarget tree nodes target = IsTarget nodes storage (length nodes.expressions) target tree

  -- an expression is added with its own traits
  put_is : (nodes : Nodes) (tree : TypedExpression) (made : Nodes × ExpressionForm)
      → Added (AsForm tree) nodes made → Added (AsExpression tree) nodes (put_expression (type_of tree) made)
  put_is nodes tree made added = record {
    leads = leads_on added.leads leads;
    is = IsNode below (got_first xs new []) (own_scalar made.0 (type_of tree) made.1)
        (form_stays made.0 after storage leads.grows (length xs) (omega arith) added.is);
  }
    where
      xs : List Expression
      xs = (made.0).expressions

      new : Expression
      new = expression_of made.0 (type_of tree) made.1

      after : Nodes
      after = (put_expression (type_of tree) made).0

      parts : PartsAreBelow made.0 (length xs) made.1
      parts = parts_below added.is

      below : length xs < length (xs ++ new ∷ [])
      below = let e : _ = one_more xs new in omega arith

      leads : Leads made.0 after
      leads = record {
        grows = record {
          expressions = holds_with_more xs (new ∷ []);
          statements = λ index x e. e;
          arguments = λ index x e. e;
          targets = λ index x e. e;
          lists = λ index x e. e;
          count = let e : _ = one_more xs new in omega arith;
        };
        statements = omega arith;
        homes = refl;
        sound = record {
          keeps = traits_kept made.0 (type_of tree) made.1 added.leads.sound.rises parts
              added.leads.sound.keeps;
          rises = numbers_rise made.0 (type_of tree) made.1 added.leads.sound.rises parts;
        };
      }

  -- numbers of expressions that are arguments
  data AreNumbers (nodes : Nodes) : List ExpressionNumber → TypedArguments → Type 0 where
    NoNumbers : AreNumbers nodes [] NoArguments
    MoreNumbers : {number : ExpressionNumber} {numbers : List ExpressionNumber} {tree : TypedExpression}
        {others : TypedArguments}
        → AsExpression tree nodes number → AreNumbers nodes numbers others
        → AreNumbers nodes (number ∷ numbers) (MoreArguments tree others)

  abbrev AreNumbersOf : TypedArguments → Nodes → List ExpressionNumber → Type 0
  AreNumbersOf trees nodes numbers = AreNumbers nodes numbers trees

  abbrev pub AsArguments : TypedArguments → Nodes → Range → Type 0
  AsArguments trees nodes range =
      AreArguments nodes storage (length nodes.expressions) range.first range.count trees

  -- the numbers are in the table from a place on
  numbers_stand : (nodes after : Nodes) (numbers : List ExpressionNumber) (trees : TypedArguments) (first : ℕ)
      → Grows nodes after
      → ((index : ℕ) (number : ExpressionNumber) → slice_get numbers index ≡ Some number
      → slice_get after.arguments (first + index) ≡ Some number)
      → AreNumbers nodes numbers trees
      → AreArguments after storage (length after.expressions) first (length numbers) trees
  numbers_stand nodes after [] trees first grows stand NoNumbers = AreNone
  numbers_stand nodes after (number ∷ numbers) trees first grows stand (MoreNumbers is others) =
      AreMore
      (subst (λ (place : ℕ). slice_get after.arguments place ≡ Some number) (omega arith)
      (stand 0 number refl))
      (expression_stays nodes after storage grows _ grows.count is)
      (numbers_stand nodes after numbers _ (suc first) grows
      (λ index one e. subst (λ (place : ℕ). slice_get after.arguments place ≡ Some one) (omega arith)
      (stand (suc index) one e)) others)

  arguments_put : (nodes : Nodes) (trees : TypedArguments) (made : Nodes × List ExpressionNumber)
      → Added (AreNumbersOf trees) nodes made → Added (AsArguments trees) nodes (put_arguments made)
  arguments_put nodes trees made added = record {
    leads = leads_on added.leads leads;
    is = numbers_stand made.0 after made.1 trees (length (made.0).arguments) leads.grows
        (found_after (made.0).arguments made.1) added.is;
  }
    where
      after : Nodes
      after = (put_arguments made).0

      leads : Leads made.0 after
      leads = record {
        grows = record {
          expressions = λ index x e. e;
          statements = λ index x e. e;
          arguments = holds_with_more (made.0).arguments made.1;
          targets = λ index x e. e;
          lists = λ index x e. e;
          count = omega arith;
        };
        statements = omega arith;
        homes = refl;
        sound = sound_after made.0 after refl refl
            (holds_with_more (made.0).arguments made.1) added.leads.sound;
      }

  mutual
    form_added : (nodes : Nodes) (tree : TypedExpression) → AreSound nodes
        → Added (AsForm tree) nodes (form_in storage nodes tree)
    form_added nodes (NumberNode scalar number origin) sound =
        record { leads = leads_nowhere nodes sound; is = IsNumber }
    form_added nodes (ValueNode scalar reference) sound =
        item_added (AsForm (ValueNode scalar reference)) forms.Value nodes
        (reference_in storage nodes reference)
        (reference_added nodes reference sound) (λ is. IsValue is)
    form_added nodes (LocationNode reference) sound =
        item_added (AsForm (LocationNode reference)) forms.Location nodes
        (reference_in storage nodes reference)
        (reference_added nodes reference sound) (λ is. IsLocation is)
    form_added nodes (ListNode list) sound =
        record { leads = leads_nowhere nodes sound; is = IsConstantList }
    form_added nodes (ConversionNode scalar inner) sound =
        item_added (AsForm (ConversionNode scalar inner)) forms.Conversion nodes
        (expression_in storage nodes inner)
        (put_is nodes inner (form_in storage nodes inner) (form_added nodes inner sound))
        (λ is. IsConversion is)
    form_added nodes (AssignmentNode target value) sound =
        let one : Added (AsExpression value) nodes (expression_in storage nodes value)
        = put_is nodes value (form_in storage nodes value) (form_added nodes value sound) in
        both_added (AsForm (AssignmentNode target value)) (λ number to. forms.Assignment to number) nodes
        (expression_in storage nodes value) (λ given. target_in storage given target)
        one
        (target_added (expression_in storage nodes value).0 target one.leads.sound)
        (λ leads is to. IsEmbedded to (expression_stays (expression_in storage nodes value).0
        (target_in storage (expression_in storage nodes value).0 target).0 storage leads.grows _
        leads.grows.count is))
    form_added nodes (UnaryNode scalar operator operand) sound =
        item_added (AsForm (UnaryNode scalar operator operand)) (forms.Unary operator) nodes
        (expression_in storage nodes operand)
        (put_is nodes operand (form_in storage nodes operand) (form_added nodes operand sound))
        (λ is. IsUnary is)
    form_added nodes (BinaryNode operands operator left right) sound =
        let one : Added (AsExpression left) nodes (expression_in storage nodes left)
        = put_is nodes left (form_in storage nodes left) (form_added nodes left sound) in
        let given : Nodes = (expression_in storage nodes left).0 in
        both_added (AsForm (BinaryNode operands operator left right)) (forms.Binary operands operator) nodes
        (expression_in storage nodes left) (λ given. expression_in storage given right)
        one
        (put_is given right (form_in storage given right) (form_added given right one.leads.sound))
        (λ leads is other. IsBinary (expression_stays given (expression_in storage given right).0
        storage leads.grows _ leads.grows.count is) other)
    form_added nodes (CallNode procedure scalar values) sound =
        item_added (AsForm (CallNode procedure scalar values)) (forms.Call procedure) nodes
        (put_arguments (numbers_in storage nodes values))
        (arguments_put nodes values (numbers_in storage nodes values) (numbers_added nodes values sound))
        (λ is. IsCallOf is)
    form_added nodes (FunctionNode function operand) sound =
        item_added (AsForm (FunctionNode function operand)) (forms.Function function) nodes
        (expression_in storage nodes operand)
        (put_is nodes operand (form_in storage nodes operand) (form_added nodes operand sound))
        (λ is. IsFunction is)
    form_added nodes (ShiftNode scalar function value count) sound =
        let one : Added (AsExpression value) nodes (expression_in storage nodes value)
        = put_is nodes value (form_in storage nodes value) (form_added nodes value sound) in
        let given : Nodes = (expression_in storage nodes value).0 in
        both_added (AsForm (ShiftNode scalar function value count)) (forms.Shift function) nodes
        (expression_in storage nodes value) (λ given. expression_in storage given count)
        one
        (put_is given count (form_in storage given count) (form_added given count one.leads.sound))
        (λ leads is by. IsShift (expression_stays given (expression_in storage given count).0
        storage leads.grows _ leads.grows.count is) by)
    form_added nodes (InputNode port) sound =
        record { leads = leads_nowhere nodes sound; is = IsInput }

    reference_added : (nodes : Nodes) (part : TypedReference) → AreSound nodes
        → Added (AsReference part) nodes (reference_in storage nodes part)
    reference_added nodes (PartOf object subscript member offset member_subscript) sound =
        let one : Added (AsSubscript subscript) nodes (subscript_in storage nodes subscript)
        = subscript_added nodes subscript sound in
        let given : Nodes = (subscript_in storage nodes subscript).0 in
        both_added (AsReference (PartOf object subscript member offset member_subscript))
        (part_of object offset) nodes
        (subscript_in storage nodes subscript) (λ given. subscript_in storage given member_subscript)
        one
        (subscript_added given member_subscript one.leads.sound)
        (λ leads first second. IsPart (subscript_stays given (subscript_in storage given member_subscript).0
        storage leads.grows _ leads.grows.count first) second)

    subscript_added : (nodes : Nodes) (subscript : Subscript) → AreSound nodes
        → Added (AsSubscript subscript) nodes (subscript_in storage nodes subscript)
    subscript_added nodes NoSubscript sound =
        record { leads = leads_nowhere nodes sound; is = IsAbsent }
    subscript_added nodes (At stride count index) sound =
        item_added (AsSubscript (At stride count index)) (element_of stride) nodes
        (expression_in storage nodes index)
        (put_is nodes index (form_in storage nodes index) (form_added nodes index sound))
        (λ is. IsIndex is)

    pub target_added : (nodes : Nodes) (target : TypedTarget) → AreSound nodes
        → Added (AsTarget target) nodes (target_in storage nodes target)
    target_added nodes (StoredIn from to reference) sound =
        item_added (AsTarget (StoredIn from to reference)) (targets.Stored from to) nodes
        (reference_in storage nodes reference)
        (reference_added nodes reference sound) (λ is. IsStored is)
    target_added nodes (SentTo from port) sound =
        record { leads = leads_nowhere nodes sound; is = IsSent }

    numbers_added : (nodes : Nodes) (trees : TypedArguments) → AreSound nodes
        → Added (AreNumbersOf trees) nodes (numbers_in storage nodes trees)
    numbers_added nodes NoArguments sound = record { leads = leads_nowhere nodes sound; is = NoNumbers }
    numbers_added nodes (MoreArguments first others) sound =
        let one : Added (AsExpression first) nodes (expression_in storage nodes first)
        = put_is nodes first (form_in storage nodes first) (form_added nodes first sound) in
        let given : Nodes = (expression_in storage nodes first).0 in
        both_added (AreNumbersOf (MoreArguments first others)) (λ number more. number ∷ more) nodes
        (expression_in storage nodes first) (λ given. numbers_in storage given others)
        one
        (numbers_added given others one.leads.sound)
        (λ leads is rest. MoreNumbers (expression_stays given (numbers_in storage given others).0
        storage leads.grows _ leads.grows.count is) rest)

  -- an expression that is added is that expression, and the nodes before are kept
  pub expression_added : (nodes : Nodes) (tree : TypedExpression) → AreSound nodes
      → Added (AsExpression tree) nodes (expression_in storage nodes tree)
  expression_added nodes tree sound =
      put_is nodes tree (form_in storage nodes tree) (form_added nodes tree sound)

  pub arguments_added : (nodes : Nodes) (trees : TypedArguments) → AreSound nodes
      → Added (AsArguments trees) nodes (put_arguments (numbers_in storage nodes trees))
  arguments_added nodes trees sound =
      arguments_put nodes trees (numbers_in storage nodes trees) (numbers_added nodes trees sound)
