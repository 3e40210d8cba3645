-- The queries of code about nodes, in terms of trees.
use Rattle.task_laws.proofs.Prelude.{◌≡◌, ℕ, ◌&&◌, ◌||◌, true, false, Option, Some, None, is_some, slice_get, refl, sym, ap, ◌∙◌, length, subst, option_map_or, TypedModule, TypedExpression, NumberNode, ValueNode, LocationNode, ListNode, ConversionNode, AssignmentNode, UnaryNode, BinaryNode, CallNode, FunctionNode, ShiftNode, InputNode, TypedReference, PartOf, Subscript, NoSubscript, At, TypesHold, TypesHoldInReference, TypesHoldInSubscript, Within, value, SourceState, Ended, More, Outside, Outcome, Gave, Stopped, State, Expression, ExpressionNumber, Place, Number, Code, Data, External, known_number, IsExpression, nodes_of, HaveOperands, PartHasOperands, SubscriptHasOperands, free_at, known_at, no_traits, quiet_at, storing_nothing_at, known_kept, AreAlike, AreSame, BothOutside, GoesOutside, IsQuiet, exchanged, in_order, quiet_kept, known_gives, operands_exchanged, quiet_value, Does, Loaded, place_at, Site, expression, is_free, is_quiet, known, may_exchange, number, stores_nothing, Facts, knowing, Context, IsSound, nodes_in}
use Rattle.treecode_laws.specs.internal.Evaluations as evaluations
use Rattle.steps8080.proofs.SiteTraits.{known_is, number_is}
use Rattle.task_laws.proofs.Machine.Stages.{does_same}

-- operands of the types that are asked of them are those that known values ask for
mutual
  pub have_operands : (typed : TypedModule) (within : Within) (tree : TypedExpression)
      → TypesHold typed within tree
      → HaveOperands (length typed.constants.lists) tree
  have_operands typed within (NumberNode scalar number origin) hold = tt
  have_operands typed within (ValueNode scalar reference) hold =
      part_has_operands typed within reference hold.1
  have_operands typed within (LocationNode reference) hold = part_has_operands typed within reference hold.1
  have_operands typed within (ListNode list) hold = hold
  have_operands typed within (ConversionNode scalar inner) hold = have_operands typed within inner hold
  have_operands typed within (AssignmentNode target inner) hold = have_operands typed within inner hold.0
  have_operands typed within (UnaryNode scalar operator operand) hold =
      have_operands typed within operand hold.0
  have_operands typed within (BinaryNode operands operator left right) hold = (
    hold.1.1,
    hold.2.1,
    have_operands typed within left hold.1.0,
    have_operands typed within right hold.2.0,
  )
  have_operands typed within (CallNode procedure scalar given) hold = tt
  have_operands typed within (FunctionNode function operand) hold = have_operands typed within operand hold
  have_operands typed within (ShiftNode scalar function moved count) hold = (
    have_operands typed within moved hold.1.0,
    have_operands typed within count hold.2.0,
  )
  have_operands typed within (InputNode port) hold = tt

  pub part_has_operands : (typed : TypedModule) (within : Within) (part : TypedReference)
      → TypesHoldInReference typed within part
      → PartHasOperands (length typed.constants.lists) part
  part_has_operands typed within (PartOf object subscript member offset member_subscript) hold = (
    subscript_has_operands typed within subscript hold.0,
    subscript_has_operands typed within member_subscript hold.1,
  )

  pub subscript_has_operands : (typed : TypedModule) (within : Within) (subscript : Subscript)
      → TypesHoldInSubscript typed within subscript
      → SubscriptHasOperands (length typed.constants.lists) subscript
  subscript_has_operands typed within NoSubscript hold = tt
  subscript_has_operands typed within (At stride count index) hold = have_operands typed within index hold.0

-- the traits of a node at a site are those of tree code
pub quiet_is : (site : Site) (of : ExpressionNumber) → is_quiet site of ≡ quiet_at (nodes_of site.tree.now) of
unfolding is_quiet expression
quiet_is site of = by (slice_get site.tree.now.expressions.items of.index)
  where
    by : (found : Option Expression)
        → elim found [ Some one ↦ one.traits.is_quiet | None ↦ false ]
        ≡ (option_map_or (λ (one : Expression). one.traits) found no_traits).is_quiet
    by (Some one) = refl
    by None = refl

pub storing_is :
    (site : Site) (of : ExpressionNumber)
    → stores_nothing site of ≡ storing_nothing_at (nodes_of site.tree.now) of
unfolding stores_nothing expression
storing_is site of = by (slice_get site.tree.now.expressions.items of.index)
  where
    by : (found : Option Expression)
        → elim found [ Some one ↦ one.traits.stores_nothing | None ↦ false ]
        ≡ (option_map_or (λ (one : Expression). one.traits) found no_traits).stores_nothing
    by (Some one) = refl
    by None = refl

pub free_is : (site : Site) (of : ExpressionNumber) → is_free site of ≡ free_at (nodes_of site.tree.now) of
unfolding is_free expression
free_is site of = by (slice_get site.tree.now.expressions.items of.index)
  where
    by : (found : Option Expression)
        → elim found [ Some one ↦ one.traits.is_free | None ↦ false ]
        ≡ (option_map_or (λ (one : Expression). one.traits) found no_traits).is_free
    by (Some one) = refl
    by None = refl

-- a number that is known is a known place
pub place_of_number : (found : Option Place) (n : ℕ) → known_number found ≡ Some n → found ≡ Some (Number n)
place_of_number (Some (Number m)) n same =
    ap (λ (one : Option ℕ). option_map_or (λ k. Some (Number k)) one None) same
place_of_number (Some (Code offset)) n same =
    ap (λ (one : Option ℕ). option_map_or (λ k. Some (Number k)) one (Some (Code offset))) same
place_of_number (Some (Data offset)) n same =
    ap (λ (one : Option ℕ). option_map_or (λ k. Some (Number k)) one (Some (Data offset))) same
place_of_number (Some (External offset name)) n same =
    ap (λ (one : Option ℕ). option_map_or (λ k. Some (Number k)) one (Some (External offset name))) same
place_of_number None n same = ap (λ (one : Option ℕ). option_map_or (λ k. Some (Number k)) one None) same

pub exchange_is :
    (site : Site) (left right : ExpressionNumber)
    → may_exchange site left right ≡ evaluations.may_exchange (nodes_of site.tree.now) left right
unfolding may_exchange
exchange_is site left right =
    ap (λ (found : Option Place). is_some found || (is_quiet site left && stores_nothing site right))
    (known_is site left)
    ∙ ap (λ b. is_some (known_at (nodes_of site.tree.now) left) || (b && stores_nothing site right))
    (quiet_is site left)
    ∙ ap (λ b. is_some (known_at (nodes_of site.tree.now) left)
    || (quiet_at (nodes_of site.tree.now) left && b)) (storing_is site right)

-- the value of a tree in a context
abbrev pub value_in : Context → TypedExpression → SourceState → Outcome ℕ
value_in context tree s = value context.later context.activation.around tree s

-- an expression that is a known place is that place
pub known_means :
    {context : Context} {bound : ℕ} {of : ExpressionNumber} {tree : TypedExpression}
    (facts : Facts) (place : Place)
    → IsSound context
    → IsExpression (nodes_in context) context.storage bound of.index tree
    → TypesHold context.typed context.within tree
    → known (knowing context.site facts) of ≡ Some place
    → (s : SourceState) → value_in context tree s ≡ Gave (place_at context.activation.layout place) s
known_means {context = context} {of = of} {tree = tree} facts place sound node types is s =
    known_gives context.activation.around (nodes_in context) context.storage
    (place_at context.activation.layout)
    sound.resolves context.later tree place
    (subst (λ (lists : ℕ). HaveOperands lists tree) (sym sound.lists)
    (have_operands context.typed context.within tree types))
    (sym (known_kept (nodes_in context) context.storage sound.lowered.traits node)
    ∙ sym (known_is (knowing context.site facts) of) ∙ is) s

-- an expression that is a number is that number
pub number_means :
    {context : Context} {bound : ℕ} {of : ExpressionNumber} {tree : TypedExpression} (facts : Facts) (n : ℕ)
    → IsSound context
    → IsExpression (nodes_in context) context.storage bound of.index tree
    → TypesHold context.typed context.within tree
    → number (knowing context.site facts) of ≡ Some n
    → (s : SourceState) → value_in context tree s ≡ Gave n s
number_means {context = context} {of = of} {tree = tree} facts n sound node types is s =
    known_means facts (Number n) sound node types
    (known_is (knowing context.site facts) of
    ∙ place_of_number (known_at (nodes_in context) of) n
    (sym (number_is (knowing context.site facts) of) ∙ is)) s

-- an outcome is carried out if one that may replace it is
pub does_alike :
    {A : Type 0} {loaded : Loaded} {budget more : ℕ} {from : State} (outcome other : Outcome A)
    {Good : A → SourceState → State → Type 0}
    → AreAlike outcome other
    → Does loaded budget more from other Good
    → Does loaded budget more from outcome Good
does_alike outcome other (AreSame same) does = does_same other same does
does_alike (Stopped (Outside reason) s) other (BothOutside one two) does = record { told = tt }
does_alike (Stopped Ended s) other (BothOutside one two) does = absurd one
does_alike (Stopped More s) other (BothOutside one two) does = absurd one
does_alike (Gave found s) other (BothOutside one two) does = absurd one

-- where the second of two operands may be evaluated first, code may do so
pub does_exchanged :
    {A : Type 0} {loaded : Loaded} {budget more : ℕ} {from : State}
    {context : Context} {left_bound right_bound : ℕ} {left right : ExpressionNumber}
    {first second : TypedExpression}
    {Good : A → SourceState → State → Type 0}
    (facts : Facts) (go : ℕ → ℕ → SourceState → Outcome A) (s : SourceState)
    → IsSound context
    → IsExpression (nodes_in context) context.storage left_bound left.index first
    → IsExpression (nodes_in context) context.storage right_bound right.index second
    → TypesHold context.typed context.within first
    → may_exchange (knowing context.site facts) left right ≡ true
    → Does loaded budget more from (exchanged (value_in context first) (value_in context second) go s) Good
    → Does loaded budget more from (in_order (value_in context first) (value_in context second) go s) Good
does_exchanged {context = context} {left = left} {right = right} {first = first} {second = second} facts go s
    sound one two types may does =
    does_alike (in_order (value_in context first) (value_in context second) go s)
    (exchanged (value_in context first) (value_in context second) go s)
    (operands_exchanged (nodes_in context) context.storage sound.lowered.traits context.activation.around
    (place_at context.activation.layout) sound.resolves context.later one two
    (subst (λ (lists : ℕ). HaveOperands lists first) (sym sound.lists)
    (have_operands context.typed context.within first types))
    (sym (exchange_is (knowing context.site facts) left right) ∙ may) go s)
    does

-- an expression that is quiet at a site changes nothing
pub quiet_means :
    {context : Context} {bound : ℕ} {of : ExpressionNumber} {tree : TypedExpression} (facts : Facts)
    → IsSound context
    → IsExpression (nodes_in context) context.storage bound of.index tree
    → is_quiet (knowing context.site facts) of ≡ true
    → IsQuiet (λ (s : SourceState). value_in context tree s)
quiet_means {context = context} {of = of} {tree = tree} facts sound node quiet =
    quiet_value context.later context.activation.around tree
    (sym (quiet_kept (nodes_in context) context.storage sound.lowered.traits node)
    ∙ sym (quiet_is (knowing context.site facts) of) ∙ quiet)
