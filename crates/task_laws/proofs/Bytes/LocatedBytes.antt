-- The low byte of an expression in memory: it is at the place of the part of an object that the tree names.
use Rattle.task_laws.proofs.Prelude.{◌≡◌, ℕ, ◌*◌, ◌/◌, ◌%◌, ◌<◌, ◌≤◌, ◌⊎◌, inl, inr, List, Option, Some, refl, sym, ap, subst, ◌∙◌, arith, option_and_then, option_map_or, byte_at, ScalarType, Byte, Address, height_of, height_of_reference, type_of, ConversionNode, FunctionNode, PartOf, TypedExpression, TypedReference, ValueNode, RefersToScalar, TypesHold, TypesHoldInReference, next_place, place_in, read_scalar, SourceState, Outcome, Gave, Stop, Stopped, then_do, as_type, values_of, Registers, State, Expression, ExpressionForm, ExpressionNumber, Reference, IsBinary, IsCallOf, IsConstantList, IsConversion, IsEmbedded, IsExpression, IsForm, IsFunction, IsInput, IsLocation, IsNumber, IsReference, IsShift, IsUnary, IsValue, Does, Loaded, loaded_of, at_place, Arrives, IsReady, does_without_step, IsSteady, Facts, GoesOutside, memory, reference_after, knowing, Context, IsSound, nodes_in, AddressIsGiven, IsReferred, address_on_machine, as_type_fits, same_Some, same_both, UnaryFunction, LowByte, HighByte, byte_taken, type_of_function, function_of, None}
use Rattle.trees.proofs.TakenBytes.{by_byte, taken}
use Rattle.meaning.proofs.FunctionResults.{high_byte_given, low_byte_kept, function_fits}
use Rattle.treecode.proofs.TakenBytes.{low_byte_of_itself, low_byte_of_operand}
use Rattle.meaning.specs.Access.{Place}
use Rattle.treecode.specs.declared.expression.ExpressionForm.TheVariants as forms
use Rattle.treecode.specs.internal.Traits as traits
use Rattle.task_laws.proofs.Bytes.BytesAsked.{ByteIsAtHl, LocatesBytes}
use Rattle.task_laws.proofs.Loads.BytesInMemory.{memory_same}
use Rattle.task_laws.proofs.Bytes.ByteForms.{type_byte}
use Rattle.task_laws.proofs.Places.Fitting.{gave_first, located_fits, refers_is_referred}
use Rattle.task_laws.proofs.Places.Located.{located_in}
use Rattle.task_laws.proofs.Stores.NextBytes.{next_part, reference_next}
use Rattle.task_laws.proofs.Machine.Nodes.{NodeOf, node_of}
use Rattle.task_laws.proofs.Machine.Rules.{room_for}
use Rattle.task_laws.proofs.Places.ReadPlaces.{HighIsAt, LowIsAt, WordIsAt, does_outside, scalar_found, then_outside, word_found}
use Rattle.task_laws.proofs.Machine.SiteNodes.{value_in}
use Rattle.task_laws.proofs.Machine.Stages.{does_same, then_does_where}
use Rattle.task_laws.proofs.Bytes.HighBytes.{next_height, next_is_referred, next_located}

-- The low byte of an expression is at the part of an object of a reference.
pub record ByteLies (context : Context) (reference : Reference) (tree : TypedExpression) : Type 0 where
  pub bound : ℕ
  pub part : TypedReference
  pub is : IsReference (nodes_in context) context.storage bound reference part
  pub referred : IsReferred context part
  pub types : TypesHoldInReference context.typed context.within part
  pub height : height_of_reference part ≤ height_of tree
  pub gives :
      (place : Place) (s u : SourceState) (top : ℕ) (base memory : List ℕ) (r : Registers)
      → located_in context part s ≡ Gave place u
      → IsReady context.activation top base u.memory u.frame r memory
      → LowIsAt context (type_of tree) (address_on_machine context.activation place) memory u
      (value_in context tree s)
      ⊎ GoesOutside (value_in context tree s)
  pub stops :
      (why : Stop) (s u : SourceState)
      → located_in context part s ≡ Stopped why u
      → value_in context tree s ≡ Stopped why u

-- the high byte of an ADDRESS that is read is at the next part
pub high_found :
    {context : Context} (part : TypedReference) (place : Place) (s u : SourceState) (top : ℕ)
    (base memory : List ℕ)
    (r : Registers)
    → IsSound context
    → RefersToScalar context.typed context.within Address part
    → located_in context (next_part part) s ≡ Gave place u
    → IsReady context.activation top base u.memory u.frame r memory
    → HighIsAt context (address_on_machine context.activation place) memory u
    (value_in context (ValueNode Address part) s)
    ⊎ GoesOutside (value_in context (ValueNode Address part) s)
high_found {context = context} part place s u top base memory r sound refers same ready =
    let program = context.activation.around.program in
    let given = gave_first (located_in context part s) (λ place t. Gave (next_place place) t) place u
    (sym (next_located context part s) ∙ same) in
    let both = same_both _ _ _ _ given.next in
    let value_is : value_in context (ValueNode Address part) s
    ≡ read_scalar program Address given.first given.t
    = ap (λ (outcome : Outcome Place). then_do outcome (λ place t. read_scalar program Address place t))
    given.is in
    let ready_there : IsReady context.activation top base (given.t).memory (given.t).frame r memory
    = subst (λ (t : SourceState). IsReady context.activation top base t.memory t.frame r memory)
    (sym both.1) ready in
    subst (λ (outcome : Outcome ℕ). HighIsAt context (address_on_machine context.activation place) memory u
    outcome ⊎ GoesOutside outcome)
    (sym value_is)
    (by given.first given.t both.0 both.1 (word_found given.first given.t sound ready_there
    (located_fits context Address part given.first s given.t sound refers given.is)))
  where
    by : (first : Place) (t : SourceState) → next_place first ≡ place → t ≡ u
        → WordIsAt context first memory t (read_scalar context.activation.around.program Address first t)
        ⊎ GoesOutside (read_scalar context.activation.around.program Address first t)
        → HighIsAt context (address_on_machine context.activation place) memory u
        (read_scalar context.activation.around.program Address first t)
        ⊎ GoesOutside (read_scalar context.activation.around.program Address first t)
    by first t there now (inr outside) = inr outside
    by first t there now (inl found) =
        inl (subst (λ (p : Place). HighIsAt context (address_on_machine context.activation p) memory u
        (read_scalar context.activation.around.program Address first t)) there
        (subst (λ (v : SourceState). HighIsAt context
        (address_on_machine context.activation (next_place first)) memory v
        (read_scalar context.activation.around.program Address first t)) now found.high_is))

pub high_stops :
    (context : Context) (part : TypedReference) (why : Stop) (s u : SourceState)
    → located_in context (next_part part) s ≡ Stopped why u
    → value_in context (ValueNode Address part) s ≡ Stopped why u
high_stops context part why s u same =
    by (located_in context part s) (sym (next_located context part s) ∙ same)
  where
    by : (outcome : Outcome Place) → then_do outcome (λ place t. Gave (next_place place) t) ≡ Stopped why u
        → then_do outcome (λ place t. read_scalar context.activation.around.program Address place t) ≡ Stopped
        why u
    by (Gave place t) is = absurd cc
    by (Stopped reason t) is = cc

next_types : (context : Context) (part : TypedReference)
    → TypesHoldInReference context.typed context.within part → TypesHoldInReference context.typed
    context.within (next_part part)
next_types context (PartOf _ _ _ _ _) is = is

-- the parts of a reference one byte further on
pub record NextLies (context : Context) (bound : ℕ) (reference : Reference)
    (part : TypedReference) : Type 0 where
  pub is : IsReference (nodes_in context) context.storage bound (reference_after reference 1) (next_part part)
  pub referred : IsReferred context (next_part part)
  pub types : TypesHoldInReference context.typed context.within (next_part part)
  pub height : height_of_reference (next_part part) ≡ height_of_reference part

pub next_lies :
    (context : Context) (bound : ℕ) (reference : Reference) (part : TypedReference)
    → IsReference (nodes_in context) context.storage bound reference part
    → RefersToScalar context.typed context.within Address part
    → TypesHoldInReference context.typed context.within part
    → NextLies context bound reference part
next_lies context bound reference part is refers types = record {
  is = reference_next (nodes_in context) context.storage bound reference part is;
  referred = next_is_referred context part (refers_is_referred context Address part refers);
  types = next_types context part types;
  height = next_height part;
}

high_byte : (n : ℕ) → n < 65536 → n / 256 ≡ n / 256 % 256
high_byte n small = omega (arith, small)

module _ (context : Context) (sound : IsSound context) where
  -- a value that is read
  value_lies :
      {bound : ℕ} {reference : Reference} (scalar : ScalarType) (part : TypedReference)
      → IsReference (nodes_in context) context.storage bound reference part
      → TypesHold context.typed context.within (ValueNode scalar part)
      → ByteLies context reference (ValueNode scalar part)
  value_lies {bound = bound} scalar part is types = record {
    bound = bound;
    part = part;
    is = is;
    referred = refers_is_referred context scalar part types.0;
    types = types.1;
    height = omega arith;
    gives = λ place s u top base memory r same ready.
        subst (λ (outcome : Outcome ℕ). LowIsAt context scalar (address_on_machine context.activation place)
        memory u outcome ⊎ GoesOutside outcome)
        (sym (ap (λ (outcome : Outcome Place). then_do outcome
        (λ place t. read_scalar context.activation.around.program scalar place t)) same))
        (scalar_found scalar place u sound ready
        (located_fits context scalar part place s u sound types.0 same));
    stops = λ why s u same. ap
        (λ (outcome : Outcome Place). then_do outcome
        (λ place t. read_scalar context.activation.around.program scalar place t)) same;
  }

  -- its high byte, which a function takes
  high_lies :
      {bound : ℕ} {reference : Reference} (function : UnaryFunction) (part : TypedReference)
      → byte_taken function ≡ HighByte
      → IsReference (nodes_in context) context.storage bound reference part
      → TypesHold context.typed context.within (ValueNode Address part)
      → ByteLies context (reference_after reference 1) (FunctionNode function (ValueNode Address part))
  high_lies {bound = bound} {reference = reference} function part takes is types =
      let next = next_lies context bound reference part is types.0 types.1 in
      let height_is = next.height in
      record {
        bound = bound;
        part = next_part part;
        is = next.is;
        referred = next.referred;
        types = next.types;
        height = omega (arith, height_is);
        gives = λ place s u top base memory r same ready.
            by place u memory (value_in context (ValueNode Address part) s)
            (high_found part place s u top base memory r sound types.0 same ready);
        stops = λ why s u same. ap
            (λ (outcome : Outcome ℕ). then_do outcome (λ n t. Gave (function_of function n) t))
            (high_stops context part why s u same);
      }
    where
      by : (place : Place) (u : SourceState) (memory : List ℕ) (outcome : Outcome ℕ)
          → HighIsAt context (address_on_machine context.activation place) memory u outcome ⊎ GoesOutside
          outcome
          → LowIsAt context (type_of_function function) (address_on_machine context.activation place) memory u
          (then_do outcome (λ n t. Gave (function_of function n) t))
          ⊎ GoesOutside (then_do outcome (λ n t. Gave (function_of function n) t))
      by place u memory outcome (inl high) = inl (record {
        found = function_of function high.found;
        is = ap (λ (given : Outcome ℕ). then_do given (λ n t. Gave (function_of function n) t)) high.is;
        low = high.high ∙ high_byte high.found high.small
            ∙ ap (λ n. n % 256) (sym (high_byte_given function takes high.found));
        small = function_fits function Address high.found high.small;
        steady = high.steady;
      })
      by place u memory outcome (inr outside) = inr (then_outside outcome _ outside)

  -- a value with the low byte of another one
  inside_lies :
      {reference : Reference} (tree inside : TypedExpression) (f : ℕ → ℕ)
      → height_of inside ≤ height_of tree
      → ((s : SourceState) → value_in context tree s ≡ then_do (value_in context inside s)
      (λ n t. Gave (f n) t))
      → ((n : ℕ) → n < values_of (type_of inside) → n % 256 ≡ f n % 256)
      → ((n : ℕ) → n < values_of (type_of inside) → f n < values_of (type_of tree))
      → ByteLies context reference inside
      → ByteLies context reference tree
  inside_lies tree inside f lower means bytes small lies =
      let height = lies.height in
      record {
        bound = lies.bound;
        part = lies.part;
        is = lies.is;
        referred = lies.referred;
        types = lies.types;
        height = omega (arith, height, lower);
        gives = λ place s u top base memory r same ready.
            subst (λ (outcome : Outcome ℕ). LowIsAt context (type_of tree)
            (address_on_machine context.activation place) memory u outcome ⊎ GoesOutside outcome)
            (sym (means s))
            (by place u memory (value_in context inside s)
            (lies.gives place s u top base memory r same ready));
        stops = λ why s u same. means s ∙ ap (λ (outcome : Outcome ℕ). then_do outcome (λ n t. Gave (f n) t))
            (lies.stops why s u same);
      }
    where
      by : (place : Place) (u : SourceState) (memory : List ℕ) (outcome : Outcome ℕ)
          → LowIsAt context (type_of inside) (address_on_machine context.activation place) memory u outcome
          ⊎ GoesOutside outcome
          → LowIsAt context (type_of tree) (address_on_machine context.activation place) memory u
          (then_do outcome (λ n t. Gave (f n) t))
          ⊎ GoesOutside (then_do outcome (λ n t. Gave (f n) t))
      by place u memory outcome (inl low) = inl (record {
        found = f low.found;
        is = ap (λ (given : Outcome ℕ). then_do given (λ n t. Gave (f n) t)) low.is;
        low = low.low ∙ bytes low.found low.small;
        small = small low.found low.small;
        steady = low.steady;
      })
      by place u memory outcome (inr outside) = inr (then_outside outcome _ outside)

  -- the part of memory of a form
  abbrev LiesBy : (ExpressionForm → Option Reference) → Type 0
  LiesBy tells =
      (bound : ℕ) (form : ExpressionForm) (tree : TypedExpression) (reference : Reference)
      → IsForm (nodes_in context) context.storage bound form tree
      → TypesHold context.typed context.within tree
      → tells form ≡ Some reference
      → ByteLies context reference tree

  -- where its byte after it is one
  after_lies :
      (function : UnaryFunction) → byte_taken function ≡ HighByte
      → (reference : Reference) (operand : ExpressionNumber) (tree : TypedExpression)
      (node : NodeOf context operand tree)
      → TypesHold context.typed context.within tree
      → traits.byte_after node.found.traits.scalar node.found.form ≡ Some reference
      → ByteLies context reference (FunctionNode function tree)
  after_lies function takes reference operand tree node types told =
      by operand.index node.found.form node.found.traits.scalar tree types node.scalar node.form told
    where
      by : (bound : ℕ) (form : ExpressionForm) (scalar : ScalarType) (tree : TypedExpression)
          → TypesHold context.typed context.within tree
          → scalar ≡ type_of tree
          → IsForm (nodes_in context) context.storage bound form tree
          → traits.byte_after scalar form ≡ Some reference
          → ByteLies context reference (FunctionNode function tree)
      by bound _ Address tree types same
          (IsValue {scalar = Address} {reference = inner} {part = part} is) told =
          subst
          (λ (given : Reference). ByteLies context given (FunctionNode function (ValueNode Address part)))
          (same_Some _ _ told)
          (high_lies function part takes is types)
      by bound _ Address tree types same (IsValue {scalar = Byte} is) told = absurd cc
      by bound _ Address tree types same other told = absurd cc
      by bound _ Byte tree types same other told = absurd cc

  -- a form other than these
  inner_lies : LiesBy (λ form. traits.memory_of_inner (nodes_in context) form)
  inner_lies bound _ _ reference (IsValue {scalar = scalar} {part = part} is) types told =
      subst (λ (given : Reference). ByteLies context given (ValueNode scalar part)) (same_Some _ _ told)
      (value_lies scalar part is types)
  inner_lies bound _ _ reference (IsFunction {function = function} {operand = operand} {tree = tree} is)
      types told =
      let node = node_of {context = context} {number = operand} sound is in
      by_byte
      (λ (found : Option Reference). found ≡ Some reference
      → ByteLies context reference (FunctionNode function tree))
      (byte_taken function) None (traits.high_in_memory (nodes_in context) operand) (λ _ its. absurd cc)
      (λ takes its. after_lies function takes reference operand tree node types
      (sym (ap (λ (found : Option Expression). option_and_then
      (λ (one : Expression). traits.byte_after one.traits.scalar one.form) found) node.is_there) ∙ its))
      told
  inner_lies bound _ _ reference other types told = absurd cc

  conversion_inside :
      {reference : Reference} (scalar : ScalarType) (tree : TypedExpression)
      → ByteLies context reference tree
      → ByteLies context reference (ConversionNode scalar tree)
  conversion_inside scalar tree lies =
      inside_lies (ConversionNode scalar tree) tree (as_type scalar) (omega arith) (λ s. refl)
      (λ n small. type_byte scalar n) (λ n small. as_type_fits scalar n) lies

  function_inside :
      {reference : Reference} (function : UnaryFunction) (tree : TypedExpression)
      → byte_taken function ≡ LowByte
      → ByteLies context reference tree
      → ByteLies context reference (FunctionNode function tree)
  function_inside function tree low lies =
      inside_lies (FunctionNode function tree) tree (λ n. function_of function n) (omega arith) (λ s. refl)
      (λ n small. sym (low_byte_kept function low n)) (λ n small. function_fits function (type_of tree) n small)
      lies

  -- inside a conversion, or a function that takes the low byte, too
  deeper :
      (tells : ExpressionForm → Option Reference)
      → LiesBy tells
      → LiesBy (λ form. tells (traits.same_low_byte (nodes_in context) form))
  deeper tells lies bound _ _ reference
      (IsConversion {inner = inner} {scalar = scalar} {tree = tree} is) types told =
      let node = node_of {context = context} {number = inner} sound is in
      conversion_inside scalar tree
      (lies inner.index node.found.form tree reference node.form types
      (sym (ap (λ (found : Option Expression). tells
      (option_map_or (λ (one : Expression). one.form) found (forms.Conversion inner))) node.is_there)
      ∙ told))
  deeper tells lies bound form tree reference
      (IsFunction {function = function} {operand = inner} {tree = operand} is) types told =
      elim (taken function) [
        | inl low ↦
            (let node = node_of {context = context} {number = inner} sound is in
            function_inside function operand low
            (lies inner.index node.found.form operand reference node.form types
            (sym (ap (λ (found : Option Expression). tells
            (option_map_or (λ (one : Expression). one.form) found (forms.Function function inner)))
            node.is_there)
            ∙ sym (ap tells (low_byte_of_operand (nodes_in context) function inner low)) ∙ told)))
        | inr takes ↦
            lies bound form tree reference (IsFunction is) types
            (sym (ap tells (low_byte_of_itself (nodes_in context) function inner takes)) ∙ told)
      ]
  deeper tells lies bound form tree reference IsNumber types told =
      lies bound form tree reference IsNumber types told
  deeper tells lies bound form tree reference (IsValue is) types told =
      lies bound form tree reference (IsValue is) types told
  deeper tells lies bound form tree reference (IsLocation is) types told =
      lies bound form tree reference (IsLocation is) types told
  deeper tells lies bound form tree reference IsConstantList types told =
      lies bound form tree reference IsConstantList types told
  deeper tells lies bound form tree reference (IsEmbedded to is) types told =
      lies bound form tree reference (IsEmbedded to is) types told
  deeper tells lies bound form tree reference (IsUnary is) types told =
      lies bound form tree reference (IsUnary is) types told
  deeper tells lies bound form tree reference (IsBinary one two) types told =
      lies bound form tree reference (IsBinary one two) types told
  deeper tells lies bound form tree reference (IsCallOf given) types told =
      lies bound form tree reference (IsCallOf given) types told
  deeper tells lies bound form tree reference (IsShift one two) types told =
      lies bound form tree reference (IsShift one two) types told
  deeper tells lies bound form tree reference IsInput types told =
      lies bound form tree reference IsInput types told

  -- a byte that is in memory according to a site is there
  pub byte_lies :
      {bound : ℕ} {number : ExpressionNumber} {tree : TypedExpression} {reference : Reference} (facts : Facts)
      → IsExpression (nodes_in context) context.storage bound number.index tree
      → TypesHold context.typed context.within tree
      → memory (knowing context.site facts) number ≡ Some reference
      → ByteLies context reference tree
  byte_lies {number = number} {tree = tree} {reference = reference} facts is types told =
      let node = node_of {context = context} {number = number} sound is in
      deeper (λ form. traits.memory_of_inner (nodes_in context)
      (traits.same_low_byte (nodes_in context) form))
      (deeper (λ form. traits.memory_of_inner (nodes_in context) form) inner_lies)
      number.index node.found.form tree reference node.form types
      (sym (memory_same context sound facts node) ∙ told)

-- an outcome is carried out by code that first carries out another one, if it stops whenever that one stops
pub where_located :
    {A B : Type 0} {loaded : Loaded} {budget more : ℕ} {from : State} (outcome : Outcome A)
    (other : Outcome B)
    {Middle : A → SourceState → State → Type 0} {Good : B → SourceState → State → Type 0}
    → Does loaded budget 0 from outcome Middle
    → ((found : A) (t : SourceState) (end : State) → outcome ≡ Gave found t → Middle found t end
    → t.budget ≤ budget
    → Does loaded t.budget more end other Good)
    → ((why : Stop) (t : SourceState) → outcome ≡ Stopped why t → other ≡ Stopped why t)
    → Does loaded budget more from other Good
where_located (Gave found t) other one rest stops =
    then_does_where (Gave found t) {go = λ found t. other} one rest
where_located (Stopped why t) other one rest stops =
    does_same (Stopped why t) (stops why t refl)
    (then_does_where (Stopped why t) {go = λ found t. other} one rest)

-- the low byte of an expression is at the address that is put into HL
pub locates_bytes : (context : Context) → IsSound context → LocatesBytes context
locates_bytes context sound known_there before after number reference pushed from to bound tree told does is
    types top base s r memory below room ready known asked =
    let lies = byte_lies context sound known_there is types told in
    let height = lies.height in
    where_located (located_in context lies.part s) (value_in context tree s)
    (does lies.bound lies.part lies.is lies.referred lies.types top base s r memory below
    (room_for (2 * height_of_reference lies.part) (omega (arith, height)) room) ready known tt)
    (λ place t end same given fewer.
    let there : Registers = given.r in
    subst (λ (state : State). Does (loaded_of context.activation) t.budget 0 state
    (value_in context tree s)
    (Arrives context.activation top base to (ByteIsAtHl context after reference (type_of tree) r memory)))
    (sym given.is_at)
    (by place t there given.memory given.ready given.holds
    (lies.gives place s t top base given.memory there same given.ready)))
    (λ why t same. lies.stops why s t same)
  where
    by : (place : Place) (t : SourceState) (there : Registers) (ended : List ℕ)
        → IsReady context.activation top base t.memory t.frame there ended
        → AddressIsGiven context after reference r memory place there ended
        → LowIsAt context (type_of tree) (address_on_machine context.activation place) ended t
        (value_in context tree s)
        ⊎ GoesOutside (value_in context tree s)
        → Does (loaded_of context.activation) t.budget 0 (at_place to there ended t.events)
        (value_in context tree s)
        (Arrives context.activation top base to (ByteIsAtHl context after reference (type_of tree) r memory))
    by place t there ended ready holds (inr outside) = does_outside (value_in context tree s) outside
    by place t there ended ready holds (inl low) =
        does_same (Gave low.found t) low.is
        (does_without_step (record {
          r = there;
          memory = ended;
          is_at = refl;
          ready = ready;
          holds = record {
            is_there = ap (byte_at ended) holds.hl ∙ low.low;
            small = low.small;
            steady = subst (λ (n : ℕ). IsSteady context.activation n) (sym holds.hl) low.steady;
            known = holds.known;
            a = holds.a;
          };
        }))
