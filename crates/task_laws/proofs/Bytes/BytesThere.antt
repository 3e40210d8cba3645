-- The low byte of a value in memory.
use Rattle.task_laws.proofs.Prelude.{◌≡◌, ℕ, ◌*◌, ◌/◌, ◌%◌, ◌<◌, ◌≤◌, true, false, Option, Some, None, is_some, option_and_then, refl, sym, ap, ◌∙◌, subst, arith, false≢true, none-some, same_Some, option_map_or, ScalarType, Byte, Address, height_of, height_of_reference, type_of, FunctionNode, TypedExpression, TypedReference, ValueNode, RefersToScalar, TypesHold, TypesHoldInReference, read_scalar, SourceState, Outcome, Gave, then_do, as_type, values_of, Expression, ExpressionForm, ExpressionNumber, Home, Place, Reference, IndexNode, converted_place, function_of_place, place_of_part, IsExpression, IsReference, IsForm, IsNumber, IsValue, IsLocation, IsConstantList, IsConversion, IsEmbedded, IsUnary, IsBinary, IsCallOf, IsFunction, IsShift, IsInput, home_at, byte_after, distance_of, free_at, is_free_form, known_at, known_of, memory_of_form, memory_of_inner, no_traits, place_of_reference, same_low_byte, traits_of, Arrives, Does, loaded_of, at_place, Facts, Base, base_after, base_of, is_free, location_of, located_at, memory_of, reference_after, split, byte_in_memory_steps, knowing, Context, IsSound, nodes_in, StepsStand, ByteIsGiven, PartDoes, as_type_fits, inl, inr, UnaryFunction, HighByte, byte_taken, type_of_function, function_of}
use Rattle.treecode.specs.internal.Traits.{high_in_memory}
use Rattle.trees.proofs.TakenBytes.{by_byte, taken}
use Rattle.meaning.proofs.FunctionResults.{high_byte_given, low_byte_kept, function_fits}
use Rattle.treecode.proofs.TakenBytes.{free_if_direct, free_of_operand, low_byte_of_itself, low_byte_of_operand, memory_of_high}
use Rattle.treecode.specs.declared.expression.ExpressionForm.TheVariants as forms
use Rattle.treecode.specs.declared.place.Home.TheVariants as homes
use Rattle.treecode.specs.declared.place.Location.TheVariants as locations
use Rattle.steps8080.specs.internal.Queries.{location_at, located}
use Rattle.task_laws.proofs.Branches.Branches.{given_itself}
use Rattle.task_laws.proofs.Bytes.ByteCode.{ByteCarried}
use Rattle.task_laws.proofs.Bytes.ByteForms.{byte_given, free_by_form, type_byte}
use Rattle.task_laws.proofs.Loads.ByteLoads.{ByteIsLoaded, byte_in_memory_law}
use Rattle.task_laws.proofs.Loads.BytesInMemory.{memory_same}
use Rattle.task_laws.proofs.Machine.Effects.{then_again}
use Rattle.task_laws.proofs.Bytes.HighBytes.{HighIsLoaded, high_in_memory_law}
use Rattle.task_laws.proofs.Machine.KnownOperands.{bytes_differ}
use Rattle.task_laws.proofs.Places.Located.{located_in}
use Rattle.task_laws.proofs.Machine.Nodes.{NodeOf, node_of}
use Rattle.task_laws.proofs.Machine.SiteNodes.{free_is, value_in}
use Rattle.task_laws.proofs.Machine.Stages.{at_carried, does_same}
use Rattle.task_laws.proofs.Places.StaticPlaces.{not_computed}

-- the byte of a scalar that a part of memory holds, as a function of its value
data IsHalf (g : ℕ → ℕ) : ScalarType → (base reference : Reference) → Type 0 where
  LowHalf : {scalar : ScalarType} {base : Reference}
      → ((v : ℕ) → v < values_of scalar → g v % 256 ≡ v % 256)
      → IsHalf g scalar base base
  HighHalf : {base : Reference}
      → ((v : ℕ) → v < 65536 → g v % 256 ≡ v / 256)
      → IsHalf g Address base (reference_after base 1)

-- the value of a scalar
abbrev scalar_in : Context → ScalarType → TypedReference → SourceState → Outcome ℕ
scalar_in context scalar part s =
    then_do (located_in context part s)
    (λ place t. read_scalar context.activation.around.program scalar place t)

-- a tree with a low byte that is a part of memory
record LiesAs (context : Context) (form : ExpressionForm) (tree : TypedExpression)
    (reference : Reference) : Type 0 where
  bound : ℕ
  scalar : ScalarType
  base : Reference
  part : TypedReference
  g : ℕ → ℕ
  is : IsReference (nodes_in context) context.storage bound base part
  refers : RefersToScalar context.typed context.within scalar part
  types : TypesHoldInReference context.typed context.within part
  means : (s : SourceState) → value_in context tree s
      ≡ then_do (scalar_in context scalar part s) (λ v u. Gave (g v) u)
  small : (v : ℕ) → v < values_of scalar → g v < values_of (type_of tree)
  fewer : height_of_reference part ≤ height_of tree
  half : IsHalf g scalar base reference
  unknown : known_of (nodes_in context) (type_of tree) form ≡ None
  direct : is_free_form (nodes_in context) (type_of tree) form ≡ true
      → is_some (place_of_reference (nodes_in context) reference) ≡ true

high_byte_of : (v : ℕ) → v < 65536 → v / 256 % 256 ≡ v / 256
high_byte_of v small = omega (arith, small)

-- the second byte of an ADDRESS in memory
only_value :
    (scalar : ScalarType) (form : ExpressionForm) {reference : Reference}
    → byte_after scalar form ≡ Some reference
    → (base : Reference) × (form ≡ forms.Value base) × (scalar ≡ Address)
    × (reference_after base 1 ≡ reference)
only_value Address (forms.Value base) {reference = reference} same =
    (base, refl, refl, same_Some (reference_after base 1) reference same)
only_value Byte form same = absurd (none-some _ same)
only_value Address form same = absurd (none-some _ same)

half_on :
    {g : ℕ → ℕ} {scalar : ScalarType} {base reference : Reference} (of : ScalarType) (h : ℕ → ℕ)
    → ((v : ℕ) → v < values_of scalar → g v < values_of of)
    → ((n : ℕ) → n < values_of of → h n % 256 ≡ n % 256)
    → IsHalf g scalar base reference
    → IsHalf (λ v. h (g v)) scalar base reference
half_on {g = g} of h small bytes (LowHalf low) = LowHalf (λ v fits. bytes (g v) (small v fits) ∙ low v fits)
half_on {g = g} of h small bytes (HighHalf high) =
    HighHalf (λ v fits. bytes (g v) (small v fits) ∙ high v fits)

module _ (context : Context) (sound : IsSound context) where
  -- the traits of a node in the table
  known_in_table :
      {number : ExpressionNumber} {tree : TypedExpression} (node : NodeOf context number tree)
      → known_at (nodes_in context) number ≡ known_of (nodes_in context) (type_of tree) node.found.form
  unfolding traits_of
  known_in_table node =
      ap (λ (found : Option Expression). (option_map_or (λ (one : Expression). one.traits) found
      no_traits).known) node.is_there
      ∙ ap (λ traits. traits.known) node.traits

  -- a tree around another one, with the same low byte
  around :
      {form inner_form : ExpressionForm} {tree inner : TypedExpression} {reference : Reference} (h : ℕ → ℕ)
      → LiesAs context inner_form inner reference
      → ((s : SourceState) → value_in context tree s
      ≡ then_do (value_in context inner s) (λ n t. Gave (h n) t))
      → ((n : ℕ) → n < values_of (type_of inner) → h n < values_of (type_of tree))
      → ((n : ℕ) → n < values_of (type_of inner) → h n % 256 ≡ n % 256)
      → height_of inner ≤ height_of tree
      → known_of (nodes_in context) (type_of tree) form ≡ None
      → (is_free_form (nodes_in context) (type_of tree) form ≡ true
      → is_free_form (nodes_in context) (type_of inner) inner_form ≡ true)
      → LiesAs context form tree reference
  around {inner = inner} h lies means small bytes higher unknown free =
      let fewer = lies.fewer in
      record {
        bound = lies.bound;
        scalar = lies.scalar;
        base = lies.base;
        part = lies.part;
        g = λ v. h (lies.g v);
        is = lies.is;
        refers = lies.refers;
        types = lies.types;
        means = λ s.
            means s
            ∙ ap (λ (outcome : Outcome ℕ). then_do outcome (λ n t. Gave (h n) t)) (lies.means s)
            ∙ then_again (scalar_in context lies.scalar lies.part s) (λ v u. Gave (lies.g v) u)
            (λ n t. Gave (h n) t);
        small = λ v fits. small (lies.g v) (lies.small v fits);
        fewer = omega (arith, fewer, higher);
        half = half_on (type_of inner) h lies.small bytes lies.half;
        unknown = unknown;
        direct = λ is. lies.direct (free is);
      }

  -- a function that takes the high byte of an ADDRESS in memory
  high_inner :
      {bound : ℕ} {base : Reference} {inner : TypedExpression} {reference : Reference}
      (function : UnaryFunction) (operand : ExpressionNumber)
      → byte_taken function ≡ HighByte
      → IsForm (nodes_in context) context.storage bound (forms.Value base) inner
      → TypesHold context.typed context.within inner
      → type_of inner ≡ Address
      → reference_after base 1 ≡ reference
      → known_of (nodes_in context) (type_of_function function) (forms.Function function operand) ≡ None
      → (is_free_form (nodes_in context) (type_of_function function) (forms.Function function operand) ≡ true
      → is_some (place_of_reference (nodes_in context) reference) ≡ true)
      → LiesAs context (forms.Function function operand) (FunctionNode function inner) reference
  high_inner {bound = bound} {base = base} {reference = reference} function operand high
      (IsValue {scalar = Address} {part = part} is) types address same unknown direct =
      record {
        bound = bound;
        scalar = Address;
        base = base;
        part = part;
        g = λ v. function_of function v;
        is = is;
        refers = types.0;
        types = types.1;
        means = λ s. refl;
        small = λ v fits. function_fits function Address v fits;
        fewer = omega arith;
        half = subst (λ (one : Reference). IsHalf (λ v. function_of function v) Address base one) same
            (HighHalf (λ v fits. ap (λ n. n % 256) (high_byte_given function high v) ∙ high_byte_of v fits));
        unknown = unknown;
        direct = direct;
      }
  high_inner function operand high (IsValue {scalar = Byte} is) types address same unknown direct =
      bytes_differ address

  function_inner :
      {bound : ℕ} {inner : TypedExpression} {reference : Reference}
      (function : UnaryFunction) (operand : ExpressionNumber)
      → byte_taken function ≡ HighByte
      → IsExpression (nodes_in context) context.storage bound operand.index inner
      → TypesHold context.typed context.within inner
      → high_in_memory (nodes_in context) operand ≡ Some reference
      → LiesAs context (forms.Function function operand) (FunctionNode function inner) reference
  function_inner {inner = inner} {reference = reference} function operand high is types same =
      let node : NodeOf context operand inner = node_of sound is in
      let there : byte_after (type_of inner) node.found.form ≡ Some reference =
      sym (ap (λ (found : Option Expression). option_and_then
      (λ (one : Expression). byte_after one.traits.scalar one.form) found) node.is_there
      ∙ ap (λ (scalar : ScalarType). byte_after scalar node.found.form) node.scalar) ∙ same in
      let only = only_value (type_of inner) node.found.form there in
      high_inner function operand high
      (subst (λ (form : ExpressionForm). IsForm (nodes_in context) context.storage operand.index form inner)
      only.1 node.form)
      types only.2 only.3
      (ap (λ (found : Option Place). option_and_then (function_of_place function) found)
      (known_in_table node ∙ ap (λ (form : ExpressionForm). known_of (nodes_in context) (type_of inner) form)
      only.1))
      (λ free.
      sym (ap (λ (found : Option Reference). option_map_or
      (λ (one : Reference). is_some (place_of_reference (nodes_in context) one)) found false)
      (memory_of_high (nodes_in context) function operand high ∙ same))
      ∙ sym (free_if_direct (nodes_in context) (type_of_function function) function operand high) ∙ free)

  -- the byte inside
  lies_inner :
      {bound : ℕ} {form : ExpressionForm} {tree : TypedExpression} {reference : Reference}
      → IsForm (nodes_in context) context.storage bound form tree
      → TypesHold context.typed context.within tree
      → memory_of_inner (nodes_in context) form ≡ Some reference
      → LiesAs context form tree reference
  lies_inner {bound = bound} {reference = reference}
      (IsValue {scalar = scalar} {reference = base} {part = part} is) types same =
      subst (λ (one : Reference). LiesAs context (forms.Value base) (ValueNode scalar part) one)
      (same_Some base reference same)
      (record {
        bound = bound;
        scalar = scalar;
        base = base;
        part = part;
        g = λ v. v;
        is = is;
        refers = types.0;
        types = types.1;
        means = λ s. given_itself (scalar_in context scalar part s);
        small = λ v fits. fits;
        fewer = omega arith;
        half = LowHalf (λ v fits. refl);
        unknown = refl;
        direct = λ free. free;
      })
  lies_inner {reference = reference} (IsFunction {function = function} {operand = operand} {tree = inner} is)
      types same =
      by_byte
      (λ (found : Option Reference). found ≡ Some reference
      → LiesAs context (forms.Function function operand) (FunctionNode function inner) reference)
      (byte_taken function) None (high_in_memory (nodes_in context) operand)
      (λ _ its. absurd (none-some _ its)) (λ high its. function_inner function operand high is types its) same
  lies_inner IsNumber types same = absurd (none-some _ same)
  lies_inner (IsLocation is) types same = absurd (none-some _ same)
  lies_inner IsConstantList types same = absurd (none-some _ same)
  lies_inner (IsConversion is) types same = absurd (none-some _ same)
  lies_inner (IsEmbedded target is) types same = absurd (none-some _ same)
  lies_inner (IsUnary is) types same = absurd (none-some _ same)
  lies_inner (IsBinary one two) types same = absurd (none-some _ same)
  lies_inner (IsCallOf given) types same = absurd (none-some _ same)
  lies_inner (IsShift one two) types same = absurd (none-some _ same)
  lies_inner IsInput types same = absurd (none-some _ same)

  -- the inner part of a tree
  inside_free :
      {number : ExpressionNumber} {tree : TypedExpression} (node : NodeOf context number tree)
      → known_of (nodes_in context) (type_of tree) node.found.form ≡ None
      → free_at (nodes_in context) number ≡ true
      → is_free_form (nodes_in context) (type_of tree) node.found.form ≡ true
  inside_free {number = number} node unknown free =
      sym (free_by_form node unknown) ∙ free_is context.site number ∙ free

  -- the part of memory that is found for a form, or for another function of it
  abbrev LiesBy : (ExpressionForm → ExpressionForm) → Type 0
  LiesBy f =
      (bound : ℕ) (form : ExpressionForm) (tree : TypedExpression) (reference : Reference)
      → IsForm (nodes_in context) context.storage bound form tree
      → TypesHold context.typed context.within tree
      → memory_of_inner (nodes_in context) (f form) ≡ Some reference
      → LiesAs context form tree reference

  -- the byte of a tree around it, where a look inside finds it
  lies_step :
      {bound : ℕ} {form : ExpressionForm} {tree : TypedExpression} {reference : Reference}
      (f : ExpressionForm → ExpressionForm)
      → LiesBy f
      → IsForm (nodes_in context) context.storage bound form tree
      → TypesHold context.typed context.within tree
      → memory_of_inner (nodes_in context) (f (same_low_byte (nodes_in context) form)) ≡ Some reference
      → LiesAs context form tree reference
  lies_step f next (IsConversion {inner = inner} {scalar = scalar} {tree = tree} is) types same =
      let node : NodeOf context inner tree = node_of sound is in
      let inside = next _ _ _ _ node.form types
      (sym (ap (λ (found : Option Expression).
      memory_of_inner (nodes_in context)
      (f (option_map_or (λ (one : Expression). one.form) found (forms.Conversion inner)))) node.is_there)
      ∙ same) in
      around (as_type scalar) inside (λ s. refl) (λ n fits. as_type_fits scalar n)
      (λ n fits. sym (type_byte scalar n)) (omega arith)
      (ap (λ (found : Option Place). option_and_then (converted_place scalar) found)
      (known_in_table node ∙ inside.unknown))
      (inside_free node inside.unknown)
  lies_step f next (IsFunction {function = function} {operand = inner} {tree = tree} is) types same =
      elim (taken function) [
        | inl low ↦
            (let node : NodeOf context inner tree = node_of sound is in
            let inside = next _ _ _ _ node.form types
            (sym (ap (λ (found : Option Expression).
            memory_of_inner (nodes_in context)
            (f (option_map_or (λ (one : Expression). one.form) found (forms.Function function inner))))
            node.is_there)
            ∙ sym (ap (λ (form : ExpressionForm). memory_of_inner (nodes_in context) (f form))
            (low_byte_of_operand (nodes_in context) function inner low)) ∙ same) in
            around (λ n. function_of function n) inside (λ s. refl)
            (λ n fits. function_fits function (type_of tree) n fits) (λ n fits. low_byte_kept function low n)
            (omega arith)
            (ap (λ (found : Option Place). option_and_then (function_of_place function) found)
            (known_in_table node ∙ inside.unknown))
            (λ free. inside_free node inside.unknown
            (sym (free_of_operand (nodes_in context) (type_of_function function) function inner low) ∙ free)))
        | inr high ↦
            next _ _ _ _ (IsFunction is) types
            (sym (ap (λ (form : ExpressionForm). memory_of_inner (nodes_in context) (f form))
            (low_byte_of_itself (nodes_in context) function inner high)) ∙ same)
      ]
  lies_step f next (IsValue is) types same = next _ _ _ _ (IsValue is) types same
  lies_step {bound = bound} f next IsNumber types same = next bound _ _ _ IsNumber types same
  lies_step f next (IsLocation is) types same = next _ _ _ _ (IsLocation is) types same
  lies_step {bound = bound} f next IsConstantList types same = next bound _ _ _ IsConstantList types same
  lies_step f next (IsEmbedded target is) types same = next _ _ _ _ (IsEmbedded target is) types same
  lies_step f next (IsUnary is) types same = next _ _ _ _ (IsUnary is) types same
  lies_step f next (IsBinary one two) types same = next _ _ _ _ (IsBinary one two) types same
  lies_step f next (IsCallOf given) types same = next _ _ _ _ (IsCallOf given) types same
  lies_step f next (IsShift one two) types same = next _ _ _ _ (IsShift one two) types same
  lies_step {bound = bound} f next IsInput types same = next bound _ _ _ IsInput types same

  -- the byte of any tree
  lies_as :
      {bound : ℕ} {form : ExpressionForm} {tree : TypedExpression} {reference : Reference}
      → IsForm (nodes_in context) context.storage bound form tree
      → TypesHold context.typed context.within tree
      → memory_of_form (nodes_in context) form ≡ Some reference
      → LiesAs context form tree reference
  lies_as is types same =
      lies_step (same_low_byte (nodes_in context))
      (λ bound form tree reference is_there types_there same_there.
      lies_step (λ inside. inside) (λ one two three four five six seven. lies_inner five six seven) is_there
      types_there same_there)
      is types same

-- an object that a known place is part of begins at a known place
record IsKnownPart (home : Home) (first second : Option ℕ) : Type 0 where
  place : Place
  begins : home ≡ homes.Static place
  one : is_some first ≡ true
  two : is_some second ≡ true

known_part :
    (home : Home) (offset : ℕ) (first second : Option ℕ)
    → is_some (place_of_part home offset first second) ≡ true
    → IsKnownPart home first second
known_part (homes.Static place) offset (Some first) (Some second) is =
    record { place = place; begins = refl; one = refl; two = refl }
known_part (homes.Static place) offset (Some first) None is = absurd (false≢true is)
known_part (homes.Static place) offset None second is = absurd (false≢true is)
known_part (homes.Based base) offset first second is = absurd (false≢true is)
known_part (homes.Frame variable) offset first second is = absurd (false≢true is)

-- where tree code knows a place it knows a location in memory
static_there :
    (context : Context) (facts : Facts) (reference : Reference)
    → is_some (place_of_reference (nodes_in context) reference) ≡ true
    → (place : Place) × (location_of (knowing context.site facts) reference ≡ Some (locations.Static place))
unfolding location_of located
static_there context facts reference is =
    let part = known_part (home_at (nodes_in context).homes reference.object) reference.offset
    (distance_of (nodes_in context) reference.subscript)
    (distance_of (nodes_in context) reference.member_subscript) is in
    by part.place part.begins
    (split (knowing context.site facts) reference.subscript).computed
    (not_computed context facts reference.subscript part.one)
    (split (knowing context.site facts) reference.member_subscript).computed
    (not_computed context facts reference.member_subscript part.two)
  where
    one : ℕ
    one = (split (knowing context.site facts) reference.subscript).offset

    two : ℕ
    two = (split (knowing context.site facts) reference.member_subscript).offset

    base : Home → Base
    base home = base_after (base_after (base_after (base_of home) reference.offset) one) two

    by : (place : Place) → home_at (nodes_in context).homes reference.object ≡ homes.Static place
        → (first : Option IndexNode) → first ≡ None
        → (second : Option IndexNode) → second ≡ None
        → (at : Place)
        × (elim (located_at (base (home_at (nodes_in context).homes reference.object))
        first second).first [
          | Some subscript ↦ None
          | None ↦ location_at
              (located_at (base (home_at (nodes_in context).homes reference.object)) first second).base
        ] ≡ Some (locations.Static at))
    by place begins first first_none second second_none = (
      Rattle.treecode.specs.internal.Homes.place_after
          (Rattle.treecode.specs.internal.Homes.place_after
          (Rattle.treecode.specs.internal.Homes.place_after place reference.offset) one) two,
      ap (λ (found : Option IndexNode). elim (located_at
          (base (home_at (nodes_in context).homes reference.object)) found second).first [
            | Some subscript ↦ None
            | None ↦ location_at
                (located_at (base (home_at (nodes_in context).homes reference.object)) found second).base
          ]) first_none
          ∙ ap (λ (found : Option IndexNode). elim found [
            | Some subscript ↦ None
            | None ↦ location_at (base (home_at (nodes_in context).homes reference.object))
          ]) second_none
          ∙ ap (λ (home : Home). location_at (base home)) begins,
    )

-- the code of the byte
pub there_law :
    {context : Context} {facts last : Facts} {from to bound : ℕ} {tree : TypedExpression}
    {reference : Reference}
    (number : ExpressionNumber) (pushed : ℕ)
    → IsSound context
    → IsExpression (nodes_in context) context.storage bound number.index tree
    → TypesHold context.typed context.within tree
    → memory_of (knowing context.site facts) number ≡ Some reference
    → StepsStand context (PartDoes context) facts from
    (byte_in_memory_steps (knowing context.site facts) reference pushed) last to
    → ByteCarried context facts number tree pushed from last to
there_law {context = context} {facts = facts} {last = last} {from = from} {to = to} {tree = tree}
    {reference = reference} number pushed sound is types here stand top base s r memory below room
    ready known nothing =
    by (lies.g) lies.scalar lies.base reference lies.half refl lies.refers lies.is lies.means lies.small stand
  where
    node : NodeOf context number tree
    node = node_of sound is

    lies : LiesAs context node.found.form tree reference
    lies = lies_as context sound node.form types (sym (memory_same context sound facts node) ∙ here)

    static : is_free context.site number ≡ true
        → (place : Place)
        × (location_of (knowing context.site facts) reference ≡ Some (locations.Static place))
    static free =
        static_there context facts reference (lies.direct (sym (free_by_form node lies.unknown) ∙ free))

    enough : 2 * height_of_reference lies.part ≤ 2 * height_of tree
    enough = let fewer = lies.fewer in omega (arith, fewer)

    by : (g : ℕ → ℕ) (scalar : ScalarType) (start there : Reference)
        → IsHalf g scalar start there
        → there ≡ reference
        → RefersToScalar context.typed context.within scalar lies.part
        → IsReference (nodes_in context) context.storage lies.bound start lies.part
        → ((t : SourceState) → value_in context tree t
        ≡ then_do (scalar_in context scalar lies.part t) (λ v u. Gave (g v) u))
        → ((v : ℕ) → v < values_of scalar → g v < values_of (type_of tree))
        → StepsStand context (PartDoes context) facts from
        (byte_in_memory_steps (knowing context.site facts) there pushed) last to
        → Does (loaded_of context.activation) s.budget 0 (at_place from r memory s.events)
        (value_in context tree s)
        (Arrives context.activation top base to (ByteIsGiven context last number (type_of tree) r memory))
    by g scalar start _ (LowHalf bytes) same refers is_part means small given =
        does_same _ (means s)
        (at_carried {top = top} {need = 2 * height_of tree} {base = base} _ _ _
        (byte_in_memory_law scalar sound
        given is_part refers lies.types) enough tt
        (λ v now memory_now (loaded : ByteIsLoaded context facts last start scalar r memory v now memory_now). loaded.known)
        (record { below = below; room = room; ready = ready; known = known })
        (λ v u now memory_now equal loaded final.
        byte_given to number (g v) (loaded.a ∙ sym (bytes v loaded.small)) (small v loaded.small)
        (λ free.
        let place = static free in
        loaded.free (locations.Static place.0)
        (ap (λ (one : Reference). location_of (knowing context.site facts) one) same ∙ place.1) refl) final))
    by g _ start _ (HighHalf bytes) same refers is_part means small given =
        does_same _ (means s)
        (at_carried {top = top} {need = 2 * height_of tree} {base = base} _ _ _
        (high_in_memory_law sound given is_part refers lies.types) enough tt
        (λ v now memory_now (loaded : HighIsLoaded context facts last start r memory v now memory_now). loaded.known)
        (record { below = below; room = room; ready = ready; known = known })
        (λ v u now memory_now equal loaded final.
        let fits = loaded.small in
        byte_given to number (g v) (loaded.a ∙ sym (bytes v fits)) (small v fits)
        (λ free.
        let place = static free in
        loaded.free (locations.Static place.0)
        (ap (λ (one : Reference). location_of (knowing context.site facts) one) same ∙ place.1) refl) final))
