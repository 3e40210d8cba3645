-- The parts of the tree with this number need no more bytes than the tree, and weigh as much as it less 1 for
-- each.
use Rattle.measure_laws.proofs.Prelude.{◌≡◌, ℕ, ◌+◌, ◌-◌, ◌*◌, ◌≤◌, List, length, Option, Some, None, IsSomeAnd, slice_get, refl, sym, ap, subst, ◌∙◌, arith, same_Some, ScalarType, count_of_arguments, height_of, height_of_arguments, height_of_reference, height_of_subscript, type_of, weight_of_expression, SentTo, StoredIn, TypedArguments, TypedExpression, TypedModule, TypedProcedure, TypedReference, TypedTarget, Takes, TypesHold, TypesHoldInArguments, TypesHoldInReference, TypesHoldInSubscript, TypesHoldInTarget, Within, types_of, Storage, Expression, ExpressionForm, ExpressionNumber, Range, TreeModule, Reference, IndexNode, AreArguments, AreMore, AreNone, IsAbsent, IsBinary, IsCallOf, IsConstantList, IsConversion, IsEmbedded, IsExpression, IsForm, IsFunction, IsIndex, IsInput, IsLocation, IsNode, IsNumber, IsPart, IsReference, IsShift, IsSubscript, IsUnary, IsValue, Nodes, nodes_of, traits_at, expression, beside, beside_at, more_for_byte, more_for_word, taken_by, weight_in_form, AimHolds, Source, types_count}
use Rattle.trees.specs.declared.declaration.ScalarType.TheVariants as scalars
use Rattle.typed_trees.specs.TypedTrees.{Subscript}
use Rattle.measure_laws.specs.internal.Footprints.{Gives, Ground, HasParts, IsBelow, IsOperand, Needs}
use Rattle.measure_laws.proofs.Footprints.Weights.{form_weighs, weighs_at}

-- as many arguments as there are trees, and as many types
pub count_is :
    (nodes : Nodes) (storage : Storage) {bound first count : ℕ} {trees : TypedArguments}
    → AreArguments nodes storage bound first count trees
    → count ≡ count_of_arguments trees
count_is nodes storage AreNone = refl
count_is nodes storage (AreMore {count = count} {others = others} there one more) =
    let rest : count ≡ count_of_arguments others = count_is nodes storage more in omega (arith, rest)

-- a call pops the arguments that were pushed for it
pub call_takes :
    {tree : TreeModule} (source : Source tree) (procedure : ℕ) (result : Option ScalarType)
    {bound first count : ℕ}
    {trees : TypedArguments}
    → AreArguments (nodes_of tree) source.storage bound first count trees
    → Takes source.typed procedure result trees
    → taken_by tree procedure ≡ 2 * (count - 1)
call_takes {tree = tree} source procedure result {count = count} {trees = trees} are takes =
    by (slice_get source.typed.procedures procedure) refl takes
  where
    by : (entry : Option TypedProcedure)
        → slice_get source.typed.procedures procedure ≡ entry
        → IsSomeAnd entry
        (λ (found : TypedProcedure). (found.result ≡ result) × (found.parameter_types ≡ types_of trees))
        → taken_by tree procedure ≡ 2 * (count - 1)
    by (Some found) there is =
        let taken : taken_by tree procedure ≡ 2 * (length found.parameter_types - 1) =
        source.takes procedure found there in
        let types : length found.parameter_types ≡ length (types_of trees) =
        ap (λ (list : List ScalarType). length list) is.1 in
        let counted : length (types_of trees) ≡ count_of_arguments trees = types_count trees in
        let given : count ≡ count_of_arguments trees = count_is (nodes_of tree) source.storage are in
        taken ∙ ap (λ n. 2 * (n - 1)) (types ∙ counted ∙ sym given)
    by None there is = absurd is

pub gives :
    {tree : TreeModule} {source : Source tree} {free bound procedure : ℕ} {range : Range}
    (result : Option ScalarType)
    {trees : TypedArguments}
    → AreArguments (nodes_of tree) source.storage bound range.first range.count trees
    → Takes source.typed procedure result trees
    → TypesHoldInArguments source.typed source.within trees
    → 2 * (1 + count_of_arguments trees + height_of_arguments trees) ≤ free
    → Gives tree source free procedure range
gives {tree = tree} {source = source} {bound = bound} {procedure = procedure} {range = range} result
    {trees = trees} are takes types room = record {
      bound = bound;
      trees = trees;
      node = are;
      types = types;
      takes = call_takes source procedure result are takes;
      room = let counted : range.count ≡ count_of_arguments trees = count_is (nodes_of tree) source.storage are in
          omega (arith, room, counted);
    }

pub aim_holds :
    (typed : TypedModule) (within : Within) (scalar : ScalarType) (to : TypedTarget)
    → TypesHoldInTarget typed within scalar to
    → AimHolds typed within to
aim_holds typed within scalar (StoredIn from to reference) types = types.2
aim_holds typed within scalar (SentTo from port) types = tt

byte_small : (scalar : ScalarType) → more_for_byte scalar ≤ 4
byte_small scalars.Byte = omega arith
byte_small scalars.Address = omega arith

word_small : (scalar : ScalarType) → more_for_word scalar ≤ 4
word_small scalars.Byte = omega arith
word_small scalars.Address = omega arith

-- an expression that needs no more bytes than are free, with `before` of them taken
pub needs :
    {tree : TreeModule} {source : Source tree} {before free bound : ℕ} {number : ExpressionNumber}
    {whole : TypedExpression}
    → IsExpression (nodes_of tree) source.storage bound number.index whole
    → TypesHold source.typed source.within whole
    → before + 2 * height_of whole ≤ free
    → Needs tree source before free number
needs {tree = tree} {bound = bound} {number = number} {whole = whole} node types room = record {
  bound = bound;
  expression = whole;
  node = node;
  types = types;
  room = room;
  byte_small = byte_small (traits_at (nodes_of tree) number).scalar;
  word_small = word_small (traits_at (nodes_of tree) number).scalar;
}

parts_of_form :
    (at : Ground) (free : ℕ) (number : ExpressionNumber) {bound : ℕ} {form : ExpressionForm}
    {whole : TypedExpression}
    → beside at.site number
    ≡ weight_in_form (beside_at (nodes_of at.site.tree.now)) at.site.tree.now.arguments.items form
    → IsForm (nodes_of at.site.tree.now) at.source.storage bound form whole
    → TypesHold at.source.typed at.source.within whole
    → 2 * height_of whole ≤ free
    → HasParts at free number form
parts_of_form at free number same IsNumber types room = tt
parts_of_form at free number {bound = bound} same (IsValue {part = part} one) types room =
    record { place = record { bound = bound; part = part; node = one; types = types.1; room = room }; same = same }
parts_of_form at free number {bound = bound} same (IsLocation {part = part} one) types room =
    record { place = record { bound = bound; part = part; node = one; types = types.1; room = room }; same = same }
parts_of_form at free number same IsConstantList types room = tt
parts_of_form at free number same (IsConversion one) types room =
    record { one = needs {source = at.source} one types (omega (arith, room)); same = same }
parts_of_form at free number {bound = bound} same (IsEmbedded {to = to} {tree = value} aim one) types room =
    record {
      to = record {
        bound = bound;
        to = to;
        node = aim;
        types = aim_holds at.source.typed at.source.within (type_of value) to types.1;
        room = omega (arith, room);
      };
      one = needs {source = at.source} one types.0 (omega (arith, room));
      same = same;
    }
parts_of_form at free number same (IsUnary one) types room =
    record { one = needs {source = at.source} one types.0 (omega (arith, room)); same = same }
parts_of_form at free number same (IsBinary one two) types room = record {
  one = needs {source = at.source} one types.1.0 (omega (arith, room));
  two = needs {source = at.source} two types.2.0 (omega (arith, room));
  same = same;
}
parts_of_form at free number same (IsCallOf {scalar = scalar} are) types room =
    record { are = gives {source = at.source} (Some scalar) are types.0 types.1 room; same = same }
parts_of_form at free number same (IsFunction one) types room =
    record { one = needs {source = at.source} one types (omega (arith, room)); same = same }
parts_of_form at free number same (IsShift one two) types room = record {
  one = needs {source = at.source} one types.1.0 (omega (arith, room));
  two = needs {source = at.source} two types.2.0 (omega (arith, room));
  same = same;
}
parts_of_form at free number same IsInput types room = tt

parts_of_node :
    (at : Ground) (free : ℕ) (number : ExpressionNumber) (found : Expression) {bound : ℕ}
    {whole : TypedExpression}
    → IsExpression (nodes_of at.site.tree.now) at.source.storage bound number.index whole
    → TypesHold at.source.typed at.source.within whole
    → 2 * height_of whole ≤ free
    → expression at.site number ≡ Some found
    → HasParts at free number found.form
unfolding expression
parts_of_node at free number found {bound = bound} {whole = whole}
    (IsNode {expression = entry} below there scalar form) types room is =
    let all : 1 + beside at.site number ≡ weight_of_expression whole =
    weighs_at (nodes_of at.site.tree.now) at.source.storage bound bound number.index whole (omega arith)
    (IsNode below there scalar form) in
    let parts : 1 + weight_in_form (beside_at (nodes_of at.site.tree.now))
    at.site.tree.now.arguments.items entry.form
    ≡ weight_of_expression whole =
    form_weighs (nodes_of at.site.tree.now) at.source.storage number.index
    (beside_at (nodes_of at.site.tree.now))
    (weighs_at (nodes_of at.site.tree.now) at.source.storage number.index) (omega arith) form in
    subst (λ (one : Expression). HasParts at free number one.form) (same_Some entry found (sym there ∙ is))
    (parts_of_form at free number (omega (arith, all, parts)) form types room)

-- the parts by the form that is found
pub has_parts :
    (at : Ground) {free : ℕ} {number : ExpressionNumber} {found : Expression}
    → IsOperand at free number
    → expression at.site number ≡ Some found
    → HasParts at free number found.form
has_parts at {free = free} {number = number} {found = found} is there =
    parts_of_node at free number found is.node is.types (omega (arith, is.room)) there

-- a subscript of a part of an object
abbrev pub IndexIs : (at : Ground) (free : ℕ) → Option IndexNode → Type 0
IndexIs at free None = Unit {0}
IndexIs at free (Some index) = IsBelow at free index.index

subscript_is :
    (at : Ground) (free : ℕ) {bound : ℕ} {index : Option IndexNode} {subscript : Subscript}
    → IsSubscript (nodes_of at.site.tree.now) at.source.storage bound index subscript
    → TypesHoldInSubscript at.source.typed at.source.within subscript
    → 2 + 2 * height_of_subscript subscript ≤ free
    → IndexIs at free index
subscript_is at free IsAbsent types room = tt
subscript_is at free (IsIndex one) types room = needs {source = at.source} one types.0 room

pub subscripts_are :
    (at : Ground) (free : ℕ) {bound : ℕ} {reference : Reference} {part : TypedReference}
    → IsReference (nodes_of at.site.tree.now) at.source.storage bound reference part
    → TypesHoldInReference at.source.typed at.source.within part
    → 2 * height_of_reference part ≤ free
    → IndexIs at free reference.subscript × IndexIs at free reference.member_subscript
subscripts_are at free (IsPart one two) types room =
    (subscript_is at free one types.0 (omega (arith, room)), subscript_is at free two types.1 (omega (arith, room)))
