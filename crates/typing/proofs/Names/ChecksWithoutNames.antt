-- Checks of which no name is a cause.
use Rattle.typing.proofs.Prelude.{ℕ, List, [], ◌∷◌, Option, Some, None, nat_le, nat_lt, not, ◌&&◌, is_none, is_some, slice_get, Dimension, Count, Implied, Linkage, ScalarType, Byte, Address, Identifier, Number, Place, ConstantTree, NumberConstant, StringConstant, StringTree, OffsetTree, ItemTree, HeadingTree, StatementTrees, NoStatements, MoreStatements, Binding, Declared, Entity, Object, Procedure, Label, Here, lookup, bytes_eq, FRAME_LIMIT, InitialValue, Measure, ShiftFunction, UnaryFunction, TypedArguments, NoTyped, MoreTyped, Home, BasedOn, Elsewhere, Nowhere, InFrame, TypedObject, ArgumentCount, CallOfNoProcedure, NoVariable, NotMeasurable, ParameterNotScalar, ParameterNotDeclared, NoCounter, MisplacedLinkage, ImpliedForGroup, ReentrantExternal, ExternalContents, StringNotNumber, ZeroDimension, ImpliedWithoutValues, NoFixedAddress, NotByte, TooManyValues, ConstantWritten, NoLocation, TooLarge, NoLabel, moved_by, number_of_characters, number_of_constant, with_offsets, number_node, Known, place_of, object_of, procedure_of, is_constant, is_writable, scalar_of, Measured, measure_of, function_of, shift_of, Reach, ThisModule, OtherModulesToo, RestrictedValue, ANumber, FromObject, with_address, static_bound, fill_scalar, fill_characters, fill_string, contents_as_listed, object_bound, names_parameter, is_group, place_of_item, extents_of, member_dimension, check_linkage, is_not_based, TypedItem, object_named, with_typed_object, with_objects, base_of, Block, Progress, place_of_linkage, is_module_level, is_external_linkage, moved, goto_bound, counter_bound, place_of_statement, check_visibility, check_reentrant, parameter_object, parameter_objects, check_body}
use Rattle.typed_trees.specs.declared.parts.Measure.TheVariants as measures
use Rattle.typing.proofs.Names.Meeting.{IsOther, meets_ok, meets_fault, after_other, other_required, other_found}

-- that a cause is none of names is seen at once
pub not_of_names : ⊥ → ⊥
not_of_names never = never

-- numbers
pub constant-other : (constant : ConstantTree) → IsOther (number_of_constant constant)
constant-other (NumberConstant number) = meets_ok tt tt
constant-other (StringConstant string) =
    other_found (number_of_characters string.characters) StringNotNumber string.place not_of_names

pub offsets-other : (sum : ℕ) (offsets : List OffsetTree) → IsOther (with_offsets sum offsets)
offsets-other sum [] = meets_ok tt tt
offsets-other sum (offset ∷ others) =
    after_other (constant-other offset.constant) λ number _.
    offsets-other (moved_by sum offset.sign number) others

pub number-other : (constant : ConstantTree) → IsOther (number_node constant)
number-other constant =
    after_other (constant-other constant) λ number _.
    meets_ok tt tt

-- objects and procedures
pub object-other : (known : Known) (name : Identifier) (number : ℕ) → IsOther (object_of known name number)
object-other known name number =
    other_found (slice_get known.objects number) NoVariable (place_of name) not_of_names

pub procedure-other : (known : Known) (name : Identifier) (number : ℕ)
    → IsOther (procedure_of known name number)
procedure-other known name number =
    other_found (slice_get known.procedures number) CallOfNoProcedure (place_of name) not_of_names

pub writable-other : (object : TypedObject) (name : Identifier) → IsOther (is_writable object name)
writable-other object name =
    other_required (not (is_constant object.home)) ConstantWritten (place_of name) not_of_names

-- functions
pub measure-other : (measure : Measure) (measured : Measured) (place : Place)
    → IsOther (measure_of measure measured place)
measure-other measures.Length measured place = other_found measured.dimension NotMeasurable place not_of_names
measure-other measures.Last measured place =
    after_other (other_found measured.dimension NotMeasurable place not_of_names) λ count _.
    meets_ok tt tt
measure-other measures.Size measured place = meets_ok tt tt

pub function-other : (function : UnaryFunction) (place : Place) (values : TypedArguments)
    → IsOther (function_of function place values)
function-other function place (MoreTyped operand NoTyped) = meets_ok tt tt
function-other function place values = meets_fault ArgumentCount place not_of_names

pub shift-other : (function : ShiftFunction) (place : Place) (values : TypedArguments)
    → IsOther (shift_of function place values)
shift-other function place (MoreTyped value (MoreTyped count NoTyped)) = meets_ok tt tt
shift-other function place values = meets_fault ArgumentCount place not_of_names

pub moved-other : (place : Place) (values : TypedArguments) → IsOther (moved place values)
moved-other place (MoreTyped count (MoreTyped source (MoreTyped destination NoTyped))) = meets_ok tt tt
moved-other place values = meets_fault ArgumentCount place not_of_names

-- restricted expressions and lists
address-other : (reach : Reach) (home : Home) (number : ℕ) (place : Place)
    → IsOther (with_address reach home number place)
address-other reach (InFrame procedure) number place = meets_fault NoLocation place not_of_names
address-other reach (BasedOn base) number place = meets_fault NoFixedAddress place not_of_names
address-other ThisModule Elsewhere number place = meets_fault NoFixedAddress place not_of_names
address-other OtherModulesToo Elsewhere number place = meets_ok tt tt
address-other reach Nowhere number place = meets_fault NoFixedAddress place not_of_names
address-other reach home number place = meets_ok tt tt

pub static-other : (reach : Reach) (known : Known) (binding : Binding) (name : Identifier)
    → IsOther (static_bound reach known binding name)
static-other reach known (Declared (Object number)) name =
    after_other (object-other known name number) λ object _.
    address-other reach object.home number (place_of name)
static-other reach known (Declared (Procedure number)) name =
    meets_fault NoLocation (place_of name) not_of_names
static-other reach known binding name = meets_fault NoVariable (place_of name) not_of_names

pub scalar-other : (place : Place) (scalars : List ScalarType) (value : RestrictedValue)
    → IsOther (fill_scalar place scalars value)
scalar-other place (Byte ∷ left) (ANumber number) =
    after_other (other_required (nat_le number 255) NotByte place not_of_names) λ _ _.
    meets_ok tt tt
scalar-other place (Address ∷ left) (ANumber number) = meets_ok tt tt
scalar-other place (Address ∷ left) (FromObject object offset) = meets_ok tt tt
scalar-other place [] value = meets_fault TooManyValues place not_of_names
scalar-other place (Byte ∷ left) (FromObject object offset) = meets_fault NotByte place not_of_names

characters-other : (place : Place) (characters : List ℕ) (scalars : List ScalarType)
    → IsOther (fill_characters place characters scalars)
characters-other place [] scalars = meets_ok tt tt
characters-other place (character ∷ others) (Byte ∷ left) =
    after_other (characters-other place others left) λ filled _.
    meets_ok tt tt
characters-other place (character ∷ others) scalars = meets_fault TooManyValues place not_of_names

pub string-other : (string : StringTree) (scalars : List ScalarType) → IsOther (fill_string string scalars)
string-other string [] = characters-other string.place string.characters []
string-other string (Byte ∷ left) = characters-other string.place string.characters (Byte ∷ left)
string-other string (Address ∷ left) =
    after_other
    (other_found (number_of_characters string.characters) StringNotNumber string.place not_of_names)
    λ number _.
    meets_ok tt tt

pub as_listed-other : (place : Place) (used each : ℕ) (values : List InitialValue)
    → IsOther (contents_as_listed place used each values)
as_listed-other place used each values =
    after_other (other_required (nat_lt 0 used) ImpliedWithoutValues place not_of_names) λ _ _.
    meets_ok tt tt

-- items
pub bound-other : (binding : Binding) (place : Place) → IsOther (object_bound binding place)
bound-other (Declared (Object number)) place = meets_ok tt tt
bound-other binding place = meets_fault NoVariable place not_of_names

pub extents-other : (block : Block) (item : ItemTree) (dimension : Option Dimension)
    → IsOther (extents_of block item dimension)
extents-other block item None = meets_ok tt tt
extents-other block item (Some (Count number)) =
    after_other (other_required (nat_le 1 number.value) ZeroDimension number.place not_of_names) λ _ _.
    after_other
    (other_required (not (names_parameter block item.subject)) ParameterNotScalar number.place not_of_names)
    λ _ _.
    meets_ok tt tt
extents-other block item (Some Implied) =
    after_other
    (other_required (not (names_parameter block item.subject)) ParameterNotScalar (place_of_item item)
    not_of_names) λ _ _.
    after_other
    (other_required (not (is_group item.subject)) ImpliedForGroup (place_of_item item) not_of_names)
    λ _ _.
    after_other
    (other_required (is_some item.value_list) ImpliedWithoutValues (place_of_item item) not_of_names)
    λ _ _.
    meets_ok tt tt

pub dimension-other : (dimension : Option Number) → IsOther (member_dimension dimension)
dimension-other None = meets_ok tt tt
dimension-other (Some number) =
    after_other (other_required (nat_le 1 number.value) ZeroDimension number.place not_of_names) λ _ _.
    meets_ok tt tt

pub linkage-other : (block : Block) (item : ItemTree) (linkage : Option Linkage)
    → IsOther (check_linkage block item linkage)
linkage-other block item None = meets_ok tt tt
linkage-other block item (Some linkage) =
    other_required (is_module_level block && is_none (base_of item.subject)) MisplacedLinkage
    (place_of_linkage linkage) not_of_names

pub objects-other : (block : Block) (item : TypedItem) (names : List Identifier) (progress : Progress)
    → IsOther (with_objects block item names progress)
objects-other block item [] progress = meets_ok tt tt
objects-other block item (name ∷ others) progress =
    after_other
    (other_required
    (nat_le (with_typed_object item.linkage (object_named block item name.name) progress).frame FRAME_LIMIT)
    TooLarge (place_of name) not_of_names) λ _ _.
    objects-other block item others
    (with_typed_object item.linkage (object_named block item name.name) progress)

-- statements
pub goto-other : (place : Place) (binding : Binding) → IsOther (goto_bound place binding)
goto-other place (Declared (Label label)) = meets_ok tt tt
goto-other place binding = meets_fault NoLabel place not_of_names

pub counter-other : (known : Known) (binding : Binding) (name : Identifier)
    → IsOther (counter_bound known binding name)
counter-other known (Declared (Object number)) name =
    after_other (object-other known name number) λ object _.
    after_other (writable-other object name) λ _ _.
    after_other
    (other_required (is_none object.dimension && is_not_based object.home) NoCounter (place_of name)
    not_of_names) λ _ _.
    after_other (other_found (scalar_of object.object_type) NoCounter (place_of name) not_of_names)
    λ scalar _.
    meets_ok tt tt
counter-other known binding name = meets_fault NoVariable (place_of name) not_of_names

-- procedures
pub visibility-other : (block : Block) (linkage : Option Linkage) → IsOther (check_visibility block linkage)
visibility-other block None = meets_ok tt tt
visibility-other block (Some linkage) =
    other_required (is_module_level block) MisplacedLinkage (place_of_linkage linkage) not_of_names

pub reentrant-other : (linkage : Option Linkage) (place : Option Place)
    → IsOther (check_reentrant linkage place)
reentrant-other linkage None = meets_ok tt tt
reentrant-other linkage (Some place) =
    other_required (not (is_external_linkage linkage)) ReentrantExternal place not_of_names

parameter-other : (parameter : Identifier) (entity : Option Entity)
    → IsOther (parameter_object parameter entity)
parameter-other parameter (Some (Object number)) = meets_ok tt tt
parameter-other parameter entity = meets_fault ParameterNotDeclared (place_of parameter) not_of_names

pub parameters-other : (here : Here) (parameters : List Identifier)
    → IsOther (parameter_objects here parameters)
parameters-other here [] = meets_ok tt tt
parameters-other here (parameter ∷ others) =
    after_other (parameter-other parameter (lookup (bytes_eq parameter.name) here.body.block)) λ object _.
    after_other (parameters-other here others) λ rest _.
    meets_ok tt tt

pub body-other : (heading : HeadingTree) (body : StatementTrees) → IsOther (check_body heading body)
body-other heading NoStatements = meets_ok tt tt
body-other heading (MoreStatements first others) =
    other_required (not (is_external_linkage heading.linkage)) ExternalContents
    (place_of_statement first) not_of_names
