-- Conditions on a placement and on typed trees under which known values are the values of expressions.
use Rattle.std.specs.Prelude.{◌≡◌, ℕ, ◌+◌, ◌%◌, ◌<◌, Bool, List, length, None}
use Rattle.mem80.specs.declared.memory.TheConstants.{MEMORY_SIZE}
use Rattle.typed_trees.specs.ExpressionTypes.{type_of}
use Rattle.typed_trees.specs.TypedTrees.{TypedExpression, NumberNode, ValueNode, LocationNode, ListNode, ConversionNode, AssignmentNode, UnaryNode, BinaryNode, CallNode, FunctionNode, ShiftNode, InputNode, TypedReference, PartOf, Subscript, NoSubscript, At}
use Rattle.layout.specs.Storage.{Storage}
use Rattle.meaning.specs.Access.{InMemory, Surroundings, home_of}
use Rattle.meaning.specs.Meaning.{address_of_list, based_place}
use Rattle.meaning.specs.Outcomes.{State, Gave}
use Rattle.treecode.specs.declared.place.Home.{Home}
use Rattle.treecode.specs.declared.place.Home.TheVariants as homes
use Rattle.treecode.specs.declared.place.Place.{Place}
use Rattle.treecode.specs.declared.place.Place.TheVariants.{Number, Code}
use Rattle.treecode.specs.internal.Homes.{number_of_place, place_after}
use Rattle.treecode.specs.internal.Known.{offset_of_list}
use Rattle.treecode.specs.internal.Nodes.{home_at}

-- The places of a module have addresses in the program: those of the objects and lists that begin there.
pub record Resolves
    (around : Surroundings) (starts : List Home) (storage : Storage) (address : Place → ℕ) : Type 0 where
  pub number : (number : ℕ) → address (Number number) ≡ number
  pub below : (place : Place) → number_of_place place ≡ None → address place < 65536
  pub after : (place : Place) (distance : ℕ) → address (place_after place distance)
      ≡ (address place + distance) % 65536
  pub list : (list : ℕ) → list < length storage.lists → address_of_list around list ≡ address (Code (offset_of_list storage list))
  pub object :
      (object : ℕ) (place : Place) (bytes : ℕ) (is_inside : Bool) (s : State)
      → home_at starts object ≡ homes.Static place
      → based_place (home_of around object) around object bytes is_inside s
      ≡ Gave (InMemory ((address place + bytes) % MEMORY_SIZE)) s

abbrev mutual
  -- The operands of each operator in an expression have its type, and its constant lists are among the first
  -- `lists`.
  pub HaveOperands : (lists : ℕ) → TypedExpression → Type 0
  HaveOperands lists (NumberNode scalar number origin) = Unit {0}
  HaveOperands lists (ValueNode scalar reference) = PartHasOperands lists reference
  HaveOperands lists (LocationNode reference) = PartHasOperands lists reference
  HaveOperands lists (ListNode list) = list < lists
  HaveOperands lists (ConversionNode scalar inner) = HaveOperands lists inner
  HaveOperands lists (AssignmentNode target inner) = HaveOperands lists inner
  HaveOperands lists (UnaryNode scalar operator operand) = HaveOperands lists operand
  HaveOperands lists (BinaryNode operands operator left right) =
      (type_of left ≡ operands) × (type_of right ≡ operands) × HaveOperands lists left × HaveOperands lists right
  HaveOperands lists (CallNode procedure scalar given) = Unit {0}
  HaveOperands lists (FunctionNode function operand) = HaveOperands lists operand
  HaveOperands lists (ShiftNode scalar function moved count) = HaveOperands lists moved × HaveOperands lists count
  HaveOperands lists (InputNode port) = Unit {0}

  pub PartHasOperands : (lists : ℕ) → TypedReference → Type 0
  PartHasOperands lists (PartOf object subscript member offset member_subscript) =
      SubscriptHasOperands lists subscript × SubscriptHasOperands lists member_subscript

  pub SubscriptHasOperands : (lists : ℕ) → Subscript → Type 0
  SubscriptHasOperands lists NoSubscript = Unit {0}
  SubscriptHasOperands lists (At stride count index) = HaveOperands lists index
