-- The code of statements as it is measured: the bytes that it takes, those that it pushes, and the labels that it
-- refers to.
use Rattle.std.specs.Prelude.{◌≡◌, ℕ, ◌+◌, ◌≤◌, Bool, List, Option, Some}
use Rattle.typed_trees.specs.TypedTrees.{TypedExpression, TypedList, TypedStatement, LabelStatement}
use Rattle.typed_trees.specs.Weight.{weight_of_list, weight_of_statement}
use Rattle.asm8080.specs.declared.item.Item.{Item}
use Rattle.asm8080.specs.Items.{size_of_items}
use Rattle.treecode.specs.declared.expression.ExpressionNumber.{ExpressionNumber}
use Rattle.treecode.specs.declared.lists.Range.{Range}
use Rattle.treecode.specs.declared.statement.StatementNumber.{StatementNumber}
use Rattle.steps8080.specs.declared.facts.Facts.{Facts}
use Rattle.steps8080.specs.declared.step.LabelNumber.{LabelNumber}
use Rattle.statements8080.specs.declared.body.Body.{Body}
use Rattle.statements8080.specs.declared.plan.Planned.{Planned}
use Rattle.statements8080.specs.internal.Branches.{goto_label}
use Rattle.codegen8080.specs.declared.meeting.Here.{Here}
use Rattle.codegen8080.specs.internal.Generated.{AreCarriedOut, IsCarriedOut, IsListCarriedOut, site_of}
use Rattle.measure_laws.specs.internal.Footprints.{HoldsWithin, IsWithin, Source}
use Rattle.measure_laws.specs.internal.Heights.{FindsRoom}
use Rattle.codegen8080.specs.internal.ItemLabels.{ItemsBind, ItemsGo}
use Rattle.measure_laws.specs.internal.ItemLabels.{Knows}
use Rattle.measure_laws.specs.internal.Sizes.{bytes_for}

-- What the code of a body is measured by: the source of its tree code, the bytes that are free at each jump and label,
-- and the labels that may be referred to. Bytes and labels may not count, and pushes may not.
pub record BodyGround : Type 1 where
  pub body : Body
  pub called : List Bool
  pub source : Source body.tree.now
  pub level : ℕ
  pub ok : ℕ → Type 0
  pub counts : Type 0
  pub pushes : Type 0
  pub knows : counts → Knows ok (site_of body) called

-- a label may be referred to, where labels count; those that items bind may be
abbrev pub MayGo : BodyGround → (label : ℕ) → Type 0
MayGo at label = at.counts → at.ok label

abbrev pub MayBind : BodyGround → List Item → Type 0
MayBind at list = (label : ℕ) → ItemsBind label list → MayGo at label

-- an expression needs no more bytes than the level
abbrev pub IsWithinLevel : (at : BodyGround) → ExpressionNumber → TypedExpression → Type 0
IsWithinLevel at value expression = IsWithin at.body.tree.now at.source at.level value expression

abbrev pub HoldsWithinLevel : (at : BodyGround) → TypedExpression → Type 0
HoldsWithinLevel at expression = HoldsWithin at.body.tree.now at.source at.level expression

-- items find room, with `free` bytes free before them and `after` bytes after them; they take at most `most` bytes,
-- and refer only to labels that may be referred to
pub record ItemsMeasured (at : BodyGround) (free : ℕ) (list : List Item) (after most : ℕ) : Type 0 where
  pub room : at.pushes → FindsRoom at.body.tree.now at.level free list after
  pub small : at.counts → size_of_items list ≤ most
  pub goes : at.counts → ItemsGo at.ok list

-- the same for the code of planned steps, wherever it is placed
pub record PlanMeasured (at : BodyGround) (free : ℕ) (planned : List Planned) (after most : ℕ) : Type 0 where
  pub fits :
      {here last : Here} {waiting : Option Facts} {list : List Item}
      → AreCarriedOut at.body at.called here waiting planned list last
      → MayBind at list
      → ItemsMeasured at free list after most

-- with all bytes of the level free at both ends
abbrev pub PlanFootprint : (at : BodyGround) → List Planned → (most : ℕ) → Type 0
PlanFootprint at planned most = PlanMeasured at at.level planned at.level most

-- the number of bytes that the code of a statement leaves free, of those for its weight: for an entry in the
-- table of a DO CASE, and for the jump after it
abbrev pub SPARED_BY_STATEMENT : ℕ
SPARED_BY_STATEMENT = 8

-- a label weighs nothing, and leaves no byte free
abbrev pub spared_by : TypedStatement → ℕ
spared_by (LabelStatement label) = 0
spared_by statement = SPARED_BY_STATEMENT

-- a statement that is a GOTO goes to a label that may be referred to
abbrev pub MayGoTo : BodyGround → StatementNumber → Type 0
MayGoTo at number = (label : LabelNumber) → goto_label at.body number ≡ Some label → MayGo at label.index

-- the footprint of a statement: its code is not too long for its tree
pub record StatementMeasured (at : BodyGround) (list : List Item) (tree : TypedStatement) : Type 0 where
  pub most : ℕ
  pub measured : ItemsMeasured at at.level list at.level most
  pub enough : at.counts → most + spared_by tree ≤ bytes_for (weight_of_statement tree)

pub record StatementFootprint (at : BodyGround) (number : StatementNumber) (tree : TypedStatement) : Type 0 where
  pub fits :
      {before : Facts} {after : Here} {list : List Item}
      → IsCarriedOut at.body at.called before number list after
      → MayBind at list
      → StatementMeasured at list tree
  pub goto : MayGoTo at number

-- the footprint of a list
pub record ListFootprint (at : BodyGround) (range : Range) (tree : TypedList) : Type 0 where
  pub fits :
      {before : Facts} {after : Here} {list : List Item}
      → IsListCarriedOut at.body at.called before range list after
      → MayBind at list
      → ItemsMeasured at at.level list at.level (bytes_for (weight_of_list tree))
