-- The footprint of the steps of a planner: the bytes of their code, the bytes that it pushes, whether pushes and
-- pops meet, and the labels that it refers to.
use Rattle.std.specs.Prelude.{◌≡◌, ℕ, ◌+◌, ◌-◌, ◌*◌, ◌≤◌, List, [], ◌∷◌, length, slice_get, Some}
use Rattle.trees.specs.declared.declaration.ScalarType.{ScalarType}
use Rattle.trees.specs.declared.declaration.ScalarType.TheVariants as scalars
use Rattle.isa8080.specs.declared.instr.Instr.{Instr}
use Rattle.isa8080.specs.declared.instr.Instr.TheVariants as instructions
use Rattle.isa8080.specs.declared.instr.Pair.TheVariants.{Sp}
use Rattle.asm8080.specs.declared.item.WordForm.{WordForm}
use Rattle.asm8080.specs.declared.item.WordForm.TheVariants as word_forms
use Rattle.asm8080.specs.Standing.{size_of_instruction}
use Rattle.typed_trees.specs.Charge.{height_of, height_of_arguments, height_of_reference, height_of_target}
use Rattle.typed_trees.specs.TypedTrees.{SentTo, StoredIn, TypedArguments, TypedExpression, TypedModule, TypedProcedure, TypedReference, TypedTarget}
use Rattle.typed_trees.specs.WellTyped.{TypesHold, TypesHoldInArguments, TypesHoldInReference, Within}
use Rattle.layout.specs.Storage.{Storage}
use Rattle.treecode.specs.declared.expression.ExpressionForm.{ExpressionForm}
use Rattle.treecode.specs.declared.expression.ExpressionForm.TheVariants as forms
use Rattle.treecode.specs.declared.expression.ExpressionNumber.{ExpressionNumber}
use Rattle.treecode.specs.declared.lists.Range.{Range}
use Rattle.treecode.specs.declared.module.TreeModule.{TreeModule}
use Rattle.treecode.specs.declared.reference.Reference.{Reference}
use Rattle.treecode.specs.declared.reference.Target.{Target}
use Rattle.treecode.specs.internal.Lowered.{AreArguments, IsExpression, IsReference, IsTarget}
use Rattle.treecode.specs.internal.Nodes.{nodes_of}
use Rattle.treecode.specs.internal.Traits.{traits_at}
use Rattle.steps8080.specs.declared.step.Step.{Step}
use Rattle.steps8080.specs.declared.step.Step.TheVariants as steps
use Rattle.steps8080.specs.declared.step.Task.{Task}
use Rattle.steps8080.specs.declared.step.Task.TheVariants as tasks
use Rattle.steps8080.specs.declared.sites.site.Site.{Site}
use Rattle.measure_laws.specs.internal.Weights.{weight_of_indices, weight_in_target, weight_of_given, beside_at}
use Rattle.measure_laws.specs.internal.Heights.{taken_by}
use Rattle.measure_laws.specs.internal.Sizes.{BYTES_OF_ADDRESS, BYTES_OF_CALL}

-- the weight of an expression beside 1, at a site; that of the subscripts of a reference; that of arguments
abbrev pub beside : Site → ExpressionNumber → ℕ
beside site number = beside_at (nodes_of site.tree.now) number.index

abbrev pub indices : Site → Reference → ℕ
indices site reference = weight_of_indices (beside_at (nodes_of site.tree.now)) reference

abbrev pub given : Site → Range → ℕ
given site arguments =
    weight_of_given (beside_at (nodes_of site.tree.now)) site.tree.now.arguments.items arguments.first arguments.count

-- the type of an expression
abbrev pub type_at : Site → ExpressionNumber → ScalarType
type_at site number = (traits_at (nodes_of site.tree.now) number).scalar

-- A value that is moved to its register from the other one takes more bytes.
abbrev pub more_for_byte : ScalarType → ℕ
more_for_byte scalars.Byte = 0
more_for_byte scalars.Address = 4

abbrev pub more_for_word : ScalarType → ℕ
more_for_word scalars.Byte = 4
more_for_word scalars.Address = 0

-- the source of the tree code of a body: its typed module, the storage of that module, and the place of the
-- body in it; each procedure takes as many arguments as it has parameter types
pub record Source (tree : TreeModule) : Type 0 where
  pub typed : TypedModule
  pub storage : Storage
  pub within : Within
  pub takes :
      (procedure : ℕ) (heading : TypedProcedure)
      → slice_get typed.procedures procedure ≡ Some heading
      → taken_by tree procedure ≡ 2 * (length heading.parameter_types - 1)

-- What the steps of a site are measured by: the source of its tree code, the bytes that are free at each jump and
-- label, and the labels that may be referred to.
pub record Ground : Type 1 where
  pub site : Site
  pub source : Source site.tree.now
  pub level : ℕ
  pub ok : ℕ → Type 0

-- any label may be referred to: where labels do not count
abbrev pub anywhere : (label : ℕ) → Type 0
anywhere label = Unit {0}

-- the expression with this number is a tree that needs no more bytes than are free, with `before` of them taken
pub record Needs (tree : TreeModule) (source : Source tree) (before free : ℕ) (number : ExpressionNumber) :
    Type 0 where
  pub bound : ℕ
  pub expression : TypedExpression
  pub node : IsExpression (nodes_of tree) source.storage bound number.index expression
  pub types : TypesHold source.typed source.within expression
  pub room : before + 2 * height_of expression ≤ free
  pub byte_small : more_for_byte (traits_at (nodes_of tree) number).scalar ≤ 4
  pub word_small : more_for_word (traits_at (nodes_of tree) number).scalar ≤ 4

-- an expression of the tree code with its types
pub record IsTyped (tree : TreeModule) (source : Source tree) (number : ExpressionNumber) (expression : TypedExpression) :
    Type 0 where
  pub bound : ℕ
  pub node : IsExpression (nodes_of tree) source.storage bound number.index expression
  pub types : TypesHold source.typed source.within expression

-- the same, where it needs no more bytes than the level
pub record IsWithin
    (tree : TreeModule) (source : Source tree) (level : ℕ) (number : ExpressionNumber) (expression : TypedExpression) :
    Type 0 where
  pub typed : IsTyped tree source number expression
  pub room : 2 * height_of expression ≤ level

abbrev pub HoldsWithin : (tree : TreeModule) → Source tree → (level : ℕ) → TypedExpression → Type 0
HoldsWithin tree source level expression =
    TypesHold source.typed source.within expression × (2 * height_of expression ≤ level)

-- a part of an object
pub record Places (tree : TreeModule) (source : Source tree) (free : ℕ) (reference : Reference) : Type 0 where
  pub bound : ℕ
  pub part : TypedReference
  pub node : IsReference (nodes_of tree) source.storage bound reference part
  pub types : TypesHoldInReference source.typed source.within part
  pub room : 2 * height_of_reference part ≤ free

-- the subscripts of a target are well typed
abbrev pub AimHolds : TypedModule → Within → TypedTarget → Type 0
AimHolds typed within (StoredIn from to reference) = TypesHoldInReference typed within reference
AimHolds typed within (SentTo from port) = Unit {0}

-- a target, with a word that may be pushed before its address is computed
pub record Aims (tree : TreeModule) (source : Source tree) (free : ℕ) (target : Target) : Type 0 where
  pub bound : ℕ
  pub to : TypedTarget
  pub node : IsTarget (nodes_of tree) source.storage bound target to
  pub types : AimHolds source.typed source.within to
  pub room : 2 + 2 * height_of_target to ≤ free

-- the arguments of a call, as many as the procedure takes
pub record Gives (tree : TreeModule) (source : Source tree) (free procedure : ℕ) (arguments : Range) : Type 0 where
  pub bound : ℕ
  pub trees : TypedArguments
  pub node : AreArguments (nodes_of tree) source.storage bound arguments.first arguments.count trees
  pub types : TypesHoldInArguments source.typed source.within trees
  pub takes : taken_by tree procedure ≡ 2 * (arguments.count - 1)
  pub room : 2 * (1 + arguments.count + height_of_arguments trees) ≤ free

-- the same on this ground: an operand, one with a word pushed before, a part of an object, a target, arguments
abbrev pub IsOperand : (at : Ground) (free : ℕ) → ExpressionNumber → Type 0
IsOperand at free number = Needs at.site.tree.now at.source 0 free number

abbrev pub IsBelow : (at : Ground) (free : ℕ) → ExpressionNumber → Type 0
IsBelow at free number = Needs at.site.tree.now at.source 2 free number

abbrev pub IsPlaced : (at : Ground) (free : ℕ) → Reference → Type 0
IsPlaced at free reference = Places at.site.tree.now at.source free reference

abbrev pub IsAimed : (at : Ground) (free : ℕ) → Target → Type 0
IsAimed at free target = Aims at.site.tree.now at.source free target

abbrev pub AreGiven : (at : Ground) (free procedure : ℕ) → Range → Type 0
AreGiven at free procedure arguments = Gives at.site.tree.now at.source free procedure arguments

-- A task is for a tree that needs no more bytes than are free. Only a branch jumps: it is at the level, and goes to
-- one of the labels.
abbrev pub TaskIsOf :
    (tree : TreeModule) → Source tree → (level : ℕ) (ok : ℕ → Type 0) (free : ℕ) → Task → Type 0
TaskIsOf tree source level ok free (tasks.Byte number) = Needs tree source 0 free number
TaskIsOf tree source level ok free (tasks.Word number) = Needs tree source 0 free number
TaskIsOf tree source level ok free (tasks.Effects number) = Needs tree source 0 free number
TaskIsOf tree source level ok free (tasks.Branch condition label sense) =
    Needs tree source 0 level condition × (level ≡ free) × ok label.index
TaskIsOf tree source level ok free (tasks.Address reference) = Places tree source free reference
TaskIsOf tree source level ok free (tasks.Store target is_wanted) = Aims tree source free target
TaskIsOf tree source level ok free (tasks.Call procedure arguments) = Gives tree source free procedure arguments

abbrev pub IsOfTree : (at : Ground) (free : ℕ) → Task → Type 0
IsOfTree at free task = TaskIsOf at.site.tree.now at.source at.level at.ok free task

-- the parts of the tree with this number, and their weights
pub record HasOne (at : Ground) (free : ℕ) (number inner : ExpressionNumber) : Type 0 where
  pub one : IsBelow at free inner
  pub same : beside at.site number ≡ 1 + beside at.site inner

pub record HasInner (at : Ground) (free : ℕ) (number inner : ExpressionNumber) : Type 0 where
  pub one : IsOperand at free inner
  pub same : beside at.site number ≡ 1 + beside at.site inner

pub record HasTwo (at : Ground) (free : ℕ) (number left right : ExpressionNumber) : Type 0 where
  pub one : IsBelow at free left
  pub two : IsBelow at free right
  pub same : beside at.site number ≡ 2 + beside at.site left + beside at.site right

pub record HasPlace (at : Ground) (free : ℕ) (number : ExpressionNumber) (reference : Reference) : Type 0 where
  pub place : IsPlaced at free reference
  pub same : beside at.site number ≡ indices at.site reference

pub record HasTarget
    (at : Ground) (free : ℕ) (number : ExpressionNumber) (target : Target) (value : ExpressionNumber) : Type 0 where
  pub to : IsAimed at free target
  pub one : IsBelow at free value
  pub same : beside at.site number
      ≡ 2 + weight_in_target (beside_at (nodes_of at.site.tree.now)) target + beside at.site value

pub record HasArguments (at : Ground) (free : ℕ) (number : ExpressionNumber) (procedure : ℕ) (arguments : Range) :
    Type 0 where
  pub are : AreGiven at free procedure arguments
  pub same : beside at.site number ≡ given at.site arguments

abbrev pub HasParts : (at : Ground) (free : ℕ) (number : ExpressionNumber) → ExpressionForm → Type 0
HasParts at free number (forms.Value reference) = HasPlace at free number reference
HasParts at free number (forms.Location reference) = HasPlace at free number reference
HasParts at free number (forms.Conversion inner) = HasInner at free number inner
HasParts at free number (forms.Assignment target value) = HasTarget at free number target value
HasParts at free number (forms.Unary operator operand) = HasOne at free number operand
HasParts at free number (forms.Binary operands operator left right) = HasTwo at free number left right
HasParts at free number (forms.Call procedure arguments) = HasArguments at free number procedure arguments
HasParts at free number (forms.Function function operand) = HasOne at free number operand
HasParts at free number (forms.Shift function value count) = HasTwo at free number value count
HasParts at free number form = Unit {0}

-- the bytes that an instruction leaves of `free` are enough for the rest
abbrev pub GoesOn : (level free : ℕ) → Instr → (Rest : ℕ → Type 0) → Type 0
GoesOn level free (instructions.Push pair) Rest = (2 ≤ free) × Rest (free - 2)
GoesOn level free (instructions.Pop pair) Rest = Rest (free + 2)
GoesOn level free (instructions.Inx Sp) Rest = Rest (free + 1)
GoesOn level free (instructions.Lxi Sp word) Rest = ⊥
GoesOn level free (instructions.Dcx Sp) Rest = ⊥
GoesOn level free instructions.Hlt Rest = Rest level
GoesOn level free instructions.Ret Rest = Rest level
GoesOn level free instructions.Pchl Rest = (level ≤ free) × Rest level
GoesOn level free (instructions.ReturnIf condition) Rest = ⊥
GoesOn level free (instructions.JumpIf condition word) Rest = ⊥
GoesOn level free (instructions.CallIf condition word) Rest = ⊥
GoesOn level free (instructions.Jmp word) Rest = ⊥
GoesOn level free (instructions.Call word) Rest = ⊥
GoesOn level free (instructions.Rst number) Rest = ⊥
GoesOn level free instructions.Sphl Rest = ⊥
GoesOn level free instruction Rest = Rest free

-- the same for an instruction with a word, and for one with a label
abbrev pub GoesOnWithWord : (free : ℕ) → WordForm → (Rest : ℕ → Type 0) → Type 0
GoesOnWithWord free (word_forms.LoadPair Sp) Rest = ⊥
GoesOnWithWord free word_forms.Jump Rest = ⊥
GoesOnWithWord free (word_forms.JumpWhere condition) Rest = ⊥
GoesOnWithWord free word_forms.CallTo Rest = ⊥
GoesOnWithWord free (word_forms.CallWhere condition) Rest = ⊥
GoesOnWithWord free form Rest = Rest free

abbrev pub GoesOnWithLabel : (level free : ℕ) → WordForm → (Rest : ℕ → Type 0) → Type 0
GoesOnWithLabel level free (word_forms.LoadPair Sp) Rest = ⊥
GoesOnWithLabel level free word_forms.Jump Rest = (level ≤ free) × Rest level
GoesOnWithLabel level free (word_forms.JumpWhere condition) Rest = (level ≤ free) × Rest free
GoesOnWithLabel level free word_forms.CallTo Rest = ⊥
GoesOnWithLabel level free (word_forms.CallWhere condition) Rest = ⊥
GoesOnWithLabel level free form Rest = Rest free

-- steps find room, each part according to its tree, and their pushes and pops meet; jumps go to the labels
abbrev pub Goes :
    (tree : TreeModule) → Source tree → (level : ℕ) (ok : ℕ → Type 0) (free : ℕ) → List Step → (after : ℕ) → Type 0
Goes tree source level ok free [] after = free ≡ after
Goes tree source level ok free (steps.Plain i ∷ others) after =
    GoesOn level free i (λ left. Goes tree source level ok left others after)
Goes tree source level ok free (steps.Word form place ∷ others) after =
    GoesOnWithWord free form (λ left. Goes tree source level ok left others after)
Goes tree source level ok free (steps.Jump form label ∷ others) after =
    ok label.index × GoesOnWithLabel level free form (λ left. Goes tree source level ok left others after)
Goes tree source level ok free (steps.Mark label ∷ others) after =
    (level ≤ free) × Goes tree source level ok level others after
Goes tree source level ok free (steps.CallRoutine routine ∷ others) after =
    (2 ≤ free) × Goes tree source level ok free others after
Goes tree source level ok free (steps.CallProcedure procedure ∷ others) after =
    (2 ≤ free) × Goes tree source level ok (free + taken_by tree procedure) others after
Goes tree source level ok free (steps.TestA ∷ others) after = Goes tree source level ok free others after
Goes tree source level ok free (steps.Holds held ∷ others) after = Goes tree source level ok free others after
Goes tree source level ok free (steps.MemoryChanged ∷ others) after = Goes tree source level ok free others after
Goes tree source level ok free (steps.Part part ∷ others) after =
    TaskIsOf tree source level ok free part.task × Goes tree source level ok free others after

abbrev pub Go : (at : Ground) (free : ℕ) → List Step → (after : ℕ) → Type 0
Go at free planned after = Goes at.site.tree.now at.source at.level at.ok free planned after

-- the greatest size of a step in bytes, from those of the tasks of parts
abbrev pub size_of_step : (Task → ℕ) → Step → ℕ
size_of_step size (steps.Plain i) = size_of_instruction i
size_of_step size (steps.Mark label) = 0
size_of_step size steps.TestA = 1
size_of_step size (steps.Holds held) = 0
size_of_step size steps.MemoryChanged = 0
size_of_step size (steps.Part part) = size part.task
size_of_step size step = 3

-- the same for steps
abbrev pub size_of_steps : (Task → ℕ) → List Step → ℕ
size_of_steps size [] = 0
size_of_steps size (step ∷ others) = size_of_step size step + size_of_steps size others

-- the greatest size of the code of a task in bytes
abbrev pub bytes_of_task : TreeModule → Task → ℕ
bytes_of_task tree (tasks.Byte number) =
    72 + more_for_byte (traits_at (nodes_of tree) number).scalar + 128 * beside_at (nodes_of tree) number.index
bytes_of_task tree (tasks.Word number) =
    72 + more_for_word (traits_at (nodes_of tree) number).scalar + 128 * beside_at (nodes_of tree) number.index
bytes_of_task tree (tasks.Effects number) = 72 + 128 * beside_at (nodes_of tree) number.index
bytes_of_task tree (tasks.Branch condition label sense) = 80 + 128 * beside_at (nodes_of tree) condition.index
bytes_of_task tree (tasks.Address reference) = BYTES_OF_ADDRESS + 128 * weight_of_indices (beside_at (nodes_of tree)) reference
bytes_of_task tree (tasks.Store target is_wanted) = 64 + 128 * weight_in_target (beside_at (nodes_of tree)) target
bytes_of_task tree (tasks.Call procedure arguments) =
    BYTES_OF_CALL + 128 * weight_of_given (beside_at (nodes_of tree)) tree.arguments.items arguments.first arguments.count

-- The footprint: with `free` bytes free before the code and `after` bytes after it, the code finds room and
-- refers to labels that may be referred to; it has at most `size` bytes.
pub record Footprint (at : Ground) (free : ℕ) (planned : List Step) (after size : ℕ) : Type 0 where
  pub go : Go at free planned after
  pub small : size_of_steps (bytes_of_task at.site.tree.now) planned ≤ size
