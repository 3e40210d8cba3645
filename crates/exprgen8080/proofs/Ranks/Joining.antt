-- Steps with parts that rank below a limit: one after another, repeated, and by an optional value.
use Rattle.exprgen8080.proofs.Prelude.{◌≡◌, ◌+◌, ◌*◌, ◌<◌, ◌∷◌, [], if◌then◌else◌, AreBelow, ap, Bool, ExpressionNumber, IfSome, Instr, List, None, NumbersRise, Option, Part, Reference, ScalarType, Site, Some, Step, Target, Task, TreeModule, arith, false, labels_from, marks_of, nodes_of, rank, rank_of_byte, rank_of_word, reference_bound, refl, repeat_steps, subst, suc, target_bound, true, type_in, zero, ℕ, ◌∙◌, ◌++◌}
use Rattle.trees.specs.declared.declaration.ScalarType.TheVariants as scalars
use Rattle.treecode.specs.internal.Named.{NamesItsOwn}
use Rattle.steps8080.specs.declared.step.Step.TheVariants as steps
use Rattle.steps8080.specs.declared.step.Task.TheVariants as tasks
use Rattle.steps8080.proofs.SiteNames.{IsOwn}
use Rattle.exprgen8080.specs.internal.Named.{PlacesAreNamed}

-- the tasks of an expression with this number rank below a limit
pub record IsUnder (tree : TreeModule) (limit : ℕ) (number : ExpressionNumber) : Type 0 where
  pub rises : NumbersRise (nodes_of tree)
  pub small : suc number.index * 16 + 4 < limit

-- those of its parts do
pub record HasLowParts (tree : TreeModule) (limit : ℕ) (number : ExpressionNumber) : Type 0 where
  pub rises : NumbersRise (nodes_of tree)
  pub small : number.index * 16 + 6 < limit

-- those of a part of an object, and of a target, do
pub record IsPlaced (tree : TreeModule) (limit : ℕ) (reference : Reference) : Type 0 where
  pub rises : NumbersRise (nodes_of tree)
  pub small : reference_bound reference * 16 + 5 < limit

pub record IsAimed (tree : TreeModule) (limit : ℕ) (target : Target) : Type 0 where
  pub rises : NumbersRise (nodes_of tree)
  pub small : target_bound target * 16 + 6 < limit

pub weak : {tree : TreeModule} {limit : ℕ} {number : ExpressionNumber}
    → IsUnder tree limit number → HasLowParts tree limit number
weak is = record { rises = is.rises; small = omega (arith, is.small) }

-- the task of a part is one of an expression, a part of an object or a target of which this holds
abbrev pub IsLow : (tree : TreeModule) → (limit : ℕ) → Task → Type 0
IsLow tree limit (tasks.Byte number) = IsUnder tree limit number
IsLow tree limit (tasks.Word number) = IsUnder tree limit number
IsLow tree limit (tasks.Effects number) = IsUnder tree limit number
IsLow tree limit (tasks.Branch condition label sense) = IsUnder tree limit condition
IsLow tree limit (tasks.Address reference) = IsPlaced tree limit reference
IsLow tree limit (tasks.Store target is_wanted) = IsAimed tree limit target
IsLow tree limit (tasks.Call procedure arguments) = ⊥

abbrev pub AreLow : (tree : TreeModule) → (limit : ℕ) → List Step → Type 0
AreLow tree limit [] = Unit {0}
AreLow tree limit (steps.Part part ∷ others) = IsLow tree limit part.task × AreLow tree limit others
AreLow tree limit (steps.Mark label ∷ others) = ⊥
AreLow tree limit (steps.Word form place ∷ others) = IsOwn tree place × AreLow tree limit others
AreLow tree limit (step ∷ others) = AreLow tree limit others

-- The parts of steps rank below a limit, the steps mark no label, and each place in them is named by the module, if all
-- that it refers to is.
pub record Falls (site : Site) (limit : ℕ) (planned : List Step) : Type 0 where
  pub below : AreBelow site.tree.now limit planned
  pub unmarked : marks_of planned ≡ []
  pub named : NamesItsOwn site.tree.now → PlacesAreNamed site.tree.now planned

-- the same for steps that mark each of the labels that they take
pub record FallsMarking (site : Site) (limit first count : ℕ) (planned : List Step) : Type 0 where
  pub below : AreBelow site.tree.now limit planned
  pub marked : marks_of planned ≡ labels_from first count
  pub named : NamesItsOwn site.tree.now → PlacesAreNamed site.tree.now planned

pub taking_none :
    {site : Site} {limit first : ℕ} {planned : List Step}
    → Falls site limit planned
    → FallsMarking site limit first 0 planned
taking_none falls = record { below = falls.below; marked = falls.unmarked; named = falls.named }

byte_rank : (bound : ℕ) (scalar : ScalarType) (limit : ℕ) → bound * 16 + 4 < limit
    → rank_of_byte bound scalar < limit
byte_rank bound scalars.Byte limit small = omega (arith, small)
byte_rank bound scalars.Address limit small = omega (arith, small)

word_rank : (bound : ℕ) (scalar : ScalarType) (limit : ℕ) → bound * 16 + 4 < limit
    → rank_of_word bound scalar < limit
word_rank bound scalars.Byte limit small = omega (arith, small)
word_rank bound scalars.Address limit small = omega (arith, small)

low_rank : (tree : TreeModule) (limit : ℕ) (task : Task) → IsLow tree limit task → rank tree task < limit
low_rank tree limit (tasks.Byte number) is = byte_rank (suc number.index) (type_in tree number) limit is.small
low_rank tree limit (tasks.Word number) is = word_rank (suc number.index) (type_in tree number) limit is.small
low_rank tree limit (tasks.Effects number) is = omega (arith, is.small)
low_rank tree limit (tasks.Branch condition label sense) is = omega (arith, is.small)
low_rank tree limit (tasks.Address reference) is = is.small
low_rank tree limit (tasks.Store target is_wanted) is = is.small
low_rank tree limit (tasks.Call procedure arguments) is = absurd is

low_ranks : (tree : TreeModule) (limit : ℕ) (planned : List Step) → AreLow tree limit planned
    → AreBelow tree limit planned
low_ranks tree limit [] are = tt
low_ranks tree limit (steps.Part part ∷ others) are =
    (low_rank tree limit part.task are.0, low_ranks tree limit others are.1)
low_ranks tree limit (steps.Plain i ∷ others) are = low_ranks tree limit others are
low_ranks tree limit (steps.Word form place ∷ others) are = low_ranks tree limit others are.1
low_ranks tree limit (steps.Jump form label ∷ others) are = low_ranks tree limit others are
low_ranks tree limit (steps.Mark label ∷ others) are = absurd are
low_ranks tree limit (steps.CallRoutine routine ∷ others) are = low_ranks tree limit others are
low_ranks tree limit (steps.CallProcedure procedure ∷ others) are = low_ranks tree limit others are
low_ranks tree limit (steps.TestA ∷ others) are = low_ranks tree limit others are
low_ranks tree limit (steps.Holds held ∷ others) are = low_ranks tree limit others are
low_ranks tree limit (steps.MemoryChanged ∷ others) are = low_ranks tree limit others are

low_unmarked : (tree : TreeModule) (limit : ℕ) (planned : List Step) → AreLow tree limit planned
    → marks_of planned ≡ []
low_unmarked tree limit [] are = refl
low_unmarked tree limit (steps.Part part ∷ others) are = low_unmarked tree limit others are.1
low_unmarked tree limit (steps.Plain i ∷ others) are = low_unmarked tree limit others are
low_unmarked tree limit (steps.Word form place ∷ others) are = low_unmarked tree limit others are.1
low_unmarked tree limit (steps.Jump form label ∷ others) are = low_unmarked tree limit others are
low_unmarked tree limit (steps.Mark label ∷ others) are = absurd are
low_unmarked tree limit (steps.CallRoutine routine ∷ others) are = low_unmarked tree limit others are
low_unmarked tree limit (steps.CallProcedure procedure ∷ others) are = low_unmarked tree limit others are
low_unmarked tree limit (steps.TestA ∷ others) are = low_unmarked tree limit others are
low_unmarked tree limit (steps.Holds held ∷ others) are = low_unmarked tree limit others are
low_unmarked tree limit (steps.MemoryChanged ∷ others) are = low_unmarked tree limit others are

low_named : (tree : TreeModule) (limit : ℕ) (planned : List Step) → NamesItsOwn tree → AreLow tree limit planned
    → PlacesAreNamed tree planned
low_named tree limit [] own are = tt
low_named tree limit (steps.Word form place ∷ others) own are =
    (are.0.named own, low_named tree limit others own are.1)
low_named tree limit (steps.Part part ∷ others) own are = low_named tree limit others own are.1
low_named tree limit (steps.Plain i ∷ others) own are = low_named tree limit others own are
low_named tree limit (steps.Jump form label ∷ others) own are = low_named tree limit others own are
low_named tree limit (steps.Mark label ∷ others) own are = absurd are
low_named tree limit (steps.CallRoutine routine ∷ others) own are = low_named tree limit others own are
low_named tree limit (steps.CallProcedure procedure ∷ others) own are = low_named tree limit others own are
low_named tree limit (steps.TestA ∷ others) own are = low_named tree limit others own are
low_named tree limit (steps.Holds held ∷ others) own are = low_named tree limit others own are
low_named tree limit (steps.MemoryChanged ∷ others) own are = low_named tree limit others own are

pub falls : {site : Site} {limit : ℕ} {planned : List Step} → AreLow site.tree.now limit planned
    → Falls site limit planned
falls {site = site} {limit = limit} {planned = planned} are = record {
  below = low_ranks site.tree.now limit planned are;
  unmarked = low_unmarked site.tree.now limit planned are;
  named = λ own. low_named site.tree.now limit planned own are;
}

both_below : (tree : TreeModule) (limit : ℕ) (first others : List Step)
    → AreBelow tree limit first → AreBelow tree limit others → AreBelow tree limit (first ++ others)
both_below tree limit [] others one two = two
both_below tree limit (steps.Part part ∷ first) others one two =
    (one.0, both_below tree limit first others one.1 two)
both_below tree limit (steps.Plain i ∷ first) others one two = both_below tree limit first others one two
both_below tree limit (steps.Word form place ∷ first) others one two =
    both_below tree limit first others one two
both_below tree limit (steps.Jump form label ∷ first) others one two =
    both_below tree limit first others one two
both_below tree limit (steps.Mark label ∷ first) others one two = both_below tree limit first others one two
both_below tree limit (steps.CallRoutine routine ∷ first) others one two =
    both_below tree limit first others one two
both_below tree limit (steps.CallProcedure procedure ∷ first) others one two =
    both_below tree limit first others one two
both_below tree limit (steps.TestA ∷ first) others one two = both_below tree limit first others one two
both_below tree limit (steps.Holds held ∷ first) others one two = both_below tree limit first others one two
both_below tree limit (steps.MemoryChanged ∷ first) others one two =
    both_below tree limit first others one two

both_named : (tree : TreeModule) (first others : List Step)
    → PlacesAreNamed tree first → PlacesAreNamed tree others → PlacesAreNamed tree (first ++ others)
both_named tree [] others one two = two
both_named tree (steps.Word form place ∷ first) others one two =
    (one.0, both_named tree first others one.1 two)
both_named tree (steps.Part part ∷ first) others one two = both_named tree first others one two
both_named tree (steps.Plain i ∷ first) others one two = both_named tree first others one two
both_named tree (steps.Jump form label ∷ first) others one two = both_named tree first others one two
both_named tree (steps.Mark label ∷ first) others one two = both_named tree first others one two
both_named tree (steps.CallRoutine routine ∷ first) others one two = both_named tree first others one two
both_named tree (steps.CallProcedure procedure ∷ first) others one two = both_named tree first others one two
both_named tree (steps.TestA ∷ first) others one two = both_named tree first others one two
both_named tree (steps.Holds held ∷ first) others one two = both_named tree first others one two
both_named tree (steps.MemoryChanged ∷ first) others one two = both_named tree first others one two

both_marked : (first others : List Step) → marks_of (first ++ others) ≡ marks_of first ++ marks_of others
both_marked [] others = refl
both_marked (steps.Part part ∷ first) others = both_marked first others
both_marked (steps.Plain i ∷ first) others = both_marked first others
both_marked (steps.Word form place ∷ first) others = both_marked first others
both_marked (steps.Jump form label ∷ first) others = both_marked first others
both_marked (steps.Mark label ∷ first) others = ap (λ list. label.index ∷ list) (both_marked first others)
both_marked (steps.CallRoutine routine ∷ first) others = both_marked first others
both_marked (steps.CallProcedure procedure ∷ first) others = both_marked first others
both_marked (steps.TestA ∷ first) others = both_marked first others
both_marked (steps.Holds held ∷ first) others = both_marked first others
both_marked (steps.MemoryChanged ∷ first) others = both_marked first others

-- the first steps mark no label
others_marked : (first others : List Step) → marks_of first ≡ []
    → marks_of (first ++ others) ≡ marks_of others
others_marked first others none =
    both_marked first others ∙ ap (λ list. list ++ marks_of others) none

pub joined : {site : Site} {limit : ℕ} {first others : List Step}
    → Falls site limit first → Falls site limit others → Falls site limit (first ++ others)
joined {site = site} {limit = limit} {first = first} {others = others} one two = record {
  below = both_below site.tree.now limit first others one.below two.below;
  unmarked = others_marked first others one.unmarked ∙ two.unmarked;
  named = λ own. both_named site.tree.now first others (one.named own) (two.named own);
}

pub joined_marking : {site : Site} {limit at count : ℕ} {first others : List Step}
    → Falls site limit first → FallsMarking site limit at count others
    → FallsMarking site limit at count (first ++ others)
joined_marking {site = site} {limit = limit} {first = first} {others = others} one two = record {
  below = both_below site.tree.now limit first others one.below two.below;
  marked = others_marked first others one.unmarked ∙ two.marked;
  named = λ own. both_named site.tree.now first others (one.named own) (two.named own);
}

-- steps after a part, and after an instruction
pub after_part : {site : Site} {limit : ℕ} {part : Part} {others : List Step}
    → IsLow site.tree.now limit part.task → Falls site limit others
    → Falls site limit (steps.Part part ∷ others)
after_part {site = site} {limit = limit} {part = part} is two = record {
  below = (low_rank site.tree.now limit part.task is, two.below);
  unmarked = two.unmarked;
  named = two.named;
}

pub after_plain : {site : Site} {limit : ℕ} {i : Instr} {others : List Step}
    → Falls site limit others → Falls site limit (steps.Plain i ∷ others)
after_plain two = record { below = two.below; unmarked = two.unmarked; named = two.named }

-- an instruction `count` times
pub repeated : {site : Site} {limit : ℕ} (i : Instr) (count : ℕ) → Falls site limit (repeat_steps i count)
repeated i zero = falls tt
repeated i (suc count) = after_plain (repeated i count)

-- both branches of a test
pub by_test : {site : Site} {limit : ℕ} {first second : List Step} (b : Bool)
    → Falls site limit first → Falls site limit second → Falls site limit (if b then first else second)
by_test true one two = one
by_test false one two = two

-- whether a value is found or not
pub by_finding : {A : Type 0} {site : Site} {limit : ℕ} {some : A → List Step}
    {none : List Step} (found : Option A)
    → ((x : A) → found ≡ Some x → Falls site limit (some x))
    → (found ≡ None → Falls site limit none)
    → Falls site limit (elim found [ Some x ↦ some x | None ↦ none ])
by_finding (Some x) one two = one x refl
by_finding None one two = two refl

pub of_found : {A : Type 0} (P : A → Type 0) {found : Option A} {x : A} → IfSome found P
    → found ≡ Some x → P x
of_found P {x = x} is there = subst (λ of. IfSome of P) there is
