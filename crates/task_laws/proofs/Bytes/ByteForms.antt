-- The low byte of a value with one part: conversions, LOW, DOUBLE, NOT and `-`.
use Rattle.task_laws.proofs.Prelude.{◌≡◌, ℕ, ◌+◌, ◌-◌, ◌*◌, ◌%◌, ◌<◌, ◌≤◌, true, List, [], ◌∷◌, Option, None, refl, ap, ◌∙◌, arith, option_map_or, ScalarType, Byte, Address, Not, Negate, height_of, type_of, TypedExpression, TypesHold, SourceState, Gave, then_do, as_type, result_of_one, values_of, Cma, Inr, Of, A, increment_of, Registers, Expression, ExpressionNumber, Place, IsExpression, is_free_form, is_free_of, known_of, no_traits, traits_of, Facts, Plain, part, Arrives, Does, at_place, does_without_step, is_free, Context, IsSound, nodes_in, StepsStand, PartThere, PlainThere, ByteIsGiven, Carries, ChangesAOnly, Nothing, PartDoes}
use Rattle.steps8080.specs.declared.step.Task.TheVariants as tasks
use Rattle.task_laws.proofs.Machine.Nodes.{NodeOf}
use Rattle.task_laws.proofs.Machine.SiteNodes.{free_is, value_in}
use Rattle.task_laws.proofs.Machine.Stages.{Stage, stage_with_a, at_byte, at_end, loaded_in}

-- a node without a known value is free if its form is
pub free_by_form :
    {context : Context} {number : ExpressionNumber} {tree : TypedExpression}
    (node : NodeOf context number tree)
    → known_of (nodes_in context) (type_of tree) node.found.form ≡ None
    → is_free context.site number ≡ is_free_form (nodes_in context) (type_of tree) node.found.form
unfolding traits_of
free_by_form {context = context} {number = number} {tree = tree} node none =
    free_is context.site number
    ∙ (ap (λ (one : Option Expression). (option_map_or (λ (given : Expression). given.traits) one
    no_traits).is_free) node.is_there
    ∙ (ap (λ traits. traits.is_free) node.traits
    ∙ ap (λ (known : Option Place). is_free_of (nodes_in context) (type_of tree) known node.found.form) none))

-- the low byte is there
pub byte_given :
    {context : Context} {top pushed need : ℕ} {base : List ℕ} {u : SourceState} {last : Facts}
    {r now : Registers} {memory memory_now : List ℕ} {scalar : ScalarType} (to : ℕ)
    (number : ExpressionNumber) (found : ℕ)
    → now.a ≡ found % 256
    → found < values_of scalar
    → (is_free context.site number ≡ true → ChangesAOnly r memory now memory_now)
    → Stage context top pushed need base u last now memory_now
    → Does (loaded_in context) u.budget 0 (at_place to now memory_now u.events) (Gave found u)
    (Arrives context.activation top base to (ByteIsGiven context last number scalar r memory))
byte_given {now = now} {memory_now = memory_now} to number found a small free stage =
    does_without_step (record {
      r = now;
      memory = memory_now;
      is_at = refl;
      ready = stage.ready;
      holds = record { a = a; small = small; known = stage.known; free = free };
    })

-- another byte in A
changes_a :
    {r now : Registers} {memory memory_now : List ℕ} (a : ℕ)
    (flags : Rattle.isa8080.specs.declared.registers.Flags.Flags)
    → ChangesAOnly r memory now memory_now
    → ChangesAOnly r memory (record now { a = a; flags = flags }) memory_now
changes_a a flags only = record {
  b = only.b;
  c = only.c;
  d = only.d;
  e = only.e;
  h = only.h;
  l = only.l;
  same_memory = only.same_memory;
}

module _
    (context : Context) (facts last : Facts) (from to pushed bound : ℕ) (number inner : ExpressionNumber)
    (tree inside : TypedExpression) (f : ℕ → ℕ) (sound : IsSound context)
    (node : IsExpression (nodes_in context) context.storage bound inner.index inside)
    (types : TypesHold context.typed context.within inside)
    (fewer : 2 * height_of inside ≤ 2 * height_of tree)
    (means : (t : SourceState) → value_in context tree t
    ≡ then_do (value_in context inside t) (λ v u. Gave (f v) u))
    (small : (v : ℕ) → v < values_of (type_of inside) → f v < values_of (type_of tree))
    (is_free_too : is_free context.site number ≡ true → is_free context.site inner ≡ true) where
  -- the law of the code of such a value
  abbrev Gives : Type 0
  Gives =
      Carries context facts pushed (2 * height_of tree) 0 from to Nothing (value_in context tree)
      (ByteIsGiven context last number (type_of tree))

  -- the byte of the part
  pub byte_as_it_is :
      ((v : ℕ) → v < values_of (type_of inside) → v % 256 ≡ f v % 256)
      → StepsStand context (PartDoes context) facts from (part (tasks.Byte inner) pushed ∷ []) last to
      → Gives
  byte_as_it_is bytes (PartThere does ends) top base s r memory below room ready known nothing =
      Rattle.task_laws.proofs.Machine.Stages.does_same _ (means s)
      (at_byte _ _ _ does node types fewer
      (record { below = below; room = room; ready = ready; known = known })
      (λ v u now memory_now is given next. at_end ends next
      (λ final. byte_given to number (f v) (given.a ∙ bytes v given.small) (small v given.small)
      (λ free. given.free (is_free_too free)) final)))

  -- its complement
  pub byte_complement :
      ((v : ℕ) → v < values_of (type_of inside) → 255 - v % 256 ≡ f v % 256)
      → StepsStand context (PartDoes context) facts from
      (part (tasks.Byte inner) pushed ∷ Plain Cma ∷ []) last to
      → Gives
  byte_complement bytes (PartThere does (PlainThere there ends)) top base s r memory below room
      ready known nothing =
      Rattle.task_laws.proofs.Machine.Stages.does_same _ (means s)
      (at_byte _ _ _ does node types fewer
      (record { below = below; room = room; ready = ready; known = known })
      (λ v u now memory_now is given next.
      stage_with_a (255 - now.a) now.flags sound next there refl (omega arith) tt
      (λ turned. at_end ends turned
      (λ final. byte_given to number (f v) (ap (λ n. 255 - n) given.a ∙ bytes v given.small)
      (small v given.small)
      (λ free. changes_a (255 - now.a) now.flags (given.free (is_free_too free))) final))))

  -- the number that is added to it to give 0
  pub byte_negative :
      ((v : ℕ) → v < values_of (type_of inside) → (255 - v % 256 + 1) % 256 ≡ f v % 256)
      → StepsStand context (PartDoes context) facts from
      (part (tasks.Byte inner) pushed ∷ Plain Cma ∷ Plain (Inr (Of A)) ∷ []) last to
      → Gives
  byte_negative bytes (PartThere does (PlainThere there (PlainThere counted ends))) top base s r memory below
      room ready known nothing =
      Rattle.task_laws.proofs.Machine.Stages.does_same _ (means s)
      (at_byte _ _ _ does node types fewer
      (record { below = below; room = room; ready = ready; known = known })
      (λ v u now memory_now is given next.
      stage_with_a (255 - now.a) now.flags sound next there refl (omega arith) tt
      (λ turned.
      stage_with_a (increment_of (255 - now.a) now.flags).value (increment_of (255 - now.a) now.flags).flags
      sound turned counted refl (omega arith) tt
      (λ more. at_end ends more
      (λ final. byte_given to number (f v) (ap (λ n. (255 - n + 1) % 256) given.a ∙ bytes v given.small)
      (small v given.small)
      (λ free. changes_a _ _ (changes_a (255 - now.a) now.flags (given.free (is_free_too free)))) final)))))

-- the bytes of these
pub type_byte : (scalar : ScalarType) (v : ℕ) → v % 256 ≡ as_type scalar v % 256
type_byte Byte v = omega arith
type_byte Address v = omega arith

pub complement_byte : (scalar : ScalarType) (v : ℕ) → v < values_of scalar
    → 255 - v % 256 ≡ result_of_one scalar Not v % 256
complement_byte Byte v small = omega (arith, small)
complement_byte Address v small = omega (arith, small)

pub negative_byte : (scalar : ScalarType) (v : ℕ) → v < values_of scalar
    → (255 - v % 256 + 1) % 256 ≡ result_of_one scalar Negate v % 256
negative_byte Byte v small = omega (arith, small)
negative_byte Address v small = omega (arith, small)

pub complement_small : (scalar : ScalarType) (v : ℕ) → result_of_one scalar Not v < values_of scalar
complement_small Byte v = omega arith
complement_small Address v = omega arith

pub negative_small : (scalar : ScalarType) (v : ℕ) → result_of_one scalar Negate v < values_of scalar
negative_small Byte v = omega arith
negative_small Address v = omega arith
