-- What is known of the head of an iterative DO: its numbers, and the variable by which its code counts.
use Rattle.statement_laws.proofs.Prelude.{◌≡◌, ℕ, ◌+◌, ◌*◌, ◌<◌, Bool, true, false, nat_eq, nat_le, List, Option, Some, None, refl, sym, ap, ◌∙◌, arith, IfSome, eqb-true, same_Some, ScalarType, Byte, Address, height_of_statement, type_of, ListStands, LoopStatement, TypedExpression, TypedIteration, TypedList, TypesHold, TypesHoldInHead, TypesHoldInList, step_value, value, SourceState, Gave, as_type, Registers, ExpressionNumber, Range, Location, Iteration, IsExpressionIn, IsIteration, IsList, IsNoValue, IsOptional, IsSomeValue, IsReady, Facts, Site, location_of, number, knowing, whole, converted, counter_of, counts_by_one, has_a_turn, Here, site_of, nodes_in, number_small, number_means, BodyContext, IsSoundBody, value_is_word}
use Rattle.typed_trees.specs.TypedTrees.{CountHead}
use Rattle.statement_laws.proofs.Loops.CountedVariables.{is_counted, variable_address}
use Rattle.statement_laws.proofs.Loops.EnteredLoops.{first_value_is}
use Rattle.statement_laws.proofs.Loops.FirstStored.{first_stored}
use Rattle.statement_laws.proofs.Loops.KnownLoops.{ToKnown, counter_for}
use Rattle.statement_laws.proofs.Loops.LoopEnds.{Iterates}
use Rattle.statement_laws.proofs.Loops.LoopMeaning.{IsSteadyScalar, scalar_at}
use Rattle.statement_laws.proofs.Loops.LoopTurns.{Loop}

-- the loop that a statement is, where the machine is at its start
abbrev pub loop_of :
    (at : BodyContext) (base : List ℕ) (to : ℕ) (after : Here) (s : SourceState)
    (head : TypedIteration) (list : TypedList)
    → s.budget < at.context.number
    → Loop at
loop_of at base to after s head list below = record {
  base = base;
  to = to;
  after = after;
  budget = s.budget;
  need = 2 + 2 * height_of_statement (LoopStatement (CountHead head) list);
  head = head;
  list = list;
  below = below;
}

-- its parts are what is asked of them
pub iterates_so :
    (at : BodyContext) (base : List ℕ) (to : ℕ) (after : Here) (s : SourceState)
    (head : TypedIteration) (list : TypedList)
    (below : s.budget < at.context.number) (planned : Iteration) (range : Range) (bound : ℕ)
    → IsSoundBody at
    → IsIteration (nodes_in at.context) at.context.storage planned head
    → IsList (nodes_in at.context) at.context.storage at.labels bound range list
    → TypesHoldInHead at.context.typed at.context.within (CountHead head)
    → TypesHoldInList at.context.typed at.context.within list
    → ListStands list
    → Iterates at (loop_of at base to after s head list below) planned range
iterates_so at base to after s head list below planned range bound sound is is_list types list_types lists =
    record {
      sound = sound;
      is = is;
      first_types = types.1;
      last_types = types.2;
      step_types = types.3;
      first_fits = omega arith;
      last_fits = omega arith;
      step_fits = omega arith;
      counted = is_counted at.context head sound.sound types.0;
      enough = omega arith;
      bound = bound;
      list_is = is_list;
      list_types = list_types;
      list_stands = lists;
      list_fits = omega arith;
    }

-- the variable of the head, as code counts it
pub counter_is :
    {at : BodyContext} (loop : Loop at) (head : Iteration) (list : Range) (facts : Facts)
    (iterates : Iterates at loop head list)
    → counter_of (knowing (site_of at.body) facts) head
    ≡ counter_for at (loop.head).variable (loop.head).scalar (Some (iterates.counted).location)
counter_is {at = at} loop head list facts iterates =
    ap (λ (variable : ℕ). counter_for at variable head.scalar
    (location_of (knowing (site_of at.body) facts) (whole variable)))
    (iterates.is).variable
    ∙ ap (λ (scalar : ScalarType). counter_for at (loop.head).variable scalar
    (location_of (knowing (site_of at.body) facts) (whole (loop.head).variable))) (iterates.is).scalar
    ∙ ap (λ (location : Option Location). counter_for at (loop.head).variable (loop.head).scalar location)
    (sym (ap (λ (one : Site). location_of (knowing one facts) (whole (loop.head).variable))
    (iterates.sound).site)
    ∙ (iterates.counted).located facts)

-- a step of 1
pub one_step :
    (at : BodyContext) (facts : Facts) {step : Option ExpressionNumber} {tree : Option TypedExpression}
    → IsSoundBody at
    → IsOptional (nodes_in at.context) at.context.storage step tree
    → IfSome tree (TypesHold at.context.typed at.context.within)
    → counts_by_one (knowing (site_of at.body) facts) step ≡ true
    → (s : SourceState)
    → step_value at.context.later at.context.activation.around tree s ≡ Gave 1 s
one_step at facts sound IsNoValue types one s = refl
one_step at facts sound (IsSomeValue {number = of} {tree = tree} is) types one s =
    by (number (knowing (site_of at.body) facts) of) refl one
  where
    by : (known : Option ℕ) → number (knowing (site_of at.body) facts) of ≡ known
        → (elim known as (λ (given : Option ℕ). Bool) [ Some n ↦ nat_eq n 1 | None ↦ false ]) ≡ true
        → value at.context.later at.context.activation.around tree s ≡ Gave 1 s
    by (Some n) known same =
        number_means facts n sound.sound is types
        (ap (λ (one : Site). number (knowing one facts) of) sound.site ∙ known) s
        ∙ ap (λ (n : ℕ). Gave n s) (eqb-true n 1 same)
    by None known same = let never : ⊥ = cc in absurd never

-- a number of the head is its value
pub number_of_head :
    {at : BodyContext} {of : ExpressionNumber} {tree : TypedExpression} (facts : Facts) (n : ℕ)
    → IsSoundBody at
    → IsExpressionIn (nodes_in at.context) at.context.storage of tree
    → TypesHold at.context.typed at.context.within tree
    → number (knowing (site_of at.body) facts) of ≡ Some n
    → ((s : SourceState) → value at.context.later at.context.activation.around tree s ≡ Gave n s)
    × (n < 65536)
number_of_head {of = of} {tree = tree} facts n sound is types known =
    let there = ap (λ (one : Site). number (knowing one facts) of) sound.site ∙ known in (
      number_means facts n sound.sound is types there,
      value_is_word (type_of tree) n (number_small facts n sound.sound is types there),
    )

-- counting by 1 to a number
pub to_known_is :
    {at : BodyContext} (loop : Loop at) (head : Iteration) (list : Range) (facts : Facts)
    (scalar : ScalarType) (last : ℕ)
    → Iterates at loop head list
    → (loop.head).scalar ≡ scalar
    → number (knowing (site_of at.body) facts) head.last ≡ Some last
    → counts_by_one (knowing (site_of at.body) facts) head.step ≡ true
    → ToKnown loop scalar last
to_known_is {at = at} loop head list facts scalar last iterates same known one =
    let last_is = number_of_head facts last iterates.sound (iterates.is).last iterates.last_types known in
    record {
      scalar_is = same;
      last_is = last_is.0;
      last_small = last_is.1;
      step_is = one_step at facts iterates.sound (iterates.is).step iterates.step_types one;
    }

-- the numbers of a head of which it is known whether there is a turn
pub record KnownEntry (site : Site) (head : Iteration) (enters : Bool) : Type 0 where
  pub first : ℕ
  pub last : ℕ
  pub first_is : number site head.first ≡ Some first
  pub last_is : number site head.last ≡ Some last
  pub test_is : nat_le (converted head.scalar first) last ≡ enters

pub known_entry :
    (site : Site) (head : Iteration) (enters : Bool)
    → has_a_turn site (counter_of site head) head ≡ Some enters
    → KnownEntry site head enters
unfolding has_a_turn
known_entry site head enters is = by (number site head.first) (number site head.last) refl refl is
  where
    by : (one two : Option ℕ) → number site head.first ≡ one → number site head.last ≡ two
        → (elim (elim one as (λ (given : Option ℕ). Option
        ℕ) [ Some known ↦ Some (converted head.scalar known) | None ↦ None ])
        as (λ (given : Option ℕ). Option Bool) [
          | Some first ↦ elim two as (λ (given : Option ℕ). Option
              Bool) [ Some last ↦ Some (nat_le first last) | None ↦ None ]
          | None ↦ None
        ]) ≡ Some enters
        → KnownEntry site head enters
    by (Some first) (Some last) first_is last_is test = record {
      first = first;
      last = last;
      first_is = first_is;
      last_is = last_is;
      test_is = same_Some (nat_le (converted head.scalar first) last) enters test;
    }
    by (Some first) None first_is last_is test = let never : ⊥ = cc in absurd never
    by None two first_is last_is test = let never : ⊥ = cc in absurd never

as_converted : (scalar : ScalarType) (n : ℕ) → n < 65536 → as_type scalar n ≡ converted scalar n
as_converted Byte n small = refl
as_converted Address n small = omega (arith, small)

-- the value that the variable has then, beside the last one
pub entry_value :
    {at : BodyContext} {top other_top : ℕ} {base other_base memory memory_now : List ℕ} {r now : Registers}
    (loop : Loop at) (head : Iteration) (list : Range) (facts : Facts) (enters : Bool) (s u : SourceState)
    (iterates : Iterates at loop head list)
    (entry : KnownEntry (knowing (site_of at.body) facts) head enters)
    → first_stored loop s ≡ Gave tt u
    → IsReady at.context.activation top base s.memory s.frame r memory
    → IsReady at.context.activation other_top other_base u.memory u.frame now memory_now
    → IsSteadyScalar at.context.activation (loop.head).scalar
    (variable_address at.context (loop.head).variable)
    → nat_le (scalar_at (loop.head).scalar memory_now (variable_address at.context (loop.head).variable))
    entry.last ≡ enters
entry_value {at = at} {memory_now = memory_now} loop head list facts enters s u iterates entry is
    ready ready_now steady =
    let first_is =
    number_of_head facts entry.first iterates.sound (iterates.is).first
    iterates.first_types entry.first_is in
    ap (λ (n : ℕ). nat_le n entry.last)
    (first_value_is loop (loop.head).scalar entry.first s u iterates.sound refl iterates.counted first_is.0 is
    ready ready_now steady
    ∙ as_converted (loop.head).scalar entry.first first_is.1
    ∙ ap (λ (scalar : ScalarType). converted scalar entry.first) (sym (iterates.is).scalar))
    ∙ entry.test_is
