-- A relation as a value: 0FFH in A if it holds, else 0.
use Rattle.task_laws.proofs.Prelude.{◌≡◌, ℕ, ◌+◌, ◌*◌, ◌%◌, ◌<◌, ◌≤◌, ◌==◌, Bool, true, false, not, nat_le, List, ◌++◌, Some, bit_xor, refl, sym, ap, ◌∙◌, arith, false≢true, eqb-true, le-leb, xor_self, height_of, type_of, TypedExpression, TypesHold, SourceState, Outcome, Gave, truth, values_of, ScalarType, Byte, Address, Flags, add_of, operate, subtract_of, ExclusiveOr, Registers, State, ExpressionNumber, IsExpression, Facts, Arrives, Does, at_place, does_without_step, borrow_shows, Relation, relation_of, is_free, Shown, Known, Where, outcome_value_steps, relation_outcome, relation_steps, value_setting, knowing, Context, IsSound, nodes_in, StepsStand, PlainThere, ByteIsGiven, Carries, Nothing, PartDoes, not-not}
use Rattle.isa8080.specs.declared.instr.Condition.TheVariants as conditions
use Rattle.operands8080.specs.declared.answers.Purpose.TheVariants as purposes
use Rattle.task_laws.proofs.Branches.Branches.{given_itself}
use Rattle.task_laws.proofs.Bytes.BytesAsked.{BytesAsked}
use Rattle.task_laws.proofs.Relations.NumberComparisons.{below_one}
use Rattle.task_laws.proofs.Relations.Relations.{OutcomeShows, relation_is, relation_shown}
use Rattle.task_laws.proofs.Machine.Rules.{steps_split}
use Rattle.task_laws.proofs.Machine.SiteNodes.{value_in}
use Rattle.task_laws.proofs.Machine.Stages.{Stage, stage_with_a, at_end, does_same, loaded_in}

borrow_fills : (a : ℕ) (carry holds : Bool) → a < 256 → carry ≡ holds
    → (subtract_of a a carry).value ≡ truth holds
borrow_fills a true true small is = omega (arith, small)
borrow_fills a false false small is = omega (arith, small)
borrow_fills a true false small is = absurd (false≢true (sym is))
borrow_fills a false true small is = absurd (false≢true is)

sum_carries : (a : ℕ) (holds : Bool) → (a == 0) ≡ not holds → (add_of a 255 false).flags.cy ≡ holds
sum_carries a true is =
    le-leb 256 (a + 255 + 0) (by (a == 0) refl)
  where
    by : (zero_here : Bool) → (a == 0) ≡ zero_here → 256 ≤ a + 255 + 0
    by true same = absurd (false≢true (sym is ∙ same))
    by false same = positive a same
      where
        positive : (n : ℕ) → (n == 0) ≡ false → 256 ≤ n + 255 + 0
        positive Rattle.std.specs.Prelude.zero none = absurd (false≢true (sym none))
        positive (Rattle.std.specs.Prelude.suc n) none = omega arith
sum_carries a false is = ap (λ n. nat_le 256 (n + 255 + 0)) (eqb-true a 0 is)

-- 0FFH or 0 is put into A
outcome_in_a :
    {B : Type 0} {context : Context} {top pushed need : ℕ} {base : List ℕ} {t : SourceState}
    {facts last : Facts}
    {r : Registers} {memory : List ℕ} {from to budget more : ℕ} {outcome : Outcome B}
    {Good : B → SourceState → State → Type 0} (shown : Shown) (holds : Bool)
    → IsSound context
    → OutcomeShows purposes.Value shown holds r
    → StepsStand context (PartDoes context) facts from (outcome_value_steps shown) last to
    → Stage context top pushed need base t facts r memory
    → ((now : Registers) → now.a ≡ truth holds
    → Stage context top pushed need base t last now memory
    → Does (loaded_in context) budget more (at_place to now memory t.events) outcome Good)
    → Does (loaded_in context) budget more (at_place from r memory t.events) outcome Good
outcome_in_a {r = r} (Known true) holds sound shows (PlainThere there ends) stage rest =
    stage_with_a 255 r.flags sound stage there refl (omega arith) tt
    (λ next. at_end ends next (λ final. rest _ (ap truth (sym shows)) final))
outcome_in_a {r = r} (Known false) holds sound shows (PlainThere there ends) stage rest =
    let is = xor_self r.a in
    stage_with_a (bit_xor r.a r.a) (operate ExclusiveOr r.a r.a r.flags).flags sound stage there refl
    (omega (arith, is)) tt
    (λ next. at_end ends next (λ final. rest _ (is ∙ ap truth (sym shows)) final))
outcome_in_a {r = r} (Where conditions.Carry) holds sound shows (PlainThere there ends) stage rest =
    stage_with_a (subtract_of r.a r.a r.flags.cy).value (subtract_of r.a r.a r.flags.cy).flags sound stage
    there refl (omega arith) tt
    (λ next. at_end ends next
    (λ final. rest _ (borrow_fills r.a r.flags.cy holds stage.ready.registers.a shows) final))
outcome_in_a {r = r} (Where conditions.NoCarry) holds sound shows
    (PlainThere turned (PlainThere there ends)) stage rest =
    let flags : Flags = record r.flags { cy = not r.flags.cy } in
    stage_with_a r.a flags sound stage turned refl stage.ready.registers.a tt
    (λ middle.
    stage_with_a (subtract_of r.a r.a flags.cy).value (subtract_of r.a r.a flags.cy).flags sound middle there
    refl (omega arith) tt
    (λ next. at_end ends next
    (λ final. rest _ (borrow_fills r.a (not r.flags.cy) holds stage.ready.registers.a
    (ap not shows ∙ not-not holds)) final)))
outcome_in_a {r = r} (Where conditions.Zero) holds sound shows
    (PlainThere turned (PlainThere there ends)) stage rest =
    let one = subtract_of r.a 1 false in
    let carry : one.flags.cy ≡ holds = borrow_shows r.a 1 (omega arith) ∙ sym (below_one r.a) ∙ shows in
    stage_with_a one.value one.flags sound stage turned refl (omega arith) tt
    (λ middle.
    stage_with_a (subtract_of one.value one.value one.flags.cy).value
    (subtract_of one.value one.value one.flags.cy).flags sound middle there refl (omega arith) tt
    (λ next. at_end ends next
    (λ final. rest _ (borrow_fills one.value one.flags.cy holds (omega arith) carry) final)))
outcome_in_a {r = r} (Where conditions.NotZero) holds sound shows
    (PlainThere turned (PlainThere there ends)) stage rest =
    let one = add_of r.a 255 false in
    stage_with_a one.value one.flags sound stage turned refl (omega arith) tt
    (λ middle.
    stage_with_a (subtract_of one.value one.value one.flags.cy).value
    (subtract_of one.value one.value one.flags.cy).flags sound middle there refl (omega arith) tt
    (λ next. at_end ends next
    (λ final. rest _ (borrow_fills one.value one.flags.cy holds (omega arith) (sum_carries r.a holds shows))
    final)))
outcome_in_a (Where conditions.ParityOdd) holds sound shows stand stage rest = absurd shows
outcome_in_a (Where conditions.ParityEven) holds sound shows stand stage rest = absurd shows
outcome_in_a (Where conditions.Plus) holds sound shows stand stage rest = absurd shows
outcome_in_a (Where conditions.Minus) holds sound shows stand stage rest = absurd shows

truth_small : (holds : Bool) (scalar : ScalarType) → truth holds < values_of scalar
truth_small true Byte = omega arith
truth_small false Byte = omega arith
truth_small true Address = omega arith
truth_small false Address = omega arith

truth_low : (holds : Bool) → truth holds ≡ truth holds % 256
truth_low true = refl
truth_low false = refl

-- a relation as a value
pub relation_value :
    {context : Context} {facts last : Facts} {from to bound pushed : ℕ} {tree : TypedExpression}
    (number : ExpressionNumber) (relation : Relation)
    → BytesAsked context
    → IsSound context
    → IsExpression (nodes_in context) context.storage bound number.index tree
    → TypesHold context.typed context.within tree
    → relation_of (knowing context.site facts) number ≡ Some relation
    → is_free context.site number ≡ false
    → StepsStand context (PartDoes context) facts from
    (relation_steps (knowing context.site facts) relation (value_setting pushed)
    ++ outcome_value_steps (relation_outcome (knowing context.site facts) relation)) last to
    → Carries context facts pushed (2 * height_of tree) 0 from to Nothing (value_in context tree)
    (ByteIsGiven context last number (type_of tree))
relation_value {context = context} {facts = facts} {last = last} {from = from} {to = to} {pushed = pushed}
    {tree = tree} number relation asked sound node types is bound_free stand top base s r memory below room
    ready known nothing =
    let parts = steps_split (relation_steps (knowing context.site facts) relation (value_setting pushed))
    (outcome_value_steps (relation_outcome (knowing context.site facts) relation)) stand in
    does_same _ (given_itself (value_in context tree s))
    (relation_shown ℕ context top (2 * height_of tree) base facts parts.found memory parts.middle 0
    (Arrives context.activation top base to (ByteIsGiven context last number (type_of tree) r memory)) asked
    sound
    (value_setting pushed) s r from number.index tree relation (λ found u. Gave found u)
    (relation_is facts relation sound node is) types (omega arith) parts.first
    (record { below = below; room = room; ready = ready; known = known })
    (λ holds u now memory_now shows next.
    outcome_in_a (relation_outcome (knowing context.site facts) relation) holds sound shows parts.second next
    (λ end a final.
    does_without_step (record {
      r = end;
      memory = memory_now;
      is_at = refl;
      ready = final.ready;
      holds = record {
        a = a ∙ truth_low holds;
        small = truth_small holds (type_of tree);
        known = final.known;
        free = λ free. absurd (false≢true (sym bound_free ∙ free));
      };
    }))))
