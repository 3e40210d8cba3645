-- Jumps if two ADDRESSes are equal, or if they are not.
use Rattle.task_laws.proofs.Prelude.{◌≡◌, ℕ, ◌+◌, ◌/◌, ◌%◌, ◌<◌, ◌==◌, Bool, true, false, not, List, [], ◌∷◌, ◌++◌, None, refl, sym, ap, ◌∙◌, subst, arith, if◌then◌else◌, eqb-true, eqb-false, eq-eqb, ne_eqb, byte_at, TypedExpression, SourceState, Outcome, Gave, is_true, Condition, NotZero, subtract_of, Registers, State, holds, AtLabel, Place, place_after, Facts, LabelNumber, Part, Step, Jump, Mark, label_of, jump_item, IsThere, Does, at_place, jump_passed, jump_taken, word_step, does_without_step, IsSteady, place_at, Words, PlaceAndHl, DeAndHl, high_difference_steps, low_difference_steps, Context, IsSound, StepsStand, JumpThere, NoneThere, PlainThere, WordThere, Know, Parts, Goes, Passes, PartDoes}
use Rattle.isa8080.specs.declared.instr.Condition.TheVariants.{Zero}
use Rattle.asm8080.specs.declared.item.WordForm.TheVariants as forms
use Rattle.operands8080.specs.declared.branches.Branch.{Branch}
use Rattle.task_laws.proofs.Branches.Conditions.{marked}
use Rattle.task_laws.proofs.Machine.Stages.{Stage, stage_with_a, at_load_a, loaded_in, script_of}
use Rattle.task_laws.proofs.Relations.WordFlags.{low_equal}

-- two words that can be compared byte by byte
pub data HasWords (context : Context) (x y : ℕ) (r : Registers) (memory : List ℕ) : Words → Type 0 where
  InMemory : {place : Place}
      → r.h ≡ y / 256
      → r.l ≡ y % 256
      → x / 256 ≡ byte_at memory (place_at context.activation.layout (place_after place 1))
      → x % 256 ≡ byte_at memory (place_at context.activation.layout place)
      → IsSteady context.activation (place_at context.activation.layout (place_after place 1))
      → IsSteady context.activation (place_at context.activation.layout place)
      → HasWords context x y r memory (PlaceAndHl place)
  InRegisters : r.h ≡ y / 256 → r.l ≡ y % 256 → r.d ≡ x / 256 → r.e ≡ x % 256
      → HasWords context x y r memory DeAndHl

-- the facts after a difference
abbrev taken : Facts → Facts
taken facts = record facts { byte_in_a = None; zero_shows_a = true }

same_bytes : (a b c d : ℕ) → a ≡ c → b ≡ d → (a == b) ≡ (c == d)
same_bytes a b c d one two = ap (λ n. n == b) one ∙ ap (λ n. c == n) two

module _
    {B : Type 0} {context : Context} {top pushed need : ℕ} {base : List ℕ} {t : SourceState} {last : Facts}
    {memory : List ℕ} {to budget more : ℕ} {outcome : Outcome B}
    {Good : B → SourceState → State → Type 0} (sound : IsSound context) where
  low_taken :
      {words : Words} {facts : Facts} {from : ℕ} {r : Registers} {x y : ℕ} (others : List Step)
      → y < 65536
      → HasWords context x y r memory words
      → StepsStand context (PartDoes context) facts from (low_difference_steps words ++ others) last to
      → Stage context top pushed need base t facts r memory
      → ((middle : ℕ) (now : Registers)
      → StepsStand context (PartDoes context) (taken facts) middle others last to
      → HasWords context x y now memory words
      → now.flags.z ≡ (x % 256 == y % 256)
      → Stage context top pushed need base t (taken facts) now memory
      → Does (loaded_in context) budget more (at_place middle now memory t.events) outcome Good)
      → Does (loaded_in context) budget more (at_place from r memory t.events) outcome Good
  low_taken {r = r} {x = x} {y = y} others small (InMemory {place = place} h l high low two one)
      (WordThere first (PlainThere there rest_stand)) stage rest =
      let lo = byte_at memory (place_at context.activation.layout place) in
      at_load_a sound first one stage
      (λ loaded. stage_with_a (subtract_of lo r.l false).value (subtract_of lo r.l false).flags sound loaded
      there refl (omega arith) tt
      (λ next. rest _ _ rest_stand (InMemory h l high low two one)
      (low_equal lo r.l loaded.ready.registers.a stage.ready.registers.l
      ∙ same_bytes lo r.l (x % 256) (y % 256) (sym low) l) next))
  low_taken {r = r} {x = x} {y = y} others small (InRegisters h l d e)
      (PlainThere first (PlainThere there rest_stand)) stage rest =
      stage_with_a r.e r.flags sound stage first refl stage.ready.registers.e tt
      (λ copied. stage_with_a (subtract_of r.e r.l false).value (subtract_of r.e r.l false).flags sound copied
      there refl (omega arith) tt
      (λ next. rest _ _ rest_stand (InRegisters h l d e)
      (low_equal r.e r.l stage.ready.registers.e stage.ready.registers.l
      ∙ same_bytes r.e r.l (x % 256) (y % 256) e l) next))

  high_taken :
      {words : Words} {facts : Facts} {from : ℕ} {r : Registers} {x y : ℕ} (others : List Step)
      → HasWords context x y r memory words
      → StepsStand context (PartDoes context) facts from (high_difference_steps words ++ others) last to
      → Stage context top pushed need base t facts r memory
      → ((middle : ℕ) (now : Registers)
      → StepsStand context (PartDoes context) (taken facts) middle others last to
      → now.flags.z ≡ (x / 256 == y / 256)
      → Stage context top pushed need base t (taken facts) now memory
      → Does (loaded_in context) budget more (at_place middle now memory t.events) outcome Good)
      → Does (loaded_in context) budget more (at_place from r memory t.events) outcome Good
  high_taken {r = r} {x = x} {y = y} others (InMemory {place = place} h l high low two one)
      (WordThere first (PlainThere there rest_stand)) stage rest =
      let hi = byte_at memory (place_at context.activation.layout (place_after place 1)) in
      at_load_a sound first two stage
      (λ loaded. stage_with_a (subtract_of hi r.h false).value (subtract_of hi r.h false).flags sound loaded
      there refl (omega arith) tt
      (λ next. rest _ _ rest_stand
      (low_equal hi r.h loaded.ready.registers.a stage.ready.registers.h
      ∙ same_bytes hi r.h (x / 256) (y / 256) (sym high) h) next))
  high_taken {r = r} {x = x} {y = y} others (InRegisters h l d e)
      (PlainThere first (PlainThere there rest_stand)) stage rest =
      stage_with_a r.d r.flags sound stage first refl stage.ready.registers.d tt
      (λ copied. stage_with_a (subtract_of r.d r.h false).value (subtract_of r.d r.h false).flags sound copied
      there refl (omega arith) tt
      (λ next. rest _ _ rest_stand
      (low_equal r.d r.h stage.ready.registers.d stage.ready.registers.h
      ∙ same_bytes r.d r.h (x / 256) (y / 256) d h) next))

low_differs : (x y : ℕ) → (x % 256 == y % 256) ≡ false → (x == y) ≡ false
low_differs x y is = ne_eqb x y (λ same. eqb-false (x % 256) (y % 256) is (ap (λ n. n % 256) same))

high_decides : (x y : ℕ) (answer : Bool) → (x % 256 == y % 256) ≡ true
    → (x / 256 == y / 256) ≡ answer → (x == y) ≡ answer
high_decides x y true low is =
    let lows = eqb-true (x % 256) (y % 256) low in
    let highs = eqb-true (x / 256) (y / 256) is in
    eq-eqb x y (omega (arith, lows, highs))
high_decides x y false low is =
    ne_eqb x y (λ same. eqb-false (x / 256) (y / 256) is (ap (λ n. n / 256) same))

ends_at :
    {context : Context} {PartIs : (before : Facts) → Part → (from : ℕ) → (after : Facts) → (to : ℕ) → Type 0}
    {facts last : Facts} {from to : ℕ}
    → StepsStand context PartIs facts from [] last to
    → (facts ≡ last) × (from ≡ to)
ends_at NoneThere = (refl, refl)

-- the jump to the label
goes_there :
    {context : Context} {top pushed need : ℕ} {base : List ℕ} {u : SourceState} {facts last : Facts}
    {r : Registers} {memory : List ℕ} {tree : TypedExpression} {sense : Bool} (from to : ℕ) (c : Condition)
    (label : LabelNumber)
    (found : ℕ)
    → IsSound context
    → holds c r.flags ≡ true
    → is_true found ≡ sense
    → IsThere context.activation (jump_item (forms.JumpWhere c) label ∷ []) from (from + 3)
    → Know context last r memory
    → Stage context top pushed need base u facts r memory
    → Does (loaded_in context) u.budget 0 (at_place from r memory u.events) (Gave found u)
    (Parts context last tree label sense top base to)
goes_there {context = context} {u = u} {r = r} {memory = memory} from to c label found sound here
    is there known stage =
    does_without_step (Goes (at_place (context.activation.layout.place_of label.index) r memory u.events) is
    (word_step (script_of context) context.activation (forms.JumpWhere c) (AtLabel label.index)
    [] from (from + 3) r
    memory u.events sound.lies stage.ready.shares.code there
    ∙ ap (λ b. if b then at_place (context.activation.layout.place_of label.index) r memory u.events
    else at_place (from + 3) r memory u.events) here)
    (record { r = r; memory = memory; is_at = refl; ready = stage.ready; holds = λ once. known }))

-- a jump by equality, once both words are there
pub equal_jumps :
    {context : Context} {top pushed need : ℕ} {base : List ℕ} {u : SourceState} {facts last : Facts}
    {r : Registers} {memory : List ℕ} {from to : ℕ} {tree : TypedExpression} (words : Words) (x y found : ℕ)
    (is_equal : Bool) (branch : Branch) (first : ℕ)
    → IsSound context
    → y < 65536
    → ((x == y) ≡ is_equal → is_true found ≡ branch.sense)
    → ((x == y) ≡ not is_equal → is_true found ≡ not branch.sense)
    → HasWords context x y r memory words
    → StepsStand context (PartDoes context) facts from
    (low_difference_steps words
    ++ (if is_equal then
    Jump (forms.JumpWhere NotZero) (label_of first)
    ∷ high_difference_steps words
    ++ (Jump (forms.JumpWhere Zero) branch.label ∷ Mark (label_of first) ∷ [])
    else
    Jump (forms.JumpWhere NotZero) branch.label
    ∷ high_difference_steps words
    ++ (Jump (forms.JumpWhere NotZero) branch.label ∷ []))) last to
    → Stage context top pushed need base u facts r memory
    → Does (loaded_in context) u.budget 0 (at_place from r memory u.events) (Gave found u)
    (Parts context last tree branch.label branch.sense top base to)
equal_jumps {context = context} {top = top} {pushed = pushed} {need = need} {base = base} {u = u}
    {facts = facts} {last = last} {memory = memory} {to = to} {tree = tree} words x y found true branch first
    sound small goes stays has stand stage =
    low_taken sound _ small has stand stage
    (λ middle now others has_still shows next. after_low middle now others has_still shows next)
  where
    after_high :
        (place : ℕ) (now : Registers)
        → (x % 256 == y % 256) ≡ true
        → StepsStand context (PartDoes context) (taken (taken facts)) place
        (Jump (forms.JumpWhere Zero) branch.label ∷ Mark (label_of first) ∷ []) last to
        → now.flags.z ≡ (x / 256 == y / 256)
        → Stage context top pushed need base u (taken (taken facts)) now memory
        → (answer : Bool) → (x / 256 == y / 256) ≡ answer
        → Does (loaded_in context) u.budget 0 (at_place place now memory u.events) (Gave found u)
        (Parts context last tree branch.label branch.sense top base to)
    after_high place now low (JumpThere there mark) shows next true is =
        let ending = marked mark in
        goes_there place to Zero branch.label found sound (shows ∙ is)
        (goes (high_decides x y true low is)) there
        (ending.2 now memory) next
    after_high place now low (JumpThere there mark) shows next false is =
        let ending = marked mark in
        jump_passed now sound.lies next.ready.shares.code there (shows ∙ is)
        (does_without_step (Passes (stays (high_decides x y false low is)) (record {
          r = now;
          memory = memory;
          is_at = ap (λ n. at_place n now memory u.events) ending.1;
          ready = next.ready;
          holds = ending.2 now memory;
        })))

    by : (middle : ℕ) (now : Registers)
        → StepsStand context (PartDoes context) (taken facts) middle
        (Jump (forms.JumpWhere NotZero) (label_of first)
        ∷ high_difference_steps words
        ++ (Jump (forms.JumpWhere Zero) branch.label ∷ Mark (label_of first) ∷ [])) last to
        → (context.activation.layout.place_of first ≡ to)
        × ((end : Registers) (ended : List ℕ) → Know context last end ended)
        → HasWords context x y now memory words
        → now.flags.z ≡ (x % 256 == y % 256)
        → Stage context top pushed need base u (taken facts) now memory
        → (answer : Bool) → (x % 256 == y % 256) ≡ answer
        → Does (loaded_in context) u.budget 0 (at_place middle now memory u.events) (Gave found u)
        (Parts context last tree branch.label branch.sense top base to)
    by middle now (JumpThere there rest_stand) ending has_still shows next true is =
        jump_passed now sound.lies next.ready.shares.code there (ap not (shows ∙ is))
        (high_taken sound _ has_still rest_stand next
        (λ place end others flag final. after_high place end is others flag final (x / 256 == y / 256) refl))
    by middle now (JumpThere there rest_stand) ending has_still shows next false is =
        jump_taken now sound.lies next.ready.shares.code there (ap not (shows ∙ is))
        (does_without_step (Passes (stays (low_differs x y is)) (record {
          r = now;
          memory = memory;
          is_at = ap (λ n. at_place n now memory u.events) ending.0;
          ready = next.ready;
          holds = ending.1 now memory;
        })))

    last_mark : (words_there : Words) {found_facts : Facts} {place : ℕ}
        → StepsStand context (PartDoes context) found_facts place
        (high_difference_steps words_there
        ++ (Jump (forms.JumpWhere Zero) branch.label ∷ Mark (label_of first) ∷ [])) last to
        → (context.activation.layout.place_of first ≡ to)
        × ((end : Registers) (ended : List ℕ) → Know context last end ended)
    last_mark (PlaceAndHl place) (WordThere one (PlainThere two (JumpThere three mark))) =
        let ending = marked mark in (ending.0, ending.2)
    last_mark DeAndHl (PlainThere one (PlainThere two (JumpThere three mark))) =
        let ending = marked mark in (ending.0, ending.2)

    after_low :
        (middle : ℕ) (now : Registers)
        → StepsStand context (PartDoes context) (taken facts) middle
        (Jump (forms.JumpWhere NotZero) (label_of first)
        ∷ high_difference_steps words
        ++ (Jump (forms.JumpWhere Zero) branch.label ∷ Mark (label_of first) ∷ [])) last to
        → HasWords context x y now memory words
        → now.flags.z ≡ (x % 256 == y % 256)
        → Stage context top pushed need base u (taken facts) now memory
        → Does (loaded_in context) u.budget 0 (at_place middle now memory u.events) (Gave found u)
        (Parts context last tree branch.label branch.sense top base to)
    after_low middle now (JumpThere there rest_stand) has_still shows next =
        by middle now (JumpThere there rest_stand) (last_mark words rest_stand) has_still shows next
        (x % 256 == y % 256) refl
equal_jumps {context = context} {top = top} {pushed = pushed} {need = need} {base = base} {u = u}
    {facts = facts} {last = last} {memory = memory} {to = to} {tree = tree} words x y found false branch first
    sound small goes stays has stand stage =
    low_taken sound _ small has stand stage
    (λ middle now others has_still shows next. by middle now others has_still shows next
    (x % 256 == y % 256) refl)
  where
    ends_known : {place : ℕ}
        → StepsStand context (PartDoes context) (taken facts) place [] last to
        → ((end : Registers) (ended : List ℕ) → Know context (taken facts) end ended
        → Know context last end ended) × (place ≡ to)
    ends_known ends =
        let is = ends_at ends in
        ((λ end ended known. subst (λ (facts_now : Facts). Know context facts_now end ended) is.0 known), is.1)

    last_facts : (words_there : Words) {place : ℕ}
        → StepsStand context (PartDoes context) (taken facts) place
        (high_difference_steps words_there ++ (Jump (forms.JumpWhere NotZero) branch.label ∷ [])) last to
        → (end : Registers) (ended : List ℕ) → Know context (taken facts) end ended
        → Know context last end ended
    last_facts (PlaceAndHl place) (WordThere one (PlainThere two (JumpThere three ends))) =
        (ends_known ends).0
    last_facts DeAndHl (PlainThere one (PlainThere two (JumpThere three ends))) = (ends_known ends).0

    after_high :
        (place : ℕ) (now : Registers)
        → (x % 256 == y % 256) ≡ true
        → StepsStand context (PartDoes context) (taken (taken facts)) place
        (Jump (forms.JumpWhere NotZero) branch.label ∷ []) last to
        → now.flags.z ≡ (x / 256 == y / 256)
        → Stage context top pushed need base u (taken (taken facts)) now memory
        → (answer : Bool) → (x / 256 == y / 256) ≡ answer
        → Does (loaded_in context) u.budget 0 (at_place place now memory u.events) (Gave found u)
        (Parts context last tree branch.label branch.sense top base to)
    after_high place now low (JumpThere there ends) shows next false is =
        goes_there place to NotZero branch.label found sound (ap not (shows ∙ is))
        (goes (high_decides x y false low is)) there
        ((ends_known ends).0 now memory next.known) next
    after_high place now low (JumpThere there ends) shows next true is =
        let ending = ends_known ends in
        jump_passed now sound.lies next.ready.shares.code there (ap not (shows ∙ is))
        (does_without_step (Passes (stays (high_decides x y true low is)) (record {
          r = now;
          memory = memory;
          is_at = ap (λ n. at_place n now memory u.events) ending.1;
          ready = next.ready;
          holds = ending.0 now memory next.known;
        })))

    by : (middle : ℕ) (now : Registers)
        → StepsStand context (PartDoes context) (taken facts) middle
        (Jump (forms.JumpWhere NotZero) branch.label
        ∷ high_difference_steps words ++ (Jump (forms.JumpWhere NotZero) branch.label ∷ [])) last to
        → HasWords context x y now memory words
        → now.flags.z ≡ (x % 256 == y % 256)
        → Stage context top pushed need base u (taken facts) now memory
        → (answer : Bool) → (x % 256 == y % 256) ≡ answer
        → Does (loaded_in context) u.budget 0 (at_place middle now memory u.events) (Gave found u)
        (Parts context last tree branch.label branch.sense top base to)
    by middle now (JumpThere there rest_stand) has_still shows next true is =
        jump_passed now sound.lies next.ready.shares.code there (ap not (shows ∙ is))
        (high_taken sound _ has_still rest_stand next
        (λ place end others flag final. after_high place end is others flag final (x / 256 == y / 256) refl))
    by middle now (JumpThere there rest_stand) has_still shows next false is =
        goes_there middle to NotZero branch.label found sound (ap not (shows ∙ is))
        (goes (low_differs x y is)) there
        (last_facts words rest_stand now memory next.known) next
