-- How statements are left: if each RETURN and each GOTO is good where it stands, each way out is. An instance
-- of `Preserves`.
use Rattle.meaning.proofs.Prelude.{Bool, Flow, Gave, GotoStatement, Jumped, Later, List, ListOf, MoreStatements, NoStatements, None, Onward, Option, Outcome, ReturnStatement, Returned, Some, State, Stopped, Surroundings, Turn, TypedExpression, TypedList, TypedStatements, body_of_turn, caught_in, cond, done_list, dropped, false, going_on, landed, later_by, nat_le, option_map, refl, rest_from, slice_get, subst, suc, taking_one, then_do, true, zero, ℕ, ◌-◌, ◌==◌, ◌≡◌}
use Rattle.meaning.proofs.Preserves.{Condition, Preserves, of_list, of_rest, of_turn, one_after}

-- an outcome that is left so, if it is left
abbrev pub LeftBy : (Flow → Type 0) → Outcome Flow → Type 0
LeftBy good (Gave flow t) = good flow
LeftBy good (Stopped why t) = Unit {0}

-- what is left of a list
pub rest_is_dropped : (test : Bool) (found : Option ℕ) (statements rest : TypedStatements)
    → cond test (option_map (λ place. dropped place statements) found) None ≡ Some rest
    → (count : ℕ) × (dropped count statements ≡ rest)
rest_is_dropped true (Some place) statements rest same = (place, cc)
rest_is_dropped true None statements rest same = let bad : ⊥ = cc in absurd bad
rest_is_dropped false found statements rest same = let bad : ⊥ = cc in absurd bad

module _ (good : Flow → Type 0) where
  left_then : {A : Type 0} (outcome : Outcome A) (go : A → State → Outcome Flow)
      → ((found : A) (t : State) → LeftBy good (go found t)) → LeftBy good (then_do outcome go)
  left_then (Gave found t) go rest = rest found t
  left_then (Stopped why t) go rest = tt

  left_flow : (inner : Flow → Type 0) (outcome : Outcome Flow) (go : Flow → State → Outcome Flow)
      → LeftBy inner outcome → ((flow : Flow) (t : State) → inner flow → LeftBy good (go flow t))
      → LeftBy good (then_do outcome go)
  left_flow inner (Gave flow t) go first rest = rest flow t first
  left_flow inner (Stopped why t) go first rest = tt

  left_if : (test : Bool) (one other : Outcome Flow) → LeftBy good one → LeftBy good other
      → LeftBy good (cond test one other)
  left_if true one other first second = first
  left_if false one other first second = second

  left_taking : (s : State) (go : State → Outcome Flow) → ((t : State) → LeftBy good (go t))
      → LeftBy good (taking_one s go)
  left_taking s go rest = left_if (s.budget == 0) _ _ tt (rest (record s { budget = s.budget - 1 }))

  left_going : (flow : Flow) (go : State → Outcome Flow) (t : State) → good flow → LeftBy good (go t)
      → LeftBy good (going_on flow go t)
  left_going Onward go t so rest = rest
  left_going (Returned found) go t so rest = so
  left_going (Jumped label) go t so rest = so

  left_after : (f p : State → Outcome Flow) → ((s : State) → LeftBy good (f s))
      → ((s : State) → LeftBy good (p s)) → (s : State) → LeftBy good (one_after f p s)
  left_after f p first rest s =
      left_flow good (f s) _ (first s) (λ flow t so. left_going flow p t so (rest t))

-- ways that are good where the condition holds, by what is known there
module _ {C : Type 0} (asks : Condition C) (Good : C → Flow → Type 0) where
  pub record GoodWays : Type 0 where
    pub onward : (c : C) → Good c Onward
    pub returned : (c : C) (expression : Option TypedExpression) (found : ℕ)
        → asks.Holds c (ReturnStatement expression) → Good c (Returned found)
    pub jumped : (c : C) (label : ℕ) → asks.Holds c (GotoStatement label) → Good c (Jumped label)
    pub returned_out : (c : C) (list : TypedList) (found : ℕ) → Good (asks.inside c list) (Returned found)
        → Good c (Returned found)
    pub jumped_out : (c : C) (first label : ℕ) (places : List ℕ) (statements : TypedStatements)
        → rest_from label (ListOf first places statements) ≡ None
        → Good (asks.inside c (ListOf first places statements)) (Jumped label) → Good c (Jumped label)

  record LaterLeft (later : Later) : Type 0 where
    again : (c : C) (turn : Turn) (around : Surroundings) (s : State)
        → asks.HoldsList c (body_of_turn turn) → LeftBy (Good c) (later.again turn around s)
    onto : (c : C) (first : ℕ) (places : List ℕ) (statements : TypedStatements) (count : ℕ)
        (around : Surroundings) (s : State) → asks.HoldsList c (ListOf first places statements)
        → LeftBy (Good c) (later.onto (ListOf first places statements) (dropped count statements) around s)

  still_holds : (c : C) (count : ℕ) (statements : TypedStatements) → asks.HoldsAll c statements
      → asks.HoldsAll c (dropped count statements)
  still_holds c zero statements holds = holds
  still_holds c (suc count) NoStatements holds = holds
  still_holds c (suc count) (MoreStatements first others) holds =
      still_holds c count others (asks.of_each c first others holds).1

  module _ (ways : GoodWays) where
    module _ (later : Later) (left : LaterLeft later) (around : Surroundings) where
      lands : (c : C) (first label : ℕ) (places : List ℕ) (statements : TypedStatements)
          (found : Option TypedStatements) (t : State)
          → rest_from label (ListOf first places statements) ≡ found
          → asks.HoldsList c (ListOf first places statements)
          → Good (asks.inside c (ListOf first places statements)) (Jumped label)
          → LeftBy (Good c) (landed later around (ListOf first places statements) label found t)
      lands c first label places statements None t is holds so =
          ways.jumped_out c first label places statements is so
      lands c first label places statements (Some rest) t is holds so =
          let part =
          rest_is_dropped (nat_le first label) (slice_get places (label - first)) statements rest is in
          subst (λ one. LeftBy (Good c) (later.onto (ListOf first places statements) one around t)) part.1
          (left.onto c first places statements part.0 around t holds)

      catches : (c : C) (first : ℕ) (places : List ℕ) (statements : TypedStatements) (flow : Flow) (t : State)
          → asks.HoldsList c (ListOf first places statements)
          → Good (asks.inside c (ListOf first places statements)) flow
          → LeftBy (Good c) (caught_in later around (ListOf first places statements) flow t)
      catches c first places statements Onward t holds so = ways.onward c
      catches c first places statements (Returned found) t holds so =
          ways.returned_out c (ListOf first places statements) found so
      catches c first places statements (Jumped label) t holds so =
          lands c first label places statements (rest_from label (ListOf first places statements)) t refl
          holds so

      left_list : (c : C) (list : TypedList) (f : State → Outcome Flow) → asks.HoldsList c list
          → ((s : State) → LeftBy (Good (asks.inside c list)) (f s)) → (s : State)
          → LeftBy (Good c) (then_do (f s) (caught_in later around list))
      left_list c (ListOf first places statements) f holds inner s =
          left_flow (Good c) (Good (asks.inside c (ListOf first places statements))) (f s)
          (caught_in later around (ListOf first places statements)) (inner s)
          (λ flow t so. catches c first places statements flow t holds so)

      left_all : Preserves later later around asks (λ A f g. Unit {0})
          (λ c f g. (s : State) → LeftBy (Good c) (f s)) (λ c f g. (s : State) → LeftBy (Good c) (f s))
      left_all = record {
        gives = λ A found. tt;
        goes_outside = λ reason. tt;
        reads = λ place. tt;
        writes = λ place byte. tt;
        takes_in = λ port. tt;
        puts_out = λ from port sent. tt;
        calls = λ at arguments. tt;
        enters = λ c frame sets f g first second. tt;
        then_gives = λ A B f g p q first rest. tt;
        goes_on = λ c s. ways.onward c;
        returns = λ c expression found holds s. ways.returned c expression found holds;
        ends = λ c s. tt;
        jumps = λ c label holds s.
            left_taking (Good c) s (λ t. Gave (Jumped label) t) (λ t. ways.jumped c label holds);
        then_does = λ c A f g p q first rest s. left_then (Good c) (f s) p (λ found t. rest found t);
        follows = λ c f g p q first rest. left_after (Good c) f p first rest;
        lists = λ c list f g holds first. left_list c list f holds first;
        turns = λ c f g p q first rest s.
            left_taking (Good c) s (one_after f p) (left_after (Good c) f p first rest);
        taken_on = λ c s. ways.onward c;
        taken_again = λ c turn holds s. left.again c turn around s holds;
        then_taken = λ c A f g p q first rest s. left_then (Good c) (f s) p (λ found t. rest found t);
      }

    later_left : (count : ℕ) → LaterLeft (later_by count)
    later_left zero = record {
      again = λ c turn around s holds. tt;
      onto = λ c first places statements count around s holds. tt;
    }
    later_left (suc count) = record {
      again = λ c turn around s holds. of_turn (later_by count) (later_by count) around asks _ _ _
          (left_all (later_by count) (later_left count) around) c turn holds s;
      onto = λ c first places statements many around s holds. of_rest (later_by count) (later_by count)
          around asks _ _ _ (left_all (later_by count) (later_left count) around) c
          (ListOf first places statements) (dropped many statements) holds
          (still_holds (asks.inside c (ListOf first places statements)) many statements
          (asks.of_items c first places statements holds)) s;
    }

    -- a list, with any budget
    pub list_is_left : (count : ℕ) (c : C) (list : TypedList) (around : Surroundings) (s : State)
        → asks.HoldsList c list → LeftBy (Good c) (done_list (later_by count) around list s)
    list_is_left count c list around s holds =
        of_list (later_by count) (later_by count) around asks _ _ _
        (left_all (later_by count) (later_left count) around) c list holds s
