-- Worked values: bodies whose jumps are sound, and some whose jumps are not; a module whose labels differ,
-- and one with two labels of one number.
use Rattle.typing.proofs.Prelude.{◌≢◌, ℕ, zero, suc, false, List, [], ◌∷◌, None, refl, sym, subst, arith, Any, All-from_recursion, All-nil, AllPairs-cons, Byte, FromDigits, Private, NumberNode, TypedStatement, LabelStatement, TypedExpression, TypedStatements, TypedList, ListOf, TypedModule, IsAmongLabels, labels_of_list, BodyIsSound, JumpsAreSound}
use Rattle.typed_trees.specs.TypedTrees.{NullStatement, GotoStatement, IfStatement, DoStatement, CaseStatement, NoElse, ElseStatement, NoStatements, MoreStatements}
use Rattle.typing.specs.internal.Samples.{typed_forever as forever}

abbrev lines : List TypedStatement → TypedStatements
lines [] = NoStatements
lines (first ∷ others) = MoreStatements first (lines others)

abbrev always : TypedExpression
always = NumberNode Byte 1 FromDigits

-- ; L: ; DO WHILE 1; GOTO L; END;: out of a loop, to the second of the statements around it
abbrev out_of_a_loop : TypedList
out_of_a_loop = ListOf 0 (1 ∷ []) (lines (
    NullStatement ∷ LabelStatement 0 ∷ NullStatement
    ∷ forever (ListOf 1 [] (lines (GotoStatement 0 ∷ []))) ∷ []))

out_of_a_loop_is : BodyIsSound out_of_a_loop
out_of_a_loop_is = record {
  closed = (tt, (tt, (tt, ((to_it, tt), tt))));
  stands = ((refl, refl, refl), (tt, (tt, (tt, ((refl, (tt, tt)), tt)))));
}
  where
    to_it : Any (IsAmongLabels 0) (labels_of_list 1 [] ∷ labels_of_list 0 (1 ∷ []) ∷ [])
    to_it = (1, labels_of_list 0 (1 ∷ []), omega arith, refl, (omega arith, omega arith))

-- GOTO L; DO WHILE 1; L: ; END;: a jump into a loop leaves the body
abbrev into_a_loop : TypedList
into_a_loop = ListOf 0 [] (lines (
    GotoStatement 0 ∷ forever (ListOf 0 (0 ∷ []) (lines (LabelStatement 0 ∷ NullStatement ∷ []))) ∷ []))

of_one : {X : Type 0} (P : X → Type 0) (x : X) → Any P (x ∷ []) → P x
of_one P x (zero, found, within, is, holds) = subst P (sym is) holds
of_one P x (suc k, found, within, is, holds) = absurd (omega arith)

into_a_loop_is_not : BodyIsSound into_a_loop → ⊥
into_a_loop_is_not is = omega (arith, of_one (IsAmongLabels 0) (labels_of_list 0 []) is.closed.0)

-- ; L: ;, with L as the first of the statements
abbrev wrong_place : TypedList
wrong_place = ListOf 0 (0 ∷ []) (lines (NullStatement ∷ LabelStatement 0 ∷ NullStatement ∷ []))

wrong_place_is_not : BodyIsSound wrong_place → ⊥
wrong_place_is_not is = omega (arith, is.stands.0.1)

-- a label after THEN, after ELSE, and in a DO CASE
after_then_is_not :
    BodyIsSound (ListOf 0 [] (lines (IfStatement always (LabelStatement 0) NoElse ∷ []))) → ⊥
after_then_is_not is = is.stands.1.0.0

after_else_is_not :
    BodyIsSound (ListOf 0 [] (lines (
    IfStatement always NullStatement (ElseStatement (LabelStatement 0)) ∷ []))) → ⊥
after_else_is_not is = is.stands.1.0.2.0

in_a_case_is_not :
    BodyIsSound (ListOf 0 [] (lines (
    CaseStatement always (lines (NullStatement ∷ LabelStatement 0 ∷ NullStatement ∷ [])) ∷ []))) → ⊥
in_a_case_is_not is = is.stands.1.0.2.0

-- a module without declarations
abbrev of_statements : TypedList → TypedModule
of_statements body = record {
  name = [];
  objects = [];
  procedures = [];
  constants = record { lists = []; items = [] };
  globals = [];
  main = record {
    name = [];
    visibility = Private;
    result = None;
    is_reentrant = false;
    parameter_types = [];
    parameters = [];
    frame_bytes = 0;
    body = body;
  };
}

-- L: ; DO; M: ; GOTO N; END; N: ;: the labels of the outer list are numbered first
abbrev one_in_another : TypedList
one_in_another = ListOf 0 (0 ∷ 3 ∷ []) (lines (
    LabelStatement 0 ∷ NullStatement
    ∷ DoStatement (ListOf 2 (0 ∷ []) (lines (LabelStatement 2 ∷ NullStatement ∷ GotoStatement 1 ∷ [])))
    ∷ LabelStatement 1 ∷ NullStatement ∷ []))

abbrev Differ : ℕ → ℕ → Type 0
Differ one other = one ≢ other

one_in_another_is : JumpsAreSound (of_statements one_in_another)
one_in_another_is = record {
  procedures = All-nil _;
  main = record {
    closed = (tt, (tt, ((tt, (tt, (to_it, tt))), (tt, (tt, tt)))));
    stands =
        ((refl, refl, (refl, refl, refl)), (tt, (tt, (((refl, refl, refl), (tt, (tt, (tt, tt)))), (tt, (tt, tt))))));
  };
  labels = AllPairs-cons Differ 0 (2 ∷ 1 ∷ []) (All-from_recursion (λ (other : ℕ). 0 ≢ other) (2 ∷ 1 ∷ [])
      (λ e. omega (arith, e), (λ e. omega (arith, e), tt)))
      (AllPairs-cons Differ 2 (1 ∷ []) (All-from_recursion (λ (other : ℕ). 2 ≢ other) (1 ∷ [])
      (λ e. omega (arith, e), tt))
      (AllPairs-cons Differ 1 [] (All-nil _) (λ i j d before within. absurd (omega arith))));
}
  where
    to_it : Any (IsAmongLabels 1) (labels_of_list 2 (0 ∷ []) ∷ labels_of_list 0 (0 ∷ 3 ∷ []) ∷ [])
    to_it = (1, labels_of_list 0 (0 ∷ 3 ∷ []), omega arith, refl, (omega arith, omega arith))

-- L: DO; M: GOTO M; END;, where both labels have one number: each list is sound, and the module is not
abbrev twice : TypedList
twice = ListOf 0 (0 ∷ []) (lines (
    LabelStatement 0 ∷ DoStatement (ListOf 0 (0 ∷ []) (lines (LabelStatement 0 ∷ GotoStatement 0 ∷ [])))
    ∷ []))

twice_is_not : JumpsAreSound (of_statements twice) → ⊥
twice_is_not is = is.labels 0 1 0 (omega arith) (omega arith) refl
