-- Worked values: conversions taken away, and labels in their places.
use Rattle.std.specs.Prelude.{◌≡◌, List, [], ◌∷◌, None, Ok, codes, refl}
use Rattle.trees.specs.declared.expression.BinaryOperator.TheVariants.{Add}
use Rattle.trees.specs.Trees.{ConstantLeaf, LocationLeaf, ListLeaf, ParenthesizedNode, AssignmentNode, ReferenceTo, MemberOf, BinaryNode as Binary, CountHead, LabelledStatement, GotoStatement as Goto, LoopStatement as Loop, IfStatement as If, NoElse, StatementTrees, ModuleTree}
use Rattle.names.specs.BuiltIns.{built_in_of}
use Rattle.typed_trees.specs.TypedTrees.{TypedModule}
use Rattle.typing.specs.internal.Checks.{Checked, ◌>>=◌}
use Rattle.typing.specs.internal.Typing.{typing_of}
use Rattle.typing.specs.internal.Untyped.{untyped_bodies, plain_bodies}
use Rattle.typing.specs.internal.Samples.{on_line, name_on, number_on, string_on, a_number, plain, arguments_of, at_subscript, value_of, unlabelled, assigns, statements_of, module_of, doing}
use Rattle.typing.specs.internal.Measures.{structures, two_procedures, even_module}

-- the bodies of a typing, without its conversions
abbrev pub given_back : ModuleTree → Checked (List StatementTrees)
given_back tree = typing_of tree >>= (λ (typed : TypedModule). Ok (untyped_bodies typed))

pub two_procedures_back : given_back two_procedures ≡ Ok (plain_bodies two_procedures)
unfolding typing_of built_in_of
two_procedures_back = refl

pub even_back : given_back even_module ≡ Ok (plain_bodies even_module)
unfolding typing_of built_in_of
even_back = refl

-- statements with all forms of expressions
abbrev pub sizes_and_members : ModuleTree
sizes_and_members = module_of (structures ∷ []) (
    assigns
    (ReferenceTo (name_on 3 (codes "S")) (arguments_of (a_number 3 1 ∷ []))
    (MemberOf (name_on 3 (codes "B")) (arguments_of (a_number 3 1 ∷ []))) ∷ [])
    (value_of (at_subscript 3 (codes "SIZE") (value_of
    (ReferenceTo (name_on 3 (codes "S")) (arguments_of [])
    (MemberOf (name_on 3 (codes "B")) (arguments_of []))) ∷ [])))
    ∷ assigns (plain 4 (codes "X") ∷ [])
    (value_of (at_subscript 4 (codes "SHL")
    (LocationLeaf (plain 4 (codes "S")) ∷ value_of
    (at_subscript 4 (codes "INPUT") (a_number 4 2 ∷ [])) ∷ [])))
    ∷ [])

pub sizes_and_members_back : given_back sizes_and_members ≡ Ok (plain_bodies sizes_and_members)
unfolding typing_of built_in_of
sizes_and_members_back = refl

-- DO A = 1 TO W; L: M: IF A THEN GOTO L; END; W = ((A := 'B') + LOW(.(1, 300)));
abbrev pub loops : ModuleTree
loops = doing (
    unlabelled (Loop (on_line 3)
    (CountHead (record {
      variable = name_on 3 (codes "A");
      first = a_number 3 1;
      last = value_of (plain 3 (codes "W"));
      step = None;
    }))
    (statements_of (LabelledStatement (name_on 3 (codes "L") ∷ name_on 3 (codes "M") ∷ [])
    (If (on_line 3) (value_of (plain 3 (codes "A"))) (unlabelled (Goto (on_line 3) (name_on 3 (codes "L"))))
    NoElse)
    ∷ [])))
    ∷ assigns (plain 4 (codes "W") ∷ [])
    (ParenthesizedNode (Binary Add
    (ParenthesizedNode (AssignmentNode (plain 4 (codes "A")) (ConstantLeaf (string_on 4 (codes "B")))))
    (value_of (at_subscript 4 (codes "LOW") (ListLeaf (number_on 4 1 ∷ number_on 4 300 ∷ []) ∷ [])))))
    ∷ [])

pub loops_back : given_back loops ≡ Ok (plain_bodies loops)
unfolding typing_of built_in_of
loops_back = refl
