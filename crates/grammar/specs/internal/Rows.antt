-- Rows of the definitions, each computed.
use Rattle.std.specs.Prelude.{◌≡◌, ℕ, true, false, List, [], ◌∷◌, Some, codes, refl}
use Rattle.words.specs.declared.vocabulary.Kind.{Kind}
use Rattle.words.specs.declared.vocabulary.Kind.TheVariants.{Name, Reserved, Number, Mark}
use Rattle.words.specs.declared.vocabulary.Mark.TheVariants.{Colon, Semicolon}
use Rattle.words.specs.declared.vocabulary.ReservedWord.TheVariants.{Do, If, Then, Else, End, Data, Goto}
use Rattle.words.specs.Spelling.{Lexeme}
use Rattle.trees.specs.declared.expression.BinaryOperator.TheVariants.{Add}
use Rattle.trees.specs.declared.identifier.Identifier.{Identifier}
use Rattle.trees.specs.declared.identifier.Place.{Place}
use Rattle.grammar.specs.Forms.{ends_in_open_if}
use Rattle.symbols.specs.Names.{is_name}
use Rattle.grammar.specs.Nesting.{expression_height, module_height}
use Rattle.grammar.specs.Symbols.{PlacedSymbol, SemicolonSymbol, UnknownSymbol, symbol_of}
use Rattle.trees.specs.Trees.{ExpressionTree, ConstantLeaf, NumberConstant, ReferenceLeaf, AssignmentNode, BinaryNode, ReferenceTree, ReferenceTo, NoMember, NoArguments, MoreArguments, StatementTree, LabelledStatement, StatementKindTree, NullStatement, GotoStatement, IfStatement, ElseTree, NoElse, ElseStatement, NoStatements, MoreStatements, NoDeclarations, ModuleTree}

-- the word of a kind, with these bytes, at this place of line 1
abbrev word : Kind → List ℕ → ℕ → Lexeme
word kind text start = record { kind = kind; text = text; start = start; line = 1 }

abbrev pub at : ℕ → Place
at start = record { start = start; line = 1 }

-- names, references and numbers at a place
abbrev named : List ℕ → ℕ → Identifier
named name start = record { name = name; place = at start }

abbrev alone : List ℕ → ℕ → ReferenceTree
alone name start = ReferenceTo (named name start) NoArguments NoMember

abbrev pub variable : List ℕ → ℕ → ExpressionTree
variable name start = ReferenceLeaf (alone name start)

abbrev pub literal : ℕ → ℕ → ExpressionTree
literal value start = ConstantLeaf (NumberConstant (record { value = value; place = at start }))

-- M:DO;IF A THEN L:IF B THEN;ELSE GOTO L;END M;
abbrev pub nested_if_words : List Lexeme
nested_if_words =
    word Name (codes "M") 0
    ∷ word (Mark Colon) (codes ":") 1
    ∷ word (Reserved Do) (codes "DO") 2
    ∷ word (Mark Semicolon) (codes ";") 4
    ∷ word (Reserved If) (codes "IF") 5
    ∷ word Name (codes "A") 8
    ∷ word (Reserved Then) (codes "THEN") 10
    ∷ word Name (codes "L") 15
    ∷ word (Mark Colon) (codes ":") 16
    ∷ word (Reserved If) (codes "IF") 17
    ∷ word Name (codes "B") 20
    ∷ word (Reserved Then) (codes "THEN") 22
    ∷ word (Mark Semicolon) (codes ";") 26
    ∷ word (Reserved Else) (codes "ELSE") 27
    ∷ word (Reserved Goto) (codes "GOTO") 32
    ∷ word Name (codes "L") 37
    ∷ word (Mark Semicolon) (codes ";") 38
    ∷ word (Reserved End) (codes "END") 39
    ∷ word Name (codes "M") 43
    ∷ word (Mark Semicolon) (codes ";") 44
    ∷ []

-- a statement without labels
abbrev unlabelled : StatementKindTree → StatementTree
unlabelled kind = LabelledStatement [] kind

-- L: IF B THEN ;
abbrev inner_if : ElseTree → StatementTree
inner_if otherwise =
    LabelledStatement (named (codes "L") 15 ∷ [])
    (IfStatement (at 17) (variable (codes "B") 20) (unlabelled (NullStatement (at 26))) otherwise)

-- the ELSE with the nearer IF
abbrev pub nested_if_tree : ModuleTree
nested_if_tree = record {
  name = named (codes "M") 0;
  place = at 2;
  declarations = NoDeclarations;
  statements =
      MoreStatements
      (unlabelled (IfStatement (at 5) (variable (codes "A") 8)
      (inner_if (ElseStatement (unlabelled (GotoStatement (at 32) (named (codes "L") 37))))) NoElse))
      NoStatements;
  end_name = Some (named (codes "M") 43);
}

-- the ELSE would not go with the other IF
other_has_an_open_if_before_else : ends_in_open_if (inner_if NoElse) ≡ true
other_has_an_open_if_before_else = refl

-- neither a label nor ELSE adds a level
nested_if_height : module_height nested_if_tree ≡ 3
nested_if_height = refl

leaf_height : expression_height (literal 1 0) ≡ 1
leaf_height = refl

-- A(B(1)) takes three levels
abbrev with_argument : List ℕ → ℕ → ExpressionTree → ExpressionTree
with_argument name start argument =
    ReferenceLeaf (ReferenceTo (named name start) (MoreArguments argument NoArguments) NoMember)

arguments_height :
    expression_height (with_argument (codes "A") 0 (with_argument (codes "B") 2 (literal 1 4))) ≡ 3
arguments_height = refl

-- (A := 1) takes two, and its value one more
embedded_assignment_height : expression_height (AssignmentNode (alone (codes "A") 1) (literal 1 6)) ≡ 3
embedded_assignment_height = refl

-- 1 + 2 + 3 takes two for its operators, and one more
abbrev pub left_sum : ExpressionTree
left_sum = BinaryNode Add (BinaryNode Add (literal 1 0) (literal 2 2)) (literal 3 4)

abbrev pub right_sum : ExpressionTree
right_sum = BinaryNode Add (literal 1 0) (BinaryNode Add (literal 2 2) (literal 3 4))

sum_height : expression_height left_sum ≡ 3
sum_height = refl

name : is_name (codes "TOTAL1") ≡ true
name = refl

digit_first : is_name (codes "1A") ≡ false
digit_first = refl

longest_name : is_name (codes "ABCDEFGHIJKLMNOPQRSTUVWXYZ01234") ≡ true
longest_name = refl

long_name : is_name (codes "ABCDEFGHIJKLMNOPQRSTUVWXYZ012345") ≡ false
long_name = refl

no_name : symbol_of (word Name (codes "$") 0) ≡ UnknownSymbol
no_name = refl

attribute : symbol_of (word (Reserved Data) (codes "Data") 7) ≡ PlacedSymbol Data (at 7)
attribute = refl

semicolon : symbol_of (word (Mark Semicolon) (codes ";") 7) ≡ SemicolonSymbol (at 7)
semicolon = refl
