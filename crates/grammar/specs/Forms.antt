-- The rules of the grammar for trees: the levels of operators, lists that are not empty, and with which IF an
-- ELSE goes.
use Rattle.std.specs.Prelude.{ℕ, Bool, true, false, List, [], ◌∷◌, IfSome}
use Rattle.trees.specs.declared.expression.BinaryOperator.{BinaryOperator}
use Rattle.trees.specs.declared.expression.BinaryOperator.TheVariants.{Or, Xor, And, Equal, Less, Greater, LessOrEqual, GreaterOrEqual, Unequal, Add, Subtract, Multiply, Divide, Modulo}
use Rattle.trees.specs.Trees.{ItemTypeTree, ScalarItem, StructureItem, ValueListTree, SubjectTree, SingleSubject, GroupSubject, ItemTree, ElementTree, LiterallyElement, ItemElement, StatementTree, LabelledStatement, StatementKindTree, NullStatement, AssignmentStatement, CallStatement, ReturnStatement, HaltStatement, GotoStatement, IfStatement, DoStatement, LoopStatement, CaseStatement, ElseTree, NoElse, ElseStatement}

-- The levels of the grammar's expressions. An expression of a level may stand at each lower one.
abbrev pub expression_level : ℕ
expression_level = 0

abbrev pub conjunction_level : ℕ
conjunction_level = 1

abbrev pub negation_level : ℕ
negation_level = 2

abbrev pub relation_level : ℕ
relation_level = 3

abbrev pub sum_level : ℕ
sum_level = 4

abbrev pub term_level : ℕ
term_level = 5

abbrev pub sign_level : ℕ
sign_level = 6

abbrev pub primary_level : ℕ
primary_level = 7

-- the level at which an operator joins its operands
abbrev pub level_of : BinaryOperator → ℕ
level_of Or = expression_level
level_of Xor = expression_level
level_of And = conjunction_level
level_of Equal = relation_level
level_of Less = relation_level
level_of Greater = relation_level
level_of LessOrEqual = relation_level
level_of GreaterOrEqual = relation_level
level_of Unequal = relation_level
level_of Add = sum_level
level_of Subtract = sum_level
level_of Multiply = term_level
level_of Divide = term_level
level_of Modulo = term_level

-- a list with at least one item
abbrev pub IsNotEmpty : {A : Type 0} → List A → Type 0
IsNotEmpty [] = ⊥
IsNotEmpty (first ∷ others) = Unit {0}

-- names in parentheses are at least one
abbrev pub IsSubject : SubjectTree → Type 0
IsSubject (SingleSubject name base) = Unit {0}
IsSubject (GroupSubject names) = IsNotEmpty names

-- a structure has at least one member
abbrev pub IsItemType : ItemTypeTree → Type 0
IsItemType (ScalarItem scalar) = Unit {0}
IsItemType (StructureItem members) = IsNotEmpty members

-- a list has at least one value
abbrev pub IsValueList : ValueListTree → Type 0
IsValueList list = IsNotEmpty list.values

-- an item, by its parts
abbrev pub IsItem : ItemTree → Type 0
IsItem item = IsSubject item.subject × IsItemType item.item_type × IfSome item.value_list IsValueList

-- an element, by its parts
abbrev pub IsElement : ElementTree → Type 0
IsElement (LiterallyElement name text) = Unit {0}
IsElement (ItemElement item) = IsItem item

abbrev mutual
  -- whether a statement ends in an IF without ELSE, to which an ELSE after the statement would belong
  pub ends_in_open_if : StatementTree → Bool
  ends_in_open_if (LabelledStatement labels kind) = is_open_if kind

  pub is_open_if : StatementKindTree → Bool
  is_open_if (IfStatement place condition body otherwise) = is_open_else otherwise
  is_open_if (NullStatement place) = false
  is_open_if (AssignmentStatement targets value) = false
  is_open_if (CallStatement place name _) = false
  is_open_if (ReturnStatement place value) = false
  is_open_if (HaltStatement place) = false
  is_open_if (GotoStatement place label) = false
  is_open_if (DoStatement place declared body) = false
  is_open_if (LoopStatement place head body) = false
  is_open_if (CaseStatement place choice body) = false

  pub is_open_else : ElseTree → Bool
  is_open_else NoElse = true
  is_open_else (ElseStatement otherwise) = ends_in_open_if otherwise
