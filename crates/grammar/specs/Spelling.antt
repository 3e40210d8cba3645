-- How the parts of declarations, and the end of a block, are spelled: their symbols, and then the symbols after
-- them.
use Rattle.std.specs.Prelude.{List, [], ◌∷◌, Option, Some, None}
use Rattle.words.specs.declared.vocabulary.Mark.TheVariants.{EqualSign, LessSign, GreaterSign, LessEqualSign, GreaterEqualSign, UnequalSign, PlusSign, MinusSign, Asterisk, Slash, LeftParenthesis, RightParenthesis, Comma, Colon, Period}
use Rattle.words.specs.declared.vocabulary.ReservedWord.TheVariants as words
use Rattle.trees.specs.declared.declaration.Dimension.{Dimension}
use Rattle.trees.specs.declared.declaration.Dimension.TheVariants.{Count, Implied}
use Rattle.trees.specs.declared.declaration.Linkage.{Linkage}
use Rattle.trees.specs.declared.declaration.Linkage.TheVariants.{Public, External}
use Rattle.trees.specs.declared.declaration.Member.{Member}
use Rattle.trees.specs.declared.declaration.ScalarType.{ScalarType}
use Rattle.trees.specs.declared.declaration.ScalarType.TheVariants.{Byte, Address}
use Rattle.trees.specs.declared.declaration.Sign.{Sign}
use Rattle.trees.specs.declared.declaration.Sign.TheVariants.{Plus, Minus}
use Rattle.trees.specs.declared.declaration.Storage.{Storage}
use Rattle.trees.specs.declared.declaration.Storage.TheVariants.{Initial, Data}
use Rattle.trees.specs.declared.expression.BinaryOperator.{BinaryOperator}
use Rattle.trees.specs.declared.expression.BinaryOperator.TheVariants.{Or, Xor, And, Equal, Less, Greater, LessOrEqual, GreaterOrEqual, Unequal, Add, Subtract, Multiply, Divide, Modulo}
use Rattle.trees.specs.declared.identifier.Identifier.{Identifier}
use Rattle.trees.specs.declared.identifier.Number.{Number}
use Rattle.trees.specs.declared.identifier.Place.{Place}
use Rattle.grammar.specs.Symbols.{Symbol, NameSymbol, NumberSymbol, StringSymbol, ReservedSymbol, PlacedSymbol, MarkSymbol}
use Rattle.trees.specs.Trees.{ConstantTree, NumberConstant, StringConstant, OriginTree, ConstantOrigin, LocationOrigin, OffsetTree, RestrictedTree, ItemTypeTree, ScalarItem, StructureItem, AtTree, ValueListTree, SubjectTree, SingleSubject, GroupSubject, ItemTree, ElementTree, LiterallyElement, ItemElement, HeadingTree}

-- the symbols of something that may be left out
abbrev pub optional : {A : Type 0} → (A → List Symbol → List Symbol) → Option A → List Symbol → List Symbol
optional symbols None rest = rest
optional symbols (Some a) rest = symbols a rest

-- {`,` ..}
abbrev pub more_after_commas : {A : Type 0}
    → (A → List Symbol → List Symbol)
    → List A
    → List Symbol
    → List Symbol
more_after_commas symbols [] rest = rest
more_after_commas symbols (first ∷ others) rest =
    MarkSymbol Comma ∷ symbols first (more_after_commas symbols others rest)

-- .. {`,` ..}
abbrev pub between_commas : {A : Type 0}
    → (A → List Symbol → List Symbol)
    → List A
    → List Symbol
    → List Symbol
between_commas symbols [] rest = rest
between_commas symbols (first ∷ others) rest = symbols first (more_after_commas symbols others rest)

-- a name
abbrev pub name_symbols : Identifier → List Symbol → List Symbol
name_symbols name rest = NameSymbol name ∷ rest

-- constant: number | string
abbrev pub constant_symbols : ConstantTree → List Symbol → List Symbol
constant_symbols (NumberConstant number) rest = NumberSymbol number ∷ rest
constant_symbols (StringConstant string) rest = StringSymbol string ∷ rest

-- the symbol of an operator between its operands
abbrev pub binary_symbol : BinaryOperator → Symbol
binary_symbol Or = ReservedSymbol words.Or
binary_symbol Xor = ReservedSymbol words.Xor
binary_symbol And = ReservedSymbol words.And
binary_symbol Equal = MarkSymbol EqualSign
binary_symbol Less = MarkSymbol LessSign
binary_symbol Greater = MarkSymbol GreaterSign
binary_symbol LessOrEqual = MarkSymbol LessEqualSign
binary_symbol GreaterOrEqual = MarkSymbol GreaterEqualSign
binary_symbol Unequal = MarkSymbol UnequalSign
binary_symbol Add = MarkSymbol PlusSign
binary_symbol Subtract = MarkSymbol MinusSign
binary_symbol Multiply = MarkSymbol Asterisk
binary_symbol Divide = MarkSymbol Slash
binary_symbol Modulo = ReservedSymbol words.Mod

-- constant | `.` name
abbrev pub origin_symbols : OriginTree → List Symbol → List Symbol
origin_symbols (ConstantOrigin constant) rest = constant_symbols constant rest
origin_symbols (LocationOrigin name) rest = MarkSymbol Period ∷ NameSymbol name ∷ rest

-- `+` | `-`
abbrev pub sign_symbol : Sign → Symbol
sign_symbol Plus = MarkSymbol PlusSign
sign_symbol Minus = MarkSymbol MinusSign

-- {(`+` | `-`) constant}
abbrev pub offsets_symbols : List OffsetTree → List Symbol → List Symbol
offsets_symbols [] rest = rest
offsets_symbols (offset ∷ others) rest =
    sign_symbol offset.sign ∷ constant_symbols offset.constant (offsets_symbols others rest)

-- restricted: (constant | `.` name) {(`+` | `-`) constant}
abbrev pub restricted_symbols : RestrictedTree → List Symbol → List Symbol
restricted_symbols restricted rest =
    origin_symbols restricted.origin (offsets_symbols restricted.offsets rest)

-- BYTE | ADDRESS
abbrev pub scalar_symbols : ScalarType → List Symbol → List Symbol
scalar_symbols Byte rest = ReservedSymbol words.Byte ∷ rest
scalar_symbols Address rest = ReservedSymbol words.Address ∷ rest

-- `(` number `)`
abbrev pub count_symbols : Number → List Symbol → List Symbol
count_symbols number rest =
    MarkSymbol LeftParenthesis ∷ NumberSymbol number ∷ MarkSymbol RightParenthesis ∷ rest

-- dimension: `(` number `)` | `(` `*` `)`
abbrev pub dimension_symbols : Dimension → List Symbol → List Symbol
dimension_symbols (Count number) rest = count_symbols number rest
dimension_symbols Implied rest =
    MarkSymbol LeftParenthesis ∷ MarkSymbol Asterisk ∷ MarkSymbol RightParenthesis ∷ rest

-- member: name [`(` number `)`] (BYTE | ADDRESS)
abbrev pub member_symbols : Member → List Symbol → List Symbol
member_symbols member rest =
    NameSymbol member.name ∷ optional count_symbols member.dimension (scalar_symbols member.scalar rest)

-- type: BYTE | ADDRESS | STRUCTURE `(` member {`,` member} `)`
abbrev pub item_type_symbols : ItemTypeTree → List Symbol → List Symbol
item_type_symbols (ScalarItem scalar) rest = scalar_symbols scalar rest
item_type_symbols (StructureItem members) rest =
    ReservedSymbol words.Structure ∷ MarkSymbol LeftParenthesis
    ∷ between_commas member_symbols members (MarkSymbol RightParenthesis ∷ rest)

-- PUBLIC | EXTERNAL
abbrev pub linkage_symbols : Linkage → List Symbol → List Symbol
linkage_symbols (Public place) rest = PlacedSymbol words.Public place ∷ rest
linkage_symbols (External place) rest = PlacedSymbol words.External place ∷ rest

-- AT `(` restricted `)`
abbrev pub at_symbols : AtTree → List Symbol → List Symbol
at_symbols at rest =
    PlacedSymbol words.At at.place ∷ MarkSymbol LeftParenthesis
    ∷ restricted_symbols at.address (MarkSymbol RightParenthesis ∷ rest)

-- INITIAL | DATA
abbrev pub storage_symbol : Storage → Symbol
storage_symbol (Initial place) = PlacedSymbol words.Initial place
storage_symbol (Data place) = PlacedSymbol words.Data place

-- values: (INITIAL | DATA) `(` restricted {`,` restricted} `)`
abbrev pub value_list_symbols : ValueListTree → List Symbol → List Symbol
value_list_symbols list rest =
    storage_symbol list.storage ∷ MarkSymbol LeftParenthesis
    ∷ between_commas restricted_symbols list.values (MarkSymbol RightParenthesis ∷ rest)

-- BASED name
abbrev pub base_symbols : Identifier → List Symbol → List Symbol
base_symbols name rest = ReservedSymbol words.Based ∷ NameSymbol name ∷ rest

-- `(` name {`,` name} `)`
abbrev pub names_symbols : List Identifier → List Symbol → List Symbol
names_symbols names rest =
    MarkSymbol LeftParenthesis ∷ between_commas name_symbols names (MarkSymbol RightParenthesis ∷ rest)

-- name [BASED name] | `(` name {`,` name} `)`
abbrev pub subject_symbols : SubjectTree → List Symbol → List Symbol
subject_symbols (SingleSubject name base) rest = NameSymbol name ∷ optional base_symbols base rest
subject_symbols (GroupSubject names) rest = names_symbols names rest

-- item: (name [BASED name] | `(` name {`,` name} `)`) [dimension] type
--     [PUBLIC | EXTERNAL] [AT `(` restricted `)`] [values]
abbrev pub item_symbols : ItemTree → List Symbol → List Symbol
item_symbols item rest =
    subject_symbols item.subject (optional dimension_symbols item.dimension (item_type_symbols item.item_type
    (optional linkage_symbols item.linkage (optional at_symbols item.at
    (optional value_list_symbols item.value_list rest)))))

-- element: name LITERALLY string | item
abbrev pub element_symbols : ElementTree → List Symbol → List Symbol
element_symbols (LiterallyElement name text) rest =
    NameSymbol name ∷ ReservedSymbol words.Literally ∷ StringSymbol text ∷ rest
element_symbols (ItemElement item) rest = item_symbols item rest

-- [`(` name {`,` name} `)`]
abbrev pub parameters_symbols : List Identifier → List Symbol → List Symbol
parameters_symbols [] rest = rest
parameters_symbols (first ∷ others) rest = names_symbols (first ∷ others) rest

-- REENTRANT
abbrev pub reentrant_symbols : Place → List Symbol → List Symbol
reentrant_symbols place rest = PlacedSymbol words.Reentrant place ∷ rest

-- name `:` PROCEDURE [`(` name {`,` name} `)`] [BYTE | ADDRESS] [PUBLIC | EXTERNAL] [REENTRANT]
abbrev pub heading_symbols : HeadingTree → List Symbol → List Symbol
heading_symbols heading rest =
    NameSymbol heading.name ∷ MarkSymbol Colon ∷ ReservedSymbol words.Procedure
    ∷ parameters_symbols heading.parameters
    (optional scalar_symbols heading.result (optional linkage_symbols heading.linkage
    (optional reentrant_symbols heading.reentrant rest)))

-- END [name]
abbrev pub ending_symbols : Option Identifier → List Symbol → List Symbol
ending_symbols name rest = ReservedSymbol words.End ∷ optional name_symbols name rest
