-- How the parser reads what DECLARE declares, and the heads of procedures. None of it is nested.
use Rattle.std.specs.Prelude.{ℕ, zero, suc, List, [], ◌∷◌, drop, length, Option, Some, None, Ok, Err, if◌then◌else◌}
use Rattle.words.specs.declared.vocabulary.Mark.TheVariants as marks
use Rattle.words.specs.declared.vocabulary.ReservedWord.TheVariants as words
use Rattle.trees.specs.declared.declaration.Dimension.{Dimension}
use Rattle.trees.specs.declared.declaration.Dimension.TheVariants.{Count, Implied}
use Rattle.trees.specs.declared.declaration.Linkage.{Linkage}
use Rattle.trees.specs.declared.declaration.Linkage.TheVariants.{Public, External}
use Rattle.trees.specs.declared.declaration.Member.{Member}
use Rattle.trees.specs.declared.declaration.ScalarType.{ScalarType}
use Rattle.trees.specs.declared.declaration.ScalarType.TheVariants.{Byte, Address}
use Rattle.trees.specs.declared.declaration.Sign.{Sign}
use Rattle.trees.specs.declared.declaration.Sign.TheVariants.{Plus, Minus}
use Rattle.trees.specs.declared.declaration.Storage.{Storage}
use Rattle.trees.specs.declared.declaration.Storage.TheVariants.{Initial, Data}
use Rattle.trees.specs.declared.identifier.Identifier.{Identifier}
use Rattle.trees.specs.declared.identifier.Number.{Number}
use Rattle.trees.specs.declared.identifier.Place.{Place}
use Rattle.grammar.specs.Symbols.{Symbol}
use Rattle.trees.specs.Trees.{OriginTree, ConstantOrigin, LocationOrigin, OffsetTree, RestrictedTree, ItemTypeTree, ScalarItem, StructureItem, AtTree, ValueListTree, SubjectTree, SingleSubject, GroupSubject, ItemTree, ElementTree, LiterallyElement, ItemElement, HeadingTree}
use Rattle.syntax.specs.internal.Reader.{Parser, Unexpected, ◌>>=◌, at_mark, at_word, place_of_word, next_name, mark, word, name, number, string, constant}
use Rattle.syntax.specs.internal.Lists.{items}

-- constant | `.` name
abbrev pub origin : Parser OriginTree
origin symbols =
    if at_mark marks.Period symbols then (do
      found ← name (drop 1 symbols)
      Ok (LocationOrigin found.0, found.1))
    else (do
      found ← constant symbols
      Ok (ConstantOrigin found.0, found.1))

-- the next symbol, if it is a sign
abbrev pub next_sign : List Symbol → Option Sign
next_sign symbols =
    if at_mark marks.PlusSign symbols then Some Plus
    else (if at_mark marks.MinusSign symbols then Some Minus else None)

-- a constant after a sign, and the offsets after it
abbrev pub offset_then : Parser (List OffsetTree) → Option Sign → Parser (List OffsetTree)
offset_then again None symbols = Ok ([], symbols)
offset_then again (Some sign) symbols = do
  found ← constant (drop 1 symbols)
  others ← again found.1
  Ok ((record { sign = sign; constant = found.0 }) ∷ others.0, others.1)

-- {(`+` | `-`) constant}
abbrev pub offsets : ℕ → Parser (List OffsetTree)
offsets zero symbols = Ok ([], symbols)
offsets (suc count) symbols = offset_then (offsets count) (next_sign symbols) symbols

-- {(`+` | `-`) constant}, as many as there are
unfoldable pub all_offsets : Parser (List OffsetTree)
all_offsets symbols = offsets (length symbols) symbols

-- constant {(`+` | `-`) constant} | `.` name {(`+` | `-`) constant}
unfoldable pub restricted : Parser RestrictedTree
restricted symbols = do
  first ← origin symbols
  others ← all_offsets first.1
  Ok (record { origin = first.0; offsets = others.0 }, others.1)

-- the next symbol, if it is BYTE or ADDRESS
abbrev pub next_scalar : List Symbol → Option ScalarType
next_scalar symbols =
    if at_word words.Byte symbols then Some Byte
    else (if at_word words.Address symbols then Some Address else None)

-- BYTE | ADDRESS
abbrev pub scalar_of : Option ScalarType → Parser ScalarType
scalar_of None symbols = Err Unexpected
scalar_of (Some scalar) symbols = Ok (scalar, drop 1 symbols)

abbrev pub scalar : Parser ScalarType
scalar symbols = scalar_of (next_scalar symbols) symbols

-- [BYTE | ADDRESS]
abbrev pub result_of : Option ScalarType → Parser (Option ScalarType)
result_of None symbols = Ok (None, symbols)
result_of (Some scalar) symbols = Ok (Some scalar, drop 1 symbols)

abbrev pub result_type : Parser (Option ScalarType)
result_type symbols = result_of (next_scalar symbols) symbols

-- [`(` number `)`]
abbrev pub count : Parser (Option Number)
count symbols =
    if at_mark marks.LeftParenthesis symbols then (do
      found ← number (drop 1 symbols)
      rest ← mark marks.RightParenthesis found.1
      Ok (Some (found.0), rest))
    else Ok (None, symbols)

-- `*` | number
abbrev pub dimension_inside : Parser Dimension
dimension_inside symbols =
    if at_mark marks.Asterisk symbols then Ok (Implied, drop 1 symbols)
    else (do
      found ← number symbols
      Ok (Count (found.0), found.1))

-- [`(` number `)` | `(` `*` `)`]
abbrev pub dimension : Parser (Option Dimension)
dimension symbols =
    if at_mark marks.LeftParenthesis symbols then (do
      found ← dimension_inside (drop 1 symbols)
      rest ← mark marks.RightParenthesis found.1
      Ok (Some (found.0), rest))
    else Ok (None, symbols)

-- name [`(` number `)`] (BYTE | ADDRESS)
unfoldable pub member : Parser Member
member symbols = do
  own ← name symbols
  elements ← count own.1
  its_type ← scalar elements.1
  Ok (record { name = own.0; dimension = elements.0; scalar = its_type.0 }, its_type.1)

-- BYTE | ADDRESS | STRUCTURE `(` member {`,` member} `)`
unfoldable pub item_type : Parser ItemTypeTree
item_type symbols =
    if at_word words.Structure symbols then (do
      later ← mark marks.LeftParenthesis (drop 1 symbols)
      found ← items member later
      rest ← mark marks.RightParenthesis found.1
      Ok (StructureItem found.0, rest))
    else (do
      found ← scalar symbols
      Ok (ScalarItem found.0, found.1))

-- `(` member {`,` member} `)`, after STRUCTURE
abbrev pub structure : Parser ItemTypeTree
structure symbols = do
  later ← mark marks.LeftParenthesis symbols
  found ← items member later
  rest ← mark marks.RightParenthesis found.1
  Ok (StructureItem found.0, rest)

-- the next symbol, if it is PUBLIC or EXTERNAL
abbrev pub external_of : Option Place → Option Linkage
external_of None = None
external_of (Some place) = Some (External place)

abbrev pub linkage_of : Option Place → Option Place → Option Linkage
linkage_of (Some place) other = Some (Public place)
linkage_of None other = external_of other

abbrev pub next_linkage : List Symbol → Option Linkage
next_linkage symbols = linkage_of (place_of_word words.Public symbols) (place_of_word words.External symbols)

-- [PUBLIC | EXTERNAL]
abbrev pub linkage_then : Option Linkage → Parser (Option Linkage)
linkage_then None symbols = Ok (None, symbols)
linkage_then (Some found) symbols = Ok (Some found, drop 1 symbols)

abbrev pub linkage : Parser (Option Linkage)
linkage symbols = linkage_then (next_linkage symbols) symbols

-- [AT `(` restricted `)`]
abbrev pub at_of : Option Place → Parser (Option AtTree)
at_of None symbols = Ok (None, symbols)
at_of (Some place) symbols = do
  later ← mark marks.LeftParenthesis (drop 1 symbols)
  found ← restricted later
  rest ← mark marks.RightParenthesis found.1
  Ok (Some (record { place = place; address = found.0 }), rest)

unfoldable pub at : Parser (Option AtTree)
at symbols = at_of (place_of_word words.At symbols) symbols

-- the next symbol, if it is INITIAL or DATA
abbrev pub data_of : Option Place → Option Storage
data_of None = None
data_of (Some place) = Some (Data place)

abbrev pub storage_of : Option Place → Option Place → Option Storage
storage_of (Some place) other = Some (Initial place)
storage_of None other = data_of other

abbrev pub next_storage : List Symbol → Option Storage
next_storage symbols = storage_of (place_of_word words.Initial symbols) (place_of_word words.Data symbols)

-- [INITIAL `(` restricted {`,` restricted} `)` | DATA `(` restricted {`,` restricted} `)`]
abbrev pub values_of : Option Storage → Parser (Option ValueListTree)
values_of None symbols = Ok (None, symbols)
values_of (Some storage) symbols = do
  later ← mark marks.LeftParenthesis (drop 1 symbols)
  found ← items restricted later
  rest ← mark marks.RightParenthesis found.1
  Ok (Some (record { storage = storage; values = found.0 }), rest)

unfoldable pub value_list : Parser (Option ValueListTree)
value_list symbols = values_of (next_storage symbols) symbols

-- [BASED name]
abbrev pub base : Parser (Option Identifier)
base symbols =
    if at_word words.Based symbols then (do
      found ← name (drop 1 symbols)
      Ok (Some (found.0), found.1))
    else Ok (None, symbols)

-- `(` name {`,` name} `)`
unfoldable pub names : Parser (List Identifier)
names symbols = do
  later ← mark marks.LeftParenthesis symbols
  found ← items name later
  rest ← mark marks.RightParenthesis found.1
  Ok (found.0, rest)

-- name [BASED name] | `(` name {`,` name} `)`
abbrev pub subject_of : Option Identifier → Parser SubjectTree
subject_of (Some own) symbols = do
  found ← base (drop 1 symbols)
  Ok (SingleSubject own found.0, found.1)
subject_of None symbols = do
  found ← names symbols
  Ok (GroupSubject found.0, found.1)

unfoldable pub subject : Parser SubjectTree
subject symbols = subject_of (next_name symbols) symbols

-- the rest of an item, after its subject
abbrev pub item_after : SubjectTree → Parser ItemTree
item_after its_subject symbols = do
  its_dimension ← dimension symbols
  its_type ← item_type its_dimension.1
  its_linkage ← linkage its_type.1
  its_place ← at its_linkage.1
  its_values ← value_list its_place.1
  Ok (
    record {
      subject = its_subject;
      dimension = its_dimension.0;
      item_type = its_type.0;
      linkage = its_linkage.0;
      at = its_place.0;
      value_list = its_values.0;
    },
    its_values.1,
  )

-- an item
unfoldable pub item : Parser ItemTree
item symbols = do
  its_subject ← subject symbols
  item_after its_subject.0 its_subject.1

-- name LITERALLY string | item
abbrev pub item_element : Parser ElementTree
item_element symbols = do
  found ← item symbols
  Ok (ItemElement found.0, found.1)

abbrev pub element_of : Option Identifier → Parser ElementTree
element_of None symbols = item_element symbols
element_of (Some own) symbols =
    if at_word words.Literally (drop 1 symbols) then (do
      text ← string (drop 1 (drop 1 symbols))
      Ok (LiterallyElement own text.0, text.1))
    else item_element symbols

unfoldable pub element : Parser ElementTree
element symbols = element_of (next_name symbols) symbols

-- an element after the name with which it begins
abbrev pub element_after : Identifier → Parser ElementTree
element_after own symbols =
    if at_word words.Literally symbols then (do
      text ← string (drop 1 symbols)
      Ok (LiterallyElement own text.0, text.1))
    else (do
      its_base ← base symbols
      found ← item_after (SingleSubject own its_base.0) its_base.1
      Ok (ItemElement found.0, found.1))

-- a text, after a name and LITERALLY
abbrev pub definition : Identifier → Parser ElementTree
definition own symbols = do
  text ← string symbols
  Ok (LiterallyElement own text.0, text.1)

-- an item after its only name
abbrev pub single_item : Identifier → Parser ElementTree
single_item own symbols = do
  its_base ← base symbols
  found ← item_after (SingleSubject own its_base.0) its_base.1
  Ok (ItemElement found.0, found.1)

-- an element that begins with no name
abbrev pub group_element : Parser ElementTree
group_element symbols = do
  its_names ← names symbols
  found ← item_after (GroupSubject its_names.0) its_names.1
  Ok (ItemElement found.0, found.1)

-- [`(` name {`,` name} `)`]
abbrev pub parameters : Parser (List Identifier)
parameters symbols = if at_mark marks.LeftParenthesis symbols then names symbols else Ok ([], symbols)

-- [REENTRANT]
abbrev pub reentrant_of : Option Place → Parser (Option Place)
reentrant_of None symbols = Ok (None, symbols)
reentrant_of (Some place) symbols = Ok (Some place, drop 1 symbols)

abbrev pub reentrant : Parser (Option Place)
reentrant symbols = reentrant_of (place_of_word words.Reentrant symbols) symbols

-- name `:` PROCEDURE [`(` name {`,` name} `)`] [BYTE | ADDRESS] [PUBLIC | EXTERNAL] [REENTRANT]
unfoldable pub heading : Parser HeadingTree
heading symbols = do
  own ← name symbols
  colon ← mark marks.Colon own.1
  later ← word words.Procedure colon
  its_parameters ← parameters later
  its_result ← result_type its_parameters.1
  its_linkage ← linkage its_result.1
  its_reentrant ← reentrant its_linkage.1
  Ok (
    record {
      name = own.0;
      parameters = its_parameters.0;
      result = its_result.0;
      linkage = its_linkage.0;
      reentrant = its_reentrant.0;
    },
    its_reentrant.1,
  )
