-- The procedures and the statements of a typed module are not more than those of its text: so each part of the code of the
-- interpreter has a line.
use Rattle.std.proofs.Common.{List, [], ap, arith, length, refl, suc, zero, ℕ, ◌++◌, ◌+◌, ◌∙◌, ◌∷◌, ◌≡◌, ◌≤◌}
use Rattle.std.proofs.lemmas.List.{length-append}
use Rattle.std.proofs.lemmas.List.Sums.{sum_by-append, sum_by-cons}
use Rattle.std.specs.Prelude.{slice_set, sum_by}
use Rattle.typed_trees.specs.TypedTrees.{MoreStatements as MoreTyped, TypedElse, TypedList, TypedModule, TypedProcedure, TypedStatement, TypedStatements}
use Rattle.typing.specs.Blocks.{Block, Progress}
use Rattle.typing.specs.Statements.{after_labels}
use Rattle.typing.specs.internal.Untyped.{bodies_in, bodies_in_declaration, bodies_in_else, bodies_in_kind, bodies_in_statement, bodies_in_statements}
use Rattle.interpreter.specs.internal.Counted.{numbered_bodies, numbered_body, numbered_else, numbered_list, numbered_module, numbered_parts, numbered_statements}
use Rattle.sources.specs.Trees.{DeclarationTree, DeclarationTrees, ElementTree, ElseTree, HeadingTree, ModuleTree, StatementKindTree, StatementTree, StatementTrees}
use Rattle.sources.specs.internal.Counted.{count_of_else, count_of_parts, count_of_statement, count_of_statements, procedures_in, statements_in}
use Rattle.sources.specs.internal.Items.{ElementTyping, a_definition, of_item, ElementsTyping, no_more_elements, next_element, ObjectsTyping, no_objects, next_object}
use Rattle.sources.specs.internal.Modules.{StatementTyping, null, assignment, call, move, return, return_value, halt, goto, if_then, simple_do, loop, do_case, AloneTyping, unlabelled, ElseTyping, no_else, with_else, CasesTyping, no_case, next_case, StatementsTyping, no_statement, next_statement, ListTyping, list, DeclarationTyping, declare, procedure, DeclarationsTyping, no_declaration, next_declaration, ModuleTyping, whole}
use Rattle.sources.specs.internal.Procedures.{HeadingTyping, heading_stands}

-- labels before statements are statements
labels_numbered : (label : ℕ) (labels : List _) (rest : TypedStatements)
    → numbered_statements (after_labels label labels rest) ≡ length labels + numbered_statements rest
labels_numbered label [] rest = omega arith
labels_numbered label (first ∷ others) rest = omega (arith, labels_numbered (label + 1) others rest)

-- a typed statement has as many statements as its tree
mutual
  kind_numbered : {block : Block} {progress after : Progress} {tree : StatementKindTree} {typed : TypedStatement}
      → StatementTyping block progress tree typed after → numbered_parts typed ≡ count_of_parts tree
  kind_numbered null = refl
  kind_numbered (assignment _ _) = refl
  kind_numbered (call _ _ _ _) = refl
  kind_numbered (move _ _) = refl
  kind_numbered (return _ _) = refl
  kind_numbered (return_value _ _ _) = refl
  kind_numbered halt = refl
  kind_numbered (goto _) = refl
  kind_numbered (if_then _ body otherwise) =
      omega (arith, alone_numbered body, else_numbered otherwise)
  kind_numbered (simple_do _ body) = list_numbered body
  kind_numbered (loop _ body) = list_numbered body
  kind_numbered (do_case _ body) = cases_numbered body

  alone_numbered : {block : Block} {progress after : Progress} {tree : StatementTree} {typed : TypedStatement}
      → AloneTyping block progress tree typed after → numbered_parts typed + 1 ≡ count_of_statement tree
  alone_numbered (unlabelled is) = omega (arith, kind_numbered is)

  else_numbered : {block : Block} {progress after : Progress} {tree : ElseTree} {typed : TypedElse}
      → ElseTyping block progress tree typed after → numbered_else typed ≡ count_of_else tree
  else_numbered no_else = refl
  else_numbered (with_else body) = alone_numbered body

  cases_numbered : {block : Block} {progress after : Progress} {trees : StatementTrees} {typed : TypedStatements}
      → CasesTyping block progress trees typed after → numbered_statements typed ≡ count_of_statements trees
  cases_numbered no_case = refl
  cases_numbered (next_case first others) = omega (arith, alone_numbered first, cases_numbered others)

  statements_numbered : {block : Block} {label : ℕ} {progress after : Progress} {trees : StatementTrees}
      {typed : TypedStatements}
      → StatementsTyping block label progress trees typed after
      → numbered_statements typed ≡ count_of_statements trees
  statements_numbered no_statement = refl
  statements_numbered (next_statement {label = label} {labels = labels} {typed = typed} {rest = rest} _ is others) =
      omega (arith, labels_numbered label labels (MoreTyped typed rest), kind_numbered is, statements_numbered others)

  list_numbered : {block : Block} {progress after : Progress} {trees : StatementTrees} {typed : TypedList}
      → ListTyping block progress trees typed after → numbered_list typed ≡ count_of_statements trees
  list_numbered (list statements) = statements_numbered statements

-- A text adds the procedures with these bodies, and they have no more statements than these.
record Adds (bodies : List StatementTrees) (before after : List TypedProcedure) : Type 0 where
  count : length after ≡ length before + length bodies
  statements : numbered_bodies after ≤ numbered_bodies before + sum_by count_of_statements bodies

adds_nothing : (before after : List TypedProcedure) → after ≡ before → Adds [] before after
adds_nothing before after same = record {
  count = omega (arith, ap length same);
  statements = omega (arith, ap numbered_bodies same);
}

adds_then : (first second : List StatementTrees) (before middle after : List TypedProcedure)
    → Adds first before middle → Adds second middle after → Adds (first ++ second) before after
adds_then first second before middle after one two = record {
  count = omega (arith, one.count, two.count, length-append first second);
  statements =
      omega (arith, one.statements, two.statements, sum_by-append count_of_statements first second);
}

-- objects are no procedures
objects_keep : {block : Block} {typed : _} {progress after : Progress} {names : _}
    → ObjectsTyping block typed progress names after → after.known.procedures ≡ progress.known.procedures
objects_keep no_objects = refl
objects_keep (next_object _ others) = objects_keep others

element_keeps : {block : Block} {progress after : Progress} {element : ElementTree}
    → ElementTyping block progress element after → after.known.procedures ≡ progress.known.procedures
element_keeps (a_definition _ _) = refl
element_keeps (of_item _ _ _ objects) = objects_keep objects

elements_keep : {block : Block} {progress after : Progress} {elements : List ElementTree}
    → ElementsTyping block progress elements after → after.known.procedures ≡ progress.known.procedures
elements_keep no_more_elements = refl
elements_keep (next_element first others) = elements_keep others ∙ element_keeps first

-- a heading adds a procedure, which has no statement yet
added_last : (before : List TypedProcedure) (one : TypedProcedure) → numbered_body one ≡ 0
    → (length (before ++ one ∷ []) ≡ length before + 1)
    × (numbered_bodies (before ++ one ∷ []) ≡ numbered_bodies before)
added_last [] one none = (refl, omega (arith, none))
added_last (first ∷ others) one none =
    let rest = added_last others one none in (omega (arith, rest.0), omega (arith, rest.1))

heading_adds : {block : Block} {heading : HeadingTree} {declared : DeclarationTrees} {progress opened : Progress}
    → HeadingTyping block heading declared progress opened
    → (length opened.known.procedures ≡ length progress.known.procedures + 1)
    × (numbered_bodies opened.known.procedures ≡ numbered_bodies progress.known.procedures)
heading_adds {progress = progress} (heading_stands _ _ _ _ _ _) =
    added_last progress.known.procedures _ refl

-- and its end gives it its body
body_set : (procedures : List TypedProcedure) (number : ℕ) (one : TypedProcedure)
    → (length (slice_set procedures number one) ≡ length procedures)
    × (numbered_bodies (slice_set procedures number one) ≤ numbered_bodies procedures + numbered_body one)
body_set [] number one = (refl, omega arith)
body_set (first ∷ others) zero one = (refl, omega arith)
body_set (first ∷ others) (suc number) one =
    let rest = body_set others number one in (omega (arith, rest.0), omega (arith, rest.1))

-- a whole procedure
procedure_adds : (inner own : List StatementTrees) (body : StatementTrees) (before opened within made : List TypedProcedure)
    (typed : TypedList) (number : ℕ) (one : TypedProcedure)
    → (length opened ≡ length before + 1) × (numbered_bodies opened ≡ numbered_bodies before)
    → Adds inner opened within → Adds own within made → numbered_list typed ≡ count_of_statements body
    → numbered_body one ≡ numbered_list typed
    → Adds (body ∷ inner ++ own) before (slice_set made number one)
procedure_adds inner own body before opened within made typed number one opens first second count is =
    let set = body_set made number one in
    record {
      count = omega (arith, opens.0, first.count, second.count, set.0, length-append inner own);
      statements =
          omega (
            arith,
            opens.1,
            first.statements,
            second.statements,
            set.1,
            count,
            is,
            sum_by-cons count_of_statements body (inner ++ own),
            sum_by-append count_of_statements inner own,
          );
    }

mutual
  kind_adds : {block : Block} {progress after : Progress} {tree : StatementKindTree} {typed : TypedStatement}
      → StatementTyping block progress tree typed after
      → Adds (bodies_in_kind tree) progress.known.procedures after.known.procedures
  kind_adds null = adds_nothing _ _ refl
  kind_adds (assignment _ _) = adds_nothing _ _ refl
  kind_adds (call _ _ _ _) = adds_nothing _ _ refl
  kind_adds (move _ _) = adds_nothing _ _ refl
  kind_adds (return _ _) = adds_nothing _ _ refl
  kind_adds (return_value _ _ _) = adds_nothing _ _ refl
  kind_adds halt = adds_nothing _ _ refl
  kind_adds (goto _) = adds_nothing _ _ refl
  kind_adds (if_then _ body otherwise) = adds_then _ _ _ _ _ (alone_adds body) (else_adds otherwise)
  kind_adds (simple_do declared body) = adds_then _ _ _ _ _ (declarations_add declared) (list_adds body)
  kind_adds (loop _ body) = list_adds body
  kind_adds (do_case _ body) = cases_add body

  alone_adds : {block : Block} {progress after : Progress} {tree : StatementTree} {typed : TypedStatement}
      → AloneTyping block progress tree typed after
      → Adds (bodies_in_statement tree) progress.known.procedures after.known.procedures
  alone_adds (unlabelled is) = kind_adds is

  else_adds : {block : Block} {progress after : Progress} {tree : ElseTree} {typed : TypedElse}
      → ElseTyping block progress tree typed after
      → Adds (bodies_in_else tree) progress.known.procedures after.known.procedures
  else_adds no_else = adds_nothing _ _ refl
  else_adds (with_else body) = alone_adds body

  cases_add : {block : Block} {progress after : Progress} {trees : StatementTrees} {typed : TypedStatements}
      → CasesTyping block progress trees typed after
      → Adds (bodies_in_statements trees) progress.known.procedures after.known.procedures
  cases_add no_case = adds_nothing _ _ refl
  cases_add (next_case first others) = adds_then _ _ _ _ _ (alone_adds first) (cases_add others)

  statements_add : {block : Block} {label : ℕ} {progress after : Progress} {trees : StatementTrees}
      {typed : TypedStatements}
      → StatementsTyping block label progress trees typed after
      → Adds (bodies_in_statements trees) progress.known.procedures after.known.procedures
  statements_add no_statement = adds_nothing _ _ refl
  statements_add (next_statement _ is others) = adds_then _ _ _ _ _ (kind_adds is) (statements_add others)

  list_adds : {block : Block} {progress after : Progress} {trees : StatementTrees} {typed : TypedList}
      → ListTyping block progress trees typed after
      → Adds (bodies_in_statements trees) progress.known.procedures after.known.procedures
  list_adds (list statements) = statements_add statements

  declaration_adds : {block : Block} {progress after : Progress} {tree : DeclarationTree}
      → DeclarationTyping block progress tree after
      → Adds (bodies_in_declaration tree) progress.known.procedures after.known.procedures
  declaration_adds (declare elements) = adds_nothing _ _ (elements_keep elements)
  declaration_adds (procedure {progress = progress} {opened = opened} {within = within} {after = after} {declared = declared} {body = body} {typed = typed} opening inside _ _ statements) =
      procedure_adds (bodies_in declared) (bodies_in_statements body) body progress.known.procedures
      opened.known.procedures within.known.procedures after.known.procedures typed (length progress.known.procedures)
      _ (heading_adds opening) (declarations_add inside) (list_adds statements) (list_numbered statements) refl

  declarations_add : {block : Block} {progress after : Progress} {trees : DeclarationTrees}
      → DeclarationsTyping block progress trees after
      → Adds (bodies_in trees) progress.known.procedures after.known.procedures
  declarations_add no_declaration = adds_nothing _ _ refl
  declarations_add (next_declaration first others) =
      adds_then _ _ _ _ _ (declaration_adds first) (declarations_add others)

-- a typed module has as many procedures as its tree, and no more statements
pub module_counted : {tree : ModuleTree} {typed : TypedModule} → ModuleTyping tree typed
    → (length typed.procedures ≡ procedures_in tree) × (numbered_module typed ≤ statements_in tree)
module_counted (whole declared statements) =
    let added = adds_then _ _ _ _ _ (declarations_add declared) (list_adds statements) in
    (omega (arith, added.count), omega (arith, added.statements, list_numbered statements))
