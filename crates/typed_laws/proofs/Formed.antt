-- What words derive has the form of the grammar.
use Rattle.typed_laws.proofs.Prelude.{◌≡◌, List, Ok, Lexeme, StatementTree, StatementKindTree, StatementTrees, DeclarationTree, DeclarationTrees, ModuleTree, Derives, DerivesModule, whole_module, DerivesDeclarations, no_declaration, next_declaration, DerivesDeclaration, declare, procedure, DerivesStatements, no_statement, next_statement, DerivesStatement, labelled, unlabelled, DerivesKind, null, assignment, call, return, return_value, halt, goto, if_then, if_then_else, simple_do, do_loop, do_case, Symbol, TypedModule, typing_of, IsSoundlyTyped, AreFormed, IsFormed, KindIsFormed, ModuleIsFormed, StatementIsFormed, StatementsAreFormed}
use Rattle.typed_laws.proofs.Facts.{is_soundly_typed}

mutual
  statement_formed : {symbols rest : List Symbol} {tree : StatementTree} → DerivesStatement symbols tree rest
      → StatementIsFormed tree
  statement_formed (labelled statement) = statement_formed statement
  statement_formed (unlabelled kind) = kind_formed kind

  kind_formed : {symbols rest : List Symbol} {tree : StatementKindTree} → DerivesKind symbols tree rest
      → KindIsFormed tree
  kind_formed null = tt
  kind_formed (assignment targets value) = tt
  kind_formed (call values) = tt
  kind_formed return = tt
  kind_formed (return_value value) = tt
  kind_formed halt = tt
  kind_formed goto = tt
  kind_formed (if_then condition body) = (statement_formed body, tt)
  kind_formed (if_then_else condition body closed otherwise) =
      (statement_formed body, statement_formed otherwise)
  kind_formed (simple_do declared body) = (declarations_formed declared, statements_formed body)
  kind_formed (do_loop head body) = statements_formed body
  kind_formed (do_case choice body) = statements_formed body

  statements_formed : {symbols rest : List Symbol} {tree : StatementTrees}
      → DerivesStatements symbols tree rest
      → StatementsAreFormed tree
  statements_formed no_statement = tt
  statements_formed (next_statement first others) = (statement_formed first, statements_formed others)

  declaration_formed : {symbols rest : List Symbol} {tree : DeclarationTree}
      → DerivesDeclaration symbols tree rest
      → IsFormed tree
  declaration_formed (declare end some elements) = elements
  declaration_formed (procedure start end declared body) =
      (declarations_formed declared, statements_formed body)

  declarations_formed : {symbols rest : List Symbol} {tree : DeclarationTrees}
      → DerivesDeclarations symbols tree rest
      → AreFormed tree
  declarations_formed no_declaration = tt
  declarations_formed (next_declaration first others) = (declaration_formed first, declarations_formed others)

module_formed : {symbols : List Symbol} {tree : ModuleTree} → DerivesModule symbols tree → ModuleIsFormed tree
module_formed (whole_module end declared body) = (declarations_formed declared, statements_formed body)

-- Every module that words derive and that has a typing is soundly typed.
pub derived_is_soundly_typed : (words : List Lexeme) (tree : ModuleTree) (found : TypedModule)
    → Derives words tree → typing_of tree ≡ Ok found → IsSoundlyTyped found
derived_is_soundly_typed words tree found derived is =
    is_soundly_typed tree found (module_formed derived.grammar) is
