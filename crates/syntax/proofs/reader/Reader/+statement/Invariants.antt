use Rattle.syntax.proofs.Prelude.{◌≡◌, true, ◌+◌, ◌*◌, length, after_statements, after_declarations, statements, declarations, statement, declaration}
use Rattle.syntax.proofs.reader.Reader.+statement.Given as goal

abbrev pub decreases-take_block : goal.decreases-take_block
decreases-take_block l = 10 * l.room + 3

abbrev pub decreases-take_body : goal.decreases-take_body
decreases-take_body l = 10 * l.room + 2

abbrev pub decreases-take_declaration : goal.decreases-take_declaration
decreases-take_declaration l = 10 * l.room + 0

abbrev pub decreases-take_declarations : goal.decreases-take_declarations
decreases-take_declarations l = 10 * l.room + 1

abbrev pub decreases-take_do : goal.decreases-take_do
decreases-take_do l = 10 * l.room + 5

abbrev pub decreases-take_simple_do : goal.decreases-take_simple_do
decreases-take_simple_do l = 10 * l.room + 4

abbrev pub decreases-take_case : goal.decreases-take_case
decreases-take_case l = 10 * l.room + 3

abbrev pub decreases-take_loop : goal.decreases-take_loop
decreases-take_loop l = 10 * l.room + 3

abbrev pub decreases-take_if : goal.decreases-take_if
decreases-take_if l = 10 * l.room + 2

abbrev pub decreases-take_kind : goal.decreases-take_kind
decreases-take_kind l = 10 * l.room + 6

abbrev pub decreases-take_otherwise : goal.decreases-take_otherwise
decreases-take_otherwise l = 10 * l.room + 1

abbrev pub decreases-take_procedure : goal.decreases-take_procedure
decreases-take_procedure l = 10 * l.room + 4

abbrev pub decreases-take_statement : goal.decreases-take_statement
decreases-take_statement l = 10 * l.room + 0

abbrev pub decreases-take_statements : goal.decreases-take_statements
decreases-take_statements l = 10 * l.room + 1

abbrev pub invariant-take_declarations-more : goal.invariant-take_declarations-more
invariant-take_declarations-more l =
    declarations (declaration true l.room) l.initial.self
    ≡ after_declarations l.declarations.items (declarations (declaration true l.room) l.self)

abbrev pub decreases-take_declarations-more : goal.decreases-take_declarations-more
decreases-take_declarations-more l = length l.self

abbrev pub invariant-take_statements-more : goal.invariant-take_statements-more
invariant-take_statements-more l =
    statements (statement true l.room) l.initial.self
    ≡ after_statements l.statements.items (statements (statement true l.room) l.self)

abbrev pub decreases-take_statements-more : goal.decreases-take_statements-more
decreases-take_statements-more l = length l.self
