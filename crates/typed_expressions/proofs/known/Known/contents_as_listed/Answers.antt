use Rattle.typed_expressions.proofs.Prelude.{map, rules, restricted_tree, type_view, known_view, contents_view, answers_fault}
use Rattle.typed_expressions.proofs.Filled.{listed_ok, listed_fails, some_each}
use Rattle.typed_expressions.proofs.known.Known.contents_as_listed.Goals as goal

pub elements_for-requires : goal.elements_for-requires
elements_for-requires c =
    some_each (known_view c.args.self.now) c.args.place (type_view c.args.object_type.now)
    (map restricted_tree c.args.values.now) c.in-Some-Some.elements c.len.result c.in-Some-Some.each
    c.in_ok-values.values.items (search rules) (search rules) (search rules) (search rules)

pub returns-in_err-dimension : goal.returns-in_err-dimension
returns-in_err-dimension c =
    answers_fault contents_view c.from_residual-in_err-dimension.result
    c.in_err-dimension.field-0.0 _ (search rules)
    (listed_fails (known_view c.args.self.now) c.args.place (type_view c.args.object_type.now)
    (map restricted_tree c.args.values.now) c.in-Some-Some.elements c.len.result c.in-Some-Some.each
    c.in_ok-values.values.items (search rules) (search rules) (search rules) (search rules) _
    c.in_err-dimension.ensures)

pub returns : goal.returns
returns c =
    listed_ok (known_view c.args.self.now) c.args.place (type_view c.args.object_type.now)
    (map restricted_tree c.args.values.now) c.in-Some-Some.elements c.len.result c.in-Some-Some.each
    c.in_ok-values.values.items (search rules) (search rules) (search rules) (search rules)
    c.in_ok-dimension.dimension c.in_ok-dimension.ensures
