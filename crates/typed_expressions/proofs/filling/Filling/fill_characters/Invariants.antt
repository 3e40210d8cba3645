use Rattle.typed_expressions.proofs.Prelude.{◌≡◌, drop, type_view, fill_from, left_of, onto}
use Rattle.typed_expressions.proofs.filling.Filling.fill_characters.Given as goal

abbrev pub invariant-loop-character : goal.invariant-loop-character
invariant-loop-character l =
    onto l.self.values.items
    (fill_from l.place (drop l.character-index l.characters)
    (left_of (type_view l.object_type) l.self.scalars))
    ≡ onto l.fn.self.values.items
    (fill_from l.place l.characters (left_of (type_view l.object_type) l.fn.self.scalars))
