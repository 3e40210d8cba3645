use Rattle.typed_expressions.proofs.Prelude.{◌≡◌, length, rules, arith, string_tree, type_view, known_view, left_of}
use Rattle.typed_expressions.proofs.Filled.{string_with_offsets}
use Rattle.typed_expressions.proofs.known.Known.fill_value.Goals.{in_default-via-in-Constant-String+else-is_empty, in_default-via-in-Constant+in-Number-1, in_default-via-in-Location-1}
use Rattle.typed_expressions.proofs.known.Known.fill_value.Goals as goal

pub returns-in_ok-value-in_default : goal.returns-in_ok-value-in_default
returns-in_ok-value-in_default c = elim c.in_default-1.branch [
  | in_default-via-in-Constant-String+else-is_empty w ↦
      let some : length c.args.restricted.now.offsets.items ≡ 0 → ⊥ = λ none. search (rules, none) in
      let is =
      string_with_offsets (known_view c.args.self.now)
      (left_of (type_view c.args.object_type.now) c.args.filling.now.scalars)
      (string_tree w.in-Constant-String.string.value) c.args.restricted.now.offsets.items some in
      grind (arith, is)
  | in_default-via-in-Constant+in-Number-1 w ↦ search rules
  | in_default-via-in-Location-1 w ↦ search rules
]
