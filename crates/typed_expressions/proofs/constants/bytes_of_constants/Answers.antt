use Rattle.typed_expressions.proofs.Prelude.{◌++◌, ◌∙◌, List, map, sym, append_assoc, Constant, constant_tree, bytes_of_constant, bytes_of_constants, drop_item}
use Rattle.typed_expressions.proofs.constants.bytes_of_constants.Goals as goal

pub loop-constant-preserved : goal.loop-constant-preserved
loop-constant-preserved c =
    let before = c.loop-constant.bytes.items in
    rw c.in_ok-push_constant.ensures
    (append_assoc before (bytes_of_constant (constant_tree c.constant-item.result)) _
    ∙ sym (drop_item (λ (items : List Constant). before ++ bytes_of_constants (map constant_tree items))
    c.args.list.now c.loop-constant.constant-index c.constant-item.result
    c.loop-constant-test.true c.constant-item.is)
    ∙ c.loop-constant.invariant)
