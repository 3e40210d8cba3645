use Rattle.typed_expressions.proofs.Prelude.{◌≡◌, drop, length, into_iter_items, into_iter_len, arguments_view, arguments_as, in_front}
use Rattle.typed_expressions.proofs.calls.arguments_as.Given as goal

abbrev pub invariant-loop-value : goal.invariant-loop-value
invariant-loop-value l = record {
  left : in_front l.made.items
      (arguments_as (drop (length l.made.items) l.scalars)
      (arguments_view (into_iter_items l.value-iterator)))
      ≡ arguments_as l.scalars (arguments_view (into_iter_items l.initial.value-iterator));
  counted : into_iter_len l.value-iterator ≡ length (into_iter_items l.value-iterator);
}
