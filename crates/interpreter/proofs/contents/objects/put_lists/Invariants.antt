use Rattle.interpreter.proofs.Prelude.{◌≡◌, length, map, drop, zip, vec_items, contents_of_list, with_all}
use Rattle.interpreter.proofs.contents.objects.put_lists.Given as goal

abbrev pub invariant-loop-bytes : goal.invariant-loop-bytes
invariant-loop-bytes l =
    with_all l.memory (map contents_of_list
    (zip (map vec_items (drop (length l.yielded) l.lists)) (drop (length l.yielded) l.addresses)))
    ≡ with_all l.fn.memory (map contents_of_list (zip (map vec_items l.lists) l.addresses))
