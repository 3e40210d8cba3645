-- Steps that are planned.
use Rattle.codegen8080.proofs.Prelude.{◌≡◌, ℕ, suc, ◌+◌, ◌-◌, ◌<◌, ◌≤◌, List, [], ◌++◌, Bor, Option, Some, None, none-some, option_copied, slice_get, slice_get_past, IsItemAt, sym, ap, subst, ◌∙◌, arith, min, Parameter, Facts, label_after, Plan, Planned, PlanAdds, PlanAddsWithLabels, IsAdding, known_at, known_from, popped_at, popped_from}
use Rattle.statements8080.proofs.Adding.{adding_begins, adding_ends, adding_goes_on}
use Rattle.codegen8080.specs.internal.Procedures.{popped_argument_steps}

-- planners that take no label, as a special case of those that may take some
pub none_taken : (before after : Plan) (list : List Planned)
    → PlanAdds before after list
    → PlanAddsWithLabels before after 0 (λ first. list)
none_taken before after list adds = record {
  added = adds.added;
  first = adds.first;
  taken = ap (λ taken. min taken 4294967295) adds.taken
      ∙ sym (ap (λ taken. min taken 4294967295) (add_none before.taken));
}
  where
    add_none : (n : ℕ) → n + 0 ≡ n
    add_none n = omega arith

-- the first label that is not taken is the next one
pub next_is_free : (labels : ℕ) → labels < 4294967296 → label_after labels 0 ≡ labels
next_is_free labels few = omega (arith, few)

-- labels that a plan takes from that one on are taken
pub labels_are_taken : (labels taken count : ℕ)
    → min taken 4294967295 ≡ min (0 + count) 4294967295
    → label_after (label_after labels 0) taken ≡ label_after labels count
labels_are_taken labels taken count same = omega (arith, same)

-- nothing is copied of a list that ends before an index
nothing_there : {A : Type 0} (list : List A) (index : ℕ) (found : Option (Bor A))
    → IsItemAt list index found
    → option_copied found ≡ None
    → slice_get list index ≡ None
nothing_there list index None item none = slice_get_past list index item.3
nothing_there list index (Some entry) item none = absurd (none-some entry.now (sym none))

module _ (parameters : List Parameter) where
  popped_more : (left : ℕ) → 0 < left
      → popped_from parameters left ≡ popped_at parameters (left - 1) ++ popped_from parameters (left - 1)
  unfolding popped_from
  popped_more left some =
      let more : left ≡ suc (left - 1) = omega (arith, some) in ap (popped_from parameters) more

  -- no argument is popped where there is no parameter
  pub none_popped : (plan : Plan) (index : ℕ) (found : Option (Bor Parameter))
      → IsItemAt parameters index found
      → option_copied found ≡ None
      → PlanAdds plan plan (popped_at parameters index)
  unfolding popped_at
  none_popped plan index found item none =
      subst
      (λ entry. PlanAdds plan plan
      (elim entry [ Some parameter ↦ popped_argument_steps parameter | None ↦ [] ]))
      (sym (nothing_there parameters index found item none))
      (adding_ends plan plan [] (adding_begins plan []))

  -- one of the remaining arguments is stored
  pub popped_next : (before now next : Plan) (whole : List Planned) (left : ℕ) → 0 < left
      → IsAdding before now whole (popped_from parameters left)
      → PlanAdds now next (popped_at parameters (left - 1))
      → IsAdding before next whole (popped_from parameters (left - 1))
  popped_next before now next whole left some adding adds =
      adding_goes_on before now next whole (popped_at parameters (left - 1))
      (popped_from parameters (left - 1))
      (subst (IsAdding before now whole) (popped_more left some) adding) adds

  -- no argument remains
  pub popped_done : (before now : Plan) (whole : List Planned) (left : ℕ) → left ≤ 0
      → IsAdding before now whole (popped_from parameters left) → PlanAdds before now whole
  unfolding popped_from
  popped_done before now whole left none adding =
      let no : left ≡ 0 = omega (arith, none) in
      adding_ends before now whole
      (subst (λ count. IsAdding before now whole (popped_from parameters count)) no adding)

  -- the same for the facts
  pub known_next : (facts : Facts) (left : ℕ) → 0 < left
      → known_from facts parameters left
      ≡ known_from (known_at facts parameters (left - 1)) parameters (left - 1)
  unfolding known_from
  known_next facts left some =
      let more : left ≡ suc (left - 1) = omega (arith, some) in ap (known_from facts parameters) more

  pub known_done : (facts : Facts) (left : ℕ) → left ≤ 0 → known_from facts parameters left ≡ facts
  unfolding known_from
  known_done facts left none =
      let no : left ≡ 0 = omega (arith, none) in ap (known_from facts parameters) no
