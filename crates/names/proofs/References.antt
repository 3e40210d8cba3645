-- The names in references, from the parts of the code's trees.
use Rattle.names.proofs.Prelude.{◌≡◌, List, [], ◌∷◌, ◌++◌, Option, None, Some, Ok, ap, sym, subst, ◌∙◌, arith, Global, Box, Reference, Reference', out-Reference, None', Some', the_lemmas, Selector, Identifier, reference_tree, argument_trees, row_trees_are, Expression, Binding, Fault, Here, FailsBy, bind_more, bound_at, names_in_reference, names_in_arguments}
use Rattle.names.proofs.BindingWalks.{fails_more, bound_cons_ok, bind_more_append}

-- the names in the member that a reference names
abbrev pub member_names : Option (Box Selector Global) → List Identifier
member_names None = []
member_names (Some member) = names_in_arguments (argument_trees member.value.arguments.items)

pub reference_names : (reference : Reference) → names_in_reference (reference_tree reference)
    ≡ (out-Reference reference).name ∷ names_in_arguments
    (argument_trees (out-Reference reference).arguments.items)
    ++ member_names (out-Reference reference).member
reference_names (Reference' name shape arguments None') = grind (arith, the_lemmas, row_trees_are)
reference_names (Reference' name shape arguments (Some' p member count rows)) =
    grind (arith, the_lemmas, row_trees_are)

module _ (here : Here) (reference : Reference) (items : List Expression) (bindings now : List Binding)
    (same : items ≡ (out-Reference reference).arguments.items)
    (named : bound_at here ((out-Reference reference).name ∷ []) bindings ≡ Ok now) where
  reference_bound : bound_at here (names_in_reference (reference_tree reference)) bindings
      ≡ bind_more (bound_at here (names_in_arguments (argument_trees items)) now)
      (bound_at here (member_names (out-Reference reference).member))
  reference_bound =
      ap (λ names. bound_at here names bindings) (reference_names reference)
      ∙ bound_cons_ok here (out-Reference reference).name
      (names_in_arguments (argument_trees (out-Reference reference).arguments.items)
      ++ member_names (out-Reference reference).member) bindings now named
      ∙ bind_more_append here (names_in_arguments (argument_trees (out-Reference reference).arguments.items))
      (member_names (out-Reference reference).member) now
      ∙ ap (λ arguments. bind_more (bound_at here (names_in_arguments (argument_trees arguments)) now)
      (bound_at here (member_names (out-Reference reference).member))) (sym same)

  pub reference_fails : (fault : Option Fault)
      → FailsBy fault (bound_at here (names_in_arguments (argument_trees items)) now)
      → FailsBy fault (bound_at here (names_in_reference (reference_tree reference)) bindings)
  reference_fails fault fails =
      subst (FailsBy fault) (sym reference_bound)
      (fails_more fault (bound_at here (names_in_arguments (argument_trees items)) now)
      (bound_at here (member_names (out-Reference reference).member)) fails)

  pub member_bound : (after : List Binding) (member : Option (Box Selector Global))
      → bound_at here (names_in_arguments (argument_trees items)) now ≡ Ok after
      → (out-Reference reference).member ≡ member
      → bound_at here (names_in_reference (reference_tree reference)) bindings
      ≡ bound_at here (member_names member) after
  member_bound after member given is =
      reference_bound
      ∙ ap (λ result. bind_more result (bound_at here (member_names (out-Reference reference).member))) given
      ∙ ap (λ found. bound_at here (member_names found) after) is
