-- References and arguments as the code has them.
use Rattle.typed_expressions.proofs.Prelude.{◌≡◌, suc, List, [], ◌∷◌, length, false, refl, ap, ◌∙◌, arith, Expression, Reference, Reference', out-Reference, None', Some', the_lemmas, Identifier, ReferenceLeaf, ReferenceTo, MemberTree, NoArguments, MoreArguments, argument_trees, reference_tree, CodeKnown, number_of_arguments, given_reference, given, selector_tree, plain_tree, is_plain, known_view}
use Rattle.trees.proofs.Views.{row_trees_are}

-- how many arguments there are
pub count_of_arguments : (arguments : List Expression)
    → number_of_arguments (argument_trees arguments) ≡ length arguments
count_of_arguments [] = refl
count_of_arguments (first ∷ others) = ap suc (count_of_arguments others)

-- a reference with the typing of its arguments, from its tree and from its parts
pub given_is : (known : CodeKnown) (reference : Reference)
    → given_reference (known_view known) (reference_tree reference) ≡ given known reference
given_is known (Reference' name shape arguments None') = grind (arith, the_lemmas, row_trees_are)
given_is known (Reference' name shape arguments (Some' p member count rows)) =
    grind (arith, the_lemmas, row_trees_are)

reference_parts : (reference : Reference) → reference_tree reference
    ≡ ReferenceTo (out-Reference reference).name (argument_trees (out-Reference reference).arguments.items)
    (selector_tree (out-Reference reference).member)
reference_parts (Reference' name shape arguments None') = grind (arith, the_lemmas, row_trees_are)
reference_parts (Reference' name shape arguments (Some' p member count rows)) =
    grind (arith, the_lemmas, row_trees_are)

-- a list of arguments that is empty
pub no_arguments : (arguments : List Expression) → length arguments ≡ 0
    → argument_trees arguments ≡ NoArguments
no_arguments [] empty = refl
no_arguments (first ∷ others) empty = absurd (omega arith)

plain_with : (name : Identifier) (arguments : List Expression) (member : MemberTree)
    → (length arguments ≡ 0 → ⊥)
    → is_plain
    (MoreArguments (ReferenceLeaf (ReferenceTo name (argument_trees arguments) member)) NoArguments)
    ≡ false
plain_with name [] part other = absurd (other refl)
plain_with name (first ∷ others) part other = refl

-- a reference without subscripts, and with some
pub plain_is : (reference : Reference) → length (out-Reference reference).arguments.items ≡ 0
    → MoreArguments (ReferenceLeaf (reference_tree reference)) NoArguments ≡ plain_tree reference
plain_is reference empty =
    ap (λ tree. MoreArguments (ReferenceLeaf tree) NoArguments) (reference_parts reference)
    ∙ ap (λ trees. MoreArguments (ReferenceLeaf
    (ReferenceTo (out-Reference reference).name trees (selector_tree (out-Reference reference).member)))
    NoArguments)
    (no_arguments (out-Reference reference).arguments.items empty)

pub not_plain : (reference : Reference) → (length (out-Reference reference).arguments.items ≡ 0 → ⊥)
    → is_plain (MoreArguments (ReferenceLeaf (reference_tree reference)) NoArguments) ≡ false
not_plain reference other =
    ap (λ tree. is_plain (MoreArguments (ReferenceLeaf tree) NoArguments)) (reference_parts reference)
    ∙ plain_with (out-Reference reference).name (out-Reference reference).arguments.items (selector_tree (out-Reference reference).member) other
