-- Arguments that are typed one after another.
use Rattle.typed_expressions.proofs.Prelude.{◌≡◌, ℕ, suc, ◌+◌, ◌<◌, ◌≤◌, List, [], ◌∷◌, ◌++◌, length, drop, get_or, slice_get, zero, Option, Ok, refl, ap, sym, ◌∙◌, add-one, arith, length-append, Expression, argument_trees, expression_tree, Typed, TypedArguments, More, Constants, arguments_view, expression_view, Checked, Known, arguments, expression, arguments_as, Fault, FailsBy, put_in_front, made_goes_on, made_fails, made_ended, in_front, as_given, ScalarType}
use Rattle.typed_trees.specs.TypedTrees.{TypedExpression, NoArguments}

pub in_front_end : (made : List Typed) → in_front made NoArguments ≡ arguments_view made
in_front_end [] = refl
in_front_end (first ∷ rest) = ap (More (expression_view first)) (in_front_end rest)

pub in_front_more : (made : List Typed) (next : Typed) (others : TypedArguments)
    → in_front (made ++ next ∷ []) others ≡ in_front made (More (expression_view next) others)
in_front_more [] next others = refl
in_front_more (first ∷ rest) next others = ap (More (expression_view first)) (in_front_more rest next others)

-- the arguments of trees, after those that are made
abbrev after_made : List Typed → TypedArguments × Constants → TypedArguments × Constants
after_made made rest = (in_front made rest.0, rest.1)

module _ (known : Known) where
  abbrev first_typed : Expression → Constants → Checked (TypedExpression × Constants)
  first_typed tree constants = expression known (expression_tree tree) constants

  abbrev all_typed : List Expression → Constants → Checked (TypedArguments × Constants)
  all_typed trees constants = arguments known (argument_trees trees) constants

  abbrev grown : TypedExpression → TypedArguments × Constants → TypedArguments × Constants
  grown typed rest = (More typed rest.0, rest.1)

  pub goes_on : (trees : List Expression) (i : ℕ) (tree : Expression) (made : List Typed) (before : Constants)
      (total : Checked (TypedArguments × Constants))
      → i < length trees → tree ≡ get_or trees i tree
      → total ≡ put_in_front (after_made made) (all_typed (drop i trees) before)
      → (next : Typed) (after : Constants)
      → expression known (expression_tree tree) before ≡ Ok (expression_view next, after)
      → total ≡ put_in_front (after_made (made ++ next ∷ [])) (all_typed (drop (i + 1) trees) after)
  goes_on trees i tree made before total within is left next after given =
      sym (made_goes_on first_typed all_typed grown (λ first others state. refl) trees i tree before after
      (expression_view next) (after_made made) (after_made (made ++ next ∷ [])) total
      within is (sym left) given (λ rest. ap (λ all. (all, rest.1)) (in_front_more made next rest.0)))

  pub argument_fails : (trees : List Expression) (i : ℕ) (tree : Expression) (made : List Typed)
      (before : Constants) (total : Checked (TypedArguments × Constants)) (fault : Option Fault)
      → i < length trees → tree ≡ get_or trees i tree
      → total ≡ put_in_front (after_made made) (all_typed (drop i trees) before)
      → FailsBy fault (expression known (expression_tree tree) before) → FailsBy fault total
  argument_fails trees i tree made before total fault within is left given =
      made_fails first_typed all_typed grown (λ first others state. refl) trees i tree before
      (after_made made) total fault within is (sym left) given

  pub arguments_ended : (trees : List Expression) (i : ℕ) (made : List Typed) (now : Constants)
      (total : Checked (TypedArguments × Constants))
      → length trees ≤ i → total ≡ put_in_front (after_made made) (all_typed (drop i trees) now)
      → total ≡ Ok (arguments_view made, now)
  arguments_ended trees i made now total past left =
      made_ended first_typed all_typed grown (λ first others state. refl) trees i now (after_made made) total
      (NoArguments, now) (arguments_view made, now)
      past (sym left) refl (ap (λ all. (all, now)) (in_front_end made))

-- converting the next of several values
converted_next : (scalars : List ScalarType) (n : ℕ) (value : TypedExpression) (others : TypedArguments)
    → arguments_as (drop n scalars) (More value others)
    ≡ More (as_given (slice_get scalars n) value) (arguments_as (drop (suc n) scalars) others)
converted_next [] zero value others = refl
converted_next [] (suc n) value others = refl
converted_next (scalar ∷ scalars) zero value others = refl
converted_next (scalar ∷ scalars) (suc n) value others = converted_next scalars n value others

-- once no value is left
converted_all : (scalars : List ScalarType) → arguments_as scalars NoArguments ≡ NoArguments
converted_all [] = refl
converted_all (scalar ∷ scalars) = refl

-- one more of several values is converted
pub converts_on : (scalars : List ScalarType) (made : List Typed) (value next : Typed)
    (all others : List Typed) (n : ℕ) (total : TypedArguments)
    → all ≡ value ∷ others → n ≡ length made
    → expression_view next ≡ as_given (slice_get scalars n) (expression_view value)
    → in_front made (arguments_as (drop (length made) scalars) (arguments_view all)) ≡ total
    → in_front (made ++ next ∷ [])
    (arguments_as (drop (length (made ++ next ∷ [])) scalars) (arguments_view others)) ≡ total
converts_on scalars made value next all others n total is count given left =
    in_front_more made next (arguments_as (drop (length (made ++ next ∷ [])) scalars) (arguments_view others))
    ∙ ap (λ m. in_front made (More (expression_view next)
    (arguments_as (drop m scalars) (arguments_view others)))) (length-append made (next ∷ []))
    ∙ ap (λ first. in_front made (More first
    (arguments_as (drop (length made + 1) scalars) (arguments_view others))))
    (given ∙ ap (λ m. as_given (slice_get scalars m) (expression_view value)) count)
    ∙ ap (in_front made)
    (sym (converted_next scalars (length made) (expression_view value) (arguments_view others)
    ∙ ap (λ m. More (as_given (slice_get scalars (length made)) (expression_view value))
    (arguments_as (drop m scalars) (arguments_view others))) (sym (add-one (length made)))))
    ∙ ap (λ items. in_front made (arguments_as (drop (length made) scalars) (arguments_view items))) (sym is)
    ∙ left

pub converts_no_more : (scalars : List ScalarType) (made all : List Typed) (n : ℕ) (total : TypedArguments)
    → n ≡ length all → n ≡ 0
    → in_front made (arguments_as (drop (length made) scalars) (arguments_view all)) ≡ total
    → arguments_view made ≡ total
converts_no_more scalars made [] n total same none left =
    sym (in_front_end made) ∙ ap (in_front made) (sym (converted_all (drop (length made) scalars))) ∙ left
converts_no_more scalars made (first ∷ others) n total same none left = absurd (omega arith)
