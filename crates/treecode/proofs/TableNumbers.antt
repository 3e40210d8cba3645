-- The numbers of a table of expressions have 16 bits: of an empty one, and after one more.
use Rattle.treecode.proofs.Prelude.{◌≡◌, Bool, true, false, List, [], ◌∷◌, ◌++◌, inl, inr, none-some, sym, ap, subst, Expression, ExpressionForm, ExpressionsAreWords, FormIsWord, Traits}
use Rattle.std.proofs.Common.{if◌then◌else◌}
use Rattle.treecode.proofs.TraitsKept.{found_or_last}

pub no_expressions : (expressions : List Expression) → expressions ≡ [] → ExpressionsAreWords expressions
no_expressions expressions empty =
    subst ExpressionsAreWords (sym empty) (λ index number found at form. absurd (none-some found at))

one_expression_more : (old new : List Expression) (added : Expression)
    (form : ExpressionForm) (traits : Traits)
    → new ≡ old ++ added ∷ []
    → added ≡ record { form = form; traits = traits }
    → FormIsWord form
    → ExpressionsAreWords old
    → ExpressionsAreWords new
one_expression_more old new added form traits is same its words = subst ExpressionsAreWords (sym is) grown
  where
    word : FormIsWord added.form
    word = subst FormIsWord (sym (ap (λ (one : Expression). one.form) same)) its

    grown : ExpressionsAreWords (old ++ added ∷ [])
    grown index number found at form =
        elim (found_or_last old added found index at) [
          | inl there ↦ words index number found there form
          | inr last ↦ subst FormIsWord form (subst (λ (one : Expression). FormIsWord one.form) last.1 word)
        ]

-- a table to which an expression is added, if there is memory for it
pub expression_pushed :
    (old new : List Expression) (added : Expression) (form : ExpressionForm)
    (traits : Traits) (is_there : Bool)
    → new ≡ (if is_there then old ++ added ∷ [] else old)
    → added ≡ record { form = form; traits = traits }
    → FormIsWord form
    → ExpressionsAreWords old
    → ExpressionsAreWords new
expression_pushed old new added form traits true is same its words =
    one_expression_more old new added form traits is same its words
expression_pushed old new added form traits false is same its words = subst ExpressionsAreWords (sym is) words
