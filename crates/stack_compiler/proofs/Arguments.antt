-- The code of arguments, one by one.
use Rattle.stack_compiler.proofs.Prelude.{◌≡◌, ℕ, suc, ◌+◌, ◌-◌, ◌<◌, ◌≤◌, List, [], ◌∷◌, ◌++◌, length, drop, replicate, get_or, Option, None, option_map, ap, refl, sym, ◌∙◌, arith, append_assoc, append-nil, TypedExpression, arguments_view, expression_view, Instruction, Drop, Push, InProgram, Site, arguments_code, called_code, count_of_arguments, expression_code, Found, found_view, drop_item, at_drop_all}

pub arguments_count : (items : List TypedExpression)
    → count_of_arguments (arguments_view items) ≡ length items
arguments_count [] = refl
arguments_count (first ∷ others) = ap suc (arguments_count others)

module _ (site : Site) (made total : List Instruction) (arguments : List TypedExpression) (i : ℕ)
    (rest : made ++ arguments_code site (arguments_view (drop i arguments)) ≡ total) where
  pub argument_emitted : (argument : TypedExpression) (now : List Instruction) → i < length arguments
      → argument ≡ get_or arguments i argument
      → now ≡ made ++ expression_code site (expression_view argument)
      → now ++ arguments_code site (arguments_view (drop (i + 1) arguments)) ≡ total
  argument_emitted argument now within is given =
      ap (λ code. code ++ arguments_code site (arguments_view (drop (i + 1) arguments))) given
      ∙ append_assoc made (expression_code site (expression_view argument))
      (arguments_code site (arguments_view (drop (i + 1) arguments)))
      ∙ sym (drop_item (λ left. made ++ arguments_code site (arguments_view left)) arguments
      i argument within is)
      ∙ rest

  pub arguments_emitted : length arguments ≤ i → made ≡ total
  arguments_emitted past =
      sym (append-nil made)
      ∙ sym (at_drop_all (λ left. made ++ arguments_code site (arguments_view left)) arguments i past)
      ∙ rest

-- arguments that are dropped
module _ (made total : List Instruction) (left : ℕ) (rest : made ++ replicate left Drop ≡ total) where
  pub drop_emitted : (now : List Instruction) → 0 < left → now ≡ made ++ (Drop ∷ [])
      → now ++ replicate (left - 1) Drop ≡ total
  drop_emitted now some given =
      ap (λ code. code ++ replicate (left - 1) Drop) given
      ∙ append_assoc made (Drop ∷ []) (replicate (left - 1) Drop)
      ∙ ap (λ count. made ++ replicate count Drop) (one_less left some)
      ∙ rest
    where
      one_less : (n : ℕ) → 0 < n → suc (n - 1) ≡ n
      one_less n more = omega arith

  pub drops_emitted : left ≤ 0 → made ≡ total
  drops_emitted none =
      sym (append-nil made) ∙ ap (λ count. made ++ replicate count Drop) (is_none left none) ∙ rest
    where
      is_none : (n : ℕ) → n ≤ 0 → 0 ≡ n
      is_none n less = omega arith

-- a call of what no module has
called_is : (callee : Option InProgram) (count : ℕ) → None ≡ callee
    → (replicate count Drop ++ (Push 0 ∷ [])) ≡ called_code callee count
called_is callee count is = ap (λ one. called_code one count) is

pub called_none : (old a new : List Instruction) (callee : Option InProgram) (found : Option Found)
    (count : ℕ) → option_map found_view found ≡ callee → found ≡ None
    → a ≡ old ++ replicate count Drop → new ≡ a ++ (Push 0 ∷ []) → new ≡ old ++ called_code callee count
called_none old a new callee found count is none dropped made =
    made
    ∙ ap (λ code. code ++ (Push 0 ∷ [])) dropped
    ∙ append_assoc old (replicate count Drop) (Push 0 ∷ [])
    ∙ ap (λ code. old ++ code) (called_is callee count (sym (ap (option_map found_view) none) ∙ is))
