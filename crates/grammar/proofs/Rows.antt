-- Rows of the derivation.
use Rattle.grammar.proofs.Prelude.{◌≡◌, List, [], ◌∷◌, refl, lit≤, arith, Identifier, DerivesExpression, Derives, whole_module, no_declaration, next_statement, no_statement, labelled, unlabelled, null, goto, if_then, if_then_else, next_level, reference, whole, no_arguments, expression_level, IsExpression, expression_symbols, Symbol, NameSymbol, ReferenceLeaf, ReferenceTo, NoArguments, NoMember}
use Rattle.grammar.specs.internal.Rows.{at, nested_if_words, nested_if_tree, left_sum, right_sum}

variable-derived : {name : Identifier} {rest : List Symbol}
    → DerivesExpression expression_level (NameSymbol name ∷ rest)
    (ReferenceLeaf (ReferenceTo name NoArguments NoMember)) rest
variable-derived =
    next_level (next_level (next_level (next_level (next_level (next_level (next_level
    (reference (whole no_arguments))))))))

-- the words derive the tree in which the ELSE goes with the nearer IF
nested_if-derived : Derives nested_if_words nested_if_tree
nested_if-derived = record {
  grammar =
      whole_module (at 44) no_declaration
      (next_statement
      (unlabelled (if_then variable-derived
      (labelled (unlabelled (if_then_else variable-derived (unlabelled null) refl (unlabelled goto))))))
      no_statement);
  nested = lit≤ tt;
  ends = (refl, tt, (((tt, tt), tt), tt));
}

-- 1 + 2 + 3 groups from the left
left_sum-is : IsExpression expression_level left_sum
left_sum-is = (lit≤ tt, (lit≤ tt, lit≤ tt, lit≤ tt), lit≤ tt)

right_sum-is-not : IsExpression expression_level right_sum → ⊥
right_sum-is-not h = omega (arith, h.2.0)

right_sum-is_spelled_alike : expression_symbols right_sum [] ≡ expression_symbols left_sum []
right_sum-is_spelled_alike = refl
