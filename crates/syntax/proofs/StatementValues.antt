-- What is read as a value.
use Rattle.syntax.proofs.Prelude.{Bool, true, false, List, Option, None, Some, Ok, Err, ◌≡◌, drop, if◌then◌else◌, refl, Place, expression_level, Symbol, ExpressionTree, StatementKindTree, ReturnStatement, ExpressionParser, value, Reading, ◌>>=◌, semicolon, at_semicolon, return_value}
use Rattle.syntax.proofs.ReaderLemmas.{read}

-- what is read as a value, before its semicolon and with it
abbrev whole : Reading ExpressionTree → Reading ExpressionTree
whole found =
    found >>= λ (f : ExpressionTree × List Symbol).
    semicolon f.1 >>= λ (e : Place × List Symbol).
    read f.0 e.1

abbrev given : Reading ExpressionTree → Reading (Option ExpressionTree)
given found = whole found >>= λ (f : ExpressionTree × List Symbol). read (Some (f.0)) f.1

-- a value as a statement
abbrev pub returned : Place → Reading (Option ExpressionTree) → Reading StatementKindTree
returned place found =
    found >>= λ (f : Option ExpressionTree × List Symbol). read (ReturnStatement place f.0) f.1

abbrev returned_at_once : Place → Reading ExpressionTree → Reading StatementKindTree
returned_at_once place found =
    found >>= λ (f : ExpressionTree × List Symbol).
    semicolon f.1 >>= λ (e : Place × List Symbol).
    read (ReturnStatement place (Some (f.0))) e.1

ended : (place : Place) (found : ExpressionTree) (end : Reading Place)
    → (end >>= λ (e : Place × List Symbol). read (ReturnStatement place (Some found)) e.1)
    ≡ returned place ((end >>= λ (e : Place × List Symbol). read found e.1) >>=
    λ (f : ExpressionTree × List Symbol). read (Some (f.0)) f.1)
ended place found (Ok e) = refl
ended place found (Err cause) = refl

at_once : (place : Place) (found : Reading ExpressionTree)
    → returned_at_once place found ≡ returned place (given found)
at_once place (Ok f) = ended place f.0 (semicolon f.1)
at_once place (Err cause) = refl

-- RETURN with what is read as its value
pub return_value_is : (inner : ExpressionParser) (place : Place) (s : List Symbol)
    → return_value inner place s ≡ returned place (value inner s)
unfolding return_value
return_value_is inner place s = go (at_semicolon s) (inner expression_level s)
  where
    go : (b : Bool) (found : Reading ExpressionTree)
        → (if b then read (ReturnStatement place None) (drop 1 s) else returned_at_once place found)
        ≡ returned place (if b then read None (drop 1 s) else given found)
    go true found = refl
    go false found = at_once place found
