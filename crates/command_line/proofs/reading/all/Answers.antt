use Rattle.command_line.proofs.Prelude.{◌∙◌, List, Option, [], Ok, Err, ap, IfOk, Result, unwrap_or, raw_values-rows, texts, Text, found_of}
use Rattle.command_line.proofs.reading.all.Goals as goal

ok_then : {A E : Type 0} {P Q : A → Type 0} (result : Result A E) → IfOk result P
    → ((a : A) → P a → Q a) → IfOk result Q
ok_then (Ok a) p then_q = then_q a p
ok_then (Err e) p then_q = tt

pub returns-in-Some : goal.returns-in-Some
returns-in-Some c = ok_then c.from_slice.result c.from_slice.ensures.items (λ files are. ap texts are
    ∙ ap (λ (o : Option (List Text)). unwrap_or o [])
    (c.in-Some.ensures ∙ raw_values-rows (found_of c.args.matches.now) c.args.name.now))

pub returns-in-None : goal.returns-in-None
returns-in-None c =
    ap texts c.new.ensures.items
    ∙ ap (λ (o : Option (List Text)). unwrap_or o [])
    (c.in-None.ensures ∙ raw_values-rows (found_of c.args.matches.now) c.args.name.now)
