use Rattle.steps8080.proofs.Prelude.{refl, ap, ℕ, option_map, WithWord, AtTarget, External}
use Rattle.steps8080.proofs.Numbered.{is_itself, writes_named}
use Rattle.steps8080.proofs.writer.Writer.fixed_by_name.Goals as goal

pub returns : goal.returns
returns c =
    writes_named _ _ _
    (WithWord c.args.form (AtTarget (External c.args.name) c.args.offset))
    (WithWord c.args.form (AtTarget (External c.in_ok-number.number) c.args.offset))
    c.args.name c.self.view_is c.in_ok-emit_fixed.ensures.ok refl refl c.number.ensures.kept c.number.ensures.only
    c.number.ensures.longer c.number.ensures.within
    (is_itself c.args.name)
    (ap
    (λ found. option_map (WithWord c.args.form)
    (option_map (λ (number : ℕ). AtTarget (External number) c.args.offset) found))
    c.in_ok-number.ensures.found)
