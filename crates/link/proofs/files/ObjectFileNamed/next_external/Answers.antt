use Rattle.link.proofs.Prelude.{Bor, List, ℕ, map, option_map, ap, subst, ◌∙◌, list_all, is_name, Walking, HandsOut, public_name, externals_handed, fits_without_externals, name_handed, names_left}
use Rattle.link.proofs.files.ObjectFileNamed.next_external.Goals as goal

pub invariant_of-self : goal.invariant_of-self
invariant_of-self c = record {
  named = ap (λ (w : Walking). is_name w.name) c.next_external.ensures.rest ∙ c.self.invariant.named;
  externals =
      names_left c.self.inside.walk.externals c.next_external.new.self.externals _
      c.next_external.ensures.next
      c.self.invariant.externals;
  publics =
      ap (λ (w : Walking). list_all is_name (map public_name w.publics)) c.next_external.ensures.rest
      ∙ c.self.invariant.publics;
  fits =
      fits_without_externals c.self.inside.walk c.next_external.new.self _ c.next_external.ensures.rest
      c.self.invariant.fits;
}

pub returns-clause-next : goal.returns-clause-next
returns-clause-next c =
    externals_handed c.args.self.now c.next_external.new.self _
    (subst
    (λ (w : Walking).
    HandsOut w.externals c.next_external.new.self.externals
    (option_map (λ (name : Bor (List ℕ)). name.now) c.next_external.result))
    c.self.view_is c.next_external.ensures.next)

pub returns-clause-valid : goal.returns-clause-valid
returns-clause-valid c =
    name_handed c.self.inside.walk.externals c.next_external.new.self.externals c.next_external.result
    c.next_external.ensures.next c.self.invariant.externals
