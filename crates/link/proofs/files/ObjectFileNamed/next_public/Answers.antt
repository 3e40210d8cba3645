use Rattle.link.proofs.Prelude.{option_map, ap, subst, ◌∙◌, list_all, is_name, Walking, HandsOut, public_view, fits_without_publics, public_handed, publics_handed, publics_left}
use Rattle.link.proofs.files.ObjectFileNamed.next_public.Goals as goal

pub invariant_of-self : goal.invariant_of-self
invariant_of-self c = record {
  named = ap (λ (w : Walking). is_name w.name) c.next_public.ensures.rest ∙ c.self.invariant.named;
  externals =
      ap (λ (w : Walking). list_all is_name w.externals) c.next_public.ensures.rest
      ∙ c.self.invariant.externals;
  publics =
      publics_left c.self.inside.walk.publics c.next_public.new.self.publics _ c.next_public.ensures.next
      c.self.invariant.publics;
  fits =
      fits_without_publics c.self.inside.walk c.next_public.new.self _ c.next_public.ensures.rest
      c.self.invariant.fits;
}

pub returns-clause-next : goal.returns-clause-next
returns-clause-next c =
    publics_handed c.args.self.now c.next_public.new.self _
    (subst
    (λ (w : Walking).
    HandsOut w.publics c.next_public.new.self.publics (option_map public_view c.next_public.result))
    c.self.view_is c.next_public.ensures.next)

pub returns-clause-valid : goal.returns-clause-valid
returns-clause-valid c =
    public_handed c.self.inside.walk.publics c.next_public.new.self.publics c.next_public.result
    c.next_public.ensures.next c.self.invariant.publics
