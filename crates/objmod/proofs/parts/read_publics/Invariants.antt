use Rattle.objmod.proofs.Prelude.{◌≡◌, ◌++◌, true, length, map, list_all, is_name, Public, owned_public_view}
use Rattle.objmod.proofs.parts.read_publics.Given as goal

abbrev pub invariant-loop-public : goal.invariant-loop-public
invariant-loop-public l = record {
  read : map owned_public_view l.publics.items ++ l.walk.publics ≡ l.fn.walk.publics;
  valid : list_all is_name (map (λ (public : Public). public.name) l.walk.publics) ≡ true;
  rest : l.walk ≡ record l.fn.walk { publics = l.walk.publics };
}

abbrev pub decreases-loop-public : goal.decreases-loop-public
decreases-loop-public l = length l.walk.publics
