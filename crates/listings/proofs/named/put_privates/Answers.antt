use Rattle.listings.proofs.Prelude.{◌≡◌, true, List, map, subst, sym, constant_bytes, object_of, procedure_view, typed_of, CodeProcedure, IsNameIn}
use Rattle.std.proofs.Common.{rules}
use Rattle.listings.proofs.NamesAdded.{PrivatesAre, all_privates, no_names}
use Rattle.listings.specs.internal.Marks.{begin_in}
use Rattle.listings.proofs.named.put_privates.Goals as goal

pub loop-rest-init : goal.loop-rest-init
loop-rest-init c = record {
  adds = no_names (IsNameIn c.args.view.now) c.args.names.now.items;
  named =
      subst (λ (procedures : List CodeProcedure). PrivatesAre (typed_of c.args.view.now) (map procedure_view procedures))
      (sym c.as_slice-rest.ensures.value) (all_privates (typed_of c.args.view.now));
  begin =
      subst (λ (procedures : List CodeProcedure). begin_in (constant_bytes (typed_of c.args.view.now))
      (object_of c.args.view.now) (map procedure_view procedures) c.args.view.now.procedures.now ≡ true)
      (sym c.as_slice-rest.ensures.value) (search rules);
}
