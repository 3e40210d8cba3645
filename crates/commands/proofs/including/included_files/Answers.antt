use Rattle.commands.proofs.{Prelude.{arith, passed, refl, sym, texts, ◌∙◌, files_stay, stays_on, passed_on, candidates, convert_in, StopsLooking, StopsLookingForNext}, Included.{all_looked, none_looked, one_more, stops_next_name, was_looked, was_stopped}}
use Rattle.commands.proofs.including.included_files.Goals as goal

pub names-init : goal.names-init
names-init g c = record {
  kept = files_stay _;
  count = refl;
  looked = none_looked _ _ _ _ _ _ c.new-entries.ensures.items;
}

pub returns-in_default-clause-included : goal.returns-in_default-clause-included
returns-in_default-clause-included g c =
    all_looked _ _ _ _ _ (λ name. name.items) _ _ c.names.invariant.looked c.in_default.not-Some (rw (c.as_slice.ensures.value, c.as_slice-sets.ensures.value) at c.in_ok-next.ensures)

pub returns-in_err-found-clause-stops : goal.returns-in_err-found-clause-stops
returns-in_err-found-clause-stops g c =
    let first = rw (c.as_slice.ensures.value, c.as_slice-sets.ensures.value, c.in-Some.is) at c.in_ok-next.ensures in
    rw (passed _ _ c.from_residual-in_err-found.ensures.1) (passed_on
    (λ stop. StopsLooking (g.F.Files.files c.names.files) (candidates (texts c.as_slice-in-names.result.now) c.args.order.now.file.now c.as_slice-in-names-2.result.now) stop.items)
    (λ stop. StopsLookingForNext c.args.advice.now (convert_in c.args.order.now) (g.F.Files.files c.args.files.now) c.args.before.now c.args.source.now stop.items)
    c.in_err-found.field-0.0
    (λ stop stops. stops_next_name _ _ _ _ _ _ _ _ c.names.invariant.looked (omega (arith, c.names-test.true, c.len.ensures, c.most_names-most.ensures)) (sym first)
    (was_stopped _ _ c.names.invariant.kept (rw (c.as_slice-in-names.ensures.value, c.as_slice-in-names-2.ensures.value) at stops)))
    c.in_err-found.ensures.stops)

pub names-preserved : goal.names-preserved
names-preserved g c =
    let first = rw (c.as_slice.ensures.value, c.as_slice-sets.ensures.value, c.in-Some.is) at c.in_ok-next.ensures in
    record {
      kept = stays_on _ _ _ c.names.invariant.kept c.in_ok-found.ensures.kept;
      count = c.in_ok-found.ensures.count ∙ c.names.invariant.count;
      looked = one_more _ _ _ _ _ _ _ _ c.names.invariant.looked (omega (arith, c.names-test.true, c.len.ensures, c.most_names-most.ensures)) (sym first)
          (was_looked _ _ c.names.invariant.kept (rw (c.as_slice-in-names.ensures.value, c.as_slice-in-names-2.ensures.value) at c.in_ok-found.ensures.found)) c.in_ok-push.ensures.items;
    }
