use Rattle.commands.proofs.{Prelude.{Some, ap, map, subst, sym, ◌∙◌, ◌≡◌, stays_on, passed_on, StopsLooking, found_view}, Included.{found_next, looks_on, none_left, stops_next, was_missing, was_text}}
use Rattle.commands.proofs.including.look_at.Goals as goal

pub returns-in-Ok-Some-clause-found : goal.returns-in-Ok-Some-clause-found
returns-in-Ok-Some-clause-found g c =
    found_next (λ name. name.items) (g.F.Files.files c.args.files.now) _ c.as_slice.result.now (found_view c.in-Ok-Some.found) _ c.loop-rest.rest.now c.in-len1-up.len_at_least (c.as_slice.ensures.value ∙ ap (λ name. name.items) c.name-item.is)
    (was_text _ _ c.loop-rest.invariant.kept c.as_slice.result.now (Some (found_view c.in-Ok-Some.found)) (rw c.in-Ok-Some.field-0-is at c.in-Ok-Some.ensures.found)) c.loop-rest.invariant.on

pub loop-rest-preserved : goal.loop-rest-preserved
loop-rest-preserved g c =
    let before = c.loop-rest.invariant in
    record {
      kept = stays_on _ _ _ before.kept c.in-Ok-None.ensures.kept;
      count = c.in-Ok-None.ensures.count ∙ before.count;
      on = looks_on (λ name. name.items) (g.F.Files.files c.args.files.now) _ _ _ c.loop-rest.rest.now c.in-len1-up.len_at_least (c.as_slice.ensures.value ∙ ap (λ name. name.items) c.name-item.is)
          (was_missing _ _ before.kept _ (rw c.in-Ok-None.field-0-is at c.in-Ok-None.ensures.found)) before.on;
    }

pub returns-in-Err-clause-stops : goal.returns-in-Err-clause-stops
returns-in-Err-clause-stops g c =
    let whole = map (λ name. name.items) c.args.names.now in
    let here = stops_next (λ name. name.items) (g.F.Files.files c.args.files.now) whole _ _ c.loop-rest.rest.now c.in-len1-up.len_at_least (c.as_slice.ensures.value ∙ ap (λ name. name.items) c.name-item.is) c.loop-rest.invariant.on in
    passed_on (λ stop. stop.items ≡ c.as_slice.result.now) (λ stop. StopsLooking (g.F.Files.files c.args.files.now) whole stop.items) c.in-Err.failure
    (λ stop is. subst (λ n. StopsLooking (g.F.Files.files c.args.files.now) whole n) (sym is) here) c.in-Err.ensures.stops

pub returns-clause-found : goal.returns-clause-found
returns-clause-found g c = none_left (λ name. name.items) (g.F.Files.files c.args.files.now) _ c.loop-rest.rest.now c.in_default.len_below c.loop-rest.invariant.on
