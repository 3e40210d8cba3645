use Rattle.host.proofs.{Prelude.{◌∙◌, map, refl}, FilesRead.{read_on, stays_on, stops_next, was_there}}
use Rattle.host.proofs.reading.read_files.Goals as goal

pub loop-rest-preserved : goal.loop-rest-preserved
loop-rest-preserved g c =
    let before = c.loop-rest.invariant in
    let rest = c.loop-rest.rest.now in
    record {
      kept = stays_on _ _ _ before.kept c.in-Ok.ensures.kept;
      count = c.in-Ok.ensures.count ∙ before.count;
      made = read_on (λ t. t.items) (g.F.Files.files c.args.files.now) (map (λ n. n.now) c.args.names.now)
          c.loop-rest.texts.items _ c.in-Ok.text _ _ rest
          c.in-len1-up.len_at_least refl (was_there _ _ _ _ before.kept c.in-Ok.ensures.bytes)
          c.in_ok-push-in-Ok.ensures.items before.made;
    }

pub returns-in-Err-Fault-clause-stops : goal.returns-in-Err-Fault-clause-stops
returns-in-Err-Fault-clause-stops g c =
    stops_next _ _ _ _ _ c.loop-rest.rest.now c.in-len1-up.len_at_least refl c.loop-rest.invariant.made
