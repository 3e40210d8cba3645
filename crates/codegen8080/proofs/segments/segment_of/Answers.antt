use Rattle.codegen8080.proofs.Prelude.{◌≡◌, sym, subst, rules, segment_of, with_targets, IsKept, retarget}
use Rattle.codegen8080.proofs.KeptSegments.{segment_with_targets_is_kept}
use Rattle.codegen8080.proofs.segments.segment_of.Goals as goal

pub returns-clause-kept : goal.returns-clause-kept
returns-clause-kept c =
    let made : c.new.result ≡ segment_of
    (with_targets (retarget c.args.numbers.now c.args.count) c.args.code) = search rules in
    subst (IsKept c.args.count) (sym made)
    (segment_with_targets_is_kept c.args.numbers.now c.args.count c.args.code c.bytes.ensures.fits
    c.requires (search rules))
