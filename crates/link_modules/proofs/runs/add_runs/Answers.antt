use Rattle.link_modules.proofs.Prelude.{length_of, HaveTheirFixes, runs_grown_over, runs_have_fixes}
use Rattle.link_modules.proofs.runs.add_runs.Goals as goal

pub loop-rest-init : goal.loop-rest-init
loop-rest-init c =
    let theirs :
    HaveTheirFixes (length_of c.args.object.now c.args.segment) c.fixes-left.result.now
    c.runs-rest.result.now =
    runs_have_fixes c.args.object.now c.args.segment (length_of c.args.object.now c.args.segment)
    c.runs-rest.result.now c.fixes-left.result.now c.requires.valid c.runs-rest.ensures.runs
    c.fixes-left.ensures.fixes c.runs-rest.ensures.longest in
    record {
      theirs = theirs;
      added =
          runs_grown_over c.args.resolved.now c.args.segment c.args.grown.now
          (length_of c.args.object.now c.args.segment) c.args.object.now c.fixes-left.result.now
          c.runs-rest.result.now theirs c.fixes-left.ensures.fixes c.runs-rest.ensures.runs;
    }
