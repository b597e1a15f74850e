-- `issue_allowed` tells what was written.
use Rattle.std.proofs.Common.{◌≡◌, Err, rules}
use Rattle.judge.proofs.Answers.{issued, not_issued, tells_allowed}
use Rattle.judge.proofs.issuing.issue_allowed.Goals as goal

pub returns-in_err-length : goal.returns-in_err-length
returns-in_err-length c =
    let same : c.from_residual.result ≡ Err c.in_err-length.field-0.0 = search rules in
    rw same
    (not_issued _ c.write_allowed.ensures.result_value c.write_allowed.ensures.out_after c.in_err-length.was)

pub returns : goal.returns
returns c =
    issued _ c.write_allowed.ensures.result_value c.write_allowed.ensures.out_after c.in_ok-length.was
    (tells_allowed c.args.steps.now _)
