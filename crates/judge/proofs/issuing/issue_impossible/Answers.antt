-- `issue_impossible` tells what was written.
use Rattle.std.proofs.Common.{◌≡◌, Err, rules}
use Rattle.judge.proofs.Answers.{issued, not_issued, tells_impossible}
use Rattle.judge.proofs.issuing.issue_impossible.Goals as goal

pub returns-in_err-length : goal.returns-in_err-length
returns-in_err-length c =
    let same : c.from_residual.result ≡ Err c.in_err-length.field-0.0 = search rules in
    rw same
    (not_issued _ c.write_impossible.ensures.result_value c.write_impossible.ensures.out_after c.in_err-length.was)

pub returns : goal.returns
returns c =
    issued _ c.write_impossible.ensures.result_value c.write_impossible.ensures.out_after
    c.in_ok-length.was (tells_impossible _ _)
