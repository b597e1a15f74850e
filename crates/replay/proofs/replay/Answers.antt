-- `replay` is `replay_log`: the log's refusal, or the replay of an accepted log.
use Rattle.std.proofs.lemmas.Result.{err_from_is_err_and}
use Rattle.reader.proofs.Heads.{accepted_head, refused_number}
use Rattle.replay.specs.Replaying.{replay_log}
use Rattle.replay.proofs.replay.Goals as goal

pub returns : goal.returns
unfolding replay_log
returns c =
    let (r, read, same) = accepted_head _ _ c.in_ok-head.ensures in
    rw read (c.replay_events.ensures r read same)

pub returns-in_err-head : goal.returns-in_err-head
unfolding replay_log
returns-in_err-head c =
    let p = err_from_is_err_and c.from_residual.result c.from_residual.ensures.1 in
    rw (p.1, p.2, refused_number _ _ c.in_err-head.ensures)
