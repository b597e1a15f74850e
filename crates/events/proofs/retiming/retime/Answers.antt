-- `retime` retimes the steps one after the other: those from number `from` to number j are retimed, and no other word
-- has changed.
use native.Mathlib.Omega.{arith}
use mathlib.Core.Path.{◌≡◌}
use Rattle.events.proofs.Retimings.{retimed_none, next_count, next_index, retimed_next}
use Rattle.events.proofs.retiming.retime.Goals as goal

pub loop-j-init : goal.loop-j-init
loop-j-init c = retimed_none c.args.events c.args.from c.args.w.now

pub retimed_word-requires : goal.retimed_word-requires
retimed_word-requires c =
    let low = c.loop-j.auto.j in
    let more = c.loop-j-test.true in
    let so_far = c.loop-j.invariant in
    (omega arith, next_count c.requires low more so_far, next_index c.requires low more so_far)

pub loop-j-preserved : goal.loop-j-preserved
loop-j-preserved c =
    let word = c.retimed_word in
    retimed_next c.requires c.loop-j.auto.j c.loop-j-test.true c.loop-j.invariant word.result word.ensures

pub returns : goal.returns
returns c =
    let all : c.loop-j.j ≡ c.args.to = omega arith in
    rw all at c.loop-j.invariant
