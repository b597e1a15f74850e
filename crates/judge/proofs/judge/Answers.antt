-- `judge` meets its contract.
use mathlib.Core.Path.{◌≡◌, sym, ◌∙◌}
use Rattle.std.proofs.Common.{Err, rules}
use Rattle.reader.proofs.Heads.{accepted_head, refused_number}
use Rattle.verdict_file.specs.Writing.{room}
use Rattle.judge.proofs.Deciding.{no_room, few_words, areas-fit, too_short, judged, log_refused}
use Rattle.judge.proofs.judge.Goals as goal

pub returns-then-not-has_room : goal.returns-then-not-has_room
unfolding room
returns-then-not-has_room c =
    let a = c.args in
    too_short _ _ _ _ (no_room a.log.now _ _ _ (sym c.has_room.ensures ∙ c.if-not-has_room.true))

pub returns-then-scratch-lt-WORDS : goal.returns-then-scratch-lt-WORDS
returns-then-scratch-lt-WORDS c =
    let a = c.args in
    too_short _ _ _ _ (few_words a.log.now _ _ _ c.if-scratch-lt-WORDS.true)

pub decide-requires : goal.decide-requires
unfolding room
decide-requires c =
    let a = c.args in
    let has_room = sym c.has_room.ensures ∙ c.if-not-has_room.false in
    record {
      scratch_value = areas-fit a.log.now _ _ _ has_room c.if-scratch-lt-WORDS.false;
      log_value = accepted_head a.log.now c.in_ok-head.head c.in_ok-head.ensures;
    }

pub returns-in_err-head : goal.returns-in_err-head
unfolding room
returns-in_err-head c =
    let a = c.args in
    let why = c.in_err-head.field-0.0 in
    let same : c.from_residual.result ≡ Err why = search rules in
    let has_room = sym c.has_room.ensures ∙ c.if-not-has_room.false in
    let fit = areas-fit a.log.now a.out.now a.offset a.scratch.now has_room c.if-scratch-lt-WORDS.false in
    rw same
    (judged _ _ _ _ _ fit (log_refused a.log.now _ _ _ why (refused_number a.log.now why c.in_err-head.ensures)))

pub returns : goal.returns
unfolding room
returns c =
    let a = c.args in
    let has_room = sym c.has_room.ensures ∙ c.if-not-has_room.false in
    let fit = areas-fit a.log.now a.out.now a.offset a.scratch.now has_room c.if-scratch-lt-WORDS.false in
    judged _ _ _ _ _ fit c.decide.ensures
