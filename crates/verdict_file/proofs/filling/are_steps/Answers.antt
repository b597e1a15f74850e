-- `are_steps` says whether the words are steps of a file: whether those from the next one on follow is what is left to
-- ask.
use native.Mathlib.Numerals.{add-one}
use mathlib.Core.Path.{sym, ◌∙◌}
use lib.ListN.{length, length-map, drop_of_length-le}
use borrow.Author.Tests.{lt-leb, le-leb}
use Rattle.model.specs.Schedule.{in_order}
use Rattle.model.specs.Words.{step_of_word}
use Rattle.verdict_file.specs.Files.{steps_most}
use Rattle.verdict_file.specs.Writing.{all_three_bytes, writable}
use Rattle.verdict_file.proofs.Words.{follow_from}
use Rattle.verdict_file.proofs.filling.are_steps.Goals as goal

pub returns-then-steps-gt-STEPS_MOST : goal.returns-then-steps-gt-STEPS_MOST
unfolding writable
returns-then-steps-gt-STEPS_MOST c =
    let ws = c.args.steps.now in
    rw (length-map ws step_of_word, lt-leb (length ws) steps_most c.if-steps-gt-STEPS_MOST.true)

pub returns-then-not-comes_next : goal.returns-then-not-comes_next
unfolding writable
returns-then-not-comes_next c =
    let ws = c.args.steps.now in
    rw (
      length-map ws step_of_word,
      le-leb (length ws) steps_most c.if-steps-gt-STEPS_MOST.false,
      c.loop-word.invariant,
      follow_from ws c.loop-word.word-index c.loop-word.least c.loop-word-test.true,
      sym c.comes_next.ensures ∙ c.if-not-comes_next.true,
    )

pub loop-word-preserved : goal.loop-word-preserved
unfolding step_of_word
loop-word-preserved c =
    c.loop-word.invariant
    ∙ follow_from c.args.steps.now c.loop-word.word-index c.loop-word.least c.loop-word-test.true
    ∙ rw (sym c.comes_next.ensures ∙ c.if-not-comes_next.false, add-one)

pub returns : goal.returns
unfolding writable all_three_bytes in_order
returns c =
    let ws = c.args.steps.now in
    rw (
      length-map ws step_of_word,
      le-leb (length ws) steps_most c.if-steps-gt-STEPS_MOST.false,
      c.loop-word.invariant,
      drop_of_length-le ws c.loop-word-test.false,
    )
