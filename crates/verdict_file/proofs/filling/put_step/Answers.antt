-- `put_step` puts the step's field there: the lowest three bytes of the word are the step's.
use Prim.Native.Nat.{◌/◌, ◌%◌}
use native.Mathlib.Omega.{arith}
use mathlib.Core.Path.{◌≡◌, ◌∙◌}
use lib.ListN.{get_or}
use Rattle.model.specs.Words.{step_of_word}
use Rattle.fields.specs.Numbers.{bytes_of}
use Rattle.log_bytes.specs.Bytes.{field}
use Rattle.verdict_file.specs.Files.{step_field}
use Rattle.verdict_file.proofs.filling.put_step.Goals as goal

pub returns : goal.returns
unfolding step_field step_of_word field bytes_of
returns c =
    let word = c.args.word in
    let before : get_or c.to_le_bytes.result 0 0 ≡ word % 256 = rw c.to_le_bytes.ensures (omega arith) in
    let location : get_or c.to_le_bytes.result 1 0 ≡ word / 256 % 256 = rw c.to_le_bytes.ensures (omega arith) in
    let machine : get_or c.to_le_bytes.result 2 0 ≡ word / 65536 = rw c.to_le_bytes.ensures (omega arith) in
    (c.put.ensures.0, c.put.ensures.1 ∙ rw (before, location, machine))
