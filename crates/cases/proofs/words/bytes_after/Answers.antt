-- No more bytes are read than the buffer has room for.
use Rattle.std.proofs.Common.{arith, ap, length-take}
use Rattle.text.specs.declared.Parsed.{Parsed}
use Rattle.text.specs.Putting.{after, fitting}
use Rattle.text.specs.Reading.{bytes_read}
use Rattle.cases.proofs.words.bytes_after.Goals as goal

pub returns-clause-in_bounds : goal.returns-clause-in_bounds
unfolding bytes_read after fitting
returns-clause-in_bounds c =
    let read = simp length-take at (ap (λ (p : Parsed). p.value) c.hex_bytes.ensures.value) in
    omega arith

pub returns-clause-whole_length : goal.returns-clause-whole_length
unfolding bytes_read after fitting
returns-clause-whole_length c =
    let read = simp length-take at (ap (λ (p : Parsed). p.value) c.hex_bytes.ensures.value) in
    simp length-take (omega arith)
