-- `put_text` puts a text byte by byte: the bytes passed are put.
use Rattle.std.proofs.Common.{[], ◌∷◌, add-one, sym}
use Rattle.std.proofs.Math.Seq.{take-suc}
use lib.Seq.{take_all}
use Rattle.text.proofs.Puts.{and_then, after_none, put_none}
use Rattle.text.proofs.put_text.Goals as goal

pub loop-b-init : goal.loop-b-init
loop-b-init c = (sym (after_none _ _), sym (put_none _ _))

pub loop-b-preserved : goal.loop-b-preserved
loop-b-preserved c =
    let byte = c.put_byte-end.ensures in
    let more = take-suc c.args.text.now c.loop-b.b-index 0 c.loop-b-test.true in
    rw (add-one, more) (and_then _ _ _ (_ ∷ []) c.loop-b.invariant (byte.value, byte.out_after))

pub returns : goal.returns
returns c =
    let whole = rw (take_all c.loop-b.b-index c.args.text.now c.loop-b-test.false) at c.loop-b.invariant in
    record { value = whole.0; out_after = whole.1 }
