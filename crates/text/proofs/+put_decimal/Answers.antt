-- `put_decimal`, which calls itself, puts `decimal_of`: the digits of the tenth, and then the unit.
use Rattle.std.proofs.Common.{◌≡◌, ◌/◌, ◌%◌, [], ◌∷◌, ◌∙◌, arith}
use Rattle.text.specs.Digits.{decimal_of}
use Rattle.text.proofs.Puts.{Put, and_then}
use Rattle.text.proofs.Decimals.{decimal_one, decimal_more}
use Rattle.text.proofs.+put_decimal.Goals as goal
use Rattle.text.proofs.+put_decimal.Goals.{then-v-lt10, else-v-lt10}

pub returns : goal.returns
returns t c =
    let unit = c.put_byte.ensures in
    let whole : Put c.args.out.now c.args.at (decimal_of c.args.v) c.put_byte.result c.put_byte.new.out =
    elim c.if-v-lt10.branch [
      | then-v-lt10 w ↦
          let alone : c.args.v % 10 ≡ c.args.v = omega arith in
          rw (decimal_one c.args.v w.if-v-lt10.true, ← alone, ← w.unit-is, ← w.out-is) (unit.value, unit.out_after)
      | else-v-lt10 w ↦
          let tenth = w.put_decimal-unit.ensures in
          let digits = decimal_of (c.args.v / 10) in
          rw (decimal_more _ w.if-v-lt10.false)
          (and_then _ _ digits (_ ∷ [])
          (w.unit-is ∙ tenth.value, w.out-is ∙ tenth.out_after) (unit.value, unit.out_after))
    ] in
    record { value = whole.0; out_after = whole.1 }
