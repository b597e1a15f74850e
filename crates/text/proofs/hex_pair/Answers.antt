-- `hex_pair` gives the first of `hex_pairs`.
use Rattle.std.proofs.Common.{◌≡◌, ◌<◌, length, drop, sym, ◌∙◌, length-drop, arith}
use lib.Seq.{take_all}
use Rattle.text.proofs.Pairs.{no_pair, pair_no_high, pair_no_low, pair_both}
use Rattle.text.proofs.hex_pair.Goals as goal
use Rattle.text.proofs.hex_pair.Goals.{In_ok-get}

-- The part that is got is the text from the position on.
rest : (c : In_ok-get) → drop c.args.at c.args.text.now ≡ c.in_ok-get.field-0.now
rest c =
    let text = c.args.text.now in
    let at = c.args.at in
    sym (c.in_ok-get.ensures.lookup.0.2 ∙ take_all _ (drop at text) (omega (arith, length-drop at text)))

pub returns-in_err-get : goal.returns-in_err-get
returns-in_err-get c =
    let rest = drop c.args.at c.args.text.now in
    let short : length rest < 2 =
    omega (arith, length-drop c.args.at c.args.text.now, c.in_err-get.ensures.lookup) in
    rw (c.from_residual.ensures, no_pair rest short)

pub returns-in_default : goal.returns-in_default
returns-in_default c =
    rw (rest (goal.at.returns-in_default c).In_ok-get, no_pair c.in_ok-get.field-0.now (omega arith))

pub returns-in_err-hex_value : goal.returns-in_err-hex_value
returns-in_err-hex_value c =
    let no = pair_no_high c.in_ok-get.field-0.now (omega (arith, c.in_err-hex_value.ensures)) in
    rw (c.from_residual-in_err-hex_value.ensures, rest (goal.at.returns-in_err-hex_value c).In_ok-get, no)

pub returns-in_err-hex_value-2 : goal.returns-in_err-hex_value-2
returns-in_err-hex_value-2 c =
    let no = pair_no_low c.in_ok-get.field-0.now (omega (arith, c.in_err-hex_value-2.ensures)) in
    rw (c.from_residual-in_err-hex_value-2.ensures, rest (goal.at.returns-in_err-hex_value-2 c).In_ok-get, no)

pub returns : goal.returns
returns c =
    let high = c.in_ok-hex_value.ensures in
    let low = c.in_ok-hex_value-2.ensures in
    let both = pair_both c.in_ok-get.field-0.now (omega arith) high.0 low.0 in
    rw (rest (goal.at.returns c).In_ok-get, both, high.1, low.1)
