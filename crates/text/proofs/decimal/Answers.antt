-- `decimal` reads `number_read`: the number up to a position, read on from there, is what is read.
use Rattle.std.proofs.Common.{◌≡◌, ◌+◌, ◌≤◌, ◌∷◌, get_or, length, drop, sym, ◌∙◌, add-one, arith, length-drop}
use lib.ListN.{drop_of_length-le}
use lib.Seq.{drop-cons, take_all}
use Rattle.text.specs.Digits.{digit_value}
use Rattle.text.specs.Reading.{number_from, number_read}
use Rattle.text.proofs.Numbers.{no_digit, no_room, next_digit}
use Rattle.text.proofs.Values.{digit_given, digit_none}
use Rattle.text.proofs.decimal.Goals as goal
use Rattle.text.proofs.decimal.Goals.{In-Some, In-loop-b}

-- What is ahead at first is the text from the position on.
from_position : (c : In-Some) → c.in-Some.ahead.now ≡ drop c.args.at c.args.text.now
from_position c =
    let text = c.args.text.now in
    let at = c.args.at in
    c.in-Some.ensures.lookup.0.2 ∙ take_all _ (drop at text) (omega (arith, length-drop at text))

-- At each turn of the loop the byte is the one at the position, and is read next.
turn : (c : In-loop-b) → number_read c.args.text.now c.args.at
    ≡ number_from c.loop-b.read.at c.loop-b.read.value
    (get_or c.in-Some.ahead.now c.loop-b.b-index 0 ∷ drop (c.loop-b.b-index + 1) c.in-Some.ahead.now)
turn c =
    let more = drop-cons c.in-Some.ahead.now c.loop-b.b-index 0 c.loop-b-test.true in
    c.loop-b.invariant.rest ∙ rw (add-one, more)

pub loop-b-init : goal.loop-b-init
unfolding number_read
loop-b-init c = record { place = omega arith; rest = rw (from_position c) }

pub loop-b-preserved : goal.loop-b-preserved
loop-b-preserved c =
    let digit = c.in-Some-to_digit.ensures in
    let b = get_or c.in-Some.ahead.now c.loop-b.b-index 0 in
    let says =
    digit_given b c.in-Some-to_digit.digit (rw c.from.ensures at digit.cases)
    (omega (arith, digit.value.0, digit.value.1)) in
    let small : digit_value b ≤ 9 = omega (arith, says, digit.value.0, digit.value.1) in
    record {
      place = omega arith;
      rest =
          (turn (goal.at.loop-b-preserved c).In-loop-b)
          ∙ rw (← says) (next_digit _ _ b _ small (omega (arith, c.if-read.true)));
    }

pub returns-after-loop-b : goal.returns-after-loop-b
unfolding number_from
returns-after-loop-b c =
    let none = drop_of_length-le c.in-Some.ahead.now c.loop-b-test.false in
    sym (c.loop-b.invariant.rest ∙ rw none)

-- Nothing is ahead of a position past the end.
pub returns-in_default : goal.returns-in_default
unfolding number_read number_from
returns-in_default c =
    let past : length c.args.text.now ≤ c.args.at = omega (arith, c.in_default.ensures.lookup) in
    rw (drop_of_length-le c.args.text.now past)

pub returns-in_default-to_digit : goal.returns-in_default-to_digit
returns-in_default-to_digit c =
    let b = get_or c.in-Some.ahead.now c.loop-b.b-index 0 in
    sym (turn (goal.at.returns-in_default-to_digit c).In-loop-b ∙ no_room _ _ b _ (omega (arith, c.if-read.false)))

pub returns-in_default-to_digit-2 : goal.returns-in_default-to_digit-2
returns-in_default-to_digit-2 c =
    let b = get_or c.in-Some.ahead.now c.loop-b.b-index 0 in
    let none = digit_none b (rw c.from.ensures at c.in_default-to_digit.ensures.cases) in
    sym (turn (goal.at.returns-in_default-to_digit-2 c).In-loop-b ∙ no_digit _ _ b _ (omega (arith, none)))
