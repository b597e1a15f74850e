-- `decimal` reads `number_read`: the number up to a position, read on from there, is what is read.
use Rattle.std.proofs.Common.{◌≡◌, ◌+◌, drop}
use Rattle.text.specs.Reading.{number_from, number_read}
use Rattle.text.proofs.decimal.Given as goal

abbrev pub invariant-loop-b : goal.invariant-loop-b
invariant-loop-b l = record {
  place : l.read.at ≡ l.at + l.b-index;
  rest : number_read l.text l.at ≡ number_from l.read.at l.read.value (drop l.b-index l.ahead);
}
