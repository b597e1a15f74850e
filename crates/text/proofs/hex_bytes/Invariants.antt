-- `hex_bytes` puts `hex_pairs` at the start of the output: what is left to put is what the pairs ahead say.
use Rattle.std.proofs.Common.{◌≡◌, ◌+◌, ◌*◌, drop}
use Rattle.text.specs.Reading.{hex_pairs}
use Rattle.text.proofs.Puts.{Left}
use Rattle.text.proofs.hex_bytes.Given as goal

abbrev pub invariant-loop-place : goal.invariant-loop-place
invariant-loop-place l = record {
  count : l.read.value ≡ l.place;
  from : l.read.at ≡ l.at + 2 * l.place;
  left : Left l.initial.out 0 (hex_pairs (drop l.at l.text)) l.out l.place (hex_pairs (drop l.read.at l.text));
}
