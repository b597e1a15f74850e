-- `put_text` puts a text byte by byte: the bytes passed are put.
use Rattle.std.proofs.Common.{take}
use Rattle.text.proofs.Puts.{Put}
use Rattle.text.proofs.put_text.Given as goal

abbrev pub invariant-loop-b : goal.invariant-loop-b
invariant-loop-b l = Put l.initial.out l.at (take l.b-index l.text) l.end l.out
