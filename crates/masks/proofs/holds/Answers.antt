-- `masks::holds` meets its contract.
use Prim.Native.Nat.{ℕ, ◌%◌}
use native.Mathlib.Nat.{mod-eq_of_lt}
use native.Mathlib.Omega.{arith}
use mathlib.Core.Path.{◌≡◌, sym, ap, ◌∙◌}
use Rattle.model.proofs.Bits.{has_byte}
use Rattle.masks.proofs.holds.Goals as goal

pub returns : goal.returns
returns c =
    let a = c.args in
    let one = c.alone.ensures in
    let low : c.alone.result % 256 ≡ c.alone.result = mod-eq_of_lt (omega arith) in
    let bit = sym low ∙ ap (λ (b : ℕ). b % 256) one.0 in
    has_byte a.i.0 a.c c.alone.result bit (omega arith)
