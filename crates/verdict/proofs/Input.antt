-- One byte more than the longest log has decides what the judge makes of an input.
use Prim.Native.Nat.{ℕ, ◌<◌}
use mathlib.Core.Path.{◌≡◌}
use mathlib.Core.List.{List}
use lib.ListN.{take}
use Rattle.log_bytes.proofs.Lengths.{log_most, bounded}
use Rattle.judge.specs.Judging.{judgement}

-- What the judge answers and leaves with the first n bytes is what it does with the whole input.
pub input_judged : (n : ℕ) (s out : List ℕ) (offset : ℕ) (scratch : List ℕ) → log_most < n
    → judgement (take n s) out offset scratch ≡ judgement s out offset scratch
unfolding judgement
input_judged n s out offset scratch l = rw (bounded n s l)
