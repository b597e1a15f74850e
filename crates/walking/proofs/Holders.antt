-- The codes of sets of machines in a byte: machine i is in the set if bit i - 1 is set.
use Prim.Native.Nat.{ℕ, zero, suc, ◌+◌, ◌/◌, ◌%◌, ◌^◌, ◌≤◌, ◌<◌, suc-le-suc}
use native.Mathlib.Numerals.{one-add, add-one}
use native.Mathlib.Omega.{arith}
use mathlib.Core.Path.{◌≡◌, sym}
use mathlib.Core.Logic.{◌↔◌}
use lib.Dec.{T, eqb→eq}
use lib.Ieee.Fits.{eq→eqb}
use lib.Pow.{shr-shr}
use Rattle.model.specs.Cxl0.{Machine}
use Rattle.model.specs.Sharers.{has}
use Rattle.masks.specs.Sets.{In, Least}
use Rattle.masks.proofs.Sets.{in_bound}
use Rattle.walking.specs.Trails.{FirstHolder}

-- Bit i is that of machine i + 1.
in_has : (i c : ℕ) → In i c ↔ T (has (suc i) c)
unfolding has
in_has zero c = (λ h. eq→eqb {a = c % 2} {b = 1} (omega arith), λ t. omega (arith, eqb→eq (c % 2) 1 t))
in_has (suc i) c =
    let half : c / 2 ^ suc i ≡ c / 2 / 2 ^ i = rw (← one-add i) (sym (shr-shr c 1 i)) in
    rw half (in_has i (c / 2))

-- The least bit of a code is that of the first machine that has a copy.
pub least_low : (z c : ℕ) → c < 64 → Least z c → z < 6
least_low z c h l = in_bound 6 c z h l.0

pub least_first : (z c : ℕ) → Least z c → FirstHolder (z + 1) c
unfolding has
least_first z c l = rw (add-one z) (record { held = (in_has z c).0 l.0; first = first })
  where
    first : (j : Machine) → T (has j c) → suc z ≤ j
    first zero t = absurd t
    first (suc j) t = suc-le-suc (l.1 j ((in_has j c).1 t))
