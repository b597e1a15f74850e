-- Tests of every machine and every code, by computation.
use Prim.Native.Nat.{ℕ, ◌<◌}
use mathlib.Core.Bool.{Bool}
use lib.Dec.{T}
use Rattle.model.specs.Cxl0.{Machine, every_machine}
use Rattle.model.proofs.Machines.{every_e as every-machine}
use Rattle.masks.specs.Sets.{OneToSix}
use Rattle.masks.proofs.Constants.{every, every_e}

-- A test is passed for every machine and every code.
abbrev pub everywhere : (Machine → ℕ → Bool) → Bool
everywhere test = every_machine 6 (λ k. every 64 (test k))

-- What is tested everywhere holds of machine k and code c.
pub holds : (test : Machine → ℕ → Bool) → T (everywhere test) → (k : Machine) (c : ℕ) → OneToSix k → c < 64
    → T (test k c)
holds test a k c o h = every_e 64 (test k) (every-machine 6 (λ k. every 64 (test k)) a k o.0 o.1) c h
