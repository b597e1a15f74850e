-- `masks::leading` meets its contract: no move leads from code 0 or to it, so that a set with none or all of
-- the other codes gains no code.
use Prim.Native.Nat.{ℕ}
use native.Mathlib.Omega.{arith}
use mathlib.Core.Path.{◌≡◌, sym, subst, ◌∙◌}
use mathlib.Core.Logic.{◌⊎◌, ⊎_elim, inl}
use mathlib.Core.Bool.{true}
use lib.Bits.{bit_or}
use Rattle.model.specs.Cxl0.{Machine}
use Rattle.model.specs.OneLocation.{stay}
use Rattle.model.proofs.SilentSteps.{moves_none}
use Rattle.masks.specs.Sets.{In, Exactly, Leads, OneToSix}
use Rattle.masks.proofs.Sets.{in_bound, in_or}
use Rattle.masks.proofs.Codes.{moves_to_none}
use Rattle.masks.proofs.Constants.{every, exactly}
use Rattle.masks.proofs.leading.Goals as goal

-- The set {0} has no code but 0.
zero : (t : ℕ) → In t 1 → t ≡ 0
zero t i = omega (arith, in_bound 1 1 t (omega arith) i)

module _ (k : Machine) (m : ℕ) where
  -- The set has no code but 0, if any.
  few : OneToSix k → bit_or m 1 ≡ 1 → Exactly m (Leads k m)
  few o e t h = (λ i. (t, h, stay, i), back)
    where
      back : Leads k m t → In t m
      back (d, f, w, i) =
          let z = zero d (subst (λ (n : ℕ). In d n) e ((in_or m 1 d).1 (inl i))) in
          subst (λ (n : ℕ). In n m) (z ∙ sym (moves_to_none o.0 w z)) i

  -- The set has every code, except perhaps 0.
  many : bit_or m 1 ≡ 0xffff_ffff_ffff_ffff → Exactly m (Leads k m)
  unfolding every
  many e t h = (λ i. (t, h, stay, i), λ d. back d ((in_or m 1 t).0 (rw e full)))
    where
      full : In t 0xffff_ffff_ffff_ffff
      full = (exactly 0xffff_ffff_ffff_ffff (λ s. true) tt t h).1 tt

      back : Leads k m t → In t m ⊎ In t 1 → In t m
      back (d, f, w, i) =
          ⊎_elim (λ j. j) (λ j. let z = zero t j in subst (λ (n : ℕ). In n m) (moves_none w z ∙ sym z) i)

pub returns-then-others : goal.returns-then-others
returns-then-others c = ⊎_elim (few _ _ c.requires) (λ e. many _ _ e.1) c.if-others.either
