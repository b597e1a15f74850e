-- The bits of a mask: those of `a ^ b`, and that they determine the mask.
use Prim.Native.Nat.{ℕ, zero, suc, ◌+◌, ◌/◌, ◌%◌, ◌^◌, ◌<◌}
use native.Mathlib.Omega.{arith}
use mathlib.Core.Path.{◌≡◌, refl, sym}
use mathlib.Core.Logic.Iff
use mathlib.Core.Logic.{◌↔◌}
use lib.Arith.{bin_ind}
use lib.Bits.{bit_xor, differ, xor_shr, xor_step}
use lib.Dec.{eqb, eqb→eq}
use Rattle.model.proofs.Tests.{by_test, ne_test}
use Rattle.masks.specs.Sets.{In}
use Rattle.masks.proofs.Sets.{in_none, in_some, in_shr}

abbrev pub bit : ℕ → ℕ → ℕ
bit m t = m / 2 ^ t % 2

differ_sum : (x y : ℕ) → x < 2 → y < 2 → differ x y ≡ (x + y) % 2
differ_sum zero y h k = omega arith
differ_sum (suc zero) zero h k = refl
differ_sum (suc zero) (suc zero) h k = refl
differ_sum (suc zero) (suc (suc y)) h k = omega arith
differ_sum (suc (suc x)) y h k = omega arith

-- Bit t of `a ^ b`.
pub xor_bit : (a b t : ℕ) → bit (bit_xor a b) t ≡ (bit a t + bit b t) % 2
xor_bit a b t =
    rw xor_shr
    (omega (arith, xor_step (a / 2 ^ t) (b / 2 ^ t), differ_sum (bit a t) (bit b t) (omega arith) (omega arith)))

-- Bits that are set together are equal.
pub same_bit : (a s b t : ℕ) → In s a ↔ In t b → bit a s ≡ bit b t
same_bit a s b t e = go (bit a s) (bit b t) (omega arith) (omega arith) e
  where
    go : (x y : ℕ) → x < 2 → y < 2 → (x ≡ 1) ↔ (y ≡ 1) → x ≡ y
    go zero zero h l e = refl
    go zero (suc y) h l e = omega (arith, e.1 (omega arith))
    go (suc x) y h l e = omega (arith, e.0 (omega arith))

-- Masks with the same codes are equal.
pub same_mask : (a b : ℕ) → ((t : ℕ) → In t a ↔ In t b) → a ≡ b
same_mask = bin_ind (λ (a : ℕ). (b : ℕ) → ((t : ℕ) → In t a ↔ In t b) → a ≡ b) empty more
  where
    empty : (b : ℕ) → ((t : ℕ) → In t 0 ↔ In t b) → 0 ≡ b
    empty b e =
        by_test (eqb b 0)
        (λ z. sym (eqb→eq b 0 z))
        (λ z. let i = in_some b (ne_test b 0 z) in absurd (in_none i.0 ((e i.0).1 i.1)))

    more : (a : ℕ) → ((b : ℕ) → ((t : ℕ) → In t (a / 2) ↔ In t b) → a / 2 ≡ b)
        → (b : ℕ) → ((t : ℕ) → In t a ↔ In t b) → a ≡ b
    more a rest b e =
        let high = rest (b / 2) (λ t. Iff.trans (in_shr a 1 t) (Iff.trans (e (t + 1)) (Iff.symm (in_shr b 1 t)))) in
        let low = same_bit a 0 b 0 (e 0) in
        omega arith
