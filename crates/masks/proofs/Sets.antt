-- Which codes are in a mask made by `&`, `|`, `!`, `>>` and `<<`, which of them is the least, and when two
-- masks meet. `!m` and `m << s` are those of k-bit numbers, `2 ^ k - 1 - m` and `m * 2 ^ s % 2 ^ k`.
use Prim.Native.Nat.{ℕ, zero, suc, ◌+◌, ◌-◌, ◌*◌, ◌/◌, ◌%◌, ◌^◌, ◌≤◌, ◌<◌, zero-le, suc-le-suc, min, max}
use native.Mathlib.Nat.{add_comm, mul_assoc, pow-suc, div-eq_of_lt}
use native.Mathlib.Nat.{lt_of_lt_of_le, lt_of_le_of_lt, lt_of_not-le, not-suc-le-zero}
use native.Mathlib.Numerals.{one-add}
use native.Mathlib.Omega.{arith}
use mathlib.Core.Path.{◌≡◌, refl, sym, ap, ◌∙◌}
use mathlib.Core.Logic.Iff
use mathlib.Core.Logic.{◌↔◌, ◌≢◌, ◌⊎◌, inl, inr, ⊎_elim}
use lib.Dec.{eqb, eqb→eq}
use lib.Pow.{pow-add, pow_mono, shl-shr, shr-shr, field, mod-mod-pow}
use lib.Bits.{bit_and, bit_or, and_le_l, and_shr, or_shr, and_step, or_step, shifted_even}
use lib.Count.{count_trailing_zeros, under}
use Rattle.model.proofs.Tests.{by_test, ne_test}
use Rattle.masks.specs.Sets.{In, Least}

-- A code in a mask of k bits is below k.
pub in_bound : (k m t : ℕ) → m < 2 ^ k → In t m → t < k
in_bound k m t h i = lt_of_not-le (λ l. omega (arith, div-eq_of_lt (lt_of_lt_of_le h (pow_mono l))))

-- The mask 0 has no code.
pub in_none : (t : ℕ) → In t 0 → ⊥
in_none t i = omega (arith, in_bound 0 0 t (omega arith) i)

-- Bit t of `a & b` and of `a | b`.
and_bit : (a b t : ℕ) → bit_and a b / 2 ^ t % 2 ≡ min (a / 2 ^ t % 2) (b / 2 ^ t % 2)
and_bit a b t = rw and_shr (omega (arith, and_step (a / 2 ^ t) (b / 2 ^ t)))

or_bit : (a b t : ℕ) → bit_or a b / 2 ^ t % 2 ≡ max (a / 2 ^ t % 2) (b / 2 ^ t % 2)
or_bit a b t = rw or_shr (omega (arith, or_step (a / 2 ^ t) (b / 2 ^ t)))

-- Intersection: the codes in both masks.
pub in_and : (a b t : ℕ) → In t (bit_and a b) ↔ (In t a × In t b)
in_and a b t = rw and_bit (λ h. omega arith, λ h. omega arith)

-- Union: the codes in one mask or the other.
pub in_or : (a b t : ℕ) → In t (bit_or a b) ↔ (In t a ⊎ In t b)
in_or a b t = rw or_bit (there, ⊎_elim (λ h. omega arith) (λ h. omega arith))
  where
    there : max (a / 2 ^ t % 2) (b / 2 ^ t % 2) ≡ 1 → In t a ⊎ In t b
    there h =
        by_test (eqb (a / 2 ^ t % 2) 1)
        (λ e. inl (eqb→eq (a / 2 ^ t % 2) 1 e))
        (λ e. inr (omega (arith, ne_test (a / 2 ^ t % 2) 1 e)))

-- Bit t + 1 of a number is bit t of its half.
half : (m t : ℕ) → m / 2 ^ suc t ≡ m / 2 / 2 ^ t
half m t = rw (← one-add t) (sym (shr-shr m 1 t))

-- Bit t of `!m`.
not_bit : (k m t : ℕ) → t < k → m < 2 ^ k → (2 ^ k - 1 - m) / 2 ^ t % 2 ≡ 1 - m / 2 ^ t % 2
not_bit zero m t l h = absurd (not-suc-le-zero l)
not_bit (suc k) m zero l h = let p : 2 ^ suc k ≡ 2 ^ k * 2 = pow-suc 2 k in omega arith
not_bit (suc k) m (suc t) l h =
    let p : 2 ^ suc k ≡ 2 ^ k * 2 = pow-suc 2 k in
    let e : (2 ^ suc k - 1 - m) / 2 ≡ 2 ^ k - 1 - m / 2 = omega arith in
    rw (half (2 ^ suc k - 1 - m) t, e, half m t) (not_bit k (m / 2) t (omega arith) (omega arith))

-- Complement: the codes below k that are not in the mask.
pub in_not : (k m t : ℕ) → t < k → m < 2 ^ k → In t (2 ^ k - 1 - m) ↔ (In t m → ⊥)
in_not k m t l h = let e = not_bit k m t l h in (λ i j. omega arith, λ n. omega arith)

-- Shifted down by s: the codes that are s below those in the mask.
pub in_shr : (m s t : ℕ) → In t (m / 2 ^ s) ↔ In (t + s) m
in_shr m s t = rw (shr-shr, add_comm t s) Iff.rfl

-- What is cut off above k leaves the bits below k as they are.
cut_bit : (k m t : ℕ) → t < k → m % 2 ^ k / 2 ^ t % 2 ≡ m / 2 ^ t % 2
cut_bit k m t l =
    let j = k - 1 - t in
    let e : k ≡ j + 1 + t = omega arith in
    rw e (ap (λ (x : ℕ). x % 2) (field m (j + 1) t) ∙ mod-mod-pow (m / 2 ^ t) j 1)

-- A shift up by s moves bit d to d + s, and leaves 0 below s.
moved_bit : (m s d : ℕ) → m * 2 ^ s / 2 ^ (d + s) ≡ m / 2 ^ d
moved_bit m s d = rw (add_comm d s, ← shr-shr, shl-shr)

empty_bit : (m s t : ℕ) → t < s → m * 2 ^ s / 2 ^ t % 2 ≡ 0
empty_bit m s t l =
    let j = s - 1 - t in
    let e : s ≡ suc j + t = omega arith in
    rw (e, pow-add 2 (suc j) t, ← mul_assoc, shl-shr) (shifted_even m j)

-- Shifted up by s: the codes below k that are s above those in the mask.
pub in_shl : (k m s t : ℕ) → t < k → In t (m * 2 ^ s % 2 ^ k) ↔ ((d : ℕ) × (d + s ≡ t) × In d m)
in_shl k m s t l = rw (cut_bit k (m * 2 ^ s) t l) (there, back)
  where
    there : In t (m * 2 ^ s) → (d : ℕ) × (d + s ≡ t) × In d m
    there h =
        let over : ¬ (t < s) = λ u. omega (arith, empty_bit m s t u) in
        let e : t - s + s ≡ t = omega arith in
        (t - s, e, rw (← e, moved_bit m s (t - s)) at h)

    back : ((d : ℕ) × (d + s ≡ t) × In d m) → In t (m * 2 ^ s)
    back h = rw (← h.1, moved_bit m s h.0) h.2

-- 1 shifted up by c: the code c alone.
pub in_single : (k c t : ℕ) → t < k → In t (1 * 2 ^ c % 2 ^ k) ↔ (t ≡ c)
in_single k c t l = (there, λ e. shift.1 (0, omega arith, refl))
  where
    shift : In t (1 * 2 ^ c % 2 ^ k) ↔ ((d : ℕ) × (d + c ≡ t) × In d 1)
    shift = in_shl k 1 c t l

    there : In t (1 * 2 ^ c % 2 ^ k) → t ≡ c
    there h = let d = shift.0 h in omega (arith, d.1, in_bound 1 1 d.0 (omega arith) d.2)

-- The least code is 0 where bit 0 is set, else one above that of the half.
least_odd : (m : ℕ) → m % 2 ≡ 1 → Least 0 m
least_odd m e = (omega arith, λ t i. zero-le)

least_even : (m z : ℕ) → m % 2 ≡ 0 → Least z (m / 2) → Least (suc z) m
least_even m z e l = (rw (half m z) l.0, above)
  where
    above : (t : ℕ) → In t m → suc z ≤ t
    above zero i = omega arith
    above (suc t) i = suc-le-suc (l.1 t (rw (half m t) at i))

-- The count of zeros at the low end is the least code of a mask that is not empty.
pub least : (k m : ℕ) → m < 2 ^ k → m ≢ 0 → Least (count_trailing_zeros k m) m
unfolding count_trailing_zeros
least zero m h z = absurd (z (omega arith))
least (suc k) m h z = go (λ p. least k (m / 2) p) (m % 2) refl
  where
    go : (m / 2 < 2 ^ k → m / 2 ≢ 0 → Least (count_trailing_zeros k (m / 2)) (m / 2)) → (b : ℕ) → m % 2 ≡ b
        → Least (under b (count_trailing_zeros k (m / 2))) m
    go rest zero e =
        let p : 2 ^ suc k ≡ 2 ^ k * 2 = pow-suc 2 k in
        least_even m (count_trailing_zeros k (m / 2)) e (rest (omega arith) (omega arith))
    go rest (suc b) e = least_odd m (omega arith)

-- A mask that is not 0 has a code.
below_pow : (m : ℕ) → m < 2 ^ m
below_pow zero = omega arith
below_pow (suc m) = omega (arith, pow-suc 2 m, below_pow m)

pub in_some : (m : ℕ) → m ≢ 0 → (t : ℕ) × In t m
in_some m z = (count_trailing_zeros m m, (least m m (below_pow m) z).0)

-- Two masks have a bit in common exactly if some code is in both.
pub meet : (k a b : ℕ) → a < 2 ^ k → (bit_and a b ≢ 0) ↔ ((t : ℕ) × (t < k) × In t a × In t b)
meet k a b h = (there, back)
  where
    there : bit_and a b ≢ 0 → (t : ℕ) × (t < k) × In t a × In t b
    there z =
        let t = count_trailing_zeros k (bit_and a b) in
        let i = (in_and a b t).0 (least k (bit_and a b) (lt_of_le_of_lt (and_le_l a b) h) z).0 in
        (t, in_bound k a t h i.0, i.0, i.1)

    back : ((t : ℕ) × (t < k) × In t a × In t b) → bit_and a b ≢ 0
    back i e = in_none i.0 (rw e at ((in_and a b i.0).1 (i.2, i.3)))
