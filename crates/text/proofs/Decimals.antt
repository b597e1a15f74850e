-- The digits of a number: those of its tenth, and then its unit.
use Prim.Native.Nat.{ℕ, zero, suc, ◌/◌, ◌%◌, ◌≤◌, ◌<◌}
use native.Mathlib.Omega.{arith}
use mathlib.Core.Path.{◌≡◌, refl}
use mathlib.Core.List.{[], ◌∷◌, ◌++◌}
use borrow.Author.Tests.{lt-ltb, le-ltb}
use Rattle.text.specs.Digits.{digit, digits_up_to, decimal_of}
use Rattle.text.proofs.Puts.{cases}

-- A number below ten is one digit, whatever bounds the recursion.
digits_one : (k v : ℕ) → v < 10 → digits_up_to k v ≡ digit v ∷ []
unfolding digits_up_to
digits_one zero v h = refl
digits_one (suc k) v h = rw (lt-ltb v 10 h)

-- Any bound that the number does not pass gives the same digits.
steady : (k m v : ℕ) → v ≤ k → v ≤ m → digits_up_to k v ≡ digits_up_to m v
unfolding digits_up_to
steady zero m v hk hm = rw (digits_one m v (omega arith))
steady (suc k) zero v hk hm = rw (lt-ltb v 10 (omega arith))
steady (suc k) (suc m) v hk hm =
    cases 10 v
    (λ h. rw (le-ltb v 10 h, steady k m (v / 10) (omega arith) (omega arith)))
    (λ h. rw (lt-ltb v 10 h))

-- The equations of `decimal_of`, without a bound.
pub decimal_one : (v : ℕ) → v < 10 → decimal_of v ≡ digit v ∷ []
unfolding decimal_of
decimal_one v h = digits_one v v h

pub decimal_more : (v : ℕ) → 10 ≤ v → decimal_of v ≡ decimal_of (v / 10) ++ (digit (v % 10) ∷ [])
unfolding decimal_of digits_up_to
decimal_more zero h = absurd (omega arith)
decimal_more (suc k) h =
    let tenth = suc k / 10 in
    rw (le-ltb (suc k) 10 h, steady k tenth tenth (omega arith) (omega arith))

-- Nought is one digit, and 1,544 four.
pub decimal_0 : decimal_of 0 ≡ 48 ∷ []
unfolding decimal_of digits_up_to
decimal_0 = refl

pub decimal_1544 : decimal_of 1544 ≡ 49 ∷ 53 ∷ 52 ∷ 52 ∷ []
unfolding decimal_of digits_up_to
decimal_1544 = refl
