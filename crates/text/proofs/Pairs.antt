-- Pairs of hexadecimal digits: what the first one says, and the others after it.
use Rattle.std.proofs.Common.{◌≡◌, ℕ, ◌+◌, ◌*◌, ◌≤◌, ◌<◌, List, [], ◌∷◌, length, get_or, drop, slice_get}
use Rattle.std.proofs.Common.{Some, None, refl, arith}
use mathlib.Core.Bool.{and-false}
use borrow.Author.Tests.{lt-ltb, le-ltb}
use Rattle.text.specs.Digits.{hex_value}
use Rattle.text.specs.Reading.{hex_pairs}
use Rattle.text.proofs.Puts.{cases}

-- Two bytes in front: one of them is no digit, or they say a byte.
module _ (high low : ℕ) (s : List ℕ) where
  no_high : 16 ≤ hex_value high → hex_pairs (high ∷ low ∷ s) ≡ []
  unfolding hex_pairs
  no_high h = rw (le-ltb (hex_value high) 16 h)

  no_low : 16 ≤ hex_value low → hex_pairs (high ∷ low ∷ s) ≡ []
  unfolding hex_pairs
  no_low h = rw (le-ltb (hex_value low) 16 h, and-false)

  pub both : hex_value high < 16 → hex_value low < 16
      → hex_pairs (high ∷ low ∷ s) ≡ (hex_value high * 16 + hex_value low) ∷ hex_pairs s
  unfolding hex_pairs
  both h l = rw (lt-ltb (hex_value high) 16 h, lt-ltb (hex_value low) 16 l)

-- Fewer than two bytes are no pair.
pub no_pair : (s : List ℕ) → length s < 2 → hex_pairs s ≡ []
unfolding hex_pairs
no_pair [] h = refl
no_pair (a ∷ []) h = refl
no_pair (a ∷ b ∷ s) h = absurd (omega arith)

-- The same of a text by its first two bytes.
pub pair_no_high : (s : List ℕ) → 16 ≤ hex_value (get_or s 0 0) → hex_pairs s ≡ []
pair_no_high [] h = no_pair [] (omega arith)
pair_no_high (a ∷ []) h = no_pair (a ∷ []) (omega arith)
pair_no_high (a ∷ b ∷ s) h = no_high a b s h

pub pair_no_low : (s : List ℕ) → 16 ≤ hex_value (get_or s 1 0) → hex_pairs s ≡ []
pair_no_low [] h = no_pair [] (omega arith)
pair_no_low (a ∷ []) h = no_pair (a ∷ []) (omega arith)
pair_no_low (a ∷ b ∷ s) h = no_low a b s h

pub pair_both : (s : List ℕ) → 2 ≤ length s → hex_value (get_or s 0 0) < 16 → hex_value (get_or s 1 0) < 16
    → hex_pairs s ≡ (hex_value (get_or s 0 0) * 16 + hex_value (get_or s 1 0)) ∷ hex_pairs (drop 2 s)
pair_both [] h = absurd (omega arith)
pair_both (a ∷ []) h = absurd (omega arith)
pair_both (a ∷ b ∷ s) h = both a b s

-- Where there is no first byte there are none.
pub no_byte : (s : List ℕ) → slice_get s 0 ≡ None → s ≡ []
no_byte [] h = refl
no_byte (a ∷ s) h = cc

-- Else there is a pair, and the other pairs are after it.
pub first_byte : (s : List ℕ) (b : ℕ) → slice_get (hex_pairs s) 0 ≡ Some b
    → (2 ≤ length s) × (hex_pairs s ≡ b ∷ hex_pairs (drop 2 s))
first_byte [] b h = absurd (let none = rw (no_pair [] (omega arith)) at h in cc)
first_byte (x ∷ []) b h = absurd (let none = rw (no_pair (x ∷ []) (omega arith)) at h in cc)
first_byte (x ∷ y ∷ s) b h =
    cases 16 (hex_value x)
    (λ n. absurd (let none = rw (no_high x y s n) at h in cc))
    (λ m. cases 16 (hex_value y)
    (λ n. absurd (let none = rw (no_low x y s n) at h in cc))
    (λ n. let said = rw (both x y s m n) at h in (omega arith, rw (both x y s m n) (cc))))
