-- What a byte stands for as a digit, by where it lies.
use Prim.Native.Nat.{ℕ, ◌+◌, ◌-◌, ◌≤◌, ◌<◌}
use native.Mathlib.Omega.{arith}
use mathlib.Core.Path.{◌≡◌, ◌∙◌}
use mathlib.Core.Bool.{true, false, and-false}
use lib.Dec.{leb}
use borrow.Author.Tests.{le-leb, lt-leb}
use Rattle.std.specs.Char.{IsDigitOf, NotDecimalDigitIn}
use Rattle.text.proofs.Puts.{cases}
use Rattle.text.specs.Digits.{within, digit_value, hex_value}

-- A byte is in a range, before it or after it.
module _ (low high b : ℕ) where
  inside : low ≤ b → b ≤ high → within low high b ≡ true
  inside l h = rw (le-leb low b l, le-leb b high h)

  below : b < low → within low high b ≡ false
  below h = rw (lt-leb low b h)

  above : high < b → within low high b ≡ false
  above h = rw (lt-leb b high h, and-false (leb low b))

module _ (b : ℕ) where
  -- The decimal digits are the bytes from 48 up to 57, as std's `to_digit` says.
  pub digit_inside : 48 ≤ b → b < 58 → digit_value b ≡ b - 48
  unfolding digit_value
  digit_inside l h = let e : within 48 57 b ≡ true = inside 48 57 b l (omega arith) in rw e

  pub digit_given : (d : ℕ) → IsDigitOf b d → d < 10 → digit_value b ≡ d
  digit_given d is h = digit_inside (omega arith) (omega arith) ∙ omega arith

  pub digit_none : NotDecimalDigitIn 10 b → digit_value b ≡ 10
  unfolding digit_value
  digit_none others =
      cases 48 b
      (λ l. let e : within 48 57 b ≡ false = above 48 57 b (high l) in rw e)
      (λ l. let e : within 48 57 b ≡ false = below 48 57 b l in rw e)
    where
      high : 48 ≤ b → 57 < b
      high l = cases b 57 (λ h. absurd (omega (arith, others l h))) (λ h. h)

  -- The hexadecimal digits are these and the bytes from 97 to 102.
  pub hex_number : 48 ≤ b → b < 58 → hex_value b ≡ b - 48
  unfolding hex_value
  hex_number l h = let e : within 48 57 b ≡ true = inside 48 57 b l (omega arith) in rw e

  pub hex_letter : 97 ≤ b → b < 103 → hex_value b ≡ b - 97 + 10
  unfolding hex_value
  hex_letter l h =
      let no : within 48 57 b ≡ false = above 48 57 b (omega arith) in
      let yes : within 97 102 b ≡ true = inside 97 102 b l (omega arith) in
      rw (no, yes) (omega arith)
