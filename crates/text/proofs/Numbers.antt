-- A number that is read on by one byte.
use Prim.Native.Nat.{ℕ, ◌+◌, ◌*◌, ◌/◌, ◌≤◌, ◌<◌}
use native.Mathlib.Omega.{arith}
use mathlib.Core.Path.{◌≡◌}
use mathlib.Core.Bool.{and-false}
use mathlib.Core.List.{List, ◌∷◌}
use borrow.Author.Tests.{lt-ltb, le-ltb}
use Rattle.text.specs.declared.Parsed.{Parsed}
use Rattle.text.specs.Digits.{digit_value}
use Rattle.text.specs.Reading.{limit, number_from}

module _ (at value b : ℕ) (s : List ℕ) where
  abbrev stopped : Parsed
  stopped = record { at = at; value = value }

  -- It ends at what is no digit.
  pub no_digit : 9 < digit_value b → number_from at value (b ∷ s) ≡ stopped
  unfolding number_from
  no_digit h = rw (le-ltb (digit_value b) 10 (omega arith))

  -- And where another digit would take it to the limit.
  pub no_room : limit / 10 ≤ value → number_from at value (b ∷ s) ≡ stopped
  unfolding number_from
  no_room h = rw (le-ltb (value * 10 + digit_value b) limit (omega arith), and-false)

  -- And else goes on.
  pub next_digit : digit_value b ≤ 9 → value < limit / 10
      → number_from at value (b ∷ s) ≡ number_from (at + 1) (value * 10 + digit_value b) s
  unfolding number_from
  next_digit d v =
      rw (lt-ltb (digit_value b) 10 (omega arith), lt-ltb (value * 10 + digit_value b) limit (omega arith))
