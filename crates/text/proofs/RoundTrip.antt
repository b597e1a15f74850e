-- Digits that were put are read back.
use Prim.Native.Nat.{ℕ, zero, suc, ◌+◌, ◌*◌, ◌/◌, ◌%◌, ◌≤◌, ◌<◌}
use native.Mathlib.Nat.{add-zero}
use native.Mathlib.Omega.{arith}
use mathlib.Core.Path.{◌≡◌, refl, ◌∙◌}
use mathlib.Core.List.{List, [], ◌∷◌, ◌++◌, append_assoc}
use lib.ListN.{length, get_or, take, drop, length-append, length-take}
use lib.Seq.{drop_at, get_or-drop}
use borrow.Author.Tests.{lt-ltb, le-ltb}
use Rattle.text.specs.Putting.{put, after}
use Rattle.text.specs.Digits.{digit, decimal_of, hex_digit, hex_of, digit_value, hex_value}
use Rattle.text.specs.Reading.{hex_pairs, limit, number_from, number_read}
use Rattle.text.proofs.Puts.{cases, put_whole, after_whole}
use Rattle.text.proofs.Values.{digit_inside, hex_number, hex_letter}
use Rattle.text.proofs.Decimals.{decimal_one, decimal_more}
use Rattle.text.proofs.Pairs.{both}
use Rattle.text.proofs.Numbers.{no_digit, next_digit}

-- A digit stands for its number.
digit_back : (u : ℕ) → u < 10 → digit_value (digit u) ≡ u
digit_back u h = digit_inside (digit u) (omega arith) (omega arith) ∙ omega arith

hex_back : (u : ℕ) → u < 16 → hex_value (hex_digit u) ≡ u
unfolding hex_digit
hex_back u h =
    cases 10 u
    (λ l. rw (le-ltb u 10 l) (hex_letter (87 + u) (omega arith) (omega arith) ∙ omega arith))
    (λ l. rw (lt-ltb u 10 l) (hex_number (48 + u) (omega arith) (omega arith) ∙ omega arith))

-- A byte's two digits are read as the byte.
pub pair_back : (b : ℕ) (s : List ℕ) → b < 256 → hex_pairs (hex_of b ++ s) ≡ b ∷ hex_pairs s
unfolding hex_of
pair_back b s h =
    let high = hex_back (b / 16) (omega arith) in
    let low = hex_back (b % 16) (omega arith) in
    let whole : b / 16 * 16 + b % 16 ≡ b = omega arith in
    both (hex_digit (b / 16)) (hex_digit (b % 16)) s (omega (arith, high)) (omega (arith, low)) ∙ rw (high, low, whole)

-- One digit more, which stands for the unit of a number below the limit.
unit_back : (at v : ℕ) (s : List ℕ) → v < limit
    → number_from at (v / 10) (digit (v % 10) ∷ s) ≡ number_from (at + 1) v s
unit_back at v s h =
    let unit = digit_back (v % 10) (omega arith) in
    let whole : v / 10 * 10 + v % 10 ≡ v = omega arith in
    next_digit at (v / 10) (digit (v % 10)) s (omega (arith, unit)) (omega arith) ∙ rw (unit, whole)

-- A number of one digit is read.
one_back : (at v : ℕ) (s : List ℕ) → v < 10
    → number_from at 0 (decimal_of v ++ s) ≡ number_from (at + length (decimal_of v)) v s
one_back at v s h =
    let unit = digit_back v h in
    let alone : 0 * 10 + v ≡ v = omega arith in
    rw (decimal_one v h) (next_digit at 0 (digit v) s (omega (arith, unit)) (omega arith) ∙ rw (unit, alone))

-- So is one of more digits, if its tenth is.
more_back : (at v : ℕ) (s : List ℕ) → 10 ≤ v → v < limit
    → ((t : List ℕ) → number_from at 0 (decimal_of (v / 10) ++ t)
    ≡ number_from (at + length (decimal_of (v / 10))) (v / 10) t)
    → number_from at 0 (decimal_of v ++ s) ≡ number_from (at + length (decimal_of v)) v s
more_back at v s l h tenth =
    let digits = decimal_of (v / 10) in
    let one : List ℕ = digit (v % 10) ∷ [] in
    let past : at + length (digits ++ one) ≡ at + length digits + 1 = omega (arith, length-append digits one) in
    rw (decimal_more v l, append_assoc digits one s, past)
    (tenth (one ++ s) ∙ unit_back (at + length digits) v s h)

-- All digits of a number below the limit are read, as the number. The first argument bounds the recursion.
digits_back : (k v at : ℕ) (s : List ℕ) → v ≤ k → v < limit
    → number_from at 0 (decimal_of v ++ s) ≡ number_from (at + length (decimal_of v)) v s
digits_back zero v at s small h = one_back at v s (omega arith)
digits_back (suc k) v at s small h =
    cases 10 v
    (λ l. more_back at v s l h (λ t. digits_back k (v / 10) at t (omega arith) (omega arith)))
    (one_back at v s)

-- A number ends where no digit stands, or the text ends.
ends : (at v : ℕ) (s : List ℕ) → digit_value (get_or s 0 0) ≡ 10 → number_from at v s ≡ record { at = at; value = v }
unfolding number_from
ends at v [] e = refl
ends at v (b ∷ s) e = no_digit at v b s (omega (arith, e))

module _ (out : List ℕ) (at : ℕ) (s : List ℕ) (h : at + length s ≤ length out) where
  -- A text that fits stands at its position.
  there : drop at (put out at s) ≡ s ++ drop (at + length s) out
  there =
      let size : length (take at out) ≡ at = simp length-take (omega arith) in
      rw (put_whole out at s h, append_assoc) (drop_at (take at out) _ at size)

-- `decimal` reads back a number below the limit that `put_decimal` wrote, where it fits and no digit stands behind it.
pub reads_back : (out : List ℕ) (at v : ℕ) → v < limit → at + length (decimal_of v) ≤ length out
    → digit_value (get_or out (at + length (decimal_of v)) 0) ≡ 10
    → number_read (put out at (decimal_of v)) at ≡ record { at = after out at (decimal_of v); value = v }
unfolding number_read
reads_back out at v small fits free =
    let n : ℕ = at + length (decimal_of v) in
    let no_more : digit_value (get_or (drop n out) 0 0) ≡ 10 = rw (get_or-drop, add-zero) free in
    rw (there out at (decimal_of v) fits, after_whole out at (decimal_of v) fits)
    (digits_back v v at (drop n out) (omega arith) small ∙ ends n v (drop n out) no_more)
