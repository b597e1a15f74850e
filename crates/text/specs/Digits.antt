-- Numbers as digits, and digits as numbers, in ASCII: the digits 0 to 9 are 48 to 57, and a to f are 97 to 102.
use Rattle.std.specs.Prelude.{ℕ, zero, suc, ◌+◌, ◌-◌, ◌/◌, ◌%◌, Bool, cond, ◌&&◌, List, [], ◌∷◌, ◌++◌, leb, ltb}

abbrev pub digit : ℕ → ℕ
digit v = 48 + v

-- The digits of a number in base ten: those of its tenth, and then its unit. The first argument only bounds the
-- recursion, and the number is bound enough: proofs/Decimals.antt has the equations of `decimal_of` without it.
unfoldable pub digits_up_to : ℕ → ℕ → List ℕ
digits_up_to zero v = digit v ∷ []
digits_up_to (suc k) v = cond (ltb v 10) (digit v ∷ []) (digits_up_to k (v / 10) ++ (digit (v % 10) ∷ []))

unfoldable pub decimal_of : ℕ → List ℕ
decimal_of v = digits_up_to v v

-- A number below sixteen as a hexadecimal digit, and a byte as two of them.
unfoldable pub hex_digit : ℕ → ℕ
hex_digit v = cond (ltb v 10) (48 + v) (87 + v)

unfoldable pub hex_of : ℕ → List ℕ
hex_of b = hex_digit (b / 16) ∷ hex_digit (b % 16) ∷ []

-- The byte is one of those from low to high.
abbrev pub within : (low high : ℕ) → ℕ → Bool
within low high b = leb low b && leb b high

-- The number that a digit stands for; 10, or 16, where the byte is no digit.
unfoldable pub digit_value : ℕ → ℕ
digit_value b = cond (within 48 57 b) (b - 48) 10

unfoldable pub hex_value : ℕ → ℕ
hex_value b = cond (within 48 57 b) (b - 48) (cond (within 97 102 b) (b - 87) 16)
