-- What is read from a text.
use Rattle.std.specs.Prelude.{ℕ, ◌+◌, ◌-◌, ◌*◌, ◌^◌, cond, ◌&&◌, List, [], ◌∷◌, ltb, drop}
use Rattle.text.specs.declared.Parsed.{Parsed}
use Rattle.text.specs.Putting.{after}
use Rattle.text.specs.Digits.{digit_value, hex_value}

-- The bytes that pairs of hexadecimal digits at the front of a text say, as long as there are pairs.
unfoldable pub hex_pairs : List ℕ → List ℕ
hex_pairs [] = []
hex_pairs (high ∷ []) = []
hex_pairs (high ∷ low ∷ s) =
    cond (ltb (hex_value high) 16 && ltb (hex_value low) 16)
    ((hex_value high * 16 + hex_value low) ∷ hex_pairs s)
    []

-- Bytes read from a position on, each from two digits, into a buffer from its start on: as many as it has room for.
unfoldable pub bytes_read : List ℕ → ℕ → List ℕ → Parsed
bytes_read text at out =
    let count = after out 0 (hex_pairs (drop at text)) in
    record { at = at + 2 * count; value = count }

-- A number that is read stays below this limit, the greatest multiple of ten that fits 64 bits: so whether another
-- digit may follow does not depend on the digit.
abbrev pub limit : ℕ
limit = 2 ^ 64 - 6

-- A number of which the digits before a position say `value`, read on from there: as long as there are digits and
-- it stays below the limit.
unfoldable pub number_from : (at value : ℕ) → List ℕ → Parsed
number_from at value [] = record { at = at; value = value }
number_from at value (b ∷ s) =
    cond (ltb (digit_value b) 10 && ltb (value * 10 + digit_value b) limit)
    (number_from (at + 1) (value * 10 + digit_value b) s)
    (record { at = at; value = value })

-- The number whose first digit stands at a position.
unfoldable pub number_read : List ℕ → ℕ → Parsed
number_read text at = number_from at 0 (drop at text)
