-- Which change requests of document 02 the library has, as one number of 64 bits.
use Rattle.std.specs.Prelude.{ℕ, ◌+◌, ◌-◌, ◌^◌, List, [], ◌∷◌}

-- The requests that have landed: W-201, W-202 and so on, by their numbers.
abbrev pub requests : List ℕ
requests = 201 ∷ 202 ∷ 203 ∷ 204 ∷ 205 ∷ 206 ∷ 211 ∷ []

-- Bit 8 is set for W-201, bit 9 for W-202 and so on: bit 8 + (n - 201) for each W-n of the list. Bits 0 to 7 are 0.
abbrev pub pack_version : List ℕ → ℕ
pack_version [] = 0
pack_version (n ∷ ns) = 2 ^ (8 + (n - 201)) + pack_version ns
