-- A text put into a buffer at a position.
use Rattle.std.specs.Prelude.{ℕ, ◌+◌, ◌-◌, List, ◌++◌, length, take, drop}

-- The bytes of a text that a buffer has room for from a position on: the first ones.
unfoldable pub fitting : List ℕ → ℕ → List ℕ → List ℕ
fitting out at text = take (length out - at) text

-- The buffer afterwards: the bytes that fit stand from the position on, and every other byte is as it was.
unfoldable pub put : List ℕ → ℕ → List ℕ → List ℕ
put out at text = take at out ++ fitting out at text ++ drop (at + length text) out

-- The position after them.
unfoldable pub after : List ℕ → ℕ → List ℕ → ℕ
after out at text = at + length (fitting out at text)
