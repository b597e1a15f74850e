-- Laws of `Each`, and lists of bytes.
use Rattle.std.proofs.Common.{ℕ, zero, suc, ◌+◌, ◌<◌, List, [], ◌∷◌, ◌++◌, length, get_or, take, drop, le_of_suc-le-suc, not-suc-le-zero, arith, get_or-drop}
use Rattle.log_bytes.specs.Records.{Each}
use Rattle.log_bytes.specs.Bytes.{Bytes}

module _ {A : Type 0} (P : A → Type 0) where
  pub each_at : (l : List A) → Each P l → (i : ℕ) (d : A) → i < length l → P (get_or l i d)
  each_at [] f i d h = absurd (not-suc-le-zero h)
  each_at (a ∷ l) f zero d h = f.0
  each_at (a ∷ l) f (suc i) d h = each_at l f.1 i d (le_of_suc-le-suc h)

  pub each_take : (n : ℕ) (l : List A) → Each P l → Each P (take n l)
  each_take zero l f = tt
  each_take (suc n) [] f = tt
  each_take (suc n) (a ∷ l) f = (f.0, each_take n l f.1)

  pub each_append : (l m : List A) → Each P l → Each P m → Each P (l ++ m)
  each_append [] m f g = g
  each_append (a ∷ l) m f g = (f.0, each_append l m f.1 g)

  pub each_map : (Q : A → Type 0) → ((a : A) → P a → Q a) → (l : List A) → Each P l → Each Q l
  each_map Q g [] f = tt
  each_map Q g (a ∷ l) f = (g a f.0, each_map Q g l f.1)

-- A list of bytes, by its elements.
pub bytes_by_index : (s : List ℕ) → ((i : ℕ) → get_or s i 0 < 256) → Bytes s
bytes_by_index [] f = tt
bytes_by_index (b ∷ s) f = (f 0, bytes_by_index s (λ i. f (suc i)))

pub bytes_small : (s : List ℕ) → Bytes s → (i : ℕ) → get_or s i 0 < 256
bytes_small [] f i = omega arith
bytes_small (b ∷ s) f zero = f.0
bytes_small (b ∷ s) f (suc i) = bytes_small s f.1 i

-- What stands in it from any place on is bytes.
pub small_from : (s : List ℕ) → Bytes s → (k i : ℕ) → get_or (drop k s) i 0 < 256
small_from s f k i = rw get_or-drop (bytes_small s f (k + i))
