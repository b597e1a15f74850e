-- A list of known length is its elements.
use Rattle.std.proofs.Common.{◌≡◌, ℕ, zero, suc, ◌+◌, ◌<◌, List, [], ◌∷◌, length, get_or, drop, refl, ap, arith, drop-cons}
use lib.Seq.{drop-length}

-- The n elements from the k-th on.
abbrev pub elements : ℕ → ℕ → List ℕ → List ℕ
elements k zero l = []
elements k (suc n) l = get_or l k 0 ∷ elements (suc k) n l

elements_from : (k n : ℕ) (l : List ℕ) → length l ≡ k + n → drop k l ≡ elements k n l
elements_from k zero l h = let e : length l ≡ k = omega arith in rw (← e) (drop-length l)
elements_from k (suc n) l h =
    let here : k < length l = omega arith in
    rw (drop-cons l k 0 here) (ap (λ (m : List ℕ). get_or l k 0 ∷ m) (elements_from (suc k) n l (omega arith)))

pub elements_are : (n : ℕ) (l : List ℕ) → length l ≡ n → l ≡ elements 0 n l
elements_are n l h = elements_from 0 n l (omega arith)

pub no_elements : {A : Type 0} (l : List A) → length l ≡ 0 → l ≡ []
no_elements [] h = refl
no_elements (a ∷ l) h = absurd (omega arith)
