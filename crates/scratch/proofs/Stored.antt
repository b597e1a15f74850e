-- Storing words after words is storing both, and words that are stored leave the rest of the area as it is.
use Prim.Native.Nat.{ℕ, suc, ◌+◌, ◌≤◌}
use native.Mathlib.Nat.{add-zero, le_refl}
use native.Mathlib.Omega.{arith}
use mathlib.Core.Path.{◌≡◌, refl, sym, ap, ◌∙◌}
use mathlib.Core.List.{List, [], ◌∷◌, ◌++◌}
use lib.ListN.{length, take, drop, set, length-append}
use lib.Seq.{sets, length-sets, sets-eq, slice, take-set-le, drop-set-lt, length-take-le, take_at, drop_at}
use Rattle.scratch.specs.Layout.{OnlyIn}
use Rattle.scratch.specs.Stored.{Stored}

sets_append : (w : List ℕ) (i : ℕ) (us vs : List ℕ)
    → sets w i (us ++ vs) ≡ sets (sets w i us) (i + length us) vs
sets_append w i [] vs = rw (add-zero i)
sets_append w i (u ∷ us) vs =
    let e : suc i + length us ≡ i + suc (length us) = omega arith in
    sets_append (set w i u) (suc i) us vs ∙ rw e

take_sets : (n : ℕ) (w : List ℕ) (i : ℕ) (vs : List ℕ) → n ≤ i → take n (sets w i vs) ≡ take n w
take_sets n w i [] h = refl
take_sets n w i (v ∷ vs) h = take_sets n (set w i v) (suc i) vs (omega arith) ∙ take-set-le n w i v h

drop_sets : (n : ℕ) (w : List ℕ) (i : ℕ) (vs : List ℕ) → i + length vs ≤ n → drop n (sets w i vs) ≡ drop n w
drop_sets n w i [] h = refl
drop_sets n w i (v ∷ vs) h =
    drop_sets n (set w i v) (suc i) vs (omega arith) ∙ drop-set-lt n w i v (omega arith)

pub stored_none : (w : List ℕ) (i : ℕ) → Stored w i [] w i
stored_none w i = record { here = omega arith; words = refl }

pub stored_one : (w : List ℕ) (i v : ℕ) → Stored w i (v ∷ []) (set w i v) (i + 1)
stored_one w i v = record { here = refl; words = refl }

-- Words stored after words.
pub stored_more : {w : List ℕ} {i : ℕ} {us s : List ℕ} {j : ℕ} {vs r : List ℕ} {k : ℕ}
    → Stored w i us s j → Stored s j vs r k → Stored w i (us ++ vs) r k
stored_more {w} {i} {us} {s} {j} {vs} p q =
    record {
      here = omega (arith, length-append us vs);
      words = q.words ∙ rw (p.words, p.here) (sym (sets_append w i us vs));
    }

module _ {w : List ℕ} {i : ℕ} {vs r : List ℕ} {k : ℕ} (p : Stored w i vs r k) where
  pub stored_length : length r ≡ length w
  stored_length = ap length p.words ∙ length-sets w i vs

  -- They are all that has changed.
  pub stored_only : (to : ℕ) → k ≤ to → OnlyIn i to w r
  stored_only to h =
      record {
        sized = stored_length;
        below = ap (take i) p.words ∙ take_sets i w i vs (le_refl i);
        above = ap (drop to) p.words ∙ drop_sets to w i vs (omega (arith, p.here));
      }

  -- The words are there.
  pub stored_words : k ≤ length w → slice i k r ≡ vs
  stored_words h =
      let front = length-take-le i w (omega arith) in
      let both : length (take i w ++ vs) ≡ k = omega (arith, length-append (take i w) vs) in
      rw (p.words, sets-eq vs w i (omega arith), take_at (take i w ++ vs) _ k both)
      (drop_at (take i w) vs i front)
