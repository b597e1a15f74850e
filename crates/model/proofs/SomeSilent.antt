-- Does some short form that silent steps of one location lead to pass a test? A function that computes the
-- answer: moves commute and no machine moves twice, so that it need only choose which machines move.
use Prim.Native.Nat.{ℕ, zero, suc, ◌^◌, ◌≤◌, ◌<◌}
use native.Mathlib.Nat.{le_trans, not-suc-le-zero}
use native.Mathlib.Omega.{arith}
use mathlib.Core.Path.{◌≡◌, refl, subst}
use mathlib.Core.Logic.{◌⊎◌, inl, inr, ⊎_elim, ◌↔◌}
use mathlib.Core.Bool.{Bool, true, false, not, ◌&&◌, ◌||◌}
use lib.Dec.{T, T_not, eqb, eqb→eq, eqb_refl}
use Rattle.model.specs.Cxl0.{Machine, Location, Topology, owner}
use Rattle.model.specs.Sharers.{has}
use Rattle.model.specs.OneLocation.{Local, movable, moved, Moves, stay, move, Silently}
use Rattle.model.proofs.Tests.{and_l, and_r, and_i, or_l, or_r, or_cases, by_test, ne_test, ne→test}
use Rattle.model.proofs.Sharers.{has_bound, same_code}
use Rattle.model.proofs.SilentSteps.{has_moved, moved_bound}
use Rattle.model.specs.OneLocation.{recoded, written}
use Rattle.model.proofs.SilentSteps.{reached_form, normal_form}

-- Some code that moves of machines 1 to n lead to from c passes the test. What a `let` binds is computed only
-- if it is read, so that the first code that passes ends the search.
unfoldable pub some_moved : Machine → ℕ → (ℕ → Bool) → ℕ → Bool
some_moved k zero test c = test c
some_moved k (suc n) test c =
    let moves = some_moved k n test (moved k (suc n) c) in
    let further = movable k (suc n) c && moves in
    some_moved k n test c || further

-- Some short form that silent steps of x lead to from s passes the test.
unfoldable pub some_silent : Topology → Location → (Local → Bool) → Local → Bool
some_silent sys x test s =
    let passes = test (written s) in
    let back = not (eqb s.code 0) && passes in
    some_moved (owner sys x) sys.machines (λ c. test (recoded c s)) s.code || back

-- ---- moves

-- The order of two moves does not matter.
pub swap : (n k i j c : ℕ) → 1 ≤ k → k ≤ n → c < 2 ^ n → moved k i (moved k j c) ≡ moved k j (moved k i c)
swap n k i j c l u h =
    same_code n (moved k i (moved k j c)) (moved k j (moved k i c))
    (moved_bound n k i (moved k j c) l u (moved_bound n k j c l u h))
    (moved_bound n k j (moved k i c) l u (moved_bound n k i c l u h))
    (λ m.
    rw (has_moved k i m (moved k j c) l, has_moved k j m c l)
    (rw (has_moved k j m (moved k i c) l, has_moved k i m c l)
    (go (eqb m k) (eqb m i) (eqb m j) (has m c))))
  where
    go : (a b d e : Bool) → (a || not b && (a || not d && e)) ≡ (a || not d && (a || not b && e))
    go true b d e = refl
    go false true true e = refl
    go false true false e = refl
    go false false true e = refl
    go false false false e = refl

-- After machine i's move, machine j may move if it might before and is not i.
pub movable_moved : (k i j c : ℕ) → 1 ≤ k → movable k j (moved k i c) ≡ (not (eqb j i) && movable k j c)
movable_moved k i j c l = rw (has_moved k i j c l) (go (eqb j k) (eqb j i) (has j c))
  where
    go : (a b e : Bool) → (not a && (a || not b && e)) ≡ (not b && (not a && e))
    go true true e = refl
    go true false e = refl
    go false true e = refl
    go false false e = refl

module _ (k : Machine) (test : ℕ → Bool) where
  -- Machine n + 1 stays or moves.
  moved_suc : (n c : ℕ)
      → T (some_moved k (suc n) test c)
      ↔ (T (some_moved k n test c) ⊎ (T (movable k (suc n) c) × T (some_moved k n test (moved k (suc n) c))))
  unfolding some_moved
  moved_suc n c =
      let stays = some_moved k n test c in
      let can : Bool = movable k (suc n) c in
      let moves = some_moved k n test (moved k (suc n) c) in (
        λ t. ⊎_elim inl (λ p. inr (and_l can moves p, and_r can moves p)) (or_cases stays (can && moves) t),
        ⊎_elim (or_l stays (can && moves)) (λ p. or_r stays (can && moves) (and_i can moves p.0 p.1)),
      )

  -- What the search finds is reached.
  moved_e : (n c : ℕ) → T (some_moved k n test c) → (d : ℕ) × Moves k c d × T (test d)
  unfolding some_moved
  moved_e zero c t = (c, stay, t)
  moved_e (suc n) c t =
      ⊎_elim
      (moved_e n c)
      (λ p. let m = moved_e n (moved k (suc n) c) p.1 in (m.0, move (suc n) p.0 m.1, m.2))
      ((moved_suc n c).0 t)

  -- It finds the code that it starts from.
  moved_stay : (n c : ℕ) → T (test c) → T (some_moved k n test c)
  unfolding some_moved
  moved_stay zero c t = t
  moved_stay (suc n) c t = (moved_suc n c).1 (inl (moved_stay n c t))

  module _ (m : ℕ) (l : 1 ≤ k) (u : k ≤ m) where
    -- What it finds after a move it finds before it; first, a move of the last machine.
    moved_last : (n c : ℕ) → T (movable k (suc n) c) → T (some_moved k (suc n) test (moved k (suc n) c))
        → T (some_moved k (suc n) test c)
    moved_last n c v t =
        ⊎_elim
        (λ p. (moved_suc n c).1 (inr (v, p)))
        (λ p.
        let again = rw (movable_moved k (suc n) (suc n) c l) at p.0 in
        let other = and_l (not (eqb (suc n) (suc n))) (movable k (suc n) c) again in
        absurd (T_not (eqb (suc n) (suc n)) other (eqb_refl (suc n))))
        ((moved_suc n (moved k (suc n) c)).0 t)

    moved_move : (n i c : ℕ) → 1 ≤ i → i ≤ n → c < 2 ^ m → T (movable k i c)
        → T (some_moved k n test (moved k i c)) → T (some_moved k n test c)
    moved_move zero i c p q h v t = absurd (not-suc-le-zero (le_trans p q))
    moved_move (suc n) i c p q h v t =
        by_test (eqb i (suc n))
        (λ e. let z = eqb→eq i (suc n) e in moved_last n c (rw z at v) (rw z at t))
        (λ e.
        let d = ne_test i (suc n) e in
        ⊎_elim
        (λ a. (moved_suc n c).1 (inl (moved_move n i c p (omega arith) h v a)))
        (λ b.
        let c' = moved k (suc n) c in
        let h' = moved_bound m k (suc n) c l u h in
        let b' = rw (movable_moved k i (suc n) c l) at b.0 in
        let t' = rw (swap m k (suc n) i c l u h) at b.1 in
        let v' = and_i (not (eqb i (suc n))) (movable k i c) e v in
        let r = moved_move n i c' p (omega arith) h' (rw (movable_moved k (suc n) i c l) v') t' in
        (moved_suc n c).1 (inr (and_r (not (eqb (suc n) i)) (movable k (suc n) c) b', r)))
        ((moved_suc n (moved k i c)).0 t))

    -- What is reached and passes, it finds.
    moved_i : {c d : ℕ} → Moves k c d → c < 2 ^ m → T (test d) → T (some_moved k m test c)
    moved_i (stay {c}) h t = moved_stay m c t
    moved_i (move {c} i v r) h t =
        let b = has_bound m i c h (and_r (not (eqb i k)) (has i c) v) in
        moved_move m i c b.0 b.1 h v (moved_i r (moved_bound m k i c l u h) t)

-- ---- all silent steps

module _ (sys : Topology) (x : Location) (test : Local → Bool) (s : Local) (l : 1 ≤ owner sys x) where
  silent_e : T (some_silent sys x test s) → (t : Local) × Silently sys x s t × T (test t)
  unfolding some_silent
  silent_e t =
      let k = owner sys x in
      let n = sys.machines in
      let at : ℕ → Bool = λ c. test (recoded c s) in
      let held : Bool = not (eqb s.code 0) in
      ⊎_elim
      (λ a.
      let m = moved_e k at n s.code a in
      (recoded m.0 s, (normal_form sys x s (recoded m.0 s) l).1 (refl, inl (refl, m.1)), m.2))
      (λ b.
      let z = ne_test s.code 0 (and_l held (test (written s)) b) in
      let r = (normal_form sys x s (written s) l).1 (refl, inr (z, refl, refl)) in
      (written s, r, and_r held (test (written s)) b))
      (or_cases (some_moved k n at s.code) (held && test (written s)) t)

  silent_i : owner sys x ≤ sys.machines → s.code < 2 ^ sys.machines
      → (t : Local) → Silently sys x s t → T (test t) → T (some_silent sys x test s)
  unfolding some_silent
  silent_i u h t r p =
      let k = owner sys x in
      let n = sys.machines in
      let at : ℕ → Bool = λ c. test (recoded c s) in
      let moves = some_moved k n at s.code in
      let held : Bool = not (eqb s.code 0) in
      ⊎_elim
      (λ a.
      or_l moves (held && test (written s)) (moved_i k at n l u a.1 h (subst passed a.0 p)))
      (λ b.
      let z = ne→test s.code 0 b.1 in
      or_r moves (held && test (written s)) (and_i held (test (written s)) z (subst passed b.0 p)))
      (reached_form s t ((normal_form sys x s t l).0 r))
    where
      passed : Local → Type 0
      passed v = T (test v)

-- The function says what it is meant to.
pub some-silent : (sys : Topology) (x : Location) → 1 ≤ owner sys x → owner sys x ≤ sys.machines
    → (test : Local → Bool) (s : Local) → s.code < 2 ^ sys.machines
    → T (some_silent sys x test s) ↔ ((t : Local) × Silently sys x s t × T (test t))
some-silent sys x l u test s h =
    (silent_e sys x test s l, λ r. silent_i sys x test s l u h r.0 r.1 r.2)
