-- One pass over the machines finds every code from which moves to the owner reach a set: moves of different
-- machines commute, and no machine moves twice.
use Prim.Native.Nat.{ℕ, ◌+◌, ◌<◌}
use native.Mathlib.Nat.{lt_of_le_of_lt}
use native.Mathlib.Omega.{arith}
use mathlib.Core.Path.{◌≡◌}
use mathlib.Core.Logic.Iff
use mathlib.Core.Logic.{◌⊎◌, inl, inr, ⊎_elim}
use mathlib.Core.Bool.{not, ◌&&◌}
use lib.Dec.{T, T_not, eqb, eqb→eq, eqb_refl}
use lib.Bits.{bit_or}
use Rattle.model.specs.Cxl0.{Machine}
use Rattle.model.specs.Sharers.{has, insert, remove}
use Rattle.model.specs.OneLocation.{movable, moved, Moves, stay, move}
use Rattle.model.proofs.Tests.{by_test, and_i, and_l, and_r, or_r, or_cases, ne_test}
use Rattle.model.proofs.Sharers.{has_bound, remove_le}
use Rattle.model.proofs.Expand.{has_insert_of}
use Rattle.model.proofs.SomeSilent.{movable_moved}
use Rattle.masks.specs.Sets.{In, Exactly, Leads, OneToSix}
use Rattle.masks.proofs.Sets.{in_or}
use Rattle.masks.proofs.Codes.{insert_there, insert_fits}
use Rattle.masks.proofs.Codes.{moved_fits, moved_owner, moved_insert, moved_moved}

-- Code t is in the mask, or one move of i takes it there.
abbrev LeadsBy : Machine → Machine → ℕ → ℕ → Type 0
LeadsBy k i m t = In t m ⊎ (T (movable k i t) × In (moved k i t) m)

-- The pass has tried the machines below n and come from m to r. `near` has the codes that are in r once
-- they gain k; r has all codes of m, its codes lead to m, and it has each code that a move of one of these
-- machines takes there.
pub record Led (k : Machine) (m n r near : ℕ) : Type 0 where
  pub gains : Exactly near (λ t. In (insert k t) r)
  pub grown : (t : ℕ) → t < 64 → In t m → In t r
  pub leads : (t : ℕ) → t < 64 → In t r → Leads k m t
  pub closed : (j : Machine) (t : ℕ) → j < n → t < 64 → T (movable k j t) → In (moved k j t) r → In t r

module _ (k : Machine) (o : OneToSix k) where
  -- A turn at machine i adds `more`, the codes with i that are in `near` once they lose i.
  module _ (i : Machine) (r near more : ℕ) (n : Exactly near (λ t. In (insert k t) r))
      (v : Exactly more (λ t. T (has i t) × In (remove i t) near)) where
    -- These are the codes with i that i's move takes into r.
    pub more_moved : Exactly more (λ t. T (has i t) × In (moved k i t) r)
    unfolding moved
    more_moved t h = Iff.trans (v t h) (Iff.and Iff.rfl (n (remove i t) (lt_of_le_of_lt (remove_le i t) h)))

    -- With them r has what it had and what a move of i takes there. The owner has no move and adds nothing.
    turn-leads : Exactly (bit_or r more) (LeadsBy k i r)
    turn-leads t h = (λ j. ⊎_elim inl there ((in_or r more t).0 j), λ j. (in_or r more t).1 (⊎_elim inl back j))
      where
        there : In t more → LeadsBy k i r t
        there j =
            let q = (more_moved t h).0 j in
            by_test (eqb i k)
            (λ e.
            let same = eqb→eq i k e in
            let u : T (has k t) = rw same at q.0 in
            inl (rw (same, moved_owner k t o.0, insert_there k t u) at q.1))
            (λ e. inr (and_i (not (eqb i k)) (has i t) e q.0, q.1))

        back : T (movable k i t) × In (moved k i t) r → In t r ⊎ In t more
        back q = inr ((more_moved t h).1 (and_r (not (eqb i k)) (has i t) q.0, q.1))

    -- And `near` keeps up with r.
    turn-gains : Exactly (bit_or near more) (λ t. In (insert k t) (bit_or r more))
    turn-gains t h = (λ j. there ((in_or near more t).0 j), λ j. back ((in_or r more (insert k t)).0 j))
      where
        fits : insert k t < 64
        fits = insert_fits k t o h

        same : moved k i (insert k t) ≡ moved k i t
        same = moved_insert k i t o h

        there : In t near ⊎ In t more → In (insert k t) (bit_or r more)
        there (inl j) = (in_or r more (insert k t)).1 (inl ((n t h).0 j))
        there (inr j) =
            let q = (more_moved t h).0 j in
            let u : T (has i (insert k t)) = rw (has_insert_of k i t o.0) (or_r (eqb i k) (has i t) q.0) in
            (in_or r more (insert k t)).1 (inr ((more_moved (insert k t) fits).1 (u, rw same q.1)))

        back : In (insert k t) r ⊎ In (insert k t) more → In t (bit_or near more)
        back (inl j) = (in_or near more t).1 (inl ((n t h).1 j))
        back (inr j) =
            let q = (more_moved (insert k t) fits).0 j in
            let to : In (moved k i t) r = rw same at q.1 in
            (in_or near more t).1
            (⊎_elim
            (λ e. inl ((n t h).1 (rw (eqb→eq i k e, moved_owner k t o.0) at to)))
            (λ u. inr ((more_moved t h).1 (u, to)))
            (or_cases (eqb i k) (has i t) (rw (has_insert_of k i t o.0) at q.0)))

  -- A machine that can move is one of 1 to 6.
  mover : (j : Machine) (t : ℕ) → t < 64 → T (movable k j t) → OneToSix j
  mover j t h u = has_bound 6 j t h (and_r (not (eqb j k)) (has j t) u)

  -- Before the first machine.
  pub led_none : (m near : ℕ) → Exactly near (λ t. In (insert k t) m) → Led k m 1 m near
  led_none m near n =
      record {
        gains = n;
        grown = λ t h i. i;
        leads = λ t h i. (t, h, stay, i);
        closed = λ j t b h u i. absurd (omega (arith, mover j t h u));
      }

  module _ (m i r near more : ℕ) (s : Led k m i r near)
      (v : Exactly more (λ t. T (has i t) × In (remove i t) near)) where
    turn : Exactly (bit_or r more) (LeadsBy k i r)
    turn = turn-leads i r near more s.gains v

    -- A code that i's move takes to one that leads to m leads to m.
    leads : (t : ℕ) → t < 64 → In t (bit_or r more) → Leads k m t
    leads t h j =
        ⊎_elim (s.leads t h)
        (λ q.
        let d = s.leads (moved k i t) (moved_fits k i t o h) q.1 in
        (d.0, d.1, move i q.0 d.2, d.3))
        ((turn t h).0 j)

    -- A code that i's move takes into the new r is in it: i moves only once, so it goes into the old r.
    closed_at : (t : ℕ) → t < 64 → T (movable k i t) → In (moved k i t) (bit_or r more) → In t (bit_or r more)
    closed_at t h u j =
        ⊎_elim
        (λ q. (turn t h).1 (inr (u, q)))
        (λ q.
        let w : T (not (eqb i i) && movable k i t) = rw (movable_moved k i i t o.0) at q.0 in
        absurd (T_not (eqb i i) (and_l (not (eqb i i)) (movable k i t) w) (eqb_refl i)))
        ((turn (moved k i t) (moved_fits k i t o h)).0 j)

    -- So is one that an earlier machine's move takes there: if i moves after it, i may as well move first.
    closed_before : (j : Machine) (t : ℕ) → T (not (eqb j i)) → j < i → t < 64 → T (movable k j t)
        → In (moved k j t) (bit_or r more)
        → In t (bit_or r more)
    closed_before j t e b h u p =
        ⊎_elim
        (λ q. (turn t h).1 (inl (s.closed j t b h u q)))
        (λ q.
        let w : T (not (eqb i j) && movable k i t) = rw (movable_moved k j i t o.0) at q.0 in
        let kept = and_i (not (eqb j i)) (movable k j t) e u in
        let later : T (movable k j (moved k i t)) = rw (movable_moved k i j t o.0) kept in
        let both : In (moved k j (moved k i t)) r = rw (moved_moved k i t o h j) at q.1 in
        let first = s.closed j (moved k i t) b (moved_fits k i t o h) later both in
        (turn t h).1 (inr (and_r (not (eqb i j)) (movable k i t) w, first)))
        ((turn (moved k j t) (moved_fits k j t o h)).0 p)

    closed : (j : Machine) (t : ℕ) → j < i + 1 → t < 64 → T (movable k j t) → In (moved k j t) (bit_or r more)
        → In t (bit_or r more)
    closed j t b h u p =
        by_test (eqb j i)
        (λ e. let same = eqb→eq j i e in closed_at t h (rw same at u) (rw same at p))
        (λ e. closed_before j t e (omega (arith, ne_test j i e)) h u p)

    -- From machine i to the next.
    pub led_more : Led k m (i + 1) (bit_or r more) (bit_or near more)
    led_more =
        record {
          gains = turn-gains i r near more s.gains v;
          grown = λ t h j. (turn t h).1 (inl (s.grown t h j));
          leads = leads;
          closed = closed;
        }

  -- After the last machine: exactly the codes that lead to m.
  pub led_all : (m r near : ℕ) → Led k m 7 r near → Exactly r (Leads k m)
  led_all m r near s t h = (s.leads t h, λ d. go h d.2 d.1 d.3)
    where
      go : {t d : ℕ} → t < 64 → Moves k t d → d < 64 → In d m → In t r
      go {t} h stay f i = s.grown t h i
      go {t} h (move j u w) f i =
          s.closed j t (omega (arith, mover j t h u)) h u (go (moved_fits k j t o h) w f i)
