-- To lose the machines of a set is to lose them one after the other, from machine 1 on.
use Prim.Native.Nat.{ℕ, zero, suc, ◌≤◌, ◌<◌}
use native.Mathlib.Nat.{lt_of_le_of_lt, le_trans}
use native.Mathlib.Omega.{arith}
use mathlib.Core.Path.{◌≡◌, refl}
use mathlib.Core.Logic.Iff
use mathlib.Core.Logic.{◌↔◌}
use mathlib.Core.Bool.{Bool, true, false, cond, not, ◌&&◌}
use lib.Dec.{T, T_not, eqb, eqb→eq}
use Rattle.model.specs.Cxl0.{Machine}
use Rattle.model.specs.Sharers.{has, remove, remove_all}
use Rattle.model.proofs.Tests.{by_test, same_test, and_i, and_l, and_r, ne_test}
use Rattle.model.proofs.Sharers.{has_remove, has_remove_all, has_bound, remove_le, remove_all_le, same_code}
use Rattle.model.proofs.Expand.{branch}
use Rattle.masks.specs.Sets.{In, Exactly}

-- The set t without machine i, if i is in the set d.
abbrev less : Machine → (d t : ℕ) → ℕ
less i d t = cond (has i d) (remove i t) t

less_le : (i : Machine) (d t : ℕ) → less i d t ≤ t
less_le i d t = branch (λ c. c ≤ t) (has i d) (remove i t) t (λ in_d. remove_le i t) (λ out. omega arith)

has_less : (i j : Machine) (d t : ℕ) → has j (less i d t) ≡ (not (has i d && eqb j i) && has j t)
has_less i j d t = go (has i d)
  where
    go : (b : Bool) → has j (cond b (remove i t) t) ≡ (not (b && eqb j i) && has j t)
    go true = has_remove i j t
    go false = refl

-- The set t without those of machines 1 to n that are in the set d.
abbrev without : (n d t : ℕ) → ℕ
without zero d t = t
without (suc n) d t = without n d (less (suc n) d t)

without_le : (n d t : ℕ) → without n d t ≤ t
without_le zero d t = omega arith
without_le (suc n) d t = le_trans (without_le n d (less (suc n) d t)) (less_le (suc n) d t)

-- It has the machines of t but those.
abbrev Kept : (n d t : ℕ) → Machine → Type 0
Kept n d t j = T (has j t) × (j ≤ n → T (not (has j d)))

kept : (n d t : ℕ) (j : Machine) → T (has j (without n d t)) ↔ Kept n d t j
unfolding has
kept zero d t j = (λ h. (h, λ l. let z : j ≡ 0 = omega arith in rw z tt), λ k. k.0)
kept (suc n) d t j =
    let so_far = kept n d (less (suc n) d t) j in
    let gone = has (suc n) d && eqb j (suc n) in (
      λ h.
          let k = so_far.0 h in
          let both = rw (has_less (suc n) j d t) at k.0 in
          let stays = and_l (not gone) (has j t) both in
          let lacks : j ≤ suc n → T (not (has j d)) =
          λ l.
          by_test (eqb j (suc n))
          (λ e.
          let same = eqb→eq j (suc n) e in
          by_test (has j d)
          (λ in_d. absurd (T_not gone stays (and_i (has (suc n) d) (eqb j (suc n)) (rw same at in_d) e)))
          (λ out. out))
          (λ e. let other = ne_test j (suc n) e in k.1 (omega arith)) in
          (and_r (not gone) (has j t) both, lacks),
      λ k.
          let stays : T (not gone) =
          by_test gone
          (λ g.
          let same = eqb→eq j (suc n) (and_r (has (suc n) d) (eqb j (suc n)) g) in
          let lacks : T (not (has (suc n) d)) = rw same at (k.1 (omega arith)) in
          absurd (T_not (has (suc n) d) lacks (and_l (has (suc n) d) (eqb j (suc n)) g)))
          (λ g. g) in
          so_far.1 (rw (has_less (suc n) j d t) (and_i (not gone) (has j t) stays k.0), λ l. k.1 (omega arith)),
    )

-- Once machine 6 is gone too, all are.
without_all : (d t : ℕ) → t < 64 → without 6 d t ≡ remove_all d t
without_all d t h =
    same_code 6 (without 6 d t) (remove_all d t) (lt_of_le_of_lt (without_le 6 d t) h)
    (lt_of_le_of_lt (remove_all_le d t) h)
    (λ j.
    rw (has_remove_all d j t)
    (same_test (has j (without 6 d t)) (not (has j d) && has j t)
    (λ u.
    let k = (kept 6 d t j).0 u in
    and_i (not (has j d)) (has j t) (k.1 (has_bound 6 j t h k.0).1) k.0)
    (λ u. (kept 6 d t j).1 (and_r (not (has j d)) (has j t) u, λ l. and_l (not (has j d)) (has j t) u))))

-- Before machine n: the codes that are in m without the machines before n.
pub record Lost (m d n r : ℕ) : Type 0 where
  pub last : ℕ
  pub next : n ≡ suc last
  pub codes : Exactly r (λ t. In (without last d t) m)

module _ (m d : ℕ) where
  pub lost_none : Lost m d 1 m
  lost_none = record { last = 0; next = refl; codes = λ t h. (λ i. i, λ i. i) }

  -- Machine n goes, if it is in the set.
  lost_next : {n r : ℕ} → Lost m d n r → (r' : ℕ) → Exactly r' (λ t. In (less n d t) r) → Lost m d (suc n) r'
  lost_next {n} s r' lose =
      record {
        last = n;
        next = refl;
        codes = λ t h. Iff.trans (lose t h)
            (rw s.next (s.codes (less (suc s.last) d t) (lt_of_le_of_lt (less_le (suc s.last) d t) h)));
      }

  pub lost_more : {n r r' : ℕ} → Lost m d n r → has n d ≡ true → Exactly r' (λ t. In (remove n t) r)
      → Lost m d (suc n) r'
  lost_more {r' = r'} s in_d lose = lost_next s r' (rw in_d lose)

  pub lost_stays : {n r : ℕ} → Lost m d n r → has n d ≡ false → Lost m d (suc n) r
  lost_stays {r = r} s out = lost_next s r (rw out (λ t h. Iff.rfl))

  -- After machine 6: without all of the set.
  pub lost_all : {r : ℕ} → Lost m d 7 r → Exactly r (λ t. In (remove_all d t) m)
  lost_all s t h =
      let six : s.last ≡ 6 = omega (arith, s.next) in
      rw (← without_all d t h) (rw six at (s.codes t h))
