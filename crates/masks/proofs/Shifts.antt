-- A mask shifted by the code of machine i alone: up, for the codes that lose i, and down, for those that
-- gain i.
use Prim.Native.Nat.{ℕ, ◌+◌, ◌*◌, ◌/◌, ◌%◌, ◌^◌, ◌<◌}
use native.Mathlib.Nat.{lt_of_le_of_lt}
use native.Mathlib.Omega.{arith}
use mathlib.Core.Path.{◌≡◌, ◌∙◌}
use mathlib.Core.Logic.{◌↔◌, ⊎_elim, inl, inr}
use mathlib.Core.Bool.{not}
use lib.Dec.{T}
use lib.Bits.{bit_or}
use Rattle.model.specs.Cxl0.{Machine}
use Rattle.model.specs.Sharers.{has, insert, remove}
use Rattle.model.proofs.Tests.{by_test}
use Rattle.model.proofs.Sharers.{remove_le}
use Rattle.masks.specs.Sets.{In, Exactly, OneToSix}
use Rattle.masks.proofs.Sets.{in_bound, in_or, in_shl, in_shr}
use Rattle.masks.proofs.Codes.{insert_adds, remove_takes, insert_there, remove_absent}
use Rattle.masks.proofs.Codes.{has_itself, lacks_itself, insert_fits}

module _ (i : Machine) (o : OneToSix i) (m y : ℕ) where
  -- y has the codes of m that lack i. Shifted up, it has the codes with i that are in m once they lose i.
  pub shifted_up : Exactly y (λ t. In t m × T (not (has i t)))
      → Exactly (y * 2 ^ insert i 0 % 2 ^ 64) (λ t. T (has i t) × In (remove i t) m)
  shifted_up s t h = (there, back)
    where
      shift : In t (y * 2 ^ insert i 0 % 2 ^ 64) ↔ ((d : ℕ) × (d + insert i 0 ≡ t) × In d y)
      shift = in_shl 64 y (insert i 0) t h

      there : In t (y * 2 ^ insert i 0 % 2 ^ 64) → T (has i t) × In (remove i t) m
      there j =
          let d = shift.0 j in
          let from = (s d.0 (omega (arith, d.1))).0 d.2 in
          let e : insert i d.0 ≡ t = insert_adds i d.0 o.0 from.1 ∙ d.1 in
          let u : T (has i t) = rw (← e) (has_itself i d.0 o.0) in
          let same : remove i t ≡ d.0 = omega (arith, remove_takes i t u, d.1) in
          (u, rw same from.0)

      back : T (has i t) × In (remove i t) m → In t (y * 2 ^ insert i 0 % 2 ^ 64)
      back j =
          let fits : remove i t < 64 = lt_of_le_of_lt (remove_le i t) h in
          shift.1 (remove i t, remove_takes i t j.0, (s (remove i t) fits).1 (j.1, lacks_itself i t))

  -- y has the codes of m with i. Shifted down, it has the codes that lack i and are in m once they gain i.
  shifted_down : y < 2 ^ 64 → Exactly y (λ t. In t m × T (has i t))
      → Exactly (y / 2 ^ insert i 0) (λ t. T (not (has i t)) × In (insert i t) m)
  shifted_down f s t h = (there, back)
    where
      there : In t (y / 2 ^ insert i 0) → T (not (has i t)) × In (insert i t) m
      there j =
          let c = t + insert i 0 in
          let k = (in_shr y (insert i 0) t).0 j in
          let from = (s c (in_bound 64 y c f k)).0 k in
          let same : remove i c ≡ t = omega (arith, remove_takes i c from.1) in
          let u : T (not (has i t)) = rw same at (lacks_itself i c) in
          (u, rw (insert_adds i t o.0 u) from.0)

      back : T (not (has i t)) × In (insert i t) m → In t (y / 2 ^ insert i 0)
      back j =
          let to = (s (insert i t) (insert_fits i t o h)).1 (j.1, has_itself i t o.0) in
          (in_shr y (insert i 0) t).1 (rw (insert_adds i t o.0 j.0) at to)

  -- Together: the codes that are in m once they gain i, if they lack it.
  pub gaining : y < 2 ^ 64 → Exactly y (λ t. In t m × T (has i t))
      → Exactly (bit_or y (y / 2 ^ insert i 0)) (λ t. In (insert i t) m)
  gaining f s t h =
      let have = s t h in
      let down = shifted_down f s t h in
      let union = in_or y (y / 2 ^ insert i 0) t in (
        λ j. ⊎_elim
            (λ a. rw (insert_there i t (have.0 a).1) (have.0 a).0)
            (λ a. (down.0 a).1)
            (union.0 j),
        λ j. union.1 (by_test (has i t)
            (λ u. inl (have.1 (rw (insert_there i t u) at j, u)))
            (λ u. inr (down.1 (u, j)))),
      )

-- y has the codes of m that lack i, z the codes with i that are in m once they lose it: together, the codes
-- that are in m once they lose i, if they have it.
pub losing : (i : Machine) (m y z : ℕ)
    → Exactly y (λ t. In t m × T (not (has i t)))
    → Exactly z (λ t. T (has i t) × In (remove i t) m)
    → Exactly (bit_or y z) (λ t. In (remove i t) m)
losing i m y z p q t h =
    let lack = p t h in
    let give = q t h in
    let union = in_or y z t in (
      λ j. ⊎_elim
          (λ a. rw (remove_absent i t (lack.0 a).1) (lack.0 a).0)
          (λ a. (give.0 a).1)
          (union.0 j),
      λ j. union.1 (by_test (has i t)
          (λ u. inr (give.1 (u, j)))
          (λ u. inl (lack.1 (rw (remove_absent i t u) at j, u)))),
    )
