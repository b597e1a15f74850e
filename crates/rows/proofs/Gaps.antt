-- Rows under silent steps: what closing a row under a gap takes, and that an event elsewhere changes no row.
use Prim.Native.Nat.{ℕ, ◌≤◌, ◌<◌}
use native.Mathlib.Omega.{arith}
use mathlib.Core.Path.{◌≡◌, refl, sym, ◌∙◌, subst}
use mathlib.Core.Logic.{◌≢◌, ◌⊎◌, inl, inr, ⊎_elim, ◌↔◌}
use mathlib.Core.Bool.{not}
use mathlib.Core.List.{List, ◌∷◌}
use lib.Dec.{T}
use Rattle.model.specs.Cxl0.{Machine, Location, Value, Topology, Event}
use Rattle.model.specs.OneLocation.{event_at, concerns, possible_at, next_at, still}
use Rattle.model.specs.OneLocation.{Reaches}
use Rattle.model.proofs.SilentSteps.{moves_bound, moves_none}
use Rattle.model.proofs.Gaps.{has_run_cons, after_gap}
use Rattle.model.proofs.Tests.{not→false}
use Rattle.masks.specs.Sets.{In, Leads}
use Rattle.rows.specs.declared.Row.{Row}
use Rattle.rows.specs.Rows.{state, Fine, Right, Closed, Gap}

-- A row whose codes are those from which moves lead into `inner`, and all that have a copy where a write-back leads
-- there, is `inner` closed under silent steps.
module _ (k : Machine) (l : 1 ≤ k) (h : k ≤ 6) (u : Value) (inner row : Row)
    (any : (c : ℕ) → c < 64 → In c row.any ↔ (Leads k inner.any c ⊎ ((c ≢ 0) × Fine inner 0 u)))
    (one : (c : ℕ) → c < 64 → In c row.one ↔ Leads k inner.one c)
    (value : row.value ≡ inner.value) where
  pub gap : Gap k u inner row
  gap c m b = (there, back)
    where
      there : (d n : ℕ) × Reaches k (state c u m) (state d u n) × Fine inner d n → Fine row c m
      there (d, n, r, f) =
          ⊎_elim
          (λ q.
          let bound = moves_bound 6 l h q.1 b in
          ⊎_elim
          (λ a. inl ((any c b).1 (inl (d, bound, q.1, a))))
          (λ o. inr ((one c b).1 (d, bound, q.1, o.0), sym q.0 ∙ o.1 ∙ sym value))
          f)
          (λ q. inl ((any c b).1 (inr (q.0, subst (λ (z : ℕ). Fine inner z u) q.1 (subst (Fine inner d) q.2 f)))))
          r.1

      back : Fine row c m → (d n : ℕ) × Reaches k (state c u m) (state d u n) × Fine inner d n
      back (inl a) =
          ⊎_elim
          (λ q. (q.0, m, (refl, inl (refl, q.2)), inl q.3))
          (λ q. (0, u, (refl, inr (q.0, refl, refl)), q.1))
          ((any c b).0 a)
      back (inr o) =
          let q = (one c b).0 o.0 in
          (q.0, m, (refl, inl (refl, q.2)), inr (q.3, o.1 ∙ value))

  pub closed : Closed u row
  closed f c b z = (any c b).1 (inr (z, settled f))
    where
      settled : Fine row 0 u → Fine inner 0 u
      settled (inl a) =
          ⊎_elim
          (λ q. inl (subst (λ (d : ℕ). In d inner.any) (moves_none q.2 refl) q.3))
          (λ q. absurd (q.0 refl))
          ((any 0 (omega arith)).0 a)
      settled (inr o) =
          let q = (one 0 (omega arith)).0 o.0 in
          inr (subst (λ (d : ℕ). In d inner.one) (moves_none q.2 refl) q.3, o.1 ∙ value)

-- An event that does not concern x makes no difference to it.
pub right_skip : (sys : Topology) (x : Location) (e : Event) (es : List Event) (u : Value) (row : Row)
    → T (not (event_at x e)) → Right sys x es u row → Right sys x (e ∷ es) u row
unfolding possible_at next_at concerns
right_skip sys x e es u row t right c m h =
    let elsewhere = not→false {b = event_at x e} t in (
      λ r.
          let f = rw elsewhere at ((has_run_cons sys x e es (state c u m)).0 r) in
          let g = after_gap sys x f.1 f.3.0 f.3.2 f.3.3 in
          (right c m h).0 (g.0, g.1 ∙ f.3.1, g.2, g.3),
      λ f. (has_run_cons sys x e es (state c u m)).1 (rw elsewhere (state c u m, still, tt, (right c m h).1 f)),
    )
