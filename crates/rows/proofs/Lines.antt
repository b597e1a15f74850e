-- What the model says of an event at its site, as the lines of the table say it.
use Prim.Native.Nat.{ℕ, zero, suc}
use native.Mathlib.Omega.{arith}
use mathlib.Core.Path.{◌≡◌, refl, sym, subst}
use mathlib.Core.Logic.{◌≢◌, ◌⊎◌, inl, inr, ⊎_elim, ◌↔◌}
use mathlib.Core.Bool.{cond}
use lib.Dec.{T, eqb, eqb→eq, eqb-suc-zero}
use lib.Ieee.Fits.{eq→eqb}
use Rattle.model.specs.Cxl0.{Location, Value, Topology, Event}
use Rattle.model.specs.Sharers.{insert}
use Rattle.model.specs.OneLocation.{event_at, concerns, site_of, readable_at, possible_at, next_at}
use Rattle.model.proofs.Tests.{T→true}
use Rattle.rows.specs.declared.Row.{Row}
use Rattle.rows.specs.Rows.{state, Fine, RowOf, Line, Before}

-- A line that asks nothing of the state, and one that asks for code 0.
pub line_any : {P Q : Type 0} → P ↔ Q → (Unit {0} × P) ↔ Q
line_any r = (λ p. r.0 p.1, λ q. (tt, r.1 q))

pub line_none : {P Q : Type 0} (c : ℕ) → ((c ≡ 0) × P) ↔ Q → (T (eqb c 0) × P) ↔ Q
line_none c r = (λ p. r.0 (eqb→eq c 0 p.0, p.1), λ q. let p = r.1 q in (eq→eqb p.0, p.1))

-- A load of v is possible from copies of value u, or from memory where there is no copy.
abbrev pub Reads : Value → Value → ℕ → Value → Type 0
Reads u v c m = ((c ≢ 0) × (u ≡ v)) ⊎ ((c ≡ 0) × (m ≡ v))

pub reads : (u v c m : ℕ) → T (readable_at v (state c u m)) ↔ Reads u v c m
reads u v zero m = (λ t. inr (refl, eqb→eq m v t), ⊎_elim (λ p. absurd (p.0 refl)) (λ p. eq→eqb p.1))
reads u v (suc c) m =
    rw (eqb-suc-zero c) (
      λ t. inl (λ z. omega arith, eqb→eq u v t),
      ⊎_elim (λ p. eq→eqb p.1) (λ p. absurd (omega (arith, p.0))),
    )

-- The line of a load of v by machine i: from memory, which leaves no copy, or from copies of value u.
abbrev pub Loads : Row → ℕ → Value → Value → ℕ → Value → Type 0
Loads rest i u v c m =
    ((c ≡ 0) × (m ≡ v) × Fine rest 0 v) ⊎ ((c ≢ 0) × (u ≡ v) × Fine rest (insert i c) m)

pub loads : (rest : Row) (i u v c m : ℕ)
    → (T (cond (eqb c 0) (eqb m v) (eqb u v)) × Fine rest (cond (eqb c 0) 0 (insert i c)) m)
    ↔ Loads rest i u v c m
loads rest i u v zero m = (
  λ f.
      let e = eqb→eq m v f.0 in
      inl (refl, e, subst (Fine rest 0) e f.1),
  λ g.
      ⊎_elim
      (λ a. (eq→eqb a.1, subst (Fine rest 0) (sym a.1) a.2))
      (λ b. absurd (b.0 refl))
      g,
)
loads rest i u v (suc c) m =
    rw (eqb-suc-zero c) (
      λ f. inr (λ z. omega arith, eqb→eq u v f.0, f.1),
      λ g.
          ⊎_elim
          (λ a. absurd (omega (arith, a.0)))
          (λ b. (eq→eqb b.1, b.2))
          g,
    )

-- A row that meets the line of an event of x is the row before that event.
pub before_line : (sys : Topology) (x : Location) (e : Event) (u : Value) (rest row : Row) → T (event_at x e)
    → RowOf (λ c m. Line (site_of sys x) e u rest c m) row → Before sys x e u rest row
unfolding possible_at next_at concerns
before_line sys x e u rest row t line c m h = rw (T→true {b = event_at x e} t) (line c m h)
