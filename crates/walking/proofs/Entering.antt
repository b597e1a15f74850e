-- Into a row by silent steps: by moves to a code that the row has, or else by a write-back.
use Prim.Native.Nat.{ℕ, ◌<◌}
use native.Mathlib.Omega.{arith}
use mathlib.Core.Path.{◌≡◌, refl, sym, subst, ◌∙◌}
use mathlib.Core.Logic.{◌≢◌, ⊎_elim}
use mathlib.Core.Bool.{Bool, true, false, not, ◌&&◌}
use mathlib.Core.List.{[], ◌∷◌, ◌++◌}
use lib.Dec.{T, T_not, eqb, eqb_refl}
use lib.Bits.{bit_and}
use Rattle.model.specs.Cxl0.{Machine, Value}
use Rattle.model.specs.Sharers.{has}
use Rattle.model.specs.OneLocation.{moved, Moves}
use Rattle.model.proofs.Tests.{and_i, or_l, ne→test, true→T, false→not}
use Rattle.model.proofs.SilentSteps.{moves_bound}
use Rattle.model.proofs.SilentSteps.{has_moved}
use Rattle.masks.specs.Sets.{In, Exactly, OneToSix}
use Rattle.masks.proofs.Sets.{in_bound, in_and, in_none}
use Rattle.masks.proofs.Codes.{moves_to_none}
use Rattle.moves.specs.Reach.{Reached}
use Rattle.rows.specs.declared.Row.{Row}
use Rattle.rows.specs.Rows.{state, Fine}
use Rattle.walking.specs.Trails.{Trail, none, moves, writes, one_if, draining}
use Rattle.walking.specs.Walks.{Enters}

-- `r` has the codes that moves reach from c, and `q` those that the row has at m.
module _ (k : Machine) (o : OneToSix k) (row : Row) (c m r q : ℕ) (h : c < 64)
    (reached : Reached k c r) (codes : Exactly q (λ d. Fine row d m)) where
  -- A code that moves reach and the row has.
  pub enters_moves : (d : ℕ) → In d (bit_and r q) → (d < 64) × Moves k c d × Fine row d m
  enters_moves d i =
      let both = (in_and r q d).0 i in
      let moves = ((reached d).0 both.0).3 in
      let fits = moves_bound 6 o.0 o.1 moves h in
      (fits, moves, (codes d fits).0 both.1)

  -- If there is none, a write-back leads into the row.
  pub enters_written : (u : Value) → Enters k u row c m → bit_and r q ≡ 0 → (c ≢ 0) × Fine row 0 u
  enters_written u (d, n, reach, f) e =
      ⊎_elim
      (λ a.
      let fits = moves_bound 6 o.0 o.1 a.1 h in
      let fine = subst (Fine row d) a.0 f in
      let both = (in_and r q d).1 ((reached d).1 (o.0, o.1, h, a.1), (codes d fits).1 fine) in
      absurd (in_none d (rw e at both)))
      (λ b. (b.0, subst (λ (z : ℕ). Fine row z u) b.1 (subst (Fine row d) b.2 f)))
      reach.1

-- If the row has no code but 0 at m, and not c, a write-back leads into it.
pub enters_drained : (k : Machine) → OneToSix k → (row : Row) (c m q : ℕ) → c < 64
    → Exactly q (λ d. Fine row d m) → q < 2 → (u : Value) → Enters k u row c m → ¬ Fine row c m
    → (c ≢ 0) × Fine row 0 u
enters_drained k o row c m q h codes l u (d, n, reach, f) away =
    ⊎_elim
    (λ a.
    let fits = moves_bound 6 o.0 o.1 a.1 h in
    let fine = subst (Fine row d) a.0 f in
    let z : d ≡ 0 = omega (arith, in_bound 1 q d l ((codes d fits).1 fine)) in
    absurd (away (subst (λ (e : ℕ). Fine row e m) (z ∙ sym (moves_to_none o.0 a.1 z)) fine)))
    (λ b. (b.0, subst (λ (z : ℕ). Fine row z u) b.1 (subst (Fine row d) b.2 f)))
    reach.1

-- A machine that has a copy can drain a code.
pub draining_trail : (k c i : ℕ) → OneToSix k → T (has i c) → (u m : Value)
    → Trail k (draining k c i) (state c u m) (state 0 u u)
draining_trail k c i o t u m = go (has k c) refl
  where
    go : (b : Bool) → has k c ≡ b → Trail k (one_if (not b) i ++ 0 ∷ []) (state c u m) (state 0 u u)
    go true e = writes (true→T e) none
    go false e =
        let apart : i ≢ k = λ q. T_not (has k c) (false→not e) (rw q at t) in
        let owned : T (has k (moved k i c)) =
        rw (has_moved k i k c o.0) (or_l (eqb k k) (not (eqb k i) && has k c) (eqb_refl k)) in
        moves i (and_i (not (eqb i k)) (has i c) (ne→test i k apart) t) (writes owned none)
