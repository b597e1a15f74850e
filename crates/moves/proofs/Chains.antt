-- A number of owner 1 has exactly the codes that chains of moves to owner 1 reach.
use Prim.Native.Nat.{ℕ, zero, suc, ◌^◌, ◌<◌}
use native.Mathlib.Nat.{not-suc-le-zero}
use native.Mathlib.Omega.{arith}
use mathlib.Core.Path.{◌≡◌, refl, sym, subst}
use mathlib.Core.Logic.{◌⊎◌, inl, inr, ⊎_elim, ◌↔◌}
use mathlib.Core.Bool.{not}
use lib.Dec.{T, T_not, eqb, eqb→eq, ltb→lt}
use lib.Bits.{bit_or}
use Rattle.model.specs.Cxl0.{Machine, every_machine}
use Rattle.model.specs.Sharers.{has, remove}
use Rattle.model.specs.OneLocation.{movable, moved, Moves, stay, move}
use Rattle.model.proofs.Tests.{and_r, or_cases}
use Rattle.model.proofs.Machines.{every_e as every-machine}
use Rattle.model.proofs.Sharers.{has_bound}
use Rattle.masks.specs.Sets.{In, OneToSix}
use Rattle.masks.proofs.Sets.{in_or}
use Rattle.masks.proofs.Codes.{moved_fits}
use Rattle.masks.proofs.Constants.{every_e}
use Rattle.moves.proofs.Unions.{in_if, in_power, union, union_e, union_i}
use Rattle.moves.proofs.Table.{entry, ahead, closed, all_closed, falls, all_fall}

-- Code t is in the number that a move of machine i leads to.
abbrev Ahead : ℕ → ℕ → Machine → Type 0
Ahead c t i = T (movable 1 i c) × In t (entry (moved 1 i c))

module _ (c : ℕ) (b : c < 64) where
  rule : entry c ≡ bit_or (2 ^ c) (union 6 (ahead c))
  unfolding closed
  rule = eqb→eq _ _ (every_e 64 closed all_closed c b)

  -- A machine that can move is one of the six.
  mover : (i : Machine) → T (movable 1 i c) → OneToSix i
  mover i q = has_bound 6 i c b (and_r (not (eqb i 1)) (has i c) q)

  less : (i : Machine) → T (movable 1 i c) → remove 1 (moved 1 i c) < remove 1 c
  unfolding falls
  less i q =
      let m = mover i q in
      let all = every_e 64 (λ c. every_machine 6 (falls c)) all_fall c b in
      ⊎_elim (λ n. absurd (T_not (movable 1 i c) n q)) (ltb→lt (remove 1 (moved 1 i c)) (remove 1 c))
      (or_cases (not (movable 1 i c)) _ (every-machine 6 (falls c) all i m.0 m.1))

  -- The rule as a law: a code is in the number for c exactly if it is c or in a number one move ahead.
  step : (t : ℕ) → In t (entry c) ↔ ((t ≡ c) ⊎ ((i : Machine) × Ahead c t i))
  step t = (
    λ p.
        ⊎_elim (λ q. inl ((in_power c t).0 q)) (λ q. inr (there q))
        ((in_or (2 ^ c) rest t).0 (subst (In t) rule p)),
    λ s.
        rw rule
        ((in_or (2 ^ c) rest t).1 (⊎_elim (λ e. inl ((in_power c t).1 e)) (λ a. inr (back a)) s)),
  )
    where
      rest : ℕ
      rest = union 6 (ahead c)

      there : In t rest → (i : Machine) × Ahead c t i
      there q =
          let a = union_e 6 (ahead c) t q in
          (a.0, (in_if (movable 1 a.0 c) (entry (moved 1 a.0 c)) t).0 a.1)

      back : ((i : Machine) × Ahead c t i) → In t rest
      back (i, a) =
          let m = mover i a.0 in
          union_i 6 (ahead c) t i m.0 m.1 ((in_if (movable 1 i c) (entry (moved 1 i c)) t).1 a)

-- Every code of a number is reached by a chain of moves. The bound f falls with the code without the owner.
sound : (f c t : ℕ) → remove 1 c < f → c < 64 → In t (entry c) → Moves 1 c t
sound zero c t u b p = absurd (not-suc-le-zero u)
sound (suc f) c t u b p =
    ⊎_elim
    (λ e. subst (Moves 1 c) (sym e) stay)
    (λ a.
    let i = a.0 in
    let v = less c b i a.1.0 in
    move i a.1.0 (sound f (moved 1 i c) t (omega arith) (moved_fits 1 i c (omega arith) b) a.1.1))
    ((step c b t).0 p)

-- Every code that a chain of moves reaches is in the number.
complete : {c t : ℕ} → c < 64 → Moves 1 c t → In t (entry c)
complete b (stay {c}) = (step c b c).1 (inl refl)
complete {t} b (move {c} i q r) = (step c b t).1 (inr (i, (q, complete (moved_fits 1 i c (omega arith) b) r)))

pub chains : (c t : ℕ) → c < 64 → In t (entry c) ↔ Moves 1 c t
chains c t b = (sound (suc (remove 1 c)) c t (omega arith) b, complete b)
