-- Machines 1 and k exchanged: which machines are then in a set, and what becomes of a chain of moves.
use Prim.Native.Nat.{ℕ, ◌≤◌, ◌<◌}
use native.Mathlib.Omega.{arith}
use mathlib.Core.Path.{◌≡◌, refl, sym, ap, ◌∙◌}
use mathlib.Core.Logic.{◌↔◌}
use mathlib.Core.Bool.{Bool, true, false, cond, not, ◌&&◌, ◌||◌}
use borrow.Author.Tests.{eq-eqb, ne_eqb}
use lib.Dec.{T, eqb, eqb→eq}
use lib.Ieee.Fits.{eq→eqb}
use Rattle.model.specs.Cxl0.{Machine}
use Rattle.model.specs.Sharers.{has}
use Rattle.model.specs.OneLocation.{movable, moved, Moves, stay, move}
use Rattle.model.proofs.Tests.{by_test, ne_test, same_test}
use Rattle.model.proofs.Sharers.{has_remove, remove_le, same_code}
use Rattle.model.proofs.Expand.{has_insert_of}
use Rattle.model.proofs.SilentSteps.{has_moved}
use Rattle.masks.specs.Sets.{OneToSix}
use Rattle.masks.proofs.Codes.{insert_fits, moved_fits}
use Rattle.moves.specs.Exchange.{put, exchange}

-- The machine that takes i's place where machines 1 and k are exchanged.
abbrev partner : Machine → Machine → Machine
partner k i = cond (eqb i 1) k (cond (eqb i k) 1 i)

-- ---- machines

partner_k : (k : Machine) → partner k k ≡ 1
partner_k k =
    by_test (eqb k 1)
    (λ t. rw (eqb→eq k 1 t))
    (λ t. rw (ne_eqb k 1 (ne_test k 1 t), eq-eqb k k refl))

partner_other : (k i : Machine) → T (not (eqb i 1)) → T (not (eqb i k)) → partner k i ≡ i
partner_other k i a b = rw (ne_eqb i 1 (ne_test i 1 a), ne_eqb i k (ne_test i k b))

-- i is its partner's partner.
partner_partner : (k i : Machine) → partner k (partner k i) ≡ i
partner_partner k i =
    by_test (eqb i 1)
    (λ t. rw (eqb→eq i 1 t) (partner_k k))
    (λ a.
    by_test (eqb i k)
    (λ t. rw (eqb→eq i k t) (ap (partner k) (partner_k k)))
    (λ b. ap (partner k) (partner_other k i a b) ∙ partner_other k i a b))

-- So machine i is j's partner exactly if j is i's.
partner_eqb : (k i j : Machine) → eqb i (partner k j) ≡ eqb (partner k i) j
partner_eqb k i j =
    same_test (eqb i (partner k j)) (eqb (partner k i) j)
    (λ t. eq→eqb (ap (partner k) (eqb→eq i (partner k j) t) ∙ partner_partner k j))
    (λ t. eq→eqb (sym (partner_partner k i) ∙ ap (partner k) (eqb→eq (partner k i) j t)))

-- ---- sets

has_put : (i j : Machine) (b : Bool) (c : ℕ) → 1 ≤ i → has j (put i b c) ≡ cond (eqb j i) b (has j c)
unfolding put
has_put i j true c l = rw (has_insert_of i j c l) (go (eqb j i))
  where
    go : (a : Bool) → (a || has j c) ≡ cond a true (has j c)
    go true = refl
    go false = refl
has_put i j false c l = rw (has_remove i j c) (go (eqb j i))
  where
    go : (a : Bool) → (not a && has j c) ≡ cond a false (has j c)
    go true = refl
    go false = refl

-- What the exchange means: a machine is in the set exactly if its partner was.
has_exchange : (k i : Machine) (c : ℕ) → 1 ≤ k → has i (exchange k c) ≡ has (partner k i) c
unfolding exchange
has_exchange k i c l =
    rw (has_put 1 i (has k c) (put k (has 1 c) c) (omega arith), has_put k i (has 1 c) c l)
    (go (eqb i 1) (eqb i k))
  where
    go : (a b : Bool) → cond a (has k c) (cond b (has 1 c) (has i c)) ≡ has (cond a k (cond b 1 i)) c
    go true b = refl
    go false true = refl
    go false false = refl

put_fits : (i : Machine) (b : Bool) (c : ℕ) → OneToSix i → c < 64 → put i b c < 64
unfolding put
put_fits i true c o h = insert_fits i c o h
put_fits i false c o h = omega (arith, remove_le i c)

pub exchange_fits : (k : Machine) (c : ℕ) → OneToSix k → c < 64 → exchange k c < 64
unfolding exchange
exchange_fits k c o h = put_fits 1 (has k c) (put k (has 1 c) c) (omega arith) (put_fits k (has 1 c) c o h)

-- ---- chains of moves

module _ (k : Machine) (o : OneToSix k) where
  -- It too is its own inverse.
  pub exchange_exchange : (c : ℕ) → c < 64 → exchange k (exchange k c) ≡ c
  exchange_exchange c h =
      same_code 6 (exchange k (exchange k c)) c (exchange_fits k (exchange k c) o (exchange_fits k c o h)) h
      (λ i.
      rw (has_exchange k i (exchange k c) o.0, has_exchange k (partner k i) c o.0, partner_partner k i))

  module _ (j : Machine) (p : OneToSix j) (q : OneToSix (partner k j)) where
    -- A move of machine i to owner j becomes a move of i's partner to j's: it can be made, and leads there.
    exchange_movable : (i : Machine) (c : ℕ)
        → movable j i c ≡ movable (partner k j) (partner k i) (exchange k c)
    exchange_movable i c =
        rw (has_exchange k (partner k i) c o.0, partner_eqb k (partner k i) j, partner_partner k i)

    exchange_moved : (i : Machine) (c : ℕ) → c < 64
        → exchange k (moved j i c) ≡ moved (partner k j) (partner k i) (exchange k c)
    exchange_moved i c h =
        same_code 6 (exchange k (moved j i c)) (moved (partner k j) (partner k i) (exchange k c))
        (exchange_fits k (moved j i c) o (moved_fits j i c p h))
        (moved_fits (partner k j) (partner k i) (exchange k c) q (exchange_fits k c o h))
        (λ m.
        rw (has_exchange k m (moved j i c) o.0, has_moved j i (partner k m) c p.0)
        (rw (has_moved (partner k j) (partner k i) m (exchange k c) q.0, has_exchange k m c o.0)
        (rw (partner_eqb k m j, partner_eqb k m i))))

    -- A chain of moves to owner j becomes a chain of moves to j's partner.
    exchange_moves : {c t : ℕ} → c < 64 → Moves j c t → Moves (partner k j) (exchange k c) (exchange k t)
    exchange_moves h stay = stay
    exchange_moves h (move {c} i u r) =
        move (partner k i) (rw (exchange_movable i c) at u)
        (rw (exchange_moved i c h) at (exchange_moves (moved_fits j i c p h) r))

  -- Moves to owner k are moves to owner 1 with machines 1 and k exchanged.
  pub moves_exchanged : {c t : ℕ} → c < 64 → t < 64 → Moves k c t ↔ Moves 1 (exchange k c) (exchange k t)
  moves_exchanged {c} {t} h b = (there, back)
    where
      there : Moves k c t → Moves 1 (exchange k c) (exchange k t)
      there m = rw (partner_k k) at (exchange_moves k o (rw (partner_k k) (omega arith)) h m)

      back : Moves 1 (exchange k c) (exchange k t) → Moves k c t
      back m =
          rw (exchange_exchange c h, exchange_exchange t b)
          at (exchange_moves 1 (omega arith) o (exchange_fits k c o h) m)
