-- Machines 1 and k exchanged in each code of a mask, by a delta swap: two bits a distance apart, where they
-- differ, are both flipped.
use Prim.Native.Nat.{ℕ, ◌+◌, ◌-◌, ◌*◌, ◌/◌, ◌%◌, ◌^◌, ◌<◌}
use native.Mathlib.Omega.{arith}
use mathlib.Core.Path.{◌≡◌, sym, ap, ◌∙◌}
use mathlib.Core.Logic.Iff
use mathlib.Core.Logic.{◌↔◌}
use mathlib.Core.Bool.{Bool, true, false, cond, not, ◌&&◌, ◌||◌}
use lib.Dec.{T, T_not, eqb, eqb→eq}
use lib.Bits.{bit_and, bit_xor}
use lib.Pow.{shr-shr}
use Rattle.model.specs.Cxl0.{Machine, every_machine}
use Rattle.model.specs.Sharers.{has, insert, remove}
use Rattle.model.proofs.Tests.{by_test, T→true, not→false, and_l, and_r}
use Rattle.masks.specs.Sets.{In, Exactly, OneToSix}
use Rattle.masks.proofs.Sets.{in_and, in_shl}
use Rattle.masks.proofs.Constants.{every}
use Rattle.moves.specs.Exchange.{put, exchange}
use Rattle.moves.proofs.Bits.{bit, xor_bit, same_bit}
use Rattle.moves.proofs.Everywhere.{everywhere, holds}
use Rattle.moves.proofs.Exchange.{exchange_fits, exchange_exchange}

-- The bits of `low` where m differs from its bits s above.
abbrev flips : ℕ → ℕ → ℕ → ℕ
flips low s m = bit_and (bit_xor m (m / 2 ^ s)) low

-- The w-bit number m with its bits in `low` and those s above them exchanged.
abbrev pub swap : ℕ → ℕ → ℕ → ℕ → ℕ
swap w low s m = bit_xor (bit_xor m (flips low s m)) (flips low s m * 2 ^ s % 2 ^ w)

-- ---- codes

-- A code with machine 1 and without k rises by the distance where the two are exchanged.
abbrev pub rises : Machine → ℕ → Bool
rises k t = has 1 t && not (has k t)

abbrev pub distance : Machine → ℕ
distance k = insert k 0 - 1

-- What every code does, as tested: it rises, and where it comes to it rises no more, or it comes from a code
-- that rises, or it stays.
unfoldable goes : Machine → ℕ → Bool
goes k t =
    cond (rises k t)
    (eqb (exchange k t) (t + distance k) && not (rises k (exchange k t)))
    (rises k (exchange k t) || eqb (exchange k t) t)

all_go : T (everywhere goes)
unfolding every_machine every goes exchange put has insert remove
all_go = tt

-- A bit x of the mask, and y, that of the code's exchange. x is flipped where the bits differ and one of the two
-- codes rises, the code (a) or its exchange (b): so it becomes y. Where none rises, the bits are the same.
flipped : (a b : Bool) (x y : ℕ) → x < 2 → y < 2 → (T a → T (not b)) → (T (not a) → T (not b) → y ≡ x)
    → ((x + cond a ((x + y) % 2) 0) % 2 + cond b ((y + x) % 2) 0) % 2 ≡ y
flipped true true x y h l n e = absurd (n tt)
flipped true false x y h l n e = omega arith
flipped false true x y h l n e = omega arith
flipped false false x y h l n e = omega (arith, e tt tt)

module _ (k : Machine) (o : OneToSix k) where
  up : (t : ℕ) → t < 64 → T (rises k t) → (exchange k t ≡ t + distance k) × T (not (rises k (exchange k t)))
  unfolding goes
  up t h r =
      let to : Bool = eqb (exchange k t) (t + distance k) in
      let ends : Bool = not (rises k (exchange k t)) in
      let g = rw (T→true {b = rises k t} r) at (holds goes all_go k t o h) in
      (eqb→eq (exchange k t) (t + distance k) (and_l to ends g), and_r to ends g)

  stays : (t : ℕ) → t < 64 → T (not (rises k t)) → T (not (rises k (exchange k t))) → exchange k t ≡ t
  unfolding goes
  stays t h r q =
      eqb→eq (exchange k t) t
      (rw (not→false {b = rises k t} r, not→false {b = rises k (exchange k t)} q) at (holds goes all_go k t o h))

  -- ---- masks

  -- `low` has the codes that rise.
  module _ (m low : ℕ) (l : Exactly low (λ t. T (rises k t))) where
    -- The codes whose bit differs from that of the code a distance above, and those of them that rise.
    x : ℕ
    x = bit_xor m (m / 2 ^ distance k)

    d : ℕ
    d = flips low (distance k) m

    in_d : (t : ℕ) → t < 64 → In t d ↔ (In t x × T (rises k t))
    unfolding d x
    in_d t h = Iff.trans (in_and x low t) (Iff.and Iff.rfl (l t h))

    d_bit : (t : ℕ) → t < 64 → bit d t ≡ cond (rises k t) ((bit m t + bit m (exchange k t)) % 2) 0
    unfolding x
    d_bit t h = by_test (rises k t) there out
      where
        differs : T (rises k t) → bit x t ≡ (bit m t + bit m (exchange k t)) % 2
        differs r =
            let e : distance k + t ≡ exchange k t = omega (arith, (up t h r).0) in
            rw (xor_bit m (m / 2 ^ distance k) t, shr-shr m (distance k) t, e)

        there : T (rises k t) → bit d t ≡ cond (rises k t) ((bit m t + bit m (exchange k t)) % 2) 0
        there r =
            rw (T→true {b = rises k t} r)
            (same_bit d t x t (λ i. ((in_d t h).0 i).0, λ i. (in_d t h).1 (i, r)) ∙ differs r)

        out : T (not (rises k t)) → bit d t ≡ cond (rises k t) ((bit m t + bit m (exchange k t)) % 2) 0
        out r =
            let n : In t d → ⊥ = λ i. T_not (rises k t) r ((in_d t h).0 i).1 in
            rw (not→false {b = rises k t} r) (omega arith)

    -- Shifted up, d has the codes where those go.
    in_up : (t : ℕ) → t < 64 → In t (d * 2 ^ distance k % 2 ^ 64) ↔ In (exchange k t) d
    in_up t h = (there, back)
      where
        shift : In t (d * 2 ^ distance k % 2 ^ 64) ↔ ((c : ℕ) × (c + distance k ≡ t) × In c d)
        shift = in_shl 64 d (distance k) t h

        there : In t (d * 2 ^ distance k % 2 ^ 64) → In (exchange k t) d
        there i =
            let c = shift.0 i in
            let f : c.0 < 64 = omega (arith, c.1) in
            let e : exchange k c.0 ≡ t = (up c.0 f ((in_d c.0 f).0 c.2).1).0 ∙ c.1 in
            rw (← e, exchange_exchange k o c.0 f) c.2

        back : In (exchange k t) d → In t (d * 2 ^ distance k % 2 ^ 64)
        back i =
            let f = exchange_fits k t o h in
            let e = (up (exchange k t) f ((in_d (exchange k t) f).0 i).1).0 in
            shift.1 (exchange k t, sym e ∙ exchange_exchange k o t h, i)

    swap_bit : (t : ℕ) → t < 64 → bit (swap 64 low (distance k) m) t ≡ bit m (exchange k t)
    unfolding d
    swap_bit t h =
        let c = exchange k t in
        let u = d * 2 ^ distance k % 2 ^ 64 in
        rw (xor_bit (bit_xor m d) u t, xor_bit m d t, same_bit u t d c (in_up t h))
        (rw (d_bit t h, d_bit c (exchange_fits k t o h), exchange_exchange k o t h)
        (flipped (rises k t) (rises k c) (bit m t) (bit m c) (omega arith) (omega arith)
        (λ r. (up t h r).1) (λ r q. ap (bit m) (stays t h r q))))

    -- The swap exchanges machines 1 and k in each code of the mask.
    pub swapped : Exactly (swap 64 low (distance k) m) (λ t. In (exchange k t) m)
    swapped t h = rw (swap_bit t h) Iff.rfl
