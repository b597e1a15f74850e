-- From a code to one that moves reach: the machines that give up their copies, each moved once in rising
-- order, lead there.
use Prim.Native.Nat.{ℕ, zero, suc, ◌≤◌, ◌<◌}
use native.Mathlib.Nat.{eq-or-lt_of_le}
use native.Mathlib.Omega.{arith}
use mathlib.Core.Path.{◌≡◌, refl, sym, ◌∙◌}
use mathlib.Core.Logic.{◌≢◌, ◌↔◌, ⊎_elim}
use mathlib.Core.Bool.{Bool, true, false, not, ◌&&◌, ◌||◌}
use mathlib.Core.List.{append-nil}
use lib.Dec.{T, T_not, eqb, eqb→eq}
use lib.ListN.{length, length-append}
use borrow.Author.Tests.{eq-eqb, ne_eqb}
use Rattle.model.specs.Cxl0.{Machine, Value}
use Rattle.model.specs.Sharers.{has}
use Rattle.model.specs.OneLocation.{moved, Moves, stay, move}
use Rattle.model.proofs.Tests.{by_test, and_l, and_r, and_i, ne_test, ne→test}
use Rattle.model.proofs.Sharers.{has_bound}
use Rattle.model.proofs.SilentSteps.{has_moved}
use Rattle.masks.specs.Sets.{OneToSix}
use Rattle.masks.proofs.Codes.{moved_fits, moved_moved}
use Rattle.rows.specs.Rows.{state}
use Rattle.walking.specs.Trails.{Trail, none, moves, gives_up, leaving}
use Rattle.walking.proofs.Trails.{trail_append}
use Rattle.walking.proofs.StepWords.{one_if_few}

-- What it is to hold a copy that can move, and to give one up.
movable : (k c i : ℕ) → T (not (eqb i k) && has i c) ↔ ((i ≢ k) × T (has i c))
movable k c i = (
  λ t. (ne_test i k (and_l (not (eqb i k)) (has i c) t), and_r (not (eqb i k)) (has i c) t),
  λ p. and_i (not (eqb i k)) (has i c) (ne→test i k p.0) p.1,
)

gives : (k c d i : ℕ) → T (gives_up k c d i) ↔ ((i ≢ k) × T (has i c) × T (not (has i d)))
unfolding gives_up
gives k c d i =
    let other = not (eqb i k) in
    let held = has i c in
    let free = not (has i d) in (
      λ t.
          let g = and_r other (held && free) t in
          (ne_test i k (and_l other (held && free) t), and_l held free g, and_r held free g),
      λ g. and_i other (held && free) (ne→test i k g.0) (and_i held free g.1 g.2),
    )

-- A machine that holds no copy gives none up.
absent : (k c d i : ℕ) → T (not (has i c)) → T (not (gives_up k c d i))
absent k c d i n =
    by_test (gives_up k c d i) (λ t. absurd (T_not (has i c) n ((gives k c d i).0 t).1)) (λ t. t)

module _ {k : Machine} (o : OneToSix k) where
  -- Moves make no machine but the owner a holder.
  held : {c d : ℕ} → Moves k c d → (j : Machine) → j ≢ k → T (has j d) → T (has j c)
  held stay j n t = t
  held (move {c} i p r) j n t =
      and_r (not (eqb j i)) (has j c) (rw (has_moved k i j c o.0, ne_eqb j k n) at (held r j n t))

  -- Machine i's move makes no difference to who else gives up, and i has no copy to give up then.
  others : (i j c d : ℕ) → j ≢ i → gives_up k (moved k i c) d j ≡ gives_up k c d j
  unfolding gives_up
  others i j c d n = rw (has_moved k i j c o.0, ne_eqb j i n) (go (eqb j k) (has j c) (not (has j d)))
    where
      go : (b h g : Bool) → (not b && ((b || h) && g)) ≡ (not b && (h && g))
      go true h g = refl
      go false h g = refl

  itself : (i c : ℕ) → i ≢ k → has i (moved k i c) ≡ false
  itself i c n = rw (has_moved k i i c o.0, ne_eqb i k n, eq-eqb i i refl)

  -- Whoever gives up may move first.
  first : {c d : ℕ} → c < 64 → Moves k c d → (i : Machine) → T (gives_up k c d i) → Moves k (moved k i c) d
  first h (stay {c}) i t = let g = (gives k c c i).0 t in absurd (T_not (has i c) g.2 g.1)
  first h (move {c} {d} j p r) i t =
      by_test (eqb i j)
      (λ e. rw (← eqb→eq i j e) at r)
      (λ n.
      let apart = ne_test i j n in
      let q = (movable k c j).0 p in
      let s = first (moved_fits k j c o h) r i (rw (others j i c d apart) t) in
      let still : T (has j (moved k i c)) =
      rw (has_moved k i j c o.0, ne_eqb j k q.0, ne_eqb j i (λ e. apart (sym e))) q.1 in
      move j ((movable k (moved k i c) j).1 (q.0, still)) (rw (moved_moved k i c o h j) at s))

  -- Where nobody gives up, nothing has moved.
  unmoved : {c d : ℕ} → Moves k c d → ((i : Machine) → T (not (gives_up k c d i))) → c ≡ d
  unmoved stay n = refl
  unmoved (move {c} {d} i p r) n =
      let q = (movable k c i).0 p in
      let gone : T (not (has i d)) =
      by_test (has i d) (λ t. absurd (rw (itself i c q.0) at (held r i q.0 t))) (λ t. t) in
      absurd (T_not (gives_up k c d i) (n i) ((gives k c d i).1 (q.0, q.1, gone)))

-- Machines 1 to n have had their turn on the way from c to d: those that give up have moved, and nobody else.
record Halfway (k c d n : ℕ) : Type 0 where
  code : ℕ
  fits : code < 64
  trail : (u m : Value) → Trail k (leaving k c d n) (state c u m) (state code u m)
  onward : Moves k code d
  past : (j : Machine) → j ≤ n → T (not (gives_up k code d j))
  ahead : (j : Machine) → n < j → gives_up k code d j ≡ gives_up k c d j

-- Machine n + 1 has its turn.
pass : {k c d n : ℕ} → OneToSix k → Halfway k c d n
    → (b : Bool) → gives_up k c d (suc n) ≡ b → Halfway k c d (suc n)
unfolding leaving
pass {k} {c} {d} {n} o p true e =
    let i = suc n in
    let z = p.code in
    let now : T (gives_up k z d i) = rw (p.ahead i (omega arith), e) tt in
    let g = (gives k z d i).0 now in
    record {
      code = moved k i z;
      fits = moved_fits k i z o p.fits;
      trail = λ u m. rw e (trail_append (p.trail u m) (moves i ((movable k z i).1 (g.0, g.1)) none));
      onward = first o p.fits p.onward i now;
      past = λ j l. ⊎_elim
          (λ q. rw q (absent k (moved k i z) d i (rw (itself o i z g.0) tt)))
          (λ h. rw (others o i j z d (omega arith)) (p.past j (omega arith)))
          (eq-or-lt_of_le l);
      ahead = λ j l. others o i j z d (omega arith) ∙ p.ahead j (omega arith);
    }
pass {k} {c} {d} {n} o p false e =
    record {
      code = p.code;
      fits = p.fits;
      trail = λ u m. rw (e, append-nil (leaving k c d n)) (p.trail u m);
      onward = p.onward;
      past = λ j l. ⊎_elim
          (λ q. rw (q, p.ahead (suc n) (omega arith), e) tt)
          (λ h. p.past j (omega arith))
          (eq-or-lt_of_le l);
      ahead = λ j l. p.ahead j (omega arith);
    }

module _ {k c d : ℕ} (o : OneToSix k) (h : c < 64) (r : Moves k c d) where
  halfway : (n : ℕ) → Halfway k c d n
  unfolding leaving has
  halfway zero =
      record {
        code = c;
        fits = h;
        trail = λ u m. none;
        onward = r;
        past = λ j l. let z : j ≡ 0 = omega arith in absent k c d j (rw z tt);
        ahead = λ j l. refl;
      }
  halfway (suc n) = pass o (halfway n) (gives_up k c d (suc n)) refl

  -- The machines that give up lead from c to d.
  pub leaving_trail : (u m : Value) → Trail k (leaving k c d 6) (state c u m) (state d u m)
  leaving_trail u m =
      let p = halfway 6 in
      let z = p.code in
      let over : (i : Machine) → T (not (gives_up k z d i)) =
      λ i. by_test (has i z) (λ t. p.past i (has_bound 6 i z p.fits t).1) (absent k z d i) in
      rw (unmoved o p.onward over) at (p.trail u m)

-- There are at most so many.
pub leaving_few : (k c d n : ℕ) → length (leaving k c d n) ≤ n
unfolding leaving
leaving_few k c d zero = omega arith
leaving_few k c d (suc n) =
    rw length-append (omega (arith, leaving_few k c d n, one_if_few (gives_up k c d (suc n)) (suc n)))
