-- Steps of one location after n events: they are in order, and words hold them, which are stored machine by
-- machine.
use Prim.Native.Nat.{ℕ, ◌+◌, ◌*◌, ◌/◌, ◌%◌, ◌≤◌, ◌<◌}
use native.Mathlib.Omega.{arith}
use mathlib.Core.Path.{◌≡◌, refl, ap}
use mathlib.Core.Logic.{⊎_elim}
use mathlib.Core.Bool.{Bool, true, false}
use mathlib.Core.List.{List, [], ◌∷◌, ◌++◌, map, map-append}
use mathlib.Core.List.Memᴰ
use mathlib.Core.List.{Memᴰ}
use lib.Dec.{T}
use lib.ListN.{length}
use Rattle.model.specs.Cxl0.{Machine}
use Rattle.model.specs.Schedule.{Step, in_order}
use Rattle.model.specs.Words.{step_of_word}
use Rattle.model.proofs.Weaving.{in_order_cons}
use Rattle.scratch.specs.Stored.{Stored}
use Rattle.walking.specs.Trails.{one_if, step_at, word_of}
use Rattle.scratch.proofs.Stored.{stored_more}

pub at_in_order : (n m x : ℕ) (is : List Machine) → n ≤ m → T (in_order n m (map (step_at n x) is))
unfolding in_order
at_in_order n m x [] h = tt
at_in_order n m x (i ∷ is) h =
    (in_order_cons n m (step_at n x i) (map (step_at n x) is)).1 (omega arith, h, at_in_order n m x is h)

pub at_own : (n x : ℕ) (is : List Machine) (p : Step) → Memᴰ p (map (step_at n x) is) → p.location ≡ x
at_own n x [] p m = absurd (Memᴰ.not-nil m)
at_own n x (i ∷ is) p m = ⊎_elim (ap (λ (q : Step). q.location)) (at_own n x is p) (Memᴰ.cases_cons m)

pub at_before : (n x : ℕ) (is : List Machine) (p : Step) → Memᴰ p (map (step_at n x) is) → p.before ≡ n
at_before n x [] p m = absurd (Memᴰ.not-nil m)
at_before n x (i ∷ is) p m =
    ⊎_elim (ap (λ (q : Step). q.before)) (at_before n x is p) (Memᴰ.cases_cons m)

-- The word of a step holds it.
word_step : (n x i : ℕ) → n < 256 → x < 256 → step_of_word (word_of n x i) ≡ step_at n x i
unfolding step_of_word
word_step n x i l h =
    let v = word_of n x i in
    let before : v % 256 ≡ n = omega arith in
    let high : v / 256 ≡ x + 256 * i = omega arith in
    let location : v / 256 % 256 ≡ x = rw high (omega arith) in
    let machine : v / 65536 ≡ i = omega arith in
    λ j. record { before = before j; location = location j; machine = machine j }

pub word_steps : (n x : ℕ) (is : List Machine) → n < 256 → x < 256
    → map step_of_word (map (word_of n x) is) ≡ map (step_at n x) is
word_steps n x [] l h = refl
word_steps n x (i ∷ is) l h = rw (word_step n x i l h, word_steps n x is l h)

-- The word of one machine more is stored, if it passes a test.
pub stored_if : (f : Machine → ℕ) (is : List Machine) (b : Bool) (i : Machine)
    → {w s r : List ℕ} {at to next : ℕ} → Stored w at (map f is) s to → Stored s to (one_if b (f i)) r next
    → Stored w at (map f (is ++ one_if b i)) r next
stored_if f is b i p q = rw (map-append f is (one_if b i), one b) (stored_more p q)
  where
    one : (b : Bool) → map f (one_if b i) ≡ one_if b (f i)
    one true = refl
    one false = refl

pub one_if_few : (b : Bool) (n : ℕ) → length (one_if b n) ≤ 1
one_if_few true n = omega arith
one_if_few false n = omega arith
