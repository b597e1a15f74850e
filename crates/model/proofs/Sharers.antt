-- Laws of the codes of sets of machines: membership after `insert` and `remove`, the empty set, and bounds.
use Prim.Native.Nat.{ℕ, zero, suc, ◌+◌, ◌-◌, ◌*◌, ◌/◌, ◌%◌, ◌^◌, ◌≤◌, ◌<◌, min}
use native.Mathlib.Nat.{pow-suc, le_of_suc-le-suc, not-suc-le-zero, sub-le}
use native.Mathlib.Omega.{arith}
use mathlib.Core.Path.{◌≡◌, refl, subst}
use mathlib.Core.Logic.{◌≢◌}
use mathlib.Core.Bool.{Bool, false, not, ◌&&◌, ◌||◌}
use lib.Dec.{T, eqb, eqb-zero-suc, eqb-suc-zero, eqb-suc-suc, eqb→eq}
use lib.Bits.{bit_and, and_step, and_le_l}
use Rattle.model.specs.Cxl0.{Machine, some_machine}
use Rattle.model.specs.Sharers.{has, insert, remove, remove_all}
use Rattle.model.proofs.Tests.{by_test, ne_test, ne→test, same_test}
use Rattle.model.proofs.Machines.{some_i, some_e}

-- The lowest bit of a sum whose first part is even, and what is above it.
low : (q r : ℕ) → r < 2 → (2 * q + r) % 2 ≡ r
low q r h = omega arith

high : (q r : ℕ) → r < 2 → (2 * q + r) / 2 ≡ q
high q r h = omega arith

even_low : (q : ℕ) → (2 * q) % 2 ≡ 0
even_low q = omega arith

even_high : (q : ℕ) → (2 * q) / 2 ≡ q
even_high q = omega arith

bit : (c : ℕ) → c % 2 < 2
bit c = omega arith

-- Machine j is in the set with machine i, if it is i or was in the set.
pub has_insert : (i j : Machine) (c : ℕ) → has j (insert (suc i) c) ≡ (eqb j (suc i) || has j c)
unfolding has insert
has_insert zero zero c = refl
has_insert (suc i) zero c = rw eqb-zero-suc
has_insert zero (suc zero) c = rw (low (c / 2) 1 (omega arith))
has_insert zero (suc (suc j)) c = rw (high (c / 2) 1 (omega arith), eqb-suc-suc, eqb-suc-zero)
has_insert (suc i) (suc zero) c =
    rw (low (insert (suc i) (c / 2)) (c % 2) (bit c), eqb-suc-suc, eqb-zero-suc)
has_insert (suc i) (suc (suc j)) c =
    rw (high (insert (suc i) (c / 2)) (c % 2) (bit c), eqb-suc-suc) (has_insert i (suc j) (c / 2))

-- Machine j is in the set without machine i, if it is not i and was in the set.
pub has_remove : (i j : Machine) (c : ℕ) → has j (remove i c) ≡ (not (eqb j i) && has j c)
unfolding has remove
has_remove zero zero c = refl
has_remove zero (suc j) c = rw eqb-suc-zero
has_remove (suc i) zero c = rw eqb-zero-suc
has_remove (suc zero) (suc zero) c = rw (even_low (c / 2))
has_remove (suc zero) (suc (suc j)) c = rw (even_high (c / 2), eqb-suc-suc, eqb-suc-zero)
has_remove (suc (suc i)) (suc zero) c =
    rw (low (remove (suc i) (c / 2)) (c % 2) (bit c), eqb-suc-suc, eqb-zero-suc)
has_remove (suc (suc i)) (suc (suc j)) c =
    rw (high (remove (suc i) (c / 2)) (c % 2) (bit c), eqb-suc-suc) (has_remove (suc i) (suc j) (c / 2))

-- The lowest bit of a set without those of another, and the bits above it.
pub all_low : (d c : ℕ) → remove_all d c % 2 ≡ c % 2 - min (c % 2) (d % 2)
unfolding remove_all
all_low d c = omega (arith, and_step c d, and_le_l (c / 2) (d / 2))

pub all_high : (d c : ℕ) → remove_all d c / 2 ≡ remove_all (d / 2) (c / 2)
unfolding remove_all
all_high d c = omega (arith, and_step c d, and_le_l (c / 2) (d / 2))

lost_bit : (a b : ℕ) → a < 2 → b < 2 → eqb (a - min a b) 1 ≡ (not (eqb b 1) && eqb a 1)
lost_bit zero zero h k = refl
lost_bit zero (suc zero) h k = refl
lost_bit (suc zero) zero h k = refl
lost_bit (suc zero) (suc zero) h k = refl
lost_bit zero (suc (suc b)) h k = absurd (omega arith)
lost_bit (suc zero) (suc (suc b)) h k = absurd (omega arith)
lost_bit (suc (suc a)) b h k = absurd (omega arith)

-- Machine j is in the set without those of another, if it is in the one and not in the other.
pub has_remove_all : (d j c : ℕ) → has j (remove_all d c) ≡ (not (has j d) && has j c)
unfolding has
has_remove_all d zero c = refl
has_remove_all d (suc zero) c = rw (all_low d c) (lost_bit (c % 2) (d % 2) (bit c) (bit d))
has_remove_all d (suc (suc j)) c = rw (all_high d c) (has_remove_all (d / 2) (suc j) (c / 2))

-- No machine is in the set whose code is 0.
pub has_none : (j : Machine) → has j 0 ≡ false
unfolding has
has_none zero = refl
has_none (suc zero) = refl
has_none (suc (suc j)) = has_none (suc j)

-- A code with bits for machines 1 to n is below 2 ^ n, and halves to one below 2 ^ (n - 1).
half_bound : (n c : ℕ) → c < 2 ^ suc n → c / 2 < 2 ^ n
half_bound n c h = let p : 2 ^ suc n ≡ 2 ^ n * 2 = pow-suc 2 n in omega arith

join_bound : (n q r : ℕ) → q < 2 ^ n → r < 2 → 2 * q + r < 2 ^ suc n
join_bound n q r h b = let p : 2 ^ suc n ≡ 2 ^ n * 2 = pow-suc 2 n in omega arith

-- Machine i's code stays among those of machines 1 to n, if i is one of them.
pub insert_bound : (n i : ℕ) (c : ℕ) → i < n → c < 2 ^ n → insert (suc i) c < 2 ^ n
unfolding insert
insert_bound zero i c k h = absurd (not-suc-le-zero k)
insert_bound (suc n) zero c k h = join_bound n (c / 2) 1 (half_bound n c h) (omega arith)
insert_bound (suc n) (suc i) c k h =
    join_bound n (insert (suc i) (c / 2)) (c % 2)
    (insert_bound n i (c / 2) (le_of_suc-le-suc k) (half_bound n c h))
    (bit c)

-- A set without a machine has no greater code.
pub remove_le : (i : Machine) (c : ℕ) → remove i c ≤ c
unfolding remove
remove_le zero c = omega arith
remove_le (suc zero) c = omega arith
remove_le (suc (suc i)) c = omega (arith, remove_le (suc i) (c / 2))

pub remove_all_le : (d c : ℕ) → remove_all d c ≤ c
unfolding remove_all
remove_all_le d c = sub-le c (bit_and c d)

-- A member of a set of machines 1 to n is one of them.
pub has_bound : (n i c : ℕ) → c < 2 ^ n → T (has i c) → (1 ≤ i) × (i ≤ n)
unfolding has
has_bound n zero c h t = absurd t
has_bound zero (suc i) c h t =
    let z : c ≡ 0 = omega arith in
    absurd (subst T (has_none (suc i)) (subst (λ (d : ℕ). T (has (suc i) d)) z t))
has_bound (suc n) (suc zero) c h t = omega arith
has_bound (suc n) (suc (suc i)) c h t =
    let b = has_bound n (suc i) (c / 2) (half_bound n c h) t in
    omega arith

-- A set that is not empty has a member.
pub member : (n c : ℕ) → c < 2 ^ n → c ≢ 0 → (i : Machine) × (i < n) × T (has (suc i) c)
unfolding has
member zero c h z = let e : c ≡ 0 = omega arith in absurd (z e)
member (suc n) c h z =
    by_test (eqb (c % 2) 1)
    (λ t. (0, omega arith, t))
    (λ t.
    let odd = ne_test (c % 2) 1 t in
    let above : c / 2 ≢ 0 = λ e. z (omega arith) in
    let m = member n (c / 2) (half_bound n c h) above in
    (suc m.0, omega (arith, m.1), m.2))

below_pow : (n : ℕ) → n < 2 ^ n
below_pow zero = omega arith
below_pow (suc n) = let p : 2 ^ suc n ≡ 2 ^ n * 2 = pow-suc 2 n in omega (arith, below_pow n)

above_one : (c : ℕ) (j : Machine) → T (has j (c / 2)) → T (has (suc j) c)
unfolding has
above_one c zero t = absurd t
above_one c (suc j) t = t

-- A set whose members are all among machines 1 to n has no bit above theirs.
pub members_bound : (n c : ℕ) → ((j : Machine) → T (has j c) → j ≤ n) → c < 2 ^ n
members_bound zero c f =
    by_test (eqb c 0)
    (λ t. omega (arith, eqb→eq c 0 t))
    (λ t. let m = member c c (below_pow c) (ne_test c 0 t) in absurd (omega (arith, f (suc m.0) m.2)))
members_bound (suc n) c f =
    let half = members_bound n (c / 2) (λ j t. le_of_suc-le-suc (f (suc j) (above_one c j t))) in
    let p : 2 ^ suc n ≡ 2 ^ n * 2 = pow-suc 2 n in
    omega (arith, half)

-- Some machine holds a copy exactly where the code is not 0.
pub some_has : (n c : ℕ) → c < 2 ^ n → some_machine n (λ j. has j c) ≡ not (eqb c 0)
some_has n c h =
    same_test (some_machine n (λ j. has j c)) (not (eqb c 0))
    (λ t.
    let m = some_e n (λ j. has j c) t in
    ne→test c 0 (λ e. absurd (subst T (has_none m.0) (subst (λ (d : ℕ). T (has m.0 d)) e m.3))))
    (λ t.
    let m = member n c h (ne_test c 0 t) in
    some_i n (λ j. has j c) (suc m.0) (omega arith) (omega (arith, m.1)) m.2)

low_bit : (c d : ℕ) → eqb (c % 2) 1 ≡ eqb (d % 2) 1 → c % 2 ≡ d % 2
low_bit c d e =
    by_test (eqb (c % 2) 1)
    (λ t. omega (arith, eqb→eq (c % 2) 1 t, eqb→eq (d % 2) 1 (subst T e t)))
    (λ t. omega (arith, ne_test (c % 2) 1 t, ne_test (d % 2) 1 (subst (λ (b : Bool). T (not b)) e t)))

above : (n c d : ℕ) → ((i : Machine) → has i c ≡ has i d) → (i : Machine) → has i (c / 2) ≡ has i (d / 2)
unfolding has
above n c d e zero = refl
above n c d e (suc i) = e (suc (suc i))

-- Two sets of machines 1 to n with the same members have the same code.
pub same_code : (n c d : ℕ) → c < 2 ^ n → d < 2 ^ n → ((i : Machine) → has i c ≡ has i d) → c ≡ d
unfolding has
same_code zero c d h k e = omega arith
same_code (suc n) c d h k e =
    let q = same_code n (c / 2) (d / 2) (half_bound n c h) (half_bound n d k) (above n c d e) in
    let r = low_bit c d (e 1) in
    omega arith
