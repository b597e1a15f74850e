-- The codes of sets of machines, by operations on bits. Machine i's bit is the code of the set of i alone.
use Prim.Native.Nat.{ℕ, zero, suc, ◌+◌, ◌-◌, ◌*◌, ◌/◌, ◌%◌, ◌^◌, ◌≤◌, ◌<◌, min}
use native.Mathlib.Numerals.{sub-one}
use native.Mathlib.Nat.{one-mul, pow-suc, le_of_suc-le-suc, lt_of_le_of_lt, lt_of_lt_of_le, mod-eq_of_lt}
use native.Mathlib.Omega.{arith}
use mathlib.Core.Path.{◌≡◌, refl, sym, ap, ◌∙◌}
use mathlib.Core.Bool.{true, not, not-not}
use borrow.Author.Tests.{lt-ltb, le-leb}
use lib.Dec.{eqb, ltb, eqb→eq, ltb→lt, nltb→le}
use lib.Bits.{bit_and, bit_or, and_step, or_step, and_zero_r, or_zero_r, and_mask, and_le_l, and_mod, or_mod}
use lib.Ieee.Fits.{eq→eqb}
use lib.Pow.{pow_pos, pow_mono, pow-lt, pow-add}
use Rattle.model.specs.Cxl0.{Machine}
use Rattle.model.specs.Sharers.{has, insert, remove, remove_all}
use Rattle.model.proofs.Tests.{same_test, by_test}
use Rattle.model.proofs.Sharers.{all_low, all_high}

-- The set of one machine has one bit.
alone_pow : (k : ℕ) → insert (suc k) 0 ≡ 2 ^ k
unfolding insert
alone_pow zero = refl
alone_pow (suc k) = let p : 2 ^ suc k ≡ 2 ^ k * 2 = pow-suc 2 k in omega (arith, alone_pow k)

half_pow : (k : ℕ) → 2 ^ suc k / 2 ≡ 2 ^ k
half_pow k = let p : 2 ^ suc k ≡ 2 ^ k * 2 = pow-suc 2 k in omega arith

even_pow : (k : ℕ) → 2 ^ suc k % 2 ≡ 0
even_pow k = let p : 2 ^ suc k ≡ 2 ^ k * 2 = pow-suc 2 k in omega arith

-- One more machine is one more bit.
insert_or : (k c : ℕ) → insert (suc k) c ≡ bit_or c (2 ^ k)
unfolding insert
insert_or zero c = rw (or_step c 1, or_zero_r (c / 2)) (omega arith)
insert_or (suc k) c =
    rw (or_step c (2 ^ suc k), half_pow k, even_pow k, ← insert_or k (c / 2)) (omega arith)

one_test : (b : ℕ) → b < 2 → eqb b 1 ≡ not (eqb b 0)
one_test zero h = refl
one_test (suc zero) h = refl
one_test (suc (suc b)) h = absurd (omega arith)

double_test : (m r : ℕ) → eqb m 0 ≡ eqb (m * 2 + min r 0) 0
double_test m r =
    same_test (eqb m 0) (eqb (m * 2 + min r 0) 0)
    (λ t. let e = eqb→eq m 0 t in eq→eqb {a = m * 2 + min r 0} {b = 0} (omega arith))
    (λ t. let e = eqb→eq (m * 2 + min r 0) 0 t in eq→eqb {a = m} {b = 0} (omega arith))

-- A machine is in the set if its bit is set.
has_and : (k c : ℕ) → has (suc k) c ≡ not (eqb (bit_and c (2 ^ k)) 0)
unfolding has
has_and zero c = rw (and_mask c 1) (one_test (c % 2) (omega arith))
has_and (suc k) c =
    rw (and_step c (2 ^ suc k), half_pow k, even_pow k)
    (has_and k (c / 2) ∙ ap not (double_test (bit_and (c / 2) (2 ^ k)) (c % 2)))

-- One machine less is one bit less: among w machines, the others' bits stay.
remove_and : (w k c : ℕ) → c < 2 ^ w → k < w → remove (suc k) c ≡ bit_and c (2 ^ w - 1 - 2 ^ k)
unfolding remove
remove_and zero k c h l = omega arith
remove_and (suc w) zero c h l =
    let p : 2 ^ suc w ≡ 2 ^ w * 2 = pow-suc 2 w in
    let q = pow_pos w in
    let e : (2 ^ suc w - 1 - 1) / 2 ≡ 2 ^ w - 1 = omega arith in
    let o : (2 ^ suc w - 1 - 1) % 2 ≡ 0 = omega arith in
    let m : c / 2 % 2 ^ w ≡ c / 2 = mod-eq_of_lt (omega arith) in
    rw (and_step c (2 ^ suc w - 1 - 1), e, o, and_mask (c / 2) w, m) (omega arith)
remove_and (suc w) (suc k) c h l =
    let p : 2 ^ suc w ≡ 2 ^ w * 2 = pow-suc 2 w in
    let q : 2 ^ suc k ≡ 2 ^ k * 2 = pow-suc 2 k in
    let b = pow-lt (le_of_suc-le-suc l) in
    let e : (2 ^ suc w - 1 - 2 ^ suc k) / 2 ≡ 2 ^ w - 1 - 2 ^ k = omega arith in
    let o : (2 ^ suc w - 1 - 2 ^ suc k) % 2 ≡ 1 = omega arith in
    let r = remove_and w k (c / 2) (omega arith) (le_of_suc-le-suc l) in
    rw (and_step c (2 ^ suc w - 1 - 2 ^ suc k), e, o, ← r) (omega arith)

kept_bit : (a b : ℕ) → a < 2 → b < 2 → a - min a b ≡ min a (1 - b)
kept_bit a b h l = omega arith

by_parts : (c : ℕ) {q r : ℕ} → c / 2 ≡ q → c % 2 ≡ r → c ≡ q * 2 + r
by_parts c e o = omega arith

-- Without the machines of the set d: among w machines, the bits that d does not have stay.
remove_all_and : (w d c : ℕ) → c < 2 ^ w → d < 2 ^ w → remove_all d c ≡ bit_and c (2 ^ w - 1 - d)
unfolding remove_all
remove_all_and zero d c h l = let z : c ≡ 0 = omega arith in rw z refl
remove_all_and (suc w) d c h l =
    let p : 2 ^ suc w ≡ 2 ^ w * 2 = pow-suc 2 w in
    let e : (2 ^ suc w - 1 - d) / 2 ≡ 2 ^ w - 1 - d / 2 = omega arith in
    let o : (2 ^ suc w - 1 - d) % 2 ≡ 1 - d % 2 = omega arith in
    let r = remove_all_and w (d / 2) (c / 2) (omega arith) (omega arith) in
    rw (and_step c (2 ^ suc w - 1 - d), e, o, ← r)
    (by_parts (remove_all d c) (all_high d c) (all_low d c ∙ kept_bit (c % 2) (d % 2) (omega arith) (omega arith)))

-- A machine above those of the set is not in it.
remove_above : (k c : ℕ) → c < 2 ^ k → remove (suc k) c ≡ c
unfolding remove
remove_above zero c h = omega arith
remove_above (suc k) c h =
    let p : 2 ^ suc k ≡ 2 ^ k * 2 = pow-suc 2 k in
    omega (arith, remove_above k (c / 2) (omega arith))

-- In a byte, where machines above 8 have no bit.

high_bit : (k : ℕ) → 8 ≤ k → 2 ^ k % 256 ≡ 0
high_bit k l =
    let e : k - 8 + 8 ≡ k = omega arith in
    let p : 2 ^ k ≡ 2 ^ (k - 8) * 2 ^ 8 = rw e at (pow-add 2 (k - 8) 8) in
    omega arith

-- The bit of machine i is 1 shifted by i - 1; machine 0 and the machines above 8 have none.
pub bit_byte : (i : Machine) → 1 ≤ i → 1 * 2 ^ (i - 1) % 256 ≡ insert i 0 % 256
bit_byte zero h = absurd (omega arith)
bit_byte (suc k) h = rw (sub-one (suc k), one-mul, alone_pow k)

pub no_bit : (i : Machine) → i < 1 → 0 ≡ insert i 0 % 256
unfolding insert
no_bit zero h = refl
no_bit (suc k) h = absurd (omega arith)

pub no_bit_above : (i : Machine) → 9 ≤ i → 0 ≡ insert i 0 % 256
no_bit_above zero h = absurd (omega arith)
no_bit_above (suc k) h = rw (alone_pow k, high_bit k (le_of_suc-le-suc h))

and_byte : (c b : ℕ) → c < 256 → bit_and c (b % 256) ≡ bit_and c b
and_byte c b h =
    (rw (mod-eq_of_lt h) at (sym (and_mod c b 8))) ∙ mod-eq_of_lt (lt_of_le_of_lt (and_le_l c b) h)

-- With b the bit of machine i: whether i is in the set, the set with i, and the set without it.

pub free_byte : (i : Machine) (c b : ℕ) → b ≡ insert i 0 % 256 → c < 256 → eqb (bit_and c b) 0 ≡ not (has i c)
unfolding has insert
free_byte zero c b e h = rw (e, and_zero_r c)
free_byte (suc k) c b e h =
    rw (e, alone_pow k, and_byte c (2 ^ k) h) (sym (ap not (has_and k c) ∙ not-not _))

pub has_byte : (i : Machine) (c b : ℕ) → b ≡ insert i 0 % 256 → c < 256 → not (eqb (bit_and c b) 0) ≡ has i c
has_byte i c b e h = ap not (free_byte i c b e h) ∙ not-not (has i c)

pub insert_byte : (i : Machine) (c b : ℕ) → b ≡ insert i 0 % 256 → c < 256 → bit_or c b ≡ insert i c % 256
unfolding insert
insert_byte zero c b e h = rw (e, or_zero_r c) (sym (mod-eq_of_lt h))
insert_byte (suc k) c b e h = rw (e, alone_pow k, insert_or k c, or_mod c (2 ^ k) 8, mod-eq_of_lt h)

pub remove_byte : (i : Machine) (c b : ℕ) → b ≡ insert i 0 % 256 → c < 256 → bit_and c (255 - b) ≡ remove i c
unfolding insert remove
remove_byte zero c b e h = rw e (and_mask c 8 ∙ mod-eq_of_lt h)
remove_byte (suc k) c b e h =
    by_test (ltb k 8)
    (λ t.
    let l = ltb→lt k 8 t in
    rw (e, alone_pow k, mod-eq_of_lt (pow-lt l)) (sym (remove_and 8 k c h l)))
    (λ t.
    let l = nltb→le k 8 t in
    rw (e, alone_pow k, high_bit k l, and_mask c 8, mod-eq_of_lt h)
    (sym (remove_above k c (lt_of_lt_of_le h (pow_mono l)))))

pub remove_all_byte : (d c : ℕ) → c < 256 → d < 256 → bit_and c (255 - d) ≡ remove_all d c
remove_all_byte d c h l = sym (remove_all_and 8 d c h l)

-- The machines 1 to n of a byte.

pub shift_byte : (n : ℕ) → n < 8 → 1 * 2 ^ n % 256 ≡ 2 ^ n
shift_byte n h = rw one-mul (mod-eq_of_lt (pow-lt h))

pub low_byte : (c n : ℕ) → n < 8 → bit_and c (1 * 2 ^ n % 256 - 1) ≡ c % 2 ^ n
low_byte c n h = rw (shift_byte n h) (and_mask c n)

pub all_byte : (c n : ℕ) → c < 256 → 8 ≤ n → c ≡ c % 2 ^ n
all_byte c n h l = sym (mod-eq_of_lt (lt_of_lt_of_le h (pow_mono l)))

-- A byte has no bit above those of eight machines or more.
pub below_byte : (c n : ℕ) → c < 256 → 8 ≤ n → ltb c (2 ^ n) ≡ true
below_byte c n h l = lt-ltb c (2 ^ n) (lt_of_lt_of_le h (pow_mono l))

-- What shows the bit of one machine, and the bits of the machines 1 to n.
pub ruleset one_bit = (bit_byte, no_bit, no_bit_above)

pub ruleset low_bits = (shift_byte, low_byte, all_byte, below_byte, le-leb, pow_pos)
