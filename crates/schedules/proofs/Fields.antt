-- What a field at the front of bytes tells of them.
use Prim.Native.Nat.{ℕ, ◌+◌, ◌≤◌}
use native.Mathlib.Omega.{arith}
use mathlib.Core.Path.{◌≡◌, refl}
use mathlib.Core.Bool.{Bool, true, false, cond, ◌&&◌, false≢true}
use mathlib.Core.List.{List, [], ◌∷◌, ◌++◌}
use mathlib.Core.Option.{Option, none, some, none-ne-some}
use lib.Dec.{leb, eqb}
use lib.ListN.{length, get_or, drop}
use borrow.Author.Tests.{le-leb, leb-true, eqb-true}
use Rattle.fields.specs.Numbers.{bytes_of}
use Rattle.log_bytes.specs.Bytes.{field}
use Rattle.verdict_file.specs.Files.{header}
use Rattle.schedules.specs.Schedules.{starts, begins, says_allowed}

-- Tests that are passed.
pub both : (a b : Bool) → (a && b) ≡ true → (a ≡ true) × (b ≡ true)
both true b e = (refl, e)
both false b e = absurd (false≢true e)

pub passed : {A : Type 0} (b : Bool) (o : Option A) {a : A} → ◌≡◌ {A = Option A} (cond b o none) (some a)
    → (b ≡ true) × (◌≡◌ {A = Option A} o (some a))
passed true o e = (refl, e)
passed false o {a} e = absurd (none-ne-some a e)

-- The three bytes that pass.
pub tag_and_length : (tag len t lo hi : ℕ) → starts tag len t lo hi ≡ true → (t ≡ tag) × (lo ≡ len) × (hi ≡ 0)
unfolding starts
tag_and_length tag len t lo hi e =
    let low = both (eqb t tag && eqb lo len) (eqb hi 0) e in
    let first = both (eqb t tag) (eqb lo len) low.0 in
    (eqb-true t tag first.0, eqb-true lo len first.1, eqb-true hi 0 low.1)

-- The whole field is there.
pub long : (tag len : ℕ) (s : List ℕ) → begins tag len s ≡ true → 3 + len ≤ length s
unfolding begins
long tag len s e =
    leb-true (3 + len) (length s)
    (both (leb (3 + len) (length s)) (starts tag len (get_or s 0 0) (get_or s 1 0) (get_or s 2 0)) e).0

pub long_header : (s : List ℕ) → says_allowed s ≡ true → 5 ≤ length s
unfolding says_allowed
long_header s e =
    let first = (both (begins 0x10 2 s && eqb (get_or s 3 0) 1) (eqb (get_or s 4 0) 0) e).0 in
    long 0x10 2 s (both (begins 0x10 2 s) (eqb (get_or s 3 0) 1) first).0

-- Bytes that begin with a header that says allowed are this header and the bytes after it.
pub header_bytes : (s : List ℕ) → says_allowed s ≡ true → s ≡ header 1 0 ++ drop 5 s
unfolding says_allowed begins header field bytes_of
header_bytes [] e = absurd (false≢true e)
header_bytes (t ∷ []) e = absurd (false≢true e)
header_bytes (t ∷ lo ∷ []) e = absurd (false≢true e)
header_bytes (t ∷ lo ∷ hi ∷ []) e = absurd (false≢true e)
header_bytes (t ∷ lo ∷ hi ∷ v ∷ []) e = absurd (false≢true e)
header_bytes (t ∷ lo ∷ hi ∷ v ∷ w ∷ s) e =
    let n : ℕ = length (t ∷ lo ∷ hi ∷ v ∷ w ∷ s) in
    let last = both (leb 5 n && starts 0x10 2 t lo hi && eqb v 1) (eqb w 0) e in
    let first = both (leb 5 n && starts 0x10 2 t lo hi) (eqb v 1) last.0 in
    let whole = both (leb 5 n) (starts 0x10 2 t lo hi) first.0 in
    let (tag, low, high) = tag_and_length 0x10 2 t lo hi whole.1 in
    rw (tag, low, high, eqb-true v 1 first.1, eqb-true w 0 last.1)

-- And this header says allowed.
pub says_header : (s : List ℕ) → says_allowed (header 1 0 ++ s) ≡ true
unfolding says_allowed begins starts header field bytes_of
says_header s = rw (le-leb 5 (length (header 1 0 ++ s)) (omega arith))
