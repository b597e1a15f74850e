-- Texts put one after the other: each from where the one before ended.
use Prim.Native.Nat.{ℕ, ◌+◌, ◌-◌, ◌≤◌, ◌<◌, min}
use native.Mathlib.Nat.{add-zero, sub-eq-zero_of_le}
use native.Mathlib.Numerals.{add-one}
use native.Mathlib.Omega.{arith}
use mathlib.Core.Path.{◌≡◌, refl, sym, ◌∙◌}
use mathlib.Core.Bool.{Bool, true, false}
use mathlib.Core.List.{List, [], ◌∷◌, ◌++◌, append_assoc, append-nil}
use lib.Dec.{leb}
use lib.ListN.{length, take, drop, set, length-append, length-take, length-drop, drop_of_length-le}
use lib.ListN.{take-append-drop}
use lib.Seq.{take_all, take-nil, take-append-le, take-append-add, take_at, drop_at, drop-drop, set_split, append_snoc}
use borrow.Author.Tests.{leb-true, leb-false}
use Rattle.text.specs.Putting.{fitting, put, after}

-- Two cases: what comes up to a bound, and what goes past it.
pub cases : {P : Type 0} (m n : ℕ) → (m ≤ n → P) → (n < m → P) → P
cases {P} m n small large = go (leb m n) refl
  where
    go : (b : Bool) → leb m n ≡ b → P
    go true e = small (leb-true m n e)
    go false e = large (leb-false m n e)

-- How far the position moves.
pub after_eq : (out : List ℕ) (at : ℕ) (s : List ℕ) → after out at s ≡ at + min (length out - at) (length s)
unfolding after fitting
after_eq out at s = simp length-take

-- A buffer keeps its length.
pub length_put : (out : List ℕ) (at : ℕ) (s : List ℕ) → length (put out at s) ≡ length out
unfolding put fitting
length_put out at s = simp (length-append, length-take, length-drop) (omega arith)

-- Nothing fits past the end.
pub put_full : (out : List ℕ) (at : ℕ) (s : List ℕ) → length out ≤ at → put out at s ≡ out
unfolding put fitting
put_full out at s h =
    let past : length out ≤ at + length s = omega arith in
    rw (sub-eq-zero_of_le h, take_all at out h, drop_of_length-le out past) (simp append-nil)

pub after_full : (out : List ℕ) (at : ℕ) (s : List ℕ) → length out ≤ at → after out at s ≡ at
after_full out at s h = omega (arith, after_eq out at s)

-- A text that fits stands there whole.
module _ (out : List ℕ) (at : ℕ) (s : List ℕ) (h : at + length s ≤ length out) where
  pub put_whole : put out at s ≡ take at out ++ s ++ drop (at + length s) out
  unfolding put fitting
  put_whole = rw (take_all (length out - at) s (omega arith))

  pub after_whole : after out at s ≡ at + length s
  after_whole = omega (arith, after_eq out at s)

-- A text with no bytes changes nothing.
pub put_none : (out : List ℕ) (at : ℕ) → put out at [] ≡ out
unfolding put fitting
put_none out at = rw (take-nil, append-nil, add-zero, take-append-drop)

pub after_none : (out : List ℕ) (at : ℕ) → after out at [] ≡ at
after_none out at = omega (arith, after_eq out at [])

-- One byte is one store.
pub put_one : (out : List ℕ) (at b : ℕ) → at < length out → put out at (b ∷ []) ≡ set out at b
put_one out at b h =
    put_whole out at (b ∷ []) (omega arith)
    ∙ rw (append_snoc, add-one) (sym (set_split out at b h))

pub after_one : (out : List ℕ) (at b : ℕ) → at < length out → after out at (b ∷ []) ≡ at + 1
after_one out at b h = after_whole out at (b ∷ []) (omega arith)

-- A text in two parts is the second part put after the first.
module _ (out : List ℕ) (at : ℕ) (s t : List ℕ) where
  pub after_more : after (put out at s) (after out at s) t ≡ after out at (s ++ t)
  after_more =
      let first = after_eq out at s in
      let second = after_eq (put out at s) (after out at s) t in
      let whole = after_eq out at (s ++ t) in
      omega (arith, first, second, whole, length_put out at s, length-append s t)

  -- Where the first part fits: the buffer up to its end, what of the second part fits, and what is behind both.
  abbrev front : List ℕ
  front = take at out ++ s

  abbrev middle : List ℕ
  middle = take (length out - (at + length s)) t

  abbrev back : List ℕ
  back = drop (at + length s + length t) out

  -- The second part put there.
  behind : at + length s ≤ length out
      → put (front ++ drop (at + length s) out) (at + length s) t ≡ front ++ middle ++ back
  unfolding put fitting
  behind h =
      let n : ℕ = at + length s in
      let old : List ℕ = drop n out in
      let size : length front ≡ n = simp (length-append, length-take) (omega arith) in
      let kept : length (front ++ old) ≡ length out = simp (length-append, length-take, length-drop) (omega arith) in
      rw (kept, take_at front old n size, ← drop-drop (length t) n (front ++ old), drop_at front old n size, drop-drop)

  -- Both parts put at once.
  together : at + length s ≤ length out → put out at (s ++ t) ≡ front ++ middle ++ back
  unfolding put fitting
  together h =
      let room : length out - at ≡ length s + (length out - (at + length s)) = omega arith in
      let far : at + (length s + length t) ≡ at + length s + length t = omega arith in
      rw (length-append s t, far, room, take-append-add) (simp append_assoc)

  whole_more : at + length s ≤ length out → put (put out at s) (after out at s) t ≡ put out at (s ++ t)
  whole_more h = rw (put_whole out at s h, after_whole out at s h, behind h, together h)

  -- Where it does not fit, nothing of the second part does.
  cut : length out < at + length s → put out at s ≡ put out at (s ++ t)
  unfolding put fitting
  cut h =
      let same = take-append-le (length out - at) s t (omega arith) in
      let past : length out ≤ at + length s = omega arith in
      let further : length out ≤ at + length (s ++ t) = omega (arith, length-append s t) in
      rw (same, drop_of_length-le out past, drop_of_length-le out further)

  cut_more : length out < at + length s → put (put out at s) (after out at s) t ≡ put out at (s ++ t)
  cut_more h =
      let past : length out ≤ after out at s = omega (arith, after_eq out at s) in
      put_full (put out at s) (after out at s) t (rw length_put past) ∙ cut h

  pub put_more : put (put out at s) (after out at s) t ≡ put out at (s ++ t)
  put_more = cases (at + length s) (length out) whole_more cut_more

-- What a call leaves that puts a text: the position and the buffer.
abbrev pub Put : List ℕ → ℕ → List ℕ → ℕ → List ℕ → Type 0
Put out at s next left = (next ≡ after out at s) × (left ≡ put out at s)

-- A call that puts a text where another ended leaves what one call would that puts both.
pub and_then : (out : List ℕ) (at : ℕ) (s t : List ℕ) {n m : ℕ} {mid left : List ℕ}
    → Put out at s n mid → Put mid n t m left → Put out at (s ++ t) m left
and_then out at s t (n, mid) (m, left) =
    (m ∙ rw (n, mid) (after_more out at s t), left ∙ rw (n, mid) (put_more out at s t))

-- What is left of putting a text: to put the rest of it, from a later position on.
abbrev pub Left : List ℕ → ℕ → List ℕ → List ℕ → ℕ → List ℕ → Type 0
Left out at s mid n t = (after out at s ≡ after mid n t) × (put out at s ≡ put mid n t)

module _ (out : List ℕ) (at : ℕ) (s mid : List ℕ) (n : ℕ) where
  -- A store takes the first byte of it.
  pub left_one : (b : ℕ) (t : List ℕ) → n < length mid
      → Left out at s mid n (b ∷ t) → Left out at s (set mid n b) (n + 1) t
  left_one b t h (position, buffer) =
      let next = rw (put_one mid n b h, after_one mid n b h) at (after_more mid n (b ∷ []) t) in
      let left = rw (put_one mid n b h, after_one mid n b h) at (put_more mid n (b ∷ []) t) in
      (position ∙ sym next, buffer ∙ sym left)

  -- Where nothing is left, or there is no room, the text is put.
  pub left_none : Left out at s mid n [] → Put out at s n mid
  left_none (position, buffer) = (sym (position ∙ after_none mid n), sym (buffer ∙ put_none mid n))

  pub left_full : (t : List ℕ) → length mid ≤ n → Left out at s mid n t → Put out at s n mid
  left_full t h (position, buffer) = (sym (position ∙ after_full mid n t h), sym (buffer ∙ put_full mid n t h))
