-- Words from a place of the scratch area on: in two parts, after one word has changed, and one by one.
use Prim.Native.Nat.{ℕ, zero, suc, ◌+◌, ◌≤◌, ◌<◌}
use native.Mathlib.Nat.{zero-add, suc-add, le_refl}
use native.Mathlib.Numerals.{add-one}
use native.Mathlib.Omega.{arith}
use mathlib.Core.Path.{◌≡◌, refl, sym, ap, ◌∙◌}
use mathlib.Core.Logic.{◌⊎◌, inr, ⊎_elim}
use mathlib.Core.List.{List, [], ◌∷◌, ◌++◌}
use mathlib.Core.List.Memᴰ
use mathlib.Core.List.{Memᴰ}
use lib.ListN.{length, get_or, take, drop, set, length-take, length-drop, length-set}
use lib.Seq.{take-nil, take-suc, take-add, take-take, drop-drop, get_or-take, get_or-drop}
use lib.Seq.{take-set-le, drop-set-lt, get_or-set_same, length-slice}
use Rattle.scratch.specs.Layout.{OnlyIn}
use Rattle.scratch.specs.Words.{words_at}
use Rattle.scratch.proofs.Frames.{only_wider}

-- They are the first words of what follows the place.
pub words_from : (place count : ℕ) (w : List ℕ) → words_at place count w ≡ take count (drop place w)
words_from zero count w = rw zero-add
words_from (suc place) count [] = rw suc-add (sym (take-nil count))
words_from (suc place) count (a ∷ w) = rw suc-add (words_from place count w)

-- Some words and then some more.
pub words_two : (place j k : ℕ) (w : List ℕ)
    → words_at place (j + k) w ≡ words_at place j w ++ words_at (place + j) k w
words_two place j k w =
    rw (words_from place (j + k) w, words_from place j w, words_from (place + j) k w, ← drop-drop j place w)
    (take-add j k (drop place w))

-- One word more.
pub words_more : (place j : ℕ) (w : List ℕ) → place + j < length w
    → words_at place (j + 1) w ≡ words_at place j w ++ get_or w (place + j) 0 ∷ []
words_more place j w h =
    rw (words_from place (j + 1) w, words_from place j w, add-one j, ← get_or-drop place w j 0)
    (take-suc (drop place w) j 0 (omega (arith, length-drop place w)))

-- A word that is set elsewhere makes no difference.
pub words_apart : (place count : ℕ) (w : List ℕ) (i v : ℕ) → (i < place) ⊎ (place + count ≤ i)
    → words_at place count (set w i v) ≡ words_at place count w
words_apart place count w i v o =
    ⊎_elim
    (λ h.
    words_from place count (set w i v) ∙ ap (take count) (drop-set-lt place w i v h)
    ∙ sym (words_from place count w))
    (λ h. ap (drop place) (take-set-le (place + count) w i v h))
    o

-- A word that is set after them is one more.
pub words_set : (place j : ℕ) (w : List ℕ) (v : ℕ) → place + j < length w
    → words_at place (j + 1) (set w (place + j) v) ≡ words_at place j w ++ v ∷ []
words_set place j w v h =
    let w' = set w (place + j) v in
    words_more place j w' (omega (arith, length-set w (place + j) v))
    ∙ rw (words_apart place j w (place + j) v (inr (omega arith)), get_or-set_same w (place + j) v 0 h)

-- They stay if no word before a later place has changed.
pub words_kept : {from to : ℕ} {w w' : List ℕ} → OnlyIn from to w w' → (place count : ℕ)
    → place + count ≤ from → words_at place count w' ≡ words_at place count w
words_kept {from} {w = w} {w'} only place count h =
    let end = place + count in
    ap (drop place)
    (sym (take-take end from w' h) ∙ ap (take end) only.below ∙ take-take end from w h)

-- They stay if no word from a place before them on has changed.
pub words_after : {from to : ℕ} {w w' : List ℕ} → OnlyIn from to w w' → (place count : ℕ)
    → to ≤ place → words_at place count w' ≡ words_at place count w
words_after {w = w} {w'} only place count h =
    words_from place count w'
    ∙ ap (take count) (only_wider only (le_refl _) h).above
    ∙ sym (words_from place count w)

-- There are no more than asked for.
pub words_at_most : (place count : ℕ) (w : List ℕ) → length (words_at place count w) ≤ count
words_at_most place count w =
    omega (arith, length-drop place (take (place + count) w), length-take (place + count) w)

-- ---- one of them

word_at : (place count : ℕ) (w : List ℕ) (j : ℕ) → j < count
    → get_or (words_at place count w) j 0 ≡ get_or w (place + j) 0
word_at place count w j h =
    get_or-drop place (take (place + count) w) j 0 ∙ get_or-take (place + count) w (place + j) 0 (omega arith)

member_at : (l : List ℕ) (j : ℕ) → j < length l → Memᴰ (get_or l j 0) l
member_at [] j h = absurd (omega arith)
member_at (a ∷ l) zero h = Memᴰ.head refl
member_at (a ∷ l) (suc j) h = Memᴰ.tail (member_at l j (omega arith))

all_members : (P : ℕ → Type 0) (l : List ℕ) → ((j : ℕ) → j < length l → P (get_or l j 0))
    → (v : ℕ) → Memᴰ v l → P v
all_members P [] h v m = absurd (Memᴰ.not-nil m)
all_members P (a ∷ l) h v m =
    ⊎_elim
    (λ e. rw e (h 0 (omega arith)))
    (all_members P l (λ j k. h (suc j) (omega arith)) v)
    (Memᴰ.cases_cons m)

-- Each is one of the words.
pub word_member : (place count : ℕ) (w : List ℕ) → place + count ≤ length w → (j : ℕ) → j < count
    → Memᴰ (get_or w (place + j) 0) (words_at place count w)
word_member place count w l j h =
    let ws = words_at place count w in
    let long : j < length ws = omega (arith, length-slice place (place + count) w l) in
    rw (← word_at place count w j h) (member_at ws j long)

-- What is so of each is so of the words.
pub words_all : (P : ℕ → Type 0) (place count : ℕ) (w : List ℕ)
    → ((j : ℕ) → j < count → P (get_or w (place + j) 0)) → (v : ℕ) → Memᴰ v (words_at place count w) → P v
words_all P place count w h =
    all_members P (words_at place count w)
    (λ j k.
    let few : j < count = omega (arith, words_at_most place count w) in
    rw (word_at place count w j few) (h j few))
