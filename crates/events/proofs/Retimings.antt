-- Steps of the kept events become steps of the log: each word's count becomes that of a place right after an event.
use Prim.Native.Nat.{ℕ, zero, suc, ◌+◌, ◌*◌, ◌-◌, ◌/◌, ◌%◌, ◌≤◌, ◌<◌}
use native.Mathlib.Nat.{le_of_suc-le-suc, add-zero, zero-add, div-div-eq-div-mul}
use native.Mathlib.Omega.{arith}
use mathlib.Core.Path.{◌≡◌, sym, ap, ap₂, ◌∙◌}
use mathlib.Core.List.{List, [], ◌∷◌, ◌++◌, map, map-append}
use lib.ListN.{length, get_or, take, drop, set}
use lib.Seq.{slice_empty, take-suc, take-suc-set, drop-append-le, length-take-le}
use Rattle.model.specs.Schedule.{Step}
use Rattle.model.specs.Words.{step_of_word}
use Rattle.scratch.specs.Layout.{EVENTS, STEPS, MOST}
use Rattle.scratch.specs.Words.{count_of, LOCATION, INDEX}
use Rattle.scratch.proofs.Frames.{only_none, only_set, only_then, only_wider, get_or_below, get_or_above}
use Rattle.events.specs.Thinning.{place_after, retimed}
use Rattle.events.specs.Linking.{index_in, indices_from, indices_in}
use Rattle.events.specs.Retiming.{words_between, Retimable, Retimed, with_count}
use Rattle.events.specs.Retiming.{index_before, WordRetimed}

-- ---- one word

-- Another number in the lowest byte of a word is another count of its step.
pub word_count : (v n : ℕ) → n < 256 → step_of_word (v - v % 256 + n) ≡ with_count n (step_of_word v)
unfolding step_of_word
word_count v n small =
    let r = v - v % 256 + n in
    let count : r % 256 ≡ n = omega arith in
    let above : r / 256 ≡ v / 256 = omega arith in
    let machine : r / LOCATION ≡ v / LOCATION =
    sym (div-div-eq-div-mul r 256 256) ∙ ap (λ (q : ℕ). q / 256) above ∙ div-div-eq-div-mul v 256 256 in
    rw (count, above, machine)

-- ---- the indices

indices-from : (w : List ℕ) (j t k : ℕ) → t < k → get_or (indices_from w j k) t 0 ≡ index_in EVENTS w (j + t)
unfolding indices_from
indices-from w j t zero h = absurd (omega arith)
indices-from w j zero (suc k) h = rw add-zero
indices-from w j (suc t) (suc k) h =
    let next : suc j + t ≡ j + suc t = omega arith in
    rw (← next) (indices-from w (suc j) t k (le_of_suc-le-suc h))

-- Of the indices of the first k events, number t is that of event t.
pub indices_at : (w : List ℕ) (k t : ℕ) → t < k → get_or (indices_in w k) t 0 ≡ index_in EVENTS w t
indices_at w k t h = rw (zero-add t) at (indices-from w 0 t k h)

-- ---- the words of the list

-- One step more at the end.
retimed_more : (indices : List ℕ) (ps : List Step) (p : Step)
    → retimed indices (ps ++ p ∷ []) ≡ retimed indices ps ++ with_count (place_after indices p.before) p ∷ []
unfolding retimed
retimed_more indices ps p = map-append (λ p. with_count (place_after indices p.before) p) ps (p ∷ [])

-- One word more at the end, and the same with that word set.
module _ (from j : ℕ) (w : List ℕ) (order : from ≤ j) (inside : STEPS + j < length w) where
  joined : (l : List ℕ) → drop (STEPS + from) (take (STEPS + j) w ++ l) ≡ words_between from j w ++ l
  joined l =
      let long = length-take-le (STEPS + j) w (omega arith) in
      drop-append-le (STEPS + from) (take (STEPS + j) w) l (omega (arith, long))

  words_more : words_between from (j + 1) w ≡ words_between from j w ++ get_or w (STEPS + j) 0 ∷ []
  words_more =
      let e : STEPS + (j + 1) ≡ suc (STEPS + j) = omega arith in
      rw (e, take-suc w (STEPS + j) 0 inside) (joined (get_or w (STEPS + j) 0 ∷ []))

  words_set : (r : ℕ) → words_between from (j + 1) (set w (STEPS + j) r) ≡ words_between from j w ++ r ∷ []
  words_set r =
      let e : STEPS + (j + 1) ≡ suc (STEPS + j) = omega arith in
      rw (e, take-suc-set w (STEPS + j) r inside) (joined (r ∷ []))

-- ---- the loop

-- No word is retimed yet.
pub retimed_none : (k from : ℕ) (w : List ℕ) → Retimed k from from w w
unfolding retimed
retimed_none k from w =
    record { frame = only_none (STEPS + from) (STEPS + from) w; steps = rw (slice_empty (STEPS + from) w) }

module _ {k from to : ℕ} {w : List ℕ} (can : Retimable k from to w) {j : ℕ} (order : from ≤ j) (more : j < to)
    {w' : List ℕ} (so_far : Retimed k from j w w') where
  -- The next word is as it was.
  next_kept : get_or w' (STEPS + j) 0 ≡ get_or w (STEPS + j) 0
  next_kept = get_or_above so_far.frame (STEPS + j) (omega arith)

  -- A kept event is before its step.
  pub next_count : 0 < count_of (get_or w' (STEPS + j) 0)
  next_count = rw next_kept (can.counts j order more).0

  -- That event's index is as it was.
  index_kept : index_before w' (get_or w' (STEPS + j) 0) ≡ index_before w (get_or w (STEPS + j) 0)
  index_kept =
      let t = count_of (get_or w (STEPS + j) 0) - 1 in
      let count = can.counts j order more in
      let same = get_or_below so_far.frame (EVENTS + 2 * t) (omega (arith, count, can.few)) in
      rw next_kept (ap (λ (word : ℕ). word / INDEX % 256) same)

  pub next_index : index_before w' (get_or w' (STEPS + j) 0) < MOST
  next_index =
      let count = can.counts j order more in
      rw index_kept (can.indices (count_of (get_or w (STEPS + j) 0) - 1) (omega (arith, count)))

  -- One word more.
  pub retimed_next : (r : ℕ) → WordRetimed w' (get_or w' (STEPS + j) 0) r
      → Retimed k from (j + 1) w (set w' (STEPS + j) r)
  unfolding step_of_word
  retimed_next r new =
      let v = get_or w (STEPS + j) 0 in
      let indices = indices_in w k in
      let old = words_between from j w in
      let count = can.counts j order more in
      let index = index_kept ∙ sym (indices_at w k (count_of v - 1) (omega (arith, count))) in
      let step : step_of_word r ≡ with_count (place_after indices (count_of v)) (step_of_word v) =
      new ∙ ap₂ (λ (n u : ℕ). with_count (n + 1) (step_of_word u)) index next_kept in
      let inside : STEPS + j < length w = omega (arith, can.room, can.short) in
      let before = ap (map step_of_word) (words_more from j w order inside)
      ∙ map-append step_of_word old (v ∷ []) in
      let after = ap (map step_of_word) (words_set from j w' order (omega (arith, so_far.frame.sized)) r)
      ∙ map-append step_of_word (words_between from j w') (r ∷ []) in
      let set_one = only_set (STEPS + from) (STEPS + (j + 1)) w' (STEPS + j) r (omega arith) (omega arith) in
      record {
        frame = only_then (only_wider so_far.frame (omega arith) (omega arith)) set_one;
        steps = after
            ∙ ap₂ (λ (ps : List Step) (p : Step). ps ++ p ∷ []) so_far.steps step
            ∙ sym (retimed_more indices (map step_of_word old) (step_of_word v))
            ∙ sym (ap (retimed indices) before);
      }
