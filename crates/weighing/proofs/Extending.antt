-- Extending the list of steps: the words of the shortest schedule stand behind those of the list, and then their counts
-- of picked events become places in the log.
use Prim.Native.Nat.{ℕ, zero, suc, ◌+◌, ◌-◌, ◌*◌, ◌≤◌, ◌<◌}
use native.Mathlib.Nat.{le_of_suc-le-suc, not-suc-le-zero}
use native.Mathlib.Omega.{arith}
use mathlib.Core.Path.{◌≡◌, refl, sym, ap, ap₂, ◌∙◌}
use mathlib.Core.List.{List, [], ◌∷◌, ◌++◌, map, Memᴰ}
use lib.ListN.{length, get_or, take, drop, length-map}
use lib.Seq.{slice, take-add, drop_at, drop-append-le, length-take-le, length-slice}
use lib.Seq.{get_or-take, get_or-drop}
use Rattle.model.specs.Cxl0.{Topology}
use Rattle.model.specs.Schedule.{Step}
use Rattle.model.specs.ShortestAt.{ShortestAt}
use Rattle.model.specs.Words.{step_of_word}
use Rattle.model.proofs.Allowances.{allowance_few}
use Rattle.model.proofs.RunBounds.{shortest_few}
use Rattle.entries.specs.declared.Site.{Site}
use Rattle.rows.specs.Sites.{Describes}
use Rattle.scratch.specs.Layout.{EVENTS, ROWS, STEPS, MOST, MOST-STEPS, OnlyIn, LOG}
use Rattle.scratch.specs.Words.{events_in, count_of, words_at}
use Rattle.scratch.proofs.Frames.{only_then, only_wider, get_or_below}
use Rattle.scratch.proofs.Events.{events_length}
use Rattle.search.specs.declared.explaining.Found.TheVariants.{All}
use Rattle.search.specs.Paths.{Kept, Explainable}
use Rattle.search.specs.Shortening.{Scheduled, Shortened}
use Rattle.events.specs.Thinning.{retimed}
use Rattle.events.specs.Linking.{index_in, indices_from, indices_in}
use Rattle.events.specs.Retiming.{words_between, Retimable, Retimed}
use Rattle.events.proofs.EarlyPlaces.{shortest_counts}

-- The list of `more` words is that of `count` words and behind it the shortest schedule of the k events, retimed by
-- their indices.
pub record Extended (s : Site) (k count : ℕ) (w : List ℕ) (more : ℕ) (w' : List ℕ) : Type 0 where
  pub frame : OnlyIn ROWS LOG w w'
  pub words : List ℕ
  pub counted : more ≡ count + length words
  pub list : words_at STEPS more w' ≡ words_at STEPS count w ++ words
  pub steps : List Step
  pub shortest : (sys : Topology) → Describes sys s → ShortestAt sys s.location.0 (events_in w k) steps
  pub timed : map step_of_word words ≡ retimed (indices_in w k) steps

-- ---- words of the area

-- What the search keeps, as a frame.
pub kept_only : {base : ℕ} {w w' : List ℕ} → Kept base w w' → OnlyIn ROWS LOG w w'
kept_only p = record { sized = p.sized; below = p.events; above = p.above }

-- A part of the area in two.
slice_split : (from middle to : ℕ) (w : List ℕ) → from ≤ middle → middle ≤ to → to ≤ length w
    → slice from to w ≡ slice from middle w ++ slice middle to w
slice_split from middle to w g h l =
    let rest = to - middle in
    let all : middle + rest ≡ to = omega arith in
    let long = length-take-le middle w (omega arith) in
    let front = take middle w in
    let back = take rest (drop middle w) in
    rw (← all, take-add middle rest w, drop-append-le from front back (omega (arith, long)))
    (ap (λ (ws : List ℕ). drop from front ++ ws) (sym (drop_at front back middle long)))

-- A word of a part.
get_or_slice : (from to : ℕ) (w : List ℕ) (j : ℕ) → from + j < to
    → get_or (slice from to w) j 0 ≡ get_or w (from + j) 0
get_or_slice from to w j h = get_or-drop from (take to w) j 0 ∙ get_or-take to w (from + j) 0 h

-- ---- indices and counts

indices-from : {to : ℕ} {w w' : List ℕ} → OnlyIn ROWS to w w' → (j k : ℕ) → j + k ≤ MOST
    → indices_from w' j k ≡ indices_from w j k
unfolding indices_from
indices-from p j zero h = refl
indices-from p j (suc k) h =
    rw (get_or_below p (EVENTS + 2 * j) (omega arith), indices-from p (suc j) k (omega arith))

-- Equal words of the events give equal indices.
indices_same : {to : ℕ} {w w' : List ℕ} → OnlyIn ROWS to w w' → (k : ℕ) → k ≤ MOST
    → indices_in w' k ≡ indices_in w k
indices_same p k h = indices-from p 0 k (omega arith)

-- What is so of the counts of all steps is so of the words' counts.
counts_each : (P : ℕ → Type 0) (ws : List ℕ) → ((p : Step) → Memᴰ p (map step_of_word ws) → P p.before)
    → (j : ℕ) → j < length ws → P (count_of (get_or ws j 0))
unfolding step_of_word
counts_each P [] h j l = absurd (not-suc-le-zero l)
counts_each P (v ∷ ws) h zero l = h (step_of_word v) (Memᴰ.head refl)
counts_each P (v ∷ ws) h (suc j) l = counts_each P ws (λ p i. h p (Memᴰ.tail i)) j (le_of_suc-le-suc l)

-- ---- the schedule, and the indices

module _ {s : Site} {k count more : ℕ} {w w₁ : List ℕ} (can : Explainable s k count w)
    (done : Shortened s k count w (All more) w₁) where
  new : Scheduled s k count w more w₁
  new = done.steps

  abbrev words : List ℕ
  words = new.words

  shortest : ShortestAt can.system s.location.0 (events_in w k) (map step_of_word words)
  shortest = new.shortest can.system can.placed.describes

  short : more ≤ 2 * MOST-STEPS
  short =
      let placed = can.placed in
      let few = shortest_few can.system placed.well_formed placed.listed placed.named shortest in
      let most = allowance_few s.location.0 (events_in w k) in
      let size = length-map words step_of_word in
      omega (arith, new.counted, can.short, can.few, size, few, most, events_length w k)

  stored : words_between count more w₁ ≡ words
  stored =
      let end : STEPS + more ≡ STEPS + count + length words = omega (arith, new.counted) in
      rw end new.list

  abbrev Counted : ℕ → Type 0
  Counted n = (0 < n) × (n ≤ k)

  -- The words of the schedule can be retimed.
  pub found_retimable : ((t : ℕ) → t < k → index_in EVENTS w₁ t < MOST) → Retimable k count more w₁
  found_retimable indices =
      record {
        room = omega (arith, done.kept.sized, can.room);
        few = can.few;
        order = omega (arith, new.counted);
        short = short;
        indices = indices;
        counts = λ j g l.
            let i = j - count in
            let at : STEPS + count + i ≡ STEPS + j = omega arith in
            let word : get_or words i 0 ≡ get_or w₁ (STEPS + j) 0 =
            rw (← stored, ← at) (get_or_slice (STEPS + count) (STEPS + more) w₁ i (omega arith)) in
            rw (← word)
            (counts_each Counted words
            (λ p m.
            let count = shortest_counts can.system shortest p m in
            (count.0, omega (arith, count.1, events_length w k)))
            i (omega (arith, new.counted)));
      }

  -- With places in the log, the list is extended.
  pub found_extended : {w₂ : List ℕ} → Retimed k count more w₁ w₂ → Extended s k count w more w₂
  found_extended {w₂} timed =
      let kept = kept_only done.kept in
      let order : STEPS + count ≤ STEPS + more = omega (arith, new.counted) in
      let sized = timed.frame.sized ∙ kept.sized in
      let room : STEPS + more ≤ length w₂ = omega (arith, short, sized, can.room) in
      record {
        frame = only_then kept (only_wider timed.frame (omega arith) (omega (arith, short)));
        words = words_between count more w₂;
        counted = omega (arith, new.counted, length-slice (STEPS + count) (STEPS + more) w₂ room);
        list = slice_split STEPS (STEPS + count) (STEPS + more) w₂ (omega arith) order room
            ∙ ap (λ (ws : List ℕ). ws ++ words_between count more w₂)
            (ap (drop STEPS) timed.frame.below ∙ done.kept.list);
        steps = map step_of_word words;
        shortest = new.shortest;
        timed = timed.steps ∙ ap₂ retimed (indices_same kept k can.few) (ap (map step_of_word) stored);
      }
