-- What is left to pay at a gap of a segment is what its stretch says.
use Prim.Native.Nat.{ℕ, zero, suc, ◌+◌, ◌-◌, ◌≤◌, ◌<◌}
use native.Mathlib.Nat.{le_refl, lt_of_lt_of_le, eq-or-lt_of_le}
use native.Mathlib.Decide.{dec_le}
use native.Mathlib.Omega.{arith}
use mathlib.Core.Path.{◌≡◌, sym, subst}
use mathlib.Core.Logic.{◌↔◌, ⊎_elim}
use mathlib.Core.Bool.{cond}
use mathlib.Core.List.{List, ◌∷◌}
use borrow.Author.Tests.{le-leb, lt-leb, lt-ltb, le-ltb}
use Rattle.model.specs.Cxl0.{Value, Event, event}
use Rattle.model.specs.OneLocation.{Local, Site, clears_site, effect}
use Rattle.model.specs.Paying.{Pays, acts, moves, writes}
use Rattle.model.proofs.Tests.{cond_same}
use Rattle.rows.specs.Rows.{state}
use Rattle.scratch.specs.Words.{event_in, events_from}
use Rattle.levels.specs.Stretches.{FAR, Stretch, Finishes}
use Rattle.levels.specs.Stretches as stretches
use Rattle.levels.specs.Tasks.{back_in}
use Rattle.segments.specs.declared.words.Segment.{Segment}
use Rattle.segments.specs.declared.words.Block.{Block}
use Rattle.segments.specs.Words.{segment_in}
use Rattle.segments.specs.Costs.{rest_from}
use Rattle.segments.specs.Segments.{Left, IsSegment, Means}
use Rattle.segments.specs.Segments.{memory_at, stretch_of, cleared_of, behind_of, Backs}
use Rattle.segments.proofs.Paying.{Onward, FirstWrites, FirstMoves, onward_pays, pays_first}
use Rattle.segments.proofs.Paying.{events_first, inner_leads}
use Rattle.segments.proofs.Closing.{Lasts, behind_right}

-- A number is less than another, or equal, or more.
by_order : {A : Type 0} (m n : ℕ) → (m < n → A) → (m ≡ n → A) → (n < m → A) → A
by_order m n less same more =
    elim (dec_le n m) [ yes h ↦ ⊎_elim (λ e. same (sym e)) more (eq-or-lt_of_le h) | no h ↦ less (omega arith) ]

-- ---- memory inside a segment

module _ (k : Site) (w : List ℕ) (b : Block) (l : ℕ) (seg : IsSegment k w b l) (m : Value) where
  abbrev s : Segment
  s = segment_in w l

  -- At the first gap memory has the first value.
  pub memory_first : memory_at k s m s.first ≡ m
  memory_first =
      let early : s.first ≤ s.reset =
      elim (dec_le (suc s.reset) s.end) [ yes h ↦ (seg.resets h).0 | no h ↦ omega (arith, seg.order) ]
      in
      rw (le-leb s.first s.reset early)

  -- Each event of the segment makes it what it is at the next gap.
  pub memory_next : (t : ℕ) → s.first ≤ t → t < s.end
      → memory_at k s m (suc t) ≡ cond (clears_site (event_in w t) k) k.initial (memory_at k s m t)
  memory_next t a h = by_order t s.reset before at_reset after
    where
      before : t < s.reset
          → memory_at k s m (suc t) ≡ cond (clears_site (event_in w t) k) k.initial (memory_at k s m t)
      before d = rw (le-leb (suc t) s.reset d, le-leb t s.reset (omega arith), seg.early t a h d)

      at_reset : t ≡ s.reset
          → memory_at k s m (suc t) ≡ cond (clears_site (event_in w t) k) k.initial (memory_at k s m t)
      at_reset e =
          let clears = (seg.resets (omega arith)).1 in
          rw (lt-leb (suc t) s.reset (omega arith), e, clears)

      after : s.reset < t
          → memory_at k s m (suc t) ≡ cond (clears_site (event_in w t) k) k.initial (memory_at k s m t)
      after d =
          rw (lt-leb (suc t) s.reset (omega arith), lt-leb t s.reset d)
          (sym (cond_same (clears_site (event_in w t) k) k.initial))

  -- ---- a segment and its stretch

  -- The state at gap t, and the events from there on.
  abbrev at_gap : (t c : ℕ) → Local
  at_gap t c = state c s.copy (memory_at k s m t)

  abbrev ahead : ℕ → List Event
  ahead t = events_from w t (b.end - t)

  -- The code after the event at gap t.
  abbrev code_next : (t c : ℕ) → ℕ
  code_next t c = (effect k (event (event_in w t)) (at_gap t c)).code

  -- An event of the segment leads to the next gap.
  leads : (t c : ℕ) → s.first ≤ t → t < s.end
      → effect k (event (event_in w t)) (at_gap t c) ≡ at_gap (suc t) (code_next t c)
  leads t c a h =
      rw (memory_next t a h)
      (inner_leads k (event_in w t) c s.copy (memory_at k s m t) (seg.inner t a h))

  -- Inside a segment an event is ahead.
  ahead_first : (t : ℕ) → t < s.end → ahead t ≡ event_in w t ∷ ahead (suc t)
  ahead_first t h = events_first w b.end t (lt_of_lt_of_le h seg.inside)

  -- Where what is left after write-backs is right, and so is `last`:
  module _ (last : ℕ) (backs : Backs k w b s) (lasts : Lasts k w b s (memory_at k s m s.end) last) where
    abbrev q : Stretch
    q = stretch_of k w s m last

    -- What the stretch finishes is a run.
    finishes_pays : {t c x : ℕ} → s.first ≤ t → t ≤ s.end → x < FAR → Finishes q t c x
        → Pays k (ahead t) (at_gap t c) x
    finishes_pays {c = c} {x} a h far (stretches.ends e v le) =
        rw e (onward_pays (ahead s.end) ((lasts c x far).0 (v, le)))
    finishes_pays {t} {c} {x} a h far (stretches.acts d v f) =
        let next = finishes_pays (omega arith) d far f in
        rw (ahead_first t d)
        (acts {l = x} v (subst (λ (st : Local). Pays k (ahead (suc t)) st x) (sym (leads t c a d)) next))
    finishes_pays {x = zero} a h far (stretches.writes v le) = absurd (omega arith)
    finishes_pays {t} {x = suc y} a h far (stretches.writes v le) =
        writes v (((backs t a h).exact y (omega arith)).1 (omega arith))
    finishes_pays a h far (stretches.moves i v f) = moves i v (finishes_pays a h (omega arith) f)

    -- The stretch finishes every run that has less than d gaps and silent steps to go.
    abbrev Finished : ℕ → Type 0
    Finished d =
        (t c x : ℕ) → s.end - t + x < d → s.first ≤ t → t ≤ s.end → x < FAR
        → Pays k (ahead t) (at_gap t c) x → Finishes q t c x

    -- So it does one that begins with the event,
    event_finishes : (d : ℕ) → Finished d
        → (t c x : ℕ) → s.end - t + x ≤ d → s.first ≤ t → t ≤ s.end → x < FAR
        → Onward k (ahead t) (at_gap t c) x → Finishes q t c x
    unfolding Onward
    event_finishes d less t c x few a h far o = ⊎_elim at_end before (eq-or-lt_of_le h)
      where
        at_end : t ≡ s.end → Finishes q t c x
        at_end e =
            let there = (lasts c x far).1 (rw e at o) in
            stretches.ends e there.0 there.1

        before : t < s.end → Finishes q t c x
        before inner =
            let first = rw (ahead_first t inner) at o in
            let next = subst (λ (st : Local). Pays k (ahead (suc t)) st x) (leads t c a inner) first.1 in
            let rest = less (suc t) (code_next t c) x (omega arith) (omega arith) inner far next in
            stretches.acts inner first.0 rest

    -- and one that begins with a silent step.
    step_finishes : (d : ℕ) → Finished d → Finished (suc d)
    step_finishes d less t c x few a h far p =
        ⊎_elim (event_finishes d less t c x (omega arith) a h far) (⊎_elim writing moving) (pays_first p)
      where
        writing : FirstWrites k (ahead t) (at_gap t c) x → Finishes q t c x
        writing (v, y, e, r) =
            let paid : back_in w t < x = omega (arith, ((backs t a h).exact y (omega arith)).0 r) in
            stretches.writes v paid

        moving : FirstMoves k (ahead t) (at_gap t c) x → Finishes q t c x
        moving (i, v, y, e, r) =
            rw e (stretches.moves i v (less t _ y (omega arith) a h (omega arith) r))

    pays_finishes : (d : ℕ) → Finished d
    pays_finishes zero = λ t c x few. absurd (omega arith)
    pays_finishes (suc d) = step_finishes d (pays_finishes d)

    -- What is left to pay at a gap of the segment is what its stretch says.
    pub finishes_left : (t c x : ℕ) → s.first ≤ t → t ≤ s.end → x < FAR
        → Finishes q t c x ↔ Left k w b.end t s.copy c (memory_at k s m t) x
    finishes_left t c x a h far = (
      finishes_pays a h far,
      pays_finishes (suc (s.end - t + x)) t c x (le_refl _) a h far,
    )

  -- ---- with the numbers of the segments behind it

  -- What is to pay behind the last gap: what comes next with the memory value there.
  pub behind_memory : rest_from w b (suc l) (memory_at k s m s.end)
      ≡ behind_of s (cleared_of w b l s k.initial) (rest_from w b (suc l) m)
  behind_memory =
      elim (dec_le s.end s.reset) [
        | yes h ↦ rw (le-leb s.end s.reset h, le-ltb s.reset s.end h)
        | no h ↦
            let less : s.reset < s.end = omega arith in
            rw (lt-leb s.end s.reset less, lt-ltb s.reset s.end less)
      ]

  -- With the numbers of the segments behind it, the stretch of a segment says what is left to pay from its start on.
  pub stretch_left : Means k w b (suc l) → Backs k w b s → (c x : ℕ) → x < FAR
      → Finishes (stretch_of k w s m (behind_of s (cleared_of w b l s k.initial) (rest_from w b (suc l) m)))
      s.first c x
      ↔ Left k w b.end s.first s.copy c m x
  stretch_left means backs c x far =
      let last = rest_from w b (suc l) (memory_at k s m s.end) in
      let lasts = behind_right k w b l means seg.closes (memory_at k s m s.end) in
      rw (behind_memory, memory_first) at (finishes_left last backs lasts s.first c x (le_refl _) seg.order far)
