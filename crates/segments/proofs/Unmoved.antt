-- Segments without a move: the walk over their events with a memory value that is not that of the copies, and what that
-- says of every other one.
use Prim.Native.Nat.{ℕ, zero, suc, ◌+◌, ◌-◌, ◌≤◌, ◌<◌}
use native.Mathlib.Nat.{le_refl}
use native.Mathlib.Omega.{arith}
use mathlib.Core.Path.{◌≡◌, refl, sym, ap, ◌∙◌}
use mathlib.Core.Logic.{◌≢◌, ◌↔◌, ◌⊎◌, inl, inr, ⊎_elim, ⊎_map}
use mathlib.Core.Bool.{Bool, true, false, cond, not, ◌||◌, true≢false}
use mathlib.Core.List.{List}
use lib.Dec.{T, eqb, eqb→eq}
use lib.Ieee.Fits.{eq→eqb}
use Rattle.model.specs.Cxl0.{Value, event}
use Rattle.model.specs.Cxl0.{Event, LStore, RStore, MStore, Load, LFlush, RFlush, Crash, SetCrash, RMW}
use Rattle.model.specs.Sharers.{has}
use Rattle.model.specs.OneLocation.{Local, Site, enabled_at, effect}
use Rattle.model.proofs.Tests.{by_test, ne_test, T→true, true→T, and_r, or_l, or_r, or_cases}
use Rattle.model.proofs.SilentSteps.{has→some}
use Rattle.entries.specs.Entries.{site_meant, short_of}
use Rattle.entries.specs.declared.Acted.{Acted}
use Rattle.entries.specs.declared.Site as site
use Rattle.rows.specs.Rows.{state}
use Rattle.scratch.specs.Words.{event_in}
use Rattle.scratch.specs.declared.Waypoint.{Waypoint}
use Rattle.walking.specs.Acting.{Acts}
use Rattle.levels.specs.declared.Task.{Task}
use Rattle.levels.specs.Stretches.{FAR, Stretch, state_at, Finishes, ends, acts, writes, moves, Inner}
use Rattle.levels.specs.Tasks.{accepting, Tasked}
use Rattle.levels.specs.declared.Closing.{Closing}
use Rattle.levels.specs.declared.Closing.TheVariants.{Open, Same, Other}
use Rattle.levels.proofs.Stretching.{ending}
use Rattle.segments.specs.declared.words.Segment.{Segment}
use Rattle.segments.specs.Weighing.{Unmoved, out, on, back, Seeable, Even, Seeing}
use Rattle.segments.proofs.Drained.{drained_leads, passes_same}

-- ---- one event

-- An event inside a stretch that is possible with a copy, or with a memory value that is not that of the copies, is
-- possible with every one, at every site.
possible_anyhow : (k j : Site) (e : Event) (c u m v n : ℕ) → Inner u e → Inner v e → (c ≡ 0 → m ≢ u)
    → T (enabled_at k (event e) (state c u m)) → T (enabled_at j (event e) (state c v n))
unfolding enabled_at Inner
possible_anyhow k j (LStore i x w) c u m v n inner own differs t = absurd inner
possible_anyhow k j (RStore i x w) c u m v n inner own differs t = absurd inner
possible_anyhow k j (MStore i x w) c u m v n inner own differs t = absurd inner
possible_anyhow k j (Load i x w) c u m v n inner own differs t = go (eqb c 0) (λ z. differs (eqb→eq c 0 z)) t
  where
    go : (b : Bool) → (T b → m ≢ u) → T (cond b (eqb m w) (eqb u w)) → T (cond b (eqb n w) (eqb v w))
    go true other r = absurd (other tt (eqb→eq m w r ∙ inner))
    go false other r = eq→eqb (sym own)
possible_anyhow k j (LFlush i x) c u m v n inner own differs t = t
possible_anyhow k j (RFlush i x) c u m v n inner own differs t = t
possible_anyhow k j (Crash i) c u m v n inner own differs t = t
possible_anyhow k j (SetCrash set) c u m v n inner own differs t = t
possible_anyhow k j (RMW form i x w z) c u m v n inner own differs t = absurd inner

-- The code after it is the same at every site, with every value of the copies and of memory.
code_anyhow : (k j : Site) (e : Event) (c u m v n : ℕ) → Inner u e
    → (effect k (event e) (state c u m)).code ≡ (effect j (event e) (state c v n)).code
unfolding effect Inner
code_anyhow k j (LStore i x w) c u m v n inner = absurd inner
code_anyhow k j (RStore i x w) c u m v n inner = absurd inner
code_anyhow k j (MStore i x w) c u m v n inner = absurd inner
code_anyhow k j (Load i x w) c u m v n inner = refl
code_anyhow k j (LFlush i x) c u m v n inner = refl
code_anyhow k j (RFlush i x) c u m v n inner = refl
code_anyhow k j (Crash i) c u m v n inner = refl
code_anyhow k j (SetCrash set) c u m v n inner = refl
code_anyhow k j (RMW form i x w z) c u m v n inner = absurd inner

-- What follows the last event accepts a code with the value of the copies in memory, if it does so without it, or if
-- there is no copy.
accepts_read : (closing : Closing) (c : ℕ) (read : Bool)
    → accepting closing read c ≡ cond read (accepting closing false c || eqb c 0) (accepting closing false c)
accepts_read closing c false = refl
accepts_read Open c true = refl
accepts_read Same c true = go (eqb c 0)
  where
    go : (none : Bool) → (not none || true) ≡ ((not none || false) || none)
    go true = refl
    go false = refl
accepts_read Other c true = go (eqb c 0)
  where
    go : (none : Bool) → none ≡ (none || none)
    go true = refl
    go false = refl

-- ---- one gap

-- Event e is possible with code c at gap t, and at most l steps are to pay after it, without a move.
abbrev Passes : Stretch → Event → (t c l : ℕ) → Type 0
Passes q e t c l =
    T (enabled_at q.site (event e) (state_at q t c))
    × Unmoved q (suc t) (effect q.site (event e) (state_at q t c)).code l

-- Code c may be written back, and the n steps that are left to pay then are fewer than l.
abbrev Writes : site.Site → (n c l : ℕ) → Type 0
Writes at n c l = T (has at.owner.0 c) × (n < l)

-- The stretch is that of an even task of the segment.
pub record EvenOn (at : site.Site) (s : Segment) (w : List ℕ) (q : Stretch) (read : Bool) (n : ℕ) : Type 0 where
  pub task : Task
  pub even : Even at s w task read n
  pub tasked : Tasked task s.first w q

module _ {at : site.Site} {s : Segment} {w : List ℕ} {q : Stretch} {read : Bool} {n : ℕ}
    (of : EvenOn at s w q read n) where
  -- What the segment says of the stretch: its end, its owner, its events, its write-backs and its memory.
  pub end_is : q.end ≡ s.end
  end_is = of.tasked.end ∙ of.even.end

  pub owner_is : q.site.owner ≡ at.owner.0
  owner_is = of.tasked.owner ∙ of.even.owner

  event_is : {t : ℕ} → s.first ≤ t → t < s.end → q.event t ≡ event_in w t
  event_is {t} from h = of.tasked.events t from (rw of.even.end h)

  inner_is : {t : ℕ} → s.first ≤ t → t < s.end → Inner q.copy (event_in w t)
  inner_is {t} from h = of.tasked.inner t from (rw of.even.end h)

  pub back_is : {t : ℕ} → s.first ≤ t → t ≤ s.end → q.back t ≡ n
  back_is {t} from h = of.tasked.backs t from (rw of.even.end h) ∙ of.even.backs t from h

  reads_is : {t : ℕ} → s.first ≤ t → t ≤ s.end → eqb (q.memory t) q.copy ≡ read
  reads_is {t} from h = of.tasked.reads t from (rw of.even.end h) ∙ of.even.reads t from h

  accepts_is : (c : ℕ) → s.first ≤ s.end → q.accepts c ≡ accepting s.closing read c
  accepts_is c order =
      of.tasked.accepts c ∙ rw (of.even.end, of.even.closing, of.even.reads s.end order (le_refl s.end))

  -- A write-back at a gap.
  writes_back : {t c l : ℕ} → s.first ≤ t → t ≤ s.end → Writes at n c l → Unmoved q t c l
  writes_back {t} {c} {l} from h (o, less) =
      let owns : T (has q.site.owner c) = rw owner_is o in
      let pays : q.back t < l = rw (back_is from h) less in
      back owns pays

  -- Before the last gap: the event, or a write-back.
  unmoved_inner : {t c l : ℕ} → s.first ≤ t → t < s.end
      → Unmoved q t c l ↔ (Passes q (event_in w t) t c l ⊎ Writes at n c l)
  unmoved_inner from h =
      let is = event_is from h in
      (there from h, ⊎_elim (λ f. on (rw end_is h) (rw is f.0) (rw is f.1)) (writes_back from (omega arith)))
    where
      there : {t c l : ℕ} → s.first ≤ t → t < s.end → Unmoved q t c l
          → Passes q (event_in w t) t c l ⊎ Writes at n c l
      there from h (out e a b) = absurd (omega (arith, end_is))
      there from h (on b e f) = inl (rw (event_is from h) at e, rw (event_is from h) at f)
      there from h (back o b) = inr (rw owner_is at o, rw (back_is from (omega arith)) at b)

  -- At the last gap: what follows it, or a write-back.
  unmoved_end : {t c l : ℕ} → s.first ≤ t → t ≡ s.end
      → Unmoved q t c l ↔ ((T (accepting s.closing read c) × (q.last ≤ l)) ⊎ Writes at n c l)
  unmoved_end {t} {c} from z =
      let order : s.first ≤ s.end = omega arith in (
        there from z,
        ⊎_elim (λ f. out (z ∙ sym end_is) (rw (accepts_is c order) f.0) f.1) (writes_back from (omega arith)),
      )
    where
      there : {t c l : ℕ} → s.first ≤ t → t ≡ s.end → Unmoved q t c l
          → (T (accepting s.closing read c) × (q.last ≤ l)) ⊎ Writes at n c l
      there {c = c} from z (out e a b) = inl (rw (accepts_is c (omega arith)) at a, b)
      there from z (on b e f) = absurd (omega (arith, end_is))
      there from z (back o b) = inr (rw owner_is at o, rw (back_is from (omega arith)) at b)

  -- Without a copy there is none after an event,
  none_after : {t : ℕ} → s.first ≤ t → t < s.end
      → (effect q.site (event (event_in w t)) (state_at q t 0)).code ≡ 0
  none_after {t} from h =
      ap (λ (l : Local). l.code) (drained_leads q.site q.copy (event_in w t) (q.memory t) (inner_is from h))

  -- so that what is to pay is what is behind the last gap,
  none_pays : {t c l : ℕ} → s.first ≤ t → c ≡ 0 → Unmoved q t c l → q.last ≤ l
  none_pays from z (out e a b) = b
  none_pays {t} {c} from z (back o b) = absurd (has→some q.site.owner c o z)
  none_pays {t} from z (on b e f) =
      let h : t < s.end = rw (← end_is) b in
      none_pays (omega arith) (rw (z, event_is from h) (none_after from h)) f

  -- to which all events lead if memory has the value of the copies.
  none_passes : (k : ℕ) {t l : ℕ} → read ≡ true → s.first ≤ t → t + k ≡ s.end → q.last ≤ l → Unmoved q t 0 l
  none_passes zero reads from z less =
      let accepts : T (accepting s.closing read 0) =
      rw (accepts_read s.closing 0 read, reads) (or_r (accepting s.closing false 0) true tt)
      in
      (unmoved_end from (omega arith)).1 (inl (accepts, less))
  none_passes (suc k) {t} reads from z less =
      let h : t < s.end = omega arith in
      let same = eqb→eq (q.memory t) q.copy (true→T (reads_is from (omega arith) ∙ reads)) in
      (unmoved_inner from h).1
      (inl (
        passes_same q.site q.copy (event_in w t) (q.memory t) same (inner_is from h),
        rw (none_after from h) (none_passes k reads (omega arith) (omega arith) less),
      ))

  -- And no copy comes to be written back.
  pub none_written : {t c l : ℕ} → s.first ≤ t → c ≡ 0 → l < FAR → ¬ Finishes (ending q FAR) t c l
  none_written from z far (ends e a b) = absurd (omega arith)
  none_written {c = c} from z far (writes o b) = absurd (has→some q.site.owner c o z)
  none_written {c = c} from z far (moves i v f) =
      absurd (has→some i c (and_r (not (eqb i q.site.owner)) (has i c) v) z)
  none_written {t} from z far (acts b e f) =
      let h : t < s.end = rw (← end_is) b in
      none_written (omega arith) (rw (z, event_is from h) (none_after from h)) far f

-- ---- the walk

-- What holds of every stretch of an even task of the segment, and of every number of steps.
abbrev Evenly : site.Site → Segment → List ℕ → ((q : Stretch) (read : Bool) (n l : ℕ) → Type 0) → Type 0
Evenly at s w P = (q : Stretch) (read : Bool) (n : ℕ) → EvenOn at s w q read n → (l : ℕ) → P q read n l

-- What is to pay from the start of the segment is what is to pay from code c at gap t, or after a write-back on the
-- way, if the owner had a copy.
abbrev Leads : Segment → (t c : ℕ) → Bool → (q : Stretch) (read : Bool) (n l : ℕ) → Type 0
Leads s t c owned q read n l =
    Unmoved q s.first s.code l ↔ (Unmoved q t c l ⊎ ((owned ≡ true) × (n < l)))

-- What is to pay from code c at gap t is what is behind the last gap, if `same` or `other` says that the events lead
-- there, or after a write-back at gap t.
abbrev Ends : site.Site → (t c : ℕ) → (other same : Bool) → (q : Stretch) (read : Bool) (n l : ℕ) → Type 0
Ends at t c other same q read n l =
    Unmoved q t c l ↔ (((cond read same other ≡ true) × (q.last ≤ l)) ⊎ Writes at n c l)

-- The walk has come from the first gap of the segment to code c at gap t, and `owned` says whether the owner had a copy
-- on the way.
pub record Walked (at : site.Site) (s : Segment) (w : List ℕ) (t c : ℕ) (owned : Bool) : Type 0 where
  pub from : s.first ≤ t
  pub inside : t ≤ s.end
  pub fits : c < 64
  pub holds : T (has at.owner.0 c) → owned ≡ true
  pub leads : Evenly at s w (Leads s t c owned)

-- With the value m in memory.
abbrev pub standing : ℕ → Value → Waypoint
standing c m = record { code = c; memory = m; end = 0 }

module _ {at : site.Site} {s : Segment} {w : List ℕ} (ok : Seeable at s w) where
  -- The walk begins.
  pub walked_none : {owned : Bool} → owned ≡ has at.owner.0 s.code
      → Walked at s w s.first s.code owned
  walked_none {owned} is =
      record {
        from = le_refl s.first;
        inside = ok.order;
        fits = ok.code;
        holds = λ o. is ∙ T→true o;
        leads = λ q read n of l. (
          inl,
          ⊎_elim (λ f. f) (λ b. writes_back of (le_refl s.first) ok.order (true→T (sym is ∙ b.0), b.1)),
        );
      }

  module _ {t c : ℕ} {owned : Bool} (so : Walked at s w t c owned) where
    -- What is to pay from there says what was seen.
    seen_from : {other same : Bool} → Evenly at s w (Ends at t c other same)
        → Seeing at s w (record { other = other; same = same; owned = owned })
    seen_from paid =
        record {
          exact =
              λ {task} {read} {n} even {q} tasked l.
              let of : EvenOn at s w q read n = record { task = task; even = even; tasked = tasked } in
              let here = paid q read n of l in
              let start = so.leads q read n of l in (
                λ f. ⊎_elim (λ g. ⊎_map (λ p. p) (λ b. (so.holds b.0, b.1)) (here.0 g)) inr (start.0 f),
                λ f. start.1 (⊎_map (λ p. here.1 (inl p)) (λ b. b) f),
              );
        }

    module _ {m : Value} {made : Acted} (h : t < s.end) (differs : m ≢ s.copy)
        (did : Acts at (event_in w t) s.copy (standing c m) made) where
      -- An event that is possible with a memory value that is not that of the copies leads on in every stretch.
      goes_on : made.enabled ≡ true → Evenly at s w (λ q read n l.
          Unmoved q t c l ↔ (Unmoved q (t + 1) made.entry.sharers l ⊎ Writes at n c l))
      unfolding short_of
      goes_on enabled q read n of l =
          let k = site_meant at in
          let e = event_in w t in
          let inner = ok.inner t so.from h in
          let own = inner_is of so.from h in
          let can : T (enabled_at k (event e) (state c s.copy m)) = true→T (sym did.enabled ∙ enabled) in
          let code : made.entry.sharers ≡ (effect k (event e) (state c s.copy m)).code =
          ap (λ (l : Local). l.code) did.leads
          in
          let same = code ∙ code_anyhow k q.site e c s.copy m q.copy (q.memory t) inner in
          let one : t + 1 ≡ suc t = omega arith in
          let here = unmoved_inner of so.from h in (
            λ f. ⊎_map (λ p. rw (one, same) p.1) (λ b. b) (here.0 f),
            λ f. here.1 (⊎_map (λ g. (
              possible_anyhow k q.site e c s.copy m q.copy (q.memory t) inner own (λ z. differs) can,
              rw (← same, ← one) g,
            )) (λ b. b) f),
          )

      -- One such event more.
      pub walked_more : {more : Bool} → made.enabled ≡ true → more ≡ has at.owner.0 made.entry.sharers
          → Walked at s w (t + 1) made.entry.sharers (owned || more)
      walked_more {more} enabled is =
          record { from = from; inside = inside; fits = did.fits; holds = λ o. later (rw is o); leads = leads }
        where
          from : s.first ≤ t + 1
          from = omega (arith, so.from)

          inside : t + 1 ≤ s.end
          inside = omega arith

          earlier : owned ≡ true → (owned || more) ≡ true
          earlier e = T→true (or_l owned more (true→T e))

          later : T more → (owned || more) ≡ true
          later o = T→true (or_r owned more o)

          leads : Evenly at s w (Leads s (t + 1) made.entry.sharers (owned || more))
          leads q read n of l =
              let start = so.leads q read n of l in
              let here = goes_on enabled q read n of l in
              let onward : Unmoved q (t + 1) made.entry.sharers l → Unmoved q s.first s.code l =
              λ f. start.1 (inl (here.1 (inl f)))
              in (
                λ f.
                    ⊎_elim (λ g. ⊎_map (λ p. p) (λ b. (earlier (so.holds b.0), b.1)) (here.0 g))
                    (λ b. inr (earlier b.0, b.1)) (start.0 f),
                ⊎_elim onward (λ b.
                    ⊎_elim (λ o. start.1 (inr (T→true o, b.1)))
                    (λ o. onward (writes_back of from inside (rw is at o, b.1)))
                    (or_cases owned more (true→T b.0))),
              )

      -- An event that is not: there is no way on, but with the value of the copies in memory and without a copy.
      pub walked_stuck : made.enabled ≡ false
          → Seeing at s w (record { other = false; same = eqb c 0; owned = owned })
      walked_stuck enabled = seen_from paid
        where
          -- Elsewhere it is not possible either.
          stops : (q : Stretch) (read : Bool) (n : ℕ) → EvenOn at s w q read n → (l : ℕ) → (c ≡ 0 → read ≡ false)
              → Unmoved q t c l → Writes at n c l
          stops q read n of l other f =
              let k = site_meant at in
              let e = event_in w t in
              let inner = ok.inner t so.from h in
              let own = inner_is of so.from h in
              let reads = reads_is of so.from so.inside in
              let differ : c ≡ 0 → q.memory t ≢ q.copy =
              λ z same. true≢false (sym (T→true (eq→eqb same)) ∙ reads ∙ other z)
              in
              ⊎_elim
              (λ p.
              let can = possible_anyhow q.site k e c q.copy (q.memory t) s.copy m own inner differ p.0 in
              absurd (true≢false (sym (T→true can) ∙ sym did.enabled ∙ enabled)))
              (λ b. b)
              ((unmoved_inner of so.from h).0 f)

          paid : Evenly at s w (Ends at t c false (eqb c 0))
          paid q false n of l = (
            λ f. inr (stops q false n of l (λ z. refl) f),
            ⊎_elim (λ p. absurd (true≢false (sym p.0))) (writes_back of so.from so.inside),
          )
          paid q true n of l =
              by_test (eqb c 0)
              (λ none.
              let z = eqb→eq c 0 none in (
                λ f. inl (T→true none, none_pays of so.from z f),
                ⊎_elim (λ p. rw z (none_passes of (s.end - t) refl so.from (omega (arith, so.inside)) p.1))
                    (writes_back of so.from so.inside),
              ))
              (λ some.
              let copy = ne_test c 0 some in (
                λ f. inr (stops q true n of l (λ z. absurd (copy z)) f),
                ⊎_elim (λ p. absurd (copy (eqb→eq c 0 (true→T p.0)))) (writes_back of so.from so.inside),
              ))

    -- All events: what follows them accepts the code, or does not.
    pub walked_all : {other : Bool} → s.end ≤ t → other ≡ accepting s.closing false c
        → Seeing at s w (record { other = other; same = other || eqb c 0; owned = owned })
    walked_all {other} h is = seen_from paid
      where
        paid : Evenly at s w (Ends at t c other (other || eqb c 0))
        paid q read n of l =
            let accepts : accepting s.closing read c ≡ cond read (other || eqb c 0) other =
            rw is (accepts_read s.closing c read)
            in
            let here = unmoved_end of so.from (omega (arith, so.inside)) in (
              λ f. ⊎_map (λ p. (sym accepts ∙ T→true p.0, p.1)) (λ b. b) (here.0 f),
              λ f. here.1 (⊎_map (λ p. (true→T (accepts ∙ p.0), p.1)) (λ b. b) f),
            )
