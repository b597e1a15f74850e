-- Walking on with the shortest schedule, part by part: parts follow one another, and a silent step or the event is such
-- a part where the walk takes it.
use Prim.Native.Nat.{ℕ, suc, ◌+◌, ◌-◌, ◌≤◌, ◌<◌}
use native.Mathlib.Nat.{le_refl, le_trans}
use native.Mathlib.Omega.{arith}
use mathlib.Core.Path.{◌≡◌, refl, sym, ◌∙◌, subst}
use mathlib.Core.Logic.{⊎_elim}
use mathlib.Core.List.{List, [], ◌∷◌, ◌++◌, map, map-append, append_assoc}
use mathlib.Core.List.Memᴰ
use lib.Dec.{T}
use lib.ListN.{length, length-append}
use Rattle.model.specs.Cxl0.{Machine, Location, Topology, Event, event, silent}
use Rattle.model.specs.Schedule.{Step, silent_of}
use Rattle.model.specs.OneLocation.{Local, Site, site_of, event_at, enabled_at, effect}
use Rattle.model.specs.ShortestAt.{Within, ShortestFrom}
use Rattle.model.specs.Paying.{Pays}
use Rattle.model.specs.Words.{step_of_word}
use Rattle.model.proofs.RunsOf.{own_step, named_step}
use Rattle.model.proofs.Greedy.{within_more, shortest_within, shortest_event, shortest_step}
use Rattle.model.proofs.Payments.{AllAt, enabled_step, effect_step, possible-at, next-at, pays_within, pays_cons}
use Rattle.entries.specs.declared.Site as site
use Rattle.rows.specs.Sites.{Describes}
use Rattle.scratch.specs.Layout.{OnlyIn}
use Rattle.scratch.specs.Words.{event_in, events_from, words_at}
use Rattle.scratch.proofs.Events.{events_all}
use Rattle.scratch.proofs.Segments.{words_from, words_two, words_kept}
use Rattle.walking.specs.Trails.{step_at, word_of}
use Rattle.walking.proofs.StepWords.{word_steps}
use Rattle.blocks.specs.Toward.{Toward, Walked, can_step, after_step, Still}

module _ (sys : Topology) (x : Location) where
  -- ---- one part after another

  -- Nothing leads from a place to itself.
  pub toward_nothing : {n : ℕ} {es : List Event} {s : Local} → Toward sys x n es s [] n es s
  toward_nothing ps h = h

  -- One part after another.
  pub toward_then : {n n' n'' : ℕ} {es es' es'' : List Event} {s s' s'' : Local} (us vs : List Step)
      → Toward sys x n es s us n' es' s' → Toward sys x n' es' s' vs n'' es'' s''
      → Toward sys x n es s (us ++ vs) n'' es'' s''
  toward_then us vs p q ps h = rw (append_assoc us vs ps) (p (vs ++ ps) (q ps h))

  -- ---- greedy parts

  module _ (k : Site) (same : site_of sys x ≡ k) where
    -- No more steps than are paid with are in the shortest schedule.
    few : {n : ℕ} {es : List Event} {s : Local} {ps : List Step} {r : ℕ} → AllAt x es → ShortestFrom sys x n es s ps
        → Pays k es s r → length ps ≤ r
    few {es = es} {s} {r = r} here h p =
        (shortest_within sys x h r).0 ((pays_within sys x es here s r).1 (rw same p))

    -- And so many do not suffice where r do not.
    not_within : {es : List Event} {s : Local} {l r : ℕ} → AllAt x es → l ≤ r → ¬ Pays k es s r → ¬ Within sys x es s l
    not_within {es} {s} {r = r} here h none w =
        none (rw same at ((pays_within sys x es here s r).0 (within_more sys x w h)))

    -- What a step asks and leaves, wherever it stands.
    step_here : (t : ℕ) (i : Machine) (s : Local)
        → enabled_at (site_of sys x) (silent (silent_of (own_step x t i))) s
        ≡ enabled_at k (silent (silent_of (step_at 0 0 i))) s
    step_here t i s = rw same (enabled_step k x t i s)

    step_leads : (t : ℕ) (i : Machine) (s : Local)
        → effect (site_of sys x) (silent (silent_of (own_step x t i))) s ≡ after_step k i s
    step_leads t i s = rw same (effect_step k x t i s)

    -- A silent step by machine i, if r steps suffice behind it, but neither here nor behind one by a lesser machine.
    pub toward_step : {t : ℕ} {es : List Event} {s : Local} (r : ℕ) (i : Machine) → AllAt x es → can_step k i s
        → ¬ Pays k es s r → Pays k es (after_step k i s) r
        → ((j : Machine) → j < i → can_step k j s → ¬ Pays k es (after_step k j s) r)
        → Toward sys x t es s (step_at t x i ∷ []) t es (after_step k i s)
    toward_step {t} {es} {s} r i here can none pays least ps h =
        let most = few here h pays in
        shortest_step sys x t es s i ps
        (rw (step_here t i s) can)
        (rw (step_leads t i s) h)
        (not_within here most none)
        (λ j l e. rw (step_leads t j s) (not_within here most (least j l (rw (step_here t j s) at e))))

    -- The event, if it is possible, r steps suffice behind it, and no silent step leaves less than r to pay.
    pub toward_event : {t : ℕ} {e : Event} {es : List Event} {s : Local} (r : ℕ) → AllAt x (e ∷ es)
        → T (enabled_at k (event e) s) → Still k (e ∷ es) s r → Pays k es (effect k (event e) s) r
        → Toward sys x t (e ∷ es) s [] (suc t) es (effect k (event e) s)
    toward_event {t} {e} {es} {s} r here can still pays ps h =
        let own = here e (Memᴰ.head refl) in
        let most = few (λ d m. here d (Memᴰ.tail m)) h pays in
        shortest_event sys x t e es s ps
        (rw (possible-at sys x e s own, same) can)
        (rw (next-at sys x e s own, same) h)
        (λ a at can l less.
        let name = named_step sys x t a s at can in
        let j = name.0 in
        let enabled = rw (name.2, step_here t j s) at can in
        rw (name.2, step_leads t j s) (not_within here (le_refl l) (still j enabled l (le_trans less most))))

-- ---- without a step

-- Where r steps are to pay and no silent step leaves less, the event comes first.
pub still_event : {k : Site} {e : Event} {es : List Event} {s : Local} {r : ℕ} → Still k (e ∷ es) s r
    → Pays k (e ∷ es) s r → T (enabled_at k (event e) s) × Pays k es (effect k (event e) s) r
still_event {k} {r = r} still p =
    ⊎_elim (λ f. f) (λ (i, m, e, can, q). absurd (still i can m (rw e (le_refl _)) q)) (pays_cons k p)

-- ---- the events of the area

-- Where all events of the area concern x, those of a stretch do.
pub all_from : (x : Location) (w : List ℕ) (t m : ℕ)
    → ((j : ℕ) → t ≤ j → j < t + m → T (event_at x (event_in w j))) → AllAt x (events_from w t m)
all_from x w t m here = events_all (λ e. T (event_at x e)) w t m here

pub all_ahead : (x : Location) (w : List ℕ) (n t : ℕ) → ((j : ℕ) → j < n → T (event_at x (event_in w j)))
    → AllAt x (events_from w t (n - t))
all_ahead x w n t here = all_from x w t (n - t) (λ j a h. here j (omega arith))

-- ---- what is noted

module _ {site : site.Site} {n : ℕ} where
  -- Where the events come without a step, nothing is noted.
  pub walked_free : {w : List ℕ} (w' : List ℕ) {t t' : ℕ} {s s' : Local} (from : ℕ)
      → ((sys : Topology) → Describes sys site
      → Toward sys site.location.0 t (events_from w t (n - t)) s [] t' (events_from w t' (n - t')) s')
      → Walked site n w t s from w' t' s' from
  walked_free w' from toward =
      record { words = []; ends = omega arith; list = words_from from 0 w'; toward = toward }

  pub walked_nothing : {w : List ℕ} (w' : List ℕ) {t : ℕ} {s : Local} (from : ℕ) → Walked site n w t s from w' t s from
  walked_nothing w' from = walked_free w' from (λ sys d. toward_nothing sys site.location.0)

  -- What is noted is so of an area with the same events.
  pub walked_area : {w v w' : List ℕ} {t t' : ℕ} {s s' : Local} {from to : ℕ}
      → ((j : ℕ) → events_from v j (n - j) ≡ events_from w j (n - j))
      → Walked site n v t s from w' t' s' to → Walked site n w t s from w' t' s' to
  walked_area {t = t} {t'} same p =
      record {
        words = p.words;
        ends = p.ends;
        list = p.list;
        toward = λ sys d. rw (← same t, ← same t') (p.toward sys d);
      }

  -- One part after another, if the second leaves the words of the first.
  pub walked_then : {w w' w'' : List ℕ} {t t' t'' : ℕ} {s s' s'' : Local} {from mid to high : ℕ}
      → OnlyIn mid high w' w''
      → Walked site n w t s from w' t' s' mid → Walked site n w t' s' mid w'' t'' s'' to
      → Walked site n w t s from w'' t'' s'' to
  walked_then {w' = w'} {w''} {from = from} {mid} only p q =
      let us = p.words in
      let vs = q.words in
      let kept = words_kept only from (length us) (omega (arith, p.ends)) in
      let first : words_at from (length us) w'' ≡ us = kept ∙ p.list in
      let second : words_at (from + length us) (length vs) w'' ≡ vs = rw (← p.ends) q.list in
      record {
        words = us ++ vs;
        ends = omega (arith, p.ends, q.ends, length-append us vs);
        list = rw (length-append us vs) (words_two from (length us) (length vs) w'' ∙ rw (first, second));
        toward =
            λ sys d.
            rw (map-append step_of_word us vs)
            (toward_then sys site.location.0 (map step_of_word us) (map step_of_word vs)
            (p.toward sys d) (q.toward sys d));
      }

  -- A step that is noted, if it is a part of the shortest schedule.
  pub walked_step : {w w' : List ℕ} {t : ℕ} {s s' : Local} {from : ℕ} (i : Machine)
      → words_at from 1 w' ≡ word_of t site.location.0 i ∷ [] → t < 256 → site.location.0 < 256
      → ((sys : Topology) → Describes sys site
      → Toward sys site.location.0 t (events_from w t (n - t)) s (step_at t site.location.0 i ∷ [])
      t (events_from w t (n - t)) s')
      → Walked site n w t s from w' t s' (from + 1)
  walked_step {w} {t = t} {s} {s'} i word small low toward =
      let x = site.location.0 in
      let es = events_from w t (n - t) in
      record {
        words = word_of t x i ∷ [];
        ends = refl;
        list = word;
        toward =
            λ sys d.
            subst (λ (ps : List Step). Toward sys x t es s ps t es s')
            (sym (word_steps t x (i ∷ []) small low))
            (toward sys d);
      }
