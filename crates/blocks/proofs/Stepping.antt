-- A step that is taken: the walk stands where it leads, with one step less to pay, and the shortest schedule goes on
-- from there.
use Prim.Native.Nat.{ℕ, zero, suc, ◌-◌, ◌≤◌, ◌<◌}
use native.Mathlib.Nat.{le_refl, le_trans}
use native.Mathlib.Omega.{arith}
use mathlib.Core.Path.{◌≡◌, sym, ap, ◌∙◌}
use mathlib.Core.Logic.{◌≢◌}
use mathlib.Core.Bool.{not}
use mathlib.Core.List.{List, [], ◌∷◌}
use lib.Dec.{eqb}
use Rattle.std.specs.Prelude.{None, Some}
use Rattle.model.specs.Cxl0.{Machine, Value, Topology, Event}
use Rattle.model.specs.Sharers.{has}
use Rattle.model.specs.OneLocation as one
use Rattle.model.specs.OneLocation.{Local}
use Rattle.model.proofs.Tests.{and_r}
use Rattle.model.proofs.Sharers.{has_bound}
use Rattle.model.proofs.Payments.{pays_more}
use Rattle.entries.specs.Entries.{site_meant}
use Rattle.entries.specs.declared.Site.{Site}
use Rattle.rows.specs.Sites.{Describes}
use Rattle.scratch.specs.Layout.{STEPS, BACKS, OnlyIn}
use Rattle.scratch.specs.Words.{events_from}
use Rattle.scratch.proofs.Frames.{only_none, only_then, only_wider}
use Rattle.levels.specs.Stretches.{Stretch}
use Rattle.levels.specs.Tasks.{Ready, Tasked, Leveled}
use Rattle.levels.specs.declared.Task.{Task}
use Rattle.segments.specs.Words.{segment_in}
use Rattle.segments.specs.Segments.{Costs, stretch_of, memory_at}
use Rattle.segments.specs.declared.words.Block.{Block}
use Rattle.segments.proofs.Kept.{Kept, kept_events, kept_cost}
use Rattle.walking.specs.Trails.{step_at}
use Rattle.blocks.specs.declared.treading.Stand.{Stand}
use Rattle.blocks.specs.Toward.{Toward, Walked, can_step, after_step, Still}
use Rattle.blocks.specs.declared.treading.Silent.{Silent}
use Rattle.blocks.specs.Treading.{STAY, number_of, Payable, Standing, stood, Takes, Chosen, Takeable, Taken}
use Rattle.blocks.proofs.Towards.{toward_step, all_ahead, walked_step, walked_nothing, walked_area, walked_then}
use Rattle.blocks.proofs.Choosing.{after_write, after_move, can_move, can_copy, step_lowers}
use Rattle.blocks.proofs.Keeping.{kept_both, tasked_before, payable_same}

-- ---- from a later gap on

-- From a later gap on the task is that of the same stretch, and its numbers are right.
pub tasked_later : {q : Task} {first t : ℕ} {w : List ℕ} {z : Stretch} → first ≤ t → Tasked q first w z → Tasked q t w z
tasked_later h s =
    record {
      owner = s.owner;
      end = s.end;
      last = s.last;
      events = λ j a. s.events j (le_trans h a);
      inner = λ j a. s.inner j (le_trans h a);
      backs = λ j a. s.backs j (le_trans h a);
      reads = λ j a. s.reads j (le_trans h a);
      accepts = s.accepts;
    }

pub ready_later : {q : Task} {first t : ℕ} {w : List ℕ} → first ≤ t → t ≤ q.end → Ready q first w → Ready q t w
ready_later h few r =
    record {
      room = r.room;
      order = few;
      few = r.few;
      owner = r.owner;
      known = λ j a. r.known j (le_trans h a);
      low_last = r.low_last;
      low_back = λ j a. r.low_back j (le_trans h a);
      high_last = r.high_last;
      high_back = λ j a. r.high_back j (le_trans h a);
      stretch = r.stretch;
      tasked = tasked_later h r.tasked;
    }

-- ---- the step

module _ {site : Site} {b : Block} {l : ℕ} {m : Value} {q : Task} {t : ℕ} {p : Stand} {w : List ℕ} {step : Silent}
    (task : Payable site b l m q w) (stands : Standing site b l m q t p w)
    (chosen : Chosen site b l t p w (Some step)) where
  abbrev i : Machine
  i = number_of step

  abbrev k : one.Site
  k = site_meant site

  abbrev ahead : List Event
  ahead = events_from w t (b.end - t)

  abbrev here : Local
  here = stood w l p

  taking : Takes site b l t p w step
  taking = chosen.takes

  some : 0 < p.steps
  some = taking.some

  can : can_step k i here
  can = taking.can

  -- It can be taken.
  pub takeable : Takeable site q t step p w
  takeable =
      record {
        ready = ready_later stands.from (rw task.end stands.to) task.ready;
        owner = task.owner;
        takes = taking.is;
        fits = stands.fits;
        some = some;
        finite = stands.finite;
        low = stands.low;
        space = omega (arith, stands.space, some);
      }

  module _ {p' : Stand} {w' : List ℕ} (taken : Taken site (segment_in w l).copy q t i p w p' w') where
    kept : Kept w w'
    kept = kept_both taken.frame stands.low (le_refl BACKS)

    -- The state that it leads to.
    leads : stood w l p' ≡ after_step k i here
    leads = taken.stepped.leads

    fewer : p.steps ≡ suc p'.steps
    fewer = sym taken.stepped.steps

    -- There so many steps are left to pay.
    costs_less : Costs k w b.end t (segment_in w l).copy p'.code p'.memory p'.steps
    costs_less =
        record {
          most = omega (arith, stands.finite, fewer);
          exact = λ x far. (
            λ pays.
                let less = step_lowers task stands i can x (rw (← leads) pays) in
                omega (arith, fewer),
            λ few. rw leads (pays_more k taking.pays (omega (arith, fewer))),
          );
        }

    -- If there is a copy then, the step was a move: memory is as it was, and the masks are there.
    held_after : p'.code ≢ 0
        → (p'.memory ≡ memory_at k (segment_in w' l) m t)
        × (q.low < p'.steps → Leveled (stretch_of k w' (segment_in w' l) m q.last) t (p'.steps - 1) w')
    held_after copy =
        let move : 1 ≤ i = moved_copy i leads in
        let memory : p'.memory ≡ p.memory = ap (λ (s : Local). s.memory) (leads ∙ after_move k i here move) in
        let before = tasked_before taken.frame stands.low (le_refl BACKS) task in (
          rw (kept.segments l) (memory ∙ (stands.held (can_copy k i here can)).0),
          λ above. taken.levels move above _ (tasked_later stands.from before),
        )
      where
        -- A write-back leaves no copy.
        moved_copy : (i : Machine) → stood w l p' ≡ after_step k i here → 1 ≤ i
        moved_copy zero e = absurd (copy (ap (λ (s : Local). s.code) (e ∙ after_write k here)))
        moved_copy (suc i) e = omega arith

    -- The walk stands there.
    pub taken_standing : Standing site b l m q t p' w'
    taken_standing =
        let same = kept.segments l in
        record {
          from = rw same stands.from;
          to = rw same stands.to;
          fits = taken.stepped.fits;
          finite = omega (arith, stands.finite, fewer);
          costs = rw same (kept_cost kept task.short costs_less);
          low = omega (arith, stands.low, taken.stepped.end);
          space = omega (arith, stands.space, fewer, taken.stepped.end);
          held = held_after;
        }

    -- The step is a part of the shortest schedule,
    toward_taken : (sys : Topology) → Describes sys site
        → Toward sys site.location.0 t ahead here (step_at t site.location.0 i ∷ []) t ahead (after_step k i here)
    toward_taken sys d =
        let x = site.location.0 in
        toward_step sys x k d.here p'.steps i
        (all_ahead x w b.end t task.here)
        can
        (λ pays. omega (arith, (stands.costs.exact p'.steps (omega (arith, stands.finite, fewer))).0 pays, fewer))
        (pays_more k taking.pays (omega (arith, fewer)))
        (λ j less can_too. chosen.least j less can_too p'.steps (omega (arith, fewer)))

    -- and is noted.
    pub taken_walked : site.location.0 < 256
        → Walked site b.end w t (stood w l p) p.end w' t (stood w l p') p'.end
    taken_walked small =
        rw (leads, taken.stepped.end)
        (walked_step i taken.word (omega (arith, stands.to, task.segment.inside, task.short)) small toward_taken)

-- ---- the steps of a gap

-- From p at gap f the walk has come to p' at gap t: the steps between them are noted.
pub record Underway (site : Site) (b : Block) (l : ℕ) (m : Value) (q : Task) (f t : ℕ) (p : Stand) (w : List ℕ)
    (p' : Stand) (w' : List ℕ) : Type 0 where
  pub frame : OnlyIn p.end BACKS w w'
  pub payable : Payable site b l m q w'
  pub standing : Standing site b l m q t p' w'
  pub walked : Walked site b.end w f (stood w l p) p.end w' t (stood w l p') p'.end

-- Only machines 1 to 6 have copies to move.
can_six : (k : one.Site) (i : Machine) (s : Local) → s.code < 64 → can_step k i s → i < STAY
can_six k zero s fits can = omega arith
can_six k (suc i) s fits can =
    let moves = rw (can_move k (suc i) s (omega arith)) at can in
    let held = and_r (not (eqb (suc i) k.owner)) (has (suc i) s.code) moves in
    omega (arith, has_bound 6 (suc i) s.code fits held)

module _ {site : Site} {b : Block} {l : ℕ} {m : Value} {q : Task} {f t : ℕ} {p : Stand} {w : List ℕ}
    {p' : Stand} {w' : List ℕ} (low : STEPS ≤ p.end) (under : Underway site b l m q f t p w p' w') where
  -- Events and segments are as they were.
  pub kept_under : Kept w w'
  kept_under = kept_both under.frame low (le_refl BACKS)

  pub events_under : (j : ℕ) → events_from w' j (b.end - j) ≡ events_from w j (b.end - j)
  events_under j = kept_events kept_under j (b.end - j) (λ some. omega (arith, under.payable.short))

  -- What is noted from there on is noted behind it.
  pub underway_then : {t'' : ℕ} {p'' : Stand} {w'' : List ℕ} → OnlyIn p'.end BACKS w' w''
      → Standing site b l m q t'' p'' w''
      → Walked site b.end w' t (stood w' l p') p'.end w'' t'' (stood w' l p'') p''.end
      → Underway site b l m q f t'' p w p'' w''
  underway_then only stands walked =
      let behind : p.end ≤ p'.end = omega (arith, under.walked.ends) in
      record {
        frame = only_then under.frame (only_wider only behind (le_refl BACKS));
        payable = payable_same only under.standing.low (le_refl BACKS) under.payable;
        standing = stands;
        walked =
            walked_then only under.walked
            (walked_area events_under (rw (kept_under.segments l) at walked));
      }

  -- One step more.
  pub underway_step : {step : Silent} {p'' : Stand} {w'' : List ℕ} → site.location.0 < 256
      → Chosen site b l t p' w' (Some step)
      → Taken site (segment_in w l).copy q t (number_of step) p' w' p'' w''
      → Underway site b l m q f t p w p'' w''
  underway_step small chosen taken =
      let took = rw (← kept_under.segments l) at taken in
      let task = under.payable in
      let stands = under.standing in
      underway_then taken.frame
      (taken_standing task stands chosen took)
      (taken_walked task stands chosen took small)

  -- No silent step is worth taking where none is chosen.
  pub underway_still : Chosen site b l t p' w' None
      → Still (site_meant site) (events_from w t (b.end - t)) (stood w l p') p'.steps
  underway_still chosen =
      let here = stood w' l p' in
      let fits = under.standing.fits in
      rw (← events_under t, ← kept_under.segments l)
      (λ j can. chosen.least j (can_six (site_meant site) j here fits can) can)

-- At first there are none.
pub underway_none : {site : Site} {b : Block} {l : ℕ} {m : Value} {q : Task} {t : ℕ} {p : Stand} {w : List ℕ}
    → Payable site b l m q w → Standing site b l m q t p w → Underway site b l m q t t p w p w
underway_none {p = p} {w} task stands =
    record {
      frame = only_none p.end BACKS w;
      payable = task;
      standing = stands;
      walked = walked_nothing w p.end;
    }
