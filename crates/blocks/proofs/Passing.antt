-- An event of a segment where no silent step is worth taking: it comes next, and the walk stands at the next gap, with
-- as many steps to pay.
use Prim.Native.Nat.{ℕ, suc, ◌-◌, ◌<◌}
use native.Mathlib.Nat.{lt_of_lt_of_le}
use native.Mathlib.Omega.{arith}
use mathlib.Core.Path.{◌≡◌, sym, ap, ◌∙◌}
use mathlib.Core.Logic.{◌≢◌}
use mathlib.Core.List.{List, [], ◌∷◌}
use lib.Dec.{T}
use Rattle.model.specs.Cxl0 as cxl0
use Rattle.model.specs.Cxl0.{Value, Topology, Event}
use Rattle.model.specs.OneLocation as one
use Rattle.model.specs.OneLocation.{Local, enabled_at, effect}
use Rattle.model.specs.Paying.{Pays, acts}
use Rattle.model.proofs.Payments.{pays_more}
use Rattle.entries.specs.Entries.{site_meant}
use Rattle.entries.specs.declared.Site.{Site}
use Rattle.rows.specs.Rows.{state}
use Rattle.rows.specs.Sites.{Describes}
use Rattle.scratch.specs.Words.{event_in, events_from}
use Rattle.levels.specs.Tasks.{Leveled}
use Rattle.levels.specs.declared.Task.{Task}
use Rattle.segments.specs.Words.{segment_in}
use Rattle.segments.specs.Segments.{Costs, stretch_of, memory_at}
use Rattle.segments.specs.declared.words.Block.{Block}
use Rattle.segments.proofs.Paying.{events_first, inner_leads}
use Rattle.segments.proofs.Drained.{drained_leads}
use Rattle.segments.proofs.Links.{memory_next}
use Rattle.blocks.specs.declared.treading.Stand.{Stand}
use Rattle.blocks.specs.Toward.{Toward, Walked, Still}
use Rattle.blocks.specs.Treading.{Payable, Standing, stood, Over}
use Rattle.blocks.proofs.Towards.{toward_event, still_event, all_ahead, walked_free}
use Rattle.blocks.proofs.Choosing.{pays_here}

module _ {site : Site} {b : Block} {l : ℕ} {m : Value} {q : Task} {t : ℕ} {p : Stand} {w : List ℕ}
    (task : Payable site b l m q w) (stands : Standing site b l m q t p w) (inside : t < (segment_in w l).end)
    (still : Still (site_meant site) (events_from w t (b.end - t)) (stood w l p) p.steps) where
  abbrev k : one.Site
  k = site_meant site

  abbrev e : Event
  e = event_in w t

  abbrev u : Value
  u = (segment_in w l).copy

  abbrev here : Local
  here = stood w l p

  abbrev after : Local
  after = effect k (cxl0.event e) here

  abbrev ahead : ℕ → List Event
  ahead j = events_from w j (b.end - j)

  -- The event is ahead,
  ahead_first : ahead t ≡ e ∷ ahead (suc t)
  ahead_first = events_first w b.end t (lt_of_lt_of_le inside task.segment.inside)

  -- is possible, and leaves as many steps to pay.
  next : T (enabled_at k (cxl0.event e) here) × Pays k (ahead (suc t)) after p.steps
  next = still_event (rw ahead_first at still) (rw ahead_first at (pays_here task stands))

  -- It is a part of the shortest schedule.
  toward_next : (sys : Topology) → Describes sys site
      → Toward sys site.location.0 t (ahead t) here [] (suc t) (ahead (suc t)) after
  toward_next sys d =
      let x = site.location.0 in
      let all = rw ahead_first at (all_ahead x w b.end t task.here) in
      rw ahead_first (toward_event sys x k d.here p.steps all next.0 (rw ahead_first at still) next.1)

  module _ {p' : Stand} (over : Over site t u p w p') where
    -- The state after it: the copies keep their value.
    leads : after ≡ stood w l p'
    leads =
        let inner = inner_leads k e p.code u p.memory (task.segment.inner t stands.from inside) in
        let code = sym over.code in
        let copy = ap (λ (s : Local). s.copy) inner in
        let memory = sym over.memory in
        λ i. state (code i) (copy i) (memory i)

    -- As many steps are to pay as before it.
    costs_next : Costs k w b.end (suc t) u p'.code p'.memory p.steps
    costs_next =
        record {
          most = stands.costs.most;
          exact = λ x far. (
            λ pays.
                let behind : Pays k (ahead (suc t)) after x = rw leads pays in
                (stands.costs.exact x far).0 (rw ahead_first (acts next.0 behind)),
            λ few. rw leads at (pays_more k next.1 few),
          );
        }

    -- Where there is a copy after it, there was one before; so memory is what it is without a write-back.
    held_next : p'.code ≢ 0
        → (p'.memory ≡ memory_at k (segment_in w l) m (suc t))
        × (q.low < p.steps → Leveled (stretch_of k w (segment_in w l) m q.last) (suc t) (p.steps - 1) w)
    held_next copy =
        let seg = task.segment in
        let inner = seg.inner t stands.from inside in
        let code : p.code ≡ 0 → after.code ≡ 0 =
        λ none. rw none (ap (λ (s : Local). s.code) (drained_leads k u e p.memory inner)) in
        let held = stands.held (λ none. copy (ap (λ (s : Local). s.code) (sym leads) ∙ code none)) in
        let memory = ap (λ (s : Local). s.memory) (sym leads ∙ inner_leads k e p.code u p.memory inner) in (
          memory ∙ rw held.0 (sym (memory_next k w b l seg m t stands.from inside)),
          λ above j a. held.1 above j (omega arith),
        )

    -- The walk stands at the next gap.
    pub passed_standing : Standing site b l m q (suc t) p' w
    passed_standing =
        record {
          from = omega (arith, stands.from);
          to = inside;
          fits = over.fits;
          finite = rw over.steps stands.finite;
          costs = rw over.steps costs_next;
          low = rw over.end stands.low;
          space = rw (over.end, over.steps) stands.space;
          held = rw over.steps held_next;
        }

    -- Nothing is noted.
    pub passed_walked : Walked site b.end w t here p.end w (suc t) (stood w l p') p'.end
    passed_walked = rw over.end (walked_free w p.end (λ sys d. rw leads at (toward_next sys d)))
