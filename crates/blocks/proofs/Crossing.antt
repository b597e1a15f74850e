-- The walk through one segment and over the event that closes it: what is left to pay after it is what the next one
-- costs.
use Prim.Native.Nat.{ℕ, suc, zero-le, ◌+◌, ◌-◌, ◌≤◌, ◌<◌}
use native.Mathlib.Nat.{le_refl, le_trans}
use native.Mathlib.Numerals.{add-one}
use native.Mathlib.Omega.{arith}
use mathlib.Core.Path.{◌≡◌, sym, ◌∙◌}
use mathlib.Core.List.{List, ◌∷◌}
use lib.Dec.{T}
use Rattle.model.specs.Cxl0.{Event, event}
use Rattle.model.specs.OneLocation.{Local, enabled_at, effect}
use Rattle.model.specs.OneLocation as model
use Rattle.model.specs.Paying.{Pays, done, acts}
use Rattle.model.proofs.Payments.{AllAt}
use Rattle.entries.specs.Entries.{site_meant}
use Rattle.entries.specs.declared.Site.{Site}
use Rattle.rows.specs.Rows.{state}
use Rattle.scratch.specs.Layout.{MOST, ROWS, SEGMENTS, OnlyIn}
use Rattle.scratch.specs.Words.{event_in, events_from}
use Rattle.scratch.proofs.Frames.{only_none, only_then, only_wider}
use Rattle.levels.specs.Stretches.{FAR}
use Rattle.levels.specs.declared.Task.{Task}
use Rattle.segments.specs.Words.{segment_in}
use Rattle.segments.specs.Costs.{rest_from}
use Rattle.segments.specs.Segments.{Follows, Closes, store, final, ended}
use Rattle.segments.specs.declared.words.Segment.{Segment}
use Rattle.segments.specs.declared.words.Block.{Block}
use Rattle.segments.proofs.Paying.{events_first}
use Rattle.segments.proofs.Kept.{Kept, kept_between, kept_event}
use Rattle.blocks.specs.Toward.{Walked, Still}
use Rattle.blocks.specs.Treading.{Treadable, Trodden, stood, Actable, Over}
use Rattle.blocks.specs.Blocks.{between, Planned, Ahead, Come}
use Rattle.blocks.specs.declared.treading.Stand.{Stand}
use Rattle.blocks.proofs.Towards.{toward_event, still_event, all_ahead, walked_free, walked_then, walked_area}
use Rattle.blocks.proofs.Planning.{segment, short, room, same_segment, same_between, kept_ahead}

-- A code in the area has six bits.
code_fits : (w : List ℕ) (l : ℕ) → (segment_in w l).code < 64
unfolding segment_in
code_fits w l = omega arith

-- Where there is no event any more there is nothing to pay.
pays_over : (k : model.Site) (w : List ℕ) (t n : ℕ) (st : Local) (x : ℕ) → n ≤ t → Pays k (between w t n) st x
unfolding events_from
pays_over k w t n st x h =
    let none : n - t ≡ 0 = omega arith in
    rw none done

-- ---- the walk

-- With its task, the segment can be walked through.
pub treadable : {site : Site} {b : Block} {l : ℕ} {p : Stand} {w : List ℕ} → Ahead site b l p w
    → {q : Task} {w' : List ℕ} → Planned site b l p.memory w q w' → Treadable site b l q p w'
treadable {l = l} {p} at {w' = w'} plan =
    let there = kept_ahead plan.frame (omega arith) (le_refl _) at in
    record {
      payable = plan.payable;
      fits = rw there.code (code_fits w' l);
      finite = at.finite;
      costs =
          rw (there.code, there.steps)
          (there.numbered.costed.means l zero-le there.numbered.number p.memory);
      low = at.low;
      space = at.space;
    }

-- The walk stands at the last gap of segment l.
module _ {site : Site} {b : Block} {l : ℕ} {p : Stand} {w : List ℕ} (from : Ahead site b l p w) {p' : Stand}
    {w' : List ℕ} (trod : Trodden site b l p w p' w') where
  abbrev k' : model.Site
  k' = site_meant site

  abbrev t : ℕ
  t = (segment_in w l).end

  abbrev there : Local
  there = stood w l p'

  pays_there : Pays k' (between w t b.end) there p'.steps
  pays_there = (trod.costs.exact p'.steps trod.finite).1 (le_refl _)

  -- No more is left to pay than in any run.
  least_there : {x : ℕ} → x < FAR → Pays k' (between w t b.end) there x → p'.steps ≤ x
  least_there {x} far = (trod.costs.exact x far).0

  frame_trod : OnlyIn p.end SEGMENTS w w'
  frame_trod = only_wider trod.frame (le_refl _) (omega arith)

  -- At the end of the block nothing is left to pay.
  module _ (over : b.end ≤ t) where
    nothing_left : p'.steps ≤ 0
    nothing_left = least_there (omega arith) (pays_over k' w t b.end there 0 over)

    pub come_end : Come site b l p w (l + 1) p' w'
    come_end =
        record {
          frame = frame_trod;
          on = trod.space.0;
          gap = t;
          at = there;
          walked = trod.walked;
          pays = pays_there;
          ahead = λ more. absurd (omega (arith, nothing_left));
        }

  -- Else the event that closes the segment comes next.
  module _ (inside : t < b.end) where
    abbrev e : Event
    e = event_in w t

    abbrev behind : List Event
    behind = between w (suc t) b.end

    ahead_event : between w t b.end ≡ e ∷ behind
    ahead_event = events_first w b.end t inside

    still_here : Still k' (e ∷ behind) there p'.steps
    still_here = rw ahead_event at trod.still

    first : T (enabled_at k' (event e) there) × Pays k' behind (effect k' (event e) there) p'.steps
    first = still_event still_here (rw ahead_event at pays_there)

    -- The walk goes over it.
    walked_event : Walked site b.end w t there p'.end w' (suc t) (effect k' (event e) there) p'.end
    walked_event =
        walked_free w' p'.end
        (λ sys d.
        let x = site.location.0 in
        let concerned : AllAt x (e ∷ behind) = rw ahead_event at (all_ahead x w b.end t from.numbered.here) in
        rw ahead_event
        (toward_event sys x k' d.here p'.steps concerned first.0 still_here first.1))

    walked_over : Walked site b.end w (segment_in w l).first (stood w l p) p.end
        w' (suc t) (effect k' (event e) there) p'.end
    walked_over = walked_then (only_none p'.end SEGMENTS w') trod.walked walked_event

    -- What is to pay behind a store is what the next segment costs.
    steps_store : (f : Follows k' w b l) → p'.steps ≡ rest_from w b (suc l) p'.memory
    steps_store f =
        let rest = rest_from w b (suc l) p'.memory in
        let next = f.leads p'.code p'.memory in
        let costs = rw f.next at (from.numbered.costed.means (suc l) zero-le f.more p'.memory) in
        let far = trod.finite in
        let most : rest ≤ p'.steps = (costs.exact p'.steps far).0 (rw next at first.1) in
        let rest_pays : Pays k' behind (effect k' (event e) there) rest =
        rw next ((costs.exact rest (omega arith)).1 (le_refl rest))
        in
        let least : p'.steps ≤ rest = least_there (omega arith) (rw ahead_event (acts first.0 rest_pays)) in
        omega arith

    -- What is to pay behind the last event of the block is nothing.
    steps_final : suc t ≡ b.end → p'.steps ≤ 0
    steps_final last =
        let none = pays_over k' w (suc t) b.end (effect k' (event e) there) 0 (omega arith) in
        least_there (omega arith) (rw ahead_event (acts first.0 none))

    kept : Kept w w'
    kept = kept_between trod.frame (omega (arith, from.low)) (omega arith)

    near : t < MOST
    near = omega (arith, short from.numbered)

    pub actable : Actable site t p' w'
    actable =
        record {
          room = rw trod.frame.sized (room from.numbered);
          owner = from.numbered.costed.laid.owner;
          inside = near;
          known = rw (kept.structs t near) (from.numbered.known t inside);
          fits = trod.fits;
        }

    module _ {on : Stand} (over : Over site t (segment_in w l).copy p' w' on) where
      -- The walk stands at the first gap of the next segment.
      abbrev Next : Type 0
      Next =
          Ahead site b (suc l) on w × (suc t ≡ (segment_in w (suc l)).first)
          × (effect k' (event e) there ≡ stood w (suc l) on)

      -- So it is behind a store.
      at_store : Follows k' w b l → Next
      at_store f =
          let next = f.leads p'.code p'.memory in
          let same = kept_event kept t near in
          let code : on.code ≡ (segment_in w (suc l)).code = rw (same, next) at over.code in
          let memory : on.memory ≡ p'.memory = rw (same, next) at over.memory in (
            record {
              numbered = record {
                costed = from.numbered.costed;
                known = from.numbered.known;
                here = from.numbered.here;
                number = f.more;
              };
              code = code;
              steps = rw (over.steps, memory) (steps_store f);
              finite = rw over.steps trod.finite;
              low = rw over.end (le_trans from.low trod.space.0);
              space = rw (over.end, over.steps) trod.space.1;
            },
            sym f.next,
            next ∙ λ i. state (sym code i) (segment_in w (suc l)).copy (sym memory i),
          )

      next_ahead : 0 < on.steps → Closes k' w b l → Next
      next_ahead more (store f) = at_store f
      next_ahead more (final count end accepts) = absurd (omega (arith, steps_final end, over.steps))
      next_ahead more (ended count end asks free) = absurd (omega arith)

      pub come_event : Come site b l p w (l + 1) on w'
      come_event =
          let low : ROWS ≤ p.end = omega (arith, from.low) in
          let same = same_segment frame_trod low (le_refl _) (suc l) in
          record {
            frame = frame_trod;
            on = rw over.end trod.space.0;
            gap = suc t;
            at = effect k' (event e) there;
            walked = rw over.end walked_over;
            pays = rw over.steps first.1;
            ahead =
                λ more.
                let next = next_ahead more (segment from.numbered).closes in
                rw (add-one l) (kept_ahead frame_trod low (le_refl _) next.0, rw same next.1, rw same next.2);
          }

-- ---- all together

-- The segment was planned in the area w₀.
module _ {site : Site} {b : Block} {l : ℕ} {p : Stand} {w₀ : List ℕ} (start : Ahead site b l p w₀) {q : Task}
    {w : List ℕ} (plan : Planned site b l p.memory w₀ q w) {s₀ : Segment} (is : s₀ ≡ segment_in w₀ l) where
  from : Ahead site b l p w
  from = kept_ahead plan.frame (omega arith) (le_refl _) start

  pub is_planned : s₀ ≡ segment_in w l
  is_planned = is ∙ sym (same_segment plan.frame (omega arith) (le_refl _) l)

  -- What the walk has come to from there it has come to from the area before.
  come_planned : {l' : ℕ} {p' : Stand} {w' : List ℕ} → Come site b l p w l' p' w' → Come site b l p w₀ l' p' w'
  come_planned come =
      let only = plan.frame in
      let events : (j : ℕ) → between w j b.end ≡ between w₀ j b.end =
      λ j. same_between only (omega arith) (le_refl _) j b.end (short start.numbered)
      in
      record {
        frame = only_then (only_wider only (omega (arith, start.space)) (le_refl _)) come.frame;
        on = come.on;
        gap = come.gap;
        at = come.at;
        walked = rw (same_segment only (omega arith) (le_refl _) l) at (walked_area events come.walked);
        pays = rw (events come.gap) at come.pays;
        ahead = come.ahead;
      }

  module _ {p' : Stand} {w' : List ℕ} (trod : Trodden site b l p w p' w') where
    pub crossable : s₀.end < b.end → Actable site s₀.end p' w'
    crossable inside = rw is_planned (actable from trod (rw is_planned at inside))

    pub crossed : s₀.end < b.end → {on : Stand} → Over site s₀.end s₀.copy p' w' on → Come site b l p w₀ (l + 1) on w'
    crossed inside over =
        come_planned (come_event from trod (rw is_planned at inside) (rw is_planned at over))

    pub crossed_end : b.end ≤ s₀.end → Come site b l p w₀ (l + 1) p' w'
    crossed_end over = come_planned (come_end from trod (rw is_planned at over))
