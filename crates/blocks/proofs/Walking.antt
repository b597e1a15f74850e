-- The walk through all segments of a block: as long as there is a step to pay it goes through one segment more, and
-- then the words noted are the shortest schedule.
use Prim.Native.Nat.{ℕ, zero-le, ◌+◌, ◌≤◌, ◌<◌}
use native.Mathlib.Nat.{le_refl, le_trans}
use native.Mathlib.Decide.{dec_le}
use native.Mathlib.Omega.{arith}
use mathlib.Core.Path.{◌≡◌, refl}
use mathlib.Core.List.Memᴰ
use mathlib.Core.List.{List, [], map, append-nil}
use lib.Dec.{T}
use Rattle.model.specs.Cxl0.{Topology, Location, Event, event}
use Rattle.model.specs.OneLocation.{Local, site_of, possible_at, next_at, runs_at}
use Rattle.model.specs.ShortestAt.{ShortestFrom}
use Rattle.model.specs.Paying.{Pays, done, acts, moves, writes}
use Rattle.model.specs.Words.{step_of_word}
use Rattle.model.proofs.Tests.{and_i}
use Rattle.model.proofs.Greedy.{shortest_free}
use Rattle.model.proofs.Payments.{AllAt, possible-at, next-at}
use Rattle.entries.specs.declared.Site.{Site}
use Rattle.rows.specs.Sites.{Describes}
use Rattle.scratch.specs.Layout.{MOST, SEGMENTS}
use Rattle.scratch.proofs.Frames.{only_none, only_then, only_wider}
use Rattle.segments.specs.Words.{segment_in}
use Rattle.segments.specs.declared.words.Block.{Block}
use Rattle.blocks.specs.Treading.{stood}
use Rattle.blocks.specs.Blocks.{between, Ahead, Come, Through}
use Rattle.blocks.specs.declared.treading.Stand.{Stand}
use Rattle.blocks.proofs.Towards.{all_ahead, walked_nothing, walked_then, walked_area}
use Rattle.blocks.proofs.Planning.{same_between}

-- ---- nothing to pay

-- Events that concern x and are paid for with no step run without one.
free_run : (sys : Topology) (x : Location) {es : List Event} {s : Local} → AllAt x es
    → (l : ℕ) → l ≡ 0 → Pays (site_of sys x) es s l → T (runs_at sys x (map event es) s)
unfolding runs_at
free_run sys x here l zero done = tt
free_run sys x here l zero (acts {e} {es} {s} can p) =
    let own = here e (Memᴰ.head refl) in
    let later = free_run sys x (λ d m. here d (Memᴰ.tail m)) l zero p in
    and_i (possible_at sys x (event e) s) (runs_at sys x (map event es) (next_at sys x (event e) s))
    (rw (possible-at sys x e s own) can)
    (rw (next-at sys x e s own) later)
free_run sys x here l zero (moves i v p) = absurd (omega arith)
free_run sys x here l zero (writes v p) = absurd (omega arith)

-- ---- one segment after another

module _ {site : Site} {b : Block} {p : Stand} {w₀ : List ℕ} (start : Ahead site b 0 p w₀) where
  short : b.end ≤ MOST
  short = start.numbered.costed.laid.segmented.short

  pub come_none : Come site b 0 p w₀ 0 p w₀
  come_none =
      let numbered = start.numbered in
      let costs = numbered.costed.means 0 zero-le numbered.number p.memory in
      record {
        frame = only_none p.end SEGMENTS w₀;
        on = le_refl _;
        gap = (segment_in w₀ 0).first;
        at = stood w₀ 0 p;
        walked = walked_nothing w₀ p.end;
        pays = rw start.code ((costs.exact p.steps start.finite).1 (rw start.steps (le_refl _)));
        ahead = λ more. (start, refl, refl);
      }

  module _ {w : List ℕ} {l : ℕ} {at : Stand} (come : Come site b 0 p w₀ l at w) where
    pub come_more : (more : 0 < at.steps) → {at' : Stand} {w' : List ℕ} → Come site b l at w (l + 1) at' w'
        → Come site b 0 p w₀ (l + 1) at' w'
    come_more more next =
        let here = come.ahead more in
        let events : (j : ℕ) → between w j b.end ≡ between w₀ j b.end =
        λ j. same_between come.frame (omega (arith, start.low)) (le_refl _) j b.end short
        in
        record {
          frame = only_then come.frame (only_wider next.frame come.on (le_refl _));
          on = le_trans come.on next.on;
          gap = next.gap;
          at = next.at;
          walked =
              walked_then next.frame come.walked
              (rw (here.1, here.2) (walked_area events next.walked));
          pays = rw (events next.gap) at next.pays;
          ahead = next.ahead;
        }

    -- Behind the last segment nothing is left to pay.
    pub behind_all : b.count ≤ l → at.steps ≤ 0
    behind_all last =
        elim (dec_le at.steps 0) [
          | yes none ↦ none
          | no some ↦
              let more : 0 < at.steps = omega arith in
              absurd (omega (arith, (come.ahead more).0.numbered.number))
        ]

    -- With nothing left to pay, the rest of the block has no step.
    pub through : at.steps ≤ 0 → Through site b p w₀ at.end w
    through over =
        let x = site.location.0 in
        let walked = come.walked in
        let rest = between w₀ come.gap b.end in
        let concerned : AllAt x rest = all_ahead x w₀ b.end come.gap start.numbered.here in
        let free : (sys : Topology) → Describes sys site → ShortestFrom sys x come.gap rest come.at [] =
        λ sys d.
        shortest_free sys x come.gap rest come.at
        (free_run sys x concerned at.steps (omega arith) (rw d.here come.pays))
        in
        record {
          frame = come.frame;
          words = walked.words;
          ends = walked.ends;
          list = walked.list;
          shortest =
              λ sys d.
              rw (append-nil (map step_of_word walked.words)) at (walked.toward sys d [] (free sys d));
        }
