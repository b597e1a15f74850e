-- The step to take at a gap is the least that leaves one step less to pay: a write-back by what is left after it, a
-- move by the masks of one step less.
use Prim.Native.Nat.{ℕ, zero, suc, ◌+◌, ◌-◌, ◌≤◌, ◌<◌}
use native.Mathlib.Nat.{le_refl}
use native.Mathlib.Decide.{dec_le}
use native.Mathlib.Omega.{arith}
use mathlib.Core.Path.{◌≡◌, refl}
use mathlib.Core.Logic.Iff
use mathlib.Core.Logic.{◌↔◌, ◌≢◌}
use mathlib.Core.Bool.{not, ◌&&◌}
use mathlib.Core.List.{List}
use lib.Dec.{T, eqb}
use Rattle.std.specs.Prelude.{Option, None, Some}
use Rattle.model.specs.Cxl0.{Machine, Value, Event}
use Rattle.model.specs.declared.Machine as machine
use Rattle.model.specs.Schedule.{silent_of}
use Rattle.model.specs.Sharers.{has}
use Rattle.model.specs.OneLocation as one
use Rattle.model.specs.OneLocation.{Local, enabled_at, effect, moved, recoded, written}
use Rattle.model.specs.Paying.{Pays}
use Rattle.model.proofs.Tests.{and_r}
use Rattle.model.proofs.SilentSteps.{has→some}
use Rattle.model.proofs.Payments.{pays_more, pays_step}
use Rattle.masks.specs.Sets.{In}
use Rattle.masks.proofs.Codes.{moved_fits}
use Rattle.entries.specs.Entries.{site_meant}
use Rattle.entries.specs.declared.Site.{Site}
use Rattle.scratch.specs.Words.{events_from}
use Rattle.levels.specs.Stretches.{FAR, Stretch, Finishes}
use Rattle.levels.specs.Tasks.{level_in, back_in}
use Rattle.levels.specs.declared.Task.{Task}
use Rattle.levels.proofs.Levels.{nothing_below}
use Rattle.levels.proofs.Tasks.{stretch_low_last, stretch_low_back}
use Rattle.segments.specs.Words.{segment_in}
use Rattle.segments.specs.Segments.{Costs, stretch_of}
use Rattle.segments.specs.declared.words.Block.{Block}
use Rattle.blocks.specs.declared.treading.Stand.{Stand}
use Rattle.blocks.specs.Toward.{can_step, after_step}
use Rattle.blocks.specs.declared.treading.Silent.TheVariants.{WriteBack, Move}
use Rattle.blocks.specs.Treading.{STAY, mover_of, LeastMove, Payable, Standing, stood, Chosen}

-- ---- silent steps

-- Machine 0 stands for a write-back: the owner has a copy, and they are written back.
pub can_write : (k : one.Site) (s : Local) → can_step k 0 s ≡ T (has k.owner s.code)
unfolding enabled_at silent_of
can_write k s = refl

pub after_write : (k : one.Site) (s : Local) → after_step k 0 s ≡ written s
unfolding effect silent_of
after_write k s = refl

-- Any other one moves its copy to the owner.
pub can_move : (k : one.Site) (i : Machine) (s : Local) → 1 ≤ i
    → can_step k i s ≡ T (not (eqb i k.owner) && has i s.code)
unfolding enabled_at silent_of
can_move k zero s h = absurd (omega arith)
can_move k (suc i) s h = refl

pub after_move : (k : one.Site) (i : Machine) (s : Local) → 1 ≤ i
    → after_step k i s ≡ recoded (moved k.owner i s.code) s
unfolding effect silent_of
after_move k zero s h = absurd (omega arith)
after_move k (suc i) s h = refl

-- Where a step is possible there is a copy.
pub can_copy : (k : one.Site) (i : Machine) (s : Local) → can_step k i s → s.code ≢ 0
unfolding enabled_at silent_of
can_copy k zero s can = has→some k.owner s.code can
can_copy k (suc i) s can = has→some (suc i) s.code (and_r (not (eqb (suc i) k.owner)) (has (suc i) s.code) can)

-- ---- where the walk stands

module _ {site : Site} {b : Block} {l : ℕ} {m : Value} {q : Task} {t : ℕ} {p : Stand} {w : List ℕ}
    (task : Payable site b l m q w) (stands : Standing site b l m q t p w) where
  abbrev k : one.Site
  k = site_meant site

  abbrev ahead : List Event
  ahead = events_from w t (b.end - t)

  abbrev here : Local
  here = stood w l p

  abbrev stretch : Stretch
  stretch = stretch_of k w (segment_in w l) m q.last

  -- So many steps suffice.
  pub pays_here : Pays k ahead here p.steps
  pays_here = (stands.costs.exact p.steps stands.finite).1 (le_refl _)

  -- No silent step leaves less than one step fewer to pay.
  pub step_lowers : (i : Machine) → can_step k i here → (y : ℕ) → Pays k ahead (after_step k i here) y → p.steps ≤ suc y
  step_lowers i can y pays =
      elim (dec_le FAR (suc y)) [
        | yes far ↦ omega (arith, stands.finite)
        | no far ↦ (stands.costs.exact (suc y) (omega arith)).0 (pays_step k i can pays)
      ]

  -- A step that does not leave one fewer leaves no fewer at all.
  not_fewer : (i : Machine) → (0 < p.steps → ¬ Pays k ahead (after_step k i here) (p.steps - 1))
      → (y : ℕ) → suc y ≤ p.steps → ¬ Pays k ahead (after_step k i here) y
  not_fewer i none y h pays = none (omega arith) (pays_more k pays (omega arith))

  -- ---- a write-back

  back_cost : Costs k w b.end t (segment_in w l).copy 0 (segment_in w l).copy (back_in w t)
  back_cost = task.backs t stands.from stands.to

  -- It leaves one step fewer if that is what is left after it,
  back_pays : back_in w t + 1 ≡ p.steps → Pays k ahead (after_step k 0 here) (p.steps - 1)
  back_pays e =
      rw (after_write k here) ((back_cost.exact (p.steps - 1) (omega (arith, stands.finite))).1 (omega arith))

  -- and else not.
  back_not : back_in w t + 1 ≢ p.steps → can_step k 0 here → 0 < p.steps
      → ¬ Pays k ahead (after_step k 0 here) (p.steps - 1)
  back_not other can some pays =
      let written = rw (after_write k here) at pays in
      let less = (back_cost.exact (p.steps - 1) (omega (arith, stands.finite))).0 written in
      let paid = (back_cost.exact (back_in w t) (omega (arith, stands.finite))).1 (le_refl _) in
      let more = step_lowers 0 can (back_in w t) (rw (after_write k here) paid) in
      other (omega arith)

  -- ---- a move

  -- It leaves one step fewer if the code that it leads to finishes with so many,
  move_finishes : (i : Machine) → 1 ≤ i → can_step k i here
      → Pays k ahead (after_step k i here) (p.steps - 1)
      ↔ Finishes stretch t (moved site.owner.0 i p.code) (p.steps - 1)
  move_finishes i some can =
      let memory = (stands.held (can_copy k i here can)).0 in
      let d = moved site.owner.0 i p.code in
      let link = task.links t d (p.steps - 1) stands.from stands.to (omega (arith, stands.finite)) in
      rw (after_move k i here some, memory) (Iff.symm link)

  -- which the masks say where there are such codes,
  move_masks : q.low < p.steps → (i : Machine) → 1 ≤ i → can_step k i here
      → Pays k ahead (after_step k i here) (p.steps - 1) ↔ In (moved site.owner.0 i p.code) (level_in w t)
  move_masks above i some can =
      let d = moved site.owner.0 i p.code in
      let levels = (stands.held (can_copy k i here can)).1 above in
      let fits = moved_fits site.owner.0 i p.code task.owner stands.fits in
      Iff.trans (move_finishes i some can) (Iff.symm (levels t (le_refl t) stands.to d fits))

  -- and else there are none.
  move_low : p.steps ≤ q.low → (i : Machine) → 1 ≤ i → can_step k i here → 0 < p.steps
      → ¬ Pays k ahead (after_step k i here) (p.steps - 1)
  move_low low i some can more pays =
      let ready = task.ready in
      let tasked = task.tasked in
      let finishes = (move_finishes i some can).0 pays in
      omega (
        arith,
        nothing_below stretch (segment_in w l).first q.low
            (stretch_low_last ready tasked) (stretch_low_back ready tasked) stands.from stands.to finishes,
      )

  -- ---- the choice

  -- A write-back, where it leaves one step fewer.
  pub chosen_back : T (has site.owner.0 p.code) → back_in w t + 1 ≡ p.steps → Chosen site b l t p w (Some WriteBack)
  chosen_back owned e =
      record {
        takes = record {
          is = tt;
          some = omega arith;
          can = rw (can_write k here) owned;
          pays = back_pays e;
        };
        least = λ j less. absurd (omega arith);
      }

  -- Where it does not,
  module _ (other : T (has site.owner.0 p.code) → back_in w t + 1 ≢ p.steps) where
    -- a step is none that is worth it if no move is.
    least_of : (r : ℕ) → ((j : Machine) → 1 ≤ j → j < r → can_step k j here → 0 < p.steps
        → ¬ Pays k ahead (after_step k j here) (p.steps - 1))
        → (j : Machine) → j < r → can_step k j here
        → (y : ℕ) → suc y ≤ p.steps → ¬ Pays k ahead (after_step k j here) y
    least_of r moves zero less can =
        not_fewer 0 (back_not (other (rw (can_write k here) at can)) can)
    least_of r moves (suc j) less can = not_fewer (suc j) (moves (suc j) (omega arith) less can)

    -- No step where there are no codes of one step fewer,
    pub chosen_none : p.steps ≤ q.low → Chosen site b l t p w None
    chosen_none low =
        record { takes = tt; least = least_of STAY (λ j some less can. move_low low j some can) }

    -- nor where no move leads into the masks,
    module _ (above : q.low < p.steps) where
      not_below : {r : Option machine.Machine} → LeastMove site.owner.0 p.code (level_in w t) r
          → (j : Machine) → j < mover_of r → can_step k j here
          → (y : ℕ) → suc y ≤ p.steps → ¬ Pays k ahead (after_step k j here) y
      not_below {r} least =
          least_of (mover_of r)
          (λ j some less can more pays.
          least.least j less (rw (can_move k j here some) at can) ((move_masks above j some can).0 pays))

      pub chosen_stay : LeastMove site.owner.0 p.code (level_in w t) None → Chosen site b l t p w None
      chosen_stay least = record { takes = tt; least = not_below least }

      -- else the least one that does.
      pub chosen_move : {i : machine.Machine} → LeastMove site.owner.0 p.code (level_in w t) (Some i)
          → Chosen site b l t p w (Some (Move i))
      chosen_move {i} least =
          let there = least.moves in
          let can : can_step k i.0 here = rw (can_move k i.0 here there.0.0) there.1 in
          record {
            takes = record {
              is = there.0;
              some = omega arith;
              can = can;
              pays = (move_masks above i.0 there.0.0 can).1 there.2;
            };
            least = not_below least;
          }
