-- A pass, from the last gap to the first.
use Prim.Native.Nat.{ℕ, suc, ◌+◌, ◌-◌, ◌≤◌, ◌<◌}
use native.Mathlib.Nat.{le_refl, le_trans}
use native.Mathlib.Omega.{arith}
use mathlib.Core.Path.{◌≡◌, refl, ap, subst, ◌∙◌}
use mathlib.Core.Logic.{inl, inr}
use mathlib.Core.Bool.{Bool, true, false, true≢false, cond, not, ◌||◌}
use mathlib.Core.List.{List}
use borrow.Author.Tests.{eqb-true, not-false, eq-eqb, ne_eqb}
use lib.Dec.{eqb, eqb→eq}
use lib.ListN.{set}
use lib.Seq.{get_or-set_same, get_or-set_other}
use Rattle.model.proofs.Tests.{by_test, ne_test}
use Rattle.masks.specs.Sets.{In}
use Rattle.masks.proofs.Sets.{in_none}
use Rattle.scratch.specs.Layout.{LEVELS}
use Rattle.scratch.proofs.Frames.{only_set, only_then, only_wider, get_or_below}
use Rattle.levels.specs.declared.Task.{Task}
use Rattle.levels.specs.Stretches.{Stretch, Finishes}
use Rattle.levels.specs.Tasks.{level_in, below_in, Tasked, Ready, Leveled, LevelAt, BelowAt, GapOf}
use Rattle.levels.specs.Tasks.{OnlyLevels, Under, Passed}
use Rattle.levels.proofs.Tasks.{tasked_kept, ready_kept}

-- ---- a later first gap

-- What holds from a gap on holds from a later one on.
module _ {task : Task} {from : ℕ} {w : List ℕ} (t : ℕ) (a : from ≤ t) where
  pub tasked_later : {q : Stretch} → Tasked task from w q → Tasked task t w q
  tasked_later s =
      record {
        owner = s.owner;
        end = s.end;
        last = s.last;
        events = λ u b. s.events u (le_trans a b);
        inner = λ u b. s.inner u (le_trans a b);
        backs = λ u b. s.backs u (le_trans a b);
        reads = λ u b. s.reads u (le_trans a b);
        accepts = s.accepts;
      }

  pub ready_later : t ≤ task.end → Ready task from w → Ready task t w
  ready_later order r =
      record {
        room = r.room;
        order = order;
        few = r.few;
        owner = r.owner;
        known = λ u b. r.known u (le_trans a b);
        low_last = r.low_last;
        low_back = λ u b. r.low_back u (le_trans a b);
        high_last = r.high_last;
        high_back = λ u b. r.high_back u (le_trans a b);
        stretch = r.stretch;
        tasked = tasked_later r.tasked;
      }

-- ---- gap by gap

-- If the test for one or the other fails, both tests fail.
neither : (a b : Bool) → (a || b) ≡ false → (a ≡ false) × (b ≡ false)
neither true b e = absurd (true≢false e)
neither false b e = (refl, e)

-- Coming from the last gap, the pass has reached gap t: from there on the masks are those of the level, and as they
-- were before that; `rest` is the mask of gap t; and `more` tells whether one has changed.
pub record Passing (task : Task) (from level : ℕ) (w : List ℕ) (t rest : ℕ) (more : Bool) (w' : List ℕ) : Type 0 where
  pub least : from ≤ t
  pub most : t ≤ task.end + 1
  pub frame : OnlyLevels t task.end w w'
  pub first : t ≤ task.end → level_in w' t ≡ rest
  pub levels : (q : Stretch) → Tasked task from w q → Under task from level w q → Leveled q t level w'
  pub same : more ≡ false → (u : ℕ) → t ≤ u → u ≤ task.end → level_in w' u ≡ below_in task level w u

module _ (task : Task) (from level : ℕ) (w : List ℕ) (ready : Ready task from w) where
  -- The mask that a gap had before the pass is that of the level below, and none at the lowest level.
  below_at : {q : Stretch} → Under task from level w q → (g : ℕ) → from ≤ g → g ≤ q.end
      → BelowAt task level q g (below_in task level w g)
  below_at (inl e) g a b = inl (e, rw (eq-eqb level task.low e))
  below_at (inr (l, m)) g a b = inr (l, rw (ne_eqb level task.low (λ e. omega arith)) (m g a b))

  module _ (t rest : ℕ) (more : Bool) (w' : List ℕ) (p : Passing task from level w t rest more w') where
    -- What has changed lies within the gaps of the pass.
    wider : OnlyLevels from task.end w w'
    wider = only_wider p.frame (omega (arith, p.least)) (le_refl (LEVELS + (task.end + 1)))

    -- At the first gap the pass is done.
    pub passed : t ≤ from → Passed task from level w more w'
    passed h =
        let here : t ≡ from = omega (arith, p.least) in
        record {
          frame = wider;
          levels = λ q s u. subst (λ (g : ℕ). Leveled q g level w') here (p.levels q s u);
          same = same;
        }
      where
        same : more ≡ false → (q : Stretch) → Tasked task from w q → Under task from level w q
            → (g c : ℕ) → from ≤ g → g ≤ task.end → c < 64 → Finishes q g c level
            → (task.low < level) × Finishes q g c (level - 1)
        same e q s u g c a b l f =
            let inside : g ≤ q.end = rw s.end b in
            let in_level = (p.levels q s u g (omega arith) inside c l).1 f in
            let in_below : In c (below_in task level w g) = rw (p.same e g (omega arith) b) at in_level in
            go (below_in task level w g) (below_at u g a inside) in_below
          where
            go : (m : ℕ) → BelowAt task level q g m → In c m → (task.low < level) × Finishes q g c (level - 1)
            go m (inl (e, z)) i = absurd (in_none c (rw z at i))
            go m (inr (d, lev)) i = (d, (lev c l).0 i)

    -- The gap before it, g.
    module _ (g : ℕ) (next : t ≡ suc g) (inside : from < t) where
      -- The area is ready for it, and has its mask of the level below.
      pub ready_gap : Ready task g w'
      ready_gap =
          ready_later g (omega arith) (omega (arith, p.most)) (ready_kept task from ready.few wider ready)

      unchanged : below_in task level w' g ≡ below_in task level w g
      unchanged =
          ap (λ (m : ℕ). cond (eqb level task.low) 0 m) (get_or_below p.frame (LEVELS + g) (omega arith))

      -- Its mask is that of the level, and is put in its place.
      module _ (under r : ℕ) (b : under ≡ below_in task level w' g) (m : GapOf task g level w' rest under r) where
        abbrev w'' : List ℕ
        w'' = set w' (LEVELS + g) r

        put : level_in w'' g ≡ r
        put = get_or-set_same w' (LEVELS + g) r 0 (omega (arith, p.frame.sized, ready.room, ready.few, p.most))

        kept : (u : ℕ) → g < u → level_in w'' u ≡ level_in w' u
        kept u l = get_or-set_other w' (LEVELS + g) (LEVELS + u) r 0 (omega arith)

        level_gap : (q : Stretch) → Tasked task from w q → Under task from level w q → LevelAt q g level r
        level_gap q s u =
            m q (tasked_later g (omega arith) (tasked_kept task from ready.few wider s)) after
            (rw (b, unchanged) (below_at u g (omega arith) (omega (arith, p.most, s.end))))
          where
            after : g < task.end → LevelAt q (suc g) level rest
            after l =
                let at_t = p.levels q s u t (le_refl t) (omega (arith, s.end)) in
                rw (p.first (omega arith), next) at at_t

        levels : (q : Stretch) → Tasked task from w q → Under task from level w q → Leveled q g level w''
        levels q s u v a h =
            by_test (eqb v g)
            (λ e. rw (eqb→eq v g e, put) (level_gap q s u))
            (λ e.
            let later : g < v = omega (arith, ne_test v g e) in
            rw (kept v later) (p.levels q s u v (omega arith) h))

        same : (more || not (eqb r under)) ≡ false → (u : ℕ) → g ≤ u → u ≤ task.end
            → level_in w'' u ≡ below_in task level w u
        same e u a h =
            let (still, equal) = neither more (not (eqb r under)) e in
            by_test (eqb u g)
            (λ i. rw (eqb→eq u g i) (put ∙ eqb-true r under (not-false (eqb r under) equal) ∙ b ∙ unchanged))
            (λ i.
            let later : g < u = omega (arith, ne_test u g i) in
            kept u later ∙ p.same still u (omega arith) h)

        pub passing_more : Passing task from level w g r (more || not (eqb r under)) w''
        passing_more =
            record {
              least = omega arith;
              most = omega (arith, p.most);
              frame = only_then (only_wider p.frame (omega arith) (le_refl (LEVELS + (task.end + 1))))
                  (only_set (LEVELS + g) (LEVELS + (task.end + 1)) w' (LEVELS + g) r (le_refl (LEVELS + g))
                  (omega (arith, p.most)));
              first = λ h. put;
              levels = levels;
              same = same;
            }
