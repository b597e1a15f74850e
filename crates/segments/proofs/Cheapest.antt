-- What is to pay from the start of a segment without a reset: what is seen without a move says the lowest number, and a
-- write-back, after one move where it must be, is never more than two above what is left behind it.
use Prim.Native.Nat.{ℕ, suc, ◌+◌, ◌≤◌, ◌<◌, min}
use native.Mathlib.Nat.{le_refl, le_trans}
use native.Mathlib.Decide.{dec_le}
use native.Mathlib.Omega.{arith}
use mathlib.Core.Path.{◌≡◌, refl, sym, ◌∙◌, subst}
use mathlib.Core.Logic.{◌≢◌, ◌⊎◌, inl, inr, ⊎_elim, ◌↔◌}
use mathlib.Core.Bool.{Bool, true, false, true≢false, not, cond}
use mathlib.Core.List.{List}
use lib.Dec.{T, eqb, eqb→eq}
use borrow.Author.Tests.{ne_eqb, le-leb, lt-leb, lt-ltb, le-ltb}
use Rattle.model.specs.Cxl0.{Machine}
use Rattle.model.specs.Sharers.{has, remove}
use Rattle.model.specs.OneLocation.{moved}
use Rattle.model.proofs.Tests.{by_test, T→true, not→false, ne_test}
use Rattle.model.proofs.Sharers.{member}
use Rattle.masks.proofs.Codes.{has_itself}
use Rattle.entries.specs.declared.Site.{Site}
use Rattle.scratch.specs.Layout.{MOST, LEVELS}
use Rattle.scratch.proofs.Frames.{only_none}
use Rattle.levels.specs.declared.Task.{Task}
use Rattle.levels.specs.Stretches.{FAR, Stretch, Finishes, ends, acts, writes, moves}
use Rattle.levels.specs.Tasks.{reads_at, accepting, Ready, Tasked, Counted, Fewest, OnlyLevels}
use Rattle.levels.proofs.Levels.{finishes_more, nothing_below}
use Rattle.levels.proofs.Tasks.{stretch_order, back_kept, tasked_kept}
use Rattle.levels.proofs.Stretching.{ending, dry, linear}
use Rattle.segments.specs.declared.words.Segment.{Segment}
use Rattle.segments.specs.declared.seeing.Seen.{Seen}
use Rattle.segments.specs.declared.weighing.Others.{Others}
use Rattle.segments.specs.Costs.{plus}
use Rattle.segments.specs.Weighing.{Unmoved, out, on, back, Even, Seeing, written_of, Sameable}
use Rattle.segments.specs.Weighing.{keeping_of, Keeps, spared_of, only_below, Otherable, OthersOf}
use Rattle.segments.proofs.Rests.{plus_far}
use Rattle.segments.proofs.TwoWays.{two_ways}
use Rattle.segments.proofs.Unmoved.{EvenOn, end_is, owner_is, back_is, none_written}

-- ---- without a move

module _ (q : Stretch) where
  -- What finishes without a move finishes.
  unmoved_finishes : {t c l : ℕ} → Unmoved q t c l → Finishes q t c l
  unmoved_finishes (out e a h) = ends e a h
  unmoved_finishes (on b e f) = acts b e (unmoved_finishes f)
  unmoved_finishes (back h b) = writes h b

  -- Within the lowest number of steps nothing finishes with a move.
  lowest_unmoved : (from low : ℕ) → low ≤ q.last → ((t : ℕ) → from ≤ t → t ≤ q.end → low ≤ suc (q.back t))
      → {t c l : ℕ} → from ≤ t → t ≤ q.end → l ≤ low → Finishes q t c l → Unmoved q t c l
  lowest_unmoved from low last behind a b h (ends e v n) = out e v n
  lowest_unmoved from low last behind a b h (acts d e f) =
      on d e (lowest_unmoved from low last behind (omega arith) d h f)
  lowest_unmoved from low last behind a b h (writes v n) = back v n
  lowest_unmoved from low last behind a b h (moves i v f) =
      absurd (omega (arith, nothing_below q from low last behind a b f))

-- ---- a change of masks

module _ {site : Site} {s : Segment} {w w' : List ℕ} (few : s.end ≤ MOST)
    (only : OnlyLevels s.first s.end w w') where
  -- A task that is even stays so.
  pub even_kept : {task : Task} {read : Bool} {n : ℕ} → Even site s w task read n → Even site s w' task read n
  even_kept {task} even =
      let there : OnlyLevels s.first task.end w w' = rw even.end only in
      record {
        owner = even.owner;
        end = even.end;
        closing = even.closing;
        reads = even.reads;
        backs = λ t a b. back_kept task s.first (rw even.end few) there t ∙ even.backs t a b;
      }

-- What was seen stays true.
pub seeing_kept : {site : Site} {s : Segment} {seen : Seen} {w w' : List ℕ} → s.end ≤ MOST
    → OnlyLevels s.first s.end w w' → Seeing site s w seen → Seeing site s w' seen
seeing_kept {site} {s} {w = w} {w'} few only sight =
    let back : OnlyLevels s.first s.end w' w =
    record { sized = sym only.sized; below = sym only.below; above = sym only.above }
    in
    record {
      exact =
          λ {task} even tasked.
          let there : OnlyLevels s.first task.end w' w = rw even.end back in
          sight.exact (even_kept few back even)
          (tasked_kept task s.first (rw even.end few) there tasked);
    }

-- ---- a write-back after a move

-- From a code that has a copy, the owner has one after at most one move, which can be written back.
written : (q : Stretch) (t c n : ℕ) → 1 ≤ q.site.owner → c < 64 → c ≢ 0 → q.back t ≡ n
    → Finishes q t c (suc (suc n))
unfolding moved
written q t c n named fits some e = by_owner (has k c) refl
  where
    k : Machine
    k = q.site.owner

    by_owner : (b : Bool) → has k c ≡ b → Finishes q t c (suc (suc n))
    by_owner true h = writes {t = t} {c = c} {l = suc (suc n)} (rw h tt) (omega (arith, e))
    by_owner false h =
        let holder = member 6 c fits some in
        let i = suc holder.0 in
        let apart : eqb i k ≡ false =
        ne_eqb i k (λ same. absurd (rw h at (subst (λ (j : Machine). T (has j c)) same holder.2)))
        in
        moves {c = c} i (rw apart holder.2)
        (writes {t = t} {l = suc n} (has_itself k (remove i c) named) (omega (arith, e)))

-- ---- the fewest steps

-- A number is that of the fewest steps if code c finishes within it and not within fewer.
counted_here : (q : Stretch) (from c r : ℕ) → r ≤ FAR → (r < FAR → Finishes q from c r)
    → ((l : ℕ) → l < r → ¬ Finishes q from c l) → Counted q from c FAR r
counted_here q from c r far here none =
    record {
      most = far;
      exact = λ l h. (
        λ f. elim (dec_le r l) [ yes b ↦ b | no b ↦ absurd (none l (omega arith) f) ],
        λ b. finishes_more q (here (omega arith)) b,
      );
      far = λ b. omega arith;
    }

-- A number that was sought below another one, and is at most that.
counted_below : (q : Stretch) (from c bound r : ℕ) → bound ≤ FAR → (bound < FAR → Finishes q from c bound)
    → Counted q from c bound r → Counted q from c FAR (min bound r)
counted_below q from c bound r far here counted =
    counted_here q from c (min bound r) (omega arith) there none
  where
    there : min bound r < FAR → Finishes q from c (min bound r)
    there h =
        elim (dec_le bound r) [
          | yes b ↦ subst (Finishes q from c) (omega arith) (here (omega arith))
          | no b ↦ subst (Finishes q from c) (omega arith) ((counted.exact r (omega arith)).1 (le_refl r))
        ]

    none : (l : ℕ) → l < min bound r → ¬ Finishes q from c l
    none l h f = absurd (omega (arith, (counted.exact l (omega arith)).0 f))

-- ---- a segment without a reset

-- The task with no run behind its last gap: a write-back must be on the way.
abbrev unended : Task → Task
unended task =
    record {
      owner = task.owner;
      end = task.end;
      closing = task.closing;
      reset = task.reset;
      same = task.same;
      later = task.later;
      writes = task.writes;
      last = FAR;
      low = task.low;
      high = task.high;
    }

-- Its stretch is that of the task with nothing behind it.
unended_on : {site : Site} {s : Segment} {w : List ℕ} {q : Stretch} {read : Bool} {n : ℕ} → EvenOn site s w q read n
    → EvenOn site s w (ending q FAR) read n
unended_on of =
    record {
      task = unended of.task;
      even =
          record {
            owner = of.even.owner;
            end = of.even.end;
            closing = of.even.closing;
            reads = of.even.reads;
            backs = of.even.backs;
          };
      tasked =
          record {
            owner = of.tasked.owner;
            end = of.tasked.end;
            last = refl;
            events = of.tasked.events;
            inner = of.tasked.inner;
            backs = of.tasked.backs;
            reads = of.tasked.reads;
            accepts = of.tasked.accepts;
          };
    }

-- What is seen of the stretch of an even task:
module _ {site : Site} {s : Segment} {read : Bool} {n : ℕ} {seen : Seen} {w : List ℕ} {q : Stretch}
    (of : EvenOn site s w q read n) (order : s.first ≤ s.end) (sight : Seeing site s w seen) where
  -- What is to pay by a write-back is not less than a number.
  behind_each : (low : ℕ) → low ≤ suc n → (t : ℕ) → s.first ≤ t → t ≤ q.end → low ≤ suc (q.back t)
  behind_each low behind t a b = rw (back_is of a (rw (end_is of) at b)) behind

  -- Below a number that is at most what is to pay by the events, and by a write-back, nothing finishes.
  none_below : (low : ℕ) → low ≤ q.last → low ≤ suc n → (l : ℕ) → l < low → ¬ Finishes q s.first s.code l
  none_below low last behind l h f =
      let least = nothing_below q s.first low last (behind_each low behind) (le_refl _) (rw (end_is of) order) f in
      absurd (omega arith)

  -- Nor within it, if it is not seen.
  none_within : (low : ℕ) → low ≤ q.last → low ≤ suc n
      → (cond read seen.same seen.other ≡ true → ¬ (q.last ≤ low)) → (seen.owned ≡ true → ¬ (n < low))
      → ¬ Finishes q s.first s.code low
  none_within low last behind late unwritten f =
      let alone =
      lowest_unmoved q s.first low last (behind_each low behind) (le_refl _) (rw (end_is of) order) (le_refl low) f
      in
      ⊎_elim (λ e. late e.0 e.1) (λ e. unwritten e.0 e.1)
      ((sight.exact of.even of.tasked low).0 alone)

-- With a write-back on the way it finishes within as many steps as that takes.
module _ {site : Site} {s : Segment} {read : Bool} {n : ℕ} {seen : Seen} {w : List ℕ} {q : Stretch}
    (of : EvenOn site s w q read n) (order : s.first ≤ s.end) (sight : Seeing site s w seen)
    (named : 1 ≤ site.owner.0) (fits : s.code < 64) where
  -- The owner has a copy without a move.
  by_owner : seen.owned ≡ true → (l : ℕ) → l < FAR
      → Finishes (ending q FAR) s.first s.code l ↔ (plus n 1 ≤ l)
  by_owner owned l far =
      let on = unended_on of in
      let seen_on = sight.exact on.even on.tasked l in (
        λ f. elim (dec_le (plus n 1) l) [
          | yes b ↦ b
          | no b ↦
              absurd (none_below on order sight (plus n 1) (plus_far n 1) (omega arith) l
              (omega arith) f)
        ],
        λ b. unmoved_finishes (ending q FAR) (seen_on.1 (inr (owned, omega arith))),
      )

  -- It has none, but there is one.
  by_move : seen.owned ≡ false → s.code ≢ 0 → (l : ℕ) → l < FAR
      → Finishes (ending q FAR) s.first s.code l ↔ (plus n 2 ≤ l)
  by_move unowned some l far =
      let owner : 1 ≤ q.site.owner = rw (owner_is of) named in
      let two = written (ending q FAR) s.first s.code n owner fits some (back_is of (le_refl _) order) in (
        λ f. elim (dec_le (plus n 2) l) [
          | yes b ↦ b
          | no b ↦
              absurd (none_within (unended_on of) order sight l (omega arith) (omega arith)
              (λ all h. absurd (omega arith)) (λ owned. absurd (true≢false (sym owned ∙ unowned))) f)
        ],
        λ b. finishes_more (ending q FAR) two (omega arith),
      )

  -- One number says it.
  by_writing : (l : ℕ) → l < FAR → Finishes (ending q FAR) s.first s.code l ↔ (written_of s n seen ≤ l)
  by_writing l far = by_test (eqb s.code 0) none some
    where
      none : T (eqb s.code 0) → Finishes (ending q FAR) s.first s.code l ↔ (written_of s n seen ≤ l)
      none z =
          let bare : eqb s.code 0 ≡ true = T→true z in
          rw bare
          (λ f. absurd (none_written of (le_refl _) (eqb→eq s.code 0 z) far f), λ b. absurd (omega arith))

      owned : (b : Bool) → seen.owned ≡ b → s.code ≢ 0
          → Finishes (ending q FAR) s.first s.code l ↔ (plus n (cond b 1 2) ≤ l)
      owned true e c = by_owner e l far
      owned false e c = by_move e c l far

      some : T (not (eqb s.code 0)) → Finishes (ending q FAR) s.first s.code l ↔ (written_of s n seen ≤ l)
      some c =
          let held : eqb s.code 0 ≡ false = not→false c in
          rw held (owned seen.owned refl (ne_test s.code 0 c))

-- It takes FAR at most.
pub written_far : (s : Segment) (n : ℕ) (seen : Seen) → written_of s n seen ≤ FAR
written_far s n seen = go (eqb s.code 0)
  where
    go : (b : Bool) → cond b FAR (plus n (cond seen.owned 1 2)) ≤ FAR
    go true = le_refl FAR
    go false = plus_far n (cond seen.owned 1 2)

-- ---- with the value of the copies in memory

module _ {site : Site} {s : Segment} {task : Task} {n : ℕ} {seen : Seen} {w : List ℕ}
    (ok : Sameable site s task n seen w) (whole : s.end ≤ s.reset) where
  -- What the task says of the segment.
  same_order : s.first ≤ s.end
  same_order = rw (← (ok.even whole).end) ok.ready.order

  same_named : 1 ≤ site.owner.0
  same_named = rw (← (ok.even whole).owner) ok.ready.owner.0

  same_last : {q : Stretch} → Tasked task s.first w q → q.last ≡ n
  same_last tasked = tasked.last ∙ ok.last whole

  same_on : {q : Stretch} → Tasked task s.first w q → EvenOn site s w q true n
  same_on tasked = record { task = task; even = ok.even whole; tasked = tasked }

  -- A write-back is one way to finish.
  same_writes : {q : Stretch} → Tasked task s.first w q → written_of s n seen < FAR
      → Finishes q s.first s.code (written_of s n seen)
  same_writes {q} tasked far =
      let paid = written_of s n seen in
      let back = by_writing (same_on tasked) same_order ok.sight same_named ok.code paid far in
      (linear q q.last s.first s.code paid far).1 (inl (back.1 (le_refl _)))

  unchanged : OnlyLevels s.first task.end w w
  unchanged = only_none (LEVELS + s.first) (LEVELS + (task.end + 1)) w

  -- The events alone are the cheapest way,
  pub same_through : seen.same ≡ true → Fewest task s.first s.code FAR w n w
  same_through all =
      record {
        frame = unchanged;
        counted =
            λ q tasked.
            let last = same_last tasked in
            counted_here q s.first s.code n ok.small
            (λ far. unmoved_finishes q ((ok.sight.exact (ok.even whole) tasked n).1 (inl (all, omega arith))))
            (none_below (same_on tasked) same_order ok.sight n (omega arith) (omega arith));
      }

  -- or a write-back that takes one step,
  pub same_written : seen.same ≡ false → written_of s n seen ≤ n + 1
      → Fewest task s.first s.code FAR w (written_of s n seen) w
  same_written stuck few =
      record {
        frame = unchanged;
        counted =
            λ q tasked.
            let last = same_last tasked in
            counted_here q s.first s.code (written_of s n seen) (written_far s n seen) (same_writes tasked)
            (λ l h f.
            absurd (none_within (same_on tasked) same_order ok.sight n (omega arith) (omega arith)
            (λ all. absurd (true≢false (sym all ∙ stuck))) (λ owned b. absurd (omega arith))
            (finishes_more q f (omega arith))));
      }

  -- or less was sought.
  pub same_sought : {r : ℕ} {w' : List ℕ} → Fewest task s.first s.code (written_of s n seen) w r w'
      → Fewest task s.first s.code FAR w (min (written_of s n seen) r) w'
  same_sought {r} sought =
      record {
        frame = sought.frame;
        counted =
            λ q tasked.
            counted_below q s.first s.code (written_of s n seen) r (written_far s n seen) (same_writes tasked)
            (sought.counted q tasked);
      }

-- ---- keeping a memory value

-- A segment without a reset, in which the value is not read and nothing is written back:
module _ {site : Site} {s : Segment} {seen : Seen} {w : List ℕ} (whole : s.end ≤ s.reset)
    (ready : Ready (keeping_of site s) s.first w) (sight : Seeing site s w seen) where
  -- Its task is even.
  even_keeping : Even site s w (keeping_of site s) false FAR
  even_keeping =
      record {
        owner = refl;
        end = refl;
        closing = refl;
        reads = λ t a b. rw (le-leb t s.reset (le_trans b whole)) refl;
        backs = λ t a b. refl;
      }

  module _ {q : Stretch} (tasked : Tasked (keeping_of site s) s.first w q) where
    seen_keeping : (l : ℕ) → Unmoved q s.first s.code l
        ↔ (((seen.other ≡ true) × (q.last ≤ l)) ⊎ ((seen.owned ≡ true) × (FAR < l)))
    seen_keeping = sight.exact even_keeping tasked

    -- It costs nothing where the events run through,
    pub keeps_free : {below : ℕ} → seen.other ≡ true → 0 < below → Counted q s.first s.code below 0
    keeps_free all some =
        let last : q.last ≤ 0 = rw tasked.last (le_refl 0) in
        let here = unmoved_finishes q ((seen_keeping 0).1 (inl (all, last))) in
        record {
          most = omega arith;
          exact = λ l h. (λ f. omega arith, λ b. finishes_more q here b);
          far = λ b. absurd (omega arith);
        }

    -- and else something.
    pub keeps_for_some : {below : ℕ} → (0 < below → seen.other ≢ true) → below ≤ 1
        → Counted q s.first s.code below FAR
    keeps_for_some {below} stuck few =
        record {
          most = le_refl FAR;
          exact = λ l h. (λ f. absurd (none l h f), λ b. absurd (omega arith));
          far = λ b. refl;
        }
      where
        none : (l : ℕ) → l < below → ¬ Finishes q s.first s.code l
        none l h f =
            let alone = lowest_unmoved q s.first 0 (omega arith) (λ t a b. omega arith) (le_refl _)
            (stretch_order ready tasked) (omega arith) f in
            ⊎_elim (λ e. stuck (omega arith) e.0) (λ e. absurd (omega (arith, e.1))) ((seen_keeping l).0 alone)

-- What a number can spare is at most FAR, and more if the number is.
pub spared_far : (a b : ℕ) → spared_of a b ≤ FAR
spared_far a b =
    elim (dec_le FAR a) [
      | yes h ↦ rw (le-leb FAR a h) (le_refl FAR)
      | no h ↦ rw (lt-leb FAR a (omega arith)) (omega arith)
    ]

spared_more : (a a' b : ℕ) → a ≤ a' → spared_of a b ≤ spared_of a' b
spared_more a a' b le =
    elim (dec_le FAR a') [
      | yes h ↦ rw (le-leb FAR a' h) (spared_far a b)
      | no h ↦ rw (lt-leb FAR a' (omega arith), lt-leb FAR a (omega arith)) (omega arith)
    ]

-- A number that was sought below a bound, below a lesser one.
counted_less : (q : Stretch) (from c bound less r : ℕ) → less ≤ bound → less ≤ FAR → Counted q from c bound r
    → Counted q from c less (only_below r less)
counted_less q from c bound less r le far counted =
    elim (dec_le less r) [
      | yes h ↦
          rw (le-ltb r less h)
          (record {
            most = le_refl FAR;
            exact = λ l b. (
              λ f. absurd (omega (arith, (counted.exact l (omega arith)).0 f)),
              λ b'. absurd (omega arith),
            );
            far = λ b. refl;
          })
      | no h ↦
          rw (lt-ltb r less (omega arith))
          (record {
            most = omega arith;
            exact = λ l b. counted.exact l (omega arith);
            far = λ b. absurd (omega arith);
          })
    ]

-- ---- with another value in memory

module _ {site : Site} {s : Segment} {task : Task} {n least : ℕ} {seen : Seen} {w : List ℕ}
    (ok : Otherable site s task n least seen w) (whole : s.end ≤ s.reset) where
  -- Without write-backs and with nothing to pay behind it, the stretch is one that keeps the value.
  keeping_tasked : {q : Stretch} → Tasked task s.first w q
      → Tasked (keeping_of site s) s.first w (ending (dry q) 0)
  keeping_tasked {q} tasked =
      let even = ok.even whole in
      let inside : (t : ℕ) → t ≤ s.end → t ≤ task.end = λ t h. rw even.end h in
      let kept = even_keeping whole (ok.keeping whole) ok.sight in
      record {
        owner = tasked.owner ∙ even.owner;
        end = tasked.end ∙ even.end;
        last = refl;
        events = λ t a b. tasked.events t a (inside (suc t) b);
        inner = λ t a b. tasked.inner t a (inside (suc t) b);
        backs = λ t a b. refl;
        reads = λ t a b. tasked.reads t a (inside t b) ∙ even.reads t a b ∙ sym (kept.reads t a b);
        accepts = accepts;
      }
    where
      accepts : (c : ℕ) → q.accepts c ≡ accepting s.closing (reads_at (keeping_of site s) s.end) c
      accepts c =
          let even = ok.even whole in
          let kept = even_keeping whole (ok.keeping whole) ok.sight in
          let order = (ok.keeping whole).order in
          tasked.accepts c
          ∙ rw (
            even.closing,
            even.end,
            even.reads s.end order (le_refl _),
            kept.reads s.end order (le_refl _),
          ) refl

  module _ {kept : ℕ} {w' : List ℕ} (keeps : Keeps site s (spared_of (written_of s n seen) least) w kept w') where
    -- What keeping costs is at most FAR.
    pub keeps_far : kept ≤ FAR
    keeps_far = (keeps.counts whole (ending (dry ok.ready.stretch) 0) (keeping_tasked ok.ready.tasked)).most

    -- The lesser of both ways.
    abbrev others_least : ℕ
    others_least = min (written_of s n seen) (plus kept task.last)

    -- Either the value is kept, or the copies are written back.
    others_counted : (q : Stretch) → Tasked task s.first w q
        → Counted q s.first s.code FAR others_least
    others_counted q tasked =
        let even = ok.even whole in
        let order = (ok.keeping whole).order in
        let named : 1 ≤ site.owner.0 = rw (← even.owner) ok.ready.owner.0 in
        let on : EvenOn site s w q false n = record { task = task; even = even; tasked = tasked } in
        let paid = written_of s n seen in
        let counts = keeps.counts whole (ending (dry q) 0) (keeping_tasked tasked) in
        let last = tasked.last in
        let exact = two_ways (λ m x. Finishes (ending q m) s.first s.code x)
        (Finishes (ending q FAR) s.first s.code) (Finishes (ending (dry q) 0) s.first s.code)
        (λ m x far. linear q m s.first s.code x far) paid FAR kept least (written_far s n seen)
        (by_writing on order ok.sight named ok.code) counts.exact counts.far
        q.last (rw last ok.small.1) (rw last (ok.spares whole)) in
        record {
          most = le_trans (omega arith) (written_far s n seen);
          exact = λ l far. rw (← last) (exact l far);
          far = λ b. omega (arith, written_far s n seen);
        }

    -- What it costs to keep it, below what that can spare.
    others_keep : Keeps site s (spared_of others_least least) w (only_below kept (spared_of others_least least)) w'
    others_keep =
        let paid = written_of s n seen in
        let less : others_least ≤ paid = omega arith in
        record {
          frame = keeps.frame;
          resets = λ h. absurd (omega arith);
          counts =
              λ h q tasked.
              counted_less q s.first s.code (spared_of paid least) (spared_of others_least least) kept
              (spared_more others_least paid least less) (spared_far others_least least) (keeps.counts h q tasked);
        }

    -- These are the numbers.
    abbrev pub others_numbers : Others
    others_numbers = record { other = others_least; keep = only_below kept (spared_of others_least least) }

    pub others_right : OthersOf site s task least w others_numbers w'
    others_right = record { counts = others_counted; keeps = others_keep }
