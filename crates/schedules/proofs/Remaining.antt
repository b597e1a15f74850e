-- Reading a schedule step by step: what remains to read after the steps so far.
use Prim.Native.Nat.{ℕ, suc, ◌+◌, ◌≤◌, ◌<◌}
use native.Mathlib.Nat.{add-zero, zero-add, add-suc, suc-add}
use native.Mathlib.Omega.{arith}
use mathlib.Core.Path.{◌≡◌, refl, sym, ap, ◌∙◌}
use mathlib.Core.Bool.{Bool, true, false, cond, ◌&&◌, and-false, false≢true}
use mathlib.Core.List.{List, ◌∷◌}
use mathlib.Core.Option.{Option, none, some, map}
use lib.Dec.{leb}
use lib.ListN.{length, drop}
use borrow.Author.Tests.{le-leb, lt-leb}
use Rattle.model.specs.Cxl0.{Topology}
use Rattle.model.specs.Schedule.{Step, in_order}
use Rattle.verdict_file.specs.Files.{steps_most}
use Rattle.verdict_file.specs.Answers.{Answer, gives, refused}
use Rattle.verdict_file.specs.Fitting.{step_fits, every_step_fits, schedule_fits}
use Rattle.schedules.specs.Schedules.{is_end, step_at, read_steps, says_allowed, read_allowed}
use Rattle.schedules.specs.Schedules.{may_follow}
use Rattle.schedules.specs.Schedules.{kept, read_schedule, counted}
use Rattle.schedules.proofs.Cursor.{found, absent}

-- What steps come to that stand behind `count` others, of which the last has `least` events before it.
abbrev rest : Topology → (n least count : ℕ) → Option (List Step) → Answer
rest sys n least count none = refused 13
rest sys n least count (some ps) =
    cond (leb (count + length ps) steps_most && in_order least n ps && every_step_fits sys ps)
    (gives (count + length ps))
    (refused 13)

-- What the bytes from a position on come to.
abbrev pub remaining : Topology → (n : ℕ) → List ℕ → (at least count : ℕ) → Answer
remaining sys n s at least count = rest sys n least count (read_steps (drop at s))

-- The conditions of a step beside those of the steps after it.
passes : (a b c d e : Bool) → (b && c) ≡ true → (a && (b && d) && (c && e)) ≡ (a && d && e)
passes a false c d e f = absurd (false≢true f)
passes a true false d e f = absurd (false≢true f)
passes a true true d e f = refl

fails : (a b c d e : Bool) → (b && c) ≡ false → (a && (b && d) && (c && e)) ≡ false
fails false b c d e f = refl
fails true false c d e f = refl
fails true true false d e f = and-false d
fails true true true d e f = absurd (false≢true (sym f))

module _ (sys : Topology) (n : ℕ) where
  all_at_once : (o : Option (List Step)) → counted (kept (schedule_fits sys n) o) ≡ rest sys n 0 0 o
  unfolding schedule_fits
  all_at_once none = refl
  all_at_once (some ps) =
      rw zero-add (go (leb (length ps) steps_most && in_order 0 n ps && every_step_fits sys ps))
    where
      go : (b : Bool) → counted (cond b (some ps) none) ≡ cond b (gives (length ps)) (refused 13)
      go true = refl
      go false = refl

  one_more : (least count : ℕ) (p : Step) (o : Option (List Step)) → may_follow sys n least p ≡ true
      → rest sys n least count (map (λ ps. p ∷ ps) o) ≡ rest sys n p.before (suc count) o
  unfolding may_follow in_order every_step_fits
  one_more least count p none e = refl
  one_more least count p (some ps) e =
      rw (
        passes (leb (count + suc (length ps)) steps_most) (leb least p.before && leb p.before n)
            (step_fits sys p) (in_order p.before n ps) (every_step_fits sys ps) e,
        add-suc,
        suc-add,
      )

  no_more : (least count : ℕ) (p : Step) (o : Option (List Step)) → may_follow sys n least p ≡ false
      → rest sys n least count (map (λ ps. p ∷ ps) o) ≡ refused 13
  unfolding may_follow in_order every_step_fits
  no_more least count p none e = refl
  no_more least count p (some ps) e =
      rw (fails (leb (count + suc (length ps)) steps_most) (leb least p.before && leb p.before n)
      (step_fits sys p) (in_order p.before n ps) (every_step_fits sys ps) e)

  overfull : (least count : ℕ) (o : Option (List Step)) → steps_most < count
      → rest sys n least count o ≡ refused 13
  overfull least count none h = refl
  overfull least count (some ps) h = rw (lt-leb (count + length ps) steps_most (omega arith))

  crowded : (least count : ℕ) (p : Step) (o : Option (List Step)) → steps_most ≤ count
      → rest sys n least count (map (λ ps. p ∷ ps) o) ≡ refused 13
  crowded least count p none h = refl
  crowded least count p (some ps) h = rw (lt-leb (count + suc (length ps)) steps_most (omega arith))

  module _ (s : List ℕ) where
    pub not_allowed : says_allowed s ≡ false → counted (read_schedule sys n s) ≡ refused 13
    unfolding read_schedule read_allowed
    not_allowed e = rw e

    pub at_first : says_allowed s ≡ true → counted (read_schedule sys n s) ≡ remaining sys n s 5 0 0
    unfolding read_schedule read_allowed
    at_first e = rw e (all_at_once (read_steps (drop 5 s)))

    module _ (at least count : ℕ) where
      -- A step that may follow is one more, and one that may not is refused.
      pub follows : {p : Step} {next : ℕ} → step_at s at ≡ some (p, next) → may_follow sys n least p ≡ true
          → remaining sys n s at least count ≡ remaining sys n s next p.before (suc count)
      follows {p} {next} e may =
          ap (rest sys n least count) (found s at e) ∙ one_more least count p (read_steps (drop next s)) may

      pub misfits : {p : Step} {next : ℕ} → step_at s at ≡ some (p, next) → may_follow sys n least p ≡ false
          → remaining sys n s at least count ≡ refused 13
      misfits {p} {next} e may =
          ap (rest sys n least count) (found s at e) ∙ no_more least count p (read_steps (drop next s)) may

      pub ends : step_at s at ≡ none → is_end (drop at s) ≡ true → count ≤ steps_most
          → remaining sys n s at least count ≡ gives count
      unfolding in_order every_step_fits
      ends e last h =
          ap (rest sys n least count) (absent s at e) ∙ rw (last, add-zero, le-leb count steps_most h)

      pub breaks : step_at s at ≡ none → is_end (drop at s) ≡ false
          → remaining sys n s at least count ≡ refused 13
      breaks e last = ap (rest sys n least count) (absent s at e) ∙ rw last

      -- After more steps than there may be, whatever follows is refused.
      pub too_many : steps_most < count → remaining sys n s at least count ≡ refused 13
      too_many h = overfull least count (read_steps (drop at s)) h

      -- After as many steps as there may be, none may follow.
      pub one_too_many : {p : Step} {next : ℕ} → step_at s at ≡ some (p, next) → steps_most ≤ count
          → remaining sys n s at least count ≡ refused 13
      one_too_many {p} {next} e full =
          ap (rest sys n least count) (found s at e) ∙ crowded least count p (read_steps (drop next s)) full
