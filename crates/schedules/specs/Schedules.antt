-- What reading a verdict file as a schedule for a log gives (document 01, "Refusals by number", 13).
use Rattle.std.specs.Prelude.{ℕ, ◌+◌, Bool, cond, ◌&&◌, List, [], ◌∷◌, leb, eqb, length, get_or, drop}
use Rattle.std.proofs.Math.Option.{Option, none, some, map}
use Rattle.model.specs.Cxl0.{Topology}
use Rattle.model.specs.Schedule.{Step}
use Rattle.verdict_file.specs.Fitting.{step_fits, schedule_fits}
use Rattle.verdict_file.specs.Answers.{Answer, gives, refused}

-- Three bytes are a tag and a length below 256.
unfoldable pub starts : (tag len : ℕ) → ℕ → ℕ → ℕ → Bool
starts tag len t lo hi = eqb t tag && eqb lo len && eqb hi 0

-- The bytes begin with a whole field of this tag and length.
unfoldable pub begins : (tag len : ℕ) → List ℕ → Bool
begins tag len s = leb (3 + len) (length s) && starts tag len (get_or s 0 0) (get_or s 1 0) (get_or s 2 0)

-- The bytes are the end and nothing after it.
unfoldable pub is_end : List ℕ → Bool
is_end s = begins 0x04 0 s && eqb (length s) 3

-- The step whose field the bytes begin with.
unfoldable pub first_step : List ℕ → Option Step
first_step s =
    cond (begins 0x11 3 s)
    (some (record { before = get_or s 3 0; location = get_or s 4 0; machine = get_or s 5 0 }))
    none

-- What stands at a position: the step whose field begins there, and the position after the field.
unfoldable pub step_at : List ℕ → ℕ → Option (Step × ℕ)
step_at s at = map (λ p. (p, at + 6)) (first_step (drop at s))

-- The steps of the bytes after a header: fields 11, then a field 04 and nothing after it.
unfoldable pub read_steps : List ℕ → Option (List Step)
read_steps [] = none
read_steps (t ∷ []) = none
read_steps (t ∷ lo ∷ []) = none
read_steps (t ∷ lo ∷ hi ∷ []) = cond (starts 0x04 0 t lo hi) (some []) none
read_steps (t ∷ lo ∷ hi ∷ b ∷ []) = none
read_steps (t ∷ lo ∷ hi ∷ b ∷ x ∷ []) = none
read_steps (t ∷ lo ∷ hi ∷ b ∷ x ∷ i ∷ s) =
    cond (starts 0x11 3 t lo hi)
    (map (λ ps. record { before = b; location = x; machine = i } ∷ ps) (read_steps s))
    none

-- The bytes begin with a header that says allowed, with event 0.
unfoldable pub says_allowed : List ℕ → Bool
says_allowed s = begins 0x10 2 s && eqb (get_or s 3 0) 1 && eqb (get_or s 4 0) 0

-- The steps of a file that says allowed.
unfoldable pub read_allowed : List ℕ → Option (List Step)
read_allowed s = cond (says_allowed s) (read_steps (drop 5 s)) none

-- A step may come next in a log of n events, where the step before it has `least` events before it.
unfoldable pub may_follow : Topology → (n least : ℕ) → Step → Bool
may_follow sys n least p = leb least p.before && leb p.before n && step_fits sys p

-- The steps, if they pass a test.
abbrev pub kept : (List Step → Bool) → Option (List Step) → Option (List Step)
kept test none = none
kept test (some ps) = cond (test ps) (some ps) none

unfoldable pub read_schedule : Topology → ℕ → List ℕ → Option (List Step)
read_schedule sys n s = kept (schedule_fits sys n) (read_allowed s)

-- The number of steps, or refusal 13.
abbrev pub counted : Option (List Step) → Answer
counted none = refused 13
counted (some ps) = gives (length ps)
