-- What the writers answer and leave in the output.
use Rattle.std.specs.Prelude.{ℕ, ◌+◌, Bool, true, cond, ◌&&◌, List, [], ◌∷◌, map, leb, ltb, length}
use Rattle.model.specs.Schedule.{Step, in_order}
use Rattle.model.specs.Words.{step_of_word}
use Rattle.fields.specs.Put.{put}
use Rattle.verdict_file.specs.Files.{Verdict, allowed, impossible, file_of, steps_most, file_most, events_most}
use Rattle.verdict_file.specs.Answers.{Answer, gives, refused}
use Rattle.verdict_file.specs.declared.filling.Verdict as told
use Rattle.verdict_file.specs.declared.filling.Verdict.TheVariants.{Allowed, Impossible}

-- The verdict whose steps these words hold.
abbrev pub allowed_by : List ℕ → Verdict
allowed_by ws = allowed (map step_of_word ws)

-- The verdict that a file is to say.
abbrev pub said : told.Verdict → Verdict
said (Allowed steps) = allowed_by steps.now
said (Impossible event) = impossible event

-- A step has three bytes: each of its numbers fits one.
unfoldable pub three_bytes : Step → Bool
three_bytes p = ltb p.before 256 && ltb p.location 256 && ltb p.machine 256

unfoldable pub all_three_bytes : List Step → Bool
all_three_bytes [] = true
all_three_bytes (p ∷ ps) = three_bytes p && all_three_bytes ps

-- The verdict is of a verdict file's form. Allowed: at most 256 steps, each of three bytes, and the count of events
-- before never falls and is at most 128, as many as a log has. Impossible: the event is 1 to 128.
unfoldable pub writable : Verdict → Bool
writable (allowed ps) = leb (length ps) steps_most && all_three_bytes ps && in_order 0 events_most ps
writable (impossible event) = leb 1 event && leb event events_most

-- A step of this form may come next, where the step before it has `least` events before it.
unfoldable pub comes_next : (least : ℕ) → Step → Bool
comes_next least p = three_bytes p && (leb least p.before && leb p.before events_most)

-- The longest file has room from the offset on.
unfoldable pub room : List ℕ → ℕ → Bool
room out offset = leb (offset + file_most) (length out)

-- 1 if the output has no room, then 13 if the verdict is not of a verdict file's form; else the length of its file.
unfoldable pub answer : (out : List ℕ) (offset : ℕ) → Verdict → Answer
answer out offset v =
    cond (room out offset) (cond (writable v) (gives (length (file_of v))) (refused 13)) (refused 1)

-- An answer with a length leaves the new list, a refusal the old one.
abbrev pub leaves : Answer → (new old : List ℕ) → List ℕ
leaves (gives n) new old = new
leaves (refused number) new old = old

-- The output with the file from the offset on, or, after a refusal, as it was.
unfoldable pub output : (out : List ℕ) (offset : ℕ) → Verdict → List ℕ
output out offset v = leaves (answer out offset v) (put out offset (file_of v)) out
