-- The bytes of a verdict file (document 01, "Log and verdict bytes").
use Rattle.std.specs.Prelude.{ℕ, List, [], ◌∷◌, ◌++◌}
use Rattle.model.specs.Schedule.{Step}
use Rattle.log_bytes.specs.Bytes.{field}

-- A log has a run, with these silent steps, or its first impossible event is this one, counted from 1.
pub data Verdict : Type 0 where
  allowed : List Step → Verdict
  impossible : ℕ → Verdict

-- At most 256 steps, so 1,544 bytes.
abbrev pub steps_most : ℕ
steps_most = 256

abbrev pub file_most : ℕ
file_most = 1544

-- At most 128 events in a log.
abbrev pub events_most : ℕ
events_most = 128

-- Tag 10: 1 if allowed or 0 if impossible, and the number of the first impossible event or 0.
unfoldable pub header : ℕ → ℕ → List ℕ
header verdict event = field 0x10 (verdict ∷ event ∷ [])

-- Tag 11: the number of events before the step, its location, and its machine, 0 for a write-back.
unfoldable pub step_field : Step → List ℕ
step_field p = field 0x11 (p.before ∷ p.location ∷ p.machine ∷ [])

unfoldable pub step_fields : List Step → List ℕ
step_fields [] = []
step_fields (p ∷ ps) = step_field p ++ step_fields ps

-- Tag 04: the end.
unfoldable pub end : List ℕ
end = field 0x04 []

unfoldable pub file_of : Verdict → List ℕ
file_of (allowed ps) = header 1 0 ++ step_fields ps ++ end
file_of (impossible event) = header 0 event ++ end
