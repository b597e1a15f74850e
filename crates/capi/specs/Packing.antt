-- The answers of the calls on logs, each as one number of 64 bits. Bits 0 to 7 are the number of a refusal, or 0
-- if there is none, and a refusal leaves all other bits 0. Bits that are not named are 0.
use Rattle.std.specs.Prelude.{ℕ, ◌+◌, ◌*◌, ◌^◌, ◌<◌}
use Rattle.reader.specs.Answers.{Summary, holds, refused}
use Rattle.recorder.specs.Recording.{Recorded, count, rejected}
use Rattle.converter.specs.Converting as converting
use Rattle.replay.specs.Replaying as replaying
use Rattle.judge.specs.Judging as judging

-- Bits 8 to 39 are the new count of used bytes.
abbrev pub pack_recorded : Recorded → ℕ
pack_recorded (count n) = n * 2 ^ 8
pack_recorded (rejected number) = number

-- Bits 8 to 15 are the machines, 16 to 23 the locations, 24 to 31 the events.
abbrev pub pack_summary : Summary → ℕ
pack_summary (holds edition machines persistent locations events) =
    machines * 2 ^ 8 + locations * 2 ^ 16 + events * 2 ^ 24
pack_summary (refused number) = number

-- Bits 8 to 31 are the length of the log that was written.
abbrev pub pack_converted : converting.Answer → ℕ
pack_converted (converting.gives len) = len * 2 ^ 8
pack_converted (converting.Answer.refused number) = number

-- Bit 8 is set if the answer is yes, and if it is no, bits 16 to 23 are the events passed.
abbrev pub pack_replayed : replaying.Answer → ℕ
pack_replayed replaying.yes = 2 ^ 8
pack_replayed (replaying.no passed) = passed * 2 ^ 16
pack_replayed (replaying.refused number) = number

-- Bit 8 is set if the verdict is allowed, bits 16 to 23 are the event, 24 to 39 the step count, 40 to 55 the
-- length of the file.
abbrev pub pack_judged : judging.Answer → ℕ
pack_judged (judging.gives verdict event steps len) =
    verdict * 2 ^ 8 + event * 2 ^ 16 + steps * 2 ^ 24 + len * 2 ^ 40
pack_judged (judging.refused number) = number

-- The counts of an answer fit the bits that they get. Those of every answer do, as proofs/Sizes.antt shows.
abbrev pub RecordedFits : Recorded → Type 0
RecordedFits (count n) = n < 2 ^ 32
RecordedFits (rejected number) = Unit {0}

abbrev pub ConvertedFits : converting.Answer → Type 0
ConvertedFits (converting.gives len) = len < 2 ^ 24
ConvertedFits (converting.Answer.refused number) = Unit {0}

abbrev pub JudgedFits : judging.Answer → Type 0
JudgedFits (judging.gives verdict event steps len) = (steps < 2 ^ 16) × (len < 2 ^ 16)
JudgedFits (judging.refused number) = Unit {0}
