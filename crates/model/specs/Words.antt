-- A step of a schedule in one number, as the search keeps it and the verdict file's writer takes it: the events before
-- it, the location, and the machine (0: write-back), low byte first.
use Rattle.std.specs.Prelude.{ℕ, ◌/◌, ◌%◌}
use Rattle.model.specs.Schedule.{Step}

unfoldable pub step_of_word : ℕ → Step
step_of_word v = record { before = v % 256; location = v / 256 % 256; machine = v / 65536 }
