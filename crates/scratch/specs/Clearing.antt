-- The contents of an area that was cleared.
use Rattle.std.specs.Prelude.{ℕ, List, replicate}

-- Words that are all 0.
abbrev pub zeros : ℕ → List ℕ
zeros n = replicate n 0
