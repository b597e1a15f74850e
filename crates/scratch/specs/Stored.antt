-- Words stored one after the other in the scratch area.
use Rattle.std.specs.Prelude.{ℕ, ◌+◌, ◌≡◌, List, length}
use Rattle.std.proofs.lemmas.List.Edits.{sets}

-- `after` is the area `w` with the words `vs` from `place` on, and `next` is the place after the last one.
pub record Stored (w : List ℕ) (place : ℕ) (vs after : List ℕ) (next : ℕ) : Type 0 where
  pub here : next ≡ place + length vs
  pub words : after ≡ sets w place vs
