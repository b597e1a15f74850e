-- How many silent steps one location can have: two for each of its stores and one for each of its loads.
use Rattle.std.specs.Prelude.{ℕ, ◌+◌, ◌*◌, ◌&&◌, List}
use Rattle.model.specs.Cxl0.{Location, Event, count, is_store, is_load}
use Rattle.model.specs.OneLocation.{event_at}

unfoldable pub allowance : Location → List Event → ℕ
allowance x es = 2 * count (λ e. event_at x e && is_store e) es + count (λ e. event_at x e && is_load e) es
