-- `turn` meets its contract: the event is elsewhere, or the gap leads into the row before it and `act_at` answers for
-- it.
use Prim.Native.Nat.{ℕ, suc, ◌+◌}
use native.Mathlib.Numerals.{add-one}
use mathlib.Core.Path.{◌≡◌, sym, ap, ◌∙◌}
use mathlib.Core.Bool.{true}
use mathlib.Core.List.{List}
use Rattle.model.specs.Cxl0.{Value}
use Rattle.model.specs.OneLocation.{event_at}
use Rattle.model.specs.Meaning.{meant}
use Rattle.model.specs.declared.Event as event
use Rattle.model.proofs.Tests.{true→T, false→not}
use Rattle.entries.specs.Entries.{site_meant}
use Rattle.entries.specs.declared.Acted.{Acted}
use Rattle.entries.specs.declared.Site.{Site}
use Rattle.rows.specs.declared.Row.{Row}
use Rattle.rows.specs.Rows.{Fine, RowOf, Line, Closed}
use Rattle.rows.specs.Sites.{copy_after}
use Rattle.scratch.specs.declared.Waypoint.{Waypoint}
use Rattle.scratch.specs.Words.{event_in, row_in, copy_in, struct_in}
use Rattle.scratch.proofs.Events.{meant_read}
use Rattle.walking.specs.Acting.{Acts}
use Rattle.walking.specs.Walks.{Enters, Moved, Standing, Turned}
use Rattle.walking.proofs.Turns.{turned_elsewhere, turn-closed, turn-enters, turned_here}
use Rattle.walking.proofs.turn.Goals as goal

-- ---- what was read

-- What was read as event t means that event.
module _ {s : Site} {t : ℕ} {p : Waypoint} {w : List ℕ} (stands : Standing s t p w)
    {e : event.Event} (read : e ≡ struct_in w t) where
  told : meant e ≡ event_in w t
  told = meant_read w t e read

  -- The copies before it, and the row after it, which is closed under the copies that the event leaves.
  module _ {u : Value} (copied : u ≡ copy_in w t) {rest : Row} (after : rest ≡ row_in w (t + 1)) where
    next : rest ≡ row_in w (suc t)
    next = after ∙ ap (row_in w) (add-one t)

    closed : Closed (copy_after s.location.0 u (meant e)) rest
    closed = turn-closed stands told copied next

    -- It concerns the site. The row before it is the table's, for which the same event was read once more.
    module _ (here : event_at s.location.0 (meant e) ≡ true) {again : event.Event} (reread : again ≡ struct_in w t)
        (inner : Row) (table : RowOf (λ c m. Line (site_meant s) (meant again) u rest c m) inner) where
      line : RowOf (λ c m. Line (site_meant s) (meant e) u rest c m) inner
      line = rw (reread ∙ sym read) at table

      enters : Enters s.owner.0 u inner p.code p.memory
      enters = turn-enters stands told copied next (true→T here) inner line

      turned : (q : Waypoint) (w' : List ℕ) → Moved s t u p w q w' → Fine inner q.code q.memory
          → (made : Acted) → Acts s (meant e) u q made
          → Turned s t p w (record { code = made.entry.sharers; memory = made.entry.memory; end = q.end }) w'
      turned = turned_here stands told copied next (true→T here) inner line

-- ---- the gap and the event

pub row_before-row-requires-clause-closed : goal.row_before-row-requires-clause-closed
row_before-row-requires-clause-closed c =
    closed c.requires c.get_event.ensures c.get_copy-u.ensures c.get_row-rest.ensures

pub gap-q-requires-clause-code_bound : goal.gap-q-requires-clause-code_bound
gap-q-requires-clause-code_bound c =
    let here = sym c.concerned.ensures ∙ c.if-concerned.true in
    let stands = c.requires in (
      stands.fits,
      enters stands c.get_event-e.ensures c.get_copy-u.ensures c.get_row-rest.ensures here
          c.get_event.ensures c.row_before-row.result c.row_before-row.ensures,
    )

pub returns-then-concerned : goal.returns-then-concerned
returns-then-concerned c =
    let here = sym c.concerned.ensures ∙ c.if-concerned.true in
    let made = c.act_at-made in
    turned c.requires c.get_event-e.ensures c.get_copy-u.ensures c.get_row-rest.ensures here
    c.get_event.ensures c.row_before-row.result c.row_before-row.ensures
    c.gap-q.result c.gap-q.new.w c.gap-q.ensures.0 c.gap-q.ensures.1 made.result made.ensures

pub returns : goal.returns
returns c =
    let away = false→not (sym c.concerned.ensures ∙ c.if-concerned.false) in
    turned_elsewhere c.requires (told c.requires c.get_event-e.ensures) away
