-- `write` puts the file at the offset where it has room and the verdict is of a file's form, and changes nothing where
-- not.
use mathlib.Core.Path.{sym, ◌∙◌}
use Rattle.model.proofs.Tests.{true→T}
use Rattle.verdict_file.specs.Writing.{said}
use Rattle.verdict_file.proofs.Writing.{part_fits, refuses_room, refuses_form, writes_file}
use Rattle.verdict_file.proofs.write.Goals as goal

pub returns-then-not-has_room : goal.returns-then-not-has_room
returns-then-not-has_room c =
    let r = refuses_room c.args.out.now c.args.offset c.has_room.ensures (said c.args.verdict) c.if-not-has_room.true in
    record { result_value = r.0; out_after = r.1 }

pub returns-then-not-is_writable : goal.returns-then-not-is_writable
returns-then-not-is_writable c =
    let r = refuses_form c.args.out.now c.args.offset c.has_room.ensures (said c.args.verdict) c.is_writable.ensures
    c.if-not-has_room.false c.if-not-is_writable.true in
    record { result_value = r.0; out_after = r.1 }

-- The part from the offset on is long enough, and the verdict is of the form.
pub fill-requires : goal.fill-requires
fill-requires c = (
  part_fits c.args.out.now c.args.offset c.has_room.ensures c.if-not-has_room.false,
  true→T (sym c.is_writable.ensures ∙ c.if-not-is_writable.false),
)

pub returns : goal.returns
returns c =
    let fill = c.fill.ensures in
    let r = writes_file c.args.out.now c.args.offset c.has_room.ensures (said c.args.verdict) c.is_writable.ensures
    c.if-not-has_room.false c.if-not-is_writable.false fill.value fill.part_after in
    record { result_value = r.0; out_after = r.1 }
