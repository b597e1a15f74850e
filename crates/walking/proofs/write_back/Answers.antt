-- `write_back` meets its contract.
use native.Mathlib.Omega.{arith}
use mathlib.Core.Path.{refl}
use mathlib.Core.List.{[]}
use mathlib.Core.Bool.{true, not}
use lib.ListN.{length-append}
use Rattle.model.specs.Sharers.{has}
use Rattle.walking.specs.Trails.{one_if, draining, word_of}
use Rattle.scratch.proofs.Stored.{stored_none, stored_one, stored_length}
use Rattle.walking.proofs.StepWords.{one_if_few, stored_if}
use Rattle.walking.proofs.Entering.{draining_trail}
use Rattle.walking.proofs.write_back.Goals as goal

pub bounds-w-to : goal.bounds-w-to
bounds-w-to c =
    let stored = c.put_if-to.ensures in
    let owned = c.holds-owned.result in
    omega (arith, stored_length stored, stored.here, one_if_few (not owned) c.word.result)

pub returns : goal.returns
returns c =
    let a = c.args in
    let k = a.site.owner.0 in
    let z = a.p.code in
    let i = c.first_holder-first.result.0 in
    let b = not (has k z) in
    let f = word_of a.t a.site.location.0 in
    let moved = rw (c.word.ensures, c.holds-owned.ensures) at c.put_if-to.ensures in
    let to = c.put_if-to in
    let written = stored_one to.new.w to.result (f 0) in
    let one = stored_if f [] b i (stored_none a.w.now a.p.end) moved in
    record {
      moved = record {
        machines = draining k z i;
        few = rw length-append (omega (arith, one_if_few b i));
        noted = rw c.word-2.ensures (stored_if f (one_if b i) true 0 one written);
        trail = draining_trail k z i c.requires.one_to_six c.first_holder-first.ensures.held a.u a.p.memory;
        fits = omega arith;
      };
      code_value = (refl, refl);
    }
