-- `take_step` meets its contract.
use Rattle.std.proofs.Common.{◌≡◌, ℕ, ◌+◌, [], ◌∷◌, ap, ◌∙◌, arith}
use native.Mathlib.Nat.{le_refl}
use Rattle.scratch.specs.Layout.{BACKS}
use Rattle.scratch.proofs.Frames.{only_set, only_then, only_wider}
use Rattle.scratch.proofs.Stored.{stored_one, stored_words}
use Rattle.scratch.proofs.Segments.{words_kept}
use Rattle.walking.specs.Trails.{word_of}
use Rattle.blocks.specs.Treading.{number_of}
use Rattle.blocks.proofs.Keeping.{tasked_same, ready_same}
use Rattle.blocks.proofs.treading.take_step.Goals as goal

-- The word of a step names its number.
names : (t x : ℕ) {i n v : ℕ} → v ≡ word_of t x i → i ≡ n → v ∷ [] ≡ word_of t x n ∷ []
names t x word number = ap (λ (v : ℕ). v ∷ []) (word ∙ ap (word_of t x) number)

-- The step is noted, and nothing else has changed.
pub returns-in_default : goal.returns-in_default
returns-in_default c =
    let a = c.args in
    let only = only_set a.p.end BACKS a.w.now a.p.end c.word.result (le_refl _) (omega (arith, c.requires.space)) in
    let noted =
    stored_words (stored_one a.w.now a.p.end c.word.result)
    (omega (arith, c.requires.space, c.requires.ready.room))
    in
    record {
      frame = only;
      word = noted ∙ names a.t a.site.location.0 c.word.ensures c.machine.ensures;
      stepped = c.stepped-at.ensures;
      levels = λ some. absurd (omega (arith, ap number_of c.in_default.is));
    }

pub build-requires : goal.build-requires
build-requires c =
    let a = c.args in
    let only = only_set a.p.end BACKS a.w.now a.p.end c.word.result (le_refl _) (omega (arith, c.requires.space)) in
    let old = c.requires.ready in
    let ready = ready_same only c.requires.low (le_refl BACKS) a.q old.few old in
    (ready, omega (arith, c.stepped-at.ensures.steps, c.requires.finite))

-- Only masks have changed after the step was noted.
pub returns-in-Move : goal.returns-in-Move
returns-in-Move c =
    let a = c.args in
    let only = only_set a.p.end BACKS a.w.now a.p.end c.word.result (le_refl _) (omega (arith, c.requires.space)) in
    let noted =
    stored_words (stored_one a.w.now a.p.end c.word.result)
    (omega (arith, c.requires.space, c.requires.ready.room))
    in
    let built =
    only_wider {from' = a.p.end + 1} {to' = BACKS} c.build.ensures.frame (omega (arith, c.requires.space))
    (omega (arith, c.requires.ready.few))
    in
    record {
      frame = only_then only (only_wider built (omega arith) (le_refl BACKS));
      word = words_kept built a.p.end 1 (le_refl _) ∙ noted
          ∙ names a.t a.site.location.0 c.word.ensures c.machine.ensures;
      stepped = c.stepped-at.ensures;
      levels =
          λ some less z s.
          c.build.ensures.levels less z
          (tasked_same only c.requires.low (le_refl BACKS) a.q c.requires.ready.few s);
    }
