-- The front of a buffer that grows by what was read after it.
use Rattle.std.proofs.Common.{◌≡◌, ℕ, ◌+◌, ◌≤◌, List, ◌++◌, take, length, ap, ◌∙◌, subst, length-take-le}
use Rattle.std.proofs.Math.Seq.{take-append-add}
use Rattle.std.proofs.lemmas.List.{take-append-le}
use borrow.Rule.Slice.PartMut.{put_mid, post_of}

pub front_grown : (at room n : ℕ) (xs ys : List ℕ) → at ≤ length xs → n ≤ length ys
    → take (at + n) (put_mid at room xs ys) ≡ take at xs ++ take n ys
front_grown at room n xs ys within fits =
    let front = take at xs in
    let after = post_of at room xs in
    subst (λ k. take (k + n) (front ++ (ys ++ after)) ≡ front ++ take n ys) (length-take-le at xs within)
    (take-append-add front (ys ++ after) n ∙ ap (λ l. front ++ l) (take-append-le n ys after fits))
