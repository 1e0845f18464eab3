use Rattle.std.proofs.Common.{◌≡◌, ℕ, ◌+◌, List, ◌++◌, length, take, refl, ap, ◌∙◌, arith}
use Rattle.std.proofs.lemmas.List.{length-append}
use Rattle.std.proofs.Math.Seq.{take-append_seam}
use Rattle.std.proofs.lemmas.Slice.{take-put_mid}
use borrow.Rule.Slice.PartMut.{put_mid}
use Rattle.key_bytes.proofs.short.Short.joined.Goals as goal

-- the one part and then the other, before zeros
parts_joined : (first second zeros : List ℕ) (k : ℕ)
    → take (length first + length second) (put_mid (length first) k (first ++ zeros) second) ≡ first ++ second
parts_joined first second zeros k =
    take-put_mid (length first) k (first ++ zeros) second (length first + length second) refl (omega (arith, length-append first zeros))
    ∙ ap (λ (xs : List ℕ). xs ++ second) (take-append_seam first zeros)

pub returns : goal.returns
returns c =
    rw (c.copy_from_slice.ensures.after, c.copy_from_slice-2.ensures.after) (parts_joined c.args.first.now c.args.second.now _ _)
