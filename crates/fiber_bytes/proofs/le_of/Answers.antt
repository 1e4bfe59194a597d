-- The chain folds over the bytes from the last down.
use Rattle.std.proofs.Common.{rules, ◌≡◌, ◌∙◌, ◌*◌, ◌%◌, ◌^◌, bit_or, reverse}
use Rattle.std.specs.List.{fold}
use Rattle.fiber_bytes.proofs.BytesLaws.{le_fold}
use Rattle.fiber_bytes.proofs.le_of.Goals as goal

pub returns : goal.returns
returns c =
    let s = c.args.bytes.now in
    let e : c.fold.result ≡ fold (λ x b. bit_or (x * 2 ^ 8 % 2 ^ 64) b) 0 (reverse s) = search rules in
    e ∙ le_fold s c.requires (λ i. (c.type_inv.bytes i).fits)
