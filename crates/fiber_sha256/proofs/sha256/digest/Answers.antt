-- The loop writes the bytes of word after word: what is left to write, from here, gives the whole.
use Rattle.std.proofs.Common.{◌+◌, ◌*◌, ◌∙◌, ap, sym, drop, List, ℕ, arith, rules}
use mathlib.Core.List.{flat_map}
use Rattle.std.proofs.lemmas.List.Edits.{sets}
use Rattle.fiber_bytes.specs.Bytes.{be_bytes}
use Rattle.fiber_bytes.proofs.BytesLaws.{left_more, left_end, each_fill}
use Rattle.fiber_sha256.proofs.Sha256Laws.{word_length, be_bytes_four}
use Rattle.fiber_sha256.proofs.sha256.digest.Goals as goal

pub loop-i-init : goal.loop-i-init
loop-i-init c = each_fill (be_bytes 4) 4 word_length _ _ (search rules)

pub loop-i-preserved : goal.loop-i-preserved
loop-i-preserved c =
    let l = c.loop-i in
    let h = c.args.h in
    let e = c.put.ensures ∙ ap (sets l.r (4 * l.i)) (c.to_be_bytes.ensures ∙ be_bytes_four _) in
    ap (λ (r : List ℕ). sets r (4 * (l.i + 1)) (flat_map (be_bytes 4) (drop (l.i + 1) h))) e
    ∙ left_more (be_bytes 4) 4 word_length l.r h l.i (4 * l.i) _ (search rules) (omega arith)
    ∙ l.invariant

pub returns : goal.returns
returns c = sym (left_end (be_bytes 4) 4 word_length c.loop-i.r c.args.h c.loop-i.i _ (search rules)) ∙ c.loop-i.invariant
