-- Laws of `specs/Request.antt`: row 14 by its parts, in the order of the code, and the delay in the lock args.
-- Assumes nothing.
use Prim.Native.Nat.{ℕ, ◌≤◌}
use mathlib.Core.Path.{◌≡◌, refl, subst}
use mathlib.Core.Bool.{Bool, true, false, cond}
use mathlib.Core.List.{List}
use lib.Dec.{ltb}
use lib.ListN.{length}
use borrow.Author.Tests.{ltb-false}
use Rattle.std.proofs.lemmas.Bool.{and_parts}
use Rattle.std.specs.Prelude.{Option, Some, None, Result, Ok, Err}
use Rattle.fiber_refusal.specs.declared.Refusal.{Refusal}
use Rattle.fiber_refusal.specs.declared.Refusal.TheVariants.{ArgsShort, NoDelay}
use Rattle.fiber_bytes.specs.Bytes.{part, le}
use Rattle.fiber_since.specs.declared.epoch.Epoch.{Epoch}
use Rattle.fiber_since.specs.declared.since.Metric.{Metric}
use Rattle.fiber_since.specs.declared.since.Metric.TheVariants as MetricCase
use Rattle.fiber_since.specs.Since.{by_metric, since}
use Rattle.fiber_since.specs.Epoch.{epoch_of, within_bits}
use Rattle.fiber_since.proofs.EpochLaws.{epoch_within}
use Rattle.fiber_types.specs.HashLen.{valid_hash_len}
use Rattle.fiber_choice.specs.Entries.{entries, all, settlement_len, valid_settlement}
use Rattle.fiber_choice.specs.Request.{Request, valid_data, valid_request, delay_of}

-- ---- row 14

-- what the walk asks of a valid request
pub record Valid (q : Request) : Type 0 where
  pub hash : valid_hash_len q.h ≡ true
  pub entries : all valid_settlement (entries settlement_len q.settlement.tlcs) ≡ true
  pub header : within_bits q.header ≡ true
  pub current : within_bits q.current ≡ true

-- it has that
pub valid : (q : Request) → valid_request q ≡ true → Valid q
unfolding valid_request valid_data
valid q e =
    let (to_header, current) = and_parts _ _ e in
    let (to_pairs, header) = and_parts _ _ to_header in
    let (hash, lent) = and_parts _ _ (and_parts _ _ (and_parts _ _ (and_parts _ _ to_pairs).0).0).0 in
    record { hash = hash; entries = (and_parts _ _ (and_parts _ _ (and_parts _ _ lent).0).0).1; header = header; current = current }

-- ---- the delay

-- of a delay that is turned down nothing is said
abbrev Delayed : List ℕ → Result Epoch Refusal → Type 0
Delayed args (Ok full) = (36 ≤ length args) × (within_bits full ≡ true)
Delayed args (Err r) = Unit {0}

-- by the metric
metric_delayed : (args : List ℕ) (m : Option Metric) (v : ℕ) → 36 ≤ length args → Delayed args (by_metric (Ok (epoch_of v)) (Err NoDelay) (Err NoDelay) m)
metric_delayed args (Some MetricCase.Block) v h = tt
metric_delayed args (Some MetricCase.Epoch) v h = (h, epoch_within v)
metric_delayed args (Some MetricCase.Timestamp) v h = tt
metric_delayed args None v h = tt

-- every delay is fine
delayed : (args : List ℕ) → Delayed args (delay_of args)
unfolding delay_of
delayed args = go (ltb (length args) 36) refl (since (le (part args 20 8))).relative
  where
    go : (b : Bool) → ltb (length args) 36 ≡ b → (r : Bool)
        → Delayed args (cond b (Err ArgsShort) (cond r (by_metric (Ok (epoch_of (since (le (part args 20 8))).value)) (Err NoDelay) (Err NoDelay) (since (le (part args 20 8))).metric) (Err NoDelay)))
    go true e r = tt
    go false e true = metric_delayed args (since (le (part args 20 8))).metric (since (le (part args 20 8))).value (ltb-false _ _ e)
    go false e false = tt

-- so the args have 36 bytes, and the delay's fields are within their bits
pub delay_epoch : (args : List ℕ) (full : Epoch) → delay_of args ≡ Ok full → (36 ≤ length args) × (within_bits full ≡ true)
delay_epoch args full e = subst (Delayed args) e (delayed args)
