-- Since values after CKB RFC 0017; docs/SCOPE.md, "Since and epochs".
use Rattle.std.specs.Prelude.{ℕ, ◌*◌, ◌/◌, ◌%◌, ◌^◌, cond, eqb, ltb, Option, Some, None}
use Rattle.fiber_since.specs.declared.since.Metric.{Metric}
use Rattle.fiber_since.specs.declared.since.Metric.TheVariants.{Block, Epoch, Timestamp}
use Rattle.fiber_since.specs.declared.since.Since.{Since}

-- bits 62 and 61: 00 block, 01 epoch, 10 timestamp, 11 none
unfoldable pub metric_of : ℕ → Option Metric
metric_of bits = cond (eqb bits 0) (Some Block) (cond (eqb bits 1) (Some Epoch) (cond (eqb bits 2) (Some Timestamp) None))

-- one answer for an epoch, one for a timestamp, one for the other two
abbrev pub by_metric : {A : Type 0} → A → A → A → Option Metric → A
by_metric epoch timestamp other (Some Block) = other
by_metric epoch timestamp other (Some Epoch) = epoch
by_metric epoch timestamp other (Some Timestamp) = timestamp
by_metric epoch timestamp other None = other

-- bit 63: relative; the low 56 bits: the value
unfoldable pub since : ℕ → Since
since raw = record { relative = eqb (raw / 2 ^ 63) 1; metric = metric_of (raw / 2 ^ 61 % 4); value = raw % 2 ^ 56 }

-- seconds times 1000, no expiry where that passes 64 bits
unfoldable pub millis : ℕ → Option ℕ
millis seconds = cond (ltb (seconds * 1000) (2 ^ 64)) (Some (seconds * 1000)) None

-- an absolute timestamp, or no expiry
unfoldable pub absolute_expiry : ℕ → Option ℕ
absolute_expiry raw = cond (since raw).relative None (by_metric None (millis (since raw).value) None (since raw).metric)
