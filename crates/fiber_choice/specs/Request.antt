-- What a choice is asked with; docs/SCOPE.md, "What the host lends", with rows 14, 10 and 11 of its table.
use Rattle.std.specs.Prelude.{ℕ, Bool, cond, ◌&&◌, List, length, eqb, ltb, Result, Ok, Err}
use Rattle.fiber_bytes.specs.Bytes.{part, le}
use Rattle.fiber_since.specs.declared.epoch.Epoch.{Epoch}
use Rattle.fiber_refusal.specs.declared.Refusal.{Refusal}
use Rattle.fiber_refusal.specs.declared.Refusal.TheVariants.{ArgsShort, NoDelay}
use Rattle.fiber_since.specs.Since.{by_metric, since}
use Rattle.fiber_since.specs.Epoch.{epoch_of, within_bits}
use Rattle.fiber_types.specs.declared.tlc.Amount.{Amount}
use Rattle.fiber_types.specs.HashLen.{valid_hash_len}
use Rattle.fiber_choice.specs.declared.request.SettlementData.{SettlementData as LentData}
use Rattle.fiber_choice.specs.declared.request.Request.{Request as Asked}
use Rattle.fiber_choice.specs.Entries.{entries, whole_entries, all, settlement_len, valid_settlement, tracked_len, valid_tracked, pair_len}

-- the settlement TLCs, with both share amounts and both settlement keys beside the list
pub record SettlementData : Type 0 where
  pub tlcs : List ℕ
  pub local_amount : Amount
  pub remote_amount : Amount
  pub local_key : List ℕ
  pub remote_key : List ℕ

-- all that the host hands in but the witness: numbers, and lists of bytes
pub record Request : Type 0 where
  pub h : ℕ
  pub for_remote : Bool
  pub time : ℕ
  pub header : Epoch
  pub current : Epoch
  pub args : List ℕ
  pub settlement : SettlementData
  pub tracked : List ℕ
  pub preimages : List ℕ

-- as it comes to the operation
abbrev pub data_of : LentData → SettlementData
data_of d = record {
  tlcs = d.tlcs.now;
  local_amount = d.local_amount;
  remote_amount = d.remote_amount;
  local_key = d.local_key.now;
  remote_key = d.remote_key.now;
}

abbrev pub request_of : Asked → Request
request_of q = record {
  h = q.h;
  for_remote = q.for_remote;
  time = q.time;
  header = q.header;
  current = q.current;
  args = q.args.now;
  settlement = data_of q.settlement;
  tracked = q.tracked.now;
  preimages = q.preimages.now;
}

abbrev pub settlement_tlcs : Request → List (List ℕ)
settlement_tlcs q = entries settlement_len q.settlement.tlcs

abbrev pub tracked_tlcs : Request → List (List ℕ)
tracked_tlcs q = entries (tracked_len q.h) q.tracked

abbrev pub pairs : Request → List (List ℕ)
pairs q = entries pair_len q.preimages

-- ---- row 14 looks at all that is lent, in a first and in a later settlement alike

unfoldable pub valid_data : SettlementData → Bool
valid_data d =
    whole_entries settlement_len d.tlcs
    && all valid_settlement (entries settlement_len d.tlcs)
    && eqb (length d.local_key) 33
    && eqb (length d.remote_key) 33

unfoldable pub valid_request : Request → Bool
valid_request q =
    valid_hash_len q.h
    && valid_data q.settlement
    && whole_entries (tracked_len q.h) q.tracked
    && all valid_tracked (tracked_tlcs q)
    && whole_entries pair_len q.preimages
    && within_bits q.header
    && within_bits q.current

-- ---- the delay in the lock args: 10 below 36 bytes, 11 where bytes 20 to 27 are no relative epoch since

unfoldable pub delay_of : List ℕ → Result Epoch Refusal
delay_of args =
    let s = since (le (part args 20 8)) in
    cond (ltb (length args) 36) (Err ArgsShort) (cond s.relative (by_metric (Ok (epoch_of s.value)) (Err NoDelay) (Err NoDelay) s.metric) (Err NoDelay))
