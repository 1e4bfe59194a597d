-- The promises of a wait are not empty: a first settlement that waits for its second TLC. That it does comes out by computing.
use Prim.Native.Nat.{ℕ}
use native.Mathlib.Omega.{arith}
use mathlib.Core.Path.{refl}
use mathlib.Core.Bool.{true, false}
use mathlib.Core.List.{List, [], ◌∷◌, ◌++◌, flat_map}
use lib.ListN.{replicate}
use Rattle.fiber_bytes.specs.Bytes.{le, le_bytes}
use Rattle.fiber_bytes.specs.Words.{rotated}
use Rattle.fiber_blake2b.specs.Blake2b.{words, params, iv, sigma, added, turned, half, mixed, columns, diagonals, round, rounds, start, folded, compressed, initial, absorbed, hashed, chain, blake2b, ckb_personal, ckb_hash}
use Rattle.fiber_since.specs.Since.{metric_of, since}
use Rattle.fiber_since.specs.Epoch.{epoch_of, within_bits, units, factor, normalized, scaled, due}
use Rattle.fiber_types.specs.Key.{key_hash}
use Rattle.fiber_types.specs.HashLen.{valid_hash_len}
use Rattle.fiber_types.specs.Records.{amount_at, tlc_bytes}
use Rattle.fiber_witness.specs.Witness.{chunks}
use Rattle.fiber_choice.specs.declared.kinds.Cause.TheVariants as CauseCase
use Rattle.fiber_choice.specs.declared.kinds.Wait.TheVariants as WaitCase
use Rattle.fiber_choice.specs.Entries.{same_lists, entries, valid_settlement, valid_tracked, tracked_records}
use Rattle.fiber_choice.specs.Request.{Request, valid_data, valid_request, delay_of}
use Rattle.fiber_choice.specs.Preimages.{find_pair, if_counts, counting_pair}
use Rattle.fiber_choice.specs.FirstRecords.{first_record, first_records}
use Rattle.fiber_choice.specs.Walk.{timeout_kind, step_of, onward, walk, or_share}
use Rattle.fiber_choice.specs.Verdicts.{dues_by, by_pair, first_verdict, verdict, verdicts, may_share, walked}
use Rattle.fiber_choice.specs.Waits.{cause_number, wait_number, status_by, or_behind, first_pending}
use Rattle.fiber_choice.specs.Settlements.{or_wait, if_ready, first_thirds, lengths_zero, first_ready, first}
use Rattle.fiber_choice.specs.Choice.{after_delay, choice_of}
use Rattle.fiber_choice.specs.Promises.{WaitsFor, Waiting}
use Rattle.fiber_choice.proofs.PromisesLaws.{wait_promises}

-- of 5, with one key on both sides: received or offered, with a byte of its expiry
tlc : ℕ → ℕ → List ℕ
tlc received expiry = received ∷ (0 ∷ (5 ∷ replicate 15 0)) ++ replicate 32 7 ++ (expiry ∷ replicate 7 0) ++ replicate 66 2

tracked : List ℕ → List ℕ
tracked t = replicate 32 7 ++ (0 ∷ first_record 20 true t)

-- The delay is three epochs, and all of it is due; no preimage is stored. For the first TLC pending falls; the second is offered, and its expiry has not
-- passed.
request : Request
request = record {
  h = 20;
  for_remote = true;
  time = 9;
  header = record { number = 10; index = 0; length = 1 };
  current = record { number = 13; index = 0; length = 1 };
  args = replicate 20 0 ++ (3 ∷ (0 ∷ (0 ∷ (0 ∷ (0 ∷ (1 ∷ (0 ∷ (160 ∷ [])))))))) ++ replicate 8 0;
  settlement = record { tlcs = tlc 1 8 ++ tlc 0 9; local_amount = record { low = 7; high = 0 }; remote_amount = record { low = 9; high = 0 }; local_key = replicate 33 3; remote_key = replicate 33 4 };
  tracked = tracked (tlc 1 8) ++ tracked (tlc 0 9);
  preimages = [];
}

waits : WaitsFor request false [] [] (WaitCase.Tlc 1 CauseCase.NotExpired)
unfolding tlc tracked request le le_bytes rotated words flat_map params iv sigma added turned half mixed columns diagonals round rounds start folded compressed initial absorbed hashed chain blake2b ckb_personal ckb_hash metric_of since epoch_of within_bits units factor normalized scaled due key_hash amount_at valid_hash_len tlc_bytes chunks same_lists entries valid_settlement valid_tracked tracked_records valid_data valid_request delay_of first_record first_records timeout_kind step_of onward walk or_share dues_by by_pair first_verdict counting_pair if_counts find_pair verdict verdicts may_share walked cause_number wait_number status_by or_behind first_pending or_wait if_ready first_thirds lengths_zero first_ready first after_delay choice_of
waits = (refl, omega arith)

promised : Waiting request false [] (WaitCase.Tlc 1 CauseCase.NotExpired)
promised = wait_promises request false [] [] (WaitCase.Tlc 1 CauseCase.NotExpired) waits
