-- What is handed out; docs/SCOPE.md, "Handed out", with row 13 of its table.
use Rattle.std.specs.Prelude.{ℕ, Bool, true, false, cond, List, [], ◌∷◌, ◌++◌, length, get_or, take, drop, replicate, leb, Option}
use Rattle.std.proofs.lemmas.List.Edits.{sets}
use Rattle.fiber_blake2b.specs.Blake2b.{ckb_hash}
use Rattle.fiber_types.specs.declared.tlc.Amount.{Amount}
use Rattle.fiber_types.specs.Records.{Outcome, unwritten, amount_at, unlock_bytes}
use Rattle.fiber_witness.specs.Witness.{record_len, state_bytes}
use Rattle.fiber_witness.specs.Update.{Taken, state_after}
use Rattle.fiber_choice.specs.declared.kinds.Side.TheVariants as SideCase
use Rattle.fiber_choice.specs.declared.kinds.Way.TheVariants as WayCase
use Rattle.fiber_choice.specs.declared.kinds.Choice.{Choice}
use Rattle.fiber_choice.specs.declared.kinds.Choice.TheVariants as ChoiceCase
use Rattle.fiber_choice.specs.declared.kinds.Key.{Key}
use Rattle.fiber_since.specs.declared.epoch.Epoch.{Epoch}
use Rattle.fiber_refusal.specs.declared.Refusal.TheVariants.{OutputShort}
use Rattle.fiber_choice.specs.Answered.{Answer, decided, refused}
use Rattle.fiber_choice.specs.Entries.{tracked_records, pair_preimage}

-- ---- the unlock, with 65 zero signature bytes

-- its byte: 0xFF or 0xFE for a share, else the TLC's place
unfoldable pub choice_byte : Choice → ℕ
choice_byte (ChoiceCase.Share SideCase.Local) = 255
choice_byte (ChoiceCase.Share SideCase.Remote) = 254
choice_byte (ChoiceCase.Tlc place way) = place

-- with flag 1 and the preimage for a TLC that is taken by one
unfoldable pub unlock_of : List (List ℕ) → Choice → List ℕ
unlock_of ps (ChoiceCase.Tlc place (WayCase.Preimage pair_place)) =
    unlock_bytes (record { byte = choice_byte (ChoiceCase.Tlc place (WayCase.Preimage pair_place)); flag = true }) (replicate 65 0) (pair_preimage (get_or ps pair_place []))
unlock_of ps (ChoiceCase.Tlc place WayCase.Timeout) =
    unlock_bytes (record { byte = choice_byte (ChoiceCase.Tlc place WayCase.Timeout); flag = false }) (replicate 65 0) []
unlock_of ps (ChoiceCase.Share side) = unlock_bytes (record { byte = choice_byte (ChoiceCase.Share side); flag = false }) (replicate 65 0) []

-- ---- the state after it

-- what the unlock takes of the state
unfoldable pub takes : Choice → Taken
takes (ChoiceCase.Share SideCase.Local) = record { settled = []; remote = false; local = true }
takes (ChoiceCase.Share SideCase.Remote) = record { settled = []; remote = true; local = false }
takes (ChoiceCase.Tlc place way) = record { settled = place ∷ []; remote = false; local = false }

-- args 0 to 35, first 20 bytes of the CKB hash of the state after the unlock, 0x01, args from byte 57
unfoldable pub new_args : List ℕ → List ℕ → List ℕ
new_args args after = take 36 args ++ take 20 (ckb_hash after) ++ (1 ∷ []) ++ drop 57 args

-- ---- the answer

-- the TLC's amount or the share's
unfoldable pub choice_amount : List (List ℕ) → List ℕ → List ℕ → Choice → Amount
choice_amount tlcs remote local (ChoiceCase.Share SideCase.Local) = amount_at local 20
choice_amount tlcs remote local (ChoiceCase.Share SideCase.Remote) = amount_at remote 20
choice_amount tlcs remote local (ChoiceCase.Tlc place way) = amount_at (get_or tlcs place []) 1

-- the bytes of the record that goes with a choice
unfoldable pub record_size : ℕ → Choice → ℕ
record_size h (ChoiceCase.Share side) = 0
record_size h (ChoiceCase.Tlc place way) = record_len h

-- Of a choice with its key and its delay, over shares, the record being at a place, the settlement the last one or not: the unlock, the state
-- before it and the new args, joined; 13 at their length where they have no room.
unfoldable pub handed_out : ℕ → List ℕ → List (List ℕ) → List (List ℕ) → List ℕ → List ℕ → Bool → Choice → Key → Option Epoch → ℕ → List ℕ → Outcome Answer
handed_out h args tracked ps remote local last choice key delay place out =
    let tlcs = tracked_records tracked in
    let unlock = unlock_of ps choice in
    let before = state_bytes tlcs remote local in
    let new = new_args args (state_after tlcs remote local (takes choice)) in
    let joined = unlock ++ before ++ new in
    cond (leb (length joined) (length out))
    (record {
      answer = decided (record {
        choice = choice;
        amount = choice_amount tlcs remote local choice;
        key = key;
        delay = delay;
        unlock_len = length unlock;
        state_len = length before;
        args_len = length new;
        place = place;
        len = record_size h choice;
        last = last;
      });
      bytes = sets out 0 joined;
    })
    (unwritten (refused (OutputShort (length joined))) out)
