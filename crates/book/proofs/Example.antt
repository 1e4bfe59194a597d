-- The claim is not empty: a channel with two TLCs of 5 and 6 and shares of 7 and 9, and three calls, of which the second is turned down. What is
-- paid, and to whom, comes out by computing.
use Prim.Native.Nat.{ℕ}
use native.Mathlib.Omega.{arith}
use mathlib.Core.Path.{◌≡◌, refl}
use mathlib.Core.Logic.{inl}
use mathlib.Core.List.{List, [], ◌∷◌, ◌++◌, map, flat_map, flatten}
use lib.ListN.{replicate}
use Rattle.fiber_refusal.specs.Rows.{number_of}
use Rattle.fiber_bytes.specs.Bytes.{le, le_bytes}
use Rattle.fiber_types.specs.HashLen.{valid_hash_len}
use Rattle.fiber_types.specs.Records.{outcome}
use Rattle.fiber_choice.specs.declared.kinds.Side.TheVariants.{Remote, Local}
use Rattle.fiber_witness.specs.Unlocks.{unlock_size, unlocks_within, unlocks_in}
use Rattle.fiber_witness.specs.Witness.{chunks, state_bytes, member, places_within, places, unless_cut, read_unlocks, read_shares, read_tlcs, read_witness}
use Rattle.fiber_witness.specs.Update.{take_unlocks, keep, share_left, state_after, state_left, by_read, unlocked, written, updated}
use Rattle.c_answer.specs.Answers.{answered, call}
use Rattle.settlement_c.specs.Settlement.{OutCall, written_answer, written_call, update_call}
use Rattle.book.specs.Trace.{Transition, trace}
use Rattle.book.specs.Book.{tlc_len, tlc_amount, share_amount, tlcs_in, share_in, places_from, share, tlc, payee_of, same_side, change}
use Rattle.book.specs.Demand3.{HostCall, OfChannel, no_call, one_more, FirstState, Holds, host_transition, payments, same_payee, is_paid, remain, observe, all_paid}
use Rattle.book.proofs.Demand3Proof.{demand3}

-- a record and a share with an amount below 256
tlc_of : ℕ → List ℕ
tlc_of amount = 0 ∷ (amount ∷ replicate 83 0)

share_of : ℕ → List ℕ
share_of amount = replicate 20 1 ++ (amount ∷ replicate 15 0)

unlock : ℕ → List ℕ
unlock byte = byte ∷ replicate 66 0

first : List ℕ
first = 2 ∷ (tlc_of 5 ++ tlc_of 6 ++ share_of 7 ++ share_of 9)

call_with : List ℕ → HostCall
call_with behind = record { h = 20; count = 0; behind = behind; out = replicate 300 0; answer = replicate 24 0 }

-- The first call settles TLC 0 and the local share; the second names that place twice; the third settles the other TLC, which now stands at place
-- 0, the local share again, and the remote one.
calls : List HostCall
calls =
    call_with (unlock 0 ++ unlock 255)
    ∷ (call_with (unlock 0 ++ unlock 0)
    ∷ (call_with (unlock 0 ++ unlock 255 ++ unlock 254) ∷ []))

statuses : map (λ (r : Transition (List ℕ) OutCall). r.answer.status) (trace host_transition first calls) ≡ 0 ∷ (6 ∷ (0 ∷ []))
unfolding tlc_of share_of unlock first call_with calls le le_bytes outcome valid_hash_len chunks flatten state_bytes member places_within places unless_cut read_unlocks read_shares read_tlcs read_witness take_unlocks keep share_left state_after state_left by_read unlocked written updated answered call flat_map written_answer update_call written_call host_transition trace
statuses = refl

example : all_paid 20 first calls
    ≡ record { to = tlc 0; amount = 5 }
    ∷ (record { to = share Local; amount = 9 }
    ∷ (record { to = tlc 1; amount = 6 } ∷ (record { to = share Local; amount = 0 } ∷ (record { to = share Remote; amount = 7 } ∷ []))))
unfolding tlc_of share_of unlock first call_with calls le le_bytes outcome valid_hash_len chunks flatten state_bytes member places_within places unless_cut read_unlocks read_shares read_tlcs read_witness take_unlocks keep share_left state_after state_left by_read unlocked written updated answered call flat_map written_answer update_call written_call unlock_size unlocks_within unlocks_in tlc_len tlc_amount share_amount tlcs_in share_in payee_of same_side change host_transition payments same_payee is_paid remain observe places_from trace
example = refl

-- the hypotheses hold of it, so the claim does
first_state_lem : FirstState 20 first
unfolding tlc_of share_of first valid_hash_len tlc_len
first_state_lem = record { hash = refl; count = omega arith; size = refl }

of_channel : OfChannel 20 calls
unfolding call_with calls
of_channel = one_more (inl refl) (one_more (inl refl) (one_more (inl refl) no_call))

holds : Holds 20 first calls
holds = demand3 20 first first_state_lem calls of_channel
