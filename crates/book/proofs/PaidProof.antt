-- What a choice hands out pays what it answers: the update accepts its one unlock, which names a share or a TLC of its state.
-- Assumes nothing.
use Prim.Native.Nat.{ℕ, ◌≤◌}
use native.Mathlib.Omega.{arith}
use mathlib.Core.Path.{◌≡◌, refl, ap, ◌∙◌}
use mathlib.Core.Logic.{inl}
use mathlib.Core.Bool.{Bool}
use mathlib.Core.List.{List, [], ◌∷◌, ◌++◌, flat_map}
use lib.ListN.{length, get_or}
use lib.Seq.{sets}
use borrow.Author.Tests.{ne_eqb}
use Rattle.std.specs.Prelude.{Result, Ok}
use Rattle.fiber_refusal.specs.declared.Refusal.{Refusal}
use Rattle.fiber_bytes.specs.Bytes.{part, le_bytes}
use Rattle.fiber_types.specs.declared.tlc.Amount.{Amount}
use Rattle.fiber_types.specs.Records.{Outcome, amount_of}
use Rattle.fiber_choice.specs.declared.kinds.Side.{Side}
use Rattle.fiber_choice.specs.declared.kinds.Side.TheVariants.{Remote, Local}
use Rattle.fiber_choice.specs.declared.kinds.Choice.{Choice}
use Rattle.fiber_choice.specs.declared.kinds.Choice.TheVariants as ChoiceCase
use Rattle.fiber_choice.specs.declared.kinds.Decision.{Decision}
use Rattle.fiber_choice.specs.Request.{Request}
use Rattle.fiber_choice.specs.Promises.{Promised}
use Rattle.fiber_witness.proofs.WitnessLaws.{even_at}
use Rattle.fiber_witness.proofs.StateLaws.{sound_length, state_count}
use Rattle.fiber_choice.proofs.PromisesLaws.{Names, Parts, handed_parts, promises}
use Rattle.settlement_c.specs.Settlement.{OutCall, update_call}
use Rattle.settlement_c.proofs.SettlementLaws.{called, update_written, written_bytes}
use Rattle.book.specs.Trace.{trace, final}
use Rattle.book.specs.Book.{share_amount, tlcs_in, share_in, places_from, opening, payee_of}
use Rattle.book.specs.Demand3.{HostCall, no_call, one_more, FirstState, host_transition, book_transition, Payment, payments, observe, start, total}
use Rattle.book.specs.Paid.{payee_by, PaysAmount}
use Rattle.book.proofs.Demand3Proof.{demand3}
use Rattle.book.proofs.AmountLaws.{tlc_amount_lem, share_amount_lem}
use Rattle.book.proofs.StateLaws.{same_length, SoundParts, tlcs_of, share_of_lem}

-- the payment of an amount that a choice answers
abbrev payment_by : List ℕ → Choice → Amount → Payment
payment_by firsts choice amount = record { to = payee_by firsts choice; amount = amount_of amount }

module _ (q : Request) (d : Decision) (bytes : List ℕ) (p : Parts q d bytes) where
  abbrev state : List ℕ
  state = part bytes d.unlock_len d.state_len

  abbrev unlock : List ℕ
  unlock = part bytes 0 d.unlock_len

  abbrev shares : Side → List ℕ
  shares Remote = p.remote
  shares Local = p.local

  parts_sound : SoundParts q.h p.tlcs shares
  parts_sound = p.sound

  tlcs_are : tlcs_in q.h state ≡ p.tlcs
  tlcs_are = rw p.state (tlcs_of shares parts_sound)

  share_is : (side : Side) → share_in q.h state side ≡ shares side
  share_is side = rw p.state (share_of_lem shares parts_sound side)

  -- one payment, by what the choice names
  one_payment : (firsts : List ℕ)
      → payments (tlcs_in q.h state) firsts (λ side. share_amount (share_in q.h state side)) (payee_of unlock ∷ [])
      ≡ payment_by firsts d.choice d.amount ∷ []
  unfolding payments payee_of payee_by
  one_payment firsts = go d.choice d.amount p.names
    where
      go : (c : Choice) (a : Amount) → Names p.tlcs p.remote p.local c (get_or unlock 0 0) a
          → payments (tlcs_in q.h state) firsts (λ side. share_amount (share_in q.h state side)) (payee_of unlock ∷ [])
          ≡ payment_by firsts c a ∷ []
      go (ChoiceCase.Share Remote) a n = rw (n.0, n.1, share_is Remote, share_amount_lem p.remote (omega (arith, p.sound.remote)))
      go (ChoiceCase.Share Local) a n = rw (n.0, n.1, share_is Local, share_amount_lem p.local (omega (arith, p.sound.local)))
      go (ChoiceCase.Tlc place way) a n =
          rw (
            n.1.0,
            n.1.1,
            ne_eqb place 255 (omega (arith, n.0, p.few)),
            ne_eqb place 254 (omega (arith, n.0, p.few)),
            tlcs_are,
            tlc_amount_lem (get_or p.tlcs place []) (omega (arith, even_at p.sound.even place n.0)),
          )

  -- the update takes it
  accepts : {is_later : Bool} {w out : List ℕ} → Promised q is_later w out bytes d → (count : ℕ) (into answer : List ℕ) → d.state_len ≤ length into → 24 ≤ length answer
      → (update_call q.h (count ∷ (state ++ unlock)) into answer).status ≡ 0
  accepts x count into answer f g =
      let len = length x.left in
      let o : Outcome (Result ℕ Refusal) = record { answer = Ok len; bytes = sets into 0 x.left } in
      let fields : List ℕ = sets answer 0 ((le_bytes 8 0 ++ le_bytes 8 0) ++ le_bytes 8 len) in
      rw (update_written q.h (count ∷ (state ++ unlock)) into answer, x.updates count into (omega (arith, x.room)))
      (ap (λ (r : OutCall). r.status) (called (written_bytes o into answer g o.bytes refl len refl fields refl)))

  -- and one payment is counted
  observed : {is_later : Bool} {w out : List ℕ} → Promised q is_later w out bytes d → (firsts : List ℕ) (count : ℕ) (into answer : List ℕ) → d.state_len ≤ length into → 24 ≤ length answer
      → (observe q.h (record { state = state; firsts = firsts }) (record { h = q.h; count = count; behind = unlock; out = into; answer = answer })).answer
      ≡ payment_by firsts d.choice d.amount ∷ []
  unfolding observe host_transition
  observed x firsts count into answer f g = rw (accepts x count into answer f g, p.alone) (one_payment firsts)

  -- the state is a first state
  first : FirstState q.h state
  first = record {
    hash = p.sound.hash;
    count = rw (p.state, state_count p.sound) (omega (arith, p.few));
    size = rw (p.state, state_count p.sound, same_length q.h) (sound_length p.sound);
  }

  -- so what is counted from it on is what its book pays
  paid_by_book : (c : HostCall) (pay : Payment) → c.h ≡ q.h → (observe q.h (start state) c).answer ≡ pay ∷ []
      → (final book_transition (opening q.h state) (c ∷ [])).paid ≡ pay.amount
  unfolding trace flat_map total
  paid_by_book c pay e f = (demand3 q.h state first (c ∷ []) (one_more (inl e) no_call)).book_sum ∙ rw f (omega arith)

-- The amount that a choice answers is what its unlock pays.
pub pays_amount : PaysAmount
pays_amount q is_later w out d e firsts count into answer f g =
    let p = handed_parts q is_later w out d e in
    let x = promises q is_later w out d e in
    (observed q d _ p x firsts count into answer f g, paid_by_book q d _ p _ _ refl (observed q d _ p x (places_from 0 (get_or (state q d _ p) 0 0)) count into answer f g))
