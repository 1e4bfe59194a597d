-- The third demand, as one claim about every list of update calls of one channel. The calls are those of the exported update, by the
-- definition that its contract cites; the book is that of specs/Book.antt.
use Rattle.std.specs.Prelude.{ℕ, zero, suc, ◌+◌, ◌*◌, ◌≤◌, ◌<◌, ◌≡◌, Bool, true, false, cond, ◌||◌, ◌⊎◌, length, get_or, take, replicate, eqb}
use mathlib.Core.List.{List, [], ◌∷◌, ◌++◌, map, flat_map, foldr}
use Rattle.std.proofs.lemmas.List.Edits.{sets}
use Rattle.fiber_bytes.specs.Bytes.{part, le, le_bytes}
use Rattle.fiber_types.specs.HashLen.{valid_hash_len}
use Rattle.fiber_witness.specs.Unlocks.{unlocks_in}
use Rattle.fiber_witness.specs.Witness.{member}
use Rattle.fiber_choice.specs.declared.kinds.Side.{Side}
use Rattle.fiber_choice.specs.declared.kinds.Side.TheVariants.{Remote, Local}
use Rattle.settlement_c.specs.Settlement.{OutCall, update_call}
use Rattle.book.specs.Trace.{Transition, trace, final}
use Rattle.book.specs.Book.{
  tlc_len,
  tlc_amount,
  share_amount,
  tlcs_in,
  share_in,
  Book,
  places_from,
  opening,
  state_of,
  Payee,
  share,
  tlc,
  payee_of,
  same_side,
  change,
  Call,
  BookAnswer,
  alone,
  refused,
  wrote,
  enter,
}

-- ---- the calls of a channel

-- a call as the host makes it: the two buffers with what is in them
abbrev pub HostCall : Type 0
HostCall = Call (List ℕ)

-- every h is the channel's, or one that row 14 turns down
pub data OfChannel (h : ℕ) : List HostCall → Type 0 where
  no_call : OfChannel h []
  one_more : {c : HostCall} {cs : List HostCall} → (c.h ≡ h) ⊎ (valid_hash_len c.h ≡ false) → OfChannel h cs → OfChannel h (c ∷ cs)

-- a first state of the channel: its count is a byte, and its length is that of so many TLCs and two shares
pub record FirstState (h : ℕ) (s : List ℕ) : Type 0 where
  pub hash : valid_hash_len h ≡ true
  pub count : get_or s 0 0 ≤ 255
  pub size : length s ≡ 1 + get_or s 0 0 * tlc_len h + 72

-- the exported update; after a return of 0 the host keeps as many bytes of the output as the answer's third number says
unfoldable pub host_transition : List ℕ → HostCall → Transition (List ℕ) OutCall
host_transition s c =
    let r = update_call c.h (c.count ∷ (s ++ c.behind)) c.out c.answer in
    record { answer = r; next = cond (eqb r.status 0) (take (le (part r.answer 16 8)) r.out) s }

-- ---- the book's calls

-- return value and buffers for the book's answer and its state after the call
unfoldable pub returned : HostCall → BookAnswer → List ℕ → OutCall
returned c (alone number) state = record { status = number; out = c.out; answer = c.answer }
returned c (refused number place) state = record { status = number; out = c.out; answer = sets c.answer 0 (le_bytes 8 number ++ le_bytes 8 place) }
returned c (wrote len) state = record { status = 0; out = sets c.out 0 state; answer = sets c.answer 0 ((le_bytes 8 0 ++ le_bytes 8 0) ++ le_bytes 8 len) }

abbrev pub lengths : HostCall → Call ℕ
lengths c = record { h = c.h; count = c.count; behind = c.behind; out = length c.out; answer = length c.answer }

unfoldable pub book_transition : Book → HostCall → Transition Book OutCall
book_transition b c =
    let e = enter b (lengths c) in
    record { answer = returned c e.answer (state_of e.next); next = e.next }

-- what the host sees of a transition of the book
abbrev pub visible : Transition Book OutCall → Transition (List ℕ) OutCall
visible e = record { answer = e.answer; next = state_of e.next }

-- ---- payments, counted from the unlocks of accepted calls and not read off the book

pub record Payment : Type 0 where
  pub to : Payee
  pub amount : ℕ

-- What unlocks pay, in order: a TLC its amount, a share its amount at that moment. The lists are the TLCs before any removal and their places in
-- the first state, the function the shares' amounts.
unfoldable pub payments : List (List ℕ) → List ℕ → (Side → ℕ) → List Payee → List Payment
payments tlcs firsts amounts [] = []
payments tlcs firsts amounts (share side ∷ us) = record { to = share side; amount = amounts side } ∷ payments tlcs firsts (change side 0 amounts) us
payments tlcs firsts amounts (tlc i ∷ us) = record { to = tlc (get_or firsts i 0); amount = tlc_amount (get_or tlcs i []) } ∷ payments tlcs firsts amounts us

unfoldable pub same_payee : Payee → Payee → Bool
same_payee (share a) (share b) = same_side a b
same_payee (share a) (tlc j) = false
same_payee (tlc i) (share b) = false
same_payee (tlc i) (tlc j) = eqb i j

unfoldable pub is_paid : Payee → List Payee → Bool
is_paid who ps = foldr ◌||◌ false (map (same_payee who) ps)

-- of first places, for the TLCs at i, i + 1, .., those that the unlocks leave
unfoldable pub remain : List Payee → ℕ → List ℕ → List ℕ
remain us i [] = []
remain us i (f ∷ fs) =
    let next = remain us (i + 1) fs in
    cond (is_paid (tlc i) us) next (f ∷ next)

-- what an observer of the calls has: the state that the host keeps, and for each TLC in it its place in the first state
pub record Observed : Type 0 where
  pub state : List ℕ
  pub firsts : List ℕ

unfoldable pub observe : ℕ → Observed → HostCall → Transition Observed (List Payment)
observe h o c =
    let r = host_transition o.state c in
    let us = map payee_of (unlocks_in c.behind).whole in
    cond (eqb r.answer.status 0)
    (record {
      answer = payments (tlcs_in h o.state) o.firsts (λ side. share_amount (share_in h o.state side)) us;
      next = record { state = r.next; firsts = remain us 0 o.firsts };
    })
    (record { answer = []; next = o })

abbrev pub start : List ℕ → Observed
start s = record { state = s; firsts = places_from 0 (get_or s 0 0) }

-- ---- counting

-- the payments of all accepted calls, in order
abbrev pub all_paid : ℕ → List ℕ → List HostCall → List Payment
all_paid h s cs = flat_map (λ (r : Transition Observed (List Payment)). r.answer) (trace (observe h) (start s) cs)

-- for each TLC that stands after the calls, its place in the first state
abbrev pub all_standing : ℕ → List ℕ → List HostCall → List ℕ
all_standing h s cs = (final (observe h) (start s) cs).firsts

-- the amounts paid to one payee, in order
unfoldable pub paid_to : Payee → List Payment → List ℕ
paid_to who [] = []
paid_to who (p ∷ ps) =
    let next = paid_to who ps in
    cond (same_payee who p.to) (p.amount ∷ next) next

unfoldable pub total : List ℕ → ℕ
total = foldr ◌+◌ 0

-- an amount once, then nothing k - 1 times; none at all where k is 0
unfoldable pub once_of : ℕ → ℕ → List ℕ
once_of zero amount = []
once_of (suc k) amount = amount ∷ replicate k 0

-- a share after its unlocks: as it was without one, else zeros
unfoldable pub share_after : List ℕ → List ℕ → List ℕ
share_after [] before = before
share_after (a ∷ more) before = replicate 36 0

-- each place is k or above and below the next
pub data Rising : ℕ → List ℕ → Type 0 where
  rising_none : {k : ℕ} → Rising k []
  rising_more : {k i : ℕ} {is : List ℕ} → k ≤ i → Rising (suc i) is → Rising k (i ∷ is)

-- Standing is the sum of a state's TLCs' amounts and both shares' amounts.
unfoldable pub worth : ℕ → List ℕ → ℕ
worth h s = total (map tlc_amount (tlcs_in h s)) + (share_amount (share_in h s Remote) + share_amount (share_in h s Local))

-- ---- the claim

pub record Holds (h : ℕ) (s : List ℕ) (cs : List HostCall) : Type 0 where
  -- "all answers" and "the state left byte for byte": every return value, every byte of every buffer, and the state after every call are the book's
  pub calls : trace host_transition s cs ≡ map visible (trace book_transition (opening h s) cs)
  pub last_state : final host_transition s cs ≡ state_of (final book_transition (opening h s) cs)
  -- "each share is paid in full at its first unlock in an accepted call and nothing later"
  pub share_once : (side : Side)
      → paid_to (share side) (all_paid h s cs) ≡ once_of (length (paid_to (share side) (all_paid h s cs))) (share_amount (share_in h s side))
  -- "each TLC of the first state, by its place there, is paid exactly once or else still stands"
  pub tlc_once : (i : ℕ) → i < get_or s 0 0
      → paid_to (tlc i) (all_paid h s cs) ≡ cond (member i (all_standing h s cs)) [] (tlc_amount (get_or (tlcs_in h s) i []) ∷ [])
  -- no other TLC is paid
  pub no_other : (i : ℕ) → get_or s 0 0 ≤ i → paid_to (tlc i) (all_paid h s cs) ≡ []
  -- "bytes and order kept"
  pub bytes_kept : tlcs_in h (final host_transition s cs) ≡ map (λ (i : ℕ). get_or (tlcs_in h s) i []) (all_standing h s cs)
  pub order_kept : Rising 0 (all_standing h s cs)
  -- "paid, counted from the accepted unlocks, plus standing equals the starting sum"
  pub sum : total (map (λ (p : Payment). p.amount) (all_paid h s cs)) + worth h (final host_transition s cs) ≡ worth h s
  pub book_sum : (final book_transition (opening h s) cs).paid ≡ total (map (λ (p : Payment). p.amount) (all_paid h s cs))
  -- "one share's unlock never alters the other's amount or key hash": a share changes by its own unlocks alone
  pub share_apart : (side : Side)
      → share_in h (final host_transition s cs) side ≡ share_after (paid_to (share side) (all_paid h s cs)) (share_in h s side)

abbrev pub Demand3 : Type 0
Demand3 = (h : ℕ) (s : List ℕ) → FirstState h s → (cs : List HostCall) → OfChannel h cs → Holds h s cs
