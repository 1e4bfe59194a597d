-- The amount that a choice answers is what its unlock pays: as the observer of Demand3.antt counts it, and by the book.
use Rattle.std.specs.Prelude.{ℕ, ◌≤◌, ◌≡◌, Bool, List, [], ◌∷◌, length, get_or}
use Rattle.fiber_bytes.specs.Bytes.{part}
use Rattle.fiber_types.specs.Records.{amount_of}
use Rattle.fiber_choice.specs.declared.kinds.Choice.{Choice}
use Rattle.fiber_choice.specs.declared.kinds.Choice.TheVariants as ChoiceCase
use Rattle.fiber_choice.specs.declared.kinds.Decision.{Decision}
use Rattle.fiber_choice.specs.Request.{Request}
use Rattle.fiber_choice.specs.Choice.{choice_of}
use Rattle.fiber_choice.specs.Promises.{Decides}
use Rattle.book.specs.Trace.{final}
use Rattle.book.specs.Book.{Payee, share, tlc, opening}
use Rattle.book.specs.Demand3.{HostCall, observe, book_transition}

-- whom a choice pays, with the TLCs' places in the first state
unfoldable pub payee_by : List ℕ → Choice → Payee
payee_by firsts (ChoiceCase.Share side) = share side
payee_by firsts (ChoiceCase.Tlc place way) = tlc (get_or firsts place 0)

-- the state that a decision hands out, and the update called with its unlock behind it
abbrev pub handed_state : Decision → List ℕ → List ℕ
handed_state d bytes = part bytes d.unlock_len d.state_len

abbrev pub handed_call : ℕ → Decision → List ℕ → ℕ → List ℕ → List ℕ → HostCall
handed_call h d bytes count into answer = record { h = h; count = count; behind = part bytes 0 d.unlock_len; out = into; answer = answer }

-- One payment is counted, to the share or TLC that was chosen, of the amount that was answered, and the book that opens with that state pays as much;
-- with room for the state left and for the update's answer.
abbrev pub PaysAmount : Type 0
PaysAmount =
    (q : Request) (is_later : Bool) (w out : List ℕ) (d : Decision) → Decides q is_later w out d
    → (firsts : List ℕ) (count : ℕ) (into answer : List ℕ) → d.state_len ≤ length into → 24 ≤ length answer
    → let bytes = (choice_of q is_later w out).bytes in
    let s = handed_state d bytes in
    let c = handed_call q.h d bytes count into answer in
    ((observe q.h (record { state = s; firsts = firsts }) c).answer ≡ record { to = payee_by firsts d.choice; amount = amount_of d.amount } ∷ [])
    × ((final book_transition (opening q.h s) (c ∷ [])).paid ≡ amount_of d.amount)
