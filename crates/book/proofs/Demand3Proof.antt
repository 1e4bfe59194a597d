-- The third demand: by induction over the calls, from any sound book, which the host's state and what is observed always are those of.
-- Assumes nothing.
use Prim.Native.Nat.{ℕ, zero, suc, ◌+◌, ◌≤◌, ◌<◌}
use native.Mathlib.Nat.{add-zero, le_refl}
use native.Mathlib.Omega.{arith}
use mathlib.Core.Path.{◌≡◌, refl, sym, ap, ap₂, subst, subst₂, fun_ext, ◌∙◌}
use mathlib.Core.Bool.{true, false, or-true}
use mathlib.Core.Logic.{◌⊎◌, inl, inr, ⊎_elim}
use mathlib.Core.List.{List, [], ◌∷◌, ◌++◌, map, flat_map, map-map}
use lib.ListN.{length, get_or, drop, length-map, drop_of_length-le}
use lib.Seq.{drop-cons}
use lib.Dec.{eqb}
use borrow.Author.Tests.{eq-eqb, ne_eqb}
use Rattle.std.proofs.lemmas.Bool.{cases_lt}
use Rattle.fiber_types.specs.HashLen.{valid_hash_len}
use Rattle.fiber_witness.specs.Witness.{member}
use Rattle.fiber_witness.specs.Update.{Taken, none}
use Rattle.fiber_witness.proofs.UpdateLaws.{Ends}
use Rattle.fiber_witness.proofs.WitnessLaws.{member_none, member_more}
use Rattle.fiber_witness.proofs.UnlocksLaws.{unlocks_read}
use Rattle.fiber_choice.specs.declared.kinds.Side.{Side}
use Rattle.fiber_choice.specs.declared.kinds.Side.TheVariants.{Remote, Local}
use Rattle.settlement_c.specs.Settlement.{OutCall}
use Rattle.book.specs.Trace.{Transition, trace, final}
use Rattle.book.specs.Book.{tlc_amount, share_amount, tlcs_in, share_in, Book, places_from, opening, state_of, payee_of, enter}
use Rattle.book.specs.Demand3.{HostCall, OfChannel, no_call, one_more, FirstState, host_transition, lengths, book_transition, visible, Payment, remain, Observed, observe, all_standing, total, Rising, rising_none, rising_more, worth, Holds, Demand3}
use Rattle.book.proofs.StateLaws.{tlcs_of, share_of_lem, first_count, first_sound, first_state_lem}
use Rattle.book.proofs.StandingLaws.{records_at, unsettled_none}
use Rattle.book.proofs.SharesLaws.{left_none}
use Rattle.book.proofs.BookLaws.{standing_of, SoundBook, sum_of, after, Stays, Moves, witness, unlocks, behind_state, shares_at, took, payments_of, turn, turn_kept, turn_sound}
use Rattle.book.proofs.PaymentsLaws.{Account, worth_of, Pays, pays_none, pays_append, append_total, once_stood, once_gone, Goes, goes, goes_remain, goes_pays}

-- ---- a book, and what is observed beside it

abbrev account : Book → Account
account b = record { firsts = b.standing; shares = b.shares }

abbrev observed_of : Book → Observed
observed_of b = record { state = state_of b; firsts = b.standing }

-- a sound book of a first state with the records rs
record Good (h : ℕ) (rs : List (List ℕ)) (b : Book) : Type 0 where
  sound : SoundBook h b
  records : b.tlcs ≡ rs

-- the parts of its state are the book's
module _ {h : ℕ} {rs : List (List ℕ)} {b : Book} (g : Good h rs b) where
  tlcs_are : tlcs_in h (state_of b) ≡ records_at rs b.standing
  unfolding state_of
  tlcs_are = tlcs_of b.shares g.sound.parts ∙ ap (λ (l : List (List ℕ)). records_at l b.standing) g.records

  share_is : (side : Side) → share_in h (state_of b) side ≡ b.shares side
  unfolding state_of
  share_is side = share_of_lem b.shares g.sound.parts side

  worth_is : worth h (state_of b) ≡ worth_of rs (account b)
  unfolding worth worth_of
  worth_is =
      let t : total (map tlc_amount (tlcs_in h (state_of b))) ≡ total (map tlc_amount (records_at rs b.standing)) = rw tlcs_are in
      omega (arith, t, ap share_amount (share_is Remote), ap share_amount (share_is Local))

-- ---- one call

-- from one book to the next, with what is paid between
record Moved (rs : List (List ℕ)) (b : Book) (ps : List Payment) (b' : Book) : Type 0 where
  pays : Pays rs (account b) ps (account b')
  sum : b'.paid ≡ b.paid + sum_of ps

moved_none : (rs : List (List ℕ)) (b : Book) → Moved rs b [] b
unfolding total
moved_none rs b = record { pays = pays_none rs (account b); sum = sym (add-zero b.paid) }

-- one move behind another
moved_append : {rs : List (List ℕ)} {b b' b'' : Book} {ps qs : List Payment} → Moved rs b ps b' → Moved rs b' qs b'' → Moved rs b (ps ++ qs) b''
moved_append {ps = ps} {qs = qs} x y = record { pays = pays_append x.pays y.pays; sum = omega (arith, x.sum, y.sum, append_total ps qs) }

-- a call, with what is observed of it: the same answer and state, and after it a good book
record Follows (h : ℕ) (rs : List (List ℕ)) (b : Book) (c : HostCall) (r : Transition Observed (List Payment)) : Type 0 where
  same : host_transition (state_of b) c ≡ visible (book_transition b c)
  next : r.next ≡ observed_of (book_transition b c).next
  good : Good h rs (book_transition b c).next
  moves : Moved rs b r.answer (book_transition b c).next

module _ (h : ℕ) (rs : List (List ℕ)) (b : Book) (c : HostCall) (g : Good h rs b) where
  abbrev sum : ℕ
  sum = b.paid + sum_of (payments_of b c)

  -- what is observed of a call that is turned down, and of one that is accepted
  observe_stays : eqb (host_transition (state_of b) c).answer.status 0 ≡ false → observe h (observed_of b) c ≡ record { answer = []; next = observed_of b }
  unfolding observe
  observe_stays e = rw e

  observe_moves : eqb (host_transition (state_of b) c).answer.status 0 ≡ true
      → observe h (observed_of b) c ≡ record { answer = payments_of b c; next = record { state = (host_transition (state_of b) c).next; firsts = remain (map payee_of (unlocks c)) 0 b.standing } }
  unfolding observe
  observe_moves e = let f : share_in h (state_of b) ≡ b.shares = fun_ext (share_is g) in rw (e, tlcs_are g, f, ← g.records)

  -- the unlocks of an accepted call go one after the other
  went : (t : Taken) → Ends (took h b c) t → Goes (length b.standing) none (map payee_of (unlocks c)) t
  went t v =
      subst (λ (n : ℕ). Goes n none (map payee_of (unlocks c)) t) (length-map b.standing (λ (i : ℕ). get_or b.tlcs i []))
      (goes (length (standing_of b)) (shares_at h b) (unlocks_read (witness b c) (1 + length (state_of b)) c.behind (behind_state b c)) none t v)

  -- and pay
  moved_after : (t : Taken) → Goes (length b.standing) none (map payee_of (unlocks c)) t → Moved rs b (payments_of b c) (after b t sum)
  moved_after t w = record {
    pays =
        rw (unsettled_none 0 b.standing, left_none b.shares) at
        (goes_pays rs (standing_of b) b.standing b.shares (ap (λ (l : List (List ℕ)). records_at l b.standing) g.records) w
        (rw (unsettled_none 0 b.standing) g.sound.order));
    sum = refl;
  }

  -- each call of the channel follows the book
  follows : (c.h ≡ h) ⊎ (valid_hash_len c.h ≡ false) → Follows h rs b c (observe h (observed_of b) c)
  unfolding book_transition
  follows of =
      let t = turn h b g.sound c of in
      let e = enter b (lengths c) in
      let kept = turn_kept b c (took h b c) sum e t.how in
      let sound = turn_sound b c (took h b c) sum e h (host_transition (state_of b) c).answer g.sound t.how in
      go t.how (λ i. record { answer = t.same i; next = kept i }) kept sound
    where
      go : Stays b (host_transition (state_of b) c).answer (enter b (lengths c)) ⊎ Moves b (took h b c) sum (host_transition (state_of b) c).answer (enter b (lengths c))
          → host_transition (state_of b) c ≡ visible (book_transition b c) → (host_transition (state_of b) c).next ≡ state_of (enter b (lengths c)).next → SoundBook h (enter b (lengths c)).next
          → Follows h rs b c (observe h (observed_of b) c)
      go (inl s) same kept sound =
          rw (observe_stays s.status)
          (record { same = same; next = rw s.book; good = rw s.book g; moves = rw s.book (moved_none rs b) })
      go (inr m) same kept sound =
          let w = went m.taken m.ends in
          let firsts : remain (map payee_of (unlocks c)) 0 b.standing ≡ (enter b (lengths c)).next.standing = goes_remain w refl b.standing ∙ sym (ap (λ (x : Book). x.standing) m.book) in
          rw (observe_moves m.status)
          (record {
            same = same;
            next = rw (kept, firsts);
            good = record { sound = sound; records = ap (λ (x : Book). x.tlcs) m.book ∙ g.records };
            moves = rw (← m.book) at (moved_after m.taken w);
          })

-- ---- all calls

-- the answers, the states, the book and the payments, after any calls of the channel
record Onward (h : ℕ) (rs : List (List ℕ)) (b : Book) (s : List ℕ) (o : Observed) (cs : List HostCall) : Type 0 where
  calls : trace host_transition s cs ≡ map visible (trace book_transition b cs)
  state : final host_transition s cs ≡ state_of (final book_transition b cs)
  observed : final (observe h) o cs ≡ observed_of (final book_transition b cs)
  good : Good h rs (final book_transition b cs)
  moves : Moved rs b (flat_map (λ (r : Transition Observed (List Payment)). r.answer) (trace (observe h) o cs)) (final book_transition b cs)

-- by induction over the calls
onward : {h : ℕ} {rs : List (List ℕ)} {b : Book} {cs : List HostCall} → Good h rs b → OfChannel h cs → Onward h rs b (state_of b) (observed_of b) cs
unfolding trace final flat_map
onward {rs = rs} {b = b} g no_call = record { calls = refl; state = refl; observed = refl; good = g; moves = moved_none rs b }
onward {h} {rs} {b} g (one_more {c = c} {cs = cs} of more) =
    let f = follows h rs b c g of in
    let n = subst₂ (λ (s : List ℕ) (o : Observed). Onward h rs (book_transition b c).next s o cs) (sym (ap (λ (r : Transition (List ℕ) OutCall). r.next) f.same)) (sym f.next) (onward {b = (book_transition b c).next} f.good more) in
    record {
      calls = ap₂ ◌∷◌ f.same n.calls;
      state = n.state;
      observed = n.observed;
      good = n.good;
      moves = moved_append f.moves n.moves;
    }

-- ---- the first state

-- all places, in order: those below their end, none beyond
places_order : (i n : ℕ) → Rising i (places_from i n)
unfolding places_from
places_order i zero = rising_none
places_order i (suc n) = rising_more (le_refl i) (places_order (suc i) n)

places_below : (i n k : ℕ) → i ≤ k → k < i + n → member k (places_from i n) ≡ true
unfolding places_from
places_below i zero k f g = absurd (omega arith)
places_below i (suc n) k f g =
    rw member_more
    (⊎_elim (λ h. rw (places_below (suc i) n k h (omega arith), or-true (eqb k i))) (λ h. rw (eq-eqb k i (omega arith))) (cases_lt i k))

places_beyond : (i n k : ℕ) → i + n ≤ k → member k (places_from i n) ≡ false
unfolding places_from
places_beyond i zero k f = member_none k
places_beyond i (suc n) k f = simp (member_more, ne_eqb k i (omega arith)) (places_beyond (suc i) n k (omega arith))

-- all places of a list have all its records
places_records : (rs : List (List ℕ)) (i n : ℕ) → i + n ≡ length rs → records_at rs (places_from i n) ≡ drop i rs
unfolding places_from
places_records rs i zero e =
    let g : length rs ≤ i = omega arith in
    sym (drop_of_length-le rs g)
places_records rs i (suc n) e =
    ap (λ (l : List (List ℕ)). get_or rs i [] ∷ l) (places_records rs (suc i) n (omega arith))
    ∙ sym (drop-cons rs i [] (omega arith))

module _ (h : ℕ) (s : List ℕ) (first : FirstState h s) where
  all_stand : records_at (tlcs_in h s) (places_from 0 (get_or s 0 0)) ≡ tlcs_in h s
  all_stand = places_records (tlcs_in h s) 0 (get_or s 0 0) (omega (arith, first_count first))

  -- its book is good, and has its state
  opens : Good h (tlcs_in h s) (opening h s)
  unfolding opening
  opens = record { sound = record { parts = rw all_stand (first_sound first); order = places_order 0 (get_or s 0 0) }; records = refl }

  opens_state : state_of (opening h s) ≡ s
  unfolding opening state_of
  opens_state = rw all_stand (first_state_lem first)

  -- each part of the claim is a part of what holds onward from there
  proof : (cs : List HostCall) → OfChannel h cs → Holds h s cs
  unfolding opening
  proof cs of =
      let o = subst (λ (x : List ℕ). Onward h (tlcs_in h s) (opening h s) x (record { state = x; firsts = places_from 0 (get_or s 0 0) }) cs) opens_state (onward opens of) in
      let p = o.moves.pays in
      let standing : all_standing h s cs ≡ (final book_transition (opening h s) cs).standing = ap (λ (x : Observed). x.firsts) o.observed in
      record {
        calls = o.calls;
        last_state = o.state;
        share_once = λ side. (p.shares side).once;
        tlc_once = λ i f. rw standing (once_stood (p.tlcs i) (places_below 0 (get_or s 0 0) i (omega arith) (omega arith)));
        no_other = λ i f. once_gone (p.tlcs i) (places_beyond 0 (get_or s 0 0) i (omega arith));
        bytes_kept = rw (standing, o.state) (tlcs_are o.good);
        order_kept = rw standing o.good.sound.order;
        sum = omega (arith, p.sum, ap (worth h) opens_state, worth_is opens, ap (worth h) o.state, worth_is o.good);
        book_sum = omega (arith, o.moves.sum);
        share_apart = λ side. rw o.state (share_is o.good side ∙ (p.shares side).apart);
      }

-- The third demand holds of every list of calls of every channel.
pub demand3 : Demand3
demand3 = proof

-- ---- what the equality of all calls says of answers and of states apart

module _ {h : ℕ} {s : List ℕ} {cs : List HostCall} (holds : Holds h s cs) where
  pub answers : map (λ (r : Transition (List ℕ) OutCall). r.answer) (trace host_transition s cs) ≡ map (λ (e : Transition Book OutCall). e.answer) (trace book_transition (opening h s) cs)
  answers = ap (map (λ (r : Transition (List ℕ) OutCall). r.answer)) holds.calls ∙ map-map (λ (r : Transition (List ℕ) OutCall). r.answer) visible (trace book_transition (opening h s) cs)

  pub every_state : map (λ (r : Transition (List ℕ) OutCall). r.next) (trace host_transition s cs) ≡ map (λ (e : Transition Book OutCall). state_of e.next) (trace book_transition (opening h s) cs)
  every_state = ap (map (λ (r : Transition (List ℕ) OutCall). r.next)) holds.calls ∙ map-map (λ (r : Transition (List ℕ) OutCall). r.next) visible (trace book_transition (opening h s) cs)
