-- The observer's payments follow what the unlocks take: each share is paid once, each TLC once or it stands, and nothing is lost.
-- Assumes nothing.
use Prim.Native.Nat.{ℕ, zero, suc, ◌+◌, ◌<◌}
use native.Mathlib.Nat.{zero-add}
use native.Mathlib.Omega.{arith}
use mathlib.Core.Path.{◌≡◌, refl, sym, ap, subst, ◌∙◌}
use mathlib.Core.Bool.{Bool, true, false, cond, ◌||◌, or-false, false≢true}
use mathlib.Core.List.{List, [], ◌∷◌, ◌++◌, map}
use lib.ListN.{length, get_or, replicate, length-append, replicate-append-replicate}
use lib.Dec.{ltb, eqb}
use borrow.Author.Tests.{ltb-true, eqb-true}
use Rattle.fiber_bytes.proofs.CaseLaws.{by_test, by_test₂}
use Rattle.fiber_witness.specs.Witness.{member}
use Rattle.fiber_witness.specs.Update.{Taken, Unlocked, take_unlocks}
use Rattle.fiber_witness.proofs.WitnessLaws.{member_none, member_more}
use Rattle.fiber_witness.proofs.UnlocksLaws.{beginnings, beginnings_none, beginnings_more, Reads, reads_rest, reads_more}
use Rattle.fiber_witness.proofs.UpdateLaws.{unlocks_none, unlocks_more, Ends}
use Rattle.fiber_choice.specs.declared.kinds.Side.{Side}
use Rattle.fiber_choice.specs.declared.kinds.Side.TheVariants.{Remote, Local}
use Rattle.book.specs.Book.{tlc_amount, share_amount, Payee, share, tlc, payee_of, same_side, change}
use Rattle.book.specs.Demand3.{Payment, payments, same_payee, is_paid, remain, paid_to, total, once_of, share_after, Rising}
use Rattle.book.proofs.StandingLaws.{records_at, Without, here, there, without_member, without_gone, without_other, without_rising, unsettled, without_at, records_at_at}
use Rattle.book.proofs.SharesLaws.{zero_share, takes, shares_left, left_more, amounts_of, amounts_more}
use Rattle.book.proofs.BookLaws.{sum_of}

-- ---- a share: paid in full once, then nothing, and changed by its own payments alone

pub record SharePaid (before : List ℕ) (amounts : List ℕ) (behind : List ℕ) : Type 0 where
  pub once : amounts ≡ once_of (length amounts) (share_amount before)
  pub apart : behind ≡ share_after amounts before

-- no payment, and the first
share_none : (s : List ℕ) → SharePaid s [] s
unfolding once_of share_after
share_none s = record { once = refl; apart = refl }

share_one : (s : List ℕ) → SharePaid s (share_amount s ∷ []) (replicate 36 0)
unfolding once_of share_after
share_one s = record { once = refl; apart = refl }

-- a share of zeros is paid nothing, and stays
once_zero : (k : ℕ) → once_of k 0 ≡ replicate k 0
unfolding once_of
once_zero zero = refl
once_zero (suc k) = refl

after_zeros : (xs : List ℕ) → share_after xs (replicate 36 0) ≡ replicate 36 0
unfolding share_after
after_zeros [] = refl
after_zeros (x ∷ xs) = refl

-- payments, and then further ones
share_append : (xs : List ℕ) {s s' s'' ys : List ℕ} → SharePaid s xs s' → SharePaid s' ys s'' → SharePaid s (xs ++ ys) s''
unfolding once_of share_after
share_append [] a b = rw a.apart at b
share_append (x ∷ xs) {s} {ys = ys} a b =
    let zeros : ys ≡ replicate (length ys) 0 =
    b.once ∙ ap (once_of (length ys)) (ap share_amount a.apart ∙ zero_share) ∙ once_zero (length ys) in
    record {
      once =
          ap (λ (l : List ℕ). l ++ ys) a.once
          ∙ ap (λ (l : List ℕ). share_amount s ∷ (replicate (length xs) 0 ++ l)) zeros
          ∙ ap (λ (l : List ℕ). share_amount s ∷ l)
          (replicate-append-replicate (length xs) (length ys) 0 ∙ ap (λ (k : ℕ). replicate k 0) (sym (length-append xs ys)));
      apart = b.apart ∙ ap (share_after ys) a.apart ∙ after_zeros ys;
    }

-- ---- a TLC: it stands before and stands after, or is paid and stands no longer, or stood no longer before

pub data Once (amount : ℕ) : Bool → List ℕ → Bool → Type 0 where
  gone : Once amount false [] false
  stays : Once amount true [] true
  paid : Once amount true (amount ∷ []) false

-- nothing paid, and payments behind others
once_same : (a : ℕ) (b : Bool) → Once a b [] b
once_same a true = stays
once_same a false = gone

once_append : {a : ℕ} {x y z : Bool} {ps qs : List ℕ} → Once a x ps y → Once a y qs z → Once a x (ps ++ qs) z
once_append gone gone = gone
once_append stays stays = stays
once_append stays paid = paid
once_append paid gone = paid

-- what is paid to a TLC that stood before, and to one that did not
pub once_stood : {a : ℕ} {x y : Bool} {ps : List ℕ} → Once a x ps y → x ≡ true → ps ≡ cond y [] (a ∷ [])
once_stood gone e = absurd (false≢true e)
once_stood stays e = refl
once_stood paid e = refl

pub once_gone : {a : ℕ} {x y : Bool} {ps : List ℕ} → Once a x ps y → x ≡ false → ps ≡ []
once_gone gone e = refl
once_gone stays e = refl
once_gone paid e = absurd (false≢true (sym e))

-- ---- one place out of a list

-- its record's amount is what the sum falls by
without_sum : {f : ℕ} {fs fs' : List ℕ} (rs : List (List ℕ)) → Without f fs fs'
    → tlc_amount (get_or rs f []) + total (map tlc_amount (records_at rs fs')) ≡ total (map tlc_amount (records_at rs fs))
unfolding total
without_sum rs here = refl
without_sum rs (there w) = omega (arith, without_sum rs w)

-- ---- payments counted

-- what is paid to one payee, and in all, by payments and further ones
append_paid : (who : Payee) (xs ys : List Payment) → paid_to who (xs ++ ys) ≡ paid_to who xs ++ paid_to who ys
unfolding paid_to
append_paid who [] ys = refl
append_paid who (x ∷ xs) ys =
    let e = append_paid who xs ys in
    by_test₂ (λ (l m : List ℕ). l ≡ m ++ paid_to who ys) (same_payee who x.to) _ _ _ _ (λ _. ap (λ (l : List ℕ). x.amount ∷ l) e) (λ _. e)

pub append_total : (xs ys : List Payment) → sum_of (xs ++ ys) ≡ sum_of xs + sum_of ys
unfolding total
append_total [] ys = sym (zero-add (sum_of ys))
append_total (x ∷ xs) ys = omega (arith, append_total xs ys)

-- ---- what payments do to an account

-- what stands: TLCs by their places in the first state, and both shares
pub record Account : Type 0 where
  pub firsts : List ℕ
  pub shares : Side → List ℕ

-- its sum, with the records of the first state
unfoldable pub worth_of : List (List ℕ) → Account → ℕ
worth_of rs a = total (map tlc_amount (records_at rs a.firsts)) + (share_amount (a.shares Remote) + share_amount (a.shares Local))

-- payments between two accounts: what each payee gets, and nothing lost
pub record Pays (rs : List (List ℕ)) (a : Account) (ps : List Payment) (b : Account) : Type 0 where
  pub shares : (side : Side) → SharePaid (a.shares side) (paid_to (share side) ps) (b.shares side)
  pub tlcs : (i : ℕ) → Once (tlc_amount (get_or rs i [])) (member i a.firsts) (paid_to (tlc i) ps) (member i b.firsts)
  pub order : {k : ℕ} → Rising k a.firsts → Rising k b.firsts
  pub sum : sum_of ps + worth_of rs b ≡ worth_of rs a

-- payments, and then further ones
pub pays_append : {rs : List (List ℕ)} {a b c : Account} {ps qs : List Payment} → Pays rs a ps b → Pays rs b qs c → Pays rs a (ps ++ qs) c
pays_append {ps = ps} {qs = qs} x y = record {
  shares = λ side. rw (append_paid (share side) ps qs) (share_append (paid_to (share side) ps) (x.shares side) (y.shares side));
  tlcs = λ i. rw (append_paid (tlc i) ps qs) (once_append (x.tlcs i) (y.tlcs i));
  order = λ r. y.order (x.order r);
  sum = omega (arith, append_total ps qs, x.sum, y.sum);
}

-- ---- one unlock, or none

module _ (rs : List (List ℕ)) (a : Account) where
  pub pays_none : Pays rs a [] a
  unfolding paid_to total
  pays_none = record {
    shares = λ side. share_none (a.shares side);
    tlcs = λ i. once_same (tlc_amount (get_or rs i [])) (member i a.firsts);
    order = λ r. r;
    sum = omega arith;
  }

  -- a share is paid its amount, and is zeros
  pays_share : (side : Side)
      → Pays rs a (record { to = share side; amount = share_amount (a.shares side) } ∷ []) (record { firsts = a.firsts; shares = change side (replicate 36 0) a.shares })
  unfolding paid_to same_payee same_side change total worth_of
  pays_share side = record {
    shares = λ other. one side other;
    tlcs = λ i. once_same (tlc_amount (get_or rs i [])) (member i a.firsts);
    order = λ r. r;
    sum = rest side;
  }
    where
      one : (x y : Side) → SharePaid (a.shares y) (cond (same_side y x) (share_amount (a.shares x) ∷ []) []) (change x (replicate 36 0) a.shares y)
      one Remote Remote = share_one (a.shares Remote)
      one Remote Local = share_none (a.shares Local)
      one Local Remote = share_none (a.shares Remote)
      one Local Local = share_one (a.shares Local)

      rest : (x : Side) → share_amount (a.shares x) + 0 + worth_of rs (record { firsts = a.firsts; shares = change x (replicate 36 0) a.shares }) ≡ worth_of rs a
      rest Remote = omega (arith, zero_share)
      rest Local = omega (arith, zero_share)

  -- a place that stands is paid its record's amount, and is out
  pays_tlc : {f : ℕ} {fs : List ℕ} → Rising 0 a.firsts → Without f a.firsts fs
      → Pays rs a (record { to = tlc f; amount = tlc_amount (get_or rs f []) } ∷ []) (record { firsts = fs; shares = a.shares })
  unfolding paid_to same_payee total worth_of
  pays_tlc {f} {fs} r w = record {
    shares = λ side. share_none (a.shares side);
    tlcs = λ i. go i (eqb i f) refl;
    order = without_rising w;
    sum = omega (arith, without_sum rs w);
  }
    where
      go : (i : ℕ) (t : Bool) → eqb i f ≡ t
          → Once (tlc_amount (get_or rs i [])) (member i a.firsts) (cond t (tlc_amount (get_or rs f []) ∷ []) []) (member i fs)
      go i true e = rw (eqb-true i f e, without_member w, without_gone w r) paid
      go i false e = rw (without_other w i e) (once_same (tlc_amount (get_or rs i [])) (member i fs))

-- ---- the unlocks that are all taken, one after the other

-- from what was taken to what is taken, by payees of n TLCs
pub data Goes (n : ℕ) : Taken → List Payee → Taken → Type 0 where
  goes_end : {t : Taken} → Goes n t [] t
  goes_share : {t u : Taken} {us : List Payee} (side : Side) → Goes n (takes side t) us u → Goes n t (share side ∷ us) u
  goes_tlc : {t u : Taken} {i : ℕ} {us : List Payee} → i < n → member i t.settled ≡ false
      → Goes n (record { settled = i ∷ t.settled; remote = t.remote; local = t.local }) us u → Goes n t (tlc i ∷ us) u

-- unlocks that are all taken go so
pub goes : {w : List ℕ} {at : ℕ} {us : List (List ℕ)} {rest : List ℕ} (n from : ℕ) → Reads w at us rest → (t x : Taken)
    → Ends (take_unlocks n from w t (beginnings at us)) x → Goes n t (map payee_of us) x
unfolding payee_of
goes n from (reads_rest {at = at} e f) t x = rw (beginnings_none at, unlocks_none) (λ v. subst (Goes n t []) v goes_end)
goes {w = w} {at = at} n from (reads_more {u = u} {us = us} k room byte r) t x =
    let P : Payee → Unlocked → Type 0 = λ who j. Ends j x → Goes n t (who ∷ map payee_of us) x in
    let i = get_or u 0 0 in
    rw (beginnings_more at u us, unlocks_more n from w t at (beginnings (at + length u) us), ← byte)
    (by_test₂ P (eqb i 255) _ _ _ _
    (λ _ v. goes_share Local (goes n from r _ x v))
    (λ _. by_test₂ P (eqb i 254) _ _ _ _
    (λ _ v. goes_share Remote (goes n from r _ x v))
    (λ _. by_test (P (tlc i)) (ltb i n) _ _
    (λ z. by_test (P (tlc i)) (member i t.settled) _ _
    (λ _ v. absurd v)
    (λ m v. goes_tlc (ltb-true _ _ z) m (goes n from r _ x v)))
    (λ _ v. absurd v))))

-- ---- which TLCs they settle

or_swap : (x y z : Bool) → x || y || z ≡ y || (x || z)
or_swap true true z = refl
or_swap true false z = refl
or_swap false y z = refl

-- those taken before, and those that are paid now
goes_settles : {n : ℕ} {t u : Taken} {us : List Payee} → Goes n t us u → (i : ℕ) → member i u.settled ≡ member i t.settled || is_paid (tlc i) us
unfolding is_paid same_payee
goes_settles (goes_end {t = t}) i = sym (or-false (member i t.settled))
goes_settles (goes_share side g) i = goes_settles g i
goes_settles (goes_tlc {t = t} {i = j} {us = us} f m g) i =
    goes_settles g i ∙ rw (member_more i j t.settled) (or_swap (eqb i j) (member i t.settled) (is_paid (tlc i) us))

-- ---- the first places of the TLCs that stand

-- they are those that the observer has remain
remain_is : (us : List Payee) (settled : List ℕ) → ((i : ℕ) → is_paid (tlc i) us ≡ member i settled) → (i : ℕ) (fs : List ℕ) → remain us i fs ≡ unsettled settled i fs
unfolding remain unsettled
remain_is us settled e i [] = refl
remain_is us settled e i (f ∷ fs) = simp (e i, remain_is us settled e (i + 1) fs)

-- after the unlocks of a call
pub goes_remain : {n : ℕ} {t u : Taken} {us : List Payee} → Goes n t us u → t.settled ≡ [] → (fs : List ℕ) → remain us 0 fs ≡ unsettled u.settled 0 fs
goes_remain {u = u} {us = us} g e fs =
    remain_is us u.settled (λ i. sym (goes_settles g i ∙ ap (λ (l : List ℕ). member i l || is_paid (tlc i) us) e ∙ rw (member_none i))) 0 fs

-- ---- the payments of an accepted call

-- the account of a call, with what was taken of it
abbrev pub account_of : List ℕ → (Side → List ℕ) → Taken → Account
account_of firsts shares t = record { firsts = unsettled t.settled 0 firsts; shares = shares_left t shares }

-- What unlocks that are all taken pay takes the account of the call before them to the one after.
module _ (rs tlcs : List (List ℕ)) (firsts : List ℕ) (shares : Side → List ℕ) (e : tlcs ≡ records_at rs firsts) where
  pub goes_pays : {t u : Taken} {us : List Payee} → Goes (length firsts) t us u → Rising 0 (unsettled t.settled 0 firsts)
      → Pays rs (account_of firsts shares t) (payments tlcs firsts (amounts_of (shares_left t shares)) us) (account_of firsts shares u)
  unfolding payments
  goes_pays (goes_end {t = t}) s = pays_none rs (account_of firsts shares t)
  goes_pays (goes_share {t = t} side g) s =
      rw (amounts_more side t shares) (pays_append (rw (left_more side t shares) at (pays_share rs (account_of firsts shares t) side)) (goes_pays g s))
  goes_pays (goes_tlc {t = t} {i = i} f m g) s =
      let w : Without (get_or firsts i 0) (unsettled t.settled 0 firsts) (unsettled (i ∷ t.settled) 0 firsts) =
      rw zero-add at (without_at t.settled 0 firsts i f (rw zero-add m)) in
      let r : get_or tlcs i [] ≡ get_or rs (get_or firsts i 0) [] = ap (λ (l : List (List ℕ)). get_or l i []) e ∙ records_at_at rs firsts i f in
      rw r (pays_append (pays_tlc rs (account_of firsts shares t) s w) (goes_pays g (without_rising w s)))
