-- Row 14, then the delay, then the settlement.
-- What is lent well, with a delay that is an epoch, has what each of the two settlements asks.
use mathlib.Core.Path.{◌≡◌, refl, sym, ◌∙◌}
use mathlib.Core.Bool.{true, false}
use Rattle.std.specs.Prelude.{Ok}
use Rattle.fiber_refusal.proofs.PassedLaws.{passed_on}
use Rattle.fiber_types.specs.HashLen.{valid_hash_len}
use Rattle.fiber_choice.specs.Request.{Request, request_of, valid_request, delay_of}
use Rattle.fiber_choice.proofs.RequestLaws.{delay_epoch, valid}
use Rattle.fiber_choice.proofs.SettlementsLaws.{leaves_as}
use Rattle.fiber_choice.proofs.ChoiceLaws.{choice_invalid, choice_refused, choice_later, choice_first}
use Rattle.watchtower.proofs.choice.choose.Goals as goal
use Rattle.watchtower.proofs.choice.choose.Goals.{In_ok-full}

-- a request with another length of hashes is not valid
hash_unknown : (q : Request) → valid_hash_len q.h ≡ false → valid_request q ≡ false
unfolding valid_request
hash_unknown q e = rw e

pub returns-in_err-h : goal.returns-in_err-h
returns-in_err-h c =
    rw (passed_on _ c.from_residual.ensures.1, c.in_err-h.ensures.1) (choice_invalid (request_of c.args.q.now) _ _ _ (hash_unknown (request_of c.args.q.now) c.in_err-h.ensures.0))

pub valid_request-requires : goal.valid_request-requires
valid_request-requires c = c.in_ok-h.ensures

pub returns-then-not-valid_request : goal.returns-then-not-valid_request
returns-then-not-valid_request c = choice_invalid _ _ _ _ (sym c.valid_request.ensures ∙ c.if-not-valid_request.true)

pub returns-in_err-full : goal.returns-in_err-full
returns-in_err-full c =
    rw (passed_on _ c.from_residual-in_err-full.ensures.1) (choice_refused (request_of c.args.q.now) _ _ _ (sym c.valid_request.ensures ∙ c.if-not-valid_request.false) _ (sym c.delay_of.ensures ∙ c.in_err-full.was))

-- the rows in front of both settlements are passed
passed : (c : In_ok-full) → (valid_request (request_of c.args.q.now) ≡ true) × (delay_of c.args.q.now.args.now ≡ Ok c.in_ok-full.full)
passed c = (sym c.valid_request.ensures ∙ c.if-not-valid_request.false, sym c.delay_of.ensures ∙ c.in_ok-full.was)

pub choose_later-requires : goal.choose_later-requires
choose_later-requires c = (delay_epoch _ _ (passed (goal.at.choose_later-requires c).In_ok-full).1).0

pub choose_first-requires-clause-valid : goal.choose_first-requires-clause-valid
choose_first-requires-clause-valid c =
    let p = passed (goal.at.choose_first-requires-clause-valid c).In_ok-full in
    ((valid (request_of c.args.q.now) p.0).entries, (delay_epoch _ _ p.1).0)

pub choose_first-requires-clause-within : goal.choose_first-requires-clause-within
choose_first-requires-clause-within c =
    let p = passed (goal.at.choose_first-requires-clause-within c).In_ok-full in
    let l = valid (request_of c.args.q.now) p.0 in
    (l.header, (l.current, (delay_epoch _ _ p.1).1))

pub returns-in-Some : goal.returns-in-Some
returns-in-Some c =
    let p = passed (goal.at.returns-in-Some c).In_ok-full in
    rw c.in-Some.is (leaves_as _ _ (choice_later (request_of c.args.q.now) _ _ _ p.0 _ p.1 refl) _ _ (rw c.in_ok-h.ensures at c.choose_later.ensures))

pub returns-in-None : goal.returns-in-None
returns-in-None c =
    let p = passed (goal.at.returns-in-None c).In_ok-full in
    rw c.in-None.is (leaves_as _ _ (choice_first (request_of c.args.q.now) _ _ _ p.0 _ p.1 refl) _ _ (rw c.in_ok-h.ensures at c.choose_first.ensures))
