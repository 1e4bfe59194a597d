-- Laws of `specs/Choice.antt`: the order of its first rows, and what a first settlement does not look at.
-- Assumes nothing.
use Prim.Native.Nat.{ℕ}
use mathlib.Core.Path.{◌≡◌, refl, ap}
use mathlib.Core.Bool.{Bool, true, false, cond}
use mathlib.Core.List.{List}
use Rattle.std.specs.Prelude.{Result, Ok, Err}
use Rattle.fiber_refusal.specs.declared.Refusal.{Refusal}
use Rattle.fiber_refusal.specs.declared.Refusal.TheVariants.{NotWell}
use Rattle.fiber_choice.specs.Answered.{Answer, refused}
use Rattle.fiber_since.specs.declared.epoch.Epoch.{Epoch}
use Rattle.fiber_choice.specs.Request.{Request, valid_request, delay_of}
use Rattle.fiber_types.specs.Records.{Outcome, Gives, unwritten}
use Rattle.fiber_choice.specs.Settlements.{later, first}
use Rattle.fiber_choice.specs.Choice.{after_delay, choice_of}

module _ (q : Request) (is_later : Bool) (w out : List ℕ) where
  -- row 14
  pub choice_invalid : valid_request q ≡ false → Gives (choice_of q is_later w out) (refused NotWell) out
  unfolding choice_of
  choice_invalid e = (rw e, rw e)

  module _ (e : valid_request q ≡ true) where
    -- row 10 or 11
    pub choice_refused : (r : Refusal) → delay_of q.args ≡ Err r → Gives (choice_of q is_later w out) (refused r) out
    unfolding choice_of after_delay
    choice_refused r f = (rw (e, f), rw (e, f))

    module _ (full : Epoch) (f : delay_of q.args ≡ Ok full) where
      -- a later settlement
      pub choice_later : is_later ≡ true → later q w out ≡ choice_of q is_later w out
      unfolding choice_of after_delay
      choice_later g = rw (e, f, g)

      -- a first one
      pub choice_first : is_later ≡ false → first q full out ≡ choice_of q is_later w out
      unfolding choice_of after_delay
      choice_first g = rw (e, f, g)

-- a first settlement does not look at the witness
pub choice_unseen : (q : Request) (w v out : List ℕ) → choice_of q false w out ≡ choice_of q false v out
unfolding choice_of after_delay
choice_unseen q w v out = ap (λ (o : Outcome Answer). cond (valid_request q) o (unwritten (refused NotWell) out)) (go (delay_of q.args))
  where
    go : (d : Result Epoch Refusal) → after_delay q false w out d ≡ after_delay q false v out d
    go (Ok full) = refl
    go (Err r) = refl
