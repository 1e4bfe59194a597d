-- What a choice answers: what is decided, or why nothing is chosen.
use Rattle.std.specs.Prelude.{Result, Ok, Err}
use Rattle.fiber_refusal.specs.declared.Refusal.{Refusal}
use Rattle.fiber_choice.specs.declared.kinds.Wait.{Wait}
use Rattle.fiber_choice.specs.declared.kinds.NoChoice.{NoChoice}
use Rattle.fiber_choice.specs.declared.kinds.NoChoice.TheVariants as NoChoiceCase
use Rattle.fiber_choice.specs.declared.kinds.Decision.{Decision}

abbrev pub Answer : Type 0
Answer = Result Decision NoChoice

abbrev pub decided : Decision → Answer
decided d = Ok d

abbrev pub waiting : Wait → Answer
waiting wait = Err (NoChoiceCase.Wait wait)

abbrev pub refused : Refusal → Answer
refused r = Err (NoChoiceCase.Refused r)

-- before a walk: it may begin, or what stands against it
abbrev pub Ready : Type 0
Ready = Result (Unit {0}) NoChoice

abbrev pub begins : Ready
begins = Ok tt

abbrev pub stops_waiting : Wait → Ready
stops_waiting wait = Err (NoChoiceCase.Wait wait)

abbrev pub stops : Refusal → Ready
stops r = Err (NoChoiceCase.Refused r)
