-- The marked rows of document 01's table "Edges" that are about scaling, the due test and expiries, by computing. The list of all marked rows
-- (watchtower/specs/Edges.antt) cites them.
use Prim.Native.Nat.{◌+◌, ◌^◌}
use mathlib.Core.Path.{◌≡◌, refl}
use Rattle.std.specs.Prelude.{true, false, Some, None, Ok}
use Rattle.fiber_since.specs.Epoch.{epoch, within_bits, units, factor, normalized, scaled, due, due_test}
use Rattle.fiber_since.specs.Since.{metric_of, since, millis, absolute_expiry}

pub one_third : scaled (epoch 1 0 601) 1 3 ≡ Ok (epoch 0 300 901)
unfolding within_bits units factor normalized scaled
one_third = refl

pub two_thirds_lem : scaled (epoch 1 300 601) 2 3 ≡ Ok (epoch 0 901 901)
unfolding within_bits units factor normalized scaled
two_thirds_lem = refl

pub due_then : due_test (epoch 100 0 1) (epoch 0 1 3) (epoch 100 1 3) ≡ Ok true
unfolding within_bits units due due_test
due_then = refl

pub not_due_before : due_test (epoch 100 0 1) (epoch 0 1 3) (epoch 100 332 1000) ≡ Ok false
unfolding within_bits units due due_test
not_due_before = refl

pub five_seconds : absolute_expiry 0x4000000000000005 ≡ Some 5000
unfolding metric_of since millis absolute_expiry
five_seconds = refl

pub last_second : absolute_expiry (2 ^ 62 + 18446744073709551) ≡ Some 18446744073709551000
unfolding metric_of since millis absolute_expiry
last_second = refl

pub second_more : absolute_expiry (2 ^ 62 + 18446744073709552) ≡ None
unfolding metric_of since millis absolute_expiry
second_more = refl
