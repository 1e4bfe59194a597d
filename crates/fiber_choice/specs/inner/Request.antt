-- The request that the code has behind rows 14 and 10. Only contracts of inner functions speak of it.
use Rattle.fiber_choice.specs.declared.checked.Checked.{Checked}
use Rattle.fiber_choice.specs.Request.{Request, data_of}

abbrev pub request_by : Checked → Request
request_by q = record {
  h = q.h.bytes;
  for_remote = q.for_remote;
  time = q.time;
  header = q.header;
  current = q.current;
  args = q.args.now;
  settlement = data_of q.settlement;
  tracked = q.tracked.now;
  preimages = q.preimages.now;
}
