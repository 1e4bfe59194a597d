-- The marked rows hold.
mod EdgesHold
