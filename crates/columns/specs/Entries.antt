-- The entries of 64 patterns in two words.
-- Assumes nothing.
use Rattle.std.specs.Prelude.{ℕ, eqb}
use Rattle.lanes.specs.Lanes.{lanes_of}
use Rattle.tables.specs.Entries.{fail, unknown}
use Rattle.columns.specs.declared.EntryLanes.{EntryLanes}

-- the lanes that fail, and those that are unknown, where lane i has the entry e i; a lane that passes is in neither
abbrev pub entry_lanes : (ℕ → ℕ) → EntryLanes
entry_lanes e = record { fails = lanes_of (λ i. eqb (e i) fail); unknowns = lanes_of (λ i. eqb (e i) unknown) }
