-- Writing and reading, one after the other (document 01, "The trace file"): what was read, as the tables that the writer takes, and the
-- two statements that nothing is lost either way.
use Rattle.std.specs.Prelude.{ℕ, ◌*◌, ◌≡◌, List}
use Rattle.base.specs.Below.{list_below}
use Rattle.layout.specs.declared.Header.{Header}
use Rattle.layout.specs.Header.{capacity_count}
use Rattle.trace.specs.Reading.{header_of, capacity, slot_count, port_byte, reading}
use Rattle.trace_write.specs.Writing.{writing, file}

-- the capacities that were read, as many as the header read makes them
unfoldable pub capacities_of : List ℕ → List ℕ
capacities_of s = list_below (capacity s) (capacity_count (header_of s))

-- the arrival counts that were read, one for each slot
unfoldable pub slot_counts_of : List ℕ → List ℕ
slot_counts_of s = list_below (slot_count s) (header_of s).slots

-- the arrivals' ports that were read, two bytes for each arrival
unfoldable pub ports_of : List ℕ → List ℕ
ports_of s = list_below (port_byte s) (2 * (header_of s).arrivals)

-- what is written reads back as the same values: the reader accepts the file, and finds in it the header and the tables
pub record ReadsBack (h : Header) (caps counts ports : List ℕ) : Type 0 where
  pub accepted : reading (file h caps counts ports) ≡ 0
  pub header : header_of (file h caps counts ports) ≡ h
  pub capacities : capacities_of (file h caps counts ports) ≡ caps
  pub slot_counts : slot_counts_of (file h caps counts ports) ≡ counts
  pub port_bytes : ports_of (file h caps counts ports) ≡ ports

-- a trace, written again from what was read: the writer accepts the values, and the file that it makes is the same bytes
pub record Rewritten (s : List ℕ) (room : ℕ) : Type 0 where
  pub accepted : writing (header_of s) (capacities_of s) (slot_counts_of s) (ports_of s) room ≡ 0
  pub same : file (header_of s) (capacities_of s) (slot_counts_of s) (ports_of s) ≡ s
