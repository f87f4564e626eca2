-- What the program says at a fault.
use Rattle.std.specs.Prelude.{◌≡◌, ◌≢◌, ◌++◌, [], ℕ, List, codes, string_bytes}
use Rattle.std.specs.declared.io.ErrorKind.{ErrorKind}
use Rattle.std.specs.declared.io.ErrorKind.TheVariants.{BrokenPipe}
use Rattle.ratio.specs.declared.fault.Fault.{Fault}
use Rattle.ratio.specs.declared.fault.Fault.TheVariants as faults

-- the fault of a write that failed with an error of this kind: nobody reads a broken pipe any more
-- Example: of `BrokenPipe`: `Unread`
pub record IsFaultOfWrite (kind : ErrorKind) (fault : Fault) : Type 0 where
  pub broken : kind ≡ BrokenPipe → fault ≡ faults.Unread
  pub other : kind ≢ BrokenPipe → fault ≡ faults.Write

-- the message of a fault, with its line end; none if nobody reads the answers any more
-- Example: `ratio: read failed\n`
abbrev pub message_of : Fault → List ℕ
message_of faults.Arguments = codes "ratio: an argument is not UTF-8\n"
message_of (faults.UnknownOption name) = codes "ratio: unknown option " ++ string_bytes name ++ codes ": see ratio --help\n"
message_of faults.NoPlaces = codes "ratio: --decimal wants a number of places, from 0 to 1000000\n"
message_of faults.Memory = codes "ratio: out of memory\n"
message_of faults.Read = codes "ratio: read failed\n"
message_of faults.Write = codes "ratio: write failed\n"
message_of faults.Unread = []
message_of faults.Endless = codes "ratio: input too long\n"
