-- What the errors of `clap` are to the caller.
use Rattle.std.specs.Prelude.{◌≡◌, ◌≢◌}
use Rattle.clap.specs.Words.{kind_of}
use Rattle.clap.specs.declared.error.ErrorKind.TheVariants.{DisplayHelp, DisplayVersion, OutOfMemory}
use Rattle.clap.specs.declared.error.Error.{Error}
use Rattle.failure.specs.declared.Failure.{Failure}
use Rattle.failure.specs.declared.Failure.TheVariants.{Fault, Memory}
use Rattle.command_line.specs.declared.reading.LineFault.{LineFault}
use Rattle.command_line.specs.declared.reading.LineFault.TheVariants.{Help, Version, Wrong}

-- the failure that an error of `clap` is: help, the version, out of memory, or wrong words
abbrev pub IsFailureFor : Error → Failure LineFault → Type 0
IsFailureFor error (Fault (Help held)) = (held ≡ error) × (kind_of error ≡ DisplayHelp)
IsFailureFor error (Fault (Version held)) = (held ≡ error) × (kind_of error ≡ DisplayVersion)
IsFailureFor error (Fault (Wrong held)) =
    (held ≡ error) × (kind_of error ≢ DisplayHelp) × (kind_of error ≢ DisplayVersion)
    × (kind_of error ≢ OutOfMemory)
IsFailureFor error Memory = kind_of error ≡ OutOfMemory
