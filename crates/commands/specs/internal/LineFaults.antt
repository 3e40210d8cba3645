-- What the faults of a command line are.
use Rattle.command_line.specs.declared.reading.LineFault.{LineFault}
use Rattle.command_line.specs.declared.reading.LineFault.TheVariants.{Help, Version, Wrong}

-- the words are wrong, and do not just ask for help or for the version
abbrev pub IsWrong : LineFault → Type 0
IsWrong (Help error) = ⊥
IsWrong (Version error) = ⊥
IsWrong (Wrong error) = Unit {0}
