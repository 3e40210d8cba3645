-- A name for the parts of a decoder.
use Rattle.std.specs.Prelude.{◌≡◌, ℕ, Option}
use Rattle.isa8080.specs.declared.instr.Instr.{Instr}
use Rattle.isa8080.specs.Code.{form_of, instruction_of}

-- a first byte and the two bytes after it are read as this
unfoldable pub Reads : ℕ → ℕ → ℕ → Option (Instr × ℕ) → Type 0
Reads code low high result = result ≡ instruction_of (form_of code) low high
