-- What the interpreter asks of a program that was built.
use Rattle.commands.proofs.Prelude.{◌≡◌, All, JumpsAreSound, Joined, program_modules, Construction, IsConstruction}

-- its jumps go to labels that are known
pub are_sound : (built : Construction) (joined : Joined) → IsConstruction built → joined ≡ built.program → All JumpsAreSound (program_modules joined)
are_sound built joined is same = rw same is.jumps
