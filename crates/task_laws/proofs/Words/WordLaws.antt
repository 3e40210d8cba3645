-- The code of a value in HL does what the expression means.
use Rattle.task_laws.proofs.Prelude.{ℕ, ExpressionNumber, Facts, knowing, word_steps, Context, IsSound, StepsStand, PartDoes, WordDoes}
use Rattle.task_laws.proofs.Words.AndNumbers.{HighHalvesGiven}
use Rattle.task_laws.proofs.Bytes.AskedOfBytes.{bytes_asked}
use Rattle.task_laws.proofs.Bytes.HighHalves.{high_byte_law}
use Rattle.task_laws.proofs.Words.Words.{word_does}

pub high_halves_given : (context : Context) → IsSound context → HighHalvesGiven context
high_halves_given context sound facts last number pushed from to bound tree is types stand =
    high_byte_law sound is types stand

pub words_do :
    (context : Context) → IsSound context
    → (facts last : Facts) (number : ExpressionNumber) (pushed from to : ℕ)
    → StepsStand context (PartDoes context) facts from
    (word_steps (knowing context.site facts) number pushed) last to
    → WordDoes context facts number pushed from last to
words_do context sound = word_does context sound (bytes_asked context sound) (high_halves_given context sound)
