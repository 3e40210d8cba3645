-- What the code answers of a file, without where its bytes lie in memory.
use Rattle.convert.specs.declared.includes.Answer.{Answer as Told}
use Rattle.convert.specs.declared.includes.Answer.TheVariants as told
use Rattle.convert.specs.Includes.{Answer, no_name, unknown, absent, present}

abbrev pub answer_view : Told → Answer
answer_view told.NoName = no_name
answer_view told.Unknown = unknown
answer_view told.Absent = absent
answer_view (told.Present file text) = present file text.now
