-- What is done with a part of an object, as the code holds it.
use Rattle.stack_code.specs.internal.Code.{Purpose, ToRead, ToWrite, ToLocate}
use Rattle.stack_compiler.specs.declared.purpose.Purpose.{Purpose as CodePurpose}
use Rattle.stack_compiler.specs.declared.purpose.Purpose.TheVariants.{Reading, Writing, Locating}

abbrev pub purpose_view : CodePurpose → Purpose
purpose_view (Reading scalar) = ToRead scalar
purpose_view (Writing scalar) = ToWrite scalar
purpose_view Locating = ToLocate
