-- What is printed where sources are refused: the line of no file that can't be read.
use Rattle.commands.proofs.Prelude.{◌≡◌, ℕ, true, List, Option, refl, ap, ◌∙◌, Tells, TellsOther, refusal_line, is_other, tells_other, ReadFault, Cause}
use Rattle.words.specs.Fault as of_words
use Rattle.words.specs.declared.fault.Fault as word_fault
use Rattle.words.specs.declared.fault.Fault.TheVariants as word_faults
use Rattle.literally.specs.Fault as of_expansion
use Rattle.literally.specs.declared.fault.Fault as expansion_fault
use Rattle.literally.specs.declared.fault.Fault.TheVariants as expansion_faults
use Rattle.syntax.specs.Faults as of_syntax
use Rattle.syntax.specs.declared.fault.Fault as syntax_fault
use Rattle.syntax.specs.declared.fault.Fault.TheVariants as syntax_faults
use Rattle.typing.specs.Faults as of_typing
use Rattle.typing.specs.declared.fault.Cause.TheVariants as causes
use Rattle.sources.specs.Faults as of_source
use Rattle.sources.specs.declared.read.ReadFault.TheVariants as read_faults
use Rattle.join.specs.Views as of_joining
use Rattle.join.specs.declared.fault.Fault as join_fault
use Rattle.join.specs.declared.fault.Fault.TheVariants as join_faults

words_other : (fault : word_fault.Fault) → is_other (of_words.number_of fault) ≡ true
words_other (word_faults.Character start line) = refl
words_other (word_faults.Unclosed start line) = refl
words_other (word_faults.Number start line) = refl
words_other (word_faults.Name start line) = refl

expansion_other : (fault : expansion_fault.Fault) → is_other (of_expansion.number_of fault) ≡ true
expansion_other (expansion_faults.Text fault) = words_other fault
expansion_other (expansion_faults.Depth start line) = refl
expansion_other (expansion_faults.Count start line) = refl
expansion_other (expansion_faults.Quote start line) = refl
expansion_other (expansion_faults.Again start line) = refl

syntax_other : (fault : syntax_fault.Fault) → is_other (of_syntax.number_of fault) ≡ true
syntax_other (syntax_faults.Word place) = refl
syntax_other (syntax_faults.End place) = refl
syntax_other (syntax_faults.Depth place) = refl
syntax_other (syntax_faults.EndName place) = refl

typing_other : (cause : Cause) → is_other (of_typing.number_of cause) ≡ true
typing_other causes.UnknownName = refl
typing_other causes.DeclaredTwice = refl
typing_other causes.SubscriptMismatch = refl
typing_other causes.MemberMismatch = refl
typing_other causes.ArgumentCount = refl
typing_other causes.ValueOfUntyped = refl
typing_other causes.CallOfTyped = refl
typing_other causes.CallOfNoProcedure = refl
typing_other causes.NoVariable = refl
typing_other causes.NotMeasurable = refl
typing_other causes.PortNotConstant = refl
typing_other causes.ParameterNotScalar = refl
typing_other causes.ParameterNotDeclared = refl
typing_other causes.NoBase = refl
typing_other causes.NoCounter = refl
typing_other causes.ReturnMismatch = refl
typing_other causes.ReturnOutside = refl
typing_other causes.MisplacedLinkage = refl
typing_other causes.MisplacedAt = refl
typing_other causes.MisplacedValues = refl
typing_other causes.BasedParameter = refl
typing_other causes.ImpliedForGroup = refl
typing_other causes.NestedProcedure = refl
typing_other causes.ReentrantExternal = refl
typing_other causes.ExternalContents = refl
typing_other causes.StringNotNumber = refl
typing_other causes.ZeroDimension = refl
typing_other causes.ImpliedWithoutValues = refl
typing_other causes.PortTooLarge = refl
typing_other causes.TooManyParameters = refl
typing_other causes.NoFixedAddress = refl
typing_other causes.NotByte = refl
typing_other causes.TooManyValues = refl
typing_other causes.ConstantWritten = refl
typing_other causes.NoLocation = refl
typing_other causes.TooLarge = refl
typing_other causes.MisplacedLabel = refl
typing_other causes.UnknownLabel = refl

pub source_other : (fault : ReadFault) → is_other (of_source.number_of fault) ≡ true
source_other read_faults.TooLong = refl
source_other (read_faults.Words fault) = words_other fault
source_other (read_faults.Expansion fault) = expansion_other fault
source_other (read_faults.Syntax fault) = syntax_other fault
source_other (read_faults.Typing fault) = typing_other fault.cause
source_other (read_faults.Storage fault) = refl

pub joining_other : (fault : join_fault.Fault) → is_other (of_joining.number_of fault) ≡ true
joining_other (join_faults.NoPublic name) = refl
joining_other (join_faults.PublicTwice name) = refl
joining_other (join_faults.DeclarationsDiffer name) = refl
joining_other join_faults.NotOneMain = refl

-- the lines of their faults
pub source_told : (fault : ReadFault) (number name : List ℕ) (line : ℕ) (old new : Option (List ℕ)) → number ≡ of_source.number_of fault → Tells (refusal_line number name line) old new → TellsOther old new
source_told fault number name line old new is told = tells_other number name line old new (ap is_other is ∙ source_other fault) told

pub joining_told : (fault : join_fault.Fault) (number name : List ℕ) (line : ℕ) (old new : Option (List ℕ)) → number ≡ of_joining.number_of fault → Tells (refusal_line number name line) old new → TellsOther old new
joining_told fault number name line old new is told = tells_other number name line old new (ap is_other is ∙ joining_other fault) told
