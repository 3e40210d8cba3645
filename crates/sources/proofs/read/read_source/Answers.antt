use Rattle.sources.proofs.SoundSources.{typed_text_has_names_that_differ, typed_text_is_soundly_typed}
use Rattle.sources.proofs.read.read_source.Goals as goal

pub returns-clause-sound : goal.returns-clause-sound
returns-clause-sound c = typed_text_is_soundly_typed _ _ c.in_ok-typed.ensures.typing

pub returns-clause-names : goal.returns-clause-names
returns-clause-names c = typed_text_has_names_that_differ _ _ c.in_ok-typed.ensures.typing
