use Rattle.object_reading.proofs.Prelude.{◌≡◌, length, list_all, is_name_character}
use Rattle.object_reading.proofs.rules.names.are_characters.Given as goal

abbrev pub invariant-loop-rest : goal.invariant-loop-rest
invariant-loop-rest l = list_all is_name_character l.rest ≡ list_all is_name_character l.initial.rest

abbrev pub decreases-loop-rest : goal.decreases-loop-rest
decreases-loop-rest l = length l.rest
