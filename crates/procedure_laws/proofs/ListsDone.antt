-- The code of a list does what the list says, wherever it stands.
use Rattle.procedure_laws.proofs.Prelude.{statements_do, list_stands, carry_out, ListsAreDone}

pub lists_are_done : ListsAreDone
lists_are_done at facts range list last from to sound written there =
    list_stands at sound (carry_out at.context sound.sound) (statements_do at sound) from to written there
