-- The parts of IF: which of them apply.
use Rattle.std.specs.Prelude.{ℕ, ◌-◌, Bool, true, false, ◌==◌, if◌then◌else◌, Option, None, Some}
use Rattle.std.specs.Prelude.{List, [], ◌∷◌, ◌++◌, length, take, get_or}
use Rattle.convert.specs.declared.blocks.Block.{Block}
use Rattle.convert.specs.declared.blocks.Branch.{Branch}
use Rattle.convert.specs.declared.blocks.Branch.TheVariants.{Applies, Waits, Passed, Stays, ElseApplies, ElsePassed, ElseStays}
use Rattle.convert.specs.declared.blocks.Concern.{Concern}
use Rattle.convert.specs.declared.blocks.Concern.TheVariants.{Fine, NoCondition, NoIf}
use Rattle.convert.specs.declared.controls.ControlKind.{ControlKind}
use Rattle.convert.specs.declared.controls.ControlKind.TheVariants.{Include, If, ElseIf, Else, EndIf, Set, Reset, Other}

-- whether the lines of a part apply
abbrev pub does_apply : Branch → Bool
does_apply Applies = true
does_apply Waits = false
does_apply Passed = false
does_apply Stays = true
does_apply ElseApplies = true
does_apply ElsePassed = false
does_apply ElseStays = true

-- the innermost of the open IFs; if none is open, one whose lines apply
abbrev pub innermost : List Block → Block
innermost blocks = get_or blocks (length blocks - 1) (record { branch = Applies; line = 0 })

-- whether lines apply where these IFs are open
abbrev pub applies : List Block → Bool
applies blocks = does_apply (innermost blocks).branch

-- the part of a condition: its lines apply, those of a later part may, or all that follow stay, if it is not understood
abbrev pub part_of : Option Bool → Branch
part_of None = Stays
part_of (Some value) = if value then Applies else Waits

-- the first part of an IF among lines that apply or do not
abbrev pub after_if : Bool → Option Bool → Branch
after_if around value = if around then part_of value else Passed

-- the part after an ELSEIF
abbrev pub after_elseif : Option Bool → Branch → Branch
after_elseif value Applies = Passed
after_elseif value Waits = part_of value
after_elseif value Passed = Passed
after_elseif value Stays = Stays
after_elseif value ElseApplies = ElseApplies
after_elseif value ElsePassed = ElsePassed
after_elseif value ElseStays = ElseStays

-- the part after an ELSE
abbrev pub after_else : Branch → Branch
after_else Applies = ElsePassed
after_else Waits = ElseApplies
after_else Passed = ElsePassed
after_else Stays = ElseStays
after_else ElseApplies = ElseApplies
after_else ElsePassed = ElsePassed
after_else ElseStays = ElseStays

-- the open IFs, once the innermost has come to another part
abbrev pub with_part : Branch → List Block → List Block
with_part branch blocks =
    if length blocks == 0 then blocks else
    take (length blocks - 1) blocks ++ record { branch = branch; line = (innermost blocks).line } ∷ []

-- the open IFs after a control on a line of this number, with what its condition says
abbrev pub blocks_after : Option Bool → ControlKind → ℕ → List Block → List Block
blocks_after value If line blocks = blocks ++ record { branch = after_if (applies blocks) value; line = line } ∷ []
blocks_after value ElseIf line blocks = with_part (after_elseif value (innermost blocks).branch) blocks
blocks_after value Else line blocks = with_part (after_else (innermost blocks).branch) blocks
blocks_after value EndIf line blocks = take (length blocks - 1) blocks
blocks_after value Include line blocks = blocks
blocks_after value Set line blocks = blocks
blocks_after value Reset line blocks = blocks
blocks_after value Other line blocks = blocks

-- what is wrong with a condition that says this
abbrev pub concern_of : Option Bool → Concern
concern_of None = NoCondition
concern_of (Some value) = Fine

-- what is wrong with an ELSEIF after a part
abbrev pub concern_at_elseif : Option Bool → Branch → Concern
concern_at_elseif value Applies = Fine
concern_at_elseif value Waits = concern_of value
concern_at_elseif value Passed = Fine
concern_at_elseif value Stays = Fine
concern_at_elseif value ElseApplies = NoIf
concern_at_elseif value ElsePassed = NoIf
concern_at_elseif value ElseStays = NoIf

-- what is wrong with an ELSE after a part
abbrev pub concern_at_else : Branch → Concern
concern_at_else Applies = Fine
concern_at_else Waits = Fine
concern_at_else Passed = Fine
concern_at_else Stays = Fine
concern_at_else ElseApplies = NoIf
concern_at_else ElsePassed = NoIf
concern_at_else ElseStays = NoIf

-- what is wrong with a control where these IFs are open, with what its condition says
abbrev pub concern_at : Option Bool → ControlKind → List Block → Concern
concern_at value If blocks = if applies blocks then concern_of value else Fine
concern_at value ElseIf blocks =
    if length blocks == 0 then NoIf else concern_at_elseif value (innermost blocks).branch
concern_at value Else blocks = if length blocks == 0 then NoIf else concern_at_else (innermost blocks).branch
concern_at value EndIf blocks = if length blocks == 0 then NoIf else Fine
concern_at value Include blocks = Fine
concern_at value Set blocks = Fine
concern_at value Reset blocks = Fine
concern_at value Other blocks = Fine
