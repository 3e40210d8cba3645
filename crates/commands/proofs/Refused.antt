-- What is printed where sources are refused: the line of no file that can't be read.
use Rattle.commands.proofs.{Prelude.{◌≡◌, ℕ, true, List, None, Option, Some, refl, ap, subst, ◌∙◌, Tells, TellsOther, refusal_line, is_other, tells_other, placement_number, link_number, file_of, line_of, name_of, number_of, ToolFault, TooManySources, Code, Program, Link, Locate, fault_line, fault_place, file_place, LinkFault, LocateFault, Source}, NeedRefused.{joining_other, source_other}}
use Rattle.placing.specs.Views as of_placement
use Rattle.placing.specs.declared.fault.Fault as placing_fault
use Rattle.placing.specs.declared.fault.Fault.TheVariants as placing_faults
use Rattle.codegen8080.specs.Faults as of_code
use Rattle.codegen8080.specs.declared.fault.Fault as code_fault
use Rattle.codegen8080.specs.declared.fault.Fault.TheVariants as code_faults
use Rattle.link_laws.specs.Faults as of_linking
use Rattle.link_laws.specs.declared.fault.LinkFault.TheVariants as link_faults
use Rattle.locate.specs.Locating as of_locating
use Rattle.locate.specs.declared.fault.LocateFault.TheVariants as locate_faults
use Rattle.sources.specs.declared.fault.ProgramFault.TheVariants as program_faults

placement_other : (fault : placing_fault.Fault) → is_other (of_placement.number_of fault) ≡ true
placement_other placing_faults.SegmentTooLarge = refl
placement_other placing_faults.PassesMemory = refl
placement_other placing_faults.RangesOverlap = refl
placement_other (placing_faults.ObjectMisplaced name) = refl

code_other : (fault : code_fault.Fault) → is_other (of_code.number_of fault) ≡ true
code_other code_faults.TooLong = refl

linking_other : (fault : LinkFault) → is_other (link_number (of_linking.refusal_of fault)) ≡ true
linking_other (link_faults.DuplicatePublic name) = refl
linking_other (link_faults.UnresolvedExternal name) = refl
linking_other link_faults.SegmentTooLong = refl
linking_other link_faults.NotOneMain = refl
linking_other link_faults.HighByteMoves = refl

locating_other : (fault : LocateFault) → is_other (placement_number (of_locating.refusal_of fault)) ≡ true
locating_other locate_faults.ExternalLeft = refl
locating_other locate_faults.NoStart = refl
locating_other locate_faults.PassesMemory = refl
locating_other locate_faults.SegmentsMeet = refl
locating_other locate_faults.PageBroken = refl
locating_other locate_faults.HighByteBroken = refl

sources_other : (fault : ToolFault) → is_other (number_of fault) ≡ true
sources_other TooManySources = refl
sources_other (Source file fault) = source_other fault
sources_other (Code file fault) = code_other fault
sources_other (Program (program_faults.Join fault)) = joining_other fault
sources_other (Program (program_faults.Placement fault)) = placement_other fault
sources_other (Link fault) = linking_other fault
sources_other (Locate fault) = locating_other fault

-- the line of any fault of sources
pub sources_told : (fault : ToolFault) (number name : List ℕ) (line : ℕ) (old new : Option (List ℕ)) → number ≡ number_of fault → Tells (refusal_line number name line) old new → TellsOther old new
sources_told fault number name line old new is told = tells_other number name line old new (ap is_other is ∙ sources_other fault) told

-- the line of a fault that tells of a name, and of one that tells of its file
pub of_name : (names : List (List ℕ)) (fault : ToolFault) (name told : List ℕ) (old new : Option (List ℕ)) → Some name ≡ name_of fault → told ≡ name
    → Tells (refusal_line (number_of fault) told (line_of fault)) old new → Tells (fault_line names fault) old new
of_name names fault name told old new is same tells =
    subst (λ (n : Option (List ℕ)). Tells (refusal_line (number_of fault) (fault_place names n (file_of fault)) (line_of fault)) old new) is
    (subst (λ (n : List ℕ). Tells (refusal_line (number_of fault) n (line_of fault)) old new) same tells)

pub of_file : (names : List (List ℕ)) (fault : ToolFault) (place told : List ℕ) (old new : Option (List ℕ)) → None ≡ name_of fault → told ≡ place → place ≡ file_place names (file_of fault)
    → Tells (refusal_line (number_of fault) told (line_of fault)) old new → Tells (fault_line names fault) old new
of_file names fault place told old new none same is tells =
    subst (λ (n : Option (List ℕ)). Tells (refusal_line (number_of fault) (fault_place names n (file_of fault)) (line_of fault)) old new) none
    (subst (λ (p : List ℕ). Tells (refusal_line (number_of fault) p (line_of fault)) old new) (same ∙ is) tells)
