-- The refusals that faults stand for.
use Rattle.object_modules.specs.Merge.{LinkRefusal, DuplicatePublic, UnresolvedExternal, SegmentTooLong, NotOneMain, HighByteMoves}
use Rattle.link_laws.specs.declared.fault.LinkFault.{LinkFault}
use Rattle.link_laws.specs.declared.fault.LinkFault.TheVariants as faults

-- the refusal that a fault stands for
abbrev pub refusal_of : LinkFault → LinkRefusal
refusal_of (faults.DuplicatePublic name) = DuplicatePublic name
refusal_of (faults.UnresolvedExternal name) = UnresolvedExternal name
refusal_of faults.SegmentTooLong = SegmentTooLong
refusal_of faults.NotOneMain = NotOneMain
refusal_of faults.HighByteMoves = HighByteMoves
