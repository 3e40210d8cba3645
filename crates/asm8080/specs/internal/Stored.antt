-- Items as code keeps them.
use Rattle.object_modules.specs.declared.segment.Target.TheVariants.{InSegment, External}
use Rattle.asm8080.specs.declared.item.Reference.{Reference}
use Rattle.asm8080.specs.declared.item.Reference.TheVariants.{AtLabel, AtTarget, AtNumber}
use Rattle.asm8080.specs.declared.item.Item.{Item}
use Rattle.asm8080.specs.declared.item.Item.TheVariants.{Plain, WithWord, Byte, Address, Gap, Mark}
use Rattle.asm8080.specs.declared.stored.StoredForm.{StoredForm}
use Rattle.asm8080.specs.declared.stored.StoredForm.TheVariants as stored

-- the item of a stored form
abbrev pub item_of : StoredForm → Item
item_of (stored.Plain instruction) = Plain instruction
item_of (stored.LabelWord form label) = WithWord form (AtLabel label)
item_of (stored.SegmentWord form segment offset) = WithWord form (AtTarget (InSegment segment) offset)
item_of (stored.ExternalWord form number offset) = WithWord form (AtTarget (External number) offset)
item_of (stored.NumberWord form number) = WithWord form (AtNumber number)
item_of (stored.Byte value) = Byte value
item_of (stored.LabelAddress label) = Address (AtLabel label)
item_of (stored.SegmentAddress segment offset) = Address (AtTarget (InSegment segment) offset)
item_of (stored.ExternalAddress number offset) = Address (AtTarget (External number) offset)
item_of (stored.NumberAddress number) = Address (AtNumber number)
item_of (stored.Gap count) = Gap count
item_of (stored.Mark label) = Mark label
