-- Parts of the text of a module.
use Rattle.std.specs.Prelude.{ℕ, List, ◌++◌, flat_map}
use Rattle.object_modules.specs.declared.segment.Segment.TheVariants.{Absolute, Code, Data}
use Rattle.object_modules.specs.Module.{Public, ObjectModule}
use Rattle.object_modules.specs.Parts.{part_bytes}
use Rattle.object_modules.specs.Text.{external_parts, public_parts, segment_parts}
use Rattle.object_writing.specs.internal.Contents.{end_text}

abbrev pub publics_text : List Public → List ℕ
publics_text publics =
    flat_map part_bytes (public_parts publics Absolute)
    ++ (flat_map part_bytes (public_parts publics Code) ++ flat_map part_bytes (public_parts publics Data))

abbrev pub names_text : ObjectModule → List ℕ
names_text object = flat_map part_bytes (external_parts object.externals) ++ publics_text object.publics

-- the contents and the end
abbrev pub rest_text : ObjectModule → List ℕ
rest_text object =
    flat_map part_bytes (segment_parts object Code)
    ++ (flat_map part_bytes (segment_parts object Data) ++ end_text object.start)
