-- Worked objects, computed on the definitions: what each file spells, and what is written for each module.
use Rattle.std.specs.Prelude.{◌≡◌, Ok, refl}
use Rattle.omf80.specs.Records.{record_bytes, record_fault}
use Rattle.object_modules.specs.Reading.{part_in}
use Rattle.object_modules.specs.Rules.{fault_at}
use Rattle.object_modules.specs.Spelling.{module_of}
use Rattle.object_modules.specs.Text.{written_parts, text_of}
use Rattle.object_modules.specs.internal.Judgement.{parts_of, judgement_of}
use Rattle.object_modules.specs.internal.Objects.{object_a, object_b, merge_a_b, merge_b_a, object_c, object_d, merge_c_d, module_a, module_b, module_a_b, module_b_a, module_c, module_d, module_c_d}

-- what each file spells
pub a_is_read : judgement_of object_a ≡ Ok module_a
unfolding record_fault part_in fault_at module_of parts_of
a_is_read = refl

pub b_is_read : judgement_of object_b ≡ Ok module_b
unfolding record_fault part_in fault_at module_of parts_of
b_is_read = refl

pub a_b_is_read : judgement_of merge_a_b ≡ Ok module_a_b
unfolding record_fault part_in fault_at module_of parts_of
a_b_is_read = refl

pub b_a_is_read : judgement_of merge_b_a ≡ Ok module_b_a
unfolding record_fault part_in fault_at module_of parts_of
b_a_is_read = refl

pub c_is_read : judgement_of object_c ≡ Ok module_c
unfolding record_fault part_in fault_at module_of parts_of
c_is_read = refl

pub d_is_read : judgement_of object_d ≡ Ok module_d
unfolding record_fault part_in fault_at module_of parts_of
d_is_read = refl

pub c_d_is_read : judgement_of merge_c_d ≡ Ok module_c_d
unfolding record_fault part_in fault_at module_of parts_of
c_d_is_read = refl

-- what is written for each module
pub a_is_written : text_of module_a ≡ object_a
unfolding record_bytes written_parts
a_is_written = refl

pub b_is_written : text_of module_b ≡ object_b
unfolding record_bytes written_parts
b_is_written = refl

pub a_b_is_written : text_of module_a_b ≡ merge_a_b
unfolding record_bytes written_parts
a_b_is_written = refl

pub b_a_is_written : text_of module_b_a ≡ merge_b_a
unfolding record_bytes written_parts
b_a_is_written = refl

pub c_is_written : text_of module_c ≡ object_c
unfolding record_bytes written_parts
c_is_written = refl

pub d_is_written : text_of module_d ≡ object_d
unfolding record_bytes written_parts
d_is_written = refl

pub c_d_is_written : text_of module_c_d ≡ merge_c_d
unfolding record_bytes written_parts
c_d_is_written = refl
