-- Worked merges, computed on the definitions.
use Rattle.std.specs.Prelude.{◌≡◌, ℕ, List, [], ◌∷◌, map, replicate, codes, Option, Ok, Some, None, refl}
use Rattle.object_modules.specs.declared.segment.Alignment.TheVariants.{Byte}
use Rattle.object_modules.specs.declared.segment.Segment.{Segment}
use Rattle.object_modules.specs.declared.segment.Segment.TheVariants.{Absolute, Code}
use Rattle.object_modules.specs.declared.segment.FixKind.{FixKind}
use Rattle.object_modules.specs.declared.segment.FixKind.TheVariants.{Low, High, Both}
use Rattle.object_modules.specs.declared.segment.Target.TheVariants.{InSegment, External}
use Rattle.object_modules.specs.Module.{SetByte, ObjectModule}
use Rattle.object_modules.specs.Displacements.{starts_of, start_in}
use Rattle.object_modules.specs.Merge.{DuplicatePublic, UnresolvedExternal, SegmentTooLong, NotOneMain, HighByteMoves, link_refusal, merge_of}
use Rattle.object_modules.specs.internal.Objects.{set, fixed, code_module, module_a, module_b, module_a_b, module_b_a, module_c, module_d, module_d_anywhere, module_c_d, module_d_c}

pub a_and_b : merge_of (module_a ∷ module_b ∷ []) ≡ Ok module_a_b
unfolding link_refusal merge_of
a_and_b = refl

pub b_and_a : merge_of (module_b ∷ module_a ∷ []) ≡ Ok module_b_a
unfolding link_refusal merge_of
b_and_a = refl

pub c_and_d : merge_of (module_c ∷ module_d ∷ []) ≡ Ok module_c_d
unfolding link_refusal merge_of
c_and_d = refl

pub d_and_c : merge_of (module_d_anywhere ∷ module_c ∷ []) ≡ Ok module_d_c
unfolding link_refusal merge_of
d_and_c = refl

-- where the pieces begin
pub starts :
    map (λ number. start_in (starts_of (module_c ∷ module_d ∷ [])) number Code) (0 ∷ 1 ∷ []) ≡ 0 ∷ 256 ∷ []
starts = refl

-- places where nothing is set stay so
abbrev pub with_data : ObjectModule → List (Option SetByte) → ObjectModule
with_data object places = record object { data_places = record { alignment = Byte; places = places } }

abbrev pub main_with_data : ObjectModule
main_with_data = with_data (code_module (codes "M") [] (Some 0)) (set 1 ∷ None ∷ None ∷ set 2 ∷ [])

abbrev pub other_with_data : ObjectModule
other_with_data = with_data (code_module (codes "N") [] None) (set 3 ∷ [])

pub unset_places :
    merge_of (main_with_data ∷ other_with_data ∷ [])
    ≡ Ok (with_data main_with_data (set 1 ∷ None ∷ None ∷ set 2 ∷ set 3 ∷ []))
unfolding link_refusal merge_of
unset_places = refl

-- refusals
abbrev pub b_again : ObjectModule
b_again = record module_b { name = codes "E" }

pub duplicate_public :
    link_refusal (module_a ∷ module_b ∷ b_again ∷ []) ≡ Some (DuplicatePublic (codes "S"))
unfolding link_refusal
duplicate_public = refl

pub unresolved_external : link_refusal (module_a ∷ []) ≡ Some (UnresolvedExternal (codes "S"))
unfolding link_refusal
unresolved_external = refl

pub no_main : link_refusal (module_b ∷ []) ≡ Some NotOneMain
unfolding link_refusal
no_main = refl

pub nothing : link_refusal [] ≡ Some NotOneMain
unfolding link_refusal
nothing = refl

pub two_mains : link_refusal (main_with_data ∷ main_with_data ∷ []) ≡ Some NotOneMain
unfolding link_refusal
two_mains = refl

-- a high byte of an address that moves by 9, with D anywhere and after C
pub high_byte_moves : link_refusal (module_c ∷ module_d_anywhere ∷ []) ≡ Some HighByteMoves
unfolding link_refusal
high_byte_moves = refl

-- a segment of 65535 bytes, and of one more
abbrev pub long_main : ObjectModule
long_main = code_module (codes "M") (replicate 65535 None) (Some 0)

abbrev pub of_length : ℕ → ObjectModule
of_length count = code_module (codes "N") (replicate count None) None

pub longest_segment : link_refusal (long_main ∷ of_length 0 ∷ []) ≡ None
unfolding link_refusal
longest_segment = refl

pub segment_too_long : link_refusal (long_main ∷ of_length 1 ∷ []) ≡ Some SegmentTooLong
unfolding link_refusal
segment_too_long = refl

-- a module whose code is a byte or a word that is fixed to an external name
abbrev pub with_external : FixKind → List ℕ → ObjectModule
with_external kind name =
    record (code_module (codes "M") (fixed kind (External 0) 0xFF ∷ set 0xFF ∷ []) (Some 0)) { externals = name ∷ [] }

-- a module without bytes that has a public
abbrev pub with_public : Segment → ℕ → ObjectModule
with_public segment offset = record (code_module (codes "N") [] None) {
  publics = record { segment = segment; offset = offset; name = codes "P" } ∷ [];
}

-- a high byte fixed to an absolute public: it must be a multiple of 256
pub high_to_absolute :
    link_refusal (with_external High (codes "P") ∷ with_public Absolute 0x1234 ∷ []) ≡ Some HighByteMoves
unfolding link_refusal
high_to_absolute = refl

pub high_to_page :
    link_refusal (with_external High (codes "P") ∷ with_public Absolute 0x1200 ∷ []) ≡ None
unfolding link_refusal
high_to_page = refl

-- a word that is fixed to an absolute public is fixed no more, and wraps at 65536
pub absolute_word :
    merge_of (with_external Both (codes "P") ∷ with_public Absolute 2 ∷ [])
    ≡ Ok (record (code_module (codes "M") (set 1 ∷ set 0 ∷ []) (Some 0)) {
      publics = record { segment = Absolute; offset = 2; name = codes "P" } ∷ [];
    })
unfolding link_refusal merge_of
absolute_word = refl

-- a low byte wraps at 256, and stays fixed to the segment of the public
pub low_byte_wraps :
    merge_of (with_external Low (codes "P") ∷ with_public Code 0 ∷ [])
    ≡ Ok (record (code_module (codes "M") (fixed Low (InSegment Code) 1 ∷ set 0xFF ∷ []) (Some 0)) {
      publics = record { segment = Code; offset = 2; name = codes "P" } ∷ [];
    })
unfolding link_refusal merge_of
low_byte_wraps = refl

-- a public wraps at 65536
pub public_wraps :
    merge_of (code_module (codes "M") (set 1 ∷ set 2 ∷ []) (Some 0) ∷ with_public Code 65535 ∷ [])
    ≡ Ok (record (code_module (codes "M") (set 1 ∷ set 2 ∷ []) (Some 0)) {
      publics = record { segment = Code; offset = 1; name = codes "P" } ∷ [];
    })
unfolding link_refusal merge_of
public_wraps = refl

-- of several refusals the first in their order
pub public_before_external :
    link_refusal (module_a ∷ b_again ∷ b_again ∷ with_external Low (codes "Q") ∷ [])
    ≡ Some (DuplicatePublic (codes "S"))
unfolding link_refusal
public_before_external = refl

pub external_before_length :
    link_refusal (module_a ∷ long_main ∷ of_length 1 ∷ []) ≡ Some (UnresolvedExternal (codes "S"))
unfolding link_refusal
external_before_length = refl

abbrev pub with_stack : ℕ → ObjectModule
with_stack size = record (code_module (codes "N") [] None) { stack_length = size }

pub stacks_before_main :
    link_refusal (with_stack 65535 ∷ with_stack 1 ∷ []) ≡ Some SegmentTooLong
unfolding link_refusal
stacks_before_main = refl

pub main_before_high :
    link_refusal
    (with_external High (codes "P") ∷ with_public Absolute 0x1234 ∷ main_with_data ∷ []) ≡ Some NotOneMain
unfolding link_refusal
main_before_high = refl
