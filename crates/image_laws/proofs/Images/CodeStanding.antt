-- Code that was assembled stands in memory where its module is placed.
use Rattle.image_laws.proofs.Prelude.{◌≡◌, ℕ, ◌+◌, true, false, List, get_or, length, map, Option, refl, ap, sym, subst, ◌∙◌, arith, Segment, Absolute, Code, Data, Stack, Target, InSegment, Linked, linked_modules, Plan, SetByte, ObjectModule, holds_bytes, places_of, bytes_resolved, Assembled, Assembles, layout_at, resolved, set_bytes, code_places, Assembly, Stands, SetBytesStand, AssembledStands, CodeStands, HasSegment, ItemsOf, ItemsStand, addresses_of, retargeted, with_targets, ModuleStands, SegmentStands, address_of_target, piece_base}
use Rattle.asm8080.proofs.Segments.{places_length, set_length}
use Rattle.image_laws.proofs.Images.Objects.{objects_stand}
use Rattle.image_laws.proofs.Images.Retargeted.{resolved_retargeted}

-- each segment with bytes stands
of_module :
    (plan : Plan) (merged : ObjectModule) (before after : List ℕ) (linked : Linked) (segment : Segment)
    → holds_bytes segment ≡ true → ModuleStands plan merged before after linked
    → SegmentStands plan merged linked segment before after
of_module plan merged before after linked Absolute h is = absurd (let bad : false ≡ true = h in cc)
of_module plan merged before after linked Code h is = is.code
of_module plan merged before after linked Data h is = is.data_places
of_module plan merged before after linked Stack h is = absurd (let bad : false ≡ true = h in cc)

pub code_stands :
    (plan : Plan) (merged : ObjectModule) (before after : List ℕ) (linked : Linked) (segment : Segment)
    (to : Target → Target) (code : Assembled) → SegmentStands plan merged linked segment before after
    → HasSegment linked segment to code → CodeStands plan merged after linked segment to code
code_stands plan merged before after linked segment to code is has =
    let few : length (code_places (with_targets to code)) ≡ length (set_bytes code.bytes code.is_set) =
    places_length (map (retargeted to) code.fixes) 0 (set_bytes code.bytes code.is_set) in
    let bytes : length (set_bytes code.bytes code.is_set) ≡ length code.bytes =
    set_length code.bytes code.is_set in
    let size : length (places_of linked.object segment) ≡ length (code_places (with_targets to code)) =
    ap (λ (places : List (Option SetByte)). length places) has in
    let room = is.in_memory in
    let same =
    ap (bytes_resolved (address_of_target plan merged linked)) has
    ∙ resolved_retargeted to (address_of_target plan merged linked) code in
    record {
      in_memory = omega (arith, room, size, few, bytes);
      stands = subst (SetBytesStand after (piece_base plan linked.start segment)) same is.stands;
    }

pub code_items_stand :
    (plan : Plan) (merged : ObjectModule) (memory : List ℕ) (linked : Linked) (to : Target → Target)
    (assembly : Assembly) (code : Assembled) → to (InSegment Code) ≡ InSegment Code → Assembles assembly code
    → CodeStands plan merged memory linked Code to code → ItemsOf plan merged memory linked to assembly code
code_items_stand plan merged memory linked to assembly code own assembles is =
    let base : piece_base plan linked.start Code ≡ addresses_of plan merged linked to (InSegment Code) =
    sym (ap (address_of_target plan merged linked) own) in
    let P : ℕ → Type 0 = λ address.
    Stands (layout_at (addresses_of plan merged linked to) assembly) memory assembly.items address
    (address + length code.bytes) in
    let room = is.in_memory in
    subst P (sym base)
    (assembles.stands (addresses_of plan merged linked to) memory (omega (arith, room, base))
    (subst (λ address. SetBytesStand memory address (resolved (addresses_of plan merged linked to) code)) base
    is.stands))

pub assembled_stands : AssembledStands
assembled_stands objects merged plan image before after is k d h segment to code holds has =
    let linked : Linked = get_or (linked_modules objects) k d in
    code_stands plan merged before after linked segment to code
    (of_module plan merged before after linked segment holds
    (objects_stand objects merged plan image before after is k d h))
    has

pub items_stand : ItemsStand
items_stand objects merged plan image before after is k d h to assembly code own assembles has =
    code_items_stand plan merged after (get_or (linked_modules objects) k d) to assembly code own assembles
    (assembled_stands objects merged plan image before after is k d h Code to code refl has)
