-- The labels of a module lie where its object module has them, and those of procedures by their headings.
use Rattle.program_laws.proofs.Prelude.{◌≡◌, ◌≢◌, ℕ, ◌+◌, Bool, true, false, ◌||◌, List, ◌++◌, Some, None, refl, ap, sym, ◌∙◌, subst, arith, slice_get, unwrap_or, if◌then◌else◌, option_map_or, eq-eqb, lt-ltb, recursion_from_All, slice_get_within, Target, InSegment, ObjectModule, Visibility, TypedModule, TypedProcedure, Mark, place_of, KnowsLabels, Layout, is_bound, marks, offset_of, bound_in_parts, TreeProcedure, external_number, is_global_procedure, kind_of, some_within, Written, known_label, place_of_known, place_of_label, IsCodeOfMain, IsGenerated, IsMainCode, contents_items, has_main, module_layout, written_layout, IsSoundlyMade, or_left, or_right}
use Rattle.object_modules.specs.declared.segment.Segment.TheVariants as segments
use Rattle.typed_trees.specs.declared.parts.Visibility.TheVariants as visibilities
use Rattle.treecode.specs.declared.procedure.ProcedureKind.TheVariants as kinds
use Rattle.program_laws.proofs.Marks.{bound_label_small, label_known, procedures_bound}
use Rattle.program_laws.proofs.ModuleStands.{IsOwn}

-- a procedure whose kind is EXTERNAL is so, and its name is the one of that number
pub record IsExternal (typed : TypedModule) (number : ℕ) (heading : TypedProcedure) (name : ℕ) : Type 0 where
  pub visibility : heading.visibility ≡ visibilities.External
  pub name_is : unwrap_or (external_number typed (is_global_procedure number)) 0 ≡ name

pub external_kind :
    (typed : TypedModule) (number : ℕ) (heading : TypedProcedure) (name : ℕ)
    → kind_of typed number heading ≡ kinds.External name
    → IsExternal typed number heading name
external_kind typed number heading name is = by heading.visibility heading.is_reentrant refl is
  where
    by : (visibility : Visibility) (reentrant : Bool) → heading.visibility ≡ visibility
        → kind_of typed number (record heading { visibility = visibility; is_reentrant = reentrant })
        ≡ kinds.External name
        → IsExternal typed number heading name
    by visibilities.External reentrant same kind = record { visibility = same; name_is = cc }
    by visibilities.Private true same kind = absurd (cc)
    by visibilities.Private false same kind = absurd (cc)
    by visibilities.Public true same kind = absurd (cc)
    by visibilities.Public false same kind = absurd (cc)

-- a PUBLIC procedure has code of its own module
pub own_if_public :
    (typed : TypedModule) (number : ℕ) (heading : TypedProcedure)
    → heading.visibility ≡ visibilities.Public
    → IsOwn (kind_of typed number heading)
own_if_public typed number heading public name kind =
    let external = external_kind typed number heading name kind in
    let bad : visibilities.Public ≡ visibilities.External = sym public ∙ external.visibility in
    cc

-- one that is not EXTERNAL has code of its own module
pub own_if_here :
    (typed : TypedModule) (number : ℕ) (heading : TypedProcedure)
    → heading.visibility ≢ visibilities.External
    → IsOwn (kind_of typed number heading)
own_if_here typed number heading here name kind =
    here (external_kind typed number heading name kind).visibility

pub here_if_own :
    (typed : TypedModule) (number : ℕ) (heading : TypedProcedure)
    → IsOwn (kind_of typed number heading)
    → heading.visibility ≢ visibilities.External
here_if_own typed number heading own external =
    own (unwrap_or (external_number typed (is_global_procedure number)) 0)
    (ap (λ (visibility : Visibility). kind_of typed number (record heading { visibility = visibility }))
    external)

module _
    (typed : TypedModule) (object : ObjectModule) (sound : IsSoundlyMade typed object)
    (address_of : Target → ℕ) (address_of_name : (name : List ℕ) → ℕ)
  where
    abbrev generated : IsGenerated sound.made.tree object
    generated = sound.made.generated

    abbrev base : ℕ
    base = address_of (InSegment segments.Code)

    abbrev own : Layout
    own =
        module_layout address_of address_of_name sound.made.generated.to sound.made.generated.code
        sound.made.tree.externals.items

    -- a procedure of tree code and its heading
    pub record HasHeading (index : ℕ) (procedure : TreeProcedure) : Type 0 where
      pub heading : TypedProcedure
      pub found : slice_get typed.procedures index ≡ Some heading
      pub kind : procedure.kind ≡ kind_of typed index heading

    pub has_heading :
        (index : ℕ) (procedure : TreeProcedure)
        → slice_get sound.made.tree.procedures.items index ≡ Some procedure
        → HasHeading index procedure
    has_heading index procedure there =
        let within = slice_get_within sound.made.tree.procedures.items index procedure there in
        let count = sound.made.lowered.procedure_count in
        some_within typed.procedures index (omega (arith, within, count))
        (λ heading found. record {
          heading = heading;
          found = found;
          kind = (sound.made.lowered.procedures index procedure heading there found).kind;
        })

    -- what the module's own code binds lies where the code has it
    pub bound_lies :
        (label : ℕ)
        → is_bound label generated.code_is.own ≡ true
        → base + place_of_label generated.code generated.code_bytes label ≡ own.place_of label
    bound_lies label in_own =
        let written : Written = generated.code in
        let of = generated.code_is in
        let known = label_known written label of.own of.made of.same in_own in
        let in_code : is_bound known.number written.code.items ≡ true =
        subst (λ list. is_bound known.number list ≡ true) (sym of.items_are)
        (bound_in_parts known.number of.made of.listed
        ∙ or_left (is_bound known.number of.made) (is_bound known.number of.listed) known.bound) in
        let small = bound_label_small written.code.labels known.number written.code.items
        (recursion_from_All (KnowsLabels written.code.labels) written.code.items
        generated.code_segment.is_assembly.known) in_code in
        let place = place_of generated.code_bytes known.number in
        let by_label : place_of_label written generated.code_bytes label ≡ place =
        ap (λ one. place_of_known generated.code_bytes (known_label written.code.labels one)) known.entry_is
        ∙ ap (λ (test : Bool). place_of_known generated.code_bytes (if test then Some known.number else None))
        (lt-ltb known.number written.code.labels small) in
        let of_code : Layout = written_layout address_of generated.to written in
        let by_layout : own.place_of label ≡ base + place =
        ap (λ one. option_map_or of_code.place_of one 0) known.entry_is
        ∙ ap (λ start. start + unwrap_or (offset_of known.number written.code.items) 0)
        (ap address_of (generated.targets.starts segments.Code refl))
        ∙ ap (λ offset. base + unwrap_or offset 0)
        (generated.code_segment.assembles.places known.number small) in
        ap (λ offset. base + offset) by_label ∙ sym by_layout

    -- in two parts after the constants
    in_own_code :
        (label : ℕ)
        → (is_bound label generated.code_is.own_is.main || is_bound label generated.code_is.own_is.procedures)
        ≡ true
        → is_bound label generated.code_is.own ≡ true
    in_own_code label bound =
        let of = generated.code_is in
        subst (λ list. is_bound label list ≡ true) (sym of.own_is.list_is)
        (bound_in_parts label (contents_items sound.made.tree.constants.items)
        (of.own_is.main ++ of.own_is.procedures)
        ∙ or_right (is_bound label (contents_items sound.made.tree.constants.items))
        (is_bound label (of.own_is.main ++ of.own_is.procedures))
        (bound_in_parts label of.own_is.main of.own_is.procedures ∙ bound))

    pub label_lies :
        (index : ℕ) (procedure : TreeProcedure)
        → slice_get sound.made.tree.procedures.items index ≡ Some procedure
        → IsOwn procedure.kind
        → base + place_of_label generated.code generated.code_bytes index ≡ own.place_of index
    label_lies index procedure there is_own =
        let of = generated.code_is in
        let from_zero : 0 + index ≡ index = omega arith in
        bound_lies index
        (in_own_code index
        (or_right (is_bound index of.own_is.main) (is_bound index of.own_is.procedures)
        (ap (λ n. is_bound n of.own_is.procedures) (sym from_zero)
        ∙ procedures_bound sound.made.tree of.called 0 index sound.made.tree.procedures.items procedure
        of.own_is.procedures of.own_is.procedures_are there is_own)))

    -- and by its heading
    pub procedure_lies :
        (index : ℕ) (heading : TypedProcedure)
        → slice_get typed.procedures index ≡ Some heading
        → heading.visibility ≢ visibilities.External
        → base + place_of_label generated.code generated.code_bytes index ≡ own.place_of index
    procedure_lies index heading found here =
        let within = slice_get_within typed.procedures index heading found in
        let count = sound.made.lowered.procedure_count in
        some_within sound.made.tree.procedures.items index (omega (arith, within, count))
        (λ procedure there.
        label_lies index procedure there
        (subst IsOwn (sym ((sound.made.lowered.procedures index procedure heading there found).kind))
        (own_if_here typed index heading here)))

    -- the main program begins at its label
    pub start_lies :
        has_main sound.made.tree ≡ true
        → base + place_of_label generated.code generated.code_bytes generated.start_label
        ≡ own.place_of generated.start_label
    start_lies has =
        let of = generated.code_is in
        let start : ℕ = generated.start_label in
        let main : IsMainCode sound.made.tree of.called start of.own_is.main =
        subst (λ (there : Bool). IsCodeOfMain sound.made.tree of.called start there of.own_is.main) has
        of.own_is.main_is in
        bound_lies start
        (in_own_code start
        (or_left (is_bound start of.own_is.main) (is_bound start of.own_is.procedures)
        (subst (λ list. is_bound start list ≡ true) (sym main.list_is)
        (or_left (marks start (Mark start)) _ (eq-eqb start start refl)))))
