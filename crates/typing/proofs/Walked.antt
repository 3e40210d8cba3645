-- What typing a part of a text does to the tables, and that the part is given back from the tables at the
-- end.
use Rattle.typing.proofs.Prelude.{◌≡◌, ℕ, List, [], ◌++◌, map, Option, None, Some, option_map, slice_get, refl, sym, ap, ◌∙◌, option_map_or, unwrap_or, slice_get-map, map-append, append_assoc, append-nil, StatementTrees, Object, Procedure, Here, TypedObject, TypedProcedure, TypedModule, Constants, members_of, Progress, with_here, with_constants, plain_statements, untyped_list, AgreesOnObjects, AgreesOnProcedures, Agrees, HasLists}
use Rattle.typing.proofs.Kept.{Kept}
use Rattle.typing.proofs.Tables.{Fits, Keeps, entity_named}

abbrev pub object_names : List TypedObject → List (List ℕ)
object_names objects = map (λ (object : TypedObject). object.name) objects

abbrev pub procedure_names : List TypedProcedure → List (List ℕ)
procedure_names procedures = map (λ (procedure : TypedProcedure). procedure.name) procedures

-- at a place all names that are known are those of the tables so far
abbrev pub Holds : Progress → Type 0
Holds progress =
    Fits (object_names progress.known.objects) (procedure_names progress.known.procedures) progress.known.here

-- the tables at the end hold what the tables so far hold, but for what becomes known of procedures later
abbrev pub Reaches : TypedModule → Progress → Type 0
Reaches tables progress =
    Keeps progress.known.objects tables.objects
    × Keeps (procedure_names progress.known.procedures) (procedure_names tables.procedures)
    × HasLists tables progress.constants

-- what names stand for agrees with the tables at the end
mapped_or : {X Y : Type 0} (f : X → Y) (o : Option X) (y d : Y) → option_map f o ≡ Some y
    → option_map_or f o d ≡ y
mapped_or f None y d e = absurd cc
mapped_or f (Some x) y d e = cc

agrees_on_objects : (tables : TypedModule) (progress : Progress) → Holds progress → Reaches tables progress
    → AgreesOnObjects tables progress.known
agrees_on_objects tables progress holds reaches name number object is found =
    let name_of = λ (object : TypedObject). object.name in
    let its_name : slice_get (object_names progress.known.objects) number ≡ Some name =
    entity_named _ _ progress.known.here holds name (Object number) is in
    let same : option_map name_of (slice_get progress.known.objects number) ≡ Some name =
    sym (slice_get-map name_of progress.known.objects number) ∙ its_name in
    let at_last = reaches.0 number object found in (
      mapped_or name_of (slice_get tables.objects number) name []
          (ap (option_map name_of) at_last ∙ sym (ap (option_map name_of) found) ∙ same),
      ap (λ k. option_map_or (λ (found : TypedObject). unwrap_or (members_of found.object_type) []) k [])
          at_last,
    )

agrees_on_procedures : (tables : TypedModule) (progress : Progress) → Holds progress → Reaches tables progress
    → AgreesOnProcedures tables progress.known
agrees_on_procedures tables progress holds reaches name number procedure is found =
    let name_of = λ (procedure : TypedProcedure). procedure.name in
    let its_name : slice_get (procedure_names progress.known.procedures) number ≡ Some name =
    entity_named _ _ progress.known.here holds name (Procedure number) is in
    mapped_or name_of (slice_get tables.procedures number) name []
    (sym (slice_get-map name_of tables.procedures number) ∙ reaches.1 number name its_name)

pub agrees : (tables : TypedModule) (progress : Progress) → Holds progress → Reaches tables progress
    → Agrees tables progress.known
agrees tables progress holds reaches =
    (agrees_on_objects tables progress holds reaches, agrees_on_procedures tables progress holds reaches)

-- the bodies of procedures without their conversions
abbrev pub bodies_back : TypedModule → List TypedProcedure → List StatementTrees
bodies_back tables procedures =
    map (λ (procedure : TypedProcedure). untyped_list tables procedure.body) procedures

-- A part of a text is typed from one place to another. It keeps what holds and adds procedures, whose bodies
-- are given back as these texts, and of what it gives itself this holds.
pub record Walked (before after : Progress) (texts : List StatementTrees)
    (Back : TypedModule → Type 0) : Type 0 where
  pub holds : Holds after
  pub reaches : (tables : TypedModule) → Reaches tables after → Reaches tables before
  pub added : List TypedProcedure
  pub appended : after.known.procedures ≡ before.known.procedures ++ added
  pub bodies : (tables : TypedModule) → Reaches tables after
      → bodies_back tables added ≡ map plain_statements texts
  pub back : (tables : TypedModule) → Reaches tables after → Back tables

-- nothing but constants is new
pub walked_kept : (progress : Progress) {constants : Constants} {Back : TypedModule → Type 0}
    → Holds progress
    → Kept progress.known progress.constants constants Back
    → Walked progress (with_constants constants progress) [] Back
walked_kept progress {constants} holds kept = record {
  holds = holds;
  reaches = λ tables reaches.
      (reaches.0, reaches.1, λ number bytes e. reaches.2 number bytes (kept.grows number bytes e));
  added = [];
  appended = sym (append-nil progress.known.procedures);
  bodies = λ tables reaches. refl;
  back = λ tables reaches. kept.says tables
      (agrees tables (with_constants constants progress) holds reaches) reaches.2;
}

pub walked_nothing : (progress : Progress) {Back : TypedModule → Type 0}
    → Holds progress
    → ((tables : TypedModule) → Reaches tables progress → Back tables)
    → Walked progress progress [] Back
walked_nothing progress holds back = record {
  holds = holds;
  reaches = λ tables reaches. reaches;
  added = [];
  appended = sym (append-nil progress.known.procedures);
  bodies = λ tables reaches. refl;
  back = back;
}

-- one part after another
pub walked_then : {before between after : Progress} {first second : List StatementTrees}
    {One Other : TypedModule → Type 0}
    → Walked before between first One
    → Walked between after second Other
    → Walked before after (first ++ second) (λ tables. One tables × Other tables)
walked_then {before} {between} {after} {first} {second} one other = record {
  holds = other.holds;
  reaches = λ tables reaches. one.reaches tables (other.reaches tables reaches);
  added = one.added ++ other.added;
  appended = other.appended ∙ ap (λ k. k ++ other.added) one.appended
      ∙ append_assoc before.known.procedures one.added other.added;
  bodies = λ tables reaches.
      map-append (λ (procedure : TypedProcedure). untyped_list tables procedure.body) one.added other.added
      ∙ ap (λ k. k ++ bodies_back tables other.added) (one.bodies tables (other.reaches tables reaches))
      ∙ ap (λ k. map plain_statements first ++ k) (other.bodies tables reaches)
      ∙ sym (map-append plain_statements first second);
  back = λ tables reaches. (one.back tables (other.reaches tables reaches), other.back tables reaches);
}

pub walked_as : {before after : Progress} {texts : List StatementTrees} {One Other : TypedModule → Type 0}
    → Walked before after texts One
    → ((tables : TypedModule) → One tables → Other tables)
    → Walked before after texts Other
walked_as walked so = record {
  holds = walked.holds;
  reaches = walked.reaches;
  added = walked.added;
  appended = walked.appended;
  bodies = walked.bodies;
  back = λ tables reaches. so tables (walked.back tables reaches);
}

-- what names stand for changes before a part, or after it
pub walked_from : {before after : Progress} {texts : List StatementTrees}
    {Back : TypedModule → Type 0} {here : Here}
    → Walked (with_here here before) after texts Back
    → Walked before after texts Back
walked_from walked = record {
  holds = walked.holds;
  reaches = walked.reaches;
  added = walked.added;
  appended = walked.appended;
  bodies = walked.bodies;
  back = walked.back;
}

pub walked_to : {before after : Progress} {texts : List StatementTrees}
    {Back : TypedModule → Type 0} (here : Here)
    → (Holds after → Holds (with_here here after))
    → Walked before after texts Back
    → Walked before (with_here here after) texts Back
walked_to here kept walked = record {
  holds = kept walked.holds;
  reaches = walked.reaches;
  added = walked.added;
  appended = walked.appended;
  bodies = walked.bodies;
  back = walked.back;
}
