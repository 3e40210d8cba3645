-- What typing a part of a text adds, and what the types of the part say of every module that holds what is
-- known at its end.
use Rattle.typing.proofs.Prelude.{◌≡◌, ℕ, ◌+◌, ◌≤◌, List, [], ◌∷◌, ◌++◌, length, Some, slice_get, slice_set, refl, sym, ap, ◌∙◌, subst, append_assoc, append-nil, length-append, arith, AllByRecursion, enumerate_from, map-append, set-append_seam, Here, TypedProcedure, TypedModule, Constants, TypesHoldInProcedure, Owner, Progress, with_here, with_constants}
use Rattle.typing.proofs.Tables.{Keeps, keeps_append}
use Rattle.typing.proofs.Types.TypesKept.{Heading, heading_of, headings, Has, HasLists, Holding}
use Rattle.typing.proofs.SeenNames.{Stands}
use Rattle.typing.proofs.GlobalsListed.{ListedAt}
use Rattle.typing.proofs.Types.FramesSummed.{SummedAt}

-- a place of a text: names are seen, globals are listed, and frames are summed
abbrev pub StandsAt : Owner → Progress → Type 0
StandsAt owner progress =
    Stands owner progress.known.objects progress.known.here × ListedAt progress × SummedAt owner progress

-- a module that holds what is typed so far
abbrev pub Reaches : TypedModule → Progress → Type 0
Reaches tables progress = Has tables progress.known × HasLists tables progress.constants

-- procedures that are numbered from one on
abbrev pub AllHold : TypedModule → (number : ℕ) → List TypedProcedure → Type 0
AllHold tables number procedures =
    AllByRecursion (TypesHoldInProcedure tables) (enumerate_from number procedures)

all_hold-append : (tables : TypedModule) (number : ℕ) (one other : List TypedProcedure)
    → AllHold tables number one → AllHold tables (number + length one) other
    → AllHold tables number (one ++ other)
all_hold-append tables number [] other first second =
    subst (λ (at : ℕ). AllHold tables at other) (omega arith) second
all_hold-append tables number (procedure ∷ one) other first second = (
  first.0,
  all_hold-append tables (number + 1) one other first.1
      (subst (λ (at : ℕ). AllHold tables at other) (omega arith) second),
)

-- A part of a text is typed from one place to another: what is known grows, and the procedures in it hold.
pub record Goes (owner : Owner) (before after : Progress) (Says : TypedModule → Type 0) : Type 0 where
  pub stands : StandsAt owner after
  pub around : after.known.here.outer_bodies ≡ before.known.here.outer_bodies
  pub objects : Keeps before.known.objects after.known.objects
  pub added : List TypedProcedure
  pub appended : after.known.procedures ≡ before.known.procedures ++ added
  pub lists : length before.constants.lists ≤ length after.constants.lists
  pub bodies : (tables : TypedModule) → Reaches tables after
      → AllHold tables (length before.known.procedures) added
  pub says : (tables : TypedModule) → Reaches tables after → Says tables

pub headings-append : (procedures more : List TypedProcedure)
    → headings (procedures ++ more) ≡ headings procedures ++ headings more
headings-append procedures more = map-append heading_of procedures more

pub reached : {owner : Owner} {before after : Progress} {Says : TypedModule → Type 0} (tables : TypedModule)
    → Goes owner before after Says → Reaches tables after → Reaches tables before
reached {owner} {before} {after} tables goes reaches =
    let more : headings after.known.procedures ≡ headings before.known.procedures ++ headings goes.added =
    ap headings goes.appended ∙ headings-append before.known.procedures goes.added in (
      (
        λ number object e. reaches.0.0 number object (goes.objects number object e),
        λ number heading e. reaches.0.1 number heading
            (subst (λ all. slice_get all number ≡ Some heading) (sym more)
            (keeps_append (headings before.known.procedures) (headings goes.added) number heading e)),
      ),
      omega (arith, goes.lists, reaches.1),
    )

-- nothing is new
pub goes_nowhere : {owner : Owner} (progress : Progress) {Says : TypedModule → Type 0}
    → StandsAt owner progress
    → ((tables : TypedModule) → Reaches tables progress → Says tables)
    → Goes owner progress progress Says
goes_nowhere progress stands says = record {
  stands = stands;
  around = refl;
  objects = λ number object e. e;
  added = [];
  appended = sym (append-nil progress.known.procedures);
  lists = omega arith;
  bodies = λ tables reaches. tt;
  says = says;
}

-- nothing but constants is new
pub goes_holding : {owner : Owner} (progress : Progress) {constants : Constants} {Says : TypedModule → Type 0}
    → StandsAt owner progress
    → Holding progress.known progress.constants constants Says
    → Goes owner progress (with_constants constants progress) Says
goes_holding progress stands holding = record {
  stands = stands;
  around = refl;
  objects = λ number object e. e;
  added = [];
  appended = sym (append-nil progress.known.procedures);
  lists = holding.grows;
  bodies = λ tables reaches. tt;
  says = λ tables reaches. holding.says tables reaches.0 reaches.1;
}

-- one part after another
pub goes_then : {owner : Owner} {before between after : Progress} {One Other : TypedModule → Type 0}
    → Goes owner before between One
    → Goes owner between after Other
    → Goes owner before after (λ tables. One tables × Other tables)
goes_then {before} {between} {after} one other =
    let numbered : length between.known.procedures ≡ length before.known.procedures + length one.added =
    ap length one.appended ∙ length-append before.known.procedures one.added in
    record {
      stands = other.stands;
      around = other.around ∙ one.around;
      objects = λ number object e. other.objects number object (one.objects number object e);
      added = one.added ++ other.added;
      appended = other.appended ∙ ap (λ k. k ++ other.added) one.appended
          ∙ append_assoc before.known.procedures one.added other.added;
      lists = omega (arith, one.lists, other.lists);
      bodies = λ tables reaches.
          all_hold-append tables (length before.known.procedures) one.added other.added
          (one.bodies tables (reached tables other reaches))
          (subst (λ (at : ℕ). AllHold tables at other.added) numbered (other.bodies tables reaches));
      says = λ tables reaches. (one.says tables (reached tables other reaches), other.says tables reaches);
    }

pub goes_as : {owner : Owner} {before after : Progress} {One Other : TypedModule → Type 0}
    → Goes owner before after One
    → ((tables : TypedModule) → One tables → Other tables)
    → Goes owner before after Other
goes_as goes so = record {
  stands = goes.stands;
  around = goes.around;
  objects = goes.objects;
  added = goes.added;
  appended = goes.appended;
  lists = goes.lists;
  bodies = goes.bodies;
  says = λ tables reaches. so tables (goes.says tables reaches);
}

-- what names stand for changes before a part, or after it
pub goes_from : {owner : Owner} {before after : Progress} {Says : TypedModule → Type 0} {here : Here}
    → here.outer_bodies ≡ before.known.here.outer_bodies
    → Goes owner (with_here here before) after Says
    → Goes owner before after Says
goes_from same goes = record {
  stands = goes.stands;
  around = goes.around ∙ same;
  objects = goes.objects;
  added = goes.added;
  appended = goes.appended;
  lists = goes.lists;
  bodies = goes.bodies;
  says = goes.says;
}

pub goes_to : {owner : Owner} {before after : Progress} {Says : TypedModule → Type 0} (here : Here)
    → here.outer_bodies ≡ after.known.here.outer_bodies
    → Stands owner after.known.objects here
    → Goes owner before after Says
    → Goes owner before (with_here here after) Says
goes_to here same stands goes = record {
  stands = (stands, goes.stands.1, goes.stands.2);
  around = same ∙ goes.around;
  objects = goes.objects;
  added = goes.added;
  appended = goes.appended;
  lists = goes.lists;
  bodies = goes.bodies;
  says = goes.says;
}

-- at its end the entry of a procedure takes the place of the one of its heading, and nothing else in the
-- table changes
pub closed_table : (before : List TypedProcedure) (first last : TypedProcedure)
    (added table : List TypedProcedure)
    → table ≡ (before ++ first ∷ []) ++ added
    → slice_set table (length before) last ≡ before ++ last ∷ added
closed_table before first last added table is =
    ap (λ k. slice_set k (length before) last) (is ∙ append_assoc before (first ∷ []) added)
    ∙ set-append_seam before first added last

pub same_headings : (before : List TypedProcedure) (first last : TypedProcedure)
    (added table : List TypedProcedure)
    → heading_of first ≡ heading_of last
    → table ≡ (before ++ first ∷ []) ++ added
    → headings (slice_set table (length before) last) ≡ headings table
same_headings before first last added table same is =
    ap headings (closed_table before first last added table is)
    ∙ headings-append before (last ∷ added)
    ∙ ap (λ (k : Heading). headings before ++ k ∷ headings added) (sym same)
    ∙ sym (headings-append before (first ∷ added))
    ∙ ap headings (sym (is ∙ append_assoc before (first ∷ []) added))
