-- What typing a part of a text adds to the tables: objects, of which parameters in frames are those of
-- procedures of the part or of the one that the part declares them for, and procedures, whose parameters fit
-- every table that goes on so.
use Rattle.typing.proofs.Prelude.{◌≡◌, ℕ, ◌+◌, ◌<◌, ◌≤◌, ◌⊎◌, inl, inr, true, List, [], ◌∷◌, ◌++◌, length, ap, sym, subst, ◌∙◌, append-nil, append_assoc, length-append, arith, AllByRecursion, enumerate_from, HasParameters, InFrame, TypedObject, TypedProcedure, TypedModule, OfProcedure, Owner, Progress, TheModule}

-- a parameter in the frames of a procedure
abbrev pub IsParameterOf : (number : ℕ) → TypedObject → Type 0
IsParameterOf number object = (object.home ≡ InFrame number) × (object.is_parameter ≡ true)

-- a new object is a parameter of a new procedure alone, or of one that may have more
abbrev pub IsNew : (may : ℕ → Type 0) → (low high : ℕ) → TypedObject → Type 0
IsNew may low high object =
    (number : ℕ) → IsParameterOf number object → ((low ≤ number) × (number < high)) ⊎ may number

-- an object is no parameter of procedures between these numbers
abbrev pub IsApart : (low high : ℕ) → TypedObject → Type 0
IsApart low high object = (number : ℕ) → IsParameterOf number object → (number < low) ⊎ (high ≤ number)

abbrev pub Numbered : TypedModule → ℕ × TypedProcedure → Type 0
Numbered tables numbered = HasParameters tables numbered.0 numbered.1

-- procedures whose parameters fit, whatever follows that is no parameter of theirs
abbrev pub FitOn : (low : ℕ) → List TypedObject → List TypedProcedure → Type 0
FitOn low objects procedures =
    (tables : TypedModule) (rest : List TypedObject)
    → tables.objects ≡ objects ++ rest
    → AllByRecursion (IsApart low (low + length procedures)) rest
    → AllByRecursion (Numbered tables) (enumerate_from low procedures)

-- no more parameters of any procedure
abbrev pub NoMore : ℕ → Type 0
NoMore number = ⊥

pub record Grown (may : ℕ → Type 0) (before after : Progress) : Type 0 where
  pub objects : List TypedObject
  pub grows : after.known.objects ≡ before.known.objects ++ objects
  pub procedures : List TypedProcedure
  pub adds : after.known.procedures ≡ before.known.procedures ++ procedures
  pub new : AllByRecursion
      (IsNew may (length before.known.procedures) (length before.known.procedures + length procedures))
      objects
  pub around : after.known.here.outer_bodies ≡ before.known.here.outer_bodies
  pub count : before.known.here.objects ≡ length before.known.objects
      → after.known.here.objects ≡ length after.known.objects
  pub fit : FitOn (length before.known.procedures) after.known.objects procedures

pub all_more : {X : Type 0} (P Q : X → Type 0) (all : List X) → ((x : X) → P x → Q x)
    → AllByRecursion P all → AllByRecursion Q all
all_more P Q [] more holds = tt
all_more P Q (x ∷ all) more holds = (more x holds.0, all_more P Q all more holds.1)

pub all_append : {X : Type 0} (P : X → Type 0) (one other : List X)
    → AllByRecursion P one → AllByRecursion P other → AllByRecursion P (one ++ other)
all_append P [] other first second = second
all_append P (x ∷ one) other first second = (first.0, all_append P one other first.1 second)

pub numbered_append : (tables : TypedModule) (number : ℕ) (one other : List TypedProcedure)
    → AllByRecursion (Numbered tables) (enumerate_from number one)
    → AllByRecursion (Numbered tables) (enumerate_from (number + length one) other)
    → AllByRecursion (Numbered tables) (enumerate_from number (one ++ other))
numbered_append tables number [] other first second =
    subst (λ (at : ℕ). AllByRecursion (Numbered tables) (enumerate_from at other)) (omega arith) second
numbered_append tables number (procedure ∷ one) other first second = (
  first.0,
  numbered_append tables (number + 1) one other first.1
      (subst (λ (at : ℕ). AllByRecursion (Numbered tables) (enumerate_from at other)) (omega arith) second),
)

-- nothing but what names stand for, and the constants, is new
pub grown_same : {may : ℕ → Type 0} (before after : Progress)
    → after.known.objects ≡ before.known.objects
    → after.known.procedures ≡ before.known.procedures
    → after.known.here.outer_bodies ≡ before.known.here.outer_bodies
    → after.known.here.objects ≡ before.known.here.objects
    → Grown may before after
grown_same before after objects procedures around count = record {
  objects = [];
  grows = objects ∙ sym (append-nil before.known.objects);
  procedures = [];
  adds = procedures ∙ sym (append-nil before.known.procedures);
  new = tt;
  around = around;
  count = λ is. count ∙ is ∙ sym (ap length objects);
  fit = λ tables rest same apart. tt;
}

-- one part after another, where those that may have more parameters are of before
pub grown_then : {may : ℕ → Type 0} {before between after : Progress}
    → ((number : ℕ) → may number → number < length before.known.procedures)
    → Grown may before between
    → Grown may between after
    → Grown may before after
grown_then {may} {before} {between} {after} below one other =
    let low : ℕ = length before.known.procedures in
    let middle : length between.known.procedures ≡ low + length one.procedures =
    ap length one.adds ∙ length-append before.known.procedures one.procedures in
    let total : length (one.procedures ++ other.procedures)
    ≡ length one.procedures + length other.procedures =
    length-append one.procedures other.procedures in
    record {
      objects = one.objects ++ other.objects;
      grows = other.grows
          ∙ ap (λ (all : List TypedObject). all ++ other.objects) one.grows
          ∙ append_assoc before.known.objects one.objects other.objects;
      procedures = one.procedures ++ other.procedures;
      adds = other.adds
          ∙ ap (λ (all : List TypedProcedure). all ++ other.procedures) one.adds
          ∙ append_assoc before.known.procedures one.procedures other.procedures;
      new = all_append
          (IsNew may low (low + length (one.procedures ++ other.procedures))) one.objects other.objects
          (all_more (IsNew may low (low + length one.procedures))
          (IsNew may low (low + length (one.procedures ++ other.procedures))) one.objects
          (λ object is number parameter.
          first low (low + length one.procedures) (low + length (one.procedures ++ other.procedures)) number
          (omega (arith, total)) (is number parameter))
          one.new)
          (all_more
          (IsNew may (length between.known.procedures)
          (length between.known.procedures + length other.procedures))
          (IsNew may low (low + length (one.procedures ++ other.procedures))) other.objects
          (λ object is number parameter.
          second low (length between.known.procedures)
          (length between.known.procedures + length other.procedures)
          (low + length (one.procedures ++ other.procedures)) number (omega (arith, middle))
          (omega (arith, middle, total)) (is number parameter))
          other.new);
      around = other.around ∙ one.around;
      count = λ is. other.count (one.count is);
      fit = λ tables rest same apart.
          numbered_append tables low one.procedures other.procedures
          (one.fit tables (other.objects ++ rest)
          (same ∙ ap (λ (all : List TypedObject). all ++ rest) other.grows
          ∙ append_assoc between.known.objects other.objects rest)
          (all_append (IsApart low (low + length one.procedures)) other.objects rest
          (all_more
          (IsNew may (length between.known.procedures)
          (length between.known.procedures + length other.procedures))
          (IsApart low (low + length one.procedures)) other.objects
          (λ object is number parameter.
          past low (low + length one.procedures) (length between.known.procedures)
          (length between.known.procedures + length other.procedures) number (omega (arith, middle))
          (is number parameter))
          other.new)
          (all_more (IsApart low (low + length (one.procedures ++ other.procedures)))
          (IsApart low (low + length one.procedures)) rest
          (λ object is number parameter.
          within low (low + length one.procedures) (low + length (one.procedures ++ other.procedures)) number
          (omega (arith, total)) (is number parameter))
          apart)))
          (subst (λ (at : ℕ). AllByRecursion (Numbered tables) (enumerate_from at other.procedures)) middle
          (other.fit tables rest same
          (all_more (IsApart low (low + length (one.procedures ++ other.procedures)))
          (IsApart (length between.known.procedures)
          (length between.known.procedures + length other.procedures)) rest
          (λ object is number parameter.
          later low (length between.known.procedures) (low + length (one.procedures ++ other.procedures))
          (length between.known.procedures + length other.procedures) number (omega (arith, middle))
          (omega (arith, middle, total)) (is number parameter))
          apart)));
    }
  where
    first : (low middle high number : ℕ) → middle ≤ high
        → ((low ≤ number) × (number < middle)) ⊎ may number
        → ((low ≤ number) × (number < high)) ⊎ may number
    first low middle high number le (inl is) = inl (is.0, omega (arith, le, is.1))
    first low middle high number le (inr is) = inr is

    second : (low middle end high number : ℕ) → low ≤ middle → end ≤ high
        → ((middle ≤ number) × (number < end)) ⊎ may number
        → ((low ≤ number) × (number < high)) ⊎ may number
    second low middle end high number ge le (inl is) = inl (omega (arith, ge, is.0), omega (arith, le, is.1))
    second low middle end high number ge le (inr is) = inr is

    past : (low high middle end number : ℕ) → high ≤ middle
        → ((middle ≤ number) × (number < end)) ⊎ may number
        → (number < length before.known.procedures) ⊎ (high ≤ number)
    past low high middle end number le (inl is) = inr (omega (arith, le, is.0))
    past low high middle end number le (inr is) = inl (below number is)

    within : (low middle high number : ℕ) → middle ≤ high
        → (number < low) ⊎ (high ≤ number)
        → (number < low) ⊎ (middle ≤ number)
    within low middle high number le (inl is) = inl is
    within low middle high number le (inr is) = inr (omega (arith, le, is))

    later : (low middle high end number : ℕ) → low ≤ middle → end ≤ high
        → (number < low) ⊎ (high ≤ number)
        → (number < middle) ⊎ (end ≤ number)
    later low middle high end number ge le (inl is) = inl (omega (arith, ge, is))
    later low middle high end number ge le (inr is) = inr (omega (arith, le, is))

-- more procedures may have more parameters
pub grown_more : {one other : ℕ → Type 0} {before after : Progress}
    → ((number : ℕ) → one number → other number)
    → Grown one before after
    → Grown other before after
grown_more {one} {other} {before} {after} more grown =
    let low : ℕ = length before.known.procedures in
    record {
      objects = grown.objects;
      grows = grown.grows;
      procedures = grown.procedures;
      adds = grown.adds;
      new = all_more (IsNew one low (low + length grown.procedures))
          (IsNew other low (low + length grown.procedures)) grown.objects
          (λ object is number parameter. by number (is number parameter)) grown.new;
      around = grown.around;
      count = grown.count;
      fit = grown.fit;
    }
  where
    by : (number : ℕ)
        → ((length before.known.procedures ≤ number)
        × (number < length before.known.procedures + length grown.procedures)) ⊎ one number
        → ((length before.known.procedures ≤ number)
        × (number < length before.known.procedures + length grown.procedures)) ⊎ other number
    by number (inl is) = inl is
    by number (inr is) = inr (more number is)

-- what names stand for changes before a part, or after it
pub grown_between : {may : ℕ → Type 0} {before after : Progress} (first last : Progress)
    → before.known.objects ≡ first.known.objects
    → before.known.procedures ≡ first.known.procedures
    → before.known.here.outer_bodies ≡ first.known.here.outer_bodies
    → before.known.here.objects ≡ first.known.here.objects
    → last.known.objects ≡ after.known.objects
    → last.known.procedures ≡ after.known.procedures
    → last.known.here.outer_bodies ≡ after.known.here.outer_bodies
    → last.known.here.objects ≡ after.known.here.objects
    → ((number : ℕ) → may number → number < length before.known.procedures)
    → Grown may before after
    → Grown may first last
grown_between {may} {before} {after} first last objects procedures around count
    later_objects later_procedures later_around later_count below grown =
    let counted : length first.known.procedures ≡ length before.known.procedures =
    sym (ap length procedures) in
    grown_then
    (λ number is. subst (λ (limit : ℕ). number < limit) (sym counted) (below number is))
    (grown_same first before objects procedures around count)
    (grown_then below grown (grown_same after last later_objects later_procedures later_around later_count))

-- a place of a text: its objects are counted, frames are those of procedures so far, and so is its own
-- procedure
abbrev pub IsBelow : (count : ℕ) → TypedObject → Type 0
IsBelow count object = (number : ℕ) → IsParameterOf number object → number < count

abbrev pub OwnerStands : Owner → (count : ℕ) → Type 0
OwnerStands TheModule count = Unit {0}
OwnerStands (OfProcedure number heading) count = number < count

pub record Standing (owner : Owner) (progress : Progress) : Type 0 where
  pub count : progress.known.here.objects ≡ length progress.known.objects
  pub below : AllByRecursion (IsBelow (length progress.known.procedures)) progress.known.objects
  pub own : OwnerStands owner (length progress.known.procedures)

owner_later : (owner : Owner) (one other : ℕ) → one ≤ other → OwnerStands owner one → OwnerStands owner other
owner_later TheModule one other le stands = tt
owner_later (OfProcedure number heading) one other le stands = omega (arith, le, stands)

pub standing_after : {owner : Owner} {may : ℕ → Type 0} {before after : Progress}
    → ((number : ℕ) → may number → number < length before.known.procedures)
    → Standing owner before
    → Grown may before after
    → Standing owner after
standing_after {owner} {may} {before} {after} below stands grown =
    let low : ℕ = length before.known.procedures in
    let high : length after.known.procedures ≡ low + length grown.procedures =
    ap length grown.adds ∙ length-append before.known.procedures grown.procedures in
    record {
      count = grown.count stands.count;
      below = subst (AllByRecursion (IsBelow (length after.known.procedures))) (sym grown.grows)
          (all_append (IsBelow (length after.known.procedures)) before.known.objects grown.objects
          (all_more (IsBelow low) (IsBelow (length after.known.procedures)) before.known.objects
          (λ object is number parameter.
          further low (length after.known.procedures) number (omega (arith, high))
          (is number parameter)) stands.below)
          (all_more (IsNew may low (low + length grown.procedures)) (IsBelow (length after.known.procedures))
          grown.objects
          (λ object is number parameter. by number (omega (arith, high)) (omega (arith, high))
          (is number parameter))
          grown.new));
      own = owner_later owner low (length after.known.procedures) (omega (arith, high)) stands.own;
    }
  where
    further : (low high number : ℕ) → low ≤ high → number < low → number < high
    further low high number le is = omega (arith, le, is)

    by : (number : ℕ)
        → length before.known.procedures ≤ length after.known.procedures
        → length before.known.procedures + length grown.procedures ≤ length after.known.procedures
        → ((length before.known.procedures ≤ number)
        × (number < length before.known.procedures + length grown.procedures)) ⊎ may number
        → number < length after.known.procedures
    by number le high (inl is) = omega (arith, high, is.1)
    by number le high (inr is) =
        further (length before.known.procedures) (length after.known.procedures) number le (below number is)
