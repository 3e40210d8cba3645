-- Planned steps one after another, and planned steps that depend on a test or on an optional value.
use Rattle.measure_laws.proofs.Prelude.{bound_after, bound_first, items_both, ◌≡◌, ℕ, ◌+◌, ◌≤◌, Bool, true, false, if◌then◌else◌, List, [], ◌∷◌, ◌++◌, Option, Some, None, refl, sym, ap, subst, ◌∙◌, append_assoc, arith, Item, size_of_items, size_in_parts, Facts, Body, Planned, Here, AreCarriedOut, ListCarriedOut, NoneCarriedOut, StatementCarriedOut, StepCarriedOut, NothingThere, BodyGround, ItemsMeasured, MayBind, MayGo, PlanMeasured, PlanBinds}
use Rattle.measure_laws.proofs.{Heights.Rooms.{room_joined}, Labels.Binding.{plan_bound}}

-- the code of steps with others after them
record Parted
    (body : Body) (called : List Bool) (here : Here) (waiting : Option Facts) (one other : List Planned)
    (list : List Item) (last : Here) : Type 0 where
  pub first : List Item
  pub more : List Item
  pub middle : Here
  pub waits : Option Facts
  pub begins : AreCarriedOut body called here waiting one first middle
  pub goes_on : AreCarriedOut body called middle waits other more last
  pub same : list ≡ first ++ more

further : (first : List Item) {more : List Item} (one other : List Item) → more ≡ one ++ other
    → first ++ more ≡ first ++ one ++ other
further first one other same =
    ap (λ (list : List Item). first ++ list) same ∙ sym (append_assoc first one other)

parted :
    {body : Body} {called : List Bool} (one other : List Planned)
    {here last : Here} {waiting : Option Facts} {list : List Item}
    → AreCarriedOut body called here waiting (one ++ other) list last
    → Parted body called here waiting one other list last
parted [] other {here = here} {waiting = waiting} {list = list} done = record {
  first = [];
  more = list;
  middle = here;
  waits = waiting;
  begins = NoneCarriedOut;
  goes_on = done;
  same = refl;
}
parted (step ∷ one) other (StepCarriedOut {first = first} ok written rest) =
    let after = parted one other rest in
    record {
      first = first ++ after.first;
      more = after.more;
      middle = after.middle;
      waits = after.waits;
      begins = StepCarriedOut ok written after.begins;
      goes_on = after.goes_on;
      same = further first after.first after.more after.same;
    }
parted (step ∷ one) other (StatementCarriedOut {first = first} done rest) =
    let after = parted one other rest in
    record {
      first = first ++ after.first;
      more = after.more;
      middle = after.middle;
      waits = after.waits;
      begins = StatementCarriedOut done after.begins;
      goes_on = after.goes_on;
      same = further first after.first after.more after.same;
    }
parted (step ∷ one) other (ListCarriedOut {first = first} done rest) =
    let after = parted one other rest in
    record {
      first = first ++ after.first;
      more = after.more;
      middle = after.middle;
      waits = after.waits;
      begins = ListCarriedOut done after.begins;
      goes_on = after.goes_on;
      same = further first after.first after.more after.same;
    }

-- items after others
pub items_then :
    {at : BodyGround} {free middle after least most : ℕ} (first more : List Item)
    → ItemsMeasured at free first middle least
    → ItemsMeasured at middle more after most
    → ItemsMeasured at free (first ++ more) after (least + most)
items_then {at = at} first more one other = record {
  room = λ p. room_joined (one.room p) (other.room p);
  small = λ c. omega (arith, size_in_parts first more, one.small c, other.small c);
  goes = λ c. items_both at.ok first more (one.goes c) (other.goes c);
}

-- they are also within more bytes
pub items_within :
    {at : BodyGround} {free after least most : ℕ} {list : List Item}
    → ItemsMeasured at free list after least
    → (at.counts → least ≤ most)
    → ItemsMeasured at free list after most
items_within is less =
    record { room = is.room; small = λ c. omega (arith, is.small c, less c); goes = is.goes }

-- no steps
pub no_size :
    {body : Body} {called : List Bool} {here last : Here} {waiting : Option Facts} {list : List Item}
    → AreCarriedOut body called here waiting [] list last
    → size_of_items list ≤ 0
no_size NoneCarriedOut = omega arith

pub none_measured :
    {at : BodyGround} {free most : ℕ} {here last : Here} {waiting : Option Facts} {list : List Item}
    → AreCarriedOut at.body at.called here waiting [] list last
    → ItemsMeasured at free list free most
none_measured NoneCarriedOut = record { room = λ p. NothingThere; small = λ c. omega arith; goes = λ c. tt }

pub none_fit : {at : BodyGround} {free most : ℕ} → PlanMeasured at free [] free most
none_fit = record { fits = λ done own. none_measured done }

-- steps after others
pub both_fit :
    {at : BodyGround} {free middle after least most : ℕ} {one other : List Planned}
    → PlanMeasured at free one middle least
    → PlanMeasured at middle other after most
    → PlanMeasured at free (one ++ other) after (least + most)
both_fit {at = at} {free = free} {after = after} {least = least} {most = most} {one = one} {other = other}
    first second = record {
      fits = λ done own.
          let parts = parted one other done in
          let bound : MayBind at (parts.first ++ parts.more) =
          subst (λ (list : List Item). MayBind at list) parts.same own in
          subst (λ (list : List Item). ItemsMeasured at free list after (least + most)) (sym parts.same)
          (items_then parts.first parts.more
          (first.fits parts.begins (λ label is. bound label (bound_first label parts.first parts.more is)))
          (second.fits parts.goes_on (λ label is. bound label (bound_after label parts.first parts.more is))));
    }

-- a step before others
pub then_fit :
    {at : BodyGround} {free middle after least most : ℕ} {step : Planned} {others : List Planned}
    → PlanMeasured at free (step ∷ []) middle least
    → PlanMeasured at middle others after most
    → PlanMeasured at free (step ∷ others) after (least + most)
then_fit first second = both_fit first second

-- they also fit within more bytes, if these are more where bytes count
pub less_if :
    {at : BodyGround} {free after least most : ℕ} {steps : List Planned}
    → PlanMeasured at free steps after least
    → (at.counts → least ≤ most)
    → PlanMeasured at free steps after most
less_if within less = record { fits = λ done own. items_within (within.fits done own) less }

pub less_fits :
    {at : BodyGround} {free after least most : ℕ} {steps : List Planned}
    → PlanMeasured at free steps after least
    → least ≤ most
    → PlanMeasured at free steps after most
less_fits within less = less_if within (λ c. less)

-- steps may refer to the labels that they bind
pub closed_fit :
    {at : BodyGround} {free after most : ℕ} {steps : List Planned}
    → (((label : ℕ) → PlanBinds label steps → MayGo at label) → PlanMeasured at free steps after most)
    → PlanMeasured at free steps after most
closed_fit given =
    record { fits = λ done own. (given (λ label bound. own label (plan_bound label done bound))).fits done own }

-- both branches of a test
pub either_fit :
    {at : BodyGround} {free after most : ℕ} {first second : List Planned} (b : Bool)
    → PlanMeasured at free first after most
    → PlanMeasured at free second after most
    → PlanMeasured at free (if b then first else second) after most
either_fit true one two = one
either_fit false one two = two

pub asking_fits :
    {at : BodyGround} {free after most : ℕ} {first second : List Planned} (b : Bool)
    → (b ≡ true → PlanMeasured at free first after most)
    → (b ≡ false → PlanMeasured at free second after most)
    → PlanMeasured at free (if b then first else second) after most
asking_fits true one two = one refl
asking_fits false one two = two refl

-- whether a value is found or not
pub finding_fits :
    {A : Type 0} {at : BodyGround} {free after most : ℕ} {some : A → List Planned}
    {none : List Planned} (found : Option A)
    → ((x : A) → found ≡ Some x → PlanMeasured at free (some x) after most)
    → PlanMeasured at free none after most
    → PlanMeasured at free (elim found [ Some x ↦ some x | None ↦ none ]) after most
finding_fits (Some x) one two = one x refl
finding_fits None one two = two
