-- At each place of a text the objects that names stand for can be referred to from there.
use Rattle.typing.proofs.Prelude.{◌≡◌, ℕ, ◌+◌, ◌<◌, ◌≤◌, Bool, true, false, List, [], ◌∷◌, length, Option, slice_get, refl, sym, subst, if◌then◌else◌, arith, IsSomeAnd, is_some, not, ◌||◌, ScalarType, HeadingTree, Identifier, Entity, Object, Procedure, Label, Definition, Here, Body, into_block, out_of_block, into_body, out_of_body, after_body, into_list, out_of_list, with_object, with_procedure, with_definition, with_parameter, with_label, is_declared_again, is_parameter_again, is_label_again, Home, InData, InConstants, Placed, BasedOn, Elsewhere, Nowhere, InFrame, TypedObject, TypedModule, Within, WithinProcedure, WithinMain, LiesFor, IsSeen, DeclaredTwice, ExternalContents, require, Known, place_of, Owner, TheModule, OfProcedure, Block, is_external, is_reentrant, declares_parameter, declare_names, declare_labels, declare_parameters}
use Rattle.typing.proofs.Kept.{Gives, then_more, gives_ok, gives_after}
use Rattle.typing.proofs.Tables.{Implies, BodyFits, BodiesFit, entity_known, body_weaker, bodies_weaker, names_with-fit, numbered-fit, after_block-fits, after_list-fits, Keeps}
use Rattle.typing.proofs.Types.TypesKept.{and_more}
use Rattle.typing.proofs.Types.TypesOfReferences.{Sees}

-- what a block's statements stand in; and from where its names are seen, which is the main program where
-- there is no frame
abbrev pub within_of : Owner → Within
within_of TheModule = WithinMain
within_of (OfProcedure number heading) = WithinProcedure number heading.result

abbrev pub names_within : Owner → Within
names_within TheModule = WithinMain
names_within (OfProcedure number heading) =
    if is_some heading.reentrant then WithinProcedure number heading.result else WithinMain

-- what lies for the main program lies for all
pub lies_for_all : (within : Within) (home : Home) → LiesFor WithinMain home → LiesFor within home
lies_for_all (WithinProcedure number result) (InData values) lies = tt
lies_for_all (WithinProcedure number result) (InConstants values) lies = tt
lies_for_all (WithinProcedure number result) (Placed at) lies = tt
lies_for_all (WithinProcedure number result) (BasedOn base) lies = absurd lies
lies_for_all (WithinProcedure number result) Elsewhere lies = tt
lies_for_all (WithinProcedure number result) Nowhere lies = absurd lies
lies_for_all (WithinProcedure number result) (InFrame procedure) lies = absurd lies
lies_for_all WithinMain home lies = lies

seen_more : (tables : TypedModule) (one other : Within) (home : Home)
    → ((home : Home) → LiesFor one home → LiesFor other home)
    → IsSeen tables one home → IsSeen tables other home
seen_more tables one other (BasedOn base) more seen =
    and_more _ _ (slice_get tables.objects base) (λ object is. (is.0, more object.home is.1)) seen
seen_more tables one other (InData values) more seen = more (InData values) seen
seen_more tables one other (InConstants values) more seen = more (InConstants values) seen
seen_more tables one other (Placed at) more seen = more (Placed at) seen
seen_more tables one other Elsewhere more seen = more Elsewhere seen
seen_more tables one other Nowhere more seen = more Nowhere seen
seen_more tables one other (InFrame procedure) more seen = more (InFrame procedure) seen

pub seen_by_all : (tables : TypedModule) (within : Within) (home : Home)
    → IsSeen tables WithinMain home → IsSeen tables within home
seen_by_all tables within home seen = seen_more tables WithinMain within home (lies_for_all within) seen

names_lie : (owner : Owner) (home : Home) → LiesFor (names_within owner) home → LiesFor (within_of owner) home
names_lie TheModule home lies = lies
names_lie (OfProcedure number heading) home lies = go (is_some heading.reentrant) lies
  where
    go : (in_frame : Bool)
        → LiesFor (if in_frame then WithinProcedure number heading.result else WithinMain) home
        → LiesFor (WithinProcedure number heading.result) home
    go true lies = lies
    go false lies = lies_for_all (WithinProcedure number heading.result) home lies

-- what a name stands for is an object that is seen
abbrev pub IsSeenIn : Within → List TypedObject → Entity → List ℕ → Type 0
IsSeenIn within objects (Object number) name =
    (tables : TypedModule) → Keeps objects tables.objects
    → IsSomeAnd (slice_get tables.objects number) (λ (object : TypedObject). IsSeen tables within object.home)
IsSeenIn within objects (Procedure number) name = Unit {0}
IsSeenIn within objects (Label number) name = Unit {0}
IsSeenIn within objects Definition name = Unit {0}

-- a place of a text: its objects are counted, and names are seen in its body and in those around it
pub record Stands (owner : Owner) (objects : List TypedObject) (here : Here) : Type 0 where
  pub count : here.objects ≡ length objects
  pub inside : is_external owner ≡ false → BodyFits (IsSeenIn (names_within owner) objects) here.body
  pub outside : BodiesFit (IsSeenIn WithinMain objects) here.outer_bodies

seen_weaker : (one other : Within) (before after : List TypedObject) → Keeps before after
    → ((home : Home) → LiesFor one home → LiesFor other home)
    → Implies (IsSeenIn one before) (IsSeenIn other after)
seen_weaker one other before after grow more (Object number) name seen =
    λ tables keeps. and_more _ _ (slice_get tables.objects number)
    (λ object is. seen_more tables one other object.home more is)
    (seen tables (λ at x e. keeps at x (grow at x e)))
seen_weaker one other before after grow more (Procedure number) name seen = tt
seen_weaker one other before after grow more (Label number) name seen = tt
seen_weaker one other before after grow more Definition name seen = tt

-- names as they are looked up in what is known there
pub sees_names : (owner : Owner) (known : Known) → Stands owner known.objects known.here
    → is_external owner ≡ false
    → Sees (names_within owner) known
sees_names owner known stands is_here name number e =
    entity_known (IsSeenIn (names_within owner) known.objects) (IsSeenIn WithinMain known.objects) known.here
    (stands.inside is_here) stands.outside
    (seen_weaker WithinMain (names_within owner) known.objects known.objects (λ at x e. e)
    (lies_for_all (names_within owner))) name (Object number) e

pub sees_within : (owner : Owner) (known : Known) → Stands owner known.objects known.here
    → is_external owner ≡ false
    → Sees (within_of owner) known
sees_within owner known stands is_here name number e tables keeps =
    and_more _ _ (slice_get tables.objects number)
    (λ object seen. seen_more tables (names_within owner) (within_of owner) object.home
    (names_lie owner) seen)
    (sees_names owner known stands is_here name number e tables keeps)

-- into parts of a body and out of them
module _ {owner : Owner} {objects : List TypedObject} {here : Here} (stands : Stands owner objects here) where
  abbrev Seen : Entity → List ℕ → Type 0
  Seen = IsSeenIn (names_within owner) objects

  pub into_block-stands : Stands owner objects (into_block here)
  into_block-stands = record {
    count = stands.count;
    inside = λ is_here.
        let body = stands.inside is_here in
        (tt, (body.0, body.1), body.2);
    outside = stands.outside;
  }

  pub out_of_block-stands : Stands owner objects (out_of_block here)
  out_of_block-stands = record {
    count = stands.count;
    inside = λ is_here.
        let body = stands.inside is_here in
        after_block-fits Seen here.body.outer_blocks here.body body.1 body;
    outside = stands.outside;
  }

  pub into_list-stands : (labels : List Identifier) → Stands owner objects (into_list labels here)
  into_list-stands labels = record {
    count = stands.count;
    inside = λ is_here.
        let body = stands.inside is_here in
        (body.0, body.1, (numbered-fit Seen (λ number name. tt) here.labels labels [] tt, body.2));
    outside = stands.outside;
  }

  pub out_of_list-stands : Stands owner objects (out_of_list here)
  out_of_list-stands = record {
    count = stands.count;
    inside = λ is_here.
        let body = stands.inside is_here in
        (body.0, body.1, after_list-fits Seen here.body.lists body.2);
    outside = stands.outside;
  }

  pub with_label-stands : (name : List ℕ) → Stands owner objects (with_label name here)
  with_label-stands name = record { count = stands.count; inside = stands.inside; outside = stands.outside }

  pub with_parameter-stands : (name : List ℕ) → Stands owner objects (with_parameter name here)
  with_parameter-stands name =
      record { count = stands.count; inside = stands.inside; outside = stands.outside }

  pub with_definition-stands : (name : List ℕ) → Stands owner objects (with_definition name here)
  with_definition-stands name = record {
    count = stands.count;
    inside = λ is_here.
        let body = stands.inside is_here in
        (names_with-fit Seen name Definition tt here.body.block body.0, body.1, body.2);
    outside = stands.outside;
  }

  pub with_procedure-stands : (name : List ℕ) → Stands owner objects (with_procedure name here)
  with_procedure-stands name = record {
    count = stands.count;
    inside = λ is_here.
        let body = stands.inside is_here in
        (names_with-fit Seen name (Procedure here.procedures) tt here.body.block body.0, body.1, body.2);
    outside = stands.outside;
  }

-- labels that are declared
pub declare_labels-stand : {owner : Owner} {objects : List TypedObject}
    (labels : List Identifier) (here : Here)
    → Stands owner objects here → Gives
    (λ after. Stands owner objects after × (after.outer_bodies ≡ here.outer_bodies))
    (declare_labels labels here)
declare_labels-stand [] here stands = gives_ok (stands, refl)
declare_labels-stand (label ∷ others) here stands =
    gives_after (require (not (is_label_again here label.name)) DeclaredTwice (place_of label)) λ once.
    declare_labels-stand others (with_label label.name here) (with_label-stands stands label.name)

-- into the body of a procedure: what is around it has no frame
pub into_body-stands : {owner : Owner} {objects : List TypedObject} {here : Here} (number : ℕ)
    (heading : HeadingTree)
    → is_reentrant owner ≡ false → is_external owner ≡ false → Stands owner objects here
    → Stands (OfProcedure number heading) objects (into_body here)
into_body-stands {owner} {objects} {here} number heading no_frame is_here stands = record {
  count = stands.count;
  inside = λ _. (tt, tt, tt);
  outside = (
    body_weaker (IsSeenIn (names_within owner) objects) (IsSeenIn WithinMain objects)
        (seen_weaker (names_within owner) WithinMain objects objects (λ at x e. e)
        (in_no_frame owner no_frame))
        here.body (stands.inside is_here),
    stands.outside,
  );
}
  where
    by : (number : ℕ) (result : Option ScalarType) (home : Home) (in_frame : Bool) → in_frame ≡ false
        → LiesFor (if in_frame then WithinProcedure number result else WithinMain) home
        → LiesFor WithinMain home
    by number result home true is lies = absurd cc
    by number result home false is lies = lies

    in_no_frame : (owner : Owner) → is_reentrant owner ≡ false → (home : Home)
        → LiesFor (names_within owner) home → LiesFor WithinMain home
    in_no_frame TheModule is home lies = lies
    in_no_frame (OfProcedure number heading) is home lies =
        by number heading.result home (is_some heading.reentrant) is lies

pub declare_parameters-stand : {owner : Owner} {objects : List TypedObject}
    (parameters : List Identifier) (here : Here)
    → Stands owner objects here → Gives
    (λ after. Stands owner objects after × (after.outer_bodies ≡ here.outer_bodies))
    (declare_parameters parameters here)
declare_parameters-stand [] here stands = gives_ok (stands, refl)
declare_parameters-stand (parameter ∷ others) here stands =
    gives_after (require (not (is_parameter_again here parameter.name)) DeclaredTwice (place_of parameter))
    λ once.
    declare_parameters-stand others (with_parameter parameter.name here)
    (with_parameter-stands stands parameter.name)

-- out of it: the next of the bodies around it
pub out_of_body-stands : {inner outer : Owner} {objects : List TypedObject} {here : Here} (body : Body)
    (bodies : List Body)
    → here.outer_bodies ≡ body ∷ bodies → Stands inner objects here
    → Stands outer objects (out_of_body here) × ((out_of_body here).outer_bodies ≡ bodies)
out_of_body-stands {inner} {outer} {objects} {here} body bodies are stands =
    go here.outer_bodies are stands.outside
  where
    go : (around : List Body) → around ≡ body ∷ bodies → BodiesFit (IsSeenIn WithinMain objects) around
        → Stands outer objects (after_body around here) × ((after_body around here).outer_bodies ≡ bodies)
    go [] e fit = absurd cc
    go (first ∷ others) e fit = (
      record {
        count = stands.count;
        inside = λ is_here.
            body_weaker (IsSeenIn WithinMain objects) (IsSeenIn (names_within outer) objects)
            (seen_weaker WithinMain (names_within outer) objects objects (λ at x e. e)
            (lies_for_all (names_within outer))) first fit.0;
        outside = fit.1;
      },
      cc,
    )

-- the names of an item, whose objects come next in the table
declare_names-fit : (block : Block) (P : Entity → List ℕ → Type 0) (names : List Identifier) (here : Here)
    → ((number : ℕ) (name : List ℕ) → here.objects ≤ number → number < here.objects + length names
    → is_external block.owner ≡ false → P (Object number) name)
    → (is_external block.owner ≡ false → BodyFits P here.body)
    → Gives (λ after. (is_external block.owner ≡ false → BodyFits P after.body)
    × (after.objects ≡ here.objects + length names) × (after.outer_bodies ≡ here.outer_bodies))
    (declare_names block names here)
declare_names-fit block P [] here each fits = gives_ok (fits, omega arith, refl)
declare_names-fit block P (name ∷ others) here each fits =
    gives_after (require (not (is_declared_again here name.name)) DeclaredTwice (place_of name)) λ once.
    gives_after
    (require (not (is_external block.owner) || declares_parameter block name.name) ExternalContents
    (place_of name)) λ placed.
    then_more (declare_names-fit block P others (with_object name.name here)
    (λ number any low high is_here. each number any (omega (arith, low)) (omega (arith, high)) is_here)
    (λ is_here.
    let body = fits is_here in (
      names_with-fit P name.name (Object here.objects)
          (each here.objects name.name (omega arith) (omega arith) is_here)
          here.body.block body.0,
      body.1,
      body.2,
    ))) λ after is.
    (is.0, omega (arith, is.1), is.2)

pub declare_names-stand : {before after : List TypedObject} (block : Block)
    (names : List Identifier) (here : Here)
    → Keeps before after → length after ≡ length before + length names
    → ((number : ℕ) → length before ≤ number → number < length after → is_external block.owner ≡ false
    → IsSeenIn (names_within block.owner) after (Object number) [])
    → Stands block.owner before here
    → Gives (λ there. Stands block.owner after there × (there.outer_bodies ≡ here.outer_bodies))
    (declare_names block names here)
declare_names-stand {before} {after} block names here grow longer each stands =
    let P : Entity → List ℕ → Type 0 = IsSeenIn (names_within block.owner) after in
    then_more (declare_names-fit block P names here
    (λ number name low high is_here.
    each number (omega (arith, low, stands.count)) (omega (arith, high, stands.count, longer)) is_here)
    (λ is_here.
    body_weaker (IsSeenIn (names_within block.owner) before) P
    (seen_weaker (names_within block.owner) (names_within block.owner) before after grow (λ home lies. lies))
    here.body (stands.inside is_here))) λ there is. (
      record {
        count = omega (arith, is.1, stands.count, longer);
        inside = is.0;
        outside = subst (λ (bodies : List Body). BodiesFit (IsSeenIn WithinMain after) bodies) (sym is.2)
            (bodies_weaker (IsSeenIn WithinMain before) (IsSeenIn WithinMain after)
            (seen_weaker WithinMain WithinMain before after grow (λ home lies. lies))
            here.outer_bodies stands.outside);
      },
      is.2,
    )
