-- Names that stand for objects and procedures of tables, at every place of a text.
use Rattle.typing.proofs.Prelude.{◌≡◌, ℕ, suc, zero, ◌+◌, Bool, true, false, List, [], ◌∷◌, ◌++◌, length, drop, Option, None, Some, if◌then◌else◌, slice_get, refl, sym, ap, ◌∙◌, subst, length-append, lookup, option_or, bytes_eq, bytes_eq-Decides, Identifier, Entity, Object, Procedure, Label, Definition, Names, Body, Here, known_in, declared_in, declared_around, label_of, entity_of, empty_body, body_with_name, at_the_start, into_block, out_of_block, body_after_block, into_body, out_of_body, after_body, into_list, out_of_list, numbered_from, with_object, with_procedure, with_definition, with_parameter, with_label, got_first}

-- whether what an entity is has a name in tables of names
abbrev pub IsNamed : (objects procedures : List (List ℕ)) → Entity → List ℕ → Type 0
IsNamed objects procedures (Object number) name = slice_get objects number ≡ Some name
IsNamed objects procedures (Procedure number) name = slice_get procedures number ≡ Some name
IsNamed objects procedures (Label number) name = Unit {0}
IsNamed objects procedures Definition name = Unit {0}

-- all names in a table, as of a block or a list; of several, of a body and of several bodies
abbrev pub NamesFit : {X : Type 0} → (X → List ℕ → Type 0) → List (List ℕ × X) → Type 0
NamesFit P [] = Unit {0}
NamesFit P (entry ∷ others) = P entry.1 entry.0 × NamesFit P others

abbrev pub ScopesFit : (Entity → List ℕ → Type 0) → List Names → Type 0
ScopesFit P [] = Unit {0}
ScopesFit P (names ∷ others) = NamesFit P names × ScopesFit P others

abbrev pub BodyFits : (Entity → List ℕ → Type 0) → Body → Type 0
BodyFits P body = NamesFit P body.block × ScopesFit P body.outer_blocks × ScopesFit P body.lists

abbrev pub BodiesFit : (Entity → List ℕ → Type 0) → List Body → Type 0
BodiesFit P [] = Unit {0}
BodiesFit P (body ∷ others) = BodyFits P body × BodiesFit P others

-- at a place, all names fit tables of names, which are as long as they are counted
pub record Fits (objects procedures : List (List ℕ)) (here : Here) : Type 0 where
  pub body : BodyFits (IsNamed objects procedures) here.body
  pub outer : BodiesFit (IsNamed objects procedures) here.outer_bodies
  pub object_count : here.objects ≡ length objects
  pub procedure_count : here.procedures ≡ length procedures

-- where one property of entities implies another
abbrev pub Implies : (P Q : Entity → List ℕ → Type 0) → Type 0
Implies P Q = (entity : Entity) (name : List ℕ) → P entity name → Q entity name

same_name : (name key : List ℕ) → bytes_eq name key ≡ true → key ≡ name
same_name name key same = sym ((bytes_eq-Decides name key).0 same)

-- the first of two that there is
pub either : {X : Type 0} {Q : Type 0} (first second : Option X) (x : X)
    → (first ≡ Some x → Q)
    → (second ≡ Some x → Q)
    → option_or first second ≡ Some x
    → Q
either (Some y) second x one other e = one e
either None second x one other e = other e

pub names_known : {X : Type 0} (P : X → List ℕ → Type 0) (names : List (List ℕ × X))
    (name : List ℕ) (entity : X)
    → NamesFit P names
    → lookup (bytes_eq name) names ≡ Some entity
    → P entity name
names_known P [] name entity fit e = absurd cc
names_known P (entry ∷ others) name entity fit e =
    by (bytes_eq name entry.0) refl (names_known P others name entity fit.1) e
  where
    by : (same : Bool)
        → bytes_eq name entry.0 ≡ same
        → (lookup (bytes_eq name) others ≡ Some entity → P entity name)
        → (if same then Some entry.1 else lookup (bytes_eq name) others) ≡ Some entity
        → P entity name
    by true same among_others e =
        let its_name = same_name name entry.0 same in
        let its_entity : entry.1 ≡ entity = cc in
        subst (λ n. P entity n) its_name (subst (λ k. P k entry.0) its_entity fit.0)
    by false other among_others e = among_others e

scopes_known : (P : Entity → List ℕ → Type 0) (scopes : List Names) (name : List ℕ) (entity : Entity)
    → ScopesFit P scopes
    → known_in scopes name ≡ Some entity
    → P entity name
scopes_known P [] name entity fit e = absurd cc
scopes_known P (names ∷ others) name entity fit e =
    either (lookup (bytes_eq name) names) (known_in others name) entity
    (names_known P names name entity fit.0)
    (scopes_known P others name entity fit.1) e

body_known : (P : Entity → List ℕ → Type 0) (body : Body) (name : List ℕ) (entity : Entity)
    → BodyFits P body
    → declared_in body name ≡ Some entity
    → P entity name
body_known P body name entity fit e =
    scopes_known P (body.block ∷ body.outer_blocks) name entity (fit.0, fit.1) e

bodies_known : (P : Entity → List ℕ → Type 0) (bodies : List Body) (name : List ℕ) (entity : Entity)
    → BodiesFit P bodies
    → declared_around bodies name ≡ Some entity
    → P entity name
bodies_known P [] name entity fit e = absurd cc
bodies_known P (body ∷ others) name entity fit e =
    either (declared_in body name) (declared_around others name) entity (body_known P body name entity fit.0)
    (bodies_known P others name entity fit.1) e

-- what holds of all entities that names are in reach of holds of what a name stands for
pub entity_known : (P Q : Entity → List ℕ → Type 0) (here : Here)
    → BodyFits P here.body
    → BodiesFit Q here.outer_bodies
    → Implies Q P
    → (name : List ℕ) (entity : Entity)
    → entity_of here name ≡ Some entity
    → P entity name
entity_known P Q here body outer weaker name entity e =
    either (declared_in here.body name)
    (option_or (label_of here name) (declared_around here.outer_bodies name))
    entity (body_known P here.body name entity body)
    (either (label_of here name) (declared_around here.outer_bodies name) entity
    (scopes_known P here.body.lists name entity body.2)
    (λ around. weaker entity name (bodies_known Q here.outer_bodies name entity outer around)))
    e

-- what a name stands for has that name
pub entity_named : (objects procedures : List (List ℕ)) (here : Here)
    → Fits objects procedures here
    → (name : List ℕ) (entity : Entity)
    → entity_of here name ≡ Some entity
    → IsNamed objects procedures entity name
entity_named objects procedures here fits name entity e =
    let P : Entity → List ℕ → Type 0 = IsNamed objects procedures in
    entity_known P P here fits.body fits.outer (λ entity name is. is) name entity e

-- Names that fit tables fit them as tables grow.
abbrev pub Keeps : {X : Type 0} → List X → List X → Type 0
Keeps {X} before after =
    (number : ℕ) (x : X) → slice_get before number ≡ Some x → slice_get after number ≡ Some x

pub keeps_append : {X : Type 0} (before more : List X) → Keeps before (before ++ more)
keeps_append [] more number x e = absurd cc
keeps_append (first ∷ before) more zero x e = e
keeps_append (first ∷ before) more (suc number) x e = keeps_append before more number x e

named_later : (objects procedures objects' procedures' : List (List ℕ))
    → Keeps objects objects'
    → Keeps procedures procedures'
    → (entity : Entity) (name : List ℕ)
    → IsNamed objects procedures entity name
    → IsNamed objects' procedures' entity name
named_later objects procedures objects' procedures' more others (Object number) name e = more number name e
named_later objects procedures objects' procedures' more others (Procedure number) name e =
    others number name e
named_later objects procedures objects' procedures' more others (Label number) name e = tt
named_later objects procedures objects' procedures' more others Definition name e = tt

pub names_weaker : (P Q : Entity → List ℕ → Type 0) → Implies P Q
    → (names : Names) → NamesFit P names → NamesFit Q names
names_weaker P Q weaker [] fit = tt
names_weaker P Q weaker (entry ∷ others) fit =
    (weaker entry.1 entry.0 fit.0, names_weaker P Q weaker others fit.1)

pub scopes_weaker : (P Q : Entity → List ℕ → Type 0) → Implies P Q
    → (scopes : List Names) → ScopesFit P scopes → ScopesFit Q scopes
scopes_weaker P Q weaker [] fit = tt
scopes_weaker P Q weaker (names ∷ others) fit =
    (names_weaker P Q weaker names fit.0, scopes_weaker P Q weaker others fit.1)

pub body_weaker : (P Q : Entity → List ℕ → Type 0) → Implies P Q
    → (body : Body) → BodyFits P body → BodyFits Q body
body_weaker P Q weaker body fit = (
  names_weaker P Q weaker body.block fit.0,
  scopes_weaker P Q weaker body.outer_blocks fit.1,
  scopes_weaker P Q weaker body.lists fit.2,
)

pub bodies_weaker : (P Q : Entity → List ℕ → Type 0) → Implies P Q
    → (bodies : List Body) → BodiesFit P bodies → BodiesFit Q bodies
bodies_weaker P Q weaker [] fit = tt
bodies_weaker P Q weaker (body ∷ others) fit =
    (body_weaker P Q weaker body fit.0, bodies_weaker P Q weaker others fit.1)

-- one more name in a block
abbrev pub names_with : List ℕ → Entity → Names → Names
names_with name entity names = (body_with_name name entity (record empty_body { block = names })).block

pub names_with-fit : (P : Entity → List ℕ → Type 0) (name : List ℕ) (entity : Entity) → P entity name
    → (names : Names) → NamesFit P names → NamesFit P (names_with name entity names)
names_with-fit P name entity it [] fit = (it, tt)
names_with-fit P name entity it (entry ∷ others) fit =
    by (bytes_eq name entry.0) refl (names_with-fit P name entity it others fit.1)
  where
    by : (same : Bool)
        → bytes_eq name entry.0 ≡ same
        → NamesFit P (names_with name entity others)
        → NamesFit P (if same then (entry.0, entity) ∷ others else entry ∷ names_with name entity others)
    by true same rest = (subst (λ key. P entity key) (sym (same_name name entry.0 same)) it, fit.1)
    by false other rest = (fit.0, rest)

-- the labels of a list
pub numbered-fit : (P : Entity → List ℕ → Type 0)
    → ((number : ℕ) (name : List ℕ) → P (Label number) name)
    → (number : ℕ) (labels : List Identifier) (names : Names)
    → NamesFit P names → NamesFit P (numbered_from number labels names)
numbered-fit P each number [] names fit = fit
numbered-fit P each number (label ∷ labels) names fit =
    numbered-fit P each (number + 1) labels (names_with label.name (Label number) names)
    (names_with-fit P label.name (Label number) (each number label.name) names fit)

-- Names fit at the start of a module, and go on to fit where a text goes into a part and out of it.
pub at_the_start-fits : Fits [] [] at_the_start
at_the_start-fits =
    record { body = (tt, tt, tt); outer = tt; object_count = refl; procedure_count = refl }

pub into_block-fits : {objects procedures : List (List ℕ)} {here : Here}
    → Fits objects procedures here → Fits objects procedures (into_block here)
into_block-fits fits = record {
  body = (tt, (fits.body.0, fits.body.1), fits.body.2);
  outer = fits.outer;
  object_count = fits.object_count;
  procedure_count = fits.procedure_count;
}

pub after_block-fits : (P : Entity → List ℕ → Type 0) (blocks : List Names) (body : Body)
    → ScopesFit P blocks → BodyFits P body → BodyFits P (body_after_block blocks body)
after_block-fits P [] body outer fit = fit
after_block-fits P (block ∷ others) body outer fit = (outer.0, outer.1, fit.2)

pub out_of_block-fits : {objects procedures : List (List ℕ)} {here : Here}
    → Fits objects procedures here → Fits objects procedures (out_of_block here)
out_of_block-fits {objects} {procedures} {here} fits = record {
  body = after_block-fits (IsNamed objects procedures) here.body.outer_blocks here.body fits.body.1 fits.body;
  outer = fits.outer;
  object_count = fits.object_count;
  procedure_count = fits.procedure_count;
}

pub into_body-fits : {objects procedures : List (List ℕ)} {here : Here}
    → Fits objects procedures here → Fits objects procedures (into_body here)
into_body-fits fits = record {
  body = (tt, tt, tt);
  outer = (fits.body, fits.outer);
  object_count = fits.object_count;
  procedure_count = fits.procedure_count;
}

after_body-fits : (objects procedures : List (List ℕ)) (bodies : List Body) (here : Here)
    → BodiesFit (IsNamed objects procedures) bodies
    → Fits objects procedures here
    → Fits objects procedures (after_body bodies here)
after_body-fits objects procedures [] here outer fits = fits
after_body-fits objects procedures (body ∷ others) here outer fits = record {
  body = outer.0;
  outer = outer.1;
  object_count = fits.object_count;
  procedure_count = fits.procedure_count;
}

pub out_of_body-fits : {objects procedures : List (List ℕ)} {here : Here}
    → Fits objects procedures here → Fits objects procedures (out_of_body here)
out_of_body-fits {objects} {procedures} {here} fits =
    after_body-fits objects procedures here.outer_bodies here fits.outer fits

pub into_list-fits : {objects procedures : List (List ℕ)} {here : Here} (labels : List Identifier)
    → Fits objects procedures here → Fits objects procedures (into_list labels here)
into_list-fits {objects} {procedures} {here} labels fits = record {
  body = (fits.body.0, fits.body.1, (numbered-fit (IsNamed objects procedures) (λ number name. tt) here.labels labels [] tt, fits.body.2));
  outer = fits.outer;
  object_count = fits.object_count;
  procedure_count = fits.procedure_count;
}

pub after_list-fits : (P : Entity → List ℕ → Type 0) (lists : List Names)
    → ScopesFit P lists → ScopesFit P (drop 1 lists)
after_list-fits P [] fit = tt
after_list-fits P (names ∷ others) fit = fit.1

pub out_of_list-fits : {objects procedures : List (List ℕ)} {here : Here}
    → Fits objects procedures here → Fits objects procedures (out_of_list here)
out_of_list-fits {objects} {procedures} {here} fits = record {
  body = (
    fits.body.0,
    fits.body.1,
    after_list-fits (IsNamed objects procedures) here.body.lists fits.body.2,
  );
  outer = fits.outer;
  object_count = fits.object_count;
  procedure_count = fits.procedure_count;
}

-- a label, a parameter or a definition adds nothing to the tables
pub with_label-fits : {objects procedures : List (List ℕ)} {here : Here} (name : List ℕ)
    → Fits objects procedures here → Fits objects procedures (with_label name here)
with_label-fits name fits = record {
  body = fits.body;
  outer = fits.outer;
  object_count = fits.object_count;
  procedure_count = fits.procedure_count;
}

pub with_parameter-fits : {objects procedures : List (List ℕ)} {here : Here} (name : List ℕ)
    → Fits objects procedures here → Fits objects procedures (with_parameter name here)
with_parameter-fits name fits = record {
  body = fits.body;
  outer = fits.outer;
  object_count = fits.object_count;
  procedure_count = fits.procedure_count;
}

pub with_definition-fits : {objects procedures : List (List ℕ)} {here : Here} (name : List ℕ)
    → Fits objects procedures here → Fits objects procedures (with_definition name here)
with_definition-fits {objects} {procedures} {here} name fits = record {
  body = (
    names_with-fit (IsNamed objects procedures) name Definition tt here.body.block fits.body.0,
    fits.body.1,
    fits.body.2,
  );
  outer = fits.outer;
  object_count = fits.object_count;
  procedure_count = fits.procedure_count;
}

count_after : (before : List (List ℕ)) (name : List ℕ) (count : ℕ)
    → count ≡ length before → count + 1 ≡ length (before ++ name ∷ [])
count_after before name count e =
    ap (λ k. k + 1) e ∙ sym (length-append before (name ∷ []))

number_after : (before : List (List ℕ)) (name : List ℕ) (count : ℕ)
    → count ≡ length before → slice_get (before ++ name ∷ []) count ≡ Some name
number_after before name count e =
    ap (λ k. slice_get (before ++ name ∷ []) k) e ∙ got_first before name []

-- an object or a procedure is the next in its table
pub with_object-fits : {objects procedures : List (List ℕ)} {here : Here} (name : List ℕ)
    → Fits objects procedures here → Fits (objects ++ name ∷ []) procedures (with_object name here)
with_object-fits {objects} {procedures} {here} name fits =
    let P : Entity → List ℕ → Type 0 = IsNamed objects procedures in
    let Q : Entity → List ℕ → Type 0 = IsNamed (objects ++ name ∷ []) procedures in
    let later = named_later objects procedures (objects ++ name ∷ []) procedures
    (keeps_append objects (name ∷ [])) (λ number x e. e) in
    let body = body_weaker P Q later here.body fits.body in
    record {
      body = (
        names_with-fit Q name (Object here.objects) (number_after objects name here.objects fits.object_count)
            here.body.block body.0,
        body.1,
        body.2,
      );
      outer = bodies_weaker P Q later here.outer_bodies fits.outer;
      object_count = count_after objects name here.objects fits.object_count;
      procedure_count = fits.procedure_count;
    }

pub with_procedure-fits : {objects procedures : List (List ℕ)} {here : Here} (name : List ℕ)
    → Fits objects procedures here → Fits objects (procedures ++ name ∷ []) (with_procedure name here)
with_procedure-fits {objects} {procedures} {here} name fits =
    let P : Entity → List ℕ → Type 0 = IsNamed objects procedures in
    let Q : Entity → List ℕ → Type 0 = IsNamed objects (procedures ++ name ∷ []) in
    let later = named_later objects procedures objects (procedures ++ name ∷ []) (λ number x e. e)
    (keeps_append procedures (name ∷ [])) in
    let body = body_weaker P Q later here.body fits.body in
    record {
      body = (
        names_with-fit Q name (Procedure here.procedures)
            (number_after procedures name here.procedures fits.procedure_count)
            here.body.block body.0,
        body.1,
        body.2,
      );
      outer = bodies_weaker P Q later here.outer_bodies fits.outer;
      object_count = fits.object_count;
      procedure_count = count_after procedures name here.procedures fits.procedure_count;
    }
