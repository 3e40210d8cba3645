-- Where the code of procedures and of routines begins: after the constants of its module, and before the end of all code.
use Rattle.codegen8080.proofs.Prelude.{◌≡◌, inl, inr, ℕ, zero, suc, ◌+◌, ◌<◌, ◌≤◌, ◌∙◌, Bool, true, false, cond, List, [], ◌∷◌, ◌++◌, length, Option, Some, None, option_map, slice_get, slice_get_within, same_Some, none-some, refl, sym, ap, subst, arith, append_assoc, lt-ltb, eq-eqb, Assembled, Item, Routine, TreeModule, TreeProcedure, ProcedureKind, size_of_items, entry, in_front, known_label, numbered, numbered_item, place_of_known, place_of_label, Finishes, Written, has_routine, module_label_of_routine, AreRoutines, IsCodeOfRoutine, IsCodeWritten, IsProcedureCode, all_routines, contents_items, size_of_routine}
use Rattle.std.specs.List.{All}
use Rattle.std.proofs.lemmas.List.Elements.{All-head, All-tail}
use Rattle.asm8080.proofs.CodeInParts.{size_in_parts}
use Rattle.asm8080.specs.Assembled.{place_of}
use Rattle.asm8080.specs.Items.{BoundOnce, KnowsLabels, is_bound, marks, offset_of, size_of}
use Rattle.asm8080.specs.declared.item.Item.TheVariants as items
use Rattle.asm8080.specs.declared.item.Reference.{Reference}
use Rattle.asm8080.specs.declared.item.WordForm.{WordForm}
use Rattle.runtime8080.specs.declared.routine.Routine.TheVariants as routines
use Rattle.treecode.specs.declared.procedure.ProcedureKind.TheVariants as kinds
use Rattle.steps8080.proofs.Numbered.{not_both}
use Rattle.steps8080.specs.internal.Writer.{numbered_reference}
use Rattle.codegen8080.specs.internal.Modules.{AreCodeOf, IsCodeOf}
use Rattle.codegen8080.specs.internal.Sources.{IsOfModule}
use Rattle.treecode.proofs.OwnNames.{item_within}
use Rattle.codegen8080.proofs.{PlacedLabels.{binds_bound, bound_after, is_a_routine}, RoutinesStand.{IsOneOf}, SomeCode.{procedure_some}}

-- A label has its place in items, after so many bytes at least, and a byte comes after it.
pub record BeginsFrom (low label : ℕ) (list : List Item) : Type 0 where
  pub before : List Item
  pub code : List Item
  pub list_is : list ≡ before ++ (items.Mark label ∷ code)
  pub past : low ≤ size_of_items before
  pub some : 0 < size_of_items code

begins_first : (low label : ℕ) (first more : List Item) → BeginsFrom low label first
    → BeginsFrom low label (first ++ more)
begins_first low label first more is =
    let some = is.some in
    record {
      before = is.before;
      code = is.code ++ more;
      list_is = ap (λ (list : List Item). list ++ more) is.list_is
          ∙ append_assoc is.before (items.Mark label ∷ is.code) more;
      past = is.past;
      some = omega (arith, some, size_in_parts is.code more);
    }

begins_later : (low label : ℕ) (first more : List Item) → BeginsFrom low label more
    → BeginsFrom (size_of_items first + low) label (first ++ more)
begins_later low label first more is =
    let past = is.past in
    record {
      before = first ++ is.before;
      code = is.code;
      list_is = ap (λ (list : List Item). first ++ list) is.list_is
          ∙ sym (append_assoc first is.before (items.Mark label ∷ is.code));
      past = omega (arith, past, size_in_parts first is.before);
      some = is.some;
    }

begins_sooner : (low less label : ℕ) (list : List Item) → less ≤ low → BeginsFrom low label list
    → BeginsFrom less label list
begins_sooner low less label list below is =
    let past = is.past in
    record { before = is.before; code = is.code; list_is = is.list_is; past = omega (arith, past, below); some = is.some }

begins_where : (low label other : ℕ) (list : List Item) → label ≡ other → BeginsFrom low label list
    → BeginsFrom low other list
begins_where low label other list same is = subst (λ (n : ℕ). BeginsFrom low n list) same is

-- items have the same size with the code's numbers for labels and names
with_word_size : (form : WordForm) (found : Option Reference) (made : Item)
    → option_map (items.WithWord form) found ≡ Some made → size_of made ≡ 3
with_word_size form (Some reference) made is =
    ap size_of (sym (same_Some (items.WithWord form reference) made is))
with_word_size form None made is = absurd (none-some made is)

address_size : (found : Option Reference) (made : Item) → option_map items.Address found ≡ Some made → size_of made ≡ 2
address_size (Some reference) made is = ap size_of (sym (same_Some (items.Address reference) made is))
address_size None made is = absurd (none-some made is)

mark_size : (found : Option ℕ) (made : Item) → option_map items.Mark found ≡ Some made → size_of made ≡ 0
mark_size (Some label) made is = ap size_of (sym (same_Some (items.Mark label) made is))
mark_size None made is = absurd (none-some made is)

pub item_size : (written : Written) (item made : Item) → numbered_item written item ≡ Some made
    → size_of made ≡ size_of item
item_size written (items.WithWord form reference) made is =
    with_word_size form (numbered_reference written reference) made is
item_size written (items.Address reference) made is = address_size (numbered_reference written reference) made is
item_size written (items.Mark label) made is = mark_size (entry written.labels label) made is
item_size written item made is = ap size_of (sym (same_Some item made is))

-- items after others, with these numbers
record Numbers (written : Written) (first others made : List Item) : Type 0 where
  front : List Item
  rest : List Item
  front_is : numbered written first ≡ Some front
  rest_is : numbered written others ≡ Some rest
  size : size_of_items front ≡ size_of_items first
  made_is : made ≡ front ++ rest

numbers_in_parts : (written : Written) (first others made : List Item) → numbered written (first ++ others) ≡ Some made
    → Numbers written first others made
numbers_in_parts written [] others made is =
    record { front = []; rest = made; front_is = refl; rest_is = is; size = refl; made_is = refl }
numbers_in_parts written (item ∷ first) others made is =
    by (numbered_item written item) (numbered written (first ++ others)) refl refl is
    (λ given same. numbers_in_parts written first others given same)
  where
    by : (one : Option Item) (more : Option (List Item))
        → numbered_item written item ≡ one
        → numbered written (first ++ others) ≡ more
        → in_front one more ≡ Some made
        → ((given : List Item) → numbered written (first ++ others) ≡ Some given → Numbers written first others given)
        → Numbers written (item ∷ first) others made
    by (Some found) (Some given) one_is more_is made_is rest =
        let tail = rest given more_is in
        let here : size_of found ≡ size_of item = item_size written item found one_is in
        let there = tail.size in
        record {
          front = found ∷ tail.front;
          rest = tail.rest;
          front_is =
              ap (λ (one : Option Item). in_front one (numbered written first)) one_is
              ∙ ap (in_front (Some found)) tail.front_is;
          rest_is = tail.rest_is;
          size = omega (arith, here, there);
          made_is =
              sym (same_Some (found ∷ given) made made_is)
              ∙ ap (λ (list : List Item). found ∷ list) tail.made_is;
        }
    by (Some found) None one_is more_is made_is rest = absurd (none-some made made_is)
    by None more one_is more_is made_is rest = absurd (none-some made made_is)

-- a label of the module begins code with the code's number for it
pub record BeginsNumbered (written : Written) (low number : ℕ) (made : List Item) : Type 0 where
  pub label : ℕ
  pub known : entry written.labels number ≡ Some label
  pub begins : BeginsFrom low label made

pub numbered_whole : (written : Written) (list made : List Item) → numbered written list ≡ Some made
    → size_of_items made ≡ size_of_items list
numbered_whole written [] made is = ap size_of_items (sym (same_Some [] made is))
numbered_whole written (item ∷ others) made is =
    by (numbered_item written item) (numbered written others) refl refl is
    (λ given same. numbered_whole written others given same)
  where
    by : (one : Option Item) (more : Option (List Item))
        → numbered_item written item ≡ one
        → numbered written others ≡ more
        → in_front one more ≡ Some made
        → ((given : List Item) → numbered written others ≡ Some given → size_of_items given ≡ size_of_items others)
        → size_of_items made ≡ size_of item + size_of_items others
    by (Some found) (Some given) one_is more_is made_is rest =
        let here : size_of found ≡ size_of item = item_size written item found one_is in
        let all = ap size_of_items (sym (same_Some (found ∷ given) made made_is)) in
        omega (arith, here, rest given more_is, all)
    by (Some found) None one_is more_is made_is rest = absurd (none-some made made_is)
    by None more one_is more_is made_is rest = absurd (none-some made made_is)

numbered_begins : (written : Written) (low number : ℕ) (list made : List Item) → BeginsFrom low number list
    → numbered written list ≡ Some made → BeginsNumbered written low number made
numbered_begins written low number list made is made_is =
    let parts = numbers_in_parts written is.before (items.Mark number ∷ is.code) made
    (ap (numbered written) (sym is.list_is) ∙ made_is) in
    by parts (entry written.labels number) (numbered written is.code) refl refl parts.rest_is
  where
    by : (parts : Numbers written is.before (items.Mark number ∷ is.code) made)
        (found : Option ℕ) (more : Option (List Item))
        → entry written.labels number ≡ found
        → numbered written is.code ≡ more
        → in_front (option_map items.Mark found) more ≡ Some parts.rest
        → BeginsNumbered written low number made
    by parts (Some label) (Some given) found_is more_is rest_is =
        let past = is.past in
        let some = is.some in
        let same = parts.size in
        let whole : size_of_items given ≡ size_of_items is.code = numbered_whole written is.code given more_is in
        record {
          label = label;
          known = found_is;
          begins = record {
            before = parts.front;
            code = given;
            list_is =
                parts.made_is
                ∙ ap (λ (rest : List Item). parts.front ++ rest)
                (sym (same_Some (items.Mark label ∷ given) parts.rest rest_is));
            past = omega (arith, past, same);
            some = omega (arith, some, whole);
          };
        }
    by parts (Some label) None found_is more_is rest_is = absurd (none-some parts.rest rest_is)
    by parts None more found_is more_is rest_is = absurd (none-some parts.rest rest_is)

-- where a label is bound that is bound once
offset_here : (label : ℕ) (before code : List Item) → BoundOnce (before ++ (items.Mark label ∷ code))
    → offset_of label (before ++ (items.Mark label ∷ code)) ≡ Some (size_of_items before)
offset_here label [] code once = ap (λ (is : Bool). cond is (Some 0) (option_map (λ n. 0 + n) (offset_of label code))) (eq-eqb label label refl)
offset_here label (item ∷ before) code once =
    by (marks label item) refl (offset_here label before code once.1)
  where
    there : is_bound label (before ++ (items.Mark label ∷ code)) ≡ true
    there = binds_bound label (before ++ (items.Mark label ∷ code))
        (bound_after label before (items.Mark label ∷ code) (inl refl))

    by : (is : Bool) → marks label item ≡ is
        → offset_of label (before ++ (items.Mark label ∷ code)) ≡ Some (size_of_items before)
        → offset_of label (item ∷ (before ++ (items.Mark label ∷ code))) ≡ Some (size_of item + size_of_items before)
    by true is rest = absurd (not_both (is_bound label (before ++ (items.Mark label ∷ code))) there (once.0 label is))
    by false is rest =
        ap (λ (one : Bool). cond one (Some 0)
        (option_map (λ n. size_of item + n) (offset_of label (before ++ (items.Mark label ∷ code))))) is
        ∙ ap (option_map (λ n. size_of item + n)) rest

known_here : (count label : ℕ) (before code : List Item)
    → All (KnowsLabels count) (before ++ (items.Mark label ∷ code)) → label < count
known_here count label [] code all = All-head (KnowsLabels count) (items.Mark label) code all
known_here count label (item ∷ before) code all =
    known_here count label before code
    (All-tail (KnowsLabels count) item (before ++ (items.Mark label ∷ code)) all)

-- so a label of the module that begins code has its place there
pub begins_there :
    (written : Written) (bytes : Assembled) (labels : List (Option ℕ)) (low number : ℕ)
    → Finishes written bytes labels
    → BeginsNumbered written low number written.code.items
    → (low ≤ place_of_label written bytes number) × (place_of_label written bytes number < length bytes.bytes)
begins_there written bytes labels low number finished is =
    let begins = is.begins in
    let all = subst (λ (list : List Item). All (KnowsLabels written.code.labels) list) begins.list_is
    finished.is_assembly.known in
    let within : is.label < written.code.labels = known_here written.code.labels is.label begins.before begins.code all in
    let once = subst BoundOnce begins.list_is finished.is_assembly.once in
    let at : size_of_items begins.before ≡ place_of bytes is.label =
    same_Some (size_of_items begins.before) (place_of bytes is.label)
    (sym (ap (offset_of is.label) begins.list_is ∙ offset_here is.label begins.before begins.code once)
    ∙ finished.assembles.places is.label within) in
    let place : place_of_label written bytes number ≡ place_of bytes is.label =
    ap (λ (found : Option ℕ). place_of_known bytes (known_label written.code.labels found)) is.known
    ∙ ap (λ (few : Bool). place_of_known bytes (cond few (Some is.label) None))
    (lt-ltb is.label written.code.labels within) in
    let past = begins.past in
    let some = begins.some in
    let size : length bytes.bytes ≡ size_of_items begins.before + (0 + size_of_items begins.code) =
    finished.assembles.size ∙ ap size_of_items begins.list_is
    ∙ size_in_parts begins.before (items.Mark is.label ∷ begins.code) in
    (omega (arith, past, at, place), omega (arith, some, at, place, size))

-- a kind of a procedure that is not EXTERNAL
abbrev pub IsOwn : ProcedureKind → Type 0
IsOwn (kinds.External name) = ⊥
IsOwn kind = Unit {0}

own_code : (tree : TreeModule) (called : List Bool) (number : ℕ) (procedure : TreeProcedure) (kind : ProcedureKind)
    (list : List Item)
    → IsOwn kind → IsCodeOf tree called number procedure kind list → IsProcedureCode tree called number procedure list
own_code tree called number procedure (kinds.External name) list own code = absurd own
own_code tree called number procedure kinds.Static list own code = code
own_code tree called number procedure kinds.Reentrant list own code = code

-- the code of a procedure among those of others
procedures_begin :
    (tree : TreeModule) (called : List Bool) (number index : ℕ) (procedures : List TreeProcedure)
    (procedure : TreeProcedure) (list : List Item)
    → IsOwn procedure.kind
    → ((label : ℕ) (code : List Item) → IsProcedureCode tree called label procedure code → 0 < size_of_items code)
    → slice_get procedures index ≡ Some procedure
    → AreCodeOf tree called number procedures list
    → BeginsFrom 0 (number + index) list
procedures_begin tree called number index [] procedure list own some there code = absurd (none-some procedure there)
procedures_begin tree called number zero (first ∷ others) procedure list own some there code =
    let same : first ≡ procedure = same_Some first procedure there in
    let this : IsCodeOf tree called number procedure procedure.kind code.0 =
    subst (λ (one : TreeProcedure). IsCodeOf tree called number one one.kind code.0) same code.2 in
    let is : IsProcedureCode tree called number procedure code.0 =
    own_code tree called number procedure procedure.kind code.0 own this in
    let size = some number code.0 is in
    let whole = ap size_of_items is.list_is in
    let begins : BeginsFrom 0 number code.0 = record {
      before = [];
      code = is.beginning ++ (is.statements ++ is.ending);
      list_is = is.list_is;
      past = omega arith;
      some = omega (arith, size, whole);
    } in
    let same_number : number ≡ number + 0 = omega arith in
    subst (BeginsFrom 0 (number + 0)) (sym code.4)
    (begins_first 0 (number + 0) code.0 code.1 (begins_where 0 number (number + 0) code.0 same_number begins))
procedures_begin tree called number (suc index) (first ∷ others) procedure list own some there code =
    let rest : BeginsFrom 0 (suc number + index) code.1 =
    procedures_begin tree called (suc number) index others procedure code.1 own some there code.3 in
    let same_number : suc number + index ≡ number + suc index = omega arith in
    subst (BeginsFrom 0 (number + suc index)) (sym code.4)
    (begins_sooner (size_of_items code.0 + 0) 0 (number + suc index) (code.0 ++ code.1) (omega arith)
    (begins_later 0 (number + suc index) code.0 code.1
    (begins_where 0 (suc number + index) (number + suc index) code.1 same_number rest)))

-- the label of a procedure of a module
pub procedure_begins :
    (tree : TreeModule) (start : ℕ) (written : Written) (index : ℕ) (procedure : TreeProcedure)
    → IsOfModule tree
    → IsCodeWritten tree start written
    → slice_get tree.procedures.items index ≡ Some procedure
    → IsOwn procedure.kind
    → BeginsNumbered written (size_of_items (contents_items tree.constants.items)) index written.code.items
procedure_begins tree start written index procedure of is there own =
    let constants : List Item = contents_items tree.constants.items in
    let within = slice_get_within tree.procedures.items index procedure there in
    let as_many = of.lowered.procedure_count in
    let heading = item_within (of.typed).procedures index (omega (arith, as_many, within)) in
    let begun : BeginsFrom 0 index is.own_is.procedures =
    begins_where 0 (0 + index) index is.own_is.procedures (omega arith)
    (procedures_begin tree is.called 0 index tree.procedures.items procedure is.own_is.procedures own
    (λ label code of_procedure. procedure_some of.storage heading.0 of.lowered.traits
    (of.lowered.procedures index procedure heading.0 there heading.1).has_body of_procedure)
    there is.own_is.procedures_are) in
    let in_own : BeginsFrom (size_of_items constants) index is.own =
    subst (BeginsFrom (size_of_items constants) index) (sym is.own_is.list_is)
    (begins_sooner (size_of_items constants + (size_of_items is.own_is.main + 0)) (size_of_items constants) index
    (constants ++ (is.own_is.main ++ is.own_is.procedures)) (omega arith)
    (begins_later (size_of_items is.own_is.main + 0) index constants (is.own_is.main ++ is.own_is.procedures)
    (begins_later 0 index is.own_is.main is.own_is.procedures begun))) in
    let made = numbered_begins written (size_of_items constants) index is.own is.made in_own is.same in
    record {
      label = made.label;
      known = made.known;
      begins = subst (BeginsFrom (size_of_items constants) made.label) (sym is.items_are)
          (begins_first (size_of_items constants) made.label is.made is.listed made.begins);
    }

-- the label of a routine that is called
routine_some : (routine : Routine) → 0 < size_of_routine routine
routine_some routines.Multiply = omega arith
routine_some routines.Divide = omega arith
routine_some routines.ShiftLeftByte = omega arith
routine_some routines.ShiftRightByte = omega arith
routine_some routines.ShiftLeftAddress = omega arith
routine_some routines.ShiftRightAddress = omega arith
routine_some routines.RotateLeft = omega arith
routine_some routines.RotateRight = omega arith
routine_some routines.Move = omega arith

module _ (tree : TreeModule) (called : List Bool) (written : Written) (routine : Routine)
    (set : has_routine called routine ≡ true)
  where
    abbrev index : ℕ
    index = (module_label_of_routine tree routine).index

    this_begins : (is_called : Bool) (list : List Item) → is_called ≡ true
        → IsCodeOfRoutine tree written routine is_called list → BeginsNumbered written 0 index list
    this_begins true list same is =
        let size = is.size in
        let some = routine_some routine in
        record {
          label = is.label;
          known = is.known;
          begins = record {
            before = [];
            code = is.listing;
            list_is = is.list_is;
            past = omega arith;
            some = omega (arith, size, some);
          };
        }
    this_begins false list same is = absurd (not_both false same refl)

    among_begin : (routines : List Routine) (list : List Item) → AreRoutines tree called written routines list
        → IsOneOf routine routines → BeginsNumbered written 0 index list
    among_begin [] list are one = absurd one
    among_begin (first ∷ others) list are (inl same) =
        let this = this_begins (has_routine called routine) are.0 set
        (subst (λ (one : Routine). IsCodeOfRoutine tree written one (has_routine called one) are.0) (sym same) are.2) in
        record {
          label = this.label;
          known = this.known;
          begins = subst (BeginsFrom 0 this.label) (sym are.4) (begins_first 0 this.label are.0 are.1 this.begins);
        }
    among_begin (first ∷ others) list are (inr later) =
        let rest = among_begin others are.1 are.3 later in
        record {
          label = rest.label;
          known = rest.known;
          begins = subst (BeginsFrom 0 rest.label) (sym are.4)
              (begins_sooner (size_of_items are.0 + 0) 0 rest.label (are.0 ++ are.1) (omega arith)
              (begins_later 0 rest.label are.0 are.1 rest.begins));
        }

pub routine_begins :
    (tree : TreeModule) (start : ℕ) (written : Written) (routine : Routine) (is : IsCodeWritten tree start written)
    → has_routine is.called routine ≡ true
    → BeginsNumbered written (size_of_items (contents_items tree.constants.items))
    (module_label_of_routine tree routine).index written.code.items
routine_begins tree start written routine is set =
    let constants : List Item = contents_items tree.constants.items in
    let this = among_begin tree is.called written routine set all_routines is.listed is.listed_are (is_a_routine routine) in
    let sizes : size_of_items is.own ≡ size_of_items constants + size_of_items (is.own_is.main ++ is.own_is.procedures) =
    ap size_of_items is.own_is.list_is ∙ size_in_parts constants (is.own_is.main ++ is.own_is.procedures) in
    let whole : size_of_items is.made ≡ size_of_items is.own = numbered_whole written is.own is.made is.same in
    record {
      label = this.label;
      known = this.known;
      begins = subst (BeginsFrom (size_of_items constants) this.label) (sym is.items_are)
          (begins_sooner (size_of_items is.made + 0) (size_of_items constants) this.label (is.made ++ is.listed)
          (omega (arith, sizes, whole))
          (begins_later 0 this.label is.made is.listed this.begins));
    }
