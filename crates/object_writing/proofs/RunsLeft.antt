-- What is left of a run and of a segment while their contents are written.
use Rattle.object_writing.proofs.Prelude.{◌≡◌, ℕ, ◌+◌, ◌-◌, ◌<◌, ◌≤◌, List, [], ◌∷◌, ◌++◌, length, map, flat_map, take, drop, get_or, Option, refl, ap, sym, subst, ◌∙◌, arith, length-map, length-take, length-drop, drop-drop, take-map, take_rest, drop-map, take_at, drop_at, drop_more, drop_all, flat_map-append, Appends, AppendsBeginning, Fix, Segment, SetByte, ObjectModule, places_of, part_bytes, fixed_bytes, fixed_run, fixes_in, fixes_of_run, Run, content_parts, contents_of_run, fixes_from, runs_from, segment_parts, InOrder, order_earlier, order_ends, runs_in_order, content_text, AreFixesOf, count_before, cut_by, row_text, run_text, values_again}
use Rattle.object_writing.proofs.Sequences.{HasWritten, none_yet, part_written, part_begun, whole_appended}
use Rattle.object_writing.proofs.Cutting.{cut_bounds, cut_is, row_ended, row_more}
use Rattle.object_writing.proofs.Fixes.{are_fixes_of, counted, fixes_split, none_before, none_in_runs}

abbrev pub value_of : SetByte → ℕ
value_of here = here.value

-- of all that is to be written, the contents of these bytes with these fixes are left
pub record RunLeft (segment : Segment) (place : ℕ) (left : List ℕ) (rest : List Fix)
    (old new : Option (List ℕ)) (all : List ℕ) : Type 0 where
  pub items : List SetByte
  pub bytes : left ≡ map value_of items
  pub fixes : rest ≡ fixes_from place items
  pub written : HasWritten old new (row_text segment place items) all

pub run_start :
    (segment : Segment) (place : ℕ) (bytes : List ℕ) (fixes : List Fix) (old : Option (List ℕ))
    → AreFixesOf place bytes fixes → RunLeft segment place bytes fixes old old
    (run_text segment place bytes fixes)
run_start segment place bytes fixes old are = record {
  items = fixed_bytes fixes place bytes;
  bytes = sym (values_again fixes place bytes);
  fixes = are;
  written = none_yet old (run_text segment place bytes fixes);
}

module _ (segment : Segment) (place size count : ℕ) (left : List ℕ) (rest : List Fix) (some : 0 < length left)
    (size_is : size ≡ cut_by rest place (length left))
    (count_is : count ≡ count_before rest (place + size)) where
  -- what is known of the bytes
  record Cut (items : List SetByte) : Type 0 where
    long : length items ≡ length left
    fits : size ≤ length items
    front : take count rest ≡ fixes_from place (take size items)
    others : drop count rest ≡ fixes_from (place + size) (drop size items)
    bytes : drop size left ≡ map value_of (drop size items)
    split : row_text segment place items
        ≡ content_text segment place (take size left) (take count rest)
        ++ row_text segment (place + size) (drop size items)

  cut : (items : List SetByte) → left ≡ map value_of items → rest ≡ fixes_from place items → Cut items
  cut items b f =
      let long : length items ≡ length left = sym (ap length b ∙ length-map items value_of) in
      let bounds = cut_bounds rest place (length left) some in
      let within : cut_by rest place (length left) ≤ length left = bounds.1 in
      let fits : size ≤ length items = omega (arith, within, size_is, long) in
      let filled =
      ap (λ fs. cut_by fs place (length left)) f ∙ ap (cut_by (fixes_from place items) place) (sym long)
      ∙ cut_is place items in
      let first : List Fix = fixes_from place (take size items) in
      let later : List Fix = fixes_from (place + size) (drop size items) in
      let parts : rest ≡ first ++ later = f ∙ fixes_split size place items in
      let taken : length (take size items) ≤ size = omega (arith, length-take size items) in
      let many : length first ≡ count =
      sym (count_is ∙ ap (λ fs. count_before fs (place + size)) parts
      ∙ counted (place + size) place (take size items) later (omega (arith, taken))
      (none_before (place + size) (place + size) (drop size items) (omega arith))) in
      let front : take count rest ≡ first = ap (take count) parts ∙ take_at first later count many in
      record {
        long = long;
        fits = fits;
        front = front;
        others = ap (drop count) parts ∙ drop_at first later count many;
        bytes = ap (drop size) b ∙ drop-map value_of size items;
        split =
            row_more segment place size items (omega (arith, long, some)) fits (size_is ∙ filled)
            ∙ ap (λ bs. content_text segment place bs first
            ++ row_text segment (place + size) (drop size items))
            (sym (ap (take size) b ∙ take-map value_of size items))
            ∙ ap (λ fs. content_text segment place (take size left) fs
            ++ row_text segment (place + size) (drop size items))
            (sym front);
      }

  pub run_more :
      (a b c : Option (List ℕ)) (all : List ℕ) → RunLeft segment place left rest a b all
      → Appends b c (content_text segment place (take size left) (take count rest))
      → RunLeft segment (place + size) (drop size left) (drop count rest) a c all
  run_more a b c all h written =
      let k = cut h.items h.bytes h.fixes in
      record {
        items = drop size h.items;
        bytes = k.bytes;
        fixes = k.others;
        written = part_written a b c (content_text segment place (take size left) (take count rest))
            (row_text segment place h.items) (row_text segment (place + size) (drop size h.items))
            all h.written k.split
            written;
      }

  pub run_begun :
      (a b c : Option (List ℕ)) (all : List ℕ) → RunLeft segment place left rest a b all
      → AppendsBeginning b c (content_text segment place (take size left) (take count rest))
      → AppendsBeginning a c all
  run_begun a b c all h written =
      let k = cut h.items h.bytes h.fixes in
      part_begun a b c (content_text segment place (take size left) (take count rest))
      (row_text segment place h.items) (row_text segment (place + size) (drop size h.items)) all
      h.written k.split written

no_items : (items : List SetByte) → length items ≡ 0 → items ≡ []
no_items [] e = refl
no_items (here ∷ items) e = absurd (omega (arith, e))

pub run_ended :
    (segment : Segment) (place : ℕ) (left : List ℕ) (rest : List Fix) (a b : Option (List ℕ)) (all : List ℕ)
    → length left ≡ 0 → RunLeft segment place left rest a b all → Appends a b all
run_ended segment place left rest a b all none h =
    let long : length left ≡ length h.items = ap length h.bytes ∙ length-map h.items value_of in
    whole_appended a b (row_text segment place h.items) all h.written
    (ap (row_text segment place) (no_items h.items (omega (arith, long, none))) ∙ row_ended segment place)

-- Of a segment.
abbrev pub runs_text : Segment → List (Run SetByte) → List ℕ
runs_text segment runs =
    flat_map part_bytes (flat_map (content_parts segment) (flat_map contents_of_run runs))

abbrev pub fixed_by : ObjectModule → Segment → List (Run ℕ) → List (Run SetByte)
fixed_by object segment runs = map (fixed_run (fixes_in object segment)) runs

pub record SegmentLeft (object : ObjectModule) (segment : Segment) (runs : List (Run ℕ)) (rest : List Fix)
    (old new : Option (List ℕ)) : Type 0 where
  pub fixes : rest ≡ flat_map fixes_of_run (fixed_by object segment runs)
  pub order : InOrder 0 (length (places_of object segment)) (fixed_by object segment runs)
  pub written :
      HasWritten old new (runs_text segment (fixed_by object segment runs))
      (flat_map part_bytes (segment_parts object segment))

pub segment_start :
    (object : ObjectModule) (segment : Segment) (runs : List (Run ℕ)) (rest : List Fix)
    (old : Option (List ℕ))
    → runs_from 0 (places_of object segment) ≡ fixed_by object segment runs → rest ≡ fixes_in object segment
    → SegmentLeft object segment runs rest old old
unfolding fixes_in
segment_start object segment runs rest old fixed is =
    let size : 0 + length (places_of object segment) ≡ length (places_of object segment) = omega arith in
    record {
      fixes = is ∙ ap (flat_map fixes_of_run) fixed;
      order =
          subst (InOrder 0 (length (places_of object segment))) fixed
          (subst (λ to. InOrder 0 to (runs_from 0 (places_of object segment))) size
          (runs_in_order 0 (places_of object segment)));
      written =
          subst (λ rs. HasWritten old old (runs_text segment rs)
          (flat_map part_bytes (segment_parts object segment)))
          fixed (none_yet old (flat_map part_bytes (segment_parts object segment)));
    }

runs_more :
    (segment : Segment) (run : Run SetByte) (others : List (Run SetByte))
    → runs_text segment (run ∷ others) ≡ row_text segment run.offset run.items ++ runs_text segment others
unfolding row_text
runs_more segment run others =
    ap (flat_map part_bytes)
    (flat_map-append (content_parts segment) (contents_of_run run) (flat_map contents_of_run others))
    ∙ flat_map-append part_bytes (flat_map (content_parts segment) (contents_of_run run))
    (flat_map (content_parts segment) (flat_map contents_of_run others))

module _ (object : ObjectModule) (segment : Segment) (run : Run ℕ) (others : List (Run ℕ))
    (rest : List Fix) (count : ℕ)
    (count_is : count ≡ count_before rest (run.offset + length run.items)) where
  abbrev items : List SetByte
  items = fixed_bytes (fixes_in object segment) run.offset run.items

  record First : Type 0 where
    front : take count rest ≡ fixes_from run.offset items
    left : drop count rest ≡ flat_map fixes_of_run (fixed_by object segment others)

  first :
      rest ≡ flat_map fixes_of_run (fixed_by object segment (run ∷ others))
      → InOrder 0 (length (places_of object segment)) (fixed_by object segment (run ∷ others)) → First
  first parts o =
      let long : length items ≡ length run.items =
      sym (length-map items value_of) ∙ ap length
      (values_again (fixes_in object segment) run.offset run.items) in
      let own : List Fix = fixes_from run.offset items in
      let later : List Fix = flat_map fixes_of_run (fixed_by object segment others) in
      let many : length own ≡ count =
      sym (count_is ∙ ap (λ fs. count_before fs (run.offset + length run.items)) parts
      ∙ counted (run.offset + length run.items) run.offset items later (omega (arith, long))
      (none_in_runs (run.offset + length run.items) (run.offset + length items)
      (length (places_of object segment))
      (fixed_by object segment others) o.2 (omega (arith, long)))) in
      record {
        front = ap (take count) parts ∙ take_at own later count many;
        left = ap (drop count) parts ∙ drop_at own later count many;
      }

  module _ (a b : Option (List ℕ)) (h : SegmentLeft object segment (run ∷ others) rest a b) where
    same_items : fixed_bytes (take count rest) run.offset run.items ≡ items
    same_items =
        are_fixes_of run.offset items run.items (take count rest)
        (sym (values_again (fixes_in object segment) run.offset run.items)) (first h.fixes h.order).front

    pub fixes_of_first : AreFixesOf run.offset run.items (take count rest)
    fixes_of_first = (first h.fixes h.order).front ∙ ap (fixes_from run.offset) (sym same_items)

    pub first_within : run.offset + length run.items ≤ length (places_of object segment)
    first_within =
        let long : length items ≡ length run.items =
        sym (length-map items value_of) ∙ ap length
        (values_again (fixes_in object segment) run.offset run.items) in
        let ends : run.offset + length items ≤ length (places_of object segment) =
        order_ends (run.offset + length items) (length (places_of object segment))
        (fixed_by object segment others)
        h.order.2 in
        omega (arith, ends, long)

    split :
        runs_text segment (fixed_by object segment (run ∷ others))
        ≡ run_text segment run.offset run.items (take count rest)
        ++ runs_text segment (fixed_by object segment others)
    split =
        runs_more segment (fixed_run (fixes_in object segment) run) (fixed_by object segment others)
        ∙ ap (λ xs. row_text segment run.offset xs ++ runs_text segment (fixed_by object segment others))
        (sym same_items)

    pub segment_more :
        (c : Option (List ℕ)) → Appends b c (run_text segment run.offset run.items (take count rest))
        → SegmentLeft object segment others (drop count rest) a c
    segment_more c written = record {
      fixes = (first h.fixes h.order).left;
      order =
          order_earlier 0 (run.offset + length items) (length (places_of object segment))
          (fixed_by object segment others)
          (omega arith) h.order.2;
      written = part_written a b c (run_text segment run.offset run.items (take count rest))
          (runs_text segment (fixed_by object segment (run ∷ others)))
          (runs_text segment (fixed_by object segment others))
          (flat_map part_bytes (segment_parts object segment))
          h.written split written;
    }

    pub segment_begun :
        (c : Option (List ℕ)) → AppendsBeginning b c (run_text segment run.offset run.items (take count rest))
        → AppendsBeginning a c (flat_map part_bytes (segment_parts object segment))
    segment_begun c written =
        part_begun a b c (run_text segment run.offset run.items (take count rest))
        (runs_text segment (fixed_by object segment (run ∷ others)))
        (runs_text segment (fixed_by object segment others))
        (flat_map part_bytes (segment_parts object segment))
        h.written split written

pub segment_ended :
    (object : ObjectModule) (segment : Segment) (rest : List Fix) (a b : Option (List ℕ))
    → SegmentLeft object segment [] rest a b
    → Appends a b (flat_map part_bytes (segment_parts object segment))
segment_ended object segment rest a b h =
    whole_appended a b [] (flat_map part_bytes (segment_parts object segment)) h.written refl

-- The next run of a segment, as the code has it.
abbrev all_from : List Fix → ℕ → List Fix
all_from fixes first = take (length fixes - first) (drop first fixes)

part_of : (n m : ℕ) → n + m - n ≡ m
part_of n m = omega arith

module _ (object : ObjectModule) (segment : Segment) (runs : List (Run ℕ))
    (index offset first count : ℕ) (run d : Run ℕ)
    (bytes : List ℕ) (fixes : List Fix) (within : index < length runs) (is : run ≡ get_or runs index d)
    (offset_is : offset ≡ run.offset) (bytes_are : bytes ≡ run.items)
    (count_is : count ≡ count_before (all_from fixes first) (offset + length bytes)) (a b : Option (List ℕ))
    (h : SegmentLeft object segment (drop index runs) (drop first fixes) a b) where
  abbrev later : List (Run ℕ)
  later = drop (index + 1) runs

  abbrev rest : List Fix
  rest = drop first fixes

  abbrev cited : List Fix
  cited = take (first + count - first) rest

  here : SegmentLeft object segment (run ∷ later) rest a b
  here =
      subst (λ rs. SegmentLeft object segment rs rest a b)
      (drop_more runs index d within ∙ ap (λ r. r ∷ later) (sym is)) h

  its_count : count ≡ count_before rest (run.offset + length run.items)
  its_count =
      count_is ∙ ap (λ fs. count_before fs (offset + length bytes)) (take_rest fixes first)
      ∙ ap (λ o. count_before rest (o + length bytes)) offset_is
      ∙ ap (λ bs. count_before rest (run.offset + length bs)) bytes_are

  cited_are : cited ≡ take count rest
  cited_are = ap (λ n. take n rest) (part_of first count)

  its_text : run_text segment offset bytes cited ≡ run_text segment run.offset run.items (take count rest)
  its_text =
      ap (λ o. run_text segment o bytes cited) offset_is
      ∙ ap (λ bs. run_text segment run.offset bs cited) bytes_are
      ∙ ap (run_text segment run.offset run.items) cited_are

  pub next_fixes : AreFixesOf offset bytes cited
  next_fixes =
      subst (λ o. AreFixesOf o bytes cited) (sym offset_is)
      (subst (λ bs. AreFixesOf run.offset bs cited) (sym bytes_are)
      (subst (AreFixesOf run.offset run.items) (sym cited_are)
      (fixes_of_first object segment run later rest count its_count a b here)))

  pub next_within : length (places_of object segment) ≤ 65535 → offset + length bytes ≤ 65535
  next_within few =
      let ends : run.offset + length run.items ≤ length (places_of object segment) =
      first_within object segment run later rest count its_count a b here in
      let long : length bytes ≡ length run.items = ap length bytes_are in
      omega (arith, ends, few, long, offset_is)

  pub next_more :
      (c : Option (List ℕ)) → Appends b c (run_text segment offset bytes cited)
      → SegmentLeft object segment later (drop (first + count) fixes) a c
  next_more c written =
      subst (λ fs. SegmentLeft object segment later fs a c) (drop-drop count first fixes)
      (segment_more object segment run later rest count its_count a b here c
      (subst (Appends b c) its_text written))

  pub next_begun :
      (c : Option (List ℕ)) → AppendsBeginning b c (run_text segment offset bytes cited)
      → AppendsBeginning a c (flat_map part_bytes (segment_parts object segment))
  next_begun c written =
      segment_begun object segment run later rest count its_count a b here c
      (subst (AppendsBeginning b c) its_text written)

pub all_runs :
    (object : ObjectModule) (segment : Segment) (runs : List (Run ℕ)) (index : ℕ) (rest : List Fix)
    → (a b : Option (List ℕ)) → length runs ≤ index → SegmentLeft object segment (drop index runs) rest a b
    → Appends a b (flat_map part_bytes (segment_parts object segment))
all_runs object segment runs index rest a b past h =
    segment_ended object segment rest a b
    (subst (λ rs. SegmentLeft object segment rs rest a b) (drop_all index runs past) h)

-- The next content of a run, as the code has it.
module _ (segment : Segment) (offset at first size count place : ℕ) (bytes : List ℕ) (fixes : List Fix)
    (within : at < length bytes) (place_is : place ≡ offset + at)
    (size_is : size ≡ cut_by (all_from fixes first) place (length bytes - at))
    (count_is : count ≡ count_before (all_from fixes first) (place + size))
    (a b : Option (List ℕ)) (all : List ℕ)
    (h : RunLeft segment (offset + at) (drop at bytes) (drop first fixes) a b all) where
  abbrev cited_fixes : List Fix
  cited_fixes = take (first + count - first) (drop first fixes)

  abbrev shown : List ℕ
  shown = take (at + size - at) (drop at bytes)

  at_place : RunLeft segment place (drop at bytes) (drop first fixes) a b all
  at_place = subst (λ p. RunLeft segment p (drop at bytes) (drop first fixes) a b all) (sym place_is) h

  long : length bytes - at ≡ length (drop at bytes)
  long = sym (length-drop at bytes)

  some : 0 < length (drop at bytes)
  some = omega (arith, long, within)

  its_size : size ≡ cut_by (drop first fixes) place (length (drop at bytes))
  its_size =
      size_is ∙ ap (λ fs. cut_by fs place (length bytes - at)) (take_rest fixes first)
      ∙ ap (cut_by (drop first fixes) place) long

  the_count : count ≡ count_before (drop first fixes) (place + size)
  the_count = count_is ∙ ap (λ fs. count_before fs (place + size)) (take_rest fixes first)

  parts_are :
      content_text segment place shown cited_fixes
      ≡ content_text segment place (take size (drop at bytes)) (take count (drop first fixes))
  parts_are =
      ap (λ n. content_text segment place (take n (drop at bytes)) cited_fixes) (part_of at size)
      ∙ ap (λ n. content_text segment place (take size (drop at bytes)) (take n (drop first fixes)))
      (part_of first count)

  pub next_cut :
      (c : Option (List ℕ)) → Appends b c (content_text segment place shown cited_fixes)
      → RunLeft segment (offset + (at + size)) (drop (at + size) bytes) (drop (first + count) fixes) a c all
  next_cut c written =
      let there : place + size ≡ offset + (at + size) = omega (arith, place_is) in
      subst (λ p. RunLeft segment p (drop (at + size) bytes) (drop (first + count) fixes) a c all) there
      (subst (λ bs. RunLeft segment (place + size) bs (drop (first + count) fixes) a c all)
      (drop-drop size at bytes)
      (subst (λ fs. RunLeft segment (place + size) (drop size (drop at bytes)) fs a c all)
      (drop-drop count first fixes)
      (run_more segment place size count (drop at bytes) (drop first fixes) some its_size
      the_count a b c all at_place
      (subst (Appends b c) parts_are written))))

  pub next_cut_begun :
      (c : Option (List ℕ)) → AppendsBeginning b c (content_text segment place shown cited_fixes)
      → AppendsBeginning a c all
  next_cut_begun c written =
      run_begun segment place size count (drop at bytes) (drop first fixes) some its_size
      the_count a b c all at_place
      (subst (AppendsBeginning b c) parts_are written)

pub all_cuts :
    (segment : Segment) (place at : ℕ) (bytes : List ℕ) (rest : List Fix)
    (a b : Option (List ℕ)) (all : List ℕ)
    → length bytes ≤ at → RunLeft segment place (drop at bytes) rest a b all → Appends a b all
all_cuts segment place at bytes rest a b all past h =
    run_ended segment place (drop at bytes) rest a b all (omega (arith, length-drop at bytes, past)) h
