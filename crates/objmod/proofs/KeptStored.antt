-- What is kept of the contents of a segment is what each segment that is kept keeps to.
use Rattle.objmod.proofs.Prelude.{◌≡◌, ℕ, zero, suc, ◌+◌, ◌<◌, ◌≤◌, Bool, true, false, cond, not, ◌&&◌, ◌||◌, ◌==◌, nat_lt, nat_le, List, [], ◌∷◌, ◌++◌, length, flat_map, filter, Option, Some, None, refl, sym, subst, arith, list_all, and_from, eqb-true, eqb-false, leb-true, le-leb, lt-ltb, length-append, same_Some, Alignment, Fix, FixKind, Low, High, Both, Segment, content_end, is_empty, is_both, width_of, Content, fix_end, is_within, FixedContent, IsStored, are_longest, content_of_run, fixes_ascend, is_in_a_run, Run, Longest, beyond_less, run_at, before_kept, open_run, is_in, runs_kept, fix_at, fix_table, listed, fixes_by_place, kept_segment, Placed, Clear, AllFit, and_parts, or_left, or_right}
use Rattle.objmod.proofs.Kept.{found_there}

-- The runs.
abbrev From : ℕ → List (Run ℕ) → Type 0
From end [] = Unit {0}
From end (run ∷ others) = end ≤ run.offset

-- runs that begin at a place or later, and are the longest
record Lie (size end : ℕ) (runs : List (Run ℕ)) : Type 0 where
  from : From end runs
  long : Longest size runs

from_less : (a b : ℕ) (runs : List (Run ℕ)) → a ≤ b → From b runs → From a runs
from_less a b [] h from = tt
from_less a b (run ∷ others) h from = omega arith

before_lie :
    (size end offset first : ℕ) (items : List ℕ) (runs : List (Run ℕ)) → end ≤ offset
    → offset + length (first ∷ items) ≤ size → Lie size (offset + length (first ∷ items)) runs
    → Lie size end (before_kept offset (first ∷ items) runs)
before_lie size end offset first items [] begins ends lie =
    record { from = begins; long = (omega arith, ends, tt, tt) }
before_lie size end offset first items (next ∷ others) begins ends lie =
    go (next.offset == offset + length (first ∷ items)) refl
  where
    sized : length ((first ∷ items) ++ next.items) ≡ length (first ∷ items) + length next.items
    sized = length-append (first ∷ items) next.items

    go : (b : Bool) → (next.offset == offset + length (first ∷ items)) ≡ b
        → Lie size end
        (cond b (run_at offset ((first ∷ items) ++ next.items) ∷ others)
        (run_at offset (first ∷ items) ∷ next ∷ others))
    go true e =
        let is : next.offset ≡ offset + length (first ∷ items) =
        eqb-true next.offset (offset + length (first ∷ items)) e in
        let long : Longest size (next ∷ others) = lie.long in
        let reach : next.offset + length next.items ≤ size = long.1 in
        let last : offset + length ((first ∷ items) ++ next.items) ≡ next.offset + length next.items =
        omega (arith, is, sized) in
        record {
          from = begins;
          long = (
            omega (arith, sized),
            omega (arith, last, reach),
            beyond_less (offset + length ((first ∷ items) ++ next.items))
                (next.offset + length next.items) others
                (omega (arith, last)) long.2,
            long.3,
          );
        }
    go false e =
        let apart : next.offset ≡ offset + length (first ∷ items) → ⊥ =
        eqb-false next.offset (offset + length (first ∷ items)) e in
        let least : offset + length (first ∷ items) ≤ next.offset = lie.from in
        let after : offset + length (first ∷ items) < next.offset = omega (arith, apart) in
        let long : Longest size (next ∷ others) = lie.long in
        record {
          from = begins;
          long = (
            omega arith,
            ends,
            (
              after,
              beyond_less (offset + length (first ∷ items)) (next.offset + length next.items) others
                  (omega arith) long.2,
            ),
            long,
          );
        }

open_lie :
    (size end offset : ℕ) (bytes : List ℕ) (runs : List (Run ℕ)) → end ≤ offset → offset + length bytes ≤ size
    → Lie size (offset + length bytes) runs → Lie size end (open_run offset bytes runs)
open_lie size end offset [] runs begins ends lie =
    record {
      from = from_less end (offset + length {A = ℕ} []) runs (omega arith) lie.from;
      long = lie.long;
    }
open_lie size end offset (first ∷ items) runs begins ends lie =
    before_lie size end offset first items runs begins ends lie

kept_lie :
    (size end : ℕ) (contents : List FixedContent) → Placed size end contents
    → Lie size end (runs_kept contents)
kept_lie size end [] placed = record { from = tt; long = tt }
kept_lie size end (fixed ∷ others) placed =
    open_lie size end (fixed.content).offset (fixed.content).bytes (runs_kept others) placed.0 placed.1
    (kept_lie size (content_end fixed.content) others placed.2)

not_empty : (items : List ℕ) → 0 < length items → not (is_empty items) ≡ true
not_empty [] h = absurd (omega arith)
not_empty (first ∷ items) h = refl

longest_again : (size : ℕ) (runs : List (Run ℕ)) → Longest size runs → are_longest size runs ≡ true
longest_again size [] long = refl
longest_again size (run ∷ []) long =
    and_from (not (is_empty run.items)) (nat_le (run.offset + length run.items) size)
    (not_empty run.items long.0)
    (le-leb (run.offset + length run.items) size long.1)
longest_again size (run ∷ next ∷ others) long =
    and_from (not (is_empty run.items) && nat_lt (run.offset + length run.items) next.offset)
    (are_longest size (next ∷ others))
    (and_from (not (is_empty run.items)) (nat_lt (run.offset + length run.items) next.offset)
    (not_empty run.items long.0) (lt-ltb (run.offset + length run.items) next.offset (long.2).0))
    (longest_again size (next ∷ others) long.3)

-- The fixes.
-- fixes from a place on, each after the one before it
abbrev Chain : ℕ → List Fix → Type 0
Chain end [] = Unit {0}
Chain end (fix ∷ others) = (end ≤ fix.offset) × Chain (fix_end fix) others

chain_less : (a b : ℕ) (fixes : List Fix) → a ≤ b → Chain b fixes → Chain a fixes
chain_less a b [] h chain = tt
chain_less a b (fix ∷ others) h chain = let here : b ≤ fix.offset = chain.0 in (omega arith, chain.1)

narrow : (fix : Fix) → is_both fix.kind ≡ false → fix_end fix ≡ fix.offset + 1
narrow fix h = go fix.kind h
  where
    go : (kind : FixKind) → is_both kind ≡ false → fix.offset + width_of kind ≡ fix.offset + 1
    go Low h = refl
    go High h = refl
    go Both h = absurd (let bad : true ≡ false = h in cc)

wide : (fix : Fix) → fix_end fix ≤ fix.offset + 2
wide fix = go fix.kind
  where
    go : (kind : FixKind) → fix.offset + width_of kind ≤ fix.offset + 2
    go Low = omega arith
    go High = omega arith
    go Both = omega arith

abbrev Chains : List Fix → ℕ → Type 0
Chains fixes count = (offset : ℕ) → Chain offset (listed (fix_table fixes offset count))

-- after a word no fix begins at its second byte
chain_after_word :
    (fixes : List Fix) (count offset : ℕ) → fix_at fixes (offset + 1) ≡ None
    → ((less : ℕ) → suc less ≡ count → Chains fixes less)
    → Chain (offset + 2) (listed (fix_table fixes (offset + 1) count))
chain_after_word fixes zero offset none chains = tt
chain_after_word fixes (suc count) offset none chains =
    let rest : Chain (offset + 1 + 1) (listed (fix_table fixes (offset + 1 + 1) count)) =
    chains count refl (offset + 1 + 1) in
    subst (λ slot. Chain (offset + 2) (listed (slot ∷ fix_table fixes (offset + 1 + 1) count))) (sym none)
    (chain_less (offset + 2) (offset + 1 + 1)
    (listed (fix_table fixes (offset + 1 + 1) count)) (omega arith) rest)

one_more_place :
    (fixes : List Fix) → Clear fixes → (count : ℕ) → Chains fixes count
    → ((less : ℕ) → suc less ≡ count → Chains fixes less) → Chains fixes (suc count)
one_more_place fixes clear count chains less offset = go (fix_at fixes offset) refl
  where
    after : (fix : Fix) → fix_at fixes offset ≡ Some fix → (b : Bool) → is_both fix.kind ≡ b
        → fix.offset ≡ offset → Chain (fix_end fix) (listed (fix_table fixes (offset + 1) count))
    after fix e true f is =
        let within : fix_end fix ≤ offset + 2 = let w = wide fix in omega (arith, is, w) in
        chain_less (fix_end fix) (offset + 2) (listed (fix_table fixes (offset + 1) count)) within
        (chain_after_word fixes count offset (clear offset fix e f) less)
    after fix e false f is =
        let end : fix_end fix ≤ offset + 1 = let w = narrow fix f in omega (arith, is, w) in
        chain_less (fix_end fix) (offset + 1) (listed (fix_table fixes (offset + 1) count)) end
        (chains (offset + 1))

    go : (slot : Option Fix) → fix_at fixes offset ≡ slot
        → Chain offset (listed (slot ∷ fix_table fixes (offset + 1) count))
    go None e =
        chain_less offset (offset + 1) (listed (fix_table fixes (offset + 1) count)) (omega arith)
        (chains (offset + 1))
    go (Some fix) e =
        let is : fix.offset ≡ offset = found_there fixes offset fix e in
        (omega (arith, is), after fix e (is_both fix.kind) refl is)

-- the chains of a count, and of the one before it
record Both_chains (fixes : List Fix) (count : ℕ) : Type 0 where
  here : Chains fixes count
  less : (less : ℕ) → suc less ≡ count → Chains fixes less

chains_of : (fixes : List Fix) → Clear fixes → (count : ℕ) → Both_chains fixes count
chains_of fixes clear zero = record {
  here = λ offset. tt;
  less = λ less e. absurd (omega (arith, e));
}
chains_of fixes clear (suc count) =
    let before = chains_of fixes clear count in
    record {
      here = one_more_place fixes clear count before.here before.less;
      less = λ less e.
          let is : less ≡ count = omega (arith, e) in subst (Chains fixes) (sym is) before.here;
    }

abbrev Below : ℕ → List Fix → Type 0
Below end [] = Unit {0}
Below end (fix ∷ others) = (fix_end fix ≤ end) × Below end others

chain_append :
    (end middle : ℕ) (xs ys : List Fix) → end ≤ middle → Chain end xs → Below middle xs → Chain middle ys
    → Chain end (xs ++ ys)
chain_append end middle [] ys h chain below rest = chain_less end middle ys h rest
chain_append end middle (fix ∷ xs) ys h chain below rest =
    (chain.0, chain_append (fix_end fix) middle xs ys below.0 chain.1 below.1 rest)

-- what holds of all fixes holds of those in a table
found_all :
    (p : Fix → Bool) (fixes : List Fix) (x : ℕ) (fix : Fix) → list_all p fixes ≡ true
    → fix_at fixes x ≡ Some fix → p fix ≡ true
found_all p [] x fix all h = absurd (let bad : None ≡ Some fix = h in cc)
found_all p (first ∷ others) x fix all h =
    go (first.offset == x) h (and_parts (p first) (list_all p others) all) (found_all p others x fix)
  where
    go : (b : Bool) → cond b (Some first) (fix_at others x) ≡ Some fix
        → (p first ≡ true) × (list_all p others ≡ true)
        → (list_all p others ≡ true → fix_at others x ≡ Some fix → p fix ≡ true) → p fix ≡ true
    go true k parts later = subst (λ f. p f ≡ true) (same_Some first fix k) parts.0
    go false k parts later = later parts.1 k

listed_all :
    (p : Fix → Bool) (fixes : List Fix) → list_all p fixes ≡ true → (count offset : ℕ)
    → list_all p (listed (fix_table fixes offset count)) ≡ true
listed_all p fixes all zero offset = refl
listed_all p fixes all (suc count) offset =
    go (fix_at fixes offset) refl (listed_all p fixes all count (offset + 1))
  where
    go : (slot : Option Fix) → fix_at fixes offset ≡ slot
        → list_all p (listed (fix_table fixes (offset + 1) count)) ≡ true
        → list_all p (listed (slot ∷ fix_table fixes (offset + 1) count)) ≡ true
    go None e later = later
    go (Some fix) e later =
        and_from (p fix) (list_all p (listed (fix_table fixes (offset + 1) count)))
        (found_all p fixes offset fix all e)
        later

within_below :
    (content : Content) (fixes : List Fix) → list_all (is_within content) fixes ≡ true
    → Below (content_end content) fixes
within_below content [] all = tt
within_below content (fix ∷ others) all =
    let parts = and_parts (is_within content fix) (list_all (is_within content) others) all in
    let within =
    and_parts (nat_le content.offset fix.offset) (nat_le (fix_end fix) (content_end content)) parts.0 in
    (leb-true (fix_end fix) (content_end content) within.1, within_below content others parts.1)

kept_chain :
    (size end : ℕ) (contents : List FixedContent) → Placed size end contents → AllFit contents
    → Chain end (flat_map fixes_by_place contents)
kept_chain size end [] placed fit = tt
kept_chain size end (fixed ∷ others) placed fit =
    let begins : end ≤ (fixed.content).offset = placed.0 in
    let count : ℕ = length (fixed.content).bytes in
    let own = chains_of fixed.fixes fit.1 count in
    chain_append end (content_end fixed.content) (fixes_by_place fixed) (flat_map fixes_by_place others)
    (omega arith)
    (chain_less end (fixed.content).offset (fixes_by_place fixed) begins (own.here (fixed.content).offset))
    (within_below fixed.content (fixes_by_place fixed)
    (listed_all (is_within fixed.content) fixed.fixes fit.0 count (fixed.content).offset))
    (kept_chain size (content_end fixed.content) others placed.2 fit.2)

ascend_again : (end : ℕ) (fixes : List Fix) → Chain end fixes → fixes_ascend fixes ≡ true
ascend_again end [] chain = refl
ascend_again end (fix ∷ []) chain = refl
ascend_again end (fix ∷ next ∷ others) chain =
    and_from (nat_le (fix_end fix) next.offset) (fixes_ascend (next ∷ others))
    (le-leb (fix_end fix) next.offset (chain.1).0)
    (ascend_again (fix_end fix) (next ∷ others) chain.1)

or_either : (a b c : Bool) → (a || b) ≡ true → (a ≡ true → c ≡ true) → (c || b) ≡ true
or_either true b c h more = or_left c b (more refl)
or_either false b c h more = or_right c b h

some_width : (fix : Fix) → fix.offset + 1 ≤ fix_end fix
some_width fix = go fix.kind
  where
    go : (kind : FixKind) → fix.offset + 1 ≤ fix.offset + width_of kind
    go Low = omega arith
    go High = omega arith
    go Both = omega arith

-- what is within bytes is within more of them
wider :
    (segment : Segment) (offset : ℕ) (bytes more : List ℕ) (fix : Fix)
    → is_within (content_of_run segment (run_at offset bytes)) fix ≡ true
    → is_within (content_of_run segment (run_at offset (bytes ++ more))) fix ≡ true
wider segment offset bytes more fix h =
    let parts = and_parts (nat_le offset fix.offset) (nat_le (fix_end fix) (offset + length bytes)) h in
    let ends : fix_end fix ≤ offset + length bytes = leb-true (fix_end fix) (offset + length bytes) parts.1 in
    let sized : length (bytes ++ more) ≡ length bytes + length more = length-append bytes more in
    and_from (nat_le offset fix.offset) (nat_le (fix_end fix) (offset + length (bytes ++ more))) parts.0
    (le-leb (fix_end fix) (offset + length (bytes ++ more)) (omega (arith, sized, ends)))

within_open :
    (segment : Segment) (offset : ℕ) (bytes : List ℕ) (runs : List (Run ℕ)) (fix : Fix)
    → is_within (content_of_run segment (run_at offset bytes)) fix ≡ true
    → is_in_a_run segment (open_run offset bytes runs) fix ≡ true
within_open segment offset [] runs fix h =
    let parts = and_parts (nat_le offset fix.offset) (nat_le (fix_end fix) (offset + length {A = ℕ} [])) h in
    let starts : offset ≤ fix.offset = leb-true offset fix.offset parts.0 in
    let ends : fix_end fix ≤ offset + length {A = ℕ} [] =
    leb-true (fix_end fix) (offset + length {A = ℕ} []) parts.1 in
    let some : fix.offset + 1 ≤ fix_end fix = some_width fix in
    absurd (omega (arith, starts, ends, some))
within_open segment offset (first ∷ items) [] fix h =
    or_left (is_within (content_of_run segment (run_at offset (first ∷ items))) fix) false h
within_open segment offset (first ∷ items) (next ∷ others) fix h =
    go (next.offset == offset + length (first ∷ items))
  where
    go : (b : Bool)
        → is_in_a_run segment
        (cond b (run_at offset ((first ∷ items) ++ next.items) ∷ others)
        (run_at offset (first ∷ items) ∷ next ∷ others))
        fix ≡ true
    go true =
        or_left (is_within (content_of_run segment (run_at offset ((first ∷ items) ++ next.items))) fix)
        (is_in_a_run segment others fix) (wider segment offset (first ∷ items) next.items fix h)
    go false =
        or_left (is_within (content_of_run segment (run_at offset (first ∷ items))) fix)
        (is_in_a_run segment (next ∷ others) fix) h

later_open :
    (segment : Segment) (offset : ℕ) (bytes : List ℕ) (runs : List (Run ℕ)) (fix : Fix)
    → is_in_a_run segment runs fix ≡ true → is_in_a_run segment (open_run offset bytes runs) fix ≡ true
later_open segment offset [] runs fix h = h
later_open segment offset (first ∷ items) [] fix h = absurd (let bad : false ≡ true = h in cc)
later_open segment offset (first ∷ items) (next ∷ others) fix h =
    go (next.offset == offset + length (first ∷ items)) refl
  where
    joins : next.offset ≡ offset + length (first ∷ items)
        → is_within (content_of_run segment next) fix ≡ true
        → is_within (content_of_run segment (run_at offset ((first ∷ items) ++ next.items))) fix ≡ true
    joins is k =
        let parts =
        and_parts (nat_le next.offset fix.offset)
        (nat_le (fix_end fix) (next.offset + length next.items)) k in
        let starts : next.offset ≤ fix.offset = leb-true next.offset fix.offset parts.0 in
        let ends : fix_end fix ≤ next.offset + length next.items =
        leb-true (fix_end fix) (next.offset + length next.items) parts.1 in
        let sized : length ((first ∷ items) ++ next.items) ≡ length (first ∷ items) + length next.items =
        length-append (first ∷ items) next.items in
        and_from (nat_le offset fix.offset)
        (nat_le (fix_end fix) (offset + length ((first ∷ items) ++ next.items)))
        (le-leb offset fix.offset (omega (arith, is, starts)))
        (le-leb (fix_end fix) (offset + length ((first ∷ items) ++ next.items))
        (omega (arith, is, sized, ends)))

    go : (b : Bool) → (next.offset == offset + length (first ∷ items)) ≡ b
        → is_in_a_run segment
        (cond b (run_at offset ((first ∷ items) ++ next.items) ∷ others)
        (run_at offset (first ∷ items) ∷ next ∷ others)) fix ≡ true
    go true e =
        or_either (is_within (content_of_run segment next) fix) (is_in_a_run segment others fix)
        (is_within (content_of_run segment (run_at offset ((first ∷ items) ++ next.items))) fix) h
        (joins (eqb-true next.offset (offset + length (first ∷ items)) e))
    go false e =
        or_right (is_within (content_of_run segment (run_at offset (first ∷ items))) fix)
        (is_in_a_run segment (next ∷ others) fix) h

all_less :
    (p q : Fix → Bool) (fixes : List Fix) → ((fix : Fix) → p fix ≡ true → q fix ≡ true)
    → list_all p fixes ≡ true → list_all q fixes ≡ true
all_less p q [] less h = refl
all_less p q (fix ∷ others) less h =
    let parts = and_parts (p fix) (list_all p others) h in
    and_from (q fix) (list_all q others) (less fix parts.0) (all_less p q others less parts.1)

all_append :
    (p : Fix → Bool) (xs ys : List Fix) → list_all p xs ≡ true → list_all p ys ≡ true
    → list_all p (xs ++ ys) ≡ true
all_append p [] ys h k = k
all_append p (fix ∷ xs) ys h k =
    let parts = and_parts (p fix) (list_all p xs) h in
    and_from (p fix) (list_all p (xs ++ ys)) parts.0 (all_append p xs ys parts.1 k)

kept_within :
    (segment : Segment) (contents : List FixedContent) → AllFit contents
    → list_all (is_in_a_run segment (runs_kept contents)) (flat_map fixes_by_place contents) ≡ true
kept_within segment [] fit = refl
kept_within segment (fixed ∷ others) fit =
    let offset : ℕ = (fixed.content).offset in
    let bytes : List ℕ = (fixed.content).bytes in
    all_append (is_in_a_run segment (runs_kept (fixed ∷ others))) (fixes_by_place fixed)
    (flat_map fixes_by_place others)
    (all_less (is_within fixed.content) (is_in_a_run segment (runs_kept (fixed ∷ others)))
    (fixes_by_place fixed)
    (λ fix h. within_open segment (fixed.content).offset (fixed.content).bytes (runs_kept others) fix h)
    (listed_all (is_within fixed.content) fixed.fixes fit.0 (length bytes) offset))
    (all_less (is_in_a_run segment (runs_kept others)) (is_in_a_run segment (runs_kept (fixed ∷ others)))
    (flat_map fixes_by_place others)
    (λ fix h. later_open segment (fixed.content).offset (fixed.content).bytes (runs_kept others) fix h)
    (kept_within segment others fit.2))

-- what is kept of contents that ascend, whose fixes are within them and apart
pub kept_stored :
    (size : ℕ) (alignment : Alignment) (segment : Segment) (contents : List FixedContent)
    → Placed size 0 (filter (is_in segment) contents) → AllFit (filter (is_in segment) contents)
    → IsStored segment (kept_segment size alignment segment contents)
kept_stored size alignment segment contents placed fit =
    let own : List FixedContent = filter (is_in segment) contents in
    let lie = kept_lie size 0 own placed in
    record {
      runs = longest_again size (runs_kept own) lie.long;
      ascending = ascend_again 0 (flat_map fixes_by_place own) (kept_chain size 0 own placed fit);
      fixes = kept_within segment own fit;
    }
