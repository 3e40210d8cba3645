-- Files that are written, and those that stay.
use Rattle.object_commands.proofs.Prelude.{◌≡◌, ℕ, ◌+◌, ◌<◌, ◌≤◌, Bool, true, false, List, [], ◌++◌, Option, None, Some, inl, inr, length, take, drop, refl, sym, ap, subst, ◌∙◌, arith, unwrap_or, if◌then◌else◌, bytes_eq, bytes_eq-Decides, take-add, take-length, take-append-drop, BeginsFile, ChangesFiles, Directory, GrowsFile, KeepsFiles, with_file, text_of, IsBeginning, HasFiles, stays_on, Merges, WritesMerge, KeepsOthers, LinksFiles, MergesTo, StopsLinking, StopsWriting}

-- a file that was begun is empty
pub file_begun : (old new : Option Directory) (name bytes : List ℕ) → BeginsFile old new name
    → ChangesFiles old new (with_file name (take 0 bytes))
file_begun old new name bytes begins = begins

with_more : (old now new : Directory) (name xs ys : List ℕ)
    → ((other : List ℕ) → now other ≡ with_file name xs old other)
    → ((other : List ℕ) → new other ≡ with_file name (unwrap_or (now name) [] ++ ys) now other)
    → (other : List ℕ) → new other ≡ with_file name (xs ++ ys) old other
with_more old now new name xs ys before after other = after other ∙ go (bytes_eq other name) refl
  where
    here : now name ≡ Some xs
    here = before name ∙ rw ((bytes_eq-Decides name name).1 refl) refl

    go : (t : Bool) → bytes_eq other name ≡ t
        → with_file name (unwrap_or (now name) [] ++ ys) now other ≡ with_file name (xs ++ ys) old other
    go true e = rw (e, here) refl
    go false e = rw e (before other ∙ rw e refl)

-- what was sent grows by what was taken
pub file_grown : (old now new : Option Directory) (name bytes next : List ℕ) (sent count : ℕ)
    → next ≡ take count (drop sent bytes) → ChangesFiles old now (with_file name (take sent bytes))
    → GrowsFile now new name next → ChangesFiles old new (with_file name (take (sent + count) bytes))
file_grown None now new name bytes next sent count e before after = tt
file_grown (Some old) None new name bytes next sent count e before after = absurd before
file_grown (Some old) (Some now) None name bytes next sent count e before after = absurd after
file_grown (Some old) (Some now) (Some new) name bytes next sent count e before after =
    let whole : take (sent + count) bytes ≡ take sent bytes ++ next =
    take-add sent count bytes ∙ ap (λ (l : List ℕ). take sent bytes ++ l) (sym e) in
    λ other. with_more old now new name (take sent bytes) next before after other
    ∙ ap (λ (l : List ℕ). with_file name l old other) (sym whole)

-- once all was sent the file has all
pub written_whole : (old new : Option Directory) (name bytes : List ℕ) (sent : ℕ) → sent ≤ length bytes
    → (sent < length bytes → ⊥)
    → ChangesFiles old new (with_file name (take sent bytes)) → ChangesFiles old new (with_file name bytes)
written_whole old new name bytes sent fits done written =
    let all : sent ≡ length bytes = omega arith in
    subst (λ (l : List ℕ). ChangesFiles old new (with_file name l))
    (ap (λ (k : ℕ). take k bytes) all ∙ take-length bytes) written

-- a file that is written leaves the others
pub written_others : (old new : Option Directory) (name bytes : List ℕ)
    → ChangesFiles old new (with_file name bytes) → KeepsOthers old new name
written_others None new name bytes written = tt
written_others (Some old) None name bytes written = absurd written
written_others (Some old) (Some new) name bytes written = λ other e. written other ∙ rw e refl

pub kept_others : (old new : Option Directory) (name : List ℕ) → KeepsFiles old new → KeepsOthers old new name
kept_others None new name kept = tt
kept_others (Some old) None name kept = absurd kept
kept_others (Some old) (Some new) name kept = λ other e. kept other

pub others_then_kept : (old now new : Option Directory) (name : List ℕ) → KeepsOthers old now name
    → KeepsFiles now new → KeepsOthers old new name
others_then_kept None now new name before after = tt
others_then_kept (Some old) None new name before after = absurd before
others_then_kept (Some old) (Some now) None name before after = absurd after
others_then_kept (Some old) (Some now) (Some new) name before after = λ other e. after other ∙ before other e

pub kept_then_others : (old now new : Option Directory) (name : List ℕ) → KeepsFiles old now
    → KeepsOthers now new name → KeepsOthers old new name
kept_then_others None now new name before after = tt
kept_then_others (Some old) None new name before after = absurd before
kept_then_others (Some old) (Some now) None name before after = absurd after
kept_then_others (Some old) (Some now) (Some new) name before after = λ other e. after other e ∙ before other

pub kept_then_written : (old now new : Option Directory) (name bytes : List ℕ) → KeepsFiles old now
    → ChangesFiles now new (with_file name bytes)
    → ChangesFiles old new (with_file name bytes)
kept_then_written None now new name bytes before after = tt
kept_then_written (Some old) None new name bytes before after = absurd before
kept_then_written (Some old) (Some now) None name bytes before after = absurd after
kept_then_written (Some old) (Some now) (Some new) name bytes before after =
    λ other. after other ∙ go (bytes_eq other name) other
  where
    go : (t : Bool) (other : List ℕ) → (if t then Some bytes else now other)
        ≡ (if t then Some bytes else old other)
    go true other = refl
    go false other = before other

-- a file that could not be begun
pub not_begun : (old new : Option Directory) (name bytes : List ℕ) → KeepsFiles old new
    → StopsWriting old new name bytes
not_begun old new name bytes kept = inl kept

written_then_kept : (old now new : Option Directory) (name bytes : List ℕ)
    → ChangesFiles old now (with_file name bytes) → KeepsFiles now new
    → ChangesFiles old new (with_file name bytes)
written_then_kept None now new name bytes before after = tt
written_then_kept (Some old) None new name bytes before after = absurd before
written_then_kept (Some old) (Some now) None name bytes before after = absurd after
written_then_kept (Some old) (Some now) (Some new) name bytes before after =
    λ other. after other ∙ before other

-- a file of which a beginning was sent when a call failed
pub stopped_midway : (old now new : Option Directory) (name bytes : List ℕ) (sent : ℕ)
    → ChangesFiles old now (with_file name (take sent bytes)) → KeepsFiles now new
    → StopsWriting old new name bytes
stopped_midway old now new name bytes sent before after =
    inr (take sent bytes, (drop sent bytes, sym (take-append-drop sent bytes)), written_then_kept old now new name (take sent bytes) before after)

-- what was not written whole leaves the others
pub kept_then_stopped : (old now new : Option Directory) (name bytes : List ℕ) → KeepsFiles old now
    → StopsWriting now new name bytes → KeepsOthers old new name
kept_then_stopped old now new name bytes kept (inl stays) =
    kept_then_others old now new name kept (kept_others now new name stays)
kept_then_stopped old now new name bytes kept (inr (sent, is, written)) =
    kept_then_others old now new name kept (written_others now new name sent written)

-- what a writer has that was empty is the text of the merge
pub merges_to : (slices texts : List (List ℕ)) (bytes : List ℕ) → slices ≡ texts
    → WritesMerge slices (Some []) (Some bytes) → MergesTo texts bytes
merges_to slices texts bytes same w =
    record { object = w.object; merges = subst (λ (l : List (List ℕ)). Merges l w.object) same w.merges; text = w.written }

-- files that were read and then merged
pub links_files : (old now new : Option Directory) (names texts : List (List ℕ)) (out bytes : List ℕ)
    → KeepsFiles old now → HasFiles old names texts → MergesTo texts bytes
    → ChangesFiles now new (with_file out bytes) → LinksFiles old new names out
links_files old now new names texts out bytes kept read m written = record {
  texts = texts;
  read = read;
  object = m.object;
  merges = m.merges;
  written =
      kept_then_written old now new out (text_of m.object) kept
      (subst (λ (l : List ℕ). ChangesFiles now new (with_file out l)) m.text written);
}

-- files that were not linked
pub not_linked : (old new : Option Directory) (names : List (List ℕ)) (out : List ℕ) → KeepsFiles old new
    → StopsLinking old new names out
not_linked old new names out kept = inl kept

-- files that were read and merged, but not written whole
pub stops_linking : (old now new : Option Directory) (names texts : List (List ℕ)) (out bytes : List ℕ)
    → KeepsFiles old now → HasFiles old names texts → MergesTo texts bytes
    → StopsWriting now new out bytes → StopsLinking old new names out
stops_linking old now new names texts out bytes kept read m (inl stays) =
    inl (stays_on old now new kept stays)
stops_linking old now new names texts out bytes kept read m (inr (sent, is, written)) = inr (record {
  texts = texts;
  read = read;
  object = m.object;
  merges = m.merges;
  written =
      (sent, subst (λ (l : List ℕ). IsBeginning sent l) m.text is, kept_then_written old now new out sent kept written);
})
