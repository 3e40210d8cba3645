-- The files that a source includes: what is known of files stays known where they stayed.
use Rattle.commands.proofs.Prelude.{◌≡◌, ℕ, ◌≤◌, ◌<◌, ◌-◌, List, [], ◌∷◌, ◌++◌, length, drop, map, get_or, Option, None, Some, inl, inr, refl, sym, ap, subst, ◌∙◌, arith, Directory, KeepsFiles, ConvertWanted, option_map, take, take_all, FindsFile, was_there, Advice, PlacedNote, Entry, candidates, plain, FindsText, IsIncluded, IsLookedUp, IsMissing, Looks, LooksUp, StopsLooking, StopsLookingForNext, after_name, at_name, begun, elsewhere, first_of, further, here, most_names, nowhere, put_together}

module _ (was files : Option Directory) (kept : KeepsFiles was files) where
  was_found : (name : List ℕ) (found : Option (List ℕ)) → FindsFile files name found → FindsFile was name found
  was_found name found = go was files kept
    where
      go : (old new : Option Directory) → KeepsFiles old new → FindsFile new name found → FindsFile old name found
      go None new same there = tt
      go (Some old) None same there = absurd same
      go (Some old) (Some new) same there = sym (same name) ∙ there

  pub was_missing : (name : List ℕ) → IsMissing files name → IsMissing was name
  was_missing name missing = λ text. was_found name None (missing text)

  pub was_looked : {names : List (List ℕ)} {found : Option (List ℕ × List ℕ)} → LooksUp files names found → LooksUp was names found
  was_looked nowhere = nowhere
  was_looked (here {name = name} text there) = here text (was_there was files name text kept there)
  was_looked (elsewhere {name = name} missing looks) = elsewhere (was_missing name missing) (was_looked looks)

  pub was_text : (name : List ℕ) (found : Option (List ℕ × List ℕ)) → FindsText files name found → FindsText was name found
  was_text name None missing = was_missing name missing
  was_text name (Some found) (text, there, is) = (text, was_there was files name text kept there, is)

  pub was_stopped : {names : List (List ℕ)} {stop : List ℕ} → StopsLooking files names stop → StopsLooking was names stop
  was_stopped at_name = at_name
  was_stopped (after_name {name = name} missing stops) = after_name (was_missing name missing) (was_stopped stops)

  module _ (advice : Advice) (wanted : ConvertWanted) (before : List PlacedNote) (source : List ℕ) where
    were_looked : {entries : List Entry} → Looks advice wanted files before source entries → Looks advice wanted was before source entries
    were_looked begun = begun
    were_looked (further entry looks next found) = further entry (were_looked looks) next (was_looked found)

    pub was_included : (entries : List Entry) → IsIncluded advice wanted files before source entries → IsIncluded advice wanted was before source entries
    was_included entries included = record { looked = were_looked included.looked; enough = included.enough }

    pub was_stopped_for_next : (stop : List ℕ) → StopsLookingForNext advice wanted files before source stop → StopsLookingForNext advice wanted was before source stop
    was_stopped_for_next stop stopped = record {
      entries = stopped.entries;
      looked = were_looked stopped.looked;
      name = stopped.name;
      next = stopped.next;
      stops = was_stopped stopped.stops;
    }

-- names that are left are looked at as all are
pub record LooksOn (files : Option Directory) (whole rest : List (List ℕ)) : Type 0 where
  pub found : (found : Option (List ℕ × List ℕ)) → LooksUp files rest found → LooksUp files whole found
  pub stops : (stop : List ℕ) → StopsLooking files rest stop → StopsLooking files whole stop

pub looks_first : (files : Option Directory) (whole : List (List ℕ)) → LooksOn files whole whole
looks_first files whole = record { found = λ found looks. looks; stops = λ stop stops. stops }

looks_step : (files : Option Directory) (whole names : List (List ℕ)) (name : List ℕ) → IsMissing files name → LooksOn files whole (name ∷ names) → LooksOn files whole names
looks_step files whole names name missing on = record {
  found = λ found looks. on.found found (elsewhere missing looks);
  stops = λ stop stops. on.stops stop (after_name missing stops);
}

left_is : {A : Type 0} (v : A) (more : List A) → take (length (v ∷ more) - 1) (drop 1 (v ∷ more)) ≡ more
left_is v more =
    let count : length (v ∷ more) - 1 ≡ length more = omega arith in
    ap (λ (k : ℕ). take k more) count ∙ take_all _ more (omega arith)

module _ {A : Type 0} (f : A → List ℕ) (files : Option Directory) (whole : List (List ℕ)) where
  -- there is no file of the next name
  pub looks_on : (name : List ℕ) (d : A) (rest : List A) → 1 ≤ length rest → name ≡ f (get_or rest 0 d) → IsMissing files name → LooksOn files whole (map f rest)
      → LooksOn files whole (map f (take (length rest - 1) (drop 1 rest)))
  looks_on name d [] one is missing on = absurd (omega (arith, one))
  looks_on name d (v ∷ more) one is missing on =
      subst (λ (l : List A). LooksOn files whole (map f l)) (sym (left_is v more)) (looks_step files whole (map f more) (f v) (subst (IsMissing files) is missing) on)

  -- there is one
  pub found_next : (name : List ℕ) (found : List ℕ × List ℕ) (d : A) (rest : List A) → 1 ≤ length rest → name ≡ f (get_or rest 0 d) → FindsText files name (Some found) → LooksOn files whole (map f rest)
      → LooksUp files whole (Some found)
  found_next name found d [] one is there on = absurd (omega (arith, one))
  found_next name found d (v ∷ more) one is (text, there, found_is) on =
      subst (λ (one : List ℕ × List ℕ). LooksUp files whole (Some one)) (sym found_is)
      (on.found (Some (name, plain text)) (subst (λ (n : List ℕ). LooksUp files (n ∷ map f more) (Some (name, plain text))) is (here text there)))

  -- it can't be read
  pub stops_next : (name : List ℕ) (d : A) (rest : List A) → 1 ≤ length rest → name ≡ f (get_or rest 0 d) → LooksOn files whole (map f rest) → StopsLooking files whole name
  stops_next name d [] one is on = absurd (omega (arith, one))
  stops_next name d (v ∷ more) one is on = on.stops name (subst (λ (n : List ℕ). StopsLooking files (n ∷ map f more) name) is at_name)

  -- no name is left
  pub none_left : (rest : List A) → length rest < 1 → LooksOn files whole (map f rest) → LooksUp files whole None
  none_left [] none on = on.found None nowhere
  none_left (v ∷ more) none on = absurd (omega (arith, none))

-- what was looked for so far
module _ (advice : Advice) (wanted : ConvertWanted) (files : Option Directory) (before : List PlacedNote) (source : List ℕ) where
  pub none_looked : (entries : List Entry) → entries ≡ [] → Looks advice wanted files before source entries
  none_looked entries none = rw none begun

  pub one_more : (entries made : List Entry) (entry : Entry) → Looks advice wanted files before source entries → length entries < most_names wanted
      → first_of (put_together advice wanted entries before source).wanted ≡ Some entry.name.items → IsLookedUp wanted files entry → made ≡ entries ++ entry ∷ []
      → Looks advice wanted files before source made
  one_more entries made entry looks few first found same = rw same (further entry looks (record { few = few; first = first }) found)

  pub stops_next_name : (entries : List Entry) (name stop : List ℕ) → Looks advice wanted files before source entries → length entries < most_names wanted
      → first_of (put_together advice wanted entries before source).wanted ≡ Some name → StopsLooking files (candidates wanted.folders wanted.file name) stop
      → StopsLookingForNext advice wanted files before source stop
  stops_next_name entries name stop looks few first stops =
      record { entries = entries; looked = looks; name = name; next = record { few = few; first = first }; stops = stops }

  no_name : {A : Type 0} (items : A → List ℕ) (next : Option A) → ((name : A) → next ≡ Some name → ⊥) → option_map items next ≡ None
  no_name items None none = refl
  no_name items (Some name) none = absurd (none name refl)

  none_wanted : (wanted : List (List ℕ)) → first_of wanted ≡ None → wanted ≡ []
  none_wanted [] none = refl
  none_wanted (name ∷ names) none = cc

  pub all_looked : {A : Type 0} (items : A → List ℕ) (entries : List Entry) (next : Option A) → Looks advice wanted files before source entries → ((name : A) → next ≡ Some name → ⊥)
      → option_map items next ≡ first_of (put_together advice wanted entries before source).wanted → IsIncluded advice wanted files before source entries
  all_looked items entries next looks none is = record {
    looked = looks;
    enough = inl (none_wanted (put_together advice wanted entries before source).wanted (sym is ∙ no_name items next none));
  }

  pub many_looked : (entries : List Entry) → Looks advice wanted files before source entries → most_names wanted ≤ length entries
      → IsIncluded advice wanted files before source entries
  many_looked entries looks many = record { looked = looks; enough = inr many }

-- the first of names
module _ {A : Type 0} (f : A → List ℕ) where
  pub first_is : (names : List A) (d : A) (name : List ℕ) → 1 ≤ length names → name ≡ f (get_or names 0 d) → Some name ≡ first_of (map f names)
  first_is [] d name some is = absurd (omega (arith, some))
  first_is (one ∷ names) d name some is = ap Some is

  pub first_none : (names : List A) → length names < 1 → None ≡ first_of (map f names)
  first_none [] none = refl
  first_none (one ∷ names) none = absurd (omega (arith, none))
