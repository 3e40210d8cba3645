-- Object files that are read and placed.
use Rattle.object_commands.proofs.Prelude.{◌≡◌, ◌⊎◌, ℕ, List, Option, None, Result, Ok, Err, IfOk, inl, inr, subst, Appends, Keeps, AppendsBeginning, Directory, HasFile, Absolute, IsPlaced, plan_view, ObjectModule, Spells, PlacesBytes, PlacesFile, PrintsHex, PrintsPlaces, StopsHex, StopsPlaces, jump_refusal, pieces_with, places_text, Keeps-refl, BeginsText, WritesText, Plan, ListsModule, PrintsListing, StopsListing}

-- what the bytes of a file spell is what the file spells
pub file_placed : {X E : Type 0} (object : X → ObjectModule) (absolute : X → Absolute)
    (files : Option Directory) (name bytes slice : List ℕ) (plan : Plan) (result : Result X E)
    → HasFile files name bytes → slice ≡ bytes
    → IfOk result (λ placed. PlacesBytes slice plan (object placed) (absolute placed))
    → IfOk result (λ placed. PlacesFile files name plan (object placed) (absolute placed))
file_placed object absolute files name bytes slice plan (Ok placed) read is there =
    record { bytes = bytes; read = read; spelled = subst (λ (b : List ℕ). Spells b (object placed)) is there.spelled; placed = there.placed }
file_placed object absolute files name bytes slice plan (Err ending) read is there = there

pub prints_hex : (files : Option Directory) (name : List ℕ) (plan : Plan) (jump : Option ℕ)
    (object : ObjectModule) (absolute : Absolute) (old new : Option (List ℕ))
    → PlacesFile files name plan object absolute → jump_refusal plan object jump ≡ None
    → WritesText (pieces_with jump absolute) old new → PrintsHex files name plan jump old new
prints_hex files name plan jump object absolute old new of_file room printed =
    record { object = object; absolute = absolute; of_file = of_file; room = room; printed = printed }

pub no_places : (files : Option Directory) (name : List ℕ) (plan : Plan) (known : Option (List ℕ))
    → StopsPlaces files name plan known known
no_places files name plan known = inl (Keeps-refl known)

pub no_hex : (files : Option Directory) (name : List ℕ) (plan : Plan) (jump : Option ℕ)
    (known : Option (List ℕ)) → StopsHex files name plan jump known known
no_hex files name plan jump known = inl (Keeps-refl known)

pub stops_hex : (files : Option Directory) (name : List ℕ) (plan : Plan) (jump : Option ℕ)
    (object : ObjectModule) (absolute : Absolute) (old new : Option (List ℕ))
    → PlacesFile files name plan object absolute → jump_refusal plan object jump ≡ None
    → Keeps old new ⊎ BeginsText (pieces_with jump absolute) old new
    → StopsHex files name plan jump old new
stops_hex files name plan jump object absolute old new of_file room (inl kept) = inl kept
stops_hex files name plan jump object absolute old new of_file room (inr printed) =
    inr (record { object = object; absolute = absolute; of_file = of_file; room = room; printed = printed })

pub prints_places : (files : Option Directory) (name : List ℕ) (plan : Plan) (object : ObjectModule)
    (absolute : Absolute) (lines : List ℕ) (old new : Option (List ℕ))
    → PlacesFile files name plan object absolute → lines ≡ places_text plan object absolute
    → Appends old new lines → PrintsPlaces files name plan old new
prints_places files name plan object absolute lines old new of_file are printed =
    record { object = object; absolute = absolute; of_file = of_file; printed = subst (λ (l : List ℕ). Appends old new l) are printed }

pub begins_places : (files : Option Directory) (name : List ℕ) (plan : Plan) (object : ObjectModule)
    (absolute : Absolute) (lines : List ℕ) (old new : Option (List ℕ))
    → PlacesFile files name plan object absolute → lines ≡ places_text plan object absolute
    → AppendsBeginning old new lines → StopsPlaces files name plan old new
begins_places files name plan object absolute lines old new of_file are printed =
    inr (record { object = object; absolute = absolute; of_file = of_file; printed = subst (λ (l : List ℕ). AppendsBeginning old new l) are printed })

module _ (bytes : List ℕ) (plan : Plan) where
  pub no_listing : (known : Option (List ℕ)) → StopsListing bytes plan known known
  no_listing known = inl (Keeps-refl known)

  pub prints_listing : (object : ObjectModule) (absolute : Absolute) (text lines : List ℕ)
      (old new : Option (List ℕ)) → PlacesBytes bytes plan object absolute
      → ListsModule plan object absolute text → lines ≡ text → Appends old new lines
      → PrintsListing bytes plan old new
  prints_listing object absolute text lines old new of_bytes listed are printed = record {
    object = object;
    absolute = absolute;
    of_bytes = of_bytes;
    text = text;
    listed = listed;
    printed = subst (λ (l : List ℕ). Appends old new l) are printed;
  }

  pub begins_listing : (object : ObjectModule) (absolute : Absolute) (text lines : List ℕ)
      (old new : Option (List ℕ)) → PlacesBytes bytes plan object absolute
      → ListsModule plan object absolute text → lines ≡ text → AppendsBeginning old new lines
      → StopsListing bytes plan old new
  begins_listing object absolute text lines old new of_bytes listed are printed = inr (record {
    object = object;
    absolute = absolute;
    of_bytes = of_bytes;
    text = text;
    listed = listed;
    printed = subst (λ (l : List ℕ). AppendsBeginning old new l) are printed;
  })
