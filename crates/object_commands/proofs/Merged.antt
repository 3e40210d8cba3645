-- Merges of object files that were placed, or why not.
use Rattle.object_commands.proofs.Prelude.{◌≡◌, ℕ, List, Option, Result, Err, Ok, OnErr, inl, inr, subst, tells_no_file, Directory, TellsOther, TellsRefusal, HasFiles, Tells, Absolute, IsPlaced, plan_view, ObjectModule, placement_number, refusal_line, CountsFailure, StopsAt, Ending, file_line, memory_line, Merges, StreamFault, HasNoMerge, LocateFault, Plan, image_of, PlacesMerge, PlacesTexts, RefusesPlacing, TellsNoMerge, merge_line}
use Rattle.std.specs.Prelude.{codes}
use Rattle.link.specs.Faults.{refusal_of}
use Rattle.link.specs.declared.StreamFault.TheVariants as stream
use Rattle.locate.specs.Locating as locating

pub places_texts : (texts : List (List ℕ)) (plan : Plan) (object : ObjectModule) (absolute : Absolute)
    → Merges texts object → IsPlaced (plan_view plan) object absolute
    → PlacesTexts texts plan absolute
places_texts texts plan object absolute merges is = record { object = object; merges = merges; placed = is }

module _ (names texts : List (List ℕ)) (plan : Plan) (old new : Option (List ℕ)) where
  pub tells_memory : Tells memory_line old new → TellsNoMerge names texts plan old new
  unfolding TellsNoMerge
  tells_memory told = inl told

  -- a fault of the texts or of their merge
  pub tells_unmerged : (fault : StreamFault) → HasNoMerge texts fault → Tells (merge_line names fault) old new
      → TellsNoMerge names texts plan old new
  unfolding TellsNoMerge
  tells_unmerged (stream.Object file fault) faulty told =
      inr (inl (record { file = file; fault = fault; faulty = faulty; told = told }))
  tells_unmerged (stream.Link fault) refused told =
      inr (inr (inl (record { refusal = refusal_of fault; refused = refused; told = told })))
  tells_unmerged stream.Write none told = absurd none

  -- the same of a fault that is this one
  pub tells_fault : (was fault : StreamFault) → was ≡ fault → HasNoMerge texts fault
      → Tells (merge_line names was) old new → TellsNoMerge names texts plan old new
  tells_fault was fault is none told =
      tells_unmerged fault none (subst (λ (f : StreamFault). Tells (merge_line names f) old new) is told)

  -- a refusal of the plan
  pub tells_unplaced : (object : ObjectModule) (was fault : LocateFault) → was ≡ fault → Merges texts object
      → image_of (plan_view plan) object ≡ Err (locating.refusal_of fault)
      → Tells (refusal_line (placement_number (locating.refusal_of was)) (codes "-") 0) old new → TellsNoMerge names texts plan old new
  unfolding TellsNoMerge
  tells_unplaced object was fault is merges refused told = inr (inr (inr (record {
    object = object;
    merges = merges;
    refusal = locating.refusal_of fault;
    refused = refused;
    told = subst (λ (f : LocateFault). Tells (refusal_line (placement_number (locating.refusal_of f)) (codes "-") 0) old new) is told;
  })))

module _ (files : Option Directory) (names : List (List ℕ)) (plan : Plan) where
  pub places_merge : (texts : List (List ℕ)) (absolute : Absolute) → HasFiles files names texts
      → PlacesTexts texts plan absolute → PlacesMerge files names plan absolute
  places_merge texts absolute read is = record { texts = texts; read = read; placed = is }

  module _ (before now after : ℕ) (old new : Option (List ℕ)) (same : now ≡ before) where
    pub for_file : (name : List ℕ) → CountsFailure now after → StopsAt files names name
        → Tells (file_line name) old new → RefusesPlacing files names plan before after old new
    unfolding RefusesPlacing
    for_file name counted stopped told =
        inl (subst (λ (n : ℕ). CountsFailure n after) same counted, (name, stopped, told))

  module _ (before after : ℕ) (old new : Option (List ℕ)) (same : after ≡ before) where
    pub for_memory : Tells memory_line old new → RefusesPlacing files names plan before after old new
    unfolding RefusesPlacing
    for_memory told = inr (same, inl told)

    pub for_merge : (texts : List (List ℕ)) → HasFiles files names texts
        → TellsNoMerge names texts plan old new → RefusesPlacing files names plan before after old new
    unfolding RefusesPlacing
    for_merge texts read told = inr (same, inr (record { texts = texts; read = read; told = told }))

    -- what was placed of the texts, or not
    pub not_merged : (result : Result Absolute Ending) (texts : List (List ℕ)) → HasFiles files names texts
        → OnErr result (TellsNoMerge names texts plan old new)
        → OnErr result (RefusesPlacing files names plan before after old new)
    not_merged (Ok absolute) texts read told = tt
    not_merged (Err ending) texts read told = for_merge texts read told

pub told_later :
    {X : Type 0} (result : Result X Ending) (files : Option Directory) (names : List (List ℕ))
    (before after : ℕ) (old new : Option (List ℕ)) → after ≡ before → OnErr result (TellsOther old new)
    → OnErr result (TellsRefusal files names before after old new)
told_later (Ok found) files names before after old new same told = tt
told_later (Err ending) files names before after old new same told = tells_no_file files names before after old new same told
