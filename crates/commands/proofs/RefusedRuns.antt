-- Runs with files of ports that were refused.
use Rattle.commands.proofs.{Prelude.{◌≡◌, ◌⊎◌, ℕ, List, [], Bor, Option, Some, inl, inr, sym, subst, ◌∙◌, CountsFailure, ChangesFiles, Directory, KeepsFiles, status_of, Tells, file_line, memory_line, Ending, Refused, dash_bytes, with_outputs, LeavesOutputs, StopsOutputs, StopsShowing, RefusesRun, Undelivered}, OutputFiles.{kept_then_outputs}, Printed.{stays_written}}

-- why a run that had ended was not delivered, after files that stayed
module _ (old mid new : Option Directory) (kept : KeepsFiles old mid) (names outputs : List (List ℕ)) where
  kept_then_stops : (name : List ℕ) → StopsOutputs names outputs name mid new → StopsOutputs names outputs name old new
  kept_then_stops name stops = record {
    earlier = stops.earlier;
    later = stops.later;
    names_are = stops.names_are;
    whole = stops.whole;
    bytes = stops.bytes;
    left = stops.left;
    outputs_are = stops.outputs_are;
    as_many = stops.as_many;
    between = stops.between;
    written = kept_then_outputs old mid stops.between stops.earlier stops.whole kept stops.written;
    stopped = stops.stopped;
  }

  kept_then_undelivered : (before after : ℕ) (err_old err_new out now : Option (List ℕ)) (lines : List ℕ) → Undelivered names outputs mid new before after err_old err_new out now lines
      → Undelivered names outputs old new before after err_old err_new out now lines
  unfolding Undelivered
  kept_then_undelivered before after err_old err_new out now lines (inl at) = inl (record {
    told = record { counted = at.told.counted; name = at.told.name; stopped = kept_then_stops at.told.name at.told.stopped; told = at.told.told };
    nothing = at.nothing;
  })
  kept_then_undelivered before after err_old err_new out now lines (inr (inl at)) =
      inr (inl (record { files = record { name = at.files.name; stopped = kept_then_stops at.files.name at.files.stopped }; memory = at.memory }))
  kept_then_undelivered before after err_old err_new out now lines (inr (inr at)) =
      inr (inr (record { files = kept_then_outputs old mid new names outputs kept at.files; count = at.count; shown = at.shown }))

module _ (refuses : (old new : Option (List ℕ)) → Type 0) (prints : (status : ℕ) → (outputs : List (List ℕ)) → (old new : Option (List ℕ)) → Type 0) (names : List (List ℕ)) where
  -- a run that was refused before it had ended, with these lines kept
  pub refused_unended : (old new : Option Directory) (before after : ℕ) (err_old err_new out : Option (List ℕ)) (lines : List ℕ) → refuses (Some []) (Some lines) → KeepsFiles old new
      → RefusesRun refuses prints names old new before after err_old err_new out out
  unfolding RefusesRun
  refused_unended old new before after err_old err_new out lines why kept = inl (record { lines = lines; refused = why; files = kept; nothing = stays_written out })

  -- a run that ended, and was not delivered
  module _ (outputs held : List (List ℕ)) (lines : List ℕ) (old mid new : Option Directory) (before now after : ℕ) (err_old err_mid err_new out done : Option (List ℕ)) where
    undelivered_as : held ≡ names → KeepsFiles old mid → now ≡ before → err_mid ≡ err_old → Undelivered held outputs mid new now after err_mid err_new out done lines
        → Undelivered names outputs old new before after err_old err_new out done lines
    undelivered_as named kept same silent undelivered =
        let of_names : Undelivered names outputs mid new now after err_mid err_new out done lines =
        subst (λ (l : List (List ℕ)). Undelivered l outputs mid new now after err_mid err_new out done lines) named undelivered in
        let of_count : Undelivered names outputs mid new before after err_mid err_new out done lines =
        subst (λ (n : ℕ). Undelivered names outputs mid new n after err_mid err_new out done lines) same of_names in
        let of_err : Undelivered names outputs mid new before after err_old err_new out done lines =
        subst (λ (o : Option (List ℕ)). Undelivered names outputs mid new before after o err_new out done lines) silent of_count in
        kept_then_undelivered old mid new kept names outputs before after err_old err_new out done lines of_err

    pub refused_ended : (ending result : Ending) → (ending ≡ Refused → ⊥) → result ≡ Refused → held ≡ names → KeepsFiles old mid → now ≡ before → err_mid ≡ err_old
        → prints (status_of ending) outputs (Some []) (Some lines) → (result ≡ ending) ⊎ Undelivered held outputs mid new now after err_mid err_new out done lines
        → RefusesRun refuses prints names old new before after err_old err_new out done
    unfolding RefusesRun
    refused_ended ending result other refused named kept same silent printed (inl ended) = absurd (other (sym ended ∙ refused))
    refused_ended ending result other refused named kept same silent printed (inr undelivered) = inr (record {
      status = status_of ending;
      outputs = outputs;
      lines = lines;
      printed = printed;
      undelivered = undelivered_as named kept same silent undelivered;
    })

-- a run that was refused, by other words
module _ (refuses all : (old new : Option (List ℕ)) → Type 0) (prints every : (status : ℕ) → (outputs : List (List ℕ)) → (old new : Option (List ℕ)) → Type 0)
    (held names : List (List ℕ)) (old new : Option Directory) (before after : ℕ) (err_old err_new out done : Option (List ℕ)) where
  pub refused_as : ((first last : Option (List ℕ)) → refuses first last → all first last)
      → ((status : ℕ) (outputs : List (List ℕ)) (first last : Option (List ℕ)) → prints status outputs first last → every status outputs first last) → held ≡ names
      → RefusesRun refuses prints held old new before after err_old err_new out done → RefusesRun all every names old new before after err_old err_new out done
  unfolding RefusesRun
  refused_as why so named (inl run) = inl (record { lines = run.lines; refused = why (Some []) (Some run.lines) run.refused; files = run.files; nothing = run.nothing })
  refused_as why so named (inr run) = inr (record {
    status = run.status;
    outputs = run.outputs;
    lines = run.lines;
    printed = so run.status run.outputs (Some []) (Some run.lines) run.printed;
    undelivered = subst (λ (l : List (List ℕ)). Undelivered l run.outputs old new before after err_old err_new out done run.lines) named run.undelivered;
  })

-- a file that was not written, memory that ran out there, and standard output
module _ (names outputs : List (List ℕ)) (lines : List ℕ) (old new : Option Directory) (before after : ℕ) (err_old err_new : Option (List ℕ)) where
  pub file_stops : (out : Option (List ℕ)) (name was : Bor (List ℕ)) → CountsFailure before after → name ≡ was → StopsOutputs names outputs was.now old new
      → Tells (file_line name.now) err_old err_new → Undelivered names outputs old new before after err_old err_new out out lines
  unfolding Undelivered
  file_stops out name was counted same stopped told = inl (record {
    told = record {
      counted = counted;
      name = name.now;
      stopped = subst (λ (n : Bor (List ℕ)). StopsOutputs names outputs n.now old new) (sym same) stopped;
      told = told;
    };
    nothing = stays_written out;
  })

  pub memory_stops : (out : Option (List ℕ)) → after ≡ before → LeavesOutputs names outputs old new → Tells memory_line err_old err_new
      → Undelivered names outputs old new before after err_old err_new out out lines
  unfolding Undelivered
  memory_stops out count files told = inr (inl (record { files = files; memory = record { count = count; told = told; nothing = stays_written out } }))

  pub showing_stops : (bytes out now : Option (List ℕ)) (ended : Type 0) → bytes ≡ dash_bytes names outputs → after ≡ before → ChangesFiles old new (with_outputs names outputs)
      → ended ⊎ StopsShowing bytes lines err_old err_new out now → ended ⊎ Undelivered names outputs old new before after err_old err_new out now lines
  unfolding Undelivered
  showing_stops bytes out now ended is count files (inl done) = inl done
  showing_stops bytes out now ended is count files (inr shown) =
      inr (inr (inr (record { files = files; count = count; shown = subst (λ (b : Option (List ℕ)). StopsShowing b lines err_old err_new out now) is shown })))
