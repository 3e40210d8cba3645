-- Runs with files of ports, or without.
use Rattle.commands.proofs.{Prelude.{◌≡◌, ◌⊎◌, ℕ, List, [], ◌∷◌, Option, None, Some, inl, inr, refl, sym, ap, subst, ◌∙◌, Directory, KeepsFiles, status_of, TellsRefusal, TellsOther, Ending, Refused, WrongLine, Values, files_stay, tells_no_file, Action, ToRun, Interpret, Construction, map_if, NamedPort, execute_in, file_names, outputs_in, program_in, TellsOutput, ByOutputs, ChangesOutputs, Delivers, DeliversRun, KeepsAllBut, Shows, dash_bytes, outputs_for, PrintsBuilt, PrintsWith, RunOrder, Objects, Sources, output_texts}, OutputFiles.{but_then, kept_then_outputs}}
pub use Rattle.commands.proofs.OutputFiles.{kept_but}

-- what holds without files of ports and with them
pub by_any : (words : List (List ℕ)) {P Q : Type 0} → P → Q → ByOutputs words P Q
by_any [] p q = p
by_any (text ∷ words) p q = q

pub without_any : (words : List (List ℕ)) {P : Type 0} (Q : Type 0) → words ≡ [] → P → ByOutputs words P Q
without_any [] Q none p = p
without_any (text ∷ words) Q none p = cc

pub with_some : (words : List (List ℕ)) (P : Type 0) {Q : Type 0} → (words ≡ [] → ⊥) → Q → ByOutputs words P Q
with_some [] P some q = absurd (some refl)
with_some (text ∷ words) P some q = q

-- the files that change
pub but_changes : (names : List (List ℕ)) (old new : Option Directory) → KeepsAllBut names old new → ChangesOutputs names old new
but_changes [] None new changes = tt
but_changes [] (Some old) None changes = absurd changes
but_changes [] (Some old) (Some new) changes = λ other. changes other refl
but_changes (name ∷ names) old new changes = changes

pub kept_changes : (names : List (List ℕ)) (old new : Option Directory) → KeepsFiles old new → ChangesOutputs names old new
kept_changes names old new kept = but_changes names old new (kept_but names old new kept)

-- without files of ports there are no bytes for them
no_files : (files : List NamedPort) → file_names files ≡ [] → files ≡ []
no_files [] none = refl
no_files (file ∷ files) none = cc

no_outputs : (texts : List (List ℕ)) (files : List NamedPort) → texts ≡ [] → file_names files ≡ outputs_in texts → files ≡ []
no_outputs texts files none named = no_files files (named ∙ ap outputs_in none)

none_built : (action : Action) (before : List ℕ) (values : Values) (built : Construction) (status : ℕ) (outputs : List (List ℕ)) (old new : Option (List ℕ)) → values.output_files ≡ []
    → PrintsBuilt action before values built status outputs old new → outputs ≡ []
none_built ToRun before values built status outputs old new none printed =
    printed.gathered ∙ ap (λ (files : List NamedPort). outputs_for files printed.events) none
none_built Interpret before values built status outputs old new none printed = printed.gathered ∙ ap (λ (files : List NamedPort). outputs_for files printed.events) none

pub plain_run : (order : RunOrder) (values : Values) (files : Option Directory) (status : ℕ)
    (outputs : List (List ℕ)) (old new : Option (List ℕ)) → output_texts order ≡ []
    → file_names values.output_files ≡ outputs_in (output_texts order)
    → PrintsWith order values files status outputs old new → outputs ≡ []
plain_run (Sources order) values files status outputs old new none named printed =
    let read = printed.printed in
    let done = read.printed in
    let same : read.full.output_files ≡ values.output_files =
    ap (λ (v : Values). v.output_files) read.input.full_is in
    none_built (program_in order.now).action (map_if (program_in order.now).map done.built) read.full done.built
    status outputs old new
    (same ∙ no_outputs (program_in order.now).output_files values.output_files none named) done.printed
plain_run (Objects order) values files status outputs old new none named printed =
    let read = printed.printed in
    let same : read.full.output_files ≡ values.output_files =
    ap (λ (v : Values). v.output_files) read.input.full_is in
    read.printed.gathered
    ∙ ap (λ (held : List NamedPort). outputs_for held read.printed.events)
    (same ∙ no_outputs (execute_in order.now).output_files values.output_files none named)

-- what was told where a run that was kept was not delivered
module _ (files : Option Directory) (names held outputs : List (List ℕ)) (before now after : ℕ) (old mid new : Option (List ℕ)) where
  not_delivered : held ≡ outputs → now ≡ before → mid ≡ old → (TellsOutput now after mid new held) ⊎ ((after ≡ now) × TellsOther mid new)
      → (TellsRefusal files names before after old new) ⊎ (TellsOutput before after old new outputs)
  not_delivered named same silent (inl told) =
      let of_names : TellsOutput now after mid new outputs = subst (λ (l : List (List ℕ)). TellsOutput now after mid new l) named told in
      let of_count : TellsOutput before after mid new outputs = subst (λ (n : ℕ). TellsOutput n after mid new outputs) same of_names in
      inr (subst (λ (o : Option (List ℕ)). TellsOutput before after o new outputs) silent of_count)
  not_delivered named same silent (inr (count, other)) =
      inl (tells_no_file files names before after old new (count ∙ same) (subst (λ (o : Option (List ℕ)). TellsOther o new) silent other))

  pub told_instead : (ending result : Ending) → (ending ≡ Refused → ⊥) → result ≡ Refused → held ≡ outputs → now ≡ before → mid ≡ old
      → (result ≡ ending) ⊎ ((TellsOutput now after mid new held) ⊎ ((after ≡ now) × TellsOther mid new))
      → (TellsRefusal files names before after old new) ⊎ (TellsOutput before after old new outputs)
  told_instead ending result other refused named same silent (inl ended) = absurd (other (sym ended ∙ refused))
  told_instead ending result other refused named same silent (inr told) = not_delivered named same silent told

-- another fault than that of a file was told
pub other_told : (files : Option Directory) (names outputs : List (List ℕ)) (before after : ℕ) (old new : Option (List ℕ)) → after ≡ before → TellsOther old new
    → (TellsRefusal files names before after old new) ⊎ (TellsOutput before after old new outputs)
other_told files names outputs before after old new count told = inl (tells_no_file files names before after old new count told)

-- a run that was delivered ended as it did before that
pub not_wrong_after : (ending result : Ending) → (ending ≡ WrongLine → ⊥) → ((result ≡ Refused → ⊥) → result ≡ ending) → result ≡ WrongLine → ⊥
not_wrong_after ending result other same wrong = other (sym (same (λ refused. clash (sym wrong ∙ refused))) ∙ wrong)
  where
    clash : WrongLine ≡ Refused → ⊥
    clash e = cc

-- a run that was kept, and then delivered
module _ (prints : ℕ → (outputs : List (List ℕ)) → (old new : Option (List ℕ)) → Type 0) (names outputs : List (List ℕ)) (lines : List ℕ) (old mid new : Option Directory)
    (err_old err_mid err_new out_old out_new : Option (List ℕ)) where
  pub kept_then_delivered : (ending result : Ending) (held : List (List ℕ)) → result ≡ ending → held ≡ names → KeepsFiles old mid → err_mid ≡ err_old
      → prints (status_of ending) outputs (Some []) (Some lines) → Delivers held outputs lines mid new err_mid err_new out_old out_new
      → DeliversRun (prints (status_of result)) names old new err_old err_new out_old out_new
  kept_then_delivered ending result held same named kept silent printed delivered =
      let of_names : Delivers names outputs lines mid new err_mid err_new out_old out_new =
      subst (λ (l : List (List ℕ)). Delivers l outputs lines mid new err_mid err_new out_old out_new) named delivered in
      record {
        outputs = outputs;
        lines = lines;
        printed = subst (λ (e : Ending). prints (status_of e) outputs (Some []) (Some lines)) (sym same) printed;
        delivered = record {
          changed = kept_then_outputs old mid new names outputs kept of_names.changed;
          shown = subst (λ (o : Option (List ℕ)). Shows (dash_bytes names outputs) lines o err_new out_old out_new) silent of_names.shown;
        };
      }

-- the files that change, by equal names, after files that stayed
pub kept_then_but : (held names : List (List ℕ)) (old mid new : Option Directory) → held ≡ names → KeepsFiles old mid → KeepsAllBut held mid new → KeepsAllBut names old new
kept_then_but held names old mid new named kept changes =
    but_then names old mid new (kept_but names old mid kept) (subst (λ (l : List (List ℕ)). KeepsAllBut l mid new) named changes)

-- files that are the same
pub same_but : (names : List (List ℕ)) (files : Option Directory) → KeepsAllBut names files files
same_but names files = kept_but names files files (files_stay files)

-- the names are those that texts write
pub but_written : (held names : List (List ℕ)) (old new : Option Directory) → held ≡ names → KeepsAllBut held old new → KeepsAllBut names old new
but_written held names old new named changes = subst (λ (l : List (List ℕ)). KeepsAllBut l old new) named changes

-- a run that was delivered, by other words
pub delivered_as : (prints all : (outputs : List (List ℕ)) → (old new : Option (List ℕ)) → Type 0) (held names : List (List ℕ)) (files new : Option Directory)
    (err_old err_new out_old out_new : Option (List ℕ)) → ((outputs : List (List ℕ)) (first last : Option (List ℕ)) → prints outputs first last → all outputs first last) → held ≡ names
    → DeliversRun prints held files new err_old err_new out_old out_new → DeliversRun all names files new err_old err_new out_old out_new
delivered_as prints all held names files new err_old err_new out_old out_new so named run = record {
  outputs = run.outputs;
  lines = run.lines;
  printed = so run.outputs (Some []) (Some run.lines) run.printed;
  delivered = subst (λ (l : List (List ℕ)). Delivers l run.outputs run.lines files new err_old err_new out_old out_new) named run.delivered;
}
