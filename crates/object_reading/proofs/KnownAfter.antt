-- What is known once a part follows that is no header, no content and no end of the module.
use Rattle.object_reading.proofs.Prelude.{◌≡◌, ℕ, ◌≤◌, true, false, nat_le, List, ◌∷◌, [], length, flat_map, Option, Some, None, refl, sym, ◌∙◌, arith, and_parts, leb-true, le-leb, RecordKind, Segment, Code, Data, rank_of, is_header, is_fix_record, may_follow, entries_of, externals_of, content_of, end_by_content, filled_to, Content, Part, kind_of_part, name_of_header, start_of_end, Marked, State, false≢true}
use Rattle.omf80.specs.declared.kind.RecordKind.TheVariants as kinds
use Rattle.object_reading.proofs.Accepting.{KnowsNames}
use Rattle.object_reading.proofs.Knowing.{Knows, HasContent, is_early, in_contents, header_stays, start_stays, filtered_as_before}

-- records before one that is neither the header nor an end have no greater rank
pub follows_early :
    (before : List Part) (kind : RecordKind) → may_follow before kind ≡ true → is_header kind ≡ false
    → nat_le (rank_of kind) 3 ≡ true → is_early (rank_of kind) before ≡ true
follows_early [] kind follows other low = absurd (false≢true (sym other ∙ follows))
follows_early (latest ∷ others) kinds.Header follows other low = absurd (false≢true follows)
follows_early (latest ∷ others) kinds.ExternalNames follows other low = (and_parts _ _ follows).0
follows_early (latest ∷ others) kinds.Publics follows other low = (and_parts _ _ follows).0
follows_early (latest ∷ others) kinds.Content follows other low = (and_parts _ _ follows).0
follows_early (latest ∷ others) kinds.ExternalReferences follows other low = (and_parts _ _ follows).0
follows_early (latest ∷ others) kinds.Relocation follows other low = (and_parts _ _ follows).0
follows_early (latest ∷ others) kinds.IntersegmentReferences follows other low = (and_parts _ _ follows).0
follows_early (latest ∷ others) kinds.ModuleEnd follows other low = absurd (false≢true low)
follows_early (latest ∷ others) kinds.EndOfFile follows other low = absurd (false≢true low)

pub early_below :
    (before : List Part) (low high : ℕ) → low ≤ high → is_early low before ≡ true
    → is_early high before ≡ true
early_below [] low high h early = refl
early_below (latest ∷ others) low high h early =
    let t = leb-true (rank_of (kind_of_part latest)) low early in
    le-leb (rank_of (kind_of_part latest)) high (omega (arith, t, h))

-- a fix record follows a content or another fix record
pub follows_content :
    (before : List Part) (kind : RecordKind) → may_follow before kind ≡ true → is_fix_record kind ≡ true
    → in_contents before ≡ true
follows_content [] kinds.Header follows is = absurd (false≢true is)
follows_content [] kinds.ExternalNames follows is = absurd (false≢true is)
follows_content [] kinds.Publics follows is = absurd (false≢true is)
follows_content [] kinds.Content follows is = absurd (false≢true is)
follows_content [] kinds.ExternalReferences follows is = absurd (false≢true follows)
follows_content [] kinds.Relocation follows is = absurd (false≢true follows)
follows_content [] kinds.IntersegmentReferences follows is = absurd (false≢true follows)
follows_content [] kinds.ModuleEnd follows is = absurd (false≢true is)
follows_content [] kinds.EndOfFile follows is = absurd (false≢true is)
follows_content (latest ∷ others) kinds.Header follows is = absurd (false≢true is)
follows_content (latest ∷ others) kinds.ExternalNames follows is = absurd (false≢true is)
follows_content (latest ∷ others) kinds.Publics follows is = absurd (false≢true is)
follows_content (latest ∷ others) kinds.Content follows is = absurd (false≢true is)
follows_content (latest ∷ others) kinds.ExternalReferences follows is = (and_parts _ _ follows).1
follows_content (latest ∷ others) kinds.Relocation follows is = (and_parts _ _ follows).1
follows_content (latest ∷ others) kinds.IntersegmentReferences follows is = (and_parts _ _ follows).1
follows_content (latest ∷ others) kinds.ModuleEnd follows is = absurd (false≢true is)
follows_content (latest ∷ others) kinds.EndOfFile follows is = absurd (false≢true is)

-- a part that is no header, no content and no end of the module
pub record Plain (part : Part) : Type 0 where
  pub no_entries : entries_of part ≡ []
  pub unnamed : name_of_header part ≡ None
  pub no_content : content_of part ≡ None
  pub no_start : start_of_end part ≡ None

-- what is known after it, of names and of the content
pub record KnowsParts (before : List Part) (names : List (List ℕ)) (count : ℕ)
    (content : Marked) : Type 0 where
  pub names_known : KnowsNames before names
  pub externals : count ≡ length (flat_map externals_of before)
  pub counted : is_early 1 before ≡ true → length names ≡ count
  pub content_known : in_contents before ≡ true → HasContent before content

open_end :
    (before : List Part) (end : ℕ) (segment : Segment) (found : Option Content) → found ≡ None
    → end ≡ filled_to segment before → end ≡ end_by_content segment found (filled_to segment before)
open_end before end segment None none e = e
open_end before end segment (Some content) none e = absurd (let bad : Some content ≡ None = none in cc)

pub known_after :
    (before : List Part) (part : Part) (state : State) (names : List (List ℕ)) (count : ℕ) (content : Marked)
    → Knows before state → Plain part → is_early 3 before ≡ true
    → KnowsParts (part ∷ before) names count content
    → Knows (part ∷ before) (record state { names = names; external_count = count; content = content })
known_after before part state names count content k p early m = record {
  header = header_stays before part state.name state.extents k.header p.no_entries p.unnamed;
  names = m.names_known;
  externals = m.externals;
  counted = m.counted;
  code_end = open_end before state.code_end Code (content_of part) p.no_content k.code_end;
  data_end = open_end before state.data_end Data (content_of part) p.no_content k.data_end;
  content = m.content_known;
  start = start_stays before part state.start k.start p.no_start;
  no_start = λ _. filtered_as_before start_of_end part before p.no_start ∙ k.no_start early;
}
