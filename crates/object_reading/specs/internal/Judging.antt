-- What the judgement of a valid file gives.
use Rattle.std.specs.Prelude.{◌≡◌, ℕ, List, flat_map}
use Rattle.object_modules.specs.declared.segment.Segment.TheVariants.{Code, Data, Stack}
use Rattle.object_modules.specs.Before.{entries_of, stated_length_of}
use Rattle.object_modules.specs.Parts.{Part}
use Rattle.object_modules.specs.Spelling.{IsFileOf, alignment_in, name_in, start_in}
use Rattle.object_reading.specs.declared.judgement.header.Header.{Header}

-- a file has parts, and a header holds what they say of its name, its segments and its start
pub record IsJudged (bytes : List ℕ) (header : Header) : Type 0 where
  pub parts : List Part
  pub file : IsFileOf bytes parts
  pub name : (header.name).now ≡ name_in parts
  pub code_length : header.code_length ≡ stated_length_of Code parts
  pub code_alignment : header.code_alignment ≡ alignment_in (flat_map entries_of parts) Code
  pub data_length : header.data_length ≡ stated_length_of Data parts
  pub data_alignment : header.data_alignment ≡ alignment_in (flat_map entries_of parts) Data
  pub stack_length : header.stack_length ≡ stated_length_of Stack parts
  pub start : header.start ≡ start_in parts
