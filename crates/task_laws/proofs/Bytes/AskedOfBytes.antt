-- The assumptions of the laws of comparisons and branches hold.
use Rattle.task_laws.proofs.Prelude.{Context, IsSound}
use Rattle.task_laws.proofs.Bytes.BytesAsked.{BytesAsked}
use Rattle.task_laws.proofs.Bytes.GivenPairs.{pairs_given}
use Rattle.task_laws.proofs.Bytes.HighBytesAsked.{high_bytes_given, words_at_places}
use Rattle.task_laws.proofs.Bytes.LocatedBytes.{locates_bytes}
use Rattle.task_laws.proofs.Ranges.Ranges.{fits_means, ready_fits, value_fits}
use Rattle.task_laws.proofs.Bytes.ZeroLaws.{zeros_shown}

pub bytes_asked : (context : Context) → IsSound context → BytesAsked context
bytes_asked context sound = record {
  locates = locates_bytes context sound;
  fits = λ known_there number bound top found tree base s t r memory is types ready fits same.
      fits_means context sound known_there {of = number} s is types fits (ready_fits context s ready) same;
  values_fit = λ number bound top found tree base s t r memory is types ready same.
      value_fits s sound is types (ready_fits context s ready) same;
  pairs = pairs_given context sound;
  places = words_at_places context sound;
  high_bytes = high_bytes_given context sound;
  zeros = zeros_shown context sound (high_bytes_given context sound);
}
