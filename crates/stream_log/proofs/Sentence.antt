-- The contract sentence holds of two streams: their calls are a run of crate delivery's.
use mathlib.Core.Path.{refl}
use Rattle.receiver_log.proofs.Runs.{receiver_promise}
use Rattle.delivery.specs.Sentence.{Run}
use Rattle.delivery.proofs.Delivery.{sentence}
use Rattle.delivery.proofs.Repeats.{repeats_alone}
use Rattle.stream_log.specs.Ends.{ends_of}
use Rattle.stream_log.specs.Console.{End, run_of}
use Rattle.stream_log.specs.Sentence.{Pair, StreamSentence}
use Rattle.stream_log.proofs.Runs.{StartIs, start_is, reached}
use Rattle.stream_log.proofs.Consoles.{line_ends}
use Rattle.stream.specs.Answers.{new_answer}
use Rattle.receiver_log.specs.Calls.{AllTyped}

start : (e : End) → StartIs e.window e.words e.places e.ring₀ (new_answer e.settings e.window e.words e.places e.ring₀)
start e = start_is e.settings e.window e.words e.places e.ring₀ e.started

heard_typed : (e : End) → AllTyped (ends_of e.window (run_of e).called).received
heard_typed e = (reached e.settings e.window e.words e.places e.ring₀ e.started (run_of e).called (line_ends e).typed).receiver_typed

abbrev run : Pair → Run
run u = record {
  words = u.console.words;
  places = u.console.places;
  ring₀ = u.console.ring₀;
  started = (start u.console).started;
  calls = (run_of u.console).sent;
  allowed = (line_ends u.console).allowed;
  window = u.chamber.window;
  least = (start u.chamber).least;
  most = (start u.chamber).most;
  arrivals = (ends_of u.chamber.window (run_of u.chamber).called).received;
  typed = heard_typed u.chamber;
}

-- an end alone, as both
abbrev alone : End → Pair
alone e = record { console = e; chamber = e }

pub stream_sentence : StreamSentence
stream_sentence = record {
  runs = λ u. (run u, record { sent = refl; window = refl; heard = refl });
  copies = λ e k v w before behind c x. sentence.copies (run (alone e)) k v w before behind c x;
  safe = λ u ps l. sentence.safe (run u) ps l;
  by_position = λ u h. sentence.by_position (run u) h;
  joined = λ u h. sentence.joined (run u) h;
  equal = λ u v h k. sentence.equal (run u) (run v) h k;
  listed = λ u h. sentence.listed (run u) h;
  equal_by_position = λ u v h k. sentence.equal_by_position (run u) (run v) h k;
  performances = λ u v h k. sentence.performances (run u) (run v) h k;
  repeats_alone = λ u R o. repeats_alone (run u) R o;
  second = λ e. receiver_promise e.window (start e).least (start e).most (ends_of e.window (run_of e).called).received (heard_typed e);
}
