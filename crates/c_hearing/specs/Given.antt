-- 01, "The runs of demand 3": a command that arrives is given to its end, by the library's call for it. What is answered, and the stream's words after it: those of the other end stay.
use Rattle.std.specs.Prelude.{ℕ, List, Result, Ok, Err}
use Rattle.config.specs.declared.refusal.Refusal.{Refusal}
use Rattle.config.specs.Refusals.{number_of}
use Rattle.config.specs.declared.settings.StreamConfig.{StreamConfig}
use Rattle.command.specs.declared.parse.Command.{Command}
use Rattle.command.specs.declared.parse.Command.TheVariants.{UmpData, RetransmitRequest, RetransmitError, Raw}
use Rattle.command.specs.declared.retransmit.RetransmitRequest.{RetransmitRequest as Request}
use Rattle.command.specs.declared.retransmit.RetransmitError.{RetransmitError as Error}
use Rattle.stream.specs.Ends.{data_answer, request_answer, error_answer}
use Rattle.c_answers.specs.Answers.{delivery_of, outcome_of, event_of}
use Rattle.c_state.specs.Stream.{loaded, with_receiver, with_sender}
use Rattle.c_hearing.specs.Figures.{number_figures, delivery_figures, outcome_figures, event_figures}
use Rattle.c_hearing.specs.declared.figures.Figures.{Figures}

unfoldable pub data_given : List ℕ → StreamConfig → ℕ → ℕ → Figures × List ℕ
data_given st cfg time seq =
    let e = data_answer (loaded st) cfg time seq in
    (delivery_figures (delivery_of e.answer), with_receiver st e.stream.receiver)

unfoldable pub request_given : List ℕ → StreamConfig → List ℕ → Request → Figures × List ℕ
request_given st cfg ring r =
    let e = request_answer (loaded st) cfg ring r in
    (outcome_figures (outcome_of e.answer), with_sender st e.stream.sender)

unfoldable pub error_given : List ℕ → Error → Figures × List ℕ
error_given st err =
    let e = error_answer (loaded st) err in
    (event_figures (event_of e.answer), with_receiver st e.stream.receiver)

-- no call takes a command of another code, nor one that is refused as it is read
abbrev pub given_of : List ℕ → StreamConfig → ℕ → List ℕ → Result Command Refusal → Figures × List ℕ
given_of st cfg time ring (Ok (UmpData d)) = data_given st cfg time d.seq
given_of st cfg time ring (Ok (RetransmitRequest r)) = request_given st cfg ring r
given_of st cfg time ring (Ok (RetransmitError e)) = error_given st e
given_of st cfg time ring (Ok (Raw h)) = (number_figures 0, st)
given_of st cfg time ring (Err why) = (number_figures (number_of why), st)
