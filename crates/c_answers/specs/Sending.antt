-- Queueing and writing in one call: 1 in `queued` where the words are queued, and then the numbers of the write; else the refusal's number, and 0 in every other field.
use Rattle.std.specs.Prelude.{ℕ}
use Rattle.config.specs.Refusals.{number_of}
use Rattle.stream.specs.declared.sending.SendAndWrite.{SendAndWrite}
use Rattle.stream.specs.declared.sending.SendAndWrite.TheVariants.{NotQueued, Queued}
use Rattle.c_answers.specs.Answers.{written_of}
use Rattle.c_answers.specs.declared.answers.CWritten.{CWritten}
use Rattle.c_answers.specs.declared.sending.CSentWritten.{CSentWritten}

abbrev pub sent_written_refused : ℕ → CSentWritten
sent_written_refused n = record { commands = 0; refusal = n; more = 0; queued = 0 }

abbrev pub queued_written : CWritten → CSentWritten
queued_written w = record { commands = w.commands; refusal = w.refusal; more = w.more; queued = 1 }

abbrev pub sent_written_of : SendAndWrite → CSentWritten
sent_written_of (NotQueued why) = sent_written_refused (number_of why)
sent_written_of (Queued w) = queued_written (written_of w)
