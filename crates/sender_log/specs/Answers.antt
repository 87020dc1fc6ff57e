-- What is held after a list of calls, and what the next call answers, from the past calls alone. The sender's state is never refused: 13 is left for a payload's.
use Rattle.std.specs.Prelude.{ℕ, List, [], ◌∷◌}
use Rattle.sender_log.specs.Book.{Book, nothing, sent_in, requested_in}
use Rattle.sender_log.specs.Writes.{write_in}
use Rattle.sender_log.specs.Calls.{Call, queue_words, retransmit_request, write, Entry, queue_entry, request_entry, write_entry}

-- what is held after a call, and its entry, with a history of c words and q places for requests
pub record Told : Type 0 where
  pub book : Book
  pub entry : Entry

unfoldable pub told_of : ℕ → ℕ → Book → Call → Told
told_of c q b (queue_words cfg ws) = let a = sent_in c b cfg ws in record { book = a.book; entry = queue_entry cfg ws a.answer }
told_of c q b (retransmit_request cfg r) = let a = requested_in q b cfg r in record { book = a.book; entry = request_entry cfg r a.outcome }
told_of c q b (write cfg time p by) =
    let a = write_in c cfg time b p by in
    record { book = a.book; entry = write_entry cfg time p by a.answer a.payload a.bytes }

-- what is held, from the calls alone
unfoldable pub book_from : ℕ → ℕ → Book → List Call → Book
book_from c q b [] = b
book_from c q b (call ∷ calls) = book_from c q (told_of c q b call).book calls

abbrev pub book_of : ℕ → ℕ → List Call → Book
book_of c q calls = book_from c q nothing calls

-- and the log, newest first
unfoldable pub said_from : ℕ → ℕ → Book → List Entry → List Call → List Entry
said_from c q b t [] = t
said_from c q b t (call ∷ calls) = said_from c q (told_of c q b call).book ((told_of c q b call).entry ∷ t) calls
