-- A stream and its words, end by end.
use mathlib.Core.Path.{◌≡◌, ap, sym, ◌∙◌}
use mathlib.Core.Bool.{true, false}
use mathlib.Core.List.{List, ◌++◌}
use Prim.Native.Nat.{ℕ, ◌+◌, ◌≤◌}
use native.Mathlib.Omega.{arith}
use lib.ListN.{length, take, drop, length-drop, take-append-drop, length-append}
use lib.Seq.{length-take-le, take_at, drop_at, drop-drop}
use lib.Dec.{eqb}
use borrow.Author.Tests.{eq-eqb, ne_eqb, eqb-true}
use Rattle.config.specs.inner.Tests.{and_left, and_right}
use Rattle.packet.specs.Bytes.{spliced}
use Rattle.packet.proofs.Splice.{spliced_append, length_spliced, drop_spliced}
use Rattle.receiver.specs.declared.receiver.Receiver.{Receiver}
use Rattle.sender.specs.declared.sender.Sender.{Sender}
use Rattle.stream.specs.declared.stream.DataStream.{DataStream}
use Rattle.c_state.specs.Receiver.{at, receiver_words, receiver_of, receiver_holds}
use Rattle.c_state.specs.Sender.{figure_words, request_words, sender_words, sender_of, sender_holds}
use Rattle.c_state.specs.Stream.{receiver_part, sender_part, receiver_fits, sender_fits, fits, receiver_in, sender_in, loaded, stored, with_receiver, with_sender}
use Rattle.c_state.specs.Theorems.{ReceiverSmall, SenderSmall}
use Rattle.c_state.proofs.Parts.{spliced_whole, spliced_front, spliced_rest, front_spliced, rest_spliced}
use Rattle.c_state.proofs.Receivers.{holds, receiver_back, receiver_holds_lem, receiver_again, length_receiver}
use Rattle.c_state.proofs.Senders.{sender_back, sender_holds_lem, sender_again, length_figures, length_sender}
use Rattle.c_state.proofs.Requests.{length_words, words_requests}

-- ---- the tests
module _ (ws : List ℕ) where
  pub receiver_short : (length ws ≡ 20 → ⊥) → false ≡ receiver_fits ws
  unfolding receiver_fits
  receiver_short h = rw (ne_eqb (length ws) 20 h)

  pub receiver_long : length ws ≡ 20 → receiver_holds (receiver_part ws) ≡ receiver_fits ws
  unfolding receiver_fits
  receiver_long l = rw (eq-eqb (length ws) 20 l)

  pub sender_long : length ws ≡ 20 → sender_holds (sender_part ws) ≡ sender_fits ws
  unfolding sender_fits
  sender_long l = rw (eq-eqb (length ws) 20 l)

  pub receiver_known : receiver_fits ws ≡ true → (length ws ≡ 20) × (receiver_holds (receiver_part ws) ≡ true)
  unfolding receiver_fits
  receiver_known e = (eqb-true (length ws) 20 (and_left (eqb (length ws) 20) _ e), and_right (eqb (length ws) 20) _ e)

  pub sender_known : sender_fits ws ≡ true → (length ws ≡ 20) × (sender_holds (sender_part ws) ≡ true)
  unfolding sender_fits
  sender_known e = (eqb-true (length ws) 20 (and_left (eqb (length ws) 20) _ e), and_right (eqb (length ws) 20) _ e)

  pub both_fit : fits ws ≡ true → (receiver_fits ws ≡ true) × (sender_fits ws ≡ true)
  unfolding fits
  both_fit e = (and_left (receiver_fits ws) (sender_fits ws) e, and_right (receiver_fits ws) (sender_fits ws) e)

  pub fits_sender : receiver_fits ws ≡ true → sender_fits ws ≡ fits ws
  unfolding fits
  fits_sender e = rw e

  -- ---- the parts
  pub part_lengths : length ws ≡ 20 → (length (receiver_part ws) ≡ 7) × (length (sender_part ws) ≡ 13)
  part_lengths l = (length-take-le 7 ws (omega arith), omega (arith, length-drop 7 ws))

  pub part_flags : receiver_fits ws ≡ true → at (receiver_part ws) 6 ≤ 4095
  part_flags e = (holds (receiver_part ws) (receiver_known e).1).flags

  pub stream_made : (s : Sender) (r : Receiver) → s ≡ sender_in ws → r ≡ receiver_in ws → record { sender = s; receiver = r } ≡ loaded ws
  unfolding loaded
  stream_made s r e f = rw (e, f)

  -- ---- words, loaded and stored
  pub receiver_part_same : receiver_fits ws ≡ true → receiver_words (receiver_in ws) ≡ receiver_part ws
  receiver_part_same e = let k = receiver_known e in receiver_again (receiver_part ws) (part_lengths k.0).0 k.1

  pub sender_part_same : sender_fits ws ≡ true → sender_words (sender_in ws) ≡ sender_part ws
  sender_part_same e = let k = sender_known e in sender_again (sender_part ws) (part_lengths k.0).1 k.1

  pub receiver_same : receiver_fits ws ≡ true → with_receiver ws (receiver_in ws) ≡ ws
  receiver_same e = let k = receiver_known e in ap (spliced ws 0) (receiver_part_same e) ∙ spliced_front ws 7 (omega arith)

  pub sender_same : sender_fits ws ≡ true → with_sender ws (sender_in ws) ≡ ws
  sender_same e = let k = sender_known e in ap (spliced ws 7) (sender_part_same e) ∙ spliced_rest ws 7 (omega arith)

  pub stream_same : fits ws ≡ true → stored (loaded ws) ≡ ws
  unfolding stored loaded
  stream_same e = rw (receiver_part_same (both_fit e).0, sender_part_same (both_fit e).1) (take-append-drop 7 ws)

-- ---- values, stored and loaded
module _ (ws : List ℕ) (l : length ws ≡ 20) where
  module _ (r : Receiver) (small : ReceiverSmall r) where
    receiver_part_lem : receiver_part (with_receiver ws r) ≡ receiver_words r
    receiver_part_lem = front_spliced ws (receiver_words r) 7 (length_receiver r)

    pub receiver_loaded : receiver_in (with_receiver ws r) ≡ r
    receiver_loaded = ap receiver_of receiver_part_lem ∙ receiver_back r small

    pub receiver_taken : receiver_fits (with_receiver ws r) ≡ true
    receiver_taken =
        let k : length (with_receiver ws r) ≡ 20 = length_spliced ws 0 (receiver_words r) (omega (arith, length_receiver r)) ∙ l in
        sym (receiver_long (with_receiver ws r) k) ∙ ap receiver_holds receiver_part_lem ∙ receiver_holds_lem r small

  module _ (s : Sender) (small : SenderSmall s) where
    sender_part_lem : sender_part (with_sender ws s) ≡ sender_words s
    sender_part_lem =
        let k = length_sender s in
        rest_spliced ws (sender_words s) 7 (omega arith) (omega arith)

    pub sender_loaded : sender_in (with_sender ws s) ≡ s
    sender_loaded = ap sender_of sender_part_lem ∙ sender_back s small

    pub sender_taken : sender_fits (with_sender ws s) ≡ true
    sender_taken =
        let k = length_sender s in
        let m : length (with_sender ws s) ≡ 20 = length_spliced ws 7 (sender_words s) (omega arith) ∙ l in
        sym (sender_long (with_sender ws s) m) ∙ ap sender_holds sender_part_lem ∙ sender_holds_lem s small

module _ (d : DataStream) (receiver : ReceiverSmall d.receiver) (sender : SenderSmall d.sender) where
  abbrev front : List ℕ
  front = receiver_words d.receiver

  abbrev rest : List ℕ
  rest = sender_words d.sender

  front_part : take 7 (front ++ rest) ≡ front
  front_part = take_at front rest 7 (length_receiver d.receiver)

  rest_part : drop 7 (front ++ rest) ≡ rest
  rest_part = drop_at front rest 7 (length_receiver d.receiver)

  pub stream_loaded : loaded (stored d) ≡ d
  unfolding loaded stored
  stream_loaded = rw (front_part, rest_part, receiver_back d.receiver receiver, sender_back d.sender sender)

  pub stream_taken : fits (stored d) ≡ true
  unfolding fits stored
  stream_taken =
      let k = length_sender d.sender in
      let l : length (front ++ rest) ≡ 20 = simp length-append (omega (arith, length_receiver d.receiver)) in
      let one : receiver_fits (front ++ rest) ≡ true = sym (receiver_long (front ++ rest) l) ∙ ap receiver_holds front_part ∙ receiver_holds_lem d.receiver receiver in
      let two : sender_fits (front ++ rest) ≡ true = sym (sender_long (front ++ rest) l) ∙ ap sender_holds rest_part ∙ sender_holds_lem d.sender sender in
      rw (one, two)

-- ---- what the code stores
-- the words of the requests
requests_stay : (ws : List ℕ) → sender_fits ws ≡ true → request_words 8 (sender_in ws).queue.items ≡ drop 12 ws
unfolding sender_of
requests_stay ws e =
    let k = sender_known ws e in
    words_requests 8 (drop 5 (drop 7 ws)) (omega (arith, length-drop 5 (drop 7 ws), length-drop 7 ws)) ∙ drop-drop 5 7 ws

drop_spliced_at : (ws : List ℕ) (i k : ℕ) (xs : List ℕ) → i + length xs ≡ k → k ≤ length ws → drop k (spliced ws i xs) ≡ drop k ws
drop_spliced_at ws i k xs e h = rw (← e) (drop_spliced ws i xs (omega arith))

pub receiver_length : (ws : List ℕ) (r : Receiver) → length ws ≡ 20 → length (with_receiver ws r) ≡ 20
receiver_length ws r e = length_spliced ws 0 (receiver_words r) (omega (arith, length_receiver r)) ∙ e

pub figures_length : (ws next new : List ℕ) (s : Sender) → length ws ≡ 20 → new ≡ figure_words s → next ≡ spliced ws 7 new → length next ≡ 20
figures_length ws next new s l e f = ap length f ∙ length_spliced ws 7 new (omega (arith, ap length e, length_figures s)) ∙ l

-- a sender's figures, then its requests
pub sender_put : (ws : List ℕ) (s : Sender) → length ws ≡ 20 → spliced (spliced ws 7 (figure_words s)) 12 (request_words 8 s.queue.items) ≡ with_sender ws s
unfolding sender_words
sender_put ws s l =
    let f = length_figures s in
    let k = length_words 8 s.queue.items in
    spliced_append ws 7 12 (figure_words s) (request_words 8 s.queue.items) (omega arith) (omega arith)

-- a sender whose requests are those of the words
pub figures_put : (ws : List ℕ) (s : Sender) → sender_fits ws ≡ true → s.queue.items ≡ (sender_in ws).queue.items → spliced ws 7 (figure_words s) ≡ with_sender ws s
figures_put ws s e i =
    let k = sender_known ws e in
    let f = length_figures s in
    let same : request_words 8 s.queue.items ≡ drop 12 ws = ap (request_words 8) i ∙ requests_stay ws e in
    let stays : drop 12 (spliced ws 7 (figure_words s)) ≡ drop 12 ws = drop_spliced_at ws 7 12 (figure_words s) (omega arith) (omega arith) in
    let l : length (spliced ws 7 (figure_words s)) ≡ 20 = length_spliced ws 7 (figure_words s) (omega arith) ∙ k.0 in
    sym (spliced_rest (spliced ws 7 (figure_words s)) 12 (omega arith))
    ∙ ap (spliced (spliced ws 7 (figure_words s)) 12) (stays ∙ sym same)
    ∙ sender_put ws s k.0

-- both ends' words are all
pub stream_put : (ws : List ℕ) (d : DataStream) → length ws ≡ 20 → with_sender (with_receiver ws d.receiver) d.sender ≡ stored d
unfolding stored
stream_put ws d l =
    let f = length_receiver d.receiver in
    let k = length_sender d.sender in
    let m : length (receiver_words d.receiver ++ sender_words d.sender) ≡ 20 = simp length-append (omega arith) in
    spliced_append ws 0 7 (receiver_words d.receiver) (sender_words d.sender) (omega arith) (omega arith)
    ∙ spliced_whole ws (receiver_words d.receiver ++ sender_words d.sender) (l ∙ sym m)
