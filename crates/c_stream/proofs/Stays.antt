-- What a call leaves of a stream's words as it was, and the answers of calls that are made on the words.
use mathlib.Core.Path.{◌≡◌, ap, sym, ◌∙◌}
use Rattle.std.proofs.Common.{Option, Result}
use Rattle.config.specs.declared.refusal.Refusal.{Refusal}
use Rattle.receiver.specs.declared.receiver.Delivery.{Delivery}
use Rattle.receiver.specs.declared.receiver.ReceiverAnswer.{ReceiverAnswer}
use Rattle.sender.specs.declared.sender.SenderAnswer.{SenderAnswer}
use Rattle.std.specs.Bool.{⊤}
use mathlib.Core.Bool.{false}
use mathlib.Core.List.{List}
use Prim.Native.Nat.{ℕ}
use Rattle.config.specs.declared.settings.StreamConfig.{StreamConfig}
use Rattle.packet.specs.declared.writer.PayloadWriter.{PayloadWriter}
use Rattle.history.specs.declared.queue.RetransmitQueue.{RetransmitQueue}
use Rattle.receiver.specs.Answers as receiver
use Rattle.receiver.specs.declared.receiver.StreamEvent.{StreamEvent}
use Rattle.sender.specs.Answers as sender
use Rattle.sender.specs.declared.sender.Sender.{Sender}
use Rattle.stream.specs.Ends.{data_answer, poll_answer}
use Rattle.stream.specs.Writing.{write_answer}
use Rattle.stream.specs.declared.stream.DataStream.{DataStream}
use Rattle.stream.specs.declared.stream.Wrote.{Wrote}
use Rattle.c_answers.specs.Answers.{delivery_of, event_of, event_refused}
use Rattle.c_answers.specs.declared.answers.CDelivery.{CDelivery}
use Rattle.c_answers.specs.declared.answers.CEvent.{CEvent}
use Rattle.c_words.specs.Settings.{settings_of}
use Rattle.c_state.specs.Stream.{receiver_in, sender_in, loaded, with_receiver}
use Rattle.c_state.specs.Receiving.{heard_into, told_into}
use Rattle.c_state.proofs.Unchanged.{send_queue, write_receiver}

-- ---- what stays
module _ (st : List ℕ) where
  pub send_items : (s : Sender) → s ≡ sender_in st → (cfg : StreamConfig) (ring ws : List ℕ) (e : SenderAnswer ⊤) (after : List ℕ) → (e, after) ≡ sender.send_answer s cfg ring ws
      → e.sender.queue.items ≡ (sender_in st).queue.items
  send_items s from cfg ring ws e after q =
      ap (λ (x : SenderAnswer ⊤ × List ℕ). x.0.sender.queue.items) q
      ∙ ap (λ (x : RetransmitQueue). x.items) (send_queue s ring cfg ws)
      ∙ ap (λ (x : Sender). x.queue.items) from

  pub write_stays : (d : DataStream) → d ≡ loaded st → (cfg : StreamConfig) (time : ℕ) (p : PayloadWriter) (b ring : List ℕ) (e : Wrote) (bytes after : List ℕ)
      → (e, bytes, after) ≡ write_answer d cfg time p b ring → d.receiver.request_due ≡ false → e.stream.receiver ≡ receiver_in st
  unfolding loaded
  write_stays d from cfg time p b ring e bytes after q early =
      ap (λ (x : Wrote × List ℕ × List ℕ). x.0.stream.receiver) q
      ∙ write_receiver d early cfg time p b ring
      ∙ ap (λ (x : DataStream). x.receiver) from

-- ---- a receiver's answer on its words
module _ (st cfg : List ℕ) (time : ℕ) (s : StreamConfig) (after : List ℕ) (es : s ≡ settings_of cfg) where
  abbrev heard : ReceiverAnswer Delivery → CDelivery × List ℕ
  heard e = (delivery_of e.answer, with_receiver st e.receiver)

  abbrev told : ReceiverAnswer (Option StreamEvent) → CEvent × List ℕ
  told e = (event_of e.answer, with_receiver st e.receiver)

  pub heard_out : (seq : ℕ) (h : Result Delivery Refusal) (r : CDelivery) → (h, after) ≡ heard_into st (receiver.data_answer (receiver_in st) s time seq) → r ≡ delivery_of h
      → let e = data_answer (loaded st) (settings_of cfg) time seq in ◌≡◌ {A = CDelivery × List ℕ} (r, after) (delivery_of e.answer, with_receiver st e.stream.receiver)
  unfolding data_answer loaded
  heard_out seq h r eh er =
      ap (λ (x : CDelivery). (x, after)) er
      ∙ ap (λ (x : Result Delivery Refusal × List ℕ). (delivery_of x.0, x.1)) eh
      ∙ ap (λ (x : StreamConfig). heard (receiver.data_answer (receiver_in st) x time seq)) es

  pub told_out : (t : Result (Option StreamEvent) Refusal) (r : CEvent) → (t, after) ≡ told_into st (receiver.poll_answer (receiver_in st) s time) → r ≡ event_of t
      → let e = poll_answer (loaded st) (settings_of cfg) time in ◌≡◌ {A = CEvent × List ℕ} (r, after) (event_of e.answer, with_receiver st e.stream.receiver)
  unfolding poll_answer loaded
  told_out t r et er =
      ap (λ (x : CEvent). (x, after)) er
      ∙ ap (λ (x : Result (Option StreamEvent) Refusal × List ℕ). (event_of x.0, x.1)) et
      ∙ ap (λ (x : StreamConfig). told (receiver.poll_answer (receiver_in st) x time)) es

-- ---- an answer that is told again
module _ {whole : CEvent × List ℕ} {after : List ℕ} {inner : CEvent} (made : (inner, after) ≡ whole) where
  pub told_again : (e : CEvent) → e ≡ inner → ◌≡◌ {A = CEvent × List ℕ} (e, after) whole
  told_again e ee = ap (λ (x : CEvent). (x, after)) ee ∙ made

  -- by its number alone
  pub refused_again : (st : List ℕ) (n : ℕ) → (event_refused n, st) ≡ whole → (u e : CEvent) → u ≡ inner → e ≡ event_refused u.refusal → ◌≡◌ {A = CEvent × List ℕ} (e, after) whole
  refused_again st n refused u e eu ee =
      ap (λ (x : CEvent). (x, after)) (ee ∙ ap (λ (x : CEvent). event_refused x.refusal) eu)
      ∙ ap (λ (x : CEvent × List ℕ). (event_refused x.0.refusal, x.1)) (made ∙ sym refused)
      ∙ refused
